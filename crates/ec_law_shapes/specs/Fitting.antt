-- What is asked of the plans of turns, entry by entry, and of the gfids that are made.
use Rattle.std.specs.Prelude.{◌≡◌, ℕ, true, false, ◌||◌, Option, Some, None}
use Rattle.ec_attr.specs.Head.{new_attr}
use Rattle.ec_attr.specs.declared.head.Head.{Head}
use Rattle.ec_conduct.specs.Given.{Given}
use Rattle.ec_conduct.specs.Opened.{account}
use Rattle.ec_conduct.specs.Standing.{group_of}
use Rattle.ec_history.specs.Accounts.{Books}
use Rattle.ec_history.specs.Run.{Net}
use Rattle.ec_wire.specs.declared.entry.Entry.{Entry}
use Rattle.ec_wire.specs.declared.entry.Entry.TheVariants.{Executed, Sent}
use Rattle.ec_wire.specs.declared.message.Body.{Body}
use Rattle.ec_wire.specs.declared.message.Body.TheVariants.{ToBrick, ToClient}
use Rattle.ec_wire.specs.declared.message.Message.{Message}
use Rattle.ec_wire.specs.declared.request.Request.{Request}
use Rattle.ec_wire.specs.declared.request.Request.TheVariants.{Make, PreOp}
use Rattle.ec_law_pieces.specs.Deed.{Deed}
use Rattle.ec_law_pieces.specs.Deed.Deed.{Create, Take}
use Rattle.ec_law_pieces.specs.File.{File, Form}
use Rattle.ec_law_data.specs.Deeds.{is_post_on}
use Rattle.ec_law_data.specs.Forms.{Shape}
use Rattle.ec_law_data.specs.Owing.{Owes}
use Rattle.ec_law_data.specs.Reading.{Plans, Reading}
use Rattle.ec_law_pieces.specs.Deed.{step}
use Rattle.std.specs.Prelude.{List, [], ◌∷◌}
use Rattle.ec_law_net.specs.Turns.{View, turn_of}
use Rattle.ec_law_shapes.specs.Shapes.{head_shape, shape_after}

-- the shape of a group that a call has, by its account
abbrev pub IsOfGroup : Books → ℕ → ℕ → (Given → Head → Type 0) → Type 0
IsOfGroup b a g P = (given : Given) (head : Head) → b.given a ≡ Some given → group_of (account given (b.own a)) g ≡ Some head → P given head

module _ {P V C U : Type 0} (R : Reading P V C U Shape) (plans : Plans P V U Shape) (g : ℕ) where
  -- Where a turn takes its ballot, the plans have the shape of its call's group for it.
  abbrev pub TookFits : View → Books → Message → Request → Type 0
  TookFits v b msg (PreOp x n at number) = x.0 ≡ g → (v.core.ballot (turn_of g v msg)).number ≡ 0 → IsOfGroup b msg.call g (λ given head. plans.took (turn_of g v msg) ≡ head_shape head)
  TookFits v b msg q = Unit {0}

  -- Where it plans its commit, the plan becomes what its call makes of that shape.
  abbrev pub PlanFits : View → Books → File P V C U Shape → Message → Request → Type 0
  PlanFits v b f msg q = (R.is_write g q || is_post_on g q) ≡ true → f.planned (turn_of g v msg) ≡ false → IsOfGroup b msg.call g (λ given head. (plans.plan (turn_of g v msg)).becomes ≡ shape_after given.op (head_shape head))

  -- A gfid is made as one of the kind by which it is read.
  abbrev pub ChildFits : Request → Type 0
  ChildFits (Make x n child) = child.gfid.0 ≡ g → R.new ≡ record { size = 0; attr = new_attr child.kind }
  ChildFits q = Unit {0}

  abbrev pub SentFits : View → Books → File P V C U Shape → Message → Body → Type 0
  SentFits v b f msg (ToBrick q) = TookFits v b msg q × PlanFits v b f msg q
  SentFits v b f msg (ToClient re reply) = Unit {0}

  abbrev pub BodyFits : Body → Type 0
  BodyFits (ToBrick q) = ChildFits q
  BodyFits (ToClient re reply) = Unit {0}

  abbrev pub MessageFits : Option Message → Type 0
  MessageFits None = Unit {0}
  MessageFits (Some msg) = BodyFits msg.body

  -- what is asked at one entry
  abbrev pub EntryFits : Net → View → Books → File P V C U Shape → Entry → Type 0
  EntryFits m v b f (Sent msg) = SentFits v b f msg msg.body
  EntryFits m v b f (Executed i version failed) = MessageFits (m.said i)
  EntryFits m v b f e = Unit {0}

-- What a Take and a Create owe; other deeds owe nothing of shapes.
module _ {P V C U S : Type 0} (form : Form P V C U S) (n k : ℕ) where
  abbrev pub OwesShape : File P V C U S → Deed P V C U S → Type 0
  OwesShape f (Take a p shape) = Owes form n k f (Take a p shape)
  OwesShape f (Create b shape) = Owes form n k f (Create b shape)
  OwesShape f d = Unit {0}

  abbrev pub AllOweShape : List (Deed P V C U S) → File P V C U S → Type 0
  AllOweShape [] f = Unit {0}
  AllOweShape (d ∷ ds) f = OwesShape f d × AllOweShape ds (step form n k f d)
