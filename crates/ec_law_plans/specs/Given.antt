-- What is taken of a log besides the conduct, entry by entry, until other crates show it: of writes, and of shapes.
use Rattle.std.specs.Prelude.{◌≡◌, ℕ, ◌<◌, Bool, true, false, ◌||◌, ◌==◌, Option, Some, None, List, [], ◌∷◌, ◌++◌}
use Rattle.ec_attr.specs.Head.{new_attr}
use Rattle.ec_attr.specs.declared.config.Config.{Config}
use Rattle.ec_attr.specs.declared.geometry.Geometry.{Geometry}
use Rattle.ec_attr.specs.declared.head.Head.{Head}
use Rattle.ec_attr.specs.declared.kind.Kind.TheVariants.{Dir}
use Rattle.ec_brick.specs.State.{State as Brick}
use Rattle.ec_conduct.specs.Account.{at}
use Rattle.ec_conduct.specs.Changes.{IsAllOf}
use Rattle.ec_conduct.specs.Given.{Given, quorum}
use Rattle.ec_conduct.specs.Opened.{account}
use Rattle.ec_conduct.specs.Own.{Own}
use Rattle.ec_conduct.specs.Standing.{changes_at, group_of}
use Rattle.ec_history.specs.Accounts.{Books, Leaving, booked, books, no_books}
use Rattle.ec_history.specs.Flat.{Tree}
use Rattle.ec_history.specs.IsRun.{IsRun}
use Rattle.ec_history.specs.Run.{Net, after, fresh, out_of, run}
use Rattle.ec_history.specs.Starts.{IsStart}
use Rattle.ec_history.specs.Story.{Story, is_done, opening, told}
use Rattle.ec_store.specs.Records.{Records}
use Rattle.ec_wire.specs.declared.entry.Entry.{Entry}
use Rattle.ec_wire.specs.declared.entry.Entry.TheVariants.{Executed, Sent}
use Rattle.ec_wire.specs.declared.message.Body.{Body}
use Rattle.ec_wire.specs.declared.message.Body.TheVariants.{ToBrick, ToClient}
use Rattle.ec_wire.specs.declared.message.Message.{Message}
use Rattle.ec_wire.specs.declared.request.Request.{Request}
use Rattle.ec_wire.specs.declared.request.Request.TheVariants.{Make, NameSet, PreOp}
use Rattle.ec_law_base.specs.State.{State}
use Rattle.ec_law_ballots.specs.Guard.{Holds}
use Rattle.ec_law_ballots.specs.Words.{did, met}
use Rattle.ec_law_pieces.specs.Deed.{Deed, step}
use Rattle.ec_law_pieces.specs.Deed.Deed.{Create, Take}
use Rattle.ec_law_pieces.specs.File.{File, Form}
use Rattle.ec_law_net.specs.Turns.{View, seen_after, turn_of, view}
use Rattle.ec_law_turns.specs.Laws.{Always}
use Rattle.ec_law_turns.specs.Orderly.{ArePlain, IsOrderly}
use Rattle.ec_law_data.specs.Deeds.{deeds, file, file_after, is_post_on}
use Rattle.ec_law_data.specs.Forms.{Shape, of_directory}
use Rattle.ec_law_data.specs.Laws.{begun, directory_begun}
use Rattle.ec_law_data.specs.Owing.{Owes}
use Rattle.ec_law_data.specs.Reading.{Plans, Reading}
use Rattle.ec_law_plans.specs.Extend.{OweNothing}
use Rattle.ec_law_plans.specs.Naming.{NameFile, NamePlans, head_shape, shape_after}
use Rattle.ec_law_parts.specs.LeavesOff.{DataBeforePosts}

-- ## Messages

-- each request that the log sends is as P says
abbrev pub BodyIs : (Request → Type 0) → Body → Type 0
BodyIs P (ToBrick q) = P q
BodyIs P (ToClient re reply) = Unit {0}

abbrev pub EntryIs : (Request → Type 0) → Entry → Type 0
EntryIs P (Sent msg) = BodyIs P msg.body
EntryIs P e = Unit {0}

abbrev pub EachRequest : (Request → Type 0) → List Entry → Type 0
EachRequest P [] = Unit {0}
EachRequest P (e ∷ es) = EntryIs P e × EachRequest P es

-- gfid g is made as a directory, where the request makes it
abbrev pub MakesDirectory : ℕ → Request → Type 0
MakesDirectory g (Make x n child) = child.gfid.0 ≡ g → child.kind ≡ Dir
MakesDirectory g q = Unit {0}

-- ## Writes

-- Turn a may change names at brick b, whose record may be marked or not: it holds the brick, has met its record, which stands at the
-- base of the turn's ballot, and none of its PostOps was done there.
pub record IsGuarded (s : State) (a b : ℕ) : Type 0 where
  pub before : did s a b ≡ false
  pub holds : Holds s a b
  pub present : s.present b ≡ true
  pub version : s.version b ≡ (s.ballot a).base
  pub number : 0 < (s.ballot a).number
  pub met : met s a b ≡ true

-- so it is where a NameSet is done
abbrev pub BodyGuarded : ℕ → Net → View → Message → Body → Option ℕ → Bool → Type 0
BodyGuarded g m v msg (ToBrick (NameSet x n name child)) version false = (x.0 == g) ≡ true → is_done (out_of m msg (NameSet x n name child) version false).says ≡ true → IsGuarded v.core (v.of msg.no) msg.brick
BodyGuarded g m v msg body version failed = Unit {0}

abbrev pub MessageGuarded : ℕ → Net → View → Option Message → Option ℕ → Bool → Type 0
MessageGuarded g m v None version failed = Unit {0}
MessageGuarded g m v (Some msg) version failed = BodyGuarded g m v msg msg.body version failed

abbrev pub EntryGuarded : ℕ → Net → View → Entry → Type 0
EntryGuarded g m v (Executed i version failed) = MessageGuarded g m v (m.said i) version failed
EntryGuarded g m v e = Unit {0}

abbrev pub AllGuarded : ℕ → List Entry → Net → View → Type 0
AllGuarded g [] m v = Unit {0}
AllGuarded g (e ∷ es) m v = EntryGuarded g m v e × AllGuarded g es (after m e) (seen_after g m v e)

module _ {P V C U S : Type 0} (R : Reading P V C U S) where
  -- brick b has written for turn a every place that each of these requests writes
  abbrev pub AreWritten : ℕ → File P V C U S → ℕ → ℕ → List Request → Type 0
  AreWritten g f a b [] = Unit {0}
  AreWritten g f a b (q ∷ qs) = ((p : P) → R.is_write g q ≡ true → R.writes g q p ≡ true → f.wrote a b p ≡ true) × AreWritten g f a b qs

  -- Brick `brick` has written for turn a all that the commit of this call on the gfid is made of: the changes that the call had sent
  -- it since the PreOp, by the account of the call as it sent the PostOp.
  pub record HasWritten (g : ℕ) (b : Books) (f : File P V C U S) (a call brick : ℕ) : Type 0 where
    pub given : Given
    pub made : b.given call ≡ Some given
    pub own : List Own
    pub head : Head
    pub all : IsAllOf (account given own) g head given.op (changes_at (at (account given own) g brick))
    pub written : AreWritten g f a brick (changes_at (at (account given own) g brick))

  -- where a PostOp is done
  abbrev pub BodyWrites : ℕ → Net → View → Books → File P V C U S → Message → Body → Option ℕ → Bool → Type 0
  BodyWrites g m v b f msg (ToBrick q) version failed = is_post_on g q ≡ true → is_done (out_of m msg q version failed).says ≡ true → HasWritten g b f (v.of msg.no) msg.call msg.brick
  BodyWrites g m v b f msg (ToClient re reply) version failed = Unit {0}

  abbrev pub MessageWrites : ℕ → Net → View → Books → File P V C U S → Option Message → Option ℕ → Bool → Type 0
  MessageWrites g m v b f None version failed = Unit {0}
  MessageWrites g m v b f (Some msg) version failed = BodyWrites g m v b f msg msg.body version failed

  abbrev pub EntryWrites : ℕ → Net → View → Books → File P V C U S → Entry → Type 0
  EntryWrites g m v b f (Executed i version failed) = MessageWrites g m v b f (m.said i) version failed
  EntryWrites g m v b f e = Unit {0}

  abbrev pub AllWrite : Plans P V U S → Geometry → (ℕ → Leaving) → ℕ → ℕ → ℕ → List Entry → Net → View → Story → Books → File P V C U S → Type 0
  AllWrite plans geometry left n k g [] m v t b f = Unit {0}
  AllWrite plans geometry left n k g (e ∷ es) m v t b f = EntryWrites g m v b f e × AllWrite plans geometry left n k g es (after m e) (seen_after g m v e) (told geometry m t e) (booked geometry left m t b e) (file_after R plans n k g m v f e)

-- In every log that begins with bricks that stand for a tree, in which the calls are plain and keep the conduct in order, and each
-- request of a call that changes data was sent before each of its PostOps.
pub record WriteLaws : Type 0 where
  -- what a brick sets it sets for a turn that may
  pub guarded : (config : Config) (records : ℕ → Records) (bricks : ℕ → Brick) (tree : Tree) (next g : ℕ) (es : List Entry)
      → IsStart config records bricks tree next
      → IsRun config.geometry.n es (fresh bricks)
      → ArePlain es
      → IsOrderly config.geometry es (fresh bricks) (opening tree next)
      → Always DataBeforePosts g es (fresh bricks) (begun config records tree next g)
      → AllGuarded g es (fresh bricks) (begun config records tree next g)
  -- and a brick that does a PostOp has written all that the commit is made of, whatever the plans are
  pub written : (plans : NamePlans) (config : Config) (records : ℕ → Records) (bricks : ℕ → Brick) (tree : Tree) (next g : ℕ) (es : List Entry) (f : NameFile)
      → IsStart config records bricks tree next
      → IsRun config.geometry.n es (fresh bricks)
      → ArePlain es
      → (orderly : IsOrderly config.geometry es (fresh bricks) (opening tree next))
      → Always DataBeforePosts g es (fresh bricks) (begun config records tree next g)
      → AllWrite of_directory plans config.geometry orderly.left config.geometry.n (quorum config.geometry) g es (fresh bricks) (begun config records tree next g) (opening tree next) no_books f

-- ## Shapes

-- the shape of a group that a call has, by its account
abbrev pub IsOfGroup : Books → ℕ → ℕ → (Given → Head → Type 0) → Type 0
IsOfGroup b a g P = (given : Given) (head : Head) → b.given a ≡ Some given → group_of (account given (b.own a)) g ≡ Some head → P given head

module _ {P V C U : Type 0} (R : Reading P V C U Shape) (plans : Plans P V U Shape) (g : ℕ) where
  -- Where a turn takes its ballot, the plans have the shape of its call's group for it.
  abbrev pub TookFits : View → Books → Message → Request → Type 0
  TookFits v b msg (PreOp x n at number) = x.0 ≡ g → (v.core.ballot (turn_of g v msg)).number ≡ 0 → IsOfGroup b msg.call g (λ given head. plans.took (turn_of g v msg) ≡ head_shape head)
  TookFits v b msg q = Unit {0}

  -- Where it plans its commit, the plan becomes what its call makes of that shape.
  abbrev pub PlanFits : View → Books → File P V C U Shape → Message → Request → Type 0
  PlanFits v b f msg q = (R.is_write g q || is_post_on g q) ≡ true → f.planned (turn_of g v msg) ≡ false → IsOfGroup b msg.call g (λ given head. (plans.plan (turn_of g v msg)).becomes ≡ shape_after given.op (head_shape head))

  -- A gfid is made as one of the kind by which it is read.
  abbrev pub ChildFits : Request → Type 0
  ChildFits (Make x n child) = child.gfid.0 ≡ g → R.new ≡ record { size = 0; attr = new_attr child.kind }
  ChildFits q = Unit {0}

  abbrev pub SentFits : View → Books → File P V C U Shape → Message → Body → Type 0
  SentFits v b f msg (ToBrick q) = TookFits v b msg q × PlanFits v b f msg q
  SentFits v b f msg (ToClient re reply) = Unit {0}

  abbrev pub BodyFits : Body → Type 0
  BodyFits (ToBrick q) = ChildFits q
  BodyFits (ToClient re reply) = Unit {0}

  abbrev pub MessageFits : Option Message → Type 0
  MessageFits None = Unit {0}
  MessageFits (Some msg) = BodyFits msg.body

  -- what is asked of the plans at one entry
  abbrev pub EntryFits : Net → View → Books → File P V C U Shape → Entry → Type 0
  EntryFits m v b f (Sent msg) = SentFits v b f msg msg.body
  EntryFits m v b f (Executed i version failed) = MessageFits (m.said i)
  EntryFits m v b f e = Unit {0}

  -- at each entry of a log
  abbrev pub AllFit : ℕ → ℕ → Geometry → (ℕ → Leaving) → List Entry → Net → View → Story → Books → File P V C U Shape → Type 0
  AllFit n k geometry left [] m v t b f = Unit {0}
  AllFit n k geometry left (e ∷ es) m v t b f = EntryFits m v b f e × AllFit n k geometry left es (after m e) (seen_after g m v e) (told geometry m t e) (booked geometry left m t b e) (file_after R plans n k g m v f e)

-- what a Take and a Create owe; other deeds owe nothing of shapes
module _ {P V C U S : Type 0} (form : Form P V C U S) (n k : ℕ) where
  abbrev pub OwesShape : File P V C U S → Deed P V C U S → Type 0
  OwesShape f (Take a p shape) = Owes form n k f (Take a p shape)
  OwesShape f (Create b shape) = Owes form n k f (Create b shape)
  OwesShape f d = Unit {0}

  abbrev pub AllOweShape : List (Deed P V C U S) → File P V C U S → Type 0
  AllOweShape [] f = Unit {0}
  AllOweShape (d ∷ ds) f = OwesShape f d × AllOweShape ds (step form n k f d)

-- In every such log: where the plans of a directory have fitted at each entry up to one and owe nothing before it, its Takes and
-- Creates owe nothing.
abbrev pub ShapeLaw : Type 0
ShapeLaw =
    (plans : NamePlans) (config : Config) (records : ℕ → Records) (bricks : ℕ → Brick) (tree : Tree) (next g : ℕ) (all es : List Entry) (e : Entry) (rest : List Entry) → all ≡ es ++ e ∷ rest
    → IsStart config records bricks tree next
    → IsRun config.geometry.n all (fresh bricks)
    → ArePlain all
    → (orderly : IsOrderly config.geometry all (fresh bricks) (opening tree next))
    → OweNothing of_directory config.geometry.n (quorum config.geometry) g (fresh bricks) (begun config records tree next g) (directory_begun config records tree g) plans es
    → AllFit of_directory plans g config.geometry.n (quorum config.geometry) config.geometry orderly.left es (fresh bricks) (begun config records tree next g) (opening tree next) no_books (directory_begun config records tree g)
    → EntryFits of_directory plans g (run es (fresh bricks)) (view g es (fresh bricks) (begun config records tree next g)) (books config.geometry orderly.left es (fresh bricks) (opening tree next) no_books) (file of_directory plans config.geometry.n (quorum config.geometry) g es (fresh bricks) (begun config records tree next g) (directory_begun config records tree g)) e
    → AllOweShape of_directory.form config.geometry.n (quorum config.geometry) (deeds of_directory plans config.geometry.n (quorum config.geometry) g (run es (fresh bricks)) (view g es (fresh bricks) (begun config records tree next g)) (file of_directory plans config.geometry.n (quorum config.geometry) g es (fresh bricks) (begun config records tree next g) (directory_begun config records tree g)) e)
    (file of_directory plans config.geometry.n (quorum config.geometry) g es (fresh bricks) (begun config records tree next g) (directory_begun config records tree g))
