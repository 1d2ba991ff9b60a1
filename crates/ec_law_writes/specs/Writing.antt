-- What a brick has written for a turn as it does the turn's PostOp: all changes that the turn's call sent it.
use Rattle.std.specs.Prelude.{◌≡◌, ℕ, Bool, true, Option, Some, None, List, [], ◌∷◌, ◌++◌}
use Rattle.ec_attr.specs.declared.geometry.Geometry.{Geometry}
use Rattle.ec_attr.specs.declared.head.Head.{Head}
use Rattle.ec_conduct.specs.Account.{at}
use Rattle.ec_conduct.specs.Changes.{IsAllOf}
use Rattle.ec_conduct.specs.Given.{Given}
use Rattle.ec_conduct.specs.Opened.{account}
use Rattle.ec_conduct.specs.Own.{Own, Sends}
use Rattle.ec_conduct.specs.Standing.{changes_at, group_of}
use Rattle.ec_history.specs.Accounts.{Books, Leaving, booked}
use Rattle.ec_history.specs.Run.{Net, after}
use Rattle.ec_history.specs.Story.{Story, told}
use Rattle.ec_wire.specs.declared.entry.Entry.{Entry}
use Rattle.ec_wire.specs.declared.entry.Entry.TheVariants.{Executed}
use Rattle.ec_wire.specs.declared.message.Body.{Body}
use Rattle.ec_wire.specs.declared.message.Body.TheVariants.{ToBrick, ToClient}
use Rattle.ec_wire.specs.declared.message.Message.{Message}
use Rattle.ec_wire.specs.declared.request.Request.{Request}
use Rattle.ec_law_pieces.specs.File.{File}
use Rattle.ec_law_net.specs.Turns.{View, seen_after}
use Rattle.ec_law_data.specs.Deeds.{file_after, is_post_on}
use Rattle.ec_law_data.specs.Reading.{Plans, Reading}

module _ {P V C U S : Type 0} (R : Reading P V C U S) where
  -- brick b has written for turn a every place that each of these requests writes
  abbrev pub AreWritten : ℕ → File P V C U S → ℕ → ℕ → List Request → Type 0
  AreWritten g f a b [] = Unit {0}
  AreWritten g f a b (q ∷ qs) = ((p : P) → R.is_write g q ≡ true → R.writes g q p ≡ true → f.wrote a b p ≡ true) × AreWritten g f a b qs

  -- Brick `brick` has written for turn a all that the commit of this call on the gfid is made of: the changes that the call had sent it
  -- since the PreOp, by the account of the call as it sent the PostOp, which is message i.
  pub record HasWritten (g : ℕ) (b : Books) (f : File P V C U S) (a call brick i : ℕ) (post : Request) : Type 0 where
    pub given : Given
    pub made : b.given call ≡ Some given
    pub front : List Own
    pub back : List Own
    pub own_is : b.own call ≡ front ++ Sends brick i post ∷ back
    pub head : Head
    pub group : group_of (account given front) g ≡ Some head
    pub all : IsAllOf (account given front) g head given.op (changes_at (at (account given front) g brick))
    pub written : AreWritten g f a brick (changes_at (at (account given front) g brick))

  -- where a brick executes a PostOp
  abbrev pub BodyWrites : ℕ → Net → View → Books → File P V C U S → Message → Body → Option ℕ → Bool → Type 0
  BodyWrites g m v b f msg (ToBrick q) version failed = is_post_on g q ≡ true → HasWritten g b f (v.of msg.no) msg.call msg.brick msg.no q
  BodyWrites g m v b f msg (ToClient re reply) version failed = Unit {0}

  abbrev pub MessageWrites : ℕ → Net → View → Books → File P V C U S → Option Message → Option ℕ → Bool → Type 0
  MessageWrites g m v b f None version failed = Unit {0}
  MessageWrites g m v b f (Some msg) version failed = BodyWrites g m v b f msg msg.body version failed

  abbrev pub EntryWrites : ℕ → Net → View → Books → File P V C U S → Entry → Type 0
  EntryWrites g m v b f (Executed i version failed) = MessageWrites g m v b f (m.said i) version failed
  EntryWrites g m v b f e = Unit {0}

  -- each entry of a log, whatever the plans are
  abbrev pub AllWrite : Plans P V U S → Geometry → (ℕ → Leaving) → ℕ → ℕ → ℕ → List Entry → Net → View → Story → Books → File P V C U S → Type 0
  AllWrite plans geometry left n k g [] m v t b f = Unit {0}
  AllWrite plans geometry left n k g (e ∷ es) m v t b f = EntryWrites g m v b f e × AllWrite plans geometry left n k g es (after m e) (seen_after g m v e) (told geometry m t e) (booked geometry left m t b e) (file_after R plans n k g m v f e)
