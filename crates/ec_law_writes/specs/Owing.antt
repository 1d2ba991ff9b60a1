-- What the deeds of a log owe of data requests and of PostOps, apart from what its other deeds owe; and what is asked of the plans.
use Rattle.std.specs.Prelude.{◌≡◌, ◌⊎◌, ℕ, true, Some, List, [], ◌∷◌, ◌++◌}
use Rattle.ec_attr.specs.declared.geometry.Geometry.{Geometry}
use Rattle.ec_attr.specs.declared.head.Head.{Head}
use Rattle.ec_conduct.specs.Account.{at}
use Rattle.ec_conduct.specs.Changes.{IsAllOf}
use Rattle.ec_conduct.specs.Given.{Given}
use Rattle.ec_conduct.specs.Opened.{account}
use Rattle.ec_conduct.specs.Own.{Own, Sends}
use Rattle.ec_conduct.specs.Standing.{changes_at, group_of}
use Rattle.ec_history.specs.Accounts.{Books, Leaving, booked}
use Rattle.ec_history.specs.Run.{Net, after}
use Rattle.ec_history.specs.Story.{Story, told}
use Rattle.ec_wire.specs.declared.entry.Entry.{Entry}
use Rattle.ec_wire.specs.declared.message.Body.TheVariants.{ToBrick}
use Rattle.ec_wire.specs.declared.message.Message.{Message}
use Rattle.ec_wire.specs.declared.request.Request.{Request}
use Rattle.ec_law_pieces.specs.Deed.{Deed, step}
use Rattle.ec_law_pieces.specs.Deed.Deed.{Commit, Follow, Tear, Write}
use Rattle.ec_law_pieces.specs.File.{File, Form}
use Rattle.ec_law_net.specs.Turns.{View, seen_after}
use Rattle.ec_law_data.specs.Deeds.{is_post_on}
use Rattle.ec_law_data.specs.Owing.{Owes}
use Rattle.ec_law_data.specs.Reading.{Plans, Reading}

module _ {P V C U S : Type 0} (form : Form P V C U S) (n k : ℕ) where
  -- what data requests and PostOps owe
  abbrev pub OwesWriting : File P V C U S → Deed P V C U S → Type 0
  OwesWriting f (Write a b places) = Owes form n k f (Write a b places)
  OwesWriting f (Tear a b places pieces) = Owes form n k f (Tear a b places pieces)
  OwesWriting f (Commit a b) = Owes form n k f (Commit a b)
  OwesWriting f (Follow a b) = Owes form n k f (Follow a b)
  OwesWriting f d = Unit {0}

  -- what the other deeds owe
  abbrev pub OwesElse : File P V C U S → Deed P V C U S → Type 0
  OwesElse f (Write a b places) = Unit {0}
  OwesElse f (Tear a b places pieces) = Unit {0}
  OwesElse f (Commit a b) = Unit {0}
  OwesElse f (Follow a b) = Unit {0}
  OwesElse f d = Owes form n k f d

  -- each of these deeds, where it comes
  abbrev pub AllOf : (File P V C U S → Deed P V C U S → Type 0) → List (Deed P V C U S) → File P V C U S → Type 0
  AllOf law [] f = Unit {0}
  AllOf law (d ∷ ds) f = law f d × AllOf law ds (step form n k f d)

module _ {P V C U S : Type 0} (R : Reading P V C U S) (plans : Plans P V U S) where
  -- the plan of a turn covers the places of its data requests
  abbrev pub CoverWrites : ℕ → Net → View → Type 0
  CoverWrites g m v = (i : ℕ) (x : Message) (q : Request) (p : P) → m.said i ≡ Some x → x.body ≡ ToBrick q → R.is_write g q ≡ true → R.writes g q p ≡ true → (plans.plan (v.of i)).covers p ≡ true

  -- one of these requests writes the place
  abbrev pub WritesOne : ℕ → List Request → P → Type 0
  WritesOne g [] p = ⊥
  WritesOne g (q ∷ qs) p = ((R.is_write g q ≡ true) × (R.writes g q p ≡ true)) ⊎ WritesOne g qs p

  -- Where a PostOp was sent: each place that its turn's plan covers is written by one of the changes that the commit is made of, by the
  -- account of the call as it sent the PostOp.
  abbrev pub PlansOfChanges : ℕ → Net → View → Books → Type 0
  PlansOfChanges g m v b = (j : ℕ) (x : Message) (q : Request) (given : Given) (front back : List Own) (head : Head)
      → m.said j ≡ Some x
      → x.body ≡ ToBrick q
      → is_post_on g q ≡ true
      → b.given x.call ≡ Some given
      → b.own x.call ≡ front ++ Sends x.brick j q ∷ back
      → group_of (account given front) g ≡ Some head
      → IsAllOf (account given front) g head given.op (changes_at (at (account given front) g x.brick))
      → (p : P) → (plans.plan (v.of j)).covers p ≡ true → WritesOne g (changes_at (at (account given front) g x.brick)) p

-- at the beginning and after each entry, of the calls' own entries too
abbrev pub AlwaysOfCalls : (Net → View → Books → Type 0) → Geometry → (ℕ → Leaving) → ℕ → List Entry → Net → View → Story → Books → Type 0
AlwaysOfCalls law geometry left g [] m v t b = law m v b
AlwaysOfCalls law geometry left g (e ∷ es) m v t b = law m v b × AlwaysOfCalls law geometry left g es (after m e) (seen_after g m v e) (told geometry m t e) (booked geometry left m t b e)
