-- A call that is settled: nothing else was under way as it was made, and the event after it is `settle`.
use Rattle.std.specs.Prelude.{◌≡◌, ◌⊎◌, ℕ, ◌<◌, Bool, false, List, [], ◌∷◌}
use Rattle.std.specs.List.{list_any}
use Rattle.ec_wire.specs.declared.entry.Entry.{Entry}
use Rattle.ec_wire.specs.declared.entry.Entry.TheVariants.{Called, Executed}
use Rattle.ec_wire.specs.declared.event.Event.TheVariants.{Call, Settle}
use Rattle.ec_wire.specs.declared.op.Op.{Op}
use Rattle.ec_history.specs.Run.{Net, run}
use Rattle.ec_history.specs.Script.{IsIdle, IsOfEvent, NoneFly, Step}

-- Nothing is under way at n bricks: no message is in flight, no grant or waiter stands, and no client that lives has an unanswered
-- call.
pub record IsQuiet (n : ℕ) (m : Net) : Type 0 where
  pub none_fly : NoneFly m
  pub unlocked : (b : ℕ) → b < n → (m.brick b).asks ≡ []
  pub idle : (client : ℕ) → IsIdle m client

-- The steps of two events, of a call and of the `settle` after it, which begin where nothing is under way.
pub record IsSettledCall (n : ℕ) (m : Net) (call client : ℕ) (op : Op) (called : Step) (steps : List Step) : Type 0 where
  pub quiet : IsQuiet n m
  pub is : called.named ≡ Called call client op
  pub event : IsOfEvent n m (Call client op) (called ∷ [])
  pub settle : IsOfEvent n (run (called.named ∷ called.follow) m) Settle steps

-- In no execution of these entries a store failed. So it is where no store's count of faults rose.
abbrev pub is_failed : Entry → Bool
is_failed (Executed i version failed) = failed
is_failed e = false

abbrev pub NoneFails : List Entry → Type 0
NoneFails es = list_any is_failed es ≡ false

-- some entry is so
abbrev pub Has : (Entry → Type 0) → List Entry → Type 0
Has P [] = ⊥
Has P (e ∷ es) = P e ⊎ Has P es
