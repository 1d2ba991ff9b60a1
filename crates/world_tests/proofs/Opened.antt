-- A world that was obeyed or that refused an event is open.
use Rattle.std.specs.Prelude.{◌≡◌, ◌≢◌, List, Result, Ok, Err}
use Rattle.std.proofs.Common.{ℕ, ◌++◌, length, take, refl, ap, subst}
use Rattle.std.proofs.Math.Seq.{take-append_seam}
use Rattle.ec_conduct.specs.Given.{Given}
use Rattle.ec_conduct.specs.Own.{Own}
use Rattle.ec_calls.specs.declared.any.AnyCall.{AnyCall}
use Rattle.ec_txn.specs.declared.ctx.Ctx.{Ctx}
use Rattle.ec_world.specs.Whole.{IsOpen, StaysOpen}
use Rattle.ec_world.specs.declared.refused.Refused.{Refused}
use Rattle.ec_world.specs.declared.refused.Refused.TheVariants as refused
use Rattle.ec_world.specs.declared.world.World.{World}

module _ (stands : Ctx → Given → AnyCall → List Own → Type 0) (by_table : Ctx → Given → List Own → Type 0) (w : World) where
  pub stays_open : (r : Result (Unit {0}) Refused) → r ≢ Err refused.NoMemory → StaysOpen stands by_table w r → IsOpen stands by_table w
  stays_open (Ok x) other h = h
  stays_open (Err refused.NoMemory) other h = absurd (other refl)
  stays_open (Err (refused.NoMessage n)) other h = h
  stays_open (Err (refused.NoneBetween x y)) other h = h
  stays_open (Err (refused.Busy n)) other h = h
  stays_open (Err (refused.Idle n)) other h = h
  stays_open (Err (refused.Dead n)) other h = h
  stays_open (Err (refused.Down n)) other h = h
  stays_open (Err (refused.Up n)) other h = h
  stays_open (Err (refused.NoBrick n)) other h = h
  stays_open (Err (refused.NotAsked x y)) other h = h
  stays_open (Err (refused.NotTearable n)) other h = h
  stays_open (Err (refused.TooMany n)) other h = h
  stays_open (Err (refused.NotKeeping n)) other h = h
  stays_open (Err refused.Unbuilt) other h = h

-- stores that were lent come back, as many as they were
pub lent_back : {X : Type 0} (xs rest : List X) (n : ℕ) → length xs ≡ n → length (take n (xs ++ rest)) ≡ n
lent_back xs rest n long = subst (λ (m : ℕ). length (take m (xs ++ rest)) ≡ m) long (ap length (take-append_seam xs rest))
