-- What is released, by what is known.
use Rattle.std.specs.Prelude.{◌≡◌, ℕ, ◌+◌, ◌<◌, ◌≤◌, cond, Option, Some, None, List, [], ◌∷◌, length, All}
use Rattle.ec_conduct.specs.Table.{Send}
use Rattle.ec_wire.specs.declared.request.Request.{Request}
use Rattle.ec_wire.specs.declared.request.Request.TheVariants.{Release}
use Rattle.ec_txn.specs.declared.known.Held.{Held}
use Rattle.ec_txn.specs.declared.known.Place.{Place}
use Rattle.ec_txn.specs.Digest.{place_at}

-- at most m sends are added, to bricks below n
pub record Extends (n m : ℕ) (old new : List Send) : Type 0 where
  pub few : length new ≤ length old + m
  pub below : All (λ s. s.0 < n) old → All (λ s. s.0 < n) new

abbrev pub refused_of : ℕ → Option Held → List Request
refused_of g None = []
refused_of g (Some lock) = cond lock.granted [] (Release (record { 0 = g }) lock.number ∷ [])

abbrev pub back_of : ℕ → Option Held → List Request
back_of g None = []
back_of g (Some lock) = cond lock.granted (Release (record { 0 = g }) lock.number ∷ []) []

-- the ask at a brick, where it wasn't granted
abbrev pub refused_at : ℕ → List Place → ℕ → List Request
refused_at g ps x = refused_of g (place_at ps x).lock

-- the lock at a brick, where it was
abbrev pub back_at : ℕ → List Place → ℕ → List Request
back_at g ps x = back_of g (place_at ps x).lock
