use Rattle.std.proofs.Common.{◌≡◌, ℕ, List, take}
use Rattle.ec_store.specs.Records.{filled}
use Rattle.ec_store.specs.Memory.{names_of}
use Rattle.ec_store.proofs.names.fill.Given as goal

abbrev pub invariant-loop-n : goal.invariant-loop-n
invariant-loop-n l = (k : List ℕ) → names_of l.names k ≡ filled (names_of l.initial.names) (take l.n-index l.n-items) k
