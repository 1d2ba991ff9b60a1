use Rattle.std.proofs.Common.{◌≡◌, List, ℕ, arith}
use Rattle.std.proofs.lemmas.Grind.{common_steps}
use Rattle.ec_store.specs.Records.{filled}
use Rattle.ec_store.specs.Memory.{names_of}
use Rattle.ec_store.proofs.names.fill.Goals as goal

pub returns : goal.returns
returns c = let e : (k : List ℕ) → names_of c.loop-n.names k ≡ filled (names_of c.args.names.now) c.args.list.now k = λ k. grind (arith, common_steps, c.loop-n.invariant k) in λ i k. e k i
