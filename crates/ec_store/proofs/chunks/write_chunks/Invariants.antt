use Rattle.std.proofs.Common.{◌≡◌, ℕ, ◌<◌, ◌≤◌, true, is_some, cond, nat_lt}
use Rattle.std.specs.Ordering.{nat_cmp}
use Rattle.std.specs.BTreeMap.{get}
use Rattle.ec_store.specs.Memory.{pieces_of}
use Rattle.ec_store.specs.Records.{over}
use Rattle.ec_store.proofs.chunks.write_chunks.Given as goal

abbrev pub invariant-loop-s : goal.invariant-loop-s
invariant-loop-s l =
    ((q i : ℕ) → pieces_of l.chunks q i ≡ cond (nat_lt q l.first) (pieces_of l.initial.chunks q i) (cond (nat_lt q l.s) (over (pieces_of l.initial.chunks) l.at l.bytes q i) (pieces_of l.initial.chunks q i)))
    × ((q : ℕ) → l.first ≤ q → q < l.end → is_some (get nat_cmp l.chunks q) ≡ true)
