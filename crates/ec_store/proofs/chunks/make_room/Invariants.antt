use Rattle.std.proofs.Common.{◌≡◌, ℕ, ◌<◌, ◌≤◌, true, is_some}
use Rattle.std.specs.Ordering.{nat_cmp}
use Rattle.std.specs.BTreeMap.{get}
use Rattle.ec_store.specs.Memory.{pieces_of}
use Rattle.ec_store.proofs.chunks.make_room.Given as goal

abbrev pub invariant-loop-s : goal.invariant-loop-s
invariant-loop-s l =
    ((q i : ℕ) → pieces_of l.chunks q i ≡ pieces_of l.initial.chunks q i)
    × ((q : ℕ) → l.first ≤ q → q < l.s → is_some (get nat_cmp l.chunks q) ≡ true)
