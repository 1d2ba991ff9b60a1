use Rattle.std.proofs.Common.{◌≡◌, ℕ, ◌+◌, ◌<◌, ◌≤◌, true, Some, [], length, slice_index, slice_index_or}
use Rattle.ec_store.specs.Records.{Record}
use Rattle.ec_brick.proofs.chunks.read_chunks.Given as goal

abbrev pub invariant-loop-k : goal.invariant-loop-k
invariant-loop-k g l =
    let told = g.S.BrickStore.told in
    let records = g.S.BrickStore.records in
    let faults = g.S.BrickStore.faults in
    (told l.store ≡ told l.initial.store)
    × (told l.initial.store ≡ true → records l.store ≡ records l.initial.store)
    × (faults l.initial.store ≤ faults l.store)
    × (length l.list ≡ l.k)
    × (told l.initial.store ≡ true → (r : Record) → records l.initial.store l.gfid.0 ≡ Some r → (j i v : ℕ) → j < l.k → i < 512 → r.piece (l.first + j) i ≡ Some v → slice_index (slice_index_or l.list j []) i ≡ v)
