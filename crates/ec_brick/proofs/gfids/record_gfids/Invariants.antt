use Rattle.std.proofs.Common.{◌≡◌, ◌≤◌, true, length, is_some}
use Rattle.ec_brick.specs.Gfids.{IsPageStart, gfids_rise, last_gfid}
use Rattle.ec_brick.proofs.gfids.record_gfids.Given as goal

abbrev pub invariant-loop : goal.invariant-loop
invariant-loop g l =
    let told = g.S.BrickStore.told in
    let records = g.S.BrickStore.records in
    let faults = g.S.BrickStore.faults in
    (told l.store ≡ told l.initial.store)
    × (told l.initial.store ≡ true → records l.store ≡ records l.initial.store)
    × (faults l.initial.store ≤ faults l.store)
    × (length l.list ≡ l.counter)
    × (l.last ≡ last_gfid l.fn.after l.list)
    × (gfids_rise l.fn.after l.list ≡ true)
    × (told l.initial.store ≡ true → IsPageStart l.fn.after (λ q. is_some (records l.initial.store q)) l.list)
