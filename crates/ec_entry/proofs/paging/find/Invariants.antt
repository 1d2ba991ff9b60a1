use Rattle.std.proofs.Common.{◌≡◌, drop}
use Rattle.ec_store.specs.Records.{listed}
use Rattle.ec_entry.proofs.paging.find.Given as goal

abbrev pub invariant-loop-other : goal.invariant-loop-other
invariant-loop-other l = listed l.page l.name ≡ listed (drop l.other-index l.other-items) l.name
