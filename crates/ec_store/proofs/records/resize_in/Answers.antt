use Rattle.ec_store.specs.Records.{with_length}
use Rattle.ec_store.proofs.RecordMaps.{changed_through}
use Rattle.ec_store.proofs.records.resize_in.Goals as goal

pub returns-in-Some : goal.returns-in-Some
returns-in-Some c = changed_through c.args.map.now (c.get_mut.follows.lender c.resize.new.m) c.args.g.0 c.in-Some.m.now c.resize.new.m (λ r. with_length r c.args.keep c.args.length) c.in-Some.ensures.value (c.get_mut.follows.holds c.resize.new.m) c.resize.ensures
