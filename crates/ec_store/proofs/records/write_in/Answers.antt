use Rattle.ec_store.specs.Records.{with_bytes}
use Rattle.ec_store.proofs.RecordMaps.{changed_through}
use Rattle.ec_store.proofs.records.write_in.Goals as goal

pub returns-in_ok-write_to-in-Some-clause-ok : goal.returns-in_ok-write_to-in-Some-clause-ok
returns-in_ok-write_to-in-Some-clause-ok c = changed_through c.args.map.now (c.get_mut.follows.lender c.write_to.new.m) c.args.g.0 c.in-Some.m.now c.write_to.new.m (λ r. with_bytes r c.args.at c.args.bytes.now) c.in-Some.ensures.value (c.get_mut.follows.holds c.write_to.new.m) c.in_ok-write_to-in-Some.ensures.ok
