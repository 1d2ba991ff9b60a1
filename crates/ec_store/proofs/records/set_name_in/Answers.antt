use Rattle.ec_store.specs.Records.{named}
use Rattle.ec_store.proofs.RecordMaps.{changed_through}
use Rattle.ec_store.proofs.records.set_name_in.Goals as goal

pub returns-in_ok-name_to-in-Some-clause-ok : goal.returns-in_ok-name_to-in-Some-clause-ok
returns-in_ok-name_to-in-Some-clause-ok c = changed_through c.args.map.now (c.get_mut.follows.lender c.name_to.new.m) c.args.g.0 c.in-Some.m.now c.name_to.new.m (λ r. record r { names = named r.names c.args.n.now c.args.c }) c.in-Some.ensures.value (c.get_mut.follows.holds c.name_to.new.m) c.in_ok-name_to-in-Some.ensures.ok
