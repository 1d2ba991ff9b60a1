use Rattle.std.proofs.Common.{option_copied}
use Rattle.ec_store.specs.Records.{replaced}
use Rattle.ec_store.proofs.RecordMaps.{changed_through}
use Rattle.ec_store.proofs.records.replace_in.Goals as goal

pub returns-in_ok-replace_to-in-Some-clause-ok : goal.returns-in_ok-replace_to-in-Some-clause-ok
returns-in_ok-replace_to-in-Some-clause-ok c = changed_through c.args.map.now (c.get_mut.follows.lender c.replace_to.new.m) c.args.g.0 c.in-Some.m.now c.replace_to.new.m (λ r. record r { names = replaced r.names (option_copied c.args.after) (option_copied c.args.upto) c.args.list.now }) c.in-Some.ensures.value (c.get_mut.follows.holds c.replace_to.new.m) c.in_ok-replace_to-in-Some.ensures.ok
