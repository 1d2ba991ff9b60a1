use Rattle.std.proofs.Common.{◌∙◌}
use Rattle.ec_store.proofs.RecordMaps.{changed_through, headed_is}
use Rattle.ec_store.proofs.records.put_head_in.Goals as goal

pub returns-in-Some-clause-ok : goal.returns-in-Some-clause-ok
returns-in-Some-clause-ok c = changed_through c.args.map.now (c.get_mut.follows.lender c.set_head.new.m) c.args.g.0 c.in-Some.m.now c.set_head.new.m (λ r. record r { head = c.args.h.now }) c.in-Some.ensures.value (c.get_mut.follows.holds c.set_head.new.m) c.set_head.ensures ∙ headed_is c.args.map.now c.args.g.0 c.in-Some.m.now c.args.h.now c.in-Some.ensures.value
