use Rattle.ec_script.proofs.OrderLemmas.{attr_new}
use Rattle.ec_script.proofs.orders.attr_of.Goals as goal

pub returns-clause-value : goal.returns-clause-value
returns-clause-value c = attr_new c.new.result c.args.mode c.args.owner c.args.group c.new.ensures.some.0 c.new.ensures.some.1 c.new.ensures.value
