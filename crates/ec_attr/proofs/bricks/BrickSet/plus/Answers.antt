use Rattle.ec_attr.proofs.Sets.{with_brick, with_bound}
use Rattle.ec_attr.proofs.bricks.BrickSet.plus.Goals as goal

pub invariant_of-result : goal.invariant_of-result
invariant_of-result c = with_bound _ _ c.requires c.self.invariant

pub returns-clause-members : goal.returns-clause-members
returns-clause-members c = rw (← c.self.view_is) (with_brick c.self.inside.bits c.args.b c.requires)

pub returns-clause-bound : goal.returns-clause-bound
returns-clause-bound c = with_bound _ _ c.requires c.self.invariant
