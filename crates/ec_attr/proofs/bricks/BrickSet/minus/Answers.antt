use Rattle.ec_attr.proofs.Sets.{without_brick}
use Rattle.ec_attr.proofs.bricks.BrickSet.minus.Goals as goal

pub returns-clause-members : goal.returns-clause-members
returns-clause-members c = rw (← c.self.view_is) (without_brick c.self.inside.bits c.args.b c.requires c.self.invariant)
