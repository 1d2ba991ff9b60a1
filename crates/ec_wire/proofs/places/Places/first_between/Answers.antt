use Rattle.std.proofs.Common.{sym, ◌∙◌}
use Rattle.ec_wire.specs.Places.{has_place}
use Rattle.ec_wire.proofs.PlaceOrder.{lowest_between, none_beside, none_between}
use Rattle.ec_wire.proofs.places.Places.first_between.Goals as goal

pub returns-in-None : goal.returns-in-None
returns-in-None c = none_between c.args.client c.args.brick c.args.to_brick (has_place c.args.self.now) c.in-None.ensures

pub returns-then-is_between : goal.returns-then-is_between
returns-then-is_between c = lowest_between c.args.client c.args.brick c.args.to_brick (has_place c.args.self.now) c.in-Some.p c.in-Some.ensures (sym c.is_between.ensures ∙ c.if-is_between.true)

pub returns-else-is_between : goal.returns-else-is_between
returns-else-is_between c = none_beside c.args.client c.args.brick c.args.to_brick (has_place c.args.self.now) c.in-Some.p c.in-Some.ensures (sym c.is_between.ensures ∙ c.if-is_between.false)
