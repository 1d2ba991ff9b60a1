use Rattle.std.proofs.Common.{◌≡◌, true, map}
use Rattle.std.specs.List.{list_all}
use Rattle.ec_play.proofs.WorldLemmas.{world_fits, world_steps}
use Rattle.ec_play.proofs.world.WorldStage.step.Goals as goal

pub step-requires-clause-fits : goal.step-requires-clause-fits
step-requires-clause-fits g c = world_fits c.args.event.now c.requires.event

pub returns-clause-steps : goal.returns-clause-steps
returns-clause-steps g c =
    world_steps _ _ (list_all g.B.BrickStore.told c.args.stores.now ≡ true) c.args.event.now c.args.self.now c.step.new.self (map g.B.BrickStore.records c.args.stores.now) (map g.B.BrickStore.records c.step.new.stores) c.step.result c.step.ensures.same c.step.ensures.steps c.step.ensures.open c.step.ensures.from
