use Rattle.std.proofs.Common.{inl, inr, map, refl, sym, true, ◌∙◌, ◌≡◌}
use Rattle.std.specs.List.{list_all}
use Rattle.ec_world.proofs.Whole.{sees_some, stays_open}
use Rattle.ec_world.proofs.Consistency.{stays_from, consistent_after}
use Rattle.ec_world.proofs.world.World.step.Goals as goal

pub returns-then-is_unbuilt-clause-steps : goal.returns-then-is_unbuilt-clause-steps
returns-then-is_unbuilt-clause-steps g c = inl (record { unbuilt = c.if-is_unbuilt.ensures.yes refl; refused = refl; same = refl; kept = refl })

pub obey-requires-clause-sound : goal.obey-requires-clause-sound
obey-requires-clause-sound g c = c.requires.open.world.sound

pub obey-requires-clause-size : goal.obey-requires-clause-size
obey-requires-clause-size g c = c.requires.open.world.size

pub obey-requires-clause-many : goal.obey-requires-clause-many
obey-requires-clause-many g c = c.requires.open.world.many

pub obey-requires-clause-sees : goal.obey-requires-clause-sees
obey-requires-clause-sees g c = sees_some _ _ c.args.self.now.cluster c.args.self.now.clients c.requires.open.world

pub obey-requires-clause-stores : goal.obey-requires-clause-stores
obey-requires-clause-stores g c = c.requires.stores ∙ sym c.requires.open.size

pub returns-clause-steps : goal.returns-clause-steps
returns-clause-steps g c = inr (c.if-is_unbuilt.ensures.not refl, c.obey.ensures.outcome)

pub returns-clause-open : goal.returns-clause-open
returns-clause-open g c = stays_open _ _ (list_all g.S.BrickStore.told c.args.stores.now ≡ true) c.args.event.now c.args.self.now (record c.args.self.now { clients = c.obey.new.clients; cluster = c.obey.new.cluster }) (map g.S.BrickStore.records c.args.stores.now) (map g.S.BrickStore.records c.obey.new.stores) c.obey.result c.requires.open refl c.obey.ensures.outcome

pub returns-clause-from : goal.returns-clause-from
returns-clause-from g c = λ geometry first from.
    stays_from _ _ c.args.self.now (record c.args.self.now { clients = c.obey.new.clients; cluster = c.obey.new.cluster }) geometry first from (list_all g.S.BrickStore.told c.args.stores.now ≡ true) c.args.event.now (map g.S.BrickStore.records c.args.stores.now) (map g.S.BrickStore.records c.obey.new.stores) c.obey.result
    (inr (c.if-is_unbuilt.ensures.not refl, c.obey.ensures.outcome))

pub returns-clause-consistent : goal.returns-clause-consistent
returns-clause-consistent g c = λ config records bricks tree next start of_volume from runs.
    consistent_after _ _ c.consistency_laws.ensures config records bricks tree next (record c.args.self.now { clients = c.obey.new.clients; cluster = c.obey.new.cluster }) c.obey.result start of_volume
    (stays_from _ _ c.args.self.now (record c.args.self.now { clients = c.obey.new.clients; cluster = c.obey.new.cluster }) config.geometry next from (list_all g.S.BrickStore.told c.args.stores.now ≡ true) c.args.event.now (map g.S.BrickStore.records c.args.stores.now) (map g.S.BrickStore.records c.obey.new.stores) c.obey.result
    (inr (c.if-is_unbuilt.ensures.not refl, c.obey.ensures.outcome))) runs

pub returns-then-is_unbuilt-clause-consistent : goal.returns-then-is_unbuilt-clause-consistent
returns-then-is_unbuilt-clause-consistent g c = λ config records bricks tree next start of_volume from runs.
    c.consistency_laws.ensures config records bricks tree next c.args.self.now start of_volume from runs
