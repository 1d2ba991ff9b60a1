use Rattle.ec_brick.specs.State.{indexed, state}
use Rattle.ec_brick.proofs.Torn.{index_torn, tears}
use Rattle.ec_brick.proofs.brick.Brick.tear.Goals as goal

pub returns-clause-step : goal.returns-clause-step
returns-clause-step g c = λ told.
    let records = g.S.BrickStore.records in
    tears _ (state c.args.self.now (records c.args.store.now)) (state c.stop.new.self (records c.front.new.store)) c.args.request.now c.args.n c.in_ok-version.version (records c.front.new.store) c.requires.up (c.stop.ensures.state (records c.front.new.store)) (c.in_ok-version.ensures.step told)

pub returns-clause-index : goal.returns-clause-index
returns-clause-index g c = λ told i.
    let records = g.S.BrickStore.records in
    index_torn _ (state c.args.self.now (records c.args.store.now)) c.args.request.now c.args.n c.in_ok-version.version (records c.front.new.store) (indexed c.args.self.now) (indexed c.stop.new.self) (c.in_ok-version.ensures.step told) c.stop.ensures.index i
