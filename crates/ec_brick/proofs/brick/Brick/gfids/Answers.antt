use Rattle.ec_brick.specs.State.{indexed, state}
use Rattle.ec_brick.proofs.Locking.{dirty_meets, fault_meets, records_meet}
use Rattle.ec_brick.proofs.brick.Brick.gfids.Goals as goal

pub returns-then-dirty-clause-step : goal.returns-then-dirty-clause-step
returns-then-dirty-clause-step g c = λ told i. rw (c.effects_of.ensures, c.if-dirty.true) (dirty_meets (state c.args.self.now (g.S.BrickStore.records c.args.store.now)) c.args.after (indexed c.args.self.now) c.in_ok-list.list i c.in_ok-list.ensures)

pub returns-in-Ok-clause-step : goal.returns-in-Ok-clause-step
returns-in-Ok-clause-step g c = λ told i. rw (c.effects_of-in-Ok.ensures, c.if-dirty.false) (records_meet (state c.args.self.now (g.S.BrickStore.records c.args.store.now)) c.args.after c.in-Ok.list (c.in-Ok.ensures.page told))

pub returns-in-Err-Failed-clause-step : goal.returns-in-Err-Failed-clause-step
returns-in-Err-Failed-clause-step g c = λ told i. rw c.effects_of-in-Err-Failed.ensures (fault_meets (state c.args.self.now (g.S.BrickStore.records c.args.store.now)) c.args.after c.args.dirty)
