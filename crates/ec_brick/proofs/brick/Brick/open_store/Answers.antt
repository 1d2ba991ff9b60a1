use Rattle.ec_brick.proofs.brick.Brick.open_store.Goals as goal

pub returns-in-Ok-clause-opens : goal.returns-in-Ok-clause-opens
returns-in-Ok-clause-opens g c told = c.last-last.ensures.opens c.args.self.now.config (g.S.BrickStore.records c.args.store.now) (c.in-Ok.ensures.sees told)

pub returns-in-Ok-clause-accepts : goal.returns-in-Ok-clause-accepts
returns-in-Ok-clause-accepts g c told = (c.in-Ok.ensures.sees told).accepts
