-- A new brick has no locks.
use Rattle.std.proofs.Common.{None, ◌∙◌, subst}
use Rattle.ec_attr.specs.declared.config.Config.{Config}
use Rattle.ec_brick.specs.Opening.{AcceptsAll}
use Rattle.ec_cluster.proofs.Opened.{state_of}
use Rattle.ec_cluster.proofs.opening.open_brick.Goals as goal

pub returns-in-Ok-clause-opened : goal.returns-in-Ok-clause-opened
returns-in-Ok-clause-opened g c = state_of c.open_store.new.self c.args.config (c.open_store.ensures.same (λ x. None) ∙ c.new-brick.ensures.value)

pub returns-in-Ok-clause-accepts : goal.returns-in-Ok-clause-accepts
returns-in-Ok-clause-accepts g c = λ told. subst (λ (k : Config). AcceptsAll k (g.S.BrickStore.records c.args.store.now)) (λ i. (c.new-brick.ensures.value i).config) (c.in-Ok.ensures.accepts told)
