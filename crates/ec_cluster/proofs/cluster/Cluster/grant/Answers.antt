-- One waiter after another.
use Rattle.std.proofs.Common.{subst, sym, ◌∙◌}
use Rattle.std.proofs.lemmas.List.{take-append-drop}
use Rattle.std.specs.List.{All}
use Rattle.ec_cluster.proofs.Waiters.{err_any, granting_next, granting_part}
use Rattle.ec_cluster.proofs.cluster.Cluster.grant.Goals as goal
use Rattle.ec_cluster.specs.Inner.{GrantsPart, WasAsked}
use Rattle.ec_cluster.specs.Said.{said_in}
use Rattle.ec_cluster.specs.Views.{log_of}

pub loop-waiter-preserved : goal.loop-waiter-preserved
loop-waiter-preserved c = granting_next c.args.self.now c.loop-waiter.self c.put.new.self c.args.brick c.call_of-call.result c.loop-waiter.waiter-index c.items-waiter-items.result.now _ c.requires.to c.loop-waiter-test.true (subst (All (WasAsked (said_in (log_of c.args.self.now)) c.args.brick)) (sym c.items-waiter-items.ensures) c.requires.asked) c.loop-waiter.invariant c.call_of-call.ensures c.in_ok-put.ensures.ok

pub returns-in_err-put-clause-err : goal.returns-in_err-put-clause-err
returns-in_err-put-clause-err c = err_any c.from_residual.result _ (subst (GrantsPart c.args.self.now c.put.new.self c.args.brick) (take-append-drop c.loop-waiter.waiter-index c.items-waiter-items.result.now ∙ c.items-waiter-items.ensures) (granting_part c.args.self.now c.loop-waiter.self c.put.new.self c.args.brick _ _ c.loop-waiter.invariant c.in_err-put.ensures.err))
