use Rattle.std.proofs.Common.{◌≡◌, ◌++◌, ℕ, List, sym, ◌∙◌, ap, append-nil, subst, Bool, Option, Ok, Err}
use Rattle.std.specs.Prelude.{OnOk, Result}
use Rattle.ec_conduct.specs.Account.{Account}
use Rattle.ec_conduct.specs.Table.{Send, to_bricks}
use Rattle.ec_txn.specs.Rounds.{Asks, one, where_so}
use Rattle.ec_txn.specs.Tables.{Sees}
use Rattle.ec_txn.proofs.Again.{asked_so, none_asked}
use Rattle.ec_txn.proofs.round.ask_again.Goals as goal

pub returns-then-not-asks_again-clause-sends : goal.returns-then-not-asks_again-clause-sends
returns-then-not-asks_again-clause-sends g c = λ a s. none_asked c.args.ctx.now.geometry.n ((g.P.Plan.table c.args.ctx.now).asks c.args.stage.now a) ((g.P.Plan.table c.args.ctx.now).again c.args.stage.now) c.args.sends.now (sym c.asks_again.ensures ∙ c.if-not-asks_again.true)

pub returns-clause-sends : goal.returns-clause-sends
returns-clause-sends g c = asked_so c.ask.result (Sees c.args.ctx.now (g.P.Plan.fits c.args.plan.now) c.args.known.now) c.args.ctx.now.geometry.n ((g.P.Plan.table c.args.ctx.now).asks c.args.stage.now) ((g.P.Plan.table c.args.ctx.now).again c.args.stage.now) c.args.sends.now c.ask.new.sends
    (sym c.asks_again.ensures ∙ c.if-not-asks_again.false) c.ask.ensures.sends
