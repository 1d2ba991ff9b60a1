use Rattle.std.proofs.Common.{ap, not, ◌∙◌, sym}
use Rattle.ec_locks.proofs.Queues.{waits_where_not_free}
use Rattle.ec_locks.proofs.table.answer_of.Goals as goal

pub returns-then-is_free : goal.returns-then-is_free
returns-then-is_free c = waits_where_not_free c.args.asks.now c.args.ask.now ∙ ap not (sym c.is_free.ensures ∙ c.if-is_free.true)

pub returns-else-is_free : goal.returns-else-is_free
returns-else-is_free c = (waits_where_not_free c.args.asks.now c.args.ask.now ∙ ap not (sym c.is_free.ensures ∙ c.if-is_free.false), c.count_waiters.ensures)
