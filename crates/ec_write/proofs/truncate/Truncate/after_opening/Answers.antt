use Rattle.std.proofs.Common.{sym, subst}
use Rattle.ec_txn.specs.Opening.{OpeningFollows}
use Rattle.ec_write.specs.declared.stage.TruncateStage.TheVariants.{Opens}
use Rattle.ec_write.specs.Truncate.{TruncateJudges}
use Rattle.ec_write.proofs.truncate.Truncate.after_opening.Goals as goal

pub returns-in-Query : goal.returns-in-Query
returns-in-Query c a e of shows = subst (λ s. OpeningFollows (λ o. Opens o) TruncateJudges s a c.judge.result) (sym c.in-Query.is) (c.come_to.result, c.come_to.ensures a of.geometry shows, c.judge.ensures a)
