use Rattle.std.proofs.Common.{sym, subst}
use Rattle.ec_txn.specs.declared.opening.Opening.TheVariants.{Lock}
use Rattle.ec_txn.proofs.Openings.{lock_into}
use Rattle.ec_entry.specs.Unlink.{UnlinkFollows, UnlinkJudges}
use Rattle.ec_entry.specs.declared.unlink.UnlinkStage.TheVariants.{Opens}
use Rattle.ec_entry.proofs.unlink.after_opening.Goals as goal

pub returns-in-Lock : goal.returns-in-Lock
returns-in-Lock c = λ a of shows. subst (λ o. UnlinkFollows (Opens o) a c.opens.result) (sym c.in-Lock.is) (subst (λ r. UnlinkFollows (Opens (Lock c.in-Lock.at)) a r) (sym c.opens.ensures) (lock_into (λ o. Opens o) UnlinkJudges c.in-Lock.at a c.after_lock.result (c.after_lock.ensures a of shows)))

pub returns-in-Query : goal.returns-in-Query
returns-in-Query c = λ a of shows. subst (λ o. UnlinkFollows (Opens o) a c.after_query.result) (sym c.in-Query.is) (c.come_to.result, c.come_to.ensures a of.geometry shows, c.after_query.ensures)
