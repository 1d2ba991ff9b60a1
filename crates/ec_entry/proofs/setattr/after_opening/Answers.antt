use Rattle.std.proofs.Common.{sym, subst}
use Rattle.ec_txn.specs.Opening.{OpeningFollows}
use Rattle.ec_entry.specs.SetAttr.{SetAttrJudges}
use Rattle.ec_entry.specs.declared.setattr.SetAttrStage.TheVariants.{Opens}
use Rattle.ec_entry.proofs.SetAttrs.{lock_opens}
use Rattle.ec_entry.proofs.setattr.after_opening.Goals as goal

pub returns-in-Lock : goal.returns-in-Lock
returns-in-Lock c = λ a of shows. subst (λ s. OpeningFollows Opens SetAttrJudges s a c.opens.result) (sym c.in-Lock.is) (lock_opens c.in-Lock.at a c.after_lock.result c.opens.result (c.after_lock.ensures a of shows) c.opens.ensures)

pub returns-in-Query : goal.returns-in-Query
returns-in-Query c = λ a of shows. subst (λ s. OpeningFollows Opens SetAttrJudges s a c.judge.result) (sym c.in-Query.is) (c.come_to.result, c.come_to.ensures a of.geometry shows, c.judge.ensures a)
