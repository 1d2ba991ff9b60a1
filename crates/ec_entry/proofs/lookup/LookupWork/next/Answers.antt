use Rattle.std.proofs.Common.{sym, subst, ◌∙◌, ap}
use Rattle.ec_txn.specs.declared.stage.Next.TheVariants.{Say}
use Rattle.ec_entry.specs.Lookup.{LookupFollows}
use Rattle.ec_entry.specs.declared.lookup.LookupStage.TheVariants.{Opens}
use Rattle.ec_entry.proofs.Naming.{named_at}
use Rattle.ec_entry.proofs.lookup.LookupWork.next.Goals as goal
use Rattle.ec_entry.proofs.lookup.LookupWork.next.Goals.{in-Opens, in-Name}

pub returns : goal.returns
returns g c = λ a sees. elim c.match-stage.branch [
  | in-Opens w ↦ subst (λ s. LookupFollows s a c.match-stage.result) (sym w.in-Opens.is) (subst (λ r. LookupFollows (Opens w.in-Opens.opening) a r) (sym w.result-is) (w.after_opening.ensures a sees.of sees.shows))
  | in-Name w ↦ subst (λ s. LookupFollows s a c.match-stage.result) (sym w.in-Name.is)
      (w.name_value.result, named_at c.args.ctx.now _ c.args.known.now a w.in-Name.bricks w.k.result w.name_value.result sees w.k.ensures.value w.name_value.ensures, w.result-is ∙ ap (λ answer. Say answer) w.answer_by.ensures)
]
