use Rattle.std.proofs.Common.{sym, subst, ◌∙◌, ap}
use Rattle.ec_txn.specs.declared.stage.Next.TheVariants.{Say}
use Rattle.ec_wire.specs.declared.answer.Answer.TheVariants.{Child}
use Rattle.ec_entry.specs.Make.{MakeFollows}
use Rattle.ec_entry.specs.declared.make.MakeStage.TheVariants.{Opens, Votes, Makes, Enters}
use Rattle.ec_entry.proofs.Makes.{child_is}
use Rattle.ec_entry.proofs.Naming.{named_at}
use Rattle.ec_entry.proofs.make.MakeWork.next.Goals as goal
use Rattle.ec_entry.proofs.make.MakeWork.next.Goals.{in-Opens, in-Name, in-Votes, in-Makes, in-Enters, in-Made}

pub returns : goal.returns
returns g c = λ a sees. elim c.match-stage.branch [
  | in-Opens w ↦ subst (λ s. MakeFollows s a c.match-stage.result) (sym w.in-Opens.is) (subst (λ r. MakeFollows (Opens w.in-Opens.opening) a r) (sym w.result-is) (w.after_opening.ensures a sees.of sees.shows))
  | in-Name w ↦ subst (λ s. MakeFollows s a c.match-stage.result) (sym w.in-Name.is)
      (w.name_value.result, named_at c.args.ctx.now _ c.args.known.now a w.in-Name.group.bricks w.k.result w.name_value.result sees w.k.ensures.value w.name_value.ensures, w.result-is ∙ w.after_name.ensures)
  | in-Votes w ↦ subst (λ s. MakeFollows s a c.match-stage.result) (sym w.in-Votes.is) (subst (λ r. MakeFollows (Votes w.in-Votes.ballot) a r) (sym w.result-is)
      (w.after_ballot.ensures a sees.of sees.shows (w.child.ensures ∙ child_is c.args.ctx.now a.given c.args.self.now.kind c.args.self.now.parent c.args.self.now.name sees.of sees.fit)))
  | in-Makes w ↦ subst (λ s. MakeFollows s a c.match-stage.result) (sym w.in-Makes.is) (subst (λ r. MakeFollows (Makes w.in-Makes.group) a r) (sym w.result-is) (w.where_quorum.ensures a sees.of sees.shows))
  | in-Enters w ↦ subst (λ s. MakeFollows s a c.match-stage.result) (sym w.in-Enters.is) (subst (λ r. MakeFollows (Enters w.in-Enters.group) a r) (sym w.result-is) (w.where_quorum-in-Enters.ensures a sees.of sees.shows))
  | in-Made w ↦ subst (λ s. MakeFollows s a c.match-stage.result) (sym w.in-Made.is)
      (w.result-is ∙ ap (λ child. Say (Child child)) (w.child-in-Made.ensures ∙ child_is c.args.ctx.now a.given c.args.self.now.kind c.args.self.now.parent c.args.self.now.name sees.of sees.fit))
]
