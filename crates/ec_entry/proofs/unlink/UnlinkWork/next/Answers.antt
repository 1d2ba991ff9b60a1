use Rattle.std.proofs.Common.{sym, subst}
use Rattle.ec_entry.specs.Unlink.{UnlinkFollows}
use Rattle.ec_entry.specs.declared.unlink.UnlinkStage.TheVariants.{Opens, Name, Votes, Enters, Unmakes}
use Rattle.ec_entry.proofs.Unlinks.{name_at}
use Rattle.ec_entry.proofs.unlink.UnlinkWork.next.Goals as goal
use Rattle.ec_entry.proofs.unlink.UnlinkWork.next.Goals.{in-Opens, in-Name, in-Votes, in-Enters, in-Unmakes}

pub returns : goal.returns
returns g c = λ a sees. elim c.match-stage.branch [
  | in-Opens w ↦ subst (λ s. UnlinkFollows s a c.match-stage.result) (sym w.in-Opens.is) (subst (λ r. UnlinkFollows (Opens w.in-Opens.opening) a r) (sym w.result-is) (w.after_opening.ensures a sees.of sees.shows))
  | in-Name w ↦ subst (λ s. UnlinkFollows s a c.match-stage.result) (sym w.in-Name.is) (subst (λ r. UnlinkFollows (Name w.in-Name.group) a r) (sym w.result-is)
      (name_at c.args.ctx.now _ c.args.known.now a w.in-Name.group w.k.result w.judge_name.result sees w.k.ensures.value w.judge_name.ensures))
  | in-Votes w ↦ subst (λ s. UnlinkFollows s a c.match-stage.result) (sym w.in-Votes.is) (subst (λ r. UnlinkFollows (Votes w.in-Votes.ballot w.in-Votes.children) a r) (sym w.result-is) (w.after_ballot.ensures a sees.of sees.shows))
  | in-Enters w ↦ subst (λ s. UnlinkFollows s a c.match-stage.result) (sym w.in-Enters.is) (subst (λ r. UnlinkFollows (Enters w.in-Enters.group w.in-Enters.children) a r) (sym w.result-is) (w.where_quorum.ensures a sees.of sees.shows))
  | in-Unmakes w ↦ subst (λ s. UnlinkFollows s a c.match-stage.result) (sym w.in-Unmakes.is) (subst (λ r. UnlinkFollows (Unmakes w.in-Unmakes.child w.in-Unmakes.children) a r) (sym w.result-is) w.remove_past.ensures)
]
