use Rattle.std.proofs.Common.{sym, ◌∙◌, ap, None}
use Rattle.ec_answers.specs.declared.grouped.Group.{Group}
use Rattle.ec_conduct.specs.Ballots.{attr_after, size_after}
use Rattle.ec_txn.proofs.Turns.{if_more}
use Rattle.ec_txn.specs.Ballot.{group_in}
use Rattle.ec_wire.specs.declared.op.Op.{Op}
use Rattle.ec_txn.specs.Rounds.{subject}
use Rattle.ec_wire.specs.declared.request.Request.TheVariants.{NameSet}
use Rattle.ec_entry.specs.Unlink.{entry_request, unlink_asks}
use Rattle.ec_entry.proofs.Makes.{members_by}
use Rattle.ec_entry.proofs.Unlinks.{entry_is, unmake_by}
use Rattle.ec_entry.proofs.unlink.UnlinkWork.request.Goals as goal

pub returns-in-Enters : goal.returns-in-Enters
returns-in-Enters g c = if_more c.entry_of.result _ _ (λ request h. λ a sees. h
    ∙ (members_by c.args.ctx.now c.args.known.now a c.in-Enters.group c.args.brick (λ grant. NameSet c.args.self.now.parent grant c.args.self.now.name None) (entry_request a.given) sees.of sees.shows
    (entry_is a.given c.args.self.now.parent c.args.self.now.name sees.fit)
    ∙ ap (λ s. unlink_asks s a c.args.brick) (sym c.in-Enters.is))) c.entry_of.ensures

pub returns-in-Unmakes : goal.returns-in-Unmakes
returns-in-Unmakes g c = λ a sees. c.unmake_of.ensures
    ∙ (unmake_by c.args.ctx.now c.args.known.now a c.in-Unmakes.child c.args.self.now.parent.0 c.args.brick sees.of sees.shows (ap subject sees.fit)
    ∙ ap (λ s. unlink_asks s a c.args.brick) (sym c.in-Unmakes.is))

pub returns-in-Votes : goal.returns-in-Votes
returns-in-Votes g c = λ a sees. c.request-in-Votes.ensures a (ap subject sees.fit) sees.of sees.shows
    (ap (λ (z : Group). z.head.size) c.group.ensures ∙ sym (ap (λ (op : Op). size_after op (group_in c.in-Votes.ballot).head.size) sees.fit))
    (sym (ap attr_after sees.fit))
    ∙ ap (λ s. unlink_asks s a c.args.brick) (sym c.in-Votes.is)
