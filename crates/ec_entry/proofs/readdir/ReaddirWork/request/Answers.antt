use Rattle.std.proofs.Common.{sym, ◌∙◌, ap}
use Rattle.ec_txn.proofs.Turns.{if_more}
use Rattle.ec_txn.specs.Rounds.{subject}
use Rattle.ec_entry.specs.Readdir.{readdir_asks}
use Rattle.ec_entry.proofs.Readdirs.{names_by}
use Rattle.ec_entry.proofs.readdir.ReaddirWork.request.Goals as goal

pub returns-in-Names : goal.returns-in-Names
returns-in-Names g c = if_more c.names_request.result _ _ (λ request h. λ a sees. h
    ∙ (names_by c.args.ctx.now c.args.known.now a c.in-Names.bricks c.in-Names.past c.args.self.now.gfid.0 c.args.brick sees.of sees.shows (ap subject sees.fit)
    ∙ ap (λ s. readdir_asks s a c.args.brick) (sym c.in-Names.is))) c.names_request.ensures
