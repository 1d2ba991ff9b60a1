use Rattle.std.proofs.Common.{sym, subst}
use Rattle.ec_txn.proofs.Turns.{if_more}
use Rattle.ec_entry.specs.Readdir.{ReaddirFollows}
use Rattle.ec_entry.proofs.Readdirs.{page_at}
use Rattle.ec_entry.proofs.readdir.ReaddirWork.next.Goals as goal

pub returns-in-Opens : goal.returns-in-Opens
returns-in-Opens g c = λ a sees. subst (λ s. ReaddirFollows s a c.after_opening.result) (sym c.in-Opens.is) (c.after_opening.ensures a sees.of sees.shows)

pub returns-in-Names : goal.returns-in-Names
returns-in-Names g c = if_more c.after_names.result _ _ (λ next h. λ a sees. subst (λ s. ReaddirFollows s a next) (sym c.in-Names.is)
    (page_at c.args.ctx.now _ c.args.known.now a c.in-Names.bricks c.k.result c.in-Names.past c.in-Names.list next sees c.k.ensures.value h)) c.after_names.ensures
