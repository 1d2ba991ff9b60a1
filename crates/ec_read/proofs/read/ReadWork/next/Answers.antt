use Rattle.std.proofs.Common.{sym, subst}
use Rattle.ec_txn.proofs.Turns.{if_more}
use Rattle.ec_read.specs.Read.{ReadFollows}
use Rattle.ec_read.proofs.Known.{ends_at}
use Rattle.ec_read.proofs.read.ReadWork.next.Goals as goal

pub returns-in-Opens : goal.returns-in-Opens
returns-in-Opens g c = λ a sees. subst (λ s. ReadFollows c.args.ctx.now s a c.after_opening.result) (sym c.in-Opens.is) (c.after_opening.ensures a sees.fit sees.of sees.shows)

pub returns-in-Reads : goal.returns-in-Reads
returns-in-Reads g c = if_more c.after_reading.result _ _ (λ next w a sees. subst (λ s. ReadFollows c.args.ctx.now s a next) (sym c.in-Reads.is)
    (ends_at c.args.ctx.now c.args.known.now c.args.self.now.gfid c.args.self.now.off c.args.self.now.len c.args.self.now.via c.in-Reads.among c.in-Reads.size next a w sees.of.geometry sees.fit sees.shows)) c.after_reading.ensures
