use Rattle.std.proofs.Common.{sym, subst}
use Rattle.ec_txn.proofs.Turns.{if_more}
use Rattle.ec_wire.specs.declared.op.Op.TheVariants.{Truncate}
use Rattle.ec_write.specs.Truncate.{TruncateFollows}
use Rattle.ec_write.proofs.Tails.{tail_follows}
use Rattle.ec_write.proofs.truncate.TruncateWork.next.Goals as goal

pub returns-in-Reads : goal.returns-in-Reads
returns-in-Reads g c = if_more c.after_read.result _ _
    (λ next h a sees. subst (λ s. TruncateFollows c.args.ctx.now s a next) (sym c.in-Reads.is)
    (tail_follows c.args.ctx.now (Truncate c.args.self.now.gfid c.args.self.now.size) c.in-Reads.group c.in-Reads.reading c.args.known.now a next sees.fit sees.of.geometry sees.shows h))
    c.after_read.ensures
