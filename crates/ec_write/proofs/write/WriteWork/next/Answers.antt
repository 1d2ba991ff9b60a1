use Rattle.std.proofs.Common.{sym, subst}
use Rattle.ec_txn.proofs.Turns.{if_more}
use Rattle.ec_wire.specs.declared.op.Op.TheVariants.{Write}
use Rattle.ec_write.specs.Write.{WriteFollows}
use Rattle.ec_write.proofs.Following.{read_follows}
use Rattle.ec_write.proofs.write.WriteWork.next.Goals as goal

pub returns-in-Reads : goal.returns-in-Reads
returns-in-Reads g c = if_more c.after_read.result _ _
    (λ next h a sees. subst (λ s. WriteFollows c.args.ctx.now s a next) (sym c.in-Reads.is)
    (read_follows c.args.ctx.now (Write c.args.self.now.gfid c.args.self.now.off c.args.self.now.bytes) c.in-Reads.group c.in-Reads.reading c.in-Reads.front c.args.known.now a next sees.fit sees.of.geometry sees.shows h))
    c.after_read.ensures
