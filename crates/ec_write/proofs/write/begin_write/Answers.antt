use Rattle.std.proofs.Common.{refl, None, []}
use Rattle.ec_wire.specs.declared.op.Op.TheVariants.{Write}
use Rattle.ec_txn.specs.Steps.{given_of}
use Rattle.ec_txn.proofs.Turns.{given_is_of, if_more}
use Rattle.ec_write.proofs.write.begin_write.Goals as goal

pub returns : goal.returns
returns c = record { adds = if_more c.begin.result _ _ (λ call h. h (given_of c.args.ctx.now (Write c.args.gfid c.args.off c.args.bytes) None []) (given_is_of c.args.ctx.now (Write c.args.gfid c.args.off c.args.bytes) refl) refl) c.begin.ensures.adds }
