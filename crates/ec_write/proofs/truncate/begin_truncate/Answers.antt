use Rattle.std.proofs.Common.{refl, None, []}
use Rattle.ec_wire.specs.declared.op.Op.TheVariants.{Truncate}
use Rattle.ec_txn.specs.Steps.{given_of}
use Rattle.ec_txn.proofs.Turns.{given_is_of, if_more}
use Rattle.ec_write.proofs.truncate.begin_truncate.Goals as goal

pub returns : goal.returns
returns c = record { adds = if_more c.begin.result _ _ (λ call h. h (given_of c.args.ctx.now (Truncate c.args.gfid c.args.size) None []) (given_is_of c.args.ctx.now (Truncate c.args.gfid c.args.size) refl) refl) c.begin.ensures.adds }
