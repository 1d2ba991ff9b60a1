use Rattle.std.proofs.Common.{refl, None, []}
use Rattle.ec_wire.specs.declared.op.Op.TheVariants.{Read}
use Rattle.ec_txn.specs.Steps.{given_of}
use Rattle.ec_txn.proofs.Turns.{given_is_of, if_more}
use Rattle.ec_read.proofs.read.begin_read.Goals as goal

pub returns : goal.returns
returns c =
    let op = Read c.args.gfid c.args.off c.args.len c.args.via in
    record { adds = if_more c.begin.result _ _ (λ call h. h (given_of c.args.ctx.now op None []) (given_is_of c.args.ctx.now op refl) refl) c.begin.ensures.adds }
