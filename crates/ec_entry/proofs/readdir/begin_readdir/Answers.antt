use Rattle.std.proofs.Common.{refl, None, []}
use Rattle.ec_wire.specs.declared.op.Op.TheVariants.{Readdir}
use Rattle.ec_txn.specs.Steps.{given_of}
use Rattle.ec_txn.proofs.Turns.{given_is_of, if_more}
use Rattle.ec_entry.proofs.readdir.begin_readdir.Goals as goal

pub returns : goal.returns
returns c = record { adds = if_more c.begin.result _ _ (λ call h. h (given_of c.args.ctx.now (Readdir c.args.gfid) None []) (given_is_of c.args.ctx.now (Readdir c.args.gfid) refl) refl) c.begin.ensures.adds }
