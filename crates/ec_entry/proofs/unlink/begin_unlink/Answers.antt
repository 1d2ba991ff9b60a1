use Rattle.std.proofs.Common.{refl, None, [], ap}
use Rattle.ec_wire.specs.declared.op.Op.TheVariants.{Unlink}
use Rattle.ec_txn.specs.Steps.{given_of}
use Rattle.ec_txn.proofs.Turns.{given_is_of, if_more}
use Rattle.std.proofs.Common.{sym, List, ℕ}
use Rattle.ec_entry.proofs.unlink.begin_unlink.Goals as goal

pub returns : goal.returns
returns c = record { adds = if_more c.begin.result _ _ (λ call h. h (given_of c.args.ctx.now (Unlink c.args.parent c.args.name.now) None []) (given_is_of c.args.ctx.now (Unlink c.args.parent c.args.name.now) refl) (ap (λ (n : List ℕ). Unlink c.args.parent n) (sym c.in_ok-name.ensures))) c.begin.ensures.adds }
