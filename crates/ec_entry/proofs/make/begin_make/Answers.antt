use Rattle.std.proofs.Common.{sym, None, [], ap, List, ℕ}
use Rattle.ec_txn.specs.Steps.{given_of}
use Rattle.ec_txn.proofs.Turns.{given_is_of, if_more}
use Rattle.ec_entry.specs.Make.{make_op}
use Rattle.ec_entry.proofs.Makes.{unhealed_of}
use Rattle.ec_entry.proofs.make.begin_make.Goals as goal

pub returns : goal.returns
returns c =
    let op = make_op c.args.kind c.args.parent.0 c.args.name.now in
    record { adds = if_more c.begin.result _ _ (λ call h. h (given_of c.args.ctx.now op None []) (given_is_of c.args.ctx.now op (unhealed_of c.args.kind c.args.parent.0 c.args.name.now)) (ap (λ (n : List ℕ). make_op c.args.kind c.args.parent.0 n) (sym c.in_ok-name.ensures))) c.begin.ensures.adds }
