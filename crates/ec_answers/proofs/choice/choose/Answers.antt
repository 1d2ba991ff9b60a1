use Rattle.std.proofs.Common.{ap, sym, ◌∙◌, arith}
use Rattle.ec_attr.specs.Bricks.{is_in}
use Rattle.ec_answers.specs.Choice.{left_of}
use Rattle.ec_answers.proofs.Steps.{reached_from}
use Rattle.ec_answers.proofs.choice.choose.Goals as goal

pub returns : goal.returns
returns c = λ b l.
    let at = reached_from c.args.start b c.requires l in
    ap (left_of (is_in c.args.among.now) (is_in c.args.tried.now)) (sym at.2) ∙ c.loop-i.invariant at.0 (omega (arith, at.1))
