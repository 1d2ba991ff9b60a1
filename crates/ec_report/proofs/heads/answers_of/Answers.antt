use Rattle.std.proofs.Common.{◌∙◌, refl, arith, length-set}
use Rattle.ec_report.specs.Records.{given_of, head_of}
use Rattle.ec_report.proofs.Answering.{answers_none, answers_step}
use Rattle.ec_report.proofs.heads.answers_of.Goals as goal

pub loop-b-init : goal.loop-b-init
loop-b-init c = record { len = refl; each = λ x. answers_none (λ y. given_of (head_of c.args.heads.now y)) x }

pub loop-b-preserved : goal.loop-b-preserved
loop-b-preserved c = record {
  len = length-set c.loop-b.given c.from.result c.given_at.result ∙ c.loop-b.invariant.len;
  each = λ x. answers_step c.loop-b.given (λ y. given_of (head_of c.args.heads.now y)) c.loop-b.b c.from.result x c.given_at.result (omega (arith, c.loop-b.invariant.len)) c.from.ensures c.given_at.ensures (c.loop-b.invariant.each x);
}
