use Rattle.std.proofs.Common.{◌≡◌, ℕ, refl, arith, ◌∙◌, ap, length, length-set, Option}
use Rattle.ec_answers.specs.declared.answers.Given.{Given}
use Rattle.ec_txn.specs.declared.known.Place.{Place}
use Rattle.ec_txn.specs.Digest.{place_at}
use Rattle.ec_txn.proofs.Answers.{answers_none, answers_step}
use Rattle.ec_txn.proofs.opening.answers.Goals as goal

pub loop-brick-init : goal.loop-brick-init
loop-brick-init c = record { len = refl; each = λ x. answers_none (λ y. (place_at c.args.known.now.places.items y).given) x }

pub loop-brick-preserved : goal.loop-brick-preserved
loop-brick-preserved c = record {
  len = length-set c.loop-brick.given c.from.result c.place.result.given ∙ c.loop-brick.invariant.len;
  each = λ x. answers_step c.loop-brick.given (λ y. (place_at c.args.known.now.places.items y).given) c.loop-brick.brick c.from.result x c.place.result.given (omega (arith, c.loop-brick.invariant.len)) c.from.ensures (ap (λ (p : Place). p.given) c.place.ensures) (c.loop-brick.invariant.each x);
}
