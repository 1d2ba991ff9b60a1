use Rattle.std.proofs.Common.{sym, ap, ◌∙◌, arith}
use Rattle.std.specs.Prelude.{nat_eq}
use Rattle.std.specs.Option.{option_map}
use Rattle.ec_script.specs.Bricks.{rising_bits, via_bits}
use Rattle.ec_script.specs.Words.{pieces}
use Rattle.ec_script.proofs.BrickLemmas.{plus_above, smaller, within, below_next, rising_done, rising_next, rising_stops, via_some, with_bits, with_no_bits}
use Rattle.ec_script.proofs.bricks.via.Goals as goal

pub loop-rest-init : goal.loop-rest-init
loop-rest-init c = rw c.empty-set.ensures.value (record { parts = with_no_bits (via_bits c.args.word.now); below = omega arith; most = omega arith })

pub loop-rest-preserved : goal.loop-rest-preserved
loop-rest-preserved c =
    let small = smaller c.loop-rest.set c.loop-rest.least c.in-Some-brick_from.b c.loop-rest.invariant.below c.in-Some-brick_from.ensures.range.0 in
    let above = plus_above c.loop-rest.set c.in-Some-brick_from.b c.plus-set.result small c.in-Some-brick_from.ensures.range.1 c.plus-set.ensures.bound c.plus-set.ensures.members in
    rw above (record {
      parts =
          c.loop-rest.invariant.parts
          ∙ rising_next c.loop-rest.least c.loop-rest.set c.in-Some-brick_from.b (option_map (λ rest. rest.now) c.loop-rest.rest) c.in-Some.parts.now c.first_piece.result.0.now (option_map (λ rest. rest.now) c.first_piece.result.1)
          (ap (option_map (λ rest. rest.now)) c.in-Some.is) c.first_piece.ensures.pieces (sym c.in-Some-brick_from.ensures.value);
      below = below_next c.loop-rest.set c.in-Some-brick_from.b small;
      most = omega (arith, c.in-Some-brick_from.ensures.range.1);
    })

pub returns-in-None : goal.returns-in-None
returns-in-None c = record {
  value =
      sym (c.loop-rest.invariant.parts
      ∙ rising_stops c.loop-rest.least c.loop-rest.set (option_map (λ rest. rest.now) c.loop-rest.rest) c.in-Some.parts.now c.first_piece.result.0.now (option_map (λ rest. rest.now) c.first_piece.result.1)
      (ap (option_map (λ rest. rest.now)) c.in-Some.is) c.first_piece.ensures.pieces (sym c.in-None.ensures.value));
  range = tt;
}

pub returns : goal.returns
returns c =
    let same = c.loop-rest.invariant.parts ∙ ap (λ o. with_bits c.loop-rest.set (rising_bits c.loop-rest.least (pieces (λ b. nat_eq b 44) o))) (ap (option_map (λ rest. rest.now)) c.in_default.is) ∙ rising_done c.loop-rest.least c.loop-rest.set in
    record {
      value = sym same;
      range = (via_some c.args.word.now c.loop-rest.set (sym same), within c.loop-rest.set c.loop-rest.least c.loop-rest.invariant.below c.loop-rest.invariant.most);
    }
