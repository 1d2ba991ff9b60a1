use Rattle.std.proofs.Common.{◌++◌, take, ap, sym, ◌∙◌, append_assoc, arith}
use Rattle.ec_play.proofs.KnownLemmas.{front_and_rest}
use Rattle.std.proofs.KnownBytes.{Appends-trans}
use Rattle.ec_play.proofs.writer.write_all.Goals as goal

pub loop-rest-preserved : goal.loop-rest-preserved
loop-rest-preserved g c = record {
  front = c.loop-rest.invariant.front ++ take c.in-Ok.count c.loop-rest.rest.now;
  parts =
      c.loop-rest.invariant.parts
      ∙ ap (λ rest. c.loop-rest.invariant.front ++ rest) (sym (front_and_rest c.loop-rest.rest.now c.in-Ok.count))
      ∙ sym (append_assoc c.loop-rest.invariant.front (take c.in-Ok.count c.loop-rest.rest.now) _);
  text = Appends-trans _ _ _ _ _ c.loop-rest.invariant.text c.in-Ok.ensures.bytes;
  told = c.in-Ok.ensures.told ∙ c.loop-rest.invariant.told;
  later = omega (arith, c.loop-rest.invariant.later, c.in-Ok.ensures.cause.later);
}
