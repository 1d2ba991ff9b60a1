use Rattle.std.proofs.Common.{◌≡◌, ◌≤◌, ◌+◌, ◌-◌, ◌∙◌, ap, sym, refl, arith}
use Rattle.ec_field.specs.Field.{power}
use Rattle.ec_field.proofs.Powers.{power-zero}
use Rattle.ec_matrix.proofs.Steps.{long, zeros_at, zeros_kept, power_step, written_down}
use Rattle.ec_matrix.proofs.vandermonde.plain.Goals as goal

pub loop-j-init : goal.loop-j-init
loop-j-init c =
    let none : c.args.k - c.from-j.result ≡ 0 = omega (arith, c.from-j.ensures) in
    record {
      len = refl;
      so_far = sym (ap (power (c.args.b + 1)) none ∙ power-zero (c.args.b + 1));
      done = λ i l h. absurd (omega (arith, c.from-j.ensures));
      zeros = λ i l. zeros_at 16 i;
    }

pub loop-j-preserved : goal.loop-j-preserved
loop-j-preserved c =
    let most : c.loop-j.j ≤ c.args.k = omega (arith, c.from-j.ensures) in
    record {
      len = long c.loop-j.row 16 (c.loop-j.j - 1) c.loop-j.power c.loop-j.invariant.len;
      so_far = c.mul-power.ensures ∙ power_step c.args.k c.loop-j.j (c.args.b + 1) c.loop-j.power (omega arith) most c.loop-j.invariant.so_far;
      done = written_down c.loop-j.row c.args.k c.loop-j.j c.args.b c.loop-j.power c.loop-j.invariant.len c.requires.k (omega arith) most c.loop-j.invariant.so_far c.loop-j.invariant.done;
      zeros = zeros_kept c.loop-j.row c.args.k (c.loop-j.j - 1) c.loop-j.power (omega arith) c.loop-j.invariant.zeros;
    }
