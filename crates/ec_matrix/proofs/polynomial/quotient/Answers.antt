use Rattle.std.proofs.Common.{◌∙◌, ◌≡◌, ◌+◌, refl, ap, sym, arith, add-one}
use Rattle.ec_matrix.specs.Polynomial.{value, quotient}
use Rattle.ec_matrix.proofs.Values.{value_none, value_more}
use Rattle.ec_matrix.proofs.Steps.{written, long, entry}
use Rattle.ec_matrix.proofs.polynomial.quotient.Goals as goal

pub loop-j-init : goal.loop-j-init
loop-j-init c = record { len = refl; so_far = sym (value_none (entry c.args.coefficients.now) c.args.r); done = λ i l. absurd (omega arith) }

pub loop-j-preserved : goal.loop-j-preserved
loop-j-preserved c =
    let more : c.add-value.result ≡ value (c.loop-j.j + 1) (entry c.args.coefficients.now) c.args.r =
    c.add-value.ensures ∙ rw (c.mul.ensures, c.loop-j.invariant.so_far) (sym (value_more c.loop-j.j (entry c.args.coefficients.now) c.args.r)) in
    record {
      len = long c.loop-j.quotient 16 c.loop-j.j c.add-value.result c.loop-j.invariant.len;
      so_far = more;
      done = written c.loop-j.quotient c.loop-j.j c.add-value.result (quotient (entry c.args.coefficients.now) c.args.r) (omega arith) c.loop-j.invariant.done
          (more ∙ ap (λ n. value n (entry c.args.coefficients.now) c.args.r) (add-one c.loop-j.j));
    }
