use Rattle.std.proofs.Common.{◌+◌, arith}
use Rattle.ec_matrix.specs.Polynomial.{value}
use Rattle.ec_matrix.proofs.Steps.{written, long, entry}
use Rattle.ec_matrix.proofs.polynomial.values.Goals as goal

pub loop-j-preserved : goal.loop-j-preserved
loop-j-preserved c =
    rw c.from.ensures (record {
      len = long c.loop-j.values 16 c.loop-j.j c.value.result c.loop-j.invariant.len;
      done = written c.loop-j.values c.loop-j.j c.value.result (λ i. value c.args.k (entry c.args.coefficients.now) (i + 1)) (omega arith) c.loop-j.invariant.done c.value.ensures;
    })
