use Rattle.std.proofs.Common.{arith}
use Rattle.ec_matrix.proofs.Algorithms.{systematic_entry}
use Rattle.ec_matrix.proofs.Steps.{written, unwritten, long, systematic_value}
use Rattle.ec_matrix.proofs.vandermonde.systematic.Goals as goal

pub loop-i-preserved : goal.loop-i-preserved
loop-i-preserved c =
    rw c.from.ensures (record {
      len = long c.loop-i.row 16 c.loop-i.i c.value.result c.loop-i.invariant.len;
      done = written c.loop-i.row c.loop-i.i c.value.result (systematic_entry c.args.k c.args.b) (omega arith) c.loop-i.invariant.done (systematic_value c.args.k c.args.b c.loop-i.i c.requires.k c.master-master.result c.basis.result c.value.result c.master-master.ensures c.basis.ensures c.value.ensures);
      left = unwritten c.loop-i.row c.loop-i.i c.value.result (λ i. 0) c.loop-i.invariant.left;
    })
