use Rattle.ec_matrix.proofs.Steps.{master_step, master_start, entry}
use Rattle.ec_matrix.proofs.polynomial.master.Goals as goal

pub loop-i-init : goal.loop-i-init
loop-i-init c j l = master_start (entry c.args.points.now) j

pub loop-i-preserved : goal.loop-i-preserved
loop-i-preserved c = master_step (entry c.args.points.now) 17 c.loop-i.i c.loop-i.coefficients c.multiply_by_root.new.coefficients c.loop-i.invariant c.multiply_by_root.ensures
