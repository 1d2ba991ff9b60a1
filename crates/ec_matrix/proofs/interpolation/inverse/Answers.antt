use Rattle.std.proofs.Common.{◌≡◌, ℕ, ◌<◌, ◌∙◌, get_or, arith}
use Rattle.ec_matrix.specs.Polynomial.{master}
use Rattle.ec_matrix.proofs.Steps.{entry, column_entry, column_of_basis, column_of_values, column_ext, master_ext, with_column}
use Rattle.ec_matrix.proofs.Points.{point}
use Rattle.ec_matrix.proofs.Algorithms.{inverse_of}
use Rattle.ec_matrix.proofs.interpolation.inverse.Goals as goal
use Rattle.ec_matrix.proofs.interpolation.inverse.Goals.{then-algorithm-eq0, else-algorithm-eq0}

pub loop-i-preserved : goal.loop-i-preserved
loop-i-preserved c j m h l =
    let k : ℕ = c.args.k in
    let all : ℕ → ℕ = entry c.master-master.result in
    let r : ℕ = get_or c.points-points.result c.loop-i.i 0 in
    let here : get_or c.if-algorithm-eq0.column j 0 ≡ column_entry c.args.algorithm k all r j =
    elim c.if-algorithm-eq0.branch [
      | then-algorithm-eq0 w ↦ rw w.column-is (column_of_basis c.args.algorithm k all r c.basis-basis.result w.if-algorithm-eq0.true c.basis-basis.ensures j h)
      | else-algorithm-eq0 w ↦ rw w.column-is (column_of_values c.args.algorithm k all r c.basis-basis.result w.values-column.result w.if-algorithm-eq0.false c.basis-basis.ensures w.values-column.ensures j h)
    ] in
    with_column c.loop-i.cells c.set_column.new.cells c.if-algorithm-eq0.column c.loop-i.i j m (λ i. column_entry c.args.algorithm k all (get_or c.points-points.result i 0) j)
    (c.set_column.ensures j m (omega arith)) (λ b. c.loop-i.invariant j m h b) here l

pub returns : goal.returns
returns c =
    let k : ℕ = c.args.k in
    let bits : ℕ = c.args.which.now in
    let all : ℕ → ℕ = entry c.master-master.result in
    let each : (i : ℕ) → i < k → get_or c.points-points.result i 0 ≡ point bits i = λ i l. c.points-points.ensures i (omega (arith, c.requires.bricks)) in
    inverse_of c.args.algorithm k bits c.loop-i.cells c.requires.most c.requires.bricks
    (λ j i l h. c.loop-i.invariant j i l (omega (arith, c.from-i-end.ensures))
    ∙ column_ext c.args.algorithm k all (master (point bits) k) (get_or c.points-points.result i 0) (point bits i) (each i h)
    (λ q m. c.master-master.ensures q (omega arith) ∙ master_ext k (entry c.points-points.result) (point bits) each q) j l)
