use Rattle.ec_matrix.proofs.Steps.{entry}
use Rattle.ec_matrix.proofs.Algorithms.{systematic_row, systematic_row_only}
use Rattle.ec_matrix.proofs.vandermonde.row.Goals as goal

pub returns-else-algorithm-eq0-clause-row : goal.returns-else-algorithm-eq0-clause-row
returns-else-algorithm-eq0-clause-row c =
    systematic_row c.args.algorithm c.args.k c.args.b (entry c.systematic.result) c.if-algorithm-eq0.false c.requires.most c.requires.brick c.systematic.ensures.entries

pub returns-else-algorithm-eq0-clause-only : goal.returns-else-algorithm-eq0-clause-only
returns-else-algorithm-eq0-clause-only c =
    systematic_row_only c.args.algorithm c.args.k c.args.b (entry c.systematic.result) c.if-algorithm-eq0.false c.requires.most c.requires.brick c.systematic.ensures.entries
