use Rattle.std.proofs.Common.{sym}
use Rattle.ec_volfile.proofs.LineLemmas.{first_line_at, first_line_whole}
use Rattle.ec_volfile.proofs.lines.first_line.Goals as goal

pub returns-in-Some-clause-lines : goal.returns-in-Some-clause-lines
returns-in-Some-clause-lines c = first_line_at c.args.bytes.now c.in-Some.i (sym c.in-Some.ensures)

pub returns-in-None-clause-lines : goal.returns-in-None-clause-lines
returns-in-None-clause-lines c = first_line_whole c.args.bytes.now c.requires (sym c.in-None.ensures)
