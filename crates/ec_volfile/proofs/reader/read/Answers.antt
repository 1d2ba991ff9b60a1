use Rattle.ec_volfile.proofs.GrammarLaws.{grammar-outcome}
use Rattle.ec_volfile.proofs.FaultLaws.{fault-outcome}
use Rattle.ec_volfile.proofs.FileLaws.{reads-again}
use Rattle.ec_volfile.specs.Outline.{outline}
use Rattle.ec_volfile.proofs.ReadLaws.{reads-found, reads-fault, reads-volume, reads-words, reads-same}
use Rattle.ec_volfile.proofs.reader.read.Goals as goal

pub returns-clause-found : goal.returns-clause-found
returns-clause-found c = reads-found c.read_file.result c.args.bytes.now c.read_file.ensures

pub returns-clause-only : goal.returns-clause-only
returns-clause-only c = λ o h. reads-same c.read_file.result (grammar-outcome c.args.bytes.now o h) c.read_file.ensures

pub returns-clause-again : goal.returns-clause-again
returns-clause-again c = λ v h. reads-again c.read_file.result v (reads-same c.read_file.result (grammar-outcome c.args.bytes.now (outline v) h) c.read_file.ensures)

pub returns-clause-fault : goal.returns-clause-fault
returns-clause-fault c = reads-fault c.read_file.result c.args.bytes.now c.read_file.ensures

pub returns-clause-first : goal.returns-clause-first
returns-clause-first c = λ n e h. reads-same c.read_file.result (fault-outcome c.args.bytes.now n e h) c.read_file.ensures

pub returns-clause-volume : goal.returns-clause-volume
returns-clause-volume c = reads-volume c.read_file.result c.args.bytes.now c.read_file.ensures

pub returns-clause-words : goal.returns-clause-words
returns-clause-words c = reads-words c.read_file.result c.args.bytes.now c.read_file.ensures
