use Rattle.std.proofs.Common.{◌∙◌, ap}
use Rattle.ec_txn.specs.Rounds.{subject}
use Rattle.ec_entry.proofs.Makes.{subject_of}
use Rattle.ec_entry.proofs.make.MakeWork.gfid.Goals as goal

pub returns : goal.returns
returns g c = λ given fit. ap subject fit ∙ subject_of c.args.self.now.kind c.args.self.now.parent.0 c.args.self.now.name
