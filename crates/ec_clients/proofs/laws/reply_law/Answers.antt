use Rattle.std.proofs.Common.{arith}
use Rattle.ec_clients.proofs.Idling.{granted_are, granted_from, replies_are, replies_from}
use Rattle.ec_clients.proofs.laws.reply_law.Goals as goal

pub returns-clause-granted : goal.returns-clause-granted
returns-clause-granted c = λ said b i ws. (granted_are said b i ws, granted_from i said b i ws (omega arith))

pub returns-clause-replies : goal.returns-clause-replies
returns-clause-replies c = λ said q i reply ws. (replies_are said q i reply ws, replies_from i said q i reply ws (omega arith))
