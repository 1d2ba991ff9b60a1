use Rattle.ec_txn.proofs.Answers.{comes_to, nothing_past}
use Rattle.ec_txn.proofs.opening.come_to.Goals as goal

pub group-requires : goal.group-requires
group-requires c = λ b l. nothing_past c.args.known.now c.answers.result c.args.geometry.now.n b c.requires l (c.answers.ensures b)

pub returns : goal.returns
returns c = λ a e s. comes_to c.args.known.now c.answers.result c.args.geometry.now c.group.result a _ e s c.answers.ensures c.group.ensures.grouped
