-- A message is gone.
use Rattle.ec_cluster.proofs.Advancing.{lost}
use Rattle.ec_cluster.proofs.cluster.Cluster.lose.Goals as goal

pub returns-clause-ok : goal.returns-clause-ok
returns-clause-ok c = lost c.args.self.now c.take.new.self c.push.new.self c.args.no c.requires.sound c.take.ensures.gone c.take.ensures.next c.requires.flies c.in_ok-push.ensures.ok
