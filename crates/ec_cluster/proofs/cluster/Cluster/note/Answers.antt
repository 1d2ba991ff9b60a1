-- One entry more.
use Rattle.ec_cluster.proofs.Advancing.{noted, on_ok}
use Rattle.ec_cluster.proofs.cluster.Cluster.note.Goals as goal

pub returns-clause-ok : goal.returns-clause-ok
returns-clause-ok c = on_ok c.push.result _ _ (noted c.args.self.now c.push.new.self c.args.entry c.requires.sound c.requires.kind) c.push.ensures.ok
