-- One request is sent.
use Rattle.std.proofs.Common.{refl}
use Rattle.ec_cluster.proofs.Advancing.{on_ok, sends_request}
use Rattle.ec_cluster.proofs.cluster.Cluster.send.Goals as goal

pub returns-clause-ok : goal.returns-clause-ok
returns-clause-ok c = on_ok c.put.result _ _ (sends_request c.args.self.now c.put.new.self _ c.args.request c.requires.sound refl c.requires.to c.requires.fit c.are_chunks.ensures) c.put.ensures.ok
