-- A reply is taken to be heard.
use Rattle.std.proofs.Common.{sym, ◌∙◌}
use Rattle.ec_cluster.proofs.Advancing.{heard_reply}
use Rattle.ec_cluster.proofs.cluster.Cluster.take_reply.Goals as goal

pub returns-clause-ok : goal.returns-clause-ok
returns-clause-ok c = heard_reply c.args.self.now c.take.new.self c.push.new.self c.args.no c.requires.sound c.take.ensures.gone c.take.ensures.next c.in-Some.message (sym c.take.ensures.message ∙ c.in-Some.is) c.requires.reply c.in_ok-push.ensures.ok
