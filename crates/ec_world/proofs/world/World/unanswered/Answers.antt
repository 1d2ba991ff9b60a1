use Rattle.ec_world.proofs.Whole.{unanswered_is}
use Rattle.ec_world.proofs.world.World.unanswered.Goals as goal

pub held_calls-requires : goal.held_calls-requires
held_calls-requires c = c.requires.world.many

pub returns-in-Ok : goal.returns-in-Ok
returns-in-Ok c = unanswered_is _ _ c.args.self.now.cluster c.args.self.now.clients c.requires.world c.in-Ok.calls c.in-Ok.ensures
