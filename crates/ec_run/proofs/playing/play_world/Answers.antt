use Rattle.std.proofs.Common.{sym}
use Rattle.ec_play.specs.contracts.world.WorldMeans.TheImpl.{ghosts as world}
use Rattle.ec_run.proofs.ConsistencyLemmas.{log_since}
use Rattle.ec_run.proofs.playing.play_world.Goals as goal

pub returns-clause-script : goal.returns-clause-script
returns-clause-script g c = λ bricks stands. rw (c.requires.stores, c.finish.ensures) (c.play-status.ensures.script bricks stands)

pub returns-clause-since : goal.returns-clause-since
returns-clause-since g c = log_since world.meaning c.args.world c.play-status.new.stage c.finish.result c.play-status.result (sym c.finish.ensures) c.play-status.ensures.since
