use Rattle.std.proofs.Common.{◌∙◌, ap, unwrap_or}
use Rattle.ec_brick.specs.State.{state}
use Rattle.ec_brick.proofs.Locking.{release_meets, released_waiters}
use Rattle.ec_brick.proofs.brick.Brick.release.Goals as goal

pub returns-clause-step : goal.returns-clause-step
returns-clause-step c = λ m. release_meets (state c.args.self.now m) c.args.grant c.release.new.self c.unwrap_or.result c.in_ok-release.ensures.ok (c.unwrap_or.ensures ∙ ap (unwrap_or c.in_ok-release.field-0) c.new-nobody.ensures ∙ released_waiters c.args.self.now.locks c.args.grant c.in_ok-release.field-0 c.in_ok-release.ensures.stood c.in_ok-release.ensures.granted)
