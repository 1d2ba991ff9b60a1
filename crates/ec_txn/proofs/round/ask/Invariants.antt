use Rattle.std.proofs.Common.{◌≡◌, ◌++◌}
use Rattle.ec_conduct.specs.Account.{Account}
use Rattle.ec_conduct.specs.Table.{to_bricks}
use Rattle.ec_txn.specs.Lists.{Extends}
use Rattle.ec_txn.specs.Rounds.{one}
use Rattle.ec_txn.specs.Tables.{Sees}
use Rattle.ec_txn.proofs.round.ask.Given as goal

abbrev pub invariant-loop-brick : goal.invariant-loop-brick
invariant-loop-brick g l = record {
  sends : (c : Account) → Sees l.ctx (g.P.Plan.fits l.plan) l.known c → l.sends ≡ l.fn.sends ++ to_bricks l.brick (λ x. one ((g.P.Plan.table l.ctx).asks l.stage c x));
  within : Extends l.ctx.geometry.n l.brick l.fn.sends l.sends;
}
