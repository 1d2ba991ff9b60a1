use Rattle.std.proofs.Common.{◌≡◌, ℕ, ◌++◌, arith, ap, sym, subst, ◌∙◌, append-nil, List, Option}
use Rattle.ec_conduct.specs.Account.{Account}
use Rattle.ec_conduct.specs.Table.{Send, to_bricks}
use Rattle.ec_wire.specs.declared.request.Request.{Request}
use Rattle.ec_txn.specs.Lists.{Extends}
use Rattle.ec_txn.specs.Rounds.{one}
use Rattle.ec_txn.specs.Tables.{Sees}
use Rattle.ec_txn.proofs.Extending.{extends_more, extends_none, sends_more}
use Rattle.ec_txn.proofs.round.ask.Goals as goal

pub loop-brick-init : goal.loop-brick-init
loop-brick-init g c = record { sends = λ a s. sym (append-nil c.args.sends.now); within = extends_none c.args.ctx.now.geometry.n c.args.sends.now }

pub loop-brick-preserved : goal.loop-brick-preserved
loop-brick-preserved g c = record {
  sends = λ a s. sends_more c.loop-brick.brick (λ x. one ((g.P.Plan.table c.args.ctx.now).asks c.args.stage.now a x)) c.args.sends.now c.loop-brick.sends c.push.new.sends (one c.in_ok-request.request) (c.loop-brick.invariant.sends a s) c.in_ok-push.ensures (ap one (c.in_ok-request.ensures a s));
  within = extends_more c.args.ctx.now.geometry.n c.loop-brick.brick c.args.sends.now c.loop-brick.sends c.push.new.sends c.in_ok-request.request c.loop-brick-test.true c.in_ok-push.ensures c.loop-brick.invariant.within;
}

pub returns : goal.returns
returns g c =
    let e : c.loop-brick.brick ≡ c.args.ctx.now.geometry.n = omega (arith, c.loop-brick-test.false, c.loop-brick.auto.brick-end) in
    record {
      sends = λ a s. c.loop-brick.invariant.sends a s ∙ ap (λ (n : ℕ). c.args.sends.now ++ to_bricks n (λ x. one ((g.P.Plan.table c.args.ctx.now).asks c.args.stage.now a x))) e;
      within = subst (λ (n : ℕ). Extends c.args.ctx.now.geometry.n n c.args.sends.now c.loop-brick.sends) e c.loop-brick.invariant.within;
    }
