use Rattle.std.proofs.Common.{◌≡◌, sym, subst, arith, ℕ}
use Rattle.ec_txn.specs.Replies.{reply_at}
use Rattle.ec_entry.specs.Paging.{IsLeast, end_in, paged}
use Rattle.ec_entry.proofs.paging.upto.Goals as goal

pub loop-brick-init : goal.loop-brick-init
loop-brick-init c = λ x l. absurd (omega arith)

pub loop-brick-preserved : goal.loop-brick-preserved
loop-brick-preserved c = c.lesser-least.ensures c.loop-brick.brick (λ x. end_in (paged c.args.bricks.now (reply_at c.args.known.now.replies.items.items) x)) (sym c.in_ok-end.ensures) c.loop-brick.invariant

pub returns : goal.returns
returns c =
    let all : c.loop-brick.brick ≡ 31 = omega arith in
    subst (λ (b : ℕ). IsLeast b (λ x. end_in (paged c.args.bricks.now (reply_at c.args.known.now.replies.items.items) x)) c.loop-brick.least) all c.loop-brick.invariant
