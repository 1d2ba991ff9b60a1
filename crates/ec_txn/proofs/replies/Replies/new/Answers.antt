use Rattle.std.proofs.Common.{◌≡◌, ℕ, arith, refl, None, [], ◌∷◌, ◌++◌, length, length-append, subst, sym, ap, ◌∙◌, List, Option, get_or}
use Rattle.ec_wire.specs.declared.reply.Reply.{Reply}
use Rattle.ec_txn.specs.Replies.{reply_at}
use Rattle.ec_txn.proofs.Places.{none_more}
use Rattle.ec_txn.proofs.replies.Replies.new.Goals as goal

pub loop-init : goal.loop-init
loop-init c = rw c.in_ok-items.ensures.items (record { len = refl; none = λ x. refl })

pub loop-preserved : goal.loop-preserved
loop-preserved c = record {
  len = ap (λ (xs : List (Option Reply)). length xs) c.in_ok-push.ensures.items ∙ omega (arith, c.loop.invariant.len, length-append c.loop.items.items (None ∷ []));
  none = λ x. ap (λ (xs : List (Option Reply)). reply_at xs x) c.in_ok-push.ensures.items ∙ none_more c.loop.items.items c.loop.invariant.none x;
}

pub returns : goal.returns
returns c = record { len = omega (arith, c.loop.invariant.len, c.loop-test.false, c.loop.auto.counter-end, c.loop.items.ok.0); none = c.loop.invariant.none }
