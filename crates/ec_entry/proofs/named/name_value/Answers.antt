use Rattle.std.proofs.Common.{◌≡◌, ℕ, ◌≤◌, arith, subst, ◌∙◌}
use Rattle.ec_entry.specs.Named.{count_of, said}
use Rattle.ec_txn.specs.Replies.{reply_at}
use Rattle.ec_entry.proofs.Naming.{all_alike, none_said}
use Rattle.ec_entry.proofs.named.name_value.Goals as goal

pub returns-in_default-lowest : goal.returns-in_default-lowest
returns-in_default-lowest c =
    let none = none_said (said c.args.bricks.now (reply_at c.args.known.now.replies.items.items)) c.in_default-lowest.ensures.none in
    let zero : c.count_replies-replies.result ≡ 0 = c.count_replies-replies.ensures ∙ none in
    absurd (omega (arith, zero, c.if-replies-k.false, c.requires))

pub returns-in-None : goal.returns-in-None
returns-in-None c =
    let e : c.count_replies-replies.result ≡ count_of (said c.args.bricks.now (reply_at c.args.known.now.replies.items.items)) c.in-Some-lowest.first = c.count_replies-replies.ensures ∙ all_alike (said c.args.bricks.now (reply_at c.args.known.now.replies.items.items)) c.in-Some-lowest.first c.in-None.ensures.none in
    subst (λ (m : ℕ). c.args.k ≤ m) e c.if-replies-k.false
