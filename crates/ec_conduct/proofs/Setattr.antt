-- The history of a setattr.
use Rattle.std.proofs.Common.{true, refl, lit≤, ◌++◌, Some}
use Rattle.ec_attr.specs.Bricks.{bricks_below, count_below}
use Rattle.ec_attr.specs.GoodGroup.{agree, greatest_below}
use Rattle.ec_wire.specs.declared.answer.Answer.TheVariants.{Attr as AttrIs}
use Rattle.ec_wire.specs.declared.op.Op.{Op}
use Rattle.ec_wire.specs.declared.op.Op.TheVariants.{SetAttr}
use Rattle.ec_wire.specs.declared.reply.Reply.TheVariants.{Done}
use Rattle.ec_wire.specs.declared.request.Request.TheVariants.{Clear, PostOp}
use Rattle.ec_conduct.specs.Account.{Account, account_from}
use Rattle.ec_conduct.specs.Conduct.{Keeps, KeepsFrom}
use Rattle.ec_conduct.specs.Examples.{answered, begun, clears, file, grant_at, new_file, other_attr, post_ops, releases, whole_setattr}
use Rattle.ec_conduct.proofs.Examples.{begun_keeps, each, free, prepared, running}
use Rattle.ec_conduct.proofs.Fronts.{join_from, round_keeps}

abbrev set_op : Op
set_op = SetAttr file other_attr

abbrev set_posted : Account
set_posted = account_from (prepared set_op) (post_ops file 0 1 0 (Some other_attr) 19)

abbrev set_clean : Account
set_clean = account_from set_posted (clears file 1 25)

set_post_ops : KeepsFrom (prepared set_op) (post_ops file 0 1 0 (Some other_attr) 19)
unfolding bricks_below count_below agree greatest_below
set_post_ops = round_keeps (prepared set_op) 19 (λ b. PostOp file (grant_at b) 0 1 0 (Some other_attr)) Done
    (free _ _ _ (refl, lit≤ tt, refl, refl), record { grant_held = refl; head = new_file; group = refl; whole = record { done = refl; all = (refl, refl) }; quorum = record { which = λ x. true; enough = lit≤ tt; each = each _ (λ e. (refl, record { done = refl; all = (refl, refl) })) (λ e. (refl, record { done = refl; all = (refl, refl) })) (λ e. (refl, record { done = refl; all = (refl, refl) })) }; dirty = 1; pre = refl; version = refl; size_is = refl; attr_is = refl })
    (free _ _ _ (refl, lit≤ tt, refl, refl), record { grant_held = refl; head = new_file; group = refl; whole = record { done = refl; all = (refl, refl) }; quorum = record { which = λ x. true; enough = lit≤ tt; each = each _ (λ e. (refl, record { done = refl; all = (refl, refl) })) (λ e. (refl, record { done = refl; all = (refl, refl) })) (λ e. (refl, record { done = refl; all = (refl, refl) })) }; dirty = 1; pre = refl; version = refl; size_is = refl; attr_is = refl })
    (free _ _ _ (refl, lit≤ tt, refl, refl), record { grant_held = refl; head = new_file; group = refl; whole = record { done = refl; all = (refl, refl) }; quorum = record { which = λ x. true; enough = lit≤ tt; each = each _ (λ e. (refl, record { done = refl; all = (refl, refl) })) (λ e. (refl, record { done = refl; all = (refl, refl) })) (λ e. (refl, record { done = refl; all = (refl, refl) })) }; dirty = 1; pre = refl; version = refl; size_is = refl; attr_is = refl })

set_clears : KeepsFrom set_posted (clears file 1 25)
unfolding bricks_below count_below agree greatest_below
set_clears = round_keeps set_posted 25 (λ b. Clear file (grant_at b) 1) Done
    (free _ _ _ (refl, lit≤ tt, refl, refl), record { grant_held = refl; unmarked = refl; posted = each _ refl refl refl })
    (free _ _ _ (refl, lit≤ tt, refl, refl), record { grant_held = refl; unmarked = refl; posted = each _ refl refl refl })
    (free _ _ _ (refl, lit≤ tt, refl, refl), record { grant_held = refl; unmarked = refl; posted = each _ refl refl refl })

set_ends : KeepsFrom set_clean (releases file 31 ++ answered (AttrIs other_attr))
unfolding bricks_below count_below agree greatest_below
set_ends = (
  (running _ _ (refl, lit≤ tt), record { asked = refl; idle = each _ refl refl refl }),
  (
    (running _ _ (refl, lit≤ tt), record { asked = refl; idle = each _ refl refl refl }),
    (
      (running _ _ (refl, lit≤ tt), record { asked = refl; idle = each _ refl refl refl }),
      ((refl, record { which = λ x. true; enough = lit≤ tt; each = each _ (λ e. (refl, refl)) (λ e. (refl, refl)) (λ e. (refl, refl)) }), tt),
    ),
  ),
)

pub setattr_keeps : Keeps (begun set_op) whole_setattr
setattr_keeps =
    let ends = releases file 31 ++ answered (AttrIs other_attr) in
    let clear = clears file 1 25 ++ ends in
    let post = post_ops file 0 1 0 (Some other_attr) 19 ++ clear in
    begun_keeps set_op post refl
    (join_from (prepared set_op) (post_ops file 0 1 0 (Some other_attr) 19) clear set_post_ops
    (join_from set_posted (clears file 1 25) ends set_clears set_ends))
