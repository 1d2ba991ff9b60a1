use Rattle.std.proofs.Common.{◌≡◌, ap, subst, arith, option_copied, ℕ}
use Rattle.std.specs.BTreeMap.{get, is_at}
use Rattle.std.specs.Cmp.Lexicographic.{slice_cmp}
use Rattle.std.specs.Map.{lookup}
use Rattle.std.specs.Ordering.{nat_cmp}
use Rattle.ec_txn.specs.Replies.{reply_at}
use Rattle.ec_entry.specs.Paging.{Entries, GathersBelow, paged}
use Rattle.ec_entry.proofs.Gathering.{gathers_start}
use Rattle.ec_entry.proofs.paging.gather_all.Goals as goal

pub loop-brick-init : goal.loop-brick-init
loop-brick-init c = gathers_start c.args.k (paged c.args.bricks.now (reply_at c.args.known.now.replies.items.items)) (option_copied c.args.after) (option_copied c.args.upto) (get (slice_cmp nat_cmp) c.new-names.result)
    (λ n. ap (λ (es : Entries). lookup (is_at (slice_cmp nat_cmp n)) es) c.new-names.ensures.empty)

pub loop-brick-preserved : goal.loop-brick-preserved
loop-brick-preserved c = c.in_ok-gather_at.ensures c.loop-brick.invariant

pub returns : goal.returns
returns c =
    let all : c.loop-brick.brick ≡ 31 = omega arith in
    subst (λ (b : ℕ). GathersBelow c.args.k b (paged c.args.bricks.now (reply_at c.args.known.now.replies.items.items)) (option_copied c.args.after) (option_copied c.args.upto) (get (slice_cmp nat_cmp) c.loop-brick.names)) all c.loop-brick.invariant
