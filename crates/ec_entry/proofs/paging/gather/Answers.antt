use Rattle.std.proofs.Common.{subst, ◌∙◌, option_copied, List, ℕ}
use Rattle.std.proofs.lemmas.List.{take_all}
use Rattle.std.specs.BTreeMap.{get}
use Rattle.std.specs.Cmp.Lexicographic.{slice_cmp}
use Rattle.std.specs.Ordering.{nat_cmp}
use Rattle.ec_store.specs.Pages.{Page}
use Rattle.ec_txn.specs.Replies.{reply_at}
use Rattle.ec_entry.specs.Paging.{Gathers, paged}
use Rattle.ec_entry.proofs.Gathering.{gathers_none, gathers_step}
use Rattle.ec_entry.proofs.paging.gather.Goals as goal

pub loop-name-init : goal.loop-name-init
loop-name-init c = gathers_none c.args.k (paged c.args.bricks.now (reply_at c.args.known.now.replies.items.items)) (option_copied c.args.after) (option_copied c.args.upto) (get (slice_cmp nat_cmp) c.args.names.now)

pub loop-name-preserved : goal.loop-name-preserved
loop-name-preserved c = gathers_step c.args.k (paged c.args.bricks.now (reply_at c.args.known.now.replies.items.items)) (option_copied c.args.after) (option_copied c.args.upto)
    c.items-name-items.result.now c.loop-name.name-index c.loop-name-item.result (get (slice_cmp nat_cmp) c.args.names.now) (get (slice_cmp nat_cmp) c.loop-name.names) (get (slice_cmp nat_cmp) c.gather_one.new.names)
    c.loop-name-item.is c.loop-name-test.true c.in_ok-gather_one.ensures c.loop-name.invariant

pub returns : goal.returns
returns c = subst (λ (page : Page). Gathers c.args.k (paged c.args.bricks.now (reply_at c.args.known.now.replies.items.items)) (option_copied c.args.after) (option_copied c.args.upto) page (get (slice_cmp nat_cmp) c.args.names.now) (get (slice_cmp nat_cmp) c.loop-name.names))
    (take_all c.loop-name.name-index c.items-name-items.result.now c.loop-name-test.false ∙ c.items-name-items.ensures) c.loop-name.invariant
