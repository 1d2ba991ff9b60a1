use Rattle.std.proofs.Common.{sym, option_copied}
use Rattle.std.proofs.lemmas.Result.{on_ok_weaker}
use Rattle.std.specs.BTreeMap.{get}
use Rattle.std.specs.Cmp.Lexicographic.{slice_cmp}
use Rattle.std.specs.Ordering.{nat_cmp}
use Rattle.ec_txn.specs.Replies.{reply_at}
use Rattle.ec_entry.specs.Paging.{paged}
use Rattle.ec_entry.proofs.Gathering.{gathers_page, gathers_skip}
use Rattle.ec_entry.proofs.paging.gather_at.Goals as goal

pub returns-in_default : goal.returns-in_default
returns-in_default c = λ h. gathers_skip c.args.k (paged c.args.bricks.now (reply_at c.args.known.now.replies.items.items)) (option_copied c.args.after) (option_copied c.args.upto) c.args.brick (get (slice_cmp nat_cmp) c.args.names.now) (sym c.in_default.ensures) h

pub returns : goal.returns
returns c = on_ok_weaker c.gather.result (λ g. λ h. gathers_page c.args.k (paged c.args.bricks.now (reply_at c.args.known.now.replies.items.items)) (option_copied c.args.after) (option_copied c.args.upto) c.args.brick c.in-Some.page.now
    (get (slice_cmp nat_cmp) c.args.names.now) (get (slice_cmp nat_cmp) c.gather.new.names) (sym c.in-Some.ensures) g h) c.gather.ensures
