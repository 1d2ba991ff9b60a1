use Rattle.std.proofs.Common.{option_copied}
use Rattle.ec_txn.specs.Replies.{reply_at}
use Rattle.ec_entry.specs.Paging.{paged}
use Rattle.ec_entry.proofs.Gathering.{on_both, part_of}
use Rattle.ec_entry.proofs.paging.push_part.Goals as goal

pub returns : goal.returns
returns c = on_both c.push_all.result _ _ _ (λ e s. (c.in_ok-names.names.entries, e, part_of c.args.k (paged c.args.bricks.now (reply_at c.args.known.now.replies.items.items)) (option_copied c.args.after) (option_copied c.args.upto) c.in_ok-names.names c.requires s c.in_ok-names.ensures)) c.push_all.ensures.all c.push_all.ensures.ordered
