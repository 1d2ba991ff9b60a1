use Rattle.std.proofs.Common.{◌≡◌, length}
use Rattle.ec_txn.specs.Replies.{reply_at}
use Rattle.ec_read.proofs.Parts.{HasBytes}
use Rattle.ec_read.proofs.decoded.decode_bytes.Given as goal

abbrev pub invariant-loop-i : goal.invariant-loop-i
invariant-loop-i g l = record {
  len : length l.stripe ≡ l.k;
  has : HasBytes l.k l.geometry.algorithm l.which (reply_at l.known.replies.items.items) l.reading.first l.off l.end l.i l.bytes;
}
