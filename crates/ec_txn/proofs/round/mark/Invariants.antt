use Rattle.std.proofs.Common.{◌≡◌, ◌+◌, vec_len, drop}
use Rattle.ec_txn.specs.Digest.{all_sent, place_at}
use Rattle.ec_txn.proofs.round.mark.Given as goal

abbrev pub invariant-loop-index : goal.invariant-loop-index
invariant-loop-index l = record {
  sent : all_sent (place_at l.known.places.items) (l.next + l.index) (drop l.index l.sends) ≡ all_sent (place_at l.fn.known.places.items) l.next l.sends;
  replies : l.known.replies ≡ l.fn.known.replies;
  same : vec_len l.known.places ≡ vec_len l.fn.known.places;
}
