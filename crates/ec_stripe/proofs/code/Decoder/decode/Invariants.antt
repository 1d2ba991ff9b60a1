use Rattle.std.proofs.Common.{◌≡◌, length}
use Rattle.ec_stripe.proofs.Decoding.{AreDecoded}
use Rattle.ec_stripe.proofs.code.Decoder.decode.Given as goal

abbrev pub invariant-loop-j : goal.invariant-loop-j
invariant-loop-j g l = record {
  len : length l.out ≡ length l.pieces;
  decoded : AreDecoded (length l.pieces) l.j l.self-inside.rows.cells l.pieces l.out;
}
