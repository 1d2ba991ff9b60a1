use Rattle.std.proofs.Common.{◌≡◌, ℕ, length, subst, ◌∙◌, arith}
use Rattle.std.proofs.lemmas.List.{length-take-le}
use Rattle.ec_stripe.specs.Codes.{AreCodes}
use Rattle.ec_txn.specs.Replies.{reply_at}
use Rattle.ec_read.proofs.Gathered.{decoded_by}
use Rattle.ec_read.proofs.decoded.decode_stripe.Goals as goal

pub returns : goal.returns
returns g c =
    let k : ℕ = length c.args.out.now in
    let pieces = c.gather.new.pieces in
    let same : length pieces ≡ k = c.gather.auto.pieces ∙ length-take-le _ _ (omega (arith, c.requires.few, c.requires.places)) in
    decoded_by k c.args.decoder.now.algorithm c.args.which.now c.args.at (reply_at c.args.known.now.replies.items.items) pieces c.decode.new.out same c.requires.places
    (λ i l. c.gather.ensures i (omega (arith, same, c.gather.auto.pieces)))
    c.decode.ensures.stripe (subst (λ bits. AreCodes c.args.decoder.now.algorithm bits c.decode.new.out pieces) c.requires.bits c.decode.ensures.codes)
