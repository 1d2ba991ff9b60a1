use Rattle.std.proofs.Common.{◌≡◌, ℕ, length, arith, subst}
use Rattle.ec_stripe.proofs.Decoding.{AreDecoded, codes_of_decoded, inverse_for, only_decoded}
use Rattle.ec_stripe.proofs.code.Decoder.decode.Goals as goal

pub returns-clause-codes : goal.returns-clause-codes
returns-clause-codes g c =
    let d = c.self.inside in
    let purpose = c.args.self.now in
    let pieces = c.args.pieces.now in
    let out = c.loop-j.out in
    let k = length pieces in
    let all : c.loop-j.j ≡ k = omega arith in
    let decoded = subst (λ (n : ℕ). AreDecoded k n d.rows.cells pieces out) all c.loop-j.invariant.decoded in
    let inverse = inverse_for purpose k d.algorithm d.which d.rows.cells c.self.view_is c.requires.pieces c.self.invariant.1 in
    codes_of_decoded k purpose.algorithm purpose.bits d.rows.cells pieces out inverse decoded

pub returns-clause-only : goal.returns-clause-only
returns-clause-only g c =
    let d = c.self.inside in
    let purpose = c.args.self.now in
    let pieces = c.args.pieces.now in
    let out = c.loop-j.out in
    let k = length pieces in
    let all : c.loop-j.j ≡ k = omega arith in
    let decoded = subst (λ (n : ℕ). AreDecoded k n d.rows.cells pieces out) all c.loop-j.invariant.decoded in
    let inverse = inverse_for purpose k d.algorithm d.which d.rows.cells c.self.view_is c.requires.pieces c.self.invariant.1 in
    λ stripe is_stripe codes. only_decoded k purpose.algorithm purpose.bits d.rows.cells pieces out stripe c.loop-j.invariant.len inverse decoded is_stripe codes
