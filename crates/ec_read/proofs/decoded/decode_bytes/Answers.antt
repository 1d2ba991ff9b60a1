use Rattle.std.proofs.Common.{◌≡◌, ℕ, ◌+◌, ◌-◌, ◌*◌, ◌<◌, ◌≤◌, length, sym, ap, subst, ◌∙◌, arith}
use Rattle.ec_read.specs.Decoded.{AreBytes, IsDecoded}
use Rattle.ec_read.proofs.Parts.{HasBytes, all_joined, stripe_joined}
use Rattle.ec_txn.specs.Replies.{reply_at}
use Rattle.ec_read.proofs.decoded.decode_bytes.Goals as goal

pub loop-i-preserved : goal.loop-i-preserved
loop-i-preserved g c =
    let k : ℕ = c.from-k.result in
    let first : ℕ = c.args.reading.now.first in
    let replies = reply_at c.args.known.now.replies.items.items in
    let algorithm : ℕ = c.args.geometry.now.algorithm in
    let out = c.decode_stripe.new.out in
    let place : ℕ = c.stripe_bytes-size.result * (first + c.from.result) in
    let same : k ≡ c.args.geometry.now.n - c.args.geometry.now.r = omega (arith, c.k.ensures.value, c.from-k.ensures) in
    let here : place ≡ 512 * k * (first + c.loop-i.i) =
    ap (λ (s : ℕ). s * (first + c.from.result)) (c.stripe_bytes-size.ensures.value ∙ ap (λ (m : ℕ). 512 * m) (sym same)) ∙ ap (λ (j : ℕ). 512 * k * (first + j)) c.from.ensures in
    let long : length out ≡ k = c.decode_stripe.auto.out ∙ c.loop-i.invariant.len in
    let some : 0 < k = (let m = c.k.ensures.geometry.least in omega (arith, m, same)) in
    let decoded : IsDecoded k algorithm c.args.which.now replies c.loop-i.i out =
    subst (λ (m : ℕ). IsDecoded m algorithm c.args.which.now replies c.loop-i.i out) c.loop-i.invariant.len
    (subst (λ (m : ℕ). IsDecoded (length c.loop-i.stripe) m c.args.which.now replies c.loop-i.i out) c.new-decoder.ensures.algorithm c.decode_stripe.ensures) in
    record {
      len = long;
      has = stripe_joined k algorithm c.args.which.now replies first c.args.off c.args.end c.loop-i.i place out c.loop-i.bytes c.add_stripe.new.bytes here some long decoded c.loop-i.invariant.has c.in_ok-add_stripe.ensures;
    }

pub returns : goal.returns
returns g c =
    let k : ℕ = c.from-k.result in
    let first : ℕ = c.args.reading.now.first in
    let count : ℕ = c.args.reading.now.count in
    let replies = reply_at c.args.known.now.replies.items.items in
    let algorithm : ℕ = c.args.geometry.now.algorithm in
    let same : k ≡ c.args.geometry.now.n - c.args.geometry.now.r = omega (arith, c.k.ensures.value, c.from-k.ensures) in
    let all : c.loop-i.i ≡ count = omega arith in
    subst (λ (m : ℕ). AreBytes m algorithm c.args.which.now replies first c.args.off c.args.end c.loop-i.bytes) same
    (all_joined k algorithm c.args.which.now replies first c.args.off c.args.end count c.loop-i.bytes
    (subst (λ (j : ℕ). HasBytes k algorithm c.args.which.now replies first c.args.off c.args.end j c.loop-i.bytes) all c.loop-i.invariant.has)
    (λ l. subst (λ (m : ℕ). c.args.end ≤ 512 * m * (first + count)) (sym same) (c.requires.last l)))
