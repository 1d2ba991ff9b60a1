use Rattle.std.proofs.Common.{◌≡◌, ℕ, ◌+◌, ◌-◌, ◌*◌, ◌/◌, ◌<◌, ◌≤◌, length, sym, subst, arith}
use Rattle.ec_attr.specs.Bricks.{bricks, count_below, is_in}
use Rattle.ec_attr.proofs.Sets.{len}
use Rattle.ec_stripe.specs.Span.{stripe_bytes}
use Rattle.ec_read.specs.Range.{end_of}
use Rattle.ec_read.specs.RangeLaws.{ends_past}
use Rattle.ec_txn.specs.declared.reading.Reading.{Reading}
use Rattle.ec_read.proofs.read.Read.after_reading.Goals as goal

pub decode_bytes-requires-clause-which : goal.decode_bytes-requires-clause-which
decode_bytes-requires-clause-which g c =
    let which = c.givers-which.result in
    let l : length (bricks which) ≡ count_below 31 (is_in which) = len 31 (is_in which) in
    let most = c.givers-which.ensures.many in
    let enough = c.if-most-k.false in
    let done = c.count_done-most.ensures in
    omega (arith, l, most, enough, done, c.k.ensures.value, c.k-2.ensures.value)

pub decode_bytes-requires-clause-last : goal.decode_bytes-requires-clause-last
decode_bytes-requires-clause-last g c = λ less.
    let k : ℕ = c.args.ctx.now.geometry.n - c.args.ctx.now.geometry.r in
    let off : ℕ = c.args.self.now.off in
    let e : ℕ = end_of off c.args.self.now.len c.args.size in
    let is : c.end_of-end.result ≡ e = c.end_of-end.ensures.value in
    let some : 0 < stripe_bytes k = (let m = c.k.ensures.geometry.least in omega (arith, m)) in
    subst (λ (r : Reading). c.end_of-end.result ≤ 512 * k * (r.first + r.count)) (sym c.reading_by-reading.ensures.value)
    (subst (λ (n : ℕ). n ≤ 512 * k * (off / stripe_bytes k + ((e - 1) / stripe_bytes k + 1 - off / stripe_bytes k))) (sym is)
    (ends_past (stripe_bytes k) off e some (subst (λ (n : ℕ). off < n) is less)))
