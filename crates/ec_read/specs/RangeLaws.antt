-- How many stripes a range has.
use Rattle.std.proofs.Common.{◌≡◌, ℕ, ◌+◌, ◌-◌, ◌*◌, ◌/◌, ◌^◌, ◌<◌, ◌≤◌, arith}
use Rattle.std.proofs.Math.Nat.{lt-mul-div-succ, mul-div-le, lt_of_mul-lt-mul_left}
use Rattle.ec_stripe.specs.Span.{stripe_bytes}
use Rattle.ec_read.specs.Range.{end_of, stripes_to}

-- a file has at most 2^30 stripes
last_below : (m e : ℕ) → 1024 ≤ m → e ≤ 2 ^ 40 → (e - 1) / m < 2 ^ 30
last_below m e l most =
    let under : m * ((e - 1) / m) ≤ e - 1 = mul-div-le (e - 1) m in
    let more : 2 ^ 40 ≤ m * 2 ^ 30 = omega (arith, l) in
    let less : m * ((e - 1) / m) < m * 2 ^ 30 = omega arith in
    lt_of_mul-lt-mul_left m less

-- where a byte lies before the end, so does its stripe
in_order : (m off e : ℕ) → 0 < m → off < e → off / m ≤ (e - 1) / m
in_order m off e pos l =
    let under : m * (off / m) ≤ off = mul-div-le off m in
    let past : e - 1 < m * ((e - 1) / m + 1) = lt-mul-div-succ (e - 1) pos in
    let less : m * (off / m) < m * ((e - 1) / m + 1) = omega arith in
    let w : off / m < (e - 1) / m + 1 = lt_of_mul-lt-mul_left m less in
    omega arith

pub end_most : (off len size : ℕ) → end_of off len size ≤ 2 ^ 40
end_most off len size = omega arith

pub few_stripes : (k off len size : ℕ) → 2 ≤ k → off < end_of off len size → off / stripe_bytes k + (stripes_to k (end_of off len size) - off / stripe_bytes k) ≤ 2 ^ 30
few_stripes k off len size l less =
    let m : ℕ = stripe_bytes k in
    let e : ℕ = end_of off len size in
    let a = last_below m e (omega (arith, l)) (end_most off len size) in
    let b = in_order m off e (omega (arith, l)) less in
    omega (arith, a, b)

-- the same where some stripe is read
pub few_read : (m off e : ℕ) → 1024 ≤ m → e ≤ 2 ^ 40 → 0 < (e - 1) / m + 1 - off / m → off / m + ((e - 1) / m + 1 - off / m) ≤ 2 ^ 30
few_read m off e l most some = let a = last_below m e l most in omega (arith, a, some)

-- the stripes hold the range
pub begins_before : (m off : ℕ) → m * (off / m) ≤ off
begins_before m off = mul-div-le off m

pub ends_past : (m off e : ℕ) → 0 < m → off < e → e ≤ m * (off / m + ((e - 1) / m + 1 - off / m))
ends_past m off e pos l =
    let b = in_order m off e pos l in
    let past : e - 1 < m * ((e - 1) / m + 1) = lt-mul-div-succ (e - 1) pos in
    let same : off / m + ((e - 1) / m + 1 - off / m) ≡ (e - 1) / m + 1 = omega (arith, b) in
    rw same (omega (arith, past, l))
