-- How many stripes a range has, and which of them it leaves in part.
use Rattle.std.proofs.Common.{◌≡◌, inl, inr, ℕ, zero, suc, ◌+◌, ◌-◌, ◌*◌, ◌/◌, ◌%◌, ◌^◌, ◌<◌, ◌≤◌, ◌&&◌, not, nat_lt, nat_le, Bool, true, false, cond, refl, sym, ◌∙◌, ap, subst, arith}
use Rattle.std.proofs.Math.Nat.{div-add-mod, lt-mul-div-succ, lt_of_mul-lt-mul_left, mod-lt, mul-div-le}
use Rattle.std.proofs.lemmas.Bool.{cases_Bool}
use Rattle.std.proofs.lemmas.Bool.Decides.{nat_tests}
use Rattle.std.proofs.lemmas.Nat.{div-mul-add}
use Rattle.ec_conduct.specs.Changes.{stripes_of}
use Rattle.ec_stripe.specs.Span.{stripe_bytes}
use Rattle.ec_write.specs.Range.{count_stripes, first_stripe}

-- a quotient goes up by as many as are added to it whole
div_more : (w q a : ℕ) → 0 < w → (w * q + a) / w ≡ q + a / w
div_more w q a pos =
    let parts : w * (a / w) + a % w ≡ a = div-add-mod a w in
    let whole : w * q + a ≡ (q + a / w) * w + a % w = (let u : (q + a / w) * w ≡ w * q + w * (a / w) = omega arith in omega (arith, parts, u)) in
    ap (λ (n : ℕ). n / w) whole ∙ div-mul-add (q + a / w) w (a % w) (mod-lt a pos)

-- the stripes of the whole file up to the end, without those before the first
pub count_same : (k off len : ℕ) → 0 < stripe_bytes k → stripes_of k (off + len) ≡ first_stripe k off + count_stripes k off len
count_same k off len pos =
    let w : ℕ = stripe_bytes k in
    let parts : w * (off / w) + off % w ≡ off = div-add-mod off w in
    let whole : off + len + (w - 1) ≡ w * (off / w) + (off % w + len + (w - 1)) = omega (arith, parts) in
    ap (λ (n : ℕ). n / w) whole ∙ div_more w (off / w) (off % w + len + (w - 1)) pos

pub count_less : (k off len : ℕ) → 0 < stripe_bytes k → stripes_of k (off + len) - off / stripe_bytes k ≡ count_stripes k off len
count_less k off len pos =
    let e : stripes_of k (off + len) ≡ off / stripe_bytes k + count_stripes k off len = count_same k off len pos in
    omega (arith, e)

-- no stripe past 2^30 is written
pub stripes_few : (k off len : ℕ) → 1024 ≤ stripe_bytes k → off + len ≤ 2 ^ 40 → first_stripe k off + count_stripes k off len ≤ 2 ^ 30
stripes_few k off len least most =
    let w : ℕ = stripe_bytes k in
    let n : ℕ = (off + len + (w - 1)) / w in
    let under : w * n ≤ off + len + (w - 1) = mul-div-le (off + len + (w - 1)) w in
    let more : 2 ^ 40 ≤ w * 2 ^ 30 = omega (arith, least) in
    let next : w * (2 ^ 30 + 1) ≡ w * 2 ^ 30 + w = omega arith in
    let less : w * n < w * (2 ^ 30 + 1) = omega (arith, under, more, next, most, least) in
    let l : n < 2 ^ 30 + 1 = lt_of_mul-lt-mul_left w less in
    let same : n ≡ first_stripe k off + count_stripes k off len = count_same k off len (omega (arith, least)) in
    omega (arith, l, same)

-- a range of some bytes has some stripe
pub count_some : (k off len : ℕ) → 0 < stripe_bytes k → 0 < len → 0 < count_stripes k off len
count_some k off len pos some = go (count_stripes k off len) refl
  where
    go : (n : ℕ) → count_stripes k off len ≡ n → 0 < n
    go zero e =
        (let w : ℕ = stripe_bytes k in
        let a : ℕ = off % w + len + (w - 1) in
        let z : a / w ≡ 0 = e in
        let l : a < w * (a / w + 1) = lt-mul-div-succ a pos in
        let m : a < w * (0 + 1) = subst (λ (q : ℕ). a < w * (q + 1)) z l in
        let u : w * (0 + 1) ≡ w = omega arith in
        absurd (omega (arith, m, u, some, pos)))
    go (suc n) e = omega arith

-- tests of places, counted from another one on

pub same_le : (b x y p q : ℕ) → p ≡ b + x → q ≡ b + y → nat_le p q ≡ nat_le x y
same_le b x y p q e f = elim (cases_Bool (nat_le x y)) [
  | inl t ↦ let u : nat_le p q ≡ true = grind (arith, nat_tests) in u ∙ sym t
  | inr t ↦ let u : nat_le p q ≡ false = grind (arith, nat_tests) in u ∙ sym t
]

pub same_lt : (b x y p q : ℕ) → p ≡ b + x → q ≡ b + y → nat_lt p q ≡ nat_lt x y
same_lt b x y p q e f = elim (cases_Bool (nat_lt x y)) [
  | inl t ↦ let u : nat_lt p q ≡ true = grind (arith, nat_tests) in u ∙ sym t
  | inr t ↦ let u : nat_lt p q ≡ false = grind (arith, nat_tests) in u ∙ sym t
]

-- a byte of the range, else an old one below the size, else zero
pub choose_byte : (inside below : Bool) (x old : ℕ) → cond inside x (cond below old 0) ≡ cond (below && not inside) old (cond inside x 0)
choose_byte true true x old = refl
choose_byte true false x old = refl
choose_byte false true x old = refl
choose_byte false false x old = refl
