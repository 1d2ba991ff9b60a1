-- Powers in the field, and inverses.
use Rattle.std.proofs.Common.{◌≡◌, ℕ, zero, suc, ◌+◌, ◌-◌, ◌*◌, ◌^◌, ◌<◌, refl, ap, sym, ◌∙◌, arith, lit<, zero-add}
use Rattle.std.proofs.Math.Nat.{pow-suc, mul_comm}
use Rattle.std.proofs.lemmas.Nat.{pow_pos}
use Rattle.ec_field.specs.Field.{sum_below, reduced, product, power, IsByte}
use Rattle.ec_field.proofs.Tables.{agree_at}
use Rattle.ec_field.proofs.Products.{product_assoc, one_product, product_is_byte, product-zero_right}

pub power-zero : (a : ℕ) → power a 0 ≡ 1
unfolding power
power-zero a = refl

pub power-suc : (a n : ℕ) → power a (suc n) ≡ product a (power a n)
unfolding power
power-suc a n = refl

pub power_is_byte : (a n : ℕ) → IsByte a → IsByte (power a n)
unfolding power
power_is_byte a zero h = lit< tt
power_is_byte a (suc n) h = product_is_byte a (power a n) h (power_is_byte a n h)

pub power-add : (a m n : ℕ) → IsByte a → power a (m + n) ≡ product (power a m) (power a n)
unfolding power
power-add a zero n h = ap (power a) (zero-add n) ∙ sym (one_product (power a n) (power_is_byte a n h))
power-add a (suc m) n h =
    let e : suc m + n ≡ suc (m + n) = omega arith in
    ap (power a) e ∙ ap (product a) (power-add a m n h) ∙ sym (product_assoc a (power a m) (power a n) h (power_is_byte a m h) (power_is_byte a n h))

-- the powers of a square
pub power-square : (a n : ℕ) → IsByte a → power (product a a) n ≡ power a (2 * n)
unfolding power
power-square a zero h = refl
power-square a (suc n) h =
    let e : 2 * suc n ≡ suc (suc (2 * n)) = omega arith in
    ap (product (product a a)) (power-square a n h)
    ∙ product_assoc a a (power a (2 * n)) h h (power_is_byte a (2 * n) h)
    ∙ sym (ap (power a) e)

-- the power 2 ^ k - 1, by squares
abbrev pub power_of_ones : ℕ → ℕ → ℕ
power_of_ones x zero = 1
power_of_ones x (suc k) = product x (power_of_ones (product x x) k)

power_of_ones_lem : (k x : ℕ) → IsByte x → power x (2 ^ k - 1) ≡ power_of_ones x k
power_of_ones_lem zero x h = power-zero x
power_of_ones_lem (suc k) x h =
    let pos : 0 < 2 ^ k = pow_pos k in
    let twice : 2 ^ suc k ≡ 2 * 2 ^ k = pow-suc 2 k ∙ mul_comm (2 ^ k) 2 in
    let e : 2 ^ suc k - 1 ≡ suc (2 * (2 ^ k - 1)) = omega arith in
    ap (power x) e
    ∙ power-suc x (2 * (2 ^ k - 1))
    ∙ ap (product x) (sym (power-square x (2 ^ k - 1) h) ∙ power_of_ones_lem k (product x x) (product_is_byte x x h h))

inverse_at : (i : ℕ) → i < 255 → product (suc i) (power_of_ones (product (suc i) (suc i)) 7) ≡ 1
unfolding product reduced sum_below
inverse_at i h = agree_at 255 (λ n. product (suc n) (power_of_ones (product (suc n) (suc n)) 7)) (λ n. 1) refl i h

-- the power 254 is the inverse
pub power_inverts : (a : ℕ) → 0 < a → IsByte a → product a (power a 254) ≡ 1
power_inverts zero p h = absurd (omega (arith, p))
power_inverts (suc i) p h =
    ap (product (suc i)) (sym (power-square (suc i) 127 h) ∙ power_of_ones_lem 7 (product (suc i) (suc i)) (product_is_byte (suc i) (suc i) h h))
    ∙ inverse_at i (omega arith)

pub power_not_zero : (a : ℕ) → 0 < a → IsByte a → power a 254 ≡ 0 → ⊥
power_not_zero a p h e =
    let none : 0 ≡ 1 = sym (product-zero_right a) ∙ ap (product a) (sym e) ∙ power_inverts a p h in
    absurd (omega (arith, none))
