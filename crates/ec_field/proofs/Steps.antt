-- One step of each loop of the arithmetic, as the loop computes it.
use Rattle.std.proofs.Common.{◌≡◌, ℕ, suc, ◌+◌, ◌*◌, ◌/◌, ◌%◌, ◌^◌, ◌<◌, ◌≤◌, List, get_or, refl, ap, sym, ◌∙◌, arith, lit<}
use Rattle.std.specs.Prelude.{bit_xor, bit_and}
use Rattle.std.specs.Int.{bit_at}
use Rattle.std.proofs.Math.Nat.{mod-eq_of_lt, mul-lt-mul_of_pos_right, pow-le-pow_right}
use Rattle.std.proofs.lemmas.Nat.{pow_pos, pow-add}
use Rattle.std.proofs.lemmas.Nat.Bits.{shr_and_one, bit_at-lt}
use Rattle.ec_field.specs.Field.{sum_below, partial_product, without_bit, reduced, product, power, IsByte}
use Rattle.ec_field.specs.Chunk.{element_bit, element}
use Rattle.ec_field.proofs.Sums.{sum_more}
use Rattle.ec_field.proofs.Products.{product_assoc}
use Rattle.ec_field.proofs.Powers.{power-square, power-suc, power_is_byte}

-- a shift of a number that stays within its type
pub shift_fits : (a i k n : ℕ) → a < 2 ^ k → k + i ≤ n → a * 2 ^ i % 2 ^ n ≡ a * 2 ^ i
shift_fits a i k n h l =
    let scaled : a * 2 ^ i < 2 ^ k * 2 ^ i = mul-lt-mul_of_pos_right h (pow_pos i) in
    let added : 2 ^ (k + i) ≡ 2 ^ k * 2 ^ i = pow-add 2 k i in
    let most : 2 ^ (k + i) ≤ 2 ^ n = pow-le-pow_right (lit< tt) l in
    mod-eq_of_lt (omega arith)

pub mul_step : (p a b i : ℕ) → IsByte a → i < 8 → p ≡ sum_below i (partial_product a b)
    → bit_xor p (bit_and (b / 2 ^ i) 1 * (a * 2 ^ i % 65536)) ≡ sum_below (i + 1) (partial_product a b)
mul_step p a b i h l e =
    rw (sum_more i (partial_product a b), ← e, shr_and_one b i, shift_fits a i 8 16 h (omega arith)) refl

pub reduce_step : (p j : ℕ) → j < 7 → bit_xor p (bit_and (p / 2 ^ (8 + j)) 1 * (285 * 2 ^ j % 65536)) ≡ without_bit p j
reduce_step p j l = rw (shr_and_one p (8 + j), shift_fits 285 j 9 16 (lit< tt) (omega arith)) refl

pub reduced-suc : (n p : ℕ) → reduced (suc n) p ≡ reduced n (without_bit p n)
unfolding reduced
reduced-suc n p = refl

pub reduced-zero : (p : ℕ) → reduced 0 p ≡ p
unfolding reduced
reduced-zero p = refl

pub product_is : (a b : ℕ) → product a b ≡ reduced 7 (sum_below 8 (partial_product a b))
unfolding product
product_is a b = refl

-- a loop by squares: an odd number of factors left
pub power_step_odd : (r b n : ℕ) → IsByte r → IsByte b → n % 2 ≡ 1 → product (product r b) (power (product b b) (n / 2)) ≡ product r (power b n)
power_step_odd r b n p q odd =
    let half : n ≡ suc (2 * (n / 2)) = omega arith in
    ap (product (product r b)) (power-square b (n / 2) q)
    ∙ product_assoc r b (power b (2 * (n / 2))) p q (power_is_byte b (2 * (n / 2)) q)
    ∙ ap (product r) (sym (power-suc b (2 * (n / 2))) ∙ ap (power b) (sym half))

-- and an even number
pub power_step_even : (r b n : ℕ) → IsByte b → n % 2 ≡ 0 → product r (power (product b b) (n / 2)) ≡ product r (power b n)
power_step_even r b n q even =
    let half : n ≡ 2 * (n / 2) = omega arith in
    ap (product r) (power-square b (n / 2) q ∙ ap (power b) (sym half))

pub element_step : (bytes : List ℕ) (value e i : ℕ) → i < 8 → value ≡ sum_below i (λ j. element_bit bytes e j * 2 ^ j)
    → bit_xor value (bit_and (get_or bytes (64 * i + e / 8) 0 / 2 ^ (e % 8)) 1 * 2 ^ i % 256) ≡ sum_below (i + 1) (λ j. element_bit bytes e j * 2 ^ j)
element_step bytes value e i h is =
    let byte : ℕ = get_or bytes (64 * i + e / 8) 0 in
    rw (sum_more i (λ j. element_bit bytes e j * 2 ^ j), ← is, shr_and_one byte (e % 8), shift_fits (bit_at byte (e % 8)) i 1 8 (bit_at-lt byte (e % 8)) (omega arith)) refl

pub element_is : (bytes : List ℕ) (e : ℕ) → element bytes e ≡ sum_below 8 (λ j. element_bit bytes e j * 2 ^ j)
unfolding element
element_is bytes e = refl
