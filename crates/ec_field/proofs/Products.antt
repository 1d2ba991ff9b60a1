-- The laws of the product.
use Rattle.std.proofs.Common.{◌≡◌, ℕ, zero, suc, ◌+◌, ◌*◌, ◌%◌, ◌^◌, ◌<◌, ◌⊎◌, inl, inr, refl, ap, sym, ◌∙◌, lit<, subst}
use Rattle.std.specs.Prelude.{bit_xor}
use Rattle.std.specs.Int.{bit_at}
use Rattle.std.proofs.Math.Nat.{zero-mul, one-mul, mod-lt}
use Rattle.std.proofs.lemmas.Nat.{xor_mod}
use Rattle.std.specs.Int.Bits.{xor_zero_l}
use Rattle.ec_field.specs.Field.{sum_below, partial_product, carryless, without_bit, reduced, product, IsByte}
use Rattle.ec_field.proofs.Sums.{sum_ext, sum_xor, xor_exchange}
use Rattle.ec_field.proofs.Linear.{IsLinear, linear-zero, linear-sum, shift-linear, bit_times-linear, bit_cases}
use Rattle.ec_field.proofs.Tables.{all_numbers_below, agree, agree_at, at_number}
use Rattle.ec_field.proofs.Bits.{same_at_bytes}

times_bit-linear : (p x y : ℕ) → (p ≡ 0) ⊎ (p ≡ 1) → p * bit_xor x y ≡ bit_xor (p * x) (p * y)
times_bit-linear p x y (inl e) = rw (e, zero-mul (bit_xor x y), zero-mul x, zero-mul y) (sym (xor_zero_l 0))
times_bit-linear p x y (inr e) = rw (e, one-mul (bit_xor x y), one-mul x, one-mul y) refl

pub carryless-left : (b : ℕ) → IsLinear (λ a. carryless a b)
carryless-left b = record {
  xor = λ x y.
      sum_ext 8 (partial_product (bit_xor x y) b) (λ i. bit_xor (partial_product x b i) (partial_product y b i))
      (λ i h. rw ((shift-linear i).xor x y) (times_bit-linear (bit_at b i) (x * 2 ^ i) (y * 2 ^ i) (bit_cases b i)))
      ∙ sum_xor 8 (partial_product x b) (partial_product y b);
}

pub carryless-right : (a : ℕ) → IsLinear (carryless a)
carryless-right a = record {
  xor = λ x y.
      sum_ext 8 (partial_product a (bit_xor x y)) (λ i. bit_xor (partial_product a x i) (partial_product a y i))
      (λ i h. (bit_times-linear i (a * 2 ^ i)).xor x y)
      ∙ sum_xor 8 (partial_product a x) (partial_product a y);
}

without_bit-linear : (i : ℕ) → IsLinear (λ p. without_bit p i)
without_bit-linear i = record {
  xor = λ p q.
      rw ((bit_times-linear (8 + i) (0x11D * 2 ^ i)).xor p q)
      (xor_exchange p q (bit_at p (8 + i) * (0x11D * 2 ^ i)) (bit_at q (8 + i) * (0x11D * 2 ^ i)));
}

reduced-xor : (n p q : ℕ) → reduced n (bit_xor p q) ≡ bit_xor (reduced n p) (reduced n q)
unfolding reduced
reduced-xor zero p q = refl
reduced-xor (suc n) p q =
    ap (reduced n) ((without_bit-linear n).xor p q) ∙ reduced-xor n (without_bit p n) (without_bit q n)

-- The product is linear in each factor, over all numbers.
pub product-left : (b : ℕ) → IsLinear (λ a. product a b)
unfolding product
product-left b = record {
  xor = λ x y. ap (reduced 7) ((carryless-left b).xor x y) ∙ reduced-xor 7 (carryless x b) (carryless y b);
}

pub product-right : (a : ℕ) → IsLinear (product a)
unfolding product
product-right a = record {
  xor = λ x y. ap (reduced 7) ((carryless-right a).xor x y) ∙ reduced-xor 7 (carryless a x) (carryless a y);
}

pub product-zero_left : (b : ℕ) → product 0 b ≡ 0
product-zero_left b = linear-zero (λ a. product a b) (product-left b)

pub product-zero_right : (a : ℕ) → product a 0 ≡ 0
product-zero_right a = linear-zero (product a) (product-right a)

pub product-sum_left : (n : ℕ) (f : ℕ → ℕ) (b : ℕ) → product (sum_below n f) b ≡ sum_below n (λ i. product (f i) b)
product-sum_left n f b = linear-sum (λ a. product a b) (product-left b) n f

pub product-sum_right : (a n : ℕ) (f : ℕ → ℕ) → product a (sum_below n f) ≡ sum_below n (λ i. product a (f i))
product-sum_right a n f = linear-sum (product a) (product-right a) n f

commutes_at_powers : (i : ℕ) → i < 8 → (j : ℕ) → j < 8 → product (2 ^ i) (2 ^ j) ≡ product (2 ^ j) (2 ^ i)
unfolding product reduced sum_below
commutes_at_powers i h j l =
    agree_at 8 (λ y. product (2 ^ i) (2 ^ y)) (λ y. product (2 ^ y) (2 ^ i))
    (at_number 8 (λ x. agree 8 (λ y. product (2 ^ x) (2 ^ y)) (λ y. product (2 ^ y) (2 ^ x))) refl i h) j l

pub product_comm : (a b : ℕ) → IsByte a → IsByte b → product a b ≡ product b a
product_comm a b p q =
    same_at_bytes (λ x. product x b) (product b) (product-left b) (product-right b)
    (λ i h. same_at_bytes (product (2 ^ i)) (λ y. product y (2 ^ i)) (product-right (2 ^ i)) (product-left (2 ^ i)) (commutes_at_powers i h) b q)
    a p

associates_at_powers : (i : ℕ) → i < 8 → (j : ℕ) → j < 8 → (k : ℕ) → k < 8 → product (product (2 ^ i) (2 ^ j)) (2 ^ k) ≡ product (2 ^ i) (product (2 ^ j) (2 ^ k))
unfolding product reduced sum_below
associates_at_powers i h j l k m =
    agree_at 8 (λ z. product (product (2 ^ i) (2 ^ j)) (2 ^ z)) (λ z. product (2 ^ i) (product (2 ^ j) (2 ^ z)))
    (at_number 8 (λ y. agree 8 (λ z. product (product (2 ^ i) (2 ^ y)) (2 ^ z)) (λ z. product (2 ^ i) (product (2 ^ y) (2 ^ z))))
    (at_number 8 (λ x. all_numbers_below 8 (λ y. agree 8 (λ z. product (product (2 ^ x) (2 ^ y)) (2 ^ z)) (λ z. product (2 ^ x) (product (2 ^ y) (2 ^ z))))) refl i h)
    j l)
    k m

pub product_assoc : (a b c : ℕ) → IsByte a → IsByte b → IsByte c → product (product a b) c ≡ product a (product b c)
product_assoc a b c p q r =
    same_at_bytes (λ x. product (product x b) c) (λ x. product x (product b c))
    (record { xor = λ x y. rw ((product-left b).xor x y) ((product-left c).xor (product x b) (product y b)) })
    (product-left (product b c))
    (λ i h. same_at_bytes (λ y. product (product (2 ^ i) y) c) (λ y. product (2 ^ i) (product y c))
    (record { xor = λ x y. rw ((product-right (2 ^ i)).xor x y) ((product-left c).xor (product (2 ^ i) x) (product (2 ^ i) y)) })
    (record { xor = λ x y. rw ((product-left c).xor x y) ((product-right (2 ^ i)).xor (product x c) (product y c)) })
    (λ j l. same_at_bytes (product (product (2 ^ i) (2 ^ j))) (λ z. product (2 ^ i) (product (2 ^ j) z))
    (product-right (product (2 ^ i) (2 ^ j)))
    (record { xor = λ x y. rw ((product-right (2 ^ j)).xor x y) ((product-right (2 ^ i)).xor (product (2 ^ j) x) (product (2 ^ j) y)) })
    (associates_at_powers i h j l)
    c r)
    b q)
    a p

one_at_powers : (i : ℕ) → i < 8 → product (2 ^ i) 1 ≡ 2 ^ i
unfolding product reduced sum_below
one_at_powers i h = agree_at 8 (λ x. product (2 ^ x) 1) (λ x. 2 ^ x) refl i h

pub product_one : (a : ℕ) → IsByte a → product a 1 ≡ a
product_one a h =
    same_at_bytes (λ x. product x 1) (λ x. x) (product-left 1) (record { xor = λ x y. refl }) one_at_powers a h

pub one_product : (a : ℕ) → IsByte a → product 1 a ≡ a
one_product a h = product_comm 1 a (lit< tt) h ∙ product_one a h

-- a product has no bit above its lowest eight
byte_at_powers : (i : ℕ) → i < 8 → (j : ℕ) → j < 8 → product (2 ^ i) (2 ^ j) % 2 ^ 8 ≡ product (2 ^ i) (2 ^ j)
unfolding product reduced sum_below
byte_at_powers i h j l =
    agree_at 8 (λ y. product (2 ^ i) (2 ^ y) % 2 ^ 8) (λ y. product (2 ^ i) (2 ^ y))
    (at_number 8 (λ x. agree 8 (λ y. product (2 ^ x) (2 ^ y) % 2 ^ 8) (λ y. product (2 ^ x) (2 ^ y))) refl i h) j l

product_mod : (a b : ℕ) → IsByte a → IsByte b → product a b % 2 ^ 8 ≡ product a b
product_mod a b p q =
    same_at_bytes (λ x. product x b % 2 ^ 8) (λ x. product x b)
    (record { xor = λ x y. rw ((product-left b).xor x y) (xor_mod (product x b) (product y b) 8) })
    (product-left b)
    (λ i h. same_at_bytes (λ y. product (2 ^ i) y % 2 ^ 8) (product (2 ^ i))
    (record { xor = λ x y. rw ((product-right (2 ^ i)).xor x y) (xor_mod (product (2 ^ i) x) (product (2 ^ i) y) 8) })
    (product-right (2 ^ i))
    (byte_at_powers i h)
    b q)
    a p

pub product_is_byte : (a b : ℕ) → IsByte a → IsByte b → IsByte (product a b)
product_is_byte a b p q = let P : ℕ → Type 0 = λ n. n < 2 ^ 8 in subst P (product_mod a b p q) (mod-lt (product a b) (lit< tt))
