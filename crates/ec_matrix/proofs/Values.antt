-- Values of polynomials.
use Rattle.std.proofs.Common.{◌≡◌, ℕ, zero, suc, ◌+◌, ◌-◌, ◌<◌, refl, ap, sym, ◌∙◌, arith, lit<, add-one}
use Rattle.std.specs.Prelude.{bit_xor}
use Rattle.std.specs.Int.Bits.{xor_assoc, xor_zero_l, xor_zero_r}
use Rattle.std.proofs.lemmas.Nat.{xor_lt, xor_comm}
use Rattle.ec_field.specs.Field.{sum_below, product, power, IsByte}
use Rattle.ec_field.proofs.Sums.{sum_none, sum_suc, sum_ext, xor_cancel}
use Rattle.ec_field.proofs.Products.{product-left, product-right, product-sum_right, product-zero_right, product_assoc, product_comm, one_product, product_is_byte}
use Rattle.ec_field.proofs.Powers.{power-zero, power-suc, power_is_byte}
use Rattle.ec_matrix.specs.Polynomial.{value, quotient, times_root}
use Rattle.ec_matrix.proofs.Matrices.{ByteRow}

pub value_none : (c : ℕ → ℕ) (v : ℕ) → value 0 c v ≡ 0
unfolding value
value_none c v = refl

pub value_suc : (n : ℕ) (c : ℕ → ℕ) (v : ℕ) → value (suc n) c v ≡ bit_xor (product v (value n c v)) (c n)
unfolding value
value_suc n c v = refl

pub value_more : (n : ℕ) (c : ℕ → ℕ) (v : ℕ) → value (n + 1) c v ≡ bit_xor (product v (value n c v)) (c n)
value_more n c v = ap (λ m. value m c v) (add-one n) ∙ value_suc n c v

pub ruleset values = (value_none, value_more)

pub value_is_byte : (n : ℕ) (c : ℕ → ℕ) (v : ℕ) → ByteRow n c → IsByte v → IsByte (value n c v)
unfolding value
value_is_byte zero c v h b = lit< tt
value_is_byte (suc n) c v h b =
    xor_lt 8 (product v (value n c v)) (c n) (product_is_byte v (value n c v) b (value_is_byte n c v (λ i l. h i (omega arith)) b)) (h n (omega arith))

pub value_ext : (n : ℕ) (c d : ℕ → ℕ) (v : ℕ) → ((j : ℕ) → j < n → c j ≡ d j) → value n c v ≡ value n d v
unfolding value
value_ext zero c d v e = refl
value_ext (suc n) c d v e = rw (value_ext n c d v (λ i l. e i (omega arith)), e n (omega arith)) refl

pub product_swap : (a b c : ℕ) → IsByte a → IsByte b → IsByte c → product a (product b c) ≡ product b (product a c)
product_swap a b c p q r =
    sym (product_assoc a b c p q r) ∙ ap (λ x. product x c) (product_comm a b p q) ∙ product_assoc b a c q p r

-- the value of a polynomial times a number
pub value_scaled : (n s : ℕ) (c : ℕ → ℕ) (v : ℕ) → IsByte s → ByteRow n c → IsByte v → value n (λ j. product s (c j)) v ≡ product s (value n c v)
unfolding value
value_scaled zero s c v p h b = sym (product-zero_right s)
value_scaled (suc n) s c v p h b =
    let low : ByteRow n c = λ i l. h i (omega arith) in
    rw (value_scaled n s c v p low b, product_swap v s (value n c v) b p (value_is_byte n c v low b))
    (sym ((product-right s).xor (product v (value n c v)) (c n)))

-- the value as a sum over the powers
pub value_by_powers : (n : ℕ) (c : ℕ → ℕ) (v : ℕ) → ByteRow n c → IsByte v → sum_below n (λ j. product (power v (n - 1 - j)) (c j)) ≡ value n c v
value_by_powers zero c v h b = sum_none (λ j. product (power v (0 - 1 - j)) (c j)) ∙ sym (value_none c v)
value_by_powers (suc n) c v h b =
    let low : ByteRow n c = λ i l. h i (omega arith) in
    let last : suc n - 1 - n ≡ 0 = omega arith in
    sum_suc n (λ j. product (power v (suc n - 1 - j)) (c j))
    ∙ rw (
      last,
      power-zero v,
      one_product (c n) (h n (omega arith)),
      sum_ext n (λ j. product (power v (suc n - 1 - j)) (c j)) (λ j. product v (product (power v (n - 1 - j)) (c j)))
          (λ j l. let e : suc n - 1 - j ≡ suc (n - 1 - j) = omega arith in
          rw (e, power-suc v (n - 1 - j)) (product_assoc v (power v (n - 1 - j)) (c j) b (power_is_byte v (n - 1 - j) b) (low j l))),
      ← product-sum_right v n (λ j. product (power v (n - 1 - j)) (c j)),
      value_by_powers n c v low b,
    )
    (sym (value_suc n c v))

-- (x + b) + (c + d) = (x + (b + d)) + c
regroup : (x b c d : ℕ) → bit_xor (bit_xor x b) (bit_xor c d) ≡ bit_xor (bit_xor x (bit_xor b d)) c
regroup x b c d = rw (xor_assoc x b (bit_xor c d), xor_comm c d, ← xor_assoc b d c, ← xor_assoc x (bit_xor b d) c) refl

-- (x + (a + b)) + (b + c) = (x + a) + c
cancel : (x a b c : ℕ) → bit_xor (bit_xor x (bit_xor a b)) (bit_xor b c) ≡ bit_xor (bit_xor x a) c
cancel x a b c = rw (← xor_assoc x a b, xor_assoc (bit_xor x a) b (bit_xor b c), xor_cancel b c) refl

-- the value of the product with x - r
pub value_times_root : (n : ℕ) (c : ℕ → ℕ) (r v : ℕ) → ByteRow (suc n) c → IsByte r → IsByte v
    → value (suc n) (times_root c r) v ≡ bit_xor (product (bit_xor v r) (value n c v)) (c n)
unfolding value
value_times_root zero c r v h p b =
    rw (product-zero_right v, product-zero_right r, product-zero_right (bit_xor v r), xor_zero_r (c 0)) refl
value_times_root (suc n) c r v h p b =
    let low : ByteRow (suc n) c = λ i l. h i (omega arith) in
    let lower : ByteRow n c = λ i l. h i (omega arith) in
    let d : ℕ = bit_xor v r in
    let w : ℕ = value n c v in
    rw (
      value_times_root n c r v low p b,
      (product-right v).xor (product d w) (c n),
      (product-right d).xor (product v w) (c n),
      product_swap v d w b (xor_lt 8 v r b p) (value_is_byte n c v lower b),
      (product-left (c n)).xor v r,
    )
    (regroup (product d (product v w)) (product v (c n)) (c (suc n)) (product r (c n)))

-- the value by the quotient and the value at r
pub value_quotient : (n : ℕ) (c : ℕ → ℕ) (r v : ℕ) → ByteRow (suc n) c → IsByte r → IsByte v
    → value (suc n) c v ≡ bit_xor (product (bit_xor v r) (value n (quotient c r) v)) (value (suc n) c r)
value_quotient zero c r v h p b =
    rw (value_suc 0 c v, value_suc 0 c r, value_none c v, value_none c r, value_none (quotient c r) v, product-zero_right v, product-zero_right r, product-zero_right (bit_xor v r), xor_zero_l (bit_xor 0 (c 0))) refl
value_quotient (suc n) c r v h p b =
    let low : ByteRow (suc n) c = λ i l. h i (omega arith) in
    let d : ℕ = bit_xor v r in
    let q : ℕ = value n (quotient c r) v in
    let w : ℕ = value (suc n) c r in
    let bytes : ByteRow n (quotient c r) = λ j l. value_is_byte (suc j) c r (λ i k. h i (omega arith)) p in
    let mine : value (suc (suc n)) c v ≡ bit_xor (bit_xor (product d (product v q)) (product v w)) (c (suc n)) =
    rw (value_suc (suc n) c v, value_quotient n c r v low p b, (product-right v).xor (product d q) w, product_swap v d q b (xor_lt 8 v r b p) (value_is_byte n (quotient c r) v bytes b)) refl in
    rw (mine, value_suc n (quotient c r) v, value_suc (suc n) c r, (product-right d).xor (product v q) w, (product-left w).xor v r)
    (sym (cancel (product d (product v q)) (product v w) (product r w) (c (suc n))))
