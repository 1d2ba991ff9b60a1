-- The field of 256 elements: bytes as polynomials over the field of two elements, modulo x^8+x^4+x^3+x^2+1.
use Rattle.std.specs.Prelude.{◌≡◌, ℕ, zero, suc, ◌+◌, ◌*◌, ◌^◌, ◌<◌, bit_xor, nat_eq, if◌then◌else◌}
use Rattle.std.specs.Int.{bit_at}

-- the sum, which is the exclusive or, of f i over the i below n
unfoldable pub sum_below : ℕ → (ℕ → ℕ) → ℕ
sum_below zero f = 0
sum_below (suc n) f = bit_xor (sum_below n f) (f n)

-- a shifted up by i where bit i of b is set, else 0
abbrev pub partial_product : ℕ → ℕ → ℕ → ℕ
partial_product a b i = bit_at b i * (a * 2 ^ i)

-- the product of two bytes as polynomials
abbrev pub carryless : ℕ → ℕ → ℕ
carryless a b = sum_below 8 (partial_product a b)

-- p with bit 8 + i cleared by the modulus, shifted up by i
abbrev pub without_bit : ℕ → ℕ → ℕ
without_bit p i = bit_xor p (bit_at p (8 + i) * (0x11D * 2 ^ i))

-- p with the n bits from bit 8 on cleared, from the top bit down
unfoldable pub reduced : ℕ → ℕ → ℕ
reduced zero p = p
reduced (suc n) p = reduced n (without_bit p n)

-- the product in the field
unfoldable pub product : ℕ → ℕ → ℕ
product a b = reduced 7 (carryless a b)

-- a to the power n
unfoldable pub power : ℕ → ℕ → ℕ
power a zero = 1
power a (suc n) = product a (power a n)

-- the entries of the identity matrix
abbrev pub kronecker : ℕ → ℕ → ℕ
kronecker i j = if nat_eq i j then 1 else 0

-- a number below 256
abbrev pub IsByte : ℕ → Type 0
IsByte n = n < 2 ^ 8

-- Bytes are a field. The sum is the exclusive or, and each byte is its own negative.
pub record IsField : Type 0 where
  pub sum_is_byte : (a b : ℕ) → IsByte a → IsByte b → IsByte (bit_xor a b)
  pub sum_comm : (a b : ℕ) → bit_xor a b ≡ bit_xor b a
  pub sum_assoc : (a b c : ℕ) → bit_xor (bit_xor a b) c ≡ bit_xor a (bit_xor b c)
  pub sum_zero : (a : ℕ) → bit_xor a 0 ≡ a
  pub sum_self : (a : ℕ) → bit_xor a a ≡ 0
  pub product_is_byte : (a b : ℕ) → IsByte a → IsByte b → IsByte (product a b)
  pub product_comm : (a b : ℕ) → IsByte a → IsByte b → product a b ≡ product b a
  pub product_assoc : (a b c : ℕ) → IsByte a → IsByte b → IsByte c → product (product a b) c ≡ product a (product b c)
  pub product_one : (a : ℕ) → IsByte a → product a 1 ≡ a
  pub distributive : (a b c : ℕ) → product a (bit_xor b c) ≡ bit_xor (product a b) (product a c)
  pub inverse : (a : ℕ) → 0 < a → IsByte a → (b : ℕ) × IsByte b × (product a b ≡ 1)
