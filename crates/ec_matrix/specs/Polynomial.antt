-- The polynomials that invert the rows. A polynomial is its coefficients, from the highest power down.
use Rattle.std.specs.Prelude.{ℕ, zero, suc, bit_xor}
use Rattle.ec_field.specs.Field.{product, power, kronecker}

-- the value at v of the polynomial of n coefficients, by Horner's rule
unfoldable pub value : ℕ → (ℕ → ℕ) → ℕ → ℕ
value zero c v = 0
value (suc n) c v = bit_xor (product v (value n c v)) (c n)

-- the coefficients of the quotient by x - r: the partial values of Horner's rule at r
abbrev pub quotient : (ℕ → ℕ) → ℕ → ℕ → ℕ
quotient c r j = value (suc j) c r

-- the coefficients one place further down
abbrev pub shifted : (ℕ → ℕ) → ℕ → ℕ
shifted c zero = 0
shifted c (suc j) = c j

-- the coefficients of the product with x - r
abbrev pub times_root : (ℕ → ℕ) → ℕ → ℕ → ℕ
times_root c r j = bit_xor (c j) (product r (shifted c j))

-- the polynomial of m + 1 coefficients with the roots v i for i below m
unfoldable pub master : (ℕ → ℕ) → ℕ → ℕ → ℕ
master v zero j = kronecker j 0
master v (suc m) j = times_root (master v m) (v m) j

-- The polynomial of k coefficients that is 1 at the root r of a polynomial of k + 1 coefficients, and 0 at its other
-- roots: the quotient by x - r, scaled.
abbrev pub basis : ℕ → (ℕ → ℕ) → ℕ → ℕ → ℕ
basis k c r j = product (power (value k (quotient c r) r) 254) (quotient c r j)
