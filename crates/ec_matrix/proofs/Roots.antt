-- A polynomial with as many roots as coefficients is 0, and the polynomials with given roots.
use Rattle.std.proofs.Common.{◌≡◌, ℕ, zero, suc, ◌-◌, ◌<◌, inl, inr, refl, ap, sym, ◌∙◌, arith, lit<}
use Rattle.std.specs.Prelude.{bit_xor}
use Rattle.std.specs.Int.Bits.{xor_zero_l, xor_zero_r, xor_self}
use Rattle.std.proofs.lemmas.Bool.{cases_eq}
use Rattle.std.proofs.lemmas.Nat.{xor_lt}
use Rattle.ec_field.specs.Field.{product, power, kronecker, IsByte}
use Rattle.ec_field.proofs.Products.{product-zero_left, product-zero_right, product_assoc, product_comm, one_product, product_is_byte}
use Rattle.ec_field.proofs.Powers.{power_inverts, power_is_byte}
use Rattle.ec_matrix.specs.Polynomial.{value, quotient, times_root, master, basis}
use Rattle.ec_matrix.proofs.Matrices.{ByteRow, ByteMatrix, IsIdentity, SendsNoneToZero, same_from_xor, kronecker_same, kronecker_other, kronecker_is_byte, left_from_right}
use Rattle.ec_matrix.proofs.Values.{value_none, value_suc, value_is_byte, value_scaled, value_by_powers, value_times_root, value_quotient}

-- n distinct bytes
pub record IsPoints (n : ℕ) (v : ℕ → ℕ) : Type 0 where
  pub bytes : (i : ℕ) → i < n → IsByte (v i)
  pub apart : (i j : ℕ) → i < n → j < n → v i ≡ v j → i ≡ j

positive : (n : ℕ) → (n ≡ 0 → ⊥) → 0 < n
positive zero d = absurd (d refl)
positive (suc n) d = omega arith

-- a product with a factor that isn't 0 is 0 only by the other
pub no_divisor : (a b : ℕ) → IsByte a → IsByte b → (a ≡ 0 → ⊥) → product a b ≡ 0 → b ≡ 0
no_divisor a b p q d e =
    let s : ℕ = power a 254 in
    let byte : IsByte s = power_is_byte a 254 p in
    sym (one_product b q)
    ∙ ap (λ x. product x b) (sym (power_inverts a (positive a d) p) ∙ product_comm a s p byte)
    ∙ product_assoc s a b byte p q
    ∙ ap (product s) e
    ∙ product-zero_right s

-- a root r of c that isn't v: the quotient is 0 at v where c is
pub quotient_root : (n : ℕ) (c : ℕ → ℕ) (r v : ℕ) → ByteRow (suc n) c → IsByte r → IsByte v → (v ≡ r → ⊥)
    → value (suc n) c r ≡ 0 → value (suc n) c v ≡ 0 → value n (quotient c r) v ≡ 0
quotient_root n c r v h p b d root zero_at =
    let q : ℕ = value n (quotient c r) v in
    let bytes : ByteRow n (quotient c r) = λ j l. value_is_byte (suc j) c r (λ i k. h i (omega arith)) p in
    no_divisor (bit_xor v r) q (xor_lt 8 v r b p) (value_is_byte n (quotient c r) v bytes b) (λ e. d (same_from_xor v r e))
    (sym (xor_zero_r (product (bit_xor v r) q)) ∙ ap (bit_xor (product (bit_xor v r) q)) (sym root) ∙ sym (value_quotient n c r v h p b) ∙ zero_at)

-- the coefficients are 0 where the partial values at r are
coefficient : (c : ℕ → ℕ) (r j : ℕ) → value j c r ≡ 0 → value (suc j) c r ≡ 0 → c j ≡ 0
coefficient c r j e f =
    sym (xor_zero_l (c j)) ∙ ap (λ x. bit_xor x (c j)) (sym (product-zero_right r) ∙ ap (product r) (sym e)) ∙ sym (value_suc j c r) ∙ f

before : (n : ℕ) (c : ℕ → ℕ) (r : ℕ) → ((j : ℕ) → j < n → value (suc j) c r ≡ 0) → (j : ℕ) → j < n → value j c r ≡ 0
before n c r e zero l = value_none c r
before n c r e (suc j) l = e j (omega arith)

-- n coefficients with n distinct roots are 0
pub zero_by_roots : (n : ℕ) (c v : ℕ → ℕ) → ByteRow n c → IsPoints n v → ((i : ℕ) → i < n → value n c (v i) ≡ 0) → (j : ℕ) → j < n → c j ≡ 0
zero_by_roots zero c v h p root j l = absurd (omega arith)
zero_by_roots (suc n) c v h p root j l =
    let r : ℕ = v n in
    let bytes : ByteRow n (quotient c r) = λ j l. value_is_byte (suc j) c r (λ i k. h i (omega arith)) (p.bytes n (omega arith)) in
    let points : IsPoints n v = record { bytes = λ i k. p.bytes i (omega arith); apart = λ i j k m e. p.apart i j (omega arith) (omega arith) e } in
    let lower : (j : ℕ) → j < n → value (suc j) c r ≡ 0 = zero_by_roots n (quotient c r) v bytes points
    (λ i k. quotient_root n c r (v i) h (p.bytes n (omega arith)) (p.bytes i (omega arith))
    (λ e. let same : i ≡ n = p.apart i n (omega arith) (omega arith) e in absurd (omega arith))
    (root n (omega arith)) (root i (omega arith))) in
    let all : (j : ℕ) → j < suc n → value (suc j) c r ≡ 0 = λ j k. elim (cases_eq j n) [ inl e ↦ rw e (root n (omega arith)) | inr d ↦ lower j (omega arith) ] in
    coefficient c r j (before (suc n) c r all j l) (all j l)

-- the polynomial with given roots

pub master_none : (v : ℕ → ℕ) (j : ℕ) → master v 0 j ≡ kronecker j 0
unfolding master
master_none v j = refl

pub master_suc : (v : ℕ → ℕ) (m j : ℕ) → master v (suc m) j ≡ times_root (master v m) (v m) j
unfolding master
master_suc v m j = refl

pub master_is_byte : (m : ℕ) (v : ℕ → ℕ) → ByteRow m v → (j : ℕ) → IsByte (master v m j)
master_is_byte zero v h j = rw (master_none v j) (kronecker_is_byte j 0)
master_is_byte (suc m) v h zero =
    let low : ByteRow m v = λ i l. h i (omega arith) in
    rw (master_suc v m 0) (xor_lt 8 (master v m 0) (product (v m) 0) (master_is_byte m v low 0) (product_is_byte (v m) 0 (h m (omega arith)) (lit< tt)))
master_is_byte (suc m) v h (suc j) =
    let low : ByteRow m v = λ i l. h i (omega arith) in
    rw (master_suc v m (suc j)) (xor_lt 8 (master v m (suc j)) (product (v m) (master v m j)) (master_is_byte m v low (suc j)) (product_is_byte (v m) (master v m j) (h m (omega arith)) (master_is_byte m v low j)))

master_above : (m : ℕ) (v : ℕ → ℕ) (j : ℕ) → m < j → master v m j ≡ 0
master_above zero v j l = master_none v j ∙ kronecker_other j 0 (λ e. absurd (omega arith))
master_above (suc m) v zero l = absurd (omega arith)
master_above (suc m) v (suc j) l =
    rw (master_suc v m (suc j), master_above m v (suc j) (omega arith), master_above m v j (omega arith), product-zero_right (v m)) refl

master_first : (m : ℕ) (v : ℕ → ℕ) → master v m 0 ≡ 1
master_first zero v = master_none v 0 ∙ kronecker_same 0 0 refl
master_first (suc m) v = rw (master_suc v m 0, master_first m v, product-zero_right (v m)) refl

pub master_root : (m : ℕ) (v : ℕ → ℕ) → ByteRow m v → (i : ℕ) → i < m → value (suc m) (master v m) (v i) ≡ 0
unfolding master
master_root zero v h i l = absurd (omega arith)
master_root (suc m) v h i l =
    let low : ByteRow m v = λ i l. h i (omega arith) in
    let x : ℕ = v i in
    let w : ℕ = value (suc m) (master v m) x in
    let here : value (suc (suc m)) (times_root (master v m) (v m)) x ≡ bit_xor (product (bit_xor x (v m)) w) (master v m (suc m)) =
    value_times_root (suc m) (master v m) (v m) x (λ j k. master_is_byte m v low j) (h m (omega arith)) (h i l) in
    here ∙ rw (master_above m v (suc m) (omega arith), xor_zero_r (product (bit_xor x (v m)) w))
    (elim (cases_eq i m) [
      | inl e ↦ rw (e, xor_self (v m)) (product-zero_left (value (suc m) (master v m) (v m)))
      | inr d ↦ rw (master_root m v low i (omega arith)) (product-zero_right (bit_xor x (v m)))
    ])

-- the polynomial that is 1 at one of the points and 0 at the others

quotient_is_byte : (k : ℕ) (v : ℕ → ℕ) → IsPoints k v → (i : ℕ) → i < k → ByteRow k (quotient (master v k) (v i))
quotient_is_byte k v p i l j h = value_is_byte (suc j) (master v k) (v i) (λ m e. master_is_byte k v p.bytes m) (p.bytes i l)

other_value : (k : ℕ) (v : ℕ → ℕ) → IsPoints k v → (i m : ℕ) → i < k → m < k → (m ≡ i → ⊥) → value k (quotient (master v k) (v i)) (v m) ≡ 0
other_value k v p i m l h d =
    quotient_root k (master v k) (v i) (v m) (λ j e. master_is_byte k v p.bytes j) (p.bytes i l) (p.bytes m h) (λ e. d (p.apart m i h l e))
    (master_root k v p.bytes i l) (master_root k v p.bytes m h)

own_value : (k : ℕ) (v : ℕ → ℕ) → IsPoints k v → (i : ℕ) → i < k → value k (quotient (master v k) (v i)) (v i) ≡ 0 → ⊥
own_value k v p i l e =
    let q : ℕ → ℕ = quotient (master v k) (v i) in
    let none : q 0 ≡ 0 = zero_by_roots k q v (quotient_is_byte k v p i l) p
    (λ m h. elim (cases_eq m i) [ inl s ↦ rw s e | inr d ↦ other_value k v p i m l h d ]) 0 (omega arith) in
    let first : q 0 ≡ 1 = rw (value_suc 0 (master v k) (v i), value_none (master v k) (v i), product-zero_right (v i), master_first k v) refl in
    let clash : 0 ≡ 1 = sym none ∙ first in
    absurd (omega (arith, clash))

pub basis_is_byte : (k : ℕ) (v : ℕ → ℕ) → IsPoints k v → (i : ℕ) → i < k → ByteRow k (basis k (master v k) (v i))
basis_is_byte k v p i l j h =
    let q : ℕ → ℕ = quotient (master v k) (v i) in
    let bytes : ByteRow k q = quotient_is_byte k v p i l in
    product_is_byte (power (value k q (v i)) 254) (q j) (power_is_byte (value k q (v i)) 254 (value_is_byte k q (v i) bytes (p.bytes i l))) (bytes j h)

pub basis_value : (k : ℕ) (v : ℕ → ℕ) → IsPoints k v → (m i : ℕ) → m < k → i < k → value k (basis k (master v k) (v i)) (v m) ≡ kronecker m i
basis_value k v p m i h l =
    let q : ℕ → ℕ = quotient (master v k) (v i) in
    let bytes : ByteRow k q = quotient_is_byte k v p i l in
    let own : ℕ = value k q (v i) in
    let own_byte : IsByte own = value_is_byte k q (v i) bytes (p.bytes i l) in
    let s : ℕ = power own 254 in
    let byte : IsByte s = power_is_byte own 254 own_byte in
    value_scaled k s q (v m) byte bytes (p.bytes m h)
    ∙ elim (cases_eq m i) [
      | inl e ↦ rw (e, kronecker_same i i refl) (product_comm s own byte own_byte ∙ power_inverts own (positive own (own_value k v p i l)) own_byte)
      | inr d ↦ rw (other_value k v p i m l h d, kronecker_other m i d) (product-zero_right s)
    ]

-- the rows of powers of the points, and their inverse

-- row i is the powers of point i, the highest first
abbrev pub powers : ℕ → (ℕ → ℕ) → ℕ → ℕ → ℕ
powers k v i j = power (v i) (k - 1 - j)

-- column i is the polynomial of point i
abbrev pub bases : ℕ → (ℕ → ℕ) → ℕ → ℕ → ℕ
bases k v j i = basis k (master v k) (v i) j

pub powers_are_bytes : (k : ℕ) (v : ℕ → ℕ) → IsPoints k v → ByteMatrix k (powers k v)
powers_are_bytes k v p i j l h = power_is_byte (v i) (k - 1 - j) (p.bytes i l)

pub bases_are_bytes : (k : ℕ) (v : ℕ → ℕ) → IsPoints k v → ByteMatrix k (bases k v)
bases_are_bytes k v p j i h l = basis_is_byte k v p i l j h

pub powers_times_bases : (k : ℕ) (v : ℕ → ℕ) → IsPoints k v → IsIdentity k (powers k v) (bases k v)
powers_times_bases k v p m i h l =
    value_by_powers k (λ j. bases k v j i) (v m) (basis_is_byte k v p i l) (p.bytes m h) ∙ basis_value k v p m i h l

pub powers_send_none_to_zero : (k : ℕ) (v : ℕ → ℕ) → IsPoints k v → SendsNoneToZero k (powers k v)
powers_send_none_to_zero k v p x h e j l =
    zero_by_roots k x v h p (λ i k_i. sym (value_by_powers k x (v i) h (p.bytes i k_i)) ∙ e i k_i) j l

pub bases_times_powers : (k : ℕ) (v : ℕ → ℕ) → IsPoints k v → IsIdentity k (bases k v) (powers k v)
bases_times_powers k v p =
    left_from_right k (powers k v) (bases k v) (powers_are_bytes k v p) (bases_are_bytes k v p) (powers_send_none_to_zero k v p) (powers_times_bases k v p)
