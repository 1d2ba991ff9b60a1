-- One step of each loop over polynomials, rows and columns.
use Rattle.std.proofs.Common.{◌≡◌, ◌≢◌, ℕ, zero, suc, ◌+◌, ◌-◌, ◌<◌, ◌≤◌, List, [], ◌∷◌, length, get_or, inl, inr, refl, ap, sym, ◌∙◌, arith, add-one}
use Rattle.std.specs.Prelude.{slice_set, replicate, nat_eq, if◌then◌else◌}
use Rattle.std.proofs.lemmas.Bool.{cases_eq, cases_lt, cond-true, cond-false, eq-eqb, ne_eqb}
use Rattle.std.proofs.lemmas.List.{get_or-set_same, get_or-set_other, get_or-replicate, length-replicate, get_or_past, length-set}
use Rattle.ec_field.specs.Field.{product, power}
use Rattle.ec_field.specs.Code.{plain_entry}
use Rattle.ec_field.proofs.Powers.{power-suc}
use Rattle.ec_field.proofs.Tables.{agree_at}
use Rattle.ec_matrix.specs.Polynomial.{value, quotient, times_root, master, basis}
use Rattle.ec_matrix.proofs.Values.{value_ext}
use Rattle.ec_matrix.specs.Inverse.{cell}
use Rattle.ec_matrix.proofs.Matrices.{kronecker_other}
use Rattle.ec_matrix.proofs.Roots.{master_none, master_suc}

-- a list of numbers as a function of the place
abbrev pub entry : List ℕ → ℕ → ℕ
entry xs i = get_or xs i 0

-- a write at place j, where what stands before it is as f says
pub written : (xs : List ℕ) (j x : ℕ) (f : ℕ → ℕ) → j < length xs → ((i : ℕ) → i < j → get_or xs i 0 ≡ f i) → x ≡ f j
    → (i : ℕ) → i < j + 1 → get_or (slice_set xs j x) i 0 ≡ f i
written xs j x f l e here i h =
    elim (cases_eq i j) [
      | inl s ↦ rw s (get_or-set_same xs j x 0 l ∙ here)
      | inr d ↦ get_or-set_other xs j i x 0 d ∙ e i (omega arith)
    ]

-- and what stands after it
pub unwritten : (xs : List ℕ) (j x : ℕ) (f : ℕ → ℕ) → ((i : ℕ) → j ≤ i → get_or xs i 0 ≡ f i) → (i : ℕ) → j + 1 ≤ i → get_or (slice_set xs j x) i 0 ≡ f i
unwritten xs j x f e i h = let d : i ≢ j = omega arith in get_or-set_other xs j i x 0 d ∙ e i (omega arith)

-- a write keeps the length
pub long : (xs : List ℕ) (n j x : ℕ) → length xs ≡ n → length (slice_set xs j x) ≡ n
long xs n j x e = length-set xs j x ∙ e

pub zeros_at : (n i : ℕ) → let z : ℕ = 0 in get_or (replicate n z) i 0 ≡ 0
zeros_at n i =
    elim (cases_lt i n) [
      | inl l ↦ get_or-replicate {A = ℕ} n i 0 0 l
      | inr g ↦ get_or_past {X = ℕ} (replicate n 0) i 0 (rw (length-replicate {A = ℕ} n 0) g)
    ]

times_root_ext : (c d : ℕ → ℕ) (r n j : ℕ) → j < n → ((i : ℕ) → i < n → c i ≡ d i) → times_root c r j ≡ times_root d r j
times_root_ext c d r n zero l e = rw (e 0 l) refl
times_root_ext c d r n (suc j) l e = rw (e (suc j) l, e j (omega arith)) refl

pub master_step : (v : ℕ → ℕ) (n i : ℕ) (old new : List ℕ) → ((j : ℕ) → j < n → get_or old j 0 ≡ master v i j)
    → ((j : ℕ) → j < n → get_or new j 0 ≡ times_root (entry old) (v i) j) → (j : ℕ) → j < n → get_or new j 0 ≡ master v (i + 1) j
master_step v n i old new e f j l =
    f j l ∙ times_root_ext (entry old) (master v i) (v i) n j l e ∙ sym (master_suc v i j) ∙ ap (λ m. master v m j) (sym (add-one i))

pub master_start : (v : ℕ → ℕ) (j : ℕ) → get_or (1 ∷ replicate 16 0) j 0 ≡ master v 0 j
master_start v zero = sym (master_none v 0)
master_start v (suc j) = zeros_at 16 j ∙ sym (master_none v (suc j) ∙ kronecker_other (suc j) 0 (λ e. absurd (omega arith)))

pub scaled_basis : (k r s : ℕ) (c : ℕ → ℕ) (q xs : List ℕ) → ((i : ℕ) → i < k → get_or q i 0 ≡ quotient c r i) → s ≡ power (value k (entry q) r) 254
    → ((i : ℕ) → i < k → get_or xs i 0 ≡ product s (get_or q i 0)) → (i : ℕ) → i < k → get_or xs i 0 ≡ basis k c r i
scaled_basis k r s c q xs e scale f i l =
    let same : value k (entry q) r ≡ value k (quotient c r) r = value_ext k (entry q) (quotient c r) r e in
    f i l ∙ rw (e i l, scale, same) refl

-- entry j - 1 of a row of powers, written from the end on
pub power_step : (k j b p : ℕ) → 0 < j → j ≤ k → p ≡ power b (k - j) → product b p ≡ power b (k - (j - 1))
power_step k j b p h l e =
    let next : k - (j - 1) ≡ suc (k - j) = omega arith in
    ap (product b) e ∙ sym (power-suc b (k - j)) ∙ ap (power b) (sym next)

pub written_down : (xs : List ℕ) (k j b p : ℕ) → length xs ≡ 16 → k ≤ 16 → 0 < j → j ≤ k → p ≡ power (b + 1) (k - j)
    → ((i : ℕ) → j ≤ i → i < k → get_or xs i 0 ≡ plain_entry k b i) → (i : ℕ) → j - 1 ≤ i → i < k → get_or (slice_set xs (j - 1) p) i 0 ≡ plain_entry k b i
written_down xs k j b p n m h l e f i low high =
    elim (cases_eq i (j - 1)) [
      | inl s ↦ let at_place : j - 1 < length xs = omega arith in
          let place : k - j ≡ k - 1 - (j - 1) = omega arith in
          rw s (get_or-set_same xs (j - 1) p 0 at_place ∙ e ∙ ap (power (b + 1)) place)
      | inr d ↦ get_or-set_other xs (j - 1) i p 0 d ∙ f i (omega arith) high
    ]

pub zeros_kept : (xs : List ℕ) (k j p : ℕ) → j < k → ((i : ℕ) → k ≤ i → get_or xs i 0 ≡ 0) → (i : ℕ) → k ≤ i → get_or (slice_set xs j p) i 0 ≡ 0
zeros_kept xs k j p l e i h = let d : i ≢ j = omega arith in get_or-set_other xs j i p 0 d ∙ e i h

-- what follows from a polynomial depends on its first coefficients alone
pub basis_ext : (k : ℕ) (c d : ℕ → ℕ) (r s : ℕ) → r ≡ s → ((j : ℕ) → j < k → c j ≡ d j) → (j : ℕ) → j < k → basis k c r j ≡ basis k d s j
basis_ext k c d r s same e j l =
    let q : (i : ℕ) → i < k → quotient c r i ≡ quotient d s i =
    λ i h. ap (λ x. value (suc i) c x) same ∙ value_ext (suc i) c d s (λ m f. e m (omega arith)) in
    let own : value k (quotient c r) r ≡ value k (quotient d s) s = value_ext k (quotient c r) (quotient d s) r q ∙ ap (value k (quotient d s)) same in
    rw (own, q j l) refl

pub master_ext : (m : ℕ) (v w : ℕ → ℕ) → ((i : ℕ) → i < m → v i ≡ w i) → (j : ℕ) → master v m j ≡ master w m j
master_ext zero v w e j = master_none v j ∙ sym (master_none w j)
master_ext (suc m) v w e j =
    let low : (i : ℕ) → i < m → v i ≡ w i = λ i l. e i (omega arith) in
    master_suc v m j
    ∙ times_root_ext (master v m) (master w m) (v m) (suc j) j (omega arith) (λ i l. master_ext m v w low i)
    ∙ ap (λ x. times_root (master w m) x j) (e m (omega arith))
    ∙ sym (master_suc w m j)

-- entry j of a column of the inverse: of the polynomial of the point r, or of its values at the first points
abbrev pub column_entry : ℕ → ℕ → (ℕ → ℕ) → ℕ → ℕ → ℕ
column_entry zero k c r j = basis k c r j
column_entry (suc _) k c r j = value k (basis k c r) (j + 1)

pub column_ext : (algorithm k : ℕ) (c d : ℕ → ℕ) (r s : ℕ) → r ≡ s → ((j : ℕ) → j < k → c j ≡ d j) → (j : ℕ) → j < k → column_entry algorithm k c r j ≡ column_entry algorithm k d s j
column_ext zero k c d r s same e j l = basis_ext k c d r s same e j l
column_ext (suc n) k c d r s same e j l = value_ext k (basis k c r) (basis k d s) (j + 1) (basis_ext k c d r s same e)

-- entry i of the row of algorithm 1, from what each call gives

first_table : (i : ℕ) → i < 16 → get_or (1 ∷ 2 ∷ 3 ∷ 4 ∷ 5 ∷ 6 ∷ 7 ∷ 8 ∷ 9 ∷ 10 ∷ 11 ∷ 12 ∷ 13 ∷ 14 ∷ 15 ∷ 16 ∷ []) i 0 ≡ i + 1
first_table i l = agree_at 16 (λ m. get_or (1 ∷ 2 ∷ 3 ∷ 4 ∷ 5 ∷ 6 ∷ 7 ∷ 8 ∷ 9 ∷ 10 ∷ 11 ∷ 12 ∷ 13 ∷ 14 ∷ 15 ∷ 16 ∷ []) m 0) (λ m. m + 1) refl i l

pub systematic_value : (k b i : ℕ) → k ≤ 16 → (all one : List ℕ) (x : ℕ)
    → ((j : ℕ) → j < 17 → get_or all j 0 ≡ master (entry (1 ∷ 2 ∷ 3 ∷ 4 ∷ 5 ∷ 6 ∷ 7 ∷ 8 ∷ 9 ∷ 10 ∷ 11 ∷ 12 ∷ 13 ∷ 14 ∷ 15 ∷ 16 ∷ [])) k j)
    → ((j : ℕ) → j < k → get_or one j 0 ≡ basis k (entry all) (i + 1) j)
    → x ≡ value k (entry one) (b + 1) → x ≡ value k (basis k (master (λ m. m + 1) k) (i + 1)) (b + 1)
systematic_value k b i l all one x e f g =
    g ∙ value_ext k (entry one) (basis k (master (λ m. m + 1) k) (i + 1)) (b + 1)
    (λ j h. f j h ∙ basis_ext k (entry all) (master (λ m. m + 1) k) (i + 1) (i + 1) refl
    (λ q m. e q (omega arith) ∙ master_ext k (entry (1 ∷ 2 ∷ 3 ∷ 4 ∷ 5 ∷ 6 ∷ 7 ∷ 8 ∷ 9 ∷ 10 ∷ 11 ∷ 12 ∷ 13 ∷ 14 ∷ 15 ∷ 16 ∷ [])) (λ m. m + 1) (λ s t. first_table s (omega arith)) q) j h)

-- a column of the inverse, from what each call gives

pub column_of_basis : (algorithm k : ℕ) (c : ℕ → ℕ) (r : ℕ) (column : List ℕ) → algorithm ≡ 0 → ((j : ℕ) → j < k → get_or column j 0 ≡ basis k c r j)
    → (j : ℕ) → j < k → get_or column j 0 ≡ column_entry algorithm k c r j
column_of_basis zero k c r column e f j l = f j l
column_of_basis (suc n) k c r column e f j l = absurd (omega (arith, e))

pub column_of_values : (algorithm k : ℕ) (c : ℕ → ℕ) (r : ℕ) (one column : List ℕ) → (algorithm ≡ 0 → ⊥) → ((j : ℕ) → j < k → get_or one j 0 ≡ basis k c r j)
    → ((j : ℕ) → j < k → get_or column j 0 ≡ value k (entry one) (j + 1)) → (j : ℕ) → j < k → get_or column j 0 ≡ column_entry algorithm k c r j
column_of_values zero k c r one column d e f j l = absurd (d refl)
column_of_values (suc n) k c r one column d e f j l = f j l ∙ value_ext k (entry one) (basis k c r) (j + 1) e

-- a matrix with one column more
pub with_column : (old new : List (List ℕ)) (column : List ℕ) (i j m : ℕ) (f : ℕ → ℕ)
    → cell new j m ≡ (if nat_eq m i then get_or column j 0 else cell old j m) → (m < i → cell old j m ≡ f m) → get_or column j 0 ≡ f i → m < i + 1 → cell new j m ≡ f m
with_column old new column i j m f e before here l =
    elim (cases_eq m i) [
      | inl s ↦ e ∙ cond-true (nat_eq m i) (get_or column j 0) (cell old j m) (eq-eqb m i s) ∙ here ∙ ap f (sym s)
      | inr d ↦ e ∙ cond-false (nat_eq m i) (get_or column j 0) (cell old j m) (ne_eqb m i d) ∙ before (omega arith)
    ]
