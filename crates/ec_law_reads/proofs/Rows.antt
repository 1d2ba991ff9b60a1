-- The rows of any k bricks have an inverse, so the elements of a stripe are known by those of its codes.
use Rattle.std.proofs.Common.{◌≡◌, ℕ, zero, suc, ◌+◌, ◌<◌, ◌≤◌, Bool, true, List, get_or, inl, inr, refl, sym, ◌∙◌, arith}
use Rattle.std.proofs.lemmas.Bool.{cases_order}
use Rattle.ec_attr.specs.Bricks.{bricks_below, count_below}
use Rattle.ec_attr.proofs.Sets.{each, rising}
use Rattle.ec_field.specs.Field.{sum_below, product, kronecker}
use Rattle.ec_field.specs.Chunk.{element}
use Rattle.ec_field.specs.Code.{chunk_at, combined_element, plain_entry}
use Rattle.ec_field.proofs.Elements.{element_is_byte}
use Rattle.ec_law_reads.specs.Rows.{row_at}
use Rattle.ec_matrix.specs.Inverse.{IsByteRow}
use Rattle.ec_matrix.proofs.Algorithms.{plain_row, plain_row_only, systematic_row, systematic_row_only}
use Rattle.ec_matrix.proofs.Matrices.{ByteMatrix, IsIdentity, times, times_is_byte, times_same, times_assoc, identity_times, changed_left}
use Rattle.ec_matrix.proofs.Points.{first, first_points}
use Rattle.ec_matrix.proofs.Roots.{IsPoints, powers, bases, powers_are_bytes, bases_are_bytes, powers_times_bases, bases_times_powers}

-- the i-th brick of a set, and its point
abbrev pub brick_of : ℕ → (ℕ → Bool) → ℕ → ℕ
brick_of n which i = get_or (bricks_below n which) i 0

abbrev point_of : ℕ → (ℕ → Bool) → ℕ → ℕ
point_of n which i = brick_of n which i + 1

points_of : (n k : ℕ) (which : ℕ → Bool) → n ≤ 31 → k ≤ count_below n which → IsPoints k (point_of n which)
points_of n k which few enough = record {
  bytes = λ i l. let h : brick_of n which i < n = (each n which i (omega arith)).0 in omega arith;
  apart = λ i j l m same. elim (cases_order i j) [
    | inl here ↦ here
    | inr (inl below) ↦ let h : brick_of n which i < brick_of n which j = rising n which i j below (omega arith) in absurd (omega arith)
    | inr (inr above) ↦ let h : brick_of n which j < brick_of n which i = rising n which j i above (omega arith) in absurd (omega arith)
  ];
}

-- a matrix that undoes rows
pub record Undoes (k : ℕ) (rows : ℕ → ℕ → ℕ) : Type 0 where
  pub matrix : ℕ → ℕ → ℕ
  pub bytes : ByteMatrix k matrix
  pub undoes : IsIdentity k matrix rows

undone : (k algorithm : ℕ) (bricks : ℕ → ℕ) (rows : ℕ → ℕ → ℕ) → k ≤ 16 → IsPoints k (λ i. bricks i + 1) → ((i : ℕ) → i < k → IsByteRow k algorithm (bricks i) (rows i)) → Undoes k rows
undone k zero bricks rows few points are =
    let v : ℕ → ℕ = λ i. bricks i + 1 in
    record {
      matrix = bases k v;
      bytes = bases_are_bytes k v points;
      undoes = λ m j h l.
          times_same k (λ i. bases k v m i) (λ i. bases k v m i) (λ i. rows i j) (λ i. powers k v i j) (λ i f. refl) (λ i f. (are i f).is_row j l)
          ∙ bases_times_powers k v points m j h l;
    }
undone k (suc algorithm) bricks rows few points are =
    let v : ℕ → ℕ = λ i. bricks i + 1 in
    let q : IsPoints k first = first_points k few in
    record {
      matrix = times k (powers k first) (bases k v);
      bytes = times_is_byte k (powers k first) (bases k v) (powers_are_bytes k first q) (bases_are_bytes k v points);
      undoes = changed_left k (powers k first) (bases k first) (powers k v) (bases k v) rows
          (powers_are_bytes k first q) (bases_are_bytes k first q) (powers_are_bytes k v points) (bases_are_bytes k v points) (λ i j p r. (are i p).bytes j r)
          (powers_times_bases k first q) (bases_times_powers k v points) (λ i j p r. (are i p).is_row j r);
    }

abbrev elements_at : List (List ℕ) → ℕ → ℕ → ℕ
elements_at stripe e j = element (chunk_at stripe j) e

-- an element of a stripe, by those of its codes
solved : (k : ℕ) (rows : ℕ → ℕ → ℕ) (u : Undoes k rows) → ByteMatrix k rows → (x : List (List ℕ)) (m e : ℕ) → m < k
    → element (chunk_at x m) e ≡ sum_below k (λ i. product (u.matrix m i) (combined_element k (rows i) x e))
solved k rows u byte x m e l =
    sym (identity_times k m (elements_at x e) (λ j p. element_is_byte (chunk_at x j) e) l)
    ∙ sym (times_same k (λ j. sum_below k (λ i. product (u.matrix m i) (rows i j))) (kronecker m) (elements_at x e) (elements_at x e) (λ j p. u.undoes m j l p) (λ j p. refl))
    ∙ times_assoc k (u.matrix m) rows (elements_at x e) (λ i p. u.bytes m i l p) byte (λ j p. element_is_byte (chunk_at x j) e)

-- At k bricks of a set the codes of both stripes have this element in common.
pub same_element : (n k algorithm : ℕ) (rows : ℕ → ℕ → ℕ) (x y : List (List ℕ)) (which : ℕ → Bool) (e : ℕ) → n ≤ 31 → k ≤ 16 → ((b : ℕ) → b < n → IsByteRow k algorithm b (rows b))
    → k ≤ count_below n which → ((b : ℕ) → b < n → which b ≡ true → combined_element k (rows b) x e ≡ combined_element k (rows b) y e)
    → (m : ℕ) → m < k → element (chunk_at x m) e ≡ element (chunk_at y m) e
same_element n k algorithm rows x y which e few less are enough same m l =
    let there : (i : ℕ) → i < k → (brick_of n which i < n) × (which (brick_of n which i) ≡ true) = λ i p. each n which i (omega arith) in
    let chosen : ℕ → ℕ → ℕ = λ i. rows (brick_of n which i) in
    let are_chosen : (i : ℕ) → i < k → IsByteRow k algorithm (brick_of n which i) (chosen i) = λ i p. are (brick_of n which i) (there i p).0 in
    let byte : ByteMatrix k chosen = λ i j p r. (are_chosen i p).bytes j r in
    let u : Undoes k chosen = undone k algorithm (brick_of n which) chosen less (points_of n k which few enough) are_chosen in
    solved k chosen u byte x m e l
    ∙ times_same k (u.matrix m) (u.matrix m) (λ i. combined_element k (chosen i) x e) (λ i. combined_element k (chosen i) y e) (λ i p. refl) (λ i p. same (brick_of n which i) (there i p).0 (there i p).1)
    ∙ sym (solved k chosen u byte y m e l)

-- the row of a brick

pub is_row_at : (k algorithm b : ℕ) → k ≤ 16 → b < 31 → IsByteRow k algorithm b (row_at k algorithm b)
is_row_at k zero b few l = plain_row k b (plain_entry k b) l (λ j h. refl)
is_row_at k (suc algorithm) b few l = systematic_row (suc algorithm) k b (row_at k (suc algorithm) b) (λ z. absurd (omega (arith, z))) few l (λ j h. refl)

pub only_row_at : (k algorithm b : ℕ) (row : ℕ → ℕ) → k ≤ 16 → b < 31 → IsByteRow k algorithm b row → (j : ℕ) → j < k → row j ≡ row_at k algorithm b j
only_row_at k zero b row few l is j h = plain_row_only k b (plain_entry k b) (λ j h. refl) row is j h
only_row_at k (suc algorithm) b row few l is j h = systematic_row_only (suc algorithm) k b (row_at k (suc algorithm) b) (λ z. absurd (omega (arith, z))) few l (λ j h. refl) row is j h

-- so two rows of one brick combine a stripe alike
pub same_combined : (k algorithm b : ℕ) (row other : ℕ → ℕ) (x : List (List ℕ)) (e : ℕ) → k ≤ 16 → b < 31 → IsByteRow k algorithm b row → IsByteRow k algorithm b other
    → combined_element k row x e ≡ combined_element k other x e
same_combined k algorithm b row other x e few l is also =
    times_same k row other (elements_at x e) (elements_at x e) (λ j h. only_row_at k algorithm b row few l is j h ∙ sym (only_row_at k algorithm b other few l also j h)) (λ j h. refl)
