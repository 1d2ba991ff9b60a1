-- The rows of each algorithm, and the inverse of the rows of a set.
use Rattle.std.proofs.Common.{◌≡◌, ℕ, zero, suc, ◌+◌, ◌-◌, ◌<◌, ◌≤◌, List, length, refl, sym, ◌∙◌, arith}
use Rattle.ec_field.specs.Field.{sum_below, product}
use Rattle.ec_field.specs.Code.{plain_entry}
use Rattle.ec_field.proofs.Powers.{power_is_byte}
use Rattle.ec_attr.specs.Bricks.{bricks}
use Rattle.ec_matrix.specs.Polynomial.{value, basis, master}
use Rattle.ec_matrix.specs.Inverse.{IsByteRow, cell, IsInverse}
use Rattle.ec_matrix.proofs.Matrices.{ByteRow, ByteMatrix, times, times_same, times_is_byte, row_times_is_byte, times_back, only_row, changed_right, changed_left}
use Rattle.ec_matrix.proofs.Values.{value_by_powers}
use Rattle.ec_matrix.proofs.Roots.{IsPoints, powers, bases, powers_are_bytes, bases_are_bytes, basis_is_byte, powers_times_bases, bases_times_powers}
use Rattle.ec_matrix.proofs.Steps.{column_entry}
use Rattle.ec_matrix.proofs.Points.{first, point, first_points, set_points}

-- the row of algorithm 0

plain_bytes : (k b : ℕ) → b < 31 → ByteRow k (plain_entry k b)
plain_bytes k b l j h = power_is_byte (b + 1) (k - 1 - j) (omega arith)

pub plain_row : (k b : ℕ) (row : ℕ → ℕ) → b < 31 → ((j : ℕ) → j < k → row j ≡ plain_entry k b j) → IsByteRow k 0 b row
plain_row k b row l e = record { bytes = λ j h. rw (e j h) (plain_bytes k b l j h); is_row = e }

pub plain_row_only : (k b : ℕ) (row : ℕ → ℕ) → ((j : ℕ) → j < k → row j ≡ plain_entry k b j)
    → (other : ℕ → ℕ) → IsByteRow k 0 b other → (j : ℕ) → j < k → other j ≡ row j
plain_row_only k b row e other o j l = o.is_row j l ∙ sym (e j l)

-- the row of algorithm 1: the plain row times the inverse of the first rows

abbrev pub systematic_entry : ℕ → ℕ → ℕ → ℕ
systematic_entry k b i = value k (basis k (master first k) (i + 1)) (b + 1)

by_plain : (k b i : ℕ) → k ≤ 16 → b < 31 → i < k → systematic_entry k b i ≡ sum_below k (λ m. product (plain_entry k b m) (bases k first m i))
by_plain k b i l m h = sym (value_by_powers k (λ j. bases k first j i) (b + 1) (basis_is_byte k first (first_points k l) i h) (omega arith))

plain_times_bases : (k b : ℕ) (row : ℕ → ℕ) → k ≤ 16 → b < 31 → ((i : ℕ) → i < k → row i ≡ sum_below k (λ m. product (plain_entry k b m) (bases k first m i)))
    → (n : ℕ) → IsByteRow k (suc n) b row
plain_times_bases k b row l m e n =
    let p : IsPoints k first = first_points k l in
    record {
      bytes = λ i h. rw (e i h) (row_times_is_byte k (plain_entry k b) (λ q. bases k first q i) (plain_bytes k b m) (λ q f. bases_are_bytes k first p q i f h));
      is_row = λ j h.
          times_same k row (λ i. sum_below k (λ q. product (plain_entry k b q) (bases k first q i))) (λ i. plain_entry k i j) (λ i. plain_entry k i j) e (λ i f. refl)
          ∙ times_back k (plain_entry k b) (bases k first) (powers k first) (plain_bytes k b m) (bases_are_bytes k first p) (powers_are_bytes k first p) (bases_times_powers k first p) j h;
    }

pub systematic_row : (algorithm k b : ℕ) (row : ℕ → ℕ) → (algorithm ≡ 0 → ⊥) → k ≤ 16 → b < 31 → ((i : ℕ) → i < k → row i ≡ systematic_entry k b i) → IsByteRow k algorithm b row
systematic_row zero k b row d l m e = absurd (d refl)
systematic_row (suc n) k b row d l m e = plain_times_bases k b row l m (λ i h. e i h ∙ by_plain k b i l m h) n

pub systematic_row_only : (algorithm k b : ℕ) (row : ℕ → ℕ) → (algorithm ≡ 0 → ⊥) → k ≤ 16 → b < 31 → ((i : ℕ) → i < k → row i ≡ systematic_entry k b i)
    → (other : ℕ → ℕ) → IsByteRow k algorithm b other → (j : ℕ) → j < k → other j ≡ row j
systematic_row_only zero k b row d l m e other o j h = absurd (d refl)
systematic_row_only (suc n) k b row d l m e other o j h =
    let p : IsPoints k first = first_points k l in
    only_row k other (plain_entry k b) (powers k first) (bases k first) o.bytes (powers_are_bytes k first p) (bases_are_bytes k first p) (powers_times_bases k first p) o.is_row j h
    ∙ sym (by_plain k b j l m h) ∙ sym (e j h)

-- the inverse of the rows of a set, algorithm 0

pub plain_inverse : (k bits : ℕ) (cells : List (List ℕ)) → length (bricks bits) ≡ k
    → ((j i : ℕ) → j < k → i < k → cell cells j i ≡ bases k (point bits) j i) → IsInverse k 0 bits cells
plain_inverse k bits cells e is =
    let p : IsPoints k (point bits) = set_points bits k e in
    record {
      bytes = λ j i h l. rw (is j i h l) (bases_are_bytes k (point bits) p j i h l);
      rows = powers k (point bits);
      are_rows = λ i l. record { bytes = λ j h. powers_are_bytes k (point bits) p i j l h; is_row = λ j h. refl };
      left = λ any rows m j h l.
          times_same k (λ i. cell cells m i) (λ i. bases k (point bits) m i) (λ i. any i j) (λ i. powers k (point bits) i j) (λ i f. is m i h f) (λ i f. (rows i f).is_row j l)
          ∙ bases_times_powers k (point bits) p m j h l;
      right = λ any rows m i h l.
          times_same k (any m) (powers k (point bits) m) (λ j. cell cells j i) (λ j. bases k (point bits) j i) (λ j f. (rows m h).is_row j f) (λ j f. is j i f l)
          ∙ powers_times_bases k (point bits) p m i h l;
    }

-- and algorithm 1

-- the values of the polynomial of point i at the first points
abbrev pub changed : ℕ → (ℕ → ℕ) → ℕ → ℕ → ℕ
changed k v j i = value k (basis k (master v k) (v i)) (j + 1)

changed_by_times : (k : ℕ) (v : ℕ → ℕ) → k ≤ 16 → IsPoints k v → (j i : ℕ) → j < k → i < k → changed k v j i ≡ times k (powers k first) (bases k v) j i
changed_by_times k v l p j i h m = sym (value_by_powers k (λ q. bases k v q i) (j + 1) (basis_is_byte k v p i m) (omega arith))

pub systematic_inverse : (algorithm k bits : ℕ) (cells : List (List ℕ)) → (algorithm ≡ 0 → ⊥) → k ≤ 16 → length (bricks bits) ≡ k
    → ((j i : ℕ) → j < k → i < k → cell cells j i ≡ changed k (point bits) j i) → IsInverse k algorithm bits cells
systematic_inverse zero k bits cells d l e is = absurd (d refl)
systematic_inverse (suc n) k bits cells d l e is =
    let p : IsPoints k (point bits) = set_points bits k e in
    let q : IsPoints k first = first_points k l in
    let f : ℕ → ℕ → ℕ = powers k first in
    let a : ℕ → ℕ → ℕ = bases k first in
    let s : ℕ → ℕ → ℕ = powers k (point bits) in
    let v : ℕ → ℕ → ℕ = bases k (point bits) in
    let fb : ByteMatrix k f = powers_are_bytes k first q in
    let ab : ByteMatrix k a = bases_are_bytes k first q in
    let sb : ByteMatrix k s = powers_are_bytes k (point bits) p in
    let vb : ByteMatrix k v = bases_are_bytes k (point bits) p in
    let by_times : (j i : ℕ) → j < k → i < k → cell cells j i ≡ times k f v j i = λ j i h m. is j i h m ∙ changed_by_times k (point bits) l p j i h m in
    record {
      bytes = λ j i h m. rw (by_times j i h m) (times_is_byte k f v fb vb j i h m);
      rows = times k s a;
      are_rows = λ i h. record {
        bytes = λ j m. times_is_byte k s a sb ab i j h m;
        is_row = λ j m. times_back k (s i) a f (λ x g. sb i x h g) ab fb (bases_times_powers k first q) j m;
      };
      left = λ any rows m j h g.
          times_same k (λ i. cell cells m i) (λ i. times k f v m i) (λ i. any i j) (λ i. any i j) (λ i x. by_times m i h x) (λ i x. refl)
          ∙ changed_left k f a s v any fb ab sb vb (λ i x y z. (rows i y).bytes x z) (powers_times_bases k first q) (bases_times_powers k (point bits) p) (λ i x y z. (rows i y).is_row x z) m j h g;
      right = λ any rows m i h g.
          times_same k (any m) (any m) (λ j. cell cells j i) (λ j. times k f v j i) (λ j x. refl) (λ j x. by_times j i x g)
          ∙ changed_right k f s v any fb vb (λ i x y z. (rows i y).bytes x z) (powers_times_bases k (point bits) p) (λ i x y z. (rows i y).is_row x z) m i h g;
    }

-- the inverse, from the columns that a loop has written
pub inverse_of : (algorithm k bits : ℕ) (cells : List (List ℕ)) → k ≤ 16 → length (bricks bits) ≡ k
    → ((j i : ℕ) → j < k → i < k → cell cells j i ≡ column_entry algorithm k (master (point bits) k) (point bits i) j) → IsInverse k algorithm bits cells
inverse_of zero k bits cells l e is = plain_inverse k bits cells e is
inverse_of (suc n) k bits cells l e is = systematic_inverse (suc n) k bits cells (λ z. absurd (omega (arith, z))) l e is
