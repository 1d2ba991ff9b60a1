-- A stripe is known by its codes at K bricks.
use Rattle.std.specs.Prelude.{◌≡◌, ℕ, ◌%◌, ◌^◌, ◌<◌, ◌≤◌, Bool, true, List, slice_index}
use Rattle.ec_attr.specs.Bricks.{count_below}
use Rattle.ec_conduct.specs.Data.{stripe_byte}
use Rattle.ec_field.specs.Code.{IsCode, IsStripe}
use Rattle.ec_law_data.specs.Coding.{by_rows}
use Rattle.ec_law_reads.specs.Rows.{AreRows, row_at}
use Rattle.ec_matrix.specs.Inverse.{IsByteRow}
use Rattle.ec_stripe.specs.Span.{stripe_bytes}

-- At a brick both stripes have the same code.
abbrev pub HaveOneCode : ℕ → ℕ → ℕ → List (List ℕ) → List (List ℕ) → Type 0
HaveOneCode k algorithm b x y = (chunk : List ℕ) × IsCode k algorithm b x chunk × IsCode k algorithm b y chunk

-- The code at a brick of a stripe, as a chunk, has the bytes of the other's.
pub record HaveOnePiece (k algorithm b : ℕ) (rows : ℕ → ℕ → ℕ) (x y : List (List ℕ)) : Type 0 where
  pub chunk : List ℕ
  pub code : IsCode k algorithm b x chunk
  pub bytes : (i : ℕ) → i < 512 → slice_index chunk i ≡ by_rows k rows y b i

-- whatever holds of k bricks of a set of the n
abbrev pub AtSomeBricks : ℕ → ℕ → (ℕ → Type 0) → Type 0
AtSomeBricks n k P = (which : ℕ → Bool) × (k ≤ count_below n which) × ((b : ℕ) → b < n → which b ≡ true → P b)

-- stripes have the same bytes
abbrev pub HaveSameBytes : ℕ → List (List ℕ) → List (List ℕ) → Type 0
HaveSameBytes k x y = (i : ℕ) → i < stripe_bytes k → stripe_byte x i ≡ stripe_byte y i

-- A number that stands in a stripe for a byte need be none, as far as a list of lists goes: its code has the low eight bits.
abbrev pub HaveSameLowBytes : ℕ → List (List ℕ) → List (List ℕ) → Type 0
HaveSameLowBytes k x y = (i : ℕ) → i < stripe_bytes k → stripe_byte x i % 2 ^ 8 ≡ stripe_byte y i % 2 ^ 8

pub record StripeLaws : Type 0 where
  -- each brick has such a row, and no other
  pub row : (k algorithm b : ℕ) → k ≤ 16 → b < 31 → IsByteRow k algorithm b (row_at k algorithm b)
  pub one_row : (k algorithm b : ℕ) (row : ℕ → ℕ) → k ≤ 16 → b < 31 → IsByteRow k algorithm b row → (j : ℕ) → j < k → row j ≡ row_at k algorithm b j
  -- stripes that have the same codes at k of the n bricks have the same bytes
  pub codes : (n k algorithm : ℕ) (x y : List (List ℕ)) → n ≤ 31 → k ≤ 16 → IsStripe k x → IsStripe k y → AtSomeBricks n k (λ b. HaveOneCode k algorithm b x y) → HaveSameBytes k x y
  -- and so have stripes with the same codes byte by byte
  pub pieces : (n k algorithm : ℕ) (rows : ℕ → ℕ → ℕ) (x y : List (List ℕ)) → n ≤ 31 → k ≤ 16 → AreRows n k algorithm rows → IsStripe k x → IsStripe k y → AtSomeBricks n k (λ b. (i : ℕ) → i < 512 → by_rows k rows x b i ≡ by_rows k rows y b i) → HaveSameBytes k x y
  -- and one whose codes, as chunks, have the bytes of the other's codes
  pub decoded : (n k algorithm : ℕ) (rows : ℕ → ℕ → ℕ) (x y : List (List ℕ)) → n ≤ 31 → k ≤ 16 → AreRows n k algorithm rows → AtSomeBricks n k (λ b. HaveOnePiece k algorithm b rows x y) → HaveSameLowBytes k x y
