-- Sets of bricks, each given by the number of its bits or by a test.
use Rattle.std.specs.Prelude.{◌≡◌, ◌≢◌, ℕ, zero, suc, ◌+◌, ◌*◌, ◌^◌, ◌<◌, ◌≤◌, ◌&&◌, ◌||◌, not, Bool, true, false, List, [], ◌∷◌, ◌++◌, length, slice_index, nat_eq, if◌then◌else◌}
use Rattle.std.specs.Int.{bit_at}

-- whether a brick is in the set of these bits
abbrev pub is_in : ℕ → ℕ → Bool
is_in bits b = nat_eq (bit_at bits b) 1

-- the bricks below n that pass a test, rising
unfoldable pub bricks_below : ℕ → (ℕ → Bool) → List ℕ
bricks_below zero test = []
bricks_below (suc n) test = bricks_below n test ++ (if test n then n ∷ [] else [])

-- how many bricks below n pass a test
unfoldable pub count_below : ℕ → (ℕ → Bool) → ℕ
count_below zero test = 0
count_below (suc n) test = count_below n test + (if test n then 1 else 0)

-- the bricks of the set of these bits, rising
abbrev pub bricks : ℕ → List ℕ
bricks bits = bricks_below 31 (is_in bits)

-- What holds of every set of bricks, each given by its test p or q.
pub record BrickLaws : Type 0 where
  pub len : (n : ℕ) (p : ℕ → Bool) → length (bricks_below n p) ≡ count_below n p
  pub most : (n : ℕ) (p : ℕ → Bool) → count_below n p ≤ n
  -- the list holds the bricks of the set and no others, each brick above the ones before it
  pub each : (n : ℕ) (p : ℕ → Bool) (i : ℕ) → i < count_below n p → (slice_index (bricks_below n p) i < n) × (p (slice_index (bricks_below n p) i) ≡ true)
  pub place : (n : ℕ) (p : ℕ → Bool) (b : ℕ) → b < n → p b ≡ true → (i : ℕ) × (i < count_below n p) × (slice_index (bricks_below n p) i ≡ b)
  pub rising : (n : ℕ) (p : ℕ → Bool) (i j : ℕ) → i < j → j < count_below n p → slice_index (bricks_below n p) i < slice_index (bricks_below n p) j
  -- equal sets, part of a set, and one brick more
  pub same : (n : ℕ) (p q : ℕ → Bool) → ((b : ℕ) → b < n → p b ≡ q b) → bricks_below n p ≡ bricks_below n q
  pub same_count : (n : ℕ) (p q : ℕ → Bool) → ((b : ℕ) → b < n → p b ≡ q b) → count_below n p ≡ count_below n q
  pub part : (n : ℕ) (p q : ℕ → Bool) → ((b : ℕ) → b < n → p b ≡ true → q b ≡ true) → count_below n p ≤ count_below n q
  pub one_more : (n b : ℕ) (p q : ℕ → Bool) → b < n → p b ≡ false → q b ≡ true → ((c : ℕ) → c < n → c ≢ b → p c ≡ q c) → count_below n q ≡ count_below n p + 1
  -- brick b put in, and taken out
  pub added : (n b : ℕ) (p q : ℕ → Bool) → b < n → ((c : ℕ) → q c ≡ (nat_eq c b || p c)) → count_below n q ≡ count_below n p + (if p b then 0 else 1)
  pub removed : (n b : ℕ) (p q : ℕ → Bool) → b < n → ((c : ℕ) → q c ≡ (not (nat_eq c b) && p c)) → count_below n q + (if p b then 1 else 0) ≡ count_below n p
  -- two sets of at least k of n bricks share a brick where n is below 2k
  pub share : (n k : ℕ) (p q : ℕ → Bool) → n < 2 * k → k ≤ count_below n p → k ≤ count_below n q → (b : ℕ) × (b < n) × (p b ≡ true) × (q b ≡ true)
  -- bits with the same bricks are equal
  pub bits : (a b : ℕ) → a < 2 ^ 31 → b < 2 ^ 31 → ((c : ℕ) → c < 31 → is_in a c ≡ is_in b c) → a ≡ b
