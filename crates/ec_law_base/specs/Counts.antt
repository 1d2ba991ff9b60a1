-- Sets of bricks, each given by its test, and how many of the first n they hold.
use Rattle.std.specs.Prelude.{◌≡◌, ℕ, ◌+◌, ◌<◌, ◌≤◌, Bool, true}
use Rattle.ec_attr.specs.Bricks.{count_below}

pub record CountLaws : Type 0 where
  -- a set that is part of another, and equal sets
  pub mono : (p q : ℕ → Bool) (n : ℕ) → ((c : ℕ) → p c ≡ true → q c ≡ true) → count_below n p ≤ count_below n q
  pub same : (p q : ℕ → Bool) (n : ℕ) → ((c : ℕ) → p c ≡ q c) → count_below n p ≡ count_below n q
  -- a set that isn't empty has a brick
  pub some : (p : ℕ → Bool) (n : ℕ) → 0 < count_below n p → (c : ℕ) × (p c ≡ true)
  -- two sets that together hold more than n share a brick
  pub share : (p q : ℕ → Bool) (n : ℕ) → n < count_below n p + count_below n q → (c : ℕ) × (p c ≡ true) × (q c ≡ true)
