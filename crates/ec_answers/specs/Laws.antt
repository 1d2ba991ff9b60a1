-- The laws of good groups.
use Rattle.std.specs.Prelude.{◌≡◌, ℕ, ◌*◌, ◌<◌, ◌≤◌, ◌↔◌, Bool, true, Option, Some, None}
use Rattle.ec_attr.specs.GoodGroup.{IsGoodGroup, agree, greatest_dirty, most_alike}
use Rattle.ec_attr.specs.declared.head.Head.{Head}

pub record GoodGroupLaws : Type 0 where
  -- which parts of two heads are equal where they agree
  pub parts : (a b : Head) → (agree a b ≡ true) ↔ ((a.kind ≡ b.kind) × (a.config ≡ b.config) × (a.version.content ≡ b.version.content) × (a.size ≡ b.size) × (a.attr ≡ b.attr))
  -- of n bricks, where n is below 2k, there is one good group at most
  pub unique : (n k : ℕ) (heads : ℕ → Option Head) (p q : ℕ → Bool) → n < 2 * k → ((b : ℕ) → n ≤ b → heads b ≡ None)
      → IsGoodGroup k heads p → IsGoodGroup k heads q → (b : ℕ) → p b ≡ q b
  -- there is one where k bricks are alike, and only there
  pub some : (k : ℕ) (heads : ℕ → Option Head) → 0 < k → k ≤ most_alike heads → (p : ℕ → Bool) × IsGoodGroup k heads p
  pub enough : (k : ℕ) (heads : ℕ → Option Head) (p : ℕ → Bool) → 0 < k → IsGoodGroup k heads p → k ≤ most_alike heads
  -- no brick of a set has a greater dirty number than the greatest of the set
  pub dirtiest : (heads : ℕ → Option Head) (p : ℕ → Bool) (b : ℕ) (h : Head) → b < 31 → p b ≡ true → heads b ≡ Some h
      → h.dirty.content ≤ greatest_dirty heads p
  -- where more is known of the bricks, the bricks of a good group stay together in one
  pub part : (k : ℕ) (heads more : ℕ → Option Head) (p : ℕ → Bool) → 0 < k → ((b : ℕ) (h : Head) → heads b ≡ Some h → more b ≡ Some h)
      → IsGoodGroup k heads p → (q : ℕ → Bool) × IsGoodGroup k more q × ((b : ℕ) → p b ≡ true → q b ≡ true)
