-- The shape of a volume.
use Rattle.std.specs.Prelude.{ℕ, ◌+◌, ◌*◌, ◌<◌, ◌≤◌}

-- n bricks with redundancy r: more than half of them suffice to read, and these are from 2 to 16. Algorithm 0 has
-- plain rows, algorithm 1 systematic ones.
pub record IsGeometry (n r algorithm : ℕ) : Type 0 where
  pub redundant : 0 < r
  pub majority : 2 * r < n
  pub least : 2 + r ≤ n
  pub most : n ≤ 16 + r
  pub bricks : n ≤ 31
  pub known : algorithm ≤ 1
