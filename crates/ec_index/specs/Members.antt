-- A set of gfids, as the test of a number's membership, and which member comes next.
use Rattle.std.specs.Prelude.{◌≡◌, ℕ, ◌<◌, Bool, true, false, cond, ◌==◌, Option, Some, None}
use Rattle.std.specs.BTreeSet.{contains}
use Rattle.std.specs.Ordering.{nat_cmp}
use Rattle.ec_attr.specs.declared.gfid.Gfid.{Gfid}
use Rattle.ec_index.specs.declared.index.Index.{Index}

-- the gfids of an index
abbrev pub members : Index → ℕ → Bool
members i g = contains nat_cmp i.gfids g

-- the set with `g` in it or out of it, and all others as they were
abbrev pub with_member : (ℕ → Bool) → ℕ → Bool → ℕ → Bool
with_member set g on h = cond (g == h) on (set h)

-- the least member above `g`, or none where there is none
abbrev pub NextIs : (ℕ → Bool) → ℕ → Option Gfid → Type 0
NextIs set g None = (h : ℕ) → g < h → set h ≡ false
NextIs set g (Some n) = (g < n.0) × (set n.0 ≡ true) × ((h : ℕ) → g < h → h < n.0 → set h ≡ false)
