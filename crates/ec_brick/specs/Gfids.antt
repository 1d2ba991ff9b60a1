-- Pages of gfids: up to 64 of a set, rising.
use Rattle.std.specs.Prelude.{◌≡◌, ◌⊎◌, ℕ, ◌<◌, ◌≤◌, Bool, true, false, ◌==◌, ◌&&◌, nat_lt, Option, Some, None, List, [], ◌∷◌, length}
use Rattle.std.specs.List.{list_any}
use Rattle.ec_attr.specs.declared.gfid.Gfid.{Gfid}

abbrev pub is_above : Option Gfid → ℕ → Bool
is_above None g = true
is_above (Some a) g = nat_lt a.0 g

-- each gfid is above the one before it, the first above `after`
abbrev pub gfids_rise : Option Gfid → List Gfid → Bool
gfids_rise after [] = true
gfids_rise after (g ∷ rest) = is_above after g.0 && gfids_rise (Some g) rest

-- how far a page tells where it is full
abbrev pub last_gfid : Option Gfid → List Gfid → Option Gfid
last_gfid after [] = after
last_gfid after (g ∷ rest) = last_gfid (Some g) rest

abbrev pub is_listed : List Gfid → ℕ → Bool
is_listed list g = list_any (λ x. x.0 == g) list

-- at most 64 gfids past `after`, rising: those of the set, where the page is full up to its last
pub record IsGfidPage (after : Option Gfid) (set : ℕ → Bool) (list : List Gfid) : Type 0 where
  pub few : length list ≤ 64
  pub rise : gfids_rise after list ≡ true
  pub shows : (g : ℕ) → is_above after g ≡ true → (length list < 64) ⊎ (is_above (last_gfid after list) g ≡ false) → is_listed list g ≡ set g

-- the least of the set above `after`, or none where there is none
abbrev pub IsNextGfid : (ℕ → Bool) → Option Gfid → Option Gfid → Type 0
IsNextGfid set after None = (g : ℕ) → is_above after g ≡ true → set g ≡ false
IsNextGfid set after (Some n) = (is_above after n.0 ≡ true) × (set n.0 ≡ true) × ((g : ℕ) → is_above after g ≡ true → g < n.0 → set g ≡ false)

-- a page that is being filled
pub record IsPageStart (after : Option Gfid) (set : ℕ → Bool) (list : List Gfid) : Type 0 where
  pub shows : (g : ℕ) → is_above after g ≡ true → is_above (last_gfid after list) g ≡ false → is_listed list g ≡ set g
  pub ends : (g : ℕ) → is_above (last_gfid after list) g ≡ true → is_listed list g ≡ false
