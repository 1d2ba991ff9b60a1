-- Sets of places, as the tests of what is in them.
use Rattle.std.specs.Prelude.{◌≡◌, ℕ, ◌<◌, Bool, true, false, cond, ◌==◌, ◌&&◌, Option, Some, None}
use Rattle.std.specs.Bool.{beq}
use Rattle.std.specs.BTreeSet.{contains}
use Rattle.std.specs.declared.cmp.Ordering.{Ordering}
use Rattle.std.specs.Ordering.{bool_cmp, is_eq, is_gt, nat_cmp, ordering_then}
use Rattle.ec_wire.specs.declared.places.Place.{Place}
use Rattle.ec_wire.specs.declared.places.Places.{Places}

-- places are ordered by client, brick, direction and number
abbrev pub place_cmp : Place → Place → Ordering
place_cmp p q = ordering_then (nat_cmp p.client q.client) (ordering_then (nat_cmp p.brick q.brick) (ordering_then (bool_cmp p.to_brick q.to_brick) (nat_cmp p.no q.no)))

-- between this client and this brick, in this direction
abbrev pub is_between : ℕ → ℕ → Bool → Place → Bool
is_between client brick to_brick p = (p.client == client) && (p.brick == brick) && beq p.to_brick to_brick

-- the numbers of the places
abbrev pub has_number : Places → ℕ → Bool
has_number s i = contains nat_cmp s.numbers i

abbrev pub has_place : Places → Place → Bool
has_place s p = contains place_cmp s.places p

-- with this number in it or out of it
abbrev pub with_number : (ℕ → Bool) → ℕ → Bool → ℕ → Bool
with_number set n on i = cond (i == n) on (set i)

-- with this place in it or out of it
abbrev pub with_place : (Place → Bool) → Place → Bool → Place → Bool
with_place set p on q = cond (is_eq (place_cmp p q)) on (set q)

-- the lowest number at which the test holds, or none where it holds at none
abbrev pub IsLowest : (ℕ → Bool) → Option ℕ → Type 0
IsLowest test None = (i : ℕ) → test i ≡ false
IsLowest test (Some n) = (test n ≡ true) × ((i : ℕ) → i < n → test i ≡ false)

-- the least place that isn't below `p`, or none where there is none
abbrev pub IsNext : (Place → Bool) → Place → Option Place → Type 0
IsNext set p None = (q : Place) → is_gt (place_cmp p q) ≡ false → set q ≡ false
IsNext set p (Some n) = (is_gt (place_cmp p n) ≡ false) × (set n ≡ true) × ((q : Place) → is_gt (place_cmp p q) ≡ false → set q ≡ true → is_gt (place_cmp n q) ≡ false)
