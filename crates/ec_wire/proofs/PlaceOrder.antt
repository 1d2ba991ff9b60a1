-- The order of places, and what is least in a part of a set of them.
use Rattle.std.proofs.Common.{◌≡◌, ℕ, ◌<◌, ◌≤◌, Bool, true, false, List, [], ◌∷◌, Option, None, Some, Bor, refl, sym, ap, subst, arith, ◌∙◌, true≢false, slice_get, option_copied}
use Rattle.std.proofs.lemmas.Bool.Decides.{nat_tests}
use Rattle.std.specs.Cmp.{booleans_Decides, ranks}
use Rattle.std.specs.Option.{MatchOption}
use Rattle.std.specs.Ordering.{MatchOrdering, bool_cmp, is_gt, nat_cmp, ordering_then}
use Rattle.std.specs.declared.cmp.Ordering.{Ordering}
use Rattle.std.specs.declared.cmp.Ordering.TheVariants.{Less, Equal, Greater}
use Rattle.std.specs.BTreeSet.{BTreeSet, IsKeyRangeOf, contains}
use Rattle.std.specs.declared.ops.Bound.TheVariants.{Included, Unbounded}
use Rattle.ec_wire.specs.Places.{IsLowest, IsNext, is_between, place_cmp}
use Rattle.ec_wire.specs.declared.places.Place.{Place}

-- the first that an iterator gives is the head of its list
pub first_given : (o : Option (Bor Place)) (r t : List Place) → MatchOption o ((r ≡ []) × (t ≡ [])) (λ x. r ≡ x.now ∷ t) → option_copied o ≡ slice_get r 0
first_given None r t m = sym (ap (λ r. slice_get r 0) m.0)
first_given (Some x) r t m = sym (ap (λ r. slice_get r 0) m)

-- the head of the part from a place on is the next of the set
pub next_of_range : (s : BTreeSet Place) (p : Place) (r : List Place) → IsKeyRangeOf place_cmp (Included p) Unbounded s r → IsNext (contains place_cmp s) p (slice_get r 0)
next_of_range s p [] h = λ q e. h.5 refl q (e, _)
next_of_range s p (x ∷ r) h = (h.1.0.0, h.1.1, λ q e i. h.2 q (e, _) i)

-- where the first field is not above and not below, the others decide
number_step : (a b : ℕ) (r s : Ordering) → is_gt (ordering_then (nat_cmp a b) r) ≡ false → is_gt (ordering_then (nat_cmp b a) s) ≡ false → (a ≡ b) × (is_gt r ≡ false) × (is_gt s ≡ false)
number_step a b r s g h = go (nat_cmp a b) (nat_cmp b a) (ranks a b) (ranks b a) g h where
  go : (o u : Ordering) → MatchOrdering o (a < b) (a ≡ b) (b < a) → MatchOrdering u (b < a) (b ≡ a) (a < b) → is_gt (ordering_then o r) ≡ false → is_gt (ordering_then u s) ≡ false → (a ≡ b) × (is_gt r ≡ false) × (is_gt s ≡ false)
  go Less Less m n g h = absurd (omega arith)
  go Less Equal m n g h = absurd (omega arith)
  go Less Greater m n g h = cc
  go Equal Less m n g h = absurd (omega arith)
  go Equal Equal m n g h = (m, g, h)
  go Equal Greater m n g h = cc
  go Greater u m n g h = cc

direction_step : (a b : Bool) (r s : Ordering) → is_gt (ordering_then (bool_cmp a b) r) ≡ false → is_gt (ordering_then (bool_cmp b a) s) ≡ false → (a ≡ b) × (is_gt r ≡ false) × (is_gt s ≡ false)
direction_step false false r s g h = (refl, g, h)
direction_step false true r s g h = cc
direction_step true false r s g h = cc
direction_step true true r s g h = (refl, g, h)

same_number : (a : ℕ) (r : Ordering) → ordering_then (nat_cmp a a) r ≡ r
same_number a r = go (nat_cmp a a) (ranks a a) where
  go : (o : Ordering) → MatchOrdering o (a < a) (a ≡ a) (a < a) → ordering_then o r ≡ r
  go Less m = absurd (omega arith)
  go Equal m = refl
  go Greater m = absurd (omega arith)

same_direction : (a : Bool) (r : Ordering) → ordering_then (bool_cmp a a) r ≡ r
same_direction false r = refl
same_direction true r = refl

not_above : (a b : ℕ) → a ≤ b → is_gt (nat_cmp a b) ≡ false
not_above a b h = go (nat_cmp a b) (ranks a b) where
  go : (o : Ordering) → MatchOrdering o (a < b) (a ≡ b) (b < a) → is_gt o ≡ false
  go Less m = refl
  go Equal m = refl
  go Greater m = absurd (omega arith)

at_most : (a b : ℕ) → is_gt (nat_cmp a b) ≡ false → a ≤ b
at_most a b h = go (nat_cmp a b) (ranks a b) h where
  go : (o : Ordering) → MatchOrdering o (a < b) (a ≡ b) (b < a) → is_gt o ≡ false → a ≤ b
  go Less m h = omega arith
  go Equal m h = omega arith
  go Greater m h = cc

module _ (c b : ℕ) (t : Bool) where
  abbrev place : ℕ → Place
  place i = record { client = c; brick = b; to_brick = t; no = i }

  -- of places that differ only in their numbers the numbers decide
  by_numbers : (i j : ℕ) → place_cmp (place i) (place j) ≡ nat_cmp i j
  by_numbers i j = same_number c _ ∙ same_number b _ ∙ same_direction t _

  -- a place that is between two of these is one of them
  squeezed : (i j : ℕ) (p : Place) → is_gt (place_cmp (place i) p) ≡ false → is_gt (place_cmp p (place j)) ≡ false → (c ≡ p.client) × (b ≡ p.brick) × (t ≡ p.to_brick) × (is_gt (nat_cmp p.no j) ≡ false)
  squeezed i j p g h =
      let u = number_step c p.client _ _ g h in
      let v = number_step b p.brick _ _ u.1 u.2 in
      let w = direction_step t p.to_brick _ _ v.1 v.2 in
      (u.0, v.0, w.0, w.2)

  between_is : (p : Place) → is_between c b t p ≡ true → (p.client ≡ c) × (p.brick ≡ b) × (t ≡ p.to_brick)
  between_is p e = grind (arith, nat_tests, booleans_Decides)

  is_of : (p : Place) → c ≡ p.client → b ≡ p.brick → t ≡ p.to_brick → is_between c b t p ≡ true
  is_of p x y z = grind (arith, nat_tests, booleans_Decides)

  not_below : (i : ℕ) → is_gt (place_cmp (place 0) (place i)) ≡ false
  not_below i = ap is_gt (by_numbers 0 i) ∙ not_above 0 i (omega arith)

  module _ (has : Place → Bool) where
    pub none_between : IsNext has (place 0) None → IsLowest (λ i. has (place i)) None
    none_between h = λ i. h (place i) (not_below i)

    pub lowest_between : (p : Place) → IsNext has (place 0) (Some p) → is_between c b t p ≡ true → IsLowest (λ i. has (place i)) (Some p.no)
    lowest_between p h e = (subst (λ q. has q ≡ true) itself h.1, λ i l. go i (has (place i)) refl l) where
      itself : p ≡ place p.no
      itself = let w = between_is p e in λ k. record { client = w.0 k; brick = w.1 k; to_brick = sym w.2 k; no = p.no }

      go : (i : ℕ) (o : Bool) → has (place i) ≡ o → i < p.no → o ≡ false
      go i false x l = refl
      go i true x l = absurd (omega (arith, at_most p.no i (squeezed 0 i p h.0 (h.2 (place i) (not_below i) x)).3))

    pub none_beside : (p : Place) → IsNext has (place 0) (Some p) → is_between c b t p ≡ false → IsLowest (λ i. has (place i)) None
    none_beside p h e = λ i. go i (has (place i)) refl where
      go : (i : ℕ) (o : Bool) → has (place i) ≡ o → o ≡ false
      go i false x = refl
      go i true x = let w = squeezed 0 i p h.0 (h.2 (place i) (not_below i) x) in absurd (true≢false (sym (is_of p w.0 w.1 w.2) ∙ e))
