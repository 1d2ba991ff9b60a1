-- A list of places that is written.
use Rattle.std.proofs.Common.{◌≡◌, inl, inr, ℕ, ◌<◌, ◌≤◌, ◌==◌, ◌||◌, zero, suc, Bool, true, false, cond, is_some, Option, Some, None, List, [], ◌∷◌, ◌++◌, length, refl, sym, ◌∙◌, ap, subst, arith, eqb-true, get_or}
use Rattle.std.proofs.Math.ListN.{set, get_or-eq_default}
use Rattle.std.proofs.Math.Path.{fun_ext}
use Rattle.std.proofs.lemmas.Bool.{cases_Bool, cases_eq}
use Rattle.std.proofs.lemmas.Bool.Decides.{nat_tests}
use Rattle.std.proofs.lemmas.List.{get_or-set_same, get_or-set_other}
use Rattle.ec_store.specs.Put.{put}
use Rattle.ec_txn.specs.declared.known.Pending.{Pending}
use Rattle.ec_txn.specs.declared.known.Place.{Place}
use Rattle.ec_txn.specs.Digest.{any_waits, no_place, place_at}

pub place_set : (ps : List Place) (b : ℕ) (p : Place) → b < length ps → place_at (set ps b p) ≡ put (place_at ps) b p
place_set ps b p lt = fun_ext (λ j. go j (j == b) refl)
  where
    go : (j : ℕ) (u : Bool) → (j == b) ≡ u → get_or (set ps b p) j no_place ≡ cond u p (get_or ps j no_place)
    go j true e = (let f : j ≡ b = eqb-true j b e in rw f (get_or-set_same ps b p no_place lt))
    go j false e = get_or-set_other ps b j p no_place (grind (arith, nat_tests))

pub set_as : (ps : List Place) (b j : ℕ) (p q : Place) → j ≡ b → p ≡ q → b < length ps → place_at (set ps j p) ≡ put (place_at ps) b q
set_as ps b j p q e f lt = (λ i. place_at (set ps (e i) (f i))) ∙ place_set ps b q lt

-- past the last brick nothing is known
pub past_last : (ps : List Place) (x : ℕ) → length ps ≤ x → place_at ps x ≡ no_place
past_last ps x l = get_or-eq_default ps no_place l

pub none_waits : (ps : List Place) (n x : ℕ) → any_waits ps n ≡ false → x < n → (place_at ps x).waits ≡ None
none_waits ps zero x e l = absurd (omega arith)
none_waits ps (suc n) x e l = elim (cases_eq x n) [
  | inl u ↦ ap (λ (y : ℕ). (place_at ps y).waits) u ∙ none_of (any_waits ps n) (place_at ps n).waits e
  | inr u ↦ none_waits ps n x (left_of (any_waits ps n) (is_some (place_at ps n).waits) e) (omega (arith, u))
]
  where
    none_of : (a : Bool) (o : Option Pending) → (a || is_some o) ≡ false → o ≡ None
    none_of true o e = absurd (cc)
    none_of false None e = refl
    none_of false (Some w) e = absurd (cc)

    left_of : (a b : Bool) → (a || b) ≡ false → a ≡ false
    left_of true b e = absurd (cc)
    left_of false b e = refl

pub some_waits : (ps : List Place) (n : ℕ) → any_waits ps n ≡ true → (x : ℕ) × (x < n) × (is_some (place_at ps x).waits ≡ true)
some_waits ps zero e = absurd (cc)
some_waits ps (suc n) e = go (any_waits ps n) refl e (some_waits ps n)
  where
    go : (a : Bool) → any_waits ps n ≡ a → (a || is_some (place_at ps n).waits) ≡ true → (any_waits ps n ≡ true → (x : ℕ) × (x < n) × (is_some (place_at ps x).waits ≡ true)) → (x : ℕ) × (x < suc n) × (is_some (place_at ps x).waits ≡ true)
    go true u v h = let w = h u in (w.0, omega (arith, w.1), w.2)
    go false u v h = (n, omega arith, v)

-- one reply more that isn't there
pub none_more : {A : Type 0} (xs : List (Option A)) → ((x : ℕ) → get_or xs x None ≡ None) → (x : ℕ) → get_or (xs ++ None ∷ []) x None ≡ None
none_more [] h zero = refl
none_more [] h (suc x) = refl
none_more (y ∷ ys) h zero = h 0
none_more (y ∷ ys) h (suc x) = none_more ys (λ z. h (suc z)) x

pub reply_set : {A : Type 0} (rs : List (Option A)) (b j : ℕ) (r : Option A) → j ≡ b → b < length rs → (λ (x : ℕ). get_or (set rs j r) x None) ≡ put (λ (x : ℕ). get_or rs x None) b r
reply_set rs b j r e lt = fun_ext (λ x. go x (x == b) refl)
  where
    go : (x : ℕ) (u : Bool) → (x == b) ≡ u → get_or (set rs j r) x None ≡ cond u r (get_or rs x None)
    go x true e' = (let f : x ≡ b = eqb-true x b e' in ap (λ (k : ℕ). get_or (set rs k r) x None) e ∙ rw f (get_or-set_same rs b r None lt))
    go x false e' = ap (λ (k : ℕ). get_or (set rs k r) x None) e ∙ get_or-set_other rs b x r None (grind (arith, nat_tests))
