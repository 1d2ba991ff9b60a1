-- Functions that are changed at one place.
use Rattle.std.proofs.Common.{◌≡◌, ◌⊎◌, inl, inr, ℕ, Bool, true, false, cond, ◌==◌, ◌&&◌, Option, Some, refl, subst, arith}
use Rattle.std.proofs.lemmas.Bool.Decides.{nat_tests}
use Rattle.ec_history.specs.Run.{put2}
use Rattle.ec_store.specs.Put.{put}

pub equal : (x y : ℕ) → (x == y) ≡ true → x ≡ y
equal x y e = grind (arith, nat_tests)

pub itself : (x : ℕ) → (x == x) ≡ true
itself x = grind (arith, nat_tests)

pub same : (x y : ℕ) → x ≡ y → (x == y) ≡ true
same x y e = subst (λ (z : ℕ). (x == z) ≡ true) e (itself x)

unequal : (x y : ℕ) → (x == y) ≡ false → x ≡ y → ⊥
unequal x y e h = let t : (x == y) ≡ true = same x y h in absurd (cc)

-- the value at a place is the new one, or it is another place
pub put_at : {X : Type 0} (f : ℕ → X) (i : ℕ) (x : X) (j : ℕ) → ((j ≡ i) × (put f i x j ≡ x)) ⊎ ((j ≡ i → ⊥) × (put f i x j ≡ f j))
put_at {X} f i x j = at (j == i) refl
  where
    at : (t : Bool) → (j == i) ≡ t → ((j ≡ i) × (cond t x (f j) ≡ x)) ⊎ ((j ≡ i → ⊥) × (cond t x (f j) ≡ f j))
    at true e = inl (equal j i e, refl)
    at false e = inr (unequal j i e, refl)

pub put_here : {X : Type 0} (f : ℕ → X) (i : ℕ) (x : X) (j : ℕ) → j ≡ i → put f i x j ≡ x
put_here f i x j e = elim (put_at f i x j) [ inl w ↦ w.1 | inr w ↦ absurd (w.0 e) ]

pub put_there : {X : Type 0} (f : ℕ → X) (i : ℕ) (x : X) (j : ℕ) → (j ≡ i → ⊥) → put f i x j ≡ f j
put_there f i x j ne = elim (put_at f i x j) [ inl w ↦ absurd (ne w.0) | inr w ↦ w.1 ]

-- where a place is made false, what is true was true, and it is another place
pub put_false : (f : ℕ → Bool) (i j : ℕ) → put f i false j ≡ true → (j ≡ i → ⊥) × (f j ≡ true)
put_false f i j e = at (j == i) refl e
  where
    at : (t : Bool) → (j == i) ≡ t → cond t false (f j) ≡ true → (j ≡ i → ⊥) × (f j ≡ true)
    at true h e = absurd (cc)
    at false h e = (unequal j i h, e)

pub put_false_stays : (f : ℕ → Bool) (i j : ℕ) → f j ≡ false → put f i false j ≡ false
put_false_stays f i j e = at (j == i)
  where
    at : (t : Bool) → cond t false (f j) ≡ false
    at true = refl
    at false = e

pub put_true_stays : (f : ℕ → Bool) (i j : ℕ) → f j ≡ true → put f i true j ≡ true
put_true_stays f i j e = at (j == i)
  where
    at : (t : Bool) → cond t true (f j) ≡ true
    at true = refl
    at false = e

pub put_true_false : (f : ℕ → Bool) (i j : ℕ) → put f i true j ≡ false → f j ≡ false
put_true_false f i j e = at (j == i) e
  where
    at : (t : Bool) → cond t true (f j) ≡ false → f j ≡ false
    at true h = absurd (cc)
    at false h = h

-- a value of a function that is changed at a pair of places is the new one or an old one
pub put2_some : (f : ℕ → ℕ → Option ℕ) (i j : ℕ) (o : Option ℕ) (a b k : ℕ) → put2 f i j o a b ≡ Some k → ((a ≡ i) × (b ≡ j) × (o ≡ Some k)) ⊎ (f a b ≡ Some k)
put2_some f i j o a b k e = at (a == i) (b == j) refl refl e
  where
    at : (t u : Bool) → (a == i) ≡ t → (b == j) ≡ u → cond (t && u) o (f a b) ≡ Some k → ((a ≡ i) × (b ≡ j) × (o ≡ Some k)) ⊎ (f a b ≡ Some k)
    at true true x y h = inl (equal a i x, equal b j y, h)
    at true false x y h = inr h
    at false u x y h = inr h
