-- Tests of numbers, and functions that are changed at one place.
use Rattle.std.proofs.Common.{◌≡◌, ◌≢◌, ◌⊎◌, ℕ, ◌+◌, ◌<◌, ◌≤◌, Bool, true, false, cond, ◌==◌, ◌&&◌, ◌||◌, nat_eq, Option, Some, None, inl, inr, refl, sym, ap, ◌∙◌, arith}
use Rattle.std.proofs.lemmas.Bool.Decides.{nat_tests}
use Rattle.std.proofs.lemmas.Bool.{cases_Bool}
use Rattle.ec_attr.proofs.Sets.{added, count_more_in, count_more_out, part}
use Rattle.ec_attr.specs.Bricks.{count_below}
use Rattle.ec_history.specs.Run.{put2}
use Rattle.ec_store.specs.Put.{put}

pub equal : (x y : ℕ) → (x == y) ≡ true → x ≡ y
equal x y e = grind (arith, nat_tests)

pub itself : (x : ℕ) → (x == x) ≡ true
itself x = grind (arith, nat_tests)

pub unequal : (x y : ℕ) → x ≢ y → (x == y) ≡ false
unequal x y ne = at (x == y) refl
  where
    at : (t : Bool) → (x == y) ≡ t → t ≡ false
    at true e = absurd (ne (equal x y e))
    at false e = refl

pub put_here : {X : Type 0} (f : ℕ → X) (i : ℕ) (x : X) → put f i x i ≡ x
put_here f i x = at (i == i) (itself i)
  where
    at : (t : Bool) → t ≡ true → cond t x (f i) ≡ x
    at true h = refl
    at false h = absurd (cc)

pub put_there : {X : Type 0} (f : ℕ → X) (i : ℕ) (x : X) (j : ℕ) → j ≢ i → put f i x j ≡ f j
put_there f i x j ne = at (j == i) (unequal j i ne)
  where
    at : (t : Bool) → t ≡ false → cond t x (f j) ≡ f j
    at true h = absurd (cc)
    at false h = refl

-- where a place is made false, what is true was true
pub put_less : (f : ℕ → Bool) (i j : ℕ) → put f i false j ≡ true → f j ≡ true
put_less f i j e = at (j == i) e
  where
    at : (t : Bool) → cond t false (f j) ≡ true → f j ≡ true
    at true h = absurd (cc)
    at false h = h

-- a value of a function that is changed at a pair of places is the new one or an old one
pub put2_some : (f : ℕ → ℕ → Option ℕ) (i j : ℕ) (o : Option ℕ) (a b k : ℕ) → put2 f i j o a b ≡ Some k → ((a ≡ i) × (b ≡ j) × (o ≡ Some k)) ⊎ (f a b ≡ Some k)
put2_some f i j o a b k e = at (a == i) (b == j) refl refl e
  where
    at : (t u : Bool) → (a == i) ≡ t → (b == j) ≡ u → cond (t && u) o (f a b) ≡ Some k → ((a ≡ i) × (b ≡ j) × (o ≡ Some k)) ⊎ (f a b ≡ Some k)
    at true true x y h = inl (equal a i x, equal b j y, h)
    at true false x y h = inr h
    at false u x y h = inr h

pub put2_here : (f : ℕ → ℕ → Option ℕ) (i j : ℕ) (o : Option ℕ) → put2 f i j o i j ≡ o
put2_here f i j o = at (i == i) (j == j) (itself i) (itself j)
  where
    at : (t u : Bool) → t ≡ true → u ≡ true → cond (t && u) o (f i j) ≡ o
    at true true x y = refl
    at true false x y = absurd (cc)
    at false u x y = absurd (cc)

-- a test of one number more counts at most one more
pub at_most_one : (n : ℕ) (p : ℕ → Bool) → count_below (n + 1) p ≤ count_below n p + 1
at_most_one n p =
    elim (cases_Bool (p n)) [
      | inl t ↦ omega (arith, count_more_in n p t)
      | inr f ↦ omega (arith, count_more_out n p f)
    ]

-- a test that holds of fewer numbers, and not of one of which the other holds
pub fewer : (n b : ℕ) (p q : ℕ → Bool) → b < n → p b ≡ false → q b ≡ true → ((c : ℕ) → c < n → p c ≡ true → q c ≡ true) → count_below n p + 1 ≤ count_below n q
fewer n b p q below out is_in less =
    let with_it : ℕ → Bool = λ c. nat_eq c b || p c in
    let one : count_below n with_it ≡ count_below n p + 1 = added n b p with_it below (λ c. refl) ∙ rw out refl in
    let most : count_below n with_it ≤ count_below n q = part n with_it q (λ c lt e. at c (nat_eq c b) refl e lt) in
    omega (arith, one, most)
  where
    at : (c : ℕ) (t : Bool) → nat_eq c b ≡ t → (t || p c) ≡ true → c < n → q c ≡ true
    at c true e h lt = rw (equal c b e) is_in
    at c false e h lt = less c lt h
