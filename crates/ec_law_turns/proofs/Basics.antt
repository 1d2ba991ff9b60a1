-- Functions that are changed at one place, and lists of exchanges.
use Rattle.std.proofs.Common.{◌≡◌, ◌≢◌, ◌⊎◌, ℕ, Bool, true, false, cond, ◌==◌, ◌||◌, Option, Some, None, List, [], ◌∷◌, refl, sym, ◌∙◌, ap, arith, inl, inr, ⊎_elim}
use Rattle.std.proofs.lemmas.Bool.Decides.{nat_tests}
use Rattle.ec_store.specs.Put.{put}
use Rattle.ec_wire.specs.declared.request.Request.{Request}
use Rattle.ec_conduct.specs.Account.{Exchange, Wait}
use Rattle.ec_conduct.specs.Done.{tried}
use Rattle.ec_law_turns.specs.Follows.{All, Has}

pub some_is : {X : Type 0} (x y : X) → Some x ≡ Some y → x ≡ y
some_is x y e = cc

pub some_none : {X : Type 0} (x : X) → Some x ≡ None → ⊥
some_none x e = cc

pub equal : (x y : ℕ) → (x == y) ≡ true → x ≡ y
equal x y e = grind (arith, nat_tests)

pub itself : (x : ℕ) → (x == x) ≡ true
itself x = grind (arith, nat_tests)

pub differ : (x y : ℕ) → (x == y) ≡ false → x ≢ y
differ x y e h = grind (arith, nat_tests)

pub unequal : (x y : ℕ) → x ≢ y → (x == y) ≡ false
unequal x y ne = at (x == y) refl
  where
    at : (t : Bool) → (x == y) ≡ t → t ≡ false
    at true e = absurd (ne (equal x y e))
    at false e = refl

pub put_here : {X : Type 0} (f : ℕ → X) (i : ℕ) (x : X) (j : ℕ) → i ≡ j → put f i x j ≡ x
put_here f i x j e = rw (sym e) (at (i == i) (itself i))
  where
    at : (t : Bool) → t ≡ true → cond t x (f i) ≡ x
    at true h = refl
    at false h = absurd (cc)

pub put_there : {X : Type 0} (f : ℕ → X) (i : ℕ) (x : X) (j : ℕ) → j ≢ i → put f i x j ≡ f j
put_there f i x j ne = at (j == i) (unequal j i ne)
  where
    at : (t : Bool) → t ≡ false → cond t x (f j) ≡ f j
    at true h = absurd (cc)
    at false h = refl

-- a value of a changed function is the new one or an old one
pub put_some : {X : Type 0} (f : ℕ → Option X) (i : ℕ) (o : Option X) (j : ℕ) (y : X) → put f i o j ≡ Some y → ((j ≡ i) × (o ≡ Some y)) ⊎ ((j ≢ i) × (f j ≡ Some y))
put_some f i o j y e = at (j == i) refl e
  where
    at : (t : Bool) → (j == i) ≡ t → cond t o (f j) ≡ Some y → ((j ≡ i) × (o ≡ Some y)) ⊎ ((j ≢ i) × (f j ≡ Some y))
    at true h e = inl (equal j i h, e)
    at false h e = inr (differ j i h, e)

-- what is waited for
abbrev pub wait_of : ℕ → Request → Wait
wait_of i q = record { number = i; request = q }

pub all_map : (P Q : Exchange → Type 0) → ((e : Exchange) → P e → Q e) → (es : List Exchange) → All P es → All Q es
all_map P Q f [] h = tt
all_map P Q f (e ∷ es) h = (f e h.0, all_map P Q f es h.1)

pub has_tried : (p : Request → Bool) (i : ℕ) (q : Request) → p q ≡ true → (es : List Exchange) → Has i q es → tried p es ≡ true
has_tried p i q so [] h = absurd h
has_tried p i q so (e ∷ es) h = ⊎_elim (λ x. first (p e.request) (tried p es) (ap p x.1 ∙ so)) (λ x. later (p e.request) (tried p es) (has_tried p i q so es x)) h
  where
    first : (t u : Bool) → t ≡ true → (t || u) ≡ true
    first true u h = refl
    first false u h = absurd (cc)

    later : (t u : Bool) → u ≡ true → (t || u) ≡ true
    later true u h = refl
    later false u h = h
