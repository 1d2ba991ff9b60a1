-- Grants that came before a turn's moment, by the acts of the machine of versions.
use Rattle.std.proofs.Common.{◌≡◌, ℕ, Bool, true, false, not, cond, ◌==◌, ◌&&◌, ◌||◌, Option, Some, None, List, [], ◌∷◌, refl, sym, ◌∙◌, ap, subst}
use Rattle.ec_law_base.specs.State.{State}
use Rattle.ec_law_ballots.specs.Act.{Act, after, step}
use Rattle.ec_law_ballots.specs.Act.Act.{Grant, Free, Share, Unshare, Moment, See, Keep, Carry, Choose, Choose_kept, Pre, Sink_pre, Post, Sink_post, Clear, Heal_grant, Heal_free, Mark, Unmark, Maker_grant, Maker_free, Make, Made, Unmake, Stop, Replace}
use Rattle.ec_law_ballots.specs.Guard.{May, Runs}
use Rattle.ec_law_turns.specs.Replied.{is_early, is_early_yet}
use Rattle.ec_law_turns.proofs.Basics.{equal, itself, some_is}

-- a grant that is given now
given : (s : State) (x y a b : ℕ) (t u : Bool) → (a == x) ≡ t → (b == y) ≡ u → is_early_yet s a b ≡ true → ((cond (t && u) (not (s.moment x)) (s.early a b) && cond (t && u) true (s.granted a b)) || s.moment a) ≡ true
given s x y a b true true e f h = subst (λ (z : ℕ). ((not (s.moment z) && true) || s.moment a) ≡ true) (equal a x e) (either (s.moment a))
  where
    either : (t : Bool) → ((not t && true) || t) ≡ true
    either true = refl
    either false = refl
given s x y a b true false e f h = h
given s x y a b false u e f h = h

carried : (s : State) (a b : ℕ) (t : Bool) → is_early_yet s a b ≡ true → ((cond t true (s.early a b) && cond t true (s.granted a b)) || s.moment a) ≡ true
carried s a b true h = refl
carried s a b false h = h

come : (s : State) (a b : ℕ) (t : Bool) → is_early_yet s a b ≡ true → (is_early s a b || cond t true (s.moment a)) ≡ true
come s a b true h = right (is_early s a b)
  where
    right : (t : Bool) → (t || true) ≡ true
    right true = refl
    right false = refl
come s a b false h = h

-- it stays early, or the moment comes
step_yet : (s : State) (e : Act) (a b : ℕ) → is_early_yet s a b ≡ true → is_early_yet (step s e) a b ≡ true
step_yet s (Grant x y) a b h = given s x y a b (a == x) (b == y) refl refl h
step_yet s (Free y) a b h = h
step_yet s (Share x y) a b h = given s x y a b (a == x) (b == y) refl refl h
step_yet s (Unshare x y) a b h = h
step_yet s (Moment x) a b h = come s a b (a == x) h
step_yet s (See x y) a b h = h
step_yet s (Keep x y) a b h = h
step_yet s (Carry x y z) a b h = carried s a b ((a == y) && (b == z)) h
step_yet s (Choose x p) a b h = h
step_yet s (Choose_kept x y p) a b h = h
step_yet s (Pre x y) a b h = h
step_yet s (Sink_pre x y) a b h = h
step_yet s (Post x y) a b h = h
step_yet s (Sink_post x y) a b h = h
step_yet s (Clear x y) a b h = h
step_yet s (Heal_grant x y) a b h = h
step_yet s (Heal_free y) a b h = h
step_yet s (Mark x y) a b h = h
step_yet s (Unmark x y) a b h = h
step_yet s (Maker_grant y) a b h = h
step_yet s (Maker_free y) a b h = h
step_yet s (Make y) a b h = h
step_yet s (Made y) a b h = h
step_yet s (Unmake y) a b h = h
step_yet s (Stop y) a b h = h
step_yet s (Replace y) a b h = h

pub after_yet : (xs : List Act) (s : State) (a b : ℕ) → is_early_yet s a b ≡ true → is_early_yet (after xs s) a b ≡ true
after_yet [] s a b h = h
after_yet (e ∷ xs) s a b h = after_yet xs (step s e) a b (step_yet s e a b h)

-- who has the content
abbrev pub Holders : State → Type 0
Holders s = (b a : ℕ) → s.holder b ≡ Some a → is_early_yet s a b ≡ true

new_holder : (s : State) (x y : ℕ) → Holders s → (b a : ℕ) (t u : Bool) → (b == y) ≡ t → (a == x) ≡ u → cond t (Some x) (s.holder b) ≡ Some a → ((cond (u && t) (not (s.moment x)) (s.early a b) && cond (u && t) true (s.granted a b)) || s.moment a) ≡ true
new_holder s x y h b a true true e f is = subst (λ (z : ℕ). ((not (s.moment z) && true) || s.moment a) ≡ true) (equal a x f) (either (s.moment a))
  where
    either : (t : Bool) → ((not t && true) || t) ≡ true
    either true = refl
    either false = refl
new_holder s x y h b a true false e f is = absurd (let z = some_is x a is in let w = sym (ap (λ (k : ℕ). a == k) z) ∙ f in let q = sym (itself a) ∙ w in cc)
new_holder s x y h b a false true e f is = h b a is
new_holder s x y h b a false false e f is = h b a is

carry_holder : (s : State) (x y : ℕ) → Holders s → (b a : ℕ) (t u : Bool) → (b == y) ≡ t → (a == x) ≡ u → cond t (Some x) (s.holder b) ≡ Some a → ((cond (u && t) true (s.early a b) && cond (u && t) true (s.granted a b)) || s.moment a) ≡ true
carry_holder s x y h b a true true e f is = refl
carry_holder s x y h b a true false e f is = absurd (let z = some_is x a is in let w = sym (ap (λ (k : ℕ). a == k) z) ∙ f in let q = sym (itself a) ∙ w in cc)
carry_holder s x y h b a false true e f is = h b a is
carry_holder s x y h b a false false e f is = h b a is

was : (t : Bool) (o : Option ℕ) (a : ℕ) → cond t None o ≡ Some a → o ≡ Some a
was true o a e = absurd (cc)
was false o a e = e

step_holders : (s : State) (e : Act) → Holders s → Holders (step s e)
step_holders s (Grant x y) h b a is = new_holder s x y h b a (b == y) (a == x) refl refl is
step_holders s (Carry x y z) h b a is = carry_holder s y z h b a (b == z) (a == y) refl refl is
step_holders s (Free y) h b a is = h b a (was (b == y) (s.holder b) a is)
step_holders s (Share x y) h b a is = step_yet s (Share x y) a b (h b a is)
step_holders s (Unshare x y) h b a is = h b a is
step_holders s (Moment x) h b a is = step_yet s (Moment x) a b (h b a is)
step_holders s (See x y) h b a is = h b a is
step_holders s (Keep x y) h b a is = h b a is
step_holders s (Choose x p) h b a is = h b a is
step_holders s (Choose_kept x y p) h b a is = h b a is
step_holders s (Pre x y) h b a is = h b a is
step_holders s (Sink_pre x y) h b a is = h b a is
step_holders s (Post x y) h b a is = h b a is
step_holders s (Sink_post x y) h b a is = h b a is
step_holders s (Clear x y) h b a is = h b a is
step_holders s (Heal_grant x y) h b a is = h b a is
step_holders s (Heal_free y) h b a is = h b a is
step_holders s (Mark x y) h b a is = h b a is
step_holders s (Unmark x y) h b a is = h b a is
step_holders s (Maker_grant y) h b a is = h b a is
step_holders s (Maker_free y) h b a is = h b a is
step_holders s (Make y) h b a is = h b a is
step_holders s (Made y) h b a is = h b a is
step_holders s (Unmake y) h b a is = h b a is
step_holders s (Stop y) h b a is = h b a (was (b == y) (s.holder b) a is)
step_holders s (Replace y) h b a is = h b a is

pub after_holders : (xs : List Act) (s : State) → Holders s → Holders (after xs s)
after_holders [] s h = h
after_holders (e ∷ xs) s h = after_holders xs (step s e) (step_holders s e h)

-- ## What is early stays early

once : (s : State) (x y a b : ℕ) (v : Bool) → s.granted x y ≡ false → (t u : Bool) → (a == x) ≡ t → (b == y) ≡ u → is_early s a b ≡ true → (cond (t && u) v (s.early a b) && cond (t && u) true (s.granted a b)) ≡ true
once s x y a b v none true true e f h =
    let z = second (s.early a b) (s.granted a b) h in
    let w = ap (λ (k : ℕ). s.granted k b) (equal a x e) ∙ ap (λ (k : ℕ). s.granted x k) (equal b y f) in
    absurd (let q = sym z ∙ (w ∙ none) in cc)
  where
    second : (t u : Bool) → (t && u) ≡ true → u ≡ true
    second true u e = e
    second false u e = absurd (cc)
once s x y a b v none true false e f h = h
once s x y a b v none false u e f h = h

step_early : (n k : ℕ) (s : State) (e : Act) → May n k s e → (a b : ℕ) → is_early s a b ≡ true → is_early (step s e) a b ≡ true
step_early n k s (Grant x y) may a b h = once s x y a b (not (s.moment x)) may.1 (a == x) (b == y) refl refl h
step_early n k s (Share x y) may a b h = once s x y a b (not (s.moment x)) may.1 (a == x) (b == y) refl refl h
step_early n k s (Carry x y z) may a b h = once s y z a b true may.3 (a == y) (b == z) refl refl h
step_early n k s (Free y) may a b h = h
step_early n k s (Unshare x y) may a b h = h
step_early n k s (Moment x) may a b h = h
step_early n k s (See x y) may a b h = h
step_early n k s (Keep x y) may a b h = h
step_early n k s (Choose x p) may a b h = h
step_early n k s (Choose_kept x y p) may a b h = h
step_early n k s (Pre x y) may a b h = h
step_early n k s (Sink_pre x y) may a b h = h
step_early n k s (Post x y) may a b h = h
step_early n k s (Sink_post x y) may a b h = h
step_early n k s (Clear x y) may a b h = h
step_early n k s (Heal_grant x y) may a b h = h
step_early n k s (Heal_free y) may a b h = h
step_early n k s (Mark x y) may a b h = h
step_early n k s (Unmark x y) may a b h = h
step_early n k s (Maker_grant y) may a b h = h
step_early n k s (Maker_free y) may a b h = h
step_early n k s (Make y) may a b h = h
step_early n k s (Made y) may a b h = h
step_early n k s (Unmake y) may a b h = h
step_early n k s (Stop y) may a b h = h
step_early n k s (Replace y) may a b h = h

pub after_early : (n k : ℕ) (xs : List Act) (s : State) → Runs n k xs s → (a b : ℕ) → is_early s a b ≡ true → is_early (after xs s) a b ≡ true
after_early n k [] s runs a b h = h
after_early n k (e ∷ xs) s runs a b h = after_early n k xs (step s e) runs.1 a b (step_early n k s e runs.0 a b h)

-- ## A grant that is early was there at the moment

pub step_moment : (s : State) (e : Act) (a : ℕ) → s.moment a ≡ true → (step s e).moment a ≡ true
step_moment s (Moment x) a h = at (a == x)
  where
    at : (t : Bool) → cond t true (s.moment a) ≡ true
    at true = refl
    at false = h
step_moment s (Grant x y) a h = h
step_moment s (Free y) a h = h
step_moment s (Share x y) a h = h
step_moment s (Unshare x y) a h = h
step_moment s (See x y) a h = h
step_moment s (Keep x y) a h = h
step_moment s (Carry x y z) a h = h
step_moment s (Choose x p) a h = h
step_moment s (Choose_kept x y p) a h = h
step_moment s (Pre x y) a h = h
step_moment s (Sink_pre x y) a h = h
step_moment s (Post x y) a h = h
step_moment s (Sink_post x y) a h = h
step_moment s (Clear x y) a h = h
step_moment s (Heal_grant x y) a h = h
step_moment s (Heal_free y) a h = h
step_moment s (Mark x y) a h = h
step_moment s (Unmark x y) a h = h
step_moment s (Maker_grant y) a h = h
step_moment s (Maker_free y) a h = h
step_moment s (Make y) a h = h
step_moment s (Made y) a h = h
step_moment s (Unmake y) a h = h
step_moment s (Stop y) a h = h
step_moment s (Replace y) a h = h

pub after_moment : (xs : List Act) (s : State) (a : ℕ) → s.moment a ≡ true → (after xs s).moment a ≡ true
after_moment [] s a h = h
after_moment (e ∷ xs) s a h = after_moment xs (step s e) a (step_moment s e a h)

-- turn a has brick b since before its moment
abbrev pub HasSince : State → ℕ → ℕ → Type 0
HasSince s a b = (is_early s a b ≡ true) × (s.holder b ≡ Some a)

-- a grant that is given after the moment is none of those
given_late : (s : State) (x y a b : ℕ) → s.moment a ≡ true → (t u : Bool) → (a == x) ≡ t → (b == y) ≡ u → (cond (t && u) (not (s.moment x)) (s.early a b) && cond (t && u) true (s.granted a b)) ≡ true → cond u (Some x) (s.holder b) ≡ Some a → HasSince s a b
given_late s x y a b come true true e f h is = absurd (let z = subst (λ (k : ℕ). (not (s.moment k) && true) ≡ true) (sym (equal a x e)) h in none (s.moment a) come z)
  where
    none : (t : Bool) → t ≡ true → (not t && true) ≡ true → ⊥
    none true i j = absurd (cc)
    none false i j = absurd (cc)
given_late s x y a b come false true e f h is = absurd (let z = some_is x a is in let w = sym (ap (λ (k : ℕ). a == k) z) ∙ e in let q = sym (itself a) ∙ w in cc)
given_late s x y a b come true false e f h is = (h, is)
given_late s x y a b come false false e f h is = (h, is)

shared_late : (s : State) (x y a b : ℕ) → s.moment a ≡ true → (t u : Bool) → (a == x) ≡ t → (b == y) ≡ u → (cond (t && u) (not (s.moment x)) (s.early a b) && cond (t && u) true (s.granted a b)) ≡ true → is_early s a b ≡ true
shared_late s x y a b come true true e f h = absurd (let z = subst (λ (k : ℕ). (not (s.moment k) && true) ≡ true) (sym (equal a x e)) h in none (s.moment a) come z)
  where
    none : (t : Bool) → t ≡ true → (not t && true) ≡ true → ⊥
    none true i j = absurd (cc)
    none false i j = absurd (cc)
shared_late s x y a b come true false e f h = h
shared_late s x y a b come false u e f h = h

carried_late : (s : State) (x y a b : ℕ) → s.moment a ≡ true → s.moment x ≡ false → (t u : Bool) → (a == x) ≡ t → (b == y) ≡ u → (cond (t && u) true (s.early a b) && cond (t && u) true (s.granted a b)) ≡ true → cond u (Some x) (s.holder b) ≡ Some a → HasSince s a b
carried_late s x y a b come none true u e f h is = absurd (let z = sym come ∙ (ap s.moment (equal a x e) ∙ none) in cc)
carried_late s x y a b come none false true e f h is = absurd (let z = some_is x a is in let w = sym (ap (λ (k : ℕ). a == k) z) ∙ e in let q = sym (itself a) ∙ w in cc)
carried_late s x y a b come none false false e f h is = (h, is)

step_back : (n k : ℕ) (s : State) (e : Act) → May n k s e → (a b : ℕ) → s.moment a ≡ true → HasSince (step s e) a b → HasSince s a b
step_back n k s (Grant x y) may a b come h = given_late s x y a b come (a == x) (b == y) refl refl h.0 h.1
step_back n k s (Free y) may a b come h = (h.0, was (b == y) (s.holder b) a h.1)
step_back n k s (Share x y) may a b come h = (shared_late s x y a b come (a == x) (b == y) refl refl h.0, h.1)
step_back n k s (Carry x y z) may a b come h = carried_late s y z a b come may.4 (a == y) (b == z) refl refl h.0 h.1
step_back n k s (Stop y) may a b come h = (h.0, was (b == y) (s.holder b) a h.1)
step_back n k s (Unshare x y) may a b come h = h
step_back n k s (Moment x) may a b come h = h
step_back n k s (See x y) may a b come h = h
step_back n k s (Keep x y) may a b come h = h
step_back n k s (Choose x p) may a b come h = h
step_back n k s (Choose_kept x y p) may a b come h = h
step_back n k s (Pre x y) may a b come h = h
step_back n k s (Sink_pre x y) may a b come h = h
step_back n k s (Post x y) may a b come h = h
step_back n k s (Sink_post x y) may a b come h = h
step_back n k s (Clear x y) may a b come h = h
step_back n k s (Heal_grant x y) may a b come h = h
step_back n k s (Heal_free y) may a b come h = h
step_back n k s (Mark x y) may a b come h = h
step_back n k s (Unmark x y) may a b come h = h
step_back n k s (Maker_grant y) may a b come h = h
step_back n k s (Maker_free y) may a b come h = h
step_back n k s (Make y) may a b come h = h
step_back n k s (Made y) may a b come h = h
step_back n k s (Unmake y) may a b come h = h
step_back n k s (Replace y) may a b come h = h

pub after_back : (n k : ℕ) (xs : List Act) (s : State) → Runs n k xs s → (a b : ℕ) → s.moment a ≡ true → HasSince (after xs s) a b → HasSince s a b
after_back n k [] s runs a b come h = h
after_back n k (e ∷ xs) s runs a b come h = step_back n k s e runs.0 a b come (after_back n k xs (step s e) runs.1 a b (step_moment s e a come) h)
