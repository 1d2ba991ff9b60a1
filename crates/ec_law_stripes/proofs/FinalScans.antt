-- Own entries read from the first to the last, for what comes after data or a PostOp.
use Rattle.std.proofs.Common.{◌≡◌, ℕ, ◌+◌, Bool, true, false, ◌||◌, refl, sym, ◌∙◌, ap, subst, List, [], ◌∷◌, ◌++◌, Option, Some, None}
use Rattle.ec_conduct.specs.Own.{Own, Sends, Hears, GivesUp, Answers}
use Rattle.ec_conduct.specs.Table.{IsFromOutside, Send, entries_of}
use Rattle.ec_wire.specs.declared.answer.Answer.{Answer}
use Rattle.ec_wire.specs.declared.request.Request.{Request}
use Rattle.ec_law_calls.proofs.Clean.{Each}
use Rattle.ec_law_parts.specs.LeavesOff.{SendsNone}
use Rattle.ec_law_stripes.specs.Finals.{AsksOffFrom, has_final, is_final, sends_final}

or_both : (p s u : Bool) → ((p || s) || u) ≡ (p || (s || u))
or_both true s u = refl
or_both false s u = refl

or_false : (p : Bool) → (p || false) ≡ p
or_false true = refl
or_false false = refl

or_right : (p s : Bool) → s ≡ true → (p || s) ≡ true
or_right true s e = refl
or_right false s e = e

or_none : (p s : Bool) → p ≡ false → s ≡ false → (p || s) ≡ false
or_none true s e f = absurd (cc)
or_none false s e f = f

-- ## Longer lists

pub final_both : (xs ys : List Own) → has_final (xs ++ ys) ≡ (has_final xs || has_final ys)
final_both [] ys = refl
final_both (x ∷ xs) ys = ap (λ (u : Bool). sends_final x || u) (final_both xs ys) ∙ sym (or_both (sends_final x) (has_final xs) (has_final ys))

pub final_more : (xs ys : List Own) → has_final xs ≡ true → has_final (xs ++ ys) ≡ true
final_more xs ys e = final_both xs ys ∙ ap (λ (u : Bool). u || has_final ys) e

pub final_last : (xs : List Own) (e : Own) → sends_final e ≡ true → has_final (xs ++ e ∷ []) ≡ true
final_last xs e is = final_both xs (e ∷ []) ∙ or_right (has_final xs) (sends_final e || false) (or_false (sends_final e) ∙ is)

pub off_both : (test : Request → Bool) (p : Bool) (xs ys : List Own) → AsksOffFrom test p xs → AsksOffFrom test (p || has_final xs) ys → AsksOffFrom test p (xs ++ ys)
off_both test p [] ys h k = subst (λ (u : Bool). AsksOffFrom test u ys) (or_false p) k
off_both test p (x ∷ xs) ys h k = (h.0, off_both test (p || sends_final x) xs ys h.1 (subst (λ (u : Bool). AsksOffFrom test u ys) (sym (or_both p (sends_final x) (has_final xs))) k))

-- what comes after such a request doesn't pass the test
pub off_there : (test : Request → Bool) (p : Bool) (xs : List Own) (e : Own) (ys : List Own) → AsksOffFrom test p (xs ++ e ∷ ys) → (p || has_final xs) ≡ true → SendsNone test e
off_there test p [] e ys h is = h.0 (sym (or_false p) ∙ is)
off_there test p (x ∷ xs) e ys h is = off_there test (p || sends_final x) xs e ys h.1 (or_both p (sends_final x) (has_final xs) ∙ is)

-- ## Sends

abbrev pub IsNot : (Request → Bool) → ℕ → Request → Type 0
IsNot test x r = test r ≡ false

-- where nothing passes the test, all is well
pub off_none : (test : Request → Bool) (p : Bool) (i : ℕ) (ss : List Send) (answer : Option Answer) → Each (IsNot test) ss → AsksOffFrom test p (entries_of i ss answer)
off_none test p i [] None h = tt
off_none test p i [] (Some answer) h = (λ e. tt, tt)
off_none test p i (s ∷ ss) answer h = (λ e. h.0, off_none test (p || is_final s.1) (i + 1) ss answer h.1)

pub none_final : (i : ℕ) (ss : List Send) (answer : Option Answer) → Each (IsNot is_final) ss → has_final (entries_of i ss answer) ≡ false
none_final i [] None h = refl
none_final i [] (Some answer) h = refl
none_final i (s ∷ ss) answer h = or_none (is_final s.1) (has_final (entries_of (i + 1) ss answer)) h.0 (none_final (i + 1) ss answer h.1)

no_true : (p : Bool) → p ≡ false → p ≡ true → ⊥
no_true p e f = absurd (let x = sym e ∙ f in cc)

-- and where there is none, before and among them
pub off_early : (test : Request → Bool) (p : Bool) → p ≡ false → (i : ℕ) (ss : List Send) (answer : Option Answer) → Each (IsNot is_final) ss → AsksOffFrom test p (entries_of i ss answer)
off_early test p z i [] None h = tt
off_early test p z i [] (Some answer) h = (λ e. tt, tt)
off_early test p z i (s ∷ ss) answer h = (λ e. absurd (no_true p z e), off_early test (p || is_final s.1) (or_none p (is_final s.1) z h.0) (i + 1) ss answer h.1)

-- ## What comes from outside

pub outside_none : (test : Request → Bool) (e : Own) → IsFromOutside e → SendsNone test e
outside_none test (Sends b i r) out = absurd out
outside_none test (Hears b i reply) out = tt
outside_none test (GivesUp b i) out = tt
outside_none test (Answers answer) out = absurd out

pub outside_unfinal : (e : Own) → IsFromOutside e → sends_final e ≡ false
outside_unfinal (Sends b i r) out = absurd out
outside_unfinal (Hears b i reply) out = refl
outside_unfinal (GivesUp b i) out = refl
outside_unfinal (Answers answer) out = absurd out
