-- Where bricks are missing and one is left, one is chosen.
use Rattle.std.proofs.Common.{◌≡◌, inl, inr, ℕ, zero, suc, ◌+◌, ◌-◌, ◌%◌, ◌<◌, ◌≤◌, ◌&&◌, nat_lt, Bool, true, refl, sym, ◌∙◌, ap, arith, List, [], ◌∷◌, ◌++◌, Option, Some, None}
use Rattle.std.specs.Prelude.{map}
use Rattle.std.proofs.lemmas.Bool.{cases_Bool, cases_lt}
use Rattle.std.proofs.lemmas.Bool.Decides.{nat_tests}
use Rattle.ec_answers.specs.Choice.{up_from}
use Rattle.ec_answers.proofs.Steps.{reached_from}
use Rattle.ec_attr.specs.Bricks.{count_below}
use Rattle.ec_attr.proofs.Sets.{count_grows, count_in, count_none, count_out}
use Rattle.ec_conduct.specs.Table.{Send}
use Rattle.ec_wire.specs.declared.request.Request.{Request}
use Rattle.ec_txn.specs.ReadPhase.{count_before}
use Rattle.ec_txn.specs.Rounds.{Asks, one, round}

pub some_below : (n : ℕ) (p : ℕ → Bool) → 0 < count_below n p → (b : ℕ) × (b < n) × (p b ≡ true)
some_below zero p pos = absurd (let e = count_none p in omega (arith, e, pos))
some_below (suc n) p pos = elim (cases_Bool (p n)) [
  | inl t ↦ (n, omega arith, t)
  | inr t ↦ let w = some_below n p (let e = count_out n p t in omega (arith, e, pos)) in (w.0, let l = w.1 in omega (arith, l), w.2)
]

pub counts_one : (n : ℕ) (p : ℕ → Bool) (b : ℕ) → b < n → p b ≡ true → 0 < count_below n p
counts_one zero p b less t = absurd (omega (arith, less))
counts_one (suc n) p b less t = elim (cases_lt b n) [
  | inl l ↦ let w = counts_one n p b l t in let g = count_grows n (suc n) p (omega arith) in omega (arith, w, g)
  | inr l ↦ let same : b ≡ n = omega (arith, less, l) in let e = count_in n p (ap p (sym same) ∙ t) in omega (arith, e)
]

steps_back : (start j : ℕ) → start < 31 → j < 31 → (up_from start j + 31 - start) % 31 ≡ j
steps_back start j a b = omega (arith, a, b)

-- the first one that is left comes before no other
pub first_left : (start : ℕ) (test : ℕ → Bool) → start < 31 → (m j : ℕ) → j ≤ m → j < 31 → test (up_from start j) ≡ true → (y : ℕ) × (y < 31) × (test y ≡ true) × (count_before start test y ≡ 0)
first_left start test low zero j le less t = (up_from start j, omega arith, t, ap (λ (k : ℕ). count_below k (λ i. test (up_from start i))) (steps_back start j low less ∙ omega (arith, le)) ∙ count_none (λ i. test (up_from start i)))
first_left start test low (suc m) j le less t = elim (cases_lt 0 (count_below j (λ i. test (up_from start i)))) [
  | inl pos ↦ let w = some_below j (λ i. test (up_from start i)) pos in let l = w.1 in first_left start test low m w.0 (omega (arith, le, l)) (omega (arith, l, less)) w.2
  | inr none ↦ (up_from start j, omega arith, t, ap (λ (k : ℕ). count_below k (λ i. test (up_from start i))) (steps_back start j low less) ∙ omega (arith, none))
]

pub chosen : (start wanted : ℕ) (test : ℕ → Bool) (x : ℕ) → start < 31 → x < 31 → 0 < wanted → test x ≡ true → (y : ℕ) × (y < 31) × ((test y && nat_lt (count_before start test y) wanted) ≡ true)
chosen start wanted test x low less pos t =
    let r = reached_from start x low less in
    let w = first_left start test low r.0 r.0 (omega arith) r.1 (ap test r.2 ∙ t) in
    let here = w.2 in
    let none = w.3 in
    let l : nat_lt (count_before start test w.0) wanted ≡ true = grind (arith, nat_tests) in
    (w.0, w.1, rw (here, l) refl)

-- a round that sends nothing asks nobody

append_none : (xs ys : List Send) → xs ++ ys ≡ [] → (xs ≡ []) × (ys ≡ [])
append_none [] ys e = (refl, e)
append_none (x ∷ xs) ys e = absurd (cc)

sent_to : ℕ → Option Request → List Send
sent_to n None = []
sent_to n (Some r) = (n, r) ∷ []

to_one : (n : ℕ) (f : Asks) (o : Option Request) → f n ≡ o → round (suc n) f ≡ round n f ++ sent_to n o
unfolding sent_to
to_one n f None e = ap (λ (o : Option Request). round n f ++ map (λ (r : Request). (n, r)) (one o)) e
to_one n f (Some s) e = ap (λ (o : Option Request). round n f ++ map (λ (r : Request). (n, r)) (one o)) e

none_sent : (n : ℕ) (o : Option Request) → sent_to n o ≡ [] → o ≡ None
unfolding sent_to
none_sent n None e = refl
none_sent n (Some r) e = absurd (cc)

pub quiet_round : (n : ℕ) (f : Asks) → round n f ≡ [] → (x : ℕ) → x < n → f x ≡ None
quiet_round zero f e x less = absurd (omega (arith, less))
quiet_round (suc n) f e x less =
    let w = append_none (round n f) (sent_to n (f n)) (sym (to_one n f (f n) refl) ∙ e) in
    elim (cases_lt x n) [
      | inl l ↦ quiet_round n f w.0 x l
      | inr l ↦ let same : x ≡ n = omega (arith, less, l) in ap f same ∙ none_sent n (f n) w.1
    ]
