-- What the replies to the Queries come to.
use Rattle.std.proofs.Common.{◌≡◌, inl, inr, ℕ, zero, suc, ◌+◌, ◌-◌, ◌<◌, ◌≤◌, ◌==◌, nat_lt, Bool, true, false, cond, refl, sym, ◌∙◌, ap, subst, List, [], ◌∷◌, length, arith, Option, Some, None, get_or, replicate, eq-eqb, vec_len}
use Rattle.std.proofs.Math.ListN.{set}
use Rattle.std.proofs.lemmas.List.{get_or-set_same, get_or-set_other}
use Rattle.std.proofs.lemmas.Bool.{cases_eq, cases_lt}
use Rattle.std.proofs.lemmas.Bool.Decides.{nat_tests}
use Rattle.ec_answers.specs.Grouping.{IsGrouped, given_by as given_at}
use Rattle.ec_answers.specs.declared.answers.Answers.{Answers}
use Rattle.ec_answers.specs.declared.answers.Given.{Given}
use Rattle.ec_answers.specs.declared.grouped.Grouped.{Grouped}
use Rattle.ec_attr.specs.declared.geometry.Geometry.{Geometry}
use Rattle.ec_conduct.specs.Account.{Account}
use Rattle.ec_conduct.specs.Given.{bricks_of}
use Rattle.ec_txn.specs.declared.known.Known.{Known}
use Rattle.ec_txn.specs.declared.known.Place.{Place}
use Rattle.ec_txn.specs.Digest.{Shows, no_place, place_at}
use Rattle.ec_txn.specs.Opening.{ComesTo}
use Rattle.ec_txn.proofs.Places.{past_last}

abbrev nothing : Option Given
nothing = None

none_in : (n x : ℕ) → get_or (replicate n nothing) x None ≡ None
none_in zero x = refl
none_in (suc n) zero = refl
none_in (suc n) (suc x) = none_in n x

pub answers_none : (f : ℕ → Option Given) (x : ℕ) → get_or (replicate 31 nothing) x None ≡ cond (nat_lt x 0) (f x) None
answers_none f x = none_in 31 x ∙ (let t : nat_lt x 0 ≡ false = grind (arith, nat_tests) in rw t refl)

pub answers_step : (xs : List (Option Given)) (f : ℕ → Option Given) (b j x : ℕ) (v : Option Given) → b < length xs → j ≡ b → v ≡ f b → get_or xs x None ≡ cond (nat_lt x b) (f x) None → get_or (set xs j v) x None ≡ cond (nat_lt x (b + 1)) (f x) None
answers_step xs f b j x v l e g h = ap (λ (k : ℕ). get_or (set xs k v) x None) e ∙ elim (cases_eq x b) [
  | inl u ↦ let t : nat_lt x (b + 1) ≡ true = grind (arith, nat_tests) in rw t (ap (λ (k : ℕ). get_or (set xs b v) k None) u ∙ (get_or-set_same xs b v None l ∙ (g ∙ ap f (sym u))))
  | inr u ↦ let t : nat_lt x (b + 1) ≡ nat_lt x b = grind (arith, nat_tests) in rw t (get_or-set_other xs b x v None u ∙ h)
]

pub nothing_past : (known : Known) (a : Answers) (n b : ℕ) → vec_len known.places ≡ n → n ≤ b → given_at a b ≡ cond (nat_lt b 31) (place_at known.places.items b).given None → given_at a b ≡ None
nothing_past known a n b len l e = e ∙ (ap (λ (p : Place). cond (nat_lt b 31) p.given None) (past_last known.places.items b (omega (arith, len, l, known.places.ok.0))) ∙ both (nat_lt b 31))
  where
    both : (t : Bool) → cond t None nothing ≡ None
    both true = refl
    both false = refl

pub comes_to : (known : Known) (a : Answers) (geometry : Geometry) (grouped : Grouped) (c : Account) (g : ℕ) → c.given.geometry ≡ geometry → Shows g (bricks_of c.given) known c
    → ((x : ℕ) → given_at a x ≡ cond (nat_lt x 31) (place_at known.places.items x).given None) → IsGrouped (geometry.n - geometry.r) a grouped → ComesTo c g grouped
comes_to known a geometry grouped c g e s each is = (
  a,
  (λ x. each x ∙ elim (cases_lt x 31) [
    | inl l ↦ let t : nat_lt x 31 ≡ true = grind (arith, nat_tests) in rw t (ap (λ (p : Place). p.given) (s.each x))
    | inr l ↦ let t : nat_lt x 31 ≡ false = grind (arith, nat_tests) in rw t (ap (λ (p : Place). p.given) (sym (past_last known.places.items x (omega (arith, l, s.len, known.places.ok.0, c.given.geometry.bricks))) ∙ s.each x))
  ]),
  subst (λ (v : Geometry). IsGrouped (v.n - v.r) a grouped) (sym e) is,
)
