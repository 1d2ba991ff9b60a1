-- Heads as what bricks answered, and the good group of them.
use Rattle.std.proofs.Common.{◌≡◌, inl, inr, ℕ, zero, suc, ◌+◌, ◌<◌, ◌≤◌, Bool, true, false, cond, nat_lt, Option, Some, None, List, [], ◌∷◌, ◌++◌, length, get_or, replicate, if◌then◌else◌, refl, sym, ap, subst, ◌∙◌, arith}
use Rattle.std.proofs.Math.ListN.{set}
use Rattle.std.proofs.lemmas.List.{get_or-set_same, get_or-set_other}
use Rattle.std.proofs.lemmas.Bool.{cases_eq, cases_lt}
use Rattle.std.proofs.lemmas.Bool.Decides.{nat_tests}
use Rattle.ec_answers.specs.Grouping.{IsGrouped, given_by, head_in, heads_of}
use Rattle.ec_answers.specs.declared.answers.Answers.{Answers}
use Rattle.ec_answers.specs.declared.answers.Given.{Given}
use Rattle.ec_answers.specs.declared.grouped.Group.{Group}
use Rattle.ec_answers.specs.declared.grouped.Grouped.TheVariants.{Group as Found}
use Rattle.ec_attr.specs.Bricks.{bricks, bricks_below, is_in}
use Rattle.ec_attr.specs.GoodGroup.{IsGoodGroup}
use Rattle.ec_attr.specs.declared.head.Head.{Head}
use Rattle.ec_report.specs.Records.{AreGood, given_of, head_of}

abbrev nothing : Option Given
nothing = None

none_in : (n x : ℕ) → get_or (replicate n nothing) x None ≡ None
none_in zero x = refl
none_in (suc n) zero = refl
none_in (suc n) (suc x) = none_in n x

pub answers_none : (f : ℕ → Option Given) (x : ℕ) → get_or (replicate 31 nothing) x None ≡ cond (nat_lt x 0) (f x) None
answers_none f x = none_in 31 x ∙ (let t : nat_lt x 0 ≡ false = grind (arith, nat_tests) in rw t refl)

pub answers_step : (xs : List (Option Given)) (f : ℕ → Option Given) (b j x : ℕ) (v : Option Given) → b < length xs → j ≡ b → v ≡ f b → get_or xs x None ≡ cond (nat_lt x b) (f x) None → get_or (set xs j v) x None ≡ cond (nat_lt x (b + 1)) (f x) None
answers_step xs f b j x v l e g h = ap (λ (k : ℕ). get_or (set xs k v) x None) e ∙ elim (cases_eq x b) [
  | inl u ↦ let t : nat_lt x (b + 1) ≡ true = grind (arith, nat_tests) in rw t (ap (λ (k : ℕ). get_or (set xs b v) k None) u ∙ (get_or-set_same xs b v None l ∙ (g ∙ ap f (sym u))))
  | inr u ↦ let t : nat_lt x (b + 1) ≡ nat_lt x b = grind (arith, nat_tests) in rw t (get_or-set_other xs b x v None u ∙ h)
]

past : (heads : List (Option Head)) (b : ℕ) → length heads ≤ b → head_of heads b ≡ None
past [] b le = refl
past (h ∷ heads) zero le = absurd (omega (arith, le))
past (h ∷ heads) (suc b) le = past heads b (omega (arith, le))

cond_none : (t : Bool) → cond t nothing None ≡ None
cond_none true = refl
cond_none false = refl

-- no brick past the heads has answered
pub given_past : (a : Answers) (heads : List (Option Head)) (n : ℕ) → length heads ≤ n → ((b : ℕ) → given_by a b ≡ cond (nat_lt b 31) (given_of (head_of heads b)) None) → (b : ℕ) → n ≤ b → given_by a b ≡ None
given_past a heads n few is b le = is b ∙ ap (λ (o : Option Head). cond (nat_lt b 31) (given_of o) None) (past heads b (omega (arith, few, le))) ∙ cond_none (nat_lt b 31)

in_given : (o : Option Head) → head_in (given_of o) ≡ o
in_given None = refl
in_given (Some h) = refl

-- the heads that were answered are these
pub heads_same : (a : Answers) (heads : List (Option Head)) → length heads ≤ 31 → ((b : ℕ) → given_by a b ≡ cond (nat_lt b 31) (given_of (head_of heads b)) None) → (b : ℕ) → heads_of a b ≡ head_of heads b
heads_same a heads few is b = elim (cases_lt b 31) [
  | inl lt ↦ let t : nat_lt b 31 ≡ true = grind (arith, nat_tests) in ap head_in (is b ∙ ap (λ t. cond t (given_of (head_of heads b)) None) t) ∙ in_given (head_of heads b)
  | inr le ↦ ap head_in (given_past a heads (length heads) (omega arith) is b (omega (arith, few, le))) ∙ sym (past heads b (omega (arith, few, le)))
]

none_below : (n : ℕ) (test : ℕ → Bool) → ((b : ℕ) → test b ≡ false) → bricks_below n test ≡ []
unfolding bricks_below
none_below zero test no_one = refl
none_below (suc n) test no_one = ap (λ xs. xs ++ (if test n then n ∷ [] else [])) (none_below n test no_one) ∙ ap (λ t. if t then n ∷ [] else []) (no_one n)

-- a good group is found
pub good_found : (k : ℕ) (a : Answers) (heads : List (Option Head)) (g : Group) → ((b : ℕ) → heads_of a b ≡ head_of heads b) → IsGrouped k a (Found g) → AreGood k (head_of heads) (bricks g.bricks)
good_found k a heads g same is = inl (is_in g.bricks, subst (λ (hs : ℕ → Option Head). IsGoodGroup k hs (is_in g.bricks)) (λ i b. same b i) is.0, refl)

-- there is none
pub good_none : (k bits : ℕ) (a : Answers) (heads : List (Option Head)) → ((b : ℕ) → heads_of a b ≡ head_of heads b) → ((b : ℕ) → is_in bits b ≡ false) → ((set : ℕ → Bool) → IsGoodGroup k (heads_of a) set → ⊥) → AreGood k (head_of heads) (bricks bits)
good_none k bits a heads same empty no_one = inr (λ set good. no_one set (subst (λ (hs : ℕ → Option Head). IsGoodGroup k hs set) (λ i b. sym (same b) i) good), none_below 31 (is_in bits) empty)
