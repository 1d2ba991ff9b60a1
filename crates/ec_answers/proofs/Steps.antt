-- What follows of the answers, step by step.
use Rattle.std.proofs.Common.{◌≡◌, ℕ, zero, suc, replicate, ◌+◌, ◌-◌, ◌*◌, ◌<◌, ◌≤◌, Bool, true, false, Option, Some, None, inl, inr, refl, sym, ap, subst, ◌∙◌, arith}
use Rattle.std.proofs.Math.Path.{fun_ext}
use Rattle.std.specs.Prelude.{slice_index_or}
use Rattle.std.proofs.lemmas.Bool.{cases_Bool, cases_lt}
use Rattle.ec_attr.proofs.Sets.{share}
use Rattle.ec_attr.specs.Bricks.{count_below, is_in}
use Rattle.ec_attr.specs.GoodGroup.{IsGoodGroup, agrees_with, alike, greatest_dirty, has_mark, is_sink}
use Rattle.ec_attr.specs.declared.head.Head.{Head}
use Rattle.ec_answers.specs.Choice.{up_from}
use Rattle.ec_answers.specs.Grouping.{IsGrouped, absent, given_by, head_in, heads_of, is_no_inode}
use Rattle.ec_attr.specs.Head.{with_dirty}
use Rattle.ec_answers.specs.declared.answers.Answers.{Answers}
use Rattle.ec_answers.specs.declared.answers.Given.{Given}
use Rattle.ec_answers.specs.declared.answers.Given.TheVariants.{Head as HeadGiven, NoInode, Other}
use Rattle.ec_answers.specs.declared.grouped.Group.{Group}
use Rattle.ec_answers.specs.declared.grouped.Grouped.TheVariants.{Group as Found}
use Rattle.ec_answers.proofs.Agreement.{agree_self, alike_by, none_alike}
use Rattle.ec_answers.proofs.GoodGroups.{counted_below, good_by, out_of_group, unique}

-- each brick is some steps up from another one
pub reached_from : (start b : ℕ) → start < 31 → b < 31 → (j : ℕ) × (j < 31) × (up_from start j ≡ b)
reached_from start b s l =
    elim (cases_lt b start) [
      | inl below ↦ (b + 31 - start, omega arith, omega arith)
      | inr above ↦ (b - start, omega arith, omega arith)
    ]

-- a brick that answered that it has no record has no head
absent_no_head : (o : Option Given) → is_no_inode o ≡ true → head_in o ≡ None
absent_no_head None t = refl
absent_no_head (Some (HeadGiven h)) t = cc
absent_no_head (Some NoInode) t = refl
absent_no_head (Some Other) t = refl

no_heads : (n : ℕ) (a : Answers) → ((b : ℕ) → n ≤ b → given_by a b ≡ None) → (b : ℕ) → n ≤ b → heads_of a b ≡ None
no_heads n a none b l = ap head_in (none b l)

-- there is no good group where k bricks have no record
pub not_both : (n k : ℕ) (a : Answers) (p : ℕ → Bool) → n < 2 * k → ((b : ℕ) → n ≤ b → given_by a b ≡ None)
    → k ≤ count_below 31 (absent a) → IsGoodGroup k (heads_of a) p → ⊥
not_both n k a p most none gone good =
    let out : (b : ℕ) → n ≤ b → absent a b ≡ false = λ b l. ap is_no_inode (none b l) in
    let shared = share n k (absent a) p most (counted_below n k (absent a) out gone)
    (counted_below n k p (out_of_group n k (heads_of a) p (no_heads n a none) good) good.0) in
    let empty : heads_of a shared.0 ≡ None = absent_no_head (given_by a shared.0) shared.2 in
    let alone : p shared.0 ≡ false = good.1 shared.0 shared.0 shared.3 ∙ none_alike (heads_of a) shared.0 shared.0 empty in
    let both : true ≡ false = sym shared.3 ∙ alone in
    cc

pub only_group : (n k : ℕ) (a : Answers) (p q : ℕ → Bool) → n < 2 * k → ((b : ℕ) → n ≤ b → given_by a b ≡ None)
    → IsGoodGroup k (heads_of a) p → IsGoodGroup k (heads_of a) q → (b : ℕ) → p b ≡ q b
only_group n k a p q most none left right = unique n k (heads_of a) p q most (no_heads n a none) left right

-- the bricks that agree with the unmarked head of a brick are those that are alike with that brick
same_bricks : (a : Answers) (b bits : ℕ) (h : Head) → heads_of a b ≡ Some h → has_mark h ≡ false
    → ((c : ℕ) → is_in bits c ≡ agrees_with h (heads_of a c)) → is_in bits ≡ alike (heads_of a) b
same_bricks a b bits h e f agreeing = fun_ext (λ c. agreeing c ∙ sym (alike_by (heads_of a) b h e f c))

pub counted_alike : (a : Answers) (b bits : ℕ) (h : Head) → heads_of a b ≡ Some h → has_mark h ≡ false
    → ((c : ℕ) → is_in bits c ≡ agrees_with h (heads_of a c)) → count_below 31 (alike (heads_of a) b) ≡ count_below 31 (is_in bits)
counted_alike a b bits h e f agreeing = ap (count_below 31) (sym (same_bricks a b bits h e f agreeing))

-- a brick that is alike with fewer than k is in no good group
not_member : (k : ℕ) (heads : ℕ → Option Head) (p : ℕ → Bool) (c : ℕ) → IsGoodGroup k heads p → count_below 31 (alike heads c) < k → p c ≡ false
not_member k heads p c good few = elim (cases_Bool (p c)) [
  | inl t ↦ let same : count_below 31 p ≡ count_below 31 (alike heads c) = ap (count_below 31) (fun_ext (λ d. good.1 c d t)) in absurd (omega (arith, same, good.0, few))
  | inr f ↦ f
]

pub found : (k : ℕ) (a : Answers) (b : ℕ) (h : Head) (g : Group) → heads_of a b ≡ Some h → has_mark h ≡ false
    → ((c : ℕ) → is_in g.bricks c ≡ agrees_with h (heads_of a c)) → k ≤ count_below 31 (is_in g.bricks)
    → ((c : ℕ) → is_in g.sinks c ≡ is_sink g.head (heads_of a c))
    → g.head ≡ with_dirty (greatest_dirty (heads_of a) (is_in g.bricks)) h → ((c : ℕ) → c < b → count_below 31 (alike (heads_of a) c) < k) → IsGrouped k a (Found g)
found k a b h g e f agreeing enough sinks head fewer =
    let same = same_bricks a b g.bricks h e f agreeing in
    let good : IsGoodGroup k (heads_of a) (is_in g.bricks) = subst (IsGoodGroup k (heads_of a)) (sym same)
    (good_by k (heads_of a) b (subst (λ (p : ℕ → Bool). k ≤ count_below 31 p) same enough)) in
    let agrees : agrees_with h (heads_of a b) ≡ true = rw (e, f) (agree_self h) in
    (good, sinks, (b, h, agreeing b ∙ agrees, e, head, λ c l. not_member k (heads_of a) (is_in g.bricks) c good (fewer c l)))

-- no brick answered where the answers are made with None at each place
pub none_given : (n b : ℕ) → slice_index_or {A = Option Given} (replicate n None) b None ≡ None
none_given zero b = refl
none_given (suc n) zero = refl
none_given (suc n) (suc b) = none_given n b
