-- The laws of good groups.
use Rattle.std.proofs.Common.{◌≡◌, ℕ, ◌*◌, ◌<◌, ◌≤◌, Bool, true, false, if◌then◌else◌, Option, Some, None, inl, inr, refl, sym, ◌∙◌, arith}
use Rattle.std.proofs.lemmas.Bool.{cases_Bool, cases_lt}
use Rattle.ec_attr.proofs.Sets.{count_grows, part, same_count, share}
use Rattle.ec_attr.specs.Bricks.{count_below}
use Rattle.ec_attr.specs.GoodGroup.{IsGoodGroup, alike, dirty_of, greatest_dirty, most_alike}
use Rattle.ec_attr.specs.declared.head.Head.{Head}
use Rattle.ec_answers.specs.Laws.{GoodGroupLaws}
use Rattle.ec_answers.proofs.Counting.{below_greatest, count_within, is_reached, member}
use Rattle.ec_answers.proofs.Agreement.{alike_kept, alike_same, none_alike, parts}

-- a group has no brick where there are no heads
pub out_of_group : (n k : ℕ) (heads : ℕ → Option Head) (p : ℕ → Bool) → ((b : ℕ) → n ≤ b → heads b ≡ None)
    → IsGoodGroup k heads p → (b : ℕ) → n ≤ b → p b ≡ false
out_of_group n k heads p none good b l =
    elim (cases_Bool (p b)) [
      | inl t ↦ good.1 b b t ∙ none_alike heads b b (none b l)
      | inr f ↦ f
    ]

-- a set with no brick from n on has its bricks below n
pub counted_below : (n k : ℕ) (p : ℕ → Bool) → ((b : ℕ) → n ≤ b → p b ≡ false) → k ≤ count_below 31 p → k ≤ count_below n p
counted_below n k p out l =
    elim (cases_lt n 31) [
      | inl below ↦ rw (sym (count_within 31 n p (omega arith) out)) l
      | inr above ↦ omega (arith, l, count_grows 31 n p above)
    ]

pub unique : (n k : ℕ) (heads : ℕ → Option Head) (p q : ℕ → Bool) → n < 2 * k → ((b : ℕ) → n ≤ b → heads b ≡ None)
    → IsGoodGroup k heads p → IsGoodGroup k heads q → (b : ℕ) → p b ≡ q b
unique n k heads p q most none left right b =
    let shared = share n k p q most
    (counted_below n k p (out_of_group n k heads p none left) left.0)
    (counted_below n k q (out_of_group n k heads q none right) right.0) in
    left.1 shared.0 b shared.2 ∙ sym (right.1 shared.0 b shared.3)

-- where k bricks are alike with one brick, these are the good group
pub good_by : (k : ℕ) (heads : ℕ → Option Head) (b : ℕ) → k ≤ count_below 31 (alike heads b) → IsGoodGroup k heads (alike heads b)
good_by k heads b l = (l, λ c d t. alike_same heads b c d t)

pub some : (k : ℕ) (heads : ℕ → Option Head) → 0 < k → k ≤ most_alike heads → (p : ℕ → Bool) × IsGoodGroup k heads p
some k heads l m =
    let reached = is_reached 31 (λ b. count_below 31 (alike heads b)) (omega arith) in
    let enough : k ≤ count_below 31 (alike heads reached.0) = rw (← reached.2) m in
    (alike heads reached.0, good_by k heads reached.0 enough)

pub enough : (k : ℕ) (heads : ℕ → Option Head) (p : ℕ → Bool) → 0 < k → IsGoodGroup k heads p → k ≤ most_alike heads
enough k heads p l good =
    let m = member p (omega (arith, good.0)) in
    let same : count_below 31 p ≡ count_below 31 (alike heads m.0) = same_count 31 p (alike heads m.0) (λ c k. good.1 m.0 c m.2) in
    omega (arith, good.0, same, below_greatest 31 m.0 (λ b. count_below 31 (alike heads b)) m.1)

pub dirtiest : (heads : ℕ → Option Head) (p : ℕ → Bool) (b : ℕ) (h : Head) → b < 31 → p b ≡ true → heads b ≡ Some h
    → h.dirty.content ≤ greatest_dirty heads p
dirtiest heads p b h l t e =
    let own : (if p b then dirty_of (heads b) else 0) ≡ h.dirty.content = rw (t, e) refl in
    omega (arith, own, below_greatest 31 b (λ c. if p c then dirty_of (heads c) else 0) l)

pub part_of : (k : ℕ) (heads more : ℕ → Option Head) (p : ℕ → Bool) → 0 < k → ((b : ℕ) (h : Head) → heads b ≡ Some h → more b ≡ Some h)
    → IsGoodGroup k heads p → (q : ℕ → Bool) × IsGoodGroup k more q × ((b : ℕ) → p b ≡ true → q b ≡ true)
part_of k heads more p l known good =
    let m = member p (omega (arith, good.0)) in
    let kept : (b : ℕ) → p b ≡ true → alike more m.0 b ≡ true = λ b t.
    alike_kept (heads m.0) (heads b) (more m.0) (more b) (known m.0) (known b) (sym (good.1 m.0 b m.2) ∙ t) in
    (alike more m.0, good_by k more m.0 (omega (arith, good.0, part 31 p (alike more m.0) (λ b k. kept b))), kept)

pub laws : GoodGroupLaws
laws = record { parts = parts; unique = unique; some = some; enough = enough; dirtiest = dirtiest; part = part_of }
