-- The good group of heads that a call heard, and what marks make of versions.
use Rattle.std.proofs.Common.{◌≡◌, ◌⊎◌, ℕ, zero, suc, ◌+◌, ◌-◌, ◌*◌, ◌^◌, ◌<◌, ◌≤◌, Bool, true, false, not, ◌==◌, ◌&&◌, nat_le, nat_lt, Option, Some, None, List, [], ◌∷◌, ◌++◌, refl, sym, ◌∙◌, ap, subst, arith, inl, inr, ⊎_elim}
use Rattle.std.proofs.lemmas.Bool.Decides.{nat_tests}
use Rattle.std.specs.Option.{option_map}
use Rattle.ec_answers.proofs.Agreement.{parts_equal}
use Rattle.ec_answers.proofs.GoodGroups.{dirtiest}
use Rattle.ec_attr.proofs.Sets.{bricks_in, bricks_none, bricks_out, laws as brick_laws, part}
use Rattle.ec_attr.specs.Bricks.{bricks_below, count_below}
use Rattle.ec_attr.specs.GoodGroup.{alike, alike_heads, agrees_with, greatest_dirty, has_mark, is_sink as is_sink_beside}
use Rattle.ec_attr.specs.Head.{with_dirty}
use Rattle.ec_attr.specs.Marks.{is_marked, marked, stripped}
use Rattle.ec_attr.specs.declared.head.Head.{Head}
use Rattle.ec_conduct.specs.Group.{Heads, first_head, good_group, group_head, has, is_good, is_sink}
use Rattle.ec_conduct.proofs.Groups.{one_group}
use Rattle.ec_law_base.specs.State.{Head as Seen}
use Rattle.ec_law_ballots.specs.Words.{at_base}
use Rattle.ec_law_net.specs.Start.{seen_head}
use Rattle.ec_law_net.proofs.Chosen.{group_is_quorum}
use Rattle.ec_law_turns.proofs.Basics.{some_is}

-- ## Marks

pub plain : (x : ℕ) → is_marked x ≡ false → stripped x ≡ x
plain x e = rw e refl

pub raised : (at number : ℕ) → stripped at + number < 2 ^ 61 → (is_marked (at + number) ≡ is_marked at) × (stripped at + number ≡ stripped (at + number))
raised at number lt = by (is_marked at) refl
  where
    low : (v : ℕ) → v < 2 ^ 61 → is_marked v ≡ false
    low v l = grind (arith, nat_tests)

    high : (v : ℕ) → v < 2 ^ 61 → is_marked (v + 2 ^ 62) ≡ true
    high v l = grind (arith, nat_tests)

    least : (v : ℕ) → is_marked v ≡ true → 2 ^ 62 ≤ v
    least v e = grind (arith, nat_tests)

    by : (t : Bool) → is_marked at ≡ t → (is_marked (at + number) ≡ is_marked at) × (stripped at + number ≡ stripped (at + number))
    by false e = let same = plain at e in let now = low (at + number) (omega (arith, same, lt)) in (now ∙ sym e, ap (λ (x : ℕ). x + number) same ∙ sym (plain (at + number) now))
    by true e =
        let le = least at e in
        let same : stripped at ≡ at - 2 ^ 62 = rw e refl in
        let less : at - 2 ^ 62 + number < 2 ^ 61 = omega (arith, same, lt) in
        let sum : at - 2 ^ 62 + number + 2 ^ 62 ≡ at + number = omega (arith, le) in
        let now : is_marked (at + number) ≡ true = subst (λ (x : ℕ). is_marked x ≡ true) sum (high (at - 2 ^ 62 + number) less) in
        let strips : stripped (at + number) ≡ at + number - 2 ^ 62 = rw now refl in
        (now ∙ sym e, omega (arith, same, strips, le))

-- with the mark, of a version below its bound
pub with_mark : (v : ℕ) → is_marked v ≡ false → v < 2 ^ 61 → (is_marked (marked v) ≡ true) × (stripped (marked v) ≡ v)
with_mark v e lt =
    let is : marked v ≡ v + 2 ^ 62 = rw e refl in
    let now : is_marked (marked v) ≡ true = subst (λ (x : ℕ). is_marked x ≡ true) (sym is) (high v lt) in
    (now, subst (λ (x : ℕ). is_marked x ≡ true → stripped x ≡ v) (sym is) (λ h. back h) now)
  where
    high : (v : ℕ) → v < 2 ^ 61 → is_marked (v + 2 ^ 62) ≡ true
    high v l = grind (arith, nat_tests)

    back : is_marked (v + 2 ^ 62) ≡ true → stripped (v + 2 ^ 62) ≡ v
    back h = let same : stripped (v + 2 ^ 62) ≡ v + 2 ^ 62 - 2 ^ 62 = rw h refl in omega (arith, same)

-- ## The group

first_in : (n : ℕ) (p : ℕ → Bool) (heads : Heads) (h : Head) → first_head heads (bricks_below n p) ≡ Some h → (b : ℕ) × (b < n) × (p b ≡ true) × (heads b ≡ Some h)
first_in zero p heads h e = absurd (let x = subst (λ (bs : List ℕ). first_head heads bs ≡ Some h) (bricks_none p) e in cc)
first_in (suc n) p heads h e = at (p n) refl (first_in n p heads h) (bricks_below n p) refl
  where
    ends : (bs : List ℕ) → first_head heads (bs ++ n ∷ []) ≡ Some h → (first_head heads bs ≡ Some h) ⊎ (heads n ≡ Some h)
    ends [] f = inr f
    ends (b ∷ bs) f = inl f

    less : (b : ℕ) × (b < n) × (p b ≡ true) × (heads b ≡ Some h) → (b : ℕ) × (b < suc n) × (p b ≡ true) × (heads b ≡ Some h)
    less o = (o.0, (let x = o.1 in omega arith), o.2, o.3)

    at : (t : Bool) → p n ≡ t → (first_head heads (bricks_below n p) ≡ Some h → (b : ℕ) × (b < n) × (p b ≡ true) × (heads b ≡ Some h)) → (bs : List ℕ) → bricks_below n p ≡ bs → (b : ℕ) × (b < suc n) × (p b ≡ true) × (heads b ≡ Some h)
    at false f rest bs g = less (rest (subst (λ (xs : List ℕ). first_head heads xs ≡ Some h) (bricks_out n p f) e))
    at true f rest bs g = ⊎_elim (λ x. less (rest x)) (λ x. (n, omega arith, f, x)) (ends (bricks_below n p) (subst (λ (xs : List ℕ). first_head heads xs ≡ Some h) (bricks_in n p f) e))

module _ (n k : ℕ) (heads : Heads) (most : n ≤ 31) (positive : 0 < k) (half : n < 2 * k) where
  -- a brick of the group has an unmarked head
  pub unmarked : (b : ℕ) → is_good n k heads b ≡ true → (h : Head) × (heads b ≡ Some h) × (has_mark h ≡ false)
  unmarked b good =
      let le = of k (count_below n (alike heads b)) good in
      let o = brick_laws.each n (alike heads b) 0 (omega (arith, le, positive)) in
      at (heads b) refl _ o.1
    where
      of : (x y : ℕ) → nat_le x y ≡ true → x ≤ y
      of x y e = grind (arith, nat_tests)

      first : (t u : Bool) → (not t && u) ≡ true → t ≡ false
      first true u e = absurd (cc)
      first false u e = refl

      at : (o : Option Head) → heads b ≡ o → (y : Option Head) → alike_heads o y ≡ true → (h : Head) × (heads b ≡ Some h) × (has_mark h ≡ false)
      at None e y like = absurd (cc)
      at (Some h) e y like = (h, e, first (has_mark h) (agrees_with h y) like)

  module _ (q : Head) (group : group_head n k heads ≡ Some q) where
    -- the head of the group is that of a brick of it, with the greatest dirty number
    pub of_group : (b : ℕ) × (h : Head) × (is_good n k heads b ≡ true) × (heads b ≡ Some h) × (q.version.content ≡ h.version.content) × (q.dirty.content ≡ greatest_dirty heads (is_good n k heads))
    of_group = at (first_head heads (good_group n k heads)) refl group
      where
        at : (o : Option Head) → first_head heads (good_group n k heads) ≡ o → option_map (with_dirty (greatest_dirty heads (is_good n k heads))) o ≡ Some q → (b : ℕ) × (h : Head) × (is_good n k heads b ≡ true) × (heads b ≡ Some h) × (q.version.content ≡ h.version.content) × (q.dirty.content ≡ greatest_dirty heads (is_good n k heads))
        at None f e = absurd (cc)
        at (Some h) f e =
            let o = first_in n (is_good n k heads) heads h f in
            let same = sym (some_is (with_dirty (greatest_dirty heads (is_good n k heads)) h) q e) in
            (o.0, h, o.2, o.3, ap (λ (x : Head). x.version.content) same, ap (λ (x : Head). x.dirty.content) same)

    pub group_unmarked : is_marked q.version.content ≡ false
    group_unmarked =
        let o = of_group in
        let u = unmarked o.0 o.2 in
        ap is_marked o.4 ∙ (ap (λ (x : Head). is_marked x.version.content) (some_is o.1 u.0 (sym o.3 ∙ u.1)) ∙ u.2)

    -- and each brick of it has that version and no greater dirty number
    pub based : (b number : ℕ) → b < n → is_good n k heads b ≡ true → q.dirty.content < number → (h : Head) × (heads b ≡ Some h) × (at_base (record { base = q.version.content; number = number }) (Some (seen_head (Some h))) ≡ true)
    based b number lt good above =
        let o = of_group in
        let u = unmarked b good in
        let same = (parts_equal u.0 o.1 (one_group brick_laws n k heads b o.0 u.0 o.1 half u.1 o.3 good o.2)).2 in
        let low = dirtiest heads (is_good n k heads) b u.0 (omega (arith, lt, most)) good u.1 in
        let dirty = o.5 in
        (u.0, u.1, tests (is_marked u.0.version.content) (stripped u.0.version.content == q.version.content) (nat_lt u.0.dirty.content number) u.2 (equals (stripped u.0.version.content) q.version.content (plain u.0.version.content u.2 ∙ (same ∙ sym o.4))) (lower u.0.dirty.content number (omega (arith, low, dirty, above))))
      where
        tests : (t u w : Bool) → t ≡ false → u ≡ true → w ≡ true → (true && not t && u && w) ≡ true
        tests t u w x y z = rw (x, y, z) refl

        equals : (x y : ℕ) → x ≡ y → (x == y) ≡ true
        equals x y e = grind (arith, nat_tests)

        lower : (x y : ℕ) → x < y → nat_lt x y ≡ true
        lower x y e = grind (arith, nat_tests)

    -- a sink beside it has a marked head
    pub sink_marked : (b : ℕ) → is_sink n k heads b ≡ true → (h : Head) × (heads b ≡ Some h) × (is_marked h.version.content ≡ true)
    sink_marked b so = at (heads b) refl (subst (λ (o : Option Head). has (λ x. is_sink_beside x (heads b)) o ≡ true) group so)
      where
        first : (t u : Bool) → (t && u) ≡ true → t ≡ true
        first true u e = refl
        first false u e = absurd (cc)

        at : (o : Option Head) → heads b ≡ o → is_sink_beside q o ≡ true → (h : Head) × (heads b ≡ Some h) × (is_marked h.version.content ≡ true)
        at None e h = absurd (cc)
        at (Some y) e h = (y, e, first (has_mark y) _ h)

    -- what the machine saw is a quorum on which the ballot may stand
    pub quorum_seen : (seen : ℕ → Option Seen) → ((b : ℕ) (h : Head) → heads b ≡ Some h → seen b ≡ Some (seen_head (Some h))) → (number : ℕ) → q.dirty.content < number → k ≤ count_below n (λ b. at_base (record { base = q.version.content; number = number }) (seen b))
    quorum_seen seen are number above =
        let enough = group_is_quorum n k heads q number most group above in
        let more = part n (λ b. at_base (record { base = q.version.content; number = number }) (option_map (λ h. seen_head (Some h)) (heads b))) (λ b. at_base (record { base = q.version.content; number = number }) (seen b)) (λ b lt h. at b (heads b) refl h) in
        omega (arith, enough, more)
      where
        at : (b : ℕ) (o : Option Head) → heads b ≡ o → at_base (record { base = q.version.content; number = number }) (option_map (λ h. seen_head (Some h)) o) ≡ true → at_base (record { base = q.version.content; number = number }) (seen b) ≡ true
        at b None e h = absurd (cc)
        at b (Some y) e h = ap (at_base (record { base = q.version.content; number = number })) (are b y e) ∙ h
