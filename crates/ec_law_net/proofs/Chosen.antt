-- The bricks of a good group, counted as the machine counts them.
use Rattle.std.proofs.Common.{◌≡◌, ◌⊎◌, ℕ, zero, suc, ◌<◌, ◌≤◌, Bool, true, false, not, ◌==◌, ◌&&◌, nat_lt, nat_le, Option, Some, None, List, [], ◌∷◌, ◌++◌, refl, sym, ◌∙◌, ap, subst, arith, inl, inr, ⊎_elim}
use Rattle.std.proofs.lemmas.Bool.Decides.{nat_tests}
use Rattle.std.specs.Option.{option_map}
use Rattle.ec_answers.proofs.Agreement.{alike_by, alike_same, parts}
use Rattle.ec_answers.proofs.GoodGroups.{dirtiest}
use Rattle.ec_attr.proofs.Sets.{bricks_in, bricks_none, bricks_out, part, same_count}
use Rattle.ec_attr.specs.Bricks.{bricks_below, count_below}
use Rattle.ec_attr.specs.GoodGroup.{agree, agrees_with, alike, alike_heads, greatest_dirty, has_mark}
use Rattle.ec_attr.specs.Marks.{is_marked, stripped}
use Rattle.ec_attr.specs.declared.head.Head.{Head}
use Rattle.ec_conduct.specs.Group.{Heads, first_head, good_group, is_good}
use Rattle.ec_law_ballots.specs.Words.{at_base}
use Rattle.ec_law_net.specs.Chosen.{GroupIsQuorum}
use Rattle.ec_law_net.specs.Start.{seen_head}
use Rattle.ec_attr.specs.Head.{with_dirty}

-- the first brick of a list that has one is of the set
first_in : (n : ℕ) (p : ℕ → Bool) (heads : Heads) (h : Head) → first_head heads (bricks_below n p) ≡ Some h → (b : ℕ) × (b < n) × (p b ≡ true) × (heads b ≡ Some h)
first_in zero p heads h e = absurd (let x = subst (λ (bs : List ℕ). first_head heads bs ≡ Some h) (bricks_none p) e in cc)
first_in (suc n) p heads h e = at (p n) refl (first_in n p heads h) (bricks_below n p) refl
  where
    ends : (bs : List ℕ) → first_head heads (bs ++ n ∷ []) ≡ Some h → (first_head heads bs ≡ Some h) ⊎ (heads n ≡ Some h)
    ends [] f = inr f
    ends (b ∷ bs) f = inl f

    less : (b : ℕ) × (b < n) × (p b ≡ true) × (heads b ≡ Some h) → (b : ℕ) × (b < suc n) × (p b ≡ true) × (heads b ≡ Some h)
    less o = (o.0, (let x = o.1 in omega arith), o.2, o.3)

    at : (t : Bool) → p n ≡ t → (first_head heads (bricks_below n p) ≡ Some h → (b : ℕ) × (b < n) × (p b ≡ true) × (heads b ≡ Some h)) → (bs : List ℕ) → bricks_below n p ≡ bs → (b : ℕ) × (b < suc n) × (p b ≡ true) × (heads b ≡ Some h)
    at false f rest bs g = less (rest (subst (λ (xs : List ℕ). first_head heads xs ≡ Some h) (bricks_out n p f) e))
    at true f rest bs g = ⊎_elim (λ x. less (rest x)) (λ x. (n, omega arith, f, x)) (ends (bricks_below n p) (subst (λ (xs : List ℕ). first_head heads xs ≡ Some h) (bricks_in n p f) e))

module _ (n k : ℕ) (heads : Heads) (number : ℕ) (most : n ≤ 31) (b : ℕ) (h : Head) (there : heads b ≡ Some h) (good : is_good n k heads b ≡ true) (above : greatest_dirty heads (is_good n k heads) < number) where
  enough : k ≤ count_below n (alike heads b)
  enough = of k (count_below n (alike heads b)) good
    where
      of : (x y : ℕ) → nat_le x y ≡ true → x ≤ y
      of x y e = grind (arith, nat_tests)

  -- a brick that is alike is in the group too
  also : (c : ℕ) → alike heads b c ≡ true → is_good n k heads c ≡ true
  also c e = of k (count_below n (alike heads c)) (let x = same_count n (alike heads b) (alike heads c) (λ d lt. alike_same heads b c d e) in let y = enough in omega (arith, x, y))
    where
      of : (x y : ℕ) → x ≤ y → nat_le x y ≡ true
      of x y e = grind (arith, nat_tests)

  unmarked : (c : ℕ) → alike heads b c ≡ true → has_mark h ≡ false
  unmarked c e = at (has_mark h) (subst (λ (o : Option Head). alike_heads o (heads c) ≡ true) there e)
    where
      at : (t : Bool) → (not t && agrees_with h (heads c)) ≡ true → t ≡ false
      at true f = absurd (cc)
      at false f = refl

  based : (c : ℕ) → c < n → alike heads b c ≡ true → at_base (record { base = h.version.content; number = number }) (option_map (λ x. seen_head (Some x)) (heads c)) ≡ true
  based c lt e = at (heads c) refl (sym (alike_by heads b h there (unmarked c e) c) ∙ e)
    where
      tests : (t u w : Bool) → t ≡ false → u ≡ true → w ≡ true → (true && not t && u && w) ≡ true
      tests t u w x y z = rw (x, y, z) refl

      same : (x y : ℕ) → x ≡ y → (x == y) ≡ true
      same x y e = grind (arith, nat_tests)

      lower : (x y : ℕ) → x < y → nat_lt x y ≡ true
      lower x y e = grind (arith, nat_tests)

      plain : (x : ℕ) → is_marked x ≡ false → stripped x ≡ x
      plain x e = rw e refl

      both : (t u : Bool) → (not t && u) ≡ true → (t ≡ false) × (u ≡ true)
      both t u e = (grind (arith), grind (arith))

      at : (o : Option Head) → heads c ≡ o → agrees_with h o ≡ true → at_base (record { base = h.version.content; number = number }) (option_map (λ x. seen_head (Some x)) o) ≡ true
      at None f a = absurd (cc)
      at (Some x) f a =
          let u = both (has_mark x) (agree h x) a in
          let v = ((parts h x).0 u.1).2 in
          let d = dirtiest heads (is_good n k heads) c x (omega (arith, lt, most)) (also c e) f in
          tests (is_marked x.version.content) (stripped x.version.content == h.version.content) (nat_lt x.dirty.content number) u.0 (same (stripped x.version.content) h.version.content (plain x.version.content u.0 ∙ sym v)) (lower x.dirty.content number (omega (arith, d, above)))

  quorum_seen : k ≤ count_below n (λ c. at_base (record { base = h.version.content; number = number }) (option_map (λ x. seen_head (Some x)) (heads c)))
  quorum_seen = let x = part n (alike heads b) (λ c. at_base (record { base = h.version.content; number = number }) (option_map (λ x. seen_head (Some x)) (heads c))) based in let y = enough in omega (arith, x, y)

pub group_is_quorum : GroupIsQuorum
group_is_quorum n k heads q number most e above = at (first_head heads (good_group n k heads)) refl e
  where
    some_is : (x y : Head) → Some x ≡ Some y → x ≡ y
    some_is x y e = cc

    at : (o : Option Head) → first_head heads (good_group n k heads) ≡ o → option_map (with_dirty (greatest_dirty heads (is_good n k heads))) o ≡ Some q → k ≤ count_below n (λ b. at_base (record { base = q.version.content; number = number }) (option_map (λ h. seen_head (Some h)) (heads b)))
    at None f g = absurd (cc)
    at (Some h) f g =
        let o = first_in n (is_good n k heads) heads h f in
        let same = some_is (with_dirty (greatest_dirty heads (is_good n k heads)) h) q g in
        let dirty = ap (λ (x : Head). x.dirty.content) same in
        subst (λ (v : ℕ). k ≤ count_below n (λ b. at_base (record { base = v; number = number }) (option_map (λ h. seen_head (Some h)) (heads b)))) (ap (λ (x : Head). x.version.content) same) (quorum_seen n k heads number most o.0 h o.3 o.2 (omega (arith, dirty, above)))
