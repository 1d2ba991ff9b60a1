-- A page of names in order: what it shows past the names before it.
use Rattle.std.proofs.Common.{◌≡◌, ◌⊎◌, inl, inr, ℕ, ◌<◌, Bool, true, false, cond, ◌&&◌, nat_lt, Option, Some, None, List, [], ◌∷◌, length, refl, sym, ap, subst, ◌∙◌, arith}
use Rattle.std.proofs.lemmas.Bool.Decides.{nat_tests}
use Rattle.std.proofs.lemmas.Cmp.{tied_itself, alike_right}
use Rattle.std.specs.Ordering.{nat_cmp, is_eq, is_le, is_lt, ordering_reverse}
use Rattle.std.specs.declared.cmp.Ordering.{Ordering}
use Rattle.std.specs.declared.cmp.Ordering.TheVariants.{Less, Equal, Greater}
use Rattle.std.specs.Cmp.Lexicographic.{slice_cmp, nat_list_cmp_total}
use Rattle.std.specs.List.{AllByRecursion}
use Rattle.ec_attr.specs.declared.kind.Child.{Child}
use Rattle.ec_store.specs.Records.{is_past, is_within, listed}
use Rattle.ec_store.specs.Pages.{Page, end_of, is_rising, IsPage}
use Rattle.ec_brick.specs.Walk.{next_page, passed, reached}

abbrev compare : List ℕ → List ℕ → Ordering
compare a b = slice_cmp nat_cmp a b

pub less_of : (o : Ordering) → is_lt o ≡ true → o ≡ Less
less_of Less e = refl
less_of Equal e = cc
less_of Greater e = cc

-- a name past one that is past another
past_past : (lo : Option (List ℕ)) (a b : List ℕ) → is_past lo a ≡ true → compare a b ≡ Less → is_past lo b ≡ true
past_past None a b p e = refl
past_past (Some l) a b p e = ap is_lt (nat_list_cmp_total.trans l a b (less_of (compare l a) p) e)

-- a name is either past another or not past it
not_past : (l n : List ℕ) → is_lt (compare l n) ≡ false → is_le (compare n l) ≡ true
not_past l n e = ap is_le (nat_list_cmp_total.antisymm n l) ∙ turned (compare l n) e where
  turned : (o : Ordering) → is_lt o ≡ false → is_le (ordering_reverse o) ≡ true
  turned Less e = sym e
  turned Equal e = refl
  turned Greater e = refl

within_not : (l n : List ℕ) → is_le (compare n l) ≡ true → is_lt (compare l n) ≡ false
within_not l n e = ap is_lt (nat_list_cmp_total.antisymm l n) ∙ turned (compare n l) e where
  turned : (o : Ordering) → is_le o ≡ true → is_lt (ordering_reverse o) ≡ false
  turned Less e = refl
  turned Equal e = refl
  turned Greater e = sym e

false_true : false ≡ true → ⊥
false_true e = cc

pub both : (a b : Bool) → (a && b) ≡ true → (a ≡ true) × (b ≡ true)
both true b e = (refl, e)
both false b e = absurd (false_true e)

-- all of a rising page are past where it begins
pub past_all : (lo : Option (List ℕ)) (page : Page) → is_rising lo page ≡ true → AllByRecursion (λ (e : List ℕ × Child). is_past lo e.0 ≡ true) page
past_all lo [] r = tt
past_all lo (e ∷ es) r = let b = both (is_past lo e.0) (is_rising (Some e.0) es) r in (b.0, lift es (past_all (Some e.0) es b.1)) where
  lift : (xs : Page) → AllByRecursion (λ (x : List ℕ × Child). is_past (Some e.0) x.0 ≡ true) xs → AllByRecursion (λ (x : List ℕ × Child). is_past lo x.0 ≡ true) xs
  lift [] all = tt
  lift (x ∷ xs) all = (past_past lo e.0 x.0 (both (is_past lo e.0) (is_rising (Some e.0) es) r).0 (less_of (compare e.0 x.0) all.0), lift xs all.1)

-- what is within a bound is so for each name not past it
within_le : (o : Option (List ℕ)) (n a : List ℕ) → is_le (compare n a) ≡ true → is_within o a ≡ true → is_within o n ≡ true
within_le None n a e w = refl
within_le (Some l) n a e w = at (compare n a) (compare a l) refl refl e w where
  at : (p q : Ordering) → compare n a ≡ p → compare a l ≡ q → is_le p ≡ true → is_le q ≡ true → is_le (compare n l) ≡ true
  at Equal q f g d w = ap is_le (nat_list_cmp_total.congr n a l f ∙ g) ∙ w
  at Less Less f g d w = ap is_le (nat_list_cmp_total.trans n a l f g)
  at Less Equal f g d w = ap is_le (sym (alike_right nat_list_cmp_total a l n g) ∙ f)
  at Less Greater f g d w = absurd (false_true w)
  at Greater q f g d w = absurd (false_true d)

le_itself : (a : List ℕ) → is_le (compare a a) ≡ true
le_itself a = ap is_le (tied_itself nat_list_cmp_total a)

-- where a page ends, and all before it
last_within : (a : List ℕ) (page : Page) → is_rising (Some a) page ≡ true → is_within (end_of (Some a) page) a ≡ true
last_within a [] r = le_itself a
last_within a (x ∷ xs) r = let b = both (is_past (Some a) x.0) (is_rising (Some x.0) xs) r in within_le (end_of (Some x.0) xs) a x.0 (ap is_le (less_of (compare a x.0) b.0)) (last_within x.0 xs b.1)

within_all : (lo : Option (List ℕ)) (page : Page) → is_rising lo page ≡ true → AllByRecursion (λ (e : List ℕ × Child). is_within (end_of lo page) e.0 ≡ true) page
within_all lo [] r = tt
within_all lo (e ∷ es) r = let b = both (is_past lo e.0) (is_rising (Some e.0) es) r in (last_within e.0 es b.1, within_all (Some e.0) es b.1)

past_le : (lo : Option (List ℕ)) (a l : List ℕ) → is_past lo a ≡ true → is_le (compare a l) ≡ true → is_past lo l ≡ true
past_le lo a l p w = at (compare a l) refl w where
  at : (o : Ordering) → compare a l ≡ o → is_le o ≡ true → is_past lo l ≡ true
  at Less e w = past_past lo a l p e
  at Equal e w = tied lo p where
    tied : (lo : Option (List ℕ)) → is_past lo a ≡ true → is_past lo l ≡ true
    tied None p = refl
    tied (Some k) p = ap is_lt (sym (alike_right nat_list_cmp_total a l k e)) ∙ p
  at Greater e w = absurd (false_true w)

-- the names of a rising page are apart, so each shows its own child
listed_all : (lo : Option (List ℕ)) (page : Page) → is_rising lo page ≡ true → AllByRecursion (λ (e : List ℕ × Child). listed page e.0 ≡ Some e.1) page
listed_all lo [] r = tt
listed_all lo (e ∷ es) r = let b = both (is_past lo e.0) (is_rising (Some e.0) es) r in (ap (λ o. cond (is_eq o) (Some e.1) (listed es e.0)) (tied_itself nat_list_cmp_total e.0), lift es (past_all (Some e.0) es b.1) (listed_all (Some e.0) es b.1)) where
  lift : (xs : Page) → AllByRecursion (λ (x : List ℕ × Child). is_past (Some e.0) x.0 ≡ true) xs → AllByRecursion (λ (x : List ℕ × Child). listed es x.0 ≡ Some x.1) xs → AllByRecursion (λ (x : List ℕ × Child). listed (e ∷ es) x.0 ≡ Some x.1) xs
  lift [] past all = tt
  lift (x ∷ xs) past all = (ap (λ o. cond (is_eq o) (Some e.1) (listed es x.0)) (nat_list_cmp_total.antisymm x.0 e.0 ∙ ap ordering_reverse (less_of (compare e.0 x.0) past.0)) ∙ all.0, lift xs past.1 all.1)

all_three : (P Q R S : List ℕ × Child → Type 0) → ((e : List ℕ × Child) → P e → Q e → R e → S e) → (xs : Page) → AllByRecursion P xs → AllByRecursion Q xs → AllByRecursion R xs → AllByRecursion S xs
all_three P Q R S f [] p q r = tt
all_three P Q R S f (x ∷ xs) p q r = (f x p.0 q.0 r.0, all_three P Q R S f xs p.1 q.1 r.1)

-- what a page adds to the names before it
pub record Extends (old new : List ℕ → Option Child) (page : List (List ℕ × Child)) : Type 0 where
  pub kept : (n : List ℕ) (c : Child) → old n ≡ Some c → new n ≡ Some c
  pub all : (n : List ℕ) (c : Child) → new n ≡ Some c → (old n ≡ Some c) ⊎ (listed page n ≡ Some c)
  pub shown : AllByRecursion (λ (e : List ℕ × Child). new e.0 ≡ Some e.1) page

passed_some : (b : Bool) (o : Option Child) (c : Child) → cond b None o ≡ Some c → (b ≡ false) × (o ≡ Some c)
passed_some true o c e = absurd (no_child e) where
  no_child : ◌≡◌ {A = Option Child} None (Some c) → ⊥
  no_child e = cc
passed_some false o c e = (refl, e)

bool_cases : (b : Bool) → (b ≡ true) ⊎ (b ≡ false)
bool_cases true = inl refl
bool_cases false = inr refl

-- a page that isn't full shows all names that are left
extends_all : (after : Option (List ℕ)) (names : List ℕ → Option Child) (page : Page) → IsPage after names page → is_rising after page ≡ true → length page < 64 → Extends (passed after names) names page
extends_all after names page is r lt = record {
  kept = λ n c e. (passed_some (is_past after n) (names n) c e).1;
  all = λ n c e. elim (bool_cases (is_past after n)) [ inl p ↦ inr (is.shows n p (inl lt) ∙ e) | inr p ↦ inl (ap (λ b. cond b None (names n)) p ∙ e) ];
  shown = all_three (λ e. is_past after e.0 ≡ true) (λ e. listed page e.0 ≡ Some e.1) (λ e. listed page e.0 ≡ Some e.1) (λ e. names e.0 ≡ Some e.1) (λ e p l _. sym (is.shows e.0 p (inl lt)) ∙ l) page (past_all after page r) (listed_all after page r) (listed_all after page r);
}

-- a full page shows those up to its last
extends_upto : (after : Option (List ℕ)) (names : List ℕ → Option Child) (page : Page) (l : List ℕ) → IsPage after names page → is_rising after page ≡ true → end_of after page ≡ Some l → Extends (passed after names) (passed (Some l) names) page
extends_upto after names page l is r end = record {
  kept = λ n c e. let s = passed_some (is_past after n) (names n) c e in ap (λ b. cond b None (names n)) (before_end after n end r s.0) ∙ s.1;
  all = λ n c e. let s = passed_some (is_past (Some l) n) (names n) c e in elim (bool_cases (is_past after n)) [ inl p ↦ inr (is.shows n p (inr (subst (λ o. is_within o n ≡ true) (sym end) (not_past l n s.0))) ∙ s.1) | inr p ↦ inl (ap (λ b. cond b None (names n)) p ∙ s.1) ];
  shown = all_three (λ e. is_past after e.0 ≡ true) (λ e. is_within (end_of after page) e.0 ≡ true) (λ e. listed page e.0 ≡ Some e.1) (λ e. passed (Some l) names e.0 ≡ Some e.1) (λ e p w k. ap (λ b. cond b None (names e.0)) (within_not l e.0 (subst (λ o. is_within o e.0 ≡ true) end w)) ∙ sym (is.shows e.0 p (inr w)) ∙ k) page (past_all after page r) (within_all after page r) (listed_all after page r);
} where
  before_end : (after : Option (List ℕ)) (n : List ℕ) → end_of after page ≡ Some l → is_rising after page ≡ true → is_past after n ≡ false → is_past (Some l) n ≡ false
  before_end None n end r p = absurd (true_false p) where
    true_false : true ≡ false → ⊥
    true_false e = cc
  before_end (Some a) n end r p = within_not l n (within_le (Some l) n a (not_past a n p) (subst (λ o. is_within o a ≡ true) end (last_within a page r)))

end_some : (a : List ℕ) (xs : Page) → (l : List ℕ) × (end_of (Some a) xs ≡ Some l)
end_some a [] = (a, refl)
end_some a (x ∷ xs) = end_some x.0 xs

full_end : (after : Option (List ℕ)) (page : Page) → nat_lt (length page) 64 ≡ false → (l : List ℕ) × (end_of after page ≡ Some l)
full_end after [] f = absurd (no_room f) where
  no_room : nat_lt 0 64 ≡ false → ⊥
  no_room e = cc
full_end after (x ∷ xs) f = end_some x.0 xs

pub extends : (after : Option (List ℕ)) (names : List ℕ → Option Child) (page : Page) → IsPage after names page → is_rising after page ≡ true → Extends (passed after names) (reached (next_page after page) names) page
extends after names page is r = at (nat_lt (length page) 64) refl where
  at : (b : Bool) → nat_lt (length page) 64 ≡ b → Extends (passed after names) (reached (cond b None (end_of after page)) names) page
  at true e = extends_all after names page is r (grind (arith, nat_tests))
  at false e = let l = full_end after page e in subst (λ o. Extends (passed after names) (reached o names) page) (sym l.1) (extends_upto after names page l.0 is r l.1)

-- the next page begins past where this one does
pub end_past : (after : Option (List ℕ)) (page : Page) (l : List ℕ) → is_rising after page ≡ true → next_page after page ≡ Some l → is_past after l ≡ true
end_past after page l r e = at (nat_lt (length page) 64) page refl r e where
  at : (b : Bool) (page : Page) → nat_lt (length page) 64 ≡ b → is_rising after page ≡ true → cond b None (end_of after page) ≡ Some l → is_past after l ≡ true
  at true page f r e = absurd (no_name e) where
    no_name : ◌≡◌ {A = Option (List ℕ)} None (Some l) → ⊥
    no_name e = cc
  at false [] f r e = absurd (no_room f) where
    no_room : nat_lt 0 64 ≡ false → ⊥
    no_room e = cc
  at false (x ∷ xs) f r e = let b = both (is_past after x.0) (is_rising (Some x.0) xs) r in past_le after x.0 l b.0 (subst (λ o. is_within o x.0 ≡ true) e (last_within x.0 xs b.1))
