-- Names in order, and lists of them one after another.
use Rattle.std.proofs.Common.{◌≡◌, ◌&&◌, Bool, true, false, cond, refl, sym, ◌∙◌, ap, subst, List, [], ◌∷◌, ◌++◌, Option, Some, None, ℕ}
use Rattle.std.proofs.lemmas.Bool.{and_parts}
use Rattle.std.proofs.lemmas.Cmp.{nat_list_cmp_total, tied_itself, upto}
use Rattle.std.specs.BTreeMap.{is_at}
use Rattle.std.specs.Cmp.Lexicographic.{slice_cmp}
use Rattle.std.specs.Map.{lookup}
use Rattle.std.specs.Ordering.{is_eq, is_gt, is_le, is_lt, nat_cmp, ordering_reverse}
use Rattle.std.specs.declared.cmp.Ordering.{Ordering}
use Rattle.std.specs.declared.cmp.Ordering.TheVariants.{Less, Equal, Greater}
use Rattle.ec_entry.specs.Paging.{Entries, Entry, entry_at}
use Rattle.ec_store.specs.Pages.{Page, end_of, is_rising}
use Rattle.ec_store.specs.Records.{is_past, is_within}

abbrev compare : List ℕ → List ℕ → Ordering
compare a b = slice_cmp nat_cmp a b

-- ## Two names

not_gt : (o : Ordering) → is_le o ≡ true → is_gt o ≡ false
not_gt Less e = refl
not_gt Equal e = refl
not_gt Greater e = absurd (cc)

le_of : (o : Ordering) → is_gt o ≡ false → is_le o ≡ true
le_of Less e = refl
le_of Equal e = refl
le_of Greater e = absurd (cc)

le_turned : (o : Ordering) → is_lt o ≡ false → is_le (ordering_reverse o) ≡ true
le_turned Less e = absurd (cc)
le_turned Equal e = refl
le_turned Greater e = refl

gt_turned : (o : Ordering) → is_lt o ≡ true → is_le (ordering_reverse o) ≡ false
gt_turned Less e = refl
gt_turned Equal e = absurd (cc)
gt_turned Greater e = absurd (cc)

lt_or : (o : Ordering) → is_le (ordering_reverse o) ≡ false → is_lt o ≡ true
lt_or Less e = refl
lt_or Equal e = absurd (cc)
lt_or Greater e = absurd (cc)

-- a name that isn't past another is within it, and no other is
pub within_of : (u n : List ℕ) → is_past (Some u) n ≡ false → is_within (Some u) n ≡ true
within_of u n e = ap is_le (nat_list_cmp_total.antisymm n u) ∙ le_turned (compare u n) e

pub not_within : (u n : List ℕ) → is_past (Some u) n ≡ true → is_within (Some u) n ≡ false
not_within u n e = ap is_le (nat_list_cmp_total.antisymm n u) ∙ gt_turned (compare u n) e

past_of : (u n : List ℕ) → is_within (Some u) n ≡ false → is_past (Some u) n ≡ true
past_of u n e = lt_or (compare u n) (sym (ap is_le (nat_list_cmp_total.antisymm n u)) ∙ e)

-- n is not past u, and u is not past m
pub within_more : (n u m : List ℕ) → is_within (Some u) n ≡ true → is_within (Some m) u ≡ true → is_within (Some m) n ≡ true
within_more n u m a b = le_of (compare n m) (upto nat_list_cmp_total n u m (not_gt (compare n u) a) (not_gt (compare u m) b))

not_both : (t : Bool) → t ≡ true → t ≡ false → ⊥
not_both true e f = absurd (cc)
not_both false e f = absurd (cc)

-- what is past the greater is past the lesser
pub past_more : (a p n : List ℕ) → is_within (Some p) a ≡ true → is_past (Some p) n ≡ true → is_past (Some a) n ≡ true
past_more a p n le l = by (is_past (Some a) n) refl
  where
    by : (t : Bool) → is_past (Some a) n ≡ t → is_past (Some a) n ≡ true
    by true e = e
    by false e = absurd (not_both (is_within (Some p) n) (within_more n a p (within_of a n e) le) (not_within p n l))

-- past a name that is past another
pub past_past : (after : Option (List ℕ)) (u n : List ℕ) → is_past after u ≡ true → is_past (Some u) n ≡ true → is_past after n ≡ true
past_past None u n a l = refl
past_past (Some a) u n e l = past_more a u n (by (is_past (Some u) a) refl) l
  where
    by : (t : Bool) → is_past (Some u) a ≡ t → is_within (Some u) a ≡ true
    by true w = absurd (not_both (is_within (Some u) a) (ap is_le (less_is (compare a u) e)) (not_within u a w))
      where
        less_is : (o : Ordering) → is_lt o ≡ true → o ≡ Less
        less_is Less e = refl
        less_is Equal e = absurd (cc)
        less_is Greater e = absurd (cc)
    by false w = within_of u a w

-- ## The last name of a page

none_some : (u : List ℕ) → None ≡ Some u → ⊥
none_some u e = cc

some_same : (a b : List ℕ) → Some a ≡ Some b → a ≡ b
some_same a b e = cc

last_past : (after : Option (List ℕ)) (e : List ℕ) (page : Page) (u : List ℕ) → is_past after e ≡ true → is_rising (Some e) page ≡ true → end_of (Some e) page ≡ Some u → is_past after u ≡ true
last_past after e [] u p r is = subst (λ (n : List ℕ). is_past after n ≡ true) (some_same e u is) p
last_past after e (f ∷ page) u p r is =
    let w = and_parts (is_past (Some e) f.0) (is_rising (Some f.0) page) r in
    last_past after f.0 page u (past_past after e f.0 p w.0) w.1 is

pub end_past : (after : Option (List ℕ)) (page : Page) (u : List ℕ) → is_rising after page ≡ true → end_of None page ≡ Some u → is_past after u ≡ true
end_past after [] u r is = absurd (none_some u is)
end_past after (e ∷ page) u r is = let w = and_parts (is_past after e.0) (is_rising (Some e.0) page) r in last_past after e.0 page u w.0 w.1 is

-- ## One list after another

lists_some : (test : List ℕ → Bool) (xs ys : Entries) (e : Entry) → lookup test xs ≡ Some e → lookup test (xs ++ ys) ≡ Some e
lists_some test [] ys e is = absurd (no_entry e is)
  where
    no_entry : (e : Entry) → ◌≡◌ {A = Option Entry} None (Some e) → ⊥
    no_entry e v = cc
lists_some test (x ∷ xs) ys e is = by (test x.0) (λ v. lists_some test xs ys e v) is
  where
    by : (t : Bool) → (lookup test xs ≡ Some e → lookup test (xs ++ ys) ≡ Some e) → cond t (Some x.1) (lookup test xs) ≡ Some e → cond t (Some x.1) (lookup test (xs ++ ys)) ≡ Some e
    by true more v = v
    by false more v = more v

lists_none : (test : List ℕ → Bool) (xs ys : Entries) → lookup test xs ≡ None → lookup test (xs ++ ys) ≡ lookup test ys
lists_none test [] ys is = refl
lists_none test (x ∷ xs) ys is = by (test x.0) (λ v. lists_none test xs ys v) is
  where
    some_none : (e : Entry) → ◌≡◌ {A = Option Entry} (Some e) None → ⊥
    some_none e v = cc

    by : (t : Bool) → (lookup test xs ≡ None → lookup test (xs ++ ys) ≡ lookup test ys) → cond t (Some x.1) (lookup test xs) ≡ None → cond t (Some x.1) (lookup test (xs ++ ys)) ≡ lookup test ys
    by true more v = absurd (some_none x.1 v)
    by false more v = more v

-- the first of two lists that has an entry gives it
pub entry_first : (xs ys : Entries) (n : List ℕ) (e : Entry) → entry_at xs n ≡ Some e → entry_at (xs ++ ys) n ≡ Some e
entry_first xs ys n e is = lists_some (is_at (slice_cmp nat_cmp n)) xs ys e is

pub entry_second : (xs ys : Entries) (n : List ℕ) → entry_at xs n ≡ None → entry_at (xs ++ ys) n ≡ entry_at ys n
entry_second xs ys n is = lists_none (is_at (slice_cmp nat_cmp n)) xs ys is

-- no entry has the first name but the first
first_entry : (x : List ℕ × Entry) (xs : Entries) → entry_at (x ∷ xs) x.0 ≡ Some x.1
first_entry x xs = ap (λ (t : Bool). cond t (Some x.1) (lookup (is_at (slice_cmp nat_cmp x.0)) xs)) (ap is_eq (tied_itself nat_list_cmp_total x.0))

later_none : (x : List ℕ × Entry) (xs : Entries) (n : List ℕ) → entry_at (x ∷ xs) n ≡ None → entry_at xs n ≡ None
later_none x xs n is = by (is_at (slice_cmp nat_cmp n) x.0) is
  where
    some_none : (e : Entry) → ◌≡◌ {A = Option Entry} (Some e) None → ⊥
    some_none e v = cc

    by : (t : Bool) → cond t (Some x.1) (entry_at xs n) ≡ None → entry_at xs n ≡ None
    by true v = absurd (some_none x.1 v)
    by false v = v

and_both : (a b : Bool) → a ≡ true → b ≡ true → (a && b) ≡ true
and_both true true e f = refl
and_both true false e f = f
and_both false b e f = e

-- A list of names that aren't past one, and then a list of names past it, are in order.
pub rising_on : (lo past : Option (List ℕ)) (xs ys : Entries) → is_rising lo xs ≡ true → ((n : List ℕ) → is_past past n ≡ true → is_past lo n ≡ true) → ((n : List ℕ) → is_past past n ≡ true → entry_at xs n ≡ None) → is_rising past ys ≡ true → is_rising lo (xs ++ ys) ≡ true
rising_on lo past [] [] r later none q = refl
rising_on lo past [] (y ∷ ys) r later none q = let w = and_parts (is_past past y.0) (is_rising (Some y.0) ys) q in and_both (is_past lo y.0) (is_rising (Some y.0) ys) (later y.0 w.0) w.1
rising_on lo past (x ∷ xs) ys r later none q =
    let w = and_parts (is_past lo x.0) (is_rising (Some x.0) xs) r in
    and_both (is_past lo x.0) (is_rising (Some x.0) (xs ++ ys)) w.0 (rising_on (Some x.0) past xs ys w.1 (by past (is_past past x.0) refl none) (λ n p. later_none x xs n (none n p)) q)
  where
    none_entry : (e : Entry) → ◌≡◌ {A = Option Entry} None (Some e) → ⊥
    none_entry e v = cc

    by : (o : Option (List ℕ)) (t : Bool) → is_past o x.0 ≡ t → ((n : List ℕ) → is_past o n ≡ true → entry_at (x ∷ xs) n ≡ None) → (n : List ℕ) → is_past o n ≡ true → is_past (Some x.0) n ≡ true
    by o true e none n p = absurd (none_entry x.1 (sym (none x.0 e) ∙ first_entry x xs))
    by None false e none n p = absurd (let v : true ≡ false = e in cc)
    by (Some m) false e none n p = past_more x.0 m n (within_of m x.0 e) p
