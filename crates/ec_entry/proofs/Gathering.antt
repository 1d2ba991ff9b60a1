-- The names of pages are gathered in a map, and the least of the names where pages end is found.
use Rattle.std.proofs.Common.{◌≡◌, ◌⊎◌, inl, inr, ⊎_elim, ℕ, zero, suc, ◌+◌, ◌-◌, ◌<◌, ◌≤◌, ◌==◌, ◌&&◌, ◌||◌, Bool, true, false, cond, not, refl, sym, ◌∙◌, ap, subst, arith, Option, Some, None, List, [], ◌∷◌, ◌++◌, length, take, drop, drop-cons, get_or, add-one, eq-eqb}
use Rattle.std.specs.Prelude.{is_some, Result, Ok, Err, OnOk}
use Rattle.std.proofs.Math.Path.{fun_ext}
use Rattle.std.proofs.lemmas.List.{take_all, take_more}
use Rattle.std.proofs.lemmas.Bool.{and_parts, cases_eq}
use Rattle.std.proofs.lemmas.Cmp.{nat_list_cmp_total, tied_itself, upto}
use Rattle.std.specs.Cmp.Lexicographic.{slice_cmp}
use Rattle.std.specs.BTreeMap.{BTreeMap, IsOrdered, get, is_at}
use Rattle.std.specs.List.{AllByRecursion}
use Rattle.std.specs.List.Sorted.{IsStrictlySortedBy}
use Rattle.std.specs.Map.{keys_of, lookup, update}
use Rattle.std.specs.Ordering.{eq_by_cmp, is_eq, is_gt, is_le, is_lt, nat_cmp, ordering_reverse}
use Rattle.std.specs.declared.cmp.Ordering.{Ordering}
use Rattle.std.specs.declared.cmp.Ordering.TheVariants.{Less, Equal, Greater}
use Rattle.ec_attr.specs.Bricks.{count_below}
use Rattle.ec_attr.specs.declared.geometry.Geometry.{Geometry}
use Rattle.ec_attr.specs.declared.kind.Child.{Child}
use Rattle.ec_attr.proofs.Sets.{same_count}
use Rattle.ec_conduct.specs.Account.{Account}
use Rattle.ec_conduct.specs.Given.{Given, quorum_of}
use Rattle.ec_store.specs.Pages.{Page, end_of, is_rising}
use Rattle.ec_store.specs.Records.{is_inside, is_past, is_within, listed}
use Rattle.ec_store.proofs.NameMaps.{same_at}
use Rattle.ec_entry.specs.Named.{Value, count_of, same_value, says}
use Rattle.ec_entry.specs.Paging.{Entries, Entry, Gathers, GathersBelow, GathersOne, IsEntry, IsLeast, IsPart, IsUpto, count_paged, end_in, entry_at, full_end, is_listed, said_in, said_of}

abbrev compare : List ℕ → List ℕ → Ordering
compare a b = slice_cmp nat_cmp a b

no_some : {A : Type 0} (a : A) → None ≡ Some a → ⊥
no_some a e = cc

some_same : {A : Type 0} (a b : A) → Some a ≡ Some b → a ≡ b
some_same a b e = cc

-- one name more of a page

listed_last : (n : List ℕ) (done : Page) (e : List ℕ × Child) → is_some (listed (done ++ e ∷ []) n) ≡ true → (is_some (listed done n) ≡ true) ⊎ (n ≡ e.0)
listed_last n [] e t = inr (go (is_at (compare n) e.0) refl t)
  where
    go : (b : Bool) → is_at (compare n) e.0 ≡ b → is_some (cond b (Some e.1) None) ≡ true → n ≡ e.0
    go true u v = same_at n e.0 u
    go false u v = absurd (cc)
listed_last n (x ∷ xs) e t = go (is_at (compare n) x.0) t (listed_last n xs e)
  where
    go : (b : Bool) → is_some (cond b (Some x.1) (listed (xs ++ e ∷ []) n)) ≡ true → (is_some (listed (xs ++ e ∷ []) n) ≡ true → (is_some (listed xs n) ≡ true) ⊎ (n ≡ e.0)) → (is_some (cond b (Some x.1) (listed xs n)) ≡ true) ⊎ (n ≡ e.0)
    go true v more = inl refl
    go false v more = more v

module _ (k : ℕ) (pages : ℕ → Option Page) (after upto : Option (List ℕ)) where
  pub gathers_none : (old : List ℕ → Option Entry) → Gathers k pages after upto [] old old
  gathers_none old = record {
    some = λ n e h. inl h;
    kept = λ n h. h;
    none = λ n h i t. absurd (let u : false ≡ true = t in cc);
  }

  -- a name that isn't inside, or isn't there
  pub gathers_left : (done : Page) (e : List ℕ × Child) (old mid : List ℕ → Option Entry) → (is_inside after upto e.0 ≡ true → IsEntry k (said_of pages e.0) None) → Gathers k pages after upto done old mid → Gathers k pages after upto (done ++ e ∷ []) old mid
  gathers_left done e old mid left g = record {
    some = g.some;
    kept = g.kept;
    none = λ n h i t. ⊎_elim
        (λ u. g.none n h i u)
        (λ u. subst (λ (m : List ℕ). IsEntry k (said_of pages m) None) (sym u) (left (subst (λ (m : List ℕ). is_inside after upto m ≡ true) u i)))
        (listed_last n done e t);
  }

  -- a name that is listed
  pub gathers_more : (done : Page) (e : List ℕ × Child) (entry : Entry) (old mid new : List ℕ → Option Entry) → is_inside after upto e.0 ≡ true → IsEntry k (said_of pages e.0) (Some entry)
      → ((q : List ℕ) → new q ≡ update (eq_by_cmp (slice_cmp nat_cmp)) mid e.0 (Some entry) q) → Gathers k pages after upto done old mid → Gathers k pages after upto (done ++ e ∷ []) old new
  gathers_more done e entry old mid new inside is put g = record {
    some = λ n x h. some_at n x (is_eq (compare e.0 n)) refl (sym (put n) ∙ h);
    kept = λ n h. g.kept n (mid_none n h).1;
    none = λ n h i t. ⊎_elim
        (λ u. g.none n (mid_none n h).1 i u)
        (λ u. absurd (let v = (mid_none n h).0 in let w = ap is_eq (ap (compare e.0) u ∙ tied_itself nat_list_cmp_total e.0) in let z : false ≡ true = sym v ∙ w in cc))
        (listed_last n done e t);
  }
    where
      some_at : (n : List ℕ) (x : Entry) (b : Bool) → is_eq (compare e.0 n) ≡ b → cond b (Some entry) (mid n) ≡ Some x → (old n ≡ Some x) ⊎ ((is_inside after upto n ≡ true) × IsEntry k (said_of pages n) (Some x))
      some_at n x true u h =
          let same : e.0 ≡ n = same_at e.0 n u in
          inr (subst (λ (m : List ℕ). is_inside after upto m ≡ true) same inside, subst (λ (m : List ℕ). IsEntry k (said_of pages m) (Some x)) same (subst (λ (y : Entry). IsEntry k (said_of pages e.0) (Some y)) (some_same entry x h) is))
      some_at n x false u h = g.some n x h

      none_at : (n : List ℕ) (b : Bool) → is_eq (compare e.0 n) ≡ b → cond b (Some entry) (mid n) ≡ None → (is_eq (compare e.0 n) ≡ false) × (mid n ≡ None)
      none_at n true u h = absurd (no_some entry (sym h))
      none_at n false u h = (u, h)

      mid_none : (n : List ℕ) → new n ≡ None → (is_eq (compare e.0 n) ≡ false) × (mid n ≡ None)
      mid_none n h = none_at n (is_eq (compare e.0 n)) refl (sym (put n) ∙ h)

  pub gathers_step : (page : Page) (i : ℕ) (e : List ℕ × Child) (old mid new : List ℕ → Option Entry) → e ≡ get_or page i e → i < length page → GathersOne k pages after upto e.0 mid new → Gathers k pages after upto (take i page) old mid
      → Gathers k pages after upto (take (i + 1) page) old new
  gathers_step page i e old mid new is l one g = subst (λ (p : Page). Gathers k pages after upto p old new) (sym (take_more page i e l ∙ ap (λ (x : List ℕ × Child). take i page ++ x ∷ []) (sym is))) (⊎_elim
      (λ w. subst (λ (m : List ℕ → Option Entry). Gathers k pages after upto (take i page ++ e ∷ []) old m) (sym (fun_ext w.1)) (gathers_left (take i page) e old mid w.0 g))
      (λ w. gathers_more (take i page) e w.0 old mid new w.1 w.2 w.3 g)
      one)

  -- one brick's page more
  pub gathers_page : (b : ℕ) (page : Page) (old new : List ℕ → Option Entry) → pages b ≡ Some page → Gathers k pages after upto page old new → GathersBelow k b pages after upto old → GathersBelow k (b + 1) pages after upto new
  gathers_page b page old new is g below = record {
    some = λ n e h. ⊎_elim (λ u. below.some n e u) (λ u. u) (g.some n e h);
    none = λ n x l h i t. elim (cases_eq x b) [
      | inl u ↦ g.none n h i (ap (is_listed n) (sym is ∙ ap pages (sym u)) ∙ t)
      | inr u ↦ below.none n x (omega (arith, u)) (g.kept n h) i t
    ];
  }

  pub gathers_skip : (b : ℕ) (old : List ℕ → Option Entry) → pages b ≡ None → GathersBelow k b pages after upto old → GathersBelow k (b + 1) pages after upto old
  gathers_skip b old is below = record {
    some = below.some;
    none = λ n x l h i t. elim (cases_eq x b) [
      | inl u ↦ absurd (let v : false ≡ true = ap (is_listed n) (sym is ∙ ap pages (sym u)) ∙ t in cc)
      | inr u ↦ below.none n x (omega (arith, u)) h i t
    ];
  }

  pub gathers_start : (old : List ℕ → Option Entry) → ((n : List ℕ) → old n ≡ None) → GathersBelow k 0 pages after upto old
  gathers_start old empty = record {
    some = λ n e h. absurd (no_some e (sym (empty n) ∙ h));
    none = λ n x l h i t. absurd (omega arith);
  }

-- what is gathered of all bricks

seen_or_not : (b : ℕ) (n : List ℕ) (pages : ℕ → Option Page) → ((x : ℕ) × (x < b) × (is_listed n (pages x) ≡ true)) ⊎ ((x : ℕ) → x < b → is_listed n (pages x) ≡ false)
seen_or_not zero n pages = inr (λ x l. absurd (omega arith))
seen_or_not (suc b) n pages = go (is_listed n (pages b)) refl (seen_or_not b n pages)
  where
    go : (t : Bool) → is_listed n (pages b) ≡ t → ((x : ℕ) × (x < b) × (is_listed n (pages x) ≡ true)) ⊎ ((x : ℕ) → x < b → is_listed n (pages x) ≡ false) → ((x : ℕ) × (x < suc b) × (is_listed n (pages x) ≡ true)) ⊎ ((x : ℕ) → x < suc b → is_listed n (pages x) ≡ false)
    go true u w = inl (b, (omega arith), u)
    go false u (inl (x, l, t)) = inl (x, (omega arith), t)
    go false u (inr none) = inr (λ x l. elim (cases_eq x b) [
      | inl e ↦ ap (λ (y : ℕ). is_listed n (pages y)) e ∙ u
      | inr e ↦ none x (omega (arith, e))
    ])

none_there : (v : Value) → is_some v ≡ false → same_value None v ≡ true
none_there None e = refl
none_there (Some c) e = absurd (let w : true ≡ false = e in cc)

none_said : (n : List ℕ) (o : Option Page) → is_listed n o ≡ false → is_some o ≡ says None (said_in n o)
none_said n None e = refl
none_said n (Some page) e = sym (none_there (listed page n) e)

-- where no page has a name, all that replied say that it isn't there
all_none : (n : List ℕ) (pages : ℕ → Option Page) → ((x : ℕ) → x < 31 → is_listed n (pages x) ≡ false) → count_paged pages ≡ count_of (said_of pages n) None
all_none n pages h = same_count 31 (λ x. is_some (pages x)) (λ x. says None (said_of pages n x)) (λ x l. none_said n (pages x) (h x l))

rises_past : (a : List ℕ) (es : Entries) → AllByRecursion (λ y. compare a y ≡ Less) (keys_of es) → IsStrictlySortedBy (slice_cmp nat_cmp) (keys_of es) → is_rising (Some a) es ≡ true
unfolding IsStrictlySortedBy
rises_past a [] all s = refl
rises_past a (e ∷ es) all s = both (is_lt (compare a e.0)) (is_rising (Some e.0) es) (ap is_lt all.0) (rises_past e.0 es s.0 s.1)
  where
    both : (p q : Bool) → p ≡ true → q ≡ true → (p && q) ≡ true
    both true q e f = f
    both false q e f = absurd (cc)

rises_of : (after : Option (List ℕ)) (es : Entries) → ((n : List ℕ) (x : Entry) → entry_at es n ≡ Some x → is_past after n ≡ true) → IsStrictlySortedBy (slice_cmp nat_cmp) (keys_of es) → is_rising after es ≡ true
unfolding IsStrictlySortedBy
rises_of after [] past s = refl
rises_of after (e ∷ es) past s = both (is_past after e.0) (is_rising (Some e.0) es) (past e.0 e.1 (ap (λ o. cond (is_eq o) (Some e.1) (entry_at es e.0)) (tied_itself nat_list_cmp_total e.0))) (rises_past e.0 es s.0 s.1)
  where
    both : (p q : Bool) → p ≡ true → q ≡ true → (p && q) ≡ true
    both true q e f = f
    both false q e f = absurd (cc)

pub part_of : (k : ℕ) (pages : ℕ → Option Page) (after upto : Option (List ℕ)) (m : BTreeMap (List ℕ) Entry) → k ≤ count_paged pages → IsOrdered (slice_cmp nat_cmp) m → GathersBelow k 31 pages after upto (get (slice_cmp nat_cmp) m) → IsPart k pages after upto m.entries
part_of k pages after upto m enough s g = record {
  rises = rises_of after m.entries (λ n x h. (and_parts (is_past after n) (is_within upto n) (g.some n x h).0).0) s;
  each = λ n i. each n i (entry_at m.entries n) refl;
  none = λ n i. none n i (entry_at m.entries n) refl;
}
  where
    each : (n : List ℕ) → is_inside after upto n ≡ true → (o : Option Entry) → entry_at m.entries n ≡ o → IsEntry k (said_of pages n) o
    each n i (Some e) h = (g.some n e h).1
    each n i None h = ⊎_elim
        (λ w. g.none n w.0 w.1 h i w.2)
        (λ w. subst (λ (c : ℕ). k ≤ c) (all_none n pages w) enough)
        (seen_or_not 31 n pages)

    none : (n : List ℕ) → is_inside after upto n ≡ false → (o : Option Entry) → entry_at m.entries n ≡ o → o ≡ None
    none n i None h = refl
    none n i (Some e) h = absurd (let w = (g.some n e h).0 in let z : false ≡ true = sym i ∙ w in cc)

-- the least of the names where pages end

le_of : (o : Ordering) → is_le o ≡ true → is_gt o ≡ false
le_of Less e = refl
le_of Equal e = refl
le_of Greater e = absurd (cc)

of_gt : (o : Ordering) → is_gt o ≡ false → is_le o ≡ true
of_gt Less e = refl
of_gt Equal e = refl
of_gt Greater e = absurd (cc)

not_le : (o : Ordering) → is_le o ≡ false → is_le (ordering_reverse o) ≡ true
not_le Less e = absurd (cc)
not_le Equal e = absurd (cc)
not_le Greater e = refl

within_itself : (n : List ℕ) → is_within (Some n) n ≡ true
within_itself n = ap is_le (tied_itself nat_list_cmp_total n)

within_turned : (u n : List ℕ) → is_within (Some u) n ≡ false → is_within (Some n) u ≡ true
within_turned u n e = ap is_le (nat_list_cmp_total.antisymm u n) ∙ not_le (compare n u) e

-- n is not past u, and u is not past m
within_more : (n u m : List ℕ) → is_within (Some u) n ≡ true → is_within (Some m) u ≡ true → is_within (Some m) n ≡ true
within_more n u m a b = of_gt (compare n m) (upto nat_list_cmp_total n u m (le_of (compare n u) a) (le_of (compare u m) b))

module _ (b : ℕ) (ends : ℕ → Option (List ℕ)) where
  pub least_skip : (u : Option (List ℕ)) → ends b ≡ None → IsLeast b ends u → IsLeast (b + 1) ends u
  least_skip None e w = λ x l. elim (cases_eq x b) [
    | inl t ↦ ap ends t ∙ e
    | inr t ↦ w x (omega (arith, t))
  ]
  least_skip (Some u) e w = (
    (w.0.0, (let l = w.0.1 in omega (arith, l)), w.0.2),
    λ x n l h. elim (cases_eq x b) [
      | inl t ↦ absurd (no_some n (sym e ∙ (ap ends (sym t) ∙ h)))
      | inr t ↦ w.1 x n (omega (arith, t)) h
    ],
  )

  pub least_keep : (u : Option (List ℕ)) (n : List ℕ) → ends b ≡ Some n → is_within u n ≡ false → IsLeast b ends u → IsLeast (b + 1) ends u
  least_keep None n e f w = absurd (let z : true ≡ false = f in cc)
  least_keep (Some u) n e f w = (
    (w.0.0, (let l = w.0.1 in omega (arith, l)), w.0.2),
    λ x m l h. elim (cases_eq x b) [
      | inl t ↦ subst (λ (z : List ℕ). is_within (Some z) u ≡ true) (some_same n m (sym e ∙ (ap ends (sym t) ∙ h))) (within_turned u n f)
      | inr t ↦ w.1 x m (omega (arith, t)) h
    ],
  )

  others : (u : Option (List ℕ)) (n : List ℕ) → is_within u n ≡ true → IsLeast b ends u → (x : ℕ) (m : List ℕ) → x < b → ends x ≡ Some m → is_within (Some m) n ≡ true
  others None n f w x m l h = absurd (no_some m (sym (w x l) ∙ h))
  others (Some u) n f w x m l h = within_more n u m f (w.1 x m l h)

  pub least_take : (u : Option (List ℕ)) (n : List ℕ) → ends b ≡ Some n → is_within u n ≡ true → IsLeast b ends u → IsLeast (b + 1) ends (Some n)
  least_take u n e f w = (
    (b, (omega arith), e),
    λ x m l h. elim (cases_eq x b) [
      | inl t ↦ subst (λ (z : List ℕ). is_within (Some z) n ≡ true) (some_same n m (sym e ∙ (ap ends (sym t) ∙ h))) (within_itself n)
      | inr t ↦ others u n f w x m (omega (arith, t)) h
    ],
  )

-- the last name of a page

pub end_last : (lo : Option (List ℕ)) (page : Page) (e : List ℕ × Child) → end_of lo (page ++ e ∷ []) ≡ Some e.0
end_last lo [] e = refl
end_last lo (x ∷ xs) e = end_last (Some x.0) xs e

pub last_of_full : (page : Page) (i : ℕ) (e : List ℕ × Child) → length page ≡ 64 → e ≡ get_or page i e → i + 1 ≡ length page → full_end page ≡ Some e.0
last_of_full page i e full is last =
    let whole : page ≡ take i page ++ e ∷ [] = sym (take_all (i + 1) page (omega (arith, last))) ∙ (take_more page i e (omega (arith, last)) ∙ ap (λ (x : List ℕ × Child). take i page ++ x ∷ []) (sym is)) in
    let t : (length page == 64) ≡ true = eq-eqb (length page) 64 full in
    ap (λ (b : Bool). cond b (end_of None page) None) t ∙ (ap (end_of None) whole ∙ end_last None (take i page) e)

-- what is left of a page

pub listed_left : (page : Page) (i : ℕ) (n : List ℕ) (e : List ℕ × Child) → e ≡ get_or page i e → i < length page → listed (drop i page) n ≡ cond (is_eq (compare n e.0)) (Some e.1) (listed (drop (i + 1) page) n)
listed_left page i n e is l =
    let w : drop i page ≡ e ∷ drop (suc i) page = drop-cons page i e l ∙ ap (λ (x : List ℕ × Child). x ∷ drop (suc i) page) (sym is) in
    rw add-one (ap (λ (es : Page). listed es n) w)

-- two facts where a call went well
pub on_both : {T E : Type 0} (r : Result T E) (P Q R : Type 0) → (P → Q → R) → OnOk r P → OnOk r Q → OnOk r R
on_both (Ok x) P Q R f p q = f p q
on_both (Err e) P Q R f p q = tt
