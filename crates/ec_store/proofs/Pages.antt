-- The first names of a map in order are a page of it.
use Rattle.std.proofs.Common.{◌≡◌, ◌⊎◌, inl, inr, ℕ, ◌<◌, Bool, true, false, cond, ◌&&◌, nat_lt, Option, Some, None, List, [], ◌∷◌, ◌++◌, filter, length, length-append, take, append-nil, append_assoc, ◌≤◌, fold, refl, sym, ap, subst, ◌∙◌, arith}
use Rattle.std.proofs.lemmas.Bool.Decides.{nat_tests}
use Rattle.std.proofs.lemmas.List.{take-append-le, take_all}
use Rattle.std.specs.Ordering.{nat_cmp, is_eq, is_le, is_lt}
use Rattle.std.specs.declared.cmp.Ordering.{Ordering}
use Rattle.std.specs.declared.cmp.Ordering.TheVariants.{Less, Equal, Greater}
use Rattle.std.specs.Cmp.Lexicographic.{slice_cmp, nat_list_cmp_total}
use Rattle.std.specs.List.{AllByRecursion}
use Rattle.std.specs.List.Sorted.{IsStrictlySortedBy}
use Rattle.std.specs.BTreeMap.{BTreeMap, is_at, IsOrdered}
use Rattle.std.specs.BTreeMap.Range.{entries_between}
use Rattle.std.specs.Map.{keys_of}
use Rattle.std.specs.declared.ops.Bound.{Bound}
use Rattle.std.specs.declared.ops.Bound.TheVariants.{Unbounded}
use Rattle.ec_attr.specs.declared.kind.Child.{Child}
use Rattle.ec_store.specs.Records.{is_past, is_within, listed}
use Rattle.ec_store.specs.Pages.{Page, first_names, end_of, is_rising, IsPage, start_of}
use Rattle.ec_store.specs.Memory.{names_of}
use Rattle.ec_store.proofs.NameMaps.{same_at}

-- one more name, where there is room and it is past `after`
abbrev taking : Option (List ℕ) → Page → List ℕ × Child → Page
taking after page e = cond (nat_lt (length page) 64 && is_past after e.0) (page ++ e ∷ []) page

abbrev compare : List ℕ → List ℕ → Ordering
compare a b = slice_cmp nat_cmp a b

abbrev or_else : Option Child → Option Child → Option Child
or_else None b = b
or_else (Some a) b = Some a

or_none : (a : Option Child) → a ≡ or_else a None
or_none None = refl
or_none (Some a) = refl

or_assoc : (a b c : Option Child) → or_else (or_else a b) c ≡ or_else a (or_else b c)
or_assoc None b c = refl
or_assoc (Some a) b c = refl

find_last : (n : List ℕ) (xs : Page) (e : List ℕ × Child) → listed (xs ++ e ∷ []) n ≡ or_else (listed xs n) (listed (e ∷ []) n)
find_last n [] e = refl
find_last n (x ∷ xs) e = elim (is_at (compare n) x.0) as (λ b. cond b (Some x.1) (listed (xs ++ e ∷ []) n) ≡ or_else (cond b (Some x.1) (listed xs n)) (listed (e ∷ []) n)) [ true ↦ refl | false ↦ find_last n xs e ]

find_cons : (n : List ℕ) (e : List ℕ × Child) (es : Page) → or_else (listed (e ∷ []) n) (listed es n) ≡ listed (e ∷ es) n
find_cons n e es = elim (is_at (compare n) e.0) as (λ b. or_else (cond b (Some e.1) None) (listed es n) ≡ cond b (Some e.1) (listed es n)) [ true ↦ refl | false ↦ refl ]

full : (after : Option (List ℕ)) (page es : Page) → nat_lt (length page) 64 ≡ false → fold (taking after) page es ≡ page
full after page [] h = refl
full after page (e ∷ es) h = ap (λ t. fold (taking after) (cond (t && is_past after e.0) (page ++ e ∷ []) page) es) h ∙ full after page es h

end_last : (lo : Option (List ℕ)) (page : Page) (e : List ℕ × Child) → end_of lo (page ++ e ∷ []) ≡ Some e.0
end_last lo [] e = refl
end_last lo (x ∷ xs) e = end_last (Some x.0) xs e

end_some : (a : List ℕ) (xs : Page) → (l : List ℕ) × (end_of (Some a) xs ≡ Some l)
end_some a [] = (a, refl)
end_some a (x ∷ xs) = end_some x.0 xs

below_none : (l n : List ℕ) (es : Page) → ((y : List ℕ) → compare l y ≡ Less → compare n y ≡ Less) → AllByRecursion (λ y. compare l y ≡ Less) (keys_of es) → listed es n ≡ None
below_none l n [] stop all = refl
below_none l n (e ∷ es) stop all = ap (λ o. cond (is_eq o) (Some e.1) (listed es n)) (stop e.0 all.0) ∙ below_none l n es stop all.1

within_stop : (l n : List ℕ) (o : Ordering) → compare n l ≡ o → is_le o ≡ true → (y : List ℕ) → compare l y ≡ Less → compare n y ≡ Less
within_stop l n Less e w y h = nat_list_cmp_total.trans n l y e h
within_stop l n Equal e w y h = nat_list_cmp_total.congr n l y e ∙ h
within_stop l n Greater e w y h = cc

apart : (after : Option (List ℕ)) (n k : List ℕ) (b : Bool) → is_past after n ≡ true → is_past after k ≡ false → is_at (compare n) k ≡ b → b ≡ false
apart after n k true p q e = let same = same_at n k e in let r = subst (λ x. is_past after x ≡ true) same p in cc
apart after n k false p q e = refl

skipped : (after : Option (List ℕ)) (n : List ℕ) (e : List ℕ × Child) (es : Page) → is_past after n ≡ true → is_past after e.0 ≡ false → listed (e ∷ es) n ≡ listed es n
skipped after n e es p q = ap (λ b. cond b (Some e.1) (listed es n)) (apart after n e.0 (is_at (compare n) e.0) p q refl)

abbrev Reached : Option (List ℕ) → List ℕ → Page → Type 0
Reached after n page = (length page < 64) ⊎ (is_within (end_of after page) n ≡ true)

abbrev Above : Page → Page → Type 0
Above page es = (l : List ℕ) → end_of None page ≡ Some l → AllByRecursion (λ y. compare l y ≡ Less) (keys_of es)

stopped : (after : Option (List ℕ)) (n : List ℕ) (page es : Page) → nat_lt (length page) 64 ≡ false → Above page es → Reached after n page → listed page n ≡ or_else (listed page n) (listed es n)
stopped after n [] es f above w = cc
stopped after n (x ∷ xs) es f above (inl lt) = absurd (grind (arith, nat_tests))
stopped after n (x ∷ xs) es f above (inr w) = let l = end_some x.0 xs in let inside : is_within (Some l.0) n ≡ true = subst (λ o. is_within o n ≡ true) l.1 w in or_none (listed (x ∷ xs) n) ∙ ap (or_else (listed (x ∷ xs) n)) (sym (below_none l.0 n es (within_stop l.0 n (compare n l.0) refl inside) (above l.0 l.1)))

turn : (after : Option (List ℕ)) (n : List ℕ) (page : Page) (e : List ℕ × Child) (es : Page) → is_past after n ≡ true → Above page (e ∷ es) → (Reached after n (fold (taking after) (page ++ e ∷ []) es) → listed (fold (taking after) (page ++ e ∷ []) es) n ≡ or_else (listed (page ++ e ∷ []) n) (listed es n)) → (Reached after n (fold (taking after) page es) → listed (fold (taking after) page es) n ≡ or_else (listed page n) (listed es n)) → (t b : Bool) → nat_lt (length page) 64 ≡ t → is_past after e.0 ≡ b → Reached after n (fold (taking after) (cond (t && b) (page ++ e ∷ []) page) es) → listed (fold (taking after) (cond (t && b) (page ++ e ∷ []) page) es) n ≡ or_else (listed page n) (listed (e ∷ es) n)
turn after n page e es p above one two true true f g w = one w ∙ ap (λ o. or_else o (listed es n)) (find_last n page e) ∙ or_assoc (listed page n) (listed (e ∷ []) n) (listed es n) ∙ ap (or_else (listed page n)) (find_cons n e es)
turn after n page e es p above one two true false f g w = two w ∙ ap (or_else (listed page n)) (sym (skipped after n e es p g))
turn after n page e es p above one two false b f g w = let same = full after page es f in ap (λ x. listed x n) same ∙ stopped after n page (e ∷ es) f above (subst (Reached after n) same w)

shows_page : (after : Option (List ℕ)) (n : List ℕ) → is_past after n ≡ true → (page es : Page) → IsStrictlySortedBy (slice_cmp nat_cmp) (keys_of es) → Above page es → Reached after n (fold (taking after) page es) → listed (fold (taking after) page es) n ≡ or_else (listed page n) (listed es n)
unfolding IsStrictlySortedBy
shows_page after n p page [] s above w = or_none (listed page n)
shows_page after n p page (e ∷ es) s above w = turn after n page e es p above (shows_page after n p (page ++ e ∷ []) es s.1 (λ l is. subst (λ k. AllByRecursion (λ y. compare k y ≡ Less) (keys_of es)) (same_key e.0 l (sym (end_last None page e) ∙ is)) s.0)) (shows_page after n p page es s.1 (λ l is. (above l is).1)) (nat_lt (length page) 64) (is_past after e.0) refl refl w where
  same_key : (a b : List ℕ) → Some a ≡ Some b → a ≡ b
  same_key a b e = grind arith

take_front : (done es : Page) → nat_lt (length done) 64 ≡ false → take 64 (done ++ es) ≡ take 64 done
take_front done es x = take-append-le 64 done es (grind (arith, nat_tests))

-- taking one name after the other is taking the first
folded : (after : Option (List ℕ)) (done es : Page) → length done ≤ 64 → fold (taking after) done es ≡ take 64 (done ++ filter (λ e. is_past after e.0) es)
folded after done [] h = sym (ap (take 64) (append-nil done) ∙ take_all 64 done h)
folded after done (e ∷ es) h = go (nat_lt (length done) 64) (is_past after e.0) refl (folded after (done ++ e ∷ []) es) (folded after done es h) where
  go : (t b : Bool) → nat_lt (length done) 64 ≡ t → (length (done ++ e ∷ []) ≤ 64 → fold (taking after) (done ++ e ∷ []) es ≡ take 64 ((done ++ e ∷ []) ++ filter (λ e. is_past after e.0) es)) → fold (taking after) done es ≡ take 64 (done ++ filter (λ e. is_past after e.0) es) → fold (taking after) (cond (t && b) (done ++ e ∷ []) done) es ≡ take 64 (done ++ cond b (e ∷ filter (λ e. is_past after e.0) es) (filter (λ e. is_past after e.0) es))
  go true true x one two = one (let k = length-append done (e ∷ []) in grind (arith, nat_tests)) ∙ ap (take 64) (append_assoc done (e ∷ []) (filter (λ e. is_past after e.0) es))
  go true false x one two = two
  go false b x one two = full after done es x ∙ sym (take_front done _ x ∙ take_all 64 done h)

pub first_folded : (after : Option (List ℕ)) (es : Page) → fold (taking after) [] es ≡ first_names after es
first_folded after es = folded after [] es (omega arith)

-- the first names of a map are a page of it
pub first_names_page : (m : BTreeMap (List ℕ) Child) (after : Option (List ℕ)) → IsOrdered (slice_cmp nat_cmp) m → IsPage after (names_of m) (first_names after m.entries)
first_names_page m after s = subst (IsPage after (names_of m)) (first_folded after m.entries) record { shows = λ n p w. shows_page after n p [] m.entries s (λ l is. absurd (nothing l is)) w } where
  nothing : (l : List ℕ) → ◌≡◌ {A = Option (List ℕ)} None (Some l) → ⊥
  nothing l e = cc

few_turn : (after : Option (List ℕ)) (page : Page) (e : List ℕ × Child) (t b : Bool) → nat_lt (length page) 64 ≡ t → length page ≤ 64 → length (cond (t && b) (page ++ e ∷ []) page) ≤ 64
few_turn after page e true true f h = let k = length-append page (e ∷ []) in grind (arith, nat_tests)
few_turn after page e true false f h = h
few_turn after page e false b f h = h

pub few : (after : Option (List ℕ)) (page es : Page) → length page ≤ 64 → length (fold (taking after) page es) ≤ 64
few after page [] h = h
few after page (e ∷ es) h = few after (taking after page e) es (few_turn after page e (nat_lt (length page) 64) (is_past after e.0) refl h)

rising_last : (lo : Option (List ℕ)) (xs : Page) (e : List ℕ × Child) → is_rising lo xs ≡ true → is_past (end_of lo xs) e.0 ≡ true → is_rising lo (xs ++ e ∷ []) ≡ true
rising_last lo [] e r p = ap (λ b. b && true) p
rising_last lo (x ∷ xs) e r p = both_true (is_past lo x.0) (is_rising (Some x.0) xs) (is_rising (Some x.0) (xs ++ e ∷ [])) r (λ k. rising_last (Some x.0) xs e k p) where
  both_true : (a b c : Bool) → (a && b) ≡ true → (b ≡ true → c ≡ true) → (a && c) ≡ true
  both_true true b c r k = k r
  both_true false b c r k = r

next_past : (after : Option (List ℕ)) (page : Page) (e : List ℕ × Child) (es : Page) → Above page (e ∷ es) → is_past after e.0 ≡ true → is_past (end_of after page) e.0 ≡ true
next_past after [] e es above p = p
next_past after (x ∷ xs) e es above p = let l = end_some x.0 xs in subst (λ o. is_past o e.0 ≡ true) (sym l.1) (ap is_lt (above l.0 l.1).0)

rising_turn : (after : Option (List ℕ)) (page : Page) (e : List ℕ × Child) (es : Page) (t b : Bool) → is_past after e.0 ≡ b → Above page (e ∷ es) → is_rising after page ≡ true → is_rising after (cond (t && b) (page ++ e ∷ []) page) ≡ true
rising_turn after page e es true true g above r = rising_last after page e r (next_past after page e es above g)
rising_turn after page e es true false g above r = r
rising_turn after page e es false b g above r = r

above_turn : (page : Page) (e : List ℕ × Child) (es : Page) (t : Bool) → AllByRecursion (λ y. compare e.0 y ≡ Less) (keys_of es) → Above page (e ∷ es) → Above (cond t (page ++ e ∷ []) page) es
above_turn page e es true all above l is = let same : e.0 ≡ l = grind (arith, end_last None page e) in subst (λ k. AllByRecursion (λ y. compare k y ≡ Less) (keys_of es)) same all
above_turn page e es false all above l is = (above l is).1

pub rising : (after : Option (List ℕ)) (page es : Page) → IsStrictlySortedBy (slice_cmp nat_cmp) (keys_of es) → Above page es → is_rising after page ≡ true → is_rising after (fold (taking after) page es) ≡ true
unfolding IsStrictlySortedBy
rising after page [] s above r = r
rising after page (e ∷ es) s above r = rising after (taking after page e) es s.1 (above_turn page e es _ s.0 above) (rising_turn after page e es (nat_lt (length page) 64) (is_past after e.0) refl above r)

pub first_names_rise : (m : BTreeMap (List ℕ) Child) (after : Option (List ℕ)) → IsOrdered (slice_cmp nat_cmp) m → is_rising after (first_names after m.entries) ≡ true
first_names_rise m after s = sym (ap (is_rising after) (first_folded after m.entries)) ∙ rising after [] m.entries s (λ l is. absurd (nothing l is)) refl where
  nothing : (l : List ℕ) → ◌≡◌ {A = Option (List ℕ)} None (Some l) → ⊥
  nothing l e = cc

pub first_names_few : (m : BTreeMap (List ℕ) Child) (after : Option (List ℕ)) → length (first_names after m.entries) ≤ 64
first_names_few m after = subst (λ l. length l ≤ 64) (first_folded after m.entries) (few after [] m.entries (omega arith))

-- the names of a range past `after` are those that are past it
between_past : (after : Option (List ℕ)) (es : Page) → entries_between (slice_cmp nat_cmp) (start_of after) Unbounded es ≡ filter (λ e. is_past after e.0) es
between_past None es = refl
between_past (Some a) [] = refl
between_past (Some a) (e ∷ es) = λ i. cond (and_true (is_lt (compare a e.0)) i) (e ∷ between_past (Some a) es i) (between_past (Some a) es i) where
  and_true : (b : Bool) → (b && true) ≡ b
  and_true true = refl
  and_true false = refl

-- a list that ends where the range ends, or has 64 of its names, is the first of them
pub first_of_range : (after : Option (List ℕ)) (b : Bound (List ℕ)) (es range page rest : Page) → b ≡ start_of after → range ≡ entries_between (slice_cmp nat_cmp) b Unbounded es → page ++ rest ≡ range → length page ≤ 64 → (rest ≡ []) ⊎ (64 ≤ length page) → page ≡ first_names after es
first_of_range after b es range page rest s r e h w = first w ∙ ap (take 64) (e ∙ r ∙ ap (λ b. entries_between (slice_cmp nat_cmp) b Unbounded es) s ∙ between_past after es) where
  first : (rest ≡ []) ⊎ (64 ≤ length page) → page ≡ take 64 (page ++ rest)
  first (inl n) = sym (take_all 64 page h) ∙ ap (take 64) (sym (append-nil page) ∙ ap (λ r. page ++ r) (sym n))
  first (inr g) = sym (take_all 64 page h) ∙ sym (take-append-le 64 page rest g)
