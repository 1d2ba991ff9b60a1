-- The laws of lock tables.
use Rattle.std.proofs.Common.{◌≡◌, ◌⊎◌, inl, inr, ℕ, Bool, true, false, not, ◌&&◌, ◌||◌, List, [], ◌∷◌, ◌++◌, cond, filter, refl, sym, ◌∙◌, ap, append-nil, arith}
use Rattle.std.proofs.lemmas.Bool.Decides.{nat_tests}
use Rattle.std.proofs.lemmas.List.Elements.{filter-append}
use Rattle.std.specs.List.{list_any}
use Rattle.ec_attr.specs.declared.gfid.Gfid.{Gfid}
use Rattle.ec_attr.specs.declared.kind.Domain.{Domain}
use Rattle.ec_attr.specs.declared.kind.Domain.TheVariants.{Inode, Heal}
use Rattle.ec_attr.specs.declared.kind.LockKind.{LockKind}
use Rattle.ec_attr.specs.declared.kind.LockKind.TheVariants.{Exclusive}
use Rattle.ec_locks.specs.declared.ask.Ask.{Ask}
use Rattle.ec_locks.specs.declared.ask.Leaving.{Leaving}
use Rattle.ec_locks.specs.Table.{same_domain, is_exclusive, conflicts, free, some_grant, covers, holds, leaves, let_in, stays}
use Rattle.ec_locks.specs.Laws.{LockLaws}
use Rattle.ec_locks.proofs.CutOrder.{in_order, in_queue}
use Rattle.ec_locks.proofs.Queues.{any_append, or_left, or_none, or_right, waits_behind}

none_join : (f t r : Bool) → (t ≡ true → f ≡ false) → r ≡ false → ((f && t) || r) ≡ false
none_join true true r k e = let h = k refl in cc
none_join true false r k e = e
none_join false t r k e = e

any_before : (p : Ask → Bool) (xs : List Ask) (a : Ask) → list_any p xs ≡ true → list_any p (xs ++ a ∷ []) ≡ true
any_before p xs a e = any_append p xs (a ∷ []) ∙ or_left (list_any p xs) (list_any p (a ∷ [])) e

any_last : (p : Ask → Bool) (xs : List Ask) (a : Ask) → p a ≡ true → list_any p (xs ++ a ∷ []) ≡ true
any_last p xs a e = any_append p xs (a ∷ []) ∙ or_right (list_any p xs) (list_any p (a ∷ [])) (or_left (p a) false e)

-- where each ask of the test conflicts with one before, none of them is granted
none_granted : (p : Ask → Bool) (before rest : List Ask) → ((b : Ask) → p b ≡ true → list_any (λ x. conflicts x b) before ≡ true) → some_grant p before rest ≡ false
none_granted p before [] stop = refl
none_granted p before (a ∷ rest) stop = none_join (free before a) (p a) (some_grant p (before ++ a ∷ []) rest) (λ h. ap not (stop a h)) (none_granted p (before ++ a ∷ []) rest (λ b h. any_before (λ x. conflicts x b) before a (stop b h)))

one_join : (f t u r s : Bool) → (f ≡ true → t ≡ true → s ≡ false) → (f ≡ true → u ≡ true → r ≡ false) → ((f && t) || r) ≡ true → ((f && u) || s) ≡ true → ((f ≡ true) × (t ≡ true) × (u ≡ true)) ⊎ ((r ≡ true) × (s ≡ true))
one_join true true true r s k l x y = inl (refl, refl, refl)
one_join true true false r s k l x y = let h = k refl refl in cc
one_join true false true r s k l x y = let h = l refl refl in cc
one_join true false false r s k l x y = inr (x, y)
one_join false t u r s k l x y = inr (x, y)

-- two granted asks, of which all of the one test conflict with all of the other, are one ask
one_granted : (p q : Ask → Bool) → ((a b : Ask) → p a ≡ true → q b ≡ true → conflicts a b ≡ true) → ((a b : Ask) → p a ≡ true → q b ≡ true → conflicts b a ≡ true) → (before rest : List Ask) → some_grant p before rest ≡ true → some_grant q before rest ≡ true → (e : Ask) × (p e ≡ true) × (q e ≡ true)
one_granted p q all back before [] x y = cc
one_granted p q all back before (a ∷ rest) x y = elim (one_join (free before a) (p a) (q a) (some_grant p (before ++ a ∷ []) rest) (some_grant q (before ++ a ∷ []) rest) (λ f h. none_granted q (before ++ a ∷ []) rest (λ b g. any_last (λ x. conflicts x b) before a (all a b h g))) (λ f h. none_granted p (before ++ a ∷ []) rest (λ b g. any_last (λ x. conflicts x b) before a (back b a g h))) x y) [ inl w ↦ (a, w.1, w.2) | inr w ↦ one_granted p q all back (before ++ a ∷ []) rest w.0 w.1 ]

covers_is : (a : Ask) (n : ℕ) (g : Gfid) (d : Domain) (k : LockKind) → covers a n g d k ≡ true → (a.number ≡ n) × (a.gfid.0 ≡ g.0) × (same_domain a.domain d ≡ true) × ((is_exclusive a.kind || not (is_exclusive k)) ≡ true)
covers_is a n g d k e = grind (arith, nat_tests)

domains : (x y d : Domain) → same_domain x d ≡ true → same_domain y d ≡ true → same_domain x y ≡ true
domains Inode Inode d a b = refl
domains Heal Heal d a b = refl
domains Inode Heal Inode a b = cc
domains Inode Heal Heal a b = cc
domains Heal Inode Inode a b = cc
domains Heal Inode Heal a b = cc

exclusive_kind : (a : Bool) → (a || not true) ≡ true → a ≡ true
exclusive_kind true e = refl
exclusive_kind false e = cc

both : (a b : Ask) (n m : ℕ) (g : Gfid) (d : Domain) (k : LockKind) → covers a n g d Exclusive ≡ true → covers b m g d k ≡ true → (conflicts a b ≡ true) × (conflicts b a ≡ true)
both a b n m g d k x y =
    let u = covers_is a n g d Exclusive x in
    let v = covers_is b m g d k y in
    let s = domains a.domain b.domain d u.2 v.2 in
    let t = domains b.domain a.domain d v.2 u.2 in
    let w = exclusive_kind (is_exclusive a.kind) u.3 in
    (grind (arith, nat_tests), grind (arith, nat_tests))

exclusive_alone : (asks : List Ask) (n m : ℕ) (g : Gfid) (d : Domain) (k : LockKind) → holds asks n g d Exclusive ≡ true → holds asks m g d k ≡ true → m ≡ n
exclusive_alone asks n m g d k x y = let o = one_granted (λ a. covers a n g d Exclusive) (λ a. covers a m g d k) (λ a b h j. (both a b n m g d k h j).0) (λ a b h j. (both a b n m g d k h j).1) [] asks x y in sym (covers_is o.0 m g d k o.2).0 ∙ (covers_is o.0 n g d Exclusive o.1).0

kept_step : (h t u : Bool) → (t ≡ true → u ≡ true) → (h || t) ≡ true → (h || u) ≡ true
kept_step true t u k e = refl
kept_step false t u k e = k e

granted_asked : (p : Ask → Bool) (before rest : List Ask) (e : Ask) → some_grant p before rest ≡ true → some_grant p before (rest ++ e ∷ []) ≡ true
granted_asked p before [] e x = cc
granted_asked p before (a ∷ rest) e x = kept_step (free before a && p a) (some_grant p (before ++ a ∷ []) rest) (some_grant p (before ++ a ∷ []) (rest ++ e ∷ [])) (granted_asked p (before ++ a ∷ []) rest e) x

never_apart : (before between : List Ask) (a b : Ask) → free (before ++ a ∷ between) b ≡ true → conflicts a b ≡ false
never_apart before between a b f = (or_none (conflicts a b) (list_any (λ c. conflicts c b) between) (or_none (list_any (λ c. conflicts c b) before) (list_any (λ c. conflicts c b) (a ∷ between)) (sym (any_append (λ c. conflicts c b) before (a ∷ between)) ∙ not_true (list_any (λ c. conflicts c b) (before ++ a ∷ between)) f)).1).0 where
  not_true : (h : Bool) → not h ≡ true → h ≡ false
  not_true true e = cc
  not_true false e = refl

-- a list is made of those that leave and those that stay
any_parts : (l : Leaving) (c : Ask → Bool) (xs : List Ask) → list_any c xs ≡ (list_any c (filter (leaves l) xs) || list_any c (filter (stays l) xs))
any_parts l c [] = refl
any_parts l c (x ∷ xs) = go (leaves l x) (any_parts l c xs) where
  shift : (h t u v : Bool) → t ≡ (u || v) → (h || t) ≡ (u || (h || v))
  shift true t true v e = refl
  shift true t false v e = refl
  shift false t u v e = e

  front : (h t u v : Bool) → t ≡ (u || v) → (h || t) ≡ ((h || u) || v)
  front true t u v e = refl
  front false t u v e = e

  go : (b : Bool) → list_any c xs ≡ (list_any c (filter (leaves l) xs) || list_any c (filter (stays l) xs)) → (c x || list_any c xs) ≡ (list_any c (cond b (x ∷ filter (leaves l) xs) (filter (leaves l) xs)) || list_any c (cond (not b) (x ∷ filter (stays l) xs) (filter (stays l) xs)))
  go true e = front (c x) (list_any c xs) (list_any c (filter (leaves l) xs)) (list_any c (filter (stays l) xs)) e
  go false e = shift (c x) (list_any c xs) (list_any c (filter (leaves l) xs)) (list_any c (filter (stays l) xs)) e

-- an ask that stays: u where one that leaves is in its way, v where one that stays is
one_stays : (u v p g l i : Bool) → i ≡ (g || l) → ((not v && p) || i) ≡ (((not (u || v) && p) || g) || cond (u && not v) (p || l) l)
one_stays true true p g l i e = e
one_stays false true p g l i e = e
one_stays true false true true l i e = refl
one_stays true false true false l i e = refl
one_stays true false false g l i e = e
one_stays false false true g l i e = refl
one_stays false false false g l i e = e

and_false : (x : Bool) → (x && false) ≡ false
and_false true = refl
and_false false = refl

any_cond : (p : Ask → Bool) (h : Bool) (x : Ask) (xs : List Ask) → list_any p (cond h (x ∷ xs) xs) ≡ cond h (p x || list_any p xs) (list_any p xs)
any_cond p true x xs = refl
any_cond p false x xs = refl

-- an ask that leaves
after_gone : (l : Leaving) (p : Ask → Bool) (before rest : List Ask) (a : Ask) → leaves l a ≡ true → some_grant p (filter (stays l) (before ++ a ∷ [])) (filter (stays l) rest) ≡ (some_grant (λ x. stays l x && p x) (before ++ a ∷ []) rest || list_any p (let_in l (before ++ a ∷ []) rest)) → some_grant p (filter (stays l) before) (filter (stays l) (a ∷ rest)) ≡ (some_grant (λ x. stays l x && p x) before (a ∷ rest) || list_any p (let_in l before (a ∷ rest)))
after_gone l p before rest a e h =
    ap (λ b. some_grant p (filter (stays l) before) (cond (not b) (a ∷ filter (stays l) rest) (filter (stays l) rest))) e
    ∙ ap (λ ys. some_grant p ys (filter (stays l) rest)) (sym (filter-append (stays l) before (a ∷ []) ∙ ap (λ b. filter (stays l) before ++ cond (not b) (a ∷ []) []) e ∙ append-nil (filter (stays l) before)))
    ∙ h
    ∙ ap (λ b. (b || some_grant (λ x. stays l x && p x) (before ++ a ∷ []) rest) || list_any p (let_in l (before ++ a ∷ []) rest)) (sym (and_false (free before a)))
    ∙ ap (λ b. ((free before a && (not b && p a)) || some_grant (λ x. stays l x && p x) (before ++ a ∷ []) rest) || list_any p (cond (not b && (list_any (λ x. conflicts x a) (filter (leaves l) before) && free (filter (stays l) before) a)) (a ∷ let_in l (before ++ a ∷ []) rest) (let_in l (before ++ a ∷ []) rest))) (sym e)

-- an ask that stays
after_kept : (l : Leaving) (p : Ask → Bool) (before rest : List Ask) (a : Ask) → leaves l a ≡ false → some_grant p (filter (stays l) (before ++ a ∷ [])) (filter (stays l) rest) ≡ (some_grant (λ x. stays l x && p x) (before ++ a ∷ []) rest || list_any p (let_in l (before ++ a ∷ []) rest)) → some_grant p (filter (stays l) before) (filter (stays l) (a ∷ rest)) ≡ (some_grant (λ x. stays l x && p x) before (a ∷ rest) || list_any p (let_in l before (a ∷ rest)))
after_kept l p before rest a e h =
    ap (λ b. some_grant p (filter (stays l) before) (cond (not b) (a ∷ filter (stays l) rest) (filter (stays l) rest))) e
    ∙ one_stays (list_any (λ x. conflicts x a) (filter (leaves l) before)) (list_any (λ x. conflicts x a) (filter (stays l) before)) (p a) (some_grant (λ x. stays l x && p x) (before ++ a ∷ []) rest) (list_any p (let_in l (before ++ a ∷ []) rest)) (some_grant p (filter (stays l) before ++ a ∷ []) (filter (stays l) rest))
    (ap (λ ys. some_grant p ys (filter (stays l) rest)) (sym (filter-append (stays l) before (a ∷ []) ∙ ap (λ b. filter (stays l) before ++ cond (not b) (a ∷ []) []) e)) ∙ h)
    ∙ ap (λ b. ((not b && p a) || some_grant (λ x. stays l x && p x) (before ++ a ∷ []) rest) || cond (list_any (λ x. conflicts x a) (filter (leaves l) before) && free (filter (stays l) before) a) (p a || list_any p (let_in l (before ++ a ∷ []) rest)) (list_any p (let_in l (before ++ a ∷ []) rest))) (sym (any_parts l (λ x. conflicts x a) before))
    ∙ ap (λ b. ((free before a && p a) || some_grant (λ x. stays l x && p x) (before ++ a ∷ []) rest) || b) (sym (any_cond p (list_any (λ x. conflicts x a) (filter (leaves l) before) && free (filter (stays l) before) a) a (let_in l (before ++ a ∷ []) rest)))
    ∙ ap (λ b. ((free before a && (not b && p a)) || some_grant (λ x. stays l x && p x) (before ++ a ∷ []) rest) || list_any p (cond (not b && (list_any (λ x. conflicts x a) (filter (leaves l) before) && free (filter (stays l) before) a)) (a ∷ let_in l (before ++ a ∷ []) rest) (let_in l (before ++ a ∷ []) rest))) (sym e)

after_one : (l : Leaving) (p : Ask → Bool) (before rest : List Ask) (a : Ask) (b : Bool) → leaves l a ≡ b → some_grant p (filter (stays l) (before ++ a ∷ [])) (filter (stays l) rest) ≡ (some_grant (λ x. stays l x && p x) (before ++ a ∷ []) rest || list_any p (let_in l (before ++ a ∷ []) rest)) → some_grant p (filter (stays l) before) (filter (stays l) (a ∷ rest)) ≡ (some_grant (λ x. stays l x && p x) before (a ∷ rest) || list_any p (let_in l before (a ∷ rest)))
after_one l p before rest a true e h = after_gone l p before rest a e h
after_one l p before rest a false e h = after_kept l p before rest a e h

after : (l : Leaving) (p : Ask → Bool) (before rest : List Ask) → some_grant p (filter (stays l) before) (filter (stays l) rest) ≡ (some_grant (λ x. stays l x && p x) before rest || list_any p (let_in l before rest))
after l p before [] = refl
after l p before (a ∷ rest) = after_one l p before rest a (leaves l a) refl (after l p (before ++ a ∷ []) rest)

pub laws : LockLaws
laws = record { apart = never_apart; alone = exclusive_alone; in_turn = waits_behind; kept = λ asks e n g d k. granted_asked (λ a. covers a n g d k) [] asks e; granted_after = λ l asks p. after l p [] asks; in_order = in_order; in_queue = in_queue }
