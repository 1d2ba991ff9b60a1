-- Who waits in a queue: the first to come is the first to be served.
use Rattle.std.proofs.Common.{◌≡◌, ℕ, Bool, true, false, not, ◌==◌, ◌&&◌, ◌||◌, List, [], ◌∷◌, ◌++◌, cond, filter, subst, refl, sym, ◌∙◌, ap, arith, append_assoc}
use Rattle.std.proofs.lemmas.Bool.Decides.{nat_tests}
use Rattle.std.specs.List.{list_any}
use Rattle.ec_attr.specs.declared.kind.Domain.{Domain}
use Rattle.ec_attr.specs.declared.kind.Domain.TheVariants.{Inode, Heal}
use Rattle.ec_locks.specs.declared.ask.Ask.{Ask}
use Rattle.ec_locks.specs.declared.ask.Leaving.TheVariants.{Number}
use Rattle.ec_locks.specs.Table.{same_domain, same_queue, is_exclusive, conflicts, free, some_grant, some_waiter, has, has_number, stays}
use Rattle.ec_locks.specs.Asked.{has_to_wait}

pub or_none : (h t : Bool) → (h || t) ≡ false → (h ≡ false) × (t ≡ false)
or_none true t e = cc
or_none false t e = (refl, e)

pub or_left : (h t : Bool) → h ≡ true → (h || t) ≡ true
or_left true t e = refl
or_left false t e = cc

pub or_right : (h t : Bool) → t ≡ true → (h || t) ≡ true
or_right true t e = refl
or_right false t e = e

or_false : (h t : Bool) → h ≡ false → t ≡ false → (h || t) ≡ false
or_false true t e f = cc
or_false false t e f = f

-- none of a list and none of another
pub any_append : (p : Ask → Bool) (xs ys : List Ask) → list_any p (xs ++ ys) ≡ (list_any p xs || list_any p ys)
any_append p [] ys = refl
any_append p (x ∷ xs) ys = join (p x) _ _ _ (any_append p xs ys) where
  join : (h t u v : Bool) → t ≡ (u || v) → (h || t) ≡ ((h || u) || v)
  join true t u v e = refl
  join false t u v e = e

domains_meet : (x y z : Domain) → same_domain x y ≡ true → same_domain y z ≡ true → same_domain x z ≡ true
domains_meet Inode Inode z a b = b
domains_meet Inode Heal z a b = cc
domains_meet Heal Inode z a b = cc
domains_meet Heal Heal z a b = b

pub queues_meet : (a b c : Ask) → same_queue a b ≡ true → same_queue b c ≡ true → same_queue a c ≡ true
queues_meet a b c x y = meet (parts _ _ x) (parts _ _ y) where
  parts : (s t : Bool) → (s && t) ≡ true → (s ≡ true) × (t ≡ true)
  parts true true e = (refl, refl)
  parts true false e = cc
  parts false t e = cc

  meet : ((a.gfid.0 == b.gfid.0) ≡ true) × (same_domain a.domain b.domain ≡ true) → ((b.gfid.0 == c.gfid.0) ≡ true) × (same_domain b.domain c.domain ≡ true) → same_queue a c ≡ true
  meet u v = let d = domains_meet a.domain b.domain c.domain u.1 v.1 in grind (arith, nat_tests)

-- two asks behind a waiter's obstacle: whoever is in its queue stands behind the waiter or the obstacle
obstacle_join : (x y z : Bool) → (x || y) ≡ true → (y || z) ≡ false → x ≡ true
obstacle_join true y z e f = refl
obstacle_join false true z e f = cc
obstacle_join false false z e f = cc

none_split : (s t : Bool) → (s && t) ≡ false → s ≡ true → t ≡ false
none_split true t e f = e
none_split false t e f = cc

and_split : (s t : Bool) → (s && t) ≡ true → (s ≡ true) × (t ≡ true)
and_split true true e = (refl, refl)
and_split true false e = cc
and_split false t e = cc

-- where `c` is in the way of `a`, and `b` comes to the queue of `a`, then `a` or `c` is in the way of `b`
pub obstacle : (c a b : Ask) → conflicts c a ≡ true → same_queue a b ≡ true → conflicts a b ≡ false → conflicts c b ≡ true
obstacle c a b x q n =
    let u = and_split (same_queue c a) (is_exclusive c.kind || is_exclusive a.kind) x in
    let s = queues_meet c a b u.0 q in
    let k = none_split (same_queue a b) (is_exclusive a.kind || is_exclusive b.kind) n q in
    let e = obstacle_join (is_exclusive c.kind) (is_exclusive a.kind) (is_exclusive b.kind) u.1 k in
    both _ _ _ s e
  where
    both : (s e f : Bool) → s ≡ true → e ≡ true → (s && (e || f)) ≡ true
    both true true f x y = refl
    both true false f x y = cc
    both false e f x y = cc

stopped : (b a : Ask) (before : List Ask) → list_any (λ c. conflicts c a) before ≡ true → same_queue a b ≡ true → conflicts a b ≡ false → list_any (λ c. conflicts c b) before ≡ true
stopped b a [] x q n = cc
stopped b a (c ∷ before) x q n = go (λ y. stopped b a before y q n) (conflicts c a) refl x where
  go : (list_any (λ c. conflicts c a) before ≡ true → list_any (λ c. conflicts c b) before ≡ true) → (h : Bool) → conflicts c a ≡ h → (h || list_any (λ c. conflicts c a) before) ≡ true → list_any (λ c. conflicts c b) (c ∷ before) ≡ true
  go next true e y = or_left (conflicts c b) (list_any (λ c. conflicts c b) before) (obstacle c a b e q n)
  go next false e y = or_right (conflicts c b) (list_any (λ c. conflicts c b) before) (next y)

-- who comes to a queue in which another waits, waits too
pub waits_behind : (before mid : List Ask) (a b : Ask) → free before a ≡ false → same_queue a b ≡ true → free (before ++ a ∷ mid) b ≡ false
waits_behind before mid a b w q = ap not (any_append (λ c. conflicts c b) before (a ∷ mid) ∙ go (conflicts a b) refl) where
  not_false : (h : Bool) → not h ≡ false → h ≡ true
  not_false true e = refl
  not_false false e = cc

  third : (h t u : Bool) → t ≡ true → (h || (t || u)) ≡ true
  third true t u e = refl
  third false true u e = refl
  third false false u e = cc

  go : (h : Bool) → conflicts a b ≡ h → (list_any (λ c. conflicts c b) before || (conflicts a b || list_any (λ c. conflicts c b) mid)) ≡ true
  go true e = third (list_any (λ c. conflicts c b) before) (conflicts a b) _ e
  go false e = or_left (list_any (λ c. conflicts c b) before) _ (stopped b a before (not_false _ w) q e)

-- an ask that is free of all has no conflicting grant and no waiter of its queue before it
free_has_none : (before rest : List Ask) (e : Ask) → free (before ++ rest) e ≡ true → (some_grant (λ a. conflicts a e) before rest || some_waiter (λ a. same_queue a e) before rest) ≡ false
free_has_none before [] e f = refl
free_has_none before (a ∷ rest) e f =
    let r = or_none (some_grant (λ x. conflicts x e) (before ++ a ∷ []) rest) (some_waiter (λ x. same_queue x e) (before ++ a ∷ []) rest) (free_has_none (before ++ a ∷ []) rest e (subst (λ xs. free xs e ≡ true) (sym (append_assoc before (a ∷ []) rest)) f)) in
    or_false (some_grant (λ x. conflicts x e) before (a ∷ rest)) (some_waiter (λ x. same_queue x e) before (a ∷ rest))
    (or_false (free before a && conflicts a e) (some_grant (λ x. conflicts x e) (before ++ a ∷ []) rest) (no_and (free before a) (conflicts a e) (no_conflict (not_true (list_any (λ c. conflicts c e) (before ++ a ∷ rest)) f))) r.0)
    (or_false (not (free before a) && same_queue a e) (some_waiter (λ x. same_queue x e) (before ++ a ∷ []) rest) (no_wait (free before a) (same_queue a e) (λ w q. contra (free (before ++ a ∷ rest) e) (waits_behind before rest a e w q) f)) r.1)
  where
    not_true : (h : Bool) → not h ≡ true → h ≡ false
    not_true true e = cc
    not_true false e = refl

    no_and : (f c : Bool) → c ≡ false → (f && c) ≡ false
    no_and true c e = e
    no_and false c e = refl

    no_conflict : list_any (λ c. conflicts c e) (before ++ a ∷ rest) ≡ false → conflicts a e ≡ false
    no_conflict g = (or_none (conflicts a e) (list_any (λ c. conflicts c e) rest) ((or_none (list_any (λ c. conflicts c e) before) (list_any (λ c. conflicts c e) (a ∷ rest)) (sym (any_append (λ c. conflicts c e) before (a ∷ rest)) ∙ g)).1)).0

    contra : (h : Bool) → h ≡ false → h ≡ true → true ≡ false
    contra true x y = x
    contra false x y = cc

    no_wait : (f q : Bool) → (f ≡ false → q ≡ true → true ≡ false) → (not f && q) ≡ false
    no_wait true q k = refl
    no_wait false true k = k refl refl
    no_wait false false k = refl

-- and an ask before which none of these stands is free of all
none_has_free : (before rest : List Ask) (e : Ask) → (some_grant (λ a. conflicts a e) before rest || some_waiter (λ a. same_queue a e) before rest) ≡ false → list_any (λ c. conflicts c e) rest ≡ false
none_has_free before [] e n = refl
none_has_free before (a ∷ rest) e n =
    let u = or_none (some_grant (λ x. conflicts x e) before (a ∷ rest)) (some_waiter (λ x. same_queue x e) before (a ∷ rest)) n in
    let g = or_none (free before a && conflicts a e) (some_grant (λ x. conflicts x e) (before ++ a ∷ []) rest) u.0 in
    let w = or_none (not (free before a) && same_queue a e) (some_waiter (λ x. same_queue x e) (before ++ a ∷ []) rest) u.1 in
    or_false (conflicts a e) (list_any (λ c. conflicts c e) rest) (apart (free before a) (same_queue a e) (is_exclusive a.kind || is_exclusive e.kind) g.0 w.0) (none_has_free (before ++ a ∷ []) rest e (or_false (some_grant (λ x. conflicts x e) (before ++ a ∷ []) rest) (some_waiter (λ x. same_queue x e) (before ++ a ∷ []) rest) g.1 w.1))
  where
    apart : (f q k : Bool) → (f && (q && k)) ≡ false → (not f && q) ≡ false → (q && k) ≡ false
    apart true q k x y = x
    apart false true k x y = cc
    apart false false k x y = refl

-- an ask has to wait exactly where one before it is in its way
pub waits_where_not_free : (asks : List Ask) (e : Ask) → has_to_wait asks e ≡ not (free asks e)
waits_where_not_free asks e = go (has_to_wait asks e) (free asks e) refl refl where
  go : (w f : Bool) → has_to_wait asks e ≡ w → free asks e ≡ f → w ≡ not f
  go true true x y = let h = free_has_none [] asks e y in sym x ∙ h
  go true false x y = refl
  go false true x y = refl
  go false false x y = let h = ap not (none_has_free [] asks e x) in sym y ∙ h

-- none leaves where none has the number
pub all_stay : (n : ℕ) (asks : List Ask) → has asks n ≡ false → filter (stays (Number n)) asks ≡ asks
all_stay n [] h = refl
all_stay n (a ∷ asks) h = let u = or_none (has_number n a) _ h in kept (has_number n a) u.0 (all_stay n asks u.1) where
  kept : (b : Bool) → b ≡ false → filter (stays (Number n)) asks ≡ asks → cond (not b) (a ∷ filter (stays (Number n)) asks) (filter (stays (Number n)) asks) ≡ a ∷ asks
  kept true e f = cc
  kept false e f = ap (λ xs. a ∷ xs) f
