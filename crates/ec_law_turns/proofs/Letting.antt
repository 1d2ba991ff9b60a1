-- Who is told Granted has the exclusive grant then: whose ask finds none before it, and who is let in as others leave.
use Rattle.std.proofs.Common.{◌≡◌, ℕ, Bool, true, false, not, cond, ◌==◌, ◌&&◌, ◌||◌, Some, List, [], ◌∷◌, ◌++◌, refl, sym, ◌∙◌, ap, subst, arith}
use Rattle.std.proofs.lemmas.Bool.Decides.{nat_tests}
use Rattle.std.specs.Prelude.{filter}
use Rattle.std.specs.List.{list_any}
use Rattle.ec_attr.specs.declared.gfid.Gfid.{Gfid}
use Rattle.ec_attr.specs.declared.kind.Domain.{Domain}
use Rattle.ec_attr.specs.declared.kind.Domain.TheVariants.{Inode, Heal}
use Rattle.ec_attr.specs.declared.kind.LockKind.{LockKind}
use Rattle.ec_attr.specs.declared.kind.LockKind.TheVariants.{Exclusive, Shared}
use Rattle.ec_locks.specs.Asked.{has_to_wait}
use Rattle.ec_locks.specs.Table.{by_queue, conflicts, covers, free, is_behind, is_exclusive, is_let_in, let_in, put, same_domain, same_queue, some_grant, some_waiter, stays}
use Rattle.ec_locks.specs.declared.ask.Ask.{Ask as Asking}
use Rattle.ec_locks.specs.declared.ask.Leaving.{Leaving}
use Rattle.ec_locks.proofs.Laws.{laws}
use Rattle.ec_history.specs.Run.{Net}
use Rattle.ec_law_net.specs.Grants.{AreAsks, IsAskOf}
use Rattle.ec_law_net.specs.Turns.{exclusive, exclusive_from}
use Rattle.ec_law_net.proofs.Locks.{held}
use Rattle.ec_law_net.proofs.Tables.{Each}

-- ## An ask that finds none before it

any_more : (p : Asking → Bool) (xs : List Asking) (a : Asking) → list_any p xs ≡ false → p a ≡ false → list_any p (xs ++ a ∷ []) ≡ false
any_more p [] a h i = rw i refl
any_more p (x ∷ xs) a h i = none (p x) (list_any p xs) h (any_more p xs a (second (p x) (list_any p xs) h) i)
  where
    second : (t u : Bool) → (t || u) ≡ false → u ≡ false
    second true u h = absurd (cc)
    second false u h = h

    none : (t u : Bool) → {w : Bool} → (t || u) ≡ false → w ≡ false → (t || w) ≡ false
    none true u h i = absurd (cc)
    none false u h i = i

placed : (p : Asking → Bool) (e : Asking) → p e ≡ true → (before rest : List Asking) → list_any (λ b. conflicts b e) before ≡ false → list_any (λ b. conflicts b e) rest ≡ false → some_grant p before (rest ++ e ∷ []) ≡ true
placed p e so before [] h i = rw (h, so) refl
placed p e so before (a ∷ rest) h i = later (free before a && p a) (placed p e so (before ++ a ∷ []) rest (any_more (λ b. conflicts b e) before a h (first (conflicts a e) (list_any (λ b. conflicts b e) rest) i)) (second (conflicts a e) (list_any (λ b. conflicts b e) rest) i))
  where
    first : (t u : Bool) → (t || u) ≡ false → t ≡ false
    first true u h = absurd (cc)
    first false u h = refl

    second : (t u : Bool) → (t || u) ≡ false → u ≡ false
    second true u h = absurd (cc)
    second false u h = h

    later : (t : Bool) → {u : Bool} → u ≡ true → (t || u) ≡ true
    later true h = refl
    later false h = h

unhindered : (e : Asking) (before rest : List Asking) → some_grant (λ a. conflicts a e) before rest ≡ false → some_waiter (λ a. same_queue a e) before rest ≡ false → list_any (λ b. conflicts b e) rest ≡ false
unhindered e before [] h i = refl
unhindered e before (a ∷ rest) h i = at (free before a) (same_queue a e) (is_exclusive a.kind || is_exclusive e.kind) h i (λ j k. unhindered e (before ++ a ∷ []) rest j k)
  where
    at : (t u w : Bool) {x y z : Bool} → ((t && (u && w)) || x) ≡ false → ((not t && u) || y) ≡ false → (x ≡ false → y ≡ false → z ≡ false) → ((u && w) || z) ≡ false
    at true true true h i f = absurd (cc)
    at true true false h i f = f h i
    at true false w h i f = f h i
    at false true w h i f = absurd (cc)
    at false false w h i f = f h i

abbrev gfid_of : ℕ → Gfid
gfid_of g = record { 0 = g }

-- this ask is for the content of the gfid, for one client alone
pub record IsOwnAsk (g : ℕ) (a : Asking) : Type 0 where
  pub on : a.gfid.0 ≡ g
  pub domain : a.domain ≡ Inode
  pub kind : a.kind ≡ Exclusive

covered : (g : ℕ) (a : Asking) → IsOwnAsk g a → covers a a.number (gfid_of g) Inode Exclusive ≡ true
covered g a h = subst (λ (d : Domain). ((a.number == a.number) && (a.gfid.0 == g) && same_domain d Inode && (is_exclusive a.kind || false)) ≡ true) (sym h.domain) (let k = ap is_exclusive h.kind in let o = h.on in grind (arith, nat_tests))

pub has_it : (g : ℕ) (asks : List Asking) (e : Asking) → IsOwnAsk g e → has_to_wait asks e ≡ false → exclusive g Inode (asks ++ e ∷ []) ≡ Some e.number
has_it g asks e own free = held (gfid_of g) Inode (asks ++ e ∷ []) e.number (placed (λ a. covers a e.number (gfid_of g) Inode Exclusive) e (covered g e own) [] asks refl (unhindered e [] asks (first (some_grant (λ a. conflicts a e) [] asks) (some_waiter (λ a. same_queue a e) [] asks) free) (second (some_grant (λ a. conflicts a e) [] asks) (some_waiter (λ a. same_queue a e) [] asks) free)))
  where
    first : (t u : Bool) → (t || u) ≡ false → t ≡ false
    first true u h = absurd (cc)
    first false u h = refl

    second : (t u : Bool) → (t || u) ≡ false → u ≡ false
    second true u h = absurd (cc)
    second false u h = h

-- ## Who is let in

pub let_in_has : (g : ℕ) (l : Leaving) (asks : List Asking) (a : Asking) → IsOwnAsk g a → list_any (λ x. covers x a.number (gfid_of g) Inode Exclusive) (let_in l [] asks) ≡ true → exclusive g Inode (filter (stays l) asks) ≡ Some a.number
let_in_has g l asks a own h = held (gfid_of g) Inode (filter (stays l) asks) a.number (laws.granted_after l asks (λ x. covers x a.number (gfid_of g) Inode Exclusive) ∙ right (some_grant (λ x. stays l x && covers x a.number (gfid_of g) Inode Exclusive) [] asks) h)
  where
    right : (t : Bool) → {u : Bool} → u ≡ true → (t || u) ≡ true
    right true h = refl
    right false h = h

-- each of these passes a test of its own, by which it is found in `whole`
pub record IsIn (g : ℕ) (whole : List Asking) (a : Asking) : Type 0 where
  pub found : IsOwnAsk g a → list_any (λ x. covers x a.number (gfid_of g) Inode Exclusive) whole ≡ true

pub each_in : (g : ℕ) (whole xs : List Asking) → ((p : Asking → Bool) → list_any p xs ≡ true → list_any p whole ≡ true) → Each (IsIn g whole) xs
each_in g whole [] up = tt
each_in g whole (a ∷ xs) up = (record { found = λ own. up (λ x. covers x a.number (gfid_of g) Inode Exclusive) (left (covers a a.number (gfid_of g) Inode Exclusive) (list_any (λ x. covers x a.number (gfid_of g) Inode Exclusive) xs) (covered g a own)) }, each_in g whole xs (λ p h. up p (right (p a) h)))
  where
    left : (t u : Bool) → t ≡ true → (t || u) ≡ true
    left true u h = refl
    left false u h = absurd (cc)

    right : (t : Bool) → {u : Bool} → u ≡ true → (t || u) ≡ true
    right true h = refl
    right false h = h

pub each_let_in : (P : Asking → Type 0) (l : Leaving) (before asks : List Asking) → Each P asks → Each P (let_in l before asks)
each_let_in P l before [] h = tt
each_let_in P l before (a ∷ asks) h = at (is_let_in l before a) (each_let_in P l (before ++ a ∷ []) asks h.1)
  where
    at : (t : Bool) → Each P (let_in l (before ++ a ∷ []) asks) → Each P (cond t (a ∷ let_in l (before ++ a ∷ []) asks) (let_in l (before ++ a ∷ []) asks))
    at true r = (h.0, r)
    at false r = r

each_put : (P : Asking → Type 0) (xs : List Asking) (e : Asking) → Each P xs → P e → Each P (put xs e)
each_put P [] e h i = (i, tt)
each_put P (a ∷ xs) e h i = at (is_behind a e) (each_put P xs e h.1 i)
  where
    at : (t : Bool) → Each P (put xs e) → Each P (cond t (e ∷ a ∷ xs) (a ∷ put xs e))
    at true r = (i, h)
    at false r = (h.0, r)

pub each_by_queue : (P : Asking → Type 0) (done xs : List Asking) → Each P done → Each P xs → Each P (by_queue done xs)
each_by_queue P done [] h i = h
each_by_queue P done (a ∷ xs) h i = each_by_queue P (put done a) xs (each_put P done a h i.0) i.1

-- who has the content exclusively is in the table, and asked for it so
pub owner : (m : Net) (b g : ℕ) (before asks : List Asking) (i : ℕ) → AreAsks m b asks → exclusive_from g Inode before asks ≡ Some i → (a : Asking) × IsAskOf m b a × (a.number ≡ i) × IsOwnAsk g a
owner m b g before [] i are e = absurd (cc)
owner m b g before (a ∷ asks) i are e = at (free before a && ((a.gfid.0 == g) && same_domain a.domain Inode && is_exclusive a.kind)) refl (owner m b g (before ++ a ∷ []) asks i are.1) e
  where
    inode : (d : Domain) → same_domain d Inode ≡ true → d ≡ Inode
    inode Inode h = refl
    inode Heal h = absurd (cc)

    alone : (k : LockKind) → is_exclusive k ≡ true → k ≡ Exclusive
    alone Shared h = absurd (cc)
    alone Exclusive h = refl

    at : (t : Bool) → (free before a && ((a.gfid.0 == g) && same_domain a.domain Inode && is_exclusive a.kind)) ≡ t → (exclusive_from g Inode (before ++ a ∷ []) asks ≡ Some i → (x : Asking) × IsAskOf m b x × (x.number ≡ i) × IsOwnAsk g x) → cond t (Some a.number) (exclusive_from g Inode (before ++ a ∷ []) asks) ≡ Some i → (x : Asking) × IsAskOf m b x × (x.number ≡ i) × IsOwnAsk g x
    at true f r h = (a, are.0, grind (arith), record { on = grind (arith, nat_tests); domain = inode a.domain (grind (arith, nat_tests)); kind = alone a.kind (grind (arith, nat_tests)) })
    at false f r h = r h
