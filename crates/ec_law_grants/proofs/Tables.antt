-- Which grants stand, of any kind, where an ask comes and where asks leave.
use Rattle.std.proofs.Common.{◌≡◌, ◌⊎◌, ℕ, Bool, true, false, not, ◌==◌, ◌&&◌, ◌||◌, Some, List, [], ◌∷◌, ◌++◌, refl, sym, ◌∙◌, ap, inl, inr}
use Rattle.std.specs.Prelude.{filter}
use Rattle.std.specs.List.{list_any}
use Rattle.ec_attr.specs.declared.gfid.Gfid.{Gfid}
use Rattle.ec_attr.specs.declared.kind.Domain.{Domain}
use Rattle.ec_attr.specs.declared.kind.Domain.TheVariants.{Inode, Heal}
use Rattle.ec_attr.specs.declared.kind.LockKind.{LockKind}
use Rattle.ec_attr.specs.declared.kind.LockKind.TheVariants.{Exclusive, Shared}
use Rattle.ec_locks.specs.Asked.{has_to_wait}
use Rattle.ec_locks.specs.Table.{conflicts, covers, free, has, holds, is_exclusive, let_in, same_domain, same_queue, some_grant, some_waiter, stays}
use Rattle.ec_locks.specs.declared.ask.Ask.{Ask as Asking}
use Rattle.ec_locks.specs.declared.ask.Leaving.{Leaving}
use Rattle.ec_locks.proofs.Laws.{laws}
use Rattle.ec_wire.specs.declared.message.Message.{Message}
use Rattle.ec_history.specs.Run.{Net}
use Rattle.ec_law_net.specs.Grants.{AreAsks}
use Rattle.ec_law_net.proofs.Tables.{Each, as_one, each_map, gone_filter, missing_append, missing_filter}
use Rattle.ec_law_turns.proofs.Basics.{equal, itself}

left : (t u : Bool) → (t && u) ≡ true → t ≡ true
left true u e = refl
left false u e = absurd (cc)

both : (t u : Bool) → t ≡ true → u ≡ true → (t && u) ≡ true
both true u e f = f
both false u e f = absurd (cc)

or_left : (t u : Bool) → t ≡ true → (t || u) ≡ true
or_left true u e = refl
or_left false u e = absurd (cc)

or_right : (t u : Bool) → u ≡ true → (t || u) ≡ true
or_right true u e = refl
or_right false u e = e

none_left : (t u : Bool) → (t || u) ≡ false → t ≡ false
none_left true u e = absurd (cc)
none_left false u e = refl

none_right : (t u : Bool) → (t || u) ≡ false → u ≡ false
none_right true u e = absurd (cc)
none_right false u e = e

-- ## Grants of the table

numbered : (a : Asking) (i : ℕ) (x : Gfid) (d : Domain) (k : LockKind) → covers a i x d k ≡ true → a.number ≡ i
numbered a i x d k c =
    let three = left ((a.number == i) && (a.gfid.0 == x.0) && same_domain a.domain d) (is_exclusive a.kind || not (is_exclusive k)) c in
    let two = left ((a.number == i) && (a.gfid.0 == x.0)) (same_domain a.domain d) three in
    equal a.number i (left (a.number == i) (a.gfid.0 == x.0) two)

some_has : (i : ℕ) (x : Gfid) (d : Domain) (k : LockKind) (before rest : List Asking) → some_grant (λ a. covers a i x d k) before rest ≡ true → has rest i ≡ true
some_has i x d k before [] e = absurd (cc)
some_has i x d k before (a ∷ rest) e = at (free before a) (a.number == i) (a.gfid.0 == x.0) (same_domain a.domain d) (is_exclusive a.kind || not (is_exclusive k)) (some_has i x d k (before ++ a ∷ []) rest) e
  where
    at : (t u w p q : Bool) {y z : Bool} → (y ≡ true → z ≡ true) → ((t && (u && w && p && q)) || y) ≡ true → (u || z) ≡ true
    at t true w p q f e = refl
    at true false w p q f e = f e
    at false false w p q f e = f e

-- whose grant stands has an ask there
pub held_has : (asks : List Asking) (i : ℕ) (x : Gfid) (d : Domain) (k : LockKind) → holds asks i x d k ≡ true → has asks i ≡ true
held_has asks i x d k h = some_has i x d k [] asks h

some_more : (p q : Asking → Bool) (before rest : List Asking) → Each (λ a. p a ≡ true → q a ≡ true) rest → some_grant p before rest ≡ true → some_grant q before rest ≡ true
some_more p q before [] h e = e
some_more p q before (a ∷ rest) h e = of (free before a) (p a) (q a) h.0 (some_more p q (before ++ a ∷ []) rest h.1) e
  where
    of : (t u w : Bool) {x y : Bool} → (u ≡ true → w ≡ true) → (x ≡ true → y ≡ true) → ((t && u) || x) ≡ true → ((t && w) || y) ≡ true
    of true true w f g e = or_left w _ (f refl)
    of true false w f g e = or_right w _ (g e)
    of false u w f g e = g e

kept_filter : (x : Gfid) (d : Domain) (k : LockKind) (l : Leaving) (asks : List Asking) (i : ℕ) → Each (λ a. a.number ≡ i → stays l a ≡ true) asks → holds asks i x d k ≡ true → holds (filter (stays l) asks) i x d k ≡ true
kept_filter x d k l asks i stay h =
    laws.granted_after l asks (λ a. covers a i x d k)
    ∙ or_left (some_grant (λ a. stays l a && covers a i x d k) [] asks) (list_any (λ a. covers a i x d k) (let_in l [] asks))
    (some_more (λ a. covers a i x d k) (λ a. stays l a && covers a i x d k) [] asks (each_map (λ a. a.number ≡ i → stays l a ≡ true) (λ a. covers a i x d k ≡ true → (stays l a && covers a i x d k) ≡ true) (λ a f c. both (stays l a) (covers a i x d k) (f (numbered a i x d k c)) c) asks stay) h)

-- ## What becomes of a grant

-- the ask of this number is gone, or has its grant
abbrev pub IsGoneOrHeld : List Asking → ℕ → Gfid → Domain → LockKind → Type 0
IsGoneOrHeld asks i x d k = (has asks i ≡ false) ⊎ (holds asks i x d k ≡ true)

-- An ask that has arrived and is gone stays gone; and one that was granted keeps its grant until it is gone.
abbrev pub Stays : Net → List Asking → List Asking → Type 0
Stays m old new = (i : ℕ) (msg : Message) → m.said i ≡ Some msg → m.flying i ≡ false → (has old i ≡ false → has new i ≡ false) × ((x : Gfid) (d : Domain) (k : LockKind) → holds old i x d k ≡ true → IsGoneOrHeld new i x d k)

pub stays_same : (m : Net) (asks : List Asking) → Stays m asks asks
stays_same m asks i msg said landed = (λ e. e, λ x d k h. inr h)

pub stays_filter : (m : Net) (b : ℕ) (l : Leaving) (asks : List Asking) → AreAsks m b asks → Stays m asks (filter (stays l) asks)
stays_filter m b l asks are i msg said landed = (λ e. missing_filter (stays l) asks i e, λ x d k h. at x d k h (as_one m b l asks i msg said are))
  where
    at : (x : Gfid) (d : Domain) (k : LockKind) → holds asks i x d k ≡ true → Each (λ a. a.number ≡ i → stays l a ≡ true) asks ⊎ Each (λ a. a.number ≡ i → stays l a ≡ false) asks → IsGoneOrHeld (filter (stays l) asks) i x d k
    at x d k h (inl stay) = inr (kept_filter x d k l asks i stay h)
    at x d k h (inr go) = inl (gone_filter (stays l) asks i go)

pub stays_append : (m : Net) (asks : List Asking) (e : Asking) → m.flying e.number ≡ true → Stays m asks (asks ++ e ∷ [])
stays_append m asks e flies i msg said landed = (λ h. missing_append asks e i h (λ (q : e.number ≡ i). let x = sym flies ∙ (ap m.flying q ∙ landed) in cc), λ x d k h. inr (laws.kept asks e i x d k h))

pub stays_none : (m : Net) (asks : List Asking) → Stays m asks []
stays_none m asks i msg said landed = (λ e. refl, λ x d k h. inl refl)

-- ## Who is told Granted

-- it has the grant that it asked for
abbrev pub HasIt : List Asking → Asking → Type 0
HasIt asks a = holds asks a.number a.gfid a.domain a.kind ≡ true

covered : (a : Asking) → covers a a.number a.gfid a.domain a.kind ≡ true
covered a = all (a.number == a.number) (a.gfid.0 == a.gfid.0) (same_domain a.domain a.domain) (is_exclusive a.kind || not (is_exclusive a.kind)) (itself a.number) (itself a.gfid.0) (domain a.domain) (kind a.kind)
  where
    domain : (d : Domain) → same_domain d d ≡ true
    domain Inode = refl
    domain Heal = refl

    kind : (k : LockKind) → (is_exclusive k || not (is_exclusive k)) ≡ true
    kind Shared = refl
    kind Exclusive = refl

    all : (t u w p : Bool) → t ≡ true → u ≡ true → w ≡ true → p ≡ true → (t && u && w && p) ≡ true
    all true u w p e f g h = both (u && w) p (both u w f g) h
    all false u w p e f g h = absurd (cc)

any_more : (p : Asking → Bool) (xs : List Asking) (a : Asking) → list_any p xs ≡ false → p a ≡ false → list_any p (xs ++ a ∷ []) ≡ false
any_more p [] a h i = rw i refl
any_more p (x ∷ xs) a h i = none (p x) (list_any p xs) h (any_more p xs a (none_right (p x) (list_any p xs) h) i)
  where
    none : (t u : Bool) → {w : Bool} → (t || u) ≡ false → w ≡ false → (t || w) ≡ false
    none true u h i = absurd (cc)
    none false u h i = i

placed : (p : Asking → Bool) (e : Asking) → p e ≡ true → (before rest : List Asking) → list_any (λ b. conflicts b e) before ≡ false → list_any (λ b. conflicts b e) rest ≡ false → some_grant p before (rest ++ e ∷ []) ≡ true
placed p e so before [] h i = rw (h, so) refl
placed p e so before (a ∷ rest) h i = or_right (free before a && p a) _ (placed p e so (before ++ a ∷ []) rest (any_more (λ b. conflicts b e) before a h (none_left (conflicts a e) (list_any (λ b. conflicts b e) rest) i)) (none_right (conflicts a e) (list_any (λ b. conflicts b e) rest) i))

unhindered : (e : Asking) (before rest : List Asking) → some_grant (λ a. conflicts a e) before rest ≡ false → some_waiter (λ a. same_queue a e) before rest ≡ false → list_any (λ b. conflicts b e) rest ≡ false
unhindered e before [] h i = refl
unhindered e before (a ∷ rest) h i = at (free before a) (same_queue a e) (is_exclusive a.kind || is_exclusive e.kind) h i (λ j k. unhindered e (before ++ a ∷ []) rest j k)
  where
    at : (t u w : Bool) {x y z : Bool} → ((t && (u && w)) || x) ≡ false → ((not t && u) || y) ≡ false → (x ≡ false → y ≡ false → z ≡ false) → ((u && w) || z) ≡ false
    at true true true h i f = absurd (cc)
    at true true false h i f = f h i
    at true false w h i f = f h i
    at false true w h i f = absurd (cc)
    at false false w h i f = f h i

-- an ask that needn't wait has its grant
pub has_it : (asks : List Asking) (e : Asking) → has_to_wait asks e ≡ false → HasIt (asks ++ e ∷ []) e
has_it asks e free = placed (λ a. covers a e.number e.gfid e.domain e.kind) e (covered e) [] asks refl (unhindered e [] asks (none_left (some_grant (λ a. conflicts a e) [] asks) (some_waiter (λ a. same_queue a e) [] asks) free) (none_right (some_grant (λ a. conflicts a e) [] asks) (some_waiter (λ a. same_queue a e) [] asks) free))

each_in : (whole xs : List Asking) → ((p : Asking → Bool) → list_any p xs ≡ true → list_any p whole ≡ true) → Each (λ a. list_any (λ y. covers y a.number a.gfid a.domain a.kind) whole ≡ true) xs
each_in whole [] up = tt
each_in whole (a ∷ xs) up = (up (λ y. covers y a.number a.gfid a.domain a.kind) (or_left (covers a a.number a.gfid a.domain a.kind) (list_any (λ y. covers y a.number a.gfid a.domain a.kind) xs) (covered a)), each_in whole xs (λ p h. up p (or_right (p a) (list_any p xs) h)))

-- and so has each that is let in as others leave
pub let_in_have : (l : Leaving) (asks : List Asking) → Each (HasIt (filter (stays l) asks)) (let_in l [] asks)
let_in_have l asks = each_map (λ a. list_any (λ y. covers y a.number a.gfid a.domain a.kind) (let_in l [] asks) ≡ true) (HasIt (filter (stays l) asks)) (λ a h. laws.granted_after l asks (λ y. covers y a.number a.gfid a.domain a.kind) ∙ or_right (some_grant (λ y. stays l y && covers y a.number a.gfid a.domain a.kind) [] asks) (list_any (λ y. covers y a.number a.gfid a.domain a.kind) (let_in l [] asks)) h) (let_in l [] asks) (each_in (let_in l [] asks) (let_in l [] asks) (λ p h. h))
