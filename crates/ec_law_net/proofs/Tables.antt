-- The exclusive grant where an ask comes and where asks leave.
use Rattle.std.proofs.Common.{◌≡◌, ◌≢◌, ◌⊎◌, ℕ, Bool, true, false, cond, ◌==◌, ◌&&◌, ◌||◌, Some, List, [], ◌∷◌, ◌++◌, refl, sym, ◌∙◌, ap, arith, inl, inr}
use Rattle.std.proofs.lemmas.Bool.Decides.{nat_tests}
use Rattle.std.specs.Prelude.{filter}
use Rattle.std.specs.List.{list_any}
use Rattle.ec_attr.specs.declared.gfid.Gfid.{Gfid}
use Rattle.ec_attr.specs.declared.kind.Domain.{Domain}
use Rattle.ec_attr.specs.declared.kind.LockKind.TheVariants.{Exclusive}
use Rattle.ec_locks.specs.Table.{covers, free, has, is_exclusive, let_in, same_domain, some_grant, stays}
use Rattle.ec_locks.specs.declared.ask.Ask.{Ask as Asking}
use Rattle.ec_locks.specs.declared.ask.Leaving.{Leaving}
use Rattle.ec_locks.specs.declared.ask.Leaving.TheVariants.{Number, Client}
use Rattle.ec_locks.proofs.Laws.{laws}
use Rattle.ec_wire.specs.declared.message.Message.{Message}
use Rattle.ec_history.specs.Run.{Net}
use Rattle.ec_law_net.specs.Turns.{exclusive, exclusive_from}
use Rattle.ec_law_net.specs.Grants.{AreAsks, IsAskOf}
use Rattle.ec_law_net.proofs.Locks.{found, held}

-- of each ask
abbrev pub Each : (Asking → Type 0) → List Asking → Type 0
Each P [] = Unit {0}
Each P (a ∷ asks) = P a × Each P asks

some_more : (p q : Asking → Bool) (before rest : List Asking) → Each (λ a. p a ≡ true → q a ≡ true) rest → some_grant p before rest ≡ true → some_grant q before rest ≡ true
some_more p q before [] h e = e
some_more p q before (a ∷ rest) h e = let f = some_more p q (before ++ a ∷ []) rest h.1 in let x = h.0 in of (free before a) (p a) (q a) (some_grant p (before ++ a ∷ []) rest) (some_grant q (before ++ a ∷ []) rest) x f e
  where
    of : (t u w x y : Bool) → (u ≡ true → w ≡ true) → (x ≡ true → y ≡ true) → ((t && u) || x) ≡ true → ((t && w) || y) ≡ true
    of t u w x y f h e = grind (arith)

pub each_map : (P Q : Asking → Type 0) → ((a : Asking) → P a → Q a) → (asks : List Asking) → Each P asks → Each Q asks
each_map P Q f [] h = tt
each_map P Q f (a ∷ asks) h = (f a h.0, each_map P Q f asks h.1)

abbrev gfid_of : ℕ → Gfid
gfid_of g = record { 0 = g }

-- a grant stays where another asks
pub kept_append : (g : ℕ) (d : Domain) (asks : List Asking) (e : Asking) (i : ℕ) → exclusive g d asks ≡ Some i → exclusive g d (asks ++ e ∷ []) ≡ Some i
kept_append g d asks e i h = held (gfid_of g) d (asks ++ e ∷ []) i (laws.kept asks e i (gfid_of g) d Exclusive (found (gfid_of g) d [] asks i h))

-- and where others leave
pub kept_filter : (g : ℕ) (d : Domain) (l : Leaving) (asks : List Asking) (i : ℕ) → Each (λ a. a.number ≡ i → stays l a ≡ true) asks → exclusive g d asks ≡ Some i → exclusive g d (filter (stays l) asks) ≡ Some i
kept_filter g d l asks i stay h = held (gfid_of g) d (filter (stays l) asks) i (laws.granted_after l asks (λ a. covers a i (gfid_of g) d Exclusive) ∙ or_left (some_grant (λ a. stays l a && covers a i (gfid_of g) d Exclusive) [] asks) (list_any (λ a. covers a i (gfid_of g) d Exclusive) (let_in l [] asks)) (some_more (λ a. covers a i (gfid_of g) d Exclusive) (λ a. stays l a && covers a i (gfid_of g) d Exclusive) [] asks (each_map (λ a. a.number ≡ i → stays l a ≡ true) (λ a. covers a i (gfid_of g) d Exclusive ≡ true → (stays l a && covers a i (gfid_of g) d Exclusive) ≡ true) (λ a f c. both (stays l a) (covers a i (gfid_of g) d Exclusive) (f (numbered a c)) c) asks stay) (found (gfid_of g) d [] asks i h)))
  where
    or_left : (t u : Bool) → t ≡ true → (t || u) ≡ true
    or_left t u e = rw e refl

    both : (t u : Bool) → t ≡ true → u ≡ true → (t && u) ≡ true
    both t u e f = rw (e, f) refl

    numbered : (a : Asking) → covers a i (gfid_of g) d Exclusive ≡ true → a.number ≡ i
    numbered a c = grind (arith, nat_tests)

pub gone_filter : (p : Asking → Bool) (asks : List Asking) (i : ℕ) → Each (λ a. a.number ≡ i → p a ≡ false) asks → has (filter p asks) i ≡ false
gone_filter p [] i h = refl
gone_filter p (a ∷ asks) i h = at (p a) (a.number == i) refl refl (gone_filter p asks i h.1)
  where
    at : (t u : Bool) → p a ≡ t → (a.number == i) ≡ u → has (filter p asks) i ≡ false → has (cond t (a ∷ filter p asks) (filter p asks)) i ≡ false
    at false u e f r = r
    at true true e f r = absurd (let x = h.0 (grind (arith, nat_tests)) in cc)
    at true false e f r = rw f r

pub missing_filter : (p : Asking → Bool) (asks : List Asking) (i : ℕ) → has asks i ≡ false → has (filter p asks) i ≡ false
missing_filter p [] i h = refl
missing_filter p (a ∷ asks) i h = at (p a) (missing_filter p asks i (second (a.number == i) (has asks i) h))
  where
    first : (t u : Bool) → (t || u) ≡ false → t ≡ false
    first t u e = grind (arith)

    second : (t u : Bool) → (t || u) ≡ false → u ≡ false
    second t u e = grind (arith)

    at : (t : Bool) → has (filter p asks) i ≡ false → has (cond t (a ∷ filter p asks) (filter p asks)) i ≡ false
    at false r = r
    at true r = rw (first (a.number == i) (has asks i) h) r

pub missing_append : (asks : List Asking) (e : Asking) (i : ℕ) → has asks i ≡ false → e.number ≢ i → has (asks ++ e ∷ []) i ≡ false
missing_append [] e i h ne = at (e.number == i) refl
  where
    at : (t : Bool) → (e.number == i) ≡ t → (t || false) ≡ false
    at false f = refl
    at true f = absurd (ne (grind (arith, nat_tests)))
missing_append (a ∷ asks) e i h ne = rw (first (a.number == i) (has asks i) h) (missing_append asks e i (second (a.number == i) (has asks i) h) ne)
  where
    first : (t u : Bool) → (t || u) ≡ false → t ≡ false
    first t u e = grind (arith)

    second : (t u : Bool) → (t || u) ≡ false → u ≡ false
    second t u e = grind (arith)

-- whoever leaves, all asks of one number stay or all go
pub as_one : (m : Net) (b : ℕ) (l : Leaving) (asks : List Asking) (i : ℕ) (msg : Message) → m.said i ≡ Some msg → AreAsks m b asks → Each (λ a. a.number ≡ i → stays l a ≡ true) asks ⊎ Each (λ a. a.number ≡ i → stays l a ≡ false) asks
as_one m b (Number k) asks i msg said are = at (i == k) refl
  where
    all : (P : Asking → Type 0) → ((a : Asking) → P a) → (asks : List Asking) → Each P asks
    all P f [] = tt
    all P f (a ∷ asks) = (f a, all P f asks)

    at : (t : Bool) → (i == k) ≡ t → Each (λ a. a.number ≡ i → stays (Number k) a ≡ true) asks ⊎ Each (λ a. a.number ≡ i → stays (Number k) a ≡ false) asks
    at true e = inr (all (λ a. a.number ≡ i → stays (Number k) a ≡ false) (λ a f. grind (arith, nat_tests)) asks)
    at false e = inl (all (λ a. a.number ≡ i → stays (Number k) a ≡ true) (λ a f. grind (arith, nat_tests)) asks)
as_one m b (Client c) asks i msg said are = at (msg.client == c) refl
  where
    some : (x y : Message) → Some x ≡ Some y → x ≡ y
    some x y f = cc

    one_client : (asks : List Asking) → AreAsks m b asks → Each (λ a. a.number ≡ i → a.client ≡ msg.client) asks
    one_client [] h = tt
    one_client (a ∷ asks) h = (λ e. sym h.0.client ∙ ap (λ (x : Message). x.client) (some h.0.message msg (sym h.0.said ∙ (ap m.said e ∙ said))), one_client asks h.1)

    at : (t : Bool) → (msg.client == c) ≡ t → Each (λ a. a.number ≡ i → stays (Client c) a ≡ true) asks ⊎ Each (λ a. a.number ≡ i → stays (Client c) a ≡ false) asks
    at true e = inr (each_map (λ a. a.number ≡ i → a.client ≡ msg.client) (λ a. a.number ≡ i → stays (Client c) a ≡ false) (λ a f n. let x = f n in grind (arith, nat_tests)) asks (one_client asks are))
    at false e = inl (each_map (λ a. a.number ≡ i → a.client ≡ msg.client) (λ a. a.number ≡ i → stays (Client c) a ≡ true) (λ a f n. let x = f n in grind (arith, nat_tests)) asks (one_client asks are))

-- who has the grant is in the table, and asked for it
pub asked : (m : Net) (b g : ℕ) (d : Domain) (before asks : List Asking) (i : ℕ) → AreAsks m b asks → exclusive_from g d before asks ≡ Some i → (a : Asking) × IsAskOf m b a × (a.number ≡ i) × (a.gfid.0 ≡ g) × (same_domain a.domain d ≡ true) × (has asks i ≡ true)
asked m b g d before [] i are e = absurd (cc)
asked m b g d before (a ∷ asks) i are e = at (free before a && ((a.gfid.0 == g) && same_domain a.domain d && is_exclusive a.kind)) refl (asked m b g d (before ++ a ∷ []) asks i are.1) e
  where
    at : (t : Bool) → (free before a && ((a.gfid.0 == g) && same_domain a.domain d && is_exclusive a.kind)) ≡ t → (exclusive_from g d (before ++ a ∷ []) asks ≡ Some i → (a : Asking) × IsAskOf m b a × (a.number ≡ i) × (a.gfid.0 ≡ g) × (same_domain a.domain d ≡ true) × (has asks i ≡ true)) → cond t (Some a.number) (exclusive_from g d (before ++ a ∷ []) asks) ≡ Some i → (x : Asking) × IsAskOf m b x × (x.number ≡ i) × (x.gfid.0 ≡ g) × (same_domain x.domain d ≡ true) × (has (a ∷ asks) i ≡ true)
    at true f r h = (a, are.0, grind (arith), grind (arith, nat_tests), grind (arith, nat_tests), grind (arith, nat_tests))
    at false f r h = let o = r h in (o.0, o.1, o.2, o.3, o.4, or_right (a.number == i) (has asks i) o.5)
      where
        or_right : (t u : Bool) → u ≡ true → (t || u) ≡ true
        or_right t u e = grind (arith)
