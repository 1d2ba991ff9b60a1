-- What stays true of the messages in flight, of their numbers and of their places, as one is sent or taken.
use Rattle.std.proofs.Common.{◌≡◌, ℕ, ◌+◌, ◌<◌, ◌≤◌, Bool, true, false, cond, Option, None, Some, is_some, ◌==◌, ◌&&◌, refl, sym, ap, subst, ◌∙◌, arith}
use Rattle.std.proofs.lemmas.Bool.Decides.{nat_tests}
use Rattle.std.specs.Bool.{beq}
use Rattle.std.specs.Cmp.{unsigned_tied}
use Rattle.std.specs.Ordering.{bool_cmp, is_eq, nat_cmp, ordering_then}
use Rattle.std.specs.declared.cmp.Ordering.{Ordering}
use Rattle.std.specs.declared.cmp.Ordering.TheVariants.{Less, Equal, Greater}
use Rattle.ec_wire.specs.Lanes.{IsIndexed, goes_between, is_going, is_to_brick, place_of, with_message}
use Rattle.ec_wire.specs.Places.{IsLowest, place_cmp, with_number, with_place}
use Rattle.ec_wire.specs.declared.message.Message.{Message}
use Rattle.ec_wire.specs.declared.places.Place.{Place}

equal_then : (o r : Ordering) → is_eq (ordering_then o r) ≡ (is_eq o && is_eq r)
equal_then Less r = refl
equal_then Equal r = refl
equal_then Greater r = refl

equal_directions : (a b : Bool) → is_eq (bool_cmp a b) ≡ beq a b
equal_directions false false = refl
equal_directions false true = refl
equal_directions true false = refl
equal_directions true true = refl

equal_by : (a b : ℕ) (r : Ordering) (e : Bool) → is_eq r ≡ e → is_eq (ordering_then (nat_cmp a b) r) ≡ ((a == b) && e)
equal_by a b r e h = equal_then (nat_cmp a b) r ∙ λ i. unsigned_tied a b i && h i

and_last : (a b c : Bool) → (a && (b && (c && true))) ≡ ((a && b) && c)
and_last true true true = refl
and_last true true false = refl
and_last true false c = refl
and_last false b c = refl

and_none : (a b c : Bool) → (a && (b && (c && false))) ≡ false
and_none true true true = refl
and_none true true false = refl
and_none true false c = refl
and_none false b c = refl

-- places are equal where their fields are
equal_places : (m : Message) (q : Place) → is_eq (place_cmp (place_of m) q) ≡ ((m.client == q.client) && ((m.brick == q.brick) && (beq (is_to_brick m.body) q.to_brick && (m.no == q.no))))
equal_places m q = equal_by m.client q.client _ _ (equal_by m.brick q.brick _ _ (equal_then (bool_cmp (is_to_brick m.body) q.to_brick) (nat_cmp m.no q.no) ∙ λ i. equal_directions (is_to_brick m.body) q.to_brick i && unsigned_tied m.no q.no i))

equal_at : (m : Message) (q : Place) → (m.no == q.no) ≡ true → is_eq (place_cmp (place_of m) q) ≡ goes_between q.client q.brick q.to_brick m
equal_at m q e = equal_places m q ∙ ap (λ b. (m.client == q.client) && ((m.brick == q.brick) && (beq (is_to_brick m.body) q.to_brick && b))) e ∙ and_last (m.client == q.client) (m.brick == q.brick) (beq (is_to_brick m.body) q.to_brick)

equal_off : (m : Message) (q : Place) → (m.no == q.no) ≡ false → is_eq (place_cmp (place_of m) q) ≡ false
equal_off m q e = equal_places m q ∙ ap (λ b. (m.client == q.client) && ((m.brick == q.brick) && (beq (is_to_brick m.body) q.to_brick && b))) e ∙ and_none (m.client == q.client) (m.brick == q.brick) (beq (is_to_brick m.body) q.to_brick)

cond_true : (b : Bool) → cond b true false ≡ b
cond_true true = refl
cond_true false = refl

cond_false : (b : Bool) → cond b false b ≡ false
cond_false true = refl
cond_false false = refl

turned : (a b : ℕ) (r : Bool) → (a == b) ≡ r → (b == a) ≡ r
turned a b true e = grind (arith, nat_tests)
turned a b false e = grind (arith, nat_tests)

is_number : (a b : ℕ) → (a == b) ≡ true → a ≡ b
is_number a b e = grind (arith, nat_tests)

abbrev number_in : Option Message → ℕ
number_in None = 0
number_in (Some m) = m.no

moved : (messages messages_after : ℕ → Option Message) (next : ℕ) (numbers numbers_after : ℕ → Bool) (places places_after : Place → Bool) → messages_after ≡ messages → numbers_after ≡ numbers → places_after ≡ places → IsIndexed messages next numbers places → IsIndexed messages_after next numbers_after places_after
moved messages messages_after next numbers numbers_after places places_after e f g h = subst (λ x. IsIndexed x next numbers_after places_after) (sym e) (subst (λ x. IsIndexed messages next x places_after) (sym f) (subst (λ x. IsIndexed messages next numbers x) (sym g) h))

module _ (messages : ℕ → Option Message) (next : ℕ) (numbers : ℕ → Bool) (places : Place → Bool) (indexed : IsIndexed messages next numbers places) where
  -- the next number is free
  fresh : messages next ≡ None
  fresh = go (messages next) refl where
    go : (o : Option Message) → messages next ≡ o → o ≡ None
    go None e = refl
    go (Some x) e = absurd (omega (arith, (indexed.numbered next x e).2))

  module _ (m : Message) where
    abbrev going : Place → Option Message → Bool
    going p o = is_going p.client p.brick p.to_brick o

    -- a place of this number is that of the message of this number
    at : (o : Option Message) → messages m.no ≡ o → (p : Place) → (m.no == p.no) ≡ true → places p ≡ going p o
    at o e p s = indexed.is_place p ∙ ap (λ i. going p (messages i)) (sym (is_number m.no p.no s)) ∙ ap (going p) e

    beside : (o : Option Message) (on : Bool) (p : Place) → (m.no == p.no) ≡ false → with_place places (place_of m) on p ≡ going p (with_message messages m.no o p.no)
    beside o on p e = ap (λ b. cond b on (places p)) (equal_off m p e) ∙ indexed.is_place p ∙ ap (λ b. going p (cond b o (messages p.no))) (sym (turned m.no p.no false e))

    places_sent : messages m.no ≡ None → (p : Place) → with_place places (place_of m) true p ≡ going p (with_message messages m.no (Some m) p.no)
    places_sent none p = go (m.no == p.no) refl where
      go : (b : Bool) → (m.no == p.no) ≡ b → with_place places (place_of m) true p ≡ going p (with_message messages m.no (Some m) p.no)
      go true e = (λ i. cond (equal_at m p e i) true (at None none p e i)) ∙ cond_true (goes_between p.client p.brick p.to_brick m) ∙ ap (λ b. going p (cond b (Some m) (messages p.no))) (sym (turned m.no p.no true e))
      go false e = beside (Some m) true p e

    places_taken : messages m.no ≡ Some m → (p : Place) → with_place places (place_of m) false p ≡ going p (with_message messages m.no None p.no)
    places_taken there p = go (m.no == p.no) refl where
      go : (b : Bool) → (m.no == p.no) ≡ b → with_place places (place_of m) false p ≡ going p (with_message messages m.no None p.no)
      go true e = (λ i. cond (equal_at m p e i) false (at (Some m) there p e i)) ∙ cond_false (goes_between p.client p.brick p.to_brick m) ∙ ap (λ b. going p (cond b None (messages p.no))) (sym (turned m.no p.no true e))
      go false e = beside None false p e

    -- a place that was put in and is taken out again
    places_undone : messages m.no ≡ None → (p : Place) → with_place (with_place places (place_of m) true) (place_of m) false p ≡ going p (messages p.no)
    places_undone none p = go (m.no == p.no) refl where
      out : (b : Bool) → cond b false (cond b true (places p)) ≡ cond b false (places p)
      out true = refl
      out false = refl

      never : (b : Bool) → cond b false false ≡ false
      never true = refl
      never false = refl

      go : (b : Bool) → (m.no == p.no) ≡ b → with_place (with_place places (place_of m) true) (place_of m) false p ≡ going p (messages p.no)
      go true e = out (is_eq (place_cmp (place_of m) p)) ∙ ap (cond (is_eq (place_cmp (place_of m) p)) false) (at None none p e) ∙ never (is_eq (place_cmp (place_of m) p)) ∙ sym (at None none p e) ∙ indexed.is_place p
      go false e = out (is_eq (place_cmp (place_of m) p)) ∙ ap (λ b. cond b false (places p)) (equal_off m p e) ∙ indexed.is_place p

  indexed_sent : (m : Message) → m.no ≡ next → IsIndexed (with_message messages m.no (Some m)) (next + 1) (with_number numbers m.no true) (with_place places (place_of m) true)
  indexed_sent m own = record { from_one = omega arith; numbered = λ i x. number i x (i == m.no) refl; is_number = λ i. alike i (i == m.no); is_place = places_sent m (ap messages own ∙ fresh) } where
    number : (i : ℕ) (x : Message) (b : Bool) → (i == m.no) ≡ b → cond b (Some m) (messages i) ≡ Some x → (x.no ≡ i) × (1 ≤ i) × (i < next + 1)
    number i x true e s = let w = is_number i m.no e in let h = indexed.from_one in (sym (ap number_in s) ∙ sym w, omega arith, omega arith)
    number i x false e s = let w = indexed.numbered i x s in (w.0, w.1, omega arith)

    alike : (i : ℕ) (b : Bool) → cond b true (numbers i) ≡ is_some (cond b (Some m) (messages i))
    alike i true = refl
    alike i false = indexed.is_number i

  indexed_taken : (m : Message) → messages m.no ≡ Some m → IsIndexed (with_message messages m.no None) next (with_number numbers m.no false) (with_place places (place_of m) false)
  indexed_taken m there = record { from_one = indexed.from_one; numbered = λ i x. number i x (i == m.no); is_number = λ i. alike i (i == m.no); is_place = places_taken m there } where
    number : (i : ℕ) (x : Message) (b : Bool) → cond b None (messages i) ≡ Some x → (x.no ≡ i) × (1 ≤ i) × (i < next)
    number i x true s = cc
    number i x false s = indexed.numbered i x s

    alike : (i : ℕ) (b : Bool) → cond b false (numbers i) ≡ is_some (cond b None (messages i))
    alike i true = refl
    alike i false = indexed.is_number i

  indexed_undone : (m : Message) → m.no ≡ next → IsIndexed messages next (with_number (with_number numbers m.no true) m.no false) (with_place (with_place places (place_of m) true) (place_of m) false)
  indexed_undone m own = record { from_one = indexed.from_one; numbered = indexed.numbered; is_number = λ i. alike i (i == m.no) refl; is_place = places_undone m none } where
    none : messages m.no ≡ None
    none = ap messages own ∙ fresh

    alike : (i : ℕ) (b : Bool) → (i == m.no) ≡ b → cond b false (cond b true (numbers i)) ≡ is_some (messages i)
    alike i true e = sym (ap is_some (ap messages (is_number i m.no e) ∙ none))
    alike i false e = indexed.is_number i

  module _ (messages_after : ℕ → Option Message) (numbers_after : ℕ → Bool) (places_after : Place → Bool) (m : Message) (p : Place) (is : p ≡ place_of m) where
    numbers_are : (before after : ℕ → Bool) (on : Bool) → after ≡ with_number before p.no on → after ≡ with_number before m.no on
    numbers_are before after on f = f ∙ ap (λ q. with_number before q.no on) is

    places_are : (before after : Place → Bool) (on : Bool) → after ≡ with_place before p on → after ≡ with_place before (place_of m) on
    places_are before after on f = f ∙ ap (λ q. with_place before q on) is

    messages_are : (o : Option Message) → ((i : ℕ) → messages_after i ≡ cond (m.no == i) o (messages i)) → messages_after ≡ with_message messages m.no o
    messages_are o e = λ k i. (e i ∙ ap (λ b. cond b o (messages i)) (turned i m.no (i == m.no) refl)) k

    pub sent : m.no ≡ next → ((i : ℕ) → messages_after i ≡ cond (m.no == i) (Some m) (messages i)) → numbers_after ≡ with_number numbers p.no true → places_after ≡ with_place places p true → IsIndexed messages_after (next + 1) numbers_after places_after
    sent own e f g = moved (with_message messages m.no (Some m)) messages_after (next + 1) (with_number numbers m.no true) numbers_after (with_place places (place_of m) true) places_after (messages_are (Some m) e) (numbers_are numbers numbers_after true f) (places_are places places_after true g) (indexed_sent m own)

    pub taken : (n : ℕ) → messages n ≡ Some m → ((i : ℕ) → messages_after i ≡ cond (n == i) None (messages i)) → numbers_after ≡ with_number numbers p.no false → places_after ≡ with_place places p false → IsIndexed messages_after next numbers_after places_after
    taken n there e f g =
        let own = (indexed.numbered n m there).0 in
        moved (with_message messages m.no None) messages_after next (with_number numbers m.no false) numbers_after (with_place places (place_of m) false) places_after (messages_are None (λ i. e i ∙ ap (λ x. cond (x == i) None (messages i)) (sym own))) (numbers_are numbers numbers_after false f) (places_are places places_after false g) (indexed_taken m (ap messages own ∙ there))

    pub undone : m.no ≡ next → messages_after ≡ messages → (numbers_between : ℕ → Bool) (places_between : Place → Bool) → numbers_between ≡ with_number numbers p.no true → places_between ≡ with_place places p true → numbers_after ≡ with_number numbers_between p.no false → places_after ≡ with_place places_between p false → IsIndexed messages_after next numbers_after places_after
    undone own e numbers_between places_between f g u v = moved messages messages_after next (with_number (with_number numbers m.no true) m.no false) numbers_after (with_place (with_place places (place_of m) true) (place_of m) false) places_after e (numbers_are numbers_between numbers_after false u ∙ ap (λ s. with_number s m.no false) (numbers_are numbers numbers_between true f)) (places_are places_between places_after false v ∙ ap (λ s. with_place s (place_of m) false) (places_are places places_between true g)) (indexed_undone m own)

-- tests that agree have one lowest number
pub lowest_alike : (f g : ℕ → Bool) → ((i : ℕ) → f i ≡ g i) → (o : Option ℕ) → IsLowest f o → IsLowest g o
lowest_alike f g e o h = subst (λ t. IsLowest t o) (λ k i. e i k) h
