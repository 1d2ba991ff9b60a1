-- What a longer log says was sent, and where it has each message.
use Rattle.std.proofs.Common.{◌≡◌, ◌≢◌, ◌⊎◌, inl, inr, ⊎_elim, ℕ, suc, zero, ◌+◌, ◌-◌, ◌<◌, ◌≤◌, Option, Some, None, List, [], ◌∷◌, ◌++◌, length, refl, sym, ◌∙◌, ap, arith, length-append}
use Rattle.std.proofs.lemmas.Bool.Decides.{nat_tests}
use Rattle.std.proofs.lemmas.Option.{slice_get_read, slice_get_within}
use Rattle.std.proofs.Math.ListN.{get_or, set}
use Rattle.std.specs.Prelude.{slice_get}
use Rattle.ec_store.specs.Put.{put}
use Rattle.ec_wire.specs.declared.entry.Entry.{Entry}
use Rattle.ec_wire.specs.declared.entry.Entry.TheVariants.{Sent}
use Rattle.ec_wire.specs.declared.message.Message.{Message}
use Rattle.ec_cluster.specs.Said.{message_of, said_after, said_in, said_with}
use Rattle.ec_cluster.specs.Sound.{ArePlaced, IsPlaced}

after_more : (said : ℕ → Option Message) (es : List Entry) (e : Entry) → said_after said (es ++ e ∷ []) ≡ said_with (said_after said es) e
after_more said [] e = refl
after_more said (x ∷ es) e = after_more (said_with said x) es e

-- one entry more
pub said_more : (log : List Entry) (e : Entry) → said_in (log ++ e ∷ []) ≡ said_with (said_in log) e
said_more log e = after_more (λ i. None) log e

pub put_at : {X : Type 0} (f : ℕ → X) (i j : ℕ) (x : X) → j ≡ i → put f i x j ≡ x
put_at f i j x e = grind (arith, nat_tests)

pub put_off : {X : Type 0} (f : ℕ → X) (i j : ℕ) (x : X) → j ≢ i → put f i x j ≡ f j
put_off f i j x e = grind (arith, nat_tests)

pub either : (x y : ℕ) → (x ≡ y) ⊎ (x ≢ y)
either x y = grind arith

-- entries other than Sent say nothing more
pub IsQuiet : Entry → Type 0
IsQuiet e = (said : ℕ → Option Message) → said_with said e ≡ said

pub front_get : {X : Type 0} (xs ys : List X) (i : ℕ) (x : X) → slice_get xs i ≡ Some x → slice_get (xs ++ ys) i ≡ Some x
front_get [] ys i x e = absurd cc
front_get (y ∷ xs) ys zero x e = e
front_get (y ∷ xs) ys (suc i) x e = front_get xs ys i x e

pub end_get : {X : Type 0} (xs : List X) (y : X) → slice_get (xs ++ y ∷ []) (length xs) ≡ Some y
end_get [] y = refl
end_get (x ∷ xs) y = end_get xs y

-- an element of a longer list is of the front or the last
pub got : {X : Type 0} (xs : List X) (y : X) (i : ℕ) (x : X) → slice_get (xs ++ y ∷ []) i ≡ Some x → (slice_get xs i ≡ Some x) ⊎ ((i ≡ length xs) × (x ≡ y))
got [] y zero x e = inr (refl, cc)
got [] y (suc i) x e = absurd cc
got (z ∷ xs) y zero x e = inl e
got (z ∷ xs) y (suc i) x e = ⊎_elim (λ h. inl h) (λ h. inr (ap suc h.0, h.1)) (got xs y i x e)

-- what was sent, as messages get numbers that come later
pub said_before : (log : List Entry) (places : List ℕ) (next i : ℕ) (m : Message) → ArePlaced log places next → said_in log i ≡ Some m → i < next
said_before log places next i m a e = ⊎_elim (λ (h : next ≤ i). absurd (let k = a.none_later i h in cc)) (λ h. h) (grind arith)

pub said_grows : (log : List Entry) (places : List ℕ) (next i : ℕ) (m x : Message) → ArePlaced log places next → x.no ≡ next → said_in log i ≡ Some m → said_in (log ++ Sent x ∷ []) i ≡ Some m
said_grows log places next i m x a n e = let b = said_before log places next i m a e in (λ k. said_more log (Sent x) k i) ∙ put_off (said_in log) x.no i (Some x) (omega arith) ∙ e

placed_grows : (log : List Entry) (places : List ℕ) (next i p : ℕ) (x : Message) → ArePlaced log places next → x.no ≡ next → IsPlaced log i p → IsPlaced (log ++ Sent x ∷ []) i p
placed_grows log places next i p x a n h = record { message = h.message; at = front_get log (Sent x ∷ []) p (Sent h.message) h.at; said = said_grows log places next i h.message x a n h.said }

-- a message more
pub placed_sent : (log : List Entry) (places : List ℕ) (next : ℕ) (x : Message) → ArePlaced log places next → x.no ≡ next → ArePlaced (log ++ Sent x ∷ []) (places ++ length log ∷ []) (next + 1)
placed_sent log places next x a n = record {
  each = λ i p e. ⊎_elim
      (λ h. placed_grows log places next (i + 1) p x a n (a.each i p h))
      (λ (h : (i ≡ length places) × (p ≡ length log)). let k : i + 1 ≡ x.no = omega (arith, a.count, h.0) in record { message = x; at = ap (slice_get (log ++ Sent x ∷ [])) h.1 ∙ end_get log (Sent x); said = (λ j. said_more log (Sent x) j (i + 1)) ∙ put_at (said_in log) x.no (i + 1) (Some x) k })
      (got places (length log) i p e);
  none_later = λ i le. (λ k. said_more log (Sent x) k i) ∙ put_off (said_in log) x.no i (Some x) (omega arith) ∙ a.none_later i (omega arith);
  no_zero = (λ k. said_more log (Sent x) k 0) ∙ put_off (said_in log) x.no 0 (Some x) (omega (arith, a.count)) ∙ a.no_zero;
  count = omega (arith, a.count, length-append places (length log ∷ []));
}

-- another entry more
pub placed_quiet : (log : List Entry) (places : List ℕ) (next : ℕ) (e : Entry) → ArePlaced log places next → said_in (log ++ e ∷ []) ≡ said_in log → ArePlaced (log ++ e ∷ []) places next
placed_quiet log places next e a q = record {
  each = λ i p s. let h = a.each i p s in record { message = h.message; at = front_get log (e ∷ []) p (Sent h.message) h.at; said = (λ k. q k (i + 1)) ∙ h.said };
  none_later = λ i le. (λ k. q k i) ∙ a.none_later i le;
  no_zero = (λ k. q k 0) ∙ a.no_zero;
  count = a.count;
}

-- an element of a list in which one was set
pub set_get : {X : Type 0} (xs : List X) (i j : ℕ) (y x : X) → slice_get (set xs i y) j ≡ Some x → ((j ≡ i) × (x ≡ y)) ⊎ ((j ≢ i) × (slice_get xs j ≡ Some x))
set_get [] i zero y x e = absurd cc
set_get [] i (suc j) y x e = absurd cc
set_get (z ∷ xs) zero zero y x e = inl (refl, cc)
set_get (z ∷ xs) zero (suc j) y x e = inr (λ h. absurd (omega arith), e)
set_get (z ∷ xs) (suc i) zero y x e = inr (λ h. absurd (omega arith), e)
set_get (z ∷ xs) (suc i) (suc j) y x e = ⊎_elim (λ h. inl (ap suc h.0, h.1)) (λ h. inr (λ k. h.0 (omega arith), h.1)) (set_get xs i j y x e)

pub set_at : {X : Type 0} (xs : List X) (i : ℕ) (y : X) → i < length xs → slice_get (set xs i y) i ≡ Some y
set_at [] i y b = absurd (omega arith)
set_at (z ∷ xs) zero y b = refl
set_at (z ∷ xs) (suc i) y b = set_at xs i y (omega arith)

pub set_off : {X : Type 0} (xs : List X) (i j : ℕ) (y : X) → j ≢ i → slice_get (set xs i y) j ≡ slice_get xs j
set_off [] i j y n = refl
set_off (z ∷ xs) zero zero y n = absurd (n refl)
set_off (z ∷ xs) zero (suc j) y n = refl
set_off (z ∷ xs) (suc i) zero y n = refl
set_off (z ∷ xs) (suc i) (suc j) y n = set_off xs i j y (λ h. n (ap suc h))

-- a message is found at its place
pub sent_at : (log : List Entry) (places : List ℕ) (next num place : ℕ) (entry : Entry) → ArePlaced log places next → num ≢ 0 → num - 1 < length places → place ≡ get_or places (num - 1) place → place < length log → entry ≡ get_or log place entry → message_of entry ≡ said_in log num
sent_at log places next num place entry a pos lt is low at =
    let h = a.each (num - 1) place (slice_get_read places (length places) (num - 1) place refl lt is) in
    let e : Some entry ≡ Some (Sent h.message) = sym (slice_get_read log (length log) place entry refl low at) ∙ h.at in
    let is_sent : entry ≡ Sent h.message = cc in
    let n : num - 1 + 1 ≡ num = (let k : 0 < num = grind arith in omega arith) in
    ap message_of is_sent ∙ (sym h.said ∙ ap (said_in log) n)

-- the places are those of entries
pub place_low : (log : List Entry) (places : List ℕ) (next num place : ℕ) → ArePlaced log places next → num - 1 < length places → place ≡ get_or places (num - 1) place → place < length log
place_low log places next num place a lt is = let h = a.each (num - 1) place (slice_get_read places (length places) (num - 1) place refl lt is) in slice_get_within log place (Sent h.message) h.at

pub none_at : (log : List Entry) (places : List ℕ) (next num : ℕ) → ArePlaced log places next → num ≢ 0 → length places ≤ num - 1 → None ≡ said_in log num
none_at log places next num a pos le = sym (a.none_later num (let k : 0 < num = grind arith in omega (arith, a.count)))
