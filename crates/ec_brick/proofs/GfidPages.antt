-- A page of gfids, filled one gfid at a time.
use Rattle.std.proofs.Common.{◌≡◌, inl, inr, ℕ, ◌+◌, ◌<◌, ◌≤◌, Bool, true, false, ◌==◌, ◌&&◌, ◌||◌, nat_lt, Option, Some, None, List, [], ◌∷◌, ◌++◌, length, refl, sym, ◌∙◌, ap, subst, arith}
use Rattle.std.proofs.lemmas.List.{length-append}
use Rattle.std.proofs.lemmas.Bool.Decides.{nat_tests}
use Rattle.ec_attr.specs.declared.gfid.Gfid.{Gfid}
use Rattle.ec_brick.specs.Gfids.{IsGfidPage, IsNextGfid, IsPageStart, gfids_rise, is_above, is_listed, last_gfid}

last_more : (after : Option Gfid) (list : List Gfid) (n : Gfid) → last_gfid after (list ++ n ∷ []) ≡ Some n
last_more after [] n = refl
last_more after (g ∷ list) n = last_more (Some g) list n

rise_more : (after : Option Gfid) (list : List Gfid) (n : Gfid) → gfids_rise after (list ++ n ∷ []) ≡ (gfids_rise after list && is_above (last_gfid after list) n.0)
rise_more after [] n = grind arith
rise_more after (g ∷ list) n = let more = rise_more (Some g) list n in grind arith

listed_more : (list : List Gfid) (n : Gfid) (g : ℕ) → is_listed (list ++ n ∷ []) g ≡ (is_listed list g || (n.0 == g))
listed_more [] n g = grind arith
listed_more (x ∷ list) n g = let more = listed_more list n g in grind arith

-- what is above a later gfid is above the one before it
above_more : (last : Option Gfid) (n g : ℕ) → is_above last n ≡ true → n < g → is_above last g ≡ true
above_more None n g a lt = refl
above_more (Some x) n g a lt = grind (arith, nat_tests)

pub start : (after : Option Gfid) (set : ℕ → Bool) → IsPageStart after set []
start after set = record { shows = λ g a b. grind arith; ends = λ g a. refl }

pub rises : (after last : Option Gfid) (list : List Gfid) (n : Gfid) → last ≡ last_gfid after list → gfids_rise after list ≡ true → is_above last n.0 ≡ true → gfids_rise after (list ++ n ∷ []) ≡ true
rises after last list n e r a = let more = rise_more after list n in let above : is_above (last_gfid after list) n.0 ≡ true = ap (λ x. is_above x n.0) (sym e) ∙ a in grind arith

pub lasts : (after : Option Gfid) (list : List Gfid) (n : Gfid) → Some n ≡ last_gfid after (list ++ n ∷ [])
lasts after list n = sym (last_more after list n)

-- a gfid that isn't past the new last one is it, or lies before it
shows_more : (set : ℕ → Bool) (last : Option Gfid) (list : List Gfid) (n : Gfid) (g : ℕ) → IsNextGfid set last (Some n) → (is_above last g ≡ false → is_listed list g ≡ set g) → (is_above last g ≡ true → is_listed list g ≡ false) → nat_lt n.0 g ≡ false → is_listed (list ++ n ∷ []) g ≡ set g
shows_more set last list n g next shows ends upto = listed_more list n g ∙ elim (is_above last g) as (λ b. (is_above last g ≡ b) → (is_listed list g || (n.0 == g)) ≡ set g) [ true ↦ λ e. past e | false ↦ λ e. before e ] refl where
  past : is_above last g ≡ true → (is_listed list g || (n.0 == g)) ≡ set g
  past e = elim (n.0 == g) as (λ b. ((n.0 == g) ≡ b) → (is_listed list g || b) ≡ set g) [ true ↦ λ same. (let here : n.0 ≡ g = grind (arith, nat_tests) in let in_set : set g ≡ true = subst (λ x. set x ≡ true) here next.1 in let out = ends e in grind arith) | false ↦ λ other. (let below : g < n.0 = grind (arith, nat_tests) in let none = next.2 g e below in let out = ends e in grind arith) ] refl

  before : is_above last g ≡ false → (is_listed list g || (n.0 == g)) ≡ set g
  before e = let not_here : (n.0 == g) ≡ false = elim (n.0 == g) as (λ b. ((n.0 == g) ≡ b) → b ≡ false) [ true ↦ λ same. (let here : n.0 ≡ g = grind (arith, nat_tests) in let above : is_above last g ≡ true = subst (λ x. is_above last x ≡ true) here next.0 in cc) | false ↦ λ other. refl ] refl in let is = shows e in grind arith

pub page_more : (after last : Option Gfid) (set : ℕ → Bool) (list : List Gfid) (n : Gfid) → last ≡ last_gfid after list → IsPageStart after set list → IsNextGfid set last (Some n) → IsPageStart after set (list ++ n ∷ [])
page_more after last set list n e p next = record { shows = λ g a b. shows_more set last list n g next (λ not. p.shows g a (ap (λ x. is_above x g) (sym e) ∙ not)) (λ above. p.ends g (ap (λ x. is_above x g) (sym e) ∙ above)) (ap (λ x. is_above x g) (sym (last_more after list n)) ∙ b); ends = λ g a. ends g (ap (λ x. is_above x g) (sym (last_more after list n)) ∙ a) } where
  ends : (g : ℕ) → nat_lt n.0 g ≡ true → is_listed (list ++ n ∷ []) g ≡ false
  ends g a = let less : n.0 < g = grind (arith, nat_tests) in let out = p.ends g (ap (λ x. is_above x g) (sym e) ∙ above_more last n.0 g next.0 less) in let more = listed_more list n g in let other : (n.0 == g) ≡ false = grind (arith, nat_tests) in grind arith

-- where no more gfid comes
pub page_ends : (after last : Option Gfid) (set : ℕ → Bool) (list : List Gfid) → last ≡ last_gfid after list → length list ≤ 64 → gfids_rise after list ≡ true → IsPageStart after set list → IsNextGfid set last None → IsGfidPage after set list
page_ends after last set list e few rise p none = record { few = few; rise = rise; shows = λ g a b. elim (is_above (last_gfid after list) g) as (λ t. (is_above (last_gfid after list) g ≡ t) → is_listed list g ≡ set g) [ true ↦ λ above. p.ends g above ∙ sym (none g (ap (λ x. is_above x g) e ∙ above)) | false ↦ λ not. p.shows g a not ] refl }

-- where it is full
pub page_full : (after : Option Gfid) (set : ℕ → Bool) (list : List Gfid) → 64 ≡ length list → gfids_rise after list ≡ true → IsPageStart after set list → IsGfidPage after set list
page_full after set list full rise p = record { few = omega arith; rise = rise; shows = λ g a b. p.shows g a (elim b [ inl short ↦ absurd (omega arith) | inr not ↦ not ]) }

-- one gfid more
pub filled_more : (after last : Option Gfid) (set : ℕ → Bool) (list new : List Gfid) (n : Gfid) (k : ℕ) → new ≡ list ++ n ∷ [] → length list ≡ k → last ≡ last_gfid after list → is_above last n.0 ≡ true → gfids_rise after list ≡ true → (length new ≡ k + 1) × (Some n ≡ last_gfid after new) × (gfids_rise after new ≡ true)
filled_more after last set list new n k e len at above rise = (ap length e ∙ grind (arith, length-append list (n ∷ [])), sym (ap (last_gfid after) e ∙ last_more after list n), ap (gfids_rise after) e ∙ rises after last list n at rise above)

pub page_with : (after last : Option Gfid) (set : ℕ → Bool) (list new : List Gfid) (n : Gfid) → new ≡ list ++ n ∷ [] → last ≡ last_gfid after list → IsPageStart after set list → IsNextGfid set last (Some n) → IsPageStart after set new
page_with after last set list new n e at page next = subst (IsPageStart after set) (sym e) (page_more after last set list n at page next)

-- what a page needs as it is filled
pub ruleset filling = (start, rises, lasts, page_more, page_ends, page_full)
