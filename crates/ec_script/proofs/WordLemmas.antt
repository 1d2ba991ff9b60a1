-- Words of a line, and the pieces around a place.
use Rattle.std.proofs.Common.{◌≡◌, ℕ, ◌+◌, ◌<◌, ◌≤◌, Bool, true, false, List, [], ◌∷◌, ◌++◌, Option, Some, None, length, take, drop, get_or, refl, sym, ap, ◌∙◌, arith, inl, inr, not, append_assoc, append-nil, length-append}
use Rattle.std.specs.Prelude.{if◌then◌else◌, nat_lt, nat_eq, IfSome}
use Rattle.std.specs.List.{position_or_len, slice_split}
use Rattle.std.proofs.lemmas.List.Sums.{position_or_len_is, prefix_len-le-length, fails_before_first}
use Rattle.std.proofs.lemmas.List.{take_all, take-append-le, length-map, get_or-map}
use Rattle.std.proofs.lemmas.Bool.{cases_lt, lt-ltb, le-ltb}
use Rattle.std.proofs.lemmas.List.Splits.{slice_split_first, slice_split_none}
use Rattle.ec_script.specs.Words.{Placed, is_blank, one_word, pieces, placed}

-- the words of a line by their number and places
pub ruleset seen_words = (length-map, get_or-map)

pub found_at : (p : ℕ → Bool) (xs : List ℕ) (i : ℕ) → i < length xs → ((k : ℕ) → k < i → p (get_or xs k 0) ≡ false) → p (get_or xs i 0) ≡ true → i ≡ position_or_len p xs
found_at p xs i h before here = sym (position_or_len_is p xs i 0 (omega arith) before (λ l. here))

pub found_nowhere : (p : ℕ → Bool) (xs : List ℕ) (i : ℕ) → length xs ≤ i → ((k : ℕ) → k < i → p (get_or xs k 0) ≡ false) → length xs ≡ position_or_len p xs
found_nowhere p xs i h before = sym (position_or_len_is p xs (length xs) 0 (omega arith) (λ k l. before k (omega arith)) (λ l. absurd (omega (arith, l))))

pub position_le : (p : ℕ → Bool) (xs : List ℕ) → position_or_len p xs ≤ length xs
position_le p xs = prefix_len-le-length (λ x. not (p x)) xs

-- the pieces of a text around the first byte that divides it
pub pieces_around : (p : ℕ → Bool) (xs front : List ℕ) (place : ℕ) (rest : Option (List ℕ)) → place ≡ position_or_len p xs → front ≡ take place xs
    → rest ≡ (if nat_lt place (length xs) then Some (drop (place + 1) xs) else None) → slice_split p xs ≡ front ∷ pieces p rest
pieces_around p xs front place rest at front_is rest_is =
    elim (cases_lt place (length xs)) [
      | inl below ↦
          let found : position_or_len p xs < length xs = rw (← at) below in
          rw (rest_is, lt-ltb place (length xs) below, front_is, at) (slice_split_first p xs 0 found)
      | inr above ↦
          let whole : take place xs ≡ xs = take_all place xs above in
          rw (rest_is, le-ltb place (length xs) above, front_is, whole)
          (slice_split_none p xs (λ k d l. fails_before_first p xs k d (omega (arith, at))))
    ]

pub no_words : (at : ℕ) → placed at [] ≡ []
unfolding placed
no_words at = refl

-- the words of the pieces behind the first
pub next_word : (at : ℕ) (piece : List ℕ) (parts : List (List ℕ)) → placed at (piece ∷ parts) ≡ one_word at piece ++ placed (at + (length piece + 1)) parts
unfolding placed
next_word at piece parts = refl

-- the words of a rest, a piece less
pub next_rest : (at : ℕ) (text piece : List ℕ) (rest : Option (List ℕ)) → slice_split is_blank text ≡ piece ∷ pieces is_blank rest
    → placed at (pieces is_blank (Some text)) ≡ one_word at piece ++ placed (at + (length piece + 1)) (pieces is_blank rest)
next_rest at text piece rest e = ap (placed at) e ∙ next_word at piece (pieces is_blank rest)

-- how many words a piece is
pub one_word_len : (at : ℕ) (piece : List ℕ) → length (one_word at piece) ≤ 1
one_word_len at piece = at_most (nat_eq (length piece) 0) (record { place = at; text = piece }) where
  at_most : (t : Bool) (w : Placed) → length (if t then [] else w ∷ []) ≤ 1
  at_most true w = omega arith
  at_most false w = omega arith

-- the words so far, a piece more, and how many there are
pub few_words : (new old : List Placed) (at : ℕ) (piece : List ℕ) → new ≡ old ++ one_word at piece → length old < 9 → length new ≤ 9
few_words new old at piece e few = omega (arith, ap length e, length-append old (one_word at piece), one_word_len at piece, few)

pub more_words : (all old new rest : List Placed) (at : ℕ) (piece : List ℕ) → all ≡ old ++ (one_word at piece ++ rest) → new ≡ old ++ one_word at piece → all ≡ new ++ rest
more_words all old new rest at piece e f = e ∙ sym (append_assoc old (one_word at piece) rest) ∙ ap (λ ws. ws ++ rest) (sym f)

-- the first words of a line, where there are n of them
pub first_words : (all found rest : List Placed) (n : ℕ) → all ≡ found ++ rest → length found ≡ n → found ≡ take n all
first_words all found rest n parts size =
    sym (rw parts (take-append-le {A = Placed} n found rest (omega (arith, size)) ∙ take_all n found (omega (arith, size))))

pub all_words : (all found : List Placed) (n : ℕ) → all ≡ found ++ [] → length found < n → found ≡ take n all
all_words all found n parts size = sym (rw (parts, append-nil found) (take_all n found (omega (arith, size))))

-- no words are none of a piece either
pub none_of_piece : (old word rest : List Placed) → [] ≡ old ++ (word ++ rest) → word ≡ []
none_of_piece [] [] rest e = refl
none_of_piece [] (w ∷ ws) rest e = cc
none_of_piece (o ∷ os) word rest e = cc

-- the rest behind a piece ends where the line does
pub inside_rest : {A : Type 0} (o : Option A) (size : A → ℕ) (at piece text line : ℕ) → IfSome o (λ r. piece + size r + 1 ≡ text) → at + text ≤ line → IfSome o (λ r. at + (piece + 1) + size r ≤ line)
inside_rest None size at piece text line h l = tt
inside_rest (Some r) size at piece text line h l = omega (arith, h)

pub next_parts : (all old : List Placed) (at : ℕ) (o : Option (List ℕ)) (text piece : List ℕ) (rest : Option (List ℕ)) → all ≡ old ++ placed at (pieces is_blank o) → o ≡ Some text → slice_split is_blank text ≡ piece ∷ pieces is_blank rest
    → all ≡ old ++ (one_word at piece ++ placed (at + (length piece + 1)) (pieces is_blank rest))
next_parts all old at o text piece rest e f g = e ∙ ap (λ o. old ++ placed at (pieces is_blank o)) f ∙ ap (λ ws. old ++ ws) (next_rest at text piece rest g)

pub below_rest : {A : Type 0} (o : Option A) (size : A → ℕ) (at piece text most : ℕ) → IfSome o (λ r. piece + size r + 1 ≡ text) → at + text < most → IfSome o (λ r. at + (piece + 1) + size r < most)
below_rest None size at piece text most h l = tt
below_rest (Some r) size at piece text most h l = omega (arith, h)
