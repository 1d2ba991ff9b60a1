-- The words of a line that is printed.
use Rattle.std.proofs.Common.{◌≡◌, ℕ, zero, suc, ◌+◌, ◌-◌, ◌<◌, Bool, true, false, ◌&&◌, ◌||◌, not, List, [], ◌∷◌, ◌++◌, length, get_or, refl, ap, ◌∙◌, arith, append-nil, length-append}
use Rattle.std.specs.Prelude.{nat_eq, if◌then◌else◌, slice_index, take}
use Rattle.std.specs.List.{All, list_all, slice_split}
use Rattle.std.proofs.lemmas.Bool.{and_parts, and_from, ne_eqb}
use Rattle.std.proofs.lemmas.Bool.Decides.{nat_tests}
use Rattle.std.proofs.lemmas.List.Folds.{list_all-append}
use Rattle.std.proofs.lemmas.List.Splits.{slice_split_at, slice_split_none}
use Rattle.std.proofs.lemmas.List.Sums.{AllPass-from_list_all}
use Rattle.ec_wire.specs.Words.{behind, divided, spaced}
use Rattle.ec_script.specs.Words.{Placed, is_blank, placed, without_return, words}

-- a test that another one implies, of each byte
pub all_weaker : (p q : ℕ → Bool) → ((b : ℕ) → p b ≡ true → q b ≡ true) → (w : List ℕ) → list_all p w ≡ true → list_all q w ≡ true
all_weaker p q imp [] h = refl
all_weaker p q imp (b ∷ w) h =
    let parts = and_parts (p b) (list_all p w) h in
    and_from (q b) (list_all q w) (imp b parts.0) (all_weaker p q imp w parts.1)

-- the byte at a place, or 0
pub holds_at : (p : ℕ → Bool) (w : List ℕ) (i : ℕ) → p 0 ≡ true → list_all p w ≡ true → p (get_or w i 0) ≡ true
holds_at p [] i z h = z
holds_at p (b ∷ w) zero z h = (and_parts (p b) (list_all p w) h).0
holds_at p (b ∷ w) (suc i) z h = holds_at p w i z (and_parts (p b) (list_all p w) h).1

-- every word of a list has a property
abbrev pub Each : (List ℕ → Type 0) → List (List ℕ) → Type 0
Each P [] = Unit {0}
Each P (w ∷ ws) = P w × Each P ws

-- no byte of a piece is one at which a text is split
abbrev pub IsPiece : (ℕ → Bool) → List ℕ → Type 0
IsPiece p w = All (λ b. p b ≡ false) w

-- pieces that are joined by a byte are found again
pub split_joined : (p : ℕ → Bool) (mark : ℕ) (w : List ℕ) (ws : List (List ℕ)) → p mark ≡ true → IsPiece p w → Each (IsPiece p) ws → slice_split p (divided mark (w ∷ ws)) ≡ w ∷ ws
unfolding divided behind
split_joined p mark w [] m h hs = ap (slice_split p) (append-nil w) ∙ slice_split_none p w h
split_joined p mark w (v ∷ vs) m h hs = slice_split_at p w mark (v ++ behind mark vs) h m ∙ ap (λ ps. w ∷ ps) (split_joined p mark v vs m hs.0 hs.1)

-- a byte of a word that is printed: no blank, no carriage return and no #
abbrev pub is_plain : ℕ → Bool
is_plain b = not (is_blank b) && not (nat_eq b 13 || nat_eq b 35)

pub record IsWord (w : List ℕ) : Type 0 where
  pub some : 0 < length w
  pub plain : list_all is_plain w ≡ true

plain_no_blank : (b : ℕ) → is_plain b ≡ true → is_blank b ≡ false
plain_no_blank b e = grind (arith, nat_tests)

word_piece : (w : List ℕ) → IsWord w → IsPiece is_blank w
word_piece w h = λ k d l. plain_no_blank (get_or w k d) (AllPass-from_list_all is_plain w h.plain k d l)

-- words behind a byte that may stand in one
pub behind_plain : (mark : ℕ) (ws : List (List ℕ)) → is_plain mark ≡ true → Each IsWord ws → list_all is_plain (behind mark ws) ≡ true
unfolding behind
behind_plain mark [] m h = refl
behind_plain mark (w ∷ ws) m h =
    and_from (is_plain mark) (list_all is_plain (w ++ behind mark ws)) m
    (rw list_all-append (and_from (list_all is_plain w) (list_all is_plain (behind mark ws)) h.0.plain (behind_plain mark ws m h.1)))

pub divided_word : (mark : ℕ) (w : List ℕ) (ws : List (List ℕ)) → is_plain mark ≡ true → IsWord w → Each IsWord ws → IsWord (divided mark (w ∷ ws))
unfolding divided
divided_word mark w ws m h hs = record {
  some = omega (arith, length-append w (behind mark ws), h.some);
  plain = rw list_all-append (and_from (list_all is_plain w) (list_all is_plain (behind mark ws)) h.plain (behind_plain mark ws m hs));
}

word_pieces : (ws : List (List ℕ)) → Each IsWord ws → Each (IsPiece is_blank) ws
word_pieces [] h = tt
word_pieces (w ∷ ws) h = (word_piece w h.0, word_pieces ws h.1)

-- words with their places, a blank between two
abbrev pub at_places : ℕ → List (List ℕ) → List Placed
at_places at [] = []
at_places at (w ∷ ws) = record { place = at; text = w } ∷ at_places (at + (length w + 1)) ws

each_placed : (at : ℕ) (ws : List (List ℕ)) → Each IsWord ws → placed at ws ≡ at_places at ws
unfolding placed
each_placed at [] h = refl
each_placed at (w ∷ ws) h =
    let some : nat_eq (length w) 0 ≡ false = ne_eqb (length w) 0 (λ e. omega (arith, e, h.0.some)) in
    rw some (ap (λ ps. record { place = at; text = w } ∷ ps) (each_placed (at + (length w + 1)) ws h.1))

pub words_again : (w : List ℕ) (ws : List (List ℕ)) → IsWord w → Each IsWord ws → words (spaced (w ∷ ws)) ≡ at_places 0 (w ∷ ws)
words_again w ws h hs = ap (placed 0) (split_joined is_blank 32 w ws refl (word_piece w h) (word_pieces ws hs)) ∙ each_placed 0 (w ∷ ws) (h, hs)

-- a byte of a line that is printed
abbrev stands : ℕ → Bool
stands b = not (nat_eq b 13 || nat_eq b 35)

plain_stands : (b : ℕ) → is_plain b ≡ true → stands b ≡ true
plain_stands b e = grind (arith, nat_tests)

all_stand : (w : List ℕ) → list_all is_plain w ≡ true → list_all stands w ≡ true
all_stand w h = all_weaker is_plain stands plain_stands w h

behind_stand : (ws : List (List ℕ)) → Each IsWord ws → list_all stands (behind 32 ws) ≡ true
unfolding behind
behind_stand [] h = refl
behind_stand (w ∷ ws) h = rw list_all-append (and_from (list_all stands w) (list_all stands (behind 32 ws)) (all_stand w h.0.plain) (behind_stand ws h.1))

spaced_stand : (w : List ℕ) (ws : List (List ℕ)) → IsWord w → Each IsWord ws → list_all stands (spaced (w ∷ ws)) ≡ true
unfolding divided
spaced_stand w ws h hs = rw list_all-append (and_from (list_all stands w) (list_all stands (behind 32 ws)) (all_stand w h.plain) (behind_stand ws hs))

stands_no_return : (b : ℕ) → stands b ≡ true → nat_eq b 13 ≡ false
stands_no_return b e = grind (arith, nat_tests)

stands_no_comment : (b : ℕ) → stands b ≡ true → nat_eq b 35 ≡ false
stands_no_comment b e = grind (arith, nat_tests)

no_return : (line : List ℕ) → list_all stands line ≡ true → without_return line ≡ line
no_return line h = ap (λ t. if t then take (length line - 1) line else line) (stands_no_return (get_or line (length line - 1) 0) (holds_at stands line (length line - 1) refl h))

pub no_return_at_end : (w : List ℕ) (ws : List (List ℕ)) → IsWord w → Each IsWord ws → without_return (spaced (w ∷ ws)) ≡ spaced (w ∷ ws)
no_return_at_end w ws h hs = no_return (spaced (w ∷ ws)) (spaced_stand w ws h hs)

pub no_comment : (w : List ℕ) (ws : List (List ℕ)) → IsWord w → Each IsWord ws → nat_eq (slice_index (spaced (w ∷ ws)) 0) 35 ≡ false
no_comment w ws h hs = stands_no_comment (get_or (spaced (w ∷ ws)) 0 0) (holds_at stands (spaced (w ∷ ws)) 0 refl (spaced_stand w ws h hs))
