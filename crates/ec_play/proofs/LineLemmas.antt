-- Lines of an input that is read from its front.
use Rattle.std.proofs.Common.{◌≡◌, ℕ, suc, ◌+◌, ◌-◌, ◌<◌, List, [], ◌∷◌, ◌++◌, None, Some, Option, length, take, drop, get_or, Bool, true, false, refl, sym, ap, ◌∙◌, append_assoc, append-nil, take-append-drop, length-append, arith}
use Rattle.std.specs.Prelude.{nat_eq, ◌==◌, not, MatchBool}
use Rattle.std.specs.List.{onto_first, position_or_len, before_first, after_first}
use Rattle.std.proofs.lemmas.List.Elements.{All-append}
use Rattle.std.proofs.lemmas.List.Sums.{fails_before_first, passes_at_first}
use Rattle.std.proofs.lemmas.List.Folds.{length-prefix_len}
use Rattle.std.proofs.lemmas.List.{get_or-take, drop_more}
use Rattle.std.proofs.lemmas.Bool.{eqb-true}
use Rattle.std.proofs.Math.Dec.{eqb-suc-zero}
use Rattle.std.specs.Io.KnownBytes.{Consumes, IsAtEnd, prepend_known}
use Rattle.ec_play.specs.Lines.{lines, HasNoNewline, HasNoLine, TakesLine, BeginsLong}

first_byte : (b : ℕ) (bs : List ℕ) → HasNoNewline (b ∷ bs) → nat_eq b 10 ≡ false
first_byte b bs h = h 0 0 (omega arith)

other_bytes : (b : ℕ) (bs : List ℕ) → HasNoNewline (b ∷ bs) → HasNoNewline bs
other_bytes b bs h = λ k d l. h (suc k) d (omega (arith, l))

-- a line that a newline ends
pub lines-front : (front rest : List ℕ) → HasNoNewline front → lines (front ++ 10 ∷ rest) ≡ front ∷ lines rest
lines-front [] rest h = refl
lines-front (b ∷ bs) rest h =
    rw (first_byte b bs h, lines-front bs rest (other_bytes b bs h)) refl

-- the last line, which no newline ends
pub lines-last : (b : ℕ) (bs : List ℕ) → HasNoNewline (b ∷ bs) → lines (b ∷ bs) ≡ (b ∷ bs) ∷ []
lines-last b [] h = rw (first_byte b [] h) refl
lines-last b (c ∷ bs) h = rw (first_byte b (c ∷ bs) h, lines-last c bs (other_bytes b (c ∷ bs) h)) refl

onto_some : (b n : ℕ) → n ≡ 0 → (parts : List (List ℕ)) → (line : List ℕ) × (others : List (List ℕ)) × (n < length line) × (onto_first b parts ≡ line ∷ others)
onto_some b n e [] = (b ∷ [], [], omega (arith, e), refl)
onto_some b n e (part ∷ parts) = (b ∷ part, parts, omega (arith, e), refl)

-- the first line of an input whose front has no newline begins with it
pub lines-longer : (front rest : List ℕ) (n : ℕ) → HasNoNewline front → n < length front → (line : List ℕ) × (others : List (List ℕ)) × (n < length line) × (lines (front ++ rest) ≡ line ∷ others)
lines-longer [] rest n h l = absurd (omega (arith, l))
lines-longer (b ∷ []) rest n h l =
    let none : n ≡ 0 = omega (arith, l) in
    rw (first_byte b [] h) (onto_some b n none (lines rest))
lines-longer (b ∷ c ∷ bs) rest n h l =
    let first = lines-longer (c ∷ bs) rest (n - 1) (other_bytes b (c ∷ bs) h) (omega (arith, l)) in
    (b ∷ first.0, first.1, omega (arith, first.2), rw (first_byte b (c ∷ bs) h) (ap (onto_first b) first.3))

-- ---- the reader's turns

-- the input ended after the bytes of a line
pub ends_line : (old now new : Option (List ℕ)) (line : List ℕ) (empty : Bool) → empty ≡ (length line == 0)
    → Consumes old now line → Consumes now new [] → IsAtEnd new → HasNoNewline line
    → MatchBool (not empty) (TakesLine old new line) (HasNoLine old)
ends_line None now new line true e first then_none at_end inner = tt
ends_line None now new line false e first then_none at_end inner = tt
ends_line (Some xs) None new line empty e first then_none at_end inner = absurd first
ends_line (Some xs) (Some ws) None line empty e first then_none at_end inner = absurd then_none
ends_line (Some xs) (Some ws) (Some ys) [] empty e first then_none at_end inner =
    rw e (ap lines (first ∙ then_none ∙ at_end))
ends_line (Some xs) (Some ws) (Some ys) (b ∷ bs) empty e first then_none at_end inner =
    let all : xs ≡ b ∷ bs = first ∙ ap (λ rest. (b ∷ bs) ++ rest) (then_none ∙ at_end) ∙ append-nil (b ∷ bs) in
    rw (e, eqb-suc-zero (length bs), at_end) (ap lines all ∙ lines-last b bs inner)

length_before : (held : List ℕ) → length (before_first (λ b. nat_eq b 10) held) ≡ position_or_len (λ b. nat_eq b 10) held
length_before held = length-prefix_len (λ b. not (nat_eq b 10)) held

no_newline_held : (held : List ℕ) → HasNoNewline (before_first (λ b. nat_eq b 10) held)
no_newline_held held k d h =
    let within : k < position_or_len (λ b. nat_eq b 10) held = rw (← length_before held) h in
    rw (get_or-take (position_or_len (λ b. nat_eq b 10) held) held k d within) (fails_before_first (λ b. nat_eq b 10) held k d within)

-- the bytes so far and those before the first newline that is held
pub no_newline_before : (line held : List ℕ) → HasNoNewline line → HasNoNewline (line ++ before_first (λ b. nat_eq b 10) held)
no_newline_before line held inner =
    All-append (λ b. nat_eq b 10 ≡ false) line (before_first (λ b. nat_eq b 10) held) inner
    (no_newline_held held)

-- the input by the bytes so far, those that are held and those that are left
parts_of : (xs ws ys line held : List ℕ) (n : ℕ) → xs ≡ line ++ ws → ws ≡ held ++ ys → xs ≡ (line ++ take n held) ++ (drop n held ++ ys)
parts_of xs ws ys line held n first same =
    first
    ∙ ap (λ w. line ++ w) (same ∙ ap (λ h. h ++ ys) (sym (take-append-drop n held)) ∙ append_assoc (take n held) (drop n held) ys)
    ∙ sym (append_assoc line (take n held) (drop n held ++ ys))

-- the first line is longer than n
pub begins_long : (n : ℕ) (old now left : Option (List ℕ)) (line held : List ℕ) → Consumes old now line → Consumes now (prepend_known held left) []
    → HasNoNewline line → n < length line + position_or_len (λ b. nat_eq b 10) held → BeginsLong n old
begins_long n None now left line held first same inner long = tt
begins_long n (Some xs) None left line held first same inner long = absurd first
begins_long n (Some xs) (Some ws) None line held first same inner long = absurd same
begins_long n (Some xs) (Some ws) (Some ys) line held first same inner long =
    let p = λ (b : ℕ). nat_eq b 10 in
    let front : List ℕ = line ++ before_first p held in
    let size : length front ≡ length line + position_or_len p held = length-append line (before_first p held) ∙ ap (λ m. length line + m) (length_before held) in
    let more : n < length front = omega arith in
    rw (parts_of xs ws ys line held (position_or_len p held) first same)
    (lines-longer front (drop (position_or_len p held) held ++ ys) n (no_newline_before line held inner) more)

-- a newline ends the line
pub takes_line : (old now left : Option (List ℕ)) (line held : List ℕ) → Consumes old now line → Consumes now (prepend_known held left) []
    → HasNoNewline line → position_or_len (λ b. nat_eq b 10) held < length held
    → TakesLine old (prepend_known (after_first (λ b. nat_eq b 10) held) left) (line ++ before_first (λ b. nat_eq b 10) held)
takes_line None now left line held first same inner ended = tt
takes_line (Some xs) None left line held first same inner ended = absurd first
takes_line (Some xs) (Some ws) None line held first same inner ended = absurd same
takes_line (Some xs) (Some ws) (Some ys) line held first same inner ended =
    let p = λ (b : ℕ). nat_eq b 10 in
    let newline : get_or held (position_or_len p held) 0 ≡ 10 = eqb-true (get_or held (position_or_len p held) 0) 10 (passes_at_first p held 0 ended) in
    let rest : drop (position_or_len p held) held ≡ 10 ∷ after_first p held =
    drop_more held (position_or_len p held) 0 ended ∙ ap (λ b. b ∷ after_first p held) newline in
    ap lines (parts_of xs ws ys line held (position_or_len p held) first same ∙ ap (λ r. (line ++ before_first p held) ++ (r ++ ys)) rest) ∙ lines-front (line ++ before_first p held) (after_first p held ++ ys) (no_newline_before line held inner)
