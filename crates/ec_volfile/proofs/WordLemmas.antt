-- Lemmas on the words of a line.
use Rattle.std.proofs.Common.{◌≡◌, ◌<◌, ◌≤◌, ℕ, Bool, true, false, not, cond, nat_eq, List, [], ◌∷◌, length, refl, sym, ap, ◌∙◌, arith}
use Rattle.std.specs.Prelude.{filter}
use Rattle.std.specs.List.{slice_split, onto_first}
use Rattle.std.proofs.Math.Dec.{eqb-suc-zero}
use Rattle.ec_volfile.specs.Lines.{is_blank, skip_blanks, word_of, after_word, words}

-- how `cond` goes at a test that is known
pub at_true : {A : Type 0} (t : Bool) (x y : A) → t ≡ true → cond t x y ≡ x
at_true t x y e = ap (λ (t : Bool). cond t x y) e

pub at_false : {A : Type 0} (t : Bool) (x y : A) → t ≡ false → cond t x y ≡ y
at_false t x y e = ap (λ (t : Bool). cond t x y) e

pub skip_shorter : (s : List ℕ) → length (skip_blanks s) ≤ length s
skip_shorter [] = omega arith
skip_shorter (b ∷ bs) =
    let more : length (skip_blanks bs) ≤ length bs = skip_shorter bs in
    elim (is_blank b) as (λ (t : Bool). length (cond t (skip_blanks bs) (b ∷ bs)) ≤ length (b ∷ bs)) [ true ↦ omega arith | false ↦ omega arith ]

-- what begins with no blank
pub solid : (b : ℕ) (bs : List ℕ) → skip_blanks (b ∷ bs) ≡ b ∷ bs → is_blank b ≡ false
solid b bs e = first (is_blank b) e where
  first : (t : Bool) → cond t (skip_blanks bs) (b ∷ bs) ≡ b ∷ bs → t ≡ false
  first true h = absurd (omega (arith, ap length h, skip_shorter bs))
  first false h = refl

pub skip_twice : (s : List ℕ) → skip_blanks (skip_blanks s) ≡ skip_blanks s
skip_twice [] = refl
skip_twice (b ∷ bs) = first (is_blank b) refl (skip_twice bs) where
  first : (t : Bool) → is_blank b ≡ t → skip_blanks (skip_blanks bs) ≡ skip_blanks bs → skip_blanks (cond t (skip_blanks bs) (b ∷ bs)) ≡ cond t (skip_blanks bs) (b ∷ bs)
  first true h more = more
  first false h more = at_false (is_blank b) (skip_blanks bs) (b ∷ bs) h

abbrev has_bytes : List ℕ → Bool
has_bytes word = not (nat_eq (length word) 0)

pub words_skip : (s : List ℕ) → words (skip_blanks s) ≡ words s
words_skip [] = refl
words_skip (b ∷ bs) = first (is_blank b) refl (words_skip bs) where
  first : (t : Bool) → is_blank b ≡ t → words (skip_blanks bs) ≡ words bs → words (cond t (skip_blanks bs) (b ∷ bs)) ≡ words (b ∷ bs)
  first true h more = more ∙ sym (ap (λ (t : Bool). filter has_bytes (cond t ([] ∷ slice_split is_blank bs) (onto_first b (slice_split is_blank bs)))) h)
  first false h more = refl

-- the parts of a line are its first word and what gives the words after it
record Parts (s : List ℕ) : Type 0 where
  rest : List (List ℕ)
  is : slice_split is_blank s ≡ word_of s ∷ rest
  more : filter has_bytes rest ≡ words (after_word s)

parts : (s : List ℕ) → Parts s
parts [] = record { rest = []; is = refl; more = refl }
parts (b ∷ bs) = first (is_blank b) refl (parts bs) where
  first : (t : Bool) → is_blank b ≡ t → Parts bs → Parts (b ∷ bs)
  first true h p = record {
    rest = slice_split is_blank bs;
    is = at_true (is_blank b) ([] ∷ slice_split is_blank bs) (onto_first b (slice_split is_blank bs)) h ∙ ap (λ (w : List ℕ). w ∷ slice_split is_blank bs) (sym (at_true (is_blank b) [] (b ∷ word_of bs) h));
    more = sym (ap words (at_true (is_blank b) (b ∷ bs) (after_word bs) h) ∙ ap (λ (t : Bool). filter has_bytes (cond t ([] ∷ slice_split is_blank bs) (onto_first b (slice_split is_blank bs)))) h);
  }
  first false h p = record {
    rest = p.rest;
    is = at_false (is_blank b) ([] ∷ slice_split is_blank bs) (onto_first b (slice_split is_blank bs)) h ∙ (ap (onto_first b) p.is ∙ ap (λ (w : List ℕ). w ∷ p.rest) (sym (at_false (is_blank b) [] (b ∷ word_of bs) h)));
    more = p.more ∙ sym (ap words (at_false (is_blank b) (b ∷ bs) (after_word bs) h));
  }

pub words_first : (b : ℕ) (bs : List ℕ) → is_blank b ≡ false → words (b ∷ bs) ≡ word_of (b ∷ bs) ∷ words (after_word (b ∷ bs))
words_first b bs h =
    let p = parts (b ∷ bs) in
    let e : word_of (b ∷ bs) ≡ b ∷ word_of bs = at_false (is_blank b) [] (b ∷ word_of bs) h in
    ap (filter has_bytes) p.is
    ∙ (ap (λ (w : List ℕ). filter has_bytes (w ∷ p.rest)) e
    ∙ (ap (λ (t : Bool). cond (not t) ((b ∷ word_of bs) ∷ filter has_bytes p.rest) (filter has_bytes p.rest)) (eqb-suc-zero (length (word_of bs)))
    ∙ (ap (λ (w : List ℕ). w ∷ filter has_bytes p.rest) (sym e) ∙ ap (λ (ws : List (List ℕ)). word_of (b ∷ bs) ∷ ws) p.more)))

after_shorter : (s : List ℕ) → length (after_word s) ≤ length s
after_shorter [] = omega arith
after_shorter (b ∷ bs) =
    let more : length (after_word bs) ≤ length bs = after_shorter bs in
    elim (is_blank b) as (λ (t : Bool). length (cond t (b ∷ bs) (after_word bs)) ≤ length (b ∷ bs)) [ true ↦ omega arith | false ↦ omega arith ]

-- what a step to the next word gives
pub next_words : (s : List ℕ) → skip_blanks s ≡ s → 0 < length s → words s ≡ word_of s ∷ words (skip_blanks (after_word s))
next_words [] e l = absurd (omega arith)
next_words (b ∷ bs) e l = words_first b bs (solid b bs e) ∙ ap (λ (ws : List (List ℕ)). word_of (b ∷ bs) ∷ ws) (sym (words_skip (after_word (b ∷ bs))))

pub next_shorter : (s : List ℕ) → skip_blanks s ≡ s → 0 < length s → length (skip_blanks (after_word s)) < length s
next_shorter [] e l = absurd (omega arith)
next_shorter (b ∷ bs) e l =
    omega (arith, skip_shorter (after_word (b ∷ bs)), after_shorter bs, ap length (at_false (is_blank b) (b ∷ bs) (after_word bs) (solid b bs e)))
