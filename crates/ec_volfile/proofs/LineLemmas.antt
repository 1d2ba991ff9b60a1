-- Lemmas on lines and words.
use Rattle.std.proofs.Common.{◌≡◌, ◌<◌, ◌≤◌, ℕ, zero, suc, ◌+◌, ◌-◌, Bool, true, false, ◌&&◌, cond, nat_eq, List, [], ◌∷◌, ◌++◌, length, take, drop, get_or, refl, sym, ap, ◌∙◌, arith, Some, None, length-drop, add-one}
use Rattle.std.specs.Prelude.{position}
use Rattle.std.specs.List.{onto_first, position_from}
use Rattle.std.proofs.lemmas.Iterator.Adapters.{position_from-zero}
use Rattle.std.proofs.lemmas.List.Quantifiers.{position-Some}
use Rattle.std.proofs.Math.Seq.{take-length, drop-length}
use Rattle.std.proofs.Math.Dec.{eqb-suc-zero}
use Rattle.std.proofs.lemmas.List.{take_more}
use Rattle.ec_volfile.specs.Lines.{is_blank, trim_end, word_of, after_word, lines}

pub rest_after : {A : Type 0} (n : ℕ) (s : List A) → take (length s - n) (drop n s) ≡ drop n s
rest_after n s = ap (λ k. take k (drop n s)) (sym (length-drop n s)) ∙ take-length (drop n s)

pub none_after : {A : Type 0} (s : List A) → take (length s - length s) (drop (length s) s) ≡ []
none_after s = rest_after (length s) s ∙ drop-length s

is_newline : ℕ → Bool
is_newline b = nat_eq b 10

-- the first line ends at the first newline
pub lines_at : (bs : List ℕ) (i : ℕ) → i < length bs → nat_eq (get_or bs i 0) 10 ≡ true → ((k : ℕ) → k < i → nat_eq (get_or bs k 0) 10 ≡ false) → lines bs ≡ take i bs ∷ lines (drop (i + 1) bs)
lines_at [] i h e f = absurd (omega arith)
lines_at (b ∷ bs) zero h e f = ap (λ (t : Bool). cond t ([] ∷ lines bs) (onto_first b (lines bs))) e
lines_at (b ∷ bs) (suc i) h e f =
    let first : nat_eq b 10 ≡ false = f 0 (omega arith) in
    let more : lines bs ≡ take i bs ∷ lines (drop (i + 1) bs) = lines_at bs i (omega arith) e (λ k l. f (suc k) (omega arith)) in
    ap (λ (t : Bool). cond t ([] ∷ lines bs) (onto_first b (lines bs))) first ∙ (ap (onto_first b) more ∙ rw (add-one, add-one) refl)

-- without a newline there is one line
pub lines_whole : (b : ℕ) (bs : List ℕ) → ((k : ℕ) → k < length (b ∷ bs) → nat_eq (get_or (b ∷ bs) k 0) 10 ≡ false) → lines (b ∷ bs) ≡ (b ∷ bs) ∷ []
lines_whole b [] f = ap (λ (t : Bool). cond t ([] ∷ []) ((b ∷ []) ∷ [])) (f 0 (omega arith))
lines_whole b (c ∷ cs) f =
    let more : lines (c ∷ cs) ≡ (c ∷ cs) ∷ [] = lines_whole c cs (λ k l. f (suc k) (omega arith)) in
    ap (λ (t : Bool). cond t ([] ∷ lines (c ∷ cs)) (onto_first b (lines (c ∷ cs)))) (f 0 (omega arith)) ∙ ap (onto_first b) more

-- a word ends at the first blank
pub word_at : (bs : List ℕ) (i : ℕ) → i < length bs → is_blank (get_or bs i 0) ≡ true → ((k : ℕ) → k < i → is_blank (get_or bs k 0) ≡ false) → (word_of bs ≡ take i bs) × (after_word bs ≡ drop i bs)
word_at [] i h e f = absurd (omega arith)
word_at (b ∷ bs) zero h e f = (ap (λ (t : Bool). cond t [] (b ∷ word_of bs)) e, ap (λ (t : Bool). cond t (b ∷ bs) (after_word bs)) e)
word_at (b ∷ bs) (suc i) h e f =
    let first : is_blank b ≡ false = f 0 (omega arith) in
    let more : (word_of bs ≡ take i bs) × (after_word bs ≡ drop i bs) = word_at bs i (omega arith) e (λ k l. f (suc k) (omega arith)) in
    (ap (λ (t : Bool). cond t [] (b ∷ word_of bs)) first ∙ ap (λ bs. b ∷ bs) more.0, ap (λ (t : Bool). cond t (b ∷ bs) (after_word bs)) first ∙ more.1)

pub word_whole : (bs : List ℕ) → ((k : ℕ) → k < length bs → is_blank (get_or bs k 0) ≡ false) → (word_of bs ≡ bs) × (after_word bs ≡ [])
word_whole [] f = (refl, refl)
word_whole (b ∷ bs) f =
    let more : (word_of bs ≡ bs) × (after_word bs ≡ []) = word_whole bs (λ k l. f (suc k) (omega arith)) in
    (ap (λ (t : Bool). cond t [] (b ∷ word_of bs)) (f 0 (omega arith)) ∙ ap (λ bs. b ∷ bs) more.0, ap (λ (t : Bool). cond t (b ∷ bs) (after_word bs)) (f 0 (omega arith)) ∙ more.1)

-- none passes
pub position_from-None : (p : ℕ → Bool) (i : ℕ) (xs : List ℕ) → position_from p i xs ≡ None → (k : ℕ) → k < length xs → p (get_or xs k 0) ≡ false
position_from-None p i [] e k l = absurd (omega arith)
position_from-None p i (x ∷ xs) e zero l = first (p x) refl e where
  first : (b : Bool) → p x ≡ b → cond b (Some i) (position_from p (i + 1) xs) ≡ None → p x ≡ false
  first true h e = cc
  first false h e = h
position_from-None p i (x ∷ xs) e (suc k) l = position_from-None p (i + 1) xs (more (p x) e) k (omega arith) where
  more : (b : Bool) → cond b (Some i) (position_from p (i + 1) xs) ≡ None → position_from p (i + 1) xs ≡ None
  more true e = cc
  more false e = e

pub position-None : (p : ℕ → Bool) (xs : List ℕ) → position p xs ≡ None → (k : ℕ) → k < length xs → p (get_or xs k 0) ≡ false
position-None p xs e = position_from-None p 0 xs (sym (position_from-zero p xs) ∙ e)

-- one byte more at the end
ends : (bs : List ℕ) (b : ℕ) → nat_eq (length (bs ++ b ∷ [])) 0 ≡ false
ends [] b = refl
ends (a ∷ bs) b = eqb-suc-zero (length (bs ++ b ∷ []))

one_blank : (t : Bool) (b : ℕ) → cond (t && true) [] (b ∷ []) ≡ cond t [] (b ∷ [])
one_blank true b = refl
one_blank false b = refl

not_end : (t u : Bool) (xs ys : List ℕ) → u ≡ false → cond (t && u) xs ys ≡ ys
not_end true u xs ys e = ap (λ (t : Bool). cond t xs ys) e
not_end false u xs ys e = refl

pub trim_end-push : (bs : List ℕ) (b : ℕ) → trim_end (bs ++ b ∷ []) ≡ cond (is_blank b) (trim_end bs) (bs ++ b ∷ [])
trim_end-push [] b = one_blank (is_blank b) b
trim_end-push (a ∷ bs) b =
    ap (λ (xs : List ℕ). cond (is_blank a && nat_eq (length xs) 0) [] (a ∷ xs)) (trim_end-push bs b)
    ∙ elim (is_blank b) as (λ (t : Bool). cond (is_blank a && nat_eq (length (cond t (trim_end bs) (bs ++ b ∷ []))) 0) [] (a ∷ cond t (trim_end bs) (bs ++ b ∷ [])) ≡ cond t (cond (is_blank a && nat_eq (length (trim_end bs)) 0) [] (a ∷ trim_end bs)) (a ∷ (bs ++ b ∷ []))) [ true ↦ refl | false ↦ not_end (is_blank a) (nat_eq (length (bs ++ b ∷ [])) 0) [] (a ∷ (bs ++ b ∷ [])) (ends bs b) ]

-- the first line, by the place of the first newline
pub first_line_at : (bs : List ℕ) (i : ℕ) → position (λ b. nat_eq b 10) bs ≡ Some i → lines bs ≡ take i bs ∷ lines (take (length bs - (i + 1)) (drop (i + 1) bs))
first_line_at bs i e =
    let h = position-Some (λ b. nat_eq b 10) bs i 0 e in
    lines_at bs i h.0 h.1 h.2 ∙ ap (λ (rest : List ℕ). take i bs ∷ lines rest) (sym (rest_after (i + 1) bs))

pub first_line_whole : (bs : List ℕ) → 0 < length bs → position (λ b. nat_eq b 10) bs ≡ None → lines bs ≡ bs ∷ lines (take (length bs - length bs) (drop (length bs) bs))
first_line_whole [] l e = absurd (omega arith)
first_line_whole (b ∷ bs) l e =
    lines_whole b bs (position-None (λ b. nat_eq b 10) (b ∷ bs) e) ∙ ap (λ (rest : List ℕ). (b ∷ bs) ∷ lines rest) (sym (none_after (b ∷ bs)))

-- the first word, by the place of the first blank
pub first_word_at : (bs : List ℕ) (i : ℕ) → position is_blank bs ≡ Some i → (word_of bs ≡ take i bs) × (after_word bs ≡ drop i bs)
first_word_at bs i e = let h = position-Some is_blank bs i 0 e in word_at bs i h.0 h.1 h.2

pub first_word_whole : (bs : List ℕ) → position is_blank bs ≡ None → (word_of bs ≡ bs) × (after_word bs ≡ [])
first_word_whole bs e = word_whole bs (position-None is_blank bs e)

last_split : (s : List ℕ) (i : ℕ) → i + 1 ≡ length s → s ≡ take i s ++ get_or s i 0 ∷ []
last_split s i e = sym (take-length s) ∙ (ap (λ n. take n s) (sym e) ∙ take_more s i 0 (omega arith))

-- the last byte goes where it is a blank
pub trim_end-last : (s : List ℕ) → 1 ≤ length s → trim_end s ≡ cond (is_blank (get_or s (length s - 1) 0)) (trim_end (take (length s - 1) s)) s
trim_end-last s l =
    let e : s ≡ take (length s - 1) s ++ get_or s (length s - 1) 0 ∷ [] = last_split s (length s - 1) (omega arith) in
    ap trim_end e ∙ (trim_end-push (take (length s - 1) s) (get_or s (length s - 1) 0)
    ∙ ap (λ (xs : List ℕ). cond (is_blank (get_or s (length s - 1) 0)) (trim_end (take (length s - 1) s)) xs) (sym e))

pub trim_end-goes : (s : List ℕ) → 1 ≤ length s → is_blank (get_or s (length s - 1) 0) ≡ true → trim_end (take (length s - 1) s) ≡ trim_end s
trim_end-goes s l h = sym (trim_end-last s l ∙ ap (λ (t : Bool). cond t (trim_end (take (length s - 1) s)) s) h)

pub trim_end-stays : (s : List ℕ) → 1 ≤ length s → is_blank (get_or s (length s - 1) 0) ≡ false → s ≡ trim_end s
trim_end-stays s l h = sym (trim_end-last s l ∙ ap (λ (t : Bool). cond t (trim_end (take (length s - 1) s)) s) h)
