-- Words of lists by what they begin with.
use Rattle.std.proofs.Common.{◌≡◌, ℕ, ◌+◌, ◌-◌, ◌<◌, ◌≤◌, Bool, true, false, List, [], ◌∷◌, ◌++◌, length, drop, map, decimal, refl, ap, sym, ◌∙◌, add-one, append_assoc, get_or, take, arith}
use Rattle.std.proofs.lemmas.List.{append-nil}
use Rattle.std.proofs.Math.Seq.{take-length}
use Rattle.ec_attr.specs.Bricks.{bricks_below}
use Rattle.hex.specs.Hex.{encode_lower}
use Rattle.ec_wire.specs.Words.{behind, bytes_word, dash, divided, joined, numbers_word}

pub no_bytes : (bytes : List ℕ) → length bytes < 1 → bytes_word bytes ≡ dash
unfolding bytes_word
no_bytes [] h = refl
no_bytes (b ∷ bs) h = absurd (omega arith)

pub some_bytes : (bytes : List ℕ) → 1 ≤ length bytes → bytes_word bytes ≡ encode_lower bytes
unfolding bytes_word
some_bytes [] h = absurd (omega arith)
some_bytes (b ∷ bs) h = refl

pub no_numbers : (numbers : List ℕ) → length numbers < 1 → numbers_word numbers ≡ dash
unfolding joined
no_numbers [] h = refl
no_numbers (n ∷ ns) h = absurd (omega arith)

-- the word of numbers is the first of them, and the others each behind a comma
pub some_numbers : (numbers : List ℕ) → 1 ≤ length numbers → numbers_word numbers ≡ decimal (get_or numbers 0 0) ++ behind 44 (map decimal (take (length numbers - 1) (drop 1 numbers)))
unfolding joined divided
some_numbers [] h = absurd (omega arith)
some_numbers (n ∷ ns) h =
    let e : length (n ∷ ns) - 1 ≡ length ns = omega arith in
    ap (λ (xs : List ℕ). decimal n ++ behind 44 (map decimal xs)) (sym (ap (λ (k : ℕ). take k ns) e ∙ take-length ns))

-- a word that is put in two parts
pub in_two : (s t u a b : List ℕ) → t ≡ s ++ behind 32 (a ∷ []) → u ≡ t ++ b → u ≡ s ++ behind 32 ((a ++ b) ∷ [])
unfolding behind
in_two s t u a b e f = f ∙ (ap (λ (x : List ℕ). x ++ b) e ∙ simp (append_assoc, append-nil) refl)

-- a brick more
pub with_brick : (n : ℕ) (test : ℕ → Bool) (xs ys : List ℕ) → xs ≡ bricks_below n test → test n ≡ true → ys ≡ xs ++ n ∷ [] → ys ≡ bricks_below (n + 1) test
unfolding bricks_below
with_brick n test xs ys h t e = rw (add-one n, t) (e ∙ ap (λ (zs : List ℕ). zs ++ n ∷ []) h)

pub without_brick : (n : ℕ) (test : ℕ → Bool) (xs ys : List ℕ) → xs ≡ bricks_below n test → test n ≡ false → ys ≡ xs → ys ≡ bricks_below (n + 1) test
unfolding bricks_below
without_brick n test xs ys h t e = rw (add-one n, t) (e ∙ h ∙ sym (append-nil (bricks_below n test)))
