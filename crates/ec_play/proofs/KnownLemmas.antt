-- What is read and written, where it is told.
use Rattle.std.proofs.Common.{◌≡◌, ℕ, ◌-◌, List, [], ◌++◌, None, Some, Option, length, take, drop, refl, sym, ap, ◌∙◌, append_assoc, append-nil, take-append-drop}
use Rattle.std.proofs.KnownBytes.{Consumes-trans, Appends-nil}
use Rattle.ec_store.specs.Causes.{Begins}
use Rattle.std.proofs.lemmas.List.{take_rest}
use Rattle.std.specs.Io.KnownBytes.{Consumes, prepend_known}

-- bytes that came into an empty buffer
pub consumes_filled : (old new : Option (List ℕ)) (held : List ℕ) → Consumes old new held → Consumes (prepend_known [] old) (prepend_known held new) []
consumes_filled None new held c = tt
consumes_filled (Some xs) None held c = absurd c
consumes_filled (Some xs) (Some ys) held c = c

-- the first n bytes of a buffer
pub consumes_taken : (left : Option (List ℕ)) (held : List ℕ) (n : ℕ) → Consumes (prepend_known held left) (prepend_known (drop n held) left) (take n held)
consumes_taken None held n = tt
consumes_taken (Some xs) held n =
    ap (λ h. h ++ xs) (sym (take-append-drop n held)) ∙ append_assoc (take n held) (drop n held) xs

-- a slice is its front and, as the slice from there on, its rest
pub front_and_rest : (xs : List ℕ) (n : ℕ) → take n xs ++ take (length xs - n) (drop n xs) ≡ xs
front_and_rest xs n = rw (take_rest xs n) (take-append-drop n xs)

-- the input so far, and the first n bytes of what is held
pub consumes_front : (old now left : Option (List ℕ)) (front held : List ℕ) (n : ℕ) → Consumes old now front → Consumes now (prepend_known held left) []
    → Consumes old (prepend_known (drop n held) left) (front ++ take n held)
consumes_front old now left front held n first same =
    Consumes-trans old (prepend_known held left) (prepend_known (drop n held) left) front (take n held)
    (rw append-nil at (Consumes-trans old now (prepend_known held left) front [] first same))
    (consumes_taken left held n)

-- nothing is written of a text
pub begins_nothing : (now : Option (List ℕ)) (text : List ℕ) → Begins now now text
begins_nothing now text = ([], text, refl, Appends-nil now)

pub prepend_nothing : (now : Option (List ℕ)) → prepend_known [] now ≡ now
prepend_nothing None = refl
prepend_nothing (Some xs) = refl
