-- Lines that are written one after the other.
use Rattle.std.proofs.Common.{◌≡◌, ℕ, ◌+◌, ◌-◌, ◌<◌, List, [], ◌∷◌, ◌++◌, Option, length, take, drop, get_or, refl, sym, ap, ◌∙◌, append_assoc, append-nil, take-append-drop}
use Rattle.std.specs.Prelude.{OnErr, Result, Ok, Err}
use Rattle.std.specs.List.{flat_map}
use Rattle.std.specs.Io.KnownBytes.{Appends}
use Rattle.std.proofs.KnownBytes.{Appends-trans}
use Rattle.std.proofs.lemmas.Grind.{flat_map-append}
use Rattle.std.proofs.lemmas.List.{take_more, take_rest}
use Rattle.ec_store.specs.Causes.{Begins}

-- the lines of the first items and of one more
lines_more : {X : Type 0} (f : X → List ℕ) (xs : List X) (i : ℕ) (d : X) → i < length xs → flat_map f (take (i + 1) xs) ≡ flat_map f (take i xs) ++ f (get_or xs i d)
lines_more f xs i d h =
    ap (flat_map f) (take_more xs i d h)
    ∙ flat_map-append f (take i xs) (get_or xs i d ∷ [])
    ∙ ap (λ (t : List ℕ). flat_map f (take i xs) ++ t) (append-nil (f (get_or xs i d)))

lines_rest : {X : Type 0} (f : X → List ℕ) (xs : List X) (i : ℕ) → flat_map f xs ≡ flat_map f (take i xs) ++ flat_map f (drop i xs)
lines_rest f xs i = ap (flat_map f) (sym (take-append-drop i xs)) ∙ flat_map-append f (take i xs) (drop i xs)

-- one line more is written
pub written_more : {X : Type 0} (f : X → List ℕ) (xs : List X) (i : ℕ) (d : X) → i < length xs → (old was new : Option (List ℕ))
    → Appends old was (flat_map f (take i xs)) → Appends was new (f (get_or xs i d)) → Appends old new (flat_map f (take (i + 1) xs))
written_more f xs i d h old was new a b = rw (lines_more f xs i d h) (Appends-trans old was new (flat_map f (take i xs)) (f (get_or xs i d)) a b)

-- one line more is begun
pub begun_more : {X : Type 0} (f : X → List ℕ) (xs : List X) (i : ℕ) (d : X) → i < length xs → (old was new : Option (List ℕ))
    → Appends old was (flat_map f (take i xs)) → Begins was new (f (get_or xs i d)) → Begins old new (flat_map f xs)
begun_more f xs i d h old was new a b =
    let before : List ℕ = flat_map f (take i xs) in
    let rest : List ℕ = flat_map f (drop (i + 1) xs) in (
      before ++ b.0,
      b.1 ++ rest,
      lines_rest f xs (i + 1)
          ∙ ap (λ (t : List ℕ). t ++ rest) (lines_more f xs i d h ∙ ap (λ (t : List ℕ). before ++ t) b.2 ∙ sym (append_assoc before b.0 b.1))
          ∙ append_assoc (before ++ b.0) b.1 rest,
      Appends-trans old was new before b.0 a b.3,
    )

drop_front : {X : Type 0} (xs ys : List X) → drop (length xs) (xs ++ ys) ≡ ys
drop_front [] ys = refl
drop_front (x ∷ xs) ys = drop_front xs ys

-- the items that came after the first n
pub new_items : {X : Type 0} (xs ys all : List X) (n : ℕ) → all ≡ xs ++ ys → n ≡ length xs → take (length all - n) (drop n all) ≡ ys
new_items xs ys all n is count = take_rest all n ∙ rw (is, count) (drop_front xs ys)

-- all items are written
pub written_all : {X : Type 0} (f : X → List ℕ) (xs : List X) (i : ℕ) (old new : Option (List ℕ)) → take i xs ≡ xs → Appends old new (flat_map f (take i xs)) → Appends old new (flat_map f xs)
written_all f xs i old new all a = rw all at a

-- what an error says
pub on_err : {X E : Type 0} (r : Result X E) (P : Type 0) → P → OnErr r P
on_err (Ok x) P p = tt
on_err (Err e) P p = p
