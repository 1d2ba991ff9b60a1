-- There are finitely many names, so a walk over them in rising order ends.
use Rattle.std.proofs.Common.{◌≡◌, ℕ, zero, suc, ◌+◌, ◌*◌, ◌^◌, ◌<◌, ◌≤◌, Bool, true, false, cond, ◌==◌, nat_lt, Option, Some, None, List, [], ◌∷◌, length, slice_index, IfSome, refl, ap, arith}
use Rattle.std.proofs.Math.Nat.{mul-le-mul_right}
use Rattle.std.proofs.lemmas.Bool.{eqb-true}
use Rattle.std.proofs.lemmas.Bool.Decides.{nat_tests}
use Rattle.std.specs.Ordering.{nat_cmp, ordering_then}
use Rattle.std.specs.declared.cmp.Ordering.TheVariants.{Less, Equal, Greater}
use Rattle.std.specs.Cmp.Lexicographic.{slice_cmp}
use Rattle.ec_store.specs.Records.{is_past}
use Rattle.ec_brick.specs.Walk.{IsText, names_left, place, places}
use Rattle.ec_brick.proofs.NamePages.{less_of}

abbrev IsBytes : List ℕ → Type 0
IsBytes bs = (i : ℕ) → slice_index bs i < 2 ^ 8

tail_bytes : (b : ℕ) (bs : List ℕ) → IsBytes (b ∷ bs) → IsBytes bs
tail_bytes b bs h i = h (suc i)

first_byte : (b : ℕ) (bs : List ℕ) → IsBytes (b ∷ bs) → b < 2 ^ 8
first_byte b bs h = h 0

some_places : (k : ℕ) → 0 < places k
unfolding places
some_places zero = omega arith
some_places (suc k) = let h = some_places k in omega (arith, h)

-- the place of a name is below their number
place_below : (k : ℕ) (bs : List ℕ) → IsBytes bs → place k bs < places k
unfolding places place
place_below zero bs h = omega arith
place_below (suc k) [] h = let p = some_places k in omega (arith, p)
place_below (suc k) (b ∷ bs) h = let w = place_below k bs (tail_bytes b bs h) in let f = first_byte b bs h in let m : (b + 1) * places k ≤ 256 * places k = mul-le-mul_right (places k) (omega (arith, f)) in omega (arith, w, m)

-- names in rising order have rising places
place_rises : (k : ℕ) (a b : List ℕ) → length b ≤ k → IsBytes a → slice_cmp nat_cmp a b ≡ Less → place k a < place k b
unfolding place
place_rises zero [] [] few h e = absurd (equal_less e) where
  equal_less : Equal ≡ Less → ⊥
  equal_less e = cc
place_rises zero (x ∷ xs) [] few h e = absurd (greater_less e) where
  greater_less : Greater ≡ Less → ⊥
  greater_less e = cc
place_rises zero a (y ∷ ys) few h e = absurd (omega (arith, few))
place_rises (suc k) [] [] few h e = absurd (equal_less e) where
  equal_less : Equal ≡ Less → ⊥
  equal_less e = cc
place_rises (suc k) (x ∷ xs) [] few h e = absurd (greater_less e) where
  greater_less : Greater ≡ Less → ⊥
  greater_less e = cc
place_rises (suc k) [] (y ∷ ys) few h e = let p = some_places k in let m : 1 * places k ≤ (y + 1) * places k = mul-le-mul_right (places k) (omega arith) in omega (arith, p, m)
place_rises (suc k) (x ∷ xs) (y ∷ ys) few h e = at (nat_lt x y) (x == y) refl refl e (place_rises k xs ys (omega (arith, few)) (tail_bytes x xs h)) where
  at : (l t : Bool) → nat_lt x y ≡ l → (x == y) ≡ t → ordering_then (cond l Less (cond t Equal Greater)) (slice_cmp nat_cmp xs ys) ≡ Less → (slice_cmp nat_cmp xs ys ≡ Less → place k xs < place k ys) → (x + 1) * places k + place k xs < (y + 1) * places k + place k ys
  at true t f g e rest = let lt : x < y = grind (arith, nat_tests) in let w = place_below k xs (tail_bytes x xs h) in let m : (x + 2) * places k ≤ (y + 1) * places k = mul-le-mul_right (places k) (omega (arith, lt)) in omega (arith, w, m)
  at false true f g e rest = let w = rest e in let same : (x + 1) * places k ≡ (y + 1) * places k = ap (λ (z : ℕ). (z + 1) * places k) (eqb-true x y g) in omega (arith, w, same)
  at false false f g e rest = absurd (greater_less e) where
    greater_less : Greater ≡ Less → ⊥
    greater_less e = cc

-- past a name fewer are left
pub fewer_left : (a : List ℕ) (next : Option (List ℕ)) → IsText a → IfSome next IsText → IfSome next (λ l. is_past (Some a) l ≡ true) → names_left next < names_left (Some a)
fewer_left a None text t p = let w = place_below 255 a text.bytes in omega (arith, w)
fewer_left a (Some l) text t p = let w = place_below 255 l t.bytes in let r = place_rises 255 a l t.few text.bytes (less_of (slice_cmp nat_cmp a l) p) in omega (arith, w, r)
