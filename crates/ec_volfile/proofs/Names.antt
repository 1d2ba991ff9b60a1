-- Walks over the words of a line.
use Rattle.std.proofs.Common.{◌≡◌, ◌<◌, ◌≤◌, ℕ, zero, suc, Bool, true, false, ◌||◌, not, List, [], ◌∷◌, ◌++◌, length, take, refl, sym, ap, ◌∙◌, arith, append_assoc, nat_eq}
use Rattle.std.specs.Prelude.{bytes_eq}
use Rattle.std.specs.List.{list_any}
use Rattle.std.specs.Borrow.{Bor}
use Rattle.std.specs.BTreeSet.{insert_key}
use Rattle.std.specs.Cmp.Lexicographic.{slice_cmp}
use Rattle.std.proofs.Common.{Ordering, Less, Equal, Greater, nat_cmp}
use Rattle.std.proofs.Math.Bool.{or-false, or-true}
use Rattle.std.proofs.lemmas.List.{append-nil, take-append-le, length-append}
use Rattle.std.proofs.Math.Dec.{eqb-suc-zero}
use Rattle.std.proofs.lemmas.Bool.{false≢true}
use Rattle.std.specs.Ordering.{match_ordering, is_eq}
use Rattle.std.proofs.lemmas.Slice.Eq.{bytes_eq-Decides}
use Rattle.std.proofs.lemmas.Map.Text.{is_eq-slice_cmp}
use Rattle.ec_volfile.specs.Lines.{words, skip_blanks}
use Rattle.ec_volfile.specs.Sections.{is_among, repeats}
use Rattle.ec_volfile.proofs.WordLemmas.{words_skip, skip_twice}

-- the words of the line are these and those of the rest, which doesn't begin with a blank
pub record IsFront (args : List ℕ) (front : List (List ℕ)) (rest : List ℕ) : Type 0 where
  pub all : front ++ words rest ≡ words args
  pub begins : skip_blanks rest ≡ rest

pub IsFront-none : (args rest : List ℕ) → rest ≡ skip_blanks args → IsFront args [] rest
IsFront-none args rest e = record { all = ap words e ∙ words_skip args; begins = ap skip_blanks e ∙ (skip_twice args ∙ sym e) }

pub IsFront-more : {args : List ℕ} {front : List (List ℕ)} {rest : List ℕ} (word after : List ℕ) → words rest ≡ word ∷ words after → skip_blanks after ≡ after → IsFront args front rest → IsFront args (front ++ word ∷ []) after
IsFront-more {args} {front} word after e b f = record { all = append_assoc front (word ∷ []) (words after) ∙ (ap (λ (ws : List (List ℕ)). front ++ ws) (sym e) ∙ f.all); begins = b }

-- at the end these are all
pub words_all : {args : List ℕ} {front : List (List ℕ)} {rest : List ℕ} → rest ≡ [] → IsFront args front rest → words args ≡ front
words_all {args} {front} e f = sym f.all ∙ (ap (λ (bs : List ℕ). front ++ words bs) e ∙ append-nil front)

-- what was seen is the front
pub record HasSeen (keys : List (Bor (List ℕ))) (front : List (List ℕ)) : Type 0 where
  pub same : (q : List ℕ) → is_among keys q ≡ list_any (bytes_eq q) front
  pub once : repeats front ≡ false

pub or_parts : (a b : Bool) → (a || b) ≡ false → (a ≡ false) × (b ≡ false)
or_parts true b e = cc
or_parts false b e = (refl, e)

or_twice : (a b c : Bool) → a ≡ b → (b || c) ≡ (a || (b || c))
or_twice true b c e = ap (λ (t : Bool). t || c) (sym e)
or_twice false b c e = refl

or_swap : (a b c : Bool) → (a || (b || c)) ≡ (b || (a || c))
or_swap true true c = refl
or_swap true false c = refl
or_swap false b c = refl

or_comm : (a b : Bool) → (a || b) ≡ (b || a)
or_comm true b = sym (or-true b)
or_comm false b = sym (or-false b)

pub or_both : (a b : Bool) → a ≡ false → b ≡ false → (a || b) ≡ false
or_both a b e f = ap (λ (t : Bool). t || b) e ∙ f

or_right : (a b : Bool) → b ≡ true → (a || b) ≡ true
or_right true b e = refl
or_right false b e = e

bytes_eq-sym : (xs ys : List ℕ) → bytes_eq xs ys ≡ true → bytes_eq ys xs ≡ true
bytes_eq-sym xs ys e = (bytes_eq-Decides ys xs).1 (sym ((bytes_eq-Decides xs ys).0 e))

bytes_eq-comm : (xs ys : List ℕ) → bytes_eq xs ys ≡ bytes_eq ys xs
bytes_eq-comm xs ys = same (bytes_eq xs ys) (bytes_eq ys xs) (bytes_eq-sym xs ys) (bytes_eq-sym ys xs) where
  same : (a b : Bool) → (a ≡ true → b ≡ true) → (b ≡ true → a ≡ true) → a ≡ b
  same true b f g = sym (f refl)
  same false true f g = g refl
  same false false f g = refl

any_push : (p : List ℕ → Bool) (xs : List (List ℕ)) (y : List ℕ) → list_any p (xs ++ y ∷ []) ≡ (list_any p xs || p y)
any_push p [] y = or-false (p y)
any_push p (x ∷ xs) y =
    let more : list_any p (xs ++ y ∷ []) ≡ (list_any p xs || p y) = any_push p xs y in
    elim (p x) as (λ (t : Bool). (t || list_any p (xs ++ y ∷ [])) ≡ ((t || list_any p xs) || p y)) [ true ↦ refl | false ↦ more ]

any_within : (p : List ℕ → Bool) (xs : List (List ℕ)) (y : List ℕ) (ys : List (List ℕ)) → p y ≡ true → list_any p (xs ++ y ∷ ys) ≡ true
any_within p [] y ys e = ap (λ (t : Bool). t || list_any p ys) e
any_within p (x ∷ xs) y ys e = or_right (p x) (list_any p (xs ++ y ∷ ys)) (any_within p xs y ys e)

repeats_push : (xs : List (List ℕ)) (w : List ℕ) → repeats xs ≡ false → list_any (bytes_eq w) xs ≡ false → repeats (xs ++ w ∷ []) ≡ false
repeats_push [] w e f = refl
repeats_push (x ∷ xs) w e f =
    let old : (list_any (bytes_eq x) xs ≡ false) × (repeats xs ≡ false) = or_parts (list_any (bytes_eq x) xs) (repeats xs) e in
    let new : (bytes_eq w x ≡ false) × (list_any (bytes_eq w) xs ≡ false) = or_parts (bytes_eq w x) (list_any (bytes_eq w) xs) f in
    or_both (list_any (bytes_eq x) (xs ++ w ∷ [])) (repeats (xs ++ w ∷ []))
    (any_push (bytes_eq x) xs w ∙ or_both (list_any (bytes_eq x) xs) (bytes_eq x w) old.0 (bytes_eq-comm x w ∙ new.0))
    (repeats_push xs w old.1 new.1)

repeats_again : (xs : List (List ℕ)) (w : List ℕ) (more : List (List ℕ)) → list_any (bytes_eq w) xs ≡ true → repeats (xs ++ w ∷ more) ≡ true
repeats_again [] w more e = cc
repeats_again (x ∷ xs) w more e = first (bytes_eq w x) refl e (repeats_again xs w more) where
  first : (t : Bool) → bytes_eq w x ≡ t → (t || list_any (bytes_eq w) xs) ≡ true → (list_any (bytes_eq w) xs ≡ true → repeats (xs ++ w ∷ more) ≡ true) → repeats (x ∷ (xs ++ w ∷ more)) ≡ true
  first true h e next = ap (λ (t : Bool). t || repeats (xs ++ w ∷ more)) (any_within (bytes_eq x) xs w more (bytes_eq-sym w x h))
  first false h e next = or_right (list_any (bytes_eq x) (xs ++ w ∷ more)) (repeats (xs ++ w ∷ more)) (next e)

-- what is among the keys of a set after one more is put in
pub is_among-insert : (ks : List (Bor (List ℕ))) (k : Bor (List ℕ)) (q : List ℕ) → is_among (insert_key (λ x y. slice_cmp nat_cmp x.now y.now) ks k) q ≡ (bytes_eq q k.now || is_among ks q)
is_among-insert [] k q = refl
is_among-insert (x ∷ ks) k q = first (slice_cmp nat_cmp k.now x.now) (is_eq-slice_cmp k.now x.now) (is_among-insert ks k q) where
  first : (o : Ordering) → is_eq o ≡ bytes_eq k.now x.now → is_among (insert_key (λ x y. slice_cmp nat_cmp x.now y.now) ks k) q ≡ (bytes_eq q k.now || is_among ks q) → is_among (match_ordering o (k ∷ x ∷ ks) (x ∷ ks) (x ∷ insert_key (λ x y. slice_cmp nat_cmp x.now y.now) ks k)) q ≡ (bytes_eq q k.now || is_among (x ∷ ks) q)
  first Less h more = refl
  first Equal h more =
      let same : bytes_eq q k.now ≡ bytes_eq q x.now = ap (bytes_eq q) ((bytes_eq-Decides k.now x.now).0 (sym h)) in
      or_twice (bytes_eq q k.now) (bytes_eq q x.now) (is_among ks q) same
  first Greater h more = ap (λ (t : Bool). bytes_eq q x.now || t) more ∙ or_swap (bytes_eq q x.now) (bytes_eq q k.now) (is_among ks q)

pub HasSeen-none : (keys : List (Bor (List ℕ))) → keys ≡ [] → HasSeen keys []
HasSeen-none keys e = record { same = λ q. ap (λ (ks : List (Bor (List ℕ))). is_among ks q) e; once = refl }

pub HasSeen-more : {old new : List (Bor (List ℕ))} {front : List (List ℕ)} (word : List ℕ) → is_among old word ≡ false → ((q : List ℕ) → is_among new q ≡ (bytes_eq q word || is_among old q)) → HasSeen old front → HasSeen new (front ++ word ∷ [])
HasSeen-more {old} {new} {front} word fresh added h = record {
  same = λ q. added q ∙ (ap (λ (t : Bool). bytes_eq q word || t) (h.same q) ∙ (or_comm (bytes_eq q word) (list_any (bytes_eq q) front) ∙ sym (any_push (bytes_eq q) front word)));
  once = repeats_push front word h.once (sym (h.same word) ∙ fresh);
}

-- the words, where one of them comes again
pub repeats_in : {keys : List (Bor (List ℕ))} {args : List ℕ} {front : List (List ℕ)} {rest : List ℕ} (word after : List ℕ) → words rest ≡ word ∷ words after → is_among keys word ≡ true → HasSeen keys front → IsFront args front rest → repeats (words args) ≡ true
repeats_in {keys} {args} {front} word after e again h f =
    ap repeats (sym f.all ∙ ap (λ (ws : List (List ℕ)). front ++ ws) e) ∙ repeats_again front word (words after) (sym (h.same word) ∙ again)

pub repeats_none : {keys : List (Bor (List ℕ))} {args : List ℕ} {front : List (List ℕ)} {rest : List ℕ} → rest ≡ [] → HasSeen keys front → IsFront args front rest → repeats (words args) ≡ false
repeats_none {keys} {args} {front} e h f = ap repeats (words_all e f) ∙ h.once

-- what a set of words has
pub is_among-contains : (ks : List (Bor (List ℕ))) (q : List ℕ) → list_any (λ (k : Bor (List ℕ)). is_eq (slice_cmp nat_cmp q k.now)) ks ≡ is_among ks q
is_among-contains [] q = refl
is_among-contains (k ∷ ks) q = ap (λ (t : Bool). t || list_any (λ (k : Bor (List ℕ)). is_eq (slice_cmp nat_cmp q k.now)) ks) (is_eq-slice_cmp q k.now) ∙ ap (λ (t : Bool). bytes_eq q k.now || t) (is_among-contains ks q)

pub not_true : (b x : Bool) → b ≡ not x → b ≡ true → x ≡ false
not_true b true e f = cc
not_true b false e f = refl

pub not_false : (b x : Bool) → b ≡ not x → b ≡ false → x ≡ true
not_false b true e f = refl
not_false b false e f = cc

pub take_all : (n : ℕ) (xs : List (List ℕ)) → length xs ≤ n → take n xs ≡ xs
take_all n [] l = take_nil n where
  take_nil : (n : ℕ) → take {A = List ℕ} n [] ≡ []
  take_nil zero = refl
  take_nil (suc n) = refl
take_all zero (x ∷ xs) l = absurd (omega arith)
take_all (suc n) (x ∷ xs) l = ap (λ (zs : List (List ℕ)). x ∷ zs) (take_all n xs (omega arith))

-- the first n, after one more
pub take_room : (n : ℕ) (xs : List (List ℕ)) (y : List ℕ) → length xs < n → take n (xs ++ y ∷ []) ≡ take n xs ++ y ∷ []
take_room n xs y l =
    take_all n (xs ++ y ∷ []) (omega (arith, length-append xs (y ∷ []))) ∙ ap (λ (zs : List (List ℕ)). zs ++ y ∷ []) (sym (take_all n xs (omega arith)))

pub take_full : (n : ℕ) (xs : List (List ℕ)) (y : List ℕ) → n ≤ length xs → take n (xs ++ y ∷ []) ≡ take n xs
take_full n xs y l = take-append-le n xs (y ∷ []) l

pub no_bytes : (xs : List ℕ) (b : Bool) → b ≡ nat_eq (length xs) 0 → b ≡ true → xs ≡ []
no_bytes [] b e f = refl
no_bytes (x ∷ xs) b e f = absurd (false≢true (sym (eqb-suc-zero (length xs)) ∙ (sym e ∙ f)))

pub take_one : (n : ℕ) (xs ys : List (List ℕ)) (x y : List ℕ) → length xs < n → ys ≡ take n xs → y ≡ x → ys ++ y ∷ [] ≡ take n (xs ++ x ∷ [])
take_one n xs ys x y l e f = ap (λ (zs : List (List ℕ)). zs ++ y ∷ []) e ∙ (ap (λ (z : List ℕ). take n xs ++ z ∷ []) f ∙ sym (take_room n xs x l))
