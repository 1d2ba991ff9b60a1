-- Hexadecimal digits and the data of a write.
use Rattle.std.proofs.Common.{◌≡◌, ℕ, zero, suc, ◌+◌, ◌-◌, ◌*◌, inl, inr, ◌%◌, ◌<◌, ◌≤◌, Bool, true, false, not, List, [], ◌∷◌, ◌++◌, Option, Some, None, length, take, drop, get_or, refl, sym, ap, ◌∙◌, arith, append_assoc, append-nil, length-append}
use Rattle.std.specs.Prelude.{nat_eq, replicate, slice_index, if◌then◌else◌, Result, Ok, Err, MatchResult}
use Rattle.std.specs.List.{position_or_len, slice_split, AllPass}
use Rattle.std.specs.Result.{result_unwrap_or, IfOk}
use Rattle.ec_script.specs.declared.fault.LineFault.{LineFault}
use Rattle.ec_script.specs.declared.fault.LineFault.TheVariants.{BadNumber, Bulky}
use Rattle.ec_script.specs.Results.{◌>>=◌, Fails}
use Rattle.ec_script.specs.Words.{pieces}
use Rattle.std.proofs.lemmas.List.Sums.{fails_before_first, position_or_len_is}
use Rattle.hex.specs.Hex.{IsBytes, decode_sized, is_hex_digit}
use Rattle.hex.specs.declared.error.FromHexError.{FromHexError}
use Rattle.hex.proofs.HexLemmas.{decode_of-digits, decode_of-ok, decode_sized-twice}
use Rattle.std.proofs.lemmas.Bool.{cases_lt, le-ltb, lt-ltb, ne_eqb, true≢false, false≢true}
use Rattle.std.proofs.lemmas.List.{take_all, take-append-le}
use Rattle.std.proofs.Common.{subst}
use Rattle.ec_script.specs.Numbers.{number}
use Rattle.ec_script.specs.Data.{Gathers, digits, digits_bytes, is_repeated, joined_bytes, most_data, not_bulky, part_bytes, parts_bytes, repeated}

unnot : (t : Bool) → not t ≡ false → t ≡ true
unnot true e = refl
unnot false e = sym e

-- where no byte is another, each is a digit
pub all_digits : (text : List ℕ) → position_or_len (λ b. not (is_hex_digit b)) text ≡ length text → AllPass is_hex_digit text
all_digits text e = λ k d l. unnot (is_hex_digit (get_or text k d)) (fails_before_first (λ b. not (is_hex_digit b)) text k d (omega (arith, e, l)))

-- the bytes of digits are decoded
pub decoded : (text : List ℕ) (n : ℕ) → position_or_len (λ b. not (is_hex_digit b)) text ≡ length text → length text ≡ 2 * n → decode_sized text n ≡ Ok (digits_bytes text)
decoded text n e l =
    let d = decode_of-digits text (omega (arith, l)) (all_digits text e) in
    decode_sized-twice text n l ∙ d.1 ∙ ap Ok (sym (ap (λ (r : Result (List ℕ) FromHexError). result_unwrap_or r []) d.1))

pub digits_ok : (at : ℕ) (text : List ℕ) → length text ≤ position_or_len (λ b. not (is_hex_digit b)) text → (length text ≡ 0 → ⊥) → (length text % 2 ≡ 1 → ⊥) → digits at text ≡ Ok (digits_bytes text)
unfolding digits
digits_ok at text l some even = rw (le-ltb (position_or_len (λ b. not (is_hex_digit b)) text) (length text) l, ne_eqb (length text) 0 some, ne_eqb (length text % 2) 1 even) refl

-- what was decoded into a slice
pub filled : (r : Result (List ℕ) FromHexError) (bytes out : List ℕ) (done : Result Unit FromHexError) → MatchResult r (λ bytes. (done ≡ Ok tt) × (out ≡ bytes)) (λ e. done ≡ Err e) → r ≡ Ok bytes → (done ≡ Ok tt) × (out ≡ bytes)
filled r bytes out done m e = subst (λ (r : Result (List ℕ) FromHexError). MatchResult r (λ bytes. (done ≡ Ok tt) × (out ≡ bytes)) (λ e. done ≡ Err e)) e m

-- a vector after its slice was written
pub written_back : (slice items : List ℕ) (n : ℕ) → length slice ≡ length items → n ≡ length items → take n (slice ++ drop (length slice) items) ≡ slice
written_back slice items n e f = take-append-le {A = ℕ} n slice (drop (length slice) items) (omega (arith, e, f)) ∙ take_all n slice (omega (arith, e, f))

pub kept_front : (old zeros : List ℕ) (n k : ℕ) → n ≡ length old → take n (take (n + k) old ++ zeros) ≡ old
kept_front old zeros n k e =
    let whole : take (n + k) old ≡ old = take_all (n + k) old (omega (arith, e)) in
    ap (λ xs. take n (xs ++ zeros)) whole ∙ take-append-le {A = ℕ} n old zeros (omega (arith, e)) ∙ take_all n old (omega (arith, e))

-- the bytes of digits are half as many, and bytes
pub digits_are : (text : List ℕ) → position_or_len (λ b. not (is_hex_digit b)) text ≡ length text → length text % 2 ≡ 0 → (length text ≡ 2 * length (digits_bytes text)) × IsBytes (digits_bytes text)
digits_are text e even =
    let d = decode_of-digits text even (all_digits text e) in
    let is : digits_bytes text ≡ d.0 = ap (λ (r : Result (List ℕ) FromHexError). result_unwrap_or r []) d.1 in
    let ok = decode_of-ok text d.0 d.1 in
    (ok.2 ∙ ap (λ bytes. 2 * length bytes) (sym is), subst IsBytes (sym is) ok.3)

-- bytes that there is room for
pub gathers : (bulky : Bool) (old new more : List ℕ) → bulky ≡ false → length old + length more ≤ most_data → new ≡ old ++ more → Gathers bulky old false new more
gathers true old new more b l e = absurd (true≢false b)
gathers false old new more b l e = λ all h. (e ∙ ap (λ xs. xs ++ more) h.0, omega (arith, length-append all more, ap length h.0, l))

-- and such that there is none for
pub gathers_none : (bulky : Bool) (old more : List ℕ) (n : ℕ) → length more ≡ n → ((bulky ≡ false) × (length old + n ≤ most_data) → ⊥) → Gathers bulky old true old more
gathers_none true old more n e none = λ all h. omega (arith, length-append all more, h)
gathers_none false old more n e none = λ all h.
    elim (cases_lt most_data (length all + n)) [
      | inl above ↦ omega (arith, length-append all more, e, above)
      | inr within ↦ absurd (none (refl, omega (arith, within, ap length h.0)))
    ]

-- two digits are digits
pub two_digits : (a b : ℕ) → is_hex_digit a ≡ true → is_hex_digit b ≡ true → position_or_len (λ b. not (is_hex_digit b)) (a ∷ b ∷ []) ≡ 2
two_digits a b e f =
    position_or_len_is (λ b. not (is_hex_digit b)) (a ∷ b ∷ []) 2 0 (omega arith) before (λ l. absurd (omega (arith, l))) where
      before : (k : ℕ) → k < 2 → not (is_hex_digit (get_or (a ∷ b ∷ []) k 0)) ≡ false
      before zero l = ap not e
      before (suc zero) l = ap not f
      before (suc (suc k)) l = absurd (omega (arith, l))

pub front_digits : (part : List ℕ) → 3 ≤ length part → is_hex_digit (get_or part 0 0) ≡ true → is_hex_digit (get_or part 1 0) ≡ true → position_or_len (λ b. not (is_hex_digit b)) (take 2 part) ≡ length (take 2 part)
front_digits [] l e f = absurd (omega (arith, l))
front_digits (a ∷ []) l e f = absurd (omega (arith, l))
front_digits (a ∷ b ∷ rest) l e f = two_digits a b e f

pub part_repeated : (at : ℕ) (part : List ℕ) → is_repeated part ≡ true → part_bytes at part ≡ repeated (number (drop 3 part)) (digits_bytes (take 2 part))
unfolding part_bytes
part_repeated at part e = ap (λ t. if t then repeated (number (drop 3 part)) (digits_bytes (take 2 part)) else digits at part) e

pub part_digits : (at : ℕ) (part : List ℕ) → is_repeated part ≡ false → part_bytes at part ≡ digits at part
unfolding part_bytes
part_digits at part e = ap (λ t. if t then repeated (number (drop 3 part)) (digits_bytes (take 2 part)) else digits at part) e

-- a test that says no of what it would say yes of
pub told_not : {P : Type 0} (t : Bool) → t ≡ false → (P → t ≡ true) → P → ⊥
told_not t e h p = absurd (false≢true (sym e ∙ h p))

pub more_zeros : (old : List ℕ) (n m k byte : ℕ) → n ≡ length old → m ≡ length old → take (n + k) old ++ replicate (n + k - m) byte ≡ old ++ replicate k byte
more_zeros old n m k byte e f =
    let whole : take (n + k) old ≡ old = take_all (n + k) old (omega (arith, e)) in
    let count : n + k - m ≡ k = omega (arith, e, f) in
    rw (whole, count) refl

-- a part that was read, by its two forms
pub gathers_part : (bulky : Bool) (old : List ℕ) (new : List ℕ) (result : Result Bool LineFault) (said : Result (List ℕ) LineFault) (more : List ℕ) → said ≡ Ok more → IfOk result (λ still. Gathers bulky old still new more)
    → IfOk result (λ still. (more : List ℕ) × (said ≡ Ok more) × Gathers bulky old still new more)
gathers_part bulky old new (Ok still) said more e g = (more, e, g)
gathers_part bulky old new (Err f) said more e g = tt

pub repeated_said : (at : ℕ) (part : List ℕ) (times byte : ℕ) → is_repeated part ≡ true → byte ≡ slice_index (digits_bytes (take 2 part)) 0 → Some times ≡ number (drop 3 part) → part_bytes at part ≡ Ok (replicate times byte)
repeated_said at part times byte e f g = part_repeated at part e ∙ ap (λ o. repeated o (digits_bytes (take 2 part))) (sym g) ∙ ap (λ b. Ok (replicate times b)) (sym f)

pub repeated_fault : (at : ℕ) (part : List ℕ) → is_repeated part ≡ true → None ≡ number (drop 3 part) → part_bytes at part ≡ Err BadNumber
repeated_fault at part e g = part_repeated at part e ∙ ap (λ o. repeated o (digits_bytes (take 2 part))) (sym g)

-- the bytes so far with those of the rest
abbrev pub with_front : List ℕ → Result (List ℕ) LineFault → Result (List ℕ) LineFault
with_front front said = said >>= λ more. Ok (front ++ more)

pub front_none : (said : Result (List ℕ) LineFault) → said ≡ with_front [] said
front_none (Ok more) = refl
front_none (Err e) = refl

join_front : (all bytes : List ℕ) (said : Result (List ℕ) LineFault) → with_front all (said >>= λ more. Ok (bytes ++ more)) ≡ with_front (all ++ bytes) said
join_front all bytes (Ok more) = ap (λ xs. Ok xs) (sym (append_assoc all bytes more))
join_front all bytes (Err e) = refl

-- a part more
pub parts_next : (all more : List ℕ) (at : ℕ) (o : Option (List ℕ)) (text part : List ℕ) (rest : Option (List ℕ)) → o ≡ Some text → slice_split (λ b. nat_eq b 43) text ≡ part ∷ pieces (λ b. nat_eq b 43) rest → part_bytes at part ≡ Ok more
    → with_front all (parts_bytes at (pieces (λ b. nat_eq b 43) o)) ≡ with_front (all ++ more) (parts_bytes (at + (length part + 1)) (pieces (λ b. nat_eq b 43) rest))
unfolding parts_bytes
parts_next all more at o text part rest e f g =
    ap (λ o. with_front all (parts_bytes at (pieces (λ b. nat_eq b 43) o))) e ∙ ap (λ ps. with_front all (parts_bytes at ps)) f
    ∙ ap (λ (r : Result (List ℕ) LineFault). with_front all (r >>= λ bytes. parts_bytes (at + (length part + 1)) (pieces (λ b. nat_eq b 43) rest) >>= λ more. Ok (bytes ++ more))) g
    ∙ join_front all more (parts_bytes (at + (length part + 1)) (pieces (λ b. nat_eq b 43) rest))

-- a part's fault is that of all
pub parts_fault : (fault : LineFault) (all : List ℕ) (at : ℕ) (o : Option (List ℕ)) (text part : List ℕ) (rest : Option (List ℕ)) → o ≡ Some text → slice_split (λ b. nat_eq b 43) text ≡ part ∷ pieces (λ b. nat_eq b 43) rest → part_bytes at part ≡ Err fault
    → with_front all (parts_bytes at (pieces (λ b. nat_eq b 43) o)) ≡ Err fault
unfolding parts_bytes
parts_fault fault all at o text part rest e f g =
    ap (λ o. with_front all (parts_bytes at (pieces (λ b. nat_eq b 43) o))) e ∙ ap (λ ps. with_front all (parts_bytes at ps)) f
    ∙ ap (λ (r : Result (List ℕ) LineFault). with_front all (r >>= λ bytes. parts_bytes (at + (length part + 1)) (pieces (λ b. nat_eq b 43) rest) >>= λ more. Ok (bytes ++ more))) g

pub parts_done : (all : List ℕ) (at : ℕ) → with_front all (parts_bytes at []) ≡ Ok all
unfolding parts_bytes
parts_done all at = ap (λ xs. Ok xs) (append-nil all)

pub parts_end : (all : List ℕ) (at : ℕ) (o : Option (List ℕ)) → o ≡ None → with_front all (parts_bytes at (pieces (λ b. nat_eq b 43) o)) ≡ Ok all
parts_end all at o e = ap (λ o. with_front all (parts_bytes at (pieces (λ b. nat_eq b 43) o))) e ∙ parts_done all at

pub too_many : (all : List ℕ) → most_data < length all → not_bulky all ≡ Err Bulky
too_many all l = rw (lt-ltb most_data (length all) l) refl

pub not_too_many : (all : List ℕ) → length all ≤ most_data → not_bulky all ≡ Ok all
not_too_many all l = rw (le-ltb most_data (length all) l) refl

-- the data that has a fault
pub joined_fault : (fault : LineFault) (at : ℕ) (text : List ℕ) → Fails fault (parts_bytes at (slice_split (λ b. nat_eq b 43) text)) → Fails fault (joined_bytes at text)
joined_fault fault at text (inl memory) = inl memory
joined_fault fault at text (inr e) = inr (ap (λ (r : Result (List ℕ) LineFault). r >>= not_bulky) e)

pub fails_as : (fault : LineFault) (said other : Result (List ℕ) LineFault) → (said ≡ Err fault → other ≡ Err fault) → Fails fault said → Fails fault other
fails_as fault said other f (inl memory) = inl memory
fails_as fault said other f (inr e) = inr (f e)
