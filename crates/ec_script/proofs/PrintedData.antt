-- Names and data that are printed are read again.
use Rattle.std.proofs.Common.{◌≡◌, ℕ, ◌*◌, ◌<◌, ◌≤◌, Bool, true, false, ◌&&◌, not, List, [], ◌∷◌, ◌++◌, length, get_or, refl, sym, ap, ◌∙◌, arith, append-nil}
use Rattle.std.specs.Prelude.{Result, Ok, Err, bytes_eq, codes, if◌then◌else◌, nat_eq, nat_le}
use Rattle.std.specs.List.{list_all, position_or_len}
use Rattle.std.specs.Result.{result_unwrap_or}
use Rattle.std.proofs.lemmas.Bool.{ne_eqb, true≢false}
use Rattle.std.proofs.lemmas.List.Splits.{slice_split_none}
use Rattle.std.proofs.lemmas.List.Sums.{AllPass-from_list_all, list_all-from_AllPass}
use Rattle.std.proofs.lemmas.Slice.Eq.{bytes_eq-Decides}
use Rattle.hex.specs.Hex.{IsBytes, decode_of, encode_lower, is_hex_digit}
use Rattle.hex.specs.declared.error.FromHexError.{FromHexError}
use Rattle.hex.proofs.HexLemmas.{decode_of-encode_lower, decode_of-ok}
use Rattle.ec_attr.specs.Name.{is_name}
use Rattle.ec_wire.specs.Words.{bytes_word}
use Rattle.ec_script.specs.Data.{digits, is_repeated, joined_bytes, most_data, name_of, not_bulky, part_bytes, parts_bytes, written_bytes}
use Rattle.ec_script.specs.Printed.{IsData, IsName}
use Rattle.ec_script.specs.Results.{◌>>=◌}
use Rattle.ec_script.specs.declared.fault.LineFault.{LineFault}
use Rattle.ec_script.specs.declared.fault.LineFault.TheVariants.{BadName}
use Rattle.ec_script.proofs.DataLemmas.{digits_ok, not_too_many, part_digits}
use Rattle.ec_script.proofs.PrintedWords.{IsWord, all_weaker, holds_at, is_plain}
use Rattle.ec_script.proofs.WordLemmas.{found_nowhere}

-- digits that say these bytes
record Says (bytes text : List ℕ) : Type 0 where
  digits : list_all is_hex_digit text ≡ true
  length : length text ≡ 2 * length bytes
  value : decode_of text ≡ Ok bytes

encode_says : (bytes : List ℕ) → IsBytes bytes → Says bytes (encode_lower bytes)
encode_says bytes h =
    let same = decode_of-encode_lower bytes h in
    let ok = decode_of-ok (encode_lower bytes) bytes same in
    record { digits = list_all-from_AllPass is_hex_digit (encode_lower bytes) ok.1; length = ok.2; value = same }

no_other : (b : ℕ) → is_hex_digit b ≡ true → not (is_hex_digit b) ≡ false
no_other b e = ap not e

digits_again : (at : ℕ) (bytes text : List ℕ) → Says bytes text → 0 < length bytes → digits at text ≡ Ok bytes
digits_again at bytes text s some =
    let all : length text ≡ position_or_len (λ b. not (is_hex_digit b)) text = found_nowhere (λ b. not (is_hex_digit b)) text (length text) (omega arith) (λ k l. no_other (get_or text k 0) (AllPass-from_list_all is_hex_digit text s.digits k 0 l)) in
    digits_ok at text (omega (arith, all)) (λ e. omega (arith, e, s.length, some)) (λ e. omega (arith, e, s.length))
    ∙ ap (λ (r : Result (List ℕ) FromHexError). Ok (result_unwrap_or r [])) s.value

name_some : (n : List ℕ) → is_name n ≡ true → 0 < length n
name_some [] e = cc
name_some (b ∷ bs) e = omega arith

pub name_again : (at : ℕ) (n : List ℕ) → IsName n → name_of (record { place = at; text = encode_lower n }) ≡ Ok n
name_again at n h =
    ap (λ (r : Result (List ℕ) LineFault). r >>= λ bytes. if is_name bytes then Ok bytes else Err BadName) (digits_again at n (encode_lower n) (encode_says n h.1) (name_some n h.0))
    ∙ ap (λ t. if t then Ok n else Err BadName) h.0

-- a digit isn't another byte
hex_not : (b k : ℕ) → is_hex_digit k ≡ false → is_hex_digit b ≡ true → nat_eq b k ≡ false
hex_not b k f e = ne_eqb b k (λ same. true≢false (sym e ∙ ap is_hex_digit same ∙ f))

hex_plain : (b : ℕ) → is_hex_digit b ≡ true → is_plain b ≡ true
hex_plain b e = rw (hex_not b 32 refl e, hex_not b 9 refl e, hex_not b 13 refl e, hex_not b 35 refl e) refl

encoded_word : (bytes : List ℕ) → IsBytes bytes → 0 < length bytes → IsWord (encode_lower bytes)
encoded_word bytes h some = let s = encode_says bytes h in record { some = omega (arith, s.length, some); plain = all_weaker is_hex_digit is_plain hex_plain (encode_lower bytes) s.digits }

pub name_word : (n : List ℕ) → IsName n → IsWord (encode_lower n)
name_word n h = encoded_word n h.1 (name_some n h.0)

pub data_word : (bytes : List ℕ) → IsData bytes → IsWord (bytes_word bytes)
unfolding bytes_word
data_word [] h = record { some = omega arith; plain = refl }
data_word (b ∷ bs) h = encoded_word (b ∷ bs) h.1 (omega arith)

no_star : (b : ℕ) → is_hex_digit b ≡ true → not (nat_eq b 42) ≡ true
no_star b e = ap not (hex_not b 42 refl e)

unnot : (t : Bool) → not t ≡ true → t ≡ false
unnot true e = sym e
unnot false e = refl

and_none : (t : Bool) → (t && false) ≡ false
and_none true = refl
and_none false = refl

-- digits alone aren't a byte that is repeated
no_repeat : (text : List ℕ) → list_all is_hex_digit text ≡ true → is_repeated text ≡ false
no_repeat text h =
    let other = unnot (nat_eq (get_or text 2 0) 42) (holds_at (λ b. not (nat_eq b 42)) text 2 refl (all_weaker is_hex_digit (λ b. not (nat_eq b 42)) no_star text h)) in
    let digits = nat_le 3 (length text) && is_hex_digit (get_or text 0 0) && is_hex_digit (get_or text 1 0) in
    ap (λ t. digits && t) other ∙ and_none digits

-- nor no bytes
no_dash : (text : List ℕ) → 2 ≤ length text → (t : Bool) → (t ≡ true → text ≡ codes "-") → t ≡ false
no_dash text l true same = let e : length text ≡ 1 = ap length (same refl) in absurd (omega (arith, e, l))
no_dash text l false same = refl

one_part : (at : ℕ) (bytes text : List ℕ) → part_bytes at text ≡ Ok bytes → parts_bytes at (text ∷ []) ≡ Ok bytes
unfolding parts_bytes
one_part at bytes text e =
    ap (λ (r : Result (List ℕ) LineFault). r >>= λ bytes. Ok (bytes ++ [])) e ∙ ap (λ xs. Ok xs) (append-nil bytes)

digits_joined : (at : ℕ) (bytes text : List ℕ) → Says bytes text → 0 < length bytes → length bytes ≤ most_data → joined_bytes at text ≡ Ok bytes
digits_joined at bytes text s some most =
    ap (λ ps. parts_bytes at ps >>= not_bulky) (slice_split_none (λ b. nat_eq b 43) text (λ k d l. hex_not (get_or text k d) 43 refl (AllPass-from_list_all is_hex_digit text s.digits k d l)))
    ∙ ap (λ (r : Result (List ℕ) LineFault). r >>= not_bulky) (one_part at bytes text (part_digits at text (no_repeat text s.digits) ∙ digits_again at bytes text s some))
    ∙ not_too_many bytes most

written_digits : (at : ℕ) (bytes text : List ℕ) → Says bytes text → 0 < length bytes → length bytes ≤ most_data → written_bytes (record { place = at; text = text }) ≡ Ok bytes
unfolding written_bytes
written_digits at bytes text s some most =
    ap (λ t. if t then Ok [] else joined_bytes at text) (no_dash text (omega (arith, s.length, some)) (bytes_eq text (codes "-")) (bytes_eq-Decides text (codes "-")).0)
    ∙ digits_joined at bytes text s some most

pub data_again : (at : ℕ) (bytes : List ℕ) → IsData bytes → written_bytes (record { place = at; text = bytes_word bytes }) ≡ Ok bytes
unfolding written_bytes bytes_word
data_again at [] h = refl
data_again at (b ∷ bs) h = written_digits at (b ∷ bs) (encode_lower (b ∷ bs)) (encode_says (b ∷ bs) h.1) (omega arith) h.0
