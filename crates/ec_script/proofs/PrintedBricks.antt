-- Bricks and messages that are printed are read again.
use Rattle.std.proofs.Common.{◌≡◌, ℕ, zero, suc, ◌+◌, ◌*◌, ◌%◌, ◌/◌, ◌^◌, ◌<◌, ◌≤◌, inl, inr, Bool, true, false, List, [], ◌∷◌, ◌++◌, length, get_or, take, drop, Option, Some, None, refl, sym, ap, ◌∙◌, arith, lit<, add-zero, append_assoc, append-nil, length-append, subst}
use Rattle.std.specs.Prelude.{codes, decimal, if◌then◌else◌, map, nat_eq, nat_le, option_and_then}
use Rattle.std.specs.Option.{option_map}
use Rattle.std.specs.Int.{bit_at}
use Rattle.std.specs.List.{list_all, position_or_len}
use Rattle.std.specs.Char.{is_ascii_digit}
use Rattle.std.proofs.Math.Nat.{pow-le-pow_right, mod-eq_of_lt, mod-lt}
use Rattle.std.proofs.lemmas.Bool.{and_parts, and_from, cases_eq, cases_lt, ne_eqb, eq-eqb, le-leb}
use Rattle.std.proofs.lemmas.Nat.{mod-pow-add, pow_pos}
use Rattle.std.proofs.lemmas.Nat.Bits.{bit_at-lt}
use Rattle.std.proofs.lemmas.List.Sums.{AllPass-from_list_all, position_or_len_is}
use Rattle.std.proofs.lemmas.List.{map-append, take_all, take-append-le, get_or_append_left, get_or-append-add}
use Rattle.std.proofs.Math.Seq.{drop-append-add}
use Rattle.std.proofs.lemmas.List.Elements.{All-cons}
use Rattle.std.proofs.lemmas.List.Folds.{list_all-append}
use Rattle.std.proofs.lemmas.Bool.Decides.{nat_tests}
use Rattle.ec_attr.specs.Bricks.{bricks, bricks_below, is_in}
use Rattle.ec_attr.proofs.Sets as sets
use Rattle.ec_wire.specs.Words.{bricks_word, joined}
use Rattle.ec_wire.specs.declared.event.Which.{Which}
use Rattle.ec_wire.specs.declared.event.Which.TheVariants.{Number, ToBrick, ToClient}
use Rattle.ec_script.specs.Bricks.{after_letter, before, behind, both_sides, brick_from, message, rising_bits, sides, via_bits}
use Rattle.ec_script.specs.Printed.{IsBrick, IsClient, IsNumber, IsVia, IsWhich, which_word}
use Rattle.ec_script.proofs.NumberLemmas.{digit_small}
use Rattle.ec_script.proofs.PrintedNumbers.{decimal_says, decimal_word, brick_again, client_again, number_again}
use Rattle.ec_script.proofs.PrintedWords.{Each, IsPiece, IsWord, is_plain, divided_word, split_joined}

-- a brick that isn't below the least one
from_again : (least b : ℕ) → least ≤ b → b ≤ 30 → brick_from least (decimal b) ≡ Some b
from_again least b l most = ap (option_and_then (λ b. if nat_le least b then Some b else None)) (brick_again b most) ∙ ap (λ t. if t then Some b else None) (le-leb least b l)

low_brick : (b n : ℕ) → 2 ^ b < 2 ^ n → b < n
low_brick b n l =
    elim (cases_lt b n) [
      | inl below ↦ below
      | inr above ↦ let high : 2 ^ n ≤ 2 ^ b = pow-le-pow_right (lit< tt) {i = n} {j = b} above in absurd (omega (arith, l, high))
    ]

push_rest : (n bits b : ℕ) (o p : Option ℕ) → bits < 2 ^ n → ((m : ℕ) → b + 1 ≤ n → m < 2 ^ n → o ≡ Some m → p ≡ Some (m + 2 ^ n)) → option_map (λ m. 2 ^ b + m) o ≡ Some bits → option_map (λ m. 2 ^ b + m) p ≡ Some (bits + 2 ^ n)
push_rest n bits b None p small next e = cc
push_rest n bits b (Some m) p small next e =
    let is : 2 ^ b + m ≡ bits = cc in
    let below = low_brick b n (omega (arith, is, small)) in
    ap (option_map (λ m. 2 ^ b + m)) (next m (omega (arith, below)) (omega (arith, is, small)) refl) ∙ ap (λ x. Some x) (omega (arith, is))

push_first : (n bits : ℕ) (o : Option ℕ) (rest more : ℕ → Option ℕ) → bits < 2 ^ n → ((b m : ℕ) → b + 1 ≤ n → m < 2 ^ n → rest b ≡ Some m → more b ≡ Some (m + 2 ^ n))
    → option_and_then (λ b. option_map (λ m. 2 ^ b + m) (rest b)) o ≡ Some bits → option_and_then (λ b. option_map (λ m. 2 ^ b + m) (more b)) o ≡ Some (bits + 2 ^ n)
push_first n bits None rest more small next e = cc
push_first n bits (Some b) rest more small next e = push_rest n bits b (rest b) (more b) small (next b) e

-- a brick behind others that are all below it
rising_push : (least n bits : ℕ) (ws : List (List ℕ)) → least ≤ n → n ≤ 30 → bits < 2 ^ n → rising_bits least ws ≡ Some bits → rising_bits least (ws ++ decimal n ∷ []) ≡ Some (bits + 2 ^ n)
unfolding rising_bits
rising_push least n bits [] l most small e =
    let none : 0 ≡ bits = cc in
    ap (option_and_then (λ b. option_map (λ bits. 2 ^ b + bits) (Some 0))) (from_again least n l most) ∙ ap (λ x. Some x) (omega (arith, none))
rising_push least n bits (w ∷ ws) l most small e =
    push_first n bits (brick_from least w) (λ b. rising_bits (b + 1) ws) (λ b. rising_bits (b + 1) (ws ++ decimal n ∷ [])) small
    (λ b m low below is. rising_push (b + 1) n m ws low most below is) e

-- the bricks below n of a set
rising_none : rising_bits 0 [] ≡ Some 0
unfolding rising_bits
rising_none = refl

with_bit : (bits n : ℕ) → bit_at bits n ≡ 1 → bits % 2 ^ n + 2 ^ n ≡ bits % 2 ^ suc n
with_bit bits n e =
    let sum = mod-pow-add bits 1 n in
    let same : 1 + n ≡ suc n = omega arith in
    let sum_is : bits % 2 ^ suc n ≡ (bits / 2 ^ n % 2 ^ 1) * 2 ^ n + bits % 2 ^ n = rw (← same) sum in
    let bit : bits / 2 ^ n % 2 ^ 1 ≡ 1 = e in
    omega (arith, rw bit at sum_is)

without_bit : (bits n : ℕ) → bit_at bits n ≡ 0 → bits % 2 ^ n ≡ bits % 2 ^ suc n
without_bit bits n e =
    let sum = mod-pow-add bits 1 n in
    let same : 1 + n ≡ suc n = omega arith in
    let sum_is : bits % 2 ^ suc n ≡ (bits / 2 ^ n % 2 ^ 1) * 2 ^ n + bits % 2 ^ n = rw (← same) sum in
    let bit : bits / 2 ^ n % 2 ^ 1 ≡ 0 = e in
    omega (arith, rw bit at sum_is)

below_pow : (bits n : ℕ) → bits % 2 ^ n < 2 ^ n
below_pow bits n = mod-lt bits (pow_pos n)

rising_below : (bits n : ℕ) → n ≤ 31 → rising_bits 0 (map decimal (bricks_below n (is_in bits))) ≡ Some (bits % 2 ^ n)
rising_below bits zero l = ap (λ bs. rising_bits 0 (map decimal bs)) (sets.bricks_none (is_in bits)) ∙ rising_none ∙ ap (λ x. Some x) (omega arith)
rising_below bits (suc n) l =
    let below = rising_below bits n (omega (arith, l)) in
    elim (cases_eq (bit_at bits n) 1) [
      | inl here ↦
          ap (λ bs. rising_bits 0 (map decimal bs)) (sets.bricks_in n (is_in bits) (eq-eqb (bit_at bits n) 1 here))
          ∙ ap (rising_bits 0) (map-append decimal (bricks_below n (is_in bits)) (n ∷ []))
          ∙ rising_push 0 n (bits % 2 ^ n) (map decimal (bricks_below n (is_in bits))) (omega arith) (omega (arith, l)) (below_pow bits n) below
          ∙ ap (λ x. Some x) (with_bit bits n here)
      | inr other ↦
          ap (λ bs. rising_bits 0 (map decimal bs)) (sets.bricks_out n (is_in bits) (ne_eqb (bit_at bits n) 1 other))
          ∙ below
          ∙ ap (λ x. Some x) (without_bit bits n (omega (arith, other, bit_at-lt bits n)))
    ]

each_push : (P : List ℕ → Type 0) (ws : List (List ℕ)) (w : List ℕ) → Each P ws → P w → Each P (ws ++ w ∷ [])
each_push P [] w hs h = (h, tt)
each_push P (v ∷ vs) w hs h = (hs.0, each_push P vs w hs.1 h)

each_brick : (P : List ℕ → Type 0) (n : ℕ) (test : ℕ → Bool) → n ≤ 31 → ((b : ℕ) → b ≤ 30 → P (decimal b)) → Each P (map decimal (bricks_below n test))
unfolding bricks_below
each_brick P zero test l h = tt
each_brick P (suc n) test l h = more (test n) (each_brick P n test (omega (arith, l)) h) where
  more : (t : Bool) → Each P (map decimal (bricks_below n test)) → Each P (map decimal (bricks_below n test ++ (if t then n ∷ [] else [])))
  more true hs = subst (Each P) (sym (map-append decimal (bricks_below n test) (n ∷ []))) (each_push P (map decimal (bricks_below n test)) (decimal n) hs (h n (omega (arith, l))))
  more false hs = subst (λ bs. Each P (map decimal bs)) (sym (append-nil (bricks_below n test))) hs

digit_no_comma : (b : ℕ) → is_ascii_digit b ≡ true → nat_eq b 44 ≡ false
digit_no_comma b e = grind (arith, nat_tests)

no_comma : (b : ℕ) → b ≤ 30 → IsPiece (λ c. nat_eq c 44) (decimal b)
no_comma b l = λ k d m. digit_no_comma (get_or (decimal b) k d) (AllPass-from_list_all is_ascii_digit (decimal b) (decimal_says b (omega (arith, l))).digits k d m)

via_of : (bits : ℕ) (ws : List (List ℕ)) → 0 < bits → Each (IsPiece (λ c. nat_eq c 44)) ws → rising_bits 0 ws ≡ Some bits → via_bits (joined ws) ≡ Some bits
unfolding joined rising_bits
via_of bits [] l h e = let none : 0 ≡ bits = cc in absurd (omega (arith, none, l))
via_of bits (w ∷ ws) l h e = ap (rising_bits 0) (split_joined (λ c. nat_eq c 44) 44 w ws refl h.0 h.1) ∙ e

pub via_again : (bits : ℕ) → IsVia (Some bits) → via_bits (bricks_word bits) ≡ Some bits
via_again bits h =
    via_of bits (map decimal (bricks bits)) h.0 (each_brick (IsPiece (λ c. nat_eq c 44)) 31 (is_in bits) (omega arith) no_comma)
    (rising_below bits 31 (omega arith) ∙ ap (λ x. Some x) (mod-eq_of_lt h.1))

joined_word : (ws : List (List ℕ)) → Each IsWord ws → IsWord (joined ws)
unfolding joined
joined_word [] h = record { some = omega arith; plain = refl }
joined_word (w ∷ ws) h = divided_word 44 w ws refl h.0 h.1

pub via_word : (bits : ℕ) → IsVia (Some bits) → IsWord (bricks_word bits)
via_word bits h = joined_word (map decimal (bricks bits)) (each_brick IsWord 31 (is_in bits) (omega arith) (λ b l. decimal_word b (omega (arith, l))))

-- what stands on both sides of the first hyphen
sides_of : (front back : List ℕ) → IsPiece (λ b. nat_eq b 45) front → (before 45 (front ++ 45 ∷ back) ≡ front) × (behind 45 (front ++ 45 ∷ back) ≡ back)
sides_of front back h =
    let word = front ++ 45 ∷ back in
    let at : position_or_len (λ b. nat_eq b 45) word ≡ length front =
    position_or_len_is (λ b. nat_eq b 45) word (length front) 0 (omega (arith, length-append front (45 ∷ back)))
    (λ k l. ap (λ b. nat_eq b 45) (get_or_append_left front (45 ∷ back) 0 k l) ∙ h k 0 l)
    (λ l. ap (λ b. nat_eq b 45) (ap (λ n. get_or word n 0) (sym (add-zero (length front))) ∙ get_or-append-add front (45 ∷ back) 0 0)) in (
      ap (λ n. take n word) at ∙ take-append-le (length front) front (45 ∷ back) (omega arith) ∙ take_all (length front) front (omega arith),
      ap (λ n. drop (n + 1) word) at ∙ drop-append-add front (45 ∷ back) 1,
    )

digit_no_hyphen : (b : ℕ) → is_ascii_digit b ≡ true → nat_eq b 45 ≡ false
digit_no_hyphen b e = grind (arith, nat_tests)

-- a letter and a number
letter_piece : (letter n : ℕ) → nat_eq letter 45 ≡ false → n < 10 ^ 64 → IsPiece (λ b. nat_eq b 45) (letter ∷ decimal n)
letter_piece letter n e l =
    All-cons (λ b. nat_eq b 45 ≡ false) letter (decimal n) e
    (λ k d m. digit_no_hyphen (get_or (decimal n) k d) (AllPass-from_list_all is_ascii_digit (decimal n) (decimal_says n l).digits k d m))

no_letter : (letter k : ℕ) (w : List ℕ) → 58 ≤ letter → list_all is_ascii_digit w ≡ true → after_letter letter (take k w) ≡ None
no_letter letter zero w l h = refl
no_letter letter (suc k) [] l h = refl
no_letter letter (suc k) (b ∷ w) l h =
    let small = digit_small b (and_parts (is_ascii_digit b) (list_all is_ascii_digit w) h).0 in
    ap (λ t. if t then Some (take k w) else None) (ne_eqb b letter (λ e. omega (arith, e, small.1, l)))

no_sides : (left right : ℕ) (w : List ℕ) → 58 ≤ left → list_all is_ascii_digit w ≡ true → sides left right w ≡ None
no_sides left right w l h = ap (λ o. both_sides o (after_letter right (behind 45 w))) (no_letter left (position_or_len (λ b. nat_eq b 45) w) w l h)

number_message : (n : ℕ) → IsNumber n → message (decimal n) ≡ Some (Number n)
unfolding message
number_message n h =
    let digits = (decimal_says n (omega (arith, h))).digits in
    rw (no_sides 99 98 (decimal n) (omega arith) digits, no_sides 98 99 (decimal n) (omega arith) digits) (ap (option_map (λ n. Number n)) (number_again n h))

to_brick_message : (c b : ℕ) → IsClient c → IsBrick b → message ((99 ∷ decimal c) ++ 45 ∷ 98 ∷ decimal b) ≡ Some (ToBrick c b)
unfolding message
to_brick_message c b hc hb =
    let s = sides_of (99 ∷ decimal c) (98 ∷ decimal b) (letter_piece 99 c refl (omega (arith, hc.1))) in
    rw (s.0, s.1, client_again c hc, brick_again b hb) refl

to_client_message : (c b : ℕ) → IsClient c → IsBrick b → message ((98 ∷ decimal b) ++ 45 ∷ 99 ∷ decimal c) ≡ Some (ToClient c b)
unfolding message
to_client_message c b hc hb =
    let s = sides_of (98 ∷ decimal b) (99 ∷ decimal c) (letter_piece 98 b refl (omega (arith, hb))) in
    rw (s.0, s.1, client_again c hc, brick_again b hb) refl

pub message_again : (m : Which) → IsWhich m → message (which_word m) ≡ Some m
message_again (Number n) h = number_message n h
message_again (ToBrick c b) h = ap message (append_assoc (codes "c" ++ decimal c) (codes "-b") (decimal b)) ∙ to_brick_message c b h.0 h.1
message_again (ToClient c b) h = ap message (append_assoc (codes "b" ++ decimal b) (codes "-c") (decimal c)) ∙ to_client_message c b h.0 h.1

sides_word : (left right m n : ℕ) → is_plain left ≡ true → is_plain right ≡ true → m < 10 ^ 64 → n < 10 ^ 64 → IsWord ((left ∷ decimal m) ++ 45 ∷ right ∷ decimal n)
sides_word left right m n e f l k = record {
  some = omega (arith, length-append (left ∷ decimal m) (45 ∷ right ∷ decimal n));
  plain =
      rw list_all-append
      (and_from (list_all is_plain (left ∷ decimal m)) (list_all is_plain (45 ∷ right ∷ decimal n)) (and_from (is_plain left) (list_all is_plain (decimal m)) e (decimal_word m l).plain)
      (and_from (is_plain right) (list_all is_plain (decimal n)) f (decimal_word n k).plain));
}

pub message_word : (m : Which) → IsWhich m → IsWord (which_word m)
message_word (Number n) h = decimal_word n (omega (arith, h))
message_word (ToBrick c b) h = subst IsWord (sym (append_assoc (codes "c" ++ decimal c) (codes "-b") (decimal b))) (sides_word 99 98 c b refl refl (omega (arith, h.0.1)) (omega (arith, h.1)))
message_word (ToClient c b) h = subst IsWord (sym (append_assoc (codes "b" ++ decimal b) (codes "-c") (decimal c))) (sides_word 98 99 b c refl refl (omega (arith, h.1)) (omega (arith, h.0.1)))
