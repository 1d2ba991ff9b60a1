-- Lemmas on the bricks that pass a test, their list and their count.
use Rattle.std.proofs.Common.{◌≡◌, ◌≢◌, ℕ, zero, suc, ◌+◌, ◌*◌, ◌^◌, ◌<◌, ◌≤◌, Bool, true, false, ◌&&◌, ◌||◌, not, ◌%◌, ◌/◌, ◌-◌, bit_or, bit_and, List, [], ◌∷◌, ◌++◌, length, get_or, nat_eq, ◌⊎◌, inl, inr, refl, sym, ap, ◌∙◌, cond, arith, w32, add-one, add-zero, if◌then◌else◌, length-append, append-nil}
use Rattle.std.proofs.lemmas.Bool.{cases_Bool, cond-true, cond-false, cases_eq, cases_lt, and_parts, and_from, and_left, and_right, or_left, eq-eqb, ne_eqb}
use Rattle.std.proofs.lemmas.Bool.Decides.{nat_tests}
use Rattle.std.proofs.lemmas.List.{get_or_append_left}
use Rattle.std.proofs.Math.Seq.{get_or-append_seam}
use Rattle.std.proofs.lemmas.Nat.Bits.{bit_at-lt, same_from_bits_below, bit_at_set_same, bit_at_set_other, bit_at_clear_same, bit_at_clear_other, bit_at_above, shr_and_one}
use Rattle.std.proofs.lemmas.Nat.{or_lt, and_le_l}
use Rattle.std.proofs.Math.Pow.{pow-lt}
use Rattle.std.specs.Int.{bit_at}
use Rattle.ec_attr.specs.Bricks.{is_in, bricks_below, count_below, BrickLaws}

-- one step of the list, and of the count

pub bricks_none : (p : ℕ → Bool) → bricks_below 0 p ≡ []
unfolding bricks_below
bricks_none p = refl

pub bricks_in : (n : ℕ) (p : ℕ → Bool) → p n ≡ true → bricks_below (suc n) p ≡ bricks_below n p ++ n ∷ []
unfolding bricks_below
bricks_in n p t = ap (λ xs. bricks_below n p ++ xs) (cond-true (p n) (n ∷ []) [] t)

pub bricks_out : (n : ℕ) (p : ℕ → Bool) → p n ≡ false → bricks_below (suc n) p ≡ bricks_below n p
unfolding bricks_below
bricks_out n p f = ap (λ xs. bricks_below n p ++ xs) (cond-false (p n) (n ∷ []) [] f) ∙ append-nil (bricks_below n p)

pub count_none : (p : ℕ → Bool) → count_below 0 p ≡ 0
unfolding count_below
count_none p = refl

pub count_in : (n : ℕ) (p : ℕ → Bool) → p n ≡ true → count_below (suc n) p ≡ count_below n p + 1
unfolding count_below
count_in n p t = ap (λ m. count_below n p + m) (cond-true (p n) 1 0 t)

pub count_out : (n : ℕ) (p : ℕ → Bool) → p n ≡ false → count_below (suc n) p ≡ count_below n p
unfolding count_below
count_out n p f = ap (λ m. count_below n p + m) (cond-false (p n) 1 0 f) ∙ omega arith

pub len : (n : ℕ) (p : ℕ → Bool) → length (bricks_below n p) ≡ count_below n p
len zero p = rw (bricks_none, count_none) refl
len (suc n) p =
    elim (cases_Bool (p n)) [
      | inl t ↦ rw (bricks_in n p t, count_in n p t, length-append, len n p) refl
      | inr f ↦ rw (bricks_out n p f, count_out n p f) (len n p)
    ]

pub most : (n : ℕ) (p : ℕ → Bool) → count_below n p ≤ n
most zero p = rw count_none (omega arith)
most (suc n) p =
    elim (cases_Bool (p n)) [
      | inl t ↦ rw (count_in n p t) (omega (arith, most n p))
      | inr f ↦ rw (count_out n p f) (omega (arith, most n p))
    ]

-- the steps at n + 1, as a loop makes them

pub bricks_more_in : (n : ℕ) (p : ℕ → Bool) → p n ≡ true → bricks_below (n + 1) p ≡ bricks_below n p ++ n ∷ []
bricks_more_in n p t = rw (add-one) (bricks_in n p t)

pub bricks_more_out : (n : ℕ) (p : ℕ → Bool) → p n ≡ false → bricks_below (n + 1) p ≡ bricks_below n p
bricks_more_out n p f = rw (add-one) (bricks_out n p f)

pub count_more_in : (n : ℕ) (p : ℕ → Bool) → p n ≡ true → count_below (n + 1) p ≡ count_below n p + 1
count_more_in n p t = rw (add-one n) (count_in n p t)

pub count_more_out : (n : ℕ) (p : ℕ → Bool) → p n ≡ false → count_below (n + 1) p ≡ count_below n p
count_more_out n p f = rw (add-one n) (count_out n p f)

pub ruleset counting = (count_none, count_more_in, count_more_out, len, most, eq-eqb, ne_eqb)

pub ruleset walking = (bricks_none, bricks_more_in, bricks_more_out)

-- brick i of the list

in_front : (n : ℕ) (p : ℕ → Bool) (i : ℕ) → i < count_below n p → p n ≡ true → get_or (bricks_below (suc n) p) i 0 ≡ get_or (bricks_below n p) i 0
in_front n p i l t = rw (bricks_in n p t) (get_or_append_left (bricks_below n p) (n ∷ []) 0 i (rw (len n p) l))

at_end : (n : ℕ) (p : ℕ → Bool) → p n ≡ true → get_or (bricks_below (suc n) p) (count_below n p) 0 ≡ n
at_end n p t = rw (bricks_in n p t, ← len n p) (get_or-append_seam (bricks_below n p) n [] 0)

pub each : (n : ℕ) (p : ℕ → Bool) (i : ℕ) → i < count_below n p → (get_or (bricks_below n p) i 0 < n) × (p (get_or (bricks_below n p) i 0) ≡ true)
each zero p i l = absurd (omega (arith, count_none p))
each (suc n) p i l =
    elim (cases_Bool (p n)) [
      | inl t ↦ elim (cases_lt i (count_below n p)) [
        | inl f ↦ let e = each n p i f in rw (in_front n p i f t) (omega (arith, e.0), e.1)
        | inr g ↦ let s : i ≡ count_below n p = omega (arith, count_in n p t) in rw (s, at_end n p t) (omega arith, t)
      ]
      | inr f ↦ let e = each n p i (rw (count_out n p f) at l) in rw (bricks_out n p f) (omega (arith, e.0), e.1)
    ]

pub place : (n : ℕ) (p : ℕ → Bool) (b : ℕ) → b < n → p b ≡ true → (i : ℕ) × (i < count_below n p) × (get_or (bricks_below n p) i 0 ≡ b)
place zero p b l t = absurd (omega arith)
place (suc n) p b l t =
    elim (cases_eq b n) [
      | inl e ↦ let s : p n ≡ true = rw (← e) t in (count_below n p, omega (arith, count_in n p s), at_end n p s ∙ sym e)
      | inr d ↦ let w = place n p b (omega arith) t in elim (cases_Bool (p n)) [
        | inl s ↦ (w.0, omega (arith, count_in n p s, w.1), in_front n p w.0 w.1 s ∙ w.2)
        | inr f ↦ (w.0, omega (arith, count_out n p f, w.1), rw (bricks_out n p f) w.2)
      ]
    ]

pub rising : (n : ℕ) (p : ℕ → Bool) (i j : ℕ) → i < j → j < count_below n p → get_or (bricks_below n p) i 0 < get_or (bricks_below n p) j 0
rising zero p i j a b = absurd (omega (arith, count_none p))
rising (suc n) p i j a b =
    elim (cases_Bool (p n)) [
      | inl t ↦ elim (cases_lt j (count_below n p)) [
        | inl f ↦ rw (in_front n p j f t, in_front n p i (omega arith) t) (rising n p i j a f)
        | inr g ↦ let s : j ≡ count_below n p = omega (arith, count_in n p t) in let f : i < count_below n p = omega arith in
            rw (s, at_end n p t, in_front n p i f t) (each n p i f).0
      ]
      | inr f ↦ rw (bricks_out n p f) (rising n p i j a (rw (count_out n p f) at b))
    ]

-- a walk that goes from brick m on to brick b, the next one of the set

pub count_after : (m b : ℕ) (p : ℕ → Bool) → bricks_below b p ≡ bricks_below m p → p b ≡ true → count_below (b + 1) p ≡ count_below m p + 1
count_after m b p e t = count_more_in b p t ∙ ap (λ n. n + 1) (sym (len b p) ∙ ap length e ∙ len m p)

pub entry_before : (m b : ℕ) (p : ℕ → Bool) → bricks_below b p ≡ bricks_below m p → p b ≡ true → (i : ℕ) → i < count_below m p
    → get_or (bricks_below (b + 1) p) i 0 ≡ get_or (bricks_below m p) i 0
entry_before m b p e t i l =
    rw (bricks_more_in b p t, e) (get_or_append_left (bricks_below m p) (b ∷ []) 0 i (rw (len m p) l))

pub entry_at : (m b : ℕ) (p : ℕ → Bool) → bricks_below b p ≡ bricks_below m p → p b ≡ true → get_or (bricks_below (b + 1) p) (count_below m p) 0 ≡ b
entry_at m b p e t = rw (bricks_more_in b p t, e, ← len m p) (get_or-append_seam (bricks_below m p) b [] 0)

pub count_grows : (m n : ℕ) (p : ℕ → Bool) → m ≤ n → count_below m p ≤ count_below n p
count_grows m zero p l = let e : m ≡ 0 = omega arith in rw e (omega arith)
count_grows m (suc n) p l =
    elim (cases_eq m (suc n)) [
      | inl e ↦ rw e (omega arith)
      | inr d ↦ let h : count_below m p ≤ count_below n p = count_grows m n p (omega arith) in
          elim (cases_Bool (p n)) [ inl t ↦ omega (arith, count_in n p t) | inr f ↦ omega (arith, count_out n p f) ]
    ]

-- equal sets, part of a set, one brick more, and two sets

pub same : (n : ℕ) (p q : ℕ → Bool) → ((b : ℕ) → b < n → p b ≡ q b) → bricks_below n p ≡ bricks_below n q
same zero p q e = bricks_none p ∙ sym (bricks_none q)
same (suc n) p q e =
    let h : bricks_below n p ≡ bricks_below n q = same n p q (λ b l. e b (omega arith)) in
    let s : p n ≡ q n = e n (omega arith) in
    elim (cases_Bool (p n)) [
      | inl t ↦ bricks_in n p t ∙ ap (λ xs. xs ++ n ∷ []) h ∙ sym (bricks_in n q (sym s ∙ t))
      | inr f ↦ bricks_out n p f ∙ h ∙ sym (bricks_out n q (sym s ∙ f))
    ]

pub same_count : (n : ℕ) (p q : ℕ → Bool) → ((b : ℕ) → b < n → p b ≡ q b) → count_below n p ≡ count_below n q
same_count n p q e = sym (len n p) ∙ ap length (same n p q e) ∙ len n q

pub part : (n : ℕ) (p q : ℕ → Bool) → ((b : ℕ) → b < n → p b ≡ true → q b ≡ true) → count_below n p ≤ count_below n q
part zero p q e = omega (arith, count_none p)
part (suc n) p q e =
    let h : count_below n p ≤ count_below n q = part n p q (λ b l. e b (omega arith)) in
    elim (cases_Bool (p n)) [
      | inl t ↦ omega (arith, count_in n p t, count_in n q (e n (omega arith) t))
      | inr f ↦ elim (cases_Bool (q n)) [
        | inl u ↦ omega (arith, count_out n p f, count_in n q u)
        | inr g ↦ omega (arith, count_out n p f, count_out n q g)
      ]
    ]

pub one_more : (n b : ℕ) (p q : ℕ → Bool) → b < n → p b ≡ false → q b ≡ true → ((c : ℕ) → c < n → c ≢ b → p c ≡ q c) → count_below n q ≡ count_below n p + 1
one_more zero b p q l f t e = absurd (omega arith)
one_more (suc n) b p q l f t e =
    elim (cases_eq b n) [
      | inl s ↦ let h : count_below n p ≡ count_below n q = same_count n p q (λ c k. e c (omega arith) (omega arith)) in
          omega (arith, count_out n p (rw (← s) f), count_in n q (rw (← s) t))
      | inr d ↦ let h : count_below n q ≡ count_below n p + 1 = one_more n b p q (omega arith) f t (λ c k. e c (omega arith)) in
          let s : p n ≡ q n = e n (omega arith) (λ x. d (sym x)) in
          elim (cases_Bool (p n)) [
            | inl u ↦ omega (arith, count_in n p u, count_in n q (sym s ∙ u))
            | inr g ↦ omega (arith, count_out n p g, count_out n q (sym s ∙ g))
          ]
    ]

others_kept : (p q : ℕ → Bool) (b : ℕ) → ((c : ℕ) → q c ≡ (nat_eq c b || p c)) → (c : ℕ) → c ≢ b → p c ≡ q c
others_kept p q b e c d = sym (e c ∙ rw (ne_eqb c b d) refl)

pub added : (n b : ℕ) (p q : ℕ → Bool) → b < n → ((c : ℕ) → q c ≡ (nat_eq c b || p c)) → count_below n q ≡ count_below n p + (if p b then 0 else 1)
added n b p q l e =
    let is_in : q b ≡ true = e b ∙ or_left (nat_eq b b) (p b) (eq-eqb b b refl) in
    elim (cases_Bool (p b)) [
      | inl t ↦ sym (same_count n p q (λ c k. elim (cases_eq c b) [ inl s ↦ rw s (t ∙ sym is_in) | inr d ↦ others_kept p q b e c d ]))
          ∙ sym (rw t (add-zero (count_below n p)))
      | inr f ↦ one_more n b p q l f is_in (λ c k. others_kept p q b e c) ∙ sym (rw f refl)
    ]

others_left : (p q : ℕ → Bool) (b : ℕ) → ((c : ℕ) → q c ≡ (not (nat_eq c b) && p c)) → (c : ℕ) → c ≢ b → q c ≡ p c
others_left p q b e c d = e c ∙ rw (ne_eqb c b d) refl

pub removed : (n b : ℕ) (p q : ℕ → Bool) → b < n → ((c : ℕ) → q c ≡ (not (nat_eq c b) && p c)) → count_below n q + (if p b then 1 else 0) ≡ count_below n p
removed n b p q l e =
    let is_out : q b ≡ false = e b ∙ rw (eq-eqb b b refl) refl in
    elim (cases_Bool (p b)) [
      | inl t ↦ rw t (sym (one_more n b q p l is_out t (λ c k. others_left p q b e c)))
      | inr f ↦ rw f (add-zero (count_below n q) ∙ same_count n q p (λ c k. elim (cases_eq c b) [ inl s ↦ rw s (is_out ∙ sym f) | inr d ↦ others_left p q b e c d ]))
    ]

overlap : (n : ℕ) (p q : ℕ → Bool) → count_below n p + count_below n q ≤ n + count_below n (λ b. p b && q b)
overlap zero p q = omega (arith, count_none p, count_none q)
overlap (suc n) p q =
    let h : count_below n p + count_below n q ≤ n + count_below n (λ b. p b && q b) = overlap n p q in
    elim (cases_Bool (p n)) [
      | inl t ↦ elim (cases_Bool (q n)) [
        | inl u ↦ omega (arith, count_in n p t, count_in n q u, count_in n (λ b. p b && q b) (and_from (p n) (q n) t u))
        | inr g ↦ omega (arith, count_in n p t, count_out n q g, count_out n (λ b. p b && q b) (and_right (p n) (q n) g))
      ]
      | inr f ↦ elim (cases_Bool (q n)) [
        | inl u ↦ omega (arith, count_out n p f, count_in n q u, count_out n (λ b. p b && q b) (and_left (p n) (q n) f))
        | inr g ↦ omega (arith, count_out n p f, count_out n q g, count_out n (λ b. p b && q b) (and_left (p n) (q n) f))
      ]
    ]

pub share : (n k : ℕ) (p q : ℕ → Bool) → n < 2 * k → k ≤ count_below n p → k ≤ count_below n q → (b : ℕ) × (b < n) × (p b ≡ true) × (q b ≡ true)
share n k p q m l r =
    let h : 0 < count_below n (λ b. p b && q b) = omega (arith, overlap n p q) in
    let e = each n (λ b. p b && q b) 0 h in
    let b : ℕ = get_or (bricks_below n (λ b. p b && q b)) 0 0 in
    let parts = and_parts (p b) (q b) e.1 in
    (b, e.0, parts.0, parts.1)

-- the bits of a set

bit_by_test : (x y : ℕ) → x < 2 → y < 2 → nat_eq x 1 ≡ nat_eq y 1 → x ≡ y
bit_by_test x y a b e = grind (arith, nat_tests)

pub bits : (a b : ℕ) → a < 2 ^ 31 → b < 2 ^ 31 → ((c : ℕ) → c < 31 → is_in a c ≡ is_in b c) → a ≡ b
bits a b l r e = same_from_bits_below 31 a b l r (λ i k. bit_by_test (bit_at a i) (bit_at b i) (bit_at-lt a i) (bit_at-lt b i) (e i k))

pub laws : BrickLaws
laws = record { len = len; most = most; each = each; place = place; rising = rising; same = same; same_count = same_count; part = part; one_more = one_more; added = added; removed = removed; share = share; bits = bits }

-- a brick that is put in or taken out

pub with_brick : (bits b : ℕ) → b < 31 → (c : ℕ) → is_in (bit_or bits (1 * 2 ^ b % 2 ^ 32)) c ≡ (nat_eq c b || is_in bits c)
with_brick bits b l c =
    elim (cases_eq c b) [
      | inl e ↦ eq-eqb (bit_at (bit_or bits (1 * 2 ^ b % 2 ^ 32)) c) 1 (rw e (bit_at_set_same w32 bits b (omega arith))) ∙ sym (or_left (nat_eq c b) (is_in bits c) (eq-eqb c b e))
      | inr d ↦ ap (λ v. nat_eq v 1) (bit_at_set_other w32 bits b (omega arith) c d) ∙ rw (ne_eqb c b d) refl
    ]

other_bit : (bits b : ℕ) → b < 31 → bits < 2 ^ 31 → (c : ℕ) → c ≢ b → bit_at (bit_and bits (2 ^ 32 - 1 - 1 * 2 ^ b % 2 ^ 32)) c ≡ bit_at bits c
other_bit bits b l m c d =
    elim (cases_lt c 32) [
      | inl k ↦ bit_at_clear_other w32 bits b (omega arith) c k d
      | inr k ↦ let h : bit_and bits (2 ^ 32 - 1 - 1 * 2 ^ b % 2 ^ 32) < 2 ^ 31 = omega (arith, and_le_l bits (2 ^ 32 - 1 - 1 * 2 ^ b % 2 ^ 32)) in
          bit_at_above (bit_and bits (2 ^ 32 - 1 - 1 * 2 ^ b % 2 ^ 32)) 31 c h (omega arith) ∙ sym (bit_at_above bits 31 c m (omega arith))
    ]

pub without_brick : (bits b : ℕ) → b < 31 → bits < 2 ^ 31 → (c : ℕ) → is_in (bit_and bits (2 ^ 32 - 1 - 1 * 2 ^ b % 2 ^ 32)) c ≡ (not (nat_eq c b) && is_in bits c)
without_brick bits b l m c =
    elim (cases_eq c b) [
      | inl e ↦ ne_eqb (bit_at (bit_and bits (2 ^ 32 - 1 - 1 * 2 ^ b % 2 ^ 32)) c) 1 (rw e (let z = bit_at_clear_same w32 bits b (omega arith) in λ x. omega (arith, x, z))) ∙ rw (eq-eqb c b e) refl
      | inr d ↦ ap (λ v. nat_eq v 1) (other_bit bits b l m c d) ∙ rw (ne_eqb c b d) refl
    ]

pub with_bound : (bits b : ℕ) → b < 31 → bits < 2 ^ 31 → bit_or bits (1 * 2 ^ b % 2 ^ 32) < 2 ^ 31
with_bound bits b l m = or_lt 31 bits (1 * 2 ^ b % 2 ^ 32) m (let h : 2 ^ b < 2 ^ 31 = pow-lt {i = b} {j = 31} l in omega arith)

-- what a shift and a mask test

pub in_by_shift : (bits b : ℕ) → bit_and (bits / 2 ^ b) 1 ≡ 1 → is_in bits b ≡ true
in_by_shift bits b e = eq-eqb (bit_at bits b) 1 (sym (shr_and_one bits b) ∙ e)

pub out_by_shift : (bits b : ℕ) → bit_and (bits / 2 ^ b) 1 ≢ 1 → is_in bits b ≡ false
out_by_shift bits b d = ne_eqb (bit_at bits b) 1 (λ e. d (shr_and_one bits b ∙ e))
