-- The new chunks, one after another, and the stripes and codes of them.
use Rattle.std.proofs.Common.{◌≡◌, ◌⊎◌, inl, inr, ℕ, zero, suc, ◌+◌, ◌-◌, ◌*◌, ◌/◌, ◌%◌, ◌<◌, ◌≤◌, nat_lt, nat_le, Bool, true, false, cond, refl, sym, ◌∙◌, ap, subst, arith, List, [], ◌∷◌, ◌++◌, length, drop, length-drop}
use Rattle.std.specs.Prelude.{slice_index}
use Rattle.std.proofs.Math.Nat.{div-add-mod, lt_of_mul-lt-mul_left, mod-lt, mul-div-le, mul-le-mul_left}
use Rattle.std.proofs.lemmas.Bool.{cases_lt}
use Rattle.std.proofs.lemmas.Bool.Decides.{nat_tests}
use Rattle.std.proofs.lemmas.List.{get_or_append_left, get_or-drop, get_or_past, get_or_push, get_or-replicate, get_or-take, length-take-le, length_push}
use Rattle.std.proofs.lemmas.Nat.{mod-mul-add}
use Rattle.ec_attr.specs.declared.geometry.Geometry.{Geometry}
use Rattle.ec_conduct.specs.Data.{stripe_byte}
use Rattle.ec_conduct.specs.Given.{quorum}
use Rattle.ec_field.specs.Chunk.{IsChunk, zero_chunk}
use Rattle.ec_field.specs.Code.{IsCode, IsStripe, chunk_at}
use Rattle.ec_stripe.specs.Span.{stripe_bytes}
use Rattle.ec_write.specs.Filled.{AreFilled, AreListed, old_chunk, stripe_of}
use Rattle.ec_write.specs.Range.{count_stripes, head_of, new_byte, reach}
use Rattle.ec_write.specs.Stripes.{AreCoded, list_at, old_stripe}

zero_byte : (q : ℕ) → q < 512 → slice_index zero_chunk q ≡ 0
unfolding zero_chunk
zero_byte q l = get_or-replicate 512 q 0 0 l

-- zeros stand for a chunk that isn't there
pub no_chunk : (stripe : List (List ℕ)) (j : ℕ) (chunk : List ℕ) → length stripe ≤ j → chunk ≡ zero_chunk → (q : ℕ) → q < 512 → slice_index chunk q ≡ slice_index (chunk_at stripe j) q
no_chunk stripe j chunk past is q l = ap (λ (xs : List ℕ). slice_index xs q) is ∙ (zero_byte q l ∙ sym (ap (λ (xs : List ℕ). slice_index xs q) (get_or_past stripe j [] past)))

-- a byte of the range
pub inside_byte : (k off : ℕ) (bytes : List ℕ) (size old at : ℕ) → head_of k off ≤ at → at < reach k off (length bytes) → new_byte k off bytes size old at ≡ slice_index bytes (at - head_of k off)
inside_byte k off bytes size old at a b =
    let t : nat_le (head_of k off) at ≡ true = grind (arith, nat_tests) in
    let u : nat_lt at (reach k off (length bytes)) ≡ true = grind (arith, nat_tests) in
    rw (t, u) refl

pub filled_none : (k off : ℕ) (bytes : List ℕ) (size : ℕ) (front back : List (List ℕ)) → AreFilled k off bytes size front back 0 []
filled_none k off bytes size front back = record { len = refl; chunk = λ m l. absurd (omega (arith, l)); bytes_are = λ m q l. absurd (omega (arith, l)) }

pub filled_more : (k off : ℕ) (bytes : List ℕ) (size : ℕ) (front back : List (List ℕ)) (n : ℕ) (old new : List (List ℕ)) (chunk : List ℕ) → AreFilled k off bytes size front back n old → new ≡ old ++ chunk ∷ [] → IsChunk chunk
    → ((q : ℕ) → q < 512 → slice_index chunk q ≡ new_byte k off bytes size (slice_index (old_chunk k front back n) q) (512 * n + q)) → AreFilled k off bytes size front back (n + 1) new
filled_more k off bytes size front back n old new chunk a is whole each = record {
  len = ap length is ∙ (length_push old chunk ∙ ap (λ (m : ℕ). m + 1) a.len);
  chunk = λ m l. elim (cases_lt m n) [
    | inl less ↦ subst IsChunk (sym (before m less)) (a.chunk m less)
    | inr past ↦ let e : m ≡ n = omega (arith, l, past) in subst IsChunk (sym (here m e)) whole
  ];
  bytes_are = λ m q l f. elim (cases_lt m n) [
    | inl less ↦ ap (λ (c : List ℕ). slice_index c q) (before m less) ∙ a.bytes_are m q less f
    | inr past ↦ let e : m ≡ n = omega (arith, l, past) in
        ap (λ (c : List ℕ). slice_index c q) (here m e) ∙ subst (λ (i : ℕ). slice_index chunk q ≡ new_byte k off bytes size (slice_index (old_chunk k front back i) q) (512 * i + q)) (sym e) (each q f)
  ];
}
  where
    before : (m : ℕ) → m < n → chunk_at new m ≡ chunk_at old m
    before m less = ap (λ (xs : List (List ℕ)). chunk_at xs m) is ∙ get_or_append_left old (chunk ∷ []) [] m (let z = a.len in omega (arith, z, less))

    here : (m : ℕ) → m ≡ n → chunk_at new m ≡ chunk
    here m e = ap (λ (xs : List (List ℕ)). chunk_at xs m) is ∙ get_or_push old chunk [] m (a.len ∙ sym e)

-- lists of codes

pub listed_none : (geometry : Geometry) (brick : ℕ) (chunks list : List (List ℕ)) → list ≡ [] → AreListed geometry brick chunks 0 list
listed_none geometry brick chunks list is = record { len = ap length is; codes = λ i l. absurd (omega (arith, l)) }

pub listed_more : (geometry : Geometry) (brick : ℕ) (chunks : List (List ℕ)) (n : ℕ) (old new : List (List ℕ)) (chunk : List ℕ) → AreListed geometry brick chunks n old → new ≡ old ++ chunk ∷ []
    → IsCode (quorum geometry) geometry.algorithm brick (stripe_of (quorum geometry) chunks n) chunk → AreListed geometry brick chunks (n + 1) new
listed_more geometry brick chunks n old new chunk a is code = record {
  len = ap length is ∙ (length_push old chunk ∙ ap (λ (m : ℕ). m + 1) a.len);
  codes = λ i l. elim (cases_lt i n) [
    | inl less ↦ subst (IsCode (quorum geometry) geometry.algorithm brick (stripe_of (quorum geometry) chunks i)) (sym (ap (λ (xs : List (List ℕ)). chunk_at xs i) is ∙ get_or_append_left old (chunk ∷ []) [] i (let z = a.len in omega (arith, z, less)))) (a.codes i less)
    | inr past ↦ let e : i ≡ n = omega (arith, l, past) in
        subst (IsCode (quorum geometry) geometry.algorithm brick (stripe_of (quorum geometry) chunks i)) (sym (ap (λ (xs : List (List ℕ)). chunk_at xs i) is ∙ get_or_push old chunk [] i (a.len ∙ sym e)))
        (subst (λ (m : ℕ). IsCode (quorum geometry) geometry.algorithm brick (stripe_of (quorum geometry) chunks m) chunk) (sym e) code)
  ];
}

pub lists_more : (geometry : Geometry) (chunks : List (List ℕ)) (n count : ℕ) (old new : List (List (List ℕ))) (list : List (List ℕ)) → length old ≡ n → ((x : ℕ) → x < n → AreListed geometry x chunks count (list_at old x)) → new ≡ old ++ list ∷ []
    → AreListed geometry n chunks count list → (x : ℕ) → x < n + 1 → AreListed geometry x chunks count (list_at new x)
lists_more geometry chunks n count old new list len each is more x l = elim (cases_lt x n) [
  | inl less ↦ subst (AreListed geometry x chunks count) (sym (ap (λ (xs : List (List (List ℕ))). list_at xs x) is ∙ get_or_append_left old (list ∷ []) [] x (omega (arith, len, less)))) (each x less)
  | inr past ↦ let e : x ≡ n = omega (arith, l, past) in
      subst (AreListed geometry x chunks count) (sym (ap (λ (xs : List (List (List ℕ))). list_at xs x) is ∙ get_or_push old list [] x (len ∙ sym e))) (subst (λ (m : ℕ). AreListed geometry m chunks count list) (sym e) more)
]

-- the stripes of the new chunks

stripe_chunk : (k : ℕ) (chunks : List (List ℕ)) (i j : ℕ) → j < k → chunk_at (stripe_of k chunks i) j ≡ chunk_at chunks (k * i + j)
stripe_chunk k chunks i j l = get_or-take k (drop (k * i) chunks) j [] l ∙ get_or-drop (k * i) chunks j []

in_range : (k i n : ℕ) → i < n → k * i + k ≤ k * n
in_range k i n l =
    let a : k * (i + 1) ≤ k * n = mul-le-mul_left k (let z : i + 1 ≤ n = omega (arith, l) in z) in
    let b : k * (i + 1) ≡ k * i + k = omega arith in
    omega (arith, a, b)

cond_stripe : (k i j : ℕ) (front back : List (List ℕ)) → j < k → cond (nat_lt (k * i + j) k) front back ≡ old_stripe front back i
cond_stripe k zero j front back l = let e : k * zero + j ≡ j = omega arith in let t : nat_lt (k * zero + j) k ≡ true = grind (arith, nat_tests) in ap (λ (b : Bool). cond b front back) t
cond_stripe k (suc i) j front back l = let e : k * suc i ≡ k * i + k = omega arith in let t : nat_lt (k * suc i + j) k ≡ false = grind (arith, nat_tests) in ap (λ (b : Bool). cond b front back) t

module _ (geometry : Geometry) (off : ℕ) (bytes : List ℕ) (size : ℕ) (front back chunks : List (List ℕ)) (pos : 0 < quorum geometry)
    (a : AreFilled (quorum geometry) off bytes size front back (quorum geometry * count_stripes (quorum geometry) off (length bytes)) chunks) where
  abbrev count : ℕ
  count = count_stripes (quorum geometry) off (length bytes)

  stripe_is : (i : ℕ) → i < count_stripes (quorum geometry) off (length bytes) → IsStripe (quorum geometry) (stripe_of (quorum geometry) chunks i)
  stripe_is i l = record {
    len = length-take-le (quorum geometry) (drop (quorum geometry * i) chunks) (let z = length-drop (quorum geometry * i) chunks in let n = a.len in let w = in_range (quorum geometry) i (count_stripes (quorum geometry) off (length bytes)) l in omega (arith, z, n, w));
    chunks = λ j less. subst IsChunk (sym (stripe_chunk (quorum geometry) chunks i j less)) (a.chunk (quorum geometry * i + j) (let w = in_range (quorum geometry) i (count_stripes (quorum geometry) off (length bytes)) l in omega (arith, w, less)));
  }

  bytes_are : (i p : ℕ) → i < count_stripes (quorum geometry) off (length bytes) → p < stripe_bytes (quorum geometry)
      → stripe_byte (stripe_of (quorum geometry) chunks i) p ≡ new_byte (quorum geometry) off bytes size (stripe_byte (old_stripe front back i) p) (stripe_bytes (quorum geometry) * i + p)
  bytes_are i p l less =
      let k : ℕ = quorum geometry in
      let j : ℕ = p / 512 in
      let q : ℕ = p % 512 in
      let under : 512 * (p / 512) ≤ p = mul-div-le p 512 in
      let parts : 512 * (p / 512) + p % 512 ≡ p = div-add-mod p 512 in
      let small : p % 512 < 512 = mod-lt p (let z : 0 < 512 = omega arith in z) in
      let mul : 512 * (p / 512) < 512 * quorum geometry = omega (arith, under, less) in
      let jl : p / 512 < quorum geometry = lt_of_mul-lt-mul_left 512 mul in
      let w = in_range (quorum geometry) i (count_stripes (quorum geometry) off (length bytes)) l in
      let ml : quorum geometry * i + p / 512 < quorum geometry * count_stripes (quorum geometry) off (length bytes) = omega (arith, w, jl) in
      let place : 512 * (quorum geometry * i + p / 512) + p % 512 ≡ stripe_bytes (quorum geometry) * i + p = omega (arith, parts) in
      let turn : quorum geometry * i + p / 512 ≡ i * quorum geometry + p / 512 = omega arith in
      let rest : (quorum geometry * i + p / 512) % quorum geometry ≡ p / 512 = ap (λ (n : ℕ). n % quorum geometry) turn ∙ mod-mul-add i (quorum geometry) (p / 512) jl in
      let old : old_chunk (quorum geometry) front back (quorum geometry * i + p / 512) ≡ chunk_at (old_stripe front back i) (p / 512) = (λ t. chunk_at (cond_stripe (quorum geometry) i (p / 512) front back jl t) (rest t)) in
      ap (λ (c : List ℕ). slice_index c (p % 512)) (stripe_chunk (quorum geometry) chunks i (p / 512) jl)
      ∙ (a.bytes_are (quorum geometry * i + p / 512) (p % 512) ml small
      ∙ (λ t. new_byte (quorum geometry) off bytes size (slice_index (old t) (p % 512)) (place t)))

  pub coded_at : (lists : List (List (List ℕ))) → ((x : ℕ) → x < geometry.n → AreListed geometry x chunks (count_stripes (quorum geometry) off (length bytes)) (list_at lists x)) → AreCoded geometry off bytes size front back lists
  coded_at lists each = record {
    stripe = λ i. stripe_of (quorum geometry) chunks i;
    stripe_is = stripe_is;
    bytes_are = bytes_are;
    len = λ x l. (each x l).len;
    codes = λ x i l m. (each x l).codes i m;
  }

pub coded_of : (geometry : Geometry) (k off : ℕ) (bytes : List ℕ) (size : ℕ) (front back chunks slice : List (List ℕ)) (n : ℕ) (lists : List (List (List ℕ))) → k + geometry.r ≡ geometry.n → AreFilled k off bytes size front back (k * count_stripes k off (length bytes)) chunks
    → slice ≡ chunks → n ≡ count_stripes k off (length bytes) → ((x : ℕ) → x < geometry.n → AreListed geometry x slice n (list_at lists x)) → AreCoded geometry off bytes size front back lists
coded_of geometry k off bytes size front back chunks slice n lists is filled same many each =
    let e : k ≡ quorum geometry = omega (arith, is) in
    let pos : 0 < quorum geometry = (let m = geometry.least in omega (arith, m)) in
    let a = subst (λ (z : ℕ). AreFilled z off bytes size front back (z * count_stripes z off (length bytes)) chunks) e filled in
    let here : (x : ℕ) → x < geometry.n → AreListed geometry x chunks (count_stripes (quorum geometry) off (length bytes)) (list_at lists x) =
    λ (x : ℕ) (l : x < geometry.n). subst (λ (c : List (List ℕ)). AreListed geometry x c (count_stripes (quorum geometry) off (length bytes)) (list_at lists x)) same
    (subst (λ (m : ℕ). AreListed geometry x slice m (list_at lists x)) (many ∙ ap (λ (z : ℕ). count_stripes z off (length bytes)) e) (each x l)) in
    coded_at geometry off bytes size front back chunks pos a lists here

pub old_byte : (k width m q : ℕ) (front back : List (List ℕ)) (old : List ℕ) → width ≡ k
    → ((m < width) × (slice_index old q ≡ slice_index (chunk_at front (m % width)) q)) ⊎ ((width ≤ m) × (slice_index old q ≡ slice_index (chunk_at back (m % width)) q)) → slice_index old q ≡ slice_index (old_chunk k front back m) q
old_byte k width m q front back old e (inl (l, s)) = let t : nat_lt m k ≡ true = grind (arith, nat_tests) in s ∙ (λ j. slice_index (chunk_at (cond (sym t j) front back) (m % e j)) q)
old_byte k width m q front back old e (inr (l, s)) = let t : nat_lt m k ≡ false = grind (arith, nat_tests) in s ∙ (λ j. slice_index (chunk_at (cond (sym t j) front back) (m % e j)) q)
