-- Bytes of a range that are added chunk by chunk and stripe by stripe.
use Rattle.std.proofs.Common.{◌≡◌, inl, inr, ℕ, ◌+◌, ◌-◌, ◌*◌, ◌/◌, ◌%◌, ◌<◌, ◌≤◌, min, refl, sym, ◌∙◌, ap, subst, arith, List, [], ◌++◌, length, get_or, take, drop, length-append, length-drop}
use Rattle.std.specs.Prelude.{slice_index}
use Rattle.std.proofs.Math.Seq.{get_or-append_right}
use Rattle.std.proofs.lemmas.Bool.{cases_lt}
use Rattle.std.proofs.lemmas.List.{get_or_append_left, get_or-drop, get_or-take, length-take-le}
use Rattle.std.proofs.lemmas.Nat.{div-mul-add, mod-mul-add}
use Rattle.ec_conduct.specs.Data.{stripe_byte}
use Rattle.ec_field.specs.Code.{chunk_at}
use Rattle.ec_stripe.specs.Span.{stripe_bytes}
use Rattle.ec_read.specs.Decoded.{AreBytes, IsByteAt, IsDecoded}
use Rattle.ec_read.specs.Stripes.{IsLonger, IsPart}
use Rattle.ec_wire.specs.declared.reply.Reply.{Reply}
use Rattle.std.specs.declared.option.Option.{Option}

-- what lies in the range of a chunk
pub part_added : (off end place from to : ℕ) (chunk old new : List ℕ) → length chunk ≡ 512 → from ≡ min (off - place) 512 → to ≡ min (end - place) 512 → from < to
    → new ≡ old ++ take (to - from) (drop from chunk) → length old ≡ min end place - off → IsPart off end place 512 (λ i. slice_index chunk i) old new
part_added off end place from to chunk old new len f t some is old_len = record {
  len = new_len ∙ omega (arith, old_len, f, t, some);
  longer = omega (arith, new_len);
  before = λ i l. ap (λ (xs : List ℕ). get_or xs i 0) is ∙ get_or_append_left old part 0 i l;
  added = λ i more less. (
    omega (arith, old_len, f, t, some, more),
    omega (arith, old_len, f, t, some, less, new_len),
    ap (λ (xs : List ℕ). get_or xs i 0) is ∙ get_or-append_right old part i 0 more ∙ get_or-take (to - from) (drop from chunk) (i - length old) 0 (omega (arith, less, more, new_len, some))
        ∙ get_or-drop from chunk (i - length old) 0 ∙ (let e : from + (i - length old) ≡ off + i - place = omega (arith, old_len, f, t, some, more) in ap (λ (n : ℕ). get_or chunk n 0) e),
  );
}
  where
    part : List ℕ
    part = take (to - from) (drop from chunk)

    part_len : length part ≡ to - from
    part_len = length-take-le (to - from) (drop from chunk) (omega (arith, length-drop from chunk, len, t, f))

    new_len : length new ≡ length old + (to - from)
    new_len = ap length is ∙ length-append old part ∙ ap (λ (n : ℕ). length old + n) part_len

-- nothing of the chunk does
pub part_none : (off end place from to : ℕ) (f : ℕ → ℕ) (old new : List ℕ) → from ≡ min (off - place) 512 → to ≡ min (end - place) 512 → to ≤ from → new ≡ old → length old ≡ min end place - off → IsPart off end place 512 f old new
part_none off end place from to f old new a b none is old_len = record {
  len = ap length is ∙ old_len ∙ omega (arith, a, b, none);
  longer = omega (arith, ap length is);
  before = λ i l. ap (λ (xs : List ℕ). get_or xs i 0) is;
  added = λ i more less. absurd (let e = ap length is in omega (arith, e, more, less));
}

pub part_empty : (off end place : ℕ) (f : ℕ → ℕ) (old : List ℕ) → length old ≡ min end place - off → IsPart off end place 0 f old old
part_empty off end place f old len = record {
  len = len ∙ omega arith;
  longer = omega arith;
  before = λ i l. refl;
  added = λ i more less. absurd (omega (arith, more, less));
}

-- one part after another
pub joined : (off end place a b : ℕ) (f g h : ℕ → ℕ) (old mid new : List ℕ) → IsPart off end place a f old mid → IsPart off end (place + a) b g mid new
    → ((i : ℕ) → i < a → f i ≡ h i) → ((i : ℕ) → i < b → g i ≡ h (a + i)) → IsPart off end place (a + b) h old new
joined off end place a b f g h old mid new p q first second = record {
  len = q.len ∙ omega arith;
  longer = (let x = p.longer in let y = q.longer in omega (arith, x, y));
  before = λ i l. q.before i (let x = p.longer in omega (arith, x, l)) ∙ p.before i l;
  added = λ i more less. elim (cases_lt i (length mid)) [
    | inl l ↦ let w = p.added i more l in (w.0, (let x = w.1 in omega (arith, x)), q.before i l ∙ (w.2 ∙ first (off + i - place) (let x = w.0 in let y = w.1 in omega (arith, x, y))))
    | inr l ↦ let w = q.added i l less in (
      (let x = w.0 in omega (arith, x)),
      (let x = w.1 in omega (arith, x)),
      w.2 ∙ (second (off + i - (place + a)) (let x = w.0 in let y = w.1 in omega (arith, x, y)) ∙ (let e : a + (off + i - (place + a)) ≡ off + i - place = (let x = w.0 in omega (arith, x)) in ap h e)),
    )
  ];
}

-- byte i of chunk j of a stripe
chunk_byte : (stripe : List (List ℕ)) (j i : ℕ) → i < 512 → slice_index (chunk_at stripe j) i ≡ stripe_byte stripe (512 * j + i)
chunk_byte stripe j i l =
    let place : 512 * j + i ≡ j * 512 + i = omega arith in
    let chunk : (512 * j + i) / 512 ≡ j = ap (λ (n : ℕ). n / 512) place ∙ div-mul-add j 512 i l in
    let byte : (512 * j + i) % 512 ≡ i = ap (λ (n : ℕ). n % 512) place ∙ mod-mul-add j 512 i l in
    sym (ap (λ (n : ℕ). slice_index (chunk_at stripe n) ((512 * j + i) % 512)) chunk ∙ ap (λ (n : ℕ). slice_index (chunk_at stripe j) n) byte)

pub chunk_joined : (off end place j : ℕ) (stripe : List (List ℕ)) (chunk old mid new : List ℕ) → chunk ≡ chunk_at stripe j → IsPart off end place (512 * j) (stripe_byte stripe) old mid
    → (length mid ≡ min end (place + 512 * j) - off → IsPart off end (place + 512 * j) 512 (λ i. slice_index chunk i) mid new) → IsPart off end place (512 * (j + 1)) (stripe_byte stripe) old new
chunk_joined off end place j stripe chunk old mid new item p q =
    let more : 512 * j + 512 ≡ 512 * (j + 1) = omega arith in
    subst (λ (n : ℕ). IsPart off end place n (stripe_byte stripe) old new) more
    (joined off end place (512 * j) 512 (stripe_byte stripe) (λ i. slice_index chunk i) (stripe_byte stripe) old mid new p (q p.len) (λ i l. refl)
    (λ i l. ap (λ (c : List ℕ). slice_index c i) item ∙ chunk_byte stripe j i l))

-- the bytes so far, where those of i stripes stand
pub record HasBytes (k algorithm which : ℕ) (replies : ℕ → Option Reply) (first off end i : ℕ) (bytes : List ℕ) : Type 0 where
  pub len : length bytes ≡ min end (512 * k * (first + i)) - off
  pub each : (q : ℕ) → q < length bytes → IsByteAt k algorithm which replies first (off + q) (slice_index bytes q)

pub none_yet : (k algorithm which : ℕ) (replies : ℕ → Option Reply) (first off end : ℕ) (bytes : List ℕ) → bytes ≡ [] → 512 * k * first ≤ off → HasBytes k algorithm which replies first off end 0 bytes
none_yet k algorithm which replies first off end bytes none l =
    let zero : length bytes ≡ 0 = ap length none in
    let same : 512 * k * (first + 0) ≡ 512 * k * first = omega arith in
    record {
      len = zero ∙ (rw same (omega (arith, l)));
      each = λ q less. absurd (omega (arith, zero, less));
    }

pub stripe_joined : (k algorithm which : ℕ) (replies : ℕ → Option Reply) (first off end i place : ℕ) (stripe : List (List ℕ)) (old new : List ℕ) → place ≡ 512 * k * (first + i) → 0 < k → length stripe ≡ k
    → IsDecoded k algorithm which replies i stripe → HasBytes k algorithm which replies first off end i old
    → (length old ≡ min end place - off → IsLonger off end place stripe old new) → HasBytes k algorithm which replies first off end (i + 1) new
stripe_joined k algorithm which replies first off end i place stripe old new at pos same decoded before more = record {
  len = part.len ∙ ap (λ (n : ℕ). min end n - off) next;
  each = λ q l. elim (cases_lt q (length old)) [
    | inl less ↦ subst (IsByteAt k algorithm which replies first (off + q)) (sym (part.before q less)) (before.each q less)
    | inr past ↦ here q (part.added q past l).0 (part.added q past l).1 (part.added q past l).2
  ];
}
  where
    part : IsPart off end place (512 * length stripe) (stripe_byte stripe) old new
    part = more (before.len ∙ ap (λ (n : ℕ). min end n - off) (sym at))

    next : place + 512 * length stripe ≡ 512 * k * (first + (i + 1))
    next = ap (λ (n : ℕ). place + 512 * n) same ∙ (ap (λ (n : ℕ). n + 512 * k) at ∙ omega arith)

    here : (q : ℕ) → place ≤ off + q → off + q < place + 512 * length stripe → slice_index new q ≡ stripe_byte stripe (off + q - place) → IsByteAt k algorithm which replies first (off + q) (slice_index new q)
    here q from below is =
        let r : ℕ = off + q - place in
        let less : r < 512 * k = (let x = ap (λ (n : ℕ). place + 512 * n) same in omega (arith, from, below, x)) in
        let whole : off + q ≡ (first + i) * (512 * k) + r = (let x : 512 * k * (first + i) ≡ (first + i) * (512 * k) = omega arith in omega (arith, at, from, x)) in
        let d : (off + q) / stripe_bytes k ≡ first + i = ap (λ (n : ℕ). n / (512 * k)) whole ∙ div-mul-add (first + i) (512 * k) r less in
        let m : (off + q) % stripe_bytes k ≡ r = ap (λ (n : ℕ). n % (512 * k)) whole ∙ mod-mul-add (first + i) (512 * k) r less in
        let p : i ≡ (off + q) / stripe_bytes k - first = (let x : first + i - first ≡ i = omega arith in sym (ap (λ (n : ℕ). n - first) d ∙ x)) in
        record {
          stripe = stripe;
          decoded = subst (λ (n : ℕ). IsDecoded k algorithm which replies n stripe) p decoded;
          byte_is = is ∙ ap (stripe_byte stripe) (sym m);
        }

pub all_joined : (k algorithm which : ℕ) (replies : ℕ → Option Reply) (first off end count : ℕ) (bytes : List ℕ) → HasBytes k algorithm which replies first off end count bytes
    → (off < end → end ≤ 512 * k * (first + count)) → AreBytes k algorithm which replies first off end bytes
all_joined k algorithm which replies first off end count bytes has last = record {
  many = has.len ∙ elim (cases_lt off end) [
    | inl l ↦ let e = last l in omega (arith, e)
    | inr l ↦ omega (arith, l)
  ];
  each = has.each;
}
