-- What a call makes of its file is a plan.
use Rattle.std.proofs.Common.{◌≡◌, inl, inr, ℕ, ◌+◌, ◌-◌, ◌*◌, ◌/◌, ◌%◌, ◌^◌, ◌<◌, ◌≤◌, ◌==◌, ◌&&◌, ◌||◌, not, nat_lt, nat_le, min, Bool, true, false, cond, refl, sym, ◌∙◌, ap, subst, arith, Some, None, List, [], ◌∷◌, length, slice_index}
use Rattle.std.proofs.lemmas.Bool.{cases_Bool, cases_lt}
use Rattle.std.proofs.lemmas.Bool.Decides.{nat_tests}
use Rattle.std.proofs.lemmas.List.{get_or-replicate, get_or_past, length-replicate}
use Rattle.ec_conduct.specs.Account.{Account, at, gfid_of}
use Rattle.ec_conduct.specs.Ballots.{size_after}
use Rattle.ec_conduct.specs.Changes.{IsAllOf, are, stripes_of, writes}
use Rattle.ec_conduct.specs.Data.{fresh_byte, stays, stripe_byte}
use Rattle.ec_conduct.specs.Given.{quorum_of}
use Rattle.ec_conduct.specs.Standing.{changes_at}
use Rattle.ec_field.specs.Chunk.{zero_chunk}
use Rattle.ec_field.specs.Code.{IsStripe}
use Rattle.ec_law_data.specs.Forms.{Coder, Piece, Shape, zero_stripe}
use Rattle.ec_law_pieces.specs.Deed.{IsOldUnit, IsPlan}
use Rattle.ec_law_pieces.specs.File.{File}
use Rattle.ec_stripe.specs.Span.{stripe_bytes}
use Rattle.ec_wire.specs.declared.op.Op.{Op}
use Rattle.ec_wire.specs.declared.op.Op.TheVariants.{Write, Truncate}
use Rattle.ec_wire.specs.declared.request.Request.{Request}
use Rattle.ec_wire.specs.declared.request.Request.TheVariants.{WriteChunks, SetLength, PostOp}
use Rattle.ec_attr.specs.declared.head.Head.{Head}
use Rattle.ec_law_files.specs.Plans.{IsFirst, ReadsBytes, ReadsOld, byte_set, file_plan, form_by, is_cut, is_tail, is_written, value_of}
use Rattle.ec_law_files.specs.Stripes.{IsOwnStripe, Making, WritesStripes, WroteTail, puts_stripes, makes_stripes}
use Rattle.ec_law_files.proofs.Sizes.{begins_below, is_below, tail_below}

some_same : (x y : ℕ) → Some x ≡ Some y → x ≡ y
some_same x y e = cc

some_none : (x : ℕ) → Some x ≡ None → ⊥
some_none x e = cc

none_some : (x : ℕ) → None ≡ Some x → ⊥
none_some x e = cc

-- ## The bytes of zeros, and those past a stripe

zero_byte : (i : ℕ) → i < 512 → slice_index zero_chunk i ≡ 0
unfolding zero_chunk
zero_byte i lt = get_or-replicate {A = ℕ} 512 i 0 0 lt

pub zeros_byte : (k i : ℕ) → i < stripe_bytes k → stripe_byte (zero_stripe k) i ≡ 0
zeros_byte k i lt = ap (λ (c : List ℕ). slice_index c (i % 512)) (get_or-replicate {A = List ℕ} k (i / 512) zero_chunk [] (omega (arith, lt))) ∙ zero_byte (i % 512) (omega arith)

past_byte : (k i : ℕ) (stripe : List (List ℕ)) → length stripe ≡ k → stripe_bytes k ≤ i → stripe_byte stripe i ≡ 0
past_byte k i stripe len le = ap (λ (c : List ℕ). slice_index c (i % 512)) (get_or_past stripe (i / 512) [] (omega (arith, len, le)))

small_byte : (k : ℕ) (stripe : List (List ℕ)) (i : ℕ) → IsStripe k stripe → stripe_byte stripe i < 2 ^ 8
small_byte k stripe i is = elim (cases_lt i (stripe_bytes k)) [
  | inl l ↦ (is.chunks (i / 512) (omega (arith, l))).bytes (i % 512)
  | inr l ↦ let z = past_byte k i stripe is.len l in omega (arith, z)
]

zeros_small : (k i : ℕ) → stripe_byte (zero_stripe k) i < 2 ^ 8
zeros_small k i = elim (cases_lt i (stripe_bytes k)) [
  | inl l ↦ let z = zeros_byte k i l in omega (arith, z)
  | inr l ↦ let z = past_byte k i (zero_stripe k) (length-replicate {A = List ℕ} k zero_chunk) l in omega (arith, z)
]

-- ## Which stripes an op writes, cuts and leaves

-- a stripe that is written isn't past the new size
written_below : (k : ℕ) (op : Op) (size s : ℕ) → 0 < stripe_bytes k → is_written k op size s ≡ true → nat_le (size_after op size) (stripe_bytes k * s) ≡ false
written_below k (Write h off bytes) size s pos e =
    let less : s < stripes_of k (off + length bytes) = grind (arith, nat_tests) in
    let below = begins_below k (off + length bytes) s pos less in
    grind (arith, nat_tests)
written_below k (Truncate h to) size s pos e =
    let below = tail_below k (min size to) s e in
    grind (arith, nat_tests)
written_below k op size s pos e = absurd (cc)

-- one that is cut is not written, and has no byte that stays
pub cut_unwritten : (k : ℕ) (op : Op) (size s : ℕ) → 0 < stripe_bytes k → is_cut k op size s ≡ true → is_written k op size s ≡ false
cut_unwritten k (Truncate h to) size s pos e = elim (cases_Bool (is_tail k (min size to) s)) [
  | inl t ↦
      let below = tail_below k (min size to) s t in
      let one = is_below k (min size to) s pos below in
      let two = is_below k to s pos (omega (arith, below)) in
      absurd (grind (arith, nat_tests))
  | inr t ↦ t
]
cut_unwritten k op size s pos e = absurd (cc)

cut_zero : (k : ℕ) (op : Op) (size s i : ℕ) → 0 < stripe_bytes k → is_cut k op size s ≡ true → (stays op size (stripe_bytes k * s + i) ≡ false) × (fresh_byte op (stripe_bytes k * s + i) ≡ 0)
cut_zero k (Truncate h to) size s i pos e = (
  elim (cases_Bool (nat_lt (stripe_bytes k * s + i) size && nat_lt (stripe_bytes k * s + i) to)) [
    | inl t ↦
        let below : stripe_bytes k * s < min size to = grind (arith, nat_tests) in
        let one = is_below k (min size to) s pos below in
        let two = is_below k to s pos (omega (arith, below)) in
        absurd (grind (arith, nat_tests))
    | inr t ↦ t
  ],
  refl,
)
cut_zero k op size s i pos e = absurd (cc)

-- one that is neither is past the new size only where it was past the old one
left_past : (k : ℕ) (op : Op) (size s : ℕ) → 0 < stripe_bytes k → (is_written k op size s || is_cut k op size s) ≡ false → nat_le (size_after op size) (stripe_bytes k * s) ≡ true → nat_le size (stripe_bytes k * s) ≡ true
left_past k (Write h off bytes) size s pos e past = grind (arith, nat_tests)
left_past k (Truncate h to) size s pos e past =
    let two = begins_below k to s pos (kept (is_tail k (min size to) s) (nat_lt s (stripes_of k (min size to))) s (stripes_of k to) e) in
    absurd (grind (arith, nat_tests))
  where
    kept : (t u : Bool) (x y : ℕ) → (t || not (u && nat_lt x y)) ≡ false → x < y
    kept t u x y e = grind (arith, nat_tests)
left_past k op size s pos e past = past

either : (t u : Bool) → (t || u) ≡ true → t ≡ false → u ≡ true
either true u e f = absurd (cc)
either false u e f = e

-- ## The plan

module _ (byte : ℕ → ℕ) (bytes : ReadsBytes byte) (n q : ℕ) (coder : Coder) (f : File ℕ (List (List ℕ)) Piece ℕ Shape) (a : ℕ) (c : Account) (g : ℕ) (w : Making) (pos : 0 < stripe_bytes (quorum_of c.given))
    (made : (s : ℕ) → is_written (quorum_of c.given) c.given.op w.head.size s ≡ true → IsOwnStripe c g s w.head (w.stripe s))
    (took : (f.took a).size ≡ w.head.size) (reads : ReadsOld byte (quorum_of c.given) coder n q f a c g w.head) where
  -- a byte that is set
  set_written : (s i : ℕ) (u : ℕ) → is_written (quorum_of c.given) c.given.op w.head.size s ≡ true → byte_set (quorum_of c.given) c.given.op w.head.size s i ≡ Some u → stripe_byte (w.stripe s) i ≡ u
  set_written s i u e set = elim (cases_Bool (nat_lt i (stripe_bytes (quorum_of c.given)))) [
    | inl t ↦ let lt : i < stripe_bytes (quorum_of c.given) = grind (arith, nat_tests) in by lt (stays c.given.op w.head.size (stripe_bytes (quorum_of c.given) * s + i)) refl (subst (λ (z : Bool). cond z (cond (stays c.given.op w.head.size (stripe_bytes (quorum_of c.given) * s + i)) None (Some (fresh_byte c.given.op (stripe_bytes (quorum_of c.given) * s + i)))) (Some 0) ≡ Some u) t set)
    | inr t ↦ let le : stripe_bytes (quorum_of c.given) ≤ i = grind (arith, nat_tests) in past_byte (quorum_of c.given) i (w.stripe s) (made s e).stripe_is.len le ∙ some_same 0 u (subst (λ (z : Bool). cond z (cond (stays c.given.op w.head.size (stripe_bytes (quorum_of c.given) * s + i)) None (Some (fresh_byte c.given.op (stripe_bytes (quorum_of c.given) * s + i)))) (Some 0) ≡ Some u) t set)
  ]
    where
      by : i < stripe_bytes (quorum_of c.given) → (t : Bool) → stays c.given.op w.head.size (stripe_bytes (quorum_of c.given) * s + i) ≡ t → cond (stays c.given.op w.head.size (stripe_bytes (quorum_of c.given) * s + i)) None (Some (fresh_byte c.given.op (stripe_bytes (quorum_of c.given) * s + i))) ≡ Some u → stripe_byte (w.stripe s) i ≡ u
      by lt true is h = absurd (none_some u (subst (λ (z : Bool). cond z None (Some (fresh_byte c.given.op (stripe_bytes (quorum_of c.given) * s + i))) ≡ Some u) is h))
      by lt false is h =
          (made s e).bytes i lt
          ∙ (ap (λ (z : Bool). cond z (stripe_byte (made s e).old i) (fresh_byte c.given.op (stripe_bytes (quorum_of c.given) * s + i))) is
          ∙ some_same (fresh_byte c.given.op (stripe_bytes (quorum_of c.given) * s + i)) u (subst (λ (z : Bool). cond z None (Some (fresh_byte c.given.op (stripe_bytes (quorum_of c.given) * s + i))) ≡ Some u) is h))

  set_cut : (s i : ℕ) (u : ℕ) → is_cut (quorum_of c.given) c.given.op w.head.size s ≡ true → byte_set (quorum_of c.given) c.given.op w.head.size s i ≡ Some u → stripe_byte (zero_stripe (quorum_of c.given)) i ≡ u
  set_cut s i u e set = elim (cases_Bool (nat_lt i (stripe_bytes (quorum_of c.given)))) [
    | inl t ↦
        let lt : i < stripe_bytes (quorum_of c.given) = grind (arith, nat_tests) in
        let z = cut_zero (quorum_of c.given) c.given.op w.head.size s i pos e in
        let h : Some (fresh_byte c.given.op (stripe_bytes (quorum_of c.given) * s + i)) ≡ Some u = sym (ap (λ (b : Bool). cond b (cond (stays c.given.op w.head.size (stripe_bytes (quorum_of c.given) * s + i)) None (Some (fresh_byte c.given.op (stripe_bytes (quorum_of c.given) * s + i)))) (Some 0)) t ∙ ap (λ (b : Bool). cond b None (Some (fresh_byte c.given.op (stripe_bytes (quorum_of c.given) * s + i)))) z.0) ∙ set in
        zeros_byte (quorum_of c.given) i lt ∙ (sym z.1 ∙ some_same (fresh_byte c.given.op (stripe_bytes (quorum_of c.given) * s + i)) u h)
    | inr t ↦
        let le : stripe_bytes (quorum_of c.given) ≤ i = grind (arith, nat_tests) in
        past_byte (quorum_of c.given) i (zero_stripe (quorum_of c.given)) (length-replicate {A = List ℕ} (quorum_of c.given) zero_chunk) le
        ∙ some_same 0 u (subst (λ (z : Bool). cond z (cond (stays c.given.op w.head.size (stripe_bytes (quorum_of c.given) * s + i)) None (Some (fresh_byte c.given.op (stripe_bytes (quorum_of c.given) * s + i)))) (Some 0) ≡ Some u) t set)
  ]

  -- a byte that is none stays
  kept_stays : (s i : ℕ) → byte_set (quorum_of c.given) c.given.op w.head.size s i ≡ None → (i < stripe_bytes (quorum_of c.given)) × (stays c.given.op w.head.size (stripe_bytes (quorum_of c.given) * s + i) ≡ true)
  kept_stays s i e = by (nat_lt i (stripe_bytes (quorum_of c.given))) (stays c.given.op w.head.size (stripe_bytes (quorum_of c.given) * s + i)) refl refl e
    where
      by : (t u : Bool) → nat_lt i (stripe_bytes (quorum_of c.given)) ≡ t → stays c.given.op w.head.size (stripe_bytes (quorum_of c.given) * s + i) ≡ u → cond t (cond u None (Some (fresh_byte c.given.op (stripe_bytes (quorum_of c.given) * s + i)))) (Some 0) ≡ None
          → (i < stripe_bytes (quorum_of c.given)) × (stays c.given.op w.head.size (stripe_bytes (quorum_of c.given) * s + i) ≡ true)
      by true true is so h = (grind (arith, nat_tests), so)
      by true false is so h = absurd (some_none _ h)
      by false u is so h = absurd (some_none 0 h)

  plan_sets : (s i u : ℕ) → (is_written (quorum_of c.given) c.given.op w.head.size s || is_cut (quorum_of c.given) c.given.op w.head.size s) ≡ true → byte_set (quorum_of c.given) c.given.op w.head.size s i ≡ Some u → byte (stripe_byte (value_of (quorum_of c.given) c.given.op w s) i) ≡ u
  plan_sets s i u covers set = elim (cases_Bool (is_written (quorum_of c.given) c.given.op w.head.size s)) [
    | inl t ↦ ap (λ (z : Bool). byte (stripe_byte (cond z (w.stripe s) (zero_stripe (quorum_of c.given))) i)) t ∙ (bytes (stripe_byte (w.stripe s) i) (small_byte (quorum_of c.given) (w.stripe s) i (made s t).stripe_is) ∙ set_written s i u t set)
    | inr t ↦ ap (λ (z : Bool). byte (stripe_byte (cond z (w.stripe s) (zero_stripe (quorum_of c.given))) i)) t ∙ (bytes (stripe_byte (zero_stripe (quorum_of c.given)) i) (zeros_small (quorum_of c.given) i) ∙ set_cut s i u (either (is_written (quorum_of c.given) c.given.op w.head.size s) (is_cut (quorum_of c.given) c.given.op w.head.size s) covers t) set)
  ]

  plan_keeps : (s i : ℕ) → (is_written (quorum_of c.given) c.given.op w.head.size s || is_cut (quorum_of c.given) c.given.op w.head.size s) ≡ true → byte_set (quorum_of c.given) c.given.op w.head.size s i ≡ None → IsOldUnit (form_by byte (quorum_of c.given) coder) n q f a s i (value_of (quorum_of c.given) c.given.op w s)
  plan_keeps s i covers none = by (is_written (quorum_of c.given) c.given.op w.head.size s) refl
    where
      kept : (i < stripe_bytes (quorum_of c.given)) × (stays c.given.op w.head.size (stripe_bytes (quorum_of c.given) * s + i) ≡ true)
      kept = kept_stays s i none

      both_ways : (t : Bool) → t ≡ true → t ≡ false → ⊥
      both_ways t e f = absurd (let z = sym e ∙ f in cc)

      by : (t : Bool) → is_written (quorum_of c.given) c.given.op w.head.size s ≡ t → IsOldUnit (form_by byte (quorum_of c.given) coder) n q f a s i (value_of (quorum_of c.given) c.given.op w s)
      by true e =
          let o = made s e in
          inl (λ x codes.
          ap (λ (z : Bool). byte (stripe_byte (cond z (w.stripe s) (zero_stripe (quorum_of c.given))) i)) e
          ∙ (ap byte (o.bytes i kept.0)
          ∙ (ap (λ (z : Bool). byte (cond z (stripe_byte o.old i) (fresh_byte c.given.op (stripe_bytes (quorum_of c.given) * s + i)))) kept.1
          ∙ sym (reads s o.old (o.known i kept.0 kept.1) x codes i kept.0))))
      by false e = absurd (both_ways (stays c.given.op w.head.size (stripe_bytes (quorum_of c.given) * s + i)) kept.1 (cut_zero (quorum_of c.given) c.given.op w.head.size s i pos (either (is_written (quorum_of c.given) c.given.op w.head.size s) (is_cut (quorum_of c.given) c.given.op w.head.size s) covers e)).0)

  plan_zero : (s : ℕ) → nat_le (size_after c.given.op w.head.size) (stripe_bytes (quorum_of c.given) * s) ≡ true → value_of (quorum_of c.given) c.given.op w s ≡ zero_stripe (quorum_of c.given)
  plan_zero s past = elim (cases_Bool (is_written (quorum_of c.given) c.given.op w.head.size s)) [
    | inl t ↦ absurd (let z = sym past ∙ written_below (quorum_of c.given) c.given.op w.head.size s pos t in cc)
    | inr t ↦ ap (λ (z : Bool). cond z (w.stripe s) (zero_stripe (quorum_of c.given))) t
  ]

  pub plan : IsPlan (form_by byte (quorum_of c.given) coder) n q f a (file_plan (quorum_of c.given) c.given.op w)
  plan = record {
    sets = plan_sets;
    keeps = plan_keeps;
    zero = λ s covers past. plan_zero s past;
    grows = λ s covers past. subst (λ (z : ℕ). nat_le z (stripe_bytes (quorum_of c.given) * s) ≡ true) (sym took) (left_past (quorum_of c.given) c.given.op w.head.size s pos covers past);
  }

-- ## The request by which a turn plans

among_place : (first count s : ℕ) → (nat_le first s && nat_lt s (first + count)) ≡ true → (s - first < count) × (first + (s - first) ≡ s)
among_place first count s e = let le : first ≤ s = grind (arith, nat_tests) in let lt : s < first + count = grind (arith, nat_tests) in (omega (arith, le, lt), omega (arith, le))

-- a write has all stripes that its call writes
written_place : (k : ℕ) (op : Op) (size first count s : ℕ) → WritesStripes op k size first count → is_written k op size s ≡ true → (s - first < count) × (first + (s - first) ≡ s)
written_place k (Write h off bytes) size first count s (at, many) e = among_place first count s (rw (at, many) e)
written_place k (Truncate h to) size first count s (inside, at, one) e =
    let is : s ≡ min size to / stripe_bytes k = same (min size to % stripe_bytes k) s (min size to / stripe_bytes k) e in
    (omega (arith, is, at, one), omega (arith, is, at))
  where
    same : (r x y : ℕ) → (not (r == 0) && (x == y)) ≡ true → x ≡ y
    same r x y e = grind (arith, nat_tests)
written_place k op size first count s range e = absurd range

-- a cut is first only where no stripe is written
none_any : (rs : List Request) → Rattle.std.specs.List.list_any puts_stripes rs ≡ false → (k n : ℕ) → are (writes k n ∷ []) rs ≡ true → ⊥
none_any [] none k n e = absurd (cc)
none_any (WriteChunks g grant first chunks ∷ rs) none k n e = absurd (cc)
none_any (r ∷ rs) none k n e = absurd (cc)

tail_none : (k low s : ℕ) (rs : List Request) → Rattle.std.specs.List.list_any puts_stripes rs ≡ false → are (cond (low % stripe_bytes k == 0) [] (writes (low / stripe_bytes k) 1 ∷ [])) rs ≡ true → is_tail k low s ≡ false
tail_none k low s rs none e = by (low % stripe_bytes k == 0) e
  where
    by : (t : Bool) → are (cond t [] (writes (low / stripe_bytes k) 1 ∷ [])) rs ≡ true → (not t && (s == low / stripe_bytes k)) ≡ false
    by true h = refl
    by false h = absurd (none_any rs none (low / stripe_bytes k) 1 h)

cut_first : (op : Op) (k size s : ℕ) (rs : List Request) → Rattle.std.specs.List.list_any puts_stripes rs ≡ false → WroteTail op k size rs → is_written k op size s ≡ false
cut_first (Truncate h to) k size s rs none tail = tail_none k (min size to) s rs none tail
cut_first op k size s rs none tail = absurd tail

cuts_any : (rs : List Request) → Rattle.std.specs.List.list_any puts_stripes rs ≡ false → (k n : ℕ) (tests : List (Request → Bool)) → are (Rattle.ec_conduct.specs.Changes.cuts k n ∷ tests) rs ≡ true → ⊥
cuts_any [] none k n tests e = absurd (cc)
cuts_any (SetLength g grant keep count ∷ rs) none k n tests e = absurd (cc)
cuts_any (r ∷ rs) none k n tests e = absurd (cc)

-- a call whose PostOp finds no write and no cut makes no stripes
pub post_quiet : (op : Op) (c : Account) (g : ℕ) (head : Head) (rs : List Request) → Rattle.std.specs.List.list_any puts_stripes rs ≡ false → IsAllOf c g head op rs → makes_stripes op ≡ false
post_quiet (Write h off bytes) c g head rs none all = absurd (none_any rs none (off / stripe_bytes (quorum_of c.given)) (stripes_of (quorum_of c.given) (off + length bytes) - off / stripe_bytes (quorum_of c.given)) all.2)
post_quiet (Truncate h to) c g head rs none all = absurd (cuts_any rs none (stripes_of (quorum_of c.given) (min head.size to)) (stripes_of (quorum_of c.given) to) _ all.1)
post_quiet op c g head rs none all = refl

post_first : (op : Op) (c : Account) (g : ℕ) (w : Making) (s : ℕ) (rs : List Request) → Rattle.std.specs.List.list_any puts_stripes rs ≡ false → IsAllOf c g w.head op rs → is_written (quorum_of c.given) op w.head.size s ≡ false
post_first (Write h off bytes) c g w s rs none all = absurd (none_any rs none (off / stripe_bytes (quorum_of c.given)) (stripes_of (quorum_of c.given) (off + length bytes) - off / stripe_bytes (quorum_of c.given)) all.2)
post_first (Truncate h to) c g w s rs none all = absurd (cuts_any rs none (stripes_of (quorum_of c.given) (min w.head.size to)) (stripes_of (quorum_of c.given) to) _ all.1)
post_first op c g w s rs none all = refl

both_ways : (t : Bool) → t ≡ true → t ≡ false → ⊥
both_ways t e f = absurd (let z = sym e ∙ f in cc)

some_is : (x y : ℕ) → Some x ≡ Some y → x ≡ y
some_is x y e = cc

pub first_made : (c : Account) (b g : ℕ) (w : Making) (r : Request) → gfid_of r ≡ Some g → IsFirst w c b r → (s : ℕ) → is_written (quorum_of c.given) c.given.op w.head.size s ≡ true → IsOwnStripe c g s w.head (w.stripe s)
first_made c b g w (WriteChunks x grant first chunks) of own s e =
    let p = written_place (quorum_of c.given) c.given.op w.head.size first (length chunks) s own.range e in
    subst (λ (y : ℕ). IsOwnStripe c y s w.head (w.stripe s)) (some_is x.0 g of) (subst (λ (z : ℕ). IsOwnStripe c x.0 z w.head (w.stripe z)) p.1 (own.made (s - first) p.0))
first_made c b g w (SetLength x grant keep count) of (own, none) s e = absurd (both_ways (is_written (quorum_of c.given) c.given.op w.head.size s) e (cut_first c.given.op (quorum_of c.given) w.head.size s (changes_at (at c x.0 b)) none own.tail))
first_made c b g w (PostOp x grant old new size attr) of (all, none) s e = absurd (both_ways (is_written (quorum_of c.given) c.given.op w.head.size s) e (post_first c.given.op c x.0 w s (changes_at (at c x.0 b)) none all))
first_made c b g w r of first s e = absurd first
