-- What a turn plans for a file is what the history of the flat files says that the commit of its call makes of it.
use Rattle.std.proofs.Common.{◌≡◌, ℕ, ◌+◌, ◌-◌, ◌*◌, ◌/◌, ◌%◌, ◌<◌, ◌≤◌, Bool, true, false, not, cond, ◌==◌, ◌&&◌, ◌||◌, Option, Some, None, length, refl, sym, ◌∙◌, ap, subst, arith, inl, inr}
use Rattle.std.specs.Prelude.{min, nat_le, nat_lt, slice_index}
use Rattle.std.proofs.lemmas.Bool.{cases_lt}
use Rattle.std.proofs.lemmas.Bool.Decides.{nat_tests}
use Rattle.std.proofs.lemmas.Nat.{div-mul-add}
use Rattle.std.proofs.Math.Nat.{add-mul-div_left, div-add-mod, mul_comm}
use Rattle.ec_conduct.specs.Changes.{stripes_of}
use Rattle.ec_conduct.specs.Done.{or_else}
use Rattle.ec_history.specs.Changes.{Found, zeros_from}
use Rattle.ec_history.specs.Story.{is_among}
use Rattle.ec_stripe.specs.Span.{stripe_bytes}
use Rattle.ec_wire.specs.declared.op.Op.{Op}
use Rattle.ec_wire.specs.declared.op.Op.TheVariants.{Write, Truncate, Scrub}
use Rattle.ec_law_files.specs.Plans.{byte_set, file_plan, is_cut, is_tail, is_written}
use Rattle.ec_law_files.specs.Stripes.{Making}
use Rattle.ec_law_flats.specs.Plans.{is_unbuilt}
use Rattle.ec_law_flats.specs.Stripes.{FitsStripes}
use Rattle.ec_law_stripes.specs.Given.{WritesSome}

-- ## Which stripes

same_range : (n a b s : ℕ) → 0 < n → (is_among a (b + 1 - a) s || false) ≡ (nat_lt 0 n && nat_le a s && nat_le s b)
same_range n a b s some = grind (arith, nat_tests)

-- as many stripes hold some bytes as have a byte below the last one's, and one
last_stripe : (k x : ℕ) → 0 < stripe_bytes k → 0 < x → stripes_of k x ≡ (x - 1) / stripe_bytes k + 1
last_stripe k x pos some =
    let w : ℕ = stripe_bytes k in
    let parts : x + (w - 1) ≡ x - 1 + w * 1 = omega (arith, pos, some) in
    ap (λ (z : ℕ). z / w) parts ∙ add-mul-div_left (x - 1) 1 {y = w} pos

write_covers : (k off len s : ℕ) → 0 < stripe_bytes k → 0 < len → (is_among (off / stripe_bytes k) (stripes_of k (off + len) - off / stripe_bytes k) s || false) ≡ (nat_lt 0 len && nat_le (off / stripe_bytes k) s && nat_le s ((off + len - 1) / stripe_bytes k))
write_covers k off len s pos some = ap (λ (z : ℕ). is_among (off / stripe_bytes k) (z - off / stripe_bytes k) s || false) (last_stripe k (off + len) pos (omega (arith, some))) ∙ same_range len (off / stripe_bytes k) ((off + len - 1) / stripe_bytes k) s some

tail_whole : (q r sl st s : ℕ) → r ≡ 0 → sl ≡ q → sl ≤ st → ((not (r == 0) && (s == q)) || not (nat_lt s sl && nat_lt s st)) ≡ nat_le q s
tail_whole q r sl st s none is le = grind (arith, nat_tests)

tail_part : (q r sl st s : ℕ) → 0 < r → sl ≡ q + 1 → sl ≤ st → ((not (r == 0) && (s == q)) || not (nat_lt s sl && nat_lt s st)) ≡ nat_le q s
tail_part q r sl st s some is le = grind (arith, nat_tests)

-- fewer bytes need no more stripes
pub rising : (k x y : ℕ) → 0 < stripe_bytes k → x ≤ y → stripes_of k x ≤ stripes_of k y
rising k x y pos le =
    let w : ℕ = stripe_bytes k in
    let under : w * ((x + (w - 1)) / w) ≤ x + (w - 1) = Rattle.std.proofs.Math.Nat.mul-div-le (x + (w - 1)) w in
    let same : (x + (w - 1)) / w * w ≡ w * ((x + (w - 1)) / w) = mul_comm ((x + (w - 1)) / w) w in
    Rattle.std.proofs.lemmas.Nat.le-div ((x + (w - 1)) / w) (y + (w - 1)) w pos (omega (arith, under, same, le))

cut_covers : (k low to s : ℕ) → 0 < stripe_bytes k → low ≤ to → (is_tail k low s || not (nat_lt s (stripes_of k low) && nat_lt s (stripes_of k to))) ≡ nat_le (low / stripe_bytes k) s
cut_covers k low to s pos le = elim (cases_lt 0 (low % stripe_bytes k)) [
  | inl some ↦
      let w : ℕ = stripe_bytes k in
      let parts : w * (low / w) + low % w ≡ low = div-add-mod low w in
      let next : (low / w + 1) * w ≡ w * (low / w) + w = mul_comm (low / w + 1) w ∙ omega arith in
      let rest : low % w - 1 < w = (let z : low % w < w = Rattle.std.proofs.Math.Nat.mod-lt low pos in omega (arith, z)) in
      let whole : low + (w - 1) ≡ (low / w + 1) * w + (low % w - 1) = omega (arith, parts, next, some, pos) in
      let is : stripes_of k low ≡ low / w + 1 = ap (λ (z : ℕ). z / w) whole ∙ div-mul-add (low / w + 1) w (low % w - 1) rest in
      tail_part (low / w) (low % w) (stripes_of k low) (stripes_of k to) s some is (rising k low to pos le)
  | inr z ↦
      let w : ℕ = stripe_bytes k in
      let none : low % w ≡ 0 = omega (arith, z) in
      let parts : w * (low / w) + low % w ≡ low = div-add-mod low w in
      let turned : low / w * w ≡ w * (low / w) = mul_comm (low / w) w in
      let whole : low + (w - 1) ≡ low / w * w + (w - 1) = omega (arith, parts, turned, none) in
      let is : stripes_of k low ≡ low / w = ap (λ (z : ℕ). z / w) whole ∙ div-mul-add (low / w) w (w - 1) (omega (arith, pos)) in
      tail_whole (low / w) (low % w) (stripes_of k low) (stripes_of k to) s none is (rising k low to pos le)
]

-- ## Which bytes

write_bytes : (t : Bool) (p size v : ℕ) → cond (nat_lt p size && not t) None (Some (cond t v 0)) ≡ or_else (cond t (Some v) None) (cond (nat_le size p) (Some 0) None)
write_bytes true p size v = elim (cases_lt p size) [
  | inl l ↦ (let e : (nat_lt p size && false) ≡ false = grind (arith, nat_tests) in ap (λ (u : Bool). cond {A = Option ℕ} u None (Some v)) e)
  | inr l ↦ (let e : (nat_lt p size && false) ≡ false = grind (arith, nat_tests) in ap (λ (u : Bool). cond {A = Option ℕ} u None (Some v)) e)
]
write_bytes false p size v = elim (cases_lt p size) [
  | inl l ↦
      let e : (nat_lt p size && true) ≡ true = grind (arith, nat_tests) in
      let f : nat_le size p ≡ false = grind (arith, nat_tests) in
      ap (λ (u : Bool). cond {A = Option ℕ} u None (Some 0)) e ∙ sym (ap (λ (u : Bool). cond {A = Option ℕ} u (Some 0) None) f)
  | inr l ↦
      let e : (nat_lt p size && true) ≡ false = grind (arith, nat_tests) in
      let f : nat_le size p ≡ true = grind (arith, nat_tests) in
      ap (λ (u : Bool). cond {A = Option ℕ} u None (Some 0)) e ∙ sym (ap (λ (u : Bool). cond {A = Option ℕ} u (Some 0) None) f)
]

cut_bytes : (p size to : ℕ) → cond (nat_lt p size && nat_lt p to) None (Some 0) ≡ zeros_from (min to size) p
cut_bytes p size to = elim (cases_lt p (min to size)) [
  | inl l ↦
      let e : (nat_lt p size && nat_lt p to) ≡ true = both p size to (omega (arith, l)) (omega (arith, l)) in
      let f : nat_le (min to size) p ≡ false = over (min to size) p l in
      ap (λ (u : Bool). cond {A = Option ℕ} u None (Some 0)) e ∙ sym (ap (λ (u : Bool). cond {A = Option ℕ} u (Some 0) None) f)
  | inr l ↦
      let e : (nat_lt p size && nat_lt p to) ≡ false = out p size to l in
      let f : nat_le (min to size) p ≡ true = under (min to size) p l in
      ap (λ (u : Bool). cond {A = Option ℕ} u None (Some 0)) e ∙ sym (ap (λ (u : Bool). cond {A = Option ℕ} u (Some 0) None) f)
]
  where
    both : (p a b : ℕ) → p < a → p < b → (nat_lt p a && nat_lt p b) ≡ true
    both p a b h i = grind (arith, nat_tests)

    over : (m p : ℕ) → p < m → nat_le m p ≡ false
    over m p h = grind (arith, nat_tests)

    under : (m p : ℕ) → m ≤ p → nat_le m p ≡ true
    under m p h = grind (arith, nat_tests)

    out : (p a b : ℕ) → min b a ≤ p → (nat_lt p a && nat_lt p b) ≡ false
    out p a b h = elim (cases_lt p a) [
      | inl l ↦ (let z : b ≤ p = omega (arith, h, l) in grind (arith, nat_tests))
      | inr l ↦ grind (arith, nat_tests)
    ]

-- ## Plans

inside : (k i : ℕ) (x y : Option ℕ) → i < stripe_bytes k → cond (nat_lt i (stripe_bytes k)) x y ≡ x
inside k i x y lt = ap (λ (t : Bool). cond {A = Option ℕ} t x y) (yes i (stripe_bytes k) lt)
  where
    yes : (i n : ℕ) → i < n → nat_lt i n ≡ true
    yes i n lt = grind (arith, nat_tests)

least : (a b : ℕ) → min a b ≡ min b a
least a b = omega arith

none_covered : {X : Type 0} → (false || false) ≡ true → X
none_covered e = absurd (cc)

module _ (k g : ℕ) (pos : 0 < stripe_bytes k) where
  fits : (size : ℕ) (op : Op) (found : Found) (w : Making) → is_unbuilt op ≡ false → WritesSome op → w.head.size ≡ size → FitsStripes k g size op found (λ s. is_written k op size s || is_cut k op size s) (byte_set k op size)
  fits size (Write h off bytes) found w built some same = record {
    covers = λ s. write_covers k off (length bytes) s pos some;
    sets = λ s i c lt. inside k i _ (Some 0) lt ∙ write_bytes (nat_le off (stripe_bytes k * s + i) && nat_lt (stripe_bytes k * s + i) (off + length bytes)) (stripe_bytes k * s + i) size (slice_index bytes (stripe_bytes k * s + i - off));
  }
  fits size (Truncate h to) found w built some same = record {
    covers = λ s. cut_covers k (min size to) to s pos (omega arith) ∙ ap (λ (z : ℕ). nat_le (z / stripe_bytes k) s) (least size to);
    sets = λ s i c lt. inside k i _ (Some 0) lt ∙ cut_bytes (stripe_bytes k * s + i) size to;
  }
  fits size (Scrub h settle) found w built some same = absurd (cc)
  fits size op found w built some same = record { covers = λ s. refl; sets = λ s i c lt. none_covered c }

  -- of an op that is built
  pub plan_fits : (size : ℕ) (op : Op) (found : Found) (w : Making) → is_unbuilt op ≡ false → WritesSome op → w.head.size ≡ size → FitsStripes k g size op found (file_plan k op w).covers (file_plan k op w).sets
  plan_fits size op found w built some same = subst (λ (z : ℕ). FitsStripes k g size op found (λ s. is_written k op z s || is_cut k op z s) (byte_set k op z)) (sym same) (fits size op found w built some same)
