-- The stripes that a stage codes are those that the conduct wants, and what was there is known where it stays.
use Rattle.std.proofs.Common.{◌≡◌, ◌⊎◌, inl, inr, ⊎_elim, ℕ, zero, suc, ◌+◌, ◌-◌, ◌*◌, ◌<◌, ◌≤◌, ◌&&◌, not, nat_lt, nat_le, Bool, true, false, cond, refl, sym, ◌∙◌, ap, subst, List, [], length, arith, Some}
use Rattle.std.proofs.lemmas.Bool.{and_parts, cases_lt}
use Rattle.std.proofs.lemmas.Bool.Decides.{nat_tests}
use Rattle.ec_answers.specs.declared.grouped.Group.{Group}
use Rattle.ec_conduct.specs.Account.{Account, Dealings, Place, at}
use Rattle.ec_conduct.specs.Data.{IsOld, fresh_byte, stays, stripe_byte}
use Rattle.ec_conduct.specs.Done.{is_query, reply_to}
use Rattle.ec_conduct.specs.Given.{Given, bricks_of, quorum_of}
use Rattle.ec_conduct.specs.Standing.{group_of, head_of as told_head}
use Rattle.ec_field.specs.Code.{IsCode, chunk_at}
use Rattle.ec_stripe.specs.Span.{stripe_bytes}
use Rattle.ec_txn.specs.Rounds.{Asks, subject}
use Rattle.ec_txn.proofs.Ballots.{group_stays}
use Rattle.ec_write.specs.Bytes.{IsEdge, is_inside, new_is, place_is, stays_at_edge}
use Rattle.ec_write.specs.During.{IsWritingAt}
use Rattle.ec_write.specs.Olds.{old_stays}
use Rattle.ec_write.specs.Range.{count_stripes, first_stripe, head_of, kept_bytes, reach}
use Rattle.ec_write.specs.Sendings.{Fills}
use Rattle.ec_write.specs.Stripes.{list_at, old_stripe}
use Rattle.ec_write.specs.Writings.{wide}
use Rattle.ec_law_files.specs.Stripes.{IsOwnStripe, Making}

not_false : (b : Bool) → not b ≡ true → b ≡ false
not_false true e = absurd (cc)
not_false false e = refl

outside : (off len place : ℕ) → is_inside off len place ≡ false → (place < off) ⊎ (off + len ≤ place)
outside off len place e = elim (cases_lt place off) [
  | inl l ↦ inl l
  | inr l ↦ elim (cases_lt place (off + len)) [
    | inl m ↦ absurd (let a : nat_le off place ≡ true = grind (arith, nat_tests) in let b : nat_lt place (off + len) ≡ true = grind (arith, nat_tests) in let t : is_inside off len place ≡ true = (rw (a, b) refl) in let z : true ≡ false = sym t ∙ e in cc)
    | inr m ↦ inr m
  ]
]

-- a stripe with a byte that stays is one that is read
edge_of : (k off len size i p : ℕ) → 0 < stripe_bytes k → p < stripe_bytes k → i < count_stripes k off len
    → (nat_lt (stripe_bytes k * (first_stripe k off + i) + p) size && not (is_inside off len (stripe_bytes k * (first_stripe k off + i) + p))) ≡ true → IsEdge k off len size i
edge_of k off len size i p pos l less e =
    let w = and_parts (nat_lt (stripe_bytes k * (first_stripe k off + i) + p) size) (not (is_inside off len (stripe_bytes k * (first_stripe k off + i) + p))) e in
    let below : stripe_bytes k * (first_stripe k off + i) + p < size = (let t = w.0 in grind (arith, nat_tests)) in
    let is : stripe_bytes k * (first_stripe k off + i) + p ≡ stripe_bytes k * first_stripe k off + (stripe_bytes k * i + p) = place_is k off [] size i p pos in
    let parts : stripe_bytes k * first_stripe k off + head_of k off ≡ off = Rattle.std.proofs.Math.Nat.div-add-mod off (stripe_bytes k) in
    let kept : stripe_bytes k * i + p < kept_bytes k off size = omega (arith, below, is) in
    let side : (stripe_bytes k * i + p < head_of k off) ⊎ (reach k off len ≤ stripe_bytes k * i + p) = ⊎_elim (λ z. inl (omega (arith, z, is, parts))) (λ z. inr (omega (arith, z, is, parts))) (outside off len (stripe_bytes k * (first_stripe k off + i) + p) (not_false (is_inside off len (stripe_bytes k * (first_stripe k off + i) + p)) w.1)) in
    stays_at_edge k off len size i p pos l less kept side

old_back : (front back : List (List ℕ)) (i : ℕ) → 0 < i → old_stripe front back i ≡ back
old_back front back zero l = absurd (omega (arith, l))
old_back front back (suc i) l = refl

module _ (group : Group) (off : ℕ) (content : List ℕ) (size : ℕ) (lists : List (List (List ℕ))) (f : Asks) (d : Account) (l : IsWritingAt d.given d group off content size lists f) (fills : Fills d.given.op group.head.size off content size) where
  -- what is made: the stripe of the place, counted from the first on
  abbrev pub making : Making
  making = record { head = group.head; stripe = λ s. l.coded.stripe (s - first_stripe (quorum_of d.given) off) }

  k : ℕ
  k = quorum_of d.given

  pos : 0 < stripe_bytes (quorum_of d.given)
  pos = let z = wide d.given in omega (arith, z)

  known_here : (i p : ℕ) → i < count_stripes (quorum_of d.given) off (length content) → p < stripe_bytes (quorum_of d.given) → stays d.given.op group.head.size (stripe_bytes (quorum_of d.given) * (first_stripe (quorum_of d.given) off + i) + p) ≡ true
      → IsOld d (subject d.given.op) (first_stripe (quorum_of d.given) off + i) group.head (old_stripe l.front l.back i)
  known_here i p less below e =
      let edge : IsEdge (quorum_of d.given) off (length content) size i = edge_of (quorum_of d.given) off (length content) size i p pos below less
      (sym (fills.stays_is (stripe_bytes (quorum_of d.given) * (first_stripe (quorum_of d.given) off + i) + p)) ∙ e) in
      ⊎_elim
      (λ z.
      let o : IsOld d (subject d.given.op) (first_stripe (quorum_of d.given) off) group.head l.front = l.knows_first z.1 in
      let t : first_stripe (quorum_of d.given) off ≡ first_stripe (quorum_of d.given) off + i = (let q = z.0 in omega (arith, q)) in
      subst (λ (n : ℕ). IsOld d (subject d.given.op) n group.head (old_stripe l.front l.back i)) t (subst (λ (n : ℕ). IsOld d (subject d.given.op) (first_stripe (quorum_of d.given) off) group.head (old_stripe l.front l.back n)) (sym z.0) o))
      (λ z.
      let o : IsOld d (subject d.given.op) (first_stripe (quorum_of d.given) off + (count_stripes (quorum_of d.given) off (length content) - 1)) group.head l.back = l.knows_last z.2 in
      let t : first_stripe (quorum_of d.given) off + (count_stripes (quorum_of d.given) off (length content) - 1) ≡ first_stripe (quorum_of d.given) off + i = (let q = z.1 in ap (λ (n : ℕ). first_stripe (quorum_of d.given) off + n) (sym q)) in
      subst (λ (n : ℕ). IsOld d (subject d.given.op) n group.head (old_stripe l.front l.back i)) t (subst (λ (st : List (List ℕ)). IsOld d (subject d.given.op) (first_stripe (quorum_of d.given) off + (count_stripes (quorum_of d.given) off (length content) - 1)) group.head st) (sym (old_back l.front l.back i z.0)) o))
      edge

  stripe_here : (i : ℕ) → i < count_stripes (quorum_of d.given) off (length content) → IsOwnStripe d (subject d.given.op) (first_stripe (quorum_of d.given) off + i) group.head (l.coded.stripe i)
  stripe_here i less = record {
    stripe_is = l.coded.stripe_is i less;
    old = old_stripe l.front l.back i;
    known = λ p below e. known_here i p less below e;
    bytes = λ p below.
        (l.coded.bytes_are i p less below
        ∙ (new_is (quorum_of d.given) off content size i p pos (stripe_byte (old_stripe l.front l.back i) p)
        ∙ sym (λ j. cond (fills.stays_is (stripe_bytes (quorum_of d.given) * (first_stripe (quorum_of d.given) off + i) + p) j) (stripe_byte (old_stripe l.front l.back i) p) (fills.fresh_is (stripe_bytes (quorum_of d.given) * (first_stripe (quorum_of d.given) off + i) + p) j))));
  }

  place_there : (first i : ℕ) → first + i - first ≡ i
  place_there first i = omega arith

  made_here : (i : ℕ) → i < count_stripes (quorum_of d.given) off (length content) → IsOwnStripe d (subject d.given.op) (first_stripe (quorum_of d.given) off + i) group.head (making.stripe (first_stripe (quorum_of d.given) off + i))
  made_here i less = subst (λ (j : ℕ). IsOwnStripe d (subject d.given.op) (first_stripe (quorum_of d.given) off + i) group.head (l.coded.stripe j)) (sym (place_there (first_stripe (quorum_of d.given) off) i)) (stripe_here i less)

  -- at each account that has the same of what is over
  module _ (e : Account) (on : e.on ≡ d.on) (given : e.given ≡ d.given) where
    same_place : (g y : ℕ) → at e g y ≡ at d g y
    same_place g y = ap (λ (h : ℕ → Dealings). (h g).place y) on

    pub group_there : group_of e (subject d.given.op) ≡ Some group.head
    group_there = (group_stays d e (subject d.given.op) group given (λ y. ap (λ (p : Place). told_head (reply_to is_query p.window)) (same_place (subject d.given.op) y)) l.between.group_is).head

    pub made_there : (i : ℕ) → i < count_stripes (quorum_of d.given) off (length content) → IsOwnStripe e (subject d.given.op) (first_stripe (quorum_of d.given) off + i) group.head (making.stripe (first_stripe (quorum_of d.given) off + i))
    made_there i less =
        let h = made_here i less in
        let s = first_stripe (quorum_of d.given) off + i in
        record {
          stripe_is = subst (λ (v : Given). Rattle.ec_field.specs.Code.IsStripe (quorum_of v) (making.stripe s)) (sym given) h.stripe_is;
          old = h.old;
          known = subst (λ (v : Given). (p : ℕ) → p < stripe_bytes (quorum_of v) → stays v.op group.head.size (stripe_bytes (quorum_of v) * s + p) ≡ true → IsOld e (subject d.given.op) s group.head h.old) (sym given)
              (λ p below stay. old_stays (subject d.given.op) s group.head h.old d e given (λ y. inl (ap (λ (p : Place). p.window) (same_place (subject d.given.op) y))) (h.known p below stay));
          bytes = subst (λ (v : Given). (p : ℕ) → p < stripe_bytes (quorum_of v) → stripe_byte (making.stripe s) p ≡ cond (stays v.op group.head.size (stripe_bytes (quorum_of v) * s + p)) (stripe_byte h.old p) (fresh_byte v.op (stripe_bytes (quorum_of v) * s + p))) (sym given) h.bytes;
        }

    pub codes_there : (b i : ℕ) → b < bricks_of d.given → i < count_stripes (quorum_of d.given) off (length content) → IsCode (quorum_of e.given) e.given.geometry.algorithm b (making.stripe (first_stripe (quorum_of d.given) off + i)) (chunk_at (list_at lists b) i)
    codes_there b i below less =
        subst (λ (v : Given). IsCode (quorum_of v) v.geometry.algorithm b (making.stripe (first_stripe (quorum_of d.given) off + i)) (chunk_at (list_at lists b) i)) (sym given)
        (subst (λ (j : ℕ). IsCode (quorum_of d.given) d.given.geometry.algorithm b (l.coded.stripe j) (chunk_at (list_at lists b) i)) (sym (place_there (first_stripe (quorum_of d.given) off) i)) (l.coded.codes b i below less))
