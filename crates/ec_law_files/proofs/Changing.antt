-- The changes that a commit is made of put all that its call plans.
use Rattle.std.proofs.Common.{◌≡◌, inl, inr, ℕ, ◌+◌, ◌-◌, ◌/◌, ◌%◌, ◌==◌, ◌&&◌, ◌||◌, not, nat_lt, min, Bool, true, false, cond, refl, subst, arith, Some, List, [], ◌∷◌, length}
use Rattle.std.proofs.lemmas.Bool.Decides.{nat_tests}
use Rattle.ec_attr.specs.declared.head.Head.{Head}
use Rattle.ec_conduct.specs.Account.{Account}
use Rattle.ec_conduct.specs.Changes.{IsAllOf, are, cuts, stripes_of, writes}
use Rattle.ec_conduct.specs.Given.{quorum_of}
use Rattle.ec_history.specs.Story.{is_among}
use Rattle.ec_stripe.specs.Span.{stripe_bytes}
use Rattle.ec_wire.specs.declared.op.Op.{Op}
use Rattle.ec_wire.specs.declared.op.Op.TheVariants.{Write, Truncate}
use Rattle.ec_wire.specs.declared.request.Request.{Request}
use Rattle.ec_wire.specs.declared.request.Request.TheVariants.{WriteChunks, SetLength}
use Rattle.ec_law_files.specs.Plans.{AreOn, PutsOne, is_cut, is_tail, is_written}

some_same : (x y : ℕ) → Some x ≡ Some y → x ≡ y
some_same x y e = cc

on_gfid : (x g : ℕ) → Some x ≡ Some g → (x == g) ≡ true
on_gfid x g e = let z = some_same x g e in grind (arith, nat_tests)

same_among : (first count start many s : ℕ) → ((first == start) && (many == count)) ≡ true → is_among start count s ≡ true → is_among first many s ≡ true
same_among first count start many s e h = grind (arith, nat_tests)

-- a list that passes the one test of a write
one_write : (g start count s : ℕ) (rs : List Request) → are (writes start count ∷ []) rs ≡ true → AreOn g rs → is_among start count s ≡ true → PutsOne g rs s
one_write g start count s [] e on h = absurd (cc)
one_write g start count s (WriteChunks x n first chunks ∷ []) e on h = inl (on_gfid x.0 g on.0, same_among first count start (length chunks) s (left ((first == start) && (length chunks == count)) e) h)
  where
    left : (t : Bool) → (t && true) ≡ true → t ≡ true
    left true e = refl
    left false e = absurd (cc)
one_write g start count s (WriteChunks x n first chunks ∷ r ∷ rs) e on h = absurd (never ((first == start) && (length chunks == count)) e)
  where
    never : (t : Bool) → (t && false) ≡ true → ⊥
    never true e = absurd (cc)
    never false e = absurd (cc)
one_write g start count s (r ∷ rs) e on h = absurd (cc)

tail_at : (k low s : ℕ) → is_tail k low s ≡ true → ((low % stripe_bytes k == 0) ≡ false) × (is_among (low / stripe_bytes k) 1 s ≡ true)
tail_at k low s e = by (low % stripe_bytes k == 0) refl e
  where
    by : (t : Bool) → (low % stripe_bytes k == 0) ≡ t → (not t && (s == low / stripe_bytes k)) ≡ true → ((low % stripe_bytes k == 0) ≡ false) × (is_among (low / stripe_bytes k) 1 s ≡ true)
    by true is h = absurd (cc)
    by false is h = (is, among (low / stripe_bytes k) h)
      where
        among : (p : ℕ) → (s == p) ≡ true → is_among p 1 s ≡ true
        among p e = grind (arith, nat_tests)

cut_by : (keep count a b s : ℕ) → ((keep == a) && (count == b)) ≡ true → not (nat_lt s a && nat_lt s b) ≡ true → not (nat_lt s keep && nat_lt s count) ≡ true
cut_by keep count a b s e h = grind (arith, nat_tests)

both_parts : (t u : Bool) → (t && u) ≡ true → (t ≡ true) × (u ≡ true)
both_parts true u e = (refl, e)
both_parts false u e = absurd (cc)

-- those of a truncate: the cut, and the stripe of the lesser size
cut_and_tail : (g k low to s : ℕ) (rs : List Request) → are (cuts (stripes_of k low) (stripes_of k to) ∷ cond (low % stripe_bytes k == 0) [] (writes (low / stripe_bytes k) 1 ∷ [])) rs ≡ true → AreOn g rs
    → (is_tail k low s || not (nat_lt s (stripes_of k low) && nat_lt s (stripes_of k to))) ≡ true → PutsOne g rs s
cut_and_tail g k low to s [] e on h = absurd (cc)
cut_and_tail g k low to s (SetLength x n keep count ∷ rs) e on h = by (is_tail k low s) refl h
  where
    parts : (((keep == stripes_of k low) && (count == stripes_of k to)) ≡ true) × (are (cond (low % stripe_bytes k == 0) [] (writes (low / stripe_bytes k) 1 ∷ [])) rs ≡ true)
    parts = both_parts ((keep == stripes_of k low) && (count == stripes_of k to)) (are (cond (low % stripe_bytes k == 0) [] (writes (low / stripe_bytes k) 1 ∷ [])) rs) e

    by : (t : Bool) → is_tail k low s ≡ t → (t || not (nat_lt s (stripes_of k low) && nat_lt s (stripes_of k to))) ≡ true → PutsOne g (SetLength x n keep count ∷ rs) s
    by true is h =
        let w = tail_at k low s is in
        inr (one_write g (low / stripe_bytes k) 1 s rs (subst (λ (t : Bool). are (cond t [] (writes (low / stripe_bytes k) 1 ∷ [])) rs ≡ true) w.0 parts.1) on.1 w.1)
    by false is h = inl (on_gfid x.0 g on.0, cut_by keep count (stripes_of k low) (stripes_of k to) s parts.0 h)
cut_and_tail g k low to s (r ∷ rs) e on h = absurd (cc)

no_more : (t : Bool) → (t || false) ≡ true → t ≡ true
no_more true e = refl
no_more false e = absurd (cc)

pub changes_put : (op : Op) (c : Account) (g : ℕ) (head : Head) (rs : List Request) → IsAllOf c g head op rs → AreOn g rs
    → (s : ℕ) → (is_written (quorum_of c.given) op head.size s || is_cut (quorum_of c.given) op head.size s) ≡ true → PutsOne g rs s
changes_put (Write h off bytes) c g head rs all on s e = one_write g (off / stripe_bytes (quorum_of c.given)) (stripes_of (quorum_of c.given) (off + length bytes) - off / stripe_bytes (quorum_of c.given)) s rs all.2 on (no_more (is_written (quorum_of c.given) (Write h off bytes) head.size s) e)
changes_put (Truncate h to) c g head rs all on s e = cut_and_tail g (quorum_of c.given) (min head.size to) to s rs all.1 on e
changes_put op c g head rs all on s e = absurd (cc)
