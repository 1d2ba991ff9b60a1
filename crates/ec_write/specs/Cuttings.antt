-- The cut of a truncate, and the stripe before it.
use Rattle.std.proofs.Common.{◌≡◌, inl, inr, ℕ, zero, suc, ◌+◌, ◌-◌, ◌*◌, ◌/◌, ◌%◌, ◌<◌, ◌≤◌, ◌^◌, ◌==◌, ◌&&◌, not, nat_lt, nat_le, min, Bool, true, false, cond, refl, sym, ◌∙◌, ap, subst, List, [], ◌∷◌, length, arith, Option, Some, None, eq-eqb}
use Rattle.std.specs.Prelude.{slice_index}
use Rattle.std.proofs.Math.Nat.{div-add-mod, lt_of_mul-lt-mul_left, mod-lt}
use Rattle.std.proofs.lemmas.Bool.{cases_Bool}
use Rattle.std.proofs.lemmas.Bool.Decides.{nat_tests}
use Rattle.std.proofs.lemmas.Nat.{div-mul-add}
use Rattle.ec_answers.specs.declared.grouped.Group.{Group}
use Rattle.ec_attr.specs.declared.gfid.Gfid.{Gfid}
use Rattle.ec_brick.specs.Fit.{IsFit}
use Rattle.ec_conduct.specs.Account.{Account, Place, at, gfid_of}
use Rattle.ec_conduct.specs.Ballots.{size_after}
use Rattle.ec_conduct.specs.Changes.{IsAllOf, are, stripes_of}
use Rattle.ec_conduct.specs.Conduct.{MaySend}
use Rattle.ec_conduct.specs.Data.{changes_data, cuts_file, fresh_byte, stays}
use Rattle.ec_conduct.specs.Done.{is_lock}
use Rattle.ec_conduct.specs.Given.{Given, bricks_of, quorum_of}
use Rattle.ec_conduct.specs.Standing.{did_changes, holds}
use Rattle.ec_stripe.specs.Span.{stripe_bytes}
use Rattle.ec_wire.specs.declared.op.Op.{Op}
use Rattle.ec_wire.specs.declared.op.Op.TheVariants.{Write, Truncate, Read, Stat, Create, Mkdir, Unlink, Lookup, Readdir, Heal, SetAttr, GetAttr, Rename, Rmdir, Scrub, Sweep}
use Rattle.ec_wire.specs.declared.request.Request.{Request}
use Rattle.ec_wire.specs.declared.request.Request.TheVariants.{WriteChunks}
use Rattle.ec_txn.specs.declared.ballot.Ballot.TheVariants.{Post}
use Rattle.ec_txn.specs.declared.ctx.Ctx.{Ctx}
use Rattle.ec_txn.specs.Ballot.{InBallot, IsPrepared, ballot_asks, count_serving, serving, version_at}
use Rattle.ec_txn.specs.Rounds.{Asks, IsIdle, IsOn, IsRound, IsSent, IsUnlocked, is_plain, subject}
use Rattle.ec_txn.specs.Tables.{IsIn as IsAt}
use Rattle.ec_txn.proofs.Ballots.{serving_is}
use Rattle.ec_txn.proofs.BallotGoes.{group_released, released_of}
use Rattle.ec_txn.proofs.BallotSends.{holds_by}
use Rattle.ec_txn.proofs.Openings.{is_free}
use Rattle.ec_write.specs.Bytes.{is_inside}
use Rattle.ec_write.specs.During.{IsBetween}
use Rattle.ec_write.specs.DuringTruncate.{IsCut, IsCutting, IsTailWritten, is_border, tail_tests}
use Rattle.ec_write.specs.Numbers.{count_same, stripes_few}
use Rattle.ec_write.specs.Range.{count_stripes, first_stripe, head_of}
use Rattle.ec_write.specs.Sendings.{Fills}
use Rattle.ec_write.specs.Stripes.{list_at}
use Rattle.ec_write.specs.Truncate.{IsTruncate, cut_asks, cut_request, low_of, to_of}
use Rattle.ec_write.specs.Windows.{data_cut, data_same, data_write, group_kept}
use Rattle.ec_write.specs.Write.{write_request}
use Rattle.ec_write.specs.Writings.{changed_over, changing_begins, changing_data, post_begins_by, prepared_by, wide, writing_data}

-- what the call of a truncate is
pub is_truncate_op : (op : Op) → IsTruncate op → (g : Gfid) × (to : ℕ) × (op ≡ Truncate g to)
is_truncate_op (Truncate g to) i = (g, to, refl)
is_truncate_op (Write g off bytes) i = absurd i
is_truncate_op (Stat g) i = absurd i
is_truncate_op (SetAttr g attr) i = absurd i
is_truncate_op (Read g off len via) i = absurd i
is_truncate_op (Create g name) i = absurd i
is_truncate_op (Mkdir g name) i = absurd i
is_truncate_op (Unlink g name) i = absurd i
is_truncate_op (Lookup g name) i = absurd i
is_truncate_op (Readdir g) i = absurd i
is_truncate_op (Heal g) i = absurd i
is_truncate_op (GetAttr g) i = absurd i
is_truncate_op (Rename old name new to) i = absurd i
is_truncate_op (Rmdir g name) i = absurd i
is_truncate_op (Scrub g settle) i = absurd i
is_truncate_op (Sweep full) i = absurd i

-- what holds of each truncate holds of this one
pub of_truncate : (P : Op → Type 0) (op : Op) → IsTruncate op → ((g : Gfid) (to : ℕ) → P (Truncate g to)) → P op
of_truncate P op i each = let w = is_truncate_op op i in subst P (sym w.2) (each w.0 w.1)

pub to_fits : (op : Op) (size : ℕ) → IsCut op → size_after op size ≤ 2 ^ 40
to_fits op size i = of_truncate (λ (o : Op). to_of o ≤ 2 ^ 40 → size_after o size ≤ 2 ^ 40) op i.0 (λ g to e. e) i.1

pub low_fits : (op : Op) (group : Group) → IsCut op → low_of op group ≤ 2 ^ 40
low_fits op group i = let e = i.1 in omega (arith, e)

-- numbers

pub some_over : (n : ℕ) → (n == 0) ≡ false → 0 < n
some_over zero e = absurd (cc)
some_over (suc n) e = omega arith

-- a size within a stripe is in one of those that a brick keeps
pub tail_few : (k low : ℕ) → 1024 ≤ stripe_bytes k → low ≤ 2 ^ 40 → (head_of k low == 0) ≡ false → first_stripe k low + 1 ≤ 2 ^ 30
tail_few k low least most inside =
    let w : ℕ = stripe_bytes k in
    let parts : w * (low / w) + low % w ≡ low = div-add-mod low w in
    let pos : 0 < low % w = some_over (low % w) inside in
    let whole : 2 ^ 40 ≤ w * 2 ^ 30 = omega (arith, least) in
    let less : w * (low / w) < w * 2 ^ 30 = omega (arith, parts, pos, whole, most) in
    let l : low / w < 2 ^ 30 = lt_of_mul-lt-mul_left w less in
    omega (arith, l)

-- and no byte from there on touches one stripe, that one
pub tail_one : (k low : ℕ) → 0 < stripe_bytes k → (head_of k low == 0) ≡ false → count_stripes k low 0 ≡ 1
tail_one k low least inside =
    let w : ℕ = stripe_bytes k in
    let h : ℕ = head_of k low in
    let pos : 0 < head_of k low = some_over (head_of k low) inside in
    let l : head_of k low < stripe_bytes k = mod-lt low least in
    let whole : head_of k low + 0 + (stripe_bytes k - 1) ≡ 1 * stripe_bytes k + (head_of k low - 1) = omega (arith, pos, l) in
    ap (λ (n : ℕ). n / stripe_bytes k) whole ∙ div-mul-add 1 (stripe_bytes k) (head_of k low - 1) (omega (arith, pos, l))

pub stripes_short : (k size : ℕ) → 1024 ≤ stripe_bytes k → size ≤ 2 ^ 40 → stripes_of k size ≤ 2 ^ 30
stripes_short k size least most =
    let e : stripes_of k (0 + size) ≡ first_stripe k 0 + count_stripes k 0 size = count_same k 0 size (omega (arith, least)) in
    let f : first_stripe k 0 + count_stripes k 0 size ≤ 2 ^ 30 = stripes_few k 0 size least (omega (arith, most)) in
    let z : size ≡ 0 + size = omega arith in
    let same : stripes_of k size ≡ stripes_of k (0 + size) = ap (stripes_of k) z in
    omega (arith, e, f, same)

-- what the conduct says of the bytes of a truncate

inside_none : (low place : ℕ) → is_inside low 0 place ≡ false
inside_none low place = elim (cases_Bool (nat_le low place)) [
  | inl t ↦ let u : nat_lt place (low + 0) ≡ false = grind (arith, nat_tests) in rw (t, u) refl
  | inr t ↦ rw t refl
]

both_below : (size to place : ℕ) → (nat_lt place size && nat_lt place to) ≡ nat_lt place (min size to)
both_below size to place = elim (cases_Bool (nat_lt place (min size to))) [
  | inl t ↦ let a : nat_lt place size ≡ true = grind (arith, nat_tests) in let b : nat_lt place to ≡ true = grind (arith, nat_tests) in rw (a, b, t) refl
  | inr t ↦ elim (cases_Bool (nat_lt place size)) [
    | inl a ↦ let b : nat_lt place to ≡ false = grind (arith, nat_tests) in rw (a, b, t) refl
    | inr a ↦ rw (a, t) refl
  ]
]

stays_below : (op : Op) → IsTruncate op → (group : Group) (place : ℕ) → stays op group.head.size place ≡ (nat_lt place (low_of op group) && not (is_inside (low_of op group) 0 place))
stays_below op i group place = of_truncate (λ (o : Op). stays o group.head.size place ≡ (nat_lt place (low_of o group) && not (is_inside (low_of o group) 0 place))) op i
    (λ g to.
    (let n : is_inside (min group.head.size to) 0 place ≡ false = inside_none (min group.head.size to) place in
    both_below group.head.size to place ∙ (and_true (nat_lt place (min group.head.size to)) ∙ ap (λ (b : Bool). nat_lt place (min group.head.size to) && not b) (sym n))))
  where
    and_true : (b : Bool) → b ≡ (b && true)
    and_true true = refl
    and_true false = refl

zeros_past : (op : Op) → IsTruncate op → (group : Group) (place : ℕ) → fresh_byte op place ≡ cond (is_inside (low_of op group) 0 place) (slice_index [] (place - low_of op group)) 0
zeros_past op i group place = of_truncate (λ (o : Op). fresh_byte o place ≡ cond (is_inside (low_of o group) 0 place) (slice_index [] (place - low_of o group)) 0) op i
    (λ g to. (let n : is_inside (min group.head.size to) 0 place ≡ false = inside_none (min group.head.size to) place in sym (ap (λ (b : Bool). cond b (slice_index [] (place - min group.head.size to)) 0) n)))

-- it makes of the file what a write of no bytes would make of one that ends at the lesser size
pub truncate_fills : (op : Op) → IsTruncate op → (group : Group) → Fills op group.head.size (low_of op group) [] (low_of op group)
truncate_fills op i group = record {
  changes = of_truncate (λ (o : Op). changes_data o (subject o) ≡ true) op i (λ g to. eq-eqb g.0 g.0 refl);
  stays_is = stays_below op i group;
  fresh_is = zeros_past op i group;
}

-- the stage that cuts

tail_passes : (k low grant : ℕ) (g : Gfid) (chunks : List (List ℕ)) → 0 < stripe_bytes k → (head_of k low == 0) ≡ false → length chunks ≡ count_stripes k low 0 → are (tail_tests k low) (WriteChunks g grant (first_stripe k low) chunks ∷ []) ≡ true
tail_passes k low grant g chunks pos inside n =
    let a = eq-eqb (low / stripe_bytes k) (low / stripe_bytes k) refl in
    let b = eq-eqb (length chunks) 1 (n ∙ tail_one k low pos inside) in
    rw (inside, a, b) refl

-- on a border it comes after the PreOps
pub cuts_first : (v : Given) (group : Group) (d e : Account) → d.given ≡ v → IsUnlocked (subject v.op) d e → IsBetween v e group → is_border v group ≡ true → IsCutting v e group (cut_asks group d)
cuts_first v group d e dg u b border = record {
  within = b.within;
  group_is = b.group_is;
  changed = λ x i w less s t. ([], rw border refl, b.readied x i w less s t);
  changing = changing_begins v group (λ z y. cut_request (subject z.op) (stripes_of (quorum_of z) (low_of z.op group)) (stripes_of (quorum_of z) (to_of z.op))) (cut_asks group d) d e dg u b.within (λ y. refl);
}

-- and else after the stripe was written
pub cuts_after : (v : Given) (group : Group) (lists : List (List (List ℕ))) (c : Account) (f : Asks) (d e : Account) → d.given ≡ v → IsTailWritten v c group lists f → IsRound (subject v.op) c f d → IsIdle d → IsUnlocked (subject v.op) d e → IsCutting v e group (cut_asks group d)
cuts_after v group lists c f d e dg l r idle u = record {
  within = l.written.between.within;
  group_is = group_released (subject v.op) group d e (released_of (subject v.op) d e u) (group_kept (subject v.op) c f d r idle (writing_data v group (low_of v.op group) [] (low_of v.op group) lists c f l.written) group l.written.between.group_is);
  changed = λ x i w less s t.
      (let k = changed_over v group (λ y. write_request (subject v.op) (first_stripe (quorum_of v) (low_of v.op group)) (list_at lists y)) c f d e l.written.changing
      (λ y j z. data_write (subject v.op) j (first_stripe (quorum_of v) (low_of v.op group)) (list_at lists y)) (λ y j z. refl) r idle u x i w less s t in (
        write_request (subject v.op) (first_stripe (quorum_of v) (low_of v.op group)) (list_at lists x) i w ∷ [],
        tail_passes (quorum_of v) (low_of v.op group) i (record { 0 = subject v.op }) (list_at lists x) (let z = wide v in omega (arith, z)) l.inside (l.written.coded.len x less),
        k.1 [] (l.written.between.readied x i w less k.0 t),
      ));
  changing = changing_begins v group (λ z y. cut_request (subject z.op) (stripes_of (quorum_of z) (low_of z.op group)) (stripes_of (quorum_of z) (to_of z.op))) (cut_asks group d) d e dg u l.written.between.within (λ y. refl);
}

-- which requests a brick may execute
pub cutting_on : (v : Given) (group : Group) (c : Account) (f : Asks) (queried : Option ℕ) → IsCut v.op → IsCutting v c group f → IsOn (subject v.op) (bricks_of v) queried f
cutting_on v group c f queried short l = record {
  below = λ y r e. (l.changing.asks y r e).0;
  of = λ y r e. ap gfid_of (l.changing.asks y r e).5;
  plain = λ y r e. ap is_plain (l.changing.asks y r e).5;
  first = λ y r e t. absurd (let w : is_lock r ≡ false = ap is_lock (l.changing.asks y r e).5 in cc);
  fit = λ y r e.
      (let w = l.changing.asks y r e in
      subst IsFit (sym w.5) (stripes_short (quorum_of v) (low_of v.op group) (wide v) (low_fits v.op group short), stripes_short (quorum_of v) (to_of v.op) (wide v) short.1));
}

-- what the cut asks may be sent
pub cut_may : (x : Ctx) (group : Group) (c : Account) (f h : Asks) (d : Account) → IsAt x d.given c → IsCutting d.given c group f → IsTruncate d.given.op → IsSent (subject d.given.op) c h d
    → ((y : ℕ) (r : Request) → h y ≡ Some r → f y ≡ Some r) → (b : ℕ) (r : Request) → f b ≡ Some r → h b ≡ None → MaySend d b r
cut_may x group c f h d a l i s part b r e n =
    let g : ℕ = subject d.given.op in
    let keep : ℕ = stripes_of (quorum_of d.given) (low_of d.given.op group) in
    let count : ℕ = stripes_of (quorum_of d.given) (to_of d.given.op) in
    let w = l.changing.asks b r e in
    let did = l.changed b w.1 w.2 w.0 w.3 w.4 in
    let same = data_same (subject d.given.op) c f h d (changing_data d.given c group (λ y. cut_request (subject d.given.op) (stripes_of (quorum_of d.given) (low_of d.given.op group)) (stripes_of (quorum_of d.given) (to_of d.given.op))) f (λ y j z. data_cut (subject d.given.op) j (stripes_of (quorum_of d.given) (low_of d.given.op group)) (stripes_of (quorum_of d.given) (to_of d.given.op))) l.changing) s part b in
    subst (λ (q : Request). MaySend d b q) (sym w.5) (
      is_free x d.given b c d h a s n w.0,
      inl (record {
        change = record {
          grant_held = ap (λ (p : Place). holds p.inode w.1) same ∙ holds_by (at c (subject d.given.op) b).inode w.1 (serving_is (at c (subject d.given.op) b) w.1 w.3).1;
          ready = ap did_changes same ∙ did.2.done;
        };
        op = of_truncate (λ (o : Op). cuts_file o (subject o) ≡ true) d.given.op i (λ g to. eq-eqb g.0 g.0 refl);
      }),
    )

-- the changes of the commit, with the cut as the last

cut_all : (e : Account) (op : Op) (group : Group) (i w : ℕ) (rs : List Request) → IsTruncate op → are (tail_tests (quorum_of e.given) (low_of op group)) rs ≡ true
    → IsAllOf e (subject op) group.head op (cut_request (subject op) (stripes_of (quorum_of e.given) (low_of op group)) (stripes_of (quorum_of e.given) (to_of op)) i w ∷ rs)
cut_all e op group i w rs is pass =
    of_truncate (λ (o : Op). are (tail_tests (quorum_of e.given) (low_of o group)) rs ≡ true → IsAllOf e (subject o) group.head o (cut_request (subject o) (stripes_of (quorum_of e.given) (low_of o group)) (stripes_of (quorum_of e.given) (to_of o)) i w ∷ rs)) op is
    (λ g to m.
    (let a = eq-eqb (stripes_of (quorum_of e.given) (min group.head.size to)) (stripes_of (quorum_of e.given) (min group.head.size to)) refl in
    let b = eq-eqb (stripes_of (quorum_of e.given) to) (stripes_of (quorum_of e.given) to) refl in
    (refl, rw (a, b) m))) pass

-- the PostOps follow
pub post_cut : (group : Group) (c : Account) (f : Asks) (d e : Account) → IsCutting e.given c group f → d.given ≡ e.given → IsRound (subject e.given.op) c f d → IsIdle d → IsUnlocked (subject e.given.op) d e → IsCut e.given.op
    → quorum_of d.given ≤ count_serving d group → InBallot (Post group) e (ballot_asks (Post group) d)
post_cut group c f d e l dg r idle u short enough =
    post_begins_by group d e dg u l.within (to_fits e.given.op group.head.size short) (group_kept (subject e.given.op) c f d r idle (changing_data e.given c group (cuts e.given) f (data_is e.given) l.changing) group l.group_is) prepared enough
  where
    cuts : Given → ℕ → ℕ → ℕ → Request
    cuts v y = cut_request (subject v.op) (stripes_of (quorum_of v) (low_of v.op group)) (stripes_of (quorum_of v) (to_of v.op))

    data_is : (v : Given) (y j z : ℕ) → Rattle.ec_write.specs.Windows.IsData (cuts v y j z)
    data_is v y j z = data_cut (subject v.op) j (stripes_of (quorum_of v) (low_of v.op group)) (stripes_of (quorum_of v) (to_of v.op))

    prepared : (x i w : ℕ) → x < bricks_of e.given → serving (at e (subject e.given.op) x) ≡ Some i → version_at group x ≡ Some w → IsPrepared e (subject e.given.op) group x i w
    prepared x i w less s t =
        let k = changed_over e.given group (cuts e.given) c f d e l.changing (data_is e.given) (λ y j z. refl) r idle u x i w less s t in
        let before = l.changed x i w less k.0 t in
        prepared_by e (subject e.given.op) group x i w (cuts e.given x i w ∷ before.0) (k.1 before.0 before.2) (cut_all e e.given.op group i w before.0 short.0 before.1)
