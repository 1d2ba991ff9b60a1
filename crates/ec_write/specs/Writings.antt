-- The stage that writes: what it asks may be sent, and the PostOps follow it.
use Rattle.std.proofs.Common.{◌≡◌, inl, inr, ℕ, ◌+◌, ◌-◌, ◌/◌, ◌<◌, ◌≤◌, ◌^◌, true, false, refl, sym, ◌∙◌, ap, subst, List, [], ◌∷◌, length, arith, Option, Some, eq-eqb}
use Rattle.ec_answers.specs.declared.grouped.Group.{Group}
use Rattle.ec_attr.specs.declared.gfid.Gfid.{Gfid}
use Rattle.ec_attr.specs.declared.head.Head.{Head}
use Rattle.ec_brick.specs.Fit.{IsFit}
use Rattle.ec_conduct.specs.Account.{Account, Exchange, at, gfid_of}
use Rattle.ec_conduct.specs.Ballots.{size_after}
use Rattle.ec_conduct.specs.Changes.{IsAllOf, are, write_tests}
use Rattle.ec_conduct.specs.Data.{IsOld}
use Rattle.ec_conduct.specs.Done.{is_change, is_lock, is_pre}
use Rattle.ec_conduct.specs.Given.{Given, bricks_of, quorum_of}
use Rattle.ec_stripe.specs.Span.{stripe_bytes}
use Rattle.ec_wire.specs.declared.op.Op.{Op}
use Rattle.ec_wire.specs.declared.op.Op.TheVariants.{Write, Truncate, Read, Stat, Create, Mkdir, Unlink, Lookup, Readdir, Heal, SetAttr, GetAttr, Rename, Rmdir, Scrub, Sweep}
use Rattle.ec_wire.specs.declared.request.Request.{Request}
use Rattle.ec_wire.specs.declared.request.Request.TheVariants.{WriteChunks}
use Rattle.ec_txn.specs.declared.ballot.Ballot.TheVariants.{Post}
use Rattle.ec_txn.specs.Ballot.{InBallot, IsGroupAt, IsPrepared, ballot_asks, count_serving, is_within, serving, to_members, version_at}
use Rattle.ec_txn.specs.Rounds.{Asks, IsIdle, IsOn, IsRound, IsUnlocked, is_plain, subject}
use Rattle.ec_txn.proofs.Ballots.{asked_member, member_asked, unlocked_serving}
use Rattle.ec_txn.proofs.BallotGoes.{asks_after, count_after, group_released, released_of}
use Rattle.ec_write.specs.During.{HasChanged, IsBetween, IsChanging, IsSized, IsWritingAt, IsWritingOf, first_at}
use Rattle.ec_write.specs.Range.{count_stripes, data_of, first_stripe, off_of, reads_first, reads_last}
use Rattle.ec_write.specs.Stripes.{AreCoded, list_at}
use Rattle.ec_write.specs.Write.{IsWrite, write_request}
use Rattle.ec_write.specs.Numbers.{count_less, stripes_few}
use Rattle.ec_write.specs.Windows.{AsksData, IsData, Went, changed_more, data_write, group_kept, served}

-- what the call of a write is
pub is_write_op : (op : Op) → IsWrite op → (g : Gfid) × (off : ℕ) × (bytes : List ℕ) × (op ≡ Write g off bytes)
is_write_op (Write g off bytes) i = (g, off, bytes, refl)
is_write_op (Stat g) i = absurd i
is_write_op (SetAttr g attr) i = absurd i
is_write_op (Truncate g size) i = absurd i
is_write_op (Read g off len via) i = absurd i
is_write_op (Create g name) i = absurd i
is_write_op (Mkdir g name) i = absurd i
is_write_op (Unlink g name) i = absurd i
is_write_op (Lookup g name) i = absurd i
is_write_op (Readdir g) i = absurd i
is_write_op (Heal g) i = absurd i
is_write_op (GetAttr g) i = absurd i
is_write_op (Rename old name new to) i = absurd i
is_write_op (Rmdir g name) i = absurd i
is_write_op (Scrub g settle) i = absurd i
is_write_op (Sweep full) i = absurd i

-- what holds of each write holds of this one
pub of_write : (P : Op → Type 0) (op : Op) → IsWrite op → ((g : Gfid) (off : ℕ) (bytes : List ℕ) → P (Write g off bytes)) → P op
of_write P op i each = let w = is_write_op op i in subst P (sym w.3) (each w.0 w.1 w.2)

pub size_fits : (op : Op) (size : ℕ) → IsSized op → size ≤ 2 ^ 40 → size_after op size ≤ 2 ^ 40
size_fits op size i l = of_write (λ (o : Op). off_of o + length (data_of o) ≤ 2 ^ 40 → size_after o size ≤ 2 ^ 40) op i.0 (λ g off bytes e. omega (arith, e, l)) i.1

pub wide : (v : Given) → 1024 ≤ stripe_bytes (quorum_of v)
wide v = let m = v.geometry.least in omega (arith, m)

-- a stage that asks each brick that did all so far for a change begins

pub changing_begins : (v : Given) (group : Group) (q : Given → ℕ → ℕ → ℕ → Request) (h : Asks) (d e : Account) → d.given ≡ v → IsUnlocked (subject v.op) d e → is_within group.head ≡ true → ((y : ℕ) → h y ≡ to_members group (q d.given y) d y)
    → IsChanging v e group (q v) h
changing_begins v group q h d e dg u within is = record {
  asks = λ y r t.
      (let a = member_asked group (q d.given y) d y r (sym (is y) ∙ t) in
      let w = subst (λ (z : Given). (y < bricks_of z) × (i version : ℕ) × (serving (at d (subject z.op) y) ≡ Some i) × (version_at group y ≡ Some version) × (r ≡ q z y i version)) dg (a.below, a.grant, a.version, a.serves, a.versioned, a.request) in
      (w.0, w.1, w.2, unlocked_serving (subject v.op) y d e u ∙ w.3, w.4, w.5));
  asked = λ y i version less s t.
      subst (λ (z : Given). y < bricks_of z → serving (at d (subject z.op) y) ≡ Some i → h y ≡ Some (q z y i version)) dg
      (λ l k. is y ∙ asked_member group (q d.given y) d y i version within l k t)
      less (sym (unlocked_serving (subject v.op) y d e u) ∙ s);
}

pub changing_data : (v : Given) (c : Account) (group : Group) (q : ℕ → ℕ → ℕ → Request) (f : Asks) → ((y i version : ℕ) → IsData (q y i version)) → IsChanging v c group q f → AsksData (subject v.op) c f
changing_data v c group q f data_is l y r e = (let w = l.asks y r e in (subst IsData (sym w.5) (data_is y w.1 w.2), w.1, w.3))

pub writes_begin : (v : Given) (group : Group) (off : Given → ℕ) (bytes : List ℕ) (size : ℕ) (lists : List (List (List ℕ))) (front back : List (List ℕ)) (h : Asks) (d e : Account) → d.given ≡ v → IsUnlocked (subject v.op) d e → IsBetween v e group
    → AreCoded v.geometry (off v) bytes size front back lists
    → (reads_first (quorum_of v) (off v) (length bytes) size ≡ true → IsOld e (subject v.op) (first_stripe (quorum_of v) (off v)) group.head front)
    → (reads_last (quorum_of v) (off v) (length bytes) size ≡ true → IsOld e (subject v.op) (first_stripe (quorum_of v) (off v) + (count_stripes (quorum_of v) (off v) (length bytes) - 1)) group.head back)
    → ((y : ℕ) → h y ≡ to_members group (write_request (subject d.given.op) (first_stripe (quorum_of d.given) (off d.given)) (list_at lists y)) d y) → IsWritingAt v e group (off v) bytes size lists h
writes_begin v group off bytes size lists front back h d e dg u b coded first last is = record {
  between = b;
  front = front;
  back = back;
  coded = coded;
  knows_first = first;
  knows_last = last;
  changing = changing_begins v group (λ z y. write_request (subject z.op) (first_stripe (quorum_of z) (off z)) (list_at lists y)) h d e dg u b.within is;
}

pub writing_data : (v : Given) (group : Group) (off : ℕ) (bytes : List ℕ) (size : ℕ) (lists : List (List (List ℕ))) (c : Account) (f : Asks) → IsWritingAt v c group off bytes size lists f → AsksData (subject v.op) c f
writing_data v group off bytes size lists c f l =
    changing_data v c group (λ y. write_request (subject v.op) (first_stripe (quorum_of v) off) (list_at lists y)) f (λ y i version. data_write (subject v.op) i (first_stripe (quorum_of v) off) (list_at lists y)) l.changing

-- which requests a brick may execute
pub writing_on : (v : Given) (group : Group) (off : ℕ) (bytes : List ℕ) (size : ℕ) (lists : List (List (List ℕ))) (c : Account) (f : Asks) (queried : Option ℕ) → off + length bytes ≤ 2 ^ 40 → IsWritingAt v c group off bytes size lists f
    → IsOn (subject v.op) (bricks_of v) queried f
writing_on v group off bytes size lists c f queried short l = record {
  below = λ y r e. (l.changing.asks y r e).0;
  of = λ y r e. ap gfid_of (l.changing.asks y r e).5;
  plain = λ y r e. ap is_plain (l.changing.asks y r e).5;
  first = λ y r e t. absurd (let w : is_lock r ≡ false = ap is_lock (l.changing.asks y r e).5 in cc);
  fit = λ y r e.
      (let w = l.changing.asks y r e in
      let n = l.coded.len y w.0 in
      let few = stripes_few (quorum_of v) off (length bytes) (wide v) short in
      subst IsFit (sym w.5) (subst (λ (m : ℕ). first_stripe (quorum_of v) off + m ≤ 2 ^ 30) (sym n) few));
}

-- what a brick that serves after such a stage has changed

some_same : {A : Type 0} (a b : A) → Some a ≡ Some b → a ≡ b
some_same a b e = cc

module _ (v : Given) (group : Group) (q : ℕ → ℕ → ℕ → Request) (c : Account) (f : Asks) (d e : Account) (l : IsChanging v c group q f) (data_is : (y i version : ℕ) → IsData (q y i version)) (is : (y i version : ℕ) → is_change (q y i version) ≡ true)
    (r : IsRound (subject v.op) c f d) (idle : IsIdle d) (u : IsUnlocked (subject v.op) d e) where
  pub changed_over : (x i w : ℕ) → x < bricks_of v → serving (at e (subject v.op) x) ≡ Some i → version_at group x ≡ Some w
      → (serving (at c (subject v.op) x) ≡ Some i) × ((rs : List Request) → HasChanged (subject v.op) group i w rs (at c (subject v.op) x).window → HasChanged (subject v.op) group i w (q x i w ∷ rs) (at e (subject v.op) x).window)
  changed_over x i w less s t =
      let k = served (subject v.op) c f d r idle (changing_data v c group q f data_is l) x i (sym (unlocked_serving (subject v.op) x d e u) ∙ s) in
      (k.0, λ rs before. go rs before k.0 k.1)
    where
      go : (rs : List Request) → HasChanged (subject v.op) group i w rs (at c (subject v.op) x).window → serving (at c (subject v.op) x) ≡ Some i → Went (f x) (at c (subject v.op) x).window (at d (subject v.op) x).window
          → HasChanged (subject v.op) group i w (q x i w ∷ rs) (at e (subject v.op) x).window
      go rs before s' (inl (n, same)) = absurd (let z = l.asked x i w less s' t in cc)
      go rs before s' (inr (y, asked, done, win)) =
          let old : List Exchange = (at c (subject v.op) x).window in
          let request : y.request ≡ q x i w = some_same y.request (q x i w) (sym asked ∙ l.asked x i w less s' t) in
          let p : is_pre y.request ≡ false = ap is_pre request ∙ (data_is x i w).pre in
          let h : is_change y.request ≡ true = ap is_change request ∙ is x i w in
          let more : HasChanged (subject v.op) group i w (y.request ∷ rs) (y ∷ old) = changed_more (subject v.op) group i w rs y old p h done before in
          subst (λ (es : List Exchange). HasChanged (subject v.op) group i w (q x i w ∷ rs) es) (sym (u.window x ∙ win)) (subst (λ (z : Request). HasChanged (subject v.op) group i w (z ∷ rs) (y ∷ old)) request more)

-- the PostOps follow

tests_pass : (k off len grant : ℕ) (g : Gfid) (chunks : List (List ℕ)) → 0 < stripe_bytes k → length chunks ≡ count_stripes k off len → are (write_tests k off len) (WriteChunks g grant (first_stripe k off) chunks ∷ []) ≡ true
tests_pass k off len grant g chunks pos n =
    let a = eq-eqb (off / stripe_bytes k) (off / stripe_bytes k) refl in
    let b = eq-eqb (length chunks) (Rattle.ec_conduct.specs.Changes.stripes_of k (off + len) - off / stripe_bytes k) (n ∙ sym (count_less k off len pos)) in
    rw (a, b) refl

all_of : (e : Account) (op : Op) (head : Head) (i version : ℕ) (chunks : List (List ℕ)) → IsWrite op → 0 < length (data_of op) → 0 < stripe_bytes (quorum_of e.given) → length chunks ≡ count_stripes (quorum_of e.given) (off_of op) (length (data_of op))
    → IsAllOf e (subject op) head op (write_request (subject op) (first_stripe (quorum_of e.given) (off_of op)) chunks i version ∷ [])
all_of e op head i version chunks is some pos n =
    of_write (λ (o : Op). 0 < length (data_of o) → length chunks ≡ count_stripes (quorum_of e.given) (off_of o) (length (data_of o)) → IsAllOf e (subject o) head o (write_request (subject o) (first_stripe (quorum_of e.given) (off_of o)) chunks i version ∷ [])) op is
    (λ g off bytes s m. (refl, s, tests_pass (quorum_of e.given) off (length bytes) i (record { 0 = g.0 }) chunks pos m)) some n

-- a brick that did the PreOp and these changes, which are all
pub prepared_by : (e : Account) (g : ℕ) (group : Group) (x i w : ℕ) (rs : List Request) → HasChanged g group i w rs (at e g x).window → IsAllOf e g group.head e.given.op rs → IsPrepared e g group x i w
prepared_by e g group x i w rs k all = record {
  pre = k.pre;
  whole = record { done = k.done; all = subst (λ (xs : List Request). IsAllOf e g group.head e.given.op xs) (sym k.sent) all };
}

-- The PostOps go out where each brick that serves did all, and so many of the group do.
pub post_begins_by : (group : Group) (d e : Account) → d.given ≡ e.given → IsUnlocked (subject e.given.op) d e → is_within group.head ≡ true → size_after e.given.op group.head.size ≤ 2 ^ 40 → IsGroupAt d (subject e.given.op) group
    → ((x i w : ℕ) → x < bricks_of e.given → serving (at e (subject e.given.op) x) ≡ Some i → version_at group x ≡ Some w → IsPrepared e (subject e.given.op) group x i w)
    → quorum_of d.given ≤ count_serving d group → InBallot (Post group) e (ballot_asks (Post group) d)
post_begins_by group d e dg u within size group_is prepared enough = record {
  within = within;
  size = size;
  group = group_released (subject e.given.op) group d e (released_of (subject e.given.op) d e u) group_is;
  at_stage = (
    prepared,
    subst (λ (m : ℕ). quorum_of e.given ≤ m) (count_after group d e dg u) (subst (λ (z : Given). quorum_of z ≤ count_serving d group) dg enough),
  );
  asks = λ x. asks_after (Post group) d e dg u x;
}

module _ (group : Group) (lists : List (List (List ℕ))) (c : Account) (f : Asks) (d e : Account) (l : IsWritingOf e.given c group lists f) (dg : d.given ≡ e.given) (r : IsRound (subject e.given.op) c f d) (idle : IsIdle d) (u : IsUnlocked (subject e.given.op) d e)
    (sized : IsSized e.given.op) where
  prepared : (x i w : ℕ) → x < bricks_of e.given → serving (at e (subject e.given.op) x) ≡ Some i → version_at group x ≡ Some w → IsPrepared e (subject e.given.op) group x i w
  prepared x i w less s t =
      let k = changed_over e.given group (λ y. write_request (subject e.given.op) (first_at e.given) (list_at lists y)) c f d e l.1.changing (λ y j z. data_write (subject e.given.op) j (first_at e.given) (list_at lists y)) (λ y j z. refl) r idle u x i w less s t in
      prepared_by e (subject e.given.op) group x i w (write_request (subject e.given.op) (first_at e.given) (list_at lists x) i w ∷ []) (k.1 [] (l.1.between.readied x i w less k.0 t))
      (all_of e e.given.op group.head i w (list_at lists x) sized.0 l.0 (let z = wide e.given in omega (arith, z)) (l.1.coded.len x less))

  pub post_after : quorum_of d.given ≤ count_serving d group → group.head.size ≤ 2 ^ 40 → InBallot (Post group) e (ballot_asks (Post group) d)
  post_after enough small =
      post_begins_by group d e dg u l.1.between.within (size_fits e.given.op group.head.size sized small)
      (group_kept (subject e.given.op) c f d r idle (writing_data e.given group (off_of e.given.op) (data_of e.given.op) group.head.size lists c f l.1) group l.1.between.group_is)
      prepared enough
