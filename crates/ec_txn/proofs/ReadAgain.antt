-- Bricks that are asked in place of others that failed.
use Rattle.std.proofs.Common.{◌≡◌, ◌⊎◌, inl, inr, ⊎_elim, ℕ, ◌+◌, ◌<◌, ◌≤◌, ◌^◌, ◌==◌, ◌&&◌, ◌||◌, not, nat_lt, is_some, Bool, true, false, cond, refl, sym, ◌∙◌, ap, subst, arith, Option, Some, None, eq-eqb}
use Rattle.std.proofs.lemmas.Bool.{and_parts}
use Rattle.std.proofs.lemmas.Bool.Decides.{nat_tests}
use Rattle.ec_attr.specs.Bricks.{is_in}
use Rattle.ec_conduct.specs.Account.{Account, Lock, Place as PlaceOf, Wait, at}
use Rattle.ec_conduct.specs.Conduct.{IsFree, MaySend}
use Rattle.ec_conduct.specs.Given.{Given, bricks_of, quorum_of}
use Rattle.ec_wire.specs.declared.request.Request.{Request}
use Rattle.ec_txn.specs.declared.ctx.Ctx.{Ctx}
use Rattle.ec_txn.specs.declared.reading.Reading.{Reading}
use Rattle.ec_txn.specs.Digest.{digest, pending}
use Rattle.ec_txn.specs.Fetching.{IsFetch, IsFetching, under}
use Rattle.ec_txn.specs.ReadPhase.{IsReading, ReadingLaw, asked_if, chunks_of, count_before, count_wanted, is_chosen, is_first, is_left, is_tried, places_of, reading_asks}
use Rattle.ec_txn.specs.Replies.{replied}
use Rattle.ec_txn.specs.Rounds.{Asks, IsIn as IsInRound, IsMore, IsRound, joined, subject}
use Rattle.ec_txn.specs.Tables.{IsIn}
use Rattle.ec_txn.proofs.Again.{in_none, joined_at}
use Rattle.ec_txn.proofs.Fetching.{held_here, under_is, within}
use Rattle.ec_txn.proofs.Openings.{lost_false}

pub reading_fetches : (g n : ℕ) (r : Reading) (c : Account) (f : Asks) → IsReading g n r c f → IsFetching g n c f
reading_fetches g n r c f l = record { asks = λ x q e. let w = l.asks x q e in (w.0, w.1, w.2, w.3, subst (IsFetch g w.1.number) (sym w.4) (refl, refl, l.fit)) }

not_true : (b : Bool) → not b ≡ true → b ≡ false
not_true true e = absurd (cc)
not_true false e = refl

or_false : (a b : Bool) → (a || b) ≡ false → (a ≡ false) × (b ≡ false)
or_false true b e = absurd (cc)
or_false false b e = (refl, e)

-- a brick that is asked wasn't tried in the round
untried : (r : Reading) (c : Account) (g k x : ℕ) → is_chosen k r (places_of c g) (replied c g) x ≡ true → is_tried r.first (places_of c g x) ≡ false
untried r c g k x e =
    let left = (and_parts (is_left r (places_of c g) x) (nat_lt (count_before r.start (is_left r (places_of c g)) x) (count_wanted k r (places_of c g) (replied c g))) e).0 in
    let rest = (and_parts (is_in r.among x && not (is_tried r.first (places_of c g x))) (not (places_of c g x).failed) left).0 in
    not_true (is_tried r.first (places_of c g x)) (and_parts (is_in r.among x) (not (is_tried r.first (places_of c g x))) rest).1

-- and a brick that was asked in it was
in_tried : (g : ℕ) (r : Reading) (lock : Lock) (p q : PlaceOf) (w : Option Wait) → IsInRound (Some (chunks_of g r lock.number)) p w q → is_tried r.first (digest w q) ≡ true
in_tried g r lock p q w (inl (i, e, f)) = subst (λ (v : Option Wait). is_tried r.first (digest v q) ≡ true) (sym e) refl
in_tried g r lock p q w (inr (i, reply, e, f)) = subst (λ (v : Option Wait). is_tried r.first (digest v q) ≡ true) (sym e) (subst (λ (z : PlaceOf). is_tried r.first (digest None z) ≡ true) (sym f) (eq-eqb r.first r.first refl))

module _ (x : Ctx) (given : Given) (r : Reading) (c : Account) (f : Asks) (d : Account) (a : IsIn x given c) (l : IsReading (subject given.op) (bricks_of given) r c f) (s : IsRound (subject given.op) c f d) where
  at_given : d.given ≡ given
  at_given = s.given ∙ a.given_is

  -- what is asked again, with the lock that it is asked under
  asked : (y : ℕ) (q : Request) → reading_asks r d y ≡ Some q
      → (is_tried r.first (places_of d (subject given.op) y) ≡ false) × (y < bricks_of given) × (lock : Lock) × ((at d (subject given.op) y).inode ≡ Some lock) × (lock.granted ≡ true) × (q ≡ chunks_of (subject given.op) r lock.number)
  asked y q e = subst (λ (v : Given). (is_tried r.first (places_of d (subject v.op) y) ≡ false) × (y < bricks_of v) × (lock : Lock) × ((at d (subject v.op) y).inode ≡ Some lock) × (lock.granted ≡ true) × (q ≡ chunks_of (subject v.op) r lock.number)) at_given
      (let g = subject d.given.op in
      let w = within (is_chosen (quorum_of d.given) r (places_of d g) (replied d g) y && nat_lt y (bricks_of d.given)) (under (at d g y).inode (chunks_of g r)) q e in
      let b = and_parts (is_chosen (quorum_of d.given) r (places_of d g) (replied d g) y) (nat_lt y (bricks_of d.given)) w.0 in
      let t : nat_lt y (bricks_of d.given) ≡ true = b.1 in
      let k = under_is (at d g y).inode (chunks_of g r) q w.1 in
      (untried r d g (quorum_of d.given) y b.0, grind (arith, nat_tests), k.0, k.1, k.2, k.3))

  new : (y : ℕ) (q : Request) → reading_asks r d y ≡ Some q → f y ≡ None
  new y q e = go (f y) refl
    where
      go : (o : Option Request) → f y ≡ o → f y ≡ None
      go None h = h
      go (Some p) h =
          let k = l.asks y p h in
          let i : IsInRound (Some (chunks_of (subject given.op) r k.1.number)) (at c (subject given.op) y) (d.waits y) (at d (subject given.op) y) = subst (λ (o : Option Request). IsInRound o (at c (subject given.op) y) (d.waits y) (at d (subject given.op) y)) (h ∙ ap (λ (v : Request). Some v) k.4) (s.each y) in
          let t = in_tried (subject given.op) r k.1 (at c (subject given.op) y) (at d (subject given.op) y) (d.waits y) i in
          let u = (asked y q e).0 in
          absurd (cc)

  -- the lock stands as the round began
  lock_stands : (y : ℕ) (q : Request) → reading_asks r d y ≡ Some q → (at d (subject given.op) y) ≡ (at c (subject given.op) y)
  lock_stands y q e = (in_none (f y) (at c (subject given.op) y) (d.waits y) (at d (subject given.op) y) (new y q e) (s.each y)).1

  more_may : (part : Asks) (z : Account) → IsRound (subject given.op) c (joined f part) z → (b : ℕ) (q : Request) → reading_asks r d b ≡ Some q → part b ≡ None → MaySend z b q
  more_may part z sz b q e n =
      let g = subject given.op in
      let k = asked b q e in
      let free = joined_at f part b (new b q e) ∙ n in
      let i = in_none (joined f part b) (at c g b) (z.waits b) (at z g b) free (sz.each b) in
      let here : (at z g b).inode ≡ Some k.2 = ap (λ (p : PlaceOf). p.inode) (i.1 ∙ sym (lock_stands b q e)) ∙ k.3 in
      subst (λ (v : Request). MaySend z b v) (sym k.5) (
        record {
          running = record { unanswered = sz.unanswered ∙ a.ready.unanswered; brick = subst (λ (v : Given). b < bricks_of v) (sym (sz.given ∙ a.given_is)) k.1 };
          idle = i.0;
          kept = lost_false (at z g b) (sz.heal b);
        },
        held_here z b g k.2 here k.4,
      )

  pub reading_more : IsMore (subject given.op) c f (reading_asks r d)
  reading_more = record {
    new = new;
    quiet = λ y q e. ap Rattle.ec_txn.specs.Rounds.is_quiet (asked y q e).5;
    may = λ part z sz within b q e n. more_may part z sz b q e n;
  }

  pub reading_joined : IsReading (subject given.op) (bricks_of given) r c (joined f (reading_asks r d))
  reading_joined = record { fit = l.fit; asks = λ y q e. go y q (f y) refl e }
    where
      go : (y : ℕ) (q : Request) (o : Option Request) → f y ≡ o → joined f (reading_asks r d) y ≡ Some q → (y < bricks_of given) × (lock : Lock) × ((at c (subject given.op) y).inode ≡ Some lock) × (lock.granted ≡ true) × (q ≡ chunks_of (subject given.op) r lock.number)
      go y q (Some p) h e = l.asks y q (h ∙ (rw h at e))
      go y q None h e =
          let u : reading_asks r d y ≡ Some q = sym (joined_at f (reading_asks r d) y h) ∙ e in
          let k = asked y q u in
          (k.1, k.2, ap (λ (p : PlaceOf). p.inode) (sym (lock_stands y q u)) ∙ k.3, k.4, k.5)

pub law : ReadingLaw
law x given r c f d a l s = (reading_joined x given r c f d a l s, reading_more x given r c f d a l s)
