-- Between the PreOps and the PostOps: the stages that read.
use Rattle.std.proofs.Common.{◌≡◌, inl, inr, ℕ, ◌+◌, ◌-◌, ◌%◌, ◌<◌, ◌≤◌, ◌^◌, ◌==◌, ◌&&◌, not, nat_lt, Bool, true, false, refl, sym, ◌∙◌, ap, subst, List, [], arith, Option, Some, None}
use Rattle.std.proofs.Math.Nat.{mod-lt}
use Rattle.std.proofs.lemmas.Bool.{and_parts}
use Rattle.std.proofs.lemmas.Bool.Decides.{nat_tests}
use Rattle.ec_answers.specs.declared.grouped.Group.{Group}
use Rattle.ec_attr.specs.Bricks.{is_in}
use Rattle.ec_attr.specs.declared.head.Head.{Head}
use Rattle.ec_attr.specs.declared.kind.LockKind.TheVariants.{Exclusive}
use Rattle.ec_attr.specs.declared.policy.Policy.{Policy}
use Rattle.ec_attr.specs.declared.policy.Policy.TheVariants.{RoundRobin, GfidHash}
use Rattle.ec_conduct.specs.Account.{Account, Lock, Place, at, noted}
use Rattle.ec_conduct.specs.Data.{IsOld}
use Rattle.ec_conduct.specs.Done.{chunk_in, failed_none, is_any, is_change, is_pre, is_query, is_write, tried}
use Rattle.ec_conduct.specs.Given.{Given, bricks_of, quorum_of}
use Rattle.ec_conduct.specs.Phases.{is_read_from}
use Rattle.ec_wire.specs.declared.request.Request.{Request}
use Rattle.ec_wire.specs.declared.request.Request.TheVariants.{PreOp}
use Rattle.ec_txn.specs.declared.ballot.Ballot.TheVariants.{Pre}
use Rattle.ec_txn.specs.declared.ctx.Ctx.{Ctx}
use Rattle.ec_txn.specs.declared.opening.Opening.{Opening}
use Rattle.ec_txn.specs.declared.opening.Opening.TheVariants.{Lock as Locking, Query}
use Rattle.ec_txn.specs.declared.reading.Reading.{Reading}
use Rattle.ec_txn.specs.Ballot.{InBallot, serving, version_at}
use Rattle.ec_txn.specs.Fetching.{under}
use Rattle.ec_txn.specs.Opening.{InOpening}
use Rattle.ec_txn.specs.ReadPhase.{chunks_of, count_before, count_wanted, is_chosen, is_left, is_tried, places_of, reading_asks}
use Rattle.ec_txn.specs.Replies.{replied}
use Rattle.ec_txn.specs.Rounds.{Asks, IsIdle, IsRound, IsUnlocked, joined, subject, where_so}
use Rattle.ec_txn.specs.Tables.{IsIn as IsAt}
use Rattle.ec_txn.proofs.Again.{in_none, joined_at}
use Rattle.ec_txn.proofs.Ballots.{is_granted_of, serves_by, unlocked_serving}
use Rattle.ec_txn.proofs.BallotGoes.{did_in, group_over, group_released, released_of}
use Rattle.ec_txn.proofs.BallotSends.{asked_of}
use Rattle.ec_txn.proofs.Fetching.{under_is, within}
use Rattle.ec_txn.proofs.ReadAgain.{law}
use Rattle.ec_write.specs.During.{IsBetween, IsFresh, IsReadied, IsReadingOne, IsUnread, IsUnwritten}
use Rattle.ec_write.specs.Write.{read_asks, reading_of, start_by, start_of}
use Rattle.ec_write.specs.Olds.{Stays, asks_data, old_stays, read_other}
use Rattle.ec_write.specs.Windows.{Grown, IsData, IsMild, Went, data_mild, changed_read, group_kept, grown, mild_ask, mild_query, never, served}

-- releases of asks that weren't granted

pub between_unlocked : (v : Given) (group : Group) (d e : Account) → IsUnlocked (subject v.op) d e → IsBetween v d group → IsBetween v e group
between_unlocked v group d e u b = record {
  within = b.within;
  group_is = group_released (subject v.op) group d e (released_of (subject v.op) d e u) b.group_is;
  readied = λ x i w l s t. subst (IsReadied (subject v.op) group i w) (sym (u.window x)) (b.readied x i w l (sym (unlocked_serving (subject v.op) x d e u) ∙ s) t);
  unwritten = λ x. ap (tried is_write) (u.window x) ∙ b.unwritten x;
}

pub old_unlocked : (g s : ℕ) (head : Head) (stripe : List (List ℕ)) (d e : Account) → IsUnlocked g d e → IsOld d g s head stripe → IsOld e g s head stripe
old_unlocked g s head stripe d e u o = old_stays g s head stripe d e u.given (λ x. inl (u.window x)) o

pub unread_unlocked : (g s : ℕ) (d e : Account) → IsUnlocked g d e → IsUnread g s d → IsUnread g s e
unread_unlocked g s d e u k = λ x t l. ap (tried (is_read_from t)) (u.window x) ∙ k x t l

-- after the PreOps

mild_pre : (p : Request → Bool) (group : Group) (c : Account) (f : Asks) → InBallot (Pre group) c f → ((g i v n : ℕ) → p (PreOp (record { 0 = g }) i v n) ≡ false) → (y : ℕ) (r : Request) → f y ≡ Some r → IsMild p r
mild_pre p group c f l off y r e =
    let a = asked_of (Pre group) c f l y r e in
    subst (IsMild p) (sym a.request) (record { off = off (subject c.given.op) a.grant a.version (Rattle.ec_txn.specs.Ballot.next_dirty group.head); window = λ q i. refl })

pub between_pre : (v : Given) (group : Group) (c : Account) (f : Asks) (d : Account) → InBallot (Pre group) c f → c.given ≡ v → IsRound (subject v.op) c f d → IsIdle d → IsUnwritten (subject v.op) c → IsBetween v d group
between_pre v group c f d l cg r idle un = record {
  within = l.within;
  group_is = group_over (Pre group) c f d v l cg r idle;
  readied = λ x i w less s t.
      (let k = did_in (Pre group) c f d v l cg r idle x i w less s t in
      let z = k.done in
      subst (IsReadied (subject v.op) group i w) (sym k.window) (record { pre = rw z refl; done = rw z refl; sent = refl }));
  unwritten = λ x. never is_write (subject v.op) c f d r idle (mild_pre is_write group c f l (λ g i w n. refl)) x (un x);
}

pub unread_pre : (v : Given) (group : Group) (s : ℕ) (c : Account) (f : Asks) (d : Account) → InBallot (Pre group) c f → IsRound (subject v.op) c f d → IsIdle d → IsUnread (subject v.op) s c → IsUnread (subject v.op) s d
unread_pre v group s c f d l r idle un = λ x t le. never (is_read_from t) (subject v.op) c f d r idle (mild_pre (is_read_from t) group c f l (λ g i w n. refl)) x (un x t le)

-- a stage that reads is over

module _ (x : Ctx) (v : Given) (group : Group) (reading : Reading) (c : Account) (f : Asks) (d : Account) (l : IsReadingOne x v c group reading f) (cg : c.given ≡ v) (r : IsRound (subject v.op) c f d) (idle : IsIdle d) where
  asked_for : (y : ℕ) (q : Request) → f y ≡ Some q → IsData q × (i : ℕ) × (serving (at c (subject v.op) y) ≡ Some i)
  asked_for = asks_data x v group reading c f d l cg r idle

  between_read_at : (y i w : ℕ) → y < bricks_of v → serving (at d (subject v.op) y) ≡ Some i → version_at group y ≡ Some w → IsReadied (subject v.op) group i w (at d (subject v.op) y).window
  between_read_at y i w less s t =
      let u = served (subject v.op) c f d r idle asked_for y i s in
      let k = l.between.readied y i w less u.0 t in
      go (f y) refl k u.1
    where
      go : (o : Option Request) → f y ≡ o → IsReadied (subject v.op) group i w (at c (subject v.op) y).window → Went o (at c (subject v.op) y).window (at d (subject v.op) y).window → IsReadied (subject v.op) group i w (at d (subject v.op) y).window
      go o same k (inl (n, e)) = subst (IsReadied (subject v.op) group i w) (sym e) k
      go o same k (inr (q, asked, done, win)) =
          let a = l.asks.asks y q.request (same ∙ asked) in
          subst (IsReadied (subject v.op) group i w) (sym win) (changed_read (subject v.op) group i w [] q (at c (subject v.op) y).window (ap is_pre a.4) (ap is_change a.4) k)

  pub between_read : IsBetween v d group
  between_read = record {
    within = l.between.within;
    group_is = group_kept (subject v.op) c f d r idle asked_for group l.between.group_is;
    readied = between_read_at;
    unwritten = λ y. never is_write (subject v.op) c f d r idle (λ z q e. data_mild is_write q (asked_for z q e).0 (ap is_write (l.asks.asks z q e).4)) y (l.between.unwritten y);
  }

  pub unread_read : (s : ℕ) → reading.first < s → IsUnread (subject v.op) s d
  unread_read s later y t le =
      let other : (reading.first == t) ≡ false = grind (arith, nat_tests) in
      never (is_read_from t) (subject v.op) c f d r idle (λ z q e. data_mild (is_read_from t) q (asked_for z q e).0 (ap (is_read_from t) (l.asks.asks z q e).4 ∙ other)) y (l.unread y t (omega arith))

  pub old_read : (s : ℕ) (head : Head) (stripe : List (List ℕ)) → s < reading.first → IsOld c (subject v.op) s head stripe → IsOld d (subject v.op) s head stripe
  old_read s head stripe before o = old_stays (subject v.op) s head stripe c d r.given stays o
    where
      stays : (y : ℕ) → Stays s (at c (subject v.op) y).window (at d (subject v.op) y).window
      stays y = go (f y) refl (grown (subject v.op) c f d r idle y)
        where
          go : (o : Option Request) → f y ≡ o → Grown o (at c (subject v.op) y) (at d (subject v.op) y) → Stays s (at c (subject v.op) y).window (at d (subject v.op) y).window
          go o same (inl (n, e)) = inl (ap (λ (p : Place). p.window) e)
          go o same (inr (q, asked, is)) =
              let a = l.asks.asks y q.request (same ∙ asked) in
              let k = asked_for y q.request (same ∙ asked) in
              inr (
                q,
                ap is_pre a.4,
                ap is_query a.4,
                ap (λ (z : Request). chunk_in s z q.reply) a.4 ∙ read_other (subject v.op) a.1.number s reading.first reading.count q.reply before,
                ap (λ (p : Place). p.window) (is ∙ ap (λ (p : Place). noted p q) (k.0.locks (at c (subject v.op) y) q.number)),
              )

-- a stage that reads begins

pub record IsAskedOf (r : Reading) (d : Account) (g n y : ℕ) (q : Request) : Type 0 where
  pub below : y < n
  pub among : is_in r.among y ≡ true
  pub good : failed_none is_any (at d g y).window ≡ true
  pub lock : Lock
  pub inode : (at d g y).inode ≡ Some lock
  pub granted : lock.granted ≡ true
  pub request : q ≡ chunks_of g r lock.number

not_not : (b : Bool) → not (not b) ≡ true → b ≡ true
not_not true e = refl
not_not false e = absurd (cc)

pub asked_left : (r : Reading) (d : Account) (y : ℕ) (q : Request) → reading_asks r d y ≡ Some q → IsAskedOf r d (subject d.given.op) (bricks_of d.given) y q
asked_left r d y q e =
    let g = subject d.given.op in
    let w = within (is_chosen (quorum_of d.given) r (places_of d g) (replied d g) y && nat_lt y (bricks_of d.given)) (under (at d g y).inode (chunks_of g r)) q e in
    let b = and_parts (is_chosen (quorum_of d.given) r (places_of d g) (replied d g) y) (nat_lt y (bricks_of d.given)) w.0 in
    let k = under_is (at d g y).inode (chunks_of g r) q w.1 in
    let left = (and_parts (is_left r (places_of d g) y) (nat_lt (count_before r.start (is_left r (places_of d g)) y) (count_wanted (quorum_of d.given) r (places_of d g) (replied d g))) b.0).0 in
    let rest = and_parts (is_in r.among y && not (is_tried r.first (places_of d g y))) (not (places_of d g y).failed) left in
    let t : nat_lt y (bricks_of d.given) ≡ true = b.1 in
    record {
      below = grind (arith, nat_tests);
      among = (and_parts (is_in r.among y) (not (is_tried r.first (places_of d g y))) rest.0).0;
      good = not_not (failed_none is_any (at d g y).window) rest.1;
      lock = k.0;
      inode = k.1;
      granted = k.2;
      request = k.3;
    }

asked_at : (v : Given) (r : Reading) (d : Account) → d.given ≡ v → (y : ℕ) (q : Request) → reading_asks r d y ≡ Some q → IsAskedOf r d (subject v.op) (bricks_of v) y q
asked_at v r d dg y q e = subst (λ (z : Given). IsAskedOf r d (subject z.op) (bricks_of z) y q) dg (asked_left r d y q e)

serves_at : (r : Reading) (d : Account) (g n y : ℕ) (q : Request) → (k : IsAskedOf r d g n y q) → serving (at d g y) ≡ Some k.lock.number
serves_at r d g n y q k = serves_by (at d g y) k.lock.number k.good (is_granted_of (at d g y).inode k.lock k.inode k.granted)

pub reads_begin : (x : Ctx) (v : Given) (group : Group) (s : ℕ) (d e : Account) → d.given ≡ v → IsUnlocked (subject v.op) d e → IsBetween v e group → IsUnread (subject v.op) s e → s + 1 ≤ 2 ^ 30
    → IsReadingOne x v e group (reading_of x (subject v.op) group s) (reading_asks (reading_of x (subject v.op) group s) d)
reads_begin x v group s d e dg u b un few = record {
  between = b;
  reading_is = refl;
  unread = un;
  asks = record {
    fit = few;
    asks = λ y q t. (let k = asked_at v (reading_of x (subject v.op) group s) d dg y q t in (k.below, k.lock, u.kept y k.lock k.inode k.granted, k.granted, k.request));
  };
  serves = λ y q t. (let k = asked_at v (reading_of x (subject v.op) group s) d dg y q t in (k.among, k.lock.number, unlocked_serving (subject v.op) y d e u ∙ serves_at (reading_of x (subject v.op) group s) d (subject v.op) (bricks_of v) y q k));
}

-- a stage that asks again is one that had asked so at first
pub reads_again : (x : Ctx) (v : Given) (group : Group) (reading : Reading) (c : Account) (f : Asks) (d : Account) → IsAt x v c → IsReadingOne x v c group reading f → IsRound (subject v.op) c f d
    → IsReadingOne x v c group reading (joined f (reading_asks reading d))
reads_again x v group reading c f d a l r = record {
  between = l.between;
  reading_is = l.reading_is;
  unread = l.unread;
  asks = (law x v reading c f d a l.asks r).0;
  serves = λ y q e. go y q (f y) refl e;
}
  where
    go : (y : ℕ) (q : Request) (o : Option Request) → f y ≡ o → joined f (reading_asks reading d) y ≡ Some q → (is_in group.bricks y ≡ true) × (i : ℕ) × (serving (at c (subject v.op) y) ≡ Some i)
    go y q (Some p) same e = l.serves y p same
    go y q None same e =
        let t : reading_asks reading d y ≡ Some q = sym (joined_at f (reading_asks reading d) y same) ∙ e in
        let k = asked_at v reading d (r.given ∙ a.given_is) y q t in
        let here = (in_none (f y) (at c (subject v.op) y) (d.waits y) (at d (subject v.op) y) same (r.each y)).1 in
        (ap (λ (z : Reading). is_in z.among y) (sym l.reading_is) ∙ k.among, k.lock.number, ap serving (sym here) ∙ serves_at reading d (subject v.op) (bricks_of v) y q k)

-- the brick from which on a call chooses is one of the volume
start_small : (p : Policy) (call g n : ℕ) → 0 < n → n ≤ 31 → start_by p call g n < 31
start_small RoundRobin call g n pos most = let l : (call - 1) % n < n = mod-lt (call - 1) pos in omega (arith, l, most)
start_small GfidHash call g n pos most = let l : g % n < n = mod-lt g pos in omega (arith, l, most)

-- so a stage that reads asks all that it is to ask
pub start_asks : (x : Ctx) (g : ℕ) (group : Group) (reading : Reading) (d : Account) → reading ≡ reading_of x g group reading.first → (P : Asks → Type 0) → P (reading_asks reading d) → P (read_asks reading d)
start_asks x g group reading d is P h =
    let same : reading.start ≡ start_of x g = ap (λ (r : Reading). r.start) is in
    let few : start_of x g < 31 = (let a = x.geometry.majority in let b = x.geometry.bricks in start_small x.policy x.call g x.geometry.n (omega (arith, a)) b) in
    let less : reading.start < 31 = omega (arith, same, few) in
    let t : nat_lt reading.start 31 ≡ true = grind (arith, nat_tests) in
    subst P (sym (ap (λ (b : Bool). where_so b (reading_asks reading d)) t)) h

-- nothing is touched as the call opens
pub fresh_over : (v : Given) (stage : Opening) (c : Account) (f : Asks) (d e : Account) → c.given ≡ v → InOpening Exclusive stage c f → IsFresh v c → IsRound (subject v.op) c f d → IsIdle d → IsUnlocked (subject v.op) d e → IsFresh v e
fresh_over v stage c f d e cg k fresh r idle u = (
  λ y. ap (tried is_write) (u.window y) ∙ never is_write (subject v.op) c f d r idle (mild is_write (λ g. refl) (λ g i. refl) stage k) y (fresh.0 y),
  λ y s l. ap (tried (is_read_from s)) (u.window y) ∙ never (is_read_from s) (subject v.op) c f d r idle (mild (is_read_from s) (λ g. refl) (λ g i. refl) stage k) y (fresh.1 y s l),
)
  where
    mild : (p : Request → Bool) → ((g : ℕ) → p (Rattle.ec_wire.specs.declared.request.Request.TheVariants.Ask (record { 0 = g }) Rattle.ec_attr.specs.declared.kind.Domain.TheVariants.Inode Exclusive) ≡ false) → ((g i : ℕ) → p (Rattle.ec_wire.specs.declared.request.Request.TheVariants.Query (record { 0 = g }) i) ≡ false)
        → (o : Opening) → InOpening Exclusive o c f → (y : ℕ) (q : Request) → f y ≡ Some q → IsMild p q
    mild p ask query (Locking brick) h y q t = subst (IsMild p) (sym (h.asks y q t).1) (mild_ask p (subject c.given.op) Exclusive (ask (subject c.given.op)))
    mild p ask query Query h y q t = (let w = h.asks y q t in subst (IsMild p) (sym w.4) (mild_query p (subject c.given.op) w.1.number (query (subject c.given.op) w.1.number)))
