-- What bricks gave as chunks were read from them, and when none is left that may be read.
use Rattle.std.proofs.Common.{◌≡◌, ◌⊎◌, inl, inr, ⊎_elim, ℕ, ◌<◌, ◌≤◌, ◌&&◌, ◌||◌, not, nat_lt, is_some, Bool, true, false, cond, refl, sym, ◌∙◌, ap, subst, List, [], ◌∷◌, arith, Option, Some, None, eq-eqb}
use Rattle.std.proofs.Math.Path.{fun_ext}
use Rattle.std.proofs.lemmas.Bool.{and_parts}
use Rattle.std.proofs.lemmas.Bool.Decides.{nat_tests}
use Rattle.ec_answers.specs.declared.grouped.Group.{Group}
use Rattle.ec_answers.proofs.Counting.{count_within}
use Rattle.ec_attr.specs.Bricks.{count_below, is_in}
use Rattle.ec_attr.proofs.Sets.{same_count}
use Rattle.ec_conduct.specs.Account.{Account, Exchange, Lock, at}
use Rattle.ec_conduct.specs.Done.{failed_none, is_any, reply_to, tried}
use Rattle.ec_conduct.specs.Given.{Given, bricks_of, quorum_of}
use Rattle.ec_conduct.specs.Phases.{is_read_from}
use Rattle.ec_conduct.specs.Standing.{is_held}
use Rattle.ec_wire.specs.declared.reply.Reply.{Reply}
use Rattle.ec_wire.specs.declared.request.Request.{Request}
use Rattle.ec_wire.specs.declared.request.Request.TheVariants.{ReadChunks}
use Rattle.ec_txn.specs.Digest.{last_read, read_of}
use Rattle.ec_txn.specs.ReadPhase.{IsReading, chunks_of, asked_if, count_before, count_wanted, has_chunks, is_chosen, is_counted, is_first, is_left, is_tried, places_of, reading_asks}
use Rattle.ec_txn.specs.Replies.{last_reply, replied}
use Rattle.ec_txn.specs.Rounds.{Asks, IsIdle, IsRound, joined, subject}
use Rattle.ec_txn.specs.declared.reading.Reading.{Reading}
use Rattle.ec_law_causes.specs.Counted.{is_grouped}
use Rattle.ec_law_causes.proofs.Members.{AreBetween, HasMembers, members_over}
use Rattle.ec_law_causes.proofs.Ranks.{OnlyLate, rank, unreplied}
use Rattle.ec_law_causes.proofs.Rounds.{IsOver, over_at}
use Rattle.ec_law_causes.proofs.Walking.{chosen}

-- Chunks are read of bricks of a set, none of which was asked for these before; the set is of bricks of the group.
pub record HereReading (given : Given) (group : Group) (m : ℕ) (r : Reading) (c : Account) (f : Asks) : Type 0 where
  pub members : HasMembers given group m c
  pub unread : (x : ℕ) → tried (is_read_from r.first) (at c (subject given.op) x).window ≡ false
  pub among : (x : ℕ) (q : Request) → f x ≡ Some q → is_in r.among x ≡ true
  pub start : r.start < 31

asked_when : (t : Bool) (o : Option Request) (q : Request) → cond t o None ≡ Some q → t ≡ true
asked_when true o q e = refl
asked_when false o q e = absurd (cc)

-- who is asked is of the set
pub asks_among : (r : Reading) (c : Account) (x : ℕ) (q : Request) → reading_asks r c x ≡ Some q → is_in r.among x ≡ true
asks_among r c x q e =
    let so = asked_when (is_chosen (quorum_of c.given) r (places_of c (subject c.given.op)) (replied c (subject c.given.op)) x && nat_lt x (bricks_of c.given)) _ q e in
    let w = (and_parts (is_chosen (quorum_of c.given) r (places_of c (subject c.given.op)) (replied c (subject c.given.op)) x) (nat_lt x (bricks_of c.given)) so).0 in
    let l = (and_parts (is_left r (places_of c (subject c.given.op)) x) _ w).0 in
    (and_parts (is_in r.among x) (not (is_tried r.first (places_of c (subject c.given.op) x))) (and_parts (is_in r.among x && not (is_tried r.first (places_of c (subject c.given.op) x))) (not (places_of c (subject c.given.op) x).failed) l).0).0

-- whoever is asked again is of the set too
pub here_joined : (given : Given) (group : Group) (m : ℕ) (r : Reading) (c : Account) (f g : Asks) → ((x : ℕ) (q : Request) → g x ≡ Some q → is_in r.among x ≡ true) → HereReading given group m r c f → HereReading given group m r c (joined f g)
here_joined given group m r c f g more h = record {
  members = h.members;
  unread = h.unread;
  among = λ x q e. by x q (f x) refl e;
  start = h.start;
}
  where
    by : (x : ℕ) (q : Request) (o : Option Request) → f x ≡ o → joined f g x ≡ Some q → is_in r.among x ≡ true
    by x q None e t = more x q (sym (ap (λ (o : Option Request). cond (is_some o) o (g x)) e) ∙ t)
    by x q (Some s) e t = h.among x s e

-- and those that are asked again are as well
pub here_again : (given : Given) (group : Group) (m : ℕ) (r : Reading) (c : Account) (f : Asks) (d : Account) → HereReading given group m r c f → HereReading given group m r c (joined f (reading_asks r d))
here_again given group m r c f d h = record {
  members = h.members;
  unread = h.unread;
  among = λ x q e. by x q (f x) refl e;
  start = h.start;
}
  where
    by : (x : ℕ) (q : Request) (o : Option Request) → f x ≡ o → joined f (reading_asks r d) x ≡ Some q → is_in r.among x ≡ true
    by x q None e t = asks_among r d x q (sym (ap (λ (o : Option Request). cond (is_some o) o (reading_asks r d x)) e) ∙ t)
    by x q (Some s) e t = h.among x s e

-- no chunks are read before the reads
pub only_read : (first : ℕ) → OnlyLate 4 (is_read_from first)
only_read first (ReadChunks g grant at count) e = omega arith
only_read first r e = absurd (cc)

none_first : (first : ℕ) (es : List Exchange) → tried (is_read_from first) es ≡ false → is_first (last_read es) first ≡ false
none_first first [] e = refl
none_first first (k ∷ es) e = by k.request (first_false (is_read_from first k.request) (tried (is_read_from first) es) e)
  where
    first_false : (a b : Bool) → (a || b) ≡ false → a ≡ false
    first_false true b e = e
    first_false false b e = refl

    by : (q : Request) → is_read_from first q ≡ false → is_first (read_of q) first ≡ false
    by (ReadChunks g grant from count) e = e
    by q e = refl

none_reply : (p : Request → Bool) (es : List Exchange) → tried p es ≡ false → reply_to p es ≡ None
none_reply p es e = unreplied p es e

module _ (given : Given) (group : Group) (m : ℕ) (r : Reading) (c : Account) (f : Asks) (d : Account) (cg : c.given ≡ given) (h : HereReading given group m r c f) (l : IsReading (subject given.op) (bricks_of given) r c f)
    (o : IsRound (subject given.op) c f d) (idle : IsIdle d) where
  between : (k : ℕ) → 5 ≤ k → AreBetween k f
  between k le x q e =
      let w = (l.asks x q e).4 in
      let same : rank q ≡ 4 = ap rank w in
      (omega (arith, same), omega (arith, same, le))

  pub reading_members : (k : ℕ) → 5 ≤ k → m ≤ k → HasMembers given group k d
  reading_members k le more = members_over given group m k c f d h.members o idle more (between k le)

  -- What a brick replied in this round: it was asked and this is the reply, or it wasn't asked.
  record Heard (x : ℕ) : Type 0 where
    pub read : is_first (last_read (at d (subject given.op) x).window) r.first ≡ tried (is_read_from r.first) (at d (subject given.op) x).window
    pub reply : tried (is_read_from r.first) (at d (subject given.op) x).window ≡ true → last_reply (at d (subject given.op) x).window ≡ reply_to (is_read_from r.first) (at d (subject given.op) x).window
    pub asked : tried (is_read_from r.first) (at d (subject given.op) x).window ≡ true → (is_in r.among x ≡ true) × (x < bricks_of given)
    pub sent : (f x ≡ None → ⊥) → tried (is_read_from r.first) (at d (subject given.op) x).window ≡ true

  heard_at : (x : ℕ) → Heard x
  heard_at x = by (f x) refl
    where
      both_ways : (t : Bool) → t ≡ false → t ≡ true → ⊥
      both_ways t e f = absurd (let v = sym e ∙ f in cc)

      by : (a : Option Request) → f x ≡ a → Heard x
      by None e =
          let same : (at d (subject given.op) x).window ≡ (at c (subject given.op) x).window = subst (λ (a : Option Request). IsOver a (at c (subject given.op) x).window (at d (subject given.op) x).window) e (over_at (subject given.op) c f d o idle x) in
          let none : tried (is_read_from r.first) (at d (subject given.op) x).window ≡ false = ap (tried (is_read_from r.first)) same ∙ h.unread x in
          record {
            read = none_first r.first (at d (subject given.op) x).window none ∙ sym none;
            reply = λ t. absurd (both_ways (tried (is_read_from r.first) (at d (subject given.op) x).window) none t);
            asked = λ t. absurd (both_ways (tried (is_read_from r.first) (at d (subject given.op) x).window) none t);
            sent = λ n. absurd (n e);
          }
      by (Some q) e =
          let w : IsOver (Some q) (at c (subject given.op) x).window (at d (subject given.op) x).window = subst (λ (a : Option Request). IsOver a (at c (subject given.op) x).window (at d (subject given.op) x).window) e (over_at (subject given.op) c f d o idle x) in
          let a = l.asks x q e in
          let t = eq-eqb r.first r.first refl in
          let passes : is_read_from r.first q ≡ true = ap (is_read_from r.first) a.4 ∙ t in
          record {
            read = ap (λ (es : List Exchange). is_first (last_read es) r.first) w.2 ∙ (ap (λ (s : Request). is_first (read_of s) r.first) a.4 ∙ (t ∙ sym (ap (tried (is_read_from r.first)) w.2 ∙ rw passes refl)));
            reply = λ u. ap last_reply w.2 ∙ sym (ap (reply_to (is_read_from r.first)) w.2 ∙ rw passes refl);
            asked = λ u. (h.among x q e, a.0);
            sent = λ n. ap (tried (is_read_from r.first)) w.2 ∙ rw passes refl;
          }

  module _ (has : Option Reply → Bool) (nothing : has None ≡ false) where
    -- a brick of the set gave its chunks in this round exactly where it replied chunks to the request for them
    pub gave_at : (x : ℕ) → (is_first (last_read (at d (subject given.op) x).window) r.first && has (last_reply (at d (subject given.op) x).window)) ≡ has (reply_to (is_read_from r.first) (at d (subject given.op) x).window)
    gave_at x = by (tried (is_read_from r.first) (at d (subject given.op) x).window) refl
      where
        by : (t : Bool) → tried (is_read_from r.first) (at d (subject given.op) x).window ≡ t
            → (is_first (last_read (at d (subject given.op) x).window) r.first && has (last_reply (at d (subject given.op) x).window)) ≡ has (reply_to (is_read_from r.first) (at d (subject given.op) x).window)
        by true t = let k = heard_at x in let u = k.read ∙ t in rw u (ap has (k.reply t))
        by false t = let k = heard_at x in let u = k.read ∙ t in rw u (sym (ap has (none_reply (is_read_from r.first) (at d (subject given.op) x).window t) ∙ nothing))

    only_among : (x : ℕ) → has (reply_to (is_read_from r.first) (at d (subject given.op) x).window) ≡ true → (is_in r.among x ≡ true) × (x < bricks_of given)
    only_among x t = by (tried (is_read_from r.first) (at d (subject given.op) x).window) refl
      where
        none : has (reply_to (is_read_from r.first) (at d (subject given.op) x).window) ≡ false → ⊥
        none e = both (has (reply_to (is_read_from r.first) (at d (subject given.op) x).window)) t e
          where
            both : (u : Bool) → u ≡ true → u ≡ false → ⊥
            both u e f = absurd (let v = sym e ∙ f in cc)

        by : (u : Bool) → tried (is_read_from r.first) (at d (subject given.op) x).window ≡ u → (is_in r.among x ≡ true) × (x < bricks_of given)
        by true u = (heard_at x).asked u
        by false u = absurd (none (ap has (none_reply (is_read_from r.first) (at d (subject given.op) x).window u) ∙ nothing))

    and_either : (a b t : Bool) → (t ≡ true → a ≡ true) → (t ≡ true → b ≡ true) → (a && t) ≡ (b && t)
    and_either a b true f g = rw (f refl, g refl) refl
    and_either true true false f g = refl
    and_either true false false f g = refl
    and_either false true false f g = refl
    and_either false false false f g = refl

    -- so many gave them as the phase counts
    pub count_gave : ((x : ℕ) → x < bricks_of given → is_in r.among x ≡ true → is_grouped given (λ y. (at d (subject given.op) y).window) x ≡ true)
        → count_below 31 (λ x. is_in r.among x && has (reply_to (is_read_from r.first) (at d (subject given.op) x).window)) ≡ count_below (bricks_of given) (λ x. is_grouped given (λ y. (at d (subject given.op) y).window) x && has (reply_to (is_read_from r.first) (at d (subject given.op) x).window))
    count_gave grouped =
        count_within 31 (bricks_of given) (λ x. is_in r.among x && has (reply_to (is_read_from r.first) (at d (subject given.op) x).window)) (let w = given.geometry.bricks in omega arith) past
        ∙ same_count (bricks_of given) (λ x. is_in r.among x && has (reply_to (is_read_from r.first) (at d (subject given.op) x).window)) (λ x. is_grouped given (λ y. (at d (subject given.op) y).window) x && has (reply_to (is_read_from r.first) (at d (subject given.op) x).window))
        (λ x less. and_either (is_in r.among x) (is_grouped given (λ y. (at d (subject given.op) y).window) x) (has (reply_to (is_read_from r.first) (at d (subject given.op) x).window)) (λ t. (only_among x t).0) (λ t. grouped x less (only_among x t).0))
      where
        past : (x : ℕ) → bricks_of given ≤ x → (is_in r.among x && has (reply_to (is_read_from r.first) (at d (subject given.op) x).window)) ≡ false
        past x le = by (has (reply_to (is_read_from r.first) (at d (subject given.op) x).window)) refl
          where
            by : (t : Bool) → has (reply_to (is_read_from r.first) (at d (subject given.op) x).window) ≡ t → (is_in r.among x && has (reply_to (is_read_from r.first) (at d (subject given.op) x).window)) ≡ false
            by true t = absurd (let w = (only_among x t).1 in omega (arith, w, le))
            by false t = rw t (and_false (is_in r.among x))
              where
                and_false : (a : Bool) → (a && false) ≡ false
                and_false true = refl
                and_false false = refl

  -- ## No brick is left

  lock_asks : (inode : Option Lock) → is_held inode ≡ true → asked_if true inode (chunks_of (subject given.op) r) ≡ None → ⊥
  lock_asks None t e = absurd (let v : false ≡ true = t in cc)
  lock_asks (Some lock) t e = absurd (let v : Some (chunks_of (subject given.op) r lock.number) ≡ None = rw t at e in cc)

  pub none_left : (wants : count_below 31 (λ x. is_in r.among x && has_chunks (reply_to (is_read_from r.first) (at d (subject given.op) x).window)) < quorum_of given)
      → ((y : ℕ) → y < 31 → is_in r.among y ≡ true → (y < bricks_of given) × (is_held (at d (subject given.op) y).inode ≡ true))
      → ((y : ℕ) → y < bricks_of given → asked_if (is_chosen (quorum_of given) r (places_of d (subject given.op)) (replied d (subject given.op)) y && nat_lt y (bricks_of given)) (at d (subject given.op) y).inode (chunks_of (subject given.op) r) ≡ None)
      → (x : ℕ) → x < bricks_of given → is_in r.among x ≡ true → (tried (is_read_from r.first) (at d (subject given.op) x).window ≡ true) ⊎ (failed_none is_any (at d (subject given.op) x).window ≡ false)
  none_left wants held quiet x less t = by (is_left r (places_of d (subject given.op)) x) refl
    where
      some_wanted : 0 < count_wanted (quorum_of given) r (places_of d (subject given.op)) (replied d (subject given.op))
      some_wanted =
          let same : count_below 31 (is_counted r (places_of d (subject given.op)) (replied d (subject given.op))) ≡ count_below 31 (λ y. is_in r.among y && has_chunks (reply_to (is_read_from r.first) (at d (subject given.op) y).window)) = ap (count_below 31) (fun_ext (λ y. counted y)) in
          omega (arith, same, wants)
        where
          counted : (y : ℕ) → is_counted r (places_of d (subject given.op)) (replied d (subject given.op)) y ≡ (is_in r.among y && has_chunks (reply_to (is_read_from r.first) (at d (subject given.op) y).window))
          counted y = let e = idle y in rw e (ap (λ (u : Bool). is_in r.among y && u) (gave_at has_chunks refl y))

      left_parts : (a b c : Bool) → ((a && not b) && not c) ≡ false → a ≡ true → (b ≡ true) ⊎ (c ≡ true)
      left_parts true true c e f = inl refl
      left_parts true false true e f = inr refl
      left_parts true false false e f = absurd (cc)
      left_parts false b c e f = absurd (cc)

      not_false : (u : Bool) → not u ≡ true → u ≡ false
      not_false true e = sym e
      not_false false e = refl

      by : (u : Bool) → is_left r (places_of d (subject given.op)) x ≡ u → (tried (is_read_from r.first) (at d (subject given.op) x).window ≡ true) ⊎ (failed_none is_any (at d (subject given.op) x).window ≡ false)
      by true u =
          let w = chosen r.start (count_wanted (quorum_of given) r (places_of d (subject given.op)) (replied d (subject given.op))) (is_left r (places_of d (subject given.op))) x h.start (let n = given.geometry.bricks in omega (arith, less, n)) some_wanted u in
          let left = (and_parts (is_left r (places_of d (subject given.op)) w.0) (nat_lt (count_before r.start (is_left r (places_of d (subject given.op))) w.0) (count_wanted (quorum_of given) r (places_of d (subject given.op)) (replied d (subject given.op)))) w.2).0 in
          let among = (and_parts (is_in r.among w.0) (not (is_tried r.first (places_of d (subject given.op) w.0))) (and_parts (is_in r.among w.0 && not (is_tried r.first (places_of d (subject given.op) w.0))) (not (places_of d (subject given.op) w.0).failed) left).0).0 in
          let k = held w.0 w.1 among in
          let l : nat_lt w.0 (bricks_of given) ≡ true = (let m = k.0 in grind (arith, nat_tests)) in
          let so = w.2 in
          absurd (lock_asks (at d (subject given.op) w.0).inode k.1 (rw (so, l) at (quiet w.0 k.0)))
      by false u = ⊎_elim
          (λ v. inl (sym (heard_at x).read ∙ (let e = idle x in rw e at v)))
          (λ v. inr (not_false (failed_none is_any (at d (subject given.op) x).window) v))
          (left_parts (is_in r.among x) (is_tried r.first (places_of d (subject given.op) x)) (places_of d (subject given.op) x).failed u t)
