-- A stage that reads chunks begins with a brick that it asks, where one of its set did all it was asked.
use Rattle.std.proofs.Common.{◌≡◌, ℕ, ◌<◌, ◌≤◌, ◌&&◌, ◌||◌, not, nat_lt, is_some, Bool, true, false, refl, sym, ◌∙◌, ap, subst, arith, List, [], ◌∷◌, Option, Some, None}
use Rattle.std.proofs.lemmas.Bool.{and_parts}
use Rattle.ec_answers.specs.declared.grouped.Group.{Group}
use Rattle.ec_answers.proofs.Counting.{count_of_none}
use Rattle.ec_attr.specs.Bricks.{count_below, is_in}
use Rattle.ec_conduct.specs.Account.{Account, Exchange, at}
use Rattle.ec_conduct.specs.Done.{failed_none, is_any, is_done, tried}
use Rattle.ec_conduct.specs.Given.{Given, bricks_of, quorum_of}
use Rattle.ec_conduct.specs.Phases.{is_read_from}
use Rattle.ec_conduct.specs.Standing.{is_held}
use Rattle.ec_wire.specs.declared.reply.Reply.{Reply}
use Rattle.ec_wire.specs.declared.reply.Reply.TheVariants.{Chunks}
use Rattle.ec_wire.specs.declared.request.Request.{Request}
use Rattle.ec_wire.specs.declared.request.Request.TheVariants.{ReadChunks}
use Rattle.ec_txn.specs.Ballot.{count_serving, serving}
use Rattle.ec_txn.specs.Digest.{last_read, read_of}
use Rattle.ec_txn.specs.Fetching.{under}
use Rattle.ec_txn.specs.ReadPhase.{asked_if, chunks_of, count_before, count_wanted, has_chunks, is_chosen, is_counted, is_first, is_left, is_tried, places_of, reading_asks}
use Rattle.ec_txn.specs.Replies.{last_reply, replied}
use Rattle.ec_txn.specs.Rounds.{Asks, IsIdle, IsRound, IsUnlocked, subject, where_so}
use Rattle.ec_txn.specs.declared.ctx.Ctx.{Ctx}
use Rattle.ec_txn.specs.declared.reading.Reading.{Reading}
use Rattle.ec_txn.proofs.Ballots.{serving_is}
use Rattle.ec_write.specs.During.{IsReadingOne}
use Rattle.ec_write.specs.Stripes.{count_gave, gave, has_chunk}
use Rattle.ec_write.specs.Write.{read_asks}
use Rattle.ec_law_causes.specs.Counted.{is_grouped}
use Rattle.ec_law_causes.proofs.Along.{NonePast, windows}
use Rattle.ec_law_causes.proofs.Members.{grouped_below}
use Rattle.ec_law_causes.proofs.Openings.{held_unlocked}
use Rattle.ec_law_causes.proofs.Ranks.{rank}
use Rattle.ec_law_causes.proofs.Reading.{HereReading}
use Rattle.ec_law_causes.proofs.Rounds.{IsOver, over_at}
use Rattle.ec_law_causes.proofs.Walking.{chosen, some_below}
use Rattle.ec_law_settled.proofs.Waking.{Someone}
use Rattle.ec_law_settled.proofs.WakingMembers.{asked_where, both, less}
use Rattle.ec_law_settled.proofs.WakingNames.{held_fetched}
use Rattle.ec_law_settled.proofs.WakingOpenings.{when}
use Rattle.ec_law_settled.proofs.WakingServes.{Serves, serves_count, serves_on}

-- no chunks were read of this stripe before
none_first : (first : ℕ) (es : List Exchange) → tried (is_read_from first) es ≡ false → is_first (last_read es) first ≡ false
none_first first [] e = refl
none_first first (k ∷ es) e = by k.request (first_false (is_read_from first k.request) (tried (is_read_from first) es) e)
  where
    first_false : (a b : Bool) → (a || b) ≡ false → a ≡ false
    first_false true b e = e
    first_false false b e = refl

    by : (q : Request) → is_read_from first q ≡ false → is_first (read_of q) first ≡ false
    by (ReadChunks g grant from count) e = e
    by q e = refl

and_false : (a : Bool) → (a && false) ≡ false
and_false true = refl
and_false false = refl

-- who serves failed in nothing
serves_whole : (given : Given) (d : Account) (y : ℕ) → Serves given d y → failed_none is_any (at d (subject given.op) y).window ≡ true
serves_whole given d y s = by (serving (at d (subject given.op) y)) refl s
  where
    by : (o : Option ℕ) → serving (at d (subject given.op) y) ≡ o → is_some o ≡ true → failed_none is_any (at d (subject given.op) y).window ≡ true
    by None e t = absurd (cc)
    by (Some i) e t = (serving_is (at d (subject given.op) y) i e).0

-- The stage begins at e, by what was known at d. Its set is of bricks of the group.
module _ (given : Given) (group : Group) (m : ℕ) (reading : Reading) (d e : Account) (f : Asks) (dg : d.given ≡ given) (idle : IsIdle d) (none : NonePast (subject given.op) (bricks_of given) d) (u : IsUnlocked (subject given.op) d e) (h : HereReading given group m reading e f)
    (within : (y : ℕ) → y < 31 → is_in reading.among y ≡ true → is_in group.bricks y ≡ true) where
  grouped : (y : ℕ) → y < 31 → is_in reading.among y ≡ true → is_grouped given (windows given e) y ≡ true
  grouped y lt t = h.members.group_is.bricks y ∙ within y lt t

  below : (y : ℕ) → y < 31 → is_in reading.among y ≡ true → y < bricks_of given
  below y lt t = grouped_below given (windows given e) y (λ z le. u.window z ∙ (none z le).1) (grouped y lt t)

  held : (y : ℕ) → y < 31 → is_in reading.among y ≡ true → is_held (at d (subject given.op) y).inode ≡ true
  held y lt t = sym (held_unlocked (subject given.op) d e u y) ∙ h.members.locked y (within y lt t)

  unread : (y : ℕ) → is_first (last_read (windows given d y)) reading.first ≡ false
  unread y = ap (λ (es : List Exchange). is_first (last_read es) reading.first) (sym (u.window y)) ∙ none_first reading.first (windows given e y) (h.unread y)

  wanted : 0 < count_wanted (quorum_of given) reading (places_of d (subject given.op)) (replied d (subject given.op))
  wanted =
      let zero : count_below 31 (is_counted reading (places_of d (subject given.op)) (replied d (subject given.op))) ≡ 0 = count_of_none 31 (is_counted reading (places_of d (subject given.op)) (replied d (subject given.op))) (λ y. let w = idle y in let n = unread y in rw (w, n) (and_false (is_in reading.among y))) in
      let g = given.geometry.majority in
      omega (arith, zero, g)

  left : (y : ℕ) → is_in reading.among y ≡ true → Serves given d y → is_left reading (places_of d (subject given.op)) y ≡ true
  left y t s = let w = idle y in let n = unread y in let k = serves_whole given d y s in rw (t, w, n, k) refl

  abbrev asks_by : Given → Asks
  asks_by v y = asked_if (is_chosen (quorum_of v) reading (places_of d (subject v.op)) (replied d (subject v.op)) y && nat_lt y (bricks_of v)) (at d (subject v.op) y).inode (chunks_of (subject v.op) reading)

  pub reading_someone : (y : ℕ) → y < 31 → is_in reading.among y ≡ true → Serves given d y → Someone given (reading_asks reading d)
  reading_someone y lt t s = subst (λ (v : Given). Someone given (asks_by v)) (sym dg) (
      let w = chosen reading.start (count_wanted (quorum_of given) reading (places_of d (subject given.op)) (replied d (subject given.op))) (is_left reading (places_of d (subject given.op))) y h.start lt wanted (left y t s) in
      let l = (and_parts (is_left reading (places_of d (subject given.op)) w.0) (nat_lt (count_before reading.start (is_left reading (places_of d (subject given.op))) w.0) (count_wanted (quorum_of given) reading (places_of d (subject given.op)) (replied d (subject given.op)))) w.2).0 in
      let among = (and_parts (is_in reading.among w.0) (not (is_tried reading.first (places_of d (subject given.op) w.0))) (and_parts (is_in reading.among w.0 && not (is_tried reading.first (places_of d (subject given.op) w.0))) (not (places_of d (subject given.op) w.0).failed) l).0).0 in
      let lt' : w.0 < bricks_of given = below w.0 w.1 among in (
        w.0,
        lt',
        asked_where (is_chosen (quorum_of given) reading (places_of d (subject given.op)) (replied d (subject given.op)) w.0) (nat_lt w.0 (bricks_of given)) (under (at d (subject given.op) w.0).inode (chunks_of (subject given.op) reading)) w.2 (less w.0 (bricks_of given) lt')
            (held_fetched (at d (subject given.op) w.0).inode (chunks_of (subject given.op) reading) (held w.0 w.1 among)),
      )
      )

-- ## A stripe was read

chunk_done : (o : Option Reply) → has_chunk o ≡ true → is_done o ≡ true
chunk_done (Some (Chunks chunks)) e = refl
chunk_done o e = absurd (let v : false ≡ true = e in cc)

-- a brick that gave its chunk serves
pub record Gave (given : Given) (group : Group) (d : Account) : Type 0 where
  pub brick : ℕ
  pub below : brick < bricks_of given
  pub grouped : is_in group.bricks brick ≡ true
  pub serves : Serves given d brick

-- one of a quorum that serves
pub quorum_gave : (given : Given) (group : Group) (d : Account) → d.given ≡ given → quorum_of d.given ≤ count_serving d group → Gave given group d
quorum_gave given group d dg le =
    let y = some_below (bricks_of d.given) (λ x. is_in group.bricks x && is_some (serving (at d (subject d.given.op) x))) (let m = d.given.geometry.majority in omega (arith, le, m)) in
    let t = both (is_in group.bricks y.0) (is_some (serving (at d (subject d.given.op) y.0))) y.2 in
    let lt : y.0 < bricks_of d.given = y.1 in
    record {
      brick = y.0;
      below = subst (λ (v : Given). y.0 < bricks_of v) dg lt;
      grouped = t.0;
      serves = subst (λ (v : Given). is_some (serving (at d (subject v.op) y.0)) ≡ true) dg t.1;
    }

pub gave_count : (given : Given) (group : Group) (d : Account) → d.given ≡ given → Gave given group d → 0 < count_serving d group
gave_count given group d dg w = serves_count given group d dg w.brick w.below w.grouped w.serves

-- what is asked where that is to be asked
pub where_someone : (given : Given) (t : Bool) (f : Asks) → t ≡ true → Someone given f → Someone given (where_so t f)
where_someone given t f e s = (s.0, s.1, when t (f s.0) e s.2)

-- of the whole group a stripe is read
pub stripe_someone : (given : Given) (group : Group) (m : ℕ) (reading : Reading) (d e : Account) (f : Asks) → d.given ≡ given → IsIdle d → NonePast (subject given.op) (bricks_of given) d → IsUnlocked (subject given.op) d e → HereReading given group m reading e f
    → reading.among ≡ group.bricks → Gave given group d → Someone given (read_asks reading d)
stripe_someone given group m reading d e f dg idle none u h among w = where_someone given (nat_lt reading.start 31) (reading_asks reading d) (less reading.start 31 h.start)
    (reading_someone given group m reading d e f dg idle none u h (λ y lt t. ap (λ (bits : ℕ). is_in bits y) (sym among) ∙ t) w.brick (let b = given.geometry.bricks in let l = w.below in omega (arith, b, l)) (ap (λ (bits : ℕ). is_in bits w.brick) among ∙ w.grouped) w.serves)

pub reads_serve : (x : Ctx) (given : Given) (group : Group) (reading : Reading) (c : Account) (f : Asks) (d : Account) → IsReadingOne x given c group reading f → IsRound (subject given.op) c f d → IsIdle d
    → quorum_of given ≤ count_gave reading (places_of d (subject given.op)) (replied d (subject given.op)) → Gave given group d
reads_serve x given group reading c f d one r idle enough = by (f y.0) refl
  where
    y : (y : ℕ) × (y < 31) × (gave reading (places_of d (subject given.op)) (replied d (subject given.op)) y ≡ true)
    y = some_below 31 (gave reading (places_of d (subject given.op)) (replied d (subject given.op))) (let m = given.geometry.majority in omega (arith, enough, m))

    parts : (a b c d : Bool) → ((a && (b && c)) && d) ≡ true → (b ≡ true) × (d ≡ true)
    parts true true true true e = (refl, refl)
    parts true true true false e = absurd (cc)
    parts true true false d e = absurd (cc)
    parts true false c d e = absurd (cc)
    parts false b c d e = absurd (cc)

    told : (is_first (last_read (windows given d y.0)) reading.first ≡ true) × (has_chunk (last_reply (windows given d y.0)) ≡ true)
    told = parts (is_in reading.among y.0) (is_first (last_read (windows given d y.0)) reading.first) (has_chunks (last_reply (windows given d y.0))) (has_chunk (last_reply (windows given d y.0))) y.2

    both_ways : (t : Bool) → t ≡ false → t ≡ true → ⊥
    both_ways t e f = absurd (let v = sym e ∙ f in cc)

    by : (o : Option Request) → f y.0 ≡ o → Gave given group d
    by None e =
        let same : windows given d y.0 ≡ windows given c y.0 = subst (λ (a : Option Request). IsOver a (windows given c y.0) (windows given d y.0)) e (over_at (subject given.op) c f d r idle y.0) in
        absurd (both_ways (is_first (last_read (windows given d y.0)) reading.first) (ap (λ (es : List Exchange). is_first (last_read es) reading.first) same ∙ none_first reading.first (windows given c y.0) (one.unread y.0 reading.first (omega arith))) told.0)
    by (Some q) e =
        let a = one.asks.asks y.0 q e in
        let k : rank q ≡ 4 = ap rank a.4 in
        let w = one.serves y.0 q e in
        record {
          brick = y.0;
          below = a.0;
          grouped = w.0;
          serves = serves_on given c f d y.0 q e (omega (arith, k)) r idle (ap is_some w.2) (chunk_done (last_reply (windows given d y.0)) told.1);
        }
