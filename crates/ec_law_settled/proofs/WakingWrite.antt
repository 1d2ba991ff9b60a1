-- A write waits for a brick in each stage.
use Rattle.std.proofs.Common.{◌≡◌, inl, inr, ℕ, ◌+◌, ◌^◌, ◌≤◌, ◌==◌, nat_le, nat_lt, Bool, true, false, cond, refl, sym, ◌∙◌, subst, arith, List, [], length, Option, Some, None}
use Rattle.std.proofs.lemmas.Bool.Decides.{nat_tests}
use Rattle.ec_answers.specs.declared.grouped.Group.{Group}
use Rattle.ec_answers.specs.declared.grouped.Grouped.{Grouped}
use Rattle.ec_answers.specs.declared.grouped.Grouped.TheVariants.{Group as Found, Gone, Fewer}
use Rattle.ec_attr.specs.declared.geometry.Geometry.{Geometry}
use Rattle.ec_attr.specs.declared.kind.Kind.{Kind}
use Rattle.ec_attr.specs.declared.kind.Kind.TheVariants.{File, Dir}
use Rattle.ec_attr.specs.declared.kind.LockKind.TheVariants.{Exclusive}
use Rattle.ec_conduct.specs.Account.{Account}
use Rattle.ec_conduct.specs.Ballots.{attr_after, size_after}
use Rattle.ec_conduct.specs.Given.{Given, bricks_of, quorum, quorum_of}
use Rattle.ec_txn.specs.Ballot.{ballot_asks, ballot_request, count_serving, is_within}
use Rattle.ec_txn.specs.Opening.{InOpening}
use Rattle.ec_txn.specs.ReadPhase.{places_of}
use Rattle.ec_txn.specs.Replies.{replied}
use Rattle.ec_txn.specs.Rounds.{Asks, IsIdle, IsRound, IsUnlocked, subject}
use Rattle.ec_txn.specs.Tables.{IsIn}
use Rattle.ec_txn.specs.declared.ballot.Ballot.{Ballot}
use Rattle.ec_txn.specs.declared.ballot.Ballot.TheVariants.{Pre, Post, Clear}
use Rattle.ec_txn.specs.declared.ctx.Ctx.{Ctx}
use Rattle.ec_txn.specs.declared.opening.Opening.TheVariants.{Lock as Locking, Query}
use Rattle.ec_txn.specs.declared.reading.Reading.{Reading}
use Rattle.ec_txn.specs.declared.stage.Next.TheVariants.{Go, Say}
use Rattle.ec_wire.specs.declared.answer.Answer.TheVariants.{IsDir, Limit, NoQuorum, NoSuch, Size}
use Rattle.ec_wire.specs.declared.op.Op.{Op}
use Rattle.ec_wire.specs.declared.phase.Phase.TheVariants.{Pre as PrePhase, Post as PostPhase, Query as QueryPhase, Read as ReadPhase, Write as WritePhase}
use Rattle.ec_write.specs.During.{DuringWrite, InWrite, IsReadingOf, IsSized}
use Rattle.ec_write.specs.Range.{data_of, first_stripe, off_of}
use Rattle.ec_write.specs.Stripes.{count_gave, list_at}
use Rattle.ec_write.specs.Write.{AfterRead, GoesOn, ReadEnds, WriteFollows, WriteJudges, asks_of, first_of, is_short, judged as judged_by, reading_of, says_size, second_of, write_request, write_table}
use Rattle.ec_write.specs.declared.stage.WriteStage.{WriteStage}
use Rattle.ec_write.specs.declared.stage.WriteStage.TheVariants.{Opens as OpensAt, Votes, Reads, Writes}
use Rattle.ec_law_causes.proofs.Along.{NonePast, windows}
use Rattle.ec_law_causes.proofs.OpeningSteps.{go_same, go_say, go_when, queried}
use Rattle.ec_law_causes.proofs.Openings.{HereOpening}
use Rattle.ec_law_causes.proofs.Queried.{JudgedIn, judged}
use Rattle.ec_law_causes.proofs.Write.{HereWrite, starts_go}
use Rattle.ec_law_settled.proofs.Waking.{Someone, Wakes}
use Rattle.ec_law_settled.proofs.WakingMembers.{if_goes, members_someone, quorum_someone}
use Rattle.ec_law_settled.proofs.WakingOpenings.{NoMore, first_someone, lock_someone}
use Rattle.ec_law_settled.proofs.WakingReading.{Gave, gave_count, quorum_gave, reads_serve, stripe_someone, where_someone}
use Rattle.ec_law_settled.proofs.WakingServes.{group_count}

judged_go : (kind : Kind) (op : Op) (group : Group) (q : WriteStage) → Go q ≡ judged_by kind op group → (is_within group.head ≡ true) × (q ≡ Votes (Pre group))
judged_go Dir op group q e = absurd (go_say q IsDir e)
judged_go File op group q e = by (nat_lt 0 (length (data_of op))) e
  where
    by : (a : Bool) → Go q ≡ cond a (cond (is_within group.head) (Go (Votes (Pre group))) (Say (Limit group.head.version.content))) (Say (Size group.head.size)) → (is_within group.head ≡ true) × (q ≡ Votes (Pre group))
    by true e = go_when (is_within group.head) (Votes (Pre group)) q (Limit group.head.version.content) e
    by false e = absurd (go_say q (Size group.head.size) e)

short_is : (op : Op) → off_of op + length (data_of op) ≤ 2 ^ 40 → is_short op ≡ true
short_is op le = grind (arith, nat_tests)

module _ (x : Ctx) (given : Given) (c : Account) (f : Asks) (d e : Account) (isin : IsIn x given c) (none : NonePast (subject given.op) (bricks_of given) d) (r : IsRound (subject given.op) c f d) (idle : IsIdle d) (u : IsUnlocked (subject given.op) d e) where
  dg : d.given ≡ given
  dg = r.given ∙ isin.given_is

  short : IsSized c.given.op → is_short d.given.op ≡ true
  short sized = short_is d.given.op (subst (λ (v : Given). off_of v.op + length (data_of v.op) ≤ 2 ^ 40) (sym r.given) sized.1)

  -- a stage of the ballot
  ballot_someone : (stage : Ballot) (group : Group) → Someone given (ballot_asks stage d) → IsSized c.given.op → Someone given (asks_of (Votes stage) d)
  ballot_someone stage group some sized = where_someone given (is_short d.given.op) (ballot_asks stage d) (short sized) some

  query_someone : (q : WriteStage) (grouped : Grouped) → IsSized c.given.op → HereOpening Exclusive given Query c f → InOpening Exclusive Query c f → JudgedIn given (windows given d) (λ answer. ⊥) grouped → WriteJudges d grouped (Go q) → Someone given (asks_of q d)
  query_someone q (Found group) sized here l h is =
      let w = judged_go group.head.kind d.given.op group q is in
      subst (λ (z : WriteStage). Someone given (asks_of z d)) (sym w.1) (ballot_someone (Pre group) group
      (members_someone given group (λ y. ballot_request (subject d.given.op) (size_after d.given.op group.head.size) (attr_after d.given.op) (Pre group)) d dg w.0 (group_count Exclusive given c f d isin.given_is l here r idle none group h dg)) sized)
  query_someone q (Gone bricks) sized here l h is = absurd (go_say q NoSuch is)
  query_someone q (Fewer most) sized here l h is = absurd (go_say q (NoQuorum QueryPhase most) is)

  -- a stripe is read, or the new ones are written
  on_someone : (geometry : Geometry) (op : Op) (group : Group) (front back : List (List ℕ)) (o : Option ℕ) (q : WriteStage) → is_within group.head ≡ true → Gave given group d → HereWrite x given q e (asks_of q d) → GoesOn x geometry op group front back o (Go q) → Someone given (asks_of q d)
  on_someone geometry op group front back None q within some new (lists, coded, is) = subst (λ (z : WriteStage). Someone given (asks_of z d)) (sym (go_same q (Writes group lists) is))
      (members_someone given group (λ y. write_request (subject d.given.op) (first_stripe (quorum_of d.given) (off_of d.given.op)) (list_at lists y)) d dg within (gave_count given group d dg some))
  on_someone geometry op group front back (Some stripe) q within some new is =
      let same = go_same q (Reads group (reading_of x (subject op) group stripe) front) is in
      let h : HereWrite x given (Reads group (reading_of x (subject op) group stripe) front) e (asks_of (Reads group (reading_of x (subject op) group stripe) front) d) = subst (λ (z : WriteStage). HereWrite x given z e (asks_of z d)) same new in
      subst (λ (z : WriteStage). Someone given (asks_of z d)) (sym same) (stripe_someone given group 5 (reading_of x (subject op) group stripe) d e _ dg idle none u h.one refl some)

  -- a stripe was read
  reads_someone : (group : Group) (reading : Reading) (front : List (List ℕ)) (q : WriteStage) → HereWrite x given (Reads group reading front) c f → InWrite x (Reads group reading front) c f → HereWrite x given q e (asks_of q d) → WriteFollows x (Reads group reading front) d (Go q) → Someone given (asks_of q d)
  reads_someone group reading front q here l new follows = by (subst (λ (v : Given). ReadEnds x v.geometry v.op group reading front (places_of d (subject v.op)) (replied d (subject v.op)) (Go q)) dg follows)
    where
      during : IsReadingOf x given c group reading front f
      during = subst (λ (v : Given). IsReadingOf x v c group reading front f) isin.given_is l

      after : (t : Bool) (stripe : List (List ℕ)) → Gave given group d → AfterRead t x given.geometry given.op group front stripe (Go q) → Someone given (asks_of q d)
      after true stripe some is = on_someone given.geometry given.op group stripe [] (second_of given.geometry given.op group) q here.within some new is
      after false stripe some is = on_someone given.geometry given.op group front stripe None q here.within some new is

      by : ReadEnds x given.geometry given.op group reading front (places_of d (subject given.op)) (replied d (subject given.op)) (Go q) → Someone given (asks_of q d)
      by (inl (few, is)) = absurd (go_say q (NoQuorum ReadPhase (count_gave reading (places_of d (subject given.op)) (replied d (subject given.op)))) is)
      by (inr (enough, stripe, decoded, is)) = after (reading.first == first_stripe (quorum given.geometry) (off_of given.op)) stripe (reads_serve x given group reading c f d during.one r idle enough) is

  writes_someone : (group : Group) (lists : List (List (List ℕ))) (q : WriteStage) → IsSized c.given.op → InWrite x (Writes group lists) c f → WriteFollows x (Writes group lists) d (Go q) → Someone given (asks_of q d)
  writes_someone group lists q sized l follows =
      let w = if_goes d group WritePhase (λ next. next ≡ Go (Votes (Post group))) q follows in
      subst (λ (z : WriteStage). Someone given (asks_of z d)) (sym (go_same q (Votes (Post group)) w.1)) (ballot_someone (Post group) group
      (quorum_someone given group (λ y. ballot_request (subject d.given.op) (size_after d.given.op group.head.size) (attr_after d.given.op) (Post group)) d dg l.1.between.within w.0) sized)

  -- the ballot
  votes_someone : (stage : Ballot) (q : WriteStage) → IsSized c.given.op → InWrite x (Votes stage) c f → HereWrite x given q e (asks_of q d) → WriteFollows x (Votes stage) d (Go q) → Someone given (asks_of q d)
  votes_someone (Pre group) q sized l new follows =
      let w = if_goes d group PrePhase (λ next. GoesOn x d.given.geometry d.given.op group [] [] (first_of d.given.geometry d.given.op group) next) q follows in
      on_someone d.given.geometry d.given.op group [] [] (first_of d.given.geometry d.given.op group) q l.0.within (quorum_gave given group d dg w.0) new w.1
  votes_someone (Post group) q sized l new follows =
      let w = if_goes d group PostPhase (λ next. next ≡ cond (nat_le (bricks_of d.given) (count_serving d group)) (Go (Votes (Clear group))) (Say (says_size d group))) q follows in
      subst (λ (z : WriteStage). Someone given (asks_of z d)) (sym (go_when (nat_le (bricks_of d.given) (count_serving d group)) (Votes (Clear group)) q (says_size d group) w.1).1) (ballot_someone (Clear group) group
      (quorum_someone given group (λ y. ballot_request (subject d.given.op) (size_after d.given.op group.head.size) (attr_after d.given.op) (Clear group)) d dg l.within w.0) sized)
  votes_someone (Clear group) q sized l new follows = absurd (go_say q (says_size d group) follows)

pub write_wakes : (x : Ctx) → Wakes x (write_table x) (DuringWrite x) (HereWrite x) NoMore
write_wakes x = record {
  begins = λ given q of s. first_someone OpensAt Exclusive WriteJudges asks_of NoMore (λ o c. refl) (λ v o c. tt) given q (starts_go given.op q s.1).2;
  goes = λ given p q c f d e isin none dur here more r idle follows u dur' here'. (go given p q c f d e isin none dur here r idle follows u here', tt);
}
  where
    go : (given : Given) (p q : WriteStage) (c : Account) (f : Asks) (d e : Account) → IsIn x given c → NonePast (subject given.op) (bricks_of given) d → DuringWrite x p c f → HereWrite x given p c f → IsRound (subject given.op) c f d → IsIdle d
        → WriteFollows x p d (Go q) → IsUnlocked (subject given.op) d e → HereWrite x given q e (asks_of q d) → Someone given (asks_of q d)
    go given (OpensAt (Locking brick)) q c f d e isin none dur here r idle follows u new = (lock_someone OpensAt Exclusive WriteJudges asks_of NoMore (λ o a. refl) (λ v o c. tt) given brick d e q (r.given ∙ isin.given_is) follows).0
    go given (OpensAt Query) q c f d e isin none dur here r idle (grouped, comes, is) u new =
        query_someone x given c f d e isin none r idle u q grouped dur.0 here.0 dur.1.0 (judged given d (r.given ∙ isin.given_is) (queried Exclusive given c f d isin.given_is dur.1.0 here.0 r idle none) (λ answer. ⊥) grouped comes) is
    go given (Votes stage) q c f d e isin none dur here r idle follows u new = votes_someone x given c f d e isin none r idle u stage q dur.0 dur.1 new follows
    go given (Reads group reading front) q c f d e isin none dur here r idle follows u new = reads_someone x given c f d e isin none r idle u group reading front q here dur.1 new follows
    go given (Writes group lists) q c f d e isin none dur here r idle follows u new = writes_someone x given c f d e isin none r idle u group lists q dur.0 dur.1 follows
