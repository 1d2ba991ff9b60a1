-- A truncate waits for a brick in each stage.
use Rattle.std.proofs.Common.{◌≡◌, inl, inr, ℕ, ◌^◌, ◌≤◌, ◌==◌, nat_le, nat_lt, Bool, true, false, cond, refl, sym, ◌∙◌, subst, List}
use Rattle.ec_answers.specs.declared.grouped.Group.{Group}
use Rattle.ec_answers.specs.declared.grouped.Grouped.{Grouped}
use Rattle.ec_answers.specs.declared.grouped.Grouped.TheVariants.{Group as Found, Gone, Fewer}
use Rattle.ec_attr.specs.declared.kind.Kind.{Kind}
use Rattle.ec_attr.specs.declared.kind.Kind.TheVariants.{File, Dir}
use Rattle.ec_attr.specs.declared.kind.LockKind.TheVariants.{Exclusive}
use Rattle.ec_conduct.specs.Account.{Account}
use Rattle.ec_conduct.specs.Ballots.{attr_after, size_after}
use Rattle.ec_conduct.specs.Changes.{stripes_of}
use Rattle.ec_conduct.specs.Given.{Given, bricks_of, quorum, quorum_of}
use Rattle.ec_txn.specs.Ballot.{ballot_request, count_serving, is_within}
use Rattle.ec_txn.specs.Opening.{InOpening}
use Rattle.ec_txn.specs.ReadPhase.{places_of}
use Rattle.ec_txn.specs.Replies.{replied}
use Rattle.ec_txn.specs.Rounds.{Asks, IsIdle, IsRound, IsUnlocked, subject}
use Rattle.ec_txn.specs.Tables.{IsIn}
use Rattle.ec_txn.specs.declared.ballot.Ballot.{Ballot}
use Rattle.ec_txn.specs.declared.ballot.Ballot.TheVariants.{Pre, Post, Clear}
use Rattle.ec_txn.specs.declared.ctx.Ctx.{Ctx}
use Rattle.ec_txn.specs.declared.opening.Opening.TheVariants.{Lock as Locking, Query}
use Rattle.ec_txn.specs.declared.reading.Reading.{Reading}
use Rattle.ec_txn.specs.declared.stage.Next.TheVariants.{Go, Say}
use Rattle.ec_wire.specs.declared.answer.Answer.TheVariants.{IsDir, Limit, NoQuorum, NoSuch, TooBig}
use Rattle.ec_wire.specs.declared.op.Op.{Op}
use Rattle.ec_wire.specs.declared.phase.Phase.TheVariants.{Pre as PrePhase, Post as PostPhase, Query as QueryPhase, Read as ReadPhase, Trim as TrimPhase, Write as WritePhase}
use Rattle.ec_write.specs.DuringTruncate.{DuringTruncate, InTruncate, IsTailRead}
use Rattle.ec_write.specs.Range.{first_stripe, head_of}
use Rattle.ec_write.specs.Stripes.{count_gave, list_at}
use Rattle.ec_write.specs.Truncate.{TailEnds, TruncateFollows, TruncateJudges, cut_request, low_of, says_to, to_of, trims_from, truncate_asks, truncate_judged, truncate_starts, truncate_table}
use Rattle.ec_write.specs.Write.{reading_of, write_request}
use Rattle.ec_write.specs.declared.stage.TruncateStage.{TruncateStage}
use Rattle.ec_write.specs.declared.stage.TruncateStage.TheVariants.{Cuts, Opens as OpensAt, Reads, Votes, Writes}
use Rattle.ec_law_causes.proofs.Along.{NonePast, windows}
use Rattle.ec_law_causes.proofs.OpeningSteps.{go_same, go_say, go_when, queried}
use Rattle.ec_law_causes.proofs.Openings.{HereOpening}
use Rattle.ec_law_causes.proofs.Queried.{JudgedIn, judged}
use Rattle.ec_law_causes.proofs.Truncate.{HereTruncate}
use Rattle.ec_law_settled.proofs.Waking.{Someone, Wakes}
use Rattle.ec_law_settled.proofs.WakingMembers.{if_goes, members_someone, quorum_someone}
use Rattle.ec_law_settled.proofs.WakingOpenings.{NoMore, first_someone, lock_someone}
use Rattle.ec_law_settled.proofs.WakingReading.{gave_count, quorum_gave, reads_serve, stripe_someone}
use Rattle.ec_law_settled.proofs.WakingServes.{group_count}

starts_go : (op : Op) (q : TruncateStage) → Go q ≡ truncate_starts op → q ≡ OpensAt (Locking 0)
starts_go op q e = by (nat_lt (2 ^ 40) (to_of op)) e
  where
    by : (t : Bool) → Go q ≡ cond t (Say (TooBig (to_of op))) (Go (OpensAt (Locking 0))) → q ≡ OpensAt (Locking 0)
    by true e = absurd (go_say q (TooBig (to_of op)) e)
    by false e = go_same q (OpensAt (Locking 0)) e

judged_go : (kind : Kind) (group : Group) (q : TruncateStage) → Go q ≡ truncate_judged kind group → (is_within group.head ≡ true) × (q ≡ Votes (Pre group))
judged_go Dir group q e = absurd (go_say q IsDir e)
judged_go File group q e = go_when (is_within group.head) (Votes (Pre group)) q (Limit group.head.version.content) e

module _ (x : Ctx) (given : Given) (c : Account) (f : Asks) (d e : Account) (isin : IsIn x given c) (none : NonePast (subject given.op) (bricks_of given) d) (r : IsRound (subject given.op) c f d) (idle : IsIdle d) (u : IsUnlocked (subject given.op) d e) where
  dg : d.given ≡ given
  dg = r.given ∙ isin.given_is

  query_someone : (q : TruncateStage) (grouped : Grouped) → HereOpening Exclusive given Query c f → InOpening Exclusive Query c f → JudgedIn given (windows given d) (λ answer. ⊥) grouped → TruncateJudges d grouped (Go q) → Someone given (truncate_asks q d)
  query_someone q (Found group) here l h is =
      let w = judged_go group.head.kind group q is in
      subst (λ (z : TruncateStage). Someone given (truncate_asks z d)) (sym w.1)
      (members_someone given group (λ y. ballot_request (subject d.given.op) (size_after d.given.op group.head.size) (attr_after d.given.op) (Pre group)) d dg w.0 (group_count Exclusive given c f d isin.given_is l here r idle none group h dg))
  query_someone q (Gone bricks) here l h is = absurd (go_say q NoSuch is)
  query_someone q (Fewer most) here l h is = absurd (go_say q (NoQuorum QueryPhase most) is)

  -- a quorum of the group is asked for the cut
  cuts_someone : (group : Group) → is_within group.head ≡ true → quorum_of d.given ≤ count_serving d group → Someone given (truncate_asks (Cuts group) d)
  cuts_someone group within enough = quorum_someone given group (λ y. cut_request (subject d.given.op) (stripes_of (quorum_of d.given) (low_of d.given.op group)) (stripes_of (quorum_of d.given) (to_of d.given.op))) d dg within enough

  -- the stripe of the lesser size is read, or the cut made at once
  trims_someone : (group : Group) (stripe : ℕ) (t : Bool) (q : TruncateStage) → is_within group.head ≡ true → quorum_of d.given ≤ count_serving d group → HereTruncate x given q e (truncate_asks q d) → Go q ≡ cond t (Go (Cuts group)) (Go (Reads group (reading_of x (subject d.given.op) group stripe))) → Someone given (truncate_asks q d)
  trims_someone group stripe true q within enough new is = subst (λ (z : TruncateStage). Someone given (truncate_asks z d)) (sym (go_same q (Cuts group) is)) (cuts_someone group within enough)
  trims_someone group stripe false q within enough new is =
      let same = go_same q (Reads group (reading_of x (subject d.given.op) group stripe)) is in
      let h : HereTruncate x given (Reads group (reading_of x (subject d.given.op) group stripe)) e (truncate_asks (Reads group (reading_of x (subject d.given.op) group stripe)) d) = subst (λ (z : TruncateStage). HereTruncate x given z e (truncate_asks z d)) same new in
      subst (λ (z : TruncateStage). Someone given (truncate_asks z d)) (sym same) (stripe_someone given group 5 (reading_of x (subject d.given.op) group stripe) d e _ dg idle none u h.one refl (quorum_gave given group d dg enough))

  -- the stripe was read
  reads_someone : (group : Group) (reading : Reading) (q : TruncateStage) → HereTruncate x given (Reads group reading) c f → InTruncate x (Reads group reading) c f → TruncateFollows x (Reads group reading) d (Go q) → Someone given (truncate_asks q d)
  reads_someone group reading q here l follows = by (subst (λ (v : Given). TailEnds v.geometry v.op group reading (places_of d (subject v.op)) (replied d (subject v.op)) (Go q)) dg follows)
    where
      during : IsTailRead x given c group reading f
      during = subst (λ (v : Given). IsTailRead x v c group reading f) isin.given_is l

      by : TailEnds given.geometry given.op group reading (places_of d (subject given.op)) (replied d (subject given.op)) (Go q) → Someone given (truncate_asks q d)
      by (inl (few, is)) = absurd (go_say q (NoQuorum ReadPhase (count_gave reading (places_of d (subject given.op)) (replied d (subject given.op)))) is)
      by (inr (enough, stripe, decoded, (lists, coded, is))) = subst (λ (z : TruncateStage). Someone given (truncate_asks z d)) (sym (go_same q (Writes group lists) is))
          (members_someone given group (λ y. write_request (subject d.given.op) (first_stripe (quorum_of d.given) (low_of d.given.op group)) (list_at lists y)) d dg here.within (gave_count given group d dg (reads_serve x given group reading c f d during.one r idle enough)))

  writes_someone : (group : Group) (lists : List (List (List ℕ))) (q : TruncateStage) → InTruncate x (Writes group lists) c f → TruncateFollows x (Writes group lists) d (Go q) → Someone given (truncate_asks q d)
  writes_someone group lists q l follows =
      let w = if_goes d group WritePhase (λ next. next ≡ Go (Cuts group)) q follows in
      subst (λ (z : TruncateStage). Someone given (truncate_asks z d)) (sym (go_same q (Cuts group) w.1)) (cuts_someone group l.written.between.within w.0)

  cut_someone : (group : Group) (q : TruncateStage) → InTruncate x (Cuts group) c f → TruncateFollows x (Cuts group) d (Go q) → Someone given (truncate_asks q d)
  cut_someone group q l follows =
      let w = if_goes d group TrimPhase (λ next. next ≡ Go (Votes (Post group))) q follows in
      subst (λ (z : TruncateStage). Someone given (truncate_asks z d)) (sym (go_same q (Votes (Post group)) w.1))
      (quorum_someone given group (λ y. ballot_request (subject d.given.op) (size_after d.given.op group.head.size) (attr_after d.given.op) (Post group)) d dg l.within w.0)

  -- the ballot
  votes_someone : (stage : Ballot) (q : TruncateStage) → InTruncate x (Votes stage) c f → HereTruncate x given q e (truncate_asks q d) → TruncateFollows x (Votes stage) d (Go q) → Someone given (truncate_asks q d)
  votes_someone (Pre group) q l new follows =
      let w = if_goes d group PrePhase (λ next. next ≡ trims_from x d.given.geometry d.given.op group) q follows in
      trims_someone group (first_stripe (quorum d.given.geometry) (low_of d.given.op group)) (head_of (quorum d.given.geometry) (low_of d.given.op group) == 0) q l.0.within w.0 new w.1
  votes_someone (Post group) q l new follows =
      let w = if_goes d group PostPhase (λ next. next ≡ cond (nat_le (bricks_of d.given) (count_serving d group)) (Go (Votes (Clear group))) (Say (says_to d group))) q follows in
      subst (λ (z : TruncateStage). Someone given (truncate_asks z d)) (sym (go_when (nat_le (bricks_of d.given) (count_serving d group)) (Votes (Clear group)) q (says_to d group) w.1).1)
      (quorum_someone given group (λ y. ballot_request (subject d.given.op) (size_after d.given.op group.head.size) (attr_after d.given.op) (Clear group)) d dg l.within w.0)
  votes_someone (Clear group) q l new follows = absurd (go_say q (says_to d group) follows)

pub truncate_wakes : (x : Ctx) → Wakes x (truncate_table x) (DuringTruncate x) (HereTruncate x) NoMore
truncate_wakes x = record {
  begins = λ given q of s. first_someone OpensAt Exclusive TruncateJudges truncate_asks NoMore (λ o c. refl) (λ v o c. tt) given q (starts_go given.op q s.1);
  goes = λ given p q c f d e isin none dur here more r idle follows u dur' here'. (go given p q c f d e isin none dur here r idle follows u here', tt);
}
  where
    go : (given : Given) (p q : TruncateStage) (c : Account) (f : Asks) (d e : Account) → IsIn x given c → NonePast (subject given.op) (bricks_of given) d → DuringTruncate x p c f → HereTruncate x given p c f → IsRound (subject given.op) c f d → IsIdle d
        → TruncateFollows x p d (Go q) → IsUnlocked (subject given.op) d e → HereTruncate x given q e (truncate_asks q d) → Someone given (truncate_asks q d)
    go given (OpensAt (Locking brick)) q c f d e isin none dur here r idle follows u new = (lock_someone OpensAt Exclusive TruncateJudges truncate_asks NoMore (λ o a. refl) (λ v o c. tt) given brick d e q (r.given ∙ isin.given_is) follows).0
    go given (OpensAt Query) q c f d e isin none dur here r idle (grouped, comes, is) u new =
        query_someone x given c f d e isin none r idle u q grouped here.0 dur.1.0 (judged given d (r.given ∙ isin.given_is) (queried Exclusive given c f d isin.given_is dur.1.0 here.0 r idle none) (λ answer. ⊥) grouped comes) is
    go given (Votes stage) q c f d e isin none dur here r idle follows u new = votes_someone x given c f d e isin none r idle u stage q dur.1 new follows
    go given (Reads group reading) q c f d e isin none dur here r idle follows u new = reads_someone x given c f d e isin none r idle u group reading q here dur.1 follows
    go given (Writes group lists) q c f d e isin none dur here r idle follows u new = writes_someone x given c f d e isin none r idle u group lists q dur.1 follows
    go given (Cuts group) q c f d e isin none dur here r idle follows u new = cut_someone x given c f d e isin none r idle u group q dur.1 follows
