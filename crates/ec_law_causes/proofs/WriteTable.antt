-- The table of a write: each of its answers has its cause.
use Rattle.std.proofs.Common.{◌≡◌, inl, inr, ℕ, ◌≤◌, nat_le, nat_lt, Bool, false, true, cond, refl, sym, ◌∙◌, ap, subst, arith, List, [], Option, Some, None}
use Rattle.ec_answers.specs.declared.grouped.Group.{Group}
use Rattle.ec_attr.specs.declared.kind.LockKind.TheVariants.{Exclusive}
use Rattle.ec_conduct.specs.Account.{Account, at}
use Rattle.ec_conduct.specs.Done.{is_write}
use Rattle.ec_conduct.specs.Given.{Given, bricks_of, quorum_of}
use Rattle.ec_conduct.specs.Opened.{opened}
use Rattle.ec_txn.specs.Ballot.{count_serving, serving}
use Rattle.ec_txn.specs.Rounds.{Asks, IsIdle, IsRound, IsUnlocked, joined, subject}
use Rattle.ec_txn.specs.Tables.{IsIn, asked_again}
use Rattle.ec_txn.specs.declared.ballot.Ballot.{Ballot}
use Rattle.ec_txn.specs.declared.ballot.Ballot.TheVariants.{Pre, Post, Clear}
use Rattle.ec_txn.specs.declared.ctx.Ctx.{Ctx}
use Rattle.ec_txn.specs.declared.opening.Opening.TheVariants.{Lock as Locking, Query}
use Rattle.ec_txn.specs.declared.stage.Next.{Next}
use Rattle.ec_txn.specs.declared.stage.Next.TheVariants.{Go, Say}
use Rattle.ec_wire.specs.declared.answer.Answer.{Answer}
use Rattle.ec_wire.specs.declared.phase.Phase.TheVariants.{Post as PostPhase, Write as WritePhase}
use Rattle.ec_wire.specs.declared.request.Request.{Request}
use Rattle.ec_write.specs.During.{DuringWrite, InWrite}
use Rattle.ec_write.specs.Range.{first_stripe, off_of}
use Rattle.ec_write.specs.Stripes.{list_at}
use Rattle.ec_write.specs.Write.{GoesOn, IsWrite, WriteFollows, WriteJudges, asks_of, first_of, reading_of, reads_again, says_size, write_request, write_table}
use Rattle.ec_write.specs.declared.stage.WriteStage.{WriteStage}
use Rattle.ec_write.specs.declared.stage.WriteStage.TheVariants.{Opens as OpensAt, Votes, Reads, Writes}
use Rattle.ec_law_causes.specs.Causes.{write_causes}
use Rattle.ec_law_causes.specs.Counted.{number}
use Rattle.ec_law_causes.proofs.Along.{IsKept, NonePast, Tells, unlocked, windows}
use Rattle.ec_law_causes.proofs.BallotSteps.{clear_late, clear_members, no_short, post_ends, post_late, post_members, post_stays, pre_ends, pre_members}
use Rattle.ec_law_causes.proofs.Members.{AsksMembers, HasMembers, PhaseOver, ends, members_more, members_over, members_unlocked}
use Rattle.ec_law_causes.proofs.Openings.{opening_here}
use Rattle.ec_law_causes.proofs.OpeningSteps.{go_same, go_say, lock_goes, lock_says, queried, say_go, say_same}
use Rattle.ec_law_causes.proofs.Queried.{judged}
use Rattle.ec_law_causes.proofs.Ranks.{rank}
use Rattle.ec_law_causes.proofs.Reading.{here_joined}
use Rattle.ec_txn.proofs.BallotSends.{version_in}
use Rattle.ec_write.specs.During.{IsWritingOf}
use Rattle.ec_law_causes.proofs.Members.{AreBetween}
use Rattle.ec_law_causes.proofs.Write.{HasRead, HereVotes, HereWrite, Later, asked_in, opened_causes, reads_stay, starts_go, starts_say, to_write, wants_first, wants_last, was_read, writes_stay}
use Rattle.ec_law_causes.proofs.WriteSteps.{only_write, pre_next, query_goes, query_says, reads_go, reads_say}

go_when : (t : Bool) (p q : WriteStage) (answer : Answer) → Go q ≡ cond t (Go p) (Say answer) → (t ≡ true) × (q ≡ p)
go_when true p q answer e = (refl, go_same q p e)
go_when false p q answer e = absurd (go_say q answer e)

say_when : (t : Bool) (p : WriteStage) (a answer : Answer) → Say a ≡ cond t (Go p) (Say answer) → a ≡ answer
say_when true p a answer e = absurd (say_go p a e)
say_when false p a answer e = say_same a answer (Say a) refl e

none_some : (r : Request) → None ≡ Some r → ⊥
none_some r e = cc

none_grant : (i : ℕ) → None ≡ Some i → ⊥
none_grant i e = cc

module _ (x : Ctx) (given : Given) (c : Account) (f : Asks) (d : Account) (isin : IsIn x given c) (none : NonePast (subject given.op) (bricks_of given) d) (r : IsRound (subject given.op) c f d) (idle : IsIdle d) where
  dg : d.given ≡ given
  dg = r.given ∙ isin.given_is

  -- ## The chunks are written

  module _ (group : Group) (lists : List (List (List ℕ))) (here : HereWrite x given (Writes group lists) c f) (l : InWrite x (Writes group lists) c f) where
    writing : IsWritingOf given c group lists f
    writing = subst (λ (v : Given). IsWritingOf v c group lists f) isin.given_is l

    between : AreBetween 7 f
    between y q t =
        let w = (writing.1.changing.asks y q t).5 in
        let v : rank q ≡ 6 = ap rank w in
        (omega (arith, v), omega (arith, v))

    asks : AsksMembers given group is_write c f
    asks = record {
      asked = λ y i less t s. (write_request (subject given.op) (first_stripe (quorum_of given) (off_of given.op)) (list_at lists y) i group.head.version.content, writing.1.changing.asked y i group.head.version.content less s (version_in group y t), refl, omega arith);
      unasked = λ y s. nobody y s (f y) refl;
    }
      where
        nobody : (y : ℕ) → serving (at c (subject given.op) y) ≡ None → (o : Option Request) → f y ≡ o → f y ≡ None
        nobody y s None e = e
        nobody y s (Some q) e = let w = writing.1.changing.asks y q e in absurd (none_grant w.1 (sym s ∙ w.3))

    members : HasMembers given group 7 d
    members = members_over given group 5 7 c f d here.0 r idle (omega arith) between

    read_now : HasRead given group (windows given d)
    read_now = reads_stay given group c f d isin.given_is r idle (λ y q t. (let w = (writing.1.changing.asks y q t).5 in let v : rank q ≡ 6 = ap rank w in omega (arith, v))) here.2

    ended : (next : Next WriteStage) → WriteFollows x (Writes group lists) d next → PhaseOver given (windows given d) WritePhase (λ next. next ≡ Go (Votes (Post group))) next
    ended next follows = ends given group 5 is_write c f d here.0 r idle asks only_write WritePhase (λ next. next ≡ Go (Votes (Post group))) next members.group_is dg (λ y. refl) (λ y. refl) refl follows

    writes_go : (q : WriteStage) (e : Account) → WriteFollows x (Writes group lists) d (Go q) → IsUnlocked (subject given.op) d e → HereWrite x given q e (asks_of q d)
    writes_go q e follows u = elim (ended (Go q) follows) [
      | inl w ↦ absurd (go_say q w.0 w.1)
      | inr w ↦ subst (λ (z : WriteStage). HereWrite x given z e (asks_of z d)) (sym (go_same q (Votes (Post group)) w.1)) (
        members_unlocked given group 9 d e u (members_more given group 7 9 d (omega arith) members),
        here.1,
        unlocked given d e u (λ v. HasRead given group v) read_now,
        unlocked given d e u (λ v. quorum_of given ≤ number given v WritePhase) w.0,
      )
    ]

    writes_say : (answer : Answer) → WriteFollows x (Writes group lists) d (Say answer) → write_causes given.op given (windows given d) answer
    writes_say answer follows = elim (ended (Say answer) follows) [
      | inl w ↦ subst (write_causes given.op given (windows given d)) (sym (say_same answer w.0 (Say answer) refl w.1)) (was_read given (windows given d) group w.0 members.group_is here.1 read_now (inl w.2))
      | inr w ↦ absurd (say_go (Votes (Post group)) answer w.1)
    ]

  -- ## The ballot

  votes_go : (stage : Ballot) (q : WriteStage) (e : Account) → InWrite x (Votes stage) c f → HereVotes given stage c → WriteFollows x (Votes stage) d (Go q) → IsUnlocked (subject given.op) d e → HereWrite x given q e (asks_of q d)
  votes_go (Pre group) q e l h follows u = elim (pre_ends given group c f d isin.given_is r idle (λ next. GoesOn x d.given.geometry d.given.op group [] [] (first_of d.given.geometry d.given.op group) next) (Go q) l.0 h.0 follows) [
    | inl w ↦ absurd (go_say q w.0 w.1)
    | inr w ↦ pre_next x given c f d isin none r idle q e group (pre_members given group c f d isin.given_is r idle l.0 h.0) h.1 l.0.within w.0 (wants_first given group.head) (wants_last given group.head) refl refl
        (subst (λ (v : Given). GoesOn x v.geometry v.op group [] [] (first_of v.geometry v.op group) (Go q)) dg w.1) u
  ]
  votes_go (Post group) q e l h follows u = elim (post_ends given group c f d isin.given_is r idle (λ next. next ≡ cond (nat_le (bricks_of d.given) (count_serving d group)) (Go (Votes (Clear group))) (Say (says_size d group))) (Go q) l h.0 follows) [
    | inl w ↦ absurd (go_say q w.0 w.1)
    | inr w ↦
        let late = post_late given group c f d isin.given_is r idle l in
        subst (λ (z : WriteStage). HereWrite x given z e (asks_of z d)) (sym (go_when (nat_le (bricks_of d.given) (count_serving d group)) (Votes (Clear group)) q (says_size d group) w.1).1) (
          members_unlocked given group 10 d e u (post_members given group c f d isin.given_is r idle l h.0),
          h.1,
          unlocked given d e u (λ v. HasRead given group v) (reads_stay given group c f d isin.given_is r idle (λ y s t. let m = late y s t in omega (arith, m)) h.2),
          unlocked given d e u (λ v. quorum_of given ≤ number given v WritePhase) (writes_stay given c f d r idle (λ y s t. let m = late y s t in omega (arith, m)) h.3),
          unlocked given d e u (λ v. quorum_of given ≤ number given v PostPhase) w.0,
        )
  ]
  votes_go (Clear group) q e l h follows u = absurd (go_say q (says_size d group) follows)

  votes_say : (stage : Ballot) (answer : Answer) → InWrite x (Votes stage) c f → HereVotes given stage c → WriteFollows x (Votes stage) d (Say answer) → write_causes given.op given (windows given d) answer
  votes_say (Pre group) answer l h follows =
      let m = pre_members given group c f d isin.given_is r idle l.0 h.0 in
      elim (pre_ends given group c f d isin.given_is r idle (λ next. GoesOn x d.given.geometry d.given.op group [] [] (first_of d.given.geometry d.given.op group) next) (Say answer) l.0 h.0 follows) [
        | inl w ↦ subst (write_causes given.op given (windows given d)) (sym (say_same answer w.0 (Say answer) refl w.1)) (to_write given (windows given d) group w.0 m.group_is h.1 l.0.within (inl w.2))
        | inr w ↦ absurd (not_on (first_of d.given.geometry d.given.op group) w.1)
      ]
    where
      not_on : (o : Option ℕ) → GoesOn x d.given.geometry d.given.op group [] [] o (Say answer) → ⊥
      not_on None (lists, coded, is) = say_go (Writes group lists) answer is
      not_on (Some s) is = say_go (Reads group (reading_of x (subject d.given.op) group s) []) answer is
  votes_say (Post group) answer l h follows =
      let m = post_members given group c f d isin.given_is r idle l h.0 in
      let late = post_late given group c f d isin.given_is r idle l in
      let ok = reads_stay given group c f d isin.given_is r idle (λ y s t. let m = late y s t in omega (arith, m)) h.2 in
      let wrote = writes_stay given c f d r idle (λ y s t. let m = late y s t in omega (arith, m)) h.3 in
      elim (post_ends given group c f d isin.given_is r idle (λ next. next ≡ cond (nat_le (bricks_of d.given) (count_serving d group)) (Go (Votes (Clear group))) (Say (says_size d group))) (Say answer) l h.0 follows) [
        | inl w ↦ subst (write_causes given.op given (windows given d)) (sym (say_same answer w.0 (Say answer) refl w.1)) (was_read given (windows given d) group w.0 m.group_is h.1 ok (inr (no_short given (windows given d) WritePhase wrote, inl w.2)))
        | inr w ↦ was_read given (windows given d) group answer m.group_is h.1 ok (inr (no_short given (windows given d) WritePhase wrote, inr (no_short given (windows given d) PostPhase w.0, (_, say_when (nat_le (bricks_of d.given) (count_serving d group)) (Votes (Clear group)) answer (says_size d group) w.1))))
      ]
  votes_say (Clear group) answer l h follows =
      let m = clear_members given group c f d isin.given_is r idle l h.0 in
      let late = clear_late given group c f d isin.given_is r idle l in
      let ok = reads_stay given group c f d isin.given_is r idle (λ y s t. let m = late y s t in omega (arith, m)) h.2 in
      let wrote = writes_stay given c f d r idle (λ y s t. let m = late y s t in omega (arith, m)) h.3 in
      let post = post_stays given group c f d isin.given_is r idle late h.4 in
      was_read given (windows given d) group answer m.group_is h.1 ok (inr (no_short given (windows given d) WritePhase wrote, inr (no_short given (windows given d) PostPhase post, (_, say_same answer (says_size d group) (Say answer) refl follows))))

pub write_kept : (x : Ctx) → IsKept x (write_table x) (DuringWrite x) (HereWrite x)
write_kept x = record {
  begins = λ given q of s. (let w = starts_go given.op q s.1 in subst (λ (z : WriteStage). HereWrite x given z (opened given) (asks_of z (opened given))) (sym w.2) (opening_here Exclusive given of.kept, (w.0, w.1)));
  goes = λ given p q c f d e isin none dur here r idle quiet follows isin' u. go given p q c f d e isin none dur here r idle follows u;
  again = λ given p c f d t isin dur here r. again given p c f d t here;
}
  where
    go : (given : Given) (p q : WriteStage) (c : Account) (f : Asks) (d e : Account) → IsIn x given c → NonePast (subject given.op) (bricks_of given) d → DuringWrite x p c f → HereWrite x given p c f → IsRound (subject given.op) c f d → IsIdle d
        → WriteFollows x p d (Go q) → IsUnlocked (subject given.op) d e → HereWrite x given q e (asks_of q d)
    go given (OpensAt (Locking brick)) q c f d e isin none dur here r idle follows u = lock_goes OpensAt Exclusive WriteJudges given brick c f d isin.given_is (r.given ∙ isin.given_is) dur.1.0 here.0 r idle asks_of (HereWrite x) (λ o a k i. (i, here.1)) (λ o a. refl) q e follows u
    go given (OpensAt Query) q c f d e isin none dur here r idle (grouped, comes, is) u =
        query_goes x given c f d isin none r idle q e grouped (λ answer. ⊥) here.1 here.0 dur.1.0 (judged given d (r.given ∙ isin.given_is) (queried Exclusive given c f d isin.given_is dur.1.0 here.0 r idle none) (λ answer. ⊥) grouped comes) is u
    go given (Votes stage) q c f d e isin none dur here r idle follows u = votes_go x given c f d isin none r idle stage q e dur.1 here follows u
    go given (Reads group reading front) q c f d e isin none dur here r idle follows u = reads_go x given c f d isin none r idle group reading front here dur.1 (subst (λ (v : Given). IsWrite v.op) isin.given_is dur.0.0) q e follows u
    go given (Writes group lists) q c f d e isin none dur here r idle follows u = writes_go x given c f d isin none r idle group lists here dur.1 q e follows u

    again : (given : Given) (p : WriteStage) (c : Account) (f : Asks) (d : Account) → reads_again p ≡ true → HereWrite x given p c f → HereWrite x given p c (joined f (asks_of p d))
    again given (OpensAt o) c f d t here = absurd (let v : false ≡ true = t in cc)
    again given (Votes o) c f d t here = absurd (let v : false ≡ true = t in cc)
    again given (Writes group lists) c f d t here = absurd (let v : false ≡ true = t in cc)
    again given (Reads group reading front) c f d t here = record {
      one = here_joined given group 5 reading c f (asks_of (Reads group reading front) d) (λ y q s. asked_in (nat_lt reading.start 31) reading d y q s) here.one;
      writable = here.writable;
      within = here.within;
      pre = here.pre;
      placed = here.placed;
    }

pub write_tells : (x : Ctx) → Tells x (write_table x) (DuringWrite x) (HereWrite x) (λ given w. write_causes given.op given w)
write_tells x = record {
  first = λ given answer of s. starts_say given (λ y. []) answer s.1;
  last = λ given p answer c f d isin none dur here r idle quiet follows. last given p answer c f d isin none dur here r idle quiet follows;
}
  where
    last : (given : Given) (p : WriteStage) (answer : Answer) (c : Account) (f : Asks) (d : Account) → IsIn x given c → NonePast (subject given.op) (bricks_of given) d → DuringWrite x p c f → HereWrite x given p c f → IsRound (subject given.op) c f d → IsIdle d
        → asked_again (write_table x) p d ≡ [] → WriteFollows x p d (Say answer) → write_causes given.op given (windows given d) answer
    last given (OpensAt (Locking brick)) answer c f d isin none dur here r idle quiet follows = opened_causes given (windows given d) answer here.1 (lock_says OpensAt Exclusive WriteJudges given brick c f d isin.given_is (r.given ∙ isin.given_is) dur.1.0 here.0 r idle (Later given (windows given d)) answer follows)
    last given (OpensAt Query) answer c f d isin none dur here r idle quiet (grouped, comes, is) =
        query_says x given c f d isin none r idle answer grouped here.1 (judged given d (r.given ∙ isin.given_is) (queried Exclusive given c f d isin.given_is dur.1.0 here.0 r idle none) (Later given (windows given d)) grouped comes) is
    last given (Votes stage) answer c f d isin none dur here r idle quiet follows = votes_say x given c f d isin none r idle stage answer dur.1 here follows
    last given (Reads group reading front) answer c f d isin none dur here r idle quiet follows = reads_say x given c f d isin none r idle group reading front here dur.1 (subst (λ (v : Given). IsWrite v.op) isin.given_is dur.0.0) answer quiet follows
    last given (Writes group lists) answer c f d isin none dur here r idle quiet follows = writes_say x given c f d isin none r idle group lists here dur.1 answer follows
