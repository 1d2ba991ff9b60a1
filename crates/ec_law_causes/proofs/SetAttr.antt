-- The causes of the answers of a setattr.
use Rattle.std.proofs.Common.{◌≡◌, inl, inr, ◌≤◌, nat_le, false, true, cond, refl, sym, ◌∙◌, subst, arith}
use Rattle.ec_answers.specs.declared.grouped.Grouped.{Grouped}
use Rattle.ec_answers.specs.declared.grouped.Grouped.TheVariants.{Group as Found, Gone, Fewer}
use Rattle.ec_attr.specs.declared.attr.Attr.{Attr as AttrOf}
use Rattle.ec_attr.specs.declared.kind.LockKind.TheVariants.{Exclusive}
use Rattle.ec_conduct.specs.Account.{Account}
use Rattle.ec_conduct.specs.Ballots.{attr_after}
use Rattle.ec_conduct.specs.Given.{Given, bricks_of, quorum_of}
use Rattle.ec_conduct.specs.Opened.{opened}
use Rattle.ec_entry.specs.SetAttr.{DuringSetAttr, InSetAttr, IsSetAttr, SetAttrFollows, SetAttrJudges, SetAttrVotes, setattr_asks, setattr_table, told}
use Rattle.ec_entry.specs.declared.setattr.SetAttrStage.{SetAttrStage}
use Rattle.ec_entry.specs.declared.setattr.SetAttrStage.TheVariants.{Opens as OpensAt, Votes}
use Rattle.ec_txn.specs.Ballot.{InBallot, count_serving, is_within}
use Rattle.ec_txn.specs.Opening.{InOpening}
use Rattle.ec_txn.specs.Rounds.{Asks, IsIdle, IsRound, IsUnlocked, subject}
use Rattle.ec_txn.specs.declared.ballot.Ballot.{Ballot}
use Rattle.ec_txn.specs.declared.ballot.Ballot.TheVariants.{Pre, Post, Clear}
use Rattle.ec_txn.specs.declared.ctx.Ctx.{Ctx}
use Rattle.ec_txn.specs.Tables.{IsIn}
use Rattle.ec_txn.specs.declared.opening.Opening.TheVariants.{Lock as Locking, Query}
use Rattle.ec_txn.specs.declared.stage.Next.TheVariants.{Go, Say}
use Rattle.ec_wire.specs.declared.answer.Answer.{Answer}
use Rattle.ec_wire.specs.declared.answer.Answer.TheVariants.{Attr, Limit, NoQuorum, NoSuch}
use Rattle.ec_wire.specs.declared.op.Op.{Op}
use Rattle.ec_wire.specs.declared.op.Op.TheVariants.{SetAttr}
use Rattle.ec_wire.specs.declared.phase.Phase.TheVariants.{Pre as PrePhase, Post as PostPhase, Query as QueryPhase}
use Rattle.ec_law_causes.specs.Causes.{Else, IsAttr, PassesLimit, setattr_causes}
use Rattle.ec_law_causes.specs.Counted.{FallsShort, number}
use Rattle.ec_law_causes.proofs.Along.{IsKept, NonePast, Tells, unlocked, windows}
use Rattle.ec_law_causes.proofs.BallotSteps.{clear_late, clear_members, no_short, past_limit, post_ends, post_late, post_members, post_stays, pre_ends, pre_members, pre_stays, within_limit}
use Rattle.ec_law_causes.proofs.Members.{HasMembers, members_begin, members_more, members_unlocked}
use Rattle.ec_law_causes.proofs.Openings.{HereOpening, opening_here}
use Rattle.ec_law_causes.proofs.OpeningSteps.{go_same, go_say, go_when, lock_goes, lock_says, queried, querying, say_go, say_same, say_when}
use Rattle.ec_law_causes.proofs.Queried.{JudgedIn, judged, opens_group}

abbrev HereVotes : Given → Ballot → Account → Type 0
HereVotes given (Pre group) c = HasMembers given group 3 c
HereVotes given (Post group) c = HasMembers given group 9 c × (quorum_of given ≤ number given (windows given c) PrePhase)
HereVotes given (Clear group) c = HasMembers given group 10 c × (quorum_of given ≤ number given (windows given c) PrePhase) × (quorum_of given ≤ number given (windows given c) PostPhase)

abbrev pub HereSetAttr : Given → SetAttrStage → Account → Asks → Type 0
HereSetAttr given (OpensAt stage) c f = HereOpening Exclusive given stage c f
HereSetAttr given (Votes stage) c f = HereVotes given stage c

-- a setattr says its attribute
told_attr : (op : Op) → IsSetAttr op → (attr : AttrOf) × (told (attr_after op) ≡ Attr attr)
told_attr (SetAttr g attr) is = (attr, refl)
told_attr op is = absurd (is)

module _ (x : Ctx) (given : Given) (c : Account) (f : Asks) (d : Account) (isin : IsIn x given c) (none : NonePast (subject given.op) (bricks_of given) d) (r : IsRound (subject given.op) c f d) (idle : IsIdle d) where
  dg : d.given ≡ given
  dg = r.given ∙ isin.given_is

  -- what follows the Queries
  query_goes : (q : SetAttrStage) (e : Account) (grouped : Grouped) (later : Answer → Type 0) → HereOpening Exclusive given Query c f → InOpening Exclusive Query c f → JudgedIn given (windows given d) later grouped → SetAttrJudges d grouped (Go q)
      → IsUnlocked (subject given.op) d e → HereSetAttr given q e (setattr_asks q d)
  query_goes q e (Found group) later here l h is u =
      let w = go_when (is_within group.head) (Votes (Pre group)) q (Limit group.head.version.content) is in
      let m = members_begin given Exclusive group c f d (querying Exclusive given c f d isin.given_is l here r idle none) here r idle h in
      subst (λ (z : SetAttrStage). HereSetAttr given z e (setattr_asks z d)) (sym w.1) (members_unlocked given group 3 d e u (members_more given group 2 3 d (omega arith) m))
  query_goes q e (Gone bricks) later here l h is u = absurd (go_say q NoSuch is)
  query_goes q e (Fewer most) later here l h is u = absurd (go_say q (NoQuorum QueryPhase most) is)

  abbrev Later : Answer → Type 0
  Later = Else (PassesLimit given (windows given d)) (Else (FallsShort given (windows given d) PrePhase) (Else (FallsShort given (windows given d) PostPhase) IsAttr))

  query_says : (answer : Answer) (grouped : Grouped) → JudgedIn given (windows given d) Later grouped → SetAttrJudges d grouped (Say answer) → setattr_causes given (windows given d) answer
  query_says answer (Found group) h is =
      let w = say_when (is_within group.head) (Votes (Pre group)) answer (Limit group.head.version.content) is in
      subst (setattr_causes given (windows given d)) (sym w.1) (opens_group given (windows given d) group Later (Limit group.head.version.content) h (inl (past_limit given (windows given d) group h w.0)))
  query_says answer (Gone bricks) h is = subst (setattr_causes given (windows given d)) (sym (say_same answer NoSuch (Say answer) refl is)) h
  query_says answer (Fewer most) h is = subst (setattr_causes given (windows given d)) (sym (say_same answer (NoQuorum QueryPhase most) (Say answer) refl is)) h

  -- the ballot
  votes_go : (stage : Ballot) (q : SetAttrStage) (e : Account) → InBallot stage c f → HereVotes given stage c → SetAttrVotes stage d (Go q) → IsUnlocked (subject given.op) d e → HereSetAttr given q e (setattr_asks q d)
  votes_go (Pre group) q e l h follows u = elim (pre_ends given group c f d isin.given_is r idle (λ next. next ≡ Go (Votes (Post group))) (Go q) l h follows) [
    | inl w ↦ absurd (go_say q w.0 w.1)
    | inr w ↦ subst (λ (z : SetAttrStage). HereSetAttr given z e (setattr_asks z d)) (sym (go_same q (Votes (Post group)) w.1))
        (members_unlocked given group 9 d e u (members_more given group 4 9 d (omega arith) (pre_members given group c f d isin.given_is r idle l h)), unlocked given d e u (λ v. quorum_of given ≤ number given v PrePhase) w.0)
  ]
  votes_go (Post group) q e l h follows u = elim (post_ends given group c f d isin.given_is r idle (λ next. next ≡ cond (nat_le (bricks_of d.given) (count_serving d group)) (Go (Votes (Clear group))) (Say (told (attr_after d.given.op)))) (Go q) l h.0 follows) [
    | inl w ↦ absurd (go_say q w.0 w.1)
    | inr w ↦ subst (λ (z : SetAttrStage). HereSetAttr given z e (setattr_asks z d)) (sym (go_when (nat_le (bricks_of d.given) (count_serving d group)) (Votes (Clear group)) q (told (attr_after d.given.op)) w.1).1) (
      members_unlocked given group 10 d e u (post_members given group c f d isin.given_is r idle l h.0),
      unlocked given d e u (λ v. quorum_of given ≤ number given v PrePhase) (pre_stays given group c f d isin.given_is r idle (λ y s t. let m = post_late given group c f d isin.given_is r idle l y s t in omega (arith, m)) h.1),
      unlocked given d e u (λ v. quorum_of given ≤ number given v PostPhase) w.0,
    )
  ]
  votes_go (Clear group) q e l h follows u = absurd (go_say q (told (attr_after d.given.op)) follows)

  votes_say : (stage : Ballot) (answer : Answer) → IsSetAttr d.given.op → InBallot stage c f → HereVotes given stage c → SetAttrVotes stage d (Say answer) → setattr_causes given (windows given d) answer
  votes_say (Pre group) answer is l h follows =
      let m = pre_members given group c f d isin.given_is r idle l h in
      elim (pre_ends given group c f d isin.given_is r idle (λ next. next ≡ Go (Votes (Post group))) (Say answer) l h follows) [
        | inl w ↦ subst (setattr_causes given (windows given d)) (sym (say_same answer w.0 (Say answer) refl w.1)) (opens_group given (windows given d) group Later w.0 m.group_is (inr (within_limit given (windows given d) group m.group_is l.within, inl w.2)))
        | inr w ↦ absurd (say_go (Votes (Post group)) answer w.1)
      ]
  votes_say (Post group) answer is l h follows =
      let m = post_members given group c f d isin.given_is r idle l h.0 in
      let pre = pre_stays given group c f d isin.given_is r idle (λ y s t. let m = post_late given group c f d isin.given_is r idle l y s t in omega (arith, m)) h.1 in
      elim (post_ends given group c f d isin.given_is r idle (λ next. next ≡ cond (nat_le (bricks_of d.given) (count_serving d group)) (Go (Votes (Clear group))) (Say (told (attr_after d.given.op)))) (Say answer) l h.0 follows) [
        | inl w ↦ subst (setattr_causes given (windows given d)) (sym (say_same answer w.0 (Say answer) refl w.1)) (opens_group given (windows given d) group Later w.0 m.group_is (inr (within_limit given (windows given d) group m.group_is l.within, inr (no_short given (windows given d) PrePhase pre, inl w.2))))
        | inr w ↦
            let v = say_when (nat_le (bricks_of d.given) (count_serving d group)) (Votes (Clear group)) answer (told (attr_after d.given.op)) w.1 in
            let a = told_attr d.given.op is in
            opens_group given (windows given d) group Later answer m.group_is (inr (within_limit given (windows given d) group m.group_is l.within, inr (no_short given (windows given d) PrePhase pre, inr (no_short given (windows given d) PostPhase w.0, (a.0, v.1 ∙ a.1)))))
      ]
  votes_say (Clear group) answer is l h follows =
      let m = clear_members given group c f d isin.given_is r idle l h.0 in
      let late = clear_late given group c f d isin.given_is r idle l in
      let pre = pre_stays given group c f d isin.given_is r idle (λ y s t. let m = late y s t in omega (arith, m)) h.1 in
      let post = post_stays given group c f d isin.given_is r idle late h.2 in
      let a = told_attr d.given.op is in
      opens_group given (windows given d) group Later answer m.group_is (inr (within_limit given (windows given d) group m.group_is l.within, inr (no_short given (windows given d) PrePhase pre, inr (no_short given (windows given d) PostPhase post, (a.0, say_same answer (told (attr_after d.given.op)) (Say answer) refl follows ∙ a.1)))))

pub setattr_kept : (x : Ctx) → IsKept x setattr_table DuringSetAttr HereSetAttr
setattr_kept x = record {
  begins = λ given q of s. subst (λ (z : SetAttrStage). HereSetAttr given z (opened given) (setattr_asks z (opened given))) (sym (go_same q (OpensAt (Locking 0)) s.1)) (opening_here Exclusive given of.kept);
  goes = λ given p q c f d e isin none dur here r idle quiet follows isin' u. go given p q c f d e isin none dur.1 here r idle follows u;
  again = λ given p c f d t. absurd (let v : false ≡ true = t in cc);
}
  where
    go : (given : Given) (p q : SetAttrStage) (c : Account) (f : Asks) (d e : Account) → IsIn x given c → NonePast (subject given.op) (bricks_of given) d → InSetAttr p c f → HereSetAttr given p c f → IsRound (subject given.op) c f d → IsIdle d
        → SetAttrFollows p d (Go q) → IsUnlocked (subject given.op) d e → HereSetAttr given q e (setattr_asks q d)
    go given (OpensAt (Locking brick)) q c f d e isin none dur here r idle follows u = lock_goes OpensAt Exclusive SetAttrJudges given brick c f d isin.given_is (r.given ∙ isin.given_is) dur here r idle setattr_asks HereSetAttr (λ o a k i. i) (λ o a. refl) q e follows u
    go given (OpensAt Query) q c f d e isin none dur here r idle (grouped, comes, is) u = query_goes x given c f d isin none r idle q e grouped (λ answer. ⊥) here dur (judged given d (r.given ∙ isin.given_is) (queried Exclusive given c f d isin.given_is dur here r idle none) (λ answer. ⊥) grouped comes) is u
    go given (Votes stage) q c f d e isin none dur here r idle follows u = votes_go x given c f d isin none r idle stage q e dur here follows u

pub setattr_tells : (x : Ctx) → Tells x setattr_table DuringSetAttr HereSetAttr setattr_causes
setattr_tells x = record {
  first = λ given answer of s. absurd (say_go (OpensAt (Locking 0)) answer s.1);
  last = λ given p answer c f d isin none dur here r idle quiet follows. last given p answer c f d isin none dur here r idle follows;
}
  where
    last : (given : Given) (p : SetAttrStage) (answer : Answer) (c : Account) (f : Asks) (d : Account) → IsIn x given c → NonePast (subject given.op) (bricks_of given) d → DuringSetAttr p c f → HereSetAttr given p c f → IsRound (subject given.op) c f d → IsIdle d
        → SetAttrFollows p d (Say answer) → setattr_causes given (windows given d) answer
    last given (OpensAt (Locking brick)) answer c f d isin none dur here r idle follows = lock_says OpensAt Exclusive SetAttrJudges given brick c f d isin.given_is (r.given ∙ isin.given_is) dur.1 here r idle (Later x given c f d isin none r idle) answer follows
    last given (OpensAt Query) answer c f d isin none dur here r idle (grouped, comes, is) = query_says x given c f d isin none r idle answer grouped (judged given d (r.given ∙ isin.given_is) (queried Exclusive given c f d isin.given_is dur.1 here r idle none) (Later x given c f d isin none r idle) grouped comes) is
    last given (Votes stage) answer c f d isin none dur here r idle follows = votes_say x given c f d isin none r idle stage answer (subst (λ (v : Given). IsSetAttr v.op) (sym r.given) dur.0) dur.1 here follows
