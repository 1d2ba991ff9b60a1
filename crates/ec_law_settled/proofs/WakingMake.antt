-- A create and a mkdir wait for a brick in each stage.
use Rattle.std.proofs.Common.{◌≡◌, ℕ, ◌^◌, ◌<◌, nat_le, true, refl, sym, ◌∙◌, subst, arith, Some, None}
use Rattle.std.proofs.lemmas.Bool.Decides.{nat_tests}
use Rattle.ec_answers.specs.declared.grouped.Group.{Group}
use Rattle.ec_answers.specs.declared.grouped.Grouped.{Grouped}
use Rattle.ec_answers.specs.declared.grouped.Grouped.TheVariants.{Group as Found, Gone, Fewer}
use Rattle.ec_attr.specs.declared.kind.Kind.{Kind}
use Rattle.ec_attr.specs.declared.kind.Kind.TheVariants.{File, Dir}
use Rattle.ec_attr.specs.declared.kind.LockKind.TheVariants.{Exclusive}
use Rattle.ec_conduct.specs.Account.{Account}
use Rattle.ec_conduct.specs.Ballots.{attr_after, size_after}
use Rattle.ec_conduct.specs.Given.{Given, bricks_of}
use Rattle.ec_entry.specs.Make.{BallotGoes, DuringMake, InMake, InVotes, MakeFollows, MakeJudges, child_of, entry_request, first_stage, made_request, make_asks, make_request, make_table, name_next, of_kind, where_all}
use Rattle.ec_entry.specs.declared.make.MakeStage.{MakeStage}
use Rattle.ec_entry.specs.declared.make.MakeStage.TheVariants.{Opens as OpensAt, Name, Votes, Makes, Enters, Made}
use Rattle.ec_entry.specs.declared.named.Named.{Named}
use Rattle.ec_entry.specs.declared.named.Named.TheVariants.{Alike, Fewer as FewerOf, Split as SplitOf}
use Rattle.ec_txn.specs.Ballot.{ballot_request, count_serving, is_within}
use Rattle.ec_txn.specs.Opening.{InOpening}
use Rattle.ec_txn.specs.Rounds.{Asks, IsIdle, IsRound, IsUnlocked, subject}
use Rattle.ec_txn.specs.Tables.{IsIn}
use Rattle.ec_txn.specs.declared.ballot.Ballot.{Ballot}
use Rattle.ec_txn.specs.declared.ballot.Ballot.TheVariants.{Pre, Post, Clear}
use Rattle.ec_txn.specs.declared.ctx.Ctx.{Ctx}
use Rattle.ec_txn.specs.declared.opening.Opening.TheVariants.{Lock as Locking, Query}
use Rattle.ec_txn.specs.declared.stage.Next.TheVariants.{Go}
use Rattle.ec_wire.specs.declared.answer.Answer.TheVariants.{Child, Exists, Limit, NoQuorum, NoSuch, NotDir, Spent, Split}
use Rattle.ec_wire.specs.declared.phase.Phase.TheVariants.{Entry as EntryPhase, Make as MakePhase, Name as NamePhase, Pre as PrePhase, Post as PostPhase, Query as QueryPhase}
use Rattle.ec_law_causes.proofs.Along.{NonePast, windows}
use Rattle.ec_law_causes.proofs.Make.{HereMake}
use Rattle.ec_law_causes.proofs.Members.{members_begin}
use Rattle.ec_law_causes.proofs.Naming.{NamedIn, alike_enough, named_here}
use Rattle.ec_law_causes.proofs.OpeningSteps.{go_same, go_say, go_when, queried, querying}
use Rattle.ec_law_causes.proofs.Openings.{HereOpening}
use Rattle.ec_law_causes.proofs.Queried.{JudgedIn, judged}
use Rattle.ec_law_settled.proofs.Waking.{Someone, Wakes}
use Rattle.ec_law_settled.proofs.WakingMembers.{if_goes, members_someone, quorum_someone}
use Rattle.ec_law_settled.proofs.WakingNames.{fetch_someone}
use Rattle.ec_law_settled.proofs.WakingOpenings.{first_someone, lock_someone}
use Rattle.ec_law_settled.proofs.WakingServes.{AllServe, all_unlocked, group_serves, named_count}

-- as the name is asked for, the bricks of the group did all before
abbrev pub MoreMake : Given → MakeStage → Account → Type 0
MoreMake given (Name group) c = AllServe given group.bricks c
MoreMake given stage c = Unit {0}

abbrev Woken : Given → MakeStage → Account → Account → Type 0
Woken given q d e = Someone given (make_asks q d) × MoreMake given q e

module _ (x : Ctx) (given : Given) (c : Account) (f : Asks) (d e : Account) (isin : IsIn x given c) (none : NonePast (subject given.op) (bricks_of given) d) (r : IsRound (subject given.op) c f d) (idle : IsIdle d) (u : IsUnlocked (subject given.op) d e) where
  dg : d.given ≡ given
  dg = r.given ∙ isin.given_is

  to : (q p : MakeStage) → Go q ≡ Go p → Woken given p d e → Woken given q d e
  to q p is w = subst (λ (z : MakeStage). Woken given z d e) (sym (go_same q p is)) w

  -- the Queries are over
  query_someone : (q : MakeStage) (grouped : Grouped) → HereOpening Exclusive given Query c f → InOpening Exclusive Query c f → JudgedIn given (windows given d) (λ answer. ⊥) grouped → MakeJudges d grouped (Go q) → Woken given q d e
  query_someone q (Found group) here l h is = by group.head.kind is
    where
      by : (kind : Kind) → Go q ≡ of_kind kind group → Woken given q d e
      by File k = absurd (go_say q NotDir k)
      by Dir k = to q (Name group) k (
        fetch_someone given group 2 _ d dg (members_begin given Exclusive group c f d (querying Exclusive given c f d isin.given_is l here r idle none) here r idle h),
        all_unlocked given group.bricks d e u (group_serves Exclusive given c f d isin.given_is l here r idle none group h),
      )
  query_someone q (Gone bricks) here l h is = absurd (go_say q NoSuch is)
  query_someone q (Fewer most) here l h is = absurd (go_say q (NoQuorum QueryPhase most) is)

  -- the name was asked for
  name_someone : (group : Group) (q : MakeStage) → HereMake given (Name group) c f → AllServe given group.bricks c → MakeFollows (Name group) d (Go q) → Woken given q d e
  name_someone group q here all (named, is, follows) = by named (named_here given group c f d here.0 r idle none named dg is) follows
    where
      by : (named : Named) → NamedIn given (windows given d) named → Go q ≡ name_next group named → Woken given q d e
      by (FewerOf most) h w = absurd (go_say q (NoQuorum NamePhase most) w)
      by (SplitOf a b) h w = absurd (go_say q (Split a b) w)
      by (Alike (Some child)) h w = absurd (go_say q (Exists child) w)
      by (Alike None) h w =
          let v = go_when (is_within group.head) (Votes (Pre group)) q (Limit group.head.version.content) w in
          subst (λ (z : MakeStage). Woken given z d e) (sym v.1) (
            members_someone given group (λ y. ballot_request (subject d.given.op) (size_after d.given.op group.head.size) (attr_after d.given.op) (Pre group)) d dg v.0
                (named_count given group c f d dg here.0 r idle none all (alike_enough given (windows given d) None h)),
            tt,
          )

  makes_someone : (group : Group) (q : MakeStage) → InMake (Makes group) c f → MakeFollows (Makes group) d (Go q) → Woken given q d e
  makes_someone group q l follows =
      let w = if_goes d group MakePhase (λ next. next ≡ Go (Enters group)) q follows in
      to q (Enters group) w.1 (quorum_someone given group (λ y. entry_request d.given) d dg l.within w.0, tt)

  enters_someone : (group : Group) (q : MakeStage) → InMake (Enters group) c f → MakeFollows (Enters group) d (Go q) → Woken given q d e
  enters_someone group q l follows =
      let w = if_goes d group EntryPhase (λ next. next ≡ Go (Votes (Post group))) q follows in
      to q (Votes (Post group)) w.1 (quorum_someone given group (λ y. ballot_request (subject d.given.op) (size_after d.given.op group.head.size) (attr_after d.given.op) (Post group)) d dg l.0.within w.0, tt)

  -- the ballot
  all_some : (a b : ℕ) → 0 < a → nat_le a b ≡ true → 0 < b
  all_some a b pos t = grind (arith, nat_tests)

  votes_someone : (stage : Ballot) (q : MakeStage) → InVotes stage c f → BallotGoes stage d (Go q) → Woken given q d e
  votes_someone (Pre group) q l follows =
      let w = if_goes d group PrePhase (λ next. next ≡ Go (Makes group)) q follows in
      to q (Makes group) w.1 (quorum_someone given group (λ y. make_request d.given) d dg l.0.within w.0, tt)
  votes_someone (Post group) q l follows =
      let w = if_goes d group PostPhase (λ next. next ≡ where_all d group (Votes (Clear group))) q follows in
      subst (λ (z : MakeStage). Woken given z d e) (sym (go_when (nat_le (bricks_of d.given) (count_serving d group)) (Votes (Clear group)) q (Child (child_of d.given)) w.1).1)
      (quorum_someone given group (λ y. ballot_request (subject d.given.op) (size_after d.given.op group.head.size) (attr_after d.given.op) (Clear group)) d dg l.0.within w.0, tt)
  votes_someone (Clear group) q l follows =
      let w = go_when (nat_le (bricks_of d.given) (count_serving d group)) (Made group) q (Child (child_of d.given)) follows in
      subst (λ (z : MakeStage). Woken given z d e) (sym w.1)
      (members_someone given group (λ y. made_request d.given) d dg l.0.within (all_some (bricks_of d.given) (count_serving d group) (let m = d.given.geometry.least in omega arith) w.0), tt)

-- no gfid above the limit is taken
first_goes : (child : ℕ) (q : MakeStage) → Go q ≡ first_stage child → q ≡ OpensAt (Locking 0)
first_goes child q e = (go_when (nat_le child (2 ^ 96)) (OpensAt (Locking 0)) q Spent e).1

pub make_wakes : (x : Ctx) → Wakes x make_table DuringMake HereMake MoreMake
make_wakes x = record {
  begins = λ given q of s. first_someone OpensAt Exclusive MakeJudges make_asks MoreMake (λ o c. refl) (λ v o c. tt) given q (first_goes given.child q s.1);
  goes = λ given p q c f d e isin none dur here more r idle follows u dur' here'. go given p q c f d e isin none dur.1 here more r idle follows u;
}
  where
    go : (given : Given) (p q : MakeStage) (c : Account) (f : Asks) (d e : Account) → IsIn x given c → NonePast (subject given.op) (bricks_of given) d → InMake p c f → HereMake given p c f → MoreMake given p c → IsRound (subject given.op) c f d → IsIdle d
        → MakeFollows p d (Go q) → IsUnlocked (subject given.op) d e → Woken given q d e
    go given (OpensAt (Locking brick)) q c f d e isin none dur here more r idle follows u = lock_someone OpensAt Exclusive MakeJudges make_asks MoreMake (λ o a. refl) (λ v o c. tt) given brick d e q (r.given ∙ isin.given_is) follows
    go given (OpensAt Query) q c f d e isin none dur here more r idle (grouped, comes, is) u =
        query_someone x given c f d e isin none r idle u q grouped here.0 dur (judged given d (r.given ∙ isin.given_is) (queried Exclusive given c f d isin.given_is dur here.0 r idle none) (λ answer. ⊥) grouped comes) is
    go given (Name group) q c f d e isin none dur here more r idle follows u = name_someone x given c f d e isin none r idle u group q here more follows
    go given (Votes stage) q c f d e isin none dur here more r idle follows u = votes_someone x given c f d e isin none r idle u stage q dur follows
    go given (Makes group) q c f d e isin none dur here more r idle follows u = makes_someone x given c f d e isin none r idle u group q dur follows
    go given (Enters group) q c f d e isin none dur here more r idle follows u = enters_someone x given c f d e isin none r idle u group q dur follows
    go given (Made group) q c f d e isin none dur here more r idle follows u = absurd (go_say q (Child (child_of d.given)) follows)
