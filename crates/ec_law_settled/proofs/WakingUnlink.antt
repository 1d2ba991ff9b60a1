-- An unlink waits for a brick in each stage.
use Rattle.std.proofs.Common.{◌≡◌, ℕ, ◌<◌, ◌≤◌, nat_le, nat_lt, Bool, true, false, cond, refl, sym, ◌∙◌, ap, subst, Option, Some, None}
use Rattle.ec_answers.specs.declared.grouped.Group.{Group}
use Rattle.ec_answers.specs.declared.grouped.Grouped.{Grouped}
use Rattle.ec_answers.specs.declared.grouped.Grouped.TheVariants.{Group as Found, Gone as NoRecord, Fewer}
use Rattle.ec_attr.specs.declared.gfid.Gfid.{Gfid}
use Rattle.ec_attr.specs.declared.kind.Kind.{Kind}
use Rattle.ec_attr.specs.declared.kind.Kind.TheVariants.{File, Dir}
use Rattle.ec_attr.specs.declared.kind.LockKind.TheVariants.{Exclusive}
use Rattle.ec_conduct.specs.Account.{Account, at}
use Rattle.ec_conduct.specs.Ballots.{attr_after, size_after}
use Rattle.ec_conduct.specs.Given.{Given, bricks_of, quorum_of}
use Rattle.ec_conduct.specs.Standing.{is_held}
use Rattle.ec_entry.specs.Children.{IsFirst, child_by}
use Rattle.ec_entry.specs.Named.{Value}
use Rattle.ec_entry.specs.Unlink.{BallotGoes, DuringUnlink, InUnlink, InVotes, UnlinkFollows, UnlinkJudges, entry_request, name_next, of_kind, removes_child, removes_name, there_or_not, unlink_asks, unlink_table, unmake_request}
use Rattle.ec_entry.specs.declared.children.Children.{Children}
use Rattle.ec_entry.specs.declared.named.Named.{Named}
use Rattle.ec_entry.specs.declared.named.Named.TheVariants.{Alike, Fewer as FewerOf, Split as SplitOf}
use Rattle.ec_entry.specs.declared.unlink.UnlinkStage.{UnlinkStage}
use Rattle.ec_entry.specs.declared.unlink.UnlinkStage.TheVariants.{Opens as OpensAt, Name, Votes, Enters, Unmakes}
use Rattle.ec_txn.specs.Ballot.{ballot_request, count_serving, is_within}
use Rattle.ec_txn.specs.Fetching.{under}
use Rattle.ec_txn.specs.Opening.{InOpening}
use Rattle.ec_txn.specs.Rounds.{Asks, IsIdle, IsRound, IsUnlocked, subject}
use Rattle.ec_txn.specs.Tables.{IsIn}
use Rattle.ec_txn.specs.declared.ballot.Ballot.{Ballot}
use Rattle.ec_txn.specs.declared.ballot.Ballot.TheVariants.{Pre, Post, Clear}
use Rattle.ec_txn.specs.declared.ctx.Ctx.{Ctx}
use Rattle.ec_txn.specs.declared.opening.Opening.TheVariants.{Lock as Locking, Query}
use Rattle.ec_txn.specs.declared.stage.Next.{Next}
use Rattle.ec_txn.specs.declared.stage.Next.TheVariants.{Go, Say}
use Rattle.ec_wire.specs.declared.answer.Answer.TheVariants.{Gone, IsDir, Limit, NoName, NoQuorum, NoSuch, NotDir}
use Rattle.ec_wire.specs.declared.phase.Phase.TheVariants.{Entry as EntryPhase, Name as NamePhase, Pre as PrePhase, Post as PostPhase, Query as QueryPhase}
use Rattle.ec_law_causes.specs.Counted.{number}
use Rattle.ec_law_causes.proofs.Along.{NonePast, windows}
use Rattle.ec_law_causes.proofs.Members.{members_begin}
use Rattle.ec_law_causes.proofs.Naming.{NamedIn, alike_enough, named_here}
use Rattle.ec_law_causes.proofs.OpeningSteps.{go_same, go_say, go_when, queried, querying}
use Rattle.ec_law_causes.proofs.Openings.{HereOpening, held_unlocked}
use Rattle.ec_law_causes.proofs.Queried.{JudgedIn, judged}
use Rattle.ec_law_causes.proofs.Unlink.{HereUnlink}
use Rattle.ec_law_settled.proofs.Waking.{Someone, Wakes}
use Rattle.ec_law_settled.proofs.WakingMembers.{if_goes, less, members_someone, quorum_someone}
use Rattle.ec_law_settled.proofs.WakingNames.{fetch_someone, grouped_some, held_fetched}
use Rattle.ec_law_settled.proofs.WakingOpenings.{first_someone, lock_someone, when}
use Rattle.ec_law_settled.proofs.WakingServes.{AllServe, all_unlocked, group_serves, named_count}

-- as the name is asked for, the bricks of the group did all before
abbrev pub MoreUnlink : Given → UnlinkStage → Account → Type 0
MoreUnlink given (Name group) c = AllServe given group.bricks c
MoreUnlink given stage c = Unit {0}

abbrev Woken : Given → UnlinkStage → Account → Account → Type 0
Woken given q d e = Someone given (unlink_asks q d) × MoreUnlink given q e

module _ (x : Ctx) (given : Given) (c : Account) (f : Asks) (d e : Account) (isin : IsIn x given c) (none : NonePast (subject given.op) (bricks_of given) d) (r : IsRound (subject given.op) c f d) (idle : IsIdle d) (u : IsUnlocked (subject given.op) d e) where
  dg : d.given ≡ given
  dg = r.given ∙ isin.given_is

  to : (q p : UnlinkStage) → Go q ≡ Go p → Woken given p d e → Woken given q d e
  to q p is w = subst (λ (z : UnlinkStage). Woken given z d e) (sym (go_same q p is)) w

  -- the Queries are over
  query_someone : (q : UnlinkStage) (grouped : Grouped) → HereOpening Exclusive given Query c f → InOpening Exclusive Query c f → JudgedIn given (windows given d) (λ answer. ⊥) grouped → UnlinkJudges d grouped (Go q) → Woken given q d e
  query_someone q (Found group) here l h is = by group.head.kind is
    where
      by : (kind : Kind) → Go q ≡ of_kind kind group → Woken given q d e
      by File k = absurd (go_say q NotDir k)
      by Dir k = to q (Name group) k (
        fetch_someone given group 2 _ d dg (members_begin given Exclusive group c f d (querying Exclusive given c f d isin.given_is l here r idle none) here r idle h),
        all_unlocked given group.bricks d e u (group_serves Exclusive given c f d isin.given_is l here r idle none group h),
      )
  query_someone q (NoRecord bricks) here l h is = absurd (go_say q NoSuch is)
  query_someone q (Fewer most) here l h is = absurd (go_say q (NoQuorum QueryPhase most) is)

  -- the name was asked for
  module _ (group : Group) (q : UnlinkStage) (here : HereUnlink given (Name group) c f) (all : AllServe given group.bricks c) where
    removes_someone : (children : Children) → quorum_of given ≤ number given (windows given d) NamePhase → Go q ≡ removes_name group children → Woken given q d e
    removes_someone children enough is =
        let v = go_when (is_within group.head) (Votes (Pre group) children) q (Limit group.head.version.content) is in
        subst (λ (z : UnlinkStage). Woken given z d e) (sym v.1)
        (members_someone given group (λ y. ballot_request (subject d.given.op) (size_after d.given.op group.head.size) (attr_after d.given.op) (Pre group)) d dg v.0 (named_count given group c f d dg here.0 r idle none all enough), tt)

    by_value : (children : Children) (value : Value) → quorum_of given ≤ number given (windows given d) NamePhase → Go q ≡ there_or_not group children value → Woken given q d e
    by_value children None enough is = absurd (go_say q NoName is)
    by_value children (Some child) enough is = removes_someone children enough is

    by_dirs : (t : Bool) (p : Next UnlinkStage) → (Go q ≡ p → Woken given q d e) → Go q ≡ cond t (Say IsDir) p → Woken given q d e
    by_dirs true p other is = absurd (go_say q IsDir is)
    by_dirs false p other is = other is

    by_named : (children : Children) (dirs : ℕ) (named : Named) → NamedIn given (windows given d) named → Go q ≡ name_next group children dirs named → Woken given q d e
    by_named children dirs (FewerOf most) h is = absurd (go_say q (NoQuorum NamePhase most) is)
    by_named children dirs (Alike value) h is = by_dirs (nat_lt 0 dirs) (there_or_not group children value) (by_value children value (alike_enough given (windows given d) value h)) is
    by_named children dirs (SplitOf a b) h is = by_dirs (nat_lt 0 dirs) (removes_name group children) (removes_someone children h.0) is

    name_someone : UnlinkFollows (Name group) d (Go q) → Woken given q d e
    name_someone (named, children, is, found, follows) = by_named children _ named (named_here given group c f d here.0 r idle none named dg is) follows

  enters_someone : (group : Group) (children : Children) (q : UnlinkStage) → InUnlink (Enters group children) c f → UnlinkFollows (Enters group children) d (Go q) → Woken given q d e
  enters_someone group children q l follows =
      let w = if_goes d group EntryPhase (λ next. next ≡ Go (Votes (Post group) children)) q follows in
      to q (Votes (Post group) children) w.1 (quorum_someone given group (λ y. ballot_request (subject d.given.op) (size_after d.given.op group.head.size) (attr_after d.given.op) (Post group)) d dg l.0.within w.0, tt)

  -- a brick that granted the lock removes a child's record
  unmakes_someone : (child : Gfid) (children : Children) → HereUnlink given (Unmakes child children) e (unlink_asks (Unmakes child children) d) → Woken given (Unmakes child children) d e
  unmakes_someone child children (group, m, done) =
      let y = grouped_some given (windows given e) group.head m.group_is.head in
      let lt : y.0 < bricks_of given = y.1 in
      let held : is_held (at d (subject given.op) y.0).inode ≡ true = sym (held_unlocked (subject given.op) d e u y.0) ∙ m.locked y.0 (sym (m.group_is.bricks y.0) ∙ y.2) in (
        (
          y.0,
          lt,
          when (nat_lt y.0 (bricks_of d.given)) (under (at d (subject d.given.op) y.0).inode (unmake_request d.given child)) (ap (λ (v : Given). nat_lt y.0 (bricks_of v)) dg ∙ less y.0 (bricks_of given) lt)
              (held_fetched (at d (subject d.given.op) y.0).inode (unmake_request d.given child) (ap (λ (v : Given). is_held (at d (subject v.op) y.0).inode) dg ∙ held)),
        ),
        tt,
      )

  removal_someone : (children : Children) (first : Option Gfid) (q : UnlinkStage) → HereUnlink given q e (unlink_asks q d) → Go q ≡ removes_child children first → Woken given q d e
  removal_someone children None q new is = absurd (go_say q Gone is)
  removal_someone children (Some child) q new is = to q (Unmakes child children) is (unmakes_someone child children (subst (λ (z : UnlinkStage). HereUnlink given z e (unlink_asks z d)) (go_same q (Unmakes child children) is) new))

  -- the ballot
  post_someone : (group : Group) (children : Children) (first : Option Gfid) (q : UnlinkStage) (t : Bool) → is_within group.head ≡ true → quorum_of d.given ≤ count_serving d group → HereUnlink given q e (unlink_asks q d) → Go q ≡ cond t (Go (Votes (Clear group) children)) (removes_child children first) → Woken given q d e
  post_someone group children first q true within enough new is = to q (Votes (Clear group) children) is (quorum_someone given group (λ y. ballot_request (subject d.given.op) (size_after d.given.op group.head.size) (attr_after d.given.op) (Clear group)) d dg within enough, tt)
  post_someone group children first q false within enough new is = removal_someone children first q new is

  votes_someone : (stage : Ballot) (children : Children) (q : UnlinkStage) → InVotes stage c f → HereUnlink given q e (unlink_asks q d) → BallotGoes stage children d (Go q) → Woken given q d e
  votes_someone (Pre group) children q l new follows =
      let w = if_goes d group PrePhase (λ next. next ≡ Go (Enters group children)) q follows in
      to q (Enters group children) w.1 (quorum_someone given group (λ y. entry_request d.given) d dg l.0.within w.0, tt)
  votes_someone (Post group) children q l new follows =
      let w = if_goes d group PostPhase (λ next. (first : Option Gfid) × IsFirst 31 (child_by children) None first × (next ≡ cond (nat_le (bricks_of d.given) (count_serving d group)) (Go (Votes (Clear group) children)) (removes_child children first))) q follows in
      post_someone group children w.1.0 q (nat_le (bricks_of d.given) (count_serving d group)) l.within w.0 new w.1.2
  votes_someone (Clear group) children q l new (first, is, follows) = removal_someone children first q new follows

pub unlink_wakes : (x : Ctx) → Wakes x unlink_table DuringUnlink HereUnlink MoreUnlink
unlink_wakes x = record {
  begins = λ given q of s. first_someone OpensAt Exclusive UnlinkJudges unlink_asks MoreUnlink (λ o c. refl) (λ v o c. tt) given q (go_same q (OpensAt (Locking 0)) s.1);
  goes = λ given p q c f d e isin none dur here more r idle follows u dur' here'. go given p q c f d e isin none dur.1 here more r idle follows u here';
}
  where
    go : (given : Given) (p q : UnlinkStage) (c : Account) (f : Asks) (d e : Account) → IsIn x given c → NonePast (subject given.op) (bricks_of given) d → InUnlink p c f → HereUnlink given p c f → MoreUnlink given p c → IsRound (subject given.op) c f d → IsIdle d
        → UnlinkFollows p d (Go q) → IsUnlocked (subject given.op) d e → HereUnlink given q e (unlink_asks q d) → Woken given q d e
    go given (OpensAt (Locking brick)) q c f d e isin none dur here more r idle follows u new = lock_someone OpensAt Exclusive UnlinkJudges unlink_asks MoreUnlink (λ o a. refl) (λ v o c. tt) given brick d e q (r.given ∙ isin.given_is) follows
    go given (OpensAt Query) q c f d e isin none dur here more r idle (grouped, comes, is) u new =
        query_someone x given c f d e isin none r idle u q grouped here dur (judged given d (r.given ∙ isin.given_is) (queried Exclusive given c f d isin.given_is dur here r idle none) (λ answer. ⊥) grouped comes) is
    go given (Name group) q c f d e isin none dur here more r idle follows u new = name_someone x given c f d e isin none r idle u group q here more follows
    go given (Votes stage children) q c f d e isin none dur here more r idle follows u new = votes_someone x given c f d e isin none r idle u stage children q dur.0 new follows
    go given (Enters group children) q c f d e isin none dur here more r idle follows u new = enters_someone x given c f d e isin none r idle u group children q dur follows
    go given (Unmakes child children) q c f d e isin none dur here more r idle (first, is, follows) u new = removal_someone x given c f d e isin none r idle u children first q new follows
