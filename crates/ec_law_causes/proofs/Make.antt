-- The causes of the answers of a create or mkdir.
use Rattle.std.proofs.Common.{◌≡◌, inl, inr, ℕ, ◌^◌, ◌≤◌, nat_le, false, true, refl, sym, ◌∙◌, ap, subst, arith, [], Option, Some, None}
use Rattle.std.proofs.lemmas.Bool.Decides.{nat_tests}
use Rattle.ec_answers.specs.declared.grouped.Group.{Group}
use Rattle.ec_answers.specs.declared.grouped.Grouped.{Grouped}
use Rattle.ec_answers.specs.declared.grouped.Grouped.TheVariants.{Group as Found, Gone, Fewer}
use Rattle.ec_attr.specs.Bricks.{count_below}
use Rattle.ec_attr.specs.declared.kind.Child.{Child as ChildOf}
use Rattle.ec_attr.specs.declared.kind.Kind.{Kind}
use Rattle.ec_attr.specs.declared.kind.Kind.TheVariants.{Dir, File}
use Rattle.ec_attr.specs.declared.kind.LockKind.TheVariants.{Exclusive}
use Rattle.ec_conduct.specs.Account.{Account}
use Rattle.ec_conduct.specs.Given.{Given, bricks_of, quorum_of}
use Rattle.ec_conduct.specs.Opened.{opened}
use Rattle.ec_entry.specs.Make.{DuringMake, InMake, InVotes, MakeFollows, MakeJudges, BallotGoes, child_of, entry_request, first_stage, made_request, make_asks, make_request, make_table, name_in, name_next, of_kind, where_all}
use Rattle.ec_entry.specs.Named.{Value, says}
use Rattle.ec_entry.specs.declared.make.MakeStage.{MakeStage}
use Rattle.ec_entry.specs.declared.make.MakeStage.TheVariants.{Enters, Made, Makes, Name, Opens as OpensAt, Votes}
use Rattle.ec_entry.specs.declared.named.Named.{Named}
use Rattle.ec_entry.specs.declared.named.Named.TheVariants.{Alike, Fewer as FewerOf, Split as SplitOf}
use Rattle.ec_txn.specs.Ballot.{count_serving, is_within}
use Rattle.ec_txn.specs.Opening.{InOpening}
use Rattle.ec_txn.specs.Rounds.{Asks, IsIdle, IsRound, IsUnlocked, subject}
use Rattle.ec_txn.specs.Tables.{IsIn}
use Rattle.ec_txn.specs.declared.ballot.Ballot.{Ballot}
use Rattle.ec_txn.specs.declared.ballot.Ballot.TheVariants.{Pre, Post, Clear}
use Rattle.ec_txn.specs.declared.ctx.Ctx.{Ctx}
use Rattle.ec_txn.specs.declared.opening.Opening.TheVariants.{Lock as Locking, Query}
use Rattle.ec_txn.specs.declared.stage.Next.TheVariants.{Go, Say}
use Rattle.ec_wire.specs.declared.answer.Answer.{Answer}
use Rattle.ec_wire.specs.declared.answer.Answer.TheVariants.{Child, Exists, Limit, NoQuorum, NoSuch, NotDir, Spent, Split}
use Rattle.ec_wire.specs.declared.phase.Phase.TheVariants.{Entry as EntryPhase, Make as MakePhase, Name as NamePhase, Post as PostPhase, Pre as PrePhase, Query as QueryPhase}
use Rattle.ec_wire.specs.declared.request.Request.{Request}
use Rattle.ec_law_causes.specs.Causes.{Else, IsOfKind, IsSplit, LeadsTo, Opens, PassesLimit, SaysChild, make_causes}
use Rattle.ec_law_causes.specs.Counted.{FallsShort, Windows, number, number_named}
use Rattle.ec_law_causes.proofs.Along.{IsKept, NonePast, Tells, unlocked, windows}
use Rattle.ec_law_causes.proofs.BallotSteps.{clear_late, clear_members, no_short, past_limit, post_ends, post_late, post_members, post_stays, pre_ends, pre_members, pre_of, pre_stays, within_limit}
use Rattle.ec_law_causes.proofs.Changes.{change_late, change_members, entries_stay, entry_ends, make_ends, makes_stay}
use Rattle.ec_law_causes.proofs.Members.{HasMembers, members_begin, members_more, members_unlocked}
use Rattle.ec_law_causes.proofs.Naming.{HereNaming, NamedIn, alike_enough, named_here, names_stay, naming_begins, naming_members, no_split, one_value}
use Rattle.ec_law_causes.proofs.Openings.{HereOpening, opening_here}
use Rattle.ec_law_causes.proofs.OpeningSteps.{go_same, go_say, go_when, lock_goes, lock_says, queried, querying, say_go, say_same, say_when}
use Rattle.ec_law_causes.proofs.Queried.{HasGroup, JudgedIn, judged, opens_group}
use Rattle.ec_law_causes.proofs.Ranks.{rank}
use Rattle.ec_law_causes.proofs.Stat.{not_file}

-- there was a gfid to take
abbrev pub IsTaken : Given → Type 0
IsTaken given = given.child ≤ 2 ^ 96

-- the name leads nowhere in a directory
pub record IsFree (given : Given) (group : Group) (w : Windows) : Type 0 where
  pub taken : IsTaken given
  pub dir : group.head.kind ≡ Dir
  pub free : quorum_of given ≤ number_named given w None

pub record PreDone (given : Given) (group : Group) (w : Windows) : Type 0 where
  pub free : IsFree given group w
  pub within : is_within group.head ≡ true
  pub pre : quorum_of given ≤ number given w PrePhase

pub record MakeDone (given : Given) (group : Group) (w : Windows) : Type 0 where
  pub before : PreDone given group w
  pub make : quorum_of given ≤ number given w MakePhase

pub record EntryDone (given : Given) (group : Group) (w : Windows) : Type 0 where
  pub before : MakeDone given group w
  pub entry : quorum_of given ≤ number given w EntryPhase

pub record PostDone (given : Given) (group : Group) (w : Windows) : Type 0 where
  pub before : EntryDone given group w
  pub post : quorum_of given ≤ number given w PostPhase

abbrev pub HereVotes : Given → Ballot → Account → Type 0
HereVotes given (Pre group) c = HasMembers given group 3 c × IsFree given group (windows given c)
HereVotes given (Post group) c = HasMembers given group 9 c × EntryDone given group (windows given c)
HereVotes given (Clear group) c = HasMembers given group 10 c × PostDone given group (windows given c)

abbrev pub HereMake : Given → MakeStage → Account → Asks → Type 0
HereMake given (OpensAt stage) c f = HereOpening Exclusive given stage c f × IsTaken given
HereMake given (Name group) c f = HereNaming given group c f × IsTaken given × (group.head.kind ≡ Dir)
HereMake given (Votes stage) c f = HereVotes given stage c
HereMake given (Makes group) c f = HasMembers given group 5 c × PreDone given group (windows given c)
HereMake given (Enters group) c f = HasMembers given group 8 c × MakeDone given group (windows given c)
HereMake given (Made group) c f = HasMembers given group 11 c × PostDone given group (windows given c)

-- ## What the causes are

abbrev AfterLimit : Given → Windows → Answer → Type 0
AfterLimit given w = Else (FallsShort given w PrePhase) (Else (FallsShort given w MakePhase) (Else (FallsShort given w EntryPhase) (Else (FallsShort given w PostPhase) (SaysChild given))))

abbrev AfterName : Given → Windows → Answer → Type 0
AfterName given w = Else (IsSplit given w) (Else (LeadsTo Exists given w) (Else (PassesLimit given w) (AfterLimit given w)))

abbrev Later : Given → Windows → Answer → Type 0
Later given w = Else (IsOfKind File NotDir given w) (Else (FallsShort given w NamePhase) (AfterName given w))

opened_causes : (given : Given) (w : Windows) (answer : Answer) → IsTaken given → Opens given w (Later given w) answer → make_causes given w answer
opened_causes given w answer taken h = inr (λ other l. (let m = l.0 in omega (arith, m, taken)), h)

-- the name was asked for in a directory
named_causes : (given : Given) (w : Windows) (group : Group) (answer : Answer) → HasGroup given w group → IsTaken given → group.head.kind ≡ Dir → Else (FallsShort given w NamePhase) (AfterName given w) answer → make_causes given w answer
named_causes given w group answer h taken dir later = opened_causes given w answer taken (opens_group given w group (Later given w) answer h (inr (not_file given w group.head NotDir h.head dir, later)))

none_some : (child : ChildOf) → None ≡ Some child → ⊥
none_some child e = cc

free_causes : (given : Given) (w : Windows) (group : Group) (answer : Answer) → HasGroup given w group → IsFree given group w → Else (PassesLimit given w) (AfterLimit given w) answer → make_causes given w answer
free_causes given w group answer h k later = named_causes given w group answer h k.taken k.dir (inr (
  no_short given w NamePhase (alike_enough given w None k.free),
  inr (no_split given w None k.free, inr (λ other l. none_some l.0 (one_value given w None (Some l.0) k.free l.1), later)),
))

limit_causes : (given : Given) (w : Windows) (group : Group) (answer : Answer) → HasGroup given w group → IsFree given group w → is_within group.head ≡ true → AfterLimit given w answer → make_causes given w answer
limit_causes given w group answer h k within later = free_causes given w group answer h k (inr (within_limit given w group h within, later))

pre_causes : (given : Given) (w : Windows) (group : Group) (answer : Answer) → HasGroup given w group → PreDone given group w → Else (FallsShort given w MakePhase) (Else (FallsShort given w EntryPhase) (Else (FallsShort given w PostPhase) (SaysChild given))) answer → make_causes given w answer
pre_causes given w group answer h k later = limit_causes given w group answer h k.free k.within (inr (no_short given w PrePhase k.pre, later))

made_causes : (given : Given) (w : Windows) (group : Group) (answer : Answer) → HasGroup given w group → MakeDone given group w → Else (FallsShort given w EntryPhase) (Else (FallsShort given w PostPhase) (SaysChild given)) answer → make_causes given w answer
made_causes given w group answer h k later = pre_causes given w group answer h k.before (inr (no_short given w MakePhase k.make, later))

entry_causes : (given : Given) (w : Windows) (group : Group) (answer : Answer) → HasGroup given w group → EntryDone given group w → Else (FallsShort given w PostPhase) (SaysChild given) answer → make_causes given w answer
entry_causes given w group answer h k later = made_causes given w group answer h k.before (inr (no_short given w EntryPhase k.entry, later))

post_causes : (given : Given) (w : Windows) (group : Group) (answer : Answer) → HasGroup given w group → PostDone given group w → SaysChild given answer → make_causes given w answer
post_causes given w group answer h k later = entry_causes given w group answer h k.before (inr (no_short given w PostPhase k.post, later))

-- ## What stays

module _ (given : Given) (group : Group) (c : Account) (f : Asks) (d : Account) (cg : c.given ≡ given) (r : IsRound (subject given.op) c f d) (idle : IsIdle d) where
  free_stays : ((x : ℕ) (q : Request) → f x ≡ Some q → 3 ≤ rank q) → IsFree given group (windows given c) → IsFree given group (windows given d)
  free_stays late k = record { taken = k.taken; dir = k.dir; free = subst (λ (s : ℕ → Option Value). quorum_of given ≤ count_below (bricks_of given) (λ x. says None (s x))) (sym (names_stay given c f d r idle late)) k.free }

  pre_done_stays : ((x : ℕ) (q : Request) → f x ≡ Some q → 4 ≤ rank q) → PreDone given group (windows given c) → PreDone given group (windows given d)
  pre_done_stays late k = record { free = free_stays (λ x q e. let l = late x q e in omega (arith, l)) k.free; within = k.within; pre = pre_stays given group c f d cg r idle late k.pre }

  make_done_stays : ((x : ℕ) (q : Request) → f x ≡ Some q → 6 ≤ rank q) → MakeDone given group (windows given c) → MakeDone given group (windows given d)
  make_done_stays late k = record { before = pre_done_stays (λ x q e. let l = late x q e in omega (arith, l)) k.before; make = makes_stay given c f d r idle late k.make }

  entry_done_stays : ((x : ℕ) (q : Request) → f x ≡ Some q → 9 ≤ rank q) → EntryDone given group (windows given c) → EntryDone given group (windows given d)
  entry_done_stays late k = record { before = make_done_stays (λ x q e. let l = late x q e in omega (arith, l)) k.before; entry = entries_stay given c f d r idle late k.entry }

  post_done_stays : ((x : ℕ) (q : Request) → f x ≡ Some q → 10 ≤ rank q) → PostDone given group (windows given c) → PostDone given group (windows given d)
  post_done_stays late k = record { before = entry_done_stays (λ x q e. let l = late x q e in omega (arith, l)) k.before; post = post_stays given group c f d cg r idle late k.post }

-- ## The stages

module _ (x : Ctx) (given : Given) (c : Account) (f : Asks) (d : Account) (isin : IsIn x given c) (none : NonePast (subject given.op) (bricks_of given) d) (r : IsRound (subject given.op) c f d) (idle : IsIdle d) where
  dg : d.given ≡ given
  dg = r.given ∙ isin.given_is

  says_child : (answer : Answer) → answer ≡ Child (child_of d.given) → SaysChild given answer
  says_child answer e = e ∙ ap (λ (v : Given). Child (child_of v)) dg

  -- the Queries are over

  query_goes : (q : MakeStage) (e : Account) (grouped : Grouped) (later : Answer → Type 0) → IsTaken given → HereOpening Exclusive given Query c f → InOpening Exclusive Query c f → JudgedIn given (windows given d) later grouped → MakeJudges d grouped (Go q)
      → IsUnlocked (subject given.op) d e → HereMake given q e (make_asks q d)
  query_goes q e (Found group) later taken here l h is u = by group.head.kind refl is
    where
      by : (kind : Kind) → group.head.kind ≡ kind → Go q ≡ of_kind kind group → HereMake given q e (make_asks q d)
      by File k e' = absurd (go_say q NotDir e')
      by Dir k e' = subst (λ (z : MakeStage). HereMake given z e (make_asks z d)) (sym (go_same q (Name group) e'))
          (naming_begins given group name_in d e dg (members_begin given Exclusive group c f d (querying Exclusive given c f d isin.given_is l here r idle none) here r idle h) u, taken, k)
  query_goes q e (Gone bricks) later taken here l h is u = absurd (go_say q NoSuch is)
  query_goes q e (Fewer most) later taken here l h is u = absurd (go_say q (NoQuorum QueryPhase most) is)

  query_says : (answer : Answer) (grouped : Grouped) → IsTaken given → JudgedIn given (windows given d) (Later given (windows given d)) grouped → MakeJudges d grouped (Say answer) → make_causes given (windows given d) answer
  query_says answer (Found group) taken h is = by group.head.kind refl is
    where
      by : (kind : Kind) → group.head.kind ≡ kind → Say answer ≡ of_kind kind group → make_causes given (windows given d) answer
      by File k e = opened_causes given (windows given d) answer taken (opens_group given (windows given d) group (Later given (windows given d)) answer h (inl (group.head, h.head, k, say_same answer NotDir (Say answer) refl e)))
      by Dir k e = absurd (say_go (Name group) answer e)
  query_says answer (Gone bricks) taken h is = subst (make_causes given (windows given d)) (sym (say_same answer NoSuch (Say answer) refl is)) (opened_causes given (windows given d) NoSuch taken h)
  query_says answer (Fewer most) taken h is = subst (make_causes given (windows given d)) (sym (say_same answer (NoQuorum QueryPhase most) (Say answer) refl is)) (opened_causes given (windows given d) (NoQuorum QueryPhase most) taken h)

  -- the name was asked for
  module _ (group : Group) (here : HereMake given (Name group) c f) where
    members : HasMembers given group 3 d
    members = naming_members given group c f d here.0 r idle none

    name_goes : (q : MakeStage) (e : Account) → MakeFollows (Name group) d (Go q) → IsUnlocked (subject given.op) d e → HereMake given q e (make_asks q d)
    name_goes q e (named, is, follows) u = by named (named_here given group c f d here.0 r idle none named dg is) follows
      where
        by : (named : Named) → NamedIn given (windows given d) named → Go q ≡ name_next group named → HereMake given q e (make_asks q d)
        by (FewerOf most) h w = absurd (go_say q (NoQuorum NamePhase most) w)
        by (SplitOf a b) h w = absurd (go_say q (Split a b) w)
        by (Alike (Some child)) h w = absurd (go_say q (Exists child) w)
        by (Alike None) h w = subst (λ (z : MakeStage). HereMake given z e (make_asks z d)) (sym (go_when (is_within group.head) (Votes (Pre group)) q (Limit group.head.version.content) w).1)
            (members_unlocked given group 3 d e u members, unlocked given d e u (λ v. IsFree given group v) (record { taken = here.1; dir = here.2; free = h }))

    name_says : (answer : Answer) → MakeFollows (Name group) d (Say answer) → make_causes given (windows given d) answer
    name_says answer (named, is, follows) = by named (named_here given group c f d here.0 r idle none named dg is) follows
      where
        by : (named : Named) → NamedIn given (windows given d) named → Say answer ≡ name_next group named → make_causes given (windows given d) answer
        by (FewerOf most) h w = subst (make_causes given (windows given d)) (sym (say_same answer (NoQuorum NamePhase most) (Say answer) refl w)) (named_causes given (windows given d) group (NoQuorum NamePhase most) members.group_is here.1 here.2 (inl h))
        by (SplitOf a b) h w = subst (make_causes given (windows given d)) (sym (say_same answer (Split a b) (Say answer) refl w)) (named_causes given (windows given d) group (Split a b) members.group_is here.1 here.2 (inr (no_short given (windows given d) NamePhase h.0, inl h.1)))
        by (Alike (Some child)) h w = subst (make_causes given (windows given d)) (sym (say_same answer (Exists child) (Say answer) refl w))
            (named_causes given (windows given d) group (Exists child) members.group_is here.1 here.2 (inr (no_short given (windows given d) NamePhase (alike_enough given (windows given d) (Some child) h), inr (no_split given (windows given d) (Some child) h, inl (child, h, refl)))))
        by (Alike None) h w =
            let s = say_when (is_within group.head) (Votes (Pre group)) answer (Limit group.head.version.content) w in
            subst (make_causes given (windows given d)) (sym s.1) (free_causes given (windows given d) group (Limit group.head.version.content) members.group_is (record { taken = here.1; dir = here.2; free = h }) (inl (past_limit given (windows given d) group members.group_is s.0)))

  -- the child's record is made
  module _ (group : Group) (here : HereMake given (Makes group) c f) (l : InMake (Makes group) c f) where
    making : HasMembers given group 6 d
    making = change_members given group (make_request c.given) c f d isin.given_is r idle l.asks 5 (omega arith) (λ i v. refl) here.0

    pre_now : PreDone given group (windows given d)
    pre_now = pre_done_stays given group c f d isin.given_is r idle (λ y q t. let m = change_late given group (make_request c.given) c f d isin.given_is r idle l.asks 5 (λ i v. refl) y q t in omega (arith, m)) here.1

    makes_goes : (q : MakeStage) (e : Account) → MakeFollows (Makes group) d (Go q) → IsUnlocked (subject given.op) d e → HereMake given q e (make_asks q d)
    makes_goes q e follows u = elim (make_ends given group (make_request c.given) c f d isin.given_is r idle l.asks (λ next. next ≡ Go (Enters group)) (Go q) l.within (λ i v. refl) (λ i v. refl) here.0 follows) [
      | inl w ↦ absurd (go_say q w.0 w.1)
      | inr w ↦ subst (λ (z : MakeStage). HereMake given z e (make_asks z d)) (sym (go_same q (Enters group) w.1))
          (members_unlocked given group 8 d e u (members_more given group 6 8 d (omega arith) making), unlocked given d e u (λ v. MakeDone given group v) (record { before = pre_now; make = w.0 }))
    ]

    makes_says : (answer : Answer) → MakeFollows (Makes group) d (Say answer) → make_causes given (windows given d) answer
    makes_says answer follows = elim (make_ends given group (make_request c.given) c f d isin.given_is r idle l.asks (λ next. next ≡ Go (Enters group)) (Say answer) l.within (λ i v. refl) (λ i v. refl) here.0 follows) [
      | inl w ↦ subst (make_causes given (windows given d)) (sym (say_same answer w.0 (Say answer) refl w.1)) (pre_causes given (windows given d) group w.0 making.group_is pre_now (inl w.2))
      | inr w ↦ absurd (say_go (Enters group) answer w.1)
    ]

  -- the name is set
  module _ (group : Group) (here : HereMake given (Enters group) c f) (l : InMake (Enters group) c f) where
    entering : HasMembers given group 9 d
    entering = change_members given group (entry_request c.given) c f d isin.given_is r idle l.0.asks 8 (omega arith) (λ i v. refl) here.0

    made_now : MakeDone given group (windows given d)
    made_now = make_done_stays given group c f d isin.given_is r idle (λ y q t. let m = change_late given group (entry_request c.given) c f d isin.given_is r idle l.0.asks 8 (λ i v. refl) y q t in omega (arith, m)) here.1

    enters_goes : (q : MakeStage) (e : Account) → MakeFollows (Enters group) d (Go q) → IsUnlocked (subject given.op) d e → HereMake given q e (make_asks q d)
    enters_goes q e follows u = elim (entry_ends given group (entry_request c.given) c f d isin.given_is r idle l.0.asks (λ next. next ≡ Go (Votes (Post group))) (Go q) l.0.within (λ i v. refl) (λ i v. refl) here.0 follows) [
      | inl w ↦ absurd (go_say q w.0 w.1)
      | inr w ↦ subst (λ (z : MakeStage). HereMake given z e (make_asks z d)) (sym (go_same q (Votes (Post group)) w.1))
          (members_unlocked given group 9 d e u entering, unlocked given d e u (λ v. EntryDone given group v) (record { before = made_now; entry = w.0 }))
    ]

    enters_says : (answer : Answer) → MakeFollows (Enters group) d (Say answer) → make_causes given (windows given d) answer
    enters_says answer follows = elim (entry_ends given group (entry_request c.given) c f d isin.given_is r idle l.0.asks (λ next. next ≡ Go (Votes (Post group))) (Say answer) l.0.within (λ i v. refl) (λ i v. refl) here.0 follows) [
      | inl w ↦ subst (make_causes given (windows given d)) (sym (say_same answer w.0 (Say answer) refl w.1)) (made_causes given (windows given d) group w.0 entering.group_is made_now (inl w.2))
      | inr w ↦ absurd (say_go (Votes (Post group)) answer w.1)
    ]

  -- the ballot

  late_pre_of : (group : Group) → InVotes (Pre group) c f → (y : ℕ) (q : Request) → f y ≡ Some q → 3 ≤ rank q
  late_pre_of group l = change_late given group (pre_of group c) c f d isin.given_is r idle l.0.asks 3 (λ i v. refl)

  votes_go : (stage : Ballot) (q : MakeStage) (e : Account) → InVotes stage c f → HereVotes given stage c → BallotGoes stage d (Go q) → IsUnlocked (subject given.op) d e → HereMake given q e (make_asks q d)
  votes_go (Pre group) q e l h follows u = elim (pre_ends given group c f d isin.given_is r idle (λ next. next ≡ Go (Makes group)) (Go q) l.0 h.0 follows) [
    | inl w ↦ absurd (go_say q w.0 w.1)
    | inr w ↦
        let late = late_pre_of group l in
        subst (λ (z : MakeStage). HereMake given z e (make_asks z d)) (sym (go_same q (Makes group) w.1)) (
          members_unlocked given group 5 d e u (members_more given group 4 5 d (omega arith) (pre_members given group c f d isin.given_is r idle l.0 h.0)),
          unlocked given d e u (λ v. PreDone given group v) (record { free = free_stays given group c f d isin.given_is r idle late h.1; within = l.0.within; pre = w.0 }),
        )
  ]
  votes_go (Post group) q e l h follows u = elim (post_ends given group c f d isin.given_is r idle (λ next. next ≡ where_all d group (Votes (Clear group))) (Go q) l.0 h.0 follows) [
    | inl w ↦ absurd (go_say q w.0 w.1)
    | inr w ↦ subst (λ (z : MakeStage). HereMake given z e (make_asks z d)) (sym (go_when (nat_le (bricks_of d.given) (count_serving d group)) (Votes (Clear group)) q (Child (child_of d.given)) w.1).1) (
      members_unlocked given group 10 d e u (post_members given group c f d isin.given_is r idle l.0 h.0),
      unlocked given d e u (λ v. PostDone given group v) (record { before = entry_done_stays given group c f d isin.given_is r idle (post_late given group c f d isin.given_is r idle l.0) h.1; post = w.0 }),
    )
  ]
  votes_go (Clear group) q e l h follows u = subst (λ (z : MakeStage). HereMake given z e (make_asks z d)) (sym (go_when (nat_le (bricks_of d.given) (count_serving d group)) (Made group) q (Child (child_of d.given)) follows).1) (
    members_unlocked given group 11 d e u (clear_members given group c f d isin.given_is r idle l.0 h.0),
    unlocked given d e u (λ v. PostDone given group v) (post_done_stays given group c f d isin.given_is r idle (clear_late given group c f d isin.given_is r idle l.0) h.1),
  )

  votes_say : (stage : Ballot) (answer : Answer) → InVotes stage c f → HereVotes given stage c → BallotGoes stage d (Say answer) → make_causes given (windows given d) answer
  votes_say (Pre group) answer l h follows =
      let m = pre_members given group c f d isin.given_is r idle l.0 h.0 in
      elim (pre_ends given group c f d isin.given_is r idle (λ next. next ≡ Go (Makes group)) (Say answer) l.0 h.0 follows) [
        | inl w ↦ subst (make_causes given (windows given d)) (sym (say_same answer w.0 (Say answer) refl w.1))
            (limit_causes given (windows given d) group w.0 m.group_is (free_stays given group c f d isin.given_is r idle (late_pre_of group l) h.1) l.0.within (inl w.2))
        | inr w ↦ absurd (say_go (Makes group) answer w.1)
      ]
  votes_say (Post group) answer l h follows =
      let m = post_members given group c f d isin.given_is r idle l.0 h.0 in
      let ok = entry_done_stays given group c f d isin.given_is r idle (post_late given group c f d isin.given_is r idle l.0) h.1 in
      elim (post_ends given group c f d isin.given_is r idle (λ next. next ≡ where_all d group (Votes (Clear group))) (Say answer) l.0 h.0 follows) [
        | inl w ↦ subst (make_causes given (windows given d)) (sym (say_same answer w.0 (Say answer) refl w.1)) (entry_causes given (windows given d) group w.0 m.group_is ok (inl w.2))
        | inr w ↦ post_causes given (windows given d) group answer m.group_is (record { before = ok; post = w.0 })
            (says_child answer (say_when (nat_le (bricks_of d.given) (count_serving d group)) (Votes (Clear group)) answer (Child (child_of d.given)) w.1).1)
      ]
  votes_say (Clear group) answer l h follows =
      let m = clear_members given group c f d isin.given_is r idle l.0 h.0 in
      post_causes given (windows given d) group answer m.group_is (post_done_stays given group c f d isin.given_is r idle (clear_late given group c f d isin.given_is r idle l.0) h.1)
      (says_child answer (say_when (nat_le (bricks_of d.given) (count_serving d group)) (Made group) answer (Child (child_of d.given)) follows).1)

  -- the child's record is said to be whole
  made_says : (group : Group) (answer : Answer) → HereMake given (Made group) c f → InMake (Made group) c f → MakeFollows (Made group) d (Say answer) → make_causes given (windows given d) answer
  made_says group answer here l follows =
      let m = change_members given group (made_request c.given) c f d isin.given_is r idle l.asks 11 (omega arith) (λ i v. refl) here.0 in
      let late = change_late given group (made_request c.given) c f d isin.given_is r idle l.asks 11 (λ i v. refl) in
      post_causes given (windows given d) group answer m.group_is (post_done_stays given group c f d isin.given_is r idle (λ y q t. let k = late y q t in omega (arith, k)) here.1)
      (says_child answer (say_same answer (Child (child_of d.given)) (Say answer) refl follows))

-- ## The table

starts_go : (child : ℕ) (q : MakeStage) → Go q ≡ first_stage child → (child ≤ 2 ^ 96) × (q ≡ OpensAt (Locking 0))
starts_go child q e = let w = go_when (nat_le child (2 ^ 96)) (OpensAt (Locking 0)) q Spent e in ((let t = w.0 in grind (arith, nat_tests)), w.1)

starts_say : (given : Given) (w : Windows) (answer : Answer) → Say answer ≡ first_stage given.child → make_causes given w answer
starts_say given w answer e = let s = say_when (nat_le given.child (2 ^ 96)) (OpensAt (Locking 0)) answer Spent e in inl ((let t = s.0 in grind (arith, nat_tests)), s.1)

pub make_kept : (x : Ctx) → IsKept x make_table DuringMake HereMake
make_kept x = record {
  begins = λ given q of s. (let w = starts_go given.child q s.1 in subst (λ (z : MakeStage). HereMake given z (opened given) (make_asks z (opened given))) (sym w.1) (opening_here Exclusive given of.kept, w.0));
  goes = λ given p q c f d e isin none dur here r idle quiet follows isin' u. go given p q c f d e isin none dur.1 here r idle follows u;
  again = λ given p c f d t. absurd (let v : false ≡ true = t in cc);
}
  where
    go : (given : Given) (p q : MakeStage) (c : Account) (f : Asks) (d e : Account) → IsIn x given c → NonePast (subject given.op) (bricks_of given) d → InMake p c f → HereMake given p c f → IsRound (subject given.op) c f d → IsIdle d
        → MakeFollows p d (Go q) → IsUnlocked (subject given.op) d e → HereMake given q e (make_asks q d)
    go given (OpensAt (Locking brick)) q c f d e isin none dur here r idle follows u = lock_goes OpensAt Exclusive MakeJudges given brick c f d isin.given_is (r.given ∙ isin.given_is) dur here.0 r idle make_asks HereMake (λ o a k i. (i, here.1)) (λ o a. refl) q e follows u
    go given (OpensAt Query) q c f d e isin none dur here r idle (grouped, comes, is) u =
        query_goes x given c f d isin none r idle q e grouped (λ answer. ⊥) here.1 here.0 dur (judged given d (r.given ∙ isin.given_is) (queried Exclusive given c f d isin.given_is dur here.0 r idle none) (λ answer. ⊥) grouped comes) is u
    go given (Name group) q c f d e isin none dur here r idle follows u = name_goes x given c f d isin none r idle group here q e follows u
    go given (Votes stage) q c f d e isin none dur here r idle follows u = votes_go x given c f d isin none r idle stage q e dur here follows u
    go given (Makes group) q c f d e isin none dur here r idle follows u = makes_goes x given c f d isin none r idle group here dur q e follows u
    go given (Enters group) q c f d e isin none dur here r idle follows u = enters_goes x given c f d isin none r idle group here dur q e follows u
    go given (Made group) q c f d e isin none dur here r idle follows u = absurd (go_say q (Child (child_of d.given)) follows)

pub make_tells : (x : Ctx) → Tells x make_table DuringMake HereMake make_causes
make_tells x = record {
  first = λ given answer of s. starts_say given (λ y. []) answer s.1;
  last = λ given p answer c f d isin none dur here r idle quiet follows. last given p answer c f d isin none dur.1 here r idle follows;
}
  where
    last : (given : Given) (p : MakeStage) (answer : Answer) (c : Account) (f : Asks) (d : Account) → IsIn x given c → NonePast (subject given.op) (bricks_of given) d → InMake p c f → HereMake given p c f → IsRound (subject given.op) c f d → IsIdle d
        → MakeFollows p d (Say answer) → make_causes given (windows given d) answer
    last given (OpensAt (Locking brick)) answer c f d isin none dur here r idle follows =
        opened_causes given (windows given d) answer here.1 (lock_says OpensAt Exclusive MakeJudges given brick c f d isin.given_is (r.given ∙ isin.given_is) dur here.0 r idle (Later given (windows given d)) answer follows)
    last given (OpensAt Query) answer c f d isin none dur here r idle (grouped, comes, is) =
        query_says x given c f d isin none r idle answer grouped here.1 (judged given d (r.given ∙ isin.given_is) (queried Exclusive given c f d isin.given_is dur here.0 r idle none) (Later given (windows given d)) grouped comes) is
    last given (Name group) answer c f d isin none dur here r idle follows = name_says x given c f d isin none r idle group here answer follows
    last given (Votes stage) answer c f d isin none dur here r idle follows = votes_say x given c f d isin none r idle stage answer dur here follows
    last given (Makes group) answer c f d isin none dur here r idle follows = makes_says x given c f d isin none r idle group here dur answer follows
    last given (Enters group) answer c f d isin none dur here r idle follows = enters_says x given c f d isin none r idle group here dur answer follows
    last given (Made group) answer c f d isin none dur here r idle follows = made_says x given c f d isin none r idle group answer here dur follows
