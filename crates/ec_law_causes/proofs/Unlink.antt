-- The causes of the answers of an unlink.
use Rattle.std.proofs.Common.{◌≡◌, ◌⊎◌, inl, inr, ⊎_elim, ℕ, ◌<◌, ◌≤◌, nat_le, nat_lt, Bool, false, true, cond, refl, sym, ◌∙◌, ap, subst, arith, [], Option, Some, None}
use Rattle.std.proofs.lemmas.Bool.{cases_lt}
use Rattle.std.proofs.lemmas.Bool.Decides.{nat_tests}
use Rattle.ec_answers.specs.declared.grouped.Group.{Group}
use Rattle.ec_answers.specs.declared.grouped.Grouped.{Grouped}
use Rattle.ec_answers.specs.declared.grouped.Grouped.TheVariants.{Group as Found, Gone as NoRecord, Fewer}
use Rattle.ec_attr.specs.Bricks.{count_below}
use Rattle.ec_attr.specs.declared.gfid.Gfid.{Gfid}
use Rattle.ec_attr.specs.declared.kind.Child.{Child as ChildOf}
use Rattle.ec_attr.specs.declared.kind.Kind.{Kind}
use Rattle.ec_attr.specs.declared.kind.Kind.TheVariants.{Dir, File}
use Rattle.ec_attr.specs.declared.kind.LockKind.TheVariants.{Exclusive}
use Rattle.ec_conduct.specs.Account.{Account}
use Rattle.ec_conduct.specs.Given.{Given, bricks_of, quorum_of}
use Rattle.ec_conduct.specs.Opened.{opened}
use Rattle.ec_entry.specs.Children.{IsFirst, child_by, count_dirs, is_dir_in}
use Rattle.ec_entry.specs.Named.{Value, said, says}
use Rattle.ec_entry.specs.Unlink.{BallotGoes, DuringUnlink, FirstRemoved, InUnlink, InVotes, UnlinkFollows, UnlinkJudges, entry_request, name_in, name_next, of_kind, removes_child, removes_name, there_or_not, unlink_asks, unlink_table}
use Rattle.ec_entry.specs.declared.children.Children.{Children}
use Rattle.ec_entry.specs.declared.unlink.UnlinkStage.{UnlinkStage}
use Rattle.ec_entry.specs.declared.unlink.UnlinkStage.TheVariants.{Enters, Name, Opens as OpensAt, Unmakes, Votes}
use Rattle.ec_entry.specs.declared.named.Named.{Named}
use Rattle.ec_entry.specs.declared.named.Named.TheVariants.{Alike, Fewer as FewerOf, Split as SplitOf}
use Rattle.ec_txn.specs.Ballot.{count_serving, is_within}
use Rattle.ec_txn.specs.Opening.{InOpening}
use Rattle.ec_txn.specs.Replies.{replied}
use Rattle.ec_txn.specs.Rounds.{Asks, IsIdle, IsRound, IsUnlocked, subject}
use Rattle.ec_txn.specs.Tables.{IsIn}
use Rattle.ec_txn.specs.declared.ballot.Ballot.{Ballot}
use Rattle.ec_txn.specs.declared.ballot.Ballot.TheVariants.{Pre, Post, Clear}
use Rattle.ec_txn.specs.declared.ctx.Ctx.{Ctx}
use Rattle.ec_txn.specs.declared.opening.Opening.TheVariants.{Lock as Locking, Query}
use Rattle.ec_txn.specs.declared.stage.Next.{Next}
use Rattle.ec_txn.specs.declared.stage.Next.TheVariants.{Go, Say}
use Rattle.ec_wire.specs.declared.answer.Answer.{Answer}
use Rattle.ec_wire.specs.declared.answer.Answer.TheVariants.{Gone, IsDir, Limit, NoName, NoQuorum, NoSuch, NotDir}
use Rattle.ec_wire.specs.declared.phase.Phase.TheVariants.{Entry as EntryPhase, Name as NamePhase, Post as PostPhase, Pre as PrePhase, Query as QueryPhase}
use Rattle.ec_wire.specs.declared.request.Request.{Request}
use Rattle.ec_law_causes.specs.Causes.{Else, HasNoName, IsGone, IsOfKind, NamesDir, PassesLimit, unlink_causes}
use Rattle.ec_law_causes.specs.Counted.{FallsShort, Windows, named_in, number, number_named}
use Rattle.ec_law_causes.proofs.Along.{IsKept, NonePast, Tells, unlocked, windows}
use Rattle.ec_law_causes.proofs.BallotSteps.{clear_late, clear_members, no_short, past_limit, post_ends, post_late, post_members, post_stays, pre_ends, pre_members, pre_of, pre_stays, within_limit}
use Rattle.ec_law_causes.proofs.Changes.{change_late, change_members, entries_stay, entry_ends}
use Rattle.ec_law_causes.proofs.Members.{HasMembers, members_begin, members_more, members_over, members_unlocked}
use Rattle.ec_law_causes.proofs.Naming.{HereNaming, NamedIn, all_bricks, alike_enough, beyond, named_here, names_stay, naming_begins, naming_members, one_value, replies_stay, said_now}
use Rattle.ec_law_causes.proofs.Openings.{HereOpening, opening_here}
use Rattle.ec_law_causes.proofs.OpeningSteps.{go_same, go_say, go_when, lock_goes, lock_says, queried, querying, say_go, say_same, say_when}
use Rattle.ec_law_causes.proofs.Queried.{HasGroup, JudgedIn, judged, opens_group}
use Rattle.ec_law_causes.proofs.Ranks.{rank}
use Rattle.ec_law_causes.proofs.Stat.{not_file}
use Rattle.ec_law_causes.proofs.Walking.{counts_one, some_below}

-- K bricks replied of the name in a directory, none of them a directory, and no K of them that there is none
pub record IsThere (given : Given) (group : Group) (w : Windows) : Type 0 where
  pub dir : group.head.kind ≡ Dir
  pub enough : quorum_of given ≤ number given w NamePhase
  pub files : (x : ℕ) → x < bricks_of given → is_dir_in (named_in given w x) ≡ false
  pub there : number_named given w None < quorum_of given

pub record PreDone (given : Given) (group : Group) (w : Windows) : Type 0 where
  pub there : IsThere given group w
  pub within : is_within group.head ≡ true
  pub pre : quorum_of given ≤ number given w PrePhase

pub record EntryDone (given : Given) (group : Group) (w : Windows) : Type 0 where
  pub before : PreDone given group w
  pub entry : quorum_of given ≤ number given w EntryPhase

pub record PostDone (given : Given) (group : Group) (w : Windows) : Type 0 where
  pub before : EntryDone given group w
  pub post : quorum_of given ≤ number given w PostPhase

abbrev pub HereVotes : Given → Ballot → Account → Type 0
HereVotes given (Pre group) c = HasMembers given group 3 c × IsThere given group (windows given c)
HereVotes given (Post group) c = HasMembers given group 9 c × EntryDone given group (windows given c)
HereVotes given (Clear group) c = HasMembers given group 10 c × PostDone given group (windows given c)

abbrev pub HereUnlink : Given → UnlinkStage → Account → Asks → Type 0
HereUnlink given (OpensAt stage) c f = HereOpening Exclusive given stage c f
HereUnlink given (Name group) c f = HereNaming given group c f × (group.head.kind ≡ Dir)
HereUnlink given (Votes stage children) c f = HereVotes given stage c
HereUnlink given (Enters group children) c f = HasMembers given group 8 c × PreDone given group (windows given c)
HereUnlink given (Unmakes child children) c f = (group : Group) × HasMembers given group 13 c × PostDone given group (windows given c)

-- ## What the causes are

abbrev AfterLimit : Given → Windows → Answer → Type 0
AfterLimit given w = Else (FallsShort given w PrePhase) (Else (FallsShort given w EntryPhase) (Else (FallsShort given w PostPhase) IsGone))

abbrev AfterKind : Given → Windows → Answer → Type 0
AfterKind given w = Else (FallsShort given w NamePhase) (Else (NamesDir given w) (Else (HasNoName given w) (Else (PassesLimit given w) (AfterLimit given w))))

abbrev Later : Given → Windows → Answer → Type 0
Later given w = Else (IsOfKind File NotDir given w) (AfterKind given w)

-- the name was asked for in a directory
named_causes : (given : Given) (w : Windows) (group : Group) (answer : Answer) → HasGroup given w group → group.head.kind ≡ Dir → AfterKind given w answer → unlink_causes given w answer
named_causes given w group answer h dir later = opens_group given w group (Later given w) answer h (inr (not_file given w group.head NotDir h.head dir, later))

no_dirs : (given : Given) (w : Windows) → ((x : ℕ) → x < bricks_of given → is_dir_in (named_in given w x) ≡ false) → (other : Answer) → NamesDir given w other → ⊥
no_dirs given w files other (x, less, is, e) = both (sym (files x less) ∙ is)
  where
    both : false ≡ true → ⊥
    both t = cc

there_causes : (given : Given) (w : Windows) (group : Group) (answer : Answer) → HasGroup given w group → IsThere given group w → Else (PassesLimit given w) (AfterLimit given w) answer → unlink_causes given w answer
there_causes given w group answer h k later = named_causes given w group answer h k.dir (inr (
  no_short given w NamePhase k.enough,
  inr (no_dirs given w k.files, inr (λ other l. (let m = l.0 in let few = k.there in omega (arith, m, few)), later)),
))

limit_causes : (given : Given) (w : Windows) (group : Group) (answer : Answer) → HasGroup given w group → IsThere given group w → is_within group.head ≡ true → AfterLimit given w answer → unlink_causes given w answer
limit_causes given w group answer h k within later = there_causes given w group answer h k (inr (within_limit given w group h within, later))

pre_causes : (given : Given) (w : Windows) (group : Group) (answer : Answer) → HasGroup given w group → PreDone given group w → Else (FallsShort given w EntryPhase) (Else (FallsShort given w PostPhase) IsGone) answer → unlink_causes given w answer
pre_causes given w group answer h k later = limit_causes given w group answer h k.there k.within (inr (no_short given w PrePhase k.pre, later))

entry_causes : (given : Given) (w : Windows) (group : Group) (answer : Answer) → HasGroup given w group → EntryDone given group w → Else (FallsShort given w PostPhase) IsGone answer → unlink_causes given w answer
entry_causes given w group answer h k later = pre_causes given w group answer h k.before (inr (no_short given w EntryPhase k.entry, later))

post_causes : (given : Given) (w : Windows) (group : Group) (answer : Answer) → HasGroup given w group → PostDone given group w → IsGone answer → unlink_causes given w answer
post_causes given w group answer h k later = entry_causes given w group answer h k.before (inr (no_short given w PostPhase k.post, later))

-- ## What stays

module _ (given : Given) (group : Group) (c : Account) (f : Asks) (d : Account) (cg : c.given ≡ given) (r : IsRound (subject given.op) c f d) (idle : IsIdle d) where
  there_stays : ((x : ℕ) (q : Request) → f x ≡ Some q → 3 ≤ rank q) → IsThere given group (windows given c) → IsThere given group (windows given d)
  there_stays late k =
      let same = names_stay given c f d r idle late in
      record {
        dir = k.dir;
        enough = replies_stay given c f d r idle late k.enough;
        files = λ x less. ap (λ (s : ℕ → Option Value). is_dir_in (s x)) same ∙ k.files x less;
        there = subst (λ (s : ℕ → Option Value). count_below (bricks_of given) (λ x. says None (s x)) < quorum_of given) (sym same) k.there;
      }

  pre_done_stays : ((x : ℕ) (q : Request) → f x ≡ Some q → 4 ≤ rank q) → PreDone given group (windows given c) → PreDone given group (windows given d)
  pre_done_stays late k = record { there = there_stays (λ x q e. let l = late x q e in omega (arith, l)) k.there; within = k.within; pre = pre_stays given group c f d cg r idle late k.pre }

  entry_done_stays : ((x : ℕ) (q : Request) → f x ≡ Some q → 9 ≤ rank q) → EntryDone given group (windows given c) → EntryDone given group (windows given d)
  entry_done_stays late k = record { before = pre_done_stays (λ x q e. let l = late x q e in omega (arith, l)) k.before; entry = entries_stay given c f d r idle late k.entry }

  post_done_stays : ((x : ℕ) (q : Request) → f x ≡ Some q → 10 ≤ rank q) → PostDone given group (windows given c) → PostDone given group (windows given d)
  post_done_stays late k = record { before = entry_done_stays (λ x q e. let l = late x q e in omega (arith, l)) k.before; post = post_stays given group c f d cg r idle late k.post }

-- ## Directories among the replies

module _ (given : Given) (w : Windows) (past : (x : ℕ) → bricks_of given ≤ x → w x ≡ []) where
  some_dir : 0 < count_dirs (named_in given w) → (x : ℕ) × (x < bricks_of given) × (is_dir_in (named_in given w x) ≡ true)
  some_dir pos =
      let s = some_below 31 (λ x. is_dir_in (named_in given w x)) pos in
      elim (cases_lt s.0 (bricks_of given)) [
        | inl l ↦ (s.0, l, s.2)
        | inr le ↦ absurd (both (sym (ap is_dir_in (beyond given w past s.0 le)) ∙ s.2))
      ]
    where
      both : false ≡ true → ⊥
      both t = cc

  none_dir : nat_lt 0 (count_dirs (named_in given w)) ≡ false → (x : ℕ) → x < bricks_of given → is_dir_in (named_in given w x) ≡ false
  none_dir e x less = by (is_dir_in (named_in given w x)) refl
    where
      by : (t : Bool) → is_dir_in (named_in given w x) ≡ t → is_dir_in (named_in given w x) ≡ false
      by false t = t
      by true t =
          let pos = counts_one 31 (λ y. is_dir_in (named_in given w y)) x (let m = all_bricks given w past in omega (arith, m, less)) t in
          absurd (let zero : count_dirs (named_in given w) ≤ 0 = grind (arith, nat_tests) in omega (arith, pos, zero))

-- ## The stages

none_some : (child : ChildOf) → None ≡ Some child → ⊥
none_some child e = cc

-- The replies to the name: they end the call, or the name is removed.
abbrev NameOver : Given → Group → Children → Windows → Next UnlinkStage → Type 0
NameOver given group children w next = ((answer : Answer) × (next ≡ Say answer) × AfterKind given w answer) ⊎ (IsThere given group w × (next ≡ removes_name group children))

module _ (given : Given) (group : Group) (children : Children) (w : Windows) (past : (x : ℕ) → bricks_of given ≤ x → w x ≡ []) (dir : group.head.kind ≡ Dir) (next : Next UnlinkStage) where
  -- a directory refuses
  refused : quorum_of given ≤ number given w NamePhase → nat_lt 0 (count_dirs (named_in given w)) ≡ true → next ≡ Say IsDir → NameOver given group children w next
  refused enough t e =
      let s = some_dir given w past (let k = t in grind (arith, nat_tests)) in
      inl (IsDir, e, inr (no_short given w NamePhase enough, inl (s.0, s.1, s.2, refl)))

  removed : quorum_of given ≤ number given w NamePhase → nat_lt 0 (count_dirs (named_in given w)) ≡ false → number_named given w None < quorum_of given → next ≡ removes_name group children → NameOver given group children w next
  removed enough t few e = inr (record { dir = dir; enough = enough; files = none_dir given w past t; there = few }, e)

  by_value : (value : Value) → quorum_of given ≤ number_named given w value → nat_lt 0 (count_dirs (named_in given w)) ≡ false → next ≡ there_or_not group children value → NameOver given group children w next
  by_value None le t e = inl (NoName, e, inr (no_short given w NamePhase (alike_enough given w None le), inr (no_dirs given w (none_dir given w past t), inl (le, refl))))
  by_value (Some child) le t e = removed (alike_enough given w (Some child) le) t few e
    where
      few : number_named given w None < quorum_of given
      few = elim (cases_lt (number_named given w None) (quorum_of given)) [
        | inl l ↦ l
        | inr l ↦ absurd (none_some child (one_value given w None (Some child) l le))
      ]

  by_dirs : (t : Bool) (p : Next UnlinkStage) → nat_lt 0 (count_dirs (named_in given w)) ≡ t → quorum_of given ≤ number given w NamePhase → next ≡ cond t (Say IsDir) p → (nat_lt 0 (count_dirs (named_in given w)) ≡ false → next ≡ p → NameOver given group children w next) → NameOver given group children w next
  by_dirs true p t enough e other = refused enough t e
  by_dirs false p t enough e other = other t e

  name_over : (named : Named) → NamedIn given w named → next ≡ name_next group children (count_dirs (named_in given w)) named → NameOver given group children w next
  name_over (FewerOf most) h e = inl (NoQuorum NamePhase most, e, inl h)
  name_over (Alike value) h e = by_dirs (nat_lt 0 (count_dirs (named_in given w))) (there_or_not group children value) refl (alike_enough given w value h) e (by_value value h)
  name_over (SplitOf a b) h e = by_dirs (nat_lt 0 (count_dirs (named_in given w))) (removes_name group children) refl h.0 e (λ t i. removed h.0 t (h.1.0 None) i)

module _ (x : Ctx) (given : Given) (c : Account) (f : Asks) (d : Account) (isin : IsIn x given c) (none : NonePast (subject given.op) (bricks_of given) d) (r : IsRound (subject given.op) c f d) (idle : IsIdle d) where
  dg : d.given ≡ given
  dg = r.given ∙ isin.given_is

  -- the Queries are over

  query_goes : (q : UnlinkStage) (e : Account) (grouped : Grouped) (later : Answer → Type 0) → HereOpening Exclusive given Query c f → InOpening Exclusive Query c f → JudgedIn given (windows given d) later grouped → UnlinkJudges d grouped (Go q)
      → IsUnlocked (subject given.op) d e → HereUnlink given q e (unlink_asks q d)
  query_goes q e (Found group) later here l h is u = by group.head.kind refl is
    where
      by : (kind : Kind) → group.head.kind ≡ kind → Go q ≡ of_kind kind group → HereUnlink given q e (unlink_asks q d)
      by File k e' = absurd (go_say q NotDir e')
      by Dir k e' = subst (λ (z : UnlinkStage). HereUnlink given z e (unlink_asks z d)) (sym (go_same q (Name group) e'))
          (naming_begins given group name_in d e dg (members_begin given Exclusive group c f d (querying Exclusive given c f d isin.given_is l here r idle none) here r idle h) u, k)
  query_goes q e (NoRecord bricks) later here l h is u = absurd (go_say q NoSuch is)
  query_goes q e (Fewer most) later here l h is u = absurd (go_say q (NoQuorum QueryPhase most) is)

  query_says : (answer : Answer) (grouped : Grouped) → JudgedIn given (windows given d) (Later given (windows given d)) grouped → UnlinkJudges d grouped (Say answer) → unlink_causes given (windows given d) answer
  query_says answer (Found group) h is = by group.head.kind refl is
    where
      by : (kind : Kind) → group.head.kind ≡ kind → Say answer ≡ of_kind kind group → unlink_causes given (windows given d) answer
      by File k e = opens_group given (windows given d) group (Later given (windows given d)) answer h (inl (group.head, h.head, k, say_same answer NotDir (Say answer) refl e))
      by Dir k e = absurd (say_go (Name group) answer e)
  query_says answer (NoRecord bricks) h is = subst (unlink_causes given (windows given d)) (sym (say_same answer NoSuch (Say answer) refl is)) h
  query_says answer (Fewer most) h is = subst (unlink_causes given (windows given d)) (sym (say_same answer (NoQuorum QueryPhase most) (Say answer) refl is)) h

  -- the name was asked for
  module _ (group : Group) (here : HereUnlink given (Name group) c f) where
    members : HasMembers given group 3 d
    members = naming_members given group c f d here.0 r idle none

    name_ends : (next : Next UnlinkStage) → UnlinkFollows (Name group) d next → (children : Children) × NameOver given group children (windows given d) next
    name_ends next (named, children, is, found, follows) =
        let values : said group.bricks (replied d (subject d.given.op)) ≡ named_in given (windows given d) = ap (λ (v : Given). said group.bricks (replied d (subject v.op))) dg ∙ said_now given group c f d here.0 r idle none in
        (children, name_over given group children (windows given d) (λ y le. (none y le).1) here.1 next named (named_here given group c f d here.0 r idle none named dg is) (follows ∙ ap (λ (s : ℕ → Option Value). name_next group children (count_dirs s) named) values))

    name_goes : (q : UnlinkStage) (e : Account) → UnlinkFollows (Name group) d (Go q) → IsUnlocked (subject given.op) d e → HereUnlink given q e (unlink_asks q d)
    name_goes q e follows u =
        let n = name_ends (Go q) follows in
        ⊎_elim (λ w. absurd (go_say q w.0 w.1)) (λ w. subst (λ (z : UnlinkStage). HereUnlink given z e (unlink_asks z d)) (sym (go_when (is_within group.head) (Votes (Pre group) n.0) q (Limit group.head.version.content) w.1).1)
        (members_unlocked given group 3 d e u members, unlocked given d e u (λ v. IsThere given group v) w.0)) n.1

    name_says : (answer : Answer) → UnlinkFollows (Name group) d (Say answer) → unlink_causes given (windows given d) answer
    name_says answer follows =
        let n = name_ends (Say answer) follows in
        ⊎_elim
        (λ w. subst (unlink_causes given (windows given d)) (sym (say_same answer w.0 (Say answer) refl w.1)) (named_causes given (windows given d) group w.0 members.group_is here.1 w.2))
        (λ w. let s = say_when (is_within group.head) (Votes (Pre group) n.0) answer (Limit group.head.version.content) w.1 in
        subst (unlink_causes given (windows given d)) (sym s.1) (there_causes given (windows given d) group (Limit group.head.version.content) members.group_is w.0 (inl (past_limit given (windows given d) group members.group_is s.0))))
        n.1

  -- the name is set to none
  module _ (group : Group) (children : Children) (here : HereUnlink given (Enters group children) c f) (l : InUnlink (Enters group children) c f) where
    entering : HasMembers given group 9 d
    entering = change_members given group (entry_request c.given) c f d isin.given_is r idle l.0.asks 8 (omega arith) (λ i v. refl) here.0

    pre_now : PreDone given group (windows given d)
    pre_now = pre_done_stays given group c f d isin.given_is r idle (λ y q t. let m = change_late given group (entry_request c.given) c f d isin.given_is r idle l.0.asks 8 (λ i v. refl) y q t in omega (arith, m)) here.1

    enters_goes : (q : UnlinkStage) (e : Account) → UnlinkFollows (Enters group children) d (Go q) → IsUnlocked (subject given.op) d e → HereUnlink given q e (unlink_asks q d)
    enters_goes q e follows u = elim (entry_ends given group (entry_request c.given) c f d isin.given_is r idle l.0.asks (λ next. next ≡ Go (Votes (Post group) children)) (Go q) l.0.within (λ i v. refl) (λ i v. refl) here.0 follows) [
      | inl w ↦ absurd (go_say q w.0 w.1)
      | inr w ↦ subst (λ (z : UnlinkStage). HereUnlink given z e (unlink_asks z d)) (sym (go_same q (Votes (Post group) children) w.1))
          (members_unlocked given group 9 d e u entering, unlocked given d e u (λ v. EntryDone given group v) (record { before = pre_now; entry = w.0 }))
    ]

    enters_says : (answer : Answer) → UnlinkFollows (Enters group children) d (Say answer) → unlink_causes given (windows given d) answer
    enters_says answer follows = elim (entry_ends given group (entry_request c.given) c f d isin.given_is r idle l.0.asks (λ next. next ≡ Go (Votes (Post group) children)) (Say answer) l.0.within (λ i v. refl) (λ i v. refl) here.0 follows) [
      | inl w ↦ subst (unlink_causes given (windows given d)) (sym (say_same answer w.0 (Say answer) refl w.1)) (pre_causes given (windows given d) group w.0 entering.group_is pre_now (inl w.2))
      | inr w ↦ absurd (say_go (Votes (Post group) children) answer w.1)
    ]

  -- after the commit

  removal_goes : (group : Group) (children : Children) (first : Option Gfid) (q : UnlinkStage) (e : Account) → HasMembers given group 13 d → PostDone given group (windows given d) → Go q ≡ removes_child children first → IsUnlocked (subject given.op) d e
      → HereUnlink given q e (unlink_asks q d)
  removal_goes group children None q e m done is u = absurd (go_say q Gone is)
  removal_goes group children (Some child) q e m done is u = subst (λ (z : UnlinkStage). HereUnlink given z e (unlink_asks z d)) (sym (go_same q (Unmakes child children) is)) (group, members_unlocked given group 13 d e u m, unlocked given d e u (λ v. PostDone given group v) done)

  removal_says : (group : Group) (children : Children) (first : Option Gfid) (answer : Answer) → HasGroup given (windows given d) group → PostDone given group (windows given d) → Say answer ≡ removes_child children first → unlink_causes given (windows given d) answer
  removal_says group children None answer h done is = post_causes given (windows given d) group answer h done (say_same answer Gone (Say answer) refl is)
  removal_says group children (Some child) answer h done is = absurd (say_go (Unmakes child children) answer is)

  -- the ballot

  late_pre_of : (group : Group) → InVotes (Pre group) c f → (y : ℕ) (q : Request) → f y ≡ Some q → 3 ≤ rank q
  late_pre_of group l = change_late given group (pre_of group c) c f d isin.given_is r idle l.0.asks 3 (λ i v. refl)

  abbrev AfterPost : Group → Children → Next UnlinkStage → Type 0
  AfterPost group children next = (first : Option Gfid) × IsFirst 31 (child_by children) None first × (next ≡ cond (nat_le (bricks_of d.given) (count_serving d group)) (Go (Votes (Clear group) children)) (removes_child children first))

  post_goes : (group : Group) (children : Children) (first : Option Gfid) (q : UnlinkStage) (e : Account) (t : Bool) → HasMembers given group 10 d → PostDone given group (windows given d) → Go q ≡ cond t (Go (Votes (Clear group) children)) (removes_child children first)
      → IsUnlocked (subject given.op) d e → HereUnlink given q e (unlink_asks q d)
  post_goes group children first q e true m done is u = subst (λ (z : UnlinkStage). HereUnlink given z e (unlink_asks z d)) (sym (go_same q (Votes (Clear group) children) is)) (members_unlocked given group 10 d e u m, unlocked given d e u (λ v. PostDone given group v) done)
  post_goes group children first q e false m done is u = removal_goes group children first q e (members_more given group 10 13 d (omega arith) m) done is u

  post_says : (group : Group) (children : Children) (first : Option Gfid) (answer : Answer) (t : Bool) → HasGroup given (windows given d) group → PostDone given group (windows given d) → Say answer ≡ cond t (Go (Votes (Clear group) children)) (removes_child children first)
      → unlink_causes given (windows given d) answer
  post_says group children first answer true h done is = absurd (say_go (Votes (Clear group) children) answer is)
  post_says group children first answer false h done is = removal_says group children first answer h done is

  votes_go : (stage : Ballot) (children : Children) (q : UnlinkStage) (e : Account) → InVotes stage c f → HereVotes given stage c → BallotGoes stage children d (Go q) → IsUnlocked (subject given.op) d e → HereUnlink given q e (unlink_asks q d)
  votes_go (Pre group) children q e l h follows u = elim (pre_ends given group c f d isin.given_is r idle (λ next. next ≡ Go (Enters group children)) (Go q) l.0 h.0 follows) [
    | inl w ↦ absurd (go_say q w.0 w.1)
    | inr w ↦
        let late = late_pre_of group l in
        subst (λ (z : UnlinkStage). HereUnlink given z e (unlink_asks z d)) (sym (go_same q (Enters group children) w.1)) (
          members_unlocked given group 8 d e u (members_more given group 4 8 d (omega arith) (pre_members given group c f d isin.given_is r idle l.0 h.0)),
          unlocked given d e u (λ v. PreDone given group v) (record { there = there_stays given group c f d isin.given_is r idle late h.1; within = l.0.within; pre = w.0 }),
        )
  ]
  votes_go (Post group) children q e l h follows u = elim (post_ends given group c f d isin.given_is r idle (AfterPost group children) (Go q) l h.0 follows) [
    | inl w ↦ absurd (go_say q w.0 w.1)
    | inr w ↦ post_goes group children w.1.0 q e (nat_le (bricks_of d.given) (count_serving d group)) (post_members given group c f d isin.given_is r idle l h.0)
        (record { before = entry_done_stays given group c f d isin.given_is r idle (post_late given group c f d isin.given_is r idle l) h.1; post = w.0 }) w.1.2 u
  ]
  votes_go (Clear group) children q e l h (first, is, follows) u =
      removal_goes group children first q e (members_more given group 11 13 d (omega arith) (clear_members given group c f d isin.given_is r idle l h.0)) (post_done_stays given group c f d isin.given_is r idle (clear_late given group c f d isin.given_is r idle l) h.1) follows u

  votes_say : (stage : Ballot) (children : Children) (answer : Answer) → InVotes stage c f → HereVotes given stage c → BallotGoes stage children d (Say answer) → unlink_causes given (windows given d) answer
  votes_say (Pre group) children answer l h follows =
      let m = pre_members given group c f d isin.given_is r idle l.0 h.0 in
      elim (pre_ends given group c f d isin.given_is r idle (λ next. next ≡ Go (Enters group children)) (Say answer) l.0 h.0 follows) [
        | inl w ↦ subst (unlink_causes given (windows given d)) (sym (say_same answer w.0 (Say answer) refl w.1))
            (limit_causes given (windows given d) group w.0 m.group_is (there_stays given group c f d isin.given_is r idle (late_pre_of group l) h.1) l.0.within (inl w.2))
        | inr w ↦ absurd (say_go (Enters group children) answer w.1)
      ]
  votes_say (Post group) children answer l h follows =
      let m = post_members given group c f d isin.given_is r idle l h.0 in
      let ok = entry_done_stays given group c f d isin.given_is r idle (post_late given group c f d isin.given_is r idle l) h.1 in
      elim (post_ends given group c f d isin.given_is r idle (AfterPost group children) (Say answer) l h.0 follows) [
        | inl w ↦ subst (unlink_causes given (windows given d)) (sym (say_same answer w.0 (Say answer) refl w.1)) (entry_causes given (windows given d) group w.0 m.group_is ok (inl w.2))
        | inr w ↦ post_says group children w.1.0 answer (nat_le (bricks_of d.given) (count_serving d group)) m.group_is (record { before = ok; post = w.0 }) w.1.2
      ]
  votes_say (Clear group) children answer l h (first, is, follows) =
      removal_says group children first answer (clear_members given group c f d isin.given_is r idle l h.0).group_is (post_done_stays given group c f d isin.given_is r idle (clear_late given group c f d isin.given_is r idle l) h.1) follows

  -- the children's records are removed
  module _ (child : Gfid) (children : Children) (here : HereUnlink given (Unmakes child children) c f) (l : InUnlink (Unmakes child children) c f) where
    late_unmake : (y : ℕ) (q : Request) → f y ≡ Some q → rank q ≡ 12
    late_unmake y q e = ap rank (l.asks y q e).4

    unmaking : HasMembers given here.0 13 d
    unmaking = members_over given here.0 13 13 c f d here.1 r idle (omega arith) (λ y q e. let k = late_unmake y q e in (omega (arith, k), omega (arith, k)))

    done : PostDone given here.0 (windows given d)
    done = post_done_stays given here.0 c f d isin.given_is r idle (λ y q e. let k = late_unmake y q e in omega (arith, k)) here.2

    unmakes_goes : (q : UnlinkStage) (e : Account) → FirstRemoved children (Some child) (Go q) → IsUnlocked (subject given.op) d e → HereUnlink given q e (unlink_asks q d)
    unmakes_goes q e (first, is, follows) u = removal_goes here.0 children first q e unmaking done follows u

    unmakes_says : (answer : Answer) → FirstRemoved children (Some child) (Say answer) → unlink_causes given (windows given d) answer
    unmakes_says answer (first, is, follows) = removal_says here.0 children first answer unmaking.group_is done follows

-- ## The table

pub unlink_kept : (x : Ctx) → IsKept x unlink_table DuringUnlink HereUnlink
unlink_kept x = record {
  begins = λ given q of s. subst (λ (z : UnlinkStage). HereUnlink given z (opened given) (unlink_asks z (opened given))) (sym (go_same q (OpensAt (Locking 0)) s.1)) (opening_here Exclusive given of.kept);
  goes = λ given p q c f d e isin none dur here r idle quiet follows isin' u. go given p q c f d e isin none dur.1 here r idle follows u;
  again = λ given p c f d t. absurd (let v : false ≡ true = t in cc);
}
  where
    go : (given : Given) (p q : UnlinkStage) (c : Account) (f : Asks) (d e : Account) → IsIn x given c → NonePast (subject given.op) (bricks_of given) d → InUnlink p c f → HereUnlink given p c f → IsRound (subject given.op) c f d → IsIdle d
        → UnlinkFollows p d (Go q) → IsUnlocked (subject given.op) d e → HereUnlink given q e (unlink_asks q d)
    go given (OpensAt (Locking brick)) q c f d e isin none dur here r idle follows u = lock_goes OpensAt Exclusive UnlinkJudges given brick c f d isin.given_is (r.given ∙ isin.given_is) dur here r idle unlink_asks HereUnlink (λ o a k i. i) (λ o a. refl) q e follows u
    go given (OpensAt Query) q c f d e isin none dur here r idle (grouped, comes, is) u =
        query_goes x given c f d isin none r idle q e grouped (λ answer. ⊥) here dur (judged given d (r.given ∙ isin.given_is) (queried Exclusive given c f d isin.given_is dur here r idle none) (λ answer. ⊥) grouped comes) is u
    go given (Name group) q c f d e isin none dur here r idle follows u = name_goes x given c f d isin none r idle group here q e follows u
    go given (Votes stage children) q c f d e isin none dur here r idle follows u = votes_go x given c f d isin none r idle stage children q e dur.0 here follows u
    go given (Enters group children) q c f d e isin none dur here r idle follows u = enters_goes x given c f d isin none r idle group children here dur q e follows u
    go given (Unmakes child children) q c f d e isin none dur here r idle follows u = unmakes_goes x given c f d isin none r idle child children here dur q e follows u

pub unlink_tells : (x : Ctx) → Tells x unlink_table DuringUnlink HereUnlink unlink_causes
unlink_tells x = record {
  first = λ given answer of s. absurd (say_go (OpensAt (Locking 0)) answer s.1);
  last = λ given p answer c f d isin none dur here r idle quiet follows. last given p answer c f d isin none dur.1 here r idle follows;
}
  where
    last : (given : Given) (p : UnlinkStage) (answer : Answer) (c : Account) (f : Asks) (d : Account) → IsIn x given c → NonePast (subject given.op) (bricks_of given) d → InUnlink p c f → HereUnlink given p c f → IsRound (subject given.op) c f d → IsIdle d
        → UnlinkFollows p d (Say answer) → unlink_causes given (windows given d) answer
    last given (OpensAt (Locking brick)) answer c f d isin none dur here r idle follows = lock_says OpensAt Exclusive UnlinkJudges given brick c f d isin.given_is (r.given ∙ isin.given_is) dur here r idle (Later given (windows given d)) answer follows
    last given (OpensAt Query) answer c f d isin none dur here r idle (grouped, comes, is) =
        query_says x given c f d isin none r idle answer grouped (judged given d (r.given ∙ isin.given_is) (queried Exclusive given c f d isin.given_is dur here r idle none) (Later given (windows given d)) grouped comes) is
    last given (Name group) answer c f d isin none dur here r idle follows = name_says x given c f d isin none r idle group here answer follows
    last given (Votes stage children) answer c f d isin none dur here r idle follows = votes_say x given c f d isin none r idle stage children answer dur.0 here follows
    last given (Enters group children) answer c f d isin none dur here r idle follows = enters_says x given c f d isin none r idle group children here dur answer follows
    last given (Unmakes child children) answer c f d isin none dur here r idle follows = unmakes_says x given c f d isin none r idle child children here dur answer follows
