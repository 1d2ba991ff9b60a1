-- The table of a create or mkdir keeps the conduct.
use Rattle.std.proofs.Common.{◌≡◌, ◌⊎◌, ⊎_elim, refl, sym, ◌∙◌, ap, subst, ℕ, ◌+◌, ◌<◌, ◌≤◌, ◌^◌, ◌&&◌, Bool, true, false, cond, nat_lt, nat_le, List, [], ◌∷◌, arith, Option, Some, None}
use Rattle.std.specs.Prelude.{is_some}
use Rattle.std.proofs.lemmas.Bool.{and_parts}
use Rattle.std.proofs.lemmas.Bool.Decides.{nat_tests}
use Rattle.ec_attr.specs.Bricks.{is_in}
use Rattle.ec_attr.specs.declared.head.Head.{Head}
use Rattle.ec_attr.specs.declared.kind.Child.{Child as ChildOf}
use Rattle.ec_attr.specs.declared.kind.Kind.{Kind}
use Rattle.ec_attr.specs.declared.kind.Kind.TheVariants.{File, Dir}
use Rattle.ec_attr.specs.declared.kind.LockKind.TheVariants.{Exclusive}
use Rattle.ec_answers.specs.declared.grouped.Group.{Group}
use Rattle.ec_answers.specs.declared.grouped.Grouped.{Grouped}
use Rattle.ec_answers.specs.declared.grouped.Grouped.TheVariants.{Group as Found, Gone, Fewer}
use Rattle.ec_conduct.specs.Account.{Account, Exchange, Place, at}
use Rattle.ec_conduct.specs.Changes.{IsAllOf}
use Rattle.ec_conduct.specs.Children.{IsPosted}
use Rattle.ec_conduct.specs.Conduct.{IsEarned, IsNamedAnew, MaySend}
use Rattle.ec_conduct.specs.Data.{changes_names, makes_child}
use Rattle.ec_conduct.specs.Done.{did, failed_none, is_change, is_clear, is_done, is_made, is_make, is_pre, since, tried}
use Rattle.ec_conduct.specs.Given.{Given, bricks_of, quorum_of}
use Rattle.ec_conduct.specs.Opened.{opened}
use Rattle.ec_txn.specs.declared.ballot.Ballot.TheVariants.{Pre, Post, Clear}
use Rattle.ec_txn.specs.declared.ctx.Ctx.{Ctx}
use Rattle.ec_txn.specs.declared.opening.Opening.TheVariants.{Lock, Query}
use Rattle.ec_txn.specs.declared.stage.Next.{Next}
use Rattle.ec_txn.specs.declared.stage.Next.TheVariants.{Go, Say}
use Rattle.ec_txn.specs.Ballot.{InBallot, IsGroupAt, Members, ballot_asks, count_serving, is_within, serving, to_members, version_at}
use Rattle.ec_txn.specs.Fetching.{IsFetching}
use Rattle.ec_txn.specs.Opening.{ComesTo, InOpening, IsQuerying, count_locks}
use Rattle.ec_txn.specs.Rounds.{Asks, IsIdle, IsOn, IsReleased, IsRound, IsSent, IsUnlocked, subject}
use Rattle.ec_txn.specs.Tables.{IsIn, IsOf, IsSound}
use Rattle.ec_txn.proofs.BallotGoes.{asks_after, clear_begins, count_after, did_in, group_over, group_released, is_posted, posted_grows, posted_over, posted_released, released_of, requests_for}
use Rattle.ec_txn.proofs.BallotSends.{ballot_may, ballot_on, size_of, some_of, version_in}
use Rattle.ec_txn.proofs.Ballots.{DidAsked}
use Rattle.ec_txn.proofs.Fetching.{fetch_may, fetch_on}
use Rattle.ec_txn.proofs.Openings.{lock_goes, opening_begins, opening_may, opening_on}
use Rattle.ec_wire.specs.declared.answer.Answer.{Answer}
use Rattle.ec_wire.specs.declared.answer.Answer.TheVariants.{Child, Exists, Limit, NoQuorum, NoSuch, NotDir, Spent, Split}
use Rattle.ec_wire.specs.declared.op.Op.{Op}
use Rattle.ec_wire.specs.declared.phase.Phase.{Phase}
use Rattle.ec_wire.specs.declared.phase.Phase.TheVariants.{Lock as LockPhase, Query as QueryPhase, Name as NamePhase, Pre as PrePhase, Make as MakePhase, Entry as EntryPhase, Post as PostPhase}
use Rattle.ec_wire.specs.declared.reply.Reply.{Reply}
use Rattle.ec_wire.specs.declared.request.Request.{Request}
use Rattle.ec_entry.specs.declared.make.MakeStage.{MakeStage}
use Rattle.ec_entry.specs.declared.make.MakeStage.TheVariants.{Opens, Name, Votes, Makes, Enters, Made}
use Rattle.ec_entry.specs.declared.named.Named.{Named}
use Rattle.ec_entry.specs.declared.named.Named.TheVariants.{Alike, Fewer as FewerOf, Split as SplitOf}
use Rattle.ec_entry.specs.Changing.{HasChanged, InChange, InLast, InNaming, IsMade, IsUnmade}
use Rattle.ec_entry.specs.Make.{DuringMake, InMake, IsMake, MakeJudges, child_of, entry_request, free_or_not, made_request, make_asks, make_request, make_table, name_in, name_next, of_kind, query_next}
use Rattle.ec_entry.specs.MakeSays.{SaysMake, says_make}
use Rattle.ec_entry.specs.MembersSound.{IsAsk, asks_next, changed_more, did_by, group_kept, member_may, members_go, members_grow, members_on}
use Rattle.ec_entry.specs.Naming.{name_begins, name_fetching, pre_after_name}
use Rattle.ec_entry.specs.Queried.{full}

-- its requests

make_ask : (given : Given) → IsAsk (subject given.op) (make_request given)
make_ask given = record { of = λ i v. refl; plain = λ i v. refl; lock = λ i v. refl; query = λ i v. refl; pre = λ i v. refl; fit = λ i v. tt; same = λ p k i v. refl }

entry_ask : (given : Given) → IsAsk (subject given.op) (entry_request given)
entry_ask given = record { of = λ i v. refl; plain = λ i v. refl; lock = λ i v. refl; query = λ i v. refl; pre = λ i v. refl; fit = λ i v. tt; same = λ p k i v. refl }

made_ask : (given : Given) → IsAsk (subject given.op) (made_request given)
made_ask given = record { of = λ i v. refl; plain = λ i v. refl; lock = λ i v. refl; query = λ i v. refl; pre = λ i v. refl; fit = λ i v. tt; same = λ p k i v. refl }

-- steps

go_same : (a b : MakeStage) → Go a ≡ Go b → a ≡ b
go_same a b e = cc

go_say : (a : MakeStage) (b : Answer) → Go a ≡ Say b → ⊥
go_say a b e = cc

abbrev says : Answer → Next MakeStage
says answer = Say answer

say_same : (a b : Answer) → says a ≡ says b → a ≡ b
say_same a b e = cc

taken : (t : Bool) (p q : MakeStage) (r : Answer) → Go q ≡ cond t (Go p) (Say r) → (t ≡ true) × (q ≡ p)
taken true p q r e = (refl, go_same q p e)
taken false p q r e = absurd (go_say q r e)

left : (t : Bool) (p : MakeStage) (a r : Answer) → Say a ≡ cond t (Go p) (Say r) → a ≡ r
left true p a r e = absurd (go_say p a (sym e))
left false p a r e = say_same a r e

begins : (x : Ctx) (given : Given) (q : MakeStage) → IsOf x given → make_table.starts given (Go q) → DuringMake q (opened given) (make_table.asks q (opened given))
begins x given q of s = subst (λ (o : MakeStage). DuringMake o (opened given) (make_asks o (opened given))) (sym (taken (nat_le given.child (2 ^ 96)) (Opens (Lock 0)) q Spent s.1).1) (s.0, opening_begins x given Exclusive of)

-- the heads of a directory lead to the name
kind_goes : (kind : Kind) (group : Group) (q : MakeStage) → Go q ≡ of_kind kind group → q ≡ Name group
kind_goes File group q e = absurd (go_say q NotDir e)
kind_goes Dir group q e = go_same q (Name group) e

-- a name that leads nowhere leads to the PreOps
free_goes : (group : Group) (value : Option ChildOf) (q : MakeStage) → Go q ≡ free_or_not group value → (is_within group.head ≡ true) × (q ≡ Votes (Pre group))
free_goes group (Some child) q e = absurd (go_say q (Exists child) e)
free_goes group None q e = taken (is_within group.head) (Votes (Pre group)) q (Limit group.head.version.content) e

name_goes : (group : Group) (named : Named) (q : MakeStage) → Go q ≡ name_next group named → (is_within group.head ≡ true) × (q ≡ Votes (Pre group))
name_goes group (FewerOf most) q e = absurd (go_say q (NoQuorum NamePhase most) e)
name_goes group (Alike value) q e = free_goes group value q e
name_goes group (SplitOf a b) q e = absurd (go_say q (Split a b) e)

-- a window with a Clear more
cleared_at : (given : Given) (group : Group) (i v k : ℕ) (reply : Option Reply) (old new : List Exchange) → is_done reply ≡ true → new ≡ record { number = k; request = requests_for (Clear group) given i v; reply = reply } ∷ old → did is_make old ≡ true
    → (did is_make new ≡ true) × (did is_clear new ≡ true)
cleared_at given group i v k reply old new z e before = subst (λ (es : List Exchange). (did is_make es ≡ true) × (did is_clear es ≡ true)) (sym e) (before, rw z refl)

-- after a round, whose account is d, asks are released that weren't granted, and the next stage begins at e

module _ (c : Account) (f : Asks) (d e : Account) (ce : c.given ≡ e.given) (dg : d.given ≡ e.given) (r : IsRound (subject e.given.op) c f d) (idle : IsIdle d) (u : IsUnlocked (subject e.given.op) d e) where
  round_c : IsRound (subject c.given.op) c f d
  round_c = subst (λ (v : Given). IsRound (subject v.op) c f d) (sym ce) r

  unlocked_c : IsUnlocked (subject c.given.op) d e
  unlocked_c = subst (λ (v : Given). IsUnlocked (subject v.op) d e) (sym ce) u

  -- the child's record is made after the PreOps
  makes_begin : (group : Group) → InBallot (Pre group) c f → IsUnmade group c → InChange group (make_request e.given) (λ grant. []) e (to_members group (make_request d.given) d)
  makes_begin group l m = record {
    within = l.within;
    group_is = group_released (subject e.given.op) group d e (released_of (subject e.given.op) d e u) (group_over (Pre group) c f d e.given l ce r idle);
    ready = members_go group (requests_for (Pre group) e.given) (λ i v es. tried is_made es ≡ false) (λ i v es. HasChanged (subject e.given.op) group [] i v es) c d e ce u
        (did_in (Pre group) c f d e.given l ce r idle)
        (λ i v k reply es z w. record { pre = rw z refl; done = rw z refl; changes_are = refl; made = w }) m;
    asks = asks_next group make_request d e dg u;
  }

  -- the group, as a change is over
  group_now : (group : Group) (q : Given → ℕ → ℕ → Request) (rs : ℕ → List Request) → ((v : Given) → IsAsk (subject v.op) (q v)) → InChange group (q c.given) rs c f → IsGroupAt e (subject e.given.op) group
  group_now group q rs ask l = subst (λ (v : Given). IsGroupAt e (subject v.op) group) ce
      (group_kept (subject c.given.op) group c d e r.given (members_grow group (q c.given) c f d (ask c.given) l.asks round_c idle) unlocked_c l.group_is)

  -- each member that serves did the change
  did_change : (group : Group) (q : Given → ℕ → ℕ → Request) (rs : ℕ → List Request) → ((v : Given) → IsAsk (subject v.op) (q v)) → InChange group (q c.given) rs c f
      → (x j w : ℕ) → x < bricks_of e.given → serving (at d (subject e.given.op) x) ≡ Some j → version_at group x ≡ Some w → DidAsked (q e.given) (at c (subject e.given.op) x) (at d (subject e.given.op) x) j w
  did_change group q rs ask l x j w less s t = subst (λ (v : Given). DidAsked (q v) (at c (subject e.given.op) x) (at d (subject e.given.op) x) j w) ce
      (did_by group (q c.given) c f d e l.within (ask c.given) l.asks ce r idle x j w less s t)

  -- the name is set after the child's record was made
  enters_begin : (group : Group) → InChange group (make_request c.given) (λ grant. []) c f
      → InChange group (entry_request e.given) (λ grant. make_request e.given grant 0 ∷ []) e (to_members group (entry_request d.given) d) × IsMade group e
  enters_begin group l = (
    record {
      within = l.within;
      group_is = group_now group make_request (λ grant. []) make_ask l;
      ready = members_go group (make_request e.given) (λ i v es. HasChanged (subject e.given.op) group [] i v es) (λ i v es. HasChanged (subject e.given.op) group (make_request e.given i 0 ∷ []) i v es) c d e ce u
          (did_change group make_request (λ grant. []) make_ask l)
          (λ i v k reply es z w. changed_more (subject e.given.op) group [] i v k (make_request e.given i v) reply es refl refl refl z w)
          (λ x i v less s t. subst (λ (z : Given). HasChanged (subject z.op) group [] i v (at c (subject c.given.op) x).window) ce (l.ready x i v less s t));
      asks = asks_next group entry_request d e dg u;
    },
    members_go group (make_request e.given) (λ i v es. HasChanged (subject e.given.op) group [] i v es) (λ i v es. did is_make es ≡ true) c d e ce u
        (did_change group make_request (λ grant. []) make_ask l)
        (λ i v k reply es z w. rw z refl)
        (λ x i v less s t. subst (λ (z : Given). HasChanged (subject z.op) group [] i v (at c (subject c.given.op) x).window) ce (l.ready x i v less s t)),
  )

  -- the PostOps go out after the name was set
  post_begins : (group : Group) → IsMake e.given.op → InChange group (entry_request c.given) (λ grant. make_request c.given grant 0 ∷ []) c f → IsMade group c → quorum_of d.given ≤ count_serving d group
      → InBallot (Post group) e (ballot_asks (Post group) d) × IsUnmade group e × IsMade group e
  post_begins group i l m enough =
      let g = subject e.given.op in
      let now : Members group e (λ x i v. HasChanged g group (entry_request e.given i 0 ∷ make_request e.given i 0 ∷ []) i v (at e g x).window) =
      members_go group (entry_request e.given) (λ i v es. HasChanged g group (make_request e.given i 0 ∷ []) i v es) (λ i v es. HasChanged g group (entry_request e.given i 0 ∷ make_request e.given i 0 ∷ []) i v es) c d e ce u
      (did_change group entry_request (λ grant. make_request c.given grant 0 ∷ []) entry_ask l)
      (λ i v k reply es z w. changed_more g group (make_request e.given i 0 ∷ []) i v k (entry_request e.given i v) reply es refl refl refl z w)
      (λ x i v less s t. subst (λ (z : Given). HasChanged (subject z.op) group (make_request z i 0 ∷ []) i v (at c (subject c.given.op) x).window) ce (l.ready x i v less s t)) in
      let says_so = says_make e.given.op i in (
        record {
          within = l.within;
          size = subst (λ (n : ℕ). n ≤ 2 ^ 40) (sym (says_so.size group.head.size)) (size_of group.head l.within);
          group = group_now group entry_request (λ grant. make_request c.given grant 0 ∷ []) entry_ask l;
          at_stage = (
            λ x i v less s t.
                (let w = now x i v less s t in
                record {
                  pre = w.pre;
                  whole = record {
                    done = w.done;
                    all = subst (λ (rs : List Request). IsAllOf e g group.head e.given.op rs) (sym w.changes_are) (says_so.all e i group.head);
                  };
                }),
            subst (λ (n : ℕ). quorum_of e.given ≤ n) (count_after group d e dg u) (subst (λ (v : Given). quorum_of v ≤ count_serving d group) dg enough),
          );
          asks = λ x. asks_after (Post group) d e dg u x;
        },
        λ x i v less s t. (now x i v less s t).made,
        members_go group (entry_request e.given) (λ i v es. did is_make es ≡ true) (λ i v es. did is_make es ≡ true) c d e ce u
            (did_change group entry_request (λ grant. make_request c.given grant 0 ∷ []) entry_ask l)
            (λ i v k reply es z w. w) m,
      )

  -- the Clears go out after the PostOps, where every brick did all
  clears_begin : (group : Group) → InBallot (Post group) c f → IsUnmade group c → IsMade group c → quorum_of d.given ≤ count_serving d group → bricks_of d.given ≤ count_serving d group
      → InBallot (Clear group) e (ballot_asks (Clear group) d) × IsUnmade group e × IsMade group e
  clears_begin group l n m enough all = (
    clear_begins group c f d e l (ce ∙ sym dg) dg (subst (λ (v : Given). IsRound (subject v.op) c f d) (sym dg) r) idle (subst (λ (v : Given). IsUnlocked (subject v.op) d e) (sym dg) u) enough all,
    members_go group (requests_for (Post group) e.given) (λ i v es. tried is_made es ≡ false) (λ i v es. tried is_made es ≡ false) c d e ce u
        (did_in (Post group) c f d e.given l ce r idle)
        (λ i v k reply es z w. w) n,
    members_go group (requests_for (Post group) e.given) (λ i v es. did is_make es ≡ true) (λ i v es. did is_make es ≡ true) c d e ce u
        (did_in (Post group) c f d e.given l ce r idle)
        (λ i v k reply es z w. w) m,
  )

  -- the child's record is said to be whole after the Clears, where every brick did all
  made_begins : (group : Group) → InBallot (Clear group) c f → IsUnmade group c → IsMade group c → bricks_of d.given ≤ count_serving d group → InLast group (made_request e.given) e (to_members group (made_request d.given) d)
  made_begins group l n m all = record {
    posted = posted_released (subject e.given.op) d e (released_of (subject e.given.op) d e u) (subst (λ (v : Given). IsPosted d (subject v.op)) dg (posted_over group c f d l (ce ∙ sym dg) (subst (λ (v : Given). IsRound (subject v.op) c f d) (sym dg) r) idle));
    unmade = members_go group (requests_for (Clear group) e.given) (λ i v es. tried is_made es ≡ false) (λ i v es. tried is_made es ≡ false) c d e ce u
        (did_in (Clear group) c f d e.given l ce r idle)
        (λ i v k reply es z w. w) n;
    all = λ x less. each x less;
    asks = asks_next group made_request d e dg u;
  }
    where
      each : (x : ℕ) → x < bricks_of e.given → (did is_make (at e (subject e.given.op) x).window ≡ true) × (did is_clear (at e (subject e.given.op) x).window ≡ true)
      each x less =
          let g = subject e.given.op in
          let less' : x < bricks_of d.given = subst (λ (v : Given). x < bricks_of v) (sym dg) less in
          let w = and_parts (is_in group.bricks x) (is_some (serving (at d (subject d.given.op) x))) (full (bricks_of d.given) (λ y. is_in group.bricks y && is_some (serving (at d (subject d.given.op) y))) all x less') in
          let s = some_of (serving (at d (subject d.given.op) x)) w.1 in
          let s' : serving (at d g x) ≡ Some s.0 = subst (λ (v : Given). serving (at d (subject v.op) x) ≡ Some s.0) dg s.1 in
          let v = group.head.version.content in
          let k = did_in (Clear group) c f d e.given l ce r idle x s.0 v less s' (version_in group x w.0) in
          let before : did is_make (at c g x).window ≡ true = subst (λ (z : Given). did is_make (at c (subject z.op) x).window ≡ true) ce
          (m x s.0 v (subst (λ (z : Given). x < bricks_of z) (sym ce) less) (subst (λ (z : Given). serving (at c (subject z.op) x) ≡ Some s.0) (sym ce) k.served) (version_in group x w.0)) in
          cleared_at e.given group s.0 v k.number k.reply (at c g x).window (at e g x).window k.done (u.window x ∙ k.window) before

goes : (x : Ctx) (given : Given) (p q : MakeStage) (c : Account) (f : Asks) (d e : Account) → IsIn x given c → DuringMake p c f → IsRound (subject given.op) c f d → IsIdle d
    → make_table.follows p d (Go q) → IsIn x given e → IsUnlocked (subject given.op) d e → DuringMake q e (make_table.asks q d)
goes x given p q c f d e a l r idle follows b u = (is_e, go p q l.1 follows)
  where
    ce : c.given ≡ e.given
    ce = a.given_is ∙ sym b.given_is

    is_e : IsMake e.given.op
    is_e = subst (λ (v : Given). IsMake v.op) ce l.0

    dg : d.given ≡ e.given
    dg = r.given ∙ ce

    re : IsRound (subject e.given.op) c f d
    re = subst (λ (v : Given). IsRound (subject v.op) c f d) (sym b.given_is) r

    ue : IsUnlocked (subject e.given.op) d e
    ue = subst (λ (v : Given). IsUnlocked (subject v.op) d e) (sym b.given_is) u

    at_query : (grouped : Grouped) (o : MakeStage) → InOpening Exclusive Query c f → ComesTo d (subject d.given.op) grouped → Go o ≡ query_next grouped → InMake o e (make_asks o d)
    at_query (Found group) o k came w = subst (λ (s : MakeStage). InMake s e (make_asks s d)) (sym (kind_goes group.head.kind group o w))
        (name_begins group (λ v. name_in v.op) Exclusive c f d e (subst (λ (v : Given). IsQuerying (subject v.op) (bricks_of v) Exclusive c f) ce k) dg re idle ue came)
    at_query (Gone bricks) o k came w = absurd (go_say o NoSuch w)
    at_query (Fewer most) o k came w = absurd (go_say o (NoQuorum QueryPhase most) w)

    at_name : (group : Group) (o : MakeStage) → InNaming group (name_in c.given.op) c f → (is_within group.head ≡ true) × (o ≡ Votes (Pre group)) → InMake o e (make_asks o d)
    at_name group o k w = subst (λ (s : MakeStage). InMake s e (make_asks s d)) (sym w.1)
        (pre_after_name group (name_in c.given.op) c f d e k ce dg (subst (λ (v : Given). IsRound (subject v.op) c f d) (sym a.given_is) r) idle ue w.0
        (subst (λ (n : ℕ). n ≤ 2 ^ 40) (sym ((says_make e.given.op is_e).size group.head.size)) (size_of group.head w.0)))

    go : (s o : MakeStage) → InMake s c f → make_table.follows s d (Go o) → InMake o e (make_asks o d)
    go (Opens (Lock brick)) o k w = lock_goes Opens MakeJudges InMake make_asks x given Exclusive brick o c f d e (λ z y h i. i) (λ z y. refl) a k r idle w b u
    go (Opens Query) o k w = at_query w.0 o k w.1 w.2
    go (Name group) o k w = at_name group o k (name_goes group w.0 o w.2)
    go (Votes (Pre group)) o k w = ⊎_elim
        (λ v. absurd (go_say o (NoQuorum PrePhase (count_serving d group)) v.1))
        (λ v. subst (λ (s : MakeStage). InMake s e (make_asks s d)) (sym (go_same o (Makes group) v.1)) (makes_begin c f d e ce dg re idle ue group k.0 k.1)) w
    go (Makes group) o k w = ⊎_elim
        (λ v. absurd (go_say o (NoQuorum MakePhase (count_serving d group)) v.1))
        (λ v. subst (λ (s : MakeStage). InMake s e (make_asks s d)) (sym (go_same o (Enters group) v.1)) (enters_begin c f d e ce dg re idle ue group k)) w
    go (Enters group) o k w = ⊎_elim
        (λ v. absurd (go_say o (NoQuorum EntryPhase (count_serving d group)) v.1))
        (λ v. subst (λ (s : MakeStage). InMake s e (make_asks s d)) (sym (go_same o (Votes (Post group)) v.1)) (post_begins c f d e ce dg re idle ue group is_e k.0 k.1 v.0)) w
    go (Votes (Post group)) o k w = ⊎_elim
        (λ v. absurd (go_say o (NoQuorum PostPhase (count_serving d group)) v.1))
        (λ v.
        (let t = taken (nat_le (bricks_of d.given) (count_serving d group)) (Votes (Clear group)) o (Child (child_of d.given)) v.1 in
        subst (λ (s : MakeStage). InMake s e (make_asks s d)) (sym t.1) (clears_begin c f d e ce dg re idle ue group k.0 k.1 k.2 v.0 (let z = t.0 in grind (arith, nat_tests))))) w
    go (Votes (Clear group)) o k w =
        let t = taken (nat_le (bricks_of d.given) (count_serving d group)) (Made group) o (Child (child_of d.given)) w in
        subst (λ (s : MakeStage). InMake s e (make_asks s d)) (sym t.1) (made_begins c f d e ce dg re idle ue group k.0 k.1 k.2 (let z = t.0 in grind (arith, nat_tests)))
    go (Made group) o k w = absurd (go_say o (Child (child_of d.given)) w)

-- answers

lock_says : (s t : Bool) (p q : MakeStage) (answer r : Answer) → Say answer ≡ cond s (Go p) (cond t (Go q) (Say r)) → answer ≡ r
lock_says true t p q answer r e = absurd (go_say p answer (sym e))
lock_says false true p q answer r e = absurd (go_say q answer (sym e))
lock_says false false p q answer r e = say_same answer r e

kind_says : (kind : Kind) (group : Group) (answer : Answer) → Say answer ≡ of_kind kind group → answer ≡ NotDir
kind_says File group answer e = say_same answer NotDir e
kind_says Dir group answer e = absurd (go_say (Name group) answer (sym e))

query_says : (e : Account) (op : Op) (grouped : Grouped) (answer : Answer) → SaysMake op → Say answer ≡ query_next grouped → IsEarned e op answer
query_says e op (Found group) answer i w = subst (λ (z : Answer). IsEarned e op z) (sym (kind_says group.head.kind group answer w)) (i.not_dir e)
query_says e op (Gone bricks) answer i w = subst (λ (z : Answer). IsEarned e op z) (sym (say_same answer NoSuch w)) (i.no_such e)
query_says e op (Fewer most) answer i w = subst (λ (z : Answer). IsEarned e op z) (sym (say_same answer (NoQuorum QueryPhase most) w)) (i.no_quorum e QueryPhase most)

free_says : (e : Account) (op : Op) (group : Group) (value : Option ChildOf) (answer : Answer) → SaysMake op → Say answer ≡ free_or_not group value → IsEarned e op answer
free_says e op group (Some child) answer i w = subst (λ (z : Answer). IsEarned e op z) (sym (say_same answer (Exists child) w)) (i.exists e child)
free_says e op group None answer i w = subst (λ (z : Answer). IsEarned e op z) (sym (left (is_within group.head) (Votes (Pre group)) answer (Limit group.head.version.content) w)) (i.limit e group.head.version.content)

name_says : (e : Account) (op : Op) (group : Group) (named : Named) (answer : Answer) → SaysMake op → Say answer ≡ name_next group named → IsEarned e op answer
name_says e op group (FewerOf most) answer i w = subst (λ (z : Answer). IsEarned e op z) (sym (say_same answer (NoQuorum NamePhase most) w)) (i.no_quorum e NamePhase most)
name_says e op group (Alike value) answer i w = free_says e op group value answer i w
name_says e op group (SplitOf a b) answer i w = subst (λ (z : Answer). IsEarned e op z) (sym (say_same answer (Split a b) w)) (i.split e a b)

earned : (x : Ctx) (given : Given) (p : MakeStage) (answer : Answer) (c : Account) (f : Asks) (d e : Account) → IsIn x given c → DuringMake p c f → IsRound (subject given.op) c f d → IsIdle d
    → make_table.follows p d (Say answer) → IsReleased (subject given.op) d e → IsEarned e given.op answer
earned x given p answer c f d e a l r idle follows u = go p l.1 follows
  where
    is : SaysMake given.op
    is = says_make given.op (subst (λ (v : Given). IsMake v.op) a.given_is l.0)

    dg : d.given ≡ given
    dg = r.given ∙ a.given_is

    rd : IsRound (subject d.given.op) c f d
    rd = subst (λ (v : Given). IsRound (subject v.op) c f d) (sym dg) r

    rc : IsRound (subject c.given.op) c f d
    rc = subst (λ (v : Given). IsRound (subject v.op) c f d) (sym a.given_is) r

    tells : (child : ChildOf) → IsPosted d (subject d.given.op) → answer ≡ Child child → IsEarned e given.op answer
    tells child q w = subst (λ (z : Answer). IsEarned e given.op z) (sym w) (is.made e child (posted_released (subject given.op) d e u (subst (λ (v : Given). IsPosted d (subject v.op)) dg q)))

    fails : (phase : Phase) (most : ℕ) → answer ≡ NoQuorum phase most → IsEarned e given.op answer
    fails phase most w = subst (λ (z : Answer). IsEarned e given.op z) (sym w) (is.no_quorum e phase most)

    short : (phase : Phase) (group : Group) (o : MakeStage) → ((count_serving d group < quorum_of d.given) × (says answer ≡ says (NoQuorum phase (count_serving d group)))) ⊎ ((quorum_of d.given ≤ count_serving d group) × (Say answer ≡ Go o)) → IsEarned e given.op answer
    short phase group o w = ⊎_elim
        (λ v. fails phase (count_serving d group) (say_same answer (NoQuorum phase (count_serving d group)) v.1))
        (λ v. absurd (go_say o answer (sym v.1))) w

    go : (s : MakeStage) → InMake s c f → make_table.follows s d (Say answer) → IsEarned e given.op answer
    go (Opens (Lock brick)) k w =
        let g = subject d.given.op in
        fails LockPhase (count_locks d g) (lock_says (nat_lt (brick + 1) (bricks_of d.given)) (nat_le (quorum_of d.given) (count_locks d g)) (Opens (Lock (brick + 1))) (Opens Query) answer (NoQuorum LockPhase (count_locks d g)) w)
    go (Opens Query) k w = query_says e given.op w.0 answer is w.2
    go (Name group) k w = name_says e given.op group w.0 answer is w.2
    go (Votes (Pre group)) k w = short PrePhase group (Makes group) w
    go (Makes group) k w = short MakePhase group (Enters group) w
    go (Enters group) k w = short EntryPhase group (Votes (Post group)) w
    go (Votes (Post group)) k w = ⊎_elim
        (λ v. fails PostPhase (count_serving d group) (say_same answer (NoQuorum PostPhase (count_serving d group)) v.1))
        (λ v. tells (child_of d.given) (is_posted group c f d k.0 (sym r.given) rd idle v.0) (left (nat_le (bricks_of d.given) (count_serving d group)) (Votes (Clear group)) answer (Child (child_of d.given)) v.1)) w
    go (Votes (Clear group)) k w = tells (child_of d.given) (posted_over group c f d k.0 (sym r.given) rd idle) (left (nat_le (bricks_of d.given) (count_serving d group)) (Made group) answer (Child (child_of d.given)) w)
    go (Made group) k w = tells (child_of d.given)
        (subst (λ (v : Given). IsPosted d (subject v.op)) (sym r.given) (posted_grows (subject c.given.op) c d r.given (members_grow group (made_request c.given) c f d (made_ask c.given) k.asks rc idle) k.posted))
        (say_same answer (Child (child_of d.given)) w)

-- what its stages may ask

on : (x : Ctx) (given : Given) (p : MakeStage) (c : Account) (f : Asks) → IsIn x given c → InMake p c f → IsOn (subject given.op) (bricks_of given) (c.on (subject given.op)).queried f
on x given (Opens stage) c f a l = opening_on x given Exclusive stage c f a l
on x given (Name group) c f a l = subst (λ (v : Given). IsOn (subject v.op) (bricks_of v) (c.on (subject v.op)).queried f) a.given_is
    (fetch_on (subject c.given.op) (bricks_of c.given) (c.on (subject c.given.op)).queried c f (name_fetching group (name_in c.given.op) c f l))
on x given (Votes (Pre group)) c f a l = ballot_on x given (Pre group) c f a l.0
on x given (Votes (Post group)) c f a l = ballot_on x given (Post group) c f a l.0
on x given (Votes (Clear group)) c f a l = ballot_on x given (Clear group) c f a l.0
on x given (Makes group) c f a l = subst (λ (v : Given). IsOn (subject v.op) (bricks_of v) (c.on (subject v.op)).queried f) a.given_is (members_on group (make_request c.given) c f (make_ask c.given) l.asks)
on x given (Enters group) c f a l = subst (λ (v : Given). IsOn (subject v.op) (bricks_of v) (c.on (subject v.op)).queried f) a.given_is (members_on group (entry_request c.given) c f (entry_ask c.given) l.0.asks)
on x given (Made group) c f a l = subst (λ (v : Given). IsOn (subject v.op) (bricks_of v) (c.on (subject v.op)).queried f) a.given_is (members_on group (made_request c.given) c f (made_ask c.given) l.asks)

-- the commit is made of the same requests, whatever is sent besides
steady : (c d : Account) (g : ℕ) (head : Head) (rs : List Request) → d.given ≡ c.given → IsMake c.given.op → IsAllOf c g head c.given.op rs → IsAllOf d g head d.given.op rs
steady c d g head rs e i w = subst (λ (v : Given). IsAllOf d g head v.op rs) (sym e) ((says_make c.given.op i).steady c d g head rs (ap (λ (v : Given). v.child) e) w)

-- a brick that did all before stays so in the midst of a round
ready_in : (g : ℕ) (group : Group) (rs : List Request) (i v b : ℕ) (c d : Account) → at d g b ≡ at c g b → HasChanged g group rs i v (at c g b).window → (did is_pre (at d g b).window && failed_none is_change (since is_pre (at d g b).window)) ≡ true
ready_in g group rs i v b c d same w = ap (λ (p : Place). did is_pre p.window && failed_none is_change (since is_pre p.window)) same ∙ w.done

may : (x : Ctx) (given : Given) (p : MakeStage) (c : Account) (f h : Asks) (d : Account) → IsIn x given c → IsMake c.given.op → InMake p c f → IsSent (subject given.op) c h d
    → ((y : ℕ) (r : Request) → h y ≡ Some r → f y ≡ Some r) → (b : ℕ) (r : Request) → f b ≡ Some r → h b ≡ None → MaySend d b r
may x given (Opens stage) c f h d a i l s part b r e n = opening_may x given Exclusive stage c f h d a l s part b r e n
may x given (Name group) c f h d a i l s part b r e n =
    fetch_may x given c f h d a (subst (λ (v : Given). IsFetching (subject v.op) (bricks_of v) c f) a.given_is (name_fetching group (name_in c.given.op) c f l)) s b r e n
may x given (Votes (Pre group)) c f h d a i l s part b r e n = ballot_may c (λ g head d rs k w. steady c d g head rs k.given i w) x given (Pre group) f h d a l.0 s part b r e n
may x given (Votes (Post group)) c f h d a i l s part b r e n = ballot_may c (λ g head d rs k w. steady c d g head rs k.given i w) x given (Post group) f h d a l.0 s part b r e n
may x given (Votes (Clear group)) c f h d a i l s part b r e n = ballot_may c (λ g head d rs k w. steady c d g head rs k.given i w) x given (Clear group) f h d a l.0 s part b r e n
may x given (Makes group) c f h d a i l s part b r e n =
    member_may x given group (make_request c.given) c f h d a (make_ask c.given) l.asks s part (λ b i' v less serves versioned dc same free held. (
      free,
      record {
        change = record { grant_held = held; ready = ready_in (subject c.given.op) group [] i' v b c d (same b) (l.ready b i' v less serves versioned) };
        op = subst (λ (z : Given). makes_child z.op (subject c.given.op) ≡ true) (sym dc) (says_make c.given.op i).makes;
        child_is = ap (λ (z : Given). z.child) (sym dc);
      },
    )) b r e n
may x given (Enters group) c f h d a i l s part b r e n =
    member_may x given group (entry_request c.given) c f h d a (entry_ask c.given) l.0.asks s part (λ b i' v less serves versioned dc same free held. (
      free,
      record {
        change = record { grant_held = held; ready = ready_in (subject c.given.op) group (make_request c.given i' 0 ∷ []) i' v b c d (same b) (l.0.ready b i' v less serves versioned) };
        op = subst (λ (z : Given). changes_names z.op (subject c.given.op) ≡ true) (sym dc) (says_make c.given.op i).names;
        anew = subst (λ (z : Given). IsNamedAnew d z.op (subject c.given.op)) (sym dc) ((says_make c.given.op i).anew d (subject c.given.op));
      },
    )) b r e n
may x given (Made group) c f h d a i l s part b r e n =
    member_may x given group (made_request c.given) c f h d a (made_ask c.given) l.asks s part (λ b i' v less serves versioned dc same free held. (
      free,
      record {
        grant_held = held;
        once = ap (λ (p : Place). tried is_made p.window) (same b) ∙ l.unmade b i' v less serves versioned;
        child_is = ap (λ (z : Given). z.child) (sym dc);
        all = λ y less_y.
            (let w = l.all y (subst (λ (z : Given). y < bricks_of z) dc less_y) in (
              ap (λ (p : Place). did is_make p.window) (same y) ∙ w.0,
              ap (λ (p : Place). did is_clear p.window) (same y) ∙ w.1,
            ));
      },
    )) b r e n

pub make_sound : (x : Ctx) → IsSound x make_table DuringMake
make_sound x = record {
  begins = begins x;
  earned_first = λ given answer of s. subst (λ (z : Answer). IsEarned (opened given) given.op z) (sym (left (nat_le given.child (2 ^ 96)) (Opens (Lock 0)) answer Spent s.1)) ((says_make given.op s.0).spent (opened given));
  goes = goes x;
  earned = earned x;
  again = λ given p c f d e a l r. absurd (let v : false ≡ true = e in cc);
  on = λ given p c f a l. on x given p c f a l.1;
  may = λ given p c f h d a l s part b r e n. may x given p c f h d a l.0 l.1 s part b r e n;
}
