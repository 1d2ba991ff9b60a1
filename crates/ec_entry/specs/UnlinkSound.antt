-- The table of an unlink keeps the conduct.
use Rattle.std.proofs.Common.{◌≡◌, ◌⊎◌, inl, inr, ⊎_elim, refl, sym, ◌∙◌, ap, subst, ℕ, ◌+◌, ◌<◌, ◌≤◌, ◌^◌, ◌&&◌, Bool, true, false, cond, nat_lt, nat_le, List, [], ◌∷◌, arith, Option, Some, None}
use Rattle.std.proofs.lemmas.Bool.Decides.{nat_tests}
use Rattle.ec_attr.specs.declared.gfid.Gfid.{Gfid}
use Rattle.ec_attr.specs.declared.head.Head.{Head}
use Rattle.ec_attr.specs.declared.kind.Kind.{Kind}
use Rattle.ec_attr.specs.declared.kind.Kind.TheVariants.{File, Dir}
use Rattle.ec_attr.specs.declared.kind.LockKind.TheVariants.{Exclusive}
use Rattle.ec_answers.specs.declared.grouped.Group.{Group}
use Rattle.ec_answers.specs.declared.grouped.Grouped.{Grouped}
use Rattle.ec_answers.specs.declared.grouped.Grouped.TheVariants.{Group as Found, Gone as NoRecord, Fewer}
use Rattle.ec_conduct.specs.Account.{Account, Exchange, Place, at}
use Rattle.ec_conduct.specs.Changes.{IsAllOf}
use Rattle.ec_conduct.specs.Children.{IsFound, IsPosted, MayRemove}
use Rattle.ec_conduct.specs.Conduct.{IsEarned, IsNamedAnew, MaySend}
use Rattle.ec_conduct.specs.Data.{changes_names, removes_child}
use Rattle.ec_conduct.specs.Done.{failed_none, is_change, is_pre, since, did}
use Rattle.ec_conduct.specs.Given.{Given, bricks_of, quorum_of}
use Rattle.ec_conduct.specs.Opened.{opened}
use Rattle.ec_txn.specs.declared.ballot.Ballot.{Ballot}
use Rattle.ec_txn.specs.declared.ballot.Ballot.TheVariants.{Pre, Post, Clear}
use Rattle.ec_txn.specs.declared.ctx.Ctx.{Ctx}
use Rattle.ec_txn.specs.declared.opening.Opening.TheVariants.{Lock as Locking, Query}
use Rattle.ec_txn.specs.declared.stage.Next.{Next}
use Rattle.ec_txn.specs.declared.stage.Next.TheVariants.{Go, Say}
use Rattle.ec_txn.specs.Ballot.{InBallot, Members, ballot_asks, count_serving, is_within}
use Rattle.ec_txn.specs.Fetching.{IsFetching}
use Rattle.ec_txn.specs.Opening.{ComesTo, InOpening, IsQuerying, count_locks}
use Rattle.ec_txn.specs.Replies.{replied}
use Rattle.ec_txn.specs.Rounds.{Asks, IsIdle, IsOn, IsReleased, IsRound, IsSent, IsUnlocked, subject}
use Rattle.ec_txn.specs.Tables.{IsIn, IsOf, IsSound}
use Rattle.ec_txn.proofs.BallotGoes.{asks_after, clear_begins, count_after, grows, is_posted, posted_grows, posted_over, posted_released, released_of}
use Rattle.ec_txn.proofs.BallotSends.{ballot_may, ballot_on, size_of}
use Rattle.ec_txn.proofs.Fetching.{fetch_may, fetch_on}
use Rattle.ec_txn.proofs.Openings.{lock_goes, opening_begins, opening_may, opening_on}
use Rattle.ec_wire.specs.declared.answer.Answer.{Answer}
use Rattle.ec_wire.specs.declared.answer.Answer.TheVariants.{Gone, IsDir, Limit, NoName, NoQuorum, NoSuch, NotDir}
use Rattle.ec_wire.specs.declared.op.Op.{Op}
use Rattle.ec_wire.specs.declared.phase.Phase.{Phase}
use Rattle.ec_wire.specs.declared.phase.Phase.TheVariants.{Lock as LockPhase, Query as QueryPhase, Name as NamePhase, Pre as PrePhase, Entry as EntryPhase, Post as PostPhase}
use Rattle.ec_wire.specs.declared.request.Request.{Request}
use Rattle.ec_entry.specs.declared.children.Children.{Children}
use Rattle.ec_entry.specs.declared.named.Named.{Named}
use Rattle.ec_entry.specs.declared.named.Named.TheVariants.{Alike, Fewer as FewerOf, Split as SplitOf}
use Rattle.ec_entry.specs.declared.unlink.UnlinkStage.{UnlinkStage}
use Rattle.ec_entry.specs.declared.unlink.UnlinkStage.TheVariants.{Opens, Name, Votes, Enters, Unmakes}
use Rattle.ec_entry.specs.Changing.{HasChanged, InChange, InNaming, IsUnmade}
use Rattle.ec_entry.specs.ChangesSound.{change_begins, did_change, group_now}
use Rattle.ec_entry.specs.Children.{AreNamed, IsFirst, child_by, count_dirs}
use Rattle.ec_entry.specs.FoundSound.{are_found, found_begins, locked_asks, removal_grows, removal_may, removal_on, silent_begins}
use Rattle.ec_entry.specs.MembersSound.{IsAsk, changed_more, member_may, members_go, members_grow, members_on}
use Rattle.ec_entry.specs.Named.{Value, said}
use Rattle.ec_entry.specs.Naming.{name_begins, name_fetching, pre_after_name}
use Rattle.ec_entry.specs.Unlink.{AreFound, AreSilent, DuringUnlink, InRemoval, InUnlink, IsUnlink, UnlinkJudges, entry_request, name_in, name_next, of_kind, query_next, removes_child as removes, removes_name, there_or_not, to_locked, unlink_asks, unlink_table, unmake_request}
use Rattle.ec_entry.specs.UnlinkSays.{SaysUnlink, says_unlink}

entry_ask : (given : Given) → IsAsk (subject given.op) (entry_request given)
entry_ask given = record { of = λ i v. refl; plain = λ i v. refl; lock = λ i v. refl; query = λ i v. refl; pre = λ i v. refl; fit = λ i v. tt; same = λ p k i v. refl }

-- steps

go_same : (a b : UnlinkStage) → Go a ≡ Go b → a ≡ b
go_same a b e = cc

go_say : (a : UnlinkStage) (b : Answer) → Go a ≡ Say b → ⊥
go_say a b e = cc

abbrev says : Answer → Next UnlinkStage
says answer = Say answer

say_same : (a b : Answer) → says a ≡ says b → a ≡ b
say_same a b e = cc

taken : (t : Bool) (p q : UnlinkStage) (r : Answer) → Go q ≡ cond t (Go p) (Say r) → (t ≡ true) × (q ≡ p)
taken true p q r e = (refl, go_same q p e)
taken false p q r e = absurd (go_say q r e)

left : (t : Bool) (p : UnlinkStage) (a r : Answer) → Say a ≡ cond t (Go p) (Say r) → a ≡ r
left true p a r e = absurd (go_say p a (sym e))
left false p a r e = say_same a r e

begins : (x : Ctx) (given : Given) (q : UnlinkStage) → IsOf x given → unlink_table.starts given (Go q) → DuringUnlink q (opened given) (unlink_table.asks q (opened given))
begins x given q of s = subst (λ (o : UnlinkStage). DuringUnlink o (opened given) (unlink_asks o (opened given))) (sym (go_same q (Opens (Locking 0)) s.1)) (s.0, opening_begins x given Exclusive of)

-- the heads of a directory lead to the name
kind_goes : (kind : Kind) (group : Group) (q : UnlinkStage) → Go q ≡ of_kind kind group → q ≡ Name group
kind_goes File group q e = absurd (go_say q NotDir e)
kind_goes Dir group q e = go_same q (Name group) e

-- a name that is there leads to the PreOps
there_goes : (group : Group) (children : Children) (value : Value) (q : UnlinkStage) → Go q ≡ there_or_not group children value → (is_within group.head ≡ true) × (q ≡ Votes (Pre group) children)
there_goes group children None q e = absurd (go_say q NoName e)
there_goes group children (Some child) q e = taken (is_within group.head) (Votes (Pre group) children) q (Limit group.head.version.content) e

over_dirs : (t : Bool) (q : UnlinkStage) (next : Next UnlinkStage) → Go q ≡ cond t (Say IsDir) next → Go q ≡ next
over_dirs true q next e = absurd (go_say q IsDir e)
over_dirs false q next e = e

name_goes : (group : Group) (children : Children) (dirs : ℕ) (named : Named) (q : UnlinkStage) → Go q ≡ name_next group children dirs named → (is_within group.head ≡ true) × (q ≡ Votes (Pre group) children)
name_goes group children dirs (FewerOf most) q e = absurd (go_say q (NoQuorum NamePhase most) e)
name_goes group children dirs (Alike value) q e = there_goes group children value q (over_dirs (nat_lt 0 dirs) q (there_or_not group children value) e)
name_goes group children dirs (SplitOf a b) q e = taken (is_within group.head) (Votes (Pre group) children) q (Limit group.head.version.content) (over_dirs (nat_lt 0 dirs) q (removes_name group children) e)

-- the next child is one that was named
next_child : (by : ℕ → Option Gfid) (children : Children) (past first : Option Gfid) (q : UnlinkStage) → IsFirst 31 by past first → Go q ≡ removes children first → (child : Gfid) × (q ≡ Unmakes child children) × ((x : ℕ) × (by x ≡ Some child))
next_child by children past None q is e = absurd (go_say q Gone e)
next_child by children past (Some child) q is e = (child, go_same q (Unmakes child children) e, (is.0.0, is.0.2))

post_goes : (t : Bool) (p q : UnlinkStage) (next : Next UnlinkStage) → Go q ≡ cond t (Go p) next → ((t ≡ true) × (q ≡ p)) ⊎ (Go q ≡ next)
post_goes true p q next e = inl (refl, go_same q p e)
post_goes false p q next e = inr e

-- after a round, whose account is d, asks are released that weren't granted, and the next stage begins at e

module _ (c : Account) (f : Asks) (d e : Account) (ce : c.given ≡ e.given) (dg : d.given ≡ e.given) (r : IsRound (subject e.given.op) c f d) (idle : IsIdle d) (u : IsUnlocked (subject e.given.op) d e) where
  -- the PostOps go out after the name was set
  post_begins : (group : Group) → IsUnlink e.given.op → InChange group (entry_request c.given) (λ grant. []) c f → quorum_of d.given ≤ count_serving d group → InBallot (Post group) e (ballot_asks (Post group) d)
  post_begins group i l enough =
      let g = subject e.given.op in
      let now : Members group e (λ x i v. HasChanged g group (entry_request e.given i 0 ∷ []) i v (at e g x).window) =
      members_go group (entry_request e.given) (λ i v es. HasChanged g group [] i v es) (λ i v es. HasChanged g group (entry_request e.given i 0 ∷ []) i v es) c d e ce u
      (did_change c f d e ce dg r idle u group entry_request (λ grant. []) entry_ask l)
      (λ i v k reply es z w. changed_more g group [] i v k (entry_request e.given i v) reply es refl refl refl z w)
      (λ x i v less s t. subst (λ (z : Given). HasChanged (subject z.op) group [] i v (at c (subject c.given.op) x).window) ce (l.ready x i v less s t)) in
      let says_so = says_unlink e.given.op i in
      record {
        within = l.within;
        size = subst (λ (n : ℕ). n ≤ 2 ^ 40) (sym (says_so.size group.head.size)) (size_of group.head l.within);
        group = group_now c f d e ce dg r idle u group entry_request (λ grant. []) entry_ask l;
        at_stage = (
          λ x i v less s t.
              (let w = now x i v less s t in
              record {
                pre = w.pre;
                whole = record {
                  done = w.done;
                  all = subst (λ (rs : List Request). IsAllOf e g group.head e.given.op rs) (sym w.changes_are) (says_so.all e i group.head);
                };
              }),
          subst (λ (n : ℕ). quorum_of e.given ≤ n) (count_after group d e dg u) (subst (λ (v : Given). quorum_of v ≤ count_serving d group) dg enough),
        );
        asks = λ x. asks_after (Post group) d e dg u x;
      }

  -- the records of the children are removed after the commit
  removal_begins : (child : Gfid) (children : Children) → IsPosted d (subject d.given.op) → AreFound children e → ((x : ℕ) × (child_by children x ≡ Some child)) → InRemoval child children e (to_locked (unmake_request d.given child) d)
  removal_begins child children posted found one = record {
    posted = posted_released (subject e.given.op) d e (released_of (subject e.given.op) d e u) (subst (λ (v : Given). IsPosted d (subject v.op)) dg posted);
    found = found;
    one = one;
    asks = λ x q a. locked_asks e.given child d e dg u x q a;
  }

goes : (x : Ctx) (given : Given) (p q : UnlinkStage) (c : Account) (f : Asks) (d e : Account) → IsIn x given c → DuringUnlink p c f → IsRound (subject given.op) c f d → IsIdle d
    → unlink_table.follows p d (Go q) → IsIn x given e → IsUnlocked (subject given.op) d e → DuringUnlink q e (unlink_table.asks q d)
goes x given p q c f d e a l r idle follows b u = (is_e, go p q l.1 follows)
  where
    ce : c.given ≡ e.given
    ce = a.given_is ∙ sym b.given_is

    is_e : IsUnlink e.given.op
    is_e = subst (λ (v : Given). IsUnlink v.op) ce l.0

    dg : d.given ≡ e.given
    dg = r.given ∙ ce

    re : IsRound (subject e.given.op) c f d
    re = subst (λ (v : Given). IsRound (subject v.op) c f d) (sym b.given_is) r

    rc : IsRound (subject c.given.op) c f d
    rc = subst (λ (v : Given). IsRound (subject v.op) c f d) (sym a.given_is) r

    rd : IsRound (subject d.given.op) c f d
    rd = subst (λ (v : Given). IsRound (subject v.op) c f d) (sym dg) re

    ue : IsUnlocked (subject e.given.op) d e
    ue = subst (λ (v : Given). IsUnlocked (subject v.op) d e) (sym b.given_is) u

    ud : IsUnlocked (subject d.given.op) d e
    ud = subst (λ (v : Given). IsUnlocked (subject v.op) d e) (sym dg) ue

    uc : IsUnlocked (subject c.given.op) d e
    uc = subst (λ (v : Given). IsUnlocked (subject v.op) d e) (sym ce) ue

    g_is : subject c.given.op ≡ subject e.given.op
    g_is = ap (λ (v : Given). subject v.op) ce

    at_query : (grouped : Grouped) (o : UnlinkStage) → InOpening Exclusive Query c f → ComesTo d (subject d.given.op) grouped → Go o ≡ query_next grouped → InUnlink o e (unlink_asks o d)
    at_query (Found group) o k came w =
        let querying : IsQuerying (subject e.given.op) (bricks_of e.given) Exclusive c f = subst (λ (v : Given). IsQuerying (subject v.op) (bricks_of v) Exclusive c f) ce k in
        let naming = name_begins group (λ v. name_in v.op) Exclusive c f d e querying dg re idle ue came in
        subst (λ (s : UnlinkStage). InUnlink s e (unlink_asks s d)) (sym (kind_goes group.head.kind group o w))
        (naming, silent_begins group Exclusive c f d e querying re idle ue naming.group_is)
    at_query (NoRecord bricks) o k came w = absurd (go_say o NoSuch w)
    at_query (Fewer most) o k came w = absurd (go_say o (NoQuorum QueryPhase most) w)

    at_name : (group : Group) (children : Children) (o : UnlinkStage) → InNaming group (name_in c.given.op) c f → AreSilent group c → AreNamed children (said group.bricks (replied d (subject d.given.op)))
        → (is_within group.head ≡ true) × (o ≡ Votes (Pre group) children) → InUnlink o e (unlink_asks o d)
    at_name group children o k silent named w =
        let named' : AreNamed children (said group.bricks (replied d (subject c.given.op))) = subst (λ (v : Given). AreNamed children (said group.bricks (replied d (subject v.op)))) (dg ∙ sym ce) named in
        let found : AreFound children d = λ (y : ℕ) (child : Gfid) (h : child_by children y ≡ Some child). subst (λ (v : Given). IsFound d (subject v.op) child.0) (ce ∙ sym dg) (found_begins group (name_in c.given.op) children c f d k silent rc idle named' y child h) in
        subst (λ (s : UnlinkStage). InUnlink s e (unlink_asks s d)) (sym w.1) (
          pre_after_name group (name_in c.given.op) c f d e k ce dg rc idle ue w.0
              (subst (λ (n : ℕ). n ≤ 2 ^ 40) (sym ((says_unlink e.given.op is_e).size group.head.size)) (size_of group.head w.0)),
          are_found children (subject e.given.op) d d e dg dg refl ue (λ y. inl refl) found,
        )

    -- what was found stays so after a stage of the ballot
    still_found : (stage : Ballot) (children : Children) → InBallot stage c f → AreFound children c → AreFound children e
    still_found stage children k found = are_found children (subject e.given.op) c d e ce dg refl ue (grows stage c f d (subject e.given.op) k re idle) found

    to_child : (children : Children) (past : Option Gfid) (o : UnlinkStage) → IsPosted d (subject d.given.op) → AreFound children e → (first : Option Gfid) → IsFirst 31 (child_by children) past first → Go o ≡ removes children first → InUnlink o e (unlink_asks o d)
    to_child children past o posted found first is w =
        let k = next_child (child_by children) children past first o is w in
        subst (λ (s : UnlinkStage). InUnlink s e (unlink_asks s d)) (sym k.1) (removal_begins c f d e ce dg re idle ue k.0 children posted found k.2)

    go : (s o : UnlinkStage) → InUnlink s c f → unlink_table.follows s d (Go o) → InUnlink o e (unlink_asks o d)
    go (Opens (Locking brick)) o k w = lock_goes Opens UnlinkJudges InUnlink unlink_asks x given Exclusive brick o c f d e (λ z y h i. i) (λ z y. refl) a k r idle w b u
    go (Opens Query) o k w = at_query w.0 o k w.1 w.2
    go (Name group) o k w = at_name group w.1 o k.0 k.1 w.3 (name_goes group w.1 (count_dirs (said group.bricks (replied d (subject d.given.op)))) w.0 o w.4)
    go (Votes (Pre group) children) o k w = ⊎_elim
        (λ v. absurd (go_say o (NoQuorum PrePhase (count_serving d group)) v.1))
        (λ v. subst (λ (s : UnlinkStage). InUnlink s e (unlink_asks s d)) (sym (go_same o (Enters group children) v.1)) (
          change_begins c f d e ce dg re idle ue group entry_request k.0.0 k.0.1,
          still_found (Pre group) children k.0.0 k.1,
        )) w
    go (Enters group children) o k w = ⊎_elim
        (λ v. absurd (go_say o (NoQuorum EntryPhase (count_serving d group)) v.1))
        (λ v. subst (λ (s : UnlinkStage). InUnlink s e (unlink_asks s d)) (sym (go_same o (Votes (Post group) children) v.1)) (
          post_begins c f d e ce dg re idle ue group is_e k.0 v.0,
          are_found children (subject c.given.op) c d e ce dg g_is uc (members_grow group (entry_request c.given) c f d (entry_ask c.given) k.0.asks rc idle) k.1,
        )) w
    go (Votes (Post group) children) o k w = ⊎_elim
        (λ v. absurd (go_say o (NoQuorum PostPhase (count_serving d group)) v.1))
        (λ v. ⊎_elim
        (λ t. subst (λ (s : UnlinkStage). InUnlink s e (unlink_asks s d)) (sym t.1) (
          clear_begins group c f d e k.0 (ce ∙ sym dg) dg rd idle ud v.0 (let z = t.0 in grind (arith, nat_tests)),
          still_found (Post group) children k.0 k.1,
        ))
        (λ t. to_child children None o (is_posted group c f d k.0 (ce ∙ sym dg) rd idle v.0) (still_found (Post group) children k.0 k.1) v.1.0 v.1.1 t)
        (post_goes (nat_le (bricks_of d.given) (count_serving d group)) (Votes (Clear group) children) o (removes children v.1.0) v.1.2)) w
    go (Votes (Clear group) children) o k w = to_child children None o (posted_over group c f d k.0 (ce ∙ sym dg) rd idle) (still_found (Clear group) children k.0 k.1) w.0 w.1 w.2
    go (Unmakes child children) o k w =
        let grow = removal_grows child children c f d k rc idle in
        to_child children (Some child) o
        (subst (λ (v : Given). IsPosted d (subject v.op)) (ce ∙ sym dg) (posted_grows (subject c.given.op) c d r.given grow k.posted))
        (are_found children (subject c.given.op) c d e ce dg g_is uc grow k.found) w.0 w.1 w.2

-- answers

lock_says : (s t : Bool) (p q : UnlinkStage) (answer r : Answer) → Say answer ≡ cond s (Go p) (cond t (Go q) (Say r)) → answer ≡ r
lock_says true t p q answer r e = absurd (go_say p answer (sym e))
lock_says false true p q answer r e = absurd (go_say q answer (sym e))
lock_says false false p q answer r e = say_same answer r e

kind_says : (kind : Kind) (group : Group) (answer : Answer) → Say answer ≡ of_kind kind group → answer ≡ NotDir
kind_says File group answer e = say_same answer NotDir e
kind_says Dir group answer e = absurd (go_say (Name group) answer (sym e))

query_says : (e : Account) (op : Op) (grouped : Grouped) (answer : Answer) → SaysUnlink op → Say answer ≡ query_next grouped → IsEarned e op answer
query_says e op (Found group) answer i w = subst (λ (z : Answer). IsEarned e op z) (sym (kind_says group.head.kind group answer w)) (i.not_dir e)
query_says e op (NoRecord bricks) answer i w = subst (λ (z : Answer). IsEarned e op z) (sym (say_same answer NoSuch w)) (i.no_such e)
query_says e op (Fewer most) answer i w = subst (λ (z : Answer). IsEarned e op z) (sym (say_same answer (NoQuorum QueryPhase most) w)) (i.no_quorum e QueryPhase most)

dirs_say : (e : Account) (op : Op) (t : Bool) (answer : Answer) (next : Next UnlinkStage) → SaysUnlink op → Say answer ≡ cond t (Say IsDir) next → (Say answer ≡ next → IsEarned e op answer) → IsEarned e op answer
dirs_say e op true answer next i w h = subst (λ (z : Answer). IsEarned e op z) (sym (say_same answer IsDir w)) (i.is_dir e)
dirs_say e op false answer next i w h = h w

removes_says : (e : Account) (op : Op) (group : Group) (children : Children) (answer : Answer) → SaysUnlink op → Say answer ≡ removes_name group children → IsEarned e op answer
removes_says e op group children answer i w = subst (λ (z : Answer). IsEarned e op z) (sym (left (is_within group.head) (Votes (Pre group) children) answer (Limit group.head.version.content) w)) (i.limit e group.head.version.content)

there_says : (e : Account) (op : Op) (group : Group) (children : Children) (value : Value) (answer : Answer) → SaysUnlink op → Say answer ≡ there_or_not group children value → IsEarned e op answer
there_says e op group children None answer i w = subst (λ (z : Answer). IsEarned e op z) (sym (say_same answer NoName w)) (i.no_name e)
there_says e op group children (Some child) answer i w = removes_says e op group children answer i w

name_says : (e : Account) (op : Op) (group : Group) (children : Children) (dirs : ℕ) (named : Named) (answer : Answer) → SaysUnlink op → Say answer ≡ name_next group children dirs named → IsEarned e op answer
name_says e op group children dirs (FewerOf most) answer i w = subst (λ (z : Answer). IsEarned e op z) (sym (say_same answer (NoQuorum NamePhase most) w)) (i.no_quorum e NamePhase most)
name_says e op group children dirs (Alike value) answer i w = dirs_say e op (nat_lt 0 dirs) answer (there_or_not group children value) i w (λ v. there_says e op group children value answer i v)
name_says e op group children dirs (SplitOf a b) answer i w = dirs_say e op (nat_lt 0 dirs) answer (removes_name group children) i w (λ v. removes_says e op group children answer i v)

child_says : (children : Children) (first : Option Gfid) (answer : Answer) → Say answer ≡ removes children first → answer ≡ Gone
child_says children None answer e = say_same answer Gone e
child_says children (Some child) answer e = absurd (go_say (Unmakes child children) answer (sym e))

post_says : (t : Bool) (p : UnlinkStage) (answer : Answer) (next : Next UnlinkStage) → Say answer ≡ cond t (Go p) next → Say answer ≡ next
post_says true p answer next e = absurd (go_say p answer (sym e))
post_says false p answer next e = e

earned : (x : Ctx) (given : Given) (p : UnlinkStage) (answer : Answer) (c : Account) (f : Asks) (d e : Account) → IsIn x given c → DuringUnlink p c f → IsRound (subject given.op) c f d → IsIdle d
    → unlink_table.follows p d (Say answer) → IsReleased (subject given.op) d e → IsEarned e given.op answer
earned x given p answer c f d e a l r idle follows u = go p l.1 follows
  where
    is : SaysUnlink given.op
    is = says_unlink given.op (subst (λ (v : Given). IsUnlink v.op) a.given_is l.0)

    dg : d.given ≡ given
    dg = r.given ∙ a.given_is

    rd : IsRound (subject d.given.op) c f d
    rd = subst (λ (v : Given). IsRound (subject v.op) c f d) (sym dg) r

    rc : IsRound (subject c.given.op) c f d
    rc = subst (λ (v : Given). IsRound (subject v.op) c f d) (sym a.given_is) r

    gone : IsPosted d (subject d.given.op) → answer ≡ Gone → IsEarned e given.op answer
    gone q w = subst (λ (z : Answer). IsEarned e given.op z) (sym w) (is.gone e (posted_released (subject given.op) d e u (subst (λ (v : Given). IsPosted d (subject v.op)) dg q)))

    fails : (phase : Phase) (most : ℕ) → answer ≡ NoQuorum phase most → IsEarned e given.op answer
    fails phase most w = subst (λ (z : Answer). IsEarned e given.op z) (sym w) (is.no_quorum e phase most)

    short : (phase : Phase) (group : Group) (o : UnlinkStage) → ((count_serving d group < quorum_of d.given) × (says answer ≡ says (NoQuorum phase (count_serving d group)))) ⊎ ((quorum_of d.given ≤ count_serving d group) × (Say answer ≡ Go o)) → IsEarned e given.op answer
    short phase group o w = ⊎_elim
        (λ v. fails phase (count_serving d group) (say_same answer (NoQuorum phase (count_serving d group)) v.1))
        (λ v. absurd (go_say o answer (sym v.1))) w

    go : (s : UnlinkStage) → InUnlink s c f → unlink_table.follows s d (Say answer) → IsEarned e given.op answer
    go (Opens (Locking brick)) k w =
        let g = subject d.given.op in
        fails LockPhase (count_locks d g) (lock_says (nat_lt (brick + 1) (bricks_of d.given)) (nat_le (quorum_of d.given) (count_locks d g)) (Opens (Locking (brick + 1))) (Opens Query) answer (NoQuorum LockPhase (count_locks d g)) w)
    go (Opens Query) k w = query_says e given.op w.0 answer is w.2
    go (Name group) k w = name_says e given.op group w.1 (count_dirs (said group.bricks (replied d (subject d.given.op)))) w.0 answer is w.4
    go (Votes (Pre group) children) k w = short PrePhase group (Enters group children) w
    go (Enters group children) k w = short EntryPhase group (Votes (Post group) children) w
    go (Votes (Post group) children) k w = ⊎_elim
        (λ v. fails PostPhase (count_serving d group) (say_same answer (NoQuorum PostPhase (count_serving d group)) v.1))
        (λ v. gone (is_posted group c f d k.0 (sym r.given) rd idle v.0) (child_says children v.1.0 answer (post_says (nat_le (bricks_of d.given) (count_serving d group)) (Votes (Clear group) children) answer (removes children v.1.0) v.1.2))) w
    go (Votes (Clear group) children) k w = gone (posted_over group c f d k.0 (sym r.given) rd idle) (child_says children w.0 answer w.2)
    go (Unmakes child children) k w = gone
        (subst (λ (v : Given). IsPosted d (subject v.op)) (sym r.given) (posted_grows (subject c.given.op) c d r.given (removal_grows child children c f d k rc idle) k.posted))
        (child_says children w.0 answer w.2)

-- what its stages may ask

on : (x : Ctx) (given : Given) (p : UnlinkStage) (c : Account) (f : Asks) → IsIn x given c → InUnlink p c f → IsOn (subject given.op) (bricks_of given) (c.on (subject given.op)).queried f
on x given (Opens stage) c f a l = opening_on x given Exclusive stage c f a l
on x given (Name group) c f a l = subst (λ (v : Given). IsOn (subject v.op) (bricks_of v) (c.on (subject v.op)).queried f) a.given_is
    (fetch_on (subject c.given.op) (bricks_of c.given) (c.on (subject c.given.op)).queried c f (name_fetching group (name_in c.given.op) c f l.0))
on x given (Votes (Pre group) children) c f a l = ballot_on x given (Pre group) c f a l.0.0
on x given (Votes (Post group) children) c f a l = ballot_on x given (Post group) c f a l.0
on x given (Votes (Clear group) children) c f a l = ballot_on x given (Clear group) c f a l.0
on x given (Enters group children) c f a l = subst (λ (v : Given). IsOn (subject v.op) (bricks_of v) (c.on (subject v.op)).queried f) a.given_is (members_on group (entry_request c.given) c f (entry_ask c.given) l.0.asks)
on x given (Unmakes child children) c f a l = subst (λ (v : Given). IsOn (subject v.op) (bricks_of v) (c.on (subject v.op)).queried f) a.given_is (removal_on child children c f l)

-- the commit is made of the same request, whatever is sent besides
steady : (c d : Account) (g : ℕ) (head : Head) (rs : List Request) → d.given ≡ c.given → IsUnlink c.given.op → IsAllOf c g head c.given.op rs → IsAllOf d g head d.given.op rs
steady c d g head rs e i w = subst (λ (v : Given). IsAllOf d g head v.op rs) (sym e) ((says_unlink c.given.op i).steady c d g head rs w)

-- a brick that did all before stays so in the midst of a round
ready_in : (g : ℕ) (group : Group) (rs : List Request) (i v b : ℕ) (c d : Account) → at d g b ≡ at c g b → HasChanged g group rs i v (at c g b).window → (did is_pre (at d g b).window && failed_none is_change (since is_pre (at d g b).window)) ≡ true
ready_in g group rs i v b c d same w = ap (λ (p : Place). did is_pre p.window && failed_none is_change (since is_pre p.window)) same ∙ w.done

may : (x : Ctx) (given : Given) (p : UnlinkStage) (c : Account) (f h : Asks) (d : Account) → IsIn x given c → IsUnlink c.given.op → InUnlink p c f → IsSent (subject given.op) c h d
    → ((y : ℕ) (r : Request) → h y ≡ Some r → f y ≡ Some r) → (b : ℕ) (r : Request) → f b ≡ Some r → h b ≡ None → MaySend d b r
may x given (Opens stage) c f h d a i l s part b r e n = opening_may x given Exclusive stage c f h d a l s part b r e n
may x given (Name group) c f h d a i l s part b r e n =
    fetch_may x given c f h d a (subst (λ (v : Given). IsFetching (subject v.op) (bricks_of v) c f) a.given_is (name_fetching group (name_in c.given.op) c f l.0)) s b r e n
may x given (Votes (Pre group) children) c f h d a i l s part b r e n = ballot_may c (λ g head d rs k w. steady c d g head rs k.given i w) x given (Pre group) f h d a l.0.0 s part b r e n
may x given (Votes (Post group) children) c f h d a i l s part b r e n = ballot_may c (λ g head d rs k w. steady c d g head rs k.given i w) x given (Post group) f h d a l.0 s part b r e n
may x given (Votes (Clear group) children) c f h d a i l s part b r e n = ballot_may c (λ g head d rs k w. steady c d g head rs k.given i w) x given (Clear group) f h d a l.0 s part b r e n
may x given (Enters group children) c f h d a i l s part b r e n =
    member_may x given group (entry_request c.given) c f h d a (entry_ask c.given) l.0.asks s part (λ b i' v less serves versioned dc same free held. (
      free,
      record {
        change = record { grant_held = held; ready = ready_in (subject c.given.op) group [] i' v b c d (same b) (l.0.ready b i' v less serves versioned) };
        op = subst (λ (z : Given). changes_names z.op (subject c.given.op) ≡ true) (sym dc) (says_unlink c.given.op i).names;
        anew = subst (λ (z : Given). IsNamedAnew d z.op (subject c.given.op)) (sym dc) ((says_unlink c.given.op i).anew d (subject c.given.op));
      },
    )) b r e n
may x given (Unmakes child children) c f h d a i l s part b r e n =
    removal_may x child children c f h d (subst (λ (v : Given). IsIn x v c) (sym a.given_is) a) l (subst (λ (v : Given). IsSent (subject v.op) c h d) (sym a.given_is) s) part (λ b grant dc free held posted found. (
      free,
      subst (λ (z : Given). MayRemove z.op d b (subject c.given.op) grant child.0) (sym dc) ((says_unlink c.given.op i).unmakes d b (subject c.given.op) grant child.0 (record {
        op = subst (λ (z : Given). removes_child z.op (subject c.given.op) ≡ true) (sym dc) (says_unlink c.given.op i).removes;
        grant_held = held;
        posted = posted;
        found = found;
      })),
    )) b r e n

pub unlink_sound : (x : Ctx) → IsSound x unlink_table DuringUnlink
unlink_sound x = record {
  begins = begins x;
  earned_first = λ given answer of s. absurd (go_say (Opens (Locking 0)) answer (sym s.1));
  goes = goes x;
  earned = earned x;
  again = λ given p c f d e a l r. absurd (let v : false ≡ true = e in cc);
  on = λ given p c f a l. on x given p c f a l.1;
  may = λ given p c f h d a l s part b r e n. may x given p c f h d a l.0 l.1 s part b r e n;
}
