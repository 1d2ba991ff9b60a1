-- The table of a setattr keeps the conduct.
use Rattle.std.proofs.Common.{◌≡◌, ⊎_elim, refl, sym, ◌∙◌, ap, subst, ℕ, ◌+◌, ◌≤◌, ◌^◌, Bool, true, false, cond, nat_lt, nat_le, List, [], arith, Some, None}
use Rattle.std.proofs.lemmas.Bool.Decides.{nat_tests}
use Rattle.ec_attr.specs.declared.attr.Attr.{Attr as AttrOf}
use Rattle.ec_attr.specs.declared.gfid.Gfid.{Gfid}
use Rattle.ec_attr.specs.declared.head.Head.{Head}
use Rattle.ec_attr.specs.declared.kind.LockKind.TheVariants.{Exclusive}
use Rattle.ec_answers.specs.declared.grouped.Group.{Group}
use Rattle.ec_answers.specs.declared.grouped.Grouped.{Grouped}
use Rattle.ec_answers.specs.declared.grouped.Grouped.TheVariants.{Group as Found, Gone, Fewer}
use Rattle.ec_conduct.specs.Account.{Account}
use Rattle.ec_conduct.specs.Ballots.{attr_after, size_after}
use Rattle.ec_conduct.specs.Changes.{IsAllOf}
use Rattle.ec_conduct.specs.Children.{IsPosted}
use Rattle.ec_conduct.specs.Conduct.{IsEarned, MaySend}
use Rattle.ec_conduct.specs.Given.{Given, bricks_of, quorum_of}
use Rattle.ec_conduct.specs.Opened.{opened}
use Rattle.ec_txn.specs.declared.ballot.Ballot.TheVariants.{Pre, Post, Clear}
use Rattle.ec_txn.specs.declared.ctx.Ctx.{Ctx}
use Rattle.ec_txn.specs.declared.opening.Opening.TheVariants.{Lock, Query}
use Rattle.ec_txn.specs.declared.stage.Next.{Next}
use Rattle.ec_txn.specs.declared.stage.Next.TheVariants.{Go, Say}
use Rattle.ec_txn.specs.Ballot.{InBallot, count_serving, is_within}
use Rattle.ec_txn.specs.Opening.{ComesTo, InOpening, IsQuerying, count_locks}
use Rattle.ec_txn.specs.Rounds.{Asks, IsIdle, IsOn, IsReleased, IsRound, IsSent, IsUnlocked, subject}
use Rattle.ec_txn.specs.Tables.{IsIn, IsOf, IsSound}
use Rattle.ec_txn.proofs.BallotGoes.{clear_begins, is_posted, post_begins, posted_over, posted_released, pre_begins}
use Rattle.ec_txn.proofs.BallotSends.{ballot_may, ballot_on, size_of}
use Rattle.ec_txn.proofs.Openings.{lock_goes, opening_begins, opening_may, opening_on}
use Rattle.ec_wire.specs.declared.answer.Answer.{Answer}
use Rattle.ec_wire.specs.declared.answer.Answer.TheVariants.{Limit, NoQuorum, NoSuch}
use Rattle.ec_wire.specs.declared.op.Op.{Op}
use Rattle.ec_wire.specs.declared.op.Op.TheVariants.{Write, Truncate, Read, Stat, Create, Mkdir, Unlink, Lookup, Readdir, Heal, SetAttr, GetAttr, Rename, Rmdir, Scrub, Sweep}
use Rattle.ec_wire.specs.declared.phase.Phase.{Phase}
use Rattle.ec_wire.specs.declared.phase.Phase.TheVariants.{Lock as LockPhase}
use Rattle.ec_wire.specs.declared.request.Request.{Request}
use Rattle.ec_entry.specs.declared.setattr.SetAttrStage.{SetAttrStage}
use Rattle.ec_entry.specs.declared.setattr.SetAttrStage.TheVariants.{Opens, Votes}
use Rattle.ec_entry.specs.SetAttr.{DuringSetAttr, InSetAttr, IsSetAttr, SetAttrJudges, setattr_asks, setattr_table, told}

-- what the call of a setattr is
is_setattr : (op : Op) → IsSetAttr op → (g : Gfid) × (attr : AttrOf) × (op ≡ SetAttr g attr)
is_setattr (SetAttr g attr) i = (g, attr, refl)
is_setattr (Stat g) i = absurd i
is_setattr (Write g off bytes) i = absurd i
is_setattr (Truncate g size) i = absurd i
is_setattr (Read g off len via) i = absurd i
is_setattr (Create g name) i = absurd i
is_setattr (Mkdir g name) i = absurd i
is_setattr (Unlink g name) i = absurd i
is_setattr (Lookup g name) i = absurd i
is_setattr (Readdir g) i = absurd i
is_setattr (Heal g) i = absurd i
is_setattr (GetAttr g) i = absurd i
is_setattr (Rename old name new to) i = absurd i
is_setattr (Rmdir g name) i = absurd i
is_setattr (Scrub g settle) i = absurd i
is_setattr (Sweep full) i = absurd i

no_quorum : (e : Account) (op : Op) (phase : Phase) (most : ℕ) → IsSetAttr op → IsEarned e op (NoQuorum phase most)
no_quorum e op phase most i = let w = is_setattr op i in subst (λ (o : Op). IsEarned e o (NoQuorum phase most)) (sym w.2) tt

no_such : (e : Account) (op : Op) → IsSetAttr op → IsEarned e op NoSuch
no_such e op i = let w = is_setattr op i in subst (λ (o : Op). IsEarned e o NoSuch) (sym w.2) tt

limit : (e : Account) (op : Op) (v : ℕ) → IsSetAttr op → IsEarned e op (Limit v)
limit e op v i = let w = is_setattr op i in subst (λ (o : Op). IsEarned e o (Limit v)) (sym w.2) tt

-- the attribute is told where a quorum has it
attr_told : (e : Account) (op own : Op) → own ≡ op → IsSetAttr op → IsPosted e (subject op) → IsEarned e op (told (attr_after own))
attr_told e op own s i p =
    let w = is_setattr op i in
    subst (λ (o : Op). IsEarned e op (told (attr_after o))) (sym s) (subst (λ (o : Op). IsEarned e o (told (attr_after o))) (sym w.2) (subst (λ (o : Op). IsPosted e (subject o)) w.2 p))

same_size : (op : Op) (size : ℕ) → IsSetAttr op → size_after op size ≡ size
same_size op size i = let w = is_setattr op i in ap (λ (o : Op). size_after o size) w.2

all_of : (e : Account) (op : Op) (head : Head) → IsSetAttr op → IsAllOf e (subject op) head op []
all_of e op head i = let w = is_setattr op i in subst (λ (o : Op). IsAllOf e (subject o) head o []) (sym w.2) (refl, refl)

-- steps

go_same : (a b : SetAttrStage) → Go a ≡ Go b → a ≡ b
go_same a b e = cc

go_say : (a : SetAttrStage) (b : Answer) → Go a ≡ Say b → ⊥
go_say a b e = cc

abbrev says : Answer → Next SetAttrStage
says answer = Say answer

say_same : (a b : Answer) → says a ≡ says b → a ≡ b
say_same a b e = cc

begins : (x : Ctx) (given : Given) (q : SetAttrStage) → IsOf x given → setattr_table.starts given (Go q) → DuringSetAttr q (opened given) (setattr_table.asks q (opened given))
begins x given q of s = subst (λ (o : SetAttrStage). DuringSetAttr o (opened given) (setattr_asks o (opened given))) (sym (go_same q (Opens (Lock 0)) s.1)) (s.0, opening_begins x given Exclusive of)

judged : (t : Bool) (p q : SetAttrStage) (r : Answer) → Go q ≡ cond t (Go p) (Say r) → (t ≡ true) × (q ≡ p)
judged true p q r e = (refl, go_same q p e)
judged false p q r e = absurd (go_say q r e)

refused : (t : Bool) (p : SetAttrStage) (a r : Answer) → Say a ≡ cond t (Go p) (Say r) → a ≡ r
refused true p a r e = absurd (go_say p a (sym e))
refused false p a r e = say_same a r e

goes : (x : Ctx) (given : Given) (p q : SetAttrStage) (c : Account) (f : Asks) (d e : Account) → IsIn x given c → DuringSetAttr p c f → IsRound (subject given.op) c f d → IsIdle d
    → setattr_table.follows p d (Go q) → IsIn x given e → IsUnlocked (subject given.op) d e → DuringSetAttr q e (setattr_table.asks q d)
goes x given p q c f d e a l r idle follows b u = (is_e, go p q l.1 follows)
  where
    is_e : IsSetAttr e.given.op
    is_e = subst (λ (v : Given). IsSetAttr v.op) (a.given_is ∙ sym b.given_is) l.0

    dg : d.given ≡ e.given
    dg = r.given ∙ (a.given_is ∙ sym b.given_is)

    re : IsRound (subject e.given.op) c f d
    re = subst (λ (v : Given). IsRound (subject v.op) c f d) (sym b.given_is) r

    ue : IsUnlocked (subject e.given.op) d e
    ue = subst (λ (v : Given). IsUnlocked (subject v.op) d e) (sym b.given_is) u

    at_pre : (group : Group) (o : SetAttrStage) → InOpening Exclusive Query c f → ComesTo d (subject d.given.op) (Found group) → (is_within group.head ≡ true) × (o ≡ Votes (Pre group)) → InSetAttr o e (setattr_asks o d)
    at_pre group o k came w = subst (λ (s : SetAttrStage). InSetAttr s e (setattr_asks s d)) (sym w.1) (pre_begins group Exclusive c f d e (subst (λ (v : Given). IsQuerying (subject v.op) (bricks_of v) Exclusive c f) (a.given_is ∙ sym b.given_is) k) dg re idle ue came w.0
        (subst (λ (n : ℕ). n ≤ 2 ^ 40) (sym (same_size e.given.op group.head.size is_e)) (size_of group.head w.0)))

    at_query : (grouped : Grouped) (o : SetAttrStage) → InOpening Exclusive Query c f → ComesTo d (subject d.given.op) grouped → SetAttrJudges d grouped (Go o) → InSetAttr o e (setattr_asks o d)
    at_query (Found group) o k came w = at_pre group o k came (judged (is_within group.head) (Votes (Pre group)) o (Limit group.head.version.content) w)
    at_query (Gone bricks) o k came w = absurd (go_say o NoSuch w)
    at_query (Fewer most) o k came w = absurd (go_say o (NoQuorum Rattle.ec_wire.specs.declared.phase.Phase.TheVariants.Query most) w)

    at_clear : (group : Group) (o : SetAttrStage) → InBallot (Post group) c f → quorum_of d.given ≤ count_serving d group → (nat_le (bricks_of d.given) (count_serving d group) ≡ true) × (o ≡ Votes (Clear group)) → InSetAttr o e (setattr_asks o d)
    at_clear group o k enough w = subst (λ (s : SetAttrStage). InSetAttr s e (setattr_asks s d)) (sym w.1) (clear_begins group c f d e k (sym r.given) dg (subst (λ (v : Given). IsRound (subject v.op) c f d) (sym dg) re) idle (subst (λ (v : Given). IsUnlocked (subject v.op) d e) (sym dg) ue)
        enough (let t = w.0 in grind (arith, nat_tests)))

    go : (s o : SetAttrStage) → InSetAttr s c f → setattr_table.follows s d (Go o) → InSetAttr o e (setattr_asks o d)
    go (Opens (Lock brick)) o k w = lock_goes Opens SetAttrJudges InSetAttr setattr_asks x given Exclusive brick o c f d e (λ z y h i. i) (λ z y. refl) a k r idle w b u
    go (Opens Query) o k w = at_query w.0 o k w.1 w.2
    go (Votes (Pre group)) o k w = ⊎_elim
        (λ v. absurd (go_say o (NoQuorum Rattle.ec_wire.specs.declared.phase.Phase.TheVariants.Pre (count_serving d group)) v.1))
        (λ v. subst (λ (s : SetAttrStage). InSetAttr s e (setattr_asks s d)) (sym (go_same o (Votes (Post group)) v.1)) (post_begins group c f d e k (a.given_is ∙ sym b.given_is) dg re idle ue v.0 (all_of e e.given.op group.head is_e))) w
    go (Votes (Post group)) o k w = ⊎_elim
        (λ v. absurd (go_say o (NoQuorum Rattle.ec_wire.specs.declared.phase.Phase.TheVariants.Post (count_serving d group)) v.1))
        (λ v. at_clear group o k v.0 (judged (nat_le (bricks_of d.given) (count_serving d group)) (Votes (Clear group)) o (told (attr_after d.given.op)) v.1)) w
    go (Votes (Clear group)) o k w = absurd (go_say o (told (attr_after d.given.op)) w)

lock_says : (s t : Bool) (p q : SetAttrStage) (answer r : Answer) → Say answer ≡ cond s (Go p) (cond t (Go q) (Say r)) → answer ≡ r
lock_says true t p q answer r e = absurd (go_say p answer (sym e))
lock_says false true p q answer r e = absurd (go_say q answer (sym e))
lock_says false false p q answer r e = say_same answer r e

earned : (x : Ctx) (given : Given) (p : SetAttrStage) (answer : Answer) (c : Account) (f : Asks) (d e : Account) → IsIn x given c → DuringSetAttr p c f → IsRound (subject given.op) c f d → IsIdle d
    → setattr_table.follows p d (Say answer) → IsReleased (subject given.op) d e → IsEarned e given.op answer
earned x given p answer c f d e a l r idle follows u = go p l.1 follows
  where
    is : IsSetAttr given.op
    is = subst (λ (v : Given). IsSetAttr v.op) a.given_is l.0

    dg : d.given ≡ given
    dg = r.given ∙ a.given_is

    rd : IsRound (subject d.given.op) c f d
    rd = subst (λ (v : Given). IsRound (subject v.op) c f d) (sym dg) r

    tells : IsPosted d (subject d.given.op) → answer ≡ told (attr_after d.given.op) → IsEarned e given.op answer
    tells q w = subst (λ (z : Answer). IsEarned e given.op z) (sym w) (attr_told e given.op d.given.op (ap (λ (v : Given). v.op) dg) is (posted_released (subject given.op) d e u (subst (λ (v : Given). IsPosted d (subject v.op)) dg q)))

    fails : (phase : Phase) (most : ℕ) → answer ≡ NoQuorum phase most → IsEarned e given.op answer
    fails phase most w = subst (λ (z : Answer). IsEarned e given.op z) (sym w) (no_quorum e given.op phase most is)

    at_query : (grouped : Grouped) → SetAttrJudges d grouped (Say answer) → IsEarned e given.op answer
    at_query (Found group) w = subst (λ (z : Answer). IsEarned e given.op z) (sym (refused (is_within group.head) (Votes (Pre group)) answer (Limit group.head.version.content) w)) (limit e given.op group.head.version.content is)
    at_query (Gone bricks) w = subst (λ (z : Answer). IsEarned e given.op z) (sym (say_same answer NoSuch w)) (no_such e given.op is)
    at_query (Fewer most) w = fails Rattle.ec_wire.specs.declared.phase.Phase.TheVariants.Query most (say_same answer (NoQuorum Rattle.ec_wire.specs.declared.phase.Phase.TheVariants.Query most) w)

    go : (s : SetAttrStage) → InSetAttr s c f → setattr_table.follows s d (Say answer) → IsEarned e given.op answer
    go (Opens (Lock brick)) k w =
        let g = subject d.given.op in
        fails LockPhase (count_locks d g) (lock_says (nat_lt (brick + 1) (bricks_of d.given)) (nat_le (quorum_of d.given) (count_locks d g)) (Opens (Lock (brick + 1))) (Opens Query) answer (NoQuorum LockPhase (count_locks d g)) w)
    go (Opens Query) k w = at_query w.0 w.2
    go (Votes (Pre group)) k w = ⊎_elim
        (λ v. fails Rattle.ec_wire.specs.declared.phase.Phase.TheVariants.Pre (count_serving d group) (say_same answer (NoQuorum Rattle.ec_wire.specs.declared.phase.Phase.TheVariants.Pre (count_serving d group)) v.1))
        (λ v. absurd (go_say (Votes (Post group)) answer (sym v.1))) w
    go (Votes (Post group)) k w = ⊎_elim
        (λ v. fails Rattle.ec_wire.specs.declared.phase.Phase.TheVariants.Post (count_serving d group) (say_same answer (NoQuorum Rattle.ec_wire.specs.declared.phase.Phase.TheVariants.Post (count_serving d group)) v.1))
        (λ v. tells (is_posted group c f d k (sym r.given) rd idle v.0) (refused (nat_le (bricks_of d.given) (count_serving d group)) (Votes (Clear group)) answer (told (attr_after d.given.op)) v.1)) w
    go (Votes (Clear group)) k w = tells (posted_over group c f d k (sym r.given) rd idle) (say_same answer (told (attr_after d.given.op)) w)

on : (x : Ctx) (given : Given) (p : SetAttrStage) (c : Account) (f : Asks) → IsIn x given c → InSetAttr p c f → IsOn (subject given.op) (bricks_of given) (c.on (subject given.op)).queried f
on x given (Opens stage) c f a l = opening_on x given Exclusive stage c f a l
on x given (Votes stage) c f a l = ballot_on x given stage c f a l

-- A setattr's commit is made of nothing.
steady : (op own : Op) (g : ℕ) (head : Head) (c d : Account) (rs : List Request) → own ≡ op → IsSetAttr op → IsAllOf c g head op rs → IsAllOf d g head own rs
steady op own g head c d rs s i w =
    let k = is_setattr op i in
    subst (λ (o : Op). IsAllOf d g head o rs) (sym (s ∙ k.2)) (subst (λ (o : Op). IsAllOf c g head o rs) k.2 w)

may : (x : Ctx) (given : Given) (p : SetAttrStage) (c : Account) (f h : Asks) (d : Account) → IsIn x given c → IsSetAttr c.given.op → InSetAttr p c f → IsSent (subject given.op) c h d
    → ((y : ℕ) (r : Request) → h y ≡ Some r → f y ≡ Some r) → (b : ℕ) (r : Request) → f b ≡ Some r → h b ≡ None → MaySend d b r
may x given (Opens stage) c f h d a i l s part b r e n = opening_may x given Exclusive stage c f h d a l s part b r e n
may x given (Votes stage) c f h d a i l s part b r e n = ballot_may c (λ g head d rs k w. steady c.given.op d.given.op g head c d rs (ap (λ (v : Given). v.op) k.given) i w) x given stage f h d a l s part b r e n

pub setattr_sound : (x : Ctx) → IsSound x setattr_table DuringSetAttr
setattr_sound x = record {
  begins = begins x;
  earned_first = λ given answer of s. absurd (go_say (Opens (Lock 0)) answer (sym s.1));
  goes = goes x;
  earned = earned x;
  again = λ given p c f d e a l r. absurd (let v : false ≡ true = e in cc);
  on = λ given p c f a l. on x given p c f a l.1;
  may = λ given p c f h d a l s part b r e n. may x given p c f h d a l.0 l.1 s part b r e n;
}
