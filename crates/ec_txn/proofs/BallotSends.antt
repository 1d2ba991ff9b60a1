-- What a stage of the ballot asks may be sent.
use Rattle.std.proofs.Common.{◌≡◌, ◌⊎◌, inl, inr, ⊎_elim, ℕ, ◌+◌, ◌<◌, ◌≤◌, ◌^◌, ◌&&◌, ◌||◌, not, nat_lt, nat_le, Bool, true, false, cond, refl, sym, ◌∙◌, ap, subst, arith, Option, Some, None, List, eq-eqb}
use Rattle.std.specs.Prelude.{is_some}
use Rattle.std.proofs.lemmas.Bool.{and_parts}
use Rattle.std.proofs.lemmas.Bool.Decides.{nat_tests}
use Rattle.ec_answers.specs.declared.grouped.Group.{Group}
use Rattle.ec_attr.specs.Bricks.{count_below, is_in}
use Rattle.ec_attr.specs.Marks.{is_marked, marked}
use Rattle.ec_attr.specs.declared.attr.Attr.{Attr}
use Rattle.ec_attr.specs.declared.head.Head.{Head}
use Rattle.ec_brick.specs.Fit.{IsFit}
use Rattle.ec_conduct.specs.Account.{Account, Lock, Place, at, gfid_of}
use Rattle.ec_conduct.specs.Ballots.{DidWhole, IsVersionAt, attr_after, size_after}
use Rattle.ec_conduct.specs.Changes.{IsAllOf}
use Rattle.ec_conduct.specs.Conduct.{MaySend}
use Rattle.ec_conduct.specs.Done.{did, is_lock, is_post_to, is_pre, is_query, is_unmark, last_done, reply_to, tried}
use Rattle.ec_conduct.specs.Given.{Given, bricks_of, quorum_of}
use Rattle.ec_conduct.specs.Standing.{Quorum, changes_at, did_changes, head_of, heads_at, holds, is_member}
use Rattle.ec_wire.specs.declared.request.Request.{Request}
use Rattle.ec_txn.specs.declared.ballot.Ballot.{Ballot}
use Rattle.ec_txn.specs.declared.ballot.Ballot.TheVariants.{Pre, Post, Clear}
use Rattle.ec_txn.specs.declared.ctx.Ctx.{Ctx}
use Rattle.ec_txn.specs.Ballot.{InBallot, IsGroupAt, ballot_request, count_serving, grant_of, group_in, is_within, next_dirty, serving, version_at}
use Rattle.ec_txn.specs.Rounds.{Asks, IsOn, IsReleased, IsSent, IsSentTo, asked_place, dirty_of, is_plain, subject}
use Rattle.ec_txn.specs.Tables.{IsIn as IsAt}
use Rattle.ec_txn.proofs.Ballots.{AskedAs, LocksNothing, grant_is, group_stays, member_asked, serving_is}
use Rattle.ec_txn.proofs.Openings.{is_free, none_waits_for}

-- the requests of a stage

abbrev pub requests_of : Ballot → Account → ℕ → ℕ → Request
requests_of stage c = ballot_request (subject c.given.op) (size_after c.given.op (group_in stage).head.size) (attr_after c.given.op) stage

pub asked_of : (stage : Ballot) (c : Account) (f : Asks) → InBallot stage c f → (y : ℕ) (r : Request) → f y ≡ Some r → AskedAs (group_in stage) (requests_of stage c) c y r
asked_of stage c f l y r e = member_asked (group_in stage) (requests_of stage c) c y r (sym (l.asks y) ∙ e)

pub locks_nothing : (stage : Ballot) (g size : ℕ) (attr : Option Attr) → LocksNothing (ballot_request g size attr stage)
locks_nothing (Pre group) g size attr p i grant version = refl
locks_nothing (Post group) g size attr p i grant version = refl
locks_nothing (Clear group) g size attr p i grant version = refl

-- of each request of a stage
pub record IsBallotRequest (g : ℕ) (r : Request) : Type 0 where
  pub of : gfid_of r ≡ Some g
  pub plain : is_plain r ≡ true
  pub lock : is_lock r ≡ false
  pub query : is_query r ≡ false

pub ballot_requests : (stage : Ballot) (g size : ℕ) (attr : Option Attr) (i v : ℕ) → IsBallotRequest g (ballot_request g size attr stage i v)
ballot_requests (Pre group) g size attr i v = record { of = refl; plain = refl; lock = refl; query = refl }
ballot_requests (Post group) g size attr i v = record { of = refl; plain = refl; lock = refl; query = refl }
ballot_requests (Clear group) g size attr i v = record { of = refl; plain = refl; lock = refl; query = refl }

pub is_request : (stage : Ballot) (c : Account) (f : Asks) → InBallot stage c f → (y : ℕ) (r : Request) → f y ≡ Some r → IsBallotRequest (subject c.given.op) r
is_request stage c f l y r e =
    let a = asked_of stage c f l y r e in
    subst (IsBallotRequest (subject c.given.op)) (sym a.request) (ballot_requests stage (subject c.given.op) (size_after c.given.op (group_in stage).head.size) (attr_after c.given.op) a.grant a.version)

fits : (stage : Ballot) (g size : ℕ) (attr : Option Attr) (i v : ℕ) → size ≤ 2 ^ 40 → IsFit (ballot_request g size attr stage i v)
fits (Pre group) g size attr i v l = tt
fits (Post group) g size attr i v l = l
fits (Clear group) g size attr i v l = tt

on_here : (stage : Ballot) (c : Account) (f : Asks) → InBallot stage c f → IsOn (subject c.given.op) (bricks_of c.given) (c.on (subject c.given.op)).queried f
on_here stage c f l = record {
  below = λ y r e. (asked_of stage c f l y r e).below;
  of = λ y r e. (is_request stage c f l y r e).of;
  plain = λ y r e. (is_request stage c f l y r e).plain;
  first = λ y r e t. absurd (let w = sym t ∙ (is_request stage c f l y r e).lock in cc);
  fit = λ y r e. (let a = asked_of stage c f l y r e in subst IsFit (sym a.request) (fits stage (subject c.given.op) (size_after c.given.op (group_in stage).head.size) (attr_after c.given.op) a.grant a.version l.size));
}

pub ballot_on : (x : Ctx) (given : Given) (stage : Ballot) (c : Account) (f : Asks) → IsAt x given c → InBallot stage c f → IsOn (subject given.op) (bricks_of given) (c.on (subject given.op)).queried f
ballot_on x given stage c f a l = subst (λ (v : Given). IsOn (subject v.op) (bricks_of v) (c.on (subject v.op)).queried f) a.given_is (on_here stage c f l)

-- what is over is the same all through the round

pub places_same : (stage : Ballot) (c : Account) (f h : Asks) (d : Account) → InBallot stage c f → IsSent (subject c.given.op) c h d → ((y : ℕ) (r : Request) → h y ≡ Some r → f y ≡ Some r) → (y : ℕ)
    → at d (subject c.given.op) y ≡ at c (subject c.given.op) y
places_same stage c f h d l s part y = go (h y) refl (s.each y)
  where
    go : (o : Option Request) → h y ≡ o → IsSentTo o (at c (subject c.given.op) y) (d.waits y) (at d (subject c.given.op) y) → at d (subject c.given.op) y ≡ at c (subject c.given.op) y
    go None e t = t.1
    go (Some r) e t =
        let a = asked_of stage c f l y r (part y r e) in
        t.2 ∙ (ap (asked_place (at c (subject c.given.op) y) t.0) a.request ∙ locks_nothing stage (subject c.given.op) (size_after c.given.op (group_in stage).head.size) (attr_after c.given.op) (at c (subject c.given.op) y) t.0 a.grant a.version)

pub group_within : (stage : Ballot) (c : Account) (f h : Asks) (d : Account) → InBallot stage c f → IsSent (subject c.given.op) c h d → ((y : ℕ) (r : Request) → h y ≡ Some r → f y ≡ Some r) → IsGroupAt d (subject c.given.op) (group_in stage)
group_within stage c f h d l s part =
    group_stays c d (subject c.given.op) (group_in stage) s.given (λ y. ap (λ (p : Place). head_of (reply_to is_query p.window)) (places_same stage c f h d l s part y)) l.group

-- small facts

pub holds_by : (o : Option Lock) (i : ℕ) → grant_of o ≡ Some i → holds o i ≡ true
holds_by o i e = let w = grant_is o i e in rw (w.1, w.2) (eq-eqb w.0.number i w.3)

version_cases : (a b : Bool) (p q v : ℕ) → cond a (Some p) (cond b (Some q) None) ≡ Some v → ((a ≡ true) × (v ≡ p)) ⊎ ((b ≡ true) × (v ≡ q))
version_cases true b p q v e = inl (refl, (let w : p ≡ v = cc in sym w))
version_cases false true p q v e = inr (refl, (let w : q ≡ v = cc in sym w))
version_cases false false p q v e = absurd (cc)

or_first : (a b : Bool) → a ≡ true → (a || b) ≡ true
or_first true b e = refl
or_first false b e = absurd (cc)

and_not : (a b : Bool) → a ≡ true → b ≡ false → (a && not b) ≡ true
and_not true false e f = refl
and_not true true e f = absurd (cc)
and_not false b e f = absurd (cc)

pub is_member_in : (d : Account) (g : ℕ) (group : Group) (y : ℕ) → IsGroupAt d g group → is_in group.bricks y ≡ true → is_member d g y ≡ true
is_member_in d g group y i e = or_first (Rattle.ec_conduct.specs.Standing.is_grouped d g y) (did is_unmark (at d g y).window) (i.bricks y ∙ e)

version_is : (d : Account) (g : ℕ) (group : Group) (b v : ℕ) → IsGroupAt d g group → version_at group b ≡ Some v → did is_unmark (at d g b).window ≡ false → IsVersionAt d b g group.head v
version_is d g group b v i e none = ⊎_elim
    (λ w. inl (is_member_in d g group b i w.0, w.1))
    (λ w. inr (and_not (Rattle.ec_conduct.specs.Group.is_sink (bricks_of d.given) (quorum_of d.given) (heads_at d g) b) (did is_unmark (at d g b).window) (i.sinks b ∙ w.0) none, w.1))
    (version_cases (is_in group.bricks b) (is_in group.sinks b) group.head.version.content (marked group.head.version.content) v e)

pub limit_of : (head : Head) → is_within head ≡ true → head.version.content + next_dirty head < 2 ^ 61
limit_of head e = let t = (and_parts (nat_lt (head.version.content + next_dirty head) (2 ^ 61)) (nat_le head.size (2 ^ 40)) e).0 in grind (arith, nat_tests)

pub size_of : (head : Head) → is_within head ≡ true → head.size ≤ 2 ^ 40
size_of head e = let t = (and_parts (nat_lt (head.version.content + next_dirty head) (2 ^ 61)) (nat_le head.size (2 ^ 40)) e).1 in grind (arith, nat_tests)

low_unmarked : (v : ℕ) → v < 2 ^ 61 → is_marked v ≡ false
low_unmarked v l = grind (arith, nat_tests)

-- The changes of a commit are told by the call and by what is over.
abbrev pub Steady : Account → Type 0
Steady c = (g : ℕ) (head : Head) (d : Account) (rs : List Request) → IsReleased g c d → IsAllOf c g head c.given.op rs → IsAllOf d g head d.given.op rs

-- what a brick did of the whole stays so
pub whole_stays : (c : Account) → Steady c → (g : ℕ) (head : Head) (d : Account) (y : ℕ) → IsReleased g c d → DidWhole c g head y → DidWhole d g head y
whole_stays c steady g head d y r w = record {
  done = ap (λ es. did is_pre es && Rattle.ec_conduct.specs.Done.failed_none Rattle.ec_conduct.specs.Done.is_change (Rattle.ec_conduct.specs.Done.since is_pre es)) (r.window y) ∙ w.done;
  all = subst (λ es. IsAllOf d g head d.given.op (Rattle.ec_conduct.specs.Done.changes (Rattle.ec_conduct.specs.Done.since is_pre es))) (sym (r.window y)) (steady g head d (changes_at (at c g y)) r w.all);
}

pub some_of : (o : Option ℕ) → is_some o ≡ true → (i : ℕ) × (o ≡ Some i)
some_of None e = absurd (cc)
some_of (Some i) e = (i, refl)

-- a quorum of the group that serves
pub quorum_serving : (c : Account) (group : Group) (P : ℕ → Type 0) → quorum_of c.given ≤ count_serving c group
    → ((y i : ℕ) → y < bricks_of c.given → is_in group.bricks y ≡ true → serving (at c (subject c.given.op) y) ≡ Some i → P y) → Quorum c P
quorum_serving c group P l each = record {
  which = λ y. is_in group.bricks y && is_some (serving (at c (subject c.given.op) y));
  enough = l;
  each = λ y less t. (let w = and_parts (is_in group.bricks y) (is_some (serving (at c (subject c.given.op) y))) t in let s = some_of (serving (at c (subject c.given.op) y)) w.1 in each y s.0 less w.0 s.1);
}

pub quorum_stays : (c d : Account) (P Q : ℕ → Type 0) → d.given ≡ c.given → ((y : ℕ) → P y → Q y) → Quorum c P → Quorum d Q
quorum_stays c d P Q e f q = record {
  which = q.which;
  enough = subst (λ (v : Given). quorum_of v ≤ count_below (bricks_of v) q.which) (sym e) q.enough;
  each = λ y l t. f y (q.each y (subst (λ (v : Given). y < bricks_of v) e l) t);
}

pub version_in : (group : Group) (y : ℕ) → is_in group.bricks y ≡ true → version_at group y ≡ Some group.head.version.content
version_in group y e = ap (λ (t : Bool). cond t (Some group.head.version.content) (cond (is_in group.sinks y) (Some (marked group.head.version.content)) None)) e

dirty_in : (group : Group) (g size : ℕ) (attr : Option Attr) (i v : ℕ) (o : Option ℕ) (r : Request) → r ≡ ballot_request g size attr (Pre group) i v → dirty_of r ≡ o → o ≡ Some (next_dirty group.head)
dirty_in group g size attr i v o r e f = sym f ∙ ap dirty_of e

may_here : (c : Account) → Steady c → (x : Ctx) (stage : Ballot) (f h : Asks) (d : Account) → IsAt x c.given c → InBallot stage c f → IsSent (subject c.given.op) c h d
    → ((y : ℕ) (r : Request) → h y ≡ Some r → f y ≡ Some r) → (b : ℕ) (r : Request) → f b ≡ Some r → h b ≡ None → MaySend d b r
may_here c steady x (Pre group) f h d a l s part b r e n =
    let g = subject c.given.op in
    let w = asked_of (Pre group) c f l b r e in
    let same = places_same (Pre group) c f h d l s part in
    let i = group_within (Pre group) c f h d l s part in
    let m = l.at_stage.1 b w.grant w.version w.below w.serves w.versioned in
    subst (λ (q : Request). MaySend d b q) (sym w.request) (
      is_free x c.given b c d h a s n w.below,
      record {
        grant_held = ap (λ (p : Place). holds p.inode w.grant) (same b) ∙ holds_by (at c g b).inode w.grant (serving_is (at c g b) w.grant w.serves).1;
        idle = none_waits_for g c d h (λ q. not (is_pre q)) s (λ y q u. ap (λ (v : Request). not (is_pre v)) (asked_of (Pre group) c f l y q (part y q u)).request);
        once = ap (λ (p : Place). tried is_pre p.window) (same b) ∙ m.0;
        head = group.head;
        group = i.head;
        version_is = version_is d g group b w.version i w.versioned (ap (λ (p : Place). did is_unmark p.window) (same b) ∙ m.1);
        above = omega arith;
        limit = limit_of group.head l.within;
        one = ⊎_elim
            (λ v. inl (v ∙ l.at_stage.0))
            (λ v. inr (let k = asked_of (Pre group) c f l v.0 v.1 (part v.0 v.1 v.2) in dirty_in group g (size_after c.given.op group.head.size) (attr_after c.given.op) k.grant k.version (d.on g).dirty v.1 k.request v.3))
            s.dirty;
      },
    )
may_here c steady x (Post group) f h d a l s part b r e n =
    let g = subject c.given.op in
    let w = asked_of (Post group) c f l b r e in
    let same = places_same (Post group) c f h d l s part in
    let i = group_within (Post group) c f h d l s part in
    let rel : IsReleased g c d = record { given = s.given; window = λ y. ap (λ (p : Place). p.window) (same y) } in
    let m = l.at_stage.0 b w.grant w.version w.below w.serves w.versioned in
    subst (λ (q : Request). MaySend d b q) (sym w.request) (
      is_free x c.given b c d h a s n w.below,
      record {
        grant_held = ap (λ (p : Place). holds p.inode w.grant) (same b) ∙ holds_by (at c g b).inode w.grant (serving_is (at c g b) w.grant w.serves).1;
        head = group.head;
        group = i.head;
        whole = whole_stays c steady g group.head d b rel m.whole;
        quorum = quorum_stays c d (λ y. (is_member d g y ≡ true) × DidWhole d g group.head y) (λ y. (is_member d g y ≡ true) × DidWhole d g group.head y) s.given (λ y p. p)
            (quorum_serving c group (λ y. (is_member d g y ≡ true) × DidWhole d g group.head y) l.at_stage.1 (λ y j less t u. (
              is_member_in d g group y i t,
              whole_stays c steady g group.head d y rel (l.at_stage.0 y j group.head.version.content less u (version_in group y t)).whole,
            )));
        dirty = next_dirty group.head;
        pre = ap (λ (p : Place). last_done is_pre p.window) (same b) ∙ m.pre;
        version = refl;
        size_is = ap (λ (v : Given). size_after v.op group.head.size) (sym s.given);
        attr_is = ap (λ (v : Given). attr_after v.op) (sym s.given);
      },
    )
may_here c steady x (Clear group) f h d a l s part b r e n =
    let g = subject c.given.op in
    let w = asked_of (Clear group) c f l b r e in
    let same = places_same (Clear group) c f h d l s part in
    let is : w.version ≡ group.head.version.content = (let v = sym w.versioned ∙ version_in group b (l.at_stage.1 b w.below).0 in cc) in
    subst (λ (q : Request). MaySend d b q) (sym w.request) (
      is_free x c.given b c d h a s n w.below,
      record {
        grant_held = ap (λ (p : Place). holds p.inode w.grant) (same b) ∙ holds_by (at c g b).inode w.grant (serving_is (at c g b) w.grant w.serves).1;
        unmarked = low_unmarked (w.version + next_dirty group.head) (subst (λ (v : ℕ). v + next_dirty group.head < 2 ^ 61) (sym is) (limit_of group.head l.within));
        posted = λ y less. (ap (λ (p : Place). did (is_post_to (w.version + next_dirty group.head)) p.window) (same y)
            ∙ (ap (λ (v : ℕ). did (is_post_to (v + next_dirty group.head)) (at c g y).window) is ∙ (l.at_stage.1 y (subst (λ (v : Given). y < bricks_of v) s.given less)).1));
      },
    )

pub ballot_may : (c : Account) → Steady c → (x : Ctx) (given : Given) (stage : Ballot) (f h : Asks) (d : Account) → IsAt x given c → InBallot stage c f → IsSent (subject given.op) c h d
    → ((y : ℕ) (r : Request) → h y ≡ Some r → f y ≡ Some r) → (b : ℕ) (r : Request) → f b ≡ Some r → h b ≡ None → MaySend d b r
ballot_may c steady x given stage f h d a l s = may_here c steady x stage f h d (subst (λ (v : Given). IsAt x v c) (sym a.given_is) a) l (subst (λ (v : Given). IsSent (subject v.op) c h d) (sym a.given_is) s)
