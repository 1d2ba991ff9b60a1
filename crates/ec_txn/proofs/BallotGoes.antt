-- A stage of the ballot leads to the next.
use Rattle.std.proofs.Common.{◌≡◌, ◌⊎◌, inl, inr, ⊎_elim, ℕ, zero, suc, ◌+◌, ◌<◌, ◌≤◌, ◌^◌, ◌&&◌, ◌||◌, nat_lt, Bool, true, false, cond, refl, sym, ◌∙◌, ap, subst, arith, Option, Some, None, List, [], ◌∷◌, eq-eqb}
use Rattle.std.specs.Prelude.{is_some, map}
use Rattle.std.specs.List.{list_any}
use Rattle.std.proofs.Math.Path.{fun_ext}
use Rattle.std.proofs.lemmas.Bool.{and_parts, cases_Bool, cases_eq}
use Rattle.ec_answers.specs.declared.grouped.Group.{Group}
use Rattle.ec_attr.specs.Bricks.{count_below, is_in}
use Rattle.ec_attr.proofs.Sets.{count_in, count_out, laws, most}
use Rattle.ec_attr.specs.declared.kind.Domain.TheVariants.{Inode}
use Rattle.ec_attr.specs.declared.kind.LockKind.{LockKind}
use Rattle.ec_answers.specs.declared.grouped.Grouped.TheVariants.{Group as Found}
use Rattle.ec_conduct.specs.Account.{Account, Exchange, Place, at}
use Rattle.ec_conduct.specs.Ballots.{attr_after, size_after}
use Rattle.ec_conduct.specs.Changes.{IsAllOf}
use Rattle.ec_conduct.specs.Children.{IsPosted}
use Rattle.ec_conduct.specs.Done.{changes, did, failed_none, is_change, is_post, is_post_to, is_pre, is_query, is_unmark, last_done, reply_to, since, tried}
use Rattle.ec_conduct.specs.Given.{Given, bricks_of, quorum_of}
use Rattle.ec_conduct.specs.Group.{is_good}
use Rattle.ec_conduct.specs.Standing.{head_of, heads_at, is_member}
use Rattle.ec_wire.specs.declared.request.Request.{Request}
use Rattle.ec_wire.specs.declared.request.Request.TheVariants.{Ask, PreOp, Query}
use Rattle.ec_txn.specs.declared.ballot.Ballot.{Ballot}
use Rattle.ec_txn.specs.declared.ballot.Ballot.TheVariants.{Pre, Post, Clear}
use Rattle.ec_txn.specs.Ballot.{InBallot, IsGroupAt, ballot_asks, ballot_request, count_serving, group_in, is_within, next_dirty, serving, to_members, under, version_at}
use Rattle.ec_txn.specs.Opening.{ComesTo, IsQuerying}
use Rattle.ec_txn.specs.Rounds.{Asks, IsIdle, IsIn, IsReleased, IsRound, IsUnlocked, asked_place, subject}
use Rattle.ec_txn.proofs.Ballots.{DidAsked, did_asked, grant_is, group_stays, serving_is, unlocked_serving}
use Rattle.ec_txn.proofs.BallotSends.{asked_of, is_member_in, is_request, locks_nothing, quorum_serving, quorum_stays, some_of, version_in}
use Rattle.ec_txn.proofs.Groups.{group_at}
use Rattle.ec_txn.proofs.Openings.{over_in}

abbrev pub requests_for : Ballot → Given → ℕ → ℕ → Request
requests_for stage v = ballot_request (subject v.op) (size_after v.op (group_in stage).head.size) (attr_after v.op) stage

-- what a stage asks, by what is known before and after asks are released that weren't granted
pub asks_after : (stage : Ballot) (d e : Account) → d.given ≡ e.given → IsUnlocked (subject e.given.op) d e → (x : ℕ) → ballot_asks stage d x ≡ ballot_asks stage e x
asks_after stage d e dg u x =
    let hs : serving (at d (subject d.given.op) x) ≡ serving (at e (subject e.given.op) x) = ap (λ (v : Given). serving (at d (subject v.op) x)) dg ∙ sym (unlocked_serving (subject e.given.op) x d e u) in
    λ j. cond (is_within (group_in stage).head && nat_lt x (bricks_of (dg j))) (under (hs j) (version_at (group_in stage) x) (requests_for stage (dg j))) None

pub count_after : (group : Group) (d e : Account) → d.given ≡ e.given → IsUnlocked (subject e.given.op) d e → count_serving d group ≡ count_serving e group
count_after group d e dg u =
    let hs : (x : ℕ) → serving (at d (subject d.given.op) x) ≡ serving (at e (subject e.given.op) x) = λ (x : ℕ). ap (λ (v : Given). serving (at d (subject v.op) x)) dg ∙ sym (unlocked_serving (subject e.given.op) x d e u) in
    λ j. count_below (bricks_of (dg j)) (λ x. is_in group.bricks x && is_some (hs x j))

pub released_of : (g : ℕ) (d e : Account) → IsUnlocked g d e → IsReleased g d e
released_of g d e u = record { given = u.given; window = u.window }

-- what a member that serves after a stage did in it
pub did_in : (stage : Ballot) (c : Account) (f : Asks) (d : Account) (v : Given) → InBallot stage c f → c.given ≡ v → IsRound (subject v.op) c f d → IsIdle d → (x j w : ℕ) → x < bricks_of v
    → serving (at d (subject v.op) x) ≡ Some j → version_at (group_in stage) x ≡ Some w → DidAsked (requests_for stage v) (at c (subject v.op) x) (at d (subject v.op) x) j w
did_in stage c f d v l cg r idle x j w less s e =
    did_asked (group_in stage) (requests_for stage v) (subject v.op) x j w c f d (locks_nothing stage (subject v.op) (size_after v.op (group_in stage).head.size) (attr_after v.op)) (ap (λ (z : Given). subject z.op) (sym cg)) l.within
    (λ y. l.asks y ∙ (λ i. to_members (group_in stage) (requests_for stage (cg i)) c y)) r idle (subst (λ (z : Given). x < bricks_of z) (sym cg) less) s e

-- a window is the same, or has one request more, which is no Query
abbrev pub Grows : List Exchange → List Exchange → Type 0
Grows old new = (new ≡ old) ⊎ ((k : Exchange) × (is_query k.request ≡ false) × (new ≡ k ∷ old))

pub grows : (stage : Ballot) (c : Account) (f : Asks) (d : Account) (g : ℕ) → InBallot stage c f → IsRound g c f d → IsIdle d → (x : ℕ) → Grows (at c g x).window (at d g x).window
grows stage c f d g l r idle x = go (f x) refl (r.each x)
  where
    go : (o : Option Request) → f x ≡ o → IsIn o (at c g x) (d.waits x) (at d g x) → Grows (at c g x).window (at d g x).window
    go None e t = inl (ap (λ (p : Place). p.window) t.1)
    go (Some q) e t =
        let w = over_in q (at c g x) (d.waits x) (at d g x) t (idle x) in
        let a = asked_of stage c f l x q e in
        let same : asked_place (at c g x) w.0 q ≡ at c g x = ap (asked_place (at c g x) w.0) a.request ∙ locks_nothing stage (subject c.given.op) (size_after c.given.op (group_in stage).head.size) (attr_after c.given.op) (at c g x) w.0 a.grant a.version in
        inr (record { number = w.0; request = q; reply = w.1 }, (is_request stage c f l x q e).query, ap (λ (p : Place). p.window) w.2 ∙ ap (λ (p : Place). record { number = w.0; request = q; reply = w.1 } ∷ p.window) same)

pub reply_same : (old new : List Exchange) → Grows old new → reply_to is_query new ≡ reply_to is_query old
reply_same old new (inl e) = ap (reply_to is_query) e
reply_same old new (inr (k, n, e)) = ap (reply_to is_query) e ∙ ap (λ (t : Bool). cond t k.reply (reply_to is_query old)) n

or_more : (a b : Bool) → b ≡ true → (a || b) ≡ true
or_more true b e = refl
or_more false b e = e

did_more : (p : Request → Bool) (old new : List Exchange) → Grows old new → did p old ≡ true → did p new ≡ true
did_more p old new (inl e) t = ap (did p) e ∙ t
did_more p old new (inr (k, n, e)) t = ap (did p) e ∙ or_more (p k.request && Rattle.ec_conduct.specs.Done.is_done k.reply) (did p old) t

-- the group is the same after a stage
pub group_over : (stage : Ballot) (c : Account) (f : Asks) (d : Account) (v : Given) → InBallot stage c f → c.given ≡ v → IsRound (subject v.op) c f d → IsIdle d → IsGroupAt d (subject v.op) (group_in stage)
group_over stage c f d v l cg r idle =
    group_stays c d (subject v.op) (group_in stage) r.given (λ x. ap head_of (reply_same (at c (subject v.op) x).window (at d (subject v.op) x).window (grows stage c f d (subject v.op) l r idle x)))
    (subst (λ (z : Given). IsGroupAt c (subject z.op) (group_in stage)) cg l.group)

pub group_released : (g : ℕ) (group : Group) (d e : Account) → IsReleased g d e → IsGroupAt d g group → IsGroupAt e g group
group_released g group d e r i = group_stays d e g group r.given (λ x. ap (λ es. head_of (reply_to is_query es)) (r.window x)) i

-- the PostOps

or_parts : (a b : Bool) → (a || b) ≡ true → (a ≡ true) ⊎ (b ≡ true)
or_parts true b e = inl refl
or_parts false b e = inr e

or_right : (a b : Bool) → b ≡ true → (a || b) ≡ true
or_right a b e = or_more a b e

or_left : (a b : Bool) → a ≡ true → (a || b) ≡ true
or_left true b e = refl
or_left false b e = absurd (cc)

-- A commit stays so, whatever is over besides.
pub posted_grows : (g : ℕ) (c d : Account) → d.given ≡ c.given → ((x : ℕ) → Grows (at c g x).window (at d g x).window) → IsPosted c g → IsPosted d g
posted_grows g c d eg grow q =
    let hs : heads_at d g ≡ heads_at c g = fun_ext (λ x. ap head_of (reply_same (at c g x).window (at d g x).window (grow x))) in
    quorum_stays c d (λ x. (is_member c g x ≡ true) × (did is_post (at c g x).window ≡ true)) (λ x. (is_member d g x ≡ true) × (did is_post (at d g x).window ≡ true)) eg (λ x p. (
      ⊎_elim
          (λ t. or_left (is_good (bricks_of d.given) (quorum_of d.given) (heads_at d g) x) (did is_unmark (at d g x).window) ((λ j. is_good (bricks_of (eg j)) (quorum_of (eg j)) (hs j) x) ∙ t))
          (λ t. or_right (is_good (bricks_of d.given) (quorum_of d.given) (heads_at d g) x) (did is_unmark (at d g x).window) (did_more is_unmark (at c g x).window (at d g x).window (grow x) t))
          (or_parts (is_good (bricks_of c.given) (quorum_of c.given) (heads_at c g) x) (did is_unmark (at c g x).window) p.0),
      did_more is_post (at c g x).window (at d g x).window (grow x) p.1,
    )) q

pub posted_released : (g : ℕ) (c d : Account) → IsReleased g c d → IsPosted c g → IsPosted d g
posted_released g c d r q = posted_grows g c d r.given (λ x. inl (r.window x)) q

-- where a quorum of the group did the PostOp
pub is_posted : (group : Group) (c : Account) (f : Asks) (d : Account) → InBallot (Post group) c f → c.given ≡ d.given → IsRound (subject d.given.op) c f d → IsIdle d → quorum_of d.given ≤ count_serving d group
    → IsPosted d (subject d.given.op)
is_posted group c f d l cg r idle enough =
    let g = subject d.given.op in
    quorum_serving d group (λ x. (is_member d g x ≡ true) × (did is_post (at d g x).window ≡ true)) enough (λ y i less t s. (
      is_member_in d g group y (group_over (Post group) c f d d.given l cg r idle) t,
      (let w = did_in (Post group) c f d d.given l cg r idle y i group.head.version.content less s (version_in group y t) in ap (did is_post) w.window ∙ (let z = w.done in rw z refl)),
    ))

-- so many of n numbers as n are all of them
full : (n : ℕ) (p : ℕ → Bool) → n ≤ count_below n p → (x : ℕ) → x < n → p x ≡ true
full zero p l x less = absurd (omega arith)
full (suc n) p l x less = elim (cases_Bool (p n)) [
  | inl t ↦ elim (cases_eq x n) [
    | inl e ↦ ap p e ∙ t
    | inr e ↦ full n p (let w = count_in n p t in omega (arith, l, w)) x (omega (arith, less, e))
  ]
  | inr t ↦ absurd (let w = count_out n p t in let m = most n p in omega (arith, l, w, m))
]

-- the Clears come after the PostOps
pub clear_begins : (group : Group) (c : Account) (f : Asks) (d e : Account) → InBallot (Post group) c f → c.given ≡ d.given → d.given ≡ e.given → IsRound (subject d.given.op) c f d → IsIdle d → IsUnlocked (subject d.given.op) d e
    → quorum_of d.given ≤ count_serving d group → bricks_of d.given ≤ count_serving d group → InBallot (Clear group) e (ballot_asks (Clear group) d)
clear_begins group c f d e l cg dg r idle u enough all =
    let g = subject d.given.op in
    let u' : IsUnlocked (subject e.given.op) d e = subst (λ (v : Given). IsUnlocked (subject v.op) d e) dg u in
    record {
      within = l.within;
      size = subst (λ (v : Given). size_after v.op group.head.size ≤ 2 ^ 40) (cg ∙ dg) l.size;
      group = subst (λ (v : Given). IsGroupAt e (subject v.op) group) dg (group_released g group d e (released_of g d e u) (group_over (Post group) c f d d.given l cg r idle));
      at_stage = (
        subst (λ (v : Given). IsPosted e (subject v.op)) dg (posted_released g d e (released_of g d e u) (is_posted group c f d l cg r idle enough)),
        subst (λ (v : Given). (x : ℕ) → x < bricks_of v → (is_in group.bricks x ≡ true) × (did (is_post_to (group.head.version.content + next_dirty group.head)) (at e (subject v.op) x).window ≡ true)) dg each,
      );
      asks = λ x. asks_after (Clear group) d e dg u' x;
    }
  where
    each : (x : ℕ) → x < bricks_of d.given → (is_in group.bricks x ≡ true) × (did (is_post_to (group.head.version.content + next_dirty group.head)) (at e (subject d.given.op) x).window ≡ true)
    each x less =
        let w = and_parts (is_in group.bricks x) (is_some (serving (at d (subject d.given.op) x))) (full (bricks_of d.given) (λ y. is_in group.bricks y && is_some (serving (at d (subject d.given.op) y))) all x less) in
        let s = some_of (serving (at d (subject d.given.op) x)) w.1 in
        let v = group.head.version.content in
        let k = did_in (Post group) c f d d.given l cg r idle x s.0 v less s.1 (version_in group x w.0) in
        (w.0, ap (did (is_post_to (v + next_dirty group.head))) (u.window x ∙ k.window) ∙ (let z = k.done in let y = eq-eqb (v + next_dirty group.head) (v + next_dirty group.head) refl in rw (y, z) refl))

-- and the commit stays as the Clears are over
pub posted_over : (group : Group) (c : Account) (f : Asks) (d : Account) → InBallot (Clear group) c f → c.given ≡ d.given → IsRound (subject d.given.op) c f d → IsIdle d → IsPosted d (subject d.given.op)
posted_over group c f d l cg r idle =
    posted_grows (subject d.given.op) c d r.given (grows (Clear group) c f d (subject d.given.op) l r idle) (subst (λ (v : Given). IsPosted c (subject v.op)) cg l.at_stage.0)

-- The PostOps come right after the PreOps, of a call that changes nothing between them.
pub post_begins : (group : Group) (c : Account) (f : Asks) (d e : Account) → InBallot (Pre group) c f → c.given ≡ e.given → d.given ≡ e.given → IsRound (subject e.given.op) c f d → IsIdle d → IsUnlocked (subject e.given.op) d e
    → quorum_of d.given ≤ count_serving d group → IsAllOf e (subject e.given.op) group.head e.given.op [] → InBallot (Post group) e (ballot_asks (Post group) d)
post_begins group c f d e l ce dg r idle u enough nothing =
    let g = subject e.given.op in
    record {
      within = l.within;
      size = subst (λ (v : Given). size_after v.op group.head.size ≤ 2 ^ 40) ce l.size;
      group = group_released g group d e (released_of g d e u) (group_over (Pre group) c f d e.given l ce r idle);
      at_stage = (
        λ x i w less s t.
            (let k = did_in (Pre group) c f d e.given l ce r idle x i w less (sym (unlocked_serving g x d e u) ∙ s) t in
            let win : (at e g x).window ≡ record { number = k.number; request = PreOp (record { 0 = g }) i w (next_dirty group.head); reply = k.reply } ∷ (at c g x).window = u.window x ∙ k.window in
            record {
              pre = ap (last_done is_pre) win ∙ (let z = k.done in rw z refl);
              whole = record {
                done = ap (λ es. did is_pre es && failed_none is_change (since is_pre es)) win ∙ (let z = k.done in rw z refl);
                all = subst (λ es. IsAllOf e g group.head e.given.op (changes (since is_pre es))) (sym win) nothing;
              };
            }),
        subst (λ (m : ℕ). quorum_of e.given ≤ m) (count_after group d e dg u) (subst (λ (v : Given). quorum_of v ≤ count_serving d group) dg enough),
      );
      asks = λ x. asks_after (Post group) d e dg u x;
    }

-- The PreOps come after the Queries.

tried_by : (p : Request → Bool) (es : List Exchange) → tried p es ≡ list_any p (map (λ (e : Exchange). e.request) es)
tried_by p [] = refl
tried_by p (e ∷ es) = ap (λ (t : Bool). p e.request || t) (tried_by p es)

undone : (a b t u : Bool) → (a || t) ≡ false → (t ≡ false → u ≡ false) → ((a && b) || u) ≡ false
undone true b t u e f = absurd (cc)
undone false b t u e f = f e

right_false : (a t : Bool) → (a || t) ≡ false → t ≡ false
right_false true t e = absurd (cc)
right_false false t e = e

untried : (p : Request → Bool) (es : List Exchange) → tried p es ≡ false → did p es ≡ false
untried p [] e = refl
untried p (x ∷ es) e = undone (p x.request) (Rattle.ec_conduct.specs.Done.is_done x.reply) (tried p es) (did p es) e (untried p es)

-- what a brick that holds its lock was sent as the Queries are over
queried_window : (g n : ℕ) (kind : LockKind) (c : Account) (f : Asks) (d : Account) → IsQuerying g n kind c f → IsRound g c f d → IsIdle d → (x i : ℕ) → serving (at d g x) ≡ Some i
    → (p : Request → Bool) → ((grant : ℕ) → p (Query (record { 0 = g }) grant) ≡ false) → p (Ask (record { 0 = g }) Inode kind) ≡ false → tried p (at d g x).window ≡ false
queried_window g n kind c f d l r idle x i s p no_query no_ask = go (f x) refl (r.each x)
  where
    go : (o : Option Request) → f x ≡ o → IsIn o (at c g x) (d.waits x) (at d g x) → tried p (at d g x).window ≡ false
    go None e t =
        let w = grant_is (at d g x).inode i (serving_is (at d g x) i s).1 in
        let did_ask = l.opens.locked x w.0 (ap (λ (q : Place). q.inode) (sym t.1) ∙ w.1) in
        ap (λ (q : Place). tried p q.window) t.1 ∙ (tried_by p (at c g x).window ∙ (ap (list_any p) did_ask.0 ∙ (let z = no_ask in rw z refl)))
    go (Some q) e t =
        let a = l.asks x q e in
        let w = over_in q (at c g x) (d.waits x) (at d g x) t (idle x) in
        let did_ask = l.opens.locked x a.1 a.2 in
        let same : asked_place (at c g x) w.0 q ≡ at c g x = ap (asked_place (at c g x) w.0) a.4 in
        let win : (at d g x).window ≡ record { number = w.0; request = q; reply = w.1 } ∷ (at c g x).window = ap (λ (z : Place). z.window) w.2 ∙ ap (λ (z : Place). record { number = w.0; request = q; reply = w.1 } ∷ z.window) same in
        tried_by p (at d g x).window ∙ (ap (λ es. list_any p (map (λ (k : Exchange). k.request) es)) win ∙ ((λ j. list_any p (a.4 j ∷ did_ask.0 j)) ∙ (let y = no_query a.1.number in let z = no_ask in rw (y, z) refl)))

heads_past : (g n : ℕ) (kind : LockKind) (c : Account) (f : Asks) (d : Account) → IsQuerying g n kind c f → IsRound g c f d → (x : ℕ) → n ≤ x → heads_at d g x ≡ None
heads_past g n kind c f d l r x past = go (f x) refl (r.each x)
  where
    go : (o : Option Request) → f x ≡ o → IsIn o (at c g x) (d.waits x) (at d g x) → heads_at d g x ≡ None
    go None e t = ap (λ (p : Place). head_of (reply_to is_query p.window)) t.1 ∙ ap head_of (l.opens.quiet x)
    go (Some q) e t = absurd (let w = (l.asks x q e).0 in omega arith)

pub pre_begins : (group : Group) (kind : LockKind) (c : Account) (f : Asks) (d e : Account) → IsQuerying (subject e.given.op) (bricks_of e.given) kind c f → d.given ≡ e.given → IsRound (subject e.given.op) c f d → IsIdle d
    → IsUnlocked (subject e.given.op) d e → ComesTo d (subject d.given.op) (Found group) → is_within group.head ≡ true → size_after e.given.op group.head.size ≤ 2 ^ 40 → InBallot (Pre group) e (ballot_asks (Pre group) d)
pre_begins group kind c f d e l dg r idle u came within size =
    let g = subject e.given.op in
    let at_d : IsGroupAt d (subject d.given.op) group = group_at laws d (subject d.given.op) group
    (subst (λ (v : Given). (x : ℕ) → bricks_of v ≤ x → heads_at d (subject v.op) x ≡ None) (sym dg) (heads_past g (bricks_of e.given) kind c f d l r)) came in
    record {
      within = within;
      size = size;
      group = group_released g group d e (released_of g d e u) (subst (λ (v : Given). IsGroupAt d (subject v.op) group) dg at_d);
      at_stage = (
        u.dirty ∙ (r.clean (λ y q t. ap is_pre (l.asks y q t).4) ∙ l.opens.clean),
        λ x i w less s t.
            (let s' : serving (at d g x) ≡ Some i = sym (unlocked_serving g x d e u) ∙ s in (
              ap (tried is_pre) (u.window x) ∙ queried_window g (bricks_of e.given) kind c f d l r idle x i s' is_pre (λ grant. refl) refl,
              ap (did is_unmark) (u.window x) ∙ untried is_unmark (at d g x).window (queried_window g (bricks_of e.given) kind c f d l r idle x i s' is_unmark (λ grant. refl) refl),
            )),
      );
      asks = λ x. asks_after (Pre group) d e dg u x;
    }
