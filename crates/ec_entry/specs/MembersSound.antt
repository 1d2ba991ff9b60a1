-- What is sent to the members of a group may be sent, and what it leaves.
use Rattle.std.proofs.Common.{◌≡◌, inl, inr, ℕ, ◌<◌, ◌&&◌, nat_lt, true, false, cond, refl, sym, ◌∙◌, ap, subst, Option, Some, None, List, ◌∷◌}
use Rattle.ec_answers.specs.declared.grouped.Group.{Group}
use Rattle.ec_brick.specs.Fit.{IsFit}
use Rattle.ec_conduct.specs.Account.{Account, Exchange, Place, at, gfid_of}
use Rattle.ec_conduct.specs.Conduct.{IsFree, MaySend}
use Rattle.ec_conduct.specs.Done.{is_change, is_done, is_lock, is_made, is_pre, is_query}
use Rattle.ec_conduct.specs.Given.{Given, bricks_of}
use Rattle.ec_conduct.specs.Standing.{head_of, holds}
use Rattle.ec_txn.specs.declared.ctx.Ctx.{Ctx}
use Rattle.ec_txn.specs.Ballot.{IsGroupAt, Members, is_within, serving, to_members, under, version_at}
use Rattle.ec_txn.specs.Rounds.{Asks, IsIdle, IsIn as IsInRound, IsOn, IsRound, IsSent, IsSentTo, IsUnlocked, asked_place, is_plain, subject}
use Rattle.ec_txn.specs.Tables.{IsIn}
use Rattle.ec_txn.proofs.BallotGoes.{Grows, group_released, released_of, reply_same}
use Rattle.ec_txn.proofs.BallotSends.{holds_by}
use Rattle.ec_txn.proofs.Ballots.{AskedAs, DidAsked, LocksNothing, did_asked, group_stays, member_asked, serving_is, unlocked_serving}
use Rattle.ec_txn.proofs.Openings.{is_free, over_in}
use Rattle.ec_wire.specs.declared.reply.Reply.{Reply}
use Rattle.ec_wire.specs.declared.request.Request.{Request}
use Rattle.ec_entry.specs.Changing.{HasChanged}

-- Requests on gfid g, each under a grant and by a version: no lock, no head and no PreOp is asked for.
pub record IsAsk (g : ℕ) (f : ℕ → ℕ → Request) : Type 0 where
  pub of : (i v : ℕ) → gfid_of (f i v) ≡ Some g
  pub plain : (i v : ℕ) → is_plain (f i v) ≡ true
  pub lock : (i v : ℕ) → is_lock (f i v) ≡ false
  pub query : (i v : ℕ) → is_query (f i v) ≡ false
  pub pre : (i v : ℕ) → is_pre (f i v) ≡ false
  pub fit : (i v : ℕ) → IsFit (f i v)
  pub same : LocksNothing f

-- the members are asked by f
abbrev pub AsksBy : Group → (ℕ → ℕ → Request) → Account → Asks → Type 0
AsksBy group f c h = (x : ℕ) → h x ≡ to_members group f c x

asked_as : (group : Group) (f : ℕ → ℕ → Request) (c : Account) (h : Asks) → AsksBy group f c h → (y : ℕ) (r : Request) → h y ≡ Some r → AskedAs group f c y r
asked_as group f c h l y r e = member_asked group f c y r (sym (l y) ∙ e)

pub members_on : (group : Group) (f : ℕ → ℕ → Request) (c : Account) (h : Asks) → IsAsk (subject c.given.op) f → AsksBy group f c h → IsOn (subject c.given.op) (bricks_of c.given) (c.on (subject c.given.op)).queried h
members_on group f c h a l = record {
  below = λ y r e. (asked_as group f c h l y r e).below;
  of = λ y r e. (let w = asked_as group f c h l y r e in ap gfid_of w.request ∙ a.of w.grant w.version);
  plain = λ y r e. (let w = asked_as group f c h l y r e in ap is_plain w.request ∙ a.plain w.grant w.version);
  first = λ y r e t. absurd (let w = asked_as group f c h l y r e in let u = sym t ∙ (ap is_lock w.request ∙ a.lock w.grant w.version) in cc);
  fit = λ y r e. (let w = asked_as group f c h l y r e in subst IsFit (sym w.request) (a.fit w.grant w.version));
}

-- what is over is the same all through the round
places_kept : (group : Group) (f : ℕ → ℕ → Request) (c : Account) (h part : Asks) (d : Account) → IsAsk (subject c.given.op) f → AsksBy group f c h → IsSent (subject c.given.op) c part d → ((y : ℕ) (r : Request) → part y ≡ Some r → h y ≡ Some r) → (y : ℕ)
    → at d (subject c.given.op) y ≡ at c (subject c.given.op) y
places_kept group f c h part d a l s some y = go (part y) refl (s.each y)
  where
    go : (o : Option Request) → part y ≡ o → IsSentTo o (at c (subject c.given.op) y) (d.waits y) (at d (subject c.given.op) y) → at d (subject c.given.op) y ≡ at c (subject c.given.op) y
    go None e t = t.1
    go (Some r) e t =
        let w = asked_as group f c h l y r (some y r e) in
        t.2 ∙ (ap (asked_place (at c (subject c.given.op) y) t.0) w.request ∙ a.same (at c (subject c.given.op) y) t.0 w.grant w.version)

-- What may be sent to a member, in the midst of its round: it serves, and its place is as the round began.
pub member_may : (x : Ctx) (given : Given) (group : Group) (f : ℕ → ℕ → Request) (c : Account) (h part : Asks) (d : Account) → IsIn x given c → IsAsk (subject c.given.op) f → AsksBy group f c h → IsSent (subject given.op) c part d
    → ((y : ℕ) (r : Request) → part y ≡ Some r → h y ≡ Some r)
    → ((b i v : ℕ) → b < bricks_of c.given → serving (at c (subject c.given.op) b) ≡ Some i → version_at group b ≡ Some v → d.given ≡ c.given → ((y : ℕ) → at d (subject c.given.op) y ≡ at c (subject c.given.op) y)
    → IsFree d b (subject c.given.op) → holds (at d (subject c.given.op) b).inode i ≡ true → MaySend d b (f i v))
    → (b : ℕ) (r : Request) → h b ≡ Some r → part b ≡ None → MaySend d b r
member_may x given group f c h part d at_c a l s some may b r e n =
    let here : IsSent (subject c.given.op) c part d = subst (λ (v : Given). IsSent (subject v.op) c part d) (sym at_c.given_is) s in
    let isin : IsIn x c.given c = subst (λ (v : Given). IsIn x v c) (sym at_c.given_is) at_c in
    let w = asked_as group f c h l b r e in
    let same = places_kept group f c h part d a l here some in
    subst (λ (q : Request). MaySend d b q) (sym w.request) (may b w.grant w.version w.below w.serves w.versioned here.given same
    (is_free x c.given b c d part isin here n w.below)
    (ap (λ (p : Place). holds p.inode w.grant) (same b) ∙ holds_by (at c (subject c.given.op) b).inode w.grant (serving_is (at c (subject c.given.op) b) w.grant w.serves).1))

-- a window is the same as the round is over, or has one request more
pub grow_by : (g : ℕ) (c : Account) (h : Asks) (d : Account) → ((y : ℕ) (r : Request) → h y ≡ Some r → (is_query r ≡ false) × ((i : ℕ) → asked_place (at c g y) i r ≡ at c g y)) → IsRound g c h d → IsIdle d → (x : ℕ)
    → Grows (at c g x).window (at d g x).window
grow_by g c h d quiet r idle x = go (h x) refl (r.each x)
  where
    go : (o : Option Request) → h x ≡ o → IsInRound o (at c g x) (d.waits x) (at d g x) → Grows (at c g x).window (at d g x).window
    go None e t = inl (ap (λ (p : Place). p.window) t.1)
    go (Some q) e t =
        let w = over_in q (at c g x) (d.waits x) (at d g x) t (idle x) in
        let k = quiet x q e in
        inr (record { number = w.0; request = q; reply = w.1 }, k.0, ap (λ (p : Place). p.window) w.2 ∙ ap (λ (p : Place). record { number = w.0; request = q; reply = w.1 } ∷ p.window) (k.1 w.0))

pub members_grow : (group : Group) (f : ℕ → ℕ → Request) (c : Account) (h : Asks) (d : Account) → IsAsk (subject c.given.op) f → AsksBy group f c h → IsRound (subject c.given.op) c h d → IsIdle d → (x : ℕ)
    → Grows (at c (subject c.given.op) x).window (at d (subject c.given.op) x).window
members_grow group f c h d a l r idle = grow_by (subject c.given.op) c h d (λ y q e.
    (let w = asked_as group f c h l y q e in (
      ap is_query w.request ∙ a.query w.grant w.version,
      λ i. ap (asked_place (at c (subject c.given.op) y) i) w.request ∙ a.same (at c (subject c.given.op) y) i w.grant w.version,
    ))) r idle

-- the group stays, as nobody is asked for a head
pub group_kept : (g : ℕ) (group : Group) (c d e : Account) → d.given ≡ c.given → ((x : ℕ) → Grows (at c g x).window (at d g x).window) → IsUnlocked g d e → IsGroupAt c g group → IsGroupAt e g group
group_kept g group c d e dc grow u i = group_released g group d e (released_of g d e u) (group_stays c d g group dc (λ x. ap head_of (reply_same (at c g x).window (at d g x).window (grow x))) i)

-- What each member that serves has in its window, after a round that asked the members by f.
pub members_go : (group : Group) (f : ℕ → ℕ → Request) (P Q : ℕ → ℕ → List Exchange → Type 0) (c d e : Account) → c.given ≡ e.given → IsUnlocked (subject e.given.op) d e
    → ((x j w : ℕ) → x < bricks_of e.given → serving (at d (subject e.given.op) x) ≡ Some j → version_at group x ≡ Some w → DidAsked f (at c (subject e.given.op) x) (at d (subject e.given.op) x) j w)
    → ((i v k : ℕ) (reply : Option Reply) (es : List Exchange) → is_done reply ≡ true → P i v es → Q i v (record { number = k; request = f i v; reply = reply } ∷ es))
    → Members group c (λ x i v. P i v (at c (subject c.given.op) x).window) → Members group e (λ x i v. Q i v (at e (subject e.given.op) x).window)
members_go group f P Q c d e ce u did step l x i v less s t =
    let g = subject e.given.op in
    let k = did x i v less (sym (unlocked_serving g x d e u) ∙ s) t in
    let before : P i v (at c g x).window = subst (λ (z : Given). P i v (at c (subject z.op) x).window) ce
    (l x i v (subst (λ (z : Given). x < bricks_of z) (sym ce) less) (subst (λ (z : Given). serving (at c (subject z.op) x) ≡ Some i) (sym ce) k.served) t) in
    subst (Q i v) (sym (u.window x ∙ k.window)) (step i v k.number k.reply (at c g x).window k.done before)

-- a member that serves after a round by f did what it was asked
pub did_by : (group : Group) (f : ℕ → ℕ → Request) (c : Account) (h : Asks) (d e : Account) → is_within group.head ≡ true → IsAsk (subject c.given.op) f → AsksBy group f c h → c.given ≡ e.given → IsRound (subject e.given.op) c h d → IsIdle d
    → (x j w : ℕ) → x < bricks_of e.given → serving (at d (subject e.given.op) x) ≡ Some j → version_at group x ≡ Some w → DidAsked f (at c (subject e.given.op) x) (at d (subject e.given.op) x) j w
did_by group f c h d e within a l ce r idle x j w less s t =
    did_asked group f (subject e.given.op) x j w c h d a.same (ap (λ (z : Given). subject z.op) (sym ce)) within l r idle (subst (λ (z : Given). x < bricks_of z) (sym ce) less) s t

-- what the members are asked next is told by the account after asks are released that weren't granted
pub asks_next : (group : Group) (f : Given → ℕ → ℕ → Request) (d e : Account) → d.given ≡ e.given → IsUnlocked (subject e.given.op) d e → (x : ℕ) → to_members group (f d.given) d x ≡ to_members group (f e.given) e x
asks_next group f d e dg u x =
    let hs : serving (at d (subject d.given.op) x) ≡ serving (at e (subject e.given.op) x) = ap (λ (v : Given). serving (at d (subject v.op) x)) dg ∙ sym (unlocked_serving (subject e.given.op) x d e u) in
    λ j. cond (is_within group.head && nat_lt x (bricks_of (dg j))) (under (hs j) (version_at group x) (f (dg j))) None

-- one change more was done
pub changed_more : (g : ℕ) (group : Group) (rs : List Request) (i v k : ℕ) (q : Request) (reply : Option Reply) (es : List Exchange) → is_pre q ≡ false → is_change q ≡ true → is_made q ≡ false → is_done reply ≡ true → HasChanged g group rs i v es
    → HasChanged g group (q ∷ rs) i v (record { number = k; request = q; reply = reply } ∷ es)
changed_more g group rs i v k q reply es a b m z w = record {
  pre = rw a w.pre;
  done = rw (a, b, z) w.done;
  changes_are = rw (a, b) (ap (λ (qs : List Request). q ∷ qs) w.changes_are);
  made = rw m w.made;
}
