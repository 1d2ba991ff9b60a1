-- Where a quorum of the group replied that it did a call's PostOp, the machine has its turn committed.
use Rattle.std.proofs.Common.{◌≡◌, ◌⊎◌, ℕ, ◌*◌, ◌<◌, ◌≤◌, Bool, true, false, ◌||◌, Option, Some, None, refl, sym, ◌∙◌, ap, subst, arith, inl, inr, ⊎_elim}
use Rattle.ec_attr.proofs.Sets.{part, share}
use Rattle.ec_attr.specs.Bricks.{count_below}
use Rattle.ec_attr.specs.Marks.{is_marked}
use Rattle.ec_attr.specs.declared.attr.Attr.{Attr}
use Rattle.ec_attr.specs.declared.geometry.Geometry.{Geometry}
use Rattle.ec_attr.specs.declared.gfid.Gfid.{Gfid}
use Rattle.ec_wire.specs.declared.message.Message.{Message}
use Rattle.ec_wire.specs.declared.reply.Reply.{Reply}
use Rattle.ec_wire.specs.declared.request.Request.{Request}
use Rattle.ec_wire.specs.declared.request.Request.TheVariants.{PostOp, Unmark}
use Rattle.ec_conduct.specs.Account.{Account, Exchange, at, gfid_of}
use Rattle.ec_conduct.specs.Children.{IsPosted}
use Rattle.ec_conduct.specs.Done.{did, is_post, is_unmark}
use Rattle.ec_conduct.specs.Given.{Given, quorum}
use Rattle.ec_conduct.specs.Group.{is_good}
use Rattle.ec_conduct.specs.Opened.{account}
use Rattle.ec_conduct.specs.Standing.{is_grouped, is_member}
use Rattle.ec_history.specs.Accounts.{Books}
use Rattle.ec_history.specs.Run.{Net}
use Rattle.ec_law_base.specs.State.{Head as Seen}
use Rattle.ec_law_ballots.specs.Guard.{IsCommitted}
use Rattle.ec_law_ballots.specs.Words.{is_marked_head}
use Rattle.ec_law_net.specs.Start.{seen_head}
use Rattle.ec_law_net.specs.Turns.{View}
use Rattle.ec_law_turns.specs.Follows.{All, Follows, IsOfTurn}
use Rattle.ec_law_turns.specs.Reached.{Reached}
use Rattle.ec_law_turns.specs.Shown.{HasLearnt, IsOver, IsRaised, Tells, heads_in}
use Rattle.ec_law_turns.specs.Sound.{IsSound}
use Rattle.ec_law_turns.specs.Told.{PostTold, Told, ToldPostOp}
use Rattle.ec_law_turns.proofs.Allowed.{account_given}
use Rattle.ec_law_turns.proofs.Basics.{some_is}
use Rattle.ec_law_turns.proofs.Groups.{unmarked}
use Rattle.ec_law_turns.proofs.Windows.{Found, WasDone, all_both, did_one, reply_of}

-- a PostOp by its test, and an Unmark
record IsPostOp (q : Request) : Type 0 where
  gfid : Gfid
  grant : ℕ
  old : ℕ
  version : ℕ
  size : ℕ
  attr : Option Attr
  is : q ≡ PostOp gfid grant old version size attr

post_is : (q : Request) → is_post q ≡ true → IsPostOp q
post_is (PostOp x n old new size attr) e = record { gfid = x; grant = n; old = old; version = new; size = size; attr = attr; is = refl }
post_is q e = absurd (cc)

unmark_is : (q : Request) → is_unmark q ≡ true → (x : Gfid) × (n : ℕ) × (v : ℕ) × (d : ℕ) × (q ≡ Unmark x n v d)
unmark_is (Unmark x n v d) e = (x, n, v, d, refl)
unmark_is q e = absurd (cc)

or_true : (t u : Bool) → (t || u) ≡ true → (t ≡ true) ⊎ (u ≡ true)
or_true true u e = inl refl
or_true false u e = inr e

module _ (geometry : Geometry) (g : ℕ) (m : Net) (v : View) (b : Books) (r : Reached geometry g m v b) (a : ℕ) (given : Given) (begun : b.given a ≡ Some given) where
  abbrev pub c : Account
  c = account given (b.own a)

  given_is : c.given.geometry ≡ geometry
  given_is = ap (λ (y : Given). y.geometry) (account_given given (b.own a)) ∙ (r.known.numbers.given_below a given begun).1.geometry_is

  positive : 0 < quorum geometry
  positive = let h = geometry.least in omega (arith, h)

  half : geometry.n < 2 * quorum geometry
  half = let h = geometry.majority in omega (arith, h)

  within : (x : ℕ) → x < geometry.n → x < c.given.geometry.n
  within x h = subst (λ (y : Geometry). x < y.n) (sym given_is) h

  -- ## What is over

  follows : Follows g m.said v.turn v.of v.core.moment a c
  follows = r.known.calls a given begun

  learnt : HasLearnt geometry g m.said v.turn v.of v.core a c
  learnt = r.shown.calls a given begun

  abbrev Past : ℕ → Exchange → Type 0
  Past x e = IsOfTurn m.said v.turn v.of a x e.number e.request × IsOver g m.said v.of v.core e

  past : (x : ℕ) → All (Past x) ((c.on g).place x).window
  past x = all_both (λ e. IsOfTurn m.said v.turn v.of a x e.number e.request) (IsOver g m.said v.of v.core) ((c.on g).place x).window (follows.window x) (learnt.window x)

  asked_one : (x : ℕ) (e : Exchange) → Past x e → Told geometry.n (quorum geometry) g m.said v.of v.core (v.of e.number) x e.request
  asked_one x e p = let o = p.0.0 in subst (λ (y : ℕ). Told geometry.n (quorum geometry) g m.said v.of v.core (v.of e.number) y e.request) o.brick (r.shown.asked e.number o.message e.request o.is o.body)

  told_one : (x : ℕ) (e : Exchange) → Past x e → (reply : Reply) → e.reply ≡ Some reply → Tells g m.said v.core (v.of e.number) x e.request reply
  told_one x e p reply h =
      let o = p.0.0 in
      let t = p.1.told reply h in
      let same = some_is t.message o.message (sym t.is ∙ o.is) in
      subst (λ (y : ℕ). Tells g m.said v.core (v.of e.number) y e.request reply) (ap (λ (y : Message). y.brick) same ∙ o.brick) (t.at e.request (ap (λ (y : Message). y.body) same ∙ o.body))

  on_it : (x : ℕ) (e : Exchange) → Past x e → (q : Request) (y : Gfid) → e.request ≡ q → gfid_of q ≡ Some y.0 → y.0 ≡ g
  on_it x e p q y same is = some_is y.0 g (sym is ∙ (ap gfid_of (sym same) ∙ p.1.on))

  no_unmark : (x : ℕ) → did is_unmark ((c.on g).place x).window ≡ true → ⊥
  no_unmark x h =
      let o = did_one (Past x) is_unmark ((c.on g).place x).window (past x) h in
      let u = unmark_is o.e.request o.so.0 in
      let said = o.all.0.0 in
      subst (IsSound g m.said v.of v.core.moment said.message.call said.message.brick o.e.number) u.4 (r.known.sound o.e.number said.message o.e.request said.is said.body) (on_it x o.e o.all o.e.request u.0 refl (ap gfid_of u.4))

  -- a member has an unmarked head
  member : (x : ℕ) → is_member c g x ≡ true → is_good geometry.n (quorum geometry) (heads_in (c.on g)) x ≡ true
  member x h = ⊎_elim (λ y. subst (λ (z : Geometry). is_good z.n (quorum z) (heads_in (c.on g)) x ≡ true) given_is y) (λ y. absurd (no_unmark x y)) (or_true (is_grouped c g x) (did is_unmark (at c g x).window) h)

  -- ## PostOps

  -- the call has a ballot
  raised : (t : ℕ) → v.turn a ≡ Some t → 0 < (v.core.ballot t).number → (number : ℕ) × IsRaised geometry g v.turn v.core a c.waits c.steps (c.on g) number
  raised t has above = by (c.on g).dirty refl
    where
      by : (o : Option ℕ) → (c.on g).dirty ≡ o → (number : ℕ) × IsRaised geometry g v.turn v.core a c.waits c.steps (c.on g) number
      by None z = absurd (let zero = learnt.free z t has in omega (arith, zero, above))
      by (Some w) z = (w, learnt.raised w z)

  -- a PostOp that a member did counts
  post_done : (x : ℕ) → is_member c g x ≡ true → did is_post ((c.on g).place x).window ≡ true → (t : ℕ) × (v.turn a ≡ Some t) × (v.core.post t x ≡ true)
  post_done x is h = (v.of o.e.number, o.all.0.1, done (plain (is_marked u.old) refl told.ready))
    where
      o : Found (Past x) (WasDone is_post)
      o = did_one (Past x) is_post ((c.on g).place x).window (past x) h

      u : IsPostOp o.e.request
      u = post_is o.e.request o.so.0

      on : u.gfid.0 ≡ g
      on = on_it x o.e o.all o.e.request u.gfid refl (ap gfid_of u.is)

      told : ToldPostOp geometry.n (quorum geometry) g m.said v.of v.core (v.of o.e.number) x u.old u.version
      told = subst (Told geometry.n (quorum geometry) g m.said v.of v.core (v.of o.e.number) x) u.is (asked_one x o.e o.all) on

      done : is_marked u.old ≡ false → v.core.post (v.of o.e.number) x ≡ true
      done = let reply = reply_of o.e.reply o.so.1 in subst (λ (q : Request). Tells g m.said v.core (v.of o.e.number) x q reply.0) u.is (told_one x o.e o.all reply.0 reply.1) on reply.2

      plain : (t : Bool) → is_marked u.old ≡ t → PostTold g m.said v.of v.core (v.of o.e.number) x t → is_marked u.old ≡ false
      plain false e ready = e
      plain true e ready =
          let q = raised (v.of o.e.number) o.all.0.1 told.ballot in
          let z = unmarked geometry.n (quorum geometry) (heads_in (c.on g)) geometry.bricks positive half x (member x is) in
          let seen = subst (λ (y : ℕ). v.core.seen y x ≡ Some (seen_head (Some z.0))) (some_is q.1.t (v.of o.e.number) (sym q.1.has ∙ o.all.0.1)) (q.1.seen x z.0 z.1) in
          let same = some_is ready.0.head (seen_head (Some z.0)) (sym ready.0.seen ∙ seen) in
          absurd (let w = sym (ap (λ (y : Seen). is_marked_head (Some y)) same) ∙ ready.0.so in let k = sym w ∙ z.2 in cc)

  pub is_committed : IsPosted c g → (t : ℕ) × (v.turn a ≡ Some t) × IsCommitted geometry.n (quorum geometry) v.core t
  is_committed posted = (t, first.1, (let more = part geometry.n posted.which (v.core.post t) each in omega (arith, enough, more)))
    where
      enough : quorum geometry ≤ count_below geometry.n posted.which
      enough = subst (λ (y : Geometry). quorum y ≤ count_below y.n posted.which) given_is posted.enough

      one : (x : ℕ) → x < geometry.n → posted.which x ≡ true → (t : ℕ) × (v.turn a ≡ Some t) × (v.core.post t x ≡ true)
      one x lt so = let p = posted.each x (within x lt) so in post_done x p.0 p.1

      first : (t : ℕ) × (v.turn a ≡ Some t) × (v.core.post t (share geometry.n (quorum geometry) posted.which posted.which half enough enough).0 ≡ true)
      first = let s = share geometry.n (quorum geometry) posted.which posted.which half enough enough in one s.0 s.1 s.2

      t : ℕ
      t = first.0

      each : (x : ℕ) → x < geometry.n → posted.which x ≡ true → v.core.post t x ≡ true
      each x lt so = let p = one x lt so in subst (λ (y : ℕ). v.core.post y x ≡ true) (some_is p.0 t (sym p.1 ∙ first.1)) p.2
