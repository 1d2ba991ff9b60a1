-- What the conduct gives of a PreOp, a PostOp and a Clear that a call sends, by what it was told.
use Rattle.std.proofs.Common.{◌≡◌, ◌⊎◌, ℕ, ◌+◌, ◌*◌, ◌^◌, ◌<◌, ◌≤◌, Bool, true, false, not, ◌==◌, ◌&&◌, ◌||◌, Option, Some, None, refl, sym, ◌∙◌, ap, subst, arith, inl, inr, ⊎_elim}
use Rattle.std.proofs.lemmas.Bool.Decides.{nat_tests}
use Rattle.ec_attr.proofs.Sets.{part}
use Rattle.ec_attr.specs.Bricks.{count_below}
use Rattle.ec_attr.specs.Marks.{is_marked, marked, stripped}
use Rattle.ec_attr.specs.declared.attr.Attr.{Attr}
use Rattle.ec_attr.specs.declared.geometry.Geometry.{Geometry}
use Rattle.ec_attr.specs.declared.gfid.Gfid.{Gfid}
use Rattle.ec_attr.specs.declared.head.Head.{Head}
use Rattle.ec_attr.specs.declared.kind.Domain.TheVariants.{Inode}
use Rattle.ec_attr.specs.declared.kind.LockKind.{LockKind}
use Rattle.ec_attr.specs.declared.kind.LockKind.TheVariants.{Exclusive, Shared}
use Rattle.ec_wire.specs.declared.message.Body.TheVariants.{ToBrick}
use Rattle.ec_wire.specs.declared.message.Message.{Message}
use Rattle.ec_wire.specs.declared.reply.Reply.{Reply}
use Rattle.ec_wire.specs.declared.reply.Reply.TheVariants.{Head as HeadIs}
use Rattle.ec_wire.specs.declared.request.Request.{Request}
use Rattle.ec_wire.specs.declared.request.Request.TheVariants.{Ask, Query, PreOp, PostOp, Unmark}
use Rattle.ec_conduct.specs.Account.{Account, Dealings, Exchange, Wait, at, gfid_of}
use Rattle.ec_conduct.specs.Ballots.{MayClear, MayPostOp, MayPreOp}
use Rattle.ec_conduct.specs.Done.{did, failed_none, is_change, is_done, is_post_to, is_pre, is_query, is_unmark, last_done, since, tried}
use Rattle.ec_conduct.specs.Given.{quorum}
use Rattle.ec_conduct.specs.Group.{group_head, has, is_good, is_sink}
use Rattle.ec_conduct.specs.Standing.{Every, heads_at, is_grouped, is_member, is_sink_of}
use Rattle.ec_law_base.specs.State.{Ballot, Head as Seen, State, target}
use Rattle.ec_law_ballots.specs.Words.{at_base, is_marked_head}
use Rattle.ec_law_net.specs.Start.{seen_head}
use Rattle.ec_law_turns.specs.Follows.{All, Follows, Has, IsLock, IsOfTurn}
use Rattle.ec_law_turns.specs.Once.{is_sink_pre}
use Rattle.ec_law_turns.specs.Orderly.{is_shared}
use Rattle.ec_law_turns.specs.Shown.{HasLearnt, IsOver, IsRaised, Tells, group_in, heads_in}
use Rattle.ec_law_turns.specs.Sound.{AreSound, IsSound}
use Rattle.ec_law_turns.specs.Told.{PostTold, PreTold, Saw, Told, ToldClear, ToldPostOp, ToldPreOp}
use Rattle.ec_law_turns.proofs.Basics.{has_tried, itself, some_is, some_none}
use Rattle.ec_law_turns.proofs.Groups.{based, group_unmarked, of_group, plain, raised, sink_marked, unmarked, with_mark}
use Rattle.ec_law_turns.proofs.Windows.{Found, all_both, did_one, head_one, last_one, reply_of, was_tried}

-- a PreOp by its test, and so on
is_pre_is : (q : Request) → is_pre q ≡ true → (x : Gfid) × (n : ℕ) × (v : ℕ) × (d : ℕ) × (q ≡ PreOp x n v d)
is_pre_is (PreOp x n v d) e = (x, n, v, d, refl)
is_pre_is q e = absurd (cc)

is_query_is : (q : Request) → is_query q ≡ true → (x : Gfid) × (n : ℕ) × (q ≡ Query x n)
is_query_is (Query x n) e = (x, n, refl)
is_query_is q e = absurd (cc)

pub record IsPostTo (version : ℕ) (q : Request) : Type 0 where
  pub gfid : Gfid
  pub grant : ℕ
  pub old : ℕ
  pub size : ℕ
  pub attr : Option Attr
  pub is : q ≡ PostOp gfid grant old version size attr

is_post_is : (version : ℕ) (q : Request) → is_post_to version q ≡ true → IsPostTo version q
is_post_is version (PostOp x n old new size attr) e = record { gfid = x; grant = n; old = old; size = size; attr = attr; is = ap (λ (v : ℕ). PostOp x n old v size attr) (same new version e) }
  where
    same : (x y : ℕ) → (x == y) ≡ true → x ≡ y
    same x y e = grind (arith, nat_tests)
is_post_is version q e = absurd (cc)

unmark_on : (q : Request) → is_unmark q ≡ true → (x : Gfid) × (n : ℕ) × (v : ℕ) × (d : ℕ) × (q ≡ Unmark x n v d)
unmark_on (Unmark x n v d) e = (x, n, v, d, refl)
unmark_on q e = absurd (cc)

pre_no_query : (q : Request) → not (is_pre q) ≡ false → is_query q ≡ false
pre_no_query (PreOp x n v d) e = refl
pre_no_query q e = absurd (cc)

kind_or : (k : LockKind) → (k ≡ Shared) ⊎ (k ≡ Exclusive)
kind_or Shared = inl refl
kind_or Exclusive = inr refl

or_true : (t u : Bool) → (t || u) ≡ true → (t ≡ true) ⊎ (u ≡ true)
or_true true u e = inl refl
or_true false u e = inr e

and_first : (t u : Bool) → (t && u) ≡ true → t ≡ true
and_first true u e = refl
and_first false u e = absurd (cc)

-- A PreOp that may be sent: its ballot is the turn's, or the turn has none, and stands on what the machine saw.
pub record Raises (geometry : Geometry) (g : ℕ) (turn : ℕ → Option ℕ) (s : State) (a b : ℕ) (waits : ℕ → Option Wait) (steps : ℕ) (d : Dealings) (version number : ℕ) : Type 0 where
  pub t : ℕ
  pub has : turn a ≡ Some t
  pub moment : s.moment t ≡ true
  pub head : Head
  pub group : group_in geometry d ≡ Some head
  pub base : stripped version ≡ head.version.content
  pub above : head.dirty.content < number
  pub limit : stripped version + number < 2 ^ 61
  pub ballot : ((s.ballot t).number ≡ 0) ⊎ (s.ballot t ≡ record { base = head.version.content; number = number })
  pub queried : (step : ℕ) × (d.queried ≡ Some step) × (step < steps)
  pub idle : (x : ℕ) (w : Wait) → waits x ≡ Some w → gfid_of w.request ≡ Some g → is_query w.request ≡ false
  pub seen : (x : ℕ) (h : Head) → heads_in d x ≡ Some h → s.seen t x ≡ Some (seen_head (Some h))
  pub plain : is_marked version ≡ false → Saw s t b (λ h. at_base (record { base = stripped version; number = number }) h ≡ true)
  pub sink : is_marked version ≡ true → Saw s t b (λ h. is_marked_head h ≡ true)

module _ (geometry : Geometry) (g : ℕ) (said : ℕ → Option Message) (turn : ℕ → Option ℕ) (of : ℕ → ℕ) (s : State) (a b : ℕ) (lt : b < geometry.n) (c : Account) (given_is : c.given.geometry ≡ geometry) (f : Follows g said turn of s.moment a c) (l : HasLearnt geometry g said turn of s a c) (sound : AreSound g said of s.moment) (bricks : (i : ℕ) (x : Message) (q : Request) → said i ≡ Some x → x.body ≡ ToBrick q → x.brick < geometry.n) (asked : (i : ℕ) (x : Message) (q : Request) → said i ≡ Some x → x.body ≡ ToBrick q → Told geometry.n (quorum geometry) g said of s (of i) x.brick q) where
  n : ℕ
  n = geometry.n

  positive : 0 < quorum geometry
  positive = let h = geometry.least in omega (arith, h)

  half : geometry.n < 2 * quorum geometry
  half = let h = geometry.majority in omega (arith, h)

  within : (x : ℕ) → x < geometry.n → x < c.given.geometry.n
  within x h = subst (λ (y : Geometry). x < y.n) (sym given_is) h

  -- ## What is over

  abbrev Past : ℕ → Exchange → Type 0
  Past x e = IsOfTurn said turn of a x e.number e.request × IsOver g said of s e

  past : (x : ℕ) → All (Past x) ((c.on g).place x).window
  past x = all_both (λ e. IsOfTurn said turn of a x e.number e.request) (IsOver g said of s) ((c.on g).place x).window (f.window x) (l.window x)

  asked_one : (x : ℕ) (e : Exchange) → Past x e → Told geometry.n (quorum geometry) g said of s (of e.number) x e.request
  asked_one x e p = let o = p.0.0 in subst (λ (y : ℕ). Told geometry.n (quorum geometry) g said of s (of e.number) y e.request) o.brick (asked e.number o.message e.request o.is o.body)

  told_one : (x : ℕ) (e : Exchange) → Past x e → (reply : Reply) → e.reply ≡ Some reply → Tells g said s (of e.number) x e.request reply
  told_one x e p reply h =
      let o = p.0.0 in
      let t = p.1.told reply h in
      let same = some_is t.message o.message (sym t.is ∙ o.is) in
      subst (λ (y : ℕ). Tells g said s (of e.number) y e.request reply) (ap (λ (y : Message). y.brick) same ∙ o.brick) (t.at e.request (ap (λ (y : Message). y.body) same ∙ o.body))

  on_it : (x : ℕ) (e : Exchange) → Past x e → (q : Request) (y : Gfid) → e.request ≡ q → gfid_of q ≡ Some y.0 → y.0 ≡ g
  on_it x e p q y same is = some_is y.0 g (sym is ∙ (ap gfid_of (sym same) ∙ p.1.on))

  no_unmark : (x : ℕ) → did is_unmark ((c.on g).place x).window ≡ true → ⊥
  no_unmark x h =
      let o = did_one (Past x) is_unmark ((c.on g).place x).window (past x) h in
      let u = unmark_on o.e.request o.so.0 in
      let said = o.all.0.0 in
      subst (IsSound g _ of s.moment said.message.call said.message.brick o.e.number) u.4 (sound o.e.number said.message o.e.request said.is said.body) (on_it x o.e o.all o.e.request u.0 refl (ap gfid_of u.4))

  -- a member has an unmarked head
  member : (x : ℕ) → is_member c g x ≡ true → is_good geometry.n (quorum geometry) (heads_in (c.on g)) x ≡ true
  member x h = ⊎_elim (λ y. subst (λ (z : Geometry). is_good z.n (quorum z) (heads_in (c.on g)) x ≡ true) given_is y) (λ y. absurd (no_unmark x y)) (or_true (is_grouped c g x) (did is_unmark (at c g x).window) h)

  -- ## A PreOp

  module _ (grant version number : ℕ) (may : MayPreOp c b g grant version number) (order : Every c (λ x. tried is_shared (at c g x).window ≡ false)) where
    group : group_in geometry (c.on g) ≡ Some may.head
    group = subst (λ (y : Geometry). group_head y.n (quorum y) (heads_at c g) ≡ Some may.head) given_is may.group

    -- what is waited for on the gfid are PreOps
    only_pre : (x : ℕ) (w : Wait) → c.waits x ≡ Some w → gfid_of w.request ≡ Some g → not (is_pre w.request) ≡ false
    only_pre x w h on =
        let o = f.waiting x w h in
        let none = may.idle x (within x (subst (λ (u : ℕ). u < geometry.n) o.brick (bricks w.number o.message w.request o.is o.body))) in
        second (has (λ y. y == g) (gfid_of w.request)) (not (is_pre w.request)) (ap (has (λ y. y == g)) on ∙ itself g) (sym (ap (has (λ (y : Wait). has (λ z. z == g) (gfid_of y.request) && not (is_pre y.request))) h) ∙ none)
      where
        second : (t u : Bool) → t ≡ true → (t && u) ≡ false → u ≡ false
        second true u e i = i
        second false u e i = absurd (cc)

    looked : (step : ℕ) × ((c.on g).queried ≡ Some step) × (step < c.steps)
    looked = let o = of_group geometry.n (quorum geometry) (heads_in (c.on g)) geometry.bricks positive half may.head group in f.looked o.0 (was_tried is_query o.1 ((c.on g).place o.0).window o.3)

    -- the asks of this window are exclusive
    alone : (x i : ℕ) (k : IsLock g said a x i) → turn a ≡ Some (of i) → k.kind ≡ Exclusive
    alone x i k has = ⊎_elim (λ e. absurd (⊎_elim (λ h. waits h) (λ h. over e h) (f.sent x i (Ask k.gfid Inode k.kind) k.asks (ap (λ (y : ℕ). Some y) k.on) refl has))) (λ e. e) (kind_or k.kind)
      where
        waits : c.waits x ≡ Some (record { number = i; request = Ask k.gfid Inode k.kind }) → ⊥
        waits h = let z = only_pre x (record { number = i; request = Ask k.gfid Inode k.kind }) h (ap (λ (y : ℕ). Some y) k.on) in cc

        over : k.kind ≡ Shared → Has i (Ask k.gfid Inode k.kind) ((c.on g).place x).window → ⊥
        over e h =
            let brick = subst (λ (u : ℕ). u < geometry.n) k.asks.brick (bricks i k.asks.message (Ask k.gfid Inode k.kind) k.asks.is k.asks.body) in
            let so = has_tried is_shared i (Ask k.gfid Inode k.kind) (ap (λ (y : LockKind). is_shared (Ask k.gfid Inode y)) e) ((c.on g).place x).window h in
            let z = sym so ∙ order x (within x brick) in cc

    -- the heads that were heard are those that the machine saw, while the turn has no ballot
    heads_seen : (c.on g).dirty ≡ None → (t : ℕ) → turn a ≡ Some t → (x : ℕ) (h : Head) → heads_in (c.on g) x ≡ Some h → s.seen t x ≡ Some (seen_head (Some h))
    heads_seen none t has x h e =
        let o = head_one (Past x) is_query h ((c.on g).place x).window (past x) e in
        let u = is_query_is o.e.request o.so.0 in
        let on = on_it x o.e o.all o.e.request u.0 refl (ap gfid_of u.2) in
        let q = o.all.0.0 in
        let names = (subst (IsSound g said of s.moment q.message.call q.message.brick o.e.number) u.2 (sound o.e.number q.message o.e.request q.is q.body) on).0 in
        let lock = subst (λ (y : ℕ). IsLock g said a y u.1) q.brick (subst (λ (y : ℕ). IsLock g said y q.message.brick u.1) q.call names.lock) in
        let kind = alone x u.1 lock (o.all.0.1 ∙ ap (λ (y : ℕ). Some y) (sym names.turn)) in
        let told = subst (λ (r : Request). Tells g said s (of o.e.number) x r (HeadIs h)) u.2 (told_one x o.e o.all (HeadIs h) o.so.1) on in
        let same = some_is told.message lock.asks.message (sym told.is ∙ lock.asks.is) in
        let turn_is = some_is (of o.e.number) t (sym o.all.0.1 ∙ has) in
        ⊎_elim
        (λ z. subst (λ (y : ℕ). s.seen y x ≡ Some (seen_head (Some h))) turn_is z)
        (λ z. absurd (let zero = l.free none (of o.e.number) o.all.0.1 in omega (arith, z, zero)))
        (told.at lock.gfid (ap (λ (y : Message). y.body) same ∙ (lock.asks.body ∙ ap (λ (y : LockKind). ToBrick (Ask lock.gfid Inode y)) kind)) lock.on)

    pub raises : Raises geometry g turn s a b c.waits c.steps (c.on g) version number
    raises = by (c.on g).dirty refl
      where
        low : may.head.version.content < 2 ^ 61
        low = let h = may.limit in omega (arith, h)

        unmarked_group : is_marked may.head.version.content ≡ false
        unmarked_group = group_unmarked geometry.n (quorum geometry) (heads_in (c.on g)) geometry.bricks positive half may.head group

        idle : (x : ℕ) (w : Wait) → c.waits x ≡ Some w → gfid_of w.request ≡ Some g → is_query w.request ≡ false
        idle x w h on = pre_no_query w.request (only_pre x w h on)

        all : (t : ℕ) → turn a ≡ Some t → s.moment t ≡ true → ((s.ballot t).number ≡ 0) ⊎ (s.ballot t ≡ record { base = may.head.version.content; number = number }) → ((x : ℕ) (h : Head) → heads_in (c.on g) x ≡ Some h → s.seen t x ≡ Some (seen_head (Some h))) → Raises geometry g turn s a b c.waits c.steps (c.on g) version number
        all t has moment ballot seen = ⊎_elim member_of sink_of may.version_is
          where
            made : stripped version ≡ may.head.version.content → (is_marked version ≡ false → Saw s t b (λ h. at_base (record { base = stripped version; number = number }) h ≡ true)) → (is_marked version ≡ true → Saw s t b (λ h. is_marked_head h ≡ true)) → Raises geometry g turn s a b c.waits c.steps (c.on g) version number
            made base plain sink = record { t = t; has = has; moment = moment; head = may.head; group = group; base = base; above = may.above; limit = (let h = may.limit in omega (arith, h, base)); ballot = ballot; queried = looked; idle = idle; seen = seen; plain = plain; sink = sink }

            member_of : (is_member c g b ≡ true) × (version ≡ may.head.version.content) → Raises geometry g turn s a b c.waits c.steps (c.on g) version number
            member_of h =
                let mark = ap is_marked h.1 ∙ unmarked_group in
                let base = plain version mark ∙ h.1 in
                let o = based geometry.n (quorum geometry) (heads_in (c.on g)) geometry.bricks positive half may.head group b number lt (member b h.0) may.above in
                made base (λ e. record { head = seen_head (Some o.0); seen = seen b o.0 o.1; so = subst (λ (y : ℕ). at_base (record { base = y; number = number }) (Some (seen_head (Some o.0))) ≡ true) (sym base) o.2 }) (λ e. absurd (let z = sym e ∙ mark in cc))

            sink_of : (is_sink_of c g b ≡ true) × (version ≡ marked may.head.version.content) → Raises geometry g turn s a b c.waits c.steps (c.on g) version number
            sink_of h =
                let m = with_mark may.head.version.content unmarked_group low in
                let mark = ap is_marked h.1 ∙ m.0 in
                let sink = subst (λ (y : Geometry). is_sink y.n (quorum y) (heads_in (c.on g)) b ≡ true) given_is (and_first (is_sink c.given.geometry.n (quorum c.given.geometry) (heads_at c g) b) (not (did is_unmark (at c g b).window)) h.0) in
                let o = sink_marked geometry.n (quorum geometry) (heads_in (c.on g)) geometry.bricks positive half may.head group b sink in
                made (ap stripped h.1 ∙ m.1) (λ e. absurd (let z = sym mark ∙ e in cc)) (λ e. record { head = seen_head (Some o.0); seen = seen b o.0 o.1; so = o.2 })

        by : (o : Option ℕ) → (c.on g).dirty ≡ o → Raises geometry g turn s a b c.waits c.steps (c.on g) version number
        by None e =
            let z = looked in
            let o = f.over z.0 z.1 in
            all o.1 o.2 o.3 (inl (l.free e o.1 o.2)) (heads_seen e o.1 o.2)
        by (Some d) e =
            let r = l.raised d e in
            let z = looked in
            let o = f.over z.0 z.1 in
            let same = some_is o.1 r.t (sym o.2 ∙ r.has) in
            let head = some_is r.head may.head (sym r.group ∙ group) in
            let number_is = ⊎_elim (λ h. absurd (some_none d (sym e ∙ h))) (λ h. some_is d number (sym e ∙ h)) may.one in
            all r.t r.has (subst (λ (y : ℕ). s.moment y ≡ true) same o.3) (inr (r.ballot ∙ (ap (λ (y : Head). record { base = y.version.content; number = d }) head ∙ ap (λ (y : ℕ). record { base = may.head.version.content; number = y }) number_is))) r.seen

  -- ## A PostOp

  -- a call that heard of a PreOp has its turn's ballot
  abbrev Raised : Type 0
  Raised = (number : ℕ) × IsRaised geometry g turn s a c.waits c.steps (c.on g) number

  has_ballot : (x : ℕ) (e : Exchange) → Past x e → (y : Gfid) (i v d : ℕ) → e.request ≡ PreOp y i v d → Raised × ToldPreOp s (of e.number) x v d
  has_ballot x e p y i v d is = by (c.on g).dirty refl
    where
      told : ToldPreOp s (of e.number) x v d
      told = subst (Told geometry.n (quorum geometry) g said of s (of e.number) x) is (asked_one x e p) (on_it x e p e.request y refl (ap gfid_of is))

      by : (o : Option ℕ) → (c.on g).dirty ≡ o → Raised × ToldPreOp s (of e.number) x v d
      by None z = absurd (let zero = l.free z (of e.number) p.0.1 in let h = ap (λ (q : Ballot). q.number) told.ballot in let up = told.above in omega (arith, zero, h, up))
      by (Some w) z = ((w, l.raised w z), told)

  -- a PreOp that a member did counts
  member_did : (x : ℕ) → is_member c g x ≡ true → did is_pre ((c.on g).place x).window ≡ true → (t : ℕ) → turn a ≡ Some t → s.pre t x ≡ true
  member_did x is h t has =
      let o = did_one (Past x) is_pre ((c.on g).place x).window (past x) h in
      let u = is_pre_is o.e.request o.so.0 in
      let r = has_ballot x o.e o.all u.0 u.1 u.2 u.3 u.4 in
      let reply = reply_of o.e.reply o.so.1 in
      let done = subst (λ (q : Request). Tells g said s (of o.e.number) x q reply.0) u.4 (told_one x o.e o.all reply.0 reply.1) (on_it x o.e o.all o.e.request u.0 refl (ap gfid_of u.4)) reply.2 in
      subst (λ (y : ℕ). s.pre y x ≡ true) (some_is (of o.e.number) t (sym o.all.0.1 ∙ has)) (done (unmarked_at (of o.e.number) o.all.0.1 r.0.1 u.2 (is_marked u.2) refl r.1.ready))
    where
      unmarked_at : (y : ℕ) → turn a ≡ Some y → {d : ℕ} → IsRaised geometry g turn s a c.waits c.steps (c.on g) d → (v : ℕ) (t : Bool) → is_marked v ≡ t → PreTold s y x t → is_marked v ≡ false
      unmarked_at y has r v false e ready = e
      unmarked_at y has r v true e ready =
          let u = unmarked geometry.n (quorum geometry) (heads_in (c.on g)) geometry.bricks positive half x (member x is) in
          let seen = subst (λ (z : ℕ). s.seen z x ≡ Some (seen_head (Some u.0))) (some_is r.t y (sym r.has ∙ has)) (r.seen x u.0 u.1) in
          let same = some_is ready.head (seen_head (Some u.0)) (sym ready.seen ∙ seen) in
          absurd (let z = sym (ap (λ (h : Seen). is_marked_head (Some h)) same) ∙ ready.so in let w = sym z ∙ u.2 in cc)

  pub told_post : (x : Gfid) (grant old new size : ℕ) (attr : Option Attr) → x.0 ≡ g → MayPostOp c b x grant old new size attr → (t : ℕ) × (turn a ≡ Some t) × ToldPostOp geometry.n (quorum geometry) g said of s t b old new
  told_post x grant old new size attr on may = (
    of o.e.number,
    o.all.0.1,
    record {
      ballot = (let e = ap (λ (p : Ballot). p.number) pre.ballot in let up = pre.above in omega (arith, e, up));
      base = ap (λ (p : Ballot). p.base) pre.ballot;
      target = ap target pre.ballot ∙ (marks.1 ∙ ap stripped (sym may.version));
      mark = ap is_marked may.version ∙ marks.0;
      quorum = (let enough = subst (λ (y : Geometry). quorum y ≤ count_below y.n may.quorum.which) given_is may.quorum.enough in let more = part geometry.n may.quorum.which (s.pre (of o.e.number)) each in omega (arith, enough, more));
      ready = ready (is_marked old) refl pre.ready;
    },
  )
    where
      o : Found (Past b) (λ e. (e.request ≡ PreOp x grant old may.dirty) × (is_done e.reply ≡ true))
      o = last_one (Past b) is_pre (PreOp x grant old may.dirty) ((c.on g).place b).window (past b) (subst (λ (y : ℕ). last_done is_pre (at c y b).window ≡ Some (PreOp x grant old may.dirty)) on may.pre)

      pre : ToldPreOp s (of o.e.number) b old may.dirty
      pre = (has_ballot b o.e o.all x grant old may.dirty o.so.0).1

      marks : (is_marked (old + may.dirty) ≡ is_marked old) × (stripped old + may.dirty ≡ stripped (old + may.dirty))
      marks = raised old may.dirty pre.limit

      each : (y : ℕ) → y < geometry.n → may.quorum.which y ≡ true → s.pre (of o.e.number) y ≡ true
      each y less so =
          let p = may.quorum.each y (within y less) so in
          let whole = subst (λ (z : ℕ). (did is_pre (at c z y).window && failed_none is_change (since is_pre (at c z y).window)) ≡ true) on p.1.done in
          member_did y (subst (λ (z : ℕ). is_member c z y ≡ true) on p.0) (and_first (did is_pre ((c.on g).place y).window) (failed_none is_change (since is_pre ((c.on g).place y).window)) whole) (of o.e.number) o.all.0.1

      ready : (t : Bool) → is_marked old ≡ t → PreTold s (of o.e.number) b t → PostTold g said of s (of o.e.number) b t
      ready false e h = let reply = reply_of o.e.reply o.so.1 in subst (λ (q : Request). Tells g said s (of o.e.number) b q reply.0) o.so.0 (told_one b o.e o.all reply.0 reply.1) on reply.2 e
      ready true e h = let q = o.all.0.0 in (h, (o.e.number, record { message = q.message; request = o.e.request; is = q.is; brick = q.brick; body = q.body; on = o.all.1.on; passes = ap is_sink_pre o.so.0 ∙ e; turn = refl }))

  -- ## A Clear

  pub told_clear : (grant version : ℕ) → MayClear c b g grant version → (t : ℕ) × (turn a ≡ Some t) × ToldClear geometry.n s t version
  told_clear grant version may = let o = one b lt in (
    of o.e.number,
    o.all.0.1,
    record {
      ballot = (post b o).ballot;
      target = (post b o).target ∙ plain version may.unmarked;
      all = λ x less. let p = one x less in subst (λ (y : ℕ). s.post y x ≡ true) (some_is (of p.e.number) (of o.e.number) (sym p.all.0.1 ∙ o.all.0.1)) (did_it x p);
    },
  )
    where
      One : ℕ → Type 0
      One x = Found (Past x) (λ e. (is_post_to version e.request ≡ true) × (is_done e.reply ≡ true))

      one : (x : ℕ) → x < geometry.n → One x
      one x less = did_one (Past x) (is_post_to version) ((c.on g).place x).window (past x) (may.posted x (within x less))

      is_post : (x : ℕ) (p : One x) → IsPostTo version p.e.request
      is_post x p = is_post_is version p.e.request p.so.0

      post : (x : ℕ) (p : One x) → ToldPostOp geometry.n (quorum geometry) g said of s (of p.e.number) x (is_post x p).old version
      post x p = subst (Told geometry.n (quorum geometry) g said of s (of p.e.number) x) (is_post x p).is (asked_one x p.e p.all) (on_it x p.e p.all p.e.request (is_post x p).gfid refl (ap gfid_of (is_post x p).is))

      did_it : (x : ℕ) (p : One x) → s.post (of p.e.number) x ≡ true
      did_it x p = let reply = reply_of p.e.reply p.so.1 in subst (λ (q : Request). Tells g said s (of p.e.number) x q reply.0) (is_post x p).is (told_one x p.e p.all reply.0 reply.1) (on_it x p.e p.all p.e.request (is_post x p).gfid refl (ap gfid_of (is_post x p).is)) reply.2 (sym (post x p).mark ∙ may.unmarked)
