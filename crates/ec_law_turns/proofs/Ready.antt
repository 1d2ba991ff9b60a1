-- What a log needs of the calls, from the conduct and from what bricks told them.
use Rattle.std.proofs.Common.{◌≡◌, ℕ, ◌^◌, ◌≤◌, Bool, true, false, cond, ◌==◌, Option, Some, List, [], refl, sym, ◌∙◌, ap, subst, arith, ◌&&◌, ◌<◌, ◌∷◌, inl}
use Rattle.ec_attr.specs.declared.geometry.Geometry.{Geometry}
use Rattle.ec_attr.specs.declared.kind.Domain.{Domain}
use Rattle.ec_attr.specs.declared.kind.Domain.TheVariants.{Inode, Heal}
use Rattle.ec_attr.specs.declared.kind.LockKind.{LockKind}
use Rattle.ec_attr.specs.declared.gfid.Gfid.{Gfid}
use Rattle.ec_locks.specs.Table.{same_domain}
use Rattle.ec_locks.specs.declared.ask.Ask.{Ask as Asking}
use Rattle.ec_wire.specs.declared.entry.Entry.{Entry}
use Rattle.ec_wire.specs.declared.entry.Entry.TheVariants.{Sent, Executed, Cut}
use Rattle.ec_wire.specs.declared.message.Body.{Body}
use Rattle.ec_wire.specs.declared.message.Body.TheVariants.{ToBrick, ToClient}
use Rattle.ec_wire.specs.declared.message.Message.{Message}
use Rattle.ec_wire.specs.declared.request.Request.{Request}
use Rattle.ec_wire.specs.declared.request.Request.TheVariants.{Ask, Query, PreOp, PostOp, Clear, Make, Made, Mark, Unmark}
use Rattle.ec_brick.specs.State.{State as Brick}
use Rattle.ec_brick.specs.Step.{cut_off}
use Rattle.ec_history.specs.Accounts.{Books}
use Rattle.ec_history.specs.IsRun.{May as MayEnter, MayExecute}
use Rattle.ec_history.specs.Run.{Net, after as net_after, executed, executed_as, executed_by, out_of}
use Rattle.ec_law_base.specs.State.{State}
use Rattle.ec_law_ballots.specs.Guard.{Runs}
use Rattle.ec_law_net.specs.Grants.{AreAsks, BodyKnown, EntryKnown, HealsReady, LocksStand, MessageKnown, SentKnown}
use Rattle.ec_law_net.specs.Link.{Linked, PostReady, PreReady, Ready}
use Rattle.ec_law_net.specs.Turns.{View, seen_after, turn_of}
use Rattle.ec_law_net.proofs.Tables.{asked}
use Rattle.ec_law_turns.specs.Known.{Known}
use Rattle.ec_attr.specs.Marks.{is_marked}
use Rattle.ec_conduct.specs.Account.{gfid_of}
use Rattle.ec_conduct.specs.Done.{is_post, is_pre, is_query}
use Rattle.std.specs.Prelude.{is_some}
use Rattle.ec_conduct.specs.Given.{quorum}
use Rattle.ec_law_base.specs.State.{Ballot, Head as Seen}
use Rattle.ec_law_ballots.specs.Words.{at_base, is_marked_head, saw}
use Rattle.ec_law_turns.specs.Once.{IsIn, Once, is_sink_pre}
use Rattle.ec_law_turns.specs.Shown.{Shown}
use Rattle.ec_law_turns.specs.Replied.{Replied}
use Rattle.ec_law_turns.proofs.Letting.{IsOwnAsk, owner}
use Rattle.ec_history.specs.Run.{Owed}
use Rattle.ec_attr.specs.declared.kind.LockKind.TheVariants.{Exclusive}
use Rattle.ec_law_net.specs.Turns.{exclusive}
use Rattle.ec_law_turns.proofs.Basics.{some_is}
use Rattle.ec_law_turns.proofs.Onces.{landed_pre, not_done, sunk}
use Rattle.ec_attr.specs.Marks.{stripped}
use Rattle.ec_history.specs.IsRun.{MaySay}
use Rattle.ec_law_ballots.specs.Act.Act.{Choose}
use Rattle.ec_law_net.proofs.GrantEntries.{real_turn}
use Rattle.ec_law_turns.proofs.Sending.{number_is, raises_it, stands_on}
use Rattle.ec_law_turns.proofs.SentKnown.{BodyKept}
use Rattle.ec_law_turns.proofs.Steps.{EntryKept}
use Rattle.ec_law_turns.specs.Sound.{AreSound, IsSound}
use Rattle.ec_law_turns.proofs.MakesReady.{MakeReady, MakesReady}
use Rattle.ec_law_turns.specs.Told.{PostTold, PreTold, Saw, Told}
use Rattle.ec_law_turns.proofs.Basics.{equal, put_here, unequal}
use Rattle.ec_law_turns.proofs.Sends.{of_after, moment_after, said_after}

-- ## Heal locks

no_heal_ask : (g : ℕ) (said : ℕ → Option Message) (of : ℕ → ℕ) (moment : ℕ → Bool) (a b i : ℕ) (x : Gfid) (d : Domain) (kind : LockKind) → same_domain d Heal ≡ true → IsSound g said of moment a b i (Ask x d kind) → ⊥
no_heal_ask g said of moment a b i x Heal kind h s = s
no_heal_ask g said of moment a b i x Inode kind h s = cc

-- nobody has a Heal lock of asks that are messages
heals_ready : (g : ℕ) (m : Net) (v : View) (t : Net) (of : ℕ → ℕ) (moment : ℕ → Bool) (b : ℕ) (old new : List Asking) → AreSound g t.said of moment → AreAsks t b new → HealsReady g m v b old new
heals_ready g m v t of moment b old new sound are i e ne a call =
    let o = asked t b g Heal [] new i are e in
    absurd (no_heal_ask g t.said of moment o.1.message.call o.1.message.brick o.0.number o.0.gfid o.0.domain o.0.kind o.4 (sound o.0.number o.1.message (Ask o.0.gfid o.0.domain o.0.kind) o.1.said o.1.body))

-- ## Requests

module _ (n k g : ℕ) (m : Net) (v : View) (l : LocksStand n g m v) (o : Once g m.said m.flying v.of v.core) (msg : Message) (flies : m.flying msg.no ≡ true) (said : m.said msg.no ≡ Some msg) (below : msg.brick < n) where
  real : 2 ^ 61 ≤ v.of msg.no → v.core.old (v.of msg.no) ≡ false
  real le = at (v.core.old (v.of msg.no)) refl
    where
      at : (t : Bool) → v.core.old (v.of msg.no) ≡ t → t ≡ false
      at false e = refl
      at true e = absurd (let o = l.old (v.of msg.no) e in omega (arith, o, le))

  unseen : (x : Gfid) (n : ℕ) → msg.body ≡ ToBrick (Query x n) → x.0 ≡ g → 2 ^ 61 ≤ v.of msg.no → (t : Bool) → saw v.core (v.of msg.no) msg.brick ≡ t → t ≡ false
  unseen x n body on le false e = refl
  unseen x n body on le true e = absurd (not_done g m.said m.flying v.of is_query msg.no msg.brick msg (Query x n) o.queries le said body refl (ap (λ (y : ℕ). Some y) on) refl flies (o.seen (v.of msg.no) msg.brick le e))

  unraised : (q : Request) → msg.body ≡ ToBrick q → is_pre q ≡ true → gfid_of q ≡ Some g → 2 ^ 61 ≤ v.of msg.no → (t : Bool) → v.core.pre (v.of msg.no) msg.brick ≡ t → t ≡ false
  unraised q body passes on le false e = refl
  unraised q body passes on le true e = absurd (not_done g m.said m.flying v.of is_pre msg.no msg.brick msg q o.preops le said body refl on passes flies (landed_pre g m.said m.flying v.of msg.brick (v.of msg.no) (o.pre (v.of msg.no) msg.brick le e)))

  unposted : (q : Request) → msg.body ≡ ToBrick q → is_post q ≡ true → gfid_of q ≡ Some g → 2 ^ 61 ≤ v.of msg.no → (t : Bool) → v.core.post (v.of msg.no) msg.brick ≡ t → t ≡ false
  unposted q body passes on le false e = refl
  unposted q body passes on le true e = absurd (not_done g m.said m.flying v.of is_post msg.no msg.brick msg q o.posts le said body refl on passes flies (o.post (v.of msg.no) msg.brick le e))

  saw_it : (P : Option Seen → Type 0) → Saw v.core (v.of msg.no) msg.brick P → saw v.core (v.of msg.no) msg.brick ≡ true
  saw_it P h = ap (λ (y : Option Seen). is_some y) h.seen

  pre_ready : (t : Bool) → v.core.pre (v.of msg.no) msg.brick ≡ false → PreTold v.core (v.of msg.no) msg.brick t → PreReady v.core (v.of msg.no) msg.brick t
  pre_ready false e h = (inl (ap (at_base (v.core.ballot (v.of msg.no))) h.seen ∙ h.so), e)
  pre_ready true e h = (saw_it (λ y. is_marked_head y ≡ true) h, e)

  -- no PreOp of the turn was done there on an unmarked record
  sunken : 2 ^ 61 ≤ v.of msg.no → (i : ℕ) → IsIn g m.said v.of is_sink_pre i msg.brick (v.of msg.no) → (t : Bool) → v.core.pre (v.of msg.no) msg.brick ≡ t → t ≡ false
  sunken le i sink false e = refl
  sunken le i sink true e = absurd (sunk g m.said m.flying v.of msg.brick (v.of msg.no) o.preops le i sink (o.pre (v.of msg.no) msg.brick le e))

  post_ready : 2 ^ 61 ≤ v.of msg.no → (t : Bool) → v.core.post (v.of msg.no) msg.brick ≡ false → PostTold g m.said v.of v.core (v.of msg.no) msg.brick t → PostReady v.core (v.of msg.no) msg.brick t
  post_ready le false e h = (h, e)
  post_ready le true e h = (saw_it (λ y. is_marked_head y ≡ true) h.0, sunken le h.1.0 h.1.1 (v.core.pre (v.of msg.no) msg.brick) refl)

  -- the brick that executes a Query under its call's grant gave it before the turn's moment
  heard_early : (owed : List Owed) (books : Books) → Replied g m.said v.of owed v.core books → (x : Gfid) (grant : ℕ) → msg.body ≡ ToBrick (Query x grant) → x.0 ≡ g → v.of grant ≡ v.of msg.no → exclusive g Inode (m.brick msg.brick).asks ≡ Some grant → v.core.early (v.of msg.no) msg.brick ≡ true
  heard_early owed books h x grant body on turn e =
      let o = owner m msg.brick g [] (m.brick msg.brick).asks grant (l.asks msg.brick below) e in
      let told = h.queries msg.no msg x grant said body on in
      let same = some_is told.message o.1.message (sym told.is ∙ (ap m.said (sym o.2) ∙ o.1.said)) in
      let asks = ap (λ (y : Message). y.body) same ∙ (o.1.body ∙ own_body o.0 o.3) in
      let z = told.at o.0.gfid asks o.3.on in
      subst (λ (t : ℕ). v.core.early t msg.brick ≡ true) turn (subst (λ (y : ℕ). v.core.early (v.of grant) y ≡ true) (ap (λ (y : Message). y.brick) same ∙ o.1.brick) (first (v.core.early (v.of grant) told.message.brick) (v.core.granted (v.of grant) told.message.brick) z))
    where
      first : (t u : Bool) → (t && u) ≡ true → t ≡ true
      first true u e = refl
      first false u e = absurd (cc)

      own_body : (a : Asking) → IsOwnAsk g a → ToBrick (Ask a.gfid a.domain a.kind) ≡ ToBrick (Ask a.gfid Inode Exclusive)
      own_body a h = ap (λ (d : Domain). ToBrick (Ask a.gfid d a.kind)) h.domain ∙ ap (λ (y : LockKind). ToBrick (Ask a.gfid Inode y)) h.kind

  ready : (owed : List Owed) (books : Books) → Replied g m.said v.of owed v.core books → (q : Request) → msg.body ≡ ToBrick q → IsSound g m.said v.of v.core.moment msg.call msg.brick msg.no q → Told n k g m.said v.of v.core (v.of msg.no) msg.brick q → MakeReady g m v msg.brick q → Ready n k g m v (v.of msg.no) msg.brick q
  ready owed books r (Query x grant) body s t made = λ on h z. let o = s on in record { own = o.0.turn; early = heard_early owed books r x grant body on o.0.turn h; moment = o.1; once = unseen x grant body on o.0.begun (saw v.core (v.of msg.no) msg.brick) refl; first = z; real = real o.0.begun }
  ready owed books r (PreOp x grant at number) body s t made = λ on. let o = s on in let u = t on in record { own = o.0.turn; ballot = record { real = real o.0.begun; number = let z = ap (λ (p : Ballot). p.number) u.ballot in let y = u.above in omega (arith, z, y) }; base = ap (λ (p : Ballot). p.base) u.ballot; raised = ap (λ (p : Ballot). p.number) u.ballot; ready = pre_ready (is_marked at) (unraised (PreOp x grant at number) body refl (ap (λ (y : ℕ). Some y) on) o.0.begun (v.core.pre (v.of msg.no) msg.brick) refl) u.ready }
  ready owed books r (PostOp x grant at version size attr) body s t made = λ on. let o = s on in let u = t on in record { own = o.turn; ballot = record { real = real o.begun; number = u.ballot }; base = u.base; target = u.target; mark = u.mark; quorum = u.quorum; ready = post_ready o.begun (is_marked at) (unposted (PostOp x grant at version size attr) body refl (ap (λ (y : ℕ). Some y) on) o.begun (v.core.post (v.of msg.no) msg.brick) refl) u.ready }
  ready owed books r (Clear x grant at) body s t made = λ on. let o = s on in let u = t on in record { own = o.0.turn; target = u.target; unmarked = o.1; here = u.all msg.brick below; all = u.all; real = real o.0.begun }
  ready owed books r (Make x grant child) body s t made = λ on grant none gone. made on grant
  ready owed books r (Made x grant child) body s t made = λ on grant gone. made on grant
  ready owed books r (Mark x grant heal head) body s t made = λ on. absurd (s on)
  ready owed books r (Unmark x grant at dirty) body s t made = λ on. absurd (s on)
  ready owed books r q body s t made = tt

-- ## Entries

nothing : (n k : ℕ) (s : State) → Runs n k [] s
nothing n k s = refl

-- What is sent is in order; a Mark or Unmark is on another gfid.
module _ (geometry : Geometry) (g : ℕ) (m : Net) (v : View) (b : Books) (msg : Message) (next_no : msg.no ≡ m.next) (may : MaySay geometry.n m msg msg.body) (kept : BodyKept m b msg msg.body) (link : Linked geometry.n g m v) (l : LocksStand geometry.n g m v) (known : Known geometry g m v b) (shown : Shown geometry g m.said m.next v.turn v.of m.owed v.core b) (sound : AreSound g (said_after m msg) (of_after g v msg) (moment_after g v msg)) where
  mine : (q : Request) → msg.body ≡ ToBrick q → IsSound g (said_after m msg) (of_after g v msg) (moment_after g v msg) msg.call msg.brick msg.no q
  mine q e = sound msg.no msg q (put_here m.said msg.no (Some msg) msg.no refl) e

  sent_known : (z : Body) → msg.body ≡ z → SentKnown geometry.n (quorum geometry) g v.core (turn_of g v msg) z
  sent_known (ToClient re reply) e = nothing geometry.n (quorum geometry) v.core
  sent_known (ToBrick (Query x i)) e = tt
  sent_known (ToBrick (PreOp x i at number)) e = either (x.0 == g) ((v.core.ballot (turn_of g v msg)).number == 0) refl refl
    where
      takes : x.0 ≡ g → (v.core.ballot (turn_of g v msg)).number ≡ 0 → Runs geometry.n (quorum geometry) (Choose (turn_of g v msg) (record { base = stripped at; number = number }) ∷ []) v.core
      takes on none =
          let asker = subst (λ (y : Body). MaySay geometry.n m msg y) e may in
          let made = known.numbers.made msg.call asker.asker asker.made in
          let r = raises_it geometry g m v b msg next_no may kept known shown (PreOp x i at number) e made.1 made.2 refl x i at number refl on in
          let enough = stands_on geometry g m v b msg next_no may kept known shown (PreOp x i at number) e made.1 made.2 refl x i at number refl on in
          let turn = number_is geometry g m v b msg next_no may kept known shown (PreOp x i at number) e made.1 made.2 refl refl r.t r.has in
          ((none, (mine (PreOp x i at number) e on).1, enough, ap v.core.moment turn ∙ r.moment, real_turn geometry.n g m v msg link l next_no, link.kept (turn_of g v msg)), refl)

      either : (u w : Bool) → (x.0 == g) ≡ u → ((v.core.ballot (turn_of g v msg)).number == 0) ≡ w → Runs geometry.n (quorum geometry) (cond u (cond w (Choose (turn_of g v msg) (record { base = stripped at; number = number }) ∷ []) []) []) v.core
      either false w h z = refl
      either true false h z = refl
      either true true h z = takes (equal x.0 g h) (equal (v.core.ballot (turn_of g v msg)).number 0 z)
  sent_known (ToBrick (Mark x i heal head)) e = none (x.0 == g) (unequal x.0 g (mine (Mark x i heal head) e)) _
    where
      none : (u : Bool) → u ≡ false → (xs : List _) → Runs geometry.n (quorum geometry) (cond u xs []) v.core
      none true h xs = absurd (cc)
      none false h xs = refl
  sent_known (ToBrick (Unmark x i at dirty)) e = none (x.0 == g) (unequal x.0 g (mine (Unmark x i at dirty) e)) _
    where
      none : (u : Bool) → u ≡ false → (xs : List _) → Runs geometry.n (quorum geometry) (cond u xs []) v.core
      none true h xs = absurd (cc)
      none false h xs = refl
  sent_known (ToBrick q) e = nothing geometry.n (quorum geometry) v.core

pub known_of : (geometry : Geometry) (g : ℕ) (m : Net) (v : View) (b b' : Books) (e : Entry) → MayEnter geometry.n m e → EntryKept m b e → Linked geometry.n g m v → LocksStand geometry.n g m v → LocksStand geometry.n g (net_after m e) (seen_after g m v e) → Once g m.said m.flying v.of v.core → Replied g m.said v.of m.owed v.core b → MakesReady g m v → Known geometry g m v b → Known geometry g (net_after m e) (seen_after g m v e) b' → Shown geometry g m.said m.next v.turn v.of m.owed v.core b → EntryKnown geometry.n (quorum geometry) g m v e
known_of geometry g m v b b' (Sent msg) may kept link l l' did heard made known known' shown = sent_known geometry g m v b msg may.0 may.1 kept link l known shown known'.sound msg.body refl
known_of geometry g m v b b' (Executed i version failed) may kept link l l' did heard made known known' shown =
    let msg = may.message in
    let q = may.request in
    let no = (known.messages.number i msg may.at.said).0 in
    let out = out_of m msg q version failed in
    let asked = shown.asked msg.no msg q (ap m.said no ∙ may.at.said) may.at.body in
    let sound = known.sound msg.no msg q (ap m.said no ∙ may.at.said) may.at.body in
    subst (λ (o : Option Message). MessageKnown geometry.n (quorum geometry) g m v o version failed) (sym may.at.said)
    (subst (λ (z : Body). BodyKnown geometry.n (quorum geometry) g m v msg z version failed) (sym may.at.body) (
      ready geometry.n (quorum geometry) g m v l did msg (ap m.flying no ∙ may.at.flying) (ap m.said no ∙ may.at.said) (link.to i msg q may.at.said may.at.body) m.owed b heard q may.at.body sound asked (made msg.no msg q (ap m.said no ∙ may.at.said) may.at.body (ap m.flying no ∙ may.at.flying)),
      heals_ready g m v (executed_as m msg out) v.of (seen_after g m v (Executed i version failed)).core.moment msg.brick (m.brick msg.brick).asks out.brick.asks (by_net may) (are may),
    ))
  where
    after_is : (may : MayExecute m i version failed) → net_after m (Executed i version failed) ≡ executed_as m may.message (out_of m may.message may.request version failed)
    after_is may = ap (λ (o : Option Message). executed m o version failed) may.at.said ∙ ap (λ (z : Body). executed_by m may.message z version failed) may.at.body

    by_net : (may : MayExecute m i version failed) → AreSound g (executed_as m may.message (out_of m may.message may.request version failed)).said v.of (seen_after g m v (Executed i version failed)).core.moment
    by_net may = subst (λ (t : Net). AreSound g t.said v.of (seen_after g m v (Executed i version failed)).core.moment) (after_is may) known'.sound

    are : (may : MayExecute m i version failed) → AreAsks (executed_as m may.message (out_of m may.message may.request version failed)) may.message.brick (out_of m may.message may.request version failed).brick.asks
    are may =
        let out = out_of m may.message may.request version failed in
        let h = l'.asks may.message.brick (link.to i may.message may.request may.at.said may.at.body) in
        subst (λ (z : Brick). AreAsks (executed_as m may.message out) may.message.brick z.asks) (put_here m.brick may.message.brick out.brick may.message.brick refl) (subst (λ (t : Net). AreAsks t may.message.brick (t.brick may.message.brick).asks) (after_is may) h)
known_of geometry g m v b b' (Cut client x) may kept link l l' did heard made known known' shown =
    heals_ready g m v (net_after m (Cut client x)) v.of (seen_after g m v (Cut client x)).core.moment x (m.brick x).asks (cut_off (m.brick x) client).brick.asks known'.sound (subst (λ (z : Brick). AreAsks (net_after m (Cut client x)) x z.asks) (put_here m.brick x (cut_off (m.brick x) client).brick x refl) (l'.asks x may.0))
known_of geometry g m v b b' e may kept link l l' did heard made known known' shown = tt
