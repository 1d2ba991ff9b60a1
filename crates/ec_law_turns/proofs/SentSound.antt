-- Each message that is sent keeps what the conduct gives of it.
use Rattle.std.proofs.Common.{◌≡◌, ℕ, ◌^◌, ◌≤◌, Bool, true, false, cond, ◌==◌, ◌&&◌, Option, Some, None, [], ◌∷◌, refl, sym, ◌∙◌, ap, subst, arith, ⊎_elim}
use Rattle.std.proofs.lemmas.Bool.Decides.{nat_tests}
use Rattle.std.specs.Prelude.{unwrap_or}
use Rattle.ec_attr.specs.declared.geometry.Geometry.{Geometry}
use Rattle.ec_attr.specs.declared.kind.Domain.TheVariants.{Inode, Heal}
use Rattle.ec_store.specs.Put.{put}
use Rattle.ec_wire.specs.declared.message.Body.{Body}
use Rattle.ec_wire.specs.declared.message.Body.TheVariants.{ToBrick, ToClient}
use Rattle.ec_wire.specs.declared.message.Message.{Message}
use Rattle.ec_wire.specs.declared.request.Request.{Request}
use Rattle.ec_wire.specs.declared.request.Request.TheVariants.{Ask, Release, Query, PreOp, PostOp, Clear, Mark, Unmark}
use Rattle.ec_conduct.specs.Account.{Account, Lock, at}
use Rattle.ec_conduct.specs.Conduct.{MaySend, is_release}
use Rattle.ec_conduct.specs.Given.{Given}
use Rattle.ec_conduct.specs.Opened.{account}
use Rattle.ec_conduct.specs.Standing.{holds}
use Rattle.ec_history.specs.Accounts.{Books, sender}
use Rattle.ec_history.specs.IsRun.{MaySay}
use Rattle.ec_history.specs.Run.{Net}
use Rattle.ec_law_base.specs.State.{State}
use Rattle.ec_law_ballots.specs.Act.{after}
use Rattle.ec_law_ballots.specs.Act.Act.{Moment}
use Rattle.ec_law_net.specs.Turns.{View, acts_sent, is_lock_on, is_over, turn_of}
use Rattle.ec_law_turns.specs.Follows.{Follows, IsLock}
use Rattle.ec_law_turns.specs.Known.{Known}
use Rattle.ec_law_turns.specs.Orderly.{IsPlain}
use Rattle.ec_law_turns.specs.Sound.{AreSound, IsSound, Names}
use Rattle.ec_law_turns.proofs.Allowed.{account_given, no_heal}
use Rattle.ec_law_turns.proofs.Basics.{differ, equal, put_here, put_there, some_none}
use Rattle.ec_law_turns.proofs.Sends.{adds, moment_after, of_after, said_after}
use Rattle.ec_law_turns.proofs.SentKnown.{BodyKept}
use Rattle.ec_law_turns.proofs.Tracks.{Adds}
use Rattle.ec_law_turns.proofs.Turned.{moment_come, moment_same, turn_kept}

-- what was said stays said, and what was a moment stays one
module _ (g : ℕ) (said said' : ℕ → Option Message) (of of' : ℕ → ℕ) (moment moment' : ℕ → Bool) (still : (i : ℕ) (x : Message) → said i ≡ Some x → (said' i ≡ Some x) × (of' i ≡ of i)) (grows : (t : ℕ) → moment t ≡ true → moment' t ≡ true) (a b i : ℕ) (x : Message) (e : said i ≡ Some x) where
  lock_later : (n : ℕ) → IsLock g said a b n → IsLock g said' a b n
  lock_later n h = record { gfid = h.gfid; kind = h.kind; on = h.on; asks = record { message = h.asks.message; is = (still n h.asks.message h.asks.is).0; call = h.asks.call; brick = h.asks.brick; body = h.asks.body } }

  names_later : (n : ℕ) → Names g said of a b i n → Names g said' of' a b i n
  names_later n h = record { lock = lock_later n h.lock; turn = (still n h.lock.asks.message h.lock.asks.is).1 ∙ (h.turn ∙ sym (still i x e).1); begun = subst (λ (t : ℕ). 2 ^ 61 ≤ t) (sym (still i x e).1) h.begun }

  pub sound_later : (q : Request) → IsSound g said of moment a b i q → IsSound g said' of' moment' a b i q
  sound_later (Ask y Heal kind) h = h
  sound_later (Ask y Inode kind) h = tt
  sound_later (Mark y n heal head) h = h
  sound_later (Unmark y n at dirty) h = h
  sound_later (Query y n) h = λ on. (names_later n (h on).0, subst (λ (t : ℕ). moment' t ≡ true) (sym (still i x e).1) (grows (of i) (h on).1))
  sound_later (PreOp y n at dirty) h = λ on. (names_later n (h on).0, (h on).1)
  sound_later (PostOp y n at version size attr) h = λ on. names_later n (h on)
  sound_later (Clear y n at) h = λ on. (names_later n (h on).0, (h on).1)
  sound_later q h = tt

pub own_sender : (m : Net) (b : Books) (msg : Message) (q : Request) → is_release q ≡ false → sender m b msg q ≡ Some msg.call
own_sender m b msg (Release x n) h = absurd (cc)
own_sender m b msg q h = refl

released : (g : ℕ) (said : ℕ → Option Message) (of : ℕ → ℕ) (moment : ℕ → Bool) (a b i : ℕ) (q : Request) → is_release q ≡ true → IsSound g said of moment a b i q
released g said of moment a b i (Release x n) h = tt
released g said of moment a b i q h = absurd (cc)

pub holds_lock : (o : Option Lock) (n : ℕ) → holds o n ≡ true → (l : Lock) × (o ≡ Some l) × (l.number ≡ n)
holds_lock None n h = absurd (cc)
holds_lock (Some l) n h = (l, refl, last l.granted l.number n h)
  where
    last : (t : Bool) (x y : ℕ) → (t && (x == y)) ≡ true → x ≡ y
    last t x y h = grind (arith, nat_tests)

moment_grows : (g : ℕ) (s : State) (a : ℕ) (q : Request) (t : ℕ) → s.moment t ≡ true → (after (acts_sent g s a (ToBrick q)) s).moment t ≡ true
moment_grows g s a (Query x n) t h = at (x.0 == g) (s.moment a)
  where
    new : (u : Bool) → (t == a) ≡ u → put s.moment a true t ≡ true
    new true e = put_here s.moment a true t (sym (equal t a e))
    new false e = put_there s.moment a true t (differ t a e) ∙ h

    at : (hit u : Bool) → (after (cond hit (cond u [] (Moment a ∷ [])) []) s).moment t ≡ true
    at true true = h
    at true false = new (t == a) refl
    at false u = h
moment_grows g s a q t h = moment_same g s a q t refl ∙ h

moment_grows_by : (g : ℕ) (s : State) (a : ℕ) (body : Body) (t : ℕ) → s.moment t ≡ true → (after (acts_sent g s a body) s).moment t ≡ true
moment_grows_by g s a (ToBrick q) t h = moment_grows g s a q t h
moment_grows_by g s a (ToClient re reply) t h = h

module _ (geometry : Geometry) (g : ℕ) (m : Net) (v : View) (b : Books) (msg : Message) (next_no : msg.no ≡ m.next) (may : MaySay geometry.n m msg msg.body) (k : Known geometry g m v b) where
  more : Adds m.said (said_after m msg) v.of (of_after g v msg) msg.no msg
  more = adds geometry.n g m v msg next_no k.messages

  -- a request names a lock that the call holds
  named : (c : Account) → Follows g m.said v.turn v.of v.core.moment msg.call c → is_lock_on g msg.body ≡ false → (x n : ℕ) → x ≡ g → holds (at c x msg.brick).inode n ≡ true → Names g (said_after m msg) (of_after g v msg) msg.call msg.brick msg.no n
  named c f other x n on h =
      let o = holds_lock (at c g msg.brick).inode n (subst (λ (y : ℕ). holds (at c y msg.brick).inode n ≡ true) on h) in
      let l = f.lock msg.brick o.0 o.1 in
      let lock = subst (IsLock g m.said msg.call msg.brick) o.2 l.1 in
      let turn = l.0 ∙ ap (λ (y : ℕ). Some (v.of y)) o.2 in
      let now = turn_kept g v msg msg.call (shut (is_lock_on g msg.body) (is_over v.core (v.turn msg.call)) other) ∙ turn in
      let mine = put_here v.of msg.no (turn_of g v msg) msg.no refl ∙ ap (λ (y : Option ℕ). unwrap_or y 0) now in
      record {
        lock = record { gfid = lock.gfid; kind = lock.kind; on = lock.on; asks = record { message = lock.asks.message; is = (more.still n lock.asks.message lock.asks.is).0; call = lock.asks.call; brick = lock.asks.brick; body = lock.asks.body } };
        turn = (more.still n lock.asks.message lock.asks.is).1 ∙ sym mine;
        begun = subst (λ (t : ℕ). 2 ^ 61 ≤ t) (sym mine) (k.messages.turns msg.call (v.of n) turn).0;
      }
    where
      shut : (t u : Bool) → t ≡ false → (t && u) ≡ false
      shut false u e = refl
      shut true u e = absurd (cc)

  -- what the conduct gives of the new message
  newly : (q : Request) → msg.body ≡ ToBrick q → (c : Account) → IsPlain c.given.op → Follows g m.said v.turn v.of v.core.moment msg.call c → MaySend c msg.brick q → IsSound g (said_after m msg) (of_after g v msg) (moment_after g v msg) msg.call msg.brick msg.no q
  newly (Ask x Heal kind) e c plain f h = no_heal c msg.brick (Ask x Heal kind) plain h x kind refl
  newly (Ask x Inode kind) e c plain f h = tt
  newly (Mark x n heal head) e c plain f h = λ on. let o = holds_lock (at c x.0 msg.brick).heal heal h.1.heal_held in some_none o.0 (sym o.1 ∙ (ap (λ (y : ℕ). (at c y msg.brick).heal) on ∙ f.unhealed msg.brick))
  newly (Unmark x n version dirty) e c plain f h = λ on. let o = holds_lock (at c x.0 msg.brick).heal n h.1.rebuild.heal_held in some_none o.0 (sym o.1 ∙ (ap (λ (y : ℕ). (at c y msg.brick).heal) on ∙ f.unhealed msg.brick))
  newly (Query x n) e c plain f h = λ on. (named c f (ap (is_lock_on g) e) x.0 n on h.1.grant_held, ap (moment_after g v msg) (put_here v.of msg.no (turn_of g v msg) msg.no refl) ∙ (ap (λ (z : Body). (after (acts_sent g v.core (turn_of g v msg) z) v.core).moment (turn_of g v msg)) e ∙ moment_come g v.core (turn_of g v msg) x n on))
  newly (PreOp x n version dirty) e c plain f h = λ on. (named c f (ap (is_lock_on g) e) x.0 n on h.1.grant_held, let z = h.1.above in omega (arith, z))
  newly (PostOp x n old new size attr) e c plain f h = λ on. named c f (ap (is_lock_on g) e) x.0 n on h.1.grant_held
  newly (Clear x n version) e c plain f h = λ on. (named c f (ap (is_lock_on g) e) x.0 n on h.1.grant_held, h.1.unmarked)
  newly q e c plain f h = tt

  -- of the call's own requests: all but a Release
  is_mine : (q : Request) → msg.body ≡ ToBrick q → BodyKept m b msg msg.body → IsSound g (said_after m msg) (of_after g v msg) (moment_after g v msg) msg.call msg.brick msg.no q
  is_mine q e kept = either (is_release q) refl
    where
      sends : is_release q ≡ false → sender m b msg q ≡ Some msg.call
      sends h = own_sender m b msg q h

      either : (t : Bool) → is_release q ≡ t → IsSound g (said_after m msg) (of_after g v msg) (moment_after g v msg) msg.call msg.brick msg.no q
      either true h = released g (said_after m msg) (of_after g v msg) (moment_after g v msg) msg.call msg.brick msg.no q h
      either false h =
          let asker = subst (λ (y : Body). MaySay geometry.n m msg y) e may in
          let made = k.numbers.made msg.call asker.asker asker.made in
          let allowed = subst (BodyKept m b msg) e kept made.1 made.2 (sends h) in
          let plain = subst (λ (y : Given). IsPlain y.op) (sym (account_given made.1 (b.own msg.call))) (k.numbers.given_below msg.call made.1 made.2).1.plain in
          newly q e (account made.1 (b.own msg.call)) plain (k.calls msg.call made.1 made.2) allowed.0

  pub sound_sent : BodyKept m b msg msg.body → AreSound g (said_after m msg) (of_after g v msg) (moment_after g v msg)
  sound_sent kept i x q e body = ⊎_elim (λ h. new h.0 h.1) (λ h. sound_later g m.said (said_after m msg) v.of (of_after g v msg) v.core.moment (moment_after g v msg) more.still (λ t z. moment_grows_by g v.core (turn_of g v msg) msg.body t z) x.call x.brick i x h q (k.sound i x q h body)) (more.newest i x e)
    where
      new : i ≡ msg.no → msg ≡ x → IsSound g (said_after m msg) (of_after g v msg) (moment_after g v msg) x.call x.brick i q
      new h z = subst (λ (y : Message). IsSound g (said_after m msg) (of_after g v msg) (moment_after g v msg) y.call y.brick i q) z (subst (λ (j : ℕ). IsSound g (said_after m msg) (of_after g v msg) (moment_after g v msg) msg.call msg.brick j q) (sym h) (is_mine q (ap (λ (y : Message). y.body) z ∙ body) kept))
