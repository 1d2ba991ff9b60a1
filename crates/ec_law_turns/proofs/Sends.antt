-- A call sends a request of its own: its account goes on beside the log.
use Rattle.std.proofs.Common.{◌≡◌, ◌≢◌, ◌⊎◌, ℕ, ◌+◌, ◌^◌, ◌<◌, ◌≤◌, Bool, true, false, cond, ◌==◌, ◌&&◌, Option, Some, None, List, [], ◌∷◌, refl, sym, ◌∙◌, ap, subst, arith, inl, inr, ⊎_elim}
use Rattle.std.proofs.lemmas.Bool.Decides.{nat_tests}
use Rattle.std.specs.Prelude.{unwrap_or}
use Rattle.ec_attr.specs.declared.gfid.Gfid.{Gfid}
use Rattle.ec_attr.specs.declared.kind.Domain.TheVariants.{Inode}
use Rattle.ec_attr.specs.declared.kind.LockKind.{LockKind}
use Rattle.ec_store.specs.Put.{put}
use Rattle.ec_wire.specs.declared.message.Body.{Body}
use Rattle.ec_wire.specs.declared.message.Body.TheVariants.{ToBrick}
use Rattle.ec_wire.specs.declared.message.Message.{Message}
use Rattle.ec_wire.specs.declared.request.Request.{Request}
use Rattle.ec_wire.specs.declared.request.Request.TheVariants.{Ask, Query}
use Rattle.ec_conduct.specs.Account.{Account, Dealings, Exchange, Lock, Place, Wait, begun, gfid_of, released, renewed, sent, with_place, without}
use Rattle.ec_conduct.specs.Conduct.{MaySend, is_release}
use Rattle.ec_conduct.specs.Done.{is_any, is_query, tried}
use Rattle.ec_conduct.specs.Group.{has}
use Rattle.ec_conduct.specs.Locks.{MayLock}
use Rattle.ec_conduct.specs.Standing.{NoneWaits}
use Rattle.ec_history.specs.Run.{Net}
use Rattle.ec_law_ballots.specs.Act.{after}
use Rattle.ec_law_net.specs.Turns.{View, acts_sent, is_lock_on, is_over, turn_after, turn_from, turn_of}
use Rattle.ec_law_net.proofs.Guarded.{IsGuarded}
use Rattle.ec_law_turns.specs.Follows.{All, Follows, IsLock, IsOfTurn, IsSaid, Messages, Tracks}
use Rattle.ec_law_turns.specs.Orderly.{IsPlain}
use Rattle.ec_law_turns.proofs.Allowed.{free, locked, no_heal}
use Rattle.ec_law_turns.proofs.Basics.{differ, equal, itself, wait_of, put_here, put_some, put_there, some_is, some_none}
use Rattle.ec_law_turns.proofs.Sorts.{Sort, sort, steps_sent, waits_kept, waits_sent}
use Rattle.ec_law_turns.proofs.Sorts.Sort.{Locks, Unlocks, Looks, Raises, Works, Apart}
use Rattle.ec_law_turns.proofs.Tracks.{Adds, goes, releases, renews}
use Rattle.ec_law_turns.proofs.Turned.{moment_come, moment_same, turn_kept, turn_new}

abbrev pub said_after : Net → Message → ℕ → Option Message
said_after m msg = put m.said msg.no (Some msg)

abbrev pub of_after : ℕ → View → Message → ℕ → ℕ
of_after g v msg = put v.of msg.no (turn_of g v msg)

abbrev pub moment_after : ℕ → View → Message → ℕ → Bool
moment_after g v msg = (after (acts_sent g v.core (turn_of g v msg) msg.body) v.core).moment

-- what was said has lower numbers
pub adds : (n g : ℕ) (m : Net) (v : View) (msg : Message) → msg.no ≡ m.next → Messages n m.said m.next v.turn v.of → Adds m.said (said_after m msg) v.of (of_after g v msg) msg.no msg
adds n g m v msg next_no k = record {
  still = λ i x e. (put_there m.said msg.no (Some msg) i (before i x e) ∙ e, put_there v.of msg.no (turn_of g v msg) i (before i x e));
  before = before;
  newest = λ i x e. ⊎_elim (λ h. inl (h.0, some_is msg x h.1)) (λ h. inr h.1) (put_some m.said msg.no (Some msg) i x e);
}
  where
    before : (i : ℕ) (x : Message) → m.said i ≡ Some x → i ≢ msg.no
    before i x e h = let o = (k.number i x e).1 in omega (arith, o, h, next_no)

-- the account by its equations
pub by_parts : (g : ℕ) (said : ℕ → Option Message) (turn : ℕ → Option ℕ) (of : ℕ → ℕ) (moment : ℕ → Bool) (a : ℕ) (c : Account) (waits : ℕ → Option Wait) (steps : ℕ) (d : Dealings) → c.waits ≡ waits → c.steps ≡ steps → c.on g ≡ d → Tracks g said turn of moment a waits steps d → Follows g said turn of moment a c
by_parts g said turn of moment a c waits steps d e f h t = subst (λ (w : ℕ → Option Wait). Tracks g said turn of moment a w c.steps (c.on g)) (sym e) (subst (λ (s : ℕ). Tracks g said turn of moment a waits s (c.on g)) (sym f) (subst (λ (x : Dealings). Tracks g said turn of moment a waits steps x) (sym h) t))

-- whether the call has an ask
lock_or : (o : Option Lock) → (o ≡ None) ⊎ ((l : Lock) × (o ≡ Some l))
lock_or None = inl refl
lock_or (Some l) = inr (l, refl)

turn_or : (o : Option ℕ) → (o ≡ None) ⊎ ((t : ℕ) × (o ≡ Some t))
turn_or None = inl refl
turn_or (Some t) = inr (t, refl)

both : (t u : Bool) → t ≡ true → u ≡ true → (t && u) ≡ true
both true u e f = f
both false u e f = absurd (cc)

first_false : (t u : Bool) → t ≡ false → (t && u) ≡ false
first_false false u e = refl
first_false true u e = absurd (cc)

last_false : (t u : Bool) → u ≡ false → (t && u) ≡ false
last_false false u e = refl
last_false true u e = e

module _ (n g : ℕ) (m : Net) (v : View) (msg : Message) (q : Request) (c : Account) (body : msg.body ≡ ToBrick q) (next_no : msg.no ≡ m.next) (k : Messages n m.said m.next v.turn v.of) (fresh : (t : ℕ) → 2 ^ 61 + m.next ≤ t → v.core.moment t ≡ false) (f : Follows g m.said v.turn v.of v.core.moment msg.call c) (may : MaySend c msg.brick q) (plain : IsPlain c.given.op) (bricks : c.given.geometry.n ≡ n) where
  a : ℕ
  a = msg.call

  b : ℕ
  b = msg.brick

  mine : IsSaid (said_after m msg) msg.call msg.brick msg.no q
  mine = record { message = msg; is = put_here m.said msg.no (Some msg) msg.no refl; call = refl; brick = refl; body = body }

  more : Adds m.said (said_after m msg) v.of (of_after g v msg) msg.no msg
  more = adds n g m v msg next_no k

  -- the message is sent in the turn that its call has then
  in_turn : (t : ℕ) → turn_after g v msg msg.call ≡ Some t → turn_after g v msg msg.call ≡ Some (of_after g v msg msg.no)
  in_turn t e = e ∙ ap (λ (x : ℕ). Some x) (sym (put_here v.of msg.no (turn_of g v msg) msg.no refl ∙ ap (λ (o : Option ℕ). unwrap_or o 0) e))

  moments_of : ((s : ℕ) → (after (acts_sent g v.core (turn_of g v msg) (ToBrick q)) v.core).moment s ≡ v.core.moment s) → (t : ℕ) → moment_after g v msg t ≡ v.core.moment t
  moments_of h t = ap (λ (z : Body). (after (acts_sent g v.core (turn_of g v msg) z) v.core).moment t) body ∙ h t

  abbrev Sends : Dealings → Type 0
  Sends d = Tracks g (said_after m msg) (turn_after g v msg) (of_after g v msg) (moment_after g v msg) msg.call (put c.waits msg.brick (Some (wait_of msg.no q))) c.steps d

  ends : (d : Dealings) → is_release q ≡ false → (sent c msg.brick msg.no q).on g ≡ d → Sends d → Follows g (said_after m msg) (turn_after g v msg) (of_after g v msg) (moment_after g v msg) msg.call (sent c msg.brick msg.no q)
  ends d rel e t = by_parts g (said_after m msg) (turn_after g v msg) (of_after g v msg) (moment_after g v msg) msg.call (sent c msg.brick msg.no q) (put c.waits msg.brick (Some (wait_of msg.no q))) c.steps d (waits_sent g c msg.brick msg.no q rel) (steps_sent g c msg.brick msg.no q) e t

  has_turn : (x : ℕ) → ((c.on g).place x).inode ≢ None → (t : ℕ) × (v.turn msg.call ≡ Some t)
  has_turn x ne = ⊎_elim (λ e. absurd (ne e)) (λ o. (v.of o.0.number, (f.lock x o.0 o.1).0)) (lock_or ((c.on g).place x).inode)

  -- ## Requests that are no ask for the content

  module _ (other : is_lock_on g (ToBrick q) ≡ false) where
    same : turn_after g v msg msg.call ≡ v.turn msg.call
    same = turn_kept g v msg msg.call (first_false (is_lock_on g msg.body) (is_over v.core (v.turn msg.call)) (ap (is_lock_on g) body ∙ other))

    -- the places stay; the Queries may be sent
    keeps : (d : Dealings) → ((x : ℕ) → tried is_query ((c.on g).place x).window ≡ true → (s : ℕ) × (d.queried ≡ Some s) × (s < c.steps)) → ((c.on g).queried ≢ None → d.queried ≢ None) → (gfid_of q ≡ Some g → is_query q ≡ true → d.queried ≢ None) → d.place ≡ (c.on g).place → is_release q ≡ false → (gfid_of q ≡ Some g → ((c.on g).place msg.brick).inode ≢ None) → (d.queried ≡ None → (t : ℕ) → turn_after g v msg msg.call ≡ Some t → moment_after g v msg t ≡ false) → ((s : ℕ) → d.queried ≡ Some s → (s ≤ c.steps) × (t : ℕ) × (turn_after g v msg msg.call ≡ Some t) × (moment_after g v msg t ≡ true)) → Sends d
    keeps d looks still_looks new_looks places rel locks begins over = goes g m.said (said_after m msg) v.turn (turn_after g v msg) v.of (of_after g v msg) v.core.moment (moment_after g v msg) msg.call c.waits c.steps (c.on g) msg.no msg more f same msg.brick q mine d
        (λ x. ap (λ (p : ℕ → Place). (p x).window) places)
        (λ x l h. inl (sym (ap (λ (p : ℕ → Place). (p x).inode) places) ∙ h))
        (λ x. ap (λ (p : ℕ → Place). (p x).heal) places ∙ f.unhealed x)
        looks still_looks
        begins over
        new_looks
        (λ x ne h. ne (sym (ap (λ (p : ℕ → Place). (p x).inode) places) ∙ h))
        rel (free c msg.brick q may rel)
        (λ on. let ne = locks on in let t = has_turn msg.brick ne in (in_turn t.0 (same ∙ t.1), λ h. ne (sym (ap (λ (p : ℕ → Place). (p msg.brick).inode) places) ∙ h)))

    begins_same : ((t : ℕ) → moment_after g v msg t ≡ v.core.moment t) → (c.on g).queried ≡ None → (t : ℕ) → turn_after g v msg msg.call ≡ Some t → moment_after g v msg t ≡ false
    begins_same moments h t e = moments t ∙ f.begins h t (sym same ∙ e)

    over_same : ((t : ℕ) → moment_after g v msg t ≡ v.core.moment t) → (s : ℕ) → (c.on g).queried ≡ Some s → (s ≤ c.steps) × (t : ℕ) × (turn_after g v msg msg.call ≡ Some t) × (moment_after g v msg t ≡ true)
    over_same moments s h = let o = f.over s h in (o.0, o.1, same ∙ o.2, moments o.1 ∙ o.3)

    -- a Release
    frees : (d : Dealings) → is_release q ≡ true → ((x : ℕ) → (d.place x).window ≡ ((c.on g).place x).window) → ((x : ℕ) (l : Lock) → (d.place x).inode ≡ Some l → ((c.on g).place x).inode ≡ Some l) → ((x : ℕ) → (d.place x).heal ≡ None) → d.queried ≡ (c.on g).queried → ((x : ℕ) (w : Wait) → c.waits x ≡ Some w → gfid_of w.request ≡ Some g → (d.place x).inode ≢ None) → ((t : ℕ) → moment_after g v msg t ≡ v.core.moment t) → Tracks g (said_after m msg) (turn_after g v msg) (of_after g v msg) (moment_after g v msg) msg.call c.waits c.steps d
    frees d rel windows inodes unhealed queried still moments = releases g m.said (said_after m msg) v.turn (turn_after g v msg) v.of (of_after g v msg) v.core.moment (moment_after g v msg) msg.call c.waits c.steps (c.on g) msg.no msg more f same msg.brick q mine d windows (λ x l h. inl (inodes x l h)) unhealed (λ x h. let o = f.looked x h in (o.0, queried ∙ o.1, o.2)) (λ ne h. ne (sym queried ∙ h))
        (λ h. begins_same moments (sym queried ∙ h)) (λ s h. over_same moments s (sym queried ∙ h)) rel still

  -- ## An ask for the content

  module _ (x : Gfid) (kind : LockKind) (asks : q ≡ Ask x Inode kind) (on : x.0 ≡ g) where
    is_lock : is_lock_on g msg.body ≡ true
    is_lock = ap (is_lock_on g) (body ∙ ap (λ (r : Request). ToBrick r) asks) ∙ grind (arith, nat_tests)

    asks_no_query : is_query q ≡ false
    asks_no_query = ap is_query asks

    asks_no_release : is_release q ≡ false
    asks_no_release = ap is_release asks

    stays : (t : ℕ) → moment_after g v msg t ≡ v.core.moment t
    stays = moments_of (λ t. ap (λ (r : Request). (after (acts_sent g v.core (turn_of g v msg) (ToBrick r)) v.core).moment t) asks)

    mine_lock : IsLock g (said_after m msg) msg.call msg.brick msg.no
    mine_lock = record { gfid = x; kind = kind; on = on; asks = subst (IsSaid (said_after m msg) msg.call msg.brick msg.no) asks mine }

    abbrev new_lock : Lock
    new_lock = record { number = msg.no; granted = false }

    -- the ask beside the others
    abbrev joined : Dealings → Dealings
    joined d = with_place d msg.brick (record (d.place msg.brick) { inode = Some new_lock })

    window_of : (d : Dealings) (y : ℕ) → ((joined d).place y).window ≡ (d.place y).window
    window_of d y = at (y == msg.brick) refl
      where
        at : (t : Bool) → (y == msg.brick) ≡ t → ((joined d).place y).window ≡ (d.place y).window
        at true e = ap (λ (p : Place). p.window) (put_here d.place msg.brick (record (d.place msg.brick) { inode = Some new_lock }) y (sym (equal y msg.brick e))) ∙ ap (λ (z : ℕ). (d.place z).window) (sym (equal y msg.brick e))
        at false e = ap (λ (p : Place). p.window) (put_there d.place msg.brick (record (d.place msg.brick) { inode = Some new_lock }) y (differ y msg.brick e))

    heal_of : (d : Dealings) (y : ℕ) → ((joined d).place y).heal ≡ (d.place y).heal
    heal_of d y = at (y == msg.brick) refl
      where
        at : (t : Bool) → (y == msg.brick) ≡ t → ((joined d).place y).heal ≡ (d.place y).heal
        at true e = ap (λ (p : Place). p.heal) (put_here d.place msg.brick (record (d.place msg.brick) { inode = Some new_lock }) y (sym (equal y msg.brick e))) ∙ ap (λ (z : ℕ). (d.place z).heal) (sym (equal y msg.brick e))
        at false e = ap (λ (p : Place). p.heal) (put_there d.place msg.brick (record (d.place msg.brick) { inode = Some new_lock }) y (differ y msg.brick e))

    lock_of : (d : Dealings) (y : ℕ) (l : Lock) → ((joined d).place y).inode ≡ Some l → ((y ≡ msg.brick) × (new_lock ≡ l)) ⊎ ((d.place y).inode ≡ Some l)
    lock_of d y l h = at (y == msg.brick) refl
      where
        at : (t : Bool) → (y == msg.brick) ≡ t → ((y ≡ msg.brick) × (new_lock ≡ l)) ⊎ ((d.place y).inode ≡ Some l)
        at true e = inl (equal y msg.brick e, some_is new_lock l (sym (ap (λ (p : Place). p.inode) (put_here d.place msg.brick (record (d.place msg.brick) { inode = Some new_lock }) y (sym (equal y msg.brick e)))) ∙ h))
        at false e = inr (sym (ap (λ (p : Place). p.inode) (put_there d.place msg.brick (record (d.place msg.brick) { inode = Some new_lock }) y (differ y msg.brick e))) ∙ h)

    locked_here : (d : Dealings) → ((joined d).place msg.brick).inode ≢ None
    locked_here d h = some_none new_lock (sym (ap (λ (p : Place). p.inode) (put_here d.place msg.brick (record (d.place msg.brick) { inode = Some new_lock }) msg.brick refl)) ∙ h)

    locked_still : (d : Dealings) (y : ℕ) → (d.place y).inode ≢ None → ((joined d).place y).inode ≢ None
    locked_still d y ne h = at (y == msg.brick) refl
      where
        at : (t : Bool) → (y == msg.brick) ≡ t → ⊥
        at true e = some_none new_lock (sym (ap (λ (p : Place). p.inode) (put_here d.place msg.brick (record (d.place msg.brick) { inode = Some new_lock }) y (sym (equal y msg.brick e)))) ∙ h)
        at false e = ne (sym (ap (λ (p : Place). p.inode) (put_there d.place msg.brick (record (d.place msg.brick) { inode = Some new_lock }) y (differ y msg.brick e))) ∙ h)

    is_mine : (y : ℕ) (l : Lock) → (y ≡ msg.brick) × (new_lock ≡ l) → (l.number ≡ msg.no) × IsLock g (said_after m msg) msg.call y l.number
    is_mine y l h = let e = ap (λ (u : Lock). u.number) (sym h.1) in (e, subst (λ (z : ℕ). IsLock g (said_after m msg) msg.call z l.number) (sym h.0) (subst (IsLock g (said_after m msg) msg.call msg.brick) (sym e) mine_lock))

    -- in the turn that the call has
    joins : (t : ℕ) → v.turn msg.call ≡ Some t → (c.on g).queried ≡ None → Sends (joined (c.on g))
    joins t turn unqueried = goes g m.said (said_after m msg) v.turn (turn_after g v msg) v.of (of_after g v msg) v.core.moment (moment_after g v msg) msg.call c.waits c.steps (c.on g) msg.no msg more f same msg.brick q mine (joined (c.on g))
        (window_of (c.on g))
        (λ y l h. ⊎_elim (λ z. let o = is_mine y l z in inr (in_turn t (same ∙ turn) ∙ ap (λ (u : ℕ). Some (of_after g v msg u)) (sym o.0), o.1)) (λ z. inl z) (lock_of (c.on g) y l h))
        (λ y. heal_of (c.on g) y ∙ f.unhealed y)
        f.looked (λ ne. ne)
        (λ h s e. stays s ∙ f.begins unqueried s (sym same ∙ e))
        (λ s h. absurd (some_none s (sym h ∙ unqueried)))
        (λ h z. absurd (let y = sym z ∙ asks_no_query in cc))
        (locked_still (c.on g)) asks_no_release (free c msg.brick q may asks_no_release)
        (λ h. (in_turn t (same ∙ turn), locked_here (c.on g)))
      where
        not_over : is_over v.core (v.turn msg.call) ≡ false
        not_over = ap (is_over v.core) turn ∙ f.begins unqueried t turn

        same : turn_after g v msg msg.call ≡ v.turn msg.call
        same = turn_kept g v msg msg.call (last_false (is_lock_on g msg.body) (is_over v.core (v.turn msg.call)) not_over)

    -- in a new one
    begins : (d : Dealings) → is_over v.core (v.turn msg.call) ≡ true → ((y : ℕ) (w : Wait) → c.waits y ≡ Some w → gfid_of w.request ≡ Some g → ⊥) → ((y : ℕ) → (d.place y).window ≡ []) → ((y : ℕ) → (d.place y).inode ≡ None) → ((y : ℕ) → (d.place y).heal ≡ None) → d.queried ≡ None → Sends (joined d)
    begins d over quiet empty unlocked unhealed unqueried = renews g m.said (said_after m msg) v.turn (turn_after g v msg) v.of (of_after g v msg) v.core.moment (moment_after g v msg) msg.call c.waits c.steps (c.on g) msg.no msg more f msg.brick q mine (joined d) (in_turn (turn_from msg.no) new)
        asks_no_query asks_no_release (free c msg.brick q may asks_no_release) quiet (λ y. window_of d y ∙ empty y)
        (λ y l h. ⊎_elim (λ z. is_mine y l z) (λ z. absurd (some_none l (sym z ∙ unlocked y))) (lock_of d y l h))
        (locked_here d) (λ y. heal_of d y ∙ unhealed y) unqueried
        (stays (of_after g v msg msg.no) ∙ subst (λ (t : ℕ). v.core.moment t ≡ false) (sym number) (fresh (turn_from msg.no) (omega (arith, next_no))))
        (λ i y e h. let o = k.below i y e in let p = sym (put_there v.of msg.no (turn_of g v msg) i (more.before i y e)) ∙ (h ∙ number) in omega (arith, o, p, next_no))
      where
        new : turn_after g v msg msg.call ≡ Some (turn_from msg.no)
        new = turn_new g v msg (both (is_lock_on g msg.body) (is_over v.core (v.turn msg.call)) is_lock over)

        number : of_after g v msg msg.no ≡ turn_from msg.no
        number = some_is (of_after g v msg msg.no) (turn_from msg.no) (sym (in_turn (turn_from msg.no) new) ∙ new)

    no_turn : v.turn msg.call ≡ None → (es : List Exchange) (y : ℕ) → All (λ e. IsOfTurn m.said v.turn v.of msg.call y e.number e.request) es → es ≡ []
    no_turn none [] y h = refl
    no_turn none (e ∷ es) y h = absurd (some_none (v.of e.number) (sym h.0.1 ∙ none))

    may_lock : MayLock c msg.brick g
    may_lock = subst (MayLock c msg.brick) on (subst (MaySend c msg.brick) asks may).1

    unlocked_by : (y : ℕ) → ((z : ℕ) → z < c.given.geometry.n → ((c.on g).place z).inode ≡ None) → ((c.on g).place y).inode ≡ None
    unlocked_by y h = ⊎_elim (λ e. e) (λ o. h y (subst (λ (u : ℕ). y < u) (sym bricks) (let l = (f.lock y o.0 o.1).1 in subst (λ (u : ℕ). u < n) l.asks.brick (k.to o.0.number l.asks.message (Ask l.gfid Inode l.kind) l.asks.is l.asks.body)))) (lock_or ((c.on g).place y).inode)

    locks : (o : Option ℕ) → (c.on g).queried ≡ o → Sends (joined (begun (c.on g) o))
    locks None e = ⊎_elim (λ none. begins (c.on g) (ap (is_over v.core) none) (λ y w h u. some_none (v.of w.number) (sym (f.waits_in y w h u).0 ∙ none)) (λ y. no_turn none ((c.on g).place y).window y (f.window y)) (λ y. ⊎_elim (λ z. z) (λ z. absurd (some_none (v.of z.0.number) (sym (f.lock y z.0 z.1).0 ∙ none))) (lock_or ((c.on g).place y).inode)) f.unhealed e) (λ t. joins t.0 t.1 e) (turn_or (v.turn msg.call))
    locks (Some s) e =
        let o = f.over s e in
        let all = ⊎_elim (λ h. absurd (some_none s (sym e ∙ h))) (λ h. h.0) may_lock.window in
        begins (renewed (c.on g)) (ap (is_over v.core) o.2 ∙ o.3) (λ y w h u. (f.waits_in y w h u).1 (unlocked_by y all)) (λ y. refl) (λ y. unlocked_by y all) f.unhealed refl

  pub own_sends : Follows g (said_after m msg) (turn_after g v msg) (of_after g v msg) (moment_after g v msg) msg.call (sent c msg.brick msg.no q)
  own_sends = by_sort (sort g c msg.brick msg.no q (λ x kind e h. no_heal c msg.brick q plain may x kind e))
    where
      on_itself : (p : Request → Bool) (w : Wait) → gfid_of w.request ≡ Some g → p w.request ≡ true → (has (λ h. h == g) (gfid_of w.request) && p w.request) ≡ true
      on_itself p w on so = both (has (λ h. h == g) (gfid_of w.request)) (p w.request) (ap (has (λ h. h == g)) on ∙ itself g) so

      quiet_on : NoneWaits c g is_any → (x : ℕ) (w : Wait) → c.waits x ≡ Some w → gfid_of w.request ≡ Some g → ⊥
      quiet_on idle x w h on =
          let s = f.waiting x w h in
          let lt = subst (λ (u : ℕ). u < n) s.brick (k.to w.number s.message w.request s.is s.body) in
          let none = idle x (subst (λ (u : ℕ). x < u) (sym bricks) lt) in
          let one = on_itself is_any w on refl in
          let waits = ap (has (λ (y : Wait). has (λ h. h == g) (gfid_of y.request) && is_any y.request)) h in
          let z = sym none ∙ (waits ∙ one) in cc

      without_some : (o : Option Lock) (i : ℕ) (l : Lock) → without o i ≡ Some l → o ≡ Some l
      without_some None i l h = h
      without_some (Some y) i l h = at (y.number == i) h
        where
          at : (t : Bool) → cond t None (Some y) ≡ Some l → Some y ≡ Some l
          at true h = absurd (cc)
          at false h = h

      release_at : (i y : ℕ) → (((with_place (c.on g) msg.brick (released ((c.on g).place msg.brick) i)).place y).window ≡ ((c.on g).place y).window) × ((l : Lock) → ((with_place (c.on g) msg.brick (released ((c.on g).place msg.brick) i)).place y).inode ≡ Some l → ((c.on g).place y).inode ≡ Some l)
      release_at i y = at (y == msg.brick) refl
        where
          at : (t : Bool) → (y == msg.brick) ≡ t → (((with_place (c.on g) msg.brick (released ((c.on g).place msg.brick) i)).place y).window ≡ ((c.on g).place y).window) × ((l : Lock) → ((with_place (c.on g) msg.brick (released ((c.on g).place msg.brick) i)).place y).inode ≡ Some l → ((c.on g).place y).inode ≡ Some l)
          at true e =
              let here = put_here (c.on g).place msg.brick (released ((c.on g).place msg.brick) i) y (sym (equal y msg.brick e)) in
              (ap (λ (p : Place). p.window) here ∙ ap (λ (z : ℕ). ((c.on g).place z).window) (sym (equal y msg.brick e)), λ l h. ap (λ (z : ℕ). ((c.on g).place z).inode) (equal y msg.brick e) ∙ without_some ((c.on g).place msg.brick).inode i l (sym (ap (λ (p : Place). p.inode) here) ∙ h))
          at false e =
              let there = put_there (c.on g).place msg.brick (released ((c.on g).place msg.brick) i) y (differ y msg.brick e) in
              (ap (λ (p : Place). p.window) there, λ l h. sym (ap (λ (p : Place). p.inode) there) ∙ h)

      release_heal : (i y : ℕ) → ((with_place (c.on g) msg.brick (released ((c.on g).place msg.brick) i)).place y).heal ≡ None
      release_heal i y = at (y == msg.brick) refl
        where
          at : (t : Bool) → (y == msg.brick) ≡ t → ((with_place (c.on g) msg.brick (released ((c.on g).place msg.brick) i)).place y).heal ≡ None
          at true e = ap (λ (p : Place). p.heal) (put_here (c.on g).place msg.brick (released ((c.on g).place msg.brick) i) y (sym (equal y msg.brick e))) ∙ ap (λ (o : Option Lock). without o i) (f.unhealed msg.brick)
          at false e = ap (λ (p : Place). p.heal) (put_there (c.on g).place msg.brick (released ((c.on g).place msg.brick) i) y (differ y msg.brick e)) ∙ f.unhealed y

      freed : (d : Dealings) → is_release q ≡ true → (sent c msg.brick msg.no q).on g ≡ d → Tracks g (said_after m msg) (turn_after g v msg) (of_after g v msg) (moment_after g v msg) msg.call c.waits c.steps d → Follows g (said_after m msg) (turn_after g v msg) (of_after g v msg) (moment_after g v msg) msg.call (sent c msg.brick msg.no q)
      freed d rel e t = by_parts g (said_after m msg) (turn_after g v msg) (of_after g v msg) (moment_after g v msg) msg.call (sent c msg.brick msg.no q) c.waits c.steps d (waits_kept g c msg.brick msg.no q rel) (steps_sent g c msg.brick msg.no q) e t

      not_looked : (x : Gfid) (i : ℕ) → q ≡ Query x i → x.0 ≡ g → (y : ℕ) → tried is_query ((c.on g).place y).window ≡ true → (s : ℕ) × (Some c.steps ≡ Some s) × (s < c.steps)
      not_looked x i e on y h =
          let o = f.looked y h in
          let together = subst (λ (z : ℕ). ((c.on z).queried ≡ None) ⊎ ((c.on z).queried ≡ Some c.steps)) on (subst (MaySend c msg.brick) e may).1.together in
          absurd (⊎_elim (λ z. some_none o.0 (sym o.1 ∙ z)) (λ z. let same = some_is o.0 c.steps (sym o.1 ∙ z) in let lt = o.2 in omega (arith, same, lt)) together)

      looked : (x : Gfid) (i : ℕ) → q ≡ Query x i → x.0 ≡ g → (other : is_lock_on g (ToBrick q) ≡ false) → ((c.on g).place msg.brick).inode ≢ None → (s : ℕ) → Some c.steps ≡ Some s → (s ≤ c.steps) × (t : ℕ) × (turn_after g v msg msg.call ≡ Some t) × (moment_after g v msg t ≡ true)
      looked x i e on other ne s h =
          let t = has_turn msg.brick ne in
          let turn = same other ∙ t.1 in
          let number = ap (λ (o : Option ℕ). unwrap_or o 0) turn in
          let come = subst (λ (u : ℕ). (after (acts_sent g v.core (turn_of g v msg) (ToBrick (Query x i))) v.core).moment u ≡ true) number (moment_come g v.core (turn_of g v msg) x i on) in
          (let z = some_is c.steps s h in omega (arith, z), t.0, turn, ap (λ (z : Body). (after (acts_sent g v.core (turn_of g v msg) z) v.core).moment t.0) (body ∙ ap (λ (r : Request). ToBrick r) e) ∙ come)

      by_sort : Sort g c msg.brick msg.no q → Follows g (said_after m msg) (turn_after g v msg) (of_after g v msg) (moment_after g v msg) msg.call (sent c msg.brick msg.no q)
      by_sort (Locks x kind e on d) = ends (joined x kind e on (begun (c.on g) (c.on g).queried)) (asks_no_release x kind e on) d (locks x kind e on (c.on g).queried refl)
      by_sort (Looks x i e on d) =
          let other = ap (λ (r : Request). is_lock_on g (ToBrick r)) e in
          let ne = locked c msg.brick q g (subst IsGuarded (sym e) tt) (ap gfid_of e ∙ ap (λ (y : ℕ). Some y) on) may in
          ends (record (c.on g) { queried = Some c.steps }) (ap is_release e) d (keeps other (record (c.on g) { queried = Some c.steps }) (not_looked x i e on) (λ h z. some_none c.steps z) (λ h k z. some_none c.steps z) refl (ap is_release e) (λ h. ne) (λ h t z. absurd (some_none c.steps h)) (looked x i e on other ne))
      by_sort (Raises x i at dirty e on d) =
          let other = ap (λ (r : Request). is_lock_on g (ToBrick r)) e in
          let ne = locked c msg.brick q g (subst IsGuarded (sym e) tt) (ap gfid_of e ∙ ap (λ (y : ℕ). Some y) on) may in
          let moments = moments_of (λ s. moment_same g v.core (turn_of g v msg) q s (ap is_query e)) in
          ends (record (c.on g) { dirty = Some dirty }) (ap is_release e) d (keeps other (record (c.on g) { dirty = Some dirty }) f.looked (λ h. h) (λ h k. absurd (let y = sym k ∙ ap is_query e in cc)) refl (ap is_release e) (λ h. ne) (begins_same other moments) (over_same other moments))
      by_sort (Works on guarded unlooked rel other moments d) =
          let stay = moments_of (λ s. moments v.core (turn_of g v msg) s) in
          ends (c.on g) rel d (keeps other (c.on g) f.looked (λ h. h) (λ h k. absurd (let y = sym k ∙ unlooked in cc)) refl rel (λ h. locked c msg.brick q g guarded h may) (begins_same other stay) (over_same other stay))
      by_sort (Unlocks x i e on d) =
          let other = ap (λ (r : Request). is_lock_on g (ToBrick r)) e in
          let stay = moments_of (λ s. moment_same g v.core (turn_of g v msg) q s (ap is_query e)) in
          let allowed = subst (MaySend c msg.brick) e may in
          let quiet = quiet_on (subst (λ (y : ℕ). NoneWaits c y is_any) on allowed.1.idle) in
          let d' = with_place (c.on g) msg.brick (released ((c.on g).place msg.brick) i) in
          freed d' (ap is_release e) d (frees other d' (ap is_release e) (λ y. (release_at i y).0) (λ y. (release_at i y).1) (release_heal i) refl (λ y w h u. absurd (quiet y w h u)) stay)
      by_sort (Apart next_no other moments d) = either (is_release q) refl
        where
          stay : (t : ℕ) → moment_after g v msg t ≡ v.core.moment t
          stay = moments_of (λ s. moments v.core (turn_of g v msg) s)

          either : (t : Bool) → is_release q ≡ t → Follows g (said_after m msg) (turn_after g v msg) (of_after g v msg) (moment_after g v msg) msg.call (sent c msg.brick msg.no q)
          either true rel = freed (c.on g) rel d (frees other (c.on g) rel (λ y. refl) (λ y l h. h) f.unhealed refl (λ y w h u. (f.waits_in y w h u).1) stay)
          either false rel = ends (c.on g) rel d (keeps other (c.on g) f.looked (λ h. h) (λ h. absurd (next_no h)) refl rel (λ h. absurd (next_no h)) (begins_same other stay) (over_same other stay))
