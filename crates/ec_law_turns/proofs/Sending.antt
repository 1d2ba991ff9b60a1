-- What was shown goes on where a message is sent.
use Rattle.std.proofs.Common.{◌≡◌, ◌≢◌, ◌⊎◌, ℕ, ◌*◌, ◌<◌, ◌≤◌, Bool, true, false, ◌==◌, ◌&&◌, Option, Some, None, refl, sym, ◌∙◌, ap, subst, arith, inl, inr, ⊎_elim}
use Rattle.std.specs.Prelude.{unwrap_or}
use Rattle.ec_attr.specs.Bricks.{count_below}
use Rattle.ec_attr.specs.Marks.{is_marked, stripped}
use Rattle.ec_attr.specs.declared.geometry.Geometry.{Geometry}
use Rattle.ec_attr.specs.declared.gfid.Gfid.{Gfid}
use Rattle.ec_attr.specs.declared.kind.Domain.TheVariants.{Inode}
use Rattle.ec_attr.specs.declared.kind.LockKind.{LockKind}
use Rattle.ec_store.specs.Put.{put}
use Rattle.ec_wire.specs.declared.message.Body.{Body}
use Rattle.ec_wire.specs.declared.message.Body.TheVariants.{ToBrick}
use Rattle.ec_wire.specs.declared.message.Message.{Message}
use Rattle.ec_wire.specs.declared.request.Request.{Request}
use Rattle.ec_wire.specs.declared.request.Request.TheVariants.{Ask, Query, PreOp, PostOp, Clear}
use Rattle.ec_conduct.specs.Account.{Account, Dealings, Lock, Place, Wait, begun, gfid_of, released, renewed, sent, with_place}
use Rattle.ec_conduct.specs.Ballots.{MayClear, MayPreOp}
use Rattle.ec_conduct.specs.Conduct.{MaySend, is_release}
use Rattle.ec_conduct.specs.Done.{is_pre, is_query, reply_to, tried}
use Rattle.ec_conduct.specs.Given.{Given, quorum}
use Rattle.ec_conduct.specs.Opened.{account}
use Rattle.ec_conduct.specs.Standing.{Every, head_of}
use Rattle.ec_history.specs.Accounts.{Books, sender}
use Rattle.ec_history.specs.IsRun.{MaySay}
use Rattle.ec_history.specs.Run.{Net}
use Rattle.ec_law_base.specs.State.{Ballot, State}
use Rattle.ec_law_ballots.specs.Act.{after}
use Rattle.ec_law_ballots.specs.Guard.{Runs}
use Rattle.ec_law_ballots.specs.Words.{at_base}
use Rattle.ec_law_net.specs.Turns.{View, acts_sent, is_lock_on, is_over, turn_after, turn_from, turn_of}
use Rattle.ec_law_turns.specs.Follows.{All, Follows}
use Rattle.ec_law_turns.specs.Known.{Known}
use Rattle.ec_law_turns.specs.Orderly.{InOrder, IsPlain, is_shared}
use Rattle.ec_law_turns.specs.Shown.{HasLearnt, IsOver, IsRaised, Learns, Shown, heads_in}
use Rattle.ec_law_turns.specs.Sound.{IsSound}
use Rattle.ec_law_turns.specs.Told.{PreTold, Told, ToldPreOp}
use Rattle.ec_law_turns.proofs.Allowed.{account_given, no_heal}
use Rattle.ec_law_turns.proofs.Balloting.{ballot_apart, ballot_same, ballot_taken}
use Rattle.ec_law_turns.proofs.Basics.{all_map, differ, equal, itself, put_here, put_some, put_there, some_is, some_none, wait_of}
use Rattle.ec_law_turns.proofs.Groups.{quorum_seen}
use Rattle.ec_law_turns.proofs.Lasting.{asked_later, is_over_later}
use Rattle.ec_law_turns.proofs.Later.{Later, after_later}
use Rattle.ec_law_turns.proofs.Learning.{by_parts, raised_later}
use Rattle.ec_law_turns.proofs.Raising.{Raises, raises, told_clear, told_post}
use Rattle.ec_law_turns.proofs.Sends.{adds, moment_after, of_after, said_after}
use Rattle.ec_law_turns.proofs.Makes.{MadeThere}
use Rattle.ec_law_turns.proofs.SentKnown.{BodyKept}
use Rattle.ec_law_turns.proofs.Sorts.{Sort, Apart, Locks, Looks, Raises as Raised, Unlocks, Works, sort, steps_sent, waits_kept, waits_sent}
use Rattle.ec_law_turns.proofs.Tracks.{Adds}
use Rattle.ec_law_turns.proofs.Turned.{turn_kept, turn_new}

shut : (t u : Bool) → t ≡ false → (t && u) ≡ false
shut false u e = refl
shut true u e = absurd (cc)

module _ (geometry : Geometry) (g : ℕ) (m : Net) (v : View) (b : Books) (msg : Message) (next_no : msg.no ≡ m.next) (may : MaySay geometry.n m msg msg.body) (kept : BodyKept m b msg msg.body) (known : Known geometry g m v b) (shown : Shown geometry g m.said m.next v.turn v.of m.owed v.core b) where
  abbrev Learnt : ℕ → Account → Type 0
  Learnt a c = HasLearnt geometry g m.said v.turn v.of v.core a c

  -- ## The call that sends

  module _ (q : Request) (body : msg.body ≡ ToBrick q) (given : Given) (is : b.given msg.call ≡ Some given) (mine : sender m b msg q ≡ Some msg.call) where
    abbrev c : Account
    c = account given (b.own msg.call)

    allowed : MaySend c msg.brick q × InOrder c msg.brick q × MadeThere c q
    allowed = subst (BodyKept m b msg) body kept given is mine

    given_is : c.given.geometry ≡ geometry
    given_is = ap (λ (y : Given). y.geometry) (account_given given (b.own msg.call)) ∙ (known.numbers.given_below msg.call given is).1.geometry_is

    lt : msg.brick < geometry.n
    lt = (subst (λ (z : Body). MaySay geometry.n m msg z) body may).to

    follows : Follows g m.said v.turn v.of v.core.moment msg.call c
    follows = known.calls msg.call given is

    learnt : Learnt msg.call c
    learnt = shown.calls msg.call given is

    pub raises_it : (x : Gfid) (i version number : ℕ) → q ≡ PreOp x i version number → x.0 ≡ g → Raises geometry g v.turn v.core msg.call msg.brick c.waits c.steps (c.on g) version number
    raises_it x i version number e on = raises geometry g m.said v.turn v.of v.core msg.call msg.brick lt c given_is follows learnt known.sound known.messages.to shown.asked i version number
        (subst (λ (y : ℕ). MayPreOp c msg.brick y i version number) on (subst (MaySend c msg.brick) e allowed.0).1)
        (subst (λ (y : ℕ). Every c (λ z. tried is_shared ((c.on y).place z).window ≡ false)) on (subst (InOrder c msg.brick) e allowed.1))

    turn_is : is_lock_on g (ToBrick q) ≡ false → turn_after g v msg msg.call ≡ v.turn msg.call
    turn_is other = turn_kept g v msg msg.call (shut (is_lock_on g msg.body) (is_over v.core (v.turn msg.call)) (ap (is_lock_on g) body ∙ other))

    pub number_is : is_lock_on g (ToBrick q) ≡ false → (t : ℕ) → v.turn msg.call ≡ Some t → turn_of g v msg ≡ t
    number_is other t has = ap (λ (o : Option ℕ). unwrap_or o 0) (turn_is other ∙ has)

    -- a ballot that is taken stands on a quorum
    pub stands_on : (x : Gfid) (i version number : ℕ) → q ≡ PreOp x i version number → x.0 ≡ g → quorum geometry ≤ count_below geometry.n (λ y. at_base (record { base = stripped version; number = number }) (v.core.seen (turn_of g v msg) y))
    stands_on x i version number e on =
        let r = raises_it x i version number e on in
        let turn = number_is (ap (λ (y : Request). is_lock_on g (ToBrick y)) e) r.t r.has in
        let enough = quorum_seen geometry.n (quorum geometry) (heads_in (c.on g)) geometry.bricks positive half r.head r.group (v.core.seen r.t) r.seen number r.above in
        subst (λ (t : ℕ). quorum geometry ≤ count_below geometry.n (λ y. at_base (record { base = stripped version; number = number }) (v.core.seen t y))) (sym turn) (subst (λ (z : ℕ). quorum geometry ≤ count_below geometry.n (λ y. at_base (record { base = z; number = number }) (v.core.seen r.t y))) (sym r.base) enough)
      where
        positive : 0 < quorum geometry
        positive = let h = geometry.least in omega (arith, h)

        half : geometry.n < 2 * quorum geometry
        half = let h = geometry.majority in omega (arith, h)

    module _ (runs : Runs geometry.n (quorum geometry) (acts_sent g v.core (turn_of g v msg) msg.body) v.core) where
      abbrev s' : State
      s' = after (acts_sent g v.core (turn_of g v msg) msg.body) v.core

      later : Later v.core s'
      later = after_later geometry.n (quorum geometry) (acts_sent g v.core (turn_of g v msg) msg.body) v.core runs

      more : Adds m.said (said_after m msg) v.of (of_after g v msg) msg.no msg
      more = adds geometry.n g m v msg next_no known.messages

      ballot_by : (t : ℕ) → (after (acts_sent g v.core (turn_of g v msg) (ToBrick q)) v.core).ballot t ≡ v.core.ballot t → s'.ballot t ≡ v.core.ballot t
      ballot_by t e = ap (λ (z : Body). (after (acts_sent g v.core (turn_of g v msg) z) v.core).ballot t) body ∙ e

      -- the ballot of a PreOp's turn
      ballot_now : (x : Gfid) (i version number : ℕ) → q ≡ PreOp x i version number → x.0 ≡ g → (r : Raises geometry g v.turn v.core msg.call msg.brick c.waits c.steps (c.on g) version number) → turn_of g v msg ≡ r.t → s'.ballot r.t ≡ record { base = stripped version; number = number }
      ballot_now x i version number e on r turn =
          ap (λ (z : Body). (after (acts_sent g v.core (turn_of g v msg) z) v.core).ballot r.t) (body ∙ ap (λ (y : Request). ToBrick y) e)
          ∙ subst (λ (t : ℕ). (after (acts_sent g v.core t (ToBrick (PreOp x i version number))) v.core).ballot r.t ≡ record { base = stripped version; number = number }) (sym turn)
          (ballot_taken g v.core r.t x i version number on (let z = r.above in omega (arith, z)) (⊎_elim (λ z. inl z) (λ z. inr (z ∙ ap (λ (y : ℕ). record { base = y; number = number }) (sym r.base))) r.ballot))

      pub newly_told : Told geometry.n (quorum geometry) g (said_after m msg) (of_after g v msg) s' (turn_of g v msg) msg.brick q
      newly_told = by q refl
        where
          keeps : (t : ℕ) (r : Request) → q ≡ r → is_lock_on g (ToBrick r) ≡ false → v.turn msg.call ≡ Some t → Told geometry.n (quorum geometry) g m.said v.of v.core t msg.brick r → Told geometry.n (quorum geometry) g (said_after m msg) (of_after g v msg) s' (turn_of g v msg) msg.brick r
          keeps t r e other has h = subst (λ (y : ℕ). Told geometry.n (quorum geometry) g (said_after m msg) (of_after g v msg) s' y msg.brick r) (sym (number_is (ap (λ (y : Request). is_lock_on g (ToBrick y)) e ∙ other) t has)) (asked_later g m.said (said_after m msg) v.of (of_after g v msg) v.core s' more.still later geometry.n (quorum geometry) t msg.brick r h)

          by : (r : Request) → q ≡ r → Told geometry.n (quorum geometry) g (said_after m msg) (of_after g v msg) s' (turn_of g v msg) msg.brick r
          by (PreOp x i version number) e = λ on.
              let r = raises_it x i version number e on in
              let turn = number_is (ap (λ (y : Request). is_lock_on g (ToBrick y)) e) r.t r.has in
              subst (λ (t : ℕ). ToldPreOp s' t msg.brick version number) (sym turn) (record {
                ballot = ballot_now x i version number e on r turn;
                above = (let z = r.above in omega (arith, z));
                limit = r.limit;
                ready = ready r (is_marked version) refl (ballot_now x i version number e on r turn);
              })
            where
              ready : (r : Raises geometry g v.turn v.core msg.call msg.brick c.waits c.steps (c.on g) version number) (t : Bool) → is_marked version ≡ t → s'.ballot r.t ≡ record { base = stripped version; number = number } → PreTold s' r.t msg.brick t
              ready r false h p = let o = r.plain h in record { head = o.head; seen = later.seen r.t msg.brick o.head o.seen; so = ap (λ (y : Ballot). at_base y (Some o.head)) p ∙ o.so }
              ready r true h p = let o = r.sink h in record { head = o.head; seen = later.seen r.t msg.brick o.head o.seen; so = o.so }
          by (PostOp x i old new size attr) e = λ on.
              let o = told_post geometry g m.said v.turn v.of v.core msg.call msg.brick lt c given_is follows learnt known.sound known.messages.to shown.asked x i old new size attr on (subst (MaySend c msg.brick) e allowed.0).1 in
              keeps o.0 (PostOp x i old new size attr) e refl o.1 (λ z. o.2) on
          by (Clear x i version) e = λ on.
              let o = told_clear geometry g m.said v.turn v.of v.core msg.call msg.brick lt c given_is follows learnt known.sound known.messages.to shown.asked i version (subst (λ (y : ℕ). MayClear c msg.brick y i version) on (subst (MaySend c msg.brick) e allowed.0).1) in
              keeps o.0 (Clear x i version) e refl o.1 (λ z. o.2) on
          by r e = tt

      -- ## Its account

      abbrev Now : (ℕ → Option Wait) → Dealings → Type 0
      Now waits d = Learns geometry g (said_after m msg) (turn_after g v msg) (of_after g v msg) s' msg.call waits c.steps d

      windows : (x : ℕ) → All (IsOver g (said_after m msg) (of_after g v msg) s') ((c.on g).place x).window
      windows x = all_map (IsOver g m.said v.of v.core) (IsOver g (said_after m msg) (of_after g v msg) s') (λ e h. is_over_later g m.said (said_after m msg) v.of (of_after g v msg) v.core s' more.still later e h) ((c.on g).place x).window (learnt.window x)

      abbrev waits' : ℕ → Option Wait
      waits' = put c.waits msg.brick (Some (wait_of msg.no q))

      ends : (d : Dealings) → is_release q ≡ false → (sent c msg.brick msg.no q).on g ≡ d → Now waits' d → HasLearnt geometry g (said_after m msg) (turn_after g v msg) (of_after g v msg) s' msg.call (sent c msg.brick msg.no q)
      ends d rel e h = by_parts geometry g (said_after m msg) (turn_after g v msg) (of_after g v msg) s' msg.call (sent c msg.brick msg.no q) waits' c.steps d (waits_sent g c msg.brick msg.no q rel) (steps_sent g c msg.brick msg.no q) e h

      freed : (d : Dealings) → is_release q ≡ true → (sent c msg.brick msg.no q).on g ≡ d → Now c.waits d → HasLearnt geometry g (said_after m msg) (turn_after g v msg) (of_after g v msg) s' msg.call (sent c msg.brick msg.no q)
      freed d rel e h = by_parts geometry g (said_after m msg) (turn_after g v msg) (of_after g v msg) s' msg.call (sent c msg.brick msg.no q) c.waits c.steps d (waits_kept g c msg.brick msg.no q rel) (steps_sent g c msg.brick msg.no q) e h

      no_query_waits : is_query q ≡ false → (x : ℕ) (w : Wait) → waits' x ≡ Some w → gfid_of w.request ≡ Some g → (c.waits x ≡ Some w) ⊎ (is_query w.request ≡ false)
      no_query_waits isnt x w h on = ⊎_elim (λ k. inr (ap (λ (y : Wait). is_query y.request) (sym (some_is (wait_of msg.no q) w k.1)) ∙ isnt)) (λ k. inl k.1) (put_some c.waits msg.brick (Some (wait_of msg.no q)) x w h)

      other_waits : gfid_of q ≢ Some g → (x : ℕ) (w : Wait) → waits' x ≡ Some w → gfid_of w.request ≡ Some g → (c.waits x ≡ Some w) ⊎ (is_query w.request ≡ false)
      other_waits ne x w h on = ⊎_elim (λ k. absurd (ne (ap (λ (y : Wait). gfid_of y.request) (some_is (wait_of msg.no q) w k.1) ∙ on))) (λ k. inl k.1) (put_some c.waits msg.brick (Some (wait_of msg.no q)) x w h)

      -- in the turn that the call has, with the same heads
      keeps : is_lock_on g (ToBrick q) ≡ false → ((t : ℕ) → s'.ballot t ≡ v.core.ballot t) → (waits : ℕ → Option Wait) (d : Dealings) → ((x : ℕ) → (d.place x).window ≡ ((c.on g).place x).window) → d.dirty ≡ (c.on g).dirty → ((number : ℕ) → (c.on g).dirty ≡ Some number → d.queried ≡ (c.on g).queried) → ((x : ℕ) (w : Wait) → waits x ≡ Some w → gfid_of w.request ≡ Some g → (c.waits x ≡ Some w) ⊎ (is_query w.request ≡ false)) → Now waits d
      keeps other ballots waits d window dirty queried quiet = record {
        window = λ x. subst (All (IsOver g (said_after m msg) (of_after g v msg) s')) (sym (window x)) (windows x);
        free = λ none t has. ap (λ (p : Ballot). p.number) (ballots t) ∙ learnt.free (sym dirty ∙ none) t (sym (turn_is other) ∙ has);
        raised = λ number e. let old = sym dirty ∙ e in raised_later geometry g v.turn (turn_after g v msg) v.core s' msg.call c.waits waits c.steps c.steps (c.on g) d number (turn_is other) later (λ x. ap (λ es. head_of (reply_to is_query es)) (window x)) (queried number old) (omega arith) quiet (learnt.raised number old);
      }

      same_sound : is_pre q ≡ false → IsSound g (said_after m msg) (of_after g v msg) (moment_after g v msg) msg.call msg.brick msg.no q → (t : ℕ) → s'.ballot t ≡ v.core.ballot t
      same_sound isnt sound t = ballot_by t (ballot_same g v.core (turn_of g v msg) q t isnt (said_after m msg) (of_after g v msg) (moment_after g v msg) msg.call msg.brick msg.no sound)

      abbrev new_lock : Lock
      new_lock = record { number = msg.no; granted = false }

      abbrev joined : Dealings → Dealings
      joined d = with_place d msg.brick (record (d.place msg.brick) { inode = Some new_lock })

      pub own_learnt : IsSound g (said_after m msg) (of_after g v msg) (moment_after g v msg) msg.call msg.brick msg.no q → IsPlain c.given.op → HasLearnt geometry g (said_after m msg) (turn_after g v msg) (of_after g v msg) s' msg.call (sent c msg.brick msg.no q)
      own_learnt sound plain = by_sort (sort g c msg.brick msg.no q (λ x kind e h. no_heal c msg.brick q plain allowed.0 x kind e))
        where
          placed : (d : Dealings) (p : Place) → p.window ≡ (d.place msg.brick).window → (x : ℕ) → ((with_place d msg.brick p).place x).window ≡ (d.place x).window
          placed d p same x = at (x == msg.brick) refl
            where
              at : (t : Bool) → (x == msg.brick) ≡ t → ((with_place d msg.brick p).place x).window ≡ (d.place x).window
              at true e = ap (λ (y : Place). y.window) (put_here d.place msg.brick p x (sym (equal x msg.brick e))) ∙ (same ∙ ap (λ (y : ℕ). (d.place y).window) (sym (equal x msg.brick e)))
              at false e = ap (λ (y : Place). y.window) (put_there d.place msg.brick p x (differ x msg.brick e))

          -- no turn has a ballot before its call asks
          new_free : ((t : ℕ) → v.turn msg.call ≡ Some t → (v.core.ballot t).number ≡ 0) → is_pre q ≡ false → (t : ℕ) → turn_after g v msg msg.call ≡ Some t → (s'.ballot t).number ≡ 0
          new_free old isnt t has = ap (λ (p : Ballot). p.number) (same_sound isnt sound t) ∙ either (is_lock_on g msg.body && is_over v.core (v.turn msg.call)) refl
            where
              either : (u : Bool) → (is_lock_on g msg.body && is_over v.core (v.turn msg.call)) ≡ u → (v.core.ballot t).number ≡ 0
              either true e = let same = some_is (turn_from msg.no) t (sym (turn_new g v msg e) ∙ has) in shown.fresh t (omega (arith, same, next_no))
              either false e = old t (sym (turn_kept g v msg msg.call e) ∙ has)

          locks : (x : Gfid) (kind : LockKind) → q ≡ Ask x Inode kind → x.0 ≡ g → (o : Option ℕ) → (c.on g).queried ≡ o → Now waits' (joined (begun (c.on g) o))
          locks x kind e on None z = record {
            window = λ y. subst (All (IsOver g (said_after m msg) (of_after g v msg) s')) (sym (placed (c.on g) (record ((c.on g).place msg.brick) { inode = Some new_lock }) refl y)) (windows y);
            free = λ none. new_free (learnt.free none) (ap is_pre e);
            raised = λ number h. absurd (let r = learnt.raised number h in some_none r.queried.0 (sym r.queried.1 ∙ z));
          }
          locks x kind e on (Some step) z = record {
            window = λ y. subst (All (IsOver g (said_after m msg) (of_after g v msg) s')) (sym (placed (renewed (c.on g)) (record ((renewed (c.on g)).place msg.brick) { inode = Some new_lock }) refl y)) tt;
            free = λ none t has. let u = follows.over step z in
                let over = both (is_lock_on g msg.body) (is_over v.core (v.turn msg.call)) (ap (is_lock_on g) (body ∙ ap (λ (r : Request). ToBrick r) e) ∙ is_it x.0 on) (ap (is_over v.core) u.2 ∙ u.3) in
                let same = some_is (turn_from msg.no) t (sym (turn_new g v msg over) ∙ has) in
                ap (λ (p : Ballot). p.number) (same_sound (ap is_pre e) sound t) ∙ shown.fresh t (omega (arith, same, next_no));
            raised = λ number h. absurd (some_none number (sym h));
          }
            where
              both : (t u : Bool) → t ≡ true → u ≡ true → (t && u) ≡ true
              both true u e f = f
              both false u e f = absurd (cc)

              is_it : (y : ℕ) → y ≡ g → (y == g) ≡ true
              is_it y e = subst (λ (z : ℕ). (y == z) ≡ true) e (itself y)

          by_sort : Sort g c msg.brick msg.no q → HasLearnt geometry g (said_after m msg) (turn_after g v msg) (of_after g v msg) s' msg.call (sent c msg.brick msg.no q)
          by_sort (Locks x kind e on d) = ends (joined (begun (c.on g) (c.on g).queried)) (ap is_release e) d (locks x kind e on (c.on g).queried refl)
          by_sort (Unlocks x i e on d) =
              let d' = with_place (c.on g) msg.brick (released ((c.on g).place msg.brick) i) in
              freed d' (ap is_release e) d (keeps (ap (λ (r : Request). is_lock_on g (ToBrick r)) e) (same_sound (ap is_pre e) sound) c.waits d' (placed (c.on g) (released ((c.on g).place msg.brick) i) refl) refl (λ number h. refl) (λ x w h k. inl h))
          by_sort (Looks x i e on d) =
              let d' = record (c.on g) { queried = Some c.steps } in
              ends d' (ap is_release e) d (record {
                window = windows;
                free = λ none t has. ap (λ (p : Ballot). p.number) (same_sound (ap is_pre e) sound t) ∙ learnt.free none t (sym (turn_is (ap (λ (r : Request). is_lock_on g (ToBrick r)) e)) ∙ has);
                raised = λ number h. absurd (looked_before x i e on (learnt.raised number h));
              })
            where
              looked_before : (x : Gfid) (i : ℕ) → q ≡ Query x i → x.0 ≡ g → {number : ℕ} → IsRaised geometry g v.turn v.core msg.call c.waits c.steps (c.on g) number → ⊥
              looked_before x i e on r =
                  let o = r.queried in
                  let together = subst (λ (z : ℕ). ((c.on z).queried ≡ None) ⊎ ((c.on z).queried ≡ Some c.steps)) on (subst (MaySend c msg.brick) e allowed.0).1.together in
                  ⊎_elim (λ z. some_none o.0 (sym o.1 ∙ z)) (λ z. let same = some_is o.0 c.steps (sym o.1 ∙ z) in let less = o.2 in omega (arith, same, less)) together
          by_sort (Raised x i version number e on d) =
              let d' = record (c.on g) { dirty = Some number } in
              let r = raises_it x i version number e on in
              let other = ap (λ (r : Request). is_lock_on g (ToBrick r)) e in
              ends d' (ap is_release e) d (record {
                window = windows;
                free = λ none. absurd (some_none number none);
                raised = λ y same. subst (λ (z : ℕ). IsRaised geometry g (turn_after g v msg) s' msg.call waits' c.steps d' z) (some_is number y same) (record {
                  t = r.t;
                  has = turn_is other ∙ r.has;
                  head = r.head;
                  group = r.group;
                  ballot = ballot_now x i version number e on r (number_is other r.t r.has) ∙ ap (λ (z : ℕ). record { base = z; number = number }) r.base;
                  above = (let z = r.above in omega (arith, z));
                  queried = r.queried;
                  idle = λ z w h on'. ⊎_elim (λ k. r.idle z w k on') (λ k. k) (no_query_waits (ap is_query e) z w h on');
                  seen = λ z h k. later.seen r.t z _ (r.seen z h k);
                });
              })
          by_sort (Works on guarded unlooked rel other moments d) = ends (c.on g) rel d (either (is_pre q) refl)
            where
              pre_on : (r : Request) → is_pre r ≡ true → (sent c msg.brick msg.no r).on g ≡ c.on g → gfid_of r ≡ Some g → q ≡ r → Now waits' (c.on g)
              pre_on (PreOp x i version number) so same on e =
                  let r = raises_it x i version number e (some_is x.0 g on) in
                  let d = sym (put_here c.on x.0 (record (c.on x.0) { dirty = Some number }) g (some_is x.0 g on)) ∙ same in
                  let dirty = sym (ap (λ (y : Dealings). y.dirty) d) in
                  let other = ap (λ (r : Request). is_lock_on g (ToBrick r)) e in
                  record {
                    window = windows;
                    free = λ none. absurd (some_none number (sym dirty ∙ none));
                    raised = λ y h. raised_later geometry g v.turn (turn_after g v msg) v.core s' msg.call c.waits waits' c.steps c.steps (c.on g) (c.on g) y (turn_is other) later (λ z. refl) refl (omega arith) (no_query_waits (ap is_query e)) (learnt.raised y h);
                  }
              pre_on r so same on e = absurd (cc)

              either : (t : Bool) → is_pre q ≡ t → Now waits' (c.on g)
              either true so = pre_on q so d on refl
              either false isnt = keeps other (same_sound isnt sound) waits' (c.on g) (λ x. refl) refl (λ number h. refl) (no_query_waits unlooked)
          by_sort (Apart ne other moments d) = either (is_release q) refl
            where
              ballots : (t : ℕ) → s'.ballot t ≡ v.core.ballot t
              ballots t = ballot_by t (ballot_apart g v.core (turn_of g v msg) q t ne)

              either : (t : Bool) → is_release q ≡ t → HasLearnt geometry g (said_after m msg) (turn_after g v msg) (of_after g v msg) s' msg.call (sent c msg.brick msg.no q)
              either true rel = freed (c.on g) rel d (keeps other ballots c.waits (c.on g) (λ x. refl) refl (λ number h. refl) (λ x w h k. inl h))
              either false rel = ends (c.on g) rel d (keeps other ballots waits' (c.on g) (λ x. refl) refl (λ number h. refl) (other_waits ne))
