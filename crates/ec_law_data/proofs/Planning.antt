-- What the conduct gives of messages that plan a commit: their turn has a ballot; and a PostOp goes where its turn has met a record.
use Rattle.std.proofs.Common.{◌≡◌, ◌⊎◌, ℕ, ◌^◌, ◌<◌, ◌≤◌, Bool, true, false, not, ◌==◌, ◌&&◌, ◌||◌, Option, Some, None, List, [], ◌∷◌, refl, sym, ◌∙◌, ap, subst, arith, inl, inr}
use Rattle.std.specs.Prelude.{nat_lt, unwrap_or}
use Rattle.std.proofs.lemmas.Bool.Decides.{nat_tests}
use Rattle.ec_attr.specs.Marks.{is_marked}
use Rattle.ec_attr.specs.declared.geometry.Geometry.{Geometry}
use Rattle.ec_wire.specs.declared.message.Body.{Body}
use Rattle.ec_wire.specs.declared.message.Body.TheVariants.{ToBrick}
use Rattle.ec_wire.specs.declared.message.Message.{Message}
use Rattle.ec_wire.specs.declared.request.Request.{Request}
use Rattle.ec_wire.specs.declared.request.Request.TheVariants.{Ask, Release, Query, PreOp, ReadChunks, WriteChunks, SetLength, PostOp, Clear, NameGet, NamesAfter, NameSet, NamesPut, Make, Made, Unmake, Mark, Unmark, GfidsAfter}
use Rattle.ec_conduct.specs.Account.{Account, Exchange, at, gfid_of}
use Rattle.ec_conduct.specs.Conduct.{MayCut, MaySend, is_release, named_grant}
use Rattle.ec_conduct.specs.Copies.{MayCopy, MayTrim}
use Rattle.ec_conduct.specs.Data.{MayChange, MayWrite}
use Rattle.ec_conduct.specs.Done.{did, is_done, is_pre}
use Rattle.ec_conduct.specs.Given.{quorum}
use Rattle.ec_conduct.specs.Opened.{account}
use Rattle.ec_conduct.specs.Standing.{holds}
use Rattle.ec_history.specs.Accounts.{Books}
use Rattle.ec_history.specs.IsRun.{MaySay}
use Rattle.ec_history.specs.Run.{Net}
use Rattle.ec_law_base.specs.State.{Ballot, Head, State}
use Rattle.ec_law_ballots.specs.Words.{at_base, is_marked_head, is_there, met}
use Rattle.ec_law_net.specs.Turns.{View, is_lock_on, turn_of, is_over}
use Rattle.ec_law_turns.specs.Follows.{All, IsOfTurn, Follows, IsLock}
use Rattle.ec_law_turns.specs.Known.{Known}
use Rattle.ec_law_turns.specs.Once.{Once, is_plain_pre}
use Rattle.ec_law_turns.specs.Shown.{IsOver, Shown}
use Rattle.ec_law_turns.specs.Sound.{AreSound, IsSound, Names}
use Rattle.ec_law_turns.specs.Told.{PostTold, Saw, Told}
use Rattle.ec_law_turns.proofs.Basics.{put_here, some_none}
use Rattle.ec_law_turns.proofs.Sends.{adds, of_after, said_after}
use Rattle.ec_law_turns.proofs.Tracks.{Adds}
use Rattle.ec_law_turns.proofs.Turned.{turn_kept}
use Rattle.ec_law_turns.proofs.SentKnown.{BodyKept}
use Rattle.ec_law_turns.proofs.SentSound.{holds_lock, own_sender}
use Rattle.ec_law_turns.proofs.Sending.{number_is}
use Rattle.ec_law_data.specs.Deeds.{is_post_on}
use Rattle.ec_law_data.specs.Link.{IsWriter}

-- ## Where a PostOp goes

met_there : (s : State) (a b : ℕ) (h : Head) → s.seen a b ≡ Some h → h.present ≡ true → met s a b ≡ true
met_there s a b h seen there = or_right (s.mark a b) (is_there (s.seen a b)) (ap is_there seen ∙ there)
  where
    or_right : (t u : Bool) → u ≡ true → (t || u) ≡ true
    or_right true u e = refl
    or_right false u e = e

base_present : (p : Ballot) (h : Head) → at_base p (Some h) ≡ true → h.present ≡ true
base_present p h e = first h.present (not h.marked) (h.version == p.base) (nat_lt h.dirty p.number) e
  where
    first : (t u v w : Bool) → (t && u && v && w) ≡ true → t ≡ true
    first true u v w e = refl
    first false u v w e = absurd (cc)

marked_present : (h : Head) → is_marked_head (Some h) ≡ true → h.present ≡ true
marked_present h e = first h.present h.marked e
  where
    first : (t u : Bool) → (t && u) ≡ true → t ≡ true
    first true u e = refl
    first false u e = absurd (cc)

-- a brick that did the PreOp had shown the turn its record
pre_met : (n k g : ℕ) (said : ℕ → Option Message) (of : ℕ → ℕ) (s : State) (a b : ℕ) (r : Request) → is_plain_pre r ≡ true → gfid_of r ≡ Some g → Told n k g said of s a b r → met s a b ≡ true
pre_met most k g said of s a b (PreOp x i version number) plain on told = at (is_marked version) refl
  where
    some_same : (x y : ℕ) → Some x ≡ Some y → x ≡ y
    some_same x y e = cc

    at : (t : Bool) → is_marked version ≡ t → met s a b ≡ true
    at true e = absurd (let z = sym (ap not e) ∙ plain in cc)
    at false e = by (subst (λ (t : Bool). PreOp_ready t) e (told (some_same x.0 g on)).ready)
      where
        PreOp_ready : Bool → Type 0
        PreOp_ready false = Saw s a b (λ h. at_base (s.ballot a) h ≡ true)
        PreOp_ready true = Saw s a b (λ h. is_marked_head h ≡ true)

        by : Saw s a b (λ h. at_base (s.ballot a) h ≡ true) → met s a b ≡ true
        by w = met_there s a b w.head w.seen (base_present (s.ballot a) w.head w.so)
pre_met most k g said of s a b (Ask x domain kind) plain on told = absurd (cc)
pre_met most k g said of s a b (Release x n) plain on told = absurd (cc)
pre_met most k g said of s a b (Query x n) plain on told = absurd (cc)
pre_met most k g said of s a b (ReadChunks x n first count) plain on told = absurd (cc)
pre_met most k g said of s a b (WriteChunks x n first chunks) plain on told = absurd (cc)
pre_met most k g said of s a b (SetLength x n keep count) plain on told = absurd (cc)
pre_met most k g said of s a b (PostOp x n at version size attr) plain on told = absurd (cc)
pre_met most k g said of s a b (Clear x n at) plain on told = absurd (cc)
pre_met most k g said of s a b (NameGet x n name) plain on told = absurd (cc)
pre_met most k g said of s a b (NamesAfter x n start) plain on told = absurd (cc)
pre_met most k g said of s a b (NameSet x n name child) plain on told = absurd (cc)
pre_met most k g said of s a b (NamesPut x n start upto list) plain on told = absurd (cc)
pre_met most k g said of s a b (Make x n child) plain on told = absurd (cc)
pre_met most k g said of s a b (Made x n child) plain on told = absurd (cc)
pre_met most k g said of s a b (Unmake x n child) plain on told = absurd (cc)
pre_met most k g said of s a b (Mark x n heal head) plain on told = absurd (cc)
pre_met most k g said of s a b (Unmark x n at dirty) plain on told = absurd (cc)
pre_met most k g said of s a b (GfidsAfter start dirty) plain on told = absurd (cc)

module _ (n k g : ℕ) (m : Net) (v : View) (once : Once g m.said m.flying v.of v.core) (asked : (i : ℕ) (x : Message) (q : Request) → m.said i ≡ Some x → x.body ≡ ToBrick q → Told n k g m.said v.of v.core (v.of i) x.brick q) (sound : AreSound g m.said v.of v.core.moment) where
  pub did_pre_met : (a b : ℕ) → 2 ^ 61 ≤ a → v.core.pre a b ≡ true → met v.core a b ≡ true
  did_pre_met a b le e =
      let l = once.pre a b le e in
      let o = l.asked in
      pre_met n k g m.said v.of v.core a b o.request o.passes o.on (subst (λ (t : ℕ). Told n k g m.said v.of v.core t b o.request) o.turn (subst (λ (y : ℕ). Told n k g m.said v.of v.core (v.of l.number) y o.request) o.brick (asked l.number o.message o.request o.is o.body)))

  -- the turn of a PostOp has met the brick
  pub post_met : (i : ℕ) (x : Message) (q : Request) → m.said i ≡ Some x → x.body ≡ ToBrick q → is_post_on g q ≡ true → met v.core (v.of i) x.brick ≡ true
  post_met i x q is body on = by q body on (asked i x q is body) (sound i x q is body)
    where
      equal : (x y : ℕ) → (x == y) ≡ true → x ≡ y
      equal x y e = grind (arith, nat_tests)

      ready : (t : Bool) → 2 ^ 61 ≤ v.of i → PostTold g m.said v.of v.core (v.of i) x.brick t → met v.core (v.of i) x.brick ≡ true
      ready false le h = did_pre_met (v.of i) x.brick le h
      ready true le h = met_there v.core (v.of i) x.brick h.0.head h.0.seen (marked_present h.0.head h.0.so)

      by : (q : Request) → x.body ≡ ToBrick q → is_post_on g q ≡ true → Told n k g m.said v.of v.core (v.of i) x.brick q → IsSound g m.said v.of v.core.moment x.call x.brick i q → met v.core (v.of i) x.brick ≡ true
      by (PostOp y grant version new size attr) body on told sound = let e = equal y.0 g on in ready (is_marked version) (sound e).begun (told e).ready
      by (Ask x domain kind) body on told sound = absurd (cc)
      by (Release x n) body on told sound = absurd (cc)
      by (Query x n) body on told sound = absurd (cc)
      by (PreOp x n at dirty) body on told sound = absurd (cc)
      by (ReadChunks x n first count) body on told sound = absurd (cc)
      by (WriteChunks x n first chunks) body on told sound = absurd (cc)
      by (SetLength x n keep count) body on told sound = absurd (cc)
      by (Clear x n at) body on told sound = absurd (cc)
      by (NameGet x n name) body on told sound = absurd (cc)
      by (NamesAfter x n start) body on told sound = absurd (cc)
      by (NameSet x n name child) body on told sound = absurd (cc)
      by (NamesPut x n start upto list) body on told sound = absurd (cc)
      by (Make x n child) body on told sound = absurd (cc)
      by (Made x n child) body on told sound = absurd (cc)
      by (Unmake x n child) body on told sound = absurd (cc)
      by (Mark x n heal head) body on told sound = absurd (cc)
      by (Unmark x n at dirty) body on told sound = absurd (cc)
      by (GfidsAfter start dirty) body on told sound = absurd (cc)

-- ## The ballot of a turn that plans

-- an exchange that was done, of a list of which each is so
find_pre : (Q : Exchange → Type 0) (es : List Exchange) → did is_pre es ≡ true → All Q es → (e : Exchange) × (is_pre e.request ≡ true) × (is_done e.reply ≡ true) × Q e
find_pre Q [] h all = absurd (cc)
find_pre Q (e ∷ es) h all = by (is_pre e.request) (is_done e.reply) refl refl h (λ z. find_pre Q es z all.1)
  where
    by : (t u : Bool) → is_pre e.request ≡ t → is_done e.reply ≡ u → ((t && u) || did is_pre es) ≡ true → (did is_pre es ≡ true → (e : Exchange) × (is_pre e.request ≡ true) × (is_done e.reply ≡ true) × Q e) → (e : Exchange) × (is_pre e.request ≡ true) × (is_done e.reply ≡ true) × Q e
    by true true p d h later = (e, p, d, all.0)
    by true false p d h later = later h
    by false u p d h later = later h

-- a turn that sent a PreOp has a ballot
pre_number : (n k g : ℕ) (said : ℕ → Option Message) (of : ℕ → ℕ) (s : State) (a b : ℕ) (r : Request) → is_pre r ≡ true → gfid_of r ≡ Some g → Told n k g said of s a b r → 0 < (s.ballot a).number
pre_number most k g said of s a b (PreOp x i version number) pre on told = let t = told (some_same x.0 g on) in let e = ap (λ (p : Ballot). p.number) t.ballot in let z = t.above in omega (arith, e, z)
  where
    some_same : (x y : ℕ) → Some x ≡ Some y → x ≡ y
    some_same x y e = cc
pre_number most k g said of s a b (Ask x domain kind) pre on told = absurd (cc)
pre_number most k g said of s a b (Release x n) pre on told = absurd (cc)
pre_number most k g said of s a b (Query x n) pre on told = absurd (cc)
pre_number most k g said of s a b (ReadChunks x n first count) pre on told = absurd (cc)
pre_number most k g said of s a b (WriteChunks x n first chunks) pre on told = absurd (cc)
pre_number most k g said of s a b (SetLength x n keep count) pre on told = absurd (cc)
pre_number most k g said of s a b (PostOp x n at version size attr) pre on told = absurd (cc)
pre_number most k g said of s a b (Clear x n at) pre on told = absurd (cc)
pre_number most k g said of s a b (NameGet x n name) pre on told = absurd (cc)
pre_number most k g said of s a b (NamesAfter x n start) pre on told = absurd (cc)
pre_number most k g said of s a b (NameSet x n name child) pre on told = absurd (cc)
pre_number most k g said of s a b (NamesPut x n start upto list) pre on told = absurd (cc)
pre_number most k g said of s a b (Make x n child) pre on told = absurd (cc)
pre_number most k g said of s a b (Made x n child) pre on told = absurd (cc)
pre_number most k g said of s a b (Unmake x n child) pre on told = absurd (cc)
pre_number most k g said of s a b (Mark x n heal head) pre on told = absurd (cc)
pre_number most k g said of s a b (Unmark x n at dirty) pre on told = absurd (cc)
pre_number most k g said of s a b (GfidsAfter start dirty) pre on told = absurd (cc)

both_true : (t u : Bool) → (t && u) ≡ true → t ≡ true
both_true true u e = refl
both_true false u e = absurd (cc)

-- a call that is no heal has no Heal lock
heals : (c : Account) (b x g n : ℕ) → x ≡ g → ((b : ℕ) → (at c g b).heal ≡ None) → holds (at c x b).heal n ≡ true → ⊥
heals c b x g n w unhealed h = let o = holds_lock (at c x b).heal n h in some_none o.0 (sym o.1 ∙ (ap (λ (y : ℕ). (at c y b).heal) w ∙ unhealed b))

-- a request that writes data goes where the PreOp was done, under a lock of the content
changes_there : (c : Account) (b g : ℕ) (q : Request) → ((x : ℕ) → (at c g x).heal ≡ None) → IsWriter g q → MaySend c b q → (grant : ℕ) × (named_grant q ≡ Some grant) × MayChange c b g grant
changes_there c b g (WriteChunks x n first chunks) unhealed w h = subst (λ (y : ℕ). (grant : ℕ) × (named_grant (WriteChunks x n first chunks) ≡ Some grant) × MayChange c b y grant) w (by h.1)
  where
    by : MayWrite c b x.0 n first chunks ⊎ MayCopy c b x.0 n first chunks → (grant : ℕ) × (named_grant (WriteChunks x n first chunks) ≡ Some grant) × MayChange c b x.0 grant
    by (inl o) = (n, refl, o.change)
    by (inr o) = absurd (heals c b x.0 g n w unhealed o.rebuild.heal_held)
changes_there c b g (SetLength x n keep count) unhealed w h = subst (λ (y : ℕ). (grant : ℕ) × (named_grant (SetLength x n keep count) ≡ Some grant) × MayChange c b y grant) w (by h.1)
  where
    by : MayCut c b x.0 n ⊎ MayTrim c b x.0 n keep count → (grant : ℕ) × (named_grant (SetLength x n keep count) ≡ Some grant) × MayChange c b x.0 grant
    by (inl o) = (n, refl, o.change)
    by (inr o) = absurd (heals c b x.0 g n w unhealed o.rebuild.heal_held)
changes_there c b g (NameSet x n name child) unhealed w h = subst (λ (y : ℕ). (grant : ℕ) × (named_grant (NameSet x n name child) ≡ Some grant) × MayChange c b y grant) w (n, refl, h.1.change)
changes_there c b g (NamesPut x n start upto list) unhealed w h = absurd (heals c b x.0 g n w unhealed h.1.rebuild.heal_held)
changes_there c b g (Ask x domain kind) unhealed w h = absurd w
changes_there c b g (Release x n) unhealed w h = absurd w
changes_there c b g (Query x n) unhealed w h = absurd w
changes_there c b g (PreOp x n at dirty) unhealed w h = absurd w
changes_there c b g (ReadChunks x n first count) unhealed w h = absurd w
changes_there c b g (PostOp x n at version size attr) unhealed w h = absurd w
changes_there c b g (Clear x n at) unhealed w h = absurd w
changes_there c b g (NameGet x n name) unhealed w h = absurd w
changes_there c b g (NamesAfter x n start) unhealed w h = absurd w
changes_there c b g (Make x n child) unhealed w h = absurd w
changes_there c b g (Made x n child) unhealed w h = absurd w
changes_there c b g (Unmake x n child) unhealed w h = absurd w
changes_there c b g (Mark x n heal head) unhealed w h = absurd w
changes_there c b g (Unmark x n at dirty) unhealed w h = absurd w
changes_there c b g (GfidsAfter start dirty) unhealed w h = absurd w

no_release : (g : ℕ) (q : Request) → IsWriter g q → (is_release q ≡ false) × (is_lock_on g (ToBrick q) ≡ false)
no_release g (Ask x domain kind) w = absurd w
no_release g (Release x n) w = absurd w
no_release g (Query x n) w = absurd w
no_release g (PreOp x n at dirty) w = absurd w
no_release g (ReadChunks x n first count) w = absurd w
no_release g (WriteChunks x n first chunks) w = (refl, refl)
no_release g (SetLength x n keep count) w = (refl, refl)
no_release g (PostOp x n at version size attr) w = absurd w
no_release g (Clear x n at) w = absurd w
no_release g (NameGet x n name) w = absurd w
no_release g (NamesAfter x n start) w = absurd w
no_release g (NameSet x n name child) w = (refl, refl)
no_release g (NamesPut x n start upto list) w = (refl, refl)
no_release g (Make x n child) w = absurd w
no_release g (Made x n child) w = absurd w
no_release g (Unmake x n child) w = absurd w
no_release g (Mark x n heal head) w = absurd w
no_release g (Unmark x n at dirty) w = absurd w
no_release g (GfidsAfter start dirty) w = absurd w

module _ (geometry : Geometry) (g : ℕ) (m : Net) (v : View) (b : Books) (msg : Message) (next_no : msg.no ≡ m.next) (may : MaySay geometry.n m msg msg.body) (kept : BodyKept m b msg msg.body) (known : Known geometry g m v b) (shown : Shown geometry g m.said m.next v.turn v.of m.owed v.core b) where
  -- a call that sends data has the ballot of its turn
  pub writer_number : (q : Request) → msg.body ≡ ToBrick q → IsWriter g q → 0 < (v.core.ballot (turn_of g v msg)).number
  writer_number q body w =
      let o = no_release g q w in
      let asker = subst (λ (z : Body). MaySay geometry.n m msg z) body may in
      let made = known.numbers.made msg.call asker.asker asker.made in
      let mine = own_sender m b msg q o.0 in
      let c = account made.1 (b.own msg.call) in
      let allowed = subst (BodyKept m b msg) body kept made.1 made.2 mine in
      let follows = known.calls msg.call made.1 made.2 in
      let change = changes_there c msg.brick g q follows.unhealed w allowed.0 in
      let learnt = shown.calls msg.call made.1 made.2 in
      let e = find_pre (λ e. IsOfTurn m.said v.turn v.of msg.call msg.brick e.number e.request × (gfid_of e.request ≡ Some g)) (at c g msg.brick).window (both_true (did is_pre (at c g msg.brick).window) _ change.2.ready) (together (at c g msg.brick).window (follows.window msg.brick) (learnt.window msg.brick)) in
      let told = shown.asked e.0.number e.3.0.0.message e.0.request e.3.0.0.is e.3.0.0.body in
      let number = pre_number geometry.n (quorum geometry) g m.said v.of v.core (v.of e.0.number) e.3.0.0.message.brick e.0.request e.1 e.3.1 told in
      subst (λ (t : ℕ). 0 < (v.core.ballot t).number) (sym (number_is geometry g m v b msg next_no may kept known shown q body made.1 made.2 mine o.1 (v.of e.0.number) e.3.0.1)) number
    where
      together : (es : List Exchange) → All (λ e. IsOfTurn m.said v.turn v.of msg.call msg.brick e.number e.request) es → All (IsOver g m.said v.of v.core) es → All (λ e. IsOfTurn m.said v.turn v.of msg.call msg.brick e.number e.request × (gfid_of e.request ≡ Some g)) es
      together [] h i = tt
      together (e ∷ es) h i = ((h.0, i.0.on), together es h.1 i.1)

  -- and names a lock of its turn
  pub writer_names : (q : Request) → msg.body ≡ ToBrick q → IsWriter g q → (grant : ℕ) × (named_grant q ≡ Some grant) × Names g (said_after m msg) (of_after g v msg) msg.call msg.brick msg.no grant
  writer_names q body w =
      let o = no_release g q w in
      let asker = subst (λ (z : Body). MaySay geometry.n m msg z) body may in
      let made = known.numbers.made msg.call asker.asker asker.made in
      let mine = own_sender m b msg q o.0 in
      let c = account made.1 (b.own msg.call) in
      let allowed = subst (BodyKept m b msg) body kept made.1 made.2 mine in
      let follows = known.calls msg.call made.1 made.2 in
      let change = changes_there c msg.brick g q follows.unhealed w allowed.0 in
      (change.0, change.1, named c follows (ap (is_lock_on g) body ∙ o.1) change.0 change.2.grant_held)
    where
      more : Adds m.said (said_after m msg) v.of (of_after g v msg) msg.no msg
      more = adds geometry.n g m v msg next_no known.messages

      shut : (t u : Bool) → t ≡ false → (t && u) ≡ false
      shut false u e = refl
      shut true u e = absurd (cc)

      named : (c : Account) → Follows g m.said v.turn v.of v.core.moment msg.call c → is_lock_on g msg.body ≡ false → (grant : ℕ) → holds (at c g msg.brick).inode grant ≡ true → Names g (said_after m msg) (of_after g v msg) msg.call msg.brick msg.no grant
      named c f other grant h =
          let o = holds_lock (at c g msg.brick).inode grant h in
          let l = f.lock msg.brick o.0 o.1 in
          let lock = subst (IsLock g m.said msg.call msg.brick) o.2 l.1 in
          let turn = l.0 ∙ ap (λ (y : ℕ). Some (v.of y)) o.2 in
          let now = turn_kept g v msg msg.call (shut (is_lock_on g msg.body) (is_over v.core (v.turn msg.call)) other) ∙ turn in
          let mine = put_here v.of msg.no (turn_of g v msg) msg.no refl ∙ ap (λ (y : Option ℕ). unwrap_or y 0) now in
          record {
            lock = record { gfid = lock.gfid; kind = lock.kind; on = lock.on; asks = record { message = lock.asks.message; is = (more.still grant lock.asks.message lock.asks.is).0; call = lock.asks.call; brick = lock.asks.brick; body = lock.asks.body } };
            turn = (more.still grant lock.asks.message lock.asks.is).1 ∙ sym mine;
            begun = subst (λ (t : ℕ). 2 ^ 61 ≤ t) (sym mine) (known.messages.turns msg.call (v.of grant) turn).0;
          }
