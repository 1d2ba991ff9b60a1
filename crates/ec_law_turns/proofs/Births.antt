-- Each Make and Made goes out under a grant of its call's one window on the directory, entry by entry.
use Rattle.std.proofs.Common.{◌≡◌, ℕ, ◌<◌, Bool, true, false, ◌==◌, ◌&&◌, Option, Some, None, refl, sym, ◌∙◌, ap, subst}
use Rattle.std.specs.Prelude.{is_some, unwrap_or}
use Rattle.ec_attr.specs.Marks.{is_marked}
use Rattle.ec_attr.specs.declared.geometry.Geometry.{Geometry}
use Rattle.ec_attr.specs.declared.gfid.Gfid.{Gfid}
use Rattle.ec_attr.specs.declared.kind.Child.{Child}
use Rattle.ec_attr.specs.declared.kind.Domain.TheVariants.{Inode}
use Rattle.ec_wire.specs.declared.message.Body.{Body}
use Rattle.ec_wire.specs.declared.entry.Entry.TheVariants.{Sent}
use Rattle.ec_wire.specs.declared.message.Body.TheVariants.{ToBrick, ToClient}
use Rattle.ec_wire.specs.declared.message.Message.{Message}
use Rattle.ec_wire.specs.declared.request.Request.{Request}
use Rattle.ec_wire.specs.declared.request.Request.TheVariants.{Ask, Make, Made, PreOp, Query}
use Rattle.ec_conduct.specs.Account.{Account, Exchange, at, gfid_of}
use Rattle.ec_conduct.specs.Data.{makes_child}
use Rattle.ec_conduct.specs.Done.{did, failed_none, is_change, is_make, is_pre, is_query, since}
use Rattle.ec_conduct.specs.Given.{Given, quorum}
use Rattle.ec_conduct.specs.Opened.{account}
use Rattle.ec_conduct.specs.Standing.{holds}
use Rattle.ec_history.specs.Accounts.{Books, sender}
use Rattle.ec_history.specs.IsRun.{MaySay}
use Rattle.ec_history.specs.Run.{Net}
use Rattle.ec_law_base.specs.State.{Head as Seen}
use Rattle.ec_law_ballots.specs.Words.{saw}
use Rattle.ec_law_net.specs.Grants.{AsksIn}
use Rattle.ec_law_ballots.specs.Act.{after}
use Rattle.ec_law_ballots.specs.Guard.{Runs}
use Rattle.ec_law_net.specs.Turns.{View, acts, is_lock_on, is_over, seen_after, turn_after, turn_of}
use Rattle.ec_law_turns.specs.Births.{AreBirths, BirthKnown, InDirectory, IsChildOf}
use Rattle.ec_law_turns.specs.Follows.{All, Follows, IsLock, IsOfTurn}
use Rattle.ec_law_turns.specs.Known.{Known}
use Rattle.ec_law_turns.specs.Reached.{Reached}
use Rattle.ec_law_turns.specs.Replied.{QueryTold, is_early, is_early_yet}
use Rattle.ec_law_turns.specs.Shown.{IsOver}
use Rattle.ec_law_turns.specs.Told.{PreTold, Told}
use Rattle.ec_law_turns.proofs.Allowed.{account_given}
use Rattle.ec_law_turns.proofs.Basics.{differ, equal, put_here, some_is}
use Rattle.ec_law_turns.proofs.Early.{after_early, after_moment, after_yet}
use Rattle.ec_law_turns.proofs.Grants.{query_later}
use Rattle.ec_law_turns.proofs.Sends.{adds, of_after, said_after}
use Rattle.ec_law_turns.proofs.SentKnown.{BodyKept}
use Rattle.ec_law_turns.proofs.SentSound.{holds_lock}
use Rattle.ec_law_turns.proofs.Turned.{turn_kept, turn_other}
use Rattle.ec_law_turns.proofs.Windows.{all_both, did_one}

-- ## Requests by their kind

pre_on : (q : Request) → is_pre q ≡ true → (x : Gfid) × (n : ℕ) × (version : ℕ) × (dirty : ℕ) × (q ≡ PreOp x n version dirty)
pre_on (PreOp x n version dirty) e = (x, n, version, dirty, refl)
pre_on q e = absurd (cc)

pub make_on : (q : Request) → is_make q ≡ true → (x : Gfid) × (n : ℕ) × (child : Child) × (q ≡ Make x n child)
make_on (Make x n child) e = (x, n, child, refl)
make_on q e = absurd (cc)

query_on : (q : Request) → is_query q ≡ true → (x : Gfid) × (n : ℕ) × (q ≡ Query x n)
query_on (Query x n) e = (x, n, refl)
query_on q e = absurd (cc)

first_part : (t u : Bool) → (t && u) ≡ true → t ≡ true
first_part true u e = refl
first_part false u e = absurd (cc)

lock_later : (d : ℕ) (said said' : ℕ → Option Message) → ((i : ℕ) (x : Message) → said i ≡ Some x → said' i ≡ Some x) → (a b n : ℕ) → IsLock d said a b n → IsLock d said' a b n
lock_later d said said' still a b n h = record { gfid = h.gfid; kind = h.kind; on = h.on; asks = record { message = h.asks.message; is = still n h.asks.message h.asks.is; call = h.asks.call; brick = h.asks.brick; body = h.asks.body } }

-- ## What a call knows of the directory as it sends

-- an ask as it is counted in turns
asks_in : (d : ℕ) (m : Net) (v : View) (a b n t : ℕ) → IsLock d m.said a b n → v.of n ≡ t → AsksIn d m v n b t
asks_in d m v a b n t l turn = record { message = l.asks.message; gfid = l.gfid; kind = l.kind; said = l.asks.is; brick = l.asks.brick; body = l.asks.body; on = l.on; turn = turn }

module _ (geometry : Geometry) (d : ℕ) (m : Net) (v : View) (b : Books) (h : Reached geometry d m v b) (a c : ℕ) (given : Given) (is : b.given a ≡ Some given) where
  abbrev acc : Account
  acc = account given (b.own a)

  f : Follows d m.said v.turn v.of v.core.moment a (account given (b.own a))
  f = h.known.calls a given is

  -- of what is over at a brick
  abbrev Past : Exchange → Type 0
  Past e = IsOfTurn m.said v.turn v.of a c e.number e.request × IsOver d m.said v.of v.core e

  pub past : All Past ((acc.on d).place c).window
  past = all_both (λ e. IsOfTurn m.said v.turn v.of a c e.number e.request) (IsOver d m.said v.of v.core) ((acc.on d).place c).window (f.window c) ((h.shown.calls a given is).window c)

  -- where the call did its PreOp its turn was shown a head, under a grant that was early
  pub after_pre : did is_pre ((acc.on d).place c).window ≡ true → (n t : ℕ) → v.turn a ≡ Some t → IsLock d m.said a c n → v.of n ≡ t → QueryTold d m.said v.of v.core n × (v.core.moment t ≡ true)
  after_pre so n t turn lock of =
      let o = did_one Past is_pre ((acc.on d).place c).window past so in
      let s = o.all.0.0 in
      let same = some_is (v.of o.e.number) t (sym o.all.0.1 ∙ turn) in
      let q = pre_on o.e.request o.so.0 in
      let told = subst (λ (y : ℕ). Told geometry.n (quorum geometry) d m.said v.of v.core (v.of o.e.number) y o.e.request) s.brick (h.shown.asked o.e.number s.message o.e.request s.is s.body) in
      let pre = subst (Told geometry.n (quorum geometry) d m.said v.of v.core (v.of o.e.number) c) q.4 told (some_is q.0.0 d (sym (ap gfid_of q.4) ∙ o.all.1.on)) in
      let landed = h.once.seen t c (h.known.messages.turns a t turn).0 (subst (λ (y : ℕ). saw v.core y c ≡ true) same (looked (v.of o.e.number) (is_marked q.2) pre.ready)) in
      let l = landed.asked in
      let r = query_on l.request l.passes in
      let body = l.body ∙ ap (λ (y : Request). ToBrick y) r.2 in
      let on = some_is r.0.0 d (sym (ap gfid_of r.2) ∙ l.on) in
      let sound = h.known.sound landed.number l.message (Query r.0 r.1) l.is body on in
      let early = h.replied.queries landed.number l.message r.0 r.1 l.is body on in
      let theirs = asks_in d m v l.message.call c r.1 t (subst (λ (y : ℕ). IsLock d m.said l.message.call y r.1) l.brick sound.0.lock) (sound.0.turn ∙ l.turn) in
      let ask = h.asks r.1 n c t theirs (asks_in d m v a c n t lock of) in
      (subst (QueryTold d m.said v.of v.core) ask early, subst (λ (y : ℕ). v.core.moment y ≡ true) l.turn sound.1)
    where
      looked : (x : ℕ) (t : Bool) → PreTold v.core x c t → saw v.core x c ≡ true
      looked x true k = ap (λ (y : Option Seen). is_some y) k.seen
      looked x false k = ap (λ (y : Option Seen). is_some y) k.seen

-- ## A message is sent

module _ (geometry : Geometry) (m : Net) (vs : ℕ → View) (b : Books) (msg : Message) (next_no : msg.no ≡ m.next) (may : MaySay geometry.n m msg msg.body) (kept : BodyKept m b msg msg.body) (reached : (h : ℕ) → Reached geometry h m (vs h) b) (births : AreBirths m vs b) where
  known : (h : ℕ) → Known geometry h m (vs h) b
  known h = (reached h).known

  module _ (q : Request) (body : msg.body ≡ ToBrick q) (mine : sender m b msg q ≡ Some msg.call) where
    pub made : (given : Given) × (b.given msg.call ≡ Some given)
    made = let asker = subst (λ (z : Body). MaySay geometry.n m msg z) body may in let o = (known 0).numbers.made msg.call asker.asker asker.made in (o.1, o.2)

    abbrev pub c : Account
    c = account made.0 (b.own msg.call)

    pub allowed : BodyKept m b msg (ToBrick q)
    allowed = subst (BodyKept m b msg) body kept

    lt : msg.brick < geometry.n
    lt = (subst (λ (z : Body). MaySay geometry.n m msg z) body may).to

    pub bricks : msg.brick < c.given.geometry.n
    bricks = subst (λ (y : ℕ). msg.brick < y) (sym (ap (λ (y : Given). y.geometry.n) (account_given made.0 (b.own msg.call)) ∙ ap (λ (y : Geometry). y.n) ((known 0).numbers.given_below msg.call made.0 made.1).1.geometry_is)) lt

    locks : (d n : ℕ) → holds (at c d msg.brick).inode n ≡ true → ((vs d).turn msg.call ≡ Some ((vs d).of n)) × IsLock d m.said msg.call msg.brick n
    locks d n h =
        let o = holds_lock (at c d msg.brick).inode n h in
        let l = ((known d).calls msg.call made.0 made.1).lock msg.brick o.0 o.1 in
        (subst (λ (y : ℕ). (vs d).turn msg.call ≡ Some ((vs d).of y)) o.2 l.0, subst (IsLock d m.said msg.call msg.brick) o.2 l.1)

    is_child : (d child : ℕ) → child ≡ c.given.child → makes_child c.given.op d ≡ true → IsChildOf b msg.call d child
    is_child d child same makes = record { given = made.0; is = made.1; child_is = same ∙ ap (λ (y : Given). y.child) (account_given made.0 (b.own msg.call)); makes = sym (ap (λ (y : Given). makes_child y.op d) (account_given made.0 (b.own msg.call))) ∙ makes }

    module _ (d : ℕ) (other : is_lock_on d (ToBrick q) ≡ false) where
      same_turn : turn_after d (vs d) msg msg.call ≡ (vs d).turn msg.call
      same_turn = turn_kept d (vs d) msg msg.call (shut (is_lock_on d msg.body) (is_over (vs d).core ((vs d).turn msg.call)) (ap (is_lock_on d) body ∙ other))
        where
          shut : (t u : Bool) → t ≡ false → (t && u) ≡ false
          shut false u e = refl
          shut true u e = absurd (cc)

      of_mine : (t : ℕ) → (vs d).turn msg.call ≡ Some t → of_after d (vs d) msg msg.no ≡ t
      of_mine t e = put_here (vs d).of msg.no (turn_of d (vs d) msg) msg.no refl ∙ ap (λ (o : Option ℕ). unwrap_or o 0) (same_turn ∙ e)

      -- the directory's turn, as the message names ask n of it
      enters : Runs geometry.n (quorum geometry) (acts d m (vs d) (Sent msg)) (vs d).core → (n : ℕ) → IsLock d m.said msg.call msg.brick n → (vs d).turn msg.call ≡ Some ((vs d).of n) → QueryTold d m.said (vs d).of (vs d).core n × ((vs d).core.moment ((vs d).of n) ≡ true) → InDirectory d (said_after m msg) (seen_after d m (vs d) (Sent msg)) msg.call msg.brick msg.no n
      enters runs n lock turn h =
          let xs = acts d m (vs d) (Sent msg) in
          let more = adds geometry.n d m (vs d) msg next_no (known d).messages in
          let mine = of_mine ((vs d).of n) turn in
          record {
            lock = lock_later d m.said (said_after m msg) (λ j x e. (more.still j x e).0) msg.call msg.brick n lock;
            turn = (more.still n lock.asks.message lock.asks.is).1 ∙ sym mine;
            now = same_turn ∙ (turn ∙ ap (λ (y : ℕ). Some y) (sym mine));
            moment = subst (λ (y : ℕ). (after xs (vs d).core).moment y ≡ true) (sym mine) (after_moment xs (vs d).core ((vs d).of n) h.1);
            early = query_later d m.said (said_after m msg) (vs d).of (of_after d (vs d) msg) (vs d).core (after xs (vs d).core) more.still (after_yet xs (vs d).core) (after_early geometry.n (quorum geometry) xs (vs d).core runs) n h.0;
          }

      -- where the call did its Make, that Make's grant is the one that it has
      after_make : (n : ℕ) → IsLock d m.said msg.call msg.brick n → (vs d).turn msg.call ≡ Some ((vs d).of n) → did is_make ((c.on d).place msg.brick).window ≡ true → QueryTold d m.said (vs d).of (vs d).core n × ((vs d).core.moment ((vs d).of n) ≡ true)
      after_make n lock turn so =
          let o = did_one (λ (e : Exchange). IsOfTurn m.said (vs d).turn (vs d).of msg.call msg.brick e.number e.request × IsOver d m.said (vs d).of (vs d).core e) is_make ((c.on d).place msg.brick).window (past geometry d m (vs d) b (reached d) msg.call msg.brick made.0 made.1) so in
          let s = o.all.0.0 in
          let r = make_on o.e.request o.so.0 in
          let on = some_is r.0.0 d (sym (ap gfid_of r.3) ∙ o.all.1.on) in
          let same = some_is ((vs d).of o.e.number) ((vs d).of n) (sym o.all.0.1 ∙ turn) in
          let born = births o.e.number s.message (Make r.0 r.1 r.2) s.is (s.body ∙ ap (λ (y : Request). ToBrick y) r.3) in
          let h = subst (λ (y : ℕ). InDirectory y m.said (vs y) s.message.call s.message.brick o.e.number r.1) on born.0 in
          let theirs = asks_in d m (vs d) s.message.call msg.brick r.1 ((vs d).of n) (subst (λ (y : ℕ). IsLock d m.said s.message.call y r.1) s.brick h.lock) (h.turn ∙ same) in
          let ask = (reached d).asks r.1 n msg.brick ((vs d).of n) theirs (asks_in d m (vs d) msg.call msg.brick n ((vs d).of n) lock refl) in
          (subst (QueryTold d m.said (vs d).of (vs d).core) ask h.early, subst (λ (y : ℕ). (vs d).core.moment y ≡ true) same h.moment)

  -- of the new message
  pub newly_born : ((h : ℕ) → Runs geometry.n (quorum geometry) (acts h m (vs h) (Sent msg)) (vs h).core) → (q : Request) → msg.body ≡ ToBrick q → BirthKnown (said_after m msg) (λ h. seen_after h m (vs h) (Sent msg)) b msg.call msg.brick msg.no q
  newly_born runs (Make y n child) e =
      let g = made (Make y n child) e refl in
      let a = allowed (Make y n child) e refl g.0 g.1 refl in
      let l = locks (Make y n child) e refl y.0 n a.0.1.change.grant_held in
      let pre = first_part (did is_pre (at (c (Make y n child) e refl) y.0 msg.brick).window) (failed_none is_change (since is_pre (at (c (Make y n child) e refl) y.0 msg.brick).window)) a.0.1.change.ready in
      let h = after_pre geometry y.0 m (vs y.0) b (reached y.0) msg.call msg.brick g.0 g.1 pre n ((vs y.0).of n) l.0 l.1 refl in
      (enters (Make y n child) e refl y.0 refl (runs y.0) n l.1 l.0 h, is_child (Make y n child) e refl y.0 child.gfid.0 a.0.1.child_is a.0.1.op)
  newly_born runs (Made y n child) e =
      let g = made (Made y n child) e refl in
      let a = allowed (Made y n child) e refl g.0 g.1 refl in
      let l = locks (Made y n child) e refl y.0 n a.0.1.grant_held in
      let h = after_make (Made y n child) e refl y.0 refl n l.1 l.0 (a.0.1.all msg.brick (bricks (Made y n child) e refl)).0 in
      (enters (Made y n child) e refl y.0 refl (runs y.0) n l.1 l.0 h, is_child (Made y n child) e refl y.0 child.0 a.0.1.child_is (a.2 y n child refl))
  newly_born runs q e = tt

  -- a call that has had its Queries on the directory begins no second window there
  pub one_turn : (d a t : ℕ) (given : Given) → b.given a ≡ Some given → makes_child given.op d ≡ true → (vs d).turn a ≡ Some t → (vs d).core.moment t ≡ true → turn_after d (vs d) msg a ≡ (vs d).turn a
  one_turn d a t given is makes turn moment = either (a == msg.call) refl
    where
      no_lock : a ≡ msg.call → (z : Body) → msg.body ≡ z → is_lock_on d z ≡ true → ⊥
      no_lock own (ToBrick (Ask x Inode kind)) e so =
          let g = made (Ask x Inode kind) e refl in
          let o = allowed (Ask x Inode kind) e refl g.0 g.1 refl in
          let on = equal x.0 d so in
          let same = some_is g.0 given (sym g.1 ∙ (ap b.given (sym own) ∙ is)) in
          let op = ap (λ (y : Given). makes_child y.op d) (account_given g.0 (b.own msg.call)) ∙ (ap (λ (y : Given). makes_child y.op d) same ∙ makes) in
          let unqueried = subst (λ (y : ℕ). ((c (Ask x Inode kind) e refl).on y).queried ≡ None) on (o.1.1 (subst (λ (y : ℕ). makes_child (c (Ask x Inode kind) e refl).given.op y ≡ true) (sym on) op)) in
          let none = ((known d).calls msg.call g.0 g.1).begins unqueried t (ap (vs d).turn (sym own) ∙ turn) in
          let y = sym none ∙ moment in cc
      no_lock own (ToBrick q) e so = cc
      no_lock own (ToClient re reply) e so = cc

      shut : (t u : Bool) → (t ≡ true → ⊥) → (t && u) ≡ false
      shut true u none = absurd (none refl)
      shut false u none = refl

      either : (u : Bool) → (a == msg.call) ≡ u → turn_after d (vs d) msg a ≡ (vs d).turn a
      either true e = turn_kept d (vs d) msg a (shut (is_lock_on d msg.body) (is_over (vs d).core ((vs d).turn msg.call)) (no_lock (equal a msg.call e) msg.body refl))
      either false e = turn_other d (vs d) msg a (differ a msg.call e)

-- ## What was known stays known

module _ (m m' : Net) (vs vs' : ℕ → View) (b b' : Books) (still : (h i : ℕ) (x : Message) → m.said i ≡ Some x → (m'.said i ≡ Some x) × ((vs' h).of i ≡ (vs h).of i)) (moments : (h t : ℕ) → (vs h).core.moment t ≡ true → (vs' h).core.moment t ≡ true) (yet : (h a c : ℕ) → is_early_yet (vs h).core a c ≡ true → is_early_yet (vs' h).core a c ≡ true) (early : (h a c : ℕ) → is_early (vs h).core a c ≡ true → is_early (vs' h).core a c ≡ true) (given : (a : ℕ) (y : Given) → b.given a ≡ Some y → b'.given a ≡ Some y) (turns : (d a t : ℕ) (y : Given) → b.given a ≡ Some y → makes_child y.op d ≡ true → (vs d).turn a ≡ Some t → (vs d).core.moment t ≡ true → (vs' d).turn a ≡ (vs d).turn a) where
  child_later : (a d child : ℕ) → IsChildOf b a d child → IsChildOf b' a d child
  child_later a d child h = record { given = h.given; is = given a h.given h.is; child_is = h.child_is; makes = h.makes }

  directory_later : (d a c i n child : ℕ) (x : Message) → m.said i ≡ Some x → IsChildOf b a d child → InDirectory d m.said (vs d) a c i n → InDirectory d m'.said (vs' d) a c i n
  directory_later d a c i n child x is k h =
      let of = (still d i x is).1 in
      record {
        lock = lock_later d m.said m'.said (λ j y e. (still d j y e).0) a c n h.lock;
        turn = (still d n h.lock.asks.message h.lock.asks.is).1 ∙ (h.turn ∙ sym of);
        now = turns d a ((vs d).of i) k.given k.is k.makes h.now h.moment ∙ (h.now ∙ ap (λ (y : ℕ). Some y) (sym of));
        moment = subst (λ (y : ℕ). (vs' d).core.moment y ≡ true) (sym of) (moments d ((vs d).of i) h.moment);
        early = query_later d m.said m'.said (vs d).of (vs' d).of (vs d).core (vs' d).core (still d) (yet d) (early d) n h.early;
      }

  pub birth_later : (a c i : ℕ) (x : Message) (q : Request) → m.said i ≡ Some x → BirthKnown m.said vs b a c i q → BirthKnown m'.said vs' b' a c i q
  birth_later a c i x (Make y n child) is h = (directory_later y.0 a c i n child.gfid.0 x is h.1 h.0, child_later a y.0 child.gfid.0 h.1)
  birth_later a c i x (Made y n child) is h = (directory_later y.0 a c i n child.0 x is h.1 h.0, child_later a y.0 child.0 h.1)
  birth_later a c i x q is h = tt

  pub births_same : m'.said ≡ m.said → AreBirths m vs b → AreBirths m' vs' b'
  births_same said h i x q is body = let e = sym (ap (λ (f : ℕ → Option Message). f i) said) ∙ is in birth_later x.call x.brick i x q e (h i x q e body)
