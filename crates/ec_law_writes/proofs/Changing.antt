-- What stands behind each message that changes data, each PreOp on a marked record and each PostOp, as its call sends it.
use Rattle.std.proofs.Common.{◌≡◌, ℕ, ◌-◌, ◌*◌, ◌^◌, ◌<◌, ◌≤◌, Bool, true, false, not, cond, ◌&&◌, Option, Some, None, List, [], ◌∷◌, ◌++◌, refl, sym, ◌∙◌, ap, subst, arith, ⊎_elim}
use Rattle.ec_answers.proofs.Agreement.{parts_equal}
use Rattle.ec_attr.specs.GoodGroup.{agree, has_mark, is_sink as is_sink_beside, without_mark}
use Rattle.ec_attr.specs.Marks.{is_marked, marked, stripped}
use Rattle.ec_attr.specs.declared.attr.Attr.{Attr}
use Rattle.ec_attr.specs.declared.geometry.Geometry.{Geometry}
use Rattle.ec_attr.specs.declared.gfid.Gfid.{Gfid}
use Rattle.ec_attr.specs.declared.head.Head.{Head}
use Rattle.ec_wire.specs.declared.message.Body.{Body}
use Rattle.ec_wire.specs.declared.message.Body.TheVariants.{ToBrick}
use Rattle.ec_wire.specs.declared.message.Message.{Message}
use Rattle.ec_wire.specs.declared.reply.Reply.{Reply}
use Rattle.ec_wire.specs.declared.request.Request.{Request}
use Rattle.ec_wire.specs.declared.request.Request.TheVariants.{PreOp, PostOp, WriteChunks, SetLength, NameSet}
use Rattle.ec_conduct.specs.Account.{Account, Exchange, at as place_of, gfid_of}
use Rattle.ec_conduct.specs.Ballots.{DidWhole}
use Rattle.ec_conduct.specs.Changes.{IsAllOf}
use Rattle.ec_conduct.specs.Conduct.{MaySend, is_release, named_grant}
use Rattle.ec_conduct.specs.Done.{changes, did, failed_none, is_change, is_done, is_pre, since}
use Rattle.ec_conduct.specs.Given.{Given, quorum}
use Rattle.ec_conduct.specs.Group.{Heads, group_head, has, is_sink}
use Rattle.ec_conduct.specs.Opened.{account}
use Rattle.ec_conduct.specs.Own.{Own, Sends}
use Rattle.ec_conduct.specs.Standing.{changes_at, did_changes, group_of, heads_at, is_member, is_sink_of}
use Rattle.ec_history.specs.Accounts.{Books, sends}
use Rattle.ec_history.specs.IsRun.{MaySay}
use Rattle.ec_history.specs.Run.{Net, call_of}
use Rattle.ec_law_base.specs.State.{Head as Seen, State}
use Rattle.ec_law_ballots.specs.Act.{after}
use Rattle.ec_law_ballots.specs.Guard.{Runs}
use Rattle.ec_law_net.specs.Start.{seen_head}
use Rattle.ec_law_net.specs.Turns.{View, acts_sent, is_lock_on, turn_of}
use Rattle.ec_law_net.proofs.Conducts.{sent_own}
use Rattle.ec_law_turns.specs.Follows.{All, Follows, IsOfTurn, IsSaid}
use Rattle.ec_law_turns.specs.Known.{Known}
use Rattle.ec_law_turns.specs.Once.{IsIn, is_plain_pre}
use Rattle.ec_law_turns.specs.Shown.{IsOver, Shown, Tells, heads_in}
use Rattle.ec_law_turns.specs.Sound.{Names}
use Rattle.ec_law_turns.proofs.Allowed.{account_given, free}
use Rattle.ec_law_turns.proofs.Basics.{equal, put_here, some_is, some_none, wait_of}
use Rattle.ec_law_turns.proofs.Groups.{group_unmarked}
use Rattle.ec_law_turns.proofs.Later.{Later, after_later}
use Rattle.ec_law_turns.proofs.Numbered.{sent_same}
use Rattle.ec_law_turns.proofs.Raising.{Raises}
use Rattle.ec_law_turns.proofs.Sending.{number_is, raises_it}
use Rattle.ec_law_turns.proofs.Sends.{adds, of_after, said_after}
use Rattle.ec_law_turns.proofs.SentKnown.{BodyKept}
use Rattle.ec_law_turns.proofs.SentSound.{own_sender}
use Rattle.ec_law_turns.proofs.Tracks.{Adds}
use Rattle.ec_law_turns.proofs.Windows.{Found, WasDone as Did, all_both, did_one, reply_of}
use Rattle.ec_law_data.specs.Link.{IsWriter}
use Rattle.ec_law_data.proofs.Planning.{writer_names}
use Rattle.ec_law_writes.specs.Guarding.{changes_on}
use Rattle.ec_law_writes.proofs.Answering.{HasAnswered}
use Rattle.ec_law_writes.proofs.Windowed.{HasWindowed, IsTold, WasDone, ready, was_done}

-- ## Tests

pub change_writes : (g : ℕ) (q : Request) → changes_on g q ≡ true → IsWriter g q
change_writes g (WriteChunks x n first chunks) on = equal x.0 g on
change_writes g (SetLength x n keep count) on = equal x.0 g on
change_writes g (NameSet x n name child) on = equal x.0 g on
change_writes g q on = absurd (cc)

change_is : (g : ℕ) (q : Request) → changes_on g q ≡ true → is_change q ≡ true
change_is g (WriteChunks x n first chunks) on = refl
change_is g (SetLength x n keep count) on = refl
change_is g (NameSet x n name child) on = refl
change_is g q on = absurd (cc)

pub change_on : (g : ℕ) (q : Request) → changes_on g q ≡ true → gfid_of q ≡ Some g
change_on g (WriteChunks x n first chunks) on = ap (λ (y : ℕ). Some y) (equal x.0 g on)
change_on g (SetLength x n keep count) on = ap (λ (y : ℕ). Some y) (equal x.0 g on)
change_on g (NameSet x n name child) on = ap (λ (y : ℕ). Some y) (equal x.0 g on)
change_on g q on = absurd (cc)

change_other : (g : ℕ) (q : Request) → changes_on g q ≡ true → (is_release q ≡ false) × (is_lock_on g (ToBrick q) ≡ false)
change_other g (WriteChunks x n first chunks) on = (refl, refl)
change_other g (SetLength x n keep count) on = (refl, refl)
change_other g (NameSet x n name child) on = (refl, refl)
change_other g q on = absurd (cc)

-- ## A message that changes data

-- It names a lock of its turn, and its brick did the turn's PreOp.
pub record IsChange (g : ℕ) (said : ℕ → Option Message) (of : ℕ → ℕ) (s : State) (a brick i : ℕ) (q : Request) : Type 0 where
  pub grant : ℕ
  pub names : named_grant q ≡ Some grant
  pub lock : Names g said of a brick i grant
  pub pre : ℕ
  pub asked : IsIn g said of is_pre pre brick (of i)
  pub plain : is_plain_pre asked.request ≡ true → s.pre (of i) brick ≡ true

pub change_later : (g : ℕ) (said said' : ℕ → Option Message) (of of' : ℕ → ℕ) (s s' : State) → ((i : ℕ) (x : Message) → said i ≡ Some x → (said' i ≡ Some x) × (of' i ≡ of i)) → Later s s' → (a brick i : ℕ) (x : Message) → said i ≡ Some x → (q : Request) → IsChange g said of s a brick i q → IsChange g said' of' s' a brick i q
change_later g said said' of of' s s' still later a brick i x is q h =
    let l = h.lock.lock in
    let o = h.asked in
    record {
      grant = h.grant;
      names = h.names;
      lock = record {
        lock = record { gfid = l.gfid; kind = l.kind; on = l.on; asks = record { message = l.asks.message; is = (still h.grant l.asks.message l.asks.is).0; call = l.asks.call; brick = l.asks.brick; body = l.asks.body } };
        turn = (still h.grant l.asks.message l.asks.is).1 ∙ (h.lock.turn ∙ sym (still i x is).1);
        begun = subst (λ (t : ℕ). 2 ^ 61 ≤ t) (sym (still i x is).1) h.lock.begun;
      };
      pre = h.pre;
      asked = record { message = o.message; request = o.request; is = (still h.pre o.message o.is).0; brick = o.brick; body = o.body; on = o.on; passes = o.passes; turn = (still h.pre o.message o.is).1 ∙ (o.turn ∙ sym (still i x is).1) };
      plain = λ plain. subst (λ (t : ℕ). s'.pre t brick ≡ true) (sym (still i x is).1) (later.pre (of i) brick (h.plain plain));
    }

-- ## A PreOp on a marked record

-- the turn was shown the record, marked, at this version
pub record SawSink (s : State) (a brick version : ℕ) : Type 0 where
  pub head : Seen
  pub seen : s.seen a brick ≡ Some head
  pub present : head.present ≡ true
  pub marked : head.marked ≡ true
  pub at : head.version ≡ version

pub saw_later : (s s' : State) → Later s s' → (a brick version : ℕ) → SawSink s a brick version → SawSink s' a brick version
saw_later s s' later a brick version h = record { head = h.head; seen = later.seen a brick h.head h.seen; present = h.present; marked = h.marked; at = h.at }

sink_at : (n k : ℕ) (heads : Heads) (b : ℕ) (q : Head) → group_head n k heads ≡ Some q → is_sink n k heads b ≡ true → (h : Head) × (heads b ≡ Some h) × (is_marked h.version.content ≡ true) × (stripped h.version.content ≡ q.version.content)
sink_at n k heads b q group so = at (heads b) refl (subst (λ (o : Option Head). has (λ x. is_sink_beside x (heads b)) o ≡ true) group so)
  where
    both : (t u : Bool) → (t && u) ≡ true → (t ≡ true) × (u ≡ true)
    both true u e = (refl, e)
    both false u e = absurd (cc)

    at : (o : Option Head) → heads b ≡ o → is_sink_beside q o ≡ true → (h : Head) × (heads b ≡ Some h) × (is_marked h.version.content ≡ true) × (stripped h.version.content ≡ q.version.content)
    at None e h = absurd (cc)
    at (Some y) e h = let o = both (has_mark y) (agree q (without_mark y)) h in (y, e, o.0, sym (parts_equal q (without_mark y) o.1).2)

-- ## A PostOp

-- this request was sent to the brick in the turn, before message j
pub record WasSent (said : ℕ → Option Message) (of : ℕ → ℕ) (t brick j : ℕ) (q : Request) : Type 0 where
  pub number : ℕ
  pub message : Message
  pub is : said number ≡ Some message
  pub body : message.body ≡ ToBrick q
  pub brick_is : message.brick ≡ brick
  pub turn : of number ≡ t
  pub below : number < j

abbrev pub AllSent : (ℕ → Option Message) → (ℕ → ℕ) → ℕ → ℕ → ℕ → List Request → Type 0
AllSent said of t brick j [] = Unit {0}
AllSent said of t brick j (q ∷ qs) = ((is_change q ≡ true) × WasSent said of t brick j q) × AllSent said of t brick j qs

-- PostOp j of a call to a brick: what the call's account was as it sent it, and each change that was sent to the brick in this turn
-- before was done.
pub record IsPost (g : ℕ) (said : ℕ → Option Message) (of : ℕ → ℕ) (done : ℕ → Bool) (b : Books) (a brick j : ℕ) (post : Request) : Type 0 where
  pub given : Given
  pub made : b.given a ≡ Some given
  pub front : List Own
  pub back : List Own
  pub own_is : b.own a ≡ front ++ Sends brick j post ∷ back
  pub head : Head
  pub group : group_of (account given front) g ≡ Some head
  pub all : IsAllOf (account given front) g head given.op (changes_at (place_of (account given front) g brick))
  pub sent : AllSent said of (of j) brick j (changes_at (place_of (account given front) g brick))
  pub dones : (i : ℕ) (x : Message) (q : Request) → said i ≡ Some x → x.body ≡ ToBrick q → changes_on g q ≡ true → of i ≡ of j → x.brick ≡ brick → i < j → done i ≡ true

sent_later : (said said' : ℕ → Option Message) (of of' : ℕ → ℕ) → ((i : ℕ) (x : Message) → said i ≡ Some x → (said' i ≡ Some x) × (of' i ≡ of i)) → (t t' brick j : ℕ) → t' ≡ t → (qs : List Request) → AllSent said of t brick j qs → AllSent said' of' t' brick j qs
sent_later said said' of of' still t t' brick j same [] h = tt
sent_later said said' of of' still t t' brick j same (q ∷ qs) h =
    let o = h.0.1 in
    ((h.0.0, record { number = o.number; message = o.message; is = (still o.number o.message o.is).0; body = o.body; brick_is = o.brick_is; turn = (still o.number o.message o.is).1 ∙ (o.turn ∙ sym same); below = o.below }), sent_later said said' of of' still t t' brick j same qs h.1)

-- one that was sent, as others are and messages are done
pub post_later : (g : ℕ) (said said' : ℕ → Option Message) (of of' : ℕ → ℕ) (done done' : ℕ → Bool) (b b' : Books) → ((i : ℕ) (x : Message) → said i ≡ Some x → (said' i ≡ Some x) × (of' i ≡ of i)) → ((i : ℕ) → done i ≡ true → done' i ≡ true) → (a brick j : ℕ) (y : Message) → said j ≡ Some y → ((i : ℕ) (x : Message) → said' i ≡ Some x → i < j → said i ≡ Some x) → ((given : Given) → b.given a ≡ Some given → b'.given a ≡ Some given) → (more : List Own) → b'.own a ≡ b.own a ++ more → ((xs ys zs : List Own) → (xs ++ ys) ++ zs ≡ xs ++ (ys ++ zs)) → (post : Request) → IsPost g said of done b a brick j post → IsPost g said' of' done' b' a brick j post
post_later g said said' of of' done done' b b' still more a brick j y is old given own grown together post h = record {
  given = h.given;
  made = given h.given h.made;
  front = h.front;
  back = h.back ++ own;
  own_is = grown ∙ (ap (λ (xs : List Own). xs ++ own) h.own_is ∙ together h.front (Sends brick j post ∷ h.back) own);
  head = h.head;
  group = h.group;
  all = h.all;
  sent = sent_later said said' of of' still (of j) (of' j) brick j (still j y is).1 (changes_at (place_of (account h.given h.front) g brick)) h.sent;
  dones = λ i x q e body on turn there lt. let o = old i x e lt in more i (h.dones i x q o body on (sym (still i x o).1 ∙ (turn ∙ (still j y is).1)) there lt);
}

-- ## As it is sent

and_first : (t u : Bool) → (t && u) ≡ true → t ≡ true
and_first true u e = refl
and_first false u e = absurd (cc)

and_last : (t u : Bool) → (t && u) ≡ true → u ≡ true
and_last true u e = e
and_last false u e = absurd (cc)

pre_tells : (g : ℕ) (said : ℕ → Option Message) (s : State) (a b : ℕ) (q : Request) (reply : Reply) → is_plain_pre q ≡ true → gfid_of q ≡ Some g → is_done (Some reply) ≡ true → Tells g said s a b q reply → s.pre a b ≡ true
pre_tells g said s a b (PreOp x n at dirty) reply plain on done tells = tells (some_is x.0 g on) done (unmarked (is_marked at) plain)
  where
    unmarked : (t : Bool) → not t ≡ true → t ≡ false
    unmarked false e = refl
    unmarked true e = absurd (cc)
pre_tells g said s a b q reply plain on done tells = absurd (cc)

-- of the requests in a window
changes_all : (P : Exchange → Type 0) (said : ℕ → Option Message) (of : ℕ → ℕ) (t brick j : ℕ) → ((e : Exchange) → P e → WasSent said of t brick j e.request) → (es : List Exchange) → All P es → AllSent said of t brick j (changes (since is_pre es))
changes_all P said of t brick j f [] all = tt
changes_all P said of t brick j f (e ∷ es) all = at (is_pre e.request) (changes_all P said of t brick j f es all.1)
  where
    here : (u : Bool) → is_change e.request ≡ u → AllSent said of t brick j (changes (since is_pre es)) → AllSent said of t brick j (cond u (e.request ∷ changes (since is_pre es)) (changes (since is_pre es)))
    here true is rest = ((is, f e all.0), rest)
    here false is rest = rest

    at : (u : Bool) → AllSent said of t brick j (changes (since is_pre es)) → AllSent said of t brick j (changes (cond u [] (e ∷ since is_pre es)))
    at true rest = tt
    at false rest = here (is_change e.request) refl rest

module _ (geometry : Geometry) (g : ℕ) (m : Net) (v : View) (b : Books) (done : ℕ → Bool) (msg : Message) (next_no : msg.no ≡ m.next) (may : MaySay geometry.n m msg msg.body) (kept : BodyKept m b msg msg.body) (known : Known geometry g m v b) (shown : Shown geometry g m.said m.next v.turn v.of m.owed v.core b) (answered : HasAnswered g m.said m.owed done b) (runs : Runs geometry.n (quorum geometry) (acts_sent g v.core (turn_of g v msg) msg.body) v.core) where
  abbrev core_after : State
  core_after = after (acts_sent g v.core (turn_of g v msg) msg.body) v.core

  more : Adds m.said (said_after m msg) v.of (of_after g v msg) msg.no msg
  more = adds geometry.n g m v msg next_no known.messages

  later : Later v.core core_after
  later = after_later geometry.n (quorum geometry) (acts_sent g v.core (turn_of g v msg) msg.body) v.core runs

  mine : of_after g v msg msg.no ≡ turn_of g v msg
  mine = put_here v.of msg.no (turn_of g v msg) msg.no refl

  abbrev Past : Exchange → Type 0
  Past e = IsOfTurn m.said v.turn v.of msg.call msg.brick e.number e.request × IsOver g m.said v.of v.core e

  -- the call that sends a request that is no Release and no lock
  pub record Sender (q : Request) : Type 0 where
    pub given : Given
    pub made : b.given msg.call ≡ Some given
    pub allowed : MaySend (account given (b.own msg.call)) msg.brick q
    pub past : All Past (place_of (account given (b.own msg.call)) g msg.brick).window

  abbrev call : Given → Account
  call given = account given (b.own msg.call)

  sender_of : (q : Request) → msg.body ≡ ToBrick q → is_release q ≡ false → Sender q
  sender_of q body rel =
      let asker = subst (λ (z : Body). MaySay geometry.n m msg z) body may in
      let made = known.numbers.made msg.call asker.asker asker.made in
      let c = account made.1 (b.own msg.call) in
      record {
        given = made.1;
        made = made.2;
        allowed = (subst (BodyKept m b msg) body kept made.1 made.2 (own_sender m b msg q rel)).0;
        past = all_both (λ e. IsOfTurn m.said v.turn v.of msg.call msg.brick e.number e.request) (IsOver g m.said v.of v.core) (place_of c g msg.brick).window ((known.calls msg.call made.1 made.2).window msg.brick) ((shown.calls msg.call made.1 made.2).window msg.brick);
      }

  -- the PreOp that the brick did in this window
  pre_of : (q : Request) (body : msg.body ≡ ToBrick q) (rel : is_release q ≡ false) (s : Sender q) → did_changes (place_of (call s.given) g msg.brick) ≡ true → Found Past (Did is_pre)
  pre_of q body rel s whole = did_one Past is_pre (place_of (call s.given) g msg.brick).window s.past (and_first (did is_pre (place_of (call s.given) g msg.brick).window) (failed_none is_change (since is_pre (place_of (call s.given) g msg.brick).window)) whole)

  turn_is : (q : Request) (body : msg.body ≡ ToBrick q) (rel : is_release q ≡ false) → is_lock_on g (ToBrick q) ≡ false → (s : Sender q) (t : ℕ) → v.turn msg.call ≡ Some t → turn_of g v msg ≡ t
  turn_is q body rel lock s t has = number_is geometry g m v b msg next_no may kept known shown q body s.given s.made (own_sender m b msg q rel) lock t has

  pub new_change : (q : Request) → msg.body ≡ ToBrick q → changes_on g q ≡ true → IsChange g (said_after m msg) (of_after g v msg) core_after msg.call msg.brick msg.no q
  new_change q body on =
      let o = change_other g q on in
      let s = sender_of q body o.0 in
      let whole = ready (call s.given) msg.brick g q (known.calls msg.call s.given s.made).unhealed (change_is g q on) (change_on g q on) s.allowed in
      let p = pre_of q body o.0 s whole in
      let said = p.all.0.0 in
      let turn = turn_is q body o.0 o.1 s (v.of p.e.number) p.all.0.1 in
      let names = writer_names geometry g m v b msg next_no may kept known shown q body (change_writes g q on) in
      record {
        grant = names.0;
        names = names.1;
        lock = names.2;
        pre = p.e.number;
        asked = record { message = said.message; request = p.e.request; is = (more.still p.e.number said.message said.is).0; brick = said.brick; body = said.body; on = p.all.1.on; passes = p.so.0; turn = (more.still p.e.number said.message said.is).1 ∙ (sym turn ∙ sym mine) };
        plain = λ plain. subst (λ (t : ℕ). core_after.pre t msg.brick ≡ true) (sym turn ∙ sym mine) (later.pre (v.of p.e.number) msg.brick (told p plain));
      }
    where
      told : (p : Found Past (Did is_pre)) → is_plain_pre p.e.request ≡ true → v.core.pre (v.of p.e.number) msg.brick ≡ true
      told p plain =
          let r = reply_of p.e.reply p.so.1 in
          let t = p.all.1.told r.0 r.1 in
          let said = p.all.0.0 in
          let same = some_is t.message said.message (sym t.is ∙ said.is) in
          pre_tells g m.said v.core (v.of p.e.number) msg.brick p.e.request r.0 plain p.all.1.on r.2 (subst (λ (y : ℕ). Tells g m.said v.core (v.of p.e.number) y p.e.request r.0) (ap (λ (y : Message). y.brick) same ∙ said.brick) (t.at p.e.request (ap (λ (y : Message). y.body) same ∙ said.body)))

  pub new_sink : (x : Gfid) (n version dirty : ℕ) → msg.body ≡ ToBrick (PreOp x n version dirty) → x.0 ≡ g → is_marked version ≡ true → SawSink core_after (of_after g v msg msg.no) msg.brick (stripped version)
  new_sink x n version dirty body on marks =
      let q = PreOp x n version dirty in
      let s = sender_of q body refl in
      let r = raises_it geometry g m v b msg next_no may kept known shown q body s.given s.made (own_sender m b msg q refl) x n version dirty refl on in
      let turn = turn_is q body refl refl s r.t r.has in
      saw_later v.core core_after later (of_after g v msg msg.no) msg.brick (stripped version) (subst (λ (t : ℕ). SawSink v.core t msg.brick (stripped version)) (sym turn ∙ sym mine) (saw s r))
    where
      and_left : (t u : Bool) → (t && u) ≡ true → t ≡ true
      and_left true u e = refl
      and_left false u e = absurd (cc)

      saw : (s : Sender (PreOp x n version dirty)) (r : Raises geometry g v.turn v.core msg.call msg.brick (call s.given).waits (call s.given).steps ((call s.given).on g) version dirty) → SawSink v.core r.t msg.brick (stripped version)
      saw s r = ⊎_elim member sink s.allowed.1.version_is
        where
          given_is : (call s.given).given.geometry ≡ geometry
          given_is = ap (λ (y : Given). y.geometry) (account_given s.given (b.own msg.call)) ∙ (known.numbers.given_below msg.call s.given s.made).1.geometry_is

          group : group_head geometry.n (quorum geometry) (heads_in ((call s.given).on g)) ≡ Some s.allowed.1.head
          group = subst (λ (y : ℕ). group_head geometry.n (quorum geometry) (heads_at (call s.given) y) ≡ Some s.allowed.1.head) on (subst (λ (y : Geometry). group_head y.n (quorum y) (heads_at (call s.given) x.0) ≡ Some s.allowed.1.head) given_is s.allowed.1.group)

          positive : 0 < quorum geometry
          positive = let h = geometry.least in omega (arith, h)

          half : geometry.n < 2 * quorum geometry
          half = let h = geometry.majority in omega (arith, h)

          same_head : r.head ≡ s.allowed.1.head
          same_head = some_is r.head s.allowed.1.head (sym r.group ∙ group)

          -- a member's version is unmarked
          member : (is_member (call s.given) x.0 msg.brick ≡ true) × (version ≡ s.allowed.1.head.version.content) → SawSink v.core r.t msg.brick (stripped version)
          member h = absurd (let z = sym marks ∙ (ap is_marked h.1 ∙ group_unmarked geometry.n (quorum geometry) (heads_in ((call s.given).on g)) geometry.bricks positive half s.allowed.1.head group) in cc)

          sink : (is_sink_of (call s.given) x.0 msg.brick ≡ true) × (version ≡ marked s.allowed.1.head.version.content) → SawSink v.core r.t msg.brick (stripped version)
          sink h =
              let is = subst (λ (y : ℕ). is_sink geometry.n (quorum geometry) (heads_at (call s.given) y) msg.brick ≡ true) on (subst (λ (y : Geometry). is_sink y.n (quorum y) (heads_at (call s.given) x.0) msg.brick ≡ true) given_is (and_left (is_sink (call s.given).given.geometry.n (quorum (call s.given).given.geometry) (heads_at (call s.given) x.0) msg.brick) _ h.0)) in
              let o = sink_at geometry.n (quorum geometry) (heads_in ((call s.given).on g)) msg.brick s.allowed.1.head group is in
              record {
                head = seen_head (Some o.0);
                seen = r.seen msg.brick o.0 o.1;
                present = refl;
                marked = o.2;
                at = o.3 ∙ (ap (λ (y : Head). y.version.content) (sym same_head) ∙ sym r.base);
              }

  -- a PostOp goes out where each change of its turn that the brick was sent was done
  pub new_post : (x : Gfid) (n old new size : ℕ) (attr : Option Attr) → msg.body ≡ ToBrick (PostOp x n old new size attr) → x.0 ≡ g → IsPost g (said_after m msg) (of_after g v msg) done (sends m b msg msg.body) msg.call msg.brick msg.no (PostOp x n old new size attr)
  new_post x n old new size attr body on = from (sender_of (PostOp x n old new size attr) body refl)
    where
      q : Request
      q = PostOp x n old new size attr

      from : Sender (PostOp x n old new size attr) → IsPost g (said_after m msg) (of_after g v msg) done (sends m b msg msg.body) msg.call msg.brick msg.no (PostOp x n old new size attr)
      from s = record {
        given = s.given;
        made = ap (λ (f : ℕ → Option Given). f msg.call) (sent_same geometry m b known.numbers msg msg.body).0 ∙ s.made;
        front = b.own msg.call;
        back = [];
        own_is = sent_own m b msg q msg.body msg.call body refl;
        head = s.allowed.1.head;
        group = subst (λ (y : ℕ). group_of c y ≡ Some s.allowed.1.head) on s.allowed.1.group;
        all = subst (λ (y : Given). IsAllOf c g s.allowed.1.head y.op (changes_at (place_of c g msg.brick))) (account_given s.given (b.own msg.call)) whole.all;
        sent = changes_all (λ e. IsOfTurn m.said v.turn v.of msg.call msg.brick e.number e.request) (said_after m msg) (of_after g v msg) (of_after g v msg msg.no) msg.brick msg.no went (place_of c g msg.brick).window (f.window msg.brick);
        dones = dones;
      }
        where
          c : Account
          c = account s.given (b.own msg.call)

          f : Follows g m.said v.turn v.of v.core.moment msg.call (account s.given (b.own msg.call))
          f = known.calls msg.call s.given s.made

          windowed : HasWindowed g m.said done (account s.given (b.own msg.call))
          windowed = answered.calls msg.call s.given s.made

          whole : DidWhole (account s.given (b.own msg.call)) g s.allowed.1.head msg.brick
          whole = subst (λ (y : ℕ). DidWhole (account s.given (b.own msg.call)) y s.allowed.1.head msg.brick) on s.allowed.1.whole

          p : Found Past (Did is_pre)
          p = pre_of q body refl s whole.done

          t : ℕ
          t = v.of p.e.number

          has : v.turn msg.call ≡ Some t
          has = p.all.0.1

          turn : of_after g v msg msg.no ≡ t
          turn = mine ∙ turn_is q body refl refl s t has

          went : (e : Exchange) → IsOfTurn m.said v.turn v.of msg.call msg.brick e.number e.request → WasSent (said_after m msg) (of_after g v msg) (of_after g v msg msg.no) msg.brick msg.no e.request
          went e o = record {
            number = e.number;
            message = o.0.message;
            is = (more.still e.number o.0.message o.0.is).0;
            body = o.0.body;
            brick_is = o.0.brick;
            turn = (more.still e.number o.0.message o.0.is).1 ∙ (some_is (v.of e.number) t (sym o.1 ∙ has) ∙ sym turn);
            below = (let lt = (known.messages.number e.number o.0.message o.0.is).1 in omega (arith, lt, next_no));
          }

          dones : (i : ℕ) (y : Message) (r : Request) → said_after m msg i ≡ Some y → y.body ≡ ToBrick r → changes_on g r ≡ true → of_after g v msg i ≡ of_after g v msg msg.no → y.brick ≡ msg.brick → i < msg.no → done i ≡ true
          dones i y r is asks change same there lt =
              ⊎_elim
              (λ z. absurd (some_none (wait_of i r) (sym z ∙ free (account s.given (b.own msg.call)) msg.brick q s.allowed refl)))
              (λ z. replied (was_done (λ e. (reply : Reply) → e.reply ≡ Some reply → IsTold g m.said done e.number reply) (place_of (account s.given (b.own msg.call)) g msg.brick).window (windowed.window msg.brick) (windowed.heard msg.brick) (and_last (did is_pre (place_of (account s.given (b.own msg.call)) g msg.brick).window) (failed_none is_change (since is_pre (place_of (account s.given (b.own msg.call)) g msg.brick).window)) whole.done) i r (change_is g r change) z))
              (f.sent msg.brick i r said (change_on g r change) (change_other g r change).0 (has ∙ ap (λ (u : ℕ). Some u) (sym of)))
            where
              before : m.said i ≡ Some y
              before = ⊎_elim (λ z. absurd (let e = z.0 in omega (arith, e, lt))) (λ z. z) (more.newest i y is)

              of : v.of i ≡ t
              of = sym (more.still i y before).1 ∙ (same ∙ turn)

              call_is : y.call ≡ msg.call
              call_is =
                  let turns = known.messages.turns msg.call t has in
                  sym (known.messages.caller i y before (subst (λ (u : ℕ). 2 ^ 61 ≤ u) (sym of) turns.0)) ∙ (ap (λ (u : ℕ). call_of (m.said (u - 2 ^ 61))) of ∙ turns.2)

              said : IsSaid m.said msg.call msg.brick i r
              said = record { message = y; is = before; call = call_is; brick = there; body = asks }

              replied : WasDone i r (λ e. (reply : Reply) → e.reply ≡ Some reply → IsTold g m.said done e.number reply) → done i ≡ true
              replied w =
                  let o = reply_of w.e.reply w.done in
                  let u = w.so o.0 o.1 in
                  let message = some_is u.message y (sym u.is ∙ (ap m.said w.number ∙ before)) in
                  subst (λ (j : ℕ). done j ≡ true) w.number (u.so r (ap (λ (z : Message). z.body) message ∙ asks) change o.2)
