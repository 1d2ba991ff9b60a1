-- What a log keeps of locks, entry by entry.
use Rattle.std.proofs.Common.{◌≡◌, ◌⊎◌, ℕ, ◌+◌, ◌^◌, ◌<◌, ◌≤◌, Bool, true, false, cond, ◌==◌, ◌&&◌, Option, Some, None, List, [], ◌∷◌, ◌++◌, refl, sym, ◌∙◌, ap, subst, arith}
use Rattle.std.proofs.lemmas.Bool.Decides.{nat_tests}
use Rattle.std.specs.Prelude.{filter, unwrap_or}
use Rattle.ec_attr.specs.declared.kind.Domain.TheVariants.{Inode}
use Rattle.ec_locks.specs.Table.{has, stays}
use Rattle.ec_locks.specs.declared.ask.Ask.{Ask as Asking}
use Rattle.ec_locks.specs.declared.ask.Leaving.{Leaving}
use Rattle.ec_locks.specs.declared.ask.Leaving.TheVariants.{Number}
use Rattle.ec_store.specs.Put.{put}
use Rattle.ec_wire.specs.declared.message.Body.{Body}
use Rattle.ec_wire.specs.declared.message.Message.{Message}
use Rattle.ec_wire.specs.declared.reply.Reply.{Reply}
use Rattle.ec_wire.specs.declared.request.Request.{Request}
use Rattle.ec_wire.specs.declared.request.Request.TheVariants.{Ask, Release, Query, PreOp, ReadChunks, WriteChunks, SetLength, PostOp, Clear, NameGet, NamesAfter, NameSet, NamesPut, Make, Made, Unmake, Mark, Unmark, GfidsAfter}
use Rattle.ec_brick.specs.Rows.{fence, row_of}
use Rattle.ec_brick.specs.State.{State as Brick}
use Rattle.ec_brick.specs.Step.{Failing, Fine, Before, Within, Work, by_row, executed, fenced, head_read, judged, refusal_of, version_of, work, worked}
use Rattle.ec_brick.specs.declared.row.Row.{Row}
use Rattle.ec_store.specs.Records.{head_at}
use Rattle.ec_history.specs.Run.{Net, sent}
use Rattle.ec_law_base.specs.State.{State}
use Rattle.ec_law_ballots.specs.Act.{after}
use Rattle.ec_law_net.specs.Turns.{View, acts_sent, exclusive, is_lock_on, is_over, turn_after, turn_from, turn_of}
use Rattle.ec_law_net.specs.Link.{Linked}
use Rattle.ec_law_net.specs.Grants.{AreAsks, AsksIn, LocksStand}
use Rattle.ec_law_net.proofs.GrantActs.{after_old, sent_keeps}
use Rattle.ec_law_net.proofs.GrantsKept.{are_asks_later}
use Rattle.ec_law_net.proofs.Sending.{put_below}

-- nothing of bricks, messages and turns changes, and messages may land
pub locks_same : (n g : ℕ) (m t : Net) (v w : View) → LocksStand n g m v → t.brick ≡ m.brick → t.said ≡ m.said → ((i : ℕ) → m.flying i ≡ false → t.flying i ≡ false) → w.core ≡ v.core → w.of ≡ v.of → w.turn ≡ v.turn → LocksStand n g t w
locks_same n g m t v w l brick said lands core of turn = record {
  asks = λ b lt. subst (λ (z : Brick). AreAsks t b z.asks) (sym (at b)) (are_asks_later m t (λ i msg e. ap (λ (f : ℕ → Option Message). f i) said ∙ e) (λ i msg e f. lands i f) b (m.brick b).asks (l.asks b lt));
  once = λ a b lt e. let o = l.once a b lt (subst (λ (s : State). s.granted a b ≡ true) core e) in record {
    number = o.number;
    asked = record { message = o.asked.message; gfid = o.asked.gfid; kind = o.asked.kind; said = ap (λ (f : ℕ → Option Message). f o.number) said ∙ o.asked.said; brick = o.asked.brick; body = o.asked.body; on = o.asked.on; turn = ap (λ (f : ℕ → ℕ). f o.number) of ∙ o.asked.turn };
    landed = lands o.number o.landed;
    stands = subst (λ (z : Brick). (has z.asks o.number ≡ false) ⊎ (exclusive g Inode z.asks ≡ Some o.number)) (sym (at b)) o.stands;
  };
  begun = λ c a e. l.begun c a (sym (ap (λ (f : ℕ → Option ℕ). f c) turn) ∙ e);
  turns = λ i b a h. l.turns i b a (record { message = h.message; gfid = h.gfid; kind = h.kind; said = sym (ap (λ (f : ℕ → Option Message). f i) said) ∙ h.said; brick = h.brick; body = h.body; on = h.on; turn = sym (ap (λ (f : ℕ → ℕ). f i) of) ∙ h.turn });
  old = λ a e. l.old a (subst (λ (s : State). s.old a ≡ true) core e);
  none = subst (λ (s : State). s.old 0 ≡ false) (sym core) l.none;
}
  where
    at : (b : ℕ) → t.brick b ≡ m.brick b
    at b = ap (λ (f : ℕ → Brick). f b) brick

-- a message that is sent
module _ (n g : ℕ) (m : Net) (v : View) (msg : Message) (link : Linked n g m v) (l : LocksStand n g m v) (number : msg.no ≡ m.next) where
  earlier : (i : ℕ) (x : Message) → m.said i ≡ Some x → i < msg.no
  earlier i x e = let o = link.said i x e in let y = o.1 in omega (arith, number)

  still : (i : ℕ) (x : Message) → m.said i ≡ Some x → put m.said msg.no (Some msg) i ≡ Some x
  still i x e = put_below m.said msg.no (Some msg) i (earlier i x e) ∙ e

  some_is : (x y : ℕ) → Some x ≡ Some y → x ≡ y
  some_is x y e = cc

  same_message : (x y : Message) → Some x ≡ Some y → x ≡ y
  same_message x y e = cc

  begun_after : (c a : ℕ) → turn_after g v msg c ≡ Some a → 2 ^ 61 ≤ a
  begun_after c a e = at (is_lock_on g msg.body && is_over v.core (v.turn msg.call)) e
    where
      new : (u : Bool) → cond u (Some (turn_from msg.no)) (v.turn c) ≡ Some a → 2 ^ 61 ≤ a
      new true f = let x = some_is (2 ^ 61 + msg.no) a f in omega arith
      new false f = l.begun c a f

      at : (t : Bool) → cond {A = ℕ → Option ℕ} t (put v.turn msg.call (Some (turn_from msg.no))) v.turn c ≡ Some a → 2 ^ 61 ≤ a
      at true f = new (c == msg.call) f
      at false f = l.begun c a f

  -- an ask for the content is sent in a turn
  in_turn : is_lock_on g msg.body ≡ true → 2 ^ 61 ≤ turn_of g v msg
  in_turn lock = at (turn_after g v msg msg.call) refl
    where
      begins : (t : Bool) → t ≡ true → (o : Option ℕ) → v.turn msg.call ≡ o → cond {A = ℕ → Option ℕ} (t && is_over v.core o) (put v.turn msg.call (Some (turn_from msg.no))) v.turn msg.call ≡ None → ⊥
      begins false e o h f = cc
      begins true e None h f = mine (msg.call == msg.call) (grind (arith, nat_tests)) f
        where
          mine : (u : Bool) → u ≡ true → cond u (Some (turn_from msg.no)) (v.turn msg.call) ≡ None → ⊥
          mine true e f = cc
          mine false e f = cc
      begins true e (Some a) h f = over (v.core.moment a) f
        where
          mine : (u : Bool) → cond u (Some (turn_from msg.no)) (v.turn msg.call) ≡ None → ⊥
          mine true f = cc
          mine false f = let x = sym h ∙ f in cc

          over : (u : Bool) → cond {A = ℕ → Option ℕ} u (put v.turn msg.call (Some (turn_from msg.no))) v.turn msg.call ≡ None → ⊥
          over true f = mine (msg.call == msg.call) f
          over false f = let x = sym h ∙ f in cc

      at : (o : Option ℕ) → turn_after g v msg msg.call ≡ o → 2 ^ 61 ≤ unwrap_or o 0
      at None e = absurd (begins (is_lock_on g msg.body) lock (v.turn msg.call) refl e)
      at (Some a) e = begun_after msg.call a e

  -- the turn in which a message is sent is none of before the run
  pub real_turn : v.core.old (turn_of g v msg) ≡ false
  real_turn = at (turn_after g v msg msg.call) refl
    where
      later : (a : ℕ) → 2 ^ 61 ≤ a → (t : Bool) → v.core.old a ≡ t → v.core.old a ≡ false
      later a le false e = e
      later a le true e = absurd (let x = l.old a e in omega arith)

      at : (o : Option ℕ) → turn_after g v msg msg.call ≡ o → v.core.old (unwrap_or o 0) ≡ false
      at None e = l.none
      at (Some a) e = later a (begun_after msg.call a e) (v.core.old a) refl

  pub locks_sent : LocksStand n g (sent m msg) (record v { turn = turn_after g v msg; of = put v.of msg.no (turn_of g v msg); core = after (acts_sent g v.core (turn_of g v msg) msg.body) v.core })
  locks_sent = record {
    asks = λ b lt. are_asks_later m (sent m msg) still (λ i x e f. put_below m.flying msg.no true i (earlier i x e) ∙ f) b (m.brick b).asks (l.asks b lt);
    once = λ a b lt e. let o = l.once a b lt (sym (sent_keeps g v.core (turn_of g v msg) msg.body v.core a b) ∙ e) in record {
      number = o.number;
      asked = record { message = o.asked.message; gfid = o.asked.gfid; kind = o.asked.kind; said = still o.number o.asked.message o.asked.said; brick = o.asked.brick; body = o.asked.body; on = o.asked.on; turn = put_below v.of msg.no (turn_of g v msg) o.number (earlier o.number o.asked.message o.asked.said) ∙ o.asked.turn };
      landed = put_below m.flying msg.no true o.number (earlier o.number o.asked.message o.asked.said) ∙ o.landed;
      stands = o.stands;
    };
    begun = begun_after;
    turns = λ i b a h. asks_late i b a h (i == msg.no) refl h.said h.turn;
    old = λ a e. l.old a (sym (after_old (acts_sent g v.core (turn_of g v msg) msg.body) v.core a) ∙ e);
    none = after_old (acts_sent g v.core (turn_of g v msg) msg.body) v.core 0 ∙ l.none;
  }
    where
      asks_late : (i b a : ℕ) (h : AsksIn g (sent m msg) (record v { turn = turn_after g v msg; of = put v.of msg.no (turn_of g v msg); core = after (acts_sent g v.core (turn_of g v msg) msg.body) v.core }) i b a) → (t : Bool) → (i == msg.no) ≡ t → cond t (Some msg) (m.said i) ≡ Some h.message → cond t (turn_of g v msg) (v.of i) ≡ a → 2 ^ 61 ≤ a
      asks_late i b a h false e said turn = l.turns i b a (record { message = h.message; gfid = h.gfid; kind = h.kind; said = said; brick = h.brick; body = h.body; on = h.on; turn = turn })
      asks_late i b a h true e said turn = subst (λ (x : ℕ). 2 ^ 61 ≤ x) turn (in_turn (subst (λ (z : Body). is_lock_on g z ≡ true) (sym (ap (λ (x : Message). x.body) (same_message msg h.message said) ∙ h.body)) (is_on h.gfid.0 h.on)))
        where
          is_on : (x : ℕ) → x ≡ g → (x == g) ≡ true
          is_on x e = grind (arith, nat_tests)

-- ## The table after an execution

-- the asks that a request leaves: the same, one more, or those that stay
pub data Table_is (old new : List Asking) (client number : ℕ) (q : Request) : Type 0 where
  Same_table : new ≡ old → Table_is old new client number q
  Longer : (e : Asking) → e.number ≡ number → e.client ≡ client → q ≡ Ask e.gfid e.domain e.kind → new ≡ old ++ e ∷ [] → Table_is old new client number q
  Shorter : (l : Leaving) → new ≡ filter (stays l) old → Table_is old new client number q

fenced_asks : (s : Brick) (f : Failing) (w : Work) (r : Row) → w.done.asks ≡ s.asks → w.broken.asks ≡ s.asks → (o : Option Reply) → (fenced s f w r o).brick.asks ≡ s.asks
fenced_asks s f w r done broken (Some y) = refl
fenced_asks s f w r done broken None = read f
  where
    works : (f : Failing) (v : Option ℕ) → (worked s f w v).brick.asks ≡ s.asks
    works Fine v = done
    works Before v = refl
    works Within v = broken

    judges : (f : Failing) (v : Option ℕ) (o : Option Reply) → (judged s f w v o).brick.asks ≡ s.asks
    judges f v None = works f v
    judges f v (Some y) = refl

    read : (f : Failing) → (head_read s f w r (head_at s.records r.subject.0)).brick.asks ≡ s.asks
    read Fine = judges Fine (version_of (head_at s.records r.subject.0)) (refusal_of s r (head_at s.records r.subject.0))
    read Before = refl
    read Within = judges Within (version_of (head_at s.records r.subject.0)) (refusal_of s r (head_at s.records r.subject.0))

row_asks : (s : Brick) (f : Failing) (q : Request) (r : Option Row) → (by_row s f (work s q) r).brick.asks ≡ s.asks
row_asks s f q None = refl
row_asks s f q (Some r) = fenced_asks s f (work s q) r refl refl (fence s.asks r)

pub table : (s : Brick) (f : Failing) (client number : ℕ) (q : Request) → Table_is s.asks (executed s f client number q).brick.asks client number q
table s f client number (Ask x domain kind) = Longer (record { number = number; client = client; gfid = x; domain = domain; kind = kind }) refl refl refl refl
table s f client number (Release x n) = Shorter (Number n) refl
table s Fine client number (GfidsAfter start dirty) = Same_table refl
table s Before client number (GfidsAfter start dirty) = Same_table refl
table s Within client number (GfidsAfter start dirty) = Same_table refl
table s f client number (Query x i) = Same_table (row_asks s f (Query x i) (row_of (Query x i)))
table s f client number (PreOp x i at pre) = Same_table (row_asks s f (PreOp x i at pre) (row_of (PreOp x i at pre)))
table s f client number (ReadChunks x i first count) = Same_table (row_asks s f (ReadChunks x i first count) (row_of (ReadChunks x i first count)))
table s f client number (WriteChunks x i first chunks) = Same_table (row_asks s f (WriteChunks x i first chunks) (row_of (WriteChunks x i first chunks)))
table s f client number (SetLength x i keep count) = Same_table (row_asks s f (SetLength x i keep count) (row_of (SetLength x i keep count)))
table s f client number (PostOp x i at version size attr) = Same_table (row_asks s f (PostOp x i at version size attr) (row_of (PostOp x i at version size attr)))
table s f client number (Clear x i at) = Same_table (row_asks s f (Clear x i at) (row_of (Clear x i at)))
table s f client number (NameGet x i name) = Same_table (row_asks s f (NameGet x i name) (row_of (NameGet x i name)))
table s f client number (NamesAfter x i start) = Same_table (row_asks s f (NamesAfter x i start) (row_of (NamesAfter x i start)))
table s f client number (NameSet x i name child) = Same_table (row_asks s f (NameSet x i name child) (row_of (NameSet x i name child)))
table s f client number (NamesPut x i start upto list) = Same_table (row_asks s f (NamesPut x i start upto list) (row_of (NamesPut x i start upto list)))
table s f client number (Make x i child) = Same_table (row_asks s f (Make x i child) (row_of (Make x i child)))
table s f client number (Made x i child) = Same_table (row_asks s f (Made x i child) (row_of (Made x i child)))
table s f client number (Unmake x i child) = Same_table (row_asks s f (Unmake x i child) (row_of (Unmake x i child)))
table s f client number (Mark x i heal head) = Same_table (row_asks s f (Mark x i heal head) (row_of (Mark x i heal head)))
table s f client number (Unmark x i at dirty) = Same_table (row_asks s f (Unmark x i at dirty) (row_of (Unmark x i at dirty)))
