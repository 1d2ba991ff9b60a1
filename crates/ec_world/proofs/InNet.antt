-- Who waits in vain, and who is waited for, as what has come of a log has them.
use Rattle.std.proofs.Common.{◌≡◌, ◌⊎◌, inl, inr, ⊎_elim, ℕ, zero, suc, ◌+◌, ◌<◌, Bool, true, false, ◌==◌, ◌&&◌, ◌||◌, not, Option, Some, None, List, [], ◌∷◌, ◌++◌, length, refl, sym, ◌∙◌, ap, subst, arith, eqb-true}
use Rattle.std.specs.Prelude.{is_some, slice_get}
use Rattle.std.specs.List.{All, Contains}
use Rattle.std.proofs.lemmas.List.Elements.{All-contains, Contains-append_right}
use Rattle.ec_brick.specs.State.{asks_of}
use Rattle.ec_brick.specs.declared.brick.Brick.{Brick}
use Rattle.ec_clients.specs.Beginning.{HasClients}
use Rattle.ec_clients.specs.Calls.{IsMade, IsRunning, Waits, begun_with, ctx_of, request_message}
use Rattle.ec_clients.specs.Come.{Come}
use Rattle.ec_clients.specs.Ledger.{ledger}
use Rattle.ec_clients.specs.Owned.{IsOwned, Sees}
use Rattle.ec_clients.specs.Views.{is_dead_at, joined, running_at, slots_of}
use Rattle.ec_clients.specs.declared.clients.Clients.{Clients}
use Rattle.ec_clients.specs.declared.clients.Running.{Running}
use Rattle.ec_clients.proofs.Asking.{Lets, Stands, asks_end, lock_of}
use Rattle.ec_clients.proofs.Places.{some_is}
use Rattle.ec_cluster.specs.Matches.{IsBrick, Matches}
use Rattle.ec_cluster.specs.Said.{said_in}
use Rattle.ec_cluster.specs.Sound.{IsAsked, IsSound}
use Rattle.ec_cluster.specs.Views.{asks_at, brick_asks, bricks_of, flight, is_brick_up, is_up_at, log_of, size_of}
use Rattle.ec_cluster.specs.declared.cluster.Cluster.{Cluster}
use Rattle.ec_conduct.specs.Account.{Account, Lock, Place, Wait, at}
use Rattle.ec_conduct.specs.Conduct.{Keeps}
use Rattle.ec_conduct.specs.Given.{Given}
use Rattle.ec_conduct.specs.Opened.{account, opened}
use Rattle.ec_conduct.specs.Own.{Own, Sends}
use Rattle.ec_history.specs.IsRun.{IsCalling}
use Rattle.ec_history.specs.Run.{Asker, Net}
use Rattle.ec_history.specs.Script.{GoesNowhere as NetGoesNowhere, IsLeast, IsSettled, IsStuck, IsStuckSomewhere, IsWaitedFor}
use Rattle.ec_attr.specs.declared.kind.Domain.{Domain}
use Rattle.ec_attr.specs.declared.kind.Domain.TheVariants.{Inode, Heal}
use Rattle.ec_locks.specs.Table.{free, has_number, has_waiter, queued, some_grant, waited}
use Rattle.ec_locks.specs.declared.ask.Ask.{Ask}
use Rattle.ec_store.specs.Records.{Records}
use Rattle.ec_txn.specs.Released.{HoldsNothing}
use Rattle.ec_txn.specs.Steps.{number_of}
use Rattle.ec_txn.specs.declared.ctx.Ctx.{Ctx}
use Rattle.ec_wire.specs.declared.message.Body.{Body}
use Rattle.ec_wire.specs.declared.message.Body.TheVariants.{ToBrick, ToClient}
use Rattle.ec_wire.specs.declared.message.Message.{Message}
use Rattle.ec_wire.specs.declared.request.Request.TheVariants.{Ask as AskOf}
use Rattle.ec_world.specs.Refusals.{IsAwaitedBy}
use Rattle.ec_world.specs.Resting.{IsFirst, IsFree, IsFreeOf, IsStuckBy, Rests}
use Rattle.ec_world.specs.Settling.{GoesNowhere, goes_nowhere}
use Rattle.ec_world.specs.declared.settling.Stuck.{Stuck}
use Rattle.ec_world.proofs.Advancing.{has_place}
use Rattle.ec_world.proofs.Calling.{running_is}
use Rattle.ec_world.proofs.Naming.{said_now}

wait_of : (n : ℕ) (o : Option Wait) → number_of o ≡ Some n → (w : Wait) × (o ≡ Some w) × (w.number ≡ n)
wait_of n None e = absurd (cc)
wait_of n (Some w) e = (w, refl, some_is w.number n e)

slot_below : {X : Type 0} (xs : List X) (j : ℕ) (x : X) → slice_get xs j ≡ Some x → j < length xs
slot_below [] j x e = absurd (cc)
slot_below (y ∷ ys) zero x e = omega arith
slot_below (y ∷ ys) (suc j) x e = let h = slot_below ys j x e in omega arith

-- a grant of that number stands for which somebody waits

either_true : (x y : Bool) → (x || y) ≡ true → (x ≡ true) ⊎ (y ≡ true)
either_true true y e = inl refl
either_true false y e = inr e

second_true : (x y : Bool) → (x && y) ≡ true → y ≡ true
second_true true y e = e
second_true false y e = absurd (cc)

first_true : (x y : Bool) → (x && y) ≡ true → x ≡ true
first_true true y e = refl
first_true false y e = absurd (cc)

granted_there : (test : Ask → Bool) (before rest : List Ask) → some_grant test before rest ≡ true → (a : Ask) × Contains rest a × (test a ≡ true)
granted_there test before [] e = absurd (cc)
granted_there test before (a ∷ rest) e = ⊎_elim
    (λ x. (a, (0, omega arith, refl), second_true (free before a) (test a) x))
    (λ y. let r = granted_there test (before ++ a ∷ []) rest y in (r.0, Contains-append_right (a ∷ []) rest r.0 r.1, r.2))
    (either_true (free before a && test a) (some_grant test (before ++ a ∷ []) rest) e)

waited_there : (asks : List Ask) (n : ℕ) → waited asks n ≡ true → (a : Ask) × Contains asks a × (a.number ≡ n)
waited_there asks n e = let r = granted_there (λ a. has_number n a && has_waiter asks a) [] asks e in (r.0, r.1, eqb-true r.0.number n (first_true (has_number n r.0) (has_waiter asks r.0) r.2))

-- A call that began with no kept grants has released each of its asks where it is answered.
abbrev pub ReleasesAll : {C : Type 0} → (Ctx → Given → C → List Own → Type 0) → Type 0
ReleasesAll {C} stands = (x : Ctx) (given : Given) (call : C) (es : List Own) → given.kept ≡ None → stands x given call es → is_some (account given es).answer ≡ true → HoldsNothing (account given es)

none_stands : (domain : Domain) (i : ℕ) (p : Place) → (p.inode ≡ None) × (p.heal ≡ None) → Stands domain i p → ⊥
none_stands Inode i p e h = absurd (let bad : None ≡ Some h.lock = sym e.0 ∙ h.here in cc)
none_stands Heal i p e h = absurd (let bad : None ≡ Some h.lock = sym e.1 ∙ h.here in cc)

-- client j's call waits for brick b's reply to request n
pub record Under {C : Type 0} (stands : Ctx → Given → C → List Own → Type 0) (s : Cluster) (c : Clients C) (j b n : ℕ) : Type 0 where
  pub running : Running C
  pub in_slot : slice_get (slots_of c) j ≡ Some (Some running)
  pub runs : running_at c j ≡ Some running
  pub brick : b < size_of s
  pub waits : (o : Option ℕ) → IsAwaitedBy stands (Some running) b o → o ≡ Some n

-- the lowest client that waits in vain, and the lowest brick that it waits for
pub record Lowest (m : Net) (j b : ℕ) : Type 0 where
  pub client : IsLeast (IsStuckSomewhere m) j
  pub brick : IsLeast (IsStuck m j) b

module _ {C : Type 0} (stands : Ctx → Given → C → List Own → Type 0) (by_table : Ctx → Given → List Own → Type 0) (s : Cluster) (c : Clients C) (before : List Records) (p : Come) (sound : IsSound s) (h : Sees stands by_table s c p) (m : Matches s before p.net) where
  up_is : (b : ℕ) → b < size_of s → (p.net.brick b).up ≡ is_up_at s b
  up_is b lt =
      let k = has_place (bricks_of s) b lt in
      let r = has_place before b (let e = m.stores in omega arith) in
      let is : IsBrick (p.net.brick b) k.0 r.0 = m.bricks b k.0 r.0 k.1 r.1 in
      sym is.known.same_up ∙ sym (ap is_brick_up k.1)

  asks_are : (b : ℕ) → b < size_of s → (p.net.brick b).asks ≡ asks_at s b
  asks_are b lt =
      let k = has_place (bricks_of s) b lt in
      let r = has_place before b (let e = m.stores in omega arith) in
      let is : IsBrick (p.net.brick b) k.0 r.0 = m.bricks b k.0 r.0 k.1 r.1 in
      sym is.known.same_asks ∙ sym (ap brick_asks k.1)

  -- a message that goes nowhere
  pub nowhere : (i : ℕ) → GoesNowhere s c (flight s i) → (msg : Message) → p.net.said i ≡ Some msg → NetGoesNowhere p.net msg msg.body
  nowhere i g msg e = by (flight s i) refl g
    where
      by : (o : Option Message) → flight s i ≡ o → GoesNowhere s c o → NetGoesNowhere p.net msg msg.body
      by None f k = absurd k
      by (Some x) f k =
          let same : x ≡ msg = some_is x msg (sym (said_now stands by_table s c before p sound h m i x f) ∙ e) in
          subst (λ (z : Message). NetGoesNowhere p.net z z.body) same (body x.body k)
        where
          body : (y : Body) → goes_nowhere s c x y → NetGoesNowhere p.net x y
          body (ToBrick q) d = up_is x.brick (sound.flies i x f).brick ∙ d
          body (ToClient re reply) d = h.seen.clients.dead x.client ∙ d

  under : (j b : ℕ) (k : IsStuck p.net j b) → Under stands s c j b k.number
  under j b k =
      let slot = h.seen.clients.slots.unanswered k.call k.calling.asker k.calling.made k.calling.unanswered (λ f. absurd (cc)) in
      let r : Running C = slot.0 in
      let here : slice_get (slots_of c) j ≡ Some (Some r) = ap (slice_get (slots_of c)) (sym k.calling.of_client) ∙ slot.1 in
      let runs : running_at c j ≡ Some r = ap joined here in
      let is : IsRunning stands c.options (ledger p) j r = running_is stands by_table s c p j r h runs in
      let made : IsMade c.options (said_in (log_of s)) (ledger p) k.call k.calling.asker = h.seen.clients.calls.made k.call k.calling.asker k.calling.made in
      let same : begun_with c.options is.asker.op is.child ≡ begun_with c.options k.calling.asker.op made.child = some_is _ _ (sym is.begun ∙ (ap p.books.given slot.2 ∙ made.begun)) in
      let number : number_of ((account (begun_with c.options k.calling.asker.op made.child) (p.books.own k.call)).waits b) ≡ Some k.number = sym ((made.waits k.calling.unanswered).same b) ∙ k.waits in
      let w = wait_of k.number ((account (begun_with c.options k.calling.asker.op made.child) (p.books.own k.call)).waits b) number in
      let sent : said_in (log_of s) w.0.number ≡ Some (request_message w.0.number k.call k.calling.asker.client b w.0.request) = (made.waits k.calling.unanswered).sent b w.0 w.1 in
      record {
        running = r;
        in_slot = here;
        runs = runs;
        brick = h.below w.0.number (request_message w.0.number k.call k.calling.asker.client b w.0.request) ((λ i. h.seen.said i w.0.number) ∙ sent);
        waits = λ o aw. aw (ctx_of c.options r.number j is.child) (begun_with c.options is.asker.op is.child) (p.books.own r.number) is.meets ∙ ((λ i. number_of ((account (same i) (p.books.own (slot.2 i))).waits b)) ∙ number);
      }

  -- a client whose call waits in vain
  stuck_is : (j b n : ℕ) → IsStuckBy stands s c j b n → is_dead_at c j ≡ false → IsStuck p.net j b
  stuck_is j b n k lives =
      let r : Running C = k.waiting.running in
      let is : IsRunning stands c.options (ledger p) j r = running_is stands by_table s c p j r h k.waiting.runs in
      let made : IsMade c.options (said_in (log_of s)) (ledger p) r.number is.asker = h.seen.clients.calls.made r.number is.asker is.made in
      let same : begun_with c.options is.asker.op is.child ≡ begun_with c.options is.asker.op made.child = some_is _ _ (sym is.begun ∙ made.begun) in
      let number : number_of ((account (begun_with c.options is.asker.op made.child) (p.books.own r.number)).waits b) ≡ Some n = sym (λ i. number_of ((account (same i) (p.books.own r.number)).waits b)) ∙ sym (k.waiting.awaits (ctx_of c.options r.number j is.child) (begun_with c.options is.asker.op is.child) (p.books.own r.number) is.meets) in
      let w = wait_of n ((account (begun_with c.options is.asker.op made.child) (p.books.own r.number)).waits b) number in
      let sent : said_in (log_of s) w.0.number ≡ Some (request_message w.0.number r.number is.asker.client b w.0.request) = (made.waits is.unanswered).sent b w.0 w.1 in
      let below : b < size_of s = h.below w.0.number (request_message w.0.number r.number is.asker.client b w.0.request) ((λ i. h.seen.said i w.0.number) ∙ sent) in
      record {
        call = r.number;
        number = n;
        calling = record { asker = is.asker; made = is.made; of_client = is.of_client; unanswered = is.unanswered; lives = h.seen.clients.dead j ∙ lives };
        waits = (made.waits is.unanswered).same b ∙ number;
        out_of_queue = (λ i. queued (asks_are b below i) n) ∙ k.out_of_queue;
      }

  not_free : (j b : ℕ) → IsStuck p.net j b → IsFree stands s c j b → ⊥
  not_free j b k f =
      let u = under j b k in
      let aw : IsAwaitedBy stands (Some u.running) b f.0 = subst (λ (o : Option (Running C)). IsAwaitedBy stands o b f.0) u.runs f.1 in
      let bad : false ≡ true = sym k.out_of_queue ∙ ((λ i. queued (asks_are b u.brick i) k.number) ∙ f.2 k.number (u.waits f.0 aw)) in
      absurd (cc)

  not_free_of : (j b : ℕ) → IsStuck p.net j b → IsFreeOf stands s c j → ⊥
  not_free_of j b k (inl dead) = absurd (let bad : false ≡ true = sym k.calling.lives ∙ (h.seen.clients.dead j ∙ dead) in cc)
  not_free_of j b k (inr f) = not_free j b k (f b (under j b k).brick)

  pub first_is : (x : Stuck) → IsFirst stands s c x → Lowest p.net x.client x.brick
  first_is x f =
      let k = stuck_is x.client x.brick x.no f.stuck.here f.lives in
      record {
        client = record { itself = (x.brick, k); least = λ j lt y. not_free_of j y.0 y.1 (f.lower j lt) };
        brick = record { itself = k; least = λ b lt y. not_free x.client b y (f.stuck.lower b lt) };
      }

  -- An idle client keeps no grant for which somebody waits, where calls release all of their asks.
  module _ (all : ReleasesAll stands) where
    over_is : (a : ℕ) (asker : Asker) (b i : ℕ) (x : Ask) → p.net.asker a ≡ Some asker → p.net.answered a ≡ true → Contains (p.books.own a) (Sends b i (AskOf x.gfid x.domain x.kind)) → p.net.let_go i ≡ true
    over_is a asker b i x made over has =
        let e = h.seen.clients.slots.ended a asker made over in
        let call : IsMade c.options (said_in (log_of s)) (ledger p) a asker = h.seen.clients.calls.made a asker made in
        let given : Given = begun_with c.options asker.op e.child in
        let same : begun_with c.options asker.op call.child ≡ given = some_is _ _ (sym call.begun ∙ e.begun) in
        let keeps : Keeps given (p.books.own a) = subst (λ (z : Given). Keeps z (p.books.own a)) same call.conduct in
        let none : HoldsNothing (account given (p.books.own a)) = all (ctx_of c.options a asker.client e.child) given e.call (p.books.own a) refl e.stood e.over in
        ⊎_elim
        (λ (st : Stands x.domain i (at (account given (p.books.own a)) x.gfid.0 b)). absurd (none_stands x.domain i (at (account given (p.books.own a)) x.gfid.0 b) (none x.gfid.0 b) st))
        (λ (l : Lets (p.books.own a) i). h.booked.releases a l.brick l.number i l.gfid l.has)
        (asks_end (opened given) (p.books.own a) b i x.gfid x.domain x.kind keeps has)

    none_waited : (j : ℕ) → IsWaitedFor p.net j → ⊥
    none_waited j w =
        let b : ℕ = w.message.brick in
        let n : ℕ = w.message.no in
        let lt : b < size_of s = h.below n w.message w.said in
        let k = has_place (bricks_of s) b lt in
        let there = waited_there (asks_at s b) n (sym (λ i. waited (asks_are b lt i) n) ∙ w.waited_for) in
        let x : Ask = there.0 in
        let has : Contains (asks_of k.0) x = subst (λ (l : List Ask). Contains l x) (ap brick_asks k.1) there.1 in
        let y : IsAsked (said_in (log_of s)) b x = All-contains (IsAsked (said_in (log_of s)) b) (asks_of k.0) x (sound.asks b k.0 k.1) has in
        let same : y.message ≡ w.message = some_is y.message w.message (sym y.sent ∙ (sym (λ i. h.seen.said i x.number) ∙ (ap p.net.said there.2 ∙ w.said))) in
        let body : w.message.body ≡ ToBrick (AskOf x.gfid x.domain x.kind) = sym (ap (λ (z : Message). z.body) same) ∙ y.body in
        let o : IsOwned p.net.asker w.message.call w.message.client = h.owned n w.message (AskOf x.gfid x.domain x.kind) w.said body in
        by (p.net.answered w.message.call) refl o x body
      where
        by : (u : Bool) → p.net.answered w.message.call ≡ u → IsOwned p.net.asker w.message.call w.message.client → (x : Ask) → w.message.body ≡ ToBrick (AskOf x.gfid x.domain x.kind) → ⊥
        by false un o x body = w.idle w.message.call (record { asker = o.asker; made = o.made; of_client = o.of_client ∙ w.of_client; unanswered = un; lives = w.lives })
        by true over o x body = absurd (let bad : true ≡ false = sym (over_is w.message.call o.asker w.message.brick w.message.no x o.made over (h.booked.asks w.message.no w.message x.gfid x.domain x.kind w.said body)) ∙ w.kept in cc)

    -- where the volume rests it is settled
    pub settled_is : HasClients c → Rests stands s c → IsSettled p.net
    settled_is many rests = record {
      none_fly = λ i. m.flies i ∙ ap is_some (rests.none_fly i);
      none_stuck = λ j y. not_free_of j y.0 y.1 (rests.none_stuck j (let lt = slot_below (slots_of c) j _ (under j y.0 y.1).in_slot in let e = many.slots in omega arith));
      none_waited = none_waited;
    }
