-- The log of a world is one in which clients send nothing for calls that are answered, and no call asks a brick for a lock twice.
use Rattle.std.proofs.Common.{◌≡◌, ◌⊎◌, inl, inr, ℕ, ◌+◌, ◌≤◌, Bool, true, false, cond, Some, None, List, [], ◌∷◌, ◌++◌, refl, sym, ap, subst, ◌∙◌, arith}
use Rattle.std.specs.List.{Contains}
use Rattle.std.proofs.lemmas.List.Elements.{Contains-append_cases, Contains-push_cases}
use Rattle.ec_attr.specs.declared.config.Config.{Config}
use Rattle.ec_attr.specs.declared.geometry.Geometry.{Geometry}
use Rattle.ec_attr.specs.declared.gfid.Gfid.{Gfid}
use Rattle.ec_attr.specs.declared.kind.Domain.{Domain}
use Rattle.ec_attr.specs.declared.kind.LockKind.{LockKind}
use Rattle.ec_brick.specs.State.{State}
use Rattle.ec_calls.specs.declared.any.AnyCall.{AnyCall}
use Rattle.ec_clients.specs.Beginning.{beginning}
use Rattle.ec_clients.specs.Calls.{begun_with, ctx_of}
use Rattle.ec_clients.specs.Come.{Come, come, come_after, nothing_left}
use Rattle.ec_clients.specs.Owned.{Sees}
use Rattle.ec_clients.specs.declared.clients.Clients.{Clients}
use Rattle.ec_cluster.specs.Views.{log_of}
use Rattle.ec_cluster.specs.declared.cluster.Cluster.{Cluster}
use Rattle.ec_conduct.specs.Given.{Given}
use Rattle.ec_conduct.specs.Own.{Own, Sends}
use Rattle.ec_history.specs.Accounts.{Books, books, no_books}
use Rattle.ec_history.specs.Flat.{Tree}
use Rattle.ec_history.specs.IsRun.{IsRun}
use Rattle.ec_history.specs.Run.{Asker, Net, fresh, run}
use Rattle.ec_history.specs.Script.{entries_of}
use Rattle.ec_history.specs.Story.{opening}
use Rattle.ec_history.proofs.Runs.{front, joins, rest}
use Rattle.ec_txn.specs.declared.ctx.Ctx.{Ctx}
use Rattle.ec_wire.specs.declared.entry.Entry.{Entry}
use Rattle.ec_wire.specs.declared.message.Body.{Body}
use Rattle.ec_wire.specs.declared.message.Body.TheVariants.{ToBrick, ToClient}
use Rattle.ec_wire.specs.declared.request.Request.{Request}
use Rattle.ec_wire.specs.declared.request.Request.TheVariants.{Ask}
use Rattle.ec_law_calls.specs.World.{IsLogged}
use Rattle.ec_law_settled.specs.Asks.{CallAskLaws, asks_at, count_asks}
use Rattle.ec_law_settled.specs.Calm.{AllSend, AsksLock, AsksOnce, is_ask}
use Rattle.ec_law_settled.specs.Laws.{AreDelivered, AreHeard, GoesCalmly, OfEverySettledCall, SettledLaws, StayDead, StayUp, WaitsForNobody}
use Rattle.ec_law_settled.specs.Unchanged.{ExecutesOwn, FlatsStay, RecordsStay, UnchangedLaws}
use Rattle.ec_law_settled.specs.Worlds.{OfEveryWorldsCall}
use Rattle.ec_law_settled.proofs.Along.{once_before, send_front, send_rest}
use Rattle.ec_law_settled.proofs.Booked.{EndsWell, all_send, none_answered}
use Rattle.ec_law_settled.proofs.Counted.{counted, fresh_counted}
use Rattle.ec_law_settled.proofs.Places.{itself}

-- ## Own entries that ask

none_contained : (x : Own) → Contains [] x → ⊥
none_contained x h = absurd (let lt = h.1 in omega arith)

contained : (e : Own) (es : List Own) (x : Own) → Contains (e ∷ es) x → (e ≡ x) ⊎ Contains es x
contained e es x h = elim (Contains-append_cases (e ∷ []) es x h) [
  | inl w ↦ elim (Contains-push_cases [] e x w) [ inl v ↦ absurd (none_contained x v) | inr v ↦ inl v ]
  | inr w ↦ inr w
]

counts_one : (t : Bool) (k : ℕ) → t ≡ true → cond t 1 0 + k ≡ 1 + k
counts_one true k e = refl
counts_one false k e = absurd (cc)

at_least : (t : Bool) (k : ℕ) → k ≤ cond t 1 0 + k
at_least true k = omega arith
at_least false k = omega arith

asked_some : (b : ℕ) (es : List Own) (x : Own) → Contains es x → asks_at b x ≡ true → 1 ≤ count_asks b es
asked_some b [] x h a = absurd (none_contained x h)
asked_some b (e ∷ es) x h a = elim (contained e es x h) [
  | inl w ↦ let one : count_asks b (e ∷ es) ≡ 1 + count_asks b es = counts_one (asks_at b e) (count_asks b es) (ap (asks_at b) w ∙ a) in omega (arith, one)
  | inr w ↦ let some : 1 ≤ count_asks b es = asked_some b es x w a in let less : count_asks b es ≤ count_asks b (e ∷ es) = at_least (asks_at b e) (count_asks b es) in omega (arith, some, less)
]

-- where a brick is asked at most once, entries that ask it are one
asked_once : (b : ℕ) (es : List Own) (x y : Own) → count_asks b es ≤ 1 → Contains es x → Contains es y → asks_at b x ≡ true → asks_at b y ≡ true → x ≡ y
asked_once b [] x y few h k a c = absurd (none_contained x h)
asked_once b (e ∷ es) x y few h k a c = elim (contained e es x h) [
  | inl v ↦ elim (contained e es y k) [
    | inl w ↦ sym v ∙ w
    | inr w ↦ absurd (two x v a (asked_some b es y w c))
  ]
  | inr v ↦ elim (contained e es y k) [
    | inl w ↦ absurd (two y w c (asked_some b es x v a))
    | inr w ↦ asked_once b es x y (let less : count_asks b es ≤ count_asks b (e ∷ es) = at_least (asks_at b e) (count_asks b es) in omega (arith, few, less)) v w a c
  ]
]
  where
    two : (z : Own) → e ≡ z → asks_at b z ≡ true → 1 ≤ count_asks b es → ⊥
    two z w a some = let one : count_asks b (e ∷ es) ≡ 1 + count_asks b es = counts_one (asks_at b e) (count_asks b es) (ap (asks_at b) w ∙ a) in absurd (omega (arith, one, some, few))

same_send : (b c i j : ℕ) (q r : Request) → Sends b i q ≡ Sends c j r → i ≡ j
same_send b c i j q r e = cc

-- what an ask asks for
record IsAsk (body : Body) : Type 0 where
  gfid : Gfid
  domain : Domain
  kind : LockKind
  is : body ≡ ToBrick (Ask gfid domain kind)

ask_of : (body : Body) → is_ask body ≡ true → IsAsk body
ask_of (ToBrick (Ask g domain kind)) e = record { gfid = g; domain = domain; kind = kind; is = refl }
ask_of (ToBrick q) e = absurd (cc)
ask_of (ToClient re reply) e = absurd (cc)

-- ## What has come of a log

pub come_net : (geometry : Geometry) (es : List Entry) (p : Come) → (come geometry es p).net ≡ run es p.net
come_net geometry [] p = refl
come_net geometry (e ∷ es) p = come_net geometry es (come_after geometry p e)

pub come_books : (geometry : Geometry) (es : List Entry) (p : Come) → (come geometry es p).books ≡ books geometry nothing_left es p.net p.story p.books
come_books geometry [] p = refl
come_books geometry (e ∷ es) p = come_books geometry es (come_after geometry p e)

module _ (stands : Ctx → Given → AnyCall → List Own → Type 0) (by_table : Ctx → Given → List Own → Type 0) (asks : CallAskLaws stands) (s : Cluster) (c : Clients AnyCall) (p : Come) (h : Sees stands by_table s c p) where
  no_one : (a : ℕ) → None ≡ Some a → ⊥
  no_one a z = cc

  -- a call that was made asks each brick once
  made_once : (a : ℕ) (asker : Asker) → p.net.asker a ≡ Some asker → (b : ℕ) → count_asks b (p.books.own a) ≤ 1
  made_once a asker e b = by (p.net.answered a) refl
    where
      by : (t : Bool) → p.net.answered a ≡ t → count_asks b (p.books.own a) ≤ 1
      by true t = let ended = h.seen.clients.slots.ended a asker e t in asks.once (ctx_of c.options a asker.client ended.child) (begun_with c.options asker.op ended.child) ended.call (p.books.own a) b ended.stood
      by false t =
          let slot = h.seen.clients.slots.unanswered a asker e t (no_one a) in
          let runs = (h.seen.clients.slots.runs asker.client slot.0 slot.1).0 in
          subst (λ (z : ℕ). count_asks b (p.books.own z) ≤ 1) slot.2 (asks.once (ctx_of c.options slot.0.number asker.client runs.child) (begun_with c.options runs.asker.op runs.child) slot.0.call (p.books.own slot.0.number) b runs.meets)

  booked_ask : (a b i : ℕ) (x : AsksLock p.net.said a b i) → (z : Own) × Contains (p.books.own a) z × (asks_at b z ≡ true) × ((j : ℕ) (q : Request) → z ≡ Sends b j q → i ≡ j) × (q : Request) × (z ≡ Sends b i q)
  booked_ask a b i x =
      let ask = ask_of x.message.body x.asks in
      let q : Request = Ask ask.gfid ask.domain ask.kind in
      let there : Contains (p.books.own x.message.call) (Sends x.message.brick i (Ask ask.gfid ask.domain ask.kind)) = h.booked.asks i x.message ask.gfid ask.domain ask.kind x.is ask.is in
      let at_call : Contains (p.books.own a) (Sends x.message.brick i (Ask ask.gfid ask.domain ask.kind)) = subst (λ (z : ℕ). Contains (p.books.own z) (Sends x.message.brick i (Ask ask.gfid ask.domain ask.kind))) x.of_call there in
      let at_brick : Contains (p.books.own a) (Sends b i (Ask ask.gfid ask.domain ask.kind)) = subst (λ (z : ℕ). Contains (p.books.own a) (Sends z i (Ask ask.gfid ask.domain ask.kind))) x.of_brick at_call in
      (Sends b i (Ask ask.gfid ask.domain ask.kind), at_brick, itself b, λ j r e. same_send b b i j (Ask ask.gfid ask.domain ask.kind) r e, Ask ask.gfid ask.domain ask.kind, refl)

  asker_of : (a b i : ℕ) → AsksLock p.net.said a b i → (asker : Asker) × (p.net.asker a ≡ Some asker)
  asker_of a b i x =
      let ask = ask_of x.message.body x.asks in
      let owned = h.owned i x.message (Ask ask.gfid ask.domain ask.kind) x.is ask.is in
      (owned.asker, subst (λ (z : ℕ). p.net.asker z ≡ Some owned.asker) x.of_call owned.made)

  pub world_asks_once : AsksOnce p.net
  world_asks_once a b i j x y =
      let asker = asker_of a b i x in
      let v = booked_ask a b i x in
      let w = booked_ask a b j y in
      let one : v.0 ≡ w.0 = asked_once b (p.books.own a) v.0 w.0 (made_once a asker.0 asker.1 b) v.1 w.1 v.2 w.2 in
      v.3 j w.4 (one ∙ w.5)

  pub world_ends_well : EndsWell p.net p.books
  world_ends_well = record { conduct = λ a asker e. let made = h.seen.clients.calls.made a asker e in (begun_with c.options asker.op made.child, made.conduct) }

-- ## The log of a world

module _ (stands : Ctx → Given → AnyCall → List Own → Type 0) (by_table : Ctx → Given → List Own → Type 0) (asks : CallAskLaws stands) (config : Config) (bricks : ℕ → State) (tree : Tree) (next : ℕ) (s : Cluster) (c : Clients AnyCall)
    (logged : IsLogged stands by_table config bricks tree next s c) where
  abbrev begin : Come
  begin = beginning bricks tree logged.first

  net_is : (come c.options.geometry (log_of s) begin).net ≡ run (log_of s) (fresh bricks)
  net_is = come_net c.options.geometry (log_of s) begin

  log_once : AsksOnce (run (log_of s) (fresh bricks))
  log_once = subst AsksOnce net_is (world_asks_once stands by_table asks s c (come c.options.geometry (log_of s) begin) logged.sees)

  log_ends : EndsWell (run (log_of s) (fresh bricks)) (books c.options.geometry nothing_left (log_of s) (fresh bricks) (opening tree logged.first) no_books)
  log_ends = subst (λ (b : Books). EndsWell (run (log_of s) (fresh bricks)) b) (come_books c.options.geometry (log_of s) begin)
      (subst (λ (m : Net). EndsWell m (come c.options.geometry (log_of s) begin).books) net_is (world_ends_well stands by_table asks s c (come c.options.geometry (log_of s) begin) logged.sees))

  log_sends : AllSend (log_of s) (fresh bricks)
  log_sends = all_send config.geometry.n c.options.geometry (log_of s) (fresh bricks) (opening tree logged.first) no_books logged.is_run (fresh_counted config.geometry.n bricks) (none_answered (fresh bricks) no_books (λ a. refl)) log_ends

  module _ (earlier es later : List Entry) (parts : log_of s ≡ (earlier ++ es) ++ later) where
    runs_all : IsRun config.geometry.n ((earlier ++ es) ++ later) (fresh bricks)
    runs_all = subst (λ (l : List Entry). IsRun config.geometry.n l (fresh bricks)) parts logged.is_run

    sends_all : AllSend ((earlier ++ es) ++ later) (fresh bricks)
    sends_all = subst (λ (l : List Entry). AllSend l (fresh bricks)) parts log_sends

    once_all : AsksOnce (run later (run (earlier ++ es) (fresh bricks)))
    once_all = subst AsksOnce (ap (λ (l : List Entry). run l (fresh bricks)) parts ∙ joins (earlier ++ es) later (fresh bricks)) log_once

    pub then_runs : IsRun config.geometry.n (earlier ++ es) (fresh bricks)
    then_runs = front config.geometry.n (earlier ++ es) later (fresh bricks) runs_all

    pub then_sends : AllSend es (run earlier (fresh bricks))
    then_sends = send_rest earlier es (fresh bricks) (send_front (earlier ++ es) later (fresh bricks) sends_all)

    pub then_once : AsksOnce (run (earlier ++ es) (fresh bricks))
    then_once = once_before config.geometry.n later (run (earlier ++ es) (fresh bricks)) (rest config.geometry.n (earlier ++ es) later (fresh bricks) runs_all) (counted config.geometry.n (earlier ++ es) (fresh bricks) then_runs (fresh_counted config.geometry.n bricks)) once_all

-- what holds of every settled call holds of those of worlds
of_worlds : (stands : Ctx → Given → AnyCall → List Own → Type 0) (by_table : Ctx → Given → List Own → Type 0) → CallAskLaws stands → (law : ℕ → Net → ℕ → List Entry → Type 0) → OfEverySettledCall law → OfEveryWorldsCall stands by_table law
of_worlds stands by_table asks law h config bricks tree next s c logged earlier later call client op called steps parts settled =
    h config.geometry.n bricks earlier call client op called steps
    (then_runs stands by_table asks config bricks tree next s c logged earlier (entries_of (called ∷ steps)) later parts)
    settled
    (then_sends stands by_table asks config bricks tree next s c logged earlier (entries_of (called ∷ steps)) later parts)
    (then_once stands by_table asks config bricks tree next s c logged earlier (entries_of (called ∷ steps)) later parts)

pub world_laws : (stands : Ctx → Given → AnyCall → List Own → Type 0) (by_table : Ctx → Given → List Own → Type 0) → CallAskLaws stands → SettledLaws OfEverySettledCall → SettledLaws (OfEveryWorldsCall stands by_table)
world_laws stands by_table asks laws = record {
  calm = of_worlds stands by_table asks GoesCalmly laws.calm;
  up = of_worlds stands by_table asks StayUp laws.up;
  dead = of_worlds stands by_table asks StayDead laws.dead;
  waits = of_worlds stands by_table asks WaitsForNobody laws.waits;
  delivered = of_worlds stands by_table asks AreDelivered laws.delivered;
  heard = of_worlds stands by_table asks AreHeard laws.heard;
}

pub world_unchanged : (stands : Ctx → Given → AnyCall → List Own → Type 0) (by_table : Ctx → Given → List Own → Type 0) → CallAskLaws stands → UnchangedLaws OfEverySettledCall → UnchangedLaws (OfEveryWorldsCall stands by_table)
world_unchanged stands by_table asks laws = record {
  own = of_worlds stands by_table asks ExecutesOwn laws.own;
  records = of_worlds stands by_table asks RecordsStay laws.records;
  flats = of_worlds stands by_table asks FlatsStay laws.flats;
}
