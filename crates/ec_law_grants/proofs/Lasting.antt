-- What an entry leaves as it was: messages, those that have arrived, and the asks of bricks.
use Rattle.std.proofs.Common.{◌≡◌, ◌≢◌, ℕ, ◌<◌, Bool, true, false, cond, ◌==◌, Option, Some, None, List, refl, sym, ◌∙◌, ap, subst, arith}
use Rattle.ec_locks.specs.declared.ask.Ask.{Ask as Asking}
use Rattle.ec_locks.specs.declared.ask.Leaving.TheVariants.{Client}
use Rattle.ec_store.specs.Put.{put}
use Rattle.ec_wire.specs.declared.entry.Entry.{Entry}
use Rattle.ec_wire.specs.declared.entry.Entry.TheVariants.{Called, Sent, Executed, Heard, Lost, GivenUp, Stopped, Returned, Cut, Died, Yielded, Torn, Answered, Replaced}
use Rattle.ec_wire.specs.declared.message.Body.{Body}
use Rattle.ec_wire.specs.declared.message.Body.TheVariants.{ToBrick, ToClient}
use Rattle.ec_wire.specs.declared.message.Message.{Message}
use Rattle.ec_wire.specs.declared.request.Request.{Request}
use Rattle.ec_brick.specs.Meets.{failing_at}
use Rattle.ec_brick.specs.State.{State as Brick}
use Rattle.ec_brick.specs.Step.{Out, cut_off, executed as executed_at, quiet as quiet_out, started, stopped, torn_off as torn_at}
use Rattle.ec_history.specs.IsRun.{May as MayEnter, MayExecute, MayTear}
use Rattle.ec_history.specs.Run.{Net, after, executed as executed_net, executed_as, executed_by, failing, heard, heard_by, out_of, torn_by, torn_off, torn_out, wiped}
use Rattle.ec_law_net.specs.Grants.{AreAsks}
use Rattle.ec_law_net.proofs.AtBrick.{torn_down}
use Rattle.ec_law_net.proofs.GrantEntries.{Longer, Same_table, Shorter, Table_is, table}
use Rattle.ec_law_turns.proofs.Basics.{equal, put_there}
use Rattle.ec_law_turns.proofs.Steps.{executed_same, heard_same, torn_same}
use Rattle.ec_law_grants.proofs.Tables.{Stays, stays_append, stays_filter, stays_none, stays_same}

-- messages have their numbers
abbrev pub AreNumbered : Net → Type 0
AreNumbered m = (i : ℕ) (x : Message) → m.said i ≡ Some x → (x.no ≡ i) × (i < m.next)

lands_put : (f : ℕ → Bool) (j i : ℕ) → f i ≡ false → put f j false i ≡ false
lands_put f j i e = at (i == j)
  where
    at : (t : Bool) → cond t false (f i) ≡ false
    at true = refl
    at false = e

module _ (n : ℕ) (m : Net) (numbers : AreNumbered m) where
  earlier : (msg : Message) → msg.no ≡ m.next → (i : ℕ) (x : Message) → m.said i ≡ Some x → i ≢ msg.no
  earlier msg next i x is e = let lt = (numbers i x is).1 in omega (arith, next, e, lt)

  -- a message stays said
  pub said_entry : (e : Entry) → MayEnter n m e → (i : ℕ) (x : Message) → m.said i ≡ Some x → (after m e).said i ≡ Some x
  said_entry (Called a client op) may i x is = is
  said_entry (Sent msg) may i x is = put_there m.said msg.no (Some msg) i (earlier msg may.0 i x is) ∙ is
  said_entry (Executed j version failed) may i x is = ap (λ (f : ℕ → Option Message). f i) (executed_same m (m.said j) version failed).0 ∙ is
  said_entry (Heard j) may i x is = ap (λ (f : ℕ → Option Message). f i) (heard_same m (m.said j)).0 ∙ is
  said_entry (Lost j) may i x is = is
  said_entry (GivenUp client brick j) may i x is = is
  said_entry (Stopped b) may i x is = is
  said_entry (Returned b) may i x is = is
  said_entry (Cut client b) may i x is = is
  said_entry (Died client) may i x is = is
  said_entry (Yielded client) may i x is = is
  said_entry (Torn j bytes version) may i x is = ap (λ (f : ℕ → Option Message). f i) (torn_same m (m.said j) bytes version).0 ∙ is
  said_entry (Answered a answer) may i x is = is
  said_entry (Replaced b removed all) may i x is = is

  -- and one that has arrived isn't in flight again
  pub lands_entry : (e : Entry) → MayEnter n m e → (i : ℕ) (x : Message) → m.said i ≡ Some x → m.flying i ≡ false → (after m e).flying i ≡ false
  lands_entry (Called a client op) may i x is landed = landed
  lands_entry (Sent msg) may i x is landed = put_there m.flying msg.no true i (earlier msg may.0 i x is) ∙ landed
  lands_entry (Executed j version failed) may i x is landed = by (m.said j)
    where
      body : (msg : Message) (z : Body) → (executed_by m msg z version failed).flying i ≡ false
      body msg (ToBrick q) = lands_put m.flying msg.no i landed
      body msg (ToClient re reply) = landed

      by : (o : Option Message) → (executed_net m o version failed).flying i ≡ false
      by None = landed
      by (Some msg) = body msg msg.body
  lands_entry (Heard j) may i x is landed = by (m.said j)
    where
      body : (msg : Message) (z : Body) → (heard_by m msg z).flying i ≡ false
      body msg (ToBrick q) = landed
      body msg (ToClient re reply) = lands_put m.flying msg.no i landed

      by : (o : Option Message) → (heard m o).flying i ≡ false
      by None = landed
      by (Some msg) = body msg msg.body
  lands_entry (Lost j) may i x is landed = lands_put m.flying j i landed
  lands_entry (GivenUp client brick j) may i x is landed = landed
  lands_entry (Stopped b) may i x is landed = landed
  lands_entry (Returned b) may i x is landed = landed
  lands_entry (Cut client b) may i x is landed = landed
  lands_entry (Died client) may i x is landed = landed
  lands_entry (Yielded client) may i x is landed = landed
  lands_entry (Torn j bytes version) may i x is landed = by (m.said j)
    where
      body : (msg : Message) (z : Body) → (torn_by m msg z bytes version).flying i ≡ false
      body msg (ToBrick q) = lands_put m.flying msg.no i landed
      body msg (ToClient re reply) = landed

      by : (o : Option Message) → (torn_off m o bytes version).flying i ≡ false
      by None = landed
      by (Some msg) = body msg msg.body
  lands_entry (Answered a answer) may i x is landed = landed
  lands_entry (Replaced b removed all) may i x is landed = landed

-- ## Executions

-- what an execution is, and a torn write
pub executed_is : (m : Net) (i : ℕ) (version : Option ℕ) (failed : Bool) (may : MayExecute m i version failed) → after m (Executed i version failed) ≡ executed_as m may.message (out_of m may.message may.request version failed)
executed_is m i version failed may = ap (λ (o : Option Message). executed_net m o version failed) may.at.said ∙ ap (λ (z : Body). executed_by m may.message z version failed) may.at.body

pub went : (m : Net) (i : ℕ) (version : Option ℕ) (failed : Bool) (may : MayExecute m i version failed) (f : Bool) → out_of m may.message may.request version f ≡ executed_at (m.brick may.message.brick) (failing f version) may.message.client may.message.no may.request
went m i version failed may f = ap (λ (t : Bool). cond t (executed_at (m.brick may.message.brick) (failing f version) may.message.client may.message.no may.request) (quiet_out (m.brick may.message.brick))) may.at.up

pub torn_bricks : (m : Net) (i count : ℕ) (version : Option ℕ) (may : MayTear m i count version) → (after m (Torn i count version)).brick ≡ put m.brick may.message.brick (torn_out m may.message may.request count version).brick
torn_bricks m i count version may = ap (λ (o : Option Message). (torn_off m o count version).brick) may.at.said ∙ ap (λ (z : Body). (torn_by m may.message z count version).brick) may.at.body

pub torn_went : (m : Net) (i count : ℕ) (version : Option ℕ) (may : MayTear m i count version) → torn_out m may.message may.request count version ≡ torn_at (m.brick may.message.brick) (failing_at version) may.request count
torn_went m i count version may = ap (λ (t : Bool). cond t (torn_at (m.brick may.message.brick) (failing_at version) may.request count) (quiet_out (m.brick may.message.brick))) may.at.up

pub heard_bricks : (m : Net) (o : Option Message) → (heard m o).brick ≡ m.brick
heard_bricks m None = refl
heard_bricks m (Some msg) = by msg.body
  where
    by : (z : Body) → (heard_by m msg z).brick ≡ m.brick
    by (ToBrick q) = refl
    by (ToClient re reply) = refl

-- ## Asks

module _ (n : ℕ) (m : Net) (numbers : AreNumbered m) (to : (i : ℕ) (x : Message) (q : Request) → m.said i ≡ Some x → x.body ≡ ToBrick q → x.brick < n) (asks : (b : ℕ) → b < n → AreAsks m b (m.brick b).asks) where
  -- where one brick changes
  placed : (c : ℕ) (new : Brick) (bricks : ℕ → Brick) → bricks ≡ put m.brick c new → (c < n → Stays m (m.brick c).asks new.asks) → (b : ℕ) → b < n → Stays m (m.brick b).asks (bricks b).asks
  placed c new bricks same stays b lt = subst (λ (f : ℕ → Brick). Stays m (m.brick b).asks (f b).asks) (sym same) (at (b == c) refl)
    where
      at : (t : Bool) → (b == c) ≡ t → Stays m (m.brick b).asks (cond t new (m.brick b)).asks
      at true e = let is = equal b c e in subst (λ (y : ℕ). Stays m (m.brick y).asks new.asks) (sym is) (stays (subst (λ (y : ℕ). y < n) is lt))
      at false e = stays_same m (m.brick b).asks

  same_asks : (old new : List Asking) → new ≡ old → Stays m old new
  same_asks old new e = subst (Stays m old) (sym e) (stays_same m old)

  executed_stays : (i : ℕ) (version : Option ℕ) (failed : Bool) (may : MayExecute m i version failed) → may.message.brick < n → Stays m (m.brick may.message.brick).asks (out_of m may.message may.request version failed).brick.asks
  executed_stays i version failed may lt = subst (λ (o : Out). Stays m (m.brick may.message.brick).asks o.brick.asks) (sym (went m i version failed may failed)) (by (table (m.brick may.message.brick) (failing failed version) may.message.client may.message.no may.request))
    where
      old : List Asking
      old = (m.brick may.message.brick).asks

      new : List Asking
      new = (executed_at (m.brick may.message.brick) (failing failed version) may.message.client may.message.no may.request).brick.asks

      by : Table_is (m.brick may.message.brick).asks (executed_at (m.brick may.message.brick) (failing failed version) may.message.client may.message.no may.request).brick.asks may.message.client may.message.no may.request → Stays m (m.brick may.message.brick).asks (executed_at (m.brick may.message.brick) (failing failed version) may.message.client may.message.no may.request).brick.asks
      by (Same_table e) = same_asks old new e
      by (Shorter l e) = subst (Stays m old) (sym e) (stays_filter m may.message.brick l old (asks may.message.brick lt))
      by (Longer a number client is e) = subst (Stays m old) (sym e) (stays_append m old a (ap m.flying (number ∙ (numbers i may.message may.at.said).0) ∙ may.at.flying))

  pub asks_entry : (e : Entry) → MayEnter n m e → (b : ℕ) → b < n → Stays m (m.brick b).asks ((after m e).brick b).asks
  asks_entry (Called a client op) may b lt = stays_same m (m.brick b).asks
  asks_entry (Sent msg) may b lt = stays_same m (m.brick b).asks
  asks_entry (Executed i version failed) may b lt = placed may.message.brick (out_of m may.message may.request version failed).brick (after m (Executed i version failed)).brick (ap (λ (t : Net). t.brick) (executed_is m i version failed may)) (executed_stays i version failed may) b lt
  asks_entry (Heard i) may b lt = same_asks (m.brick b).asks ((after m (Heard i)).brick b).asks (ap (λ (f : ℕ → Brick). (f b).asks) (heard_bricks m (m.said i)))
  asks_entry (Lost i) may b lt = stays_same m (m.brick b).asks
  asks_entry (GivenUp client brick i) may b lt = stays_same m (m.brick b).asks
  asks_entry (Stopped c) may b lt = placed c (stopped (m.brick c)) (after m (Stopped c)).brick refl (λ h. stays_none m (m.brick c).asks) b lt
  asks_entry (Returned c) may b lt = placed c (started (m.brick c)) (after m (Returned c)).brick refl (λ h. stays_same m (m.brick c).asks) b lt
  asks_entry (Cut client c) may b lt = placed c (cut_off (m.brick c) client).brick (after m (Cut client c)).brick refl (λ h. stays_filter m c (Client client) (m.brick c).asks (asks c h)) b lt
  asks_entry (Died client) may b lt = stays_same m (m.brick b).asks
  asks_entry (Yielded client) may b lt = stays_same m (m.brick b).asks
  asks_entry (Torn i count version) may b lt = placed may.message.brick (torn_out m may.message may.request count version).brick (after m (Torn i count version)).brick (torn_bricks m i count version may) (λ h. subst (Stays m (m.brick may.message.brick).asks) (sym (ap (λ (o : Out). o.brick.asks) (torn_went m i count version may) ∙ (torn_down 0 (m.brick may.message.brick) (failing_at version) may.request count).1)) (stays_none m (m.brick may.message.brick).asks)) b lt
  asks_entry (Answered a answer) may b lt = stays_same m (m.brick b).asks
  asks_entry (Replaced c removed all) may b lt = placed c (record (m.brick c) { records = wiped removed all (m.brick c).records }) (after m (Replaced c removed all)).brick refl (λ h. stays_same m (m.brick c).asks) b lt
