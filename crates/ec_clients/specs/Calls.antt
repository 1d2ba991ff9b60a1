-- When clients are as a ledger says.
use Rattle.std.specs.Prelude.{◌≡◌, ◌≢◌, ℕ, ◌<◌, true, false, is_some, Option, Some, None, List, [], slice_get}
use Rattle.ec_wire.specs.declared.message.Body.TheVariants.{ToBrick}
use Rattle.ec_wire.specs.declared.message.Message.{Message}
use Rattle.ec_wire.specs.declared.op.Op.{Op}
use Rattle.ec_wire.specs.declared.request.Request.{Request}
use Rattle.ec_conduct.specs.Account.{Account, Wait}
use Rattle.ec_conduct.specs.Conduct.{Keeps}
use Rattle.ec_conduct.specs.Given.{Given}
use Rattle.ec_conduct.specs.Opened.{account}
use Rattle.ec_conduct.specs.Own.{Own}
use Rattle.ec_conduct.specs.Table.{IsByTable, Step}
use Rattle.ec_history.specs.Run.{Asker}
use Rattle.ec_txn.specs.Steps.{number_of}
use Rattle.ec_txn.specs.declared.ctx.Ctx.{Ctx}
use Rattle.ec_clients.specs.Ledger.{Ledger}
use Rattle.ec_clients.specs.Views.{is_dead_at, is_released, slots_of}
use Rattle.ec_clients.specs.declared.clients.Clients.{Clients}
use Rattle.ec_clients.specs.declared.clients.Running.{Running}
use Rattle.ec_clients.specs.declared.options.Options.{Options}

-- what call a of a client is begun with, under the volume's options
abbrev pub begun_with : Options → Op → ℕ → Given
begun_with o op child = record { geometry = o.geometry; op = op; child = child; kept = None; cache = [] }

abbrev pub ctx_of : Options → ℕ → ℕ → ℕ → Ctx
ctx_of o a client child = record { geometry = o.geometry; call = a; client = client; policy = o.policy; window = o.window; child = record { 0 = child }; eager = o.eager }

-- own entries are by the table that these tell
abbrev pub tabled : {P : Type 0} → (Ctx → Given → Step P → Type 0) → (Ctx → P → Account → Step P → Type 0) → Ctx → Given → List Own → Type 0
tabled {P} begins goes x given es = (stage : Option P) × IsByTable (begins x) (goes x) given es stage

abbrev pub request_message : ℕ → ℕ → ℕ → ℕ → Request → Message
request_message i call client brick q = record { no = i; call = call; client = client; brick = brick; body = ToBrick q }

-- the account of call a waits for those requests of it that are waited for
pub record Waits (said : ℕ → Option Message) (awaits : ℕ → Option ℕ) (a client : ℕ) (c : Account) : Type 0 where
  pub same : (b : ℕ) → awaits b ≡ number_of (c.waits b)
  pub sent : (b : ℕ) (w : Wait) → c.waits b ≡ Some w → said w.number ≡ Some (request_message w.number a client b w.request)

-- A call that was made: its own entries keep the conduct.
pub record IsMade (o : Options) (said : ℕ → Option Message) (l : Ledger) (a : ℕ) (asker : Asker) : Type 0 where
  pub child : ℕ
  pub begun : l.given a ≡ Some (begun_with o asker.op child)
  pub conduct : Keeps (begun_with o asker.op child) (l.own a)
  pub waits : l.answered a ≡ false → Waits said (l.awaits a) a asker.client (account (begun_with o asker.op child) (l.own a))

-- a call number that isn't used
pub record IsUnmade (l : Ledger) (a : ℕ) : Type 0 where
  pub asker : l.asker a ≡ None
  pub given : l.given a ≡ None
  pub answered : l.answered a ≡ false
  pub own : l.own a ≡ []
  pub awaits : (b : ℕ) → l.awaits a b ≡ None

-- An unanswered call of client j stands for the own entries in the ledger.
pub record IsRunning {C : Type 0} (stands : Ctx → Given → C → List Own → Type 0) (o : Options) (l : Ledger) (j : ℕ) (r : Running C) : Type 0 where
  pub asker : Asker
  pub made : l.asker r.number ≡ Some asker
  pub of_client : asker.client ≡ j
  pub unanswered : l.answered r.number ≡ false
  pub child : ℕ
  pub begun : l.given r.number ≡ Some (begun_with o asker.op child)
  pub meets : stands (ctx_of o r.number j child) (begun_with o asker.op child) r.call (l.own r.number)

-- An answered call went by its table; `call` is what stood for its own entries in the end.
pub record HasEnded {C : Type 0} (stands : Ctx → Given → C → List Own → Type 0) (by_table : Ctx → Given → List Own → Type 0) (o : Options) (l : Ledger) (a : ℕ) (asker : Asker) : Type 0 where
  pub child : ℕ
  pub begun : l.given a ≡ Some (begun_with o asker.op child)
  pub tabled : by_table (ctx_of o a asker.client child) (begun_with o asker.op child) (l.own a)
  pub call : C
  pub stood : stands (ctx_of o a asker.client child) (begun_with o asker.op child) call (l.own a)
  pub over : is_some (account (begun_with o asker.op child) (l.own a)).answer ≡ true

-- The unanswered calls are those in their clients' slots; `out` is one that is out of its slot, while it takes a step.
pub record OfSlots {C : Type 0} (stands : Ctx → Given → C → List Own → Type 0) (by_table : Ctx → Given → List Own → Type 0) (o : Options) (slots : List (Option (Running C))) (out : Option ℕ) (l : Ledger) : Type 0 where
  pub runs : (j : ℕ) (r : Running C) → slice_get slots j ≡ Some (Some r) → IsRunning stands o l j r × (out ≢ Some r.number)
  pub unanswered : (a : ℕ) (asker : Asker) → l.asker a ≡ Some asker → l.answered a ≡ false → out ≢ Some a → (r : Running C) × (slice_get slots asker.client ≡ Some (Some r)) × (r.number ≡ a)
  pub ended : (a : ℕ) (asker : Asker) → l.asker a ≡ Some asker → l.answered a ≡ true → HasEnded stands by_table o l a asker

-- All calls that were made, by their numbers.
pub record OfCalls (o : Options) (said : ℕ → Option Message) (l : Ledger) : Type 0 where
  pub made : (a : ℕ) (asker : Asker) → l.asker a ≡ Some asker → IsMade o said l a asker
  pub given : (a : ℕ) (given : Given) → l.given a ≡ Some given → is_some (l.asker a) ≡ true
  pub later : (a : ℕ) → l.asker a ≡ None → IsUnmade l a
  pub range : (a : ℕ) → l.calls < a → l.asker a ≡ None
  pub no_grants : (j : ℕ) → l.kept j ≡ None
  pub no_stripes : (j : ℕ) → l.cache j ≡ []

-- The clients are as the ledger says, and as the messages that were sent.
pub record OfClients {C : Type 0} (stands : Ctx → Given → C → List Own → Type 0) (by_table : Ctx → Given → List Own → Type 0) (c : Clients C) (out : Option ℕ) (said : ℕ → Option Message) (l : Ledger) : Type 0 where
  pub count : l.calls ≡ c.calls
  pub gfid : l.next_gfid ≡ c.next_gfid
  pub dead : (j : ℕ) → l.dead j ≡ is_dead_at c j
  pub released : (i : ℕ) → l.let_go i ≡ is_released c i
  pub calls : OfCalls c.options said l
  pub slots : OfSlots stands by_table c.options (slots_of c) out l
