-- What was done is an outcome of the table.
use Rattle.std.specs.Prelude.{◌≡◌, ◌⊎◌, ℕ, ◌≤◌, Bool, true, false, cond, Option, Some, None, Result, Ok, []}
use Rattle.ec_wire.specs.declared.reply.Reply.{Reply}
use Rattle.ec_wire.specs.declared.reply.Reply.TheVariants.{Fault}
use Rattle.ec_wire.specs.declared.request.Request.{Request}
use Rattle.ec_wire.specs.declared.request.Request.TheVariants.{Ask, Release}
use Rattle.ec_brick.specs.Known.{IsKnownState}
use Rattle.ec_brick.specs.Replies.{Replies}
use Rattle.ec_brick.specs.State.{State}
use Rattle.ec_brick.specs.Step.{Failing, Fine, Before, Within, Out, torn}
use Rattle.ec_brick.specs.declared.brick.Brick.{Brick}
use Rattle.ec_brick.specs.declared.effects.Effects.{Effects}

abbrev pub is_fault : Option Reply → Bool
is_fault (Some Fault) = true
is_fault reply = false

abbrev pub failing_at : Option ℕ → Failing
failing_at None = Before
failing_at (Some v) = Within

-- when the store failed, as reply and version tell: in the work where a head was read. Where none was there the work
-- changes nothing either way.
abbrev pub failing_of : Option Reply → Option ℕ → Failing
failing_of reply version = cond (is_fault reply) (failing_at version) Fine

-- the effects and the state after are those of the outcome, as far as that is known
pub record Meets (out : Out) (e : Effects) (now : State) : Type 0 where
  pub state : IsKnownState out.brick now
  pub says : Replies out.says e.reply
  pub same_version : e.version ≡ out.version
  pub same_lets_in : e.granted ≡ out.lets_in

-- whether a request is for the lock table alone
abbrev pub is_locking : Request → Bool
is_locking (Ask g domain kind) = true
is_locking (Release g n) = true
is_locking q = false

-- what doesn't rest on the records: the locks, who is let in, and what an Ask and a Release are replied
pub record MeetsLocks (out : Out) (q : Request) (e : Effects) (now : State) : Type 0 where
  pub same_config : now.config ≡ out.brick.config
  pub same_up : now.up ≡ out.brick.up
  pub same_asks : now.asks ≡ out.brick.asks
  pub same_lets_in : e.granted ≡ out.lets_in
  pub says : is_locking q ≡ true → Replies out.says e.reply

-- a request that the fence refuses: this reply, and brick and store are as before
pub record IsFencedOff {S E : Type 0} (y : Reply) (old new : Brick) (store_old store_new : S) (result : Result Effects E) : Type 0 where
  pub refused : result ≡ Ok (record { reply = Some y; version = None; granted = [] })
  pub same_brick : new ≡ old
  pub same_store : store_new ≡ store_old

-- the version that was read and the state after are those of the table's torn write
pub record IsTorn (b : State) (f : Failing) (q : Request) (count : ℕ) (version : Option ℕ) (now : State) : Type 0 where
  pub same_version : version ≡ (torn b f q count).version
  pub same_state : now ≡ (torn b f q count).brick

-- All of the first bytes are written. Where the count of faults rose it may be that no head was read, or that any front
-- part of them stands.
abbrev pub TearsOff : Type 0 → State → Request → ℕ → Option ℕ → State → Type 0
TearsOff Risen b q count version now = IsTorn b Fine q count version now ⊎ (Risen × (IsTorn b Before q count version now ⊎ ((k : ℕ) × (k ≤ count) × IsTorn b Fine q k version now)))
