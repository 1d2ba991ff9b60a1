-- What the conduct gives of each message, seen from one gfid: a request of the machine names a lock of the call's turn there.
use Rattle.std.specs.Prelude.{◌≡◌, ℕ, ◌^◌, ◌<◌, ◌≤◌, Bool, true, false, Option, Some}
use Rattle.ec_attr.specs.Marks.{is_marked}
use Rattle.ec_attr.specs.declared.kind.Domain.TheVariants.{Heal}
use Rattle.ec_wire.specs.declared.message.Body.TheVariants.{ToBrick}
use Rattle.ec_wire.specs.declared.message.Message.{Message}
use Rattle.ec_wire.specs.declared.request.Request.{Request}
use Rattle.ec_wire.specs.declared.request.Request.TheVariants.{Ask, Query, PreOp, PostOp, Clear, Mark, Unmark}
use Rattle.ec_law_turns.specs.Follows.{IsLock}

-- message i of call a to brick b names the lock by ask n, which is of its turn
pub record Names (g : ℕ) (said : ℕ → Option Message) (of : ℕ → ℕ) (a b i n : ℕ) : Type 0 where
  pub lock : IsLock g said a b n
  pub turn : of n ≡ of i
  pub begun : 2 ^ 61 ≤ of i

-- No Heal lock is asked for, and no record is marked.
abbrev pub IsSound : ℕ → (ℕ → Option Message) → (ℕ → ℕ) → (ℕ → Bool) → ℕ → ℕ → ℕ → Request → Type 0
IsSound g said of moment a b i (Ask x Heal kind) = ⊥
IsSound g said of moment a b i (Mark x n heal head) = x.0 ≡ g → ⊥
IsSound g said of moment a b i (Unmark x n at dirty) = x.0 ≡ g → ⊥
IsSound g said of moment a b i (Query x n) = x.0 ≡ g → Names g said of a b i n × (moment (of i) ≡ true)
IsSound g said of moment a b i (PreOp x n at dirty) = x.0 ≡ g → Names g said of a b i n × (0 < dirty)
IsSound g said of moment a b i (PostOp x n at version size attr) = x.0 ≡ g → Names g said of a b i n
IsSound g said of moment a b i (Clear x n at) = x.0 ≡ g → Names g said of a b i n × (is_marked at ≡ false)
IsSound g said of moment a b i q = Unit {0}

-- every message of a log
abbrev pub AreSound : ℕ → (ℕ → Option Message) → (ℕ → ℕ) → (ℕ → Bool) → Type 0
AreSound g said of moment = (i : ℕ) (x : Message) (q : Request) → said i ≡ Some x → x.body ≡ ToBrick q → IsSound g said of moment x.call x.brick i q
