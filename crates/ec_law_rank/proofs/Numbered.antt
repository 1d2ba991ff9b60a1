-- Messages have the numbers below the next one, and what is waited for was sent by its call to its brick.
use Rattle.std.proofs.Common.{◌≡◌, ℕ, ◌<◌, Bool, true, false, Option, Some, None, refl}
use Rattle.ec_brick.specs.State.{State}
use Rattle.ec_history.specs.Run.{Net, fresh}
use Rattle.ec_wire.specs.declared.message.Message.{Message}

pub record IsWait (m : Net) (a b i : ℕ) : Type 0 where
  pub message : Message
  pub said : m.said i ≡ Some message
  pub of_call : message.call ≡ a
  pub of_brick : message.brick ≡ b
  pub below : i < m.next

pub record IsNumbered (m : Net) : Type 0 where
  pub numbers : (i : ℕ) (msg : Message) → m.said i ≡ Some msg → msg.no ≡ i
  pub flies : (i : ℕ) → m.flying i ≡ true → i < m.next
  pub waits : (a b i : ℕ) → m.awaits a b ≡ Some i → IsWait m a b i

pub fresh_numbered : (bricks : ℕ → State) → IsNumbered (fresh bricks)
fresh_numbered bricks = record { numbers = λ i msg e. absurd (cc); flies = λ i e. absurd (cc); waits = λ a b i e. absurd (cc) }
