-- Worked examples of settling: which entry comes next where two clients have asked brick 0.
use Rattle.std.specs.Prelude.{false, None, List, [], ◌∷◌}
use Rattle.ec_attr.specs.declared.kind.Domain.TheVariants.{Inode}
use Rattle.ec_attr.specs.declared.kind.LockKind.TheVariants.{Shared}
use Rattle.ec_wire.specs.declared.entry.Entry.{Entry}
use Rattle.ec_wire.specs.declared.entry.Entry.TheVariants.{Called, Executed, GivenUp, Lost, Sent, Stopped}
use Rattle.ec_wire.specs.declared.event.Event.TheVariants.{Call}
use Rattle.ec_wire.specs.declared.message.Body.TheVariants.{ToBrick}
use Rattle.ec_wire.specs.declared.op.Op.TheVariants.{Stat}
use Rattle.ec_wire.specs.declared.request.Request.TheVariants.{Ask}
use Rattle.ec_history.specs.Run.{Net, after, fresh, run}
use Rattle.ec_history.specs.RunExample.{idle}
use Rattle.ec_history.specs.Script.{IsCutLogOf, IsSettled, IsSettling}
use Rattle.ec_history.specs.Short.{two}

abbrev pub two_asks : List Entry
two_asks = Called 1 1 (Stat two)
    ∷ Sent (record { no = 1; call = 1; client = 1; brick = 0; body = ToBrick (Ask two Inode Shared) })
    ∷ Called 2 2 (Stat two)
    ∷ Sent (record { no = 2; call = 2; client = 2; brick = 0; body = ToBrick (Ask two Inode Shared) })
    ∷ []

abbrev pub asking : Net
asking = run two_asks (fresh idle)

abbrev pub both_lost : Net
both_lost = run (Lost 1 ∷ Lost 2 ∷ []) asking

pub record SettlingOfTwo : Type 0 where
  -- the lowest message in flight, and no other
  pub lowest : IsSettling asking (Executed 1 None false)
  pub higher : IsSettling asking (Executed 2 None false) → ⊥
  -- it is lost only where its brick is stopped
  pub lost : IsSettling (after asking (Stopped 0)) (Lost 1)
  pub lost_in_vain : IsSettling asking (Lost 1) → ⊥
  -- nobody gives up while a message is in flight, and then the lowest client first
  pub early : IsSettling asking (GivenUp 1 0 1) → ⊥
  pub other_client : IsSettling both_lost (GivenUp 2 0 2) → ⊥
  pub not_settled : IsSettled both_lost → ⊥

-- A call for which memory gives out before its first message is told of.
pub record CutShortCall : Type 0 where
  pub cut_log : IsCutLogOf 3 (fresh idle) [] (Call 1 (Stat two)) (Called 1 1 (Stat two) ∷ [])
  pub other_call : IsCutLogOf 3 (fresh idle) [] (Call 1 (Stat two)) (Called 1 2 (Stat two) ∷ []) → ⊥
