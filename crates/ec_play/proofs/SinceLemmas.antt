-- What something to play on was begun with, line by line.
use Rattle.std.proofs.Common.{◌≢◌, ℕ, List, Err, subst, sym}
use Rattle.ec_attr.specs.declared.geometry.Geometry.{Geometry}
use Rattle.ec_store.specs.Records.{Records}
use Rattle.ec_wire.specs.declared.event.Event.{Event}
use Rattle.ec_world.specs.declared.refused.Refused.{Refused}
use Rattle.ec_world.specs.declared.refused.Refused.TheVariants as refused
use Rattle.ec_play.specs.declared.obeying.Stop.{Stop}
use Rattle.ec_play.specs.declared.obeying.Stop.TheVariants as stop
use Rattle.ec_play.specs.declared.status.Status.{Status}
use Rattle.ec_play.specs.declared.status.Status.TheVariants as status
use Rattle.ec_play.specs.Going.{ButForMemory}
use Rattle.ec_play.specs.Meaning.{Fails, Meaning, Refuses}
use Rattle.ec_play.specs.Statuses.{ButForMemoryIn, stop_status}
use Rattle.ec_play.proofs.GoingLemmas.{refuses}

-- what holds of every status
pub in_status : (how : Status) (P : Type 0) → P → ButForMemoryIn how P
in_status status.Done P h = h
in_status (status.BadScript line because) P h = h
in_status (status.BadVolume line because) P h = h
in_status status.BadWords P h = h
in_status status.ReadFault P h = h
in_status status.WriteFault P h = h
in_status (status.WrongBricks because) P h = h
in_status (status.StoreFault b) P h = h
in_status status.NoMemory P h = tt

-- what holds where a line isn't obeyed holds of the script's status
pub in_stop : (line : ℕ) (how : Stop) (P Q : Type 0) → (P → Q) → ButForMemory (Err how) P → ButForMemoryIn (stop_status line how) Q
in_stop line (stop.Bad because) P Q f h = f h
in_stop line stop.WriteFault P Q f h = f h
in_stop line stop.NoMemory P Q f h = tt

-- one line after others
pub since_then : {W : Type 0} (M : Meaning W) (first now new : W) → ((geometry : Geometry) (next : ℕ) → M.since first geometry next → M.since now geometry next) → ((geometry : Geometry) (next : ℕ) → M.since now geometry next → M.since new geometry next)
    → (geometry : Geometry) (next : ℕ) → M.since first geometry next → M.since new geometry next
since_then M first now new before then geometry next h = then geometry next (before geometry next h)

-- a refused event
pub since_refused : {W : Type 0} (M : Meaning W) (Told : Type 0) (s t : W) (before after : List Records) (event : Event) (r : Refused) → r ≢ refused.NoMemory → Fails M Told s t before after event r
    → (geometry : Geometry) (first : ℕ) → M.since s geometry first → M.since t geometry first
since_refused {W} M Told s t before after event r other e geometry first h =
    let same : Refuses M Told s t before after event r = refuses M Told s t before after event r other e in
    subst (λ (x : W). M.since x geometry first) (sym same.same) h
