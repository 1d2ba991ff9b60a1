-- Why a store isn't opened, where the store itself is why.
use Rattle.std.specs.Prelude.{Bool, true, false, Result, Ok, Err}
use Rattle.ec_store.specs.declared.store.StoreFault.{StoreFault}
use Rattle.ec_store.specs.declared.store.StoreFault.TheVariants.{Failed as StoreFailed, NoMemory as StoreFull}
use Rattle.ec_brick.specs.declared.start_fault.StartFault.{StartFault}
use Rattle.ec_brick.specs.declared.start_fault.StartFault.TheVariants.{Failed, Config as OtherConfig, Head as BadHead, NoMemory}

abbrev pub of_store : StoreFault → StartFault
of_store StoreFailed = Failed
of_store StoreFull = NoMemory

abbrev pub is_failure : StartFault → Bool
is_failure Failed = true
is_failure (OtherConfig c) = false
is_failure (BadHead g) = false
is_failure NoMemory = false

abbrev pub start_failed : {T : Type 0} → Result T StartFault → Bool
start_failed (Ok x) = false
start_failed (Err e) = is_failure e

-- whether the fault is the store's own or want of memory, and of no head
abbrev pub is_of_store : StartFault → Bool
is_of_store Failed = true
is_of_store (OtherConfig c) = false
is_of_store (BadHead g) = false
is_of_store NoMemory = true
