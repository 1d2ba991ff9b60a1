-- Why there is no report.
use Rattle.std.specs.Prelude.{ℕ}
use Rattle.ec_store.specs.declared.store.StoreFault.{StoreFault}
use Rattle.ec_store.specs.declared.store.StoreFault.TheVariants.{Failed, NoMemory as StoreFull}
use Rattle.ec_report.specs.declared.fault.CheckFault.{CheckFault}
use Rattle.ec_report.specs.declared.fault.CheckFault.TheVariants.{Store, NoMemory}

-- the fault of brick b's store
abbrev pub fault_of : ℕ → StoreFault → CheckFault
fault_of b Failed = Store b
fault_of b StoreFull = NoMemory
