-- What a store in memory is to its callers.
use Rattle.std.specs.Prelude.{◌≡◌, Result}
use Rattle.ec_store.specs.Does.{failed}
use Rattle.ec_store.specs.Fails.{FailingState, fails_next, after_call}
use Rattle.ec_store.specs.Memory.{records_of}
use Rattle.ec_store.specs.Records.{Records}
use Rattle.ec_store.specs.declared.fails.Method.{Method}
use Rattle.ec_store.specs.declared.mem_store.MemStore.{MemStore}
use Rattle.ec_store.specs.declared.store.StoreFault.{StoreFault}

-- the records that it keeps
abbrev pub kept_by : MemStore → Records
kept_by s = records_of s.records

-- the calls at which it fails, and how many calls and faults there were
abbrev pub failing_of : MemStore → FailingState
failing_of s = s.failing

-- A call is counted, and fails exactly where the list names it.
pub record FailsByList {T : Type 0} (method : Method) (before now : FailingState) (result : Result T StoreFault) : Type 0 where
  pub exactly : failed result ≡ fails_next before method
  pub counted : now ≡ after_call before method
