-- What a call of a store leaves.
use Rattle.std.specs.Prelude.{◌≡◌, ℕ, ◌≤◌, Bool, true, false, List, length, take, Result, Ok, Err, OnOk, OnErr}
use Rattle.ec_store.specs.Causes.{Rose}
use Rattle.ec_store.specs.Records.{Records, wrote}
use Rattle.ec_store.specs.declared.store.StoreFault.{StoreFault}
use Rattle.ec_store.specs.declared.store.StoreFault.TheVariants.{Failed, NoMemory}

abbrev pub is_failure : StoreFault → Bool
is_failure Failed = true
is_failure NoMemory = false

abbrev pub failed : {T : Type 0} → Result T StoreFault → Bool
failed (Ok x) = false
failed (Err e) = is_failure e

-- A call fails only where the count of faults rose. It is said of any error, by the test for failures.
pub record HasFaultCause {T E : Type 0} (failed : Result T E → Bool) (before now : ℕ) (result : Result T E) : Type 0 where
  pub later : before ≤ now
  pub rose : failed result ≡ true → Rose before now

-- the records become `after`, or stay as they were where the call has an error
pub record Does {T E : Type 0} (told_before told_now : Bool) (before now after : Records) (result : Result T E) : Type 0 where
  pub tells : told_now ≡ told_before
  pub ok : OnOk result (told_before ≡ true → now ≡ after)
  pub err : OnErr result (told_before ≡ true → now ≡ before)

-- the bytes are written, after a failure any front part of them
pub record WritesPart {T : Type 0} (told_before told_now : Bool) (before now : Records) (g at : ℕ) (bytes : List ℕ) (result : Result T StoreFault) : Type 0 where
  pub tells : told_now ≡ told_before
  pub ok : OnOk result (told_before ≡ true → now ≡ wrote before g at bytes)
  pub failed : result ≡ Err Failed → told_before ≡ true → (k : ℕ) × (k ≤ length bytes) × (now ≡ wrote before g at (take k bytes))
  pub memory : result ≡ Err NoMemory → told_before ≡ true → now ≡ before
