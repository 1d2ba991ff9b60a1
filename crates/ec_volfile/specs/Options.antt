-- The options of a disperse section, and the values that each can have.
use Rattle.std.specs.Prelude.{ℕ, Bool, true, false, ◌||◌, ◌&&◌, min, List, Option, Some, None, option_map, Result, Ok, Err, bytes_eq, codes, nat_le, if◌then◌else◌}
use Rattle.ec_attr.specs.declared.policy.Policy.{Policy}
use Rattle.ec_attr.specs.declared.policy.Policy.TheVariants.{RoundRobin, GfidHash}
use Rattle.ec_volfile.specs.declared.volume.Kernel.{Kernel}
use Rattle.ec_volfile.specs.declared.volume.Kernel.TheVariants.{Plain, Fused}
use Rattle.ec_volfile.specs.declared.options.Key.{Key}
use Rattle.ec_volfile.specs.declared.options.Key.TheVariants.{Redundancy, ReadPolicy, EagerLock, StripeCache, HealWindow, CpuExtensions, CodeRows}
use Rattle.ec_volfile.specs.declared.options.Options.{Options}
use Rattle.ec_volfile.specs.declared.fault.VolumeFault.{VolumeFault}
use Rattle.ec_volfile.specs.declared.fault.VolumeFault.TheVariants.{Twice, BadValue}
use Rattle.ec_volfile.specs.Numbers.{number_of}

-- the option that a word names
unfoldable pub key_of : List ℕ → Option Key
key_of word =
    if bytes_eq word (codes "redundancy") then Some Redundancy
    else (if bytes_eq word (codes "read-policy") then Some ReadPolicy
    else (if bytes_eq word (codes "eager-lock") then Some EagerLock
    else (if bytes_eq word (codes "stripe-cache") then Some StripeCache
    else (if bytes_eq word (codes "self-heal-window-size") then Some HealWindow
    else (if bytes_eq word (codes "cpu-extensions") then Some CpuExtensions
    else (if bytes_eq word (codes "code-rows") then Some CodeRows else None))))))

-- what each option's values mean

unfoldable pub policy_of : List ℕ → Option Policy
policy_of value = if bytes_eq value (codes "round-robin") then Some RoundRobin else (if bytes_eq value (codes "gfid-hash") then Some GfidHash else None)

abbrev pub says_on : List ℕ → Bool
says_on value = bytes_eq value (codes "on") || bytes_eq value (codes "yes") || bytes_eq value (codes "true") || bytes_eq value (codes "enable") || bytes_eq value (codes "1")

abbrev pub says_off : List ℕ → Bool
says_off value = bytes_eq value (codes "off") || bytes_eq value (codes "no") || bytes_eq value (codes "false") || bytes_eq value (codes "disable") || bytes_eq value (codes "0")

unfoldable pub eager_of : List ℕ → Option Bool
eager_of value = if says_on value then Some true else (if says_off value then Some false else None)

-- above 10 it is taken as 10
unfoldable pub cache_of : List ℕ → Option ℕ
cache_of value = option_map (λ n. min n 10) (number_of value)

abbrev pub window_from : Option ℕ → Option ℕ
window_from None = None
window_from (Some n) = if nat_le 1 n && nat_le n 1024 then Some n else None

unfoldable pub window_of : List ℕ → Option ℕ
window_of value = window_from (number_of value)

unfoldable pub kernel_of : List ℕ → Kernel
kernel_of value = if bytes_eq value (codes "none") then Plain else Fused

unfoldable pub systematic_of : List ℕ → Option Bool
systematic_of value = if bytes_eq value (codes "plain") then Some false else (if bytes_eq value (codes "systematic") then Some true else None)

-- An option is set once, to a value that it can have.
abbrev pub once : {A : Type 0} → Option A → Option A → Result A VolumeFault
once (Some old) value = Err Twice
once None None = Err BadValue
once None (Some x) = Ok x

abbrev pub set_by : {A B : Type 0} → (A → B) → Result A VolumeFault → Result B VolumeFault
set_by f (Ok x) = Ok (f x)
set_by f (Err e) = Err e

-- the options after this one is set to a value
unfoldable pub set : Options → Key → List ℕ → Result Options VolumeFault
set o Redundancy value = set_by (λ x. record o { redundancy = Some x }) (once o.redundancy (number_of value))
set o ReadPolicy value = set_by (λ x. record o { policy = Some x }) (once o.policy (policy_of value))
set o EagerLock value = set_by (λ x. record o { eager = Some x }) (once o.eager (eager_of value))
set o StripeCache value = set_by (λ x. record o { cache = Some x }) (once o.cache (cache_of value))
set o HealWindow value = set_by (λ x. record o { window = Some x }) (once o.window (window_of value))
set o CpuExtensions value = set_by (λ x. record o { kernel = Some x }) (once o.kernel (Some (kernel_of value)))
set o CodeRows value = set_by (λ x. record o { systematic = Some x }) (once o.systematic (systematic_of value))
