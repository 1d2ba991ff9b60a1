-- The steps that events take.
use Rattle.std.specs.Prelude.{◌≡◌, ◌⊎◌, ℕ, Bool, Option, List, [], ◌∷◌}
use Rattle.ec_clients.specs.Come.{Come}
use Rattle.ec_history.specs.Run.{Net}
use Rattle.ec_history.specs.Script.{AllFollow, Step}
use Rattle.ec_wire.specs.declared.entry.Entry.{Entry}
use Rattle.ec_wire.specs.declared.entry.Entry.TheVariants.{Executed, GivenUp, Heard, Lost, Torn}

-- one step, of which this is said
abbrev pub OneStep : (Net → Entry → Type 0) → Come → List Step → Type 0
OneStep Is p [] = ⊥
OneStep Is p (s ∷ []) = Is p.net s.named × AllFollow s
OneStep Is p (s ∷ r ∷ steps) = ⊥

-- no step yet, or steps of which this is said
abbrev pub NoneOr : (Come → List Step → Type 0) → Come → List Step → Type 0
NoneOr Of p [] = Unit {0}
NoneOr Of p (s ∷ steps) = Of p (s ∷ steps)

-- message i is delivered
abbrev pub IsDelivery : ℕ → Net → Entry → Type 0
IsDelivery i m e = ((version : Option ℕ) × (failed : Bool) × (e ≡ Executed i version failed)) ⊎ (e ≡ Heard i)

-- it is lost
abbrev pub IsLoss : ℕ → Net → Entry → Type 0
IsLoss i m e = e ≡ Lost i

-- client j gives up brick b's reply to request i
abbrev pub IsGivingUp : ℕ → ℕ → ℕ → Net → Entry → Type 0
IsGivingUp j b i m e = e ≡ GivenUp j b i

-- write i is cut short after so many bytes
abbrev pub IsTear : ℕ → ℕ → Net → Entry → Type 0
IsTear i bytes m e = (version : Option ℕ) × (e ≡ Torn i bytes version)
