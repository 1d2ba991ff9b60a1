-- The faults of a volume file, line by line.
use Rattle.std.specs.Prelude.{◌≡◌, ◌<◌, ◌≤◌, ◌^◌, ℕ, ◌+◌, Bool, true, false, ◌||◌, ◌&&◌, List, [], ◌∷◌, ◌++◌, length, Option, Some, None, is_some, is_none, unwrap_or, Result, Ok, Err, bytes_eq, if◌then◌else◌, ◌⊎◌}
use Rattle.ec_volfile.specs.declared.options.Key.{Key}
use Rattle.ec_volfile.specs.declared.options.Key.TheVariants.{Redundancy, ReadPolicy, EagerLock, StripeCache, HealWindow, CpuExtensions, CodeRows}
use Rattle.ec_volfile.specs.declared.options.Options.{Options}
use Rattle.ec_volfile.specs.declared.fault.VolumeFault.{VolumeFault}
use Rattle.ec_volfile.specs.declared.fault.VolumeFault.TheVariants.{TooLong, BadLine, Twice, BadValue, TwoDisperse, NoRedundancy, BadGeometry, NoMemory}
use Rattle.ec_volfile.specs.declared.state.Place.{Place}
use Rattle.ec_volfile.specs.declared.state.Place.TheVariants as place
use Rattle.ec_volfile.specs.Lines.{lines}
use Rattle.ec_volfile.specs.Numbers.{number_of}
use Rattle.ec_volfile.specs.Options.{key_of, policy_of, eager_of, cache_of, window_of, systematic_of}
use Rattle.ec_volfile.specs.Sections.{Front, repeats, is_geometry, subvolumes_or, start, finish}
use Rattle.ec_volfile.specs.Grammar.{Sets, Names, is_passed, disperse_type}
use Rattle.ec_volfile.specs.Statements.{Statement, Begins, HasType, Holds, Ends, statement_of, advance}

-- the option is set already
abbrev pub is_set : Options → Key → Bool
is_set o Redundancy = is_some o.redundancy
is_set o ReadPolicy = is_some o.policy
is_set o EagerLock = is_some o.eager
is_set o StripeCache = is_some o.cache
is_set o HealWindow = is_some o.window
is_set o CpuExtensions = is_some o.kernel
is_set o CodeRows = is_some o.systematic

-- the value is none that the option can have
abbrev pub is_bad : Key → List ℕ → Bool
is_bad Redundancy value = is_none (number_of value)
is_bad ReadPolicy value = is_none (policy_of value)
is_bad EagerLock value = is_none (eager_of value)
is_bad StripeCache value = is_none (cache_of value)
is_bad HealWindow value = is_none (window_of value)
is_bad CpuExtensions value = false
is_bad CodeRows value = is_none (systematic_of value)

abbrev pub on_key : Option Key → (Key → Bool) → Bool
on_key None test = false
on_key (Some k) test = test k

-- The causes, each where a statement stands at a place.

-- the statement has its place elsewhere
abbrev pub is_misplaced : Place → Statement → Bool
is_misplaced place.Outside (Begins name) = false
is_misplaced (place.Head name) (HasType type) = false
is_misplaced (place.Body s) (Holds item) = false
is_misplaced (place.Body s) Ends = false
is_misplaced p st = true

-- a second `subvolumes`, or in the disperse section a named option again or a name that comes twice
abbrev pub is_twice : Place → Statement → Bool
is_twice (place.Body s) (Holds (Names names)) = is_some s.subvolumes || (s.disperse && repeats names)
is_twice (place.Body s) (Holds (Sets key value)) = s.disperse && on_key (key_of key) (is_set s.options)
is_twice p st = false

-- in the disperse section a named option's value isn't in the table
abbrev pub is_bad_value : Place → Statement → Bool
is_bad_value (place.Body s) (Holds (Sets key value)) = s.disperse && on_key (key_of key) (λ k. is_bad k value)
is_bad_value p st = false

-- a second section has the type `cluster/disperse`
abbrev pub is_second : Bool → Statement → Bool
is_second disperse (HasType type) = disperse && bytes_eq type disperse_type
is_second disperse st = false

-- the disperse section ends without `redundancy`
abbrev pub lacks_redundancy : Place → Statement → Bool
lacks_redundancy (place.Body s) Ends = s.disperse && is_none s.options.redundancy
lacks_redundancy p st = false

-- the disperse section ends with n subvolumes and redundancy r
abbrev pub shape_at : Place → Statement → Option (ℕ × ℕ)
shape_at (place.Body s) Ends = if s.disperse then Some ((subvolumes_or s.subvolumes).count, unwrap_or s.options.redundancy 0) else None
shape_at p st = None

abbrev pub shape_fault : Option (ℕ × ℕ) → Option VolumeFault
shape_fault None = None
shape_fault (Some shape) = if is_geometry shape.0 shape.1 then None else Some (BadGeometry shape.0 shape.1)

-- the first of the table whose cause is there
abbrev pub first_fault : Front → Statement → Option VolumeFault
first_fault f st =
    if is_misplaced f.place st then Some BadLine
    else (if is_twice f.place st then Some Twice
    else (if is_bad_value f.place st then Some BadValue
    else (if is_second f.disperse st then Some TwoDisperse
    else (if lacks_redundancy f.place st then Some NoRedundancy
    else shape_fault (shape_at f.place st)))))

abbrev pub fault_by : Front → Option Statement → Option VolumeFault
fault_by f None = Some BadLine
fault_by f (Some st) = first_fault f st

-- the fault that a line is
abbrev pub line_fault : Front → List ℕ → Option VolumeFault
line_fault f line = if is_passed line then None else fault_by f (statement_of line)

-- where lines lead that have no fault
abbrev pub front_after : Front → List (List ℕ) → Result Front VolumeFault
front_after f [] = Ok f
front_after f (line ∷ ls) = elim (advance f line) [ Ok g ↦ front_after g ls | Err e ↦ Err e ]

-- a line has this fault, and the lines before it have none
pub record IsLineFault (bytes : List ℕ) (n : ℕ) (fault : VolumeFault) : Type 0 where
  pub before : List (List ℕ)
  pub line : List ℕ
  pub rest : List (List ℕ)
  pub all : lines bytes ≡ before ++ line ∷ rest
  pub number : n ≡ length before + 1
  pub front : Front
  pub leads : front_after start before ≡ Ok front
  pub refused : line_fault front line ≡ Some fault

-- no line has a fault, and the file ends within a section, or without a disperse section
pub record IsEndFault (bytes : List ℕ) (n : ℕ) (fault : VolumeFault) : Type 0 where
  pub number : n ≡ length (lines bytes)
  pub front : Front
  pub leads : front_after start (lines bytes) ≡ Ok front
  pub refused : finish front ≡ Err fault

-- the file's first fault, with its line
abbrev pub IsFirstFault : List ℕ → ℕ → VolumeFault → Type 0
IsFirstFault bytes n fault =
    ((2 ^ 20 < length bytes) × (n ≡ 0) × (fault ≡ TooLong))
    ⊎ ((length bytes ≤ 2 ^ 20) × (IsLineFault bytes n fault ⊎ IsEndFault bytes n fault))

-- the same, but for want of memory, beside which the number tells nothing
abbrev pub IsFirstFaultOrNoMemory : List ℕ → ℕ → VolumeFault → Type 0
IsFirstFaultOrNoMemory bytes n NoMemory = Unit {0}
IsFirstFaultOrNoMemory bytes n fault = IsFirstFault bytes n fault
