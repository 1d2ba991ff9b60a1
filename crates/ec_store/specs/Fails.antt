-- Which calls of a store in memory fail.
use Rattle.std.specs.Prelude.{ℕ, Bool, nat_eq, if◌then◌else◌, List}
use Rattle.std.specs.List.{list_any}
use Rattle.ec_store.specs.Calls.{names_call, next_count}
use Rattle.ec_store.specs.declared.fails.Fail.{Fail}
use Rattle.ec_store.specs.declared.fails.Fail.TheVariants.{Call, Each}
use Rattle.ec_store.specs.declared.fails.Method.{Method}
use Rattle.ec_store.specs.declared.fails.Method.TheVariants.{Head, PutHead, Remove, ReadChunk, WritePart, SetLength, Name, SetName, PutNames, NamesAfter, HeadsAfter}

-- the place of a method in the list of them all
abbrev pub place_of : Method → ℕ
place_of Head = 0
place_of PutHead = 1
place_of Remove = 2
place_of ReadChunk = 3
place_of WritePart = 4
place_of SetLength = 5
place_of Name = 6
place_of SetName = 7
place_of PutNames = 8
place_of NamesAfter = 9
place_of HeadsAfter = 10

abbrev pub same_method : Method → Method → Bool
same_method a b = nat_eq (place_of a) (place_of b)

-- whether it names the call of a method that comes after so many calls
abbrev pub is_hit : Method → ℕ → Fail → Bool
is_hit method calls (Call number) = names_call number calls
is_hit method calls (Each m) = same_method m method

-- the calls that fail, and how many calls and faults there were
pub record FailingState : Type 0 where
  pub fails : List Fail
  pub calls : ℕ
  pub faults : ℕ

-- whether the next call fails, where it is one of the method
abbrev pub fails_next : FailingState → Method → Bool
fails_next s method = list_any (is_hit method s.calls) s.fails

-- one call more
abbrev pub after_call : FailingState → Method → FailingState
after_call s method = record { fails = s.fails; calls = next_count s.calls; faults = if fails_next s method then next_count s.faults else s.faults }
