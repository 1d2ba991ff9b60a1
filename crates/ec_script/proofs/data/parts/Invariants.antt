use Rattle.std.proofs.Common.{◌≡◌, ◌<◌, ◌+◌, ◌^◌, List, ℕ, length}
use Rattle.std.specs.Prelude.{nat_eq, IfSome}
use Rattle.std.specs.List.{slice_split}
use Rattle.std.specs.Option.{option_map}
use Rattle.ec_script.specs.Data.{Holds, parts_bytes}
use Rattle.ec_script.specs.Words.{pieces, rest_len}
use Rattle.ec_script.proofs.DataLemmas.{with_front}
use Rattle.ec_script.proofs.data.parts.Given as goal

-- All bytes so far, and those of the rest.
abbrev pub invariant-loop-rest : goal.invariant-loop-rest
invariant-loop-rest l = (all : List ℕ)
    × Holds l.bulky l.bytes.items all
    × (parts_bytes l.fn.place (slice_split (λ b. nat_eq b 43) l.text) ≡ with_front all (parts_bytes l.place (pieces (λ b. nat_eq b 43) (option_map (λ rest. rest.now) l.rest))))
    × IfSome l.rest (λ rest. l.place + length rest.now < 2 ^ 63)

abbrev pub decreases-loop-rest : goal.decreases-loop-rest
decreases-loop-rest l = rest_len (option_map (λ rest. rest.now) l.rest)
