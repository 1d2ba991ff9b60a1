use Rattle.std.proofs.Common.{◌≡◌, take}
use Rattle.ec_wire.proofs.answer.Listing.copy.Given as goal

abbrev pub invariant-loop-name : goal.invariant-loop-name
invariant-loop-name l = l.entries.items ≡ take l.name-index l.self
