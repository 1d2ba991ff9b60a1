use Rattle.std.proofs.Common.{◌≡◌, ◌-◌, ◌*◌, min, length}
use Rattle.ec_conduct.specs.Data.{stripe_byte}
use Rattle.ec_read.specs.Stripes.{IsPart}
use Rattle.ec_read.proofs.decoded.add_stripe.Given as goal

abbrev pub invariant-loop-j : goal.invariant-loop-j
invariant-loop-j l = length l.initial.bytes ≡ min l.end l.place - l.off → IsPart l.off l.end l.place (512 * l.j) (stripe_byte l.stripe) l.initial.bytes l.bytes
