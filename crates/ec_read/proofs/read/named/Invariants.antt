use Rattle.std.proofs.Common.{◌≡◌, ℕ, ◌&&◌, nat_lt}
use Rattle.ec_attr.specs.Bricks.{is_in}
use Rattle.ec_read.proofs.read.named.Given as goal

abbrev pub invariant-loop-brick : goal.invariant-loop-brick
invariant-loop-brick l = (x : ℕ) → is_in l.bricks x ≡ (nat_lt x l.brick && (is_in l.group x && is_in l.via x))
