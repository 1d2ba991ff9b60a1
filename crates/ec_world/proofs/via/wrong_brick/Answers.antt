use Rattle.std.proofs.Common.{Bool, None, Some, ap, length, refl, sym}
use Rattle.ec_attr.specs.Bricks.{bricks}
use Rattle.ec_world.specs.Refusals.{wrong_brick}
use Rattle.ec_world.proofs.Counting.{as_many, others}
use Rattle.ec_world.proofs.via.wrong_brick.Goals as goal

pub returns-in-Some : goal.returns-in-Some
returns-in-Some c = (Some c.in-Some.b, c.in-Some.ensures.found, refl)

pub returns-then-len-k : goal.returns-then-len-k
returns-then-len-k c = (None, c.in-None.ensures.found, ap (λ (b : Bool). wrong_brick None b) (sym (as_many c.len.result (length (bricks c.args.via)) c.k.result c.args.geometry.now.r c.args.geometry.now.n c.len.ensures.value c.k.ensures.value c.if-len-k.true)))

pub returns-else-len-k : goal.returns-else-len-k
returns-else-len-k c = (None, c.in-None.ensures.found, ap (λ (b : Bool). wrong_brick None b) (sym (others c.len.result (length (bricks c.args.via)) c.k.result c.args.geometry.now.r c.args.geometry.now.n c.len.ensures.value c.k.ensures.value c.if-len-k.false)))
