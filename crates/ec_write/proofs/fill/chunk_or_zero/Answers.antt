use Rattle.std.proofs.Common.{arith}
use Rattle.ec_write.proofs.Filling.{no_chunk}
use Rattle.ec_write.proofs.fill.chunk_or_zero.Goals as goal

pub returns-else-j-stripe : goal.returns-else-j-stripe
returns-else-j-stripe c = no_chunk c.args.stripe.now c.args.j c.zero.result (let n = c.if-j-stripe.false in omega (arith, n)) c.zero.ensures.value
