use Rattle.std.proofs.Common.{get_or}
use Rattle.ec_field.specs.Field.{product}
use Rattle.ec_field.specs.Chunk.{element}
use Rattle.ec_field.specs.Code.{chunk_at}
use Rattle.ec_field.proofs.Sums.{sum_none}
use Rattle.ec_bank.proofs.Zero.{zero_element}
use Rattle.ec_bank.proofs.bank.BankRowTimes.row.Goals as goal

pub loop-j-init : goal.loop-j-init
loop-j-init g c = record {
  chunk = c.zero-sum.ensures.chunk;
  elements = λ e h. rw (c.zero-sum.ensures.value, sum_none (λ j. product (get_or c.args.coeffs.now j 0) (element (chunk_at c.args.chunks.now j) e))) (zero_element e h);
}
