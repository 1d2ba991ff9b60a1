use Rattle.ec_write.specs.Filled.{AreFilled}
use Rattle.ec_write.proofs.fill.new_chunks.Given as goal

abbrev pub invariant-loop-m : goal.invariant-loop-m
invariant-loop-m l = record {
  filled : AreFilled l.k l.off l.bytes l.size l.front l.back l.m l.chunks.items;
}
