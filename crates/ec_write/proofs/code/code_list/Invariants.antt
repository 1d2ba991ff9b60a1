use Rattle.ec_write.specs.Filled.{AreListed}
use Rattle.ec_write.proofs.code.code_list.Given as goal

abbrev pub invariant-loop-i : goal.invariant-loop-i
invariant-loop-i g l = record {
  listed : AreListed l.geometry l.brick l.chunks l.i l.list;
}
