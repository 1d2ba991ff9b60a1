use Rattle.std.proofs.Common.{arith}
use Rattle.std.proofs.Math.Path.{fun_ext}
use Rattle.ec_attr.specs.Bricks.{is_in}
use Rattle.ec_attr.proofs.Sets.{most}
use Rattle.ec_script.proofs.rounds.turn.Goals as goal

pub overflow_add-len : goal.overflow_add-len
overflow_add-len c = omega (arith, most 31 (is_in c.args.stopped.now))

pub returns-then-len-k-clause-after : goal.returns-then-len-k-clause-after
returns-then-len-k-clause-after c = fun_ext c.plus.ensures.members
