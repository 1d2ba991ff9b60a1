use Rattle.std.proofs.Common.{rules}
use Rattle.std.proofs.lemmas.Fn.{filter_same}
use Rattle.ec_locks.specs.Table.{stays}
use Rattle.ec_locks.proofs.table.retain_staying.Goals as goal

pub returns : goal.returns
returns c = filter_same _ (stays c.args.leaving.now) _ (λ x r g t. search rules) _ _ c.retain.ensures.filtered
