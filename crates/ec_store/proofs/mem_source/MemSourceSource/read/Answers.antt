use Rattle.std.proofs.Common.{rules}
use Rattle.ec_store.proofs.Rests.{rest_splits, rest_ends}
use Rattle.ec_store.proofs.mem_source.MemSourceSource.read.Goals as goal

pub returns-clause-bytes : goal.returns-clause-bytes
returns-clause-bytes c = (search (rules, rest_splits), search (rules, rest_ends))
