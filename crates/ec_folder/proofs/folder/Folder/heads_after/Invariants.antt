use Rattle.std.proofs.Common.{IfSome}
use Rattle.ec_store.specs.Reads.{IsAbove}
use Rattle.ec_folder.proofs.folder.Folder.heads_after.Given as goal

abbrev pub invariant-loop-entry : goal.invariant-loop-entry
invariant-loop-entry g l = IfSome l.least (λ n. IsAbove l.after n.0)
