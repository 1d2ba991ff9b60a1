-- The lines that a run whose bricks aren't opened has obeyed.
use Rattle.std.proofs.Common.{ℕ, List, []}
use Rattle.ec_brick.specs.declared.start_fault.StartFault.{StartFault}
use Rattle.ec_brick.specs.declared.start_fault.StartFault.TheVariants as start
use Rattle.ec_play.specs.Taken.{StopsAfter}
use Rattle.ec_run.specs.Starts.{start_status}

pub stops_unopened : (b : ℕ) (fault : StartFault) (rest : List (List ℕ)) → StopsAfter (start_status b fault) [] rest
stops_unopened b start.Failed rest = tt
stops_unopened b (start.Config c) rest = tt
stops_unopened b (start.Head g) rest = tt
stops_unopened b start.NoMemory rest = tt
