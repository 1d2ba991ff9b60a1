use Rattle.ec_run.proofs.VolumeLemmas.{found_refused}
use Rattle.ec_run.proofs.volume.volume_of.Goals as goal

pub returns-clause-refused : goal.returns-clause-refused
returns-clause-refused g c =
    found_refused _ _ c.error_of.result c.in_default.ensures.text (rw c.as_slice.ensures.value at (c.error_of.ensures.refused c.as_slice.result.now c.in-Err-read.ensures.fault))
