-- What holds of the grammar of volume files.
use Rattle.std.specs.Prelude.{◌≡◌, ◌↔◌, ℕ, false, List, Some, ◌⊎◌}
use Rattle.ec_volfile.specs.declared.fault.VolumeFault.{VolumeFault}
use Rattle.ec_volfile.specs.declared.volume.Volume.{Volume}
use Rattle.ec_volfile.specs.Outline.{Outline, outline}
use Rattle.ec_volfile.specs.Grammar.{is_passed, IsVolumeFile}
use Rattle.ec_volfile.specs.Faults.{IsFirstFault}
use Rattle.ec_volfile.specs.Statements.{Statement, Says, statement_of}

pub record VolumeFileLaws : Type 0 where
  -- a file is in the grammar or has a first fault, and not both
  pub either : (bytes : List ℕ) → ((o : Outline) × IsVolumeFile bytes o) ⊎ ((n : ℕ) × (e : VolumeFault) × IsFirstFault bytes n e)
  pub apart : (bytes : List ℕ) (o : Outline) (n : ℕ) (e : VolumeFault) → IsVolumeFile bytes o → IsFirstFault bytes n e → ⊥
  -- it has one meaning, or one first fault
  pub one_meaning : (bytes : List ℕ) (o p : Outline) → IsVolumeFile bytes o → IsVolumeFile bytes p → o ≡ p
  pub one_fault : (bytes : List ℕ) (n m : ℕ) (e f : VolumeFault) → IsFirstFault bytes n e → IsFirstFault bytes m f → (n ≡ m) × (e ≡ f)
  -- what a line says is by its words
  pub says : (line : List ℕ) (st : Statement) → Says line st ↔ ((is_passed line ≡ false) × (statement_of line ≡ Some st))
  -- volumes that say the same are equal
  pub same : (v w : Volume) → outline v ≡ outline w → v ≡ w
