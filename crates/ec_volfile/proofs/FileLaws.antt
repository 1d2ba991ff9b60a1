-- The laws of volume files.
use Rattle.std.proofs.Common.{◌≡◌, ◌<◌, ◌≤◌, ℕ, ◌+◌, ◌*◌, List, Result, Ok, Err, refl, sym, ap, ◌∙◌, ◌⊎◌, inl, inr}
use Rattle.std.proofs.Math.Bridge.{le_prop}
use mathlib.Core.HLevel.{is_prop→PathP}
use Rattle.ec_attr.specs.declared.geometry.Geometry.{Geometry}
use Rattle.ec_volfile.specs.declared.fault.VolumeFault.{VolumeFault}
use Rattle.ec_volfile.specs.declared.volume.Volume.{Volume}
use Rattle.ec_volfile.specs.declared.fault.VolumeFault.TheVariants.{TooLong, BadLine, Twice, BadValue, TwoDisperse, NoRedundancy, BadGeometry, NoEnd, NoDisperse, NoMemory}
use Rattle.ec_volfile.specs.Outline.{Outline, outline}
use Rattle.ec_volfile.specs.Reading.{FailsAt, Reads, IsReadAs}
use Rattle.ec_volfile.specs.Sections.{outcome}
use Rattle.ec_volfile.specs.Grammar.{IsVolumeFile}
use Rattle.ec_volfile.specs.Faults.{IsFirstFault}
use Rattle.ec_volfile.specs.Laws.{VolumeFileLaws}
use Rattle.ec_volfile.proofs.LineLaws.{says-stated, stated-line}
use Rattle.ec_volfile.proofs.GrammarLaws.{outcome-grammar, grammar-outcome}
use Rattle.ec_volfile.proofs.FaultLaws.{outcome-fault, fault-outcome, err_pair}

either : (bytes : List ℕ) (r : Result Outline (ℕ × VolumeFault)) → outcome bytes ≡ r → ((o : Outline) × IsVolumeFile bytes o) ⊎ ((n : ℕ) × (e : VolumeFault) × IsFirstFault bytes n e)
either bytes (Ok o) h = inl (o, outcome-grammar bytes o h)
either bytes (Err e) h = inr (e.0, e.1, outcome-fault bytes e.0 e.1 h)

not_both : (o : Outline) (e : ℕ × VolumeFault) → ◌≡◌ {A = Result Outline (ℕ × VolumeFault)} (Ok o) (Err e) → ⊥
not_both o e h = cc

same_Ok : (o p : Outline) → ◌≡◌ {A = Result Outline (ℕ × VolumeFault)} (Ok o) (Ok p) → o ≡ p
same_Ok o p h = cc

same_geometry : (g h : Geometry) → g.n ≡ h.n → g.r ≡ h.r → g.algorithm ≡ h.algorithm → g ≡ h
same_geometry g h n r a = λ i. record {
  n = n i;
  r = r i;
  algorithm = a i;
  redundant = is_prop→PathP (λ j. 0 < r j) (λ j. le_prop) g.redundant h.redundant i;
  majority = is_prop→PathP (λ j. 2 * r j < n j) (λ j. le_prop) g.majority h.majority i;
  least = is_prop→PathP (λ j. 2 + r j ≤ n j) (λ j. le_prop) g.least h.least i;
  most = is_prop→PathP (λ j. n j ≤ 16 + r j) (λ j. le_prop) g.most h.most i;
  bricks = is_prop→PathP (λ j. n j ≤ 31) (λ j. le_prop) g.bricks h.bricks i;
  known = is_prop→PathP (λ j. a j ≤ 1) (λ j. le_prop) g.known h.known i;
}

pub same_volume : (v w : Volume) → outline v ≡ outline w → v ≡ w
same_volume v w e =
    let g = same_geometry v.geometry w.geometry (ap (λ (o : Outline). o.n) e) (ap (λ (o : Outline). o.r) e) (ap (λ (o : Outline). o.algorithm) e) in
    λ i. record {
      name = ap (λ (o : Outline). o.name) e i;
      bricks = ap (λ (o : Outline). o.bricks) e i;
      geometry = g i;
      policy = ap (λ (o : Outline). o.policy) e i;
      eager = ap (λ (o : Outline). o.eager) e i;
      cache = ap (λ (o : Outline). o.cache) e i;
      window = ap (λ (o : Outline). o.window) e i;
      kernel = ap (λ (o : Outline). o.kernel) e i;
    }

fails-ok : (n : ℕ) (f : VolumeFault) (o : Outline) → FailsAt n f (Ok o) → f ≡ NoMemory
fails-ok n NoMemory o h = refl
fails-ok n TooLong o h = cc
fails-ok n BadLine o h = cc
fails-ok n Twice o h = cc
fails-ok n BadValue o h = cc
fails-ok n TwoDisperse o h = cc
fails-ok n NoRedundancy o h = cc
fails-ok n (BadGeometry k r) o h = cc
fails-ok n NoEnd o h = cc
fails-ok n NoDisperse o h = cc

pub reads-again : (r : Result Volume (ℕ × VolumeFault)) (v : Volume) → Reads r (Ok (outline v)) → IsReadAs r v
reads-again (Ok w) v h = same_volume w v (sym (same_Ok (outline v) (outline w) h))
reads-again (Err e) v h = fails-ok e.0 e.1 (outline v) h

pub laws : VolumeFileLaws
laws = record {
  either = λ bytes. either bytes (outcome bytes) refl;
  apart = λ bytes o n e f h. not_both o (n, e) (sym (grammar-outcome bytes o f) ∙ fault-outcome bytes n e h);
  one_meaning = λ bytes o p f g. same_Ok o p (sym (grammar-outcome bytes o f) ∙ grammar-outcome bytes p g);
  one_fault = λ bytes n m e f g h. err_pair n m e f (sym (fault-outcome bytes n e g) ∙ fault-outcome bytes m f h);
  says = λ line st. (says-stated line st, λ h. stated-line line st h.0 h.1);
  same = same_volume;
}
