-- The report of the indexes of bricks, as one of the records of their stores.
use Rattle.std.proofs.Common.{◌≡◌, get_or, ℕ, zero, suc, ◌<◌, ◌≤◌, true, Option, Some, List, length, refl, sym, ap, subst, ◌∙◌, arith}
use Rattle.std.proofs.lemmas.Option.{slice_get-get_or}
use Rattle.std.specs.Prelude.{slice_get}
use Rattle.ec_attr.specs.declared.gfid.Gfid.{Gfid}
use Rattle.ec_brick.specs.Index.{IndexIs, dirty_of}
use Rattle.ec_brick.specs.State.{indexed}
use Rattle.ec_brick.specs.declared.brick.Brick.{Brick}
use Rattle.ec_report.specs.Info.{IsInfoOf}
use Rattle.ec_report.specs.Records.{IsListOf}
use Rattle.ec_store.specs.Records.{Records}
use Rattle.ec_world.specs.Report.{IsInfo}

-- a list of the gfids of an index is one of the dirty records
listed_dirty : (brick : Brick) (r : Records) (gfids : List Gfid) → IndexIs (indexed brick) r → IsListOf (λ g. indexed brick g ≡ true) gfids → IsListOf (λ g. dirty_of r g ≡ true) gfids
listed_dirty brick r gfids index l = record {
  rises = l.rises;
  all = λ g dirty. l.all g (index g ∙ dirty);
  only = λ g listed. sym (index g) ∙ l.only g listed;
}

abbrev AreIndexes : List Brick → List Records → Type 0
AreIndexes bricks records = (b : ℕ) (k : Brick) (r : Records) → slice_get bricks b ≡ Some k → slice_get records b ≡ Some r → IndexIs (indexed k) r

no_records : Records
no_records g = Option.None

pub info_of_records : (bricks : List Brick) (records : List Records) → AreIndexes bricks records → (n : ℕ) (text : List ℕ) → n ≤ length records → IsInfoOf n bricks text → IsInfo n records text
info_of_records bricks records index zero text le h = h
info_of_records bricks records index (suc n) text le (front, brick, gfids, earlier, at, listed, is) =
    let kept : slice_get records n ≡ Some (get_or records n no_records) = slice_get-get_or records n no_records (omega (arith, le)) in
    (front, get_or records n no_records, gfids, info_of_records bricks records index n front (omega (arith, le)) earlier, kept, listed_dirty brick (get_or records n no_records) gfids (index n brick (get_or records n no_records) at kept) listed, is)
