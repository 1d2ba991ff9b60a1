-- What is reported of the indexes of bricks.
use Rattle.std.specs.Prelude.{◌≡◌, ℕ, zero, suc, true, Some, List, [], ◌++◌, slice_get}
use Rattle.std.specs.List.{flat_map}
use Rattle.ec_attr.specs.declared.gfid.Gfid.{Gfid}
use Rattle.ec_brick.specs.State.{indexed}
use Rattle.ec_brick.specs.declared.brick.Brick.{Brick}
use Rattle.ec_report.specs.Lines.{info_line}
use Rattle.ec_report.specs.Records.{IsListOf}

-- a line for each gfid of brick b's index
unfoldable pub info_lines : ℕ → List Gfid → List ℕ
info_lines b gfids = flat_map (λ g. info_line b g.0) gfids

-- the lines of the first n bricks, in their order
abbrev pub IsInfoOf : ℕ → List Brick → List ℕ → Type 0
IsInfoOf zero bricks text = text ≡ []
IsInfoOf (suc n) bricks text =
    (front : List ℕ) × (brick : Brick) × (gfids : List Gfid) × IsInfoOf n bricks front × (slice_get bricks n ≡ Some brick)
    × IsListOf (λ g. indexed brick g ≡ true) gfids × (text ≡ front ++ info_lines n gfids)
