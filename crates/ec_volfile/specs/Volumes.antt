-- What holds of every volume.
use Rattle.std.specs.Prelude.{◌≡◌, ◌≢◌, ◌<◌, ◌≤◌, ℕ, false, List, length}
use Rattle.std.specs.List.{AllByRecursion}
use Rattle.ec_attr.specs.Geometry.{IsGeometry}
use Rattle.ec_volfile.specs.Lines.{is_blank}
use Rattle.ec_volfile.specs.Outline.{Outline}
use Rattle.ec_volfile.specs.Grammar.{NoneTwice}

-- A volume has as many bricks as its geometry says, all different, a cache of at most 10 stripes, and a window from 1
-- to 1024 stripes.
pub record IsVolume (o : Outline) : Type 0 where
  pub geometry : IsGeometry o.n o.r o.algorithm
  pub count : o.n ≡ length o.bricks
  pub different : NoneTwice o.bricks
  pub cache : o.cache ≤ 10
  pub window_least : 1 ≤ o.window
  pub window_most : o.window ≤ 1024

-- bytes without spaces, tabs and newlines, and not none
pub record IsWord (word : List ℕ) : Type 0 where
  pub some : 0 < length word
  pub bytes : AllByRecursion (λ b. (is_blank b ≡ false) × (b ≢ 10)) word

-- the names are words
pub record HasWords (o : Outline) : Type 0 where
  pub name : IsWord o.name
  pub bricks : AllByRecursion IsWord o.bricks
