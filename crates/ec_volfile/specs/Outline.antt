-- A volume as its file describes it.
use Rattle.std.specs.Prelude.{ℕ, Bool, List}
use Rattle.ec_attr.specs.declared.policy.Policy.{Policy}
use Rattle.ec_volfile.specs.declared.volume.Kernel.{Kernel}
use Rattle.ec_volfile.specs.declared.volume.Volume.{Volume}

-- a volume as its file describes it: n bricks with redundancy r, coded by an algorithm
pub record Outline : Type 0 where
  pub name : List ℕ
  pub bricks : List (List ℕ)
  pub n : ℕ
  pub r : ℕ
  pub algorithm : ℕ
  pub policy : Policy
  pub eager : Bool
  pub cache : ℕ
  pub window : ℕ
  pub kernel : Kernel

-- what a volume says
abbrev pub outline : Volume → Outline
outline v = record {
  name = v.name;
  bricks = v.bricks;
  n = v.geometry.n;
  r = v.geometry.r;
  algorithm = v.geometry.algorithm;
  policy = v.policy;
  eager = v.eager;
  cache = v.cache;
  window = v.window;
  kernel = v.kernel;
}
