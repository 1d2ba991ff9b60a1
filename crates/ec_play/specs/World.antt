-- What a world means to the log of a run.
use Rattle.std.specs.Prelude.{◌≡◌, [], List}
use Rattle.ec_calls.specs.declared.any.AnyCall.{AnyCall}
use Rattle.ec_cluster.specs.Views.{log_of, size_of}
use Rattle.ec_conduct.specs.Given.{Given}
use Rattle.ec_conduct.specs.Own.{Own}
use Rattle.ec_history.specs.Run.{Net}
use Rattle.ec_play.specs.Meaning.{Meaning}
use Rattle.ec_store.specs.Records.{Records}
use Rattle.ec_txn.specs.declared.ctx.Ctx.{Ctx}
use Rattle.ec_world.specs.Consistency.{BeganWith}
use Rattle.ec_world.specs.Whole.{IsAs, IsOpen, IsRefused}
use Rattle.ec_world.specs.declared.world.World.{World}

-- The world has as many bricks as it says, and it and the records of its stores are as a net says.
pub record StandsIn (stands : Ctx → Given → AnyCall → List Own → Type 0) (by_table : Ctx → Given → List Own → Type 0) (w : World) (records : List Records) (m : Net) : Type 0 where
  pub size : size_of w.cluster ≡ w.bricks
  pub is_as : IsAs stands by_table w records m

-- what a world means, by what its calls stand for and by which tables they go
abbrev pub meaning_of : (Ctx → Given → AnyCall → List Own → Type 0) → (Ctx → Given → List Own → Type 0) → Meaning World
meaning_of stands by_table = record {
  log = λ w. log_of w.cluster;
  bricks = λ w. w.bricks;
  keeps = IsOpen stands by_table;
  stands = StandsIn stands by_table;
  since = BeganWith stands by_table;
  refuses = IsRefused stands;
}

-- A script can be played on a world that no event has reached, from a net on.
pub record IsFresh (stands_for : Ctx → Given → AnyCall → List Own → Type 0) (by_table : Ctx → Given → List Own → Type 0) (Told : Type 0) (w : World) (records : List Records) (m : Net) : Type 0 where
  pub keeps : (meaning_of stands_for by_table).keeps w
  pub log : (meaning_of stands_for by_table).log w ≡ []
  pub stands : Told → (meaning_of stands_for by_table).stands w records m
