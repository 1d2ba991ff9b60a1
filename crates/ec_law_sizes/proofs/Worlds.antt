-- The sizes of records at each moment of the log of a world.
use Rattle.std.proofs.Common.{List}
use Rattle.ec_calls.specs.declared.any.AnyCall.{AnyCall}
use Rattle.ec_conduct.specs.Given.{Given}
use Rattle.ec_conduct.specs.Own.{Own}
use Rattle.ec_txn.specs.declared.ctx.Ctx.{Ctx}
use Rattle.ec_law_calls.specs.World.{WorldLaws}
use Rattle.ec_law_parts.specs.Laws.{WorldFlatLaws}
use Rattle.ec_law_heads.specs.Worlds.{WorldHeadLaws}
use Rattle.ec_law_sizes.specs.Records.{RecordSizeLaws, WorldSizeLaws}

pub world_sizes : (stands : Ctx → Given → AnyCall → List Own → Type 0) (by_table : Ctx → Given → List Own → Type 0) → WorldLaws stands by_table → WorldFlatLaws stands by_table → WorldHeadLaws stands by_table → RecordSizeLaws → WorldSizeLaws stands by_table
world_sizes stands by_table laws flat heads sizes = record {
  sized = λ config records bricks tree next g s c start logged es rest parts.
      let w = laws.in_order config bricks tree next s c logged es rest parts in
      sizes.sized config records bricks tree next g es start w.is_run w.plain w.orderly (record {
        one_kind = heads.one_kind config records bricks tree next g s c start logged es rest parts;
        one_turn = flat.one_turn config records bricks tree next g s c start logged es rest parts;
      });
}
