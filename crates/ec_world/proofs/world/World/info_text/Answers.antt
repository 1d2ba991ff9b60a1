use Rattle.std.proofs.Common.{ℕ, List, length, string_bytes, subst, sym, arith}
use Rattle.std.specs.Prelude.{IfOk}
use Rattle.ec_brick.specs.declared.brick.Brick.{Brick}
use Rattle.ec_cluster.specs.Views.{bricks_of}
use Rattle.ec_report.proofs.Stores.{if_ok_then}
use Rattle.ec_report.specs.Info.{IsInfoOf}
use Rattle.ec_world.proofs.Reporting.{info_of_records}
use Rattle.ec_world.proofs.world.World.info_text.Goals as goal

pub returns-clause-index : goal.returns-clause-index
returns-clause-index c = subst (λ (bs : List Brick). IfOk c.info_text.result (λ text. IsInfoOf (length bs) bs (string_bytes text))) c.bricks.ensures c.info_text.ensures

pub returns-clause-records : goal.returns-clause-records
returns-clause-records c =
    let bricks = bricks_of c.args.self.now.cluster in
    if_ok_then c.info_text.result (λ text is records m h.
    let now : IsInfoOf (length bricks) bricks (string_bytes text) = subst (λ (bs : List Brick). IsInfoOf (length bs) bs (string_bytes text)) c.bricks.ensures is in
    info_of_records bricks records (λ b k r at kept. (h.matches.bricks b k r at kept).index) (length records) (string_bytes text) (omega arith) (subst (λ (n : ℕ). IsInfoOf n bricks (string_bytes text)) (sym h.matches.stores) now)) c.info_text.ensures
