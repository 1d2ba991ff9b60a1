use Rattle.std.proofs.Common.{◌≡◌, ◌-◌, ◌++◌, true, List, ℕ, drop, map, string_bytes}
use Rattle.std.specs.List.{list_all}
use Rattle.ec_brick.specs.Opening.{IsNamed}
use Rattle.ec_index.specs.Members.{members}
use Rattle.ec_report.specs.Reading.{IsSetOf, OnlyRead}
use Rattle.ec_report.specs.Records.{AreLines, OfAny}
use Rattle.ec_report.proofs.check.check_gfids.Given as goal

-- whatever the lines of the gfids are that are left, they come behind the text
abbrev pub invariant-loop-g : goal.invariant-loop-g
invariant-loop-g g l = record {
  reads : OnlyRead (list_all g.S.BrickStore.told l.fn.stores) (list_all g.S.BrickStore.told l.stores) (map g.S.BrickStore.records l.fn.stores) (map g.S.BrickStore.records l.stores) (map g.S.BrickStore.faults l.fn.stores) (map g.S.BrickStore.faults l.stores);
  lines : list_all g.S.BrickStore.told l.fn.stores ≡ true → IsSetOf (OfAny IsNamed (map g.S.BrickStore.records l.fn.stores)) (members l.named)
      → (rest : List ℕ) → AreLines (l.geometry.n - l.geometry.r) (map g.S.BrickStore.records l.fn.stores) (drop l.g-index l.gfids) rest → AreLines (l.geometry.n - l.geometry.r) (map g.S.BrickStore.records l.fn.stores) l.gfids (string_bytes l.text ++ rest);
}
