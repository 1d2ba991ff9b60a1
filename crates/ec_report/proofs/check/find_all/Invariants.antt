use Rattle.std.proofs.Common.{◌≡◌, true, false, map}
use Rattle.std.specs.List.{list_all}
use Rattle.ec_brick.specs.Opening.{IsNamed}
use Rattle.ec_index.specs.Members.{members}
use Rattle.ec_report.specs.Reading.{GrowsBy, OfFirst, OnlyRead}
use Rattle.ec_report.specs.Records.{HasRecord}
use Rattle.ec_report.proofs.check.find_all.Given as goal

abbrev pub invariant-loop-b : goal.invariant-loop-b
invariant-loop-b g l = record {
  reads : OnlyRead (list_all g.S.BrickStore.told l.initial.stores) (list_all g.S.BrickStore.told l.stores) (map g.S.BrickStore.records l.initial.stores) (map g.S.BrickStore.records l.stores) (map g.S.BrickStore.faults l.initial.stores) (map g.S.BrickStore.faults l.stores);
  kept : list_all g.S.BrickStore.told l.initial.stores ≡ true → GrowsBy (OfFirst l.b HasRecord (map g.S.BrickStore.records l.initial.stores)) (λ h. false) (members l.found.kept);
  named : list_all g.S.BrickStore.told l.initial.stores ≡ true → GrowsBy (OfFirst l.b IsNamed (map g.S.BrickStore.records l.initial.stores)) (λ h. false) (members l.found.named);
}
