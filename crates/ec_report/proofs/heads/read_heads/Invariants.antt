use Rattle.std.proofs.Common.{◌≡◌, true, length, map, take}
use Rattle.std.specs.List.{list_all}
use Rattle.ec_report.specs.Reading.{OnlyRead}
use Rattle.ec_report.specs.Records.{heads_at}
use Rattle.ec_report.proofs.heads.read_heads.Given as goal

abbrev pub invariant-loop-b : goal.invariant-loop-b
invariant-loop-b g l = record {
  reads : OnlyRead (list_all g.S.BrickStore.told l.initial.stores) (list_all g.S.BrickStore.told l.stores) (map g.S.BrickStore.records l.initial.stores) (map g.S.BrickStore.records l.stores) (map g.S.BrickStore.faults l.initial.stores) (map g.S.BrickStore.faults l.stores);
  many : length l.heads.items ≡ l.b;
  heads : list_all g.S.BrickStore.told l.initial.stores ≡ true → l.heads.items ≡ take l.b (heads_at (map g.S.BrickStore.records l.initial.stores) l.g.0);
}
