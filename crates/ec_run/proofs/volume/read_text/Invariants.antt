use Rattle.std.proofs.Common.{◌≤◌, length}
use Rattle.std.specs.Io.KnownBytes.{Consumes}
use Rattle.ec_run.proofs.volume.read_text.Given as goal

-- The bytes so far were taken from the front of the source.
abbrev pub invariant-pieces : goal.invariant-pieces
invariant-pieces g l = record {
  taken : Consumes (g.V.Source.left l.initial.source) (g.V.Source.left l.source) l.bytes.items;
  grown : l.counter ≤ length l.bytes.items;
  most : length l.bytes.items ≤ 1048577;
  later : g.V.Source.faults l.initial.source ≤ g.V.Source.faults l.source;
}
