use Rattle.std.proofs.Common.{◌≡◌, ◌≤◌, length, is_some}
use Rattle.std.specs.Io.KnownBytes.{Consumes, prepend_known}
use Rattle.ec_play.specs.Lines.{HasNoNewline}
use Rattle.ec_play.specs.declared.reader.TheConstants.{LONGEST}
use Rattle.ec_play.proofs.reader.LineReader.next_line.Given as goal

-- The line so far was taken from the front of the input.
abbrev pub invariant-bytes : goal.invariant-bytes
invariant-bytes g l = record {
  taken : Consumes (prepend_known l.fn.self (g.S.Source.left l.initial.source)) (prepend_known l.self (g.S.Source.left l.source)) l.line.items;
  inner : HasNoNewline l.line.items;
  grown : l.counter ≤ length l.line.items;
  short : length l.line.items ≤ LONGEST;
  told : is_some (g.S.Source.left l.source) ≡ is_some (g.S.Source.left l.initial.source);
  later : g.S.Source.faults l.initial.source ≤ g.S.Source.faults l.source;
}
