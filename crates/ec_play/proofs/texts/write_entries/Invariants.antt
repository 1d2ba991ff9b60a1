use Rattle.std.proofs.Common.{◌≡◌, ◌≤◌, is_some, take}
use Rattle.std.specs.Io.KnownBytes.{Appends}
use Rattle.ec_play.specs.Texts.{text_of}
use Rattle.ec_play.proofs.texts.write_entries.Given as goal

-- The lines of the first entries are written.
abbrev pub invariant-loop-entry : goal.invariant-loop-entry
invariant-loop-entry g l = record {
  text : Appends (g.O.Sink.written l.initial.out) (g.O.Sink.written l.out) (text_of l.logs (take l.entry-index l.entries));
  told : is_some (g.O.Sink.written l.out) ≡ is_some (g.O.Sink.written l.initial.out);
  later : g.O.Sink.faults l.initial.out ≤ g.O.Sink.faults l.out;
}
