use Rattle.std.proofs.Common.{◌≡◌, ◌≤◌, is_some, take}
use Rattle.std.specs.Io.KnownBytes.{Appends}
use Rattle.ec_play.specs.Texts.{open_text}
use Rattle.ec_play.proofs.texts.write_open.Given as goal

-- The lines of the first calls are written.
abbrev pub invariant-loop-call : goal.invariant-loop-call
invariant-loop-call g l = record {
  text : Appends (g.O.Sink.written l.initial.out) (g.O.Sink.written l.out) (open_text (take l.call-index l.calls));
  told : is_some (g.O.Sink.written l.out) ≡ is_some (g.O.Sink.written l.initial.out);
  later : g.O.Sink.faults l.initial.out ≤ g.O.Sink.faults l.out;
}
