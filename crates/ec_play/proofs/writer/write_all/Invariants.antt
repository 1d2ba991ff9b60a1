use Rattle.std.proofs.Common.{◌≡◌, ◌≤◌, ◌++◌, List, ℕ, length, is_some}
use Rattle.std.specs.Io.KnownBytes.{Appends}
use Rattle.ec_play.proofs.writer.write_all.Given as goal

-- A front of the bytes is written, and the rest is left.
abbrev pub invariant-loop-rest : goal.invariant-loop-rest
invariant-loop-rest g l = record {
  front : List ℕ;
  parts : l.bytes ≡ front ++ l.rest;
  text : Appends (g.O.Sink.written l.initial.out) (g.O.Sink.written l.out) front;
  told : is_some (g.O.Sink.written l.out) ≡ is_some (g.O.Sink.written l.initial.out);
  later : g.O.Sink.faults l.initial.out ≤ g.O.Sink.faults l.out;
}

abbrev pub decreases-loop-rest : goal.decreases-loop-rest
decreases-loop-rest g l = length l.rest
