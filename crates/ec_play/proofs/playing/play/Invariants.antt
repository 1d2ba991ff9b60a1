use Rattle.std.proofs.Common.{◌≡◌, ◌*◌, ◌-◌, ◌≤◌, ℕ, true, length, map}
use Rattle.std.specs.List.{list_all}
use Rattle.std.specs.Io.KnownBytes.{prepend_known}
use Rattle.ec_attr.specs.declared.geometry.Geometry.{Geometry}
use Rattle.ec_brick.specs.State.{State}
use Rattle.ec_history.specs.Run.{fresh}
use Rattle.ec_play.specs.Going.{Between}
use Rattle.ec_play.specs.Taken.{HasSeen, TakesAtMost}
use Rattle.ec_play.proofs.playing.play.Given as goal

-- The lines before this number were obeyed, and their text is written.
abbrev pub invariant-lines : goal.invariant-lines
invariant-lines g l = record {
  between : (bricks : ℕ → State) → (list_all g.B.BrickStore.told l.initial.stores ≡ true → g.W.Means.meaning.stands l.initial.stage (map g.B.BrickStore.records l.initial.stores) (fresh bricks))
      → Between g.W.Means.meaning (list_all g.B.BrickStore.told l.initial.stores ≡ true) l.logs (fresh bricks) (g.S.Source.left l.initial.script) (prepend_known l.reader (g.S.Source.left l.script)) (g.O.Sink.written l.initial.out) l.number l.stage (map g.B.BrickStore.records l.stores) (g.O.Sink.written l.out);
  first : 1 ≤ l.number;
  taken : TakesAtMost ((l.number - 1) * 2200001) (g.S.Source.left l.initial.script) (prepend_known l.reader (g.S.Source.left l.script));
  seen : HasSeen (g.S.Source.left l.initial.script) (prepend_known l.reader (g.S.Source.left l.script)) l.number;
  since : (geometry : Geometry) (first : ℕ) → g.W.Means.meaning.since l.initial.stage geometry first → g.W.Means.meaning.since l.stage geometry first;
  keeps : g.W.Means.meaning.keeps l.stage;
  bricks : g.W.Means.meaning.bricks l.stage ≡ g.W.Means.meaning.bricks l.initial.stage;
  stores : length l.stores ≡ g.W.Means.meaning.bricks l.stage;
  tells : list_all g.B.BrickStore.told l.stores ≡ list_all g.B.BrickStore.told l.initial.stores;
  read_later : g.S.Source.faults l.initial.script ≤ g.S.Source.faults l.script;
  write_later : g.O.Sink.faults l.initial.out ≤ g.O.Sink.faults l.out;
}
