use Rattle.std.proofs.Common.{refl, sym}
use Rattle.ec_wire.specs.declared.request.Request.TheVariants.{Unmake}
use Rattle.ec_brick.proofs.Done.{always, from_does, from_head, reading_removes, when_done}
use Rattle.ec_brick.proofs.Indexed.{index_put, index_removed, index_written}
use Rattle.ec_brick.proofs.brick.Brick.work.Goals as goal

pub returns-in-Some-clause-does : goal.returns-in-Some-clause-does
returns-in-Some-clause-does g c = rw c.done.ensures (from_head _ c.args.request.now _ _ _ _ c.args.subject.0 c.args.head.now c.in-Some.h _ c.requires.subject c.requires.head c.in-Some.ensures c.put.ensures.does)

pub returns-in-Some-clause-index : goal.returns-in-Some-clause-index
returns-in-Some-clause-index g c = λ told i. index_put _ _ _ _ _ _ c.args.subject.0 c.in-Some.h _ c.put.ensures.does c.put.ensures.indexed c.put.ensures.kept told i

pub returns-then-is_reading-clause-does : goal.returns-then-is_reading-clause-does
returns-then-is_reading-clause-does g c = c.read_work.ensures.does c.args.self.now.config

pub returns-then-is_reading-clause-removed : goal.returns-then-is_reading-clause-removed
returns-then-is_reading-clause-removed g c = always _ c.read_work.result (reading_removes c.args.request.now _ (sym c.if-is_reading.ensures))

pub returns-then-is_writing-clause-does : goal.returns-then-is_writing-clause-does
returns-then-is_writing-clause-does g c = c.write_work.ensures.does c.args.self.now.config

pub returns-then-is_writing-clause-index : goal.returns-then-is_writing-clause-index
returns-then-is_writing-clause-index g c = λ told i. index_written _ _ _ _ _ _ _ _ _ (c.write_work.ensures.does c.args.self.now.config) (sym c.if-is_writing.ensures) refl told i

pub returns-in-Unmake-clause-does : goal.returns-in-Unmake-clause-does
returns-in-Unmake-clause-does g c = rw (c.done-in-Unmake.ensures, c.in-Unmake.is) (from_does _ (Unmake c.in-Unmake.gfid c.in-Unmake.grant c.in-Unmake.child) _ _ _ _ _ _ c.remove.ensures.does (λ _. refl) refl refl)

pub returns-in-Unmake-clause-removed : goal.returns-in-Unmake-clause-removed
returns-in-Unmake-clause-removed g c = rw (c.done-in-Unmake.ensures, c.in-Unmake.is) (when_done _ c.remove.result c.remove.ensures.gone)

pub returns-in-Unmake-clause-index : goal.returns-in-Unmake-clause-index
returns-in-Unmake-clause-index g c = λ told i. index_removed _ _ _ _ _ _ _ _ c.remove.ensures.does c.remove.ensures.indexed c.remove.ensures.kept told i
