use Rattle.std.proofs.Common.{◌≡◌, Err, true, map, refl, ap, ◌∙◌, arith}
use Rattle.std.specs.List.{list_all}
use Rattle.std.specs.Io.KnownBytes.{prepend_known}
use Rattle.std.proofs.KnownBytes.{Keeps-refl}
use Rattle.ec_history.specs.Run.{fresh}
use Rattle.ec_play.specs.Orders.{line_order}
use Rattle.ec_script.specs.declared.fault.LineFault.TheVariants as fault
use Rattle.ec_play.specs.Statuses.{stop_status}
use Rattle.ec_play.specs.declared.status.ScriptWhy.TheVariants as why
use Rattle.ec_play.specs.declared.status.Status.TheVariants as status
use Rattle.ec_play.proofs.EndLemmas.{between_next, between_start, ends_end, ends_fault, ends_fault_at, ends_unread, ends_stopped, too_long, too_many, unread}
use Rattle.ec_play.proofs.KnownLemmas.{prepend_nothing}
use Rattle.ec_play.proofs.LooksLemmas.{looks, seen_next, seen_start, stops_anywhere, stops_at_end, stops_at_line}
use Rattle.ec_play.proofs.SinceLemmas.{in_status, in_stop, since_then}
use Rattle.ec_play.proofs.TakenLemmas.{takes_all, takes_line, takes_lines, takes_none}
use Rattle.ec_play.proofs.ToldLemmas.{told_obeys, told_stopped}
use Rattle.ec_play.proofs.playing.play.Goals as goal

pub lines-init : goal.lines-init
lines-init g c = record {
  between = λ bricks stands. rw (c.new-reader.ensures, prepend_nothing) (between_start g.W.Means.meaning ((list_all g.B.BrickStore.told c.args.stores.now) ≡ true) c.args.logs (fresh bricks) _ _ c.args.stage.now _ c.requires.log c.requires.keeps stands);
  first = omega arith;
  taken = rw (c.new-reader.ensures, prepend_nothing) (takes_none 0 (g.S.Source.left c.args.script.now) (g.S.Source.left c.args.script.now) (Keeps-refl (g.S.Source.left c.args.script.now)));
  seen = rw (c.new-reader.ensures, prepend_nothing) (seen_start (g.S.Source.left c.args.script.now));
  since = λ geometry first h. h;
  keeps = c.requires.keeps;
  bricks = refl;
  stores = c.requires.stores;
  tells = refl;
  read_later = omega arith;
  write_later = omega arith;
}

pub returns-in-Ok-false-clause-script : goal.returns-in-Ok-false-clause-script
returns-in-Ok-false-clause-script g c = λ bricks stands.
    ends_end g.W.Means.meaning ((list_all g.B.BrickStore.told c.args.stores.now) ≡ true) (g.W.Means.meaning.bricks c.args.stage.now) c.args.logs (fresh bricks) (g.S.Source.left c.args.script.now) (prepend_known c.lines.reader (g.S.Source.left c.lines.script)) (g.O.Sink.written c.args.out.now) (g.O.Sink.written c.lines.out) (g.O.Sink.written c.end.new.out) c.lines.number c.lines.stage (map g.B.BrickStore.records c.lines.stores) c.end.result g.met.W.Means.holds c.lines.invariant.bricks (c.lines.invariant.between bricks stands) (rw c.in-Ok-false.field-0-test at c.in-Ok-false.ensures.line) (c.end.ensures.text bricks)

pub returns-in-Err-TooLong-clause-script : goal.returns-in-Err-TooLong-clause-script
returns-in-Err-TooLong-clause-script g c = λ bricks stands.
    rw c.bad.ensures (ends_fault g.W.Means.meaning ((list_all g.B.BrickStore.told c.args.stores.now) ≡ true) (g.W.Means.meaning.bricks c.args.stage.now) c.args.logs (fresh bricks) (g.S.Source.left c.args.script.now) (prepend_known c.lines.reader (g.S.Source.left c.lines.script)) (g.O.Sink.written c.args.out.now) (g.O.Sink.written c.lines.out) c.lines.number c.lines.stage (map g.B.BrickStore.records c.lines.stores) fault.TooLong g.met.W.Means.holds c.lines.invariant.bricks (λ e. cc) (c.lines.invariant.between bricks stands) (too_long c.lines.number (prepend_known c.lines.reader (g.S.Source.left c.lines.script)) (omega (arith, c.lines-test.true)) (c.in-Err-TooLong.ensures.long (ap Err c.in-Err-TooLong.field-0-is))))

pub returns-in-Err-ReadFault-clause-script : goal.returns-in-Err-ReadFault-clause-script
returns-in-Err-ReadFault-clause-script g c = λ bricks stands.
    unread g.W.Means.meaning ((list_all g.B.BrickStore.told c.args.stores.now) ≡ true) (g.W.Means.meaning.bricks c.args.stage.now) c.args.logs (fresh bricks) (g.S.Source.left c.args.script.now) (prepend_known c.lines.reader (g.S.Source.left c.lines.script)) (g.O.Sink.written c.args.out.now) (g.O.Sink.written c.lines.out) (g.O.Sink.written c.lines.out) c.lines.number c.lines.stage (map g.B.BrickStore.records c.lines.stores) g.met.W.Means.holds c.lines.invariant.bricks (c.lines.invariant.between bricks stands) (Keeps-refl (g.O.Sink.written c.lines.out))

pub returns-in-Err-NoMemory-clause-script : goal.returns-in-Err-NoMemory-clause-script
returns-in-Err-NoMemory-clause-script g c = λ bricks stands.
    ends_unread g.W.Means.meaning ((list_all g.B.BrickStore.told c.args.stores.now) ≡ true) (g.W.Means.meaning.bricks c.args.stage.now) c.args.logs (fresh bricks) (g.S.Source.left c.args.script.now) (prepend_known c.lines.reader (g.S.Source.left c.lines.script)) (g.O.Sink.written c.args.out.now) (g.O.Sink.written c.lines.out) (g.O.Sink.written c.lines.out) c.lines.number c.lines.stage (map g.B.BrickStore.records c.lines.stores) g.met.W.Means.holds c.lines.invariant.bricks (c.lines.invariant.between bricks stands) (Keeps-refl (g.O.Sink.written c.lines.out))

pub lines-preserved : goal.lines-preserved
lines-preserved g c = record {
  between = λ bricks stands. between_next g.W.Means.meaning ((list_all g.B.BrickStore.told c.args.stores.now) ≡ true) c.args.logs (fresh bricks) (g.S.Source.left c.args.script.now) (prepend_known c.lines.reader (g.S.Source.left c.lines.script)) (prepend_known c.next_line.new.self (g.S.Source.left c.next_line.new.source)) (g.O.Sink.written c.args.out.now) (g.O.Sink.written c.lines.out) (g.O.Sink.written c.obey.new.out) c.lines.number c.as_slice.result.now c.lines.stage c.obey.new.stage (map g.B.BrickStore.records c.lines.stores) (map g.B.BrickStore.records c.obey.new.stores) (c.lines.invariant.between bricks stands) (rw c.as_slice.ensures.value (rw c.in-Ok-true.field-0-test at c.in-Ok-true.ensures.line)) (told_obeys g.W.Means.meaning (list_all g.B.BrickStore.told c.lines.stores) (list_all g.B.BrickStore.told c.args.stores.now) c.args.logs (line_order c.lines.number c.as_slice.result.now) c.lines.stage c.obey.new.stage (map g.B.BrickStore.records c.lines.stores) (map g.B.BrickStore.records c.obey.new.stores) (g.O.Sink.written c.lines.out) (g.O.Sink.written c.obey.new.out) c.lines.invariant.tells c.in-Ok.ensures.ok (fresh bricks) (g.O.Sink.written c.args.out.now));
  first = omega (arith, c.lines.invariant.first);
  taken = takes_line c.lines.number (g.S.Source.left c.args.script.now) (prepend_known c.lines.reader (g.S.Source.left c.lines.script)) (prepend_known c.next_line.new.self (g.S.Source.left c.next_line.new.source)) c.lines.invariant.first c.lines.invariant.taken c.in-Ok-true.ensures.taken;
  seen = seen_next (g.S.Source.left c.args.script.now) (prepend_known c.lines.reader (g.S.Source.left c.lines.script)) (prepend_known c.next_line.new.self (g.S.Source.left c.next_line.new.source)) c.lines.number c.next_line.new.line.items c.lines.invariant.seen (rw c.in-Ok-true.field-0-test at c.in-Ok-true.ensures.line) (omega (arith, c.in-Ok-true.ensures.short));
  since = since_then g.W.Means.meaning c.args.stage.now c.lines.stage c.obey.new.stage c.lines.invariant.since c.in-Ok.ensures.since;
  keeps = c.in-Ok.ensures.keeps;
  bricks = c.obey.ensures.bricks ∙ c.lines.invariant.bricks;
  stores = omega (arith, c.obey.auto.stores, c.lines.invariant.stores, c.obey.ensures.bricks);
  tells = c.obey.ensures.tells ∙ c.lines.invariant.tells;
  read_later = omega (arith, c.next_line.ensures.later, c.lines.invariant.read_later);
  write_later = omega (arith, c.obey.ensures.later, c.lines.invariant.write_later);
}

pub returns-in-Ok-true-has_more-clause-script : goal.returns-in-Ok-true-has_more-clause-script
returns-in-Ok-true-has_more-clause-script g c = λ bricks stands.
    rw c.bad-in-Ok-true-has_more.ensures (ends_fault_at g.W.Means.meaning ((list_all g.B.BrickStore.told c.args.stores.now) ≡ true) (g.W.Means.meaning.bricks c.args.stage.now) c.args.logs (fresh bricks) (g.S.Source.left c.args.script.now) (prepend_known c.lines.reader (g.S.Source.left c.lines.script)) (g.O.Sink.written c.args.out.now) (g.O.Sink.written c.lines.out) 1048577 c.lines.number c.lines.stage (map g.B.BrickStore.records c.lines.stores) fault.TooMany (omega (arith, c.lines-test.false)) g.met.W.Means.holds c.lines.invariant.bricks (λ e. cc) (c.lines.invariant.between bricks stands) (too_many c.lines.number (prepend_known c.lines.reader (g.S.Source.left c.lines.script)) (omega (arith, c.lines-test.false)) (rw c.in-Ok-true-has_more.field-0-test at c.in-Ok-true-has_more.ensures.line)))

pub returns-in-Ok-false-has_more-clause-script : goal.returns-in-Ok-false-has_more-clause-script
returns-in-Ok-false-has_more-clause-script g c = λ bricks stands.
    ends_end g.W.Means.meaning ((list_all g.B.BrickStore.told c.args.stores.now) ≡ true) (g.W.Means.meaning.bricks c.args.stage.now) c.args.logs (fresh bricks) (g.S.Source.left c.args.script.now) (prepend_known c.lines.reader (g.S.Source.left c.lines.script)) (g.O.Sink.written c.args.out.now) (g.O.Sink.written c.lines.out) (g.O.Sink.written c.end-in-Ok-false-has_more.new.out) c.lines.number c.lines.stage (map g.B.BrickStore.records c.lines.stores) c.end-in-Ok-false-has_more.result g.met.W.Means.holds c.lines.invariant.bricks (c.lines.invariant.between bricks stands) (rw c.in-Ok-false-has_more.field-0-test at c.in-Ok-false-has_more.ensures.line) (c.end-in-Ok-false-has_more.ensures.text bricks)

pub returns-clause-script : goal.returns-clause-script
returns-clause-script g c = λ bricks stands.
    unread g.W.Means.meaning ((list_all g.B.BrickStore.told c.args.stores.now) ≡ true) (g.W.Means.meaning.bricks c.args.stage.now) c.args.logs (fresh bricks) (g.S.Source.left c.args.script.now) (prepend_known c.lines.reader (g.S.Source.left c.lines.script)) (g.O.Sink.written c.args.out.now) (g.O.Sink.written c.lines.out) (g.O.Sink.written c.lines.out) c.lines.number c.lines.stage (map g.B.BrickStore.records c.lines.stores) g.met.W.Means.holds c.lines.invariant.bricks (c.lines.invariant.between bricks stands) (Keeps-refl (g.O.Sink.written c.lines.out))

pub returns-in-Err-clause-script : goal.returns-in-Err-clause-script
returns-in-Err-clause-script g c = λ bricks stands.
    rw c.status_of.ensures.status (ends_stopped g.W.Means.meaning ((list_all g.B.BrickStore.told c.args.stores.now) ≡ true) (g.W.Means.meaning.bricks c.args.stage.now) c.args.logs (fresh bricks) (g.S.Source.left c.args.script.now) (prepend_known c.lines.reader (g.S.Source.left c.lines.script)) (prepend_known c.next_line.new.self (g.S.Source.left c.next_line.new.source)) (g.O.Sink.written c.args.out.now) (g.O.Sink.written c.lines.out) (g.O.Sink.written c.obey.new.out) c.lines.number c.as_slice.result.now c.lines.stage c.obey.new.stage (map g.B.BrickStore.records c.lines.stores) (map g.B.BrickStore.records c.obey.new.stores) c.in-Err.stop g.met.W.Means.holds c.lines.invariant.bricks (c.obey.ensures.bricks ∙ c.lines.invariant.bricks) (c.lines.invariant.between bricks stands) (rw c.as_slice.ensures.value (rw c.in-Ok-true.field-0-test at c.in-Ok-true.ensures.line)) (told_stopped g.W.Means.meaning (list_all g.B.BrickStore.told c.lines.stores) (list_all g.B.BrickStore.told c.args.stores.now) c.args.logs (line_order c.lines.number c.as_slice.result.now) c.lines.stage c.obey.new.stage (map g.B.BrickStore.records c.lines.stores) (map g.B.BrickStore.records c.obey.new.stores) (g.O.Sink.written c.lines.out) (g.O.Sink.written c.obey.new.out) c.in-Err.stop c.lines.invariant.tells c.in-Err.ensures.err (fresh bricks) (g.O.Sink.written c.args.out.now)))

pub returns-in-Ok-false-clause-taken : goal.returns-in-Ok-false-clause-taken
returns-in-Ok-false-clause-taken g c = takes_lines c.lines.number (g.S.Source.left c.args.script.now) (prepend_known c.lines.reader (g.S.Source.left c.lines.script)) (g.S.Source.left c.next_line.new.source) c.lines.invariant.first (omega (arith, c.lines-test.true)) c.lines.invariant.taken c.next_line.ensures.read

pub returns-in-Err-TooLong-clause-taken : goal.returns-in-Err-TooLong-clause-taken
returns-in-Err-TooLong-clause-taken g c = takes_lines c.lines.number (g.S.Source.left c.args.script.now) (prepend_known c.lines.reader (g.S.Source.left c.lines.script)) (g.S.Source.left c.next_line.new.source) c.lines.invariant.first (omega (arith, c.lines-test.true)) c.lines.invariant.taken c.next_line.ensures.read

pub returns-in-Err-ReadFault-clause-taken : goal.returns-in-Err-ReadFault-clause-taken
returns-in-Err-ReadFault-clause-taken g c = takes_lines c.lines.number (g.S.Source.left c.args.script.now) (prepend_known c.lines.reader (g.S.Source.left c.lines.script)) (g.S.Source.left c.next_line.new.source) c.lines.invariant.first (omega (arith, c.lines-test.true)) c.lines.invariant.taken c.next_line.ensures.read

pub returns-in-Err-NoMemory-clause-taken : goal.returns-in-Err-NoMemory-clause-taken
returns-in-Err-NoMemory-clause-taken g c = takes_lines c.lines.number (g.S.Source.left c.args.script.now) (prepend_known c.lines.reader (g.S.Source.left c.lines.script)) (g.S.Source.left c.next_line.new.source) c.lines.invariant.first (omega (arith, c.lines-test.true)) c.lines.invariant.taken c.next_line.ensures.read

pub returns-in-Err-clause-taken : goal.returns-in-Err-clause-taken
returns-in-Err-clause-taken g c = takes_lines c.lines.number (g.S.Source.left c.args.script.now) (prepend_known c.lines.reader (g.S.Source.left c.lines.script)) (g.S.Source.left c.next_line.new.source) c.lines.invariant.first (omega (arith, c.lines-test.true)) c.lines.invariant.taken c.next_line.ensures.read

pub returns-in-Ok-true-has_more-clause-taken : goal.returns-in-Ok-true-has_more-clause-taken
returns-in-Ok-true-has_more-clause-taken g c = takes_all c.lines.number (g.S.Source.left c.args.script.now) (prepend_known c.lines.reader (g.S.Source.left c.lines.script)) (g.S.Source.left c.has_more.new.source) (omega (arith, c.lines-test.false)) c.lines.invariant.taken c.has_more.ensures.read

pub returns-in-Ok-false-has_more-clause-taken : goal.returns-in-Ok-false-has_more-clause-taken
returns-in-Ok-false-has_more-clause-taken g c = takes_all c.lines.number (g.S.Source.left c.args.script.now) (prepend_known c.lines.reader (g.S.Source.left c.lines.script)) (g.S.Source.left c.has_more.new.source) (omega (arith, c.lines-test.false)) c.lines.invariant.taken c.has_more.ensures.read

pub returns-clause-taken : goal.returns-clause-taken
returns-clause-taken g c = takes_all c.lines.number (g.S.Source.left c.args.script.now) (prepend_known c.lines.reader (g.S.Source.left c.lines.script)) (g.S.Source.left c.has_more.new.source) (omega (arith, c.lines-test.false)) c.lines.invariant.taken c.has_more.ensures.read

pub returns-in-Ok-false-clause-since : goal.returns-in-Ok-false-clause-since
returns-in-Ok-false-clause-since g c = in_status _ _ c.lines.invariant.since

pub returns-in-Err-TooLong-clause-since : goal.returns-in-Err-TooLong-clause-since
returns-in-Err-TooLong-clause-since g c = in_status _ _ c.lines.invariant.since

pub returns-in-Err-ReadFault-clause-since : goal.returns-in-Err-ReadFault-clause-since
returns-in-Err-ReadFault-clause-since g c = c.lines.invariant.since

pub returns-in-Ok-true-has_more-clause-since : goal.returns-in-Ok-true-has_more-clause-since
returns-in-Ok-true-has_more-clause-since g c = in_status _ _ c.lines.invariant.since

pub returns-in-Ok-false-has_more-clause-since : goal.returns-in-Ok-false-has_more-clause-since
returns-in-Ok-false-has_more-clause-since g c = in_status _ _ c.lines.invariant.since

pub returns-clause-since : goal.returns-clause-since
returns-clause-since g c = c.lines.invariant.since

pub returns-in-Err-clause-since : goal.returns-in-Err-clause-since
returns-in-Err-clause-since g c =
    rw c.status_of.ensures.status (in_stop c.lines.number c.in-Err.stop _ _ (λ then. since_then g.W.Means.meaning c.args.stage.now c.lines.stage c.obey.new.stage c.lines.invariant.since then) c.in-Err.ensures.since)

pub returns-in-Ok-false-clause-looks : goal.returns-in-Ok-false-clause-looks
returns-in-Ok-false-clause-looks g c = looks c.end.result (g.S.Source.left c.args.script.now) (prepend_known c.lines.reader (g.S.Source.left c.lines.script)) (g.S.Source.left c.next_line.new.source) c.lines.number 2204096 (omega arith) (omega (arith, c.lines-test.true)) c.lines.invariant.seen (stops_at_end c.end.result (prepend_known c.lines.reader (g.S.Source.left c.lines.script)) c.lines.number (rw c.in-Ok-false.field-0-test at c.in-Ok-false.ensures.line) c.end.ensures.stops) c.lines.invariant.taken c.next_line.ensures.read

pub returns-in-Err-TooLong-clause-looks : goal.returns-in-Err-TooLong-clause-looks
returns-in-Err-TooLong-clause-looks g c = rw c.bad.ensures (looks (status.BadScript c.lines.number (why.Line fault.TooLong)) (g.S.Source.left c.args.script.now) (prepend_known c.lines.reader (g.S.Source.left c.lines.script)) (g.S.Source.left c.next_line.new.source) c.lines.number 2204096 (omega arith) (omega (arith, c.lines-test.true)) c.lines.invariant.seen (stops_anywhere (status.BadScript c.lines.number (why.Line fault.TooLong)) (prepend_known c.lines.reader (g.S.Source.left c.lines.script)) c.lines.number (λ front rest at. at)) c.lines.invariant.taken c.next_line.ensures.read)

pub returns-in-Err-ReadFault-clause-looks : goal.returns-in-Err-ReadFault-clause-looks
returns-in-Err-ReadFault-clause-looks g c = looks status.ReadFault (g.S.Source.left c.args.script.now) (prepend_known c.lines.reader (g.S.Source.left c.lines.script)) (g.S.Source.left c.next_line.new.source) c.lines.number 2204096 (omega arith) (omega (arith, c.lines-test.true)) c.lines.invariant.seen (stops_anywhere status.ReadFault (prepend_known c.lines.reader (g.S.Source.left c.lines.script)) c.lines.number (λ front rest at. tt)) c.lines.invariant.taken c.next_line.ensures.read

pub returns-in-Err-NoMemory-clause-looks : goal.returns-in-Err-NoMemory-clause-looks
returns-in-Err-NoMemory-clause-looks g c = looks status.NoMemory (g.S.Source.left c.args.script.now) (prepend_known c.lines.reader (g.S.Source.left c.lines.script)) (g.S.Source.left c.next_line.new.source) c.lines.number 2204096 (omega arith) (omega (arith, c.lines-test.true)) c.lines.invariant.seen (stops_anywhere status.NoMemory (prepend_known c.lines.reader (g.S.Source.left c.lines.script)) c.lines.number (λ front rest at. tt)) c.lines.invariant.taken c.next_line.ensures.read

pub returns-in-Err-clause-looks : goal.returns-in-Err-clause-looks
returns-in-Err-clause-looks g c = rw c.status_of.ensures.status (looks (stop_status c.lines.number c.in-Err.stop) (g.S.Source.left c.args.script.now) (prepend_known c.lines.reader (g.S.Source.left c.lines.script)) (g.S.Source.left c.next_line.new.source) c.lines.number 2204096 (omega arith) (omega (arith, c.lines-test.true)) c.lines.invariant.seen (stops_at_line (prepend_known c.lines.reader (g.S.Source.left c.lines.script)) c.lines.number c.in-Err.stop) c.lines.invariant.taken c.next_line.ensures.read)

pub returns-in-Ok-true-has_more-clause-looks : goal.returns-in-Ok-true-has_more-clause-looks
returns-in-Ok-true-has_more-clause-looks g c = rw c.bad-in-Ok-true-has_more.ensures (looks (status.BadScript 1048577 (why.Line fault.TooMany)) (g.S.Source.left c.args.script.now) (prepend_known c.lines.reader (g.S.Source.left c.lines.script)) (g.S.Source.left c.has_more.new.source) c.lines.number 4096 (omega arith) (omega (arith, c.lines-test.false)) c.lines.invariant.seen (stops_anywhere (status.BadScript 1048577 (why.Line fault.TooMany)) (prepend_known c.lines.reader (g.S.Source.left c.lines.script)) c.lines.number (λ front rest at. omega (arith, at, c.lines-test.false))) c.lines.invariant.taken c.has_more.ensures.read)

pub returns-in-Ok-false-has_more-clause-looks : goal.returns-in-Ok-false-has_more-clause-looks
returns-in-Ok-false-has_more-clause-looks g c = looks c.end-in-Ok-false-has_more.result (g.S.Source.left c.args.script.now) (prepend_known c.lines.reader (g.S.Source.left c.lines.script)) (g.S.Source.left c.has_more.new.source) c.lines.number 4096 (omega arith) (omega (arith, c.lines-test.false)) c.lines.invariant.seen (stops_at_end c.end-in-Ok-false-has_more.result (prepend_known c.lines.reader (g.S.Source.left c.lines.script)) c.lines.number (rw c.in-Ok-false-has_more.field-0-test at c.in-Ok-false-has_more.ensures.line) c.end-in-Ok-false-has_more.ensures.stops) c.lines.invariant.taken c.has_more.ensures.read

pub returns-clause-looks : goal.returns-clause-looks
returns-clause-looks g c = looks status.ReadFault (g.S.Source.left c.args.script.now) (prepend_known c.lines.reader (g.S.Source.left c.lines.script)) (g.S.Source.left c.has_more.new.source) c.lines.number 4096 (omega arith) (omega (arith, c.lines-test.false)) c.lines.invariant.seen (stops_anywhere status.ReadFault (prepend_known c.lines.reader (g.S.Source.left c.lines.script)) c.lines.number (λ front rest at. tt)) c.lines.invariant.taken c.has_more.ensures.read
