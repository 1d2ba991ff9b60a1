use Rattle.std.proofs.Common.{◌∙◌, ap, refl, sym, Some, None, ◌≡◌}
use Rattle.ec_wire.specs.declared.entry.Entry.TheVariants.{GivenUp}
use Rattle.ec_cluster.specs.Steps.{IsBegun}
use Rattle.ec_cluster.specs.Views.{log_of, next_of}
use Rattle.ec_clients.specs.Calls.{tabled}
use Rattle.ec_clients.specs.Steps.{Seen}
use Rattle.ec_clients.specs.Views.{joined}
use Rattle.ec_txn.specs.Steps.{answer_of}
use Rattle.ec_clients.proofs.Goings.{breaks_now}
use Rattle.ec_clients.proofs.Hearings.{slot_there}
use Rattle.ec_clients.proofs.Leavings.{leaves_all, left_below, left_fit, left_off, left_to}
use Rattle.ec_clients.proofs.Sendings.{err_map, ok_map}
use Rattle.ec_clients.proofs.leaving.leave.Goals as goal

pub take-requires : goal.take-requires
take-requires g c = slot_there c.args.clients.now.running.items c.args.client c.requires.waiting.running c.requires.waiting.runs

pub go_on-requires-clause-to : goal.go_on-requires-clause-to
go_on-requires-clause-to g c = left_below g.C.Conduct.stands (tabled g.C.Conduct.begins g.C.Conduct.goes) g.met.C.Call.keeps c.args.cluster.now c.note.new.self c.args.clients.now c.take.new.self c.args.no c.args.client c.args.brick c.next-next.result c.requires.waiting c.in-Ok-note.ensures.ok c.in-Some.running (c.take.ensures.was ∙ ap Some c.in-Some.is) c.take.ensures.same c.take.ensures.changes c.requires.lives (c.next-next.ensures.value ∙ sym (λ i. next_of (c.in-Ok-note.ensures.noted i))) (λ i. next_of (c.in-Ok-note.ensures.noted i)) c.give_up.new.self c.give_up.new.sends (answer_of c.in-Ok.turn) c.in-Ok.ensures.adds c.requires.size c.requires.seen.0 c.requires.seen.1

pub go_on-requires-clause-fit : goal.go_on-requires-clause-fit
go_on-requires-clause-fit g c = left_fit g.C.Conduct.stands (tabled g.C.Conduct.begins g.C.Conduct.goes) g.met.C.Call.keeps c.args.cluster.now c.note.new.self c.args.clients.now c.take.new.self c.args.no c.args.client c.args.brick c.next-next.result c.requires.waiting c.in-Ok-note.ensures.ok c.in-Some.running (c.take.ensures.was ∙ ap Some c.in-Some.is) c.take.ensures.same c.take.ensures.changes c.requires.lives (c.next-next.ensures.value ∙ sym (λ i. next_of (c.in-Ok-note.ensures.noted i))) (λ i. next_of (c.in-Ok-note.ensures.noted i)) c.give_up.new.self c.give_up.new.sends (answer_of c.in-Ok.turn) c.in-Ok.ensures.adds c.requires.seen.0 c.requires.seen.1

pub returns-then-next-ge-LAST-clause-err : goal.returns-then-next-ge-LAST-clause-err
returns-then-next-ge-LAST-clause-err g c = breaks_now c.args.clients.now.options.geometry (IsBegun (λ e. e ≡ GivenUp c.args.client c.args.brick c.args.no)) tt (Seen g.C.Conduct.stands (tabled g.C.Conduct.begins g.C.Conduct.goes) c.args.cluster.now c.args.clients.now None) c.args.cluster.now c.args.cluster.now refl

pub returns-in-Err-clause-err : goal.returns-in-Err-clause-err
returns-in-Err-clause-err g c = breaks_now c.args.clients.now.options.geometry (IsBegun (λ e. e ≡ GivenUp c.args.client c.args.brick c.args.no)) tt (Seen g.C.Conduct.stands (tabled g.C.Conduct.begins g.C.Conduct.goes) c.args.cluster.now c.args.clients.now None) c.args.cluster.now c.args.cluster.now refl

pub returns-in-Ok-note-clause-ok : goal.returns-in-Ok-note-clause-ok
returns-in-Ok-note-clause-ok g c = ok_map c.go_on.result _ _ (λ goes. record { running = c.in-Some.running; runs = ap joined (c.take.ensures.was ∙ ap Some c.in-Some.is); call = c.in-Some.running.number; number = refl; sends = c.give_up.new.sends; to = left_to g.C.Conduct.stands (tabled g.C.Conduct.begins g.C.Conduct.goes) g.met.C.Call.keeps c.args.cluster.now c.note.new.self c.args.clients.now c.take.new.self c.args.no c.args.client c.args.brick c.next-next.result c.requires.waiting c.in-Ok-note.ensures.ok c.in-Some.running (c.take.ensures.was ∙ ap Some c.in-Some.is) c.take.ensures.same c.take.ensures.changes c.requires.lives (c.next-next.ensures.value ∙ sym (λ i. next_of (c.in-Ok-note.ensures.noted i))) (λ i. next_of (c.in-Ok-note.ensures.noted i)) c.give_up.new.self c.give_up.new.sends (answer_of c.in-Ok.turn) c.in-Ok.ensures.adds c.requires.seen.0 c.requires.seen.1; answer = answer_of c.in-Ok.turn; goes = leaves_all g.C.Conduct.stands (tabled g.C.Conduct.begins g.C.Conduct.goes) g.met.C.Call.keeps c.args.cluster.now c.note.new.self c.args.clients.now c.take.new.self c.args.no c.args.client c.args.brick c.next-next.result c.requires.waiting c.in-Ok-note.ensures.ok c.in-Some.running (c.take.ensures.was ∙ ap Some c.in-Some.is) c.take.ensures.same c.take.ensures.changes c.requires.lives (c.next-next.ensures.value ∙ sym (λ i. next_of (c.in-Ok-note.ensures.noted i))) (λ i. next_of (c.in-Ok-note.ensures.noted i)) c.give_up.new.self c.give_up.new.sends (answer_of c.in-Ok.turn) c.in-Ok.ensures.adds c.go_on.new.cluster c.go_on.new.clients goes }) c.go_on.ensures.ok

pub returns-in-Ok-note-clause-err : goal.returns-in-Ok-note-clause-err
returns-in-Ok-note-clause-err g c = err_map c.go_on.result _ _ (λ breaks. left_off g.C.Conduct.stands (tabled g.C.Conduct.begins g.C.Conduct.goes) g.met.C.Call.keeps c.args.cluster.now c.note.new.self c.args.clients.now c.take.new.self c.args.no c.args.client c.args.brick c.next-next.result c.requires.waiting c.in-Ok-note.ensures.ok c.in-Some.running (c.take.ensures.was ∙ ap Some c.in-Some.is) c.take.ensures.same c.take.ensures.changes c.requires.lives (c.next-next.ensures.value ∙ sym (λ i. next_of (c.in-Ok-note.ensures.noted i))) (λ i. next_of (c.in-Ok-note.ensures.noted i)) c.give_up.new.self c.give_up.new.sends (answer_of c.in-Ok.turn) c.in-Ok.ensures.adds c.go_on.new.cluster breaks) c.go_on.ensures.err

pub returns-in-Err-note-clause-err : goal.returns-in-Err-note-clause-err
returns-in-Err-note-clause-err g c = breaks_now c.args.clients.now.options.geometry (IsBegun (λ e. e ≡ GivenUp c.args.client c.args.brick c.args.no)) tt (Seen g.C.Conduct.stands (tabled g.C.Conduct.begins g.C.Conduct.goes) c.args.cluster.now c.args.clients.now None) c.args.cluster.now c.note.new.self (λ i. log_of (c.in-Err-note.ensures.err i))
