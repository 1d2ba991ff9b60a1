use Rattle.std.proofs.Common.{◌∙◌, ap, sym, Some, None, ◌≡◌}
use Rattle.ec_wire.specs.declared.entry.Entry.TheVariants.{Heard}
use Rattle.ec_cluster.specs.Steps.{IsBegun}
use Rattle.ec_cluster.specs.Views.{log_of}
use Rattle.ec_clients.specs.Calls.{tabled}
use Rattle.ec_clients.specs.Steps.{Seen}
use Rattle.ec_txn.specs.Steps.{answer_of}
use Rattle.ec_clients.proofs.Goings.{breaks_now}
use Rattle.ec_clients.proofs.Hearings.{heard_below, heard_breaks_at, heard_fit, heard_off, heard_to, hears_all, slot_there}
use Rattle.ec_clients.proofs.Sendings.{err_map, ok_map}
use Rattle.ec_clients.proofs.hearing.hear_awaited.Goals as goal

pub returns-in-Err-clause-err : goal.returns-in-Err-clause-err
returns-in-Err-clause-err g c = breaks_now c.args.clients.now.options.geometry (IsBegun (λ e. e ≡ Heard c.args.no)) tt (Seen g.C.Conduct.stands (tabled g.C.Conduct.begins g.C.Conduct.goes) c.args.cluster.now c.args.clients.now None) c.args.cluster.now c.take_reply.new.self (λ i. log_of (c.in-Err.ensures.err i))

pub take-requires : goal.take-requires
take-requires g c = slot_there c.args.clients.now.running.items c.args.client c.requires.awaited.running c.requires.awaited.runs

pub returns-then-next-ge-LAST-clause-err : goal.returns-then-next-ge-LAST-clause-err
returns-then-next-ge-LAST-clause-err g c = heard_breaks_at g.C.Conduct.stands (tabled g.C.Conduct.begins g.C.Conduct.goes) c.args.cluster.now c.take_reply.new.self c.args.clients.now c.args.no c.args.call c.args.client c.args.brick c.args.re c.requires.there c.in-Ok.message c.in-Ok.ensures.message c.in-Ok.ensures.ok c.requires.lives

pub returns-in-Err-hear-clause-err : goal.returns-in-Err-hear-clause-err
returns-in-Err-hear-clause-err g c = heard_breaks_at g.C.Conduct.stands (tabled g.C.Conduct.begins g.C.Conduct.goes) c.args.cluster.now c.take_reply.new.self c.args.clients.now c.args.no c.args.call c.args.client c.args.brick c.args.re c.requires.there c.in-Ok.message c.in-Ok.ensures.message c.in-Ok.ensures.ok c.requires.lives

pub go_on-requires-clause-to : goal.go_on-requires-clause-to
go_on-requires-clause-to g c = heard_below g.C.Conduct.stands (tabled g.C.Conduct.begins g.C.Conduct.goes) g.met.C.Call.keeps c.args.cluster.now c.take_reply.new.self c.args.clients.now c.take.new.self c.args.no c.args.call c.args.client c.args.brick c.args.re c.requires.there c.requires.awaited c.requires.sound c.in-Ok.message c.next-next.result c.in-Some.reply c.in-Ok.ensures.message (sym c.in-Some.ensures) c.in-Ok.ensures.ok c.in-Some-take.running (c.take.ensures.was ∙ ap Some c.in-Some-take.is) c.take.ensures.same c.take.ensures.changes c.requires.lives c.next-next.ensures.value c.hear.new.self c.hear.new.sends (answer_of c.in-Ok-hear.turn) c.in-Ok-hear.ensures.adds c.requires.size c.requires.seen.0 c.requires.seen.1

pub go_on-requires-clause-fit : goal.go_on-requires-clause-fit
go_on-requires-clause-fit g c = heard_fit g.C.Conduct.stands (tabled g.C.Conduct.begins g.C.Conduct.goes) g.met.C.Call.keeps c.args.cluster.now c.take_reply.new.self c.args.clients.now c.take.new.self c.args.no c.args.call c.args.client c.args.brick c.args.re c.requires.there c.requires.awaited c.requires.sound c.in-Ok.message c.next-next.result c.in-Some.reply c.in-Ok.ensures.message (sym c.in-Some.ensures) c.in-Ok.ensures.ok c.in-Some-take.running (c.take.ensures.was ∙ ap Some c.in-Some-take.is) c.take.ensures.same c.take.ensures.changes c.requires.lives c.next-next.ensures.value c.hear.new.self c.hear.new.sends (answer_of c.in-Ok-hear.turn) c.in-Ok-hear.ensures.adds c.requires.seen.0 c.requires.seen.1

pub returns-clause-ok : goal.returns-clause-ok
returns-clause-ok g c = ok_map c.go_on.result _ _ (λ goes. record { sends = c.hear.new.sends; to = heard_to g.C.Conduct.stands (tabled g.C.Conduct.begins g.C.Conduct.goes) g.met.C.Call.keeps c.args.cluster.now c.take_reply.new.self c.args.clients.now c.take.new.self c.args.no c.args.call c.args.client c.args.brick c.args.re c.requires.there c.requires.awaited c.requires.sound c.in-Ok.message c.next-next.result c.in-Some.reply c.in-Ok.ensures.message (sym c.in-Some.ensures) c.in-Ok.ensures.ok c.in-Some-take.running (c.take.ensures.was ∙ ap Some c.in-Some-take.is) c.take.ensures.same c.take.ensures.changes c.requires.lives c.next-next.ensures.value c.hear.new.self c.hear.new.sends (answer_of c.in-Ok-hear.turn) c.in-Ok-hear.ensures.adds c.requires.seen.0 c.requires.seen.1; answer = answer_of c.in-Ok-hear.turn; goes = hears_all g.C.Conduct.stands (tabled g.C.Conduct.begins g.C.Conduct.goes) g.met.C.Call.keeps c.args.cluster.now c.take_reply.new.self c.args.clients.now c.take.new.self c.args.no c.args.call c.args.client c.args.brick c.args.re c.requires.there c.requires.awaited c.requires.sound c.in-Ok.message c.next-next.result c.in-Some.reply c.in-Ok.ensures.message (sym c.in-Some.ensures) c.in-Ok.ensures.ok c.in-Some-take.running (c.take.ensures.was ∙ ap Some c.in-Some-take.is) c.take.ensures.same c.take.ensures.changes c.requires.lives c.next-next.ensures.value c.hear.new.self c.hear.new.sends (answer_of c.in-Ok-hear.turn) c.in-Ok-hear.ensures.adds c.go_on.new.cluster c.go_on.new.clients c.in-Ok.ensures.taken.next goes }) c.go_on.ensures.ok

pub returns-clause-err : goal.returns-clause-err
returns-clause-err g c = err_map c.go_on.result _ _ (λ breaks. heard_off g.C.Conduct.stands (tabled g.C.Conduct.begins g.C.Conduct.goes) g.met.C.Call.keeps c.args.cluster.now c.take_reply.new.self c.args.clients.now c.take.new.self c.args.no c.args.call c.args.client c.args.brick c.args.re c.requires.there c.requires.awaited c.requires.sound c.in-Ok.message c.next-next.result c.in-Some.reply c.in-Ok.ensures.message (sym c.in-Some.ensures) c.in-Ok.ensures.ok c.in-Some-take.running (c.take.ensures.was ∙ ap Some c.in-Some-take.is) c.take.ensures.same c.take.ensures.changes c.requires.lives c.next-next.ensures.value c.hear.new.self c.hear.new.sends (answer_of c.in-Ok-hear.turn) c.in-Ok-hear.ensures.adds c.go_on.new.cluster breaks) c.go_on.ensures.err
