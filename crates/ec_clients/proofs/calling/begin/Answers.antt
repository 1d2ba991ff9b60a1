use Rattle.std.proofs.Common.{◌+◌, [], ◌∷◌, ◌∙◌, refl, subst, sym, None, ◌≡◌}
use Rattle.ec_cluster.specs.Steps.{Advances as ClusterAdvances, IsAllowed, IsBegun}
use Rattle.ec_wire.specs.declared.entry.Entry.TheVariants.{Called}
use Rattle.ec_wire.specs.declared.op.Op.{Op}
use Rattle.ec_cluster.specs.Views.{log_of, next_of, size_of}
use Rattle.ec_clients.specs.Calls.{tabled}
use Rattle.ec_clients.specs.Steps.{Seen}
use Rattle.ec_txn.specs.Steps.{answer_of}
use Rattle.ec_clients.proofs.Beginnings.{begins_all, begins_below, begins_off, begun_adds}
use Rattle.ec_clients.proofs.Goings.{breaks_now}
use Rattle.ec_clients.proofs.Sendings.{err_map, ok_map}
use Rattle.ec_clients.proofs.calling.begin.Goals as goal

pub returns-then-next-ge-LAST-clause-err : goal.returns-then-next-ge-LAST-clause-err
returns-then-next-ge-LAST-clause-err g c = breaks_now c.args.clients.now.options.geometry (IsBegun (λ e. e ≡ Called (c.args.clients.now.calls + 1) c.args.client c.args.op.now)) tt (Seen g.C.Conduct.stands (tabled g.C.Conduct.begins g.C.Conduct.goes) c.args.cluster.now c.args.clients.now None) c.args.cluster.now c.args.cluster.now refl

pub returns-in-Err-clause-err : goal.returns-in-Err-clause-err
returns-in-Err-clause-err g c = breaks_now c.args.clients.now.options.geometry (IsBegun (λ e. e ≡ Called (c.args.clients.now.calls + 1) c.args.client c.args.op.now)) tt (Seen g.C.Conduct.stands (tabled g.C.Conduct.begins g.C.Conduct.goes) c.args.cluster.now c.args.clients.now None) c.args.cluster.now c.args.cluster.now refl

pub returns-in-Err-first_turn-clause-err : goal.returns-in-Err-first_turn-clause-err
returns-in-Err-first_turn-clause-err g c = breaks_now c.args.clients.now.options.geometry (IsBegun (λ e. e ≡ Called (c.args.clients.now.calls + 1) c.args.client c.args.op.now)) tt (Seen g.C.Conduct.stands (tabled g.C.Conduct.begins g.C.Conduct.goes) c.args.cluster.now c.args.clients.now None) c.args.cluster.now c.args.cluster.now refl

pub returns-in-Err-copy-clause-err : goal.returns-in-Err-copy-clause-err
returns-in-Err-copy-clause-err g c = breaks_now c.args.clients.now.options.geometry (IsBegun (λ e. e ≡ Called (c.args.clients.now.calls + 1) c.args.client c.args.op.now)) tt (Seen g.C.Conduct.stands (tabled g.C.Conduct.begins g.C.Conduct.goes) c.args.cluster.now c.args.clients.now None) c.args.cluster.now c.args.cluster.now refl

pub returns-in-Err-note-clause-err : goal.returns-in-Err-note-clause-err
returns-in-Err-note-clause-err g c = breaks_now c.args.clients.now.options.geometry (IsBegun (λ e. e ≡ Called (c.args.clients.now.calls + 1) c.args.client c.args.op.now)) tt (Seen g.C.Conduct.stands (tabled g.C.Conduct.begins g.C.Conduct.goes) c.args.cluster.now c.args.clients.now None) c.args.cluster.now c.note.new.self (λ i. log_of (c.in-Err-note.ensures.err i))

pub go_on-requires-clause-to : goal.go_on-requires-clause-to
go_on-requires-clause-to g c = begins_below g.C.Conduct.stands (tabled g.C.Conduct.begins g.C.Conduct.goes) c.args.cluster.now c.note.new.self c.args.clients.now c.count.new.self c.args.client c.args.op.now c.in-Ok.call c.begin.new.sends (answer_of c.in-Ok-first_turn.turn) (subst (λ (o : Op). ClusterAdvances (IsAllowed (size_of c.args.cluster.now) (Called (c.args.clients.now.calls + 1) c.args.client o)) c.args.cluster.now c.note.new.self (Called (c.args.clients.now.calls + 1) c.args.client o ∷ [])) c.in-Ok-copy.ensures c.in-Ok-note.ensures.ok) c.count.ensures.same c.count.ensures.gfid c.requires.lives (begun_adds g.C.Conduct.stands c.args.clients.now c.args.client c.args.op.now c.in-Ok.call c.begin.new.sends c.next_ctx-ctx.result c.next-next.result (next_of c.note.new.self) (answer_of c.in-Ok-first_turn.turn) c.next_ctx-ctx.ensures (c.next-next.ensures.value ∙ sym (λ i. next_of (c.in-Ok-note.ensures.noted i))) c.in-Ok.ensures.adds c.in-Ok-first_turn.ensures) c.requires.size

pub returns-clause-ok : goal.returns-clause-ok
returns-clause-ok g c = ok_map c.go_on.result _ _ (λ goes. record { sends = c.begin.new.sends; to = (begun_adds g.C.Conduct.stands c.args.clients.now c.args.client c.args.op.now c.in-Ok.call c.begin.new.sends c.next_ctx-ctx.result c.next-next.result (next_of c.note.new.self) (answer_of c.in-Ok-first_turn.turn) c.next_ctx-ctx.ensures (c.next-next.ensures.value ∙ sym (λ i. next_of (c.in-Ok-note.ensures.noted i))) c.in-Ok.ensures.adds c.in-Ok-first_turn.ensures).below; answer = answer_of c.in-Ok-first_turn.turn; goes = begins_all g.C.Conduct.stands (tabled g.C.Conduct.begins g.C.Conduct.goes) c.args.cluster.now c.note.new.self c.args.clients.now c.count.new.self c.args.client c.args.op.now c.in-Ok.call c.begin.new.sends (answer_of c.in-Ok-first_turn.turn) (subst (λ (o : Op). ClusterAdvances (IsAllowed (size_of c.args.cluster.now) (Called (c.args.clients.now.calls + 1) c.args.client o)) c.args.cluster.now c.note.new.self (Called (c.args.clients.now.calls + 1) c.args.client o ∷ [])) c.in-Ok-copy.ensures c.in-Ok-note.ensures.ok) c.count.ensures.same c.count.ensures.gfid c.requires.lives (begun_adds g.C.Conduct.stands c.args.clients.now c.args.client c.args.op.now c.in-Ok.call c.begin.new.sends c.next_ctx-ctx.result c.next-next.result (next_of c.note.new.self) (answer_of c.in-Ok-first_turn.turn) c.next_ctx-ctx.ensures (c.next-next.ensures.value ∙ sym (λ i. next_of (c.in-Ok-note.ensures.noted i))) c.in-Ok.ensures.adds c.in-Ok-first_turn.ensures) c.go_on.new.cluster c.go_on.new.clients (λ i. next_of (c.in-Ok-note.ensures.noted i)) goes }) c.go_on.ensures.ok

pub returns-clause-err : goal.returns-clause-err
returns-clause-err g c = err_map c.go_on.result _ _ (λ breaks. begins_off g.C.Conduct.stands (tabled g.C.Conduct.begins g.C.Conduct.goes) c.args.cluster.now c.note.new.self c.args.clients.now c.count.new.self c.args.client c.args.op.now c.in-Ok.call c.begin.new.sends (answer_of c.in-Ok-first_turn.turn) (subst (λ (o : Op). ClusterAdvances (IsAllowed (size_of c.args.cluster.now) (Called (c.args.clients.now.calls + 1) c.args.client o)) c.args.cluster.now c.note.new.self (Called (c.args.clients.now.calls + 1) c.args.client o ∷ [])) c.in-Ok-copy.ensures c.in-Ok-note.ensures.ok) c.count.ensures.same c.count.ensures.gfid c.requires.lives (begun_adds g.C.Conduct.stands c.args.clients.now c.args.client c.args.op.now c.in-Ok.call c.begin.new.sends c.next_ctx-ctx.result c.next-next.result (next_of c.note.new.self) (answer_of c.in-Ok-first_turn.turn) c.next_ctx-ctx.ensures (c.next-next.ensures.value ∙ sym (λ i. next_of (c.in-Ok-note.ensures.noted i))) c.in-Ok.ensures.adds c.in-Ok-first_turn.ensures) c.go_on.new.cluster breaks) c.go_on.ensures.err
