use Rattle.std.proofs.Common.{Option, ◌∷◌, ◌∙◌, ap, subst, sym, ◌≡◌, refl}
use Rattle.ec_cluster.specs.Steps.{IsBegun}
use Rattle.ec_attr.specs.declared.gfid.Gfid.{Gfid}
use Rattle.ec_cluster.specs.Said.{said_in}
use Rattle.ec_cluster.specs.Views.{log_of, next_of}
use Rattle.ec_clients.specs.Calls.{tabled}
use Rattle.ec_clients.specs.Come.{Come}
use Rattle.ec_clients.specs.Hearing.{reply_message}
use Rattle.ec_clients.specs.Late.{late_entries, late_gfid}
use Rattle.ec_clients.specs.Owned.{IsOwned, Sees}
use Rattle.ec_clients.specs.Steps.{AreOfCourse, Goes}
use Rattle.ec_clients.specs.Views.{is_released}
use Rattle.ec_wire.specs.declared.entry.Entry.TheVariants.{Heard}
use Rattle.ec_clients.proofs.Goings.{breaks_now}
use Rattle.ec_clients.proofs.Hearings.{adv_at}
use Rattle.ec_clients.proofs.Lateness.{is_late, late_none, late_off, late_some}
use Rattle.ec_clients.proofs.Sendings.{err_map, ok_map}
use Rattle.ec_clients.proofs.hearing.hear_idle.Goals as goal

pub returns-in-Err-clause-err : goal.returns-in-Err-clause-err
returns-in-Err-clause-err g c = breaks_now c.args.clients.now.options.geometry (IsBegun (λ e. e ≡ Heard c.args.no)) tt (Sees g.C.Conduct.stands (tabled g.C.Conduct.begins g.C.Conduct.goes) c.args.cluster.now c.args.clients.now) c.args.cluster.now c.take_reply.new.self (λ i. log_of (c.in-Err.ensures.err i))

pub returns-in-Some-clause-ok : goal.returns-in-Some-clause-ok
returns-in-Some-clause-ok g c = ok_map c.send.result _ _ (λ more. subst (λ (o : Option Gfid). Goes c.args.clients.now.options.geometry (Sees g.C.Conduct.stands (tabled g.C.Conduct.begins g.C.Conduct.goes) c.args.cluster.now c.args.clients.now) (Sees g.C.Conduct.stands (tabled g.C.Conduct.begins g.C.Conduct.goes) c.send.new.self c.args.clients.now) c.args.cluster.now c.send.new.self (Heard c.args.no ∷ late_entries (next_of c.args.cluster.now) c.args.call c.args.client c.args.brick c.args.re o)) (sym c.in-Some.is ∙ c.late_gfid-late.ensures)
    (late_some g.C.Conduct.stands (tabled g.C.Conduct.begins g.C.Conduct.goes) c.args.cluster.now c.take_reply.new.self c.args.clients.now c.args.no c.args.call c.args.client c.args.brick c.args.re c.requires.there c.requires.idle c.requires.sound (adv_at c.args.cluster.now c.take_reply.new.self c.args.no c.args.call c.args.client c.args.brick c.args.re c.requires.there c.in-Ok.message c.in-Ok.ensures.message c.in-Ok.ensures.ok) c.requires.lives c.send.new.self c.in-Some.gfid c.in-Ok.ensures.taken.next
    (is_late (is_released c.args.clients.now c.args.re) (said_in (log_of c.args.cluster.now) c.args.re) (reply_message c.args.no c.args.call c.args.client c.args.brick c.args.re c.requires.there.reply) c.in-Some.gfid (ap (late_gfid (is_released c.args.clients.now c.args.re) (said_in (log_of c.args.cluster.now) c.args.re)) (sym c.requires.there.flies) ∙ (sym c.late_gfid-late.ensures ∙ c.in-Some.is)))
    more)) c.send.ensures.ok

pub returns-in-Some-clause-err : goal.returns-in-Some-clause-err
returns-in-Some-clause-err g c = err_map c.send.result _ _ (λ unmoved. late_off g.C.Conduct.stands (tabled g.C.Conduct.begins g.C.Conduct.goes) c.args.cluster.now c.take_reply.new.self c.args.clients.now c.args.no c.args.call c.args.client c.args.brick c.args.re c.requires.there c.requires.idle c.requires.sound (adv_at c.args.cluster.now c.take_reply.new.self c.args.no c.args.call c.args.client c.args.brick c.args.re c.requires.there c.in-Ok.message c.in-Ok.ensures.message c.in-Ok.ensures.ok) c.requires.lives c.send.new.self
    (breaks_now c.args.clients.now.options.geometry AreOfCourse refl (λ (p : Come). Sees g.C.Conduct.stands (tabled g.C.Conduct.begins g.C.Conduct.goes) c.take_reply.new.self c.args.clients.now p × IsOwned p.net.asker c.args.call c.args.client) c.take_reply.new.self c.send.new.self unmoved.same_log)) c.send.ensures.err

pub returns-clause-ok : goal.returns-clause-ok
returns-clause-ok g c = subst (λ (o : Option Gfid). Goes c.args.clients.now.options.geometry (Sees g.C.Conduct.stands (tabled g.C.Conduct.begins g.C.Conduct.goes) c.args.cluster.now c.args.clients.now) (Sees g.C.Conduct.stands (tabled g.C.Conduct.begins g.C.Conduct.goes) c.take_reply.new.self c.args.clients.now) c.args.cluster.now c.take_reply.new.self (Heard c.args.no ∷ late_entries (next_of c.args.cluster.now) c.args.call c.args.client c.args.brick c.args.re o)) (sym c.in-None.is ∙ c.late_gfid-late.ensures)
    (late_none g.C.Conduct.stands (tabled g.C.Conduct.begins g.C.Conduct.goes) c.args.cluster.now c.take_reply.new.self c.args.clients.now c.args.no c.args.call c.args.client c.args.brick c.args.re c.requires.there c.requires.idle c.requires.sound (adv_at c.args.cluster.now c.take_reply.new.self c.args.no c.args.call c.args.client c.args.brick c.args.re c.requires.there c.in-Ok.message c.in-Ok.ensures.message c.in-Ok.ensures.ok) c.requires.lives)
