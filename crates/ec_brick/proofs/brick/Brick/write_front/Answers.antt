use Rattle.std.proofs.Common.{rules, ◌*◌, ◌∙◌, Err, ap, sym, take}
use Rattle.ec_brick.specs.State.{state}
use Rattle.ec_brick.specs.Work.{bytes_of}
use Rattle.ec_store.specs.Records.{wrote}
use Rattle.ec_brick.proofs.Ready.{no_refusal}
use Rattle.ec_brick.proofs.Torn.{fewer, front_failed}
use Rattle.ec_brick.proofs.brick.Brick.write_front.Goals as goal

pub returns-in-Err-Failed-write_part-clause-step :
    goal.returns-in-Err-Failed-write_part-clause-step
returns-in-Err-Failed-write_part-clause-step g c = λ told.
    let same = c.in-Ok.ensures.does.ok told in
    let tells = c.in-Ok.ensures.does.tells ∙ told in
    let items = c.deref.ensures.value ∙ c.in_ok-bytes.ensures.bytes in
    let part = c.in-Err-Failed-write_part.ensures.does.failed (ap Err c.in-Err-Failed-write_part.field-0-is) tells in
    rw c.version_of-version.ensures
    (front_failed _ (state c.args.self.now (g.S.BrickStore.records c.args.store.now)) c.args.row.now c.args.first c.args.n (bytes_of c.args.chunks.now) c.in-Ok.head c.is_writers-writer.result c.has-gone.result part.0 _
    (search rules)
    (sym c.fence.ensures.why ∙ no_refusal c.fence.result (sym c.if-is_some.ensures))
    (c.in-Ok.ensures.value told)
    c.is_writers-writer.ensures
    c.has-gone.ensures
    (sym c.refusal.ensures.why ∙ no_refusal c.refusal.result (sym c.if-is_some-2.ensures))
    (fewer part.0 c.args.n c.deref.result.now part.1)
    (part.2 ∙ ap (λ m. wrote m c.args.row.now.subject.0 (512 * c.args.first) (take part.0 (take c.args.n c.deref.result.now))) same ∙ ap (λ x. wrote (g.S.BrickStore.records c.args.store.now) c.args.row.now.subject.0 (512 * c.args.first) (take part.0 (take c.args.n x))) items))
