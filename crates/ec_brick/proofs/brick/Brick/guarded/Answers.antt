use Rattle.std.proofs.Common.{◌∙◌, refl, sym, ap, subst, Some}
use Rattle.ec_brick.specs.Replies.{Replies, own_of}
use Rattle.ec_brick.specs.Work.{work_of}
use Rattle.ec_brick.proofs.Exits.{fence_exit, head_exit, refused_exit, work_exit}
use Rattle.ec_brick.proofs.Ready.{refusal_plain}
use Rattle.ec_brick.proofs.brick.Brick.guarded.Goals as goal

pub returns-in-Some-clause-step : goal.returns-in-Some-clause-step
returns-in-Some-clause-step g c = λ told. rw c.effects_of.ensures (fence_exit c.args.self.now _ (g.S.BrickStore.records c.args.store.now) _ c.args.request.now c.args.row.now _ c.in-Some.reply refl refl (sym c.in-Some.ensures.why))

pub returns-in-Err-Failed-clause-step : goal.returns-in-Err-Failed-clause-step
returns-in-Err-Failed-clause-step g c = λ told. rw c.effects_of-in-Err-Failed.ensures (head_exit c.args.self.now _ (g.S.BrickStore.records c.args.store.now) _ c.args.request.now c.args.row.now refl (c.in-Err-Failed.ensures.does.err told) (sym c.in_default.ensures.why))

pub returns-in-Some-refusal-clause-step : goal.returns-in-Some-refusal-clause-step
returns-in-Some-refusal-clause-step g c = λ told. rw (c.effects_of-in-Some-refusal.ensures, c.version_of-version.ensures) (refused_exit c.args.self.now _ (g.S.BrickStore.records c.args.store.now) _ c.args.request.now c.args.row.now c.in-Ok.head c.is_writers-writer.result c.has-gone.result c.in-Some-refusal.reply refl (c.in-Ok.ensures.does.ok told) (sym c.in_default.ensures.why) (c.in-Ok.ensures.value told) c.is_writers-writer.ensures c.has-gone.ensures (sym c.in-Some-refusal.ensures.why) (refusal_plain c.in-Some-refusal.reply c.in-Some-refusal.ensures.refusal))

pub returns-in-Ok-work-clause-step : goal.returns-in-Ok-work-clause-step
returns-in-Ok-work-clause-step g c = λ told.
    let same = c.in-Ok.ensures.does.ok told in
    let tells = c.in-Ok.ensures.does.tells ∙ told in
    rw (c.effects_of-in-Ok-work.ensures, c.version_of-version.ensures)
    (work_exit c.args.self.now _ (g.S.BrickStore.records c.args.store.now) _ c.args.request.now c.args.row.now c.in-Ok.head c.is_writers-writer.result c.has-gone.result c.in-Ok-work.reply c.work.ensures.kept c.in-Ok-work.ensures.removed
    (c.in-Ok-work.ensures.does.ok tells ∙ ap (work_of c.args.self.now.config c.args.request.now) same)
    (sym c.in_default.ensures.why)
    (c.in-Ok.ensures.value told)
    c.is_writers-writer.ensures
    c.has-gone.ensures
    (sym c.in_default-refusal.ensures.why)
    c.in-Ok-work.ensures.own.plain
    (subst (λ m. Replies (own_of c.args.request.now m) (Some c.in-Ok-work.reply)) same (c.in-Ok-work.ensures.does.own tells)))
