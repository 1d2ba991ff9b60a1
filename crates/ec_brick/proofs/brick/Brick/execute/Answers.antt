use Rattle.std.proofs.Common.{◌∙◌, ap, sym}
use Rattle.std.proofs.lemmas.Result.{IfOk-weaker}
use Rattle.ec_brick.specs.Meets.{failing_of}
use Rattle.ec_brick.specs.State.{state}
use Rattle.ec_brick.proofs.Steps.{locks_meet, row_locks, row_meets, same_fence, up_meets}
use Rattle.ec_brick.proofs.brick.Brick.execute.Goals as goal
use Rattle.ec_wire.specs.declared.request.Request.TheVariants.{Ask, Release}

pub returns-in-Ask-clause-step : goal.returns-in-Ask-clause-step
returns-in-Ask-clause-step g c =
    let m = g.S.BrickStore.records c.args.store.now in
    rw c.in-Ask.is (IfOk-weaker c.ask.result _ _ (λ e h told i. up_meets (state c.args.self.now m) (failing_of e.reply e.version) c.args.client c.args.number (Ask c.in-Ask.gfid c.in-Ask.domain c.in-Ask.kind) e (state c.ask.new.self m) c.requires.up (h m)) c.ask.ensures.step)

pub returns-in-Ask-clause-locks : goal.returns-in-Ask-clause-locks
returns-in-Ask-clause-locks g c = rw c.in-Ask.is (IfOk-weaker c.ask.result _ _ (λ e h m f. locks_meet _ _ e _ (up_meets (state c.args.self.now m) f c.args.client c.args.number (Ask c.in-Ask.gfid c.in-Ask.domain c.in-Ask.kind) e (state c.ask.new.self m) c.requires.up (h m))) c.ask.ensures.step)

pub returns-in-Ask-clause-fits : goal.returns-in-Ask-clause-fits
returns-in-Ask-clause-fits g c = IfOk-weaker c.ask.result _ _ (λ e h. h c.args.request.now) c.ask.ensures.fits

pub returns-in-Ask-clause-index : goal.returns-in-Ask-clause-index
returns-in-Ask-clause-index g c = λ told i q. ap (λ s. s q) c.ask.ensures.index ∙ i q

pub returns-in-Release-clause-step : goal.returns-in-Release-clause-step
returns-in-Release-clause-step g c =
    let m = g.S.BrickStore.records c.args.store.now in
    rw c.in-Release.is (IfOk-weaker c.release.result _ _ (λ e h told i. up_meets (state c.args.self.now m) (failing_of e.reply e.version) c.args.client c.args.number (Release c.in-Release.gfid c.in-Release.grant) e (state c.release.new.self m) c.requires.up (h m)) c.release.ensures.step)

pub returns-in-Release-clause-locks : goal.returns-in-Release-clause-locks
returns-in-Release-clause-locks g c = rw c.in-Release.is (IfOk-weaker c.release.result _ _ (λ e h m f. locks_meet _ _ e _ (up_meets (state c.args.self.now m) f c.args.client c.args.number (Release c.in-Release.gfid c.in-Release.grant) e (state c.release.new.self m) c.requires.up (h m))) c.release.ensures.step)

pub returns-in-Release-clause-index : goal.returns-in-Release-clause-index
returns-in-Release-clause-index g c = λ told i q. ap (λ s. s q) c.release.ensures.index ∙ i q

pub returns-in-Some : goal.returns-in-Some
returns-in-Some g c =
    let m = g.S.BrickStore.records c.args.store.now in
    record {
      tells = c.guarded.ensures.tells;
      step = IfOk-weaker c.guarded.result _ _ (λ e h told i. row_meets (state c.args.self.now m) (failing_of e.reply e.version) c.args.client c.args.number c.args.request.now c.in-Some.row e _ c.requires.up (sym c.in-Some.ensures) (h told)) c.guarded.ensures.step;
      fence = λ r y e f. c.guarded.ensures.fence y (same_fence c.args.self.now.locks c.args.request.now r c.in-Some.row y e (sym c.in-Some.ensures) f);
      locks = IfOk-weaker c.guarded.result _ _ (λ e h m f. row_locks c.args.self.now c.guarded.new.self m f c.args.client c.args.number c.args.request.now c.in-Some.row e c.requires.up (sym c.in-Some.ensures) c.guarded.ensures.kept h) c.guarded.ensures.granted;
      replied = IfOk-weaker c.guarded.result _ _ (λ e h other. h) c.guarded.ensures.replied;
      fits = c.guarded.ensures.fits;
      index = c.guarded.ensures.index;
      err = c.guarded.ensures.err;
      same_records = c.guarded.ensures.same_records;
      later = c.guarded.ensures.later;
      fault = c.guarded.ensures.fault;
    }
