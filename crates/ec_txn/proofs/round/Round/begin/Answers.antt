use Rattle.std.proofs.Common.{◌≡◌, subst, sym, refl, ◌∙◌, ap}
use Rattle.ec_txn.specs.declared.stage.Next.TheVariants.{Go, Say}
use Rattle.ec_txn.proofs.Turns.{begins_go, begins_say}
use Rattle.ec_txn.proofs.round.Round.begin.Goals as goal

pub returns-in_ok-ask-in-Go : goal.returns-in_ok-ask-in-Go
returns-in_ok-ask-in-Go g c = record {
  adds = λ given of fits. begins_go c.args.ctx.now (g.P.Plan.table c.args.ctx.now) (g.P.Plan.during c.args.ctx.now) (g.P.Plan.fits c.args.plan) (g.met.P.Work.sound c.args.ctx.now) given c.gfid-gfid.result.0 c.args.next c.in-Go.stage c.in_ok-known.known c.mark.new.known c.args.sends.now c.ask.new.sends
      of fits (c.gfid-gfid.ensures given fits) (subst (λ n. (g.P.Plan.table c.args.ctx.now).starts given n) c.in-Go.is (c.start.ensures given of fits)) (record { len = c.in_ok-known.ensures.len; none = c.in_ok-known.ensures.none; room = c.in_ok-known.ensures.room; untold = c.in_ok-known.ensures.untold }) c.requires.empty c.in_ok-ask-in-Go.ensures.sends c.mark.ensures.sent c.mark.ensures.same c.mark.ensures.replies;
}

pub returns-in-Say : goal.returns-in-Say
returns-in-Say g c = record {
  adds = λ given of fits. begins_say c.args.ctx.now (g.P.Plan.table c.args.ctx.now) (g.P.Plan.during c.args.ctx.now) (g.P.Plan.fits c.args.plan) (g.met.P.Work.sound c.args.ctx.now) given c.gfid-gfid.result.0 c.args.next c.in-Say.answer c.in_ok-known.known c.args.sends.now
      of fits (c.gfid-gfid.ensures given fits) (subst (λ n. (g.P.Plan.table c.args.ctx.now).starts given n) c.in-Say.is (c.start.ensures given of fits)) (record { len = c.in_ok-known.ensures.len; none = c.in_ok-known.ensures.none; room = c.in_ok-known.ensures.room; untold = c.in_ok-known.ensures.untold }) c.requires.empty;
}
