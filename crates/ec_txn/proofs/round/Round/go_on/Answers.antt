use Rattle.std.proofs.Common.{◌≡◌, ◌++◌, ℕ, ◌<◌, arith, subst, sym, refl, ◌∙◌, ap, Some, None, Option}
use Rattle.std.specs.Prelude.{All, vec_len}
use Rattle.ec_conduct.specs.Table.{Send, to_bricks}
use Rattle.ec_txn.specs.Rounds.{one, where_so}
use Rattle.ec_txn.specs.declared.stage.Next.{Next}
use Rattle.ec_txn.specs.declared.stage.Next.TheVariants.{Go, Say}
use Rattle.ec_txn.proofs.Going.{all_below, all_below_two, goes_takes, says_takes, some_same, lasts_takes}
use Rattle.ec_txn.proofs.round.Round.go_on.Goals as goal

pub returns-then-lasts-clause-step : goal.returns-then-lasts-clause-step
returns-then-lasts-clause-step g c = λ p a es en on sees. (
  subst (λ stage. Rattle.ec_txn.specs.Tables.TakesStep (g.P.Plan.table c.args.self.now.ctx) p a c.args.next c.args.self.now.known c.mark.new.known stage None c.ask_again.new.sends) (sym es)
      (lasts_takes c.args.self.now.ctx (g.P.Plan.table c.args.self.now.ctx) (g.P.Plan.fits c.args.self.now.plan) p a c.args.next c.args.self.now.gfid.0 c.args.self.now.known sees on (vec_len c.args.self.now.known.places) c.mark.new.known c.args.sends.now c.ask_again.new.sends
      (c.lasts.ensures.yes c.if-lasts.true) c.requires.empty
      (subst (λ s. c.ask_again.new.sends ≡ c.args.sends.now ++ to_bricks c.args.self.now.ctx.geometry.n (λ b. one (where_so ((g.P.Plan.table c.args.self.now.ctx).again s) ((g.P.Plan.table c.args.self.now.ctx).asks s a) b))) (some_same c.in-Some.stage p (sym c.in-Some.is ∙ es)) (c.in_ok-ask_again.ensures.sends a sees))
      c.mark.ensures.sent c.mark.ensures.replies),
  en,
)

pub mark-requires-clause-below : goal.mark-requires-clause-below
mark-requires-clause-below g c = subst (λ (n : ℕ). All (λ (s : Send). s.0 < n) c.ask_again.new.sends) (sym c.requires.len) (all_below c.args.self.now.ctx.geometry.n c.args.sends.now c.ask_again.new.sends c.requires.empty c.in_ok-ask_again.ensures.within)

pub mark-requires-in-Go-clause-below : goal.mark-requires-in-Go-clause-below
mark-requires-in-Go-clause-below g c = subst (λ (n : ℕ). All (λ (s : Send). s.0 < n) c.ask.new.sends) (sym c.requires.len) (all_below_two c.args.self.now.ctx.geometry.n c.ask_again.new.sends c.unlock.new.sends c.ask.new.sends (c.lasts.ensures.no c.if-lasts.false).1 c.in_ok-unlock.ensures.within c.in_ok-ask-in-Go.ensures.within)

pub mark-requires-in-Say-clause-below : goal.mark-requires-in-Say-clause-below
mark-requires-in-Say-clause-below g c = subst (λ (n : ℕ). All (λ (s : Send). s.0 < n) c.give_back.new.sends) (sym c.requires.len) (all_below_two c.args.self.now.ctx.geometry.n c.ask_again.new.sends c.unlock.new.sends c.give_back.new.sends (c.lasts.ensures.no c.if-lasts.false).1 c.in_ok-unlock.ensures.within c.in_ok-give_back-in-Say.ensures.within)

pub returns-in_ok-ask-in-Go-clause-step : goal.returns-in_ok-ask-in-Go-clause-step
returns-in_ok-ask-in-Go-clause-step g c = λ p a es en on sees. (
  goes_takes c.args.self.now.ctx (g.P.Plan.table c.args.self.now.ctx) (g.P.Plan.fits c.args.self.now.plan) p a c.args.next c.args.self.now.gfid.0 c.args.self.now.known sees on (vec_len c.args.self.now.known.places) c.in-Go.stage c.mark-in-Go.new.known c.args.sends.now c.ask_again.new.sends c.unlock.new.sends c.ask.new.sends
      c.requires.empty
      (subst (λ s. c.ask_again.new.sends ≡ c.args.sends.now ++ to_bricks c.args.self.now.ctx.geometry.n (λ b. one (where_so ((g.P.Plan.table c.args.self.now.ctx).again s) ((g.P.Plan.table c.args.self.now.ctx).asks s a) b))) (some_same c.in-Some.stage p (sym c.in-Some.is ∙ es)) (c.in_ok-ask_again.ensures.sends a sees))
      c.mark-in-Go.ensures.replies
      refl (c.lasts.ensures.no c.if-lasts.false).0
      (subst (λ s. (g.P.Plan.table c.args.self.now.ctx).follows s a (Go c.in-Go.stage)) (some_same c.in-Some.stage p (sym c.in-Some.is ∙ es)) (subst (λ n. (g.P.Plan.table c.args.self.now.ctx).follows c.in-Some.stage a n) c.in-Go.is (c.in_ok-stage.ensures a sees)))
      (c.lasts.ensures.no c.if-lasts.false).1 c.in_ok-unlock.ensures.sends (c.in_ok-ask-in-Go.ensures.sends a sees) c.mark-in-Go.ensures.sent,
  en,
)

pub returns-in_ok-copy-in-Say-clause-step : goal.returns-in_ok-copy-in-Say-clause-step
returns-in_ok-copy-in-Say-clause-step g c = λ p a es en on sees. (
  says_takes c.args.self.now.ctx (g.P.Plan.table c.args.self.now.ctx) (g.P.Plan.fits c.args.self.now.plan) p a c.args.next c.args.self.now.gfid.0 c.args.self.now.known sees on (vec_len c.args.self.now.known.places) c.in-Say.answer c.mark-in-Say.new.known c.args.sends.now c.ask_again.new.sends c.unlock.new.sends c.give_back.new.sends
      c.requires.empty
      (subst (λ s. c.ask_again.new.sends ≡ c.args.sends.now ++ to_bricks c.args.self.now.ctx.geometry.n (λ b. one (where_so ((g.P.Plan.table c.args.self.now.ctx).again s) ((g.P.Plan.table c.args.self.now.ctx).asks s a) b))) (some_same c.in-Some.stage p (sym c.in-Some.is ∙ es)) (c.in_ok-ask_again.ensures.sends a sees))
      c.mark-in-Say.ensures.replies
      refl (c.lasts.ensures.no c.if-lasts.false).0
      (subst (λ s. (g.P.Plan.table c.args.self.now.ctx).follows s a (Say c.in-Say.answer)) (some_same c.in-Some.stage p (sym c.in-Some.is ∙ es)) (subst (λ n. (g.P.Plan.table c.args.self.now.ctx).follows c.in-Some.stage a n) c.in-Say.is (c.in_ok-stage.ensures a sees)))
      (c.lasts.ensures.no c.if-lasts.false).1 c.in_ok-unlock.ensures.sends c.in_ok-give_back-in-Say.ensures.sends c.mark-in-Say.ensures.sent,
  ap (λ answer. Some answer) c.in_ok-copy-in-Say.ensures,
)
