use Rattle.std.proofs.Common.{ap}
use Rattle.std.proofs.lemmas.Bool.{false≢true}
use Rattle.ec_txn.specs.Steps.{answer_of}
use Rattle.ec_txn.proofs.Turns.{has_place, leaves, if_both}
use Rattle.ec_txn.proofs.round.RoundCall.give_up.Goals as goal

pub returns : goal.returns
returns g c = record {
  adds = if_both c.go_on.result _ _ _ (λ turn goes same. λ x given es w s wait.
      leaves g.P.Plan.table g.P.Plan.during g.met.P.Work.sound (g.P.Plan.fits c.args.self.now.plan) (g.P.Plan.fits c.go_on.new.self.plan) c.args.self.now.ctx c.go_on.new.self.ctx c.args.self.now.gfid.0 c.go_on.new.self.gfid.0
      c.args.self.now.known c.gave_up.new.self c.go_on.new.self.known c.args.self.now.stage c.go_on.new.self.stage c.args.self.now.answer c.go_on.new.self.answer (answer_of turn) c.args.next c.go_on.new.sends
      goes same.0 (ap (λ v. v.0) same.1) (ap g.P.Plan.fits same.2) same.3 same.4 x given es c.args.brick w s wait c.gave_up.ensures.at c.gave_up.ensures.same c.gave_up.ensures.noted) c.go_on.ensures.step c.go_on.ensures.same;
}

pub returns-then-not-has_room : goal.returns-then-not-has_room
returns-then-not-has_room g c = record {
  adds = λ x given es w s wait. absurd (false≢true (c.if-not-has_room.ensures.1 (has_place x given (g.P.Plan.fits c.args.self.now.plan given) (g.P.Plan.table x) (g.P.Plan.during x) c.args.self.now.ctx c.args.self.now.gfid.0 c.args.self.now.known c.args.self.now.stage c.args.self.now.answer es c.args.brick w s wait)));
}
