use Rattle.std.proofs.Common.{◌∙◌, refl, sym}
use Rattle.ec_attr.specs.Bricks.{is_in}
use Rattle.ec_script.specs.Generator.{call_of, client_of, left}
use Rattle.ec_script.proofs.Scripts.{creations_none, events_of_call, events_of_turn, rounds_more, stopped_after_call}
use Rattle.ec_script.proofs.remaining.Remaining.round.Goals as goal

pub returns-clause-ok : goal.returns-clause-ok
unfolding left
returns-clause-ok c =
    let r = c.args.self.now in
    let drawn = c.draw_round-draws.result in
    let call = events_of_call r.geometry r.first (is_in r.stopped) drawn (λ e. c.if-kind_of-eq-TURN.false (c.kind_of.ensures ∙ e)) in
    rw (
      c.requires.settled,
      c.requires.files,
      creations_none,
      rounds_more r.geometry r.first r.rounds r.state (is_in r.stopped) c.requires.rounds,
      ← c.draw_round-draws.ensures.value,
      call,
      stopped_after_call (is_in r.stopped) (client_of drawn) (call_of r.first drawn),
      ← c.draw_round-draws.ensures.state,
      c.client_of-client.ensures,
      c.in_ok-op.ensures,
    ) refl

pub returns-then-kind_of-eq-TURN-clause-ok : goal.returns-then-kind_of-eq-TURN-clause-ok
unfolding left
returns-then-kind_of-eq-TURN-clause-ok c =
    let r = c.args.self.now in
    let drawn = c.draw_round-draws.result in
    let turned = events_of_turn r.geometry r.first (is_in r.stopped) drawn (sym c.kind_of.ensures ∙ c.if-kind_of-eq-TURN.true)
    ∙ c.turn.ensures.value in
    rw (
      c.requires.settled,
      c.requires.files,
      creations_none,
      rounds_more r.geometry r.first r.rounds r.state (is_in r.stopped) c.requires.rounds,
      ← c.draw_round-draws.ensures.value,
      turned,
      ← c.turn.ensures.after,
      ← c.draw_round-draws.ensures.state,
    ) refl
