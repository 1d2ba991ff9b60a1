use Rattle.std.proofs.Common.{◌≡◌, ℕ, true, List, Option, Some, Ok, Result, map, sym, ap, subst, ◌∙◌}
use Rattle.std.specs.List.{list_all}
use Rattle.std.specs.Prelude.{IfErr}
use Rattle.ec_history.specs.Run.{Net}
use Rattle.ec_script.specs.declared.fault.LineFault.{LineFault}
use Rattle.ec_wire.specs.declared.event.Event.{Event}
use Rattle.ec_play.specs.Going.{Goes, Stopped}
use Rattle.ec_play.specs.Orders.{line_order}
use Rattle.ec_play.proofs.OrderLemmas.{order_within}
use Rattle.ec_play.proofs.obeying.obey.Goals as goal

pub returns-in-Ok-Some-clause-err : goal.returns-in-Ok-Some-clause-err
returns-in-Ok-Some-clause-err g c =
    let order : line_order c.args.number c.args.line.now ≡ Ok (Some c.in-Ok-Some.event) =
    order_within c.args.number c.args.line.now c.requires.number ∙ c.in-Ok-Some.ensures.event ∙ ap Ok c.in-Ok-Some.field-0-is in
    subst
    (λ (said : Result (Option Event) LineFault). IfErr c.obey_event.result (λ stop. (start : Net) → (old : Option (List ℕ)) → (events : List Event) → Goes g.W.Means.meaning (list_all g.B.BrickStore.told c.args.stores.now ≡ true) c.args.logs start old events c.args.stage.now (map g.B.BrickStore.records c.args.stores.now) (g.O.Sink.written c.args.out.now) → Stopped g.W.Means.meaning (list_all g.B.BrickStore.told c.args.stores.now ≡ true) c.args.logs start old events said c.args.stage.now c.obey_event.new.stage (map g.B.BrickStore.records c.obey_event.new.stores) (g.O.Sink.written c.obey_event.new.out) stop))
    (sym order) c.obey_event.ensures.err
