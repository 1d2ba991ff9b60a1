use Rattle.std.proofs.Common.{Err, map, refl, subst, sym, true, ◌≡◌}
use Rattle.std.specs.List.{list_all}
use Rattle.ec_clients.specs.Calls.{tabled}
use Rattle.ec_clients.specs.declared.options.Options.{Options}
use Rattle.ec_cluster.specs.Views.{size_of}
use Rattle.ec_wire.specs.declared.event.Event.TheVariants.{Call, Cut, Deliver, Die, GiveUp, Lose, Return, Stop, Tear, Until, Yield}
use Rattle.ec_world.specs.Refusals.{IsWrongVia, call_refusal, deliver_refusal, die_refusal, give_up_refusal, lose_refusal, return_refusal, stop_refusal, tear_refusal, until_refusal, yield_refusal}
use Rattle.ec_world.specs.Events.{FirstOfEvent, OfEvent}
use Rattle.ec_world.specs.World.{OfUntil}
use Rattle.ec_world.proofs.Becoming.{stepped_by}
use Rattle.ec_world.proofs.Outcomes.{refuses_same, store_outcome, told_outcome}
use Rattle.ec_world.proofs.obeying.obey.Goals as goal

pub returns-in-Call-clause-outcome : goal.returns-in-Call-clause-outcome
returns-in-Call-clause-outcome g c = told_outcome g.C.Conduct.stands (tabled g.C.Conduct.begins g.C.Conduct.goes) (list_all g.S.BrickStore.told c.args.stores.now ≡ true) (Call c.in-Call.client c.in-Call.op) c.args.event.now c.in-Call.is c.args.cluster.now c.call.new.cluster c.args.clients.now c.call.new.clients (map g.S.BrickStore.records c.args.stores.now) (call_refusal c.args.clients.now c.in-Call.client c.bad_via-wrong.result) c.call.result (c.bad_via-wrong.result, subst (λ (o : Options). IsWrongVia o.geometry c.in-Call.op c.bad_via-wrong.result) c.options.ensures c.bad_via-wrong.ensures, refl) (c.call.ensures (map g.S.BrickStore.records c.args.stores.now))

pub returns-in-Deliver-clause-outcome : goal.returns-in-Deliver-clause-outcome
returns-in-Deliver-clause-outcome g c = store_outcome g.C.Conduct.stands (tabled g.C.Conduct.begins g.C.Conduct.goes) (list_all g.S.BrickStore.told c.args.stores.now ≡ true) (Deliver c.in-Deliver.which) c.args.event.now c.in-Deliver.is c.args.cluster.now c.deliver.new.cluster c.args.clients.now c.deliver.new.clients (map g.S.BrickStore.records c.args.stores.now) (map g.S.BrickStore.records c.deliver.new.stores) (deliver_refusal c.args.cluster.now c.args.clients.now c.in-Deliver.which c.find-named.result) c.deliver.result (c.find-named.result, c.find-named.ensures.found, refl) c.deliver.ensures.stepped

pub returns-in-Lose-clause-outcome : goal.returns-in-Lose-clause-outcome
returns-in-Lose-clause-outcome g c = told_outcome g.C.Conduct.stands (tabled g.C.Conduct.begins g.C.Conduct.goes) (list_all g.S.BrickStore.told c.args.stores.now ≡ true) (Lose c.in-Lose.which) c.args.event.now c.in-Lose.is c.args.cluster.now c.lose.new.cluster c.args.clients.now c.args.clients.now (map g.S.BrickStore.records c.args.stores.now) (lose_refusal c.in-Lose.which c.find-named-in-Lose.result) c.lose.result (c.find-named-in-Lose.result, c.find-named-in-Lose.ensures.found, refl) (c.lose.ensures (map g.S.BrickStore.records c.args.stores.now))

pub returns-in-GiveUp-clause-outcome : goal.returns-in-GiveUp-clause-outcome
returns-in-GiveUp-clause-outcome g c = told_outcome g.C.Conduct.stands (tabled g.C.Conduct.begins g.C.Conduct.goes) (list_all g.S.BrickStore.told c.args.stores.now ≡ true) (GiveUp c.in-GiveUp.client c.in-GiveUp.brick) c.args.event.now c.in-GiveUp.is c.args.cluster.now c.give_up.new.cluster c.args.clients.now c.give_up.new.clients (map g.S.BrickStore.records c.args.stores.now) (give_up_refusal c.args.cluster.now c.args.clients.now c.in-GiveUp.client c.in-GiveUp.brick c.awaited-number.result) c.give_up.result (c.awaited-number.result, c.awaited-number.ensures, refl) (c.give_up.ensures (map g.S.BrickStore.records c.args.stores.now))

pub returns-in-Stop-clause-outcome : goal.returns-in-Stop-clause-outcome
returns-in-Stop-clause-outcome g c = told_outcome g.C.Conduct.stands (tabled g.C.Conduct.begins g.C.Conduct.goes) (list_all g.S.BrickStore.told c.args.stores.now ≡ true) (Stop c.in-Stop.brick) c.args.event.now c.in-Stop.is c.args.cluster.now c.stop.new.cluster c.args.clients.now c.args.clients.now (map g.S.BrickStore.records c.args.stores.now) (stop_refusal c.args.cluster.now c.in-Stop.brick) c.stop.result refl (c.stop.ensures (map g.S.BrickStore.records c.args.stores.now))

pub returns-in-Return-clause-outcome : goal.returns-in-Return-clause-outcome
returns-in-Return-clause-outcome g c = told_outcome g.C.Conduct.stands (tabled g.C.Conduct.begins g.C.Conduct.goes) (list_all g.S.BrickStore.told c.args.stores.now ≡ true) (Return c.in-Return.brick) c.args.event.now c.in-Return.is c.args.cluster.now c.return_brick.new.cluster c.args.clients.now c.args.clients.now (map g.S.BrickStore.records c.args.stores.now) (return_refusal c.args.cluster.now c.in-Return.brick) c.return_brick.result refl (c.return_brick.ensures (map g.S.BrickStore.records c.args.stores.now))

pub returns-in-Cut-clause-outcome : goal.returns-in-Cut-clause-outcome
returns-in-Cut-clause-outcome g c = told_outcome g.C.Conduct.stands (tabled g.C.Conduct.begins g.C.Conduct.goes) (list_all g.S.BrickStore.told c.args.stores.now ≡ true) (Cut c.in-Cut.client c.in-Cut.brick) c.args.event.now c.in-Cut.is c.args.cluster.now c.cut_from.new.cluster c.args.clients.now c.args.clients.now (map g.S.BrickStore.records c.args.stores.now) (c.cut_from.ensures (map g.S.BrickStore.records c.args.stores.now)).0 c.cut_from.result (c.cut_from.ensures (map g.S.BrickStore.records c.args.stores.now)).1 (c.cut_from.ensures (map g.S.BrickStore.records c.args.stores.now)).2

pub returns-in-Die-clause-outcome : goal.returns-in-Die-clause-outcome
returns-in-Die-clause-outcome g c = told_outcome g.C.Conduct.stands (tabled g.C.Conduct.begins g.C.Conduct.goes) (list_all g.S.BrickStore.told c.args.stores.now ≡ true) (Die c.in-Die.client) c.args.event.now c.in-Die.is c.args.cluster.now c.die.new.cluster c.args.clients.now c.die.new.clients (map g.S.BrickStore.records c.args.stores.now) (die_refusal c.args.clients.now c.in-Die.client) c.die.result refl (c.die.ensures (map g.S.BrickStore.records c.args.stores.now))

pub returns-in-Tear-clause-outcome : goal.returns-in-Tear-clause-outcome
returns-in-Tear-clause-outcome g c = store_outcome g.C.Conduct.stands (tabled g.C.Conduct.begins g.C.Conduct.goes) (list_all g.S.BrickStore.told c.args.stores.now ≡ true) (Tear c.in-Tear.which c.in-Tear.bytes) c.args.event.now c.in-Tear.is c.args.cluster.now c.tear.new.cluster c.args.clients.now c.args.clients.now (map g.S.BrickStore.records c.args.stores.now) (map g.S.BrickStore.records c.tear.new.stores) (tear_refusal c.args.cluster.now c.in-Tear.which c.find-named-in-Tear.result c.in-Tear.bytes) c.tear.result (c.find-named-in-Tear.result, c.find-named-in-Tear.ensures.found, refl) c.tear.ensures.stepped

pub returns-in-Yield-clause-outcome : goal.returns-in-Yield-clause-outcome
returns-in-Yield-clause-outcome g c = store_outcome g.C.Conduct.stands (tabled g.C.Conduct.begins g.C.Conduct.goes) (list_all g.S.BrickStore.told c.args.stores.now ≡ true) (Yield c.in-Yield.client) c.args.event.now c.in-Yield.is c.args.cluster.now c.args.cluster.now c.args.clients.now c.args.clients.now (map g.S.BrickStore.records c.args.stores.now) (map g.S.BrickStore.records c.args.stores.now) (yield_refusal c.args.clients.now c.in-Yield.client) (Err c.yield_grants.result) refl (refuses_same g.C.Conduct.stands (tabled g.C.Conduct.begins g.C.Conduct.goes) (list_all g.S.BrickStore.told c.args.stores.now ≡ true) (FirstOfEvent (size_of c.args.cluster.now) (Yield c.in-Yield.client)) c.args.cluster.now c.args.clients.now (map g.S.BrickStore.records c.args.stores.now) (yield_refusal c.args.clients.now c.in-Yield.client) (λ p. tt) c.yield_grants.result (sym c.yield_grants.ensures))

pub returns-in-Until-clause-outcome : goal.returns-in-Until-clause-outcome
returns-in-Until-clause-outcome g c = store_outcome g.C.Conduct.stands (tabled g.C.Conduct.begins g.C.Conduct.goes) (list_all g.S.BrickStore.told c.args.stores.now ≡ true) (Until c.in-Until.client c.in-Until.phase) c.args.event.now c.in-Until.is c.args.cluster.now c.until.new.cluster c.args.clients.now c.until.new.clients (map g.S.BrickStore.records c.args.stores.now) (map g.S.BrickStore.records c.until.new.stores) (until_refusal c.args.clients.now c.in-Until.client) c.until.result refl (stepped_by g.C.Conduct.stands (tabled g.C.Conduct.begins g.C.Conduct.goes) (list_all g.S.BrickStore.told c.args.stores.now ≡ true) (list_all g.S.BrickStore.told c.args.stores.now ≡ true) (OfUntil g.C.Conduct.stands (tabled g.C.Conduct.begins g.C.Conduct.goes) g.C.Conduct.stage g.C.Conduct.phase_of (size_of c.args.cluster.now) c.args.clients.now c.in-Until.client c.in-Until.phase) (OfEvent (size_of c.args.cluster.now) (Until c.in-Until.client c.in-Until.phase)) (OfUntil g.C.Conduct.stands (tabled g.C.Conduct.begins g.C.Conduct.goes) g.C.Conduct.stage g.C.Conduct.phase_of (size_of c.args.cluster.now) c.args.clients.now c.in-Until.client c.in-Until.phase) (FirstOfEvent (size_of c.args.cluster.now) (Until c.in-Until.client c.in-Until.phase)) c.args.cluster.now c.until.new.cluster c.args.clients.now c.until.new.clients (map g.S.BrickStore.records c.args.stores.now) (map g.S.BrickStore.records c.until.new.stores) (λ t. t) (λ p steps h m x. x.0) (λ p steps h m x. x.0) (until_refusal c.args.clients.now c.in-Until.client) (until_refusal c.args.clients.now c.in-Until.client) (λ e. e) (λ e y. y) c.until.result c.until.ensures.stepped)
