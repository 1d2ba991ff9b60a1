use Rattle.std.proofs.Common.{ap, arith, Bool, length, List, refl, subst, sym, true, ◌∙◌, ◌≡◌, map}
use Rattle.std.specs.List.{list_all}
use Rattle.ec_clients.specs.Calls.{tabled}
use Rattle.ec_clients.specs.Come.{come}
use Rattle.ec_history.specs.Script.{IsSettling, Settles, entries_of}
use Rattle.ec_cluster.specs.Views.{size_of}
use Rattle.ec_wire.specs.declared.entry.Entry.{Entry}
use Rattle.ec_wire.specs.declared.event.Event.TheVariants.{Settle}
use Rattle.ec_world.specs.Events.{OfEvent}
use Rattle.ec_world.specs.Settling.{GoesOn}
use Rattle.ec_world.specs.Steps.{NoneOr, OneStep}
use Rattle.ec_world.proofs.Becoming.{advances_as, breaks_as}
use Rattle.ec_world.proofs.Chaining.{chain_breaks, chained, no_steps, rested, same_end, settles_more, settles_part}
use Rattle.ec_world.proofs.settling.settle.Goals as goal

pub loop-init : goal.loop-init
loop-init g c = record { tells = refl; adv = no_steps g.C.Conduct.stands (tabled g.C.Conduct.begins g.C.Conduct.goes) _ (λ p steps. Settles p.net steps) c.args.cluster.now c.args.clients.now (map g.S.BrickStore.records c.args.stores.now) c.requires.sound (λ p. tt) }

pub settle_step-requires-clause-sound : goal.settle_step-requires-clause-sound
settle_step-requires-clause-sound g c = c.loop.invariant.adv.sound

pub settle_step-requires-clause-size : goal.settle_step-requires-clause-size
settle_step-requires-clause-size g c = c.loop.invariant.adv.size ∙ (c.requires.size ∙ sym (λ i. (c.loop.invariant.adv.options i).geometry.n))

pub settle_step-requires-clause-sees : goal.settle_step-requires-clause-sees
settle_step-requires-clause-sees g c = (come c.args.clients.now.options.geometry (entries_of c.loop.invariant.adv.steps) c.requires.sees.0, c.loop.invariant.adv.leads c.requires.sees.0 c.requires.sees.1)

pub settle_step-requires-clause-stores : goal.settle_step-requires-clause-stores
settle_step-requires-clause-stores g c = c.loop.auto.stores ∙ (c.requires.stores ∙ sym c.loop.invariant.adv.size)

pub loop-preserved : goal.loop-preserved
loop-preserved g c = record {
  tells = c.settle_step.ensures.tells ∙ c.loop.invariant.tells;
  adv = chained g.C.Conduct.stands (tabled g.C.Conduct.begins g.C.Conduct.goes) (list_all g.S.BrickStore.told c.args.stores.now ≡ true) (λ p steps. Settles p.net steps) (OneStep IsSettling) (λ p steps. Settles p.net steps) c.args.cluster.now c.loop.cluster c.settle_step.new.cluster c.args.clients.now c.loop.clients c.settle_step.new.clients (map g.S.BrickStore.records c.args.stores.now) (map g.S.BrickStore.records c.loop.stores) (map g.S.BrickStore.records c.settle_step.new.stores) c.loop.invariant.adv
      (advances_as g.C.Conduct.stands (tabled g.C.Conduct.begins g.C.Conduct.goes) (list_all g.S.BrickStore.told c.loop.stores ≡ true) _ (OneStep IsSettling) (OneStep IsSettling) c.loop.cluster c.settle_step.new.cluster c.loop.clients c.settle_step.new.clients (map g.S.BrickStore.records c.loop.stores) (map g.S.BrickStore.records c.settle_step.new.stores) (λ t. c.loop.invariant.tells ∙ t) (λ p steps h m x. x) (subst (λ (v : Bool). GoesOn g.C.Conduct.stands (tabled g.C.Conduct.begins g.C.Conduct.goes) (list_all g.S.BrickStore.told c.loop.stores ≡ true) c.loop.cluster c.settle_step.new.cluster c.loop.clients c.settle_step.new.clients (map g.S.BrickStore.records c.loop.stores) (map g.S.BrickStore.records c.settle_step.new.stores) v) c.in-Ok-true.field-0-test c.in-Ok-true.ensures.ok))
      (λ p xs ys x y. settles_more c.args.clients.now.options.geometry p xs ys x y);
}

pub returns-in-Err-clause-stepped : goal.returns-in-Err-clause-stepped
returns-in-Err-clause-stepped g c = chain_breaks g.C.Conduct.stands (tabled g.C.Conduct.begins g.C.Conduct.goes) (list_all g.S.BrickStore.told c.args.stores.now ≡ true) (λ p steps. Settles p.net steps) (NoneOr (OneStep IsSettling)) (λ p steps. Settles p.net steps) c.args.cluster.now c.loop.cluster c.settle_step.new.cluster c.args.clients.now c.loop.clients (map g.S.BrickStore.records c.args.stores.now) (map g.S.BrickStore.records c.loop.stores) (map g.S.BrickStore.records c.settle_step.new.stores) c.loop.invariant.adv
    (breaks_as g.C.Conduct.stands (tabled g.C.Conduct.begins g.C.Conduct.goes) (list_all g.S.BrickStore.told c.loop.stores ≡ true) _ (NoneOr (OneStep IsSettling)) (NoneOr (OneStep IsSettling)) c.loop.cluster c.settle_step.new.cluster c.loop.clients c.settle_step.new.clients (map g.S.BrickStore.records c.loop.stores) (map g.S.BrickStore.records c.settle_step.new.stores) (λ t. c.loop.invariant.tells ∙ t) (λ p steps h m x. x) c.in-Err.ensures.err)
    (λ p xs ys x y. settles_part c.args.clients.now.options.geometry p xs ys x y)

pub loop-smaller : goal.loop-smaller
loop-smaller g c = omega (arith, c.len.ensures, ap (λ (l : List Entry). length l) c.log.ensures, c.in-Ok-true.ensures.grows c.in-Ok-true.field-0-test)

pub returns-in-Ok-false-clause-stepped : goal.returns-in-Ok-false-clause-stepped
returns-in-Ok-false-clause-stepped g c =
    let rest = subst (λ (v : Bool). GoesOn g.C.Conduct.stands (tabled g.C.Conduct.begins g.C.Conduct.goes) (list_all g.S.BrickStore.told c.loop.stores ≡ true) c.loop.cluster c.settle_step.new.cluster c.loop.clients c.settle_step.new.clients (map g.S.BrickStore.records c.loop.stores) (map g.S.BrickStore.records c.settle_step.new.stores) v) c.in-Ok-false.field-0-test c.in-Ok-false.ensures.ok in
    (refl, same_end g.C.Conduct.stands (tabled g.C.Conduct.begins g.C.Conduct.goes) (list_all g.S.BrickStore.told c.args.stores.now ≡ true) (OfEvent (size_of c.args.cluster.now) Settle) c.args.cluster.now c.loop.cluster c.settle_step.new.cluster c.args.clients.now c.loop.clients c.settle_step.new.clients (map g.S.BrickStore.records c.args.stores.now) (map g.S.BrickStore.records c.loop.stores) (map g.S.BrickStore.records c.settle_step.new.stores) rest.0 rest.1 rest.2 (rested g.C.Conduct.stands (tabled g.C.Conduct.begins g.C.Conduct.goes) (list_all g.S.BrickStore.told c.args.stores.now ≡ true) g.met.C.Call.releases (size_of c.args.cluster.now) c.args.cluster.now c.loop.cluster c.args.clients.now c.loop.clients (map g.S.BrickStore.records c.args.stores.now) (map g.S.BrickStore.records c.loop.stores) c.requires.many rest.3 c.loop.invariant.adv))
