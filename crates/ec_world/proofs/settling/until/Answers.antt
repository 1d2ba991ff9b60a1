use Rattle.std.proofs.Common.{ap, arith, Bool, length, List, inr, refl, subst, sym, true, ◌++◌, ◌∙◌, ◌≡◌, map}
use Rattle.std.specs.List.{list_all}
use Rattle.ec_clients.specs.Calls.{tabled}
use Rattle.ec_clients.specs.Come.{come}
use Rattle.ec_history.specs.Script.{IsSettling, Settles, entries_of}
use Rattle.ec_cluster.specs.Views.{size_of}
use Rattle.ec_wire.specs.declared.entry.Entry.{Entry}
use Rattle.ec_world.specs.World.{OfUntil}
use Rattle.ec_world.proofs.Permitting.{may_until}
use Rattle.ec_world.specs.Settling.{GoesOn}
use Rattle.ec_world.specs.UnderWay.{EachBefore, IsUnderWay}
use Rattle.ec_world.specs.Steps.{NoneOr, OneStep}
use Rattle.ec_world.proofs.Becoming.{advances_as, breaks_as}
use Rattle.ec_world.proofs.Chaining.{before_more, before_part, chain_breaks, chained, no_steps, same_end, settles_more, settles_part, until_is}
use Rattle.ec_world.proofs.settling.until.Goals as goal

pub loop-alloc-init : goal.loop-alloc-init
loop-alloc-init g c = record { tells = refl; adv = no_steps g.C.Conduct.stands (tabled g.C.Conduct.begins g.C.Conduct.goes) _ (λ p steps. Settles p.net steps × EachBefore (IsUnderWay g.C.Conduct.stands (tabled g.C.Conduct.begins g.C.Conduct.goes) g.C.Conduct.stage g.C.Conduct.phase_of c.args.client c.in-Some.running.now.number c.args.phase) c.args.clients.now.options.geometry p steps) c.args.cluster.now c.args.clients.now (map g.S.BrickStore.records c.args.stores.now) c.requires.sound (λ p. (tt, tt)) }

pub settle_step-requires-clause-sound : goal.settle_step-requires-clause-sound
settle_step-requires-clause-sound g c = c.loop-alloc.invariant.adv.sound

pub settle_step-requires-clause-size : goal.settle_step-requires-clause-size
settle_step-requires-clause-size g c = c.loop-alloc.invariant.adv.size ∙ (c.requires.size ∙ sym (λ i. (c.loop-alloc.invariant.adv.options i).geometry.n))

pub settle_step-requires-clause-sees : goal.settle_step-requires-clause-sees
settle_step-requires-clause-sees g c = (come c.args.clients.now.options.geometry (entries_of c.loop-alloc.invariant.adv.steps) c.requires.sees.0, c.loop-alloc.invariant.adv.leads c.requires.sees.0 c.requires.sees.1)

pub settle_step-requires-clause-stores : goal.settle_step-requires-clause-stores
settle_step-requires-clause-stores g c = c.loop-alloc.auto.stores ∙ (c.requires.stores ∙ sym c.loop-alloc.invariant.adv.size)

pub loop-alloc-preserved : goal.loop-alloc-preserved
loop-alloc-preserved g c = record {
  tells = c.settle_step.ensures.tells ∙ c.loop-alloc.invariant.tells;
  adv = chained g.C.Conduct.stands (tabled g.C.Conduct.begins g.C.Conduct.goes) (list_all g.S.BrickStore.told c.args.stores.now ≡ true) (λ p steps. Settles p.net steps × EachBefore (IsUnderWay g.C.Conduct.stands (tabled g.C.Conduct.begins g.C.Conduct.goes) g.C.Conduct.stage g.C.Conduct.phase_of c.args.client c.in-Some.running.now.number c.args.phase) c.args.clients.now.options.geometry p steps) (λ p steps. OneStep IsSettling p steps × IsUnderWay g.C.Conduct.stands (tabled g.C.Conduct.begins g.C.Conduct.goes) g.C.Conduct.stage g.C.Conduct.phase_of c.args.client c.in-Some.running.now.number c.args.phase p) (λ p steps. Settles p.net steps × EachBefore (IsUnderWay g.C.Conduct.stands (tabled g.C.Conduct.begins g.C.Conduct.goes) g.C.Conduct.stage g.C.Conduct.phase_of c.args.client c.in-Some.running.now.number c.args.phase) c.args.clients.now.options.geometry p steps) c.args.cluster.now c.loop-alloc.cluster c.settle_step.new.cluster c.args.clients.now c.loop-alloc.clients c.settle_step.new.clients (map g.S.BrickStore.records c.args.stores.now) (map g.S.BrickStore.records c.loop-alloc.stores) (map g.S.BrickStore.records c.settle_step.new.stores) c.loop-alloc.invariant.adv
      (advances_as g.C.Conduct.stands (tabled g.C.Conduct.begins g.C.Conduct.goes) (list_all g.S.BrickStore.told c.loop-alloc.stores ≡ true) _ (OneStep IsSettling) (λ p steps. OneStep IsSettling p steps × IsUnderWay g.C.Conduct.stands (tabled g.C.Conduct.begins g.C.Conduct.goes) g.C.Conduct.stage g.C.Conduct.phase_of c.args.client c.in-Some.running.now.number c.args.phase p) c.loop-alloc.cluster c.settle_step.new.cluster c.loop-alloc.clients c.settle_step.new.clients (map g.S.BrickStore.records c.loop-alloc.stores) (map g.S.BrickStore.records c.settle_step.new.stores) (λ t. c.loop-alloc.invariant.tells ∙ t) (λ p steps h m x. (x, record { cluster = c.loop-alloc.cluster; clients = c.loop-alloc.clients; sees = h; still = c.is_over.ensures.still c.if-is_over.false })) (subst (λ (v : Bool). GoesOn g.C.Conduct.stands (tabled g.C.Conduct.begins g.C.Conduct.goes) (list_all g.S.BrickStore.told c.loop-alloc.stores ≡ true) c.loop-alloc.cluster c.settle_step.new.cluster c.loop-alloc.clients c.settle_step.new.clients (map g.S.BrickStore.records c.loop-alloc.stores) (map g.S.BrickStore.records c.settle_step.new.stores) v) c.in-Ok-true.field-0-test c.in-Ok-true.ensures.ok))
      (λ p xs ys x y. (settles_more c.args.clients.now.options.geometry p xs ys x.0 y.0, before_more (IsUnderWay g.C.Conduct.stands (tabled g.C.Conduct.begins g.C.Conduct.goes) g.C.Conduct.stage g.C.Conduct.phase_of c.args.client c.in-Some.running.now.number c.args.phase) IsSettling c.args.clients.now.options.geometry xs ys p x.1 y.1 y.0));
}

pub returns-in-Err-clause-stepped : goal.returns-in-Err-clause-stepped
returns-in-Err-clause-stepped g c = chain_breaks g.C.Conduct.stands (tabled g.C.Conduct.begins g.C.Conduct.goes) (list_all g.S.BrickStore.told c.args.stores.now ≡ true) (λ p steps. Settles p.net steps × EachBefore (IsUnderWay g.C.Conduct.stands (tabled g.C.Conduct.begins g.C.Conduct.goes) g.C.Conduct.stage g.C.Conduct.phase_of c.args.client c.in-Some.running.now.number c.args.phase) c.args.clients.now.options.geometry p steps) (λ p steps. NoneOr (OneStep IsSettling) p steps × IsUnderWay g.C.Conduct.stands (tabled g.C.Conduct.begins g.C.Conduct.goes) g.C.Conduct.stage g.C.Conduct.phase_of c.args.client c.in-Some.running.now.number c.args.phase p) (OfUntil g.C.Conduct.stands (tabled g.C.Conduct.begins g.C.Conduct.goes) g.C.Conduct.stage g.C.Conduct.phase_of (size_of c.args.cluster.now) c.args.clients.now c.args.client c.args.phase) c.args.cluster.now c.loop-alloc.cluster c.settle_step.new.cluster c.args.clients.now c.loop-alloc.clients (map g.S.BrickStore.records c.args.stores.now) (map g.S.BrickStore.records c.loop-alloc.stores) (map g.S.BrickStore.records c.settle_step.new.stores) c.loop-alloc.invariant.adv
    (breaks_as g.C.Conduct.stands (tabled g.C.Conduct.begins g.C.Conduct.goes) (list_all g.S.BrickStore.told c.loop-alloc.stores ≡ true) _ (NoneOr (OneStep IsSettling)) (λ p steps. NoneOr (OneStep IsSettling) p steps × IsUnderWay g.C.Conduct.stands (tabled g.C.Conduct.begins g.C.Conduct.goes) g.C.Conduct.stage g.C.Conduct.phase_of c.args.client c.in-Some.running.now.number c.args.phase p) c.loop-alloc.cluster c.settle_step.new.cluster c.loop-alloc.clients c.settle_step.new.clients (map g.S.BrickStore.records c.loop-alloc.stores) (map g.S.BrickStore.records c.settle_step.new.stores) (λ t. c.loop-alloc.invariant.tells ∙ t) (λ p steps h m x. (x, record { cluster = c.loop-alloc.cluster; clients = c.loop-alloc.clients; sees = h; still = c.is_over.ensures.still c.if-is_over.false })) c.in-Err.ensures.err)
    (λ p xs ys x y. until_is g.C.Conduct.stands (tabled g.C.Conduct.begins g.C.Conduct.goes) g.C.Conduct.stage g.C.Conduct.phase_of (size_of c.args.cluster.now) c.args.clients.now c.args.client c.args.phase c.in-Some.running.now p (xs ++ ys) (sym c.in-Some.ensures) (settles_part c.args.clients.now.options.geometry p xs ys x.0 y.0, before_part (IsUnderWay g.C.Conduct.stands (tabled g.C.Conduct.begins g.C.Conduct.goes) g.C.Conduct.stage g.C.Conduct.phase_of c.args.client c.in-Some.running.now.number c.args.phase) IsSettling c.args.clients.now.options.geometry xs ys p x.1 y.1 y.0))

pub loop-alloc-smaller : goal.loop-alloc-smaller
loop-alloc-smaller g c = omega (arith, c.len.ensures, ap (λ (l : List Entry). length l) c.log.ensures, c.in-Ok-true.ensures.grows c.in-Ok-true.field-0-test)

pub returns-then-is_over-clause-ends : goal.returns-then-is_over-clause-ends
returns-then-is_over-clause-ends g c = inr (c.in-Some.running.now.number, (c.in-Some.running.now, sym c.in-Some.ensures, refl), c.is_over.ensures.over c.if-is_over.true)

pub returns-in-Ok-false-clause-stepped : goal.returns-in-Ok-false-clause-stepped
returns-in-Ok-false-clause-stepped g c =
    let rest = subst (λ (v : Bool). GoesOn g.C.Conduct.stands (tabled g.C.Conduct.begins g.C.Conduct.goes) (list_all g.S.BrickStore.told c.loop-alloc.stores ≡ true) c.loop-alloc.cluster c.settle_step.new.cluster c.loop-alloc.clients c.settle_step.new.clients (map g.S.BrickStore.records c.loop-alloc.stores) (map g.S.BrickStore.records c.settle_step.new.stores) v) c.in-Ok-false.field-0-test c.in-Ok-false.ensures.ok in
    (may_until c.args.clients.now c.args.client c.in-Some.running.now (sym c.if-is_dead.ensures) (sym c.in-Some.ensures), same_end g.C.Conduct.stands (tabled g.C.Conduct.begins g.C.Conduct.goes) (list_all g.S.BrickStore.told c.args.stores.now ≡ true) (OfUntil g.C.Conduct.stands (tabled g.C.Conduct.begins g.C.Conduct.goes) g.C.Conduct.stage g.C.Conduct.phase_of (size_of c.args.cluster.now) c.args.clients.now c.args.client c.args.phase) c.args.cluster.now c.loop-alloc.cluster c.settle_step.new.cluster c.args.clients.now c.loop-alloc.clients c.settle_step.new.clients (map g.S.BrickStore.records c.args.stores.now) (map g.S.BrickStore.records c.loop-alloc.stores) (map g.S.BrickStore.records c.settle_step.new.stores) rest.0 rest.1 rest.2 (advances_as g.C.Conduct.stands (tabled g.C.Conduct.begins g.C.Conduct.goes) (list_all g.S.BrickStore.told c.args.stores.now ≡ true) (list_all g.S.BrickStore.told c.args.stores.now ≡ true) (λ p steps. Settles p.net steps × EachBefore (IsUnderWay g.C.Conduct.stands (tabled g.C.Conduct.begins g.C.Conduct.goes) g.C.Conduct.stage g.C.Conduct.phase_of c.args.client c.in-Some.running.now.number c.args.phase) c.args.clients.now.options.geometry p steps) (OfUntil g.C.Conduct.stands (tabled g.C.Conduct.begins g.C.Conduct.goes) g.C.Conduct.stage g.C.Conduct.phase_of (size_of c.args.cluster.now) c.args.clients.now c.args.client c.args.phase) c.args.cluster.now c.loop-alloc.cluster c.args.clients.now c.loop-alloc.clients (map g.S.BrickStore.records c.args.stores.now) (map g.S.BrickStore.records c.loop-alloc.stores) (λ t. t) (λ p steps h m x. until_is g.C.Conduct.stands (tabled g.C.Conduct.begins g.C.Conduct.goes) g.C.Conduct.stage g.C.Conduct.phase_of (size_of c.args.cluster.now) c.args.clients.now c.args.client c.args.phase c.in-Some.running.now p steps (sym c.in-Some.ensures) x) c.loop-alloc.invariant.adv))

pub returns-then-is_over-clause-stepped : goal.returns-then-is_over-clause-stepped
returns-then-is_over-clause-stepped g c = (may_until c.args.clients.now c.args.client c.in-Some.running.now (sym c.if-is_dead.ensures) (sym c.in-Some.ensures), advances_as g.C.Conduct.stands (tabled g.C.Conduct.begins g.C.Conduct.goes) (list_all g.S.BrickStore.told c.args.stores.now ≡ true) (list_all g.S.BrickStore.told c.args.stores.now ≡ true) (λ p steps. Settles p.net steps × EachBefore (IsUnderWay g.C.Conduct.stands (tabled g.C.Conduct.begins g.C.Conduct.goes) g.C.Conduct.stage g.C.Conduct.phase_of c.args.client c.in-Some.running.now.number c.args.phase) c.args.clients.now.options.geometry p steps) (OfUntil g.C.Conduct.stands (tabled g.C.Conduct.begins g.C.Conduct.goes) g.C.Conduct.stage g.C.Conduct.phase_of (size_of c.args.cluster.now) c.args.clients.now c.args.client c.args.phase) c.args.cluster.now c.loop-alloc.cluster c.args.clients.now c.loop-alloc.clients (map g.S.BrickStore.records c.args.stores.now) (map g.S.BrickStore.records c.loop-alloc.stores) (λ t. t) (λ p steps h m x. until_is g.C.Conduct.stands (tabled g.C.Conduct.begins g.C.Conduct.goes) g.C.Conduct.stage g.C.Conduct.phase_of (size_of c.args.cluster.now) c.args.clients.now c.args.client c.args.phase c.in-Some.running.now p steps (sym c.in-Some.ensures) x) c.loop-alloc.invariant.adv)
