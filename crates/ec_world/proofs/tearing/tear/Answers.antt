use Rattle.std.proofs.Common.{Some, ap, map, refl, subst, sym, ◌∙◌, ◌≡◌, true}
use Rattle.ec_clients.specs.Calls.{tabled}
use Rattle.ec_cluster.specs.Views.{is_up_at, size_of}
use Rattle.ec_history.specs.Script.{Names}
use Rattle.ec_world.specs.Events.{FirstOfEvent}
use Rattle.ec_wire.specs.declared.event.Event.TheVariants.{Tear}
use Rattle.ec_world.specs.Refusals.{IsFound, tear_refusal}
use Rattle.ec_world.specs.Steps.{IsTear}
use Rattle.ec_world.proofs.Advancing.{cluster_breaks, same_breaks, tears_advances}
use Rattle.ec_world.proofs.Becoming.{event_advances, named_breaks}
use Rattle.ec_world.proofs.Naming.{named_is, names_tear}
use Rattle.ec_world.proofs.Permitting.{may_tear}
use Rattle.ec_world.proofs.tearing.tear.Goals as goal

pub returns-then-bytes-gt4294967295-clause-stepped : goal.returns-then-bytes-gt4294967295-clause-stepped
returns-then-bytes-gt4294967295-clause-stepped g c = same_breaks g.C.Conduct.stands (tabled g.C.Conduct.begins g.C.Conduct.goes) _ (FirstOfEvent (size_of c.args.cluster.now) (Tear c.args.which c.args.bytes)) c.args.cluster.now c.args.cluster.now c.args.clients.now (map g.S.BrickStore.records c.args.stores.now) (λ p. tt) refl

pub returns-in-Ok-clause-stepped : goal.returns-in-Ok-clause-stepped
returns-in-Ok-clause-stepped g c = (
  ap (λ o. tear_refusal c.args.cluster.now c.args.which o c.args.bytes) c.in-Some.is ∙ may_tear c.args.cluster.now c.args.which c.in-Some.no c.in-Some-bytes_in.most c.args.bytes (sym c.bytes_in.ensures ∙ c.in-Some-bytes_in.is) (subst (λ b. is_up_at c.args.cluster.now b ≡ true) c.brick_of-brick.ensures (sym c.if-not-is_up.ensures)) c.if-bytes-most.false,
  event_advances g.C.Conduct.stands (tabled g.C.Conduct.begins g.C.Conduct.goes) _ (Tear c.args.which c.args.bytes) c.args.cluster.now c.tear.new.self c.args.clients.now c.args.clients.now (map g.S.BrickStore.records c.args.stores.now) (map g.S.BrickStore.records c.tear.new.stores) (IsTear c.in-Some.no c.args.bytes)
      (λ p h m e y. names_tear p.net c.args.which c.in-Some.no c.args.bytes e (named_is g.C.Conduct.stands (tabled g.C.Conduct.begins g.C.Conduct.goes) c.args.cluster.now c.args.clients.now (map g.S.BrickStore.records c.args.stores.now) p c.requires.sound h m c.args.which c.in-Some.no (subst (IsFound c.args.cluster.now c.args.which) c.in-Some.is c.requires.named)) y)
      (tears_advances g.C.Conduct.stands (tabled g.C.Conduct.begins g.C.Conduct.goes) c.brick_law.ensures _ c.args.cluster.now c.tear.new.self c.args.clients.now (map g.S.BrickStore.records c.args.stores.now) (map g.S.BrickStore.records c.tear.new.stores) _ _ c.in-Some.no c.args.bytes c.requires.sound c.in-Ok.ensures.ok),
)

pub returns-in-Err-clause-stepped : goal.returns-in-Err-clause-stepped
returns-in-Err-clause-stepped g c = named_breaks g.C.Conduct.stands (tabled g.C.Conduct.begins g.C.Conduct.goes) _ (Tear c.args.which c.args.bytes) c.args.cluster.now c.tear.new.self c.args.clients.now c.args.clients.now (map g.S.BrickStore.records c.args.stores.now) (map g.S.BrickStore.records c.tear.new.stores) (cluster_breaks g.C.Conduct.stands (tabled g.C.Conduct.begins g.C.Conduct.goes) _ (λ e. ⊥) (λ m e. Names m (Tear c.args.which c.args.bytes) e) c.args.cluster.now c.tear.new.self c.args.clients.now (map g.S.BrickStore.records c.args.stores.now) (map g.S.BrickStore.records c.tear.new.stores) (λ m e is. absurd is) c.in-Err.ensures.err)
