use Rattle.std.proofs.Common.{Err, List, Option, Some, ap, length, refl, subst, sym, ◌+◌, ℕ, []}
use Rattle.ec_clients.specs.Calls.{tabled}
use Rattle.ec_cluster.specs.Views.{size_of}
use Rattle.ec_cluster.specs.declared.cluster.Cluster.{Cluster}
use Rattle.ec_history.specs.Script.{AllFollowAll, CutsAll, IsOneStep}
use Rattle.ec_wire.specs.declared.event.Event.TheVariants.{Cut}
use Rattle.ec_world.specs.Events.{Advances, Stepped}
use Rattle.ec_world.specs.declared.refused.Refused.{Refused}
use Rattle.ec_world.specs.Steps.{NoneOr}
use Rattle.ec_world.proofs.Becoming.{no_memory}
use Rattle.ec_world.proofs.Chaining.{no_steps}
use Rattle.ec_world.proofs.Cuts.{cut_next, cut_off_breaks, cut_past, cuts_none, ends, there}
use Rattle.ec_world.proofs.Permitting.{may_stop}
use Rattle.ec_world.proofs.cutting.cut_all.Goals.{else-is_up, then-is_up+in-Ok}
use Rattle.ec_world.proofs.cutting.cut_all.Goals as goal

pub loop-brick-init : goal.loop-brick-init
loop-brick-init g c = λ records. no_steps g.C.Conduct.stands (tabled g.C.Conduct.begins g.C.Conduct.goes) (Unit {0}) (λ p steps. CutsAll 0 p.net c.args.client steps × AllFollowAll steps) c.args.cluster.now c.args.clients.now records c.requires.sound (λ p. cuts_none c.args.client p.net)

pub cut-requires : goal.cut-requires
cut-requires g c = record { sound = (c.loop-brick.invariant []).sound }

pub returns-in-Err : goal.returns-in-Err
returns-in-Err g c = λ records. cut_off_breaks g.C.Conduct.stands (tabled g.C.Conduct.begins g.C.Conduct.goes) c.args.cluster.now c.loop-brick.cluster c.args.clients.now records c.args.client c.loop-brick.brick c.cut.new.cluster (c.loop-brick.invariant records) (there c.loop-brick.brick (length c.bricks-brick-end.result.now) (size_of c.args.cluster.now) (size_of c.args.cluster.now) c.loop-brick-test.true (ap length c.bricks-brick-end.ensures) refl) (there c.loop-brick.brick (length c.bricks-brick-end.result.now) (size_of c.args.cluster.now) (size_of c.loop-brick.cluster) c.loop-brick-test.true (ap length c.bricks-brick-end.ensures) (c.loop-brick.invariant []).size) (sym c.if-is_up.ensures)
    (no_memory g.C.Conduct.stands (tabled g.C.Conduct.begins g.C.Conduct.goes) (Unit {0}) (λ p steps. IsOneStep p.net (Cut c.args.client (Some c.loop-brick.brick)) steps) (NoneOr (λ p steps. IsOneStep p.net (Cut c.args.client (Some c.loop-brick.brick)) steps)) c.loop-brick.cluster c.cut.new.cluster c.args.clients.now c.args.clients.now records records c.in-Err.field-0
    (subst (λ (o : Option Refused). Stepped g.C.Conduct.stands (tabled g.C.Conduct.begins g.C.Conduct.goes) (Unit {0}) (λ p steps. IsOneStep p.net (Cut c.args.client (Some c.loop-brick.brick)) steps) (NoneOr (λ p steps. IsOneStep p.net (Cut c.args.client (Some c.loop-brick.brick)) steps)) c.loop-brick.cluster c.cut.new.cluster c.args.clients.now c.args.clients.now records records o (Err c.in-Err.field-0)) (may_stop c.loop-brick.cluster c.loop-brick.brick (there c.loop-brick.brick (length c.bricks-brick-end.result.now) (size_of c.args.cluster.now) (size_of c.loop-brick.cluster) c.loop-brick-test.true (ap length c.bricks-brick-end.ensures) (c.loop-brick.invariant []).size) (sym c.if-is_up.ensures)) (c.in-Err.ensures records)))

pub loop-brick-preserved : goal.loop-brick-preserved
loop-brick-preserved g c = λ records. elim c.if-is_up.branch [
  | then-is_up+in-Ok w ↦ subst (λ (u : Cluster). Advances g.C.Conduct.stands (tabled g.C.Conduct.begins g.C.Conduct.goes) (Unit {0}) (λ p steps. CutsAll (c.loop-brick.brick + 1) p.net c.args.client steps × AllFollowAll steps) c.args.cluster.now u c.args.clients.now c.args.clients.now records records) (sym w.cluster-is) (cut_next g.C.Conduct.stands (tabled g.C.Conduct.begins g.C.Conduct.goes) c.args.cluster.now c.loop-brick.cluster c.args.clients.now records c.args.client c.loop-brick.brick w.cut.new.cluster (c.loop-brick.invariant records) (there c.loop-brick.brick (length c.bricks-brick-end.result.now) (size_of c.args.cluster.now) (size_of c.loop-brick.cluster) c.loop-brick-test.true (ap length c.bricks-brick-end.ensures) (c.loop-brick.invariant []).size) (sym w.if-is_up.ensures) (w.in-Ok.ensures records).1)
  | else-is_up w ↦ subst (λ (u : Cluster). Advances g.C.Conduct.stands (tabled g.C.Conduct.begins g.C.Conduct.goes) (Unit {0}) (λ p steps. CutsAll (c.loop-brick.brick + 1) p.net c.args.client steps × AllFollowAll steps) c.args.cluster.now u c.args.clients.now c.args.clients.now records records) (sym w.cluster-is) (cut_past g.C.Conduct.stands (tabled g.C.Conduct.begins g.C.Conduct.goes) c.args.cluster.now c.loop-brick.cluster c.args.clients.now records c.args.client c.loop-brick.brick (c.loop-brick.invariant records) (there c.loop-brick.brick (length c.bricks-brick-end.result.now) (size_of c.args.cluster.now) (size_of c.loop-brick.cluster) c.loop-brick-test.true (ap length c.bricks-brick-end.ensures) (c.loop-brick.invariant []).size) (sym w.if-is_up.ensures))
]

pub returns : goal.returns
returns g c = λ records. (refl, subst (λ (n : ℕ). Advances g.C.Conduct.stands (tabled g.C.Conduct.begins g.C.Conduct.goes) (Unit {0}) (λ p steps. CutsAll n p.net c.args.client steps × AllFollowAll steps) c.args.cluster.now c.loop-brick.cluster c.args.clients.now c.args.clients.now records records) (ends c.loop-brick.brick (length c.bricks-brick-end.result.now) (size_of c.args.cluster.now) c.loop-brick-test.false c.loop-brick.auto.brick-end (ap length c.bricks-brick-end.ensures)) (c.loop-brick.invariant records))
