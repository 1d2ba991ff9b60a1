use Rattle.std.proofs.Common.{map, subst}
use Rattle.std.specs.Prelude.{is_some}
use Rattle.ec_cluster.specs.Views.{flight}
use Rattle.ec_wire.specs.Places.{IsLowest}
use Rattle.ec_clients.specs.Calls.{tabled}
use Rattle.ec_history.specs.Script.{IsSettling}
use Rattle.ec_world.specs.Settling.{Moves}
use Rattle.ec_world.specs.Steps.{IsGivingUp, NoneOr, OneStep}
use Rattle.ec_world.proofs.Becoming.{advances_as, no_memory, one_as, one_breaks_as}
use Rattle.ec_world.proofs.Settled.{gives_up_settles, moves_settle}
use Rattle.ec_world.proofs.settling.settle_step.Goals as goal

pub move_on-requires-clause-flies : goal.move_on-requires-clause-flies
move_on-requires-clause-flies g c = (subst (IsLowest (λ i. is_some (flight c.args.cluster.now i))) c.in-Some.is c.first.ensures.lowest).0

pub returns-in-Ok-clause-ok : goal.returns-in-Ok-clause-ok
returns-in-Ok-clause-ok g c = advances_as g.C.Conduct.stands (tabled g.C.Conduct.begins g.C.Conduct.goes) _ _ (OneStep (Moves c.args.cluster.now c.args.clients.now c.in-Some.no)) (OneStep IsSettling) c.args.cluster.now c.move_on.new.cluster c.args.clients.now c.move_on.new.clients (map g.S.BrickStore.records c.args.stores.now) (map g.S.BrickStore.records c.move_on.new.stores) (λ t. t)
    (λ p steps h m x. one_as (Moves c.args.cluster.now c.args.clients.now c.in-Some.no) IsSettling p steps (λ e y. moves_settle g.C.Conduct.stands (tabled g.C.Conduct.begins g.C.Conduct.goes) c.args.cluster.now c.args.clients.now (map g.S.BrickStore.records c.args.stores.now) p c.requires.sound h m c.in-Some.no e (subst (IsLowest (λ i. is_some (flight c.args.cluster.now i))) c.in-Some.is c.first.ensures.lowest) y) x)
    c.in-Ok.ensures.stepped.1

pub returns-in-Ok-leave_one-clause-ok : goal.returns-in-Ok-leave_one-clause-ok
returns-in-Ok-leave_one-clause-ok g c = advances_as g.C.Conduct.stands (tabled g.C.Conduct.begins g.C.Conduct.goes) (Unit {0}) _ (OneStep (IsGivingUp c.in-Some-first_stuck.stuck.client c.in-Some-first_stuck.stuck.brick c.in-Some-first_stuck.stuck.no)) (OneStep IsSettling) c.args.cluster.now c.leave_one.new.cluster c.args.clients.now c.leave_one.new.clients (map g.S.BrickStore.records c.args.stores.now) (map g.S.BrickStore.records c.args.stores.now) (λ t. tt)
    (λ p steps h m x. one_as (IsGivingUp c.in-Some-first_stuck.stuck.client c.in-Some-first_stuck.stuck.brick c.in-Some-first_stuck.stuck.no) IsSettling p steps (λ e y. gives_up_settles g.C.Conduct.stands (tabled g.C.Conduct.begins g.C.Conduct.goes) c.args.cluster.now c.args.clients.now (map g.S.BrickStore.records c.args.stores.now) p c.requires.sound h m c.in-Some-first_stuck.stuck e (subst (IsLowest (λ i. is_some (flight c.args.cluster.now i))) c.in-None.is c.first.ensures.lowest) c.in-Some-first_stuck.ensures.stuck y) x)
    (c.in-Ok-leave_one.ensures.stepped (map g.S.BrickStore.records c.args.stores.now)).1

pub returns-in-Err-clause-err : goal.returns-in-Err-clause-err
returns-in-Err-clause-err g c = one_breaks_as g.C.Conduct.stands (tabled g.C.Conduct.begins g.C.Conduct.goes) _ _ (OneStep (Moves c.args.cluster.now c.args.clients.now c.in-Some.no)) (OneStep IsSettling) c.args.cluster.now c.move_on.new.cluster c.args.clients.now c.move_on.new.clients (map g.S.BrickStore.records c.args.stores.now) (map g.S.BrickStore.records c.move_on.new.stores) (λ t. t)
    (λ p steps h m x. one_as (Moves c.args.cluster.now c.args.clients.now c.in-Some.no) IsSettling p steps (λ e y. moves_settle g.C.Conduct.stands (tabled g.C.Conduct.begins g.C.Conduct.goes) c.args.cluster.now c.args.clients.now (map g.S.BrickStore.records c.args.stores.now) p c.requires.sound h m c.in-Some.no e (subst (IsLowest (λ i. is_some (flight c.args.cluster.now i))) c.in-Some.is c.first.ensures.lowest) y) x)
    (no_memory g.C.Conduct.stands (tabled g.C.Conduct.begins g.C.Conduct.goes) _ (OneStep (Moves c.args.cluster.now c.args.clients.now c.in-Some.no)) (NoneOr (OneStep (Moves c.args.cluster.now c.args.clients.now c.in-Some.no))) c.args.cluster.now c.move_on.new.cluster c.args.clients.now c.move_on.new.clients (map g.S.BrickStore.records c.args.stores.now) (map g.S.BrickStore.records c.move_on.new.stores) c.in-Err.field-0 c.in-Err.ensures.stepped)

pub returns-in-Err-leave_one-clause-err : goal.returns-in-Err-leave_one-clause-err
returns-in-Err-leave_one-clause-err g c = one_breaks_as g.C.Conduct.stands (tabled g.C.Conduct.begins g.C.Conduct.goes) (Unit {0}) _ (OneStep (IsGivingUp c.in-Some-first_stuck.stuck.client c.in-Some-first_stuck.stuck.brick c.in-Some-first_stuck.stuck.no)) (OneStep IsSettling) c.args.cluster.now c.leave_one.new.cluster c.args.clients.now c.leave_one.new.clients (map g.S.BrickStore.records c.args.stores.now) (map g.S.BrickStore.records c.args.stores.now) (λ t. tt)
    (λ p steps h m x. one_as (IsGivingUp c.in-Some-first_stuck.stuck.client c.in-Some-first_stuck.stuck.brick c.in-Some-first_stuck.stuck.no) IsSettling p steps (λ e y. gives_up_settles g.C.Conduct.stands (tabled g.C.Conduct.begins g.C.Conduct.goes) c.args.cluster.now c.args.clients.now (map g.S.BrickStore.records c.args.stores.now) p c.requires.sound h m c.in-Some-first_stuck.stuck e (subst (IsLowest (λ i. is_some (flight c.args.cluster.now i))) c.in-None.is c.first.ensures.lowest) c.in-Some-first_stuck.ensures.stuck y) x)
    (no_memory g.C.Conduct.stands (tabled g.C.Conduct.begins g.C.Conduct.goes) (Unit {0}) (OneStep (IsGivingUp c.in-Some-first_stuck.stuck.client c.in-Some-first_stuck.stuck.brick c.in-Some-first_stuck.stuck.no)) (NoneOr (OneStep (IsGivingUp c.in-Some-first_stuck.stuck.client c.in-Some-first_stuck.stuck.brick c.in-Some-first_stuck.stuck.no))) c.args.cluster.now c.leave_one.new.cluster c.args.clients.now c.leave_one.new.clients (map g.S.BrickStore.records c.args.stores.now) (map g.S.BrickStore.records c.args.stores.now) c.in-Err-leave_one.field-0 (c.in-Err-leave_one.ensures.stepped (map g.S.BrickStore.records c.args.stores.now)))
