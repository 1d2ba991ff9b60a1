use Rattle.std.proofs.Common.{None, Option, Some, ap, refl, ℕ}
use Rattle.ec_clients.specs.Calls.{tabled}
use Rattle.ec_wire.specs.declared.event.Event.TheVariants.{Cut}
use Rattle.ec_world.specs.Refusals.{stop_refusal}
use Rattle.ec_world.proofs.Outcomes.{store_outcome}
use Rattle.ec_world.proofs.cutting.cut_from.Goals as goal

pub returns-in-Some : goal.returns-in-Some
returns-in-Some g c = λ records. store_outcome g.C.Conduct.stands (tabled g.C.Conduct.begins g.C.Conduct.goes) (Unit {0}) (Cut c.args.client (Some c.in-Some.brick)) (Cut c.args.client c.args.brick) (ap (λ (o : Option ℕ). Cut c.args.client o) c.in-Some.is) c.args.cluster.now c.cut.new.cluster c.args.clients.now c.args.clients.now records records (stop_refusal c.args.cluster.now c.in-Some.brick) c.cut.result refl (c.cut.ensures records)

pub returns-in-None : goal.returns-in-None
returns-in-None g c = λ records. store_outcome g.C.Conduct.stands (tabled g.C.Conduct.begins g.C.Conduct.goes) (Unit {0}) (Cut c.args.client None) (Cut c.args.client c.args.brick) (ap (λ (o : Option ℕ). Cut c.args.client o) c.in-None.is) c.args.cluster.now c.cut_all.new.cluster c.args.clients.now c.args.clients.now records records None c.cut_all.result refl (c.cut_all.ensures records)
