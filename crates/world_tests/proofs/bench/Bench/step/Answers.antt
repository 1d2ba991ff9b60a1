use Rattle.std.proofs.Common.{◌≡◌, ◌++◌, ◌∙◌, Result, Ok, Err, length, take, drop, refl, sym, ap}
use Rattle.ec_world.specs.declared.refused.Refused.{Refused}
use Rattle.ec_world.specs.declared.refused.Refused.TheVariants.{NoMemory}
use Rattle.ec_world.specs.declared.world.World.{World}
use Rattle.world_tests.proofs.Opened.{lent_back, stays_open}
use Rattle.world_tests.proofs.bench.Bench.step.Goals as goal
use Rattle.world_tests.proofs.bench.Bench.step.Goals.{in-Ok, in-Err+else-wants_memory}

abbrev failed : Refused → Result (Unit {0}) Refused
failed why = Err why

why_is : (why : Refused) → failed why ≡ failed NoMemory → why ≡ NoMemory
why_is why e = cc

pub invariant_of-self : goal.invariant_of-self
invariant_of-self c = λ d. (
  elim d.match-step.branch [ in-Ok w ↦ w.in-Ok.ensures.open | in-Err+else-wants_memory w ↦ stays_open _ _ d.step.new.self (Err w.in-Err.why) (λ e. w.if-wants_memory.ensures refl (why_is w.in-Err.why e)) w.in-Err.ensures.open ],
  lent_back d.step.new.stores (drop (length d.step.new.stores) d.self.inside.stores.items) d.self.inside.stores.len (d.step.auto.stores ∙ d.as_mut_slice.ensures.len)
      ∙ (d.self.inside.stores.ok.0 ∙ (d.self.invariant.1 ∙ sym (ap (λ (w : World). w.bricks) d.step.ensures.same))),
)
