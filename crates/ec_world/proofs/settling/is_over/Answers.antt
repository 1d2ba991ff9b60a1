use Rattle.std.proofs.Common.{◌≡◌, ◌≢◌, IfSome, Option, Some, None, arith, sym, ◌∙◌}
use denote.Enum.Bare.{same_false}
use Rattle.ec_wire.specs.contracts.phase.Phase.{the_type}
use Rattle.ec_wire.specs.declared.phase.Phase.{Phase}
use Rattle.ec_world.proofs.settling.is_over.Goals as goal

-- a call that is in this phase is in no other one
other_phase : {P : Type 0} (phase_of : P → Phase) (o : Option P) (x y : Phase) → IfSome o (λ at. x ≡ phase_of at) → (x ≡ y → ⊥) → IfSome o (λ at. y ≢ phase_of at)
other_phase phase_of None x y h ne = tt
other_phase phase_of (Some at) x y h ne = λ e. ne (h ∙ sym e)

pub returns-else-running-number-clause-still : goal.returns-else-running-number-clause-still
returns-else-running-number-clause-still g c = λ r. (c.in-Some.running.now, sym c.in-Some.ensures, omega arith, other_phase g.C.Conduct.phase_of (g.C.Conduct.stage c.in-Some.running.now.call) c.phase.result c.args.phase c.phase.ensures (λ e. same_false the_type _ _ (sym c.eq.ensures ∙ r) e))
