use Rattle.ec_wire.proofs.places.Places.remove.Goals as goal

pub returns-clause-places : goal.returns-clause-places
returns-clause-places c = λ i q. c.remove-2.ensures.updates.0 q i
