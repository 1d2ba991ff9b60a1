use Rattle.std.proofs.Common.{nat_eq, sym}
use Rattle.indexmap.specs.IndexMap.{get}
use Rattle.ec_wire.specs.Places.{has_number, has_place}
use Rattle.ec_wire.proofs.Kept.{taken}
use Rattle.ec_wire.proofs.wire.Wire.take.Goals as goal

pub invariant_of-self : goal.invariant_of-self
invariant_of-self c =
    let w = c.args.self.now in
    record { indexed = taken (get nat_eq w.messages) w.next (has_number w.places) (has_place w.places) w.indexed (get nat_eq c.swap_remove.new.self) (has_number c.remove.new.self) (has_place c.remove.new.self) c.in-Some.m.now c.place_of-place.result c.place_of-place.ensures c.args.number (sym c.in-Some.ensures.value) c.swap_remove.ensures.updates.0 c.remove.ensures.numbers c.remove.ensures.places }
