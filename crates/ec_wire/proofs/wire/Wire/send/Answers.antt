use Rattle.std.proofs.Common.{nat_eq, refl, ap}
use Rattle.std.specs.Map.{lookup}
use Rattle.indexmap.specs.IndexMap.{get}
use Rattle.ec_wire.specs.Places.{has_number, has_place}
use Rattle.ec_wire.specs.declared.message.Message.{Message}
use Rattle.ec_wire.proofs.Kept.{sent, undone}
use Rattle.ec_wire.proofs.wire.Wire.send.Goals as goal

pub invariant_of-self-in-Ok : goal.invariant_of-self-in-Ok
invariant_of-self-in-Ok c =
    let w = c.args.self.now in
    let m : Message = record { no = w.next; call = c.args.call; client = c.args.client; brick = c.args.brick; body = c.args.body } in
    record { indexed = sent (get nat_eq w.messages) w.next (has_number w.places) (has_place w.places) w.indexed (get nat_eq c.insert-2.new.self) (has_number c.insert.new.self) (has_place c.insert.new.self) m c.place_of-place.result c.place_of-place.ensures refl c.in-Ok.ensures.updates.0 c.in_default.ensures.numbers c.in_default.ensures.places }

pub invariant_of-self-in-Err-insert : goal.invariant_of-self-in-Err-insert
invariant_of-self-in-Err-insert c =
    let w = c.args.self.now in
    let m : Message = record { no = w.next; call = c.args.call; client = c.args.client; brick = c.args.brick; body = c.args.body } in
    record { indexed = undone (get nat_eq w.messages) w.next (has_number w.places) (has_place w.places) w.indexed (get nat_eq c.insert-2.new.self) (has_number c.remove.new.self) (has_place c.remove.new.self) m c.place_of-place.result c.place_of-place.ensures refl (ap (λ es i. lookup (nat_eq i) es) c.in-Err-insert.ensures.err) (has_number c.insert.new.self) (has_place c.insert.new.self) c.in_default.ensures.numbers c.in_default.ensures.places c.remove.ensures.numbers c.remove.ensures.places }
