use Rattle.ec_wire.specs.Flight.{in_flight}
use Rattle.ec_wire.specs.Lanes.{is_going}
use Rattle.ec_wire.specs.Places.{has_place}
use Rattle.ec_wire.proofs.Kept.{lowest_alike}
use Rattle.ec_wire.proofs.wire.Wire.first_between.Goals as goal

pub returns-clause-lowest : goal.returns-clause-lowest
returns-clause-lowest c = lowest_alike (λ i. has_place c.args.self.now.places (record { client = c.args.client; brick = c.args.brick; to_brick = c.args.to_brick; no = i })) (λ i. is_going c.args.client c.args.brick c.args.to_brick (in_flight c.args.self.now i)) (λ i. c.args.self.now.indexed.is_place (record { client = c.args.client; brick = c.args.brick; to_brick = c.args.to_brick; no = i })) c.first_between.result c.first_between.ensures
