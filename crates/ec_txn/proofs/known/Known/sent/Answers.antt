use Rattle.std.proofs.Common.{ap, arith, ◌∙◌}
use Rattle.ec_txn.proofs.Places.{set_as}
use Rattle.ec_txn.specs.Digest.{sent_place}
use Rattle.ec_txn.specs.declared.known.Place.{Place}
use Rattle.ec_txn.proofs.known.Known.sent.Goals as goal

pub returns-clause-at : goal.returns-clause-at
returns-clause-at c = set_as _ _ _ _ _ c.from.ensures (c.sent_one.ensures ∙ ap (λ (p : Place). sent_place p c.args.number c.args.request.now) c.place-place.ensures) (omega (arith, c.args.self.now.places.ok.0))
