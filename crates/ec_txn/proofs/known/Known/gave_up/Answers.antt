use Rattle.std.proofs.Common.{ap, arith, ◌∙◌}
use Rattle.ec_txn.proofs.Places.{set_as}
use Rattle.ec_txn.specs.Digest.{given_up}
use Rattle.ec_txn.specs.declared.known.Place.{Place}
use Rattle.ec_txn.proofs.known.Known.gave_up.Goals as goal

pub returns-clause-at : goal.returns-clause-at
returns-clause-at c = set_as _ _ _ _ _ c.from.ensures (c.given_up_one.ensures ∙ ap given_up c.place-place.ensures) (omega (arith, c.args.self.now.places.ok.0))
