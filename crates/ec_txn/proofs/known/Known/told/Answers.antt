use Rattle.std.proofs.Common.{ap, arith, ◌∙◌}
use Rattle.ec_txn.proofs.Places.{set_as}
use Rattle.ec_txn.specs.Digest.{heard}
use Rattle.ec_txn.specs.declared.known.Place.{Place}
use Rattle.ec_txn.proofs.known.Known.told.Goals as goal

pub returns-clause-at : goal.returns-clause-at
returns-clause-at c = set_as _ _ _ _ _ c.from.ensures (c.heard_one.ensures ∙ ap (λ (p : Place). heard p c.args.reply.now) c.place-place.ensures) (omega (arith, c.args.self.now.places.ok.0))
