use Rattle.std.specs.Prelude.{nat_eq}
use Rattle.ec_script.proofs.WordLemmas.{position_le, pieces_around}
use Rattle.ec_script.proofs.words.first_piece.Goals as goal

pub around-requires : goal.around-requires
around-requires c = rw c.place_of.ensures (position_le (λ b. nat_eq b c.args.byte) c.args.bytes.now)

pub returns-clause-pieces : goal.returns-clause-pieces
returns-clause-pieces c =
    pieces_around (λ b. nat_eq b c.args.byte) c.args.bytes.now c.around.result.0.now c.place_of.result _ c.place_of.ensures c.around.ensures.front c.around.ensures.rest
