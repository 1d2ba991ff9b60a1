use Rattle.ec_script.specs.Words.{is_blank}
use Rattle.ec_script.proofs.WordLemmas.{position_le, pieces_around}
use Rattle.ec_script.proofs.words.first_between_blanks.Goals as goal

pub around-requires : goal.around-requires
around-requires c = rw c.place_of_blank.ensures (position_le is_blank c.args.bytes.now)

pub returns-clause-pieces : goal.returns-clause-pieces
returns-clause-pieces c =
    pieces_around is_blank c.args.bytes.now c.around.result.0.now c.place_of_blank.result _ c.place_of_blank.ensures c.around.ensures.front c.around.ensures.rest
