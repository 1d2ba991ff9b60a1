use Rattle.ec_play.proofs.TakenLemmas.{takes_held}
use Rattle.ec_play.proofs.reader.LineReader.refill.Goals as goal

pub returns-else-is_empty-clause-read : goal.returns-else-is_empty-clause-read
returns-else-is_empty-clause-read g c = takes_held 4096 (g.S.Source.left c.args.source.now) c.args.self.now c.is_empty.ensures.room
