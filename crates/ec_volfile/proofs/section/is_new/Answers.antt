use Rattle.std.proofs.Common.{◌∙◌, ap, not, List, ℕ}
use Rattle.std.specs.Borrow.{Bor}
use Rattle.ec_volfile.specs.Sections.{is_among}
use Rattle.ec_volfile.proofs.Names.{is_among-insert, is_among-contains}
use Rattle.ec_volfile.proofs.section.is_new.Goals as goal

pub returns-clause-new : goal.returns-clause-new
returns-clause-new c = c.in_ok-insert.ensures.added ∙ ap not (is_among-contains c.args.seen.now.keys c.args.word.now)

pub returns-clause-added : goal.returns-clause-added
returns-clause-added c = λ q. ap (λ (ks : List (Bor (List ℕ))). is_among ks q) c.in_ok-insert.ensures.keys ∙ is_among-insert c.args.seen.now.keys c.args.word q
