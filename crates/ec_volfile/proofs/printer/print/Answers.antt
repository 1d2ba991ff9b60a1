use Rattle.std.proofs.lemmas.Result.{IfOk-weaker}
use Rattle.ec_volfile.specs.Outline.{outline}
use Rattle.ec_volfile.proofs.PrintLaws.{text-means}
use Rattle.ec_volfile.proofs.printer.print.Goals as goal

pub returns-clause-meaning : goal.returns-clause-meaning
returns-clause-meaning c = IfOk-weaker c.text_of.result _ _ (λ t e v w l. text-means (outline c.args.v.now) t e v w l) c.text_of.ensures
