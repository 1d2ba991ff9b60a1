use Rattle.std.proofs.Common.{◌≡◌, sym, subst, ◌∙◌, ap}
use Rattle.ec_txn.specs.declared.reading.Reading.{Reading}
use Rattle.ec_txn.specs.ReadPhase.{reading_asks}
use Rattle.ec_txn.specs.Rounds.{subject}
use Rattle.ec_wire.specs.declared.op.Op.{Op}
use Rattle.ec_read.specs.Read.{read_asks}
use Rattle.ec_read.specs.declared.read.ReadStage.{ReadStage}
use Rattle.ec_read.proofs.Known.{reading_same}
use Rattle.ec_read.proofs.read.ReadWork.request.Goals as goal
use Rattle.ec_read.proofs.read.ReadWork.request.Goals.{in-Opens, in-Reads}

pub returns : goal.returns
returns g c = λ a sees. elim c.match-stage.branch [
  | in-Opens w ↦ subst (λ (s : ReadStage). c.match-stage.result ≡ read_asks c.args.ctx.now s a c.args.brick) (sym w.in-Opens.is)
      (w.result-is ∙ w.request.ensures a (ap (λ (o : Op). subject o) sees.fit) sees.of sees.shows)
  | in-Reads w ↦ subst (λ (s : ReadStage). c.match-stage.result ≡ read_asks c.args.ctx.now s a c.args.brick) (sym w.in-Reads.is)
      (w.result-is ∙ (w.request-in-Reads.ensures a (ap (λ (o : Op). subject o) sees.fit) sees.of sees.shows
      ∙ ap (λ (r : Reading). reading_asks r a c.args.brick) (w.reading.ensures.value
      ∙ reading_same c.args.ctx.now c.args.self.now.gfid c.args.self.now.off c.args.self.now.len c.args.self.now.via w.in-Reads.among w.in-Reads.size a sees.of.geometry sees.fit)))
]
