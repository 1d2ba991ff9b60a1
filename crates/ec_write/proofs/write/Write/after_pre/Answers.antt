use Rattle.std.proofs.Common.{ap, ◌∙◌, ℕ}
use Rattle.ec_write.specs.Range.{first_read}
use Rattle.ec_txn.proofs.Turns.{if_more}
use Rattle.ec_wire.specs.declared.op.Op.TheVariants.{Write}
use Rattle.ec_write.proofs.Following.{prepares_by}
use Rattle.ec_write.proofs.write.Write.after_pre.Goals as goal

pub returns : goal.returns
returns g c = if_more c.go_on.result _ _
    (λ next h a e of. prepares_by c.args.ctx.now (Write c.args.self.now.gfid c.args.self.now.off c.args.self.now.bytes) c.args.group.now a c.new.result c.k.result c.first_read-next.result next e of.geometry c.new.ensures c.k.ensures.value
    (c.first_read-next.ensures ∙ ap (λ (n : ℕ). first_read c.k.result c.args.self.now.off n c.args.group.now.head.size) c.len.ensures) h)
    c.go_on.ensures
