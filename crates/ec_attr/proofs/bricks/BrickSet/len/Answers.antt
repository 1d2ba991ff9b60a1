use Rattle.std.proofs.Common.{◌+◌, ◌∙◌, ap, sym}
use Rattle.ec_attr.specs.Bricks.{is_in}
use Rattle.ec_attr.proofs.Sets.{in_by_shift, out_by_shift, count_more_in, count_more_out}
use Rattle.ec_attr.proofs.bricks.BrickSet.len.Goals as goal
use Rattle.ec_attr.proofs.bricks.BrickSet.len.Goals.{then-self-b-eq1, else-self-b-eq1}

pub loop-b-preserved : goal.loop-b-preserved
loop-b-preserved c =
    elim c.if-self-b-eq1.branch [
      | then-self-b-eq1 w ↦ w.count-is ∙ ap (λ m. m + 1) c.loop-b.invariant
          ∙ sym (count_more_in c.loop-b.b (is_in c.args.self.now) (rw c.self.view_is at (in_by_shift c.self.inside.bits c.loop-b.b w.if-self-b-eq1.true)))
      | else-self-b-eq1 w ↦ w.count-is ∙ c.loop-b.invariant
          ∙ sym (count_more_out c.loop-b.b (is_in c.args.self.now) (rw c.self.view_is at (out_by_shift c.self.inside.bits c.loop-b.b w.if-self-b-eq1.false)))
    ]
