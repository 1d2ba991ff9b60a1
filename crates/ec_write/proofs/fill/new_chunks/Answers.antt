use Rattle.std.proofs.Common.{ℕ, ◌+◌, ◌*◌, List, inl, inr, ap, ◌∙◌, arith}
use Rattle.std.specs.Prelude.{slice_index}
use Rattle.ec_write.specs.Range.{new_byte}
use Rattle.ec_write.proofs.Filling.{filled_more, old_byte}
use Rattle.ec_write.proofs.fill.new_chunks.Goals as goal
use Rattle.ec_write.proofs.fill.new_chunks.Goals.{then-m-width, else-m-width}

pub loop-m-preserved : goal.loop-m-preserved
loop-m-preserved c = record {
  filled = filled_more c.args.k c.args.off c.args.bytes.now c.args.size c.args.front.now c.args.back.now c.loop-m.m c.loop-m.chunks.items c.push.new.self.items c.new_chunk.result c.loop-m.invariant.filled c.in_ok-push.ensures.items c.new_chunk.ensures.chunk
      (λ q l. c.new_chunk.ensures.bytes q l ∙ ap (λ (b : ℕ). new_byte c.args.k c.args.off c.args.bytes.now c.args.size b (512 * c.loop-m.m + q))
      (old_byte c.args.k c.from-width.result c.loop-m.m q c.args.front.now c.args.back.now c.if-m-width.old c.from-width.ensures
      (elim c.if-m-width.branch [
        | then-m-width w ↦ inl (w.if-m-width.true, ap (λ (z : List ℕ). slice_index z q) w.old-is ∙ w.chunk_or_zero-old.ensures q l)
        | else-m-width w ↦ inr ((let n = w.if-m-width.false in omega (arith, n)), ap (λ (z : List ℕ). slice_index z q) w.old-is ∙ w.chunk_or_zero-old-else-m-width.ensures q l)
      ])));
}
