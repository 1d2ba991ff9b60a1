use Rattle.std.proofs.Common.{ℕ, length, get_or, arith}
use Rattle.ec_field.specs.Code.{combined_element}
use Rattle.ec_bitslice.specs.declared.column.Column.{Column}
use Rattle.ec_bitslice.specs.Column.{HasElements}
use Rattle.ec_bitslice.specs.Group.{horner}
use Rattle.ec_bitslice.proofs.SumColumns.{column_starts}
use Rattle.ec_bitslice.proofs.Horner.{put_none, put_more}
use Rattle.ec_bitslice.proofs.kernels.dot.Goals as goal

pub add_others-requires : goal.add_others-requires
add_others-requires c =
    let group = c.new-first.result in
    let starts = λ (at : ℕ) (col : Column) (h : HasElements col at (horner group.coefficients group.chunks.now 0)).
    column_starts col at group.coefficients c.args.coeffs.now group.chunks.now c.args.chunks.now c.new-first.ensures.coefficients c.new-first.ensures.chunks h in
    record {
      lengths = c.requires;
      a = starts 0 c.combined-a.result c.combined-a.ensures;
      b = starts 16 c.combined-b.result c.combined-b.ensures;
      c = starts 32 c.combined-c.result c.combined-c.ensures;
      d = starts 48 c.combined-d.result c.combined-d.ensures;
    }

pub returns-clause-sum : goal.returns-clause-sum
returns-clause-sum c =
    let f : ℕ → ℕ = combined_element (length c.args.coeffs.now) (λ j. get_or c.args.coeffs.now j 0) c.args.chunks.now in
    let zero = c.zero-sum.result in
    let first = put_more c.add_others.new.a 0 f zero c.store.new.chunk c.add_others.ensures.a c.store.ensures (put_none f zero) in
    let second = put_more c.add_others.new.b 16 f c.store.new.chunk c.store-2.new.chunk c.add_others.ensures.b c.store-2.ensures first in
    let third = put_more c.add_others.new.c 32 f c.store-2.new.chunk c.store-3.new.chunk c.add_others.ensures.c c.store-3.ensures second in
    let fourth = put_more c.add_others.new.d 48 f c.store-3.new.chunk c.store-4.new.chunk c.add_others.ensures.d c.store-4.ensures third in
    λ e h. fourth.each e (omega arith)

pub returns-clause-chunk : goal.returns-clause-chunk
returns-clause-chunk c = c.store-4.ensures.chunk
