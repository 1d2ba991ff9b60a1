use Rattle.std.proofs.Common.{ℕ, ◌*◌, arith, refl}
use Rattle.ec_bitslice.proofs.SumColumns.{column_more, column_ends}
use Rattle.ec_bitslice.proofs.kernels.add_others.Goals as goal

pub returns : goal.returns
returns c =
    let n : ℕ = 4 * c.loop-four.four in
    record {
      a = column_ends c.loop-four.a 0 n c.args.coeffs.now c.args.chunks.now (omega (arith, c.div_ceil-four-end.ensures)) c.loop-four.invariant.a;
      b = column_ends c.loop-four.b 16 n c.args.coeffs.now c.args.chunks.now (omega (arith, c.div_ceil-four-end.ensures)) c.loop-four.invariant.b;
      c = column_ends c.loop-four.c 32 n c.args.coeffs.now c.args.chunks.now (omega (arith, c.div_ceil-four-end.ensures)) c.loop-four.invariant.c;
      d = column_ends c.loop-four.d 48 n c.args.coeffs.now c.args.chunks.now (omega (arith, c.div_ceil-four-end.ensures)) c.loop-four.invariant.d;
    }

pub loop-four-init : goal.loop-four-init
loop-four-init c = record { a = c.requires.a; b = c.requires.b; c = c.requires.c; d = c.requires.d }

pub loop-four-preserved : goal.loop-four-preserved
loop-four-preserved c =
    let four = c.loop-four.four in
    let n : ℕ = 4 * four in
    let group = c.new-group.result in
    let all = c.args.coeffs.now in
    let chunks = c.args.chunks.now in
    record {
      a = column_more c.loop-four.a c.combined.result c.plus.result 0 four n group.coefficients all group.chunks.now chunks refl c.new-group.ensures.coefficients c.new-group.ensures.chunks c.plus.ensures c.loop-four.invariant.a c.combined.ensures;
      b = column_more c.loop-four.b c.combined-in-loop-four.result c.plus-in-loop-four.result 16 four n group.coefficients all group.chunks.now chunks refl c.new-group.ensures.coefficients c.new-group.ensures.chunks c.plus-in-loop-four.ensures c.loop-four.invariant.b c.combined-in-loop-four.ensures;
      c = column_more c.loop-four.c c.combined-in-loop-four-2.result c.plus-in-loop-four-2.result 32 four n group.coefficients all group.chunks.now chunks refl c.new-group.ensures.coefficients c.new-group.ensures.chunks c.plus-in-loop-four-2.ensures c.loop-four.invariant.c c.combined-in-loop-four-2.ensures;
      d = column_more c.loop-four.d c.combined-in-loop-four-3.result c.plus-in-loop-four-3.result 48 four n group.coefficients all group.chunks.now chunks refl c.new-group.ensures.coefficients c.new-group.ensures.chunks c.plus-in-loop-four-3.ensures c.loop-four.invariant.d c.combined-in-loop-four-3.ensures;
    }
