use Rattle.std.proofs.Common.{◌+◌, ◌-◌, ◌*◌, ◌/◌, ◌%◌, ◌<◌, arith, inl, inr, ap₂, ◌∙◌, refl}
use Rattle.std.proofs.lemmas.Bool.{cases_lt}
use Rattle.std.specs.Prelude.{bit_xor}
use Rattle.ec_bitslice.proofs.Sums.{group_single}
use Rattle.ec_bitslice.proofs.kernels.muladd.Goals as goal

pub returns-clause-sum : goal.returns-clause-sum
returns-clause-sum c = λ e h. c.loop-i.invariant.done e (omega arith)

pub returns-clause-chunk : goal.returns-clause-chunk
returns-clause-chunk c = c.loop-i.invariant.chunk (omega arith)

pub loop-i-init : goal.loop-i-init
loop-i-init c = record { done = λ e h. absurd (omega arith); left = λ e h l. refl; chunk = λ l. absurd (omega arith) }

pub loop-i-preserved : goal.loop-i-preserved
loop-i-preserved c =
    let i = c.loop-i.i in
    record {
      done = λ e h.
          elim (cases_lt (e / 8) (16 * i)) [
            | inl before ↦ c.store.ensures.below e before ∙ c.loop-i.invariant.done e before
            | inr here ↦
                let to : e / 8 < 16 * i + 16 = omega arith in
                c.store.ensures.within e here to ∙ c.plus.ensures (e / 8 - 16 * i) (e % 8)
                ∙ ap₂ bit_xor
                (c.load.ensures.each e here to ∙ c.loop-i.invariant.left e here (omega arith))
                (c.combined.ensures.each e here to ∙ group_single c.new-group.result.coefficients c.new-group.result.chunks.now c.args.a c.args.c.now e c.new-group.ensures.coefficients (c.new-group.ensures.chunks ∙ c.from_ref.ensures.value))
          ];
      left = λ e from to. c.store.ensures.above e (omega arith) to ∙ c.loop-i.invariant.left e (omega arith) to;
      chunk = λ l. c.store.ensures.chunk;
    }
