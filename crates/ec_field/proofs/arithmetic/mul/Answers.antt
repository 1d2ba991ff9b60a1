use Rattle.std.proofs.Common.{◌≡◌, suc, ◌-◌, ◌<◌, ◌^◌, ap, sym, ◌∙◌, arith, ℕ}
use Rattle.ec_field.specs.Field.{reduced, product, carryless}
use Rattle.ec_field.proofs.Sums.{sum_none}
use Rattle.ec_field.proofs.Steps.{mul_step, reduce_step, reduced-suc, reduced-zero, product_is}
use Rattle.ec_field.proofs.Products.{product_is_byte}
use Rattle.ec_field.proofs.arithmetic.mul.Goals as goal

value : (i p a b : ℕ) → i ≡ 0 → reduced i p ≡ reduced 7 (carryless a b) → p ≡ product a b
value i p a b none e = sym (reduced-zero p) ∙ ap (λ n. reduced n p) (sym none) ∙ e ∙ sym (product_is a b)

pub loop-i-init : goal.loop-i-init
loop-i-init c = sym (sum_none _)

pub loop-i-preserved : goal.loop-i-preserved
loop-i-preserved c =
    rw (c.from.ensures, c.from-in-loop-i.ensures) (mul_step c.loop-i.p c.args.a c.args.b c.loop-i.i (omega arith) (omega arith) c.loop-i.invariant)

pub loop-i-2-preserved : goal.loop-i-2-preserved
loop-i-2-preserved c =
    let j : ℕ = c.loop-i-2.i - 1 in
    let i_is : c.loop-i-2.i ≡ suc j = omega arith in
    ap (reduced j) (reduce_step c.loop-i-2.p j (omega arith))
    ∙ sym (reduced-suc j c.loop-i-2.p)
    ∙ ap (λ n. reduced n c.loop-i-2.p) (sym i_is)
    ∙ c.loop-i-2.invariant

pub overflow_cast-result : goal.overflow_cast-result
overflow_cast-result c =
    let is : c.loop-i-2.p ≡ product c.args.a c.args.b = value c.loop-i-2.i c.loop-i-2.p c.args.a c.args.b (omega arith) c.loop-i-2.invariant in
    let small : product c.args.a c.args.b < 2 ^ 8 = product_is_byte c.args.a c.args.b (omega arith) (omega arith) in
    omega arith

pub returns : goal.returns
returns c = value c.loop-i-2.i c.loop-i-2.p c.args.a c.args.b (omega arith) c.loop-i-2.invariant
