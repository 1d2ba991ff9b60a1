use Rattle.std.proofs.Common.{◌≡◌, ℕ, ◌+◌, ◌*◌, add-zero, sym, subst, arith}
use Rattle.std.proofs.lemmas.Simd.{length-replicate}
use Rattle.ec_bitslice.proofs.PlaneBits.{HasPlanes, planes_none, planes_more, planes_row, planes_packed, same_packed}
use Rattle.ec_bitslice.proofs.packing.pack.Goals as goal

pub returns-clause-elements : goal.returns-clause-elements
returns-clause-elements c =
    let last : c.loop-i.i ≡ 8 = omega arith in
    let all : HasPlanes (64 * c.loop-i.i) c.args.elements.now c.loop-i.planes = c.loop-i.invariant in
    planes_packed c.args.elements.now c.loop-i.planes c.from_array.result c.from_array.ensures.value c.type_inv.elements
    (subst (λ n. HasPlanes (64 * n) c.args.elements.now c.loop-i.planes) last all)

pub returns-clause-inverse : goal.returns-clause-inverse
returns-clause-inverse c = λ chunk is packed.
    same_packed c.args.elements.now c.from_array.result chunk c.from_array.ensures.chunk is (returns-clause-elements c) packed

pub loop-i-init : goal.loop-i-init
loop-i-init c = planes_none _ _ (let n : ℕ = 512 in length-replicate {A = ℕ} n 0)

pub loop-i-preserved : goal.loop-i-preserved
loop-i-preserved c =
    let last : c.loop-byte.byte ≡ 64 = omega arith in
    let all : HasPlanes (64 * c.loop-i.i + c.loop-byte.byte) c.args.elements.now c.loop-byte.planes = c.loop-byte.invariant in
    planes_row c.loop-i.i c.args.elements.now c.loop-byte.planes
    (subst (λ n. HasPlanes (64 * c.loop-i.i + n) c.args.elements.now c.loop-byte.planes) last all)

pub loop-byte-init : goal.loop-byte-init
loop-byte-init c =
    subst (λ n. HasPlanes n c.args.elements.now c.loop-i.planes) (sym (add-zero (64 * c.loop-i.i))) c.loop-i.invariant

pub loop-byte-preserved : goal.loop-byte-preserved
loop-byte-preserved c =
    planes_more c.loop-i.i c.loop-byte.byte c.plane_byte.result c.args.elements.now c.loop-byte.planes c.loop-i-test.true c.loop-byte-test.true c.plane_byte.ensures c.loop-byte.invariant
