use Rattle.std.proofs.Common.{◌≡◌, ℕ, ◌-◌, ◌≤◌, arith, ap}
use Rattle.std.proofs.Math.Path.{fun_ext}
use Rattle.ec_attr.specs.Bricks.{count_below, is_in}
use Rattle.ec_attr.specs.GoodGroup.{alike, greatest_below}
use Rattle.ec_answers.specs.Grouping.{absent, heads_of}
use Rattle.ec_answers.proofs.Counting.{below_greatest, count_of_none, greatest_none, greatest_more}
use Rattle.ec_answers.proofs.GoodGroups.{enough}
use Rattle.ec_answers.proofs.Steps.{counted_alike, found, not_both, only_group}
use Rattle.ec_answers.proofs.grouping.group.Goals as goal

pub returns-then-len-k-clause-unique : goal.returns-then-len-k-clause-unique
returns-then-len-k-clause-unique c = λ bricks good.
    let a = c.args.a.now in
    let g = c.args.g.now in
    let same : count_below 31 (is_in c.absent_bricks-absent.result) ≡ count_below 31 (absent a) = ap (count_below 31) (fun_ext c.absent_bricks-absent.ensures) in
    not_both g.n (g.n - g.r) a bricks (omega (arith, g.majority)) c.requires
    (omega (arith, same, c.if-len-k.true, c.len.ensures.count, c.k-k.ensures.value)) good

pub loop-b-init : goal.loop-b-init
loop-b-init c =
    let a = c.args.a.now in
    let same : count_below 31 (is_in c.absent_bricks-absent.result) ≡ count_below 31 (absent a) = ap (count_below 31) (fun_ext c.absent_bricks-absent.ensures) in
    record {
      largest = omega (arith, same, c.len-most.ensures.count, greatest_none (λ (d : ℕ). count_below 31 (alike (heads_of a) d)));
      fewer = omega (arith, c.len-most.ensures.count, c.len.ensures.count, c.if-len-k.false);
    }

pub loop-b-preserved : goal.loop-b-preserved
loop-b-preserved c =
    let a = c.args.a.now in
    let counted = counted_alike a c.loop-b.b c.agreeing_bricks-bricks.result c.in-Some.head c.in-Some.ensures.some.0 c.in-Some.ensures.some.1
    c.agreeing_bricks-bricks.ensures in
    record {
      largest = omega (
        arith,
        c.max-most.ensures,
        c.len-in-loop-b-2.ensures.count,
        counted,
        c.loop-b.invariant.largest,
        greatest_more c.loop-b.b (λ (d : ℕ). count_below 31 (alike (heads_of a) d)),
      );
      fewer = omega (arith, c.max-most.ensures, c.len-in-loop-b-2.ensures.count, c.len-in-loop-b.ensures.count, c.if-len-k-2.false, c.loop-b.invariant.fewer);
    }

pub loop-b-preserved-in_default : goal.loop-b-preserved-in_default
loop-b-preserved-in_default c =
    let a = c.args.a.now in
    let none = count_of_none 31 (alike (heads_of a) c.loop-b.b) c.in_default.ensures.none in
    record {
      largest = omega (arith, none, c.loop-b.invariant.largest, greatest_more c.loop-b.b (λ (d : ℕ). count_below 31 (alike (heads_of a) d)));
      fewer = c.loop-b.invariant.fewer;
    }

pub returns-then-len-k-2-clause-grouped : goal.returns-then-len-k-2-clause-grouped
returns-then-len-k-2-clause-grouped c =
    let g = c.args.g.now in
    let k : g.n - g.r ≤ count_below 31 (is_in c.agreeing_bricks-bricks.result) =
    omega (arith, c.if-len-k-2.true, c.len-in-loop-b.ensures.count, c.k-k.ensures.value) in
    found (g.n - g.r) c.args.a.now c.loop-b.b c.in-Some.head c.group_of.result c.in-Some.ensures.some.0 c.in-Some.ensures.some.1
    (rw c.group_of.ensures.bricks c.agreeing_bricks-bricks.ensures) (rw c.group_of.ensures.bricks k)
    c.group_of.ensures.sinks (rw c.group_of.ensures.bricks c.group_of.ensures.head)
    (λ d l. let most = below_greatest c.loop-b.b d (λ (m : ℕ). count_below 31 (alike (heads_of c.args.a.now) m)) l in
    omega (arith, most, c.loop-b.invariant.largest, c.loop-b.invariant.fewer, c.k-k.ensures.value))

pub returns-then-len-k-2-clause-unique : goal.returns-then-len-k-2-clause-unique
returns-then-len-k-2-clause-unique c = λ bricks good.
    let g = c.args.g.now in
    only_group g.n (g.n - g.r) c.args.a.now (is_in c.group_of.result.bricks) bricks (omega (arith, g.majority)) c.requires
    (returns-then-len-k-2-clause-grouped c).0 good

pub returns-clause-unique : goal.returns-clause-unique
returns-clause-unique c = λ bricks good.
    let g = c.args.g.now in
    let least = enough (g.n - g.r) (heads_of c.args.a.now) bricks (omega (arith, g.majority)) good in
    let all : c.loop-b.b ≡ 31 = omega (arith, c.loop-b-test.false) in
    let whole = ap (λ (n : ℕ). greatest_below n (λ d. count_below 31 (alike (heads_of c.args.a.now) d))) all in
    omega (arith, least, whole, c.loop-b.invariant.largest, c.loop-b.invariant.fewer, c.k-k.ensures.value)
