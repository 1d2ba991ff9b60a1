use Rattle.std.proofs.Common.{◌≡◌, ℕ, ◌+◌, ◌∙◌, ◌<◌, ◌≤◌, get_or, length, refl, ap, sym, arith}
use Rattle.ec_attr.specs.Bricks.{is_in, bricks, bricks_below, count_below}
use Rattle.ec_attr.proofs.Sets.{len, count_none, count_after, count_grows, entry_before, entry_at}
use Rattle.ec_matrix.proofs.Steps.{written, long}
use Rattle.ec_matrix.proofs.interpolation.points.Goals as goal

pub loop-b-init : goal.loop-b-init
loop-b-init c = record { len = refl; within = omega arith; counted = sym (count_none (is_in c.args.which.now)); done = λ i l. absurd (omega arith) }

pub bounds-points-count : goal.bounds-points-count
bounds-points-count c =
    let found = c.in-Some.ensures.found in
    let p = is_in c.args.which.now in
    let after : count_below (c.in-Some.b + 1) p ≡ count_below c.loop-b.from p + 1 = count_after c.loop-b.from c.in-Some.b p found.3 found.2 in
    let grows : count_below (c.in-Some.b + 1) p ≤ count_below 31 p = count_grows (c.in-Some.b + 1) 31 p (omega (arith, found.1)) in
    omega (arith, len 31 p, c.requires, c.loop-b.invariant.counted)

pub loop-b-preserved : goal.loop-b-preserved
loop-b-preserved c =
    let found = c.in-Some.ensures.found in
    let inv = c.loop-b.invariant in
    let p = is_in c.args.which.now in
    let b : ℕ = c.in-Some.b in
    let after : count_below (b + 1) p ≡ count_below c.loop-b.from p + 1 = count_after c.loop-b.from b p found.3 found.2 in
    let grows : count_below (b + 1) p ≤ count_below 31 p = count_grows (b + 1) 31 p (omega (arith, found.1)) in
    let place : c.loop-b.count < length c.loop-b.points = omega (arith, len 31 p, c.requires, inv.counted, inv.len) in
    record {
      len = long c.loop-b.points 16 c.loop-b.count (b + 1) inv.len;
      within = omega (arith, found.1);
      counted = ap (λ n. n + 1) inv.counted ∙ sym after;
      done = written c.loop-b.points c.loop-b.count (b + 1) (λ i. get_or (bricks_below (b + 1) p) i 0 + 1) place
          (λ i l. inv.done i l ∙ ap (λ n. n + 1) (sym (entry_before c.loop-b.from b p found.3 found.2 i (omega (arith, inv.counted)))))
          (ap (λ n. n + 1) (sym (entry_at c.loop-b.from b p found.3 found.2) ∙ ap (λ n. get_or (bricks_below (b + 1) p) n 0) (sym inv.counted)));
    }

pub returns : goal.returns
returns c i l =
    let e : bricks c.args.which.now ≡ bricks_below c.loop-b.from (is_in c.args.which.now) = c.in_default.ensures.found in
    let short : i < c.loop-b.count = omega (arith, ap length e, l, len c.loop-b.from (is_in c.args.which.now), c.loop-b.invariant.counted) in
    c.loop-b.invariant.done i short ∙ ap (λ xs. get_or xs i 0 + 1) (sym e)
