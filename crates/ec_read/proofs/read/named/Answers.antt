use Rattle.std.proofs.Common.{◌≡◌, ◌<◌, ◌&&◌, nat_lt, ℕ, Bool, true, sym, ap, ◌∙◌, arith, Option}
use Rattle.std.proofs.lemmas.Bool.Decides.{nat_tests}
use Rattle.ec_attr.specs.Bricks.{is_in}
use Rattle.ec_read.specs.Read.{is_named}
use Rattle.ec_read.proofs.read.named.Goals as goal

within : (x b : ℕ) (p q : Bool) → b ≡ 31 → x < 31 → p ≡ (nat_lt x b && q) → p ≡ q
within x b p q e l h = (let t : nat_lt x b ≡ true = grind (arith, nat_tests) in h ∙ ap (λ (u : Bool). u && q) t)

pub returns : goal.returns
returns c = λ x l.
    let full : c.loop-brick.brick ≡ 31 = omega arith in
    within x c.loop-brick.brick (is_in c.loop-brick.bricks x) (is_in c.args.group.now x && is_in c.in-Some.via x) full l (c.loop-brick.invariant x)
    ∙ ap (λ (o : Option ℕ). is_in c.args.group.now x && is_named o x) (sym c.in-Some.is)
