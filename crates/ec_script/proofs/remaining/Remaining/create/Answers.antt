use Rattle.std.proofs.Common.{◌≡◌, ◌+◌, ◌-◌, refl, arith}
use Rattle.ec_script.specs.Generator.{left}
use Rattle.ec_script.proofs.Scripts.{creations_more}
use Rattle.ec_script.proofs.remaining.Remaining.create.Goals as goal

pub returns-clause-ok : goal.returns-clause-ok
unfolding left
returns-clause-ok c =
    let r = c.args.self.now in
    let after : r.first + (4 - r.creates) + 1 ≡ r.first + (4 - (r.creates - 1)) = omega (arith, r.files, c.requires.files) in
    let more = creations_more r.creates (r.first + (4 - r.creates)) c.requires.files in
    rw (c.requires.settled, more, after, c.in_ok-name.ensures, c.from.ensures) refl
