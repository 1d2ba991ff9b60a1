use Rattle.std.proofs.Common.{◌≡◌, ◌∙◌, [], refl, sym, arith}
use Rattle.ec_script.specs.Generator.{left}
use Rattle.ec_script.proofs.Scripts.{creations_none, rounds_none}
use Rattle.ec_script.proofs.generator.Generator.next.Goals as goal

pub returns-then-self-clause-ok : goal.returns-then-self-clause-ok
unfolding left
returns-then-self-clause-ok c = rw (← c.self.view_is, c.if-self.true) refl

pub returns-clause-ok : goal.returns-clause-ok
unfolding left
returns-clause-ok c =
    let over = c.loop-self.invariant in
    let ended : c.loop-self.self-inside.rest.rounds ≡ 0 = omega arith in
    let none : left c.loop-self.self-inside.rest ≡ [] = rw (over.settled, over.files, creations_none, ended, rounds_none) refl in
    (sym c.self.view_is ∙ sym over.same ∙ none, none)
