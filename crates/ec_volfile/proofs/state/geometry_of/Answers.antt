use Rattle.std.proofs.Common.{refl, ◌∙◌, ap, sym, Bool, if◌then◌else◌}
use Rattle.ec_volfile.proofs.Shapes.{is_geometry-yes, is_geometry-no}
use Rattle.ec_volfile.proofs.state.geometry_of.Goals as goal

pub returns-in-Ok-clause-ok : goal.returns-in-Ok-clause-ok
returns-in-Ok-clause-ok c =
    let g = c.in-Ok.ensures.ok in
    (is_geometry-yes c.args.n c.args.r g.0, c.systematic.ensures.n ∙ g.1, c.systematic.ensures.r ∙ g.2, c.systematic.ensures.algorithm ∙ ap (λ (t : Bool). if t then 1 else 0) (sym c.if-systematic.true))

pub returns-in-Ok-2-clause-ok : goal.returns-in-Ok-2-clause-ok
returns-in-Ok-2-clause-ok c =
    let g = c.in-Ok-2.ensures.ok in
    (is_geometry-yes c.args.n c.args.r g.0, g.1, g.2, g.3 ∙ ap (λ (t : Bool). if t then 1 else 0) (sym c.if-systematic.false))

pub returns-in-Err-clause-refused : goal.returns-in-Err-clause-refused
returns-in-Err-clause-refused c =
    let g = c.in-Err.ensures.refused in
    (is_geometry-no c.args.n c.args.r g.0, rw (g.1, g.2) refl)
