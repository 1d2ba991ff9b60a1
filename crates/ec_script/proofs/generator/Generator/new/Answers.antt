use Rattle.std.proofs.Common.{◌≡◌, add-zero, refl}
use Rattle.std.proofs.Math.Path.{fun_ext}
use Rattle.ec_attr.specs.Bricks.{is_in}
use Rattle.ec_script.specs.Generator.{events, left, none_stopped}
use Rattle.ec_script.proofs.generator.Generator.new.Goals as goal

pub returns : goal.returns
unfolding events left
returns c =
    let up : is_in c.empty.result ≡ none_stopped = fun_ext c.empty.ensures.members in
    rw (up, add-zero) refl
