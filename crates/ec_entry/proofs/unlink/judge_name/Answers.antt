use Rattle.std.proofs.Common.{subst, sym, ◌∙◌, ap}
use Rattle.ec_entry.specs.Unlink.{name_next}
use Rattle.ec_entry.proofs.unlink.judge_name.Goals as goal

pub returns : goal.returns
returns c = (c.name_value-named.result, c.named_children-children.result, c.name_value-named.ensures, c.named_children-children.ensures, c.after_name.ensures ∙ ap (λ dirs. name_next c.args.group.now c.named_children-children.result dirs c.name_value-named.result) c.count_dirs-dirs.ensures)
