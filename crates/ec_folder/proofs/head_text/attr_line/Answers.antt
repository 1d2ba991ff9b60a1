use Rattle.std.proofs.Common.{rules, append_assoc}
use Rattle.ec_folder.proofs.head_text.attr_line.Goals as goal

pub returns : goal.returns
returns c = search (rules, append_assoc)
