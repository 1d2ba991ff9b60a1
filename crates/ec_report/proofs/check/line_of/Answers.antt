use Rattle.std.proofs.Common.{rules, string_bytes}
use Rattle.ec_attr.specs.Bricks.{bricks}
use Rattle.ec_report.proofs.Lining.{line_parts}
use Rattle.ec_report.proofs.check.line_of.Goals as goal

pub returns : goal.returns
returns c = line_parts c.args.g.0 c.args.heads.now (bricks c.args.group.now) c.args.orphan (string_bytes c.in_ok-line.line) (string_bytes c.push_word.new.text) (string_bytes c.push_states.new.text) (string_bytes c.push_group.new.text) (string_bytes c.push.new.self) c.in_ok-line.ensures (search rules) c.in_ok-push_states.ensures c.in_ok-push_group.ensures (search rules)
