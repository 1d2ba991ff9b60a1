use Rattle.std.proofs.Common.{◌∙◌}
use Rattle.ec_script.proofs.FileNames.{never_refused}
use Rattle.ec_script.proofs.rounds.file_name.Goals as goal

pub unreachable-requires : goal.unreachable-requires
unreachable-requires c =
    never_refused c.as_bytes.result.now c.args.gfid (c.as_bytes.ensures.value ∙ c.in_ok-text.ensures.ok) c.requires
    (c.new.ensures.refused.0 (rw c.in-Err-NotAName.field-0-is at c.in-Err-NotAName.is))
