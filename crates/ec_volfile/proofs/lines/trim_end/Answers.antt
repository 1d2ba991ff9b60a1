use Rattle.std.proofs.Common.{◌∙◌, sym}
use Rattle.ec_volfile.proofs.LineLemmas.{trim_end-goes, trim_end-stays}
use Rattle.ec_volfile.proofs.lines.trim_end.Goals as goal

pub loop-bytes-preserved : goal.loop-bytes-preserved
loop-bytes-preserved c =
    trim_end-goes c.loop-bytes.bytes.now c.in-len1-up.len_at_least (sym c.is_blank.ensures ∙ c.if-not-is_blank.false) ∙ c.loop-bytes.invariant

pub returns-then-not-is_blank : goal.returns-then-not-is_blank
returns-then-not-is_blank c =
    trim_end-stays c.loop-bytes.bytes.now c.in-len1-up.len_at_least (sym c.is_blank.ensures ∙ c.if-not-is_blank.true) ∙ c.loop-bytes.invariant
