use Rattle.std.proofs.Common.{◌≡◌, true, false, ◌∙◌}
use Rattle.ec_store.specs.Records.{is_within}
use Rattle.ec_entry.proofs.Gathering.{least_keep, least_take}
use Rattle.ec_entry.proofs.paging.lesser.Goals as goal

pub returns-then-is_within : goal.returns-then-is_within
returns-then-is_within c =
    let within : is_within c.args.least c.in-Some.end ≡ true = cc (c.as_ref.ensures.value, c.is_within.ensures, c.if-is_within.true) in
    λ b ends e w. least_take b ends c.args.least c.in-Some.end (e ∙ c.in-Some.is) within w

pub returns-else-is_within : goal.returns-else-is_within
returns-else-is_within c =
    let past : is_within c.args.least c.in-Some.end ≡ false = cc (c.as_ref.ensures.value, c.is_within.ensures, c.if-is_within.false) in
    λ b ends e w. least_keep b ends c.args.least c.in-Some.end (e ∙ c.in-Some.is) past w
