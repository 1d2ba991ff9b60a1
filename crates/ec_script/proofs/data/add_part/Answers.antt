use Rattle.std.proofs.Common.{ap, refl, ◌∙◌, inr}
use Rattle.std.specs.Prelude.{replicate}
use Rattle.ec_script.specs.Numbers.{number}
use Rattle.ec_script.specs.Data.{digits_bytes, part_bytes}
use Rattle.ec_script.proofs.DataLemmas.{gathers_part, part_digits, repeated_said, repeated_fault}
use Rattle.ec_script.proofs.data.add_part.Goals as goal

pub returns-in-Some-number-clause-found : goal.returns-in-Some-number-clause-found
returns-in-Some-number-clause-found c =
    gathers_part c.args.bulky c.args.bytes.now.items c.add_repeated.new.bytes.items c.add_repeated.result (part_bytes c.args.place c.args.part.now) (replicate c.in-Some-number.times c.in-Some.byte)
    (repeated_said c.args.place c.args.part.now c.in-Some-number.times c.in-Some.byte c.in-Some.ensures.found.0 c.in-Some.ensures.found.1 (c.in-Some-number.ensures ∙ ap number c.in-Some.ensures.found.2))
    c.add_repeated.ensures.found

pub returns-in-None-number-clause-fault : goal.returns-in-None-number-clause-fault
returns-in-None-number-clause-fault c = inr (repeated_fault c.args.place c.args.part.now c.in-Some.ensures.found.0 (c.in-None-number.ensures ∙ ap number c.in-Some.ensures.found.2))

pub returns-in-Ok-clause-found : goal.returns-in-Ok-clause-found
returns-in-Ok-clause-found c =
    gathers_part c.args.bulky c.args.bytes.now.items c.add_digits.new.bytes.items c.add_digits.result (part_bytes c.args.place c.args.part.now) (digits_bytes c.args.part.now)
    (part_digits c.args.place c.args.part.now (c.in-None.ensures.none refl) ∙ c.in-Ok.ensures.ok.0)
    c.add_digits.ensures.found

pub returns-in-Err-clause-fault : goal.returns-in-Err-clause-fault
returns-in-Err-clause-fault c = inr (part_digits c.args.place c.args.part.now (c.in-None.ensures.none refl) ∙ c.in-Err.ensures.err)
