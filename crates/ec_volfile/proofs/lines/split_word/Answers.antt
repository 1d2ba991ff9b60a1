use Rattle.std.proofs.Common.{◌∙◌, sym}
use Rattle.ec_volfile.proofs.LineLemmas.{none_after, first_word_at, first_word_whole}
use Rattle.ec_volfile.proofs.lines.split_word.Goals as goal

pub returns-in-Some-clause-word : goal.returns-in-Some-clause-word
returns-in-Some-clause-word c = c.split_at.ensures.front ∙ sym (first_word_at c.args.bytes.now c.in-Some.i (sym c.in-Some.ensures)).0

pub returns-in-Some-clause-after : goal.returns-in-Some-clause-after
returns-in-Some-clause-after c = c.split_at.ensures.back ∙ sym (first_word_at c.args.bytes.now c.in-Some.i (sym c.in-Some.ensures)).1

pub returns-in-None-clause-word : goal.returns-in-None-clause-word
returns-in-None-clause-word c = sym (first_word_whole c.args.bytes.now (sym c.in-None.ensures)).0

pub returns-in-None-clause-after : goal.returns-in-None-clause-after
returns-in-None-clause-after c = none_after c.args.bytes.now ∙ sym (first_word_whole c.args.bytes.now (sym c.in-None.ensures)).1
