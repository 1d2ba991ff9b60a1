use Rattle.std.proofs.Common.{sym, [], ◌∷◌, ◌++◌}
use Rattle.ec_volfile.proofs.Names.{IsFront-none, IsFront-more, HasSeen-none, HasSeen-more, repeats_in, repeats_none, not_true, not_false, no_bytes}
use Rattle.ec_volfile.proofs.section.repeats.Goals as goal

pub loop-rest-init : goal.loop-rest-init
loop-rest-init c = ([], IsFront-none c.args.args.now c.skip_blanks-rest.result.now c.skip_blanks-rest.ensures.value, HasSeen-none c.new-seen.result.keys c.new-seen.ensures.empty)

pub loop-rest-preserved : goal.loop-rest-preserved
loop-rest-preserved c =
    let i = c.loop-rest.invariant in
    let w = c.next_word.result.0.now in
    (i.0 ++ w ∷ [], IsFront-more w c.next_word.result.1.now c.next_word.ensures.words c.next_word.ensures.begins i.1, HasSeen-more w (not_true c.in_ok-is_new.field-0 _ c.in_ok-is_new.ensures.new c.if-not-branch.false) c.in_ok-is_new.ensures.added i.2)

pub returns-then-not-branch : goal.returns-then-not-branch
returns-then-not-branch c =
    let i = c.loop-rest.invariant in
    sym (repeats_in c.next_word.result.0.now c.next_word.result.1.now c.next_word.ensures.words (not_false c.in_ok-is_new.field-0 _ c.in_ok-is_new.ensures.new c.if-not-branch.true) i.2 i.1)

pub returns : goal.returns
returns c =
    let i = c.loop-rest.invariant in
    sym (repeats_none (no_bytes c.loop-rest.rest.now c.is_empty.result c.is_empty.ensures c.loop-rest-test.false) i.2 i.1)
