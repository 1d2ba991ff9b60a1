use Rattle.std.proofs.Common.{◌∙◌, sym, [], ◌∷◌, ◌++◌, arith, refl}
use Rattle.ec_volfile.proofs.Names.{IsFront-none, IsFront-more, take_one, take_full}
use Rattle.std.proofs.lemmas.List.{length-append}
use Rattle.ec_volfile.proofs.section.subvolumes_of.Goals.{then-count-lt-MOST_BRICKS+in_ok-from_slice+in_ok-push, else-count-lt-MOST_BRICKS}
use Rattle.ec_volfile.proofs.section.subvolumes_of.Goals as goal

pub loop-rest-init : goal.loop-rest-init
loop-rest-init c = ([], IsFront-none c.args.args.now c.skip_blanks-rest.result.now c.skip_blanks-rest.ensures.value, refl, c.new-names.ensures, omega arith)

pub loop-rest-preserved : goal.loop-rest-preserved
loop-rest-preserved c =
    let i = c.loop-rest.invariant in
    let w = c.next_word.result.0.now in
    (i.0 ++ w ∷ [], IsFront-more w c.next_word.result.1.now c.next_word.ensures.words c.next_word.ensures.begins i.1, omega (arith, length-append i.0 (w ∷ [])), (elim c.if-count-lt-MOST_BRICKS.branch [ then-count-lt-MOST_BRICKS+in_ok-from_slice+in_ok-push s ↦ s.names-is ∙ (s.in_ok-push.ensures.ok ∙ take_one 31 i.0 c.loop-rest.names w s.in_ok-from_slice.field-0 (omega arith) i.3 s.in_ok-from_slice.ensures) | else-count-lt-MOST_BRICKS w ↦ w.names-is ∙ (i.3 ∙ sym (take_full 31 i.0 c.next_word.result.0.now (omega arith))) ]), omega arith)
