use Rattle.std.proofs.Common.{◌∙◌, ap}
use Rattle.ec_volfile.specs.Lines.{skip_blanks, after_word}
use Rattle.ec_volfile.proofs.WordLemmas.{next_words, next_shorter, skip_twice}
use Rattle.ec_volfile.proofs.lines.next_word.Goals as goal

pub returns : goal.returns
returns c =
    let s = c.args.bytes.now in
    let e = c.skip_blanks.ensures.value ∙ ap skip_blanks c.split_word.ensures.after in
    record {
      words = rw (e, c.split_word.ensures.word) (next_words s c.requires.begins c.requires.some);
      begins = rw e (skip_twice (after_word s));
      shorter = rw e (next_shorter s c.requires.begins c.requires.some);
    }
