use Rattle.std.proofs.Common.{◌++◌, length, refl, sym, ap, ◌∙◌, arith}
use Rattle.std.specs.Prelude.{map}
use Rattle.std.specs.Option.{option_map}
use Rattle.std.proofs.lemmas.List.{length-map}
use Rattle.ec_script.specs.Words.{one_word, words, seen}
use Rattle.ec_script.proofs.WordLemmas.{next_parts, few_words, more_words, first_words, all_words, none_of_piece, no_words, inside_rest}
use Rattle.ec_script.proofs.words.words.Goals as goal

pub loop-rest-preserved : goal.loop-rest-preserved
loop-rest-preserved c =
    let few = few_words (map seen c.add_word.new.found.items) (map seen c.loop-rest.found.items) c.loop-rest.place c.first_between_blanks.result.0.now c.in_ok-add_word.ensures.added (rw length-map (omega (arith, c.loop-rest.invariant.few))) in
    record {
      parts =
          more_words (words c.args.line.now) (map seen c.loop-rest.found.items) (map seen c.add_word.new.found.items) _ c.loop-rest.place c.first_between_blanks.result.0.now
          (next_parts (words c.args.line.now) (map seen c.loop-rest.found.items) c.loop-rest.place (option_map (λ rest. rest.now) c.loop-rest.rest) c.in-Some.text.now c.first_between_blanks.result.0.now (option_map (λ rest. rest.now) c.first_between_blanks.result.1)
          c.loop-rest.invariant.parts (ap (option_map (λ rest. rest.now)) c.in-Some.is) c.first_between_blanks.ensures.pieces)
          c.in_ok-add_word.ensures.added;
      few = omega (arith, rw length-map at few, c.if-len-eq-TOO_MANY_WORDS.false, c.len.ensures, c.add_word.new.found.ok.0);
      inside =
          inside_rest c.first_between_blanks.result.1 (λ rest. length rest.now) c.loop-rest.place (length c.first_between_blanks.result.0.now) (length c.in-Some.text.now) (length c.args.line.now)
          c.first_between_blanks.ensures.shorter (rw c.in-Some.is at c.loop-rest.invariant.inside);
    }

pub returns-in_err-add_word-clause-memory : goal.returns-in_err-add_word-clause-memory
returns-in_err-add_word-clause-memory c =
    λ e none.
    c.in_err-add_word.ensures.some refl
    (none_of_piece (map seen c.loop-rest.found.items) (one_word c.loop-rest.place c.first_between_blanks.result.0.now) _
    (sym none
    ∙ next_parts (words c.args.line.now) (map seen c.loop-rest.found.items) c.loop-rest.place (option_map (λ rest. rest.now) c.loop-rest.rest) c.in-Some.text.now c.first_between_blanks.result.0.now (option_map (λ rest. rest.now) c.first_between_blanks.result.1)
    c.loop-rest.invariant.parts (ap (option_map (λ rest. rest.now)) c.in-Some.is) c.first_between_blanks.ensures.pieces))

pub returns-then-len-eq-TOO_MANY_WORDS-clause-found : goal.returns-then-len-eq-TOO_MANY_WORDS-clause-found
returns-then-len-eq-TOO_MANY_WORDS-clause-found c =
    first_words (words c.args.line.now) (map seen c.add_word.new.found.items) _ 9
    (more_words (words c.args.line.now) (map seen c.loop-rest.found.items) (map seen c.add_word.new.found.items) _ c.loop-rest.place c.first_between_blanks.result.0.now
    (next_parts (words c.args.line.now) (map seen c.loop-rest.found.items) c.loop-rest.place (option_map (λ rest. rest.now) c.loop-rest.rest) c.in-Some.text.now c.first_between_blanks.result.0.now (option_map (λ rest. rest.now) c.first_between_blanks.result.1)
    c.loop-rest.invariant.parts (ap (option_map (λ rest. rest.now)) c.in-Some.is) c.first_between_blanks.ensures.pieces)
    c.in_ok-add_word.ensures.added)
    (length-map c.add_word.new.found.items seen ∙ sym c.add_word.new.found.ok.0 ∙ sym c.len.ensures ∙ c.if-len-eq-TOO_MANY_WORDS.true)

pub returns-clause-found : goal.returns-clause-found
returns-clause-found c =
    all_words (words c.args.line.now) (map seen c.loop-rest.found.items) 9
    (c.loop-rest.invariant.parts ∙ ap (λ ws. map seen c.loop-rest.found.items ++ ws) (rw c.in_default.is (no_words c.loop-rest.place)))
    (rw length-map (omega (arith, c.loop-rest.invariant.few)))
