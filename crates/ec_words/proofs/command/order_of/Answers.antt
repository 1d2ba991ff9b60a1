use Rattle.std.proofs.Common.{◌∙◌, ap, option_map, Bor, List, ℕ}
use Rattle.clap.specs.Words.{found_of}
use Rattle.ec_words.proofs.Rows.{order_is}
use Rattle.ec_words.specs.Program.{order_by}
use Rattle.ec_words.proofs.command.order_of.Goals as goal

-- src/command.rt:60:1
pub returns : goal.returns
returns c =
    let word = option_map (λ (w : Bor (List ℕ)). w.now) c.get_str-word.result in
    let log = option_map (λ (w : Bor (List ℕ)). w.now) c.get_str.result in
    c.order_by.ensures ∙ ap (order_by word c.contains_id-more.result) c.is_set.ensures
    ∙ order_is (found_of c.args.matches.now) word log c.contains_id-more.result c.get_str-word.ensures c.contains_id-more.ensures c.get_str.ensures
