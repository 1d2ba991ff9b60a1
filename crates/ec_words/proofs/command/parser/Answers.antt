use Rattle.std.proofs.Common.{rules, ◌≡◌, ◌∙◌, ap, ap₂, codes, true}
use Rattle.clap.specs.Simple.{app_of_fields}
use Rattle.clap.specs.Words.{App, app_of, new_app, rule_of, with_rule}
use Rattle.ec_words.specs.Program.{command_word, log_flag, more_words}
use Rattle.ec_words.proofs.command.parser.Goals as goal

-- src/command.rt:30:1
pub returns : goal.returns
returns c =
    let log_is : rule_of c.action-log.result ≡ log_flag = search rules in
    let command_is : rule_of c.required-command.result ≡ command_word = search rules in
    let arguments_is : rule_of c.action-arguments.result ≡ more_words = search rules in
    let first_is : app_of c.in_ok-arg.field-0 ≡ with_rule (new_app (codes "ecrun")) log_flag = c.in_ok-arg.ensures.shape (search rules) ∙ ap₂ with_rule c.new-4.ensures.app log_is in
    let second_is : app_of c.in_ok-arg-2.field-0 ≡ with_rule (with_rule (new_app (codes "ecrun")) log_flag) command_word = c.in_ok-arg-2.ensures.shape (search rules) ∙ ap₂ with_rule first_is command_is in
    let third_is : app_of c.in_ok-parser.parser ≡ with_rule (with_rule (with_rule (new_app (codes "ecrun")) log_flag) command_word) more_words = c.in_ok-parser.ensures.shape (search rules) ∙ ap₂ with_rule second_is arguments_is in
    ap app_of_fields c.no_binary_name.ensures ∙ ap (λ (a : App). record a { top = record a.top { no_binary_name = true } }) third_is
