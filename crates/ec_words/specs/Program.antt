-- The program as its command line has it, and what words order.
use Rattle.std.specs.Prelude.{ℕ, Bool, true, false, is_some, List, [], ◌∷◌, Option, Some, None, codes, bytes_eq, if◌then◌else◌}
use Rattle.clap.specs.Words.{App, Kinds, Row, Rule, all_of, fault_of, first_of, matches_of, new_app, new_rule, with_rule}
use Rattle.clap.specs.declared.builder.ArgAction.TheVariants.{Append, Set, SetTrue}
use Rattle.ec_words.specs.declared.command.Command.{Command}
use Rattle.ec_words.specs.declared.command.Command.TheVariants.{Play, Info, Check}

-- a flag `--log`, a word that has to be there, and any number of words after it
abbrev pub log_flag : Rule
log_flag = record (new_rule (codes "log")) { long = Some (codes "log"); action = Some SetTrue }

abbrev pub command_word : Rule
command_word = record (new_rule (codes "command")) { action = Some Set; required = true }

abbrev pub more_words : Rule
more_words = record (new_rule (codes "arguments")) { action = Some Append }

-- the words begin after the program's name
abbrev pub program : App
program = record (with_rule (with_rule (with_rule (new_app (codes "ecrun")) log_flag) command_word) more_words) { top = record (with_rule (with_rule (with_rule (new_app (codes "ecrun")) log_flag) command_word) more_words).top { no_binary_name = true } }

abbrev pub is_set : Option (List ℕ) → Bool
is_set None = false
is_set (Some text) = bytes_eq text (codes "true")

-- what a command word orders, with or without the flag
abbrev pub order_of_word : List ℕ → Bool → Option Command
order_of_word word logs =
    if bytes_eq word (codes "play") then Some (Play logs)
    else if bytes_eq word (codes "info") then Some Info
    else if bytes_eq word (codes "check") then Some Check
    else None

-- no command takes further words
abbrev pub order_by : Option (List ℕ) → Bool → Bool → Option Command
order_by None more logs = None
order_by (Some word) true logs = None
order_by (Some word) false logs = order_of_word word logs

abbrev pub order_of : List Row → Option Command
order_of rows = order_by (first_of (codes "command") rows) (is_some (all_of (codes "arguments") rows)) (is_set (first_of (codes "log") rows))

abbrev pub order_unless : Kinds → List Row → Option Command
order_unless [] rows = order_of rows
order_unless (k ∷ ks) rows = None

-- What words order: nothing where the parser finds a fault in them.
abbrev pub ordered : List (List ℕ) → Option Command
ordered words = order_unless (fault_of program words) (matches_of program words)
