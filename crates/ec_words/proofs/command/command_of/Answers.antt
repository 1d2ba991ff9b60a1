use Rattle.std.proofs.Common.{rules, ◌≡◌, ◌∙◌, None, map, ℕ, true, List, [], ap, sym, subst, inl, inr, refl, Bor, false}
use Rattle.clap.specs.Words.{App, HasKind, HasMatchesOf, app_of, fault_of, found_of, is_simple, is_simple_and_free, kind_of, matches_of, rows_of}
use Rattle.clap.specs.declared.error.Error.{Error}
use Rattle.clap.specs.declared.error.kind.ErrorKind.TheVariants.{OutOfMemory}
use Rattle.clap.specs.declared.parser.matches.ArgMatches.{ArgMatches}
use Rattle.ec_words.proofs.Rows.{bad_order, by_rows, good_order, none_ordered}
use Rattle.clap.proofs.OnLiterals.{clap_on_literals}
use Rattle.ec_words.specs.Program.{order_of, ordered, program}
use Rattle.ec_words.proofs.command.command_of.Goals as goal

simple : is_simple program ≡ true
unfolding clap_on_literals
simple = refl

free : is_simple_and_free program ≡ true
unfolding clap_on_literals
free = refl

abbrev texts : List (Bor (List ℕ)) → List (List ℕ)
texts ws = map (λ (w : Bor (List ℕ)). w.now) ws

-- what a parse without an error orders
ordered_by : (a : App) (words : List (List ℕ)) (m : ArgMatches) → a ≡ program → (is_simple_and_free a ≡ true → fault_of a words ≡ []) → HasMatchesOf a words m → order_of (rows_of (found_of m)) ≡ ordered words
ordered_by a words m e f g =
    let none : fault_of program words ≡ [] = subst (λ (p : App). fault_of p words ≡ []) e (f (ap is_simple_and_free e ∙ free)) in
    let rows : rows_of (found_of m) ≡ matches_of program words = subst (λ (p : App). rows_of (found_of m) ≡ matches_of p words) e (g (ap is_simple e ∙ simple)).0 in
    by_rows words (rows_of (found_of m)) none rows

-- an error that isn't want of memory tells a fault
faulty : (a : App) (words : List (List ℕ)) (e : Error) → a ≡ program → (is_simple_and_free a ≡ true → HasKind (fault_of a words) e) → (kind_of e ≡ OutOfMemory → ⊥) → ordered words ≡ None
faulty a words e same has other = go (subst (λ (p : App). HasKind (fault_of p words) e) same (has (ap is_simple_and_free same ∙ free)))
  where
    go : HasKind (fault_of program words) e → ordered words ≡ None
    go (inl k) = absurd (other k)
    go (inr k) = none_ordered (kind_of e) (fault_of program words) (matches_of program words) k

-- src/command.rt:74:1
pub returns-in-Ok-try_get_matches_from-clause-order :
    goal.returns-in-Ok-try_get_matches_from-clause-order
returns-in-Ok-try_get_matches_from-clause-order c =
    let parser_is : app_of c.in-Ok.parser ≡ program = search rules in
    good_order c.order_of.result _ c.ok_or.result c.ok_or.ensures.value (c.order_of.ensures ∙ ordered_by (app_of c.in-Ok.parser) (texts c.args.words.now) c.in-Ok-try_get_matches_from.matches parser_is c.in-Ok-try_get_matches_from.ensures.kinds c.in-Ok-try_get_matches_from.ensures.matches)

-- src/command.rt:74:1
pub returns-in-Ok-try_get_matches_from-clause-bad :
    goal.returns-in-Ok-try_get_matches_from-clause-bad
returns-in-Ok-try_get_matches_from-clause-bad c =
    let parser_is : app_of c.in-Ok.parser ≡ program = search rules in
    bad_order c.order_of.result _ c.ok_or.result c.ok_or.ensures.value (c.order_of.ensures ∙ ordered_by (app_of c.in-Ok.parser) (texts c.args.words.now) c.in-Ok-try_get_matches_from.matches parser_is c.in-Ok-try_get_matches_from.ensures.kinds c.in-Ok-try_get_matches_from.ensures.matches)

-- src/command.rt:71:1
pub returns-clause-bad : goal.returns-clause-bad
returns-clause-bad c bad =
    let parser_is : app_of c.in-Ok.parser ≡ program = search rules in
    faulty (app_of c.in-Ok.parser) (texts c.args.words.now) c.in-Err.error parser_is c.in-Err.ensures.kinds
    (λ k. let same : c.eq.result ≡ true = search rules in absurd (let no : true ≡ false = sym same ∙ c.if-eq.false in cc))
