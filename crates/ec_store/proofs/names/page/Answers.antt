use Rattle.std.proofs.Common.{rules, ◌≡◌, ◌≤◌, ◌∙◌, ap, inl, inr, sym, subst, option_copied}
use Rattle.std.specs.Ordering.{nat_cmp}
use Rattle.std.specs.Range.Bound.{bound_map}
use Rattle.std.specs.Cmp.Lexicographic.{slice_cmp}
use Rattle.std.specs.BTreeMap.{IsOrdered}
use Rattle.std.specs.BTreeMap.Range.{entries_between}
use Rattle.std.specs.declared.ops.Bound.TheVariants.{Unbounded}
use Rattle.ec_store.specs.Memory.{names_of}
use Rattle.ec_store.specs.Pages.{IsPage, is_rising}
use Rattle.ec_store.proofs.Pages.{first_names_page, first_names_rise, first_of_range}
use Rattle.ec_store.proofs.names.page.Goals as goal

-- at the end of the names
pub returns-in-None-clause-value : goal.returns-in-None-clause-value
returns-in-None-clause-value c =
    let r : c.range-rest.result ≡ entries_between (slice_cmp nat_cmp) (bound_map (λ x. x.now) c.start_of.result) Unbounded c.args.names.now.entries = search rules in
    first_of_range (option_copied c.args.after) (bound_map (λ x. x.now) c.start_of.result) c.args.names.now.entries c.range-rest.result c.loop-rest.list c.loop-rest.rest c.start_of.ensures r c.loop-rest.invariant.0 c.loop-rest.invariant.1 (inl c.in-None.ensures.steps.0)

pub returns-in-None-clause-page : goal.returns-in-None-clause-page
returns-in-None-clause-page c =
    let s : IsOrdered (slice_cmp nat_cmp) c.args.names.now = search rules in
    subst (IsPage (option_copied c.args.after) (names_of c.args.names.now)) (sym (returns-in-None-clause-value c)) (first_names_page c.args.names.now (option_copied c.args.after) s)

pub returns-in-None-clause-rising : goal.returns-in-None-clause-rising
returns-in-None-clause-rising c =
    let s : IsOrdered (slice_cmp nat_cmp) c.args.names.now = search rules in
    ap (is_rising (option_copied c.args.after)) (returns-in-None-clause-value c) ∙ first_names_rise c.args.names.now (option_copied c.args.after) s

-- with 64 names
pub returns-clause-value : goal.returns-clause-value
returns-clause-value c =
    let r : c.range-rest.result ≡ entries_between (slice_cmp nat_cmp) (bound_map (λ x. x.now) c.start_of.result) Unbounded c.args.names.now.entries = search rules in
    first_of_range (option_copied c.args.after) (bound_map (λ x. x.now) c.start_of.result) c.args.names.now.entries c.range-rest.result c.loop-rest.list c.loop-rest.rest c.start_of.ensures r c.loop-rest.invariant.0 c.loop-rest.invariant.1 (inr (subst (λ n. 64 ≤ n) c.len.ensures c.loop-rest-test.false))

pub returns-clause-page : goal.returns-clause-page
returns-clause-page c =
    let s : IsOrdered (slice_cmp nat_cmp) c.args.names.now = search rules in
    subst (IsPage (option_copied c.args.after) (names_of c.args.names.now)) (sym (returns-clause-value c)) (first_names_page c.args.names.now (option_copied c.args.after) s)

pub returns-clause-rising : goal.returns-clause-rising
returns-clause-rising c =
    let s : IsOrdered (slice_cmp nat_cmp) c.args.names.now = search rules in
    ap (is_rising (option_copied c.args.after)) (returns-clause-value c) ∙ first_names_rise c.args.names.now (option_copied c.args.after) s
