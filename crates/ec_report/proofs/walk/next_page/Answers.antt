use Rattle.std.proofs.Common.{◌≡◌, ◌∙◌, ap, Some, List, ℕ, ◌-◌, length, get_or, arith, Option}
use Rattle.ec_brick.specs.Walk.{next_page}
use Rattle.ec_brick.proofs.Walking.{full_next}
use Rattle.ec_report.proofs.walk.next_page.Goals as goal

some_name : (n k : List ℕ) → n ≡ k → ◌≡◌ {A = Option (List ℕ)} (Some n) (Some k)
some_name n k e = ap (λ (x : List ℕ). Some x) e

pub returns-in_ok-copy-in-len1-up-clause-value : goal.returns-in_ok-copy-in-len1-up-clause-value
returns-in_ok-copy-in-len1-up-clause-value c after = let page = c.items-entries.result.now in
    some_name c.in_ok-copy-in-len1-up.field-0 (get_or page (length page - 1) c.index-entries-entries.result).0 c.in_ok-copy-in-len1-up.ensures ∙ full_next after page c.index-entries-entries.result (omega (arith, c.if-entries-lt-FULL.false)) ∙ ap (next_page after) c.items-entries.ensures
