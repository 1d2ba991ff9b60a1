use Rattle.std.proofs.Common.{◌≡◌, ℕ, ◌≤◌, None}
use Rattle.std.specs.Prelude.{slice_index_or}
use Rattle.ec_answers.proofs.tests.answers.Given as goal

abbrev pub invariant-loop-b : goal.invariant-loop-b
invariant-loop-b l = (c : ℕ) → 6 ≤ c → slice_index_or l.given_by c None ≡ None
