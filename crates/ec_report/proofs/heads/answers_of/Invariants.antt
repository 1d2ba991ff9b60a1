use Rattle.std.proofs.Common.{◌≡◌, ℕ, cond, nat_lt, get_or, None, length}
use Rattle.ec_report.specs.Records.{given_of, head_of}
use Rattle.ec_report.proofs.heads.answers_of.Given as goal

abbrev pub invariant-loop-b : goal.invariant-loop-b
invariant-loop-b l = record {
  len : length l.given ≡ 31;
  each : (x : ℕ) → get_or l.given x None ≡ cond (nat_lt x l.b) (given_of (head_of l.heads x)) None;
}
