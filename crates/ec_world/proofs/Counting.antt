-- How many bricks a read names.
use Rattle.std.proofs.Common.{◌≡◌, ℕ, ◌+◌, true, false, arith}
use Rattle.std.proofs.lemmas.Bool.Decides.{nat_tests}
use Rattle.std.specs.Prelude.{nat_eq}

pub as_many : (l m k r n : ℕ) → l ≡ m → k + r ≡ n → l ≡ k → nat_eq (m + r) n ≡ true
as_many l m k r n e f same = grind (arith, nat_tests)

pub others : (l m k r n : ℕ) → l ≡ m → k + r ≡ n → ¬ (l ≡ k) → nat_eq (m + r) n ≡ false
others l m k r n e f other = grind (arith, nat_tests)
