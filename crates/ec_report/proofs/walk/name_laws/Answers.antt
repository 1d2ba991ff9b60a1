use Rattle.std.proofs.Common.{rules, ◌≡◌, ◌≤◌, true, List, ℕ, length, nat_le, arith}
use Rattle.std.proofs.lemmas.Bool.Decides.{nat_tests}
use Rattle.ec_attr.specs.Name.{is_name}
use Rattle.ec_brick.proofs.NamePages.{both}
use Rattle.ec_report.proofs.walk.name_laws.Goals as goal

few : (n : List ℕ) → is_name n ≡ true → length n ≤ 255
few n h = let w = both _ _ (both _ _ (both _ _ h).0).0 in le (length n) w.1 where
  le : (n : ℕ) → nat_le n 255 ≡ true → n ≤ 255
  le n h = grind (arith, nat_tests)

pub returns : goal.returns
returns c = record { few = few c.args.name.now c.bytes.ensures.name; bytes = λ i. search rules }
