-- The test of a geometry.
use Rattle.std.proofs.Common.{◌≡◌, ◌≤◌, ℕ, Bool, true, false, refl, arith}
use Rattle.std.proofs.lemmas.Bool.Decides.{nat_tests}
use Rattle.ec_attr.specs.Geometry.{IsGeometry}
use Rattle.ec_volfile.specs.Sections.{is_geometry}

pub is_geometry-yes : (n r : ℕ) → IsGeometry n r 0 → is_geometry n r ≡ true
unfolding is_geometry
is_geometry-yes n r g = grind (arith, nat_tests)

pub is_geometry-is : (n r a : ℕ) → is_geometry n r ≡ true → a ≤ 1 → IsGeometry n r a
unfolding is_geometry
is_geometry-is n r a e l = record {
  redundant = grind (arith, nat_tests);
  majority = grind (arith, nat_tests);
  least = grind (arith, nat_tests);
  most = grind (arith, nat_tests);
  bricks = grind (arith, nat_tests);
  known = l;
}

pub is_geometry-no : (n r : ℕ) → ¬ (IsGeometry n r 0) → is_geometry n r ≡ false
is_geometry-no n r f = by_cases (is_geometry n r) refl where
  by_cases : (t : Bool) → is_geometry n r ≡ t → t ≡ false
  by_cases true e = absurd (f (is_geometry-is n r 0 e (omega arith)))
  by_cases false e = refl
