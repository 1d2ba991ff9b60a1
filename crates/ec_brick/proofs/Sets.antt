-- Sets with a member put in and taken out.
use Rattle.std.proofs.Common.{◌≡◌, ℕ, Bool, true, false, arith}
use Rattle.std.proofs.lemmas.Bool.Decides.{nat_tests}
use Rattle.ec_index.specs.Members.{with_member}

pub same_set : {X : Type 0} (f k : ℕ → X) → ((x : ℕ) → f x ≡ k x) → f ≡ k
same_set f k each = λ i x. each x i

pub taken_back : (s : ℕ → Bool) (g : ℕ) → s g ≡ false → with_member (with_member s g true) g false ≡ s
taken_back s g out = same_set _ _ (λ x. grind (arith, nat_tests))
