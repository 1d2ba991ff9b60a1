-- The exclusive grant that the lock table holds.
use Rattle.std.proofs.Common.{◌≡◌, ℕ, true, false, Option, Some, None, List, [], ◌∷◌, ◌++◌, refl, ◌∙◌, ap, arith}
use Rattle.std.proofs.lemmas.Bool.Decides.{nat_tests}
use Rattle.ec_attr.specs.declared.gfid.Gfid.{Gfid}
use Rattle.ec_attr.specs.declared.kind.Domain.{Domain}
use Rattle.ec_attr.specs.declared.kind.LockKind.TheVariants.{Exclusive}
use Rattle.ec_locks.specs.Table.{covers, holds, some_grant}
use Rattle.ec_locks.specs.declared.ask.Ask.{Ask as Asking}
use Rattle.ec_locks.proofs.Laws.{laws}
use Rattle.ec_law_net.specs.Turns.{exclusive, exclusive_from}

pub found : (g : Gfid) (d : Domain) (before rest : List Asking) (m : ℕ) → exclusive_from g.0 d before rest ≡ Some m → some_grant (λ a. covers a m g d Exclusive) before rest ≡ true
found g d before [] m e = absurd (cc)
found g d before (a ∷ rest) m e = let h = found g d (before ++ a ∷ []) rest m in grind (arith, nat_tests)

missing : (g : Gfid) (d : Domain) (before rest : List Asking) (n : ℕ) → exclusive_from g.0 d before rest ≡ None → some_grant (λ a. covers a n g d Exclusive) before rest ≡ false
missing g d before [] n e = refl
missing g d before (a ∷ rest) n e = let h = missing g d (before ++ a ∷ []) rest n in grind (arith, nat_tests)

-- who holds exclusively is the one exclusive grant
pub held : (g : Gfid) (d : Domain) (asks : List Asking) (n : ℕ) → holds asks n g d Exclusive ≡ true → exclusive g.0 d asks ≡ Some n
held g d asks n h = of (exclusive g.0 d asks) refl
  where
    of : (o : Option ℕ) → exclusive g.0 d asks ≡ o → exclusive g.0 d asks ≡ Some n
    of None e = absurd (let f = missing g d [] asks n e in cc)
    of (Some m) e = e ∙ ap (λ (i : ℕ). Some i) (laws.alone asks n m g d Exclusive h (found g d [] asks m e))
