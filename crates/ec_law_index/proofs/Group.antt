-- Of a set of bricks and the group of the start: some brick of the set is none of that group, or that group has K.
use Rattle.std.proofs.Common.{◌≡◌, ◌⊎◌, ℕ, zero, suc, ◌+◌, ◌<◌, ◌≤◌, Bool, true, false, ◌&&◌, nat_lt, refl, arith}
use Rattle.std.proofs.lemmas.Bool.Decides.{nat_tests}
use Rattle.ec_attr.specs.Bricks.{count_below}
use Rattle.ec_attr.proofs.Sets.{count_none, count_in, count_out, part}
use Rattle.ec_law_base.proofs.Counts.{share, some}

-- a larger set has a brick that the smaller one has not
pub diff : (p q : ℕ → Bool) (n : ℕ) → count_below n q < count_below n p → (c : ℕ) × (c < n) × (p c ≡ true) × (q c ≡ false)
diff p q zero h = absurd (let e = count_none p in omega arith)
diff p q (suc n) h = pick (p n) (q n) refl refl (λ lt. up (diff p q n lt))
  where
    up : (c : ℕ) × (c < n) × (p c ≡ true) × (q c ≡ false) → (c : ℕ) × (c < suc n) × (p c ≡ true) × (q c ≡ false)
    up c = (c.0, omega (arith, c.1), c.2, c.3)

    pick : (t u : Bool) → p n ≡ t → q n ≡ u → (count_below n q < count_below n p → (c : ℕ) × (c < suc n) × (p c ≡ true) × (q c ≡ false)) → (c : ℕ) × (c < suc n) × (p c ≡ true) × (q c ≡ false)
    pick true false e f rest = (n, omega arith, e, f)
    pick true true e f rest = rest (let o = count_in n p e in let u = count_in n q f in omega arith)
    pick false true e f rest = rest (let o = count_out n p e in let u = count_in n q f in omega arith)
    pick false false e f rest = rest (let o = count_out n p e in let u = count_out n q f in omega arith)

-- the bricks of a set below n are as many
inside : (p : ℕ → Bool) (n : ℕ) → count_below n p ≤ count_below n (λ c. p c && nat_lt c n)
inside p n = part n p (λ c. p c && nat_lt c n) (λ c lt e. grind (arith, nat_tests))

pub some_in : (p : ℕ → Bool) (n : ℕ) → 0 < count_below n p → (c : ℕ) × (c < n) × (p c ≡ true)
some_in p n h =
    let m = inside p n in
    let c = some (λ c. p c && nat_lt c n) n (omega arith) in
    (c.0, let e = c.1 in grind (arith, nat_tests), let e = c.1 in grind (arith, nat_tests))

pub share_in : (p q : ℕ → Bool) (n : ℕ) → n < count_below n p + count_below n q → (c : ℕ) × (c < n) × (p c ≡ true) × (q c ≡ true)
share_in p q n h =
    let m = inside q n in
    let c = share p (λ c. q c && nat_lt c n) n (omega arith) in
    (c.0, let e = c.2 in grind (arith, nat_tests), c.1, let e = c.2 in grind (arith, nat_tests))

pub at_least : (x y : ℕ) → (x ≤ y) ⊎ (y < x)
at_least x y = grind arith
