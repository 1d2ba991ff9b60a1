-- Sets of bricks, each given by its test, and how many of the first n they hold.
use Rattle.std.proofs.Common.{◌≡◌, ℕ, zero, suc, ◌+◌, ◌<◌, ◌≤◌, Bool, true, false, refl, arith}
use Rattle.ec_attr.specs.Bricks.{count_below}
use Rattle.ec_law_base.specs.Counts.{CountLaws}
use Rattle.ec_attr.proofs.Sets.{count_none, count_in, count_out}

pub mono : (p q : ℕ → Bool) (n : ℕ) → ((c : ℕ) → p c ≡ true → q c ≡ true) → count_below n p ≤ count_below n q
mono p q zero h = rw (count_none, count_none) (omega arith)
mono p q (suc n) h = pick (p n) (q n) refl refl (mono p q n h)
  where
    pick : (t u : Bool) → p n ≡ t → q n ≡ u → count_below n p ≤ count_below n q → count_below (suc n) p ≤ count_below (suc n) q
    pick true true e f le = rw (count_in n p e, count_in n q f) (omega (arith, le))
    pick true false e f le = let g = h n e in absurd (cc)
    pick false true e f le = rw (count_out n p e, count_in n q f) (omega (arith, le))
    pick false false e f le = rw (count_out n p e, count_out n q f) le

pub same : (p q : ℕ → Bool) (n : ℕ) → ((c : ℕ) → p c ≡ q c) → count_below n p ≡ count_below n q
same p q n h =
    let up = mono p q n (λ c e. let x = h c in cc) in
    let down = mono q p n (λ c e. let x = h c in cc) in
    omega arith

pub some : (p : ℕ → Bool) (n : ℕ) → 0 < count_below n p → (c : ℕ) × (p c ≡ true)
some p zero h = absurd (let e = count_none p in omega arith)
some p (suc n) h = pick (p n) refl (some p n)
  where
    pick : (t : Bool) → p n ≡ t → (0 < count_below n p → (c : ℕ) × (p c ≡ true)) → (c : ℕ) × (p c ≡ true)
    pick true e rest = (n, e)
    pick false e rest = rest (let o = count_out n p e in omega arith)

-- two sets that together hold more than n share a brick
pub share : (p q : ℕ → Bool) (n : ℕ) → n < count_below n p + count_below n q → (c : ℕ) × (p c ≡ true) × (q c ≡ true)
share p q zero h = absurd (let e = count_none p in let f = count_none q in omega arith)
share p q (suc n) h = pick (p n) (q n) refl refl (share p q n)
  where
    pick : (t u : Bool) → p n ≡ t → q n ≡ u → (n < count_below n p + count_below n q → (c : ℕ) × (p c ≡ true) × (q c ≡ true)) → (c : ℕ) × (p c ≡ true) × (q c ≡ true)
    pick true true e f rest = (n, e, f)
    pick true false e f rest = rest (let o = count_in n p e in let u = count_out n q f in omega arith)
    pick false true e f rest = rest (let o = count_out n p e in let u = count_in n q f in omega arith)
    pick false false e f rest = rest (let o = count_out n p e in let u = count_out n q f in omega arith)

pub laws : CountLaws
laws = record { mono = mono; same = same; some = some; share = share }
