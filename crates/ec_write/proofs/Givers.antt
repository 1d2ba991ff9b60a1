-- The first k bricks that pass a test.
use Rattle.std.proofs.Common.{◌≡◌, ◌⊎◌, inl, inr, ℕ, zero, suc, ◌+◌, ◌<◌, ◌≤◌, min, Bool, true, false, ◌||◌, nat_eq, if◌then◌else◌, sym, ◌∙◌, ap, arith}
use Rattle.std.proofs.lemmas.Bool.{cases_eq, cases_Bool, ne_eqb}
use Rattle.ec_attr.specs.Bricks.{count_below, is_in}
use Rattle.ec_attr.proofs.Sets.{added, count_grows, count_more_in, count_more_out, count_none, count_out}

-- of the bricks below b
pub record AreGivers (k b count bits : ℕ) (p : ℕ → Bool) : Type 0 where
  pub done : (x : ℕ) → is_in bits x ≡ true → p x ≡ true
  pub below : (x : ℕ) → is_in bits x ≡ true → x < b
  pub counted : count ≡ count_below 31 (is_in bits)
  pub most : count ≡ min k (count_below b p)
  pub few : count ≤ b

pub count_empty : (n : ℕ) (p : ℕ → Bool) → ((z : ℕ) → p z ≡ false) → count_below n p ≡ 0
count_empty zero p h = count_none p
count_empty (suc n) p h = count_out n p (h n) ∙ count_empty n p h

pub none_given : (k bits : ℕ) (p : ℕ → Bool) → ((x : ℕ) → is_in bits x ≡ false) → AreGivers k 0 0 bits p
none_given k bits p none = record {
  done = λ x t. absurd (let e = none x in cc);
  below = λ x t. absurd (let e = none x in cc);
  counted = sym (count_empty 31 (is_in bits) none);
  most = (let e = count_none p in omega (arith, e));
  few = omega arith;
}

pub one_given : (k b count old new : ℕ) (p : ℕ → Bool) → AreGivers k b count old p → p b ≡ true → count < k → b < 31 → ((c : ℕ) → is_in new c ≡ (nat_eq c b || is_in old c)) → AreGivers k (b + 1) (count + 1) new p
one_given k b count old new p g t less l members = record {
  done = λ x u. elim (cases_eq x b) [
    | inl e ↦ ap p e ∙ t
    | inr d ↦ g.done x (was x d u)
  ];
  below = λ x u. elim (cases_eq x b) [
    | inl e ↦ omega (arith, e)
    | inr d ↦ (let w = g.below x (was x d u) in omega (arith, w))
  ];
  counted = ap (λ n. n + 1) g.counted ∙ sym (added 31 b (is_in old) (is_in new) l members ∙ ap (λ (u : Bool). count_below 31 (is_in old) + (if u then 0 else 1)) out);
  most = (let m = g.most in let c = count_more_in b p t in omega (arith, m, c, less));
  few = (let f = g.few in omega (arith, f));
}
  where
    was : (x : ℕ) → (x ≡ b → ⊥) → is_in new x ≡ true → is_in old x ≡ true
    was x d u = sym (members x ∙ ap (λ (v : Bool). v || is_in old x) (ne_eqb x b d)) ∙ u

    out : is_in old b ≡ false
    out = elim (cases_Bool (is_in old b)) [
      | inl u ↦ absurd (let w = g.below b u in omega (arith, w))
      | inr f ↦ f
    ]

pub none_more : (k b count bits : ℕ) (p : ℕ → Bool) → AreGivers k b count bits p → (p b ≡ false) ⊎ (k ≤ count) → AreGivers k (b + 1) count bits p
none_more k b count bits p g why = record {
  done = g.done;
  below = λ x u. (let w = g.below x u in omega (arith, w));
  counted = g.counted;
  most = elim why [
    | inl f ↦ (let m = g.most in let c = count_more_out b p f in omega (arith, m, c))
    | inr l ↦ (let m = g.most in let c = count_grows b (b + 1) p (omega arith) in omega (arith, m, c, l))
  ];
  few = (let f = g.few in omega (arith, f));
}
