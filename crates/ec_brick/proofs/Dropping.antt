-- Gfids are dropped from a set, each time the next one up to the last.
use Rattle.std.proofs.Common.{◌≡◌, ◌≢◌, ◌⊎◌, inl, inr, ℕ, ◌<◌, ◌≤◌, Bool, true, false, not, ◌&&◌, ◌==◌, cond, nat_lt, nat_le, Some, None, refl, sym, ap, ◌∙◌, arith}
use Rattle.std.proofs.lemmas.Bool.Decides.{nat_tests, eqb_tells}
use Rattle.ec_attr.specs.declared.gfid.Gfid.{Gfid}
use Rattle.ec_index.specs.Members.{NextIs, with_member}
use Rattle.ec_brick.specs.Forget.{remains}
use Rattle.ec_brick.proofs.Walking.{lt_cases}

le_cases : (a b : ℕ) → ((nat_le a b ≡ true) × (a ≤ b)) ⊎ ((nat_le a b ≡ false) × (b < a))
le_cases a b = at (nat_le a b) refl where
  at : (t : Bool) → nat_le a b ≡ t → ((t ≡ true) × (a ≤ b)) ⊎ ((t ≡ false) × (b < a))
  at true e = inl (refl, grind (arith, nat_tests))
  at false e = inr (refl, grind (arith, nat_tests))

gone : (a b : Bool) → b ≡ true → (a && not b) ≡ false
gone true b e = ap not e
gone false b e = refl

stays : (a b : Bool) → b ≡ false → (a && not b) ≡ a
stays true b e = ap not e
stays false b e = refl

both_hold : (a b : Bool) → a ≡ true → b ≡ true → (a && b) ≡ true
both_hold a b e f = ap (λ x. x && b) e ∙ f

second_fails : (a b : Bool) → b ≡ false → (a && b) ≡ false
second_fails true b f = f
second_fails false b f = refl

first_fails : (a b : Bool) → a ≡ false → (a && b) ≡ false
first_fails a b e = ap (λ x. x && b) e

le_true : (a b : ℕ) → a ≤ b → nat_le a b ≡ true
le_true a b h = grind (arith, nat_tests)

le_false : (a b : ℕ) → b < a → nat_le a b ≡ false
le_false a b h = grind (arith, nat_tests)

lt_true : (a b : ℕ) → a < b → nat_lt a b ≡ true
lt_true a b h = grind (arith, nat_tests)

lt_false : (a b : ℕ) → b ≤ a → nat_lt a b ≡ false
lt_false a b h = grind (arith, nat_tests)

-- the set after one gfid was dropped
pub record Drops (old new : ℕ → Bool) (g last : ℕ) : Type 0 where
  pub low : (h : ℕ) → h ≤ g → new h ≡ false
  pub high : (h : ℕ) → g < h → new h ≡ old h

pub drops : (old set new : ℕ → Bool) (g last : Gfid) → g.0 ≤ last.0 → ((h : ℕ) → set h ≡ remains (Some g) last old h) → new ≡ with_member set g.0 false → Drops old new g.0 last.0
drops old set new g last within so_far now = record { low = low; high = λ h lt. ap (λ (f : ℕ → Bool). f h) now ∙ ap (λ b. cond b false (set h)) (other (eqb_tells g.0 h) lt) ∙ so_far h ∙ stays (old h) (nat_le h last.0 && nat_lt h g.0) (second_fails (nat_le h last.0) (nat_lt h g.0) (lt_false h g.0 (omega (arith, lt)))) } where
  other : {h : ℕ} → (((g.0 == h) ≡ true) × (g.0 ≡ h)) ⊎ (((g.0 == h) ≡ false) × (g.0 ≢ h)) → g.0 < h → (g.0 == h) ≡ false
  other (inl w) lt = absurd (omega (arith, w.1, lt))
  other (inr w) lt = w.0

  low : (h : ℕ) → h ≤ g.0 → new h ≡ false
  low h le = elim (eqb_tells g.0 h) [ inl w ↦ ap (λ (f : ℕ → Bool). f h) now ∙ ap (λ b. cond b false (set h)) w.0 | inr w ↦ ap (λ (f : ℕ → Bool). f h) now ∙ ap (λ b. cond b false (set h)) w.0 ∙ so_far h ∙ gone (old h) (nat_le h last.0 && nat_lt h g.0) (both_hold (nat_le h last.0) (nat_lt h g.0) (le_true h last.0 (omega (arith, le, within))) (lt_true h g.0 (omega (arith, le, w.1)))) ]

pub drop_next : (old new : ℕ → Bool) (g last next : Gfid) → Drops old new g.0 last.0 → next.0 ≤ last.0 → NextIs new g.0 (Some next) → (h : ℕ) → new h ≡ remains (Some next) last old h
drop_next old new g last next d le is h = elim (lt_cases h next.0) [ inl w ↦ absent (le_cases h g.0) w.1 ∙ sym (gone (old h) (nat_le h last.0 && nat_lt h next.0) (both_hold (nat_le h last.0) (nat_lt h next.0) (le_true h last.0 (omega (arith, w.1, le))) w.0)) | inr w ↦ d.high h (omega (arith, w.1, is.0)) ∙ sym (stays (old h) (nat_le h last.0 && nat_lt h next.0) (second_fails (nat_le h last.0) (nat_lt h next.0) w.0)) ] where
  absent : ((nat_le h g.0 ≡ true) × (h ≤ g.0)) ⊎ ((nat_le h g.0 ≡ false) × (g.0 < h)) → h < next.0 → new h ≡ false
  absent (inl w) lt = d.low h w.1
  absent (inr w) lt = is.2 h w.1 lt

pub drop_last : (old new : ℕ → Bool) (g last : Gfid) → g.0 ≤ last.0 → Drops old new g.0 last.0 → ((h : ℕ) → g.0 < h → h ≤ last.0 → new h ≡ false) → (h : ℕ) → new h ≡ remains None last old h
drop_last old new g last le d none h = elim (le_cases h last.0) [ inl w ↦ absent (le_cases h g.0) w.1 ∙ sym (gone (old h) (nat_le h last.0) w.0) | inr w ↦ d.high h (omega (arith, w.1, le)) ∙ sym (stays (old h) (nat_le h last.0) w.0) ] where
  absent : ((nat_le h g.0 ≡ true) × (h ≤ g.0)) ⊎ ((nat_le h g.0 ≡ false) × (g.0 < h)) → h ≤ last.0 → new h ≡ false
  absent (inl w) le = d.low h w.1
  absent (inr w) le = none h w.1 le
