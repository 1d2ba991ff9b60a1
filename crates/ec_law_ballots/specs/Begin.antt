-- How a run begins: any bricks that stand for a flat version.
use Rattle.std.specs.Prelude.{◌≡◌, ◌≢◌, ℕ, ◌+◌, ◌-◌, ◌<◌, ◌≤◌, Bool, true, false, not, cond, ◌==◌, ◌&&◌, nat_lt, None}
use Rattle.ec_attr.specs.Bricks.{count_below}
use Rattle.ec_law_base.specs.State.{State, Head}

-- a version above the flat one at which a brick stands
abbrev pub is_leftover : ℕ → ℕ → (ℕ → Head) → ℕ → Bool
is_leftover n origin heads y = nat_lt origin y && nat_lt 0 (count_below n (λ b. (heads b).present && ((heads b).version == y)))

-- a record that a later turn on the flat version may not have been seen by: it leaves that turn below version y
abbrev pub is_low : ℕ → ℕ → Head → Bool
is_low origin y h = h.present && (h.version == origin) && nat_lt (origin + h.dirty) y

-- unmarked, at this version
abbrev pub is_plain : ℕ → Head → Bool
is_plain v h = h.present && not h.marked && (h.version == v)

-- Each leftover version y is a turn of its own, y, which does nothing more: on the flat version, with the bricks that are
-- not low as its PreOps. `fresh`: no record of this gfid was ever made.
abbrev pub begin : ℕ → ℕ → (ℕ → Head) → Bool → (ℕ → ℕ) → State
begin n origin heads fresh call = record {
  present = λ b. (heads b).present;
  version = λ b. (heads b).version;
  dirty = λ b. (heads b).dirty;
  marked = λ b. (heads b).marked;
  holder = λ b. None;
  healer = λ b. None;
  shares = λ a b. false;
  reads = λ a. false;
  maker = λ b. false;
  born = λ b. false;
  grown = λ b. false;
  removed = λ b. false;
  making = not fresh;
  granted = λ a b. false;
  early = λ a b. false;
  seen = λ a b. None;
  pre = λ a b. is_leftover n origin heads a && not (is_low origin a (heads b));
  post = λ a b. is_leftover n origin heads a && is_plain a (heads b);
  spost = λ a b. is_leftover n origin heads a && (heads b).present && (heads b).marked && ((heads b).version == a);
  mark = λ a b. false;
  fixed = λ a b. false;
  stripped_by = λ h b. false;
  ballot = λ a. cond (is_leftover n origin heads a) (record { base = origin; number = a - origin }) (record { base = 0; number = 0 });
  moment = λ a. is_leftover n origin heads a;
  carries = λ a. None;
  at_pre = λ x e b. false;
  at_post = λ x e b. false;
  begun = λ x e. false;
  had = λ x e. false;
  voided = λ e. false;
  voider = λ e. 0;
  dead = λ e. false;
  killer = λ e. 0;
  risen_by = λ b. 0;
  origin = origin;
  began = heads;
  old = λ a. is_leftover n origin heads a;
  call = call;
}

-- No K unmarked records agree in another version than the flat one, each version above it leaves fewer than K records
-- low, and a gfid of which no record was made has none.
pub record Standing (n k origin : ℕ) (heads : ℕ → Head) (fresh : Bool) : Type 0 where
  pub few_alike : (v : ℕ) → v ≢ origin → count_below n (λ b. is_plain v (heads b)) < k
  pub few_low : (b : ℕ) → (heads b).present ≡ true → origin < (heads b).version → count_below n (λ c. is_low origin (heads b).version (heads c)) < k
  pub beyond : (b : ℕ) → n ≤ b → (heads b).present ≡ false
  pub none : fresh ≡ true → (origin ≡ 0) × ((b : ℕ) → (heads b).present ≡ false)
