-- What a write leaves to its client's next call.
use Rattle.std.proofs.Common.{◌≡◌, inl, ℕ, zero, suc, ◌||◌, Bool, true, false, refl, sym, lit≤, List, slice_index_or}
use Rattle.ec_attr.specs.Bricks.{bricks_below, count_below, is_in}
use Rattle.ec_attr.specs.GoodGroup.{agree, greatest_below}
use Rattle.ec_conduct.specs.Examples.{IsOneStripe, kept_write, left_grants, new_file, own_stripe, unclear_write, whole_write, writing}
use Rattle.ec_conduct.specs.Leaves.{IsKept, IsKeptAt, IsOwnStripe, is_kept}
use Rattle.ec_conduct.specs.Opened.{account}
use Rattle.ec_conduct.proofs.Examples.{each}
use Rattle.ec_conduct.proofs.OnKept.{kept_below, no_sink}
use Rattle.ec_conduct.proofs.Refusals.{differ, no_quorum}

-- what holds of bricks 0, 1 and 2 holds of those in their set
in_three : (P : ℕ → Type 0) → P 0 → P 1 → P 2 → (x : ℕ) → (is_in 7 x || is_in 0 x) ≡ true → P x
in_three P a b c x h = each P a b c x (kept_below x h)

left_or : (u v : Bool) → u ≡ true → (u || v) ≡ true
left_or true v h = refl
left_or false v h = absurd (cc)

in_set : (P : ℕ → Type 0) → P 0 → P 1 → P 2 → (x : ℕ) → is_in 7 x ≡ true → P x
in_set P a b c x h = in_three P a b c x (left_or (is_in 7 x) (is_in 0 x) h)

not_true : (x : ℕ) (u : Bool) → u ≡ false → u ≡ true → ⊥
not_true x u a b = absurd (cc)

no_grant : (x : ℕ) → is_kept left_grants x ≡ false → slice_index_or left_grants.grants x 0 ≡ 0
no_grant zero h = absurd (differ (sym h))
no_grant (suc zero) h = absurd (differ (sym h))
no_grant (suc (suc zero)) h = absurd (differ (sym h))
no_grant (suc (suc (suc x))) h = refl

pub write_leaves : (bytes : List ℕ) (code : ℕ → List ℕ) → IsKept (account (writing bytes) (kept_write code)) left_grants
unfolding bricks_below count_below agree greatest_below
write_leaves bytes code = record {
  answer = refl;
  op = refl;
  head = new_file;
  group = refl;
  enough = lit≤ tt;
  bricks = in_set _ refl refl refl;
  sinks = λ x h. absurd (not_true x (is_in 0 x) (no_sink x) h);
  each = in_three (λ x. IsKeptAt (account (writing bytes) (kept_write code)) left_grants x)
      (record { brick = lit≤ tt; grant = refl; posted = refl; answered = refl; idle = refl })
      (record { brick = lit≤ tt; grant = refl; posted = refl; answered = refl; idle = refl })
      (record { brick = lit≤ tt; grant = refl; posted = refl; answered = refl; idle = refl });
  others = no_grant;
  head_is = in_set _ refl refl refl;
  dirty = inl (refl, in_three _ refl refl refl);
}

pub write_too_early : (bytes : List ℕ) (code : ℕ → List ℕ) → IsKept (account (writing bytes) (unclear_write code)) left_grants → ⊥
write_too_early bytes code k = differ k.answer

pub own_stripe_left : (bytes : List ℕ) (stripe : List (List ℕ)) (code : ℕ → List ℕ) → IsOneStripe bytes stripe code → IsOwnStripe (account (writing bytes) (whole_write code)) (own_stripe 1 stripe)
unfolding bricks_below count_below agree greatest_below
own_stripe_left bytes stripe code h = record {
  op = refl;
  stripe = h.stripe_is;
  posted = record { which = λ x. true; enough = lit≤ tt; each = each _ (λ e. (refl, refl, code 0, refl, h.codes 0 (lit≤ tt))) (λ e. (refl, refl, code 1, refl, h.codes 1 (lit≤ tt))) (λ e. (refl, refl, code 2, refl, h.codes 2 (lit≤ tt))) };
}

pub other_stripe_refused : (bytes : List ℕ) (stripe : List (List ℕ)) (code : ℕ → List ℕ) → IsOwnStripe (account (writing bytes) (whole_write code)) (own_stripe 0 stripe) → ⊥
unfolding bricks_below count_below agree greatest_below
other_stripe_refused bytes stripe code o = let q = o.posted in no_quorum _ q.which q.enough q.each (each _ (λ r. differ r.1) (λ r. differ r.1) (λ r. differ r.1))
