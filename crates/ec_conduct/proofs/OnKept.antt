-- A call on kept grants.
use Rattle.std.proofs.Common.{◌≡◌, inl, inr, ℕ, zero, suc, ◌<◌, ◌||◌, nat_eq, Bool, true, false, refl, ap, lit≤, arith, Some, None}
use Rattle.std.proofs.lemmas.Nat.Bits.{bit_at-zero, bit_at_above}
use Rattle.std.specs.Int.{bit_at}
use Rattle.ec_attr.specs.Bricks.{bricks_below, count_below, is_in}
use Rattle.ec_attr.specs.GoodGroup.{agree, greatest_below}
use Rattle.ec_attr.specs.declared.kind.Domain.TheVariants.{Inode}
use Rattle.ec_attr.specs.declared.kind.LockKind.TheVariants.{Exclusive}
use Rattle.ec_wire.specs.declared.op.Op.TheVariants.{Truncate}
use Rattle.ec_wire.specs.declared.request.Request.TheVariants.{Ask, PreOp, Query}
use Rattle.ec_conduct.specs.Account.{Lock}
use Rattle.ec_conduct.specs.Conduct.{Keeps, MaySend}
use Rattle.ec_conduct.specs.Examples.{anew, file, kept_grants, later_file, on_kept_grants}
use Rattle.ec_conduct.specs.Given.{FitsKept}
use Rattle.ec_conduct.specs.Opened.{opened}
use Rattle.ec_conduct.proofs.Examples.{each, free, running}

differ : false ≡ true → ⊥
differ e = absurd (cc)

some_lock : (lock : Lock) → Some lock ≡ None → ⊥
some_lock lock e = absurd (cc)

some_step : (n : ℕ) → Some n ≡ None → ⊥
some_step n e = absurd (cc)

same_step : (n m : ℕ) → Some n ≡ Some m → n ≡ m
same_step n m e = cc

outside : (bits x : ℕ) → bit_at bits x ≡ 0 → is_in bits x ≡ false
outside bits x e = ap (λ n. nat_eq n 1) e

pub no_sink : (x : ℕ) → is_in 0 x ≡ false
no_sink x = outside 0 x (bit_at-zero x)

pub left_false : (u v : Bool) → u ≡ false → v ≡ false → (u || v) ≡ true → ⊥
left_false true v a b h = absurd (cc)
left_false false v a b h = absurd (cc)

pub kept_below : (x : ℕ) → (is_in 7 x || is_in 0 x) ≡ true → x < 3
kept_below zero h = lit≤ tt
kept_below (suc zero) h = lit≤ tt
kept_below (suc (suc zero)) h = lit≤ tt
kept_below (suc (suc (suc x))) h = absurd (left_false (is_in 7 (suc (suc (suc x)))) (is_in 0 (suc (suc (suc x)))) (outside 7 (suc (suc (suc x))) (bit_at_above 7 3 (suc (suc (suc x))) (lit≤ tt) (omega arith))) (no_sink (suc (suc (suc x)))) h)

pub kept_fits : FitsKept (on_kept_grants (Truncate file 0)) kept_grants
unfolding count_below
kept_fits = record { of_file = refl; unmarked = refl; enough = lit≤ tt; below = kept_below; apart = λ x h. no_sink x }

pub kept_goes_on : MaySend (opened (on_kept_grants (Truncate file 0))) 0 (PreOp file 1 1 1)
unfolding bricks_below count_below agree greatest_below
kept_goes_on = (free _ _ _ (refl, lit≤ tt, refl, refl), record { grant_held = refl; idle = each _ refl refl refl; once = refl; head = record later_file { dirty = record { content = 0; meta = 0 } }; group = refl; version_is = inl (refl, refl); above = lit≤ tt; limit = omega arith; one = inl refl })

pub kept_anew : Keeps (on_kept_grants (Truncate file 0)) anew
unfolding bricks_below count_below agree greatest_below
kept_anew = (
  (running _ _ (refl, lit≤ tt), record { asked = refl; idle = each _ refl refl refl }),
  (
    (running _ _ (refl, lit≤ tt), record { asked = refl; idle = each _ refl refl refl }),
    (
      (running _ _ (refl, lit≤ tt), record { asked = refl; idle = each _ refl refl refl }),
      ((free _ _ _ (refl, lit≤ tt, refl, refl), record { once = refl; window = inr (each _ refl refl refl, each _ (λ e. absurd (differ e)) (λ e. absurd (differ e)) (λ e. absurd (differ e))); healed = inl (refl, each _ refl refl refl) }), tt),
    ),
  ),
)

pub kept_locked : MaySend (opened (on_kept_grants (Truncate file 0))) 0 (Ask file Inode Exclusive) → ⊥
kept_locked m = some_lock _ m.1.once

pub kept_query : MaySend (opened (on_kept_grants (Truncate file 0))) 0 (Query file 1) → ⊥
kept_query m = elim m.1.together [ inl e ↦ some_step 0 e | inr e ↦ (let n = same_step 0 1 e in absurd (omega (arith, n))) ]
