-- A write of a part of a stripe, whose other bytes were read.
use Rattle.std.proofs.Common.{◌≡◌, inl, inr, ℕ, zero, suc, ◌<◌, ◌-◌, ◌+◌, ◌*◌, ◌&&◌, ◌==◌, not, cond, nat_lt, nat_le, slice_index, Bool, true, false, refl, sym, subst, lit≤, arith, List, [], ◌∷◌}
use Rattle.std.proofs.lemmas.Bool.Decides.{nat_tests}
use Rattle.ec_attr.specs.Bricks.{bricks_below, count_below}
use Rattle.ec_attr.specs.GoodGroup.{agree, greatest_below}
use Rattle.ec_wire.specs.declared.request.Request.TheVariants.{WriteChunks}
use Rattle.ec_conduct.specs.Conduct.{MaySend}
use Rattle.ec_conduct.specs.Data.{IsOld, stripe_byte}
use Rattle.ec_conduct.specs.Examples.{IsPartWrite, cached_byte, unread_write, file, full_file, read_write, writing_byte}
use Rattle.ec_conduct.specs.Opened.{account}
use Rattle.ec_conduct.proofs.Examples.{each, free}
use Rattle.ec_conduct.proofs.Refusals.{differ}

pub only : (P : ℕ → Type 0) → P 0 → (i : ℕ) → i < 1 → P i
only P a zero l = a
only P a (suc i) l = absurd (omega arith)

pick : (u v w : Bool) (x y z : ℕ) → u ≡ true → w ≡ false → x ≡ y → x ≡ cond (u && not (v && w)) y (cond (v && w) z 0)
pick false v w x y z a b e = absurd (cc)
pick true v true x y z a b e = absurd (cc)
pick true true false x y z a b e = e
pick true false false x y z a b e = e

byte_is : (x o p : ℕ) → p < 1024 → (p ≡ 0 → x ≡ 65) → (0 < p → x ≡ o) → x ≡ cond (nat_lt p 1024 && not (nat_le 0 p && nat_lt p (0 + 1))) o (cond (nat_le 0 p && nat_lt p (0 + 1)) (slice_index (65 ∷ []) (p - 0)) 0)
byte_is x o zero l first others = first refl
byte_is x o (suc p) l first others = pick (nat_lt (suc p) 1024) (nat_le 0 (suc p)) (nat_lt (suc p) (0 + 1)) x o (slice_index (65 ∷ []) (suc p - 0)) (grind (arith, nat_tests)) (grind (arith, nat_tests)) (others (omega arith))

old_known : (old new : List (List ℕ)) (chunk code : ℕ → List ℕ) → IsPartWrite old new chunk code → IsOld (account writing_byte (read_write chunk)) 2 0 full_file old
unfolding bricks_below count_below agree greatest_below
old_known old new chunk code h = record {
  stripe_is = h.old_is;
  known = inl (record {
    which = λ x. not (x == 2);
    enough = lit≤ tt;
    each = each _ (λ e. (refl, refl, chunk 0, refl, h.chunks 0 (lit≤ tt))) (λ e. (refl, refl, chunk 1, refl, h.chunks 1 (lit≤ tt))) (λ e. absurd (differ e));
  });
}

pub part_allowed : (old new : List (List ℕ)) (chunk code : ℕ → List ℕ) → IsPartWrite old new chunk code → MaySend (account writing_byte (read_write chunk)) 0 (WriteChunks file 1 0 (code 0 ∷ []))
unfolding bricks_below count_below agree greatest_below
part_allowed old new chunk code h = (
  free _ _ _ (refl, lit≤ tt, refl, refl),
  inl (record {
    change = record { grant_held = refl; ready = refl };
    op = refl;
    head = full_file;
    group = refl;
    codes = only _ (record {
      stripe = new;
      of = record {
        stripe_is = h.new_is;
        old = old;
        known = λ i l s. old_known old new chunk code h;
        bytes = λ i l. let e : i ≡ 1024 * 0 + i = omega arith in subst (λ p. stripe_byte new i ≡ cond (nat_lt p 1024 && not (nat_le 0 p && nat_lt p (0 + 1))) (stripe_byte old i) (cond (nat_le 0 p && nat_lt p (0 + 1)) (slice_index (65 ∷ []) (p - 0)) 0)) e (byte_is (stripe_byte new i) (stripe_byte old i) i l (λ z. subst (λ j. stripe_byte new j ≡ 65) (sym z) h.first) (λ z. h.others i z l));
        one = each _ (tt, (tt, (tt, (tt, tt)))) (tt, (tt, (tt, (tt, tt)))) (tt, (tt, (tt, tt)));
      };
      code = h.codes 0 (lit≤ tt);
    });
  }),
)

pub cached_allowed : (old new : List (List ℕ)) (chunk code : ℕ → List ℕ) → IsPartWrite old new chunk code → MaySend (account (cached_byte 1 old) unread_write) 0 (WriteChunks file 1 0 (code 0 ∷ []))
unfolding bricks_below count_below agree greatest_below
cached_allowed old new chunk code h = (
  free _ _ _ (refl, lit≤ tt, refl, refl),
  inl (record {
    change = record { grant_held = refl; ready = refl };
    op = refl;
    head = full_file;
    group = refl;
    codes = only _ (record {
      stripe = new;
      of = record {
        stripe_is = h.new_is;
        old = old;
        known = λ i l s. record { stripe_is = h.old_is; known = inr (0, lit≤ tt, refl) };
        bytes = λ i l. let e : i ≡ 1024 * 0 + i = omega arith in subst (λ p. stripe_byte new i ≡ cond (nat_lt p 1024 && not (nat_le 0 p && nat_lt p (0 + 1))) (stripe_byte old i) (cond (nat_le 0 p && nat_lt p (0 + 1)) (slice_index (65 ∷ []) (p - 0)) 0)) e (byte_is (stripe_byte new i) (stripe_byte old i) i l (λ z. subst (λ j. stripe_byte new j ≡ 65) (sym z) h.first) (λ z. h.others i z l));
        one = each _ (tt, (tt, (tt, tt))) (tt, (tt, (tt, tt))) (tt, (tt, (tt, tt)));
      };
      code = h.codes 0 (lit≤ tt);
    });
  }),
)
