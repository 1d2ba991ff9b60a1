-- The history of a write of one stripe.
use Rattle.std.proofs.Common.{◌≡◌, inl, ℕ, ◌<◌, ◌-◌, ◌+◌, ◌*◌, ◌&&◌, not, cond, nat_lt, nat_le, max, length, slice_index, Bool, true, false, refl, sym, ap, ◌∙◌, subst, lit≤, arith, List, [], ◌∷◌, ◌++◌, None}
use Rattle.ec_attr.specs.Bricks.{bricks_below, count_below}
use Rattle.ec_attr.specs.GoodGroup.{agree, greatest_below}
use Rattle.ec_wire.specs.declared.answer.Answer.TheVariants.{Size}
use Rattle.ec_wire.specs.declared.op.Op.TheVariants.{Write}
use Rattle.ec_wire.specs.declared.reply.Reply.TheVariants.{Done}
use Rattle.ec_wire.specs.declared.request.Request.TheVariants.{Clear, PostOp, WriteChunks}
use Rattle.ec_conduct.specs.Account.{Account, account_from, sent}
use Rattle.ec_conduct.specs.Changes.{are, write_tests}
use Rattle.ec_conduct.specs.Conduct.{Keeps, KeepsFrom}
use Rattle.ec_conduct.specs.Examples.{IsOneStripe, answered, clears, file, grant_at, new_file, post_ops, releases, whole_write, writes_of, writing}
use Rattle.ec_conduct.proofs.Examples.{begun_keeps, each, free, prepared, running}
use Rattle.ec_conduct.proofs.Fronts.{join_from, round_keeps}
use Rattle.ec_conduct.proofs.Parts.{only}
use Rattle.std.proofs.lemmas.Bool.Decides.{nat_tests}
use Rattle.ec_conduct.specs.Data.{AllCode, IsNewChunk, requests_at, stripe_byte}

none_stays : (p : ℕ) (b : Bool) → (nat_lt p 0 && b) ≡ true → ⊥
none_stays p b e = absurd (grind (arith, nat_tests))

pick : (u v w : Bool) (x y z : ℕ) → u ≡ false → v ≡ true → w ≡ true → x ≡ z → x ≡ cond (u && not (v && w)) y (cond (v && w) z 0)
pick true v w x y z a b c e = absurd (cc)
pick false false w x y z a b c e = absurd (cc)
pick false true false x y z a b c e = absurd (cc)
pick false true true x y z a b c e = e

byte_is : (bytes : List ℕ) (x y p : ℕ) → length bytes ≡ 1024 → p < 1024 → x ≡ slice_index bytes p → x ≡ cond (nat_lt p 0 && not (nat_le 0 p && nat_lt p (0 + length bytes))) y (cond (nat_le 0 p && nat_lt p (0 + length bytes)) (slice_index bytes (p - 0)) 0)
byte_is bytes x y p len l e =
    let below : p < 0 + length bytes = omega (arith, len, l) in
    let same : p ≡ p - 0 = omega arith in
    pick (nat_lt p 0) (nat_le 0 p) (nat_lt p (0 + length bytes)) x y (slice_index bytes (p - 0)) (grind (arith, nat_tests)) (grind (arith, nat_tests)) (grind (arith, nat_tests)) (e ∙ ap (λ j. slice_index bytes j) same)

-- the chunk of a brick is right where all that were sent are of this stripe
chunk_fits : (d : Account) (b : ℕ) (bytes : List ℕ) (stripe : List (List ℕ)) (code : ℕ → List ℕ) → IsOneStripe bytes stripe code → b < 3 → ((x : ℕ) → x < 3 → AllCode (record d { given = writing bytes }) x stripe 0 (requests_at d 2 x)) → IsNewChunk (record d { given = writing bytes }) b 2 0 new_file (code b)
chunk_fits d b bytes stripe code h l one = record {
  stripe = stripe;
  of = record {
    stripe_is = h.stripe_is;
    old = stripe;
    known = λ i m s. absurd (none_stays (1024 * 0 + i) _ s);
    bytes = λ i m. let e : i ≡ 1024 * 0 + i = omega arith in subst (λ p. stripe_byte stripe i ≡ cond (nat_lt p 0 && not (nat_le 0 p && nat_lt p (0 + length bytes))) (stripe_byte stripe i) (cond (nat_le 0 p && nat_lt p (0 + length bytes)) (slice_index bytes (p - 0)) 0)) e (byte_is bytes (stripe_byte stripe i) (stripe_byte stripe i) i h.len m (h.bytes_are i m));
    one = one;
  };
  code = h.codes b l;
}

abbrev asked_one : List ℕ → (ℕ → List ℕ) → Account
asked_one bytes code = sent (prepared (Write file 0 bytes)) 0 19 (WriteChunks file 1 0 (code 0 ∷ []))

abbrev asked_two : List ℕ → (ℕ → List ℕ) → Account
asked_two bytes code = sent (asked_one bytes code) 1 20 (WriteChunks file 3 0 (code 1 ∷ []))

writes_keep : (bytes : List ℕ) (stripe : List (List ℕ)) (code : ℕ → List ℕ) → IsOneStripe bytes stripe code → KeepsFrom (prepared (Write file 0 bytes)) (writes_of code 19)
unfolding bricks_below count_below agree greatest_below
writes_keep bytes stripe code h = round_keeps (prepared (Write file 0 bytes)) 19 (λ b. WriteChunks file (grant_at b) 0 (code b ∷ [])) Done
    (free _ _ _ (refl, lit≤ tt, refl, refl), inl (record { change = record { grant_held = refl; ready = refl }; op = refl; head = new_file; group = refl; codes = only _ (chunk_fits (prepared (Write file 0 bytes)) 0 bytes stripe code h (lit≤ tt) (each _ (tt, (tt, (tt, tt))) (tt, (tt, (tt, tt))) (tt, (tt, (tt, tt))))) }))
    (free _ _ _ (refl, lit≤ tt, refl, refl), inl (record { change = record { grant_held = refl; ready = refl }; op = refl; head = new_file; group = refl; codes = only _ (chunk_fits (asked_one bytes code) 1 bytes stripe code h (lit≤ tt) (each _ (h.codes 0 (lit≤ tt), (tt, (tt, (tt, tt)))) (tt, (tt, (tt, tt))) (tt, (tt, (tt, tt))))) }))
    (free _ _ _ (refl, lit≤ tt, refl, refl), inl (record { change = record { grant_held = refl; ready = refl }; op = refl; head = new_file; group = refl; codes = only _ (chunk_fits (asked_two bytes code) 2 bytes stripe code h (lit≤ tt) (each _ (h.codes 0 (lit≤ tt), (tt, (tt, (tt, tt)))) (h.codes 1 (lit≤ tt), (tt, (tt, (tt, tt)))) (tt, (tt, (tt, tt))))) }))

abbrev written : List ℕ → (ℕ → List ℕ) → Account
written bytes code = account_from (prepared (Write file 0 bytes)) (writes_of code 19)

abbrev posted : List ℕ → (ℕ → List ℕ) → Account
posted bytes code = account_from (written bytes code) (post_ops file 0 1 1024 None 25)

abbrev clean : List ℕ → (ℕ → List ℕ) → Account
clean bytes code = account_from (posted bytes code) (clears file 1 31)

passes : (len grant : ℕ) (chunk : List ℕ) → len ≡ 1024 → are (write_tests 2 0 len) (WriteChunks file grant 0 (chunk ∷ []) ∷ []) ≡ true
passes len grant chunk e = subst (λ n. are (write_tests 2 0 n) (WriteChunks file grant 0 (chunk ∷ []) ∷ []) ≡ true) (sym e) refl

size_is : (len : ℕ) → len ≡ 1024 → 1024 ≡ max 0 (0 + len)
size_is len e = subst (λ n. 1024 ≡ max 0 (0 + n)) (sym e) refl

filled : (len : ℕ) → len ≡ 1024 → 0 < len
filled len e = omega (arith, e)

posts_keep : (bytes : List ℕ) (stripe : List (List ℕ)) (code : ℕ → List ℕ) → IsOneStripe bytes stripe code → KeepsFrom (written bytes code) (post_ops file 0 1 1024 None 25)
unfolding bricks_below count_below agree greatest_below
posts_keep bytes stripe code h = round_keeps (written bytes code) 25 (λ b. PostOp file (grant_at b) 0 1 1024 None) Done
    (free _ _ _ (refl, lit≤ tt, refl, refl), record { grant_held = refl; head = new_file; group = refl; whole = record { done = refl; all = (refl, filled _ h.len, passes _ 1 (code 0) h.len) }; quorum = record { which = λ x. true; enough = lit≤ tt; each = each _ (λ e. (refl, record { done = refl; all = (refl, filled _ h.len, passes _ 1 (code 0) h.len) })) (λ e. (refl, record { done = refl; all = (refl, filled _ h.len, passes _ 3 (code 1) h.len) })) (λ e. (refl, record { done = refl; all = (refl, filled _ h.len, passes _ 5 (code 2) h.len) })) }; dirty = 1; pre = refl; version = refl; size_is = size_is _ h.len; attr_is = refl })
    (free _ _ _ (refl, lit≤ tt, refl, refl), record { grant_held = refl; head = new_file; group = refl; whole = record { done = refl; all = (refl, filled _ h.len, passes _ 3 (code 1) h.len) }; quorum = record { which = λ x. true; enough = lit≤ tt; each = each _ (λ e. (refl, record { done = refl; all = (refl, filled _ h.len, passes _ 1 (code 0) h.len) })) (λ e. (refl, record { done = refl; all = (refl, filled _ h.len, passes _ 3 (code 1) h.len) })) (λ e. (refl, record { done = refl; all = (refl, filled _ h.len, passes _ 5 (code 2) h.len) })) }; dirty = 1; pre = refl; version = refl; size_is = size_is _ h.len; attr_is = refl })
    (free _ _ _ (refl, lit≤ tt, refl, refl), record { grant_held = refl; head = new_file; group = refl; whole = record { done = refl; all = (refl, filled _ h.len, passes _ 5 (code 2) h.len) }; quorum = record { which = λ x. true; enough = lit≤ tt; each = each _ (λ e. (refl, record { done = refl; all = (refl, filled _ h.len, passes _ 1 (code 0) h.len) })) (λ e. (refl, record { done = refl; all = (refl, filled _ h.len, passes _ 3 (code 1) h.len) })) (λ e. (refl, record { done = refl; all = (refl, filled _ h.len, passes _ 5 (code 2) h.len) })) }; dirty = 1; pre = refl; version = refl; size_is = size_is _ h.len; attr_is = refl })

clears_keep : (bytes : List ℕ) (code : ℕ → List ℕ) → KeepsFrom (posted bytes code) (clears file 1 31)
unfolding bricks_below count_below agree greatest_below
clears_keep bytes code = round_keeps (posted bytes code) 31 (λ b. Clear file (grant_at b) 1) Done
    (free _ _ _ (refl, lit≤ tt, refl, refl), record { grant_held = refl; unmarked = refl; posted = each _ refl refl refl })
    (free _ _ _ (refl, lit≤ tt, refl, refl), record { grant_held = refl; unmarked = refl; posted = each _ refl refl refl })
    (free _ _ _ (refl, lit≤ tt, refl, refl), record { grant_held = refl; unmarked = refl; posted = each _ refl refl refl })

ends_keep : (bytes : List ℕ) (code : ℕ → List ℕ) → KeepsFrom (clean bytes code) (releases file 37 ++ answered (Size 1024))
unfolding bricks_below count_below agree greatest_below
ends_keep bytes code = (
  (running _ _ (refl, lit≤ tt), record { asked = refl; idle = each _ refl refl refl }),
  (
    (running _ _ (refl, lit≤ tt), record { asked = refl; idle = each _ refl refl refl }),
    (
      (running _ _ (refl, lit≤ tt), record { asked = refl; idle = each _ refl refl refl }),
      ((refl, λ some. record { which = λ x. true; enough = lit≤ tt; each = each _ (λ e. (refl, refl)) (λ e. (refl, refl)) (λ e. (refl, refl)) }), tt),
    ),
  ),
)

pub write_keeps : (bytes : List ℕ) (stripe : List (List ℕ)) (code : ℕ → List ℕ) → IsOneStripe bytes stripe code → Keeps (writing bytes) (whole_write code)
write_keeps bytes stripe code h =
    let ends = releases file 37 ++ answered (Size 1024) in
    let clear = clears file 1 31 ++ ends in
    let post = post_ops file 0 1 1024 None 25 ++ clear in
    begun_keeps (Write file 0 bytes) (writes_of code 19 ++ post) refl
    (join_from (prepared (Write file 0 bytes)) (writes_of code 19) post (writes_keep bytes stripe code h)
    (join_from (written bytes code) (post_ops file 0 1 1024 None 25) clear (posts_keep bytes stripe code h)
    (join_from (posted bytes code) (clears file 1 31) ends (clears_keep bytes code) (ends_keep bytes code))))
