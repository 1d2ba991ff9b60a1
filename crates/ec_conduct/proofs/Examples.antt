-- The histories of the examples, part by part.
use Rattle.std.proofs.Common.{◌≡◌, inl, inr, ℕ, zero, suc, ◌<◌, false, refl, lit≤, arith, List, ◌++◌, None}
use Rattle.ec_attr.specs.Bricks.{bricks_below, count_below}
use Rattle.ec_attr.specs.GoodGroup.{agree, greatest_below}
use Rattle.ec_wire.specs.declared.op.Op.{Op}
use Rattle.ec_wire.specs.declared.reply.Reply.TheVariants.{Done, Head as HeadIs}
use Rattle.ec_wire.specs.declared.request.Request.TheVariants.{PreOp, Query}
use Rattle.ec_conduct.specs.Account.{Account, account_from, at}
use Rattle.ec_conduct.specs.Conduct.{IsFree, IsRunning, Keeps, KeepsFrom}
use Rattle.ec_conduct.specs.Examples.{begun, file, grant_at, locks, new_file, pre_ops, queries}
use Rattle.ec_conduct.specs.Given.{bricks_of}
use Rattle.ec_conduct.specs.Locks.{is_heal}
use Rattle.ec_conduct.specs.Opened.{opened}
use Rattle.ec_conduct.specs.Own.{Own}
use Rattle.ec_conduct.specs.Standing.{is_lost}
use Rattle.ec_conduct.proofs.Fronts.{join_from, round_keeps}

-- what holds of bricks 0, 1 and 2 holds of each
pub each : (P : ℕ → Type 0) → P 0 → P 1 → P 2 → (x : ℕ) → x < 3 → P x
each P a b c zero l = a
each P a b c (suc zero) l = b
each P a b c (suc (suc zero)) l = c
each P a b c (suc (suc (suc x))) l = absurd (omega arith)

pub running : (c : Account) (b : ℕ) → (c.answer ≡ None) × (b < bricks_of c.given) → IsRunning c b
running c b h = record { unanswered = h.0; brick = h.1 }

pub free : (c : Account) (b g : ℕ) → (c.answer ≡ None) × (b < bricks_of c.given) × (c.waits b ≡ None) × (is_lost (at c g b) ≡ false) → IsFree c b g
free c b g h = record { running = record { unanswered = h.0; brick = h.1 }; idle = h.2; kept = h.3 }

pub locks_keep : (op : Op) → is_heal op ≡ false → KeepsFrom (opened (begun op)) (locks file 1)
locks_keep op plain = (
  (free _ _ _ (refl, lit≤ tt, refl, refl), record { once = refl; window = inl refl; healed = inl (plain, each _ refl refl refl) }),
  (
    tt,
    (
      (free _ _ _ (refl, lit≤ tt, refl, refl), record { once = refl; window = inl refl; healed = inl (plain, each _ refl refl refl) }),
      (
        tt,
        ((free _ _ _ (refl, lit≤ tt, refl, refl), record { once = refl; window = inl refl; healed = inl (plain, each _ refl refl refl) }), (tt, tt)),
      ),
    ),
  ),
)

-- the accounts of a call on the file up to its PreOps, part by part
abbrev pub locked : Op → Account
locked op = account_from (opened (begun op)) (locks file 1)

abbrev pub queried : Op → Account
queried op = account_from (locked op) (queries file new_file 7)

abbrev pub prepared : Op → Account
prepared op = account_from (queried op) (pre_ops file 0 1 13)

pub queries_keep : (op : Op) → KeepsFrom (locked op) (queries file new_file 7)
unfolding bricks_below count_below agree greatest_below
queries_keep op = round_keeps (locked op) 7 (λ b. Query file (grant_at b)) (HeadIs new_file)
    (free _ _ _ (refl, lit≤ tt, refl, refl), record { grant_held = refl; asked = each _ refl refl refl; together = inl refl })
    (free _ _ _ (refl, lit≤ tt, refl, refl), record { grant_held = refl; asked = each _ refl refl refl; together = inr refl })
    (free _ _ _ (refl, lit≤ tt, refl, refl), record { grant_held = refl; asked = each _ refl refl refl; together = inr refl })

pub pre_ops_keep : (op : Op) → KeepsFrom (queried op) (pre_ops file 0 1 13)
unfolding bricks_below count_below agree greatest_below
pre_ops_keep op = round_keeps (queried op) 13 (λ b. PreOp file (grant_at b) 0 1) Done
    (free _ _ _ (refl, lit≤ tt, refl, refl), record { grant_held = refl; idle = each _ refl refl refl; once = refl; head = new_file; group = refl; version_is = inl (refl, refl); above = lit≤ tt; limit = omega arith; one = inl refl })
    (free _ _ _ (refl, lit≤ tt, refl, refl), record { grant_held = refl; idle = each _ refl refl refl; once = refl; head = new_file; group = refl; version_is = inl (refl, refl); above = lit≤ tt; limit = omega arith; one = inr refl })
    (free _ _ _ (refl, lit≤ tt, refl, refl), record { grant_held = refl; idle = each _ refl refl refl; once = refl; head = new_file; group = refl; version_is = inl (refl, refl); above = lit≤ tt; limit = omega arith; one = inr refl })

-- a call's entries from its PreOps on
pub begun_keeps : (op : Op) (rest : List Own) → is_heal op ≡ false → KeepsFrom (prepared op) rest → Keeps (begun op) (locks file 1 ++ queries file new_file 7 ++ pre_ops file 0 1 13 ++ rest)
begun_keeps op rest plain k =
    let pre = pre_ops file 0 1 13 ++ rest in
    let query = queries file new_file 7 ++ pre in
    join_from (opened (begun op)) (locks file 1) query (locks_keep op plain)
    (join_from (locked op) (queries file new_file 7) pre (queries_keep op)
    (join_from (queried op) (pre_ops file 0 1 13) rest (pre_ops_keep op) k))
