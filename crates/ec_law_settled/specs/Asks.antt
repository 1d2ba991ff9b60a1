-- Of which bricks a call asks locks.
use Rattle.std.specs.Prelude.{ℕ, ◌+◌, ◌≤◌, ◌==◌, Bool, false, cond, List, [], ◌∷◌}
use Rattle.ec_calls.specs.declared.any.AnyCall.{AnyCall}
use Rattle.ec_conduct.specs.Given.{Given}
use Rattle.ec_conduct.specs.Own.{Own, Sends}
use Rattle.ec_txn.specs.declared.ctx.Ctx.{Ctx}
use Rattle.ec_wire.specs.declared.request.Request.{Request}
use Rattle.ec_wire.specs.declared.request.Request.TheVariants.{Ask}

-- brick b is asked for a lock
abbrev pub is_ask_at : ℕ → ℕ → Request → Bool
is_ask_at b x (Ask g domain kind) = x == b
is_ask_at b x r = false

abbrev pub asks_at : ℕ → Own → Bool
asks_at b (Sends x i r) = is_ask_at b x r
asks_at b e = false

-- how often it is, in the own entries of a call
abbrev pub count_asks : ℕ → List Own → ℕ
count_asks b [] = 0
count_asks b (e ∷ es) = cond (asks_at b e) 1 0 + count_asks b es

-- Of the own entries that a call stands for: it asks each brick for a lock at most once, of whatever gfid.
pub record CallAskLaws (stands : Ctx → Given → AnyCall → List Own → Type 0) : Type 0 where
  pub once : (x : Ctx) (given : Given) (call : AnyCall) (es : List Own) (b : ℕ) → stands x given call es → count_asks b es ≤ 1
