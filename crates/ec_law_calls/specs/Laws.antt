-- What holds of every call that is built.
use Rattle.std.specs.Prelude.{List}
use Rattle.ec_calls.specs.declared.any.AnyCall.{AnyCall}
use Rattle.ec_conduct.specs.Given.{Given}
use Rattle.ec_conduct.specs.Own.{Own}
use Rattle.ec_law_turns.specs.Orderly.{IsPlain, KeepsOrder}
use Rattle.ec_txn.specs.declared.ctx.Ctx.{Ctx}

-- Of the own entries that a call stands for.
pub record CallLaws (stands : Ctx → Given → AnyCall → List Own → Type 0) : Type 0 where
  -- they keep the rules of order
  pub in_order : (x : Ctx) (given : Given) (call : AnyCall) (es : List Own) → stands x given call es → KeepsOrder given es
  -- and the call is no heal and no sweep
  pub plain : (x : Ctx) (given : Given) (call : AnyCall) (es : List Own) → stands x given call es → IsPlain given.op
