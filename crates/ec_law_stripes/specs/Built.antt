-- That the calls of a world are built.
use Rattle.std.specs.Prelude.{◌≡◌, false, List}
use Rattle.ec_calls.specs.declared.any.AnyCall.{AnyCall}
use Rattle.ec_conduct.specs.Given.{Given}
use Rattle.ec_conduct.specs.Own.{Own}
use Rattle.ec_txn.specs.declared.ctx.Ctx.{Ctx}
use Rattle.ec_law_flats.specs.Plans.{is_unbuilt}

-- Of what a call stands for: its op is one that is built.
pub record CallBuiltLaws (stands : Ctx → Given → AnyCall → List Own → Type 0) : Type 0 where
  pub built : (x : Ctx) (given : Given) (call : AnyCall) (es : List Own) → stands x given call es → is_unbuilt given.op ≡ false
