-- Which names a call sets.
use Rattle.std.specs.Prelude.{◌≡◌, ℕ, List, [], ◌∷◌, Option, Some, None}
use Rattle.ec_attr.specs.declared.kind.Child.{Child}
use Rattle.ec_attr.specs.declared.kind.Kind.TheVariants.{File, Dir}
use Rattle.ec_calls.specs.declared.any.AnyCall.{AnyCall}
use Rattle.ec_conduct.specs.Given.{Given}
use Rattle.ec_conduct.specs.Own.{Own, Sends}
use Rattle.ec_txn.specs.declared.ctx.Ctx.{Ctx}
use Rattle.ec_wire.specs.declared.op.Op.{Op}
use Rattle.ec_wire.specs.declared.op.Op.TheVariants.{Create, Mkdir, Unlink}
use Rattle.ec_wire.specs.declared.request.Request.{Request}
use Rattle.ec_wire.specs.declared.request.Request.TheVariants.{NameSet}

-- The op sets this name on this gfid to this child: a create or mkdir its own to the child that the call took, an unlink its own
-- to none.
abbrev pub SetsName : Op → ℕ → ℕ → List ℕ → Option Child → Type 0
SetsName (Create dir own) taken g name child = (g ≡ dir.0) × (name ≡ own) × (child ≡ Some (record { kind = File; gfid = record { 0 = taken } }))
SetsName (Mkdir dir own) taken g name child = (g ≡ dir.0) × (name ≡ own) × (child ≡ Some (record { kind = Dir; gfid = record { 0 = taken } }))
SetsName (Unlink dir own) taken g name child = (g ≡ dir.0) × (name ≡ own) × (child ≡ None)
SetsName op taken g name child = ⊥

abbrev pub SetsItsName : Given → Request → Type 0
SetsItsName given (NameSet g grant name child) = SetsName given.op given.child g.0 name child
SetsItsName given r = Unit {0}

-- so it is of each request that is sent
abbrev pub EachSends : (Request → Type 0) → List Own → Type 0
EachSends P [] = Unit {0}
EachSends P (Sends b i r ∷ es) = P r × EachSends P es
EachSends P (e ∷ es) = EachSends P es

-- Of the own entries that a call stands for: each NameSet is of the call's own name and child.
pub record CallNameLaws (stands : Ctx → Given → AnyCall → List Own → Type 0) : Type 0 where
  pub names : (x : Ctx) (given : Given) (call : AnyCall) (es : List Own) → stands x given call es → EachSends (SetsItsName given) es
