-- Of which kind a call makes its child.
use Rattle.std.specs.Prelude.{◌≡◌, List, Option, Some, None}
use Rattle.ec_attr.specs.declared.kind.Kind.{Kind}
use Rattle.ec_attr.specs.declared.kind.Kind.TheVariants.{File, Dir}
use Rattle.ec_calls.specs.declared.any.AnyCall.{AnyCall}
use Rattle.ec_conduct.specs.Given.{Given}
use Rattle.ec_conduct.specs.Own.{Own}
use Rattle.ec_txn.specs.declared.ctx.Ctx.{Ctx}
use Rattle.ec_wire.specs.declared.op.Op.{Op}
use Rattle.ec_wire.specs.declared.op.Op.TheVariants.{Create, Mkdir}
use Rattle.ec_wire.specs.declared.request.Request.{Request}
use Rattle.ec_wire.specs.declared.request.Request.TheVariants.{Make}
use Rattle.ec_law_parts.specs.Names.{EachSends}

-- a create makes a file, a mkdir a directory, and no other call makes anything
abbrev pub kind_made : Op → Option Kind
kind_made (Create dir name) = Some File
kind_made (Mkdir dir name) = Some Dir
kind_made op = None

-- a Make is of this kind
abbrev pub IsOfKind : Option Kind → Request → Type 0
IsOfKind kind (Make dir grant child) = kind ≡ Some child.kind
IsOfKind kind r = Unit {0}

-- Of the own entries that a call stands for: each Make is of the kind of what the call makes.
pub record CallKindLaws (stands : Ctx → Given → AnyCall → List Own → Type 0) : Type 0 where
  pub kinds : (x : Ctx) (given : Given) (call : AnyCall) (es : List Own) → stands x given call es → EachSends (IsOfKind (kind_made given.op)) es
