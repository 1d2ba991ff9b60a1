use Rattle.std.proofs.Common.{◌≡◌, ℕ, false, refl, ◌∙◌, ap, List}
use Rattle.ec_attr.specs.declared.kind.Kind.{Kind}
use Rattle.ec_attr.specs.declared.kind.Kind.TheVariants.{File, Dir}
use Rattle.ec_calls.specs.contracts.any.AnyCallConduct.TheImpl.{ghosts as impl}
use Rattle.ec_calls.specs.declared.any.AnyCall.{AnyCall}
use Rattle.ec_calls.specs.declared.any.AnyCall.TheVariants.{GetAttr, Lookup, Make, Read, Readdir, SetAttr, Stat, Truncate, Unlink, Write}
use Rattle.ec_conduct.specs.Given.{Given}
use Rattle.ec_conduct.specs.Own.{Own}
use Rattle.ec_entry.specs.Make.{make_op}
use Rattle.ec_txn.specs.declared.ctx.Ctx.{Ctx}
use Rattle.ec_wire.specs.declared.op.Op.{Op}
use Rattle.ec_law_flats.specs.Plans.{is_unbuilt}
use Rattle.ec_law_names.proofs.call_built_laws.Goals as goal

told : (op made : Op) → op ≡ made → is_unbuilt made ≡ false → is_unbuilt op ≡ false
told op made e h = ap is_unbuilt e ∙ h

made_built : (kind : Kind) (g : ℕ) (name : List ℕ) → is_unbuilt (make_op kind g name) ≡ false
made_built File g name = refl
made_built Dir g name = refl

built_of : (x : Ctx) (given : Given) (call : AnyCall) (es : List Own) → impl.stands x given call es → is_unbuilt given.op ≡ false
built_of x given (Make own) es s = told given.op _ s.fit (made_built own.plan.kind own.plan.parent.0 own.plan.name)
built_of x given (Stat own) es s = told given.op _ s.fit refl
built_of x given (Lookup own) es s = told given.op _ s.fit refl
built_of x given (GetAttr own) es s = told given.op _ s.fit refl
built_of x given (SetAttr own) es s = told given.op _ s.fit refl
built_of x given (Read own) es s = told given.op _ s.fit refl
built_of x given (Write own) es s = told given.op _ s.fit refl
built_of x given (Readdir own) es s = told given.op _ s.fit refl
built_of x given (Unlink own) es s = told given.op _ s.fit refl
built_of x given (Truncate own) es s = told given.op _ s.fit refl

pub returns : goal.returns
returns c = record { built = built_of }
