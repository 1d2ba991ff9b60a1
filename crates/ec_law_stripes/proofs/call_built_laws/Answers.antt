use Rattle.std.proofs.Common.{◌≡◌, ℕ, ap, false, List}
use Rattle.ec_attr.specs.declared.kind.Kind.{Kind}
use Rattle.ec_attr.specs.declared.kind.Kind.TheVariants.{Dir, File}
use Rattle.ec_calls.specs.contracts.any.AnyCallConduct.TheImpl.{ghosts as impl}
use Rattle.ec_calls.specs.declared.any.AnyCall.{AnyCall}
use Rattle.ec_calls.specs.declared.any.AnyCall.TheVariants.{GetAttr, Lookup, Make, Read, Readdir, SetAttr, Stat, Truncate, Unlink, Write}
use Rattle.ec_conduct.specs.Given.{Given}
use Rattle.ec_conduct.specs.Own.{Own}
use Rattle.ec_entry.specs.Make.{make_op}
use Rattle.ec_txn.specs.declared.ctx.Ctx.{Ctx}
use Rattle.ec_wire.specs.declared.op.Op.{Op}
use Rattle.ec_law_flats.specs.Plans.{is_unbuilt}
use Rattle.ec_law_stripes.proofs.call_built_laws.Goals as goal

made : (kind : Kind) (g : ℕ) (name : List ℕ) (op : Op) → op ≡ make_op kind g name → is_unbuilt op ≡ false
made File g name op e = ap (λ (o : Op). is_unbuilt o) e
made Dir g name op e = ap (λ (o : Op). is_unbuilt o) e

-- A call of each kind has its op.
built_of : (x : Ctx) (given : Given) (call : AnyCall) (es : List Own) → impl.stands x given call es → is_unbuilt given.op ≡ false
built_of x given (Stat own) es s = ap (λ (o : Op). is_unbuilt o) s.fit
built_of x given (Lookup own) es s = ap (λ (o : Op). is_unbuilt o) s.fit
built_of x given (GetAttr own) es s = ap (λ (o : Op). is_unbuilt o) s.fit
built_of x given (SetAttr own) es s = ap (λ (o : Op). is_unbuilt o) s.fit
built_of x given (Read own) es s = ap (λ (o : Op). is_unbuilt o) s.fit
built_of x given (Write own) es s = ap (λ (o : Op). is_unbuilt o) s.fit
built_of x given (Make own) es s = made own.plan.kind own.plan.parent.0 own.plan.name given.op s.fit
built_of x given (Readdir own) es s = ap (λ (o : Op). is_unbuilt o) s.fit
built_of x given (Unlink own) es s = ap (λ (o : Op). is_unbuilt o) s.fit
built_of x given (Truncate own) es s = ap (λ (o : Op). is_unbuilt o) s.fit

pub returns : goal.returns
returns c = record { built = built_of }
