use Rattle.std.proofs.Common.{◌≡◌, ℕ, false, List, subst}
use Rattle.ec_attr.specs.declared.kind.Kind.{Kind}
use Rattle.ec_attr.specs.declared.kind.Kind.TheVariants.{File, Dir}
use Rattle.ec_calls.specs.contracts.any.AnyCallConduct.TheImpl.{ghosts as impl}
use Rattle.ec_calls.specs.declared.any.AnyCall.{AnyCall}
use Rattle.ec_calls.specs.declared.any.AnyCall.TheVariants.{GetAttr, Lookup, Make, Read, Readdir, SetAttr, Stat, Truncate, Unlink, Write}
use Rattle.ec_conduct.specs.Given.{Given}
use Rattle.ec_conduct.specs.Own.{Own}
use Rattle.ec_entry.specs.GetAttr.{getattr_table}
use Rattle.ec_entry.specs.Lookup.{lookup_table}
use Rattle.ec_entry.specs.Make.{make_op}
use Rattle.ec_entry.specs.Readdir.{readdir_table}
use Rattle.ec_read.specs.Read.{read_table}
use Rattle.ec_read.specs.Stat.{stat_table}
use Rattle.ec_txn.specs.declared.ctx.Ctx.{Ctx}
use Rattle.ec_wire.specs.declared.op.Op.{Op}
use Rattle.ec_law_settled.specs.Looking.{OnlyLooks, has_altering}
use Rattle.ec_law_settled.proofs.Looking.{by_table, getattr_looks, lookup_looks, read_looks, readdir_looks, stat_looks}
use Rattle.ec_law_settled.proofs.call_look_laws.Goals as goal

-- a call of another op is none of these
other : (op made : Op) (X : Type 0) → op ≡ made → (OnlyLooks made → ⊥) → OnlyLooks op → X
other op made X e no_such of = absurd (no_such (subst OnlyLooks e of))

make_other : (kind : Kind) (g : ℕ) (name : List ℕ) → OnlyLooks (make_op kind g name) → ⊥
make_other File g name = λ z. z
make_other Dir g name = λ z. z

looks_of : (x : Ctx) (given : Given) (call : AnyCall) (es : List Own) → impl.stands x given call es → OnlyLooks given.op → has_altering es ≡ false
looks_of x given (Stat own) es s of = by_table stat_table stat_looks given es own.stage s.by_table
looks_of x given (GetAttr own) es s of = by_table getattr_table getattr_looks given es own.stage s.by_table
looks_of x given (Lookup own) es s of = by_table lookup_table lookup_looks given es own.stage s.by_table
looks_of x given (Read own) es s of = by_table (read_table x) (read_looks x) given es own.stage s.by_table
looks_of x given (Readdir own) es s of = by_table readdir_table readdir_looks given es own.stage s.by_table
looks_of x given (SetAttr own) es s of = other given.op _ (has_altering es ≡ false) s.fit (λ z. z) of
looks_of x given (Write own) es s of = other given.op _ (has_altering es ≡ false) s.fit (λ z. z) of
looks_of x given (Make own) es s of = other given.op _ (has_altering es ≡ false) s.fit (make_other own.plan.kind own.plan.parent.0 own.plan.name) of
looks_of x given (Unlink own) es s of = other given.op _ (has_altering es ≡ false) s.fit (λ z. z) of
looks_of x given (Truncate own) es s of = other given.op _ (has_altering es ≡ false) s.fit (λ z. z) of

pub returns : goal.returns
returns c = record { looks = looks_of }
