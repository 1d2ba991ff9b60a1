use Rattle.std.proofs.Common.{◌≡◌, ℕ, List, false, refl, ◌∙◌, ap}
use Rattle.ec_attr.specs.declared.kind.Kind.{Kind}
use Rattle.ec_attr.specs.declared.kind.Kind.TheVariants.{File, Dir}
use Rattle.ec_attr.specs.declared.kind.LockKind.TheVariants.{Shared, Exclusive}
use Rattle.ec_calls.specs.contracts.any.AnyCallConduct.TheImpl.{ghosts as impl}
use Rattle.ec_calls.specs.declared.any.AnyCall.{AnyCall}
use Rattle.ec_conduct.specs.Given.{Given}
use Rattle.ec_conduct.specs.Own.{Own}
use Rattle.ec_law_turns.specs.Orderly.{IsPlain, KeepsOrder}
use Rattle.ec_txn.specs.declared.ctx.Ctx.{Ctx}
use Rattle.ec_calls.specs.declared.any.AnyCall.TheVariants.{GetAttr, Lookup, Make, Read, Readdir, SetAttr, Stat, Truncate, Unlink, Write}
use Rattle.ec_entry.specs.GetAttr.{getattr_table}
use Rattle.ec_entry.specs.Lookup.{lookup_table}
use Rattle.ec_entry.specs.Make.{make_op, make_table}
use Rattle.ec_entry.specs.Readdir.{readdir_table}
use Rattle.ec_entry.specs.SetAttr.{setattr_table}
use Rattle.ec_entry.specs.Unlink.{unlink_table}
use Rattle.ec_history.specs.Story.{is_heal}
use Rattle.ec_wire.specs.declared.op.Op.{Op}
use Rattle.ec_read.specs.Read.{read_table}
use Rattle.ec_read.specs.Stat.{stat_table}
use Rattle.ec_write.specs.Truncate.{truncate_table}
use Rattle.ec_write.specs.Write.{write_table}
use Rattle.ec_law_calls.proofs.ChildTables.{make_order, unlink_order}
use Rattle.ec_law_calls.proofs.NameTables.{getattr_order, lookup_order, readdir_order, setattr_order}
use Rattle.ec_law_calls.proofs.Ordered.{by_table}
use Rattle.ec_law_calls.proofs.ReadTables.{read_order, stat_order}
use Rattle.ec_law_calls.proofs.WriteTables.{truncate_order, write_order}
use Rattle.ec_law_calls.proofs.call_laws.Goals as goal

-- a test of the op that a call was begun with
told : (op made : Op) → op ≡ made → is_heal made ≡ false → is_heal op ≡ false
told op made e h = ap is_heal e ∙ h

made_plain : (kind : Kind) (g : ℕ) (name : List ℕ) → is_heal (make_op kind g name) ≡ false
made_plain File g name = refl
made_plain Dir g name = refl

-- A call of each kind goes by its table.
order_of : (x : Ctx) (given : Given) (call : AnyCall) (es : List Own) → impl.stands x given call es → KeepsOrder given es
order_of x given (Stat own) es s = by_table Shared stat_table stat_order given es own.stage s.of.kept s.by_table
order_of x given (Lookup own) es s = by_table Shared lookup_table lookup_order given es own.stage s.of.kept s.by_table
order_of x given (GetAttr own) es s = by_table Shared getattr_table getattr_order given es own.stage s.of.kept s.by_table
order_of x given (SetAttr own) es s = by_table Exclusive setattr_table setattr_order given es own.stage s.of.kept s.by_table
order_of x given (Read own) es s = by_table Shared (read_table x) (read_order x) given es own.stage s.of.kept s.by_table
order_of x given (Write own) es s = by_table Exclusive (write_table x) (write_order x) given es own.stage s.of.kept s.by_table
order_of x given (Make own) es s = by_table Exclusive make_table make_order given es own.stage s.of.kept s.by_table
order_of x given (Readdir own) es s = by_table Shared readdir_table readdir_order given es own.stage s.of.kept s.by_table
order_of x given (Unlink own) es s = by_table Exclusive unlink_table unlink_order given es own.stage s.of.kept s.by_table
order_of x given (Truncate own) es s = by_table Exclusive (truncate_table x) (truncate_order x) given es own.stage s.of.kept s.by_table

plain_of : (x : Ctx) (given : Given) (call : AnyCall) (es : List Own) → impl.stands x given call es → IsPlain given.op
plain_of x given (Stat own) es s = told given.op _ s.fit refl
plain_of x given (Lookup own) es s = told given.op _ s.fit refl
plain_of x given (GetAttr own) es s = told given.op _ s.fit refl
plain_of x given (SetAttr own) es s = told given.op _ s.fit refl
plain_of x given (Read own) es s = told given.op _ s.fit refl
plain_of x given (Write own) es s = told given.op _ s.fit refl
plain_of x given (Make own) es s = told given.op _ s.fit (made_plain own.plan.kind own.plan.parent.0 own.plan.name)
plain_of x given (Readdir own) es s = told given.op _ s.fit refl
plain_of x given (Unlink own) es s = told given.op _ s.fit refl
plain_of x given (Truncate own) es s = told given.op _ s.fit refl

pub returns : goal.returns
returns c = record { in_order = order_of; plain = plain_of }
