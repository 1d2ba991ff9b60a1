use Rattle.std.proofs.Common.{◌≡◌, ℕ, true, List, Option, refl, sym, subst}
use Rattle.ec_attr.specs.declared.kind.Kind.{Kind}
use Rattle.ec_attr.specs.declared.kind.Kind.TheVariants.{Dir, File}
use Rattle.ec_attr.specs.declared.kind.LockKind.{LockKind}
use Rattle.ec_attr.specs.declared.kind.LockKind.TheVariants.{Shared, Exclusive}
use Rattle.ec_calls.specs.contracts.any.AnyCallConduct.TheImpl.{ghosts as impl}
use Rattle.ec_calls.specs.declared.any.AnyCall.{AnyCall}
use Rattle.ec_calls.specs.declared.any.AnyCall.TheVariants.{GetAttr, Lookup, Make, Read, Readdir, SetAttr, Stat, Truncate, Unlink, Write}
use Rattle.ec_conduct.specs.Done.{is_lock}
use Rattle.ec_conduct.specs.Given.{Given}
use Rattle.ec_conduct.specs.Own.{Own}
use Rattle.ec_conduct.specs.Table.{IsByTable}
use Rattle.ec_entry.specs.GetAttr.{getattr_table}
use Rattle.ec_entry.specs.Lookup.{lookup_table}
use Rattle.ec_entry.specs.Make.{make_op, make_table}
use Rattle.ec_entry.specs.Readdir.{readdir_table}
use Rattle.ec_entry.specs.SetAttr.{setattr_table}
use Rattle.ec_entry.specs.Unlink.{unlink_table}
use Rattle.ec_read.specs.Read.{read_table}
use Rattle.ec_read.specs.Stat.{stat_table}
use Rattle.ec_txn.specs.Tables.{Begins, Goes, Table}
use Rattle.ec_txn.specs.declared.ctx.Ctx.{Ctx}
use Rattle.ec_write.specs.Truncate.{truncate_table}
use Rattle.ec_write.specs.Write.{write_table}
use Rattle.ec_wire.specs.declared.op.Op.{Op}
use Rattle.ec_law_calls.specs.Parts.{GoesInOrder}
use Rattle.ec_law_calls.proofs.ChildTables.{make_order, unlink_order}
use Rattle.ec_law_calls.proofs.NameTables.{getattr_order, lookup_order, readdir_order, setattr_order}
use Rattle.ec_law_calls.proofs.ReadTables.{read_order, stat_order}
use Rattle.ec_law_calls.proofs.WriteTables.{truncate_order, write_order}
use Rattle.ec_law_stripes.specs.Finals.{AsksOff, has_final}
use Rattle.ec_law_stripes.specs.Given.{WritesSome}
use Rattle.ec_law_stripes.proofs.EmptyWrites.{some_final}
use Rattle.ec_law_stripes.proofs.FinalEnding.{by_table}
use Rattle.ec_law_stripes.proofs.FinalTables.{no_asks}
use Rattle.ec_law_stripes.proofs.call_final_laws.Goals as goal

-- own entries by a table that goes in order
ordered : {P : Type 0} (kind : LockKind) (t : Table P) → GoesInOrder kind t → (given : Given) (es : List Own) (stage : Option P) → IsByTable (Begins t) (Goes t) given es stage → AsksOff is_lock es
ordered kind t order given es stage by = by_table is_lock (λ g n. refl) t (no_asks kind t order) given es stage by

-- A call of each kind goes by its table.
asks_of : (x : Ctx) (given : Given) (call : AnyCall) (es : List Own) → impl.stands x given call es → AsksOff is_lock es
asks_of x given (Stat own) es s = ordered Shared stat_table stat_order given es own.stage s.by_table
asks_of x given (Lookup own) es s = ordered Shared lookup_table lookup_order given es own.stage s.by_table
asks_of x given (GetAttr own) es s = ordered Shared getattr_table getattr_order given es own.stage s.by_table
asks_of x given (SetAttr own) es s = ordered Exclusive setattr_table setattr_order given es own.stage s.by_table
asks_of x given (Read own) es s = ordered Shared (read_table x) (read_order x) given es own.stage s.by_table
asks_of x given (Write own) es s = ordered Exclusive (write_table x) (write_order x) given es own.stage s.by_table
asks_of x given (Make own) es s = ordered Exclusive make_table make_order given es own.stage s.by_table
asks_of x given (Readdir own) es s = ordered Shared readdir_table readdir_order given es own.stage s.by_table
asks_of x given (Unlink own) es s = ordered Exclusive unlink_table unlink_order given es own.stage s.by_table
asks_of x given (Truncate own) es s = ordered Exclusive (truncate_table x) (truncate_order x) given es own.stage s.by_table

made_some : (kind : Kind) (g : ℕ) (name : List ℕ) (op : Op) → op ≡ make_op kind g name → WritesSome op
made_some File g name op e = subst WritesSome (sym e) tt
made_some Dir g name op e = subst WritesSome (sym e) tt

-- A call of each kind has its op, and a write that has no bytes ends after its Queries.
some_of : (x : Ctx) (given : Given) (call : AnyCall) (es : List Own) → impl.stands x given call es → has_final es ≡ true → WritesSome given.op
some_of x given (Stat own) es s final = subst WritesSome (sym s.fit) tt
some_of x given (Lookup own) es s final = subst WritesSome (sym s.fit) tt
some_of x given (GetAttr own) es s final = subst WritesSome (sym s.fit) tt
some_of x given (SetAttr own) es s final = subst WritesSome (sym s.fit) tt
some_of x given (Read own) es s final = subst WritesSome (sym s.fit) tt
some_of x given (Write own) es s final = some_final x given es own.stage s.by_table final
some_of x given (Make own) es s final = made_some own.plan.kind own.plan.parent.0 own.plan.name given.op s.fit
some_of x given (Readdir own) es s final = subst WritesSome (sym s.fit) tt
some_of x given (Unlink own) es s final = subst WritesSome (sym s.fit) tt
some_of x given (Truncate own) es s final = subst WritesSome (sym s.fit) tt

pub returns : goal.returns
returns c = record { no_asks = asks_of; some = some_of }
