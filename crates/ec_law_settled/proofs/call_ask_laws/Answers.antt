use Rattle.std.proofs.Common.{◌≤◌, ℕ, List}
use Rattle.ec_attr.specs.declared.kind.LockKind.TheVariants.{Shared, Exclusive}
use Rattle.ec_calls.specs.contracts.any.AnyCallConduct.TheImpl.{ghosts as impl}
use Rattle.ec_calls.specs.declared.any.AnyCall.{AnyCall}
use Rattle.ec_calls.specs.declared.any.AnyCall.TheVariants.{GetAttr, Lookup, Make, Read, Readdir, SetAttr, Stat, Truncate, Unlink, Write}
use Rattle.ec_conduct.specs.Given.{Given}
use Rattle.ec_conduct.specs.Own.{Own}
use Rattle.ec_entry.specs.GetAttr.{getattr_table}
use Rattle.ec_entry.specs.Lookup.{lookup_table}
use Rattle.ec_entry.specs.Make.{make_table}
use Rattle.ec_entry.specs.Readdir.{readdir_table}
use Rattle.ec_entry.specs.SetAttr.{setattr_table}
use Rattle.ec_entry.specs.Unlink.{unlink_table}
use Rattle.ec_read.specs.Read.{read_table}
use Rattle.ec_read.specs.Stat.{stat_table}
use Rattle.ec_txn.specs.declared.ctx.Ctx.{Ctx}
use Rattle.ec_write.specs.Truncate.{truncate_table}
use Rattle.ec_write.specs.Write.{write_table}
use Rattle.ec_law_calls.proofs.ChildTables.{make_order, unlink_order}
use Rattle.ec_law_calls.proofs.NameTables.{getattr_order, lookup_order, readdir_order, setattr_order}
use Rattle.ec_law_calls.proofs.ReadTables.{read_order, stat_order}
use Rattle.ec_law_calls.proofs.WriteTables.{truncate_order, write_order}
use Rattle.ec_law_settled.specs.Asks.{count_asks}
use Rattle.ec_law_settled.proofs.Asks.{by_table}
use Rattle.ec_law_settled.proofs.call_ask_laws.Goals as goal

-- A call of each kind goes by its table.
once_of : (x : Ctx) (given : Given) (call : AnyCall) (es : List Own) (b : ℕ) → impl.stands x given call es → count_asks b es ≤ 1
once_of x given (Stat own) es b s = by_table Shared stat_table stat_order given es own.stage b s.by_table
once_of x given (Lookup own) es b s = by_table Shared lookup_table lookup_order given es own.stage b s.by_table
once_of x given (GetAttr own) es b s = by_table Shared getattr_table getattr_order given es own.stage b s.by_table
once_of x given (SetAttr own) es b s = by_table Exclusive setattr_table setattr_order given es own.stage b s.by_table
once_of x given (Read own) es b s = by_table Shared (read_table x) (read_order x) given es own.stage b s.by_table
once_of x given (Write own) es b s = by_table Exclusive (write_table x) (write_order x) given es own.stage b s.by_table
once_of x given (Make own) es b s = by_table Exclusive make_table make_order given es own.stage b s.by_table
once_of x given (Readdir own) es b s = by_table Shared readdir_table readdir_order given es own.stage b s.by_table
once_of x given (Unlink own) es b s = by_table Exclusive unlink_table unlink_order given es own.stage b s.by_table
once_of x given (Truncate own) es b s = by_table Exclusive (truncate_table x) (truncate_order x) given es own.stage b s.by_table

pub returns : goal.returns
returns c = record { once = once_of }
