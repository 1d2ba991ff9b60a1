use Rattle.std.proofs.Common.{refl, List}
use Rattle.ec_calls.specs.contracts.any.AnyCallConduct.TheImpl.{ghosts as impl}
use Rattle.ec_calls.specs.declared.any.AnyCall.{AnyCall}
use Rattle.ec_calls.specs.declared.any.AnyCall.TheVariants.{GetAttr, Lookup, Make, Read, Readdir, SetAttr, Stat, Truncate, Unlink, Write}
use Rattle.ec_conduct.specs.Given.{Given}
use Rattle.ec_conduct.specs.Own.{Own}
use Rattle.ec_entry.specs.Make.{make_table}
use Rattle.ec_entry.specs.Unlink.{unlink_table}
use Rattle.ec_txn.specs.declared.ctx.Ctx.{Ctx}
use Rattle.ec_law_parts.specs.Names.{EachSends, SetsItsName}
use Rattle.ec_law_parts.proofs.Naming.{by_table, make_asks, unlink_asks, unnamed}
use Rattle.ec_law_parts.proofs.call_name_laws.Goals as goal

names_of : (x : Ctx) (given : Given) (call : AnyCall) (es : List Own) → impl.stands x given call es → EachSends (SetsItsName given) es
names_of x given (Stat own) es s = unnamed given es _ s.fit s.keeps (λ g. refl)
names_of x given (Lookup own) es s = unnamed given es _ s.fit s.keeps (λ g. refl)
names_of x given (GetAttr own) es s = unnamed given es _ s.fit s.keeps (λ g. refl)
names_of x given (SetAttr own) es s = unnamed given es _ s.fit s.keeps (λ g. refl)
names_of x given (Read own) es s = unnamed given es _ s.fit s.keeps (λ g. refl)
names_of x given (Write own) es s = unnamed given es _ s.fit s.keeps (λ g. refl)
names_of x given (Make own) es s = by_table make_table given (make_asks given own.plan.kind own.plan.parent.0 own.plan.name s.fit) es own.stage s.by_table
names_of x given (Readdir own) es s = unnamed given es _ s.fit s.keeps (λ g. refl)
names_of x given (Unlink own) es s = by_table unlink_table given (unlink_asks given _ _ s.fit) es own.stage s.by_table
names_of x given (Truncate own) es s = unnamed given es _ s.fit s.keeps (λ g. refl)

pub returns : goal.returns
returns c = record { names = names_of }
