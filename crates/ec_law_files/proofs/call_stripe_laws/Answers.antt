use Rattle.std.proofs.Common.{◌≡◌, ℕ, ap, false, List, []}
use Rattle.ec_attr.specs.declared.kind.Kind.{Kind}
use Rattle.ec_attr.specs.declared.kind.Kind.TheVariants.{File, Dir}
use Rattle.ec_brick.specs.Work.{new_head}
use Rattle.ec_calls.specs.contracts.any.AnyCallConduct.TheImpl.{ghosts as impl}
use Rattle.ec_calls.specs.declared.any.AnyCall.{AnyCall}
use Rattle.ec_calls.specs.declared.any.AnyCall.TheVariants.{GetAttr, Lookup, Make, Read, Readdir, SetAttr, Stat, Truncate, Unlink, Write}
use Rattle.ec_conduct.specs.Given.{Given}
use Rattle.ec_conduct.specs.Own.{Own}
use Rattle.ec_entry.specs.GetAttr.{DuringGetAttr, getattr_table}
use Rattle.ec_entry.specs.GetAttrSound.{getattr_sound}
use Rattle.ec_entry.specs.Lookup.{DuringLookup, lookup_table}
use Rattle.ec_entry.specs.LookupSound.{lookup_sound}
use Rattle.ec_entry.specs.Make.{DuringMake, make_op, make_table}
use Rattle.ec_entry.specs.MakeSound.{make_sound}
use Rattle.ec_entry.specs.Readdir.{DuringReaddir, readdir_table}
use Rattle.ec_entry.specs.ReaddirSound.{readdir_sound}
use Rattle.ec_entry.specs.SetAttr.{DuringSetAttr, setattr_table}
use Rattle.ec_entry.specs.SetAttrSound.{setattr_sound}
use Rattle.ec_entry.specs.Unlink.{DuringUnlink, unlink_table}
use Rattle.ec_entry.specs.UnlinkSound.{unlink_sound}
use Rattle.ec_read.specs.Read.{DuringRead, read_table}
use Rattle.ec_read.specs.ReadSound.{read_sound}
use Rattle.ec_read.specs.Sound.{stat_sound}
use Rattle.ec_read.specs.Stat.{DuringStat, stat_table}
use Rattle.ec_txn.specs.declared.ctx.Ctx.{Ctx}
use Rattle.ec_write.specs.DuringTruncate.{DuringTruncate}
use Rattle.ec_write.specs.During.{DuringWrite}
use Rattle.ec_write.specs.Truncate.{truncate_table}
use Rattle.ec_write.specs.TruncateSound.{truncate_sound}
use Rattle.ec_write.specs.Write.{write_table}
use Rattle.ec_write.specs.WriteSound.{write_sound}
use Rattle.ec_wire.specs.declared.op.Op.{Op}
use Rattle.ec_law_files.specs.Stripes.{IsMade, Making, makes_stripes}
use Rattle.ec_law_files.proofs.Quiet.{getattr_quiet, lookup_quiet, make_quiet, quiet_table, read_quiet, readdir_quiet, setattr_quiet, stat_quiet, unlink_quiet}
use Rattle.ec_law_files.proofs.Stages.{by_table}
use Rattle.ec_law_files.proofs.Truncates.{truncate_makes}
use Rattle.ec_law_files.proofs.Writes.{write_makes}
use Rattle.ec_law_files.proofs.call_stripe_laws.Goals as goal

-- what is made by a call that puts no stripes
nothing : Given → Making
nothing given = record { head = new_head (record { geometry = given.geometry }) File; stripe = λ s. [] }

make_none : (kind : Kind) (g : ℕ) (name : List ℕ) (op : Op) → op ≡ make_op kind g name → makes_stripes op ≡ false
make_none File g name op e = ap (λ (o : Op). makes_stripes o) e
make_none Dir g name op e = ap (λ (o : Op). makes_stripes o) e

-- A call of each kind goes by its table.
made_of : (x : Ctx) (given : Given) (call : AnyCall) (es : List Own) → impl.stands x given call es → IsMade given es
made_of x given (Stat own) es s = by_table x stat_table DuringStat (stat_sound x) given (quiet_table x stat_table DuringStat (stat_sound x) given (ap (λ (o : Op). makes_stripes o) s.fit) stat_quiet) s.of (nothing given) es own.stage s.by_table
made_of x given (Lookup own) es s = by_table x lookup_table DuringLookup (lookup_sound x) given (quiet_table x lookup_table DuringLookup (lookup_sound x) given (ap (λ (o : Op). makes_stripes o) s.fit) lookup_quiet) s.of (nothing given) es own.stage s.by_table
made_of x given (GetAttr own) es s = by_table x getattr_table DuringGetAttr (getattr_sound x) given (quiet_table x getattr_table DuringGetAttr (getattr_sound x) given (ap (λ (o : Op). makes_stripes o) s.fit) getattr_quiet) s.of (nothing given) es own.stage s.by_table
made_of x given (SetAttr own) es s = by_table x setattr_table DuringSetAttr (setattr_sound x) given (quiet_table x setattr_table DuringSetAttr (setattr_sound x) given (ap (λ (o : Op). makes_stripes o) s.fit) setattr_quiet) s.of (nothing given) es own.stage s.by_table
made_of x given (Read own) es s = by_table x (read_table x) (DuringRead x) (read_sound x) given (quiet_table x (read_table x) (DuringRead x) (read_sound x) given (ap (λ (o : Op). makes_stripes o) s.fit) (read_quiet x)) s.of (nothing given) es own.stage s.by_table
made_of x given (Write own) es s = by_table x (write_table x) (DuringWrite x) (write_sound x) given (write_makes x given) s.of (nothing given) es own.stage s.by_table
made_of x given (Make own) es s = by_table x make_table DuringMake (make_sound x) given (quiet_table x make_table DuringMake (make_sound x) given (make_none own.plan.kind own.plan.parent.0 own.plan.name given.op s.fit) make_quiet) s.of (nothing given) es own.stage s.by_table
made_of x given (Readdir own) es s = by_table x readdir_table DuringReaddir (readdir_sound x) given (quiet_table x readdir_table DuringReaddir (readdir_sound x) given (ap (λ (o : Op). makes_stripes o) s.fit) readdir_quiet) s.of (nothing given) es own.stage s.by_table
made_of x given (Unlink own) es s = by_table x unlink_table DuringUnlink (unlink_sound x) given (quiet_table x unlink_table DuringUnlink (unlink_sound x) given (ap (λ (o : Op). makes_stripes o) s.fit) unlink_quiet) s.of (nothing given) es own.stage s.by_table
made_of x given (Truncate own) es s = by_table x (truncate_table x) (DuringTruncate x) (truncate_sound x) given (truncate_makes x given) s.of (nothing given) es own.stage s.by_table

pub returns : goal.returns
returns c = record { made = made_of }
