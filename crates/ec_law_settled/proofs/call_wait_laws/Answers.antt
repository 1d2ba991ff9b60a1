use Rattle.std.proofs.Common.{◌≡◌, List, None}
use Rattle.ec_calls.specs.contracts.any.AnyCallConduct.TheImpl.{ghosts as impl}
use Rattle.ec_calls.specs.declared.any.AnyCall.{AnyCall}
use Rattle.ec_calls.specs.declared.any.AnyCall.TheVariants.{GetAttr, Lookup, Make, Read, Readdir, SetAttr, Stat, Truncate, Unlink, Write}
use Rattle.ec_conduct.specs.Given.{Given}
use Rattle.ec_conduct.specs.Opened.{account}
use Rattle.ec_conduct.specs.Own.{Own}
use Rattle.ec_entry.specs.GetAttr.{DuringGetAttr, getattr_table}
use Rattle.ec_entry.specs.GetAttrSound.{getattr_sound}
use Rattle.ec_entry.specs.Lookup.{DuringLookup, lookup_table}
use Rattle.ec_entry.specs.LookupSound.{lookup_sound}
use Rattle.ec_entry.specs.Make.{DuringMake, make_table}
use Rattle.ec_entry.specs.MakeSound.{make_sound}
use Rattle.ec_entry.specs.Readdir.{DuringReaddir, readdir_table}
use Rattle.ec_entry.specs.ReaddirSound.{readdir_sound}
use Rattle.ec_entry.specs.SetAttr.{DuringSetAttr, setattr_table}
use Rattle.ec_entry.specs.SetAttrSound.{setattr_sound}
use Rattle.ec_entry.specs.Unlink.{DuringUnlink, unlink_table}
use Rattle.ec_entry.specs.UnlinkSound.{unlink_sound}
use Rattle.ec_read.specs.Read.{DuringRead, read_table}
use Rattle.ec_read.specs.ReadSound.{read_sound}
use Rattle.ec_read.specs.Sound.{stat_sound}
use Rattle.ec_read.specs.Stat.{DuringStat, stat_table}
use Rattle.ec_txn.specs.Rounds.{IsWaiting}
use Rattle.ec_txn.specs.declared.ctx.Ctx.{Ctx}
use Rattle.ec_write.specs.During.{DuringWrite}
use Rattle.ec_write.specs.DuringTruncate.{DuringTruncate}
use Rattle.ec_write.specs.Truncate.{truncate_table}
use Rattle.ec_write.specs.TruncateSound.{truncate_sound}
use Rattle.ec_write.specs.Write.{write_table}
use Rattle.ec_write.specs.WriteSound.{write_sound}
use Rattle.ec_law_causes.proofs.Lookup.{HereLookup, lookup_kept}
use Rattle.ec_law_causes.proofs.Make.{HereMake, make_kept}
use Rattle.ec_law_causes.proofs.Read.{HereRead, read_kept}
use Rattle.ec_law_causes.proofs.Readdir.{HereReaddir, readdir_kept}
use Rattle.ec_law_causes.proofs.SetAttr.{HereSetAttr, setattr_kept}
use Rattle.ec_law_causes.proofs.Stat.{HereStat, getattr_kept, stat_kept}
use Rattle.ec_law_causes.proofs.Truncate.{HereTruncate, truncate_kept}
use Rattle.ec_law_causes.proofs.Unlink.{HereUnlink, unlink_kept}
use Rattle.ec_law_causes.proofs.Write.{HereWrite}
use Rattle.ec_law_causes.proofs.WriteTable.{write_kept}
use Rattle.ec_law_settled.proofs.Waking.{by_table}
use Rattle.ec_law_settled.proofs.WakingMake.{MoreMake, make_wakes}
use Rattle.ec_law_settled.proofs.WakingNames.{lookup_wakes}
use Rattle.ec_law_settled.proofs.WakingOpenings.{NoMore, getattr_wakes, stat_wakes}
use Rattle.ec_law_settled.proofs.WakingRead.{read_wakes}
use Rattle.ec_law_settled.proofs.WakingReaddir.{MoreReaddir, readdir_wakes}
use Rattle.ec_law_settled.proofs.WakingSetAttr.{setattr_wakes}
use Rattle.ec_law_settled.proofs.WakingTruncate.{truncate_wakes}
use Rattle.ec_law_settled.proofs.WakingUnlink.{MoreUnlink, unlink_wakes}
use Rattle.ec_law_settled.proofs.WakingWrite.{write_wakes}
use Rattle.ec_law_settled.proofs.call_wait_laws.Goals as goal

-- A call of each kind goes by its table.
waits_of : (x : Ctx) (given : Given) (call : AnyCall) (es : List Own) → impl.stands x given call es → (account given es).answer ≡ None → IsWaiting (account given es)
waits_of x given (Stat own) es s none = by_table x stat_table DuringStat HereStat NoMore (stat_sound x) (stat_kept x) (stat_wakes x) given es own.stage s.of s.by_table none
waits_of x given (Lookup own) es s none = by_table x lookup_table DuringLookup HereLookup NoMore (lookup_sound x) (lookup_kept x) (lookup_wakes x) given es own.stage s.of s.by_table none
waits_of x given (GetAttr own) es s none = by_table x getattr_table DuringGetAttr HereStat NoMore (getattr_sound x) (getattr_kept x) (getattr_wakes x) given es own.stage s.of s.by_table none
waits_of x given (SetAttr own) es s none = by_table x setattr_table DuringSetAttr HereSetAttr NoMore (setattr_sound x) (setattr_kept x) (setattr_wakes x) given es own.stage s.of s.by_table none
waits_of x given (Read own) es s none = by_table x (read_table x) (DuringRead x) (HereRead x) NoMore (read_sound x) (read_kept x) (read_wakes x) given es own.stage s.of s.by_table none
waits_of x given (Write own) es s none = by_table x (write_table x) (DuringWrite x) (HereWrite x) NoMore (write_sound x) (write_kept x) (write_wakes x) given es own.stage s.of s.by_table none
waits_of x given (Make own) es s none = by_table x make_table DuringMake HereMake MoreMake (make_sound x) (make_kept x) (make_wakes x) given es own.stage s.of s.by_table none
waits_of x given (Readdir own) es s none = by_table x readdir_table DuringReaddir HereReaddir MoreReaddir (readdir_sound x) (readdir_kept x) (readdir_wakes x) given es own.stage s.of s.by_table none
waits_of x given (Unlink own) es s none = by_table x unlink_table DuringUnlink HereUnlink MoreUnlink (unlink_sound x) (unlink_kept x) (unlink_wakes x) given es own.stage s.of s.by_table none
waits_of x given (Truncate own) es s none = by_table x (truncate_table x) (DuringTruncate x) (HereTruncate x) NoMore (truncate_sound x) (truncate_kept x) (truncate_wakes x) given es own.stage s.of s.by_table none

pub returns : goal.returns
returns c = record { waits = waits_of }
