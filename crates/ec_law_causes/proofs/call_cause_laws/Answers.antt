use Rattle.std.proofs.Common.{◌≡◌, ◌⊎◌, sym, subst, ℕ, List, Some}
use Rattle.ec_calls.specs.contracts.any.AnyCallConduct.TheImpl.{ghosts as impl}
use Rattle.ec_calls.specs.declared.any.AnyCall.{AnyCall}
use Rattle.ec_calls.specs.declared.any.AnyCall.TheVariants.{GetAttr, Lookup, Make, Read, Readdir, SetAttr, Stat, Truncate, Unlink, Write}
use Rattle.ec_conduct.specs.Account.{at}
use Rattle.ec_conduct.specs.Given.{Given}
use Rattle.ec_conduct.specs.Opened.{account}
use Rattle.ec_conduct.specs.Own.{Own}
use Rattle.ec_entry.specs.GetAttr.{DuringGetAttr, getattr_table}
use Rattle.ec_entry.specs.GetAttrSound.{getattr_sound}
use Rattle.ec_attr.specs.declared.kind.Kind.{Kind}
use Rattle.ec_attr.specs.declared.kind.Kind.TheVariants.{File, Dir}
use Rattle.ec_entry.specs.Lookup.{DuringLookup, lookup_table}
use Rattle.ec_entry.specs.LookupSound.{lookup_sound}
use Rattle.ec_entry.specs.Make.{DuringMake, IsMake, make_op, make_table}
use Rattle.ec_entry.specs.MakeSound.{make_sound}
use Rattle.ec_entry.specs.Readdir.{DuringReaddir, readdir_table}
use Rattle.ec_entry.specs.ReaddirSound.{readdir_sound}
use Rattle.ec_entry.specs.Unlink.{DuringUnlink, unlink_table}
use Rattle.ec_entry.specs.UnlinkSound.{unlink_sound}
use Rattle.ec_entry.specs.SetAttr.{DuringSetAttr, setattr_table}
use Rattle.ec_entry.specs.SetAttrSound.{setattr_sound}
use Rattle.ec_read.specs.Read.{DuringRead, IsRead, read_table}
use Rattle.ec_read.specs.ReadSound.{read_sound}
use Rattle.ec_read.specs.Sound.{stat_sound}
use Rattle.ec_read.specs.Stat.{DuringStat, stat_table}
use Rattle.ec_write.specs.During.{DuringWrite}
use Rattle.ec_write.specs.Write.{IsWrite, write_table}
use Rattle.ec_write.specs.WriteSound.{write_sound}
use Rattle.ec_law_causes.proofs.Write.{HereWrite}
use Rattle.ec_law_causes.proofs.WriteTable.{write_kept, write_tells}
use Rattle.ec_write.specs.DuringTruncate.{DuringTruncate}
use Rattle.ec_write.specs.Truncate.{IsTruncate, truncate_table}
use Rattle.ec_write.specs.TruncateSound.{truncate_sound}
use Rattle.ec_law_causes.proofs.Unlink.{HereUnlink, unlink_kept, unlink_tells}
use Rattle.ec_law_causes.proofs.Truncate.{HereTruncate, truncate_kept, truncate_tells}
use Rattle.ec_txn.specs.Rounds.{subject}
use Rattle.ec_txn.specs.declared.ctx.Ctx.{Ctx}
use Rattle.ec_wire.specs.declared.answer.Answer.{Answer}
use Rattle.ec_wire.specs.declared.op.Op.{Op}
use Rattle.ec_wire.specs.declared.op.Op.TheVariants.{Create, Mkdir, Read as ReadOp, Truncate as TruncateOp, Write as WriteOp}
use Rattle.ec_law_causes.specs.Causes.{HasCause, IsSuccess, causes, getattr_causes, lookup_causes, make_causes, read_causes, readdir_causes, setattr_causes, stat_causes, truncate_causes, unlink_causes, write_causes}
use Rattle.ec_law_causes.specs.Counted.{Windows, windows_of}
use Rattle.ec_law_causes.proofs.Along.{by_table}
use Rattle.ec_law_causes.proofs.Exclusive.{causes_one}
use Rattle.ec_law_causes.proofs.Lookup.{HereLookup, lookup_kept, lookup_tells}
use Rattle.ec_law_causes.proofs.Make.{HereMake, make_kept, make_tells}
use Rattle.ec_law_causes.proofs.Read.{HereRead, read_kept, read_tells}
use Rattle.ec_law_causes.proofs.Readdir.{HereReaddir, readdir_kept, readdir_tells}
use Rattle.ec_law_causes.proofs.SetAttr.{HereSetAttr, setattr_kept, setattr_tells}
use Rattle.ec_law_causes.proofs.Stat.{HereStat, getattr_kept, getattr_tells, stat_kept, stat_tells}
use Rattle.ec_law_turns.proofs.Allowed.{account_given}
use Rattle.ec_law_causes.proofs.call_cause_laws.Goals as goal

-- the causes by what the call began with are those by its account
of_account : (given : Given) (es : List Own) (answer : Answer) → causes given.op given (λ y. (at (account given es) (subject given.op) y).window) answer → HasCause (account given es) answer
of_account given es answer h = subst (λ (v : Given). causes v.op v (λ y. (at (account given es) (subject v.op) y).window) answer) (sym (account_given given es)) h

of_op : (given : Given) (op : Op) (w : Windows) (answer : Answer) → given.op ≡ op → causes op given w answer → causes given.op given w answer
of_op given op w answer e h = subst (λ (o : Op). causes o given w answer) (sym e) h

of_read : (given : Given) (op : Op) (w : Windows) (answer : Answer) → given.op ≡ op → IsRead op → read_causes given.op given w answer → causes given.op given w answer
of_read given op w answer e is h = by given.op (subst IsRead (sym e) is) h
  where
    by : (op : Op) → IsRead op → read_causes op given w answer → causes op given w answer
    by (ReadOp g off len via) is h = h
    by op is h = absurd is

of_write : (given : Given) (op : Op) (w : Windows) (answer : Answer) → given.op ≡ op → IsWrite op → write_causes given.op given w answer → causes given.op given w answer
of_write given op w answer e is h = by given.op (subst IsWrite (sym e) is) h
  where
    by : (op : Op) → IsWrite op → write_causes op given w answer → causes op given w answer
    by (WriteOp g off bytes) is h = h
    by op is h = absurd is

of_truncate : (given : Given) (op : Op) (w : Windows) (answer : Answer) → given.op ≡ op → IsTruncate op → truncate_causes given.op given w answer → causes given.op given w answer
of_truncate given op w answer e is h = by given.op (subst IsTruncate (sym e) is) h
  where
    by : (op : Op) → IsTruncate op → truncate_causes op given w answer → causes op given w answer
    by (TruncateOp g to) is h = h
    by op is h = absurd is

made_op : (kind : Kind) (g : ℕ) (name : List ℕ) → IsMake (make_op kind g name)
made_op File g name = tt
made_op Dir g name = tt

of_make : (given : Given) (op : Op) (w : Windows) (answer : Answer) → given.op ≡ op → IsMake op → make_causes given w answer → causes given.op given w answer
of_make given op w answer e is h = by given.op (subst IsMake (sym e) is) h
  where
    by : (op : Op) → IsMake op → make_causes given w answer → causes op given w answer
    by (Create g name) is h = h
    by (Mkdir g name) is h = h
    by op is h = absurd is

cause_of : (x : Ctx) (given : Given) (call : AnyCall) (es : List Own) (answer : Answer) → impl.stands x given call es → (account given es).answer ≡ Some answer → HasCause (account given es) answer
cause_of x given (Stat own) es answer s told = of_account given es answer (of_op given _ _ answer s.fit (by_table x stat_table DuringStat HereStat stat_causes (stat_sound x) (stat_kept x) (stat_tells x) given es own.stage s.of s.by_table answer told))
cause_of x given (GetAttr own) es answer s told = of_account given es answer (of_op given _ _ answer s.fit (by_table x getattr_table DuringGetAttr HereStat getattr_causes (getattr_sound x) (getattr_kept x) (getattr_tells x) given es own.stage s.of s.by_table answer told))
cause_of x given (SetAttr own) es answer s told = of_account given es answer (of_op given _ _ answer s.fit (by_table x setattr_table DuringSetAttr HereSetAttr setattr_causes (setattr_sound x) (setattr_kept x) (setattr_tells x) given es own.stage s.of s.by_table answer told))
cause_of x given (Lookup own) es answer s told = of_account given es answer (of_op given _ _ answer s.fit (by_table x lookup_table DuringLookup HereLookup lookup_causes (lookup_sound x) (lookup_kept x) (lookup_tells x) given es own.stage s.of s.by_table answer told))
cause_of x given (Read own) es answer s told = of_account given es answer (of_read given _ _ answer s.fit tt (by_table x (read_table x) (DuringRead x) (HereRead x) (λ given w. read_causes given.op given w) (read_sound x) (read_kept x) (read_tells x) given es own.stage s.of s.by_table answer told))
cause_of x given (Write own) es answer s told = of_account given es answer (of_write given _ _ answer s.fit tt (by_table x (write_table x) (DuringWrite x) (HereWrite x) (λ given w. write_causes given.op given w) (write_sound x) (write_kept x) (write_tells x) given es own.stage s.of s.by_table answer told))
cause_of x given (Make own) es answer s told = of_account given es answer (of_make given _ _ answer s.fit (made_op own.plan.kind own.plan.parent.0 own.plan.name) (by_table x make_table DuringMake HereMake make_causes (make_sound x) (make_kept x) (make_tells x) given es own.stage s.of s.by_table answer told))
cause_of x given (Readdir own) es answer s told = of_account given es answer (of_op given _ _ answer s.fit (by_table x readdir_table DuringReaddir HereReaddir readdir_causes (readdir_sound x) (readdir_kept x) (readdir_tells x) given es own.stage s.of s.by_table answer told))
cause_of x given (Unlink own) es answer s told = of_account given es answer (of_op given _ _ answer s.fit (by_table x unlink_table DuringUnlink HereUnlink unlink_causes (unlink_sound x) (unlink_kept x) (unlink_tells x) given es own.stage s.of s.by_table answer told))
cause_of x given (Truncate own) es answer s told = of_account given es answer (of_truncate given _ _ answer s.fit tt (by_table x (truncate_table x) (DuringTruncate x) (HereTruncate x) (λ given w. truncate_causes given.op given w) (truncate_sound x) (truncate_kept x) (truncate_tells x) given es own.stage s.of s.by_table answer told))

only_of : (x : Ctx) (given : Given) (call : AnyCall) (es : List Own) (answer other : Answer) → impl.stands x given call es → (account given es).answer ≡ Some answer → HasCause (account given es) other → (other ≡ answer) ⊎ (IsSuccess other × IsSuccess answer)
only_of x given call es answer other s told h =
    let c = account given es in
    causes_one c.given.op c.given (windows_of c) other answer h (cause_of x given call es answer s told)

pub returns : goal.returns
returns c = record { cause = cause_of; only = only_of }
