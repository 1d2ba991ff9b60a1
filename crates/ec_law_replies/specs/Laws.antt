-- What follows of the own entries that a built call stands for, where it is answered in them.
use Rattle.std.specs.Prelude.{◌≡◌, ℕ, Bool, true, false, Some, List}
use Rattle.ec_calls.specs.declared.any.AnyCall.{AnyCall}
use Rattle.ec_conduct.specs.Given.{Given}
use Rattle.ec_conduct.specs.Opened.{account}
use Rattle.ec_conduct.specs.Own.{Own}
use Rattle.ec_entry.specs.Paging.{Entries}
use Rattle.ec_txn.specs.declared.ctx.Ctx.{Ctx}
use Rattle.ec_wire.specs.declared.answer.Answer.{Answer}
use Rattle.ec_wire.specs.declared.answer.Answer.TheVariants.{Bytes, Exists, IsDir, Limit, Names, NoName, NoSuch, NotDir, Spent, Split, TooBig, TooLong}
use Rattle.ec_wire.specs.declared.op.Op.{Op}
use Rattle.ec_wire.specs.declared.op.Op.TheVariants.{GetAttr, Lookup, Read, Readdir, Stat}
use Rattle.ec_law_causes.specs.Counted.{windows_of}
use Rattle.ec_law_grants.specs.Alters.{has_altered}
use Rattle.ec_law_replies.specs.Replies.{GivesBytes, GivesNames}

-- a call that only reads, whatever its answer
abbrev pub only_reads : Op → Bool
only_reads (Stat g) = true
only_reads (GetAttr g) = true
only_reads (Read g off len via) = true
only_reads (Lookup g name) = true
only_reads (Readdir g) = true
only_reads op = false

-- an answer that comes before anything is changed
abbrev pub comes_before_changes : Answer → Bool
comes_before_changes NoSuch = true
comes_before_changes IsDir = true
comes_before_changes NotDir = true
comes_before_changes NoName = true
comes_before_changes (Exists child) = true
comes_before_changes (Split a b) = true
comes_before_changes (Limit version) = true
comes_before_changes Spent = true
comes_before_changes (TooLong n) = true
comes_before_changes (TooBig n) = true
comes_before_changes answer = false

pub record CallReplyLaws (stands : Ctx → Given → AnyCall → List Own → Type 0) : Type 0 where
  pub bytes : (x : Ctx) (given : Given) (call : AnyCall) (es : List Own) (bytes : List ℕ) → stands x given call es → (account given es).answer ≡ Some (Bytes bytes) → GivesBytes given (windows_of (account given es)) bytes
  pub names : (x : Ctx) (given : Given) (call : AnyCall) (es : List Own) (list : Entries) → stands x given call es → (account given es).answer ≡ Some (Names list) → GivesNames given (windows_of (account given es)) list
  pub reads : (x : Ctx) (given : Given) (call : AnyCall) (es : List Own) → stands x given call es → only_reads given.op ≡ true → has_altered es ≡ false
  pub unchanged : (x : Ctx) (given : Given) (call : AnyCall) (es : List Own) (answer : Answer) → stands x given call es → (account given es).answer ≡ Some answer → comes_before_changes answer ≡ true → has_altered es ≡ false
