-- The cause of each answer of a call, by what the call began with and what its bricks were asked and replied.
use Rattle.std.specs.Prelude.{◌≡◌, ◌⊎◌, ℕ, ◌+◌, ◌-◌, ◌/◌, ◌^◌, ◌<◌, ◌≤◌, ◌==◌, Bool, true, false, min, Some, None, List, length}
use Rattle.ec_attr.specs.Bricks.{count_below}
use Rattle.ec_attr.specs.declared.attr.Attr.{Attr as AttrOf}
use Rattle.ec_attr.specs.declared.head.Head.{Head}
use Rattle.ec_attr.specs.declared.kind.Child.{Child as ChildOf}
use Rattle.ec_attr.specs.declared.kind.Kind.{Kind}
use Rattle.ec_attr.specs.declared.kind.Kind.TheVariants.{Dir, File}
use Rattle.ec_conduct.specs.Account.{Account}
use Rattle.ec_conduct.specs.Children.{is_absent}
use Rattle.ec_conduct.specs.Given.{Given, bricks_of, quorum_of}
use Rattle.ec_entry.specs.Children.{is_dir_in}
use Rattle.ec_entry.specs.Make.{child_of}
use Rattle.ec_entry.specs.Named.{IsLowest, IsOther, Value}
use Rattle.ec_entry.specs.Paging.{Entries}
use Rattle.ec_read.specs.Range.{end_of}
use Rattle.ec_read.specs.Read.{len_in, off_in}
use Rattle.ec_stripe.specs.Span.{stripe_bytes}
use Rattle.ec_wire.specs.declared.answer.Answer.{Answer}
use Rattle.ec_wire.specs.declared.answer.Answer.TheVariants.{Attr, Bytes, Child, Exists, Gone, IsDir, Limit, Names, NoName, NoSuch, NotDir, Size, Spent, Split, TooBig, TooLong}
use Rattle.ec_wire.specs.declared.op.Op.{Op}
use Rattle.ec_wire.specs.declared.op.Op.TheVariants.{Create, GetAttr, Lookup, Mkdir, Read, Readdir, SetAttr, Stat, Truncate, Unlink, Write}
use Rattle.ec_wire.specs.declared.phase.Phase.TheVariants.{Entry, Lock, Make, Name, Query, Pre, Write as WritePhase, Trim, Post}
use Rattle.ec_write.specs.Range.{count_stripes, data_of, first_stripe, head_of, off_of, reads_first, reads_last, told_end}
use Rattle.ec_write.specs.Truncate.{to_of}
use Rattle.ec_law_causes.specs.Counted.{FallsShort, LacksChunks, LacksPages, Windows, head_in, named_in, number_named, reply_in, windows_of}

-- The causes of a call are checked in order: where one holds it tells the answer, and else the later ones do.
abbrev pub Else : (Answer → Type 0) → (Answer → Type 0) → Answer → Type 0
Else cause later answer = cause answer ⊎ (((other : Answer) → cause other → ⊥) × later answer)

-- K bricks have no record
abbrev pub HasNoRecord : Given → Windows → Answer → Type 0
HasNoRecord given w answer = (quorum_of given ≤ count_below (bricks_of given) (λ x. is_absent (reply_in Query w x))) × (answer ≡ NoSuch)

-- the good group's record is of this kind, which this answer says
abbrev pub IsOfKind : Kind → Answer → Given → Windows → Answer → Type 0
IsOfKind kind says given w answer = (head : Head) × (head_in given w ≡ Some head) × (head.kind ≡ kind) × (answer ≡ says)

-- The version after the commit, v + m + 1 by the group's version v and its greatest dirty number m, reaches 2^61; or the group's
-- size is past 2^40, which no brick answers.
abbrev pub PassesLimit : Given → Windows → Answer → Type 0
PassesLimit given w answer =
    (head : Head) × (head_in given w ≡ Some head)
    × ((2 ^ 61 ≤ head.version.content + (head.dirty.content + 1)) ⊎ (2 ^ 40 < head.size)) × (answer ≡ Limit head.version.content)

-- the answer says the size, or the attribute, of the good group's record
abbrev pub SaysSize : Given → Windows → Answer → Type 0
SaysSize given w answer = (head : Head) × (head_in given w ≡ Some head) × (answer ≡ Size head.size)

abbrev pub SaysAttr : Given → Windows → Answer → Type 0
SaysAttr given w answer = (head : Head) × (head_in given w ≡ Some head) × (answer ≡ Attr head.attr)

-- the answer says an attribute
abbrev pub IsAttr : Answer → Type 0
IsAttr answer = (attr : AttrOf) × (answer ≡ Attr attr)

-- more than 2^20 bytes were asked for, or given
abbrev pub IsTooLong : ℕ → Answer → Type 0
IsTooLong len answer = (2 ^ 20 < len) × (answer ≡ TooLong len)

-- bytes of the range lie below the size of the group's record, and fewer than K bricks gave their chunks
abbrev pub LacksRange : Op → Given → Windows → Answer → Type 0
LacksRange op given w answer =
    (head : Head) × (head_in given w ≡ Some head) × (off_in op < end_of (off_in op) (len_in op) head.size)
    × LacksChunks given w (off_in op / stripe_bytes (quorum_of given)) answer

abbrev pub IsBytes : Answer → Type 0
IsBytes answer = (bytes : List ℕ) × (answer ≡ Bytes bytes)

-- a write's range ends past byte 2^40 of a file; an end past 64 bits is told as the greatest number of them
abbrev pub EndsTooFar : Op → Answer → Type 0
EndsTooFar op answer = (2 ^ 40 < off_of op + length (data_of op)) × (answer ≡ TooBig (told_end (off_of op) (length (data_of op))))

-- a write of no bytes ends as the group is found, and says its size
abbrev pub WritesNothing : Op → Given → Windows → Answer → Type 0
WritesNothing op given w answer = (length (data_of op) ≡ 0) × SaysSize given w answer

-- The first stripe of a write has to be read, by the group's size, and fewer than K bricks gave its chunk; and the last stripe.
abbrev pub LacksFirst : Op → Given → Windows → Answer → Type 0
LacksFirst op given w answer =
    (head : Head) × (head_in given w ≡ Some head) × (reads_first (quorum_of given) (off_of op) (length (data_of op)) head.size ≡ true)
    × LacksChunks given w (first_stripe (quorum_of given) (off_of op)) answer

abbrev pub LacksLast : Op → Given → Windows → Answer → Type 0
LacksLast op given w answer =
    (head : Head) × (head_in given w ≡ Some head) × (reads_last (quorum_of given) (off_of op) (length (data_of op)) head.size ≡ true)
    × LacksChunks given w (first_stripe (quorum_of given) (off_of op) + (count_stripes (quorum_of given) (off_of op) (length (data_of op)) - 1)) answer

-- a truncate to more than 2^40 bytes
abbrev pub CutsTooFar : Op → Answer → Type 0
CutsTooFar op answer = (2 ^ 40 < to_of op) × (answer ≡ TooBig (to_of op))

-- the stripe in which a truncate cuts, by the old size: that of the lesser of the old and the new one; and whether it cuts on the
-- border of two stripes, so that none is read and written
abbrev pub cut_at : Op → Given → Head → ℕ
cut_at op given head = first_stripe (quorum_of given) (min head.size (to_of op))

abbrev pub cuts_border : Op → Given → Head → Bool
cuts_border op given head = head_of (quorum_of given) (min head.size (to_of op)) == 0

-- fewer than K bricks gave the chunk of that stripe, or fewer than K wrote it
abbrev pub LacksTail : Op → Given → Windows → Answer → Type 0
LacksTail op given w answer = (head : Head) × (head_in given w ≡ Some head) × (cuts_border op given head ≡ false) × LacksChunks given w (cut_at op given head) answer

abbrev pub TailFallsShort : Op → Given → Windows → Answer → Type 0
TailFallsShort op given w answer = (head : Head) × (head_in given w ≡ Some head) × (cuts_border op given head ≡ false) × FallsShort given w WritePhase answer

-- the answer says a size
abbrev pub IsSize : Answer → Type 0
IsSize answer = (size : ℕ) × (answer ≡ Size size)

-- No K bricks of the group replied alike of the name. The answer says the reply of the lowest brick that replied, and that of the
-- lowest whose reply is another one.
abbrev pub IsSplit : Given → Windows → Answer → Type 0
IsSplit given w answer = ((value : Value) → number_named given w value < quorum_of given) × (a b : Value) × IsLowest (named_in given w) a × IsOther (named_in given w) a b × (answer ≡ Split a b)

-- K bricks replied that there is no such name
abbrev pub HasNoName : Given → Windows → Answer → Type 0
HasNoName given w answer = (quorum_of given ≤ number_named given w None) × (answer ≡ NoName)

-- K bricks replied that the name leads to this child, which the answer says
abbrev pub LeadsTo : (ChildOf → Answer) → Given → Windows → Answer → Type 0
LeadsTo says given w answer = (child : ChildOf) × (quorum_of given ≤ number_named given w (Some child)) × (answer ≡ says child)

-- a brick of the group replied that the name leads to a directory, whatever the others did
abbrev pub NamesDir : Given → Windows → Answer → Type 0
NamesDir given w answer = (x : ℕ) × (x < bricks_of given) × (is_dir_in (named_in given w x) ≡ true) × (answer ≡ IsDir)

-- the answer says that the name is gone
abbrev pub IsGone : Answer → Type 0
IsGone answer = answer ≡ Gone

-- the answer says names
abbrev pub IsNames : Answer → Type 0
IsNames answer = (list : Entries) × (answer ≡ Names list)

-- the gfid that a create or mkdir took as it began is above 2^96
abbrev pub IsSpent : Given → Answer → Type 0
IsSpent given answer = (2 ^ 96 < given.child) × (answer ≡ Spent)

-- the answer says the child that the call is to make, under that gfid
abbrev pub SaysChild : Given → Answer → Type 0
SaysChild given answer = answer ≡ Child (child_of given)

-- every call begins with the locks and the Queries
abbrev pub Opens : Given → Windows → (Answer → Type 0) → Answer → Type 0
Opens given w later = Else (FallsShort given w Lock) (Else (FallsShort given w Query) (Else (HasNoRecord given w) later))

-- The causes by call, in the order of checking.
abbrev pub stat_causes : Given → Windows → Answer → Type 0
stat_causes given w = Opens given w (Else (IsOfKind Dir IsDir given w) (SaysSize given w))

abbrev pub getattr_causes : Given → Windows → Answer → Type 0
getattr_causes given w = Opens given w (SaysAttr given w)

abbrev pub setattr_causes : Given → Windows → Answer → Type 0
setattr_causes given w = Opens given w (Else (PassesLimit given w) (Else (FallsShort given w Pre) (Else (FallsShort given w Post) IsAttr)))

abbrev pub read_causes : Op → Given → Windows → Answer → Type 0
read_causes op given w = Else (IsTooLong (len_in op)) (Opens given w (Else (IsOfKind Dir IsDir given w) (Else (LacksRange op given w) IsBytes)))

abbrev pub write_causes : Op → Given → Windows → Answer → Type 0
write_causes op given w =
    Else (IsTooLong (length (data_of op))) (Else (EndsTooFar op) (Opens given w (Else (IsOfKind Dir IsDir given w) (Else (WritesNothing op given w) (Else (PassesLimit given w)
    (Else (FallsShort given w Pre) (Else (LacksFirst op given w) (Else (LacksLast op given w) (Else (FallsShort given w WritePhase) (Else (FallsShort given w Post) IsSize))))))))))

abbrev pub truncate_causes : Op → Given → Windows → Answer → Type 0
truncate_causes op given w =
    Else (CutsTooFar op) (Opens given w (Else (IsOfKind Dir IsDir given w) (Else (PassesLimit given w) (Else (FallsShort given w Pre) (Else (LacksTail op given w)
    (Else (TailFallsShort op given w) (Else (FallsShort given w Trim) (Else (FallsShort given w Post) IsSize))))))))

abbrev pub lookup_causes : Given → Windows → Answer → Type 0
lookup_causes given w = Opens given w (Else (IsOfKind File NotDir given w) (Else (FallsShort given w Name) (Else (IsSplit given w) (Else (HasNoName given w) (LeadsTo Child given w)))))

-- a create or mkdir
abbrev pub make_causes : Given → Windows → Answer → Type 0
make_causes given w =
    Else (IsSpent given) (Opens given w (Else (IsOfKind File NotDir given w) (Else (FallsShort given w Name) (Else (IsSplit given w) (Else (LeadsTo Exists given w) (Else (PassesLimit given w) (Else (FallsShort given w Pre)
    (Else (FallsShort given w Make) (Else (FallsShort given w Entry) (Else (FallsShort given w Post) (SaysChild given)))))))))))

abbrev pub unlink_causes : Given → Windows → Answer → Type 0
unlink_causes given w =
    Opens given w (Else (IsOfKind File NotDir given w) (Else (FallsShort given w Name) (Else (NamesDir given w) (Else (HasNoName given w) (Else (PassesLimit given w) (Else (FallsShort given w Pre) (Else (FallsShort given w Entry)
    (Else (FallsShort given w Post) IsGone))))))))

abbrev pub readdir_causes : Given → Windows → Answer → Type 0
readdir_causes given w = Opens given w (Else (IsOfKind File NotDir given w) (Else (LacksPages given w) IsNames))

-- answers that say that a call did what it was to do
abbrev pub IsSuccess : Answer → Type 0
IsSuccess (Size size) = Unit {0}
IsSuccess (Attr attr) = Unit {0}
IsSuccess (Bytes bytes) = Unit {0}
IsSuccess (Child child) = Unit {0}
IsSuccess (Names list) = Unit {0}
IsSuccess Gone = Unit {0}
IsSuccess answer = ⊥

-- the causes of a built call; calls that are not built have none
abbrev pub causes : Op → Given → Windows → Answer → Type 0
causes (Stat g) given w = stat_causes given w
causes (GetAttr g) given w = getattr_causes given w
causes (SetAttr g attr) given w = setattr_causes given w
causes (Read g off len via) given w = read_causes (Read g off len via) given w
causes (Write g off bytes) given w = write_causes (Write g off bytes) given w
causes (Truncate g to) given w = truncate_causes (Truncate g to) given w
causes (Lookup g name) given w = lookup_causes given w
causes (Create g name) given w = make_causes given w
causes (Mkdir g name) given w = make_causes given w
causes (Unlink g name) given w = unlink_causes given w
causes (Readdir g) given w = readdir_causes given w
causes op given w = λ answer. ⊥

-- The account of a call has the cause of this answer.
abbrev pub HasCause : Account → Answer → Type 0
HasCause c answer = causes c.given.op c.given (windows_of c) answer
