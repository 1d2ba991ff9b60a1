-- The conduct of a call: what it may send and answer, by its account.
use Rattle.std.specs.Prelude.{◌≡◌, ◌≢◌, ◌⊎◌, ◌↔◌, ℕ, ◌<◌, Bool, true, false, Option, Some, None, List, [], ◌∷◌, length}
use Rattle.ec_attr.specs.Bricks.{is_in}
use Rattle.ec_wire.specs.declared.answer.Answer.{Answer}
use Rattle.ec_wire.specs.declared.answer.Answer.TheVariants.{Attr, Child, Gone, Healed, Settled, Size}
use Rattle.ec_wire.specs.declared.op.Op.{Op}
use Rattle.ec_wire.specs.declared.op.Op.TheVariants.{Write, Truncate, Create, Mkdir, Unlink, SetAttr, Rename, Rmdir, Heal, Scrub, Sweep}
use Rattle.ec_wire.specs.declared.request.Request.{Request}
use Rattle.ec_wire.specs.declared.request.Request.TheVariants.{Ask, Release, Query, PreOp, ReadChunks, WriteChunks, SetLength, PostOp, Clear, NameGet, NamesAfter, NameSet, NamesPut, Make, Made, Unmake, Mark, Unmark, GfidsAfter}
use Rattle.ec_conduct.specs.Account.{Account, after, at}
use Rattle.ec_conduct.specs.Ballots.{MayClear, MayPostOp, MayPreOp}
use Rattle.ec_conduct.specs.Children.{IsPosted, MayMade, MayMake, MayRemove}
use Rattle.ec_conduct.specs.Copies.{MayCopy, MayMark, MayPutNames, MayTrim, MayUnmark}
use Rattle.ec_conduct.specs.Data.{MayChange, MayWrite, changes_names, cuts_file}
use Rattle.ec_conduct.specs.Done.{did, history, is_clear, is_unmark}
use Rattle.ec_conduct.specs.Given.{Given, bricks_of}
use Rattle.ec_conduct.specs.Locks.{MayAsk, MayQuery, MayRelease}
use Rattle.ec_conduct.specs.Opened.{opened}
use Rattle.ec_conduct.specs.Own.{Own, Sends, Hears, GivesUp, Answers}
use Rattle.ec_conduct.specs.Standing.{Every, holds, is_lost}

-- the call isn't answered yet
pub record IsRunning (c : Account) (b : ℕ) : Type 0 where
  pub unanswered : c.answer ≡ None
  pub brick : b < bricks_of c.given

-- A request but Release goes to a brick that the call doesn't wait for, and none to a sink that a heal has lost.
pub record IsFree (c : Account) (b g : ℕ) : Type 0 where
  pub running : IsRunning c b
  pub idle : c.waits b ≡ None
  pub kept : is_lost (at c g b) ≡ false

abbrev pub Holds : Account → ℕ → ℕ → ℕ → Type 0
Holds c b g grant = holds (at c g b).inode grant ≡ true

-- a truncate's SetLength
pub record MayCut (c : Account) (b g grant : ℕ) : Type 0 where
  pub change : MayChange c b g grant
  pub op : cuts_file c.given.op g ≡ true

-- a rename from one directory to another removes the old name only after its commit in the new directory
abbrev pub IsNamedAnew : Account → Op → ℕ → Type 0
IsNamedAnew c (Rename old name new to) g = old.0 ≢ new.0 → g ≡ old.0 → IsPosted c new.0
IsNamedAnew c op g = Unit {0}

pub record MaySetName (c : Account) (b g grant : ℕ) : Type 0 where
  pub change : MayChange c b g grant
  pub op : changes_names c.given.op g ≡ true
  pub anew : IsNamedAnew c c.given.op g

abbrev pub is_sweep : Op → Bool
is_sweep (Sweep full) = true
is_sweep op = false

-- What a call may send to a brick next. Each request but Ask, Release and GfidsAfter names a grant that the call has
-- heard there and not released; data goes under the grant of the content, or under that of a heal.
abbrev pub MaySend : Account → ℕ → Request → Type 0
MaySend c b (Ask g domain kind) = IsFree c b g.0 × MayAsk c b g.0 domain
MaySend c b (Release g grant) = IsRunning c b × MayRelease c b g.0 grant
MaySend c b (Query g grant) = IsFree c b g.0 × MayQuery c b g.0 grant
MaySend c b (PreOp g grant version dirty) = IsFree c b g.0 × MayPreOp c b g.0 grant version dirty
MaySend c b (ReadChunks g grant first count) = IsFree c b g.0 × Holds c b g.0 grant
MaySend c b (WriteChunks g grant first chunks) = IsFree c b g.0 × (MayWrite c b g.0 grant first chunks ⊎ MayCopy c b g.0 grant first chunks)
MaySend c b (SetLength g grant keep length) = IsFree c b g.0 × (MayCut c b g.0 grant ⊎ MayTrim c b g.0 grant keep length)
MaySend c b (PostOp g grant old new size attr) = IsFree c b g.0 × MayPostOp c b g grant old new size attr
MaySend c b (Clear g grant version) = IsFree c b g.0 × MayClear c b g.0 grant version
MaySend c b (NameGet g grant name) = IsFree c b g.0 × Holds c b g.0 grant
MaySend c b (NamesAfter g grant start) = IsFree c b g.0 × Holds c b g.0 grant
MaySend c b (NameSet g grant name child) = IsFree c b g.0 × MaySetName c b g.0 grant
MaySend c b (NamesPut g grant start upto list) = IsFree c b g.0 × MayPutNames c b g.0 grant start upto list
MaySend c b (Make g grant child) = IsFree c b g.0 × MayMake c b g.0 grant child.gfid.0
MaySend c b (Made g grant child) = IsFree c b g.0 × MayMade c b g.0 grant child.0
MaySend c b (Unmake g grant child) = IsFree c b g.0 × MayRemove c.given.op c b g.0 grant child.0
MaySend c b (Mark g grant heal head) = IsFree c b g.0 × MayMark c b g.0 grant heal head
MaySend c b (Unmark g grant version dirty) = IsFree c b g.0 × MayUnmark c b g.0 grant version dirty
MaySend c b (GfidsAfter start dirty) = IsRunning c b × (c.waits b ≡ None) × (is_sweep c.given.op ≡ true)

-- What a heal says it healed: the sinks that did the Unmark; and `all` exactly where every brick did the Clear of the touch.
pub record IsHealedAll (c : Account) (g sinks : ℕ) (all : Bool) : Type 0 where
  pub sinks_are : Every c (λ x. is_in sinks x ≡ did is_unmark (history (at c g x)))
  pub cleared : (all ≡ true) ↔ Every c (λ x. did is_clear (at c g x).window ≡ true)

-- An answer that says that something was changed comes only where a quorum of the group did the PostOp.
abbrev pub IsEarned : Account → Op → Answer → Type 0
IsEarned c (Write g off bytes) (Size size) = 0 < length bytes → IsPosted c g.0
IsEarned c (Truncate g to) (Size size) = IsPosted c g.0
IsEarned c (Create g name) (Child child) = IsPosted c g.0
IsEarned c (Mkdir g name) (Child child) = IsPosted c g.0
IsEarned c (Unlink g name) Gone = IsPosted c g.0
IsEarned c (Rmdir g name) Gone = IsPosted c g.0
IsEarned c (Rename old name new to) (Child child) = IsPosted c old.0 × IsPosted c new.0
IsEarned c (SetAttr g attr) (Attr now) = IsPosted c g.0
IsEarned c (Scrub g settle) (Settled seen bad) = IsPosted c g.0
IsEarned c (Heal g) (Healed sinks all) = IsHealedAll c g.0 sinks all
IsEarned c op answer = Unit {0}

abbrev pub MayAnswer : Account → Answer → Type 0
MayAnswer c answer = (c.answer ≡ None) × IsEarned c c.given.op answer

-- an own entry that the call decides
abbrev pub May : Account → Own → Type 0
May c (Sends b i r) = MaySend c b r
May c (Hears b i reply) = Unit {0}
May c (GivesUp b i) = Unit {0}
May c (Answers answer) = MayAnswer c answer

-- Own entries keep the conduct: each may come where it comes.
abbrev pub KeepsFrom : Account → List Own → Type 0
KeepsFrom c [] = Unit {0}
KeepsFrom c (e ∷ es) = May c e × KeepsFrom (after c e) es

abbrev pub Keeps : Given → List Own → Type 0
Keeps given es = KeepsFrom (opened given) es

abbrev pub is_release : Request → Bool
is_release (Release g grant) = true
is_release r = false

-- the grant that a request names; a Mark names another one beside it
abbrev pub named_grant : Request → Option ℕ
named_grant (Ask g domain kind) = None
named_grant (Release g grant) = Some grant
named_grant (Query g grant) = Some grant
named_grant (PreOp g grant version dirty) = Some grant
named_grant (ReadChunks g grant first count) = Some grant
named_grant (WriteChunks g grant first chunks) = Some grant
named_grant (SetLength g grant keep length) = Some grant
named_grant (PostOp g grant old new size attr) = Some grant
named_grant (Clear g grant version) = Some grant
named_grant (NameGet g grant name) = Some grant
named_grant (NamesAfter g grant start) = Some grant
named_grant (NameSet g grant name child) = Some grant
named_grant (NamesPut g grant start upto list) = Some grant
named_grant (Make g grant child) = Some grant
named_grant (Made g grant child) = Some grant
named_grant (Unmake g grant child) = Some grant
named_grant (Mark g grant heal head) = Some grant
named_grant (Unmark g grant version dirty) = Some grant
named_grant (GfidsAfter start dirty) = None
