-- Answers which say that a call changed something, and the commit of the call.
use Rattle.std.specs.Prelude.{◌≡◌, ◌⊎◌, ℕ, ◌<◌, false, Some, List, ◌∷◌, ◌++◌, length}
use Rattle.ec_wire.specs.declared.answer.Answer.{Answer}
use Rattle.ec_wire.specs.declared.answer.Answer.TheVariants.{Attr, Child, Gone, Settled, Size}
use Rattle.ec_wire.specs.declared.entry.Entry.{Entry}
use Rattle.ec_wire.specs.declared.entry.Entry.TheVariants.{Answered, Called}
use Rattle.ec_wire.specs.declared.op.Op.{Op}
use Rattle.ec_wire.specs.declared.op.Op.TheVariants.{Write, Truncate, Create, Mkdir, Unlink, SetAttr, Rename, Rmdir, Scrub}
use Rattle.ec_law_ballots.specs.Guard.{IsCommitted}
use Rattle.ec_law_net.specs.Turns.{View}

-- This answer says that the call changed gfid g: of a create, mkdir, unlink and rmdir it is the directory, of a rename each of
-- the two. A write of no bytes changes nothing.
abbrev pub SaysChanged : Op → Answer → ℕ → Type 0
SaysChanged (Write h off bytes) (Size size) g = (0 < length bytes) × (h.0 ≡ g)
SaysChanged (Truncate h to) (Size size) g = h.0 ≡ g
SaysChanged (Create h name) (Child child) g = h.0 ≡ g
SaysChanged (Mkdir h name) (Child child) g = h.0 ≡ g
SaysChanged (Unlink h name) Gone g = h.0 ≡ g
SaysChanged (Rmdir h name) Gone g = h.0 ≡ g
SaysChanged (Rename old name new to) (Child child) g = (old.0 ≡ g) ⊎ (new.0 ≡ g)
SaysChanged (SetAttr h attr) (Attr now) g = h.0 ≡ g
SaysChanged (Scrub h settle) (Settled seen bad) g = h.0 ≡ g
SaysChanged op answer g = ⊥

-- The log has a call and its answer: it was made after the entries of `earlier`, and answered after those of `between` more;
-- the rest came since.
pub record IsAnswered (es : List Entry) (call : ℕ) (op : Op) (answer : Answer) : Type 0 where
  pub client : ℕ
  pub earlier : List Entry
  pub between : List Entry
  pub since : List Entry
  pub parts : es ≡ earlier ++ Called call client op ∷ (between ++ Answered call answer ∷ since)

-- the entries up to its answer
abbrev pub until : {es : List Entry} {call : ℕ} {op : Op} {answer : Answer} → IsAnswered es call op answer → List Entry
until {es} {call} {op} h = h.earlier ++ Called call h.client op ∷ h.between

-- The call commits on a gfid between two moments, of which these are the views: at the later one K of n bricks have done the
-- PostOp of its turn on unmarked records, and at the earlier one none had. They have at the last moment too.
pub record CommitsBetween (n k : ℕ) (called answered last : View) (call : ℕ) : Type 0 where
  pub turn : ℕ
  pub of_call : answered.turn call ≡ Some turn
  pub none_yet : (b : ℕ) → called.core.post turn b ≡ false
  pub committed : IsCommitted n k answered.core turn
  pub stays : IsCommitted n k last.core turn
