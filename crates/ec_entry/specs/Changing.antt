-- Between its PreOps and its PostOps a change of a directory goes to the members of the group, one request after another,
-- each to those that did all before.
use Rattle.std.specs.Prelude.{◌≡◌, ℕ, ◌<◌, true, false, ◌&&◌, Some, None, List}
use Rattle.ec_answers.specs.declared.grouped.Group.{Group}
use Rattle.ec_conduct.specs.Account.{Account, Exchange, Lock, at}
use Rattle.ec_conduct.specs.Children.{IsPosted}
use Rattle.ec_conduct.specs.Done.{changes, did, failed_none, is_change, is_clear, is_made, is_make, is_pre, is_unmark, last_done, since, tried}
use Rattle.ec_conduct.specs.Given.{bricks_of}
use Rattle.ec_conduct.specs.Standing.{Every}
use Rattle.ec_wire.specs.declared.request.Request.{Request}
use Rattle.ec_wire.specs.declared.request.Request.TheVariants.{NameGet, PreOp}
use Rattle.ec_txn.specs.Ballot.{IsGroupAt, Members, is_within, next_dirty, to_members}
use Rattle.ec_txn.specs.Rounds.{Asks, subject}

-- a window in which nothing was changed yet
pub record IsFresh (es : List Exchange) : Type 0 where
  pub pre : tried is_pre es ≡ false
  pub unmark : did is_unmark es ≡ false
  pub made : tried is_made es ≡ false

-- the PreOp was done under this grant at this version, and then these changes, the last first
pub record HasChanged (g : ℕ) (group : Group) (rs : List Request) (grant version : ℕ) (es : List Exchange) : Type 0 where
  pub pre : last_done is_pre es ≡ Some (PreOp (record { 0 = g }) grant version (next_dirty group.head))
  pub done : (did is_pre es && failed_none is_change (since is_pre es)) ≡ true
  pub changes_are : changes (since is_pre es) ≡ rs
  pub made : tried is_made es ≡ false

-- no Made was sent to a member that serves
abbrev pub IsUnmade : Group → Account → Type 0
IsUnmade group c = Members group c (λ x grant version. tried is_made (at c (subject c.given.op) x).window ≡ false)

-- each member that serves made the child's record
abbrev pub IsMade : Group → Account → Type 0
IsMade group c = Members group c (λ x grant version. did is_make (at c (subject c.given.op) x).window ≡ true)

-- The group is asked for the name that is to be changed, each brick under its lock.
pub record InNaming (group : Group) (name : List ℕ) (c : Account) (f : Asks) : Type 0 where
  pub group_is : IsGroupAt c (subject c.given.op) group
  pub clean : (c.on (subject c.given.op)).dirty ≡ None
  pub fresh : Members group c (λ x grant version. IsFresh (at c (subject c.given.op) x).window)
  pub asks : (x : ℕ) (r : Request) → f x ≡ Some r → (x < bricks_of c.given) × (lock : Lock) × ((at c (subject c.given.op) x).inode ≡ Some lock) × (lock.granted ≡ true) × (r ≡ NameGet (record { 0 = subject c.given.op }) lock.number name)

-- a change is sent to the members; `rs` are those before it by the grant
pub record InChange (group : Group) (change : ℕ → ℕ → Request) (rs : ℕ → List Request) (c : Account) (f : Asks) : Type 0 where
  pub within : is_within group.head ≡ true
  pub group_is : IsGroupAt c (subject c.given.op) group
  pub ready : Members group c (λ x grant version. HasChanged (subject c.given.op) group (rs grant) grant version (at c (subject c.given.op) x).window)
  pub asks : (x : ℕ) → f x ≡ to_members group change c x

-- What is sent after the Clears: the change is committed, and every brick made the child's record and did its Clear.
pub record InLast (group : Group) (request : ℕ → ℕ → Request) (c : Account) (f : Asks) : Type 0 where
  pub posted : IsPosted c (subject c.given.op)
  pub unmade : IsUnmade group c
  pub all : Every c (λ x. (did is_make (at c (subject c.given.op) x).window ≡ true) × (did is_clear (at c (subject c.given.op) x).window ≡ true))
  pub asks : (x : ℕ) → f x ≡ to_members group request c x
