-- In which order a table asks: its stages in parts, what each part asks of a brick, and which part may follow.
use Rattle.std.specs.Prelude.{◌≡◌, ℕ, ◌+◌, Bool, true, false, Some}
use Rattle.ec_attr.specs.declared.gfid.Gfid.{Gfid}
use Rattle.ec_attr.specs.declared.kind.Domain.TheVariants.{Inode}
use Rattle.ec_attr.specs.declared.kind.LockKind.{LockKind}
use Rattle.ec_attr.specs.declared.kind.LockKind.TheVariants.{Shared, Exclusive}
use Rattle.ec_conduct.specs.Account.{Account}
use Rattle.ec_conduct.specs.Done.{is_make, is_post, is_query}
use Rattle.ec_conduct.specs.Given.{Given}
use Rattle.ec_txn.specs.Tables.{Table}
use Rattle.ec_txn.specs.declared.stage.Next.TheVariants.{Go}
use Rattle.ec_wire.specs.declared.request.Request.{Request}
use Rattle.ec_wire.specs.declared.request.Request.TheVariants.{Ask, Release, Query, PreOp, PostOp, Make}

-- One brick is locked after another, then those that granted are asked for their heads. A call that changes something works
-- on, makes the record of a child if it has one, works on, sends its PostOps, and ends.
pub data Part : Type 0 where
  Locks : (brick : ℕ) → Part
  Heads : Part
  Works : Part
  Makes : Part
  Names : Part
  Posts : Part
  Ends : Part

abbrev pub alone : LockKind → Bool
alone Shared = false
alone Exclusive = true

-- What a call works with: no lock, no Query, no record of a child and no PostOp, and a PreOp only under exclusive locks.
abbrev pub is_work : LockKind → Request → Bool
is_work kind (Ask g domain k) = false
is_work kind (Release g grant) = false
is_work kind (Query g grant) = false
is_work kind (PreOp g grant version dirty) = alone kind
is_work kind (PostOp g grant old new size attr) = false
is_work kind (Make g grant child) = false
is_work kind r = true

-- what a part asks of a brick, under locks of this kind
abbrev pub Fits : LockKind → Part → ℕ → Request → Type 0
Fits kind (Locks brick) x r = (x ≡ brick) × (g : Gfid) × (r ≡ Ask g Inode kind)
Fits kind Heads x r = is_query r ≡ true
Fits kind Works x r = is_work kind r ≡ true
Fits kind Makes x r = is_make r ≡ true
Fits kind Names x r = is_work kind r ≡ true
Fits kind Posts x r = is_post r ≡ true
Fits kind Ends x r = is_work kind r ≡ true

-- Which part may follow: none comes back once it is left, and those of Makes and of PostOps have one stage.
abbrev pub IsNext : Part → Part → Type 0
IsNext (Locks b) (Locks d) = d ≡ b + 1
IsNext (Locks b) Heads = Unit {0}
IsNext Heads Works = Unit {0}
IsNext Works Works = Unit {0}
IsNext Works Makes = Unit {0}
IsNext Works Posts = Unit {0}
IsNext Makes Names = Unit {0}
IsNext Names Posts = Unit {0}
IsNext Posts Ends = Unit {0}
IsNext Ends Ends = Unit {0}
IsNext p q = ⊥

-- A table goes in this order, under locks of one kind. What a stage asks again is work.
pub record GoesInOrder {P : Type 0} (kind : LockKind) (t : Table P) : Type 0 where
  pub part : P → Part
  pub first : (given : Given) (q : P) → t.starts given (Go q) → part q ≡ Locks 0
  pub asks : (p : P) (c : Account) (x : ℕ) (r : Request) → t.asks p c x ≡ Some r → Fits kind (part p) x r
  pub next : (p q : P) (c : Account) → t.follows p c (Go q) → IsNext (part p) (part q)
  pub again : (p : P) → t.again p ≡ true → part p ≡ Works
