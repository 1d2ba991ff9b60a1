-- What holds of the account at which a stage of a truncate begins.
use Rattle.std.specs.Prelude.{◌≡◌, ℕ, ◌/◌, ◌%◌, ◌<◌, ◌≤◌, ◌^◌, Bool, true, false, cond, ◌==◌, Some, List, [], ◌∷◌}
use Rattle.ec_answers.specs.declared.grouped.Group.{Group}
use Rattle.ec_attr.specs.declared.kind.LockKind.TheVariants.{Exclusive}
use Rattle.ec_conduct.specs.Account.{Account, at}
use Rattle.ec_conduct.specs.Changes.{are, stripes_of, writes}
use Rattle.ec_conduct.specs.Given.{Given, bricks_of, quorum_of}
use Rattle.ec_stripe.specs.Span.{stripe_bytes}
use Rattle.ec_txn.specs.declared.ballot.Ballot.TheVariants.{Pre, Post, Clear}
use Rattle.ec_txn.specs.declared.ctx.Ctx.{Ctx}
use Rattle.ec_txn.specs.declared.reading.Reading.{Reading}
use Rattle.ec_txn.specs.Ballot.{InBallot, IsGroupAt, is_within, serving, version_at}
use Rattle.ec_txn.specs.Opening.{InOpening}
use Rattle.ec_txn.specs.Rounds.{Asks, subject}
use Rattle.ec_wire.specs.declared.op.Op.{Op}
use Rattle.ec_wire.specs.declared.request.Request.{Request}
use Rattle.ec_write.specs.declared.stage.TruncateStage.{TruncateStage}
use Rattle.ec_write.specs.declared.stage.TruncateStage.TheVariants.{Cuts, Opens, Reads, Votes, Writes}
use Rattle.ec_write.specs.During.{HasChanged, IsChanging, IsFresh, IsReadingOne, IsWritingAt}
use Rattle.ec_write.specs.Range.{first_stripe, head_of}
use Rattle.ec_write.specs.Truncate.{IsTruncate, cut_request, low_of, to_of}

-- a truncate within the file sizes
abbrev pub IsCut : Op → Type 0
IsCut op = IsTruncate op × (to_of op ≤ 2 ^ 40)

-- the lesser size lies on a border of two stripes
abbrev pub is_border : Given → Group → Bool
is_border v group = head_of (quorum_of v) (low_of v.op group) == 0

-- the changes before the cut: where the lesser size is on no border, its stripe is written
abbrev pub tail_tests : ℕ → ℕ → List (Request → Bool)
tail_tests k low = cond (low % stripe_bytes k == 0) [] (writes (low / stripe_bytes k) 1 ∷ [])

pub record IsTailRead (x : Ctx) (v : Given) (c : Account) (group : Group) (reading : Reading) (f : Asks) : Type 0 where
  pub one : IsReadingOne x v c group reading f
  pub inside : is_border v group ≡ false
  pub first : reading.first ≡ first_stripe (quorum_of v) (low_of v.op group)

-- the stripe is written as in a file that ends at the lesser size
pub record IsTailWritten (v : Given) (c : Account) (group : Group) (lists : List (List (List ℕ))) (f : Asks) : Type 0 where
  pub inside : is_border v group ≡ false
  pub written : IsWritingAt v c group (low_of v.op group) [] (low_of v.op group) lists f

-- The cut goes to each brick that did all before it.
pub record IsCutting (v : Given) (c : Account) (group : Group) (f : Asks) : Type 0 where
  pub within : is_within group.head ≡ true
  pub group_is : IsGroupAt c (subject v.op) group
  pub changed : (x grant version : ℕ) → x < bricks_of v → serving (at c (subject v.op) x) ≡ Some grant → version_at group x ≡ Some version
      → (rs : List Request) × (are (tail_tests (quorum_of v) (low_of v.op group)) rs ≡ true) × HasChanged (subject v.op) group grant version rs (at c (subject v.op) x).window
  pub changing : IsChanging v c group (λ y. cut_request (subject v.op) (stripes_of (quorum_of v) (low_of v.op group)) (stripes_of (quorum_of v) (to_of v.op))) f

abbrev pub InTruncate : Ctx → TruncateStage → Account → Asks → Type 0
InTruncate x (Opens stage) c f = InOpening Exclusive stage c f × IsFresh c.given c
InTruncate x (Votes (Pre group)) c f = InBallot (Pre group) c f × IsFresh c.given c
InTruncate x (Votes (Post group)) c f = InBallot (Post group) c f
InTruncate x (Votes (Clear group)) c f = InBallot (Clear group) c f
InTruncate x (Reads group reading) c f = IsTailRead x c.given c group reading f
InTruncate x (Writes group lists) c f = IsTailWritten c.given c group lists f
InTruncate x (Cuts group) c f = IsCutting c.given c group f

abbrev pub DuringTruncate : Ctx → TruncateStage → Account → Asks → Type 0
DuringTruncate x stage c f = IsCut c.given.op × InTruncate x stage c f
