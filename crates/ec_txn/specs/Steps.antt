-- What a call adds to its own entries in a step.
use Rattle.std.specs.Prelude.{◌≡◌, ℕ, ◌<◌, Option, Some, None, List, ◌++◌, All}
use Rattle.ec_brick.specs.Fit.{IsFit as IsFitRequest}
use Rattle.ec_conduct.specs.Account.{Wait}
use Rattle.ec_conduct.specs.Given.{CachedStripe, Given}
use Rattle.ec_conduct.specs.Own.{Own}
use Rattle.ec_conduct.specs.Table.{Send, entries_of}
use Rattle.ec_conduct.specs.declared.kept.Kept.{Kept}
use Rattle.ec_txn.specs.declared.ctx.Ctx.{Ctx}
use Rattle.ec_txn.specs.declared.turn.Turn.{Turn}
use Rattle.ec_txn.specs.declared.turn.Turn.TheVariants.{Wait as Waits, Done}
use Rattle.ec_wire.specs.declared.answer.Answer.{Answer}
use Rattle.ec_wire.specs.declared.op.Op.{Op}

-- what a call begins with, as its conduct sees it
abbrev pub given_of : Ctx → Op → Option Kept → List CachedStripe → Given
given_of x op kept cache = record { geometry = x.geometry; op = op; child = x.child.0; kept = kept; cache = cache }

abbrev pub answer_of : Turn → Option Answer
answer_of Waits = None
answer_of (Done answer) = Some answer

-- the number of the request that is waited for
abbrev pub number_of : Option Wait → Option ℕ
number_of None = None
number_of (Some w) = Some w.number

-- A step after these own entries: it adds its sends, under the numbers from `next` on, and its answer. Each goes to one
-- of n bricks, which may execute it.
pub record Adds (Stands : List Own → Type 0) (n : ℕ) (es : List Own) (next : ℕ) (sends : List Send) (answer : Option Answer) : Type 0 where
  pub stands : Stands (es ++ entries_of next sends answer)
  pub below : All (λ s. s.0 < n) sends
  pub fit : All (λ s. IsFitRequest s.1) sends
