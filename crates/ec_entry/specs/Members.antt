-- The members of a group: its bricks, and the sinks beside them.
use Rattle.std.specs.Prelude.{ℕ, cond, ◌&&◌, ◌||◌, nat_lt, Option, Some, None}
use Rattle.ec_answers.specs.declared.grouped.Group.{Group}
use Rattle.ec_attr.specs.Bricks.{is_in}
use Rattle.ec_txn.specs.declared.known.Place.{Place}
use Rattle.ec_txn.specs.Ballot.{is_within, serving_by}
use Rattle.ec_wire.specs.declared.request.Request.{Request}

-- the grant of a member below n that did all that it was sent in this window
abbrev pub grant_in : Group → ℕ → Place → ℕ → Option ℕ
grant_in group n p x = cond (is_within group.head && nat_lt x n && (is_in group.bricks x || is_in group.sinks x)) (serving_by p) None

abbrev pub under_grant : Option ℕ → (ℕ → Request) → Option Request
under_grant None f = None
under_grant (Some grant) f = Some (f grant)
