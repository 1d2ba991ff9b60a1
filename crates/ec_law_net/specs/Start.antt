-- The machine of versions as a run begins, from the records that the bricks have then.
use Rattle.std.specs.Prelude.{ℕ, Bool, true, false, cond, ◌==◌, nat_lt, is_some, Option, Some, None}
use Rattle.ec_conduct.specs.Given.{quorum}
use Rattle.ec_attr.specs.Bricks.{count_below}
use Rattle.ec_attr.specs.Marks.{is_marked, stripped}
use Rattle.ec_attr.specs.declared.config.Config.{Config}
use Rattle.ec_attr.specs.declared.head.Head.{Head}
use Rattle.ec_brick.specs.State.{State as Brick}
use Rattle.ec_history.specs.Flat.{Tree}
use Rattle.ec_history.specs.Run.{fresh}
use Rattle.ec_law_base.specs.State.{Head as Seen}
use Rattle.ec_law_ballots.specs.Begin.{Standing, begin}
use Rattle.ec_store.specs.Records.{Records, head_at}
use Rattle.ec_law_net.specs.Turns.{View}
use Rattle.ec_law_net.specs.Link.{Linked}

-- a head as the machine has it
abbrev pub seen_head : Option Head → Seen
seen_head None = record { present = false; version = 0; dirty = 0; marked = false }
seen_head (Some h) = record { present = true; version = stripped h.version.content; dirty = h.dirty.content; marked = is_marked h.version.content }

-- by brick, of the first n
abbrev pub first_heads : ℕ → (ℕ → Records) → ℕ → ℕ → Seen
first_heads n records g b = cond (nat_lt b n) (seen_head (head_at (records b) g)) (seen_head None)

-- no brick has a record of the gfid
abbrev pub is_new : ℕ → (ℕ → Records) → ℕ → Bool
is_new n records g = count_below n (λ b. is_some (records b g)) == 0

-- As a log begins; `origin` is the flat version, and `call` says of which call a turn is.
abbrev pub first_view : ℕ → ℕ → (ℕ → Records) → ℕ → (ℕ → ℕ) → ℕ → View
first_view n origin records g call next = record { core = begin n origin (first_heads n records g) (is_new n records g) call; turn = λ a. None; of = λ i. 0; maker = None; next_gfid = next }

-- Bricks that stand for a tree stand for the machine, gfid by gfid, and it is linked to them.
pub record BeginsLinked (config : Config) (records : ℕ → Records) (bricks : ℕ → Brick) (tree : Tree) (next : ℕ) (g : ℕ) (call : ℕ → ℕ) : Type 0 where
  pub standing : Standing config.geometry.n (quorum config.geometry) (tree g).version (first_heads config.geometry.n records g) (is_new config.geometry.n records g)
  pub linked : Linked config.geometry.n g (fresh bricks) (first_view config.geometry.n (tree g).version records g call next)
