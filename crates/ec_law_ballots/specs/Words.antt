-- Words on what a turn has seen and done at a brick.
use Rattle.std.specs.Prelude.{ℕ, Bool, false, not, ◌==◌, ◌&&◌, ◌||◌, nat_lt, is_some, Option, Some, None}
use Rattle.ec_law_base.specs.State.{State, Head, Ballot}

abbrev pub head : State → ℕ → Head
head s b = record { present = s.present b; version = s.version b; dirty = s.dirty b; marked = s.marked b }

-- the turn's Query was answered there
abbrev pub saw : State → ℕ → ℕ → Bool
saw s a b = is_some (s.seen a b)

-- a head on which a ballot may stand: unmarked, at its base, with a lower dirty number
abbrev pub at_base : Ballot → Option Head → Bool
at_base p None = false
at_base p (Some h) = h.present && not h.marked && (h.version == p.base) && nat_lt h.dirty p.number

-- the bricks that the turn saw to be of its group
abbrev pub group : State → ℕ → ℕ → Bool
group s a b = at_base (s.ballot a) (s.seen a b)

abbrev pub is_marked_head : Option Head → Bool
is_marked_head None = false
is_marked_head (Some h) = h.present && h.marked

-- the turn marked the brick, or its Query saw it marked
abbrev pub tied : State → ℕ → ℕ → Bool
tied s a b = s.mark a b || is_marked_head (s.seen a b)

abbrev pub is_there : Option Head → Bool
is_there None = false
is_there (Some h) = h.present

-- the turn saw a record there, or marked it
abbrev pub met : State → ℕ → ℕ → Bool
met s a b = s.mark a b || is_there (s.seen a b)

-- the brick did the PostOp of the turn, marked or not
abbrev pub did : State → ℕ → ℕ → Bool
did s a b = s.post a b || s.spost a b

-- a record that its maker's Made may still find: the maker's grant stands, its Make was executed and its Made was not
abbrev pub is_young : State → ℕ → Bool
is_young s b = s.maker b && s.born b && not (s.grown b) && not (s.removed b)
