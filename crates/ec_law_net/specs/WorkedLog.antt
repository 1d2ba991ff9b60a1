-- A worked log: a write at two of three bricks while another client waits for one of them, as acts.
use Rattle.std.specs.Prelude.{◌≡◌, ℕ, false, true, None, List, [], ◌∷◌, ◌++◌}
use Rattle.ec_attr.specs.declared.kind.Domain.TheVariants.{Inode}
use Rattle.ec_attr.specs.declared.kind.Kind.TheVariants.{File}
use Rattle.ec_attr.specs.declared.kind.LockKind.TheVariants.{Exclusive}
use Rattle.ec_wire.specs.declared.entry.Entry.{Entry}
use Rattle.ec_wire.specs.declared.entry.Entry.TheVariants.{Called, Stopped}
use Rattle.ec_wire.specs.declared.op.Op.TheVariants.{Write}
use Rattle.ec_wire.specs.declared.request.Request.TheVariants.{Ask, Query, PreOp, PostOp, Release}
use Rattle.ec_history.specs.Run.{Net, fresh}
use Rattle.ec_history.specs.Short.{brick_at, bricks_of, does, two}
use Rattle.ec_law_base.specs.State.{State}
use Rattle.ec_law_ballots.specs.Act.Act.{Grant, Free, Moment, See, Choose, Pre, Post, Stop}
use Rattle.ec_law_ballots.specs.Begin.{begin}
use Rattle.ec_law_net.specs.Turns.{View, all_acts, turn_from}

abbrev pub net : Net
net = fresh (bricks_of (brick_at File 3 1024 []) (brick_at File 3 1024 []) (brick_at File 3 1024 []))

abbrev pub start : State
start = begin 3 3 (λ b. record { present = true; version = 3; dirty = 0; marked = false }) false (λ a. 0)

abbrev pub first : View
first = record { core = start; turn = λ a. None; of = λ i. 0; maker = None; next_gfid = 3 }

-- call 1 locks two bricks, for one of which call 2 asks then
abbrev pub locks : List Entry
locks = Called 1 1 (Write two 0 (65 ∷ [])) ∷ Called 2 2 (Write two 0 (66 ∷ []))
    ∷ does 1 1 1 0 (Ask two Inode Exclusive) ++ does 2 1 1 1 (Ask two Inode Exclusive) ++ does 3 2 2 0 (Ask two Inode Exclusive)

abbrev pub ballot : List Entry
ballot = does 4 1 1 0 (Query two 1) ++ does 5 1 1 1 (Query two 2) ++ does 6 1 1 0 (PreOp two 1 3 2) ++ does 7 1 1 1 (PreOp two 2 3 2)

-- the release lets call 2 in, and then brick 1 stops
abbrev pub ends : List Entry
ends = does 8 1 1 0 (PostOp two 1 3 5 1024 None) ++ does 9 1 1 1 (PostOp two 2 3 5 1024 None) ++ does 10 1 1 0 (Release two 1) ++ Stopped 1 ∷ []

abbrev pub short : List Entry
short = Called 1 1 (Write two 0 (65 ∷ [])) ∷ does 1 1 1 0 (Ask two Inode Exclusive)

abbrev pub short_ballot : List Entry
short_ballot = does 2 1 1 0 (Query two 1) ++ does 3 1 1 0 (PreOp two 1 3 2) ++ does 4 1 1 0 (PostOp two 1 3 5 1024 None) ++ Stopped 0 ∷ []

abbrev pub one : ℕ
one = turn_from 1

pub record WriteAsActs : Type 0 where
  pub locked : all_acts 2 locks net first ≡ Grant one 0 ∷ Grant one 1 ∷ []
  pub let_in : all_acts 2 (locks ++ does 4 1 1 0 (Release two 1)) net first ≡ Grant one 0 ∷ Grant one 1 ∷ Free 0 ∷ Grant (turn_from 3) 0 ∷ []
  pub alone : all_acts 2 (short ++ short_ballot) net first
      ≡ Grant one 0 ∷ Moment one ∷ See one 0 ∷ Choose one (record { base = 3; number = 2 }) ∷ Pre one 0 ∷ Post one 0 ∷ Stop 0 ∷ []
