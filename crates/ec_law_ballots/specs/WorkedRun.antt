-- A run of every kind of act, on two bricks and one more.
use Rattle.std.specs.Prelude.{◌≡◌, ℕ, ◌<◌, true, false, cond, ◌==◌, List, [], ◌∷◌}
use Rattle.ec_law_base.specs.State.{State}
use Rattle.ec_law_ballots.specs.Words.{head}
use Rattle.ec_law_ballots.specs.Act.{Act, after}
use Rattle.ec_law_ballots.specs.Act.Act.{Carry, Choose, Choose_kept, Clear, Free, Grant, Heal_free, Heal_grant, Keep, Made, Make, Maker_free, Maker_grant, Mark, Moment, Post, Pre, Replace, See, Share, Sink_post, Sink_pre, Stop, Unmake, Unmark, Unshare}
use Rattle.ec_law_ballots.specs.Guard.{Runs}
use Rattle.ec_law_ballots.specs.Begin.{begin}

-- turn 22 is a window of call 21, and each other turn of a call of its own
abbrev pub call : ℕ → ℕ
call a = cond (a == 22) 21 a

-- no brick has a record
abbrev pub nothing : State
nothing = begin 3 0 (λ b. record { present = false; version = 0; dirty = 0; marked = false }) true call

-- its maker makes a record at three bricks, and at two of them its Made is executed
abbrev pub creation : List Act
creation =
    Maker_grant 0 ∷ Maker_grant 1 ∷ Maker_grant 2 ∷ Make 0 ∷ Make 1 ∷ Make 2 ∷ Made 0 ∷ Made 1 ∷ Maker_free 0 ∷
    Maker_free 1 ∷ Maker_free 2 ∷ []

-- turn 1 writes at two bricks, and turn 2 goes on under the kept grants
abbrev pub writes : List Act
writes =
    Grant 1 0 ∷ Grant 1 1 ∷ Moment 1 ∷ See 1 0 ∷ See 1 1 ∷ Choose 1 (record { base = 0; number = 1 }) ∷
    Pre 1 0 ∷ Pre 1 1 ∷ Post 1 0 ∷ Post 1 1 ∷ Keep 2 1 ∷ Carry 1 2 0 ∷ Carry 1 2 1 ∷ Moment 2 ∷ See 2 0 ∷
    See 2 1 ∷ Choose_kept 2 1 (record { base = 1; number = 2 }) ∷ Pre 2 0 ∷ Pre 2 1 ∷ Post 2 0 ∷ Post 2 1 ∷
    Free 0 ∷ Free 1 ∷ []

-- turn 3 reads under shared grants
abbrev pub reading : List Act
reading =
    Share 3 0 ∷ Share 3 1 ∷ Moment 3 ∷ See 3 0 ∷ See 3 1 ∷ Unshare 3 0 ∷ Unshare 3 1 ∷ []

-- call 21 heals: its first window, turn 21, marks brick 2
abbrev pub marking : List Act
marking =
    Heal_grant 21 0 ∷ Heal_grant 21 1 ∷ Heal_grant 21 2 ∷ Grant 21 0 ∷ Grant 21 1 ∷ Grant 21 2 ∷ Moment 21 ∷
    See 21 0 ∷ See 21 1 ∷ See 21 2 ∷ Choose 21 (record { base = 3; number = 2 }) ∷ Mark 21 2 ∷ Free 0 ∷
    Free 1 ∷ Free 2 ∷ []

-- turn 4 writes, and brick 2 follows
abbrev pub beside : List Act
beside =
    Grant 4 0 ∷ Grant 4 1 ∷ Grant 4 2 ∷ Moment 4 ∷ See 4 0 ∷ See 4 1 ∷ See 4 2 ∷
    Choose 4 (record { base = 3; number = 2 }) ∷ Pre 4 0 ∷ Pre 4 1 ∷ Sink_pre 4 2 ∷ Post 4 0 ∷ Post 4 1 ∷
    Sink_post 4 2 ∷ Free 0 ∷ Free 1 ∷ Free 2 ∷ []

-- the last window, turn 22, takes the mark away and touches all three
abbrev pub touching : List Act
touching =
    Grant 22 0 ∷ Grant 22 1 ∷ Grant 22 2 ∷ Moment 22 ∷ See 22 0 ∷ See 22 1 ∷ See 22 2 ∷
    Choose 22 (record { base = 5; number = 2 }) ∷ Unmark 22 2 ∷ Pre 22 0 ∷ Pre 22 1 ∷ Pre 22 2 ∷ Post 22 0 ∷
    Post 22 1 ∷ Post 22 2 ∷ Clear 22 0 ∷ Clear 22 1 ∷ Clear 22 2 ∷ Free 0 ∷ Free 1 ∷ Free 2 ∷ Heal_free 0 ∷
    Heal_free 1 ∷ Heal_free 2 ∷ []

-- brick 0 loses its record to an Unmake, brick 2 is replaced
abbrev pub ending : List Act
ending =
    Unmake 0 ∷ Stop 2 ∷ Replace 2 ∷ []

-- each part is a run from where the one before it ends
abbrev pub after_creation : State
after_creation = after creation nothing

abbrev pub after_writes : State
after_writes = after writes after_creation

abbrev pub after_reading : State
after_reading = after reading after_writes

abbrev pub after_marking : State
after_marking = after marking after_reading

abbrev pub after_beside : State
after_beside = after beside after_marking

abbrev pub after_touching : State
after_touching = after touching after_beside

abbrev pub after_ending : State
after_ending = after ending after_touching

pub record WorkedRun : Type 0 where
  pub creation : Runs 3 2 creation nothing
  pub writes : Runs 3 2 writes after_creation
  pub reading : Runs 3 2 reading after_writes
  pub marking : Runs 3 2 marking after_reading
  pub beside : Runs 3 2 beside after_marking
  pub touching : Runs 3 2 touching after_beside
  pub ending : Runs 3 2 ending after_touching
  -- after the touch all three are alike, and in the end brick 1 alone has a record
  pub all_alike : (b : ℕ) → b < 3 → head after_touching b ≡ record { present = true; version = 7; dirty = 0; marked = false }
  pub left : (head after_ending 1 ≡ record { present = true; version = 7; dirty = 0; marked = false }) × (after_ending.present 0 ≡ false) × (after_ending.present 2 ≡ false)
