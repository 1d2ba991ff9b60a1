-- A run of every kind of deed, on two bricks and one more, over a file of which each stripe is a number.
use Rattle.std.specs.Prelude.{ℕ, Bool, true, false, cond, ◌==◌, nat_le, Some, None, List, [], ◌∷◌}
use Rattle.ec_history.specs.Flat.Opener.{Nobody}
use Rattle.ec_law_ballots.specs.Act.Act.{Grant, Free, Moment, Keep, Carry, Pre, Sink_pre, Clear, Heal_grant, Heal_free, Maker_grant, Made}
use Rattle.ec_law_pieces.specs.File.{Form, File}
use Rattle.ec_law_pieces.specs.Deed.{Deed, Plan, Runs, after}
use Rattle.ec_law_pieces.specs.Deed.Deed.{Do, Look, Take, Take_kept, Read, Intend, Write, Tear, Copy, Spoil, Commit, Follow, Begin, Finish, Create}
use Rattle.ec_law_pieces.specs.Laws.{start}

-- a stripe is a number, its code at each brick that number; the shape is how many stripes there are
abbrev pub numbers : Form ℕ ℕ ℕ ℕ ℕ
numbers = record { code = λ v b. v; unit = λ v i. v; past = λ count p. nat_le count p; zero = 0 }

abbrev pub call : ℕ → ℕ
call a = cond (a == 22) 21 a

abbrev pub nothing : File ℕ ℕ ℕ ℕ ℕ
nothing = start numbers 3 (record { version = 0; shape = 0; unit = λ p i. Some 0; opener = λ p. Nobody }) (λ b. record { present = false; version = 0; dirty = 0; marked = false }) true call (λ b. 0) (λ b p. 0) (λ p. 0)

abbrev pub first : ℕ → Bool
first p = p == 0

-- the first stripe becomes 5, and there is one
abbrev pub five : Plan ℕ ℕ ℕ ℕ
five = record { covers = first; sets = λ p i. Some 5; value = λ p. 5; becomes = 1 }

-- the first stripe is written as it was, and no stripe
abbrev pub again : Plan ℕ ℕ ℕ ℕ
again = record { covers = first; sets = λ p i. None; value = λ p. 5; becomes = 1 }

abbrev pub touch : Plan ℕ ℕ ℕ ℕ
touch = record { covers = λ p. false; sets = λ p i. None; value = λ p. 0; becomes = 1 }

-- its maker makes a record at three bricks, and at two of them its Made is executed
abbrev pub creation : List (Deed ℕ ℕ ℕ ℕ ℕ)
creation =
    Do (Maker_grant 0) ∷ Do (Maker_grant 1) ∷ Do (Maker_grant 2) ∷ Create 0 0 ∷ Create 1 0 ∷ Create 2 0 ∷ Do (Made 0) ∷ Do (Made 1) ∷ []

-- turn 1 writes the first stripe at two bricks
abbrev pub writing : List (Deed ℕ ℕ ℕ ℕ ℕ)
writing =
    Do (Grant 1 0) ∷ Do (Grant 1 1) ∷ Do (Moment 1) ∷ Look 1 0 ∷ Look 1 1 ∷ Take 1 (record { base = 0; number = 1 }) 0 ∷ Do (Pre 1 0) ∷ Do (Pre 1 1) ∷ Intend 1 five ∷ Write 1 0 first ∷ Write 1 1 first ∷ Commit 1 0 ∷ Commit 1 1 ∷ Do (Free 0) ∷ Do (Free 1) ∷ []

-- call 21 heals: its first window marks brick 2, cuts it and copies the first stripe
abbrev pub copying : List (Deed ℕ ℕ ℕ ℕ ℕ)
copying =
    Do (Heal_grant 21 0) ∷ Do (Heal_grant 21 1) ∷ Do (Heal_grant 21 2) ∷ Do (Grant 21 0) ∷ Do (Grant 21 1) ∷ Do (Grant 21 2) ∷ Do (Moment 21) ∷ Look 21 0 ∷ Look 21 1 ∷ Look 21 2 ∷ Take 21 (record { base = 1; number = 2 }) 1 ∷ Begin 21 2 ∷ Copy 21 2 (λ p. nat_le 1 p) (λ p. 0) ∷ Read 21 0 first ∷ Read 21 1 first ∷ Spoil 2 first (λ p. 9) ∷ Copy 21 2 first (λ p. 5) ∷ Do (Free 0) ∷ Do (Free 1) ∷ Do (Free 2) ∷ []

-- turn 4 writes the stripe again as it reads it, once torn; brick 2 follows
abbrev pub beside : List (Deed ℕ ℕ ℕ ℕ ℕ)
beside =
    Do (Grant 4 0) ∷ Do (Grant 4 1) ∷ Do (Grant 4 2) ∷ Do (Moment 4) ∷ Look 4 0 ∷ Look 4 1 ∷ Look 4 2 ∷ Take 4 (record { base = 1; number = 2 }) 1 ∷ Do (Pre 4 0) ∷ Do (Pre 4 1) ∷ Do (Sink_pre 4 2) ∷ Read 4 0 first ∷ Read 4 1 first ∷ Intend 4 again ∷ Tear 4 1 first (λ p. 9) ∷ Write 4 0 first ∷ Write 4 1 first ∷ Write 4 2 first ∷ Commit 4 0 ∷ Commit 4 1 ∷ Follow 4 2 ∷ Do (Free 0) ∷ Do (Free 1) ∷ Do (Free 2) ∷ []

-- the last window takes the mark away and touches all three; turn 5 goes on under the kept grants
abbrev pub touching : List (Deed ℕ ℕ ℕ ℕ ℕ)
touching =
    Do (Grant 22 0) ∷ Do (Grant 22 1) ∷ Do (Grant 22 2) ∷ Do (Moment 22) ∷ Look 22 0 ∷ Look 22 1 ∷ Look 22 2 ∷ Take 22 (record { base = 3; number = 2 }) 1 ∷ Finish 22 2 ∷ Do (Pre 22 0) ∷ Do (Pre 22 1) ∷ Do (Pre 22 2) ∷ Intend 22 touch ∷ Commit 22 0 ∷ Commit 22 1 ∷ Commit 22 2 ∷ Do (Clear 22 0) ∷ Do (Clear 22 1) ∷ Do (Clear 22 2) ∷ Do (Keep 5 22) ∷ Do (Carry 22 5 0) ∷ Do (Carry 22 5 1) ∷ Do (Carry 22 5 2) ∷ Do (Moment 5) ∷ Look 5 0 ∷ Look 5 1 ∷ Look 5 2 ∷ Take_kept 5 22 (record { base = 5; number = 1 }) ∷ Do (Free 0) ∷ Do (Free 1) ∷ Do (Free 2) ∷ Do (Heal_free 0) ∷ Do (Heal_free 1) ∷ Do (Heal_free 2) ∷ []

abbrev pub after_creation : File ℕ ℕ ℕ ℕ ℕ
after_creation = after numbers 3 2 creation nothing

abbrev pub after_writing : File ℕ ℕ ℕ ℕ ℕ
after_writing = after numbers 3 2 writing after_creation

abbrev pub after_copying : File ℕ ℕ ℕ ℕ ℕ
after_copying = after numbers 3 2 copying after_writing

abbrev pub after_beside : File ℕ ℕ ℕ ℕ ℕ
after_beside = after numbers 3 2 beside after_copying

abbrev pub after_touching : File ℕ ℕ ℕ ℕ ℕ
after_touching = after numbers 3 2 touching after_beside

pub record WorkedDeeds : Type 0 where
  pub creation : Runs numbers 3 2 creation nothing
  pub writing : Runs numbers 3 2 writing after_creation
  pub copying : Runs numbers 3 2 copying after_writing
  pub beside : Runs numbers 3 2 beside after_copying
  pub touching : Runs numbers 3 2 touching after_beside
