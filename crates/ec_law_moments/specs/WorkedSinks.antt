-- A run of readers and a heal of two windows, over a file of two stripes, each of which is a number. Two bricks have it, and
-- one fell behind.
use Rattle.std.specs.Prelude.{◌≡◌, ℕ, Bool, true, false, cond, ◌==◌, nat_lt, nat_le, Some, List, [], ◌∷◌}
use Rattle.ec_history.specs.Flat.{is_open}
use Rattle.ec_history.specs.Flat.Opener.{Nobody}
use Rattle.ec_law_base.specs.State.{Head}
use Rattle.ec_law_ballots.specs.Act.Act.{Grant, Free, Share, Unshare, Moment, Pre, Sink_pre, Clear, Heal_grant, Heal_free}
use Rattle.ec_law_pieces.specs.Deed.{Plan}
use Rattle.ec_law_pieces.specs.Deed.Deed.{Do, Look, Take, Read, Intend, Write, Copy, Commit, Begin, Finish}
use Rattle.ec_law_pieces.specs.Laws.{start}
use Rattle.ec_law_pieces.specs.WorkedDeeds.{numbers, call, first}
use Rattle.ec_law_moments.specs.Reads.{World, Happening, Go, Fetch, Runs, after, opening}

abbrev pub stripes : ℕ → ℕ
stripes p = cond (nat_lt p 2) 5 0

abbrev pub heads : ℕ → Head
heads b = record { present = nat_lt b 3; version = cond (b == 2) 0 1; dirty = 1; marked = false }

abbrev pub beginning : World ℕ ℕ ℕ ℕ ℕ
beginning = opening (start numbers 3 (record { version = 1; shape = 2; unit = λ p i. Some (stripes p); opener = λ p. Nobody }) heads false call (λ b. 2) (λ b p. cond (b == 2) 0 (stripes p)) stripes)

abbrev pub second : ℕ → Bool
second p = p == 1

-- the first stripe becomes 7
abbrev pub seven : Plan ℕ ℕ ℕ ℕ
seven = record { covers = first; sets = λ p i. Some 7; value = λ p. 7; becomes = 2 }

abbrev pub touch : Plan ℕ ℕ ℕ ℕ
touch = record { covers = λ p. false; sets = λ p i. Some 0; value = λ p. 0; becomes = 2 }

-- turn 3 reads the first stripe under shared grants
abbrev pub reading : List (Happening ℕ ℕ ℕ ℕ ℕ)
reading =
    Go (Do (Share 3 0)) ∷ Go (Do (Share 3 1)) ∷ Go (Do (Moment 3)) ∷ Go (Look 3 0) ∷ Go (Look 3 1) ∷ Fetch 3 0 first ∷ Fetch 3 1 first ∷ Go (Do (Unshare 3 0)) ∷ Go (Do (Unshare 3 1)) ∷ []

-- call 21 heals: its first window marks brick 2, cuts it and copies the first stripe
abbrev pub first_window : List (Happening ℕ ℕ ℕ ℕ ℕ)
first_window =
    Go (Do (Heal_grant 21 0)) ∷ Go (Do (Heal_grant 21 1)) ∷ Go (Do (Heal_grant 21 2)) ∷ Go (Do (Grant 21 0)) ∷ Go (Do (Grant 21 1)) ∷ Go (Do (Grant 21 2)) ∷ Go (Do (Moment 21)) ∷ Go (Look 21 0) ∷ Go (Look 21 1) ∷ Go (Look 21 2) ∷ Go (Take 21 (record { base = 1; number = 2 }) 2) ∷ Go (Begin 21 2) ∷ Go (Copy 21 2 (λ p. nat_le 2 p) (λ p. 0)) ∷ Go (Read 21 0 first) ∷ Go (Read 21 1 first) ∷ Go (Copy 21 2 first (λ p. 5)) ∷ Go (Do (Free 0)) ∷ Go (Do (Free 1)) ∷ Go (Do (Free 2)) ∷ []

-- turn 4 writes the first stripe, at the sink too, and goes no further: the stripe is open
abbrev pub beside : List (Happening ℕ ℕ ℕ ℕ ℕ)
beside =
    Go (Do (Grant 4 0)) ∷ Go (Do (Grant 4 1)) ∷ Go (Do (Grant 4 2)) ∷ Go (Do (Moment 4)) ∷ Go (Look 4 0) ∷ Go (Look 4 1) ∷ Go (Look 4 2) ∷ Go (Take 4 (record { base = 1; number = 2 }) 2) ∷ Go (Do (Pre 4 0)) ∷ Go (Do (Pre 4 1)) ∷ Go (Do (Sink_pre 4 2)) ∷ Go (Intend 4 seven) ∷ Go (Write 4 0 first) ∷ Go (Write 4 1 first) ∷ Go (Write 4 2 first) ∷ Go (Do (Free 0)) ∷ Go (Do (Free 1)) ∷ Go (Do (Free 2)) ∷ []

-- the last window copies the second stripe, up to where it takes the mark away
abbrev pub last_window : List (Happening ℕ ℕ ℕ ℕ ℕ)
last_window =
    Go (Do (Grant 22 0)) ∷ Go (Do (Grant 22 1)) ∷ Go (Do (Grant 22 2)) ∷ Go (Do (Moment 22)) ∷ Go (Look 22 0) ∷ Go (Look 22 1) ∷ Go (Look 22 2) ∷ Go (Take 22 (record { base = 1; number = 3 }) 2) ∷ Go (Read 22 0 second) ∷ Go (Read 22 1 second) ∷ Go (Copy 22 2 second (λ p. 5)) ∷ []

-- it takes the mark away and touches all three
abbrev pub ending : List (Happening ℕ ℕ ℕ ℕ ℕ)
ending =
    Go (Finish 22 2) ∷ Go (Do (Pre 22 0)) ∷ Go (Do (Pre 22 1)) ∷ Go (Do (Pre 22 2)) ∷ Go (Intend 22 touch) ∷ Go (Commit 22 0) ∷ Go (Commit 22 1) ∷ Go (Commit 22 2) ∷ Go (Do (Clear 22 0)) ∷ Go (Do (Clear 22 1)) ∷ Go (Do (Clear 22 2)) ∷ Go (Do (Free 0)) ∷ Go (Do (Free 1)) ∷ Go (Do (Free 2)) ∷ Go (Do (Heal_free 0)) ∷ Go (Do (Heal_free 1)) ∷ Go (Do (Heal_free 2)) ∷ []

abbrev pub after_reading : World ℕ ℕ ℕ ℕ ℕ
after_reading = after numbers 3 2 reading beginning

abbrev pub after_first : World ℕ ℕ ℕ ℕ ℕ
after_first = after numbers 3 2 first_window after_reading

abbrev pub after_beside : World ℕ ℕ ℕ ℕ ℕ
after_beside = after numbers 3 2 beside after_first

abbrev pub after_last : World ℕ ℕ ℕ ℕ ℕ
after_last = after numbers 3 2 last_window after_beside

pub record WorkedSinks : Type 0 where
  pub reading : Runs numbers 3 2 reading beginning
  pub first_window : Runs numbers 3 2 first_window after_reading
  pub beside : Runs numbers 3 2 beside after_first
  pub last_window : Runs numbers 3 2 last_window after_beside
  pub ending : Runs numbers 3 2 ending after_last
  -- As the mark is taken away: the first stripe is open, the sink has it of a data request since the window that copied it, and
  -- there was none since the moment of the last one.
  pub opened : (is_open ((after_last.then 22).flat.opener 0) ≡ true) × (after_last.file.piece 2 0 ≡ 7)
  pub stirred : ((after_last.copied 2 0).turn ≡ 21) × (after_last.stirred 21 2 0 ≡ true) × (after_last.stirred 22 2 0 ≡ false)
  -- the second one is closed, and the last window copied it
  pub closed : ((after_last.then 22).flat.opener 1 ≡ Nobody) × ((after_last.copied 2 1).turn ≡ 22) × (after_last.file.piece 2 1 ≡ 5)
