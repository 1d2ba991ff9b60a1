-- What holds of versions after every run, from any bricks that stand.
use Rattle.std.specs.Prelude.{◌≡◌, ◌≢◌, ℕ, ◌+◌, ◌<◌, ◌≤◌, Bool, true, false, List}
use Rattle.ec_law_base.specs.State.{State, Head, target}
use Rattle.ec_law_ballots.specs.Words.{did}
use Rattle.ec_law_ballots.specs.Act.{Act, step, after}
use Rattle.ec_law_ballots.specs.Act.Act.{Post}
use Rattle.ec_law_ballots.specs.Guard.{May, Runs, IsCommitted}
use Rattle.ec_law_ballots.specs.Begin.{begin, Standing}

-- a law of the state after every run, for any N and K of which two quorums share a brick
abbrev pub AfterEveryRun : (ℕ → ℕ → State → Type 0) → Type 0
AfterEveryRun law = (n k : ℕ) → n < k + k → k ≤ n → (origin : ℕ) (heads : ℕ → Head) (fresh : Bool) (call : ℕ → ℕ) → Standing n k origin heads fresh → (acts : List Act) → Runs n k acts (begin n origin heads fresh call) → law n k (after acts (begin n origin heads fresh call))

-- no two turns of which a brick did a PostOp have the same version
abbrev pub NoTwoAlike : ℕ → ℕ → State → Type 0
NoTwoAlike n k s = (a c b d : ℕ) → a ≢ c → s.post a b ≡ true → s.post c d ≡ true → target (s.ballot a) ≢ target (s.ballot c)

-- turn a commits by this PostOp
abbrev pub Commits : ℕ → ℕ → State → ℕ → ℕ → Type 0
Commits n k s a b = May n k s (Post a b) × (IsCommitted n k s a → ⊥) × IsCommitted n k (step s (Post a b)) a

-- as a turn commits, its version is above that of every record at a brick that has not done its PostOp, marked or not
abbrev pub AboveOthers : ℕ → ℕ → State → Type 0
AboveOthers n k s = (a b c : ℕ) → Commits n k s a b → did (step s (Post a b)) a c ≡ false → s.present c ≡ true → s.version c < target (s.ballot a)

pub record VersionLaws : Type 0 where
  pub no_two_alike : AfterEveryRun NoTwoAlike
  pub above_others : AfterEveryRun AboveOthers
