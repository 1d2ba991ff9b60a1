-- What holds of several bricks together after each act, where two sets of at least K bricks share one.
use Rattle.std.specs.Prelude.{◌≡◌, ◌⊎◌, ℕ, ◌+◌, ◌<◌, ◌≤◌, true, false, Some, None}
use Rattle.ec_attr.specs.Bricks.{count_below}
use Rattle.ec_law_base.specs.State.{State, Head, target}
use Rattle.ec_law_ballots.specs.Words.{group}
use Rattle.ec_law_ballots.specs.Guard.{IsCommitted}
use Rattle.ec_law_ballots.specs.Begin.{is_plain}
use Rattle.ec_law_ballots.specs.Clauses.{Local}
use Rattle.ec_law_ballots.specs.Facts.{BegunMoment, NumberMoment, NumberMaking, OriginLe}

-- So many bricks did the turn's PreOp that every K bricks have one of them; of a turn of this run, K did.
abbrev pub Promised : ℕ → ℕ → State → ℕ → Type 0
Promised n k s a = (n < count_below n (s.pre a) + k) × (s.old a ≡ false → k ≤ count_below n (s.pre a))

-- where an unmarked record has its version from: the beginning, a PostOp done there, or a commit
abbrev pub Known : ℕ → ℕ → State → ℕ → ℕ → Type 0
Known n k s b v = (v ≤ s.origin) ⊎ (((e : ℕ) × (s.post e b ≡ true) × (target (s.ballot e) ≡ v)) ⊎ ((e : ℕ) × IsCommitted n k s e × (target (s.ballot e) ≡ v)))

-- where any record has it from
abbrev pub KnownMarked : ℕ → ℕ → State → ℕ → ℕ → Type 0
KnownMarked n k s b v = Known n k s b v ⊎ ((e : ℕ) × (s.spost e b ≡ true) × (target (s.ballot e) ≡ v))

-- a base is the version of the beginning or that of a commit
abbrev pub BaseKnown : ℕ → ℕ → State → ℕ → Type 0
BaseKnown n k s a = ((s.ballot a).base ≡ s.origin) ⊎ ((e : ℕ) × IsCommitted n k s e × (target (s.ballot e) ≡ (s.ballot a).base))

-- Turn e had begun at the moment of t, and no brick of the group of t has its PostOp: none of them will do it, so e never
-- commits.
pub record Void (s : State) (e t : ℕ) : Type 0 where
  pub number : 0 < (s.ballot t).number
  pub real : s.old t ≡ false
  pub free : s.carries t ≡ None
  pub begun : s.begun t e ≡ true
  pub apart : (c : ℕ) → group s t c ≡ true → s.post e c ≡ false

-- The same of its PreOp: e never has K of them.
pub record Dying (s : State) (e t : ℕ) : Type 0 where
  pub number : 0 < (s.ballot t).number
  pub real : s.old t ≡ false
  pub free : s.carries t ≡ None
  pub begun : s.begun t e ≡ true
  pub apart : (c : ℕ) → group s t c ≡ true → s.pre e c ≡ false

pub record Wide (n k : ℕ) (s : State) : Type 0 where
  -- a PostOp needs K PreOps
  pub whole : (a b : ℕ) → s.post a b ≡ true → Promised n k s a
  pub sink_whole : (a b : ℕ) → s.spost a b ≡ true → Promised n k s a
  -- a ballot has its group, or stands on the commit whose grants the turn carries over
  pub based : (a : ℕ) → s.old a ≡ false → s.carries a ≡ None → 0 < (s.ballot a).number → k ≤ count_below n (group s a)
  pub carried : (x a : ℕ) → s.carries x ≡ Some a → IsCommitted n k s a × (0 < (s.ballot x).number → (s.ballot x).base ≡ target (s.ballot a))
  pub chosen : (a : ℕ) → 0 < (s.ballot a).number → BaseKnown n k s a
  -- snapshots: who had a ballot at the moment of x stood on the beginning or on what was committed by then
  pub had_number : (x a : ℕ) → s.had x a ≡ true → (0 < (s.ballot a).number) × (s.moment x ≡ true) × (s.old x ≡ false)
  pub had_chosen : (x a : ℕ) → s.had x a ≡ true → ((s.ballot a).base ≡ s.origin) ⊎ ((e : ℕ) × (k ≤ count_below n (s.at_post x e)) × (target (s.ballot e) ≡ (s.ballot a).base))
  pub begun_moment : BegunMoment s
  pub number_moment : NumberMoment s
  pub number_making : NumberMaking s
  -- the beginning
  pub origin_le : OriginLe s
  pub old_target : (a : ℕ) → s.old a ≡ true → target (s.ballot a) ≡ a
  pub old_short : (a : ℕ) → s.old a ≡ true → count_below n (s.post a) < k
  pub old_promised : (a : ℕ) → s.old a ≡ true → n < count_below n (s.pre a) + k
  pub few_below : (v : ℕ) → v < s.origin → count_below n (λ b. is_plain v (s.began b)) < k
  -- who commits no more, and who never has K PreOps
  pub void : (e : ℕ) → s.voided e ≡ true → Void s e (s.voider e)
  pub dying : (e : ℕ) → s.dead e ≡ true → Dying s e (s.killer e)
  -- where versions come from
  pub known : (b : ℕ) → s.present b ≡ true → s.marked b ≡ false → Known n k s b (s.version b)
  pub known_marked : (b : ℕ) → s.present b ≡ true → KnownMarked n k s b (s.version b)
  pub seen_known : (x b : ℕ) (h : Head) → s.seen x b ≡ Some h → h.present ≡ true → h.marked ≡ false → Known n k s b h.version

-- what holds after each act
pub record Inv (n k : ℕ) (s : State) : Type 0 where
  pub local : (b : ℕ) → Local s b
  pub wide : Wide n k s
