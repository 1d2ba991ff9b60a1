-- What each act needs: what the brick looks at as it executes a request, and what the turn knew as it sent it. The second
-- kind stays true once it is true.
use Rattle.std.specs.Prelude.{◌≡◌, ◌≢◌, ◌⊎◌, ℕ, ◌<◌, ◌≤◌, true, false, Some, None, List, [], ◌∷◌}
use Rattle.ec_attr.specs.Bricks.{count_below}
use Rattle.ec_law_base.specs.State.{State, target}
use Rattle.ec_law_ballots.specs.Words.{at_base, group, saw, tied, did}
use Rattle.ec_law_ballots.specs.Act.{Act, step}
use Rattle.ec_law_ballots.specs.Act.Act.{Grant, Free, Share, Unshare, Moment, See, Keep, Carry, Choose, Choose_kept, Pre, Sink_pre, Post, Sink_post, Clear, Heal_grant, Heal_free, Mark, Unmark, Maker_grant, Maker_free, Make, Made, Unmake, Stop, Replace}

-- a turn of this run that has a ballot
pub record HasBallot (s : State) (a : ℕ) : Type 0 where
  pub real : s.old a ≡ false
  pub number : 0 < (s.ballot a).number

-- the brick's fence: the turn's Inode grant stands there
abbrev pub Holds : State → ℕ → ℕ → Type 0
Holds s a b = s.holder b ≡ Some a

-- the record is there, at this version, unmarked
abbrev pub IsPlainAt : State → ℕ → ℕ → Type 0
IsPlainAt s b v = (s.present b ≡ true) × (s.version b ≡ v) × (s.marked b ≡ false)

abbrev pub IsMarkedAt : State → ℕ → ℕ → Type 0
IsMarkedAt s b v = (s.present b ≡ true) × (s.version b ≡ v) × (s.marked b ≡ true)

-- at least K bricks did the turn's PreOp
abbrev pub HasQuorum : ℕ → ℕ → State → ℕ → Type 0
HasQuorum n k s a = k ≤ count_below n (s.pre a)

-- at least K unmarked bricks did its PostOp
abbrev pub IsCommitted : ℕ → ℕ → State → ℕ → Type 0
IsCommitted n k s a = k ≤ count_below n (s.post a)

abbrev pub May : ℕ → ℕ → State → Act → Type 0
May n k s (Grant a b) = (s.holder b ≡ None) × (s.granted a b ≡ false) × (s.old a ≡ false) × (s.carries a ≡ None) × (s.reads a ≡ false) × ((x : ℕ) → s.shares x b ≡ false)
May n k s (Free b) = s ≡ s
-- a turn that asks for shared grants has no others, and no ballot
May n k s (Share a b) = (s.holder b ≡ None) × (s.granted a b ≡ false) × (s.old a ≡ false) × (s.carries a ≡ None) × ((s.ballot a).number ≡ 0) × ((c : ℕ) → s.holder c ≢ Some a)
May n k s (Unshare a b) = s ≡ s
May n k s (Moment a) = (s.moment a ≡ false) × (s.old a ≡ false)
May n k s (See a b) = (Holds s a b ⊎ (s.shares a b ≡ true)) × (s.early a b ≡ true) × (s.moment a ≡ true) × (saw s a b ≡ false) × ((s.ballot a).number ≡ 0) × (s.old a ≡ false)
-- the grants were kept after a commit
May n k s (Keep x a) = (s.carries x ≡ None) × (s.moment x ≡ false) × (s.old x ≡ false) × ((b : ℕ) → s.granted x b ≡ false) × IsCommitted n k s a
-- of a brick that did the PostOp, and has answered all that was asked under the grant
May n k s (Carry a x b) = Holds s a b × (did s a b ≡ true) × (s.carries x ≡ Some a) × (s.granted x b ≡ false) × (s.moment x ≡ false) × (s.old x ≡ false)
May n k s (Choose a p) = ((s.ballot a).number ≡ 0) × (0 < p.number) × (k ≤ count_below n (λ b. at_base p (s.seen a b))) × (s.moment a ≡ true) × (s.old a ≡ false) × (s.carries a ≡ None)
May n k s (Choose_kept x a p) = ((s.ballot x).number ≡ 0) × (0 < p.number) × (s.carries x ≡ Some a) × (p.base ≡ target (s.ballot a)) × (s.moment x ≡ true) × (s.old x ≡ false)
-- a brick of the group, or one whose mark the turn has taken away
May n k s (Pre a b) = Holds s a b × IsPlainAt s b (s.ballot a).base × HasBallot s a × ((group s a b ≡ true) ⊎ (s.fixed a b ≡ true)) × (s.pre a b ≡ false)
May n k s (Sink_pre a b) = Holds s a b × IsMarkedAt s b (s.ballot a).base × HasBallot s a × (saw s a b ≡ true) × (s.pre a b ≡ false)
May n k s (Post a b) = Holds s a b × IsPlainAt s b (s.ballot a).base × HasBallot s a × (s.pre a b ≡ true) × (s.post a b ≡ false) × HasQuorum n k s a
May n k s (Sink_post a b) = Holds s a b × IsMarkedAt s b (s.ballot a).base × HasBallot s a × (saw s a b ≡ true) × (s.pre a b ≡ false) × HasQuorum n k s a
-- all N did the PostOp
May n k s (Clear a b) = Holds s a b × IsPlainAt s b (target (s.ballot a)) × (s.post a b ≡ true) × (s.old a ≡ false) × ((c : ℕ) → c < n → s.post a c ≡ true)
-- a heal takes its Heal grant before its windows take their Inode grants
May n k s (Heal_grant h b) = (s.healer b ≡ None) × ((a : ℕ) → s.call a ≡ h → s.granted a b ≡ false)
May n k s (Heal_free b) = s ≡ s
-- under both grants, once for each heal and brick, of a brick that the turn saw outside its group
May n k s (Mark a b) = Holds s a b × (s.healer b ≡ Some (s.call a)) × HasBallot s a × (s.carries a ≡ None) × (saw s a b ≡ true) × (group s a b ≡ false) × (s.pre a b ≡ false) × (s.mark a b ≡ false) × (s.fixed a b ≡ false)
    × ((x : ℕ) → s.call x ≡ s.call a → x ≢ a → saw s x b ≡ false)
    × ((s.present b ≡ false) ⊎ ((s.marked b ≡ true) ⊎ (s.version b ≢ (s.ballot a).base)))
-- under the Heal grant, of a record that the turn marked or saw marked, once for each heal and brick
May n k s (Unmark a b) = (s.healer b ≡ Some (s.call a)) × IsMarkedAt s b (s.ballot a).base × HasBallot s a × (s.carries a ≡ None) × (tied s a b ≡ true) × (s.stripped_by (s.call a) b ≡ false) × (s.pre a b ≡ false) × (s.reads a ≡ false)
-- before any record of the gfid was made
May n k s (Maker_grant b) = s.making ≡ false
May n k s (Maker_free b) = s ≡ s
May n k s (Make b) = (s.maker b ≡ true) × (s.removed b ≡ false) × (s.present b ≡ false) × (s.born b ≡ false) × (s.origin ≡ 0)
May n k s (Made b) = (s.maker b ≡ true) × (s.removed b ≡ false) × (s.born b ≡ true) × (s.grown b ≡ false) × IsPlainAt s b 0 × (s.dirty b ≡ 1)
-- under the grant of a directory, and of nobody here
May n k s (Unmake b) = s ≡ s
May n k s (Stop b) = s ≡ s
-- a stopped brick has no grants
May n k s (Replace b) = (s.holder b ≡ None) × ((x : ℕ) → s.shares x b ≡ false) × (s.healer b ≡ None) × (s.maker b ≡ false) × (s.removed b ≡ false)

abbrev pub Runs : ℕ → ℕ → List Act → State → Type 0
Runs n k [] s = s ≡ s
Runs n k (e ∷ es) s = May n k s e × Runs n k es (step s e)
