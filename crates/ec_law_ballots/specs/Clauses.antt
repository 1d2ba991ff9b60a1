-- What holds at one brick b after each act, clause by clause: of heads and grants, of one turn, of two turns.
use Rattle.std.specs.Prelude.{◌≡◌, ◌≢◌, ◌⊎◌, ℕ, ◌<◌, ◌≤◌, true, false, Some, None}
use Rattle.ec_law_base.specs.State.{State, Head, target}
use Rattle.ec_law_ballots.specs.Words.{group, saw, tied, did, is_young}

-- THE ORDER OF ONE TURN'S REQUESTS

abbrev pub Saw : State → ℕ → Type 0
Saw s b = (a : ℕ) → saw s a b ≡ true → (s.granted a b ≡ true) × (s.early a b ≡ true) × (s.moment a ≡ true)

abbrev pub HolderGranted : State → ℕ → Type 0
HolderGranted s b = (a : ℕ) → s.holder b ≡ Some a → s.granted a b ≡ true

abbrev pub EarlyGranted : State → ℕ → Type 0
EarlyGranted s b = (a : ℕ) → s.early a b ≡ true → s.granted a b ≡ true

abbrev pub PreSeen : State → ℕ → Type 0
PreSeen s b = (a : ℕ) → s.pre a b ≡ true → ((s.old a ≡ true) ⊎ (saw s a b ≡ true)) × (0 < (s.ballot a).number) × (s.moment a ≡ true)

abbrev pub PostPre : State → ℕ → Type 0
PostPre s b = (a : ℕ) → s.post a b ≡ true → s.pre a b ≡ true

abbrev pub SpostSeen : State → ℕ → Type 0
SpostSeen s b = (a : ℕ) → s.spost a b ≡ true → ((s.old a ≡ true) ⊎ (saw s a b ≡ true)) × (0 < (s.ballot a).number)

abbrev pub MarkSeen : State → ℕ → Type 0
MarkSeen s b = (a : ℕ) → s.mark a b ≡ true → (saw s a b ≡ true) × (0 < (s.ballot a).number)

abbrev pub FixedSeen : State → ℕ → Type 0
FixedSeen s b = (a : ℕ) → s.fixed a b ≡ true → (saw s a b ≡ true) × (tied s a b ≡ true) × (0 < (s.ballot a).number)

abbrev pub GroupMark : State → ℕ → Type 0
GroupMark s b = (a : ℕ) → group s a b ≡ true → s.mark a b ≡ false

abbrev pub OldNone : State → ℕ → Type 0
OldNone s b = (a : ℕ) → s.old a ≡ true → (s.granted a b ≡ false) × (s.early a b ≡ false)

-- WHILE A TURN HOLDS THE GRANT, THE HEAD IS WHAT IT SAW, WHAT ITS PREOP SET, WHAT ITS POSTOP SET

abbrev pub StillSeen : State → ℕ → Type 0
StillSeen s b = (a : ℕ) (h : Head) → s.holder b ≡ Some a → s.seen a b ≡ Some h → h.present ≡ true → h.marked ≡ false → s.pre a b ≡ false → s.mark a b ≡ false → s.present b ≡ true → (s.version b ≡ h.version) × (s.marked b ≡ false) × (s.dirty b ≤ h.dirty)

abbrev pub StillFixed : State → ℕ → Type 0
StillFixed s b = (a : ℕ) → s.holder b ≡ Some a → s.fixed a b ≡ true → s.pre a b ≡ false → s.present b ≡ true → (s.marked b ≡ false) × (s.dirty b < (s.ballot a).number)

abbrev pub StillPre : State → ℕ → Type 0
StillPre s b = (a : ℕ) → s.holder b ≡ Some a → s.pre a b ≡ true → s.post a b ≡ false → s.present b ≡ true → (s.version b ≡ (s.ballot a).base) × (s.marked b ≡ false) × (s.dirty b ≤ (s.ballot a).number)

-- whoever has a PreOp at a brick that did the holder's PostOp stands on a base below the holder's version
abbrev pub StillDid : State → ℕ → Type 0
StillDid s b = (a c : ℕ) → s.holder b ≡ Some a → did s a b ≡ true → s.pre c b ≡ true → (s.ballot c).base < target (s.ballot a)

-- and likewise where the grant was kept
abbrev pub CarriedBelow : State → ℕ → Type 0
CarriedBelow s b = (x a e : ℕ) → s.holder b ≡ Some x → s.carries x ≡ Some a → s.pre e b ≡ true → e ≢ x → (s.ballot e).base < target (s.ballot a)

-- WHILE x HOLDS THE GRANT AFTER ITS MOMENT, WHAT OTHERS HAVE DONE HERE THEY HAD DONE AT THAT MOMENT

abbrev pub HeldPre : State → ℕ → Type 0
HeldPre s b = (x e : ℕ) → s.holder b ≡ Some x → s.early x b ≡ true → s.moment x ≡ true → s.pre e b ≡ true → e ≢ x → s.at_pre x e b ≡ true

abbrev pub HeldPost : State → ℕ → Type 0
HeldPost s b = (x e : ℕ) → s.holder b ≡ Some x → s.early x b ≡ true → s.moment x ≡ true → s.post e b ≡ true → e ≢ x → s.at_post x e b ≡ true

abbrev pub HeldMark : State → ℕ → Type 0
HeldMark s b = (x e : ℕ) → s.holder b ≡ Some x → s.early x b ≡ true → s.moment x ≡ true → s.mark e b ≡ true → e ≢ x → s.had x e ≡ true

abbrev pub HeldSaw : State → ℕ → Type 0
HeldSaw s b = (x e : ℕ) → s.holder b ≡ Some x → s.early x b ≡ true → s.moment x ≡ true → saw s e b ≡ true → e ≢ x → s.begun x e ≡ true

-- THE SAME OF A TURN THAT READS UNDER A SHARED GRANT

abbrev pub SharedNone : State → ℕ → Type 0
SharedNone s b = (x : ℕ) → s.shares x b ≡ true → (s.holder b ≡ None) × (s.reads x ≡ true)

abbrev pub SharedPre : State → ℕ → Type 0
SharedPre s b = (x e : ℕ) → s.shares x b ≡ true → s.early x b ≡ true → s.moment x ≡ true → s.pre e b ≡ true → e ≢ x → s.at_pre x e b ≡ true

abbrev pub SharedPost : State → ℕ → Type 0
SharedPost s b = (x e : ℕ) → s.shares x b ≡ true → s.early x b ≡ true → s.moment x ≡ true → s.post e b ≡ true → e ≢ x → s.at_post x e b ≡ true

abbrev pub SharedMark : State → ℕ → Type 0
SharedMark s b = (x e : ℕ) → s.shares x b ≡ true → s.early x b ≡ true → s.moment x ≡ true → s.mark e b ≡ true → e ≢ x → s.had x e ≡ true

abbrev pub SharedSaw : State → ℕ → Type 0
SharedSaw s b = (x e : ℕ) → s.shares x b ≡ true → s.early x b ≡ true → s.moment x ≡ true → saw s e b ≡ true → s.reads e ≡ false → e ≢ x → s.begun x e ≡ true

-- the head stays what it was told
abbrev pub SharedStill : State → ℕ → Type 0
SharedStill s b = (x : ℕ) (h : Head) → s.shares x b ≡ true → s.seen x b ≡ Some h → h.present ≡ true → h.marked ≡ false → s.present b ≡ true → (s.version b ≡ h.version) × (s.marked b ≡ false)

-- THE SAME AS LONG AS A HEAL HAS ITS HEAL GRANT AND THE MARK THAT ITS WINDOW x MADE OR SAW IS THERE

abbrev pub StripMarked : State → ℕ → Type 0
StripMarked s b = (x : ℕ) → s.healer b ≡ Some (s.call x) → tied s x b ≡ true → s.stripped_by (s.call x) b ≡ false → s.present b ≡ true → s.marked b ≡ true

abbrev pub StripPre : State → ℕ → Type 0
StripPre s b = (x e : ℕ) → s.healer b ≡ Some (s.call x) → tied s x b ≡ true → s.stripped_by (s.call x) b ≡ false → s.pre e b ≡ true → e ≢ x → s.at_pre x e b ≡ true

abbrev pub StripPost : State → ℕ → Type 0
StripPost s b = (x e : ℕ) → s.healer b ≡ Some (s.call x) → tied s x b ≡ true → s.stripped_by (s.call x) b ≡ false → s.post e b ≡ true → e ≢ x → s.at_post x e b ≡ true

abbrev pub StripMark : State → ℕ → Type 0
StripMark s b = (x e : ℕ) → s.healer b ≡ Some (s.call x) → tied s x b ≡ true → s.stripped_by (s.call x) b ≡ false → s.mark e b ≡ true → e ≢ x → s.had x e ≡ true

-- THE PROMISE: A BRICK THAT DID A PREOP STAYS AT ITS BASE OR ABOVE, AND AT ITS BASE KEEPS A DIRTY NUMBER AS HIGH

abbrev pub Kept : State → ℕ → Type 0
Kept s b = (a : ℕ) → s.pre a b ≡ true → s.present b ≡ true → ((s.ballot a).base ≤ s.version b) ⊎ (s.old a ≡ true)

abbrev pub KeptDirty : State → ℕ → Type 0
KeptDirty s b = (a : ℕ) → s.pre a b ≡ true → s.dead a ≡ false → s.present b ≡ true → (s.ballot a).base ≡ s.version b → (s.ballot a).number ≤ s.dirty b

-- a version never falls below that of a PostOp done here, but for turns that commit no more
abbrev pub Past : State → ℕ → Type 0
Past s b = (a : ℕ) → s.post a b ≡ true → s.voided a ≡ false → s.present b ≡ true → target (s.ballot a) ≤ s.version b

-- on one base two PreOps have two numbers, and who has its PostOp here has the greatest
abbrev pub Apart : State → ℕ → Type 0
Apart s b = (a c : ℕ) → a ≢ c → s.pre a b ≡ true → s.pre c b ≡ true → s.dead a ≡ false → s.dead c ≡ false → (s.ballot a).base ≡ (s.ballot c).base → (s.ballot a).number ≢ (s.ballot c).number

abbrev pub Passed : State → ℕ → Type 0
Passed s b = (a c : ℕ) → a ≢ c → s.post a b ≡ true → s.pre c b ≡ true → s.voided a ≡ false → s.old a ≡ false → s.dead c ≡ false → (s.ballot a).base ≡ (s.ballot c).base → (s.ballot c).number < (s.ballot a).number

-- whose PostOp isn't older than the moment of a, where a did its PreOp here, stands on a base as high
abbrev pub PostOrder : State → ℕ → Type 0
PostOrder s b = (a e : ℕ) → s.pre a b ≡ true → s.post e b ≡ true → e ≢ a → s.old a ≡ false → (s.at_post a e b ≡ true) ⊎ ((s.ballot a).base ≤ (s.ballot e).base)

-- A QUERY OF x SHOWS THE PROMISES AND COMMITS THAT STOOD HERE AT THE MOMENT OF x, AND WHOEVER HAD BEGUN BY THEN DOES NO MORE HERE

abbrev pub LowDirty : State → ℕ → Type 0
LowDirty s b = (x e : ℕ) (h : Head) → s.at_pre x e b ≡ true → s.seen x b ≡ Some h → h.present ≡ true → s.dead e ≡ false → (s.ballot e).base ≡ h.version → (s.ballot e).number ≤ h.dirty

abbrev pub LowVersion : State → ℕ → Type 0
LowVersion s b = (x e : ℕ) (h : Head) → s.at_post x e b ≡ true → s.seen x b ≡ Some h → h.present ≡ true → s.voided e ≡ false → target (s.ballot e) ≤ h.version

abbrev pub NoMorePre : State → ℕ → Type 0
NoMorePre s b = (x e : ℕ) → s.begun x e ≡ true → saw s x b ≡ true → e ≢ x → s.pre e b ≡ true → s.at_pre x e b ≡ true

abbrev pub NoMorePost : State → ℕ → Type 0
NoMorePost s b = (x e : ℕ) → s.begun x e ≡ true → saw s x b ≡ true → e ≢ x → s.post e b ≡ true → s.at_post x e b ≡ true

abbrev pub TooLate : State → ℕ → Type 0
TooLate s b = (x e : ℕ) → s.begun x e ≡ true → saw s x b ≡ true → e ≢ x → s.holder b ≡ Some e → s.early e b ≡ false

abbrev pub AtPreIs : State → ℕ → Type 0
AtPreIs s b = (x e : ℕ) → s.at_pre x e b ≡ true → (s.pre e b ≡ true) × (s.moment x ≡ true) × (s.begun x e ≡ true) × (s.had x e ≡ true)

abbrev pub AtPostIs : State → ℕ → Type 0
AtPostIs s b = (x e : ℕ) → s.at_post x e b ≡ true → (s.post e b ≡ true) × (s.moment x ≡ true) × (s.begun x e ≡ true)

-- what was done at the moment of t was done at that of x, where t had begun by then
abbrev pub BegunPost : State → ℕ → Type 0
BegunPost s b = (x t e : ℕ) → s.begun x t ≡ true → s.at_post t e b ≡ true → s.at_post x e b ≡ true

-- BELOW THE FLAT VERSION OF THE BEGINNING A RECORD IS AS IT BEGAN

abbrev pub BeganIs : State → ℕ → Type 0
BeganIs s b = s.present b ≡ true → s.version b < s.origin → ((s.began b).present ≡ true) × ((s.began b).version ≡ s.version b) × ((s.began b).marked ≡ s.marked b)

abbrev pub SeenBegan : State → ℕ → Type 0
SeenBegan s b = (x : ℕ) (h : Head) → s.seen x b ≡ Some h → h.present ≡ true → h.version < s.origin → ((s.began b).present ≡ true) × ((s.began b).version ≡ h.version) × ((s.began b).marked ≡ h.marked)

-- MAKE AND MADE

-- where no record was ever made
abbrev pub NotMade : State → ℕ → Type 0
NotMade s b = s.making ≡ false → (s.present b ≡ false) × (s.born b ≡ false)

abbrev pub NotMadePre : State → ℕ → Type 0
NotMadePre s b = (a : ℕ) → s.making ≡ false → (s.pre a b ≡ false) × (tied s a b ≡ false)

abbrev pub NotMadeSeen : State → ℕ → Type 0
NotMadeSeen s b = (a : ℕ) (h : Head) → s.making ≡ false → s.seen a b ≡ Some h → h.present ≡ false

-- where a Make may still be executed no turn has come by
abbrev pub UnbornPre : State → ℕ → Type 0
UnbornPre s b = (a : ℕ) → s.maker b ≡ true → s.removed b ≡ false → s.born b ≡ false → s.present b ≡ false → (s.pre a b ≡ false) × (tied s a b ≡ false)

abbrev pub UnbornSeen : State → ℕ → Type 0
UnbornSeen s b = (a : ℕ) (h : Head) → s.maker b ≡ true → s.removed b ≡ false → s.born b ≡ false → s.present b ≡ false → s.seen a b ≡ Some h → h.present ≡ false

-- where a Made may still be executed the record is there, and at version 0 unmarked it has a dirty number
abbrev pub YoungPresent : State → ℕ → Type 0
YoungPresent s b = is_young s b ≡ true → s.present b ≡ true

abbrev pub YoungDirty : State → ℕ → Type 0
YoungDirty s b = is_young s b ≡ true → s.version b ≡ 0 → s.marked b ≡ false → 0 < s.dirty b

-- so whoever saw it there, or did a PreOp there, took a number above 1
abbrev pub YoungSeen : State → ℕ → Type 0
YoungSeen s b = (a : ℕ) (h : Head) → is_young s b ≡ true → s.seen a b ≡ Some h → h.present ≡ true → h.version ≡ 0 → h.marked ≡ false → 0 < h.dirty

abbrev pub YoungPre : State → ℕ → Type 0
YoungPre s b = (a : ℕ) → is_young s b ≡ true → s.pre a b ≡ true → (s.ballot a).base ≡ 0 → 1 < (s.ballot a).number

-- it left version 0 by a PostOp on that version, or was marked on a higher one
abbrev pub YoungRisen : State → ℕ → Type 0
YoungRisen s b = is_young s b ≡ true → ((s.version b ≡ 0) × (s.marked b ≡ false)) ⊎ (((s.post (s.risen_by b) b ≡ true) × ((s.ballot (s.risen_by b)).base ≡ 0)) ⊎ ((s.mark (s.risen_by b) b ≡ true) × (0 < (s.ballot (s.risen_by b)).base)))

pub record Local (s : State) (b : ℕ) : Type 0 where
  pub saw : Saw s b
  pub holder_granted : HolderGranted s b
  pub early_granted : EarlyGranted s b
  pub pre_seen : PreSeen s b
  pub post_pre : PostPre s b
  pub spost_seen : SpostSeen s b
  pub mark_seen : MarkSeen s b
  pub fixed_seen : FixedSeen s b
  pub group_mark : GroupMark s b
  pub old_none : OldNone s b
  pub still_seen : StillSeen s b
  pub still_fixed : StillFixed s b
  pub still_pre : StillPre s b
  pub still_did : StillDid s b
  pub carried_below : CarriedBelow s b
  pub held_pre : HeldPre s b
  pub held_post : HeldPost s b
  pub held_mark : HeldMark s b
  pub held_saw : HeldSaw s b
  pub shared_none : SharedNone s b
  pub shared_pre : SharedPre s b
  pub shared_post : SharedPost s b
  pub shared_mark : SharedMark s b
  pub shared_saw : SharedSaw s b
  pub shared_still : SharedStill s b
  pub strip_marked : StripMarked s b
  pub strip_pre : StripPre s b
  pub strip_post : StripPost s b
  pub strip_mark : StripMark s b
  pub kept : Kept s b
  pub kept_dirty : KeptDirty s b
  pub past : Past s b
  pub apart : Apart s b
  pub passed : Passed s b
  pub post_order : PostOrder s b
  pub low_dirty : LowDirty s b
  pub low_version : LowVersion s b
  pub no_more_pre : NoMorePre s b
  pub no_more_post : NoMorePost s b
  pub too_late : TooLate s b
  pub at_pre_is : AtPreIs s b
  pub at_post_is : AtPostIs s b
  pub begun_post : BegunPost s b
  pub began_is : BeganIs s b
  pub seen_began : SeenBegan s b
  pub not_made : NotMade s b
  pub not_made_pre : NotMadePre s b
  pub not_made_seen : NotMadeSeen s b
  pub unborn_pre : UnbornPre s b
  pub unborn_seen : UnbornSeen s b
  pub young_present : YoungPresent s b
  pub young_dirty : YoungDirty s b
  pub young_seen : YoungSeen s b
  pub young_pre : YoungPre s b
  pub young_risen : YoungRisen s b
