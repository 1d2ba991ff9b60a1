-- What a heal makes of a sink, as it takes the mark away: the record that the good group would have given it at the moment
-- of the heal's last window.
use Rattle.std.specs.Prelude.{◌≡◌, ℕ, ◌≤◌, true, false, Some}
use Rattle.ec_history.specs.Flat.Opener.{Nobody}
use Rattle.ec_law_base.specs.State.{State, Head}
use Rattle.ec_law_ballots.specs.Words.{group, head}
use Rattle.ec_law_ballots.specs.Act.{group_dirty}
use Rattle.ec_law_ballots.specs.Guard.{Holds}
use Rattle.ec_law_pieces.specs.File.{Form, File}
use Rattle.ec_law_pieces.specs.Deed.{IsCopy}
use Rattle.ec_law_pieces.specs.Deed.Deed.{Finish}
use Rattle.ec_law_pieces.specs.Laws.{IsOneValue}
use Rattle.ec_law_moments.specs.Reads.{World, Go, May, step, AfterEveryRun}

-- the value that the good group coded at the moment of turn a, at brick b too
abbrev pub HasGroupsValue : {P V C U S : Type 0} → Form P V C U S → World P V C U S → File P V C U S → ℕ → ℕ → P → Type 0
HasGroupsValue {P} {V} form w f a b p = (value : V) × IsOneValue form (w.then a).flat (head (w.then a).heads) (w.then a).piece p value × (f.piece b p ≡ form.code value b)

-- the greatest dirty number that the group of turn a told
abbrev pub IsGreatestDirty : State → ℕ → ℕ → Type 0
IsGreatestDirty s a d = ((c : ℕ) × (h : Head) × (s.seen a c ≡ Some h) × (group s a c ≡ true) × (h.dirty ≡ d)) × ((c : ℕ) (h : Head) → s.seen a c ≡ Some h → group s a c ≡ true → h.dirty ≤ d)

-- The record f at brick b, as turn a has taken its mark away. Where a data request was executed since the moment of a,
-- nothing is said of a place that was closed then.
pub record IsReference {P V C U S : Type 0} (form : Form P V C U S) (n k : ℕ) (w : World P V C U S) (f : File P V C U S) (a b : ℕ) : Type 0 where
  -- unmarked, at the flat version of the moment, with the greatest dirty number that the group told
  pub head : head f.heads b ≡ record { present = true; version = (w.then a).flat.version; dirty = group_dirty (f.heads.ballot a); marked = false }
  pub dirty : IsGreatestDirty f.heads a (group_dirty (f.heads.ballot a))
  -- with the flat shape of the moment, if a record had been made by then
  pub shape : (w.then a).heads.making ≡ true → f.shape b ≡ (w.then a).flat.shape
  pub closed : (p : P) → (w.then a).flat.opener p ≡ Nobody → w.stirred a b p ≡ false → HasGroupsValue form w f a b p
  -- past the shape stands nothing but by open places
  pub past : (p : P) → (w.then a).flat.opener p ≡ Nobody → w.stirred a b p ≡ false → form.past (w.then a).flat.shape p ≡ true → f.piece b p ≡ form.code form.zero b
  -- Each place, an open one too, has what the heal's window that copied it last had been given, but where a data request was
  -- executed since the moment of that window.
  pub copier : (p : P) → f.heads.call (w.copied b p).turn ≡ f.heads.call a
  pub copied : (p : P) → w.stirred (w.copied b p).turn b p ≡ false → IsCopy form n k (w.copied b p).file (w.copied b p).turn b p (f.piece b p)

-- turn a takes the mark of brick b away
abbrev pub LeavesReference : {P V C U S : Type 0} → Form P V C U S → ℕ → ℕ → World P V C U S → Type 0
LeavesReference form n k w = (a b : ℕ) → May form n k w (Go (Finish a b)) → IsReference form n k w (step form n k w (Go (Finish a b))).file a b

-- A heal that is told that the Unmark was done, before it gives up the Inode grant of its last window, meets no exception.
abbrev pub LeavesWhole : {P V C U S : Type 0} → Form P V C U S → ℕ → ℕ → World P V C U S → Type 0
LeavesWhole {P} form n k w = (a b : ℕ) → May form n k w (Go (Finish a b)) → Holds w.file.heads a b → (p : P) → w.stirred a b p ≡ false

pub record SinkLaws {P V C U S : Type 0} (form : Form P V C U S) : Type 0 where
  pub reference : AfterEveryRun form (LeavesReference form)
  pub whole : AfterEveryRun form (LeavesWhole form)
