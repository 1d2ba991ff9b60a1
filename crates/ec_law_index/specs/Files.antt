-- The index over files and directories, whose flat version is known.
use Rattle.std.specs.Prelude.{◌≡◌, ℕ, ◌+◌, ◌<◌, ◌≤◌, Bool, true, false, List, [], ◌∷◌}
use Rattle.ec_attr.specs.Bricks.{count_below}
use Rattle.ec_law_base.specs.State.{Head}
use Rattle.ec_law_ballots.specs.Begin.{is_plain}
use Rattle.ec_law_pieces.specs.File.{Form, Flat, File}
use Rattle.ec_law_pieces.specs.Deed.{Deed, Runs, after, step}
use Rattle.ec_law_pieces.specs.Deed.Deed.{Do}
use Rattle.ec_law_pieces.specs.Laws.{Stands, start, first_heads}
use Rattle.ec_law_index.specs.Index.{Keeps}

abbrev pub KeepsDeed : {P V C U S : Type 0} → ℕ → File P V C U S → Deed P V C U S → Type 0
KeepsDeed n f (Do e) = Keeps n f.heads e
KeepsDeed n f e = f ≡ f

abbrev pub KeepsDeeds : {P V C U S : Type 0} → Form P V C U S → ℕ → ℕ → List (Deed P V C U S) → File P V C U S → Type 0
KeepsDeeds form n k [] f = f ≡ f
KeepsDeeds form n k (e ∷ es) f = KeepsDeed n f e × KeepsDeeds form n k es (step form n k f e)

-- Where K of the N bricks are a group, with unmarked records that agree, and some brick has no record or one that is not
-- unmarked at the flat version, a brick of the group has a dirty number other than 0.
abbrev pub FlatInIndex : ℕ → ℕ → ℕ → (ℕ → Head) → Type 0
FlatInIndex n k flat heads = (v : ℕ) → k ≤ count_below n (λ b. is_plain v (heads b)) → (b : ℕ) → b < n → is_plain flat (heads b) ≡ false → (c : ℕ) × (c < n) × (is_plain v (heads c) ≡ true) × (0 < (heads c).dirty)

-- The heads after the run are those from which a further run may begin.
pub record FileIndexLaws {P V C U S : Type 0} (form : Form P V C U S) : Type 0 where
  pub in_index : (n k : ℕ) → n < k + k → k ≤ n → (flat : Flat P U S) (heads : ℕ → Head) (fresh : Bool) (call : ℕ → ℕ) (shape : ℕ → S) (piece : ℕ → P → C) (st : Stands form n k flat heads fresh shape piece) → FlatInIndex n k flat.version heads
      → (deeds : List (Deed P V C U S)) → Runs form n k deeds (start form n flat heads fresh call shape piece st.value) → KeepsDeeds form n k deeds (start form n flat heads fresh call shape piece st.value)
      → FlatInIndex n k (after form n k deeds (start form n flat heads fresh call shape piece st.value)).flat.version (first_heads n (after form n k deeds (start form n flat heads fresh call shape piece st.value)).heads)
