-- Readers and heals beside the machine of pieces: what they are given and copy under their grants, and the file as it was
-- at each turn's moment.
use Rattle.std.specs.Prelude.{◌≡◌, ℕ, ◌+◌, ◌<◌, ◌≤◌, Bool, true, false, cond, ◌==◌, Option, Some, None, List, [], ◌∷◌}
use Rattle.ec_attr.specs.Bricks.{count_below}
use Rattle.ec_history.specs.Flat.Opener.{Nobody}
use Rattle.ec_law_base.specs.State.{Head}
use Rattle.ec_law_ballots.specs.Words.{saw}
use Rattle.ec_law_ballots.specs.Act.Act.{Moment}
use Rattle.ec_law_pieces.specs.File.{Form, Flat, File}
use Rattle.ec_law_pieces.specs.Deed.{Deed, MayDo, step as deed_step, mark_places}
use Rattle.ec_law_pieces.specs.Deed.Deed.{Do}
use Rattle.ec_law_pieces.specs.Laws.{Stands, start}
use Rattle.ec_law_moments.specs.Then.{is_told, MayRead}
use Rattle.ec_law_moments.specs.Windows.{Source, Fenced, stirs, copies}

-- `then` is, by turn, the file as it was at its moment; `given` what a reader was given, by turn, brick and place. Of a
-- heal's sinks: `stirred` is, by turn, brick and place, whether a data request was executed since the turn's moment, and
-- `copied` the last copy, by brick and place.
pub record World (P V C U S : Type 0) : Type 0 where
  pub file : File P V C U S
  pub then : ℕ → File P V C U S
  pub given : ℕ → ℕ → P → Option C
  pub stirred : ℕ → ℕ → P → Bool
  pub copied : ℕ → P → Source P V C U S

pub data Happening (P V C U S : Type 0) : Type 0 where
  Go : (deed : Deed P V C U S) → Happening P V C U S
  Fetch : (turn brick : ℕ) (places : P → Bool) → Happening P V C U S

abbrev pub noted : {P V C U S : Type 0} → World P V C U S → Deed P V C U S → ℕ → File P V C U S
noted w (Do (Moment x)) y = cond (y == x) w.file (w.then y)
noted w e y = w.then y

module _ {P V C U S : Type 0} (form : Form P V C U S) (n k : ℕ) where
  abbrev pub step : World P V C U S → Happening P V C U S → World P V C U S
  step w (Go e) = record w { file = deed_step form n k w.file e; then = noted w e; stirred = stirs e w.stirred; copied = copies e w.file w.copied }
  step w (Fetch x b places) = record w { given = mark_places w.given x b places (λ p. Some (w.file.piece b p)) }

  -- a turn fetches under a grant that it had at its moment, after its Query; under an exclusive one before it has a ballot
  abbrev pub May : World P V C U S → Happening P V C U S → Type 0
  May w (Go e) = MayDo form n k w.file e × Fenced w.file e
  May w (Fetch x b places) = MayRead w.file.heads x b × (w.file.heads.early x b ≡ true) × (w.file.heads.moment x ≡ true) × (saw w.file.heads x b ≡ true) × (w.file.heads.present b ≡ true)

  abbrev pub after : List (Happening P V C U S) → World P V C U S → World P V C U S
  after [] w = w
  after (e ∷ es) w = after es (step w e)

  abbrev pub Runs : List (Happening P V C U S) → World P V C U S → Type 0
  Runs [] w = w ≡ w
  Runs (e ∷ es) w = May w e × Runs es (step w e)

-- nobody was given anything yet
abbrev pub opening : {P V C U S : Type 0} → File P V C U S → World P V C U S
opening f = record { file = f; then = λ x. f; given = λ x b p. None; stirred = λ x b p. false; copied = λ b p. record { turn = 0; file = f } }

abbrev pub AfterEveryRun : {P V C U S : Type 0} → Form P V C U S → (ℕ → ℕ → World P V C U S → Type 0) → Type 0
AfterEveryRun {P} {V} {C} {U} {S} form law = (n k : ℕ) → n < k + k → k ≤ n → (flat : Flat P U S) (heads : ℕ → Head) (fresh : Bool) (call : ℕ → ℕ) (shape : ℕ → S) (piece : ℕ → P → C) (st : Stands form n k flat heads fresh shape piece)
    → (happenings : List (Happening P V C U S)) → Runs form n k happenings (opening (start form n flat heads fresh call shape piece st.value)) → law n k (after form n k happenings (opening (start form n flat heads fresh call shape piece st.value)))

-- What turn x was given of place p by the bricks that told version v are codes of one value, which has each known unit.
pub record IsGivenValue {P V C U S : Type 0} (form : Form P V C U S) (w : World P V C U S) (x v : ℕ) (p : P) (value : V) : Type 0 where
  pub codes : (b : ℕ) (y : C) → is_told v (w.file.heads.seen x b) ≡ true → w.given x b p ≡ Some y → y ≡ form.code value b
  pub units : (i : ℕ) (u : U) → (w.then x).flat.unit p i ≡ Some u → form.unit value i ≡ u

-- A turn to which K bricks told one version, unmarked, was told the flat version of its moment, and what it was given of a
-- place that was closed then has the value that stood there.
abbrev pub ReadsMoment : {P V C U S : Type 0} → Form P V C U S → ℕ → ℕ → World P V C U S → Type 0
ReadsMoment {P} {V} form n k w = (x v : ℕ) → w.file.heads.old x ≡ false → k ≤ count_below n (λ b. is_told v (w.file.heads.seen x b)) → (v ≡ (w.then x).flat.version) × ((p : P) → (w.then x).flat.opener p ≡ Nobody → (value : V) × IsGivenValue form w x v p value)

pub record ReadLaws {P V C U S : Type 0} (form : Form P V C U S) : Type 0 where
  pub reads_moment : AfterEveryRun form (ReadsMoment form)
