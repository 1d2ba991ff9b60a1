-- The table of a call: its stages as data, what it sends in a step, and when own entries are by the table.
use Rattle.std.specs.Prelude.{◌≡◌, ℕ, zero, suc, ◌+◌, Bool, false, cond, ◌==◌, ◌&&◌, Option, Some, None, List, [], ◌∷◌, ◌++◌, map}
use Rattle.std.specs.List.{flat_map}
use Rattle.ec_wire.specs.declared.answer.Answer.{Answer}
use Rattle.ec_wire.specs.declared.request.Request.{Request}
use Rattle.ec_wire.specs.declared.request.Request.TheVariants.{Release}
use Rattle.ec_conduct.specs.Account.{Account, Lock, after, at, sent}
use Rattle.ec_conduct.specs.Conduct.{MayAnswer, MaySend}
use Rattle.ec_conduct.specs.Given.{Given, bricks_of}
use Rattle.ec_conduct.specs.Leaves.{is_kept}
use Rattle.ec_conduct.specs.Opened.{account}
use Rattle.ec_conduct.specs.Own.{Own, Sends, Hears, GivesUp, Answers}
use Rattle.ec_conduct.specs.declared.kept.Kept.{Kept}

-- a brick and the request that goes to it
abbrev pub Send : Type 0
Send = ℕ × Request

-- requests to the bricks below n, rising
abbrev pub to_bricks : ℕ → (ℕ → List Request) → List Send
to_bricks zero f = []
to_bricks (suc n) f = to_bricks n f ++ map (λ r. (n, r)) (f n)

abbrev pub release : ℕ → Option Lock → List Request
release g None = []
release g (Some lock) = Release (record { 0 = g }) lock.number ∷ []

abbrev pub keeps : Option Kept → ℕ → ℕ → Bool
keeps None g x = false
keeps (Some kept) g x = (kept.gfid.0 == g) && is_kept kept x

abbrev pub releases_at : Account → Option Kept → ℕ → ℕ → List Request
releases_at c kept x g = cond (keeps kept g x) [] (release g (at c g x).inode) ++ release g (at c g x).heal

-- At its end a call releases every ask that it hasn't released and doesn't keep: bricks rising, at each gfids rising, of
-- each the content's lock before the heal's.
abbrev pub last_sends : Account → Option Kept → List Send
last_sends c kept = to_bricks (bricks_of c.given) (λ x. flat_map (releases_at c kept x) c.gfids)

-- One step of a call: the stage after it, None where the call ends, what it sends in order, its answer, and what it keeps.
pub record Step (P : Type 0) : Type 0 where
  pub stage : Option P
  pub sends : List Send
  pub answer : Option Answer
  pub kept : Option Kept

-- the account after these sends, under the numbers from i on
abbrev pub sent_all : Account → ℕ → List Send → Account
sent_all c i [] = c
sent_all c i (s ∷ ss) = sent_all (sent c s.0 i s.1) (i + 1) ss

abbrev pub with_answer : Account → Option Answer → Account
with_answer c None = c
with_answer c (Some answer) = record c { answer = Some answer }

-- the own entries of a step whose sends have the numbers from i on
abbrev pub entries_of : ℕ → List Send → Option Answer → List Own
entries_of i [] None = []
entries_of i [] (Some answer) = Answers answer ∷ []
entries_of i (s ∷ ss) answer = Sends s.0 i s.1 ∷ entries_of (i + 1) ss answer

abbrev pub step_entries : {P : Type 0} → ℕ → Step P → List Own
step_entries i step = entries_of i step.sends step.answer

-- A reply that a call heard or a giving up, and the step that followed, whose sends have the numbers from `number` on.
pub record Turned (P : Type 0) : Type 0 where
  pub what : Own
  pub number : ℕ
  pub step : Step P

-- it comes from outside: the call heard it, or was told to wait no more
abbrev pub IsFromOutside : Own → Type 0
IsFromOutside (Sends b i r) = ⊥
IsFromOutside (Hears b i reply) = Unit {0}
IsFromOutside (GivesUp b i) = Unit {0}
IsFromOutside (Answers answer) = ⊥

-- How a call begins by its table: with a step.
abbrev pub BeganByTable : {P : Type 0} → (Given → Step P → Type 0) → Given → List Own → Option P → Type 0
BeganByTable {P} begins given es stage = (i : ℕ) × (step : Step P) × begins given step × (es ≡ step_entries i step) × (stage ≡ step.stage)

-- Own entries of a call are by its table. `begins` tells its first step, and `goes` the step of a call in a stage whose
-- account has become this by a reply or a giving up, and by nothing else: a call sends in steps alone. The turns are the
-- last first; `stage` is that in the end.
abbrev pub IsByTurns : {P : Type 0} → (Given → Step P → Type 0) → (P → Account → Step P → Type 0) → Given → List (Turned P) → List Own → Option P → Type 0
IsByTurns begins goes given [] es stage = BeganByTable begins given es stage
IsByTurns {P} begins goes given (t ∷ ts) es stage =
    (earlier : List Own) × (before : P) × IsByTurns begins goes given ts earlier (Some before)
    × IsFromOutside t.what × goes before (after (account given earlier) t.what) t.step
    × (es ≡ earlier ++ t.what ∷ step_entries t.number t.step) × (stage ≡ t.step.stage)

abbrev pub IsByTable : {P : Type 0} → (Given → Step P → Type 0) → (P → Account → Step P → Type 0) → Given → List Own → Option P → Type 0
IsByTable {P} begins goes given es stage = (turns : List (Turned P)) × IsByTurns begins goes given turns es stage

-- each may be sent where it is sent
abbrev pub AllMay : Account → ℕ → List Send → Type 0
AllMay c i [] = Unit {0}
AllMay c i (s ∷ ss) = MaySend c s.0 s.1 × AllMay (sent c s.0 i s.1) (i + 1) ss

abbrev pub MayEnd : Account → Option Answer → Type 0
MayEnd c None = Unit {0}
MayEnd c (Some answer) = MayAnswer c answer
