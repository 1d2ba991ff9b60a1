-- The stages of one call as stages of any call.
use Rattle.std.specs.Prelude.{◌≡◌, ℕ, Option, Some, None, List, [], ◌∷◌, ◌++◌, map}
use Rattle.std.specs.Option.{option_map}
use Rattle.std.proofs.Common.{refl, sym, ◌∙◌, ap, subst}
use Rattle.ec_conduct.specs.Account.{Account, after}
use Rattle.ec_conduct.specs.Given.{Given}
use Rattle.ec_conduct.specs.Opened.{account}
use Rattle.ec_conduct.specs.Own.{Own}
use Rattle.ec_conduct.specs.Table.{IsByTable, IsByTurns, Step, Turned, step_entries}
use Rattle.ec_wire.specs.declared.op.Op.{Op}
use Rattle.ec_wire.specs.declared.op.Op.TheVariants.{Create, GetAttr, Lookup, Mkdir, Read, Readdir, SetAttr, Stat, Truncate, Unlink, Write}

-- the same step, its stage being one of any call
abbrev pub step_as : {P Q : Type 0} → (P → Q) → Step P → Step Q
step_as f step = record { stage = option_map f step.stage; sends = step.sends; answer = step.answer; kept = step.kept }

abbrev pub Begins : {P Q : Type 0} → (P → Q) → (Given → Step P → Type 0) → Given → Step Q → Type 0
Begins {P} f begins given step = (own : Step P) × begins given own × (step ≡ step_as f own)

abbrev pub Goes : {P Q : Type 0} → (P → Q) → (P → Account → Step P → Type 0) → P → Account → Step Q → Type 0
Goes {P} f goes p c step = (own : Step P) × goes p c own × (step ≡ step_as f own)

abbrev pub turn_as : {P Q : Type 0} → (P → Q) → Turned P → Turned Q
turn_as f t = record { what = t.what; number = t.number; step = step_as f t.step }

-- Own entries that are by the table of a call are by the table of any call.
pub turns_as : {P Q : Type 0} (f : P → Q) (begins : Given → Step P → Type 0) (goes : P → Account → Step P → Type 0) (begins' : Given → Step Q → Type 0) (goes' : Q → Account → Step Q → Type 0)
    → ((given : Given) (step : Step P) → begins given step → begins' given (step_as f step)) → ((p : P) (c : Account) (step : Step P) → goes p c step → goes' (f p) c (step_as f step))
    → (given : Given) (ts : List (Turned P)) (es : List Own) (stage : Option P) → IsByTurns begins goes given ts es stage → IsByTurns begins' goes' given (map (turn_as f) ts) es (option_map f stage)
turns_as f begins goes begins' goes' b g given [] es stage (i, step, begun, entries, is) = (i, step_as f step, b given step begun, entries, ap (option_map f) is)
turns_as f begins goes begins' goes' b g given (t ∷ ts) es stage (earlier, before, by, outside, went, entries, is) =
    (earlier, f before, turns_as f begins goes begins' goes' b g given ts earlier (Some before) by, outside, g before (after (account given earlier) t.what) t.step went, entries, ap (option_map f) is)

pub table_as : {P Q : Type 0} (f : P → Q) (begins : Given → Step P → Type 0) (goes : P → Account → Step P → Type 0) (begins' : Given → Step Q → Type 0) (goes' : Q → Account → Step Q → Type 0)
    → ((given : Given) (step : Step P) → begins given step → begins' given (step_as f step)) → ((p : P) (c : Account) (step : Step P) → goes p c step → goes' (f p) c (step_as f step))
    → (given : Given) (es : List Own) (stage : Option P) → IsByTable begins goes given es stage → IsByTable begins' goes' given es (option_map f stage)
table_as f begins goes begins' goes' b g given es stage (ts, by) = (map (turn_as f) ts, turns_as f begins goes begins' goes' b g given ts es stage by)

-- calls of this kind are built
abbrev pub IsBuilt : Op → Type 0
IsBuilt (Stat g) = Unit {0}
IsBuilt (Lookup g name) = Unit {0}
IsBuilt (GetAttr g) = Unit {0}
IsBuilt (SetAttr g attr) = Unit {0}
IsBuilt (Read g off len via) = Unit {0}
IsBuilt (Write g off bytes) = Unit {0}
IsBuilt (Create g name) = Unit {0}
IsBuilt (Mkdir g name) = Unit {0}
IsBuilt (Readdir g) = Unit {0}
IsBuilt (Unlink g name) = Unit {0}
IsBuilt (Truncate g size) = Unit {0}
IsBuilt op = ⊥
