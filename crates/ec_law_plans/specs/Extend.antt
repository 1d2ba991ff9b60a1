-- Plans of a log that are chosen entry by entry. A machine reads of its plans the shape of a turn's group as the turn takes its
-- ballot, and its plan as it plans. So plans may still be chosen where they weren't read yet, and where for each next entry they
-- can be chosen so that its deeds owe nothing, there are plans for which the whole log owes nothing.
use Rattle.std.specs.Prelude.{◌≡◌, ℕ, ◌<◌, true, List, [], ◌∷◌, ◌++◌}
use Rattle.ec_attr.specs.declared.config.Config.{Config}
use Rattle.ec_brick.specs.State.{State as Brick}
use Rattle.ec_conduct.specs.Given.{quorum}
use Rattle.ec_history.specs.Flat.{Tree}
use Rattle.ec_history.specs.IsRun.{IsRun}
use Rattle.ec_history.specs.Run.{Net, fresh, run}
use Rattle.ec_history.specs.Starts.{IsStart}
use Rattle.ec_history.specs.Story.{opening}
use Rattle.ec_store.specs.Records.{Records}
use Rattle.ec_wire.specs.declared.entry.Entry.{Entry}
use Rattle.ec_law_ballots.specs.Guard.{Runs}
use Rattle.ec_law_pieces.specs.File.{File}
use Rattle.ec_law_net.specs.Turns.{View, all_acts, view}
use Rattle.ec_law_turns.specs.Orderly.{ArePlain, IsOrderly}
use Rattle.ec_law_data.specs.Deeds.{all_deeds, deeds, file}
use Rattle.ec_law_data.specs.Laws.{begun}
use Rattle.ec_law_data.specs.Link.{AllCoded, EntryCoded}
use Rattle.ec_law_data.specs.Owing.{AllOwe}
use Rattle.ec_law_data.specs.Reading.{Plans, Reading}

-- New plans are the old ones as far as the machine has read those: of each turn with a ballot the shape of its group, and of each
-- turn that has planned its plan.
pub record Agree {P V C U S : Type 0} (f : File P V C U S) (old new : Plans P V U S) : Type 0 where
  pub took : (a : ℕ) → 0 < (f.heads.ballot a).number → new.took a ≡ old.took a
  pub plan : (a : ℕ) → f.planned a ≡ true → new.plan a ≡ old.plan a

-- The machine has of each turn that has planned what these plans have for it.
abbrev pub AsPlanned : {P V C U S : Type 0} → Plans P V U S → File P V C U S → Type 0
AsPlanned {P} plans f = (a : ℕ) → f.planned a ≡ true → ((p : P) → f.covers a p ≡ (plans.plan a).covers p) × ((p : P) (i : ℕ) → f.sets a p i ≡ (plans.plan a).sets p i) × ((p : P) → f.value a p ≡ (plans.plan a).value p)

-- of gfid g, for n bricks of which k suffice, from this beginning on
module _ {P V C U S : Type 0} (R : Reading P V C U S) (n k g : ℕ) (m : Net) (v : View) (f : File P V C U S) where
  -- the machine after these entries
  abbrev pub machine : Plans P V U S → List Entry → File P V C U S
  machine plans es = file R plans n k g es m v f

  -- the deeds of these entries owe nothing, and each data request that was done put what its turn planned
  pub record OweNothing (plans : Plans P V U S) (es : List Entry) : Type 0 where
    pub owe : AllOwe R.form n k (all_deeds R plans n k g es m v f) f
    pub coded : AllCoded R plans n k g es m v f

  -- So it is of entry e after these, by new plans that agree with the old ones.
  pub record GoesOn (es : List Entry) (e : Entry) (old new : Plans P V U S) : Type 0 where
    pub agree : Agree (machine old es) old new
    pub owe : AllOwe R.form n k (deeds R new n k g (run es m) (view g es m v) (machine old es) e) (machine old es)
    pub coded : EntryCoded R g (run es m) (view g es m v) (machine old es) e

  -- There are such new plans at each entry of the log, which keep after it what plans have to keep.
  abbrev pub Extend : List Entry → (Plans P V U S → List Entry → Type 0) → Type 0
  Extend log Keeps = (es : List Entry) (e : Entry) (rest : List Entry) → log ≡ es ++ e ∷ rest → (old : Plans P V U S) → OweNothing old es → Keeps old es → (new : Plans P V U S) × GoesOn es e old new × Keeps new (es ++ e ∷ [])

-- The acts of the log may come one after another: so a turn takes one ballot, with a number above 0.
abbrev pub ActsRun : ℕ → ℕ → ℕ → List Entry → Net → View → Type 0
ActsRun n k g es m v = Runs n k (all_acts g es m v) v.core

-- The plans after these entries, where at each entry, after those `before` it, new ones are chosen.
abbrev pub chosen_after : {P V U S : Type 0} → (List Entry → Entry → Plans P V U S → Plans P V U S) → List Entry → List Entry → Plans P V U S → Plans P V U S
chosen_after choose before [] plans = plans
chosen_after choose before (e ∷ es) plans = chosen_after choose (before ++ e ∷ []) es (choose before e plans)

pub record PlanLaws {P V C U S : Type 0} (R : Reading P V C U S) : Type 0 where
  -- plans that agree with others at the end of a log make the same of it
  pub same_deeds : (n k g : ℕ) (m : Net) (v : View) (f : File P V C U S) (es : List Entry) (old new : Plans P V U S) → f.heads ≡ v.core → ActsRun n k g es m v → Agree (machine R n k g m v f old es) old new → all_deeds R new n k g es m v f ≡ all_deeds R old n k g es m v f
  pub same_machine : (n k g : ℕ) (m : Net) (v : View) (f : File P V C U S) (es : List Entry) (old new : Plans P V U S) → f.heads ≡ v.core → ActsRun n k g es m v → Agree (machine R n k g m v f old es) old new → machine R n k g m v f new es ≡ machine R n k g m v f old es
  pub same_owed : (n k g : ℕ) (m : Net) (v : View) (f : File P V C U S) (es : List Entry) (old new : Plans P V U S) → f.heads ≡ v.core → ActsRun n k g es m v → Agree (machine R n k g m v f old es) old new → OweNothing R n k g m v f old es → OweNothing R n k g m v f new es
  -- what turns have planned is what the plans have for them
  pub as_planned : (plans : Plans P V U S) (n k g : ℕ) (es : List Entry) (m : Net) (v : View) (f : File P V C U S) → AsPlanned plans f → AsPlanned plans (file R plans n k g es m v f)
  -- Where plans are chosen so that they go on at each entry of a log, those chosen by any front of it owe nothing there. What else
  -- such plans keep is shown of the choice.
  pub chosen : (n k g : ℕ) (m : Net) (v : View) (f : File P V C U S) (log : List Entry) → f.heads ≡ v.core → ActsRun n k g log m v
      → (first : Plans P V U S) (choose : List Entry → Entry → Plans P V U S → Plans P V U S)
      → ((es : List Entry) (e : Entry) (rest : List Entry) → log ≡ es ++ e ∷ rest → OweNothing R n k g m v f (chosen_after choose [] es first) es → GoesOn R n k g m v f es e (chosen_after choose [] es first) (choose es e (chosen_after choose [] es first)))
      → (es rest : List Entry) → log ≡ es ++ rest → OweNothing R n k g m v f (chosen_after choose [] es first) es
  -- the acts of each log run in which the calls are plain and keep the conduct in order, from bricks that stand for a tree
  pub acts_run : (config : Config) (records : ℕ → Records) (bricks : ℕ → Brick) (tree : Tree) (next g : ℕ) (es : List Entry)
      → IsStart config records bricks tree next
      → IsRun config.geometry.n es (fresh bricks)
      → ArePlain es
      → IsOrderly config.geometry es (fresh bricks) (opening tree next)
      → ActsRun config.geometry.n (quorum config.geometry) g es (fresh bricks) (begun config records tree next g)
