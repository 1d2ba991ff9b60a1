-- Plans for a whole log, extended entry by entry.
use Rattle.std.proofs.Common.{◌≡◌, ℕ, ◌+◌, ◌<◌, ◌≤◌, List, [], ◌∷◌, ◌++◌, None, refl, sym, ◌∙◌, ap, subst, arith}
use Rattle.std.proofs.lemmas.List.{append_assoc}
use Rattle.ec_attr.specs.declared.config.Config.{Config}
use Rattle.ec_attr.specs.declared.geometry.Geometry.{Geometry}
use Rattle.ec_brick.specs.State.{State as Brick}
use Rattle.ec_conduct.specs.Given.{quorum}
use Rattle.ec_history.specs.Accounts.{Books, Leaving, booked, books, no_books}
use Rattle.ec_history.specs.Flat.{Tree}
use Rattle.ec_history.specs.IsRun.{IsRun}
use Rattle.ec_history.specs.Run.{Net, after as net_after, fresh, run}
use Rattle.ec_history.specs.Starts.{IsStart}
use Rattle.ec_history.specs.Story.{Story, opening, told}
use Rattle.ec_store.specs.Records.{Records}
use Rattle.ec_wire.specs.declared.entry.Entry.{Entry}
use Rattle.ec_law_pieces.specs.Deed.{Deed, after as after_deeds, step}
use Rattle.ec_law_pieces.specs.File.{File, Form}
use Rattle.ec_law_net.specs.Turns.{View, acts, all_acts, seen_after, view}
use Rattle.ec_law_net.proofs.Changed.{runs_both}
use Rattle.ec_law_turns.specs.Orderly.{ArePlain, IsOrderly}
use Rattle.ec_law_turns.proofs.Origins.{unversioned}
use Rattle.ec_law_turns.proofs.Runs.{Kept, kept_there, plain_first}
use Rattle.ec_law_data.specs.Deeds.{all_deeds, deeds, file, file_after}
use Rattle.ec_law_data.specs.Laws.{begun}
use Rattle.ec_law_data.specs.Link.{AllCoded, EntryCoded}
use Rattle.ec_law_data.specs.Owing.{AllOwe}
use Rattle.ec_law_data.specs.Reading.{Plans, Reading}
use Rattle.ec_law_data.proofs.Guards.{owe_both}
use Rattle.ec_law_data.proofs.Reaching.{Reaches, gone, reaches_start, reaches_then}
use Rattle.ec_law_plans.specs.Extend.{ActsRun, Agree, Extend, GoesOn, OweNothing, PlanLaws, chosen_after, machine}
use Rattle.ec_law_plans.proofs.Agreeing.{same_coded, same_deeds, same_file}
use Rattle.ec_law_plans.proofs.Planned.{as_log}
use Rattle.ec_law_plans.proofs.Steady.{runs_first}

-- ## The acts of an orderly log

runs_log : (g : ℕ) (geometry : Geometry) (left : ℕ → Leaving) (none : (a : ℕ) → (left a).kept ≡ None) (first : ℕ) (origins : ℕ → ℕ) (new : (h : ℕ) → first ≤ h → origins h ≡ 0) (es : List Entry) (m : Net) (vs : ℕ → View) (t : Story) (b : Books) → IsRun geometry.n es m → ArePlain es → Kept geometry left none (books geometry left es m t b) → Reaches geometry first origins m vs t b → ActsRun geometry.n (quorum geometry) g es m (vs g)
runs_log g geometry left none first origins new [] m vs t b runs plain kept k = refl
runs_log g geometry left none first origins new (e ∷ es) m vs t b runs plain kept k =
    let p = plain_first e es plain in
    let may = kept_there geometry left none e es m t b runs plain (k.reached 0).known.numbers kept in
    runs_both geometry.n (quorum geometry) (acts g m (vs g) e) (all_acts g es (net_after m e) (seen_after g m (vs g) e)) (vs g).core (gone geometry left none first origins new m vs t b e p.0 runs.0 may k g).runs
    (runs_log g geometry left none first origins new es (net_after m e) (λ h. seen_after h m (vs h) e) (told geometry m t e) (booked geometry left m t b e) runs.1 p.1 kept (reaches_then geometry left none first origins new m vs t b e p.0 runs.0 may k))

pub acts_run : (config : Config) (records : ℕ → Records) (bricks : ℕ → Brick) (tree : Tree) (next g : ℕ) (es : List Entry) → IsStart config records bricks tree next → IsRun config.geometry.n es (fresh bricks) → ArePlain es → IsOrderly config.geometry es (fresh bricks) (opening tree next) → ActsRun config.geometry.n (quorum config.geometry) g es (fresh bricks) (begun config records tree next g)
acts_run config records bricks tree next g es start runs plain orderly =
    runs_log g config.geometry orderly.left orderly.none_kept next (λ h. (tree h).version) (λ h le. unversioned config records bricks tree next h start le) es (fresh bricks) (λ h. begun config records tree next h) (opening tree next) no_books runs plain (λ a given h. (orderly.conduct a given h, orderly.order a given h)) (reaches_start config records bricks tree next (λ a. a) most start)
  where
    most : config.geometry.n < quorum config.geometry + quorum config.geometry
    most = let h = config.geometry.majority in omega (arith, h)

-- the acts of a front
pub runs_front : (n k g : ℕ) (es rest : List Entry) (m : Net) (v : View) → ActsRun n k g (es ++ rest) m v → ActsRun n k g es m v
runs_front n k g [] rest m v h = refl
runs_front n k g (e ∷ es) rest m v h =
    let o = runs_first n k (acts g m v e) (all_acts g (es ++ rest) (net_after m e) (seen_after g m v e)) v.core h in
    runs_both n k (acts g m v e) (all_acts g es (net_after m e) (seen_after g m v e)) v.core o.0 (runs_front n k g es rest (net_after m e) (seen_after g m v e) o.1)

-- ## One more entry

append_nil : (xs : List Entry) → xs ++ [] ≡ xs
append_nil [] = refl
append_nil (x ∷ xs) = ap (λ (ys : List Entry). x ∷ ys) (append_nil xs)

module _ {P V C U S : Type 0} where
  pub owe_more : (form : Form P V C U S) (n k : ℕ) (xs ys : List (Deed P V C U S)) (f : File P V C U S) → AllOwe form n k xs f → AllOwe form n k ys (after_deeds form n k xs f) → AllOwe form n k (xs ++ ys) f
  owe_more form n k [] ys f h i = i
  owe_more form n k (x ∷ xs) ys f h i = (h.0, owe_more form n k xs ys (step form n k f x) h.1 i)

  module _ (R : Reading P V C U S) (plans : Plans P V U S) (n k g : ℕ) (e : Entry) where
    owe_last : (es : List Entry) (m : Net) (v : View) (f : File P V C U S) → AllOwe R.form n k (all_deeds R plans n k g es m v f) f → AllOwe R.form n k (deeds R plans n k g (run es m) (view g es m v) (file R plans n k g es m v f) e) (file R plans n k g es m v f) → AllOwe R.form n k (all_deeds R plans n k g (es ++ e ∷ []) m v f) f
    owe_last [] m v f h i = owe_more R.form n k (deeds R plans n k g m v f e) [] f i tt
    owe_last (x ∷ es) m v f h i =
        let o = owe_both R.form n k (deeds R plans n k g m v f x) (all_deeds R plans n k g es (net_after m x) (seen_after g m v x) (file_after R plans n k g m v f x)) f h in
        owe_more R.form n k (deeds R plans n k g m v f x) (all_deeds R plans n k g (es ++ e ∷ []) (net_after m x) (seen_after g m v x) (file_after R plans n k g m v f x)) f o.0
        (owe_last es (net_after m x) (seen_after g m v x) (file_after R plans n k g m v f x) o.1 i)

    coded_last : (es : List Entry) (m : Net) (v : View) (f : File P V C U S) → AllCoded R plans n k g es m v f → EntryCoded R g (run es m) (view g es m v) (file R plans n k g es m v f) e → AllCoded R plans n k g (es ++ e ∷ []) m v f
    coded_last [] m v f h i = (i, tt)
    coded_last (x ∷ es) m v f h i = (h.0, coded_last es (net_after m x) (seen_after g m v x) (file_after R plans n k g m v f x) h.1 i)

  module _ (R : Reading P V C U S) (n k g : ℕ) (m : Net) (v : View) (f : File P V C U S) (heads : f.heads ≡ v.core) where
    pub same_owed : (es : List Entry) (old new : Plans P V U S) → ActsRun n k g es m v → Agree (machine R n k g m v f old es) old new → OweNothing R n k g m v f old es → OweNothing R n k g m v f new es
    same_owed es old new runs agree h = record {
      owe = subst (λ (ds : List (Deed P V C U S)). AllOwe R.form n k ds f) (sym (same_deeds R old new n k g es m v f heads runs agree)) h.owe;
      coded = same_coded R old new n k g es m v f heads runs agree h.coded;
    }

    one_more : (es : List Entry) (e : Entry) (old new : Plans P V U S) → ActsRun n k g es m v → OweNothing R n k g m v f old es → GoesOn R n k g m v f es e old new → OweNothing R n k g m v f new (es ++ e ∷ [])
    one_more es e old new runs h on =
        let same = sym (same_file R old new n k g es m v f heads runs on.agree) in
        let o = same_owed es old new runs on.agree h in
        record {
          owe = owe_last R new n k g e es m v f o.owe (subst (λ (z : File P V C U S). AllOwe R.form n k (deeds R new n k g (run es m) (view g es m v) z e) z) same on.owe);
          coded = coded_last R new n k g e es m v f o.coded (subst (λ (z : File P V C U S). EntryCoded R g (run es m) (view g es m v) z e) same on.coded);
        }

    module _ (Keeps : Plans P V U S → List Entry → Type 0) where
      module _ (log : List Entry) (runs : ActsRun n k g log m v) (extend : Extend R n k g m v f log Keeps) where
        abbrev Planned : List Entry → Type 0
        Planned es = (plans : Plans P V U S) × OweNothing R n k g m v f plans es × Keeps plans es

        go : (es before rest : List Entry) → log ≡ before ++ (es ++ rest) → Planned before → Planned (before ++ es)
        go [] before rest parts h = subst Planned (sym (append_nil before)) h
        go (e ∷ es) before rest parts h =
            let on = extend before e (es ++ rest) parts h.0 h.1 h.2 in
            let here = runs_front n k g before (e ∷ es ++ rest) m v (subst (λ (xs : List Entry). ActsRun n k g xs m v) parts runs) in
            subst Planned (append_assoc before (e ∷ []) es)
            (go es (before ++ e ∷ []) rest (parts ∙ sym (append_assoc before (e ∷ []) (es ++ rest))) (on.0, one_more before e h.0 on.0 here h.1 on.1, on.2))

        pub extended : (first : Plans P V U S) → Keeps first [] → (es rest : List Entry) → log ≡ es ++ rest → Planned es
        extended first keeps es rest parts = go es [] rest parts (first, record { owe = tt; coded = tt }, keeps)

-- ## Plans that are chosen

module _ {P V C U S : Type 0} (R : Reading P V C U S) (n k g : ℕ) (m : Net) (v : View) (f : File P V C U S) (heads : f.heads ≡ v.core) (choose : List Entry → Entry → Plans P V U S → Plans P V U S) where
  chosen_last : (es before : List Entry) (e : Entry) (plans : Plans P V U S) → chosen_after choose before (es ++ e ∷ []) plans ≡ choose (before ++ es) e (chosen_after choose before es plans)
  chosen_last [] before e plans = ap (λ (xs : List Entry). choose xs e plans) (sym (append_nil before))
  chosen_last (x ∷ es) before e plans = chosen_last es (before ++ x ∷ []) e (choose before x plans) ∙ ap (λ (xs : List Entry). choose xs e (chosen_after choose (before ++ x ∷ []) es (choose before x plans))) (append_assoc before (x ∷ []) es)

  module _ (first : Plans P V U S) (log : List Entry) (runs : ActsRun n k g log m v) (on : (es : List Entry) (e : Entry) (rest : List Entry) → log ≡ es ++ e ∷ rest → OweNothing R n k g m v f (chosen_after choose [] es first) es → GoesOn R n k g m v f es e (chosen_after choose [] es first) (choose es e (chosen_after choose [] es first))) where
    abbrev Chosen : Plans P V U S → List Entry → Type 0
    Chosen plans es = plans ≡ chosen_after choose [] es first

    extend : Extend R n k g m v f log Chosen
    extend es e rest parts old owes is = subst (λ (plans : Plans P V U S). (new : Plans P V U S) × GoesOn R n k g m v f es e plans new × Chosen new (es ++ e ∷ [])) (sym is) (choose es e (chosen_after choose [] es first), on es e rest parts (subst (λ (plans : Plans P V U S). OweNothing R n k g m v f plans es) is owes), sym (chosen_last es [] e first))

    chosen : (es rest : List Entry) → log ≡ es ++ rest → OweNothing R n k g m v f (chosen_after choose [] es first) es
    chosen es rest parts = let o = extended R n k g m v f heads Chosen log runs extend first refl es rest parts in subst (λ (plans : Plans P V U S). OweNothing R n k g m v f plans es) o.2 o.1

pub plan_laws : {P V C U S : Type 0} (R : Reading P V C U S) → PlanLaws R
plan_laws R = record {
  same_deeds = λ n k g m v f es old new heads runs agree. same_deeds R old new n k g es m v f heads runs agree;
  same_machine = λ n k g m v f es old new heads runs agree. same_file R old new n k g es m v f heads runs agree;
  same_owed = λ n k g m v f es old new heads runs agree. same_owed R n k g m v f heads es old new runs agree;
  as_planned = λ plans n k g es m v f h. as_log R plans n k g es m v f h;
  chosen = λ n k g m v f log heads runs first choose on es rest parts. chosen R n k g m v f heads choose first log runs on es rest parts;
  acts_run = acts_run;
}
