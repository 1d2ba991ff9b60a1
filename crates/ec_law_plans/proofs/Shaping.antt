-- The law of shapes that the plans of names need, by what is known of shapes and its step for one entry.
use Rattle.std.proofs.Common.{◌≡◌, ℕ, List, [], ◌∷◌, ◌++◌, refl, sym, ◌∙◌, ap, subst}
use Rattle.std.proofs.lemmas.List.{append_assoc}
use Rattle.ec_attr.specs.declared.config.Config.{Config}
use Rattle.ec_attr.specs.declared.geometry.Geometry.{Geometry}
use Rattle.ec_brick.specs.State.{State as Brick}
use Rattle.ec_conduct.specs.Given.{quorum}
use Rattle.ec_history.specs.Accounts.{Books, Leaving, booked, books, no_books}
use Rattle.ec_history.specs.Flat.{Tree}
use Rattle.ec_history.specs.IsRun.{IsRun}
use Rattle.ec_history.specs.Run.{Net, after as net_after, fresh, run}
use Rattle.ec_history.specs.Starts.{IsStart}
use Rattle.ec_history.specs.Story.{Story, opening, told}
use Rattle.ec_history.proofs.Runs.{front as front_runs}
use Rattle.ec_store.specs.Records.{Records}
use Rattle.ec_wire.specs.declared.entry.Entry.{Entry}
use Rattle.ec_law_net.specs.Turns.{View, seen_after, view}
use Rattle.ec_law_turns.specs.Orderly.{ArePlain, IsOrderly}
use Rattle.ec_law_calls.proofs.Fronts.{plain_front}
use Rattle.ec_law_data.specs.Deeds.{deeds, file, file_after}
use Rattle.ec_law_data.specs.Forms.{of_directory}
use Rattle.ec_law_data.specs.Laws.{begun, directory_begun}
use Rattle.ec_law_plans.specs.Given.{AllFit, AllOweShape, EntryFits, ShapeLaw}
use Rattle.ec_law_plans.specs.Naming.{NameFile, NamePlans}
use Rattle.ec_law_plans.proofs.Fronts.{orderly_at}

fits_front : (plans : NamePlans) (geometry : Geometry) (left : ℕ → Leaving) (n k g : ℕ) (es : List Entry) (e : Entry) (rest : List Entry) (m : Net) (v : View) (t : Story) (b : Books) (f : NameFile) → AllFit of_directory plans g n k geometry left (es ++ e ∷ rest) m v t b f → EntryFits of_directory plans g (run es m) (view g es m v) (books geometry left es m t b) (file of_directory plans n k g es m v f) e
fits_front plans geometry left n k g [] e rest m v t b f h = h.0
fits_front plans geometry left n k g (x ∷ es) e rest m v t b f h = fits_front plans geometry left n k g es e rest (net_after m x) (seen_after g m v x) (told geometry m t x) (booked geometry left m t b x) (file_after of_directory plans n k g m v f x) h.1

append_nil : (xs : List Entry) → xs ++ [] ≡ xs
append_nil [] = refl
append_nil (x ∷ xs) = ap (λ (ys : List Entry). x ∷ ys) (append_nil xs)

-- what is known of the shapes of a directory after entries of a log, by its plans and what its calls leave
abbrev pub Known : Type 1
Known = NamePlans → Config → (ℕ → Records) → (ℕ → Brick) → Tree → ℕ → ℕ → (ℕ → Leaving) → List Entry → Type 0

module _ (Has : Known) where
  abbrev pub FitsAt : NamePlans → Config → (ℕ → Records) → (ℕ → Brick) → Tree → ℕ → ℕ → (ℕ → Leaving) → List Entry → Entry → Type 0
  FitsAt plans config records bricks tree next g left es e = EntryFits of_directory plans g (run es (fresh bricks)) (view g es (fresh bricks) (begun config records tree next g)) (books config.geometry left es (fresh bricks) (opening tree next) no_books) (file of_directory plans config.geometry.n (quorum config.geometry) g es (fresh bricks) (begun config records tree next g) (directory_begun config records tree g)) e

  abbrev pub OwesNone : NamePlans → Config → (ℕ → Records) → (ℕ → Brick) → Tree → ℕ → ℕ → List Entry → Entry → Type 0
  OwesNone plans config records bricks tree next g es e = AllOweShape of_directory.form config.geometry.n (quorum config.geometry) (deeds of_directory plans config.geometry.n (quorum config.geometry) g (run es (fresh bricks)) (view g es (fresh bricks) (begun config records tree next g)) (file of_directory plans config.geometry.n (quorum config.geometry) g es (fresh bricks) (begun config records tree next g) (directory_begun config records tree g)) e)
      (file of_directory plans config.geometry.n (quorum config.geometry) g es (fresh bricks) (begun config records tree next g) (directory_begun config records tree g))

  abbrev pub Begins : Type 0
  Begins = (plans : NamePlans) (config : Config) (records : ℕ → Records) (bricks : ℕ → Brick) (tree : Tree) (next g : ℕ) (left : ℕ → Leaving) → IsStart config records bricks tree next → Has plans config records bricks tree next g left []

  abbrev pub Steps : Type 0
  Steps = (plans : NamePlans) (config : Config) (records : ℕ → Records) (bricks : ℕ → Brick) (tree : Tree) (next g : ℕ) (es : List Entry) (e : Entry)
      → IsStart config records bricks tree next
      → IsRun config.geometry.n (es ++ e ∷ []) (fresh bricks)
      → ArePlain (es ++ e ∷ [])
      → (orderly : IsOrderly config.geometry (es ++ e ∷ []) (fresh bricks) (opening tree next))
      → Has plans config records bricks tree next g orderly.left es
      → FitsAt plans config records bricks tree next g orderly.left es e
      → OwesNone plans config records bricks tree next g es e × Has plans config records bricks tree next g orderly.left (es ++ e ∷ [])

  module _ (steps : Steps) (plans : NamePlans) (config : Config) (records : ℕ → Records) (bricks : ℕ → Brick) (tree : Tree) (next g : ℕ) (all : List Entry) (start : IsStart config records bricks tree next) (runs : IsRun config.geometry.n all (fresh bricks)) (plain : ArePlain all) (orderly : IsOrderly config.geometry all (fresh bricks) (opening tree next)) where
    one_step : (es : List Entry) (e : Entry) (rest : List Entry) → all ≡ es ++ e ∷ rest → Has plans config records bricks tree next g orderly.left es → FitsAt plans config records bricks tree next g orderly.left es e → OwesNone plans config records bricks tree next g es e × Has plans config records bricks tree next g orderly.left (es ++ e ∷ [])
    one_step es e rest parts has fits =
        let parts' = parts ∙ sym (append_assoc es (e ∷ []) rest) in
        steps plans config records bricks tree next g es e start
        (front_runs config.geometry.n (es ++ e ∷ []) rest (fresh bricks) (subst (λ (xs : List Entry). IsRun config.geometry.n xs (fresh bricks)) parts' runs))
        (plain_front (es ++ e ∷ []) rest (subst ArePlain parts' plain))
        (orderly_at config records bricks tree next start orderly.left orderly.none_kept all runs plain (es ++ e ∷ []) rest parts' orderly.conduct orderly.order)
        has fits

    has_then : (more before : List Entry) (es : List Entry) (rest : List Entry) → all ≡ es ++ rest → es ≡ before ++ more → AllFit of_directory plans g config.geometry.n (quorum config.geometry) config.geometry orderly.left es (fresh bricks) (begun config records tree next g) (opening tree next) no_books (directory_begun config records tree g) → Has plans config records bricks tree next g orderly.left before → Has plans config records bricks tree next g orderly.left es
    has_then [] before es rest parts is fit has = subst (λ (xs : List Entry). Has plans config records bricks tree next g orderly.left xs) (sym (append_nil before) ∙ sym is) has
    has_then (x ∷ more) before es rest parts is fit has =
        let whole = parts ∙ (ap (λ (xs : List Entry). xs ++ rest) is ∙ append_assoc before (x ∷ more) rest) in
        let fits = fits_front plans config.geometry orderly.left config.geometry.n (quorum config.geometry) g before x more (fresh bricks) (begun config records tree next g) (opening tree next) no_books (directory_begun config records tree g) (subst (λ (xs : List Entry). AllFit of_directory plans g config.geometry.n (quorum config.geometry) config.geometry orderly.left xs (fresh bricks) (begun config records tree next g) (opening tree next) no_books (directory_begun config records tree g)) is fit) in
        has_then more (before ++ x ∷ []) es rest parts (is ∙ sym (append_assoc before (x ∷ []) more)) fit (one_step before x (more ++ rest) whole has fits).1

  -- so the law of shapes follows
  pub shapes_by : Begins → Steps → ShapeLaw
  shapes_by begins steps plans config records bricks tree next g all es e rest parts start runs plain orderly owes fit fits =
      (one_step steps plans config records bricks tree next g all start runs plain orderly es e rest parts
      (has_then steps plans config records bricks tree next g all start runs plain orderly es [] es (e ∷ rest) parts refl fit (begins plans config records bricks tree next g orderly.left start)) fits).0
