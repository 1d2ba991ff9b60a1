-- What holds at the beginning of a log, and goes on with each entry, holds at its end.
use Rattle.std.proofs.Common.{◌≡◌, ℕ, ◌+◌, ◌<◌, ◌≤◌, None, List, [], ◌∷◌, arith}
use Rattle.ec_attr.specs.declared.config.Config.{Config}
use Rattle.ec_attr.specs.declared.geometry.Geometry.{Geometry}
use Rattle.ec_brick.specs.State.{State as Brick}
use Rattle.ec_conduct.specs.Given.{quorum}
use Rattle.ec_store.specs.Records.{Records}
use Rattle.ec_history.specs.Accounts.{Books, Leaving, booked, books, no_books}
use Rattle.ec_history.specs.Flat.{Tree}
use Rattle.ec_history.specs.IsRun.{IsRun, May as MayEnter}
use Rattle.ec_history.specs.Run.{Net, after, fresh, run}
use Rattle.ec_history.specs.Starts.{IsStart}
use Rattle.ec_history.specs.Story.{Story, opening, story, told}
use Rattle.ec_wire.specs.declared.entry.Entry.{Entry}
use Rattle.ec_law_net.specs.Turns.{View, seen_after, view}
use Rattle.ec_law_turns.specs.Laws.{Always}
use Rattle.ec_law_turns.specs.Orderly.{ArePlain, IsOrderly}
use Rattle.ec_law_turns.proofs.Origins.{unversioned}
use Rattle.ec_law_turns.proofs.Runs.{Kept, kept_there, plain_first}
use Rattle.ec_law_data.specs.Laws.{begun}
use Rattle.ec_law_data.proofs.Reaching.{Reaches, reaches_start, reaches_then}

pub anything : (g : ℕ) (es : List Entry) (m : Net) (v : View) → Always (λ m v. Unit {0}) g es m v
anything g [] m v = tt
anything g (e ∷ es) m v = (tt, anything g es (after m e) (seen_after g m v e))

module _ (geometry : Geometry) (left : ℕ → Leaving) (none : (a : ℕ) → (left a).kept ≡ None) (first : ℕ) (origins : ℕ → ℕ) (new : (h : ℕ) → first ≤ h → origins h ≡ 0) (g : ℕ) (premise : Net → View → Type 0) (law : Net → (ℕ → View) → Story → Type 0) where
  -- the law goes on with an entry
  abbrev pub GoesOn : Type 0
  GoesOn = (m : Net) (vs : ℕ → View) (t : Story) (b : Books) (e : Entry) → MayEnter geometry.n m e → Reaches geometry first origins m vs t b → premise m (vs g) → law m vs t → law (after m e) (λ h. seen_after h m (vs h) e) (told geometry m t e)

  first_moment : (es : List Entry) (m : Net) (v : View) → Always premise g es m v → premise m v
  first_moment [] m v h = h
  first_moment (e ∷ es) m v h = h.0

  rest : (e : Entry) (es : List Entry) (m : Net) (v : View) → Always premise g (e ∷ es) m v → Always premise g es (after m e) (seen_after g m v e)
  rest e es m v h = h.1

  pub walks : GoesOn → (es : List Entry) (m : Net) (vs : ℕ → View) (t : Story) (b : Books) → IsRun geometry.n es m → ArePlain es → Kept geometry left none (books geometry left es m t b) → Reaches geometry first origins m vs t b → Always premise g es m (vs g) → law m vs t → law (run es m) (λ h. view h es m (vs h)) (story geometry es m t)
  walks goes [] m vs t b runs plain kept k always h = h
  walks goes (e ∷ es) m vs t b runs plain kept k always h =
      let p = plain_first e es plain in
      let may = kept_there geometry left none e es m t b runs plain (k.reached 0).known.numbers kept in
      walks goes es (after m e) (λ h. seen_after h m (vs h) e) (told geometry m t e) (booked geometry left m t b e) runs.1 p.1 kept (reaches_then geometry left none first origins new m vs t b e p.0 runs.0 may k) (rest e es m (vs g) always) (goes m vs t b e runs.0 k (first_moment (e ∷ es) m (vs g) always) h)

-- and so of every log that begins with bricks that stand
pub by_log : (premise : Net → View → Type 0) (law : Net → (ℕ → View) → Story → Type 0) (config : Config) (records : ℕ → Records) (bricks : ℕ → Brick) (tree : Tree) (next g : ℕ) (es : List Entry) → IsStart config records bricks tree next → IsRun config.geometry.n es (fresh bricks) → ArePlain es → IsOrderly config.geometry es (fresh bricks) (opening tree next)
    → ((m : Net) (vs : ℕ → View) (t : Story) (b : Books) (e : Entry) → MayEnter config.geometry.n m e → Reaches config.geometry next (λ h. (tree h).version) m vs t b → premise m (vs g) → law m vs t → law (after m e) (λ h. seen_after h m (vs h) e) (told config.geometry m t e))
    → Always premise g es (fresh bricks) (begun config records tree next g)
    → law (fresh bricks) (λ h. begun config records tree next h) (opening tree next)
    → law (run es (fresh bricks)) (λ h. view h es (fresh bricks) (begun config records tree next h)) (story config.geometry es (fresh bricks) (opening tree next))
by_log premise law config records bricks tree next g es start runs plain orderly goes always h =
    walks config.geometry orderly.left orderly.none_kept next (λ h. (tree h).version) (λ h le. unversioned config records bricks tree next h start le) g premise law goes es (fresh bricks) (λ h. begun config records tree next h) (opening tree next) no_books runs plain (λ a given h. (orderly.conduct a given h, orderly.order a given h)) (reaches_start config records bricks tree next (λ a. a) most start) always h
  where
    most : config.geometry.n < quorum config.geometry + quorum config.geometry
    most = let h = config.geometry.majority in omega (arith, h)
