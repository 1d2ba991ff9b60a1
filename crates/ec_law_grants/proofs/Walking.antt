-- What holds at a moment of a log and goes on with each entry holds at each later one.
use Rattle.std.proofs.Common.{◌≡◌, ℕ, ◌+◌, ◌<◌, ◌≤◌, None, List, [], ◌∷◌, ◌++◌, arith}
use Rattle.ec_attr.specs.declared.config.Config.{Config}
use Rattle.ec_attr.specs.declared.geometry.Geometry.{Geometry}
use Rattle.ec_brick.specs.State.{State as Brick}
use Rattle.ec_conduct.specs.Given.{quorum}
use Rattle.ec_store.specs.Records.{Records}
use Rattle.ec_history.specs.Accounts.{Books, Leaving, booked, books, no_books}
use Rattle.ec_history.specs.Flat.{Tree}
use Rattle.ec_history.specs.IsRun.{IsRun, May as MayEnter}
use Rattle.ec_history.specs.Run.{Net, after, fresh, run}
use Rattle.ec_history.specs.Starts.{IsStart}
use Rattle.ec_history.specs.Story.{Story, opening, story, told}
use Rattle.ec_wire.specs.declared.entry.Entry.{Entry}
use Rattle.ec_law_calls.specs.World.{IsInOrder}
use Rattle.ec_law_net.specs.Turns.{View, seen_after}
use Rattle.ec_law_turns.specs.Orderly.{ArePlain}
use Rattle.ec_law_turns.proofs.Origins.{unversioned}
use Rattle.ec_law_turns.proofs.Runs.{Kept, kept_there, plain_first}
use Rattle.ec_law_data.specs.Laws.{begun}
use Rattle.ec_law_data.proofs.Reaching.{Reaches, reaches_start, reaches_then}

module _ (geometry : Geometry) (left : ℕ → Leaving) (none : (a : ℕ) → (left a).kept ≡ None) (first : ℕ) (origins : ℕ → ℕ) (new : (h : ℕ) → first ≤ h → origins h ≡ 0) where
  -- what a log has come to, with a law that holds then, and the entries that come
  pub record At (later : List Entry) (m : Net) (t : Story) (law : Net → (ℕ → View) → Story → Type 0) : Type 0 where
    pub views : ℕ → View
    pub own : Books
    pub runs : IsRun geometry.n later m
    pub plain : ArePlain later
    pub kept : Kept geometry left none (books geometry left later m t own)
    pub reaches : Reaches geometry first origins m views t own
    pub holds : law m views t

  -- the law goes on with an entry
  abbrev pub GoesOn : (Net → (ℕ → View) → Story → Type 0) → Type 0
  GoesOn law = (m : Net) (vs : ℕ → View) (t : Story) (b : Books) (e : Entry) → MayEnter geometry.n m e → Reaches geometry first origins m vs t b → law m vs t → law (after m e) (λ h. seen_after h m (vs h) e) (told geometry m t e)

  pub walk : (law : Net → (ℕ → View) → Story → Type 0) → GoesOn law → (front later : List Entry) (m : Net) (t : Story) → At (front ++ later) m t law → At later (run front m) (story geometry front m t) law
  walk law goes [] later m t a = a
  walk law goes (e ∷ front) later m t a =
      let p = plain_first e (front ++ later) a.plain in
      let may = kept_there geometry left none e (front ++ later) m t a.own a.runs a.plain (a.reaches.reached 0).known.numbers a.kept in
      walk law goes front later (after m e) (told geometry m t e) (record {
        views = λ h. seen_after h m (a.views h) e;
        own = booked geometry left m t a.own e;
        runs = a.runs.1;
        plain = p.1;
        kept = a.kept;
        reaches = reaches_then geometry left none first origins new m a.views t a.own e p.0 a.runs.0 may a.reaches;
        holds = goes m a.views t a.own e a.runs.0 a.reaches a.holds;
      })

  -- another law that holds there
  pub onto : (law other : Net → (ℕ → View) → Story → Type 0) (later : List Entry) (m : Net) (t : Story) → (a : At later m t law) → ((vs : ℕ → View) → law m vs t → other m vs t) → At later m t other
  onto law other later m t a f = record { views = a.views; own = a.own; runs = a.runs; plain = a.plain; kept = a.kept; reaches = a.reaches; holds = f a.views a.holds }

-- the beginning of a log that is in order
pub at_start : (law : Net → (ℕ → View) → Story → Type 0) (config : Config) (records : ℕ → Records) (bricks : ℕ → Brick) (tree : Tree) (next : ℕ) (es : List Entry) (start : IsStart config records bricks tree next) (o : IsInOrder config bricks tree next es)
    → law (fresh bricks) (λ h. begun config records tree next h) (opening tree next)
    → At config.geometry o.orderly.left o.orderly.none_kept next (λ h. (tree h).version) (λ h le. unversioned config records bricks tree next h start le) es (fresh bricks) (opening tree next) law
at_start law config records bricks tree next es start o h = record {
  views = λ h. begun config records tree next h;
  own = no_books;
  runs = o.is_run;
  plain = o.plain;
  kept = λ a given g. (o.orderly.conduct a given g, o.orderly.order a given g);
  reaches = reaches_start config records bricks tree next (λ a. a) most start;
  holds = h;
}
  where
    most : config.geometry.n < quorum config.geometry + quorum config.geometry
    most = let h = config.geometry.majority in omega (arith, h)
