-- Logs in two parts.
use Rattle.std.specs.Prelude.{◌≡◌, refl, ℕ, List, [], ◌∷◌, ◌++◌}
use Rattle.ec_wire.specs.declared.entry.Entry.{Entry}
use Rattle.ec_history.specs.IsRun.{IsRun}
use Rattle.ec_history.specs.Run.{Net, after, run}

pub joins : (es fs : List Entry) (m : Net) → run (es ++ fs) m ≡ run fs (run es m)
joins [] fs m = refl
joins (e ∷ es) fs m = joins es fs (after m e)

pub front : (n : ℕ) (es fs : List Entry) (m : Net) → IsRun n (es ++ fs) m → IsRun n es m
front n [] fs m runs = tt
front n (e ∷ es) fs m runs = (runs.0, front n es fs (after m e) runs.1)

pub rest : (n : ℕ) (es fs : List Entry) (m : Net) → IsRun n (es ++ fs) m → IsRun n fs (run es m)
rest n [] fs m runs = runs
rest n (e ∷ es) fs m runs = rest n es fs (after m e) runs.1

pub longer : (n : ℕ) (es fs : List Entry) (m : Net) → IsRun n es m → IsRun n fs (run es m) → IsRun n (es ++ fs) m
longer n [] fs m runs more = more
longer n (e ∷ es) fs m runs more = (runs.0, longer n es fs (after m e) runs.1 more)
