-- Each act but a heal's keeps what stands of sinks, and does a PostOp on a marked record only where it is one.
use Rattle.std.proofs.Common.{◌≡◌, ℕ, ◌+◌, ◌<◌, ◌≤◌, Bool, true, false, List, [], ◌∷◌, refl, ◌∙◌, arith}
use Rattle.std.proofs.lemmas.Bool.Decides.{nat_tests}
use Rattle.ec_law_base.specs.State.{State}
use Rattle.ec_law_ballots.specs.Act.{Act, after, step}
use Rattle.ec_law_ballots.specs.Act.Act.{Grant, Free, Share, Unshare, Moment, See, Keep, Carry, Choose, Choose_kept, Pre, Sink_pre, Post, Sink_post, Clear, Heal_grant, Heal_free, Mark, Unmark, Maker_grant, Maker_free, Make, Made, Unmake, Stop, Replace}
use Rattle.ec_law_ballots.specs.Clauses.{Local, Saw, UnbornSeen}
use Rattle.ec_law_ballots.specs.Guard.{May, Runs}
use Rattle.ec_law_quorum.specs.Wide.{Inv}
use Rattle.ec_law_quorum.proofs.Laws.{inv_after}
use Rattle.ec_law_data.proofs.Guards.{Easy, is_easy}
use Rattle.ec_law_writes.specs.Sinks.{StillMarked}

module _ (n k : ℕ) (s : State) (b : ℕ) where
  still_marked-grant : (t d : ℕ) → May n k s (Grant t d) → StillMarked s b → Saw s b → StillMarked (step s (Grant t d)) b
  still_marked-grant t d may still' saw' a h f g i j l m = grind (arith, nat_tests)

  still_marked-free : (d : ℕ) → StillMarked s b → StillMarked (step s (Free d)) b
  still_marked-free d still' a h f g i j l m = grind (arith, nat_tests)

  still_marked-see : (t d : ℕ) → StillMarked s b → StillMarked (step s (See t d)) b
  still_marked-see t d still' a h f g i j l m = grind (arith, nat_tests)

  still_marked-carry : (u t d : ℕ) → May n k s (Carry u t d) → StillMarked s b → Saw s b → StillMarked (step s (Carry u t d)) b
  still_marked-carry u t d may still' saw' a h f g i j l m = grind (arith, nat_tests)

  still_marked-post : (t d : ℕ) → May n k s (Post t d) → StillMarked s b → StillMarked (step s (Post t d)) b
  still_marked-post t d may still' a h f g i j l m = grind (arith, nat_tests)

  still_marked-sink_post : (t d : ℕ) → May n k s (Sink_post t d) → StillMarked s b → StillMarked (step s (Sink_post t d)) b
  still_marked-sink_post t d may still' a h f g i j l m = grind (arith, nat_tests)

  still_marked-make : (d : ℕ) → May n k s (Make d) → StillMarked s b → UnbornSeen s b → StillMarked (step s (Make d)) b
  still_marked-make d may still' unborn' a h f g i j l m = grind (arith, nat_tests)

  still_marked-unmake : (d : ℕ) → StillMarked s b → StillMarked (step s (Unmake d)) b
  still_marked-unmake d still' a h f g i j l m = grind (arith, nat_tests)

  still_marked-stop : (d : ℕ) → StillMarked s b → StillMarked (step s (Stop d)) b
  still_marked-stop d still' a h f g i j l m = grind (arith, nat_tests)

  still_marked-replace : (d : ℕ) → StillMarked s b → StillMarked (step s (Replace d)) b
  still_marked-replace d still' a h f g i j l m = grind (arith, nat_tests)

-- no heal's Mark or Unmark
abbrev pub spares_marks : Act → Bool
spares_marks (Mark a b) = false
spares_marks (Unmark a b) = false
spares_marks e = true

abbrev pub SpareMarks : List Act → Type 0
SpareMarks [] = Unit {0}
SpareMarks (e ∷ es) = (spares_marks e ≡ true) × SpareMarks es

module _ (n k : ℕ) (s : State) (b : ℕ) (l : Local s b) (still : StillMarked s b) where
  still_step : (e : Act) → May n k s e → spares_marks e ≡ true → StillMarked (step s e) b
  still_step (Grant t d) may spares = still_marked-grant n k s b t d may still l.saw
  still_step (Free d) may spares = still_marked-free n k s b d still
  still_step (Share t d) may spares = still
  still_step (Unshare t d) may spares = still
  still_step (Moment t) may spares = still
  still_step (See t d) may spares = still_marked-see n k s b t d still
  still_step (Keep t u) may spares = still
  still_step (Carry u t d) may spares = still_marked-carry n k s b u t d may still l.saw
  still_step (Choose t p) may spares = still
  still_step (Choose_kept t u p) may spares = still
  still_step (Pre t d) may spares = still
  still_step (Sink_pre t d) may spares = still
  still_step (Post t d) may spares = still_marked-post n k s b t d may still
  still_step (Sink_post t d) may spares = still_marked-sink_post n k s b t d may still
  still_step (Clear t d) may spares = still
  still_step (Heal_grant h d) may spares = still
  still_step (Heal_free d) may spares = still
  still_step (Mark t d) may spares = absurd (cc)
  still_step (Unmark t d) may spares = absurd (cc)
  still_step (Maker_grant d) may spares = still
  still_step (Maker_free d) may spares = still
  still_step (Make d) may spares = still_marked-make n k s b d may still l.unborn_seen
  still_step (Made d) may spares = still
  still_step (Unmake d) may spares = still_marked-unmake n k s b d still
  still_step (Stop d) may spares = still_marked-stop n k s b d still
  still_step (Replace d) may spares = still_marked-replace n k s b d still

module _ (n k : ℕ) (most : n < k + k) (fits : k ≤ n) (b : ℕ) where
  pub still_after : (es : List Act) (s : State) → Runs n k es s → SpareMarks es → Inv n k s → StillMarked s b → StillMarked (after es s) b
  still_after [] s runs spares inv still = still
  still_after (e ∷ es) s runs spares inv still = still_after es (step s e) runs.1 spares.1 (inv_after n k most fits (e ∷ []) s (runs.0, refl) inv) (still_step n k s b (inv.local b) still e runs.0 spares.0)

-- acts of which nothing more is needed mark nothing, and do no PostOp
easy_spares : (e : Act) → is_easy e ≡ true → spares_marks e ≡ true
easy_spares (Mark a b) h = absurd (cc)
easy_spares (Unmark a b) h = absurd (cc)
easy_spares e h = refl

pub all_easy_spare : (es : List Act) → Easy es → SpareMarks es
all_easy_spare [] h = tt
all_easy_spare (e ∷ es) h = (easy_spares e h.0, all_easy_spare es h.1)

easy_post : (e : Act) (s : State) → is_easy e ≡ true → (step s e).spost ≡ s.spost
easy_post (Sink_post a b) s h = absurd (cc)
easy_post e s h = refl

pub easy_posts : (es : List Act) (s : State) → Easy es → (after es s).spost ≡ s.spost
easy_posts [] s h = refl
easy_posts (e ∷ es) s h = easy_posts es (step s e) h.1 ∙ easy_post e s h.0
