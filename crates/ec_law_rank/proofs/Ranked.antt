-- The rank along a log, and along the steps of settling.
use Rattle.std.proofs.Common.{◌≡◌, ◌⊎◌, inl, inr, ℕ, ◌+◌, ◌≤◌, List, [], ◌∷◌, ◌++◌, length, refl, sym, ap, subst, ◌∙◌, append_assoc, arith}
use Rattle.ec_brick.specs.State.{State}
use Rattle.ec_history.proofs.Runs.{front, joins, rest}
use Rattle.ec_history.specs.IsRun.{IsRun}
use Rattle.ec_history.specs.Run.{Net, after, fresh, run}
use Rattle.ec_history.specs.Script.{IsSettling, Settles, Step, entries_of}
use Rattle.ec_law_rank.specs.Rank.{AllLetGo, LetsGo, RankLaws, rank, weight, weights}
use Rattle.ec_law_rank.proofs.Entries.{Comes, comes}
use Rattle.ec_law_rank.proofs.Numbered.{IsNumbered, fresh_numbered}
use Rattle.ec_wire.specs.declared.entry.Entry.{Entry}
use Rattle.ec_wire.specs.declared.entry.Entry.TheVariants.{Called, Sent, Executed, Heard, Lost, GivenUp, Stopped, Returned, Cut, Died, Yielded, Torn, Answered, Replaced}

numbered_after : (n : ℕ) (es : List Entry) (m : Net) → IsRun n es m → IsNumbered m → IsNumbered (run es m)
numbered_after n [] m runs h = h
numbered_after n (e ∷ es) m runs h = numbered_after n es (after m e) runs.1 (comes n 0 m e h runs.0).numbered

later : (n : ℕ) (es : List Entry) (m : Net) → IsRun n es m → IsNumbered m → m.next ≤ (run es m).next
later n [] m runs h = omega arith
later n (e ∷ es) m runs h =
    let c : Comes 0 m (after m e) (weight e) = comes n 0 m e h runs.0 in
    let one : m.next ≤ (after m e).next = c.grows in
    let more : (after m e).next ≤ (run es (after m e)).next = later n es (after m e) runs.1 c.numbered in
    omega (arith, one, more)

lowered : (n most : ℕ) (es : List Entry) (m : Net) → IsRun n es m → IsNumbered m → (run es m).next ≤ most → rank most (run es m) + weights es ≤ rank most m
lowered n most [] m runs h le = omega arith
lowered n most (e ∷ es) m runs h le =
    let c : Comes most m (after m e) (weight e) = comes n most m e h runs.0 in
    let more : (after m e).next ≤ (run es (after m e)).next = later n es (after m e) runs.1 c.numbered in
    let within : (after m e).next ≤ most = omega (arith, more, le) in
    let one : rank most (after m e) + weight e ≤ rank most m = c.lowers within in
    let others : rank most (run es (after m e)) + weights es ≤ rank most (after m e) = lowered n most es (after m e) runs.1 c.numbered le in
    omega (arith, one, others)

lowers : (n most : ℕ) (bricks : ℕ → State) (earlier es : List Entry) → IsRun n (earlier ++ es) (fresh bricks) → (run (earlier ++ es) (fresh bricks)).next ≤ most
    → rank most (run (earlier ++ es) (fresh bricks)) + weights es ≤ rank most (run earlier (fresh bricks))
lowers n most bricks earlier es runs le =
    let start = run earlier (fresh bricks) in
    let numbered : IsNumbered start = numbered_after n earlier (fresh bricks) (front n earlier es (fresh bricks) runs) (fresh_numbered bricks) in
    let same : run (earlier ++ es) (fresh bricks) ≡ run es start = joins earlier es (fresh bricks) in
    subst (λ (m : Net). rank most m + weights es ≤ rank most start) (sym same)
    (lowered n most es start (rest n earlier es (fresh bricks) runs) numbered (subst (λ (m : Net). m.next ≤ most) same le))

weights_join : (es fs : List Entry) → weights (es ++ fs) ≡ weights es + weights fs
weights_join [] fs = omega arith
weights_join (e ∷ es) fs = let more : weights (es ++ fs) ≡ weights es + weights fs = weights_join es fs in omega (arith, more)

-- a step of settling lowers it
step_weighs : (m : Net) (e : Entry) (follow : List Entry) → IsSettling m e → LetsGo e follow → 1 ≤ weight e + weights follow
step_weighs m (Executed i version failed) follow settles go = omega arith
step_weighs m (Heard i) follow settles go = omega arith
step_weighs m (Lost i) follow settles go = omega arith
step_weighs m (GivenUp client brick i) follow settles go = omega arith
step_weighs m (Yielded client) follow settles go = omega (arith, go)
step_weighs m (Called call client op) follow settles go = absurd settles
step_weighs m (Sent msg) follow settles go = absurd settles
step_weighs m (Stopped b) follow settles go = absurd settles
step_weighs m (Returned b) follow settles go = absurd settles
step_weighs m (Cut client b) follow settles go = absurd settles
step_weighs m (Died client) follow settles go = absurd settles
step_weighs m (Torn i bytes version) follow settles go = absurd settles
step_weighs m (Answered call answer) follow settles go = absurd settles
step_weighs m (Replaced b removed all) follow settles go = absurd settles

steps_weigh : (steps : List Step) (m : Net) → Settles m steps → AllLetGo steps → length steps ≤ weights (entries_of steps)
steps_weigh [] m settles go = omega arith
steps_weigh (s ∷ steps) m settles go =
    let one : 1 ≤ weight s.named + weights s.follow = step_weighs m s.named s.follow settles.0 go.0 in
    let others : length steps ≤ weights (entries_of steps) = steps_weigh steps (run (s.named ∷ s.follow) m) settles.2 go.1 in
    let all : weights (s.follow ++ entries_of steps) ≡ weights s.follow + weights (entries_of steps) = weights_join s.follow (entries_of steps) in
    omega (arith, one, others, all)

settling : (n most : ℕ) (bricks : ℕ → State) (earlier : List Entry) (steps : List Step) → IsRun n (earlier ++ entries_of steps) (fresh bricks) → (run (earlier ++ entries_of steps) (fresh bricks)).next ≤ most
    → Settles (run earlier (fresh bricks)) steps → AllLetGo steps
    → rank most (run (earlier ++ entries_of steps) (fresh bricks)) + length steps ≤ rank most (run earlier (fresh bricks))
settling n most bricks earlier steps runs le settles go =
    let all : rank most (run (earlier ++ entries_of steps) (fresh bricks)) + weights (entries_of steps) ≤ rank most (run earlier (fresh bricks)) = lowers n most bricks earlier (entries_of steps) runs le in
    let each : length steps ≤ weights (entries_of steps) = steps_weigh steps (run earlier (fresh bricks)) settles go in
    omega (arith, all, each)

pub laws : RankLaws
laws = record { lowers = lowers; settling = settling }
