-- What a world was begun with, and what that says of its bricks and answers at each moment of its log.
use Rattle.std.specs.Prelude.{◌≡◌, ℕ, true, List, ◌∷◌, ◌++◌, Result, Ok, Err}
use Rattle.ec_attr.specs.declared.config.Config.{Config}
use Rattle.ec_attr.specs.declared.geometry.Geometry.{Geometry}
use Rattle.ec_brick.specs.State.{State}
use Rattle.ec_calls.specs.declared.any.AnyCall.{AnyCall}
use Rattle.ec_clients.specs.Beginning.{beginning}
use Rattle.ec_clients.specs.Come.{come}
use Rattle.ec_clients.specs.Owned.{Sees}
use Rattle.ec_cluster.specs.Views.{log_of}
use Rattle.ec_conduct.specs.Given.{Given, quorum}
use Rattle.ec_conduct.specs.Own.{Own}
use Rattle.ec_history.specs.Flat.{Tree}
use Rattle.ec_history.specs.IsRun.{IsRun}
use Rattle.ec_history.specs.Run.{fresh, run}
use Rattle.ec_history.specs.Script.{Step, entries_of}
use Rattle.ec_history.specs.Starts.{IsStart}
use Rattle.ec_law_answers.specs.Answered.{CommitsBetween, IsAnswered, SaysChanged, until}
use Rattle.ec_law_calls.specs.World.{IsInOrder}
use Rattle.ec_law_causes.specs.Laws.{HasCauseInLog}
use Rattle.ec_law_commits.specs.Commits.{CommitsOnce}
use Rattle.ec_law_heads.specs.Heads.{AreOfVolume, HeadsStand}
use Rattle.ec_law_heads.specs.Worlds.{Holds}
use Rattle.ec_law_names.specs.Laws.{HoldsNames}
use Rattle.ec_law_net.specs.Start.{first_view}
use Rattle.ec_law_net.specs.Turns.{view}
use Rattle.ec_law_parts.specs.Laws.{AgreesAtFlatFile}
use Rattle.ec_law_quorum.specs.Laws.{AboveOthers, NoTwoAlike}
use Rattle.ec_law_settled.specs.Settled.{IsSettledCall}
use Rattle.ec_law_sizes.specs.Sizes.{AreSized}
use Rattle.ec_law_stands.specs.Laws.{MayBeginAgain, StandAfter}
use Rattle.ec_law_stripes.specs.HeldStripes.{StripesAreHeld}
use Rattle.ec_store.specs.Records.{Records}
use Rattle.ec_txn.specs.declared.ctx.Ctx.{Ctx}
use Rattle.ec_wire.specs.declared.answer.Answer.{Answer}
use Rattle.ec_wire.specs.declared.entry.Entry.{Entry}
use Rattle.ec_wire.specs.declared.entry.Entry.TheVariants.{Answered}
use Rattle.ec_wire.specs.declared.op.Op.{Op}
use Rattle.ec_world.specs.declared.refused.Refused.{Refused}
use Rattle.ec_world.specs.declared.refused.Refused.TheVariants.{NoMemory}
use Rattle.ec_world.specs.declared.world.World.{World}

-- The world began with this geometry and with `first` as the next gfid: its clients are as its log says from there on,
-- whatever the bricks and the tree were.
pub record BeganWith (stands : Ctx → Given → AnyCall → List Own → Type 0) (by_table : Ctx → Given → List Own → Type 0) (w : World) (geometry : Geometry) (first : ℕ) : Type 0 where
  pub coded : w.clients.options.geometry ≡ geometry
  pub sees : (bricks : ℕ → State) (tree : Tree) → Sees stands by_table w.cluster w.clients (come geometry (log_of w.cluster) (beginning bricks tree first))

-- each record with which the bricks begin is of the volume, as a brick sees to that opens its store
abbrev pub AreAllOfVolume : Config → (ℕ → Records) → Tree → Type 0
AreAllOfVolume config records tree = (g : ℕ) → AreOfVolume config (λ b. records b g) (tree g)

-- but for want of memory
abbrev pub ButForMemory : Result (Unit {0}) Refused → Type 0 → Type 0
ButForMemory (Err NoMemory) holds = Unit {0}
ButForMemory result holds = holds

-- At each moment of the log, seen from any gfid, that of a file or directory made in the log too:
-- * no two attempts to commit have the same version, and as one commits its version is above that of every record at a brick that
--   didn't do its PostOp. An attempt is a turn of which a brick did a PostOp; `call` and `call_of` number those before the log;
-- * a call that was answered that it changed something has committed by then, after it was made, and by one entry alone, at which the
--   flat file becomes what the call makes of it;
-- * K records without a mark that agree have the flat file's version, and the heads of all stand for it. Those at its version are the
--   good group: they have its size and attribute, hold the code of each closed stripe of a file, where past the sizes stood zeros as the
--   log began, and each closed name of a directory. Any K of them decode the stripe;
-- * the bricks stand for the flat file, where the log began well, as with fresh bricks; and then a further log may begin with them;
-- * a stat, getattr or lookup that was made while nothing else was under way is answered by the end of the `settle` after it, whichever
--   bricks are up and whatever their stores do;
-- * each call keeps the conduct and its order; and each that was answered has the cause of its answer, and of no other, in what it
--   sent and heard.
pub record IsConsistent (config : Config) (records : ℕ → Records) (bricks : ℕ → State) (tree : Tree) (next : ℕ) (log : List Entry) : Type 0 where
  pub no_two_alike : (g : ℕ) (call : ℕ → ℕ) (es rest : List Entry) → log ≡ es ++ rest → NoTwoAlike config.geometry.n (quorum config.geometry) (view g es (fresh bricks) (first_view config.geometry.n (tree g).version records g call next)).core
  pub above_others : (g : ℕ) (call : ℕ → ℕ) (es rest : List Entry) → log ≡ es ++ rest → AboveOthers config.geometry.n (quorum config.geometry) (view g es (fresh bricks) (first_view config.geometry.n (tree g).version records g call next)).core
  pub answered_after_commit : (g : ℕ) (call_of : ℕ → ℕ) (es rest : List Entry) → log ≡ es ++ rest → (call : ℕ) (op : Op) (answer : Answer) (h : IsAnswered es call op answer) → SaysChanged op answer g
      → CommitsBetween config.geometry.n (quorum config.geometry) (view g h.earlier (fresh bricks) (first_view config.geometry.n (tree g).version records g call_of next)) (view g (until h) (fresh bricks) (first_view config.geometry.n (tree g).version records g call_of next)) (view g es (fresh bricks) (first_view config.geometry.n (tree g).version records g call_of next)) call
  pub answered_by_one_commit : (g : ℕ) (es rest : List Entry) → log ≡ es ++ rest → (call : ℕ) (op : Op) (answer : Answer) (h : IsAnswered es call op answer) → SaysChanged op answer g
      → CommitsOnce config.geometry bricks tree next es h.earlier h.between call h.client op g
  pub agree_at_flat_file : (g : ℕ) (es rest : List Entry) → log ≡ es ++ rest → AgreesAtFlatFile config records bricks tree next g es
  pub heads_stand : (g : ℕ) (es rest : List Entry) → log ≡ es ++ rest → Holds HeadsStand config records bricks tree next g es
  pub sizes_held : (g : ℕ) (es rest : List Entry) → log ≡ es ++ rest → Holds AreSized config records bricks tree next g es
  pub stripes_held : (g : ℕ) (es rest : List Entry) → log ≡ es ++ rest → StripesAreHeld config records bricks tree next g es
  pub names_held : (g : ℕ) (es rest : List Entry) → log ≡ es ++ rest → HoldsNames config records bricks tree next g es
  pub stand : (g : ℕ) (es rest : List Entry) → log ≡ es ++ rest → StandAfter config records bricks tree next g es
  pub may_begin_again : (es rest : List Entry) → log ≡ es ++ rest → MayBeginAgain config records bricks tree next 0 es
  pub settled_is_answered : (earlier : List Entry) (call client : ℕ) (op : Op) (called : Step) (steps : List Step) → log ≡ earlier ++ entries_of (called ∷ steps)
      → IsSettledCall config.geometry.n (run earlier (fresh bricks)) call client op called steps → (run log (fresh bricks)).answered call ≡ true
  pub in_order : (es rest : List Entry) → log ≡ es ++ rest → IsInOrder config bricks tree next es
  pub answered_with_cause : (es rest : List Entry) (call : ℕ) (answer : Answer) → log ≡ es ++ Answered call answer ∷ rest → HasCauseInLog config bricks tree next log call answer

-- what holds after the log of every world that began with bricks of its volume that stand for a tree, where the log is a run
abbrev pub ConsistencyLaws : (Ctx → Given → AnyCall → List Own → Type 0) → (Ctx → Given → List Own → Type 0) → Type 0
ConsistencyLaws stands by_table =
    (config : Config) (records : ℕ → Records) (bricks : ℕ → State) (tree : Tree) (next : ℕ) (w : World)
    → IsStart config records bricks tree next → AreAllOfVolume config records tree → BeganWith stands by_table w config.geometry next → IsRun config.geometry.n (log_of w.cluster) (fresh bricks)
    → IsConsistent config records bricks tree next (log_of w.cluster)
