-- What follows for a brick of which more is known, from a state of which less is known.
use Rattle.std.specs.Prelude.{◌≡◌, ℕ, Option, is_some}
use Rattle.ec_store.specs.Causes.{Rose}
use Rattle.ec_store.specs.Records.{Records, head_at}
use Rattle.ec_wire.specs.declared.request.Request.{Request}
use Rattle.ec_brick.specs.Index.{dirty_of}
use Rattle.ec_brick.specs.Known.{AreKnown, IsKnownOut, IsKnownState}
use Rattle.ec_brick.specs.Meets.{Meets, TearsOff, failing_at}
use Rattle.ec_brick.specs.State.{State}
use Rattle.ec_brick.specs.Step.{Failing, cut_off, started, step, stopped, torn}
use Rattle.ec_brick.specs.declared.effects.Effects.{Effects}

-- what the table makes of a write that was cut short, of which any front part may stand, where this version was read
abbrev pub torn_at : State → Request → ℕ → Option ℕ → State
torn_at b q count version = (torn b (failing_at version) q count).brick

-- the version is that of the table, and what is known by the table holds of the state after
pub record IsTornLess (b : State) (q : Request) (count : ℕ) (version : Option ℕ) (now : State) : Type 0 where
  pub same_version : version ≡ (torn b (failing_at version) q count).version
  pub state : IsKnownState (torn_at b q count version) now

pub record KnownLaws : Type 0 where
  -- a state is known of itself, and what is known of a state holds of each that is known of a better one
  pub same : (b : State) → IsKnownState b b
  pub through : (b c d : State) → IsKnownState b c → IsKnownState c d → IsKnownState b d
  -- only bytes and the ends of fragments are known less: which gfids have a record, their heads, and which are dirty are
  -- told by each state
  pub present : (m r : Records) (g : ℕ) → AreKnown m r → is_some (r g) ≡ is_some (m g)
  pub heads : (m r : Records) (g : ℕ) → AreKnown m r → head_at r g ≡ head_at m g
  pub dirty : (m r : Records) (g : ℕ) → AreKnown m r → dirty_of r g ≡ dirty_of m g
  -- what the table makes of a request, a stop, a start, a cut and a torn write where less is known, it allows where more
  -- is known
  pub steps : (b c : State) (f : Failing) (client number : ℕ) (q : Request) → IsKnownState b c → IsKnownOut (step b f client number q) (step c f client number q)
  pub stops : (b c : State) → IsKnownState b c → IsKnownState (stopped b) (stopped c)
  pub starts : (b c : State) → IsKnownState b c → IsKnownState (started b) (started c)
  pub cuts : (b c : State) (client : ℕ) → IsKnownState b c → IsKnownOut (cut_off b client) (cut_off c client)
  pub tears : (b c : State) (f : Failing) (q : Request) (count : ℕ) → IsKnownState b c → IsKnownOut (torn b f q count) (torn c f q count)
  -- so the effects of a request that a brick executed are those of the table where less is known of the brick
  pub meets : (b c : State) (f : Failing) (client number : ℕ) (q : Request) (e : Effects) (now : State) → IsKnownState b c
      → Meets (step c f client number q) e now → Meets (step b f client number q) e now
  -- and a write that was cut short leaves what the table says where its bytes may be unset, whether the store failed or not
  pub torn_off : (b c : State) (q : Request) (count faults_before faults_now : ℕ) (version : Option ℕ) (now : State) → IsKnownState b c
      → TearsOff (Rose faults_before faults_now) c q count version now → IsTornLess b q count version now
