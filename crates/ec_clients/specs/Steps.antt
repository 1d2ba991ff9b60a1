-- What a step of the clients over a cluster promises.
use Rattle.std.specs.Prelude.{◌≡◌, ℕ, true, Option, List, ◌++◌}
use Rattle.std.specs.List.{list_all}
use Rattle.ec_attr.specs.declared.geometry.Geometry.{Geometry}
use Rattle.ec_cluster.specs.Matches.{Matches, StandsAs}
use Rattle.ec_cluster.specs.Said.{said_in}
use Rattle.ec_cluster.specs.Sound.{IsSound}
use Rattle.ec_cluster.specs.Views.{log_of, size_of}
use Rattle.ec_cluster.specs.declared.cluster.Cluster.{Cluster}
use Rattle.ec_conduct.specs.Given.{Given}
use Rattle.ec_conduct.specs.Own.{Own}
use Rattle.ec_history.specs.IsRun.{IsRun}
use Rattle.ec_history.specs.Script.{is_of_course}
use Rattle.ec_store.specs.Records.{Records}
use Rattle.ec_txn.specs.declared.ctx.Ctx.{Ctx}
use Rattle.ec_wire.specs.declared.entry.Entry.{Entry}
use Rattle.ec_clients.specs.Calls.{OfClients}
use Rattle.ec_clients.specs.Come.{Come, come}
use Rattle.ec_clients.specs.Ledger.{ledger}
use Rattle.ec_clients.specs.declared.clients.Clients.{Clients}

-- Messages and clients are as what has come of a log says; call `out` is out of its slot.
pub record Seen {C : Type 0} (stands : Ctx → Given → C → List Own → Type 0) (by_table : Ctx → Given → List Own → Type 0) (s : Cluster) (c : Clients C) (out : Option ℕ) (p : Come) : Type 0 where
  pub said : p.net.said ≡ said_in (log_of s)
  pub clients : OfClients stands by_table c out (said_in (log_of s)) (ledger p)

-- Entries lead from all that is as before to what is as after. Where the cluster matches the net they are a run.
pub record Goes (geometry : Geometry) (Before After : Come → Type 0) (s t : Cluster) (es : List Entry) : Type 0 where
  pub log : log_of t ≡ log_of s ++ es
  pub size : size_of t ≡ size_of s
  pub sound : IsSound t
  pub leads : (p : Come) → Before p → After (come geometry es p)
  pub runs : (records : List Records) (p : Come) → Before p → Matches s records p.net → IsRun (size_of s) es p.net × Matches t records (come geometry es p).net

-- entries that follow from what an event names
abbrev pub AreOfCourse : List Entry → Type 0
AreOfCourse es = list_all is_of_course es ≡ true

-- Where there is no memory the log has the entries so far, of which this is said. They are a run, and the stores stand as
-- these say.
pub record Breaks (geometry : Geometry) (AreBegun : List Entry → Type 0) (Before : Come → Type 0) (s t : Cluster) : Type 0 where
  pub entries : List Entry
  pub log : log_of t ≡ log_of s ++ entries
  pub begun : AreBegun entries
  pub runs : (records : List Records) (p : Come) → Before p → Matches s records p.net → IsRun (size_of s) entries p.net × StandsAs (size_of s) records (come geometry entries p).net
