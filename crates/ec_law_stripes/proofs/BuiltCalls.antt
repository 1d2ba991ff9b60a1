-- None of the calls of a world is one that isn't built.
use Rattle.std.proofs.Common.{◌≡◌, ℕ, Bool, true, false, refl, sym, ◌∙◌, ap, subst, List, [], ◌∷◌, ◌++◌, Option, Some, None}
use Rattle.ec_attr.specs.declared.config.Config.{Config}
use Rattle.ec_attr.specs.declared.geometry.Geometry.{Geometry}
use Rattle.ec_brick.specs.State.{State as Brick}
use Rattle.ec_calls.specs.declared.any.AnyCall.{AnyCall}
use Rattle.ec_clients.specs.Beginning.{beginning}
use Rattle.ec_clients.specs.Calls.{OfClients, begun_with, ctx_of}
use Rattle.ec_clients.specs.Come.{Come, come, come_after}
use Rattle.ec_clients.specs.Ledger.{Ledger, ledger}
use Rattle.ec_clients.specs.declared.clients.Clients.{Clients}
use Rattle.ec_cluster.specs.Said.{said_in}
use Rattle.ec_cluster.specs.Views.{log_of}
use Rattle.ec_cluster.specs.declared.cluster.Cluster.{Cluster}
use Rattle.ec_conduct.specs.Given.{Given}
use Rattle.ec_conduct.specs.Own.{Own}
use Rattle.ec_history.specs.Flat.{Tree}
use Rattle.ec_history.specs.Run.{Asker, Net, after as net_after, fresh, run}
use Rattle.ec_history.specs.Story.{asked_for}
use Rattle.ec_txn.specs.declared.ctx.Ctx.{Ctx}
use Rattle.ec_wire.specs.declared.entry.Entry.{Entry}
use Rattle.ec_wire.specs.declared.entry.Entry.TheVariants.{Called}
use Rattle.ec_wire.specs.declared.message.Message.{Message}
use Rattle.ec_law_calls.specs.World.{IsLogged}
use Rattle.ec_law_flats.specs.Plans.{AreBuilt, is_unbuilt}
use Rattle.ec_law_flats.proofs.BuiltLogs.{built_log}
use Rattle.ec_law_flats.proofs.Calls.{AllBuilt, built_first, built_then}
use Rattle.ec_law_parts.proofs.Worlds.{logged_sees}
use Rattle.ec_law_turns.proofs.Basics.{some_is}
use Rattle.ec_law_stripes.specs.Built.{CallBuiltLaws}
use Rattle.ec_law_stripes.specs.HeldStripes.{AreBuiltCalls}

come_net : (geometry : Geometry) (es : List Entry) (p : Come) → (come geometry es p).net ≡ run es p.net
come_net geometry [] p = refl
come_net geometry (e ∷ es) p = come_net geometry es (come_after geometry p e)

front_built : (es rest : List Entry) → AreBuilt (es ++ rest) → AreBuilt es
front_built [] rest h = tt
front_built (Called a client op ∷ es) rest h = (h.0, front_built es rest h.1)
front_built (e ∷ es) rest h = front_built es rest h

log_built : (es : List Entry) (m : Net) → AreBuilt es → AllBuilt m → AllBuilt (run es m)
log_built [] m h all = all
log_built (e ∷ es) m h all = let o = built_first e es h in log_built es (net_after m e) o.1 (built_then m e o.0 all)

module _ (stands : Ctx → Given → AnyCall → List Own → Type 0) (by_table : Ctx → Given → List Own → Type 0) (calls : CallBuiltLaws stands) where
  module _ (c : Clients AnyCall) (said : ℕ → Option Message) (l : Ledger) (h : OfClients stands by_table c None said l) where
    -- the op of each call that was made is built
    op_built : (a : ℕ) (asker : Asker) → l.asker a ≡ Some asker → is_unbuilt asker.op ≡ false
    op_built a asker e = at (l.answered a) refl
      where
        no_one : None ≡ Some a → ⊥
        no_one z = cc

        at : (t : Bool) → l.answered a ≡ t → is_unbuilt asker.op ≡ false
        at true t = let ended = h.slots.ended a asker e t in calls.built (ctx_of c.options a asker.client ended.child) (begun_with c.options asker.op ended.child) ended.call (l.own a) ended.stood
        at false t =
            let slot = h.slots.unanswered a asker e t no_one in
            let runs = (h.slots.runs asker.client slot.0 slot.1).0 in
            let same : runs.asker ≡ asker = some_is runs.asker asker (sym runs.made ∙ (ap l.asker slot.2 ∙ e)) in
            ap (λ (z : Asker). is_unbuilt z.op) (sym same) ∙ calls.built (ctx_of c.options slot.0.number asker.client runs.child) (begun_with c.options runs.asker.op runs.child) slot.0.call (l.own slot.0.number) runs.meets

  pub built_calls : (config : Config) (bricks : ℕ → Brick) (tree : Tree) (next : ℕ) (s : Cluster) (c : Clients AnyCall) → IsLogged stands by_table config bricks tree next s c → (es rest : List Entry) → log_of s ≡ es ++ rest → AreBuiltCalls (run es (fresh bricks))
  built_calls config bricks tree next s c logged es rest parts =
      log_built es (fresh bricks) (front_built es rest (subst AreBuilt parts (built_log config.geometry (log_of s) (fresh bricks) logged.is_run whole))) (λ a. refl)
    where
      by : (a : ℕ) (o : Option Asker) → (ledger (come config.geometry (log_of s) (beginning bricks tree next))).asker a ≡ o → is_unbuilt (asked_for o) ≡ false
      by a None e = refl
      by a (Some asker) e = op_built c (said_in (log_of s)) (ledger (come config.geometry (log_of s) (beginning bricks tree next))) (logged_sees stands by_table config bricks tree next s c logged).seen.clients a asker e

      whole : AllBuilt (run (log_of s) (fresh bricks))
      whole a = ap (λ (m : Net). is_unbuilt (asked_for (m.asker a))) (sym (come_net config.geometry (log_of s) (beginning bricks tree next))) ∙ by a ((ledger (come config.geometry (log_of s) (beginning bricks tree next))).asker a) refl
