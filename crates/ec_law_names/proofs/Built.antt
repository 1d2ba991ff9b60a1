-- The calls of a world are built.
use Rattle.std.proofs.Common.{◌≡◌, ℕ, Bool, true, false, refl, sym, ◌∙◌, ap, subst, List, [], ◌∷◌, ◌++◌, Option, Some, None}
use Rattle.ec_attr.specs.declared.config.Config.{Config}
use Rattle.ec_attr.specs.declared.geometry.Geometry.{Geometry}
use Rattle.ec_brick.specs.State.{State as Brick}
use Rattle.ec_calls.specs.declared.any.AnyCall.{AnyCall}
use Rattle.ec_clients.specs.Beginning.{beginning}
use Rattle.ec_clients.specs.Calls.{OfClients, begun_with, ctx_of}
use Rattle.ec_clients.specs.Come.{Come, come, come_after}
use Rattle.ec_clients.specs.Ledger.{Ledger, ledger}
use Rattle.ec_clients.specs.declared.clients.Clients.{Clients}
use Rattle.ec_cluster.specs.Said.{said_in}
use Rattle.ec_cluster.specs.Views.{log_of}
use Rattle.ec_cluster.specs.declared.cluster.Cluster.{Cluster}
use Rattle.ec_conduct.specs.Given.{Given}
use Rattle.ec_conduct.specs.Own.{Own}
use Rattle.ec_history.specs.Flat.{Tree}
use Rattle.ec_history.specs.Run.{Asker, Net, fresh, run}
use Rattle.ec_history.specs.Story.{asked_for, op_of}
use Rattle.ec_txn.specs.declared.ctx.Ctx.{Ctx}
use Rattle.ec_wire.specs.declared.entry.Entry.{Entry}
use Rattle.ec_wire.specs.declared.entry.Entry.TheVariants.{Called}
use Rattle.ec_wire.specs.declared.message.Message.{Message}
use Rattle.ec_law_calls.specs.World.{IsLogged}
use Rattle.ec_law_turns.proofs.Basics.{some_is}
use Rattle.ec_law_parts.proofs.Worlds.{logged_sees}
use Rattle.ec_law_flats.specs.Laws.{FlatNameLaws}
use Rattle.ec_law_flats.specs.Plans.{AreBuilt, is_unbuilt}
use Rattle.ec_law_names.specs.Built.{CallBuiltLaws}

come_net : (geometry : Geometry) (es : List Entry) (p : Come) → (come geometry es p).net ≡ run es p.net
come_net geometry [] p = refl
come_net geometry (e ∷ es) p = come_net geometry es (come_after geometry p e)

built_front : (es rest : List Entry) → AreBuilt (es ++ rest) → AreBuilt es
built_front [] rest h = tt
built_front (Called a client op ∷ es) rest h = (h.0, built_front es rest h.1)
built_front (e ∷ es) rest h = built_front es rest h

module _ (stands : Ctx → Given → AnyCall → List Own → Type 0) (by_table : Ctx → Given → List Own → Type 0) (calls : CallBuiltLaws stands) where
  module _ (c : Clients AnyCall) (said : ℕ → Option Message) (l : Ledger) (h : OfClients stands by_table c None said l) where
    built_call : (a : ℕ) (asker : Asker) → l.asker a ≡ Some asker → is_unbuilt asker.op ≡ false
    built_call a asker e = at (l.answered a) refl
      where
        no_one : None ≡ Some a → ⊥
        no_one z = cc

        at : (t : Bool) → l.answered a ≡ t → is_unbuilt asker.op ≡ false
        at true t = let ended = h.slots.ended a asker e t in calls.built (ctx_of c.options a asker.client ended.child) (begun_with c.options asker.op ended.child) ended.call (l.own a) ended.stood
        at false t =
            let slot = h.slots.unanswered a asker e t no_one in
            let runs = (h.slots.runs asker.client slot.0 slot.1).0 in
            let same : runs.asker ≡ asker = some_is runs.asker asker (sym runs.made ∙ (ap l.asker slot.2 ∙ e)) in
            ap (λ (z : Asker). is_unbuilt z.op) (sym same) ∙ calls.built (ctx_of c.options slot.0.number asker.client runs.child) (begun_with c.options runs.asker.op runs.child) slot.0.call (l.own slot.0.number) runs.meets

    built_op : (a : ℕ) → is_unbuilt (asked_for (l.asker a)) ≡ false
    built_op a = at (l.asker a) refl
      where
        at : (o : Option Asker) → l.asker a ≡ o → is_unbuilt (asked_for o) ≡ false
        at None e = refl
        at (Some asker) e = built_call a asker e

  -- each front of the log is one of built calls
  pub are_built : FlatNameLaws → (config : Config) (bricks : ℕ → Brick) (tree : Tree) (next : ℕ) (s : Cluster) (c : Clients AnyCall) → IsLogged stands by_table config bricks tree next s c → (es rest : List Entry) → log_of s ≡ es ++ rest → AreBuilt es
  are_built flats config bricks tree next s c logged es rest parts =
      let p = come config.geometry (log_of s) (beginning bricks tree next) in
      let clients = (logged_sees stands by_table config bricks tree next s c logged).seen.clients in
      built_front es rest (subst AreBuilt parts (flats.built config.geometry (log_of s) (fresh bricks) logged.is_run
      (λ a. ap (λ (m : Net). is_unbuilt (op_of m a)) (sym (come_net config.geometry (log_of s) (beginning bricks tree next))) ∙ built_op c (said_in (log_of s)) (ledger p) clients a)))
