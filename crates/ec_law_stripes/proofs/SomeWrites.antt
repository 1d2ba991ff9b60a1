-- A call of a world that sent data or a PostOp has bytes to write, if it is a write.
use Rattle.std.proofs.Common.{◌≡◌, ◌⊎◌, inl, inr, ℕ, ◌≤◌, Bool, true, false, ◌||◌, refl, sym, ◌∙◌, ap, subst, List, [], ◌∷◌, ◌++◌, Option, Some, None, arith}
use Rattle.ec_attr.specs.declared.config.Config.{Config}
use Rattle.ec_attr.specs.declared.geometry.Geometry.{Geometry}
use Rattle.ec_brick.specs.State.{State as Brick}
use Rattle.ec_calls.specs.declared.any.AnyCall.{AnyCall}
use Rattle.ec_clients.specs.Beginning.{beginning}
use Rattle.ec_clients.specs.Calls.{OfClients, begun_with, ctx_of}
use Rattle.ec_clients.specs.Come.{Come, come, come_after, nothing_left}
use Rattle.ec_clients.specs.Ledger.{Ledger, ledger}
use Rattle.ec_clients.specs.declared.clients.Clients.{Clients}
use Rattle.ec_cluster.specs.Said.{said_in}
use Rattle.ec_cluster.specs.Views.{log_of}
use Rattle.ec_cluster.specs.declared.cluster.Cluster.{Cluster}
use Rattle.ec_conduct.specs.Given.{Given}
use Rattle.ec_conduct.specs.Own.{Own}
use Rattle.ec_history.specs.Accounts.{Books, Leaving, books, no_books}
use Rattle.ec_history.specs.Flat.{Tree}
use Rattle.ec_history.specs.IsRun.{IsRun}
use Rattle.ec_history.specs.Run.{Asker, Net, after as net_after, fresh, run}
use Rattle.ec_history.specs.Story.{Story, asked_for, op_of, opening, story}
use Rattle.ec_history.proofs.Runs.{rest as rest_runs}
use Rattle.ec_txn.specs.declared.ctx.Ctx.{Ctx}
use Rattle.ec_wire.specs.declared.entry.Entry.{Entry}
use Rattle.ec_wire.specs.declared.message.Message.{Message}
use Rattle.ec_wire.specs.declared.request.Request.{Request}
use Rattle.ec_law_calls.specs.World.{IsLogged}
use Rattle.ec_law_calls.proofs.Callers.{stays}
use Rattle.ec_law_data.specs.Deeds.{is_post_on}
use Rattle.ec_law_data.specs.Forms.{is_data}
use Rattle.ec_law_net.specs.Turns.{View}
use Rattle.ec_law_net.proofs.Conducts.{log_grows}
use Rattle.ec_law_parts.proofs.Worlds.{logged_sees}
use Rattle.ec_law_turns.proofs.Basics.{some_is}
use Rattle.ec_law_stripes.specs.Finals.{CallFinalLaws, IsFinalOn, has_final}
use Rattle.ec_law_stripes.specs.Given.{WritesSome}
use Rattle.ec_law_stripes.specs.HeldStripes.{AllWriteSome}
use Rattle.ec_law_stripes.proofs.FinalScans.{final_more}
use Rattle.ec_law_stripes.proofs.FinalTurns.{Posted}

come_net : (geometry : Geometry) (es : List Entry) (p : Come) → (come geometry es p).net ≡ run es p.net
come_net geometry [] p = refl
come_net geometry (e ∷ es) p = come_net geometry es (come_after geometry p e)

come_books : (geometry : Geometry) (es : List Entry) (p : Come) → (come geometry es p).books ≡ books geometry nothing_left es p.net p.story p.books
come_books geometry [] p = refl
come_books geometry (e ∷ es) p = come_books geometry es (come_after geometry p e)

books_both : (geometry : Geometry) (left : ℕ → Leaving) (es fs : List Entry) (m : Net) (t : Story) (b : Books) → books geometry left (es ++ fs) m t b ≡ books geometry left fs (run es m) (story geometry es m t) (books geometry left es m t b)
books_both geometry left [] fs m t b = refl
books_both geometry left (e ∷ es) fs m t b = books_both geometry left es fs _ _ _

run_both : (es fs : List Entry) (m : Net) → run (es ++ fs) m ≡ run fs (run es m)
run_both [] fs m = refl
run_both (e ∷ es) fs m = run_both es fs (net_after m e)

-- who made a call stays
asker_last : (n : ℕ) (es : List Entry) (m : Net) → IsRun n es m → (c : ℕ) → c ≤ m.calls → (run es m).asker c ≡ m.asker c
asker_last n [] m runs c le = refl
asker_last n (e ∷ es) m runs c le = let o = stays n m e runs.0 in asker_last n es (net_after m e) runs.1 c (let z = o.grows in omega (arith, z, le)) ∙ o.same c le

final_on : (g : ℕ) (q : Request) → (is_data g q || is_post_on g q) ≡ true → IsFinalOn g q
final_on g q e = at (is_data g q) (is_post_on g q) e
  where
    at : (u w : Bool) → (u || w) ≡ true → (u ≡ true) ⊎ (w ≡ true)
    at true w e = inl refl
    at false w e = inr e

module _ (stands : Ctx → Given → AnyCall → List Own → Type 0) (by_table : Ctx → Given → List Own → Type 0) (calls : CallFinalLaws stands) where
  -- the calls of the clients
  op_some : (c : Clients AnyCall) (said : ℕ → Option Message) (l : Ledger) → OfClients stands by_table c None said l → (a : ℕ) (asker : Asker) → l.asker a ≡ Some asker → has_final (l.own a) ≡ true → WritesSome asker.op
  op_some c said l h a asker e final = at (l.answered a) refl
    where
      no_one : None ≡ Some a → ⊥
      no_one z = cc

      at : (t : Bool) → l.answered a ≡ t → WritesSome asker.op
      at true t = let ended = h.slots.ended a asker e t in calls.some (ctx_of c.options a asker.client ended.child) (begun_with c.options asker.op ended.child) ended.call (l.own a) ended.stood final
      at false t =
          let slot = h.slots.unanswered a asker e t no_one in
          let runs = (h.slots.runs asker.client slot.0 slot.1).0 in
          let same : runs.asker ≡ asker = some_is runs.asker asker (sym runs.made ∙ (ap l.asker slot.2 ∙ e)) in
          subst (λ (z : Asker). WritesSome z.op) same (calls.some (ctx_of c.options slot.0.number asker.client runs.child) (begun_with c.options runs.asker.op runs.child) slot.0.call (l.own slot.0.number) runs.meets (ap (λ (z : ℕ). has_final (l.own z)) slot.2 ∙ final))

  module _ (config : Config) (bricks : ℕ → Brick) (tree : Tree) (next : ℕ) (s : Cluster) (c : Clients AnyCall) (logged : IsLogged stands by_table config bricks tree next s c) where
    abbrev books_of : List Entry → Books
    books_of es = books config.geometry nothing_left es (fresh bricks) (opening tree next) no_books

    call_some : (a : ℕ) (asker : Asker) → (run (log_of s) (fresh bricks)).asker a ≡ Some asker → has_final ((books_of (log_of s)).own a) ≡ true → WritesSome asker.op
    call_some a asker made final =
        let p = come config.geometry (log_of s) (beginning bricks tree next) in
        op_some c (said_in (log_of s)) (ledger p) (logged_sees stands by_table config bricks tree next s c logged).seen.clients a asker
        (ap (λ (m : Net). m.asker a) (come_net config.geometry (log_of s) (beginning bricks tree next)) ∙ made)
        (ap (λ (b : Books). has_final (b.own a)) (come_books config.geometry (log_of s) (beginning bricks tree next)) ∙ final)

    -- so it is at each front of the log
    pub write_some : (g : ℕ) (v : View) (es rest : List Entry) → log_of s ≡ es ++ rest → ((i : ℕ) (x : Message) → (run es (fresh bricks)).said i ≡ Some x → x.call ≤ (run es (fresh bricks)).calls) → Posted g (run es (fresh bricks)).said v.turn v.of (books_of es).own → AllWriteSome g (run es (fresh bricks))
    write_some g v es rest parts below posted i x q is body on = at ((run es (fresh bricks)).asker x.call) refl
      where
        runs : IsRun config.geometry.n (es ++ rest) (fresh bricks)
        runs = subst (λ (xs : List Entry). IsRun config.geometry.n xs (fresh bricks)) parts logged.is_run

        last : (run (log_of s) (fresh bricks)).asker x.call ≡ (run es (fresh bricks)).asker x.call
        last =
            ap (λ (xs : List Entry). (run xs (fresh bricks)).asker x.call) parts
            ∙ (ap (λ (m : Net). m.asker x.call) (run_both es rest (fresh bricks)) ∙ asker_last config.geometry.n rest (run es (fresh bricks)) (rest_runs config.geometry.n es rest (fresh bricks) runs) x.call (below i x is))

        final : has_final ((books_of (log_of s)).own x.call) ≡ true
        final =
            let more = log_grows config.geometry nothing_left rest (run es (fresh bricks)) (story config.geometry es (fresh bricks) (opening tree next)) (books_of es) x.call in
            ap (λ (xs : List Entry). has_final ((books_of xs).own x.call)) parts
            ∙ (ap (λ (b : Books). has_final (b.own x.call)) (books_both config.geometry nothing_left es rest (fresh bricks) (opening tree next) no_books)
            ∙ (ap has_final more.1 ∙ final_more ((books_of es).own x.call) more.0 (posted.own_is i x q is body (final_on g q on))))

        at : (o : Option Asker) → (run es (fresh bricks)).asker x.call ≡ o → WritesSome (op_of (run es (fresh bricks)) x.call)
        at None e = subst (λ (o : Option Asker). WritesSome (asked_for o)) (sym e) tt
        at (Some asker) e = subst (λ (o : Option Asker). WritesSome (asked_for o)) (sym e) (call_some x.call asker (last ∙ e) final)
