-- In the log of a world each call makes one thing of its file.
use Rattle.std.proofs.Common.{◌≡◌, ℕ, ◌+◌, arith, Bool, true, false, refl, sym, ◌∙◌, ap, subst, List, [], ◌∷◌, Option, Some, None}
use Rattle.std.specs.Prelude.{is_some}
use Rattle.ec_attr.specs.declared.config.Config.{Config}
use Rattle.ec_attr.specs.declared.geometry.Geometry.{Geometry}
use Rattle.ec_brick.specs.State.{State as Brick}
use Rattle.ec_calls.specs.declared.any.AnyCall.{AnyCall}
use Rattle.ec_clients.specs.Beginning.{beginning}
use Rattle.ec_clients.specs.Calls.{OfClients, begun_with, ctx_of}
use Rattle.ec_clients.specs.Come.{Come, come, come_after, nothing_left}
use Rattle.ec_clients.specs.Ledger.{Ledger, ledger}
use Rattle.ec_clients.specs.Owned.{Sees}
use Rattle.ec_clients.specs.declared.clients.Clients.{Clients}
use Rattle.ec_cluster.specs.Said.{said_in}
use Rattle.ec_cluster.specs.Views.{log_of}
use Rattle.ec_cluster.specs.declared.cluster.Cluster.{Cluster}
use Rattle.ec_conduct.specs.Given.{Given}
use Rattle.ec_conduct.specs.Own.{Own}
use Rattle.ec_history.specs.Accounts.{Books, books, no_books}
use Rattle.ec_history.specs.Flat.{Tree}
use Rattle.ec_history.specs.Run.{Asker, fresh}
use Rattle.ec_history.specs.Story.{opening}
use Rattle.ec_txn.specs.declared.ctx.Ctx.{Ctx}
use Rattle.ec_wire.specs.declared.entry.Entry.{Entry}
use Rattle.ec_wire.specs.declared.message.Message.{Message}
use Rattle.ec_law_calls.specs.World.{IsLogged, taken}
use Rattle.ec_law_calls.proofs.Gfids.{first_gfid}
use Rattle.ec_law_files.specs.Laws.{AllMade, CallStripeLaws, WorldStripeLaws}
use Rattle.ec_law_files.specs.Stripes.{IsMade, Making}
use Rattle.ec_law_files.proofs.Entries.{all_made, made_front, makings_of}

some_is : {X : Type 0} (x y : X) → Some x ≡ Some y → x ≡ y
some_is x y e = cc

none_is : {X : Type 0} (x : X) → None ≡ Some x → ⊥
none_is x e = cc

come_books : (geometry : Geometry) (es : List Entry) (p : Come) → (come geometry es p).books ≡ books geometry nothing_left es p.net p.story p.books
come_books geometry [] p = refl
come_books geometry (e ∷ es) p = come_books geometry es (come_after geometry p e)

module _ (stands : Ctx → Given → AnyCall → List Own → Type 0) (by_table : Ctx → Given → List Own → Type 0) where
  -- a call stands for its own entries, in whatever slot it is or was
  record IsOfCall (l : Ledger) (a : ℕ) (given : Given) : Type 0 where
    x : Ctx
    call : AnyCall
    meets : stands x given call (l.own a)

  module _ (c : Clients AnyCall) (said : ℕ → Option Message) (l : Ledger) (h : OfClients stands by_table c None said l) where
    made_call : (a : ℕ) (asker : Asker) → l.asker a ≡ Some asker → (child : ℕ) × (l.given a ≡ Some (begun_with c.options asker.op child)) × IsOfCall l a (begun_with c.options asker.op child)
    made_call a asker e = at (l.answered a) refl
      where
        no_one : None ≡ Some a → ⊥
        no_one z = cc

        at : (t : Bool) → l.answered a ≡ t → (child : ℕ) × (l.given a ≡ Some (begun_with c.options asker.op child)) × IsOfCall l a (begun_with c.options asker.op child)
        at true t = let ended = h.slots.ended a asker e t in (ended.child, ended.begun, record { x = ctx_of c.options a asker.client ended.child; call = ended.call; meets = ended.stood })
        at false t =
            let slot = h.slots.unanswered a asker e t no_one in
            let runs = (h.slots.runs asker.client slot.0 slot.1).0 in
            let same : runs.asker ≡ asker = some_is runs.asker asker (sym runs.made ∙ (ap l.asker slot.2 ∙ e)) in
            let ops : begun_with c.options runs.asker.op runs.child ≡ begun_with c.options asker.op runs.child = ap (λ (z : Asker). begun_with c.options z.op runs.child) same in
            let call : IsOfCall l slot.0.number (begun_with c.options runs.asker.op runs.child) = record { x = ctx_of c.options slot.0.number asker.client runs.child; call = slot.0.call; meets = runs.meets } in (
              runs.child,
              ap l.given (sym slot.2) ∙ (runs.begun ∙ ap (λ (z : Given). Some z) ops),
              subst (λ (z : Given). IsOfCall l a z) ops (subst (λ (z : ℕ). IsOfCall l z (begun_with c.options runs.asker.op runs.child)) slot.2 call),
            )

    made_of : (a : ℕ) (o : Option Asker) → l.asker a ≡ o → is_some o ≡ true → (asker : Asker) × (l.asker a ≡ Some asker)
    made_of a None e t = absurd (cc)
    made_of a (Some asker) e t = (asker, e)

    -- the call of each that began stands for its own entries
    begun_call : (a : ℕ) (given : Given) → l.given a ≡ Some given → IsOfCall l a given
    begun_call a given e =
        let made = made_of a (l.asker a) refl (h.calls.given a given e) in
        let call = made_call a made.0 made.1 in
        subst (λ (z : Given). IsOfCall l a z) (some_is (begun_with c.options made.0.op call.0) given (sym call.1 ∙ e)) call.2

  same_first : (x y n z : ℕ) → x + n ≡ z → y + n ≡ z → x ≡ y
  same_first x y n z e f = omega (arith, e, f)

  -- by which gfid the log begins is told
  logged_sees : (config : Config) (bricks : ℕ → Brick) (tree : Tree) (next : ℕ) (s : Cluster) (c : Clients AnyCall) → IsLogged stands by_table config bricks tree next s c → Sees stands by_table s c (come config.geometry (log_of s) (beginning bricks tree next))
  logged_sees config bricks tree next s c h =
      let first : h.first ≡ next = same_first h.first next (taken (log_of s)) c.next_gfid (first_gfid stands by_table c.options.geometry bricks tree h.first s c h.sees) h.next_gfid in
      subst (λ (z : Geometry). Sees stands by_table s c (come z (log_of s) (beginning bricks tree next))) h.geometry (subst (λ (n : ℕ). Sees stands by_table s c (come c.options.geometry (log_of s) (beginning bricks tree n))) first h.sees)

  module _ (calls : CallStripeLaws stands) where
    made_log : (config : Config) (bricks : ℕ → Brick) (tree : Tree) (next : ℕ) (s : Cluster) (c : Clients AnyCall) → IsLogged stands by_table config bricks tree next s c
        → (makings : ℕ → Making) × AllMade makings config.geometry nothing_left (log_of s) (fresh bricks) (opening tree next) no_books
    made_log config bricks tree next s c h =
        let p = come config.geometry (log_of s) (beginning bricks tree next) in
        let clients = (logged_sees config bricks tree next s c h).seen.clients in
        let of = come_books config.geometry (log_of s) (beginning bricks tree next) in
        let last = books config.geometry nothing_left (log_of s) (fresh bricks) (opening tree next) no_books in
        let each : (a : ℕ) (given : Given) → last.given a ≡ Some given → IsMade given (last.own a) = λ a given e.
        (let k = begun_call c (said_in (log_of s)) (ledger p) clients a given (ap (λ (b : Books). b.given a) of ∙ e) in
        subst (λ (b : Books). IsMade given (b.own a)) of (calls.made k.x given k.call ((ledger p).own a) k.meets)) in
        let w = makings_of config.geometry nothing_left last each in
        (w.0, all_made config.geometry nothing_left w.0 (log_of s) (fresh bricks) (opening tree next) no_books h.is_run (λ a given e. absurd (none_is given e)) w.1)

    pub stripe_laws : WorldStripeLaws stands by_table
    stripe_laws = record {
      made = λ config records bricks tree next g s c start logged es rest parts.
          (let w = made_log config bricks tree next s c logged in
          (w.0, made_front config.geometry nothing_left w.0 es rest (fresh bricks) (opening tree next) no_books (subst (λ (xs : List Entry). AllMade w.0 config.geometry nothing_left xs (fresh bricks) (opening tree next) no_books) parts w.1)));
    }
