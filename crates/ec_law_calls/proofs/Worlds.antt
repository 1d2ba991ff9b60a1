-- What the clients of a world stand for makes its log one of the laws of versions.
use Rattle.std.proofs.Common.{◌≡◌, ℕ, ◌+◌, arith, Bool, true, false, refl, sym, ◌∙◌, ap, subst, List, [], ◌∷◌, ◌++◌, Option, Some, None}
use Rattle.std.specs.Prelude.{is_some}
use Rattle.ec_attr.specs.declared.config.Config.{Config}
use Rattle.ec_attr.specs.declared.geometry.Geometry.{Geometry}
use Rattle.ec_brick.specs.State.{State as Brick}
use Rattle.ec_calls.specs.declared.any.AnyCall.{AnyCall}
use Rattle.ec_clients.specs.Beginning.{beginning}
use Rattle.ec_clients.specs.Calls.{OfClients, begun_with}
use Rattle.ec_clients.specs.Come.{Come, come, come_after, nothing_left}
use Rattle.ec_clients.specs.Ledger.{Ledger, ledger}
use Rattle.ec_clients.specs.Owned.{Sees}
use Rattle.ec_clients.specs.declared.clients.Clients.{Clients}
use Rattle.ec_cluster.specs.Said.{said_in}
use Rattle.ec_cluster.specs.Views.{log_of}
use Rattle.ec_cluster.specs.declared.cluster.Cluster.{Cluster}
use Rattle.ec_conduct.specs.Conduct.{Keeps}
use Rattle.ec_conduct.specs.Given.{Given}
use Rattle.ec_conduct.specs.Own.{Own}
use Rattle.ec_history.specs.Accounts.{Books, books}
use Rattle.ec_history.specs.Flat.{Tree}
use Rattle.ec_history.specs.Run.{Asker, Net, fresh, run}
use Rattle.ec_history.specs.Story.{opening}
use Rattle.ec_history.proofs.Runs.{front}
use Rattle.ec_txn.specs.declared.ctx.Ctx.{Ctx}
use Rattle.ec_wire.specs.declared.entry.Entry.{Entry}
use Rattle.ec_wire.specs.declared.message.Message.{Message}
use Rattle.ec_law_base.specs.State.{State}
use Rattle.ec_law_turns.specs.Laws.{AfterEveryOrderlyLog}
use Rattle.ec_law_turns.specs.Orderly.{KeepsOrder}
use Rattle.ec_law_turns.proofs.OrderlyRuns.{laws as orderly_laws}
use Rattle.ec_law_calls.specs.Laws.{CallLaws}
use Rattle.ec_law_calls.specs.World.{InEveryWorld, IsInOrder, IsLogged, WorldLaws, taken}
use Rattle.ec_law_calls.proofs.Callers.{PlainCallers, plain_log}
use Rattle.ec_law_calls.proofs.Fronts.{orderly_front, plain_front}
use Rattle.ec_law_calls.proofs.Gfids.{first_gfid, goes_on}

some_is : {X : Type 0} (x y : X) → Some x ≡ Some y → x ≡ y
some_is x y e = cc

-- ## What has come of a log

come_net : (geometry : Geometry) (es : List Entry) (p : Come) → (come geometry es p).net ≡ run es p.net
come_net geometry [] p = refl
come_net geometry (e ∷ es) p = come_net geometry es (come_after geometry p e)

come_books : (geometry : Geometry) (es : List Entry) (p : Come) → (come geometry es p).books ≡ books geometry nothing_left es p.net p.story p.books
come_books geometry [] p = refl
come_books geometry (e ∷ es) p = come_books geometry es (come_after geometry p e)

module _ (stands : Ctx → Given → AnyCall → List Own → Type 0) (by_table : Ctx → Given → List Own → Type 0) (laws : CallLaws stands) where
  -- ## The calls of the clients

  -- a call stands for its own entries, in whatever slot it is or was
  pub record IsOfCall (l : Ledger) (a : ℕ) (given : Given) : Type 0 where
    pub x : Ctx
    pub call : AnyCall
    pub meets : stands x given call (l.own a)

  module _ (c : Clients AnyCall) (said : ℕ → Option Message) (l : Ledger) (h : OfClients stands by_table c None said l) where
    made_call : (a : ℕ) (asker : Asker) → l.asker a ≡ Some asker → (child : ℕ) × (l.given a ≡ Some (begun_with c.options asker.op child)) × IsOfCall l a (begun_with c.options asker.op child)
    made_call a asker e = at (l.answered a) refl
      where
        no_one : None ≡ Some a → ⊥
        no_one z = cc

        at : (t : Bool) → l.answered a ≡ t → (child : ℕ) × (l.given a ≡ Some (begun_with c.options asker.op child)) × IsOfCall l a (begun_with c.options asker.op child)
        at true t = let ended = h.slots.ended a asker e t in (ended.child, ended.begun, record { x = Rattle.ec_clients.specs.Calls.ctx_of c.options a asker.client ended.child; call = ended.call; meets = ended.stood })
        at false t =
            let slot = h.slots.unanswered a asker e t no_one in
            let runs = (h.slots.runs asker.client slot.0 slot.1).0 in
            let same : runs.asker ≡ asker = some_is runs.asker asker (sym runs.made ∙ (ap l.asker slot.2 ∙ e)) in
            let ops : begun_with c.options runs.asker.op runs.child ≡ begun_with c.options asker.op runs.child = ap (λ (z : Asker). begun_with c.options z.op runs.child) same in
            let call : IsOfCall l slot.0.number (begun_with c.options runs.asker.op runs.child) = record { x = Rattle.ec_clients.specs.Calls.ctx_of c.options slot.0.number asker.client runs.child; call = slot.0.call; meets = runs.meets } in (
              runs.child,
              ap l.given (sym slot.2) ∙ (runs.begun ∙ ap (λ (z : Given). Some z) ops),
              subst (λ (z : Given). IsOfCall l a z) ops (subst (λ (z : ℕ). IsOfCall l z (begun_with c.options runs.asker.op runs.child)) slot.2 call),
            )

    made_of : (a : ℕ) (o : Option Asker) → l.asker a ≡ o → is_some o ≡ true → (asker : Asker) × (l.asker a ≡ Some asker)
    made_of a None e t = absurd (cc)
    made_of a (Some asker) e t = (asker, e)

    -- its call stands for the own entries of each that began
    begun_call : (a : ℕ) (given : Given) → l.given a ≡ Some given → IsOfCall l a given
    begun_call a given e =
        let made = made_of a (l.asker a) refl (h.calls.given a given e) in
        let call = made_call a made.0 made.1 in
        subst (λ (z : Given). IsOfCall l a z) (some_is (begun_with c.options made.0.op call.0) given (sym call.1 ∙ e)) call.2

    pub conduct : (a : ℕ) (given : Given) → l.given a ≡ Some given → Keeps given (l.own a)
    conduct a given e =
        let made = made_of a (l.asker a) refl (h.calls.given a given e) in
        let is = h.calls.made a made.0 made.1 in
        subst (λ (z : Given). Keeps z (l.own a)) (some_is (begun_with c.options made.0.op is.child) given (sym is.begun ∙ e)) is.conduct

    pub order : (a : ℕ) (given : Given) → l.given a ≡ Some given → KeepsOrder given (l.own a)
    order a given e = let k = begun_call a given e in laws.in_order k.x given k.call (l.own a) k.meets

    pub plain : PlainCallers l.asker
    plain a asker e = let k = made_call a asker e in laws.plain k.2.x (begun_with c.options asker.op k.0) k.2.call (l.own a) k.2.meets

  -- ## The log of a world

  same_first : (x y n z : ℕ) → x + n ≡ z → y + n ≡ z → x ≡ y
  same_first x y n z e f = omega (arith, e, f)

  -- by which gfid the log begins is told
  logged_sees : (config : Config) (bricks : ℕ → Brick) (tree : Tree) (next : ℕ) (s : Cluster) (c : Clients AnyCall) → IsLogged stands by_table config bricks tree next s c → Sees stands by_table s c (come config.geometry (log_of s) (beginning bricks tree next))
  logged_sees config bricks tree next s c h =
      let first : h.first ≡ next = same_first h.first next (taken (log_of s)) c.next_gfid (first_gfid stands by_table c.options.geometry bricks tree h.first s c h.sees) h.next_gfid in
      subst (λ (z : Geometry). Sees stands by_table s c (come z (log_of s) (beginning bricks tree next))) h.geometry (subst (λ (n : ℕ). Sees stands by_table s c (come c.options.geometry (log_of s) (beginning bricks tree n))) first h.sees)

  logged_in_order : (config : Config) (bricks : ℕ → Brick) (tree : Tree) (next : ℕ) (s : Cluster) (c : Clients AnyCall) → IsLogged stands by_table config bricks tree next s c → IsInOrder config bricks tree next (log_of s)
  logged_in_order config bricks tree next s c h =
      let p = come config.geometry (log_of s) (beginning bricks tree next) in
      let clients = (logged_sees config bricks tree next s c h).seen.clients in
      let of = come_books config.geometry (log_of s) (beginning bricks tree next) in
      record {
        is_run = h.is_run;
        plain = plain_log config.geometry.n (log_of s) (fresh bricks) h.is_run (subst (λ (m : Net). PlainCallers m.asker) (come_net config.geometry (log_of s) (beginning bricks tree next)) (plain c (said_in (log_of s)) (ledger p) clients));
        orderly = record {
          left = nothing_left;
          none_kept = λ a. refl;
          conduct = λ a given e. subst (λ (b : Books). Keeps given (b.own a)) of (conduct c (said_in (log_of s)) (ledger p) clients a given (ap (λ (b : Books). b.given a) of ∙ e));
          order = λ a given e. subst (λ (b : Books). KeepsOrder given (b.own a)) of (order c (said_in (log_of s)) (ledger p) clients a given (ap (λ (b : Books). b.given a) of ∙ e));
        };
      }

  -- and the log up to any moment
  front_in_order : (config : Config) (bricks : ℕ → Brick) (tree : Tree) (next : ℕ) (s : Cluster) (c : Clients AnyCall) → IsLogged stands by_table config bricks tree next s c
      → (es rest : List Entry) → log_of s ≡ es ++ rest → IsInOrder config bricks tree next es
  front_in_order config bricks tree next s c h es rest parts =
      let w : IsInOrder config bricks tree next (es ++ rest) = subst (IsInOrder config bricks tree next) parts (logged_in_order config bricks tree next s c h) in
      record {
        is_run = front config.geometry.n es rest (fresh bricks) w.is_run;
        plain = plain_front es rest w.plain;
        orderly = orderly_front config.geometry es rest (fresh bricks) (opening tree next) w.is_run w.orderly;
      }

  in_world : (law : ℕ → ℕ → State → Type 0) → AfterEveryOrderlyLog law → InEveryWorld stands by_table law
  in_world law holds config records bricks tree next g call s c start h es rest parts =
      let w = front_in_order config bricks tree next s c h es rest parts in
      holds config records bricks tree next g call es start w.is_run w.plain w.orderly

  pub world_laws : WorldLaws stands by_table
  world_laws = record {
    in_order = front_in_order;
    first_gfid = first_gfid stands by_table;
    goes_on = goes_on stands by_table;
    no_two_alike = in_world Rattle.ec_law_quorum.specs.Laws.NoTwoAlike orderly_laws.no_two_alike;
    above_others = in_world Rattle.ec_law_quorum.specs.Laws.AboveOthers orderly_laws.above_others;
  }
