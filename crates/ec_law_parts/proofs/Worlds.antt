-- In the log of a world the PostOps of a call on a gfid are of one turn, so its records agree at the version of the flat file.
use Rattle.std.proofs.Common.{◌≡◌, ℕ, ◌+◌, arith, Bool, true, false, refl, sym, ◌∙◌, ap, subst, List, [], ◌∷◌, Option, Some, None}
use Rattle.std.specs.Prelude.{is_some}
use Rattle.ec_attr.specs.declared.config.Config.{Config}
use Rattle.ec_attr.specs.declared.geometry.Geometry.{Geometry}
use Rattle.ec_brick.specs.State.{State as Brick}
use Rattle.ec_calls.specs.declared.any.AnyCall.{AnyCall}
use Rattle.ec_clients.specs.Beginning.{beginning}
use Rattle.ec_clients.specs.Calls.{OfClients, begun_with, ctx_of}
use Rattle.ec_clients.specs.Come.{Come, come, come_after, nothing_left}
use Rattle.ec_clients.specs.Ledger.{Ledger, ledger}
use Rattle.ec_clients.specs.Owned.{Sees}
use Rattle.ec_clients.specs.declared.clients.Clients.{Clients}
use Rattle.ec_cluster.specs.Said.{said_in}
use Rattle.ec_cluster.specs.Views.{log_of}
use Rattle.ec_cluster.specs.declared.cluster.Cluster.{Cluster}
use Rattle.ec_conduct.specs.Done.{is_lock}
use Rattle.ec_conduct.specs.Given.{Given}
use Rattle.ec_conduct.specs.Own.{Own}
use Rattle.ec_history.specs.Accounts.{Books, books, no_books}
use Rattle.ec_history.specs.Flat.{Tree}
use Rattle.ec_history.specs.Run.{Asker, Net, fresh, run}
use Rattle.ec_history.specs.Story.{opening}
use Rattle.ec_txn.specs.declared.ctx.Ctx.{Ctx}
use Rattle.ec_wire.specs.declared.entry.Entry.{Entry}
use Rattle.ec_wire.specs.declared.message.Message.{Message}
use Rattle.ec_law_calls.specs.World.{IsLogged, WorldLaws, taken}
use Rattle.ec_law_calls.proofs.Gfids.{first_gfid}
use Rattle.ec_law_data.specs.Laws.{FlatLaws, begun}
use Rattle.ec_law_data.specs.Versions.{PostsInOneTurn}
use Rattle.ec_law_turns.specs.Laws.{Always}
use Rattle.ec_law_parts.specs.LeavesOff.{DataBeforePosts, LeavesOff, puts_data}
use Rattle.ec_law_parts.specs.Laws.{AgreesAtFlatFile, AlwaysInOneTurn, CallPartLaws, HasFlatVersion, InEveryWorldsLog, WorldDataLaws, WorldFlatLaws}
use Rattle.ec_law_parts.proofs.DataFirst.{always_first}
use Rattle.ec_law_parts.proofs.OneTurn.{always_front, always_one}

some_is : {X : Type 0} (x y : X) → Some x ≡ Some y → x ≡ y
some_is x y e = cc

none_is : {X : Type 0} (x : X) → None ≡ Some x → ⊥
none_is x e = cc

-- ## What has come of a log

come_net : (geometry : Geometry) (es : List Entry) (p : Come) → (come geometry es p).net ≡ run es p.net
come_net geometry [] p = refl
come_net geometry (e ∷ es) p = come_net geometry es (come_after geometry p e)

come_books : (geometry : Geometry) (es : List Entry) (p : Come) → (come geometry es p).books ≡ books geometry nothing_left es p.net p.story p.books
come_books geometry [] p = refl
come_books geometry (e ∷ es) p = come_books geometry es (come_after geometry p e)

module _ (stands : Ctx → Given → AnyCall → List Own → Type 0) (by_table : Ctx → Given → List Own → Type 0) where
  -- ## The calls of the clients

  -- a call stands for its own entries, in whatever slot it is or was
  pub record IsOfCall (l : Ledger) (a : ℕ) (given : Given) : Type 0 where
    pub x : Ctx
    pub call : AnyCall
    pub meets : stands x given call (l.own a)

  module _ (c : Clients AnyCall) (said : ℕ → Option Message) (l : Ledger) (h : OfClients stands by_table c None said l) where
    made_call : (a : ℕ) (asker : Asker) → l.asker a ≡ Some asker → (child : ℕ) × IsOfCall l a (begun_with c.options asker.op child)
    made_call a asker e = at (l.answered a) refl
      where
        no_one : None ≡ Some a → ⊥
        no_one z = cc

        at : (t : Bool) → l.answered a ≡ t → (child : ℕ) × IsOfCall l a (begun_with c.options asker.op child)
        at true t = let ended = h.slots.ended a asker e t in (ended.child, record { x = ctx_of c.options a asker.client ended.child; call = ended.call; meets = ended.stood })
        at false t =
            let slot = h.slots.unanswered a asker e t no_one in
            let runs = (h.slots.runs asker.client slot.0 slot.1).0 in
            let same : runs.asker ≡ asker = some_is runs.asker asker (sym runs.made ∙ (ap l.asker slot.2 ∙ e)) in
            let ops : begun_with c.options runs.asker.op runs.child ≡ begun_with c.options asker.op runs.child = ap (λ (z : Asker). begun_with c.options z.op runs.child) same in
            let call : IsOfCall l slot.0.number (begun_with c.options runs.asker.op runs.child) = record { x = ctx_of c.options slot.0.number asker.client runs.child; call = slot.0.call; meets = runs.meets } in
            (runs.child, subst (λ (z : Given). IsOfCall l a z) ops (subst (λ (z : ℕ). IsOfCall l z (begun_with c.options runs.asker.op runs.child)) slot.2 call))

    -- each call that was made stands for its own entries
    pub of_call : (a : ℕ) → is_some (l.asker a) ≡ true → (given : Given) × IsOfCall l a given
    of_call a is = at (l.asker a) refl is
      where
        at : (o : Option Asker) → l.asker a ≡ o → is_some o ≡ true → (given : Given) × IsOfCall l a given
        at None e t = absurd (cc)
        at (Some asker) e t = let k = made_call a asker e in (begun_with c.options asker.op k.0, k.1)

  -- ## The log of a world

  same_first : (x y n z : ℕ) → x + n ≡ z → y + n ≡ z → x ≡ y
  same_first x y n z e f = omega (arith, e, f)

  -- by which gfid the log begins is told
  pub logged_sees : (config : Config) (bricks : ℕ → Brick) (tree : Tree) (next : ℕ) (s : Cluster) (c : Clients AnyCall) → IsLogged stands by_table config bricks tree next s c → Sees stands by_table s c (come config.geometry (log_of s) (beginning bricks tree next))
  logged_sees config bricks tree next s c h =
      let first : h.first ≡ next = same_first h.first next (taken (log_of s)) c.next_gfid (first_gfid stands by_table c.options.geometry bricks tree h.first s c h.sees) h.next_gfid in
      subst (λ (z : Geometry). Sees stands by_table s c (come z (log_of s) (beginning bricks tree next))) h.geometry (subst (λ (n : ℕ). Sees stands by_table s c (come c.options.geometry (log_of s) (beginning bricks tree n))) first h.sees)

  -- a law of the own entries of each call that was made
  pub of_calls : (law : List Own → Type 0) → ((x : Ctx) (given : Given) (call : AnyCall) (es : List Own) → stands x given call es → law es)
      → (config : Config) (bricks : ℕ → Brick) (tree : Tree) (next : ℕ) (s : Cluster) (c : Clients AnyCall) → IsLogged stands by_table config bricks tree next s c
      → (a : ℕ) → is_some ((run (log_of s) (fresh bricks)).asker a) ≡ true → law ((books config.geometry nothing_left (log_of s) (fresh bricks) (opening tree next) no_books).own a)
  of_calls law holds config bricks tree next s c h a made =
      let p = come config.geometry (log_of s) (beginning bricks tree next) in
      let clients = (logged_sees config bricks tree next s c h).seen.clients in
      let k = of_call c (said_in (log_of s)) (ledger p) clients a (ap (λ (m : Net). is_some (m.asker a)) (come_net config.geometry (log_of s) (beginning bricks tree next)) ∙ made) in
      subst (λ (b : Books). law (b.own a)) (come_books config.geometry (log_of s) (beginning bricks tree next)) (holds k.1.x k.0 k.1.call ((ledger p).own a) k.1.meets)

  module _ (calls : CallPartLaws stands) (laws : WorldLaws stands by_table) (flat : FlatLaws) where
    one_turn : InEveryWorldsLog stands by_table AlwaysInOneTurn
    one_turn config records bricks tree next g s c start logged es rest parts =
        always_front (PostsInOneTurn g) g es rest (fresh bricks) (begun config records tree next g)
        (subst (λ (xs : List Entry). Always (PostsInOneTurn g) g xs (fresh bricks) (begun config records tree next g)) parts
        (always_one config.geometry nothing_left g (log_of s) (fresh bricks) (begun config records tree next g) (opening tree next) no_books logged.is_run (of_calls (LeavesOff is_lock) calls.no_asks config bricks tree next s c logged) (record {
          turn_is = λ i x q is body on. absurd (none_is x is);
          own_is = λ i x q is body on. absurd (none_is x is);
        })))

    same_version : InEveryWorldsLog stands by_table HasFlatVersion
    same_version config records bricks tree next g s c start logged es rest parts =
        let w = laws.in_order config bricks tree next s c logged es rest parts in
        flat.same_version config records bricks tree next g es start w.is_run w.plain w.orderly (one_turn config records bricks tree next g s c start logged es rest parts)

    agree : InEveryWorldsLog stands by_table AgreesAtFlatFile
    agree config records bricks tree next g s c start logged es rest parts =
        let w = laws.in_order config bricks tree next s c logged es rest parts in
        flat.agree config records bricks tree next g es start w.is_run w.plain w.orderly (one_turn config records bricks tree next g s c start logged es rest parts)

    pub flat_laws : WorldFlatLaws stands by_table
    flat_laws = record { one_turn = one_turn; same_version = same_version; agree = agree }

  -- each request that changes data was sent before the PostOps of its call
  pub data_laws : CallPartLaws stands → WorldDataLaws stands by_table
  data_laws calls = record {
    data_first = λ config records bricks tree next g s c start logged es rest parts.
        always_front DataBeforePosts g es rest (fresh bricks) (begun config records tree next g)
        (subst (λ (xs : List Entry). Always DataBeforePosts g xs (fresh bricks) (begun config records tree next g)) parts
        (always_first config.geometry nothing_left g (log_of s) (fresh bricks) (begun config records tree next g) (opening tree next) no_books logged.is_run (of_calls (LeavesOff puts_data) calls.no_data config bricks tree next s c logged) (record {
          below = λ i x is. absurd (none_is x is);
          own_is = λ i x q is body on. absurd (none_is x is);
          in_turn = λ i j x y q r is its body its_body puts posts call. absurd (none_is x is);
        })));
  }
