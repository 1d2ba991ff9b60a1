-- The stripes that the bricks hold, in the log of a world.
use Rattle.std.proofs.Common.{◌≡◌, ℕ, ◌+◌, ◌<◌, ◌≤◌, arith, refl, sym, ◌∙◌, ap, subst, List, [], ◌∷◌, ◌++◌, Some, None}
use Rattle.ec_attr.specs.declared.config.Config.{Config}
use Rattle.ec_attr.specs.declared.geometry.Geometry.{Geometry}
use Rattle.ec_brick.specs.State.{State as Brick}
use Rattle.ec_calls.specs.declared.any.AnyCall.{AnyCall}
use Rattle.ec_clients.specs.Beginning.{beginning}
use Rattle.ec_clients.specs.Calls.{OfClients}
use Rattle.ec_clients.specs.Come.{Come, come, come_after, nothing_left}
use Rattle.ec_clients.specs.Ledger.{ledger}
use Rattle.ec_clients.specs.declared.clients.Clients.{Clients}
use Rattle.ec_cluster.specs.Said.{said_in}
use Rattle.ec_cluster.specs.Views.{log_of}
use Rattle.ec_cluster.specs.declared.cluster.Cluster.{Cluster}
use Rattle.ec_conduct.specs.Conduct.{Keeps}
use Rattle.ec_conduct.specs.Done.{is_lock}
use Rattle.ec_conduct.specs.Given.{Given, quorum}
use Rattle.ec_conduct.specs.Own.{Own}
use Rattle.ec_history.specs.Accounts.{Books, books, no_books}
use Rattle.ec_history.specs.Flat.{Tree}
use Rattle.ec_history.specs.IsRun.{IsRun}
use Rattle.ec_history.specs.Run.{fresh, run}
use Rattle.ec_history.specs.Starts.{IsStart}
use Rattle.ec_history.specs.Story.{opening}
use Rattle.ec_store.specs.Records.{Records}
use Rattle.ec_txn.specs.declared.ctx.Ctx.{Ctx}
use Rattle.ec_wire.specs.declared.entry.Entry.{Entry}
use Rattle.ec_wire.specs.declared.message.Message.{Message}
use Rattle.ec_law_calls.specs.Laws.{CallLaws}
use Rattle.ec_law_calls.specs.World.{IsLogged, WorldLaws}
use Rattle.ec_law_calls.proofs.Worlds.{conduct, order}
use Rattle.ec_law_data.specs.Laws.{begun}
use Rattle.ec_law_data.proofs.OrderlyDeeds.{all_reach}
use Rattle.ec_law_data.proofs.Reaching.{reaches_start}
use Rattle.ec_law_files.specs.Laws.{WorldStripeLaws}
use Rattle.ec_law_flats.specs.Stripes.{DataInOneTurn}
use Rattle.ec_law_heads.specs.Worlds.{WorldHeadLaws}
use Rattle.ec_law_net.specs.Turns.{view}
use Rattle.ec_law_parts.specs.Laws.{InEveryWorldsLog, WorldDataLaws}
use Rattle.ec_law_parts.proofs.OneTurn.{always_front}
use Rattle.ec_law_parts.proofs.Worlds.{logged_sees, of_calls}
use Rattle.ec_law_plans.proofs.Fronts.{orderly_at}
use Rattle.ec_law_turns.specs.Laws.{Always}
use Rattle.ec_law_turns.specs.Orderly.{ArePlain, IsOrderly, KeepsOrder}
use Rattle.ec_law_turns.proofs.Basics.{some_none}
use Rattle.ec_law_turns.proofs.Origins.{unversioned}
use Rattle.ec_law_stripes.specs.Built.{CallBuiltLaws}
use Rattle.ec_law_stripes.specs.Finals.{AsksOff, CallFinalLaws}
use Rattle.ec_law_stripes.specs.HeldStripes.{AlwaysDataInOneTurn, HeldInEveryLog, StripesAreHeld, WorldHeldLaws}
use Rattle.ec_law_stripes.proofs.BuiltCalls.{built_calls}
use Rattle.ec_law_stripes.proofs.FinalTurns.{LeaveOff, Posted, always_one, posted_at}
use Rattle.ec_law_stripes.proofs.LogParts.{append_none}
use Rattle.ec_law_stripes.proofs.MadeFiles.{made_file}
use Rattle.ec_law_stripes.proofs.SomeWrites.{write_some}

come_books : (geometry : Geometry) (es : List Entry) (p : Come) → (come geometry es p).books ≡ books geometry nothing_left es p.net p.story p.books
come_books geometry [] p = refl
come_books geometry (e ∷ es) p = come_books geometry es (come_after geometry p e)

module _ (stands : Ctx → Given → AnyCall → List Own → Type 0) (by_table : Ctx → Given → List Own → Type 0) (calls : CallLaws stands) (finals : CallFinalLaws stands) (built : CallBuiltLaws stands) where
  one_turn : InEveryWorldsLog stands by_table AlwaysDataInOneTurn
  one_turn config records bricks tree next g s c start logged es rest parts =
      always_front (DataInOneTurn g) g es rest (fresh bricks) (begun config records tree next g)
      (subst (λ (xs : List Entry). Always (DataInOneTurn g) g xs (fresh bricks) (begun config records tree next g)) parts
      (always_one config.geometry nothing_left g (log_of s) (fresh bricks) (begun config records tree next g) (opening tree next) no_books logged.is_run (of_calls stands by_table (AsksOff is_lock) finals.no_asks config bricks tree next s c logged) (record {
        turn_is = λ i x q is body on. absurd (some_none x (sym is));
        own_is = λ i x q is body on. absurd (some_none x (sym is));
      })))

  module _ (laws : WorldLaws stands by_table) (data_laws : WorldDataLaws stands by_table) (makes : WorldStripeLaws stands by_table) (heads : WorldHeadLaws stands by_table) (held : HeldInEveryLog) (config : Config) (records : ℕ → Records) (bricks : ℕ → Brick) (tree : Tree) (next : ℕ) (s : Cluster) (c : Clients AnyCall) (start : IsStart config records bricks tree next) (logged : IsLogged stands by_table config bricks tree next s c) where
    abbrev p : Come
    p = come config.geometry (log_of s) (beginning bricks tree next)

    abbrev books_of : List Entry → Books
    books_of es = books config.geometry nothing_left es (fresh bricks) (opening tree next) no_books

    clients : OfClients stands by_table c None (said_in (log_of s)) (ledger p)
    clients = (logged_sees stands by_table config bricks tree next s c logged).seen.clients

    are_books : p.books ≡ books_of (log_of s)
    are_books = come_books config.geometry (log_of s) (beginning bricks tree next)

    keeps_all : (a : ℕ) (given : Given) → (books_of (log_of s)).given a ≡ Some given → Keeps given ((books_of (log_of s)).own a)
    keeps_all a given e = subst (λ (b : Books). Keeps given (b.own a)) are_books (conduct stands by_table calls c (said_in (log_of s)) (ledger p) clients a given (ap (λ (b : Books). b.given a) are_books ∙ e))

    order_all : (a : ℕ) (given : Given) → (books_of (log_of s)).given a ≡ Some given → KeepsOrder given ((books_of (log_of s)).own a)
    order_all a given e = subst (λ (b : Books). KeepsOrder given (b.own a)) are_books (order stands by_table calls c (said_in (log_of s)) (ledger p) clients a given (ap (λ (b : Books). b.given a) are_books ∙ e))

    plain_all : ArePlain (log_of s)
    plain_all = (laws.in_order config bricks tree next s c logged (log_of s) [] (sym (append_none (log_of s)))).plain

    module _ (g : ℕ) (es rest : List Entry) (parts : log_of s ≡ es ++ rest) where
      runs : IsRun config.geometry.n es (fresh bricks)
      runs = (laws.in_order config bricks tree next s c logged es rest parts).is_run

      plain : ArePlain es
      plain = (laws.in_order config bricks tree next s c logged es rest parts).plain

      abbrev orderly : IsOrderly config.geometry es (fresh bricks) (opening tree next)
      orderly = orderly_at config records bricks tree next start nothing_left (λ a. refl) (log_of s) logged.is_run plain_all es rest parts keeps_all order_all

      -- each message is of a call that was made
      said_below : (i : ℕ) (x : Message) → (run es (fresh bricks)).said i ≡ Some x → x.call ≤ (run es (fresh bricks)).calls
      said_below =
          ((all_reach config.geometry nothing_left (λ a. refl) next (λ h. (tree h).version) (λ h le. unversioned config records bricks tree next h start le) es (fresh bricks) (λ h. begun config records tree next h) (opening tree next) no_books runs plain (λ a given h. (orderly.conduct a given h, orderly.order a given h)) (reaches_start config records bricks tree next (λ a. a) most start)).reached g).known.numbers.said_below
        where
          most : config.geometry.n < quorum config.geometry + quorum config.geometry
          most = let h = config.geometry.majority in omega (arith, h)

      posted : Posted g (run es (fresh bricks)).said (view g es (fresh bricks) (begun config records tree next g)).turn (view g es (fresh bricks) (begun config records tree next g)).of (books_of es).own
      posted =
          posted_at config.geometry nothing_left g es rest (fresh bricks) (begun config records tree next g) (opening tree next) no_books
          (subst (λ (xs : List Entry). IsRun config.geometry.n xs (fresh bricks)) parts logged.is_run)
          (subst (λ (xs : List Entry). LeaveOff config.geometry nothing_left g xs (fresh bricks) (opening tree next) no_books) parts (of_calls stands by_table (AsksOff is_lock) finals.no_asks config bricks tree next s c logged))
          (record {
            turn_is = λ i x q is body on. absurd (some_none x (sym is));
            own_is = λ i x q is body on. absurd (some_none x (sym is));
          })

      held_there : StripesAreHeld config records bricks tree next g es
      held_there zeros file =
          let o = makes.made config records bricks tree next g s c start logged es rest parts in
          held config records bricks tree next g es start zeros runs plain orderly (λ client. refl)
          (data_laws.data_first config records bricks tree next g s c start logged es rest parts) o.0 o.1
          (made_file config records bricks tree next g es start runs plain orderly (heads.one_kind config records bricks tree next g s c start logged es rest parts) file)
          (built_calls stands by_table built config bricks tree next s c logged es rest parts)
          (write_some stands by_table finals config bricks tree next s c logged g (view g es (fresh bricks) (begun config records tree next g)) es rest parts said_below posted)
          (one_turn config records bricks tree next g s c start logged es rest parts)

  pub world_laws : WorldLaws stands by_table → WorldDataLaws stands by_table → WorldStripeLaws stands by_table → WorldHeadLaws stands by_table → HeldInEveryLog → WorldHeldLaws stands by_table
  world_laws laws data_laws makes heads held = record {
    one_turn = one_turn;
    held = λ config records bricks tree next g s c start logged es rest parts. held_there laws data_laws makes heads held config records bricks tree next s c start logged g es rest parts;
  }
