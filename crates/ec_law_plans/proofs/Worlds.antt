-- The names of directories in the log of a world.
use Rattle.std.proofs.Common.{◌≡◌, ℕ, Bool, true, false, refl, sym, ◌∙◌, ap, subst, List, [], ◌∷◌, ◌++◌, Option, Some, None}
use Rattle.std.specs.Prelude.{is_some}
use Rattle.ec_attr.specs.declared.config.Config.{Config}
use Rattle.ec_attr.specs.declared.geometry.Geometry.{Geometry}
use Rattle.ec_brick.specs.State.{State as Brick}
use Rattle.ec_calls.specs.declared.any.AnyCall.{AnyCall}
use Rattle.ec_clients.specs.Beginning.{beginning}
use Rattle.ec_clients.specs.Calls.{OfClients, begun_with, ctx_of}
use Rattle.ec_clients.specs.Come.{Come, come, come_after, nothing_left}
use Rattle.ec_clients.specs.Ledger.{Ledger, ledger}
use Rattle.ec_clients.specs.declared.clients.Clients.{Clients}
use Rattle.ec_cluster.specs.Said.{said_in}
use Rattle.ec_cluster.specs.Views.{log_of}
use Rattle.ec_cluster.specs.declared.cluster.Cluster.{Cluster}
use Rattle.ec_conduct.specs.Conduct.{Keeps}
use Rattle.ec_conduct.specs.Given.{Given}
use Rattle.ec_conduct.specs.Own.{Own, Sends}
use Rattle.ec_history.specs.Accounts.{Books, books, no_books}
use Rattle.ec_history.specs.Flat.{Tree}
use Rattle.ec_history.specs.Run.{Asker, fresh}
use Rattle.ec_history.specs.Starts.{IsStart}
use Rattle.ec_history.specs.Story.{opening}
use Rattle.ec_store.specs.Records.{Records}
use Rattle.ec_txn.specs.declared.ctx.Ctx.{Ctx}
use Rattle.ec_wire.specs.declared.entry.Entry.{Entry}
use Rattle.ec_wire.specs.declared.message.Message.{Message}
use Rattle.ec_wire.specs.declared.request.Request.{Request}
use Rattle.ec_law_calls.specs.Laws.{CallLaws}
use Rattle.ec_law_calls.specs.World.{IsLogged, WorldLaws}
use Rattle.ec_law_calls.proofs.Worlds.{conduct, order}
use Rattle.ec_law_turns.specs.Orderly.{ArePlain, IsOrderly, KeepsOrder}
use Rattle.ec_law_parts.specs.Laws.{WorldDataLaws}
use Rattle.ec_law_parts.specs.Names.{CallNameLaws, EachSends, SetsItsName}
use Rattle.ec_law_parts.proofs.Worlds.{logged_sees}
use Rattle.ec_law_plans.specs.Given.{ShapeLaw, WriteLaws}
use Rattle.ec_law_plans.specs.Named.{NamedInEveryLog, SetOwnNames}
use Rattle.ec_law_plans.specs.Worlds.{NameLaws, NamesAreHeld}
use Rattle.ec_law_plans.proofs.Fronts.{at_front, orderly_at}

some_is : {X : Type 0} (x y : X) → Some x ≡ Some y → x ≡ y
some_is x y e = cc

-- ## What has come of a log

come_books : (geometry : Geometry) (es : List Entry) (p : Come) → (come geometry es p).books ≡ books geometry nothing_left es p.net p.story p.books
come_books geometry [] p = refl
come_books geometry (e ∷ es) p = come_books geometry es (come_after geometry p e)

each_front : (P : Request → Type 0) (xs ys : List Own) → EachSends P (xs ++ ys) → EachSends P xs
each_front P [] ys h = tt
each_front P (Sends b i r ∷ xs) ys h = (h.0, each_front P xs ys h.1)
each_front P (x ∷ xs) ys h = each_front P xs ys h

append_none : (xs : List Entry) → xs ++ [] ≡ xs
append_none [] = refl
append_none (x ∷ xs) = ap (λ (ys : List Entry). x ∷ ys) (append_none xs)

module _ (stands : Ctx → Given → AnyCall → List Own → Type 0) (by_table : Ctx → Given → List Own → Type 0) (calls : CallLaws stands) (names : CallNameLaws stands) where
  -- ## The calls of the clients

  module _ (c : Clients AnyCall) (said : ℕ → Option Message) (l : Ledger) (h : OfClients stands by_table c None said l) where
    -- each call that was made sets its own names
    made_names : (a : ℕ) (asker : Asker) → l.asker a ≡ Some asker → (given : Given) × (l.given a ≡ Some given) × EachSends (SetsItsName given) (l.own a)
    made_names a asker e = at (l.answered a) refl
      where
        no_one : None ≡ Some a → ⊥
        no_one z = cc

        at : (t : Bool) → l.answered a ≡ t → (given : Given) × (l.given a ≡ Some given) × EachSends (SetsItsName given) (l.own a)
        at true t = let ended = h.slots.ended a asker e t in (begun_with c.options asker.op ended.child, ended.begun, names.names (ctx_of c.options a asker.client ended.child) (begun_with c.options asker.op ended.child) ended.call (l.own a) ended.stood)
        at false t =
            let slot = h.slots.unanswered a asker e t no_one in
            let runs = (h.slots.runs asker.client slot.0 slot.1).0 in
            let given = begun_with c.options runs.asker.op runs.child in (
              given,
              ap l.given (sym slot.2) ∙ runs.begun,
              subst (λ (z : ℕ). EachSends (SetsItsName given) (l.own z)) slot.2 (names.names (ctx_of c.options slot.0.number asker.client runs.child) given slot.0.call (l.own slot.0.number) runs.meets),
            )

    made_of : (a : ℕ) (o : Option Asker) → l.asker a ≡ o → is_some o ≡ true → (asker : Asker) × (l.asker a ≡ Some asker)
    made_of a None e t = absurd (cc)
    made_of a (Some asker) e t = (asker, e)

    own_names : (a : ℕ) (given : Given) → l.given a ≡ Some given → EachSends (SetsItsName given) (l.own a)
    own_names a given e =
        let made = made_of a (l.asker a) refl (h.calls.given a given e) in
        let own = made_names a made.0 made.1 in
        subst (λ (z : Given). EachSends (SetsItsName z) (l.own a)) (some_is own.0 given (sym own.1 ∙ e)) own.2

  -- ## The log of a world

  module _ (laws : WorldLaws stands by_table) (config : Config) (records : ℕ → Records) (bricks : ℕ → Brick) (tree : Tree) (next : ℕ) (s : Cluster) (c : Clients AnyCall) (start : IsStart config records bricks tree next) (logged : IsLogged stands by_table config bricks tree next s c) where
    abbrev p : Come
    p = come config.geometry (log_of s) (beginning bricks tree next)

    abbrev books_of : List Entry → Books
    books_of es = books config.geometry nothing_left es (fresh bricks) (opening tree next) no_books

    clients : OfClients stands by_table c None (said_in (log_of s)) (ledger p)
    clients = (logged_sees stands by_table config bricks tree next s c logged).seen.clients

    are_books : p.books ≡ books_of (log_of s)
    are_books = come_books config.geometry (log_of s) (beginning bricks tree next)

    keeps_all : (a : ℕ) (given : Given) → (books_of (log_of s)).given a ≡ Some given → Keeps given ((books_of (log_of s)).own a)
    keeps_all a given e = subst (λ (b : Books). Keeps given (b.own a)) are_books (conduct stands by_table calls c (said_in (log_of s)) (ledger p) clients a given (ap (λ (b : Books). b.given a) are_books ∙ e))

    order_all : (a : ℕ) (given : Given) → (books_of (log_of s)).given a ≡ Some given → KeepsOrder given ((books_of (log_of s)).own a)
    order_all a given e = subst (λ (b : Books). KeepsOrder given (b.own a)) are_books (order stands by_table calls c (said_in (log_of s)) (ledger p) clients a given (ap (λ (b : Books). b.given a) are_books ∙ e))

    names_all : SetOwnNames (books_of (log_of s))
    names_all a given e = subst (λ (b : Books). EachSends (SetsItsName given) (b.own a)) are_books (own_names c (said_in (log_of s)) (ledger p) clients a given (ap (λ (b : Books). b.given a) are_books ∙ e))

    plain_all : ArePlain (log_of s)
    plain_all = (laws.in_order config bricks tree next s c logged (log_of s) [] (sym (append_none (log_of s)))).plain

    module _ (es rest : List Entry) (parts : log_of s ≡ es ++ rest) where
      abbrev orderly_there : IsOrderly config.geometry es (fresh bricks) (opening tree next)
      orderly_there = orderly_at config records bricks tree next start nothing_left (λ a. refl) (log_of s) logged.is_run plain_all es rest parts keeps_all order_all

      names_there : SetOwnNames (books_of es)
      names_there = at_front config records bricks tree next start nothing_left (λ a. refl) (log_of s) logged.is_run plain_all es rest parts (λ given xs. EachSends (SetsItsName given) xs) (λ given xs ys h. each_front (SetsItsName given) xs ys h) names_all

      named_there : WorldDataLaws stands by_table → NamedInEveryLog → WriteLaws → ShapeLaw → (g : ℕ) → NamesAreHeld config records bricks tree next g es
      named_there data_laws named writes shapes g made =
          let w = laws.in_order config bricks tree next s c logged es rest parts in
          named writes shapes config records bricks tree next g es start w.is_run w.plain orderly_there (data_laws.data_first config records bricks tree next g s c start logged es rest parts) names_there made

  pub name_laws : WorldLaws stands by_table → WorldDataLaws stands by_table → NamedInEveryLog → NameLaws stands by_table
  name_laws laws data_laws named = record {
    own_names = λ config records bricks tree next g s c start logged es rest parts. names_there laws config records bricks tree next s c start logged es rest parts;
    named = λ writes shapes config records bricks tree next g s c start logged es rest parts. named_there laws config records bricks tree next s c start logged es rest parts data_laws named writes shapes g;
  }
