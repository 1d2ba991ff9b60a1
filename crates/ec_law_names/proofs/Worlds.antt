-- What the bricks of every world hold of a directory.
use Rattle.std.proofs.Common.{◌≡◌, ℕ, ◌+◌, ◌<◌, arith, refl, sym, ◌∙◌, ap, subst, List, [], ◌∷◌, ◌++◌, Some}
use Rattle.ec_attr.specs.declared.config.Config.{Config}
use Rattle.ec_attr.specs.declared.geometry.Geometry.{Geometry}
use Rattle.ec_attr.specs.declared.kind.Kind.TheVariants.{Dir}
use Rattle.ec_brick.specs.State.{State as Brick}
use Rattle.ec_calls.specs.declared.any.AnyCall.{AnyCall}
use Rattle.ec_clients.specs.Beginning.{beginning}
use Rattle.ec_clients.specs.Come.{Come, come, come_after, nothing_left}
use Rattle.ec_clients.specs.Ledger.{ledger}
use Rattle.ec_clients.specs.declared.clients.Clients.{Clients}
use Rattle.ec_cluster.specs.Said.{said_in}
use Rattle.ec_cluster.specs.Views.{log_of}
use Rattle.ec_cluster.specs.declared.cluster.Cluster.{Cluster}
use Rattle.ec_conduct.specs.Conduct.{Keeps}
use Rattle.ec_conduct.specs.Given.{Given, quorum}
use Rattle.ec_conduct.specs.Own.{Own}
use Rattle.ec_history.specs.Accounts.{Books, books, no_books}
use Rattle.ec_history.specs.Flat.{Tree}
use Rattle.ec_history.specs.Run.{fresh, run}
use Rattle.ec_history.specs.Starts.{IsStart}
use Rattle.ec_history.specs.Story.{opening}
use Rattle.ec_store.specs.Records.{Records}
use Rattle.ec_txn.specs.declared.ctx.Ctx.{Ctx}
use Rattle.ec_wire.specs.declared.entry.Entry.{Entry}
use Rattle.ec_law_turns.specs.Orderly.{ArePlain, KeepsOrder}
use Rattle.ec_law_turns.proofs.Origins.{unversioned}
use Rattle.ec_law_turns.proofs.Basics.{some_none}
use Rattle.ec_law_calls.specs.Laws.{CallLaws}
use Rattle.ec_law_calls.specs.World.{IsLogged, WorldLaws}
use Rattle.ec_law_calls.proofs.Worlds.{conduct, order}
use Rattle.ec_law_data.specs.Forms.{of_directory}
use Rattle.ec_law_data.specs.Laws.{begun, directory_begun}
use Rattle.ec_law_data.specs.Link.{IsWhole}
use Rattle.ec_law_data.proofs.Reaching.{reaches_start}
use Rattle.ec_law_parts.specs.Laws.{WorldFlatLaws}
use Rattle.ec_law_parts.proofs.Worlds.{logged_sees}
use Rattle.ec_law_heads.specs.Worlds.{WorldHeadLaws}
use Rattle.ec_law_heads.specs.Laws.{flat_after}
use Rattle.ec_law_flats.specs.Laws.{FlatNameLaws, HoldNames}
use Rattle.ec_law_flats.specs.Plans.{AllPlans, NamePlan}
use Rattle.ec_law_plans.specs.Given.{EachRequest, ShapeLaw, WriteLaws}
use Rattle.ec_law_plans.specs.Named.{AreNamed}
use Rattle.ec_law_plans.specs.Naming.{PlansAreHistory}
use Rattle.ec_law_plans.specs.Worlds.{NameLaws}
use Rattle.ec_law_plans.proofs.Fronts.{orderly_at}
use Rattle.ec_law_names.specs.Built.{CallBuiltLaws}
use Rattle.ec_law_names.specs.Laws.{WorldNameLaws}
use Rattle.ec_law_names.proofs.Built.{are_built}
use Rattle.ec_law_names.proofs.Making.{made_directory}
use Rattle.ec_law_names.proofs.Plans.{all_plans}

come_books : (geometry : Geometry) (es : List Entry) (p : Come) → (come geometry es p).books ≡ books geometry nothing_left es p.net p.story p.books
come_books geometry [] p = refl
come_books geometry (e ∷ es) p = come_books geometry es (come_after geometry p e)

append_none : (xs : List Entry) → xs ++ [] ≡ xs
append_none [] = refl
append_none (x ∷ xs) = ap (λ (ys : List Entry). x ∷ ys) (append_none xs)

module _ (stands : Ctx → Given → AnyCall → List Own → Type 0) (by_table : Ctx → Given → List Own → Type 0) (calls : CallLaws stands) (laws : WorldLaws stands by_table) where
  -- each front of the log is in order where no call leaves anything
  orderly_there : (config : Config) (records : ℕ → Records) (bricks : ℕ → Brick) (tree : Tree) (next : ℕ) (s : Cluster) (c : Clients AnyCall) → IsStart config records bricks tree next → (logged : IsLogged stands by_table config bricks tree next s c) → (es rest : List Entry) → log_of s ≡ es ++ rest
      → ((a : ℕ) (given : Given) → (books config.geometry nothing_left es (fresh bricks) (opening tree next) no_books).given a ≡ Some given → Keeps given ((books config.geometry nothing_left es (fresh bricks) (opening tree next) no_books).own a) × KeepsOrder given ((books config.geometry nothing_left es (fresh bricks) (opening tree next) no_books).own a))
  orderly_there config records bricks tree next s c start logged es rest parts a given is =
      let o = orderly_at config records bricks tree next start nothing_left (λ a. refl) (log_of s) logged.is_run plain_all es rest parts keeps_all order_all in
      (o.conduct a given is, o.order a given is)
    where
      p : Come
      p = come config.geometry (log_of s) (beginning bricks tree next)

      books_of : List Entry → Books
      books_of es = books config.geometry nothing_left es (fresh bricks) (opening tree next) no_books

      are_books : p.books ≡ books_of (log_of s)
      are_books = come_books config.geometry (log_of s) (beginning bricks tree next)

      plain_all : ArePlain (log_of s)
      plain_all = (laws.in_order config bricks tree next s c logged (log_of s) [] (sym (append_none (log_of s)))).plain

      keeps_all : (a : ℕ) (given : Given) → (books_of (log_of s)).given a ≡ Some given → Keeps given ((books_of (log_of s)).own a)
      keeps_all a given e = subst (λ (b : Books). Keeps given (b.own a)) are_books (conduct stands by_table calls c (said_in (log_of s)) (ledger p) (logged_sees stands by_table config bricks tree next s c logged).seen.clients a given (ap (λ (b : Books). b.given a) are_books ∙ e))

      order_all : (a : ℕ) (given : Given) → (books_of (log_of s)).given a ≡ Some given → KeepsOrder given ((books_of (log_of s)).own a)
      order_all a given e = subst (λ (b : Books). KeepsOrder given (b.own a)) are_books (order stands by_table calls c (said_in (log_of s)) (ledger p) (logged_sees stands by_table config bricks tree next s c logged).seen.clients a given (ap (λ (b : Books). b.given a) are_books ∙ e))

  module _ (built : CallBuiltLaws stands) (flat : WorldFlatLaws stands by_table) (heads : WorldHeadLaws stands by_table) (names : NameLaws stands by_table) (flats : FlatNameLaws) (history : PlansAreHistory) (writes : WriteLaws) (shapes : ShapeLaw) where
    module _ (config : Config) (records : ℕ → Records) (bricks : ℕ → Brick) (tree : Tree) (next g : ℕ) (s : Cluster) (c : Clients AnyCall) (start : IsStart config records bricks tree next) (logged : IsLogged stands by_table config bricks tree next s c) (es rest : List Entry) (parts : log_of s ≡ es ++ rest) (dir : (flat_after config es bricks tree next g).kind ≡ Some Dir) where
      most : config.geometry.n < quorum config.geometry + quorum config.geometry
      most = let h = config.geometry.majority in omega (arith, h)

      named : AreNamed config records bricks tree next g nothing_left es
      named =
          let w = laws.in_order config bricks tree next s c logged es rest parts in
          names.named writes shapes config records bricks tree next g s c start logged es rest parts
          (made_directory config records bricks tree next g es start w.is_run w.plain w.orderly (heads.one_kind config records bricks tree next g s c start logged es rest parts) dir)

      fit : AllPlans of_directory (NamePlan (quorum config.geometry) g) named.plans config.geometry g es (fresh bricks) (begun config records tree next g) (opening tree next) (directory_begun config records tree g)
      fit =
          let w = laws.in_order config bricks tree next s c logged es rest parts in
          all_plans history named.plans config.geometry nothing_left (λ a. refl) next (λ h. (tree h).version) (λ h le. unversioned config records bricks tree next h start le) g es (fresh bricks) (λ h. begun config records tree next h) (opening tree next) no_books (directory_begun config records tree g)
          w.is_run w.plain (are_built stands by_table built flats config bricks tree next s c logged es rest parts)
          (orderly_there config records bricks tree next s c start logged es rest parts)
          (reaches_start config records bricks tree next (λ a. a) most start)
          (λ c. refl) (λ a given is. absurd (some_none given (sym is))) named.have

      held : HoldNames config.geometry.n g (run es (fresh bricks)) (flat_after config es bricks tree next g)
      held =
          let w = laws.in_order config bricks tree next s c logged es rest parts in
          flats.held named.plans config records bricks tree next g es start w.is_run w.plain (are_built stands by_table built flats config bricks tree next s c logged es rest parts) w.orderly
          (flat.one_turn config records bricks tree next g s c start logged es rest parts) fit named.held

    pub world_names : WorldNameLaws stands by_table
    world_names = record { held = held }
