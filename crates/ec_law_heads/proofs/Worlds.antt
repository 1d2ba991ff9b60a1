-- The laws of heads at each moment of the log of a world.
use Rattle.std.proofs.Common.{◌≡◌, ℕ, Bool, true, false, refl, sym, subst, List, ◌++◌, Option, None}
use Rattle.std.specs.Prelude.{is_some}
use Rattle.ec_attr.specs.declared.config.Config.{Config}
use Rattle.ec_attr.specs.declared.kind.Kind.{Kind}
use Rattle.ec_brick.specs.State.{State as Brick}
use Rattle.ec_calls.specs.declared.any.AnyCall.{AnyCall}
use Rattle.ec_clients.specs.Come.{nothing_left}
use Rattle.ec_clients.specs.declared.clients.Clients.{Clients}
use Rattle.ec_cluster.specs.Views.{log_of}
use Rattle.ec_cluster.specs.declared.cluster.Cluster.{Cluster}
use Rattle.ec_conduct.specs.Given.{Given}
use Rattle.ec_conduct.specs.Own.{Own}
use Rattle.ec_history.specs.Accounts.{books, no_books}
use Rattle.ec_history.specs.Flat.{Flat, Tree}
use Rattle.ec_history.specs.Holds.{Copies}
use Rattle.ec_history.specs.Run.{fresh, run}
use Rattle.ec_history.specs.Starts.{IsStart}
use Rattle.ec_history.specs.Story.{opening}
use Rattle.ec_store.specs.Records.{Records}
use Rattle.ec_txn.specs.declared.ctx.Ctx.{Ctx}
use Rattle.ec_wire.specs.declared.entry.Entry.{Entry}
use Rattle.ec_law_calls.specs.World.{IsLogged, WorldLaws}
use Rattle.ec_law_data.specs.Laws.{begun}
use Rattle.ec_law_turns.specs.Laws.{Always}
use Rattle.ec_law_turns.proofs.Basics.{some_none}
use Rattle.ec_law_parts.specs.Laws.{AlwaysInOneTurn, InEveryWorldsLog, WorldFlatLaws}
use Rattle.ec_law_parts.specs.Names.{EachSends}
use Rattle.ec_law_parts.proofs.OneTurn.{always_front}
use Rattle.ec_law_parts.proofs.Worlds.{of_calls}
use Rattle.ec_law_heads.specs.Heads.{AreBounded, AreOfKind, AreOfVolume, ArePromised, HeadsStand, IsBlankUnmade, NoOthersAgree}
use Rattle.ec_law_heads.specs.Laws.{AfterEveryLog, AllOfThese, AlwaysOneKind, Any, BeganOfVolume, HeadLaws, MakesOneKind, copies_after, flat_after}
use Rattle.ec_law_heads.specs.Making.{CallKindLaws, IsOfKind, kind_made}
use Rattle.ec_law_heads.specs.Worlds.{Holds, HoldsInVolume, WorldHeadLaws}
use Rattle.ec_law_heads.proofs.OneKind.{always_kind}

-- the own entries send Makes of one kind
abbrev SendsOneKind : List Own → Type 0
SendsOneKind es = (kind : Option Kind) × EachSends (IsOfKind kind) es

-- the kind of a call that was made
abbrev kind_if : (es : List Own) (u : Bool) → (u ≡ true → SendsOneKind es) → Option Kind
kind_if es true h = (h refl).0
kind_if es false h = None

kind_law : (es : List Own) (u : Bool) (h : u ≡ true → SendsOneKind es) → u ≡ true → EachSends (IsOfKind (kind_if es u h)) es
kind_law es true h e = (h refl).1
kind_law es false h e = absurd (cc)

module _ (stands : Ctx → Given → AnyCall → List Own → Type 0) (by_table : Ctx → Given → List Own → Type 0) (calls : CallKindLaws stands) (laws : WorldLaws stands by_table) (flat : WorldFlatLaws stands by_table) (heads : HeadLaws) where
  one_kind : InEveryWorldsLog stands by_table AlwaysOneKind
  one_kind config records bricks tree next g s c start logged es rest parts =
      always_front (MakesOneKind g) g es rest (fresh bricks) (begun config records tree next g)
      (subst (λ (xs : List Entry). Always (MakesOneKind g) g xs (fresh bricks) (begun config records tree next g)) parts
      (always_kind config.geometry nothing_left g kind (log_of s) (fresh bricks) (begun config records tree next g) (opening tree next) no_books logged.is_run (λ a made. kind_law (own a) (is_some ((run (log_of s) (fresh bricks)).asker a)) (of_call a) made) (record { makes = λ i x d n child is body. absurd (some_none x (sym is)) })))
    where
      own : ℕ → List Own
      own a = (books config.geometry nothing_left (log_of s) (fresh bricks) (opening tree next) no_books).own a

      of_call : (a : ℕ) → is_some ((run (log_of s) (fresh bricks)).asker a) ≡ true → SendsOneKind (own a)
      of_call a made = of_calls stands by_table SendsOneKind (λ x given call es is. (kind_made given.op, calls.kinds x given call es is)) config bricks tree next s c logged a made

      kind : ℕ → Option Kind
      kind a = kind_if (own a) (is_some ((run (log_of s) (fresh bricks)).asker a)) (of_call a)

  -- a law of every log is one of every world
  in_world : (premise : Config → (ℕ → Records) → (ℕ → Brick) → Tree → ℕ → ℕ → List Entry → Type 0) (clause : Config → Copies → Flat → Type 0) → AfterEveryLog premise clause → (config : Config) (records : ℕ → Records) (bricks : ℕ → Brick) (tree : Tree) (next g : ℕ) (s : Cluster) (c : Clients AnyCall) → IsStart config records bricks tree next → IsLogged stands by_table config bricks tree next s c → (es rest : List Entry) → log_of s ≡ es ++ rest → premise config records bricks tree next g es → Holds clause config records bricks tree next g es
  in_world premise clause law config records bricks tree next g s c start logged es rest parts met =
      let w = laws.in_order config bricks tree next s c logged es rest parts in
      law config records bricks tree next g es start w.is_run w.plain w.orderly met

  stood : InEveryWorldsLog stands by_table (HoldsInVolume HeadsStand)
  stood config records bricks tree next g s c start logged es rest parts began = in_world AllOfThese HeadsStand heads.heads config records bricks tree next g s c start logged es rest parts (record {
    of_volume = began;
    one_kind = one_kind config records bricks tree next g s c start logged es rest parts;
    one_turn = flat.one_turn config records bricks tree next g s c start logged es rest parts;
  })

  pub world_heads : WorldHeadLaws stands by_table
  world_heads = record {
    one_kind = one_kind;
    bounded = λ config records bricks tree next g s c start logged es rest parts. in_world Any AreBounded heads.bounded config records bricks tree next g s c start logged es rest parts tt;
    kinds = λ config records bricks tree next g s c start logged es rest parts. in_world AlwaysOneKind AreOfKind heads.kinds config records bricks tree next g s c start logged es rest parts (one_kind config records bricks tree next g s c start logged es rest parts);
    alone = λ config records bricks tree next g s c start logged es rest parts. in_world AlwaysInOneTurn NoOthersAgree heads.alone config records bricks tree next g s c start logged es rest parts (flat.one_turn config records bricks tree next g s c start logged es rest parts);
    promised = λ config records bricks tree next g s c start logged es rest parts. in_world AlwaysInOneTurn ArePromised heads.promised config records bricks tree next g s c start logged es rest parts (flat.one_turn config records bricks tree next g s c start logged es rest parts);
    unmade = λ config records bricks tree next g s c start logged es rest parts. in_world Any IsBlankUnmade heads.unmade config records bricks tree next g s c start logged es rest parts tt;
    of_volume = λ config records bricks tree next g s c start logged es rest parts began. in_world BeganOfVolume AreOfVolume heads.of_volume config records bricks tree next g s c start logged es rest parts began;
    heads = stood;
    stand = λ config records bricks tree next g s c start logged es rest parts began. heads.together config (copies_after es bricks g) (flat_after config es bricks tree next g) (stood config records bricks tree next g s c start logged es rest parts began);
  }
