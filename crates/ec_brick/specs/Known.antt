-- States of a brick that are known less or better: of the bytes that may be unset one knows only what the writes left.
use Rattle.std.specs.Prelude.{◌≡◌, ℕ, ◌≤◌, Option, Some, None}
use Rattle.ec_store.specs.Records.{Record, Records}
use Rattle.ec_brick.specs.Replies.{Replies}
use Rattle.ec_brick.specs.State.{State}
use Rattle.ec_brick.specs.Step.{Out}
use Rattle.ec_wire.specs.declared.reply.Reply.{Reply}

-- what is known of the first record holds of the second
pub record IsKnown (m r : Record) : Type 0 where
  pub same_head : r.head ≡ m.head
  pub same_names : r.names ≡ m.names
  pub bytes : (s i v : ℕ) → m.piece s i ≡ Some v → r.piece s i ≡ Some v
  pub least : m.shortest ≤ r.shortest
  pub most : r.longest ≤ m.longest

abbrev pub IsKnownAt : Option Record → Option Record → Type 0
IsKnownAt None r = r ≡ None
IsKnownAt (Some m) r = (x : Record) × (r ≡ Some x) × IsKnown m x

abbrev pub AreKnown : Records → Records → Type 0
AreKnown m r = (g : ℕ) → IsKnownAt (m g) (r g)

-- what is known of the first state holds of the second
pub record IsKnownState (b c : State) : Type 0 where
  pub same_config : c.config ≡ b.config
  pub known : AreKnown b.records c.records
  pub same_up : c.up ≡ b.up
  pub same_asks : c.asks ≡ b.asks
  pub same_removed : c.removed ≡ b.removed

-- what is known of the first outcome holds of the second, and it allows each reply of that
pub record IsKnownOut (x y : Out) : Type 0 where
  pub state : IsKnownState x.brick y.brick
  pub allows : (reply : Option Reply) → Replies y.says reply → Replies x.says reply
  pub same_version : y.version ≡ x.version
  pub same_lets_in : y.lets_in ≡ x.lets_in
