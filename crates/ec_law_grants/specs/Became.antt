-- What may become of a brick's record while no call changes its file.
use Rattle.std.specs.Prelude.{◌≡◌, ℕ, Option, Some, None}
use Rattle.ec_attr.specs.Head.{with_dirty}
use Rattle.ec_attr.specs.declared.config.Config.{Config}
use Rattle.ec_attr.specs.declared.kind.Kind.{Kind}
use Rattle.ec_brick.specs.Work.{new_head}
use Rattle.ec_store.specs.Records.{Record, empty}

-- the same record, but for its dirty number
abbrev pub IsSame : Record → Record → Type 0
IsSame r s = (dirty : ℕ) × (s ≡ record r { head = with_dirty dirty r.head })

-- a record as a Make leaves it, but for its dirty number: of version and size 0, with no byte and no name
abbrev pub IsNewborn : Config → Record → Type 0
IsNewborn config r = (kind : Kind) × (dirty : ℕ) × (r ≡ empty (with_dirty dirty (new_head config kind)))

-- It is the same, but for its dirty number, which a Made sets; or an Unmake removed it; or a Make put it, and it has no content yet. A
-- record that was removed doesn't come back.
abbrev pub Became : Config → Option Record → Option Record → Type 0
Became config None None = Unit {0}
Became config None (Some s) = IsNewborn config s
Became config (Some r) None = Unit {0}
Became config (Some r) (Some s) = IsSame r s
