-- A brick as its definition sees it: with the records of its store, which may have unset bytes.
use Rattle.std.specs.Prelude.{◌≡◌, ℕ, Bool, true, false, None, List, []}
use Rattle.ec_attr.specs.declared.config.Config.{Config}
use Rattle.ec_index.specs.Members.{members}
use Rattle.ec_locks.specs.declared.ask.Ask.{Ask}
use Rattle.ec_store.specs.Records.{Records}
use Rattle.ec_brick.specs.declared.brick.Brick.{Brick}

-- `asks` are the locks that are granted or waited for, in the order of asking; `removed` are the gfids of the records
-- that were removed as children since the brick last started
pub record State : Type 0 where
  pub config : Config
  pub records : Records
  pub up : Bool
  pub asks : List Ask
  pub removed : ℕ → Bool

abbrev pub state : Brick → Records → State
state b m = record { config = b.config; records = m; up = b.up; asks = b.locks; removed = members b.removed }

-- its config, whether it is up, and the asks of its lock table
abbrev pub config_of : Brick → Config
config_of b = b.config

abbrev pub is_up : Brick → Bool
is_up b = b.up

abbrev pub asks_of : Brick → List Ask
asks_of b = b.locks

-- whether a gfid is in the brick's index
abbrev pub indexed : Brick → ℕ → Bool
indexed b = members b.index

-- a brick without a record
abbrev pub fresh : Config → State
fresh config = record { config = config; records = λ g. None; up = true; asks = []; removed = λ g. false }

-- nothing that is seen of the brick has changed
pub record IsAsBefore (old new : Brick) : Type 0 where
  pub same_state : (m : Records) → state new m ≡ state old m
  pub same_index : indexed new ≡ indexed old
