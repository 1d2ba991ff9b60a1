-- All that a log has come to, seen from one gfid, but for the gfid's own Makes.
use Rattle.std.specs.Prelude.{ℕ}
use Rattle.ec_attr.specs.declared.geometry.Geometry.{Geometry}
use Rattle.ec_history.specs.Accounts.{Books}
use Rattle.ec_history.specs.Run.{Net}
use Rattle.ec_law_net.specs.Grants.{AsksOnce, LocksStand}
use Rattle.ec_law_net.specs.Link.{Linked}
use Rattle.ec_law_net.specs.Turns.{View}
use Rattle.ec_law_turns.specs.Known.{Known}
use Rattle.ec_law_turns.specs.Makers.{MadeByMaker}
use Rattle.ec_law_turns.specs.Once.{Once}
use Rattle.ec_law_turns.specs.Replied.{Replied}
use Rattle.ec_law_turns.specs.Shown.{Shown}

pub record Reached (geometry : Geometry) (g : ℕ) (m : Net) (v : View) (b : Books) : Type 0 where
  pub known : Known geometry g m v b
  pub linked : Linked geometry.n g m v
  pub locks : LocksStand geometry.n g m v
  pub asks : AsksOnce g m v
  pub once : Once g m.said m.flying v.of v.core
  pub replied : Replied g m.said v.of m.owed v.core b
  pub shown : Shown geometry g m.said m.next v.turn v.of m.owed v.core b
  pub by_maker : MadeByMaker g m v
