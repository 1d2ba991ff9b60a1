-- What a log has come to, seen from one gfid.
use Rattle.std.specs.Prelude.{◌≡◌, ℕ, ◌+◌, ◌^◌, ◌≤◌, false, Some}
use Rattle.ec_attr.specs.declared.geometry.Geometry.{Geometry}
use Rattle.ec_conduct.specs.Given.{Given}
use Rattle.ec_conduct.specs.Opened.{account}
use Rattle.ec_history.specs.Accounts.{Books}
use Rattle.ec_history.specs.Run.{Net}
use Rattle.ec_law_net.specs.Turns.{View}
use Rattle.ec_law_turns.specs.Follows.{Follows, Messages, Numbers}
use Rattle.ec_law_turns.specs.Sound.{AreSound}

pub record Known (geometry : Geometry) (g : ℕ) (m : Net) (v : View) (b : Books) : Type 0 where
  pub numbers : Numbers geometry m.said m.owed m.calls m.asker b
  pub messages : Messages geometry.n m.said m.next v.turn v.of
  pub fresh : (t : ℕ) → 2 ^ 61 + m.next ≤ t → v.core.moment t ≡ false
  pub sound : AreSound g m.said v.of v.core.moment
  pub calls : (a : ℕ) (given : Given) → b.given a ≡ Some given → Follows g m.said v.turn v.of v.core.moment a (account given (b.own a))
