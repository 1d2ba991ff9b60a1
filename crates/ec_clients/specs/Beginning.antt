-- What has come of no log yet, and clients that have made no call.
use Rattle.std.specs.Prelude.{◌≡◌, ℕ, length}
use Rattle.ec_brick.specs.State.{State}
use Rattle.ec_history.specs.Accounts.{no_books}
use Rattle.ec_history.specs.Flat.{Tree}
use Rattle.ec_history.specs.Run.{fresh}
use Rattle.ec_history.specs.Story.{opening}
use Rattle.ec_clients.specs.Come.{Come}
use Rattle.ec_clients.specs.Views.{slots_of}
use Rattle.ec_clients.specs.declared.clients.Clients.{Clients}

-- over these bricks, which stand for the tree, where `first` is the next gfid
abbrev pub beginning : (ℕ → State) → Tree → ℕ → Come
beginning bricks tree first = record { net = fresh bricks; story = opening tree first; books = no_books }

-- there are places for clients 0 to 16
pub record HasClients {C : Type 0} (c : Clients C) : Type 0 where
  pub slots : length (slots_of c) ≡ 17
  pub lives : length c.dead.items ≡ 17

-- as many clients as before
pub record AreAsMany {C : Type 0} (c d : Clients C) : Type 0 where
  pub slots : length (slots_of d) ≡ length (slots_of c)
  pub lives : length d.dead.items ≡ length c.dead.items
