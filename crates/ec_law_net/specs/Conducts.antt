-- The conduct at each entry of a log: a call whose own entries keep the conduct may send what it sends where it sends it.
use Rattle.std.specs.Prelude.{◌≡◌, ℕ, Some, List, ◌∷◌, ◌++◌}
use Rattle.ec_attr.specs.declared.geometry.Geometry.{Geometry}
use Rattle.ec_conduct.specs.Conduct.{Keeps, MaySend}
use Rattle.ec_conduct.specs.Given.{Given}
use Rattle.ec_conduct.specs.Opened.{account}
use Rattle.ec_history.specs.Accounts.{Leaving, books, no_books, sender}
use Rattle.ec_history.specs.Run.{Net, run}
use Rattle.ec_history.specs.Story.{Story}
use Rattle.ec_wire.specs.declared.entry.Entry.{Entry}
use Rattle.ec_wire.specs.declared.entry.Entry.TheVariants.{Sent}
use Rattle.ec_wire.specs.declared.message.Body.TheVariants.{ToBrick}
use Rattle.ec_wire.specs.declared.message.Message.{Message}
use Rattle.ec_wire.specs.declared.request.Request.{Request}

-- Call a, which sends request q by an entry of the log, may send it by its account of the entries before.
abbrev pub MaySendThere : Type 0
MaySendThere =
    (geometry : Geometry) (left : ℕ → Leaving) (es more : List Entry) (m : Net) (t : Story) (msg : Message) (q : Request) (a : ℕ) (given : Given)
    → msg.body ≡ ToBrick q
    → sender (run es m) (books geometry left es m t no_books) msg q ≡ Some a
    → Keeps given ((books geometry left (es ++ Sent msg ∷ more) m t no_books).own a)
    → MaySend (account given ((books geometry left es m t no_books).own a)) msg.brick q

pub record ConductLaws : Type 0 where
  pub may_send : MaySendThere
