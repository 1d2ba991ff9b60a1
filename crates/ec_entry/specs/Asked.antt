-- What a brick is asked, by what is known.
use Rattle.std.specs.Prelude.{ℕ, cond, ◌&&◌, nat_lt, Option, Some, None, List}
use Rattle.ec_attr.specs.Bricks.{is_in}
use Rattle.ec_wire.specs.declared.request.Request.{Request}
use Rattle.ec_wire.specs.declared.request.Request.TheVariants.{NameGet}
use Rattle.ec_txn.specs.declared.known.Held.{Held}

abbrev pub under_held : Option Held → (ℕ → Request) → Option Request
under_held None q = None
under_held (Some lock) q = cond lock.granted (Some (q lock.number)) None

abbrev pub asked_name : ℕ → ℕ → ℕ → List ℕ → Option Held → ℕ → Option Request
asked_name bits n g name lock x = cond (is_in bits x && nat_lt x n) (under_held lock (λ grant. NameGet (record { 0 = g }) grant name)) None
