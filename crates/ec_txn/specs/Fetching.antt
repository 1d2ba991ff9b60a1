-- Data and names are asked for under the locks.
use Rattle.std.specs.Prelude.{◌≡◌, ℕ, ◌+◌, ◌<◌, ◌≤◌, ◌^◌, Bool, true, cond, ◌&&◌, nat_lt, Option, Some, None}
use Rattle.ec_attr.specs.Bricks.{is_in}
use Rattle.ec_conduct.specs.Account.{Account, Lock, at}
use Rattle.ec_conduct.specs.Given.{bricks_of}
use Rattle.ec_wire.specs.declared.request.Request.{Request}
use Rattle.ec_wire.specs.declared.request.Request.TheVariants.{ReadChunks, NameGet, NamesAfter}
use Rattle.ec_txn.specs.Rounds.{Asks, subject}

-- the request asks for data or names of gfid g under this grant, and changes nothing
abbrev pub IsFetch : ℕ → ℕ → Request → Type 0
IsFetch g grant (ReadChunks h n first count) = (h.0 ≡ g) × (n ≡ grant) × (first + count ≤ 2 ^ 30)
IsFetch g grant (NameGet h n name) = (h.0 ≡ g) × (n ≡ grant)
IsFetch g grant (NamesAfter h n after) = (h.0 ≡ g) × (n ≡ grant)
IsFetch g grant r = ⊥

-- each brick that is asked granted its lock, and is asked under that
pub record IsFetching (g n : ℕ) (c : Account) (f : Asks) : Type 0 where
  pub asks : (x : ℕ) (r : Request) → f x ≡ Some r → (x < n) × (lock : Lock) × ((at c g x).inode ≡ Some lock) × (lock.granted ≡ true) × IsFetch g lock.number r

abbrev pub under : Option Lock → (ℕ → Request) → Option Request
under None q = None
under (Some lock) q = cond lock.granted (Some (q lock.number)) None

-- the bricks of a set are asked under their locks
abbrev pub asks_of : ℕ → (ℕ → Request) → Account → Asks
asks_of bits q c x = cond (is_in bits x && nat_lt x (bricks_of c.given)) (under (at c (subject c.given.op) x).inode q) None
