-- Entries that change nothing of calls and clients.
use Rattle.std.specs.Prelude.{◌≡◌, ◌≢◌, ℕ, ◌<◌, ◌≤◌, Bool, true, false, not, Option, Some, None, List, [], ◌∷◌, slice_get}
use Rattle.ec_wire.specs.declared.message.Message.{Message}
use Rattle.ec_wire.specs.declared.request.Request.{Request}
use Rattle.ec_wire.specs.declared.request.Request.TheVariants.{Release}
use Rattle.ec_store.specs.Put.{put}
use Rattle.ec_wire.specs.Lanes.{is_to_brick}
use Rattle.ec_wire.specs.declared.entry.Entry.{Entry}
use Rattle.ec_wire.specs.declared.entry.Entry.TheVariants.{Sent, Executed, Lost, Stopped, Returned, Cut, Torn, Replaced}

-- what bricks do, and what becomes of messages
abbrev pub is_of_bricks : Entry → Bool
is_of_bricks (Sent msg) = not (is_to_brick msg.body)
is_of_bricks (Executed i version failed) = true
is_of_bricks (Lost i) = true
is_of_bricks (Stopped b) = true
is_of_bricks (Returned b) = true
is_of_bricks (Cut client b) = true
is_of_bricks (Torn i bytes version) = true
is_of_bricks (Replaced b removed all) = true
is_of_bricks e = false

-- a message is sent under this number or a later one
abbrev pub IsFrom : ℕ → Entry → Type 0
IsFrom next (Sent msg) = next ≤ msg.no
IsFrom next e = Unit {0}

-- a message is sent between a client and one of n bricks
abbrev pub IsWithin : ℕ → Entry → Type 0
IsWithin n (Sent msg) = msg.brick < n
IsWithin n e = Unit {0}

-- what was sent stays so
abbrev pub Grows : (ℕ → Option Message) → (ℕ → Option Message) → Type 0
Grows said more = (i : ℕ) (m : Message) → said i ≡ Some m → more i ≡ Some m

-- only place j of the list is another
pub record ChangesAt {X : Type 0} (xs ys : List X) (j : ℕ) (x : X) : Type 0 where
  pub here : slice_get ys j ≡ Some x
  pub others : (i : ℕ) → i ≢ j → slice_get ys i ≡ slice_get xs i

-- the ask that a request releases
abbrev pub released_by : Request → Option ℕ
released_by (Release g n) = Some n
released_by q = None

-- the asks that are released, with one more or none
abbrev pub with_released : (ℕ → Bool) → Option ℕ → ℕ → Bool
with_released f None = f
with_released f (Some n) = put f n true

abbrev pub AreOfBricks : List Entry → Type 0
AreOfBricks [] = Unit {0}
AreOfBricks (e ∷ es) = (is_of_bricks e ≡ true) × AreOfBricks es

abbrev pub AreFrom : ℕ → List Entry → Type 0
AreFrom next [] = Unit {0}
AreFrom next (e ∷ es) = IsFrom next e × AreFrom next es

abbrev pub AreWithin : ℕ → List Entry → Type 0
AreWithin n [] = Unit {0}
AreWithin n (e ∷ es) = IsWithin n e × AreWithin n es
