-- What nothing changes while a settled call goes on: only its own requests are executed, and until one of them alters records, the bricks
-- and the flat files are as they were.
use Rattle.std.specs.Prelude.{◌≡◌, ℕ, Bool, true, false, Option, Some, None, List, [], ◌∷◌, ◌++◌}
use Rattle.ec_attr.specs.declared.geometry.Geometry.{Geometry}
use Rattle.ec_conduct.specs.Conduct.{is_release}
use Rattle.ec_history.specs.Run.{Net, after, run}
use Rattle.ec_history.specs.Story.{Story, story}
use Rattle.ec_wire.specs.declared.entry.Entry.{Entry}
use Rattle.ec_wire.specs.declared.entry.Entry.TheVariants.{Executed}
use Rattle.ec_wire.specs.declared.message.Body.{Body}
use Rattle.ec_wire.specs.declared.message.Body.TheVariants.{ToBrick, ToClient}
use Rattle.ec_wire.specs.declared.message.Message.{Message}
use Rattle.ec_wire.specs.declared.request.Request.{Request}
use Rattle.ec_wire.specs.declared.request.Request.TheVariants.{Ask, Release, Query, ReadChunks, NameGet, NamesAfter, GfidsAfter}

-- A request that may alter records. Locks are none, and nobody alters what it asks for.
abbrev pub alters : Request → Bool
alters (Ask g domain kind) = false
alters (Release g grant) = false
alters (Query g grant) = false
alters (ReadChunks g grant first count) = false
alters (NameGet g grant name) = false
alters (NamesAfter g grant past) = false
alters (GfidsAfter past dirty) = false
alters q = true

abbrev pub body_alters : Body → Bool
body_alters (ToBrick q) = alters q
body_alters (ToClient re reply) = false

abbrev pub message_alters : Option Message → Bool
message_alters None = false
message_alters (Some msg) = body_alters msg.body

-- a brick executes such a request by this entry
abbrev pub entry_alters : Net → Entry → Bool
entry_alters m (Executed i version failed) = message_alters (m.said i)
entry_alters m e = false

-- none of these entries does
abbrev pub NoneAlters : List Entry → Net → Type 0
NoneAlters [] m = Unit {0}
NoneAlters (e ∷ es) m = (entry_alters m e ≡ false) × NoneAlters es (after m e)

-- message i is a request of the call, or a Release
pub record IsOwnRequest (m : Net) (call i : ℕ) : Type 0 where
  pub message : Message
  pub request : Request
  pub said : m.said i ≡ Some message
  pub body : message.body ≡ ToBrick request
  pub own : is_release request ≡ false → message.call ≡ call
  pub up : (m.brick message.brick).up ≡ true

-- each request that a brick executes is one
abbrev pub ExecutesOwn : ℕ → Net → ℕ → List Entry → Type 0
ExecutesOwn n m call es = (front rest : List Entry) (i : ℕ) (version : Option ℕ) (failed : Bool) → es ≡ front ++ Executed i version failed ∷ rest → IsOwnRequest (run front m) call i

-- Until a request that alters records is executed, each brick has the records that it had,
abbrev pub RecordsStay : ℕ → Net → ℕ → List Entry → Type 0
RecordsStay n m call es = (front rest : List Entry) (b : ℕ) → es ≡ front ++ rest → NoneAlters front m → ((run front m).brick b).records ≡ (m.brick b).records

-- and the flat files are as they were, by whatever was told before, and no call has posted more.
abbrev pub FlatsStay : ℕ → Net → ℕ → List Entry → Type 0
FlatsStay n m call es = (geometry : Geometry) (t : Story) (front rest : List Entry) → es ≡ front ++ rest → NoneAlters front m → ((story geometry front m t).tree ≡ t.tree) × ((story geometry front m t).posted ≡ t.posted)

-- all of these, of whichever calls
pub record UnchangedLaws (Of : (ℕ → Net → ℕ → List Entry → Type 0) → Type 0) : Type 0 where
  pub own : Of ExecutesOwn
  pub records : Of RecordsStay
  pub flats : Of FlatsStay
