-- That calls write and cut their own stripes: of built calls, and of the log of a world.
use Rattle.std.specs.Prelude.{◌≡◌, ℕ, Some, List, [], ◌∷◌}
use Rattle.ec_attr.specs.declared.config.Config.{Config}
use Rattle.ec_attr.specs.declared.geometry.Geometry.{Geometry}
use Rattle.ec_brick.specs.State.{State as Brick}
use Rattle.ec_calls.specs.declared.any.AnyCall.{AnyCall}
use Rattle.ec_clients.specs.Come.{nothing_left}
use Rattle.ec_conduct.specs.Given.{Given}
use Rattle.ec_conduct.specs.Opened.{account, opened}
use Rattle.ec_conduct.specs.Own.{Own}
use Rattle.ec_history.specs.Accounts.{Books, Leaving, booked, no_books}
use Rattle.ec_history.specs.Flat.{Tree}
use Rattle.ec_history.specs.Run.{Net, after, fresh}
use Rattle.ec_history.specs.Story.{Story, opening, told}
use Rattle.ec_store.specs.Records.{Records}
use Rattle.ec_txn.specs.declared.ctx.Ctx.{Ctx}
use Rattle.ec_wire.specs.declared.entry.Entry.{Entry}
use Rattle.ec_wire.specs.declared.entry.Entry.TheVariants.{Sent}
use Rattle.ec_wire.specs.declared.message.Body.{Body}
use Rattle.ec_wire.specs.declared.message.Body.TheVariants.{ToBrick, ToClient}
use Rattle.ec_wire.specs.declared.message.Message.{Message}
use Rattle.ec_law_parts.specs.Laws.{InEveryWorldsLog}
use Rattle.ec_law_files.specs.Stripes.{EachSent, IsMade, IsOwn, Making}

-- Of the own entries that a call stands for.
pub record CallStripeLaws (stands : Ctx → Given → AnyCall → List Own → Type 0) : Type 0 where
  pub made : (x : Ctx) (given : Given) (call : AnyCall) (es : List Own) → stands x given call es → IsMade given es

-- ## A log

-- A request that goes out is the call's own, at its account of then; `makings` tells by call what it makes.
abbrev pub BodyMade : (ℕ → Making) → Books → Message → Body → Type 0
BodyMade makings b msg (ToBrick q) = (given : Given) → b.given msg.call ≡ Some given → IsOwn (makings msg.call) (account given (b.own msg.call)) msg.brick q
BodyMade makings b msg (ToClient re reply) = Unit {0}

abbrev pub EntryMade : (ℕ → Making) → Books → Entry → Type 0
EntryMade makings b (Sent msg) = BodyMade makings b msg msg.body
EntryMade makings b e = Unit {0}

-- By its own entries each call that began has sent its own alone.
abbrev pub OwnMade : (ℕ → Making) → Books → Type 0
OwnMade makings b = (a : ℕ) (given : Given) → b.given a ≡ Some given → EachSent (IsOwn (makings a)) (opened given) (b.own a)

-- so it is at each entry
abbrev pub AllMade : (ℕ → Making) → Geometry → (ℕ → Leaving) → List Entry → Net → Story → Books → Type 0
AllMade makings geometry left [] m t b = OwnMade makings b
AllMade makings geometry left (e ∷ es) m t b = OwnMade makings b × EntryMade makings b e × AllMade makings geometry left es (after m e) (told geometry m t e) (booked geometry left m t b e)

-- each call of the log makes one thing of its file
abbrev pub CallsMake : Config → (ℕ → Records) → (ℕ → Brick) → Tree → ℕ → ℕ → List Entry → Type 0
CallsMake config records bricks tree next g es = (makings : ℕ → Making) × AllMade makings config.geometry nothing_left es (fresh bricks) (opening tree next) no_books

pub record WorldStripeLaws (stands : Ctx → Given → AnyCall → List Own → Type 0) (by_table : Ctx → Given → List Own → Type 0) : Type 0 where
  pub made : InEveryWorldsLog stands by_table CallsMake
