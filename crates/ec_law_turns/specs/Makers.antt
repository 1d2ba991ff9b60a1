-- Who makes the record of a gfid: the call that took it, under a lock of its own on the directory in which it makes it.
use Rattle.std.specs.Prelude.{◌≡◌, ℕ, Bool, true, Option, Some}
use Rattle.ec_wire.specs.declared.message.Body.TheVariants.{ToBrick}
use Rattle.ec_wire.specs.declared.message.Message.{Message}
use Rattle.ec_wire.specs.declared.request.Request.{Request}
use Rattle.ec_wire.specs.declared.request.Request.TheVariants.{Make, Made}
use Rattle.ec_history.specs.IsRun.{MayExecute}
use Rattle.ec_history.specs.Run.{Net, out_of}
use Rattle.ec_history.specs.Story.{is_done}
use Rattle.ec_law_net.specs.Turns.{Maker, View, has_directory}
use Rattle.ec_law_turns.specs.Follows.{IsLock}

-- Call a is the maker, in directory x, and ask n is its own, to brick b for the content of that directory.
pub record IsByMaker (said : ℕ → Option Message) (maker : Option Maker) (a b x n : ℕ) : Type 0 where
  pub maker_is : maker ≡ Some (record { call = a; dir = x })
  pub lock : IsLock x said a b n

-- of a request of call a to brick b
abbrev pub MakesByMaker : ℕ → (ℕ → Option Message) → Option Maker → ℕ → ℕ → Request → Type 0
MakesByMaker g said maker a b (Make x n child) = child.gfid.0 ≡ g → IsByMaker said maker a b x.0 n
MakesByMaker g said maker a b (Made x n child) = child.0 ≡ g → IsByMaker said maker a b x.0 n
MakesByMaker g said maker a b q = Unit {0}

-- Each Make and each Made of the gfid is its maker's.
abbrev pub MadeByMaker : ℕ → Net → View → Type 0
MadeByMaker g m v = (i : ℕ) (x : Message) (q : Request) → m.said i ≡ Some x → x.body ≡ ToBrick q → MakesByMaker g m.said v.maker x.call x.brick q

-- The maker has the directory at the brick of such a request.
abbrev pub UnderDirectory : ℕ → Net → View → ℕ → Request → Type 0
UnderDirectory g m v b (Make x n child) = child.gfid.0 ≡ g → has_directory m.said v.maker (m.brick b).asks ≡ true
UnderDirectory g m v b (Made x n child) = child.0 ≡ g → has_directory m.said v.maker (m.brick b).asks ≡ true
UnderDirectory g m v b q = Unit {0}

-- Whichever request a brick may do next.
abbrev pub DoneUnderDirectory : ℕ → Net → View → Type 0
DoneUnderDirectory g m v = (i : ℕ) (version : Option ℕ) (failed : Bool) (may : MayExecute m i version failed)
    → is_done (out_of m may.message may.request version failed).says ≡ true
    → UnderDirectory g m v may.message.brick may.request

-- A gfid that somebody makes had no version as the log began.
abbrev pub NewWhereMade : ℕ → Net → View → Type 0
NewWhereMade g m v = (x : Maker) → v.maker ≡ Some x → v.core.origin ≡ 0
