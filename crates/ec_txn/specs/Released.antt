-- A call that has released all of its asks.
use Rattle.std.specs.Prelude.{◌≡◌, ℕ, None}
use Rattle.ec_conduct.specs.Account.{Account, at}

-- no ask of the call stands at any brick
abbrev pub HoldsNothing : Account → Type 0
HoldsNothing c = (g b : ℕ) → ((at c g b).inode ≡ None) × ((at c g b).heal ≡ None)
