-- What the bricks replied last, by the account.
use Rattle.std.specs.Prelude.{◌≡◌, ℕ, Option, None, List, [], ◌∷◌, slice_index_or}
use Rattle.ec_conduct.specs.Account.{Account, Exchange, at}
use Rattle.ec_wire.specs.declared.reply.Reply.{Reply}

abbrev pub reply_at : List (Option Reply) → ℕ → Option Reply
reply_at rs b = slice_index_or rs b None

-- the reply to the last request that is over
abbrev pub last_reply : List Exchange → Option Reply
last_reply [] = None
last_reply (e ∷ es) = e.reply

-- the reply of a brick to the last request on gfid g
abbrev pub replied : Account → ℕ → ℕ → Option Reply
replied c g x = last_reply (at c g x).window

-- a reply of each brick is what the account has
abbrev pub TellsAll : ℕ → (ℕ → Option Reply) → Account → Type 0
TellsAll g f c = (x : ℕ) → f x ≡ replied c g x
