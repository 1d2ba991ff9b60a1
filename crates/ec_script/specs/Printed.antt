-- The text of an event, and the events that a line can order.
use Rattle.std.specs.Prelude.{◌≡◌, ℕ, ◌<◌, ◌≤◌, ◌^◌, true, List, [], ◌∷◌, ◌++◌, length, Option, Some, None, codes, decimal}
use Rattle.hex.specs.Hex.{IsBytes}
use Rattle.ec_attr.specs.Name.{is_name}
use Rattle.ec_attr.specs.declared.attr.Attr.{Attr}
use Rattle.ec_attr.specs.declared.gfid.Gfid.{Gfid}
use Rattle.ec_wire.specs.Calls.{op_words}
use Rattle.ec_wire.specs.Phases.{phase_word}
use Rattle.ec_wire.specs.Words.{spaced}
use Rattle.ec_wire.specs.declared.op.Op.{Op}
use Rattle.ec_wire.specs.declared.op.Op.TheVariants as op
use Rattle.ec_wire.specs.declared.event.Which.{Which}
use Rattle.ec_wire.specs.declared.event.Which.TheVariants as which
use Rattle.ec_wire.specs.declared.event.Event.{Event}
use Rattle.ec_wire.specs.declared.event.Event.TheVariants as event
use Rattle.ec_script.specs.Data.{most_data}

-- a message by its number, or by who sends and who gets it
abbrev pub which_word : Which → List ℕ
which_word (which.Number n) = decimal n
which_word (which.ToBrick c b) = codes "c" ++ decimal c ++ codes "-b" ++ decimal b
which_word (which.ToClient c b) = codes "b" ++ decimal b ++ codes "-c" ++ decimal c

-- a brick, or each
abbrev pub brick_or_all_word : Option ℕ → List ℕ
brick_or_all_word None = codes "all"
brick_or_all_word (Some b) = decimal b

-- each event by its word and what follows
abbrev pub event_words : Event → List (List ℕ)
event_words (event.Call c o) = codes "call" ∷ decimal c ∷ op_words o
event_words (event.Deliver m) = codes "deliver" ∷ which_word m ∷ []
event_words (event.Lose m) = codes "lose" ∷ which_word m ∷ []
event_words (event.GiveUp c b) = codes "giveup" ∷ decimal c ∷ decimal b ∷ []
event_words (event.Stop b) = codes "stop" ∷ decimal b ∷ []
event_words (event.Return b) = codes "return" ∷ decimal b ∷ []
event_words (event.Cut c b) = codes "cut" ∷ decimal c ∷ brick_or_all_word b ∷ []
event_words (event.Die c) = codes "die" ∷ decimal c ∷ []
event_words (event.Tear m bytes) = codes "tear" ∷ which_word m ∷ decimal bytes ∷ []
event_words (event.Yield c) = codes "yield" ∷ decimal c ∷ []
event_words event.Settle = codes "settle" ∷ []
event_words (event.Until c p) = codes "until" ∷ decimal c ∷ phase_word p ∷ []
event_words (event.Replace b) = codes "replace" ∷ decimal b ∷ []

-- the line of an event
abbrev pub event_text : Event → List ℕ
event_text e = spaced (event_words e)

-- Clients are from 1 to 16, bricks from 0 to 30, numbers of 64 bits, and ids of 128 bits and not 0.
abbrev pub IsClient : ℕ → Type 0
IsClient c = (1 ≤ c) × (c ≤ 16)

abbrev pub IsBrick : ℕ → Type 0
IsBrick b = b ≤ 30

abbrev pub IsNumber : ℕ → Type 0
IsNumber n = n < 2 ^ 64

abbrev pub IsId : Gfid → Type 0
IsId g = (1 ≤ g.0) × (g.0 < 2 ^ 128)

abbrev pub IsName : List ℕ → Type 0
IsName n = (is_name n ≡ true) × IsBytes n

abbrev pub IsData : List ℕ → Type 0
IsData bytes = (length bytes ≤ most_data) × IsBytes bytes

-- at least one brick
abbrev pub IsVia : Option ℕ → Type 0
IsVia None = Unit {0}
IsVia (Some bits) = (0 < bits) × (bits < 2 ^ 31)

abbrev pub IsWhich : Which → Type 0
IsWhich (which.Number n) = IsNumber n
IsWhich (which.ToBrick c b) = IsClient c × IsBrick b
IsWhich (which.ToClient c b) = IsClient c × IsBrick b

abbrev pub IsAttr : Attr → Type 0
IsAttr a = (a.owner < 2 ^ 32) × (a.group < 2 ^ 32)

abbrev pub IsBrickOrAll : Option ℕ → Type 0
IsBrickOrAll None = Unit {0}
IsBrickOrAll (Some b) = IsBrick b

-- a call that a line can order
abbrev pub IsOp : Op → Type 0
IsOp (op.Write g off bytes) = IsId g × IsNumber off × IsData bytes
IsOp (op.Truncate g size) = IsId g × IsNumber size
IsOp (op.Read g off len via) = IsId g × IsNumber off × IsNumber len × IsVia via
IsOp (op.Stat g) = IsId g
IsOp (op.Create g n) = IsId g × IsName n
IsOp (op.Mkdir g n) = IsId g × IsName n
IsOp (op.Unlink g n) = IsId g × IsName n
IsOp (op.Lookup g n) = IsId g × IsName n
IsOp (op.Readdir g) = IsId g
IsOp (op.Heal g) = IsId g
IsOp (op.SetAttr g a) = IsId g × IsAttr a
IsOp (op.GetAttr g) = IsId g
IsOp (op.Rename from_dir from_name to_dir to_name) = (IsId from_dir × IsName from_name) × (IsId to_dir × IsName to_name)
IsOp (op.Rmdir g n) = IsId g × IsName n
IsOp (op.Scrub g settle) = IsId g
IsOp (op.Sweep full) = Unit {0}

-- an event that a line can order
abbrev pub IsEvent : Event → Type 0
IsEvent (event.Call c o) = IsClient c × IsOp o
IsEvent (event.Deliver m) = IsWhich m
IsEvent (event.Lose m) = IsWhich m
IsEvent (event.GiveUp c b) = IsClient c × IsBrick b
IsEvent (event.Stop b) = IsBrick b
IsEvent (event.Return b) = IsBrick b
IsEvent (event.Cut c b) = IsClient c × IsBrickOrAll b
IsEvent (event.Die c) = IsClient c
IsEvent (event.Tear m bytes) = IsWhich m × IsNumber bytes
IsEvent (event.Yield c) = IsClient c
IsEvent event.Settle = Unit {0}
IsEvent (event.Until c p) = IsClient c
IsEvent (event.Replace b) = IsBrick b
