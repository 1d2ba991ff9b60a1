-- What lines order whose words are numbers and fixed words, where each number is one.
use Rattle.std.specs.Prelude.{ℕ, ◌≤◌, ◌<◌, ◌⊎◌, true, false, List, Option, Some, None, bytes_eq, codes, if◌then◌else◌}
use Rattle.std.proofs.Common.{inl, inr}
use Rattle.std.proofs.lemmas.Bool.{cases_lt}
use Rattle.ec_attr.specs.declared.attr.Attr.{Attr}
use Rattle.ec_attr.specs.declared.gfid.Gfid.{Gfid}
use Rattle.ec_wire.specs.declared.op.Op.{Op}
use Rattle.ec_wire.specs.declared.op.Op.TheVariants.{Truncate, Read, Stat, Readdir, Heal, SetAttr, GetAttr, Scrub}
use Rattle.ec_wire.specs.declared.event.Event.{Event}
use Rattle.ec_wire.specs.declared.event.Event.TheVariants.{Deliver, Lose, GiveUp, Stop, Return, Cut, Die, Tear, Yield, Settle, Replace}
use Rattle.ec_script.specs.declared.form.PlainForm.{PlainForm}
use Rattle.ec_script.specs.declared.form.PlainForm.TheVariants as plain
use Rattle.ec_script.specs.Bricks.{message, via_bits}
use Rattle.ec_script.specs.Numbers.{number, gfid, client, brick, mode, owner}
use Rattle.ec_script.specs.Words.{Placed, text_at, has_word}

infixl 10 ◌>>=◌
abbrev pub ◌>>=◌ : {A B : Type 0} → Option A → (A → Option B) → Option B
(Some x) >>= f = f x
None >>= f = None

-- an attribute, where its mode is in range
abbrev pub attr_by : (mode owner group : ℕ) → (4095 < mode) ⊎ (mode ≤ 4095) → Option Attr
attr_by mode owner group (inl above) = None
attr_by mode owner group (inr within) = Some (record { mode = mode; owner = owner; group = group; in_range = within })

abbrev pub attr_of : ℕ → ℕ → ℕ → Option Attr
attr_of mode owner group = attr_by mode owner group (cases_lt 4095 mode)

-- the attribute of three words
abbrev pub attr_in : List ℕ → List ℕ → List ℕ → Option Attr
attr_in mode_word owner_word group_word = do
  m ← mode mode_word
  o ← owner owner_word
  g ← owner group_word
  attr_of m o g

-- the call of a form on a file or directory, by its further words
abbrev pub plain_of : PlainForm → Gfid → List Placed → Option Op
plain_of plain.Truncate g ws = do
  size ← number (text_at ws 4)
  Some (Truncate g size)
plain_of plain.Read g ws = do
  off ← number (text_at ws 4)
  len ← number (text_at ws 5)
  Some (Read g off len None)
plain_of plain.ReadVia g ws = do
  off ← number (text_at ws 4)
  len ← number (text_at ws 5)
  via ← via_bits (text_at ws 7)
  Some (Read g off len (Some via))
plain_of plain.Stat g ws = Some (Stat g)
plain_of plain.Readdir g ws = Some (Readdir g)
plain_of plain.Heal g ws = Some (Heal g)
plain_of plain.SetAttr g ws = do
  a ← attr_in (text_at ws 4) (text_at ws 5) (text_at ws 6)
  Some (SetAttr g a)
plain_of plain.GetAttr g ws = Some (GetAttr g)
plain_of plain.Scrub g ws = Some (Scrub g false)
plain_of plain.ScrubSettle g ws = Some (Scrub g true)

unfoldable pub plain_call : PlainForm → List Placed → Option Op
plain_call form ws = gfid (text_at ws 3) >>= λ g. plain_of form g ws

-- a brick, or `all`
abbrev pub brick_or_all : List ℕ → Option (Option ℕ)
brick_or_all word = if bytes_eq word (codes "all") then Some None else brick word >>= λ b. Some (Some b)

-- the events, by the words behind their first
abbrev pub deliver : List ℕ → Option Event
deliver m = message m >>= λ m. Some (Deliver m)

abbrev pub lose : List ℕ → Option Event
lose m = message m >>= λ m. Some (Lose m)

abbrev pub tear : List ℕ → List ℕ → Option Event
tear m bytes = message m >>= λ m. number bytes >>= λ n. Some (Tear m n)

abbrev pub stop : List ℕ → Option Event
stop b = brick b >>= λ b. Some (Stop b)

abbrev pub return_brick : List ℕ → Option Event
return_brick b = brick b >>= λ b. Some (Return b)

abbrev pub replace : List ℕ → Option Event
replace b = brick b >>= λ b. Some (Replace b)

abbrev pub give_up : List ℕ → List ℕ → Option Event
give_up c b = client c >>= λ c. brick b >>= λ b. Some (GiveUp c b)

abbrev pub cut : List ℕ → List ℕ → Option Event
cut c b = client c >>= λ c. brick_or_all b >>= λ b. Some (Cut c b)

abbrev pub die : List ℕ → Option Event
die c = client c >>= λ c. Some (Die c)

abbrev pub yield_client : List ℕ → Option Event
yield_client c = client c >>= λ c. Some (Yield c)

-- The event of a line other than a call and `until`, where there is such a line; none in it where a number is none.
unfoldable pub message_event : List Placed → Option (Option Event)
message_event ws =
    if has_word ws 2 0 (codes "deliver") then Some (deliver (text_at ws 1))
    else if has_word ws 2 0 (codes "lose") then Some (lose (text_at ws 1))
    else if has_word ws 3 0 (codes "tear") then Some (tear (text_at ws 1) (text_at ws 2))
    else None

unfoldable pub brick_event : List Placed → Option (Option Event)
brick_event ws =
    if has_word ws 2 0 (codes "stop") then Some (stop (text_at ws 1))
    else if has_word ws 2 0 (codes "return") then Some (return_brick (text_at ws 1))
    else if has_word ws 2 0 (codes "replace") then Some (replace (text_at ws 1))
    else None

unfoldable pub client_event : List Placed → Option (Option Event)
client_event ws =
    if has_word ws 3 0 (codes "giveup") then Some (give_up (text_at ws 1) (text_at ws 2))
    else if has_word ws 3 0 (codes "cut") then Some (cut (text_at ws 1) (text_at ws 2))
    else if has_word ws 2 0 (codes "die") then Some (die (text_at ws 1))
    else if has_word ws 2 0 (codes "yield") then Some (yield_client (text_at ws 1))
    else if has_word ws 1 0 (codes "settle") then Some (Some Settle)
    else None
