-- What a line of a script orders, or its first fault.
use Rattle.std.specs.Prelude.{ℕ, Bool, List, length, Option, Some, None, Result, Ok, Err, codes, nat_eq, nat_lt, bytes_eq, slice_index, ◌||◌, if◌then◌else◌}
use Rattle.ec_attr.specs.declared.gfid.Gfid.{Gfid}
use Rattle.ec_wire.specs.Phases.{phase_among, phases}
use Rattle.ec_wire.specs.declared.phase.Phase.{Phase}
use Rattle.ec_wire.specs.declared.op.Op.{Op}
use Rattle.ec_wire.specs.declared.op.Op.TheVariants as op
use Rattle.ec_wire.specs.declared.event.Event.{Event}
use Rattle.ec_wire.specs.declared.event.Event.TheVariants as event
use Rattle.ec_script.specs.declared.fault.LineFault.{LineFault}
use Rattle.ec_script.specs.declared.fault.LineFault.TheVariants.{TooLong, BadEvent}
use Rattle.ec_script.specs.declared.form.EntryForm.{EntryForm}
use Rattle.ec_script.specs.declared.form.EntryForm.TheVariants as entry
use Rattle.ec_script.specs.declared.form.Form.{Form}
use Rattle.ec_script.specs.declared.form.Form.TheVariants as form
use Rattle.ec_script.specs.Data.{name_of, written_bytes}
use Rattle.ec_script.specs.Forms.{form_of}
use Rattle.ec_script.specs.Numbers.{number, gfid, client}
use Rattle.ec_script.specs.Orders.{plain_call, message_event, brick_event, client_event}
use Rattle.ec_script.specs.Results.{◌>>=◌, numbered}
use Rattle.ec_script.specs.Words.{Placed, words, word_at, text_at, has_word, without_return}

-- `GFID NAME`
abbrev pub entry_of : Placed → Placed → Result (Gfid × List ℕ) LineFault
entry_of gfid_word name_word = do
  g ← numbered (gfid gfid_word.text)
  n ← name_of name_word
  Ok (g, n)

abbrev pub entry_call : EntryForm → Gfid → List ℕ → Op
entry_call entry.Create g n = op.Create g n
entry_call entry.Mkdir g n = op.Mkdir g n
entry_call entry.Unlink g n = op.Unlink g n
entry_call entry.Lookup g n = op.Lookup g n
entry_call entry.Rmdir g n = op.Rmdir g n

-- `GFID OFF DATA`
abbrev pub write_of : Placed → Placed → Placed → Result Op LineFault
write_of gfid_word off_word data_word = do
  g ← numbered (gfid gfid_word.text)
  off ← numbered (number off_word.text)
  bytes ← written_bytes data_word
  Ok (op.Write g off bytes)

-- `GFID NAME GFID NAME`
abbrev pub rename_of : List Placed → Result Op LineFault
rename_of ws = do
  old ← entry_of (word_at ws 3) (word_at ws 4)
  new ← entry_of (word_at ws 5) (word_at ws 6)
  Ok (op.Rename old.0 old.1 new.0 new.1)

-- the call of a line that has its form, its words from left to right
unfoldable pub call_by : Form → List Placed → Result Op LineFault
call_by form.Write ws = write_of (word_at ws 3) (word_at ws 4) (word_at ws 5)
call_by form.Rename ws = rename_of ws
call_by (form.Sweep full) ws = Ok (op.Sweep full)
call_by (form.Entry e) ws = entry_of (word_at ws 3) (word_at ws 4) >>= λ at. Ok (entry_call e at.0 at.1)
call_by (form.Plain p) ws = numbered (plain_call p ws)

-- `call C ..`: no form is a fault before any word's
abbrev pub call_event : Option Form → List Placed → Result Event LineFault
call_event None ws = Err BadEvent
call_event (Some f) ws = do
  c ← numbered (client (text_at ws 1))
  o ← call_by f ws
  Ok (event.Call c o)

-- `until C PHASE`: an unknown phase is a fault before the client's
abbrev pub until_event : Option Phase → List ℕ → Result Event LineFault
until_event None word = Err BadEvent
until_event (Some p) word = do
  c ← numbered (client word)
  Ok (event.Until c p)

-- the first of these that a line is
abbrev pub first_of : Option (Option Event) → Result Event LineFault → Result Event LineFault
first_of None other = other
first_of (Some e) other = numbered e

-- the phase of this name
abbrev pub phase_named : List ℕ → Option Phase
phase_named word = phase_among phases word

-- what the words of a line order; a line has 8 words at most
unfoldable pub event_of : List Placed → Result Event LineFault
event_of ws =
    if bytes_eq (text_at ws 0) (codes "call") then call_event (form_of ws) ws
    else if has_word ws 3 0 (codes "until") then until_event (phase_named (text_at ws 2)) (text_at ws 1)
    else first_of (message_event ws) (first_of (brick_event ws) (first_of (client_event ws) (Err BadEvent)))

abbrev pub some_event : List Placed → Result (Option Event) LineFault
some_event ws = if nat_lt 8 (length ws) then Err BadEvent else event_of ws >>= λ e. Ok (Some e)

-- a blank line, or one whose first byte is #
abbrev pub is_passed : List ℕ → Bool
is_passed line = nat_eq (slice_index line 0) 35 || nat_eq (length (words (without_return line))) 0

-- the most bytes of a line, a carriage return at its end among them
abbrev pub most_line : ℕ
most_line = 2200000

-- What a line orders: an event, nothing where it is passed over, or it has a fault. A line that is too long is never
-- passed over.
unfoldable pub line_event : List ℕ → Result (Option Event) LineFault
line_event line =
    if nat_lt most_line (length line) then Err TooLong
    else if is_passed line then Ok None
    else some_event (words (without_return line))
