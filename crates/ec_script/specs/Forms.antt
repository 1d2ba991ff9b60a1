-- The forms of calls: the word of a call and how many words its line has.
use Rattle.std.specs.Prelude.{ℕ, Bool, true, false, ◌&&◌, List, Option, Some, None, codes, bytes_eq, if◌then◌else◌}
use Rattle.ec_script.specs.Words.{Placed, has_word, text_at}
use Rattle.ec_script.specs.declared.form.EntryForm.{EntryForm}
use Rattle.ec_script.specs.declared.form.EntryForm.TheVariants as entry
use Rattle.ec_script.specs.declared.form.PlainForm.{PlainForm}
use Rattle.ec_script.specs.declared.form.PlainForm.TheVariants as plain
use Rattle.ec_script.specs.declared.form.Form.{Form}
use Rattle.ec_script.specs.declared.form.Form.TheVariants as form

-- `call C WORD ..` of n words
abbrev pub is_call : List Placed → ℕ → List ℕ → Bool
is_call ws n word = has_word ws n 2 word

-- the same with another word at a place
abbrev pub is_call_with : List Placed → ℕ → List ℕ → ℕ → List ℕ → Bool
is_call_with ws n word i other = is_call ws n word && bytes_eq (text_at ws i) other

-- `call C WORD GFID NAME`
unfoldable pub entry_form : List Placed → Option EntryForm
entry_form ws =
    if is_call ws 5 (codes "create") then Some entry.Create
    else if is_call ws 5 (codes "mkdir") then Some entry.Mkdir
    else if is_call ws 5 (codes "unlink") then Some entry.Unlink
    else if is_call ws 5 (codes "lookup") then Some entry.Lookup
    else if is_call ws 5 (codes "rmdir") then Some entry.Rmdir
    else None

-- `call C WORD GFID ..`, whose words are numbers and fixed words
unfoldable pub plain_form : List Placed → Option PlainForm
plain_form ws =
    if is_call ws 5 (codes "truncate") then Some plain.Truncate
    else if is_call ws 6 (codes "read") then Some plain.Read
    else if is_call_with ws 8 (codes "read") 6 (codes "via") then Some plain.ReadVia
    else if is_call ws 4 (codes "stat") then Some plain.Stat
    else if is_call ws 4 (codes "readdir") then Some plain.Readdir
    else if is_call ws 4 (codes "heal") then Some plain.Heal
    else if is_call ws 7 (codes "setattr") then Some plain.SetAttr
    else if is_call ws 4 (codes "getattr") then Some plain.GetAttr
    else if is_call ws 4 (codes "scrub") then Some plain.Scrub
    else if is_call_with ws 5 (codes "scrub") 4 (codes "settle") then Some plain.ScrubSettle
    else None

abbrev pub entry_or_plain : Option EntryForm → Option PlainForm → Option Form
entry_or_plain (Some e) p = Some (form.Entry e)
entry_or_plain None (Some p) = Some (form.Plain p)
entry_or_plain None None = None

unfoldable pub form_of : List Placed → Option Form
form_of ws =
    if is_call ws 6 (codes "write") then Some form.Write
    else if is_call ws 7 (codes "rename") then Some form.Rename
    else if is_call_with ws 4 (codes "sweep") 3 (codes "index") then Some (form.Sweep false)
    else if is_call_with ws 4 (codes "sweep") 3 (codes "full") then Some (form.Sweep true)
    else entry_or_plain (entry_form ws) (plain_form ws)

-- how many words a line of a form has
abbrev pub plain_len : PlainForm → ℕ
plain_len plain.Truncate = 5
plain_len plain.Read = 6
plain_len plain.ReadVia = 8
plain_len plain.SetAttr = 7
plain_len plain.ScrubSettle = 5
plain_len _ = 4

abbrev pub form_len : Form → ℕ
form_len form.Write = 6
form_len form.Rename = 7
form_len (form.Sweep full) = 4
form_len (form.Entry e) = 5
form_len (form.Plain p) = plain_len p
