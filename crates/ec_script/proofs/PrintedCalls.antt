-- Calls that are printed are read again.
use Rattle.std.proofs.Common.{◌≡◌, ℕ, Bool, true, false, ◌&&◌, List, [], ◌∷◌, length, Option, Some, None, refl, arith}
use Rattle.std.specs.Prelude.{Ok, bytes_eq, codes, decimal, nat_lt}
use Rattle.std.specs.List.{list_all}
use Rattle.std.proofs.lemmas.Bool.{and_parts, cases_lt, ltb-true}
use Rattle.hex.specs.Hex.{encode_lower}
use Rattle.ec_attr.specs.declared.attr.Attr.{Attr}
use Rattle.ec_attr.specs.declared.gfid.Gfid.{Gfid}
use Rattle.ec_wire.specs.Calls.{op_words, settle_words, via_words}
use Rattle.ec_wire.specs.Words.{gfid_word}
use Rattle.ec_wire.specs.declared.op.Op.{Op}
use Rattle.ec_wire.specs.declared.op.Op.TheVariants as op
use Rattle.ec_wire.specs.declared.event.Event.TheVariants as event
use Rattle.ec_script.specs.Forms.{entry_form, form_of, plain_form}
use Rattle.ec_script.specs.Lines.{call_by, entry_of, event_of, some_event}
use Rattle.ec_script.specs.Numbers.{client, number}
use Rattle.ec_script.specs.Orders.{attr_in, plain_call}
use Rattle.ec_script.specs.Printed.{IsAttr, IsClient, IsData, IsId, IsName, IsNumber, IsOp, IsVia}
use Rattle.ec_script.specs.Words.{Placed, text_at}
use Rattle.ec_script.specs.declared.form.EntryForm.TheVariants as entry
use Rattle.ec_script.specs.declared.form.PlainForm.TheVariants as plain
use Rattle.ec_script.specs.declared.form.Form.{Form}
use Rattle.ec_script.specs.declared.form.Form.TheVariants as form
use Rattle.ec_script.proofs.OrderLemmas.{attr_range}
use Rattle.ec_script.proofs.PrintedBricks.{via_again, via_word}
use Rattle.ec_script.proofs.PrintedData.{data_again, data_word, name_again, name_word}
use Rattle.ec_script.proofs.PrintedNumbers.{client_again, decimal_word, gfid_again, mode_again, number_again, owner_again}
use Rattle.ec_script.proofs.PrintedWords.{Each, IsWord, at_places, is_plain}

-- a word by its test, which computes for a text that is written out
pub tested : (w : List ℕ) → nat_lt 0 (length w) && list_all is_plain w ≡ true → IsWord w
tested w e = let p = and_parts (nat_lt 0 (length w)) (list_all is_plain w) e in record { some = ltb-true 0 (length w) p.0; plain = p.1 }

pub number_word : (n : ℕ) → IsNumber n → IsWord (decimal n)
number_word n h = decimal_word n (omega (arith, h))

id_word : (g : Gfid) → IsId g → IsWord (gfid_word g)
id_word g h = decimal_word g.0 (omega (arith, h.1))

words_of_via : (via : Option ℕ) → IsVia via → Each IsWord (via_words via)
words_of_via None h = tt
words_of_via (Some bits) h = (tested (codes "via") refl, (via_word bits h, tt))

words_of_settle : (settle : Bool) → Each IsWord (settle_words settle)
words_of_settle false = tt
words_of_settle true = (tested (codes "settle") refl, tt)

words_of_attr : (a : Attr) → IsAttr a → Each IsWord (decimal a.mode ∷ decimal a.owner ∷ decimal a.group ∷ [])
words_of_attr a h = (decimal_word a.mode (omega (arith, a.in_range)), (decimal_word a.owner (omega (arith, h.0)), (decimal_word a.group (omega (arith, h.1)), tt)))

words_of_sweep : (full : Bool) → Each IsWord (op_words (op.Sweep full))
words_of_sweep false = (tested (codes "sweep") refl, (tested (codes "index") refl, tt))
words_of_sweep true = (tested (codes "sweep") refl, (tested (codes "full") refl, tt))

pub words_of_op : (o : Op) → IsOp o → Each IsWord (op_words o)
words_of_op (op.Write g off bytes) h = (tested (codes "write") refl, (id_word g h.0, (number_word off h.1, (data_word bytes h.2, tt))))
words_of_op (op.Truncate g size) h = (tested (codes "truncate") refl, (id_word g h.0, (number_word size h.1, tt)))
words_of_op (op.Read g off len via) h = (tested (codes "read") refl, (id_word g h.0, (number_word off h.1, (number_word len h.2, words_of_via via h.3))))
words_of_op (op.Stat g) h = (tested (codes "stat") refl, (id_word g h, tt))
words_of_op (op.Create g n) h = (tested (codes "create") refl, (id_word g h.0, (name_word n h.1, tt)))
words_of_op (op.Mkdir g n) h = (tested (codes "mkdir") refl, (id_word g h.0, (name_word n h.1, tt)))
words_of_op (op.Unlink g n) h = (tested (codes "unlink") refl, (id_word g h.0, (name_word n h.1, tt)))
words_of_op (op.Lookup g n) h = (tested (codes "lookup") refl, (id_word g h.0, (name_word n h.1, tt)))
words_of_op (op.Readdir g) h = (tested (codes "readdir") refl, (id_word g h, tt))
words_of_op (op.Heal g) h = (tested (codes "heal") refl, (id_word g h, tt))
words_of_op (op.SetAttr g a) h = (tested (codes "setattr") refl, (id_word g h.0, words_of_attr a h.1))
words_of_op (op.GetAttr g) h = (tested (codes "getattr") refl, (id_word g h, tt))
words_of_op (op.Rename g n k m) h = (tested (codes "rename") refl, (id_word g h.0.0, (name_word n h.0.1, (id_word k h.1.0, (name_word m h.1.1, tt)))))
words_of_op (op.Rmdir g n) h = (tested (codes "rmdir") refl, (id_word g h.0, (name_word n h.1, tt)))
words_of_op (op.Scrub g settle) h = (tested (codes "scrub") refl, (id_word g h, words_of_settle settle))
words_of_op (op.Sweep full) h = words_of_sweep full

-- the words of a call
abbrev pub call_words : ℕ → Op → List Placed
call_words c o = at_places 0 (codes "call" ∷ decimal c ∷ op_words o)

-- a call by its form
by_form : (ws : List Placed) (f : Form) (c : ℕ) (o : Op) → nat_lt 8 (length ws) ≡ false → bytes_eq (text_at ws 0) (codes "call") ≡ true → form_of ws ≡ Some f → client (text_at ws 1) ≡ Some c → call_by f ws ≡ Ok o → some_event ws ≡ Ok (Some (event.Call c o))
unfolding event_of
by_form ws f c o short first is number call = rw (short, first, is, number, call) refl

entry_again : (p q : ℕ) (g : Gfid) (n : List ℕ) → IsId g → IsName n → entry_of (record { place = p; text = gfid_word g }) (record { place = q; text = encode_lower n }) ≡ Ok (g, n)
entry_again p q g n hg hn = rw (gfid_again g hg, name_again q n hn) refl

attr_again : (a : Attr) → IsAttr a → attr_in (decimal a.mode) (decimal a.owner) (decimal a.group) ≡ Some a
attr_again a h =
    rw (mode_again a.mode a.in_range, owner_again a.owner h.0, owner_again a.group h.1)
    (attr_range a.mode a.owner a.group a.in_range (cases_lt 4095 a.mode))

-- the form and the call of each op's words

abbrev Orders : Op → Type 0
Orders o = (c : ℕ) → (f : Form) × (form_of (call_words c o) ≡ Some f) × (call_by f (call_words c o) ≡ Ok o) × (nat_lt 8 (length (call_words c o)) ≡ false)

write_orders : (g : Gfid) (off : ℕ) (bytes : List ℕ) → IsId g → IsNumber off → IsData bytes → Orders (op.Write g off bytes)
unfolding form_of entry_form plain_form call_by plain_call
write_orders g off bytes h0 h1 h2 = λ c. (form.Write, refl, rw (gfid_again g h0, number_again off h1, data_again _ bytes h2) refl, refl)

truncate_orders : (g : Gfid) (size : ℕ) → IsId g → IsNumber size → Orders (op.Truncate g size)
unfolding form_of entry_form plain_form call_by plain_call
truncate_orders g size h0 h1 = λ c. (form.Plain plain.Truncate, refl, rw (gfid_again g h0, number_again size h1) refl, refl)

read_orders : (g : Gfid) (off len : ℕ) → IsId g → IsNumber off → IsNumber len → Orders (op.Read g off len None)
unfolding form_of entry_form plain_form call_by plain_call
read_orders g off len h0 h1 h2 = λ c. (form.Plain plain.Read, refl, rw (gfid_again g h0, number_again off h1, number_again len h2) refl, refl)

via_orders : (g : Gfid) (off len bits : ℕ) → IsId g → IsNumber off → IsNumber len → IsVia (Some bits) → Orders (op.Read g off len (Some bits))
unfolding form_of entry_form plain_form call_by plain_call
via_orders g off len bits h0 h1 h2 h3 = λ c. (form.Plain plain.ReadVia, refl, rw (gfid_again g h0, number_again off h1, number_again len h2, via_again bits h3) refl, refl)

stat_orders : (g : Gfid) → IsId g → Orders (op.Stat g)
unfolding form_of entry_form plain_form call_by plain_call
stat_orders g h0 = λ c. (form.Plain plain.Stat, refl, rw (gfid_again g h0) refl, refl)

readdir_orders : (g : Gfid) → IsId g → Orders (op.Readdir g)
unfolding form_of entry_form plain_form call_by plain_call
readdir_orders g h0 = λ c. (form.Plain plain.Readdir, refl, rw (gfid_again g h0) refl, refl)

heal_orders : (g : Gfid) → IsId g → Orders (op.Heal g)
unfolding form_of entry_form plain_form call_by plain_call
heal_orders g h0 = λ c. (form.Plain plain.Heal, refl, rw (gfid_again g h0) refl, refl)

getattr_orders : (g : Gfid) → IsId g → Orders (op.GetAttr g)
unfolding form_of entry_form plain_form call_by plain_call
getattr_orders g h0 = λ c. (form.Plain plain.GetAttr, refl, rw (gfid_again g h0) refl, refl)

setattr_orders : (g : Gfid) (a : Attr) → IsId g → IsAttr a → Orders (op.SetAttr g a)
unfolding form_of entry_form plain_form call_by plain_call
setattr_orders g a h0 h1 = λ c. (form.Plain plain.SetAttr, refl, rw (gfid_again g h0, attr_again a h1) refl, refl)

create_orders : (g : Gfid) (n : List ℕ) → IsId g → IsName n → Orders (op.Create g n)
unfolding form_of entry_form plain_form call_by plain_call
create_orders g n h0 h1 = λ c. (form.Entry entry.Create, refl, rw (entry_again _ _ g n h0 h1) refl, refl)

mkdir_orders : (g : Gfid) (n : List ℕ) → IsId g → IsName n → Orders (op.Mkdir g n)
unfolding form_of entry_form plain_form call_by plain_call
mkdir_orders g n h0 h1 = λ c. (form.Entry entry.Mkdir, refl, rw (entry_again _ _ g n h0 h1) refl, refl)

unlink_orders : (g : Gfid) (n : List ℕ) → IsId g → IsName n → Orders (op.Unlink g n)
unfolding form_of entry_form plain_form call_by plain_call
unlink_orders g n h0 h1 = λ c. (form.Entry entry.Unlink, refl, rw (entry_again _ _ g n h0 h1) refl, refl)

lookup_orders : (g : Gfid) (n : List ℕ) → IsId g → IsName n → Orders (op.Lookup g n)
unfolding form_of entry_form plain_form call_by plain_call
lookup_orders g n h0 h1 = λ c. (form.Entry entry.Lookup, refl, rw (entry_again _ _ g n h0 h1) refl, refl)

rmdir_orders : (g : Gfid) (n : List ℕ) → IsId g → IsName n → Orders (op.Rmdir g n)
unfolding form_of entry_form plain_form call_by plain_call
rmdir_orders g n h0 h1 = λ c. (form.Entry entry.Rmdir, refl, rw (entry_again _ _ g n h0 h1) refl, refl)

rename_orders : (g : Gfid) (n : List ℕ) (k : Gfid) (m : List ℕ) → IsId g → IsName n → IsId k → IsName m → Orders (op.Rename g n k m)
unfolding form_of entry_form plain_form call_by plain_call
rename_orders g n k m h0 h1 h2 h3 = λ c. (form.Rename, refl, rw (entry_again _ _ g n h0 h1, entry_again _ _ k m h2 h3) refl, refl)

scrub_orders : (g : Gfid) (settle : Bool) → IsId g → Orders (op.Scrub g settle)
unfolding form_of entry_form plain_form call_by plain_call
scrub_orders g false h = λ c. (form.Plain plain.Scrub, refl, rw (gfid_again g h) refl, refl)
scrub_orders g true h = λ c. (form.Plain plain.ScrubSettle, refl, rw (gfid_again g h) refl, refl)

sweep_orders : (full : Bool) → Orders (op.Sweep full)
unfolding form_of entry_form plain_form call_by plain_call
sweep_orders false = λ c. (form.Sweep false, refl, refl, refl)
sweep_orders true = λ c. (form.Sweep true, refl, refl, refl)

orders : (o : Op) → IsOp o → Orders o
orders (op.Write g off bytes) h = write_orders g off bytes h.0 h.1 h.2
orders (op.Truncate g size) h = truncate_orders g size h.0 h.1
orders (op.Read g off len None) h = read_orders g off len h.0 h.1 h.2
orders (op.Read g off len (Some bits)) h = via_orders g off len bits h.0 h.1 h.2 h.3
orders (op.Stat g) h = stat_orders g h
orders (op.Create g n) h = create_orders g n h.0 h.1
orders (op.Mkdir g n) h = mkdir_orders g n h.0 h.1
orders (op.Unlink g n) h = unlink_orders g n h.0 h.1
orders (op.Lookup g n) h = lookup_orders g n h.0 h.1
orders (op.Readdir g) h = readdir_orders g h
orders (op.Heal g) h = heal_orders g h
orders (op.SetAttr g a) h = setattr_orders g a h.0 h.1
orders (op.GetAttr g) h = getattr_orders g h
orders (op.Rename g n k m) h = rename_orders g n k m h.0.0 h.0.1 h.1.0 h.1.1
orders (op.Rmdir g n) h = rmdir_orders g n h.0 h.1
orders (op.Scrub g settle) h = scrub_orders g settle h
orders (op.Sweep full) h = sweep_orders full

pub orders_call : (c : ℕ) (o : Op) → IsClient c → IsOp o → some_event (call_words c o) ≡ Ok (Some (event.Call c o))
orders_call c o hc h =
    let r = orders o h c in
    by_form (call_words c o) r.0 c o r.3 refl r.1 (client_again c hc) r.2
