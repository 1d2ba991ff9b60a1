-- Events that are printed are read again.
use Rattle.std.proofs.Common.{◌≡◌, ℕ, Bool, true, false, List, [], ◌∷◌, Option, Some, None, refl, sym, ap, ◌∙◌, arith}
use Rattle.std.specs.Prelude.{Ok, bytes_eq, codes, decimal, if◌then◌else◌}
use Rattle.std.specs.List.{list_all}
use Rattle.std.specs.Char.{is_ascii_digit}
use Rattle.std.proofs.lemmas.Slice.Eq.{bytes_eq-Decides}
use Rattle.ec_wire.specs.Phases.{phase_word}
use Rattle.ec_wire.specs.declared.event.Event.{Event}
use Rattle.ec_wire.specs.declared.event.Event.TheVariants.{Call, Deliver, Lose, GiveUp, Stop, Return, Cut, Die, Tear, Yield, Settle, Until, Replace}
use Rattle.ec_wire.specs.declared.event.Which.{Which}
use Rattle.ec_wire.specs.declared.phase.Phase.{Phase}
use Rattle.ec_wire.specs.declared.phase.Phase.TheVariants as phase
use Rattle.ec_script.specs.Bricks.{message}
use Rattle.ec_script.specs.Lines.{event_of, phase_named, some_event}
use Rattle.ec_script.specs.Numbers.{brick, client, number}
use Rattle.ec_script.specs.Orders.{◌>>=◌, brick_event, brick_or_all, client_event, message_event}
use Rattle.ec_script.specs.Printed.{IsBrick, IsBrickOrAll, IsClient, IsEvent, brick_or_all_word, event_words, which_word}
use Rattle.ec_wire.proofs.Phases.{reads_back}
use Rattle.ec_script.proofs.PrintedBricks.{message_again, message_word}
use Rattle.ec_script.proofs.PrintedCalls.{number_word, orders_call, tested, words_of_op}
use Rattle.ec_script.proofs.PrintedNumbers.{brick_again, client_again, decimal_says, decimal_word, number_again}
use Rattle.ec_script.proofs.PrintedWords.{Each, IsWord, at_places}

client_word : (c : ℕ) → IsClient c → IsWord (decimal c)
client_word c h = decimal_word c (omega (arith, h.1))

brick_word : (b : ℕ) → IsBrick b → IsWord (decimal b)
brick_word b h = decimal_word b (omega (arith, h))

all_or_brick_word : (b : Option ℕ) → IsBrickOrAll b → IsWord (brick_or_all_word b)
all_or_brick_word None h = tested (codes "all") refl
all_or_brick_word (Some b) h = brick_word b h

phase_is_word : (p : Phase) → IsWord (phase_word p)
phase_is_word phase.Heal = tested (codes "heal") refl
phase_is_word phase.Lock = tested (codes "lock") refl
phase_is_word phase.Query = tested (codes "query") refl
phase_is_word phase.Name = tested (codes "name") refl
phase_is_word phase.Names = tested (codes "names") refl
phase_is_word phase.Pre = tested (codes "pre") refl
phase_is_word phase.Read = tested (codes "read") refl
phase_is_word phase.Make = tested (codes "make") refl
phase_is_word phase.Write = tested (codes "write") refl
phase_is_word phase.Trim = tested (codes "trim") refl
phase_is_word phase.Entry = tested (codes "entry") refl
phase_is_word phase.Post = tested (codes "post") refl
phase_is_word phase.Clear = tested (codes "clear") refl
phase_is_word phase.Made = tested (codes "made") refl
phase_is_word phase.Unmake = tested (codes "unmake") refl
phase_is_word phase.Mark = tested (codes "mark") refl
phase_is_word phase.Copy = tested (codes "copy") refl
phase_is_word phase.Unmark = tested (codes "unmark") refl
phase_is_word phase.Lock2 = tested (codes "lock2") refl
phase_is_word phase.Query2 = tested (codes "query2") refl
phase_is_word phase.Name2 = tested (codes "name2") refl
phase_is_word phase.Pre2 = tested (codes "pre2") refl
phase_is_word phase.Entry2 = tested (codes "entry2") refl
phase_is_word phase.Post2 = tested (codes "post2") refl
phase_is_word phase.Clear2 = tested (codes "clear2") refl
phase_is_word phase.Scan = tested (codes "scan") refl
phase_is_word phase.List = tested (codes "list") refl
phase_is_word phase.Dirs = tested (codes "dirs") refl
phase_is_word phase.Kinds = tested (codes "kinds") refl
phase_is_word phase.Walk = tested (codes "walk") refl
phase_is_word phase.Asks = tested (codes "asks") refl
phase_is_word phase.Probe = tested (codes "probe") refl
phase_is_word phase.Shed = tested (codes "shed") refl

pub words_of_event : (e : Event) → IsEvent e → Each IsWord (event_words e)
words_of_event (Call c o) h = (tested (codes "call") refl, (client_word c h.0, words_of_op o h.1))
words_of_event (Deliver m) h = (tested (codes "deliver") refl, (message_word m h, tt))
words_of_event (Lose m) h = (tested (codes "lose") refl, (message_word m h, tt))
words_of_event (GiveUp c b) h = (tested (codes "giveup") refl, (client_word c h.0, (brick_word b h.1, tt)))
words_of_event (Stop b) h = (tested (codes "stop") refl, (brick_word b h, tt))
words_of_event (Return b) h = (tested (codes "return") refl, (brick_word b h, tt))
words_of_event (Cut c b) h = (tested (codes "cut") refl, (client_word c h.0, (all_or_brick_word b h.1, tt)))
words_of_event (Die c) h = (tested (codes "die") refl, (client_word c h, tt))
words_of_event (Tear m bytes) h = (tested (codes "tear") refl, (message_word m h.0, (number_word bytes h.1, tt)))
words_of_event (Yield c) h = (tested (codes "yield") refl, (client_word c h, tt))
words_of_event Settle h = (tested (codes "settle") refl, tt)
words_of_event (Until c p) h = (tested (codes "until") refl, (client_word c h, (phase_is_word p, tt)))
words_of_event (Replace b) h = (tested (codes "replace") refl, (brick_word b h, tt))

-- What lines of words order that are read as numbers, messages and phases.

deliver_orders : (w : List ℕ) (m : Which) → message w ≡ Some m → some_event (at_places 0 (codes "deliver" ∷ w ∷ [])) ≡ Ok (Some (Deliver m))
unfolding event_of message_event
deliver_orders w m e = rw e refl

lose_orders : (w : List ℕ) (m : Which) → message w ≡ Some m → some_event (at_places 0 (codes "lose" ∷ w ∷ [])) ≡ Ok (Some (Lose m))
unfolding event_of message_event
lose_orders w m e = rw e refl

tear_orders : (w v : List ℕ) (m : Which) (n : ℕ) → message w ≡ Some m → number v ≡ Some n → some_event (at_places 0 (codes "tear" ∷ w ∷ v ∷ [])) ≡ Ok (Some (Tear m n))
unfolding event_of message_event
tear_orders w v m n e f = rw (e, f) refl

stop_orders : (w : List ℕ) (b : ℕ) → brick w ≡ Some b → some_event (at_places 0 (codes "stop" ∷ w ∷ [])) ≡ Ok (Some (Stop b))
unfolding event_of message_event brick_event
stop_orders w b e = rw e refl

return_orders : (w : List ℕ) (b : ℕ) → brick w ≡ Some b → some_event (at_places 0 (codes "return" ∷ w ∷ [])) ≡ Ok (Some (Return b))
unfolding event_of message_event brick_event
return_orders w b e = rw e refl

replace_orders : (w : List ℕ) (b : ℕ) → brick w ≡ Some b → some_event (at_places 0 (codes "replace" ∷ w ∷ [])) ≡ Ok (Some (Replace b))
unfolding event_of message_event brick_event
replace_orders w b e = rw e refl

give_up_orders : (w v : List ℕ) (c b : ℕ) → client w ≡ Some c → brick v ≡ Some b → some_event (at_places 0 (codes "giveup" ∷ w ∷ v ∷ [])) ≡ Ok (Some (GiveUp c b))
unfolding event_of message_event brick_event client_event
give_up_orders w v c b e f = rw (e, f) refl

cut_orders : (w v : List ℕ) (c : ℕ) (b : Option ℕ) → client w ≡ Some c → brick_or_all v ≡ Some b → some_event (at_places 0 (codes "cut" ∷ w ∷ v ∷ [])) ≡ Ok (Some (Cut c b))
unfolding event_of message_event brick_event client_event
cut_orders w v c b e f = rw (e, f) refl

die_orders : (w : List ℕ) (c : ℕ) → client w ≡ Some c → some_event (at_places 0 (codes "die" ∷ w ∷ [])) ≡ Ok (Some (Die c))
unfolding event_of message_event brick_event client_event
die_orders w c e = rw e refl

yield_orders : (w : List ℕ) (c : ℕ) → client w ≡ Some c → some_event (at_places 0 (codes "yield" ∷ w ∷ [])) ≡ Ok (Some (Yield c))
unfolding event_of message_event brick_event client_event
yield_orders w c e = rw e refl

settle_orders : some_event (at_places 0 (codes "settle" ∷ [])) ≡ Ok (Some Settle)
unfolding event_of message_event brick_event client_event
settle_orders = refl

until_orders : (w v : List ℕ) (c : ℕ) (p : Phase) → client w ≡ Some c → phase_named v ≡ Some p → some_event (at_places 0 (codes "until" ∷ w ∷ v ∷ [])) ≡ Ok (Some (Until c p))
unfolding event_of
until_orders w v c p e f = rw (f, e) refl

-- digits aren't the word for all bricks
not_all : (w : List ℕ) → list_all is_ascii_digit w ≡ true → (t : Bool) → (t ≡ true → w ≡ codes "all") → t ≡ false
not_all w h true same = let digits : list_all is_ascii_digit (codes "all") ≡ true = ap (list_all is_ascii_digit) (sym (same refl)) ∙ h in cc
not_all w h false same = refl

all_again : (b : Option ℕ) → IsBrickOrAll b → brick_or_all (brick_or_all_word b) ≡ Some b
all_again None h = refl
all_again (Some b) h =
    ap (λ t. if t then Some None else brick (decimal b) >>= λ b. Some (Some b)) (not_all (decimal b) (decimal_says b (omega (arith, h))).digits (bytes_eq (decimal b) (codes "all")) (bytes_eq-Decides (decimal b) (codes "all")).0)
    ∙ ap (λ (o : Option ℕ). o >>= λ b. Some (Some b)) (brick_again b h)

pub orders_event : (e : Event) → IsEvent e → some_event (at_places 0 (event_words e)) ≡ Ok (Some e)
orders_event (Call c o) h = orders_call c o h.0 h.1
orders_event (Deliver m) h = deliver_orders (which_word m) m (message_again m h)
orders_event (Lose m) h = lose_orders (which_word m) m (message_again m h)
orders_event (GiveUp c b) h = give_up_orders (decimal c) (decimal b) c b (client_again c h.0) (brick_again b h.1)
orders_event (Stop b) h = stop_orders (decimal b) b (brick_again b h)
orders_event (Return b) h = return_orders (decimal b) b (brick_again b h)
orders_event (Cut c b) h = cut_orders (decimal c) (brick_or_all_word b) c b (client_again c h.0) (all_again b h.1)
orders_event (Die c) h = die_orders (decimal c) c (client_again c h)
orders_event (Tear m bytes) h = tear_orders (which_word m) (decimal bytes) m bytes (message_again m h.0) (number_again bytes h.1)
orders_event (Yield c) h = yield_orders (decimal c) c (client_again c h)
orders_event Settle h = settle_orders
orders_event (Until c p) h = until_orders (decimal c) (phase_word p) c p (client_again c h) (reads_back p)
orders_event (Replace b) h = replace_orders (decimal b) b (brick_again b h)
