-- A run between two lines of its script, and its ends.
use Rattle.std.proofs.Common.{◌≡◌, ◌≢◌, inl, inr, ℕ, ◌+◌, ◌<◌, ◌≤◌, Bool, List, [], ◌∷◌, ◌++◌, Option, Some, None, Ok, Err, length, refl, sym, ap, subst, ◌∙◌, append_assoc, append-nil, length-append, arith}
use Rattle.std.specs.Prelude.{IfSome}
use Rattle.std.specs.Io.KnownBytes.{Appends, Keeps}
use Rattle.std.proofs.KnownBytes.{Appends-nil, Appends-trans}
use Rattle.ec_cluster.specs.Matches.{StandsAs}
use Rattle.ec_history.specs.Run.{Net, run}
use Rattle.ec_script.specs.declared.fault.LineFault.{LineFault}
use Rattle.ec_script.specs.declared.fault.LineFault.TheVariants as fault
use Rattle.ec_store.specs.Records.{Records}
use Rattle.ec_wire.specs.declared.event.Event.{Event}
use Rattle.ec_play.specs.declared.obeying.Stop.{Stop}
use Rattle.ec_play.specs.declared.obeying.Stop.TheVariants as stop
use Rattle.ec_play.specs.declared.status.ScriptWhy.{ScriptWhy}
use Rattle.ec_play.specs.declared.status.ScriptWhy.TheVariants as why
use Rattle.ec_play.specs.declared.status.Status.{Status}
use Rattle.ec_play.specs.declared.status.Status.TheVariants as status
use Rattle.ec_play.specs.Ends.{Ends, IsBadFor, IsBroken, IsHalfOpen, IsHalfWritten, IsPlayed, IsUnread}
use Rattle.ec_play.specs.Going.{BeginsOpen, Between, Broken, Finishes, Goes, HalfTold, IsBadAs, Obeys, Plays, Stopped}
use Rattle.ec_play.specs.Lines.{BeginsLong, HasLine, HasNoLine, TakesLine, lines}
use Rattle.ec_play.specs.Meaning.{Meaning}
use Rattle.ec_play.specs.Orders.{line_order, orders}
use Rattle.ec_play.specs.Statuses.{stop_status}
use Rattle.ec_play.specs.Texts.{open_text, text_of}
use Rattle.ec_play.proofs.OrderLemmas.{no_orders, order_beyond, order_long, orders_next}

-- where it and the stores are as a net says, the stores hold what the net says
abbrev pub Holds : {W : Type 0} → Meaning W → Type 0
Holds {W} M = (w : W) (stores : List Records) (m : Net) → M.stands w stores m → StandsAs (M.bricks w) stores m

-- nothing more is written
appends_kept : (old was written : Option (List ℕ)) (text : List ℕ) → Appends old was text → Keeps was written → Appends old written text
appends_kept None was written text a kept = tt
appends_kept (Some x) None written text a kept = absurd a
appends_kept (Some x) (Some y) None text a kept = absurd kept
appends_kept (Some x) (Some y) (Some z) text a kept = kept ∙ a

-- before the first line
pub between_start : {W : Type 0} (M : Meaning W) (Told : Type 0) (logs : Bool) (start : Net) (input written : Option (List ℕ)) (w : W) (stores : List Records)
    → M.log w ≡ [] → M.keeps w → (Told → M.stands w stores start) → Between M Told logs start input input written 1 w stores written
between_start M Told logs start None written w stores empty keeps stands = tt
between_start M Told logs start (Some input) written w stores empty keeps stands = (
  [],
  [],
  refl,
  refl,
  no_orders [] 1,
  record {
    plays = record {
      of_script = λ told. record { steps = []; entries = empty; of_script = tt };
      is_run = λ told. rw empty tt;
      stands = λ told. rw empty (stands told);
      keeps = keeps;
    };
    text = rw empty (Appends-nil written);
  },
)

-- a line more in front
after_line : (front rest all now : List (List ℕ)) (line : List ℕ) → all ≡ front ++ now → now ≡ line ∷ rest → all ≡ (front ++ line ∷ []) ++ rest
after_line front rest all now line parts taken = parts ∙ ap (λ x. front ++ x) taken ∙ sym (append_assoc front (line ∷ []) rest)

-- a line is obeyed
pub between_next : {W : Type 0} (M : Meaning W) (Told : Type 0) (logs : Bool) (start : Net) (input now later old was written : Option (List ℕ)) (number : ℕ) (line : List ℕ) (s t : W) (before after : List Records)
    → Between M Told logs start input now old number s before was → TakesLine now later line
    → ((events : List Event) → Goes M Told logs start old events s before was → Obeys M Told logs start old events (line_order number line) t after written)
    → Between M Told logs start input later old (number + 1) t after written
between_next M Told logs start None now later old was written number line s t before after b takes obeys = tt
between_next M Told logs start (Some input) None later old was written number line s t before after b takes obeys = absurd b
between_next M Told logs start (Some input) (Some xs) None old was written number line s t before after b takes obeys = absurd takes
between_next M Told logs start (Some input) (Some xs) (Some ys) old was written number line s t before after b takes obeys =
    let done = obeys b.1 b.5 in
    let longer : number + 1 ≡ length (b.0 ++ line ∷ []) + 1 = omega (arith, b.3, length-append b.0 (line ∷ [])) in (
      b.0 ++ line ∷ [],
      done.after,
      after_line b.0 (lines ys) (lines input) (lines xs) line b.2 takes,
      longer,
      orders_next b.0 line b.1 done.after number b.3 b.4 done.order,
      done.goes,
    )

played : {W : Type 0} (M : Meaning W) (Told : Type 0) (n : ℕ) (start : Net) (events : List Event) (w : W) (stores : List Records)
    → Holds M → M.bricks w ≡ n → Plays M Told start events w stores → IsPlayed M Told n start events (M.log w) stores
played M Told n start events w stores holds same p = record {
  of_script = λ told. rw (← same) (p.of_script told);
  is_run = λ told. rw (← same) (p.is_run told);
  hold = λ told. rw (← same) (holds w stores (run (M.log w) start) (p.stands told));
  stage = w;
  of_log = refl;
  keeps = p.keeps;
}

bad_for : {W : Type 0} (M : Meaning W) (Told : Type 0) (logs : Bool) (start : Net) (old : Option (List ℕ)) (events : List Event) (number : ℕ) (line : List ℕ) (w : W) (stores : List Records) (written : Option (List ℕ)) (because : ScriptWhy)
    → Goes M Told logs start old events w stores written → IsBadAs M w (line_order number line) because → IsBadFor M Told start number line (M.log w) stores because
bad_for M Told logs start old events number line w stores written (why.Line f) g b = b
bad_for M Told logs start old events number line w stores written (why.Event r) g b =
    (b.0, b.1, record { stage = w; of_log = refl; stands = g.plays.stands; refuses = b.2; other = b.3 })

-- a line can't be obeyed
ends_bad : {W : Type 0} (M : Meaning W) (Told : Type 0) (n : ℕ) (logs : Bool) (start : Net) (input now later old was written : Option (List ℕ)) (number : ℕ) (line : List ℕ) (s t : W) (before after : List Records) (because : ScriptWhy)
    → Holds M → M.bricks t ≡ n → Between M Told logs start input now old number s before was → TakesLine now later line
    → ((events : List Event) → Goes M Told logs start old events s before was → Stopped M Told logs start old events (line_order number line) s t after written (stop.Bad because))
    → IfSome input (λ xs. Ends M Told n logs start (status.BadScript number because) xs old written (M.log t) after)
ends_bad M Told n logs start None now later old was written number line s t before after because holds same b takes stopped = tt
ends_bad M Told n logs start (Some input) None later old was written number line s t before after because holds same b takes stopped = absurd b
ends_bad M Told n logs start (Some input) (Some xs) None old was written number line s t before after because holds same b takes stopped = absurd takes
ends_bad M Told n logs start (Some input) (Some xs) (Some ys) old was written number line s t before after because holds same b takes stopped =
    let now = stopped b.1 b.5 in
    record {
      front = b.0;
      line = line;
      rest = lines ys;
      events = b.1;
      obeyed = record {
        are_front = record { parts = b.2 ∙ ap (λ x. b.0 ++ x) takes; order = b.4 };
        played = played M Told n start b.1 t after holds same now.0.plays;
        text = now.0.text;
      };
      at = b.3;
      bad = bad_for M Told logs start old b.1 number line t after written because now.0 now.1;
    }

-- the next line has this fault
abbrev pub HasFault : ℕ → LineFault → Option (List ℕ) → Type 0
HasFault number f None = Unit {0}
HasFault number f (Some xs) = (line : List ℕ) × (rest : List (List ℕ)) × (lines xs ≡ line ∷ rest) × (line_order number line ≡ Err f)

pub too_long : (number : ℕ) (now : Option (List ℕ)) → number ≤ 1048576 → BeginsLong 2200000 now → HasFault number fault.TooLong now
too_long number None within long = tt
too_long number (Some xs) within long = (long.0, long.1, long.3, order_long number long.0 within long.2)

pub too_many : (number : ℕ) (now : Option (List ℕ)) → 1048576 < number → HasLine now → HasFault number fault.TooMany now
too_many number None beyond line = tt
too_many number (Some xs) beyond line = (line.0, line.1, line.2, order_beyond number line.0 beyond)

-- a line isn't read
pub ends_fault : {W : Type 0} (M : Meaning W) (Told : Type 0) (n : ℕ) (logs : Bool) (start : Net) (input now old was : Option (List ℕ)) (number : ℕ) (s : W) (stores : List Records) (f : LineFault)
    → Holds M → M.bricks s ≡ n → f ≢ fault.NoMemory → Between M Told logs start input now old number s stores was → HasFault number f now
    → IfSome input (λ xs. Ends M Told n logs start (status.BadScript number (why.Line f)) xs old was (M.log s) stores)
ends_fault M Told n logs start None now old was number s stores f holds same other b bad = tt
ends_fault M Told n logs start (Some input) None old was number s stores f holds same other b bad = absurd b
ends_fault M Told n logs start (Some input) (Some xs) old was number s stores f holds same other b bad =
    record {
      front = b.0;
      line = bad.0;
      rest = bad.1;
      events = b.1;
      obeyed = record {
        are_front = record { parts = b.2 ∙ ap (λ x. b.0 ++ x) bad.2; order = b.4 };
        played = played M Told n start b.1 s stores holds same b.5.plays;
        text = b.5.text;
      };
      at = b.3;
      bad = (bad.3, other);
    }

-- a line isn't read, whose number is known
pub ends_fault_at : {W : Type 0} (M : Meaning W) (Told : Type 0) (n : ℕ) (logs : Bool) (start : Net) (input now old was : Option (List ℕ)) (at number : ℕ) (s : W) (stores : List Records) (f : LineFault)
    → number ≡ at → Holds M → M.bricks s ≡ n → f ≢ fault.NoMemory → Between M Told logs start input now old number s stores was → HasFault number f now
    → IfSome input (λ xs. Ends M Told n logs start (status.BadScript at (why.Line f)) xs old was (M.log s) stores)
ends_fault_at M Told n logs start input now old was at number s stores f is holds same other b bad =
    subst (λ (m : ℕ). IfSome input (λ xs. Ends M Told n logs start (status.BadScript m (why.Line f)) xs old was (M.log s) stores)) is
    (ends_fault M Told n logs start input now old was number s stores f holds same other b bad)

-- the source gives no more
pub unread : {W : Type 0} (M : Meaning W) (Told : Type 0) (n : ℕ) (logs : Bool) (start : Net) (input now old was written : Option (List ℕ)) (number : ℕ) (s : W) (stores : List Records)
    → Holds M → M.bricks s ≡ n → Between M Told logs start input now old number s stores was → Keeps was written
    → IfSome input (λ xs. IsUnread M Told n logs start xs old written (M.log s) stores)
unread M Told n logs start None now old was written number s stores holds same b kept = tt
unread M Told n logs start (Some input) None old was written number s stores holds same b kept = absurd b
unread M Told n logs start (Some input) (Some xs) old was written number s stores holds same b kept =
    record {
      front = b.0;
      rest = lines xs;
      events = b.1;
      obeyed = record {
        are_front = record { parts = b.2; order = b.4 };
        played = played M Told n start b.1 s stores holds same b.5.plays;
        text = appends_kept old was written (text_of logs (M.log s)) b.5.text kept;
      };
    }

pub ends_unread : {W : Type 0} (M : Meaning W) (Told : Type 0) (n : ℕ) (logs : Bool) (start : Net) (input now old was written : Option (List ℕ)) (number : ℕ) (s : W) (stores : List Records)
    → Holds M → M.bricks s ≡ n → Between M Told logs start input now old number s stores was → Keeps was written
    → IfSome input (λ xs. Ends M Told n logs start status.NoMemory xs old written (M.log s) stores)
ends_unread M Told n logs start None now old was written number s stores holds same b kept = tt
ends_unread M Told n logs start (Some input) now old was written number s stores holds same b kept =
    inl (unread M Told n logs start (Some input) now old was written number s stores holds same b kept)

half_written : {W : Type 0} (M : Meaning W) (Told : Type 0) (n : ℕ) (logs : Bool) (start : Net) (input : List ℕ) (xs ys : List ℕ) (old was written : Option (List ℕ)) (number : ℕ) (line : List ℕ) (event : Event) (s t : W) (before after : List Records)
    → Holds M → M.bricks s ≡ n → M.bricks t ≡ n → (b : Between M Told logs start (Some input) (Some xs) old number s before was) → lines xs ≡ line ∷ lines ys
    → line_order number line ≡ Ok (Some event) → HalfTold M Told logs start old b.1 event s t after written
    → IsHalfWritten M Told n logs start input old written (M.log t) after
half_written M Told n logs start input xs ys old was written number line event s t before after holds same_s same_t b takes order half = record {
  front = b.0;
  line = line;
  rest = lines ys;
  events = b.1;
  event = event;
  earlier = M.log s;
  are_front = record { parts = b.2 ∙ ap (λ x. b.0 ++ x) takes; order = b.4 };
  next = record { order = subst (λ (m : ℕ). line_order m line ≡ Ok (Some event)) b.3 order };
  before = λ told. rw (← same_s) (b.5.plays.of_script told);
  played = played M Told n start (b.1 ++ event ∷ []) t after holds same_t half.plays;
  told = half.told;
}

broken_off : {W : Type 0} (M : Meaning W) (Told : Type 0) (n : ℕ) (logs : Bool) (start : Net) (input : List ℕ) (xs ys : List ℕ) (old was written : Option (List ℕ)) (number : ℕ) (line : List ℕ) (event : Event) (s t : W) (before after : List Records)
    → M.bricks s ≡ n → (b : Between M Told logs start (Some input) (Some xs) old number s before was) → lines xs ≡ line ∷ lines ys
    → line_order number line ≡ Ok (Some event) → Broken M Told logs start old event s t after written
    → IsBroken Told n logs start input old written (M.log t) after
broken_off M Told n logs start input xs ys old was written number line event s t before after same b takes order off = record {
  front = b.0;
  line = line;
  rest = lines ys;
  events = b.1;
  last = event;
  earlier = M.log s;
  latest = off.latest;
  are_front = record { parts = b.2 ∙ ap (λ x. b.0 ++ x) takes; order = b.4 };
  next = record { order = subst (λ (m : ℕ). line_order m line ≡ Ok (Some event)) b.3 order };
  parts = off.parts;
  before = λ told. rw (← same) (b.5.plays.of_script told);
  begun = λ told. rw (← same) (off.begun told);
  cut = rw (← same) off.cut;
  text = off.text;
}

-- the text of a line is written in part
ends_untold : {W : Type 0} (M : Meaning W) (Told : Type 0) (n : ℕ) (logs : Bool) (start : Net) (input now later old was written : Option (List ℕ)) (number : ℕ) (line : List ℕ) (s t : W) (before after : List Records)
    → Holds M → M.bricks s ≡ n → M.bricks t ≡ n → Between M Told logs start input now old number s before was → TakesLine now later line
    → ((events : List Event) → Goes M Told logs start old events s before was → Stopped M Told logs start old events (line_order number line) s t after written stop.WriteFault)
    → IfSome input (λ xs. Ends M Told n logs start status.WriteFault xs old written (M.log t) after)
ends_untold M Told n logs start None now later old was written number line s t before after holds same_s same_t b takes stopped = tt
ends_untold M Told n logs start (Some input) None later old was written number line s t before after holds same_s same_t b takes stopped = absurd b
ends_untold M Told n logs start (Some input) (Some xs) None old was written number line s t before after holds same_s same_t b takes stopped = absurd takes
ends_untold M Told n logs start (Some input) (Some xs) (Some ys) old was written number line s t before after holds same_s same_t b takes stopped =
    let now = stopped b.1 b.5 in
    inl (half_written M Told n logs start input xs ys old was written number line now.0 s t before after holds same_s same_t b takes now.1 now.2)

-- what memory was wanted for
wanting : {W : Type 0} (M : Meaning W) (Told : Type 0) (n : ℕ) (logs : Bool) (start : Net) (input : List ℕ) (xs ys : List ℕ) (old was written : Option (List ℕ)) (number : ℕ) (line : List ℕ) (s t : W) (before after : List Records)
    → Holds M → M.bricks s ≡ n → M.bricks t ≡ n → (b : Between M Told logs start (Some input) (Some xs) old number s before was) → lines xs ≡ line ∷ lines ys
    → Stopped M Told logs start old b.1 (line_order number line) s t after written stop.NoMemory
    → Ends M Told n logs start status.NoMemory input old written (M.log t) after
wanting M Told n logs start input xs ys old was written number line s t before after holds same_s same_t b takes (inl g) =
    inl (record {
      front = b.0;
      rest = line ∷ lines ys;
      events = b.1;
      obeyed = record {
        are_front = record { parts = b.2 ∙ ap (λ x. b.0 ++ x) takes; order = b.4 };
        played = played M Told n start b.1 t after holds same_t g.plays;
        text = g.text;
      };
    })
wanting M Told n logs start input xs ys old was written number line s t before after holds same_s same_t b takes (inr (event, order, inl off)) =
    inr (inl (broken_off M Told n logs start input xs ys old was written number line event s t before after same_s b takes order off))
wanting M Told n logs start input xs ys old was written number line s t before after holds same_s same_t b takes (inr (event, order, inr half)) =
    inr (inr (inl (half_written M Told n logs start input xs ys old was written number line event s t before after holds same_s same_t b takes order half)))

-- memory ran out in a line
ends_wanting : {W : Type 0} (M : Meaning W) (Told : Type 0) (n : ℕ) (logs : Bool) (start : Net) (input now later old was written : Option (List ℕ)) (number : ℕ) (line : List ℕ) (s t : W) (before after : List Records)
    → Holds M → M.bricks s ≡ n → M.bricks t ≡ n → Between M Told logs start input now old number s before was → TakesLine now later line
    → ((events : List Event) → Goes M Told logs start old events s before was → Stopped M Told logs start old events (line_order number line) s t after written stop.NoMemory)
    → IfSome input (λ xs. Ends M Told n logs start status.NoMemory xs old written (M.log t) after)
ends_wanting M Told n logs start None now later old was written number line s t before after holds same_s same_t b takes stopped = tt
ends_wanting M Told n logs start (Some input) None later old was written number line s t before after holds same_s same_t b takes stopped = absurd b
ends_wanting M Told n logs start (Some input) (Some xs) None old was written number line s t before after holds same_s same_t b takes stopped = absurd takes
ends_wanting M Told n logs start (Some input) (Some xs) (Some ys) old was written number line s t before after holds same_s same_t b takes stopped =
    wanting M Told n logs start input xs ys old was written number line s t before after holds same_s same_t b takes (stopped b.1 b.5)

-- a script goes no further than a line
pub ends_stopped : {W : Type 0} (M : Meaning W) (Told : Type 0) (n : ℕ) (logs : Bool) (start : Net) (input now later old was written : Option (List ℕ)) (number : ℕ) (line : List ℕ) (s t : W) (before after : List Records) (how : Stop)
    → Holds M → M.bricks s ≡ n → M.bricks t ≡ n → Between M Told logs start input now old number s before was → TakesLine now later line
    → ((events : List Event) → Goes M Told logs start old events s before was → Stopped M Told logs start old events (line_order number line) s t after written how)
    → IfSome input (λ xs. Ends M Told n logs start (stop_status number how) xs old written (M.log t) after)
ends_stopped M Told n logs start input now later old was written number line s t before after (stop.Bad because) holds same_s same_t b takes stopped =
    ends_bad M Told n logs start input now later old was written number line s t before after because holds same_t b takes stopped
ends_stopped M Told n logs start input now later old was written number line s t before after stop.WriteFault holds same_s same_t b takes stopped =
    ends_untold M Told n logs start input now later old was written number line s t before after holds same_s same_t b takes stopped
ends_stopped M Told n logs start input now later old was written number line s t before after stop.NoMemory holds same_s same_t b takes stopped =
    ends_wanting M Told n logs start input now later old was written number line s t before after holds same_s same_t b takes stopped

-- ---- the end of a script

all_lines : (front : List (List ℕ)) (input xs : List ℕ) → lines input ≡ front ++ lines xs → lines xs ≡ [] → lines input ≡ front
all_lines front input xs parts last = parts ∙ ap (λ rest. front ++ rest) last ∙ append-nil front

half_open : {W : Type 0} (M : Meaning W) (Told : Type 0) (n : ℕ) (logs : Bool) (start : Net) (input xs : List ℕ) (old was written : Option (List ℕ)) (number : ℕ) (s : W) (stores : List Records)
    → Holds M → M.bricks s ≡ n → Between M Told logs start (Some input) (Some xs) old number s stores was → lines xs ≡ [] → BeginsOpen (run (M.log s) start) was written
    → IsHalfOpen M Told n logs start input old written (M.log s) stores
half_open M Told n logs start input xs old was written number s stores holds same b last told_open = record {
  events = b.1;
  calls = told_open.calls;
  front = told_open.text.0;
  rest = told_open.text.1;
  all = ap (λ ls. orders ls [] 1) (all_lines b.0 input xs b.2 last) ∙ b.4;
  unanswered = told_open.unanswered;
  played = played M Told n start b.1 s stores holds same b.5.plays;
  begun = told_open.text.2;
  text = Appends-trans old was written (text_of logs (M.log s)) told_open.text.0 b.5.text told_open.text.3;
}

finished : {W : Type 0} (M : Meaning W) (Told : Type 0) (n : ℕ) (logs : Bool) (start : Net) (input xs : List ℕ) (old was written : Option (List ℕ)) (number : ℕ) (s : W) (stores : List Records) (how : Status)
    → Holds M → M.bricks s ≡ n → Between M Told logs start (Some input) (Some xs) old number s stores was → lines xs ≡ [] → Finishes how (run (M.log s) start) was written
    → Ends M Told n logs start how input old written (M.log s) stores
finished M Told n logs start input xs old was written number s stores status.Done holds same b last told_open = record {
  events = b.1;
  calls = told_open.calls;
  all = ap (λ ls. orders ls [] 1) (all_lines b.0 input xs b.2 last) ∙ b.4;
  unanswered = told_open.unanswered;
  played = played M Told n start b.1 s stores holds same b.5.plays;
  text = Appends-trans old was written (text_of logs (M.log s)) (open_text told_open.calls) b.5.text told_open.text;
}
finished M Told n logs start input xs old was written number s stores (status.BadScript line because) holds same b last told_open = absurd told_open
finished M Told n logs start input xs old was written number s stores (status.BadVolume line because) holds same b last told_open = absurd told_open
finished M Told n logs start input xs old was written number s stores status.BadWords holds same b last told_open = absurd told_open
finished M Told n logs start input xs old was written number s stores status.ReadFault holds same b last told_open = absurd told_open
finished M Told n logs start input xs old was written number s stores status.WriteFault holds same b last told_open =
    inr (half_open M Told n logs start input xs old was written number s stores holds same b last told_open)
finished M Told n logs start input xs old was written number s stores (status.WrongBricks because) holds same b last told_open = absurd told_open
finished M Told n logs start input xs old was written number s stores (status.StoreFault brick) holds same b last told_open = absurd told_open
finished M Told n logs start input xs old was written number s stores status.NoMemory holds same b last (inl kept) =
    inl (unread M Told n logs start (Some input) (Some xs) old was written number s stores holds same b kept)
finished M Told n logs start input xs old was written number s stores status.NoMemory holds same b last (inr told_open) =
    inr (inr (inr (half_open M Told n logs start input xs old was written number s stores holds same b last told_open)))

-- all lines were obeyed
pub ends_end : {W : Type 0} (M : Meaning W) (Told : Type 0) (n : ℕ) (logs : Bool) (start : Net) (input now old was written : Option (List ℕ)) (number : ℕ) (s : W) (stores : List Records) (how : Status)
    → Holds M → M.bricks s ≡ n → Between M Told logs start input now old number s stores was → HasNoLine now → Finishes how (run (M.log s) start) was written
    → IfSome input (λ xs. Ends M Told n logs start how xs old written (M.log s) stores)
ends_end M Told n logs start None now old was written number s stores how holds same b last told_open = tt
ends_end M Told n logs start (Some input) None old was written number s stores how holds same b last told_open = absurd b
ends_end M Told n logs start (Some input) (Some xs) old was written number s stores how holds same b last told_open =
    finished M Told n logs start input xs old was written number s stores how holds same b last told_open
