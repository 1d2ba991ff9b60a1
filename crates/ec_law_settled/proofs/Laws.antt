-- The laws of settled calls.
use Rattle.std.proofs.Common.{◌≡◌, ℕ, Bool, true, false, Option, Some, None, List, [], ◌∷◌, ◌++◌, refl, sym, ap, subst, ◌∙◌}
use Rattle.ec_brick.specs.State.{State}
use Rattle.ec_history.proofs.Runs.{front, joins, rest}
use Rattle.ec_history.specs.IsRun.{IsRun, MayExecute}
use Rattle.ec_history.specs.Run.{Net, after, fresh, run}
use Rattle.ec_history.specs.Script.{IsSettled, Step, entries_of}
use Rattle.ec_wire.specs.declared.entry.Entry.{Entry}
use Rattle.ec_wire.specs.declared.entry.Entry.TheVariants.{Called, Sent, Executed, Heard}
use Rattle.ec_wire.specs.declared.message.Body.TheVariants.{ToBrick, ToClient}
use Rattle.ec_wire.specs.declared.message.Message.{Message}
use Rattle.ec_wire.specs.declared.op.Op.{Op}
use Rattle.ec_wire.specs.declared.reply.Reply.{Reply}
use Rattle.ec_wire.specs.declared.request.Request.{Request}
use Rattle.ec_law_settled.specs.Calm.{AllSend, AsksOnce, IsCalmEntry}
use Rattle.ec_law_settled.specs.Laws.{AreDelivered, AreHeard, GoesCalmly, IsExecuted, OfEverySettledCall, SettledLaws, StayDead, StayUp, WaitsForNobody}
use Rattle.ec_law_settled.specs.Settled.{Has, IsQuiet, IsSettledCall}
use Rattle.ec_law_settled.specs.Unchanged.{ExecutesOwn, IsOwnRequest, UnchangedLaws}
use Rattle.ec_law_settled.proofs.Along.{AllCome, calm_along, come_follow, come_front, come_join, come_rest, dead_along, executed_along, heard_along, once_before, send_front, send_rest, steps_come, up_along}
use Rattle.ec_law_settled.proofs.Calm.{IsCalm}
use Rattle.ec_law_settled.proofs.Counted.{IsCounted, comes, counted, fresh_counted}
use Rattle.ec_law_settled.proofs.Entries.{entry_is}
use Rattle.ec_law_settled.proofs.Executes.{own}
use Rattle.ec_law_settled.proofs.Moves.{called_calm, none_queued}
use Rattle.ec_law_settled.proofs.Places.{put_here}
use Rattle.ec_law_settled.proofs.Unchanged.{flats_law, records_law}

first_is : (e f : Entry) (es fs : List Entry) → e ∷ es ≡ f ∷ fs → e ≡ f
first_is e f es fs x = cc

others_are : (e f : Entry) (es fs : List Entry) → e ∷ es ≡ f ∷ fs → es ≡ fs
others_are e f es fs x = cc

-- Of a call that is made at a quiet moment and the entries after it.
module _ (n call client : ℕ) (op : Op) (m : Net) (counted_before : IsCounted n m) (quiet : IsQuiet n m) (tail : List Entry) (runs : IsRun n (Called call client op ∷ tail) m) (come : AllCome tail (after m (Called call client op)))
    (sends : AllSend (Called call client op ∷ tail) m) (settled : IsSettled (run tail (after m (Called call client op)))) (once : AsksOnce (run tail (after m (Called call client op)))) where
  abbrev begun : Net
  begun = after m (Called call client op)

  begun_counted : IsCounted n begun
  begun_counted = comes n m (Called call client op) runs.0 counted_before

  begun_calm : IsCalm n begun call client
  begun_calm = called_calm n call client op m counted_before quiet runs.0.0 runs.0.1 runs.0.2

  -- the moment after some of the entries
  module _ (es fs : List Entry) (parts : tail ≡ es ++ fs) where
    runs_so : IsRun n (es ++ fs) begun
    runs_so = subst (λ (l : List Entry). IsRun n l begun) parts runs.1

    come_so : AllCome (es ++ fs) begun
    come_so = subst (λ (l : List Entry). AllCome l begun) parts come

    sends_so : AllSend (es ++ fs) begun
    sends_so = subst (λ (l : List Entry). AllSend l begun) parts sends.1

    then_counted : IsCounted n (run es begun)
    then_counted = counted n es begun (front n es fs begun runs_so) begun_counted

    then_ends : run tail begun ≡ run fs (run es begun)
    then_ends = ap (λ (l : List Entry). run l begun) parts ∙ joins es fs begun

    end_once : AsksOnce (run fs (run es begun))
    end_once = subst AsksOnce then_ends once

    then_once : AsksOnce (run es begun)
    then_once = once_before n fs (run es begun) (rest n es fs begun runs_so) then_counted end_once

    then_calm : IsCalm n (run es begun) call client
    then_calm = calm_along n call client es begun (front n es fs begun runs_so) (come_front es fs begun come_so) (send_front es fs begun sends_so) begun_counted then_once begun_calm

    then_up : (b : ℕ) → ((run es begun).brick b).up ≡ (m.brick b).up
    then_up b = up_along n call client es begun (front n es fs begun runs_so) (come_front es fs begun come_so) (send_front es fs begun sends_so) begun_counted then_once begun_calm b

    then_dead : (c : ℕ) → (run es begun).dead c ≡ m.dead c
    then_dead c = dead_along n call client es begun (front n es fs begun runs_so) (come_front es fs begun come_so) (send_front es fs begun sends_so) begun_counted then_once begun_calm c

    then_landed : (i : ℕ) → (run fs (run es begun)).flying i ≡ false
    then_landed i = subst (λ (k : Net). k.flying i ≡ false) then_ends (settled.none_fly i)

  goes_calmly : GoesCalmly n m call (Called call client op ∷ tail)
  goes_calmly [] rest_of e parts = subst (IsCalmEntry m) (first_is (Called call client op) e tail rest_of parts) tt
  goes_calmly (f ∷ es) rest_of e parts = subst (λ (z : Entry). IsCalmEntry (run es (after m z)) e) (first_is (Called call client op) f tail (es ++ e ∷ rest_of) parts) (later (others_are (Called call client op) f tail (es ++ e ∷ rest_of) parts))
    where
      later : tail ≡ es ++ e ∷ rest_of → IsCalmEntry (run es begun) e
      later parts = entry_is n call client (run es begun) (then_counted es (e ∷ rest_of) parts) (then_calm es (e ∷ rest_of) parts) (then_once es (e ∷ rest_of) parts) e
          (rest n es (e ∷ rest_of) begun (runs_so es (e ∷ rest_of) parts)).0 (come_rest es (e ∷ rest_of) begun (come_so es (e ∷ rest_of) parts)).0

  stay_up : StayUp n m call (Called call client op ∷ tail)
  stay_up [] fs b parts = refl
  stay_up (f ∷ es) fs b parts = subst (λ (z : Entry). ((run es (after m z)).brick b).up ≡ (m.brick b).up) (first_is (Called call client op) f tail (es ++ fs) parts) (then_up es fs (others_are (Called call client op) f tail (es ++ fs) parts) b)

  stay_dead : StayDead n m call (Called call client op ∷ tail)
  stay_dead [] fs c parts = refl
  stay_dead (f ∷ es) fs c parts = subst (λ (z : Entry). (run es (after m z)).dead c ≡ m.dead c) (first_is (Called call client op) f tail (es ++ fs) parts) (then_dead es fs (others_are (Called call client op) f tail (es ++ fs) parts) c)

  -- what is executed is the call's
  executes_own : ExecutesOwn n m call (Called call client op ∷ tail)
  executes_own [] fs i version failed parts = absurd (not_executed i version failed (first_is (Called call client op) (Executed i version failed) tail fs parts))
    where
      not_executed : (i : ℕ) (version : Option ℕ) (failed : Bool) → Called call client op ≡ Executed i version failed → ⊥
      not_executed i version failed e = cc
  executes_own (f ∷ es) fs i version failed parts = subst (λ (z : Entry). IsOwnRequest (run es (after m z)) call i) (first_is (Called call client op) f tail (es ++ Executed i version failed ∷ fs) parts)
      (own_later (others_are (Called call client op) f tail (es ++ Executed i version failed ∷ fs) parts))
    where
      own_later : tail ≡ es ++ Executed i version failed ∷ fs → IsOwnRequest (run es begun) call i
      own_later parts =
          let on = Executed i version failed ∷ fs in
          let may : MayExecute (run es begun) i version failed = (rest n es on begun (runs_so es on parts)).0 in
          record {
            message = may.message;
            request = may.request;
            said = may.at.said;
            body = may.at.body;
            own = λ speaks. (own n call client (run es begun) (then_counted es on parts) (then_calm es on parts) (then_once es on parts) i version failed may speaks).0;
            up = may.at.up;
          }

  end_calm : IsCalm n (run tail begun) call client
  end_calm = calm_along n call client tail begun runs.1 come sends.1 begun_counted once begun_calm

  waits_for_nobody : WaitsForNobody n m call (Called call client op ∷ tail)
  waits_for_nobody unanswered b lt = by ((run tail begun).awaits call b) refl
    where
      by : (o : Option ℕ) → (run tail begun).awaits call b ≡ o → (run tail begun).awaits call b ≡ None
      by None e = e
      by (Some i) e = absurd (settled.none_stuck client (
        b,
        record {
          call = call;
          number = i;
          calling = record { asker = end_calm.asker; made = end_calm.made; of_client = end_calm.of_client; unanswered = unanswered; lives = end_calm.lives };
          waits = e;
          out_of_queue = none_queued (run tail begun).said (run tail begun).flying call b ((run tail begun).brick b).asks (end_calm.asks b lt) i;
        },
      ))

  sent_later : (es fs : List Entry) (msg : Message) (q : Request) → tail ≡ es ++ Sent msg ∷ fs → msg.body ≡ ToBrick q → (m.brick msg.brick).up ≡ true → Has (IsExecuted msg.no) fs
  sent_later es fs msg q parts body up =
      let runs_on = rest n es (Sent msg ∷ fs) begun (runs_so es (Sent msg ∷ fs) parts) in
      let come_on = come_rest es (Sent msg ∷ fs) begun (come_so es (Sent msg ∷ fs) parts) in
      let sends_on = send_rest es (Sent msg ∷ fs) begun (sends_so es (Sent msg ∷ fs) parts) in
      let now_counted = comes n (run es begun) (Sent msg) runs_on.0 (then_counted es (Sent msg ∷ fs) parts) in
      let here = calm_along n call client (Sent msg ∷ []) (run es begun) (runs_on.0, tt) (come_on.0, tt) (sends_on.0, tt) (then_counted es (Sent msg ∷ fs) parts) (once_before n fs (after (run es begun) (Sent msg)) runs_on.1 now_counted (end_once es (Sent msg ∷ fs) parts)) (then_calm es (Sent msg ∷ fs) parts) in
      executed_along n call client fs (after (run es begun) (Sent msg)) runs_on.1 come_on.1 sends_on.1 now_counted (end_once es (Sent msg ∷ fs) parts) here msg q
      (put_here (run es begun).said msg.no (Some msg) msg.no refl) body (then_up es (Sent msg ∷ fs) parts msg.brick ∙ up) (put_here (run es begun).flying msg.no true msg.no refl) (then_landed es (Sent msg ∷ fs) parts msg.no)

  replied_later : (es fs : List Entry) (msg : Message) (re : ℕ) (reply : Reply) → tail ≡ es ++ Sent msg ∷ fs → msg.body ≡ ToClient re reply → Has (λ e. e ≡ Heard msg.no) fs
  replied_later es fs msg re reply parts body =
      let runs_on = rest n es (Sent msg ∷ fs) begun (runs_so es (Sent msg ∷ fs) parts) in
      let come_on = come_rest es (Sent msg ∷ fs) begun (come_so es (Sent msg ∷ fs) parts) in
      let sends_on = send_rest es (Sent msg ∷ fs) begun (sends_so es (Sent msg ∷ fs) parts) in
      let now_counted = comes n (run es begun) (Sent msg) runs_on.0 (then_counted es (Sent msg ∷ fs) parts) in
      let here = calm_along n call client (Sent msg ∷ []) (run es begun) (runs_on.0, tt) (come_on.0, tt) (sends_on.0, tt) (then_counted es (Sent msg ∷ fs) parts) (once_before n fs (after (run es begun) (Sent msg)) runs_on.1 now_counted (end_once es (Sent msg ∷ fs) parts)) (then_calm es (Sent msg ∷ fs) parts) in
      heard_along n call client fs (after (run es begun) (Sent msg)) runs_on.1 come_on.1 sends_on.1 now_counted (end_once es (Sent msg ∷ fs) parts) here msg re reply
      (put_here (run es begun).said msg.no (Some msg) msg.no refl) body (put_here (run es begun).flying msg.no true msg.no refl) (then_landed es (Sent msg ∷ fs) parts msg.no)

  delivered : AreDelivered n m call (Called call client op ∷ tail)
  delivered [] fs msg q parts body up = absurd (cc)
  delivered (f ∷ es) fs msg q parts body up = sent_later es fs msg q (others_are (Called call client op) f tail (es ++ Sent msg ∷ fs) parts) body up

  heard : AreHeard n m call (Called call client op ∷ tail)
  heard [] fs msg re reply parts body = absurd (cc)
  heard (f ∷ es) fs msg re reply parts body = replied_later es fs msg re reply (others_are (Called call client op) f tail (es ++ Sent msg ∷ fs) parts) body

-- ## Of the events of a log

module _ (n : ℕ) (bricks : ℕ → State) (earlier : List Entry) (call client : ℕ) (op : Op) (called : Step) (steps : List Step) (runs : IsRun n (earlier ++ entries_of (called ∷ steps)) (fresh bricks))
    (s : IsSettledCall n (run earlier (fresh bricks)) call client op called steps) (sends : AllSend (entries_of (called ∷ steps)) (run earlier (fresh bricks))) (once : AsksOnce (run (earlier ++ entries_of (called ∷ steps)) (fresh bricks))) where
  abbrev start : Net
  start = run earlier (fresh bricks)

  abbrev tail : List Entry
  tail = called.follow ++ entries_of steps

  start_counted : IsCounted n start
  start_counted = counted n earlier (fresh bricks) (front n earlier (entries_of (called ∷ steps)) (fresh bricks) runs) (fresh_counted n bricks)

  goes_on : IsRun n (Called call client op ∷ tail) start
  goes_on = subst (λ (e : Entry). IsRun n (e ∷ tail) start) s.is (rest n earlier (entries_of (called ∷ steps)) (fresh bricks) runs)

  come_named : AllCome tail (after start called.named)
  come_named = come_join called.follow (entries_of steps) (after start called.named) (come_follow called.follow (after start called.named) s.event.1) (steps_come steps (run called.follow (after start called.named)) s.settle.0)

  come_called : AllCome tail (after start (Called call client op))
  come_called = subst (λ (e : Entry). AllCome tail (after start e)) s.is come_named

  send_called : AllSend (Called call client op ∷ tail) start
  send_called = subst (λ (e : Entry). AllSend (e ∷ tail) start) s.is sends

  settled_named : IsSettled (run tail (after start called.named))
  settled_named = subst IsSettled (sym (joins called.follow (entries_of steps) (after start called.named))) s.settle.1

  settled_called : IsSettled (run tail (after start (Called call client op)))
  settled_called = subst (λ (e : Entry). IsSettled (run tail (after start e))) s.is settled_named

  once_called : AsksOnce (run tail (after start (Called call client op)))
  once_called = subst (λ (e : Entry). AsksOnce (run tail (after start e))) s.is (subst AsksOnce (joins earlier (entries_of (called ∷ steps)) (fresh bricks)) once)

  of_named : (law : ℕ → Net → ℕ → List Entry → Type 0) → law n start call (Called call client op ∷ tail) → law n start call (entries_of (called ∷ steps))
  of_named law h = subst (λ (e : Entry). law n start call (e ∷ tail)) (sym s.is) h

  calm_law : GoesCalmly n start call (entries_of (called ∷ steps))
  calm_law = of_named GoesCalmly (goes_calmly n call client op start start_counted s.quiet tail goes_on come_called send_called settled_called once_called)

  up_law : StayUp n start call (entries_of (called ∷ steps))
  up_law = of_named StayUp (stay_up n call client op start start_counted s.quiet tail goes_on come_called send_called settled_called once_called)

  dead_law : StayDead n start call (entries_of (called ∷ steps))
  dead_law = of_named StayDead (stay_dead n call client op start start_counted s.quiet tail goes_on come_called send_called settled_called once_called)

  waits_law : WaitsForNobody n start call (entries_of (called ∷ steps))
  waits_law = of_named WaitsForNobody (waits_for_nobody n call client op start start_counted s.quiet tail goes_on come_called send_called settled_called once_called)

  delivered_law : AreDelivered n start call (entries_of (called ∷ steps))
  delivered_law = of_named AreDelivered (delivered n call client op start start_counted s.quiet tail goes_on come_called send_called settled_called once_called)

  heard_law : AreHeard n start call (entries_of (called ∷ steps))
  heard_law = of_named AreHeard (heard n call client op start start_counted s.quiet tail goes_on come_called send_called settled_called once_called)

  own_law : ExecutesOwn n start call (entries_of (called ∷ steps))
  own_law = of_named ExecutesOwn (executes_own n call client op start start_counted s.quiet tail goes_on come_called send_called settled_called once_called)

pub unchanged : UnchangedLaws OfEverySettledCall
unchanged = record { own = own_law; records = records_law calm_law; flats = flats_law calm_law }

pub laws : SettledLaws OfEverySettledCall
laws = record { calm = calm_law; up = up_law; dead = dead_law; waits = waits_law; delivered = delivered_law; heard = heard_law }
