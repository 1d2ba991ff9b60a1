-- A request is executed: its entry, and the cluster after it.
use Rattle.std.proofs.Common.{◌≡◌, ◌≢◌, ⊎_elim, ℕ, ◌<◌, Bool, true, false, cond, Option, Some, None, List, [], ◌∷◌, ◌++◌, length, map, refl, sym, ◌∙◌, ap, subst, arith, append_assoc, append-nil}
use Rattle.std.proofs.lemmas.Option.{slice_get_cases, slice_get_within}
use Rattle.std.proofs.Math.ListN.{set}
use Rattle.std.specs.List.{All}
use Rattle.std.specs.Prelude.{is_some, slice_get}
use Rattle.ec_brick.specs.Index.{IndexIs}
use Rattle.ec_brick.specs.KnownLaws.{KnownLaws}
use Rattle.ec_brick.specs.Meets.{Meets, failing_at, failing_of, is_fault}
use Rattle.ec_brick.specs.Replies.{Says, Nothing, Is, ShowsChunks, ShowsNames, ShowsGfids, Replies}
use Rattle.ec_brick.specs.State.{asks_of, indexed, state}
use Rattle.ec_brick.specs.Step.{Failing, Fine, Out, step}
use Rattle.ec_brick.specs.declared.brick.Brick.{Brick}
use Rattle.ec_brick.specs.declared.effects.Effects.{Effects}
use Rattle.ec_history.specs.IsRun.{IsAt, IsRun, May, MayExecute, is_fault as faults}
use Rattle.ec_history.specs.Run.{Net, after, executed, executed_as, executed_by, failing, out_of, own_owed, run}
use Rattle.ec_store.specs.Put.{put}
use Rattle.ec_store.specs.Records.{Records}
use Rattle.ec_wire.specs.Flight.{in_flight, next_number}
use Rattle.ec_wire.specs.Lanes.{is_to_brick, with_message}
use Rattle.ec_wire.specs.declared.entry.Entry.{Entry}
use Rattle.ec_wire.specs.declared.entry.Entry.TheVariants.{Executed}
use Rattle.ec_wire.specs.declared.message.Body.TheVariants.{ToBrick}
use Rattle.ec_wire.specs.declared.message.Message.{Message}
use Rattle.ec_wire.specs.declared.reply.Reply.{Reply}
use Rattle.ec_wire.specs.declared.reply.Reply.TheVariants.{Chunks, Names, Fault, Gfids}
use Rattle.ec_wire.specs.declared.request.Request.{Request}
use Rattle.ec_wire.specs.declared.wire.Wire.{Wire}
use Rattle.ec_cluster.proofs.Asking.{and_right}
use Rattle.ec_cluster.proofs.LettingIn.{KeepsAsked, step_asked}
use Rattle.ec_cluster.proofs.Matching.{flies_taken, matches_brick, records_at}
use Rattle.ec_cluster.proofs.Saying.{either, said_more}
use Rattle.ec_cluster.proofs.Soundness.{sound_bricks, sound_quiet, sound_taken}
use Rattle.ec_cluster.proofs.Advancing.{matches_as, sound_as}
use Rattle.ec_cluster.proofs.Waiters.{stands}
use Rattle.ec_cluster.specs.Entries.{reply_entries}
use Rattle.ec_cluster.specs.Inner.{Answers, AnswersPart, AsksBrick, IsAnswer, Owes, WasAsked, owed_to}
use Rattle.ec_cluster.specs.Matches.{IsBrick, Matches, StandsAs}
use Rattle.ec_cluster.specs.Said.{said_in}
use Rattle.ec_cluster.specs.Sound.{IsAsked, IsSound}
use Rattle.ec_cluster.specs.Steps.{Breaks, Executes, IsExecution}
use Rattle.ec_cluster.specs.Views.{bricks_of, can_execute, flight, goes_to_up, is_brick_up, is_up_at, log_of, next_of, places_of, size_of}
use Rattle.ec_cluster.specs.declared.cluster.Cluster.{Cluster}

failing_same : (b : Bool) (v : Option ℕ) → failing b v ≡ cond b (failing_at v) Fine
failing_same true v = refl
failing_same false v = refl

fault_of : (y : Reply) → is_fault (Some y) ≡ faults (Is y)
fault_of Fault = refl
fault_of y = refl

fault_same : (says : Says) (reply : Option Reply) → Replies says reply → is_fault reply ≡ faults says
fault_same Nothing reply r = ap is_fault r
fault_same (Is y) reply r = ap is_fault r ∙ fault_of y
fault_same (ShowsChunks piece first count) (Some (Chunks x)) r = refl
fault_same (ShowsChunks piece first count) reply r = absurd r
fault_same (ShowsNames past names) (Some (Names x)) r = refl
fault_same (ShowsNames past names) reply r = absurd r
fault_same (ShowsGfids past set) (Some (Gfids x)) r = refl
fault_same (ShowsGfids past set) reply r = absurd r

-- s before, t after the brick has executed message `num` and the entry is in the log
module _ (Told : Type 0) (laws : KnownLaws) (s t : Cluster) (wire : Wire) (log : List Entry) (u : Cluster) (before now : List Records) (fb fa : List ℕ) (num : ℕ) (message : Message) (q : Request) (e : Effects) (sound : IsSound s) (there : flight s num ≡ Some message) (body : message.body ≡ ToBrick q) (up : is_up_at s message.brick ≡ true) (gone : in_flight wire ≡ with_message (flight s) num None) (number : next_number wire ≡ next_of s) (a : AsksBrick Told (record s { wire = wire; log = log }) u before now fb fa message q e) (is : t ≡ record u { log = log_of s ++ Executed num e.version (is_fault e.reply) ∷ [] }) where
  abbrev entry : Entry
  entry = Executed num e.version (is_fault e.reply)

  quiet_entry : said_in (log_of s ++ entry ∷ []) ≡ said_in (log_of s)
  quiet_entry = said_more (log_of s) entry

  own : message.no ≡ num
  own = (sound.flies num message there).own

  sent : said_in (log_of s) message.no ≡ Some message
  sent = ap (said_in (log_of s)) own ∙ (sound.flies num message there).sent

  bricks_are : bricks_of t ≡ bricks_of u
  bricks_are = ap bricks_of is

  flight_is : flight t ≡ with_message (flight s) num None
  flight_is = ap flight is ∙ (ap (λ (x : Cluster). in_flight x.wire) a.kept ∙ gone)

  next_is : next_of t ≡ next_of s
  next_is = ap next_of is ∙ (ap (λ (x : Cluster). next_number x.wire) a.kept ∙ number)

  log_is : log_of t ≡ log_of s ++ entry ∷ []
  log_is = ap log_of is

  places_are : places_of t ≡ places_of s
  places_are = ap places_of is ∙ ap (λ (x : Cluster). places_of x) a.kept

  asked : KeepsAsked (said_in (log_of s)) message.brick (step (state a.old (λ g. None)) Fine message.client message.no q)
  asked = step_asked (said_in (log_of s)) message.brick (state a.old (λ g. None)) message sent refl (sound.asks message.brick a.old a.was) Fine q body

  asks_now : (b : ℕ) (k : Brick) → slice_get (bricks_of u) b ≡ Some k → All (IsAsked (said_in (log_of s)) b) (asks_of k)
  asks_now b k at = ⊎_elim
      (λ (z : b ≡ message.brick). let k_is : k ≡ a.new = (let h : Some k ≡ Some a.new = sym at ∙ (ap (slice_get (bricks_of u)) z ∙ a.is) in cc) in
      subst (λ c. All (IsAsked (said_in (log_of s)) c) (asks_of k)) (sym z) (subst (λ (x : Brick). All (IsAsked (said_in (log_of s)) message.brick) (asks_of x)) (sym k_is) (subst (All (IsAsked (said_in (log_of s)) message.brick)) (sym (a.locks (λ g. None) Fine).same_asks) asked.asks)))
      (λ (z : b ≢ message.brick). sound.asks b k (sym (a.others b z).0 ∙ at))
      (either b message.brick)

  pub sound_then : IsSound t
  sound_then = sound_as _ _ _ _ _ _ _ _ _ _ bricks_are flight_is next_is log_is places_are
      (sound_quiet (bricks_of u) (with_message (flight s) num None) (next_of s) (log_of s) (places_of s) entry
      (sound_bricks (bricks_of s) (with_message (flight s) num None) (next_of s) (log_of s) (places_of s) (bricks_of u) (sound_taken (bricks_of s) (flight s) (next_of s) (log_of s) (places_of s) num sound) a.size asks_now)
      quiet_entry)

  said_then : said_in (log_of t) ≡ said_in (log_of s)
  said_then = ap said_in log_is ∙ quiet_entry

  size_then : size_of t ≡ size_of s
  size_then = ap (λ (l : List Brick). length l) bricks_are ∙ a.size

  pub is_answer : IsAnswer t message e.reply e.granted
  is_answer = record {
    request = q;
    sent = (λ j. said_then j message.no) ∙ sent;
    body = body;
    to = subst (λ n. message.brick < n) (sym size_then) (sound.flies num message there).brick;
    fits = a.fits;
    waiters = subst (λ (f : ℕ → Option Message). All (WasAsked f message.brick) e.granted) (sym said_then) (subst (All (WasAsked (said_in (log_of s)) message.brick)) (sym (a.locks (λ g. None) Fine).same_lets_in) asked.waiters);
  }

  module _ (told : Told) (m : Net) (k : Matches s before m) where
    abbrev out : Out
    out = out_of m message q e.version (is_fault e.reply)

    said_num : m.said num ≡ Some message
    said_num = (λ i. k.said i num) ∙ (sound.flies num message there).sent

    old_at : (r : Records) × (slice_get before message.brick ≡ Some r)
    old_at = records_at (bricks_of s) (flight s) (next_of s) (log_of s) before [] m message.brick a.old k a.was

    meets_out : (z : Records) → slice_get now message.brick ≡ Some z → Meets out e (state a.new z) × IndexIs (indexed a.new) z
    meets_out z at =
        let r = old_at in
        let b = k.bricks message.brick a.old r.0 a.was r.1 in
        let h = a.meets told r.0 z r.1 at b.index in
        (subst (λ (f : Failing). Meets (step (m.brick message.brick) f message.client message.no q) e (state a.new z)) (sym (failing_same (is_fault e.reply) e.version)) (laws.meets (m.brick message.brick) (state a.old r.0) (failing_of e.reply e.version) message.client message.no q e (state a.new z) b.known h.0), h.1)

    new_at : (z : Records) × (slice_get now message.brick ≡ Some z)
    new_at = ⊎_elim (λ p. (p.0, p.2)) (λ p. absurd (let w = slice_get_within before message.brick old_at.0 old_at.1 in omega (arith, a.stores, p.0))) (slice_get_cases now message.brick).1

    up_then : (m.brick message.brick).up ≡ true
    up_then = let r = old_at in sym (k.bricks message.brick a.old r.0 a.was r.1).known.same_up ∙ (sym (ap is_brick_up a.was) ∙ up)

    pub says_what : Replies out.says e.reply
    says_what = (meets_out new_at.0 new_at.1).0.says

    pub may_execute : May (size_of s) m entry
    may_execute =
        let h = (meets_out new_at.0 new_at.1).0 in
        let is_at : IsAt m num message q = record { said = said_num; body = body; flying = k.flies num ∙ ap is_some there; up = up_then; nothing_owed = k.owes } in
        let may : MayExecute m num e.version (is_fault e.reply) = record { message = message; request = q; at = is_at; read = h.same_version; fault = fault_same out.says e.reply h.says } in
        may

    same_net : executed_as m message out ≡ after m entry
    same_net = (λ i. executed_by m message (sym body i) e.version (is_fault e.reply)) ∙ (λ i. executed m (sym said_num i) e.version (is_fault e.reply))

    owed_then : (executed_as m message out).owed ≡ own_owed message out.says ++ map (owed_to (said_in (log_of t)) message.brick) e.granted
    owed_then = let said_path : m.said ≡ said_in (log_of t) = k.said ∙ sym said_then in let lets : out.lets_in ≡ e.granted = sym (meets_out new_at.0 new_at.1).0.same_lets_in in (λ j. own_owed message out.says ++ map (owed_to (said_path j) message.brick) (lets j))

    pub owes_then : Owes t now (own_owed message out.says ++ map (owed_to (said_in (log_of t)) message.brick) e.granted) (after m entry)
    owes_then = subst (Owes t now (own_owed message out.says ++ map (owed_to (said_in (log_of t)) message.brick) e.granted)) same_net
        (matches_as _ _ _ _ _ _ _ _ now _ (executed_as m message out) bricks_are flight_is next_is log_is
        (matches_brick (bricks_of s) (flight s) (next_of s) (log_of s) before (bricks_of u) now m (executed_as m message out) message.brick out.brick (with_message (flight s) num None) entry _ k quiet_entry a.others
        (λ x z at stored.
        let x_is : x ≡ a.new = (let h : Some x ≡ Some a.new = sym at ∙ a.is in cc) in
        let h = meets_out z stored in
        subst (λ (y : Brick). IsBrick out.brick y z) (sym x_is) (record { known = h.0.state; index = h.1 }))
        refl refl (λ i. (λ j. put m.flying (own j) false i) ∙ flies_taken (bricks_of s) (flight s) (next_of s) (log_of s) before num m i k.flies) refl owed_then (a.stores ∙ (k.stores ∙ sym a.size))))

  -- the replies are sent after it
  module _ (v : Cluster) where
    entries_same : reply_entries (said_in (log_of t)) message (next_of t) e.reply e.granted ≡ reply_entries (said_in (log_of s)) message (next_of s) e.reply e.granted
    entries_same = (λ j. reply_entries (said_then j) message (next_is j) e.reply e.granted)

    longer : (es : List Entry) → log_of v ≡ log_of t ++ es → log_of v ≡ log_of s ++ entry ∷ es
    longer es h = h ∙ (ap (λ l. l ++ es) log_is ∙ append_assoc (log_of s) (entry ∷ []) es)

    pub executes : Answers t v message e.reply e.granted → Executes Told s v before now fb fa num
    executes g = record {
      message = message;
      request = q;
      old = a.old;
      new = a.new;
      effects = e;
      sent = there;
      own = own;
      body = body;
      was = a.was;
      is = (λ j. slice_get ((g.bricks ∙ bricks_are) j) message.brick) ∙ a.is;
      log = longer _ g.log ∙ ap (λ l. log_of s ++ entry ∷ l) entries_same;
      locks = a.locks;
      fence = a.fence;
      fits = a.fits;
      cause = a.cause;
      others = λ b n. ((λ j. slice_get ((g.bricks ∙ bricks_are) j) b) ∙ (a.others b n).0, (a.others b n).1);
      size = ap (λ (l : List Brick). length l) g.bricks ∙ size_then;
      sound = g.sound;
      runs = λ told m k given.
          let rest = g.runs now (out told m k).says (after m entry) (says_what told m k) (owes_then told m k) in
          subst (λ (l : List Entry). IsRun (size_of s) (entry ∷ l) m × Owes v now [] (run (entry ∷ l) m)) entries_same ((may_execute told m k, subst (λ n. IsRun n (reply_entries (said_in (log_of t)) message (next_of t) e.reply e.granted) (after m entry)) size_then rest.0), rest.1);
    }

    pub breaks : AnswersPart t v message e.reply e.granted → Breaks (IsExecution num) Told s v before now
    breaks g = record {
      entries = entry ∷ g.entries;
      log = longer g.entries g.log;
      begun = ((e.version, is_fault e.reply, refl), g.follow);
      runs = λ told m k.
          let rest = g.runs now (out told m k).says (after m entry) (says_what told m k) (owes_then told m k) in
          ((may_execute told m k, subst (λ n. IsRun n g.entries (after m entry)) size_then rest.0), subst (λ n. StandsAs n now (run g.entries (after m entry))) size_then rest.1);
    }

-- nothing was done
pub unbroken : (Named : Entry → Type 0) (Told : Type 0) (s t : Cluster) (before now : List Records) → log_of t ≡ log_of s → (Told → now ≡ before) → Breaks Named Told s t before now
unbroken Named Told s t before now log same = record {
  entries = [];
  log = log ∙ sym (append-nil (log_of s));
  begun = tt;
  runs = λ told m k. (tt, subst (λ (l : List Records). StandsAs (size_of s) l m) (sym (same told)) (stands (bricks_of s) (flight s) (next_of s) (log_of s) before [] m k));
}

pub execute_up : (s : Cluster) (num : ℕ) (message : Message) → flight s num ≡ Some message → can_execute s num ≡ true → is_up_at s message.brick ≡ true
execute_up s num message there can = and_right (is_to_brick message.body) (is_up_at s message.brick) (sym (ap (goes_to_up s) there) ∙ can)
