-- What was shown goes on by each entry.
use Rattle.std.proofs.Common.{◌≡◌, ◌≢◌, ℕ, ◌+◌, ◌<◌, Bool, true, false, not, cond, ◌==◌, ◌&&◌, Option, Some, None, List, [], ◌∷◌, ◌++◌, refl, sym, ◌∙◌, ap, subst, arith, ⊎_elim}
use Rattle.std.specs.Prelude.{is_some}
use Rattle.ec_attr.specs.declared.geometry.Geometry.{Geometry}
use Rattle.ec_attr.specs.declared.gfid.Gfid.{Gfid}
use Rattle.ec_attr.specs.declared.kind.Domain.TheVariants.{Inode}
use Rattle.ec_store.specs.Put.{put}
use Rattle.ec_wire.specs.declared.entry.Entry.{Entry}
use Rattle.ec_wire.specs.declared.entry.Entry.TheVariants.{Called, Sent, Executed, Heard, Lost, GivenUp, Stopped, Returned, Cut, Died, Yielded, Torn, Answered, Replaced}
use Rattle.ec_wire.specs.declared.message.Body.{Body}
use Rattle.ec_wire.specs.declared.message.Body.TheVariants.{ToBrick, ToClient}
use Rattle.ec_wire.specs.declared.message.Message.{Message}
use Rattle.ec_wire.specs.declared.op.Op.{Op}
use Rattle.ec_wire.specs.declared.reply.Reply.{Reply}
use Rattle.ec_wire.specs.declared.request.Request.{Request}
use Rattle.ec_wire.specs.declared.request.Request.TheVariants.{Query, Release}
use Rattle.ec_brick.specs.Replies.{Replies}
use Rattle.ec_brick.specs.Step.{Out, cut_off, executed as executed_brick, quiet}
use Rattle.ec_conduct.specs.Account.{Account, after as after_own}
use Rattle.ec_conduct.specs.Conduct.{is_release}
use Rattle.ec_conduct.specs.Given.{Given, quorum}
use Rattle.ec_conduct.specs.Opened.{account, kept_dealings, opened}
use Rattle.ec_conduct.specs.Own.{Own, Sends, Hears, GivesUp, Answers}
use Rattle.ec_conduct.specs.declared.kept.Kept.{Kept}
use Rattle.ec_conduct.proofs.Fronts.{account_append}
use Rattle.ec_history.specs.Accounts.{Books, Leaving, booked, given_to, hears as hears_books, hears_body, own_of, sender, sends, taken_over, with_own}
use Rattle.ec_history.specs.IsRun.{IsFirstOwed, May as MayEnter, MayExecute, MaySay}
use Rattle.ec_history.specs.Run.{Net, Owed, after as net_after, call_of, executed, executed_by, failing, heard, is_number, let_in_owed, out_of, own_owed, owed_after, torn_off, wiped}
use Rattle.ec_history.specs.Story.{Story}
use Rattle.ec_law_base.specs.State.{Ballot, State}
use Rattle.ec_law_ballots.specs.Act.{Act, after}
use Rattle.ec_law_ballots.specs.Guard.{Runs}
use Rattle.ec_law_net.specs.Grants.{LocksStand}
use Rattle.ec_law_net.specs.Link.{Linked}
use Rattle.ec_law_net.specs.Turns.{View, acts, acts_executed, acts_locks, acts_of_request, acts_sent, acts_worked, counted, exclusive, is_lock_on, is_over, seen_after, turn_after, turn_of}
use Rattle.ec_law_net.proofs.Changed.{after_both}
use Rattle.ec_law_turns.specs.Follows.{IsLock}
use Rattle.ec_law_turns.specs.Known.{Known}
use Rattle.ec_law_turns.specs.Orderly.{IsPlain}
use Rattle.ec_law_turns.specs.Shown.{HasLearnt, IsTold, Learns, OwedShown, Shown, Tells}
use Rattle.ec_law_turns.specs.Sound.{AreSound, IsSound}
use Rattle.ec_law_turns.specs.Told.{Told}
use Rattle.ec_law_turns.proofs.Allowed.{account_given}
use Rattle.ec_law_turns.proofs.Balloting.{ballot_other}
use Rattle.ec_law_turns.proofs.Basics.{differ, equal, put_here, put_some, some_is, some_none}
use Rattle.ec_law_turns.proofs.Hearing.{one_more}
use Rattle.ec_law_turns.proofs.Lasting.{asked_later, is_told_later, owed_shown_later}
use Rattle.ec_law_turns.proofs.Later.{Later, after_later, same_later}
use Rattle.ec_law_turns.proofs.Learning.{gives_up_learnt, hears_learnt, learns_later}
use Rattle.ec_law_turns.proofs.Numbered.{sender_is}
use Rattle.ec_law_turns.proofs.Replies.{heard_owed, torn_owed}
use Rattle.ec_law_turns.proofs.Sending.{newly_told, own_learnt}
use Rattle.ec_law_turns.proofs.Sends.{adds, moment_after, of_after, said_after}
use Rattle.ec_law_turns.proofs.SentKnown.{BodyKept, others_turn, turn_below}
use Rattle.ec_law_turns.proofs.SentSound.{own_sender}
use Rattle.ec_law_turns.proofs.Steps.{EntryKept, executed_same, heard_same, made_same, new_turn, torn_same}
use Rattle.ec_law_turns.proofs.Still.{Still, executed as executed_still, locks as locks_still, replaced as replaced_still, torn as torn_still}
use Rattle.ec_law_turns.proofs.Telling.{both_shown, cut_shown, lets_in_shown, let_go, own_shown, tells}
use Rattle.ec_law_turns.proofs.Tracks.{Adds, request_is}
use Rattle.ec_law_turns.proofs.Turned.{turn_kept, turn_other}

module _ (geometry : Geometry) (g : ℕ) (m : Net) (v : View) (b : Books) (known : Known geometry g m v b) (h : Shown geometry g m.said m.next v.turn v.of m.owed v.core b) where
  abbrev Call : ℕ → Account → Type 0
  Call a c = HasLearnt geometry g m.said v.turn v.of v.core a c

  same_still : (i : ℕ) (x : Message) → m.said i ≡ Some x → (m.said i ≡ Some x) × (v.of i ≡ v.of i)
  same_still i x e = (e, refl)

  -- messages and turns stay
  stays : (xs : List Act) → Runs geometry.n (quorum geometry) xs v.core → Still xs → (m' : Net) (turn' : ℕ → Option ℕ) (of' : ℕ → ℕ) (b' : Books) → m'.said ≡ m.said → m'.next ≡ m.next → turn' ≡ v.turn → of' ≡ v.of → OwedShown g m.said v.of (after xs v.core) m'.owed → ((a : ℕ) (given : Given) → b'.given a ≡ Some given → Call a (account given (b'.own a))) → Shown geometry g m'.said m'.next turn' of' m'.owed (after xs v.core) b'
  stays xs runs still m' turn' of' b' said next turn of owed calls = subst (λ (f : ℕ → Option Message). Shown geometry g f m'.next turn' of' m'.owed (after xs v.core) b') (sym said) (subst (λ (x : ℕ). Shown geometry g m.said x turn' of' m'.owed (after xs v.core) b') (sym next) (subst (λ (f : ℕ → Option ℕ). Shown geometry g m.said m.next f of' m'.owed (after xs v.core) b') (sym turn) (subst (λ (f : ℕ → ℕ). Shown geometry g m.said m.next v.turn f m'.owed (after xs v.core) b') (sym of) (record {
    to_say = owed;
    sent = λ i x re reply e body. is_told_later g m.said m.said v.of v.of v.core (after xs v.core) same_still later re reply (h.sent i x re reply e body);
    asked = λ i x q e body. asked_later g m.said m.said v.of v.of v.core (after xs v.core) same_still later geometry.n (quorum geometry) (v.of i) x.brick q (h.asked i x q e body);
    calls = λ a given e. let c = account given (b'.own a) in learns_later geometry g m.said m.said v.turn v.turn v.of v.of v.core (after xs v.core) same_still later a refl (λ t z zero. zeroed t ∙ zero) c.waits c.steps (c.on g) (calls a given e);
    fresh = λ t le. zeroed t ∙ h.fresh t le;
  }))))
    where
      later : Later v.core (after xs v.core)
      later = after_later geometry.n (quorum geometry) xs v.core runs

      zeroed : (t : ℕ) → ((after xs v.core).ballot t).number ≡ (v.core.ballot t).number
      zeroed t = ap (λ (p : Ballot). p.number) (still v.core t).1

  still_owed : (xs : List Act) → Runs geometry.n (quorum geometry) xs v.core → (owed : List Owed) → owed ≡ m.owed → OwedShown g m.said v.of (after xs v.core) owed
  still_owed xs runs owed e = subst (OwedShown g m.said v.of (after xs v.core)) (sym e) (owed_shown_later g m.said m.said v.of v.of v.core (after xs v.core) same_still (after_later geometry.n (quorum geometry) xs v.core runs) m.owed h.to_say)

  -- ## Calls

  own_more : (x : ℕ) (e : Own) → ((c : Account) → Call x c → Call x (after_own c e)) → (a : ℕ) (given : Given) → b.given a ≡ Some given → Call a (account given ((with_own b x e).own a))
  own_more x e goes = one_more Call b x e (λ given is c. goes (account given (b.own x)) c) h.calls

  heard_calls : (o : Option Message) → ((x : Message) (re : ℕ) (reply : Reply) → o ≡ Some x → x.body ≡ ToClient re reply → IsTold g m.said v.of v.core re reply) → (a : ℕ) (given : Given) → (hears_books m b o).given a ≡ Some given → Call a (account given ((hears_books m b o).own a))
  heard_calls None says = h.calls
  heard_calls (Some msg) says = by_body msg.body refl
    where
      by_body : (z : Body) → msg.body ≡ z → (a : ℕ) (given : Given) → (hears_body m b msg z).given a ≡ Some given → Call a (account given ((hears_body m b msg z).own a))
      by_body (ToBrick q) e = h.calls
      by_body (ToClient re reply) e = at (is_number re (m.awaits msg.call msg.brick) && not (m.answered msg.call))
        where
          at : (t : Bool) (a : ℕ) (given : Given) → (cond t (with_own b msg.call (Hears msg.brick re reply)) b).given a ≡ Some given → Call a (account given ((cond t (with_own b msg.call (Hears msg.brick re reply)) b).own a))
          at true = own_more msg.call (Hears msg.brick re reply) (λ c learnt. hears_learnt geometry g m.said v.turn v.of v.core (same_later v.core) msg.call c learnt msg.brick re reply (says msg re reply refl e))
          at false = h.calls

  new_call : (x : ℕ) (client : ℕ) (op : Op) (t : Story) → x ≡ m.calls + 1 → (a : ℕ) (given : Given) → put b.given x (Some (given_to geometry t b client op)) a ≡ Some given → Call a (account given (b.own a))
  new_call x client op t e a given is = ⊎_elim (λ z. fresh z.0 (some_is (given_to geometry t b client op) given z.1)) (λ z. h.calls a given z.1) (put_some b.given x (Some (given_to geometry t b client op)) a given is)
    where
      opens : (given : Given) → given.kept ≡ None → v.turn a ≡ None → Call a (opened given)
      opens given none no_turn = subst (λ (o : Option Kept). Learns geometry g m.said v.turn v.of v.core a (λ y. None) 1 (kept_dealings o g)) (sym none) (record {
        window = λ y. tt;
        free = λ z t has. absurd (some_none t (sym has ∙ no_turn));
        raised = λ number z. absurd (some_none number (sym z));
      })

      fresh : a ≡ x → given_to geometry t b client op ≡ given → Call a (account given (b.own a))
      fresh z same = subst (λ (es : List Own). Call a (account given es)) (sym (known.numbers.unsaid a (omega (arith, z, e)))) (opens given (ap (λ (y : Given). y.kept) (sym same) ∙ ap (λ (o : Option Kept). taken_over o op) (known.numbers.kept client)) (new_turn geometry g m v b known a (omega (arith, z, e))))

  -- ## A brick answers

  executed_owed : (l : LocksStand geometry.n g m v) (link : Linked geometry.n g m v) (i : ℕ) (version : Option ℕ) (failed : Bool) (may : MayExecute m i version failed) → OwedShown g m.said v.of (seen_after g m v (Executed i version failed)).core (net_after m (Executed i version failed)).owed
  executed_owed l link i version failed may =
      subst (λ (o : Option Message). OwedShown g m.said v.of (after (acts_executed g m v o version failed) v.core) (executed m o version failed).owed) (sym may.at.said)
      (subst (λ (z : Body). OwedShown g m.said v.of (after (acts_of_request g m v msg z version failed) v.core) (executed_by m msg z version failed).owed) (sym may.at.body)
      (both_shown g m.said v.of s' (own_owed msg out.says) (let_in_owed m msg.brick out) (own_shown g m.said v.of s' msg out.says own) (subst (λ (o : Out). OwedShown g m.said v.of s' (let_in_owed m msg.brick o)) (sym works) (lets_in_shown g m v.of s' msg.brick (m.brick msg.brick) (failing failed version) msg.client msg.no may.request (l.asks msg.brick below)))))
    where
      msg : Message
      msg = may.message

      out : Out
      out = out_of m may.message may.request version failed

      s' : State
      s' = after (acts_of_request g m v may.message (ToBrick may.request) version failed) v.core

      no : may.message.no ≡ i
      no = (known.messages.number i may.message may.at.said).0

      below : may.message.brick < geometry.n
      below = link.to i may.message may.request may.at.said may.at.body

      works : out_of m may.message may.request version failed ≡ executed_brick (m.brick may.message.brick) (failing failed version) may.message.client may.message.no may.request
      works = ap (λ (t : Bool). cond t (executed_brick (m.brick may.message.brick) (failing failed version) may.message.client may.message.no may.request) (quiet (m.brick may.message.brick))) may.at.up

      said : m.said may.message.no ≡ Some may.message
      said = ap m.said no ∙ may.at.said

      sound : IsSound g m.said v.of v.core.moment may.message.call may.message.brick may.message.no may.request
      sound = known.sound may.message.no may.message may.request said may.at.body

      locked : (x : Gfid) (j : ℕ) → may.request ≡ Query x j → x.0 ≡ g → IsLock g m.said may.message.call may.message.brick j
      locked x j e on = (subst (IsSound g m.said v.of v.core.moment may.message.call may.message.brick may.message.no) e sound on).0.lock

      tells_it : (reply : Reply) → Replies (out_of m may.message may.request version failed).says (Some reply) → Tells g m.said (after (acts_of_request g m v may.message (ToBrick may.request) version failed) v.core) (v.of may.message.no) may.message.brick may.request reply
      tells_it reply r = told_after reply (subst (λ (o : Out). Replies o.says (Some reply)) works r)
        where
          states : let_go geometry.n g m v link l may.message below version failed may.message.client may.message.no may.request ≡ after (acts_of_request g m v may.message (ToBrick may.request) version failed) v.core
          states = ap (λ (o : Out). after (acts_locks g m v may.message.brick (m.brick may.message.brick).asks o.brick.asks) (after (acts_worked g (v.of may.message.no) may.message.brick (counted v.core (v.of may.message.no) (exclusive g Inode (m.brick may.message.brick).asks)) may.request o.says) v.core)) (sym works)
              ∙ sym (after_both (acts_worked g (v.of may.message.no) may.message.brick (counted v.core (v.of may.message.no) (exclusive g Inode (m.brick may.message.brick).asks)) may.request out.says) (acts_locks g m v may.message.brick (m.brick may.message.brick).asks out.brick.asks) v.core)

          told_after : (reply : Reply) → Replies (executed_brick (m.brick may.message.brick) (failing failed version) may.message.client may.message.no may.request).says (Some reply) → Tells g m.said (after (acts_of_request g m v may.message (ToBrick may.request) version failed) v.core) (v.of may.message.no) may.message.brick may.request reply
          told_after reply r = subst (λ (s : State). Tells g m.said s (v.of may.message.no) may.message.brick may.request reply) states (tells geometry.n g m v link l may.message below version failed may.message.client may.message.no may.request reply locked r)

      own : (reply : Reply) → Replies (out_of m may.message may.request version failed).says (Some reply) → IsTold g m.said v.of (after (acts_of_request g m v may.message (ToBrick may.request) version failed) v.core) may.message.no reply
      own reply r = record { message = may.message; is = said; at = λ q body. subst (λ (y : Request). Tells g m.said (after (acts_of_request g m v may.message (ToBrick may.request) version failed) v.core) (v.of may.message.no) may.message.brick y reply) (request_is may.request q (sym may.at.body ∙ body)) (tells_it reply r) }

  -- ## A message is sent

  module _ (msg : Message) (next_no : msg.no ≡ m.next) (may : MaySay geometry.n m msg msg.body) (kept : BodyKept m b msg msg.body) (sound : AreSound g (said_after m msg) (of_after g v msg) (moment_after g v msg)) (runs : Runs geometry.n (quorum geometry) (acts_sent g v.core (turn_of g v msg) msg.body) v.core) where
    abbrev core_after : State
    core_after = after (acts_sent g v.core (turn_of g v msg) msg.body) v.core

    more : Adds m.said (said_after m msg) v.of (of_after g v msg) msg.no msg
    more = adds geometry.n g m v msg next_no known.messages

    later : Later v.core core_after
    later = after_later geometry.n (quorum geometry) (acts_sent g v.core (turn_of g v msg) msg.body) v.core runs

    told_then : (re : ℕ) (reply : Reply) → IsTold g m.said v.of v.core re reply → IsTold g (said_after m msg) (of_after g v msg) core_after re reply
    told_then = is_told_later g m.said (said_after m msg) v.of (of_after g v msg) v.core core_after more.still later

    left_owed : (z : Body) (owed : List Owed) → OwedShown g m.said v.of v.core owed → OwedShown g (said_after m msg) (of_after g v msg) core_after (owed_after owed z)
    left_owed (ToBrick q) owed o = owed_shown_later g m.said (said_after m msg) v.of (of_after g v msg) v.core core_after more.still later owed o
    left_owed (ToClient re reply) [] o = tt
    left_owed (ToClient re reply) (x ∷ owed) o = owed_shown_later g m.said (said_after m msg) v.of (of_after g v msg) v.core core_after more.still later owed o.1

    first_owed : (re : ℕ) (reply : Reply) (owed : List Owed) → OwedShown g m.said v.of v.core owed → IsFirstOwed owed msg re reply → IsTold g m.said v.of v.core re reply
    first_owed re reply [] o is = absurd is
    first_owed re reply (x ∷ owed) o is = subst (λ (y : ℕ). IsTold g m.said v.of v.core y reply) (sym is.to) (o.0 reply is.says)

    -- the message
    mine : (q : Request) → msg.body ≡ ToBrick q → Told geometry.n (quorum geometry) g (said_after m msg) (of_after g v msg) core_after (of_after g v msg msg.no) msg.brick q
    mine q body = subst (λ (t : ℕ). Told geometry.n (quorum geometry) g (said_after m msg) (of_after g v msg) core_after t msg.brick q) (sym (put_here v.of msg.no (turn_of g v msg) msg.no refl)) (either (is_release q) refl)
      where
        free : (r : Request) → is_release r ≡ true → Told geometry.n (quorum geometry) g (said_after m msg) (of_after g v msg) core_after (turn_of g v msg) msg.brick r
        free (Release x n) e = tt
        free r e = absurd (cc)

        either : (t : Bool) → is_release q ≡ t → Told geometry.n (quorum geometry) g (said_after m msg) (of_after g v msg) core_after (turn_of g v msg) msg.brick q
        either true e = free q e
        either false e =
            let asker = subst (λ (z : Body). MaySay geometry.n m msg z) body may in
            let made = known.numbers.made msg.call asker.asker asker.made in
            newly_told geometry g m v b msg next_no may kept known h q body made.1 made.2 (own_sender m b msg q e) runs

    -- the calls
    abbrev Then : ℕ → Account → Type 0
    Then a c = HasLearnt geometry g (said_after m msg) (turn_after g v msg) (of_after g v msg) core_after a c

    of_others : (a : ℕ) (given : Given) → b.given a ≡ Some given → a ≢ msg.call → Then a (account given (b.own a))
    of_others a given is ne =
        let c = account given (b.own a) in
        learns_later geometry g m.said (said_after m msg) v.turn (turn_after g v msg) v.of (of_after g v msg) v.core core_after more.still later a (turn_other g v msg a ne) (λ t e zero. ap (λ (p : Ballot). p.number) (ballot_other g v.core (turn_of g v msg) msg.body t (others_turn geometry g m v b msg next_no may known a t ne e)) ∙ zero) c.waits c.steps (c.on g) (h.calls a given is)

    calls_then : (z : Body) → msg.body ≡ z → (a : ℕ) (given : Given) → (sends m b msg z).given a ≡ Some given → Then a (account given ((sends m b msg z).own a))
    calls_then (ToClient re reply) e a given is = replies_then a given is
      where
        replies_then : (a : ℕ) (given : Given) → b.given a ≡ Some given → Then a (account given (b.own a))
        replies_then a given is =
            let c = account given (b.own a) in
            learns_later geometry g m.said (said_after m msg) v.turn (turn_after g v msg) v.of (of_after g v msg) v.core core_after more.still later a (turn_kept g v msg a (ap (λ (y : Body). is_lock_on g y && is_over v.core (v.turn msg.call)) e)) (λ t has zero. ap (λ (y : Body). ((after (acts_sent g v.core (turn_of g v msg) y) v.core).ballot t).number) e ∙ zero) c.waits c.steps (c.on g) (h.calls a given is)
    calls_then (ToBrick q) e a given is = ⊎_elim (λ none. nobody none a given is) (λ own. somebody own a given is) (sender_is geometry m b known.numbers msg q)
      where
        released : (r : Request) → msg.body ≡ ToBrick r → sender m b msg r ≡ None → (a : ℕ) (given : Given) → b.given a ≡ Some given → Then a (account given (b.own a))
        released (Release x n) body none a given is =
            let c = account given (b.own a) in
            learns_later geometry g m.said (said_after m msg) v.turn (turn_after g v msg) v.of (of_after g v msg) v.core core_after more.still later a (turn_kept g v msg a (ap (λ (y : Body). is_lock_on g y && is_over v.core (v.turn msg.call)) body)) (λ t has zero. ap (λ (y : Body). ((after (acts_sent g v.core (turn_of g v msg) y) v.core).ballot t).number) body ∙ zero) c.waits c.steps (c.on g) (h.calls a given is)
        released r body none a given is = absurd (cc)

        nobody : sender m b msg q ≡ None → (a : ℕ) (given : Given) → (sends m b msg (ToBrick q)).given a ≡ Some given → Then a (account given ((sends m b msg (ToBrick q)).own a))
        nobody none a given = subst (λ (s : Option ℕ). (own_of b s (Sends msg.brick msg.no q)).given a ≡ Some given → Then a (account given ((own_of b s (Sends msg.brick msg.no q)).own a))) (sym none) (λ is. released q e none a given is)

        somebody : sender m b msg q ≡ Some msg.call → (a : ℕ) (given : Given) → (sends m b msg (ToBrick q)).given a ≡ Some given → Then a (account given ((sends m b msg (ToBrick q)).own a))
        somebody own a given = subst (λ (s : Option ℕ). (own_of b s (Sends msg.brick msg.no q)).given a ≡ Some given → Then a (account given ((own_of b s (Sends msg.brick msg.no q)).own a))) (sym own) (λ is. at is (a == msg.call) refl)
          where
            plain : (given : Given) → b.given msg.call ≡ Some given → IsPlain (account given (b.own msg.call)).given.op
            plain given is = subst (λ (y : Given). IsPlain y.op) (sym (account_given given (b.own msg.call))) (known.numbers.given_below msg.call given is).1.plain

            own_then : (given : Given) → b.given msg.call ≡ Some given → Then msg.call (account given (b.own msg.call ++ Sends msg.brick msg.no q ∷ []))
            own_then given is = subst (Then msg.call) (sym (account_append (opened given) (b.own msg.call) (Sends msg.brick msg.no q ∷ []))) (own_learnt geometry g m v b msg next_no may kept known h q e given is own runs (sound msg.no msg q (put_here m.said msg.no (Some msg) msg.no refl) e) (plain given is))

            at : b.given a ≡ Some given → (t : Bool) → (a == msg.call) ≡ t → Then a (account given (cond t (b.own msg.call ++ Sends msg.brick msg.no q ∷ []) (b.own a)))
            at is true i = subst (λ (y : ℕ). Then y (account given (b.own msg.call ++ Sends msg.brick msg.no q ∷ []))) (sym (equal a msg.call i)) (own_then given (subst (λ (y : ℕ). b.given y ≡ Some given) (equal a msg.call i) is))
            at is false i = of_others a given is (differ a msg.call i)

    shown_sent : Shown geometry g (said_after m msg) (m.next + 1) (turn_after g v msg) (of_after g v msg) (owed_after m.owed msg.body) core_after (sends m b msg msg.body)
    shown_sent = record {
      to_say = left_owed msg.body m.owed h.to_say;
      sent = λ i x re reply e body. ⊎_elim (λ z. told_then re reply (first_owed re reply m.owed h.to_say (subst (λ (y : Body). MaySay geometry.n m msg y) (ap (λ (y : Message). y.body) z.1 ∙ body) may))) (λ z. told_then re reply (h.sent i x re reply z body)) (more.newest i x e);
      asked = λ i x q e body. ⊎_elim (λ z. newest i x q z.0 z.1 body) (λ z. subst (λ (t : ℕ). Told geometry.n (quorum geometry) g (said_after m msg) (of_after g v msg) core_after t x.brick q) (sym (more.still i x z).1) (asked_later g m.said (said_after m msg) v.of (of_after g v msg) v.core core_after more.still later geometry.n (quorum geometry) (v.of i) x.brick q (h.asked i x q z body))) (more.newest i x e);
      calls = calls_then msg.body refl;
      fresh = λ t le. ap (λ (p : Ballot). p.number) (ballot_other g v.core (turn_of g v msg) msg.body t (λ z. let l = turn_below geometry g m v b msg next_no may known in omega (arith, le, z, l))) ∙ h.fresh t (omega (arith, le));
    }
      where
        newest : (i : ℕ) (x : Message) (q : Request) → i ≡ msg.no → msg ≡ x → x.body ≡ ToBrick q → Told geometry.n (quorum geometry) g (said_after m msg) (of_after g v msg) core_after (of_after g v msg i) x.brick q
        newest i x q number same body = subst (λ (y : Message). Told geometry.n (quorum geometry) g (said_after m msg) (of_after g v msg) core_after (of_after g v msg i) y.brick q) same (subst (λ (j : ℕ). Told geometry.n (quorum geometry) g (said_after m msg) (of_after g v msg) core_after (of_after g v msg j) msg.brick q) (sym number) (mine q (ap (λ (y : Message). y.body) same ∙ body)))

pub shown_entry : (geometry : Geometry) (g : ℕ) (left : ℕ → Leaving) (m : Net) (v : View) (t : Story) (b : Books) (e : Entry) → MayEnter geometry.n m e → EntryKept m b e → Known geometry g m v b → AreSound g (net_after m e).said (seen_after g m v e).of (seen_after g m v e).core.moment → Linked geometry.n g m v → LocksStand geometry.n g m v → Runs geometry.n (quorum geometry) (acts g m v e) v.core → Shown geometry g m.said m.next v.turn v.of m.owed v.core b → Shown geometry g (net_after m e).said (net_after m e).next (seen_after g m v e).turn (seen_after g m v e).of (net_after m e).owed (seen_after g m v e).core (booked geometry left m t b e)
shown_entry geometry g left m v t b (Called a client op) may kept known sound link l runs h = let o = made_same g v a op in stays geometry g m v b known h [] runs (λ s t. (refl, refl)) (net_after m (Called a client op)) (seen_after g m v (Called a client op)).turn (seen_after g m v (Called a client op)).of (booked geometry left m t b (Called a client op)) refl refl o.0 o.1 h.to_say (new_call geometry g m v b known h a client op t may.0)
shown_entry geometry g left m v t b (Sent msg) may kept known sound link l runs h = shown_sent geometry g m v b known h msg may.0 may.1 kept sound runs
shown_entry geometry g left m v t b (Executed i version failed) may kept known sound link l runs h = let o = executed_same m (m.said i) version failed in stays geometry g m v b known h (acts g m v (Executed i version failed)) runs (executed_still g m v (m.said i) version failed) (net_after m (Executed i version failed)) v.turn v.of b o.0 o.1 refl refl (executed_owed geometry g m v b known h l link i version failed may) h.calls
shown_entry geometry g left m v t b (Heard i) may kept known sound link l runs h = let o = heard_same m (m.said i) in stays geometry g m v b known h [] runs (λ s t. (refl, refl)) (net_after m (Heard i)) v.turn v.of (booked geometry left m t b (Heard i)) o.0 o.1 refl refl (still_owed geometry g m v b known h [] runs (heard m (m.said i)).owed (heard_owed m (m.said i))) (heard_calls geometry g m v b known h (m.said i) (λ x re reply e body. h.sent i x re reply e body))
shown_entry geometry g left m v t b (Lost i) may kept known sound link l runs h = stays geometry g m v b known h [] runs (λ s t. (refl, refl)) (net_after m (Lost i)) v.turn v.of b refl refl refl refl h.to_say h.calls
shown_entry geometry g left m v t b (GivenUp client brick i) may kept known sound link l runs h = stays geometry g m v b known h [] runs (λ s t. (refl, refl)) (net_after m (GivenUp client brick i)) v.turn v.of (booked geometry left m t b (GivenUp client brick i)) refl refl refl refl h.to_say (own_more geometry g m v b known h (call_of (m.said i)) (GivesUp brick i) (λ c learnt. gives_up_learnt geometry g m.said v.turn v.of v.core (same_later v.core) (call_of (m.said i)) c learnt brick i))
shown_entry geometry g left m v t b (Stopped x) may kept known sound link l runs h = let xs = acts g m v (Stopped x) in stays geometry g m v b known h xs runs (λ s t. (refl, refl)) (net_after m (Stopped x)) v.turn v.of b refl refl refl refl (still_owed geometry g m v b known h xs runs m.owed refl) h.calls
shown_entry geometry g left m v t b (Returned x) may kept known sound link l runs h = stays geometry g m v b known h [] runs (λ s t. (refl, refl)) (net_after m (Returned x)) v.turn v.of b refl refl refl refl h.to_say h.calls
shown_entry geometry g left m v t b (Cut client x) may kept known sound link l runs h = let xs = acts g m v (Cut client x) in stays geometry g m v b known h xs runs (locks_still g m v x (m.brick x).asks (cut_off (m.brick x) client).brick.asks) (net_after m (Cut client x)) v.turn v.of b refl refl refl refl (cut_shown g m v.of (after xs v.core) x client (m.brick x) (l.asks x may.0)) h.calls
shown_entry geometry g left m v t b (Died client) may kept known sound link l runs h = stays geometry g m v b known h [] runs (λ s t. (refl, refl)) (net_after m (Died client)) v.turn v.of b refl refl refl refl h.to_say h.calls
shown_entry geometry g left m v t b (Yielded client) may kept known sound link l runs h = stays geometry g m v b known h [] runs (λ s t. (refl, refl)) m v.turn v.of (booked geometry left m t b (Yielded client)) refl refl refl refl h.to_say h.calls
shown_entry geometry g left m v t b (Torn i bytes version) may kept known sound link l runs h = let o = torn_same m (m.said i) bytes version in let xs = acts g m v (Torn i bytes version) in stays geometry g m v b known h xs runs (torn_still (m.said i)) (net_after m (Torn i bytes version)) v.turn v.of b o.0 o.1 refl refl (still_owed geometry g m v b known h xs runs (torn_off m (m.said i) bytes version).owed (torn_owed m (m.said i) bytes version)) h.calls
shown_entry geometry g left m v t b (Answered a answer) may kept known sound link l runs h = stays geometry g m v b known h [] runs (λ s t. (refl, refl)) (net_after m (Answered a answer)) v.turn v.of (booked geometry left m t b (Answered a answer)) refl refl refl refl h.to_say (own_more geometry g m v b known h a (Answers answer) (λ c learnt. learnt))
shown_entry geometry g left m v t b (Replaced x removed all) may kept known sound link l runs h = let xs = acts g m v (Replaced x removed all) in stays geometry g m v b known h xs runs (replaced_still (is_some ((m.brick x).records g) && not (is_some (wiped removed all (m.brick x).records g))) x) (net_after m (Replaced x removed all)) v.turn v.of b refl refl refl refl (still_owed geometry g m v b known h xs runs m.owed refl) h.calls
