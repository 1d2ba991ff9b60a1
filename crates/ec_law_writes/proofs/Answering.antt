-- A change of which a call has heard that it was done was done, entry by entry.
use Rattle.std.proofs.Common.{◌≡◌, ℕ, ◌+◌, ◌<◌, Bool, true, false, not, cond, ◌==◌, ◌&&◌, ◌||◌, Option, Some, None, List, [], ◌∷◌, ◌++◌, refl, sym, ◌∙◌, ap, subst, arith, ⊎_elim}
use Rattle.std.specs.Prelude.{map}
use Rattle.ec_attr.specs.declared.geometry.Geometry.{Geometry}
use Rattle.ec_locks.specs.Asked.{granted}
use Rattle.ec_locks.specs.Table.{by_queue, let_in, waiter_of}
use Rattle.ec_locks.specs.declared.ask.Ask.{Ask as Asking}
use Rattle.ec_locks.specs.declared.ask.Leaving.{Leaving}
use Rattle.ec_locks.specs.declared.ask.Leaving.TheVariants.{Client}
use Rattle.ec_locks.specs.declared.waiters.Waiter.{Waiter}
use Rattle.ec_store.specs.Put.{put}
use Rattle.ec_wire.specs.declared.entry.Entry.{Entry}
use Rattle.ec_wire.specs.declared.entry.Entry.TheVariants.{Called, Sent, Executed, Heard, Lost, GivenUp, Stopped, Returned, Cut, Died, Yielded, Torn, Answered, Replaced}
use Rattle.ec_wire.specs.declared.message.Body.{Body}
use Rattle.ec_wire.specs.declared.message.Body.TheVariants.{ToBrick, ToClient}
use Rattle.ec_wire.specs.declared.message.Message.{Message}
use Rattle.ec_wire.specs.declared.op.Op.{Op}
use Rattle.ec_wire.specs.declared.reply.Reply.{Reply}
use Rattle.ec_wire.specs.declared.request.Request.{Request}
use Rattle.ec_wire.specs.declared.request.Request.TheVariants.{Ask}
use Rattle.ec_brick.specs.Replies.{Says, Nothing, Is, ShowsChunks, ShowsNames, ShowsGfids, Replies}
use Rattle.ec_brick.specs.State.{State as Brick}
use Rattle.ec_brick.specs.Step.{Failing, Out, cut_off, executed as executed_brick, quiet}
use Rattle.ec_conduct.specs.Account.{Account, after as after_own}
use Rattle.ec_conduct.specs.Done.{is_done as is_reply_done}
use Rattle.ec_conduct.specs.Given.{Given}
use Rattle.ec_conduct.specs.Opened.{account, kept_dealings, opened}
use Rattle.ec_conduct.specs.Own.{Own, Sends, Hears, GivesUp, Answers}
use Rattle.ec_conduct.specs.declared.kept.Kept.{Kept}
use Rattle.ec_conduct.proofs.Fronts.{account_append}
use Rattle.ec_history.specs.Accounts.{Books, Leaving as Left, booked, given_to, hears as hears_books, hears_body, own_of, sender, sends, taken_over, with_own}
use Rattle.ec_history.specs.IsRun.{IsFirstOwed, May as MayEnter, MayExecute, MaySay}
use Rattle.ec_history.specs.Run.{Net, Owed, after as net_after, call_of, executed, executed_by, failing, granted_owed, heard, is_number, let_in_owed, out_of, own_owed, owed_after, torn_off}
use Rattle.ec_history.specs.Story.{Story, is_done}
use Rattle.ec_law_net.specs.Grants.{AreAsks, IsAskOf, LocksStand}
use Rattle.ec_law_net.specs.Turns.{View}
use Rattle.ec_law_net.proofs.Tables.{Each}
use Rattle.ec_law_turns.specs.Known.{Known}
use Rattle.ec_law_turns.specs.Orderly.{IsPlain}
use Rattle.ec_law_turns.proofs.Allowed.{account_given, no_heal}
use Rattle.ec_law_turns.proofs.Basics.{equal, itself, put_some, some_is, some_none}
use Rattle.ec_law_turns.proofs.Granting.{LetsIn, Nobody, Some_leave, each_asks, lets_in}
use Rattle.ec_law_turns.proofs.Hearing.{one_more}
use Rattle.ec_law_turns.proofs.Letting.{each_by_queue, each_let_in}
use Rattle.ec_law_turns.proofs.Numbered.{sender_is}
use Rattle.ec_law_turns.proofs.Replies.{heard_owed, torn_owed}
use Rattle.ec_law_turns.proofs.Sends.{adds, of_after, said_after}
use Rattle.ec_law_turns.proofs.SentKnown.{BodyKept}
use Rattle.ec_law_turns.proofs.Steps.{EntryKept, executed_same, heard_same, torn_same}
use Rattle.ec_law_turns.proofs.Tracks.{Adds, request_is}
use Rattle.ec_law_writes.specs.Guarding.{changes_on}
use Rattle.ec_law_writes.proofs.Refusing.{was_done}
use Rattle.ec_law_writes.proofs.Windowed.{HasWindowed, IsTold, Windowed, gives_up_windowed, hears_windowed, sends_windowed, told_later, windowed_later}

-- ## Which messages were done

abbrev pub body_done : Net → Message → Body → Option ℕ → Bool → Bool
body_done m msg (ToBrick q) version failed = is_done (out_of m msg q version failed).says
body_done m msg (ToClient re reply) version failed = false

abbrev pub said_done : Net → Option Message → Option ℕ → Bool → Bool
said_done m None version failed = false
said_done m (Some msg) version failed = body_done m msg msg.body version failed

-- the messages that were done after an entry
abbrev pub done_after : Net → Entry → (ℕ → Bool) → ℕ → Bool
done_after m (Executed i version failed) done j = done j || ((j == i) && said_done m (m.said i) version failed)
done_after m e done j = done j

or_left : (t u : Bool) → t ≡ true → (t || u) ≡ true
or_left true u e = refl
or_left false u e = absurd (cc)

pub done_more : (m : Net) (e : Entry) (done : ℕ → Bool) (i : ℕ) → done i ≡ true → done_after m e done i ≡ true
done_more m (Executed j version failed) done i h = or_left (done i) ((i == j) && said_done m (m.said j) version failed) h
done_more m e done i h = h

-- ## What is told

abbrev pub OwedTold : ℕ → (ℕ → Option Message) → (ℕ → Bool) → List Owed → Type 0
OwedTold g said done [] = Unit {0}
OwedTold g said done (o ∷ owed) = ((reply : Reply) → Replies o.says (Some reply) → IsTold g said done o.re reply) × OwedTold g said done owed

-- of each reply that is owed or was sent, and of the windows of calls
pub record HasAnswered (g : ℕ) (said : ℕ → Option Message) (owed : List Owed) (done : ℕ → Bool) (b : Books) : Type 0 where
  pub to_say : OwedTold g said done owed
  pub sent : (i : ℕ) (x : Message) (re : ℕ) (reply : Reply) → said i ≡ Some x → x.body ≡ ToClient re reply → IsTold g said done re reply
  pub calls : (a : ℕ) (given : Given) → b.given a ≡ Some given → HasWindowed g said done (account given (b.own a))

owed_later : (g : ℕ) (said said' : ℕ → Option Message) (done done' : ℕ → Bool) → ((i : ℕ) (x : Message) → said i ≡ Some x → said' i ≡ Some x) → ((i : ℕ) → done i ≡ true → done' i ≡ true) → (owed : List Owed) → OwedTold g said done owed → OwedTold g said' done' owed
owed_later g said said' done done' still more [] h = tt
owed_later g said said' done done' still more (o ∷ owed) h = (λ reply r. told_later g said said' done done' still more o.re reply (h.0 reply r), owed_later g said said' done done' still more owed h.1)

both_told : (g : ℕ) (said : ℕ → Option Message) (done : ℕ → Bool) (xs ys : List Owed) → OwedTold g said done xs → OwedTold g said done ys → OwedTold g said done (xs ++ ys)
both_told g said done [] ys h i = i
both_told g said done (x ∷ xs) ys h i = (h.0, both_told g said done xs ys h.1 i)

own_told : (g : ℕ) (said : ℕ → Option Message) (done : ℕ → Bool) (msg : Message) (says : Says) → ((reply : Reply) → Replies says (Some reply) → IsTold g said done msg.no reply) → OwedTold g said done (own_owed msg says)
own_told g said done msg Nothing h = tt
own_told g said done msg (Is reply) h = (h, tt)
own_told g said done msg (ShowsChunks piece first count) h = (h, tt)
own_told g said done msg (ShowsNames start names) h = (h, tt)
own_told g said done msg (ShowsGfids start set) h = (h, tt)

module _ (g : ℕ) (m : Net) (done : ℕ → Bool) (b : ℕ) where
  -- a grant tells of no change
  ask_told : (a : Asking) → IsAskOf m b a → (reply : Reply) → IsTold g m.said done a.number reply
  ask_told a is reply = record { message = is.message; is = is.said; so = λ q body on so. absurd (none q (request_is q (Ask a.gfid a.domain a.kind) (sym body ∙ is.body)) on) }
    where
      none : (q : Request) → q ≡ Ask a.gfid a.domain a.kind → changes_on g q ≡ true → ⊥
      none q e on = let z = sym (ap (changes_on g) e) ∙ on in cc

  waiters : (xs : List Asking) → Each (IsAskOf m b) xs → OwedTold g m.said done (map (granted_owed m b) (map waiter_of xs))
  waiters [] are = tt
  waiters (a ∷ xs) are = (λ reply h. ask_told a are.0 reply, waiters xs are.1)

  cut_told : (client : ℕ) (old : Brick) → AreAsks m b old.asks → OwedTold g m.said done (let_in_owed m b (cut_off old client))
  cut_told client old are =
      let xs = let_in (Client client) [] old.asks in
      waiters (by_queue [] xs) (each_by_queue (IsAskOf m b) [] xs tt (each_let_in (IsAskOf m b) (Client client) [] old.asks (each_asks m b old.asks are)))

  lets_in_told : (old : Brick) (f : Failing) (client number : ℕ) (q : Request) → AreAsks m b old.asks → OwedTold g m.said done (let_in_owed m b (executed_brick old f client number q))
  lets_in_told old f client number q are = at (lets_in old f client number q)
    where
      leaving : (l : Leaving) (ws : List Waiter) → ws ≡ granted l old.asks → OwedTold g m.said done (map (granted_owed m b) ws)
      leaving l ws is = subst (λ (y : List Waiter). OwedTold g m.said done (map (granted_owed m b) y)) (sym is) (waiters (let_in l [] old.asks) (each_let_in (IsAskOf m b) l [] old.asks (each_asks m b old.asks are)))

      at : LetsIn old.asks (executed_brick old f client number q).brick.asks (executed_brick old f client number q).lets_in → OwedTold g m.said done (let_in_owed m b (executed_brick old f client number q))
      at (Nobody is) = subst (λ (ws : List Waiter). OwedTold g m.said done (map (granted_owed m b) ws)) (sym is) tt
      at (Some_leave l is shorter) = leaving l (executed_brick old f client number q).lets_in is

-- ## Each entry

module _ (geometry : Geometry) (g : ℕ) (m : Net) (v : View) (b : Books) (done : ℕ → Bool) (known : Known geometry g m v b) (h : HasAnswered g m.said m.owed done b) where
  -- messages stay
  stays : (said : ℕ → Option Message) (owed : List Owed) (done' : ℕ → Bool) (b' : Books) → said ≡ m.said → ((i : ℕ) → done i ≡ true → done' i ≡ true) → OwedTold g m.said done' owed → ((a : ℕ) (given : Given) → b'.given a ≡ Some given → HasWindowed g m.said done (account given (b'.own a))) → HasAnswered g said owed done' b'
  stays said owed done' b' same more owes calls = subst (λ (f : ℕ → Option Message). HasAnswered g f owed done' b') (sym same) (record {
    to_say = owes;
    sent = λ i x re reply e body. told_later g m.said m.said done done' (λ j y z. z) more re reply (h.sent i x re reply e body);
    calls = λ a given e. let c = account given (b'.own a) in windowed_later g m.said m.said done done' (λ j y z. z) more c.waits (c.on g) (calls a given e);
  })

  same_done : (i : ℕ) → done i ≡ true → done i ≡ true
  same_done i e = e

  own_more : (x : ℕ) (e : Own) → ((c : Account) → HasWindowed g m.said done c → HasWindowed g m.said done (after_own c e)) → (a : ℕ) (given : Given) → b.given a ≡ Some given → HasWindowed g m.said done (account given ((with_own b x e).own a))
  own_more x e goes = one_more (λ a c. HasWindowed g m.said done c) b x e (λ given is c. goes (account given (b.own x)) c) h.calls

  heard_calls : (o : Option Message) → ((x : Message) (re : ℕ) (reply : Reply) → o ≡ Some x → x.body ≡ ToClient re reply → IsTold g m.said done re reply) → (a : ℕ) (given : Given) → (hears_books m b o).given a ≡ Some given → HasWindowed g m.said done (account given ((hears_books m b o).own a))
  heard_calls None says = h.calls
  heard_calls (Some msg) says = by_body msg.body refl
    where
      by_body : (z : Body) → msg.body ≡ z → (a : ℕ) (given : Given) → (hears_body m b msg z).given a ≡ Some given → HasWindowed g m.said done (account given ((hears_body m b msg z).own a))
      by_body (ToBrick q) e = h.calls
      by_body (ToClient re reply) e = at (is_number re (m.awaits msg.call msg.brick) && not (m.answered msg.call))
        where
          at : (t : Bool) (a : ℕ) (given : Given) → (cond t (with_own b msg.call (Hears msg.brick re reply)) b).given a ≡ Some given → HasWindowed g m.said done (account given ((cond t (with_own b msg.call (Hears msg.brick re reply)) b).own a))
          at true = own_more msg.call (Hears msg.brick re reply) (λ c windowed. hears_windowed g m.said done c windowed msg.brick re reply (says msg re reply refl e))
          at false = h.calls

  new_call : (x : ℕ) (client : ℕ) (op : Op) (t : Story) → x ≡ m.calls + 1 → (a : ℕ) (given : Given) → put b.given x (Some (given_to geometry t b client op)) a ≡ Some given → HasWindowed g m.said done (account given (b.own a))
  new_call x client op t e a given is = ⊎_elim (λ z. fresh z.0 (some_is (given_to geometry t b client op) given z.1)) (λ z. h.calls a given z.1) (put_some b.given x (Some (given_to geometry t b client op)) a given is)
    where
      opens : (given : Given) → given.kept ≡ None → HasWindowed g m.said done (opened given)
      opens given none = subst (λ (o : Option Kept). Windowed g m.said done (λ y. None) (kept_dealings o g)) (sym none) (record {
        window = λ y. tt;
        next = λ y w z. absurd (some_none w (sym z));
        heard = λ y. tt;
      })

      fresh : a ≡ x → given_to geometry t b client op ≡ given → HasWindowed g m.said done (account given (b.own a))
      fresh z same = subst (λ (es : List Own). HasWindowed g m.said done (account given es)) (sym (known.numbers.unsaid a (omega (arith, z, e)))) (opens given (ap (λ (y : Given). y.kept) (sym same) ∙ ap (λ (o : Option Kept). taken_over o op) (known.numbers.kept client)))

  executed_owed : (l : LocksStand geometry.n g m v) (i : ℕ) (version : Option ℕ) (failed : Bool) (may : MayExecute m i version failed) → OwedTold g m.said (done_after m (Executed i version failed) done) (net_after m (Executed i version failed)).owed
  executed_owed l i version failed may =
      subst (λ (o : Option Message). OwedTold g m.said (λ j. done j || ((j == i) && said_done m (m.said i) version failed)) (executed m o version failed).owed) (sym may.at.said)
      (subst (λ (z : Body). OwedTold g m.said done' (executed_by m msg z version failed).owed) (sym may.at.body)
      (both_told g m.said done' (own_owed msg out.says) (let_in_owed m msg.brick out) (own_told g m.said done' msg out.says own) (subst (λ (o : Out). OwedTold g m.said done' (let_in_owed m msg.brick o)) (sym works) (lets_in_told g m done' msg.brick (m.brick msg.brick) (failing failed version) msg.client msg.no may.request (l.asks msg.brick below)))))
    where
      msg : Message
      msg = may.message

      out : Out
      out = out_of m may.message may.request version failed

      done' : ℕ → Bool
      done' = done_after m (Executed i version failed) done

      no : may.message.no ≡ i
      no = (known.messages.number i may.message may.at.said).0

      below : may.message.brick < geometry.n
      below = known.messages.to i may.message may.request may.at.said may.at.body

      works : out_of m may.message may.request version failed ≡ executed_brick (m.brick may.message.brick) (failing failed version) may.message.client may.message.no may.request
      works = ap (λ (t : Bool). cond t (executed_brick (m.brick may.message.brick) (failing failed version) may.message.client may.message.no may.request) (quiet (m.brick may.message.brick))) may.at.up

      both : (t u w : Bool) → u ≡ true → w ≡ true → (t || (u && w)) ≡ true
      both true u w e f = refl
      both false true true e f = refl
      both false true false e f = absurd (cc)
      both false false w e f = absurd (cc)

      own : (reply : Reply) → Replies (out_of m may.message may.request version failed).says (Some reply) → IsTold g m.said (done_after m (Executed i version failed) done) may.message.no reply
      own reply r = record { message = may.message; is = ap m.said no ∙ may.at.said; so = λ q body on so. told q (request_is may.request q (sym may.at.body ∙ body)) on so }
        where
          told : (q : Request) → may.request ≡ q → changes_on g q ≡ true → is_reply_done (Some reply) ≡ true → done_after m (Executed i version failed) done may.message.no ≡ true
          told q same on so =
              let ran = ap (λ (o : Out). is_done o.says) works ∙ was_done g (m.brick may.message.brick) (failing failed version) may.message.client may.message.no may.request (ap (changes_on g) same ∙ on) reply (subst (λ (o : Out). Replies o.says (Some reply)) works r) so in
              let mine = ap (λ (o : Option Message). said_done m o version failed) may.at.said ∙ (ap (λ (z : Body). body_done m may.message z version failed) may.at.body ∙ ran) in
              both (done may.message.no) (may.message.no == i) (said_done m (m.said i) version failed) (ap (λ (y : ℕ). y == i) no ∙ itself i) mine

  -- a message is sent
  module _ (msg : Message) (next_no : msg.no ≡ m.next) (may : MaySay geometry.n m msg msg.body) (kept : BodyKept m b msg msg.body) where
    more : Adds m.said (said_after m msg) v.of (of_after g v msg) msg.no msg
    more = adds geometry.n g m v msg next_no known.messages

    still : (i : ℕ) (x : Message) → m.said i ≡ Some x → said_after m msg i ≡ Some x
    still i x e = (more.still i x e).0

    told_then : (re : ℕ) (reply : Reply) → IsTold g m.said done re reply → IsTold g (said_after m msg) done re reply
    told_then = told_later g m.said (said_after m msg) done done still same_done

    left_owed : (z : Body) (owed : List Owed) → OwedTold g m.said done owed → OwedTold g (said_after m msg) done (owed_after owed z)
    left_owed (ToBrick q) owed o = owed_later g m.said (said_after m msg) done done still same_done owed o
    left_owed (ToClient re reply) [] o = tt
    left_owed (ToClient re reply) (x ∷ owed) o = owed_later g m.said (said_after m msg) done done still same_done owed o.1

    first_owed : (re : ℕ) (reply : Reply) (owed : List Owed) → OwedTold g m.said done owed → IsFirstOwed owed msg re reply → IsTold g m.said done re reply
    first_owed re reply [] o is = absurd is
    first_owed re reply (x ∷ owed) o is = subst (λ (y : ℕ). IsTold g m.said done y reply) (sym is.to) (o.0 reply is.says)

    abbrev Then : Account → Type 0
    Then c = HasWindowed g (said_after m msg) done c

    old : (a : ℕ) (given : Given) → b.given a ≡ Some given → Then (account given (b.own a))
    old a given is = let c = account given (b.own a) in windowed_later g m.said (said_after m msg) done done still same_done c.waits (c.on g) (h.calls a given is)

    calls_then : (z : Body) → msg.body ≡ z → (a : ℕ) (given : Given) → (sends m b msg z).given a ≡ Some given → Then (account given ((sends m b msg z).own a))
    calls_then (ToClient re reply) e a given is = old a given is
    calls_then (ToBrick q) e a given is = ⊎_elim (λ none. nobody none a given is) (λ own. somebody own a given is) (sender_is geometry m b known.numbers msg q)
      where
        nobody : sender m b msg q ≡ None → (a : ℕ) (given : Given) → (sends m b msg (ToBrick q)).given a ≡ Some given → Then (account given ((sends m b msg (ToBrick q)).own a))
        nobody none a given = subst (λ (s : Option ℕ). (own_of b s (Sends msg.brick msg.no q)).given a ≡ Some given → Then (account given ((own_of b s (Sends msg.brick msg.no q)).own a))) (sym none) (λ is. old a given is)

        somebody : sender m b msg q ≡ Some msg.call → (a : ℕ) (given : Given) → (sends m b msg (ToBrick q)).given a ≡ Some given → Then (account given ((sends m b msg (ToBrick q)).own a))
        somebody own a given = subst (λ (s : Option ℕ). (own_of b s (Sends msg.brick msg.no q)).given a ≡ Some given → Then (account given ((own_of b s (Sends msg.brick msg.no q)).own a))) (sym own) (λ is. at is (a == msg.call) refl)
          where
            plain : (given : Given) → b.given msg.call ≡ Some given → IsPlain (account given (b.own msg.call)).given.op
            plain given is = subst (λ (y : Given). IsPlain y.op) (sym (account_given given (b.own msg.call))) (known.numbers.given_below msg.call given is).1.plain

            bricks : (given : Given) → b.given msg.call ≡ Some given → geometry.n ≡ (account given (b.own msg.call)).given.geometry.n
            bricks given is = sym (ap (λ (y : Given). y.geometry.n) (account_given given (b.own msg.call)) ∙ ap (λ (y : Geometry). y.n) (known.numbers.given_below msg.call given is).1.geometry_is)

            own_then : (given : Given) → b.given msg.call ≡ Some given → Then (account given (b.own msg.call ++ Sends msg.brick msg.no q ∷ []))
            own_then given is =
                let c = account given (b.own msg.call) in
                let allowed = (subst (BodyKept m b msg) e kept given is own).0 in
                let sent = sends_windowed g m.said v.turn v.of v.core.moment done msg.call c (known.calls msg.call given is) (λ x i r y e body. subst (λ (z : ℕ). y.brick < z) (bricks given is) (known.messages.to i y r e body)) (h.calls msg.call given is) msg.brick msg.no q allowed (λ x kind same on. no_heal c msg.brick q (plain given is) allowed x kind same) in
                let d = after_own c (Sends msg.brick msg.no q) in
                subst Then (sym (account_append (opened given) (b.own msg.call) (Sends msg.brick msg.no q ∷ []))) (windowed_later g m.said (said_after m msg) done done still same_done d.waits (d.on g) sent)

            at : b.given a ≡ Some given → (t : Bool) → (a == msg.call) ≡ t → Then (account given (cond t (b.own msg.call ++ Sends msg.brick msg.no q ∷ []) (b.own a)))
            at is true i = own_then given (subst (λ (y : ℕ). b.given y ≡ Some given) (equal a msg.call i) is)
            at is false i = old a given is

    answered_sent : HasAnswered g (said_after m msg) (owed_after m.owed msg.body) done (sends m b msg msg.body)
    answered_sent = record {
      to_say = left_owed msg.body m.owed h.to_say;
      sent = λ i x re reply e body. ⊎_elim (λ z. told_then re reply (first_owed re reply m.owed h.to_say (subst (λ (y : Body). MaySay geometry.n m msg y) (ap (λ (y : Message). y.body) z.1 ∙ body) may))) (λ z. told_then re reply (h.sent i x re reply z body)) (more.newest i x e);
      calls = calls_then msg.body refl;
    }

pub answered_entry : (geometry : Geometry) (g : ℕ) (left : ℕ → Left) (m : Net) (v : View) (t : Story) (b : Books) (done : ℕ → Bool) (e : Entry) → MayEnter geometry.n m e → EntryKept m b e → Known geometry g m v b → LocksStand geometry.n g m v → HasAnswered g m.said m.owed done b → HasAnswered g (net_after m e).said (net_after m e).owed (done_after m e done) (booked geometry left m t b e)
answered_entry geometry g left m v t b done (Called a client op) may kept known l h = stays geometry g m v b done known h m.said m.owed done (booked geometry left m t b (Called a client op)) refl (λ i e. e) h.to_say (new_call geometry g m v b done known h a client op t may.0)
answered_entry geometry g left m v t b done (Sent msg) may kept known l h = answered_sent geometry g m v b done known h msg may.0 may.1 kept
answered_entry geometry g left m v t b done (Executed i version failed) may kept known l h = stays geometry g m v b done known h (net_after m (Executed i version failed)).said (net_after m (Executed i version failed)).owed (done_after m (Executed i version failed) done) b (executed_same m (m.said i) version failed).0 (done_more m (Executed i version failed) done) (executed_owed geometry g m v b done known h l i version failed may) h.calls
answered_entry geometry g left m v t b done (Heard i) may kept known l h = stays geometry g m v b done known h (heard m (m.said i)).said (heard m (m.said i)).owed done (booked geometry left m t b (Heard i)) (heard_same m (m.said i)).0 (λ j e. e) (subst (OwedTold g m.said done) (sym (heard_owed m (m.said i))) h.to_say) (heard_calls geometry g m v b done known h (m.said i) (λ x re reply e body. h.sent i x re reply e body))
answered_entry geometry g left m v t b done (Lost i) may kept known l h = h
answered_entry geometry g left m v t b done (GivenUp client brick i) may kept known l h = stays geometry g m v b done known h m.said m.owed done (booked geometry left m t b (GivenUp client brick i)) refl (λ j e. e) h.to_say (own_more geometry g m v b done known h (call_of (m.said i)) (GivesUp brick i) (λ c windowed. gives_up_windowed g m.said done c windowed brick i))
answered_entry geometry g left m v t b done (Stopped x) may kept known l h = h
answered_entry geometry g left m v t b done (Returned x) may kept known l h = h
answered_entry geometry g left m v t b done (Cut client x) may kept known l h = stays geometry g m v b done known h m.said (net_after m (Cut client x)).owed done b refl (λ j e. e) (cut_told g m done x client (m.brick x) (l.asks x may.0)) h.calls
answered_entry geometry g left m v t b done (Died client) may kept known l h = h
answered_entry geometry g left m v t b done (Yielded client) may kept known l h = stays geometry g m v b done known h m.said m.owed done (booked geometry left m t b (Yielded client)) refl (λ j e. e) h.to_say h.calls
answered_entry geometry g left m v t b done (Torn i bytes version) may kept known l h = stays geometry g m v b done known h (torn_off m (m.said i) bytes version).said (torn_off m (m.said i) bytes version).owed done b (torn_same m (m.said i) bytes version).0 (λ j e. e) (subst (OwedTold g m.said done) (sym (torn_owed m (m.said i) bytes version)) h.to_say) h.calls
answered_entry geometry g left m v t b done (Answered a answer) may kept known l h = stays geometry g m v b done known h m.said m.owed done (booked geometry left m t b (Answered a answer)) refl (λ j e. e) h.to_say (own_more geometry g m v b done known h a (Answers answer) (λ c windowed. windowed))
answered_entry geometry g left m v t b done (Replaced x removed all) may kept known l h = h
