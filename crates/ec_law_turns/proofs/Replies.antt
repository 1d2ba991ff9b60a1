-- What bricks told of grants goes on by each entry.
use Rattle.std.proofs.Common.{◌≡◌, ℕ, ◌+◌, ◌<◌, Bool, true, false, not, cond, ◌==◌, ◌&&◌, Option, Some, None, List, [], ◌∷◌, ◌++◌, refl, sym, ◌∙◌, ap, subst, arith, ⊎_elim}
use Rattle.std.specs.Option.{option_map}
use Rattle.ec_attr.specs.declared.geometry.Geometry.{Geometry}
use Rattle.ec_attr.specs.declared.gfid.Gfid.{Gfid}
use Rattle.ec_attr.specs.declared.kind.Domain.TheVariants.{Inode}
use Rattle.ec_store.specs.Put.{put}
use Rattle.ec_wire.specs.declared.entry.Entry.{Entry}
use Rattle.ec_wire.specs.declared.entry.Entry.TheVariants.{Called, Sent, Executed, Heard, Lost, GivenUp, Stopped, Returned, Cut, Died, Yielded, Torn, Answered, Replaced}
use Rattle.ec_wire.specs.declared.message.Body.{Body}
use Rattle.ec_wire.specs.declared.message.Body.TheVariants.{ToBrick, ToClient}
use Rattle.ec_wire.specs.declared.message.Message.{Message}
use Rattle.ec_wire.specs.declared.op.Op.{Op}
use Rattle.ec_wire.specs.declared.reply.Reply.{Reply}
use Rattle.ec_wire.specs.declared.reply.Reply.TheVariants.{Granted}
use Rattle.ec_wire.specs.declared.request.Request.{Request}
use Rattle.ec_wire.specs.declared.request.Request.TheVariants.{Query}
use Rattle.ec_brick.specs.Replies.{Says, Nothing, Is, ShowsChunks, ShowsNames, ShowsGfids, Replies}
use Rattle.ec_brick.specs.State.{State as Brick}
use Rattle.ec_brick.specs.Step.{Out, cut_off, executed as executed_brick, quiet}
use Rattle.ec_conduct.specs.Account.{Account, after as after_own}
use Rattle.ec_conduct.specs.Given.{Given}
use Rattle.ec_conduct.specs.Opened.{account, kept_dealings, opened}
use Rattle.ec_conduct.specs.Own.{Own, Sends, Hears, GivesUp, Answers}
use Rattle.ec_conduct.specs.declared.kept.Kept.{Kept}
use Rattle.ec_conduct.proofs.Fronts.{account_append}
use Rattle.ec_history.specs.Accounts.{Books, Leaving, booked, given_to, hears as hears_books, hears_body, own_of, sender, sends, taken_over, with_own}
use Rattle.ec_history.specs.IsRun.{IsFirstOwed, May as MayEnter, MayExecute, MaySay}
use Rattle.ec_history.specs.Run.{Net, Owed, after as net_after, call_of, executed, executed_as, executed_by, failing, heard, heard_by, is_number, let_in_owed, out_of, own_owed, owed_after, torn_by, torn_off}
use Rattle.ec_history.specs.Story.{Story}
use Rattle.ec_law_base.specs.State.{State}
use Rattle.ec_law_ballots.specs.Act.{Act, after}
use Rattle.ec_law_ballots.specs.Guard.{Runs}
use Rattle.ec_law_net.specs.Grants.{LocksStand}
use Rattle.ec_law_net.specs.Link.{Linked}
use Rattle.ec_law_net.specs.Turns.{View, acts, acts_sent, exclusive, seen_after, turn_of}
use Rattle.ec_law_turns.specs.Follows.{Follows, IsLock}
use Rattle.ec_law_turns.specs.Known.{Known}
use Rattle.ec_law_turns.specs.Orderly.{IsPlain}
use Rattle.ec_law_turns.specs.Replied.{AreTold, CallTold, GrantTold, OwedTold, QueryTold, Replied, is_early, is_early_yet}
use Rattle.ec_law_turns.proofs.Allowed.{account_given}
use Rattle.ec_law_turns.proofs.Basics.{equal, put_here, put_some, some_is, some_none}
use Rattle.ec_law_turns.proofs.Early.{after_early, after_holders, after_yet}
use Rattle.ec_law_turns.proofs.Granting.{cut_told, executed_told}
use Rattle.ec_law_turns.proofs.Grants.{gives_up_told, grant_later, hears_told, owed_later, query_later, query_told, sends_told, told_later}
use Rattle.ec_law_turns.proofs.Hearing.{one_more}
use Rattle.ec_law_turns.proofs.Numbered.{sender_is}
use Rattle.ec_law_turns.proofs.Sends.{adds, of_after, said_after}
use Rattle.ec_law_turns.proofs.SentKnown.{BodyKept}
use Rattle.ec_law_turns.proofs.Steps.{EntryKept, executed_same, heard_same, made_same, torn_same}
use Rattle.ec_law_turns.proofs.Tracks.{Adds}

pub heard_owed : (m : Net) (o : Option Message) → (heard m o).owed ≡ m.owed
heard_owed m None = refl
heard_owed m (Some msg) = by_body msg.body
  where
    by_body : (z : Body) → (heard_by m msg z).owed ≡ m.owed
    by_body (ToBrick q) = refl
    by_body (ToClient re reply) = refl

pub torn_owed : (m : Net) (o : Option Message) (bytes : ℕ) (version : Option ℕ) → (torn_off m o bytes version).owed ≡ m.owed
torn_owed m None bytes version = refl
torn_owed m (Some msg) bytes version = by_body msg.body
  where
    by_body : (z : Body) → (torn_by m msg z bytes version).owed ≡ m.owed
    by_body (ToBrick q) = refl
    by_body (ToClient re reply) = refl

-- a Granted is said where one is owed
says_granted : (says : Says) → Replies says (Some Granted) → says ≡ Is Granted
says_granted Nothing h = absurd (cc)
says_granted (Is y) h = ap (λ (r : Reply). Is r) (sym (some_is Granted y h))
says_granted (ShowsChunks piece first count) h = absurd h
says_granted (ShowsNames after names) h = absurd h
says_granted (ShowsGfids after set) h = absurd h

module _ (geometry : Geometry) (n k g : ℕ) (m : Net) (v : View) (b : Books) (known : Known geometry g m v b) (h : Replied g m.said v.of m.owed v.core b) where
  abbrev Call : ℕ → Account → Type 0
  Call a c = CallTold g m.said v.of v.core c

  same_still : (i : ℕ) (x : Message) → m.said i ≡ Some x → (m.said i ≡ Some x) × (v.of i ≡ v.of i)
  same_still i x e = (e, refl)

  -- messages and turns stay
  stays : (xs : List Act) → Runs n k xs v.core → (m' : Net) (of' : ℕ → ℕ) (b' : Books) → m'.said ≡ m.said → of' ≡ v.of → OwedTold g m.said v.of (after xs v.core) m'.owed → ((a : ℕ) (given : Given) → b'.given a ≡ Some given → Call a (account given (b'.own a))) → Replied g m'.said of' m'.owed (after xs v.core) b'
  stays xs runs m' of' b' said of owed calls = subst (λ (f : ℕ → Option Message). Replied g f of' m'.owed (after xs v.core) b') (sym said) (subst (λ (f : ℕ → ℕ). Replied g m.said f m'.owed (after xs v.core) b') (sym of) (record {
    holders = after_holders xs v.core h.holders;
    to_say = owed;
    sent = λ i x re e body. grant_later g m.said m.said v.of v.of v.core (after xs v.core) same_still (after_yet xs v.core) (after_early n k xs v.core runs) re (h.sent i x re e body);
    calls = λ a given e. let c = account given (b'.own a) in told_later g m.said m.said v.of v.of v.core (after xs v.core) same_still (after_yet xs v.core) (after_early n k xs v.core runs) c.steps (c.on g) (calls a given e);
    queries = λ i x y j e body on. query_later g m.said m.said v.of v.of v.core (after xs v.core) same_still (after_yet xs v.core) (after_early n k xs v.core runs) j (h.queries i x y j e body on);
  }))

  still_owed : (xs : List Act) → Runs n k xs v.core → (owed : List Owed) → owed ≡ m.owed → OwedTold g m.said v.of (after xs v.core) owed
  still_owed xs runs owed e = subst (OwedTold g m.said v.of (after xs v.core)) (sym e) (owed_later g m.said m.said v.of v.of v.core (after xs v.core) same_still (after_yet xs v.core) (after_early n k xs v.core runs) m.owed h.to_say)

  -- ## Calls

  own_more : (x : ℕ) (e : Own) → ((c : Account) → Follows g m.said v.turn v.of v.core.moment x c → Call x c → Call x (after_own c e)) → (a : ℕ) (given : Given) → b.given a ≡ Some given → Call a (account given ((with_own b x e).own a))
  own_more x e goes = one_more Call b x e (λ given is c. goes (account given (b.own x)) (known.calls x given is) c) h.calls

  heard_calls : (o : Option Message) → ((x : Message) (re : ℕ) → o ≡ Some x → x.body ≡ ToClient re Granted → GrantTold g m.said v.of v.core re) → (a : ℕ) (given : Given) → (hears_books m b o).given a ≡ Some given → Call a (account given ((hears_books m b o).own a))
  heard_calls None says = h.calls
  heard_calls (Some msg) says = by_body msg.body refl
    where
      by_body : (z : Body) → msg.body ≡ z → (a : ℕ) (given : Given) → (hears_body m b msg z).given a ≡ Some given → Call a (account given ((hears_body m b msg z).own a))
      by_body (ToBrick q) e = h.calls
      by_body (ToClient re reply) e = at (is_number re (m.awaits msg.call msg.brick) && not (m.answered msg.call))
        where
          at : (t : Bool) (a : ℕ) (given : Given) → (cond t (with_own b msg.call (Hears msg.brick re reply)) b).given a ≡ Some given → Call a (account given ((cond t (with_own b msg.call (Hears msg.brick re reply)) b).own a))
          at true = own_more msg.call (Hears msg.brick re reply) (λ c f told. hears_told g m.said v.of v.core v.turn msg.call c f told msg.brick re reply (λ granted. says msg re refl (e ∙ ap (λ (r : Reply). ToClient re r) granted)))
          at false = h.calls

  new_call : (x : ℕ) (client : ℕ) (op : Op) (t : Story) → x ≡ m.calls + 1 → (a : ℕ) (given : Given) → put b.given x (Some (given_to geometry t b client op)) a ≡ Some given → Call a (account given (b.own a))
  new_call x client op t e a given is = ⊎_elim (λ z. fresh z.0 (some_is (given_to geometry t b client op) given z.1)) (λ z. h.calls a given z.1) (put_some b.given x (Some (given_to geometry t b client op)) a given is)
    where
      opens : (given : Given) → given.kept ≡ None → Call a (opened given)
      opens given none = subst (λ (o : Option Kept). AreTold g m.said v.of v.core 1 (kept_dealings o g)) (sym none) (λ y l z so. absurd (some_none l (sym z)))

      fresh : a ≡ x → given_to geometry t b client op ≡ given → Call a (account given (b.own a))
      fresh z same = subst (λ (es : List Own). Call a (account given es)) (sym (known.numbers.unsaid a (omega (arith, z, e)))) (opens given (ap (λ (y : Given). y.kept) (sym same) ∙ ap (λ (o : Option Kept). taken_over o op) (known.numbers.kept client)))

  -- ## A brick answers

  -- who has the content by the bricks' tables after it
  stands_after : (m' : Net) (s : State) → Linked n g m' (record v { core = s }) → ((x a : ℕ) → s.holder x ≡ Some a → is_early_yet s a x ≡ true) → (x : ℕ) → x < n → (i : ℕ) → exclusive g Inode (m'.brick x).asks ≡ Some i → is_early_yet s (v.of i) x ≡ true
  stands_after m' s link holders x lt i e = holders x (v.of i) (link.holders x lt ∙ ap (option_map v.of) e)

  executed_owed : (l : LocksStand n g m v) (link : Linked n g m v) (i : ℕ) (version : Option ℕ) (failed : Bool) (may : MayExecute m i version failed) (s : State) → Linked n g (net_after m (Executed i version failed)) (record v { core = s }) → ((x a : ℕ) → s.holder x ≡ Some a → is_early_yet s a x ≡ true) → OwedTold g m.said v.of s (net_after m (Executed i version failed)).owed
  executed_owed l link i version failed may s link' holders =
      subst (λ (t : Net). OwedTold g m.said v.of s t.owed) (sym after_is)
      (subst (λ (o : Out). OwedTold g m.said v.of s (own_owed msg o.says ++ let_in_owed m msg.brick o)) (sym works)
      (executed_told g m v.of s msg.brick out.brick.asks stands msg (m.brick msg.brick) (failing failed version) may.request (ap m.said no ∙ may.at.said) refl may.at.body (l.asks msg.brick below) (ap (λ (o : Out). o.brick.asks) works)))
    where
      msg : Message
      msg = may.message

      out : Out
      out = out_of m may.message may.request version failed

      no : may.message.no ≡ i
      no = (known.messages.number i may.message may.at.said).0

      below : may.message.brick < n
      below = link.to i may.message may.request may.at.said may.at.body

      works : out_of m may.message may.request version failed ≡ executed_brick (m.brick may.message.brick) (failing failed version) may.message.client may.message.no may.request
      works = ap (λ (t : Bool). cond t (executed_brick (m.brick may.message.brick) (failing failed version) may.message.client may.message.no may.request) (quiet (m.brick may.message.brick))) may.at.up

      after_is : net_after m (Executed i version failed) ≡ executed_as m may.message (out_of m may.message may.request version failed)
      after_is = ap (λ (o : Option Message). executed m o version failed) may.at.said ∙ ap (λ (z : Body). executed_by m may.message z version failed) may.at.body

      stands : (j : ℕ) → exclusive g Inode (out_of m may.message may.request version failed).brick.asks ≡ Some j → is_early_yet s (v.of j) may.message.brick ≡ true
      stands j e = stands_after (net_after m (Executed i version failed)) s link' holders may.message.brick below j (ap (λ (t : Net). exclusive g Inode (t.brick may.message.brick).asks) after_is ∙ (ap (λ (z : Brick). exclusive g Inode z.asks) (put_here m.brick may.message.brick (out_of m may.message may.request version failed).brick may.message.brick refl) ∙ e))

  cut_owed : (l : LocksStand n g m v) (client x : ℕ) → x < n → (s : State) → Linked n g (net_after m (Cut client x)) (record v { core = s }) → ((y a : ℕ) → s.holder y ≡ Some a → is_early_yet s a y ≡ true) → OwedTold g m.said v.of s (let_in_owed m x (cut_off (m.brick x) client))
  cut_owed l client x lt s link' holders = cut_told g m v.of s x (cut_off (m.brick x) client).brick.asks (λ i e. stands_after (net_after m (Cut client x)) s link' holders x lt i (ap (λ (z : Brick). exclusive g Inode z.asks) (put_here m.brick x (cut_off (m.brick x) client).brick x refl) ∙ e)) client (m.brick x) (l.asks x lt) refl

  -- ## A message is sent

  module _ (msg : Message) (next_no : msg.no ≡ m.next) (may : MaySay geometry.n m msg msg.body) (kept : BodyKept m b msg msg.body) (runs : Runs n k (acts_sent g v.core (turn_of g v msg) msg.body) v.core) where
    abbrev core_after : State
    core_after = after (acts_sent g v.core (turn_of g v msg) msg.body) v.core

    more : Adds m.said (said_after m msg) v.of (of_after g v msg) msg.no msg
    more = adds geometry.n g m v msg next_no known.messages

    yet : (a x : ℕ) → is_early_yet v.core a x ≡ true → is_early_yet core_after a x ≡ true
    yet = after_yet (acts_sent g v.core (turn_of g v msg) msg.body) v.core

    early : (a x : ℕ) → is_early v.core a x ≡ true → is_early core_after a x ≡ true
    early = after_early n k (acts_sent g v.core (turn_of g v msg) msg.body) v.core runs

    granted_then : (re : ℕ) → GrantTold g m.said v.of v.core re → GrantTold g (said_after m msg) (of_after g v msg) core_after re
    granted_then = grant_later g m.said (said_after m msg) v.of (of_after g v msg) v.core core_after more.still yet early

    query_then : (re : ℕ) → QueryTold g m.said v.of v.core re → QueryTold g (said_after m msg) (of_after g v msg) core_after re
    query_then = query_later g m.said (said_after m msg) v.of (of_after g v msg) v.core core_after more.still yet early

    owed_then : (owed : List Owed) → OwedTold g m.said v.of v.core owed → OwedTold g (said_after m msg) (of_after g v msg) core_after owed
    owed_then = owed_later g m.said (said_after m msg) v.of (of_after g v msg) v.core core_after more.still yet early

    call_then : (c : Account) → CallTold g m.said v.of v.core c → CallTold g (said_after m msg) (of_after g v msg) core_after c
    call_then c = told_later g m.said (said_after m msg) v.of (of_after g v msg) v.core core_after more.still yet early c.steps (c.on g)

    left_owed : (z : Body) (owed : List Owed) → OwedTold g m.said v.of v.core owed → OwedTold g (said_after m msg) (of_after g v msg) core_after (owed_after owed z)
    left_owed (ToBrick q) owed h = owed_then owed h
    left_owed (ToClient re reply) [] h = tt
    left_owed (ToClient re reply) (o ∷ owed) h = owed_then owed h.1

    first_owed : (re : ℕ) (owed : List Owed) → OwedTold g m.said v.of v.core owed → IsFirstOwed owed msg re Granted → GrantTold g m.said v.of v.core re
    first_owed re [] h is = absurd is
    first_owed re (o ∷ owed) h is = subst (GrantTold g m.said v.of v.core) (sym is.to) (h.0 (says_granted o.says is.says))

    -- the call that sends
    below : (a y j : ℕ) → IsLock g m.said a y j → y < geometry.n
    below a y j l = subst (λ (u : ℕ). u < geometry.n) l.asks.brick (known.messages.to j l.asks.message _ l.asks.is l.asks.body)

    bricks : (given : Given) → b.given msg.call ≡ Some given → (account given (b.own msg.call)).given.geometry.n ≡ geometry.n
    bricks given is = ap (λ (y : Given). y.geometry.n) (account_given given (b.own msg.call)) ∙ ap (λ (y : Geometry). y.n) (known.numbers.given_below msg.call given is).1.geometry_is

    plain : (given : Given) → b.given msg.call ≡ Some given → IsPlain (account given (b.own msg.call)).given.op
    plain given is = subst (λ (y : Given). IsPlain y.op) (sym (account_given given (b.own msg.call))) (known.numbers.given_below msg.call given is).1.plain

    asks : (q : Request) → msg.body ≡ ToBrick q → (given : Given) → b.given msg.call ≡ Some given → sender m b msg q ≡ Some msg.call → (x : Gfid) (j : ℕ) → q ≡ Query x j → x.0 ≡ g → QueryTold g m.said v.of v.core j
    asks q body given is mine x j e on = query_told g m.said v.of v.core v.turn msg.call (account given (b.own msg.call)) (known.calls msg.call given is) (h.calls msg.call given is) msg.brick msg.no q (subst (BodyKept m b msg) body kept given is mine).0 (plain given is) (λ y i l. subst (λ (u : ℕ). y < u) (sym (bricks given is)) (below msg.call y i l)) x j e on

    calls_then : (z : Body) → msg.body ≡ z → (a : ℕ) (given : Given) → (sends m b msg z).given a ≡ Some given → CallTold g (said_after m msg) (of_after g v msg) core_after (account given ((sends m b msg z).own a))
    calls_then (ToClient re reply) e a given is = call_then (account given (b.own a)) (h.calls a given is)
    calls_then (ToBrick q) e a given is = ⊎_elim (λ none. nobody none a given is) (λ mine. somebody mine a given is) (sender_is geometry m b known.numbers msg q)
      where
        nobody : sender m b msg q ≡ None → (a : ℕ) (given : Given) → (sends m b msg (ToBrick q)).given a ≡ Some given → CallTold g (said_after m msg) (of_after g v msg) core_after (account given ((sends m b msg (ToBrick q)).own a))
        nobody none a given = subst (λ (s : Option ℕ). (own_of b s (Sends msg.brick msg.no q)).given a ≡ Some given → CallTold g (said_after m msg) (of_after g v msg) core_after (account given ((own_of b s (Sends msg.brick msg.no q)).own a))) (sym none) (λ is. call_then (account given (b.own a)) (h.calls a given is))

        somebody : sender m b msg q ≡ Some msg.call → (a : ℕ) (given : Given) → (sends m b msg (ToBrick q)).given a ≡ Some given → CallTold g (said_after m msg) (of_after g v msg) core_after (account given ((sends m b msg (ToBrick q)).own a))
        somebody mine a given = subst (λ (s : Option ℕ). (own_of b s (Sends msg.brick msg.no q)).given a ≡ Some given → CallTold g (said_after m msg) (of_after g v msg) core_after (account given ((own_of b s (Sends msg.brick msg.no q)).own a))) (sym mine) (λ is. at is (a == msg.call) refl)
          where
            own : (given : Given) → b.given msg.call ≡ Some given → CallTold g (said_after m msg) (of_after g v msg) core_after (account given (b.own msg.call ++ Sends msg.brick msg.no q ∷ []))
            own given is =
                let c = account given (b.own msg.call) in
                subst (CallTold g (said_after m msg) (of_after g v msg) core_after) (sym (account_append (opened given) (b.own msg.call) (Sends msg.brick msg.no q ∷ [])))
                (call_then (after_own c (Sends msg.brick msg.no q)) (sends_told g m.said v.of v.core v.turn msg.call c (known.calls msg.call given is) (h.calls msg.call given is) msg.brick msg.no q (subst (BodyKept m b msg) e kept given is mine).0 (plain given is) (λ y i l. subst (λ (u : ℕ). y < u) (sym (bricks given is)) (below msg.call y i l))))

            at : b.given a ≡ Some given → (t : Bool) → (a == msg.call) ≡ t → CallTold g (said_after m msg) (of_after g v msg) core_after (account given (cond t (b.own msg.call ++ Sends msg.brick msg.no q ∷ []) (b.own a)))
            at is true i = own given (subst (λ (y : ℕ). b.given y ≡ Some given) (equal a msg.call i) is)
            at is false i = call_then (account given (b.own a)) (h.calls a given is)

    replied_sent : Replied g (said_after m msg) (of_after g v msg) (owed_after m.owed msg.body) core_after (sends m b msg msg.body)
    replied_sent = record {
      holders = after_holders (acts_sent g v.core (turn_of g v msg) msg.body) v.core h.holders;
      to_say = left_owed msg.body m.owed h.to_say;
      sent = λ i x re e body. ⊎_elim (λ z. granted_then re (first_owed re m.owed h.to_say (subst (λ (y : Body). MaySay geometry.n m msg y) (ap (λ (y : Message). y.body) z.1 ∙ body) may))) (λ z. granted_then re (h.sent i x re z body)) (more.newest i x e);
      calls = calls_then msg.body refl;
      queries = λ i x y j e body on. ⊎_elim (λ z. query_then j (newly y j (ap (λ (y : Message). y.body) z.1 ∙ body) on)) (λ z. query_then j (h.queries i x y j z body on)) (more.newest i x e);
    }
      where
        newly : (y : Gfid) (j : ℕ) → msg.body ≡ ToBrick (Query y j) → y.0 ≡ g → QueryTold g m.said v.of v.core j
        newly y j body on =
            let asker = subst (λ (z : Body). MaySay geometry.n m msg z) body may in
            let made = known.numbers.made msg.call asker.asker asker.made in
            asks (Query y j) body made.1 made.2 refl y j refl on

pub replied_entry : (geometry : Geometry) (k g : ℕ) (left : ℕ → Leaving) (m : Net) (v : View) (t : Story) (b : Books) (e : Entry) → MayEnter geometry.n m e → EntryKept m b e → Known geometry g m v b → Linked geometry.n g m v → Linked geometry.n g (net_after m e) (seen_after g m v e) → LocksStand geometry.n g m v → Runs geometry.n k (acts g m v e) v.core → Replied g m.said v.of m.owed v.core b → Replied g (net_after m e).said (seen_after g m v e).of (net_after m e).owed (seen_after g m v e).core (booked geometry left m t b e)
replied_entry geometry k g left m v t b (Called a client op) may kept known link link' l runs h = stays geometry geometry.n k g m v b known h [] runs (net_after m (Called a client op)) (seen_after g m v (Called a client op)).of (booked geometry left m t b (Called a client op)) refl (made_same g v a op).1 h.to_say (new_call geometry geometry.n k g m v b known h a client op t may.0)
replied_entry geometry k g left m v t b (Sent msg) may kept known link link' l runs h = replied_sent geometry geometry.n k g m v b known h msg may.0 may.1 kept runs
replied_entry geometry k g left m v t b (Executed i version failed) may kept known link link' l runs h =
    let xs = acts g m v (Executed i version failed) in
    stays geometry geometry.n k g m v b known h xs runs (net_after m (Executed i version failed)) v.of b (executed_same m (m.said i) version failed).0 refl (executed_owed geometry geometry.n k g m v b known h l link i version failed may (after xs v.core) link' (after_holders xs v.core h.holders)) h.calls
replied_entry geometry k g left m v t b (Heard i) may kept known link link' l runs h = stays geometry geometry.n k g m v b known h [] runs (net_after m (Heard i)) v.of (booked geometry left m t b (Heard i)) (heard_same m (m.said i)).0 refl (still_owed geometry geometry.n k g m v b known h [] runs (heard m (m.said i)).owed (heard_owed m (m.said i))) (heard_calls geometry geometry.n k g m v b known h (m.said i) (λ x re e body. h.sent i x re e body))
replied_entry geometry k g left m v t b (Lost i) may kept known link link' l runs h = stays geometry geometry.n k g m v b known h [] runs (net_after m (Lost i)) v.of b refl refl h.to_say h.calls
replied_entry geometry k g left m v t b (GivenUp client brick i) may kept known link link' l runs h = stays geometry geometry.n k g m v b known h [] runs (net_after m (GivenUp client brick i)) v.of (booked geometry left m t b (GivenUp client brick i)) refl refl h.to_say (own_more geometry geometry.n k g m v b known h (call_of (m.said i)) (GivesUp brick i) (λ c f told. gives_up_told g m.said v.of v.core v.turn (call_of (m.said i)) c f told brick i))
replied_entry geometry k g left m v t b (Stopped x) may kept known link link' l runs h = let xs = acts g m v (Stopped x) in stays geometry geometry.n k g m v b known h xs runs (net_after m (Stopped x)) v.of b refl refl (still_owed geometry geometry.n k g m v b known h xs runs m.owed refl) h.calls
replied_entry geometry k g left m v t b (Returned x) may kept known link link' l runs h = stays geometry geometry.n k g m v b known h [] runs (net_after m (Returned x)) v.of b refl refl h.to_say h.calls
replied_entry geometry k g left m v t b (Cut client x) may kept known link link' l runs h =
    let xs = acts g m v (Cut client x) in
    stays geometry geometry.n k g m v b known h xs runs (net_after m (Cut client x)) v.of b refl refl (cut_owed geometry geometry.n k g m v b known h l client x may.0 (after xs v.core) link' (after_holders xs v.core h.holders)) h.calls
replied_entry geometry k g left m v t b (Died client) may kept known link link' l runs h = stays geometry geometry.n k g m v b known h [] runs (net_after m (Died client)) v.of b refl refl h.to_say h.calls
replied_entry geometry k g left m v t b (Yielded client) may kept known link link' l runs h = stays geometry geometry.n k g m v b known h [] runs m v.of (booked geometry left m t b (Yielded client)) refl refl h.to_say h.calls
replied_entry geometry k g left m v t b (Torn i bytes version) may kept known link link' l runs h =
    let xs = acts g m v (Torn i bytes version) in
    stays geometry geometry.n k g m v b known h xs runs (net_after m (Torn i bytes version)) v.of b (torn_same m (m.said i) bytes version).0 refl (still_owed geometry geometry.n k g m v b known h xs runs (torn_off m (m.said i) bytes version).owed (torn_owed m (m.said i) bytes version)) h.calls
replied_entry geometry k g left m v t b (Answered a answer) may kept known link link' l runs h = stays geometry geometry.n k g m v b known h [] runs (net_after m (Answered a answer)) v.of (booked geometry left m t b (Answered a answer)) refl refl h.to_say (own_more geometry geometry.n k g m v b known h a (Answers answer) (λ c f told. told))
replied_entry geometry k g left m v t b (Replaced x removed all) may kept known link link' l runs h = let xs = acts g m v (Replaced x removed all) in stays geometry geometry.n k g m v b known h xs runs (net_after m (Replaced x removed all)) v.of b refl refl (still_owed geometry geometry.n k g m v b known h xs runs m.owed refl) h.calls
