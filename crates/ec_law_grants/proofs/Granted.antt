-- Who is told Granted has its grant then; so who has heard it has it still, or its ask is gone.
use Rattle.std.proofs.Common.{◌≡◌, ◌≢◌, ◌⊎◌, ℕ, ◌<◌, Bool, true, false, cond, ◌==◌, Option, Some, None, List, [], ◌∷◌, ◌++◌, refl, sym, ◌∙◌, ap, subst, inl, inr}
use Rattle.std.specs.Prelude.{filter, map}
use Rattle.ec_attr.specs.declared.gfid.Gfid.{Gfid}
use Rattle.ec_attr.specs.declared.kind.Domain.{Domain}
use Rattle.ec_attr.specs.declared.kind.LockKind.{LockKind}
use Rattle.ec_locks.specs.Asked.{has_to_wait}
use Rattle.ec_locks.specs.Table.{by_queue, has, holds, let_in, stays, waiter_of}
use Rattle.ec_locks.specs.declared.ask.Ask.{Ask as Asking}
use Rattle.ec_locks.specs.declared.ask.Leaving.{Leaving}
use Rattle.ec_locks.specs.declared.ask.Leaving.TheVariants.{Client}
use Rattle.ec_locks.specs.declared.waiters.Waiter.{Waiter}
use Rattle.ec_wire.specs.declared.entry.Entry.{Entry}
use Rattle.ec_wire.specs.declared.entry.Entry.TheVariants.{Called, Sent, Executed, Heard, Lost, GivenUp, Stopped, Returned, Cut, Died, Yielded, Torn, Answered, Replaced}
use Rattle.ec_wire.specs.declared.message.Body.{Body}
use Rattle.ec_wire.specs.declared.message.Body.TheVariants.{ToBrick, ToClient}
use Rattle.ec_wire.specs.declared.message.Message.{Message}
use Rattle.ec_wire.specs.declared.reply.Reply.{Reply}
use Rattle.ec_wire.specs.declared.reply.Reply.TheVariants.{Granted}
use Rattle.ec_wire.specs.declared.request.Request.{Request}
use Rattle.ec_wire.specs.declared.request.Request.TheVariants.{Ask}
use Rattle.ec_brick.specs.Replies.{Says, Nothing, Is, ShowsChunks, ShowsNames, ShowsGfids, Replies}
use Rattle.ec_brick.specs.State.{State as Brick}
use Rattle.ec_brick.specs.Step.{Out, cut_off, executed as executed_at}
use Rattle.ec_history.specs.IsRun.{IsFirstOwed, May as MayEnter, MayExecute, MaySay}
use Rattle.ec_history.specs.Run.{Net, Owed, after, executed as executed_net, executed_as, executed_by, failing, granted_after, granted_owed, heard, heard_by, is_number, let_in_owed, own_owed, owed_after, torn_by, torn_off}
use Rattle.ec_law_net.specs.Grants.{AreAsks, IsAskOf}
use Rattle.ec_law_net.proofs.Tables.{Each}
use Rattle.ec_law_turns.proofs.Basics.{equal, put_here, put_some, some_is, some_none}
use Rattle.ec_law_turns.proofs.Granting.{LetsIn, Nobody, Some_leave, each_asks, lets_in}
use Rattle.ec_law_turns.proofs.Letting.{each_by_queue, each_let_in}
use Rattle.ec_law_turns.proofs.Replies.{heard_owed, torn_owed}
use Rattle.ec_law_turns.proofs.Steps.{executed_same, heard_same, torn_same}
use Rattle.ec_law_turns.proofs.Tracks.{request_is}
use Rattle.ec_law_grants.proofs.Lasting.{AreNumbered, asks_entry, executed_is, lands_entry, said_entry, went}
use Rattle.ec_law_grants.proofs.Tables.{HasIt, IsGoneOrHeld, has_it, let_in_have}

-- Message i was sent; where it is an ask, it has arrived, and has its grant or is gone.
pub record Stood (m : Net) (i : ℕ) : Type 0 where
  pub message : Message
  pub is : m.said i ≡ Some message
  pub stands : (x : Gfid) (d : Domain) (k : LockKind) → message.body ≡ ToBrick (Ask x d k) → (m.flying i ≡ false) × IsGoneOrHeld (m.brick message.brick).asks i x d k

abbrev pub OwedStood : Net → List Owed → Type 0
OwedStood m [] = Unit {0}
OwedStood m (o ∷ owed) = (o.says ≡ Is Granted → Stood m o.re) × OwedStood m owed

-- of each Granted that is owed, was sent, or was heard
pub record Grants (m : Net) : Type 0 where
  pub to_say : OwedStood m m.owed
  pub sent : (i : ℕ) (x : Message) (re : ℕ) → m.said i ≡ Some x → x.body ≡ ToClient re Granted → Stood m re
  pub heard : (i : ℕ) → m.granted i ≡ true → Stood m i

pub grants_start : (m : Net) → m.owed ≡ [] → ((i : ℕ) → m.said i ≡ None) → ((i : ℕ) → m.granted i ≡ false) → Grants m
grants_start m owed said granted = record {
  to_say = subst (OwedStood m) (sym owed) tt;
  sent = λ i x re is body. absurd (some_none x (sym is ∙ said i));
  heard = λ i e. absurd (let z = sym (granted i) ∙ e in cc);
}

-- ## What is owed

both_stood : (m : Net) (xs ys : List Owed) → OwedStood m xs → OwedStood m ys → OwedStood m (xs ++ ys)
both_stood m [] ys h i = i
both_stood m (x ∷ xs) ys h i = (h.0, both_stood m xs ys h.1 i)

own_stood : (m : Net) (msg : Message) (says : Says) → (says ≡ Is Granted → Stood m msg.no) → OwedStood m (own_owed msg says)
own_stood m msg Nothing h = tt
own_stood m msg (Is reply) h = (h, tt)
own_stood m msg (ShowsChunks piece first count) h = (h, tt)
own_stood m msg (ShowsNames start names) h = (h, tt)
own_stood m msg (ShowsGfids start set) h = (h, tt)

-- a Granted is said where one is owed
says_granted : (says : Says) → Replies says (Some Granted) → says ≡ Is Granted
says_granted Nothing h = absurd (cc)
says_granted (Is y) h = ap (λ (r : Reply). Is r) (sym (some_is Granted y h))
says_granted (ShowsChunks piece first count) h = absurd h
says_granted (ShowsNames start names) h = absurd h
says_granted (ShowsGfids start set) h = absurd h

waits_not : (t : Bool) → cond t Nothing (Is Granted) ≡ Is Granted → t ≡ false
waits_not true e = absurd (cc)
waits_not false e = refl

-- brick b of a later net t has these asks, of messages that had arrived before
module _ (m t : Net) (b : ℕ) (new : List Asking) (said : (i : ℕ) (x : Message) → m.said i ≡ Some x → t.said i ≡ Some x) (lands : (i : ℕ) (x : Message) → m.said i ≡ Some x → m.flying i ≡ false → t.flying i ≡ false) (table : (t.brick b).asks ≡ new) where
  same_ask : (a : Asking) (x : Gfid) (d : Domain) (k : LockKind) → ToBrick (Ask a.gfid a.domain a.kind) ≡ ToBrick (Ask x d k) → HasIt new a → holds new a.number x d k ≡ true
  same_ask a x d k e h = at a.gfid a.domain a.kind e h
    where
      at : (y : Gfid) (f : Domain) (g : LockKind) → ToBrick (Ask y f g) ≡ ToBrick (Ask x d k) → holds new a.number y f g ≡ true → holds new a.number x d k ≡ true
      at y f g e h = let p : y ≡ x = cc in let q : f ≡ d = cc in let r : g ≡ k = cc in subst (λ (z : Gfid). holds new a.number z d k ≡ true) p (subst (λ (z : Domain). holds new a.number y z k ≡ true) q (subst (λ (z : LockKind). holds new a.number y f z ≡ true) r h))

  told : (a : Asking) → IsAskOf m b a → HasIt new a → Stood t a.number
  told a is has = record {
    message = is.message;
    is = said a.number is.message is.said;
    stands = λ x d k body. (lands a.number is.message is.said is.landed, inr (subst (λ (y : ℕ). holds (t.brick y).asks a.number x d k ≡ true) (sym is.brick) (subst (λ (z : List Asking). holds z a.number x d k ≡ true) (sym table) (same_ask a x d k (sym is.body ∙ body) has))));
  }

  waiters : (xs : List Asking) → Each (IsAskOf m b) xs → Each (HasIt new) xs → OwedStood t (map (granted_owed m b) (map waiter_of xs))
  waiters [] are has = tt
  waiters (a ∷ xs) are has = (λ e. told a are.0 has.0, waiters xs are.1 has.1)

  leaving : (l : Leaving) (old : List Asking) → AreAsks m b old → new ≡ filter (stays l) old → OwedStood t (map (granted_owed m b) (map waiter_of (let_in l [] old)))
  leaving l old are e = waiters (let_in l [] old) (each_let_in (IsAskOf m b) l [] old (each_asks m b old are)) (subst (λ (y : List Asking). Each (HasIt y) (let_in l [] old)) (sym e) (let_in_have l old))

  cutting : (client : ℕ) (old : List Asking) → AreAsks m b old → new ≡ filter (stays (Client client)) old → OwedStood t (map (granted_owed m b) (map waiter_of (by_queue [] (let_in (Client client) [] old))))
  cutting client old are e =
      let l = Client client in
      let xs = let_in l [] old in
      waiters (by_queue [] xs) (each_by_queue (IsAskOf m b) [] xs tt (each_let_in (IsAskOf m b) l [] old (each_asks m b old are))) (each_by_queue (HasIt new) [] xs tt (subst (λ (y : List Asking). Each (HasIt y) xs) (sym e) (let_in_have l old)))

-- ## Entries

module _ (n : ℕ) (m : Net) (numbers : AreNumbered m) (to : (i : ℕ) (x : Message) (q : Request) → m.said i ≡ Some x → x.body ≡ ToBrick q → x.brick < n) (asks : (b : ℕ) → b < n → AreAsks m b (m.brick b).asks) where
  -- what stood stands, or is gone
  pub stood_then : (e : Entry) → MayEnter n m e → (i : ℕ) → Stood m i → Stood (after m e) i
  stood_then e may i s = record {
    message = s.message;
    is = said_entry n m numbers e may i s.message s.is;
    stands = λ x d k body.
        let o = s.stands x d k body in
        (lands_entry n m numbers e may i s.message s.is o.0, at x d k (asks_entry n m numbers to asks e may s.message.brick (to i s.message (Ask x d k) s.is body) i s.message s.is o.0) o.1);
  }
    where
      at : (x : Gfid) (d : Domain) (k : LockKind) → (has (m.brick s.message.brick).asks i ≡ false → has ((after m e).brick s.message.brick).asks i ≡ false) × ((x : Gfid) (d : Domain) (k : LockKind) → holds (m.brick s.message.brick).asks i x d k ≡ true → IsGoneOrHeld ((after m e).brick s.message.brick).asks i x d k) → IsGoneOrHeld (m.brick s.message.brick).asks i x d k → IsGoneOrHeld ((after m e).brick s.message.brick).asks i x d k
      at x d k keeps (inl gone) = inl (keeps.0 gone)
      at x d k keeps (inr h) = keeps.1 x d k h

  owed_then : (e : Entry) → MayEnter n m e → (owed : List Owed) → OwedStood m owed → OwedStood (after m e) owed
  owed_then e may [] h = tt
  owed_then e may (o ∷ owed) h = (λ q. stood_then e may o.re (h.0 q), owed_then e may owed h.1)

  module _ (h : Grants m) where
    -- an entry by which no message is sent and nothing is heard
    quietly : (e : Entry) → MayEnter n m e → (after m e).said ≡ m.said → (after m e).granted ≡ m.granted → OwedStood (after m e) (after m e).owed → Grants (after m e)
    quietly e may said granted owed = record {
      to_say = owed;
      sent = λ i x re is body. stood_then e may re (h.sent i x re (sym (ap (λ (f : ℕ → Option Message). f i) said) ∙ is) body);
      heard = λ i g. stood_then e may i (h.heard i (sym (ap (λ (f : ℕ → Bool). f i) granted) ∙ g));
    }

    owing : (e : Entry) → MayEnter n m e → (owed : List Owed) → owed ≡ m.owed → OwedStood (after m e) owed
    owing e may owed same = subst (OwedStood (after m e)) (sym same) (owed_then e may m.owed h.to_say)

    on_sent : (msg : Message) → MayEnter n m (Sent msg) → Grants (after m (Sent msg))
    on_sent msg may = record {
      to_say = left msg.body m.owed h.to_say;
      sent = λ i x re is body. at i x re body (put_some m.said msg.no (Some msg) i x is);
      heard = λ i g. stood_then (Sent msg) may i (h.heard i g);
    }
      where
        left : (z : Body) (owed : List Owed) → OwedStood m owed → OwedStood (after m (Sent msg)) (owed_after owed z)
        left (ToBrick q) owed k = owed_then (Sent msg) may owed k
        left (ToClient re reply) [] k = tt
        left (ToClient re reply) (o ∷ owed) k = owed_then (Sent msg) may owed k.1

        first_owed : (re : ℕ) (owed : List Owed) → OwedStood m owed → IsFirstOwed owed msg re Granted → Stood m re
        first_owed re [] k is = absurd is
        first_owed re (o ∷ owed) k is = subst (Stood m) (sym is.to) (k.0 (says_granted o.says is.says))

        at : (i : ℕ) (x : Message) (re : ℕ) → x.body ≡ ToClient re Granted → ((i ≡ msg.no) × (Some msg ≡ Some x)) ⊎ ((i ≢ msg.no) × (m.said i ≡ Some x)) → Stood (after m (Sent msg)) re
        at i x re body (inl new) = stood_then (Sent msg) may re (first_owed re m.owed h.to_say (subst (λ (z : Body). MaySay n m msg z) (ap (λ (y : Message). y.body) (some_is msg x new.1) ∙ body) may.1))
        at i x re body (inr old) = stood_then (Sent msg) may re (h.sent i x re old.1 body)

    executed_granted : (o : Option Message) (version : Option ℕ) (failed : Bool) → (executed_net m o version failed).granted ≡ m.granted
    executed_granted None version failed = refl
    executed_granted (Some msg) version failed = by msg.body
      where
        by : (z : Body) → (executed_by m msg z version failed).granted ≡ m.granted
        by (ToBrick q) = refl
        by (ToClient re reply) = refl

    torn_granted : (o : Option Message) (bytes : ℕ) (version : Option ℕ) → (torn_off m o bytes version).granted ≡ m.granted
    torn_granted None bytes version = refl
    torn_granted (Some msg) bytes version = by msg.body
      where
        by : (z : Body) → (torn_by m msg z bytes version).granted ≡ m.granted
        by (ToBrick q) = refl
        by (ToClient re reply) = refl

    on_executed : (i : ℕ) (version : Option ℕ) (failed : Bool) (may : MayExecute m i version failed) → Grants (after m (Executed i version failed))
    on_executed i version failed may = quietly (Executed i version failed) may (executed_same m (m.said i) version failed).0 (executed_granted (m.said i) version failed) (subst (λ (z : List Owed). OwedStood t z) (sym (ap (λ (y : Net). y.owed) is)) owes)
      where
        t : Net
        t = after m (Executed i version failed)

        msg : Message
        msg = may.message

        s : Brick
        s = m.brick may.message.brick

        out : Out
        out = executed_at (m.brick may.message.brick) (failing failed version) may.message.client may.message.no may.request

        is : after m (Executed i version failed) ≡ executed_as m may.message (executed_at (m.brick may.message.brick) (failing failed version) may.message.client may.message.no may.request)
        is = executed_is m i version failed may ∙ ap (λ (o : Out). executed_as m may.message o) (went m i version failed may failed)

        lt : may.message.brick < n
        lt = to i may.message may.request may.at.said may.at.body

        no : may.message.no ≡ i
        no = (numbers i may.message may.at.said).0

        table : ((after m (Executed i version failed)).brick may.message.brick).asks ≡ (executed_at (m.brick may.message.brick) (failing failed version) may.message.client may.message.no may.request).brick.asks
        table = ap (λ (y : Net). (y.brick may.message.brick).asks) is ∙ ap (λ (z : Brick). z.asks) (put_here m.brick may.message.brick (executed_at (m.brick may.message.brick) (failing failed version) may.message.client may.message.no may.request).brick may.message.brick refl)

        own : out.says ≡ Is Granted → Stood t msg.no
        own says = record {
          message = msg;
          is = said_entry n m numbers (Executed i version failed) may msg.no msg (ap m.said no ∙ may.at.said);
          stands = λ x d k body. (ap (λ (y : Net). y.flying msg.no) is ∙ put_here m.flying msg.no false msg.no refl, inr (subst (λ (z : List Asking). holds z msg.no x d k ≡ true) (sym table) (by x d k (request_is may.request (Ask x d k) (sym may.at.body ∙ body)))));
        }
          where
            by : (x : Gfid) (d : Domain) (k : LockKind) → may.request ≡ Ask x d k → holds out.brick.asks msg.no x d k ≡ true
            by x d k q =
                let ask : Asking = record { number = msg.no; client = msg.client; gfid = x; domain = d; kind = k } in
                let free = waits_not (has_to_wait s.asks ask) (sym (ap (λ (r : Request). (executed_at s (failing failed version) msg.client msg.no r).says) q) ∙ says) in
                subst (λ (r : Request). holds (executed_at s (failing failed version) msg.client msg.no r).brick.asks msg.no x d k ≡ true) (sym q) (has_it s.asks ask free)

        lets : LetsIn s.asks out.brick.asks out.lets_in → OwedStood t (let_in_owed m msg.brick out)
        lets (Nobody none) = subst (λ (ws : List Waiter). OwedStood t (map (granted_owed m msg.brick) ws)) (sym none) tt
        lets (Some_leave l who shorter) = subst (λ (ws : List Waiter). OwedStood t (map (granted_owed m msg.brick) ws)) (sym who) (leaving m t msg.brick out.brick.asks (said_entry n m numbers (Executed i version failed) may) (lands_entry n m numbers (Executed i version failed) may) table l s.asks (asks msg.brick lt) shorter)

        owes : OwedStood t (own_owed msg out.says ++ let_in_owed m msg.brick out)
        owes = both_stood t (own_owed msg out.says) (let_in_owed m msg.brick out) (own_stood t msg out.says own) (lets (lets_in s (failing failed version) msg.client msg.no may.request))

    on_heard : (i : ℕ) → MayEnter n m (Heard i) → Grants (after m (Heard i))
    on_heard i may = record {
      to_say = owing (Heard i) may (after m (Heard i)).owed (heard_owed m (m.said i));
      sent = λ j x re is body. stood_then (Heard i) may re (h.sent j x re (sym (ap (λ (f : ℕ → Option Message). f j) (heard_same m (m.said i)).0) ∙ is) body);
      heard = λ j g. stood_then (Heard i) may j (by (m.said i) refl j g);
    }
      where
        grants : (waits : Bool) (re j : ℕ) (reply : Reply) → granted_after m.granted waits re reply j ≡ true → (m.granted j ≡ true) ⊎ ((j ≡ re) × (reply ≡ Granted))
        grants true re j Granted g = at (j == re) refl g
          where
            at : (u : Bool) → (j == re) ≡ u → cond u true (m.granted j) ≡ true → (m.granted j ≡ true) ⊎ ((j ≡ re) × (Granted ≡ Granted))
            at true e g = inr (equal j re e, refl)
            at false e g = inl g
        grants waits re j reply g = inl g

        body : (x : Message) → m.said i ≡ Some x → (z : Body) → x.body ≡ z → (j : ℕ) → (heard_by m x z).granted j ≡ true → Stood m j
        body x is (ToBrick q) b j g = h.heard j g
        body x is (ToClient re reply) b j g = at (grants (is_number re (m.awaits x.call x.brick)) re j reply g)
          where
            at : (m.granted j ≡ true) ⊎ ((j ≡ re) × (reply ≡ Granted)) → Stood m j
            at (inl old) = h.heard j old
            at (inr new) = subst (Stood m) (sym new.0) (h.sent i x re is (b ∙ ap (λ (r : Reply). ToClient re r) new.1))

        by : (o : Option Message) → m.said i ≡ o → (j : ℕ) → (heard m o).granted j ≡ true → Stood m j
        by None is j g = h.heard j g
        by (Some x) is j g = body x is x.body refl j g

    pub grants_entry : (e : Entry) → MayEnter n m e → Grants (after m e)
    grants_entry (Called a client op) may = quietly (Called a client op) may refl refl (owing (Called a client op) may m.owed refl)
    grants_entry (Sent msg) may = on_sent msg may
    grants_entry (Executed i version failed) may = on_executed i version failed may
    grants_entry (Heard i) may = on_heard i may
    grants_entry (Lost i) may = quietly (Lost i) may refl refl (owing (Lost i) may m.owed refl)
    grants_entry (GivenUp client brick i) may = quietly (GivenUp client brick i) may refl refl (owing (GivenUp client brick i) may m.owed refl)
    grants_entry (Stopped b) may = quietly (Stopped b) may refl refl (owing (Stopped b) may m.owed refl)
    grants_entry (Returned b) may = quietly (Returned b) may refl refl (owing (Returned b) may m.owed refl)
    grants_entry (Cut client b) may = quietly (Cut client b) may refl refl (cutting m (after m (Cut client b)) b (cut_off (m.brick b) client).brick.asks (λ i x is. is) (λ i x is landed. landed) (ap (λ (z : Brick). z.asks) (put_here m.brick b (cut_off (m.brick b) client).brick b refl)) client (m.brick b).asks (asks b may.0) refl)
    grants_entry (Died client) may = quietly (Died client) may refl refl (owing (Died client) may m.owed refl)
    grants_entry (Yielded client) may = h
    grants_entry (Torn i bytes version) may = quietly (Torn i bytes version) may (torn_same m (m.said i) bytes version).0 (torn_granted (m.said i) bytes version) (owing (Torn i bytes version) may (after m (Torn i bytes version)).owed (torn_owed m (m.said i) bytes version))
    grants_entry (Answered a answer) may = quietly (Answered a answer) may refl refl (owing (Answered a answer) may m.owed refl)
    grants_entry (Replaced b removed all) may = quietly (Replaced b removed all) may refl refl (owing (Replaced b removed all) may m.owed refl)
