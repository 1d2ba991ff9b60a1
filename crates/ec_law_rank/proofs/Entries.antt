-- What each entry makes of the rank.
use Rattle.std.proofs.Common.{◌≡◌, ◌≢◌, ◌⊎◌, inl, inr, ℕ, ◌+◌, ◌*◌, ◌-◌, ◌<◌, ◌≤◌, Bool, true, false, cond, ◌==◌, ◌&&◌, Option, Some, None, refl, sym, ap, subst, ◌∙◌, ⊎_elim, arith}
use Rattle.ec_attr.proofs.Sets.{count_more_in, part, same_count}
use Rattle.ec_attr.specs.Bricks.{count_below}
use Rattle.ec_history.specs.IsRun.{May, MayExecute, MayGiveUp, MayHear, MayTear}
use Rattle.ec_history.specs.Run.{Net, after, awaits_after, call_of, executed, executed_by, heard, heard_by, is_number, put2, sent, torn_by, torn_off}
use Rattle.ec_law_rank.specs.Rank.{is_waited, is_waited_in, rank, weight}
use Rattle.ec_law_rank.proofs.Counting.{at_most_one, equal, itself, put2_here, put2_some, put_here, put_less, put_there}
use Rattle.ec_law_rank.proofs.Numbered.{IsNumbered, IsWait}
use Rattle.ec_law_rank.proofs.Shrinking.{Shrinks, is_the_number, rank_kept, rank_landed, rank_left, same, shrunk_numbered, waited_in_less}
use Rattle.ec_store.specs.Put.{put}
use Rattle.ec_wire.specs.declared.entry.Entry.{Entry}
use Rattle.ec_wire.specs.declared.entry.Entry.TheVariants.{Called, Sent, Executed, Heard, Lost, GivenUp, Stopped, Returned, Cut, Died, Yielded, Torn, Answered, Replaced}
use Rattle.ec_wire.specs.declared.message.Body.{Body}
use Rattle.ec_wire.specs.declared.message.Body.TheVariants.{ToBrick, ToClient}
use Rattle.ec_wire.specs.declared.message.Message.{Message}
use Rattle.ec_wire.specs.declared.reply.Reply.{Reply}
use Rattle.ec_wire.specs.declared.request.Request.{Request}
use Rattle.ec_wire.specs.declared.request.Request.TheVariants.{Ask, Release, Query, PreOp, ReadChunks, WriteChunks, SetLength, PostOp, Clear, NameGet, NamesAfter, NameSet, NamesPut, Make, Made, Unmake, Mark, Unmark, GfidsAfter}

-- from one net to the next, lowered by so much
pub record Comes (most : ℕ) (m k : Net) (w : ℕ) : Type 0 where
  pub numbered : IsNumbered k
  pub grows : m.next ≤ k.next
  pub lowers : k.next ≤ most → rank most k + w ≤ rank most m

shrunk : (most : ℕ) (m k : Net) → Shrinks m k → IsNumbered m → Comes most m k 0
shrunk most m k s h = record { numbered = shrunk_numbered m k s h; grows = omega (arith, s.next); lowers = λ le. let r : rank most k ≤ rank most m = rank_kept most m k s in omega (arith, r) }

lands : (most : ℕ) (m k : Net) (i : ℕ) → Shrinks m k → IsNumbered m → m.flying i ≡ true → k.flying i ≡ false → Comes most m k 1
lands most m k i s h flies landed = record { numbered = shrunk_numbered m k s h; grows = omega (arith, s.next); lowers = λ le. rank_landed most m k i s h flies landed }

leaves : (most : ℕ) (m k : Net) (i : ℕ) → Shrinks m k → IsNumbered m → i < m.next → is_waited m i ≡ true → is_waited k i ≡ false → Comes most m k 1
leaves most m k i s h below waits left = record { numbered = shrunk_numbered m k s h; grows = omega (arith, s.next); lowers = λ le. rank_left most m k i s below waits left }

-- the place of a message is made false
at_its_number : (f : ℕ → Bool) (j i : ℕ) → j ≡ i → put f j false i ≡ false
at_its_number f j i e = subst (λ (x : ℕ). put f j false x ≡ false) e (put_here f j false)

-- ---- a message is delivered

executed_by_shrinks : (m : Net) (msg : Message) (body : Body) (version : Option ℕ) (failed : Bool) → Shrinks m (executed_by m msg body version failed)
executed_by_shrinks m msg (ToBrick q) version failed = record { next = refl; said = refl; flying = λ i e. put_less m.flying msg.no i e; awaits = λ a b i e. e }
executed_by_shrinks m msg (ToClient re reply) version failed = same m

executed_shrinks : (m : Net) (o : Option Message) (version : Option ℕ) (failed : Bool) → Shrinks m (executed m o version failed)
executed_shrinks m None version failed = same m
executed_shrinks m (Some msg) version failed = executed_by_shrinks m msg msg.body version failed

executed_lands : (m : Net) (i : ℕ) (msg : Message) (body : Body) (q : Request) (version : Option ℕ) (failed : Bool) → body ≡ ToBrick q → msg.no ≡ i → (executed_by m msg body version failed).flying i ≡ false
executed_lands m i msg (ToBrick p) q version failed e is = at_its_number m.flying msg.no i is
executed_lands m i msg (ToClient re reply) q version failed e is = absurd (cc)

torn_by_shrinks : (m : Net) (msg : Message) (body : Body) (count : ℕ) (version : Option ℕ) → Shrinks m (torn_by m msg body count version)
torn_by_shrinks m msg (ToBrick q) count version = record { next = refl; said = refl; flying = λ i e. put_less m.flying msg.no i e; awaits = λ a b i e. e }
torn_by_shrinks m msg (ToClient re reply) count version = same m

torn_shrinks : (m : Net) (o : Option Message) (count : ℕ) (version : Option ℕ) → Shrinks m (torn_off m o count version)
torn_shrinks m None count version = same m
torn_shrinks m (Some msg) count version = torn_by_shrinks m msg msg.body count version

torn_lands : (m : Net) (i : ℕ) (msg : Message) (body : Body) (q : Request) (count : ℕ) (version : Option ℕ) → body ≡ ToBrick q → msg.no ≡ i → (torn_by m msg body count version).flying i ≡ false
torn_lands m i msg (ToBrick p) q count version e is = at_its_number m.flying msg.no i is
torn_lands m i msg (ToClient re reply) q count version e is = absurd (cc)

unless : (t : Bool) (o : Option ℕ) (i : ℕ) → cond t None o ≡ Some i → o ≡ Some i
unless true o i e = absurd (cc)
unless false o i e = e

heard_by_shrinks : (m : Net) (msg : Message) (body : Body) → Shrinks m (heard_by m msg body)
heard_by_shrinks m msg (ToBrick q) = same m
heard_by_shrinks m msg (ToClient re reply) = record {
  next = refl;
  said = refl;
  flying = λ i e. put_less m.flying msg.no i e;
  awaits = λ a b i e. unless ((a == msg.call) && (b == msg.brick) && is_number re (m.awaits a b)) (m.awaits a b) i e;
}

heard_shrinks : (m : Net) (o : Option Message) → Shrinks m (heard m o)
heard_shrinks m None = same m
heard_shrinks m (Some msg) = heard_by_shrinks m msg msg.body

heard_lands : (m : Net) (i : ℕ) (msg : Message) (body : Body) (re : ℕ) (reply : Reply) → body ≡ ToClient re reply → msg.no ≡ i → (heard_by m msg body).flying i ≡ false
heard_lands m i msg (ToBrick p) re reply e is = absurd (cc)
heard_lands m i msg (ToClient x r) re reply e is = at_its_number m.flying msg.no i is

-- ---- a brick is given up

given_up_shrinks : (m : Net) (brick i : ℕ) (o : Option Message) → Shrinks m (record m { awaits = put2 m.awaits (call_of o) brick None })
given_up_shrinks m brick i o = record { next = refl; said = refl; flying = λ j e. e; awaits = λ a b j e. ⊎_elim (λ x. absurd (none j x.2)) (λ x. x) (put2_some m.awaits (call_of o) brick None a b j e) }
  where
    none : (j : ℕ) → None ≡ Some j → ⊥
    none j e = cc

module _ (m : Net) (client brick i : ℕ) (g : MayGiveUp m client brick i) (h : IsNumbered m) where
  wait : IsWait m g.message.call brick i
  wait = h.waits g.message.call brick i g.waits

  its_brick : g.message.brick ≡ brick
  its_brick = let e : Some g.message ≡ Some wait.message = sym g.said ∙ wait.said in let x : g.message ≡ wait.message = cc in ap (λ (x : Message). x.brick) x ∙ wait.of_brick

  waited_before : is_waited m i ≡ true
  waited_before = rw g.said (rw its_brick (rw g.waits (itself i)))

  left_after : is_waited (record m { awaits = put2 m.awaits (call_of (m.said i)) brick None }) i ≡ false
  left_after = rw g.said (rw its_brick (rw (put2_here m.awaits g.message.call brick None) refl))

-- ---- a message is sent

-- the message is put where it is waited for
new : (f : ℕ → ℕ → Option ℕ) (msg : Message) (a b i : ℕ) → put2 f msg.call msg.brick (Some msg.no) a b ≡ Some i → ((a ≡ msg.call) × (b ≡ msg.brick) × (i ≡ msg.no)) ⊎ (f a b ≡ Some i)
new f msg a b i e = ⊎_elim (λ x. inl (x.0, x.1, number x.2)) (λ x. inr x) (put2_some f msg.call msg.brick (Some msg.no) a b i e)
  where
    number : Some msg.no ≡ Some i → i ≡ msg.no
    number e = cc

-- what is waited for is the message, or was waited for before
awaits_is : (f : ℕ → ℕ → Option ℕ) (msg : Message) (body : Body) (a b i : ℕ) → awaits_after f msg body a b ≡ Some i → ((a ≡ msg.call) × (b ≡ msg.brick) × (i ≡ msg.no)) ⊎ (f a b ≡ Some i)
awaits_is f msg (ToClient re reply) a b i e = inr e
awaits_is f msg (ToBrick (Release g n)) a b i e = inr e
awaits_is f msg (ToBrick (Ask g domain kind)) a b i e = new f msg a b i e
awaits_is f msg (ToBrick (Query g n)) a b i e = new f msg a b i e
awaits_is f msg (ToBrick (PreOp g n at dirty)) a b i e = new f msg a b i e
awaits_is f msg (ToBrick (ReadChunks g n first count)) a b i e = new f msg a b i e
awaits_is f msg (ToBrick (WriteChunks g n first chunks)) a b i e = new f msg a b i e
awaits_is f msg (ToBrick (SetLength g n keep count)) a b i e = new f msg a b i e
awaits_is f msg (ToBrick (PostOp g n at version size attr)) a b i e = new f msg a b i e
awaits_is f msg (ToBrick (Clear g n at)) a b i e = new f msg a b i e
awaits_is f msg (ToBrick (NameGet g n name)) a b i e = new f msg a b i e
awaits_is f msg (ToBrick (NamesAfter g n start)) a b i e = new f msg a b i e
awaits_is f msg (ToBrick (NameSet g n name child)) a b i e = new f msg a b i e
awaits_is f msg (ToBrick (NamesPut g n start upto list)) a b i e = new f msg a b i e
awaits_is f msg (ToBrick (Make g n child)) a b i e = new f msg a b i e
awaits_is f msg (ToBrick (Made g n child)) a b i e = new f msg a b i e
awaits_is f msg (ToBrick (Unmake g n child)) a b i e = new f msg a b i e
awaits_is f msg (ToBrick (Mark g n heal head)) a b i e = new f msg a b i e
awaits_is f msg (ToBrick (Unmark g n at dirty)) a b i e = new f msg a b i e
awaits_is f msg (ToBrick (GfidsAfter start dirty)) a b i e = new f msg a b i e

module _ (most : ℕ) (m : Net) (msg : Message) (is : msg.no ≡ m.next) (h : IsNumbered m) where
  other : (i : ℕ) → i < m.next → i ≢ msg.no
  other i lt e = absurd (omega (arith, lt, e, is))

  said_before : (i : ℕ) → i < m.next → put m.said msg.no (Some msg) i ≡ m.said i
  said_before i lt = put_there m.said msg.no (Some msg) i (other i lt)

  -- what is waited for below the message was so before
  old_wait : (i : ℕ) → i < m.next → (a b : ℕ) → (sent m msg).awaits a b ≡ Some i → m.awaits a b ≡ Some i
  old_wait i lt a b e = ⊎_elim (λ x. absurd (other i lt x.2)) (λ x. x) (awaits_is m.awaits msg msg.body a b i e)

  waited_before_it : (i : ℕ) → i < m.next → is_waited (sent m msg) i ≡ true → is_waited m i ≡ true
  waited_before_it i lt e = at (m.said i) (subst (λ (o : Option Message). is_waited_in (sent m msg).awaits i o ≡ true) (said_before i lt) e)
    where
      at : (o : Option Message) → is_waited_in (sent m msg).awaits i o ≡ true → is_waited_in m.awaits i o ≡ true
      at None x = x
      at (Some old) x = rw (old_wait i lt old.call old.brick (is_the_number i ((sent m msg).awaits old.call old.brick) x)) (itself i)

  flies_itself : (sent m msg).flying m.next ≡ true
  flies_itself = subst (λ (j : ℕ). put m.flying msg.no true j ≡ true) is (put_here m.flying msg.no true)

  sent_rank : m.next + 1 ≤ most → rank most (sent m msg) + 1 ≤ rank most m
  sent_rank le =
      let f : count_below (m.next + 1) (sent m msg).flying ≡ count_below m.next (sent m msg).flying + 1 = count_more_in m.next (sent m msg).flying flies_itself in
      let g : count_below m.next (sent m msg).flying ≡ count_below m.next m.flying = same_count m.next (sent m msg).flying m.flying (λ i lt. put_there m.flying msg.no true i (other i lt)) in
      let w : count_below (m.next + 1) (is_waited (sent m msg)) ≤ count_below m.next (is_waited (sent m msg)) + 1 = at_most_one m.next (is_waited (sent m msg)) in
      let v : count_below m.next (is_waited (sent m msg)) ≤ count_below m.next (is_waited m) = part m.next (is_waited (sent m msg)) (is_waited m) waited_before_it in
      omega (arith, f, g, w, v, le)

  said_is : (i : ℕ) (old : Message) → put m.said msg.no (Some msg) i ≡ Some old → old.no ≡ i
  said_is i old e = at (i == msg.no) refl e
    where
      at : (t : Bool) → (i == msg.no) ≡ t → cond t (Some msg) (m.said i) ≡ Some old → old.no ≡ i
      at true x e = let y : msg ≡ old = cc in ap (λ (x : Message). x.no) (sym y) ∙ sym (equal i msg.no x)
      at false x e = h.numbers i old e

  flies_below : (i : ℕ) → put m.flying msg.no true i ≡ true → i < m.next + 1
  flies_below i e = at (i == msg.no) refl e
    where
      at : (t : Bool) → (i == msg.no) ≡ t → cond t true (m.flying i) ≡ true → i < m.next + 1
      at true x e = let y : i ≡ msg.no = equal i msg.no x in omega (arith, y, is)
      at false x e = let y : i < m.next = h.flies i e in omega (arith, y)

  sent_wait : (a b i : ℕ) → (sent m msg).awaits a b ≡ Some i → IsWait (sent m msg) a b i
  sent_wait a b i e =
      elim (awaits_is m.awaits msg msg.body a b i e) [
        | inl (call, brick, number) ↦ record {
          message = msg;
          said = subst (λ (j : ℕ). put m.said msg.no (Some msg) j ≡ Some msg) (sym number) (put_here m.said msg.no (Some msg));
          of_call = sym call;
          of_brick = sym brick;
          below = omega (arith, number, is);
        }
        | inr x ↦ let w : IsWait m a b i = h.waits a b i x in record {
          message = w.message;
          said = said_before i w.below ∙ w.said;
          of_call = w.of_call;
          of_brick = w.of_brick;
          below = let l : i < m.next = w.below in omega (arith, l);
        }
      ]

  sends : Comes most m (sent m msg) 1
  sends = record {
    numbered = record { numbers = said_is; flies = flies_below; waits = sent_wait };
    grows = omega arith;
    lowers = sent_rank;
  }

-- ---- every entry

pub comes : (n most : ℕ) (m : Net) (e : Entry) → IsNumbered m → May n m e → Comes most m (after m e) (weight e)
comes n most m (Called call client op) h may = shrunk most m (after m (Called call client op)) (record { next = refl; said = refl; flying = λ i e. e; awaits = λ a b i e. e }) h
comes n most m (Sent msg) h may = sends most m msg may.0 h
comes n most m (Executed i version failed) h may =
    lands most m (after m (Executed i version failed)) i (executed_shrinks m (m.said i) version failed) h may.at.flying
    (rw may.at.said (executed_lands m i may.message may.message.body may.request version failed may.at.body (h.numbers i may.message may.at.said)))
comes n most m (Heard i) h may =
    lands most m (after m (Heard i)) i (heard_shrinks m (m.said i)) h may.flying
    (rw may.said (heard_lands m i may.message may.message.body may.re may.reply may.body (h.numbers i may.message may.said)))
comes n most m (Lost i) h may =
    lands most m (after m (Lost i)) i (record { next = refl; said = refl; flying = λ j e. put_less m.flying i j e; awaits = λ a b j e. e }) h may.0 (put_here m.flying i false)
comes n most m (GivenUp client brick i) h may =
    leaves most m (after m (GivenUp client brick i)) i (given_up_shrinks m brick i (m.said i)) h (wait m client brick i may h).below (waited_before m client brick i may h) (left_after m client brick i may h)
comes n most m (Stopped b) h may = shrunk most m (after m (Stopped b)) (record { next = refl; said = refl; flying = λ i e. e; awaits = λ a b i e. e }) h
comes n most m (Returned b) h may = shrunk most m (after m (Returned b)) (record { next = refl; said = refl; flying = λ i e. e; awaits = λ a b i e. e }) h
comes n most m (Cut client b) h may = shrunk most m (after m (Cut client b)) (record { next = refl; said = refl; flying = λ i e. e; awaits = λ a b i e. e }) h
comes n most m (Died client) h may = shrunk most m (after m (Died client)) (record { next = refl; said = refl; flying = λ i e. e; awaits = λ a b i e. e }) h
comes n most m (Yielded client) h may = shrunk most m m (same m) h
comes n most m (Torn i bytes version) h may =
    lands most m (after m (Torn i bytes version)) i (torn_shrinks m (m.said i) bytes version) h may.at.flying
    (rw may.at.said (torn_lands m i may.message may.message.body may.request bytes version may.at.body (h.numbers i may.message may.at.said)))
comes n most m (Answered call answer) h may = shrunk most m (after m (Answered call answer)) (record { next = refl; said = refl; flying = λ i e. e; awaits = λ a b i e. e }) h
comes n most m (Replaced b removed all) h may = shrunk most m (after m (Replaced b removed all)) (record { next = refl; said = refl; flying = λ i e. e; awaits = λ a b i e. e }) h
