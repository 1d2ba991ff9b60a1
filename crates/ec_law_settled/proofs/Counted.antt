-- Messages have their numbers and go between bricks and calls that are there.
use Rattle.std.proofs.Common.{◌≡◌, ◌⊎◌, inl, inr, ℕ, ◌+◌, ◌<◌, ◌≤◌, Bool, true, false, cond, ◌==◌, ◌&&◌, Option, Some, None, List, [], ◌∷◌, ◌++◌, map, refl, sym, ap, subst, ◌∙◌, arith}
use Rattle.ec_brick.specs.Replies.{Says, Nothing}
use Rattle.ec_brick.specs.State.{State}
use Rattle.ec_brick.specs.Step.{cut_off}
use Rattle.ec_history.specs.IsRun.{IsFirstOwed, IsRun, May, MaySay}
use Rattle.ec_history.specs.Run.{Asker, Net, Owed, after, awaits_after, call_of, executed, executed_by, fresh, granted_owed, heard, heard_by, is_number, let_in_owed, out_of, owed_after, own_owed, put2, run, sent, torn_by, torn_off}
use Rattle.ec_locks.specs.declared.waiters.Waiter.{Waiter}
use Rattle.ec_wire.specs.declared.entry.Entry.{Entry}
use Rattle.ec_wire.specs.declared.entry.Entry.TheVariants.{Called, Sent, Executed, Heard, Lost, GivenUp, Stopped, Returned, Cut, Died, Yielded, Torn, Answered, Replaced}
use Rattle.ec_wire.specs.declared.message.Body.{Body}
use Rattle.ec_wire.specs.declared.message.Body.TheVariants.{ToBrick, ToClient}
use Rattle.ec_wire.specs.declared.message.Message.{Message}
use Rattle.ec_wire.specs.declared.op.Op.{Op}
use Rattle.ec_wire.specs.declared.reply.Reply.{Reply}
use Rattle.ec_wire.specs.declared.request.Request.{Request}
use Rattle.ec_wire.specs.declared.request.Request.TheVariants.{Release}
use Rattle.ec_conduct.specs.Conduct.{is_release}
use Rattle.ec_law_settled.proofs.Places.{put2_some, put_at, put_false, put_here, put_there}

pub some_message : (a b : Message) → Some a ≡ Some b → a ≡ b
some_message a b e = cc

-- the replies owed are of bricks below n
abbrev pub OwedBelow : ℕ → List Owed → Type 0
OwedBelow n [] = Unit {0}
OwedBelow n (o ∷ os) = (o.brick < n) × OwedBelow n os

pub record IsCounted (n : ℕ) (m : Net) : Type 0 where
  pub number : (i : ℕ) (x : Message) → m.said i ≡ Some x → (x.no ≡ i) × (i < m.next)
  pub brick : (i : ℕ) (x : Message) → m.said i ≡ Some x → x.brick < n
  pub call : (i : ℕ) (x : Message) (q : Request) → m.said i ≡ Some x → x.body ≡ ToBrick q → x.call ≤ m.calls
  pub owed : OwedBelow n m.owed
  pub flies : (i : ℕ) → m.flying i ≡ true → (x : Message) × (m.said i ≡ Some x)
  pub waits : (a b i : ℕ) → m.awaits a b ≡ Some i → a ≤ m.calls
  pub made : (a : ℕ) (x : Asker) → m.asker a ≡ Some x → a ≤ m.calls

pub fresh_counted : (n : ℕ) (bricks : ℕ → State) → IsCounted n (fresh bricks)
fresh_counted n bricks = record {
  number = λ i x e. absurd (cc);
  brick = λ i x e. absurd (cc);
  call = λ i x q e b. absurd (cc);
  owed = tt;
  flies = λ i e. absurd (cc);
  waits = λ a b i e. absurd (cc);
  made = λ a x e. absurd (cc);
}

-- what an entry leaves that sends nothing and is no call
record Shrinks (n : ℕ) (m k : Net) : Type 0 where
  next : k.next ≡ m.next
  said : k.said ≡ m.said
  calls : k.calls ≡ m.calls
  asker : k.asker ≡ m.asker
  owed : OwedBelow n k.owed
  flying : (i : ℕ) → k.flying i ≡ true → m.flying i ≡ true
  awaits : (a b i : ℕ) → k.awaits a b ≡ Some i → m.awaits a b ≡ Some i

shrunk : (n : ℕ) (m k : Net) → Shrinks n m k → IsCounted n m → IsCounted n k
shrunk n m k s h = record {
  number = λ i x e. subst (λ (z : ℕ). (x.no ≡ i) × (i < z)) (sym s.next) (h.number i x (before i x e));
  brick = λ i x e. h.brick i x (before i x e);
  call = λ i x q e b. subst (λ (z : ℕ). x.call ≤ z) (sym s.calls) (h.call i x q (before i x e) b);
  owed = s.owed;
  flies = λ i e. let w = h.flies i (s.flying i e) in (w.0, ap (λ (f : ℕ → Option Message). f i) s.said ∙ w.1);
  waits = λ a b i e. subst (λ (z : ℕ). a ≤ z) (sym s.calls) (h.waits a b i (s.awaits a b i e));
  made = λ a x e. subst (λ (z : ℕ). a ≤ z) (sym s.calls) (h.made a x (ap (λ (f : ℕ → Option Asker). f a) (sym s.asker) ∙ e));
}
  where
    before : (i : ℕ) (x : Message) → k.said i ≡ Some x → m.said i ≡ Some x
    before i x e = ap (λ (f : ℕ → Option Message). f i) (sym s.said) ∙ e

-- ## What is owed

let_in_below : (n : ℕ) (m : Net) (b : ℕ) → b < n → (ws : List Waiter) → OwedBelow n (map (granted_owed m b) ws)
let_in_below n m b lt [] = tt
let_in_below n m b lt (w ∷ ws) = (lt, let_in_below n m b lt ws)

own_below : (n : ℕ) (msg : Message) (says : Says) (os : List Owed) → msg.brick < n → OwedBelow n os → OwedBelow n (own_owed msg says ++ os)
own_below n msg Nothing os lt h = h
own_below n msg says os lt h = (lt, h)

-- ## Messages that are delivered

executed_by_shrinks : (n : ℕ) (m : Net) (msg : Message) (body : Body) (version : Option ℕ) (failed : Bool) → msg.brick < n → IsCounted n m → Shrinks n m (executed_by m msg body version failed)
executed_by_shrinks n m msg (ToBrick q) version failed lt h = record { next = refl; said = refl; calls = refl; asker = refl; owed = own_below n msg (out_of m msg q version failed).says (let_in_owed m msg.brick (out_of m msg q version failed)) lt (let_in_below n m msg.brick lt (out_of m msg q version failed).lets_in); flying = λ i e. (put_false m.flying msg.no i e).1; awaits = λ a b i e. e }
executed_by_shrinks n m msg (ToClient re reply) version failed lt h = record { next = refl; said = refl; calls = refl; asker = refl; owed = h.owed; flying = λ i e. e; awaits = λ a b i e. e }

executed_shrinks : (n : ℕ) (m : Net) (i : ℕ) (o : Option Message) (version : Option ℕ) (failed : Bool) → m.said i ≡ o → IsCounted n m → Shrinks n m (executed m o version failed)
executed_shrinks n m i None version failed said h = record { next = refl; said = refl; calls = refl; asker = refl; owed = h.owed; flying = λ i e. e; awaits = λ a b i e. e }
executed_shrinks n m i (Some msg) version failed said h = executed_by_shrinks n m msg msg.body version failed (h.brick i msg said) h

torn_by_shrinks : (n : ℕ) (m : Net) (msg : Message) (body : Body) (count : ℕ) (version : Option ℕ) → IsCounted n m → Shrinks n m (torn_by m msg body count version)
torn_by_shrinks n m msg (ToBrick q) count version h = record { next = refl; said = refl; calls = refl; asker = refl; owed = h.owed; flying = λ i e. (put_false m.flying msg.no i e).1; awaits = λ a b i e. e }
torn_by_shrinks n m msg (ToClient re reply) count version h = record { next = refl; said = refl; calls = refl; asker = refl; owed = h.owed; flying = λ i e. e; awaits = λ a b i e. e }

torn_shrinks : (n : ℕ) (m : Net) (o : Option Message) (count : ℕ) (version : Option ℕ) → IsCounted n m → Shrinks n m (torn_off m o count version)
torn_shrinks n m None count version h = record { next = refl; said = refl; calls = refl; asker = refl; owed = h.owed; flying = λ i e. e; awaits = λ a b i e. e }
torn_shrinks n m (Some msg) count version h = torn_by_shrinks n m msg msg.body count version h

pub unless : (t : Bool) (o : Option ℕ) (i : ℕ) → cond t None o ≡ Some i → (t ≡ false) × (o ≡ Some i)
unless true o i e = absurd (cc)
unless false o i e = (refl, e)

heard_by_shrinks : (n : ℕ) (m : Net) (msg : Message) (body : Body) → IsCounted n m → Shrinks n m (heard_by m msg body)
heard_by_shrinks n m msg (ToBrick q) h = record { next = refl; said = refl; calls = refl; asker = refl; owed = h.owed; flying = λ i e. e; awaits = λ a b i e. e }
heard_by_shrinks n m msg (ToClient re reply) h = record {
  next = refl;
  said = refl;
  calls = refl;
  asker = refl;
  owed = h.owed;
  flying = λ i e. (put_false m.flying msg.no i e).1;
  awaits = λ a b i e. (unless ((a == msg.call) && (b == msg.brick) && is_number re (m.awaits a b)) (m.awaits a b) i e).1;
}

heard_shrinks : (n : ℕ) (m : Net) (o : Option Message) → IsCounted n m → Shrinks n m (heard m o)
heard_shrinks n m None h = record { next = refl; said = refl; calls = refl; asker = refl; owed = h.owed; flying = λ i e. e; awaits = λ a b i e. e }
heard_shrinks n m (Some msg) h = heard_by_shrinks n m msg msg.body h

pub put2_none : (f : ℕ → ℕ → Option ℕ) (i j a b k : ℕ) → put2 f i j None a b ≡ Some k → f a b ≡ Some k
put2_none f i j a b k e = elim (put2_some f i j None a b k e) [ inl w ↦ (let bad : None ≡ Some k = w.2 in absurd (cc)) | inr w ↦ w ]

-- ## A message is sent

-- what is waited for is the message, a request that is no Release, or was waited for before
pub awaits_put : (f : ℕ → ℕ → Option ℕ) (msg : Message) (q : Request) → is_release q ≡ false → awaits_after f msg (ToBrick q) ≡ put2 f msg.call msg.brick (Some msg.no)
awaits_put f msg (Release g n) e = absurd (cc)
awaits_put f msg q e = refl

pub record IsNew (msg : Message) (body : Body) (a b i : ℕ) : Type 0 where
  pub request : Request
  pub body_is : body ≡ ToBrick request
  pub speaks : is_release request ≡ false
  pub of_call : a ≡ msg.call
  pub of_brick : b ≡ msg.brick
  pub number : i ≡ msg.no

some_number : (x y : ℕ) → Some x ≡ Some y → y ≡ x
some_number x y e = cc

pub awaits_is : (f : ℕ → ℕ → Option ℕ) (msg : Message) (body : Body) (a b i : ℕ) → awaits_after f msg body a b ≡ Some i → IsNew msg body a b i ⊎ (f a b ≡ Some i)
awaits_is f msg (ToClient re reply) a b i e = inr e
awaits_is f msg (ToBrick q) a b i e = at (is_release q) refl
  where
    by_new : is_release q ≡ false → put2 f msg.call msg.brick (Some msg.no) a b ≡ Some i → IsNew msg (ToBrick q) a b i ⊎ (f a b ≡ Some i)
    by_new s e = elim (put2_some f msg.call msg.brick (Some msg.no) a b i e) [
      | inl w ↦ inl (record { request = q; body_is = refl; speaks = s; of_call = w.0; of_brick = w.1; number = some_number msg.no i w.2 })
      | inr w ↦ inr w
    ]

    released : (q : Request) → is_release q ≡ true → awaits_after f msg (ToBrick q) a b ≡ Some i → f a b ≡ Some i
    released (Release g n) s e = e
    released q s e = absurd (cc)

    at : (t : Bool) → is_release q ≡ t → IsNew msg (ToBrick q) a b i ⊎ (f a b ≡ Some i)
    at true s = inr (released q s e)
    at false s = by_new s (ap (λ (h : ℕ → ℕ → Option ℕ). h a b) (sym (awaits_put f msg q s)) ∙ e)

module _ (n : ℕ) (m : Net) (msg : Message) (is : msg.no ≡ m.next) (h : IsCounted n m) where
  pub other : (i : ℕ) → i < m.next → i ≡ msg.no → ⊥
  other i lt e = absurd (omega (arith, lt, e, is))

  -- messages keep their numbers
  pub said_stays : (i : ℕ) (x : Message) → m.said i ≡ Some x → (sent m msg).said i ≡ Some x
  said_stays i x e = put_there m.said msg.no (Some msg) i (other i (h.number i x e).1) ∙ e

  -- and a message is the one that is sent, or an older one
  pub said_before : (i : ℕ) (x : Message) → (sent m msg).said i ≡ Some x → ((i ≡ msg.no) × (msg ≡ x)) ⊎ ((i ≡ msg.no → ⊥) × (m.said i ≡ Some x))
  said_before i x e = elim (put_at m.said msg.no (Some msg) i) [ inl w ↦ inl (w.0, some_message msg x (sym w.1 ∙ e)) | inr w ↦ inr (w.0, sym w.1 ∙ e) ]

  first_below : (os : List Owed) (re : ℕ) (reply : Reply) → OwedBelow n os → IsFirstOwed os msg re reply → msg.brick < n
  first_below [] re reply below x = absurd x
  first_below (o ∷ os) re reply below x = subst (λ (z : ℕ). z < n) (sym x.brick) below.0

  brick_below : (body : Body) → MaySay n m msg body → msg.brick < n
  brick_below (ToBrick q) x = x.to
  brick_below (ToClient re reply) x = first_below m.owed re reply h.owed x

  call_below : (body : Body) (q : Request) → body ≡ ToBrick q → MaySay n m msg body → msg.call ≤ m.calls
  call_below (ToBrick p) q e x = h.made msg.call x.asker x.made
  call_below (ToClient re reply) q e x = absurd (cc)

  owed_left : (body : Body) (os : List Owed) → OwedBelow n os → OwedBelow n (owed_after os body)
  owed_left (ToBrick q) os below = below
  owed_left (ToClient re reply) [] below = tt
  owed_left (ToClient re reply) (o ∷ os) below = below.1

  number_sent : (i : ℕ) (x : Message) → (sent m msg).said i ≡ Some x → (x.no ≡ i) × (i < m.next + 1)
  number_sent i x e = elim (said_before i x e) [
    | inl w ↦ (ap (λ (z : Message). z.no) (sym w.1) ∙ sym w.0, let number : i ≡ msg.no = w.0 in omega (arith, number, is))
    | inr w ↦ let old = h.number i x w.1 in let below : i < m.next = old.1 in (old.0, omega (arith, below))
  ]

  pub sent_counted : MaySay n m msg msg.body → IsCounted n (sent m msg)
  sent_counted may = record {
    number = number_sent;
    brick = λ i x e. elim (said_before i x e) [ inl w ↦ subst (λ (z : Message). z.brick < n) w.1 (brick_below msg.body may) | inr w ↦ h.brick i x w.1 ];
    call = λ i x q e b. elim (said_before i x e) [ inl w ↦ subst (λ (z : Message). z.call ≤ m.calls) w.1 (call_below msg.body q (ap (λ (z : Message). z.body) w.1 ∙ b) may) | inr w ↦ h.call i x q w.1 b ];
    owed = owed_left msg.body m.owed h.owed;
    flies = λ i e. elim (put_at m.flying msg.no true i) [ inl w ↦ (msg, put_here m.said msg.no (Some msg) i w.0) | inr w ↦ let y = h.flies i (sym w.1 ∙ e) in (y.0, said_stays i y.0 y.1) ];
    waits = λ a b i e. elim (awaits_is m.awaits msg msg.body a b i e) [ inl w ↦ subst (λ (z : ℕ). z ≤ m.calls) (sym w.of_call) (call_below msg.body w.request w.body_is may) | inr w ↦ h.waits a b i w ];
    made = h.made;
  }

-- ## Every entry

called_counted : (n call client : ℕ) (op : Op) (m : Net) → call ≡ m.calls + 1 → IsCounted n m → IsCounted n (after m (Called call client op))
called_counted n call client op m is h = record {
  number = h.number;
  brick = h.brick;
  call = λ i x q e b. let le : x.call ≤ m.calls = h.call i x q e b in omega (arith, le, is);
  owed = h.owed;
  flies = h.flies;
  waits = λ a b i e. let le : a ≤ m.calls = h.waits a b i e in omega (arith, le, is);
  made = λ a x e. elim (put_at m.asker call (Some (record { client = client; op = op })) a) [
    | inl w ↦ let here : a ≡ call = w.0 in omega (arith, here)
    | inr w ↦ let le : a ≤ m.calls = h.made a x (sym w.1 ∙ e) in omega (arith, le, is)
  ];
}

pub comes : (n : ℕ) (m : Net) (e : Entry) → May n m e → IsCounted n m → IsCounted n (after m e)
comes n m (Called call client op) may h = called_counted n call client op m may.0 h
comes n m (Sent msg) may h = sent_counted n m msg may.0 h may.1
comes n m (Executed i version failed) may h = shrunk n m (after m (Executed i version failed)) (executed_shrinks n m i (m.said i) version failed refl h) h
comes n m (Heard i) may h = shrunk n m (after m (Heard i)) (heard_shrinks n m (m.said i) h) h
comes n m (Lost i) may h = shrunk n m (after m (Lost i)) (record { next = refl; said = refl; calls = refl; asker = refl; owed = h.owed; flying = λ j e. (put_false m.flying i j e).1; awaits = λ a b j e. e }) h
comes n m (GivenUp client brick i) may h = shrunk n m (after m (GivenUp client brick i)) (record { next = refl; said = refl; calls = refl; asker = refl; owed = h.owed; flying = λ j e. e; awaits = λ a b j e. put2_none m.awaits (call_of (m.said i)) brick a b j e }) h
comes n m (Stopped b) may h = shrunk n m (after m (Stopped b)) (record { next = refl; said = refl; calls = refl; asker = refl; owed = h.owed; flying = λ j e. e; awaits = λ a b j e. e }) h
comes n m (Returned b) may h = shrunk n m (after m (Returned b)) (record { next = refl; said = refl; calls = refl; asker = refl; owed = h.owed; flying = λ j e. e; awaits = λ a b j e. e }) h
comes n m (Cut client b) may h = shrunk n m (after m (Cut client b)) (record { next = refl; said = refl; calls = refl; asker = refl; owed = let_in_below n m b may.0 (cut_off (m.brick b) client).lets_in; flying = λ j e. e; awaits = λ a b j e. e }) h
comes n m (Died client) may h = shrunk n m (after m (Died client)) (record { next = refl; said = refl; calls = refl; asker = refl; owed = h.owed; flying = λ j e. e; awaits = λ a b j e. e }) h
comes n m (Yielded client) may h = h
comes n m (Torn i bytes version) may h = shrunk n m (after m (Torn i bytes version)) (torn_shrinks n m (m.said i) bytes version h) h
comes n m (Answered call answer) may h = shrunk n m (after m (Answered call answer)) (record { next = refl; said = refl; calls = refl; asker = refl; owed = h.owed; flying = λ j e. e; awaits = λ a b j e. e }) h
comes n m (Replaced b removed all) may h = shrunk n m (after m (Replaced b removed all)) (record { next = refl; said = refl; calls = refl; asker = refl; owed = h.owed; flying = λ j e. e; awaits = λ a b j e. e }) h

pub counted : (n : ℕ) (es : List Entry) (m : Net) → IsRun n es m → IsCounted n m → IsCounted n (run es m)
counted n [] m runs h = h
counted n (e ∷ es) m runs h = counted n es (after m e) runs.1 (comes n m e runs.0 h)

-- ## Messages stay what they were

said_after : (n : ℕ) (m : Net) (e : Entry) → May n m e → IsCounted n m → (i : ℕ) (x : Message) → m.said i ≡ Some x → (after m e).said i ≡ Some x
said_after n m (Called call client op) may h i x e = e
said_after n m (Sent msg) may h i x e = said_stays n m msg may.0 h i x e
said_after n m (Executed j version failed) may h i x e = ap (λ (f : ℕ → Option Message). f i) (executed_shrinks n m j (m.said j) version failed refl h).said ∙ e
said_after n m (Heard j) may h i x e = ap (λ (f : ℕ → Option Message). f i) (heard_shrinks n m (m.said j) h).said ∙ e
said_after n m (Lost j) may h i x e = e
said_after n m (GivenUp client brick j) may h i x e = e
said_after n m (Stopped b) may h i x e = e
said_after n m (Returned b) may h i x e = e
said_after n m (Cut client b) may h i x e = e
said_after n m (Died client) may h i x e = e
said_after n m (Yielded client) may h i x e = e
said_after n m (Torn j bytes version) may h i x e = ap (λ (f : ℕ → Option Message). f i) (torn_shrinks n m (m.said j) bytes version h).said ∙ e
said_after n m (Answered call answer) may h i x e = e
said_after n m (Replaced b removed all) may h i x e = e

pub said_along : (n : ℕ) (es : List Entry) (m : Net) → IsRun n es m → IsCounted n m → (i : ℕ) (x : Message) → m.said i ≡ Some x → (run es m).said i ≡ Some x
said_along n [] m runs h i x e = e
said_along n (f ∷ es) m runs h i x e = said_along n es (after m f) runs.1 (comes n m f runs.0 h) i x (said_after n m f runs.0 h i x e)
