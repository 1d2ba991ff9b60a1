-- What a log books for its calls: own entries are only added, and a call that is answered has its answer among them. So a call sends
-- nothing but Releases once it is answered, where it keeps the conduct.
use Rattle.std.proofs.Common.{◌≡◌, inl, inr, ℕ, ◌+◌, ◌≤◌, Bool, true, false, cond, not, ◌==◌, ◌&&◌, ◌||◌, is_some, Option, Some, None, List, [], ◌∷◌, ◌++◌, refl, sym, ap, subst, ◌∙◌, append_assoc, arith}
use Rattle.ec_attr.specs.declared.geometry.Geometry.{Geometry}
use Rattle.ec_clients.specs.Come.{nothing_left}
use Rattle.ec_conduct.specs.Account.{Account, Exchange, Wait, account_from, after as account_after, filed, gfid_of, heard_by, left_by, over, sent as account_sent}
use Rattle.ec_conduct.specs.Conduct.{Keeps, KeepsFrom, May as MayOwn, MaySend, is_release}
use Rattle.ec_conduct.specs.Given.{Given}
use Rattle.ec_conduct.specs.Opened.{account, opened}
use Rattle.ec_conduct.specs.Own.{Own, Sends, Hears, GivesUp, Answers}
use Rattle.ec_conduct.proofs.Plain.{unanswered}
use Rattle.ec_history.specs.Accounts.{Books, booked, books, hears, hears_body, own_of, sender, sends, with_own}
use Rattle.ec_history.specs.IsRun.{IsRun, MaySay}
use Rattle.ec_history.specs.Run.{Asker, Net, after, call_of, executed, executed_by, heard, heard_by as net_heard_by, is_number, run, torn_by, torn_off}
use Rattle.ec_history.specs.Story.{Story, told}
use Rattle.ec_store.specs.Put.{put}
use Rattle.ec_wire.specs.declared.answer.Answer.{Answer}
use Rattle.ec_wire.specs.declared.entry.Entry.{Entry}
use Rattle.ec_wire.specs.declared.entry.Entry.TheVariants.{Called, Sent, Executed, Heard, Lost, GivenUp, Stopped, Returned, Cut, Died, Yielded, Torn, Answered, Replaced}
use Rattle.ec_wire.specs.declared.message.Body.{Body}
use Rattle.ec_wire.specs.declared.message.Body.TheVariants.{ToBrick, ToClient}
use Rattle.ec_wire.specs.declared.message.Message.{Message}
use Rattle.ec_wire.specs.declared.reply.Reply.{Reply}
use Rattle.ec_wire.specs.declared.request.Request.{Request}
use Rattle.ec_wire.specs.declared.request.Request.TheVariants.{Release}
use Rattle.ec_law_calls.proofs.Callers.{stays}
use Rattle.ec_law_settled.specs.Calm.{AllSend, SendsIn, SendsOnly}
use Rattle.ec_law_settled.proofs.Counted.{IsCounted, comes}
use Rattle.ec_law_settled.proofs.Places.{put_at}

-- ## Own entries

abbrev pub is_answer : Own → Bool
is_answer (Answers answer) = true
is_answer e = false

abbrev pub has_answer : List Own → Bool
has_answer [] = false
has_answer (e ∷ es) = is_answer e || has_answer es

or_true : (t : Bool) → (t || true) ≡ true
or_true true = refl
or_true false = refl

or_with : (t u v : Bool) → (u ≡ true → v ≡ true) → (t || u) ≡ true → (t || v) ≡ true
or_with true u v h e = refl
or_with false u v h e = h e

still_answered : (xs ys : List Own) → has_answer xs ≡ true → has_answer (xs ++ ys) ≡ true
still_answered [] ys e = absurd (cc)
still_answered (x ∷ xs) ys e = or_with (is_answer x) (has_answer xs) (has_answer (xs ++ ys)) (still_answered xs ys) e

with_answer : (xs : List Own) (answer : Answer) → has_answer (xs ++ Answers answer ∷ []) ≡ true
with_answer [] answer = refl
with_answer (x ∷ xs) answer = subst (λ (t : Bool). (is_answer x || t) ≡ true) (sym (with_answer xs answer)) (or_true (is_answer x))

-- ## Accounts

pub sent_answer : (c : Account) (b i : ℕ) (r : Request) → (account_sent c b i r).answer ≡ c.answer
sent_answer c b i (Release g n) = refl
sent_answer c b i r = refl

filed_answer : (c : Account) (b : ℕ) (e : Exchange) (o : Option ℕ) → (filed c b e o).answer ≡ c.answer
filed_answer c b e None = refl
filed_answer c b e (Some g) = refl

over_answer : (c : Account) (b : ℕ) (e : Exchange) → (over c b e).answer ≡ c.answer
over_answer c b e = filed_answer (record c { waits = put c.waits b None; steps = c.steps + 1 }) b e (gfid_of e.request)

either : (t : Bool) (c d : Account) → d.answer ≡ c.answer → (cond t d c).answer ≡ c.answer
either true c d e = e
either false c d e = refl

pub heard_answer : (c : Account) (b : ℕ) (o : Option Wait) (i : ℕ) (reply : Reply) → (heard_by c b o i reply).answer ≡ c.answer
heard_answer c b None i reply = refl
heard_answer c b (Some w) i reply = either (w.number == i) c (over c b (record { number = w.number; request = w.request; reply = Some reply })) (over_answer c b (record { number = w.number; request = w.request; reply = Some reply }))

pub left_answer : (c : Account) (b : ℕ) (o : Option Wait) (i : ℕ) → (left_by c b o i).answer ≡ c.answer
left_answer c b None i = refl
left_answer c b (Some w) i = either (w.number == i) c (over c b (record { number = w.number; request = w.request; reply = None })) (over_answer c b (record { number = w.number; request = w.request; reply = None }))

answer_stays : (c : Account) (e : Own) → is_some c.answer ≡ true → is_some (account_after c e).answer ≡ true
answer_stays c (Sends b i r) h = ap is_some (sent_answer c b i r) ∙ h
answer_stays c (Hears b i reply) h = ap is_some (heard_answer c b (c.waits b) i reply) ∙ h
answer_stays c (GivesUp b i) h = ap is_some (left_answer c b (c.waits b) i) ∙ h
answer_stays c (Answers answer) h = refl

answer_stays_on : (es : List Own) (c : Account) → is_some c.answer ≡ true → is_some (account_from c es).answer ≡ true
answer_stays_on [] c h = h
answer_stays_on (e ∷ es) c h = answer_stays_on es (account_after c e) (answer_stays c e h)

-- own entries with an answer among them make an account that has one
answered_account : (es : List Own) (c : Account) → has_answer es ≡ true → is_some (account_from c es).answer ≡ true
answered_account [] c h = absurd (cc)
answered_account (Answers answer ∷ es) c h = answer_stays_on es (account_after c (Answers answer)) refl
answered_account (e ∷ es) c h = answered_account es (account_after c e) h

keeps_at : (xs ys : List Own) (e : Own) (c : Account) → KeepsFrom c (xs ++ e ∷ ys) → MayOwn (account_from c xs) e
keeps_at [] ys e c k = k.0
keeps_at (x ∷ xs) ys e c k = keeps_at xs ys e (account_after c x) k.1

none_has : (o : Option Answer) → o ≡ None → is_some o ≡ true → ⊥
none_has None e h = absurd (cc)
none_has (Some answer) e h = absurd (cc)

-- ## Books

-- own entries with some more at the end
abbrev Longer : List Own → List Own → Type 0
Longer xs ys = (more : List Own) × (ys ≡ xs ++ more)

no_longer : (xs : List Own) → Longer xs xs
no_longer xs = ([], nothing_more xs)
  where
    nothing_more : (xs : List Own) → xs ≡ xs ++ []
    nothing_more [] = refl
    nothing_more (x ∷ xs) = ap (λ (zs : List Own). x ∷ zs) (nothing_more xs)

same_longer : (xs ys : List Own) → ys ≡ xs → Longer xs ys
same_longer xs ys e = subst (Longer xs) (sym e) (no_longer xs)

longer_still : (xs ys zs : List Own) → Longer xs ys → Longer ys zs → Longer xs zs
longer_still xs ys zs h k = (h.0 ++ k.0, k.1 ∙ (ap (λ (l : List Own). l ++ k.0) h.1 ∙ append_assoc xs h.0 k.0))

own_longer : (b : Books) (a : ℕ) (e : Own) (c : ℕ) → Longer (b.own c) ((with_own b a e).own c)
own_longer b a e c = elim (put_at b.own a (b.own a ++ e ∷ []) c) [
  | inl w ↦ (e ∷ [], w.1 ∙ ap (λ (z : ℕ). b.own z ++ e ∷ []) (sym w.0))
  | inr w ↦ same_longer (b.own c) ((with_own b a e).own c) w.1
]

of_longer : (b : Books) (o : Option ℕ) (e : Own) (c : ℕ) → Longer (b.own c) ((own_of b o e).own c)
of_longer b None e c = no_longer (b.own c)
of_longer b (Some a) e c = own_longer b a e c

sends_longer : (m : Net) (b : Books) (msg : Message) (body : Body) (c : ℕ) → Longer (b.own c) ((sends m b msg body).own c)
sends_longer m b msg (ToBrick q) c = of_longer b (sender m b msg q) (Sends msg.brick msg.no q) c
sends_longer m b msg (ToClient re reply) c = no_longer (b.own c)

hears_body_longer : (m : Net) (b : Books) (msg : Message) (body : Body) (c : ℕ) → Longer (b.own c) ((hears_body m b msg body).own c)
hears_body_longer m b msg (ToBrick q) c = no_longer (b.own c)
hears_body_longer m b msg (ToClient re reply) c = by (is_number re (m.awaits msg.call msg.brick) && not (m.answered msg.call))
  where
    by : (t : Bool) → Longer (b.own c) ((cond t (with_own b msg.call (Hears msg.brick re reply)) b).own c)
    by true = own_longer b msg.call (Hears msg.brick re reply) c
    by false = no_longer (b.own c)

hears_longer : (m : Net) (b : Books) (o : Option Message) (c : ℕ) → Longer (b.own c) ((hears m b o).own c)
hears_longer m b None c = no_longer (b.own c)
hears_longer m b (Some msg) c = hears_body_longer m b msg msg.body c

booked_longer : (geometry : Geometry) (m : Net) (t : Story) (b : Books) (e : Entry) (c : ℕ) → Longer (b.own c) ((booked geometry nothing_left m t b e).own c)
booked_longer geometry m t b (Called a client op) c = no_longer (b.own c)
booked_longer geometry m t b (Sent msg) c = sends_longer m b msg msg.body c
booked_longer geometry m t b (Executed i version failed) c = no_longer (b.own c)
booked_longer geometry m t b (Heard i) c = hears_longer m b (m.said i) c
booked_longer geometry m t b (Lost i) c = no_longer (b.own c)
booked_longer geometry m t b (GivenUp client brick i) c = own_longer b (call_of (m.said i)) (GivesUp brick i) c
booked_longer geometry m t b (Stopped d) c = no_longer (b.own c)
booked_longer geometry m t b (Returned d) c = no_longer (b.own c)
booked_longer geometry m t b (Cut client d) c = no_longer (b.own c)
booked_longer geometry m t b (Died client) c = no_longer (b.own c)
booked_longer geometry m t b (Yielded client) c = no_longer (b.own c)
booked_longer geometry m t b (Torn i bytes version) c = no_longer (b.own c)
booked_longer geometry m t b (Answered a answer) c = own_longer b a (Answers answer) c
booked_longer geometry m t b (Replaced d removed all) c = no_longer (b.own c)

books_longer : (geometry : Geometry) (es : List Entry) (m : Net) (t : Story) (b : Books) (c : ℕ) → Longer (b.own c) ((books geometry nothing_left es m t b).own c)
books_longer geometry [] m t b c = no_longer (b.own c)
books_longer geometry (e ∷ es) m t b c =
    longer_still (b.own c) ((booked geometry nothing_left m t b e).own c) ((books geometry nothing_left es (after m e) (told geometry m t e) (booked geometry nothing_left m t b e)).own c)
    (booked_longer geometry m t b e c) (books_longer geometry es (after m e) (told geometry m t e) (booked geometry nothing_left m t b e) c)

-- ## Answers are booked

abbrev pub AreAnswered : Net → Books → Type 0
AreAnswered m b = (a : ℕ) → m.answered a ≡ true → has_answer (b.own a) ≡ true

longer_answered : (xs ys : List Own) → Longer xs ys → has_answer xs ≡ true → has_answer ys ≡ true
longer_answered xs ys h e = subst (λ (l : List Own). has_answer l ≡ true) (sym h.1) (still_answered xs h.0 e)

pub executed_answered : (m : Net) (o : Option Message) (version : Option ℕ) (failed : Bool) → (executed m o version failed).answered ≡ m.answered
executed_answered m None version failed = refl
executed_answered m (Some msg) version failed = by msg.body
  where
    by : (z : Body) → (executed_by m msg z version failed).answered ≡ m.answered
    by (ToBrick q) = refl
    by (ToClient re reply) = refl

pub heard_answered : (m : Net) (o : Option Message) → (heard m o).answered ≡ m.answered
heard_answered m None = refl
heard_answered m (Some msg) = by msg.body
  where
    by : (z : Body) → (net_heard_by m msg z).answered ≡ m.answered
    by (ToBrick q) = refl
    by (ToClient re reply) = refl

pub torn_answered : (m : Net) (o : Option Message) (bytes : ℕ) (version : Option ℕ) → (torn_off m o bytes version).answered ≡ m.answered
torn_answered m None bytes version = refl
torn_answered m (Some msg) bytes version = by msg.body
  where
    by : (z : Body) → (torn_by m msg z bytes version).answered ≡ m.answered
    by (ToBrick q) = refl
    by (ToClient re reply) = refl

module _ (geometry : Geometry) (m : Net) (t : Story) (b : Books) (h : AreAnswered m b) where
  -- an entry that answers no call
  as_before : (e : Entry) → (after m e).answered ≡ m.answered → AreAnswered (after m e) (booked geometry nothing_left m t b e)
  as_before e same a s = longer_answered (b.own a) ((booked geometry nothing_left m t b e).own a) (booked_longer geometry m t b e a) (h a (ap (λ (f : ℕ → Bool). f a) (sym same) ∙ s))

  answers : (c : ℕ) (answer : Answer) → AreAnswered (after m (Answered c answer)) (booked geometry nothing_left m t b (Answered c answer))
  answers c answer a s = elim (put_at m.answered c true a) [
    | inl w ↦ elim (put_at b.own c (b.own c ++ Answers answer ∷ []) a) [
      | inl v ↦ ap has_answer v.1 ∙ with_answer (b.own c) answer
      | inr v ↦ absurd (v.0 w.0)
    ]
    | inr w ↦ longer_answered (b.own a) ((booked geometry nothing_left m t b (Answered c answer)).own a) (booked_longer geometry m t b (Answered c answer) a) (h a (sym w.1 ∙ s))
  ]

  answered_after : (e : Entry) → AreAnswered (after m e) (booked geometry nothing_left m t b e)
  answered_after (Called a client op) = as_before (Called a client op) refl
  answered_after (Sent msg) = as_before (Sent msg) refl
  answered_after (Executed i version failed) = as_before (Executed i version failed) (executed_answered m (m.said i) version failed)
  answered_after (Heard i) = as_before (Heard i) (heard_answered m (m.said i))
  answered_after (Lost i) = as_before (Lost i) refl
  answered_after (GivenUp client brick i) = as_before (GivenUp client brick i) refl
  answered_after (Stopped d) = as_before (Stopped d) refl
  answered_after (Returned d) = as_before (Returned d) refl
  answered_after (Cut client d) = as_before (Cut client d) refl
  answered_after (Died client) = as_before (Died client) refl
  answered_after (Yielded client) = as_before (Yielded client) refl
  answered_after (Torn i bytes version) = as_before (Torn i bytes version) (torn_answered m (m.said i) bytes version)
  answered_after (Answered a answer) = answers a answer
  answered_after (Replaced d removed all) = as_before (Replaced d removed all) refl

-- ## What is sent

pub asker_along : (n : ℕ) (es : List Entry) (m : Net) → IsRun n es m → (a : ℕ) → a ≤ m.calls → (run es m).asker a ≡ m.asker a
asker_along n [] m runs a le = refl
asker_along n (e ∷ es) m runs a le =
    let s = stays n m e runs.0 in
    let grows : m.calls ≤ (after m e).calls = s.grows in
    asker_along n es (after m e) runs.1 a (omega (arith, le, grows)) ∙ s.same a le

-- At the end of a log each call that was made keeps the conduct.
pub record EndsWell (m : Net) (b : Books) : Type 0 where
  pub conduct : (a : ℕ) (asker : Asker) → m.asker a ≡ Some asker → (given : Given) × Keeps given (b.own a)

sent_own : (m : Net) (b : Books) (msg : Message) (q : Request) → is_release q ≡ false → sender m b msg q ≡ Some msg.call
sent_own m b msg (Release g n) e = absurd (cc)
sent_own m b msg q e = refl

refuses : (t : Bool) → (t ≡ true → ⊥) → t ≡ false
refuses true h = absurd (h refl)
refuses false h = refl

module _ (n : ℕ) (geometry : Geometry) (m : Net) (t : Story) (b : Books) (msg : Message) (es : List Entry) (runs : IsRun n (Sent msg ∷ es) m) (counted : IsCounted n m) (answered : AreAnswered m b)
    (ends : EndsWell (run es (after m (Sent msg))) (books geometry nothing_left es (after m (Sent msg)) (told geometry m t (Sent msg)) (booked geometry nothing_left m t b (Sent msg)))) where
  abbrev last : Books
  last = books geometry nothing_left es (after m (Sent msg)) (told geometry m t (Sent msg)) (booked geometry nothing_left m t b (Sent msg))

  -- a call that is answered sends no such request
  sends_none : (q : Request) → msg.body ≡ ToBrick q → is_release q ≡ false → m.answered msg.call ≡ true → ⊥
  sends_none q body speaks over =
      let may = subst (MaySay n m msg) body runs.0.1 in
      let made : (run es (after m (Sent msg))).asker msg.call ≡ Some may.asker = asker_along n es (after m (Sent msg)) runs.1 msg.call (counted.made msg.call may.asker may.made) ∙ may.made in
      let kept = ends.conduct msg.call may.asker made in
      let own : (booked geometry nothing_left m t b (Sent msg)).own msg.call ≡ b.own msg.call ++ Sends msg.brick msg.no q ∷ [] = ap (λ (z : Body). (sends m b msg z).own msg.call) body ∙ (ap (λ (o : Option ℕ). (own_of b o (Sends msg.brick msg.no q)).own msg.call) (sent_own m b msg q speaks) ∙ here) in
      let more = books_longer geometry es (after m (Sent msg)) (told geometry m t (Sent msg)) (booked geometry nothing_left m t b (Sent msg)) msg.call in
      let all : last.own msg.call ≡ b.own msg.call ++ Sends msg.brick msg.no q ∷ more.0 = more.1 ∙ (ap (λ (l : List Own). l ++ more.0) own ∙ append_assoc (b.own msg.call) (Sends msg.brick msg.no q ∷ []) more.0) in
      let may_send : MaySend (account kept.0 (b.own msg.call)) msg.brick q = keeps_at (b.own msg.call) more.0 (Sends msg.brick msg.no q) (opened kept.0) (subst (Keeps kept.0) all kept.1) in
      none_has (account kept.0 (b.own msg.call)).answer (unanswered (account kept.0 (b.own msg.call)) msg.brick q may_send) (answered_account (b.own msg.call) (opened kept.0) (answered msg.call over))
    where
      here : (with_own b msg.call (Sends msg.brick msg.no q)).own msg.call ≡ b.own msg.call ++ Sends msg.brick msg.no q ∷ []
      here = elim (put_at b.own msg.call (b.own msg.call ++ Sends msg.brick msg.no q ∷ []) msg.call) [ inl w ↦ w.1 | inr w ↦ absurd (w.0 refl) ]

  only : (q : Request) → (is_release q ≡ false → m.answered msg.call ≡ false) → SendsOnly m msg (ToBrick q)
  only (Release g k) h = tt
  only q h = h refl

  sends_by : (body : Body) → msg.body ≡ body → SendsOnly m msg body
  sends_by (ToBrick q) e = only q (λ speaks. refuses (m.answered msg.call) (sends_none q e speaks))
  sends_by (ToClient re reply) e = tt

  sends_in : SendsIn m (Sent msg)
  sends_in = sends_by msg.body refl

entry_sends : (n : ℕ) (geometry : Geometry) (m : Net) (t : Story) (b : Books) (e : Entry) (es : List Entry) → IsRun n (e ∷ es) m → IsCounted n m → AreAnswered m b
    → EndsWell (run es (after m e)) (books geometry nothing_left es (after m e) (told geometry m t e) (booked geometry nothing_left m t b e)) → SendsIn m e
entry_sends n geometry m t b (Sent msg) es runs counted answered ends = sends_in n geometry m t b msg es runs counted answered ends
entry_sends n geometry m t b e es runs counted answered ends = tt

pub all_send : (n : ℕ) (geometry : Geometry) (es : List Entry) (m : Net) (t : Story) (b : Books) → IsRun n es m → IsCounted n m → AreAnswered m b → EndsWell (run es m) (books geometry nothing_left es m t b) → AllSend es m
all_send n geometry [] m t b runs counted answered ends = tt
all_send n geometry (e ∷ es) m t b runs counted answered ends =
    (entry_sends n geometry m t b e es runs counted answered ends, all_send n geometry es (after m e) (told geometry m t e) (booked geometry nothing_left m t b e) runs.1 (comes n m e runs.0 counted) (answered_after geometry m t b answered e) ends)

-- none is answered as a log begins
pub none_answered : (m : Net) (b : Books) → ((a : ℕ) → m.answered a ≡ false) → AreAnswered m b
none_answered m b h a e = let f = h a in absurd (cc)
