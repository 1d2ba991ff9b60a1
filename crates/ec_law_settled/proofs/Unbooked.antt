-- A call that isn't answered has no answer among its own entries, and none in its account.
use Rattle.std.proofs.Common.{◌≡◌, inl, inr, ℕ, Bool, true, false, cond, not, ◌&&◌, ◌||◌, Option, Some, None, List, [], ◌∷◌, ◌++◌, refl, sym, ap, ◌∙◌}
use Rattle.ec_attr.specs.declared.geometry.Geometry.{Geometry}
use Rattle.ec_clients.specs.Come.{nothing_left}
use Rattle.ec_conduct.specs.Account.{Account, account_from, after as account_after}
use Rattle.ec_conduct.specs.Given.{Given}
use Rattle.ec_conduct.specs.Opened.{account, opened}
use Rattle.ec_conduct.specs.Own.{Own, Sends, Hears, GivesUp, Answers}
use Rattle.ec_history.specs.Accounts.{Books, booked, books, hears, hears_body, own_of, sender, sends, with_own}
use Rattle.ec_history.specs.Run.{Net, after, call_of, is_number, run}
use Rattle.ec_history.specs.Story.{Story, told}
use Rattle.ec_wire.specs.declared.answer.Answer.{Answer}
use Rattle.ec_wire.specs.declared.entry.Entry.{Entry}
use Rattle.ec_wire.specs.declared.entry.Entry.TheVariants.{Called, Sent, Executed, Heard, Lost, GivenUp, Stopped, Returned, Cut, Died, Yielded, Torn, Answered, Replaced}
use Rattle.ec_wire.specs.declared.message.Body.{Body}
use Rattle.ec_wire.specs.declared.message.Body.TheVariants.{ToBrick, ToClient}
use Rattle.ec_wire.specs.declared.message.Message.{Message}
use Rattle.ec_law_settled.proofs.Booked.{executed_answered, has_answer, heard_answer, heard_answered, is_answer, left_answer, sent_answer, torn_answered}
use Rattle.ec_law_settled.proofs.Places.{put_at}

or_both : (t u : Bool) → (t || u) ≡ false → (t ≡ false) × (u ≡ false)
or_both true u e = absurd (cc)
or_both false u e = (refl, e)

or_none : (t u : Bool) → t ≡ false → u ≡ false → (t || u) ≡ false
or_none true u e f = absurd (cc)
or_none false u e f = f

append_none : (xs : List Own) (e : Own) → is_answer e ≡ false → has_answer xs ≡ false → has_answer (xs ++ e ∷ []) ≡ false
append_none [] e n h = or_none (is_answer e) false n refl
append_none (x ∷ xs) e n h = let w = or_both (is_answer x) (has_answer xs) h in or_none (is_answer x) (has_answer (xs ++ e ∷ [])) w.0 (append_none xs e n w.1)

own_none : (b : Books) (a : ℕ) (e : Own) (c : ℕ) → is_answer e ≡ false → has_answer (b.own c) ≡ false → has_answer ((with_own b a e).own c) ≡ false
own_none b a e c n h = elim (put_at b.own a (b.own a ++ e ∷ []) c) [
  | inl w ↦ ap has_answer w.1 ∙ append_none (b.own a) e n (ap (λ (z : ℕ). has_answer (b.own z)) (sym w.0) ∙ h)
  | inr w ↦ ap has_answer w.1 ∙ h
]

of_none : (b : Books) (o : Option ℕ) (e : Own) (c : ℕ) → is_answer e ≡ false → has_answer (b.own c) ≡ false → has_answer ((own_of b o e).own c) ≡ false
of_none b None e c n h = h
of_none b (Some a) e c n h = own_none b a e c n h

sends_none : (m : Net) (b : Books) (msg : Message) (body : Body) (c : ℕ) → has_answer (b.own c) ≡ false → has_answer ((sends m b msg body).own c) ≡ false
sends_none m b msg (ToBrick q) c h = of_none b (sender m b msg q) (Sends msg.brick msg.no q) c refl h
sends_none m b msg (ToClient re reply) c h = h

hears_body_none : (m : Net) (b : Books) (msg : Message) (body : Body) (c : ℕ) → has_answer (b.own c) ≡ false → has_answer ((hears_body m b msg body).own c) ≡ false
hears_body_none m b msg (ToBrick q) c h = h
hears_body_none m b msg (ToClient re reply) c h = by (is_number re (m.awaits msg.call msg.brick) && not (m.answered msg.call))
  where
    by : (t : Bool) → has_answer ((cond t (with_own b msg.call (Hears msg.brick re reply)) b).own c) ≡ false
    by true = own_none b msg.call (Hears msg.brick re reply) c refl h
    by false = h

hears_none : (m : Net) (b : Books) (o : Option Message) (c : ℕ) → has_answer (b.own c) ≡ false → has_answer ((hears m b o).own c) ≡ false
hears_none m b None c h = h
hears_none m b (Some msg) c h = hears_body_none m b msg msg.body c h

abbrev pub AreUnanswered : Net → Books → Type 0
AreUnanswered m b = (a : ℕ) → m.answered a ≡ false → has_answer (b.own a) ≡ false

module _ (geometry : Geometry) (m : Net) (t : Story) (b : Books) (h : AreUnanswered m b) where
  as_before : (e : Entry) → (after m e).answered ≡ m.answered → ((c : ℕ) → has_answer (b.own c) ≡ false → has_answer ((booked geometry nothing_left m t b e).own c) ≡ false) → AreUnanswered (after m e) (booked geometry nothing_left m t b e)
  as_before e same own a s = own a (h a (ap (λ (f : ℕ → Bool). f a) (sym same) ∙ s))

  answers : (c : ℕ) (answer : Answer) → AreUnanswered (after m (Answered c answer)) (booked geometry nothing_left m t b (Answered c answer))
  answers c answer a s = elim (put_at m.answered c true a) [
    | inl w ↦ (let bad : true ≡ false = sym w.1 ∙ s in absurd (cc))
    | inr w ↦ elim (put_at b.own c (b.own c ++ Answers answer ∷ []) a) [ inl v ↦ absurd (w.0 v.0) | inr v ↦ ap has_answer v.1 ∙ h a (sym w.1 ∙ s) ]
  ]

  unanswered_after : (e : Entry) → AreUnanswered (after m e) (booked geometry nothing_left m t b e)
  unanswered_after (Called a client op) = as_before (Called a client op) refl (λ c x. x)
  unanswered_after (Sent msg) = as_before (Sent msg) refl (λ c x. sends_none m b msg msg.body c x)
  unanswered_after (Executed i version failed) = as_before (Executed i version failed) (executed_answered m (m.said i) version failed) (λ c x. x)
  unanswered_after (Heard i) = as_before (Heard i) (heard_answered m (m.said i)) (λ c x. hears_none m b (m.said i) c x)
  unanswered_after (Lost i) = as_before (Lost i) refl (λ c x. x)
  unanswered_after (GivenUp client brick i) = as_before (GivenUp client brick i) refl (λ c x. own_none b (call_of (m.said i)) (GivesUp brick i) c refl x)
  unanswered_after (Stopped d) = as_before (Stopped d) refl (λ c x. x)
  unanswered_after (Returned d) = as_before (Returned d) refl (λ c x. x)
  unanswered_after (Cut client d) = as_before (Cut client d) refl (λ c x. x)
  unanswered_after (Died client) = as_before (Died client) refl (λ c x. x)
  unanswered_after (Yielded client) = as_before (Yielded client) refl (λ c x. x)
  unanswered_after (Torn i bytes version) = as_before (Torn i bytes version) (torn_answered m (m.said i) bytes version) (λ c x. x)
  unanswered_after (Answered a answer) = answers a answer
  unanswered_after (Replaced d removed all) = as_before (Replaced d removed all) refl (λ c x. x)

pub unanswered_along : (geometry : Geometry) (es : List Entry) (m : Net) (t : Story) (b : Books) → AreUnanswered m b → AreUnanswered (run es m) (books geometry nothing_left es m t b)
unanswered_along geometry [] m t b h = h
unanswered_along geometry (e ∷ es) m t b h = unanswered_along geometry es (after m e) (told geometry m t e) (booked geometry nothing_left m t b e) (unanswered_after geometry m t b h e)

-- ## Accounts

none_after : (c : Account) (e : Own) → is_answer e ≡ false → c.answer ≡ None → (account_after c e).answer ≡ None
none_after c (Sends b i r) n h = sent_answer c b i r ∙ h
none_after c (Hears b i reply) n h = heard_answer c b (c.waits b) i reply ∙ h
none_after c (GivesUp b i) n h = left_answer c b (c.waits b) i ∙ h
none_after c (Answers answer) n h = absurd (cc)

none_from : (es : List Own) (c : Account) → has_answer es ≡ false → c.answer ≡ None → (account_from c es).answer ≡ None
none_from [] c n h = h
none_from (e ∷ es) c n h = let w = or_both (is_answer e) (has_answer es) n in none_from es (account_after c e) w.1 (none_after c e w.0 h)

pub unanswered_account : (given : Given) (es : List Own) → has_answer es ≡ false → (account given es).answer ≡ None
unanswered_account given es n = none_from es (opened given) n refl
