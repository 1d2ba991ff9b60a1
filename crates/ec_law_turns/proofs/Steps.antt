-- What a log has come to goes on by each entry.
use Rattle.std.proofs.Common.{◌≡◌, ℕ, ◌+◌, ◌-◌, ◌^◌, ◌≤◌, ◌<◌, Bool, true, false, not, cond, ◌&&◌, Option, Some, None, List, refl, sym, ◌∙◌, ap, subst, arith, ⊎_elim}
use Rattle.std.specs.Prelude.{is_some}
use Rattle.ec_attr.specs.declared.geometry.Geometry.{Geometry}
use Rattle.ec_store.specs.Put.{put}
use Rattle.ec_wire.specs.declared.entry.Entry.{Entry}
use Rattle.ec_wire.specs.declared.entry.Entry.TheVariants.{Called, Sent, Executed, Heard, Lost, GivenUp, Stopped, Returned, Cut, Died, Yielded, Torn, Answered, Replaced}
use Rattle.ec_wire.specs.declared.message.Body.{Body}
use Rattle.ec_wire.specs.declared.message.Body.TheVariants.{ToBrick, ToClient}
use Rattle.ec_wire.specs.declared.message.Message.{Message}
use Rattle.ec_wire.specs.declared.op.Op.{Op}
use Rattle.ec_wire.specs.declared.op.Op.TheVariants.{Create, Mkdir}
use Rattle.ec_brick.specs.Step.{cut_off}
use Rattle.ec_conduct.specs.Account.{Account, after as after_own}
use Rattle.ec_conduct.specs.Given.{Given}
use Rattle.ec_conduct.specs.Opened.{account, kept_dealings, opened}
use Rattle.ec_conduct.specs.Own.{Own, Hears, GivesUp, Answers}
use Rattle.ec_conduct.specs.declared.kept.Kept.{Kept}
use Rattle.ec_history.specs.Accounts.{Books, Leaving, booked, given_to, hears as hears_books, hears_body, taken_over, with_own}
use Rattle.ec_history.specs.IsRun.{May as MayEnter}
use Rattle.ec_history.specs.Run.{Net, after, call_of, executed as executed_net, executed_by, heard, heard_by, is_number, torn_by, torn_off, wiped}
use Rattle.ec_history.specs.Story.{Story}
use Rattle.ec_law_net.specs.Turns.{View, made_by, seen_after}
use Rattle.ec_law_turns.specs.Known.{Known}
use Rattle.ec_law_turns.specs.Follows.{Follows, Messages, Numbers, Tracks}
use Rattle.ec_law_turns.specs.Sound.{AreSound}
use Rattle.ec_law_turns.proofs.Basics.{put_some, some_is, some_none}
use Rattle.ec_law_turns.proofs.Hearing.{gives_up, hears, one_more, same_moments}
use Rattle.ec_law_turns.proofs.Numbered.{IsPlainEntry, numbered}
use Rattle.ec_law_turns.proofs.SentKnown.{BodyKept, calls_sent, fresh_sent, messages_sent}
use Rattle.ec_law_turns.proofs.SentSound.{sound_later, sound_sent}
use Rattle.ec_law_turns.proofs.Still.{executed, locks, replaced, torn}

-- what a call may send by an entry
abbrev pub EntryKept : Net → Books → Entry → Type 0
EntryKept m b (Sent msg) = BodyKept m b msg msg.body
EntryKept m b e = Unit {0}

-- a call that begins, of which nothing was said
opens : (geometry : Geometry) (g : ℕ) (said : ℕ → Option Message) (turn : ℕ → Option ℕ) (of : ℕ → ℕ) (moment : ℕ → Bool) (a : ℕ) (given : Given) → given.kept ≡ None → turn a ≡ None → ((b i : ℕ) (x : Message) → said i ≡ Some x → x.call ≡ a → ⊥) → Follows g said turn of moment a (opened given)
opens geometry g said turn of moment a given none no_turn unsaid = subst (λ (o : Option Kept). Tracks g said turn of moment a (λ b. None) 1 (kept_dealings o g)) (sym none) (record {
  waiting = λ b w h. absurd (some_none w (sym h));
  waits_in = λ b w h k. absurd (some_none w (sym h));
  sent = λ b i q s k r t. absurd (unsaid b i s.message s.is s.call);
  window = λ b. tt;
  lock = λ b l h. absurd (some_none l (sym h));
  unhealed = λ b. refl;
  looking = λ b w h k z. absurd (some_none w (sym h));
  looked = λ b h. absurd (cc);
  begins = λ h t e. absurd (some_none t (sym e ∙ no_turn));
  over = λ s h. absurd (some_none s (sym h));
})

module _ (geometry : Geometry) (g : ℕ) (m : Net) (v : View) (b : Books) (k : Known geometry g m v b) where
  -- messages, turns and moments stay
  stays : (m' : Net) (v' : View) (b' : Books) → m'.said ≡ m.said → m'.next ≡ m.next → v'.turn ≡ v.turn → v'.of ≡ v.of → ((t : ℕ) → v'.core.moment t ≡ v.core.moment t) → Numbers geometry m'.said m'.owed m'.calls m'.asker b' → ((a : ℕ) (given : Given) → b'.given a ≡ Some given → Follows g m.said v.turn v.of v.core.moment a (account given (b'.own a))) → Known geometry g m' v' b'
  stays m' v' b' said next turn of moments numbers calls = record {
    numbers = numbers;
    messages = subst (λ (f : ℕ → Option Message). Messages geometry.n f m'.next v'.turn v'.of) (sym said) (subst (λ (x : ℕ). Messages geometry.n m.said x v'.turn v'.of) (sym next) (subst (λ (f : ℕ → Option ℕ). Messages geometry.n m.said m.next f v'.of) (sym turn) (subst (λ (f : ℕ → ℕ). Messages geometry.n m.said m.next v.turn f) (sym of) k.messages)));
    fresh = λ t h. moments t ∙ k.fresh t (subst (λ (x : ℕ). 2 ^ 61 + x ≤ t) next h);
    sound = subst (λ (f : ℕ → Option Message). AreSound g f v'.of v'.core.moment) (sym said) (subst (λ (f : ℕ → ℕ). AreSound g m.said f v'.core.moment) (sym of) (λ i x q e body. sound_later g m.said m.said v.of v.of v.core.moment v'.core.moment (λ j y h. (h, refl)) (λ t h. moments t ∙ h) x.call x.brick i x e q (k.sound i x q e body)));
    calls = λ a given h.
        let c = account given (b'.own a) in
        subst (λ (f : ℕ → Option Message). Follows g f v'.turn v'.of v'.core.moment a c) (sym said) (subst (λ (f : ℕ → Option ℕ). Follows g m.said f v'.of v'.core.moment a c) (sym turn) (subst (λ (f : ℕ → ℕ). Follows g m.said v.turn f v'.core.moment a c) (sym of) (same_moments g m.said v.turn v.of v.core.moment a v'.core.moment moments c.waits c.steps (c.on g) (calls a given h))));
  }

  own_more : (x : ℕ) (e : Own) → ((c : Account) → Follows g m.said v.turn v.of v.core.moment x c → Follows g m.said v.turn v.of v.core.moment x (after_own c e)) → (a : ℕ) (given : Given) → b.given a ≡ Some given → Follows g m.said v.turn v.of v.core.moment a (account given ((with_own b x e).own a))
  own_more x e goes = one_more (λ a c. Follows g m.said v.turn v.of v.core.moment a c) b x e (λ given h f. goes (account given (b.own x)) f) k.calls

  heard_calls : (o : Option Message) (a : ℕ) (given : Given) → (hears_books m b o).given a ≡ Some given → Follows g m.said v.turn v.of v.core.moment a (account given ((hears_books m b o).own a))
  heard_calls None = k.calls
  heard_calls (Some msg) = by_body msg.body
    where
      by_body : (z : Body) (a : ℕ) (given : Given) → (hears_body m b msg z).given a ≡ Some given → Follows g m.said v.turn v.of v.core.moment a (account given ((hears_body m b msg z).own a))
      by_body (ToBrick q) = k.calls
      by_body (ToClient re reply) = at (is_number re (m.awaits msg.call msg.brick) && not (m.answered msg.call))
        where
          at : (t : Bool) (a : ℕ) (given : Given) → (cond t (with_own b msg.call (Hears msg.brick re reply)) b).given a ≡ Some given → Follows g m.said v.turn v.of v.core.moment a (account given ((cond t (with_own b msg.call (Hears msg.brick re reply)) b).own a))
          at true = own_more msg.call (Hears msg.brick re reply) (λ c f. hears g m.said v.turn v.of v.core.moment msg.call c f msg.brick re reply)
          at false = k.calls

  -- a call that was not made yet has no turn
  pub new_turn : (a : ℕ) → m.calls < a → v.turn a ≡ None
  new_turn a lt = at (v.turn a) refl
    where
      below : (o : Option Message) → ((s : Message) → o ≡ Some s → s.call ≤ m.calls) → call_of o ≤ m.calls
      below None le = omega arith
      below (Some s) le = le s refl

      at : (o : Option ℕ) → v.turn a ≡ o → v.turn a ≡ None
      at None h = h
      at (Some u) h = absurd (let o = (k.messages.turns a u h).2 in let le = below (m.said (u - 2 ^ 61)) (λ s is. k.numbers.said_below (u - 2 ^ 61) s is) in omega (arith, o, le, lt))

  new_call : (x : ℕ) (client : ℕ) (op : Op) (t : Story) → x ≡ m.calls + 1 → (a : ℕ) (given : Given) → put b.given x (Some (given_to geometry t b client op)) a ≡ Some given → Follows g m.said v.turn v.of v.core.moment a (account given (b.own a))
  new_call x client op t e a given h = ⊎_elim (λ z. fresh z.0 (some_is (given_to geometry t b client op) given z.1)) (λ z. k.calls a given z.1) (put_some b.given x (Some (given_to geometry t b client op)) a given h)
    where
      above : a ≡ x → m.calls < a
      above z = omega (arith, z, e)

      unsaid : a ≡ x → (y i : ℕ) (s : Message) → m.said i ≡ Some s → s.call ≡ a → ⊥
      unsaid z y i s is call = let lt = above z in let le = k.numbers.said_below i s is in omega (arith, lt, le, call)

      fresh : a ≡ x → given_to geometry t b client op ≡ given → Follows g m.said v.turn v.of v.core.moment a (account given (b.own a))
      fresh z same = subst (λ (es : List Own). Follows g m.said v.turn v.of v.core.moment a (account given es)) (sym (k.numbers.unsaid a (above z))) (opens geometry g m.said v.turn v.of v.core.moment a given (ap (λ (y : Given). y.kept) (sym same) ∙ ap (λ (o : Option Kept). taken_over o op) (k.numbers.kept client)) (new_turn a (above z)) (unsaid z))

pub made_same : (g : ℕ) (v : View) (a : ℕ) (op : Op) → ((made_by g v a op).turn ≡ v.turn) × ((made_by g v a op).of ≡ v.of)
made_same g v a (Create parent name) = (refl, refl)
made_same g v a (Mkdir parent name) = (refl, refl)
made_same g v a op = (refl, refl)

pub heard_same : (m : Net) (o : Option Message) → ((heard m o).said ≡ m.said) × ((heard m o).next ≡ m.next)
heard_same m None = (refl, refl)
heard_same m (Some msg) = by_body msg.body
  where
    by_body : (z : Body) → ((heard_by m msg z).said ≡ m.said) × ((heard_by m msg z).next ≡ m.next)
    by_body (ToBrick q) = (refl, refl)
    by_body (ToClient re reply) = (refl, refl)

pub executed_same : (m : Net) (o : Option Message) (version : Option ℕ) (failed : Bool) → ((executed_net m o version failed).said ≡ m.said) × ((executed_net m o version failed).next ≡ m.next)
executed_same m None version failed = (refl, refl)
executed_same m (Some msg) version failed = by_body msg.body
  where
    by_body : (z : Body) → ((executed_by m msg z version failed).said ≡ m.said) × ((executed_by m msg z version failed).next ≡ m.next)
    by_body (ToBrick q) = (refl, refl)
    by_body (ToClient re reply) = (refl, refl)

pub torn_same : (m : Net) (o : Option Message) (bytes : ℕ) (version : Option ℕ) → ((torn_off m o bytes version).said ≡ m.said) × ((torn_off m o bytes version).next ≡ m.next)
torn_same m None bytes version = (refl, refl)
torn_same m (Some msg) bytes version = by_body msg.body
  where
    by_body : (z : Body) → ((torn_by m msg z bytes version).said ≡ m.said) × ((torn_by m msg z bytes version).next ≡ m.next)
    by_body (ToBrick q) = (refl, refl)
    by_body (ToClient re reply) = (refl, refl)

pub known_entry : (geometry : Geometry) (g : ℕ) (left : ℕ → Leaving) (m : Net) (v : View) (t : Story) (b : Books) (e : Entry) → ((a : ℕ) → (left a).kept ≡ None) → IsPlainEntry e → MayEnter geometry.n m e → EntryKept m b e → Known geometry g m v b → Known geometry g (after m e) (seen_after g m v e) (booked geometry left m t b e)
known_entry geometry g left m v t b e none plain may kept k = by_entry e plain may kept (numbered geometry left geometry.n m t b e none plain may k.numbers)
  where
    Next : Entry → Type 0
    Next e = Known geometry g (after m e) (seen_after g m v e) (booked geometry left m t b e)

    Counts : Entry → Type 0
    Counts e = Numbers geometry (after m e).said (after m e).owed (after m e).calls (after m e).asker (booked geometry left m t b e)

    by_entry : (e : Entry) → IsPlainEntry e → MayEnter geometry.n m e → EntryKept m b e → Counts e → Next e
    by_entry (Called a client op) plain may kept n = let o = made_same g v a op in stays geometry g m v b k (after m (Called a client op)) (seen_after g m v (Called a client op)) (booked geometry left m t b (Called a client op)) refl refl o.0 o.1 (λ t. refl) n (new_call geometry g m v b k a client op t may.0)
    by_entry (Sent msg) plain may kept n = record { numbers = n; messages = messages_sent geometry g m v b msg may.0 may.1 k; fresh = fresh_sent geometry g m v b msg may.0 may.1 k; sound = sound_sent geometry g m v b msg may.0 may.1 k kept; calls = calls_sent geometry g m v b msg may.0 may.1 k kept }
    by_entry (Executed i version failed) plain may kept n = let o = executed_same m (m.said i) version failed in stays geometry g m v b k (after m (Executed i version failed)) (seen_after g m v (Executed i version failed)) b o.0 o.1 refl refl (λ t. (executed g m v (m.said i) version failed v.core t).0) n k.calls
    by_entry (Heard i) plain may kept n = let o = heard_same m (m.said i) in stays geometry g m v b k (after m (Heard i)) (seen_after g m v (Heard i)) (booked geometry left m t b (Heard i)) o.0 o.1 refl refl (λ t. refl) n (heard_calls geometry g m v b k (m.said i))
    by_entry (Lost i) plain may kept n = stays geometry g m v b k (after m (Lost i)) (seen_after g m v (Lost i)) b refl refl refl refl (λ t. refl) n k.calls
    by_entry (GivenUp client brick i) plain may kept n = stays geometry g m v b k (after m (GivenUp client brick i)) (seen_after g m v (GivenUp client brick i)) (booked geometry left m t b (GivenUp client brick i)) refl refl refl refl (λ t. refl) n (own_more geometry g m v b k (call_of (m.said i)) (GivesUp brick i) (λ c f. gives_up g m.said v.turn v.of v.core.moment (call_of (m.said i)) c f brick i))
    by_entry (Stopped x) plain may kept n = stays geometry g m v b k (after m (Stopped x)) (seen_after g m v (Stopped x)) b refl refl refl refl (λ t. refl) n k.calls
    by_entry (Returned x) plain may kept n = stays geometry g m v b k (after m (Returned x)) (seen_after g m v (Returned x)) b refl refl refl refl (λ t. refl) n k.calls
    by_entry (Cut client x) plain may kept n = stays geometry g m v b k (after m (Cut client x)) (seen_after g m v (Cut client x)) b refl refl refl refl (λ t. (locks g m v x (m.brick x).asks (cut_off (m.brick x) client).brick.asks v.core t).0) n k.calls
    by_entry (Died client) plain may kept n = stays geometry g m v b k (after m (Died client)) (seen_after g m v (Died client)) b refl refl refl refl (λ t. refl) n k.calls
    by_entry (Yielded client) plain may kept n = stays geometry g m v b k m v (booked geometry left m t b (Yielded client)) refl refl refl refl (λ t. refl) n k.calls
    by_entry (Torn i bytes version) plain may kept n = let o = torn_same m (m.said i) bytes version in stays geometry g m v b k (after m (Torn i bytes version)) (seen_after g m v (Torn i bytes version)) b o.0 o.1 refl refl (λ t. (torn (m.said i) v.core t).0) n k.calls
    by_entry (Answered a answer) plain may kept n = stays geometry g m v b k (after m (Answered a answer)) (seen_after g m v (Answered a answer)) (booked geometry left m t b (Answered a answer)) refl refl refl refl (λ t. refl) n (own_more geometry g m v b k a (Answers answer) (λ c f. f))
    by_entry (Replaced x removed all) plain may kept n = stays geometry g m v b k (after m (Replaced x removed all)) (seen_after g m v (Replaced x removed all)) b refl refl refl refl (λ t. (replaced (is_some ((m.brick x).records g) && not (is_some (wiped removed all (m.brick x).records g))) x v.core t).0) n k.calls
