-- A call hears a reply, gives a request up or answers: its account goes on beside the log.
use Rattle.std.proofs.Common.{◌≡◌, ◌≢◌, ℕ, ◌+◌, Bool, true, false, cond, ◌==◌, Option, Some, None, [], ◌∷◌, ◌++◌, refl, sym, ◌∙◌, ap, subst}
use Rattle.ec_store.specs.Put.{put}
use Rattle.ec_wire.specs.declared.message.Message.{Message}
use Rattle.ec_wire.specs.declared.reply.Reply.{Reply}
use Rattle.ec_conduct.specs.Account.{Account, Dealings, Exchange, Wait, after, gave_up, gfid_of, heard_by, left_by, noted, over, told, with_place}
use Rattle.ec_conduct.specs.Given.{Given}
use Rattle.ec_conduct.specs.Opened.{account, opened}
use Rattle.ec_conduct.specs.Own.{Own}
use Rattle.ec_conduct.proofs.Fronts.{account_append}
use Rattle.ec_history.specs.Accounts.{Books, with_own}
use Rattle.ec_law_turns.specs.Follows.{Follows, Tracks}
use Rattle.ec_law_turns.proofs.Basics.{differ, equal, some_is}
use Rattle.ec_law_turns.proofs.Sends.{by_parts}
use Rattle.ec_law_turns.proofs.Sorts.{over_apart as on_apart, over_here as on_here, over_steps, over_waits}
use Rattle.ec_law_turns.proofs.Tracks.{over_apart, over_here}

module _ (g : ℕ) (said : ℕ → Option Message) (turn : ℕ → Option ℕ) (of : ℕ → ℕ) (moment : ℕ → Bool) (a : ℕ) where
  -- what is waited for is over
  ends : (c : Account) → Follows g said turn of moment a c → (b : ℕ) (w : Wait) → c.waits b ≡ Some w → (e : Exchange) → e.number ≡ w.number → e.request ≡ w.request → Follows g said turn of moment a (over c b e)
  ends c f b w is e number request = at (gfid_of e.request) refl
    where
      apart : gfid_of e.request ≢ Some g → Follows g said turn of moment a (over c b e)
      apart ne = by_parts g said turn of moment a (over c b e) (put c.waits b None) (c.steps + 1) (c.on g) (over_waits g c b e) (over_steps g c b e) (on_apart g c b e ne) (over_apart g said turn of moment a c.waits c.steps (c.on g) f b w is e number request ne)

      here : gfid_of e.request ≡ Some g → Follows g said turn of moment a (over c b e)
      here on = by_parts g said turn of moment a (over c b e) (put c.waits b None) (c.steps + 1) (with_place (c.on g) b (noted ((c.on g).place b) e)) (over_waits g c b e) (over_steps g c b e) (on_here g c b e on) (over_here g said turn of moment a c.waits c.steps (c.on g) f b w is e number request on)

      at : (o : Option ℕ) → gfid_of e.request ≡ o → Follows g said turn of moment a (over c b e)
      at None h = apart (λ z. let y = sym h ∙ z in cc)
      at (Some x) h = either (x == g) refl
        where
          either : (t : Bool) → (x == g) ≡ t → Follows g said turn of moment a (over c b e)
          either true k = here (h ∙ ap (λ (y : ℕ). Some y) (equal x g k))
          either false k = apart (λ z. differ x g k (some_is x g (sym h ∙ z)))

  pub hears : (c : Account) → Follows g said turn of moment a c → (b i : ℕ) (reply : Reply) → Follows g said turn of moment a (heard_by c b (c.waits b) i reply)
  hears c f b i reply = at (c.waits b) refl
    where
      at : (o : Option Wait) → c.waits b ≡ o → Follows g said turn of moment a (heard_by c b o i reply)
      at None e = f
      at (Some w) e = either (w.number == i)
        where
          either : (t : Bool) → Follows g said turn of moment a (cond t (told c b w reply) c)
          either true = ends c f b w e (record { number = w.number; request = w.request; reply = Some reply }) refl refl
          either false = f

  pub gives_up : (c : Account) → Follows g said turn of moment a c → (b i : ℕ) → Follows g said turn of moment a (left_by c b (c.waits b) i)
  gives_up c f b i = at (c.waits b) refl
    where
      at : (o : Option Wait) → c.waits b ≡ o → Follows g said turn of moment a (left_by c b o i)
      at None e = f
      at (Some w) e = either (w.number == i)
        where
          either : (t : Bool) → Follows g said turn of moment a (cond t (gave_up c b w) c)
          either true = ends c f b w e (record { number = w.number; request = w.request; reply = None }) refl refl
          either false = f

  -- the moments are the same
  pub same_moments : (moment' : ℕ → Bool) → ((t : ℕ) → moment' t ≡ moment t) → (waits : ℕ → Option Wait) (steps : ℕ) (d : Dealings) → Tracks g said turn of moment a waits steps d → Tracks g said turn of moment' a waits steps d
  same_moments moment' same waits steps d f = record {
    waiting = f.waiting;
    waits_in = f.waits_in;
    sent = f.sent;
    window = f.window;
    lock = f.lock;
    unhealed = f.unhealed;
    looking = f.looking;
    looked = f.looked;
    begins = λ h t e. same t ∙ f.begins h t e;
    over = λ s h. let o = f.over s h in (o.0, o.1, o.2, same o.1 ∙ o.3);
  }

-- one own entry more, of call x
pub one_more : (P : ℕ → Account → Type 0) (b : Books) (x : ℕ) (e : Own) → ((given : Given) → b.given x ≡ Some given → P x (account given (b.own x)) → P x (after (account given (b.own x)) e)) → ((a : ℕ) (given : Given) → b.given a ≡ Some given → P a (account given (b.own a))) → (a : ℕ) (given : Given) → b.given a ≡ Some given → P a (account given ((with_own b x e).own a))
one_more P b x e goes all a given h = at (a == x) refl
  where
    at : (t : Bool) → (a == x) ≡ t → P a (account given (cond t (b.own x ++ e ∷ []) (b.own a)))
    at true k = let same = equal a x k in subst (λ (y : ℕ). P y (account given (b.own x ++ e ∷ []))) (sym same) (subst (P x) (sym (account_append (opened given) (b.own x) (e ∷ []))) (goes given (subst (λ (y : ℕ). b.given y ≡ Some given) same h) (all x given (subst (λ (y : ℕ). b.given y ≡ Some given) same h))))
    at false k = all a given h
