-- A cluster stays sound.
use Rattle.std.proofs.Common.{◌≡◌, ◌⊎◌, inl, inr, ⊎_elim, ℕ, ◌+◌, ◌<◌, ◌^◌, Bool, true, false, cond, ◌==◌, Option, Some, None, List, [], ◌∷◌, ◌++◌, length, refl, sym, ◌∙◌, subst, arith, eqb-true}
use Rattle.std.proofs.lemmas.List.Elements.{All-weaker}
use Rattle.std.specs.Prelude.{slice_get}
use Rattle.std.specs.List.{All}
use Rattle.ec_brick.specs.State.{asks_of}
use Rattle.ec_brick.specs.declared.brick.Brick.{Brick}
use Rattle.ec_locks.specs.declared.ask.Ask.{Ask}
use Rattle.ec_wire.specs.Lanes.{with_message}
use Rattle.ec_wire.specs.declared.entry.Entry.{Entry}
use Rattle.ec_wire.specs.declared.entry.Entry.TheVariants.{Sent}
use Rattle.ec_wire.specs.declared.message.Body.{Body}
use Rattle.ec_wire.specs.declared.message.Body.TheVariants.{ToBrick, ToClient}
use Rattle.ec_wire.specs.declared.message.Message.{Message}
use Rattle.ec_cluster.proofs.Saying.{placed_quiet, placed_sent, put_at, said_grows, said_more}
use Rattle.ec_cluster.specs.Said.{said_in}
use Rattle.ec_cluster.specs.Sound.{IsAsked, IsFitBody, IsFlying, IsSoundOf}

abbrev pub Grows : (ℕ → Option Message) → (ℕ → Option Message) → Type 0
Grows said more = (i : ℕ) (m : Message) → said i ≡ Some m → more i ≡ Some m

fit_grows : (said more : ℕ → Option Message) (m : Message) (body : Body) → Grows said more → IsFitBody said m body → IsFitBody more m body
fit_grows said more m (ToBrick q) g h = h
fit_grows said more m (ToClient re reply) g h = record { asked = h.asked; request = h.request; sent = g re h.asked h.sent; body = h.body; call = h.call; client = h.client; brick = h.brick; fits = h.fits }

flying_grows : (n : ℕ) (said more : ℕ → Option Message) (i : ℕ) (m : Message) → Grows said more → IsFlying n said i m → IsFlying n more i m
flying_grows n said more i m g h = record { sent = g i m h.sent; own = h.own; brick = h.brick; fit = fit_grows said more m m.body g h.fit }

ask_grows : (said more : ℕ → Option Message) (b : ℕ) → Grows said more → (a : Ask) → IsAsked said b a → IsAsked more b a
ask_grows said more b g a h = record { message = h.message; sent = g a.number h.message h.sent; client = h.client; brick = h.brick; body = h.body }

pub asked_grows : (said more : ℕ → Option Message) (b : ℕ) (asks : List Ask) → Grows said more → All (IsAsked said b) asks → All (IsAsked more b) asks
asked_grows said more b asks g h = All-weaker (IsAsked said b) (IsAsked more b) (ask_grows said more b g) asks h

-- a message that flies after one is put there is that one or flew before
pub came : (flying : ℕ → Option Message) (next i : ℕ) (x m : Message) → with_message flying next (Some x) i ≡ Some m → ((i ≡ next) × (m ≡ x)) ⊎ (flying i ≡ Some m)
came flying next i x m e = go (i == next) refl e
  where
    go : (u : Bool) → (i == next) ≡ u → cond u (Some x) (flying i) ≡ Some m → ((i ≡ next) × (m ≡ x)) ⊎ (flying i ≡ Some m)
    go true t h = inl (eqb-true i next t, cc)
    go false t h = inr h

pub was : (flying : ℕ → Option Message) (num i : ℕ) (m : Message) → with_message flying num None i ≡ Some m → flying i ≡ Some m
was flying num i m e = go (i == num) e
  where
    go : (u : Bool) → cond u None (flying i) ≡ Some m → flying i ≡ Some m
    go true h = absurd cc
    go false h = h

module _ (bricks : List Brick) (flying : ℕ → Option Message) (next : ℕ) (log : List Entry) (places : List ℕ) where
  pub sound_sent : (x : Message) → IsSoundOf bricks flying next log places → next < 2 ^ 62 → x.no ≡ next → x.brick < length bricks → IsFitBody (said_in log) x x.body → IsSoundOf bricks (with_message flying next (Some x)) (next + 1) (log ++ Sent x ∷ []) (places ++ length log ∷ [])
  sound_sent x h lt n b f =
      let g : Grows (said_in log) (said_in (log ++ Sent x ∷ [])) = λ i m e. said_grows log places next i m x h.placed n e in record {
        flies = λ i m e. ⊎_elim
            (λ (p : (i ≡ next) × (m ≡ x)). subst (IsFlying (length bricks) (said_in (log ++ Sent x ∷ [])) i) (sym p.1) (record { sent = (λ k. said_more log (Sent x) k i) ∙ put_at (said_in log) x.no i (Some x) (p.0 ∙ sym n); own = n ∙ sym p.0; brick = b; fit = fit_grows (said_in log) (said_in (log ++ Sent x ∷ [])) x x.body g f }))
            (λ p. flying_grows (length bricks) (said_in log) (said_in (log ++ Sent x ∷ [])) i m g (h.flies i m p))
            (came flying next i x m e);
        asks = λ c k e. asked_grows (said_in log) (said_in (log ++ Sent x ∷ [])) c (asks_of k) g (h.asks c k e);
        placed = placed_sent log places next x h.placed n;
        limit = omega arith;
      }

  -- an entry that isn't Sent
  pub sound_quiet : (e : Entry) → IsSoundOf bricks flying next log places → said_in (log ++ e ∷ []) ≡ said_in log → IsSoundOf bricks flying next (log ++ e ∷ []) places
  sound_quiet e h q = record {
    flies = λ i m s. subst (λ (said : ℕ → Option Message). IsFlying (length bricks) said i m) (sym q) (h.flies i m s);
    asks = λ b k s. subst (λ (said : ℕ → Option Message). All (IsAsked said b) (asks_of k)) (sym q) (h.asks b k s);
    placed = placed_quiet log places next e h.placed q;
    limit = h.limit;
  }

  pub sound_taken : (num : ℕ) → IsSoundOf bricks flying next log places → IsSoundOf bricks (with_message flying num None) next log places
  sound_taken num h = record { flies = λ i m s. h.flies i m (was flying num i m s); asks = h.asks; placed = h.placed; limit = h.limit }

  -- other lock tables
  pub sound_bricks : (more : List Brick) → IsSoundOf bricks flying next log places → length more ≡ length bricks → ((b : ℕ) (k : Brick) → slice_get more b ≡ Some k → All (IsAsked (said_in log) b) (asks_of k)) → IsSoundOf more flying next log places
  sound_bricks more h n asks = record { flies = λ i m s. subst (λ c. IsFlying c (said_in log) i m) (sym n) (h.flies i m s); asks = asks; placed = h.placed; limit = h.limit }
