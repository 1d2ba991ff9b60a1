-- A brick at which no request of some kind is waited for or over, as the call goes on.
use Rattle.std.proofs.Common.{◌≡◌, inl, inr, ℕ, ◌+◌, ◌==◌, ◌||◌, Bool, true, false, refl, sym, ◌∙◌, ap, subst, List, [], ◌∷◌, Option, Some, None, eqb-true}
use Rattle.std.proofs.lemmas.Bool.{cases_Bool}
use Rattle.ec_attr.specs.declared.kind.Domain.TheVariants.{Inode, Heal}
use Rattle.ec_conduct.specs.Account.{Account, Dealings, Exchange, Place, Wait, after, at, begun, filed, gfid_of, heard_by, left_by, over, sent, with_place}
use Rattle.ec_conduct.specs.Done.{tried}
use Rattle.ec_conduct.specs.Own.{Own, Sends, Hears, GivesUp, Answers}
use Rattle.ec_conduct.specs.Table.{IsFromOutside, Send, sent_all}
use Rattle.ec_store.specs.Put.{put}
use Rattle.ec_wire.specs.declared.reply.Reply.{Reply}
use Rattle.ec_wire.specs.declared.request.Request.{Request}
use Rattle.ec_wire.specs.declared.request.Request.TheVariants.{Ask, Release, Query, PreOp}

abbrev pub wait_is : (Request → Bool) → Option Wait → Bool
wait_is test None = false
wait_is test (Some w) = test w.request

-- no such request is waited for at the brick, and none is over there in a window of today
pub record Clean (test : Request → Bool) (c : Account) (b : ℕ) : Type 0 where
  pub waits : wait_is test (c.waits b) ≡ false
  pub window : (g : ℕ) → tried test (at c g b).window ≡ false

-- what holds of each request to this brick that is sent
abbrev pub Spares : (Request → Bool) → ℕ → ℕ → Request → Type 0
Spares test b x r = x ≡ b → test r ≡ false

-- ## Functions that are changed at one place

pub put_to : {X : Type 0} (P : X → Type 0) (f : ℕ → X) (i : ℕ) (x : X) (j : ℕ) → (j ≡ i → P x) → P (f j) → P (put f i x j)
put_to P f i x j here there = elim (cases_Bool (j == i)) [
  | inl t ↦ rw t (here (eqb-true j i t))
  | inr n ↦ rw n there
]

module _ (test : Request → Bool) (b : ℕ) where
  abbrev CleanIn : Dealings → Type 0
  CleanIn d = tried test (d.place b).window ≡ false

  at_place : (d : Dealings) (x : ℕ) (p : Place) → (b ≡ x → tried test p.window ≡ false) → CleanIn d → CleanIn (with_place d x p)
  at_place d x p here h = put_to (λ (q : Place). tried test q.window ≡ false) d.place x p b here h

  at_begun : (d : Dealings) (o : Option ℕ) → CleanIn d → CleanIn (begun d o)
  at_begun d None h = h
  at_begun d (Some step) h = refl

  at_gfid : (on : ℕ → Dealings) (g : ℕ) (d : Dealings) → (CleanIn (on g) → CleanIn d) → ((h : ℕ) → CleanIn (on h)) → (h : ℕ) → CleanIn (put on g d h)
  at_gfid on g d f all h = put_to CleanIn on g d h (λ e. f (all g)) (all h)

  -- the place at the brick is as before but for its locks
  same_place : (d : Dealings) (x : ℕ) (p : Place) → p.window ≡ (d.place x).window → CleanIn d → CleanIn (with_place d x p)
  same_place d x p e h = at_place d x p (λ same. ap (tried test) e ∙ subst (λ (y : ℕ). tried test (d.place y).window ≡ false) same h) h

  waits_sent : (c : Account) (x i : ℕ) (r : Request) → Spares test b x r → wait_is test (c.waits b) ≡ false → wait_is test (put c.waits x (Some (record { number = i; request = r })) b) ≡ false
  waits_sent c x i r not_so h = put_to (λ (o : Option Wait). wait_is test o ≡ false) c.waits x (Some (record { number = i; request = r })) b (λ e. not_so (sym e)) h

  pub sent_clean : (c : Account) (x i : ℕ) (r : Request) → Spares test b x r → Clean test c b → Clean test (sent c x i r) b
  sent_clean c x i (Ask g Inode kind) not_so k = record {
    waits = waits_sent c x i (Ask g Inode kind) not_so k.waits;
    window = at_gfid c.on g.0 _ (λ h. same_place (begun (c.on g.0) (c.on g.0).queried) x (record ((begun (c.on g.0) (c.on g.0).queried).place x) { inode = Some (record { number = i; granted = false }) }) refl (at_begun (c.on g.0) (c.on g.0).queried h)) k.window;
  }
  sent_clean c x i (Ask g Heal kind) not_so k = record {
    waits = waits_sent c x i (Ask g Heal kind) not_so k.waits;
    window = at_gfid c.on g.0 _ (λ h. same_place (c.on g.0) x (record ((c.on g.0).place x) { heal = Some (record { number = i; granted = false }) }) refl h) k.window;
  }
  sent_clean c x i (Release g grant) not_so k = record {
    waits = k.waits;
    window = at_gfid c.on g.0 _ (λ h. same_place (c.on g.0) x (Rattle.ec_conduct.specs.Account.released (at c g.0 x) grant) refl h) k.window;
  }
  sent_clean c x i (Query g grant) not_so k = record {
    waits = waits_sent c x i (Query g grant) not_so k.waits;
    window = at_gfid c.on g.0 (record (c.on g.0) { queried = Some c.steps }) (λ h. h) k.window;
  }
  sent_clean c x i (PreOp g grant version dirty) not_so k = record {
    waits = waits_sent c x i (PreOp g grant version dirty) not_so k.waits;
    window = at_gfid c.on g.0 (record (c.on g.0) { dirty = Some dirty }) (λ h. h) k.window;
  }
  sent_clean c x i r not_so k = record { waits = waits_sent c x i r not_so k.waits; window = k.window }

  -- ## What is over

  none_more : (t u : Bool) → t ≡ false → u ≡ false → (t || u) ≡ false
  none_more true u e f = absurd (cc)
  none_more false u e f = f

  filed_window : (c : Account) (x : ℕ) (e : Exchange) (o : Option ℕ) → (b ≡ x → test e.request ≡ false) → ((g : ℕ) → CleanIn (c.on g)) → (g : ℕ) → CleanIn ((filed c x e o).on g)
  filed_window c x e None not_so all g = all g
  filed_window c x e (Some h) not_so all g = at_gfid c.on h _ (λ k. at_place (c.on h) x (Rattle.ec_conduct.specs.Account.noted (at c h x) e) (λ same. none_more (test e.request) (tried test (at c h x).window) (not_so same) (subst (λ (y : ℕ). tried test ((c.on h).place y).window ≡ false) same k)) k) all g

  filed_waits : (c : Account) (x : ℕ) (e : Exchange) (o : Option ℕ) → (filed c x e o).waits ≡ c.waits
  filed_waits c x e None = refl
  filed_waits c x e (Some h) = refl

  over_clean : (c : Account) (x : ℕ) (w : Wait) (reply : Option Reply) → c.waits x ≡ Some w → Clean test c b → Clean test (over c x (record { number = w.number; request = w.request; reply = reply })) b
  over_clean c x w reply e k =
      let z = record c { waits = put c.waits x None; steps = c.steps + 1 } in
      let ex : Exchange = record { number = w.number; request = w.request; reply = reply } in
      record {
        waits = ap (λ (f : ℕ → Option Wait). wait_is test (f b)) (filed_waits z x ex (gfid_of w.request)) ∙ put_to (λ (o : Option Wait). wait_is test o ≡ false) c.waits x None b (λ same. refl) k.waits;
        window = filed_window z x ex (gfid_of w.request) (λ same. ap (wait_is test) (sym e) ∙ subst (λ (y : ℕ). wait_is test (c.waits y) ≡ false) same k.waits) k.window;
      }

  heard_clean : (c : Account) (x i : ℕ) (reply : Reply) (o : Option Wait) → c.waits x ≡ o → Clean test c b → Clean test (heard_by c x o i reply) b
  heard_clean c x i reply None e k = k
  heard_clean c x i reply (Some w) e k = elim (cases_Bool (w.number == i)) [
    | inl t ↦ rw t (over_clean c x w (Some reply) e k)
    | inr n ↦ rw n k
  ]

  left_clean : (c : Account) (x i : ℕ) (o : Option Wait) → c.waits x ≡ o → Clean test c b → Clean test (left_by c x o i) b
  left_clean c x i None e k = k
  left_clean c x i (Some w) e k = elim (cases_Bool (w.number == i)) [
    | inl t ↦ rw t (over_clean c x w None e k)
    | inr n ↦ rw n k
  ]

  pub outside_clean : (c : Account) (e : Own) → IsFromOutside e → Clean test c b → Clean test (after c e) b
  outside_clean c (Sends x i r) out k = absurd out
  outside_clean c (Hears x i reply) out k = heard_clean c x i reply (c.waits x) refl k
  outside_clean c (GivesUp x i) out k = left_clean c x i (c.waits x) refl k
  outside_clean c (Answers answer) out k = absurd out

-- ## Several sends

-- each is as P says
abbrev pub Each : (ℕ → Request → Type 0) → List Send → Type 0
Each P [] = Unit {0}
Each P (s ∷ ss) = P s.0 s.1 × Each P ss

pub sends_clean : (test : Request → Bool) (b : ℕ) (c : Account) (i : ℕ) (ss : List Send) → Each (Spares test b) ss → Clean test c b → Clean test (sent_all c i ss) b
sends_clean test b c i [] h k = k
sends_clean test b c i (s ∷ ss) h k = sends_clean test b (sent c s.0 i s.1) (i + 1) ss h.1 (sent_clean test b c s.0 i s.1 h.0 k)
