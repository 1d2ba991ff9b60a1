-- A call that asks for locks only before its Queries has one window.
use Rattle.std.proofs.Common.{◌≡◌, inl, inr, ℕ, ◌+◌, ◌==◌, false, refl, List, [], ◌∷◌, Option, Some, None}
use Rattle.std.proofs.lemmas.Bool.{cases_Bool}
use Rattle.ec_attr.specs.declared.kind.Domain.TheVariants.{Inode, Heal}
use Rattle.ec_conduct.specs.Account.{Account, Dealings, Exchange, Wait, after, begun, filed, gfid_of, heard_by, left_by, over, sent}
use Rattle.ec_conduct.specs.Done.{is_query}
use Rattle.ec_conduct.specs.Own.{Own, Sends, Hears, GivesUp, Answers}
use Rattle.ec_conduct.specs.Table.{IsFromOutside, Send, sent_all}
use Rattle.ec_store.specs.Put.{put}
use Rattle.ec_wire.specs.declared.reply.Reply.{Reply}
use Rattle.ec_wire.specs.declared.request.Request.{Request}
use Rattle.ec_wire.specs.declared.request.Request.TheVariants.{Ask, Release, Query, PreOp}
use Rattle.ec_law_calls.proofs.Clean.{Each, put_to}

-- no Query was sent
abbrev pub Unqueried : Account → Type 0
Unqueried c = (g : ℕ) → (c.on g).queried ≡ None

abbrev pub IsNoQuery : ℕ → Request → Type 0
IsNoQuery x r = is_query r ≡ false

at_gfid : (on : ℕ → Dealings) (g : ℕ) (d : Dealings) → ((on g).queried ≡ None → d.queried ≡ None) → ((h : ℕ) → (on h).queried ≡ None) → (h : ℕ) → (put on g d h).queried ≡ None
at_gfid on g d f all h = put_to (λ (z : Dealings). z.queried ≡ None) on g d h (λ e. f (all g)) (all h)

begun_none : (d : Dealings) (o : Option ℕ) → d.queried ≡ None → (begun d o).queried ≡ None
begun_none d None h = h
begun_none d (Some step) h = refl

sent_unqueried : (c : Account) (x i : ℕ) (r : Request) → is_query r ≡ false → Unqueried c → Unqueried (sent c x i r)
sent_unqueried c x i (Ask g Inode kind) not_so k = at_gfid c.on g.0 _ (begun_none (c.on g.0) (c.on g.0).queried) k
sent_unqueried c x i (Ask g Heal kind) not_so k = at_gfid c.on g.0 _ (λ h. h) k
sent_unqueried c x i (Release g grant) not_so k = at_gfid c.on g.0 _ (λ h. h) k
sent_unqueried c x i (Query g grant) not_so k = absurd (cc)
sent_unqueried c x i (PreOp g grant version dirty) not_so k = at_gfid c.on g.0 (record (c.on g.0) { dirty = Some dirty }) (λ h. h) k
sent_unqueried c x i r not_so k = k

pub sends_unqueried : (c : Account) (i : ℕ) (ss : List Send) → Each IsNoQuery ss → Unqueried c → Unqueried (sent_all c i ss)
sends_unqueried c i [] h k = k
sends_unqueried c i (s ∷ ss) h k = sends_unqueried (sent c s.0 i s.1) (i + 1) ss h.1 (sent_unqueried c s.0 i s.1 h.0 k)

filed_unqueried : (c : Account) (x : ℕ) (e : Exchange) (o : Option ℕ) → Unqueried c → Unqueried (filed c x e o)
filed_unqueried c x e None k = k
filed_unqueried c x e (Some g) k = at_gfid c.on g _ (λ h. h) k

over_unqueried : (c : Account) (x : ℕ) (e : Exchange) → Unqueried c → Unqueried (over c x e)
over_unqueried c x e k = filed_unqueried (record c { waits = put c.waits x None; steps = c.steps + 1 }) x e (gfid_of e.request) k

heard_unqueried : (c : Account) (x i : ℕ) (reply : Reply) (o : Option Wait) → Unqueried c → Unqueried (heard_by c x o i reply)
heard_unqueried c x i reply None k = k
heard_unqueried c x i reply (Some w) k = elim (cases_Bool (w.number == i)) [
  | inl t ↦ rw t (over_unqueried c x (record { number = w.number; request = w.request; reply = Some reply }) k)
  | inr n ↦ rw n k
]

left_unqueried : (c : Account) (x i : ℕ) (o : Option Wait) → Unqueried c → Unqueried (left_by c x o i)
left_unqueried c x i None k = k
left_unqueried c x i (Some w) k = elim (cases_Bool (w.number == i)) [
  | inl t ↦ rw t (over_unqueried c x (record { number = w.number; request = w.request; reply = None }) k)
  | inr n ↦ rw n k
]

pub outside_unqueried : (c : Account) (e : Own) → IsFromOutside e → Unqueried c → Unqueried (after c e)
outside_unqueried c (Sends x i r) out k = absurd out
outside_unqueried c (Hears x i reply) out k = heard_unqueried c x i reply (c.waits x) k
outside_unqueried c (GivesUp x i) out k = left_unqueried c x i (c.waits x) k
outside_unqueried c (Answers answer) out k = absurd out
