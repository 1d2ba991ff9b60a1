-- What a reply that is waited for does to a round, and a giving up.
use Rattle.std.proofs.Common.{◌≡◌, ◌⊎◌, inl, inr, ⊎_elim, ℕ, ◌+◌, ◌==◌, Bool, true, false, cond, refl, sym, ◌∙◌, ap, subst, Option, Some, None, eqb-true, eq-eqb}
use Rattle.std.proofs.lemmas.Bool.{cases_Bool}
use Rattle.ec_conduct.specs.Account.{Account, Dealings, Exchange, Lock, Place, Wait, at, filed, gave_up, gfid_of, granted, noted, over, told, with_dealings, with_place}
use Rattle.ec_conduct.specs.Given.{bricks_of}
use Rattle.ec_store.specs.Put.{put}
use Rattle.ec_wire.specs.declared.reply.Reply.{Reply}
use Rattle.ec_wire.specs.declared.request.Request.{Request}
use Rattle.ec_txn.specs.Rounds.{Asks, IsIn, IsListed, IsOn, IsRound, IsSentTo, asked_place}
use Rattle.ec_txn.proofs.Rounds.{each_put}
use Rattle.ec_txn.proofs.Sending.{places, put_at, put_other}

-- what ends at a brick
pub record OverDoes (c d : Account) (g b : ℕ) (e : Exchange) : Type 0 where
  pub given : d.given ≡ c.given
  pub answer : d.answer ≡ c.answer
  pub gfids : d.gfids ≡ c.gfids
  pub waits : d.waits ≡ put c.waits b None
  pub place : (y : ℕ) → at d g y ≡ put (places c g) b (noted (at c g b) e) y
  pub queried : (d.on g).queried ≡ (c.on g).queried
  pub dirty : (d.on g).dirty ≡ (c.on g).dirty

pub over_does : (c : Account) (g b : ℕ) (e : Exchange) → gfid_of e.request ≡ Some g → OverDoes c (over c b e) g b e
over_does c g b e of =
    let base = record c { waits = put c.waits b None; steps = c.steps + 1 } in
    let same : over c b e ≡ with_dealings base g (with_place (base.on g) b (noted (at base g b) e)) = ap (filed base b e) of in
    let on : (over c b e).on g ≡ with_place (c.on g) b (noted (at c g b) e) = ap (λ (x : Account). x.on g) same ∙ put_at c.on g _ in
    record {
      given = ap (λ (x : Account). x.given) same;
      answer = ap (λ (x : Account). x.answer) same;
      gfids = ap (λ (x : Account). x.gfids) same;
      waits = ap (λ (x : Account). x.waits) same;
      place = λ y. ap (λ (x : Dealings). x.place y) on;
      queried = ap (λ (x : Dealings). x.queried) on;
      dirty = ap (λ (x : Dealings). x.dirty) on;
    }

-- what a brick that is waited for was asked
pub asked_of : (o : Option Request) (p q : Place) (w : Wait) → IsIn o p (Some w) q → (o ≡ Some w.request) × (q ≡ asked_place p w.number w.request)
asked_of None p q w (e, f) = absurd (cc)
asked_of (Some r) p q w (inl (i, e, f)) =
    let a : record { number = i; request = r } ≡ w = (let x = e in cc) in
    subst (λ (v : Wait). (Some r ≡ Some v.request) × (q ≡ asked_place p v.number v.request)) a (refl, f)
asked_of (Some r) p q w (inr (i, reply, e, f)) = absurd (cc)

pub asked_at : (g b : ℕ) (c d : Account) (f : Asks) (w : Wait) → IsRound g c f d → d.waits b ≡ Some w → (f b ≡ Some w.request) × (at d g b ≡ asked_place (at c g b) w.number w.request)
asked_at g b c d f w r e = asked_of (f b) (at c g b) (at d g b) w (subst (λ (o : Option Wait). IsIn (f b) (at c g b) o (at d g b)) e (r.each b))

heal_none : (p : Place) (e : Exchange) → p.heal ≡ None → (noted p e).heal ≡ None
heal_none p e h = ap (λ (o : Option Lock). granted o e) h

inode_none : (p : Place) (e : Exchange) → p.inode ≡ None → (noted p e).inode ≡ None
inode_none p e h = ap (λ (o : Option Lock). granted o e) h

pub round_over : (g b : ℕ) (c d : Account) (f : Asks) (w : Wait) (reply : Option Reply) → IsOn g (bricks_of c.given) (c.on g).queried f → IsRound g c f d → d.waits b ≡ Some w
    → IsRound g c f (over d b (record { number = w.number; request = w.request; reply = reply }))
round_over g b c d f w reply on r e =
    let x : Exchange = record { number = w.number; request = w.request; reply = reply } in
    let a = asked_at g b c d f w r e in
    let o = over_does d g b x (on.of b w.request a.0) in
    record {
      given = o.given ∙ r.given;
      unanswered = o.answer ∙ r.unanswered;
      heal = λ y. ap (λ (z : Place). z.heal) (o.place y) ∙ each_put (λ (v : ℕ) (z : Place). z.heal ≡ None) (places d g) b (noted (at d g b) x) (heal_none (at d g b) x (r.heal b)) (λ v ne. r.heal v) y;
      gfids = ⊎_elim (λ l. inl (o.gfids ∙ l)) (λ l. inr (o.gfids ∙ l.0, λ y. ap (λ (z : Place). z.inode) (o.place y) ∙ each_put (λ (v : ℕ) (z : Place). z.inode ≡ None) (places d g) b (noted (at d g b) x) (inode_none (at d g b) x (l.1 b)) (λ v ne. l.1 v) y)) r.gfids;
      unqueried = λ none. o.queried ∙ r.unqueried none;
      clean = λ none. o.dirty ∙ r.clean none;
      each = λ y. subst (λ (v : ℕ → Option Wait). IsIn (f y) (at c g y) (v y) (at (over d b x) g y)) (sym o.waits)
          (subst (λ (z : Place). IsIn (f y) (at c g y) (put d.waits b None y) z) (sym (o.place y))
          (elim (cases_Bool (y == b)) [
            | inl u ↦ let s : y ≡ b = eqb-true y b u in subst (λ (v : ℕ). IsIn (f v) (at c g v) (put d.waits b None v) (put (places d g) b (noted (at d g b) x) v)) (sym s)
                (subst (λ (q : Option Request). IsIn q (at c g b) (put d.waits b None b) (put (places d g) b (noted (at d g b) x) b)) (sym a.0)
                (inr (w.number, reply, put_at d.waits b None, put_at (places d g) b (noted (at d g b) x) ∙ ap (λ (z : Place). noted z x) a.1)))
            | inr u ↦ rw u (r.each y)
          ]));
    }
