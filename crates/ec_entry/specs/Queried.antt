-- What a brick that holds its lock was sent as the Queries are over, and when all bricks serve.
use Rattle.std.proofs.Common.{◌≡◌, inl, inr, ℕ, zero, suc, ◌<◌, ◌≤◌, ◌&&◌, ◌||◌, Bool, true, false, refl, sym, ◌∙◌, ap, arith, Option, Some, None, List, [], ◌∷◌}
use Rattle.std.specs.Prelude.{map}
use Rattle.std.specs.List.{list_any}
use Rattle.std.proofs.lemmas.Bool.{cases_Bool, cases_eq}
use Rattle.ec_attr.specs.Bricks.{count_below}
use Rattle.ec_attr.proofs.Sets.{count_in, count_out, most}
use Rattle.ec_attr.specs.declared.kind.Domain.TheVariants.{Inode}
use Rattle.ec_attr.specs.declared.kind.LockKind.{LockKind}
use Rattle.ec_conduct.specs.Account.{Account, Exchange, Place, at}
use Rattle.ec_conduct.specs.Done.{did, is_query, reply_to, tried}
use Rattle.ec_conduct.specs.Standing.{head_of, heads_at}
use Rattle.ec_wire.specs.declared.request.Request.{Request}
use Rattle.ec_wire.specs.declared.request.Request.TheVariants.{Ask, Query}
use Rattle.ec_txn.specs.Ballot.{serving}
use Rattle.ec_txn.specs.Opening.{IsQuerying}
use Rattle.ec_txn.specs.Rounds.{Asks, IsIdle, IsIn, IsRound, asked_place}
use Rattle.ec_txn.proofs.Ballots.{grant_is, serving_is}
use Rattle.ec_txn.proofs.Openings.{over_in}

tried_by : (p : Request → Bool) (es : List Exchange) → tried p es ≡ list_any p (map (λ (e : Exchange). e.request) es)
tried_by p [] = refl
tried_by p (e ∷ es) = ap (λ (t : Bool). p e.request || t) (tried_by p es)

undone : (a b t u : Bool) → (a || t) ≡ false → (t ≡ false → u ≡ false) → ((a && b) || u) ≡ false
undone true b t u e f = absurd (cc)
undone false b t u e f = f e

right_false : (a t : Bool) → (a || t) ≡ false → t ≡ false
right_false true t e = absurd (cc)
right_false false t e = e

pub untried : (p : Request → Bool) (es : List Exchange) → tried p es ≡ false → did p es ≡ false
untried p [] e = refl
untried p (x ∷ es) e = undone (p x.request) (Rattle.ec_conduct.specs.Done.is_done x.reply) (tried p es) (did p es) e (untried p es)

-- what a brick that holds its lock was sent as the Queries are over
pub queried_window : (g n : ℕ) (kind : LockKind) (c : Account) (f : Asks) (d : Account) → IsQuerying g n kind c f → IsRound g c f d → IsIdle d → (x i : ℕ) → serving (at d g x) ≡ Some i
    → (p : Request → Bool) → ((grant : ℕ) → p (Query (record { 0 = g }) grant) ≡ false) → p (Ask (record { 0 = g }) Inode kind) ≡ false → tried p (at d g x).window ≡ false
queried_window g n kind c f d l r idle x i s p no_query no_ask = go (f x) refl (r.each x)
  where
    go : (o : Option Request) → f x ≡ o → IsIn o (at c g x) (d.waits x) (at d g x) → tried p (at d g x).window ≡ false
    go None e t =
        let w = grant_is (at d g x).inode i (serving_is (at d g x) i s).1 in
        let did_ask = l.opens.locked x w.0 (ap (λ (q : Place). q.inode) (sym t.1) ∙ w.1) in
        ap (λ (q : Place). tried p q.window) t.1 ∙ (tried_by p (at c g x).window ∙ (ap (list_any p) did_ask.0 ∙ (let z = no_ask in rw z refl)))
    go (Some q) e t =
        let a = l.asks x q e in
        let w = over_in q (at c g x) (d.waits x) (at d g x) t (idle x) in
        let did_ask = l.opens.locked x a.1 a.2 in
        let same : asked_place (at c g x) w.0 q ≡ at c g x = ap (asked_place (at c g x) w.0) a.4 in
        let win : (at d g x).window ≡ record { number = w.0; request = q; reply = w.1 } ∷ (at c g x).window = ap (λ (z : Place). z.window) w.2 ∙ ap (λ (z : Place). record { number = w.0; request = q; reply = w.1 } ∷ z.window) same in
        tried_by p (at d g x).window ∙ (ap (λ es. list_any p (map (λ (k : Exchange). k.request) es)) win ∙ ((λ j. list_any p (a.4 j ∷ did_ask.0 j)) ∙ (let y = no_query a.1.number in let z = no_ask in rw (y, z) refl)))

pub heads_past : (g n : ℕ) (kind : LockKind) (c : Account) (f : Asks) (d : Account) → IsQuerying g n kind c f → IsRound g c f d → (x : ℕ) → n ≤ x → heads_at d g x ≡ None
heads_past g n kind c f d l r x past = go (f x) refl (r.each x)
  where
    go : (o : Option Request) → f x ≡ o → IsIn o (at c g x) (d.waits x) (at d g x) → heads_at d g x ≡ None
    go None e t = ap (λ (p : Place). head_of (reply_to is_query p.window)) t.1 ∙ ap head_of (l.opens.quiet x)
    go (Some q) e t = absurd (let w = (l.asks x q e).0 in omega arith)

-- so many of n numbers as n are all of them
pub full : (n : ℕ) (p : ℕ → Bool) → n ≤ count_below n p → (x : ℕ) → x < n → p x ≡ true
full zero p l x less = absurd (omega arith)
full (suc n) p l x less = elim (cases_Bool (p n)) [
  | inl t ↦ elim (cases_eq x n) [
    | inl e ↦ ap p e ∙ t
    | inr e ↦ full n p (let w = count_in n p t in omega (arith, l, w)) x (omega (arith, less, e))
  ]
  | inr t ↦ absurd (let w = count_out n p t in let m = most n p in omega (arith, l, w, m))
]
