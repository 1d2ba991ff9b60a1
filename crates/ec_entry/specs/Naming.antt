-- The name that is to be changed is asked for, and the PreOps after it, keep the conduct.
use Rattle.std.proofs.Common.{◌≡◌, ◌⊎◌, inl, inr, ℕ, ◌<◌, ◌≤◌, ◌^◌, ◌&&◌, nat_lt, true, refl, sym, ◌∙◌, ap, subst, Option, Some, None, List, ◌∷◌, arith}
use Rattle.std.proofs.lemmas.Bool.{and_parts}
use Rattle.std.proofs.lemmas.Bool.Decides.{nat_tests}
use Rattle.ec_answers.specs.declared.grouped.Group.{Group}
use Rattle.ec_answers.specs.declared.grouped.Grouped.TheVariants.{Group as Found}
use Rattle.ec_attr.specs.Bricks.{is_in}
use Rattle.ec_attr.specs.declared.kind.LockKind.{LockKind}
use Rattle.ec_attr.proofs.Sets.{laws}
use Rattle.ec_conduct.specs.Account.{Account, Exchange, Lock, Place, at}
use Rattle.ec_conduct.specs.Ballots.{size_after}
use Rattle.ec_conduct.specs.Done.{failed_none, is_any, is_done, is_made, is_pre, is_query, is_unmark}
use Rattle.ec_conduct.specs.Given.{Given, bricks_of}
use Rattle.ec_conduct.specs.Standing.{heads_at}
use Rattle.ec_txn.specs.declared.ballot.Ballot.TheVariants.{Pre}
use Rattle.ec_txn.specs.Ballot.{InBallot, IsGroupAt, Members, ballot_asks, is_within, serving}
use Rattle.ec_txn.specs.Fetching.{IsFetch, IsFetching, asks_of, under}
use Rattle.ec_txn.specs.Opening.{ComesTo, IsQuerying}
use Rattle.ec_txn.specs.Rounds.{Asks, IsIdle, IsIn as IsInRound, IsRound, IsUnlocked, asked_place, subject}
use Rattle.ec_txn.proofs.BallotGoes.{asks_after, group_released, released_of}
use Rattle.ec_txn.proofs.Ballots.{is_granted_of, serves_by, serving_is, still_serves, unlocked_serving}
use Rattle.ec_txn.proofs.Fetching.{under_is, within}
use Rattle.ec_txn.proofs.Groups.{group_at}
use Rattle.ec_txn.proofs.Openings.{over_in}
use Rattle.ec_wire.specs.declared.reply.Reply.{Reply}
use Rattle.ec_wire.specs.declared.request.Request.{Request}
use Rattle.ec_wire.specs.declared.request.Request.TheVariants.{NameGet}
use Rattle.ec_entry.specs.Changing.{InNaming, IsFresh, IsUnmade}
use Rattle.ec_entry.specs.MembersSound.{grow_by, group_kept}
use Rattle.ec_entry.specs.Queried.{heads_past, queried_window, untried}

pub name_fetching : (group : Group) (name : List ℕ) (c : Account) (f : Asks) → InNaming group name c f → IsFetching (subject c.given.op) (bricks_of c.given) c f
name_fetching group name c f l = record {
  asks = λ x r e. (let w = l.asks x r e in (w.0, w.1, w.2, w.3, subst (IsFetch (subject c.given.op) w.1.number) (sym w.4) (refl, refl)));
}

-- the name is asked for after the Queries

pub name_begins : (group : Group) (name : Given → List ℕ) (kind : LockKind) (c : Account) (f : Asks) (d e : Account) → IsQuerying (subject e.given.op) (bricks_of e.given) kind c f → d.given ≡ e.given → IsRound (subject e.given.op) c f d → IsIdle d
    → IsUnlocked (subject e.given.op) d e → ComesTo d (subject d.given.op) (Found group) → InNaming group (name e.given) e (asks_of group.bricks (λ grant. NameGet (record { 0 = subject d.given.op }) grant (name d.given)) d)
name_begins group name kind c f d e l dg r idle u came =
    let g = subject e.given.op in
    let at_d : IsGroupAt d (subject d.given.op) group = group_at laws d (subject d.given.op) group
    (subst (λ (v : Given). (x : ℕ) → bricks_of v ≤ x → heads_at d (subject v.op) x ≡ None) (sym dg) (heads_past g (bricks_of e.given) kind c f d l r)) came in
    record {
      group_is = group_released g group d e (released_of g d e u) (subst (λ (v : Given). IsGroupAt d (subject v.op) group) dg at_d);
      clean = u.dirty ∙ (r.clean (λ y q t. ap is_pre (l.asks y q t).4) ∙ l.opens.clean);
      fresh = λ x i w less s t.
          (let s' : serving (at d g x) ≡ Some i = sym (unlocked_serving g x d e u) ∙ s in
          subst IsFresh (sym (u.window x)) (record {
            pre = queried_window g (bricks_of e.given) kind c f d l r idle x i s' is_pre (λ grant. refl) refl;
            unmark = untried is_unmark (at d g x).window (queried_window g (bricks_of e.given) kind c f d l r idle x i s' is_unmark (λ grant. refl) refl);
            made = queried_window g (bricks_of e.given) kind c f d l r idle x i s' is_made (λ grant. refl) refl;
          }));
      asks = λ x q a.
          (let ask = λ (v : Given) (grant : ℕ). NameGet (record { 0 = subject v.op }) grant (name v) in
          let w = within (is_in group.bricks x && nat_lt x (bricks_of d.given)) (under (at d (subject d.given.op) x).inode (ask d.given)) q a in
          let k = under_is (at d (subject d.given.op) x).inode (ask d.given) q w.1 in
          let t : nat_lt x (bricks_of d.given) ≡ true = (and_parts (is_in group.bricks x) (nat_lt x (bricks_of d.given)) w.0).1 in
          let less : x < bricks_of d.given = grind (arith, nat_tests) in
          let here : (at d g x).inode ≡ Some k.0 = subst (λ (v : Given). (at d (subject v.op) x).inode ≡ Some k.0) dg k.1 in
          (subst (λ (v : Given). x < bricks_of v) dg less, k.0, u.kept x k.0 here k.2, k.2, subst (λ (v : Given). q ≡ ask v k.0.number) dg k.3));
    }

-- A brick that serves after the name was asked for served before it, and its window is the same, or has the reply more.
abbrev pub WasAsked : ℕ → List ℕ → List Exchange → List Exchange → Type 0
WasAsked g name old new = (new ≡ old) ⊎ ((grant k : ℕ) × (reply : Option Reply) × (new ≡ record { number = k; request = NameGet (record { 0 = g }) grant name; reply = reply } ∷ old))

was_asked : (group : Group) (name : List ℕ) (c : Account) (f : Asks) (d : Account) → InNaming group name c f → IsRound (subject c.given.op) c f d → IsIdle d → (x j : ℕ) → serving (at d (subject c.given.op) x) ≡ Some j
    → (serving (at c (subject c.given.op) x) ≡ Some j) × WasAsked (subject c.given.op) name (at c (subject c.given.op) x).window (at d (subject c.given.op) x).window
was_asked group name c f d l r idle x j s = go (f x) refl (r.each x)
  where
    go : (o : Option Request) → f x ≡ o → IsInRound o (at c (subject c.given.op) x) (d.waits x) (at d (subject c.given.op) x)
        → (serving (at c (subject c.given.op) x) ≡ Some j) × WasAsked (subject c.given.op) name (at c (subject c.given.op) x).window (at d (subject c.given.op) x).window
    go None e t = (sym (ap serving t.1) ∙ s, inl (ap (λ (p : Place). p.window) t.1))
    go (Some q) e t =
        let g = subject c.given.op in
        let a = l.asks x q e in
        let w = over_in q (at c g x) (d.waits x) (at d g x) t (idle x) in
        let m : Exchange = record { number = w.0; request = q; reply = w.1 } in
        let same : asked_place (at c g x) w.0 q ≡ at c g x = ap (asked_place (at c g x) w.0) a.4 in
        let now : at d g x ≡ Rattle.ec_conduct.specs.Account.noted (at c g x) m = w.2 ∙ ap (λ (p : Place). Rattle.ec_conduct.specs.Account.noted p m) same in
        let s' : serving (Rattle.ec_conduct.specs.Account.noted (at c g x) m) ≡ Some j = sym (ap serving now) ∙ s in
        let all = (serving_is (Rattle.ec_conduct.specs.Account.noted (at c g x) m) j s').0 in
        let before : serving (at c g x) ≡ Some a.1.number = serves_by (at c g x) a.1.number (and_parts (is_done m.reply) (failed_none is_any (at c g x).window) all).1 (is_granted_of (at c g x).inode a.1 a.2 a.3) in
        let k = still_serves (at c g x) m a.1.number j before s' in (
          before ∙ ap (λ (n : ℕ). Some n) (sym k.0),
          inr (a.1.number, w.0, w.1, ap (λ (p : Place). p.window) now ∙ ap (λ (z : Request). record { number = w.0; request = z; reply = w.1 } ∷ (at c g x).window) a.4),
        )

fresh_more : (g : ℕ) (name : List ℕ) (old new : List Exchange) → WasAsked g name old new → IsFresh old → IsFresh new
fresh_more g name old new (inl e) w = subst IsFresh (sym e) w
fresh_more g name old new (inr (grant, k, reply, e)) w = subst IsFresh (sym e) (record { pre = w.pre; unmark = w.unmark; made = w.made })

-- the PreOps come after the name
pub pre_after_name : (group : Group) (name : List ℕ) (c : Account) (f : Asks) (d e : Account) → InNaming group name c f → c.given ≡ e.given → d.given ≡ e.given → IsRound (subject c.given.op) c f d → IsIdle d → IsUnlocked (subject e.given.op) d e
    → is_within group.head ≡ true → size_after e.given.op group.head.size ≤ 2 ^ 40 → InBallot (Pre group) e (ballot_asks (Pre group) d) × IsUnmade group e
pre_after_name group name c f d e l ce dg r idle u limit size = (
  record {
    within = limit;
    size = size;
    group = subst (λ (v : Given). IsGroupAt e (subject v.op) group) ce (group_kept (subject c.given.op) group c d e r.given grow (subst (λ (v : Given). IsUnlocked (subject v.op) d e) (sym ce) u) l.group_is);
    at_stage = (
      subst (λ (v : Given). (e.on (subject v.op)).dirty ≡ None) ce (unlocked.dirty ∙ (r.clean (λ y q t. ap is_pre (l.asks y q t).4) ∙ l.clean)),
      λ x i w less s t. (let k = fresh x i w less s t in (k.pre, k.unmark)),
    );
    asks = λ x. asks_after (Pre group) d e dg u x;
  },
  λ x i w less s t. (fresh x i w less s t).made,
)
  where
    unlocked : IsUnlocked (subject c.given.op) d e
    unlocked = subst (λ (v : Given). IsUnlocked (subject v.op) d e) (sym ce) u

    grow : (x : ℕ) → Rattle.ec_txn.proofs.BallotGoes.Grows (at c (subject c.given.op) x).window (at d (subject c.given.op) x).window
    grow = grow_by (subject c.given.op) c f d (λ y q t. (ap is_query (l.asks y q t).4, λ i. ap (asked_place (at c (subject c.given.op) y) i) (l.asks y q t).4)) r idle

    fresh : Members group e (λ x grant version. IsFresh (at e (subject e.given.op) x).window)
    fresh x i w less s t =
        let g = subject c.given.op in
        let s' : serving (at e g x) ≡ Some i = subst (λ (v : Given). serving (at e (subject v.op) x) ≡ Some i) (sym ce) s in
        let k = was_asked group name c f d l r idle x i (sym (unlocked_serving g x d e unlocked) ∙ s') in
        let now = fresh_more g name (at c g x).window (at d g x).window k.1 (l.fresh x i w (subst (λ (v : Given). x < bricks_of v) (sym ce) less) k.0 t) in
        subst (λ (v : Given). IsFresh (at e (subject v.op) x).window) ce (subst IsFresh (sym (unlocked.window x)) now)
