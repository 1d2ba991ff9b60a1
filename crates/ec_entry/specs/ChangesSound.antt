-- How a directory's change begins after the PreOps, and what holds as it is over.
use Rattle.std.proofs.Common.{◌≡◌, ℕ, ◌<◌, sym, subst, refl, List, [], Option, Some, false}
use Rattle.ec_answers.specs.declared.grouped.Group.{Group}
use Rattle.ec_conduct.specs.Account.{Account, at}
use Rattle.ec_conduct.specs.Done.{is_made, tried}
use Rattle.ec_conduct.specs.Given.{Given, bricks_of}
use Rattle.ec_txn.specs.declared.ballot.Ballot.TheVariants.{Pre}
use Rattle.ec_txn.specs.Ballot.{InBallot, IsGroupAt, serving, to_members, version_at}
use Rattle.ec_txn.specs.Rounds.{Asks, IsIdle, IsRound, IsUnlocked, subject}
use Rattle.ec_txn.proofs.BallotGoes.{did_in, group_over, group_released, released_of, requests_for}
use Rattle.ec_txn.proofs.Ballots.{DidAsked}
use Rattle.ec_wire.specs.declared.request.Request.{Request}
use Rattle.ec_entry.specs.Changing.{HasChanged, InChange, IsUnmade}
use Rattle.ec_entry.specs.MembersSound.{IsAsk, asks_next, did_by, group_kept, members_go, members_grow}

module _ (c : Account) (f : Asks) (d e : Account) (ce : c.given ≡ e.given) (dg : d.given ≡ e.given) (r : IsRound (subject e.given.op) c f d) (idle : IsIdle d) (u : IsUnlocked (subject e.given.op) d e) where
  round_c : IsRound (subject c.given.op) c f d
  round_c = subst (λ (v : Given). IsRound (subject v.op) c f d) (sym ce) r

  unlocked_c : IsUnlocked (subject c.given.op) d e
  unlocked_c = subst (λ (v : Given). IsUnlocked (subject v.op) d e) (sym ce) u

  -- the first change after the PreOps
  pub change_begins : (group : Group) (q : Given → ℕ → ℕ → Request) → InBallot (Pre group) c f → IsUnmade group c → InChange group (q e.given) (λ grant. []) e (to_members group (q d.given) d)
  change_begins group q l m = record {
    within = l.within;
    group_is = group_released (subject e.given.op) group d e (released_of (subject e.given.op) d e u) (group_over (Pre group) c f d e.given l ce r idle);
    ready = members_go group (requests_for (Pre group) e.given) (λ i v es. tried is_made es ≡ false) (λ i v es. HasChanged (subject e.given.op) group [] i v es) c d e ce u
        (did_in (Pre group) c f d e.given l ce r idle)
        (λ i v k reply es z w. record { pre = rw z refl; done = rw z refl; changes_are = refl; made = w }) m;
    asks = asks_next group q d e dg u;
  }

  -- the group, as a change is over
  pub group_now : (group : Group) (q : Given → ℕ → ℕ → Request) (rs : ℕ → List Request) → ((v : Given) → IsAsk (subject v.op) (q v)) → InChange group (q c.given) rs c f → IsGroupAt e (subject e.given.op) group
  group_now group q rs ask l = subst (λ (v : Given). IsGroupAt e (subject v.op) group) ce
      (group_kept (subject c.given.op) group c d e r.given (members_grow group (q c.given) c f d (ask c.given) l.asks round_c idle) unlocked_c l.group_is)

  -- each member that serves did the change
  pub did_change : (group : Group) (q : Given → ℕ → ℕ → Request) (rs : ℕ → List Request) → ((v : Given) → IsAsk (subject v.op) (q v)) → InChange group (q c.given) rs c f
      → (x j w : ℕ) → x < bricks_of e.given → serving (at d (subject e.given.op) x) ≡ Some j → version_at group x ≡ Some w → DidAsked (q e.given) (at c (subject e.given.op) x) (at d (subject e.given.op) x) j w
  did_change group q rs ask l x j w less s t = subst (λ (v : Given). DidAsked (q v) (at c (subject e.given.op) x) (at d (subject e.given.op) x) j w) ce
      (did_by group (q c.given) c f d e l.within (ask c.given) l.asks ce r idle x j w less s t)
