-- A stage that asks the good group under its locks asks a brick of it: the name of a lookup.
use Rattle.std.proofs.Common.{◌≡◌, inl, inr, ℕ, ◌<◌, nat_lt, is_some, true, refl, sym, ◌∙◌, ap, subst, arith, List, [], ◌∷◌, length, Option, Some, None}
use Rattle.std.specs.Option.{option_map}
use Rattle.std.proofs.lemmas.Bool.{cases_lt}
use Rattle.ec_answers.specs.declared.grouped.Group.{Group}
use Rattle.ec_answers.specs.declared.grouped.Grouped.{Grouped}
use Rattle.ec_answers.specs.declared.grouped.Grouped.TheVariants.{Group as Found, Gone, Fewer}
use Rattle.ec_attr.proofs.Sets.{len}
use Rattle.ec_attr.specs.Bricks.{bricks_below, count_below, is_in}
use Rattle.ec_attr.specs.Head.{with_dirty}
use Rattle.ec_attr.specs.declared.head.Head.{Head}
use Rattle.ec_attr.specs.declared.kind.Kind.{Kind}
use Rattle.ec_attr.specs.declared.kind.Kind.TheVariants.{File, Dir}
use Rattle.ec_attr.specs.declared.kind.LockKind.TheVariants.{Shared}
use Rattle.ec_conduct.specs.Account.{Account, Lock, at}
use Rattle.ec_conduct.specs.Given.{Given, bricks_of, quorum_of}
use Rattle.ec_conduct.specs.Group.{Heads, first_head, good_group, is_good}
use Rattle.ec_conduct.specs.Standing.{is_held}
use Rattle.ec_entry.specs.Lookup.{DuringLookup, InLookup, LookupFollows, LookupJudges, lookup_answer, lookup_asks, lookup_table, of_kind}
use Rattle.ec_entry.specs.declared.lookup.LookupStage.{LookupStage}
use Rattle.ec_entry.specs.declared.lookup.LookupStage.TheVariants.{Opens as OpensAt, Name}
use Rattle.ec_txn.specs.Fetching.{asks_of, under}
use Rattle.ec_txn.specs.Opening.{InOpening}
use Rattle.ec_txn.specs.Rounds.{Asks, IsIdle, IsRound, subject}
use Rattle.ec_txn.specs.Tables.{IsIn}
use Rattle.ec_txn.specs.declared.ctx.Ctx.{Ctx}
use Rattle.ec_txn.specs.declared.opening.Opening.TheVariants.{Lock as Locking, Query}
use Rattle.ec_txn.specs.declared.stage.Next.TheVariants.{Go}
use Rattle.ec_wire.specs.declared.answer.Answer.TheVariants.{NoQuorum, NoSuch, NotDir}
use Rattle.ec_wire.specs.declared.phase.Phase.TheVariants.{Query as QueryPhase}
use Rattle.ec_wire.specs.declared.request.Request.{Request}
use Rattle.ec_law_causes.specs.Counted.{Windows, head_in, heads_in, is_grouped}
use Rattle.ec_law_causes.proofs.Along.{NonePast, windows}
use Rattle.ec_law_causes.proofs.Lookup.{HereLookup}
use Rattle.ec_law_causes.proofs.Members.{HasMembers, members_begin}
use Rattle.ec_law_causes.proofs.Openings.{HereOpening}
use Rattle.ec_law_causes.proofs.OpeningSteps.{go_same, go_say, queried, querying}
use Rattle.ec_law_causes.proofs.Queried.{JudgedIn, judged}
use Rattle.ec_law_causes.proofs.Walking.{some_below}
use Rattle.ec_law_settled.proofs.Waking.{Someone, Wakes}
use Rattle.ec_law_settled.proofs.WakingMembers.{asked_where, less}
use Rattle.ec_law_settled.proofs.WakingOpenings.{NoMore, first_someone, lock_someone, when}

-- ## A group has a brick

no_bricks : (xs : List ℕ) → length xs ≡ 0 → xs ≡ []
no_bricks [] e = refl
no_bricks (x ∷ xs) e = absurd (omega (arith, e))

none_first : (heads : Heads) (dirty : ℕ) (xs : List ℕ) (head : Head) → xs ≡ [] → option_map (with_dirty dirty) (first_head heads xs) ≡ Some head → ⊥
none_first heads dirty [] head e is = absurd (cc)
none_first heads dirty (x ∷ xs) head e is = absurd (cc)

pub grouped_some : (given : Given) (w : Windows) (head : Head) → head_in given w ≡ Some head → (y : ℕ) × (y < bricks_of given) × (is_grouped given w y ≡ true)
grouped_some given w head e = elim (cases_lt 0 (count_below (bricks_of given) (is_good (bricks_of given) (quorum_of given) (heads_in w)))) [
  | inl pos ↦ some_below (bricks_of given) (is_good (bricks_of given) (quorum_of given) (heads_in w)) pos
  | inr none ↦
      let long : length (bricks_below (bricks_of given) (is_good (bricks_of given) (quorum_of given) (heads_in w))) ≡ count_below (bricks_of given) (is_good (bricks_of given) (quorum_of given) (heads_in w)) = len (bricks_of given) (is_good (bricks_of given) (quorum_of given) (heads_in w)) in
      absurd (none_first (heads_in w) _ (good_group (bricks_of given) (quorum_of given) (heads_in w)) head (no_bricks (bricks_below (bricks_of given) (is_good (bricks_of given) (quorum_of given) (heads_in w))) (omega (arith, long, none))) e)
]

pub held_fetched : (o : Option Lock) (q : ℕ → Request) → is_held o ≡ true → is_some (under o q) ≡ true
held_fetched None q e = absurd (cc)
held_fetched (Some lock) q e = when lock.granted (Some (q lock.number)) e refl

pub fetch_someone : (given : Given) (group : Group) (m : ℕ) (q : ℕ → Request) (d : Account) → d.given ≡ given → HasMembers given group m d → Someone given (asks_of group.bricks q d)
fetch_someone given group m q d dg h =
    let y = grouped_some given (λ x. (at d (subject given.op) x).window) group.head h.group_is.head in
    let lt : y.0 < bricks_of given = y.1 in
    let of : is_in group.bricks y.0 ≡ true = sym (h.group_is.bricks y.0) ∙ y.2 in
    let held : is_held (at d (subject d.given.op) y.0).inode ≡ true = ap (λ (v : Given). is_held (at d (subject v.op) y.0).inode) dg ∙ h.locked y.0 of in (
      y.0,
      lt,
      asked_where (is_in group.bricks y.0) (nat_lt y.0 (bricks_of d.given)) (under (at d (subject d.given.op) y.0).inode q) of (ap (λ (v : Given). nat_lt y.0 (bricks_of v)) dg ∙ less y.0 (bricks_of given) lt) (held_fetched (at d (subject d.given.op) y.0).inode q held),
    )

-- ## A lookup

module _ (x : Ctx) (given : Given) (c : Account) (f : Asks) (d : Account) (isin : IsIn x given c) (none : NonePast (subject given.op) (bricks_of given) d) (r : IsRound (subject given.op) c f d) (idle : IsIdle d) where
  query_someone : (q : LookupStage) (grouped : Grouped) → HereOpening Shared given Query c f → InOpening Shared Query c f → JudgedIn given (windows given d) (λ answer. ⊥) grouped → LookupJudges d grouped (Go q) → Someone given (lookup_asks q d)
  query_someone q (Found group) here l h is = by group.head.kind is
    where
      by : (kind : Kind) → Go q ≡ of_kind kind group.bricks → Someone given (lookup_asks q d)
      by File e = absurd (go_say q NotDir e)
      by Dir e = subst (λ (z : LookupStage). Someone given (lookup_asks z d)) (sym (go_same q (Name group.bricks) e))
          (fetch_someone given group 2 _ d (r.given ∙ isin.given_is) (members_begin given Shared group c f d (querying Shared given c f d isin.given_is l here r idle none) here r idle h))
  query_someone q (Gone bricks) here l h is = absurd (go_say q NoSuch is)
  query_someone q (Fewer most) here l h is = absurd (go_say q (NoQuorum QueryPhase most) is)

pub lookup_wakes : (x : Ctx) → Wakes x lookup_table DuringLookup HereLookup NoMore
lookup_wakes x = record {
  begins = λ given q of s. first_someone OpensAt Shared LookupJudges lookup_asks NoMore (λ o c. refl) (λ v o c. tt) given q (go_same q (OpensAt (Locking 0)) s.1);
  goes = λ given p q c f d e isin none dur here more r idle follows u dur' here'. go given p q c f d e isin none dur.1 here r idle follows;
}
  where
    go : (given : Given) (p q : LookupStage) (c : Account) (f : Asks) (d e : Account) → IsIn x given c → NonePast (subject given.op) (bricks_of given) d → InLookup p c f → HereLookup given p c f → IsRound (subject given.op) c f d → IsIdle d
        → LookupFollows p d (Go q) → Someone given (lookup_asks q d) × Unit {0}
    go given (OpensAt (Locking brick)) q c f d e isin none dur here r idle follows = lock_someone OpensAt Shared LookupJudges lookup_asks NoMore (λ o a. refl) (λ v o c. tt) given brick d e q (r.given ∙ isin.given_is) follows
    go given (OpensAt Query) q c f d e isin none dur here r idle (grouped, comes, is) = (query_someone x given c f d isin none r idle q grouped here dur (judged given d (r.given ∙ isin.given_is) (queried Shared given c f d isin.given_is dur here r idle none) (λ answer. ⊥) grouped comes) is, tt)
    go given (Name bricks) q c f d e isin none dur here r idle follows = absurd (go_say q (lookup_answer follows.0) follows.2)
