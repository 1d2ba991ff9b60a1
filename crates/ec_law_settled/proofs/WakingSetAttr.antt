-- A setattr waits for a brick in each stage.
use Rattle.std.proofs.Common.{◌≡◌, nat_le, cond, refl, sym, ◌∙◌, subst}
use Rattle.ec_answers.specs.declared.grouped.Grouped.{Grouped}
use Rattle.ec_answers.specs.declared.grouped.Grouped.TheVariants.{Group as Found, Gone, Fewer}
use Rattle.ec_attr.specs.declared.kind.LockKind.TheVariants.{Exclusive}
use Rattle.ec_conduct.specs.Account.{Account}
use Rattle.ec_conduct.specs.Ballots.{attr_after, size_after}
use Rattle.ec_conduct.specs.Given.{Given, bricks_of}
use Rattle.ec_entry.specs.SetAttr.{DuringSetAttr, InSetAttr, SetAttrFollows, SetAttrJudges, setattr_asks, setattr_table, told}
use Rattle.ec_entry.specs.declared.setattr.SetAttrStage.{SetAttrStage}
use Rattle.ec_entry.specs.declared.setattr.SetAttrStage.TheVariants.{Opens as OpensAt, Votes}
use Rattle.ec_txn.specs.Ballot.{ballot_request, count_serving, is_within}
use Rattle.ec_txn.specs.Opening.{InOpening}
use Rattle.ec_txn.specs.Rounds.{Asks, IsIdle, IsRound, subject}
use Rattle.ec_txn.specs.Tables.{IsIn}
use Rattle.ec_txn.specs.declared.ballot.Ballot.TheVariants.{Pre, Post, Clear}
use Rattle.ec_txn.specs.declared.ctx.Ctx.{Ctx}
use Rattle.ec_txn.specs.declared.opening.Opening.TheVariants.{Lock as Locking, Query}
use Rattle.ec_txn.specs.declared.stage.Next.TheVariants.{Go, Say}
use Rattle.ec_wire.specs.declared.answer.Answer.TheVariants.{Limit, NoQuorum, NoSuch}
use Rattle.ec_wire.specs.declared.phase.Phase.TheVariants.{Pre as PrePhase, Post as PostPhase, Query as QueryPhase}
use Rattle.ec_law_causes.proofs.Along.{NonePast, windows}
use Rattle.ec_law_causes.proofs.OpeningSteps.{go_same, go_say, go_when, queried}
use Rattle.ec_law_causes.proofs.Openings.{HereOpening}
use Rattle.ec_law_causes.proofs.Queried.{JudgedIn, judged}
use Rattle.ec_law_causes.proofs.SetAttr.{HereSetAttr}
use Rattle.ec_law_settled.proofs.Waking.{Someone, Wakes}
use Rattle.ec_law_settled.proofs.WakingMembers.{if_goes, members_someone, quorum_someone}
use Rattle.ec_law_settled.proofs.WakingOpenings.{NoMore, first_someone, lock_someone}
use Rattle.ec_law_settled.proofs.WakingServes.{group_count}

module _ (x : Ctx) (given : Given) (c : Account) (f : Asks) (d : Account) (isin : IsIn x given c) (none : NonePast (subject given.op) (bricks_of given) d) (r : IsRound (subject given.op) c f d) (idle : IsIdle d) where
  dg : d.given ≡ given
  dg = r.given ∙ isin.given_is

  query_someone : (q : SetAttrStage) (grouped : Grouped) → HereOpening Exclusive given Query c f → InOpening Exclusive Query c f → JudgedIn given (windows given d) (λ answer. ⊥) grouped → SetAttrJudges d grouped (Go q) → Someone given (setattr_asks q d)
  query_someone q (Found group) here l h is =
      let w = go_when (is_within group.head) (Votes (Pre group)) q (Limit group.head.version.content) is in
      subst (λ (z : SetAttrStage). Someone given (setattr_asks z d)) (sym w.1)
      (members_someone given group (λ y. ballot_request (subject d.given.op) (size_after d.given.op group.head.size) (attr_after d.given.op) (Pre group)) d dg w.0 (group_count Exclusive given c f d isin.given_is l here r idle none group h dg))
  query_someone q (Gone bricks) here l h is = absurd (go_say q NoSuch is)
  query_someone q (Fewer most) here l h is = absurd (go_say q (NoQuorum QueryPhase most) is)

  votes_someone : (stage : Rattle.ec_txn.specs.declared.ballot.Ballot.Ballot) (q : SetAttrStage) → InSetAttr (Votes stage) c f → SetAttrFollows (Votes stage) d (Go q) → Someone given (setattr_asks q d)
  votes_someone (Pre group) q l follows =
      let w = if_goes d group PrePhase (λ next. next ≡ Go (Votes (Post group))) q follows in
      subst (λ (z : SetAttrStage). Someone given (setattr_asks z d)) (sym (go_same q (Votes (Post group)) w.1))
      (quorum_someone given group (λ y. ballot_request (subject d.given.op) (size_after d.given.op group.head.size) (attr_after d.given.op) (Post group)) d dg l.within w.0)
  votes_someone (Post group) q l follows =
      let w = if_goes d group PostPhase (λ next. next ≡ cond (nat_le (bricks_of d.given) (count_serving d group)) (Go (Votes (Clear group))) (Say (told (attr_after d.given.op)))) q follows in
      subst (λ (z : SetAttrStage). Someone given (setattr_asks z d)) (sym (go_when (nat_le (bricks_of d.given) (count_serving d group)) (Votes (Clear group)) q (told (attr_after d.given.op)) w.1).1)
      (quorum_someone given group (λ y. ballot_request (subject d.given.op) (size_after d.given.op group.head.size) (attr_after d.given.op) (Clear group)) d dg l.within w.0)
  votes_someone (Clear group) q l follows = absurd (go_say q (told (attr_after d.given.op)) follows)

pub setattr_wakes : (x : Ctx) → Wakes x setattr_table DuringSetAttr HereSetAttr NoMore
setattr_wakes x = record {
  begins = λ given q of s. first_someone OpensAt Exclusive SetAttrJudges setattr_asks NoMore (λ o c. refl) (λ v o c. tt) given q (go_same q (OpensAt (Locking 0)) s.1);
  goes = λ given p q c f d e isin none dur here more r idle follows u dur' here'. go given p q c f d e isin none dur.1 here r idle follows;
}
  where
    go : (given : Given) (p q : SetAttrStage) (c : Account) (f : Asks) (d e : Account) → IsIn x given c → NonePast (subject given.op) (bricks_of given) d → InSetAttr p c f → HereSetAttr given p c f → IsRound (subject given.op) c f d → IsIdle d
        → SetAttrFollows p d (Go q) → Someone given (setattr_asks q d) × Unit {0}
    go given (OpensAt (Locking brick)) q c f d e isin none dur here r idle follows = lock_someone OpensAt Exclusive SetAttrJudges setattr_asks NoMore (λ o a. refl) (λ v o c. tt) given brick d e q (r.given ∙ isin.given_is) follows
    go given (OpensAt Query) q c f d e isin none dur here r idle (grouped, comes, is) =
        (query_someone x given c f d isin none r idle q grouped here dur (judged given d (r.given ∙ isin.given_is) (queried Exclusive given c f d isin.given_is dur here r idle none) (λ answer. ⊥) grouped comes) is, tt)
    go given (Votes stage) q c f d e isin none dur here r idle follows = (votes_someone x given c f d isin none r idle stage q dur follows, tt)
