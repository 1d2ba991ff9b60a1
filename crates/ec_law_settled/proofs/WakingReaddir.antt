-- A readdir waits for a brick in each round.
use Rattle.std.proofs.Common.{◌≡◌, inl, inr, ℕ, ◌<◌, ◌≤◌, nat_lt, is_some, Bool, true, false, cond, refl, sym, ◌∙◌, ap, subst, arith, List, [], ◌++◌, Option, Some, None}
use Rattle.ec_answers.specs.declared.grouped.Group.{Group}
use Rattle.ec_answers.specs.declared.grouped.Grouped.{Grouped}
use Rattle.ec_answers.specs.declared.grouped.Grouped.TheVariants.{Group as Found, Gone, Fewer}
use Rattle.ec_attr.specs.Bricks.{is_in}
use Rattle.ec_attr.specs.declared.kind.Kind.{Kind}
use Rattle.ec_attr.specs.declared.kind.Kind.TheVariants.{File, Dir}
use Rattle.ec_attr.specs.declared.kind.LockKind.TheVariants.{Shared}
use Rattle.ec_conduct.specs.Account.{Account, Place as PlaceOf, at}
use Rattle.ec_conduct.specs.Done.{is_done}
use Rattle.ec_conduct.specs.Given.{Given, bricks_of, quorum_of}
use Rattle.ec_entry.specs.Members.{under_grant}
use Rattle.ec_entry.specs.Paging.{Entries, count_paged, page_in, paged}
use Rattle.ec_entry.specs.Readdir.{DuringReaddir, InReaddir, ReaddirFollows, ReaddirJudges, goes_on, names_asks, of_kind, readdir_asks, readdir_table}
use Rattle.ec_entry.specs.declared.readdir.ReaddirStage.{ReaddirStage}
use Rattle.ec_entry.specs.declared.readdir.ReaddirStage.TheVariants.{Opens as OpensAt, Names}
use Rattle.ec_store.specs.Pages.{Page}
use Rattle.ec_txn.specs.Ballot.{serving}
use Rattle.ec_txn.specs.Opening.{InOpening}
use Rattle.ec_txn.specs.Replies.{last_reply, replied}
use Rattle.ec_txn.specs.Rounds.{Asks, IsIdle, IsIn as IsInRound, IsRound, IsUnlocked, subject}
use Rattle.ec_txn.specs.Tables.{IsIn}
use Rattle.ec_txn.specs.declared.ctx.Ctx.{Ctx}
use Rattle.ec_txn.specs.declared.opening.Opening.TheVariants.{Lock as Locking, Query}
use Rattle.ec_txn.specs.declared.stage.Next.TheVariants.{Go}
use Rattle.ec_txn.proofs.Ballots.{unlocked_serving}
use Rattle.ec_wire.specs.declared.answer.Answer.TheVariants.{Names as NamesAre, NoQuorum, NoSuch, NotDir}
use Rattle.ec_wire.specs.declared.phase.Phase.TheVariants.{Names as NamesPhase, Query as QueryPhase}
use Rattle.ec_wire.specs.declared.reply.Reply.{Reply}
use Rattle.ec_wire.specs.declared.reply.Reply.TheVariants.{Names as NamesReply}
use Rattle.ec_wire.specs.declared.request.Request.{Request}
use Rattle.ec_wire.specs.declared.request.Request.TheVariants.{NamesAfter}
use Rattle.ec_law_causes.proofs.Along.{NonePast, windows}
use Rattle.ec_law_causes.proofs.Members.{grouped_below}
use Rattle.ec_law_causes.proofs.OpeningSteps.{go_same, go_say, queried}
use Rattle.ec_law_causes.proofs.Openings.{HereOpening}
use Rattle.ec_law_causes.proofs.Paging.{HerePaging, paging_members}
use Rattle.ec_law_causes.proofs.Queried.{JudgedIn, judged}
use Rattle.ec_law_causes.proofs.Ranks.{rank}
use Rattle.ec_law_causes.proofs.Readdir.{HereReaddir}
use Rattle.ec_law_causes.proofs.Walking.{some_below}
use Rattle.ec_law_settled.proofs.Waking.{Someone, Wakes}
use Rattle.ec_law_settled.proofs.WakingMembers.{asked_where, less}
use Rattle.ec_law_settled.proofs.WakingNames.{grouped_some}
use Rattle.ec_law_settled.proofs.WakingOpenings.{first_someone, lock_someone}
use Rattle.ec_law_settled.proofs.WakingServes.{Serves, all_unlocked, group_serves, serves_on}

abbrev HasPage : Given → Account → ℕ → Type 0
HasPage given c y = is_some (page_in (last_reply (windows given c y))) ≡ true

-- a brick of the group whose last reply is a page did all it was asked
abbrev pub PagesServe : Given → ℕ → Account → Type 0
PagesServe given bricks c = (y : ℕ) → is_in bricks y ≡ true → HasPage given c y → Serves given c y

abbrev pub MoreReaddir : Given → ReaddirStage → Account → Type 0
MoreReaddir given (Names bricks past list) c = PagesServe given bricks c
MoreReaddir given stage c = Unit {0}

abbrev Woken : Given → ReaddirStage → Account → Account → Type 0
Woken given q d e = Someone given (readdir_asks q d) × MoreReaddir given q e

page_done : (o : Option Reply) → is_some (page_in o) ≡ true → is_done o ≡ true
page_done (Some (NamesReply page)) e = refl
page_done o e = absurd (let v : false ≡ true = e in cc)

paged_parts : (t : Bool) (o : Option Page) → is_some (cond t o None) ≡ true → (t ≡ true) × (is_some o ≡ true)
paged_parts true o e = (refl, e)
paged_parts false o e = absurd (cc)

grant_some : (o : Option ℕ) (q : ℕ → Request) → is_some o ≡ true → is_some (under_grant o q) ≡ true
grant_some None q e = absurd (cc)
grant_some (Some grant) q e = refl

-- a brick of the set that serves is asked
names_someone : (given : Given) (bricks : ℕ) (past : Option (List ℕ)) (d : Account) → d.given ≡ given → (y : ℕ) → y < bricks_of given → is_in bricks y ≡ true → Serves given d y → Someone given (names_asks bricks past d)
names_someone given bricks past d dg y lt t s = (
  y,
  lt,
  asked_where (is_in bricks y) (nat_lt y (bricks_of d.given)) (under_grant (serving (at d (subject d.given.op) y)) (λ grant. NamesAfter (record { 0 = subject d.given.op }) grant past)) t (ap (λ (v : Given). nat_lt y (bricks_of v)) dg ∙ less y (bricks_of given) lt)
      (grant_some (serving (at d (subject d.given.op) y)) (λ grant. NamesAfter (record { 0 = subject d.given.op }) grant past) (ap (λ (v : Given). is_some (serving (at d (subject v.op) y))) dg ∙ s)),
)

-- a round of names is over
pages_serve : (given : Given) (group : Group) (c : Account) (f : Asks) (d : Account) → HerePaging given group c f → IsRound (subject given.op) c f d → IsIdle d → NonePast (subject given.op) (bricks_of given) d → PagesServe given group.bricks c → PagesServe given group.bricks d
pages_serve given group c f d h r idle none more y t page = by (serving (at c (subject given.op) y)) refl
  where
    lt : y < bricks_of given
    lt = grouped_below given (windows given d) y (λ z le. (none z le).1) ((paging_members given group c f d h r idle none).group_is.bricks y ∙ t)

    unserved : (o : Option ℕ) → o ≡ None → is_some o ≡ true → ⊥
    unserved None e s = absurd (cc)
    unserved (Some i) e s = absurd (cc)

    by : (o : Option ℕ) → serving (at c (subject given.op) y) ≡ o → Serves given d y
    by None e =
        let kept : at d (subject given.op) y ≡ at c (subject given.op) y = (subst (λ (q : Option Request). IsInRound q (at c (subject given.op) y) (d.waits y) (at d (subject given.op) y)) (h.unasked y e) (r.each y)).1 in
        absurd (unserved (serving (at c (subject given.op) y)) e (more y t (sym (ap (λ (p : PlaceOf). is_some (page_in (last_reply p.window))) kept) ∙ page)))
    by (Some i) e =
        let a = h.asked y i t lt e in
        let late : 2 ≤ rank a.0 = (let m = (h.asks y a.0 a.1).1 in omega (arith, m)) in
        serves_on given c f d y a.0 a.1 late r idle (ap is_some e) (page_done (last_reply (windows given d y)) page)

module _ (x : Ctx) (given : Given) (c : Account) (f : Asks) (d e : Account) (isin : IsIn x given c) (none : NonePast (subject given.op) (bricks_of given) d) (r : IsRound (subject given.op) c f d) (idle : IsIdle d) (u : IsUnlocked (subject given.op) d e) where
  dg : d.given ≡ given
  dg = r.given ∙ isin.given_is

  to : (q p : ReaddirStage) → Go q ≡ Go p → Woken given p d e → Woken given q d e
  to q p is w = subst (λ (z : ReaddirStage). Woken given z d e) (sym (go_same q p is)) w

  -- the Queries are over
  query_someone : (q : ReaddirStage) (grouped : Grouped) → HereOpening Shared given Query c f → InOpening Shared Query c f → JudgedIn given (windows given d) (λ answer. ⊥) grouped → ReaddirJudges d grouped (Go q) → Woken given q d e
  query_someone q (Found group) here l h is = by group.head.kind is
    where
      by : (kind : Kind) → Go q ≡ of_kind kind group.bricks → Woken given q d e
      by File k = absurd (go_say q NotDir k)
      by Dir k =
          let all = group_serves Shared given c f d isin.given_is l here r idle none group h in
          let y = grouped_some given (windows given d) group.head h.head in
          let t : is_in group.bricks y.0 ≡ true = sym (h.bricks y.0) ∙ y.2 in
          to q (Names group.bricks None []) k (names_someone given group.bricks None d dg y.0 y.1 t (all y.0 t), λ z s page. all_unlocked given group.bricks d e u all z s)
  query_someone q (Gone bricks) here l h is = absurd (go_say q NoSuch is)
  query_someone q (Fewer most) here l h is = absurd (go_say q (NoQuorum QueryPhase most) is)

  -- names were asked for
  module _ (bricks : ℕ) (past : Option (List ℕ)) (list : Entries) (q : ReaddirStage) (here : HereReaddir given (Names bricks past list) c f) (more : PagesServe given bricks c) where
    serve : PagesServe given bricks d
    serve = subst (λ (bits : ℕ). PagesServe given bits d) here.1 (pages_serve given here.0 c f d here.3 r idle none (subst (λ (bits : ℕ). PagesServe given bits c) (sym here.1) more))

    -- K bricks replied a page
    next_someone : (name : Option (List ℕ)) → quorum_of given ≤ count_paged (paged bricks (replied d (subject given.op))) → Someone given (names_asks bricks name d)
    next_someone name enough =
        let y = some_below 31 (λ z. is_some (paged bricks (replied d (subject given.op)) z)) (let m = given.geometry.majority in omega (arith, enough, m)) in
        let w = paged_parts (is_in bricks y.0) (page_in (replied d (subject given.op) y.0)) y.2 in
        let t : is_in here.0.bricks y.0 ≡ true = ap (λ (bits : ℕ). is_in bits y.0) here.1 ∙ w.0 in
        let lt = grouped_below given (windows given d) y.0 (λ z le. (none z le).1) ((paging_members given here.0 c f d here.3 r idle none).group_is.bricks y.0 ∙ t) in
        names_someone given bricks name d dg y.0 lt w.0 (serve y.0 w.0 w.1)

    names_goes : ReaddirFollows (Names bricks past list) d (Go q) → Woken given q d e
    names_goes (inl (few, is)) = absurd (go_say q (NoQuorum NamesPhase (count_paged (paged bricks (replied d (subject d.given.op))))) is)
    names_goes (inr (enough, upto, part, told, parts, is)) = by upto is
      where
        by : (o : Option (List ℕ)) → Go q ≡ goes_on bricks o (list ++ part) → Woken given q d e
        by None i = absurd (go_say q (NamesAre (list ++ part)) i)
        by (Some name) i = to q (Names bricks (Some name) (list ++ part)) i (
          next_someone (Some name) (subst (λ (v : Given). quorum_of v ≤ count_paged (paged bricks (replied d (subject v.op)))) dg enough),
          λ y t page. ap is_some (unlocked_serving (subject given.op) y d e u) ∙ serve y t (sym (ap (λ es. is_some (page_in (last_reply es))) (u.window y)) ∙ page),
        )

pub readdir_wakes : (x : Ctx) → Wakes x readdir_table DuringReaddir HereReaddir MoreReaddir
readdir_wakes x = record {
  begins = λ given q of s. first_someone OpensAt Shared ReaddirJudges readdir_asks MoreReaddir (λ o c. refl) (λ v o c. tt) given q (go_same q (OpensAt (Locking 0)) s.1);
  goes = λ given p q c f d e isin none dur here more r idle follows u dur' here'. go given p q c f d e isin none dur.1 here more r idle follows u;
}
  where
    go : (given : Given) (p q : ReaddirStage) (c : Account) (f : Asks) (d e : Account) → IsIn x given c → NonePast (subject given.op) (bricks_of given) d → InReaddir p c f → HereReaddir given p c f → MoreReaddir given p c → IsRound (subject given.op) c f d → IsIdle d
        → ReaddirFollows p d (Go q) → IsUnlocked (subject given.op) d e → Woken given q d e
    go given (OpensAt (Locking brick)) q c f d e isin none dur here more r idle follows u = lock_someone OpensAt Shared ReaddirJudges readdir_asks MoreReaddir (λ o a. refl) (λ v o c. tt) given brick d e q (r.given ∙ isin.given_is) follows
    go given (OpensAt Query) q c f d e isin none dur here more r idle (grouped, comes, is) u =
        query_someone x given c f d e isin none r idle u q grouped here dur (judged given d (r.given ∙ isin.given_is) (queried Shared given c f d isin.given_is dur here r idle none) (λ answer. ⊥) grouped comes) is
    go given (Names bricks past list) q c f d e isin none dur here more r idle follows u = names_goes x given c f d e isin none r idle u bricks past list q here more follows
