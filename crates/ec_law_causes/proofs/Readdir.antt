-- The causes of the answers of a readdir.
use Rattle.std.proofs.Common.{◌≡◌, inl, inr, ℕ, ◌<◌, ◌≤◌, false, true, refl, sym, ◌∙◌, ap, subst, arith, List, [], ◌++◌, Option, Some, None}
use Rattle.ec_answers.specs.declared.grouped.Group.{Group}
use Rattle.ec_answers.specs.declared.grouped.Grouped.{Grouped}
use Rattle.ec_answers.specs.declared.grouped.Grouped.TheVariants.{Group as Found, Gone, Fewer}
use Rattle.ec_attr.specs.declared.kind.Kind.{Kind}
use Rattle.ec_attr.specs.declared.kind.Kind.TheVariants.{Dir, File}
use Rattle.ec_attr.specs.declared.kind.LockKind.TheVariants.{Shared}
use Rattle.ec_conduct.specs.Account.{Account}
use Rattle.ec_conduct.specs.Given.{Given, bricks_of, quorum_of}
use Rattle.ec_conduct.specs.Opened.{opened}
use Rattle.ec_entry.specs.Paging.{Entries, count_paged, paged}
use Rattle.ec_entry.specs.Readdir.{DuringReaddir, InReaddir, ReaddirFollows, ReaddirJudges, goes_on, names_asks, of_kind, readdir_asks, readdir_table}
use Rattle.ec_entry.specs.declared.readdir.ReaddirStage.{ReaddirStage}
use Rattle.ec_entry.specs.declared.readdir.ReaddirStage.TheVariants.{Names, Opens as OpensAt}
use Rattle.ec_txn.specs.Opening.{InOpening}
use Rattle.ec_txn.specs.Replies.{replied}
use Rattle.ec_txn.specs.Rounds.{Asks, IsIdle, IsRound, IsUnlocked, subject}
use Rattle.ec_txn.specs.Tables.{IsIn}
use Rattle.ec_txn.specs.declared.ctx.Ctx.{Ctx}
use Rattle.ec_txn.specs.declared.opening.Opening.TheVariants.{Lock as Locking, Query}
use Rattle.ec_txn.specs.declared.stage.Next.TheVariants.{Go, Say}
use Rattle.ec_wire.specs.declared.answer.Answer.{Answer}
use Rattle.ec_wire.specs.declared.answer.Answer.TheVariants.{Names as NamesAre, NoQuorum, NoSuch, NotDir}
use Rattle.ec_wire.specs.declared.phase.Phase.TheVariants.{Names as NamesPhase, Query as QueryPhase}
use Rattle.ec_law_causes.specs.Causes.{Else, IsNames, IsOfKind, readdir_causes}
use Rattle.ec_law_causes.specs.Counted.{LacksPages, Windows, number}
use Rattle.ec_law_causes.proofs.Along.{IsKept, NonePast, Tells, windows}
use Rattle.ec_law_causes.proofs.BallotSteps.{no_short}
use Rattle.ec_law_causes.proofs.Members.{members_begin}
use Rattle.ec_law_causes.proofs.Openings.{HereOpening, opening_here}
use Rattle.ec_law_causes.proofs.OpeningSteps.{go_same, go_say, lock_goes, lock_says, queried, querying, say_go, say_same}
use Rattle.ec_law_causes.proofs.Paging.{HerePaging, count_pages, lacks_pages, paging_again, paging_begins, paging_members}
use Rattle.ec_law_causes.proofs.Queried.{JudgedIn, judged, opens_group}
use Rattle.ec_law_causes.proofs.Stat.{not_file}

abbrev pub HereReaddir : Given → ReaddirStage → Account → Asks → Type 0
HereReaddir given (OpensAt stage) c f = HereOpening Shared given stage c f
HereReaddir given (Names bricks past list) c f = (group : Group) × (group.bricks ≡ bricks) × (group.head.kind ≡ Dir) × HerePaging given group c f

abbrev Later : Given → Windows → Answer → Type 0
Later given w = Else (IsOfKind File NotDir given w) (Else (LacksPages given w) IsNames)

module _ (x : Ctx) (given : Given) (c : Account) (f : Asks) (d : Account) (isin : IsIn x given c) (none : NonePast (subject given.op) (bricks_of given) d) (r : IsRound (subject given.op) c f d) (idle : IsIdle d) where
  dg : d.given ≡ given
  dg = r.given ∙ isin.given_is

  -- the Queries are over

  query_goes : (q : ReaddirStage) (e : Account) (grouped : Grouped) (later : Answer → Type 0) → HereOpening Shared given Query c f → InOpening Shared Query c f → JudgedIn given (windows given d) later grouped → ReaddirJudges d grouped (Go q)
      → IsUnlocked (subject given.op) d e → HereReaddir given q e (readdir_asks q d)
  query_goes q e (Found group) later here l h is u = by group.head.kind refl is
    where
      by : (kind : Kind) → group.head.kind ≡ kind → Go q ≡ of_kind kind group.bricks → HereReaddir given q e (readdir_asks q d)
      by File k e' = absurd (go_say q NotDir e')
      by Dir k e' =
          let asked = querying Shared given c f d isin.given_is l here r idle none in
          subst (λ (z : ReaddirStage). HereReaddir given z e (readdir_asks z d)) (sym (go_same q (Names group.bricks None []) e'))
          (group, refl, k, paging_begins given Shared group c f d e dg asked r idle (members_begin given Shared group c f d asked here r idle h) u)
  query_goes q e (Gone bricks) later here l h is u = absurd (go_say q NoSuch is)
  query_goes q e (Fewer most) later here l h is u = absurd (go_say q (NoQuorum QueryPhase most) is)

  query_says : (answer : Answer) (grouped : Grouped) → JudgedIn given (windows given d) (Later given (windows given d)) grouped → ReaddirJudges d grouped (Say answer) → readdir_causes given (windows given d) answer
  query_says answer (Found group) h is = by group.head.kind refl is
    where
      by : (kind : Kind) → group.head.kind ≡ kind → Say answer ≡ of_kind kind group.bricks → readdir_causes given (windows given d) answer
      by File k e = opens_group given (windows given d) group (Later given (windows given d)) answer h (inl (group.head, h.head, k, say_same answer NotDir (Say answer) refl e))
      by Dir k e = absurd (say_go (Names group.bricks None []) answer e)
  query_says answer (Gone bricks) h is = subst (readdir_causes given (windows given d)) (sym (say_same answer NoSuch (Say answer) refl is)) h
  query_says answer (Fewer most) h is = subst (readdir_causes given (windows given d)) (sym (say_same answer (NoQuorum QueryPhase most) (Say answer) refl is)) h

  -- names were asked for
  module _ (bricks : ℕ) (past : Option (List ℕ)) (list : Entries) (here : HereReaddir given (Names bricks past list) c f) where
    names_goes : (q : ReaddirStage) (e : Account) → ReaddirFollows (Names bricks past list) d (Go q) → IsUnlocked (subject given.op) d e → HereReaddir given q e (readdir_asks q d)
    names_goes q e (inl (few, is)) u = absurd (go_say q (NoQuorum NamesPhase (count_paged (paged bricks (replied d (subject d.given.op))))) is)
    names_goes q e (inr (enough, upto, part, told, parts, is)) u = by upto is
      where
        by : (o : Option (List ℕ)) → Go q ≡ goes_on bricks o (list ++ part) → HereReaddir given q e (readdir_asks q d)
        by None i = absurd (go_say q (NamesAre (list ++ part)) i)
        by (Some name) i = subst (λ (z : ReaddirStage). HereReaddir given z e (readdir_asks z d)) (sym (go_same q (Names bricks (Some name) (list ++ part)) i)) (
          here.0,
          here.1,
          here.2,
          subst (λ (bits : ℕ). HerePaging given here.0 e (names_asks bits (Some name) d)) here.1 (paging_again given here.0 c f d here.3 r idle none (Some name) e dg u),
        )

    -- as many gave a page as the phase counts
    counted : count_paged (paged bricks (replied d (subject d.given.op))) ≡ number given (windows given d) NamesPhase
    counted =
        ap (λ (v : Given). count_paged (paged bricks (replied d (subject v.op)))) dg
        ∙ (ap (λ (bits : ℕ). count_paged (paged bits (replied d (subject given.op)))) (sym here.1) ∙ count_pages given here.0 c f d here.3 r idle none)

    in_dir : (answer : Answer) → Else (LacksPages given (windows given d)) IsNames answer → readdir_causes given (windows given d) answer
    in_dir answer later =
        let m = paging_members given here.0 c f d here.3 r idle none in
        opens_group given (windows given d) here.0 (Later given (windows given d)) answer m.group_is (inr (not_file given (windows given d) here.0.head NotDir m.group_is.head here.2, later))

    names_says : (answer : Answer) → ReaddirFollows (Names bricks past list) d (Say answer) → readdir_causes given (windows given d) answer
    names_says answer (inl (few, is)) =
        let most = count_paged (paged bricks (replied d (subject d.given.op))) in
        subst (readdir_causes given (windows given d)) (sym (say_same answer (NoQuorum NamesPhase most) (Say answer) refl is))
        (in_dir (NoQuorum NamesPhase most) (inl (lacks_pages given here.0 c f d here.3 r idle none most counted (subst (λ (v : Given). most < quorum_of v) dg few))))
    names_says answer (inr (enough, upto, part, told, parts, is)) = by upto is
      where
        k : quorum_of given ≤ number given (windows given d) NamesPhase
        k = let e = subst (λ (v : Given). quorum_of v ≤ count_paged (paged bricks (replied d (subject d.given.op)))) dg enough in let s = counted in omega (arith, e, s)

        by : (o : Option (List ℕ)) → Say answer ≡ goes_on bricks o (list ++ part) → readdir_causes given (windows given d) answer
        by None i = in_dir answer (inr (λ other l. no_short given (windows given d) NamesPhase k other l.short, (list ++ part, say_same answer (NamesAre (list ++ part)) (Say answer) refl i)))
        by (Some name) i = absurd (say_go (Names bricks (Some name) (list ++ part)) answer i)

-- ## The table

pub readdir_kept : (x : Ctx) → IsKept x readdir_table DuringReaddir HereReaddir
readdir_kept x = record {
  begins = λ given q of s. subst (λ (z : ReaddirStage). HereReaddir given z (opened given) (readdir_asks z (opened given))) (sym (go_same q (OpensAt (Locking 0)) s.1)) (opening_here Shared given of.kept);
  goes = λ given p q c f d e isin none dur here r idle quiet follows isin' u. go given p q c f d e isin none dur.1 here r idle follows u;
  again = λ given p c f d t. absurd (let v : false ≡ true = t in cc);
}
  where
    go : (given : Given) (p q : ReaddirStage) (c : Account) (f : Asks) (d e : Account) → IsIn x given c → NonePast (subject given.op) (bricks_of given) d → InReaddir p c f → HereReaddir given p c f → IsRound (subject given.op) c f d → IsIdle d
        → ReaddirFollows p d (Go q) → IsUnlocked (subject given.op) d e → HereReaddir given q e (readdir_asks q d)
    go given (OpensAt (Locking brick)) q c f d e isin none dur here r idle follows u = lock_goes OpensAt Shared ReaddirJudges given brick c f d isin.given_is (r.given ∙ isin.given_is) dur here r idle readdir_asks HereReaddir (λ o a k i. i) (λ o a. refl) q e follows u
    go given (OpensAt Query) q c f d e isin none dur here r idle (grouped, comes, is) u =
        query_goes x given c f d isin none r idle q e grouped (λ answer. ⊥) here dur (judged given d (r.given ∙ isin.given_is) (queried Shared given c f d isin.given_is dur here r idle none) (λ answer. ⊥) grouped comes) is u
    go given (Names bricks past list) q c f d e isin none dur here r idle follows u = names_goes x given c f d isin none r idle bricks past list here q e follows u

pub readdir_tells : (x : Ctx) → Tells x readdir_table DuringReaddir HereReaddir readdir_causes
readdir_tells x = record {
  first = λ given answer of s. absurd (say_go (OpensAt (Locking 0)) answer s.1);
  last = λ given p answer c f d isin none dur here r idle quiet follows. last given p answer c f d isin none dur.1 here r idle follows;
}
  where
    last : (given : Given) (p : ReaddirStage) (answer : Answer) (c : Account) (f : Asks) (d : Account) → IsIn x given c → NonePast (subject given.op) (bricks_of given) d → InReaddir p c f → HereReaddir given p c f → IsRound (subject given.op) c f d → IsIdle d
        → ReaddirFollows p d (Say answer) → readdir_causes given (windows given d) answer
    last given (OpensAt (Locking brick)) answer c f d isin none dur here r idle follows = lock_says OpensAt Shared ReaddirJudges given brick c f d isin.given_is (r.given ∙ isin.given_is) dur here r idle (Later given (windows given d)) answer follows
    last given (OpensAt Query) answer c f d isin none dur here r idle (grouped, comes, is) =
        query_says x given c f d isin none r idle answer grouped (judged given d (r.given ∙ isin.given_is) (queried Shared given c f d isin.given_is dur here r idle none) (Later given (windows given d)) grouped comes) is
    last given (Names bricks past list) answer c f d isin none dur here r idle follows = names_says x given c f d isin none r idle bricks past list here answer follows
