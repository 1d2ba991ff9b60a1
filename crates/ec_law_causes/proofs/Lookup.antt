-- The causes of the answers of a lookup.
use Rattle.std.proofs.Common.{◌≡◌, inl, inr, ℕ, ◌≤◌, false, true, refl, sym, ◌∙◌, subst, Some, None}
use Rattle.ec_answers.specs.declared.grouped.Group.{Group}
use Rattle.ec_answers.specs.declared.grouped.Grouped.{Grouped}
use Rattle.ec_answers.specs.declared.grouped.Grouped.TheVariants.{Group as Found, Gone, Fewer}
use Rattle.ec_attr.specs.declared.kind.Child.{Child as ChildOf}
use Rattle.ec_attr.specs.declared.kind.Kind.{Kind}
use Rattle.ec_attr.specs.declared.kind.Kind.TheVariants.{Dir, File}
use Rattle.ec_attr.specs.declared.kind.LockKind.TheVariants.{Shared}
use Rattle.ec_conduct.specs.Account.{Account}
use Rattle.ec_conduct.specs.Given.{Given, bricks_of, quorum_of}
use Rattle.ec_conduct.specs.Opened.{opened}
use Rattle.ec_entry.specs.Lookup.{DuringLookup, InLookup, LookupFollows, LookupJudges, found_or_not, lookup_answer, lookup_asks, lookup_table, name_in, of_kind}
use Rattle.ec_entry.specs.Named.{IsNamed, Value, said}
use Rattle.ec_entry.specs.declared.lookup.LookupStage.{LookupStage}
use Rattle.ec_entry.specs.declared.lookup.LookupStage.TheVariants.{Name, Opens as OpensAt}
use Rattle.ec_entry.specs.declared.named.Named.{Named}
use Rattle.ec_entry.specs.declared.named.Named.TheVariants.{Alike, Fewer as FewerOf, Split as SplitOf}
use Rattle.ec_txn.specs.Opening.{InOpening}
use Rattle.ec_txn.specs.Replies.{replied}
use Rattle.ec_txn.specs.Rounds.{Asks, IsIdle, IsRound, IsUnlocked, subject}
use Rattle.ec_txn.specs.Tables.{IsIn}
use Rattle.ec_txn.specs.declared.ctx.Ctx.{Ctx}
use Rattle.ec_txn.specs.declared.opening.Opening.TheVariants.{Lock as Locking, Query}
use Rattle.ec_txn.specs.declared.stage.Next.TheVariants.{Go, Say}
use Rattle.ec_wire.specs.declared.answer.Answer.{Answer}
use Rattle.ec_wire.specs.declared.answer.Answer.TheVariants.{Child, NoQuorum, NoSuch, NotDir}
use Rattle.ec_wire.specs.declared.phase.Phase.TheVariants.{Name as NamePhase, Query as QueryPhase}
use Rattle.ec_law_causes.specs.Causes.{Else, HasNoName, IsOfKind, IsSplit, LeadsTo, lookup_causes}
use Rattle.ec_law_causes.specs.Counted.{FallsShort, Windows, number_named}
use Rattle.ec_law_causes.proofs.Along.{IsKept, NonePast, Tells, windows}
use Rattle.ec_law_causes.proofs.BallotSteps.{no_short}
use Rattle.ec_law_causes.proofs.Members.{members_begin}
use Rattle.ec_law_causes.proofs.Naming.{HereNaming, NamedIn, alike_enough, named_here, naming_begins, naming_members, no_split, one_value}
use Rattle.ec_law_causes.proofs.Openings.{HereOpening, opening_here}
use Rattle.ec_law_causes.proofs.OpeningSteps.{go_same, go_say, lock_goes, lock_says, queried, querying, say_go, say_same}
use Rattle.ec_law_causes.proofs.Queried.{JudgedIn, judged, opens_group}
use Rattle.ec_law_causes.proofs.Stat.{not_file}

abbrev pub HereLookup : Given → LookupStage → Account → Asks → Type 0
HereLookup given (OpensAt stage) c f = HereOpening Shared given stage c f
HereLookup given (Name bricks) c f = (group : Group) × (group.bricks ≡ bricks) × (group.head.kind ≡ Dir) × HereNaming given group c f

-- ## What the causes are

abbrev AfterName : Given → Windows → Answer → Type 0
AfterName given w = Else (FallsShort given w NamePhase) (Else (IsSplit given w) (Else (HasNoName given w) (LeadsTo Child given w)))

abbrev Later : Given → Windows → Answer → Type 0
Later given w = Else (IsOfKind File NotDir given w) (AfterName given w)

none_some : (child : ChildOf) → None ≡ Some child → ⊥
none_some child e = cc

alike_causes : (given : Given) (w : Windows) (value : Value) → quorum_of given ≤ number_named given w value → Else (HasNoName given w) (LeadsTo Child given w) (found_or_not value)
alike_causes given w None le = inl (le, refl)
alike_causes given w (Some child) le = inr (λ other n. none_some child (one_value given w None (Some child) n.0 le), (child, le, refl))

named_causes : (given : Given) (w : Windows) (named : Named) → NamedIn given w named → AfterName given w (lookup_answer named)
named_causes given w (FewerOf most) h = inl h
named_causes given w (Alike value) h = inr (no_short given w NamePhase (alike_enough given w value h), inr (no_split given w value h, alike_causes given w value h))
named_causes given w (SplitOf a b) h = inr (no_short given w NamePhase h.0, inl h.1)

-- ## The Queries are over

module _ (x : Ctx) (given : Given) (c : Account) (f : Asks) (d : Account) (isin : IsIn x given c) (none : NonePast (subject given.op) (bricks_of given) d) (r : IsRound (subject given.op) c f d) (idle : IsIdle d) where
  dg : d.given ≡ given
  dg = r.given ∙ isin.given_is

  query_goes : (q : LookupStage) (e : Account) (grouped : Grouped) (later : Answer → Type 0) → HereOpening Shared given Query c f → InOpening Shared Query c f → JudgedIn given (windows given d) later grouped → LookupJudges d grouped (Go q)
      → IsUnlocked (subject given.op) d e → HereLookup given q e (lookup_asks q d)
  query_goes q e (Found group) later here l h is u = by group.head.kind refl is
    where
      by : (kind : Kind) → group.head.kind ≡ kind → Go q ≡ of_kind kind group.bricks → HereLookup given q e (lookup_asks q d)
      by File k e' = absurd (go_say q NotDir e')
      by Dir k e' = subst (λ (z : LookupStage). HereLookup given z e (lookup_asks z d)) (sym (go_same q (Name group.bricks) e'))
          (group, refl, k, naming_begins given group name_in d e dg (members_begin given Shared group c f d (querying Shared given c f d isin.given_is l here r idle none) here r idle h) u)
  query_goes q e (Gone bricks) later here l h is u = absurd (go_say q NoSuch is)
  query_goes q e (Fewer most) later here l h is u = absurd (go_say q (NoQuorum QueryPhase most) is)

  query_says : (answer : Answer) (grouped : Grouped) → JudgedIn given (windows given d) (Later given (windows given d)) grouped → LookupJudges d grouped (Say answer) → lookup_causes given (windows given d) answer
  query_says answer (Found group) h is = by group.head.kind refl is
    where
      by : (kind : Kind) → group.head.kind ≡ kind → Say answer ≡ of_kind kind group.bricks → lookup_causes given (windows given d) answer
      by File k e = opens_group given (windows given d) group (Later given (windows given d)) answer h (inl (group.head, h.head, k, say_same answer NotDir (Say answer) refl e))
      by Dir k e = absurd (say_go (Name group.bricks) answer e)
  query_says answer (Gone bricks) h is = subst (lookup_causes given (windows given d)) (sym (say_same answer NoSuch (Say answer) refl is)) h
  query_says answer (Fewer most) h is = subst (lookup_causes given (windows given d)) (sym (say_same answer (NoQuorum QueryPhase most) (Say answer) refl is)) h

  -- the name was asked for
  name_says : (bricks : ℕ) (answer : Answer) → HereLookup given (Name bricks) c f → LookupFollows (Name bricks) d (Say answer) → lookup_causes given (windows given d) answer
  name_says bricks answer (group, same, kind, here) (named, is, says) =
      let m = naming_members given group c f d here r idle none in
      let is' = subst (λ (bits : ℕ). IsNamed (quorum_of d.given) (said bits (replied d (subject d.given.op))) named) (sym same) is in
      subst (lookup_causes given (windows given d)) (sym (say_same answer (lookup_answer named) (Say answer) refl says))
      (opens_group given (windows given d) group (Later given (windows given d)) (lookup_answer named) m.group_is (inr (not_file given (windows given d) group.head NotDir m.group_is.head kind, named_causes given (windows given d) named (named_here given group c f d here r idle none named dg is'))))

-- ## The table

pub lookup_kept : (x : Ctx) → IsKept x lookup_table DuringLookup HereLookup
lookup_kept x = record {
  begins = λ given q of s. subst (λ (z : LookupStage). HereLookup given z (opened given) (lookup_asks z (opened given))) (sym (go_same q (OpensAt (Locking 0)) s.1)) (opening_here Shared given of.kept);
  goes = λ given p q c f d e isin none dur here r idle quiet follows isin' u. go given p q c f d e isin none dur.1 here r idle follows u;
  again = λ given p c f d t. absurd (let v : false ≡ true = t in cc);
}
  where
    go : (given : Given) (p q : LookupStage) (c : Account) (f : Asks) (d e : Account) → IsIn x given c → NonePast (subject given.op) (bricks_of given) d → InLookup p c f → HereLookup given p c f → IsRound (subject given.op) c f d → IsIdle d
        → LookupFollows p d (Go q) → IsUnlocked (subject given.op) d e → HereLookup given q e (lookup_asks q d)
    go given (OpensAt (Locking brick)) q c f d e isin none dur here r idle follows u = lock_goes OpensAt Shared LookupJudges given brick c f d isin.given_is (r.given ∙ isin.given_is) dur here r idle lookup_asks HereLookup (λ o a k i. i) (λ o a. refl) q e follows u
    go given (OpensAt Query) q c f d e isin none dur here r idle (grouped, comes, is) u = query_goes x given c f d isin none r idle q e grouped (λ answer. ⊥) here dur (judged given d (r.given ∙ isin.given_is) (queried Shared given c f d isin.given_is dur here r idle none) (λ answer. ⊥) grouped comes) is u
    go given (Name bricks) q c f d e isin none dur here r idle follows u = absurd (go_say q (lookup_answer follows.0) follows.2)

pub lookup_tells : (x : Ctx) → Tells x lookup_table DuringLookup HereLookup lookup_causes
lookup_tells x = record {
  first = λ given answer of s. absurd (say_go (OpensAt (Locking 0)) answer s.1);
  last = λ given p answer c f d isin none dur here r idle quiet follows. last given p answer c f d isin none dur here r idle follows;
}
  where
    last : (given : Given) (p : LookupStage) (answer : Answer) (c : Account) (f : Asks) (d : Account) → IsIn x given c → NonePast (subject given.op) (bricks_of given) d → DuringLookup p c f → HereLookup given p c f → IsRound (subject given.op) c f d → IsIdle d
        → LookupFollows p d (Say answer) → lookup_causes given (windows given d) answer
    last given (OpensAt (Locking brick)) answer c f d isin none dur here r idle follows = lock_says OpensAt Shared LookupJudges given brick c f d isin.given_is (r.given ∙ isin.given_is) dur.1 here r idle (Later given (windows given d)) answer follows
    last given (OpensAt Query) answer c f d isin none dur here r idle (grouped, comes, is) = query_says x given c f d isin none r idle answer grouped (judged given d (r.given ∙ isin.given_is) (queried Shared given c f d isin.given_is dur.1 here r idle none) (Later given (windows given d)) grouped comes) is
    last given (Name bricks) answer c f d isin none dur here r idle follows = name_says x given c f d isin none r idle bricks answer here follows
