-- A read waits for a brick in each stage.
use Rattle.std.proofs.Common.{◌≡◌, inl, inr, ℕ, ◌^◌, ◌<◌, ◌==◌, nat_lt, Bool, true, false, cond, refl, sym, ◌∙◌, subst, arith, []}
use Rattle.std.proofs.Math.Path.{fun_ext}
use Rattle.std.proofs.lemmas.Bool.{and_parts}
use Rattle.std.proofs.lemmas.Bool.Decides.{nat_tests}
use Rattle.ec_answers.specs.declared.grouped.Grouped.{Grouped}
use Rattle.ec_answers.specs.declared.grouped.Grouped.TheVariants.{Group as Found, Gone, Fewer}
use Rattle.ec_attr.specs.Bricks.{count_below, is_in}
use Rattle.ec_attr.specs.declared.kind.Kind.{Kind}
use Rattle.ec_attr.specs.declared.kind.Kind.TheVariants.{File, Dir}
use Rattle.ec_attr.specs.declared.kind.LockKind.TheVariants.{Shared}
use Rattle.ec_conduct.specs.Account.{Account}
use Rattle.ec_conduct.specs.Given.{Given, bricks_of}
use Rattle.ec_read.specs.Read.{DuringRead, Judges, InRead, OfKind, ReadFollows, ReadJudges, first_of, is_named, len_in, read_asks, read_of, read_table, reading_of, via_in}
use Rattle.ec_read.specs.declared.read.ReadStage.{ReadStage}
use Rattle.ec_read.specs.declared.read.ReadStage.TheVariants.{Opens as OpensAt, Reads}
use Rattle.ec_txn.specs.Opening.{InOpening}
use Rattle.ec_txn.specs.ReadPhase.{is_done, places_of, reading_asks}
use Rattle.ec_txn.specs.Replies.{replied}
use Rattle.ec_txn.specs.Rounds.{Asks, IsIdle, IsRound, IsUnlocked, subject}
use Rattle.ec_txn.specs.Tables.{IsIn}
use Rattle.ec_txn.specs.declared.ctx.Ctx.{Ctx}
use Rattle.ec_txn.specs.declared.opening.Opening.TheVariants.{Lock as Locking, Query}
use Rattle.ec_txn.specs.declared.stage.Next.TheVariants.{Go, Say}
use Rattle.ec_wire.specs.declared.answer.Answer.TheVariants.{Bytes, IsDir, NoQuorum, NoSuch, TooLong}
use Rattle.ec_wire.specs.declared.phase.Phase.TheVariants.{Query as QueryPhase, Read as ReadPhase}
use Rattle.ec_law_causes.specs.Counted.{Windows, is_grouped}
use Rattle.ec_law_causes.proofs.Along.{NonePast, windows}
use Rattle.ec_law_causes.proofs.OpeningSteps.{go_same, go_say, querying}
use Rattle.ec_law_causes.proofs.Openings.{HereOpening}
use Rattle.ec_law_causes.proofs.Read.{HereRead}
use Rattle.ec_law_causes.proofs.Walking.{some_below}
use Rattle.ec_law_settled.proofs.Waking.{Someone, Wakes}
use Rattle.ec_law_settled.proofs.WakingOpenings.{NoMore, first_someone, lock_someone}
use Rattle.ec_law_settled.proofs.WakingReading.{reading_someone}
use Rattle.ec_law_settled.proofs.WakingServes.{queried_serve}

first_goes : (len : ℕ) (q : ReadStage) → Go q ≡ first_of len → q ≡ OpensAt (Locking 0)
first_goes len q e = by (nat_lt (2 ^ 20) len) e
  where
    by : (t : Bool) → Go q ≡ cond t (Say (TooLong len)) (Go (OpensAt (Locking 0))) → q ≡ OpensAt (Locking 0)
    by true e = absurd (go_say q (TooLong len) e)
    by false e = go_same q (OpensAt (Locking 0)) e

-- a set of no bricks isn't read
read_goes : (among size : ℕ) (q : ReadStage) → Go q ≡ read_of among size → (0 < count_below 31 (is_in among)) × (q ≡ Reads among size)
read_goes among size q e = by (count_below 31 (is_in among) == 0) refl e
  where
    by : (t : Bool) → (count_below 31 (is_in among) == 0) ≡ t → Go q ≡ cond t (Say (NoQuorum ReadPhase 0)) (Go (Reads among size)) → (0 < count_below 31 (is_in among)) × (q ≡ Reads among size)
    by true t e = absurd (go_say q (NoQuorum ReadPhase 0) e)
    by false t e = ((let u = t in grind (arith, nat_tests)), go_same q (Reads among size) e)

module _ (x : Ctx) (given : Given) (c : Account) (f : Asks) (d e : Account) (isin : IsIn x given c) (none : NonePast (subject given.op) (bricks_of given) d) (r : IsRound (subject given.op) c f d) (idle : IsIdle d) (u : IsUnlocked (subject given.op) d e) where
  dg : d.given ≡ given
  dg = r.given ∙ isin.given_is

  reads_someone : (among size : ℕ) → HereOpening Shared given Query c f → InOpening Shared Query c f → HereRead x given (Reads among size) e (read_asks x (Reads among size) d) → 0 < count_below 31 (is_in among) → Someone given (read_asks x (Reads among size) d)
  reads_someone among size here l new some =
      let h = new.0 in
      let y = some_below 31 (is_in among) some in
      let within : (z : ℕ) → z < 31 → is_in among z ≡ true → is_in h.group.bricks z ≡ true = λ (z : ℕ) (lt : z < 31) (t : is_in among z ≡ true). (and_parts (is_in h.group.bricks z) (is_named (via_in given.op) z) (sym (h.among_are z lt) ∙ t)).0 in
      let grouped : is_grouped given (windows given d) y.0 ≡ true = subst (λ (w : Windows). is_grouped given w y.0 ≡ true) (fun_ext u.window) (h.reading.members.group_is.bricks y.0 ∙ within y.0 y.1 y.2) in
      let serves = queried_serve given Shared c f d (querying Shared given c f d isin.given_is l here r idle none) r idle y.0 grouped in
      subst (λ (v : Given). Someone given (reading_asks (reading_of x v among size) d)) (sym dg)
      (reading_someone given h.group 4 (reading_of x given among size) d e _ dg idle none u h.reading within y.0 y.1 y.2 serves)

  query_someone : (q : ReadStage) (grouped : Grouped) → HereOpening Shared given Query c f → InOpening Shared Query c f → HereRead x given q e (read_asks x q d) → Judges d.given.op grouped (Go q) → Someone given (read_asks x q d)
  query_someone q (Found group) here l new is = by group.head.kind is
    where
      by : (kind : Kind) → OfKind kind d.given.op group (Go q) → Someone given (read_asks x q d)
      by Dir k = absurd (go_say q IsDir k)
      by File (inl v) = absurd (go_say q (Bytes []) v.1)
      by File (inr (some, among, are, v)) =
          let w = read_goes among group.head.size q v in
          subst (λ (z : ReadStage). Someone given (read_asks x z d)) (sym w.1) (reads_someone among group.head.size here l (subst (λ (z : ReadStage). HereRead x given z e (read_asks x z d)) w.1 new) w.0)
  query_someone q (Gone bricks) here l new is = absurd (go_say q NoSuch is)
  query_someone q (Fewer most) here l new is = absurd (go_say q (NoQuorum QueryPhase most) is)

pub read_wakes : (x : Ctx) → Wakes x (read_table x) (DuringRead x) (HereRead x) NoMore
read_wakes x = record {
  begins = λ given q of s. first_someone OpensAt Shared ReadJudges (read_asks x) NoMore (λ o c. refl) (λ v o c. tt) given q (first_goes (len_in given.op) q s.1);
  goes = λ given p q c f d e isin none dur here more r idle follows u dur' here'. go given p q c f d e isin none dur.1 here r idle follows u here';
}
  where
    go : (given : Given) (p q : ReadStage) (c : Account) (f : Asks) (d e : Account) → IsIn x given c → NonePast (subject given.op) (bricks_of given) d → InRead x p c f → HereRead x given p c f → IsRound (subject given.op) c f d → IsIdle d
        → ReadFollows x p d (Go q) → IsUnlocked (subject given.op) d e → HereRead x given q e (read_asks x q d) → Someone given (read_asks x q d) × Unit {0}
    go given (OpensAt (Locking brick)) q c f d e isin none dur here r idle follows u new = lock_someone OpensAt Shared ReadJudges (read_asks x) NoMore (λ o a. refl) (λ v o c. tt) given brick d e q (r.given ∙ isin.given_is) follows
    go given (OpensAt Query) q c f d e isin none dur here r idle (grouped, comes, is) u new = (query_someone x given c f d e isin none r idle u q grouped here.0 dur new is, tt)
    go given (Reads among size) q c f d e isin none dur here r idle (inl (few, v)) u new = absurd (go_say q (NoQuorum ReadPhase (count_below 31 (is_done (reading_of x d.given among size) (places_of d (subject d.given.op)) (replied d (subject d.given.op))))) v)
    go given (Reads among size) q c f d e isin none dur here r idle (inr (bytes, gave, v)) u new = absurd (go_say q (Bytes bytes) v)
