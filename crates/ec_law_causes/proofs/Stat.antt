-- The causes of the answers of a stat and of a getattr.
use Rattle.std.proofs.Common.{◌≡◌, inl, inr, false, true, refl, sym, ◌∙◌, ap, subst, Some}
use Rattle.ec_answers.specs.declared.grouped.Grouped.{Grouped}
use Rattle.ec_answers.specs.declared.grouped.Grouped.TheVariants.{Group as Found, Gone, Fewer}
use Rattle.ec_attr.specs.declared.head.Head.{Head}
use Rattle.ec_attr.specs.declared.kind.Kind.{Kind}
use Rattle.ec_attr.specs.declared.kind.Kind.TheVariants.{File, Dir}
use Rattle.ec_attr.specs.declared.kind.LockKind.TheVariants.{Shared}
use Rattle.ec_conduct.specs.Account.{Account, at}
use Rattle.ec_conduct.specs.Given.{Given, bricks_of}
use Rattle.ec_conduct.specs.Opened.{opened}
use Rattle.ec_read.specs.Stat.{DuringStat, StatJudges, size_of, stat_answer, stat_table}
use Rattle.ec_entry.specs.GetAttr.{DuringGetAttr, GetAttrJudges, getattr_answer, getattr_table}
use Rattle.ec_txn.specs.Opening.{opening_asks}
use Rattle.ec_txn.specs.Rounds.{Asks, IsIdle, IsRound, IsUnlocked, subject}
use Rattle.ec_txn.specs.declared.ctx.Ctx.{Ctx}
use Rattle.ec_txn.specs.Tables.{IsIn}
use Rattle.ec_txn.specs.declared.opening.Opening.{Opening}
use Rattle.ec_txn.specs.declared.opening.Opening.TheVariants.{Lock as Locking, Query}
use Rattle.ec_txn.specs.declared.stage.Next.TheVariants.{Go, Say}
use Rattle.ec_wire.specs.declared.answer.Answer.{Answer}
use Rattle.ec_wire.specs.declared.answer.Answer.TheVariants.{Attr, IsDir}
use Rattle.ec_law_causes.specs.Causes.{Else, IsOfKind, SaysAttr, SaysSize, getattr_causes, stat_causes}
use Rattle.ec_law_causes.specs.Counted.{Windows, head_in}
use Rattle.ec_law_causes.proofs.Along.{IsKept, NonePast, Tells}
use Rattle.ec_law_causes.proofs.Openings.{HereOpening, opening_here}
use Rattle.ec_law_causes.proofs.OpeningSteps.{go_same, go_say, lock_goes, lock_says, queried, say_go, say_same}
use Rattle.ec_law_causes.proofs.Queried.{JudgedIn, judged, opens_group}

abbrev pub HereStat : Given → Opening → Account → Asks → Type 0
HereStat given stage c f = HereOpening Shared given stage c f

pub stat_kept : (x : Ctx) → IsKept x stat_table DuringStat HereStat
stat_kept x = record {
  begins = λ given q of s. subst (λ (z : Opening). HereStat given z (opened given) (opening_asks Shared z (opened given))) (sym (go_same q (Locking 0) s.1)) (opening_here Shared given of.kept);
  goes = λ given p q c f d e isin none dur here r idle quiet follows isin' u. go given p q c f d e isin none dur here r idle follows u;
  again = λ given p c f d t. absurd (let v : false ≡ true = t in cc);
}
  where
    go : (given : Given) (p q : Opening) (c : Account) (f : Asks) (d e : Account) → IsIn x given c → NonePast (subject given.op) (bricks_of given) d → DuringStat p c f → HereStat given p c f → IsRound (subject given.op) c f d → IsIdle d
        → stat_table.follows p d (Go q) → IsUnlocked (subject given.op) d e → HereStat given q e (opening_asks Shared q d)
    go given (Locking brick) q c f d e isin none dur here r idle follows u = lock_goes (λ o. o) Shared StatJudges given brick c f d isin.given_is (r.given ∙ isin.given_is) dur.1 here r idle (opening_asks Shared) HereStat (λ o a k i. i) (λ o a. refl) q e follows u
    go given Query q c f d e isin none dur here r idle follows u = absurd (go_say q (stat_answer follows.0) follows.2)

-- no record is of two kinds
pub one_head : (given : Given) (w : Windows) (a b : Head) → head_in given w ≡ Some a → head_in given w ≡ Some b → b ≡ a
one_head given w a b e f = some_same b a (sym f ∙ e)
  where
    some_same : {X : Type 0} (a b : X) → Some a ≡ Some b → a ≡ b
    some_same a b e = cc

pub not_dir : (given : Given) (w : Windows) (head : Head) (says : Answer) → head_in given w ≡ Some head → head.kind ≡ File → (other : Answer) → IsOfKind Dir says given w other → ⊥
not_dir given w head says e k other (dir, is, kind, answer) = both (sym k ∙ (ap (λ (h : Head). h.kind) (sym (one_head given w head dir e is)) ∙ kind))
  where
    both : File ≡ Dir → ⊥
    both v = cc

pub not_file : (given : Given) (w : Windows) (head : Head) (says : Answer) → head_in given w ≡ Some head → head.kind ≡ Dir → (other : Answer) → IsOfKind File says given w other → ⊥
not_file given w head says e k other (file, is, kind, answer) = both (sym k ∙ (ap (λ (h : Head). h.kind) (sym (one_head given w head file e is)) ∙ kind))
  where
    both : Dir ≡ File → ⊥
    both v = cc

-- the group's record is a directory, or else the answer is its size
stat_found : (given : Given) (w : Windows) (head : Head) (kind : Kind) → head_in given w ≡ Some head → head.kind ≡ kind → Else (IsOfKind Dir IsDir given w) (SaysSize given w) (size_of kind head)
stat_found given w head Dir e k = inl (head, e, k, refl)
stat_found given w head File e k = inr (not_dir given w head IsDir e k, (head, e, refl))

stat_judged : (given : Given) (w : Windows) (grouped : Grouped) → JudgedIn given w (Else (IsOfKind Dir IsDir given w) (SaysSize given w)) grouped → stat_causes given w (stat_answer grouped)
stat_judged given w (Found group) h = opens_group given w group (Else (IsOfKind Dir IsDir given w) (SaysSize given w)) (size_of group.head.kind group.head) h (stat_found given w group.head group.head.kind h.head refl)
stat_judged given w (Gone bricks) h = h
stat_judged given w (Fewer most) h = h

pub stat_tells : (x : Ctx) → Tells x stat_table DuringStat HereStat stat_causes
stat_tells x = record {
  first = λ given answer of s. absurd (say_go (Locking 0) answer s.1);
  last = λ given p answer c f d isin none dur here r idle quiet follows. last given p answer c f d isin none dur here r idle follows;
}
  where
    last : (given : Given) (p : Opening) (answer : Answer) (c : Account) (f : Asks) (d : Account) → IsIn x given c → NonePast (subject given.op) (bricks_of given) d → DuringStat p c f → HereStat given p c f → IsRound (subject given.op) c f d → IsIdle d
        → stat_table.follows p d (Say answer) → stat_causes given (λ y. (at d (subject given.op) y).window) answer
    last given (Locking brick) answer c f d isin none dur here r idle follows = lock_says (λ o. o) Shared StatJudges given brick c f d isin.given_is (r.given ∙ isin.given_is) dur.1 here r idle (Else (IsOfKind Dir IsDir given (λ y. (at d (subject given.op) y).window)) (SaysSize given (λ y. (at d (subject given.op) y).window))) answer follows
    last given Query answer c f d isin none dur here r idle (grouped, comes, is) =
        let dg = r.given ∙ isin.given_is in
        let q = queried Shared given c f d isin.given_is dur.1 here r idle none in
        subst (λ (a : Answer). stat_causes given (λ y. (at d (subject given.op) y).window) a) (sym (say_same answer (stat_answer grouped) (Say answer) refl is)) (stat_judged given (λ y. (at d (subject given.op) y).window) grouped (judged given d dg q (Else (IsOfKind Dir IsDir given (λ y. (at d (subject given.op) y).window)) (SaysSize given (λ y. (at d (subject given.op) y).window))) grouped comes))

-- ## A getattr

pub getattr_kept : (x : Ctx) → IsKept x getattr_table DuringGetAttr HereStat
getattr_kept x = record {
  begins = λ given q of s. subst (λ (z : Opening). HereStat given z (opened given) (opening_asks Shared z (opened given))) (sym (go_same q (Locking 0) s.1)) (opening_here Shared given of.kept);
  goes = λ given p q c f d e isin none dur here r idle quiet follows isin' u. go given p q c f d e isin none dur here r idle follows u;
  again = λ given p c f d t. absurd (let v : false ≡ true = t in cc);
}
  where
    go : (given : Given) (p q : Opening) (c : Account) (f : Asks) (d e : Account) → IsIn x given c → NonePast (subject given.op) (bricks_of given) d → DuringGetAttr p c f → HereStat given p c f → IsRound (subject given.op) c f d → IsIdle d
        → getattr_table.follows p d (Go q) → IsUnlocked (subject given.op) d e → HereStat given q e (opening_asks Shared q d)
    go given (Locking brick) q c f d e isin none dur here r idle follows u = lock_goes (λ o. o) Shared GetAttrJudges given brick c f d isin.given_is (r.given ∙ isin.given_is) dur.1 here r idle (opening_asks Shared) HereStat (λ o a k i. i) (λ o a. refl) q e follows u
    go given Query q c f d e isin none dur here r idle follows u = absurd (go_say q (getattr_answer follows.0) follows.2)

getattr_judged : (given : Given) (w : Windows) (grouped : Grouped) → JudgedIn given w (SaysAttr given w) grouped → getattr_causes given w (getattr_answer grouped)
getattr_judged given w (Found group) h = opens_group given w group (SaysAttr given w) (Attr group.head.attr) h (group.head, h.head, refl)
getattr_judged given w (Gone bricks) h = h
getattr_judged given w (Fewer most) h = h

pub getattr_tells : (x : Ctx) → Tells x getattr_table DuringGetAttr HereStat getattr_causes
getattr_tells x = record {
  first = λ given answer of s. absurd (say_go (Locking 0) answer s.1);
  last = λ given p answer c f d isin none dur here r idle quiet follows. last given p answer c f d isin none dur here r idle follows;
}
  where
    last : (given : Given) (p : Opening) (answer : Answer) (c : Account) (f : Asks) (d : Account) → IsIn x given c → NonePast (subject given.op) (bricks_of given) d → DuringGetAttr p c f → HereStat given p c f → IsRound (subject given.op) c f d → IsIdle d
        → getattr_table.follows p d (Say answer) → getattr_causes given (λ y. (at d (subject given.op) y).window) answer
    last given (Locking brick) answer c f d isin none dur here r idle follows = lock_says (λ o. o) Shared GetAttrJudges given brick c f d isin.given_is (r.given ∙ isin.given_is) dur.1 here r idle (SaysAttr given (λ y. (at d (subject given.op) y).window)) answer follows
    last given Query answer c f d isin none dur here r idle (grouped, comes, is) =
        let dg = r.given ∙ isin.given_is in
        let q = queried Shared given c f d isin.given_is dur.1 here r idle none in
        subst (λ (a : Answer). getattr_causes given (λ y. (at d (subject given.op) y).window) a) (sym (say_same answer (getattr_answer grouped) (Say answer) refl is)) (getattr_judged given (λ y. (at d (subject given.op) y).window) grouped (judged given d dg q (SaysAttr given (λ y. (at d (subject given.op) y).window)) grouped comes))
