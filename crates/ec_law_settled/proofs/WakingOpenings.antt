-- How each call begins: a brick is asked for its lock, one after another, and then those that granted it for their heads.
use Rattle.std.proofs.Common.{◌≡◌, ◌⊎◌, inl, inr, ℕ, ◌+◌, ◌<◌, ◌≤◌, ◌==◌, nat_le, nat_lt, is_some, Bool, true, false, cond, refl, sym, ◌∙◌, subst, arith, Option, Some, None}
use Rattle.std.proofs.lemmas.Bool.Decides.{nat_tests}
use Rattle.ec_answers.specs.declared.grouped.Grouped.{Grouped}
use Rattle.ec_attr.specs.declared.kind.Domain.TheVariants.{Inode}
use Rattle.ec_attr.specs.declared.kind.LockKind.{LockKind}
use Rattle.ec_attr.specs.declared.kind.LockKind.TheVariants.{Shared}
use Rattle.ec_conduct.specs.Account.{Account, Lock, at}
use Rattle.ec_conduct.specs.Given.{Given, bricks_of, quorum_of}
use Rattle.ec_conduct.specs.Opened.{opened}
use Rattle.ec_conduct.specs.Standing.{is_held}
use Rattle.ec_entry.specs.GetAttr.{DuringGetAttr, GetAttrJudges, getattr_answer, getattr_table}
use Rattle.ec_read.specs.Stat.{DuringStat, StatJudges, stat_answer, stat_table}
use Rattle.ec_txn.specs.Opening.{OpeningFollows, count_locks, opening_asks, query_of}
use Rattle.ec_txn.specs.Rounds.{Asks, IsRound, subject}
use Rattle.ec_txn.specs.Tables.{IsIn}
use Rattle.ec_txn.specs.declared.ctx.Ctx.{Ctx}
use Rattle.ec_txn.specs.declared.opening.Opening.{Opening}
use Rattle.ec_txn.specs.declared.opening.Opening.TheVariants.{Lock as Locking, Query}
use Rattle.ec_txn.specs.declared.stage.Next.{Next}
use Rattle.ec_txn.specs.declared.stage.Next.TheVariants.{Go, Say}
use Rattle.ec_wire.specs.declared.answer.Answer.{Answer}
use Rattle.ec_wire.specs.declared.request.Request.{Request}
use Rattle.ec_wire.specs.declared.request.Request.TheVariants.{Ask, Query as QueryOf}
use Rattle.ec_law_causes.proofs.OpeningSteps.{go_same, go_say}
use Rattle.ec_law_causes.proofs.Stat.{HereStat}
use Rattle.ec_law_causes.proofs.Walking.{some_below}
use Rattle.ec_law_settled.proofs.Places.{itself}
use Rattle.ec_law_settled.proofs.Waking.{Someone, Wakes}

pub when : (t : Bool) (o : Option Request) → t ≡ true → is_some o ≡ true → is_some (cond t o None) ≡ true
when true o e h = h
when false o e h = absurd (cc)

-- the brick whose turn it is
pub locking_someone : (kind : LockKind) (given : Given) (brick : ℕ) (c : Account) → brick < bricks_of given → Someone given (opening_asks kind (Locking brick) c)
locking_someone kind given brick c lt = (brick, lt, when (brick == brick) (Some (Ask (record { 0 = subject c.given.op }) Inode kind)) (itself brick) refl)

held_asked : (g : ℕ) (o : Option Lock) → is_held o ≡ true → is_some (query_of g o) ≡ true
held_asked g None e = absurd (cc)
held_asked g (Some lock) e = when lock.granted (Some (QueryOf (record { 0 = g }) lock.number)) e refl

-- a brick that granted
pub query_someone : (kind : LockKind) (given : Given) (c : Account) → c.given ≡ given → quorum_of c.given ≤ count_locks c (subject c.given.op) → Someone given (opening_asks kind Query c)
query_someone kind given c cg le =
    let some = some_below (bricks_of c.given) (λ x. is_held (at c (subject c.given.op) x).inode) (let m = c.given.geometry.majority in omega (arith, le, m)) in
    (some.0, let l = some.1 in subst (λ (v : Given). some.0 < bricks_of v) cg l, when (nat_lt some.0 (bricks_of c.given)) (query_of (subject c.given.op) (at c (subject c.given.op) some.0).inode) (less some.0 (bricks_of c.given) some.1) (held_asked (subject c.given.op) (at c (subject c.given.op) some.0).inode some.2))
  where
    less : (a b : ℕ) → a < b → nat_lt a b ≡ true
    less a b l = grind (arith, nat_tests)

goes_by : {P : Type 0} (a b : Bool) (p r q : P) (s : Answer) → Go q ≡ cond a (Go p) (cond b (Go r) (Say s)) → ((a ≡ true) × (q ≡ p)) ⊎ ((b ≡ true) × (q ≡ r))
goes_by true b p r q s e = inl (refl, go_same q p e)
goes_by false true p r q s e = inr (refl, go_same q r e)
goes_by false false p r q s e = absurd (go_say q s e)

-- nothing more is kept
abbrev pub NoMore : {P : Type 0} → Given → P → Account → Type 0
NoMore {P} given p c = Unit {0}

module _ {P : Type 0} (into : Opening → P) (kind : LockKind) (judges : Account → Grouped → Next P → Type 0) (asks : P → Account → Asks) (more : Given → P → Account → Type 0) (same : (o : Opening) (c : Account) → asks (into o) c ≡ opening_asks kind o c)
    (free : (given : Given) (o : Opening) (c : Account) → more given (into o) c) (given : Given) where
  abbrev Woken : P → Account → Account → Type 0
  Woken q d e = Someone given (asks q d) × more given q e

  pub first_someone : (q : P) → q ≡ into (Locking 0) → Woken q (opened given) (opened given)
  first_someone q e = subst (λ (z : P). Woken z (opened given) (opened given)) (sym e) (subst (Someone given) (sym (same (Locking 0) (opened given))) (locking_someone kind given 0 (opened given) (let m = given.geometry.least in omega arith)), free given (Locking 0) (opened given))

  pub lock_someone : (brick : ℕ) (d e : Account) (q : P) → d.given ≡ given → OpeningFollows into judges (Locking brick) d (Go q) → Woken q d e
  lock_someone brick d e q dg follows = elim (goes_by (nat_lt (brick + 1) (bricks_of d.given)) (nat_le (quorum_of d.given) (count_locks d (subject d.given.op))) (into (Locking (brick + 1))) (into Query) q _ follows) [
    | inl w ↦ subst (λ (z : P). Woken z d e) (sym w.1) (subst (Someone given) (sym (same (Locking (brick + 1)) d)) (locking_someone kind given (brick + 1) d (subst (λ (v : Given). brick + 1 < bricks_of v) dg (less (brick + 1) (bricks_of d.given) w.0))), free given (Locking (brick + 1)) e)
    | inr w ↦ subst (λ (z : P). Woken z d e) (sym w.1) (subst (Someone given) (sym (same Query d)) (query_someone kind given d dg (at_most (quorum_of d.given) (count_locks d (subject d.given.op)) w.0)), free given Query e)
  ]
    where
      less : (a b : ℕ) → nat_lt a b ≡ true → a < b
      less a b e = grind (arith, nat_tests)

      at_most : (a b : ℕ) → nat_le a b ≡ true → a ≤ b
      at_most a b e = grind (arith, nat_tests)

-- ## A stat and a getattr

pub stat_wakes : (x : Ctx) → Wakes x stat_table DuringStat HereStat NoMore
stat_wakes x = record {
  begins = λ given q of s. first_someone (λ o. o) Shared StatJudges (opening_asks Shared) NoMore (λ o c. refl) (λ v o c. tt) given q (go_same q (Locking 0) s.1);
  goes = λ given p q c f d e isin none dur here more r idle follows u dur' here'. go given p q c f d e isin r follows;
}
  where
    go : (given : Given) (p q : Opening) (c : Account) (f : Asks) (d e : Account) → IsIn x given c → IsRound (subject given.op) c f d → stat_table.follows p d (Go q) → Someone given (opening_asks Shared q d) × Unit {0}
    go given (Locking brick) q c f d e isin r follows = lock_someone (λ o. o) Shared StatJudges (opening_asks Shared) NoMore (λ o a. refl) (λ v o c. tt) given brick d e q (r.given ∙ isin.given_is) follows
    go given Query q c f d e isin r follows = absurd (go_say q (stat_answer follows.0) follows.2)

pub getattr_wakes : (x : Ctx) → Wakes x getattr_table DuringGetAttr HereStat NoMore
getattr_wakes x = record {
  begins = λ given q of s. first_someone (λ o. o) Shared GetAttrJudges (opening_asks Shared) NoMore (λ o c. refl) (λ v o c. tt) given q (go_same q (Locking 0) s.1);
  goes = λ given p q c f d e isin none dur here more r idle follows u dur' here'. go given p q c f d e isin r follows;
}
  where
    go : (given : Given) (p q : Opening) (c : Account) (f : Asks) (d e : Account) → IsIn x given c → IsRound (subject given.op) c f d → getattr_table.follows p d (Go q) → Someone given (opening_asks Shared q d) × Unit {0}
    go given (Locking brick) q c f d e isin r follows = lock_someone (λ o. o) Shared GetAttrJudges (opening_asks Shared) NoMore (λ o a. refl) (λ v o c. tt) given brick d e q (r.given ∙ isin.given_is) follows
    go given Query q c f d e isin r follows = absurd (go_say q (getattr_answer follows.0) follows.2)
