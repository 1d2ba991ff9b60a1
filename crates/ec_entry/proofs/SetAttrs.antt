-- How a setattr opens, in its own stages.
use Rattle.std.proofs.Common.{◌≡◌, refl, ◌∙◌, ap, ℕ, ◌+◌, Bool, true, false, cond, nat_lt, nat_le}
use Rattle.ec_conduct.specs.Account.{Account}
use Rattle.ec_conduct.specs.Given.{bricks_of, quorum_of}
use Rattle.ec_txn.specs.declared.opening.Opening.{Opening}
use Rattle.ec_txn.specs.declared.opening.Opening.TheVariants.{Lock, Query}
use Rattle.ec_txn.specs.declared.stage.Next.{Next}
use Rattle.ec_txn.specs.declared.stage.Next.TheVariants.{Go, Say}
use Rattle.ec_txn.specs.Opening.{OpeningFollows, count_locks}
use Rattle.ec_txn.specs.Rounds.{subject}
use Rattle.ec_wire.specs.declared.answer.Answer.{Answer}
use Rattle.ec_wire.specs.declared.answer.Answer.TheVariants.{NoQuorum}
use Rattle.ec_wire.specs.declared.phase.Phase.TheVariants.{Lock as LockPhase}
use Rattle.ec_entry.specs.SetAttr.{SetAttrJudges, opens}
use Rattle.ec_entry.specs.declared.setattr.SetAttrStage.{SetAttrStage}
use Rattle.ec_entry.specs.declared.setattr.SetAttrStage.TheVariants.{Opens}

push : (a b : Bool) (p q : Opening) (r : Answer) → opens (cond a (Go p) (cond b (Go q) (Say r))) ≡ cond a (Go (Opens p)) (cond b (Go (Opens q)) (Say r))
push true b p q r = refl
push false true p q r = refl
push false false p q r = refl

pub lock_opens : (brick : ℕ) (c : Account) (next : Next Opening) (result : Next SetAttrStage) → OpeningFollows (λ o. o) (λ c grouped next. ⊥) (Lock brick) c next → result ≡ opens next → OpeningFollows Opens SetAttrJudges (Lock brick) c result
lock_opens brick c next result h e = e ∙ (ap opens h ∙ push (nat_lt (brick + 1) (bricks_of c.given)) (nat_le (quorum_of c.given) (count_locks c (subject c.given.op))) (Lock (brick + 1)) Query (NoQuorum LockPhase (count_locks c (subject c.given.op))))
