-- The own entries of a step, and that none are sent between two.
use Rattle.std.proofs.Common.{◌≡◌, ◌≢◌, ℕ, ◌+◌, refl, subst, List, [], ◌∷◌, Option, Some, None}
use Rattle.ec_wire.specs.declared.answer.Answer.{Answer}
use Rattle.ec_conduct.specs.Account.{Account, account_from, sent}
use Rattle.ec_conduct.specs.Conduct.{KeepsFrom}
use Rattle.ec_conduct.specs.Given.{Given}
use Rattle.ec_conduct.specs.Laws.{any_first, any_step}
use Rattle.ec_conduct.specs.Own.{Own, Sends}
use Rattle.ec_conduct.specs.Table.{AllMay, IsByTurns, IsFromOutside, MayEnd, Send, Turned, entries_of, sent_all, with_answer}
use Rattle.ec_wire.specs.declared.request.Request.{Request}

pub step_keeps : (c : Account) (i : ℕ) (sends : List Send) (answer : Option Answer) → AllMay c i sends → MayEnd (sent_all c i sends) answer → KeepsFrom c (entries_of i sends answer)
step_keeps c i [] None m e = tt
step_keeps c i [] (Some answer) m e = (e, tt)
step_keeps c i (s ∷ ss) answer m e = (m.0, step_keeps (sent c s.0 i s.1) (i + 1) ss answer m.1 e)

pub step_account : (c : Account) (i : ℕ) (sends : List Send) (answer : Option Answer) → account_from c (entries_of i sends answer) ≡ with_answer (sent_all c i sends) answer
step_account c i [] None = refl
step_account c i [] (Some answer) = refl
step_account c i (s ∷ ss) answer = step_account (sent c s.0 i s.1) (i + 1) ss answer

pub no_sends_apart : (given : Given) (t : Turned ℕ) (ts : List (Turned ℕ)) (es : List Own) (stage : Option ℕ) → IsByTurns any_first any_step given (t ∷ ts) es stage → (b i : ℕ) (r : Request) → t.what ≢ Sends b i r
no_sends_apart given t ts es stage (earlier, before, by, outside, went, entries, is) b i r e = subst IsFromOutside e outside
