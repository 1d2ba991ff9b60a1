-- The own reply, and then the waiters.
use Rattle.std.proofs.Common.{Option, subst, sym}
use Rattle.std.proofs.lemmas.Result.{on_err_weaker}
use Rattle.std.specs.Prelude.{OnErr, OnOk}
use Rattle.ec_cluster.proofs.Advancing.{on_ok}
use Rattle.ec_cluster.proofs.Waiters.{answers_none, answers_none_part, answers_some, answers_some_part, answers_unsent, err_any, own_asked, own_sound}
use Rattle.ec_cluster.proofs.cluster.Cluster.answer.Goals as goal
use Rattle.ec_cluster.specs.Inner.{Answers, AnswersPart, IsAnswer}
use Rattle.ec_wire.specs.declared.reply.Reply.{Reply}

pub returns-in-None-clause-ok : goal.returns-in-None-clause-ok
returns-in-None-clause-ok c = subst (λ (r : Option Reply). OnOk c.grant.result (Answers c.args.self.now c.grant.new.self c.args.message.now r c.args.effects.granted)) (sym c.in-None.is) (on_ok c.grant.result _ _ (answers_none c.args.self.now c.grant.new.self c.args.message.now c.args.effects.granted) c.grant.ensures.ok)

pub returns-in-None-clause-err : goal.returns-in-None-clause-err
returns-in-None-clause-err c = subst (λ (r : Option Reply). OnErr c.grant.result (AnswersPart c.args.self.now c.grant.new.self c.args.message.now r c.args.effects.granted)) (sym c.in-None.is) (on_err_weaker c.grant.result (answers_none_part c.args.self.now c.grant.new.self c.args.message.now c.args.effects.granted) c.grant.ensures.err)

pub returns-in_err-put-in-Some-clause-err : goal.returns-in_err-put-in-Some-clause-err
returns-in_err-put-in-Some-clause-err c = err_any c.from_residual.result _ (answers_unsent c.args.self.now c.put.new.self c.args.message.now c.args.effects.reply c.args.effects.granted c.in_err-put-in-Some.ensures.err)

pub grant-requires-in-Some-clause-sound : goal.grant-requires-in-Some-clause-sound
grant-requires-in-Some-clause-sound c = own_sound c.args.self.now c.put.new.self c.args.message.now c.in-Some.reply c.args.effects.granted c.requires.sound (subst (λ (r : Option Reply). IsAnswer c.args.self.now c.args.message.now r c.args.effects.granted) c.in-Some.is c.requires.asked) c.in_ok-put-in-Some.ensures.ok

pub grant-requires-in-Some-clause-asked : goal.grant-requires-in-Some-clause-asked
grant-requires-in-Some-clause-asked c = own_asked c.args.self.now c.put.new.self c.args.message.now c.in-Some.reply c.args.effects.granted c.requires.sound (subst (λ (r : Option Reply). IsAnswer c.args.self.now c.args.message.now r c.args.effects.granted) c.in-Some.is c.requires.asked) c.in_ok-put-in-Some.ensures.ok

pub returns-clause-ok : goal.returns-clause-ok
returns-clause-ok c = subst (λ (r : Option Reply). OnOk c.grant-in-Some.result (Answers c.args.self.now c.grant-in-Some.new.self c.args.message.now r c.args.effects.granted)) (sym c.in-Some.is) (on_ok c.grant-in-Some.result _ _ (answers_some c.args.self.now c.put.new.self c.grant-in-Some.new.self c.args.message.now c.in-Some.reply c.args.effects.granted c.requires.sound (subst (λ (r : Option Reply). IsAnswer c.args.self.now c.args.message.now r c.args.effects.granted) c.in-Some.is c.requires.asked) c.in_ok-put-in-Some.ensures.ok) c.grant-in-Some.ensures.ok)

pub returns-clause-err : goal.returns-clause-err
returns-clause-err c = subst (λ (r : Option Reply). OnErr c.grant-in-Some.result (AnswersPart c.args.self.now c.grant-in-Some.new.self c.args.message.now r c.args.effects.granted)) (sym c.in-Some.is) (on_err_weaker c.grant-in-Some.result (answers_some_part c.args.self.now c.put.new.self c.grant-in-Some.new.self c.args.message.now c.in-Some.reply c.args.effects.granted c.requires.sound (subst (λ (r : Option Reply). IsAnswer c.args.self.now c.args.message.now r c.args.effects.granted) c.in-Some.is c.requires.asked) c.in_ok-put-in-Some.ensures.ok) c.grant-in-Some.ensures.err)
