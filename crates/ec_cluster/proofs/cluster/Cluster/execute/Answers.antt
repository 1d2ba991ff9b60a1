-- One request, its entry, its replies.
use Rattle.std.proofs.Common.{◌≡◌, true, false, Some, None, [], ◌∷◌, ◌++◌, map, ap, refl, sym, ◌∙◌}
use Rattle.std.proofs.lemmas.Result.{on_err_weaker}
use Rattle.std.specs.List.{list_all}
use Rattle.ec_brick.specs.Meets.{is_fault}
use Rattle.ec_wire.specs.declared.entry.Entry.TheVariants.{Executed}
use Rattle.ec_cluster.proofs.Advancing.{on_ok}
use Rattle.ec_cluster.proofs.Executed.{breaks, execute_up, executes, is_answer, sound_then, unbroken}
use Rattle.ec_cluster.proofs.Waiters.{err_any}
use Rattle.ec_cluster.proofs.cluster.Cluster.execute.Goals as goal
use Rattle.ec_cluster.specs.Steps.{IsExecution}
use Rattle.ec_cluster.specs.Views.{flight}
use Rattle.ec_cluster.specs.declared.cluster.Cluster.{Cluster}

pub returns-in_err-push-clause-err : goal.returns-in_err-push-clause-err
returns-in_err-push-clause-err g c = err_any c.from_residual.result _ (unbroken (IsExecution c.args.no) (list_all g.S.BrickStore.told c.args.stores.now ≡ true) c.args.self.now (record c.args.self.now { log = c.push.new.self }) (map g.S.BrickStore.records c.args.stores.now) (map g.S.BrickStore.records c.args.stores.now) c.in_err-push.ensures.err (λ told. refl))

pub answer-requires-clause-sound : goal.answer-requires-clause-sound
answer-requires-clause-sound g c =
    let there : flight c.args.self.now c.args.no ≡ Some c.in-Some.message = sym c.take.ensures.message ∙ c.in-Some.is in
    let placed : c.ask_brick.new.self.log ≡ c.args.self.now.log ++ Executed c.args.no None false ∷ [] = ap (λ (x : Cluster). x.log) c.in-Ok.ensures.ok.kept ∙ c.in_ok-push.ensures.ok in
    let entry : c.set_last.new.self ≡ c.args.self.now.log ++ Executed c.args.no c.in-Ok.effects.version (is_fault c.in-Ok.effects.reply) ∷ [] = c.set_last.ensures c.args.self.now.log (Executed c.args.no None false) placed ∙ ap (λ b. c.args.self.now.log ++ Executed c.args.no c.in-Ok.effects.version b ∷ []) c.is_fault.ensures in
    sound_then (list_all g.S.BrickStore.told c.args.stores.now ≡ true) c.known_laws.ensures c.args.self.now (record c.ask_brick.new.self { log = c.set_last.new.self }) c.take.new.self c.push.new.self c.ask_brick.new.self (map g.S.BrickStore.records c.args.stores.now) (map g.S.BrickStore.records c.ask_brick.new.stores) (map g.S.BrickStore.faults c.args.stores.now) (map g.S.BrickStore.faults c.ask_brick.new.stores) c.args.no c.in-Some.message c.in-ToBrick.request c.in-Ok.effects c.requires.sound there c.in-ToBrick.is (execute_up c.args.self.now c.args.no c.in-Some.message there c.requires.request) c.take.ensures.gone c.take.ensures.next c.in-Ok.ensures.ok (ap (λ l. record c.ask_brick.new.self { log = l }) entry)

pub answer-requires-clause-asked : goal.answer-requires-clause-asked
answer-requires-clause-asked g c =
    let there : flight c.args.self.now c.args.no ≡ Some c.in-Some.message = sym c.take.ensures.message ∙ c.in-Some.is in
    let placed : c.ask_brick.new.self.log ≡ c.args.self.now.log ++ Executed c.args.no None false ∷ [] = ap (λ (x : Cluster). x.log) c.in-Ok.ensures.ok.kept ∙ c.in_ok-push.ensures.ok in
    let entry : c.set_last.new.self ≡ c.args.self.now.log ++ Executed c.args.no c.in-Ok.effects.version (is_fault c.in-Ok.effects.reply) ∷ [] = c.set_last.ensures c.args.self.now.log (Executed c.args.no None false) placed ∙ ap (λ b. c.args.self.now.log ++ Executed c.args.no c.in-Ok.effects.version b ∷ []) c.is_fault.ensures in
    is_answer (list_all g.S.BrickStore.told c.args.stores.now ≡ true) c.known_laws.ensures c.args.self.now (record c.ask_brick.new.self { log = c.set_last.new.self }) c.take.new.self c.push.new.self c.ask_brick.new.self (map g.S.BrickStore.records c.args.stores.now) (map g.S.BrickStore.records c.ask_brick.new.stores) (map g.S.BrickStore.faults c.args.stores.now) (map g.S.BrickStore.faults c.ask_brick.new.stores) c.args.no c.in-Some.message c.in-ToBrick.request c.in-Ok.effects c.requires.sound there c.in-ToBrick.is (execute_up c.args.self.now c.args.no c.in-Some.message there c.requires.request) c.take.ensures.gone c.take.ensures.next c.in-Ok.ensures.ok (ap (λ l. record c.ask_brick.new.self { log = l }) entry)

pub returns-in-Ok-clause-ok : goal.returns-in-Ok-clause-ok
returns-in-Ok-clause-ok g c =
    let there : flight c.args.self.now c.args.no ≡ Some c.in-Some.message = sym c.take.ensures.message ∙ c.in-Some.is in
    let placed : c.ask_brick.new.self.log ≡ c.args.self.now.log ++ Executed c.args.no None false ∷ [] = ap (λ (x : Cluster). x.log) c.in-Ok.ensures.ok.kept ∙ c.in_ok-push.ensures.ok in
    let entry : c.set_last.new.self ≡ c.args.self.now.log ++ Executed c.args.no c.in-Ok.effects.version (is_fault c.in-Ok.effects.reply) ∷ [] = c.set_last.ensures c.args.self.now.log (Executed c.args.no None false) placed ∙ ap (λ b. c.args.self.now.log ++ Executed c.args.no c.in-Ok.effects.version b ∷ []) c.is_fault.ensures in
    on_ok c.answer.result _ _ (executes (list_all g.S.BrickStore.told c.args.stores.now ≡ true) c.known_laws.ensures c.args.self.now (record c.ask_brick.new.self { log = c.set_last.new.self }) c.take.new.self c.push.new.self c.ask_brick.new.self (map g.S.BrickStore.records c.args.stores.now) (map g.S.BrickStore.records c.ask_brick.new.stores) (map g.S.BrickStore.faults c.args.stores.now) (map g.S.BrickStore.faults c.ask_brick.new.stores) c.args.no c.in-Some.message c.in-ToBrick.request c.in-Ok.effects c.requires.sound there c.in-ToBrick.is (execute_up c.args.self.now c.args.no c.in-Some.message there c.requires.request) c.take.ensures.gone c.take.ensures.next c.in-Ok.ensures.ok (ap (λ l. record c.ask_brick.new.self { log = l }) entry) c.answer.new.self) c.answer.ensures.ok

pub returns-in-Ok-clause-err : goal.returns-in-Ok-clause-err
returns-in-Ok-clause-err g c =
    let there : flight c.args.self.now c.args.no ≡ Some c.in-Some.message = sym c.take.ensures.message ∙ c.in-Some.is in
    let placed : c.ask_brick.new.self.log ≡ c.args.self.now.log ++ Executed c.args.no None false ∷ [] = ap (λ (x : Cluster). x.log) c.in-Ok.ensures.ok.kept ∙ c.in_ok-push.ensures.ok in
    let entry : c.set_last.new.self ≡ c.args.self.now.log ++ Executed c.args.no c.in-Ok.effects.version (is_fault c.in-Ok.effects.reply) ∷ [] = c.set_last.ensures c.args.self.now.log (Executed c.args.no None false) placed ∙ ap (λ b. c.args.self.now.log ++ Executed c.args.no c.in-Ok.effects.version b ∷ []) c.is_fault.ensures in
    on_err_weaker c.answer.result (breaks (list_all g.S.BrickStore.told c.args.stores.now ≡ true) c.known_laws.ensures c.args.self.now (record c.ask_brick.new.self { log = c.set_last.new.self }) c.take.new.self c.push.new.self c.ask_brick.new.self (map g.S.BrickStore.records c.args.stores.now) (map g.S.BrickStore.records c.ask_brick.new.stores) (map g.S.BrickStore.faults c.args.stores.now) (map g.S.BrickStore.faults c.ask_brick.new.stores) c.args.no c.in-Some.message c.in-ToBrick.request c.in-Ok.effects c.requires.sound there c.in-ToBrick.is (execute_up c.args.self.now c.args.no c.in-Some.message there c.requires.request) c.take.ensures.gone c.take.ensures.next c.in-Ok.ensures.ok (ap (λ l. record c.ask_brick.new.self { log = l }) entry) c.answer.new.self) c.answer.ensures.err

pub returns-clause-err : goal.returns-clause-err
returns-clause-err g c =
    let placed : c.ask_brick.new.self.log ≡ c.args.self.now.log ++ Executed c.args.no None false ∷ [] = ap (λ (x : Cluster). x.log) c.in-Err.ensures.kept ∙ c.in_ok-push.ensures.ok in
    unbroken (IsExecution c.args.no) (list_all g.S.BrickStore.told c.args.stores.now ≡ true) c.args.self.now (record c.ask_brick.new.self { log = c.drop_last.new.self }) (map g.S.BrickStore.records c.args.stores.now) (map g.S.BrickStore.records c.ask_brick.new.stores) (c.drop_last.ensures c.args.self.now.log (Executed c.args.no None false) placed) c.in-Err.ensures.err
