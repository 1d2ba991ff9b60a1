-- One write that is cut short, and its entry.
use Rattle.std.proofs.Common.{◌≡◌, ℕ, true, Some, None, Option, [], ◌∷◌, ◌++◌, ◌≤◌, map, ap, refl, subst, sym, ◌∙◌}
use Rattle.std.specs.List.{list_all}
use Rattle.std.specs.Prelude.{is_some, IfSome}
use Rattle.ec_brick.specs.Bytes.{bytes_in}
use Rattle.ec_wire.specs.declared.entry.Entry.TheVariants.{Torn}
use Rattle.ec_cluster.proofs.Executed.{execute_up, unbroken}
use Rattle.ec_cluster.proofs.Torn.{torn}
use Rattle.ec_cluster.proofs.TornBrick.{bytes_is, has_bytes}
use Rattle.ec_cluster.proofs.Waiters.{err_any}
use Rattle.ec_cluster.proofs.cluster.Cluster.tear.Goals as goal
use Rattle.ec_cluster.specs.Tears.{bytes_at}
use Rattle.ec_cluster.specs.Views.{flight}
use Rattle.ec_cluster.specs.declared.cluster.Cluster.{Cluster}

pub returns-in_err-push-clause-err : goal.returns-in_err-push-clause-err
returns-in_err-push-clause-err g c = err_any c.from_residual.result _ (unbroken (λ e. ⊥) (list_all g.S.BrickStore.told c.args.stores.now ≡ true) c.args.self.now (record c.args.self.now { log = c.push.new.self }) (map g.S.BrickStore.records c.args.stores.now) (map g.S.BrickStore.records c.args.stores.now) c.in_err-push.ensures.err (λ told. refl))

pub returns-in-Ok-clause-ok : goal.returns-in-Ok-clause-ok
returns-in-Ok-clause-ok g c =
    let there : flight c.args.self.now c.args.no ≡ Some c.in-Some.message = sym c.take.ensures.message ∙ c.in-Some.is in
    let bytes : bytes_at c.args.self.now c.args.no ≡ bytes_in c.in-ToBrick.request = bytes_is c.args.self.now c.args.no c.in-Some.message c.in-ToBrick.request there c.in-ToBrick.is in
    let placed : c.tear_brick.new.self.log ≡ c.args.self.now.log ++ Torn c.args.no c.args.bytes None ∷ [] = ap (λ (x : Cluster). x.log) c.in-Ok.ensures.ok.kept ∙ c.in_ok-push.ensures.ok in
    let entry : c.set_last.new.self ≡ c.args.self.now.log ++ Torn c.args.no c.args.bytes c.in-Ok.version ∷ [] = c.set_last.ensures c.args.self.now.log (Torn c.args.no c.args.bytes None) placed in
    torn (list_all g.S.BrickStore.told c.args.stores.now ≡ true) c.known_laws.ensures c.args.self.now (record c.tear_brick.new.self { log = c.set_last.new.self }) c.take.new.self c.push.new.self c.tear_brick.new.self (map g.S.BrickStore.records c.args.stores.now) (map g.S.BrickStore.records c.tear_brick.new.stores) (map g.S.BrickStore.faults c.args.stores.now) (map g.S.BrickStore.faults c.tear_brick.new.stores) c.args.no c.args.bytes c.in-Some.message c.in-ToBrick.request c.in-Ok.version c.requires.sound there c.in-ToBrick.is (execute_up c.args.self.now c.args.no c.in-Some.message there c.requires.request)
    (has_bytes c.in-ToBrick.request c.args.bytes (sym (ap is_some bytes) ∙ c.requires.write) (subst (λ (o : Option ℕ). IfSome o (λ n. c.args.bytes ≤ n)) bytes c.requires.part))
    c.take.ensures.gone c.take.ensures.next c.in-Ok.ensures.ok (ap (λ l. record c.tear_brick.new.self { log = l }) entry)

pub returns-clause-err : goal.returns-clause-err
returns-clause-err g c =
    let placed : c.tear_brick.new.self.log ≡ c.args.self.now.log ++ Torn c.args.no c.args.bytes None ∷ [] = ap (λ (x : Cluster). x.log) c.in-Err.ensures.kept ∙ c.in_ok-push.ensures.ok in
    unbroken (λ e. ⊥) (list_all g.S.BrickStore.told c.args.stores.now ≡ true) c.args.self.now (record c.tear_brick.new.self { log = c.drop_last.new.self }) (map g.S.BrickStore.records c.args.stores.now) (map g.S.BrickStore.records c.tear_brick.new.stores) (c.drop_last.ensures c.args.self.now.log (Torn c.args.no c.args.bytes None) placed) c.in-Err.ensures.err
