use Rattle.std.proofs.Common.{◌≡◌, ◌-◌, ◌∙◌, ap, map, string_bytes, subst, sym, true}
use Rattle.std.specs.List.{list_all}
use Rattle.std.specs.Prelude.{IfOk}
use Rattle.ec_clients.specs.declared.options.Options.{Options}
use Rattle.ec_report.specs.Records.{IsCheck}
use Rattle.ec_world.proofs.world.World.check_text.Goals as goal

pub check_text-requires : goal.check_text-requires
check_text-requires g c = record { count = c.requires.stores ∙ (sym c.requires.open.size ∙ (c.requires.open.world.size ∙ sym (ap (λ (o : Options). o.geometry.n) c.options.ensures))) }

pub returns-clause-text : goal.returns-clause-text
returns-clause-text g c = subst (λ (o : Options). IfOk c.check_text.result (λ text. list_all g.S.BrickStore.told c.args.stores.now ≡ true → IsCheck (o.geometry.n - o.geometry.r) (map g.S.BrickStore.records c.args.stores.now) (string_bytes text))) c.options.ensures c.check_text.ensures.text
