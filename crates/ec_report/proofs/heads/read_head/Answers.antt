use Rattle.std.proofs.Common.{◌∙◌, ap, map, sym, subst}
use Rattle.std.proofs.Math.ListN.{set}
use Rattle.ec_store.specs.Records.{Records, head_at}
use Rattle.ec_report.specs.Reading.{HasRisen}
use Rattle.ec_report.proofs.Stores.{all_at, one_read, one_risen, records_at}
use Rattle.ec_report.proofs.heads.read_head.Goals as goal

pub returns-in-Ok-clause-reads : goal.returns-in-Ok-clause-reads
returns-in-Ok-clause-reads g c = one_read g.S.BrickStore.told g.S.BrickStore.records g.S.BrickStore.faults c.args.stores.now c.args.b c.head.new.self c.index-stores-b.result c.requires.brick c.head.ensures.does.tells (λ t. c.in-Ok.ensures.does.ok t) c.head.ensures.cause.later

pub returns-in-Ok-clause-head : goal.returns-in-Ok-clause-head
returns-in-Ok-clause-head g c told m is = c.in-Ok.ensures.value (all_at g.S.BrickStore.told c.args.stores.now c.args.b c.index-stores-b.result told c.requires.brick) ∙ ap (λ (r : Records). head_at r c.args.g.0) (records_at g.S.BrickStore.records c.args.stores.now c.args.b c.index-stores-b.result m c.requires.brick is)

pub returns-in-Err-clause-reads : goal.returns-in-Err-clause-reads
returns-in-Err-clause-reads g c = one_read g.S.BrickStore.told g.S.BrickStore.records g.S.BrickStore.faults c.args.stores.now c.args.b c.head.new.self c.index-stores-b.result c.requires.brick c.head.ensures.does.tells (λ t. c.in-Err.ensures.does.err t) c.head.ensures.cause.later

pub returns-in-Err-clause-cause : goal.returns-in-Err-clause-cause
returns-in-Err-clause-cause g c = subst (HasRisen (map g.S.BrickStore.faults c.args.stores.now) (map g.S.BrickStore.faults (set c.args.stores.now c.args.b c.head.new.self))) (sym c.fault_of.ensures) (one_risen g.S.BrickStore.faults c.args.stores.now c.args.b c.head.new.self c.index-stores-b.result c.in-Err.e c.requires.brick c.in-Err.ensures.cause.rose)
