use Rattle.std.proofs.Common.{map, sym, subst}
use Rattle.std.proofs.Math.ListN.{set}
use Rattle.ec_brick.specs.Opening.{IsNamed}
use Rattle.ec_index.specs.Members.{members}
use Rattle.ec_store.specs.Records.{Records}
use Rattle.ec_report.specs.Reading.{GrowsBy, HasRisen}
use Rattle.ec_report.specs.Records.{HasRecord}
use Rattle.ec_report.proofs.Stores.{all_at, one_read, one_risen, records_at}
use Rattle.ec_report.proofs.check.find_in.Goals as goal

pub returns-in-Ok-clause-reads : goal.returns-in-Ok-clause-reads
returns-in-Ok-clause-reads g c = one_read g.S.BrickStore.told g.S.BrickStore.records g.S.BrickStore.faults c.args.stores.now c.args.b c.find_records.new.store c.index-stores-b.result c.requires.brick c.find_records.ensures.does.tells (λ t. c.in-Ok.ensures.does.ok t) c.find_records.ensures.cause.later

pub returns-in-Ok-clause-kept : goal.returns-in-Ok-clause-kept
returns-in-Ok-clause-kept g c told m is = subst (λ (r : Records). GrowsBy (HasRecord r) (members c.args.found.now.kept) (members c.find_records.new.found.kept)) (records_at g.S.BrickStore.records c.args.stores.now c.args.b c.index-stores-b.result m c.requires.brick is) (c.in-Ok.ensures.kept (all_at g.S.BrickStore.told c.args.stores.now c.args.b c.index-stores-b.result told c.requires.brick))

pub returns-in-Ok-clause-named : goal.returns-in-Ok-clause-named
returns-in-Ok-clause-named g c told m is = subst (λ (r : Records). GrowsBy (IsNamed r) (members c.args.found.now.named) (members c.find_records.new.found.named)) (records_at g.S.BrickStore.records c.args.stores.now c.args.b c.index-stores-b.result m c.requires.brick is) (c.in-Ok.ensures.named (all_at g.S.BrickStore.told c.args.stores.now c.args.b c.index-stores-b.result told c.requires.brick))

pub returns-in-Err-clause-reads : goal.returns-in-Err-clause-reads
returns-in-Err-clause-reads g c = one_read g.S.BrickStore.told g.S.BrickStore.records g.S.BrickStore.faults c.args.stores.now c.args.b c.find_records.new.store c.index-stores-b.result c.requires.brick c.find_records.ensures.does.tells (λ t. c.in-Err.ensures.does.err t) c.find_records.ensures.cause.later

pub returns-in-Err-clause-cause : goal.returns-in-Err-clause-cause
returns-in-Err-clause-cause g c = subst (HasRisen (map g.S.BrickStore.faults c.args.stores.now) (map g.S.BrickStore.faults (set c.args.stores.now c.args.b c.find_records.new.store))) (sym c.fault_of.ensures) (one_risen g.S.BrickStore.faults c.args.stores.now c.args.b c.find_records.new.store c.index-stores-b.result c.in-Err.e c.requires.brick c.in-Err.ensures.cause.rose)
