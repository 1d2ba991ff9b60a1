use Rattle.std.proofs.Common.{subst}
use Rattle.ec_store.specs.Causes.{Begins}
use Rattle.ec_wire.specs.declared.entry.Entry.{Entry}
use Rattle.ec_play.specs.Texts.{entry_line}
use Rattle.ec_play.proofs.TextLemmas.{begun_more, on_err}
use Rattle.ec_play.proofs.texts.write_entries.Goals as goal

pub returns-in_err-write_entry-clause-part : goal.returns-in_err-write_entry-clause-part
returns-in_err-write_entry-clause-part g c =
    on_err _ _
    (begun_more (entry_line c.args.logs) c.args.entries.now c.loop-entry.entry-index c.entry-item.result c.loop-entry-test.true _ _ _ c.loop-entry.invariant.text
    (subst (λ (e : Entry). Begins (g.O.Sink.written c.loop-entry.out) (g.O.Sink.written c.write_entry.new.out) (entry_line c.args.logs e)) c.entry-item.is c.in_err-write_entry.ensures.part))
