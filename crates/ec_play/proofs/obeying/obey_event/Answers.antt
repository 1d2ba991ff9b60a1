use Rattle.std.proofs.Common.{◌≡◌, inl, inr, true, List, length, map, refl, ap, subst, ◌∙◌}
use Rattle.std.specs.List.{list_all}
use Rattle.std.specs.Io.KnownBytes.{Appends}
use Rattle.ec_store.specs.Causes.{Begins}
use Rattle.ec_wire.specs.declared.entry.Entry.{Entry}
use Rattle.ec_play.specs.Texts.{text_of}
use Rattle.ec_play.proofs.GoingLemmas.{broken, half_told, obeyed_event}
use Rattle.ec_play.proofs.TextLemmas.{new_items}
use Rattle.ec_play.proofs.obeying.obey_event.Goals as goal

pub returns-in-Err-NoMemory-clause-err : goal.returns-in-Err-NoMemory-clause-err
returns-in-Err-NoMemory-clause-err g c = λ start old events goes.
    inr (
      c.args.event.now,
      refl,
      inl (broken g.W.Means.meaning (list_all g.B.BrickStore.told c.args.stores.now ≡ true) c.args.logs start old events c.args.event.now c.args.stage.now c.step.new.self (map g.B.BrickStore.records c.args.stores.now) (map g.B.BrickStore.records c.step.new.stores) (g.O.Sink.written c.args.out.now) goes
          (rw c.in-Err-NoMemory.field-0-is at c.in-Err-NoMemory.ensures.steps)),
    )

pub returns-in-Ok-write_entries-clause-ok : goal.returns-in-Ok-write_entries-clause-ok
returns-in-Ok-write_entries-clause-ok g c = λ start old events goes.
    obeyed_event g.W.Means.meaning (list_all g.B.BrickStore.told c.args.stores.now ≡ true) c.args.logs start old events c.args.event.now c.args.stage.now c.step.new.self (map g.B.BrickStore.records c.args.stores.now) (map g.B.BrickStore.records c.step.new.stores) (g.O.Sink.written c.args.out.now) (g.O.Sink.written c.write_entries.new.out) goes c.in-Ok.ensures.steps
    (subst (λ (es : List Entry). Appends (g.O.Sink.written c.args.out.now) (g.O.Sink.written c.write_entries.new.out) (text_of c.args.logs es)) (new_items (g.W.Means.meaning.log c.args.stage.now) c.in-Ok.ensures.steps.entries c.items.result.now c.len-before.result (c.items.ensures ∙ c.log-2.ensures ∙ c.in-Ok.ensures.steps.goes_on) (c.len-before.ensures ∙ ap length c.log.ensures)) c.in-Ok-write_entries.ensures.all)

pub returns-in-Err-WriteFault-clause-err : goal.returns-in-Err-WriteFault-clause-err
returns-in-Err-WriteFault-clause-err g c = λ start old events goes. (
  c.args.event.now,
  refl,
  half_told g.W.Means.meaning (list_all g.B.BrickStore.told c.args.stores.now ≡ true) c.args.logs start old events c.args.event.now c.args.stage.now c.step.new.self (map g.B.BrickStore.records c.args.stores.now) (map g.B.BrickStore.records c.step.new.stores) (g.O.Sink.written c.args.out.now) (g.O.Sink.written c.write_entries.new.out) goes c.in-Ok.ensures.steps
      (subst (λ (es : List Entry). Begins (g.O.Sink.written c.args.out.now) (g.O.Sink.written c.write_entries.new.out) (text_of c.args.logs es)) (new_items (g.W.Means.meaning.log c.args.stage.now) c.in-Ok.ensures.steps.entries c.items.result.now c.len-before.result (c.items.ensures ∙ c.log-2.ensures ∙ c.in-Ok.ensures.steps.goes_on) (c.len-before.ensures ∙ ap length c.log.ensures)) c.in-Err-WriteFault.ensures.part),
)

pub returns-in-Err-NoMemory-write_entries-clause-err : goal.returns-in-Err-NoMemory-write_entries-clause-err
returns-in-Err-NoMemory-write_entries-clause-err g c = λ start old events goes.
    inr (
      c.args.event.now,
      refl,
      inr (half_told g.W.Means.meaning (list_all g.B.BrickStore.told c.args.stores.now ≡ true) c.args.logs start old events c.args.event.now c.args.stage.now c.step.new.self (map g.B.BrickStore.records c.args.stores.now) (map g.B.BrickStore.records c.step.new.stores) (g.O.Sink.written c.args.out.now) (g.O.Sink.written c.write_entries.new.out) goes c.in-Ok.ensures.steps
          (subst (λ (es : List Entry). Begins (g.O.Sink.written c.args.out.now) (g.O.Sink.written c.write_entries.new.out) (text_of c.args.logs es)) (new_items (g.W.Means.meaning.log c.args.stage.now) c.in-Ok.ensures.steps.entries c.items.result.now c.len-before.result (c.items.ensures ∙ c.log-2.ensures ∙ c.in-Ok.ensures.steps.goes_on) (c.len-before.ensures ∙ ap length c.log.ensures)) c.in-Err-NoMemory-write_entries.ensures.part)),
    )
