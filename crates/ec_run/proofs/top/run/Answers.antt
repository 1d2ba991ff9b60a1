use Rattle.std.proofs.Common.{◌≡◌, ◌∙◌, ◌++◌, drop, length, map, refl, sym, take, true, vec_len}
use Rattle.std.proofs.KnownBytes.{Keeps-refl}
use Rattle.std.specs.List.{list_all}
use Rattle.ec_play.proofs.TakenLemmas.{takes_none}
use Rattle.ec_play.specs.Taken.{most_of_script}
use Rattle.ec_play.proofs.LooksLemmas.{looks_at_none}
use Rattle.ec_play.specs.declared.status.BricksWhy.TheVariants as wrong
use Rattle.ec_play.specs.declared.status.Status.TheVariants as status
use Rattle.ec_run.specs.VolumeText.{most_of_volume}
use Rattle.ec_run.proofs.EndsLemmas.{run_counted, run_ordered, written_back}
use Rattle.ec_run.proofs.top.run.Goals as goal

pub returns-then-len-from-clause-run : goal.returns-then-len-from-clause-run
returns-then-len-from-clause-run g c =
    let records = map g.B.BrickStore.records c.args.bricks.now.items in
    run_counted c.in-Ok-volume_of.volume (vec_len c.args.bricks.now) c.len-then-len-from.result c.from-then-len-from.result records records (g.V.Source.left c.args.vol.now) (g.S.Source.left c.args.script.now) (g.O.Sink.written c.args.out.now) (g.O.Sink.written c.args.out.now) c.args.log.now
    c.in-Ok-volume_of.ensures.found c.len-then-len-from.ensures c.from-then-len-from.ensures (λ e. c.if-len-from.true (c.len.ensures ∙ (e ∙ sym c.from.ensures)))
    (record { same = refl; text = Keeps-refl (g.O.Sink.written c.args.out.now); unlogged = c.requires.empty })

pub returns-clause-run : goal.returns-clause-run
returns-clause-run g c =
    let long : length c.start_and_obey.new.stores ≡ vec_len c.args.bricks.now = c.start_and_obey.auto.stores ∙ c.as_mut_slice.ensures.len in
    let after = take (vec_len c.args.bricks.now) (c.start_and_obey.new.stores ++ drop (length c.start_and_obey.new.stores) c.args.bricks.now.items) in
    let back : after ≡ c.start_and_obey.new.stores = written_back c.start_and_obey.new.stores (drop (length c.start_and_obey.new.stores) c.args.bricks.now.items) (vec_len c.args.bricks.now) long in
    run_ordered _ (list_all g.B.BrickStore.told c.args.bricks.now.items ≡ true) (map (λ w. w.now) c.args.words.now) (vec_len c.args.bricks.now) (map g.B.BrickStore.records c.args.bricks.now.items) (map g.B.BrickStore.records after) c.in-Ok.command c.in-Ok-volume_of.volume (g.V.Source.left c.args.vol.now) (g.S.Source.left c.args.script.now) c.start_and_obey.result (g.O.Sink.written c.args.out.now) (g.O.Sink.written c.start_and_obey.new.out) c.start_and_obey.new.log
    c.in-Ok.ensures.order (sym c.len.ensures ∙ (c.if-len-from.false ∙ c.from.ensures)) c.start_and_obey.ensures.started c.in-Ok-volume_of.ensures.found (rw back (rw c.as_mut_slice.ensures.value at c.start_and_obey.ensures.ends))

pub returns-in-Err-Bad-clause-volume_taken : goal.returns-in-Err-Bad-clause-volume_taken
returns-in-Err-Bad-clause-volume_taken g c = takes_none most_of_volume (g.V.Source.left c.args.vol.now) (g.V.Source.left c.args.vol.now) (Keeps-refl (g.V.Source.left c.args.vol.now))

pub returns-in-Err-NoMemory-clause-volume_taken : goal.returns-in-Err-NoMemory-clause-volume_taken
returns-in-Err-NoMemory-clause-volume_taken g c = takes_none most_of_volume (g.V.Source.left c.args.vol.now) (g.V.Source.left c.args.vol.now) (Keeps-refl (g.V.Source.left c.args.vol.now))

pub returns-in-Err-Bad-clause-script_taken : goal.returns-in-Err-Bad-clause-script_taken
returns-in-Err-Bad-clause-script_taken g c = takes_none most_of_script (g.S.Source.left c.args.script.now) (g.S.Source.left c.args.script.now) (Keeps-refl (g.S.Source.left c.args.script.now))

pub returns-in-Err-NoMemory-clause-script_taken : goal.returns-in-Err-NoMemory-clause-script_taken
returns-in-Err-NoMemory-clause-script_taken g c = takes_none most_of_script (g.S.Source.left c.args.script.now) (g.S.Source.left c.args.script.now) (Keeps-refl (g.S.Source.left c.args.script.now))

pub returns-in-Err-ReadFault-clause-script_taken : goal.returns-in-Err-ReadFault-clause-script_taken
returns-in-Err-ReadFault-clause-script_taken g c = takes_none most_of_script (g.S.Source.left c.args.script.now) (g.S.Source.left c.args.script.now) (Keeps-refl (g.S.Source.left c.args.script.now))

pub returns-in-Err-Refused-clause-script_taken : goal.returns-in-Err-Refused-clause-script_taken
returns-in-Err-Refused-clause-script_taken g c = takes_none most_of_script (g.S.Source.left c.args.script.now) (g.S.Source.left c.args.script.now) (Keeps-refl (g.S.Source.left c.args.script.now))

pub returns-in-Err-NoMemory-volume_of-clause-script_taken : goal.returns-in-Err-NoMemory-volume_of-clause-script_taken
returns-in-Err-NoMemory-volume_of-clause-script_taken g c = takes_none most_of_script (g.S.Source.left c.args.script.now) (g.S.Source.left c.args.script.now) (Keeps-refl (g.S.Source.left c.args.script.now))

pub returns-then-len-from-clause-script_taken : goal.returns-then-len-from-clause-script_taken
returns-then-len-from-clause-script_taken g c = takes_none most_of_script (g.S.Source.left c.args.script.now) (g.S.Source.left c.args.script.now) (Keeps-refl (g.S.Source.left c.args.script.now))

pub returns-in-Err-Bad-clause-script_lines : goal.returns-in-Err-Bad-clause-script_lines
returns-in-Err-Bad-clause-script_lines g c = λ asked. looks_at_none status.BadWords (g.S.Source.left c.args.script.now) (λ rest. tt)

pub returns-in-Err-NoMemory-clause-script_lines : goal.returns-in-Err-NoMemory-clause-script_lines
returns-in-Err-NoMemory-clause-script_lines g c = λ asked. looks_at_none status.NoMemory (g.S.Source.left c.args.script.now) (λ rest. tt)

pub returns-in-Err-ReadFault-clause-script_lines : goal.returns-in-Err-ReadFault-clause-script_lines
returns-in-Err-ReadFault-clause-script_lines g c = λ asked. looks_at_none status.ReadFault (g.S.Source.left c.args.script.now) (λ rest. tt)

pub returns-in-Err-Refused-clause-script_lines : goal.returns-in-Err-Refused-clause-script_lines
returns-in-Err-Refused-clause-script_lines g c = λ asked. rw c.in-Err-Refused.field-0-is (looks_at_none (status.BadVolume c.in-Err-Refused.line c.in-Err-Refused.why) (g.S.Source.left c.args.script.now) (λ rest. tt))

pub returns-in-Err-NoMemory-volume_of-clause-script_lines : goal.returns-in-Err-NoMemory-volume_of-clause-script_lines
returns-in-Err-NoMemory-volume_of-clause-script_lines g c = λ asked. looks_at_none status.NoMemory (g.S.Source.left c.args.script.now) (λ rest. tt)

pub returns-then-len-from-clause-script_lines : goal.returns-then-len-from-clause-script_lines
returns-then-len-from-clause-script_lines g c = λ asked. looks_at_none (status.WrongBricks (wrong.Count c.len-then-len-from.result c.from-then-len-from.result)) (g.S.Source.left c.args.script.now) (λ rest. tt)

pub returns-clause-script_lines : goal.returns-clause-script_lines
returns-clause-script_lines g c = λ asked. c.start_and_obey.ensures.looks (rw c.in-Ok.ensures.order at asked)
