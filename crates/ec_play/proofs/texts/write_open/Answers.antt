use Rattle.ec_play.specs.Texts.{open_line}
use Rattle.ec_play.proofs.TextLemmas.{begun_more, on_err}
use Rattle.ec_play.proofs.texts.write_open.Goals as goal

pub returns-in_err-write_open_line-clause-part : goal.returns-in_err-write_open_line-clause-part
returns-in_err-write_open_line-clause-part g c =
    on_err _ _ (begun_more open_line c.args.calls.now c.loop-call.call-index _ c.loop-call-test.true _ _ _ c.loop-call.invariant.text c.in_err-write_open_line.ensures.part)
