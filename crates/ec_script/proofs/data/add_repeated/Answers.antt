use Rattle.std.proofs.Common.{arith, ◌∙◌}
use Rattle.std.specs.Prelude.{replicate}
use Rattle.std.proofs.lemmas.List.{length-replicate}
use Rattle.ec_script.proofs.DataLemmas.{gathers, gathers_none, more_zeros, told_not}
use Rattle.ec_script.proofs.data.add_repeated.Goals as goal

pub returns-then-not-has_room-clause-found : goal.returns-then-not-has_room-clause-found
returns-then-not-has_room-clause-found c =
    gathers_none c.args.bulky c.args.bytes.now.items (replicate c.args.times c.args.byte) c.args.times (length-replicate c.args.times c.args.byte)
    (λ p. told_not c.has_room.result c.if-not-has_room.true c.has_room.ensures.1 (p.0, omega (arith, p.1, c.len.ensures, c.args.bytes.now.ok.0)))

pub returns-clause-found : goal.returns-clause-found
returns-clause-found c =
    let room = c.has_room.ensures.0 c.if-not-has_room.false in
    gathers c.args.bulky c.args.bytes.now.items c.resize.new.self.items (replicate c.args.times c.args.byte) room.0 (omega (arith, room.1, length-replicate c.args.times c.args.byte, c.len.ensures, c.args.bytes.now.ok.0))
    (c.in_ok-resize.ensures.items ∙ more_zeros c.args.bytes.now.items c.len-2.result _ c.args.times c.args.byte (c.len-2.ensures ∙ c.args.bytes.now.ok.0) c.args.bytes.now.ok.0)
