use Rattle.std.proofs.Common.{◌/◌, length, arith}
use Rattle.ec_script.specs.Data.{digits_bytes}
use Rattle.ec_script.proofs.DataLemmas.{digits_are, gathers, gathers_none, told_not}
use Rattle.ec_script.proofs.data.add_digits.Goals as goal

pub returns-then-not-has_room-clause-found : goal.returns-then-not-has_room-clause-found
returns-then-not-has_room-clause-found c =
    let sized = (digits_are c.args.text.now c.requires.digits c.requires.even).0 in
    gathers_none c.args.bulky c.args.bytes.now.items (digits_bytes c.args.text.now) (length c.args.text.now / 2) (omega (arith, sized))
    (λ p. told_not c.has_room.result c.if-not-has_room.true c.has_room.ensures.1 (p.0, omega (arith, p.1, c.len.ensures, c.args.bytes.now.ok.0)))

pub returns-clause-found : goal.returns-clause-found
returns-clause-found c =
    let sized = (digits_are c.args.text.now c.requires.digits c.requires.even).0 in
    let room = c.has_room.ensures.0 c.if-not-has_room.false in
    gathers c.args.bulky c.args.bytes.now.items c.push_digits.new.bytes.items (digits_bytes c.args.text.now) room.0 (omega (arith, room.1, sized, c.len.ensures, c.args.bytes.now.ok.0)) c.in_ok-push_digits.ensures.ok
