use Rattle.std.proofs.Common.{◌≡◌, None, arith, false, refl}
use Rattle.ec_clients.specs.Calls.{tabled}
use Rattle.ec_clients.proofs.New.{new_sees, none_released, replicate_all}
use Rattle.ec_clients.proofs.beginning.new_clients.Goals as goal

pub returns-clause-many : goal.returns-clause-many
returns-clause-many g c =
    let e : c.loop.counter ≡ 17 = omega (arith, c.loop-test.false, c.loop.auto.counter-end) in
    record { slots = replicate_all c.loop.running.items c.loop.counter 17 None c.loop.invariant.slots e; lives = replicate_all c.loop.dead.items c.loop.counter 17 false c.loop.invariant.lives e }

pub returns-clause-sees : goal.returns-clause-sees
returns-clause-sees g c = new_sees g.C.Conduct.stands (tabled g.C.Conduct.begins g.C.Conduct.goes) (record { running = c.loop.running; dead = c.loop.dead; calls = 0; next_gfid = c.args.next_gfid; options = c.args.options; released = c.new.result }) c.loop.counter c.loop.invariant.slots c.loop.invariant.lives refl (none_released c.new.result c.new.ensures.empty)
