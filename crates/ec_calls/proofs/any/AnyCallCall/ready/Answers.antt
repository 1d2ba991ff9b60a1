use Rattle.ec_calls.proofs.any.AnyCallCall.ready.Goals as goal

pub returns-in-Read : goal.returns-in-Read
returns-in-Read g c = rw c.in-Read.is c.ready-in-Read.ensures

pub returns-in-Write : goal.returns-in-Write
returns-in-Write g c = rw c.in-Write.is c.ready-in-Write.ensures

pub returns-in-Truncate : goal.returns-in-Truncate
returns-in-Truncate g c = rw c.in-Truncate.is c.ready-in-Truncate.ensures
