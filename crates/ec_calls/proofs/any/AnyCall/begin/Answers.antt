use Rattle.std.proofs.Common.{sym}
use Rattle.ec_calls.proofs.any.AnyCall.begin.Goals as goal

pub returns-in_ok-call-in-Read : goal.returns-in_ok-call-in-Read
returns-in_ok-call-in-Read c = rw c.in-Read.is (record { adds = (c.in_ok-call-in-Read.call.answer, c.in_ok-call-in-Read.ensures.adds) })

pub returns-in_ok-call-in-Write : goal.returns-in_ok-call-in-Write
returns-in_ok-call-in-Write c = rw c.in-Write.is (rw (sym c.in_ok-copy-in-Write.ensures) (record { adds = (c.in_ok-call-in-Write.call.answer, c.in_ok-call-in-Write.ensures.adds) }))

pub returns-in_ok-call-in-Create : goal.returns-in_ok-call-in-Create
returns-in_ok-call-in-Create c = rw c.in-Create.is (record { adds = (c.in_ok-call-in-Create.call.answer, c.in_ok-call-in-Create.ensures.adds) })

pub returns-in_ok-call-in-Mkdir : goal.returns-in_ok-call-in-Mkdir
returns-in_ok-call-in-Mkdir c = rw c.in-Mkdir.is (record { adds = (c.in_ok-call-in-Mkdir.call.answer, c.in_ok-call-in-Mkdir.ensures.adds) })

pub returns-in_ok-call-in-Readdir : goal.returns-in_ok-call-in-Readdir
returns-in_ok-call-in-Readdir c = rw c.in-Readdir.is (record { adds = (c.in_ok-call-in-Readdir.call.answer, c.in_ok-call-in-Readdir.ensures.adds) })

pub returns-in_ok-call-in-Unlink : goal.returns-in_ok-call-in-Unlink
returns-in_ok-call-in-Unlink c = rw c.in-Unlink.is (record { adds = (c.in_ok-call-in-Unlink.call.answer, c.in_ok-call-in-Unlink.ensures.adds) })

pub returns-in_ok-call-in-Truncate : goal.returns-in_ok-call-in-Truncate
returns-in_ok-call-in-Truncate c = rw c.in-Truncate.is (record { adds = (c.in_ok-call-in-Truncate.call.answer, c.in_ok-call-in-Truncate.ensures.adds) })
