use Rattle.ec_calls.proofs.any.AnyCallCall.give_up.Goals as goal

pub returns-in-Stat : goal.returns-in-Stat
returns-in-Stat g c = rw c.in-Stat.is c.give_up.ensures

pub returns-in-Lookup : goal.returns-in-Lookup
returns-in-Lookup g c = rw c.in-Lookup.is c.give_up-in-Lookup.ensures

pub returns-in-GetAttr : goal.returns-in-GetAttr
returns-in-GetAttr g c = rw c.in-GetAttr.is c.give_up-in-GetAttr.ensures

pub returns-in-SetAttr : goal.returns-in-SetAttr
returns-in-SetAttr g c = rw c.in-SetAttr.is c.give_up-in-SetAttr.ensures

pub returns-in-Read : goal.returns-in-Read
returns-in-Read g c = rw c.in-Read.is c.give_up-in-Read.ensures

pub returns-in-Write : goal.returns-in-Write
returns-in-Write g c = rw c.in-Write.is c.give_up-in-Write.ensures

pub returns-in-Make : goal.returns-in-Make
returns-in-Make g c = rw c.in-Make.is c.give_up-in-Make.ensures

pub returns-in-Readdir : goal.returns-in-Readdir
returns-in-Readdir g c = rw c.in-Readdir.is c.give_up-in-Readdir.ensures

pub returns-in-Unlink : goal.returns-in-Unlink
returns-in-Unlink g c = rw c.in-Unlink.is c.give_up-in-Unlink.ensures

pub returns-in-Truncate : goal.returns-in-Truncate
returns-in-Truncate g c = rw c.in-Truncate.is c.give_up-in-Truncate.ensures
