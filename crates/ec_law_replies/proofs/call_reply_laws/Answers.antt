use Rattle.ec_law_replies.proofs.Calls.{bytes_of, names_of, reads_quiet, unchanged}
use Rattle.ec_law_replies.proofs.call_reply_laws.Goals as goal

pub returns : goal.returns
returns c = record { bytes = bytes_of c.call_cause_laws.ensures.cause; names = names_of c.call_cause_laws.ensures.cause; reads = reads_quiet; unchanged = unchanged }
