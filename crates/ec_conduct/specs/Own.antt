-- The own entries of a call: what it sends, hears, gives up and answers, in order.
use Rattle.std.specs.Prelude.{ℕ}
use Rattle.ec_wire.specs.declared.answer.Answer.{Answer}
use Rattle.ec_wire.specs.declared.reply.Reply.{Reply}
use Rattle.ec_wire.specs.declared.request.Request.{Request}

-- The number is that of the request. A reply that isn't handed to the call is not among them, nor is a Release that is
-- sent when a lock is granted late.
pub data Own : Type 0 where
  Sends : (brick number : ℕ) (request : Request) → Own
  Hears : (brick number : ℕ) (reply : Reply) → Own
  GivesUp : (brick number : ℕ) → Own
  Answers : (answer : Answer) → Own
