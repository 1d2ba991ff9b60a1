-- A worked example of a run: a stat that asks one brick, of three.
use Rattle.std.specs.Prelude.{ℕ, false, Some, None, List, [], ◌∷◌}
use Rattle.ec_attr.specs.declared.kind.Domain.TheVariants.{Inode}
use Rattle.ec_attr.specs.declared.kind.Kind.TheVariants.{File}
use Rattle.ec_attr.specs.declared.kind.LockKind.TheVariants.{Shared}
use Rattle.ec_wire.specs.declared.answer.Answer.TheVariants.{Size}
use Rattle.ec_wire.specs.declared.entry.Entry.{Entry}
use Rattle.ec_wire.specs.declared.entry.Entry.TheVariants.{Called, Sent, Executed, Heard, Lost, GivenUp, Answered}
use Rattle.ec_wire.specs.declared.message.Body.{Body}
use Rattle.ec_wire.specs.declared.message.Body.TheVariants.{ToBrick, ToClient}
use Rattle.ec_wire.specs.declared.message.Message.{Message}
use Rattle.ec_wire.specs.declared.op.Op.TheVariants.{Stat}
use Rattle.ec_wire.specs.declared.reply.Reply.TheVariants.{Granted, Head}
use Rattle.ec_wire.specs.declared.request.Request.TheVariants.{Ask, Query, Release}
use Rattle.ec_brick.specs.State.{State}
use Rattle.ec_history.specs.IsRun.{IsRun}
use Rattle.ec_history.specs.Run.{fresh}
use Rattle.ec_history.specs.Short.{brick_at, bricks_of, head_of, two}

-- message `number` of call 1 of client 1
abbrev pub message : ℕ → ℕ → Body → Message
message number brick body = record { no = number; call = 1; client = 1; brick = brick; body = body }

abbrev pub idle : ℕ → State
idle = bricks_of (brick_at File 3 1024 []) (brick_at File 3 1024 []) (brick_at File 3 1024 [])

-- It is granted the lock at brick 0 and gives brick 1 up, asks brick 0 for the head, lets go and is answered.
abbrev pub a_stat : List Entry
a_stat = Called 1 1 (Stat two)
    ∷ Sent (message 1 0 (ToBrick (Ask two Inode Shared)))
    ∷ Executed 1 None false
    ∷ Sent (message 2 0 (ToClient 1 Granted))
    ∷ Heard 2
    ∷ Sent (message 3 1 (ToBrick (Ask two Inode Shared)))
    ∷ Lost 3
    ∷ GivenUp 1 1 3
    ∷ Sent (message 4 0 (ToBrick (Query two 1)))
    ∷ Executed 4 (Some 3) false
    ∷ Sent (message 5 0 (ToClient 4 (Head (head_of File 3 1024))))
    ∷ Heard 5
    ∷ Sent (message 6 0 (ToBrick (Release two 1)))
    ∷ Answered 1 (Size 1024)
    ∷ Executed 6 None false
    ∷ []

abbrev pub AStatIsARun : Type 0
AStatIsARun = IsRun 3 a_stat (fresh idle)
