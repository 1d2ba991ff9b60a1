-- Worked examples of the own entries of a call in a log.
use Rattle.std.specs.Prelude.{◌≡◌, ◌==◌, cond, ℕ, false, Some, None, List, [], ◌∷◌}
use Rattle.ec_attr.specs.declared.kind.Domain.TheVariants.{Inode}
use Rattle.ec_attr.specs.declared.kind.Kind.TheVariants.{File}
use Rattle.ec_attr.specs.declared.kind.LockKind.TheVariants.{Exclusive, Shared}
use Rattle.ec_wire.specs.declared.answer.Answer.TheVariants.{Size}
use Rattle.ec_wire.specs.declared.entry.Entry.{Entry}
use Rattle.ec_wire.specs.declared.entry.Entry.TheVariants.{Answered, Called, Executed, GivenUp, Heard, Sent}
use Rattle.ec_wire.specs.declared.message.Body.TheVariants.{ToBrick, ToClient}
use Rattle.ec_wire.specs.declared.op.Op.{Op}
use Rattle.ec_wire.specs.declared.op.Op.TheVariants.{Lookup, Stat, Write}
use Rattle.ec_wire.specs.declared.reply.Reply.TheVariants.{Granted, Head}
use Rattle.ec_wire.specs.declared.request.Request.TheVariants.{Ask, Query, Release}
use Rattle.ec_conduct.specs.Examples.{kept_grants, three}
use Rattle.ec_conduct.specs.Own.{Own, Sends, Hears, GivesUp, Answers}
use Rattle.ec_history.specs.Accounts.{Leaving, books, no_books}
use Rattle.ec_history.specs.MomentExamples.{empty_file}
use Rattle.ec_history.specs.NameExamples.{a}
use Rattle.ec_history.specs.Run.{fresh}
use Rattle.ec_history.specs.RunExample.{a_stat, idle, message}
use Rattle.ec_history.specs.Short.{head_of, two}

abbrev pub leaves_nothing : ℕ → Leaving
leaves_nothing a = record { kept = None; cache = [] }

-- the own entries of call 1
abbrev pub own_in : List Entry → List Own
own_in log = (books three leaves_nothing log (fresh idle) empty_file no_books).own 1

-- The call gives its ask up and releases it. The grant that comes late isn't handed to it, and the Release that is sent
-- then isn't its own.
abbrev pub a_late_grant : List Entry
a_late_grant = Called 1 1 (Stat two)
    ∷ Sent (message 1 0 (ToBrick (Ask two Inode Shared)))
    ∷ GivenUp 1 0 1
    ∷ Sent (message 2 0 (ToBrick (Release two 1)))
    ∷ Executed 1 None false
    ∷ Sent (message 3 0 (ToClient 1 Granted))
    ∷ Heard 3
    ∷ Sent (message 4 0 (ToBrick (Release two 1)))
    ∷ []

-- Call 1 is answered and keeps its grant at brick 0. Its client makes another call, which releases the grant: under the
-- number of the call that asked for it.
abbrev pub a_kept_grant : Op → List Entry
a_kept_grant op = Called 1 1 (Write two 0 (65 ∷ []))
    ∷ Sent (message 1 0 (ToBrick (Ask two Inode Exclusive)))
    ∷ Executed 1 None false
    ∷ Sent (message 2 0 (ToClient 1 Granted))
    ∷ Heard 2
    ∷ Answered 1 (Size 1)
    ∷ Called 2 1 op
    ∷ Sent (message 3 0 (ToBrick (Release two 1)))
    ∷ Answered 2 (Size 1)
    ∷ []

abbrev pub keeps_the_first : ℕ → Leaving
keeps_the_first a = record { kept = cond (a == 1) (Some kept_grants) None; cache = [] }

-- the own entries of call 2
abbrev pub own_after : Op → List Own
own_after op = (books three keeps_the_first (a_kept_grant op) (fresh idle) empty_file no_books).own 2

pub record OwnEntries : Type 0 where
  -- the Release is the second call's where it goes on under the grant, and else no call's
  pub taken_over : own_after (Stat two) ≡ Sends 0 3 (Release two 1) ∷ Answers (Size 1) ∷ []
  pub released_before : own_after (Lookup two a) ≡ Answers (Size 1) ∷ []
  pub of_a_stat : own_in a_stat ≡
      Sends 0 1 (Ask two Inode Shared) ∷ Hears 0 1 Granted
      ∷ Sends 1 3 (Ask two Inode Shared) ∷ GivesUp 1 3
      ∷ Sends 0 4 (Query two 1) ∷ Hears 0 4 (Head (head_of File 3 1024))
      ∷ Sends 0 6 (Release two 1) ∷ Answers (Size 1024) ∷ []
  pub of_a_late_grant : own_in a_late_grant ≡ Sends 0 1 (Ask two Inode Shared) ∷ GivesUp 0 1 ∷ Sends 0 2 (Release two 1) ∷ []
