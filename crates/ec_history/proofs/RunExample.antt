-- The worked example of a run is one.
use Rattle.std.specs.Prelude.{refl}
use Rattle.std.proofs.Common.{lit<}
use Rattle.ec_attr.specs.declared.kind.Domain.TheVariants.{Inode}
use Rattle.ec_attr.specs.declared.kind.Kind.TheVariants.{File}
use Rattle.ec_attr.specs.declared.kind.LockKind.TheVariants.{Shared}
use Rattle.ec_wire.specs.declared.message.Body.TheVariants.{ToBrick, ToClient}
use Rattle.ec_wire.specs.declared.op.Op.TheVariants.{Stat}
use Rattle.ec_wire.specs.declared.reply.Reply.TheVariants.{Granted, Head}
use Rattle.ec_wire.specs.declared.request.Request.TheVariants.{Ask, Query, Release}
use Rattle.ec_history.specs.Run.{Asker}
use Rattle.ec_history.specs.RunExample.{AStatIsARun, message}
use Rattle.ec_history.specs.Short.{head_of, two}

abbrev who : Asker
who = record { client = 1; op = Stat two }

pub a_stat_is_a_run : AStatIsARun
a_stat_is_a_run = (
  (refl, refl, refl),
  (
    (refl, record { asker = who; made = refl; of_client = refl; lives = refl; to = lit< tt; nothing_owed = refl; chunks = tt }),
    (
      record { message = message 1 0 (ToBrick (Ask two Inode Shared)); request = Ask two Inode Shared; at = record { said = refl; body = refl; flying = refl; up = refl; nothing_owed = refl }; read = refl; fault = refl },
      (
        (refl, record { call = refl; client = refl; brick = refl; to = refl; says = refl }),
        (
          record { message = message 2 0 (ToClient 1 Granted); re = 1; reply = Granted; said = refl; body = refl; flying = refl; lives = refl; nothing_owed = refl },
          (
            (refl, record { asker = who; made = refl; of_client = refl; lives = refl; to = lit< tt; nothing_owed = refl; chunks = tt }),
            (
              (refl, refl),
              (
                record { message = message 3 1 (ToBrick (Ask two Inode Shared)); said = refl; calling = record { asker = who; made = refl; of_client = refl; unanswered = refl; lives = refl }; waits = refl; nothing_owed = refl },
                (
                  (refl, record { asker = who; made = refl; of_client = refl; lives = refl; to = lit< tt; nothing_owed = refl; chunks = tt }),
                  (
                    record { message = message 4 0 (ToBrick (Query two 1)); request = Query two 1; at = record { said = refl; body = refl; flying = refl; up = refl; nothing_owed = refl }; read = refl; fault = refl },
                    (
                      (refl, record { call = refl; client = refl; brick = refl; to = refl; says = refl }),
                      (
                        record { message = message 5 0 (ToClient 4 (Head (head_of File 3 1024))); re = 4; reply = Head (head_of File 3 1024); said = refl; body = refl; flying = refl; lives = refl; nothing_owed = refl },
                        (
                          (refl, record { asker = who; made = refl; of_client = refl; lives = refl; to = lit< tt; nothing_owed = refl; chunks = tt }),
                          (
                            (1, record { asker = who; made = refl; of_client = refl; unanswered = refl; lives = refl }, refl),
                            (
                              record { message = message 6 0 (ToBrick (Release two 1)); request = Release two 1; at = record { said = refl; body = refl; flying = refl; up = refl; nothing_owed = refl }; read = refl; fault = refl },
                              tt,
                            ),
                          ),
                        ),
                      ),
                    ),
                  ),
                ),
              ),
            ),
          ),
        ),
      ),
    ),
  ),
)
