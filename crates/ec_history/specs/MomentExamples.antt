-- Worked examples of moments: which version of the flat file a call is answered by.
use Rattle.std.specs.Prelude.{◌≡◌, ℕ, false, true, None, List, [], ◌∷◌, ◌++◌}
use Rattle.ec_attr.specs.declared.kind.Domain.TheVariants.{Inode}
use Rattle.ec_attr.specs.declared.kind.Kind.TheVariants.{File}
use Rattle.ec_attr.specs.declared.kind.LockKind.TheVariants.{Exclusive, Shared}
use Rattle.ec_locks.specs.declared.ask.Ask.{Ask as Asking}
use Rattle.ec_store.specs.Put.{put}
use Rattle.ec_wire.specs.declared.entry.Entry.{Entry}
use Rattle.ec_wire.specs.declared.entry.Entry.TheVariants.{Called, Heard, Sent}
use Rattle.ec_wire.specs.declared.message.Body.TheVariants.{ToClient}
use Rattle.ec_wire.specs.declared.op.Op.TheVariants.{Heal, Stat, Write}
use Rattle.ec_wire.specs.declared.reply.Reply.TheVariants.{Chunks, Granted}
use Rattle.ec_wire.specs.declared.request.Request.TheVariants.{Ask, PostOp, Query, ReadChunks, Release, WriteChunks}
use Rattle.ec_brick.specs.State.{State}
use Rattle.ec_conduct.specs.Examples.{three}
use Rattle.ec_history.specs.Examples.{alike, cut_off}
use Rattle.ec_history.specs.Flat.{blank}
use Rattle.ec_history.specs.Moments.{Moments, Past, moment_of, no_moments, now, past}
use Rattle.ec_history.specs.Run.{fresh}
use Rattle.ec_history.specs.Short.{brick_at, bricks_of, does, flat_of, lock, two}
use Rattle.ec_history.specs.Story.{Story, opening}

abbrev pub empty_file : Story
empty_file = opening (put (λ g. blank) 2 (flat_of File 0 0 0)) 3

-- over these bricks, with an empty file
abbrev pub beginning : (ℕ → State) → Past
beginning bricks = record { net = fresh bricks; story = empty_file; moments = no_moments (now (fresh bricks) empty_file) }

-- the version of the file at the moment of a call
abbrev pub version_at : (ℕ → State) → List Entry → ℕ → ℕ → ℕ
version_at bricks log call client = ((moment_of (past three log (beginning bricks)).moments call client 2).tree 2).version

-- brick 0 is free, and client 2 has the others locked
abbrev pub theirs : List Asking
theirs = lock 92 2 Inode ∷ []

abbrev pub two_locked : ℕ → State
two_locked = bricks_of (brick_at File 0 0 []) (brick_at File 0 0 theirs) (brick_at File 0 0 theirs)

-- message `number` grants client 1 its ask `re` of call 1
abbrev pub is_granted : ℕ → ℕ → ℕ → List Entry
is_granted number brick re = Sent (record { no = number; call = 1; client = 1; brick = brick; body = ToClient re Granted }) ∷ Heard number ∷ []

-- A stat of client 1 is granted brick 0; then client 2 commits and lets go, and the stat is granted brick 1 and asks.
abbrev pub a_stat : List Entry
a_stat = Called 1 1 (Stat two) ∷ does 1 1 1 0 (Ask two Inode Shared) ++ is_granted 2 0 1
    ++ Called 2 2 (Write two 0 (65 ∷ [])) ∷ does 3 2 2 1 (PostOp two 92 0 1 1 None) ++ does 4 2 2 2 (PostOp two 92 0 1 1 None)
    ++ does 5 2 2 1 (Release two 92) ++ does 6 1 1 1 (Ask two Inode Shared) ++ is_granted 7 1 6 ++ does 8 1 1 0 (Query two 1)

-- Client 1 commits and keeps its grants; then it is cut off, client 2 commits, and client 1 calls again.
abbrev pub a_kept_stat : List Entry
a_kept_stat = Called 1 1 (Write two 0 (65 ∷ [])) ∷ does 1 1 1 0 (PostOp two 91 0 1 1 None) ++ does 2 1 1 1 (PostOp two 91 0 1 1 None)
    ++ cut_off ++ Called 2 2 (Write two 0 (66 ∷ [])) ∷ does 3 2 2 0 (PostOp two 92 1 2 1 None) ++ does 4 2 2 1 (PostOp two 92 1 2 1 None)
    ++ Called 3 1 (Stat two) ∷ []

-- A heal reads a stripe; then client 2 writes it at brick 2, and the heal asks again.
abbrev pub a_heal : List Entry
a_heal = Called 1 1 (Heal two) ∷ does 1 1 1 0 (ReadChunks two 0 0 1) ++ Sent (record { no = 2; call = 1; client = 1; brick = 0; body = ToClient 1 (Chunks ((66 ∷ []) ∷ [])) }) ∷ Heard 2 ∷ []
    ++ Called 2 2 (Write two 0 (65 ∷ [])) ∷ does 3 2 2 2 (WriteChunks two 92 0 ((65 ∷ []) ∷ []))
    ++ does 4 1 1 0 (Ask two Inode Exclusive) ++ is_granted 5 0 4 ++ does 6 1 1 0 (Query two 4)

abbrev pub after_heal : Moments
after_heal = (past three a_heal (beginning two_locked)).moments

pub record MomentOfCalls : Type 0 where
  -- the last Granted before the Query, and not the first
  pub last_granted : version_at two_locked a_stat 1 1 ≡ 1
  -- under kept grants its client's last commit, where it asks nobody, and else its Called
  pub asks_nobody : version_at (alike 0 0) a_kept_stat 3 1 ≡ 1
  pub asks : version_at (alike 0 0) (a_kept_stat ++ does 5 3 1 0 (PostOp two 91 2 3 1 None)) 3 1 ≡ 2
  -- the stripe was written since the heal read it, and not since its moment
  pub since_read : after_heal.rewritten 1 2 2 0 ≡ true
  pub before_moment : (after_heal.moment 1 2).stirred 2 2 0 ≡ false
