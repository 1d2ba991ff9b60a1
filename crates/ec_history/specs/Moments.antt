-- The moment of a call on a gfid: the place from which on the call holds its grants, as far as it will hold them. A
-- moment is a snapshot that the fold takes and keeps, never a place in the log.
use Rattle.std.specs.Prelude.{ℕ, Bool, true, false, cond, ◌==◌, ◌&&◌, nat_le, Option, Some, None, List, [], ◌∷◌, length}
use Rattle.std.specs.Cmp.Lexicographic.{slice_cmp}
use Rattle.std.specs.BTreeMap.{is_at}
use Rattle.std.specs.Ordering.{nat_cmp}
use Rattle.ec_attr.specs.declared.geometry.Geometry.{Geometry}
use Rattle.ec_wire.specs.declared.entry.Entry.{Entry}
use Rattle.ec_wire.specs.declared.entry.Entry.TheVariants.{Called, Sent, Executed, Heard, Torn}
use Rattle.ec_wire.specs.declared.message.Body.{Body}
use Rattle.ec_wire.specs.declared.message.Body.TheVariants.{ToBrick, ToClient}
use Rattle.ec_wire.specs.declared.message.Message.{Message}
use Rattle.ec_wire.specs.declared.reply.Reply.{Reply}
use Rattle.ec_wire.specs.declared.reply.Reply.TheVariants.{Chunks, Granted}
use Rattle.ec_wire.specs.declared.request.Request.{Request}
use Rattle.ec_wire.specs.declared.request.Request.TheVariants.{Ask, Release, Query, ReadChunks, WriteChunks, SetLength, PostOp, NameSet}
use Rattle.ec_brick.specs.State.{State}
use Rattle.ec_conduct.specs.Done.{item_at, or_else}
use Rattle.ec_history.specs.Flat.{Tree}
use Rattle.ec_history.specs.Run.{Net, after, is_number, out_of, put2}
use Rattle.ec_history.specs.Story.{Story, is_among, is_commit, is_done, is_heal, is_unmarked, op_of, request_of, told}
use Rattle.ec_store.specs.Put.{put}
use Rattle.ec_store.specs.Records.{head_at}

-- The flat files and the bricks then, and by gfid and brick the stripes and names on which a data request was executed
-- since.
pub record Moment : Type 0 where
  pub tree : Tree
  pub brick : ℕ → State
  pub stirred : ℕ → ℕ → ℕ → Bool
  pub stirred_name : ℕ → ℕ → List ℕ → Bool

abbrev pub now : Net → Story → Moment
now m t = record { tree = t.tree; brick = m.brick; stirred = λ g b s. false; stirred_name = λ g b n. false }

-- By call and gfid: `granted` is when the call last heard a Granted of the gfid that it waited for, `moment` when it last
-- had before it last sent a Query for it, and by call `last` is the gfid of its last Query. A call begins with its Called, which is its moment where it goes on under grants that its client
-- has kept. `asks` is whether it has asked a brick for anything, and `commits`, by client and gfid, when a call of the
-- client last committed: the moment of a call that asks no brick. `read` is, by call, gfid, brick and stripe, the chunk
-- that the call has last heard, and `rewritten` whether a data request was executed on the stripe there since the call heard
-- a chunk of it.
pub record Moments : Type 0 where
  pub granted : ℕ → ℕ → Moment
  pub moment : ℕ → ℕ → Moment
  pub last : ℕ → ℕ
  pub asks : ℕ → Bool
  pub commits : ℕ → ℕ → Moment
  pub read : ℕ → ℕ → ℕ → ℕ → Option (List ℕ)
  pub rewritten : ℕ → ℕ → ℕ → ℕ → Bool

abbrev pub no_moments : Moment → Moments
no_moments first = record { granted = λ a g. first; moment = λ a g. first; last = λ a. 0; asks = λ a. false; commits = λ c g. first; read = λ a g b s. None; rewritten = λ a g b s. false }

-- The moment of a call, by which it is answered: that of its last Query, its Called under kept grants where it has sent
-- none, and where it has asked no brick, its client's last commit on the gfid.
abbrev pub moment_of : Moments → ℕ → ℕ → ℕ → Moment
moment_of w a client g = cond (w.asks a) (w.moment a (w.last a)) (w.commits client g)

abbrev pub began_at : Moments → ℕ → Moment → Moments
began_at w a x = record w { granted = λ c g. cond (c == a) x (w.granted c g); moment = λ c g. cond (c == a) x (w.moment c g) }

-- a Query takes over when the call was last granted
abbrev pub asked_by : Moments → ℕ → Body → Moments
asked_by w a (ToBrick (Release g n)) = w
asked_by w a (ToBrick (Query g n)) = record w { asks = λ c. cond (c == a) true (w.asks c); moment = put2 w.moment a g.0 (w.granted a g.0); last = put w.last a g.0 }
asked_by w a (ToBrick q) = record w { asks = λ c. cond (c == a) true (w.asks c) }
asked_by w a (ToClient re reply) = w

abbrev pub reads : Moments → ℕ → ℕ → ℕ → ℕ → List (List ℕ) → Moments
reads w a g b first chunks = record w {
  read = λ c h d s. cond ((c == a) && (h == g) && (d == b)) (or_else (item_at first chunks s) (w.read c h d s)) (w.read c h d s);
  rewritten = λ c h d s. cond ((c == a) && (h == g) && is_among first (length chunks) s) false (w.rewritten c h d s);
}

-- what a call hears in reply to a request of its own
abbrev pub heard_of : Moments → Moment → Message → Request → Reply → Moments
heard_of w x msg (Ask g domain kind) Granted = record w { granted = put2 w.granted msg.call g.0 x }
heard_of w x msg (ReadChunks g n first count) (Chunks chunks) = reads w msg.call g.0 msg.brick first chunks
heard_of w x msg q reply = w

abbrev pub heard_from : Moments → Moment → Message → Option Request → Reply → Moments
heard_from w x msg None reply = w
heard_from w x msg (Some q) reply = heard_of w x msg q reply

abbrev pub body_of : Option Message → Option Request
body_of None = None
body_of (Some msg) = request_of msg.body

-- a reply that comes after its request was given up counts for nothing
abbrev pub heard_body : Net → Moments → Moment → Message → Body → Moments
heard_body m w x msg (ToBrick q) = w
heard_body m w x msg (ToClient re reply) = cond (is_number re (m.awaits msg.call msg.brick)) (heard_from w x msg (body_of (m.said re)) reply) w

abbrev pub heard_message : Net → Moments → Moment → Option Message → Moments
heard_message m w x None = w
heard_message m w x (Some msg) = heard_body m w x msg msg.body

-- a data request was executed on these stripes of gfid g at brick b
abbrev pub stirs : ℕ → ℕ → (ℕ → Bool) → Moment → Moment
stirs g b stripes x = record x { stirred = λ h d s. cond ((h == g) && (d == b) && stripes s) true (x.stirred h d s) }

abbrev pub stirs_name : ℕ → ℕ → List ℕ → Moment → Moment
stirs_name g b n x = record x { stirred_name = λ h d k. cond ((h == g) && (d == b) && is_at (slice_cmp nat_cmp n) k) true (x.stirred_name h d k) }

abbrev pub to_each : (Moment → Moment) → Moments → Moments
to_each f w = record w { granted = λ a g. f (w.granted a g); moment = λ a g. f (w.moment a g); commits = λ c g. f (w.commits c g) }

abbrev pub commit_at : Geometry → Net → Story → Moments → Message → ℕ → Moment → Moments
commit_at geometry m t w msg g x = cond (is_unmarked (head_at (m.brick msg.brick).records g) && is_commit geometry t msg.call g msg.brick) (record w { commits = put2 w.commits msg.client g x }) w

-- a data request was executed on these stripes of gfid g at brick b, since each moment and each read
abbrev pub stirred_at : ℕ → ℕ → (ℕ → Bool) → Moments → Moments
stirred_at g b stripes w = record (to_each (stirs g b stripes) w) { rewritten = λ c h d s. cond ((h == g) && (d == b) && stripes s) true (w.rewritten c h d s) }

-- a request that was done; `x` is the moment after it
abbrev pub done_of : Geometry → Net → Story → Moments → Message → Moment → Request → Moments
done_of geometry m t w msg x (WriteChunks g n first chunks) = cond (is_heal (op_of m msg.call)) w (stirred_at g.0 msg.brick (is_among first (length chunks)) w)
done_of geometry m t w msg x (SetLength g n keep count) = cond (is_heal (op_of m msg.call)) w (stirred_at g.0 msg.brick (λ s. nat_le keep s) w)
done_of geometry m t w msg x (NameSet g n name child) = to_each (stirs_name g.0 msg.brick name) w
done_of geometry m t w msg x (PostOp g n at version size attr) = commit_at geometry m t w msg g.0 x
done_of geometry m t w msg x q = w

-- a write of which a part may stand
abbrev pub partly : Net → Moments → Message → Request → Option ℕ → Moments
partly m w msg (WriteChunks g n first chunks) (Some version) = cond (is_heal (op_of m msg.call)) w (stirred_at g.0 msg.brick (is_among first (length chunks)) w)
partly m w msg q version = w

abbrev pub outcome_of : Geometry → Net → Story → Moments → Message → Moment → Request → Option ℕ → Bool → Moments
outcome_of geometry m t w msg x q version true = partly m w msg q version
outcome_of geometry m t w msg x q version false = cond (is_done (out_of m msg q version false).says) (done_of geometry m t w msg x q) w

abbrev pub executed_of : Geometry → Net → Story → Moments → Moment → Option Message → Option Request → Option ℕ → Bool → Moments
executed_of geometry m t w x (Some msg) (Some q) version failed = outcome_of geometry m t w msg x q version failed
executed_of geometry m t w x msg q version failed = w

abbrev pub torn_of : Net → Moments → Option Message → Option Request → Option ℕ → Moments
torn_of m w (Some msg) (Some q) version = partly m w msg q version
torn_of m w msg q version = w

-- What an entry makes of them; every other entry leaves them.
abbrev pub noted : Geometry → Net → Story → Moments → Entry → Moments
noted geometry m t w (Called call client op) = began_at w call (now m t)
noted geometry m t w (Sent msg) = asked_by w msg.call msg.body
noted geometry m t w (Heard i) = heard_message m w (now m t) (m.said i)
noted geometry m t w (Executed i version failed) = executed_of geometry m t w (now (after m (Executed i version failed)) (told geometry m t (Executed i version failed))) (m.said i) (body_of (m.said i)) version failed
noted geometry m t w (Torn i bytes version) = torn_of m w (m.said i) (body_of (m.said i)) version
noted geometry m t w e = w

-- All that has come of a log.
pub record Past : Type 0 where
  pub net : Net
  pub story : Story
  pub moments : Moments

abbrev pub past_after : Geometry → Past → Entry → Past
past_after geometry p e = record { net = after p.net e; story = told geometry p.net p.story e; moments = noted geometry p.net p.story p.moments e }

abbrev pub past : Geometry → List Entry → Past → Past
past geometry [] p = p
past geometry (e ∷ es) p = past geometry es (past_after geometry p e)
