-- What holds of a cluster's own data, whatever its stores tell.
use Rattle.std.specs.Prelude.{◌≡◌, ℕ, ◌+◌, ◌≤◌, ◌<◌, ◌^◌, Option, Some, None, List, length, slice_get}
use Rattle.std.specs.List.{All}
use Rattle.ec_brick.specs.Fit.{IsFit, IsFitReply}
use Rattle.ec_brick.specs.State.{asks_of}
use Rattle.ec_brick.specs.declared.brick.Brick.{Brick}
use Rattle.ec_locks.specs.declared.ask.Ask.{Ask}
use Rattle.ec_wire.specs.declared.entry.Entry.{Entry}
use Rattle.ec_wire.specs.declared.entry.Entry.TheVariants.{Sent}
use Rattle.ec_wire.specs.declared.message.Body.{Body}
use Rattle.ec_wire.specs.declared.message.Body.TheVariants.{ToBrick, ToClient}
use Rattle.ec_wire.specs.declared.message.Message.{Message}
use Rattle.ec_wire.specs.declared.reply.Reply.{Reply}
use Rattle.ec_wire.specs.declared.request.Request.{Request}
use Rattle.ec_wire.specs.declared.request.Request.TheVariants.{Ask as Asks}
use Rattle.ec_cluster.specs.Said.{said_in}
use Rattle.ec_cluster.specs.Views.{bricks_of, flight, log_of, next_of, places_of}
use Rattle.ec_cluster.specs.declared.cluster.Cluster.{Cluster}

-- a reply is of the call, the client and the brick of the request that it answers, and is fit to it
pub record IsReplyTo (said : ℕ → Option Message) (m : Message) (re : ℕ) (reply : Reply) : Type 0 where
  pub asked : Message
  pub request : Request
  pub sent : said re ≡ Some asked
  pub body : asked.body ≡ ToBrick request
  pub call : m.call ≡ asked.call
  pub client : m.client ≡ asked.client
  pub brick : m.brick ≡ asked.brick
  pub fits : IsFitReply request reply

abbrev pub IsFitBody : (ℕ → Option Message) → Message → Body → Type 0
IsFitBody said m (ToBrick q) = IsFit q
IsFitBody said m (ToClient re reply) = IsReplyTo said m re reply

-- a message in flight was sent, goes to or comes from one of n bricks, and is fit
pub record IsFlying (n : ℕ) (said : ℕ → Option Message) (i : ℕ) (m : Message) : Type 0 where
  pub sent : said i ≡ Some m
  pub own : m.no ≡ i
  pub brick : m.brick < n
  pub fit : IsFitBody said m m.body

-- an ask that a brick's lock table has was sent to that brick by that client
pub record IsAsked (said : ℕ → Option Message) (b : ℕ) (a : Ask) : Type 0 where
  pub message : Message
  pub sent : said a.number ≡ Some message
  pub client : message.client ≡ a.client
  pub brick : message.brick ≡ b
  pub body : message.body ≡ ToBrick (Asks a.gfid a.domain a.kind)

-- the log has message i at place p
pub record IsPlaced (log : List Entry) (i p : ℕ) : Type 0 where
  pub message : Message
  pub at : slice_get log p ≡ Some (Sent message)
  pub said : said_in log i ≡ Some message

-- messages are numbered from 1 on, and the log has each at its place
pub record ArePlaced (log : List Entry) (places : List ℕ) (next : ℕ) : Type 0 where
  pub each : (i p : ℕ) → slice_get places i ≡ Some p → IsPlaced log (i + 1) p
  pub none_later : (i : ℕ) → next ≤ i → said_in log i ≡ None
  pub no_zero : said_in log 0 ≡ None
  pub count : length places + 1 ≡ next

pub record IsSoundOf (bricks : List Brick) (flying : ℕ → Option Message) (next : ℕ) (log : List Entry) (places : List ℕ) : Type 0 where
  pub flies : (i : ℕ) (m : Message) → flying i ≡ Some m → IsFlying (length bricks) (said_in log) i m
  pub asks : (b : ℕ) (k : Brick) → slice_get bricks b ≡ Some k → All (IsAsked (said_in log) b) (asks_of k)
  pub placed : ArePlaced log places next
  pub limit : next ≤ 2 ^ 62

abbrev pub IsSound : Cluster → Type 0
IsSound c = IsSoundOf (bricks_of c) (flight c) (next_of c) (log_of c) (places_of c)
