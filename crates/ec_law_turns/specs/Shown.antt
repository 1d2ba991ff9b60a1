-- What bricks told calls of heads and of what they did, and what calls made of it: their ballots, and the requests that
-- stand on them.
use Rattle.std.specs.Prelude.{◌≡◌, ◌⊎◌, ℕ, ◌+◌, ◌^◌, ◌<◌, ◌≤◌, true, false, Option, Some, None, List, [], ◌∷◌}
use Rattle.ec_attr.specs.Marks.{is_marked}
use Rattle.ec_attr.specs.declared.geometry.Geometry.{Geometry}
use Rattle.ec_attr.specs.declared.head.Head.{Head}
use Rattle.ec_wire.specs.declared.message.Body.TheVariants.{ToBrick, ToClient}
use Rattle.ec_wire.specs.declared.message.Message.{Message}
use Rattle.ec_wire.specs.declared.reply.Reply.{Reply}
use Rattle.ec_wire.specs.declared.reply.Reply.TheVariants.{Head as HeadIs}
use Rattle.ec_wire.specs.declared.request.Request.{Request}
use Rattle.ec_wire.specs.declared.request.Request.TheVariants.{Query, PreOp, PostOp, Make}
use Rattle.ec_brick.specs.Replies.{Replies}
use Rattle.ec_conduct.specs.Account.{Account, Dealings, Exchange, Wait, gfid_of}
use Rattle.ec_conduct.specs.Done.{is_done, is_query, reply_to}
use Rattle.ec_conduct.specs.Given.{Given, quorum}
use Rattle.ec_conduct.specs.Group.{Heads, group_head}
use Rattle.ec_conduct.specs.Opened.{account}
use Rattle.ec_conduct.specs.Standing.{head_of}
use Rattle.ec_history.specs.Accounts.{Books}
use Rattle.ec_history.specs.Run.{Owed}
use Rattle.ec_law_base.specs.State.{State}
use Rattle.ec_law_net.specs.Start.{seen_head}
use Rattle.ec_law_turns.specs.Follows.{All}
use Rattle.ec_law_turns.specs.Replied.{OfAsk}
use Rattle.ec_law_turns.specs.Told.{Told}

-- ## Replies

-- What a reply to a request of turn a tells of brick b: a head that was shown under an exclusive grant is the one that the
-- machine saw there, unless the turn had its ballot by then; what was done on an unmarked record counts, and so does a Make.
abbrev pub Tells : ℕ → (ℕ → Option Message) → State → ℕ → ℕ → Request → Reply → Type 0
Tells g said s a b (Query x n) (HeadIs h) = x.0 ≡ g → OfAsk g said n (λ y. (s.seen a b ≡ Some (seen_head (Some h))) ⊎ (0 < (s.ballot a).number))
Tells g said s a b (PreOp x n at dirty) reply = x.0 ≡ g → is_done (Some reply) ≡ true → is_marked at ≡ false → s.pre a b ≡ true
Tells g said s a b (PostOp x n at version size attr) reply = x.0 ≡ g → is_done (Some reply) ≡ true → is_marked at ≡ false → s.post a b ≡ true
Tells g said s a b (Make x n child) reply = child.gfid.0 ≡ g → is_done (Some reply) ≡ true → s.born b ≡ true
Tells g said s a b q reply = Unit {0}

-- message i was sent, and this is told by the reply to it
pub record IsTold (g : ℕ) (said : ℕ → Option Message) (of : ℕ → ℕ) (s : State) (i : ℕ) (reply : Reply) : Type 0 where
  pub message : Message
  pub is : said i ≡ Some message
  pub at : (q : Request) → message.body ≡ ToBrick q → Tells g said s (of i) message.brick q reply

abbrev pub OwedShown : ℕ → (ℕ → Option Message) → (ℕ → ℕ) → State → List Owed → Type 0
OwedShown g said of s [] = Unit {0}
OwedShown g said of s (o ∷ owed) = ((reply : Reply) → Replies o.says (Some reply) → IsTold g said of s o.re reply) × OwedShown g said of s owed

-- ## Accounts

-- a request on the gfid that is over
pub record IsOver (g : ℕ) (said : ℕ → Option Message) (of : ℕ → ℕ) (s : State) (e : Exchange) : Type 0 where
  pub on : gfid_of e.request ≡ Some g
  pub told : (reply : Reply) → e.reply ≡ Some reply → IsTold g said of s e.number reply

-- the heads that bricks answered in this window, and the head of their good group
abbrev pub heads_in : Dealings → Heads
heads_in d b = head_of (reply_to is_query (d.place b).window)

abbrev pub group_in : Geometry → Dealings → Option Head
group_in geometry d = group_head geometry.n (quorum geometry) (heads_in d)

-- A call that has sent a PreOp with this number: it is that of its turn's ballot, over the group of the heads that it heard,
-- which are those that the machine saw. No Query is waited for.
pub record IsRaised (geometry : Geometry) (g : ℕ) (turn : ℕ → Option ℕ) (s : State) (a : ℕ) (waits : ℕ → Option Wait) (steps : ℕ) (d : Dealings) (number : ℕ) : Type 0 where
  pub t : ℕ
  pub has : turn a ≡ Some t
  pub head : Head
  pub group : group_in geometry d ≡ Some head
  pub ballot : s.ballot t ≡ record { base = head.version.content; number = number }
  pub above : 0 < number
  pub queried : (step : ℕ) × (d.queried ≡ Some step) × (step < steps)
  pub idle : (b : ℕ) (w : Wait) → waits b ≡ Some w → gfid_of w.request ≡ Some g → is_query w.request ≡ false
  pub seen : (b : ℕ) (h : Head) → heads_in d b ≡ Some h → s.seen t b ≡ Some (seen_head (Some h))

-- Before its first PreOp its turn has no ballot.
pub record Learns (geometry : Geometry) (g : ℕ) (said : ℕ → Option Message) (turn : ℕ → Option ℕ) (of : ℕ → ℕ) (s : State) (a : ℕ) (waits : ℕ → Option Wait) (steps : ℕ) (d : Dealings) : Type 0 where
  pub window : (b : ℕ) → All (IsOver g said of s) (d.place b).window
  pub free : d.dirty ≡ None → (t : ℕ) → turn a ≡ Some t → (s.ballot t).number ≡ 0
  pub raised : (number : ℕ) → d.dirty ≡ Some number → IsRaised geometry g turn s a waits steps d number

abbrev pub HasLearnt : Geometry → ℕ → (ℕ → Option Message) → (ℕ → Option ℕ) → (ℕ → ℕ) → State → ℕ → Account → Type 0
HasLearnt geometry g said turn of s a c = Learns geometry g said turn of s a c.waits c.steps (c.on g)

-- ## A log

-- Of each reply that is owed or was sent, of each request, of the accounts of calls, and of turns that are yet to begin.
pub record Shown (geometry : Geometry) (g : ℕ) (said : ℕ → Option Message) (next : ℕ) (turn : ℕ → Option ℕ) (of : ℕ → ℕ) (owed : List Owed) (s : State) (b : Books) : Type 0 where
  pub to_say : OwedShown g said of s owed
  pub sent : (i : ℕ) (x : Message) (re : ℕ) (reply : Reply) → said i ≡ Some x → x.body ≡ ToClient re reply → IsTold g said of s re reply
  pub asked : (i : ℕ) (x : Message) (q : Request) → said i ≡ Some x → x.body ≡ ToBrick q → Told geometry.n (quorum geometry) g said of s (of i) x.brick q
  pub calls : (a : ℕ) (given : Given) → b.given a ≡ Some given → HasLearnt geometry g said turn of s a (account given (b.own a))
  pub fresh : (t : ℕ) → 2 ^ 61 + next ≤ t → (s.ballot t).number ≡ 0
