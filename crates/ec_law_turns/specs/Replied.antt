-- What bricks told calls of grants: an exclusive grant of the content was there before the turn's moment, or it was told
-- after the Queries.
use Rattle.std.specs.Prelude.{◌≡◌, ◌⊎◌, ℕ, ◌<◌, Bool, true, ◌&&◌, ◌||◌, Option, Some, List, [], ◌∷◌}
use Rattle.ec_attr.specs.declared.gfid.Gfid.{Gfid}
use Rattle.ec_attr.specs.declared.kind.Domain.TheVariants.{Inode}
use Rattle.ec_attr.specs.declared.kind.LockKind.TheVariants.{Exclusive}
use Rattle.ec_wire.specs.declared.message.Body.TheVariants.{ToBrick, ToClient}
use Rattle.ec_wire.specs.declared.message.Message.{Message}
use Rattle.ec_wire.specs.declared.reply.Reply.TheVariants.{Granted}
use Rattle.ec_wire.specs.declared.request.Request.TheVariants.{Ask, Query}
use Rattle.ec_brick.specs.Replies.{Is}
use Rattle.ec_conduct.specs.Account.{Account, Dealings, Lock}
use Rattle.ec_conduct.specs.Given.{Given}
use Rattle.ec_conduct.specs.Opened.{account}
use Rattle.ec_history.specs.Accounts.{Books}
use Rattle.ec_history.specs.Run.{Owed}
use Rattle.ec_law_base.specs.State.{State}

-- the brick gave the turn its grant before the turn's moment
abbrev pub is_early : State → ℕ → ℕ → Bool
is_early s a b = s.early a b && s.granted a b

abbrev pub is_early_yet : State → ℕ → ℕ → Bool
is_early_yet s a b = is_early s a b || s.moment a

-- Message i was sent; where it is an exclusive ask for the content of the gfid, this holds of its brick.
pub record OfAsk (g : ℕ) (said : ℕ → Option Message) (i : ℕ) (P : ℕ → Type 0) : Type 0 where
  pub message : Message
  pub is : said i ≡ Some message
  pub at : (x : Gfid) → message.body ≡ ToBrick (Ask x Inode Exclusive) → x.0 ≡ g → P message.brick

abbrev pub GrantTold : ℕ → (ℕ → Option Message) → (ℕ → ℕ) → State → ℕ → Type 0
GrantTold g said of s i = OfAsk g said i (λ b. is_early_yet s (of i) b ≡ true)

abbrev pub QueryTold : ℕ → (ℕ → Option Message) → (ℕ → ℕ) → State → ℕ → Type 0
QueryTold g said of s i = OfAsk g said i (λ b. is_early s (of i) b ≡ true)

-- it was told before the Queries, or after the step in which they went out
abbrev pub LockTold : ℕ → (ℕ → Option Message) → (ℕ → ℕ) → State → ℕ → Option ℕ → ℕ → Type 0
LockTold g said of s steps queried i = OfAsk g said i (λ b. (is_early s (of i) b ≡ true) ⊎ ((t : ℕ) × (queried ≡ Some t) × (t < steps)))

-- of the grants that a call has heard
abbrev pub AreTold : ℕ → (ℕ → Option Message) → (ℕ → ℕ) → State → ℕ → Dealings → Type 0
AreTold g said of s steps d = (b : ℕ) (l : Lock) → (d.place b).inode ≡ Some l → l.granted ≡ true → LockTold g said of s steps d.queried l.number

abbrev pub CallTold : ℕ → (ℕ → Option Message) → (ℕ → ℕ) → State → Account → Type 0
CallTold g said of s c = AreTold g said of s c.steps (c.on g)

abbrev pub OwedTold : ℕ → (ℕ → Option Message) → (ℕ → ℕ) → State → List Owed → Type 0
OwedTold g said of s [] = Unit {0}
OwedTold g said of s (o ∷ owed) = (o.says ≡ Is Granted → GrantTold g said of s o.re) × OwedTold g said of s owed

-- Of who has the content, of each Granted that is owed or was sent, of the grants that calls have heard, and of each Query.
pub record Replied (g : ℕ) (said : ℕ → Option Message) (of : ℕ → ℕ) (owed : List Owed) (s : State) (b : Books) : Type 0 where
  pub holders : (x a : ℕ) → s.holder x ≡ Some a → is_early_yet s a x ≡ true
  pub to_say : OwedTold g said of s owed
  pub sent : (i : ℕ) (x : Message) (re : ℕ) → said i ≡ Some x → x.body ≡ ToClient re Granted → GrantTold g said of s re
  pub calls : (a : ℕ) (given : Given) → b.given a ≡ Some given → CallTold g said of s (account given (b.own a))
  pub queries : (i : ℕ) (x : Message) (y : Gfid) (n : ℕ) → said i ≡ Some x → x.body ≡ ToBrick (Query y n) → y.0 ≡ g → QueryTold g said of s n
