-- How the shapes of the machine of pieces stand to the records of the bricks, to what the calls were told of heads, and to
-- what they do.
use Rattle.std.specs.Prelude.{◌≡◌, ◌⊎◌, ℕ, ◌+◌, ◌^◌, ◌<◌, ◌≤◌, Bool, true, false, Option, Some, None, unwrap_or, List, [], ◌∷◌}
use Rattle.ec_attr.specs.Marks.{is_marked}
use Rattle.ec_attr.specs.declared.attr.Attr.{Attr}
use Rattle.ec_attr.specs.declared.gfid.Gfid.{Gfid}
use Rattle.ec_attr.specs.declared.head.Head.{Head}
use Rattle.ec_store.specs.Records.{head_at}
use Rattle.ec_wire.specs.declared.message.Body.TheVariants.{ToBrick, ToClient}
use Rattle.ec_wire.specs.declared.message.Message.{Message}
use Rattle.ec_wire.specs.declared.op.Op.{Op}
use Rattle.ec_wire.specs.declared.reply.Reply.{Reply}
use Rattle.ec_wire.specs.declared.reply.Reply.TheVariants.{Head as HeadIs}
use Rattle.ec_wire.specs.declared.request.Request.{Request}
use Rattle.ec_wire.specs.declared.request.Request.TheVariants.{PostOp, Query}
use Rattle.ec_brick.specs.Replies.{Replies}
use Rattle.ec_conduct.specs.Account.{Exchange}
use Rattle.ec_conduct.specs.Ballots.{attr_after, size_after}
use Rattle.ec_conduct.specs.Given.{Given}
use Rattle.ec_conduct.specs.Opened.{account}
use Rattle.ec_history.specs.Accounts.{Books}
use Rattle.ec_history.specs.Run.{Net, Owed}
use Rattle.ec_law_base.specs.State.{State}
use Rattle.ec_law_pieces.specs.File.{File}
use Rattle.ec_law_net.specs.Turns.{View}
use Rattle.ec_law_turns.specs.Follows.{All}
use Rattle.ec_law_data.specs.Forms.{Shape}

-- the shape that a head tells
abbrev pub head_shape : Head → Shape
head_shape h = record { size = h.size; attr = h.attr }

-- the shape that a PostOp with this size and attribute gives a record whose attribute was `old`
abbrev pub posted_shape : ℕ → Option Attr → Attr → Shape
posted_shape size attr old = record { size = size; attr = unwrap_or attr old }

-- the shape that a call's commit makes of that of its group
abbrev pub shape_after : Op → Shape → Shape
shape_after op s = posted_shape (size_after op s.size) (attr_after op) s.attr

-- ## What bricks told

-- What the reply to a request of turn a tells of brick b: the machine saw nothing there for the turn, or the shape of an
-- unmarked head is the one that the turn was told.
abbrev pub TellsShape : ℕ → State → (ℕ → ℕ → Shape) → ℕ → ℕ → Request → Reply → Type 0
TellsShape g s told a b (Query x n) (HeadIs h) = x.0 ≡ g → (s.seen a b ≡ None) ⊎ (is_marked h.version.content ≡ false → told a b ≡ head_shape h)
TellsShape g s told a b q reply = Unit {0}

-- message i has arrived, and the reply to it tells so
pub record IsShape (g : ℕ) (said : ℕ → Option Message) (flying : ℕ → Bool) (of : ℕ → ℕ) (s : State) (told : ℕ → ℕ → Shape) (i : ℕ) (reply : Reply) : Type 0 where
  pub message : Message
  pub is : said i ≡ Some message
  pub landed : flying i ≡ false
  pub at : (q : Request) → message.body ≡ ToBrick q → TellsShape g s told (of i) message.brick q reply

-- a property of the replies that are owed
abbrev pub OwedAre : (ℕ → Reply → Type 0) → List Owed → Type 0
OwedAre P [] = Unit {0}
OwedAre P (o ∷ owed) = ((reply : Reply) → Replies o.says (Some reply) → P o.re reply) × OwedAre P owed

abbrev pub ReplyIs : (ℕ → Reply → Type 0) → Exchange → Type 0
ReplyIs P e = (reply : Reply) → e.reply ≡ Some reply → P e.number reply

-- It holds of each reply that is owed or was sent, and of each that a call has heard in a window.
pub record Spread (P : ℕ → Reply → Type 0) (m : Net) (b : Books) : Type 0 where
  pub to_say : OwedAre P m.owed
  pub sent : (i : ℕ) (x : Message) (re : ℕ) (reply : Reply) → m.said i ≡ Some x → x.body ≡ ToClient re reply → P re reply
  pub heard : (a : ℕ) (given : Given) → b.given a ≡ Some given → (h x : ℕ) → All (ReplyIs P) (((account given (b.own a)).on h).place x).window

-- ## The machine

-- Shapes are those of the records and of what was told, and plans those that calls make of them.
pub record ShapesFollow {P V C U : Type 0} (n first g : ℕ) (new : Shape) (m : Net) (v : View) (b : Books) (f : File P V C U Shape) : Type 0 where
  pub heads : f.heads ≡ v.core
  -- an unmarked record has its shape
  pub here : (c : ℕ) (h : Head) → c < n → head_at (m.brick c).records g ≡ Some h → is_marked h.version.content ≡ false → f.shape c ≡ head_shape h
  pub told : Spread (IsShape g m.said m.flying v.of f.heads f.told) m b
  -- what the present turn of a call has planned is what the call makes of the shape of its group
  pub plans : (a : ℕ) (given : Given) (t : ℕ) → b.given a ≡ Some given → v.turn a ≡ Some t → f.planned t ≡ true → f.becomes t ≡ shape_after given.op (f.took t)
  -- and a PostOp gives a record this shape, if it had that of the group
  pub posts : (i : ℕ) (x : Message) (y : Gfid) (k at version size : ℕ) (attr : Option Attr) → m.said i ≡ Some x → x.body ≡ ToBrick (PostOp y k at version size attr) → y.0 ≡ g → (f.planned (v.of i) ≡ true) × (f.becomes (v.of i) ≡ posted_shape size attr (f.took (v.of i)).attr)
  pub fresh : (t : ℕ) → 2 ^ 61 + m.next ≤ t → f.planned t ≡ false
  -- a turn that has planned has a ballot
  pub numbered : (t : ℕ) → f.planned t ≡ true → 0 < (v.core.ballot t).number
  -- the first record of a gfid that the log makes had the shape of a new one
  pub made : first ≤ g → v.core.making ≡ true → f.shape_of 0 ≡ new
