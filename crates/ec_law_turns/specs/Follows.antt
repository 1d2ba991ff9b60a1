-- How a call's account stands to the log, seen from one gfid: what it waits for and what is over are messages of its turn.
use Rattle.std.specs.Prelude.{◌≡◌, ◌≢◌, ◌⊎◌, ℕ, ◌+◌, ◌-◌, ◌^◌, ◌<◌, ◌≤◌, Bool, true, false, Option, Some, None, List, [], ◌∷◌}
use Rattle.ec_attr.specs.declared.geometry.Geometry.{Geometry}
use Rattle.ec_attr.specs.declared.gfid.Gfid.{Gfid}
use Rattle.ec_attr.specs.declared.kind.Domain.TheVariants.{Inode}
use Rattle.ec_attr.specs.declared.kind.LockKind.{LockKind}
use Rattle.ec_wire.specs.declared.message.Body.TheVariants.{ToBrick}
use Rattle.ec_wire.specs.declared.message.Message.{Message}
use Rattle.ec_wire.specs.declared.request.Request.{Request}
use Rattle.ec_wire.specs.declared.request.Request.TheVariants.{Ask}
use Rattle.ec_conduct.specs.Account.{Account, Dealings, Exchange, Lock, Wait, gfid_of}
use Rattle.ec_conduct.specs.Conduct.{is_release}
use Rattle.ec_conduct.specs.Done.{is_query, tried}
use Rattle.ec_conduct.specs.Given.{Given}
use Rattle.ec_history.specs.Accounts.{Books}
use Rattle.ec_history.specs.Run.{Asker, Owed, call_of}
use Rattle.ec_law_turns.specs.Orderly.{IsPlain}

-- message i is call a's, with this request to brick b
pub record IsSaid (said : ℕ → Option Message) (a b i : ℕ) (q : Request) : Type 0 where
  pub message : Message
  pub is : said i ≡ Some message
  pub call : message.call ≡ a
  pub brick : message.brick ≡ b
  pub body : message.body ≡ ToBrick q

-- message i is call a's ask to brick b for the content of the gfid
pub record IsLock (g : ℕ) (said : ℕ → Option Message) (a b i : ℕ) : Type 0 where
  pub gfid : Gfid
  pub kind : LockKind
  pub on : gfid.0 ≡ g
  pub asks : IsSaid said a b i (Ask gfid Inode kind)

-- the exchange with this number and request is in the list
abbrev pub Has : ℕ → Request → List Exchange → Type 0
Has i q [] = ⊥
Has i q (e ∷ es) = ((e.number ≡ i) × (e.request ≡ q)) ⊎ Has i q es

abbrev pub All : (Exchange → Type 0) → List Exchange → Type 0
All P [] = Unit {0}
All P (e ∷ es) = P e × All P es

-- a request to brick b in the call's turn
abbrev pub IsOfTurn : (ℕ → Option Message) → (ℕ → Option ℕ) → (ℕ → ℕ) → ℕ → ℕ → ℕ → Request → Type 0
IsOfTurn said turn of a b i q = IsSaid said a b i q × (turn a ≡ Some (of i))

-- The account of call a and the messages of its turn on the gfid, by the turn's moment: the account's waits, its steps and
-- its dealings with the gfid.
pub record Tracks (g : ℕ) (said : ℕ → Option Message) (turn : ℕ → Option ℕ) (of : ℕ → ℕ) (moment : ℕ → Bool) (a : ℕ) (waits : ℕ → Option Wait) (steps : ℕ) (d : Dealings) : Type 0 where
  pub waiting : (b : ℕ) (w : Wait) → waits b ≡ Some w → IsSaid said a b w.number w.request
  pub waits_in : (b : ℕ) (w : Wait) → waits b ≡ Some w → gfid_of w.request ≡ Some g → (turn a ≡ Some (of w.number)) × ((d.place b).inode ≢ None)
  pub sent : (b i : ℕ) (q : Request) → IsSaid said a b i q → gfid_of q ≡ Some g → is_release q ≡ false → turn a ≡ Some (of i) → (waits b ≡ Some (record { number = i; request = q })) ⊎ Has i q (d.place b).window
  pub window : (b : ℕ) → All (λ e. IsOfTurn said turn of a b e.number e.request) (d.place b).window
  pub lock : (b : ℕ) (l : Lock) → (d.place b).inode ≡ Some l → (turn a ≡ Some (of l.number)) × IsLock g said a b l.number
  pub unhealed : (b : ℕ) → (d.place b).heal ≡ None
  pub looking : (b : ℕ) (w : Wait) → waits b ≡ Some w → gfid_of w.request ≡ Some g → is_query w.request ≡ true → d.queried ≢ None
  pub looked : (b : ℕ) → tried is_query (d.place b).window ≡ true → (s : ℕ) × (d.queried ≡ Some s) × (s < steps)
  pub begins : d.queried ≡ None → (t : ℕ) → turn a ≡ Some t → moment t ≡ false
  pub over : (s : ℕ) → d.queried ≡ Some s → (s ≤ steps) × (t : ℕ) × (turn a ≡ Some t) × (moment t ≡ true)

abbrev pub Follows : ℕ → (ℕ → Option Message) → (ℕ → Option ℕ) → (ℕ → ℕ) → (ℕ → Bool) → ℕ → Account → Type 0
Follows g said turn of moment a c = Tracks g said turn of moment a c.waits c.steps (c.on g)

-- Messages have their numbers, and a turn has its call's: that of the ask that began it.
pub record Messages (n : ℕ) (said : ℕ → Option Message) (next : ℕ) (turn : ℕ → Option ℕ) (of : ℕ → ℕ) : Type 0 where
  pub number : (i : ℕ) (x : Message) → said i ≡ Some x → (x.no ≡ i) × (i < next)
  pub to : (i : ℕ) (x : Message) (q : Request) → said i ≡ Some x → x.body ≡ ToBrick q → x.brick < n
  pub below : (i : ℕ) (x : Message) → said i ≡ Some x → of i < 2 ^ 61 + next
  pub caller : (i : ℕ) (x : Message) → said i ≡ Some x → 2 ^ 61 ≤ of i → call_of (said (of i - 2 ^ 61)) ≡ x.call
  pub turns : (a t : ℕ) → turn a ≡ Some t → (2 ^ 61 ≤ t) × (t < 2 ^ 61 + next) × (call_of (said (t - 2 ^ 61)) ≡ a)

-- the replies owed are of calls that were made
abbrev pub OwedBelow : ℕ → List Owed → Type 0
OwedBelow calls [] = Unit {0}
OwedBelow calls (o ∷ owed) = (o.call ≤ calls) × OwedBelow calls owed

-- What a call begins with, and that only calls that were made send, hear and answer.
pub record Begun (geometry : Geometry) (given : Given) : Type 0 where
  pub geometry_is : given.geometry ≡ geometry
  pub none_kept : given.kept ≡ None
  pub plain : IsPlain given.op

pub record Numbers (geometry : Geometry) (said : ℕ → Option Message) (owed : List Owed) (calls : ℕ) (asker : ℕ → Option Asker) (b : Books) : Type 0 where
  pub said_below : (i : ℕ) (x : Message) → said i ≡ Some x → x.call ≤ calls
  pub owed_below : OwedBelow calls owed
  pub made : (a : ℕ) (x : Asker) → asker a ≡ Some x → (a ≤ calls) × (given : Given) × (b.given a ≡ Some given)
  pub given_below : (a : ℕ) (given : Given) → b.given a ≡ Some given → (a ≤ calls) × Begun geometry given
  pub unsaid : (a : ℕ) → calls < a → b.own a ≡ []
  pub kept : (client : ℕ) → b.kept client ≡ None
