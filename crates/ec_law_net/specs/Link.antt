-- How the machine of versions stands to the bricks beside which it is stepped, and what each entry needs besides of what
-- the calls know.
use Rattle.std.specs.Prelude.{◌≡◌, ◌≢◌, ◌⊎◌, ℕ, ◌<◌, Bool, true, false, Option, Some, None, List, [], ◌∷◌}
use Rattle.std.specs.Option.{option_map}
use Rattle.ec_attr.specs.Marks.{is_marked, stripped}
use Rattle.ec_attr.specs.declared.head.Head.{Head}
use Rattle.ec_attr.specs.declared.kind.Domain.TheVariants.{Inode, Heal}
use Rattle.ec_locks.specs.declared.ask.Ask.{Ask as Asking}
use Rattle.ec_store.specs.Records.{head_at}
use Rattle.ec_wire.specs.declared.entry.Entry.{Entry}
use Rattle.ec_wire.specs.declared.entry.Entry.TheVariants.{Sent, Executed, Cut}
use Rattle.ec_wire.specs.declared.message.Body.{Body}
use Rattle.ec_wire.specs.declared.message.Body.TheVariants.{ToBrick, ToClient}
use Rattle.ec_wire.specs.declared.message.Message.{Message}
use Rattle.ec_wire.specs.declared.request.Request.{Request}
use Rattle.ec_wire.specs.declared.request.Request.TheVariants.{Query, PreOp, PostOp, Clear, Make, Made, Mark, Unmark}
use Rattle.ec_brick.specs.Step.{cut_off}
use Rattle.ec_history.specs.Run.{Net, after, call_of, out_of}
use Rattle.ec_law_base.specs.State.{State, target}
use Rattle.ec_law_ballots.specs.Act.{group_dirty}
use Rattle.ec_law_ballots.specs.Guard.{HasBallot, HasQuorum, Runs}
use Rattle.ec_law_ballots.specs.Words.{group, saw, tied}
use Rattle.ec_law_net.specs.Turns.{View, acts, exclusive, has_directory, seen_after}

-- the machine has this head at brick b
abbrev pub IsHead : Option Head → State → ℕ → Type 0
IsHead None s b = s.present b ≡ false
IsHead (Some h) s b = (s.present b ≡ true) × (s.version b ≡ stripped h.version.content) × (s.marked b ≡ is_marked h.version.content) × (s.dirty b ≡ h.dirty.content)

-- whether an ask came before message `next`
abbrev pub Below : ℕ → List Asking → Type 0
Below next [] = Unit {0}
Below next (a ∷ asks) = (a.number < next) × Below next asks

-- what a brick that is down has forgotten
pub record IsForgotten (g : ℕ) (m : Net) (b : ℕ) : Type 0 where
  pub asks : (m.brick b).asks ≡ []
  pub removed : (m.brick b).removed g ≡ false

-- The machine has the heads of the n bricks and their exclusive grants.
pub record Linked (n g : ℕ) (m : Net) (v : View) : Type 0 where
  pub heads : (b : ℕ) → b < n → IsHead (head_at (m.brick b).records g) v.core b
  pub removed : (b : ℕ) → b < n → v.core.removed b ≡ (m.brick b).removed g
  pub holders : (b : ℕ) → b < n → v.core.holder b ≡ option_map v.of (exclusive g Inode (m.brick b).asks)
  pub healers : (b : ℕ) → b < n → v.core.healer b ≡ option_map (λ i. call_of (m.said i)) (exclusive g Heal (m.brick b).asks)
  pub makers : (b : ℕ) → b < n → v.core.maker b ≡ true → has_directory m.said v.maker (m.brick b).asks ≡ true
  pub kept : (a : ℕ) → v.core.carries a ≡ None
  -- no turn has a shared grant, and none asks for one: a call under shared grants is no turn here
  pub shared : (a b : ℕ) → v.core.shares a b ≡ false
  pub reading : (a : ℕ) → v.core.reads a ≡ false
  -- the net's own: messages have their numbers, and a brick that is down has no asks
  pub said : (i : ℕ) (msg : Message) → m.said i ≡ Some msg → (msg.no ≡ i) × (i < m.next)
  pub to : (i : ℕ) (msg : Message) (q : Request) → m.said i ≡ Some msg → msg.body ≡ ToBrick q → msg.brick < n
  pub asked : (b : ℕ) → b < n → Below m.next (m.brick b).asks
  pub down : (b : ℕ) → b < n → (m.brick b).up ≡ false → IsForgotten g m b

-- ## What a call knows as a request of its is executed

abbrev pub PreReady : State → ℕ → ℕ → Bool → Type 0
PreReady s a b false = ((group s a b ≡ true) ⊎ (s.fixed a b ≡ true)) × (s.pre a b ≡ false)
PreReady s a b true = (saw s a b ≡ true) × (s.pre a b ≡ false)

abbrev pub PostReady : State → ℕ → ℕ → Bool → Type 0
PostReady s a b false = (s.pre a b ≡ true) × (s.post a b ≡ false)
PostReady s a b true = (saw s a b ≡ true) × (s.pre a b ≡ false)

-- What turn a knows of a request to brick b on the gfid, so that it may be executed there: the grant that it names is its
-- own, its version and number are those of its ballot, and it goes where it may go and goes there once.
pub record IsQuery (v : View) (a b grant : ℕ) : Type 0 where
  pub own : v.of grant ≡ a
  pub early : v.core.early a b ≡ true
  pub moment : v.core.moment a ≡ true
  pub once : saw v.core a b ≡ false
  pub first : (v.core.ballot a).number ≡ 0
  pub real : v.core.old a ≡ false

pub record IsPreOp (v : View) (a b grant at number : ℕ) : Type 0 where
  pub own : v.of grant ≡ a
  pub ballot : HasBallot v.core a
  pub base : (v.core.ballot a).base ≡ stripped at
  pub raised : (v.core.ballot a).number ≡ number
  pub ready : PreReady v.core a b (is_marked at)

pub record IsPostOp (n k : ℕ) (v : View) (a b grant at version : ℕ) : Type 0 where
  pub own : v.of grant ≡ a
  pub ballot : HasBallot v.core a
  pub base : (v.core.ballot a).base ≡ stripped at
  pub target : target (v.core.ballot a) ≡ stripped version
  pub mark : is_marked version ≡ is_marked at
  pub quorum : HasQuorum n k v.core a
  pub ready : PostReady v.core a b (is_marked at)

pub record IsClear (n : ℕ) (v : View) (a b grant at : ℕ) : Type 0 where
  pub own : v.of grant ≡ a
  pub target : target (v.core.ballot a) ≡ at
  pub unmarked : is_marked at ≡ false
  pub here : v.core.post a b ≡ true
  pub all : (c : ℕ) → c < n → v.core.post a c ≡ true
  pub real : v.core.old a ≡ false

pub record IsMark (m : Net) (v : View) (a b grant heal : ℕ) (head : Head) : Type 0 where
  pub own : v.of grant ≡ a
  pub healer : call_of (m.said heal) ≡ v.core.call a
  pub ballot : HasBallot v.core a
  pub base : (v.core.ballot a).base ≡ stripped head.version.content
  pub mark : is_marked head.version.content ≡ true
  pub left : group_dirty (v.core.ballot a) ≡ head.dirty.content
  pub seen : saw v.core a b ≡ true
  pub outside : group v.core a b ≡ false
  pub pre : v.core.pre a b ≡ false
  pub once : v.core.mark a b ≡ false
  pub fixed : v.core.fixed a b ≡ false
  pub first : (x : ℕ) → v.core.call x ≡ v.core.call a → x ≢ a → saw v.core x b ≡ false

pub record IsUnmark (m : Net) (v : View) (a b grant at dirty : ℕ) : Type 0 where
  pub healer : call_of (m.said grant) ≡ v.core.call a
  pub ballot : HasBallot v.core a
  pub base : (v.core.ballot a).base ≡ stripped at
  pub mark : is_marked at ≡ true
  pub left : group_dirty (v.core.ballot a) ≡ dirty
  pub tied : tied v.core a b ≡ true
  pub once : v.core.stripped_by (v.core.call a) b ≡ false
  pub pre : v.core.pre a b ≡ false

pub record IsMake (v : View) (b : ℕ) : Type 0 where
  pub maker : v.core.maker b ≡ true
  pub once : v.core.born b ≡ false
  pub fresh : v.core.origin ≡ 0

pub record IsMade (v : View) (b : ℕ) : Type 0 where
  pub maker : v.core.maker b ≡ true
  pub born : v.core.born b ≡ true
  pub once : v.core.grown b ≡ false

abbrev pub Ready : ℕ → ℕ → ℕ → Net → View → ℕ → ℕ → Request → Type 0
Ready n k g m v a b (Query x grant) = x.0 ≡ g → exclusive g Inode (m.brick b).asks ≡ Some grant → (v.core.ballot a).number ≡ 0 → IsQuery v a b grant
Ready n k g m v a b (PreOp x grant at number) = x.0 ≡ g → IsPreOp v a b grant at number
Ready n k g m v a b (PostOp x grant at version size attr) = x.0 ≡ g → IsPostOp n k v a b grant at version
Ready n k g m v a b (Clear x grant at) = x.0 ≡ g → IsClear n v a b grant at
Ready n k g m v a b (Mark x grant heal head) = x.0 ≡ g → IsMark m v a b grant heal head
Ready n k g m v a b (Unmark x grant at dirty) = x.0 ≡ g → IsUnmark m v a b grant at dirty
Ready n k g m v a b (Make x grant child) = child.gfid.0 ≡ g → exclusive x.0 Inode (m.brick b).asks ≡ Some grant → v.core.present b ≡ false → v.core.removed b ≡ false → IsMake v b
Ready n k g m v a b (Made x grant child) = child.0 ≡ g → exclusive x.0 Inode (m.brick b).asks ≡ Some grant → v.core.removed b ≡ false → IsMade v b
Ready n k g m v a b q = Unit {0}

-- A turn is granted once at a brick, and a heal's lock comes before all locks of its windows.
pub record GrantsReady (g : ℕ) (m : Net) (v : View) (b : ℕ) (old new : List Asking) : Type 0 where
  pub content : (i : ℕ) → exclusive g Inode new ≡ Some i → exclusive g Inode old ≢ Some i → (v.core.granted (v.of i) b ≡ false) × (v.core.old (v.of i) ≡ false)
  pub heal : (i : ℕ) → exclusive g Heal new ≡ Some i → exclusive g Heal old ≢ Some i → (a : ℕ) → v.core.call a ≡ call_of (m.said i) → v.core.granted a b ≡ false

abbrev pub BodyReady : ℕ → ℕ → ℕ → Net → View → Message → Body → Option ℕ → Bool → Type 0
BodyReady n k g m v msg (ToBrick q) version failed = Ready n k g m v (v.of msg.no) msg.brick q × GrantsReady g m v msg.brick (m.brick msg.brick).asks (out_of m msg q version failed).brick.asks
BodyReady n k g m v msg (ToClient re reply) version failed = Unit {0}

abbrev pub MessageReady : ℕ → ℕ → ℕ → Net → View → Option Message → Option ℕ → Bool → Type 0
MessageReady n k g m v None version failed = Unit {0}
MessageReady n k g m v (Some msg) version failed = BodyReady n k g m v msg msg.body version failed

-- What an entry needs of the calls: the moment and the ballot of a turn may come where it sends its first Query and its
-- first PreOp, Mark or Unmark, and what a brick executes or grants was in order.
abbrev pub EntryReady : ℕ → ℕ → ℕ → Net → View → Entry → Type 0
EntryReady n k g m v (Sent msg) = Runs n k (acts g m v (Sent msg)) v.core
EntryReady n k g m v (Executed i version failed) = MessageReady n k g m v (m.said i) version failed
EntryReady n k g m v (Cut client b) = GrantsReady g m v b (m.brick b).asks (cut_off (m.brick b) client).brick.asks
EntryReady n k g m v e = Unit {0}

abbrev pub AllReady : ℕ → ℕ → ℕ → List Entry → Net → View → Type 0
AllReady n k g [] m v = Unit {0}
AllReady n k g (e ∷ es) m v = EntryReady n k g m v e × AllReady n k g es (after m e) (seen_after g m v e)
