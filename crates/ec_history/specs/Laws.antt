-- What follows from the definition of a commit.
use Rattle.std.specs.Prelude.{◌≡◌, ℕ, ◌+◌, ◌<◌, Bool, true, false, Option, Some, List, [], ◌∷◌, ◌++◌}
use Rattle.ec_conduct.specs.Given.{quorum}
use Rattle.ec_wire.specs.declared.answer.Answer.{Answer}
use Rattle.ec_wire.specs.declared.entry.Entry.{Entry}
use Rattle.ec_wire.specs.declared.entry.Entry.TheVariants.{Answered, Called, Executed, Heard, Lost, Sent, Torn}
use Rattle.ec_wire.specs.declared.message.Body.{Body}
use Rattle.ec_wire.specs.declared.message.Body.TheVariants.{ToBrick, ToClient}
use Rattle.ec_wire.specs.declared.message.Message.{Message}
use Rattle.ec_wire.specs.declared.op.Op.{Op}
use Rattle.ec_wire.specs.declared.request.Request.{Request}
use Rattle.ec_attr.specs.declared.config.Config.{Config}
use Rattle.ec_field.specs.Code.{IsRow}
use Rattle.ec_field.specs.Field.{IsByte}
use Rattle.ec_store.specs.Records.{Records}
use Rattle.ec_brick.specs.Opening.{rooted}
use Rattle.ec_brick.specs.State.{State}
use Rattle.ec_history.specs.Changes.{touch}
use Rattle.ec_history.specs.Holds.{StandFor}
use Rattle.ec_history.specs.Starts.{IsFresh, IsOpened, IsStart, fresh_records, root_tree}
use Rattle.ec_history.specs.IsRun.{IsRun, May}
use Rattle.ec_history.specs.Run.{Net, Owed, after, run}
use Rattle.ec_history.specs.Moments.{Past, past}
use Rattle.ec_attr.specs.declared.geometry.Geometry.{Geometry}
use Rattle.ec_history.specs.Story.{Story, commits, is_quiet, story, told}
use Rattle.ec_history.specs.Flat.{Change, Flat, committed, stripe_of}
use Rattle.ec_history.specs.Flat.Opener.{Nobody}

abbrev pub is_reply : Entry → Bool
is_reply (Sent msg) = is_to_client msg.body
  where
    is_to_client : Body → Bool
    is_to_client (ToBrick q) = false
    is_to_client (ToClient re reply) = true
is_reply e = false

pub record FlatLaws : Type 0 where
  -- a commit leaves the bytes of a stripe that it doesn't cover, and whether that is open
  pub leaves_bytes : (k a v p : ℕ) (c : Change) (f : Flat) → c.covers (stripe_of k p) ≡ false → (committed k a v c f).byte p ≡ f.byte p
  pub leaves_stripes : (k a v s : ℕ) (c : Change) (f : Flat) → c.covers s ≡ false → (committed k a v c f).opener s ≡ f.opener s
  -- and closes each that it covers
  pub closes : (k a v s : ℕ) (c : Change) (f : Flat) → c.covers s ≡ true → (committed k a v c f).opener s ≡ Nobody
  -- the commit of a heal covers no stripe, and keeps the bytes and the size
  pub touch_leaves : (k a v s : ℕ) (f : Flat) → (committed k a v (touch f) f).opener s ≡ f.opener s
  pub touch_keeps : (k a v p : ℕ) (f : Flat) → (committed k a v (touch f) f).byte p ≡ f.byte p
  pub touch_sized : (k a v : ℕ) (f : Flat) → (committed k a v (touch f) f).size ≡ f.size

-- what may come next in a run
pub record MayLaws : Type 0 where
  -- messages and calls are numbered one by one
  pub messages : (n : ℕ) (m : Net) (msg : Message) → May n m (Sent msg) → msg.no ≡ m.next
  pub calls : (n call client : ℕ) (m : Net) (op : Op) → May n m (Called call client op) → call ≡ m.calls + 1
  -- what isn't in flight isn't executed, heard, lost or torn
  pub none_executed : (n i : ℕ) (m : Net) (version : Option ℕ) (failed : Bool) → m.flying i ≡ false → May n m (Executed i version failed) → ⊥
  pub none_heard : (n i : ℕ) (m : Net) → m.flying i ≡ false → May n m (Heard i) → ⊥
  pub none_lost : (n i : ℕ) (m : Net) → m.flying i ≡ false → May n m (Lost i) → ⊥
  pub none_torn : (n i bytes : ℕ) (m : Net) (version : Option ℕ) → m.flying i ≡ false → May n m (Torn i bytes version) → ⊥
  -- a brick that is stopped executes nothing, and a client that is dead hears and sends nothing
  pub stopped : (n i : ℕ) (m : Net) (msg : Message) (version : Option ℕ) (failed : Bool) → m.said i ≡ Some msg → (m.brick msg.brick).up ≡ false → May n m (Executed i version failed) → ⊥
  pub deaf : (n i : ℕ) (m : Net) (msg : Message) → m.said i ≡ Some msg → m.dead msg.client ≡ true → May n m (Heard i) → ⊥
  pub mute : (n : ℕ) (m : Net) (msg : Message) (q : Request) → msg.body ≡ ToBrick q → m.dead msg.client ≡ true → May n m (Sent msg) → ⊥
  -- while replies are owed nothing comes but a reply
  pub owed : (n : ℕ) (m : Net) (e : Entry) (o : Owed) (owed : List Owed) → m.owed ≡ o ∷ owed → May n m e → is_reply e ≡ true
  -- a call is answered once
  pub once : (n a : ℕ) (m : Net) (answer : Answer) → m.answered a ≡ true → May n m (Answered a answer) → ⊥

pub record RunLaws : Type 0 where
  -- the net after a log and its end is that after the one and then the other
  pub joins : (es fs : List Entry) (m : Net) → run (es ++ fs) m ≡ run fs (run es m)
  -- a front of a run is a run, and so is what follows it from where it ends
  pub front : (n : ℕ) (es fs : List Entry) (m : Net) → IsRun n (es ++ fs) m → IsRun n es m
  pub rest : (n : ℕ) (es fs : List Entry) (m : Net) → IsRun n (es ++ fs) m → IsRun n fs (run es m)
  -- and two that fit are one
  pub longer : (n : ℕ) (es fs : List Entry) (m : Net) → IsRun n es m → IsRun n fs (run es m) → IsRun n (es ++ fs) m

-- the same version, size, bytes and names; another attribute only as its record is first made
pub record SameContent (f h : Flat) : Type 0 where
  pub version : f.version ≡ h.version
  pub size : f.size ≡ h.size
  pub byte : (p : ℕ) → f.byte p ≡ h.byte p
  pub child : (n : List ℕ) → f.child n ≡ h.child n

-- no entry is a commit
abbrev pub NoCommit : Geometry → List Entry → Net → Story → Type 0
NoCommit geometry [] m t = Unit {0}
NoCommit geometry (e ∷ es) m t = (commits geometry m t e ≡ false) × NoCommit geometry es (after m e) (told geometry m t e)

pub record StoryLaws : Type 0 where
  pub joins : (geometry : Geometry) (es fs : List Entry) (m : Net) (t : Story) → story geometry (es ++ fs) m t ≡ story geometry fs (run es m) (story geometry es m t)
  -- an entry in which no brick does anything leaves the flat files
  pub quiet : (geometry : Geometry) (m : Net) (t : Story) (e : Entry) → is_quiet e ≡ true → (told geometry m t e).tree ≡ t.tree
  -- a log without commits leaves the content of each
  pub uncommitted : (geometry : Geometry) (es : List Entry) (m : Net) (t : Story) → NoCommit geometry es m t → (g : ℕ) → SameContent ((story geometry es m t).tree g) (t.tree g)

pub record PastLaws : Type 0 where
  pub joins : (geometry : Geometry) (es fs : List Entry) (p : Past) → past geometry (es ++ fs) p ≡ past geometry fs (past geometry es p)
  -- it is the net, with what that makes of the flat files
  pub nets : (geometry : Geometry) (es : List Entry) (p : Past) → (past geometry es p).net ≡ run es p.net
  pub stories : (geometry : Geometry) (es : List Entry) (p : Past) → (past geometry es p).story ≡ story geometry es p.net p.story

-- a row of bytes for each brick
abbrev pub HasRows : Geometry → Type 0
HasRows g = (b : ℕ) → b < g.n → (row : ℕ → ℕ) × ((j : ℕ) → j < quorum g → IsByte (row j)) × IsRow (quorum g) g.algorithm b row

pub record StartLaws : Type 0 where
  -- fresh bricks, opened, stand for an empty root
  pub fresh : (config : Config) → HasRows config.geometry → StandFor config (fresh_records config) root_tree
  -- and so a run begins with them
  pub starts : (config : Config) (bricks : ℕ → State) → HasRows config.geometry → ((b : ℕ) → b < config.geometry.n → IsOpened config (fresh_records config b) (bricks b)) → IsStart config (fresh_records config) bricks root_tree 2
  -- they are what opening makes of stores without a record
  pub opened : (config : Config) (n b g : ℕ) (stores : ℕ → Records) → IsFresh n stores → b < n → rooted config (stores b) g ≡ fresh_records config b g
