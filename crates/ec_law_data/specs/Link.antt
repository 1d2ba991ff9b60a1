-- How the machine of pieces stands to the records of the bricks, and when a way to read data fits what bricks do.
use Rattle.std.specs.Prelude.{◌≡◌, ℕ, ◌*◌, ◌<◌, ◌≤◌, Bool, true, false, cond, ◌&&◌, Option, Some, None, List, [], ◌∷◌, length}
use Rattle.ec_attr.specs.Bricks.{count_below}
use Rattle.ec_attr.specs.Marks.{is_marked}
use Rattle.ec_attr.specs.declared.gfid.Gfid.{Gfid}
use Rattle.ec_attr.specs.declared.head.Head.{Head}
use Rattle.ec_attr.specs.declared.kind.Child.{Child}
use Rattle.ec_store.specs.Records.{Record, empty, named, replaced, with_bytes, with_length}
use Rattle.ec_brick.specs.Work.{bytes_of, with_unset}
use Rattle.ec_history.specs.Flat.Opener.{Nobody}
use Rattle.ec_history.specs.Holds.{is_at_version}
use Rattle.ec_history.specs.Run.{Net, after, out_of}
use Rattle.ec_history.specs.Story.{is_done}
use Rattle.ec_wire.specs.declared.entry.Entry.{Entry}
use Rattle.ec_wire.specs.declared.entry.Entry.TheVariants.{Executed, Torn}
use Rattle.ec_wire.specs.declared.message.Body.{Body}
use Rattle.ec_wire.specs.declared.message.Body.TheVariants.{ToBrick, ToClient}
use Rattle.ec_wire.specs.declared.message.Message.{Message}
use Rattle.ec_wire.specs.declared.request.Request.{Request}
use Rattle.ec_wire.specs.declared.request.Request.TheVariants.{WriteChunks, SetLength, NameSet, NamesPut, Mark}
use Rattle.ec_law_pieces.specs.File.{File}
use Rattle.ec_law_net.specs.Turns.{View, seen_after}
use Rattle.ec_law_data.specs.Deeds.{file_after, is_granted}
use Rattle.ec_law_data.specs.Reading.{Plans, Reading}

-- each request goes to one of the n bricks
abbrev pub GoToBricks : ℕ → Net → Type 0
GoToBricks n m = (i : ℕ) (x : Message) (q : Request) → m.said i ≡ Some x → x.body ≡ ToBrick q → x.brick < n

-- each chunk of a write has 512 bytes
abbrev pub IsWhole : Request → Type 0
IsWhole (WriteChunks x n first chunks) = length (bytes_of chunks) ≡ 512 * length chunks
IsWhole q = Unit {0}

-- a request that may write data of gfid g
abbrev pub IsWriter : ℕ → Request → Type 0
IsWriter g (WriteChunks x n first chunks) = x.0 ≡ g
IsWriter g (SetLength x n keep count) = x.0 ≡ g
IsWriter g (NameSet x n name child) = x.0 ≡ g
IsWriter g (NamesPut x n start upto list) = x.0 ≡ g
IsWriter g q = ⊥

module _ {P V C U S : Type 0} (R : Reading P V C U S) where
  -- what the request leaves at a place where this stood
  abbrev pub left_by : ℕ → Request → P → C → C
  left_by g q p y = cond (R.is_write g q && R.writes g q p) (R.puts q p) y

  -- the request doesn't write there
  abbrev pub IsBeside : ℕ → Request → P → Type 0
  IsBeside g q p = (R.is_write g q && R.writes g q p) ≡ false

  -- The reading fits what bricks do to records: by each kind of work.
  pub record Fits : Type 0 where
    pub writers : (g : ℕ) (q : Request) → R.is_write g q ≡ true → IsWriter g q
    pub headed : (r : Record) (h : Head) (p : P) → R.held (record r { head = h }) p ≡ R.held r p
    pub made : (h : Head) (p : P) (b : ℕ) → R.held (empty h) p ≡ R.form.code R.form.zero b
    pub bytes : (x : Gfid) (n first : ℕ) (chunks : List (List ℕ)) (r : Record) (p : P) → IsWhole (WriteChunks x n first chunks) → R.held (with_bytes r (512 * first) (bytes_of chunks)) p ≡ left_by x.0 (WriteChunks x n first chunks) p (R.held r p)
    pub unset : (x : Gfid) (n first count : ℕ) (chunks : List (List ℕ)) (r : Record) (p : P) → count ≤ 512 * length chunks → IsBeside x.0 (WriteChunks x n first chunks) p → R.held (with_unset r (512 * first) count) p ≡ R.held r p
    pub cut : (x : Gfid) (n keep count : ℕ) (r : Record) (p : P) → R.held (with_length r keep count) p ≡ left_by x.0 (SetLength x n keep count) p (R.held r p)
    pub name : (x : Gfid) (n : ℕ) (name : List ℕ) (child : Option Child) (r : Record) (p : P) → R.held (record r { names = named r.names name child }) p ≡ left_by x.0 (NameSet x n name child) p (R.held r p)
    pub names : (x : Gfid) (n : ℕ) (start upto : Option (List ℕ)) (list : List (List ℕ × Child)) (r : Record) (p : P) → IsBeside x.0 (NamesPut x n start upto list) p → R.held (record r { names = replaced r.names start upto list }) p ≡ R.held r p

  -- the machine has the pieces of the n bricks
  abbrev pub HasPieces : ℕ → ℕ → Net → File P V C U S → Type 0
  HasPieces n g m f = (b : ℕ) (r : Record) → b < n → (m.brick b).records g ≡ Some r → (p : P) → f.piece b p ≡ R.held r p

  -- what a request puts at brick b is the code of what turn a planned
  abbrev pub Codes : File P V C U S → ℕ → ℕ → ℕ → Request → Type 0
  Codes f g a b q = (p : P) → R.writes g q p ≡ true → R.puts q p ≡ R.form.code (f.value a p) b

  -- a heal's mark may make a record, of which a piece is nothing yet
  abbrev pub NoMark : ℕ → Request → Type 0
  NoMark g (Mark x n heal head) = x.0 ≡ g → ⊥
  NoMark g q = Unit {0}

  abbrev pub BodyUnmarked : ℕ → Body → Type 0
  BodyUnmarked g (ToBrick q) = NoMark g q
  BodyUnmarked g (ToClient re reply) = Unit {0}

  abbrev pub MessageUnmarked : ℕ → Option Message → Type 0
  MessageUnmarked g None = Unit {0}
  MessageUnmarked g (Some msg) = BodyUnmarked g msg.body

  -- no heal marks a record by this entry, or by any
  abbrev pub EntryUnmarked : ℕ → Net → Entry → Type 0
  EntryUnmarked g m (Executed i version failed) = MessageUnmarked g (m.said i)
  EntryUnmarked g m e = Unit {0}

  abbrev pub AllUnmarked : ℕ → List Entry → Net → Type 0
  AllUnmarked g [] m = Unit {0}
  AllUnmarked g (e ∷ es) m = EntryUnmarked g m e × AllUnmarked g es (after m e)

  -- What the link needs of a request that a brick executes: the chunks are whole, and where the request is done under the grant
  -- of the content it puts what its turn planned.
  pub record IsCoded (g : ℕ) (m : Net) (v : View) (f : File P V C U S) (msg : Message) (q : Request) (version : Option ℕ) (failed : Bool) : Type 0 where
    pub whole : IsWhole q
    pub codes : failed ≡ false → R.is_write g q ≡ true → is_granted (m.brick msg.brick) q ≡ true → is_done (out_of m msg q version failed).says ≡ true → Codes f g (v.of msg.no) msg.brick q

  abbrev pub BodyCoded : ℕ → Net → View → File P V C U S → Message → Body → Option ℕ → Bool → Type 0
  BodyCoded g m v f msg (ToBrick q) version failed = IsCoded g m v f msg q version failed
  BodyCoded g m v f msg (ToClient re reply) version failed = Unit {0}

  abbrev pub MessageCoded : ℕ → Net → View → File P V C U S → Option Message → Option ℕ → Bool → Type 0
  MessageCoded g m v f None version failed = Unit {0}
  MessageCoded g m v f (Some msg) version failed = BodyCoded g m v f msg msg.body version failed

  abbrev pub BodyWhole : Body → Type 0
  BodyWhole (ToBrick q) = IsWhole q
  BodyWhole (ToClient re reply) = Unit {0}

  abbrev pub MessageWhole : Option Message → Type 0
  MessageWhole None = Unit {0}
  MessageWhole (Some msg) = BodyWhole msg.body

  abbrev pub EntryCoded : ℕ → Net → View → File P V C U S → Entry → Type 0
  EntryCoded g m v f (Executed i version failed) = MessageCoded g m v f (m.said i) version failed
  EntryCoded g m v f (Torn i count version) = MessageWhole (m.said i)
  EntryCoded g m v f e = Unit {0}

  abbrev pub AllCoded : Plans P V U S → ℕ → ℕ → ℕ → List Entry → Net → View → File P V C U S → Type 0
  AllCoded plans n k g [] m v f = Unit {0}
  AllCoded plans n k g (e ∷ es) m v f = EntryCoded g m v f e × AllCoded plans n k g es (after m e) (seen_after g m v e) (file_after R plans n k g m v f e)

  -- At place p, one value of which each brick's unmarked record at the flat version has the code, and which has each known unit.
  pub record IsHeld (n g : ℕ) (m : Net) (f : File P V C U S) (p : P) (x : V) : Type 0 where
    pub codes : (b : ℕ) (r : Record) → b < n → (m.brick b).records g ≡ Some r → is_marked r.head.version.content ≡ false → r.head.version.content ≡ f.flat.version → R.held r p ≡ R.form.code x b
    pub units : (i : ℕ) (u : U) → f.flat.unit p i ≡ Some u → R.form.unit x i ≡ u

  -- the bricks hold such a value at each closed place
  abbrev pub HoldClosed : ℕ → ℕ → Net → File P V C U S → Type 0
  HoldClosed n g m f = (p : P) → f.flat.opener p ≡ Nobody → (x : V) × IsHeld n g m f p x

-- K unmarked records that agree have the flat version
abbrev pub AgreeAtFlat : {P V C U S : Type 0} → ℕ → ℕ → ℕ → Net → File P V C U S → Type 0
AgreeAtFlat n k g m f = (v : ℕ) → is_marked v ≡ false → k ≤ count_below n (λ b. is_at_version v ((m.brick b).records g)) → v ≡ f.flat.version
