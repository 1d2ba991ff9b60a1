-- What an entry of a log leaves of one part of a record, its names or its pieces: it stays, where the record is of another kind than that of
-- which a brick changes the part.
use Rattle.std.proofs.Common.{◌≡◌, ◌⊎◌, ℕ, ◌*◌, Bool, true, false, cond, ◌==◌, ◌||◌, Option, Some, None, List, length, take, refl, sym, ◌∙◌, ap, subst, inl, inr}
use Rattle.std.specs.Prelude.{is_some, nat_lt}
use Rattle.std.specs.Option.{option_map}
use Rattle.ec_attr.specs.Bricks.{count_below}
use Rattle.ec_attr.specs.GoodGroup.{same_kind}
use Rattle.ec_attr.specs.Head.{with_dirty}
use Rattle.ec_attr.specs.Marks.{is_marked}
use Rattle.ec_attr.specs.declared.config.Config.{Config}
use Rattle.ec_attr.specs.declared.gfid.Gfid.{Gfid}
use Rattle.ec_attr.specs.declared.head.Head.{Head}
use Rattle.ec_attr.specs.declared.kind.Child.{Child}
use Rattle.ec_attr.specs.declared.kind.Kind.{Kind}
use Rattle.ec_attr.specs.declared.kind.Kind.TheVariants.{File, Dir}
use Rattle.ec_store.specs.Put.{put}
use Rattle.ec_store.specs.Records.{Record, Records, changed, empty, head_at, headed, named, replaced, with_bytes, with_length}
use Rattle.ec_wire.specs.declared.entry.Entry.{Entry}
use Rattle.ec_wire.specs.declared.entry.Entry.TheVariants.{Called, Sent, Executed, Heard, Lost, GivenUp, Stopped, Returned, Cut, Died, Yielded, Torn, Answered, Replaced}
use Rattle.ec_wire.specs.declared.message.Body.{Body}
use Rattle.ec_wire.specs.declared.message.Body.TheVariants.{ToBrick}
use Rattle.ec_wire.specs.declared.message.Message.{Message}
use Rattle.ec_wire.specs.declared.reply.Reply.{Reply}
use Rattle.ec_wire.specs.declared.reply.Reply.TheVariants.{NoGrant, OtherKind}
use Rattle.ec_wire.specs.declared.request.Request.{Request}
use Rattle.ec_wire.specs.declared.request.Request.TheVariants.{Ask, Release, Query, PreOp, ReadChunks, WriteChunks, SetLength, PostOp, Clear, NameGet, NamesAfter, NameSet, NamesPut, Make, Made, Unmake, Mark, Unmark, GfidsAfter}
use Rattle.ec_brick.specs.Meets.{failing_at}
use Rattle.ec_brick.specs.Rows.{fence, refusal, row_of}
use Rattle.ec_brick.specs.State.{State as Brick}
use Rattle.ec_brick.specs.Step.{Failing, Fine, Before, Within, Out, Work, by_row, cut_off, executed, fenced, judged, part_work, quiet as quiet_out, refusal_of, started, stopped, torn_off as torn_at, version_of, work}
use Rattle.ec_brick.specs.Work.{broken_of, bytes_of, committed, new_head, unmarked, unset_at, with_unset, work_of}
use Rattle.ec_brick.specs.declared.row.Check.{Check}
use Rattle.ec_brick.specs.declared.row.Check.TheVariants.{OfKind, Content}
use Rattle.ec_brick.specs.declared.row.Row.{Row}
use Rattle.ec_history.specs.IsRun.{May as MayEnter, MayExecute, MayTear}
use Rattle.ec_history.specs.Run.{Net, after, executed as executed_net, executed_by, failing, out_of, torn_by, torn_off, torn_out, wiped}
use Rattle.ec_law_net.proofs.Logs.{heard_same}
use Rattle.ec_law_turns.specs.Once.{is_make_of}
use Rattle.ec_law_turns.proofs.Basics.{equal, itself, some_is, some_none}
use Rattle.ec_law_data.proofs.Outs.{Broken, Rests, Torn as TornOff, Works, broken, fine, torn, unread, untorn}

-- ## Which requests change it

-- the check refuses a record of another kind than this
abbrev pub NeedsKind : Kind → Check → Type 0
NeedsKind kind (OfKind k) = k ≡ kind
NeedsKind kind (Content k) = k ≡ kind
NeedsKind kind c = ⊥

-- A request on this gfid that changes the part is guarded by a check of this kind.
pub record IsChecked (kind : Kind) (g : ℕ) (q : Request) : Type 0 where
  pub row : Row
  pub row_is : row_of q ≡ Some row
  pub subject : row.subject.0 ≡ g
  pub needs : NeedsKind kind row.check
  pub runs : (s : Brick) (f : Failing) (client number : ℕ) → executed s f client number q ≡ by_row s f (work s q) (row_of q)

-- A part of a record: which requests on a gfid change it, those of one kind of record; others leave it, and so does a new head.
pub record IsPart {X : Type 0} (part : Record → X) (blank : X) (changes : ℕ → Request → Bool) (kind : Kind) : Type 0 where
  pub checked : (g : ℕ) (q : Request) → changes g q ≡ true → IsChecked kind g q
  pub with_head : (r : Record) (h : Head) → part (record r { head = h }) ≡ part r
  pub new : (h : Head) → part (empty h) ≡ blank
  pub bytes : (x : Gfid) (n first : ℕ) (chunks : List (List ℕ)) (r : Record) (at : ℕ) (bs : List ℕ) → changes x.0 (WriteChunks x n first chunks) ≡ false → part (with_bytes r at bs) ≡ part r
  pub unset : (x : Gfid) (n first : ℕ) (chunks : List (List ℕ)) (r : Record) (at count : ℕ) → changes x.0 (WriteChunks x n first chunks) ≡ false → part (with_unset r at count) ≡ part r
  pub cut : (x : Gfid) (n keep count : ℕ) (r : Record) → changes x.0 (SetLength x n keep count) ≡ false → part (with_length r keep count) ≡ part r
  pub name : (x : Gfid) (n : ℕ) (name : List ℕ) (child : Option Child) (r : Record) → changes x.0 (NameSet x n name child) ≡ false → part (record r { names = named r.names name child }) ≡ part r
  pub names : (x : Gfid) (n : ℕ) (start upto : Option (List ℕ)) (list : List (List ℕ × Child)) (r : Record) → changes x.0 (NamesPut x n start upto list) ≡ false → part (record r { names = replaced r.names start upto list }) ≡ part r

-- ## What a check lets through

kinds_alike : (a b : Kind) → same_kind a b ≡ true → a ≡ b
kinds_alike File File e = refl
kinds_alike File Dir e = absurd (cc)
kinds_alike Dir File e = absurd (cc)
kinds_alike Dir Dir e = refl

-- a record that such a check lets through is of the kind
pub let_through : (kind : Kind) (c : Check) (n : ℕ) (writer gone : Bool) (o : Option Head) → NeedsKind kind c → refusal c n writer gone o ≡ None → (h : Head) × (o ≡ Some h) × (h.kind ≡ kind)
let_through kind (OfKind k) n writer gone None needs e = absurd (cc)
let_through kind (OfKind k) n writer gone (Some h) needs e = (h, refl, by (same_kind h.kind k) refl e)
  where
    by : (t : Bool) → same_kind h.kind k ≡ t → cond {A = Option Reply} t None (Some OtherKind) ≡ None → h.kind ≡ kind
    by true u z = kinds_alike h.kind k u ∙ needs
    by false u z = absurd (cc)
let_through kind (Content k) n writer gone None needs e = absurd (cc)
let_through kind (Content k) n writer gone (Some h) needs e = (h, refl, by (writer || is_marked h.version.content) (same_kind h.kind k) refl e)
  where
    by : (w t : Bool) → same_kind h.kind k ≡ t → cond {A = Option Reply} w (cond t None (Some OtherKind)) (Some (NoGrant n)) ≡ None → h.kind ≡ kind
    by true true u z = kinds_alike h.kind k u ∙ needs
    by true false u z = absurd (cc)
    by false t u z = absurd (cc)
let_through kind c n writer gone o needs e = absurd needs

-- the records are as they were, or the head didn't refuse the request
module _ (s : Brick) (f : Failing) (w : Work) (r : Row) where
  judged_stays : (f : Failing) (v : Option ℕ) (o : Option Reply) → refusal_of s r (head_at s.records r.subject.0) ≡ o → ((judged s f w v o).brick.records ≡ s.records) ⊎ (refusal_of s r (head_at s.records r.subject.0) ≡ None)
  judged_stays f v None e = inr e
  judged_stays f v (Some y) e = inl refl

  fenced_stays : (f : Failing) (o : Option Reply) → ((fenced s f w r o).brick.records ≡ s.records) ⊎ (refusal_of s r (head_at s.records r.subject.0) ≡ None)
  fenced_stays f (Some y) = inl refl
  fenced_stays Fine None = judged_stays Fine (version_of (head_at s.records r.subject.0)) (refusal_of s r (head_at s.records r.subject.0)) refl
  fenced_stays Before None = inl refl
  fenced_stays Within None = judged_stays Within (version_of (head_at s.records r.subject.0)) (refusal_of s r (head_at s.records r.subject.0)) refl

  row_stays : ((by_row s f w (Some r)).brick.records ≡ s.records) ⊎ (refusal_of s r (head_at s.records r.subject.0) ≡ None)
  row_stays = fenced_stays f (fence s.asks r)

-- so they are, where the record is of another kind
checked_stays : (kind : Kind) (g : ℕ) (q : Request) (c : IsChecked kind g q) (s : Brick) (f : Failing) (w : Work) → ((h : Head) → head_at s.records g ≡ Some h → h.kind ≡ kind → ⊥) → (by_row s f w (row_of q)).brick.records ≡ s.records
checked_stays kind g q c s f w never = subst (λ (o : Option Row). (by_row s f w o).brick.records ≡ s.records) (sym c.row_is) (at (row_stays s f w c.row))
  where
    at : ((by_row s f w (Some c.row)).brick.records ≡ s.records) ⊎ (refusal_of s c.row (head_at s.records c.row.subject.0) ≡ None) → (by_row s f w (Some c.row)).brick.records ≡ s.records
    at (inl same) = same
    at (inr allowed) = absurd (let h = let_through kind c.row.check c.row.grant _ (s.removed c.row.subject.0) (head_at s.records c.row.subject.0) c.needs allowed in never h.0 (ap (head_at s.records) (sym c.subject) ∙ h.1) h.2)

-- ## Requests

module _ {X : Type 0} (part : Record → X) (blank : X) (changes : ℕ → Request → Bool) (kind : Kind) (is : IsPart part blank changes kind) (g : ℕ) where
  -- a record that comes from one with the same part
  abbrev pub From : Records → Record → Type 0
  From m r' = (r : Record) × (m g ≡ Some r) × (part r' ≡ part r)

  same_from : (m now : Records) (r' : Record) → now ≡ m → now g ≡ Some r' → From m r'
  same_from m now r' e h = (r', sym (ap (λ (z : Records). z g) e) ∙ h, refl)

  changed_from : (m : Records) (x : ℕ) (f : Record → Record) (r' : Record) → (x ≡ g → (r : Record) → part (f r) ≡ part r) → changed m x f g ≡ Some r' → From m r'
  changed_from m x f r' keeps e = at (g == x) refl e
    where
      mapped : (o : Option Record) → m x ≡ o → x ≡ g → option_map f o ≡ Some r' → From m r'
      mapped None was on z = absurd (cc)
      mapped (Some r) was on z = (r, ap m (sym on) ∙ was, ap part (sym (some_is (f r) r' z)) ∙ keeps on r)

      at : (t : Bool) → (g == x) ≡ t → cond t (option_map f (m x)) (m g) ≡ Some r' → From m r'
      at true u z = mapped (m x) refl (sym (equal g x u)) z
      at false u z = (r', z, refl)

  put_from : (m : Records) (x : ℕ) (o : Option Record) (r' : Record) → put m x o g ≡ Some r' → ((x ≡ g) × (o ≡ Some r')) ⊎ From m r'
  put_from m x o r' e = at (g == x) refl e
    where
      at : (t : Bool) → (g == x) ≡ t → cond t o (m g) ≡ Some r' → ((x ≡ g) × (o ≡ Some r')) ⊎ From m r'
      at true u z = inl (sym (equal g x u), z)
      at false u z = inr (r', z, refl)

  head_from : (m : Records) (x : ℕ) (f : Head → Head) (r' : Record) → changed m x (λ r. record r { head = f r.head }) g ≡ Some r' → From m r'
  head_from m x f r' e = changed_from m x (λ r. record r { head = f r.head }) r' (λ on r. is.with_head r (f r.head)) e

  -- a new record, or one with another head
  headed_from : (m : Records) (x : ℕ) (h : Head) (r' : Record) → x ≡ g → Some (headed (m x) h) ≡ Some r' → From m r' ⊎ (part r' ≡ blank)
  headed_from m x h r' on e = at (m x) refl (some_is (headed (m x) h) r' e)
    where
      at : (o : Option Record) → m x ≡ o → headed o h ≡ r' → From m r' ⊎ (part r' ≡ blank)
      at None was z = inr (ap part (sym z) ∙ is.new h)
      at (Some r) was z = inl (r, ap m (sym on) ∙ was, ap part (sym z) ∙ is.with_head r h)

  -- no heal marks the gfid by it
  abbrev pub NoMark : Request → Type 0
  NoMark (Mark x n heal head) = x.0 ≡ g → ⊥
  NoMark q = Unit {0}

  -- the part stays, or the request makes the record
  abbrev Leaves : Records → Request → Record → Type 0
  Leaves m q r' = From m r' ⊎ ((is_make_of g q ≡ true) × (part r' ≡ blank))

  there : (q : Request) (x : ℕ) → changes g q ≡ false → x ≡ g → changes x q ≡ false
  there q x e on = subst (λ (y : ℕ). changes y q ≡ false) (sym on) e

  work_leaves : (config : Config) (m : Records) (r' : Record) (q : Request) → NoMark q → changes g q ≡ false → work_of config q m g ≡ Some r' → Leaves m q r'
  work_leaves config m r' (Ask x domain kind) no_mark beside e = inl (r', e, refl)
  work_leaves config m r' (Release x n) no_mark beside e = inl (r', e, refl)
  work_leaves config m r' (Query x n) no_mark beside e = inl (r', e, refl)
  work_leaves config m r' (PreOp x n at dirty) no_mark beside e = inl (head_from m x.0 (with_dirty dirty) r' e)
  work_leaves config m r' (ReadChunks x n first count) no_mark beside e = inl (r', e, refl)
  work_leaves config m r' (WriteChunks x n first chunks) no_mark beside e = inl (changed_from m x.0 (λ r. with_bytes r (512 * first) (bytes_of chunks)) r' (λ on r. is.bytes x n first chunks r (512 * first) (bytes_of chunks) (there (WriteChunks x n first chunks) x.0 beside on)) e)
  work_leaves config m r' (SetLength x n keep count) no_mark beside e = inl (changed_from m x.0 (λ r. with_length r keep count) r' (λ on r. is.cut x n keep count r (there (SetLength x n keep count) x.0 beside on)) e)
  work_leaves config m r' (PostOp x n at version size attr) no_mark beside e = inl (head_from m x.0 (committed version size attr) r' e)
  work_leaves config m r' (Clear x n at) no_mark beside e = inl (head_from m x.0 (with_dirty 0) r' e)
  work_leaves config m r' (NameGet x n name) no_mark beside e = inl (r', e, refl)
  work_leaves config m r' (NamesAfter x n start) no_mark beside e = inl (r', e, refl)
  work_leaves config m r' (NameSet x n name child) no_mark beside e = inl (changed_from m x.0 (λ r. record r { names = named r.names name child }) r' (λ on r. is.name x n name child r (there (NameSet x n name child) x.0 beside on)) e)
  work_leaves config m r' (NamesPut x n start upto list) no_mark beside e = inl (changed_from m x.0 (λ r. record r { names = replaced r.names start upto list }) r' (λ on r. is.names x n start upto list r (there (NamesPut x n start upto list) x.0 beside on)) e)
  work_leaves config m r' (Make x n child) no_mark beside e = at (put_from m child.gfid.0 (Some (headed (m child.gfid.0) (new_head config child.kind))) r' e)
    where
      here : From m r' ⊎ (part r' ≡ blank) → child.gfid.0 ≡ g → Leaves m (Make x n child) r'
      here (inl z) on = inl z
      here (inr z) on = inr (subst (λ (y : ℕ). (child.gfid.0 == y) ≡ true) on (itself child.gfid.0), z)

      at : ((child.gfid.0 ≡ g) × (Some (headed (m child.gfid.0) (new_head config child.kind)) ≡ Some r')) ⊎ From m r' → Leaves m (Make x n child) r'
      at (inl z) = here (headed_from m child.gfid.0 (new_head config child.kind) r' z.0 z.1) z.0
      at (inr z) = inl z
  work_leaves config m r' (Made x n child) no_mark beside e = inl (head_from m child.0 (with_dirty 0) r' e)
  work_leaves config m r' (Unmake x n child) no_mark beside e = at (put_from m child.0 None r' e)
    where
      at : ((child.0 ≡ g) × (None ≡ Some r')) ⊎ From m r' → Leaves m (Unmake x n child) r'
      at (inl z) = absurd (some_none r' (sym z.1))
      at (inr z) = inl z
  work_leaves config m r' (Mark x n heal head) no_mark beside e = at (put_from m x.0 (Some (headed (m x.0) head)) r' e)
    where
      at : ((x.0 ≡ g) × (Some (headed (m x.0) head) ≡ Some r')) ⊎ From m r' → Leaves m (Mark x n heal head) r'
      at (inl z) = absurd (no_mark z.0)
      at (inr z) = inl z
  work_leaves config m r' (Unmark x n at dirty) no_mark beside e = inl (head_from m x.0 (unmarked dirty) r' e)
  work_leaves config m r' (GfidsAfter start dirty) no_mark beside e = inl (r', e, refl)

  unset_from : (m : Records) (x : Gfid) (n first : ℕ) (chunks : List (List ℕ)) (at count : ℕ) (r' : Record) → changes g (WriteChunks x n first chunks) ≡ false → unset_at m x.0 at count g ≡ Some r' → From m r'
  unset_from m x n first chunks at count r' beside e = changed_from m x.0 (λ r. with_unset r at count) r' (λ on r. is.unset x n first chunks r at count (there (WriteChunks x n first chunks) x.0 beside on)) e

  -- where the store fails in the work
  broken_from : (m : Records) (r' : Record) (q : Request) → changes g q ≡ false → broken_of q m g ≡ Some r' → From m r'
  broken_from m r' (WriteChunks x n first chunks) beside e = unset_from m x n first chunks (512 * first) (length (bytes_of chunks)) r' beside e
  broken_from m r' q beside e = (r', e, refl)

  -- where the brick stops in it
  torn_from : (s : Brick) (count : ℕ) (now : Records) (r' : Record) (q : Request) → changes g q ≡ false → TornOff s q count now → now g ≡ Some r' → From s.records r'
  torn_from s count now r' (WriteChunks x n first chunks) beside t e = unset_from s.records x n first chunks (512 * first) (length (take count (bytes_of chunks))) r' beside (sym (ap (λ (z : Records). z g) t) ∙ e)
  torn_from s count now r' q beside t e = same_from s.records now r' t e

  -- ## Executions

  module _ (s : Brick) (r' : Record) (never : (h : Head) → head_at s.records g ≡ Some h → h.kind ≡ kind → ⊥) where
    executed_leaves : (client number : ℕ) (f : Failing) (q : Request) → NoMark q → (executed s f client number q).brick.records g ≡ Some r' → Leaves s.records q r'
    executed_leaves client number f q no_mark e = by (changes g q) refl
      where
        beside : (f : Failing) → changes g q ≡ false → (executed s f client number q).brick.records g ≡ Some r' → Leaves s.records q r'
        beside Fine c e = at (fine g s client number q)
          where
            at : Works g s q (executed s Fine client number q) ⊎ Rests s (executed s Fine client number q) → Leaves s.records q r'
            at (inl w) = work_leaves s.config s.records r' q no_mark c (sym (ap (λ (z : Records). z g) w.records) ∙ e)
            at (inr w) = inl (same_from s.records (executed s Fine client number q).brick.records r' w.records e)
        beside Before c e = inl (same_from s.records (executed s Before client number q).brick.records r' (unread g s client number q) e)
        beside Within c e = at (broken g s client number q)
          where
            at : Broken g s client number q (executed s Within client number q) → Leaves s.records q r'
            at (inl same) = inl (same_from s.records (executed s Within client number q).brick.records r' same e)
            at (inr part) = inl (broken_from s.records r' q c (sym (ap (λ (z : Records). z g) part) ∙ e))

        by : (t : Bool) → changes g q ≡ t → Leaves s.records q r'
        by false c = beside f c e
        by true c = let k = is.checked g q c in inl (same_from s.records (executed s f client number q).brick.records r' (ap (λ (o : Out). o.brick.records) (k.runs s f client number) ∙ checked_stays kind g q k s f (work s q) never) e)

    -- a write that is cut short
    torn_leaves : (count : ℕ) (version : Option ℕ) (q : Request) → (torn_at s (failing_at version) q count).brick.records g ≡ Some r' → From s.records r'
    torn_leaves count None q e = same_from s.records (torn_at s Before q count).brick.records r' (untorn g s count q) e
    torn_leaves count (Some v) q e = by (changes g q) refl
      where
        beside : changes g q ≡ false → ((torn_at s Within q count).brick.records ≡ s.records) ⊎ TornOff s q count (torn_at s Within q count).brick.records → From s.records r'
        beside c (inl same) = same_from s.records (torn_at s Within q count).brick.records r' same e
        beside c (inr t) = torn_from s count (torn_at s Within q count).brick.records r' q c t e

        checked : (q : Request) → IsChecked kind g q → (torn_at s Within q count).brick.records ≡ s.records
        checked (WriteChunks x n first chunks) c = checked_stays kind g (WriteChunks x n first chunks) c s Within (part_work s x first (take count (bytes_of chunks))) never
        checked q c = refl

        by : (t : Bool) → changes g q ≡ t → From s.records r'
        by false c = beside c (torn g s count q)
        by true c = same_from s.records (torn_at s Within q count).brick.records r' (checked q (is.checked g q c)) e

  -- ## Entries

  -- by entry e a brick did a Make of the gfid, and the record is a new one
  pub record IsNew (m : Net) (r' : Record) : Type 0 where
    pub number : ℕ
    pub message : Message
    pub request : Request
    pub said : m.said number ≡ Some message
    pub body : message.body ≡ ToBrick request
    pub makes : is_make_of g request ≡ true
    pub part_is : part r' ≡ blank

  module _ (m : Net) (b : ℕ) (r' : Record) (marks : (i : ℕ) (x : Message) (q : Request) → m.said i ≡ Some x → x.body ≡ ToBrick q → NoMark q) (never : (h : Head) → head_at (m.brick b).records g ≡ Some h → h.kind ≡ kind → ⊥) where
    abbrev pub Stays : Type 0
    Stays = From (m.brick b).records r' ⊎ IsNew m r'

    -- one brick is another
    placed : (c : ℕ) (new : Brick) (bricks : ℕ → Brick) → bricks ≡ put m.brick c new → (c ≡ b → new.records g ≡ Some r' → Stays) → (bricks b).records g ≡ Some r' → Stays
    placed c new bricks same here e = at (b == c) refl (sym (ap (λ (f : ℕ → Brick). (f b).records g) same) ∙ e)
      where
        at : (t : Bool) → (b == c) ≡ t → (cond t new (m.brick b)).records g ≡ Some r' → Stays
        at true u z = here (sym (equal b c u)) z
        at false u z = inl (r', z, refl)

    settled : (c : ℕ) (new : Brick) (bricks : ℕ → Brick) → bricks ≡ put m.brick c new → (new.records g ≡ Some r' → (m.brick c).records g ≡ Some r') → (bricks b).records g ≡ Some r' → Stays
    settled c new bricks same keeps e = placed c new bricks same (λ at z. inl (r', subst (λ (y : ℕ). (m.brick y).records g ≡ Some r') at (keeps z), refl)) e

    on_executed : (i : ℕ) (version : Option ℕ) (failed : Bool) → MayExecute m i version failed → ((after m (Executed i version failed)).brick b).records g ≡ Some r' → Stays
    on_executed i version failed may e = placed msg.brick (out_of m msg q version failed).brick (after m (Executed i version failed)).brick
        (ap (λ (o : Option Message). (executed_net m o version failed).brick) may.at.said ∙ ap (λ (z : Body). (executed_by m msg z version failed).brick) may.at.body)
        (λ at z. by (executed_leaves (m.brick msg.brick) r' (λ h was. never h (subst (λ (y : ℕ). head_at (m.brick y).records g ≡ Some h) at was)) msg.client msg.no (failing failed version) q (marks i msg q may.at.said may.at.body) (sym (ap (λ (o : Out). o.brick.records g) went) ∙ z)) at) e
      where
        msg : Message
        msg = may.message

        q : Request
        q = may.request

        went : out_of m msg q version failed ≡ executed (m.brick msg.brick) (failing failed version) msg.client msg.no q
        went = ap (λ (t : Bool). cond t (executed (m.brick msg.brick) (failing failed version) msg.client msg.no q) (quiet_out (m.brick msg.brick))) may.at.up

        by : Leaves (m.brick msg.brick).records q r' → msg.brick ≡ b → Stays
        by (inl z) at = inl (subst (λ (y : ℕ). From (m.brick y).records r') at z)
        by (inr z) at = inr (record { number = i; message = msg; request = q; said = may.at.said; body = may.at.body; makes = z.0; part_is = z.1 })

    on_torn : (i count : ℕ) (version : Option ℕ) → MayTear m i count version → ((after m (Torn i count version)).brick b).records g ≡ Some r' → Stays
    on_torn i count version may e = placed msg.brick (torn_out m msg q count version).brick (after m (Torn i count version)).brick
        (ap (λ (o : Option Message). (torn_off m o count version).brick) may.at.said ∙ ap (λ (z : Body). (torn_by m msg z count version).brick) may.at.body)
        (λ at z. inl (subst (λ (y : ℕ). From (m.brick y).records r') at (torn_leaves (m.brick msg.brick) r' (λ h was. never h (subst (λ (y : ℕ). head_at (m.brick y).records g ≡ Some h) at was)) count version q (sym (ap (λ (o : Out). o.brick.records g) went) ∙ z)))) e
      where
        msg : Message
        msg = may.message

        q : Request
        q = may.request

        went : torn_out m msg q count version ≡ torn_at (m.brick msg.brick) (failing_at version) q count
        went = ap (λ (t : Bool). cond t (torn_at (m.brick msg.brick) (failing_at version) q count) (quiet_out (m.brick msg.brick))) may.at.up

    wiped_keeps : (removed : ℕ) (all : Bool) (records : Records) → wiped removed all records g ≡ Some r' → records g ≡ Some r'
    wiped_keeps removed true records e = absurd (cc)
    wiped_keeps removed false records e = at (nat_lt (count_below g (λ x. is_some (records x))) removed) e
      where
        at : (t : Bool) → cond t None (records g) ≡ Some r' → records g ≡ Some r'
        at true e = absurd (cc)
        at false e = e

    pub entry_part : (n : ℕ) (e : Entry) → MayEnter n m e → ((after m e).brick b).records g ≡ Some r' → Stays
    entry_part n (Called a client op) may e = inl (r', e, refl)
    entry_part n (Sent msg) may e = inl (r', e, refl)
    entry_part n (Executed i version failed) may e = on_executed i version failed may e
    entry_part n (Heard i) may e = inl (r', sym (ap (λ (f : ℕ → Brick). (f b).records g) (heard_same m (m.said i)).0) ∙ e, refl)
    entry_part n (Lost i) may e = inl (r', e, refl)
    entry_part n (GivenUp client brick i) may e = inl (r', e, refl)
    entry_part n (Stopped c) may e = settled c (stopped (m.brick c)) (after m (Stopped c)).brick refl (λ z. z) e
    entry_part n (Returned c) may e = settled c (started (m.brick c)) (after m (Returned c)).brick refl (λ z. z) e
    entry_part n (Cut client c) may e = settled c (cut_off (m.brick c) client).brick (after m (Cut client c)).brick refl (λ z. z) e
    entry_part n (Died client) may e = inl (r', e, refl)
    entry_part n (Yielded client) may e = inl (r', e, refl)
    entry_part n (Torn i count version) may e = on_torn i count version may e
    entry_part n (Answered a answer) may e = inl (r', e, refl)
    entry_part n (Replaced c removed all) may e = settled c (record (m.brick c) { records = wiped removed all (m.brick c).records }) (after m (Replaced c removed all)).brick refl (λ z. wiped_keeps removed all (m.brick c).records z) e
