-- What a request makes of the head of a record.
use Rattle.std.proofs.Common.{◌≡◌, ◌⊎◌, ℕ, ◌*◌, Bool, true, false, cond, ◌==◌, ◌&&◌, ◌||◌, Option, Some, None, refl, sym, ◌∙◌, ap, inl, inr}
use Rattle.std.specs.Option.{option_map}
use Rattle.ec_attr.specs.declared.attr.Attr.{Attr}
use Rattle.ec_attr.specs.declared.config.Config.{Config}
use Rattle.ec_attr.specs.declared.gfid.Gfid.{Gfid}
use Rattle.ec_attr.specs.declared.head.Head.{Head}
use Rattle.ec_attr.specs.declared.kind.Child.{Child}
use Rattle.ec_attr.specs.Head.{with_dirty}
use Rattle.ec_store.specs.Put.{put}
use Rattle.ec_store.specs.Records.{Record, Records, head_at, headed, named, replaced, with_bytes, with_length}
use Rattle.ec_wire.specs.declared.request.Request.{Request}
use Rattle.ec_wire.specs.declared.request.Request.TheVariants.{Ask, Release, Query, PreOp, ReadChunks, WriteChunks, SetLength, PostOp, Clear, NameGet, NamesAfter, NameSet, NamesPut, Make, Made, Unmake, Mark, Unmark, GfidsAfter}
use Rattle.ec_brick.specs.Replies.{own_of as own_reply}
use Rattle.ec_brick.specs.State.{State as Brick}
use Rattle.ec_brick.specs.Rows.{fence, row_of}
use Rattle.ec_brick.specs.Step.{Failing, Fine, Before, Within, by_row, executed, fenced, unguarded, work}
use Rattle.ec_brick.specs.Work.{bytes_of, committed, new_head, with_head_by, work_of}
use Rattle.ec_brick.specs.declared.row.Row.{Row}
use Rattle.ec_history.specs.Story.{is_done}
use Rattle.ec_law_net.proofs.Outcomes.{IsDone, IsNot, head_kept, outcome}
use Rattle.ec_law_turns.specs.Once.{is_make_of}
use Rattle.ec_law_turns.proofs.Basics.{differ, equal, some_is, some_none}
use Rattle.ec_law_data.specs.Deeds.{is_post_on}
use Rattle.ec_law_data.proofs.Guards.{is_marking}
use Rattle.ec_law_shapes.specs.Shapes.{head_shape}

-- a head that was there before, with this shape and version
pub record Kept (old : Option Head) (now : Head) : Type 0 where
  pub head : Head
  pub is : old ≡ Some head
  pub shape : head_shape now ≡ head_shape head
  pub version : now.version.content ≡ head.version.content

kept_same : (old : Option Head) (now : Head) → old ≡ Some now → Kept old now
kept_same old now e = record { head = now; is = e; shape = refl; version = refl }

kept_by : (old o : Option Head) (now : Head) → o ≡ old → o ≡ Some now → Kept old now
kept_by old o now same e = kept_same old now (sym same ∙ e)

-- a head that is put, or that of another gfid
put_head : (m : Records) (x g : ℕ) (o : Option Record) (now : Head) → head_at (put m x o) g ≡ Some now → ((x ≡ g) × (option_map (λ r. r.head) o ≡ Some now)) ⊎ (((g == x) ≡ false) × (head_at m g ≡ Some now))
put_head m x g o now e = at (g == x) refl e
  where
    at : (t : Bool) → (g == x) ≡ t → option_map (λ (r : Record). r.head) (cond t o (m g)) ≡ Some now → ((x ≡ g) × (option_map (λ r. r.head) o ≡ Some now)) ⊎ (((g == x) ≡ false) × (head_at m g ≡ Some now))
    at true u z = inl (sym (equal g x u), z)
    at false u z = inr (u, z)

headed_is : (o : Option Record) (h : Head) → (headed o h).head ≡ h
headed_is None h = refl
headed_is (Some r) h = refl

-- the head of a record that changes
changed_head : (m : Records) (x g : ℕ) (f : Head → Head) (now : Head) → head_at (with_head_by m x f) g ≡ Some now → ((x ≡ g) × (h : Head) × (head_at m g ≡ Some h) × (now ≡ f h)) ⊎ (((g == x) ≡ false) × (head_at m g ≡ Some now))
changed_head m x g f now e = by (put_head m x g (option_map (λ (r : Record). record r { head = f r.head }) (m x)) now e)
  where
    of : (o : Option Record) → option_map (λ r. r.head) (option_map (λ (r : Record). record r { head = f r.head }) o) ≡ Some now → (h : Head) × (option_map (λ r. r.head) o ≡ Some h) × (now ≡ f h)
    of None z = absurd (cc)
    of (Some r) z = (r.head, refl, sym (some_is (f r.head) now z))

    by : ((x ≡ g) × (option_map (λ r. r.head) (option_map (λ (r : Record). record r { head = f r.head }) (m x)) ≡ Some now)) ⊎ (((g == x) ≡ false) × (head_at m g ≡ Some now)) → ((x ≡ g) × (h : Head) × (head_at m g ≡ Some h) × (now ≡ f h)) ⊎ (((g == x) ≡ false) × (head_at m g ≡ Some now))
    by (inl z) = let o = of (m x) z.1 in inl (z.0, o.0, ap (head_at m) (sym z.0) ∙ o.1, o.2)
    by (inr z) = inr z

-- a change that leaves shape and version
kept_change : (m : Records) (x g : ℕ) (f : Head → Head) (now : Head) → ((h : Head) → head_shape (f h) ≡ head_shape h) → ((h : Head) → (f h).version.content ≡ h.version.content) → head_at (with_head_by m x f) g ≡ Some now → Kept (head_at m g) now
kept_change m x g f now shape version e = by (changed_head m x g f now e)
  where
    by : ((x ≡ g) × (h : Head) × (head_at m g ≡ Some h) × (now ≡ f h)) ⊎ (((g == x) ≡ false) × (head_at m g ≡ Some now)) → Kept (head_at m g) now
    by (inl z) = record { head = z.1; is = z.2; shape = ap head_shape z.3 ∙ shape z.1; version = ap (λ (y : Head). y.version.content) z.3 ∙ version z.1 }
    by (inr z) = kept_same (head_at m g) now z.1

apart : (x g : ℕ) → x ≡ g → (x == g) ≡ false → ⊥
apart x g e h = differ x g h e

-- a change of another gfid
kept_apart : (m : Records) (x g : ℕ) (f : Head → Head) (now : Head) → (x == g) ≡ false → head_at (with_head_by m x f) g ≡ Some now → Kept (head_at m g) now
kept_apart m x g f now ne e = by (changed_head m x g f now e)
  where
    by : ((x ≡ g) × (h : Head) × (head_at m g ≡ Some h) × (now ≡ f h)) ⊎ (((g == x) ≡ false) × (head_at m g ≡ Some now)) → Kept (head_at m g) now
    by (inl z) = absurd (apart x g z.0 ne)
    by (inr z) = kept_same (head_at m g) now z.1

kept_put : (m : Records) (x g : ℕ) (o : Option Record) (now : Head) → (x == g) ≡ false → head_at (put m x o) g ≡ Some now → Kept (head_at m g) now
kept_put m x g o now ne e = by (put_head m x g o now e)
  where
    by : ((x ≡ g) × (option_map (λ r. r.head) o ≡ Some now)) ⊎ (((g == x) ≡ false) × (head_at m g ≡ Some now)) → Kept (head_at m g) now
    by (inl z) = absurd (apart x g z.0 ne)
    by (inr z) = kept_same (head_at m g) now z.1

kept_gone : (m : Records) (x g : ℕ) (now : Head) → head_at (put m x None) g ≡ Some now → Kept (head_at m g) now
kept_gone m x g now e = by (put_head m x g None now e)
  where
    by : ((x ≡ g) × (None ≡ Some now)) ⊎ (((g == x) ≡ false) × (head_at m g ≡ Some now)) → Kept (head_at m g) now
    by (inl z) = absurd (some_none now (sym z.1))
    by (inr z) = kept_same (head_at m g) now z.1

module _ (config : Config) (g : ℕ) (m : Records) (now : Head) where
  -- the work of a request that is no PostOp, Make, Mark or Unmark of the gfid
  work_kept : (q : Request) → is_post_on g q ≡ false → is_make_of g q ≡ false → is_marking g q ≡ false → head_at (work_of config q m) g ≡ Some now → Kept (head_at m g) now
  work_kept (Ask x domain kind) p c k e = kept_same (head_at m g) now e
  work_kept (Release x n) p c k e = kept_same (head_at m g) now e
  work_kept (Query x n) p c k e = kept_same (head_at m g) now e
  work_kept (PreOp x n at dirty) p c k e = kept_change m x.0 g (with_dirty dirty) now (λ h. refl) (λ h. refl) e
  work_kept (ReadChunks x n first count) p c k e = kept_same (head_at m g) now e
  work_kept (WriteChunks x n first chunks) p c k e = kept_same (head_at m g) now (sym (head_kept m x.0 (λ r. with_bytes r (512 * first) (bytes_of chunks)) (λ r. refl) g) ∙ e)
  work_kept (SetLength x n keep count) p c k e = kept_same (head_at m g) now (sym (head_kept m x.0 (λ r. with_length r keep count) (λ r. refl) g) ∙ e)
  work_kept (PostOp x n at version size attr) p c k e = kept_apart m x.0 g (committed version size attr) now p e
  work_kept (Clear x n at) p c k e = kept_change m x.0 g (with_dirty 0) now (λ h. refl) (λ h. refl) e
  work_kept (NameGet x n name) p c k e = kept_same (head_at m g) now e
  work_kept (NamesAfter x n start) p c k e = kept_same (head_at m g) now e
  work_kept (NameSet x n name child) p c k e = kept_same (head_at m g) now (sym (head_kept m x.0 (λ r. record r { names = named r.names name child }) (λ r. refl) g) ∙ e)
  work_kept (NamesPut x n start upto list) p c k e = kept_same (head_at m g) now (sym (head_kept m x.0 (λ r. record r { names = replaced r.names start upto list }) (λ r. refl) g) ∙ e)
  work_kept (Make x n child) p c k e = kept_put m child.gfid.0 g (Some (headed (m child.gfid.0) (new_head config child.kind))) now c e
  work_kept (Made x n child) p c k e = kept_change m child.0 g (with_dirty 0) now (λ h. refl) (λ h. refl) e
  work_kept (Unmake x n child) p c k e = kept_gone m child.0 g now e
  work_kept (Mark x n heal head) p c k e = kept_put m x.0 g (Some (headed (m x.0) head)) now k e
  work_kept (Unmark x n at dirty) p c k e = kept_apart m x.0 g _ now k e
  work_kept (GfidsAfter start dirty) p c k e = kept_same (head_at m g) now e

  -- a record that a PostOp changed
  pub work_posted : (x : Gfid) (n at version size : ℕ) (attr : Option Attr) → x.0 ≡ g → head_at (work_of config (PostOp x n at version size attr) m) g ≡ Some now → (h : Head) × (head_at m g ≡ Some h) × (now ≡ committed version size attr h)
  work_posted x n at version size attr on e = by (changed_head m x.0 g (committed version size attr) now e)
    where
      by : ((x.0 ≡ g) × (h : Head) × (head_at m g ≡ Some h) × (now ≡ committed version size attr h)) ⊎ (((g == x.0) ≡ false) × (head_at m g ≡ Some now)) → (h : Head) × (head_at m g ≡ Some h) × (now ≡ committed version size attr h)
      by (inl z) = (z.1, z.2, z.3)
      by (inr z) = absurd (apart g x.0 (sym on) z.0)

  -- one that a Make made
  pub work_made : (x : Gfid) (n : ℕ) (child : Child) → child.gfid.0 ≡ g → head_at (work_of config (Make x n child) m) g ≡ Some now → now ≡ new_head config child.kind
  work_made x n child on e = by (put_head m child.gfid.0 g (Some (headed (m child.gfid.0) (new_head config child.kind))) now e)
    where
      by : ((child.gfid.0 ≡ g) × (Some (headed (m child.gfid.0) (new_head config child.kind)).head ≡ Some now)) ⊎ (((g == child.gfid.0) ≡ false) × (head_at m g ≡ Some now)) → now ≡ new_head config child.kind
      by (inl z) = sym (some_is (headed (m child.gfid.0) (new_head config child.kind)).head now z.1) ∙ headed_is (m child.gfid.0) (new_head config child.kind)
      by (inr z) = absurd (apart g child.gfid.0 (sym on) z.0)

-- ## An execution

either_false : (t u : Bool) → (t || u) ≡ false → (t ≡ false) × (u ≡ false)
either_false true u e = absurd (cc)
either_false false u e = (refl, e)

module _ (s : Brick) (f : Failing) (g : ℕ) (now : Head) where
  fenced_kept : (q : Request) (r : Row) → (is_done (fenced s f (work s q) r (fence s.asks r)).says && (is_post_on g q || is_make_of g q)) ≡ false → is_marking g q ≡ false → head_at (fenced s f (work s q) r (fence s.asks r)).brick.records g ≡ Some now → Kept (head_at s.records g) now
  fenced_kept q r none k e = by (outcome s q r f)
    where
      by : IsDone s q r (fenced s f (work s q) r (fence s.asks r)) ⊎ IsNot s (fenced s f (work s q) r (fence s.asks r)) → Kept (head_at s.records g) now
      by (inl o) = worked (is_post_on g q || is_make_of g q) refl
        where
          z : head_at (work_of s.config q s.records) g ≡ Some now
          z = sym (ap (λ (b : Brick). head_at b.records g) o.brick) ∙ e

          own_done : (q : Request) → (is_post_on g q || is_make_of g q) ≡ true → is_done (own_reply q s.records) ≡ true
          own_done (PostOp x n at version size attr) h = refl
          own_done (Make x n child) h = refl
          own_done q h = absurd (cc)

          worked : (t : Bool) → (is_post_on g q || is_make_of g q) ≡ t → Kept (head_at s.records g) now
          worked false h = let w = either_false (is_post_on g q) (is_make_of g q) h in work_kept s.config g s.records now q w.0 w.1 k z
          worked true h = absurd (both (is_done (fenced s f (work s q) r (fence s.asks r)).says) (is_post_on g q || is_make_of g q) none (ap is_done o.says ∙ own_done q h) h)
            where
              both : (t u : Bool) → (t && u) ≡ false → t ≡ true → u ≡ true → ⊥
              both true u x y w = absurd (let v = sym x ∙ w in cc)
              both false u x y w = absurd (cc)
      by (inr o) = kept_same (head_at s.records g) now (sym (o.heads g) ∙ e)

  row_kept : (q : Request) (o : Option Row) → (is_done (by_row s f (work s q) o).says && (is_post_on g q || is_make_of g q)) ≡ false → is_marking g q ≡ false → head_at (by_row s f (work s q) o).brick.records g ≡ Some now → Kept (head_at s.records g) now
  row_kept q None none k e = kept_same (head_at s.records g) now e
  row_kept q (Some r) none k e = fenced_kept q r none k e

  free_kept : (f : Failing) (start : Option Gfid) (dirty : Bool) → head_at (unguarded s f (own_reply (GfidsAfter start dirty) s.records)).brick.records g ≡ Some now → Kept (head_at s.records g) now
  free_kept Fine start dirty e = kept_same (head_at s.records g) now e
  free_kept Before start dirty e = kept_same (head_at s.records g) now e
  free_kept Within start dirty e = kept_same (head_at s.records g) now e

  -- of a request that is no PostOp or Make of the gfid which was done
  pub executed_kept : (client number : ℕ) (q : Request) → (is_done (executed s f client number q).says && (is_post_on g q || is_make_of g q)) ≡ false → is_marking g q ≡ false → head_at (executed s f client number q).brick.records g ≡ Some now → Kept (head_at s.records g) now
  executed_kept client number (Ask x domain kind) none k e = kept_same (head_at s.records g) now e
  executed_kept client number (Release x n) none k e = kept_same (head_at s.records g) now e
  executed_kept client number (GfidsAfter start dirty) none k e = free_kept f start dirty e
  executed_kept client number q none k e = row_kept q (row_of q) none k e

  row_done : (q : Request) (o : Option Row) → is_done (by_row s f (work s q) o).says ≡ true → head_at (by_row s f (work s q) o).brick.records g ≡ Some now → head_at (work_of s.config q s.records) g ≡ Some now
  row_done q None d e = absurd (cc)
  row_done q (Some r) d e = by (outcome s q r f)
    where
      by : IsDone s q r (fenced s f (work s q) r (fence s.asks r)) ⊎ IsNot s (fenced s f (work s q) r (fence s.asks r)) → head_at (work_of s.config q s.records) g ≡ Some now
      by (inl o) = sym (ap (λ (b : Brick). head_at b.records g) o.brick) ∙ e
      by (inr o) = absurd (let z = sym d ∙ o.says in cc)

  -- of a PostOp and of a Make that were done
  pub executed_posted : (client number : ℕ) (x : Gfid) (n at version size : ℕ) (attr : Option Attr) → x.0 ≡ g → is_done (executed s f client number (PostOp x n at version size attr)).says ≡ true → head_at (executed s f client number (PostOp x n at version size attr)).brick.records g ≡ Some now → (h : Head) × (head_at s.records g ≡ Some h) × (now ≡ committed version size attr h)
  executed_posted client number x n at version size attr on d e = work_posted s.config g s.records now x n at version size attr on (row_done (PostOp x n at version size attr) (row_of (PostOp x n at version size attr)) d e)

  pub executed_made : (client number : ℕ) (x : Gfid) (n : ℕ) (child : Child) → child.gfid.0 ≡ g → is_done (executed s f client number (Make x n child)).says ≡ true → head_at (executed s f client number (Make x n child)).brick.records g ≡ Some now → now ≡ new_head s.config child.kind
  executed_made client number x n child on d e = work_made s.config g s.records now x n child on (row_done (Make x n child) (row_of (Make x n child)) d e)
