-- What a request makes of a gfid's record at a brick where no Heal grant stands.
use Rattle.std.proofs.Common.{◌≡◌, ◌⊎◌, ℕ, ◌*◌, Bool, true, false, cond, ◌==◌, ◌||◌, Option, Some, None, length, take, refl, sym, ◌∙◌, ap, subst, inl, inr}
use Rattle.std.specs.Option.{option_map}
use Rattle.ec_attr.specs.Head.{with_dirty}
use Rattle.ec_attr.specs.declared.attr.Attr.{Attr}
use Rattle.ec_attr.specs.declared.gfid.Gfid.{Gfid}
use Rattle.ec_attr.specs.declared.kind.Child.{Child}
use Rattle.ec_attr.specs.declared.kind.Domain.TheVariants.{Inode, Heal}
use Rattle.ec_attr.specs.declared.kind.Kind.TheVariants.{File, Dir}
use Rattle.ec_attr.specs.declared.kind.LockKind.TheVariants.{Exclusive}
use Rattle.ec_locks.specs.Table.{holds}
use Rattle.ec_store.specs.Put.{put}
use Rattle.ec_store.specs.Records.{Record, Records, changed, empty, head_at, headed, named, with_bytes, with_length}
use Rattle.ec_wire.specs.declared.reply.Reply.{Reply}
use Rattle.ec_wire.specs.declared.request.Request.{Request}
use Rattle.ec_wire.specs.declared.request.Request.TheVariants.{Ask, Release, Query, PreOp, ReadChunks, WriteChunks, SetLength, PostOp, Clear, NameGet, NamesAfter, NameSet, NamesPut, Make, Made, Unmake, Mark, Unmark, GfidsAfter}
use Rattle.ec_brick.specs.Rows.{fence, meets}
use Rattle.ec_brick.specs.State.{State as Brick}
use Rattle.ec_brick.specs.Step.{Failing, Fine, Before, Within, Out, Work, by_row, executed, fenced, head_read, judged, part_work, refusal_of, torn_off, version_of, work}
use Rattle.ec_brick.specs.Work.{bytes_of, committed, new_head, with_unset}
use Rattle.ec_brick.specs.declared.row.Check.{Check}
use Rattle.ec_brick.specs.declared.row.Check.TheVariants.{Present, At, OfKind, Content, Absent, Fresh, Markable}
use Rattle.ec_brick.specs.declared.row.Need.{Need}
use Rattle.ec_brick.specs.declared.row.Need.TheVariants.{Reading, Writing, Healing, Either}
use Rattle.ec_brick.specs.declared.row.Row.{Row}
use Rattle.ec_conduct.specs.Conduct.{named_grant}
use Rattle.ec_history.specs.Story.{is_done}
use Rattle.ec_law_net.proofs.Guarded.{own_row}
use Rattle.ec_law_net.proofs.Outcomes.{IsDone, IsNot, outcome}
use Rattle.ec_law_net.proofs.Requests.{absent, fence_meets, heal_held}
use Rattle.ec_law_turns.proofs.Basics.{equal, itself}
use Rattle.ec_law_grants.specs.Alters.{alters}

-- ## What may become of a record

-- the version that it has then: that of before, or the one that a PostOp sets
abbrev pub HasVersion : ℕ → Request → Record → Record → Type 0
HasVersion g (PostOp x n at version size attr) r s = (x.0 ≡ g) × (s.head.version.content ≡ version)
HasVersion g q r s = s.head.version.content ≡ r.head.version.content

-- a request that alters the record, under the exclusive grant of its gfid
pub record IsAltered (s : Brick) (g : ℕ) (q : Request) (was now : Option Record) : Type 0 where
  pub alters : alters q ≡ true
  pub grant : ℕ
  pub names : named_grant q ≡ Some grant
  pub gfid : Gfid
  pub on : gfid.0 ≡ g
  pub stands : holds s.asks grant gfid Inode Exclusive ≡ true
  pub before : Record
  pub was_is : was ≡ Some before
  pub after : Record
  pub now_is : now ≡ Some after
  pub version : HasVersion g q before after

-- a Make that was done, under the exclusive grant of the directory
pub record IsBorn (s : Brick) (g : ℕ) (q : Request) (done : Bool) (was now : Option Record) : Type 0 where
  pub dir : Gfid
  pub grant : ℕ
  pub child : Child
  pub is : q ≡ Make dir grant child
  pub on : child.gfid.0 ≡ g
  pub stands : holds s.asks grant dir Inode Exclusive ≡ true
  pub is_done : done ≡ true
  pub was_is : was ≡ None
  pub now_is : now ≡ Some (empty (new_head s.config child.kind))

-- a Made
pub record IsGrown (was now : Option Record) : Type 0 where
  pub before : Record
  pub was_is : was ≡ Some before
  pub now_is : now ≡ Some (record before { head = with_dirty 0 before.head })

pub data Change (s : Brick) (g : ℕ) (q : Request) (done : Bool) (was now : Option Record) : Type 0 where
  Same : now ≡ was → Change s g q done was now
  Gone : now ≡ None → Change s g q done was now
  Born : IsBorn s g q done was now → Change s g q done was now
  Grown : IsGrown was now → Change s g q done was now
  Altered : IsAltered s g q was now → Change s g q done was now

-- ## Records

changed_at : (m : Records) (x g : ℕ) (f : Record → Record) → (changed m x f g ≡ m g) ⊎ ((x ≡ g) × (r : Record) × (m g ≡ Some r) × (changed m x f g ≡ Some (f r)))
changed_at m x g f = at (g == x) refl
  where
    mapped : (o p : Option Record) → p ≡ o → (option_map f o ≡ p) ⊎ ((r : Record) × (p ≡ Some r) × (option_map f o ≡ Some (f r)))
    mapped None p e = inl (sym e)
    mapped (Some r) p e = inr (r, e, refl)

    at : (t : Bool) → (g == x) ≡ t → (cond t (option_map f (m x)) (m g) ≡ m g) ⊎ ((x ≡ g) × (r : Record) × (m g ≡ Some r) × (cond t (option_map f (m x)) (m g) ≡ Some (f r)))
    at false e = inl refl
    at true e = of (mapped (m x) (m g) (ap m (equal g x e)))
      where
        of : (option_map f (m x) ≡ m g) ⊎ ((r : Record) × (m g ≡ Some r) × (option_map f (m x) ≡ Some (f r))) → (option_map f (m x) ≡ m g) ⊎ ((x ≡ g) × (r : Record) × (m g ≡ Some r) × (option_map f (m x) ≡ Some (f r)))
        of (inl h) = inl h
        of (inr h) = inr (sym (equal g x e), h.0, h.1, h.2)

-- a record that is put there
put_at : (m : Records) (x g : ℕ) (o : Option Record) → (put m x o g ≡ m g) ⊎ ((x ≡ g) × (put m x o g ≡ o))
put_at m x g o = at (g == x) refl
  where
    at : (t : Bool) → (g == x) ≡ t → (cond t o (m g) ≡ m g) ⊎ ((x ≡ g) × (cond t o (m g) ≡ o))
    at true e = inr (sym (equal g x e), refl)
    at false e = inl refl

no_record : (o : Option Record) → option_map (λ (r : Record). r.head) o ≡ None → o ≡ None
no_record None e = refl
no_record (Some r) e = absurd (cc)

-- ## Rows

-- the request passed the fence and the check
pub record Passed (s : Brick) (r : Row) : Type 0 where
  pub fence_is : fence s.asks r ≡ None
  pub allowed : refusal_of s r (head_at s.records r.subject.0) ≡ None

-- it was done, or the store failed in it
abbrev pub Worked : Work → Out → Type 0
Worked w o = ((o.brick ≡ w.done) × (o.says ≡ w.own)) ⊎ (o.brick ≡ w.broken)

module _ (s : Brick) (w : Work) (r : Row) where
  abbrev Ends : Out → Type 0
  Ends o = (o.brick ≡ s) ⊎ (Passed s r × Worked w o)

  judges : (f : Failing) (v : Option ℕ) → fence s.asks r ≡ None → (o : Option Reply) → refusal_of s r (head_at s.records r.subject.0) ≡ o → Ends (judged s f w v o)
  judges f v p (Some y) e = inl refl
  judges Fine v p None e = inr (record { fence_is = p; allowed = e }, inl (refl, refl))
  judges Before v p None e = inl refl
  judges Within v p None e = inr (record { fence_is = p; allowed = e }, inr refl)

  reads : (f : Failing) → fence s.asks r ≡ None → Ends (head_read s f w r (head_at s.records r.subject.0))
  reads Fine p = judges Fine (version_of (head_at s.records r.subject.0)) p (refusal_of s r (head_at s.records r.subject.0)) refl
  reads Before p = inl refl
  reads Within p = judges Within (version_of (head_at s.records r.subject.0)) p (refusal_of s r (head_at s.records r.subject.0)) refl

  pub row_ends : (f : Failing) → Ends (by_row s f w (Some r))
  row_ends f = at (fence s.asks r) refl
    where
      at : (o : Option Reply) → fence s.asks r ≡ o → Ends (fenced s f w r o)
      at None e = reads f e
      at (Some y) e = inl refl

abbrev of_child : Gfid → ℕ → Gfid → Check → Row
of_child x n child check = record { gfid = x; grant = n; need = Writing; heal = None; subject = child; check = check }

abbrev of_heal : Gfid → ℕ → ℕ → Check → Row
of_heal x n heal check = record { gfid = x; grant = n; need = Writing; heal = Some heal; subject = x; check = check }

-- ## Requests

module _ (s : Brick) (g : ℕ) (unhealed : (n : ℕ) (x : Gfid) → holds s.asks n x Heal Exclusive ≡ true → ⊥) where
  abbrev Becomes : Request → Out → Type 0
  Becomes q o = Change s g q (is_done o.says) (s.records g) (o.brick.records g)

  unmoved : (q : Request) (o : Out) → o.brick ≡ s → Becomes q o
  unmoved q o e = Same (ap (λ (z : Brick). z.records g) e)

  -- the fence lets through under the exclusive grant of the gfid alone
  lets_through : (need : Need) (n : ℕ) (x : Gfid) → (need ≡ Writing) ⊎ (need ≡ Either) → meets need s.asks n x ≡ true → holds s.asks n x Inode Exclusive ≡ true
  lets_through need n x (inl e) h = subst (λ (y : Need). meets y s.asks n x ≡ true) e h
  lets_through need n x (inr e) h = at (holds s.asks n x Inode Exclusive) (holds s.asks n x Heal Exclusive) refl (subst (λ (y : Need). meets y s.asks n x ≡ true) e h)
    where
      at : (t u : Bool) → holds s.asks n x Heal Exclusive ≡ u → (t || u) ≡ true → t ≡ true
      at true u f h = refl
      at false true f h = absurd (unhealed n x f)
      at false false f h = h

  -- a change of the record
  alteration : (q : Request) (x : Gfid) (n : ℕ) (f : Record → Record) (o : Out) → alters q ≡ true → named_grant q ≡ Some n → holds s.asks n x Inode Exclusive ≡ true → ((r : Record) → x.0 ≡ g → HasVersion g q r (f r)) → o.brick.records ≡ changed s.records x.0 f → Becomes q o
  alteration q x n f o alter names stands version is = at (changed_at s.records x.0 g f)
    where
      here : o.brick.records g ≡ changed s.records x.0 f g
      here = ap (λ (z : Records). z g) is

      at : (changed s.records x.0 f g ≡ s.records g) ⊎ ((x.0 ≡ g) × (r : Record) × (s.records g ≡ Some r) × (changed s.records x.0 f g ≡ Some (f r))) → Becomes q o
      at (inl e) = Same (here ∙ e)
      at (inr e) = Altered (record { alters = alter; grant = n; names = names; gfid = x; on = e.0; stands = stands; before = e.1; was_is = e.2; after = f e.1; now_is = here ∙ e.3; version = version e.1 e.0 })

  -- of a row for the content of the gfid
  content_row : (q : Request) (w : Work) (x : Gfid) (n : ℕ) (need : Need) (check : Check) (f h : Record → Record) (fails : Failing) → (need ≡ Writing) ⊎ (need ≡ Either) → alters q ≡ true → named_grant q ≡ Some n → ((r : Record) → x.0 ≡ g → HasVersion g q r (f r)) → w.done.records ≡ changed s.records x.0 f → (w.broken.records ≡ s.records) ⊎ (((r : Record) → x.0 ≡ g → HasVersion g q r (h r)) × (w.broken.records ≡ changed s.records x.0 h)) → Becomes q (by_row s fails w (Some (own_row x n need check)))
  content_row q w x n need check f h fails needs alter names version done broken = at (row_ends s w (own_row x n need check) fails)
    where
      out : Out
      out = by_row s fails w (Some (own_row x n need check))

      at : (out.brick ≡ s) ⊎ (Passed s (own_row x n need check) × Worked w out) → Becomes q out
      at (inl e) = unmoved q out e
      at (inr p) = by p.1
        where
          stands : holds s.asks n x Inode Exclusive ≡ true
          stands = lets_through need n x needs (fence_meets s.asks (own_row x n need check) p.0.fence_is).0

          failed : out.brick ≡ w.broken → (w.broken.records ≡ s.records) ⊎ (((r : Record) → x.0 ≡ g → HasVersion g q r (h r)) × (w.broken.records ≡ changed s.records x.0 h)) → Becomes q out
          failed e (inl same) = Same (ap (λ (z : Brick). z.records g) e ∙ ap (λ (z : Records). z g) same)
          failed e (inr change) = alteration q x n h out alter names stands change.0 (ap (λ (z : Brick). z.records) e ∙ change.1)

          by : Worked w out → Becomes q out
          by (inl e) = alteration q x n f out alter names stands version (ap (λ (z : Brick). z.records) e.0 ∙ done)
          by (inr e) = failed e broken

  -- of a row that leaves the record
  reading_row : (q : Request) (w : Work) (r : Row) (fails : Failing) → w.done.records ≡ s.records → w.broken.records ≡ s.records → Becomes q (by_row s fails w (Some r))
  reading_row q w r fails done broken = at (row_ends s w r fails)
    where
      out : Out
      out = by_row s fails w (Some r)

      at : (out.brick ≡ s) ⊎ (Passed s r × Worked w out) → Becomes q out
      at (inl e) = unmoved q out e
      at (inr p) = by p.1
        where
          by : Worked w out → Becomes q out
          by (inl e) = Same (ap (λ (z : Brick). z.records g) e.0 ∙ ap (λ (z : Records). z g) done)
          by (inr e) = Same (ap (λ (z : Brick). z.records g) e ∙ ap (λ (z : Records). z g) broken)

  -- of a row that a heal's grant guards
  healing_row : (q : Request) (w : Work) (r : Row) (fails : Failing) → (fence s.asks r ≡ None → ⊥) → Becomes q (by_row s fails w (Some r))
  healing_row q w r fails never = at (row_ends s w r fails)
    where
      out : Out
      out = by_row s fails w (Some r)

      at : (out.brick ≡ s) ⊎ (Passed s r × Worked w out) → Becomes q out
      at (inl e) = unmoved q out e
      at (inr p) = absurd (never p.0.fence_is)

  on_make : (x : Gfid) (n : ℕ) (child : Child) (fails : Failing) → Becomes (Make x n child) (by_row s fails (work s (Make x n child)) (Some (of_child x n child.gfid Absent)))
  on_make x n child fails = at (row_ends s (work s (Make x n child)) (of_child x n child.gfid Absent) fails)
    where
      q : Request
      q = Make x n child

      out : Out
      out = by_row s fails (work s (Make x n child)) (Some (of_child x n child.gfid Absent))

      at : (out.brick ≡ s) ⊎ (Passed s (of_child x n child.gfid Absent) × Worked (work s q) out) → Becomes q out
      at (inl e) = unmoved q out e
      at (inr p) = by p.1
        where
          none : s.records child.gfid.0 ≡ None
          none = no_record (s.records child.gfid.0) (absent n true (s.removed child.gfid.0) (head_at s.records child.gfid.0) p.0.allowed).0

          by : Worked (work s q) out → Becomes q out
          by (inr e) = Same (ap (λ (z : Brick). z.records g) e)
          by (inl e) = of (put_at s.records child.gfid.0 g (Some (headed (s.records child.gfid.0) (new_head s.config child.kind))))
            where
              here : out.brick.records g ≡ put s.records child.gfid.0 (Some (headed (s.records child.gfid.0) (new_head s.config child.kind))) g
              here = ap (λ (z : Brick). z.records g) e.0

              of : (put s.records child.gfid.0 (Some (headed (s.records child.gfid.0) (new_head s.config child.kind))) g ≡ s.records g) ⊎ ((child.gfid.0 ≡ g) × (put s.records child.gfid.0 (Some (headed (s.records child.gfid.0) (new_head s.config child.kind))) g ≡ Some (headed (s.records child.gfid.0) (new_head s.config child.kind)))) → Becomes q out
              of (inl h) = Same (here ∙ h)
              of (inr h) = Born (record {
                dir = x;
                grant = n;
                child = child;
                is = refl;
                on = h.0;
                stands = (fence_meets s.asks (of_child x n child.gfid Absent) p.0.fence_is).0;
                is_done = ap is_done e.1;
                was_is = ap s.records (sym h.0) ∙ none;
                now_is = here ∙ (h.1 ∙ ap (λ (o : Option Record). Some (headed o (new_head s.config child.kind))) none);
              })

  on_made : (x : Gfid) (n : ℕ) (child : Gfid) (fails : Failing) → Becomes (Made x n child) (by_row s fails (work s (Made x n child)) (Some (of_child x n child Fresh)))
  on_made x n child fails = at (row_ends s (work s (Made x n child)) (of_child x n child Fresh) fails)
    where
      q : Request
      q = Made x n child

      out : Out
      out = by_row s fails (work s (Made x n child)) (Some (of_child x n child Fresh))

      at : (out.brick ≡ s) ⊎ (Passed s (of_child x n child Fresh) × Worked (work s q) out) → Becomes q out
      at (inl e) = unmoved q out e
      at (inr p) = by p.1
        where
          by : Worked (work s q) out → Becomes q out
          by (inr e) = Same (ap (λ (z : Brick). z.records g) e)
          by (inl e) = of (changed_at s.records child.0 g (λ r. record r { head = with_dirty 0 r.head }))
            where
              of : (changed s.records child.0 (λ r. record r { head = with_dirty 0 r.head }) g ≡ s.records g) ⊎ ((child.0 ≡ g) × (r : Record) × (s.records g ≡ Some r) × (changed s.records child.0 (λ r. record r { head = with_dirty 0 r.head }) g ≡ Some (record r { head = with_dirty 0 r.head }))) → Becomes q out
              of (inl h) = Same (ap (λ (z : Brick). z.records g) e.0 ∙ h)
              of (inr h) = Grown (record { before = h.1; was_is = h.2; now_is = ap (λ (z : Brick). z.records g) e.0 ∙ h.3 })

  on_unmake : (x : Gfid) (n : ℕ) (child : Gfid) (fails : Failing) → Becomes (Unmake x n child) (by_row s fails (work s (Unmake x n child)) (Some (of_child x n child Present)))
  on_unmake x n child fails = at (row_ends s (work s (Unmake x n child)) (of_child x n child Present) fails)
    where
      q : Request
      q = Unmake x n child

      out : Out
      out = by_row s fails (work s (Unmake x n child)) (Some (of_child x n child Present))

      at : (out.brick ≡ s) ⊎ (Passed s (of_child x n child Present) × Worked (work s q) out) → Becomes q out
      at (inl e) = unmoved q out e
      at (inr p) = by p.1
        where
          by : Worked (work s q) out → Becomes q out
          by (inr e) = Same (ap (λ (z : Brick). z.records g) e)
          by (inl e) = of (put_at s.records child.0 g None)
            where
              of : (put s.records child.0 None g ≡ s.records g) ⊎ ((child.0 ≡ g) × (put s.records child.0 None g ≡ None)) → Becomes q out
              of (inl h) = Same (ap (λ (z : Brick). z.records g) e.0 ∙ h)
              of (inr h) = Gone (ap (λ (z : Brick). z.records g) e.0 ∙ h.1)

  -- no grant of a heal lets anything through
  never_heals : (x : Gfid) (n : ℕ) (check : Check) → fence s.asks (own_row x n Healing check) ≡ None → ⊥
  never_heals x n check p = unhealed n x (fence_meets s.asks (own_row x n Healing check) p).0

  never_marks : (x : Gfid) (n heal : ℕ) (check : Check) → fence s.asks (of_heal x n heal check) ≡ None → ⊥
  never_marks x n heal check p = unhealed heal x (heal_held s.asks x heal (fence_meets s.asks (of_heal x n heal check) p).1)

  -- a request that is executed
  pub executed_change : (f : Failing) (client number : ℕ) (q : Request) → Becomes q (executed s f client number q)
  executed_change f client number (Ask x domain kind) = Same refl
  executed_change f client number (Release x n) = Same refl
  executed_change f client number (Query x n) = reading_row (Query x n) (work s (Query x n)) (own_row x n Reading Present) f refl refl
  executed_change f client number (PreOp x n at dirty) = content_row (PreOp x n at dirty) (work s (PreOp x n at dirty)) x n Writing (At at) (λ r. record r { head = with_dirty dirty r.head }) (λ r. r) f (inl refl) refl refl (λ r on. refl) refl (inl refl)
  executed_change f client number (ReadChunks x n first count) = reading_row (ReadChunks x n first count) (work s (ReadChunks x n first count)) (own_row x n Reading (OfKind File)) f refl refl
  executed_change f client number (WriteChunks x n first chunks) = content_row (WriteChunks x n first chunks) (work s (WriteChunks x n first chunks)) x n Either (Content File) (λ r. with_bytes r (512 * first) (bytes_of chunks)) (λ r. with_unset r (512 * first) (length (bytes_of chunks))) f (inr refl) refl refl (λ r on. refl) refl (inr (λ r on. refl, refl))
  executed_change f client number (SetLength x n keep count) = content_row (SetLength x n keep count) (work s (SetLength x n keep count)) x n Either (Content File) (λ r. with_length r keep count) (λ r. r) f (inr refl) refl refl (λ r on. refl) refl (inl refl)
  executed_change f client number (PostOp x n at version size attr) = content_row (PostOp x n at version size attr) (work s (PostOp x n at version size attr)) x n Writing (At at) (λ r. record r { head = committed version size attr r.head }) (λ r. r) f (inl refl) refl refl (λ r on. (on, refl)) refl (inl refl)
  executed_change f client number (Clear x n at) = content_row (Clear x n at) (work s (Clear x n at)) x n Writing (At at) (λ r. record r { head = with_dirty 0 r.head }) (λ r. r) f (inl refl) refl refl (λ r on. refl) refl (inl refl)
  executed_change f client number (NameGet x n name) = reading_row (NameGet x n name) (work s (NameGet x n name)) (own_row x n Reading (OfKind Dir)) f refl refl
  executed_change f client number (NamesAfter x n start) = reading_row (NamesAfter x n start) (work s (NamesAfter x n start)) (own_row x n Reading (OfKind Dir)) f refl refl
  executed_change f client number (NameSet x n name child) = content_row (NameSet x n name child) (work s (NameSet x n name child)) x n Writing (OfKind Dir) (λ r. record r { names = named r.names name child }) (λ r. r) f (inl refl) refl refl (λ r on. refl) refl (inl refl)
  executed_change f client number (NamesPut x n start upto list) = healing_row (NamesPut x n start upto list) (work s (NamesPut x n start upto list)) (own_row x n Healing (Content Dir)) f (never_heals x n (Content Dir))
  executed_change f client number (Make x n child) = on_make x n child f
  executed_change f client number (Made x n child) = on_made x n child f
  executed_change f client number (Unmake x n child) = on_unmake x n child f
  executed_change f client number (Mark x n heal head) = healing_row (Mark x n heal head) (work s (Mark x n heal head)) (of_heal x n heal (Markable head.kind head.version.content)) f (never_marks x n heal (Markable head.kind head.version.content))
  executed_change f client number (Unmark x n at dirty) = healing_row (Unmark x n at dirty) (work s (Unmark x n at dirty)) (own_row x n Healing (At at)) f (never_heals x n (At at))
  executed_change Fine client number (GfidsAfter start dirty) = Same refl
  executed_change Before client number (GfidsAfter start dirty) = Same refl
  executed_change Within client number (GfidsAfter start dirty) = Same refl

  -- a write that is cut short
  pub torn_change : (f : Failing) (count : ℕ) (q : Request) → Change s g q false (s.records g) ((torn_off s f q count).brick.records g)
  torn_change f count (WriteChunks x n first chunks) = at (is_done out.says) (out.brick.records g) (content_row (WriteChunks x n first chunks) (part_work s x first (take count (bytes_of chunks))) x n Either (Content File) (λ r. with_bytes r (512 * first) (take count (bytes_of chunks))) (λ r. with_unset r (512 * first) (length (take count (bytes_of chunks)))) f (inr refl) refl refl (λ r on. refl) refl (inr (λ r on. refl, refl)))
    where
      out : Out
      out = by_row s f (part_work s x first (take count (bytes_of chunks))) (Some (own_row x n Either (Content File)))

      at : (done : Bool) (now : Option Record) → Change s g (WriteChunks x n first chunks) done (s.records g) now → Change s g (WriteChunks x n first chunks) false (s.records g) now
      at done now (Same e) = Same e
      at done now (Gone e) = Gone e
      at done now (Born b) = absurd (let z = b.is in cc)
      at done now (Grown w) = Grown w
      at done now (Altered a) = Altered a
  torn_change f count q = Same refl

-- what a PostOp leaves that is done
pub post_done_version : (s : Brick) (client number : ℕ) (x : Gfid) (n at version size : ℕ) (attr : Option Attr) → is_done (executed s Fine client number (PostOp x n at version size attr)).says ≡ true → (r : Record) → (executed s Fine client number (PostOp x n at version size attr)).brick.records x.0 ≡ Some r → r.head.version.content ≡ version
post_done_version s client number x n at version size attr done r is = by (outcome s (PostOp x n at version size attr) (own_row x n Writing (At at)) Fine)
  where
    q : Request
    q = PostOp x n at version size attr

    f : Record → Record
    f r = record r { head = committed version size attr r.head }

    some_is : (x y : Record) → Some x ≡ Some y → x ≡ y
    some_is x y e = cc

    mapped : (o : Option Record) → option_map f o ≡ Some r → r.head.version.content ≡ version
    mapped None e = absurd (cc)
    mapped (Some y) e = ap (λ (z : Record). z.head.version.content) (sym (some_is (f y) r e))

    here : (t : Bool) → t ≡ true → cond t (option_map f (s.records x.0)) (s.records x.0) ≡ Some r → r.head.version.content ≡ version
    here true u e = mapped (s.records x.0) e
    here false u e = absurd (cc)

    by : IsDone s q (own_row x n Writing (At at)) (executed s Fine client number q) ⊎ IsNot s (executed s Fine client number q) → r.head.version.content ≡ version
    by (inl d) = here (x.0 == x.0) (itself x.0) (sym (ap (λ (z : Brick). z.records x.0) d.brick) ∙ is)
    by (inr d) = absurd (let e = sym d.says ∙ done in cc)
