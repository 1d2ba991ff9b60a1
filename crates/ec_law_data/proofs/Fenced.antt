-- A brick that does a request on data, or some of it, has the grant that the request names and a record.
use Rattle.std.proofs.Common.{◌≡◌, ◌⊎◌, ℕ, Bool, true, Option, Some, None, take, refl, sym, ◌∙◌, subst, inl, inr}
use Rattle.ec_attr.specs.declared.gfid.Gfid.{Gfid}
use Rattle.ec_attr.specs.declared.head.Head.{Head}
use Rattle.ec_attr.specs.declared.kind.Domain.TheVariants.{Inode}
use Rattle.ec_attr.specs.declared.kind.Kind.{Kind}
use Rattle.ec_attr.specs.declared.kind.Kind.TheVariants.{File, Dir}
use Rattle.ec_attr.specs.declared.kind.LockKind.TheVariants.{Exclusive}
use Rattle.ec_locks.specs.Table.{holds}
use Rattle.ec_store.specs.Records.{head_at}
use Rattle.ec_wire.specs.declared.reply.Reply.{Reply}
use Rattle.ec_wire.specs.declared.request.Request.{Request}
use Rattle.ec_wire.specs.declared.request.Request.TheVariants.{Ask, Release, Query, PreOp, ReadChunks, WriteChunks, SetLength, PostOp, Clear, NameGet, NamesAfter, NameSet, NamesPut, Make, Made, Unmake, Mark, Unmark, GfidsAfter}
use Rattle.ec_brick.specs.Rows.{fence, refusal, is_writers}
use Rattle.ec_brick.specs.State.{State as Brick}
use Rattle.ec_brick.specs.Step.{Failing, Fine, Before, Within, Out, Work, by_row, executed, fenced, head_read, judged, part_work, refusal_of, torn_off, version_of, work, worked}
use Rattle.ec_brick.specs.Work.{bytes_of}
use Rattle.ec_brick.specs.declared.row.Row.{Row}
use Rattle.ec_brick.specs.declared.row.Need.TheVariants.{Writing, Either}
use Rattle.ec_brick.specs.declared.row.Check.TheVariants.{OfKind, Content}
use Rattle.ec_conduct.specs.Conduct.{named_grant}
use Rattle.ec_history.specs.Story.{is_done}
use Rattle.ec_law_net.specs.Turns.{exclusive}
use Rattle.ec_law_net.proofs.Guarded.{own_row}
use Rattle.ec_law_net.proofs.Locks.{held}
use Rattle.ec_law_net.proofs.Outcomes.{IsDone, IsNot, outcome}
use Rattle.ec_law_net.proofs.Requests.{fence_meets}
use Rattle.ec_law_data.specs.Deeds.{is_granted}
use Rattle.ec_law_data.specs.Link.{IsWriter}

-- the request's grant is the one of the content of the gfid, and there is a record
pub record Stood (g : ℕ) (s : Brick) (q : Request) : Type 0 where
  pub grant : ℕ
  pub names : named_grant q ≡ Some grant
  pub stands : exclusive g Inode s.asks ≡ Some grant
  pub head : Head
  pub there : head_at s.records g ≡ Some head

content_there : (k : Kind) (i : ℕ) (w u : Bool) (o : Option Head) → refusal (Content k) i w u o ≡ None → (h : Head) × (o ≡ Some h)
content_there k i w u None e = absurd (cc)
content_there k i w u (Some h) e = (h, refl)

kind_there : (k : Kind) (i : ℕ) (w u : Bool) (o : Option Head) → refusal (OfKind k) i w u o ≡ None → (h : Head) × (o ≡ Some h)
kind_there k i w u None e = absurd (cc)
kind_there k i w u (Some h) e = (h, refl)

version_there : (o : Option Head) (v : ℕ) → version_of o ≡ Some v → (h : Head) × (o ≡ Some h)
version_there None v e = absurd (cc)
version_there (Some h) v e = (h, refl)

module _ (s : Brick) (f : Failing) (w : Work) (r : Row) where
  judged_version : (v : Option ℕ) (o : Option Reply) (x : ℕ) → (judged s f w v o).version ≡ Some x → v ≡ Some x
  judged_version v None x e = by f e
    where
      by : (f : Failing) → (worked s f w v).version ≡ Some x → v ≡ Some x
      by Fine e = e
      by Before e = e
      by Within e = e
  judged_version v (Some y) x e = e

-- where a version was read the fence let the request through, and there was a record
read_there : (s : Brick) (f : Failing) (w : Work) (r : Row) (x : ℕ) → (by_row s f w (Some r)).version ≡ Some x → (fence s.asks r ≡ None) × ((h : Head) × (head_at s.records r.subject.0 ≡ Some h))
read_there s f w r x e = at (fence s.asks r) refl e
  where
    reads : (f : Failing) → (head_read s f w r (head_at s.records r.subject.0)).version ≡ Some x → (h : Head) × (head_at s.records r.subject.0 ≡ Some h)
    reads Fine e = version_there (head_at s.records r.subject.0) x (judged_version s Fine w r (version_of (head_at s.records r.subject.0)) (refusal_of s r (head_at s.records r.subject.0)) x e)
    reads Before e = absurd (cc)
    reads Within e = version_there (head_at s.records r.subject.0) x (judged_version s Within w r (version_of (head_at s.records r.subject.0)) (refusal_of s r (head_at s.records r.subject.0)) x e)

    at : (o : Option Reply) → fence s.asks r ≡ o → (fenced s f w r o).version ≡ Some x → (fence s.asks r ≡ None) × ((h : Head) × (head_at s.records r.subject.0 ≡ Some h))
    at (Some y) p e = absurd (cc)
    at None p e = (p, reads f e)

module _ (g : ℕ) (s : Brick) where
  -- under the grant of the content
  stood : (q : Request) (x : Gfid) (n : ℕ) (h : Head) → named_grant q ≡ Some n → x.0 ≡ g → holds s.asks n x Inode Exclusive ≡ true → head_at s.records x.0 ≡ Some h → Stood g s q
  stood q x n h names on granted there = record { grant = n; names = names; stands = subst (λ (y : ℕ). exclusive y Inode s.asks ≡ Some n) on (held x Inode s.asks n granted); head = h; there = subst (λ (y : ℕ). head_at s.records y ≡ Some h) on there }

  not_done : (q : Request) (o : Out) → is_done o.says ≡ true → IsNot s o → Stood g s q
  not_done q o done d = absurd (let e = sym d.says ∙ done in cc)

  pub done_stood : (client number : ℕ) (q : Request) → IsWriter g q → is_granted s q ≡ true → is_done (executed s Fine client number q).says ≡ true → Stood g s q
  done_stood client number (WriteChunks x n first chunks) on granted done = by (outcome s (WriteChunks x n first chunks) (own_row x n Either (Content File)) Fine)
    where
      by : IsDone s (WriteChunks x n first chunks) (own_row x n Either (Content File)) (executed s Fine client number (WriteChunks x n first chunks)) ⊎ IsNot s (executed s Fine client number (WriteChunks x n first chunks)) → Stood g s (WriteChunks x n first chunks)
      by (inl d) = let h = content_there File n (is_writers Either s.asks n x) (s.removed x.0) (head_at s.records x.0) d.allowed in stood (WriteChunks x n first chunks) x n h.0 refl on granted h.1
      by (inr d) = not_done (WriteChunks x n first chunks) (executed s Fine client number (WriteChunks x n first chunks)) done d
  done_stood client number (SetLength x n keep count) on granted done = by (outcome s (SetLength x n keep count) (own_row x n Either (Content File)) Fine)
    where
      by : IsDone s (SetLength x n keep count) (own_row x n Either (Content File)) (executed s Fine client number (SetLength x n keep count)) ⊎ IsNot s (executed s Fine client number (SetLength x n keep count)) → Stood g s (SetLength x n keep count)
      by (inl d) = let h = content_there File n (is_writers Either s.asks n x) (s.removed x.0) (head_at s.records x.0) d.allowed in stood (SetLength x n keep count) x n h.0 refl on granted h.1
      by (inr d) = not_done (SetLength x n keep count) (executed s Fine client number (SetLength x n keep count)) done d
  done_stood client number (NameSet x n name child) on granted done = by (outcome s (NameSet x n name child) (own_row x n Writing (OfKind Dir)) Fine)
    where
      by : IsDone s (NameSet x n name child) (own_row x n Writing (OfKind Dir)) (executed s Fine client number (NameSet x n name child)) ⊎ IsNot s (executed s Fine client number (NameSet x n name child)) → Stood g s (NameSet x n name child)
      by (inl d) = let h = kind_there Dir n (is_writers Writing s.asks n x) (s.removed x.0) (head_at s.records x.0) d.allowed in stood (NameSet x n name child) x n h.0 refl on (fence_meets s.asks (own_row x n Writing (OfKind Dir)) d.passed).0 h.1
      by (inr d) = not_done (NameSet x n name child) (executed s Fine client number (NameSet x n name child)) done d
  done_stood client number (NamesPut x n start upto list) on granted done = absurd (cc)
  done_stood client number (Ask x domain kind) on granted done = absurd on
  done_stood client number (Release x n) on granted done = absurd on
  done_stood client number (Query x n) on granted done = absurd on
  done_stood client number (PreOp x n at dirty) on granted done = absurd on
  done_stood client number (ReadChunks x n first count) on granted done = absurd on
  done_stood client number (PostOp x n at version size attr) on granted done = absurd on
  done_stood client number (Clear x n at) on granted done = absurd on
  done_stood client number (NameGet x n name) on granted done = absurd on
  done_stood client number (NamesAfter x n start) on granted done = absurd on
  done_stood client number (Make x n child) on granted done = absurd on
  done_stood client number (Made x n child) on granted done = absurd on
  done_stood client number (Unmake x n child) on granted done = absurd on
  done_stood client number (Mark x n heal head) on granted done = absurd on
  done_stood client number (Unmark x n at dirty) on granted done = absurd on
  done_stood client number (GfidsAfter start dirty) on granted done = absurd on

  -- where the store failed in the work
  pub part_stood : (client number version : ℕ) (q : Request) → IsWriter g q → is_granted s q ≡ true → (executed s Within client number q).version ≡ Some version → Stood g s q
  part_stood client number read (WriteChunks x n first chunks) on granted e = let h = read_there s Within (work s (WriteChunks x n first chunks)) (own_row x n Either (Content File)) read e in stood (WriteChunks x n first chunks) x n h.1.0 refl on granted h.1.1
  part_stood client number read (SetLength x n keep count) on granted e = let h = read_there s Within (work s (SetLength x n keep count)) (own_row x n Either (Content File)) read e in stood (SetLength x n keep count) x n h.1.0 refl on granted h.1.1
  part_stood client number read (NameSet x n name child) on granted e = let h = read_there s Within (work s (NameSet x n name child)) (own_row x n Writing (OfKind Dir)) read e in stood (NameSet x n name child) x n h.1.0 refl on (fence_meets s.asks (own_row x n Writing (OfKind Dir)) h.0).0 h.1.1
  part_stood client number read (NamesPut x n start upto list) on granted e = absurd (cc)
  part_stood client number read (Ask x domain kind) on granted e = absurd on
  part_stood client number read (Release x n) on granted e = absurd on
  part_stood client number read (Query x n) on granted e = absurd on
  part_stood client number read (PreOp x n at dirty) on granted e = absurd on
  part_stood client number read (ReadChunks x n first count) on granted e = absurd on
  part_stood client number read (PostOp x n at version size attr) on granted e = absurd on
  part_stood client number read (Clear x n at) on granted e = absurd on
  part_stood client number read (NameGet x n name) on granted e = absurd on
  part_stood client number read (NamesAfter x n start) on granted e = absurd on
  part_stood client number read (Make x n child) on granted e = absurd on
  part_stood client number read (Made x n child) on granted e = absurd on
  part_stood client number read (Unmake x n child) on granted e = absurd on
  part_stood client number read (Mark x n heal head) on granted e = absurd on
  part_stood client number read (Unmark x n at dirty) on granted e = absurd on
  part_stood client number read (GfidsAfter start dirty) on granted e = absurd on

  -- where a write was cut short
  pub torn_stood : (most version : ℕ) (q : Request) → IsWriter g q → is_granted s q ≡ true → (torn_off s Within q most).version ≡ Some version → Stood g s q
  torn_stood most read (WriteChunks x n first chunks) on granted e = let h = read_there s Within (part_work s x first (take most (bytes_of chunks))) (own_row x n Either (Content File)) read e in stood (WriteChunks x n first chunks) x n h.1.0 refl on granted h.1.1
  torn_stood most read (Ask x domain kind) on granted e = absurd (cc)
  torn_stood most read (Release x n) on granted e = absurd (cc)
  torn_stood most read (Query x n) on granted e = absurd (cc)
  torn_stood most read (PreOp x n at dirty) on granted e = absurd (cc)
  torn_stood most read (ReadChunks x n first count) on granted e = absurd (cc)
  torn_stood most read (SetLength x n keep count) on granted e = absurd (cc)
  torn_stood most read (PostOp x n at version size attr) on granted e = absurd (cc)
  torn_stood most read (Clear x n at) on granted e = absurd (cc)
  torn_stood most read (NameGet x n name) on granted e = absurd (cc)
  torn_stood most read (NamesAfter x n start) on granted e = absurd (cc)
  torn_stood most read (NameSet x n name child) on granted e = absurd (cc)
  torn_stood most read (NamesPut x n start upto list) on granted e = absurd (cc)
  torn_stood most read (Make x n child) on granted e = absurd (cc)
  torn_stood most read (Made x n child) on granted e = absurd (cc)
  torn_stood most read (Unmake x n child) on granted e = absurd (cc)
  torn_stood most read (Mark x n heal head) on granted e = absurd (cc)
  torn_stood most read (Unmark x n at dirty) on granted e = absurd (cc)
  torn_stood most read (GfidsAfter start dirty) on granted e = absurd (cc)
