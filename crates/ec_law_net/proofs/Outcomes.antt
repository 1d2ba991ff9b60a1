-- What a brick makes of a request that a grant guards: it was done, or it left heads and locks as they were.
use Rattle.std.proofs.Common.{◌≡◌, ◌⊎◌, ℕ, ◌*◌, Bool, true, false, not, cond, ◌==◌, ◌&&◌, ◌||◌, Option, Some, None, List, [], length, refl, ◌∙◌, ap, arith, inl, inr}
use Rattle.std.proofs.lemmas.Bool.Decides.{nat_tests}
use Rattle.std.specs.Option.{option_map}
use Rattle.ec_attr.specs.Marks.{is_marked, stripped}
use Rattle.ec_attr.specs.declared.head.Head.{Head}
use Rattle.ec_attr.specs.declared.kind.Domain.TheVariants.{Heal}
use Rattle.ec_attr.specs.declared.kind.LockKind.TheVariants.{Exclusive}
use Rattle.ec_locks.specs.Table.{holds}
use Rattle.ec_locks.specs.declared.ask.Ask.{Ask as Asking}
use Rattle.ec_store.specs.Records.{Record, Records, changed, head_at}
use Rattle.ec_wire.specs.declared.reply.Reply.{Reply}
use Rattle.ec_wire.specs.declared.reply.Reply.TheVariants.{Fault, NoGrant}
use Rattle.ec_wire.specs.declared.request.Request.{Request}
use Rattle.ec_wire.specs.declared.request.Request.TheVariants.{Ask, Release, Query, PreOp, ReadChunks, WriteChunks, SetLength, PostOp, Clear, NameGet, NamesAfter, NameSet, NamesPut, Make, Made, Unmake, Mark, Unmark, GfidsAfter}
use Rattle.ec_brick.specs.Replies.{Is, own_of}
use Rattle.ec_brick.specs.Rows.{fence, heal_fence, is_writers, meets, other_kind, refusal}
use Rattle.ec_brick.specs.State.{State as Brick}
use Rattle.ec_brick.specs.Step.{Failing, Fine, Before, Within, Out, fenced, head_read, judged, refusal_of, version_of, work, worked}
use Rattle.ec_brick.specs.Work.{broken_of, bytes_of, with_unset}
use Rattle.ec_brick.specs.declared.row.Row.{Row}
use Rattle.ec_brick.specs.declared.row.Check.{Check}
use Rattle.ec_brick.specs.declared.row.Check.TheVariants.{Present, At, OfKind, Content, Absent, Fresh, Markable}
use Rattle.ec_history.specs.Story.{is_done}
use Rattle.ec_attr.specs.GoodGroup.{same_kind}

-- no refusal says Done
abbrev pub NotDone : Option Reply → Type 0
NotDone None = Unit {0}
NotDone (Some y) = is_done (Is y) ≡ false

not_done_if : (t : Bool) (o p : Option Reply) → NotDone o → NotDone p → NotDone (cond t o p)
not_done_if true o p h i = h
not_done_if false o p h i = i

fence_not_done : (asks : List Asking) (r : Row) → NotDone (fence asks r)
fence_not_done asks r = not_done_if (meets r.need asks r.grant r.gfid) (heal_fence asks r.gfid r.heal) (Some (NoGrant r.grant)) (heals r.heal) refl
  where
    heals : (o : Option ℕ) → NotDone (heal_fence asks r.gfid o)
    heals None = tt
    heals (Some n) = not_done_if (holds asks n r.gfid Heal Exclusive) None (Some (NoGrant n)) tt refl

other_not_done : (t : Bool) (y : Reply) → is_done (Is y) ≡ false → NotDone (cond t None (Some y))
other_not_done t y e = not_done_if t None (Some y) tt e

refusal_not_done : (c : Check) (n : ℕ) (writer gone : Bool) (h : Option Head) → NotDone (refusal c n writer gone h)
refusal_not_done Present n writer gone None = refl
refusal_not_done Present n writer gone (Some h) = tt
refusal_not_done (At v) n writer gone None = refl
refusal_not_done (At v) n writer gone (Some h) = other_not_done (h.version.content == v) _ refl
refusal_not_done (OfKind k) n writer gone None = refl
refusal_not_done (OfKind k) n writer gone (Some h) = other_not_done (same_kind h.kind k) _ refl
refusal_not_done (Content k) n writer gone None = refl
refusal_not_done (Content k) n writer gone (Some h) = not_done_if (writer || is_marked h.version.content) (other_kind k h) (Some (NoGrant n)) (other_not_done (same_kind h.kind k) _ refl) refl
refusal_not_done Absent n writer gone None = not_done_if gone _ None refl tt
refusal_not_done Absent n writer gone (Some h) = refl
refusal_not_done Fresh n writer gone None = refl
refusal_not_done Fresh n writer gone (Some h) = other_not_done (not gone && (h.version.content == 0) && (h.dirty.content == 1)) _ refl
refusal_not_done (Markable k v) n writer gone None = tt
refusal_not_done (Markable k v) n writer gone (Some h) = not_done_if (same_kind h.kind k) _ _ (not_done_if (not (is_marked h.version.content) && (h.version.content == stripped v)) _ None refl tt) refl

-- a change that keeps the head
pub head_kept : (m : Records) (x : ℕ) (f : Record → Record) → ((r : Record) → (f r).head ≡ r.head) → (g : ℕ) → head_at (changed m x f) g ≡ head_at m g
head_kept m x f same g = either (g == x) refl
  where
    mapped : (o : Option Record) → option_map (λ r. r.head) (option_map f o) ≡ option_map (λ r. r.head) o
    mapped None = refl
    mapped (Some r) = ap (λ (h : Head). Some h) (same r)

    either : (t : Bool) → (g == x) ≡ t → option_map (λ r. r.head) (cond t (option_map f (m x)) (m g)) ≡ option_map (λ r. r.head) (m g)
    either true e = mapped (m x) ∙ ap (head_at m) (grind (arith, nat_tests))
    either false e = refl

broken_heads : (q : Request) (m : Records) (g : ℕ) → head_at (broken_of q m) g ≡ head_at m g
broken_heads (WriteChunks x n first chunks) m g = head_kept m x.0 (λ r. with_unset r (512 * first) (length (bytes_of chunks))) (λ r. refl) g
broken_heads (Ask x domain kind) m g = refl
broken_heads (Release x n) m g = refl
broken_heads (Query x n) m g = refl
broken_heads (PreOp x n at dirty) m g = refl
broken_heads (ReadChunks x n first count) m g = refl
broken_heads (SetLength x n keep count) m g = refl
broken_heads (PostOp x n at version size attr) m g = refl
broken_heads (Clear x n at) m g = refl
broken_heads (NameGet x n name) m g = refl
broken_heads (NamesAfter x n start) m g = refl
broken_heads (NameSet x n name child) m g = refl
broken_heads (NamesPut x n start upto list) m g = refl
broken_heads (Make x n child) m g = refl
broken_heads (Made x n child) m g = refl
broken_heads (Unmake x n child) m g = refl
broken_heads (Mark x n heal head) m g = refl
broken_heads (Unmark x n at dirty) m g = refl
broken_heads (GfidsAfter start dirty) m g = refl

-- the request passed the fence and the check, and was worked
pub record IsDone (s : Brick) (q : Request) (r : Row) (o : Out) : Type 0 where
  pub passed : fence s.asks r ≡ None
  pub allowed : refusal_of s r (head_at s.records r.subject.0) ≡ None
  pub brick : o.brick ≡ (work s q).done
  pub says : o.says ≡ own_of q s.records

pub record IsNot (s : Brick) (o : Out) : Type 0 where
  pub says : is_done o.says ≡ false
  pub heads : (g : ℕ) → head_at o.brick.records g ≡ head_at s.records g
  pub asks : o.brick.asks ≡ s.asks
  pub removed : (g : ℕ) → o.brick.removed g ≡ s.removed g
  pub up : o.brick.up ≡ s.up

module _ (s : Brick) (q : Request) (r : Row) where
  refused : (y : Reply) (v : Option ℕ) → is_done (Is y) ≡ false → IsNot s (record { brick = s; says = Is y; version = v; lets_in = [] })
  refused y v e = record { says = e; heads = λ g. refl; asks = refl; removed = λ g. refl; up = refl }

  broken : (v : Option ℕ) → IsNot s (worked s Within (work s q) v)
  broken v = record { says = refl; heads = broken_heads q s.records; asks = refl; removed = λ g. refl; up = refl }

  judges : (f : Failing) (v : Option ℕ) (o : Option Reply) → refusal_of s r (head_at s.records r.subject.0) ≡ o → fence s.asks r ≡ None → NotDone o → IsDone s q r (judged s f (work s q) v o) ⊎ IsNot s (judged s f (work s q) v o)
  judges Fine v None e p d = inl (record { passed = p; allowed = e; brick = refl; says = refl })
  judges Before v None e p d = inr (refused Fault v refl)
  judges Within v None e p d = inr (broken v)
  judges f v (Some y) e p d = inr (refused y v d)

  reads : (f : Failing) → fence s.asks r ≡ None → IsDone s q r (head_read s f (work s q) r (head_at s.records r.subject.0)) ⊎ IsNot s (head_read s f (work s q) r (head_at s.records r.subject.0))
  reads Fine p = judges Fine (version_of (head_at s.records r.subject.0)) (refusal_of s r (head_at s.records r.subject.0)) refl p (refusal_not_done r.check r.grant (is_writers r.need s.asks r.grant r.gfid) (s.removed r.subject.0) (head_at s.records r.subject.0))
  reads Before p = inr (refused Fault None refl)
  reads Within p = judges Within (version_of (head_at s.records r.subject.0)) (refusal_of s r (head_at s.records r.subject.0)) refl p (refusal_not_done r.check r.grant (is_writers r.need s.asks r.grant r.gfid) (s.removed r.subject.0) (head_at s.records r.subject.0))

  pub outcome : (f : Failing) → IsDone s q r (fenced s f (work s q) r (fence s.asks r)) ⊎ IsNot s (fenced s f (work s q) r (fence s.asks r))
  outcome f = go (fence s.asks r) refl (fence_not_done s.asks r)
    where
      go : (o : Option Reply) → fence s.asks r ≡ o → NotDone o → IsDone s q r (fenced s f (work s q) r o) ⊎ IsNot s (fenced s f (work s q) r o)
      go None e d = reads f e
      go (Some y) e d = inr (refused y None d)
