-- What a brick says to a Query, a PreOp, a PostOp and a Make: it refuses, or the request was done.
use Rattle.std.proofs.Common.{◌≡◌, ◌⊎◌, ℕ, Bool, true, false, not, cond, ◌==◌, ◌&&◌, ◌||◌, Option, Some, None, List, refl, sym, ◌∙◌, ap, subst, inl, inr}
use Rattle.std.specs.Option.{option_map}
use Rattle.ec_attr.specs.GoodGroup.{same_kind}
use Rattle.ec_attr.specs.Marks.{is_marked, stripped}
use Rattle.ec_attr.specs.declared.attr.Attr.{Attr}
use Rattle.ec_attr.specs.declared.gfid.Gfid.{Gfid}
use Rattle.ec_attr.specs.declared.head.Head.{Head}
use Rattle.ec_attr.specs.declared.kind.Child.{Child}
use Rattle.ec_attr.specs.declared.kind.Domain.TheVariants.{Inode, Heal}
use Rattle.ec_attr.specs.declared.kind.LockKind.TheVariants.{Shared, Exclusive}
use Rattle.ec_locks.specs.Table.{holds}
use Rattle.ec_locks.specs.declared.ask.Ask.{Ask as Asking}
use Rattle.ec_store.specs.Records.{Record, head_at}
use Rattle.ec_wire.specs.declared.reply.Reply.{Reply}
use Rattle.ec_wire.specs.declared.reply.Reply.TheVariants.{Done, Fault, Head as HeadIs, IsInode, NoGrant}
use Rattle.ec_wire.specs.declared.request.Request.{Request}
use Rattle.ec_wire.specs.declared.request.Request.TheVariants.{Query, PreOp, PostOp, Make}
use Rattle.ec_brick.specs.Replies.{Says, Is, Replies, of_record, own_of}
use Rattle.ec_brick.specs.Rows.{fence, heal_fence, is_writers, meets, other_kind, refusal}
use Rattle.ec_brick.specs.State.{State as Brick}
use Rattle.ec_brick.specs.Step.{Failing, Fine, Before, Within, executed, fenced, head_read, judged, refusal_of, version_of, work}
use Rattle.ec_brick.specs.declared.row.Check.{Check}
use Rattle.ec_brick.specs.declared.row.Check.TheVariants.{Present, At, OfKind, Content, Absent, Fresh, Markable}
use Rattle.ec_brick.specs.declared.row.Need.{Need}
use Rattle.ec_brick.specs.declared.row.Need.TheVariants.{Reading, Writing}
use Rattle.ec_brick.specs.declared.row.Row.{Row}
use Rattle.ec_conduct.specs.Done.{is_done}
use Rattle.ec_law_turns.proofs.Basics.{some_is}

-- nothing was done
abbrev pub IsRefused : Says → Type 0
IsRefused says = (y : Reply) × (says ≡ Is y) × (is_done (Some y) ≡ false)

abbrev NotDone : Option Reply → Type 0
NotDone None = Unit {0}
NotDone (Some y) = is_done (Some y) ≡ false

not_done_if : (t : Bool) (o p : Option Reply) → NotDone o → NotDone p → NotDone (cond t o p)
not_done_if true o p h i = h
not_done_if false o p h i = i

fence_not_done : (asks : List Asking) (r : Row) → NotDone (fence asks r)
fence_not_done asks r = not_done_if (meets r.need asks r.grant r.gfid) (heal_fence asks r.gfid r.heal) (Some (NoGrant r.grant)) (heals r.heal) refl
  where
    heals : (o : Option ℕ) → NotDone (heal_fence asks r.gfid o)
    heals None = tt
    heals (Some n) = not_done_if (holds asks n r.gfid Heal Exclusive) None (Some (NoGrant n)) tt refl

other_not_done : (t : Bool) (y : Reply) → is_done (Some y) ≡ false → NotDone (cond t None (Some y))
other_not_done t y e = not_done_if t None (Some y) tt e

refusal_not_done : (c : Check) (n : ℕ) (writer gone : Bool) (h : Option Head) → NotDone (refusal c n writer gone h)
refusal_not_done Present n writer gone None = refl
refusal_not_done Present n writer gone (Some h) = tt
refusal_not_done (At v) n writer gone None = refl
refusal_not_done (At v) n writer gone (Some h) = other_not_done (h.version.content == v) _ refl
refusal_not_done (OfKind k) n writer gone None = refl
refusal_not_done (OfKind k) n writer gone (Some h) = other_not_done (same_kind h.kind k) _ refl
refusal_not_done (Content k) n writer gone None = refl
refusal_not_done (Content k) n writer gone (Some h) = not_done_if (writer || is_marked h.version.content) (other_kind k h) (Some (NoGrant n)) (other_not_done (same_kind h.kind k) _ refl) refl
refusal_not_done Absent n writer gone None = not_done_if gone (Some IsInode) None refl tt
refusal_not_done Absent n writer gone (Some h) = refl
refusal_not_done Fresh n writer gone None = refl
refusal_not_done Fresh n writer gone (Some h) = other_not_done (not gone && (h.version.content == 0) && (h.dirty.content == 1)) _ refl
refusal_not_done (Markable k v) n writer gone None = tt
refusal_not_done (Markable k v) n writer gone (Some h) = not_done_if (same_kind h.kind k) _ _ (not_done_if (not (is_marked h.version.content) && (h.version.content == stripped v)) (Some IsInode) None refl tt) refl

-- the request passed the fence, and was done
pub record Passed (s : Brick) (q : Request) (r : Row) (says : Says) : Type 0 where
  pub passed : fence s.asks r ≡ None
  pub said : says ≡ own_of q s.records

module _ (s : Brick) (q : Request) (r : Row) where
  judges : (f : Failing) (v : Option ℕ) (o : Option Reply) → fence s.asks r ≡ None → NotDone o → Passed s q r (judged s f (work s q) v o).says ⊎ IsRefused (judged s f (work s q) v o).says
  judges Fine v None p d = inl (record { passed = p; said = refl })
  judges Before v None p d = inr (Fault, refl, refl)
  judges Within v None p d = inr (Fault, refl, refl)
  judges f v (Some y) p d = inr (y, refl, d)

  reads : (f : Failing) → fence s.asks r ≡ None → Passed s q r (head_read s f (work s q) r (head_at s.records r.subject.0)).says ⊎ IsRefused (head_read s f (work s q) r (head_at s.records r.subject.0)).says
  reads Fine p = judges Fine (version_of (head_at s.records r.subject.0)) (refusal_of s r (head_at s.records r.subject.0)) p (refusal_not_done r.check r.grant (is_writers r.need s.asks r.grant r.gfid) (s.removed r.subject.0) (head_at s.records r.subject.0))
  reads Before p = inr (Fault, refl, refl)
  reads Within p = judges Within (version_of (head_at s.records r.subject.0)) (refusal_of s r (head_at s.records r.subject.0)) p (refusal_not_done r.check r.grant (is_writers r.need s.asks r.grant r.gfid) (s.removed r.subject.0) (head_at s.records r.subject.0))

  says : (f : Failing) → Passed s q r (fenced s f (work s q) r (fence s.asks r)).says ⊎ IsRefused (fenced s f (work s q) r (fence s.asks r)).says
  says f = go (fence s.asks r) refl (fence_not_done s.asks r)
    where
      go : (o : Option Reply) → fence s.asks r ≡ o → NotDone o → Passed s q r (fenced s f (work s q) r o).says ⊎ IsRefused (fenced s f (work s q) r o).says
      go None e d = reads f e
      go (Some y) e d = inr (y, refl, d)

abbrev own : Gfid → ℕ → Need → Check → Row
own x n need check = record { gfid = x; grant = n; need = need; heal = None; subject = x; check = check }

abbrev of_child : Gfid → ℕ → Gfid → Row
of_child x n child = record { gfid = x; grant = n; need = Writing; heal = None; subject = child; check = Absent }

-- ## What a reply tells

refused_not : (says : Says) → IsRefused says → (reply : Reply) → Replies says (Some reply) → is_done (Some reply) ≡ true → ⊥
refused_not says o reply h so = let e = some_is reply o.0 (subst (λ (z : Says). Replies z (Some reply)) o.1 h) in let z = sym so ∙ (ap (λ (y : Reply). is_done (Some y)) e ∙ o.2) in cc

module _ (s : Brick) (f : Failing) (client number : ℕ) where
  done_by : (q : Request) (r : Row) (says : Says) → own_of q s.records ≡ Is Done → Passed s q r says ⊎ IsRefused says → (reply : Reply) → Replies says (Some reply) → is_done (Some reply) ≡ true → says ≡ Is Done
  done_by q r says own (inl p) reply h so = p.said ∙ own
  done_by q r says own (inr o) reply h so = absurd (refused_not says o reply h so)

  pub says_pre : (x : Gfid) (n at dirty : ℕ) (reply : Reply) → Replies (executed s f client number (PreOp x n at dirty)).says (Some reply) → is_done (Some reply) ≡ true → (executed s f client number (PreOp x n at dirty)).says ≡ Is Done
  says_pre x n at dirty reply = done_by (PreOp x n at dirty) (own x n Writing (At at)) (executed s f client number (PreOp x n at dirty)).says refl (says s (PreOp x n at dirty) (own x n Writing (At at)) f) reply

  pub says_post : (x : Gfid) (n at version size : ℕ) (attr : Option Attr) (reply : Reply) → Replies (executed s f client number (PostOp x n at version size attr)).says (Some reply) → is_done (Some reply) ≡ true → (executed s f client number (PostOp x n at version size attr)).says ≡ Is Done
  says_post x n at version size attr reply = done_by (PostOp x n at version size attr) (own x n Writing (At at)) (executed s f client number (PostOp x n at version size attr)).says refl (says s (PostOp x n at version size attr) (own x n Writing (At at)) f) reply

  pub says_make : (x : Gfid) (n : ℕ) (child : Child) (reply : Reply) → Replies (executed s f client number (Make x n child)).says (Some reply) → is_done (Some reply) ≡ true → (executed s f client number (Make x n child)).says ≡ Is Done
  says_make x n child reply = done_by (Make x n child) (of_child x n child.gfid) (executed s f client number (Make x n child)).says refl (says s (Make x n child) (of_child x n child.gfid) f) reply

  -- a head is that of the record, and the Query came under a grant
  pub says_head : (x : Gfid) (n : ℕ) (h : Head) → Replies (executed s f client number (Query x n)).says (Some (HeadIs h)) → ((executed s f client number (Query x n)).says ≡ Is (HeadIs h)) × (head_at s.records x.0 ≡ Some h) × (holds s.asks n x Inode Shared ≡ true)
  says_head x n h replies = by (executed s f client number (Query x n)).says refl replies (says s (Query x n) (own x n Reading Present) f)
    where
      meets_it : (t : Bool) → cond t None (Some (NoGrant n)) ≡ None → t ≡ true
      meets_it true e = refl
      meets_it false e = absurd (cc)

      of : (o : Option Record) → s.records x.0 ≡ o → Replies (of_record o (λ r. Is (HeadIs r.head))) (Some (HeadIs h)) → (of_record o (λ r. Is (HeadIs r.head)) ≡ Is (HeadIs h)) × (option_map (λ r. r.head) o ≡ Some h)
      of None e z = absurd (cc)
      of (Some r) e z = let same = heads h r.head (some_is (HeadIs h) (HeadIs r.head) z) in (ap (λ (y : Head). Is (HeadIs y)) (sym same), ap (λ (y : Head). Some y) (sym same))
        where
          heads : (a b : Head) → HeadIs a ≡ HeadIs b → a ≡ b
          heads a b e = cc

      by : (says : Says) → (executed s f client number (Query x n)).says ≡ says → Replies says (Some (HeadIs h)) → Passed s (Query x n) (own x n Reading Present) says ⊎ IsRefused says → ((executed s f client number (Query x n)).says ≡ Is (HeadIs h)) × (head_at s.records x.0 ≡ Some h) × (holds s.asks n x Inode Shared ≡ true)
      by says e z (inl p) = let o = of (s.records x.0) refl (subst (λ (y : Says). Replies y (Some (HeadIs h))) p.said z) in (e ∙ (p.said ∙ o.0), o.1, meets_it (holds s.asks n x Inode Shared) p.passed)
      by says e z (inr o) = absurd (refused_not says o (HeadIs h) z refl)
