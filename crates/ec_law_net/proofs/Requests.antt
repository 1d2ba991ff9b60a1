-- Each guarded request is its act, or nothing.
use Rattle.std.proofs.Common.{◌≡◌, ◌≢◌, ◌⊎◌, ℕ, Bool, true, false, not, cond, ◌==◌, ◌&&◌, Option, Some, None, List, [], ◌∷◌, refl, sym, ◌∙◌, ap, subst, arith, inl, inr}
use Rattle.std.proofs.lemmas.Bool.Decides.{nat_tests}
use Rattle.std.specs.Option.{option_map}
use Rattle.ec_attr.specs.Marks.{is_marked, stripped}
use Rattle.ec_attr.specs.declared.attr.Attr.{Attr}
use Rattle.ec_attr.specs.declared.gfid.Gfid.{Gfid}
use Rattle.ec_attr.specs.declared.head.Head.{Head}
use Rattle.ec_law_base.specs.State.{State}
use Rattle.ec_law_ballots.specs.Act.Act.{Pre, Sink_pre, Post, Sink_post, Clear as Clears, Mark as Marks, Unmark as Unmarks}
use Rattle.ec_law_net.specs.Turns.{View}
use Rattle.ec_law_net.specs.Link.{IsHead, IsPreOp, IsPostOp, IsClear, IsMark, IsUnmark}
use Rattle.ec_attr.specs.declared.kind.Domain.TheVariants.{Inode, Heal}
use Rattle.ec_attr.specs.declared.kind.LockKind.TheVariants.{Exclusive}
use Rattle.ec_attr.specs.declared.kind.Kind.{Kind}
use Rattle.ec_locks.specs.Table.{holds}
use Rattle.ec_locks.specs.declared.ask.Ask.{Ask as Asking}
use Rattle.ec_store.specs.Records.{Record, head_at, headed}
use Rattle.ec_wire.specs.declared.reply.Reply.{Reply}
use Rattle.ec_wire.specs.declared.reply.Reply.TheVariants.{IsInode, NoGrant, NotAt, OtherKind}
use Rattle.ec_wire.specs.declared.request.Request.{Request}
use Rattle.ec_wire.specs.declared.request.Request.TheVariants.{PreOp, PostOp, Clear, Mark, Unmark}
use Rattle.ec_brick.specs.Rows.{fence, heal_fence, meets, refusal, row_of}
use Rattle.ec_brick.specs.State.{State as Brick}
use Rattle.ec_brick.specs.Step.{Failing, by_row, work}
use Rattle.ec_brick.specs.Work.{committed, unmarked}
use Rattle.ec_brick.specs.declared.row.Row.{Row}
use Rattle.ec_brick.specs.declared.row.Need.TheVariants.{Writing, Healing}
use Rattle.ec_brick.specs.declared.row.Check.TheVariants.{At, Absent, Fresh, Markable}
use Rattle.ec_history.specs.Run.{Net, call_of}
use Rattle.ec_law_net.specs.Turns.{acts_worked, counted, exclusive}
use Rattle.ec_law_net.proofs.Changed.{OwnGrants}
use Rattle.ec_law_net.proofs.Doing.{clear, post, pre}
use Rattle.ec_law_net.proofs.Locks.{held}
use Rattle.ec_law_net.proofs.Making.{mark, unmark}
use Rattle.ec_law_net.proofs.Outcomes.{IsDone, outcome}
use Rattle.ec_law_net.proofs.Worked.{Worked, doer, head_apart, head_here, head_put, worked_by}
use Rattle.ec_attr.specs.GoodGroup.{same_kind}
use Rattle.ec_attr.specs.Head.{with_dirty}

if_none : (t : Bool) (o : Option Reply) (y : Reply) → cond t o (Some y) ≡ None → (t ≡ true) × (o ≡ None)
if_none true o y e = (refl, e)
if_none false o y e = absurd (cc)

pub fence_meets : (asks : List Asking) (r : Row) → fence asks r ≡ None → (meets r.need asks r.grant r.gfid ≡ true) × (heal_fence asks r.gfid r.heal ≡ None)
fence_meets asks r e = if_none (meets r.need asks r.grant r.gfid) (heal_fence asks r.gfid r.heal) (NoGrant r.grant) e

pub heal_held : (asks : List Asking) (g : Gfid) (i : ℕ) → heal_fence asks g (Some i) ≡ None → holds asks i g Heal Exclusive ≡ true
heal_held asks g i e = (if_none (holds asks i g Heal Exclusive) None (NoGrant i) e).0

-- the version that a request names is the record's
at_version : (at i : ℕ) (w u : Bool) (o : Option Head) → refusal (At at) i w u o ≡ None → (h : Head) × (o ≡ Some h) × (h.version.content ≡ at)
at_version at i w u None e = absurd (cc)
at_version at i w u (Some h) e = (h, refl, is (h.version.content == at) refl e)
  where
    is : (t : Bool) → (h.version.content == at) ≡ t → cond {A = Option Reply} t None (Some (NotAt h.version.content)) ≡ None → h.version.content ≡ at
    is true f e = grind (arith, nat_tests)
    is false f e = absurd (cc)

pub absent : (i : ℕ) (w u : Bool) (o : Option Head) → refusal Absent i w u o ≡ None → (o ≡ None) × (u ≡ false)
absent i w true None e = absurd (cc)
absent i w false None e = (refl, refl)
absent i w u (Some h) e = absurd (cc)

pub fresh : (i : ℕ) (w u : Bool) (o : Option Head) → refusal Fresh i w u o ≡ None → (h : Head) × (o ≡ Some h) × (h.version.content ≡ 0) × (h.dirty.content ≡ 1) × (u ≡ false)
fresh i w u None e = absurd (cc)
fresh i w u (Some h) e = (h, refl, grind (arith, nat_tests), grind (arith, nat_tests), grind (arith, nat_tests))

-- what may be marked: nothing, a marked record, or one at another version
abbrev Differs : ℕ → Option Head → Type 0
Differs y None = Unit {0}
Differs y (Some h) = (is_marked h.version.content ≡ true) ⊎ ((is_marked h.version.content ≡ false) × (h.version.content ≢ stripped y))

markable : (kind : Kind) (y i : ℕ) (w u : Bool) (o : Option Head) → refusal (Markable kind y) i w u o ≡ None → Differs y o
markable kind y i w u None e = tt
markable kind y i w u (Some h) e = of (same_kind h.kind kind) (is_marked h.version.content) refl (h.version.content == stripped y) refl e
  where
    of : (a t : Bool) → is_marked h.version.content ≡ t → (p : Bool) → (h.version.content == stripped y) ≡ p → cond {A = Option Reply} a (cond (not t && p) (Some IsInode) None) (Some OtherKind) ≡ None → (is_marked h.version.content ≡ true) ⊎ ((is_marked h.version.content ≡ false) × (h.version.content ≢ stripped y))
    of true true f p q e = inl f
    of true false f true q e = absurd (cc)
    of true false f false q e = inr (f, λ (z : h.version.content ≡ stripped y). grind (arith, nat_tests))
    of false t f p q e = absurd (cc)

-- of the machine: no record, a marked one, or one at another version
apart_of : (s : State) (b y : ℕ) (o : Option Head) → IsHead o s b → Differs y o → (base : ℕ) → base ≡ stripped y → (s.present b ≡ false) ⊎ ((s.marked b ≡ true) ⊎ (s.version b ≢ base))
apart_of s b y None is d base e = inl is
apart_of s b y (Some h) is (inl f) base e = inr (inl (is.2 ∙ f))
apart_of s b y (Some h) is (inr f) base e = inr (inr (λ (z : s.version b ≡ base). absurd (f.1 (sym (plain h.version.content f.0) ∙ (sym is.1 ∙ (z ∙ e))))))
  where
    plain : (x : ℕ) → is_marked x ≡ false → stripped x ≡ x
    plain x f = rw f refl

-- rows of the table
abbrev writing : Gfid → ℕ → ℕ → Row
writing x i at = record { gfid = x; grant = i; need = Writing; heal = None; subject = x; check = At at }

abbrev healing : Gfid → ℕ → ℕ → Row
healing x i at = record { gfid = x; grant = i; need = Healing; heal = None; subject = x; check = At at }

abbrev marking : Gfid → ℕ → ℕ → Head → Row
marking x i heal head = record { gfid = x; grant = i; need = Writing; heal = Some heal; subject = x; check = Markable head.kind head.version.content }

module _ (n k g : ℕ) (m : Net) (v : View) (b a : ℕ) (s : Brick) (is : IsHead (head_at s.records g) v.core b) (gone : v.core.removed b ≡ s.removed g) (holder : v.core.holder b ≡ option_map v.of (exclusive g Inode s.asks)) (healer : v.core.healer b ≡ option_map (λ i. call_of (m.said i)) (exclusive g Heal s.asks)) (own : OwnGrants v.core) where
  writes : (x : Gfid) (i : ℕ) → x.0 ≡ g → holds s.asks i x Inode Exclusive ≡ true → v.core.holder b ≡ Some (v.of i)
  writes x i e h = holder ∙ ap (option_map v.of) (subst (λ (y : ℕ). exclusive y Inode s.asks ≡ Some i) e (held x Inode s.asks i h))

  heals : (x : Gfid) (i : ℕ) → x.0 ≡ g → holds s.asks i x Heal Exclusive ≡ true → v.core.healer b ≡ Some (call_of (m.said i))
  heals x i e h = healer ∙ ap (option_map (λ i. call_of (m.said i))) (subst (λ (y : ℕ). exclusive y Heal s.asks ≡ Some i) e (held x Heal s.asks i h))

  abbrev pub Works : Request → Failing → Type 0
  Works q f = Worked n k g b (acts_worked g a b (counted v.core a (exclusive g Inode s.asks)) q (by_row s f (work s q) (row_of q)).says) v.core s (by_row s f (work s q) (row_of q)).brick

  -- the record of x that was looked at is that of g
  pub here : (x : ℕ) (h : Head) → x ≡ g → head_at s.records x ≡ Some h → head_at s.records g ≡ Some h
  here x h e f = subst (λ (y : ℕ). head_at s.records y ≡ Some h) e f

  pub on_pre : (x : Gfid) (i at number : ℕ) (f : Failing) → (x.0 ≡ g → IsPreOp v a b i at number) → Works (PreOp x i at number) f
  on_pre x i at number f ready = doer n k g b v s is gone (PreOp x i at number) (writing x i at) x.0 (cond (is_marked at) (Sink_pre a b) (Pre a b)) (by_row s f (work s (PreOp x i at number)) (Some (writing x i at))) refl (λ e. (head_apart s.records x.0 g _ e, refl)) done (outcome s (PreOp x i at number) (writing x i at) f)
    where
      done : x.0 ≡ g → IsDone s (PreOp x i at number) (writing x i at) (by_row s f (work s (PreOp x i at number)) (Some (writing x i at))) → Worked n k g b (cond (is_marked at) (Sink_pre a b) (Pre a b) ∷ []) v.core s (work s (PreOp x i at number)).done
      done e d =
          let h = at_version at i true (s.removed x.0) (head_at s.records x.0) d.allowed in
          let now = here x.0 h.0 e h.1 in
          let o = ready e in
          worked_by n k g b (cond (is_marked at) (Sink_pre a b) (Pre a b)) v.core s (work s (PreOp x i at number)).done (Some (with_dirty number h.0)) (v.core.removed b) (pre n k v a b h.0 (subst (λ (z : Option Head). IsHead z v.core b) now is) (writes x i e (fence_meets s.asks (writing x i at) d.passed).0 ∙ ap (λ (z : ℕ). Some z) o.own) i at number h.2 o (is_marked at) refl) (head_here s.records x.0 g (with_dirty number) e ∙ ap (option_map (with_dirty number)) now) gone refl refl

  pub on_post : (x : Gfid) (i at version size : ℕ) (attr : Option Attr) (f : Failing) → (x.0 ≡ g → IsPostOp n k v a b i at version) → Works (PostOp x i at version size attr) f
  on_post x i at version size attr f ready = doer n k g b v s is gone (PostOp x i at version size attr) (writing x i at) x.0 (cond (is_marked at) (Sink_post a b) (Post a b)) (by_row s f (work s (PostOp x i at version size attr)) (Some (writing x i at))) refl (λ e. (head_apart s.records x.0 g _ e, refl)) done (outcome s (PostOp x i at version size attr) (writing x i at) f)
    where
      done : x.0 ≡ g → IsDone s (PostOp x i at version size attr) (writing x i at) (by_row s f (work s (PostOp x i at version size attr)) (Some (writing x i at))) → Worked n k g b (cond (is_marked at) (Sink_post a b) (Post a b) ∷ []) v.core s (work s (PostOp x i at version size attr)).done
      done e d =
          let h = at_version at i true (s.removed x.0) (head_at s.records x.0) d.allowed in
          let now = here x.0 h.0 e h.1 in
          let o = ready e in
          worked_by n k g b (cond (is_marked at) (Sink_post a b) (Post a b)) v.core s (work s (PostOp x i at version size attr)).done (Some (committed version size attr h.0)) (v.core.removed b) (post n k v a b h.0 (subst (λ (z : Option Head). IsHead z v.core b) now is) (writes x i e (fence_meets s.asks (writing x i at) d.passed).0 ∙ ap (λ (z : ℕ). Some z) o.own) i at version size attr h.2 o (is_marked at) refl) (head_here s.records x.0 g (committed version size attr) e ∙ ap (option_map (committed version size attr)) now) gone refl refl

  pub on_clear : (x : Gfid) (i at : ℕ) (f : Failing) → (x.0 ≡ g → IsClear n v a b i at) → Works (Clear x i at) f
  on_clear x i at f ready = doer n k g b v s is gone (Clear x i at) (writing x i at) x.0 (Clears a b) (by_row s f (work s (Clear x i at)) (Some (writing x i at))) refl (λ e. (head_apart s.records x.0 g _ e, refl)) done (outcome s (Clear x i at) (writing x i at) f)
    where
      done : x.0 ≡ g → IsDone s (Clear x i at) (writing x i at) (by_row s f (work s (Clear x i at)) (Some (writing x i at))) → Worked n k g b (Clears a b ∷ []) v.core s (work s (Clear x i at)).done
      done e d =
          let h = at_version at i true (s.removed x.0) (head_at s.records x.0) d.allowed in
          let now = here x.0 h.0 e h.1 in
          let o = ready e in
          worked_by n k g b (Clears a b) v.core s (work s (Clear x i at)).done (Some (with_dirty 0 h.0)) (v.core.removed b) (clear n k v a b h.0 (subst (λ (z : Option Head). IsHead z v.core b) now is) (writes x i e (fence_meets s.asks (writing x i at) d.passed).0 ∙ ap (λ (z : ℕ). Some z) o.own) i at h.2 o) (head_here s.records x.0 g (with_dirty 0) e ∙ ap (option_map (with_dirty 0)) now) gone refl refl

  pub on_mark : (x : Gfid) (i heal : ℕ) (head : Head) (f : Failing) → (x.0 ≡ g → IsMark m v a b i heal head) → Works (Mark x i heal head) f
  on_mark x i heal head f ready = doer n k g b v s is gone (Mark x i heal head) (marking x i heal head) x.0 (Marks a b) (by_row s f (work s (Mark x i heal head)) (Some (marking x i heal head))) refl (λ e. (head_apart s.records x.0 g _ e, refl)) done (outcome s (Mark x i heal head) (marking x i heal head) f)
    where
      headed_is : (o : Option Record) → (headed o head).head ≡ head
      headed_is None = refl
      headed_is (Some y) = refl

      done : x.0 ≡ g → IsDone s (Mark x i heal head) (marking x i heal head) (by_row s f (work s (Mark x i heal head)) (Some (marking x i heal head))) → Worked n k g b (Marks a b ∷ []) v.core s (work s (Mark x i heal head)).done
      done e d =
          let p = fence_meets s.asks (marking x i heal head) d.passed in
          let o = ready e in
          let other = subst (λ (y : ℕ). Differs head.version.content (head_at s.records y)) e (markable head.kind head.version.content i true (s.removed x.0) (head_at s.records x.0) d.allowed) in
          worked_by n k g b (Marks a b) v.core s (work s (Mark x i heal head)).done (Some head) (v.core.removed b) (mark n k m v a b i heal head (writes x i e p.0 ∙ ap (λ (z : ℕ). Some z) o.own) (heals x heal e (heal_held s.asks x heal p.1)) (own.carries a) o (apart_of v.core b head.version.content (head_at s.records g) is other (v.core.ballot a).base o.base)) (head_put s.records x.0 g (headed (s.records x.0) head) e ∙ ap (λ (z : Head). Some z) (headed_is (s.records x.0))) gone refl refl

  pub on_unmark : (x : Gfid) (i at dirty : ℕ) (f : Failing) → (x.0 ≡ g → IsUnmark m v a b i at dirty) → Works (Unmark x i at dirty) f
  on_unmark x i at dirty f ready = doer n k g b v s is gone (Unmark x i at dirty) (healing x i at) x.0 (Unmarks a b) (by_row s f (work s (Unmark x i at dirty)) (Some (healing x i at))) refl (λ e. (head_apart s.records x.0 g _ e, refl)) done (outcome s (Unmark x i at dirty) (healing x i at) f)
    where
      done : x.0 ≡ g → IsDone s (Unmark x i at dirty) (healing x i at) (by_row s f (work s (Unmark x i at dirty)) (Some (healing x i at))) → Worked n k g b (Unmarks a b ∷ []) v.core s (work s (Unmark x i at dirty)).done
      done e d =
          let h = at_version at i false (s.removed x.0) (head_at s.records x.0) d.allowed in
          let now = here x.0 h.0 e h.1 in
          worked_by n k g b (Unmarks a b) v.core s (work s (Unmark x i at dirty)).done (Some (unmarked dirty h.0)) (v.core.removed b) (unmark n k m v a b i at dirty h.0 (subst (λ (z : Option Head). IsHead z v.core b) now is) h.2 (heals x i e (fence_meets s.asks (healing x i at) d.passed).0) (own.carries a) (own.reads a) (ready e)) (head_here s.records x.0 g (unmarked dirty) e ∙ ap (option_map (unmarked dirty)) now) gone refl refl
