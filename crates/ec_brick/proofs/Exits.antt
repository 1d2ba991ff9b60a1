-- The exits of a guarded request, each an outcome of the table.
use Rattle.std.proofs.Common.{◌≡◌, ℕ, Bool, false, cond, Option, Some, None, List, [], refl, sym, ◌∙◌, ap, subst}
use Rattle.ec_attr.specs.declared.config.Config.{Config}
use Rattle.ec_attr.specs.declared.head.Head.{Head}
use Rattle.ec_index.specs.Members.{members}
use Rattle.ec_locks.specs.declared.ask.Ask.{Ask as Asking}
use Rattle.ec_store.specs.Records.{Records, head_at}
use Rattle.ec_wire.specs.declared.reply.Reply.{Reply}
use Rattle.ec_wire.specs.declared.reply.Reply.TheVariants.{Fault}
use Rattle.ec_wire.specs.declared.request.Request.{Request}
use Rattle.ec_wire.specs.declared.request.Request.TheVariants.{WriteChunks}
use Rattle.ec_brick.specs.Inner.{IsReady, KeepsLocks}
use Rattle.ec_brick.specs.Known.{AreKnown, IsKnownState}
use Rattle.ec_brick.specs.Meets.{Meets, failing_at, failing_of, is_fault}
use Rattle.ec_brick.specs.Replies.{Is, Replies, Says, own_of}
use Rattle.ec_brick.specs.Rows.{fence, is_writers, refusal}
use Rattle.ec_brick.specs.State.{IsAsBefore, State, indexed, state}
use Rattle.ec_brick.specs.Step.{Before, Failing, Fine, Out, Within, by_row, fenced, judged, replies, version_of, work}
use Rattle.ec_brick.specs.Work.{broken_of, removed_of, work_of}
use Rattle.ec_brick.specs.declared.brick.Brick.{Brick}
use Rattle.ec_brick.specs.declared.row.Row.{Row}
use Rattle.ec_brick.proofs.Known.{known_equal}

abbrev pub made_of : Config → Records → Bool → List Asking → (ℕ → Bool) → State
made_of config m up asks removed = record { config = config; records = m; up = up; asks = asks; removed = removed }

pub as_before : (old new : Brick) → KeepsLocks old new → members new.removed ≡ members old.removed → indexed new ≡ indexed old → IsAsBefore old new
as_before old new k removed index = record { same_state = λ m. ap (λ x. made_of x m new.up new.locks (members new.removed)) k.same_config ∙ ap (λ x. made_of old.config m x new.locks (members new.removed)) k.same_up ∙ ap (λ x. made_of old.config m old.up x (members new.removed)) k.same_locks ∙ ap (made_of old.config m old.up old.locks) removed; same_index = index }

-- the records as they became, and the rest as it was
pub state_known : (old new : Brick) (m x n : Records) (removed : ℕ → Bool) → KeepsLocks old new → members new.removed ≡ removed → AreKnown x n → IsKnownState (record (state old m) { records = x; removed = removed }) (state new n)
state_known old new m x n removed k r known = record { same_config = k.same_config; known = known; same_up = k.same_up; same_asks = k.same_locks; same_removed = r }

state_same : (old new : Brick) (m n : Records) → new ≡ old → n ≡ m → IsKnownState (state old m) (state new n)
state_same old new m n e same = record { same_config = ap (λ b. b.config) e; known = known_equal m n same; same_up = ap (λ b. b.up) e; same_asks = ap (λ b. b.locks) e; same_removed = ap (λ b. members b.removed) e }

exit : (out : Out) (s : Says) (y : Reply) (v : Option ℕ) (x now : State) → out ≡ replies x s v → IsKnownState x now → Replies s (Some y) → Meets out (record { reply = Some y; version = v; granted = [] }) now
exit out s y v x now e known says = subst (λ o. Meets o (record { reply = Some y; version = v; granted = [] }) now) (sym e) (record { state = known; says = says; same_version = refl; same_lets_in = refl })

module _ (old new : Brick) (m n : Records) (q : Request) (r : Row) where
  abbrev b : State
  b = state old m

  -- refused by the fence
  pub fence_exit : (f : Failing) (y : Reply) → new ≡ old → n ≡ m → fence old.locks r ≡ Some y → Meets (by_row b f (work b q) (Some r)) (record { reply = Some y; version = None; granted = [] }) (state new n)
  fence_exit f y e same why = exit _ (Is y) y None b _ (ap (fenced b f (work b q) r) why) (state_same old new m n e same) refl

  -- the head can't be read
  pub head_exit : new ≡ old → n ≡ m → fence old.locks r ≡ None → Meets (by_row b Before (work b q) (Some r)) (record { reply = Some Fault; version = None; granted = [] }) (state new n)
  head_exit e same why = exit _ (Is Fault) Fault None b _ (ap (fenced b Before (work b q) r) why) (state_same old new m n e same) refl

  fine : (y : Reply) (v : Option ℕ) → is_fault (Some y) ≡ false → failing_of (Some y) v ≡ Fine
  fine y v plain = ap (λ t. cond t (failing_at v) Fine) plain

  -- let through to the head, which is read
  at_head : (f : Failing) (h : Option Head) (w g : Bool) (o : Option Reply) → h ≡ head_at m r.subject.0 → w ≡ is_writers r.need old.locks r.grant r.gfid → g ≡ members old.removed r.subject.0 → refusal r.check r.grant w g h ≡ o → judged b f (work b q) (version_of (head_at m r.subject.0)) (refusal r.check r.grant (is_writers r.need old.locks r.grant r.gfid) (members old.removed r.subject.0) (head_at m r.subject.0)) ≡ judged b f (work b q) (version_of h) o
  at_head f h w g o there writes gone why = ap (λ x. judged b f (work b q) (version_of x) (refusal r.check r.grant (is_writers r.need old.locks r.grant r.gfid) (members old.removed r.subject.0) x)) (sym there) ∙ ap (judged b f (work b q) (version_of h)) (ap (λ t. refusal r.check r.grant t (members old.removed r.subject.0) h) (sym writes) ∙ ap (λ t. refusal r.check r.grant w t h) (sym gone) ∙ why)

  -- refused by the head
  pub refused_exit : (h : Option Head) (w g : Bool) (y : Reply) → new ≡ old → n ≡ m → fence old.locks r ≡ None → h ≡ head_at m r.subject.0 → w ≡ is_writers r.need old.locks r.grant r.gfid → g ≡ members old.removed r.subject.0 → refusal r.check r.grant w g h ≡ Some y → is_fault (Some y) ≡ false → Meets (by_row b (failing_of (Some y) (version_of h)) (work b q) (Some r)) (record { reply = Some y; version = version_of h; granted = [] }) (state new n)
  refused_exit h w g y e same free there writes gone why plain =
      exit _ (Is y) y (version_of h) b _
      (ap (λ x. by_row b x (work b q) (Some r)) (fine y (version_of h) plain) ∙ ap (fenced b Fine (work b q) r) free ∙ at_head Fine h w g (Some y) there writes gone why)
      (state_same old new m n e same) refl

  -- done
  pub work_exit : (h : Option Head) (w g : Bool) (y : Reply) → KeepsLocks old new → members new.removed ≡ removed_of q (members old.removed) → n ≡ work_of old.config q m → fence old.locks r ≡ None → h ≡ head_at m r.subject.0 → w ≡ is_writers r.need old.locks r.grant r.gfid → g ≡ members old.removed r.subject.0 → refusal r.check r.grant w g h ≡ None → is_fault (Some y) ≡ false → Replies (own_of q m) (Some y) → Meets (by_row b (failing_of (Some y) (version_of h)) (work b q) (Some r)) (record { reply = Some y; version = version_of h; granted = [] }) (state new n)
  work_exit h w g y kept removed done free there writes gone why plain own =
      exit _ (own_of q m) y (version_of h) (work b q).done _
      (ap (λ x. by_row b x (work b q) (Some r)) (fine y (version_of h) plain) ∙ ap (fenced b Fine (work b q) r) free ∙ at_head Fine h w g None there writes gone why)
      (state_known old new m (work_of old.config q m) n _ kept removed (known_equal _ n done)) own

  -- only a write of bytes leaves anything broken, and it finds a head
  whole : (q : Request) → IsReady q None → broken_of q m ≡ m
  whole (WriteChunks g k first chunks) ready = cc
  whole q ready = refl

  -- the store failed in the work
  pub broken_exit : (h : Option Head) (w g : Bool) → KeepsLocks old new → members new.removed ≡ members old.removed → AreKnown (broken_of q m) n → IsReady q h → fence old.locks r ≡ None → h ≡ head_at m r.subject.0 → w ≡ is_writers r.need old.locks r.grant r.gfid → g ≡ members old.removed r.subject.0 → refusal r.check r.grant w g h ≡ None → Meets (by_row b (failing_of (Some Fault) (version_of h)) (work b q) (Some r)) (record { reply = Some Fault; version = version_of h; granted = [] }) (state new n)
  broken_exit None w g kept removed known ready free there writes gone why = exit _ (Is Fault) Fault None b _ (ap (fenced b Before (work b q) r) free) (state_known old new m m n _ kept removed (subst (λ x. AreKnown x n) (whole q ready) known)) refl
  broken_exit (Some h) w g kept removed known ready free there writes gone why = exit _ (Is Fault) Fault (Some h.version.content) (work b q).broken _ (ap (fenced b Within (work b q) r) free ∙ at_head Within (Some h) w g None there writes gone why) (state_known old new m (broken_of q m) n _ kept removed known) refl
