-- Histories after which a request or an answer breaks the conduct.
use Rattle.std.proofs.Common.{◌≡◌, ◌∙◌, cond, inl, inr, ℕ, ◌+◌, ◌<◌, ◌≤◌, not, ◌==◌, Bool, true, false, refl, sym, ap, subst, lit≤, arith, List, [], ◌∷◌, Option, Some, None}
use Rattle.ec_attr.specs.Bricks.{bricks_below, count_below}
use Rattle.ec_attr.specs.GoodGroup.{agree, greatest_below}
use Rattle.ec_attr.specs.Marks.{marked}
use Rattle.ec_attr.specs.declared.head.Head.{Head}
use Rattle.ec_wire.specs.declared.answer.Answer.TheVariants.{Attr as AttrIs}
use Rattle.ec_wire.specs.declared.op.Op.TheVariants.{SetAttr, Write}
use Rattle.ec_wire.specs.declared.reply.Reply.TheVariants.{Done, Fault}
use Rattle.ec_wire.specs.declared.request.Request.TheVariants.{Clear, PostOp, PreOp, Query, Release, WriteChunks}
use Rattle.ec_conduct.specs.Conduct.{MayAnswer, MaySend}
use Rattle.ec_conduct.specs.Data.{IsOld, stays}
use Rattle.ec_conduct.specs.Examples.{begun, full_file, unread_write, writing_byte, begun_setattr, mixed_pre_ops, faulted_write, file, later_file, one_pre_op, other_attr, posted_setattr, sink_heads, sink_posted, sink_pre_ops, sink_setattr, stale_third, two_locks, writing}
use Rattle.ec_conduct.specs.Opened.{account}
use Rattle.ec_conduct.proofs.Examples.{each, free}

pub differ : false ≡ true → ⊥
differ e = absurd (cc)

pub faulted_refused : (bytes : List ℕ) (code : ℕ → List ℕ) → MaySend (account (writing bytes) (faulted_write code)) 2 (PostOp file 5 0 1 1024 None) → ⊥
unfolding bricks_below count_below agree greatest_below
faulted_refused bytes code m = differ m.1.whole.done

pub partly_posted_refused : MaySend (account (begun (SetAttr file other_attr)) posted_setattr) 0 (Clear file 1 1) → ⊥
unfolding bricks_below count_below agree greatest_below
partly_posted_refused m = differ (m.1.posted 2 (lit≤ tt))

none_of : (f : ℕ → Bool) → f 0 ≡ false → f 1 ≡ false → f 2 ≡ false → count_below 3 f ≡ 0
unfolding count_below
none_of f a b c = rw (a, b, c) refl

not_true : (u : Bool) → (u ≡ true → ⊥) → u ≡ false
not_true true h = absurd (h refl)
not_true false h = refl

-- at most one where two of three are not
one_of : (f : ℕ → Bool) → f 1 ≡ false → f 2 ≡ false → count_below 3 f ≤ 1
unfolding count_below
one_of f a b = rw (a, b) (one (f 0))
  where
    one : (u : Bool) → 0 + cond u 1 0 + 0 + 0 ≤ 1
    one true = lit≤ tt
    one false = lit≤ tt

pub unposted_refused : MayAnswer (account (begun (SetAttr file other_attr)) begun_setattr) (AttrIs other_attr) → ⊥
unfolding bricks_below
unposted_refused m =
    let q = m.1 in
    let none = none_of q.which (not_true (q.which 0) (λ e. differ (q.each 0 (lit≤ tt) e).1)) (not_true (q.which 1) (λ e. differ (q.each 1 (lit≤ tt) e).1)) (not_true (q.which 2) (λ e. differ (q.each 2 (lit≤ tt) e).1)) in
    let enough : 2 ≤ count_below 3 q.which = q.enough in
    absurd (omega (arith, none, enough))

pub answered_allowed : MayAnswer (account (begun (SetAttr file other_attr)) posted_setattr) (AttrIs other_attr)
unfolding bricks_below count_below agree greatest_below
answered_allowed = (refl, record { which = λ x. not (x == 2); enough = lit≤ tt; each = each _ (λ e. (refl, refl)) (λ e. (refl, refl)) (λ e. absurd (differ e)) })

pub unlocked_refused : MaySend (account (begun (SetAttr file other_attr)) two_locks) 0 (Query file 1) → ⊥
unlocked_refused m = differ (sym (m.1.asked 2 (lit≤ tt)))

pub unfinished_refused : MaySend (account (begun (SetAttr file other_attr)) one_pre_op) 1 (Release file 3) → ⊥
unfinished_refused m = differ (sym (m.1.idle 0 (lit≤ tt)))

some_number : (a b : ℕ) → Some a ≡ Some b → a ≡ b
some_number a b e = cc

pub other_dirty_refused : MaySend (account (begun (SetAttr file other_attr)) one_pre_op) 1 (PreOp file 3 0 2) → ⊥
unfolding bricks_below count_below agree greatest_below
other_dirty_refused m = elim m.1.one [ inl e ↦ absurd (cc) | inr e ↦ let n = some_number 1 2 e in absurd (omega (arith, n)) ]

pub some_head : (a b : Head) → Some a ≡ Some b → a ≡ b
some_head a b e = ap (λ o. head_or a o) e
  where
    head_or : Head → Option Head → Head
    head_or d None = d
    head_or d (Some h) = h

pub low_dirty_refused : MaySend (account (begun (SetAttr file other_attr)) stale_third) 0 (PreOp file 1 1 1) → ⊥
unfolding bricks_below count_below agree greatest_below
low_dirty_refused m = let same : 1 ≡ m.1.head.dirty.content = ap (λ (h : Head). h.dirty.content) (some_head later_file m.1.head m.1.group) in let above : m.1.head.dirty.content < 1 = m.1.above in absurd (omega (arith, same, above))

pub stale_refused : MaySend (account (begun (SetAttr file other_attr)) stale_third) 2 (PreOp file 5 0 2) → ⊥
unfolding bricks_below count_below agree greatest_below
stale_refused m = elim m.1.version_is [ inl e ↦ absurd (differ e.0) | inr e ↦ absurd (differ e.0) ]

pub other_version_refused : MaySend (account (begun (SetAttr file other_attr)) stale_third) 0 (PreOp file 1 0 2) → ⊥
unfolding bricks_below count_below agree greatest_below
other_version_refused m =
    let same : 1 ≡ m.1.head.version.content = ap (λ (h : Head). h.version.content) (some_head later_file m.1.head m.1.group) in
    elim m.1.version_is [ inl e ↦ (let n : 0 ≡ m.1.head.version.content = e.1 in absurd (omega (arith, same, n))) | inr e ↦ absurd (differ e.0) ]

-- no quorum of three bricks where none of them is as it should be
pub no_quorum : (P : ℕ → Type 0) (which : ℕ → Bool) → 2 ≤ count_below 3 which → ((x : ℕ) → x < 3 → which x ≡ true → P x) → ((x : ℕ) → x < 3 → P x → ⊥) → ⊥
no_quorum P which enough each_is never =
    let none = none_of which (not_true (which 0) (λ e. never 0 (lit≤ tt) (each_is 0 (lit≤ tt) e))) (not_true (which 1) (λ e. never 1 (lit≤ tt) (each_is 1 (lit≤ tt) e))) (not_true (which 2) (λ e. never 2 (lit≤ tt) (each_is 2 (lit≤ tt) e))) in
    absurd (omega (arith, none, enough))

pub no_item : (X : Type 0) (x : X) → None ≡ Some x → ⊥
no_item X x e = absurd (cc)

size_of : (head : Head) → full_file ≡ head → 1024 ≡ head.size
size_of head e = ap (λ (h : Head). h.size) e

stays_byte : (size : ℕ) → 1024 ≡ size → stays (Write file 0 (65 ∷ [])) size 1 ≡ true
stays_byte size e = subst (λ n. stays (Write file 0 (65 ∷ [])) n 1 ≡ true) e refl

no_old : (head : Head) (old : List (List ℕ)) → IsOld (account writing_byte unread_write) 2 0 head old → ⊥
unfolding bricks_below
no_old head old o = elim o.known [
  | inl q ↦ no_quorum _ q.which q.enough q.each (each _ (λ r. no_item _ _ r.3) (λ r. no_item _ _ r.3) (λ r. no_item _ _ r.3))
  | inr k ↦ absurd (omega (arith, k.1))
]

pub unread_refused : (chunk : List ℕ) → MaySend (account writing_byte unread_write) 0 (WriteChunks file 1 0 (chunk ∷ [])) → ⊥
unfolding bricks_below count_below agree greatest_below
unread_refused chunk m = elim m.1 [
  | inl w ↦ (let new = w.codes 0 (lit≤ tt) in no_old w.head new.of.old (new.of.known 1 (lit≤ tt) (stays_byte w.head.size (size_of w.head (some_head full_file w.head w.group)))))
  | inr w ↦ differ w.rebuild.heal_held
]

pub twice_refused : MaySend (account (begun (SetAttr file other_attr)) (mixed_pre_ops Done Fault Done)) 1 (PreOp file 3 0 1) → ⊥
twice_refused m = differ (sym m.1.once)

pub sink_allowed : MaySend (account (begun (SetAttr file other_attr)) sink_setattr) 2 (PostOp file 5 (marked 1) (marked 3) 0 (Some other_attr))
unfolding bricks_below count_below agree greatest_below
sink_allowed = (free _ _ _ (refl, lit≤ tt, refl, refl), record { grant_held = refl; head = later_file; group = refl; whole = record { done = refl; all = (refl, refl) }; quorum = record { which = λ x. not (x == 2); enough = lit≤ tt; each = each _ (λ e. (refl, record { done = refl; all = (refl, refl) })) (λ e. (refl, record { done = refl; all = (refl, refl) })) (λ e. absurd (differ e)) }; dirty = 2; pre = refl; version = refl; size_is = refl; attr_is = refl })

pub unmarked_sink_refused : MaySend (account (begun (SetAttr file other_attr)) sink_setattr) 2 (PostOp file 5 (marked 1) 3 0 (Some other_attr)) → ⊥
unfolding bricks_below count_below agree greatest_below
unmarked_sink_refused m = let version : 3 ≡ 4611686018427387905 + m.1.dirty = m.1.version in absurd (omega (arith, version))

pub sink_unclear_refused : MaySend (account (begun (SetAttr file other_attr)) sink_posted) 0 (Clear file 1 3) → ⊥
unfolding bricks_below count_below agree greatest_below
sink_unclear_refused m = differ (m.1.posted 2 (lit≤ tt))

pub sink_pre_allowed : MaySend (account (begun (SetAttr file other_attr)) sink_heads) 2 (PreOp file 5 (marked 1) 2)
unfolding bricks_below count_below agree greatest_below
sink_pre_allowed = (free _ _ _ (refl, lit≤ tt, refl, refl), record { grant_held = refl; idle = each _ refl refl refl; once = refl; head = later_file; group = refl; version_is = inr (refl, refl); above = lit≤ tt; limit = omega arith; one = inl refl })

pub unmarked_pre_refused : MaySend (account (begun (SetAttr file other_attr)) sink_heads) 2 (PreOp file 5 1 2) → ⊥
unfolding bricks_below count_below agree greatest_below
unmarked_pre_refused m = elim m.1.version_is [
  | inl e ↦ differ e.0
  | inr e ↦ (let n : 1 ≡ 4611686018427387905 = e.1 ∙ sym (ap (λ (h : Head). marked h.version.content) (some_head later_file m.1.head m.1.group)) in absurd (omega (arith, n)))
]

pub sinks_no_quorum_refused : MaySend (account (begun (SetAttr file other_attr)) (sink_pre_ops Fault)) 0 (PostOp file 1 1 3 0 (Some other_attr)) → ⊥
unfolding bricks_below count_below agree greatest_below
sinks_no_quorum_refused m =
    let q = m.1.quorum in
    let none : q.which 1 ≡ false = not_true (q.which 1) (λ e. differ (q.each 1 (lit≤ tt) e).1.done) in
    let no_sink : q.which 2 ≡ false = not_true (q.which 2) (λ e. differ (q.each 2 (lit≤ tt) e).0) in
    let few = one_of q.which none no_sink in
    let enough : 2 ≤ count_below 3 q.which = q.enough in
    absurd (omega (arith, few, enough))
