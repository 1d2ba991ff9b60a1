-- What isn't refused may be done.
use Rattle.std.proofs.Common.{◌≡◌, ℕ, Bool, true, false, cond, ◌||◌, Option, Some, None, refl, sym, ap, subst, arith, is_some, option_map, ◌∙◌}
use Rattle.ec_attr.specs.Marks.{is_marked}
use Rattle.ec_attr.specs.declared.head.Head.{Head as HeadOf}
use Rattle.ec_attr.specs.declared.kind.Kind.{Kind}
use Rattle.ec_attr.specs.declared.kind.Kind.TheVariants.{File, Dir}
use Rattle.ec_store.specs.Records.{Record, Records, head_at, kind_at}
use Rattle.ec_wire.specs.declared.reply.Reply.{Reply}
use Rattle.ec_wire.specs.declared.reply.Reply.TheVariants.{Granted, Head, Chunks, Child, Names, Done, NoGrant, NoInode, IsInode, OtherKind, NotAt, Fault, Gfids}
use Rattle.ec_wire.specs.declared.request.Request.{Request}
use Rattle.ec_wire.specs.declared.request.Request.TheVariants.{Ask, Release, Query, PreOp, ReadChunks, WriteChunks, SetLength, PostOp, Clear, NameGet, NamesAfter, NameSet, NamesPut, Make, Made, Unmake, Mark, Unmark, GfidsAfter}
use Rattle.ec_brick.specs.Fit.{IsFitReply}
use Rattle.ec_brick.specs.Inner.{IsHeadOf, IsReady, is_refusal, subject_of}
use Rattle.ec_brick.specs.Meets.{is_fault}
use Rattle.ec_brick.specs.Rows.{other_kind, refusal, row_of}
use Rattle.ec_brick.specs.declared.row.Check.TheVariants.{Present, At, OfKind, Content, Absent, Fresh}
use Rattle.ec_brick.specs.declared.row.Row.{Row}
use Rattle.ec_attr.specs.GoodGroup.{same_kind}

pub row_subject : (q : Request) (r : Row) → row_of q ≡ Some r → r.subject.0 ≡ subject_of q
row_subject (Ask g d k) r e = cc
row_subject (Release g n) r e = cc
row_subject (GfidsAfter a d) r e = cc
row_subject (Query g n) r e = grind arith
row_subject (PreOp g n at d) r e = grind arith
row_subject (ReadChunks g n first count) r e = grind arith
row_subject (WriteChunks g n first chunks) r e = grind arith
row_subject (SetLength g n keep count) r e = grind arith
row_subject (PostOp g n at v size a) r e = grind arith
row_subject (Clear g n at) r e = grind arith
row_subject (NameGet g n name) r e = grind arith
row_subject (NamesAfter g n a) r e = grind arith
row_subject (NameSet g n name c) r e = grind arith
row_subject (NamesPut g n a u l) r e = grind arith
row_subject (Make g n c) r e = grind arith
row_subject (Made g n c) r e = grind arith
row_subject (Unmake g n c) r e = grind arith
row_subject (Mark g n heal h) r e = grind arith
row_subject (Unmark g n at d) r e = grind arith

present_ready : (n : ℕ) (w x : Bool) (h : Option HeadOf) → refusal Present n w x h ≡ None → is_some h ≡ true
present_ready n w x None f = cc
present_ready n w x (Some y) f = refl

at_ready : (v n : ℕ) (w x : Bool) (h : Option HeadOf) → refusal (At v) n w x h ≡ None → is_some h ≡ true
at_ready v n w x None f = cc
at_ready v n w x (Some y) f = refl

fresh_ready : (n : ℕ) (w x : Bool) (h : Option HeadOf) → refusal Fresh n w x h ≡ None → is_some h ≡ true
fresh_ready n w x None f = cc
fresh_ready n w x (Some y) f = refl

kind_ready : (k : Kind) (h : HeadOf) → other_kind k h ≡ None → h.kind ≡ k
kind_ready k h f = kinds k h.kind f where
  kinds : (k j : Kind) → ◌≡◌ {A = Option Reply} (cond (same_kind j k) None (Some OtherKind)) None → j ≡ k
  kinds File File f = refl
  kinds File Dir f = cc
  kinds Dir File f = cc
  kinds Dir Dir f = refl

of_ready : (k : Kind) (n : ℕ) (w x : Bool) (h : Option HeadOf) → refusal (OfKind k) n w x h ≡ None → IsHeadOf k h
of_ready k n w x None f = cc
of_ready k n w x (Some y) f = ap Some (kind_ready k y f)

content_ready : (k : Kind) (n : ℕ) (w x : Bool) (h : Option HeadOf) → refusal (Content k) n w x h ≡ None → IsHeadOf k h
content_ready k n w x None f = cc
content_ready k n w x (Some y) f = marks k n y (w || is_marked y.version.content) f where
  marks : (k : Kind) (n : ℕ) (y : HeadOf) (t : Bool) → cond t (other_kind k y) (Some (NoGrant n)) ≡ None → Some y.kind ≡ Some k
  marks k n y true f = ap Some (kind_ready k y f)
  marks k n y false f = cc

absent_ready : (n : ℕ) (w x : Bool) (h : Option HeadOf) → refusal Absent n w x h ≡ None → h ≡ None
absent_ready n w x None f = refl
absent_ready n w x (Some y) f = cc

check_of : (r s : Row) (n : ℕ) (w x : Bool) (h : Option HeadOf) → Some r ≡ Some s → refusal s.check n w x h ≡ None → refusal r.check n w x h ≡ None
check_of r s n w x h e f = let same : r ≡ s = grind arith in subst (λ (y : Row). refusal y.check n w x h ≡ None) (sym same) f

pub row_ready : (q : Request) (r : Row) (k : ℕ) (w x : Bool) (h : Option HeadOf) → row_of q ≡ Some r → refusal r.check k w x h ≡ None → IsReady q h
row_ready (Ask g d y) r k w x h e f = cc
row_ready (Release g n) r k w x h e f = cc
row_ready (GfidsAfter a d) r k w x h e f = cc
row_ready (Query g n) r k w x h e f = present_ready k w x h (check_of _ r k w x h e f)
row_ready (PreOp g n at d) r k w x h e f = at_ready at k w x h (check_of _ r k w x h e f)
row_ready (ReadChunks g n first count) r k w x h e f = of_ready File k w x h (check_of _ r k w x h e f)
row_ready (WriteChunks g n first chunks) r k w x h e f = content_ready File k w x h (check_of _ r k w x h e f)
row_ready (SetLength g n keep count) r k w x h e f = content_ready File k w x h (check_of _ r k w x h e f)
row_ready (PostOp g n at v size a) r k w x h e f = at_ready at k w x h (check_of _ r k w x h e f)
row_ready (Clear g n at) r k w x h e f = at_ready at k w x h (check_of _ r k w x h e f)
row_ready (NameGet g n name) r k w x h e f = of_ready Dir k w x h (check_of _ r k w x h e f)
row_ready (NamesAfter g n a) r k w x h e f = of_ready Dir k w x h (check_of _ r k w x h e f)
row_ready (NameSet g n name c) r k w x h e f = of_ready Dir k w x h (check_of _ r k w x h e f)
row_ready (NamesPut g n a u l) r k w x h e f = content_ready Dir k w x h (check_of _ r k w x h e f)
row_ready (Make g n c) r k w x h e f = absent_ready k w x h (check_of _ r k w x h e f)
row_ready (Made g n c) r k w x h e f = fresh_ready k w x h (check_of _ r k w x h e f)
row_ready (Unmake g n c) r k w x h e f = present_ready k w x h (check_of _ r k w x h e f)
row_ready (Mark g n heal y) r k w x h e f = tt
row_ready (Unmark g n at d) r k w x h e f = at_ready at k w x h (check_of _ r k w x h e f)

-- a refusal fits each request and is no Fault
pub refusal_fits : (q : Request) (y : Reply) → is_refusal y ≡ true → IsFitReply q y
refusal_fits q Granted e = tt
refusal_fits q (Head h) e = cc
refusal_fits q (Chunks chunks) e = cc
refusal_fits q (Child child) e = tt
refusal_fits q (Names list) e = cc
refusal_fits q Done e = tt
refusal_fits q (NoGrant n) e = tt
refusal_fits q NoInode e = tt
refusal_fits q IsInode e = tt
refusal_fits q OtherKind e = tt
refusal_fits q (NotAt v) e = tt
refusal_fits q Fault e = tt
refusal_fits q (Gfids list) e = cc

pub refusal_plain : (y : Reply) → is_refusal y ≡ true → is_fault (Some y) ≡ false
refusal_plain Fault e = cc
refusal_plain y e = refl

head_kind : (o : Option Record) (h : Option HeadOf) → h ≡ option_map {T = Record} (λ r. r.head) o → IsHeadOf File h → option_map {T = Record} (λ r. r.head.kind) o ≡ Some File
head_kind None h e f = let none : h ≡ None = e in let bad : option_map {T = HeadOf} (λ x. x.kind) None ≡ Some File = subst (λ x. option_map {T = HeadOf} (λ y. y.kind) x ≡ Some File) none f in cc
head_kind (Some r) h e f = subst (λ x. option_map {T = HeadOf} (λ y. y.kind) x ≡ Some File) e f

pub no_refusal : (o : Option Reply) → is_some o ≡ false → o ≡ None
no_refusal None e = refl
no_refusal (Some y) e = cc

-- what lets a change of a file's content through has found a file
pub content_file : (m : Records) (r : Row) (o : Option Reply) (w x : Bool) (h : Option HeadOf) → r.check ≡ Content File → o ≡ refusal r.check r.grant w x h → is_some o ≡ false → h ≡ head_at m r.subject.0 → kind_at m r.subject.0 ≡ Some File
content_file m r o w x h check why none there = head_kind (m r.subject.0) h there (content_ready File r.grant w x h (ap (λ t. refusal t r.grant w x h) (sym check) ∙ sym why ∙ no_refusal o none))

-- what a request that is let through finds, and what a refusal is
pub ruleset readiness = (row_subject, row_ready, refusal_fits, refusal_plain)
