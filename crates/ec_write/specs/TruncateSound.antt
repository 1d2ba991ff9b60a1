-- The table of a truncate keeps the conduct.
use Rattle.std.proofs.Common.{◌≡◌, ◌⊎◌, inl, inr, ⊎_elim, refl, sym, ◌∙◌, ap, subst, ℕ, ◌+◌, ◌<◌, ◌≤◌, ◌^◌, ◌==◌, Bool, true, false, cond, nat_lt, nat_le, List, [], arith, Some, None}
use Rattle.std.proofs.lemmas.Bool.Decides.{nat_tests}
use Rattle.ec_attr.specs.declared.head.Head.{Head}
use Rattle.ec_attr.specs.declared.kind.Kind.{Kind}
use Rattle.ec_attr.specs.declared.kind.Kind.TheVariants.{File, Dir}
use Rattle.ec_attr.specs.declared.kind.LockKind.TheVariants.{Exclusive}
use Rattle.ec_answers.specs.declared.grouped.Group.{Group}
use Rattle.ec_answers.specs.declared.grouped.Grouped.{Grouped}
use Rattle.ec_answers.specs.declared.grouped.Grouped.TheVariants.{Group as Found, Gone, Fewer}
use Rattle.ec_conduct.specs.Account.{Account, Place, at}
use Rattle.ec_conduct.specs.Changes.{IsAllOf, are, truncate_tests}
use Rattle.ec_conduct.specs.Children.{IsPosted}
use Rattle.ec_conduct.specs.Conduct.{IsEarned, MaySend}
use Rattle.ec_conduct.specs.Data.{IsOld}
use Rattle.ec_conduct.specs.Done.{is_write, tried}
use Rattle.ec_conduct.specs.Given.{Given, bricks_of, quorum_of}
use Rattle.ec_conduct.specs.Opened.{no_place, opened}
use Rattle.ec_conduct.specs.Phases.{is_read_from}
use Rattle.ec_stripe.specs.Span.{stripe_bytes}
use Rattle.ec_txn.specs.declared.ballot.Ballot.TheVariants.{Pre, Post, Clear}
use Rattle.ec_txn.specs.declared.ctx.Ctx.{Ctx}
use Rattle.ec_txn.specs.declared.opening.Opening.{Opening}
use Rattle.ec_txn.specs.declared.opening.Opening.TheVariants.{Lock, Query}
use Rattle.ec_txn.specs.declared.reading.Reading.{Reading}
use Rattle.ec_txn.specs.declared.stage.Next.{Next}
use Rattle.ec_txn.specs.declared.stage.Next.TheVariants.{Go, Say}
use Rattle.ec_txn.specs.Ballot.{InBallot, count_serving, is_within}
use Rattle.ec_txn.specs.Opening.{ComesTo, InOpening, IsQuerying, count_locks}
use Rattle.ec_txn.specs.ReadPhase.{places_of, reading_asks}
use Rattle.ec_txn.specs.Replies.{replied}
use Rattle.ec_txn.specs.Rounds.{Asks, IsIdle, IsMore, IsOn, IsReleased, IsRound, IsSent, IsUnlocked, joined, subject}
use Rattle.ec_txn.specs.Tables.{IsIn, IsOf, IsSound}
use Rattle.ec_txn.proofs.BallotGoes.{clear_begins, is_posted, posted_over, posted_released, pre_begins}
use Rattle.ec_txn.proofs.BallotSends.{ballot_may, ballot_on}
use Rattle.ec_txn.proofs.Fetching.{fetch_may, fetch_on}
use Rattle.ec_txn.proofs.Openings.{lock_goes, opening_begins, opening_may, opening_on}
use Rattle.ec_txn.proofs.ReadAgain.{law, reading_fetches}
use Rattle.ec_txn.proofs.Steps.{opened_place}
use Rattle.ec_wire.specs.declared.answer.Answer.{Answer}
use Rattle.ec_wire.specs.declared.answer.Answer.TheVariants.{IsDir, Limit, NoQuorum, NoSuch, TooBig}
use Rattle.ec_wire.specs.declared.op.Op.{Op}
use Rattle.ec_wire.specs.declared.phase.Phase.{Phase}
use Rattle.ec_wire.specs.declared.phase.Phase.TheVariants.{Lock as LockPhase, Query as QueryPhase, Pre as PrePhase, Read as ReadPhase, Write as WritePhase, Trim as TrimPhase, Post as PostPhase}
use Rattle.ec_wire.specs.declared.request.Request.{Request}
use Rattle.ec_write.specs.declared.stage.TruncateStage.{TruncateStage}
use Rattle.ec_write.specs.declared.stage.TruncateStage.TheVariants.{Cuts, Opens, Reads, Votes, Writes}
use Rattle.ec_write.specs.Between.{between_pre, between_read, between_unlocked, fresh_over, old_unlocked, reads_begin, start_asks, unread_pre, unread_unlocked}
use Rattle.ec_write.specs.Between as between
use Rattle.ec_write.specs.Cuttings.{cut_may, cuts_after, cuts_first, cutting_on, low_fits, of_truncate, post_cut, tail_few, tail_one, to_fits, truncate_fills}
use Rattle.ec_write.specs.During.{IsBetween, IsFresh, IsUnread}
use Rattle.ec_write.specs.DuringTruncate.{DuringTruncate, InTruncate, IsCut, IsCutting, IsTailRead, IsTailWritten, is_border}
use Rattle.ec_write.specs.Olds.{decoded_old}
use Rattle.ec_write.specs.Range.{count_stripes, first_stripe, reads_last}
use Rattle.ec_write.specs.Sendings.{write_may}
use Rattle.ec_write.specs.Stripes.{IsDecoded, count_gave}
use Rattle.ec_write.specs.Truncate.{IsTruncate, TailEnds, Tails, TruncateJudges, low_of, says_to, tail_asks, to_of, trims_from, truncate_asks, truncate_judged, truncate_reads, truncate_table}
use Rattle.ec_write.specs.Write.{reading_of}
use Rattle.ec_write.specs.Writings.{wide, writes_begin, writing_on}

go_same : (a b : TruncateStage) → Go a ≡ Go b → a ≡ b
go_same a b e = cc

go_say : (a : TruncateStage) (b : Answer) → Go a ≡ Say b → ⊥
go_say a b e = cc

abbrev says : Answer → Next TruncateStage
says answer = Say answer

say_same : (a b : Answer) → says a ≡ says b → a ≡ b
say_same a b e = cc

differ : true ≡ false → ⊥
differ e = cc

-- which of two comes next

go_first : (t : Bool) (p q : TruncateStage) (r : Answer) → Go q ≡ cond t (Go p) (Say r) → (t ≡ true) × (q ≡ p)
go_first true p q r e = (refl, go_same q p e)
go_first false p q r e = absurd (go_say q r e)

go_second : (t : Bool) (p q : TruncateStage) (r : Answer) → Go q ≡ cond t (Say r) (Go p) → (t ≡ false) × (q ≡ p)
go_second true p q r e = absurd (go_say q r e)
go_second false p q r e = (refl, go_same q p e)

go_either : (t : Bool) (p q o : TruncateStage) → Go o ≡ cond t (Go p) (Go q) → ((t ≡ true) × (o ≡ p)) ⊎ ((t ≡ false) × (o ≡ q))
go_either true p q o e = inl (refl, go_same o p e)
go_either false p q o e = inr (refl, go_same o q e)

say_second : (t : Bool) (p : TruncateStage) (a r : Answer) → Say a ≡ cond t (Go p) (Say r) → a ≡ r
say_second true p a r e = absurd (go_say p a (sym e))
say_second false p a r e = say_same a r e

say_first : (t : Bool) (p : TruncateStage) (a r : Answer) → Say a ≡ cond t (Say r) (Go p) → a ≡ r
say_first true p a r e = say_same a r e
say_first false p a r e = absurd (go_say p a (sym e))

say_neither : (t : Bool) (p q : TruncateStage) (a : Answer) → Say a ≡ cond t (Go p) (Go q) → ⊥
say_neither true p q a e = go_say p a (sym e)
say_neither false p q a e = go_say q a (sym e)

-- how it begins

begins : (x : Ctx) (given : Given) (q : TruncateStage) → IsOf x given → (truncate_table x).starts given (Go q) → DuringTruncate x q (opened given) ((truncate_table x).asks q (opened given))
begins x given q of s =
    let w = go_second (nat_lt (2 ^ 40) (to_of given.op)) (Opens (Lock 0)) q (TooBig (to_of given.op)) s.1 in
    let t = w.0 in
    let within : to_of given.op ≤ 2 ^ 40 = grind (arith, nat_tests) in
    let none : (y : ℕ) → at (opened given) (subject given.op) y ≡ no_place = λ (y : ℕ). opened_place given (subject given.op) y of.kept in
    subst (λ (o : TruncateStage). DuringTruncate x o (opened given) (truncate_asks o (opened given))) (sym w.1) (
      (s.0, within),
      (opening_begins x given Exclusive of, (λ y. ap (λ (p : Place). tried is_write p.window) (none y), λ y z l. ap (λ (p : Place). tried (is_read_from z) p.window) (none y))),
    )

-- what is answered

no_quorum : (e : Account) (op : Op) (phase : Phase) (most : ℕ) → IsTruncate op → IsEarned e op (NoQuorum phase most)
no_quorum e op phase most i = of_truncate (λ (o : Op). IsEarned e o (NoQuorum phase most)) op i (λ g to. tt)

earned_first : (x : Ctx) (given : Given) (answer : Answer) → IsOf x given → (truncate_table x).starts given (Say answer) → IsEarned (opened given) given.op answer
earned_first x given answer of s =
    let big : ℕ = to_of given.op in
    subst (λ (z : Answer). IsEarned (opened given) given.op z) (sym (say_first (nat_lt (2 ^ 40) (to_of given.op)) (Opens (Lock 0)) answer (TooBig (to_of given.op)) s.1))
    (of_truncate (λ (o : Op). IsEarned (opened given) o (TooBig (to_of given.op))) given.op s.0 (λ g to. tt))

-- what follows the Queries

judged_go : (kind : Kind) (group : Group) (q : TruncateStage) → Go q ≡ truncate_judged kind group → (is_within group.head ≡ true) × (q ≡ Votes (Pre group))
judged_go Dir group q e = absurd (go_say q IsDir e)
judged_go File group q e = go_first (is_within group.head) (Votes (Pre group)) q (Limit group.head.version.content) e

judged_say : (e : Account) (kind : Kind) (op : Op) (group : Group) (answer : Answer) → IsTruncate op → Say answer ≡ truncate_judged kind group → IsEarned e op answer
judged_say e Dir op group answer i w = subst (λ (z : Answer). IsEarned e op z) (sym (say_same answer IsDir w)) (of_truncate (λ (o : Op). IsEarned e o IsDir) op i (λ g to. tt))
judged_say e File op group answer i w =
    let limit : ℕ = group.head.version.content in
    subst (λ (z : Answer). IsEarned e op z) (sym (say_second (is_within group.head) (Votes (Pre group)) answer (Limit group.head.version.content) w)) (of_truncate (λ (o : Op). IsEarned e o (Limit group.head.version.content)) op i (λ g to. tt))

-- The stages of the opening.
abbrev InOpens : TruncateStage → Account → Asks → Type 0
InOpens (Opens stage) c f = InOpening Exclusive stage c f
InOpens stage c f = ⊥

-- after the PreOps
goes_trims : (x : Ctx) (group : Group) (d e : Account) → d.given ≡ e.given → IsUnlocked (subject e.given.op) d e → IsBetween e.given e group → IsCut e.given.op → IsUnread (subject e.given.op) 0 e → (o : TruncateStage)
    → Go o ≡ trims_from x e.given.geometry e.given.op group → InTruncate x o e (truncate_asks o d)
goes_trims x group d e dg u b short un o w =
    let s : ℕ = first_stripe (quorum_of e.given) (low_of e.given.op group) in
    ⊎_elim
    (λ z. subst (λ (p : TruncateStage). InTruncate x p e (truncate_asks p d)) (sym z.1) (cuts_first e.given group d e dg u b z.0))
    (λ z.
    let few : first_stripe (quorum_of e.given) (low_of e.given.op group) + 1 ≤ 2 ^ 30 = tail_few (quorum_of e.given) (low_of e.given.op group) (wide e.given) (low_fits e.given.op group short) z.0 in
    let r : Reading = reading_of x (subject e.given.op) group (first_stripe (quorum_of e.given) (low_of e.given.op group)) in
    subst (λ (p : TruncateStage). InTruncate x p e (truncate_asks p d)) (sym z.1)
    (start_asks x (subject e.given.op) group (reading_of x (subject e.given.op) group (first_stripe (quorum_of e.given) (low_of e.given.op group))) d refl
    (IsTailRead x e.given e group (reading_of x (subject e.given.op) group (first_stripe (quorum_of e.given) (low_of e.given.op group))))
    (record {
      one = reads_begin x e.given group (first_stripe (quorum_of e.given) (low_of e.given.op group)) d e dg u b (λ y t l. un y t (omega arith)) few;
      inside = z.0;
      first = refl;
    })))
    (go_either (is_border e.given group) (Cuts group) (Reads group (reading_of x (subject e.given.op) group (first_stripe (quorum_of e.given) (low_of e.given.op group)))) o w)

-- no other stripe is touched
last_unread : (k low : ℕ) → 0 < stripe_bytes k → (Rattle.ec_write.specs.Range.head_of k low == 0) ≡ false → reads_last k low 0 low ≡ false
last_unread k low pos inside =
    let one : count_stripes k low 0 ≡ 1 = tail_one k low pos inside in
    let none : nat_lt 1 (count_stripes k low 0) ≡ false = grind (arith, nat_tests) in
    rw none refl

-- after the stripe was read
goes_tail : (x : Ctx) (group : Group) (reading : Reading) (c : Account) (f : Asks) (d e : Account) → c.given ≡ e.given → d.given ≡ e.given → IsTailRead x e.given c group reading f → IsRound (subject e.given.op) c f d → IsIdle d → IsUnlocked (subject e.given.op) d e
    → (stripe : List (List ℕ)) → IsDecoded e.given.geometry reading (places_of d (subject e.given.op)) (replied d (subject e.given.op)) stripe → (o : TruncateStage) → Tails e.given.geometry e.given.op group stripe (Go o) → InTruncate x o e (truncate_asks o d)
goes_tail x group reading c f d e cg dg l r idle u stripe k o w =
    let b : IsBetween e.given e group = between_unlocked e.given group d e u (between_read x e.given group reading c f d l.one cg r idle) in
    let old : IsOld e (subject e.given.op) reading.first group.head stripe = old_unlocked (subject e.given.op) reading.first group.head stripe d e u (decoded_old x e.given group reading c f d l.one cg r idle stripe k) in
    subst (λ (p : TruncateStage). InTruncate x p e (truncate_asks p d)) (sym (go_same o (Writes group w.0) w.2)) (record {
      inside = l.inside;
      written = writes_begin e.given group (λ (z : Given). low_of z.op group) [] (low_of e.given.op group) w.0 stripe [] (tail_asks group w.0 d) d e dg u b w.1
          (λ t. subst (λ (s : ℕ). IsOld e (subject e.given.op) s group.head stripe) l.first old)
          (λ t. absurd (differ (sym t ∙ last_unread (quorum_of e.given) (low_of e.given.op group) (let z = wide e.given in omega (arith, z)) l.inside)))
          (λ y. refl);
    })

goes : (x : Ctx) (given : Given) (p q : TruncateStage) (c : Account) (f : Asks) (d e : Account) → IsIn x given c → DuringTruncate x p c f → IsRound (subject given.op) c f d → IsIdle d
    → (truncate_table x).follows p d (Go q) → IsIn x given e → IsUnlocked (subject given.op) d e → DuringTruncate x q e ((truncate_table x).asks q d)
goes x given p q c f d e a l r idle follows b u = (short, go p q l.1 follows)
  where
    cg : c.given ≡ e.given
    cg = a.given_is ∙ sym b.given_is

    short : IsCut e.given.op
    short = subst (λ (v : Given). IsCut v.op) cg l.0

    dg : d.given ≡ e.given
    dg = r.given ∙ cg

    re : IsRound (subject e.given.op) c f d
    re = subst (λ (v : Given). IsRound (subject v.op) c f d) (sym b.given_is) r

    ue : IsUnlocked (subject e.given.op) d e
    ue = subst (λ (v : Given). IsUnlocked (subject v.op) d e) (sym b.given_is) u

    fresh_at : (stage : Opening) → InOpening Exclusive stage c f → IsFresh c.given c → IsFresh e.given e
    fresh_at stage k fresh = fresh_over e.given stage c f d e cg k (subst (λ (v : Given). IsFresh v c) cg fresh) re idle ue

    opened_goes : (o : TruncateStage) → InOpens o e (truncate_asks o d) → IsFresh e.given e → InTruncate x o e (truncate_asks o d)
    opened_goes (Opens stage) k fresh = (k, fresh)
    opened_goes (Votes stage) k fresh = absurd k
    opened_goes (Reads group reading) k fresh = absurd k
    opened_goes (Writes group lists) k fresh = absurd k
    opened_goes (Cuts group) k fresh = absurd k

    at_pre : (group : Group) (o : TruncateStage) → InOpening Exclusive Query c f → IsFresh e.given e → ComesTo d (subject d.given.op) (Found group) → (is_within group.head ≡ true) × (o ≡ Votes (Pre group)) → InTruncate x o e (truncate_asks o d)
    at_pre group o k fresh came w = subst (λ (s : TruncateStage). InTruncate x s e (truncate_asks s d)) (sym w.1) (
      pre_begins group Exclusive c f d e (subst (λ (v : Given). IsQuerying (subject v.op) (bricks_of v) Exclusive c f) cg k) dg re idle ue came w.0 (to_fits e.given.op group.head.size short),
      fresh,
    )

    at_query : (grouped : Grouped) (o : TruncateStage) → InOpening Exclusive Query c f → IsFresh e.given e → ComesTo d (subject d.given.op) grouped → TruncateJudges d grouped (Go o) → InTruncate x o e (truncate_asks o d)
    at_query (Found group) o k fresh came w = at_pre group o k fresh came (judged_go group.head.kind group o w)
    at_query (Gone bricks) o k fresh came w = absurd (go_say o NoSuch w)
    at_query (Fewer most) o k fresh came w = absurd (go_say o (NoQuorum QueryPhase most) w)

    at_clear : (group : Group) (o : TruncateStage) → InBallot (Post group) c f → quorum_of d.given ≤ count_serving d group → (nat_le (bricks_of d.given) (count_serving d group) ≡ true) × (o ≡ Votes (Clear group)) → InTruncate x o e (truncate_asks o d)
    at_clear group o k enough w = subst (λ (s : TruncateStage). InTruncate x s e (truncate_asks s d)) (sym w.1) (clear_begins group c f d e k (sym r.given) dg (subst (λ (v : Given). IsRound (subject v.op) c f d) (sym dg) re) idle (subst (λ (v : Given). IsUnlocked (subject v.op) d e) (sym dg) ue)
        enough (let t = w.0 in grind (arith, nat_tests)))

    go : (s o : TruncateStage) → InTruncate x s c f → (truncate_table x).follows s d (Go o) → InTruncate x o e (truncate_asks o d)
    go (Opens (Lock brick)) o k w = opened_goes o (lock_goes Opens TruncateJudges InOpens truncate_asks x given Exclusive brick o c f d e (λ z y h i. i) (λ z y. refl) a k.0 r idle w b u) (fresh_at (Lock brick) k.0 k.1)
    go (Opens Query) o k w = at_query w.0 o k.0 (fresh_at Query k.0 k.1) w.1 w.2
    go (Votes (Pre group)) o k w = ⊎_elim
        (λ v. absurd (go_say o (NoQuorum PrePhase (count_serving d group)) v.1))
        (λ v.
        let fresh : IsFresh e.given c = subst (λ (z : Given). IsFresh z c) cg k.1 in
        let between_d : IsBetween e.given d group = between_pre e.given group c f d k.0 cg re idle fresh.0 in
        goes_trims x group d e dg ue (between_unlocked e.given group d e ue between_d) short
        (unread_unlocked (subject e.given.op) 0 d e ue (unread_pre e.given group 0 c f d k.0 re idle fresh.1)) o
        (subst (λ (z : Given). Go o ≡ trims_from x z.geometry z.op group) dg v.1)) w
    go (Votes (Post group)) o k w = ⊎_elim
        (λ v. absurd (go_say o (NoQuorum PostPhase (count_serving d group)) v.1))
        (λ v. at_clear group o k v.0 (go_first (nat_le (bricks_of d.given) (count_serving d group)) (Votes (Clear group)) o (says_to d group) v.1)) w
    go (Votes (Clear group)) o k w = absurd (go_say o (says_to d group) w)
    go (Reads group reading) o k w =
        let we : TailEnds e.given.geometry e.given.op group reading (places_of d (subject e.given.op)) (replied d (subject e.given.op)) (Go o) = subst (λ (z : Given). TailEnds z.geometry z.op group reading (places_of d (subject z.op)) (replied d (subject z.op)) (Go o)) dg w in
        ⊎_elim
        (λ v. absurd (go_say o (NoQuorum ReadPhase (count_gave reading (places_of d (subject e.given.op)) (replied d (subject e.given.op)))) v.1))
        (λ v. goes_tail x group reading c f d e cg dg (subst (λ (z : Given). IsTailRead x z c group reading f) cg k) re idle ue v.1 v.2 o v.3)
        we
    go (Writes group lists) o k w = ⊎_elim
        (λ v. absurd (go_say o (NoQuorum WritePhase (count_serving d group)) v.1))
        (λ v. subst (λ (s : TruncateStage). InTruncate x s e (truncate_asks s d)) (sym (go_same o (Cuts group) v.1)) (cuts_after e.given group lists c f d e dg (subst (λ (z : Given). IsTailWritten z c group lists f) cg k) re idle ue)) w
    go (Cuts group) o k w = ⊎_elim
        (λ v. absurd (go_say o (NoQuorum TrimPhase (count_serving d group)) v.1))
        (λ v. subst (λ (s : TruncateStage). InTruncate x s e (truncate_asks s d)) (sym (go_same o (Votes (Post group)) v.1)) (post_cut group c f d e (subst (λ (z : Given). IsCutting z c group f) cg k) dg re idle ue short v.0)) w

lock_says : (s t : Bool) (p q : TruncateStage) (answer r : Answer) → Say answer ≡ cond s (Go p) (cond t (Go q) (Say r)) → answer ≡ r
lock_says true t p q answer r e = absurd (go_say p answer (sym e))
lock_says false true p q answer r e = absurd (go_say q answer (sym e))
lock_says false false p q answer r e = say_same answer r e

earned : (x : Ctx) (given : Given) (p : TruncateStage) (answer : Answer) (c : Account) (f : Asks) (d e : Account) → IsIn x given c → DuringTruncate x p c f → IsRound (subject given.op) c f d → IsIdle d
    → (truncate_table x).follows p d (Say answer) → IsReleased (subject given.op) d e → IsEarned e given.op answer
earned x given p answer c f d e a l r idle follows u = go p l.1 follows
  where
    is : IsTruncate given.op
    is = subst (λ (v : Given). IsTruncate v.op) a.given_is l.0.0

    dg : d.given ≡ given
    dg = r.given ∙ a.given_is

    rd : IsRound (subject d.given.op) c f d
    rd = subst (λ (v : Given). IsRound (subject v.op) c f d) (sym dg) r

    tells : (group : Group) → IsPosted d (subject d.given.op) → answer ≡ says_to d group → IsEarned e given.op answer
    tells group q w =
        let posted : IsPosted e (subject given.op) = posted_released (subject given.op) d e u (subst (λ (v : Given). IsPosted d (subject v.op)) dg q) in
        subst (λ (z : Answer). IsEarned e given.op z) (sym w) (of_truncate (λ (o : Op). IsPosted e (subject o) → IsEarned e o (says_to d group)) given.op is (λ g to h. h) posted)

    fails : (phase : Phase) (most : ℕ) → answer ≡ NoQuorum phase most → IsEarned e given.op answer
    fails phase most w = subst (λ (z : Answer). IsEarned e given.op z) (sym w) (no_quorum e given.op phase most is)

    at_query : (grouped : Grouped) → TruncateJudges d grouped (Say answer) → IsEarned e given.op answer
    at_query (Found group) w = judged_say e group.head.kind given.op group answer is w
    at_query (Gone bricks) w = subst (λ (z : Answer). IsEarned e given.op z) (sym (say_same answer NoSuch w)) (of_truncate (λ (o : Op). IsEarned e o NoSuch) given.op is (λ g to. tt))
    at_query (Fewer most) w = fails QueryPhase most (say_same answer (NoQuorum QueryPhase most) w)

    go : (s : TruncateStage) → InTruncate x s c f → (truncate_table x).follows s d (Say answer) → IsEarned e given.op answer
    go (Opens (Lock brick)) k w =
        let g = subject d.given.op in
        fails LockPhase (count_locks d g) (lock_says (nat_lt (brick + 1) (bricks_of d.given)) (nat_le (quorum_of d.given) (count_locks d g)) (Opens (Lock (brick + 1))) (Opens Query) answer (NoQuorum LockPhase (count_locks d g)) w)
    go (Opens Query) k w = at_query w.0 w.2
    go (Votes (Pre group)) k w = ⊎_elim
        (λ v. fails PrePhase (count_serving d group) (say_same answer (NoQuorum PrePhase (count_serving d group)) v.1))
        (λ v. absurd (say_neither (is_border d.given group) (Cuts group) (Reads group (reading_of x (subject d.given.op) group (first_stripe (quorum_of d.given) (low_of d.given.op group)))) answer v.1)) w
    go (Votes (Post group)) k w = ⊎_elim
        (λ v. fails PostPhase (count_serving d group) (say_same answer (NoQuorum PostPhase (count_serving d group)) v.1))
        (λ v. tells group (is_posted group c f d k (sym r.given) rd idle v.0) (say_second (nat_le (bricks_of d.given) (count_serving d group)) (Votes (Clear group)) answer (says_to d group) v.1)) w
    go (Votes (Clear group)) k w = tells group (posted_over group c f d k (sym r.given) rd idle) (say_same answer (says_to d group) w)
    go (Reads group reading) k w =
        let most : ℕ = count_gave reading (places_of d (subject d.given.op)) (replied d (subject d.given.op)) in
        ⊎_elim
        (λ v. fails ReadPhase (count_gave reading (places_of d (subject d.given.op)) (replied d (subject d.given.op))) (say_same answer (NoQuorum ReadPhase (count_gave reading (places_of d (subject d.given.op)) (replied d (subject d.given.op)))) v.1))
        (λ v. absurd (go_say (Writes group v.3.0) answer (sym v.3.2)))
        w
    go (Writes group lists) k w = ⊎_elim
        (λ v. fails WritePhase (count_serving d group) (say_same answer (NoQuorum WritePhase (count_serving d group)) v.1))
        (λ v. absurd (go_say (Cuts group) answer (sym v.1))) w
    go (Cuts group) k w = ⊎_elim
        (λ v. fails TrimPhase (count_serving d group) (say_same answer (NoQuorum TrimPhase (count_serving d group)) v.1))
        (λ v. absurd (go_say (Votes (Post group)) answer (sym v.1))) w

again : (x : Ctx) (given : Given) (p : TruncateStage) (c : Account) (f : Asks) (d : Account) → truncate_reads p ≡ true → IsIn x given c → DuringTruncate x p c f → IsRound (subject given.op) c f d
    → DuringTruncate x p c (joined f (truncate_asks p d)) × IsMore (subject given.op) c f (truncate_asks p d)
again x given (Reads group reading) c f d t a l r =
    let k : IsTailRead x given c group reading f = subst (λ (v : Given). IsTailRead x v c group reading f) a.given_is l.1 in
    start_asks x (subject given.op) group reading d k.one.reading_is (λ (h : Asks). DuringTruncate x (Reads group reading) c (joined f h) × IsMore (subject given.op) c f h)
    ((l.0, subst (λ (v : Given). IsTailRead x v c group reading (joined f (reading_asks reading d))) (sym a.given_is) (record { one = between.reads_again x given group reading c f d a k.one r; inside = k.inside; first = k.first })), (law x given reading c f d a k.one.asks r).1)
again x given (Opens stage) c f d t a l r = absurd (differ (sym t))
again x given (Votes stage) c f d t a l r = absurd (differ (sym t))
again x given (Writes group lists) c f d t a l r = absurd (differ (sym t))
again x given (Cuts group) c f d t a l r = absurd (differ (sym t))

on : (x : Ctx) (given : Given) (p : TruncateStage) (c : Account) (f : Asks) → IsIn x given c → DuringTruncate x p c f → IsOn (subject given.op) (bricks_of given) (c.on (subject given.op)).queried f
on x given p c f a l = go p l.1
  where
    short : IsCut given.op
    short = subst (λ (v : Given). IsCut v.op) a.given_is l.0

    go : (s : TruncateStage) → InTruncate x s c f → IsOn (subject given.op) (bricks_of given) (c.on (subject given.op)).queried f
    go (Opens stage) k = opening_on x given Exclusive stage c f a k.0
    go (Votes (Pre group)) k = ballot_on x given (Pre group) c f a k.0
    go (Votes (Post group)) k = ballot_on x given (Post group) c f a k
    go (Votes (Clear group)) k = ballot_on x given (Clear group) c f a k
    go (Reads group reading) k =
        let z : IsTailRead x given c group reading f = subst (λ (v : Given). IsTailRead x v c group reading f) a.given_is k in
        fetch_on (subject given.op) (bricks_of given) (c.on (subject given.op)).queried c f (reading_fetches (subject given.op) (bricks_of given) reading c f z.one.asks)
    go (Writes group lists) k =
        let z : IsTailWritten given c group lists f = subst (λ (v : Given). IsTailWritten v c group lists f) a.given_is k in
        let low : low_of given.op group ≤ 2 ^ 40 = low_fits given.op group short in
        writing_on given group (low_of given.op group) [] (low_of given.op group) lists c f (c.on (subject given.op)).queried (omega (arith, low)) z.written
    go (Cuts group) k = cutting_on given group c f (c.on (subject given.op)).queried short (subst (λ (v : Given). IsCutting v c group f) a.given_is k)

-- what the commit of a truncate is made of is told by the call alone
steady : (v : Given) (g : ℕ) (head : Head) (c d : Account) (rs : List Request) → c.given ≡ v → d.given ≡ v → IsTruncate v.op → IsAllOf c g head v.op rs → IsAllOf d g head v.op rs
steady v g head c d rs cg dg i k =
    of_truncate (λ (o : Op). IsAllOf c g head o rs → IsAllOf d g head o rs) v.op i
    (λ h to m. (m.0, subst (λ (z : Given). are (truncate_tests (quorum_of z) (Rattle.std.proofs.Common.min head.size to) to) rs ≡ true) (cg ∙ sym dg) m.1)) k

may : (x : Ctx) (given : Given) (p : TruncateStage) (c : Account) (f h : Asks) (d : Account) → IsIn x given c → DuringTruncate x p c f → IsSent (subject given.op) c h d
    → ((y : ℕ) (r : Request) → h y ≡ Some r → f y ≡ Some r) → (b : ℕ) (r : Request) → f b ≡ Some r → h b ≡ None → MaySend d b r
may x given p c f h d a l s part b r e n = go p l.1
  where
    holds : (g : ℕ) (head : Head) (z : Account) (rs : List Request) → IsReleased g c z → IsAllOf c g head c.given.op rs → IsAllOf z g head z.given.op rs
    holds g head z rs k w = subst (λ (v : Given). IsAllOf z g head v.op rs) (sym k.given) (steady c.given g head c z rs refl k.given l.0.0 w)

    dg : d.given ≡ given
    dg = s.given ∙ a.given_is

    ad : IsIn x d.given c
    ad = subst (λ (v : Given). IsIn x v c) (sym dg) a

    sd : IsSent (subject d.given.op) c h d
    sd = subst (λ (v : Given). IsSent (subject v.op) c h d) (sym dg) s

    is : IsTruncate d.given.op
    is = subst (λ (v : Given). IsTruncate v.op) (sym s.given) l.0.0

    go : (o : TruncateStage) → InTruncate x o c f → MaySend d b r
    go (Opens stage) k = opening_may x given Exclusive stage c f h d a k.0 s part b r e n
    go (Votes (Pre group)) k = ballot_may c holds x given (Pre group) f h d a k.0 s part b r e n
    go (Votes (Post group)) k = ballot_may c holds x given (Post group) f h d a k s part b r e n
    go (Votes (Clear group)) k = ballot_may c holds x given (Clear group) f h d a k s part b r e n
    go (Reads group reading) k =
        let z : IsTailRead x given c group reading f = subst (λ (v : Given). IsTailRead x v c group reading f) a.given_is k in
        fetch_may x given c f h d a (reading_fetches (subject given.op) (bricks_of given) reading c f z.one.asks) s b r e n
    go (Writes group lists) k =
        let z : IsTailWritten d.given c group lists f = subst (λ (v : Given). IsTailWritten v c group lists f) (sym s.given) k in
        write_may x group (low_of d.given.op group) [] (low_of d.given.op group) lists c f h d ad z.written (truncate_fills d.given.op is group) sd part b r e n
    go (Cuts group) k = cut_may x group c f h d ad (subst (λ (v : Given). IsCutting v c group f) (sym s.given) k) is sd part b r e n

pub truncate_sound : (x : Ctx) → IsSound x (truncate_table x) (DuringTruncate x)
truncate_sound x = record {
  begins = begins x;
  earned_first = earned_first x;
  goes = goes x;
  earned = earned x;
  again = again x;
  on = on x;
  may = may x;
}
