-- The table of a write keeps the conduct.
use Rattle.std.proofs.Common.{◌≡◌, inl, inr, ⊎_elim, refl, sym, ◌∙◌, ap, subst, ℕ, ◌+◌, ◌-◌, ◌*◌, ◌<◌, ◌≤◌, ◌^◌, ◌==◌, ◌&&◌, Bool, true, false, cond, nat_lt, nat_le, List, [], length, arith, Option, Some, None, eqb-true, eq-eqb}
use Rattle.std.proofs.lemmas.Bool.{and_parts, cases_Bool}
use Rattle.std.proofs.lemmas.Bool.Decides.{nat_tests}
use Rattle.ec_attr.specs.declared.head.Head.{Head}
use Rattle.ec_attr.specs.declared.kind.Kind.{Kind}
use Rattle.ec_attr.specs.declared.kind.Kind.TheVariants.{File, Dir}
use Rattle.ec_attr.specs.declared.kind.LockKind.TheVariants.{Exclusive}
use Rattle.ec_answers.specs.declared.grouped.Group.{Group}
use Rattle.ec_answers.specs.declared.grouped.Grouped.{Grouped}
use Rattle.ec_answers.specs.declared.grouped.Grouped.TheVariants.{Group as Found, Gone, Fewer}
use Rattle.ec_conduct.specs.Account.{Account, at}
use Rattle.ec_conduct.specs.Changes.{IsAllOf}
use Rattle.ec_conduct.specs.Children.{IsPosted}
use Rattle.ec_conduct.specs.Conduct.{IsEarned, MaySend}
use Rattle.ec_conduct.specs.Data.{IsOld}
use Rattle.ec_conduct.specs.Done.{is_write, tried}
use Rattle.ec_conduct.specs.Given.{Given, bricks_of, quorum_of}
use Rattle.ec_conduct.specs.Opened.{no_place, opened}
use Rattle.ec_conduct.specs.Phases.{is_read_from}
use Rattle.ec_txn.specs.declared.ballot.Ballot.{Ballot}
use Rattle.ec_txn.specs.declared.ballot.Ballot.TheVariants.{Pre, Post, Clear}
use Rattle.ec_txn.specs.declared.ctx.Ctx.{Ctx}
use Rattle.ec_txn.specs.declared.opening.Opening.{Opening}
use Rattle.ec_txn.specs.declared.opening.Opening.TheVariants.{Lock, Query}
use Rattle.ec_txn.specs.declared.reading.Reading.{Reading}
use Rattle.ec_txn.specs.declared.stage.Next.{Next}
use Rattle.ec_txn.specs.declared.stage.Next.TheVariants.{Go, Say}
use Rattle.ec_txn.specs.Ballot.{InBallot, ballot_asks, count_serving, is_within}
use Rattle.ec_txn.specs.Opening.{ComesTo, InOpening, IsQuerying, count_locks}
use Rattle.ec_txn.specs.ReadPhase.{places_of, reading_asks}
use Rattle.ec_txn.specs.Replies.{replied}
use Rattle.ec_txn.specs.Rounds.{Asks, IsIdle, IsMore, IsOn, IsReleased, IsRound, IsSent, IsUnlocked, joined, subject, where_so}
use Rattle.ec_txn.specs.Tables.{IsIn, IsOf, IsSound}
use Rattle.ec_txn.proofs.BallotGoes.{clear_begins, is_posted, posted_over, posted_released, pre_begins}
use Rattle.ec_txn.proofs.BallotSends.{ballot_may, ballot_on, size_of}
use Rattle.ec_txn.proofs.Fetching.{fetch_may, fetch_on}
use Rattle.ec_txn.proofs.Openings.{lock_goes, opening_begins, opening_may, opening_on}
use Rattle.ec_txn.proofs.ReadAgain.{law, reading_fetches}
use Rattle.ec_txn.proofs.Steps.{opened_place}
use Rattle.ec_wire.specs.declared.answer.Answer.{Answer}
use Rattle.ec_wire.specs.declared.answer.Answer.TheVariants.{IsDir, Limit, NoQuorum, NoSuch, Size, TooBig, TooLong}
use Rattle.ec_wire.specs.declared.op.Op.{Op}
use Rattle.ec_wire.specs.declared.phase.Phase.{Phase}
use Rattle.ec_wire.specs.declared.phase.Phase.TheVariants.{Lock as LockPhase, Query as QueryPhase, Pre as PrePhase, Read as ReadPhase, Write as WritePhase, Post as PostPhase}
use Rattle.ec_wire.specs.declared.request.Request.{Request}
use Rattle.ec_write.specs.declared.stage.WriteStage.{WriteStage}
use Rattle.ec_write.specs.declared.stage.WriteStage.TheVariants.{Opens, Votes, Reads, Writes}
use Rattle.ec_write.specs.During.{DuringWrite, InWrite, IsBetween, IsFresh, IsReadingOf, IsSized, IsWritingOf, KnowsFirst, KnowsLast, count_at, first_at, last_at}
use Rattle.ec_write.specs.Range.{count_stripes, data_of, off_of, reads_first, reads_last, told_end}
use Rattle.ec_write.specs.Stripes.{IsDecoded, count_gave}
use Rattle.ec_write.specs.Write.{AfterRead, GoesOn, IsWrite, is_short, ReadEnds, WriteJudges, asks_of, first_of, judged, reading_of, reads_again, says_size, second_of, write_table}
use Rattle.ec_write.specs.Between.{between_pre, fresh_over, start_asks, between_read, between_unlocked, old_read, old_unlocked, reads_begin, unread_pre, unread_read, unread_unlocked}
use Rattle.ec_write.specs.Between as between
use Rattle.ec_write.specs.Numbers.{count_some, stripes_few}
use Rattle.ec_write.specs.Olds.{decoded_old}
use Rattle.ec_write.specs.Sendings.{write_fills, write_may}
use Rattle.ec_write.specs.Writings.{of_write, post_after, size_fits, wide, writes_begin, writing_on}

go_same : (a b : WriteStage) → Go a ≡ Go b → a ≡ b
go_same a b e = cc

go_say : (a : WriteStage) (b : Answer) → Go a ≡ Say b → ⊥
go_say a b e = cc

abbrev says : Answer → Next WriteStage
says answer = Say answer

say_same : (a b : Answer) → says a ≡ says b → a ≡ b
say_same a b e = cc

differ : true ≡ false → ⊥
differ e = cc

-- how it begins

started : (s t : Bool) (p q : WriteStage) (a b : Answer) → Go q ≡ cond s (Say a) (cond t (Say b) (Go p)) → (t ≡ false) × (q ≡ p)
started true t p q a b e = absurd (go_say q a e)
started false true p q a b e = absurd (go_say q b e)
started false false p q a b e = (refl, go_same q p e)

begins : (x : Ctx) (given : Given) (q : WriteStage) → IsOf x given → (write_table x).starts given (Go q) → DuringWrite x q (opened given) ((write_table x).asks q (opened given))
begins x given q of s =
    let w = started (nat_lt (2 ^ 20) (length (data_of given.op))) (nat_lt (2 ^ 40) (off_of given.op + length (data_of given.op))) (Opens (Lock 0)) q (TooLong (length (data_of given.op))) (TooBig (told_end (off_of given.op) (length (data_of given.op)))) s.1 in
    let t = w.0 in
    let within : off_of given.op + length (data_of given.op) ≤ 2 ^ 40 = grind (arith, nat_tests) in
    let none : (y : ℕ) → at (opened given) (subject given.op) y ≡ no_place = λ (y : ℕ). opened_place given (subject given.op) y of.kept in
    subst (λ (o : WriteStage). DuringWrite x o (opened given) (asks_of o (opened given))) (sym w.1) (
      (s.0, within),
      (opening_begins x given Exclusive of, (λ y. ap (λ (p : Rattle.ec_conduct.specs.Account.Place). tried is_write p.window) (none y), λ y z l. ap (λ (p : Rattle.ec_conduct.specs.Account.Place). tried (is_read_from z) p.window) (none y))),
    )

-- what is answered

no_quorum : (e : Account) (op : Op) (phase : Phase) (most : ℕ) → IsWrite op → IsEarned e op (NoQuorum phase most)
no_quorum e op phase most i = of_write (λ (o : Op). IsEarned e o (NoQuorum phase most)) op i (λ g off bytes. tt)

earned_first : (x : Ctx) (given : Given) (answer : Answer) → IsOf x given → (write_table x).starts given (Say answer) → IsEarned (opened given) given.op answer
earned_first x given answer of s = go (nat_lt (2 ^ 20) (length (data_of given.op))) (nat_lt (2 ^ 40) (off_of given.op + length (data_of given.op))) s.1
  where
    here : (a : Answer) → answer ≡ a → IsEarned (opened given) given.op a → IsEarned (opened given) given.op answer
    here a e k = subst (λ (z : Answer). IsEarned (opened given) given.op z) (sym e) k

    long : ℕ
    long = length (data_of given.op)

    big : ℕ
    big = told_end (off_of given.op) (length (data_of given.op))

    go : (t u : Bool) → says answer ≡ cond t (Say (TooLong (length (data_of given.op)))) (cond u (Say (TooBig (told_end (off_of given.op) (length (data_of given.op))))) (Go (Opens (Lock 0)))) → IsEarned (opened given) given.op answer
    go true u e = here (TooLong long) (say_same answer (TooLong long) e) (of_write (λ (o : Op). IsEarned (opened given) o (TooLong long)) given.op s.0 (λ g off bytes. tt))
    go false true e = here (TooBig big) (say_same answer (TooBig big) e) (of_write (λ (o : Op). IsEarned (opened given) o (TooBig big)) given.op s.0 (λ g off bytes. tt))
    go false false e = absurd (go_say (Opens (Lock 0)) answer (sym e))

-- what follows the Queries

voted : (s t : Bool) (p q : WriteStage) (a b : Answer) → Go q ≡ cond s (cond t (Go p) (Say a)) (Say b) → (s ≡ true) × (t ≡ true) × (q ≡ p)
voted true true p q a b e = (refl, refl, go_same q p e)
voted true false p q a b e = absurd (go_say q a e)
voted false t p q a b e = absurd (go_say q b e)

judged_go : (kind : Kind) (op : Op) (group : Group) (q : WriteStage) → Go q ≡ judged kind op group → (0 < length (data_of op)) × (is_within group.head ≡ true) × (q ≡ Votes (Pre group))
judged_go Dir op group q e = absurd (go_say q IsDir e)
judged_go File op group q e =
    let w = voted (nat_lt 0 (length (data_of op))) (is_within group.head) (Votes (Pre group)) q (Limit group.head.version.content) (Size group.head.size) e in
    let t = w.0 in
    let some : 0 < length (data_of op) = grind (arith, nat_tests) in
    (some, w.1, w.2)

judged_say : (e : Account) (kind : Kind) (op : Op) (group : Group) (answer : Answer) → IsWrite op → Say answer ≡ judged kind op group → IsEarned e op answer
judged_say e Dir op group answer i w = subst (λ (z : Answer). IsEarned e op z) (sym (say_same answer IsDir w)) (of_write (λ (o : Op). IsEarned e o IsDir) op i (λ g off bytes. tt))
judged_say e File op group answer i w = go (nat_lt 0 (length (data_of op))) refl (is_within group.head) w
  where
    limit : ℕ
    limit = group.head.version.content

    none : nat_lt 0 (length (data_of op)) ≡ false → IsEarned e op (Size group.head.size)
    none t = of_write (λ (o : Op). nat_lt 0 (length (data_of o)) ≡ false → IsEarned e o (Size group.head.size)) op i (λ g off bytes f some. absurd (let u : nat_lt 0 (length bytes) ≡ true = grind (arith, nat_tests) in differ (sym u ∙ f))) t

    go : (s : Bool) → nat_lt 0 (length (data_of op)) ≡ s → (t : Bool) → says answer ≡ cond s (cond t (Go (Votes (Pre group))) (Say (Limit group.head.version.content))) (Say (Size group.head.size)) → IsEarned e op answer
    go true u true v = absurd (go_say (Votes (Pre group)) answer (sym v))
    go true u false v = subst (λ (z : Answer). IsEarned e op z) (sym (say_same answer (Limit limit) v)) (of_write (λ (o : Op). IsEarned e o (Limit limit)) op i (λ g off bytes. tt))
    go false u t v = subst (λ (z : Answer). IsEarned e op z) (sym (say_same answer (Size group.head.size) v)) (none u)

-- a next stage

judged_cond : (t : Bool) (p q : WriteStage) (r : Answer) → Go q ≡ cond t (Go p) (Say r) → (t ≡ true) × (q ≡ p)
judged_cond true p q r e = (refl, go_same q p e)
judged_cond false p q r e = absurd (go_say q r e)

refused : (t : Bool) (p : WriteStage) (a r : Answer) → Say a ≡ cond t (Go p) (Say r) → a ≡ r
refused true p a r e = absurd (go_say p a (sym e))
refused false p a r e = say_same a r e

-- within the limits the ballot asks all that it is to ask
short_asks : (stage : Ballot) (d : Account) (v : Given) → d.given ≡ v → IsSized v.op → (P : Asks → Type 0) → P (ballot_asks stage d) → P (asks_of (Votes stage) d)
short_asks stage d v dg sized P h =
    let most : off_of d.given.op + length (data_of d.given.op) ≤ 2 ^ 40 = subst (λ (z : Given). off_of z.op + length (data_of z.op) ≤ 2 ^ 40) (sym dg) sized.1 in
    let t : is_short d.given.op ≡ true = grind (arith, nat_tests) in
    subst P (sym (ap (λ (b : Bool). where_so b (ballot_asks stage d)) t)) h

-- The stages of the opening.
abbrev InOpens : WriteStage → Account → Asks → Type 0
InOpens (Opens stage) c f = InOpening Exclusive stage c f
InOpens stage c f = ⊥

module _ (x : Ctx) (group : Group) (d e : Account) (dg : d.given ≡ e.given) (u : IsUnlocked (subject e.given.op) d e) (b : IsBetween e.given e group) (sized : IsSized e.given.op) (full : 0 < length (data_of e.given.op)) where
  -- the new stripes are written
  goes_none : (front back : List (List ℕ)) (q : WriteStage) → KnowsFirst e.given e group front → KnowsLast e.given e group back → GoesOn x e.given.geometry e.given.op group front back None (Go q) → InWrite x q e (asks_of q d)
  goes_none front back q first last w =
      subst (λ (o : WriteStage). InWrite x o e (asks_of o d)) (sym (go_same q (Writes group w.0) w.2)) (full, writes_begin e.given group (λ z. off_of z.op) (data_of e.given.op) group.head.size w.0 front back (asks_of (Writes group w.0) d) d e dg u b w.1 first last (λ y. refl))

  -- a stripe is read
  goes_some : (front back : List (List ℕ)) (s : ℕ) (q : WriteStage) → Rattle.ec_write.specs.During.IsUnread (subject e.given.op) s e → Rattle.ec_write.specs.During.IsPlaced e.given e group front s → s + 1 ≤ 2 ^ 30
      → GoesOn x e.given.geometry e.given.op group front back (Some s) (Go q) → InWrite x q e (asks_of q d)
  goes_some front back s q un placed few w =
      subst (λ (o : WriteStage). InWrite x o e (asks_of o d)) (sym (go_same q (Reads group (reading_of x (subject e.given.op) group s) front) w))
      (start_asks x (subject e.given.op) group (reading_of x (subject e.given.op) group s) d refl (IsReadingOf x e.given e group (reading_of x (subject e.given.op) group s) front) (record { one = reads_begin x e.given group s d e dg u b un few; some = full; placed = placed }))

  few : first_at e.given + count_at e.given ≤ 2 ^ 30
  few = stripes_few (quorum_of e.given) (off_of e.given.op) (length (data_of e.given.op)) (wide e.given) sized.1

  some : 0 < count_at e.given
  some = count_some (quorum_of e.given) (off_of e.given.op) (length (data_of e.given.op)) (let z = wide e.given in omega (arith, z)) full

  needs_last : Bool
  needs_last = reads_last (quorum_of e.given) (off_of e.given.op) (length (data_of e.given.op)) group.head.size

  needs_first : Bool
  needs_first = reads_first (quorum_of e.given) (off_of e.given.op) (length (data_of e.given.op)) group.head.size

  more_than_one : reads_last (quorum_of e.given) (off_of e.given.op) (length (data_of e.given.op)) group.head.size ≡ true → 1 < count_at e.given
  more_than_one t =
      let k : ℕ = quorum_of e.given in
      let o : ℕ = off_of e.given.op in
      let n : ℕ = length (data_of e.given.op) in
      let w : ℕ = Rattle.ec_stripe.specs.Span.stripe_bytes (quorum_of e.given) in
      let p = and_parts (nat_lt 1 (count_stripes k o n) && nat_lt (Rattle.ec_write.specs.Range.reach k o n) (w * count_stripes k o n)) (nat_lt (w * (count_stripes k o n - 1)) (Rattle.ec_write.specs.Range.kept_bytes k o group.head.size)) t in
      let q = (and_parts (nat_lt 1 (count_stripes k o n)) (nat_lt (Rattle.ec_write.specs.Range.reach k o n) (w * count_stripes k o n)) p.0).0 in
      grind (arith, nat_tests)

  -- after the first stripe the last one, where it is read
  goes_second : (front : List (List ℕ)) (q : WriteStage) → Rattle.ec_write.specs.During.IsUnread (subject e.given.op) (last_at e.given) e → KnowsFirst e.given e group front
      → GoesOn x e.given.geometry e.given.op group front [] (second_of e.given.geometry e.given.op group) (Go q) → InWrite x q e (asks_of q d)
  goes_second front q un first w = elim (cases_Bool (reads_last (quorum_of e.given) (off_of e.given.op) (length (data_of e.given.op)) group.head.size)) [
    | inl t ↦ goes_some front [] (last_at e.given) q un (inr (refl, more_than_one t, first)) (let f = few in let n = some in omega (arith, f, n))
        (subst (λ (z : Bool). GoesOn x e.given.geometry e.given.op group front [] (cond z (Some (last_at e.given)) None) (Go q)) t w)
    | inr t ↦ goes_none front [] q first (λ z. absurd (differ (sym z ∙ t)))
        (subst (λ (z : Bool). GoesOn x e.given.geometry e.given.op group front [] (cond z (Some (last_at e.given)) None) (Go q)) t w)
  ]

  -- after the PreOps
  goes_first : (q : WriteStage) → Rattle.ec_write.specs.During.IsUnread (subject e.given.op) 0 e → GoesOn x e.given.geometry e.given.op group [] [] (first_of e.given.geometry e.given.op group) (Go q) → InWrite x q e (asks_of q d)
  goes_first q un w = elim (cases_Bool (reads_first (quorum_of e.given) (off_of e.given.op) (length (data_of e.given.op)) group.head.size)) [
    | inl t ↦ goes_some [] [] (first_at e.given) q (λ y s l. un y s (omega arith)) (inl refl) (let f = few in let n = some in omega (arith, f, n))
        (subst (λ (z : Bool). GoesOn x e.given.geometry e.given.op group [] [] (cond z (Some (first_at e.given)) (second_of e.given.geometry e.given.op group)) (Go q)) t w)
    | inr t ↦ goes_second [] q (λ y s l. un y s (omega arith)) (λ z. absurd (differ (sym z ∙ t)))
        (subst (λ (z : Bool). GoesOn x e.given.geometry e.given.op group [] [] (cond z (Some (first_at e.given)) (second_of e.given.geometry e.given.op group)) (Go q)) t w)
  ]

-- after a stripe was read
module _ (x : Ctx) (group : Group) (reading : Reading) (front : List (List ℕ)) (c : Account) (f : Asks) (d e : Account) (cg : c.given ≡ e.given) (dg : d.given ≡ e.given) (l : IsReadingOf x e.given c group reading front f) (r : IsRound (subject e.given.op) c f d) (idle : IsIdle d)
    (u : IsUnlocked (subject e.given.op) d e) (sized : IsSized e.given.op) (stripe : List (List ℕ)) (k : IsDecoded e.given.geometry reading (places_of d (subject e.given.op)) (replied d (subject e.given.op)) stripe) where
  b : IsBetween e.given e group
  b = between_unlocked e.given group d e u (between_read x e.given group reading c f d l.one cg r idle)

  -- what was decoded
  old_is : IsOld e (subject e.given.op) reading.first group.head stripe
  old_is = old_unlocked (subject e.given.op) reading.first group.head stripe d e u (decoded_old x e.given group reading c f d l.one cg r idle stripe k)

  goes_read : (t : Bool) (q : WriteStage) → (reading.first == first_at e.given) ≡ t → AfterRead t x e.given.geometry e.given.op group front stripe (Go q) → InWrite x q e (asks_of q d)
  goes_read true q same w =
      let z : reading.first ≡ first_at e.given = eqb-true reading.first (first_at e.given) same in
      let first : KnowsFirst e.given e group stripe = λ (t : reads_first (quorum_of e.given) (off_of e.given.op) (length (data_of e.given.op)) group.head.size ≡ true). subst (λ (s : ℕ). IsOld e (subject e.given.op) s group.head stripe) z old_is in
      elim (cases_Bool (nat_lt 1 (count_at e.given))) [
        | inl t ↦
            let later : reading.first < last_at e.given = (let y : 1 < count_at e.given = grind (arith, nat_tests) in omega (arith, z, y)) in
            goes_second x group d e dg u b sized l.some stripe q (unread_unlocked (subject e.given.op) (last_at e.given) d e u (unread_read x e.given group reading c f d l.one cg r idle (last_at e.given) later)) first w
        | inr t ↦
            let none : reads_last (quorum_of e.given) (off_of e.given.op) (length (data_of e.given.op)) group.head.size ≡ false = (rw t refl) in
            goes_none x group d e dg u b sized l.some stripe [] q first (λ y. absurd (differ (sym y ∙ none)))
            (subst (λ (y : Bool). GoesOn x e.given.geometry e.given.op group stripe [] (cond y (Some (last_at e.given)) None) (Go q)) none w)
      ]
  goes_read false q other w = ⊎_elim
      (λ z. absurd (differ (sym (eq-eqb reading.first (first_at e.given) z) ∙ other)))
      (λ z.
      let before : first_at e.given < reading.first = (let p = z.0 in let n = z.1 in omega (arith, p, n)) in
      goes_none x group d e dg u b sized l.some front stripe q
      (λ t. old_unlocked (subject e.given.op) (first_at e.given) group.head front d e u (old_read x e.given group reading c f d l.one cg r idle (first_at e.given) group.head front before (z.2 t)))
      (λ t. subst (λ (s : ℕ). IsOld e (subject e.given.op) s group.head stripe) z.0 old_is)
      w)
      l.placed

goes : (x : Ctx) (given : Given) (p q : WriteStage) (c : Account) (f : Asks) (d e : Account) → IsIn x given c → DuringWrite x p c f → IsRound (subject given.op) c f d → IsIdle d
    → (write_table x).follows p d (Go q) → IsIn x given e → IsUnlocked (subject given.op) d e → DuringWrite x q e ((write_table x).asks q d)
goes x given p q c f d e a l r idle follows b u = (sized, go p q l.1 follows)
  where
    cg : c.given ≡ e.given
    cg = a.given_is ∙ sym b.given_is

    sized : IsSized e.given.op
    sized = subst (λ (v : Given). IsSized v.op) cg l.0

    dg : d.given ≡ e.given
    dg = r.given ∙ cg

    re : IsRound (subject e.given.op) c f d
    re = subst (λ (v : Given). IsRound (subject v.op) c f d) (sym b.given_is) r

    ue : IsUnlocked (subject e.given.op) d e
    ue = subst (λ (v : Given). IsUnlocked (subject v.op) d e) (sym b.given_is) u

    fresh_at : (stage : Opening) → InOpening Exclusive stage c f → IsFresh c.given c → IsFresh e.given e
    fresh_at stage k fresh = fresh_over e.given stage c f d e cg k (subst (λ (v : Given). IsFresh v c) cg fresh) re idle ue

    opened_goes : (o : WriteStage) → InOpens o e (asks_of o d) → IsFresh e.given e → InWrite x o e (asks_of o d)
    opened_goes (Opens stage) k fresh = (k, fresh)
    opened_goes (Votes stage) k fresh = absurd k
    opened_goes (Reads group reading front) k fresh = absurd k
    opened_goes (Writes group lists) k fresh = absurd k

    at_pre : (group : Group) (o : WriteStage) → InOpening Exclusive Query c f → IsFresh e.given e → ComesTo d (subject d.given.op) (Found group) → (0 < length (data_of d.given.op)) × (is_within group.head ≡ true) × (o ≡ Votes (Pre group)) → InWrite x o e (asks_of o d)
    at_pre group o k fresh came w = subst (λ (s : WriteStage). InWrite x s e (asks_of s d)) (sym w.2) (
      short_asks (Pre group) d e.given dg sized (InBallot (Pre group) e) (pre_begins group Exclusive c f d e (subst (λ (v : Given). IsQuerying (subject v.op) (bricks_of v) Exclusive c f) cg k) dg re idle ue came w.1 (size_fits e.given.op group.head.size sized (size_of group.head w.1))),
      subst (λ (v : Given). 0 < length (data_of v.op)) dg w.0,
      fresh,
    )

    at_query : (grouped : Grouped) (o : WriteStage) → InOpening Exclusive Query c f → IsFresh e.given e → ComesTo d (subject d.given.op) grouped → WriteJudges d grouped (Go o) → InWrite x o e (asks_of o d)
    at_query (Found group) o k fresh came w = at_pre group o k fresh came (judged_go group.head.kind d.given.op group o w)
    at_query (Gone bricks) o k fresh came w = absurd (go_say o NoSuch w)
    at_query (Fewer most) o k fresh came w = absurd (go_say o (NoQuorum QueryPhase most) w)

    at_clear : (group : Group) (o : WriteStage) → InBallot (Post group) c f → quorum_of d.given ≤ count_serving d group → (nat_le (bricks_of d.given) (count_serving d group) ≡ true) × (o ≡ Votes (Clear group)) → InWrite x o e (asks_of o d)
    at_clear group o k enough w = subst (λ (s : WriteStage). InWrite x s e (asks_of s d)) (sym w.1) (short_asks (Clear group) d e.given dg sized (InBallot (Clear group) e) (clear_begins group c f d e k (sym r.given) dg (subst (λ (v : Given). IsRound (subject v.op) c f d) (sym dg) re) idle (subst (λ (v : Given). IsUnlocked (subject v.op) d e) (sym dg) ue)
        enough (let t = w.0 in grind (arith, nat_tests))))

    go : (s o : WriteStage) → InWrite x s c f → (write_table x).follows s d (Go o) → InWrite x o e (asks_of o d)
    go (Opens (Lock brick)) o k w = opened_goes o (lock_goes Opens WriteJudges InOpens asks_of x given Exclusive brick o c f d e (λ z y h i. i) (λ z y. refl) a k.0 r idle w b u) (fresh_at (Lock brick) k.0 k.1)
    go (Opens Query) o k w = at_query w.0 o k.0 (fresh_at Query k.0 k.1) w.1 w.2
    go (Votes (Pre group)) o k w = ⊎_elim
        (λ v. absurd (go_say o (NoQuorum PrePhase (count_serving d group)) v.1))
        (λ v.
        let fresh : IsFresh e.given c = subst (λ (z : Given). IsFresh z c) cg k.2 in
        let between_d = between_pre e.given group c f d k.0 cg re idle fresh.0 in
        goes_first x group d e dg ue (between_unlocked e.given group d e ue between_d) sized (subst (λ (z : Given). 0 < length (data_of z.op)) cg k.1) o
        (unread_unlocked (subject e.given.op) 0 d e ue (unread_pre e.given group 0 c f d k.0 re idle fresh.1))
        (subst (λ (z : Given). GoesOn x z.geometry z.op group [] [] (first_of z.geometry z.op group) (Go o)) dg v.1)) w
    go (Votes (Post group)) o k w = ⊎_elim
        (λ v. absurd (go_say o (NoQuorum PostPhase (count_serving d group)) v.1))
        (λ v. at_clear group o k v.0 (judged_cond (nat_le (bricks_of d.given) (count_serving d group)) (Votes (Clear group)) o (says_size d group) v.1)) w
    go (Votes (Clear group)) o k w = absurd (go_say o (says_size d group) w)
    go (Reads group reading front) o k w =
        let we : ReadEnds x e.given.geometry e.given.op group reading front (places_of d (subject e.given.op)) (replied d (subject e.given.op)) (Go o) = subst (λ (z : Given). ReadEnds x z.geometry z.op group reading front (places_of d (subject z.op)) (replied d (subject z.op)) (Go o)) dg w in
        ⊎_elim
        (λ v. absurd (go_say o (NoQuorum ReadPhase (count_gave reading (places_of d (subject e.given.op)) (replied d (subject e.given.op)))) v.1))
        (λ v. goes_read x group reading front c f d e cg dg (subst (λ (z : Given). IsReadingOf x z c group reading front f) cg k) re idle ue sized v.1 v.2 (reading.first == first_at e.given) o refl v.3)
        we
    go (Writes group lists) o k w = ⊎_elim
        (λ v. absurd (go_say o (NoQuorum WritePhase (count_serving d group)) v.1))
        (λ v.
        let l : IsWritingOf e.given c group lists f = subst (λ (z : Given). IsWritingOf z c group lists f) cg k in
        subst (λ (s : WriteStage). InWrite x s e (asks_of s d)) (sym (go_same o (Votes (Post group)) v.1)) (short_asks (Post group) d e.given dg sized (InBallot (Post group) e) (post_after group lists c f d e l dg re idle ue sized v.0 (size_of group.head l.1.between.within)))) w

lock_says : (s t : Bool) (p q : WriteStage) (answer r : Answer) → Say answer ≡ cond s (Go p) (cond t (Go q) (Say r)) → answer ≡ r
lock_says true t p q answer r e = absurd (go_say p answer (sym e))
lock_says false true p q answer r e = absurd (go_say q answer (sym e))
lock_says false false p q answer r e = say_same answer r e

-- no stage of a table answers as it goes on
goes_on_says : (x : Ctx) (v : Given) (group : Group) (front back : List (List ℕ)) (o : Option ℕ) (answer : Answer) → GoesOn x v.geometry v.op group front back o (Say answer) → ⊥
goes_on_says x v group front back None answer w = go_say (Writes group w.0) answer (sym w.2)
goes_on_says x v group front back (Some s) answer w = go_say (Reads group (reading_of x (subject v.op) group s) front) answer (sym w)

after_says : (x : Ctx) (v : Given) (group : Group) (front stripe : List (List ℕ)) (t : Bool) (answer : Answer) → AfterRead t x v.geometry v.op group front stripe (Say answer) → ⊥
after_says x v group front stripe true answer w = goes_on_says x v group stripe [] (second_of v.geometry v.op group) answer w
after_says x v group front stripe false answer w = goes_on_says x v group front stripe None answer w

earned : (x : Ctx) (given : Given) (p : WriteStage) (answer : Answer) (c : Account) (f : Asks) (d e : Account) → IsIn x given c → DuringWrite x p c f → IsRound (subject given.op) c f d → IsIdle d
    → (write_table x).follows p d (Say answer) → IsReleased (subject given.op) d e → IsEarned e given.op answer
earned x given p answer c f d e a l r idle follows u = go p l.1 follows
  where
    is : IsWrite given.op
    is = subst (λ (v : Given). IsWrite v.op) a.given_is l.0.0

    dg : d.given ≡ given
    dg = r.given ∙ a.given_is

    rd : IsRound (subject d.given.op) c f d
    rd = subst (λ (v : Given). IsRound (subject v.op) c f d) (sym dg) r

    tells : (group : Group) → IsPosted d (subject d.given.op) → answer ≡ says_size d group → IsEarned e given.op answer
    tells group q w =
        let posted : IsPosted e (subject given.op) = posted_released (subject given.op) d e u (subst (λ (v : Given). IsPosted d (subject v.op)) dg q) in
        subst (λ (z : Answer). IsEarned e given.op z) (sym w) (of_write (λ (o : Op). IsPosted e (subject o) → IsEarned e o (says_size d group)) given.op is (λ g off bytes h some. h) posted)

    fails : (phase : Phase) (most : ℕ) → answer ≡ NoQuorum phase most → IsEarned e given.op answer
    fails phase most w = subst (λ (z : Answer). IsEarned e given.op z) (sym w) (no_quorum e given.op phase most is)

    at_query : (grouped : Grouped) → WriteJudges d grouped (Say answer) → IsEarned e given.op answer
    at_query (Found group) w = judged_say e group.head.kind given.op group answer is (w ∙ ap (λ (v : Given). judged group.head.kind v.op group) dg)
    at_query (Gone bricks) w = subst (λ (z : Answer). IsEarned e given.op z) (sym (say_same answer NoSuch w)) (of_write (λ (o : Op). IsEarned e o NoSuch) given.op is (λ g off bytes. tt))
    at_query (Fewer most) w = fails QueryPhase most (say_same answer (NoQuorum QueryPhase most) w)

    go : (s : WriteStage) → InWrite x s c f → (write_table x).follows s d (Say answer) → IsEarned e given.op answer
    go (Opens (Lock brick)) k w =
        let g = subject d.given.op in
        fails LockPhase (count_locks d g) (lock_says (nat_lt (brick + 1) (bricks_of d.given)) (nat_le (quorum_of d.given) (count_locks d g)) (Opens (Lock (brick + 1))) (Opens Query) answer (NoQuorum LockPhase (count_locks d g)) w)
    go (Opens Query) k w = at_query w.0 w.2
    go (Votes (Pre group)) k w = ⊎_elim
        (λ v. fails PrePhase (count_serving d group) (say_same answer (NoQuorum PrePhase (count_serving d group)) v.1))
        (λ v. absurd (goes_on_says x d.given group [] [] (first_of d.given.geometry d.given.op group) answer v.1)) w
    go (Votes (Post group)) k w = ⊎_elim
        (λ v. fails PostPhase (count_serving d group) (say_same answer (NoQuorum PostPhase (count_serving d group)) v.1))
        (λ v. tells group (is_posted group c f d k (sym r.given) rd idle v.0) (refused (nat_le (bricks_of d.given) (count_serving d group)) (Votes (Clear group)) answer (says_size d group) v.1)) w
    go (Votes (Clear group)) k w = tells group (posted_over group c f d k (sym r.given) rd idle) (say_same answer (says_size d group) w)
    go (Reads group reading front) k w =
        let most : ℕ = count_gave reading (places_of d (subject d.given.op)) (replied d (subject d.given.op)) in
        ⊎_elim
        (λ v. fails ReadPhase (count_gave reading (places_of d (subject d.given.op)) (replied d (subject d.given.op))) (say_same answer (NoQuorum ReadPhase (count_gave reading (places_of d (subject d.given.op)) (replied d (subject d.given.op)))) v.1))
        (λ v. absurd (after_says x d.given group front v.1 (reading.first == first_at d.given) answer v.3))
        w
    go (Writes group lists) k w = ⊎_elim
        (λ v. fails WritePhase (count_serving d group) (say_same answer (NoQuorum WritePhase (count_serving d group)) v.1))
        (λ v. absurd (go_say (Votes (Post group)) answer (sym v.1))) w

again : (x : Ctx) (given : Given) (p : WriteStage) (c : Account) (f : Asks) (d : Account) → reads_again p ≡ true → IsIn x given c → DuringWrite x p c f → IsRound (subject given.op) c f d
    → DuringWrite x p c (joined f (asks_of p d)) × IsMore (subject given.op) c f (asks_of p d)
again x given (Reads group reading front) c f d t a l r =
    let k : IsReadingOf x given c group reading front f = subst (λ (v : Given). IsReadingOf x v c group reading front f) a.given_is l.1 in
    start_asks x (subject given.op) group reading d k.one.reading_is (λ (h : Asks). DuringWrite x (Reads group reading front) c (joined f h) × IsMore (subject given.op) c f h)
    ((l.0, subst (λ (v : Given). IsReadingOf x v c group reading front (joined f (reading_asks reading d))) (sym a.given_is) (record { one = between.reads_again x given group reading c f d a k.one r; some = k.some; placed = k.placed })), (law x given reading c f d a k.one.asks r).1)
again x given (Opens stage) c f d t a l r = absurd (differ (sym t))
again x given (Votes stage) c f d t a l r = absurd (differ (sym t))
again x given (Writes group lists) c f d t a l r = absurd (differ (sym t))

on : (x : Ctx) (given : Given) (p : WriteStage) (c : Account) (f : Asks) → IsIn x given c → DuringWrite x p c f → IsOn (subject given.op) (bricks_of given) (c.on (subject given.op)).queried f
on x given (Opens stage) c f a l = opening_on x given Exclusive stage c f a l.1.0
on x given (Votes (Pre group)) c f a l = ballot_on x given (Pre group) c f a l.1.0
on x given (Votes (Post group)) c f a l = ballot_on x given (Post group) c f a l.1
on x given (Votes (Clear group)) c f a l = ballot_on x given (Clear group) c f a l.1
on x given (Reads group reading front) c f a l =
    let k : IsReadingOf x given c group reading front f = subst (λ (v : Given). IsReadingOf x v c group reading front f) a.given_is l.1 in
    fetch_on (subject given.op) (bricks_of given) (c.on (subject given.op)).queried c f (reading_fetches (subject given.op) (bricks_of given) reading c f k.one.asks)
on x given (Writes group lists) c f a l =
    writing_on given group (off_of given.op) (data_of given.op) group.head.size lists c f (c.on (subject given.op)).queried (subst (λ (v : Given). IsSized v.op) a.given_is l.0).1 (subst (λ (v : Given). IsWritingOf v c group lists f) a.given_is l.1).1

-- what the commit of a write is made of is told by what is over
steady : (v w : Given) (g : ℕ) (head : Head) (c d : Account) (rs : List Request) → c.given ≡ v → d.given ≡ v → IsWrite v.op → IsAllOf c g head v.op rs → IsAllOf d g head v.op rs
steady v w g head c d rs cg dg i k =
    of_write (λ (o : Op). IsAllOf c g head o rs → IsAllOf d g head o rs) v.op i
    (λ h off bytes m. (m.0, m.1, subst (λ (z : Given). Rattle.ec_conduct.specs.Changes.are (Rattle.ec_conduct.specs.Changes.write_tests (quorum_of z) off (length bytes)) rs ≡ true) (cg ∙ sym dg) m.2)) k

may : (x : Ctx) (given : Given) (p : WriteStage) (c : Account) (f h : Asks) (d : Account) → IsIn x given c → DuringWrite x p c f → IsSent (subject given.op) c h d
    → ((y : ℕ) (r : Request) → h y ≡ Some r → f y ≡ Some r) → (b : ℕ) (r : Request) → f b ≡ Some r → h b ≡ None → MaySend d b r
may x given p c f h d a l s part b r e n = go p l.1
  where
    holds : (g : ℕ) (head : Head) (z : Account) (rs : List Request) → IsReleased g c z → IsAllOf c g head c.given.op rs → IsAllOf z g head z.given.op rs
    holds g head z rs k w = subst (λ (v : Given). IsAllOf z g head v.op rs) (sym k.given) (steady c.given c.given g head c z rs refl k.given l.0.0 w)

    dg : d.given ≡ given
    dg = s.given ∙ a.given_is

    go : (o : WriteStage) → InWrite x o c f → MaySend d b r
    go (Opens stage) k = opening_may x given Exclusive stage c f h d a k.0 s part b r e n
    go (Votes (Pre group)) k = ballot_may c holds x given (Pre group) f h d a k.0 s part b r e n
    go (Votes (Post group)) k = ballot_may c holds x given (Post group) f h d a k s part b r e n
    go (Votes (Clear group)) k = ballot_may c holds x given (Clear group) f h d a k s part b r e n
    go (Reads group reading front) k =
        let z : IsReadingOf x given c group reading front f = subst (λ (v : Given). IsReadingOf x v c group reading front f) a.given_is k in
        fetch_may x given c f h d a (reading_fetches (subject given.op) (bricks_of given) reading c f z.one.asks) s b r e n
    go (Writes group lists) k =
        write_may x group (off_of d.given.op) (data_of d.given.op) group.head.size lists c f h d (subst (λ (v : Given). IsIn x v c) (sym dg) a) (subst (λ (v : Given). IsWritingOf v c group lists f) (sym s.given) k).1
        (write_fills d.given.op (subst (λ (v : Given). IsSized v.op) (sym s.given) l.0).0 group.head.size) (subst (λ (v : Given). IsSent (subject v.op) c h d) (sym dg) s) part b r e n

pub write_sound : (x : Ctx) → IsSound x (write_table x) (DuringWrite x)
write_sound x = record {
  begins = begins x;
  earned_first = earned_first x;
  goes = goes x;
  earned = earned x;
  again = again x;
  on = on x;
  may = may x;
}
