-- How a write goes on, and what it says in the end.
use Rattle.std.proofs.Common.{◌≡◌, inl, inr, ℕ, ◌<◌, ◌≤◌, ◌==◌, nat_lt, Bool, false, true, cond, refl, sym, ◌∙◌, ap, subst, arith, List, [], length, Option, Some, None, eqb-true, eq-eqb}
use Rattle.std.proofs.lemmas.Bool.{cases_Bool}
use Rattle.std.proofs.lemmas.Bool.Decides.{nat_tests}
use Rattle.ec_answers.specs.declared.grouped.Group.{Group}
use Rattle.ec_answers.specs.declared.grouped.Grouped.{Grouped}
use Rattle.ec_answers.specs.declared.grouped.Grouped.TheVariants.{Group as Found, Gone, Fewer}
use Rattle.ec_attr.specs.declared.geometry.Geometry.{Geometry}
use Rattle.ec_attr.specs.declared.kind.Kind.{Kind}
use Rattle.ec_attr.specs.declared.kind.Kind.TheVariants.{File, Dir}
use Rattle.ec_attr.specs.declared.kind.LockKind.TheVariants.{Exclusive}
use Rattle.ec_conduct.specs.Account.{Account, at}
use Rattle.ec_conduct.specs.Done.{is_query, is_write, tried}
use Rattle.ec_conduct.specs.Given.{Given, bricks_of, quorum, quorum_of}
use Rattle.ec_conduct.specs.Phases.{is_read_from, is_via, via_of}
use Rattle.ec_txn.specs.Ballot.{is_within}
use Rattle.ec_txn.specs.Opening.{InOpening}
use Rattle.ec_txn.specs.ReadPhase.{places_of, reading_asks}
use Rattle.ec_txn.specs.Replies.{replied}
use Rattle.ec_txn.specs.Rounds.{Asks, IsIdle, IsRound, IsUnlocked, subject, where_so}
use Rattle.ec_txn.specs.Tables.{IsIn, asked_again}
use Rattle.ec_txn.specs.declared.ballot.Ballot.TheVariants.{Pre}
use Rattle.ec_txn.specs.declared.ctx.Ctx.{Ctx}
use Rattle.ec_txn.specs.declared.opening.Opening.TheVariants.{Query}
use Rattle.ec_txn.specs.declared.reading.Reading.{Reading}
use Rattle.ec_txn.specs.declared.stage.Next.{Next}
use Rattle.ec_txn.specs.declared.stage.Next.TheVariants.{Go, Say}
use Rattle.ec_wire.specs.declared.answer.Answer.{Answer}
use Rattle.ec_wire.specs.declared.answer.Answer.TheVariants.{IsDir, Limit, NoQuorum, NoSuch, Size}
use Rattle.ec_wire.specs.declared.op.Op.{Op}
use Rattle.ec_wire.specs.declared.op.Op.TheVariants.{Write}
use Rattle.ec_wire.specs.declared.phase.Phase.TheVariants.{Pre as PrePhase, Query as QueryPhase, Read as ReadPhase}
use Rattle.ec_wire.specs.declared.reply.Reply.{Reply}
use Rattle.ec_wire.specs.declared.request.Request.{Request}
use Rattle.ec_wire.specs.declared.request.Request.TheVariants.{WriteChunks}
use Rattle.ec_write.specs.During.{InWrite}
use Rattle.ec_write.specs.Range.{data_of, first_stripe, off_of}
use Rattle.ec_write.specs.Stripes.{count_gave, has_chunk}
use Rattle.ec_write.specs.Write.{AfterRead, Codes, GoesOn, IsWrite, ReadEnds, WriteFollows, WriteJudges, asks_of, judged as judged_by, read_asks, reading_of, second_of, write_table}
use Rattle.ec_write.specs.declared.stage.WriteStage.{WriteStage}
use Rattle.ec_write.specs.declared.stage.WriteStage.TheVariants.{Votes, Reads, Writes}
use Rattle.ec_law_causes.specs.Causes.{Else, Opens, PassesLimit, WritesNothing, write_causes}
use Rattle.ec_law_causes.specs.Counted.{FallsShort, LacksChunks, Windows, gives, number_read}
use Rattle.ec_law_causes.proofs.Along.{NonePast, unlocked, windows}
use Rattle.ec_law_causes.proofs.BallotSteps.{no_short, past_limit, pre_stays}
use Rattle.ec_law_causes.proofs.Lacking.{given_count, lacking_members, lacks, read_stays}
use Rattle.ec_law_causes.proofs.Members.{HasMembers, members_begin, members_more, members_unlocked}
use Rattle.ec_law_causes.proofs.Openings.{HereOpening}
use Rattle.ec_law_causes.proofs.OpeningSteps.{go_same, go_say, querying, say_go, say_same}
use Rattle.ec_law_causes.proofs.Queried.{HasGroup, JudgedIn, opens_group}
use Rattle.ec_law_causes.proofs.Ranks.{OnlyLate, rank, untried}
use Rattle.ec_law_causes.proofs.Reading.{only_read}
use Rattle.ec_law_causes.proofs.Rounds.{tried_same}
use Rattle.ec_law_causes.proofs.Stat.{not_dir}
use Rattle.ec_write.specs.During.{IsReadingOf}
use Rattle.ec_law_causes.proofs.Write.{FirstOk, HasRead, HereReads, HereVotes, HereWrite, IsPlaced, Later, LastOk, PreOk, Short, Writable, apart, asked_in, first_at, last_at, many, opened_causes, read_first, read_last, reads_begin, reads_stay, starts_go, starts_say, to_write, wants_first, wants_last, was_read, writes_stay}

-- what follows the Queries

judged_go : (kind : Kind) (op : Op) (group : Group) (q : WriteStage) → Go q ≡ judged_by kind op group → (kind ≡ File) × (0 < length (data_of op)) × (is_within group.head ≡ true) × (q ≡ Votes (Pre group))
judged_go Dir op group q e = absurd (go_say q IsDir e)
judged_go File op group q e = by (nat_lt 0 (length (data_of op))) (is_within group.head) refl refl e
  where
    by : (a b : Bool) → nat_lt 0 (length (data_of op)) ≡ a → is_within group.head ≡ b → Go q ≡ cond a (cond b (Go (Votes (Pre group))) (Say (Limit group.head.version.content))) (Say (Size group.head.size))
        → (File ≡ File) × (0 < length (data_of op)) × (is_within group.head ≡ true) × (q ≡ Votes (Pre group))
    by true true s t e = (refl, (let u = s in grind (arith, nat_tests)), t, go_same q (Votes (Pre group)) e)
    by true false s t e = absurd (go_say q (Limit group.head.version.content) e)
    by false b s t e = absurd (go_say q (Size group.head.size) e)

judged_say : (given : Given) (w : Windows) (group : Group) (answer : Answer) → HasGroup given w group → (kind : Kind) → group.head.kind ≡ kind → Say answer ≡ judged_by kind given.op group → Later given w answer
judged_say given w group answer h Dir k e = inl (group.head, h.head, k, say_same answer IsDir (Say answer) refl e)
judged_say given w group answer h File k e = inr (not_dir given w group.head IsDir h.head k, by (nat_lt 0 (many given)) (is_within group.head) refl refl e)
  where
    by : (a b : Bool) → nat_lt 0 (many given) ≡ a → is_within group.head ≡ b → Say answer ≡ cond a (cond b (Go (Votes (Pre group))) (Say (Limit group.head.version.content))) (Say (Size group.head.size))
        → Else (WritesNothing given.op given w) (Else (PassesLimit given w) (Else (FallsShort given w PrePhase) (Rattle.ec_law_causes.proofs.Write.AfterPre given w))) answer
    by true true s t e = absurd (say_go (Votes (Pre group)) answer e)
    by true false s t e = inr (λ other n. (let z = n.0 in let l : 0 < many given = (let u = s in grind (arith, nat_tests)) in omega (arith, z, l)), inl (subst (PassesLimit given w) (sym (say_same answer (Limit group.head.version.content) (Say answer) refl e)) (past_limit given w group h t)))
    by false b s t e = inl ((let u = s in grind (arith, nat_tests)), (group.head, h.head, say_same answer (Size group.head.size) (Say answer) refl e))

pub only_write : OnlyLate 5 is_write
only_write (WriteChunks g grant at chunks) e = omega arith
only_write r e = absurd (cc)

gives_write : (op : Op) → IsWrite op → (o : Option Reply) → gives op o ≡ has_chunk o
gives_write (Write g off bytes) is o = refl
gives_write op is o = absurd is

no_via : (op : Op) → IsWrite op → (y : ℕ) → is_via (via_of op) y ≡ true
no_via (Write g off bytes) is y = refl
no_via op is y = absurd is

module _ (x : Ctx) (given : Given) (c : Account) (f : Asks) (d : Account) (isin : IsIn x given c) (none : NonePast (subject given.op) (bricks_of given) d) (r : IsRound (subject given.op) c f d) (idle : IsIdle d) where
  dg : d.given ≡ given
  dg = r.given ∙ isin.given_is

  pub query_goes : (q : WriteStage) (e : Account) (grouped : Grouped) (later : Answer → Type 0) → Short given → HereOpening Exclusive given Query c f → InOpening Exclusive Query c f → JudgedIn given (windows given d) later grouped → WriteJudges d grouped (Go q)
      → IsUnlocked (subject given.op) d e → HereWrite x given q e (asks_of q d)
  query_goes q e (Found group) later short here l h is u =
      let w = judged_go group.head.kind given.op group q (subst (λ (v : Given). Go q ≡ judged_by group.head.kind v.op group) dg is) in
      let m = members_begin given Exclusive group c f d (querying Exclusive given c f d isin.given_is l here r idle none) here r idle h in
      subst (λ (z : WriteStage). HereWrite x given z e (asks_of z d)) (sym w.3) (members_unlocked given group 3 d e u (members_more given group 2 3 d (omega arith) m), record { short = short; file = w.0; some = w.1 })
  query_goes q e (Gone bricks) later short here l h is u = absurd (go_say q NoSuch is)
  query_goes q e (Fewer most) later short here l h is u = absurd (go_say q (NoQuorum QueryPhase most) is)

  pub query_says : (answer : Answer) (grouped : Grouped) → Short given → JudgedIn given (windows given d) (Later given (windows given d)) grouped → WriteJudges d grouped (Say answer) → write_causes given.op given (windows given d) answer
  query_says answer (Found group) short h is = opened_causes given (windows given d) answer short (opens_group given (windows given d) group (Later given (windows given d)) answer h (judged_say given (windows given d) group answer h group.head.kind refl (subst (λ (v : Given). Say answer ≡ judged_by group.head.kind v.op group) dg is)))
  query_says answer (Gone bricks) short h is = opened_causes given (windows given d) answer short (subst (Opens given (windows given d) (Later given (windows given d))) (sym (say_same answer NoSuch (Say answer) refl is)) h)
  query_says answer (Fewer most) short h is = opened_causes given (windows given d) answer short (subst (Opens given (windows given d) (Later given (windows given d))) (sym (say_same answer (NoQuorum QueryPhase most) (Say answer) refl is)) h)

  -- ## After the PreOps

  to_writes : (q : WriteStage) (e : Account) (group : Group) (geometry : Geometry) (op : Op) (front back : List (List ℕ)) → HasMembers given group 5 d → Writable given group → HasRead given group (windows given d) → Codes geometry op group front back (Go q)
      → IsUnlocked (subject given.op) d e → HereWrite x given q e (asks_of q d)
  to_writes q e group geometry op front back m k ok (lists, coded, is) u = subst (λ (z : WriteStage). HereWrite x given z e (asks_of z d)) (sym (go_same q (Writes group lists) is)) (members_unlocked given group 5 d e u m, k, unlocked given d e u (λ w. HasRead given group w) ok)

  to_reads : (q : WriteStage) (e : Account) (group : Group) (stripe : ℕ) (front : List (List ℕ)) → HasMembers given group 5 d → Writable given group → is_within group.head ≡ true → PreOk given (windows given d) → ((y : ℕ) → tried (is_read_from stripe) (windows given d y) ≡ false) → IsPlaced given group (windows given d) stripe
      → Go q ≡ Go (Reads group (reading_of x (subject given.op) group stripe) front) → IsUnlocked (subject given.op) d e → HereWrite x given q e (asks_of q d)
  to_reads q e group stripe front m k within pre unread placed is u = subst (λ (z : WriteStage). HereWrite x given z e (asks_of z d)) (sym (go_same q (Reads group (reading_of x (subject given.op) group stripe) front) is)) (reads_begin x given d e group stripe front dg m u k within pre unread placed)

  both_ways : (t : Bool) → t ≡ true → t ≡ false → ⊥
  both_ways t e f = absurd (let v = sym e ∙ f in cc)

  pub pre_next : (q : WriteStage) (e : Account) (group : Group) → HasMembers given group 4 d → Writable given group → is_within group.head ≡ true → PreOk given (windows given d) → (a b : Bool) → wants_first given group.head ≡ a → wants_last given group.head ≡ b
      → GoesOn x given.geometry given.op group [] [] (cond a (Some (first_at given)) (cond b (Some (last_at given)) None)) (Go q) → IsUnlocked (subject given.op) d e → HereWrite x given q e (asks_of q d)
  pre_next q e group m k within pre true b s t is u = to_reads q e group (first_at given) [] (members_more given group 4 5 d (omega arith) m) k within pre (λ y. untried 4 (is_read_from (first_at given)) (windows given d y) (only_read (first_at given)) (m.below y))
      (inl (refl, s, λ wants y. untried 4 (is_read_from (last_at given)) (windows given d y) (only_read (last_at given)) (m.below y))) is u
  pre_next q e group m k within pre false true s t is u = to_reads q e group (last_at given) [] (members_more given group 4 5 d (omega arith) m) k within pre (λ y. untried 4 (is_read_from (last_at given)) (windows given d y) (only_read (last_at given)) (m.below y))
      (inr (refl, t, λ wants. absurd (both_ways (wants_first given group.head) wants s))) is u
  pre_next q e group m k within pre false false s t is u = to_writes q e group given.geometry given.op [] [] (members_more given group 4 5 d (omega arith) m) k (record {
    within = within;
    pre = pre;
    first = λ wants. absurd (both_ways (wants_first given group.head) wants s);
    last = λ wants. absurd (both_ways (wants_last given group.head) wants t);
  }) is u

  -- ## After a stripe was read

  module _ (group : Group) (reading : Reading) (front : List (List ℕ)) (here : HereReads given group reading c f) (l : InWrite x (Reads group reading front) c f) (is_op : IsWrite given.op) where
    during : IsReadingOf x given c group reading front f
    during = subst (λ (v : Given). IsReadingOf x v c group reading front f) isin.given_is l

    among : reading.among ≡ group.bricks
    among = ap (λ (z : Reading). z.among) during.one.reading_is

    members : HasMembers given group 5 d
    members = lacking_members given group 5 reading c f d isin.given_is none here.one during.one.asks r idle among (omega arith) (no_via given.op is_op) (gives_write given.op is_op)

    counted : count_gave reading (places_of d (subject given.op)) (replied d (subject given.op)) ≡ number_read given (windows given d) reading.first
    counted = given_count given group 5 reading c f d isin.given_is none here.one during.one.asks r idle among (omega arith) (no_via given.op is_op) (gives_write given.op is_op)

    pre_now : PreOk given (windows given d)
    pre_now = pre_stays given group c f d isin.given_is r idle (λ y q t. (let w = (during.one.asks.asks y q t).4 in let v : rank q ≡ 4 = ap rank w in omega (arith, v))) here.pre

    other_reads : (stripe : ℕ) → (reading.first ≡ stripe → ⊥) → (y : ℕ) (q : Request) → f y ≡ Some q → (is_query q ≡ false) × (is_read_from stripe q ≡ false)
    other_reads stripe ne y q t =
        let w = (during.one.asks.asks y q t).4 in
        let n : (reading.first == stripe) ≡ false = elim (cases_Bool (reading.first == stripe)) [ inl u ↦ absurd (ne (eqb-true reading.first stripe u)) | inr u ↦ u ] in
        (ap is_query w, ap (is_read_from stripe) w ∙ n)

    read_end : (next : Next WriteStage) → WriteFollows x (Reads group reading front) d next → ReadEnds x given.geometry given.op group reading front (places_of d (subject given.op)) (replied d (subject given.op)) next
    read_end next follows = subst (λ (v : Given). ReadEnds x v.geometry v.op group reading front (places_of d (subject v.op)) (replied d (subject v.op)) next) dg follows

    pub reads_go : (q : WriteStage) (e : Account) → WriteFollows x (Reads group reading front) d (Go q) → IsUnlocked (subject given.op) d e → HereWrite x given q e (asks_of q d)
    reads_go q e follows u = by (read_end (Go q) follows)
      where
        second : (stripe : List (List ℕ)) (b : Bool) → reading.first ≡ first_at given → wants_first given group.head ≡ true → (wants_last given group.head ≡ true → (y : ℕ) → tried (is_read_from (last_at given)) (windows given c y) ≡ false) → wants_last given group.head ≡ b → quorum_of given ≤ number_read given (windows given d) (first_at given)
            → GoesOn x given.geometry given.op group stripe [] (cond b (Some (last_at given)) None) (Go q) → HereWrite x given q e (asks_of q d)
        second stripe true at wants unread s enough is =
            let ne : reading.first ≡ last_at given → ⊥ = λ (z : reading.first ≡ last_at given). apart given group.head s (sym at ∙ z) in
            let same = tried_same (subject given.op) c f d r idle (is_read_from (last_at given)) (λ y q t. (other_reads (last_at given) ne y q t).1) in
            to_reads q e group (last_at given) stripe members here.writable here.within pre_now (λ y. ap (λ (g : ℕ → Bool). g y) same ∙ unread s y) (inr (refl, s, λ wants. enough)) is u
        second stripe false at wants unread s enough is = to_writes q e group given.geometry given.op stripe [] members here.writable (record { within = here.within; pre = pre_now; first = λ w. enough; last = λ w. absurd (both_ways (wants_last given group.head) w s) }) is u

        after_read : (stripe : List (List ℕ)) → IsPlaced given group (windows given c) reading.first → quorum_of given ≤ number_read given (windows given d) reading.first
            → AfterRead (reading.first == first_stripe (quorum given.geometry) (off_of given.op)) x given.geometry given.op group front stripe (Go q) → HereWrite x given q e (asks_of q d)
        after_read stripe (inl (at, wants, unread)) enough is =
            second stripe (wants_last given group.head) at wants unread refl (subst (λ (s : ℕ). quorum_of given ≤ number_read given (windows given d) s) at enough)
            (subst (λ (t : Bool). AfterRead t x given.geometry given.op group front stripe (Go q)) (eq-eqb reading.first (first_at given) at) is)
        after_read stripe (inr (at, wants, ok)) enough is =
            let ne : reading.first ≡ first_at given → ⊥ = λ (z : reading.first ≡ first_at given). apart given group.head wants (sym z ∙ at) in
            let n : (reading.first == first_stripe (quorum given.geometry) (off_of given.op)) ≡ false = elim (cases_Bool (reading.first == first_at given)) [ inl t ↦ absurd (ne (eqb-true reading.first (first_at given) t)) | inr t ↦ t ] in
            to_writes q e group given.geometry given.op front stripe members here.writable (record {
              within = here.within;
              pre = pre_now;
              first = λ w. subst (λ (m : ℕ). quorum_of given ≤ m) (sym (read_stays given (first_at given) c f d r idle (other_reads (first_at given) ne))) (ok w);
              last = λ w. subst (λ (s : ℕ). quorum_of given ≤ number_read given (windows given d) s) at enough;
            }) (subst (λ (t : Bool). AfterRead t x given.geometry given.op group front stripe (Go q)) n is) u

        by : ReadEnds x given.geometry given.op group reading front (places_of d (subject given.op)) (replied d (subject given.op)) (Go q) → HereWrite x given q e (asks_of q d)
        by (inl (few, is)) = absurd (go_say q (NoQuorum ReadPhase (count_gave reading (places_of d (subject given.op)) (replied d (subject given.op)))) is)
        by (inr (enough, stripe, decoded, is)) = after_read stripe here.placed (subst (λ (n : ℕ). quorum_of given ≤ n) counted enough) is

    pub reads_say : (answer : Answer) → asked_again (write_table x) (Reads group reading front) d ≡ [] → WriteFollows x (Reads group reading front) d (Say answer) → write_causes given.op given (windows given d) answer
    reads_say answer quiet follows = by (read_end (Say answer) follows)
      where
        nobody : (y : ℕ) → y < bricks_of given → reading_asks reading d y ≡ None
        nobody y less =
            let w : cond (nat_lt reading.start 31) (reading_asks reading d y) None ≡ None = Rattle.ec_law_causes.proofs.Walking.quiet_round (bricks_of d.given) (where_so true (read_asks reading d)) quiet y (subst (λ (v : Given). y < bricks_of v) (sym dg) less) in
            let s = here.one.start in
            let t : nat_lt reading.start 31 ≡ true = grind (arith, nat_tests) in
            rw t at w

        place : IsPlaced given group (windows given c) reading.first → LacksChunks given (windows given d) reading.first answer → Rattle.ec_law_causes.proofs.Write.AfterPre given (windows given d) answer
        place (inl (at, wants, unread)) lack = inl (group.head, members.group_is.head, wants, subst (λ (s : ℕ). LacksChunks given (windows given d) s answer) at lack)
        place (inr (at, wants, ok)) lack =
            let ne : reading.first ≡ first_at given → ⊥ = λ (z : reading.first ≡ first_at given). apart given group.head wants (sym z ∙ at) in
            inr (
              read_first given (windows given d) group members.group_is (λ w. subst (λ (m : ℕ). quorum_of given ≤ m) (sym (read_stays given (first_at given) c f d r idle (other_reads (first_at given) ne))) (ok w)),
              inl (group.head, members.group_is.head, wants, subst (λ (s : ℕ). LacksChunks given (windows given d) s answer) at lack),
            )

        not_writes : (front stripe : List (List ℕ)) (o : Option ℕ) → GoesOn x given.geometry given.op group front stripe o (Say answer) → ⊥
        not_writes front stripe None (lists, coded, is) = say_go (Writes group lists) answer is
        not_writes front stripe (Some s) is = say_go (Reads group (reading_of x (subject given.op) group s) front) answer is

        not_after : (t : Bool) (stripe : List (List ℕ)) → AfterRead t x given.geometry given.op group front stripe (Say answer) → ⊥
        not_after true stripe is = not_writes stripe [] (second_of given.geometry given.op group) is
        not_after false stripe is = not_writes front stripe None is

        by : ReadEnds x given.geometry given.op group reading front (places_of d (subject given.op)) (replied d (subject given.op)) (Say answer) → write_causes given.op given (windows given d) answer
        by (inl (few, is)) =
            let lack = lacks given group 5 reading c f d isin.given_is none here.one during.one.asks r idle among (omega arith) (no_via given.op is_op) (gives_write given.op is_op) dg nobody few in
            let same = say_same answer (NoQuorum ReadPhase (count_gave reading (places_of d (subject given.op)) (replied d (subject given.op)))) (Say answer) refl is in
            to_write given (windows given d) group answer members.group_is here.writable here.within (inr (no_short given (windows given d) PrePhase pre_now, place here.placed (subst (LacksChunks given (windows given d) reading.first) (sym same) lack)))
        by (inr (enough, stripe, decoded, is)) = absurd (not_after (reading.first == first_stripe (quorum given.geometry) (off_of given.op)) stripe is)
