-- The causes of the answers of a truncate.
use Rattle.std.proofs.Common.{◌≡◌, inl, inr, ℕ, ◌^◌, ◌<◌, ◌≤◌, nat_le, nat_lt, Bool, false, true, cond, refl, sym, ◌∙◌, ap, subst, arith, List, [], Option, Some, None}
use Rattle.std.proofs.lemmas.Bool.Decides.{nat_tests}
use Rattle.ec_answers.specs.declared.grouped.Group.{Group}
use Rattle.ec_answers.specs.declared.grouped.Grouped.{Grouped}
use Rattle.ec_answers.specs.declared.grouped.Grouped.TheVariants.{Group as Found, Gone, Fewer}
use Rattle.ec_attr.specs.declared.head.Head.{Head}
use Rattle.ec_attr.specs.declared.kind.Kind.{Kind}
use Rattle.ec_attr.specs.declared.kind.Kind.TheVariants.{File, Dir}
use Rattle.ec_attr.specs.declared.kind.LockKind.TheVariants.{Exclusive}
use Rattle.ec_conduct.specs.Account.{Account, at}
use Rattle.ec_conduct.specs.Done.{is_write, tried}
use Rattle.ec_conduct.specs.Given.{Given, bricks_of, quorum_of}
use Rattle.ec_conduct.specs.Opened.{opened}
use Rattle.ec_conduct.specs.Phases.{is_read_from, is_via, via_of}
use Rattle.ec_txn.specs.Ballot.{count_serving, is_within, serving}
use Rattle.ec_txn.specs.Opening.{InOpening}
use Rattle.ec_txn.specs.ReadPhase.{places_of, reading_asks}
use Rattle.ec_txn.specs.Replies.{replied}
use Rattle.ec_txn.specs.Rounds.{Asks, IsIdle, IsRound, IsUnlocked, joined, subject, where_so}
use Rattle.ec_txn.specs.Tables.{IsIn, asked_again}
use Rattle.ec_txn.specs.declared.ballot.Ballot.{Ballot}
use Rattle.ec_txn.specs.declared.ballot.Ballot.TheVariants.{Pre, Post, Clear}
use Rattle.ec_txn.specs.declared.ctx.Ctx.{Ctx}
use Rattle.ec_txn.specs.declared.opening.Opening.TheVariants.{Lock as Locking, Query}
use Rattle.ec_txn.specs.declared.reading.Reading.{Reading}
use Rattle.ec_txn.specs.declared.stage.Next.{Next}
use Rattle.ec_txn.specs.declared.stage.Next.TheVariants.{Go, Say}
use Rattle.ec_wire.specs.declared.answer.Answer.{Answer}
use Rattle.ec_wire.specs.declared.answer.Answer.TheVariants.{IsDir, Limit, NoQuorum, NoSuch, TooBig}
use Rattle.ec_wire.specs.declared.op.Op.{Op}
use Rattle.ec_wire.specs.declared.phase.Phase.TheVariants.{Pre as PrePhase, Post as PostPhase, Query as QueryPhase, Read as ReadPhase, Write as WritePhase}
use Rattle.ec_wire.specs.declared.reply.Reply.{Reply}
use Rattle.ec_wire.specs.declared.request.Request.{Request}
use Rattle.ec_write.specs.Stripes.{count_gave, has_chunk}
use Rattle.ec_law_causes.specs.Counted.{FallsShort, LacksChunks, Windows, gives, number, number_read}
use Rattle.ec_law_causes.proofs.Along.{IsKept, NonePast, Tells, unlocked, windows}
use Rattle.ec_law_causes.proofs.BallotSteps.{clear_late, clear_members, no_short, past_limit, post_ends, post_late, post_members, post_stays, pre_ends, pre_members, pre_stays, within_limit}
use Rattle.ec_law_causes.proofs.Lacking.{given_count, lacking_members, lacks, late_read, read_stays}
use Rattle.ec_law_causes.proofs.Members.{AsksMembers, HasMembers, PhaseOver, done_stays, ends, members_begin, members_more, members_over, members_unlocked}
use Rattle.ec_law_causes.proofs.Openings.{HereOpening, opening_here}
use Rattle.ec_law_causes.proofs.OpeningSteps.{go_same, go_say, lock_goes, lock_says, queried, querying, say_go, say_same}
use Rattle.ec_law_causes.proofs.Queried.{HasGroup, JudgedIn, judged, opens_group}
use Rattle.ec_law_causes.proofs.Ranks.{OnlyLate, late_query, rank, untried}
use Rattle.ec_law_causes.proofs.Reading.{HereReading, here_joined, only_read}
use Rattle.ec_law_causes.proofs.Stat.{not_dir, one_head}
use Rattle.ec_txn.proofs.BallotSends.{version_in}
use Rattle.ec_conduct.specs.Done.{is_trim}
use Rattle.ec_wire.specs.declared.op.Op.TheVariants.{Truncate}
use Rattle.ec_wire.specs.declared.phase.Phase.TheVariants.{Trim as TrimPhase}
use Rattle.ec_wire.specs.declared.request.Request.TheVariants.{SetLength}
use Rattle.ec_write.specs.During.{IsChanging}
use Rattle.ec_write.specs.DuringTruncate.{DuringTruncate, InTruncate, IsCutting, IsTailRead, IsTailWritten}
use Rattle.ec_write.specs.Truncate.{IsTruncate, TailEnds, TruncateFollows, TruncateJudges, says_to, to_of, trims_from, truncate_asks, truncate_judged, truncate_reads, truncate_starts, truncate_table}
use Rattle.ec_write.specs.Write.{read_asks, reading_of}
use Rattle.ec_write.specs.declared.stage.TruncateStage.{TruncateStage}
use Rattle.ec_write.specs.declared.stage.TruncateStage.TheVariants.{Cuts, Opens as OpensAt, Reads, Votes, Writes}
use Rattle.ec_law_causes.specs.Causes.{Else, IsOfKind, IsSize, LacksTail, Opens, PassesLimit, TailFallsShort, cut_at, cuts_border, truncate_causes}
use Rattle.ec_law_causes.proofs.Write.{PreOk, asked_in, not_long, start_below, writes_stay}
use Rattle.ec_law_causes.proofs.WriteSteps.{only_write}
use Rattle.ec_law_causes.proofs.Walking.{quiet_round}

abbrev Short : Given → Type 0
Short given = nat_lt (2 ^ 40) (to_of given.op) ≡ false

abbrev inside : Given → Group → Type 0
inside given group = cuts_border given.op given group.head ≡ false

abbrev TailOk : Given → Group → Windows → Type 0
TailOk given group w = quorum_of given ≤ number_read given w (cut_at given.op given group.head)

pub record Cuttable (given : Given) (group : Group) : Type 0 where
  pub short : Short given
  pub file : group.head.kind ≡ File

-- The PreOps were done by a quorum, and where the cut is within a stripe, that was read and written by one.
pub record HasTail (given : Given) (group : Group) (w : Windows) : Type 0 where
  pub within : is_within group.head ≡ true
  pub pre : PreOk given w
  pub tail : inside given group → TailOk given group w
  pub wrote : inside given group → quorum_of given ≤ number given w WritePhase

pub record HereTail (given : Given) (group : Group) (reading : Reading) (c : Account) (f : Asks) : Type 0 where
  pub one : HereReading given group 5 reading c f
  pub cuttable : Cuttable given group
  pub within : is_within group.head ≡ true
  pub pre : PreOk given (windows given c)

abbrev HereVotes : Given → Ballot → Account → Type 0
HereVotes given (Pre group) c = HasMembers given group 3 c × Cuttable given group
HereVotes given (Post group) c = HasMembers given group 9 c × Cuttable given group × HasTail given group (windows given c) × (quorum_of given ≤ number given (windows given c) TrimPhase)
HereVotes given (Clear group) c = HasMembers given group 10 c × Cuttable given group × HasTail given group (windows given c) × (quorum_of given ≤ number given (windows given c) TrimPhase) × (quorum_of given ≤ number given (windows given c) PostPhase)

abbrev pub HereTruncate : Ctx → Given → TruncateStage → Account → Asks → Type 0
HereTruncate x given (OpensAt stage) c f = HereOpening Exclusive given stage c f × Short given
HereTruncate x given (Votes stage) c f = HereVotes given stage c
HereTruncate x given (Reads group reading) c f = HereTail given group reading c f
HereTruncate x given (Writes group lists) c f = HasMembers given group 5 c × Cuttable given group × (is_within group.head ≡ true) × PreOk given (windows given c) × inside given group × TailOk given group (windows given c)
HereTruncate x given (Cuts group) c f = HasMembers given group 7 c × Cuttable given group × HasTail given group (windows given c)

abbrev AfterPre : Given → Windows → Answer → Type 0
AfterPre given w = Else (LacksTail given.op given w) (Else (TailFallsShort given.op given w) (Else (FallsShort given w TrimPhase) (Else (FallsShort given w PostPhase) IsSize)))

abbrev Later : Given → Windows → Answer → Type 0
Later given w = Else (IsOfKind Dir IsDir given w) (Else (PassesLimit given w) (Else (FallsShort given w PrePhase) (AfterPre given w)))

starts_go : (op : Op) (q : TruncateStage) → Go q ≡ truncate_starts op → (nat_lt (2 ^ 40) (to_of op) ≡ false) × (q ≡ OpensAt (Locking 0))
starts_go op q e = by (nat_lt (2 ^ 40) (to_of op)) refl e
  where
    by : (b : Bool) → nat_lt (2 ^ 40) (to_of op) ≡ b → Go q ≡ cond b (Say (TooBig (to_of op))) (Go (OpensAt (Locking 0))) → (nat_lt (2 ^ 40) (to_of op) ≡ false) × (q ≡ OpensAt (Locking 0))
    by true t e = absurd (go_say q (TooBig (to_of op)) e)
    by false t e = (t, go_same q (OpensAt (Locking 0)) e)

starts_say : (given : Given) (w : Windows) (answer : Answer) → Say answer ≡ truncate_starts given.op → truncate_causes given.op given w answer
starts_say given w answer e = by (nat_lt (2 ^ 40) (to_of given.op)) refl e
  where
    by : (b : Bool) → nat_lt (2 ^ 40) (to_of given.op) ≡ b → Say answer ≡ cond b (Say (TooBig (to_of given.op))) (Go (OpensAt (Locking 0))) → truncate_causes given.op given w answer
    by true t e = inl ((let u = t in grind (arith, nat_tests)), say_same answer (TooBig (to_of given.op)) (Say answer) refl e)
    by false t e = absurd (say_go (OpensAt (Locking 0)) answer e)

opened_causes : (given : Given) (w : Windows) (answer : Answer) → Short given → Opens given w (Later given w) answer → truncate_causes given.op given w answer
opened_causes given w answer short h = inr (λ other l. not_long (2 ^ 40) (to_of given.op) short l.0, h)

to_cut : (given : Given) (w : Windows) (group : Group) (answer : Answer) → HasGroup given w group → Cuttable given group → is_within group.head ≡ true → Else (FallsShort given w PrePhase) (AfterPre given w) answer → truncate_causes given.op given w answer
to_cut given w group answer h k within later = opened_causes given w answer k.short (opens_group given w group (Later given w) answer h (inr (not_dir given w group.head IsDir h.head k.file, inr (within_limit given w group h within, later))))

tail_read : (given : Given) (w : Windows) (group : Group) → HasGroup given w group → (inside given group → TailOk given group w) → (other : Answer) → LacksTail given.op given w other → ⊥
tail_read given w group h ok other (head, is, wants, lack) =
    let same = one_head given w head group.head is h.head in
    let enough = ok (ap (cuts_border given.op given) same ∙ wants) in
    let few : number_read given w (cut_at given.op given group.head) < quorum_of given = subst (λ (z : Head). number_read given w (cut_at given.op given z) < quorum_of given) (sym same) lack.few in
    absurd (omega (arith, enough, few))

tail_wrote : (given : Given) (w : Windows) (group : Group) → HasGroup given w group → (inside given group → quorum_of given ≤ number given w WritePhase) → (other : Answer) → TailFallsShort given.op given w other → ⊥
tail_wrote given w group h ok other (head, is, wants, short) =
    let same = one_head given w head group.head is h.head in
    no_short given w WritePhase (ok (ap (cuts_border given.op given) same ∙ wants)) other short

was_cut : (given : Given) (w : Windows) (group : Group) (answer : Answer) → HasGroup given w group → Cuttable given group → HasTail given group w → Else (FallsShort given w TrimPhase) (Else (FallsShort given w PostPhase) IsSize) answer → truncate_causes given.op given w answer
was_cut given w group answer h k ok later = to_cut given w group answer h k ok.within (inr (no_short given w PrePhase ok.pre, inr (tail_read given w group h ok.tail, inr (tail_wrote given w group h ok.wrote, later))))

-- ## What stays

tail_stays : (given : Given) (group : Group) (c : Account) (f : Asks) (d : Account) → c.given ≡ given → IsRound (subject given.op) c f d → IsIdle d → ((x : ℕ) (q : Request) → f x ≡ Some q → 7 ≤ rank q) → HasTail given group (windows given c) → HasTail given group (windows given d)
tail_stays given group c f d cg r idle late ok = record {
  within = ok.within;
  pre = pre_stays given group c f d cg r idle (λ y q t. let m = late y q t in omega (arith, m)) ok.pre;
  tail = λ wants. subst (λ (n : ℕ). quorum_of given ≤ n) (sym (read_stays given (cut_at given.op given group.head) c f d r idle (λ y q t. (let m = late y q t in late_query q (omega (arith, m)), let m = late y q t in late_read (cut_at given.op given group.head) q (omega (arith, m)))))) (ok.tail wants);
  wrote = λ wants. writes_stay given c f d r idle late (ok.wrote wants);
}

late_trim : (r : Request) → 8 ≤ rank r → is_trim r ≡ false
late_trim (SetLength g grant keep count) le = absurd (omega arith)
late_trim r le = refl

trims_stay : (given : Given) (c : Account) (f : Asks) (d : Account) → IsRound (subject given.op) c f d → IsIdle d → ((x : ℕ) (q : Request) → f x ≡ Some q → 8 ≤ rank q) → quorum_of given ≤ number given (windows given c) TrimPhase → quorum_of given ≤ number given (windows given d) TrimPhase
trims_stay given c f d r idle late le = subst (λ (m : ℕ). quorum_of given ≤ m) (sym (done_stays given is_trim c f d r idle (λ x q e. (let l = late x q e in late_query q (omega (arith, l)), late_trim q (late x q e))))) le

only_trim : OnlyLate 7 is_trim
only_trim (SetLength g grant keep count) e = omega arith
only_trim r e = absurd (cc)

judged_go : (kind : Kind) (group : Group) (q : TruncateStage) → Go q ≡ truncate_judged kind group → (kind ≡ File) × (is_within group.head ≡ true) × (q ≡ Votes (Pre group))
judged_go Dir group q e = absurd (go_say q IsDir e)
judged_go File group q e = by (is_within group.head) refl e
  where
    by : (b : Bool) → is_within group.head ≡ b → Go q ≡ cond b (Go (Votes (Pre group))) (Say (Limit group.head.version.content)) → (File ≡ File) × (is_within group.head ≡ true) × (q ≡ Votes (Pre group))
    by true t e = (refl, t, go_same q (Votes (Pre group)) e)
    by false t e = absurd (go_say q (Limit group.head.version.content) e)

judged_say : (given : Given) (w : Windows) (group : Group) (answer : Answer) → HasGroup given w group → (kind : Kind) → group.head.kind ≡ kind → Say answer ≡ truncate_judged kind group → Later given w answer
judged_say given w group answer h Dir k e = inl (group.head, h.head, k, say_same answer IsDir (Say answer) refl e)
judged_say given w group answer h File k e = inr (not_dir given w group.head IsDir h.head k, by (is_within group.head) refl e)
  where
    by : (b : Bool) → is_within group.head ≡ b → Say answer ≡ cond b (Go (Votes (Pre group))) (Say (Limit group.head.version.content)) → Else (PassesLimit given w) (Else (FallsShort given w PrePhase) (AfterPre given w)) answer
    by true t e = absurd (say_go (Votes (Pre group)) answer e)
    by false t e = inl (subst (PassesLimit given w) (sym (say_same answer (Limit group.head.version.content) (Say answer) refl e)) (past_limit given w group h t))

gives_cut : (op : Op) → IsTruncate op → (o : Option Reply) → gives op o ≡ has_chunk o
gives_cut (Truncate g to) is o = refl
gives_cut op is o = absurd is

no_via : (op : Op) → IsTruncate op → (y : ℕ) → is_via (via_of op) y ≡ true
no_via (Truncate g to) is y = refl
no_via op is y = absurd is

go_when : (t : Bool) (p q : TruncateStage) (answer : Answer) → Go q ≡ cond t (Go p) (Say answer) → q ≡ p
go_when true p q answer e = go_same q p e
go_when false p q answer e = absurd (go_say q answer e)

say_when : (t : Bool) (p : TruncateStage) (a answer : Answer) → Say a ≡ cond t (Go p) (Say answer) → a ≡ answer
say_when true p a answer e = absurd (say_go p a e)
say_when false p a answer e = say_same a answer (Say a) refl e

none_grant : (i : ℕ) → None ≡ Some i → ⊥
none_grant i e = cc

-- who is asked for a change
asks_by : (given : Given) (group : Group) (p : Request → Bool) (q : ℕ → ℕ → ℕ → Request) (c : Account) (f : Asks) → IsChanging given c group q f → ((y i v : ℕ) → p (q y i v) ≡ true) → ((y i v : ℕ) → 2 ≤ rank (q y i v)) → AsksMembers given group p c f
asks_by given group p q c f k passes late = record {
  asked = λ y i less t s. (q y i group.head.version.content, k.asked y i group.head.version.content less s (version_in group y t), passes y i group.head.version.content, late y i group.head.version.content);
  unasked = λ y s. nobody y s (f y) refl;
}
  where
    nobody : (y : ℕ) → serving (at c (subject given.op) y) ≡ None → (o : Option Request) → f y ≡ o → f y ≡ None
    nobody y s None e = e
    nobody y s (Some a) e = let w = k.asks y a e in absurd (none_grant w.1 (sym s ∙ w.3))

module _ (x : Ctx) (given : Given) (c : Account) (f : Asks) (d : Account) (isin : IsIn x given c) (none : NonePast (subject given.op) (bricks_of given) d) (r : IsRound (subject given.op) c f d) (idle : IsIdle d) where
  dg : d.given ≡ given
  dg = r.given ∙ isin.given_is

  query_goes : (q : TruncateStage) (e : Account) (grouped : Grouped) (later : Answer → Type 0) → Short given → HereOpening Exclusive given Query c f → InOpening Exclusive Query c f → JudgedIn given (windows given d) later grouped → TruncateJudges d grouped (Go q)
      → IsUnlocked (subject given.op) d e → HereTruncate x given q e (truncate_asks q d)
  query_goes q e (Found group) later short here l h is u =
      let w = judged_go group.head.kind group q is in
      let m = members_begin given Exclusive group c f d (querying Exclusive given c f d isin.given_is l here r idle none) here r idle h in
      subst (λ (z : TruncateStage). HereTruncate x given z e (truncate_asks z d)) (sym w.2) (members_unlocked given group 3 d e u (members_more given group 2 3 d (omega arith) m), record { short = short; file = w.0 })
  query_goes q e (Gone bricks) later short here l h is u = absurd (go_say q NoSuch is)
  query_goes q e (Fewer most) later short here l h is u = absurd (go_say q (NoQuorum QueryPhase most) is)

  query_says : (answer : Answer) (grouped : Grouped) → Short given → JudgedIn given (windows given d) (Later given (windows given d)) grouped → TruncateJudges d grouped (Say answer) → truncate_causes given.op given (windows given d) answer
  query_says answer (Found group) short h is = opened_causes given (windows given d) answer short (opens_group given (windows given d) group (Later given (windows given d)) answer h (judged_say given (windows given d) group answer h group.head.kind refl is))
  query_says answer (Gone bricks) short h is = opened_causes given (windows given d) answer short (subst (Opens given (windows given d) (Later given (windows given d))) (sym (say_same answer NoSuch (Say answer) refl is)) h)
  query_says answer (Fewer most) short h is = opened_causes given (windows given d) answer short (subst (Opens given (windows given d) (Later given (windows given d))) (sym (say_same answer (NoQuorum QueryPhase most) (Say answer) refl is)) h)

  both_ways : (t : Bool) → t ≡ true → t ≡ false → ⊥
  both_ways t e f = absurd (let v = sym e ∙ f in cc)

  pre_next : (q : TruncateStage) (e : Account) (group : Group) → HasMembers given group 4 d → Cuttable given group → is_within group.head ≡ true → PreOk given (windows given d) → (b : Bool) → cuts_border given.op given group.head ≡ b
      → Go q ≡ cond b (Go (Cuts group)) (Go (Reads group (reading_of x (subject given.op) group (cut_at given.op given group.head)))) → IsUnlocked (subject given.op) d e → HereTruncate x given q e (truncate_asks q d)
  pre_next q e group m k within pre true s is u = subst (λ (z : TruncateStage). HereTruncate x given z e (truncate_asks z d)) (sym (go_same q (Cuts group) is)) (
    members_unlocked given group 7 d e u (members_more given group 4 7 d (omega arith) m),
    k,
    unlocked given d e u (λ w. HasTail given group w) (record { within = within; pre = pre; tail = λ n. absurd (both_ways (cuts_border given.op given group.head) s n); wrote = λ n. absurd (both_ways (cuts_border given.op given group.head) s n) }),
  )
  pre_next q e group m k within pre false s is u =
      let reading = reading_of x (subject given.op) group (cut_at given.op given group.head) in
      subst (λ (z : TruncateStage). HereTruncate x given z e (truncate_asks z d)) (sym (go_same q (Reads group reading) is)) (record {
        one = record {
          members = members_unlocked given group 5 d e u (members_more given group 4 5 d (omega arith) m);
          unread = unlocked given d e u (λ w. (y : ℕ) → tried (is_read_from (cut_at given.op given group.head)) (w y) ≡ false) (λ y. untried 4 (is_read_from (cut_at given.op given group.head)) (windows given d y) (only_read (cut_at given.op given group.head)) (m.below y));
          among = λ y q t. asked_in (nat_lt reading.start 31) reading d y q t;
          start = start_below x.policy x.call (subject given.op) x.geometry.n (let w = x.geometry.least in omega arith) (let w = x.geometry.bricks in omega arith);
        };
        cuttable = k;
        within = within;
        pre = unlocked given d e u (λ w. PreOk given w) pre;
      })

  -- ## The stripe is read

  module _ (group : Group) (reading : Reading) (here : HereTail given group reading c f) (l : InTruncate x (Reads group reading) c f) (is_op : IsTruncate given.op) where
    during : IsTailRead x given c group reading f
    during = subst (λ (v : Given). IsTailRead x v c group reading f) isin.given_is l

    among : reading.among ≡ group.bricks
    among = ap (λ (z : Reading). z.among) during.one.reading_is

    members : HasMembers given group 5 d
    members = lacking_members given group 5 reading c f d isin.given_is none here.one during.one.asks r idle among (omega arith) (no_via given.op is_op) (gives_cut given.op is_op)

    counted : count_gave reading (places_of d (subject given.op)) (replied d (subject given.op)) ≡ number_read given (windows given d) reading.first
    counted = given_count given group 5 reading c f d isin.given_is none here.one during.one.asks r idle among (omega arith) (no_via given.op is_op) (gives_cut given.op is_op)

    pre_now : PreOk given (windows given d)
    pre_now = pre_stays given group c f d isin.given_is r idle (λ y q t. (let w = (during.one.asks.asks y q t).4 in let v : rank q ≡ 4 = ap rank w in omega (arith, v))) here.pre

    tail_end : (next : Next TruncateStage) → TruncateFollows x (Reads group reading) d next → TailEnds given.geometry given.op group reading (places_of d (subject given.op)) (replied d (subject given.op)) next
    tail_end next follows = subst (λ (v : Given). TailEnds v.geometry v.op group reading (places_of d (subject v.op)) (replied d (subject v.op)) next) dg follows

    reads_go : (q : TruncateStage) (e : Account) → TruncateFollows x (Reads group reading) d (Go q) → IsUnlocked (subject given.op) d e → HereTruncate x given q e (truncate_asks q d)
    reads_go q e follows u = by (tail_end (Go q) follows)
      where
        by : TailEnds given.geometry given.op group reading (places_of d (subject given.op)) (replied d (subject given.op)) (Go q) → HereTruncate x given q e (truncate_asks q d)
        by (inl (few, is)) = absurd (go_say q (NoQuorum ReadPhase (count_gave reading (places_of d (subject given.op)) (replied d (subject given.op)))) is)
        by (inr (enough, stripe, decoded, (lists, coded, is))) = subst (λ (z : TruncateStage). HereTruncate x given z e (truncate_asks z d)) (sym (go_same q (Writes group lists) is)) (
          members_unlocked given group 5 d e u members,
          here.cuttable,
          here.within,
          unlocked given d e u (λ w. PreOk given w) pre_now,
          during.inside,
          unlocked given d e u (λ w. TailOk given group w) (subst (λ (s : ℕ). quorum_of given ≤ number_read given (windows given d) s) during.first (subst (λ (n : ℕ). quorum_of given ≤ n) counted enough)),
        )

    reads_say : (answer : Answer) → asked_again (truncate_table x) (Reads group reading) d ≡ [] → TruncateFollows x (Reads group reading) d (Say answer) → truncate_causes given.op given (windows given d) answer
    reads_say answer quiet follows = by (tail_end (Say answer) follows)
      where
        nobody : (y : ℕ) → y < bricks_of given → reading_asks reading d y ≡ None
        nobody y less =
            let w : cond (nat_lt reading.start 31) (reading_asks reading d y) None ≡ None = quiet_round (bricks_of d.given) (where_so true (read_asks reading d)) quiet y (subst (λ (v : Given). y < bricks_of v) (sym dg) less) in
            let s = here.one.start in
            let t : nat_lt reading.start 31 ≡ true = grind (arith, nat_tests) in
            rw t at w

        by : TailEnds given.geometry given.op group reading (places_of d (subject given.op)) (replied d (subject given.op)) (Say answer) → truncate_causes given.op given (windows given d) answer
        by (inl (few, is)) =
            let lack = lacks given group 5 reading c f d isin.given_is none here.one during.one.asks r idle among (omega arith) (no_via given.op is_op) (gives_cut given.op is_op) dg nobody few in
            let same = say_same answer (NoQuorum ReadPhase (count_gave reading (places_of d (subject given.op)) (replied d (subject given.op)))) (Say answer) refl is in
            to_cut given (windows given d) group answer members.group_is here.cuttable here.within (inr (no_short given (windows given d) PrePhase pre_now, inl (group.head, members.group_is.head, during.inside, subst (λ (s : ℕ). LacksChunks given (windows given d) s answer) during.first (subst (LacksChunks given (windows given d) reading.first) (sym same) lack))))
        by (inr (enough, stripe, decoded, (lists, coded, is))) = absurd (say_go (Writes group lists) answer is)

  -- ## It is written

  module _ (group : Group) (lists : List (List (List ℕ))) (here : HereTruncate x given (Writes group lists) c f) (l : InTruncate x (Writes group lists) c f) where
    writing : IsTailWritten given c group lists f
    writing = subst (λ (v : Given). IsTailWritten v c group lists f) isin.given_is l

    sixth : (y : ℕ) (q : Request) → f y ≡ Some q → rank q ≡ 6
    sixth y q t = ap rank (writing.written.changing.asks y q t).5

    wrote_members : HasMembers given group 7 d
    wrote_members = members_over given group 5 7 c f d here.0 r idle (omega arith) (λ y q t. let v = sixth y q t in (omega (arith, v), omega (arith, v)))

    wrote_pre : PreOk given (windows given d)
    wrote_pre = pre_stays given group c f d isin.given_is r idle (λ y q t. let v = sixth y q t in omega (arith, v)) here.3

    tail_now : TailOk given group (windows given d)
    tail_now = subst (λ (n : ℕ). quorum_of given ≤ n) (sym (read_stays given (cut_at given.op given group.head) c f d r idle (λ y q t. (let v = sixth y q t in late_query q (omega (arith, v)), let v = sixth y q t in late_read (cut_at given.op given group.head) q (omega (arith, v)))))) here.5

    ended : (next : Next TruncateStage) → TruncateFollows x (Writes group lists) d next → PhaseOver given (windows given d) WritePhase (λ next. next ≡ Go (Cuts group)) next
    ended next follows = ends given group 5 is_write c f d here.0 r idle (asks_by given group is_write _ c f writing.written.changing (λ y i v. refl) (λ y i v. omega arith)) only_write WritePhase (λ next. next ≡ Go (Cuts group)) next wrote_members.group_is dg (λ y. refl) (λ y. refl) refl follows

    writes_go : (q : TruncateStage) (e : Account) → TruncateFollows x (Writes group lists) d (Go q) → IsUnlocked (subject given.op) d e → HereTruncate x given q e (truncate_asks q d)
    writes_go q e follows u = elim (ended (Go q) follows) [
      | inl w ↦ absurd (go_say q w.0 w.1)
      | inr w ↦ subst (λ (z : TruncateStage). HereTruncate x given z e (truncate_asks z d)) (sym (go_same q (Cuts group) w.1)) (
        members_unlocked given group 7 d e u wrote_members,
        here.1,
        unlocked given d e u (λ v. HasTail given group v) (record { within = here.2; pre = wrote_pre; tail = λ n. tail_now; wrote = λ n. w.0 }),
      )
    ]

    writes_say : (answer : Answer) → TruncateFollows x (Writes group lists) d (Say answer) → truncate_causes given.op given (windows given d) answer
    writes_say answer follows = elim (ended (Say answer) follows) [
      | inl w ↦ subst (truncate_causes given.op given (windows given d)) (sym (say_same answer w.0 (Say answer) refl w.1)) (to_cut given (windows given d) group w.0 wrote_members.group_is here.1 here.2 (inr (no_short given (windows given d) PrePhase wrote_pre, inr (tail_read given (windows given d) group wrote_members.group_is (λ n. tail_now), inl (group.head, wrote_members.group_is.head, here.4, w.2)))))
      | inr w ↦ absurd (say_go (Cuts group) answer w.1)
    ]

  -- ## The cut

  module _ (group : Group) (here : HereTruncate x given (Cuts group) c f) (l : InTruncate x (Cuts group) c f) where
    cutting : IsCutting given c group f
    cutting = subst (λ (v : Given). IsCutting v c group f) isin.given_is l

    seventh : (y : ℕ) (q : Request) → f y ≡ Some q → rank q ≡ 7
    seventh y q t = ap rank (cutting.changing.asks y q t).5

    cut_members : HasMembers given group 9 d
    cut_members = members_over given group 7 9 c f d here.0 r idle (omega arith) (λ y q t. let v = seventh y q t in (omega (arith, v), omega (arith, v)))

    cut_now : HasTail given group (windows given d)
    cut_now = tail_stays given group c f d isin.given_is r idle (λ y q t. let v = seventh y q t in omega (arith, v)) here.2

    cut_ended : (next : Next TruncateStage) → TruncateFollows x (Cuts group) d next → PhaseOver given (windows given d) TrimPhase (λ next. next ≡ Go (Votes (Post group))) next
    cut_ended next follows = ends given group 7 is_trim c f d here.0 r idle (asks_by given group is_trim _ c f cutting.changing (λ y i v. refl) (λ y i v. omega arith)) only_trim TrimPhase (λ next. next ≡ Go (Votes (Post group))) next cut_members.group_is dg (λ y. refl) (λ y. refl) refl follows

    cuts_go : (q : TruncateStage) (e : Account) → TruncateFollows x (Cuts group) d (Go q) → IsUnlocked (subject given.op) d e → HereTruncate x given q e (truncate_asks q d)
    cuts_go q e follows u = elim (cut_ended (Go q) follows) [
      | inl w ↦ absurd (go_say q w.0 w.1)
      | inr w ↦ subst (λ (z : TruncateStage). HereTruncate x given z e (truncate_asks z d)) (sym (go_same q (Votes (Post group)) w.1)) (
        members_unlocked given group 9 d e u cut_members,
        here.1,
        unlocked given d e u (λ v. HasTail given group v) cut_now,
        unlocked given d e u (λ v. quorum_of given ≤ number given v TrimPhase) w.0,
      )
    ]

    cuts_say : (answer : Answer) → TruncateFollows x (Cuts group) d (Say answer) → truncate_causes given.op given (windows given d) answer
    cuts_say answer follows = elim (cut_ended (Say answer) follows) [
      | inl w ↦ subst (truncate_causes given.op given (windows given d)) (sym (say_same answer w.0 (Say answer) refl w.1)) (was_cut given (windows given d) group w.0 cut_members.group_is here.1 cut_now (inl w.2))
      | inr w ↦ absurd (say_go (Votes (Post group)) answer w.1)
    ]

  -- ## The ballot

  votes_go : (stage : Ballot) (q : TruncateStage) (e : Account) → InTruncate x (Votes stage) c f → HereVotes given stage c → TruncateFollows x (Votes stage) d (Go q) → IsUnlocked (subject given.op) d e → HereTruncate x given q e (truncate_asks q d)
  votes_go (Pre group) q e l h follows u = elim (pre_ends given group c f d isin.given_is r idle (λ next. next ≡ trims_from x d.given.geometry d.given.op group) (Go q) l.0 h.0 follows) [
    | inl w ↦ absurd (go_say q w.0 w.1)
    | inr w ↦ pre_next q e group (pre_members given group c f d isin.given_is r idle l.0 h.0) h.1 l.0.within w.0 (cuts_border given.op given group.head) refl (subst (λ (v : Given). Go q ≡ trims_from x v.geometry v.op group) dg w.1) u
  ]
  votes_go (Post group) q e l h follows u = elim (post_ends given group c f d isin.given_is r idle (λ next. next ≡ cond (nat_le (bricks_of d.given) (count_serving d group)) (Go (Votes (Clear group))) (Say (says_to d group))) (Go q) l h.0 follows) [
    | inl w ↦ absurd (go_say q w.0 w.1)
    | inr w ↦
        let late = post_late given group c f d isin.given_is r idle l in
        subst (λ (z : TruncateStage). HereTruncate x given z e (truncate_asks z d)) (sym (go_when (nat_le (bricks_of d.given) (count_serving d group)) (Votes (Clear group)) q (says_to d group) w.1)) (
          members_unlocked given group 10 d e u (post_members given group c f d isin.given_is r idle l h.0),
          h.1,
          unlocked given d e u (λ v. HasTail given group v) (tail_stays given group c f d isin.given_is r idle (λ y s t. let m = late y s t in omega (arith, m)) h.2),
          unlocked given d e u (λ v. quorum_of given ≤ number given v TrimPhase) (trims_stay given c f d r idle (λ y s t. let m = late y s t in omega (arith, m)) h.3),
          unlocked given d e u (λ v. quorum_of given ≤ number given v PostPhase) w.0,
        )
  ]
  votes_go (Clear group) q e l h follows u = absurd (go_say q (says_to d group) follows)

  not_trims : (answer : Answer) (group : Group) (b : Bool) (reading : Reading) → Say answer ≡ cond b (Go (Cuts group)) (Go (Reads group reading)) → ⊥
  not_trims answer group true reading e = say_go (Cuts group) answer e
  not_trims answer group false reading e = say_go (Reads group reading) answer e

  votes_say : (stage : Ballot) (answer : Answer) → InTruncate x (Votes stage) c f → HereVotes given stage c → TruncateFollows x (Votes stage) d (Say answer) → truncate_causes given.op given (windows given d) answer
  votes_say (Pre group) answer l h follows =
      let m = pre_members given group c f d isin.given_is r idle l.0 h.0 in
      elim (pre_ends given group c f d isin.given_is r idle (λ next. next ≡ trims_from x d.given.geometry d.given.op group) (Say answer) l.0 h.0 follows) [
        | inl w ↦ subst (truncate_causes given.op given (windows given d)) (sym (say_same answer w.0 (Say answer) refl w.1)) (to_cut given (windows given d) group w.0 m.group_is h.1 l.0.within (inl w.2))
        | inr w ↦ absurd (not_trims answer group (cuts_border given.op given group.head) (reading_of x (subject given.op) group (cut_at given.op given group.head)) (subst (λ (v : Given). Say answer ≡ trims_from x v.geometry v.op group) dg w.1))
      ]
  votes_say (Post group) answer l h follows =
      let m = post_members given group c f d isin.given_is r idle l h.0 in
      let late = post_late given group c f d isin.given_is r idle l in
      let ok = tail_stays given group c f d isin.given_is r idle (λ y s t. let m = late y s t in omega (arith, m)) h.2 in
      let trimmed = trims_stay given c f d r idle (λ y s t. let m = late y s t in omega (arith, m)) h.3 in
      elim (post_ends given group c f d isin.given_is r idle (λ next. next ≡ cond (nat_le (bricks_of d.given) (count_serving d group)) (Go (Votes (Clear group))) (Say (says_to d group))) (Say answer) l h.0 follows) [
        | inl w ↦ subst (truncate_causes given.op given (windows given d)) (sym (say_same answer w.0 (Say answer) refl w.1)) (was_cut given (windows given d) group w.0 m.group_is h.1 ok (inr (no_short given (windows given d) TrimPhase trimmed, inl w.2)))
        | inr w ↦ was_cut given (windows given d) group answer m.group_is h.1 ok (inr (no_short given (windows given d) TrimPhase trimmed, inr (no_short given (windows given d) PostPhase w.0, (_, say_when (nat_le (bricks_of d.given) (count_serving d group)) (Votes (Clear group)) answer (says_to d group) w.1))))
      ]
  votes_say (Clear group) answer l h follows =
      let m = clear_members given group c f d isin.given_is r idle l h.0 in
      let late = clear_late given group c f d isin.given_is r idle l in
      let ok = tail_stays given group c f d isin.given_is r idle (λ y s t. let m = late y s t in omega (arith, m)) h.2 in
      let trimmed = trims_stay given c f d r idle (λ y s t. let m = late y s t in omega (arith, m)) h.3 in
      let post = post_stays given group c f d isin.given_is r idle late h.4 in
      was_cut given (windows given d) group answer m.group_is h.1 ok (inr (no_short given (windows given d) TrimPhase trimmed, inr (no_short given (windows given d) PostPhase post, (_, say_same answer (says_to d group) (Say answer) refl follows))))

pub truncate_kept : (x : Ctx) → IsKept x (truncate_table x) (DuringTruncate x) (HereTruncate x)
truncate_kept x = record {
  begins = λ given q of s. (let w = starts_go given.op q s.1 in subst (λ (z : TruncateStage). HereTruncate x given z (opened given) (truncate_asks z (opened given))) (sym w.1) (opening_here Exclusive given of.kept, w.0));
  goes = λ given p q c f d e isin none dur here r idle quiet follows isin' u. go given p q c f d e isin none dur here r idle follows u;
  again = λ given p c f d t isin dur here r. again given p c f d t here;
}
  where
    go : (given : Given) (p q : TruncateStage) (c : Account) (f : Asks) (d e : Account) → IsIn x given c → NonePast (subject given.op) (bricks_of given) d → DuringTruncate x p c f → HereTruncate x given p c f → IsRound (subject given.op) c f d → IsIdle d
        → TruncateFollows x p d (Go q) → IsUnlocked (subject given.op) d e → HereTruncate x given q e (truncate_asks q d)
    go given (OpensAt (Locking brick)) q c f d e isin none dur here r idle follows u = lock_goes OpensAt Exclusive TruncateJudges given brick c f d isin.given_is (r.given ∙ isin.given_is) dur.1.0 here.0 r idle truncate_asks (HereTruncate x) (λ o a k i. (i, here.1)) (λ o a. refl) q e follows u
    go given (OpensAt Query) q c f d e isin none dur here r idle (grouped, comes, is) u =
        query_goes x given c f d isin none r idle q e grouped (λ answer. ⊥) here.1 here.0 dur.1.0 (judged given d (r.given ∙ isin.given_is) (queried Exclusive given c f d isin.given_is dur.1.0 here.0 r idle none) (λ answer. ⊥) grouped comes) is u
    go given (Votes stage) q c f d e isin none dur here r idle follows u = votes_go x given c f d isin none r idle stage q e dur.1 here follows u
    go given (Reads group reading) q c f d e isin none dur here r idle follows u = reads_go x given c f d isin none r idle group reading here dur.1 (subst (λ (v : Given). IsTruncate v.op) isin.given_is dur.0.0) q e follows u
    go given (Writes group lists) q c f d e isin none dur here r idle follows u = writes_go x given c f d isin none r idle group lists here dur.1 q e follows u
    go given (Cuts group) q c f d e isin none dur here r idle follows u = cuts_go x given c f d isin none r idle group here dur.1 q e follows u

    again : (given : Given) (p : TruncateStage) (c : Account) (f : Asks) (d : Account) → truncate_reads p ≡ true → HereTruncate x given p c f → HereTruncate x given p c (joined f (truncate_asks p d))
    again given (OpensAt o) c f d t here = absurd (let v : false ≡ true = t in cc)
    again given (Votes o) c f d t here = absurd (let v : false ≡ true = t in cc)
    again given (Writes group lists) c f d t here = absurd (let v : false ≡ true = t in cc)
    again given (Cuts group) c f d t here = absurd (let v : false ≡ true = t in cc)
    again given (Reads group reading) c f d t here = record {
      one = here_joined given group 5 reading c f (truncate_asks (Reads group reading) d) (λ y q s. asked_in (nat_lt reading.start 31) reading d y q s) here.one;
      cuttable = here.cuttable;
      within = here.within;
      pre = here.pre;
    }

pub truncate_tells : (x : Ctx) → Tells x (truncate_table x) (DuringTruncate x) (HereTruncate x) (λ given w. truncate_causes given.op given w)
truncate_tells x = record {
  first = λ given answer of s. starts_say given (λ y. []) answer s.1;
  last = λ given p answer c f d isin none dur here r idle quiet follows. last given p answer c f d isin none dur here r idle quiet follows;
}
  where
    last : (given : Given) (p : TruncateStage) (answer : Answer) (c : Account) (f : Asks) (d : Account) → IsIn x given c → NonePast (subject given.op) (bricks_of given) d → DuringTruncate x p c f → HereTruncate x given p c f → IsRound (subject given.op) c f d → IsIdle d
        → asked_again (truncate_table x) p d ≡ [] → TruncateFollows x p d (Say answer) → truncate_causes given.op given (windows given d) answer
    last given (OpensAt (Locking brick)) answer c f d isin none dur here r idle quiet follows = opened_causes given (windows given d) answer here.1 (lock_says OpensAt Exclusive TruncateJudges given brick c f d isin.given_is (r.given ∙ isin.given_is) dur.1.0 here.0 r idle (Later given (windows given d)) answer follows)
    last given (OpensAt Query) answer c f d isin none dur here r idle quiet (grouped, comes, is) =
        query_says x given c f d isin none r idle answer grouped here.1 (judged given d (r.given ∙ isin.given_is) (queried Exclusive given c f d isin.given_is dur.1.0 here.0 r idle none) (Later given (windows given d)) grouped comes) is
    last given (Votes stage) answer c f d isin none dur here r idle quiet follows = votes_say x given c f d isin none r idle stage answer dur.1 here follows
    last given (Reads group reading) answer c f d isin none dur here r idle quiet follows = reads_say x given c f d isin none r idle group reading here dur.1 (subst (λ (v : Given). IsTruncate v.op) isin.given_is dur.0.0) answer quiet follows
    last given (Writes group lists) answer c f d isin none dur here r idle quiet follows = writes_say x given c f d isin none r idle group lists here dur.1 answer follows
    last given (Cuts group) answer c f d isin none dur here r idle quiet follows = cuts_say x given c f d isin none r idle group here dur.1 answer follows
