-- The causes of the answers of a write.
use Rattle.std.proofs.Common.{◌≡◌, ◌⊎◌, inl, inr, ℕ, ◌+◌, ◌-◌, ◌^◌, ◌<◌, ◌≤◌, ◌&&◌, nat_lt, Bool, false, true, cond, refl, sym, ◌∙◌, ap, subst, arith, List, length, Some, None}
use Rattle.std.proofs.Math.Nat.{mod-lt}
use Rattle.std.proofs.lemmas.Bool.{and_parts}
use Rattle.std.proofs.lemmas.Bool.Decides.{nat_tests}
use Rattle.ec_answers.specs.declared.grouped.Group.{Group}
use Rattle.ec_attr.specs.Bricks.{is_in}
use Rattle.ec_attr.specs.declared.head.Head.{Head}
use Rattle.ec_attr.specs.declared.kind.Kind.TheVariants.{File, Dir}
use Rattle.ec_attr.specs.declared.kind.LockKind.TheVariants.{Exclusive}
use Rattle.ec_attr.specs.declared.policy.Policy.{Policy}
use Rattle.ec_attr.specs.declared.policy.Policy.TheVariants.{RoundRobin, GfidHash}
use Rattle.ec_conduct.specs.Account.{Account, at}
use Rattle.ec_conduct.specs.Done.{is_write, tried}
use Rattle.ec_conduct.specs.Given.{Given, quorum_of}
use Rattle.ec_conduct.specs.Phases.{is_read_from}
use Rattle.ec_txn.specs.Ballot.{is_within}
use Rattle.ec_txn.specs.ReadPhase.{reading_asks}
use Rattle.ec_txn.specs.Rounds.{Asks, IsIdle, IsRound, IsUnlocked, subject}
use Rattle.ec_txn.specs.declared.ballot.Ballot.{Ballot}
use Rattle.ec_txn.specs.declared.ballot.Ballot.TheVariants.{Pre, Post, Clear}
use Rattle.ec_txn.specs.declared.ctx.Ctx.{Ctx}
use Rattle.ec_txn.specs.declared.opening.Opening.TheVariants.{Lock as Locking}
use Rattle.ec_txn.specs.declared.reading.Reading.{Reading}
use Rattle.ec_txn.specs.declared.stage.Next.TheVariants.{Go, Say}
use Rattle.ec_wire.specs.declared.answer.Answer.{Answer}
use Rattle.ec_wire.specs.declared.answer.Answer.TheVariants.{IsDir, TooBig, TooLong}
use Rattle.ec_wire.specs.declared.op.Op.{Op}
use Rattle.ec_wire.specs.declared.phase.Phase.TheVariants.{Pre as PrePhase, Post as PostPhase, Write as WritePhase}
use Rattle.ec_wire.specs.declared.request.Request.{Request}
use Rattle.ec_wire.specs.declared.request.Request.TheVariants.{WriteChunks}
use Rattle.ec_write.specs.Range.{count_stripes, data_of, first_stripe, off_of, reads_first, reads_last, told_end}
use Rattle.ec_write.specs.Write.{asks_of, reading_of, start_by, write_starts}
use Rattle.ec_write.specs.declared.stage.WriteStage.{WriteStage}
use Rattle.ec_write.specs.declared.stage.WriteStage.TheVariants.{Opens as OpensAt, Votes, Reads, Writes}
use Rattle.ec_law_causes.specs.Causes.{Else, IsOfKind, IsSize, LacksFirst, LacksLast, Opens, PassesLimit, WritesNothing, write_causes}
use Rattle.ec_law_causes.specs.Counted.{FallsShort, Windows, number, number_read}
use Rattle.ec_law_causes.proofs.BallotSteps.{no_short, pre_stays, within_limit}
use Rattle.ec_law_causes.proofs.Lacking.{late_read, read_stays}
use Rattle.ec_law_causes.proofs.Members.{HasMembers, done_stays, members_unlocked}
use Rattle.ec_law_causes.proofs.Openings.{HereOpening}
use Rattle.ec_law_causes.proofs.OpeningSteps.{go_same, go_say, say_go, say_same}
use Rattle.ec_law_causes.proofs.Queried.{HasGroup, opens_group}
use Rattle.ec_law_causes.proofs.Ranks.{late_query, rank}
use Rattle.ec_law_causes.proofs.Reading.{HereReading, asks_among}
use Rattle.ec_law_causes.proofs.Stat.{not_dir, one_head}
use Rattle.ec_law_causes.proofs.Along.{unlocked, windows}

abbrev pub many : Given → ℕ
many given = length (data_of given.op)

abbrev pub first_at : Given → ℕ
first_at given = first_stripe (quorum_of given) (off_of given.op)

abbrev pub last_at : Given → ℕ
last_at given = first_stripe (quorum_of given) (off_of given.op) + (count_stripes (quorum_of given) (off_of given.op) (many given) - 1)

abbrev pub wants_first : Given → Head → Bool
wants_first given head = reads_first (quorum_of given) (off_of given.op) (many given) head.size

abbrev pub wants_last : Given → Head → Bool
wants_last given head = reads_last (quorum_of given) (off_of given.op) (many given) head.size

-- the bytes and the end are within their limits
abbrev pub Short : Given → Type 0
Short given = (nat_lt (2 ^ 20) (many given) ≡ false) × (nat_lt (2 ^ 40) (off_of given.op + many given) ≡ false)

-- a file of the version and size that may be written, and some bytes
pub record Writable (given : Given) (group : Group) : Type 0 where
  pub short : Short given
  pub file : group.head.kind ≡ File
  pub some : 0 < many given

-- what the phases before counted
abbrev pub PreOk : Given → Windows → Type 0
PreOk given w = quorum_of given ≤ number given w PrePhase

abbrev pub FirstOk : Given → Group → Windows → Type 0
FirstOk given group w = wants_first given group.head ≡ true → quorum_of given ≤ number_read given w (first_at given)

abbrev pub LastOk : Given → Group → Windows → Type 0
LastOk given group w = wants_last given group.head ≡ true → quorum_of given ≤ number_read given w (last_at given)

-- The PreOps were done by a quorum, and each stripe that was to be read was given by one.
pub record HasRead (given : Given) (group : Group) (w : Windows) : Type 0 where
  pub within : is_within group.head ≡ true
  pub pre : PreOk given w
  pub first : FirstOk given group w
  pub last : LastOk given group w

-- The first stripe is read, and the last one wasn't; or the last one is.
abbrev pub IsPlaced : Given → Group → Windows → ℕ → Type 0
IsPlaced given group w from = ((from ≡ first_at given) × (wants_first given group.head ≡ true) × (wants_last given group.head ≡ true → (y : ℕ) → tried (is_read_from (last_at given)) (w y) ≡ false))
    ⊎ ((from ≡ last_at given) × (wants_last given group.head ≡ true) × FirstOk given group w)

pub record HereReads (given : Given) (group : Group) (reading : Reading) (c : Account) (f : Asks) : Type 0 where
  pub one : HereReading given group 5 reading c f
  pub writable : Writable given group
  pub within : is_within group.head ≡ true
  pub pre : PreOk given (windows given c)
  pub placed : IsPlaced given group (windows given c) reading.first

abbrev pub HereVotes : Given → Ballot → Account → Type 0
HereVotes given (Pre group) c = HasMembers given group 3 c × Writable given group
HereVotes given (Post group) c = HasMembers given group 9 c × Writable given group × HasRead given group (windows given c) × (quorum_of given ≤ number given (windows given c) WritePhase)
HereVotes given (Clear group) c = HasMembers given group 10 c × Writable given group × HasRead given group (windows given c) × (quorum_of given ≤ number given (windows given c) WritePhase) × (quorum_of given ≤ number given (windows given c) PostPhase)

abbrev pub HereWrite : Ctx → Given → WriteStage → Account → Asks → Type 0
HereWrite x given (OpensAt stage) c f = HereOpening Exclusive given stage c f × Short given
HereWrite x given (Votes stage) c f = HereVotes given stage c
HereWrite x given (Reads group reading front) c f = HereReads given group reading c f
HereWrite x given (Writes group lists) c f = HasMembers given group 5 c × Writable given group × HasRead given group (windows given c)

-- ## What a call may say before it asks

pub starts_go : (op : Op) (q : WriteStage) → Go q ≡ write_starts op → (nat_lt (2 ^ 20) (length (data_of op)) ≡ false) × (nat_lt (2 ^ 40) (off_of op + length (data_of op)) ≡ false) × (q ≡ OpensAt (Locking 0))
starts_go op q e = by (nat_lt (2 ^ 20) (length (data_of op))) (nat_lt (2 ^ 40) (off_of op + length (data_of op))) refl refl e
  where
    by : (a b : Bool) → nat_lt (2 ^ 20) (length (data_of op)) ≡ a → nat_lt (2 ^ 40) (off_of op + length (data_of op)) ≡ b → Go q ≡ cond a (Say (TooLong (length (data_of op)))) (cond b (Say (TooBig (told_end (off_of op) (length (data_of op))))) (Go (OpensAt (Locking 0))))
        → (nat_lt (2 ^ 20) (length (data_of op)) ≡ false) × (nat_lt (2 ^ 40) (off_of op + length (data_of op)) ≡ false) × (q ≡ OpensAt (Locking 0))
    by true b s t e = absurd (go_say q (TooLong (length (data_of op))) e)
    by false true s t e = absurd (go_say q (TooBig (told_end (off_of op) (length (data_of op)))) e)
    by false false s t e = (s, t, go_same q (OpensAt (Locking 0)) e)

pub not_long : (n len : ℕ) → nat_lt n len ≡ false → n < len → ⊥
not_long n len e l = let t : nat_lt n len ≡ true = grind (arith, nat_tests) in absurd (let v = sym e ∙ t in cc)

pub starts_say : (given : Given) (w : Windows) (answer : Answer) → Say answer ≡ write_starts given.op → write_causes given.op given w answer
starts_say given w answer e = by (nat_lt (2 ^ 20) (many given)) (nat_lt (2 ^ 40) (off_of given.op + many given)) refl refl e
  where
    by : (a b : Bool) → nat_lt (2 ^ 20) (many given) ≡ a → nat_lt (2 ^ 40) (off_of given.op + many given) ≡ b → Say answer ≡ cond a (Say (TooLong (many given))) (cond b (Say (TooBig (told_end (off_of given.op) (many given)))) (Go (OpensAt (Locking 0))))
        → write_causes given.op given w answer
    by true b s t e = inl ((let u = s in grind (arith, nat_tests)), say_same answer (TooLong (many given)) (Say answer) refl e)
    by false true s t e = inr (λ other l. not_long (2 ^ 20) (many given) s l.0, inl ((let u = t in grind (arith, nat_tests)), say_same answer (TooBig (told_end (off_of given.op) (many given))) (Say answer) refl e))
    by false false s t e = absurd (say_go (OpensAt (Locking 0)) answer e)

-- the causes after the group was found
abbrev pub AfterPre : Given → Windows → Answer → Type 0
AfterPre given w = Else (LacksFirst given.op given w) (Else (LacksLast given.op given w) (Else (FallsShort given w WritePhase) (Else (FallsShort given w PostPhase) IsSize)))

abbrev pub Later : Given → Windows → Answer → Type 0
Later given w = Else (IsOfKind Dir IsDir given w) (Else (WritesNothing given.op given w) (Else (PassesLimit given w) (Else (FallsShort given w PrePhase) (AfterPre given w))))

pub opened_causes : (given : Given) (w : Windows) (answer : Answer) → Short given → Opens given w (Later given w) answer → write_causes given.op given w answer
opened_causes given w answer short h = inr (λ other l. not_long (2 ^ 20) (many given) short.0 l.0, inr (λ other l. not_long (2 ^ 40) (off_of given.op + many given) short.1 l.0, h))

-- some bytes are written to a file of a version below the limit
pub to_write : (given : Given) (w : Windows) (group : Group) (answer : Answer) → HasGroup given w group → Writable given group → is_within group.head ≡ true → Else (FallsShort given w PrePhase) (AfterPre given w) answer → write_causes given.op given w answer
to_write given w group answer h k within later = opened_causes given w answer k.short (opens_group given w group (Later given w) answer h (inr (
  not_dir given w group.head IsDir h.head k.file,
  inr (λ other n. (let z = n.0 in let s = k.some in omega (arith, z, s)), inr (within_limit given w group h within, later)),
)))

pub read_first : (given : Given) (w : Windows) (group : Group) → HasGroup given w group → FirstOk given group w → (other : Answer) → LacksFirst given.op given w other → ⊥
read_first given w group h ok other (head, is, wants, lack) =
    let same = one_head given w head group.head is h.head in
    let enough = ok (ap (wants_first given) same ∙ wants) in
    let few = lack.few in
    absurd (omega (arith, enough, few))

pub read_last : (given : Given) (w : Windows) (group : Group) → HasGroup given w group → LastOk given group w → (other : Answer) → LacksLast given.op given w other → ⊥
read_last given w group h ok other (head, is, wants, lack) =
    let same = one_head given w head group.head is h.head in
    let enough = ok (ap (wants_last given) same ∙ wants) in
    let few = lack.few in
    absurd (omega (arith, enough, few))

-- all that was to be read was
pub was_read : (given : Given) (w : Windows) (group : Group) (answer : Answer) → HasGroup given w group → Writable given group → HasRead given group w → Else (FallsShort given w WritePhase) (Else (FallsShort given w PostPhase) IsSize) answer → write_causes given.op given w answer
was_read given w group answer h k ok later = to_write given w group answer h k ok.within (inr (no_short given w PrePhase ok.pre, inr (read_first given w group h ok.first, inr (read_last given w group h ok.last, later))))

-- ## What stays

pub reads_stay : (given : Given) (group : Group) (c : Account) (f : Asks) (d : Account) → c.given ≡ given → IsRound (subject given.op) c f d → IsIdle d → ((x : ℕ) (q : Request) → f x ≡ Some q → 5 ≤ rank q) → HasRead given group (windows given c) → HasRead given group (windows given d)
reads_stay given group c f d cg r idle late ok = record {
  within = ok.within;
  pre = pre_stays given group c f d cg r idle (λ y q t. let m = late y q t in omega (arith, m)) ok.pre;
  first = λ wants. subst (λ (n : ℕ). quorum_of given ≤ n) (sym (read_stays given (first_at given) c f d r idle (λ y q t. (let m = late y q t in late_query q (omega (arith, m)), late_read (first_at given) q (late y q t))))) (ok.first wants);
  last = λ wants. subst (λ (n : ℕ). quorum_of given ≤ n) (sym (read_stays given (last_at given) c f d r idle (λ y q t. (let m = late y q t in late_query q (omega (arith, m)), late_read (last_at given) q (late y q t))))) (ok.last wants);
}

pub late_write : (r : Request) → 7 ≤ rank r → is_write r ≡ false
late_write (WriteChunks g grant at chunks) le = absurd (omega arith)
late_write r le = refl

pub writes_stay : (given : Given) (c : Account) (f : Asks) (d : Account) → IsRound (subject given.op) c f d → IsIdle d → ((x : ℕ) (q : Request) → f x ≡ Some q → 7 ≤ rank q) → quorum_of given ≤ number given (windows given c) WritePhase → quorum_of given ≤ number given (windows given d) WritePhase
writes_stay given c f d r idle late le = subst (λ (m : ℕ). quorum_of given ≤ m) (sym (done_stays given is_write c f d r idle (λ x q e. (let l = late x q e in late_query q (omega (arith, l)), late_write q (late x q e))))) le

-- ## A stripe is read

pub start_below : (policy : Policy) (call g n : ℕ) → 0 < n → n ≤ 31 → start_by policy call g n < 31
start_below RoundRobin call g n pos le = let l = mod-lt (call - 1) pos in omega (arith, l, le)
start_below GfidHash call g n pos le = let l = mod-lt g pos in omega (arith, l, le)

pub asked_in : (t : Bool) (reading : Reading) (c : Account) (y : ℕ) (q : Request) → cond t (reading_asks reading c y) None ≡ Some q → is_in reading.among y ≡ true
asked_in true reading c y q e = asks_among reading c y q e
asked_in false reading c y q e = absurd (cc)

pub reads_begin : (x : Ctx) (given : Given) (d e : Account) (group : Group) (stripe : ℕ) (front : List (List ℕ)) → d.given ≡ given → HasMembers given group 5 d → IsUnlocked (subject given.op) d e → Writable given group → is_within group.head ≡ true → PreOk given (windows given d)
    → ((y : ℕ) → tried (is_read_from stripe) (windows given d y) ≡ false) → IsPlaced given group (windows given d) stripe
    → HereWrite x given (Reads group (reading_of x (subject given.op) group stripe) front) e (asks_of (Reads group (reading_of x (subject given.op) group stripe) front) d)
reads_begin x given d e group stripe front dg m u k within pre unread placed = record {
  one = record {
    members = members_unlocked given group 5 d e u m;
    unread = unlocked given d e u (λ w. (y : ℕ) → tried (is_read_from stripe) (w y) ≡ false) unread;
    among = λ y q t. asked_in (nat_lt (reading_of x (subject given.op) group stripe).start 31) (reading_of x (subject given.op) group stripe) d y q t;
    start = start_below x.policy x.call (subject given.op) x.geometry.n (let w = x.geometry.least in omega arith) (let w = x.geometry.bricks in omega arith);
  };
  writable = k;
  within = within;
  pre = unlocked given d e u (λ w. PreOk given w) pre;
  placed = unlocked given d e u (λ w. IsPlaced given group w stripe) placed;
}

-- the last stripe is another one than the first where it is read
pub apart : (given : Given) (head : Head) → wants_last given head ≡ true → first_at given ≡ last_at given → ⊥
apart given head wants same =
    let a = (and_parts (nat_lt 1 (count_stripes (quorum_of given) (off_of given.op) (many given)) && _) _ wants).0 in
    let b = (and_parts (nat_lt 1 (count_stripes (quorum_of given) (off_of given.op) (many given))) _ a).0 in
    let l : 1 < count_stripes (quorum_of given) (off_of given.op) (many given) = grind (arith, nat_tests) in
    absurd (omega (arith, l, same))
