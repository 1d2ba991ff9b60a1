-- The causes of the answers of a read.
use Rattle.std.proofs.Common.{◌≡◌, inl, inr, ℕ, ◌-◌, ◌/◌, ◌^◌, ◌<◌, ◌≤◌, ◌==◌, ◌&&◌, nat_lt, Bool, false, true, cond, refl, sym, ◌∙◌, ap, subst, arith, [], Option, Some, None}
use Rattle.std.proofs.Math.Nat.{mod-lt}
use Rattle.std.proofs.Math.Path.{fun_ext}
use Rattle.std.proofs.lemmas.Bool.{and_parts}
use Rattle.std.proofs.lemmas.Bool.Decides.{nat_tests}
use Rattle.ec_answers.specs.declared.grouped.Group.{Group}
use Rattle.ec_answers.specs.declared.grouped.Grouped.{Grouped}
use Rattle.ec_answers.specs.declared.grouped.Grouped.TheVariants.{Group as Found, Gone, Fewer}
use Rattle.ec_answers.proofs.Counting.{count_of_none}
use Rattle.ec_attr.specs.Bricks.{count_below, is_in}
use Rattle.ec_attr.specs.declared.head.Head.{Head}
use Rattle.ec_attr.specs.declared.kind.Kind.{Kind}
use Rattle.ec_attr.specs.declared.kind.Kind.TheVariants.{File, Dir}
use Rattle.ec_attr.specs.declared.kind.LockKind.TheVariants.{Shared}
use Rattle.ec_attr.specs.declared.policy.Policy.{Policy}
use Rattle.ec_attr.specs.declared.policy.Policy.TheVariants.{RoundRobin, GfidHash}
use Rattle.ec_attr.proofs.Sets.{part}
use Rattle.ec_conduct.specs.Account.{Account, at}
use Rattle.ec_conduct.specs.Done.{reply_to}
use Rattle.ec_conduct.specs.Given.{Given, bricks_of, quorum_of}
use Rattle.ec_conduct.specs.Opened.{opened}
use Rattle.ec_conduct.specs.Phases.{is_read_from, is_via, via_of}
use Rattle.ec_read.specs.Range.{end_of, start_by}
use Rattle.ec_read.specs.Read.{AreAmong, DuringRead, EndsBy, InRead, IsRead, Judges, OfKind, ReadFollows, ReadJudges, first_of, is_named, len_in, off_in, read_asks, read_of, read_table, reading_of, via_in}
use Rattle.ec_read.specs.declared.read.ReadStage.{ReadStage}
use Rattle.ec_read.specs.declared.read.ReadStage.TheVariants.{Opens as OpensAt, Reads}
use Rattle.ec_stripe.specs.Span.{stripe_bytes}
use Rattle.ec_txn.specs.Opening.{InOpening}
use Rattle.ec_txn.specs.ReadPhase.{IsReading, asked_if, chunks_of, has_chunks, is_chosen, is_done, places_of, reading_asks}
use Rattle.ec_txn.specs.Replies.{replied}
use Rattle.ec_txn.specs.Rounds.{Asks, IsIdle, IsRound, IsUnlocked, round, subject, where_so}
use Rattle.ec_txn.specs.Tables.{IsIn, IsOf, asked_again}
use Rattle.ec_txn.specs.declared.ctx.Ctx.{Ctx}
use Rattle.ec_txn.specs.declared.opening.Opening.TheVariants.{Lock as Locking, Query}
use Rattle.ec_txn.specs.declared.reading.Reading.{Reading}
use Rattle.ec_txn.specs.declared.stage.Next.TheVariants.{Go, Say}
use Rattle.ec_wire.specs.declared.answer.Answer.{Answer}
use Rattle.ec_wire.specs.declared.answer.Answer.TheVariants.{Bytes, IsDir, NoQuorum, NoSuch, TooLong}
use Rattle.ec_wire.specs.declared.op.Op.{Op}
use Rattle.ec_wire.specs.declared.op.Op.TheVariants.{Read}
use Rattle.ec_wire.specs.declared.phase.Phase.TheVariants.{Query as QueryPhase, Read as ReadPhase}
use Rattle.ec_wire.specs.declared.reply.Reply.{Reply}
use Rattle.ec_law_causes.specs.Causes.{Else, IsBytes, IsOfKind, IsTooLong, LacksRange, Opens, read_causes}
use Rattle.ec_law_causes.specs.Counted.{Windows, gives, is_grouped, may_read, number_read}
use Rattle.ec_law_causes.proofs.Along.{IsKept, NonePast, Tells, windows}
use Rattle.ec_law_causes.proofs.Members.{HasMembers, grouped_below, members_begin, members_more, members_unlocked}
use Rattle.ec_law_causes.proofs.Openings.{HereOpening, opening_here}
use Rattle.ec_law_causes.proofs.OpeningSteps.{go_same, go_say, lock_goes, lock_says, queried, querying, say_go, say_same}
use Rattle.ec_law_causes.proofs.Queried.{HasGroup, JudgedIn, judged, opens_group}
use Rattle.ec_law_causes.proofs.Ranks.{unreplied, untried}
use Rattle.ec_law_causes.proofs.Reading.{HereReading, asks_among, count_gave, gave_at, here_again, none_left, only_read, reading_members}
use Rattle.ec_law_causes.proofs.Stat.{not_dir, one_head}

-- The group is of a file, some bytes of the range lie below its size, and those of its bricks are read that may be.
pub record HereReads (x : Ctx) (given : Given) (among size : ℕ) (c : Account) (f : Asks) : Type 0 where
  pub group : Group
  pub reading : HereReading given group 4 (reading_of x given among size) c f
  pub file : group.head.kind ≡ File
  pub size_is : group.head.size ≡ size
  pub some : off_in given.op < end_of (off_in given.op) (len_in given.op) group.head.size
  pub among_are : AreAmong among group.bricks (via_in given.op)

abbrev Short : Given → Type 0
Short given = nat_lt (2 ^ 20) (len_in given.op) ≡ false

abbrev pub HereRead : Ctx → Given → ReadStage → Account → Asks → Type 0
HereRead x given (OpensAt stage) c f = HereOpening Shared given stage c f × Short given
HereRead x given (Reads among size) c f = HereReads x given among size c f × Short given

start_below : (policy : Policy) (call g n : ℕ) → 0 < n → n ≤ 31 → start_by policy call g n < 31
start_below RoundRobin call g n pos le = let l = mod-lt (call - 1) pos in omega (arith, l, le)
start_below GfidHash call g n pos le = let l = mod-lt g pos in omega (arith, l, le)

first_goes : (len : ℕ) (q : ReadStage) → Go q ≡ first_of len → (nat_lt (2 ^ 20) len ≡ false) × (q ≡ OpensAt (Locking 0))
first_goes len q e = by (nat_lt (2 ^ 20) len) refl e
  where
    by : (t : Bool) → nat_lt (2 ^ 20) len ≡ t → Go q ≡ cond t (Say (TooLong len)) (Go (OpensAt (Locking 0))) → (nat_lt (2 ^ 20) len ≡ false) × (q ≡ OpensAt (Locking 0))
    by true t e = absurd (go_say q (TooLong len) e)
    by false t e = (t, go_same q (OpensAt (Locking 0)) e)

first_says : (len : ℕ) (answer : Answer) → Say answer ≡ first_of len → IsTooLong len answer
first_says len answer e = by (nat_lt (2 ^ 20) len) refl e
  where
    by : (t : Bool) → nat_lt (2 ^ 20) len ≡ t → Say answer ≡ cond t (Say (TooLong len)) (Go (OpensAt (Locking 0))) → IsTooLong len answer
    by true t e = ((let u = t in grind (arith, nat_tests)), say_same answer (TooLong len) (Say answer) refl e)
    by false t e = absurd (say_go (OpensAt (Locking 0)) answer e)

-- a set of no bricks isn't read
read_goes : (among size : ℕ) (q : ReadStage) → Go q ≡ read_of among size → q ≡ Reads among size
read_goes among size q e = by (count_below 31 (is_in among) == 0) e
  where
    by : (t : Bool) → Go q ≡ cond t (Say (NoQuorum ReadPhase 0)) (Go (Reads among size)) → q ≡ Reads among size
    by true e = absurd (go_say q (NoQuorum ReadPhase 0) e)
    by false e = go_same q (Reads among size) e

read_says : (among size : ℕ) (answer : Answer) → Say answer ≡ read_of among size → (count_below 31 (is_in among) ≡ 0) × (answer ≡ NoQuorum ReadPhase 0)
read_says among size answer e = by (count_below 31 (is_in among) == 0) refl e
  where
    by : (t : Bool) → (count_below 31 (is_in among) == 0) ≡ t → Say answer ≡ cond t (Say (NoQuorum ReadPhase 0)) (Go (Reads among size)) → (count_below 31 (is_in among) ≡ 0) × (answer ≡ NoQuorum ReadPhase 0)
    by true t e = ((let u = t in grind (arith, nat_tests)), say_same answer (NoQuorum ReadPhase 0) (Say answer) refl e)
    by false t e = absurd (say_go (Reads among size) answer e)

gives_read : (op : Op) → IsRead op → (o : Option Reply) → gives op o ≡ has_chunks o
gives_read (Read g off len via) is o = refl
gives_read op is o = absurd is

via_same : (op : Op) → via_of op ≡ via_in op
via_same (Read g off len via) = refl
via_same op = refl

named_same : (via : Option ℕ) (y : ℕ) → is_via via y ≡ is_named via y
named_same None y = refl
named_same (Some bits) y = refl

-- of a group the bricks that may be read are those of the set
may_be : (given : Given) (w : Windows) (group : Group) (among y : ℕ) → HasGroup given w group → AreAmong among group.bricks (via_in given.op) → y < 31 → is_in among y ≡ may_read given w y
may_be given w group among y h are less = are y less ∙ sym ((λ i. h.bricks y i && is_via (via_same given.op i) y) ∙ ap (λ (u : Bool). is_in group.bricks y && u) (named_same (via_in given.op) y))

-- ## What follows the Queries

reads_begin : (x : Ctx) (given : Given) (d e : Account) (group : Group) (among : ℕ) → IsOf x given → d.given ≡ given → HasMembers given group 4 d → IsUnlocked (subject given.op) d e → group.head.kind ≡ File
    → off_in given.op < end_of (off_in given.op) (len_in given.op) group.head.size → AreAmong among group.bricks (via_in given.op) → HereReads x given among group.head.size e (read_asks x (Reads among group.head.size) d)
reads_begin x given d e group among of dg m u file some are =
    let m' = members_unlocked given group 4 d e u m in
    record {
      group = group;
      reading = record {
        members = m';
        unread = λ y. untried 4 (is_read_from (reading_of x given among group.head.size).first) (at e (subject given.op) y).window (only_read (reading_of x given among group.head.size).first) (m'.below y);
        among = λ y q t. asks_among (reading_of x d.given among group.head.size) d y q t;
        start = start_below x.policy x.call (subject given.op) x.geometry.n (let w = x.geometry.least in omega arith) (let w = x.geometry.bricks in omega arith);
      };
      file = file;
      size_is = refl;
      some = some;
      among_are = are;
    }

module _ (x : Ctx) (given : Given) (c : Account) (f : Asks) (d : Account) (isin : IsIn x given c) (none : NonePast (subject given.op) (bricks_of given) d) (r : IsRound (subject given.op) c f d) (idle : IsIdle d) where
  dg : d.given ≡ given
  dg = r.given ∙ isin.given_is

  past : (y : ℕ) → bricks_of given ≤ y → windows given d y ≡ []
  past y le = (none y le).1

  query_goes : (q : ReadStage) (e : Account) (grouped : Grouped) (later : Answer → Type 0) → Short given → HereOpening Shared given Query c f → InOpening Shared Query c f → JudgedIn given (windows given d) later grouped → Judges given.op grouped (Go q)
      → IsUnlocked (subject given.op) d e → HereRead x given q e (read_asks x q d)
  query_goes q e (Found group) later short here l h is u = by group.head.kind refl is
    where
      by : (kind : Kind) → group.head.kind ≡ kind → OfKind kind given.op group (Go q) → HereRead x given q e (read_asks x q d)
      by Dir k v = absurd (go_say q IsDir v)
      by File k (inl v) = absurd (go_say q (Bytes []) v.1)
      by File k (inr (some, among, are, v)) =
          let m = members_begin given Shared group c f d (querying Shared given c f d isin.given_is l here r idle none) here r idle h in
          subst (λ (z : ReadStage). HereRead x given z e (read_asks x z d)) (sym (read_goes among group.head.size q v)) (reads_begin x given d e group among isin.of dg (members_more given group 2 4 d (omega arith) m) u k some are, short)
  query_goes q e (Gone bricks) later short here l h is u = absurd (go_say q NoSuch is)
  query_goes q e (Fewer most) later short here l h is u = absurd (go_say q (NoQuorum QueryPhase most) is)

  abbrev AfterKind : Answer → Type 0
  AfterKind = Else (LacksRange given.op given (windows given d)) IsBytes

  abbrev Later : Answer → Type 0
  Later = Else (IsOfKind Dir IsDir given (windows given d)) (Else (LacksRange given.op given (windows given d)) IsBytes)

  long_not : Short given → (other : Answer) → IsTooLong (len_in given.op) other → ⊥
  long_not short other l = let m = l.0 in let t : nat_lt (2 ^ 20) (len_in given.op) ≡ true = grind (arith, nat_tests) in absurd (let v = sym short ∙ t in cc)

  -- no bytes lie below the size
  nothing_lacks : (group : Group) → HasGroup given (windows given d) group → end_of (off_in given.op) (len_in given.op) group.head.size ≤ off_in given.op → (other : Answer) → LacksRange given.op given (windows given d) other → ⊥
  nothing_lacks group h le other (head, is, some, lacks) =
      let same = one_head given (windows given d) head group.head is h.head in
      let less : off_in given.op < end_of (off_in given.op) (len_in given.op) group.head.size = subst (λ (z : Head). off_in given.op < end_of (off_in given.op) (len_in given.op) z.size) (sym same) some in
      absurd (omega (arith, le, less))

  -- no brick may be read
  none_named : (group : Group) (among : ℕ) → HasMembers given group 4 d → IsRead given.op → off_in given.op < end_of (off_in given.op) (len_in given.op) group.head.size → AreAmong among group.bricks (via_in given.op) → count_below 31 (is_in among) ≡ 0
      → LacksRange given.op given (windows given d) (NoQuorum ReadPhase 0)
  none_named group among m is some are zero = (
    group.head,
    m.group_is.head,
    some,
    record {
      asked = λ few y less t. absurd (let l = counted y (below31 y less) (may_be given (windows given d) group among y m.group_is are (below31 y less) ∙ t) in omega (arith, l, zero));
      few = (let e = none_read in let w = given.geometry.majority in omega (arith, e, w));
      answer_is = ap (NoQuorum ReadPhase) (sym none_read);
    },
  )
    where
      below31 : (y : ℕ) → y < bricks_of given → y < 31
      below31 y less = (let w = given.geometry.bricks in omega (arith, less, w))

      counted : (y : ℕ) → y < 31 → is_in among y ≡ true → 0 < count_below 31 (is_in among)
      counted y less t = Rattle.ec_law_causes.proofs.Walking.counts_one 31 (is_in among) y less t

      none_read : number_read given (windows given d) (off_in given.op / stripe_bytes (quorum_of given)) ≡ 0
      none_read = count_of_none (bricks_of given) (λ y. is_grouped given (windows given d) y && gives given.op (reply_to (is_read_from (off_in given.op / stripe_bytes (quorum_of given))) (windows given d y))) (λ y.
          let e = unreplied (is_read_from (off_in given.op / stripe_bytes (quorum_of given))) (windows given d y) (untried 4 (is_read_from (off_in given.op / stripe_bytes (quorum_of given))) (windows given d y) (only_read (off_in given.op / stripe_bytes (quorum_of given))) (m.below y)) in
          ap (λ (o : Option Reply). is_grouped given (windows given d) y && gives given.op o) e ∙ (ap (λ (u : Bool). is_grouped given (windows given d) y && u) (gives_read given.op is None) ∙ and_false (is_grouped given (windows given d) y)))
        where
          and_false : (a : Bool) → (a && false) ≡ false
          and_false true = refl
          and_false false = refl

  query_says : (answer : Answer) (grouped : Grouped) → Short given → IsRead given.op → HereOpening Shared given Query c f → InOpening Shared Query c f → JudgedIn given (windows given d) Later grouped → Judges given.op grouped (Say answer) → read_causes given.op given (windows given d) answer
  query_says answer (Found group) short is here l h v = inr (long_not short, opens_group given (windows given d) group Later answer h (by group.head.kind refl v))
    where
      by : (kind : Kind) → group.head.kind ≡ kind → OfKind kind given.op group (Say answer) → Later answer
      by Dir k v = inl (group.head, h.head, k, say_same answer IsDir (Say answer) refl v)
      by File k (inl v) = inr (not_dir given (windows given d) group.head IsDir h.head k, inr (nothing_lacks group h v.0, ([], say_same answer (Bytes []) (Say answer) refl v.1)))
      by File k (inr (some, among, are, v)) =
          let w = read_says among group.head.size answer v in
          let m = members_more given group 2 4 d (omega arith) (members_begin given Shared group c f d (querying Shared given c f d isin.given_is l here r idle none) here r idle h) in
          inr (not_dir given (windows given d) group.head IsDir h.head k, inl (subst (LacksRange given.op given (windows given d)) (sym w.1) (none_named group among m is some are w.0)))
  query_says answer (Gone bricks) short is here l h v = inr (long_not short, subst (Opens given (windows given d) Later) (sym (say_same answer NoSuch (Say answer) refl v)) h)
  query_says answer (Fewer most) short is here l h v = inr (long_not short, subst (Opens given (windows given d) Later) (sym (say_same answer (NoQuorum QueryPhase most) (Say answer) refl v)) h)

  -- ## The chunks

  module _ (among size : ℕ) (here : HereReads x given among size c f) (l : InRead x (Reads among size) c f) (short : Short given) (is : IsRead given.op) where
    abbrev reading : Reading
    reading = reading_of x given among size

    abbrev group : Group
    group = here.group

    is_reading : IsReading (subject given.op) (bricks_of given) (reading_of x given among size) c f
    is_reading = subst (λ (v : Given). IsReading (subject v.op) (bricks_of v) (reading_of x v among size) c f) isin.given_is l

    members : HasMembers given here.group 5 d
    members = reading_members given here.group 4 (reading_of x given among size) c f d isin.given_is here.reading is_reading r idle 5 (omega arith) (omega arith)

    among_is : (y : ℕ) → y < 31 → is_in among y ≡ may_read given (windows given d) y
    among_is y less = may_be given (windows given d) here.group among y members.group_is here.among_are less

    grouped : (y : ℕ) → y < 31 → is_in among y ≡ true → is_grouped given (windows given d) y ≡ true
    grouped y less t = (and_parts (is_grouped given (windows given d) y) (is_via (via_of given.op) y) (sym (among_is y less) ∙ t)).0

    gave_count : count_below 31 (λ y. is_in among y && has_chunks (reply_to (is_read_from (off_in given.op / stripe_bytes (quorum_of given))) (windows given d y))) ≡ count_below (bricks_of given) (λ y. is_grouped given (windows given d) y && has_chunks (reply_to (is_read_from (off_in given.op / stripe_bytes (quorum_of given))) (windows given d y)))
    gave_count = count_gave given here.group 4 (reading_of x given among size) c f d isin.given_is here.reading is_reading r idle has_chunks refl (λ y less t. grouped y (let w = given.geometry.bricks in omega (arith, less, w)) t)

    done_count : count_below 31 (is_done (reading_of x given among size) (places_of d (subject given.op)) (replied d (subject given.op))) ≡ number_read given (windows given d) (off_in given.op / stripe_bytes (quorum_of given))
    done_count =
        ap (count_below 31) (fun_ext (λ y. ap (λ (u : Bool). is_in among y && u) (gave_at given here.group 4 (reading_of x given among size) c f d isin.given_is here.reading is_reading r idle has_chunks refl y)))
        ∙ (gave_count ∙ ap (count_below (bricks_of given)) (fun_ext (λ y. ap (λ (u : Bool). is_grouped given (windows given d) y && u) (sym (gives_read given.op is (reply_to (is_read_from (off_in given.op / stripe_bytes (quorum_of given))) (windows given d y)))))))

    some_here : off_in given.op < end_of (off_in given.op) (len_in given.op) here.group.head.size
    some_here = here.some

    lacks : (asked_again (read_table x) (Reads among size) d ≡ []) → count_below 31 (is_done (reading_of x given among size) (places_of d (subject given.op)) (replied d (subject given.op))) < quorum_of given
        → LacksRange given.op given (windows given d) (NoQuorum ReadPhase (count_below 31 (is_done (reading_of x given among size) (places_of d (subject given.op)) (replied d (subject given.op)))))
    lacks quiet few = (
      here.group.head,
      members.group_is.head,
      here.some,
      record {
        asked = λ wants y less t. none_left given here.group 4 (reading_of x given among size) c f d isin.given_is here.reading is_reading r idle (subst (λ (n : ℕ). n < quorum_of given) (sym gave_count) wants) held nobody y less (among_is y (let w = given.geometry.bricks in omega (arith, less, w)) ∙ t);
        few = subst (λ (n : ℕ). n < quorum_of given) done_count few;
        answer_is = ap (NoQuorum ReadPhase) done_count;
      },
    )
      where
        held : (y : ℕ) → y < 31 → is_in among y ≡ true → (y < bricks_of given) × (Rattle.ec_conduct.specs.Standing.is_held (at d (subject given.op) y).inode ≡ true)
        held y less t = (grouped_below given (windows given d) y past (grouped y less t), members.locked y (sym (members.group_is.bricks y) ∙ grouped y less t))

        nobody : (y : ℕ) → y < bricks_of given → asked_if (is_chosen (quorum_of given) (reading_of x given among size) (places_of d (subject given.op)) (replied d (subject given.op)) y && nat_lt y (bricks_of given)) (at d (subject given.op) y).inode (chunks_of (subject given.op) (reading_of x given among size)) ≡ None
        nobody = subst (λ (v : Given). (y : ℕ) → y < bricks_of v → asked_if (is_chosen (quorum_of v) (reading_of x v among size) (places_of d (subject v.op)) (replied d (subject v.op)) y && nat_lt y (bricks_of v)) (at d (subject v.op) y).inode (chunks_of (subject v.op) (reading_of x v among size)) ≡ None) dg
            (λ y less. Rattle.ec_law_causes.proofs.Walking.quiet_round (bricks_of d.given) (where_so true (read_asks x (Reads among size) d)) quiet y less)

    reads_say : (answer : Answer) → asked_again (read_table x) (Reads among size) d ≡ [] → ReadFollows x (Reads among size) d (Say answer) → read_causes given.op given (windows given d) answer
    reads_say answer quiet follows = inr (long_not short, opens_group given (windows given d) here.group Later answer members.group_is (inr (not_dir given (windows given d) here.group.head IsDir members.group_is.head here.file, by ends)))
      where
        ends : EndsBy (quorum_of given) given.geometry.algorithm (reading_of x given among size) (places_of d (subject given.op)) (replied d (subject given.op)) (off_in given.op) (end_of (off_in given.op) (len_in given.op) size) (Say answer)
        ends = subst (λ (v : Given). EndsBy (quorum_of v) v.geometry.algorithm (reading_of x v among size) (places_of d (subject v.op)) (replied d (subject v.op)) (off_in v.op) (end_of (off_in v.op) (len_in v.op) size) (Say answer)) dg follows

        by : EndsBy (quorum_of given) given.geometry.algorithm (reading_of x given among size) (places_of d (subject given.op)) (replied d (subject given.op)) (off_in given.op) (end_of (off_in given.op) (len_in given.op) size) (Say answer) → Else (LacksRange given.op given (windows given d)) IsBytes answer
        by (inl (few, v)) = inl (subst (LacksRange given.op given (windows given d)) (sym (say_same answer (NoQuorum ReadPhase (count_below 31 (is_done (reading_of x given among size) (places_of d (subject given.op)) (replied d (subject given.op))))) (Say answer) refl v)) (lacks quiet few))
        by (inr (bytes, gave, v)) = inr (enough, (bytes, say_same answer (Bytes bytes) (Say answer) refl v))
          where
            enough : (other : Answer) → LacksRange given.op given (windows given d) other → ⊥
            enough other lack =
                let more = part 31 (is_in gave.which) (is_done (reading_of x given among size) (places_of d (subject given.op)) (replied d (subject given.op))) (λ y less t. gave.done y t) in
                let e = gave.enough in
                let same = done_count in
                let few = lack.3.few in
                absurd (omega (arith, more, e, same, few))

-- ## The table

pub read_kept : (x : Ctx) → IsKept x (read_table x) (DuringRead x) (HereRead x)
read_kept x = record {
  begins = λ given q of s. (let w = first_goes (len_in given.op) q s.1 in subst (λ (z : ReadStage). HereRead x given z (opened given) (read_asks x z (opened given))) (sym w.1) (opening_here Shared given of.kept, w.0));
  goes = λ given p q c f d e isin none dur here r idle quiet follows isin' u. go given p q c f d e isin none dur.1 here r idle follows u;
  again = λ given p c f d t isin dur here r. again given p c f d t isin here r;
}
  where
    go : (given : Given) (p q : ReadStage) (c : Account) (f : Asks) (d e : Account) → IsIn x given c → NonePast (subject given.op) (bricks_of given) d → InRead x p c f → HereRead x given p c f → IsRound (subject given.op) c f d → IsIdle d
        → ReadFollows x p d (Go q) → IsUnlocked (subject given.op) d e → HereRead x given q e (read_asks x q d)
    go given (OpensAt (Locking brick)) q c f d e isin none dur here r idle follows u = lock_goes OpensAt Shared ReadJudges given brick c f d isin.given_is (r.given ∙ isin.given_is) dur here.0 r idle (read_asks x) (HereRead x) (λ o a k i. (i, here.1)) (λ o a. refl) q e follows u
    go given (OpensAt Query) q c f d e isin none dur here r idle (grouped, comes, is) u =
        query_goes x given c f d isin none r idle q e grouped (λ answer. ⊥) here.1 here.0 dur (judged given d (r.given ∙ isin.given_is) (queried Shared given c f d isin.given_is dur here.0 r idle none) (λ answer. ⊥) grouped comes) (subst (λ (v : Given). Judges v.op grouped (Go q)) (r.given ∙ isin.given_is) is) u
    go given (Reads among size) q c f d e isin none dur here r idle (inl (few, v)) u = absurd (go_say q (NoQuorum ReadPhase (count_below 31 (is_done (reading_of x d.given among size) (places_of d (subject d.given.op)) (replied d (subject d.given.op))))) v)
    go given (Reads among size) q c f d e isin none dur here r idle (inr (bytes, gave, v)) u = absurd (go_say q (Bytes bytes) v)

    again : (given : Given) (p : ReadStage) (c : Account) (f : Asks) (d : Account) → Rattle.ec_read.specs.Read.read_again p ≡ true → IsIn x given c → HereRead x given p c f → IsRound (subject given.op) c f d → HereRead x given p c (Rattle.ec_txn.specs.Rounds.joined f (read_asks x p d))
    again given (OpensAt o) c f d t isin here r = absurd (let v : false ≡ true = t in cc)
    again given (Reads among size) c f d t isin here r = (
      record {
        group = here.0.group;
        reading = subst (λ (v : Given). HereReading given here.0.group 4 (reading_of x given among size) c (Rattle.ec_txn.specs.Rounds.joined f (reading_asks (reading_of x v among size) d))) (sym (r.given ∙ isin.given_is)) (here_again given here.0.group 4 (reading_of x given among size) c f d here.0.reading);
        file = here.0.file;
        size_is = here.0.size_is;
        some = here.0.some;
        among_are = here.0.among_are;
      },
      here.1,
    )

pub read_tells : (x : Ctx) → Tells x (read_table x) (DuringRead x) (HereRead x) (λ given w. read_causes given.op given w)
read_tells x = record {
  first = λ given answer of s. inl (first_says (len_in given.op) answer s.1);
  last = λ given p answer c f d isin none dur here r idle quiet follows. last given p answer c f d isin none dur here r idle quiet follows;
}
  where
    last : (given : Given) (p : ReadStage) (answer : Answer) (c : Account) (f : Asks) (d : Account) → IsIn x given c → NonePast (subject given.op) (bricks_of given) d → DuringRead x p c f → HereRead x given p c f → IsRound (subject given.op) c f d → IsIdle d
        → asked_again (read_table x) p d ≡ [] → ReadFollows x p d (Say answer) → read_causes given.op given (windows given d) answer
    last given (OpensAt (Locking brick)) answer c f d isin none dur here r idle quiet follows = inr (long_not x given c f d isin none r idle here.1, lock_says OpensAt Shared ReadJudges given brick c f d isin.given_is (r.given ∙ isin.given_is) dur.1 here.0 r idle (Later x given c f d isin none r idle) answer follows)
    last given (OpensAt Query) answer c f d isin none dur here r idle quiet (grouped, comes, is) =
        query_says x given c f d isin none r idle answer grouped here.1 (subst (λ (v : Given). IsRead v.op) isin.given_is dur.0) here.0 dur.1 (judged given d (r.given ∙ isin.given_is) (queried Shared given c f d isin.given_is dur.1 here.0 r idle none) (Later x given c f d isin none r idle) grouped comes) (subst (λ (v : Given). Judges v.op grouped (Say answer)) (r.given ∙ isin.given_is) is)
    last given (Reads among size) answer c f d isin none dur here r idle quiet follows = reads_say x given c f d isin none r idle among size here.0 dur.1 here.1 (subst (λ (v : Given). IsRead v.op) isin.given_is dur.0) answer quiet follows
