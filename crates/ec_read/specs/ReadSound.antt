-- The table of a read keeps the conduct.
use Rattle.std.proofs.Common.{◌≡◌, inl, inr, ℕ, ◌^◌, ◌<◌, ◌==◌, ◌&&◌, nat_lt, Bool, true, false, cond, refl, sym, ◌∙◌, ap, subst, arith, Some, None}
use Rattle.std.proofs.lemmas.Bool.{and_parts}
use Rattle.std.proofs.lemmas.Bool.Decides.{nat_tests}
use Rattle.ec_attr.specs.Bricks.{count_below, is_in}
use Rattle.ec_attr.specs.declared.kind.Kind.{Kind}
use Rattle.ec_attr.specs.declared.kind.Kind.TheVariants.{File, Dir}
use Rattle.ec_attr.specs.declared.kind.LockKind.TheVariants.{Shared}
use Rattle.ec_answers.specs.declared.grouped.Group.{Group}
use Rattle.ec_answers.specs.declared.grouped.Grouped.{Grouped}
use Rattle.ec_answers.specs.declared.grouped.Grouped.TheVariants.{Group as Found, Gone, Fewer}
use Rattle.ec_conduct.specs.Account.{Account, Lock as LockOf, at}
use Rattle.ec_conduct.specs.Conduct.{IsEarned, MaySend}
use Rattle.ec_conduct.specs.Given.{Given, bricks_of, quorum_of}
use Rattle.ec_conduct.specs.Opened.{opened}
use Rattle.ec_txn.specs.declared.ctx.Ctx.{Ctx}
use Rattle.ec_txn.specs.declared.opening.Opening.TheVariants.{Lock, Query}
use Rattle.ec_txn.specs.declared.reading.Reading.{Reading}
use Rattle.ec_txn.specs.declared.stage.Next.TheVariants.{Go, Say}
use Rattle.ec_txn.specs.Fetching.{under}
use Rattle.ec_txn.specs.ReadPhase.{IsReading, chunks_of, is_chosen, is_done, places_of, reading_asks}
use Rattle.ec_txn.specs.Replies.{replied}
use Rattle.ec_txn.specs.Rounds.{Asks, IsIdle, IsMore, IsOn, IsRound, IsSent, IsUnlocked, joined, subject}
use Rattle.ec_txn.specs.Tables.{IsIn, IsOf, IsSound}
use Rattle.ec_txn.proofs.Fetching.{fetch_may, fetch_on, under_is, within}
use Rattle.ec_txn.proofs.Openings.{lock_goes, opening_begins, opening_may, opening_on}
use Rattle.ec_txn.proofs.ReadAgain.{law, reading_fetches}
use Rattle.ec_wire.specs.declared.answer.Answer.{Answer}
use Rattle.ec_wire.specs.declared.answer.Answer.TheVariants.{Bytes, IsDir, NoQuorum, NoSuch, TooLong}
use Rattle.ec_wire.specs.declared.op.Op.{Op}
use Rattle.ec_wire.specs.declared.op.Op.TheVariants.{Write, Truncate, Read, Stat, Create, Mkdir, Unlink, Lookup, Readdir, Heal, SetAttr, GetAttr, Rename, Rmdir, Scrub, Sweep}
use Rattle.ec_wire.specs.declared.phase.Phase.TheVariants.{Query as QueryPhase, Read as ReadPhase}
use Rattle.ec_wire.specs.declared.request.Request.{Request}
use Rattle.ec_read.specs.declared.read.ReadStage.{ReadStage}
use Rattle.ec_read.specs.declared.read.ReadStage.TheVariants.{Opens, Reads}
use Rattle.ec_read.specs.Range.{end_of}
use Rattle.ec_read.specs.Read.{DuringRead, InRead, IsRead, Judges, OfKind, ReadFollows, ReadJudges, len_in, off_in, read_asks, read_of, read_table, reading_of}
use Rattle.ec_read.specs.RangeLaws.{few_stripes}

-- a read changes nothing, so that it may answer anything
earns : (c : Account) (op : Op) (answer : Answer) → IsRead op → IsEarned c op answer
earns c (Read g off len via) answer i = tt
earns c (Stat g) answer i = absurd i
earns c (Write g off bytes) answer i = absurd i
earns c (Truncate g size) answer i = absurd i
earns c (Create g name) answer i = absurd i
earns c (Mkdir g name) answer i = absurd i
earns c (Unlink g name) answer i = absurd i
earns c (Lookup g name) answer i = absurd i
earns c (Readdir g) answer i = absurd i
earns c (Heal g) answer i = absurd i
earns c (SetAttr g attr) answer i = absurd i
earns c (GetAttr g) answer i = absurd i
earns c (Rename old name new to) answer i = absurd i
earns c (Rmdir g name) answer i = absurd i
earns c (Scrub g settle) answer i = absurd i
earns c (Sweep full) answer i = absurd i

go_same : (a b : ReadStage) → Go a ≡ Go b → a ≡ b
go_same a b e = cc

go_say : (a : ReadStage) (b : Answer) → Go a ≡ Say b → ⊥
go_say a b e = cc

-- a stage that comes, where else an answer would
goes_by : (t : Bool) (q : ReadStage) (answer : Answer) (p : ReadStage) → Go q ≡ cond t (Say answer) (Go p) → q ≡ p
goes_by true q answer p e = absurd (go_say q answer e)
goes_by false q answer p e = go_same q p e

begins : (x : Ctx) (given : Given) (q : ReadStage) → IsOf x given → (read_table x).starts given (Go q) → DuringRead x q (opened given) ((read_table x).asks q (opened given))
begins x given q of s = subst (λ (o : ReadStage). DuringRead x o (opened given) (read_asks x o (opened given))) (sym (goes_by (nat_lt (2 ^ 20) (len_in given.op)) q (TooLong (len_in given.op)) (Opens (Lock 0)) s.1)) (s.0, opening_begins x given Shared of)

-- what the good group is asked, it may be asked
module _ (x : Ctx) (given : Given) (d e : Account) (among size : ℕ) (dg : d.given ≡ given) (u : IsUnlocked (subject given.op) d e) where
  asked : (r : Reading) (y : ℕ) (q : Request) → reading_asks r d y ≡ Some q
      → (y < bricks_of given) × (lock : LockOf) × ((at e (subject given.op) y).inode ≡ Some lock) × (lock.granted ≡ true) × (q ≡ chunks_of (subject given.op) r lock.number)
  asked r y q a =
      let g = subject d.given.op in
      let w = within (is_chosen (quorum_of d.given) r (places_of d g) (replied d g) y && nat_lt y (bricks_of d.given)) (under (at d g y).inode (chunks_of g r)) q a in
      let t : nat_lt y (bricks_of d.given) ≡ true = (and_parts (is_chosen (quorum_of d.given) r (places_of d g) (replied d g) y) (nat_lt y (bricks_of d.given)) w.0).1 in
      let l : y < bricks_of d.given = grind (arith, nat_tests) in
      let k = under_is (at d g y).inode (chunks_of g r) q w.1 in
      let here : (at d (subject given.op) y).inode ≡ Some k.0 = subst (λ (v : Given). (at d (subject v.op) y).inode ≡ Some k.0) dg k.1 in
      (subst (λ (v : Given). y < bricks_of v) dg l, k.0, u.kept y k.0 here k.2, k.2, subst (λ (v : Given). q ≡ chunks_of (subject v.op) r k.0.number) dg k.3)

  reads : off_in given.op < end_of (off_in given.op) (len_in given.op) size → IsReading (subject given.op) (bricks_of given) (reading_of x given among size) e (reading_asks (reading_of x given among size) d)
  reads l = record {
    fit = few_stripes (quorum_of given) (off_in given.op) (len_in given.op) size (let m = given.geometry.least in omega arith) l;
    asks = asked (reading_of x given among size);
  }

module _ (x : Ctx) (given : Given) (p q : ReadStage) (c : Account) (f : Asks) (d e : Account) (a : IsIn x given c) (l : DuringRead x p c f) (r : IsRound (subject given.op) c f d) (idle : IsIdle d) (b : IsIn x given e) (u : IsUnlocked (subject given.op) d e) where
  dg : d.given ≡ given
  dg = r.given ∙ a.given_is

  is_e : IsRead e.given.op
  is_e = subst (λ (v : Given). IsRead v.op) (a.given_is ∙ sym b.given_is) l.0

  -- of a file with bytes in the range, the group is read
  to_read : (among size : ℕ) (o : ReadStage) → off_in d.given.op < end_of (off_in d.given.op) (len_in d.given.op) size → Go o ≡ read_of among size → InRead x o e (read_asks x o d)
  to_read among size o less w =
      subst (λ (s : ReadStage). InRead x s e (read_asks x s d)) (sym (goes_by (count_below 31 (is_in among) == 0) o (NoQuorum ReadPhase 0) (Reads among size) w))
      (subst (λ (v : Given). IsReading (subject v.op) (bricks_of v) (reading_of x v among size) e (reading_asks (reading_of x d.given among size) d)) (sym b.given_is)
      (subst (λ (v : Given). IsReading (subject given.op) (bricks_of given) (reading_of x given among size) e (reading_asks (reading_of x v among size) d)) (sym dg)
      (reads x given d e among size dg u (subst (λ (v : Given). off_in v.op < end_of (off_in v.op) (len_in v.op) size) dg less))))

  of_kind : (kind : Kind) (group : Group) (o : ReadStage) → OfKind kind d.given.op group (Go o) → InRead x o e (read_asks x o d)
  of_kind File group o (inl w) = absurd (let v = w.1 in go_say o (Bytes Rattle.std.specs.Prelude.[]) v)
  of_kind File group o (inr w) = to_read w.1 group.head.size o w.0 w.3
  of_kind Dir group o w = absurd (go_say o IsDir w)

  of_grouped : (grouped : Grouped) (o : ReadStage) → Judges d.given.op grouped (Go o) → InRead x o e (read_asks x o d)
  of_grouped (Found group) o w = of_kind group.head.kind group o w
  of_grouped (Gone bricks) o w = absurd (go_say o NoSuch w)
  of_grouped (Fewer most) o w = absurd (go_say o (NoQuorum QueryPhase most) w)

  go : (s o : ReadStage) → InRead x s c f → ReadFollows x s d (Go o) → InRead x o e (read_asks x o d)
  go (Opens (Lock brick)) o k w = lock_goes Opens ReadJudges (InRead x) (read_asks x) x given Shared brick o c f d e (λ z y h i. i) (λ z y. refl) a k r idle w b u
  go (Opens Query) o k w = of_grouped w.0 o w.2
  go (Reads among size) o k (inl w) = absurd (let g = subject d.given.op in go_say o (NoQuorum ReadPhase (count_below 31 (is_done (reading_of x d.given among size) (places_of d g) (replied d g)))) w.1)
  go (Reads among size) o k (inr w) = absurd (go_say o (Bytes w.0) w.2)

  goes : (read_table x).follows p d (Go q) → DuringRead x q e ((read_table x).asks q d)
  goes w = (is_e, go p q l.1 w)

again : (x : Ctx) (given : Given) (p : ReadStage) (c : Account) (f : Asks) (d : Account) → (read_table x).again p ≡ true → IsIn x given c → DuringRead x p c f → IsRound (subject given.op) c f d
    → DuringRead x p c (joined f ((read_table x).asks p d)) × IsMore (subject given.op) c f ((read_table x).asks p d)
again x given (Opens opening) c f d t a l r = absurd (let v : false ≡ true = t in cc)
again x given (Reads among size) c f d t a l r =
    let cg = a.given_is in
    let dg : d.given ≡ given = r.given ∙ cg in
    let k : IsReading (subject given.op) (bricks_of given) (reading_of x given among size) c f = subst (λ (v : Given). IsReading (subject v.op) (bricks_of v) (reading_of x v among size) c f) cg l.1 in
    let w = law x given (reading_of x given among size) c f d a k r in
    let ask : reading_asks (reading_of x given among size) d ≡ reading_asks (reading_of x d.given among size) d = ap (λ (v : Given). reading_asks (reading_of x v among size) d) (sym dg) in (
      (
        l.0,
        subst (λ (v : Given). IsReading (subject v.op) (bricks_of v) (reading_of x v among size) c (joined f (reading_asks (reading_of x d.given among size) d))) (sym cg)
            (subst (λ (h : Asks). IsReading (subject given.op) (bricks_of given) (reading_of x given among size) c (joined f h)) ask w.0),
      ),
      subst (λ (h : Asks). IsMore (subject given.op) c f h) ask w.1,
    )

fetches : (x : Ctx) (given : Given) (among size : ℕ) (c : Account) (f : Asks) → IsIn x given c → InRead x (Reads among size) c f → IsReading (subject given.op) (bricks_of given) (reading_of x given among size) c f
fetches x given among size c f a l = subst (λ (v : Given). IsReading (subject v.op) (bricks_of v) (reading_of x v among size) c f) a.given_is l

on : (x : Ctx) (given : Given) (p : ReadStage) (c : Account) (f : Asks) → IsIn x given c → InRead x p c f → IsOn (subject given.op) (bricks_of given) (c.on (subject given.op)).queried f
on x given (Opens opening) c f a l = opening_on x given Shared opening c f a l
on x given (Reads among size) c f a l = fetch_on (subject given.op) (bricks_of given) (c.on (subject given.op)).queried c f (reading_fetches (subject given.op) (bricks_of given) (reading_of x given among size) c f (fetches x given among size c f a l))

may : (x : Ctx) (given : Given) (p : ReadStage) (c : Account) (f h : Asks) (d : Account) → IsIn x given c → InRead x p c f → IsSent (subject given.op) c h d
    → ((y : ℕ) (r : Request) → h y ≡ Some r → f y ≡ Some r) → (b : ℕ) (r : Request) → f b ≡ Some r → h b ≡ None → MaySend d b r
may x given (Opens opening) c f h d a l s part b r e n = opening_may x given Shared opening c f h d a l s part b r e n
may x given (Reads among size) c f h d a l s part b r e n = fetch_may x given c f h d a (reading_fetches (subject given.op) (bricks_of given) (reading_of x given among size) c f (fetches x given among size c f a l)) s b r e n

pub read_sound : (x : Ctx) → IsSound x (read_table x) (DuringRead x)
read_sound x = record {
  begins = begins x;
  earned_first = λ given answer of s. earns (opened given) given.op answer s.0;
  goes = λ given p q c f d e a l r idle follows b u. goes x given p q c f d e a l r idle b u follows;
  earned = λ given p answer c f d e a l r idle follows u. earns e given.op answer (subst (λ (v : Given). IsRead v.op) a.given_is l.0);
  again = again x;
  on = λ given p c f a l. on x given p c f a l.1;
  may = λ given p c f h d a l s part b r e n. may x given p c f h d a l.1 s part b r e n;
}
