-- The table of a readdir keeps the conduct.
use Rattle.std.proofs.Common.{◌≡◌, ◌⊎◌, ⊎_elim, false, true, refl, sym, ◌∙◌, ap, subst, arith, ◌&&◌, nat_lt, ℕ, ◌<◌, Option, Some, None, List, [], ◌++◌}
use Rattle.std.proofs.lemmas.Bool.{and_parts}
use Rattle.std.proofs.lemmas.Bool.Decides.{nat_tests}
use Rattle.ec_attr.specs.Bricks.{is_in}
use Rattle.ec_attr.specs.declared.kind.Kind.{Kind}
use Rattle.ec_attr.specs.declared.kind.Kind.TheVariants.{File, Dir}
use Rattle.ec_attr.specs.declared.kind.LockKind.TheVariants.{Shared}
use Rattle.ec_answers.specs.declared.grouped.Grouped.{Grouped}
use Rattle.ec_answers.specs.declared.grouped.Grouped.TheVariants.{Group as Found, Gone, Fewer}
use Rattle.ec_conduct.specs.Account.{Account, at}
use Rattle.ec_conduct.specs.Conduct.{IsEarned, MaySend}
use Rattle.ec_conduct.specs.Given.{Given, bricks_of, quorum_of}
use Rattle.ec_conduct.specs.Opened.{opened}
use Rattle.ec_store.specs.Pages.{Page}
use Rattle.ec_txn.specs.declared.ctx.Ctx.{Ctx}
use Rattle.ec_txn.specs.declared.opening.Opening.TheVariants.{Lock, Query}
use Rattle.ec_txn.specs.declared.stage.Next.TheVariants.{Go, Say}
use Rattle.ec_txn.specs.Ballot.{serving}
use Rattle.ec_txn.specs.Rounds.{Asks, IsIdle, IsOn, IsRound, IsSent, IsUnlocked, subject}
use Rattle.ec_txn.specs.Fetching.{IsFetch, IsFetching}
use Rattle.ec_txn.specs.Replies.{replied}
use Rattle.ec_txn.specs.Tables.{IsIn, IsOf, IsSound}
use Rattle.ec_txn.proofs.Ballots.{grant_is, serving_is}
use Rattle.ec_txn.proofs.Fetching.{fetch_may, fetch_on, within}
use Rattle.ec_txn.proofs.Openings.{lock_goes, opening_begins, opening_may, opening_on}
use Rattle.ec_wire.specs.declared.answer.Answer.{Answer}
use Rattle.ec_wire.specs.declared.answer.Answer.TheVariants.{Names as NamesAre, NotDir, NoQuorum, NoSuch}
use Rattle.ec_wire.specs.declared.op.Op.{Op}
use Rattle.ec_wire.specs.declared.op.Op.TheVariants.{Write, Truncate, Read, Stat, Create, Mkdir, Unlink, Lookup, Readdir, Heal, SetAttr, GetAttr, Rename, Rmdir, Scrub, Sweep}
use Rattle.ec_wire.specs.declared.phase.Phase.TheVariants.{Query as QueryPhase, Names as NamesPhase}
use Rattle.ec_wire.specs.declared.request.Request.{Request}
use Rattle.ec_wire.specs.declared.request.Request.TheVariants.{NamesAfter}
use Rattle.ec_entry.specs.declared.readdir.ReaddirStage.{ReaddirStage}
use Rattle.ec_entry.specs.declared.readdir.ReaddirStage.TheVariants.{Opens, Names}
use Rattle.ec_entry.specs.Members.{under_grant}
use Rattle.ec_entry.specs.Paging.{Entries, count_paged, paged}
use Rattle.ec_entry.specs.Readdir.{DuringReaddir, InReaddir, IsReaddir, PageFollows, ReaddirJudges, goes_on, names_asks, of_kind, readdir_asks, readdir_next, readdir_table}

-- a readdir changes nothing, so that it may answer anything
earns : (c : Account) (op : Op) (answer : Answer) → IsReaddir op → IsEarned c op answer
earns c (Lookup g name) answer i = absurd i
earns c (Stat g) answer i = absurd i
earns c (Write g off bytes) answer i = absurd i
earns c (Truncate g size) answer i = absurd i
earns c (Read g off len via) answer i = absurd i
earns c (Create g name) answer i = absurd i
earns c (Mkdir g name) answer i = absurd i
earns c (Unlink g name) answer i = absurd i
earns c (Readdir g) answer i = tt
earns c (Heal g) answer i = absurd i
earns c (SetAttr g attr) answer i = absurd i
earns c (GetAttr g) answer i = absurd i
earns c (Rename old name new to) answer i = absurd i
earns c (Rmdir g name) answer i = absurd i
earns c (Scrub g settle) answer i = absurd i
earns c (Sweep full) answer i = absurd i

go_same : (a b : ReaddirStage) → Go a ≡ Go b → a ≡ b
go_same a b e = cc

go_say : (a : ReaddirStage) (b : Answer) → Go a ≡ Say b → ⊥
go_say a b e = cc

of_kind_is : (kind : Kind) (bricks : ℕ) (q : ReaddirStage) → Go q ≡ of_kind kind bricks → q ≡ Names bricks None []
of_kind_is File bricks q e = absurd (go_say q NotDir e)
of_kind_is Dir bricks q e = go_same q (Names bricks None []) e

-- the heads lead to the names, of some bricks
next_is : (grouped : Grouped) (q : ReaddirStage) → Go q ≡ readdir_next grouped → (bricks : ℕ) × (q ≡ Names bricks None [])
next_is (Found group) q e = (group.bricks, of_kind_is group.head.kind group.bricks q e)
next_is (Gone bricks) q e = absurd (go_say q NoSuch e)
next_is (Fewer most) q e = absurd (go_say q (NoQuorum QueryPhase most) e)

-- a round leads to the next one
upto_is : (bricks : ℕ) (upto : Option (List ℕ)) (list : Entries) (q : ReaddirStage) → Go q ≡ goes_on bricks upto list → (past : Option (List ℕ)) × (q ≡ Names bricks past list)
upto_is bricks None list q e = absurd (go_say q (NamesAre list) e)
upto_is bricks (Some upto) list q e = (Some upto, go_same q (Names bricks (Some upto) list) e)

page_is : (k bricks : ℕ) (past : Option (List ℕ)) (list : Entries) (pages : ℕ → Option Page) (q : ReaddirStage) → PageFollows k bricks past list pages (Go q) → (next : Option (List ℕ)) × (more : Entries) × (q ≡ Names bricks next more)
page_is k bricks past list pages q w = ⊎_elim
    (λ v. absurd (go_say q (NoQuorum NamesPhase (count_paged pages)) v.1))
    (λ v. (let t = upto_is bricks v.1 (list ++ v.2) q v.5 in (t.0, list ++ v.2, t.1)))
    w

-- the names are asked for under the locks that are kept

under_is : (o : Option ℕ) (q : ℕ → Request) (r : Request) → under_grant o q ≡ Some r → (i : ℕ) × (o ≡ Some i) × (r ≡ q i)
under_is None q r e = absurd (cc)
under_is (Some i) q r e = (i, refl, (let w : q i ≡ r = cc in sym w))

pub names_fetching : (given : Given) (bits : ℕ) (past : Option (List ℕ)) (d e : Account) → d.given ≡ given → IsUnlocked (subject given.op) d e → IsFetching (subject given.op) (bricks_of given) e (names_asks bits past d)
names_fetching given bits past d e dg u = record {
  asks = λ x r a.
      (let ask = λ (v : Given) (grant : ℕ). NamesAfter (record { 0 = subject v.op }) grant past in
      let w = within (is_in bits x && nat_lt x (bricks_of d.given)) (under_grant (serving (at d (subject d.given.op) x)) (ask d.given)) r a in
      let t : nat_lt x (bricks_of d.given) ≡ true = (and_parts (is_in bits x) (nat_lt x (bricks_of d.given)) w.0).1 in
      let l : x < bricks_of d.given = grind (arith, nat_tests) in
      let k = under_is (serving (at d (subject d.given.op) x)) (ask d.given) r w.1 in
      let s : serving (at d (subject given.op) x) ≡ Some k.0 = subst (λ (v : Given). serving (at d (subject v.op) x) ≡ Some k.0) dg k.1 in
      let h = grant_is (at d (subject given.op) x).inode k.0 (serving_is (at d (subject given.op) x) k.0 s).1 in (
        subst (λ (v : Given). x < bricks_of v) dg l,
        h.0,
        u.kept x h.0 h.1 h.2,
        h.2,
        subst (IsFetch (subject given.op) h.0.number) (sym k.2) (ap (λ (v : Given). subject v.op) dg, sym h.3),
      ));
}

begins : (x : Ctx) (given : Given) (q : ReaddirStage) → IsOf x given → readdir_table.starts given (Go q) → DuringReaddir q (opened given) (readdir_asks q (opened given))
begins x given q of s = subst (λ (o : ReaddirStage). DuringReaddir o (opened given) (readdir_asks o (opened given))) (sym (go_same q (Opens (Lock 0)) s.1)) (s.0, opening_begins x given Shared of)

asks_now : (x : Ctx) (given : Given) (bits : ℕ) (past : Option (List ℕ)) (c d e : Account) → IsIn x given c → d.given ≡ given → IsIn x given e → IsUnlocked (subject given.op) d e → IsFetching (subject e.given.op) (bricks_of e.given) e (names_asks bits past d)
asks_now x given bits past c d e a dg b u = subst (λ (v : Given). IsFetching (subject v.op) (bricks_of v) e (names_asks bits past d)) (sym b.given_is) (names_fetching given bits past d e dg u)

goes : (x : Ctx) (given : Given) (p q : ReaddirStage) (c : Account) (f : Asks) (d e : Account) → IsIn x given c → DuringReaddir p c f → IsRound (subject given.op) c f d → IsIdle d
    → readdir_table.follows p d (Go q) → IsIn x given e → IsUnlocked (subject given.op) d e → DuringReaddir q e (readdir_asks q d)
goes x given (Opens (Lock brick)) q c f d e a l r idle follows b u = (
  subst (λ (v : Given). IsReaddir v.op) (a.given_is ∙ sym b.given_is) l.0,
  lock_goes (λ o. Opens o) ReaddirJudges InReaddir readdir_asks x given Shared brick q c f d e (λ o y h i. i) (λ o y. refl) a l.1 r idle follows b u,
)
goes x given (Opens Query) q c f d e a l r idle follows b u =
    let w = next_is follows.0 q follows.2 in (
      subst (λ (v : Given). IsReaddir v.op) (a.given_is ∙ sym b.given_is) l.0,
      subst (λ (o : ReaddirStage). InReaddir o e (readdir_asks o d)) (sym w.1) (asks_now x given w.0 None c d e a (r.given ∙ a.given_is) b u),
    )
goes x given (Names bricks past list) q c f d e a l r idle follows b u =
    let w = page_is (quorum_of d.given) bricks past list (paged bricks (replied d (subject d.given.op))) q follows in (
      subst (λ (v : Given). IsReaddir v.op) (a.given_is ∙ sym b.given_is) l.0,
      subst (λ (o : ReaddirStage). InReaddir o e (readdir_asks o d)) (sym w.2) (asks_now x given bricks w.0 c d e a (r.given ∙ a.given_is) b u),
    )

fetches_here : (x : Ctx) (given : Given) (c : Account) (f : Asks) → IsIn x given c → IsFetching (subject c.given.op) (bricks_of c.given) c f → IsFetching (subject given.op) (bricks_of given) c f
fetches_here x given c f a l = subst (λ (v : Given). IsFetching (subject v.op) (bricks_of v) c f) a.given_is l

on : (x : Ctx) (given : Given) (p : ReaddirStage) (c : Account) (f : Asks) → IsIn x given c → DuringReaddir p c f → IsOn (subject given.op) (bricks_of given) (c.on (subject given.op)).queried f
on x given (Opens o) c f a l = opening_on x given Shared o c f a l.1
on x given (Names bricks past list) c f a l = fetch_on (subject given.op) (bricks_of given) (c.on (subject given.op)).queried c f (fetches_here x given c f a l.1)

may : (x : Ctx) (given : Given) (p : ReaddirStage) (c : Account) (f h : Asks) (d : Account) → IsIn x given c → DuringReaddir p c f → IsSent (subject given.op) c h d
    → ((y : ℕ) (r : Request) → h y ≡ Some r → f y ≡ Some r) → (b : ℕ) (r : Request) → f b ≡ Some r → h b ≡ None → MaySend d b r
may x given (Opens o) c f h d a l s part b r e n = opening_may x given Shared o c f h d a l.1 s part b r e n
may x given (Names bricks past list) c f h d a l s part b r e n = fetch_may x given c f h d a (fetches_here x given c f a l.1) s b r e n

pub readdir_sound : (x : Ctx) → IsSound x readdir_table DuringReaddir
readdir_sound x = record {
  begins = begins x;
  earned_first = λ given answer of s. earns (opened given) given.op answer s.0;
  goes = goes x;
  earned = λ given p answer c f d e a l r idle follows u. earns e given.op answer (subst (λ (v : Given). IsReaddir v.op) a.given_is l.0);
  again = λ given p c f d e a l r. absurd (let v : false ≡ true = e in cc);
  on = on x;
  may = may x;
}
