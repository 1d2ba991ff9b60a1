-- The table of a lookup keeps the conduct.
use Rattle.std.proofs.Common.{◌≡◌, false, true, refl, sym, ◌∙◌, ap, subst, ℕ, Some, None}
use Rattle.ec_attr.specs.declared.kind.Kind.{Kind}
use Rattle.ec_attr.specs.declared.kind.Kind.TheVariants.{File, Dir}
use Rattle.ec_attr.specs.declared.kind.LockKind.TheVariants.{Shared}
use Rattle.ec_answers.specs.declared.grouped.Grouped.{Grouped}
use Rattle.ec_answers.specs.declared.grouped.Grouped.TheVariants.{Group as Found, Gone, Fewer}
use Rattle.ec_conduct.specs.Account.{Account}
use Rattle.ec_conduct.specs.Conduct.{IsEarned, MaySend}
use Rattle.ec_conduct.specs.Given.{Given, bricks_of}
use Rattle.ec_conduct.specs.Opened.{opened}
use Rattle.ec_txn.specs.declared.ctx.Ctx.{Ctx}
use Rattle.ec_txn.specs.declared.opening.Opening.TheVariants.{Lock, Query}
use Rattle.ec_txn.specs.declared.stage.Next.TheVariants.{Go, Say}
use Rattle.ec_txn.specs.Rounds.{Asks, IsIdle, IsOn, IsRound, IsSent, IsUnlocked, subject}
use Rattle.ec_txn.specs.Fetching.{IsFetching, asks_of}
use Rattle.ec_txn.specs.Tables.{IsIn, IsOf, IsSound}
use Rattle.ec_txn.proofs.Fetching.{fetch_may, fetch_on, fetching}
use Rattle.ec_txn.proofs.Openings.{lock_goes, opening_begins, opening_may, opening_on}
use Rattle.ec_wire.specs.declared.answer.Answer.{Answer}
use Rattle.ec_wire.specs.declared.answer.Answer.TheVariants.{NotDir, NoQuorum, NoSuch}
use Rattle.ec_wire.specs.declared.op.Op.{Op}
use Rattle.ec_wire.specs.declared.op.Op.TheVariants.{Write, Truncate, Read, Stat, Create, Mkdir, Unlink, Lookup, Readdir, Heal, SetAttr, GetAttr, Rename, Rmdir, Scrub, Sweep}
use Rattle.ec_wire.specs.declared.phase.Phase.TheVariants.{Query as QueryPhase}
use Rattle.ec_wire.specs.declared.request.Request.{Request}
use Rattle.ec_wire.specs.declared.request.Request.TheVariants.{NameGet}
use Rattle.ec_entry.specs.declared.lookup.LookupStage.{LookupStage}
use Rattle.ec_entry.specs.declared.lookup.LookupStage.TheVariants.{Opens, Name}
use Rattle.ec_entry.specs.Lookup.{DuringLookup, InLookup, IsLookup, LookupJudges, lookup_answer, lookup_asks, lookup_next, lookup_table, name_in, of_kind}

-- a lookup changes nothing, so that it may answer anything
earns : (c : Account) (op : Op) (answer : Answer) → IsLookup op → IsEarned c op answer
earns c (Lookup g name) answer i = tt
earns c (Stat g) answer i = absurd i
earns c (Write g off bytes) answer i = absurd i
earns c (Truncate g size) answer i = absurd i
earns c (Read g off len via) answer i = absurd i
earns c (Create g name) answer i = absurd i
earns c (Mkdir g name) answer i = absurd i
earns c (Unlink g name) answer i = absurd i
earns c (Readdir g) answer i = absurd i
earns c (Heal g) answer i = absurd i
earns c (SetAttr g attr) answer i = absurd i
earns c (GetAttr g) answer i = absurd i
earns c (Rename old name new to) answer i = absurd i
earns c (Rmdir g name) answer i = absurd i
earns c (Scrub g settle) answer i = absurd i
earns c (Sweep full) answer i = absurd i

go_same : (a b : LookupStage) → Go a ≡ Go b → a ≡ b
go_same a b e = cc

go_say : (a : LookupStage) (b : Answer) → Go a ≡ Say b → ⊥
go_say a b e = cc

of_kind_is : (kind : Kind) (bricks : ℕ) (q : LookupStage) → Go q ≡ of_kind kind bricks → q ≡ Name bricks
of_kind_is File bricks q e = absurd (go_say q NotDir e)
of_kind_is Dir bricks q e = go_same q (Name bricks) e

-- the heads lead to the name, of some bricks
next_is : (grouped : Grouped) (q : LookupStage) → Go q ≡ lookup_next grouped → (bricks : ℕ) × (q ≡ Name bricks)
next_is (Found group) q e = (group.bricks, of_kind_is group.head.kind group.bricks q e)
next_is (Gone bricks) q e = absurd (go_say q NoSuch e)
next_is (Fewer most) q e = absurd (go_say q (NoQuorum QueryPhase most) e)

begins : (x : Ctx) (given : Given) (q : LookupStage) → IsOf x given → lookup_table.starts given (Go q) → DuringLookup q (opened given) (lookup_asks q (opened given))
begins x given q of s = subst (λ (o : LookupStage). DuringLookup o (opened given) (lookup_asks o (opened given))) (sym (go_same q (Opens (Lock 0)) s.1)) (s.0, opening_begins x given Shared of)

goes : (x : Ctx) (given : Given) (p q : LookupStage) (c : Account) (f : Asks) (d e : Account) → IsIn x given c → DuringLookup p c f → IsRound (subject given.op) c f d → IsIdle d
    → lookup_table.follows p d (Go q) → IsIn x given e → IsUnlocked (subject given.op) d e → DuringLookup q e (lookup_asks q d)
goes x given (Opens (Lock brick)) q c f d e a l r idle follows b u = (
  subst (λ (v : Given). IsLookup v.op) (a.given_is ∙ sym b.given_is) l.0,
  lock_goes (λ o. Opens o) LookupJudges InLookup lookup_asks x given Shared brick q c f d e (λ o y h i. i) (λ o y. refl) a l.1 r idle follows b u,
)
goes x given (Opens Query) q c f d e a l r idle follows b u =
    let w = next_is follows.0 q follows.2 in
    let dg = r.given ∙ a.given_is in
    let ask = λ (grant : ℕ). NameGet (record { 0 = subject d.given.op }) grant (name_in d.given.op) in (
      subst (λ (v : Given). IsLookup v.op) (a.given_is ∙ sym b.given_is) l.0,
      subst (λ (o : LookupStage). InLookup o e (lookup_asks o d)) (sym w.1)
          (subst (λ (v : Given). IsFetching (subject v.op) (bricks_of v) e (asks_of w.0 ask d)) (sym b.given_is)
          (fetching given w.0 ask d e dg u (λ grant. (ap (λ (v : Given). subject v.op) dg, refl)))),
    )
goes x given (Name bricks) q c f d e a l r idle follows b u = absurd (go_say q (lookup_answer follows.0) follows.2)

fetches_here : (x : Ctx) (given : Given) (c : Account) (f : Asks) → IsIn x given c → IsFetching (subject c.given.op) (bricks_of c.given) c f → IsFetching (subject given.op) (bricks_of given) c f
fetches_here x given c f a l = subst (λ (v : Given). IsFetching (subject v.op) (bricks_of v) c f) a.given_is l

on : (x : Ctx) (given : Given) (p : LookupStage) (c : Account) (f : Asks) → IsIn x given c → DuringLookup p c f → IsOn (subject given.op) (bricks_of given) (c.on (subject given.op)).queried f
on x given (Opens o) c f a l = opening_on x given Shared o c f a l.1
on x given (Name bricks) c f a l = fetch_on (subject given.op) (bricks_of given) (c.on (subject given.op)).queried c f (fetches_here x given c f a l.1)

may : (x : Ctx) (given : Given) (p : LookupStage) (c : Account) (f h : Asks) (d : Account) → IsIn x given c → DuringLookup p c f → IsSent (subject given.op) c h d
    → ((y : ℕ) (r : Request) → h y ≡ Some r → f y ≡ Some r) → (b : ℕ) (r : Request) → f b ≡ Some r → h b ≡ None → MaySend d b r
may x given (Opens o) c f h d a l s part b r e n = opening_may x given Shared o c f h d a l.1 s part b r e n
may x given (Name bricks) c f h d a l s part b r e n = fetch_may x given c f h d a (fetches_here x given c f a l.1) s b r e n

pub lookup_sound : (x : Ctx) → IsSound x lookup_table DuringLookup
lookup_sound x = record {
  begins = begins x;
  earned_first = λ given answer of s. earns (opened given) given.op answer s.0;
  goes = goes x;
  earned = λ given p answer c f d e a l r idle follows u. earns e given.op answer (subst (λ (v : Given). IsLookup v.op) a.given_is l.0);
  again = λ given p c f d e a l r. absurd (let v : false ≡ true = e in cc);
  on = on x;
  may = may x;
}
