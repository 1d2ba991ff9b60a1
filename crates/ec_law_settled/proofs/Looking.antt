-- A call that only looks sends nothing that alters records.
use Rattle.std.proofs.Common.{◌≡◌, inl, inr, ℕ, ◌+◌, ◌==◌, ◌&&◌, ◌||◌, nat_lt, Bool, true, false, cond, Option, Some, None, List, [], ◌∷◌, ◌++◌, refl, sym, ap, subst, ◌∙◌}
use Rattle.ec_attr.specs.Bricks.{is_in}
use Rattle.ec_attr.specs.declared.kind.Domain.TheVariants.{Inode}
use Rattle.ec_attr.specs.declared.kind.LockKind.{LockKind}
use Rattle.ec_attr.specs.declared.kind.LockKind.TheVariants.{Shared}
use Rattle.ec_conduct.specs.Account.{Account, Lock, at}
use Rattle.ec_conduct.specs.Given.{Given, bricks_of, quorum_of}
use Rattle.ec_conduct.specs.Opened.{account, opened}
use Rattle.ec_conduct.specs.Own.{Own, Sends, Hears, GivesUp, Answers}
use Rattle.ec_conduct.specs.Account.{after}
use Rattle.ec_conduct.specs.Table.{IsByTable, IsByTurns, IsFromOutside, Send, Step, Turned, entries_of, step_entries}
use Rattle.ec_entry.specs.GetAttr.{getattr_table}
use Rattle.ec_entry.specs.Lookup.{lookup_table, name_in}
use Rattle.ec_entry.specs.Members.{under_grant}
use Rattle.ec_entry.specs.Readdir.{readdir_table}
use Rattle.ec_entry.specs.declared.lookup.LookupStage.{LookupStage}
use Rattle.ec_entry.specs.declared.lookup.LookupStage.TheVariants.{Opens as OpensLookup, Name}
use Rattle.ec_entry.specs.declared.readdir.ReaddirStage.{ReaddirStage}
use Rattle.ec_entry.specs.declared.readdir.ReaddirStage.TheVariants.{Opens as OpensReaddir, Names}
use Rattle.ec_read.specs.Read.{read_table, reading_of}
use Rattle.ec_read.specs.Stat.{stat_table}
use Rattle.ec_read.specs.declared.read.ReadStage.{ReadStage}
use Rattle.ec_read.specs.declared.read.ReadStage.TheVariants.{Opens as OpensRead, Reads}
use Rattle.ec_txn.specs.Ballot.{serving}
use Rattle.ec_txn.specs.Fetching.{under}
use Rattle.ec_txn.specs.Opening.{opening_asks, query_of}
use Rattle.ec_txn.specs.ReadPhase.{chunks_of, is_chosen, places_of}
use Rattle.ec_txn.specs.Replies.{replied}
use Rattle.ec_txn.specs.Rounds.{IsFirst, IsTaken, give_back, round, subject, unlock, where_so}
use Rattle.ec_txn.specs.Tables.{Begins, Goes, Table}
use Rattle.ec_txn.specs.declared.ctx.Ctx.{Ctx}
use Rattle.ec_txn.specs.declared.opening.Opening.{Opening}
use Rattle.ec_txn.specs.declared.opening.Opening.TheVariants.{Lock as Locking, Query}
use Rattle.ec_txn.specs.declared.stage.Next.{Next}
use Rattle.ec_txn.specs.declared.stage.Next.TheVariants.{Go, Say}
use Rattle.ec_wire.specs.declared.answer.Answer.{Answer}
use Rattle.ec_wire.specs.declared.request.Request.{Request}
use Rattle.ec_wire.specs.declared.request.Request.TheVariants.{Ask, NameGet, NamesAfter, Query as QueryOf, Release}
use Rattle.ec_law_calls.proofs.Asking.{where_is}
use Rattle.ec_law_calls.proofs.Clean.{Each}
use Rattle.ec_law_calls.proofs.Sends.{IsRelease, each_append, each_round, each_weaker, give_back_releases, unlock_releases}
use Rattle.ec_law_settled.specs.Looking.{has_altering, is_altering}
use Rattle.ec_law_settled.specs.Unchanged.{alters}

-- ## Own entries

or_both : (t u : Bool) → (t || u) ≡ false → (t ≡ false) × (u ≡ false)
or_both true u e = absurd (cc)
or_both false u e = (refl, e)

or_none : (t u : Bool) → t ≡ false → u ≡ false → (t || u) ≡ false
or_none true u e f = absurd (cc)
or_none false u e f = f

none_own : (xs ys : List Own) → has_altering xs ≡ false → has_altering ys ≡ false → has_altering (xs ++ ys) ≡ false
none_own [] ys h k = k
none_own (x ∷ xs) ys h k = let w = or_both (is_altering x) (has_altering xs) h in or_none (is_altering x) (has_altering (xs ++ ys)) w.0 (none_own xs ys w.1 k)

abbrev IsLook : ℕ → Request → Type 0
IsLook x r = alters r ≡ false

entries_look : (i : ℕ) (ss : List Send) (answer : Option Answer) → Each IsLook ss → has_altering (entries_of i ss answer) ≡ false
entries_look i [] None h = refl
entries_look i [] (Some a) h = refl
entries_look i (s ∷ ss) answer h = or_none (alters s.1) (has_altering (entries_of (i + 1) ss answer)) h.0 (entries_look (i + 1) ss answer h.1)

release_looks : (x : ℕ) (r : Request) → IsRelease x r → IsLook x r
release_looks x (Release g grant) e = refl
release_looks x r e = absurd (cc)

outside_look : (what : Own) → IsFromOutside what → is_altering what ≡ false
outside_look (Sends b i r) o = absurd o
outside_look (Hears b i reply) o = refl
outside_look (GivesUp b i) o = refl
outside_look (Answers a) o = absurd o

-- ## Along the turns

module _ {P : Type 0} (t : Table P) (looks : (p : P) (c : Account) (x : ℕ) (r : Request) → t.asks p c x ≡ Some r → alters r ≡ false) where
  released : (c : Account) (g : ℕ) → Each IsLook (unlock c g)
  released c g = each_weaker IsRelease IsLook release_looks (unlock c g) (unlock_releases c g)

  round_looks : (p : P) (c : Account) (n : ℕ) → Each IsLook (round n (t.asks p c))
  round_looks p c n = each_round IsLook n (t.asks p c) (λ x r lt e. looks p c x r e)

  again_looks : (p : P) (c : Account) (n : ℕ) (so : Bool) → Each IsLook (round n (where_so so (t.asks p c)))
  again_looks p c n so = each_round IsLook n (where_so so (t.asks p c)) (λ x r lt e. looks p c x r (where_is so (t.asks p c) x r e))

  taken_looks : (c : Account) (next : Next P) (step : Step P) → IsTaken (subject c.given.op) c (λ q. t.asks q c) next step → Each IsLook step.sends
  taken_looks c (Go q) step is = subst (λ (z : Step P). Each IsLook z.sends) (sym is) (each_append IsLook (unlock c (subject c.given.op)) (round (bricks_of c.given) (t.asks q c)) (released c (subject c.given.op)) (round_looks q c (bricks_of c.given)))
  taken_looks c (Say answer) step is = subst (λ (z : Step P). Each IsLook z.sends) (sym is) (each_append IsLook (unlock c (subject c.given.op)) (give_back c (subject c.given.op)) (released c (subject c.given.op)) (each_weaker IsRelease IsLook release_looks (give_back c (subject c.given.op)) (give_back_releases c (subject c.given.op))))

  step_looks : (p : P) (c : Account) (step : Step P) → Goes t p c step → Each IsLook step.sends
  step_looks p c step (inl (waits, is)) = subst (λ (z : Step P). Each IsLook z.sends) (sym is) (again_looks p c (bricks_of c.given) (t.again p))
  step_looks p c step (inr (idle, quiet, next, follows, is)) = taken_looks c next step is

  first_looks : (given : Given) (next : Next P) (step : Step P) → IsFirst (bricks_of given) (λ q. t.asks q (opened given)) next step → Each IsLook step.sends
  first_looks given (Go q) step is = subst (λ (z : Step P). Each IsLook z.sends) (sym is) (round_looks q (opened given) (bricks_of given))
  first_looks given (Say answer) step is = subst (λ (z : Step P). Each IsLook z.sends) (sym is) tt

  by_turns : (given : Given) (ts : List (Turned P)) (es : List Own) (stage : Option P) → IsByTurns (Begins t) (Goes t) given ts es stage → has_altering es ≡ false
  by_turns given [] es stage (i, step, begins, entries, is) = ap has_altering entries ∙ entries_look i step.sends step.answer (first_looks given begins.0 step begins.2)
  by_turns given (turn ∷ ts) es stage (earlier, before, by, outside, went, entries, is) =
      ap has_altering entries ∙ none_own earlier (turn.what ∷ step_entries turn.number turn.step) (by_turns given ts earlier (Some before) by)
      (or_none (is_altering turn.what) (has_altering (step_entries turn.number turn.step)) (outside_look turn.what outside) (entries_look turn.number turn.step.sends turn.step.answer (step_looks before (after (account given earlier) turn.what) turn.step went)))

  pub by_table : (given : Given) (es : List Own) (stage : Option P) → IsByTable (Begins t) (Goes t) given es stage → has_altering es ≡ false
  by_table given es stage (ts, by) = by_turns given ts es stage by

-- ## The tables

abbrev alters_in : Option Request → Bool
alters_in None = false
alters_in (Some r) = alters r

some_looks : (o : Option Request) (r : Request) → o ≡ Some r → alters_in o ≡ false → alters r ≡ false
some_looks o r e h = sym (ap alters_in e) ∙ h

when_looks : (t : Bool) (o : Option Request) → alters_in o ≡ false → alters_in (cond t o None) ≡ false
when_looks true o h = h
when_looks false o h = refl

under_looks : (o : Option Lock) (q : ℕ → Request) → ((grant : ℕ) → alters (q grant) ≡ false) → alters_in (under o q) ≡ false
under_looks None q h = refl
under_looks (Some lock) q h = when_looks lock.granted (Some (q lock.number)) (h lock.number)

grant_looks : (o : Option ℕ) (q : ℕ → Request) → ((grant : ℕ) → alters (q grant) ≡ false) → alters_in (under_grant o q) ≡ false
grant_looks None q h = refl
grant_looks (Some grant) q h = h grant

query_looks : (g : ℕ) (o : Option Lock) → alters_in (query_of g o) ≡ false
query_looks g None = refl
query_looks g (Some lock) = when_looks lock.granted (Some (QueryOf (record { 0 = g }) lock.number)) refl

opening_looks : (kind : LockKind) (o : Opening) (c : Account) (x : ℕ) → alters_in (opening_asks kind o c x) ≡ false
opening_looks kind (Locking brick) c x = when_looks (x == brick) (Some (Ask (record { 0 = subject c.given.op }) Inode kind)) refl
opening_looks kind Query c x = when_looks (nat_lt x (bricks_of c.given)) (query_of (subject c.given.op) (at c (subject c.given.op) x).inode) (query_looks (subject c.given.op) (at c (subject c.given.op) x).inode)

pub stat_looks : (p : Opening) (c : Account) (x : ℕ) (r : Request) → stat_table.asks p c x ≡ Some r → alters r ≡ false
stat_looks p c x r e = some_looks (stat_table.asks p c x) r e (opening_looks Shared p c x)

pub getattr_looks : (p : Opening) (c : Account) (x : ℕ) (r : Request) → getattr_table.asks p c x ≡ Some r → alters r ≡ false
getattr_looks p c x r e = some_looks (getattr_table.asks p c x) r e (opening_looks Shared p c x)

pub lookup_looks : (p : LookupStage) (c : Account) (x : ℕ) (r : Request) → lookup_table.asks p c x ≡ Some r → alters r ≡ false
lookup_looks (OpensLookup o) c x r e = some_looks (lookup_table.asks (OpensLookup o) c x) r e (opening_looks Shared o c x)
lookup_looks (Name bricks) c x r e = some_looks (lookup_table.asks (Name bricks) c x) r e
    (when_looks (is_in bricks x && nat_lt x (bricks_of c.given)) (under (at c (subject c.given.op) x).inode (λ grant. NameGet (record { 0 = subject c.given.op }) grant (name_in c.given.op)))
    (under_looks (at c (subject c.given.op) x).inode (λ grant. NameGet (record { 0 = subject c.given.op }) grant (name_in c.given.op)) (λ grant. refl)))

pub readdir_looks : (p : ReaddirStage) (c : Account) (x : ℕ) (r : Request) → readdir_table.asks p c x ≡ Some r → alters r ≡ false
readdir_looks (OpensReaddir o) c x r e = some_looks (readdir_table.asks (OpensReaddir o) c x) r e (opening_looks Shared o c x)
readdir_looks (Names bricks past list) c x r e = some_looks (readdir_table.asks (Names bricks past list) c x) r e
    (when_looks (is_in bricks x && nat_lt x (bricks_of c.given)) (under_grant (serving (at c (subject c.given.op) x)) (λ grant. NamesAfter (record { 0 = subject c.given.op }) grant past))
    (grant_looks (serving (at c (subject c.given.op) x)) (λ grant. NamesAfter (record { 0 = subject c.given.op }) grant past) (λ grant. refl)))

pub read_looks : (ctx : Ctx) (p : ReadStage) (c : Account) (x : ℕ) (r : Request) → (read_table ctx).asks p c x ≡ Some r → alters r ≡ false
read_looks ctx (OpensRead o) c x r e = some_looks ((read_table ctx).asks (OpensRead o) c x) r e (opening_looks Shared o c x)
read_looks ctx (Reads among size) c x r e = some_looks ((read_table ctx).asks (Reads among size) c x) r e
    (when_looks (is_chosen (quorum_of c.given) (reading_of ctx c.given among size) (places_of c (subject c.given.op)) (replied c (subject c.given.op)) x && nat_lt x (bricks_of c.given)) (under (at c (subject c.given.op) x).inode (chunks_of (subject c.given.op) (reading_of ctx c.given among size)))
    (under_looks (at c (subject c.given.op) x).inode (chunks_of (subject c.given.op) (reading_of ctx c.given among size)) (λ grant. refl)))
