-- What calls ask that only read, and that a stage before the PreOps asks.
use Rattle.std.proofs.Common.{◌≡◌, ℕ, ◌&&◌, ◌==◌, nat_lt, Bool, true, false, refl, sym, ◌∙◌, ap, Option, Some, None, List}
use Rattle.ec_attr.specs.Bricks.{is_in}
use Rattle.ec_attr.specs.declared.kind.Domain.TheVariants.{Inode}
use Rattle.ec_attr.specs.declared.kind.LockKind.{LockKind}
use Rattle.ec_attr.specs.declared.kind.LockKind.TheVariants.{Shared}
use Rattle.ec_conduct.specs.Account.{Account, Lock, at}
use Rattle.ec_conduct.specs.Given.{Given, bricks_of, quorum_of}
use Rattle.ec_entry.specs.GetAttr.{getattr_table}
use Rattle.ec_entry.specs.Lookup.{lookup_asks, lookup_table, name_in}
use Rattle.ec_entry.specs.Members.{under_grant}
use Rattle.ec_entry.specs.Readdir.{names_asks, readdir_asks, readdir_table}
use Rattle.ec_entry.specs.declared.lookup.LookupStage.{LookupStage}
use Rattle.ec_entry.specs.declared.lookup.LookupStage.TheVariants.{Name, Opens as LookupOpens}
use Rattle.ec_entry.specs.declared.readdir.ReaddirStage.{ReaddirStage}
use Rattle.ec_entry.specs.declared.readdir.ReaddirStage.TheVariants.{Names, Opens as ReaddirOpens}
use Rattle.ec_read.specs.Read.{read_asks, read_table, reading_of}
use Rattle.ec_read.specs.Stat.{stat_table}
use Rattle.ec_read.specs.declared.read.ReadStage.{ReadStage}
use Rattle.ec_read.specs.declared.read.ReadStage.TheVariants.{Opens as ReadOpens, Reads}
use Rattle.ec_txn.specs.Ballot.{serving}
use Rattle.ec_txn.specs.Fetching.{asks_of, under}
use Rattle.ec_txn.specs.Opening.{opening_asks, query_of}
use Rattle.ec_txn.specs.ReadPhase.{chunks_of, is_chosen, places_of, reading_asks}
use Rattle.ec_txn.specs.Replies.{replied}
use Rattle.ec_txn.specs.Rounds.{subject}
use Rattle.ec_txn.specs.declared.ctx.Ctx.{Ctx}
use Rattle.ec_txn.specs.declared.opening.Opening.{Opening}
use Rattle.ec_txn.specs.declared.opening.Opening.TheVariants.{Lock as Locking, Query}
use Rattle.ec_txn.specs.declared.reading.Reading.{Reading}
use Rattle.ec_txn.proofs.Fetching.{under_is, within}
use Rattle.ec_wire.specs.declared.answer.Answer.{Answer}
use Rattle.ec_wire.specs.declared.request.Request.{Request}
use Rattle.ec_wire.specs.declared.request.Request.TheVariants.{Ask, NameGet, NamesAfter, Query as QueryOf}
use Rattle.ec_law_grants.specs.Alters.{alters}
use Rattle.ec_law_replies.proofs.Quiet.{IsQuiet}

none_some : {X : Type 0} (a : X) → None ≡ Some a → ⊥
none_some a e = cc

some_same : {X : Type 0} (a b : X) → Some a ≡ Some b → a ≡ b
some_same a b e = cc

-- locks and Queries
pub opening_quiet : (kind : LockKind) (stage : Opening) (c : Account) (x : ℕ) (r : Request) → opening_asks kind stage c x ≡ Some r → alters r ≡ false
opening_quiet kind (Locking brick) c x r e =
    let ask : Request = Ask (record { 0 = subject c.given.op }) Inode kind in
    let w = within (x == brick) (Some ask) r e in
    ap alters (some_same r ask (sym w.1))
opening_quiet kind Query c x r e =
    let w = within (nat_lt x (bricks_of c.given)) (query_of (subject c.given.op) (at c (subject c.given.op) x).inode) r e in
    by (at c (subject c.given.op) x).inode w.1
  where
    by : (o : Option Lock) → query_of (subject c.given.op) o ≡ Some r → alters r ≡ false
    by None v = absurd (none_some r v)
    by (Some lock) v =
        let ask : Request = QueryOf (record { 0 = subject c.given.op }) lock.number in
        let w = within lock.granted (Some ask) r v in
        ap alters (some_same r ask (sym w.1))

-- what is asked under a lock
under_quiet : (o : Option Lock) (f : ℕ → Request) (r : Request) → ((i : ℕ) → alters (f i) ≡ false) → under o f ≡ Some r → alters r ≡ false
under_quiet o f r quiet e = let w = under_is o f r e in ap alters w.3 ∙ quiet w.0.number

pub reading_quiet : (reading : Reading) (c : Account) (x : ℕ) (r : Request) → reading_asks reading c x ≡ Some r → alters r ≡ false
reading_quiet reading c x r e =
    let w = within (is_chosen (quorum_of c.given) reading (places_of c (subject c.given.op)) (replied c (subject c.given.op)) x && nat_lt x (bricks_of c.given)) (under (at c (subject c.given.op) x).inode (chunks_of (subject c.given.op) reading)) r e in
    under_quiet (at c (subject c.given.op) x).inode (chunks_of (subject c.given.op) reading) r (λ i. refl) w.1

pub fetching_quiet : (bits : ℕ) (q : ℕ → Request) (c : Account) (x : ℕ) (r : Request) → ((i : ℕ) → alters (q i) ≡ false) → asks_of bits q c x ≡ Some r → alters r ≡ false
fetching_quiet bits q c x r quiet e =
    let w = within (is_in bits x && nat_lt x (bricks_of c.given)) (under (at c (subject c.given.op) x).inode q) r e in
    under_quiet (at c (subject c.given.op) x).inode q r quiet w.1

names_quiet : (bits : ℕ) (past : Option (List ℕ)) (c : Account) (x : ℕ) (r : Request) → names_asks bits past c x ≡ Some r → alters r ≡ false
names_quiet bits past c x r e =
    let w = within (is_in bits x && nat_lt x (bricks_of c.given)) (under_grant (serving (at c (subject c.given.op) x)) (λ grant. NamesAfter (record { 0 = subject c.given.op }) grant past)) r e in
    by (serving (at c (subject c.given.op) x)) w.1
  where
    by : (o : Option ℕ) → under_grant o (λ grant. NamesAfter (record { 0 = subject c.given.op }) grant past) ≡ Some r → alters r ≡ false
    by None v = absurd (none_some r v)
    by (Some grant) v =
        let ask : Request = NamesAfter (record { 0 = subject c.given.op }) grant past in
        ap alters (some_same r ask (sym v))

-- ## Calls that only read

abbrev pub never : {P : Type 0} → P → Bool
never p = false

abbrev pub any : Answer → Bool
any answer = true

pub stat_quiet : (given : Given) → IsQuiet given stat_table never any
stat_quiet given = record { asks = λ p c x r l e. opening_quiet Shared p c x r e; stays = λ p c next e l follows. absurd (let v : false ≡ true = l in cc) }

pub getattr_quiet : (given : Given) → IsQuiet given getattr_table never any
getattr_quiet given = record { asks = λ p c x r l e. opening_quiet Shared p c x r e; stays = λ p c next e l follows. absurd (let v : false ≡ true = l in cc) }

pub read_quiet : (ctx : Ctx) (given : Given) → IsQuiet given (read_table ctx) never any
read_quiet ctx given = record { asks = λ p c x r l e. by p c x r e; stays = λ p c next e l follows. absurd (let v : false ≡ true = l in cc) }
  where
    by : (p : ReadStage) (c : Account) (x : ℕ) (r : Request) → read_asks ctx p c x ≡ Some r → alters r ≡ false
    by (ReadOpens stage) c x r e = opening_quiet Shared stage c x r e
    by (Reads among size) c x r e = reading_quiet (reading_of ctx c.given among size) c x r e

pub lookup_quiet : (given : Given) → IsQuiet given lookup_table never any
lookup_quiet given = record { asks = λ p c x r l e. by p c x r e; stays = λ p c next e l follows. absurd (let v : false ≡ true = l in cc) }
  where
    by : (p : LookupStage) (c : Account) (x : ℕ) (r : Request) → lookup_asks p c x ≡ Some r → alters r ≡ false
    by (LookupOpens stage) c x r e = opening_quiet Shared stage c x r e
    by (Name bricks) c x r e = fetching_quiet bricks (λ grant. NameGet (record { 0 = subject c.given.op }) grant (name_in c.given.op)) c x r (λ i. refl) e

pub readdir_quiet : (given : Given) → IsQuiet given readdir_table never any
readdir_quiet given = record { asks = λ p c x r l e. by p c x r e; stays = λ p c next e l follows. absurd (let v : false ≡ true = l in cc) }
  where
    by : (p : ReaddirStage) (c : Account) (x : ℕ) (r : Request) → readdir_asks p c x ≡ Some r → alters r ≡ false
    by (ReaddirOpens stage) c x r e = opening_quiet Shared stage c x r e
    by (Names bricks past list) c x r e = names_quiet bricks past c x r e
