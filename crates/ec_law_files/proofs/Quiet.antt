-- Stages that put no stripes, and the tables that have no others.
use Rattle.std.proofs.Common.{subst, ◌∙◌, ◌≡◌, ℕ, ◌&&◌, true, false, refl, sym, ap, Option, Some, None, List}
use Rattle.std.specs.Prelude.{nat_lt}
use Rattle.ec_attr.specs.Bricks.{is_in}
use Rattle.ec_attr.specs.declared.kind.LockKind.{LockKind}
use Rattle.ec_attr.specs.declared.kind.LockKind.TheVariants.{Shared, Exclusive}
use Rattle.ec_conduct.specs.Account.{Account, Dealings, at}
use Rattle.ec_conduct.specs.Ballots.{attr_after, size_after}
use Rattle.ec_conduct.specs.Done.{is_query, reply_to}
use Rattle.ec_conduct.specs.Given.{Given, bricks_of}
use Rattle.ec_entry.specs.GetAttr.{getattr_table}
use Rattle.ec_entry.specs.Lookup.{lookup_table}
use Rattle.ec_entry.specs.Lookup as lookup
use Rattle.ec_entry.specs.Make.{make_request, make_table, made_request}
use Rattle.ec_entry.specs.Make as make
use Rattle.ec_entry.specs.Members.{under_grant}
use Rattle.ec_entry.specs.Readdir.{readdir_table}
use Rattle.ec_entry.specs.SetAttr.{setattr_table}
use Rattle.ec_entry.specs.Unlink.{unlink_table, unmake_request}
use Rattle.ec_entry.specs.Unlink as unlink
use Rattle.ec_entry.specs.declared.lookup.LookupStage.{LookupStage}
use Rattle.ec_entry.specs.declared.lookup.LookupStage.TheVariants as looks
use Rattle.ec_entry.specs.declared.make.MakeStage.{MakeStage}
use Rattle.ec_entry.specs.declared.make.MakeStage.TheVariants as makes
use Rattle.ec_entry.specs.declared.readdir.ReaddirStage.{ReaddirStage}
use Rattle.ec_entry.specs.declared.readdir.ReaddirStage.TheVariants as lists
use Rattle.ec_entry.specs.declared.setattr.SetAttrStage.{SetAttrStage}
use Rattle.ec_entry.specs.declared.setattr.SetAttrStage.TheVariants as sets
use Rattle.ec_entry.specs.declared.unlink.UnlinkStage.{UnlinkStage}
use Rattle.ec_entry.specs.declared.unlink.UnlinkStage.TheVariants as removes
use Rattle.ec_read.specs.Read.{read_table, reading_of}
use Rattle.ec_read.specs.Stat.{stat_table}
use Rattle.ec_read.specs.declared.read.ReadStage.{ReadStage}
use Rattle.ec_read.specs.declared.read.ReadStage.TheVariants as reads
use Rattle.ec_txn.specs.Ballot.{IsGroupAt, ballot_asks, ballot_request, serving}
use Rattle.ec_txn.specs.Fetching.{under}
use Rattle.ec_txn.specs.Opening.{opening_asks}
use Rattle.ec_txn.specs.ReadPhase.{reading_asks}
use Rattle.ec_txn.specs.Rounds.{Asks, subject}
use Rattle.ec_txn.specs.Tables.{IsSound, Table}
use Rattle.ec_txn.specs.declared.ballot.Ballot.{Ballot}
use Rattle.ec_txn.specs.declared.ballot.Ballot.TheVariants.{Pre, Post, Clear}
use Rattle.ec_txn.specs.declared.ctx.Ctx.{Ctx}
use Rattle.ec_txn.specs.declared.opening.Opening.{Opening}
use Rattle.ec_txn.specs.declared.opening.Opening.TheVariants.{Lock as Locking, Query}
use Rattle.ec_txn.specs.declared.reading.Reading.{Reading}
use Rattle.ec_wire.specs.declared.request.Request.{Request}
use Rattle.ec_wire.specs.declared.request.Request.TheVariants.{NameGet, NamesAfter, Query as QueryOf}
use Rattle.ec_law_calls.proofs.Asking.{fetch_is, member_is, none_is, opening_fits, reading_is, some_is, under_lock_is, when_is}
use Rattle.ec_attr.specs.declared.head.Head.{Head}
use Rattle.ec_answers.specs.declared.grouped.Group.{Group}
use Rattle.ec_conduct.specs.Standing.{group_of, head_of as told_head}
use Rattle.ec_txn.proofs.Ballots.{group_stays}
use Rattle.ec_law_files.specs.Stripes.{IsOwn, Making, makes_stripes, puts_stripes}
use Rattle.ec_law_files.proofs.Sent.{IsSo, is_told, quiet_own}
use Rattle.ec_law_files.proofs.Stages.{MakesStripes}

-- ## Stages that tables share

query_quiet : (r : Request) → is_query r ≡ true → puts_stripes r ≡ false
query_quiet (QueryOf g grant) e = refl
query_quiet r e = absurd (cc)

pub opening_quiet : (kind : LockKind) (o : Opening) (c : Account) (x : ℕ) (r : Request) → opening_asks kind o c x ≡ Some r → puts_stripes r ≡ false
opening_quiet kind (Locking brick) c x r e = let w = opening_fits kind (Locking brick) c x r e in ap puts_stripes w.2
opening_quiet kind Query c x r e = query_quiet r (opening_fits kind Query c x r e)

pub ballot_quiet : (b : Ballot) (c : Account) (x : ℕ) (r : Request) → ballot_asks b c x ≡ Some r → puts_stripes r ≡ false
ballot_quiet (Pre group) c x r e = let w = member_is group (ballot_request (subject c.given.op) (size_after c.given.op group.head.size) (attr_after c.given.op) (Pre group)) c x r e in ap puts_stripes w.2
ballot_quiet (Post group) c x r e = let w = member_is group (ballot_request (subject c.given.op) (size_after c.given.op group.head.size) (attr_after c.given.op) (Post group)) c x r e in ap puts_stripes w.2
ballot_quiet (Clear group) c x r e = let w = member_is group (ballot_request (subject c.given.op) (size_after c.given.op group.head.size) (attr_after c.given.op) (Clear group)) c x r e in ap puts_stripes w.2

pub reading_quiet : (reading : Reading) (c : Account) (x : ℕ) (r : Request) → reading_asks reading c x ≡ Some r → puts_stripes r ≡ false
reading_quiet reading c x r e = let w = reading_is reading c x r e in ap puts_stripes w.1

-- ## Stages of which nothing is said

query_untold : (r : Request) → is_query r ≡ true → is_told r ≡ false
query_untold (QueryOf g grant) e = refl
query_untold r e = absurd (cc)

pub opening_untold : (kind : LockKind) (o : Opening) (c : Account) (x : ℕ) (r : Request) → opening_asks kind o c x ≡ Some r → is_told r ≡ false
opening_untold kind (Locking brick) c x r e = let w = opening_fits kind (Locking brick) c x r e in ap is_told w.2
opening_untold kind Query c x r e = query_untold r (opening_fits kind Query c x r e)

pub pre_untold : (group : Group) (c : Account) (x : ℕ) (r : Request) → ballot_asks (Pre group) c x ≡ Some r → is_told r ≡ false
pre_untold group c x r e = let w = member_is group (ballot_request (subject c.given.op) (size_after c.given.op group.head.size) (attr_after c.given.op) (Pre group)) c x r e in ap is_told w.2

pub clear_untold : (group : Group) (c : Account) (x : ℕ) (r : Request) → ballot_asks (Clear group) c x ≡ Some r → is_told r ≡ false
clear_untold group c x r e = let w = member_is group (ballot_request (subject c.given.op) (size_after c.given.op group.head.size) (attr_after c.given.op) (Clear group)) c x r e in ap is_told w.2

pub reading_untold : (reading : Reading) (c : Account) (x : ℕ) (r : Request) → reading_asks reading c x ≡ Some r → is_told r ≡ false
reading_untold reading c x r e = let w = reading_is reading c x r e in ap is_told w.1

-- ## The PostOps of a call that makes stripes

-- at an account of the group they find its head
pub posts_told : (w : Making) (group : Group) (c d : Account) → group.head ≡ w.head → IsGroupAt d (subject d.given.op) group → c.given ≡ d.given → (y : ℕ) (r : Request) → ballot_asks (Post group) c y ≡ Some r → (is_told r ≡ true) × IsSo (IsOwn w) d y r
posts_told w group c d head at_group same y r e =
    let a = member_is group (ballot_request (subject c.given.op) (size_after c.given.op group.head.size) (attr_after c.given.op) (Post group)) c y r e in (
      ap is_told a.2,
      λ z on given. subst (IsOwn w z y) (sym a.2) (λ makes.
          subst (λ (v : Given). group_of z (subject v.op) ≡ Some w.head) (sym same)
          ((group_stays d z (subject d.given.op) group given (λ x. ap (λ (h : ℕ → Dealings). told_head (reply_to is_query ((h (subject d.given.op)).place x).window)) on) at_group).head ∙ ap (λ (h : Head). Some h) head)),
    )

-- ## Tables without others

pub quiet_table : {S : Type 0} (x : Ctx) (t : Table S) (during : S → Account → Asks → Type 0) (sound : IsSound x t during) (given : Given) → makes_stripes given.op ≡ false → ((p : S) (c : Account) (y : ℕ) (r : Request) → t.asks p c y ≡ Some r → puts_stripes r ≡ false) → MakesStripes x t during sound given
quiet_table {S} x t during sound given none quiet = record {
  early = λ p. true;
  fits = λ w p. ⊥;
  again = λ p c y r so e. free p c y r e;
  starts = λ q e. refl;
  quiet = λ q c y r early e. free q c y r e;
  goes = λ q c d late cg dg dur. absurd (let z : true ≡ false = late in cc);
  further = λ w p q c d fits follows cg dg dur. absurd fits;
}
  where
    free : (p : S) (c : Account) (y : ℕ) (r : Request) → t.asks p c y ≡ Some r → (w : Making) (d : Account) → d.given ≡ given → IsOwn w d y r
    free p c y r e w d is = quiet_own w d y r (ap (λ (v : Given). makes_stripes v.op) is ∙ none) (quiet p c y r e)

pub stat_quiet : (p : Opening) (c : Account) (x : ℕ) (r : Request) → stat_table.asks p c x ≡ Some r → puts_stripes r ≡ false
stat_quiet o c x r e = opening_quiet Shared o c x r e

pub getattr_quiet : (p : Opening) (c : Account) (x : ℕ) (r : Request) → getattr_table.asks p c x ≡ Some r → puts_stripes r ≡ false
getattr_quiet o c x r e = opening_quiet Shared o c x r e

pub lookup_quiet : (p : LookupStage) (c : Account) (x : ℕ) (r : Request) → lookup_table.asks p c x ≡ Some r → puts_stripes r ≡ false
lookup_quiet (looks.Opens o) c x r e = opening_quiet Shared o c x r e
lookup_quiet (looks.Name bricks) c x r e = let w = fetch_is bricks (λ grant. NameGet (record { 0 = subject c.given.op }) grant (lookup.name_in c.given.op)) c x r e in ap puts_stripes w.1

names_quiet : (o : Option ℕ) (g : ℕ) (past : Option (List ℕ)) (r : Request) → under_grant o (λ grant. NamesAfter (record { 0 = g }) grant past) ≡ Some r → puts_stripes r ≡ false
names_quiet None g past r e = absurd (none_is r e)
names_quiet (Some grant) g past r e = ap puts_stripes (sym (some_is (NamesAfter (record { 0 = g }) grant past) r e))

pub readdir_quiet : (p : ReaddirStage) (c : Account) (x : ℕ) (r : Request) → readdir_table.asks p c x ≡ Some r → puts_stripes r ≡ false
readdir_quiet (lists.Opens o) c x r e = opening_quiet Shared o c x r e
readdir_quiet (lists.Names bricks past list) c x r e = names_quiet (serving (at c (subject c.given.op) x)) (subject c.given.op) past r (when_is (is_in bricks x && nat_lt x (bricks_of c.given)) (under_grant (serving (at c (subject c.given.op) x)) (λ grant. NamesAfter (record { 0 = subject c.given.op }) grant past)) r e)

pub read_quiet : (x : Ctx) (p : ReadStage) (c : Account) (b : ℕ) (r : Request) → (read_table x).asks p c b ≡ Some r → puts_stripes r ≡ false
read_quiet x (reads.Opens o) c b r e = opening_quiet Shared o c b r e
read_quiet x (reads.Reads among size) c b r e = reading_quiet (reading_of x c.given among size) c b r e

pub make_quiet : (p : MakeStage) (c : Account) (b : ℕ) (r : Request) → make_table.asks p c b ≡ Some r → puts_stripes r ≡ false
make_quiet (makes.Opens o) c b r e = opening_quiet Exclusive o c b r e
make_quiet (makes.Name group) c b r e = let w = fetch_is group.bricks (λ grant. NameGet (record { 0 = subject c.given.op }) grant (make.name_in c.given.op)) c b r e in ap puts_stripes w.1
make_quiet (makes.Votes v) c b r e = ballot_quiet v c b r e
make_quiet (makes.Makes group) c b r e = let w = member_is group (make_request c.given) c b r e in ap puts_stripes w.2
make_quiet (makes.Enters group) c b r e = let w = member_is group (make.entry_request c.given) c b r e in ap puts_stripes w.2
make_quiet (makes.Made group) c b r e = let w = member_is group (made_request c.given) c b r e in ap puts_stripes w.2

pub unlink_quiet : (p : UnlinkStage) (c : Account) (b : ℕ) (r : Request) → unlink_table.asks p c b ≡ Some r → puts_stripes r ≡ false
unlink_quiet (removes.Opens o) c b r e = opening_quiet Exclusive o c b r e
unlink_quiet (removes.Name group) c b r e = let w = fetch_is group.bricks (λ grant. NameGet (record { 0 = subject c.given.op }) grant (unlink.name_in c.given.op)) c b r e in ap puts_stripes w.1
unlink_quiet (removes.Votes v children) c b r e = ballot_quiet v c b r e
unlink_quiet (removes.Enters group children) c b r e = let w = member_is group (unlink.entry_request c.given) c b r e in ap puts_stripes w.2
unlink_quiet (removes.Unmakes child children) c b r e =
    let w = under_lock_is (at c (subject c.given.op) b).inode (unmake_request c.given child) r (when_is (nat_lt b (bricks_of c.given)) (under (at c (subject c.given.op) b).inode (unmake_request c.given child)) r e) in
    ap puts_stripes w.1

pub setattr_quiet : (p : SetAttrStage) (c : Account) (b : ℕ) (r : Request) → setattr_table.asks p c b ≡ Some r → puts_stripes r ≡ false
setattr_quiet (sets.Opens o) c b r e = opening_quiet Exclusive o c b r e
setattr_quiet (sets.Votes v) c b r e = ballot_quiet v c b r e
