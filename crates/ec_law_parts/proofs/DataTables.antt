-- No table asks for data to be changed from its PostOps on.
use Rattle.std.proofs.Common.{◌≡◌, ℕ, ◌&&◌, Bool, true, false, cond, refl, sym, ◌∙◌, ap, Option, Some, None, List}
use Rattle.std.specs.Prelude.{nat_le, nat_lt}
use Rattle.ec_answers.specs.declared.grouped.Group.{Group}
use Rattle.ec_attr.specs.Bricks.{is_in}
use Rattle.ec_attr.specs.declared.gfid.Gfid.{Gfid}
use Rattle.ec_attr.specs.declared.kind.LockKind.{LockKind}
use Rattle.ec_attr.specs.declared.kind.LockKind.TheVariants.{Shared, Exclusive}
use Rattle.ec_conduct.specs.Account.{Account, at}
use Rattle.ec_conduct.specs.Ballots.{attr_after, size_after}
use Rattle.ec_conduct.specs.Changes.{stripes_of}
use Rattle.ec_conduct.specs.Done.{is_post}
use Rattle.ec_conduct.specs.Given.{bricks_of, quorum_of}
use Rattle.ec_entry.specs.declared.children.Children.{Children}
use Rattle.ec_entry.specs.GetAttr.{getattr_table}
use Rattle.ec_entry.specs.Lookup.{lookup_table}
use Rattle.ec_entry.specs.Lookup as lookup
use Rattle.ec_entry.specs.Make.{make_request, make_table, made_request, where_all}
use Rattle.ec_entry.specs.Make as make
use Rattle.ec_entry.specs.Members.{under_grant}
use Rattle.ec_entry.specs.Readdir.{readdir_table}
use Rattle.ec_entry.specs.SetAttr.{setattr_table, told}
use Rattle.ec_entry.specs.Unlink.{FirstRemoved, removes_child, unlink_table, unmake_request}
use Rattle.ec_entry.specs.Unlink as unlink
use Rattle.ec_read.specs.Read.{read_table, reading_of}
use Rattle.ec_read.specs.Stat.{stat_table}
use Rattle.ec_txn.specs.Ballot.{BallotFollows, ballot_asks, ballot_request, count_serving, serving}
use Rattle.ec_txn.specs.Fetching.{under}
use Rattle.ec_txn.specs.ReadPhase.{reading_asks}
use Rattle.ec_txn.specs.Rounds.{subject}
use Rattle.ec_txn.specs.declared.ballot.Ballot.{Ballot}
use Rattle.ec_txn.specs.declared.ballot.Ballot.TheVariants.{Pre, Post, Clear}
use Rattle.ec_txn.specs.declared.ctx.Ctx.{Ctx}
use Rattle.ec_txn.specs.declared.opening.Opening.{Opening}
use Rattle.ec_txn.specs.declared.opening.Opening.TheVariants.{Lock as Locking, Query}
use Rattle.ec_txn.specs.declared.reading.Reading.{Reading}
use Rattle.ec_txn.specs.declared.stage.Next.{Next}
use Rattle.ec_txn.specs.declared.stage.Next.TheVariants.{Go, Say}
use Rattle.ec_wire.specs.declared.answer.Answer.{Answer}
use Rattle.ec_wire.specs.declared.request.Request.{Request}
use Rattle.ec_wire.specs.declared.request.Request.TheVariants.{NameGet, NamesAfter}
use Rattle.ec_write.specs.Range.{first_stripe, off_of}
use Rattle.ec_write.specs.Stripes.{list_at}
use Rattle.ec_write.specs.Truncate.{Trims, cut_request, low_of, says_to, to_of, truncate_table}
use Rattle.ec_write.specs.Write.{Prepares, is_short, says_size, write_request, write_table}
use Rattle.ec_law_calls.proofs.Asking.{ballot_fits, ballot_part, fetch_is, go_is, go_say, go_when, if_quorum, member_is, none_is, opening_fits, opening_part, reading_is, some_is, under_lock_is, when_is, where_is}
use Rattle.ec_law_calls.proofs.Stages.{is_posted}
use Rattle.ec_law_parts.specs.LeavesOff.{EndsWithPosts, puts_data}
use Rattle.ec_law_parts.proofs.Tables.{fits_early}
use Rattle.ec_entry.specs.declared.lookup.LookupStage.{LookupStage}
use Rattle.ec_entry.specs.declared.lookup.LookupStage.TheVariants as looks
use Rattle.ec_entry.specs.declared.make.MakeStage.{MakeStage}
use Rattle.ec_entry.specs.declared.make.MakeStage.TheVariants as makes
use Rattle.ec_entry.specs.declared.readdir.ReaddirStage.{ReaddirStage}
use Rattle.ec_entry.specs.declared.readdir.ReaddirStage.TheVariants as lists
use Rattle.ec_entry.specs.declared.setattr.SetAttrStage.{SetAttrStage}
use Rattle.ec_entry.specs.declared.setattr.SetAttrStage.TheVariants as sets
use Rattle.ec_entry.specs.declared.unlink.UnlinkStage.{UnlinkStage}
use Rattle.ec_entry.specs.declared.unlink.UnlinkStage.TheVariants as removes
use Rattle.ec_read.specs.declared.read.ReadStage.{ReadStage}
use Rattle.ec_read.specs.declared.read.ReadStage.TheVariants as reads
use Rattle.ec_write.specs.declared.stage.TruncateStage.{TruncateStage}
use Rattle.ec_write.specs.declared.stage.TruncateStage.TheVariants as cuts
use Rattle.ec_write.specs.declared.stage.WriteStage.{WriteStage}
use Rattle.ec_write.specs.declared.stage.WriteStage.TheVariants as writes

-- ## Stages that tables share

opening_unposted : (o : Opening) → is_posted (opening_part o) ≡ false
opening_unposted (Locking brick) = refl
opening_unposted Query = refl

opening_early : (kind : LockKind) (o : Opening) (c : Account) (x : ℕ) (r : Request) → Rattle.ec_txn.specs.Opening.opening_asks kind o c x ≡ Some r → is_post r ≡ false
opening_early kind o c x r e = fits_early kind (opening_part o) x r (opening_fits kind o c x r e) (opening_unposted o)

abbrev is_late_ballot : Ballot → Bool
is_late_ballot (Pre group) = false
is_late_ballot (Post group) = true
is_late_ballot (Clear group) = true

ballot_early : (b : Ballot) (c : Account) (x : ℕ) (r : Request) → ballot_asks b c x ≡ Some r → is_late_ballot b ≡ false → is_post r ≡ false
ballot_early (Pre group) c x r e early = fits_early Exclusive (ballot_part (Pre group)) x r (ballot_fits (Pre group) c x r e) refl
ballot_early (Post group) c x r e early = absurd (cc)
ballot_early (Clear group) c x r e early = absurd (cc)

ballot_off : (b : Ballot) (c : Account) (x : ℕ) (r : Request) → ballot_asks b c x ≡ Some r → is_late_ballot b ≡ true → puts_data r ≡ false
ballot_off (Pre group) c x r e late = absurd (cc)
ballot_off (Post group) c x r e late = let w = member_is group (ballot_request (subject c.given.op) (size_after c.given.op group.head.size) (attr_after c.given.op) (Post group)) c x r e in ap puts_data w.2
ballot_off (Clear group) c x r e late = let w = member_is group (ballot_request (subject c.given.op) (size_after c.given.op group.head.size) (attr_after c.given.op) (Clear group)) c x r e in ap puts_data w.2

reading_unposted : (reading : Reading) (c : Account) (x : ℕ) (r : Request) → reading_asks reading c x ≡ Some r → is_post r ≡ false
reading_unposted reading c x r e = let w = reading_is reading c x r e in ap is_post w.1

module _ {P : Type 0} where
  -- after the PostOps of a ballot come its Clears, if it goes on
  ballot_stays : (late : P → Bool) (into : Ballot → P) (changes : Group → Account → Next P → Type 0) (says : Account → Group → Answer) → ((group : Group) → late (into (Clear group)) ≡ true)
      → (b : Ballot) (c : Account) (q : P) → BallotFollows into changes says b c (Go q) → is_late_ballot b ≡ true → late q ≡ true
  ballot_stays late into changes says same (Pre group) c q e now = absurd (cc)
  ballot_stays late into changes says same (Post group) c q e now = ap late (go_when (nat_le (bricks_of c.given) (count_serving c group)) (into (Clear group)) q (says c group) (if_quorum c group _ (λ (next : Next P). next ≡ cond (nat_le (bricks_of c.given) (count_serving c group)) (Go (into (Clear group))) (Say (says c group))) q e)) ∙ same group
  ballot_stays late into changes says same (Clear group) c q e now = absurd (go_say q _ e)

-- ## Tables without PostOps

pub stat_ends : EndsWithPosts puts_data stat_table
stat_ends = record {
  is_late = λ p. false;
  early = λ o c x r e late. opening_early Shared o c x r e;
  off = λ p c x r e late. absurd (let z : false ≡ true = late in cc);
  stays = λ p q c f late. absurd (let z : false ≡ true = late in cc);
}

pub getattr_ends : EndsWithPosts puts_data getattr_table
getattr_ends = record {
  is_late = λ p. false;
  early = λ o c x r e late. opening_early Shared o c x r e;
  off = λ p c x r e late. absurd (let z : false ≡ true = late in cc);
  stays = λ p q c f late. absurd (let z : false ≡ true = late in cc);
}

lookup_early : (p : LookupStage) (c : Account) (x : ℕ) (r : Request) → lookup_table.asks p c x ≡ Some r → is_post r ≡ false
lookup_early (looks.Opens o) c x r e = opening_early Shared o c x r e
lookup_early (looks.Name bricks) c x r e = let w = fetch_is bricks (λ grant. NameGet (record { 0 = subject c.given.op }) grant (lookup.name_in c.given.op)) c x r e in ap is_post w.1

pub lookup_ends : EndsWithPosts puts_data lookup_table
lookup_ends = record {
  is_late = λ p. false;
  early = λ p c x r e late. lookup_early p c x r e;
  off = λ p c x r e late. absurd (let z : false ≡ true = late in cc);
  stays = λ p q c f late. absurd (let z : false ≡ true = late in cc);
}

names_early : (o : Option ℕ) (g : ℕ) (past : Option (List ℕ)) (r : Request) → under_grant o (λ grant. NamesAfter (record { 0 = g }) grant past) ≡ Some r → is_post r ≡ false
names_early None g past r e = absurd (none_is r e)
names_early (Some grant) g past r e = ap is_post (sym (some_is (NamesAfter (record { 0 = g }) grant past) r e))

readdir_early : (p : ReaddirStage) (c : Account) (x : ℕ) (r : Request) → readdir_table.asks p c x ≡ Some r → is_post r ≡ false
readdir_early (lists.Opens o) c x r e = opening_early Shared o c x r e
readdir_early (lists.Names bricks past list) c x r e = names_early (serving (at c (subject c.given.op) x)) (subject c.given.op) past r (when_is (is_in bricks x && nat_lt x (bricks_of c.given)) (under_grant (serving (at c (subject c.given.op) x)) (λ grant. NamesAfter (record { 0 = subject c.given.op }) grant past)) r e)

pub readdir_ends : EndsWithPosts puts_data readdir_table
readdir_ends = record {
  is_late = λ p. false;
  early = λ p c x r e late. readdir_early p c x r e;
  off = λ p c x r e late. absurd (let z : false ≡ true = late in cc);
  stays = λ p q c f late. absurd (let z : false ≡ true = late in cc);
}

read_early : (x : Ctx) (p : ReadStage) (c : Account) (b : ℕ) (r : Request) → (read_table x).asks p c b ≡ Some r → is_post r ≡ false
read_early x (reads.Opens o) c b r e = opening_early Shared o c b r e
read_early x (reads.Reads among size) c b r e = reading_unposted (reading_of x c.given among size) c b r e

pub read_ends : (x : Ctx) → EndsWithPosts puts_data (read_table x)
read_ends x = record {
  is_late = λ p. false;
  early = λ p c b r e late. read_early x p c b r e;
  off = λ p c b r e late. absurd (let z : false ≡ true = late in cc);
  stays = λ p q c f late. absurd (let z : false ≡ true = late in cc);
}

-- ## A write

abbrev write_late : WriteStage → Bool
write_late (writes.Opens o) = false
write_late (writes.Votes b) = is_late_ballot b
write_late (writes.Reads group reading front) = false
write_late (writes.Writes group lists) = false

write_early : (x : Ctx) (p : WriteStage) (c : Account) (b : ℕ) (r : Request) → (write_table x).asks p c b ≡ Some r → write_late p ≡ false → is_post r ≡ false
write_early x (writes.Opens o) c b r e early = opening_early Exclusive o c b r e
write_early x (writes.Votes v) c b r e early = ballot_early v c b r (where_is (is_short c.given.op) (ballot_asks v c) b r e) early
write_early x (writes.Reads group reading front) c b r e early = reading_unposted reading c b r (where_is (nat_lt reading.start 31) (reading_asks reading c) b r e)
write_early x (writes.Writes group lists) c b r e early = let w = member_is group (write_request (subject c.given.op) (first_stripe (quorum_of c.given) (off_of c.given.op)) (list_at lists b)) c b r e in ap is_post w.2

write_off : (x : Ctx) (p : WriteStage) (c : Account) (b : ℕ) (r : Request) → (write_table x).asks p c b ≡ Some r → write_late p ≡ true → puts_data r ≡ false
write_off x (writes.Opens o) c b r e late = absurd (cc)
write_off x (writes.Votes v) c b r e late = ballot_off v c b r (where_is (is_short c.given.op) (ballot_asks v c) b r e) late
write_off x (writes.Reads group reading front) c b r e late = absurd (cc)
write_off x (writes.Writes group lists) c b r e late = absurd (cc)

write_stays : (x : Ctx) (p q : WriteStage) (c : Account) → (write_table x).follows p c (Go q) → write_late p ≡ true → write_late q ≡ true
write_stays x (writes.Opens o) q c f late = absurd (cc)
write_stays x (writes.Votes v) q c f late = ballot_stays write_late (λ b. writes.Votes b) (Prepares x) says_size (λ group. refl) v c q f late
write_stays x (writes.Reads group reading front) q c f late = absurd (cc)
write_stays x (writes.Writes group lists) q c f late = absurd (cc)

pub write_ends : (x : Ctx) → EndsWithPosts puts_data (write_table x)
write_ends x = record { is_late = write_late; early = write_early x; off = write_off x; stays = write_stays x }

-- ## A truncate

abbrev truncate_late : TruncateStage → Bool
truncate_late (cuts.Opens o) = false
truncate_late (cuts.Votes b) = is_late_ballot b
truncate_late (cuts.Reads group reading) = false
truncate_late (cuts.Writes group lists) = false
truncate_late (cuts.Cuts group) = false

truncate_early : (x : Ctx) (p : TruncateStage) (c : Account) (b : ℕ) (r : Request) → (truncate_table x).asks p c b ≡ Some r → truncate_late p ≡ false → is_post r ≡ false
truncate_early x (cuts.Opens o) c b r e early = opening_early Exclusive o c b r e
truncate_early x (cuts.Votes v) c b r e early = ballot_early v c b r e early
truncate_early x (cuts.Reads group reading) c b r e early = reading_unposted reading c b r (where_is (nat_lt reading.start 31) (reading_asks reading c) b r e)
truncate_early x (cuts.Writes group lists) c b r e early = let w = member_is group (write_request (subject c.given.op) (first_stripe (quorum_of c.given) (low_of c.given.op group)) (list_at lists b)) c b r e in ap is_post w.2
truncate_early x (cuts.Cuts group) c b r e early = let w = member_is group (cut_request (subject c.given.op) (stripes_of (quorum_of c.given) (low_of c.given.op group)) (stripes_of (quorum_of c.given) (to_of c.given.op))) c b r e in ap is_post w.2

truncate_off : (x : Ctx) (p : TruncateStage) (c : Account) (b : ℕ) (r : Request) → (truncate_table x).asks p c b ≡ Some r → truncate_late p ≡ true → puts_data r ≡ false
truncate_off x (cuts.Opens o) c b r e late = absurd (cc)
truncate_off x (cuts.Votes v) c b r e late = ballot_off v c b r e late
truncate_off x (cuts.Reads group reading) c b r e late = absurd (cc)
truncate_off x (cuts.Writes group lists) c b r e late = absurd (cc)
truncate_off x (cuts.Cuts group) c b r e late = absurd (cc)

truncate_stays : (x : Ctx) (p q : TruncateStage) (c : Account) → (truncate_table x).follows p c (Go q) → truncate_late p ≡ true → truncate_late q ≡ true
truncate_stays x (cuts.Opens o) q c f late = absurd (cc)
truncate_stays x (cuts.Votes v) q c f late = ballot_stays truncate_late (λ b. cuts.Votes b) (Trims x) says_to (λ group. refl) v c q f late
truncate_stays x (cuts.Reads group reading) q c f late = absurd (cc)
truncate_stays x (cuts.Writes group lists) q c f late = absurd (cc)
truncate_stays x (cuts.Cuts group) q c f late = absurd (cc)

pub truncate_ends : (x : Ctx) → EndsWithPosts puts_data (truncate_table x)
truncate_ends x = record { is_late = truncate_late; early = truncate_early x; off = truncate_off x; stays = truncate_stays x }

-- ## A create or mkdir

abbrev make_late : MakeStage → Bool
make_late (makes.Opens o) = false
make_late (makes.Name group) = false
make_late (makes.Votes b) = is_late_ballot b
make_late (makes.Makes group) = false
make_late (makes.Enters group) = false
make_late (makes.Made group) = true

make_early : (p : MakeStage) (c : Account) (b : ℕ) (r : Request) → make_table.asks p c b ≡ Some r → make_late p ≡ false → is_post r ≡ false
make_early (makes.Opens o) c b r e early = opening_early Exclusive o c b r e
make_early (makes.Name group) c b r e early = let w = fetch_is group.bricks (λ grant. NameGet (record { 0 = subject c.given.op }) grant (make.name_in c.given.op)) c b r e in ap is_post w.1
make_early (makes.Votes v) c b r e early = ballot_early v c b r e early
make_early (makes.Makes group) c b r e early = let w = member_is group (make_request c.given) c b r e in ap is_post w.2
make_early (makes.Enters group) c b r e early = let w = member_is group (make.entry_request c.given) c b r e in ap is_post w.2
make_early (makes.Made group) c b r e early = absurd (cc)

make_off : (p : MakeStage) (c : Account) (b : ℕ) (r : Request) → make_table.asks p c b ≡ Some r → make_late p ≡ true → puts_data r ≡ false
make_off (makes.Opens o) c b r e late = absurd (cc)
make_off (makes.Name group) c b r e late = absurd (cc)
make_off (makes.Votes v) c b r e late = ballot_off v c b r e late
make_off (makes.Makes group) c b r e late = absurd (cc)
make_off (makes.Enters group) c b r e late = absurd (cc)
make_off (makes.Made group) c b r e late = let w = member_is group (made_request c.given) c b r e in ap puts_data w.2

all_late : (c : Account) (group : Group) (s q : MakeStage) → Go q ≡ where_all c group s → make_late s ≡ true → make_late q ≡ true
all_late c group s q e late = ap make_late (go_when (nat_le (bricks_of c.given) (count_serving c group)) s q _ e) ∙ late

make_stays : (p q : MakeStage) (c : Account) → make_table.follows p c (Go q) → make_late p ≡ true → make_late q ≡ true
make_stays (makes.Opens o) q c f late = absurd (cc)
make_stays (makes.Name group) q c f late = absurd (cc)
make_stays (makes.Votes (Pre group)) q c f late = absurd (cc)
make_stays (makes.Votes (Post group)) q c f late = all_late c group (makes.Votes (Clear group)) q (if_quorum c group _ (λ next. next ≡ where_all c group (makes.Votes (Clear group))) q f) refl
make_stays (makes.Votes (Clear group)) q c f late = all_late c group (makes.Made group) q f refl
make_stays (makes.Makes group) q c f late = absurd (cc)
make_stays (makes.Enters group) q c f late = absurd (cc)
make_stays (makes.Made group) q c f late = absurd (go_say q _ f)

pub make_ends : EndsWithPosts puts_data make_table
make_ends = record { is_late = make_late; early = make_early; off = make_off; stays = make_stays }

-- ## An unlink

abbrev unlink_late : UnlinkStage → Bool
unlink_late (removes.Opens o) = false
unlink_late (removes.Name group) = false
unlink_late (removes.Votes b children) = is_late_ballot b
unlink_late (removes.Enters group children) = false
unlink_late (removes.Unmakes child children) = true

unlink_early : (p : UnlinkStage) (c : Account) (b : ℕ) (r : Request) → unlink_table.asks p c b ≡ Some r → unlink_late p ≡ false → is_post r ≡ false
unlink_early (removes.Opens o) c b r e early = opening_early Exclusive o c b r e
unlink_early (removes.Name group) c b r e early = let w = fetch_is group.bricks (λ grant. NameGet (record { 0 = subject c.given.op }) grant (unlink.name_in c.given.op)) c b r e in ap is_post w.1
unlink_early (removes.Votes v children) c b r e early = ballot_early v c b r e early
unlink_early (removes.Enters group children) c b r e early = let w = member_is group (unlink.entry_request c.given) c b r e in ap is_post w.2
unlink_early (removes.Unmakes child children) c b r e early = absurd (cc)

unlink_off : (p : UnlinkStage) (c : Account) (b : ℕ) (r : Request) → unlink_table.asks p c b ≡ Some r → unlink_late p ≡ true → puts_data r ≡ false
unlink_off (removes.Opens o) c b r e late = absurd (cc)
unlink_off (removes.Name group) c b r e late = absurd (cc)
unlink_off (removes.Votes v children) c b r e late = ballot_off v c b r e late
unlink_off (removes.Enters group children) c b r e late = absurd (cc)
unlink_off (removes.Unmakes child children) c b r e late =
    let w = under_lock_is (at c (subject c.given.op) b).inode (unmake_request c.given child) r (when_is (nat_lt b (bricks_of c.given)) (under (at c (subject c.given.op) b).inode (unmake_request c.given child)) r e) in
    ap puts_data w.1

child_late : (children : Children) (first : Option Gfid) (q : UnlinkStage) → Go q ≡ removes_child children first → unlink_late q ≡ true
child_late children None q e = absurd (go_say q _ e)
child_late children (Some child) q e = ap unlink_late (go_is q (removes.Unmakes child children) e)

clears_late : (t : Bool) (group : Group) (children : Children) (first : Option Gfid) (q : UnlinkStage) → Go q ≡ cond t (Go (removes.Votes (Clear group) children)) (removes_child children first) → unlink_late q ≡ true
clears_late true group children first q e = ap unlink_late (go_is q (removes.Votes (Clear group) children) e)
clears_late false group children first q e = child_late children first q e

removed_late : (children : Children) (past : Option Gfid) (q : UnlinkStage) → FirstRemoved children past (Go q) → unlink_late q ≡ true
removed_late children past q (first, is, e) = child_late children first q e

unlink_stays : (p q : UnlinkStage) (c : Account) → unlink_table.follows p c (Go q) → unlink_late p ≡ true → unlink_late q ≡ true
unlink_stays (removes.Opens o) q c f late = absurd (cc)
unlink_stays (removes.Name group) q c f late = absurd (cc)
unlink_stays (removes.Votes (Pre group) children) q c f late = absurd (cc)
unlink_stays (removes.Votes (Post group) children) q c f late =
    let w = if_quorum c group _ (λ next. (first : Option Gfid) × Rattle.ec_entry.specs.Children.IsFirst 31 (Rattle.ec_entry.specs.Children.child_by children) None first × (next ≡ cond (nat_le (bricks_of c.given) (count_serving c group)) (Go (removes.Votes (Clear group) children)) (removes_child children first))) q f in
    clears_late (nat_le (bricks_of c.given) (count_serving c group)) group children w.0 q w.2
unlink_stays (removes.Votes (Clear group) children) q c f late = removed_late children None q f
unlink_stays (removes.Enters group children) q c f late = absurd (cc)
unlink_stays (removes.Unmakes child children) q c f late = removed_late children (Some child) q f

pub unlink_ends : EndsWithPosts puts_data unlink_table
unlink_ends = record { is_late = unlink_late; early = unlink_early; off = unlink_off; stays = unlink_stays }

-- ## A setattr

abbrev setattr_late : SetAttrStage → Bool
setattr_late (sets.Opens o) = false
setattr_late (sets.Votes b) = is_late_ballot b

setattr_early : (p : SetAttrStage) (c : Account) (b : ℕ) (r : Request) → setattr_table.asks p c b ≡ Some r → setattr_late p ≡ false → is_post r ≡ false
setattr_early (sets.Opens o) c b r e early = opening_early Exclusive o c b r e
setattr_early (sets.Votes v) c b r e early = ballot_early v c b r e early

setattr_off : (p : SetAttrStage) (c : Account) (b : ℕ) (r : Request) → setattr_table.asks p c b ≡ Some r → setattr_late p ≡ true → puts_data r ≡ false
setattr_off (sets.Opens o) c b r e late = absurd (cc)
setattr_off (sets.Votes v) c b r e late = ballot_off v c b r e late

abbrev posts_next : Group → Account → Next SetAttrStage → Type 0
posts_next group c next = next ≡ Go (sets.Votes (Post group))

setattr_stays : (p q : SetAttrStage) (c : Account) → setattr_table.follows p c (Go q) → setattr_late p ≡ true → setattr_late q ≡ true
setattr_stays (sets.Opens o) q c f late = absurd (cc)
setattr_stays (sets.Votes v) q c f late = ballot_stays setattr_late (λ b. sets.Votes b) posts_next (λ c group. told (attr_after c.given.op)) (λ group. refl) v c q f late

pub setattr_ends : EndsWithPosts puts_data setattr_table
setattr_ends = record { is_late = setattr_late; early = setattr_early; off = setattr_off; stays = setattr_stays }
