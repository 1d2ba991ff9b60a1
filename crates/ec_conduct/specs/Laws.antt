-- What follows from the conduct, and short histories that keep it or don't.
use Rattle.std.specs.Prelude.{◌≡◌, ◌≢◌, ℕ, ◌+◌, ◌*◌, ◌<◌, ◌≤◌, Bool, true, false, Option, Some, None, List, [], ◌∷◌, ◌++◌}
use Rattle.ec_attr.specs.Bricks.{count_below}
use Rattle.ec_attr.specs.GoodGroup.{IsGoodGroup, agree}
use Rattle.ec_attr.specs.Marks.{marked}
use Rattle.ec_attr.specs.declared.gfid.Gfid.{Gfid}
use Rattle.ec_attr.specs.declared.head.Head.{Head}
use Rattle.ec_attr.specs.declared.kind.Child.{Child}
use Rattle.ec_attr.specs.declared.kind.Domain.TheVariants.{Inode}
use Rattle.ec_attr.specs.declared.kind.Kind.TheVariants.{File, Dir}
use Rattle.ec_attr.specs.declared.kind.LockKind.TheVariants.{Exclusive, Shared}
use Rattle.ec_wire.specs.declared.answer.Answer.{Answer}
use Rattle.ec_wire.specs.declared.answer.Answer.TheVariants.{Attr as AttrIs, Healed}
use Rattle.ec_wire.specs.declared.op.Op.TheVariants.{Create, Heal, Rename, SetAttr, Truncate, Unlink, Scrub, Sweep}
use Rattle.ec_wire.specs.declared.phase.Phase.TheVariants.{Pre, Query}
use Rattle.ec_wire.specs.declared.reply.Reply.{Reply}
use Rattle.ec_wire.specs.declared.reply.Reply.TheVariants.{Done, Fault, Head as HeadIs, NoInode}
use Rattle.ec_wire.specs.declared.request.Request.{Request}
use Rattle.ec_wire.specs.declared.request.Request.TheVariants.{Ask, Clear, Made, Make, Mark, PostOp, PreOp, Query as QueryOf, Release, SetLength, Unmake, Unmark, WriteChunks, NameSet, NamesPut}
use Rattle.ec_conduct.specs.Account.{Account, Wait, account_from, after, at, gfid_of, sent}
use Rattle.ec_conduct.specs.Changes.{are, rename_tests, stripes_of, truncate_tests, write_tests, IsSettling}
use Rattle.ec_conduct.specs.Children.{IsPosted}
use Rattle.ec_conduct.specs.Conduct.{Keeps, KeepsFrom, MayAnswer, MaySend, is_release, named_grant}
use Rattle.ec_conduct.specs.Examples.{IsOneStripe, IsPartWrite, anew, begun, begun_heal, begun_setattr, begun_truncate, behind_heal, cached_byte, cut_truncate, directory, faulted_write, file, full_file, half_create, half_unlink, kept_grants, kept_pre_ops, kept_write, later_file, left_grants, listed_heal, marked_head, marked_heal, mixed_pre_ops, name_f, name_g, new_child, new_file, newer_file, on_kept_grants, one_pre_op, one_query, other_attr, own_stripe, page_f, posted_setattr, posted_unlink, put_heal, read_heal, read_write, scanned, second_window, set_of, shedding, sink_heads, sink_posted, sink_pre_ops, sink_setattr, stale_third, three_heads, touched_heal, trimmed_heal, two_heal_locks, two_locks, unclear_write, unmade_create, unmarked_heal, unread_write, whole_create, whole_heal, whole_setattr, whole_write, write_of, writing, writing_byte}
use Rattle.ec_conduct.specs.Given.{FitsKept, Given, bricks_of, quorum_of}
use Rattle.ec_conduct.specs.Group.{Heads, group_head, is_good, is_sink}
use Rattle.ec_conduct.specs.Leaves.{IsKept, IsOwnStripe}
use Rattle.ec_conduct.specs.Locks.{IsAsked}
use Rattle.ec_conduct.specs.Opened.{account, opened}
use Rattle.ec_conduct.specs.Phases.{HasNoQuorum}
use Rattle.ec_conduct.specs.Standing.{is_lost}
use Rattle.ec_conduct.specs.Table.{AllMay, IsByTurns, MayEnd, Send, Step, Turned, entries_of, last_sends, sent_all, to_bricks, with_answer}
use Rattle.ec_conduct.specs.Own.{Own, Sends, Hears, GivesUp, Answers}

-- for every history
pub record GeneralLaws : Type 0 where
  -- a history that keeps the conduct is a front that keeps it and a rest that keeps it from there on
  pub front : (given : Given) (es fs : List Own) → Keeps given (es ++ fs) → Keeps given es
  pub rest : (given : Given) (es fs : List Own) → Keeps given (es ++ fs) → KeepsFrom (account given es) fs
  pub whole : (given : Given) (es fs : List Own) → Keeps given es → KeepsFrom (account given es) fs → Keeps given (es ++ fs)
  pub parts : (given : Given) (es fs : List Own) → account given (es ++ fs) ≡ account_from (account given es) fs
  -- a request names an ask that isn't released, so none goes under a grant after its Release
  pub stands : (c : Account) (b g grant : ℕ) (r : Request) → gfid_of r ≡ Some g → named_grant r ≡ Some grant → MaySend c b r → IsAsked c b g grant
  pub released : (c : Account) (b i grant : ℕ) (g : Gfid) (r : Request) → gfid_of r ≡ Some g.0 → named_grant r ≡ Some grant → MaySend (sent c b i (Release g grant)) b r → ⊥
  -- but for a Release a brick is sent one request at a time, and a sink that a heal has lost nothing
  pub alone : (c : Account) (b g : ℕ) (r : Request) → gfid_of r ≡ Some g → is_release r ≡ false → MaySend c b r → (c.waits b ≡ None) × (is_lost (at c g b) ≡ false)
  -- a rename removes a name only after its commit in the other directory
  pub renamed : (c : Account) (b grant : ℕ) (old new : Gfid) (name to : List ℕ) (child : Option Child) → c.given.op ≡ Rename old name new to → old.0 ≢ new.0 → MaySend c b (NameSet old grant name child) → IsPosted c new.0
  -- nothing is sent after the answer
  pub silent : (c : Account) (answer : Answer) (b : ℕ) (r : Request) → MaySend (after c (Answers answer)) b r → ⊥
  -- a reply to a request that was given up, or to another than the one waited for, counts for nothing
  pub late : (c : Account) (b i : ℕ) (w : Wait) (reply : Reply) → c.waits b ≡ Some w → w.number ≡ i → after (after c (GivesUp b i)) (Hears b i reply) ≡ after c (GivesUp b i)
  pub other : (c : Account) (b i : ℕ) (w : Wait) (reply : Reply) → c.waits b ≡ Some w → w.number ≢ i → after c (Hears b i reply) ≡ c
  -- two sets of bricks that are quorums share a brick, and any two bricks of the good group agree
  pub share : (given : Given) (p q : ℕ → Bool) → quorum_of given ≤ count_below (bricks_of given) p → quorum_of given ≤ count_below (bricks_of given) q → (x : ℕ) × (x < bricks_of given) × (p x ≡ true) × (q x ≡ true)
  pub one_group : (n k : ℕ) (heads : Heads) (a b : ℕ) (h q : Head) → n < 2 * k → heads a ≡ Some h → heads b ≡ Some q → is_good n k heads a ≡ true → is_good n k heads b ≡ true → agree h q ≡ true
  -- the bricks of the group are each alike with just these
  pub whole_group : (n k b : ℕ) (heads : Heads) → n < 2 * k → n ≤ 31 → is_good n k heads b ≡ true → IsGoodGroup k heads (is_good n k heads)

-- of groups among three bricks, of which two are a quorum
pub record GroupLaws : Type 0 where
  pub two : is_good 3 2 (three_heads later_file later_file new_file) 0 ≡ true
  pub third : is_good 3 2 (three_heads later_file later_file new_file) 2 ≡ false
  -- heads that differ in size, version, attribute or kind don't agree, and marked ones make no group
  pub size : is_good 3 2 (three_heads later_file full_file newer_file) 0 ≡ false
  pub version : is_good 3 2 (three_heads later_file newer_file full_file) 0 ≡ false
  pub attr : is_good 3 2 (three_heads later_file (record later_file { attr = other_attr }) full_file) 0 ≡ false
  pub kind : is_good 3 2 (three_heads later_file (record later_file { kind = Dir }) full_file) 0 ≡ false
  pub marked_ones : is_good 3 2 (three_heads (marked_head later_file) (marked_head later_file) new_file) 0 ≡ false
  -- dirty numbers may differ, and the group's is the greatest
  pub dirty : group_head 3 2 (three_heads later_file (record later_file { dirty = record { content = 7; meta = 0 } }) new_file) ≡ Some (record later_file { dirty = record { content = 7; meta = 0 } })
  -- a sink agrees with the group but for its mark
  pub sink : is_sink 3 2 (three_heads later_file later_file (marked_head later_file)) 2 ≡ true
  pub no_sink : is_sink 3 2 (three_heads later_file later_file (marked_head newer_file)) 2 ≡ false

-- of the changes that a commit is made of, with two chunks a stripe
pub record ChangeLaws : Type 0 where
  pub stripes : (stripes_of 2 0 ≡ 0) × (stripes_of 2 1 ≡ 1) × (stripes_of 2 1024 ≡ 1) × (stripes_of 2 1025 ≡ 2)
  -- a write of 1024 bytes from byte 512 on takes all of two stripes, in one request
  pub write : are (write_tests 2 512 1024) (write_of 0 ([] ∷ [] ∷ []) ∷ []) ≡ true
  pub short_write : are (write_tests 2 512 1024) (write_of 0 ([] ∷ []) ∷ []) ≡ false
  pub two_writes : are (write_tests 2 512 1024) (write_of 1 ([] ∷ []) ∷ write_of 0 ([] ∷ []) ∷ []) ≡ false
  -- a truncate within a stripe writes it and then cuts; on a border it only cuts
  pub truncate : are (truncate_tests 2 100 100) (SetLength file 1 1 1 ∷ write_of 0 ([] ∷ []) ∷ []) ≡ true
  pub tail_left : are (truncate_tests 2 100 100) (SetLength file 1 1 1 ∷ []) ≡ false
  pub border : are (truncate_tests 2 1024 5000) (SetLength file 1 1 5 ∷ []) ≡ true
  -- a rename in one directory sets the new name and then removes the old; of two it does one in each
  pub rename : are (rename_tests 1 1 name_f 1 name_g new_child) (set_of name_f None ∷ set_of name_g (Some new_child) ∷ []) ≡ true
  pub other_order : are (rename_tests 1 1 name_f 1 name_g new_child) (set_of name_g (Some new_child) ∷ set_of name_f None ∷ []) ≡ false
  pub old_directory : are (rename_tests 1 1 name_f 3 name_g new_child) (set_of name_f None ∷ []) ≡ true
  pub new_directory : are (rename_tests 1 3 name_f 1 name_g new_child) (set_of name_g (Some new_child) ∷ []) ≡ true

-- a table of which each step may be anything
abbrev pub any_first : Given → Step ℕ → Type 0
any_first given step = Unit {0}

abbrev pub any_step : ℕ → Account → Step ℕ → Type 0
any_step stage c step = Unit {0}

-- of the steps by which tables are run
pub record StepLaws : Type 0 where
  -- where each send and the answer keep the conduct, so do the entries of the step, and the account is the step's
  pub keeps : (c : Account) (i : ℕ) (sends : List Send) (answer : Option Answer) → AllMay c i sends → MayEnd (sent_all c i sends) answer → KeepsFrom c (entries_of i sends answer)
  -- a call that ends releases all: bricks rising, at each the content's lock before the heal's
  pub releases : last_sends (account (begun (Heal file)) (begun_heal later_file)) None ≡ to_bricks 3 (λ b. Release file (7 + b + b) ∷ Release file (1 + b + b) ∷ [])
  pub account_is : (c : Account) (i : ℕ) (sends : List Send) (answer : Option Answer) → account_from c (entries_of i sends answer) ≡ with_answer (sent_all c i sends) answer
  -- where a table lets a step be anything, a turn still begins with no send: a call sends nothing outside its steps
  pub no_sends_apart : (given : Given) (t : Turned ℕ) (ts : List (Turned ℕ)) (es : List Own) (stage : Option ℕ) → IsByTurns any_first any_step given (t ∷ ts) es stage → (b i : ℕ) (r : Request) → t.what ≢ Sends b i r

-- when no quorum answered
pub record NoQuorumLaws : Type 0 where
  -- of three bricks one did the PreOp: 1 is the number, but with two there is a quorum
  pub few : HasNoQuorum (account (begun (SetAttr file other_attr)) (mixed_pre_ops Done Fault Fault)) Pre 1
  pub enough : (n : ℕ) → HasNoQuorum (account (begun (SetAttr file other_attr)) (mixed_pre_ops Done Fault Done)) Pre n → ⊥
  -- a sink that did it is not counted; and the first phase on kept grants begins anew
  pub sinks : HasNoQuorum (account (begun (SetAttr file other_attr)) (sink_pre_ops Fault)) Pre 1
  pub on_kept : (n : ℕ) → HasNoQuorum (account (on_kept_grants (Truncate file 0)) kept_pre_ops) Pre n → ⊥
  -- two heads of three are alike; of a brick that wasn't asked nothing is known
  pub alike : (n : ℕ) → HasNoQuorum (account (begun (SetAttr file other_attr)) stale_third) Query n → ⊥
  pub unasked : (n : ℕ) → HasNoQuorum (account (begun (SetAttr file other_attr)) one_query) Query n → ⊥

-- of a setattr and of a write of one stripe on three bricks
pub record ExampleLaws : Type 0 where
  pub setattr : Keeps (begun (SetAttr file other_attr)) whole_setattr
  pub write : (bytes : List ℕ) (stripe : List (List ℕ)) (code : ℕ → List ℕ) → IsOneStripe bytes stripe code → Keeps (writing bytes) (whole_write code)
  -- no PostOp to a brick that didn't do its WriteChunks
  pub faulted : (bytes : List ℕ) (code : ℕ → List ℕ) → MaySend (account (writing bytes) (faulted_write code)) 2 (PostOp file 5 0 1 1024 None) → ⊥
  -- no Clear after the PostOps of a quorum only
  pub partly_posted : MaySend (account (begun (SetAttr file other_attr)) posted_setattr) 0 (Clear file 1 1) → ⊥
  -- no answer before a PostOp, and one after those of a quorum
  pub unposted : MayAnswer (account (begun (SetAttr file other_attr)) begun_setattr) (AttrIs other_attr) → ⊥
  pub answered : MayAnswer (account (begun (SetAttr file other_attr)) posted_setattr) (AttrIs other_attr)
  -- no Query while an ask is waited for, and no Release while a PreOp is
  pub unlocked : MaySend (account (begun (SetAttr file other_attr)) two_locks) 0 (QueryOf file 1) → ⊥
  pub unfinished : MaySend (account (begun (SetAttr file other_attr)) one_pre_op) 1 (Release file 3) → ⊥
  -- no second dirty number, and none that isn't above the group's
  pub other_dirty : MaySend (account (begun (SetAttr file other_attr)) one_pre_op) 1 (PreOp file 3 0 2) → ⊥
  pub low_dirty : MaySend (account (begun (SetAttr file other_attr)) stale_third) 0 (PreOp file 1 1 1) → ⊥
  -- a sink gets its PostOp, marked, and then nobody a Clear
  pub sink : MaySend (account (begun (SetAttr file other_attr)) sink_setattr) 2 (PostOp file 5 (marked 1) (marked 3) 0 (Some other_attr))
  pub unmarked_sink : MaySend (account (begun (SetAttr file other_attr)) sink_setattr) 2 (PostOp file 5 (marked 1) 3 0 (Some other_attr)) → ⊥
  pub sink_unclear : MaySend (account (begun (SetAttr file other_attr)) sink_posted) 0 (Clear file 1 3) → ⊥
  -- a sink's PreOp names the group's version, marked; and a sink counts for no quorum
  pub sink_pre : MaySend (account (begun (SetAttr file other_attr)) sink_heads) 2 (PreOp file 5 (marked 1) 2)
  pub unmarked_pre : MaySend (account (begun (SetAttr file other_attr)) sink_heads) 2 (PreOp file 5 1 2) → ⊥
  pub sinks_no_quorum : MaySend (account (begun (SetAttr file other_attr)) (sink_pre_ops Fault)) 0 (PostOp file 1 1 3 0 (Some other_attr)) → ⊥
  -- no second PreOp
  pub twice : MaySend (account (begun (SetAttr file other_attr)) (mixed_pre_ops Done Fault Done)) 1 (PreOp file 3 0 1) → ⊥
  -- no PreOp to a brick outside the group, nor at another version than it answered
  pub stale : MaySend (account (begun (SetAttr file other_attr)) stale_third) 2 (PreOp file 5 0 2) → ⊥
  pub other_version : MaySend (account (begun (SetAttr file other_attr)) stale_third) 0 (PreOp file 1 0 2) → ⊥
  -- a part of a stripe is written with the other bytes that were read
  pub part : (old new : List (List ℕ)) (chunk code : ℕ → List ℕ) → IsPartWrite old new chunk code → MaySend (account writing_byte (read_write chunk)) 0 (WriteChunks file 1 0 (code 0 ∷ []))
  -- or with those that are cached under the group's version
  pub cached : (old new : List (List ℕ)) (chunk code : ℕ → List ℕ) → IsPartWrite old new chunk code → MaySend (account (cached_byte 1 old) unread_write) 0 (WriteChunks file 1 0 (code 0 ∷ []))
  -- no WriteChunks of a part of a stripe whose other bytes weren't read
  pub unread : (chunk : List ℕ) → MaySend (account writing_byte unread_write) 0 (WriteChunks file 1 0 (chunk ∷ [])) → ⊥

-- of a create
pub record CreateLaws : Type 0 where
  pub create : Keeps (begun (Create directory name_f)) whole_create
  -- no Make of another gfid than it took, no PostOp before Make and NameSet, no Made before the Clears
  pub other_child : MaySend (account (begun (Create directory name_f)) half_create) 0 (Make directory 1 (record { kind = File; gfid = record { 0 = 8 } })) → ⊥
  pub unnamed : MaySend (account (begun (Create directory name_f)) half_create) 0 (PostOp directory 1 0 1 0 None) → ⊥
  pub unclear : MaySend (account (begun (Create directory name_f)) half_create) 0 (Made directory 1 new_child.gfid) → ⊥
  -- no change at a brick that failed an earlier one
  pub unmade : MaySend (account (begun (Create directory name_f)) unmade_create) 2 (NameSet directory 5 name_f (Some new_child)) → ⊥

-- of an unlink
pub record UnlinkLaws : Type 0 where
  -- no Unmake before the PostOps, and then of the child that the name led to, and no other
  pub unposted : MaySend (account (begun (Unlink directory name_f)) half_unlink) 0 (Unmake directory 1 (record { 0 = 9 })) → ⊥
  pub removes : MaySend (account (begun (Unlink directory name_f)) posted_unlink) 0 (Unmake directory 1 (record { 0 = 9 }))
  pub other_child : MaySend (account (begun (Unlink directory name_f)) posted_unlink) 0 (Unmake directory 1 (record { 0 = 8 })) → ⊥
  -- and by no other call
  pub other_call : MaySend (account (begun (Create directory name_f)) posted_unlink) 0 (Unmake directory 1 (record { 0 = 9 })) → ⊥

-- of a truncate of one stripe to nothing
pub record TruncateLaws : Type 0 where
  -- no PostOp without the SetLength, and none after one that keeps a stripe
  pub uncut : MaySend (account (begun (Truncate file 0)) begun_truncate) 0 (PostOp file 1 1 3 0 None) → ⊥
  pub cut_late : MaySend (account (begun (Truncate file 0)) (cut_truncate 1)) 0 (PostOp file 1 1 3 0 None) → ⊥
  pub cut_first : MaySend (account (begun (Truncate file 0)) (cut_truncate 0)) 0 (PostOp file 1 1 3 0 None)

-- of a heal of the third of three bricks
pub record HealLaws : Type 0 where
  pub heal : Keeps (begun (Heal file)) whole_heal
  -- no lock of the content where the Heal lock wasn't granted
  pub unhealed : MaySend (account (begun (Heal file)) two_heal_locks) 2 (Ask file Inode Exclusive) → ⊥
  -- no second Mark, none under another Heal grant, none to a brick of the group
  pub second_mark : MaySend (account (begun (Heal file)) (marked_heal later_file)) 2 (Mark file 11 5 (marked_head later_file)) → ⊥
  pub other_grant : MaySend (account (begun (Heal file)) (begun_heal later_file)) 2 (Mark file 11 3 (marked_head later_file)) → ⊥
  pub good_brick : MaySend (account (begun (Heal file)) (begun_heal later_file)) 0 (Mark file 7 1 (marked_head later_file)) → ⊥
  -- no copy and no Unmark before the SetLength, no Unmark before the copies, none at another version, and no PreOp to the
  -- sink before it
  pub untrimmed_copy : (chunk : List ℕ) → MaySend (account (begun (Heal file)) (marked_heal full_file)) 2 (WriteChunks file 5 0 (chunk ∷ [])) → ⊥
  pub untrimmed : MaySend (account (begun (Heal file)) (marked_heal later_file)) 2 (Unmark file 5 (marked 1) 1) → ⊥
  pub uncopied : MaySend (account (begun (Heal file)) (trimmed_heal full_file 1)) 2 (Unmark file 5 (marked 1) 1) → ⊥
  pub other_version : MaySend (account (begun (Heal file)) (trimmed_heal later_file 0)) 2 (Unmark file 5 (marked 2) 1) → ⊥
  -- a copy is the code of what two bricks of the group gave, and nothing is copied that wasn't read
  pub copy : (bytes : List ℕ) (stripe : List (List ℕ)) (code : ℕ → List ℕ) → IsOneStripe bytes stripe code → MaySend (account (begun (Heal file)) (read_heal code)) 2 (WriteChunks file 5 0 (code 2 ∷ []))
  pub unread_copy : (chunk : List ℕ) → MaySend (account (begun (Heal file)) (trimmed_heal full_file 1)) 2 (WriteChunks file 5 0 (chunk ∷ [])) → ⊥
  -- in a second window no Mark; an Unmark and a third window only where the sink has the group's version
  pub late_mark : MaySend (account (begun (Heal file)) (begun_heal later_file ++ second_window later_file NoInode)) 2 (Mark file 35 5 (marked_head later_file)) → ⊥
  pub moved : MaySend (account (begun (Heal file)) (trimmed_heal later_file 0 ++ second_window newer_file (HeadIs (marked_head later_file)))) 2 (Unmark file 5 (marked 3) 1) → ⊥
  pub followed : MaySend (account (begun (Heal file)) (trimmed_heal later_file 0 ++ second_window newer_file (HeadIs (marked_head newer_file)))) 2 (Unmark file 5 (marked 3) 1)
  pub stuck : MaySend (account (begun (Heal file)) behind_heal) 0 (Ask file Inode Exclusive) → ⊥
  -- it says `all` exactly where all bricks did the Clear, and names the sinks that did the Unmark
  pub early_all : MayAnswer (account (begun (Heal file)) unmarked_heal) (Healed 4 true) → ⊥
  pub untold_all : MayAnswer (account (begun (Heal file)) touched_heal) (Healed 4 false) → ⊥
  pub other_sinks : MayAnswer (account (begun (Heal file)) unmarked_heal) (Healed 0 false) → ⊥
  -- of a directory the sink gets the names on which the group agrees, and no Unmark before them
  pub names : MaySend (account (begun (Heal file)) (listed_heal page_f)) 2 (NamesPut file 5 None None page_f)
  pub other_names : MaySend (account (begun (Heal file)) (listed_heal page_f)) 2 (NamesPut file 5 None None []) → ⊥
  pub unput : MaySend (account (begun (Heal file)) (listed_heal page_f)) 2 (Unmark file 5 (marked 1) 1) → ⊥
  pub put : MaySend (account (begun (Heal file)) put_heal) 2 (Unmark file 5 (marked 1) 1)
  pub early_touch : MaySend (account (begun (Heal file)) (trimmed_heal later_file 0)) 2 (PreOp file 11 1 2) → ⊥

-- of a call on kept grants
pub record KeptLaws : Type 0 where
  -- it can go on where the last call ended, or release all and begin anew
  pub fits : FitsKept (on_kept_grants (Truncate file 0)) kept_grants
  pub goes_on : MaySend (opened (on_kept_grants (Truncate file 0))) 0 (PreOp file 1 1 1)
  pub anew : Keeps (on_kept_grants (Truncate file 0)) anew
  -- a write leaves what it kept, but not before its answer
  pub leaves : (bytes : List ℕ) (code : ℕ → List ℕ) → IsKept (account (writing bytes) (kept_write code)) left_grants
  pub too_early : (bytes : List ℕ) (code : ℕ → List ℕ) → IsKept (account (writing bytes) (unclear_write code)) left_grants → ⊥
  -- a write leaves its stripe in the cache under the version that it posted, and under no other
  pub stripe : (bytes : List ℕ) (stripe : List (List ℕ)) (code : ℕ → List ℕ) → IsOneStripe bytes stripe code → IsOwnStripe (account (writing bytes) (whole_write code)) (own_stripe 1 stripe)
  pub other_stripe : (bytes : List ℕ) (stripe : List (List ℕ)) (code : ℕ → List ℕ) → IsOwnStripe (account (writing bytes) (whole_write code)) (own_stripe 0 stripe) → ⊥
  -- no lock before all are released, no Query under the kept grants
  pub still_kept : MaySend (opened (on_kept_grants (Truncate file 0))) 0 (Ask file Inode Exclusive) → ⊥
  pub no_query : MaySend (opened (on_kept_grants (Truncate file 0))) 0 (QueryOf file 1) → ⊥

-- of a scrub that settles, and of a full sweep
pub record LaterLaws : Type 0 where
  -- no stripe is rewritten whose chunks are the codes of one stripe
  pub good_stripe : (bytes : List ℕ) (stripe : List (List ℕ)) (code : ℕ → List ℕ) → IsOneStripe bytes stripe code → IsSettling (account (begun (Scrub file true)) (scanned code)) 2 1024 (write_of 0 ([] ∷ []) ∷ []) → ⊥
  -- no record is given back that a page names, and none under a lock that others share
  pub named : MaySend (account (begun (Sweep true)) (shedding Exclusive ((name_f, record { kind = File; gfid = file }) ∷ []))) 0 (Unmake directory 1 file) → ⊥
  pub shared : MaySend (account (begun (Sweep true)) (shedding Shared [])) 0 (Unmake directory 1 file) → ⊥

pub record ConductLaws : Type 0 where
  pub general : GeneralLaws
  pub groups : GroupLaws
  pub changes : ChangeLaws
  pub examples : ExampleLaws
  pub creates : CreateLaws
  pub unlinks : UnlinkLaws
  pub truncates : TruncateLaws
  pub heals : HealLaws
  pub kept : KeptLaws
  pub steps : StepLaws
  pub no_quorum : NoQuorumLaws
  pub later : LaterLaws
