-- Calls that change something: from their PreOps on none of the answers comes that come before changes.
use Rattle.std.proofs.Common.{◌≡◌, ℕ, ◌==◌, inl, inr, nat_le, Bool, true, false, cond, refl, sym, ◌∙◌, ap, subst, List, [], Option, Some, None}
use Rattle.ec_answers.specs.declared.grouped.Group.{Group}
use Rattle.ec_attr.specs.declared.attr.Attr.{Attr as AttrOf}
use Rattle.ec_attr.specs.declared.geometry.Geometry.{Geometry}
use Rattle.ec_attr.specs.declared.gfid.Gfid.{Gfid}
use Rattle.ec_attr.specs.declared.kind.LockKind.TheVariants.{Exclusive}
use Rattle.ec_conduct.specs.Account.{Account}
use Rattle.ec_conduct.specs.Ballots.{attr_after}
use Rattle.ec_conduct.specs.Given.{Given, bricks_of, quorum_of}
use Rattle.ec_entry.specs.Make.{MakeFollows, make_asks, make_table, where_all}
use Rattle.ec_entry.specs.Make.{BallotGoes as MakeGoes, name_in as made_name}
use Rattle.ec_entry.specs.SetAttr.{SetAttrFollows, setattr_asks, setattr_table, told}
use Rattle.ec_entry.specs.Unlink.{BallotGoes, UnlinkFollows, name_in, removes_child, unlink_asks, unlink_table}
use Rattle.ec_entry.specs.declared.children.Children.{Children}
use Rattle.ec_entry.specs.declared.make.MakeStage.{MakeStage}
use Rattle.ec_entry.specs.declared.make.MakeStage.TheVariants.{Enters as MakeEnters, Made, Makes, Name as MakeName, Opens as MakeOpens, Votes as MakeVotes}
use Rattle.ec_entry.specs.declared.setattr.SetAttrStage.{SetAttrStage}
use Rattle.ec_entry.specs.declared.setattr.SetAttrStage.TheVariants.{Opens as SetAttrOpens, Votes as SetAttrBallot}
use Rattle.ec_entry.specs.declared.unlink.UnlinkStage.{UnlinkStage}
use Rattle.ec_entry.specs.declared.unlink.UnlinkStage.TheVariants.{Enters, Name, Opens as UnlinkOpens, Unmakes, Votes as UnlinkVotes}
use Rattle.ec_txn.specs.Ballot.{BallotFollows, IfQuorum, count_serving}
use Rattle.ec_txn.specs.Rounds.{subject}
use Rattle.ec_txn.specs.declared.ballot.Ballot.{Ballot}
use Rattle.ec_txn.specs.declared.ballot.Ballot.TheVariants.{Pre, Post, Clear}
use Rattle.ec_txn.specs.declared.ctx.Ctx.{Ctx}
use Rattle.ec_txn.specs.declared.stage.Next.{Next}
use Rattle.ec_txn.specs.declared.stage.Next.TheVariants.{Go, Say}
use Rattle.ec_wire.specs.declared.op.Op.{Op}
use Rattle.ec_wire.specs.declared.op.Op.TheVariants.{SetAttr}
use Rattle.ec_wire.specs.declared.phase.Phase.{Phase}
use Rattle.ec_wire.specs.declared.request.Request.{Request}
use Rattle.ec_wire.specs.declared.request.Request.TheVariants.{NameGet}
use Rattle.ec_write.specs.Truncate.{TruncateFollows, truncate_asks, truncate_table}
use Rattle.ec_write.specs.Write.{AfterRead, Codes, GoesOn, WriteFollows, asks_of, first_of, says_size, second_of, write_table}
use Rattle.ec_write.specs.declared.stage.TruncateStage.{TruncateStage}
use Rattle.ec_write.specs.declared.stage.TruncateStage.TheVariants.{Cuts, Opens as TruncateOpens, Reads as TruncateReads, Votes as TruncateVotes, Writes as TruncateWrites}
use Rattle.ec_write.specs.declared.stage.WriteStage.{WriteStage}
use Rattle.ec_write.specs.declared.stage.WriteStage.TheVariants.{Opens as WriteOpens, Reads, Votes, Writes}
use Rattle.ec_law_grants.specs.Alters.{alters}
use Rattle.ec_law_replies.specs.Laws.{comes_before_changes}
use Rattle.ec_law_replies.proofs.Quiet.{IsQuiet, is_late}
use Rattle.ec_law_replies.proofs.OnlyReads.{fetching_quiet, opening_quiet}

-- a late stage comes next, or an answer that may come after changes
abbrev IsLate : {P : Type 0} → (P → Bool) → Next P → Type 0
IsLate late next = is_late late comes_before_changes next ≡ true

late_same : {P : Type 0} (late : P → Bool) (a b : Next P) → a ≡ b → IsLate late b → IsLate late a
late_same late a b e l = ap (is_late late comes_before_changes) e ∙ l

-- where a quorum did it or didn't
late_quorum : {P : Type 0} (late : P → Bool) (c : Account) (group : Group) (phase : Phase) (goes_on : Next P → Type 0) (next : Next P) → (goes_on next → IsLate late next) → IfQuorum c group phase goes_on next → IsLate late next
late_quorum late c group phase goes_on next on (inl w) = ap (is_late late comes_before_changes) w.1
late_quorum late c group phase goes_on next on (inr w) = on w.1

late_when : {P : Type 0} (late : P → Bool) (t : Bool) (a b : Next P) → IsLate late a → IsLate late b → IsLate late (cond t a b)
late_when late true a b l k = l
late_when late false a b l k = k

late_ballot : {P : Type 0} (late : P → Bool) (into : Ballot → P) (changes : Group → Account → Next P → Type 0) (says : Account → Group → Rattle.ec_wire.specs.declared.answer.Answer.Answer) (c : Account) → ((stage : Ballot) → late (into stage) ≡ true)
    → ((group : Group) (next : Next P) → changes group c next → IsLate late next) → ((group : Group) → comes_before_changes (says c group) ≡ false)
    → (stage : Ballot) (next : Next P) → BallotFollows into changes says stage c next → IsLate late next
late_ballot late into changes says c votes on said (Pre group) next follows = late_quorum late c group _ (changes group c) next (on group next) follows
late_ballot late into changes says c votes on said (Post group) next follows =
    late_quorum late c group _ (λ next. next ≡ cond (nat_le (bricks_of c.given) (count_serving c group)) (Go (into (Clear group))) (Say (says c group))) next
    (λ e. late_same late next _ e (late_when late (nat_le (bricks_of c.given) (count_serving c group)) (Go (into (Clear group))) (Say (says c group)) (votes (Clear group)) (ap Rattle.std.proofs.Common.not (said group)))) follows
late_ballot late into changes says c votes on said (Clear group) next follows = late_same late next (Say (says c group)) follows (ap Rattle.std.proofs.Common.not (said group))

true_false : true ≡ false → ⊥
true_false e = cc

false_true : false ≡ true → ⊥
false_true e = cc

-- ## A setattr

abbrev pub setattr_late : SetAttrStage → Bool
setattr_late (SetAttrOpens stage) = false
setattr_late (SetAttrBallot stage) = true

pub setattr_quiet : (given : Given) (g : Gfid) (attr : AttrOf) → given.op ≡ SetAttr g attr → IsQuiet given setattr_table setattr_late comes_before_changes
setattr_quiet given g attr op = record { asks = λ p c x r l e. asks p c x r l e; stays = λ p c next e l follows. stays p c next e l follows }
  where
    asks : (p : SetAttrStage) (c : Account) (x : ℕ) (r : Request) → setattr_late p ≡ false → setattr_asks p c x ≡ Some r → alters r ≡ false
    asks (SetAttrOpens stage) c x r l e = opening_quiet Exclusive stage c x r e
    asks (SetAttrBallot stage) c x r l e = absurd (true_false l)

    stays : (p : SetAttrStage) (c : Account) (next : Next SetAttrStage) → c.given ≡ given → setattr_late p ≡ true → SetAttrFollows p c next → IsLate setattr_late next
    stays (SetAttrOpens stage) c next e l follows = absurd (false_true l)
    stays (SetAttrBallot stage) c next e l follows =
        late_ballot setattr_late SetAttrBallot (λ group c next. next ≡ Go (SetAttrBallot (Post group))) (λ c group. told (attr_after c.given.op)) c (λ stage. refl) (λ group next e. late_same setattr_late next (Go (SetAttrBallot (Post group))) e refl)
        (λ group. ap (λ (o : Op). comes_before_changes (told (attr_after o))) (ap (λ (v : Given). v.op) e ∙ op)) stage next follows

-- ## A write

abbrev pub write_late : WriteStage → Bool
write_late (WriteOpens stage) = false
write_late (Votes stage) = true
write_late (Reads group reading front) = true
write_late (Writes group lists) = true

goes_on_late : (x : Ctx) (geometry : Geometry) (op : Op) (group : Group) (front back : List (List ℕ)) (o : Option ℕ) (next : Next WriteStage) → GoesOn x geometry op group front back o next → IsLate write_late next
goes_on_late x geometry op group front back None next (lists, coded, e) = ap (is_late write_late comes_before_changes) e
goes_on_late x geometry op group front back (Some stripe) next e = ap (is_late write_late comes_before_changes) e

after_read_late : (t : Bool) (x : Ctx) (geometry : Geometry) (op : Op) (group : Group) (front stripe : List (List ℕ)) (next : Next WriteStage) → AfterRead t x geometry op group front stripe next → IsLate write_late next
after_read_late true x geometry op group front stripe next follows = goes_on_late x geometry op group stripe [] (second_of geometry op group) next follows
after_read_late false x geometry op group front stripe next follows = goes_on_late x geometry op group front stripe None next follows

pub write_quiet : (ctx : Ctx) (given : Given) → IsQuiet given (write_table ctx) write_late comes_before_changes
write_quiet ctx given = record { asks = λ p c x r l e. asks p c x r l e; stays = λ p c next e l follows. stays p c next l follows }
  where
    asks : (p : WriteStage) (c : Account) (x : ℕ) (r : Request) → write_late p ≡ false → asks_of p c x ≡ Some r → alters r ≡ false
    asks (WriteOpens stage) c x r l e = opening_quiet Exclusive stage c x r e
    asks (Votes stage) c x r l e = absurd (true_false l)
    asks (Reads group reading front) c x r l e = absurd (true_false l)
    asks (Writes group lists) c x r l e = absurd (true_false l)

    stays : (p : WriteStage) (c : Account) (next : Next WriteStage) → write_late p ≡ true → WriteFollows ctx p c next → IsLate write_late next
    stays (WriteOpens stage) c next l follows = absurd (false_true l)
    stays (Votes stage) c next l follows =
        late_ballot write_late Votes (Rattle.ec_write.specs.Write.Prepares ctx) says_size c (λ stage. refl) (λ group next w. goes_on_late ctx c.given.geometry c.given.op group [] [] (first_of c.given.geometry c.given.op group) next w) (λ group. refl) stage next follows
    stays (Reads group reading front) c next l (inl (few, e)) = ap (is_late write_late comes_before_changes) e
    stays (Reads group reading front) c next l (inr (enough, stripe, decoded, after)) =
        after_read_late (reading.first == Rattle.ec_write.specs.Range.first_stripe (quorum_of c.given) (Rattle.ec_write.specs.Range.off_of c.given.op)) ctx c.given.geometry c.given.op group front stripe next after
    stays (Writes group lists) c next l follows = late_quorum write_late c group _ (λ next. next ≡ Go (Votes (Post group))) next (λ e. late_same write_late next (Go (Votes (Post group))) e refl) follows

-- ## A truncate

abbrev pub truncate_late : TruncateStage → Bool
truncate_late (TruncateOpens stage) = false
truncate_late (TruncateVotes stage) = true
truncate_late (TruncateReads group reading) = true
truncate_late (TruncateWrites group lists) = true
truncate_late (Cuts group) = true

pub truncate_quiet : (ctx : Ctx) (given : Given) → IsQuiet given (truncate_table ctx) truncate_late comes_before_changes
truncate_quiet ctx given = record { asks = λ p c x r l e. asks p c x r l e; stays = λ p c next e l follows. stays p c next l follows }
  where
    asks : (p : TruncateStage) (c : Account) (x : ℕ) (r : Request) → truncate_late p ≡ false → truncate_asks p c x ≡ Some r → alters r ≡ false
    asks (TruncateOpens stage) c x r l e = opening_quiet Exclusive stage c x r e
    asks (TruncateVotes stage) c x r l e = absurd (true_false l)
    asks (TruncateReads group reading) c x r l e = absurd (true_false l)
    asks (TruncateWrites group lists) c x r l e = absurd (true_false l)
    asks (Cuts group) c x r l e = absurd (true_false l)

    trims : (c : Account) (group : Group) (next : Next TruncateStage) → Rattle.ec_write.specs.Truncate.Trims ctx group c next → IsLate truncate_late next
    trims c group next e = late_same truncate_late next _ e (late_when truncate_late (Rattle.ec_write.specs.Range.head_of (quorum_of c.given) (Rattle.ec_write.specs.Truncate.low_of c.given.op group) == 0)
        (Go (Cuts group)) (Go (TruncateReads group (Rattle.ec_write.specs.Write.reading_of ctx (subject c.given.op) group (Rattle.ec_write.specs.Range.first_stripe (quorum_of c.given) (Rattle.ec_write.specs.Truncate.low_of c.given.op group))))) refl refl)

    stays : (p : TruncateStage) (c : Account) (next : Next TruncateStage) → truncate_late p ≡ true → TruncateFollows ctx p c next → IsLate truncate_late next
    stays (TruncateOpens stage) c next l follows = absurd (false_true l)
    stays (TruncateVotes stage) c next l follows = late_ballot truncate_late TruncateVotes (Rattle.ec_write.specs.Truncate.Trims ctx) Rattle.ec_write.specs.Truncate.says_to c (λ stage. refl) (trims c) (λ group. refl) stage next follows
    stays (TruncateReads group reading) c next l (inl (few, e)) = ap (is_late truncate_late comes_before_changes) e
    stays (TruncateReads group reading) c next l (inr (enough, stripe, decoded, (lists, coded, e))) = ap (is_late truncate_late comes_before_changes) e
    stays (TruncateWrites group lists) c next l follows = late_quorum truncate_late c group _ (λ next. next ≡ Go (Cuts group)) next (λ e. late_same truncate_late next (Go (Cuts group)) e refl) follows
    stays (Cuts group) c next l follows = late_quorum truncate_late c group _ (λ next. next ≡ Go (TruncateVotes (Post group))) next (λ e. late_same truncate_late next (Go (TruncateVotes (Post group))) e refl) follows

-- ## A create or mkdir

abbrev pub make_late : MakeStage → Bool
make_late (MakeOpens stage) = false
make_late (MakeName group) = false
make_late (MakeVotes stage) = true
make_late (Makes group) = true
make_late (MakeEnters group) = true
make_late (Made group) = true

pub make_quiet : (given : Given) → IsQuiet given make_table make_late comes_before_changes
make_quiet given = record { asks = λ p c x r l e. asks p c x r l e; stays = λ p c next e l follows. stays p c next l follows }
  where
    asks : (p : MakeStage) (c : Account) (x : ℕ) (r : Request) → make_late p ≡ false → make_asks p c x ≡ Some r → alters r ≡ false
    asks (MakeOpens stage) c x r l e = opening_quiet Exclusive stage c x r e
    asks (MakeName group) c x r l e = fetching_quiet group.bricks (λ grant. NameGet (record { 0 = subject c.given.op }) grant (made_name c.given.op)) c x r (λ i. refl) e
    asks (MakeVotes stage) c x r l e = absurd (true_false l)
    asks (Makes group) c x r l e = absurd (true_false l)
    asks (MakeEnters group) c x r l e = absurd (true_false l)
    asks (Made group) c x r l e = absurd (true_false l)

    all_late : (c : Account) (group : Group) (stage : MakeStage) (next : Next MakeStage) → make_late stage ≡ true → next ≡ where_all c group stage → IsLate make_late next
    all_late c group stage next l e = late_same make_late next (where_all c group stage) e (late_when make_late (nat_le (bricks_of c.given) (count_serving c group)) (Go stage) _ l refl)

    votes : (stage : Ballot) (c : Account) (next : Next MakeStage) → MakeGoes stage c next → IsLate make_late next
    votes (Pre group) c next follows = late_quorum make_late c group _ (λ next. next ≡ Go (Makes group)) next (λ e. late_same make_late next (Go (Makes group)) e refl) follows
    votes (Post group) c next follows = late_quorum make_late c group _ (λ next. next ≡ where_all c group (MakeVotes (Clear group))) next (λ e. all_late c group (MakeVotes (Clear group)) next refl e) follows
    votes (Clear group) c next e = all_late c group (Made group) next refl e

    stays : (p : MakeStage) (c : Account) (next : Next MakeStage) → make_late p ≡ true → MakeFollows p c next → IsLate make_late next
    stays (MakeOpens stage) c next l follows = absurd (false_true l)
    stays (MakeName group) c next l follows = absurd (false_true l)
    stays (MakeVotes stage) c next l follows = votes stage c next follows
    stays (Makes group) c next l follows = late_quorum make_late c group _ (λ next. next ≡ Go (MakeEnters group)) next (λ e. late_same make_late next (Go (MakeEnters group)) e refl) follows
    stays (MakeEnters group) c next l follows = late_quorum make_late c group _ (λ next. next ≡ Go (MakeVotes (Post group))) next (λ e. late_same make_late next (Go (MakeVotes (Post group))) e refl) follows
    stays (Made group) c next l e = ap (is_late make_late comes_before_changes) e

-- ## An unlink

abbrev pub unlink_late : UnlinkStage → Bool
unlink_late (UnlinkOpens stage) = false
unlink_late (Name group) = false
unlink_late (UnlinkVotes stage children) = true
unlink_late (Enters group children) = true
unlink_late (Unmakes child children) = true

pub unlink_quiet : (given : Given) → IsQuiet given unlink_table unlink_late comes_before_changes
unlink_quiet given = record { asks = λ p c x r l e. asks p c x r l e; stays = λ p c next e l follows. stays p c next l follows }
  where
    asks : (p : UnlinkStage) (c : Account) (x : ℕ) (r : Request) → unlink_late p ≡ false → unlink_asks p c x ≡ Some r → alters r ≡ false
    asks (UnlinkOpens stage) c x r l e = opening_quiet Exclusive stage c x r e
    asks (Name group) c x r l e = fetching_quiet group.bricks (λ grant. NameGet (record { 0 = subject c.given.op }) grant (name_in c.given.op)) c x r (λ i. refl) e
    asks (UnlinkVotes stage children) c x r l e = absurd (true_false l)
    asks (Enters group children) c x r l e = absurd (true_false l)
    asks (Unmakes child children) c x r l e = absurd (true_false l)

    removes : (children : Children) (o : Option Gfid) → IsLate unlink_late (removes_child children o)
    removes children None = refl
    removes children (Some child) = refl

    votes : (stage : Ballot) (children : Children) (c : Account) (next : Next UnlinkStage) → BallotGoes stage children c next → IsLate unlink_late next
    votes (Pre group) children c next (inl w) = ap (is_late unlink_late comes_before_changes) w.1
    votes (Pre group) children c next (inr w) = ap (is_late unlink_late comes_before_changes) w.1
    votes (Post group) children c next (inl w) = ap (is_late unlink_late comes_before_changes) w.1
    votes (Post group) children c next (inr (enough, (first, is, e))) = late_same unlink_late next _ e (late_when unlink_late (nat_le (bricks_of c.given) (count_serving c group)) (Go (UnlinkVotes (Clear group) children)) (removes_child children first) refl (removes children first))
    votes (Clear group) children c next (first, is, e) = late_same unlink_late next (removes_child children first) e (removes children first)

    stays : (p : UnlinkStage) (c : Account) (next : Next UnlinkStage) → unlink_late p ≡ true → UnlinkFollows p c next → IsLate unlink_late next
    stays (UnlinkOpens stage) c next l follows = absurd (false_true l)
    stays (Name group) c next l follows = absurd (false_true l)
    stays (UnlinkVotes stage children) c next l follows = votes stage children c next follows
    stays (Enters group children) c next l (inl w) = ap (is_late unlink_late comes_before_changes) w.1
    stays (Enters group children) c next l (inr w) = ap (is_late unlink_late comes_before_changes) w.1
    stays (Unmakes child children) c next l (first, is, e) = late_same unlink_late next (removes_child children first) e (removes children first)
