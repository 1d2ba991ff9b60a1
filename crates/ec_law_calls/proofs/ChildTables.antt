-- The tables of the calls that make and remove children go in order.
use Rattle.std.proofs.Common.{◌≡◌, ℕ, ◌^◌, nat_le, nat_lt, Bool, true, false, cond, refl, sym, ap, subst, Option, Some, None}
use Rattle.ec_answers.specs.declared.grouped.Group.{Group}
use Rattle.ec_answers.specs.declared.grouped.Grouped.{Grouped}
use Rattle.ec_answers.specs.declared.grouped.Grouped.TheVariants.{Group as Found, Gone, Fewer}
use Rattle.ec_attr.specs.declared.gfid.Gfid.{Gfid}
use Rattle.ec_attr.specs.declared.kind.Kind.{Kind}
use Rattle.ec_attr.specs.declared.kind.Kind.TheVariants.{File, Dir}
use Rattle.ec_attr.specs.declared.kind.LockKind.TheVariants.{Exclusive}
use Rattle.ec_conduct.specs.Account.{Account, at}
use Rattle.ec_conduct.specs.Done.{is_make}
use Rattle.ec_conduct.specs.Given.{bricks_of}
use Rattle.ec_wire.specs.declared.answer.Answer.{Answer}
use Rattle.ec_wire.specs.declared.request.Request.{Request}
use Rattle.ec_wire.specs.declared.request.Request.TheVariants.{NameGet}
use Rattle.ec_txn.specs.declared.ballot.Ballot.TheVariants.{Pre, Post, Clear}
use Rattle.ec_txn.specs.declared.opening.Opening.TheVariants.{Lock as Locking}
use Rattle.ec_txn.specs.declared.stage.Next.{Next}
use Rattle.ec_txn.specs.declared.stage.Next.TheVariants.{Go, Say}
use Rattle.ec_txn.specs.Ballot.{count_serving, is_within}
use Rattle.ec_txn.specs.Fetching.{under}
use Rattle.ec_txn.specs.Rounds.{subject}
use Rattle.ec_entry.specs.declared.children.Children.{Children}
use Rattle.ec_entry.specs.declared.make.MakeStage.{MakeStage}
use Rattle.ec_entry.specs.declared.make.MakeStage.TheVariants as makes
use Rattle.ec_entry.specs.declared.named.Named.{Named}
use Rattle.ec_entry.specs.declared.named.Named.TheVariants.{Alike, Fewer as FewerOf, Split as SplitOf}
use Rattle.ec_entry.specs.declared.unlink.UnlinkStage.{UnlinkStage}
use Rattle.ec_entry.specs.declared.unlink.UnlinkStage.TheVariants as removes
use Rattle.ec_entry.specs.Make.{MakeFollows, MakeJudges, first_stage, free_or_not, make_asks, make_request, make_table, made_request, name_next, where_all}
use Rattle.ec_entry.specs.Make as make
use Rattle.ec_entry.specs.Named.{Value}
use Rattle.ec_entry.specs.Unlink.{FirstRemoved, UnlinkFollows, UnlinkJudges, removes_child, removes_name, there_or_not, unlink_asks, unlink_table, unmake_request}
use Rattle.ec_entry.specs.Unlink as unlink
use Rattle.ec_law_calls.specs.Parts.{Fits, GoesInOrder, IsNext, Part, Works, Makes, Names, Posts, Ends, is_work}
use Rattle.ec_law_calls.proofs.Asking.{ballot_fits, ballot_part, fetch_is, go_is, go_say, go_when, if_quorum, member_is, opening_fits, opening_next, opening_part, under_lock_is, when_is}

-- ## A create or mkdir

abbrev make_part : MakeStage → Part
make_part (makes.Opens o) = opening_part o
make_part (makes.Name group) = Works
make_part (makes.Votes b) = ballot_part b
make_part (makes.Makes group) = Makes
make_part (makes.Enters group) = Names
make_part (makes.Made group) = Ends

make_kind : (kind : Kind) (group : Group) (q : MakeStage) → Go q ≡ make.of_kind kind group → make_part q ≡ Works
make_kind File group q e = absurd (go_say q _ e)
make_kind Dir group q e = ap make_part (go_is q (makes.Name group) e)

make_judged : (c : Account) (grouped : Grouped) (q : MakeStage) → MakeJudges c grouped (Go q) → make_part q ≡ Works
make_judged c (Found group) q e = make_kind group.head.kind group q e
make_judged c (Gone bricks) q e = absurd (go_say q _ e)
make_judged c (Fewer most) q e = absurd (go_say q _ e)

make_fits : (p : MakeStage) (c : Account) (x : ℕ) (r : Request) → make_asks p c x ≡ Some r → Fits Exclusive (make_part p) x r
make_fits (makes.Opens o) c x r e = opening_fits Exclusive o c x r e
make_fits (makes.Name group) c x r e = let w = fetch_is group.bricks (λ grant. NameGet (record { 0 = subject c.given.op }) grant (make.name_in c.given.op)) c x r e in ap (is_work Exclusive) w.1
make_fits (makes.Votes b) c x r e = ballot_fits b c x r e
make_fits (makes.Makes group) c x r e = let w = member_is group (make_request c.given) c x r e in ap is_make w.2
make_fits (makes.Enters group) c x r e = let w = member_is group (make.entry_request c.given) c x r e in ap (is_work Exclusive) w.2
make_fits (makes.Made group) c x r e = let w = member_is group (made_request c.given) c x r e in ap (is_work Exclusive) w.2

free_next : (group : Group) (value : Value) (q : MakeStage) → Go q ≡ free_or_not group value → make_part q ≡ Works
free_next group (Some child) q e = absurd (go_say q _ e)
free_next group None q e = ap make_part (go_when (is_within group.head) (makes.Votes (Pre group)) q _ e)

named_next : (group : Group) (named : Named) (q : MakeStage) → Go q ≡ name_next group named → make_part q ≡ Works
named_next group (FewerOf most) q e = absurd (go_say q _ e)
named_next group (Alike value) q e = free_next group value q e
named_next group (SplitOf a b) q e = absurd (go_say q _ e)

comes_to : (p : Part) (s q : MakeStage) (e : q ≡ s) → IsNext p (make_part s) → IsNext p (make_part q)
comes_to p s q e n = subst (λ (z : MakeStage). IsNext p (make_part z)) (sym e) n

all_next : (c : Account) (group : Group) (p : Part) (s q : MakeStage) → Go q ≡ where_all c group s → IsNext p (make_part s) → IsNext p (make_part q)
all_next c group p s q e n = comes_to p s q (go_when (nat_le (bricks_of c.given) (count_serving c group)) s q _ e) n

make_goes : (p q : MakeStage) (c : Account) → MakeFollows p c (Go q) → IsNext (make_part p) (make_part q)
make_goes (makes.Opens o) q c f = opening_next make_part (λ o. makes.Opens o) MakeJudges (λ o. refl) make_judged o c q f
make_goes (makes.Name group) q c (named, is, e) = subst (λ (z : Part). IsNext Works z) (sym (named_next group named q e)) tt
make_goes (makes.Votes (Pre group)) q c f = comes_to Works (makes.Makes group) q (go_is q (makes.Makes group) (if_quorum c group _ (λ next. next ≡ Go (makes.Makes group)) q f)) tt
make_goes (makes.Votes (Post group)) q c f = all_next c group Posts (makes.Votes (Clear group)) q (if_quorum c group _ (λ next. next ≡ where_all c group (makes.Votes (Clear group))) q f) tt
make_goes (makes.Votes (Clear group)) q c f = all_next c group Ends (makes.Made group) q f tt
make_goes (makes.Makes group) q c f = comes_to Makes (makes.Enters group) q (go_is q (makes.Enters group) (if_quorum c group _ (λ next. next ≡ Go (makes.Enters group)) q f)) tt
make_goes (makes.Enters group) q c f = comes_to Names (makes.Votes (Post group)) q (go_is q (makes.Votes (Post group)) (if_quorum c group _ (λ next. next ≡ Go (makes.Votes (Post group))) q f)) tt
make_goes (makes.Made group) q c f = absurd (go_say q _ f)

pub make_order : GoesInOrder Exclusive make_table
make_order = record {
  part = make_part;
  first = λ given q s. ap make_part (go_when (nat_le given.child (2 ^ 96)) (makes.Opens (Locking 0)) q _ s.1);
  asks = λ p c x r e. make_fits p c x r e;
  next = λ p q c f. make_goes p q c f;
  again = λ p e. absurd (let x : false ≡ true = e in cc);
}

-- ## An unlink

abbrev unlink_part : UnlinkStage → Part
unlink_part (removes.Opens o) = opening_part o
unlink_part (removes.Name group) = Works
unlink_part (removes.Votes b children) = ballot_part b
unlink_part (removes.Enters group children) = Works
unlink_part (removes.Unmakes child children) = Ends

unlink_kind : (kind : Kind) (group : Group) (q : UnlinkStage) → Go q ≡ unlink.of_kind kind group → unlink_part q ≡ Works
unlink_kind File group q e = absurd (go_say q _ e)
unlink_kind Dir group q e = ap unlink_part (go_is q (removes.Name group) e)

unlink_judged : (c : Account) (grouped : Grouped) (q : UnlinkStage) → UnlinkJudges c grouped (Go q) → unlink_part q ≡ Works
unlink_judged c (Found group) q e = unlink_kind group.head.kind group q e
unlink_judged c (Gone bricks) q e = absurd (go_say q _ e)
unlink_judged c (Fewer most) q e = absurd (go_say q _ e)

unlink_fits : (p : UnlinkStage) (c : Account) (x : ℕ) (r : Request) → unlink_asks p c x ≡ Some r → Fits Exclusive (unlink_part p) x r
unlink_fits (removes.Opens o) c x r e = opening_fits Exclusive o c x r e
unlink_fits (removes.Name group) c x r e = let w = fetch_is group.bricks (λ grant. NameGet (record { 0 = subject c.given.op }) grant (unlink.name_in c.given.op)) c x r e in ap (is_work Exclusive) w.1
unlink_fits (removes.Votes b children) c x r e = ballot_fits b c x r e
unlink_fits (removes.Enters group children) c x r e = let w = member_is group (unlink.entry_request c.given) c x r e in ap (is_work Exclusive) w.2
unlink_fits (removes.Unmakes child children) c x r e =
    let w = under_lock_is (at c (subject c.given.op) x).inode (unmake_request c.given child) r (when_is (nat_lt x (bricks_of c.given)) (under (at c (subject c.given.op) x).inode (unmake_request c.given child)) r e) in
    ap (is_work Exclusive) w.1

removes_next : (group : Group) (children : Children) (q : UnlinkStage) → Go q ≡ removes_name group children → unlink_part q ≡ Works
removes_next group children q e = ap unlink_part (go_when (is_within group.head) (removes.Votes (Pre group) children) q _ e)

there_next : (group : Group) (children : Children) (value : Value) (q : UnlinkStage) → Go q ≡ there_or_not group children value → unlink_part q ≡ Works
there_next group children None q e = absurd (go_say q _ e)
there_next group children (Some child) q e = removes_next group children q e

refused_or : (t : Bool) (answer : Answer) (next : Next UnlinkStage) (q : UnlinkStage) → Go q ≡ cond t (Say answer) next → Go q ≡ next
refused_or true answer next q e = absurd (go_say q answer e)
refused_or false answer next q e = e

unlink_named : (group : Group) (children : Children) (dirs : ℕ) (named : Named) (q : UnlinkStage) → Go q ≡ unlink.name_next group children dirs named → unlink_part q ≡ Works
unlink_named group children dirs (FewerOf most) q e = absurd (go_say q _ e)
unlink_named group children dirs (Alike value) q e = there_next group children value q (refused_or (nat_lt 0 dirs) _ (there_or_not group children value) q e)
unlink_named group children dirs (SplitOf a b) q e = removes_next group children q (refused_or (nat_lt 0 dirs) _ (removes_name group children) q e)

child_next : (children : Children) (first : Option Gfid) (q : UnlinkStage) → Go q ≡ removes_child children first → unlink_part q ≡ Ends
child_next children None q e = absurd (go_say q _ e)
child_next children (Some child) q e = ap unlink_part (go_is q (removes.Unmakes child children) e)

clears_or : (t : Bool) (group : Group) (children : Children) (first : Option Gfid) (q : UnlinkStage) → Go q ≡ cond t (Go (removes.Votes (Clear group) children)) (removes_child children first) → unlink_part q ≡ Ends
clears_or true group children first q e = ap unlink_part (go_is q (removes.Votes (Clear group) children) e)
clears_or false group children first q e = child_next children first q e

first_removed : (children : Children) (past : Option Gfid) (q : UnlinkStage) → FirstRemoved children past (Go q) → unlink_part q ≡ Ends
first_removed children past q (first, is, e) = child_next children first q e

to_part : (p : Part) (s : Part) (q : UnlinkStage) → unlink_part q ≡ s → IsNext p s → IsNext p (unlink_part q)
to_part p s q e n = subst (λ (z : Part). IsNext p z) (sym e) n

unlink_goes : (p q : UnlinkStage) (c : Account) → UnlinkFollows p c (Go q) → IsNext (unlink_part p) (unlink_part q)
unlink_goes (removes.Opens o) q c f = opening_next unlink_part (λ o. removes.Opens o) UnlinkJudges (λ o. refl) unlink_judged o c q f
unlink_goes (removes.Name group) q c (named, children, is, are, e) = to_part Works Works q (unlink_named group children _ named q e) tt
unlink_goes (removes.Votes (Pre group) children) q c f = to_part Works Works q (ap unlink_part (go_is q (removes.Enters group children) (if_quorum c group _ (λ next. next ≡ Go (removes.Enters group children)) q f))) tt
unlink_goes (removes.Votes (Post group) children) q c f =
    let w = if_quorum c group _ (λ next. (first : Option Gfid) × Rattle.ec_entry.specs.Children.IsFirst 31 (Rattle.ec_entry.specs.Children.child_by children) None first × (next ≡ cond (nat_le (bricks_of c.given) (count_serving c group)) (Go (removes.Votes (Clear group) children)) (removes_child children first))) q f in
    to_part Posts Ends q (clears_or (nat_le (bricks_of c.given) (count_serving c group)) group children w.0 q w.2) tt
unlink_goes (removes.Votes (Clear group) children) q c f = to_part Ends Ends q (first_removed children None q f) tt
unlink_goes (removes.Enters group children) q c f = to_part Works Posts q (ap unlink_part (go_is q (removes.Votes (Post group) children) (if_quorum c group _ (λ next. next ≡ Go (removes.Votes (Post group) children)) q f))) tt
unlink_goes (removes.Unmakes child children) q c f = to_part Ends Ends q (first_removed children (Some child) q f) tt

pub unlink_order : GoesInOrder Exclusive unlink_table
unlink_order = record {
  part = unlink_part;
  first = λ given q s. ap unlink_part (go_is q (removes.Opens (Locking 0)) s.1);
  asks = λ p c x r e. unlink_fits p c x r e;
  next = λ p q c f. unlink_goes p q c f;
  again = λ p e. absurd (let x : false ≡ true = e in cc);
}
