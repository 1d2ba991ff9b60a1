-- The tables of the calls that read names and attributes, and of a setattr, go in order.
use Rattle.std.proofs.Common.{◌≡◌, inl, inr, ℕ, ◌&&◌, ◌++◌, nat_lt, true, false, refl, sym, ap, subst, List, Option, Some, None}
use Rattle.ec_answers.specs.declared.grouped.Group.{Group}
use Rattle.ec_answers.specs.declared.grouped.Grouped.{Grouped}
use Rattle.ec_answers.specs.declared.grouped.Grouped.TheVariants.{Group as Found, Gone, Fewer}
use Rattle.ec_attr.specs.Bricks.{is_in}
use Rattle.ec_attr.specs.declared.kind.Kind.{Kind}
use Rattle.ec_attr.specs.declared.kind.Kind.TheVariants.{File, Dir}
use Rattle.ec_attr.specs.declared.kind.LockKind.TheVariants.{Shared, Exclusive}
use Rattle.ec_conduct.specs.Account.{Account, at}
use Rattle.ec_conduct.specs.Given.{bricks_of}
use Rattle.ec_wire.specs.declared.request.Request.{Request}
use Rattle.ec_wire.specs.declared.request.Request.TheVariants.{NameGet, NamesAfter}
use Rattle.ec_txn.specs.declared.ballot.Ballot.TheVariants.{Pre, Post}
use Rattle.ec_txn.specs.declared.opening.Opening.{Opening}
use Rattle.ec_txn.specs.declared.opening.Opening.TheVariants.{Lock as Locking}
use Rattle.ec_txn.specs.declared.stage.Next.{Next}
use Rattle.ec_txn.specs.declared.stage.Next.TheVariants.{Go}
use Rattle.ec_txn.specs.Ballot.{is_within, serving}
use Rattle.ec_txn.specs.Rounds.{subject}
use Rattle.ec_entry.specs.declared.lookup.LookupStage.{LookupStage}
use Rattle.ec_entry.specs.declared.lookup.LookupStage.TheVariants as looks
use Rattle.ec_entry.specs.declared.readdir.ReaddirStage.{ReaddirStage}
use Rattle.ec_entry.specs.declared.readdir.ReaddirStage.TheVariants as lists
use Rattle.ec_entry.specs.declared.setattr.SetAttrStage.{SetAttrStage}
use Rattle.ec_entry.specs.declared.setattr.SetAttrStage.TheVariants as sets
use Rattle.ec_entry.specs.GetAttr.{GetAttrJudges, getattr_table}
use Rattle.ec_entry.specs.Lookup.{LookupFollows, LookupJudges, lookup_asks, lookup_next, lookup_table, name_in}
use Rattle.ec_entry.specs.Lookup as lookup
use Rattle.ec_entry.specs.Members.{under_grant}
use Rattle.ec_entry.specs.Paging.{Entries}
use Rattle.ec_entry.specs.Readdir.{ReaddirFollows, ReaddirJudges, goes_on, names_asks, readdir_asks, readdir_next, readdir_table}
use Rattle.ec_entry.specs.Readdir as readdir
use Rattle.ec_entry.specs.SetAttr.{SetAttrFollows, SetAttrJudges, setattr_asks, setattr_table, told}
use Rattle.ec_conduct.specs.Ballots.{attr_after}
use Rattle.ec_law_calls.specs.Parts.{Fits, GoesInOrder, IsNext, Part, Works, is_work}
use Rattle.ec_law_calls.proofs.Asking.{ballot_fits, ballot_next, ballot_part, fetch_is, go_is, go_say, go_when, none_is, opening_fits, opening_next, opening_part, some_is, when_is}

-- a getattr

getattr_ends : (c : Account) (grouped : Grouped) (q : Opening) → GetAttrJudges c grouped (Go q) → opening_part q ≡ Works
getattr_ends c grouped q e = absurd (go_say q _ e)

pub getattr_order : GoesInOrder Shared getattr_table
getattr_order = record {
  part = opening_part;
  first = λ given q s. ap opening_part (go_is q (Locking 0) s.1);
  asks = λ o c x r e. opening_fits Shared o c x r e;
  next = λ p q c f. opening_next opening_part (λ o. o) GetAttrJudges (λ o. refl) getattr_ends p c q f;
  again = λ p e. absurd (let x : false ≡ true = e in cc);
}

-- a lookup

abbrev lookup_part : LookupStage → Part
lookup_part (looks.Opens o) = opening_part o
lookup_part (looks.Name bricks) = Works

lookup_kind : (kind : Kind) (bricks : ℕ) (q : LookupStage) → Go q ≡ lookup.of_kind kind bricks → lookup_part q ≡ Works
lookup_kind File bricks q e = absurd (go_say q _ e)
lookup_kind Dir bricks q e = ap lookup_part (go_is q (looks.Name bricks) e)

lookup_judged : (c : Account) (grouped : Grouped) (q : LookupStage) → LookupJudges c grouped (Go q) → lookup_part q ≡ Works
lookup_judged c (Found group) q e = lookup_kind group.head.kind group.bricks q e
lookup_judged c (Gone bricks) q e = absurd (go_say q _ e)
lookup_judged c (Fewer most) q e = absurd (go_say q _ e)

lookup_fits : (p : LookupStage) (c : Account) (x : ℕ) (r : Request) → lookup_asks p c x ≡ Some r → Fits Shared (lookup_part p) x r
lookup_fits (looks.Opens o) c x r e = opening_fits Shared o c x r e
lookup_fits (looks.Name bricks) c x r e = let w = fetch_is bricks (λ grant. NameGet (record { 0 = subject c.given.op }) grant (name_in c.given.op)) c x r e in ap (is_work Shared) w.1

lookup_goes : (p q : LookupStage) (c : Account) → LookupFollows p c (Go q) → IsNext (lookup_part p) (lookup_part q)
lookup_goes (looks.Opens o) q c f = opening_next lookup_part (λ o. looks.Opens o) LookupJudges (λ o. refl) lookup_judged o c q f
lookup_goes (looks.Name bricks) q c (named, is, e) = absurd (go_say q _ e)

pub lookup_order : GoesInOrder Shared lookup_table
lookup_order = record {
  part = lookup_part;
  first = λ given q s. ap lookup_part (go_is q (looks.Opens (Locking 0)) s.1);
  asks = λ p c x r e. lookup_fits p c x r e;
  next = λ p q c f. lookup_goes p q c f;
  again = λ p e. absurd (let x : false ≡ true = e in cc);
}

-- a readdir

abbrev readdir_part : ReaddirStage → Part
readdir_part (lists.Opens o) = opening_part o
readdir_part (lists.Names bricks past list) = Works

readdir_kind : (kind : Kind) (bricks : ℕ) (q : ReaddirStage) → Go q ≡ readdir.of_kind kind bricks → readdir_part q ≡ Works
readdir_kind File bricks q e = absurd (go_say q _ e)
readdir_kind Dir bricks q e = ap readdir_part (go_is q _ e)

readdir_judged : (c : Account) (grouped : Grouped) (q : ReaddirStage) → ReaddirJudges c grouped (Go q) → readdir_part q ≡ Works
readdir_judged c (Found group) q e = readdir_kind group.head.kind group.bricks q e
readdir_judged c (Gone bricks) q e = absurd (go_say q _ e)
readdir_judged c (Fewer most) q e = absurd (go_say q _ e)

names_work : (o : Option ℕ) (g : ℕ) (past : Option (List ℕ)) (r : Request) → under_grant o (λ grant. NamesAfter (record { 0 = g }) grant past) ≡ Some r → is_work Shared r ≡ true
names_work None g past r e = absurd (none_is r e)
names_work (Some grant) g past r e = ap (is_work Shared) (sym (some_is (NamesAfter (record { 0 = g }) grant past) r e))

readdir_fits : (p : ReaddirStage) (c : Account) (x : ℕ) (r : Request) → readdir_asks p c x ≡ Some r → Fits Shared (readdir_part p) x r
readdir_fits (lists.Opens o) c x r e = opening_fits Shared o c x r e
readdir_fits (lists.Names bricks past list) c x r e =
    names_work (serving (at c (subject c.given.op) x)) (subject c.given.op) past r (when_is (is_in bricks x && nat_lt x (bricks_of c.given)) (under_grant (serving (at c (subject c.given.op) x)) (λ grant. NamesAfter (record { 0 = subject c.given.op }) grant past)) r e)

page_next : (bricks : ℕ) (upto : Option (List ℕ)) (list : Entries) (q : ReaddirStage) → Go q ≡ goes_on bricks upto list → readdir_part q ≡ Works
page_next bricks None list q e = absurd (go_say q _ e)
page_next bricks (Some upto) list q e = ap readdir_part (go_is q (lists.Names bricks (Some upto) list) e)

readdir_goes : (p q : ReaddirStage) (c : Account) → ReaddirFollows p c (Go q) → IsNext (readdir_part p) (readdir_part q)
readdir_goes (lists.Opens o) q c f = opening_next readdir_part (λ o. lists.Opens o) ReaddirJudges (λ o. refl) readdir_judged o c q f
readdir_goes (lists.Names bricks past list) q c (inl (few, e)) = absurd (go_say q _ e)
readdir_goes (lists.Names bricks past list) q c (inr (enough, upto, part, is_upto, is_part, e)) = subst (λ (z : Part). IsNext Works z) (sym (page_next bricks upto (list ++ part) q e)) tt

pub readdir_order : GoesInOrder Shared readdir_table
readdir_order = record {
  part = readdir_part;
  first = λ given q s. ap readdir_part (go_is q (lists.Opens (Locking 0)) s.1);
  asks = λ p c x r e. readdir_fits p c x r e;
  next = λ p q c f. readdir_goes p q c f;
  again = λ p e. absurd (let x : false ≡ true = e in cc);
}

-- a setattr

abbrev setattr_part : SetAttrStage → Part
setattr_part (sets.Opens o) = opening_part o
setattr_part (sets.Votes b) = ballot_part b

setattr_judged : (c : Account) (grouped : Grouped) (q : SetAttrStage) → SetAttrJudges c grouped (Go q) → setattr_part q ≡ Works
setattr_judged c (Found group) q e = ap setattr_part (go_when (is_within group.head) (sets.Votes (Pre group)) q _ e)
setattr_judged c (Gone bricks) q e = absurd (go_say q _ e)
setattr_judged c (Fewer most) q e = absurd (go_say q _ e)

setattr_fits : (p : SetAttrStage) (c : Account) (x : ℕ) (r : Request) → setattr_asks p c x ≡ Some r → Fits Exclusive (setattr_part p) x r
setattr_fits (sets.Opens o) c x r e = opening_fits Exclusive o c x r e
setattr_fits (sets.Votes b) c x r e = ballot_fits b c x r e

abbrev posts_next : Group → Account → Next SetAttrStage → Type 0
posts_next group c next = next ≡ Go (sets.Votes (Post group))

setattr_goes : (p q : SetAttrStage) (c : Account) → SetAttrFollows p c (Go q) → IsNext (setattr_part p) (setattr_part q)
setattr_goes (sets.Opens o) q c f = opening_next setattr_part (λ o. sets.Opens o) SetAttrJudges (λ o. refl) setattr_judged o c q f
setattr_goes (sets.Votes b) q c f = ballot_next setattr_part (λ b. sets.Votes b) posts_next (λ c group. told (attr_after c.given.op)) (λ b. refl) (λ group c q e. subst (λ (z : Part). IsNext Works z) (sym (ap setattr_part (go_is q (sets.Votes (Post group)) e))) tt) b c q f

pub setattr_order : GoesInOrder Exclusive setattr_table
setattr_order = record {
  part = setattr_part;
  first = λ given q s. ap setattr_part (go_is q (sets.Opens (Locking 0)) s.1);
  asks = λ p c x r e. setattr_fits p c x r e;
  next = λ p q c f. setattr_goes p q c f;
  again = λ p e. absurd (let x : false ≡ true = e in cc);
}
