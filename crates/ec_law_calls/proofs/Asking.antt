-- What the stages that tables share ask of a brick, and which parts they are.
use Rattle.std.proofs.Common.{◌≡◌, ◌⊎◌, inl, inr, ⊎_elim, ℕ, ◌+◌, ◌==◌, ◌&&◌, nat_le, nat_lt, Bool, true, false, cond, refl, sym, ◌∙◌, ap, subst, Option, Some, None, eqb-true}
use Rattle.ec_answers.specs.declared.grouped.Group.{Group}
use Rattle.ec_answers.specs.declared.grouped.Grouped.{Grouped}
use Rattle.ec_attr.specs.Bricks.{is_in}
use Rattle.ec_attr.specs.declared.kind.Domain.TheVariants.{Inode}
use Rattle.ec_attr.specs.declared.kind.LockKind.{LockKind}
use Rattle.ec_attr.specs.declared.kind.LockKind.TheVariants.{Exclusive}
use Rattle.ec_conduct.specs.Account.{Account, Lock, at}
use Rattle.ec_conduct.specs.Ballots.{attr_after, size_after}
use Rattle.ec_conduct.specs.Done.{is_query}
use Rattle.ec_conduct.specs.Given.{bricks_of, quorum_of}
use Rattle.ec_wire.specs.declared.answer.Answer.{Answer}
use Rattle.ec_wire.specs.declared.phase.Phase.{Phase}
use Rattle.ec_wire.specs.declared.request.Request.{Request}
use Rattle.ec_wire.specs.declared.request.Request.TheVariants.{Ask, Query as QueryOf}
use Rattle.ec_txn.specs.declared.ballot.Ballot.{Ballot}
use Rattle.ec_txn.specs.declared.ballot.Ballot.TheVariants.{Pre, Post, Clear}
use Rattle.ec_txn.specs.declared.opening.Opening.{Opening}
use Rattle.ec_txn.specs.declared.opening.Opening.TheVariants.{Lock as Locking, Query}
use Rattle.ec_txn.specs.declared.reading.Reading.{Reading}
use Rattle.ec_txn.specs.declared.stage.Next.{Next}
use Rattle.ec_txn.specs.declared.stage.Next.TheVariants.{Go, Say}
use Rattle.ec_txn.specs.Ballot.{BallotFollows, IfQuorum, ballot_asks, ballot_request, count_serving, is_within, serving, to_members, under, version_at}
use Rattle.ec_txn.specs.Fetching.{asks_of, under as under_lock}
use Rattle.ec_txn.specs.Opening.{OpeningFollows, count_locks, opening_asks, query_of}
use Rattle.ec_txn.specs.ReadPhase.{asked_if, chunks_of, is_chosen, places_of, reading_asks}
use Rattle.ec_txn.specs.Replies.{replied}
use Rattle.ec_txn.specs.Rounds.{Asks, subject, where_so}
use Rattle.ec_law_calls.specs.Parts.{Fits, IsNext, Part, Locks, Heads, Works, Posts, Ends, is_work}

pub some_is : {X : Type 0} (x y : X) → Some x ≡ Some y → x ≡ y
some_is x y e = cc

pub none_is : {X : Type 0} (x : X) → None ≡ Some x → ⊥
none_is x e = cc

-- what is asked on a condition
pub when_is : (t : Bool) (o : Option Request) (r : Request) → cond t o None ≡ Some r → o ≡ Some r
when_is true o r e = e
when_is false o r e = absurd (none_is r e)

-- ## The opening

abbrev pub opening_part : Opening → Part
opening_part (Locking brick) = Locks brick
opening_part Query = Heads

only_brick : (t : Bool) (s r : Request) → cond t (Some s) None ≡ Some r → (t ≡ true) × (s ≡ r)
only_brick true s r e = (refl, some_is s r e)
only_brick false s r e = absurd (none_is r e)

query_at : (g : ℕ) (o : Option Lock) (r : Request) → query_of g o ≡ Some r → is_query r ≡ true
query_at g None r e = absurd (none_is r e)
query_at g (Some lock) r e = ap is_query (sym (some_is (QueryOf (record { 0 = g }) lock.number) r (when_is lock.granted (Some (QueryOf (record { 0 = g }) lock.number)) r e)))

pub opening_fits : (kind : LockKind) (o : Opening) (c : Account) (x : ℕ) (r : Request) → opening_asks kind o c x ≡ Some r → Fits kind (opening_part o) x r
opening_fits kind (Locking brick) c x r e =
    let w = only_brick (x == brick) (Ask (record { 0 = subject c.given.op }) Inode kind) r e in
    (eqb-true x brick w.0, record { 0 = subject c.given.op }, sym w.1)
opening_fits kind Query c x r e = query_at (subject c.given.op) (at c (subject c.given.op) x).inode r (when_is (nat_lt x (bricks_of c.given)) (query_of (subject c.given.op) (at c (subject c.given.op) x).inode) r e)

module _ {P : Type 0} where
  pub go_is : (p q : P) → Go p ≡ Go q → p ≡ q
  go_is p q e = cc

  pub go_say : (p : P) (answer : Answer) → Go p ≡ Say answer → ⊥
  go_say p answer e = cc

  -- a stage that comes on a condition
  pub go_when : (t : Bool) (p q : P) (answer : Answer) → Go q ≡ cond t (Go p) (Say answer) → q ≡ p
  go_when true p q answer e = go_is q p e
  go_when false p q answer e = absurd (go_say q answer e)

  go_either : (t : Bool) (p q : P) (other : Next P) → Go q ≡ cond t (Go p) other → (q ≡ p) ⊎ (Go q ≡ other)
  go_either true p q other e = inl (go_is q p e)
  go_either false p q other e = inr e

  -- what follows in the opening is its next stage, or what the call makes of the heads
  pub opening_next : (part : P → Part) (into : Opening → P) (judges : Account → Grouped → Next P → Type 0) → ((o : Opening) → part (into o) ≡ opening_part o)
      → ((c : Account) (grouped : Grouped) (q : P) → judges c grouped (Go q) → part q ≡ Works)
      → (o : Opening) (c : Account) (q : P) → OpeningFollows into judges o c (Go q) → IsNext (opening_part o) (part q)
  opening_next part into judges same judged (Locking brick) c q e =
      ⊎_elim (λ w. subst (λ (z : Part). IsNext (Locks brick) z) (sym (ap part w ∙ same (Locking (brick + 1)))) refl)
      (λ w. subst (λ (z : Part). IsNext (Locks brick) z) (sym (ap part (go_when (nat_le (quorum_of c.given) (count_locks c (subject c.given.op))) (into Query) q _ w) ∙ same Query)) tt)
      (go_either (nat_lt (brick + 1) (bricks_of c.given)) (into (Locking (brick + 1))) q _ e)
  opening_next part into judges same judged Query c q (grouped, comes, judges_it) = subst (λ (z : Part). IsNext Heads z) (sym (judged c grouped q judges_it)) tt

-- ## Members of a group

pub member_is : (group : Group) (f : ℕ → ℕ → Request) (c : Account) (x : ℕ) (r : Request) → to_members group f c x ≡ Some r → (grant version : ℕ) × (r ≡ f grant version)
member_is group f c x r e = go (serving (at c (subject c.given.op) x)) (version_at group x) (when_is (is_within group.head && nat_lt x (bricks_of c.given)) (under (serving (at c (subject c.given.op) x)) (version_at group x) f) r e)
  where
    go : (a b : Option ℕ) → under a b f ≡ Some r → (grant version : ℕ) × (r ≡ f grant version)
    go None b e = absurd (none_is r e)
    go (Some grant) None e = absurd (none_is r e)
    go (Some grant) (Some version) e = (grant, version, sym (some_is (f grant version) r e))

-- each request under a lock is by its grant
pub under_lock_is : (o : Option Lock) (q : ℕ → Request) (r : Request) → under_lock o q ≡ Some r → (grant : ℕ) × (r ≡ q grant)
under_lock_is None q r e = absurd (none_is r e)
under_lock_is (Some lock) q r e = (lock.number, sym (some_is (q lock.number) r (when_is lock.granted (Some (q lock.number)) r e)))

pub fetch_is : (bits : ℕ) (q : ℕ → Request) (c : Account) (x : ℕ) (r : Request) → asks_of bits q c x ≡ Some r → (grant : ℕ) × (r ≡ q grant)
fetch_is bits q c x r e = under_lock_is (at c (subject c.given.op) x).inode q r (when_is (is_in bits x && nat_lt x (bricks_of c.given)) (under_lock (at c (subject c.given.op) x).inode q) r e)

pub reading_is : (reading : Reading) (c : Account) (x : ℕ) (r : Request) → reading_asks reading c x ≡ Some r → (grant : ℕ) × (r ≡ chunks_of (subject c.given.op) reading grant)
reading_is reading c x r e = go (is_chosen (quorum_of c.given) reading (places_of c (subject c.given.op)) (replied c (subject c.given.op)) x && nat_lt x (bricks_of c.given)) e
  where
    go : (t : Bool) → asked_if t (at c (subject c.given.op) x).inode (chunks_of (subject c.given.op) reading) ≡ Some r → (grant : ℕ) × (r ≡ chunks_of (subject c.given.op) reading grant)
    go true e = under_lock_is (at c (subject c.given.op) x).inode (chunks_of (subject c.given.op) reading) r e
    go false e = absurd (none_is r e)

pub reading_works : (kind : LockKind) (reading : Reading) (c : Account) (x : ℕ) (r : Request) → reading_asks reading c x ≡ Some r → is_work kind r ≡ true
reading_works kind reading c x r e = let w = reading_is reading c x r e in ap (is_work kind) w.1

-- what is asked on a condition of the whole round
pub where_is : (so : Bool) (f : Asks) (x : ℕ) (r : Request) → where_so so f x ≡ Some r → f x ≡ Some r
where_is so f x r e = when_is so (f x) r e

-- ## The ballot

abbrev pub ballot_part : Ballot → Part
ballot_part (Pre group) = Works
ballot_part (Post group) = Posts
ballot_part (Clear group) = Ends

pub ballot_fits : (b : Ballot) (c : Account) (x : ℕ) (r : Request) → ballot_asks b c x ≡ Some r → Fits Exclusive (ballot_part b) x r
ballot_fits (Pre group) c x r e = let w = member_is group (ballot_request (subject c.given.op) (size_after c.given.op group.head.size) (attr_after c.given.op) (Pre group)) c x r e in ap (is_work Exclusive) w.2
ballot_fits (Post group) c x r e = let w = member_is group (ballot_request (subject c.given.op) (size_after c.given.op group.head.size) (attr_after c.given.op) (Post group)) c x r e in ap Rattle.ec_conduct.specs.Done.is_post w.2
ballot_fits (Clear group) c x r e = let w = member_is group (ballot_request (subject c.given.op) (size_after c.given.op group.head.size) (attr_after c.given.op) (Clear group)) c x r e in ap (is_work Exclusive) w.2

module _ {P : Type 0} where
  -- a phase that a quorum did goes on as it says
  pub if_quorum : (c : Account) (group : Group) (phase : Phase) (goes_on : Next P → Type 0) (q : P) → IfQuorum c group phase goes_on (Go q) → goes_on (Go q)
  if_quorum c group phase goes_on q (inl (few, e)) = absurd (go_say q _ e)
  if_quorum c group phase goes_on q (inr (enough, e)) = e

  pub ballot_next : (part : P → Part) (into : Ballot → P) (changes : Group → Account → Next P → Type 0) (says : Account → Group → Answer) → ((b : Ballot) → part (into b) ≡ ballot_part b)
      → ((group : Group) (c : Account) (q : P) → changes group c (Go q) → IsNext Works (part q))
      → (b : Ballot) (c : Account) (q : P) → BallotFollows into changes says b c (Go q) → IsNext (ballot_part b) (part q)
  ballot_next part into changes says same changed (Pre group) c q e = changed group c q (if_quorum c group _ (changes group c) q e)
  ballot_next part into changes says same changed (Post group) c q e =
      subst (λ (z : Part). IsNext Posts z) (sym (ap part (go_when (nat_le (bricks_of c.given) (count_serving c group)) (into (Clear group)) q (says c group) (if_quorum c group _ (λ (next : Next P). next ≡ cond (nat_le (bricks_of c.given) (count_serving c group)) (Go (into (Clear group))) (Say (says c group))) q e)) ∙ same (Clear group))) tt
  ballot_next part into changes says same changed (Clear group) c q e = absurd (go_say q _ e)
