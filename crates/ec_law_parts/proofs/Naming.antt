-- Each NameSet of a built call is of its own name and child.
use Rattle.std.proofs.Common.{◌≡◌, inl, inr, ℕ, ◌+◌, Bool, true, false, refl, sym, ◌∙◌, ap, subst, List, [], ◌∷◌, ◌++◌, Option, Some, None}
use Rattle.std.specs.Prelude.{nat_lt}
use Rattle.ec_attr.specs.declared.gfid.Gfid.{Gfid}
use Rattle.ec_attr.specs.declared.kind.Kind.{Kind}
use Rattle.ec_attr.specs.declared.kind.Kind.TheVariants.{File, Dir}
use Rattle.ec_attr.specs.declared.kind.LockKind.TheVariants.{Exclusive}
use Rattle.ec_conduct.specs.Account.{Account, after, at}
use Rattle.ec_conduct.specs.Ballots.{attr_after, size_after}
use Rattle.ec_conduct.specs.Conduct.{Keeps, KeepsFrom, is_release}
use Rattle.ec_conduct.specs.Data.{changes_names}
use Rattle.ec_conduct.specs.Done.{is_query}
use Rattle.ec_conduct.specs.Given.{Given, bricks_of}
use Rattle.ec_conduct.specs.Opened.{account, opened}
use Rattle.ec_conduct.specs.Own.{Own, Sends, Hears, GivesUp, Answers}
use Rattle.ec_conduct.specs.Table.{IsByTable, IsByTurns, IsFromOutside, Send, Step, Turned, entries_of, step_entries}
use Rattle.ec_entry.specs.Make.{make_op, make_request, make_table, made_request}
use Rattle.ec_entry.specs.Make as make
use Rattle.ec_entry.specs.Unlink.{unlink_table, unmake_request}
use Rattle.ec_entry.specs.Unlink as unlink
use Rattle.ec_entry.specs.declared.make.MakeStage.{MakeStage}
use Rattle.ec_entry.specs.declared.make.MakeStage.TheVariants as makes
use Rattle.ec_entry.specs.declared.unlink.UnlinkStage.{UnlinkStage}
use Rattle.ec_entry.specs.declared.unlink.UnlinkStage.TheVariants as removes
use Rattle.ec_txn.specs.Ballot.{ballot_asks, ballot_request}
use Rattle.ec_txn.specs.Fetching.{under}
use Rattle.ec_txn.specs.Opening.{opening_asks}
use Rattle.ec_txn.specs.Rounds.{IsFirst, IsTaken, give_back, round, subject, unlock, where_so}
use Rattle.ec_txn.specs.Tables.{Begins, Goes, Table}
use Rattle.ec_txn.specs.declared.ballot.Ballot.{Ballot}
use Rattle.ec_txn.specs.declared.ballot.Ballot.TheVariants.{Pre, Post, Clear}
use Rattle.ec_txn.specs.declared.opening.Opening.{Opening}
use Rattle.ec_txn.specs.declared.opening.Opening.TheVariants.{Lock as Locking, Query}
use Rattle.ec_txn.specs.declared.stage.Next.{Next}
use Rattle.ec_txn.specs.declared.stage.Next.TheVariants.{Go, Say}
use Rattle.ec_wire.specs.declared.answer.Answer.{Answer}
use Rattle.ec_wire.specs.declared.op.Op.{Op}
use Rattle.ec_wire.specs.declared.op.Op.TheVariants.{Unlink}
use Rattle.ec_wire.specs.declared.request.Request.{Request}
use Rattle.ec_wire.specs.declared.request.Request.TheVariants.{Release, NameGet, NameSet, Query as QueryOf}
use Rattle.ec_law_calls.proofs.Asking.{fetch_is, member_is, opening_fits, under_lock_is, when_is, where_is}
use Rattle.ec_law_calls.proofs.Clean.{Each}
use Rattle.ec_law_calls.proofs.Sends.{IsRelease, each_append, each_round, each_weaker, give_back_releases, unlock_releases}
use Rattle.ec_law_turns.proofs.Allowed.{account_given, after_given}
use Rattle.ec_law_parts.specs.Names.{EachSends, SetsItsName, SetsName}

-- ## Calls that change no names

no_names : (given : Given) (c : Account) (es : List Own) → KeepsFrom c es → ((g : ℕ) → changes_names c.given.op g ≡ false) → EachSends (SetsItsName given) es
no_names given c [] k none = tt
no_names given c (e ∷ es) k none = by e k.0 (no_names given (after c e) es k.1 (λ g. ap (λ (z : Given). changes_names z.op g) (after_given c e) ∙ none g))
  where
    neither : (u : Bool) → u ≡ true → u ≡ false → ⊥
    neither u e f = absurd (let z = sym e ∙ f in cc)

    asked : (b : ℕ) (r : Request) → Rattle.ec_conduct.specs.Conduct.MaySend c b r → SetsItsName given r
    asked b (NameSet g grant name child) may = absurd (neither (changes_names c.given.op g.0) may.1.op (none g.0))
    asked b r may = tt

    by : (e : Own) → Rattle.ec_conduct.specs.Conduct.May c e → EachSends (SetsItsName given) es → EachSends (SetsItsName given) (e ∷ es)
    by (Sends b i r) may rest = (asked b r may, rest)
    by (Hears b i reply) may rest = rest
    by (GivesUp b i) may rest = rest
    by (Answers answer) may rest = rest

pub unnamed : (given : Given) (es : List Own) (made : Op) → given.op ≡ made → Keeps given es → ((g : ℕ) → changes_names made g ≡ false) → EachSends (SetsItsName given) es
unnamed given es made e keeps none = no_names given (opened given) es keeps (λ g. ap (λ (op : Op). changes_names op g) e ∙ none g)

-- ## Lists of own entries

sends_both : (P : Request → Type 0) (xs ys : List Own) → EachSends P xs → EachSends P ys → EachSends P (xs ++ ys)
sends_both P [] ys h k = k
sends_both P (Sends b i r ∷ xs) ys h k = (h.0, sends_both P xs ys h.1 k)
sends_both P (Hears b i reply ∷ xs) ys h k = sends_both P xs ys h k
sends_both P (GivesUp b i ∷ xs) ys h k = sends_both P xs ys h k
sends_both P (Answers answer ∷ xs) ys h k = sends_both P xs ys h k

sends_step : (P : Request → Type 0) (i : ℕ) (ss : List Send) (answer : Option Answer) → Each (λ x r. P r) ss → EachSends P (entries_of i ss answer)
sends_step P i [] None h = tt
sends_step P i [] (Some answer) h = tt
sends_step P i (s ∷ ss) answer h = (h.0, sends_step P (i + 1) ss answer h.1)

sends_outside : (P : Request → Type 0) (e : Own) (es : List Own) → IsFromOutside e → EachSends P es → EachSends P (e ∷ es)
sends_outside P (Sends b i r) es out h = absurd out
sends_outside P (Hears b i reply) es out h = h
sends_outside P (GivesUp b i) es out h = h
sends_outside P (Answers answer) es out h = absurd out

-- ## Calls by a table

module _ {S : Type 0} (t : Table S) (given : Given) (asks : (p : S) (c : Account) (x : ℕ) (r : Request) → c.given ≡ given → t.asks p c x ≡ Some r → SetsItsName given r) where
  release_is : (x : ℕ) (r : Request) → is_release r ≡ true → SetsItsName given r
  release_is x (Release g grant) e = tt
  release_is x r e = absurd (cc)

  releases : (ss : List Send) → Each IsRelease ss → Each (λ x r. SetsItsName given r) ss
  releases ss h = each_weaker IsRelease (λ x r. SetsItsName given r) release_is ss h

  rounds : (q : S) (c : Account) (n : ℕ) → c.given ≡ given → Each (λ x r. SetsItsName given r) (round n (t.asks q c))
  rounds q c n is = each_round (λ x r. SetsItsName given r) n (t.asks q c) (λ x r lt e. asks q c x r is e)

  step_names : (p : S) (c : Account) (i : ℕ) (step : Step S) → c.given ≡ given → Goes t p c step → EachSends (SetsItsName given) (step_entries i step)
  step_names p c i step is (inl (waits, s)) = subst (λ (z : Step S). EachSends (SetsItsName given) (step_entries i z)) (sym s) (sends_step (SetsItsName given) i (round (bricks_of c.given) (where_so (t.again p) (t.asks p c))) None (each_round (λ x r. SetsItsName given r) (bricks_of c.given) (where_so (t.again p) (t.asks p c)) (λ x r lt e. asks p c x r is (where_is (t.again p) (t.asks p c) x r e))))
  step_names p c i step is (inr (idle, quiet, next, follows, s)) = by next s
    where
      by : (next : Next S) → IsTaken (subject c.given.op) c (λ q. t.asks q c) next step → EachSends (SetsItsName given) (step_entries i step)
      by (Go q) s = subst (λ (z : Step S). EachSends (SetsItsName given) (step_entries i z)) (sym s) (sends_step (SetsItsName given) i (unlock c (subject c.given.op) ++ round (bricks_of c.given) (t.asks q c)) None (each_append (λ x r. SetsItsName given r) (unlock c (subject c.given.op)) (round (bricks_of c.given) (t.asks q c)) (releases (unlock c (subject c.given.op)) (unlock_releases c (subject c.given.op))) (rounds q c (bricks_of c.given) is)))
      by (Say answer) s = subst (λ (z : Step S). EachSends (SetsItsName given) (step_entries i z)) (sym s) (sends_step (SetsItsName given) i (unlock c (subject c.given.op) ++ give_back c (subject c.given.op)) (Some answer) (releases (unlock c (subject c.given.op) ++ give_back c (subject c.given.op)) (each_append IsRelease (unlock c (subject c.given.op)) (give_back c (subject c.given.op)) (unlock_releases c (subject c.given.op)) (give_back_releases c (subject c.given.op)))))

  first_names : (i : ℕ) (step : Step S) (next : Next S) → IsFirst (bricks_of given) (λ q. t.asks q (opened given)) next step → EachSends (SetsItsName given) (step_entries i step)
  first_names i step (Go q) s = subst (λ (z : Step S). EachSends (SetsItsName given) (step_entries i z)) (sym s) (sends_step (SetsItsName given) i (round (bricks_of given) (t.asks q (opened given))) None (rounds q (opened given) (bricks_of given) (account_given given [])))
  first_names i step (Say answer) s = subst (λ (z : Step S). EachSends (SetsItsName given) (step_entries i z)) (sym s) tt

  by_turns : (ts : List (Turned S)) (es : List Own) (stage : Option S) → IsByTurns (Begins t) (Goes t) given ts es stage → EachSends (SetsItsName given) es
  by_turns [] es stage (i, step, begins, entries, is) = subst (EachSends (SetsItsName given)) (sym entries) (first_names i step begins.0 begins.2)
  by_turns (turn ∷ ts) es stage (earlier, before, by, outside, went, entries, is) =
      let c = after (account given earlier) turn.what in
      subst (EachSends (SetsItsName given)) (sym entries) (sends_both (SetsItsName given) earlier (turn.what ∷ step_entries turn.number turn.step) (by_turns ts earlier (Some before) by) (sends_outside (SetsItsName given) turn.what (step_entries turn.number turn.step) outside (step_names before c turn.number turn.step (after_given (account given earlier) turn.what ∙ account_given given earlier) went)))

  pub by_table : (es : List Own) (stage : Option S) → IsByTable (Begins t) (Goes t) given es stage → EachSends (SetsItsName given) es
  by_table es stage (ts, by) = by_turns ts es stage by

-- ## What the tables ask

abbrev sets_name : Request → Bool
sets_name (NameSet g grant name child) = true
sets_name r = false

no_name : (given : Given) (r : Request) → sets_name r ≡ false → SetsItsName given r
no_name given (NameSet g grant name child) e = absurd (cc)
no_name given r e = tt

query_no_name : (r : Request) → is_query r ≡ true → sets_name r ≡ false
query_no_name (QueryOf g grant) e = refl
query_no_name r e = absurd (cc)

opening_no_name : (o : Opening) (c : Account) (x : ℕ) (r : Request) → opening_asks Exclusive o c x ≡ Some r → sets_name r ≡ false
opening_no_name (Locking brick) c x r e = let w = opening_fits Exclusive (Locking brick) c x r e in ap sets_name w.2
opening_no_name Query c x r e = query_no_name r (opening_fits Exclusive Query c x r e)

ballot_no_name : (b : Ballot) (c : Account) (x : ℕ) (r : Request) → ballot_asks b c x ≡ Some r → sets_name r ≡ false
ballot_no_name (Pre group) c x r e = let w = member_is group (ballot_request (subject c.given.op) (size_after c.given.op group.head.size) (attr_after c.given.op) (Pre group)) c x r e in ap sets_name w.2
ballot_no_name (Post group) c x r e = let w = member_is group (ballot_request (subject c.given.op) (size_after c.given.op group.head.size) (attr_after c.given.op) (Post group)) c x r e in ap sets_name w.2
ballot_no_name (Clear group) c x r e = let w = member_is group (ballot_request (subject c.given.op) (size_after c.given.op group.head.size) (attr_after c.given.op) (Clear group)) c x r e in ap sets_name w.2

made_name : (given : Given) (op : Op) (kind : Kind) (g : ℕ) (name : List ℕ) → op ≡ make_op kind g name → SetsName op given.child (subject op) (make.name_in op) (Some (record { kind = make.kind_in op; gfid = record { 0 = given.child } }))
made_name given op File g name e = subst (λ (z : Op). SetsName z given.child (subject z) (make.name_in z) (Some (record { kind = make.kind_in z; gfid = record { 0 = given.child } }))) (sym e) (refl, refl, refl)
made_name given op Dir g name e = subst (λ (z : Op). SetsName z given.child (subject z) (make.name_in z) (Some (record { kind = make.kind_in z; gfid = record { 0 = given.child } }))) (sym e) (refl, refl, refl)

pub make_asks : (given : Given) (kind : Kind) (g : ℕ) (name : List ℕ) → given.op ≡ make_op kind g name → (p : MakeStage) (c : Account) (x : ℕ) (r : Request) → c.given ≡ given → make_table.asks p c x ≡ Some r → SetsItsName given r
make_asks given kind g name fit (makes.Opens o) c x r is e = no_name given r (opening_no_name o c x r e)
make_asks given kind g name fit (makes.Name group) c x r is e = let w = fetch_is group.bricks (λ grant. NameGet (record { 0 = subject c.given.op }) grant (make.name_in c.given.op)) c x r e in no_name given r (ap sets_name w.1)
make_asks given kind g name fit (makes.Votes v) c x r is e = no_name given r (ballot_no_name v c x r e)
make_asks given kind g name fit (makes.Makes group) c x r is e = let w = member_is group (make_request c.given) c x r e in no_name given r (ap sets_name w.2)
make_asks given kind g name fit (makes.Enters group) c x r is e =
    let w = member_is group (make.entry_request c.given) c x r e in
    subst (SetsItsName given) (sym (w.2 ∙ ap (λ (z : Given). make.entry_request z w.0 w.1) is)) (made_name given given.op kind g name fit)
make_asks given kind g name fit (makes.Made group) c x r is e = let w = member_is group (made_request c.given) c x r e in no_name given r (ap sets_name w.2)

removed_name : (given : Given) (op : Op) (dir : Gfid) (name : List ℕ) → op ≡ Unlink dir name → SetsName op given.child (subject op) (unlink.name_in op) None
removed_name given op dir name e = subst (λ (z : Op). SetsName z given.child (subject z) (unlink.name_in z) None) (sym e) (refl, refl, refl)

pub unlink_asks : (given : Given) (dir : Gfid) (name : List ℕ) → given.op ≡ Unlink dir name → (p : UnlinkStage) (c : Account) (x : ℕ) (r : Request) → c.given ≡ given → unlink_table.asks p c x ≡ Some r → SetsItsName given r
unlink_asks given dir name fit (removes.Opens o) c x r is e = no_name given r (opening_no_name o c x r e)
unlink_asks given dir name fit (removes.Name group) c x r is e = let w = fetch_is group.bricks (λ grant. NameGet (record { 0 = subject c.given.op }) grant (unlink.name_in c.given.op)) c x r e in no_name given r (ap sets_name w.1)
unlink_asks given dir name fit (removes.Votes v children) c x r is e = no_name given r (ballot_no_name v c x r e)
unlink_asks given dir name fit (removes.Enters group children) c x r is e =
    let w = member_is group (unlink.entry_request c.given) c x r e in
    subst (SetsItsName given) (sym (w.2 ∙ ap (λ (z : Given). unlink.entry_request z w.0 w.1) is)) (removed_name given given.op dir name fit)
unlink_asks given dir name fit (removes.Unmakes child children) c x r is e =
    let w = under_lock_is (at c (subject c.given.op) x).inode (unmake_request c.given child) r (when_is (nat_lt x (bricks_of c.given)) (under (at c (subject c.given.op) x).inode (unmake_request c.given child)) r e) in
    no_name given r (ap sets_name w.1)
