-- Each Make of a built call is of the kind of what the call makes.
use Rattle.std.proofs.Common.{◌≡◌, inl, inr, ℕ, ◌+◌, Bool, true, false, refl, sym, ◌∙◌, ap, subst, List, [], ◌∷◌, ◌++◌, Option, Some, None}
use Rattle.ec_attr.specs.declared.kind.Kind.{Kind}
use Rattle.ec_attr.specs.declared.kind.Kind.TheVariants.{File, Dir}
use Rattle.ec_attr.specs.declared.kind.LockKind.TheVariants.{Exclusive}
use Rattle.ec_conduct.specs.Account.{Account, after}
use Rattle.ec_conduct.specs.Ballots.{attr_after, size_after}
use Rattle.ec_conduct.specs.Conduct.{Keeps, KeepsFrom, May, MaySend, is_release}
use Rattle.ec_conduct.specs.Data.{makes_child}
use Rattle.ec_conduct.specs.Done.{is_make, is_query}
use Rattle.ec_conduct.specs.Given.{Given, bricks_of}
use Rattle.ec_conduct.specs.Opened.{account, opened}
use Rattle.ec_conduct.specs.Own.{Own, Sends, Hears, GivesUp, Answers}
use Rattle.ec_conduct.specs.Table.{IsByTable, IsByTurns, IsFromOutside, Send, Step, Turned, entries_of, step_entries}
use Rattle.ec_entry.specs.Make.{kind_in, make_op, make_request, make_table, made_request}
use Rattle.ec_entry.specs.Make as make
use Rattle.ec_entry.specs.declared.make.MakeStage.{MakeStage}
use Rattle.ec_entry.specs.declared.make.MakeStage.TheVariants as makes
use Rattle.ec_txn.specs.Ballot.{ballot_asks, ballot_request}
use Rattle.ec_txn.specs.Opening.{opening_asks}
use Rattle.ec_txn.specs.Rounds.{IsFirst, IsTaken, give_back, round, subject, unlock, where_so}
use Rattle.ec_txn.specs.Tables.{Begins, Goes, Table}
use Rattle.ec_txn.specs.declared.ballot.Ballot.{Ballot}
use Rattle.ec_txn.specs.declared.ballot.Ballot.TheVariants.{Pre, Post, Clear}
use Rattle.ec_txn.specs.declared.opening.Opening.{Opening}
use Rattle.ec_txn.specs.declared.opening.Opening.TheVariants.{Lock as Locking, Query}
use Rattle.ec_txn.specs.declared.stage.Next.{Next}
use Rattle.ec_txn.specs.declared.stage.Next.TheVariants.{Go, Say}
use Rattle.ec_wire.specs.declared.answer.Answer.{Answer}
use Rattle.ec_wire.specs.declared.op.Op.{Op}
use Rattle.ec_wire.specs.declared.request.Request.{Request}
use Rattle.ec_wire.specs.declared.request.Request.TheVariants.{Make, NameGet, Query as QueryOf, Release}
use Rattle.ec_law_calls.proofs.Asking.{fetch_is, member_is, opening_fits, where_is}
use Rattle.ec_law_calls.proofs.Clean.{Each}
use Rattle.ec_law_calls.proofs.Sends.{IsRelease, each_append, each_round, each_weaker, give_back_releases, unlock_releases}
use Rattle.ec_law_turns.proofs.Allowed.{account_given, after_given}
use Rattle.ec_law_parts.specs.Names.{EachSends}
use Rattle.ec_law_heads.specs.Making.{IsOfKind, kind_made}

-- ## Calls that make nothing

no_makes : (kind : Option Kind) (c : Account) (es : List Own) → KeepsFrom c es → ((g : ℕ) → makes_child c.given.op g ≡ false) → EachSends (IsOfKind kind) es
no_makes kind c [] k none = tt
no_makes kind c (e ∷ es) k none = by e k.0 (no_makes kind (after c e) es k.1 (λ g. ap (λ (z : Given). makes_child z.op g) (after_given c e) ∙ none g))
  where
    neither : (u : Bool) → u ≡ true → u ≡ false → ⊥
    neither u e f = absurd (let z = sym e ∙ f in cc)

    asked : (b : ℕ) (r : Request) → MaySend c b r → IsOfKind kind r
    asked b (Make g grant child) may = absurd (neither (makes_child c.given.op g.0) may.1.op (none g.0))
    asked b r may = tt

    by : (e : Own) → May c e → EachSends (IsOfKind kind) es → EachSends (IsOfKind kind) (e ∷ es)
    by (Sends b i r) may rest = (asked b r may, rest)
    by (Hears b i reply) may rest = rest
    by (GivesUp b i) may rest = rest
    by (Answers answer) may rest = rest

pub unmade : (given : Given) (es : List Own) (kind : Option Kind) (op : Op) → given.op ≡ op → Keeps given es → ((g : ℕ) → makes_child op g ≡ false) → EachSends (IsOfKind kind) es
unmade given es kind op e keeps none = no_makes kind (opened given) es keeps (λ g. ap (λ (z : Op). makes_child z g) e ∙ none g)

-- ## Lists of own entries

sends_both : (P : Request → Type 0) (xs ys : List Own) → EachSends P xs → EachSends P ys → EachSends P (xs ++ ys)
sends_both P [] ys h k = k
sends_both P (Sends b i r ∷ xs) ys h k = (h.0, sends_both P xs ys h.1 k)
sends_both P (Hears b i reply ∷ xs) ys h k = sends_both P xs ys h k
sends_both P (GivesUp b i ∷ xs) ys h k = sends_both P xs ys h k
sends_both P (Answers answer ∷ xs) ys h k = sends_both P xs ys h k

-- what is sent at a place
pub sends_there : (P : Request → Type 0) (xs : List Own) (b i : ℕ) (r : Request) (ys : List Own) → EachSends P (xs ++ Sends b i r ∷ ys) → P r
sends_there P [] b i r ys h = h.0
sends_there P (Sends c j q ∷ xs) b i r ys h = sends_there P xs b i r ys h.1
sends_there P (Hears c j reply ∷ xs) b i r ys h = sends_there P xs b i r ys h
sends_there P (GivesUp c j ∷ xs) b i r ys h = sends_there P xs b i r ys h
sends_there P (Answers answer ∷ xs) b i r ys h = sends_there P xs b i r ys h

sends_step : (P : Request → Type 0) (i : ℕ) (ss : List Send) (answer : Option Answer) → Each (λ x r. P r) ss → EachSends P (entries_of i ss answer)
sends_step P i [] None h = tt
sends_step P i [] (Some answer) h = tt
sends_step P i (s ∷ ss) answer h = (h.0, sends_step P (i + 1) ss answer h.1)

sends_outside : (P : Request → Type 0) (e : Own) (es : List Own) → IsFromOutside e → EachSends P es → EachSends P (e ∷ es)
sends_outside P (Sends b i r) es out h = absurd out
sends_outside P (Hears b i reply) es out h = h
sends_outside P (GivesUp b i) es out h = h
sends_outside P (Answers answer) es out h = absurd out

-- ## Calls by a table

module _ {S : Type 0} (t : Table S) (given : Given) (P : Request → Type 0) (release_is : (x : ℕ) (r : Request) → is_release r ≡ true → P r) (asks : (p : S) (c : Account) (x : ℕ) (r : Request) → c.given ≡ given → t.asks p c x ≡ Some r → P r) where
  releases : (ss : List Send) → Each IsRelease ss → Each (λ x r. P r) ss
  releases ss h = each_weaker IsRelease (λ x r. P r) release_is ss h

  rounds : (q : S) (c : Account) (n : ℕ) → c.given ≡ given → Each (λ x r. P r) (round n (t.asks q c))
  rounds q c n is = each_round (λ x r. P r) n (t.asks q c) (λ x r lt e. asks q c x r is e)

  step_sends : (p : S) (c : Account) (i : ℕ) (step : Step S) → c.given ≡ given → Goes t p c step → EachSends P (step_entries i step)
  step_sends p c i step is (inl (waits, s)) = subst (λ (z : Step S). EachSends P (step_entries i z)) (sym s) (sends_step P i (round (bricks_of c.given) (where_so (t.again p) (t.asks p c))) None (each_round (λ x r. P r) (bricks_of c.given) (where_so (t.again p) (t.asks p c)) (λ x r lt e. asks p c x r is (where_is (t.again p) (t.asks p c) x r e))))
  step_sends p c i step is (inr (idle, quiet, next, follows, s)) = by next s
    where
      by : (next : Next S) → IsTaken (subject c.given.op) c (λ q. t.asks q c) next step → EachSends P (step_entries i step)
      by (Go q) s = subst (λ (z : Step S). EachSends P (step_entries i z)) (sym s) (sends_step P i (unlock c (subject c.given.op) ++ round (bricks_of c.given) (t.asks q c)) None (each_append (λ x r. P r) (unlock c (subject c.given.op)) (round (bricks_of c.given) (t.asks q c)) (releases (unlock c (subject c.given.op)) (unlock_releases c (subject c.given.op))) (rounds q c (bricks_of c.given) is)))
      by (Say answer) s = subst (λ (z : Step S). EachSends P (step_entries i z)) (sym s) (sends_step P i (unlock c (subject c.given.op) ++ give_back c (subject c.given.op)) (Some answer) (releases (unlock c (subject c.given.op) ++ give_back c (subject c.given.op)) (each_append IsRelease (unlock c (subject c.given.op)) (give_back c (subject c.given.op)) (unlock_releases c (subject c.given.op)) (give_back_releases c (subject c.given.op)))))

  first_sends : (i : ℕ) (step : Step S) (next : Next S) → IsFirst (bricks_of given) (λ q. t.asks q (opened given)) next step → EachSends P (step_entries i step)
  first_sends i step (Go q) s = subst (λ (z : Step S). EachSends P (step_entries i z)) (sym s) (sends_step P i (round (bricks_of given) (t.asks q (opened given))) None (rounds q (opened given) (bricks_of given) (account_given given [])))
  first_sends i step (Say answer) s = subst (λ (z : Step S). EachSends P (step_entries i z)) (sym s) tt

  by_turns : (ts : List (Turned S)) (es : List Own) (stage : Option S) → IsByTurns (Begins t) (Goes t) given ts es stage → EachSends P es
  by_turns [] es stage (i, step, begins, entries, is) = subst (EachSends P) (sym entries) (first_sends i step begins.0 begins.2)
  by_turns (turn ∷ ts) es stage (earlier, before, by, outside, went, entries, is) =
      let c = after (account given earlier) turn.what in
      subst (EachSends P) (sym entries) (sends_both P earlier (turn.what ∷ step_entries turn.number turn.step) (by_turns ts earlier (Some before) by) (sends_outside P turn.what (step_entries turn.number turn.step) outside (step_sends before c turn.number turn.step (after_given (account given earlier) turn.what ∙ account_given given earlier) went)))

  by_table : (es : List Own) (stage : Option S) → IsByTable (Begins t) (Goes t) given es stage → EachSends P es
  by_table es stage (ts, by) = by_turns ts es stage by

-- ## What the table of a create or mkdir asks

no_make : (kind : Option Kind) (r : Request) → is_make r ≡ false → IsOfKind kind r
no_make kind (Make g grant child) e = absurd (cc)
no_make kind r e = tt

release_is : (kind : Option Kind) (x : ℕ) (r : Request) → is_release r ≡ true → IsOfKind kind r
release_is kind x (Release g grant) e = tt
release_is kind x r e = absurd (cc)

query_no_make : (r : Request) → is_query r ≡ true → is_make r ≡ false
query_no_make (QueryOf g grant) e = refl
query_no_make r e = absurd (cc)

opening_no_make : (o : Opening) (c : Account) (x : ℕ) (r : Request) → opening_asks Exclusive o c x ≡ Some r → is_make r ≡ false
opening_no_make (Locking brick) c x r e = let w = opening_fits Exclusive (Locking brick) c x r e in ap is_make w.2
opening_no_make Query c x r e = query_no_make r (opening_fits Exclusive Query c x r e)

ballot_no_make : (b : Ballot) (c : Account) (x : ℕ) (r : Request) → ballot_asks b c x ≡ Some r → is_make r ≡ false
ballot_no_make (Pre group) c x r e = let w = member_is group (ballot_request (subject c.given.op) (size_after c.given.op group.head.size) (attr_after c.given.op) (Pre group)) c x r e in ap is_make w.2
ballot_no_make (Post group) c x r e = let w = member_is group (ballot_request (subject c.given.op) (size_after c.given.op group.head.size) (attr_after c.given.op) (Post group)) c x r e in ap is_make w.2
ballot_no_make (Clear group) c x r e = let w = member_is group (ballot_request (subject c.given.op) (size_after c.given.op group.head.size) (attr_after c.given.op) (Clear group)) c x r e in ap is_make w.2

own_kind : (op : Op) (kind : Kind) (g : ℕ) (name : List ℕ) → op ≡ make_op kind g name → kind_made op ≡ Some (kind_in op)
own_kind op File g name e = subst (λ (z : Op). kind_made z ≡ Some (kind_in z)) (sym e) refl
own_kind op Dir g name e = subst (λ (z : Op). kind_made z ≡ Some (kind_in z)) (sym e) refl

make_asks : (given : Given) (kind : Kind) (g : ℕ) (name : List ℕ) → given.op ≡ make_op kind g name → (p : MakeStage) (c : Account) (x : ℕ) (r : Request) → c.given ≡ given → make_table.asks p c x ≡ Some r → IsOfKind (kind_made given.op) r
make_asks given kind g name fit (makes.Opens o) c x r is e = no_make (kind_made given.op) r (opening_no_make o c x r e)
make_asks given kind g name fit (makes.Name group) c x r is e = let w = fetch_is group.bricks (λ grant. NameGet (record { 0 = subject c.given.op }) grant (make.name_in c.given.op)) c x r e in no_make (kind_made given.op) r (ap is_make w.1)
make_asks given kind g name fit (makes.Votes v) c x r is e = no_make (kind_made given.op) r (ballot_no_make v c x r e)
make_asks given kind g name fit (makes.Makes group) c x r is e =
    let w = member_is group (make_request c.given) c x r e in
    subst (IsOfKind (kind_made given.op)) (sym (w.2 ∙ ap (λ (z : Given). make_request z w.0 w.1) is)) (own_kind given.op kind g name fit)
make_asks given kind g name fit (makes.Enters group) c x r is e = let w = member_is group (make.entry_request c.given) c x r e in no_make (kind_made given.op) r (ap is_make w.2)
make_asks given kind g name fit (makes.Made group) c x r is e = let w = member_is group (made_request c.given) c x r e in no_make (kind_made given.op) r (ap is_make w.2)

pub made_kinds : (given : Given) (kind : Kind) (g : ℕ) (name : List ℕ) → given.op ≡ make_op kind g name → (es : List Own) (stage : Option MakeStage) → IsByTable (Begins make_table) (Goes make_table) given es stage → EachSends (IsOfKind (kind_made given.op)) es
made_kinds given kind g name fit es stage by = by_table make_table given (IsOfKind (kind_made given.op)) (release_is (kind_made given.op)) (make_asks given kind g name fit) es stage by
