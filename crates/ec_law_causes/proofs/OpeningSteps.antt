-- How the opening of a table goes on, and what it says where no quorum granted the lock.
use Rattle.std.proofs.Common.{◌≡◌, ◌⊎◌, inl, inr, ⊎_elim, ℕ, ◌+◌, ◌<◌, ◌≤◌, nat_le, nat_lt, Bool, true, false, cond, refl, sym, ◌∙◌, ap, subst, arith}
use Rattle.std.proofs.lemmas.Bool.Decides.{nat_tests}
use Rattle.ec_answers.specs.declared.grouped.Grouped.{Grouped}
use Rattle.ec_attr.specs.Bricks.{count_below}
use Rattle.ec_attr.specs.declared.kind.LockKind.{LockKind}
use Rattle.ec_conduct.specs.Account.{Account, at}
use Rattle.ec_conduct.specs.Given.{Given, bricks_of, quorum_of}
use Rattle.ec_conduct.specs.Standing.{is_held}
use Rattle.ec_wire.specs.declared.answer.Answer.{Answer}
use Rattle.ec_wire.specs.declared.answer.Answer.TheVariants.{NoQuorum}
use Rattle.ec_wire.specs.declared.phase.Phase.TheVariants.{Lock as LockPhase}
use Rattle.ec_txn.specs.Opening.{InOpening, IsLocking, IsQuerying, OpeningFollows, opening_asks}
use Rattle.ec_txn.specs.Rounds.{Asks, IsIdle, IsRound, IsUnlocked, subject}
use Rattle.ec_txn.specs.declared.opening.Opening.{Opening}
use Rattle.ec_txn.specs.declared.opening.Opening.TheVariants.{Lock as Locking, Query}
use Rattle.ec_txn.specs.declared.stage.Next.{Next}
use Rattle.ec_txn.specs.declared.stage.Next.TheVariants.{Go, Say}
use Rattle.ec_law_causes.specs.Causes.{Opens}
use Rattle.ec_law_causes.proofs.Along.{NonePast}
use Rattle.ec_law_causes.proofs.Openings.{HereOpening, asked_now, count_granted, held_now, next_lock, next_query}
use Rattle.ec_law_causes.proofs.Queried.{Queried, queries_over}

module _ {P : Type 0} where
  pub go_same : (a b : P) → Go a ≡ Go b → a ≡ b
  go_same a b e = cc

  pub go_say : (a : P) (b : Answer) → Go a ≡ Say b → ⊥
  go_say a b e = cc

  pub say_go : (a : P) (b : Answer) → Say b ≡ Go a → ⊥
  say_go a b e = cc

  pub say_same : (a b : Answer) (next : Next P) → next ≡ Say a → next ≡ Say b → a ≡ b
  say_same a b next e f = let z = sym e ∙ f in cc

  -- a stage or an answer, by a test
  pub go_when : (t : Bool) (p q : P) (answer : Answer) → Go q ≡ cond t (Go p) (Say answer) → (t ≡ true) × (q ≡ p)
  go_when true p q answer e = (refl, go_same q p e)
  go_when false p q answer e = absurd (go_say q answer e)

  pub say_when : (t : Bool) (p : P) (a answer : Answer) → Say a ≡ cond t (Go p) (Say answer) → (t ≡ false) × (a ≡ answer)
  say_when true p a answer e = absurd (say_go p a e)
  say_when false p a answer e = (refl, say_same a answer (Say a) refl e)

  -- what follows a lock
  goes_by : (a b : Bool) (p r q : P) (s : Answer) → Go q ≡ cond a (Go p) (cond b (Go r) (Say s)) → ((a ≡ true) × (q ≡ p)) ⊎ ((a ≡ false) × (b ≡ true) × (q ≡ r))
  goes_by true b p r q s e = inl (refl, go_same q p e)
  goes_by false true p r q s e = inr (refl, refl, go_same q r e)
  goes_by false false p r q s e = absurd (go_say q s e)

  says_by : (a b : Bool) (p r : P) (t s : Answer) → Say t ≡ cond a (Go p) (cond b (Go r) (Say s)) → (a ≡ false) × (b ≡ false) × (t ≡ s)
  says_by true b p r t s e = absurd (say_go p t e)
  says_by false true p r t s e = absurd (say_go r t e)
  says_by false false p r t s e = (refl, refl, say_same t s (Say t) refl e)

module _ {P : Type 0} (into : Opening → P) (kind : LockKind) (judges : Account → Grouped → Next P → Type 0) (given : Given) (brick : ℕ) (c : Account) (f : Asks) (d : Account)
    (cg : c.given ≡ given) (dg : d.given ≡ given) (l : InOpening kind (Locking brick) c f) (h : HereOpening kind given (Locking brick) c f) (r : IsRound (subject given.op) c f d) (idle : IsIdle d) where
  locking : IsLocking (subject given.op) (bricks_of given) kind brick c f
  locking = subst (λ (v : Given). IsLocking (subject v.op) (bricks_of v) kind brick c f) cg l

  abbrev LockFollows : Given → Next P → Type 0
  LockFollows v next = next ≡ cond (nat_lt (brick + 1) (bricks_of v)) (Go (into (Locking (brick + 1)))) (cond (nat_le (quorum_of v) (count_below (bricks_of v) (λ x. is_held (at d (subject v.op) x).inode))) (Go (into Query)) (Say (NoQuorum LockPhase (count_below (bricks_of v) (λ x. is_held (at d (subject v.op) x).inode)))))

  follows_given : (next : Next P) → OpeningFollows into judges (Locking brick) d next → LockFollows given next
  follows_given next follows = subst (λ (v : Given). LockFollows v next) dg follows

  pub lock_goes : (asks : P → Account → Asks) (here : Given → P → Account → Asks → Type 0) → ((o : Opening) (a : Account) (k : Asks) → HereOpening kind given o a k → here given (into o) a k) → ((o : Opening) (a : Account) → asks (into o) a ≡ opening_asks kind o a)
      → (q : P) (e : Account) → OpeningFollows into judges (Locking brick) d (Go q) → IsUnlocked (subject given.op) d e → here given q e (asks q d)
  lock_goes asks here at_stage ask q e follows u = ⊎_elim
      (λ w. subst (λ (z : P). here given z e (asks z d)) (sym w.1) (subst (λ (k : Asks). here given (into (Locking (brick + 1))) e k) (sym (ask (Locking (brick + 1)) d)) (at_stage (Locking (brick + 1)) e (opening_asks kind (Locking (brick + 1)) d) (next_lock given kind brick c f d e dg locking h r idle u))))
      (λ w. let all : bricks_of given ≤ brick + 1 = (let t = w.0 in grind (arith, nat_tests)) in
      let enough : quorum_of given ≤ count_below (bricks_of given) (λ x. is_held (at d (subject given.op) x).inode) = (let t = w.1 in grind (arith, nat_tests)) in
      subst (λ (z : P). here given z e (asks z d)) (sym w.2) (subst (λ (k : Asks). here given (into Query) e k) (sym (ask Query d)) (at_stage Query e (opening_asks kind Query d) (next_query given kind brick c f d e dg locking h r idle u all enough))))
      (goes_by (nat_lt (brick + 1) (bricks_of given)) (nat_le (quorum_of given) (count_below (bricks_of given) (λ x. is_held (at d (subject given.op) x).inode))) (into (Locking (brick + 1))) (into Query) q (NoQuorum LockPhase (count_below (bricks_of given) (λ x. is_held (at d (subject given.op) x).inode))) (follows_given (Go q) follows))

  -- fewer than K granted the lock
  pub lock_says : (later : Answer → Type 0) (answer : Answer) → OpeningFollows into judges (Locking brick) d (Say answer) → Opens given (λ x. (at d (subject given.op) x).window) later answer
  lock_says later answer follows =
      let held : ℕ = count_below (bricks_of given) (λ x. is_held (at d (subject given.op) x).inode) in
      let w = says_by (nat_lt (brick + 1) (bricks_of given)) (nat_le (quorum_of given) held) (into (Locking (brick + 1))) (into Query) answer (NoQuorum LockPhase held) (follows_given (Say answer) follows) in
      let same = count_granted (subject given.op) (bricks_of given) d (held_now (subject given.op) (bricks_of given) kind brick c f d locking h r idle) in
      let all : bricks_of given ≤ brick + 1 = (let t = w.0 in grind (arith, nat_tests)) in
      let few : held < quorum_of given = (let t = w.1 in grind (arith, nat_tests)) in
      inl (record {
        asked = λ x less is. inl (asked_now (subject given.op) (bricks_of given) kind brick c f d locking h r idle x (omega (arith, less, all)));
        few = subst (λ (m : ℕ). m < quorum_of given) same few;
        answer_is = w.2 ∙ ap (NoQuorum LockPhase) same;
      })

module _ (kind : LockKind) (given : Given) (c : Account) (f : Asks) (d : Account) (cg : c.given ≡ given) (l : InOpening kind Query c f) (h : HereOpening kind given Query c f) (r : IsRound (subject given.op) c f d) (idle : IsIdle d) (none : NonePast (subject given.op) (bricks_of given) d) where
  pub querying : IsQuerying (subject given.op) (bricks_of given) kind c f
  querying = subst (λ (v : Given). IsQuerying (subject v.op) (bricks_of v) kind c f) cg l

  pub queried : Queried given (λ x. (at d (subject given.op) x).window)
  queried = queries_over given kind c f d querying h r idle none
