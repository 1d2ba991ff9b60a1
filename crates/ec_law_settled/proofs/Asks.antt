-- How often own entries that are by a table that goes in order ask a brick for a lock.
use Rattle.std.proofs.Common.{◌≡◌, inl, inr, ℕ, zero, suc, ◌+◌, ◌≤◌, ◌==◌, nat_le, nat_lt, Bool, true, false, cond, Option, Some, None, List, [], ◌∷◌, ◌++◌, refl, sym, ap, subst, ◌∙◌, arith}
use Rattle.std.specs.Prelude.{map}
use Rattle.std.proofs.lemmas.Bool.Decides.{nat_tests}
use Rattle.ec_attr.specs.declared.gfid.Gfid.{Gfid}
use Rattle.ec_attr.specs.declared.kind.LockKind.{LockKind}
use Rattle.ec_conduct.specs.Account.{Account}
use Rattle.ec_conduct.specs.Conduct.{is_release}
use Rattle.ec_conduct.specs.Done.{is_make, is_post, is_query}
use Rattle.ec_conduct.specs.Given.{Given, bricks_of}
use Rattle.ec_conduct.specs.Own.{Own, Sends, Hears, GivesUp, Answers}
use Rattle.ec_conduct.specs.Table.{IsByTable, IsByTurns, IsFromOutside, Send, Step, Turned, entries_of}
use Rattle.ec_txn.specs.Rounds.{Asks, IsFirst, IsTaken, give_back, one, round, subject, unlock, where_so}
use Rattle.ec_txn.specs.Tables.{Begins, Goes, Table}
use Rattle.ec_txn.specs.declared.stage.Next.{Next}
use Rattle.ec_txn.specs.declared.stage.Next.TheVariants.{Go, Say}
use Rattle.ec_wire.specs.declared.answer.Answer.{Answer}
use Rattle.ec_wire.specs.declared.request.Request.{Request}
use Rattle.ec_wire.specs.declared.request.Request.TheVariants.{Ask, Release}
use Rattle.ec_law_calls.proofs.Asking.{where_is}
use Rattle.ec_law_calls.proofs.Clean.{Each}
use Rattle.ec_law_calls.proofs.Sends.{IsRelease, each_append, each_round, each_weaker, give_back_releases, unlock_releases}
use Rattle.ec_law_calls.proofs.Stages.{is_locked, was_locked}
use Rattle.ec_law_calls.specs.Parts.{Fits, GoesInOrder, IsNext, Part, Locks, Heads, Works, Makes, Names, Posts, Ends, is_work}
use Rattle.ec_law_settled.specs.Asks.{count_asks, is_ask_at}
use Rattle.ec_law_settled.proofs.Places.{equal, same}

-- ## Counting

abbrev count_in : ℕ → List Send → ℕ
count_in b [] = 0
count_in b (s ∷ ss) = cond (is_ask_at b s.0 s.1) 1 0 + count_in b ss

count_append : (b : ℕ) (xs ys : List Own) → count_asks b (xs ++ ys) ≡ count_asks b xs + count_asks b ys
count_append b [] ys = omega arith
count_append b (x ∷ xs) ys = let e : count_asks b (xs ++ ys) ≡ count_asks b xs + count_asks b ys = count_append b xs ys in omega (arith, e)

in_append : (b : ℕ) (xs ys : List Send) → count_in b (xs ++ ys) ≡ count_in b xs + count_in b ys
in_append b [] ys = omega arith
in_append b (x ∷ xs) ys = let e : count_in b (xs ++ ys) ≡ count_in b xs + count_in b ys = in_append b xs ys in omega (arith, e)

count_entries : (b i : ℕ) (ss : List Send) (answer : Option Answer) → count_asks b (entries_of i ss answer) ≡ count_in b ss
count_entries b i [] None = refl
count_entries b i [] (Some answer) = refl
count_entries b i (s ∷ ss) answer = ap (λ (k : ℕ). cond (is_ask_at b s.0 s.1) 1 0 + k) (count_entries b (i + 1) ss answer)

none_in : (b : ℕ) (ss : List Send) → Each (λ x r. is_ask_at b x r ≡ false) ss → count_in b ss ≡ 0
none_in b [] h = refl
none_in b (s ∷ ss) h = let e : count_in b ss ≡ 0 = none_in b ss h.1 in rw h.0 (omega (arith, e))

-- ## A round

not_released : (b x : ℕ) (r : Request) → is_release r ≡ true → is_ask_at b x r ≡ false
not_released b x (Release g grant) e = refl
not_released b x r e = absurd (cc)

releases_none : (b : ℕ) (ss : List Send) → Each IsRelease ss → count_in b ss ≡ 0
releases_none b ss h = none_in b ss (each_weaker IsRelease (λ x r. is_ask_at b x r ≡ false) (not_released b) ss h)

asks_brick : (b x : ℕ) (r : Request) → is_ask_at b x r ≡ true → x ≡ b
asks_brick b x (Ask g domain kind) e = equal x b e
asks_brick b x r e = absurd (cc)

at_most_one : (t : Bool) → cond t 1 0 + 0 ≤ 1
at_most_one true = omega arith
at_most_one false = omega arith

one_few : (b x : ℕ) (o : Option Request) → count_in b (map (λ (r : Request). (x, r)) (one o)) ≤ 1
one_few b x None = omega arith
one_few b x (Some r) = at_most_one (is_ask_at b x r)

one_none : (b x : ℕ) → (x ≡ b → ⊥) → (o : Option Request) → count_in b (map (λ (r : Request). (x, r)) (one o)) ≡ 0
one_none b x ne None = refl
one_none b x ne (Some r) = by (is_ask_at b x r) refl
  where
    by : (t : Bool) → is_ask_at b x r ≡ t → cond t 1 0 + 0 ≡ 0
    by true e = absurd (ne (asks_brick b x r e))
    by false e = refl

-- a round asks a brick once, and none from n on
round_few : (b n : ℕ) (f : Asks) → (count_in b (round n f) ≤ 1) × (n ≤ b → count_in b (round n f) ≡ 0)
round_few b zero f = (omega arith, λ le. refl)
round_few b (suc n) f = by (n == b) refl (round_few b n f)
  where
    sum : count_in b (round (suc n) f) ≡ count_in b (round n f) + count_in b (map (λ (r : Request). (n, r)) (one (f n)))
    sum = in_append b (round n f) (map (λ (r : Request). (n, r)) (one (f n)))

    by : (t : Bool) → (n == b) ≡ t → (count_in b (round n f) ≤ 1) × (n ≤ b → count_in b (round n f) ≡ 0) → (count_in b (round (suc n) f) ≤ 1) × (suc n ≤ b → count_in b (round (suc n) f) ≡ 0)
    by true e earlier =
        let here : n ≡ b = equal n b e in
        let none : count_in b (round n f) ≡ 0 = earlier.1 (omega (arith, here)) in
        let last : count_in b (map (λ (r : Request). (n, r)) (one (f n))) ≤ 1 = one_few b n (f n) in
        (omega (arith, sum, none, last), λ le. absurd (omega (arith, le, here)))
    by false e earlier =
        let last : count_in b (map (λ (r : Request). (n, r)) (one (f n))) ≡ 0 = one_none b n (λ h. let t : (n == b) ≡ true = same n b h in absurd (cc)) (f n) in
        let some : count_in b (round n f) ≤ 1 = earlier.0 in
        (omega (arith, sum, some, last), λ le. let none : count_in b (round n f) ≡ 0 = earlier.1 (omega (arith, le)) in omega (arith, sum, none, last))

round_none : (b n : ℕ) (f : Asks) → ((x : ℕ) (r : Request) → f x ≡ Some r → is_ask_at b x r ≡ false) → count_in b (round n f) ≡ 0
round_none b n f h = none_in b (round n f) (each_round (λ x r. is_ask_at b x r ≡ false) n f (λ x r lt e. h x r e))

-- ## What a part asks

not_ask : (test : Request → Bool) → ((g : Gfid) (domain : _) (kind : LockKind) → test (Ask g domain kind) ≡ false) → (b x : ℕ) (r : Request) → test r ≡ true → is_ask_at b x r ≡ false
not_ask test h b x (Ask g domain kind) e = let n = h g domain kind in absurd (cc)
not_ask test h b x r e = refl

is_locks : Part → ℕ → Bool
is_locks (Locks x) b = x == b
is_locks p b = false

is_locks_of : (p : Part) (b : ℕ) → is_locks p b ≡ true → p ≡ Locks b
unfolding is_locks
is_locks_of (Locks x) b e = ap (λ (z : ℕ). Locks z) (equal x b e)
is_locks_of p b e = absurd (cc)

fits_no : (kind : LockKind) (p : Part) (b x : ℕ) (r : Request) → Fits kind p x r → is_locks p b ≡ false → is_ask_at b x r ≡ false
unfolding is_locks
fits_no kind (Locks brick) b x r (e, g, is) n = subst (λ (q : Request). is_ask_at b x q ≡ false) (sym is) (subst (λ (z : ℕ). (z == b) ≡ false) (sym e) n)
fits_no kind Heads b x r f n = not_ask is_query (λ g d k. refl) b x r f
fits_no kind Works b x r f n = not_ask (is_work kind) (λ g d k. refl) b x r f
fits_no kind Makes b x r f n = not_ask is_make (λ g d k. refl) b x r f
fits_no kind Names b x r f n = not_ask (is_work kind) (λ g d k. refl) b x r f
fits_no kind Posts b x r f n = not_ask is_post (λ g d k. refl) b x r f
fits_no kind Ends b x r f n = not_ask (is_work kind) (λ g d k. refl) b x r f

no_lock_in_works : (b : ℕ) → is_locks Works b ≡ false
unfolding is_locks
no_lock_in_works b = refl

was_of_is : (p : Part) (b : ℕ) → is_locked p b ≡ false → was_locked p b ≡ false
was_of_is (Locks x) b e = grind (arith, nat_tests)
was_of_is p b e = absurd (cc)

next_locks : (p q : Part) (b : ℕ) → IsNext p q → was_locked q b ≡ false → is_locked p b ≡ false
next_locks (Locks x) (Locks y) b n e = later x y n e
  where
    later : (x y : ℕ) → y ≡ x + 1 → nat_lt b y ≡ false → nat_le b x ≡ false
    later x y n e = grind (arith, nat_tests)
next_locks p (Locks y) b n e = absurd n
next_locks p q b n e = absurd (cc)

-- ## Along the turns

module _ {P : Type 0} (kind : LockKind) (t : Table P) (order : GoesInOrder kind t) where
  -- no brick was asked twice, and none that is to be asked yet
  abbrev pub Fine : (ℕ → Bool) → List Own → Type 0
  Fine locked es = (b : ℕ) → (count_asks b es ≤ 1) × (locked b ≡ false → count_asks b es ≡ 0)

  pub record IsOnce (es : List Own) (stage : Option P) : Type 0 where
    pub once : (b : ℕ) → count_asks b es ≤ 1
    pub stands : (q : P) → stage ≡ Some q → Fine (is_locked (order.part q)) es

  -- a stage sends what it asks, after entries that asked what they should
  asks_leave : (q : P) (c : Account) (n : ℕ) (es fs : List Own) → Fine (was_locked (order.part q)) es → ((b : ℕ) → count_asks b fs ≡ count_asks b es + count_in b (round n (t.asks q c))) → Fine (is_locked (order.part q)) fs
  asks_leave q c n es fs h sum b = by (is_locks (order.part q) b) refl
    where
      by : (s : Bool) → is_locks (order.part q) b ≡ s → (count_asks b fs ≤ 1) × (is_locked (order.part q) b ≡ false → count_asks b fs ≡ 0)
      by true e =
          let part : order.part q ≡ Locks b = is_locks_of (order.part q) b e in
          let unasked : was_locked (order.part q) b ≡ false = subst (λ (p : Part). was_locked p b ≡ false) (sym part) (itself_not b) in
          let before : count_asks b es ≡ 0 = (h b).1 unasked in
          let few : count_in b (round n (t.asks q c)) ≤ 1 = (round_few b n (t.asks q c)).0 in
          let all : count_asks b fs ≡ count_asks b es + count_in b (round n (t.asks q c)) = sum b in
          (omega (arith, before, few, all), λ l. let k : is_locked (Locks b) b ≡ false = subst (λ (p : Part). is_locked p b ≡ false) part l in absurd (itself_is b k))
        where
          itself_not : (b : ℕ) → nat_lt b b ≡ false
          itself_not b = grind (arith, nat_tests)

          itself_is : (b : ℕ) → nat_le b b ≡ false → ⊥
          itself_is b e = grind (arith, nat_tests)
      by false e =
          let none : count_in b (round n (t.asks q c)) ≡ 0 = round_none b n (t.asks q c) (λ x r a. fits_no kind (order.part q) b x r (order.asks q c x r a) e) in
          let all : count_asks b fs ≡ count_asks b es + count_in b (round n (t.asks q c)) = sum b in
          let before : count_asks b es ≤ 1 = (h b).0 in
          (omega (arith, none, all, before), λ l. let zero_before : count_asks b es ≡ 0 = (h b).1 (was_of_is (order.part q) b l) in omega (arith, none, all, zero_before))

  -- the entries after a turn: what was heard or given up, and what the step sends
  turned : (b : ℕ) (earlier : List Own) (what : Own) (i : ℕ) (ss : List Send) (answer : Option Answer) → IsFromOutside what → count_asks b (earlier ++ what ∷ entries_of i ss answer) ≡ count_asks b earlier + count_in b ss
  turned b earlier what i ss answer outside =
      let all : count_asks b (earlier ++ what ∷ entries_of i ss answer) ≡ count_asks b earlier + count_asks b (what ∷ entries_of i ss answer) = count_append b earlier (what ∷ entries_of i ss answer) in
      let rest : count_asks b (what ∷ entries_of i ss answer) ≡ count_asks b (entries_of i ss answer) = silent what outside in
      let sends : count_asks b (entries_of i ss answer) ≡ count_in b ss = count_entries b i ss answer in
      omega (arith, all, rest, sends)
    where
      silent : (what : Own) → IsFromOutside what → count_asks b (what ∷ entries_of i ss answer) ≡ count_asks b (entries_of i ss answer)
      silent (Sends x j r) o = absurd o
      silent (Hears x j reply) o = omega arith
      silent (GivesUp x j) o = omega arith
      silent (Answers a) o = absurd o

  again_none : (p : P) (c : Account) (b n : ℕ) (so : Bool) → t.again p ≡ so → count_in b (round n (where_so so (t.asks p c))) ≡ 0
  again_none p c b n false so = round_none b n (where_so false (t.asks p c)) (λ x r e. absurd (cc))
  again_none p c b n true so = round_none b n (where_so true (t.asks p c)) (λ x r e. fits_no kind (order.part p) b x r (order.asks p c x r (where_is true (t.asks p c) x r e)) (ap (λ (z : Part). is_locks z b) (order.again p so) ∙ no_lock_in_works b))

  -- ## All steps

  -- what holds before a step's sends, and what they make of it
  pub record Leaves (es fs : List Own) (step : Step P) : Type 0 where
    pub once : (b : ℕ) → count_asks b fs ≤ 1
    pub goes_on : (q : P) → step.stage ≡ Some q → Fine (is_locked (order.part q)) fs

  some_stage : (x y : P) → Some x ≡ Some y → x ≡ y
  some_stage x y e = cc

  none_stage : (x : P) → None ≡ Some x → ⊥
  none_stage x e = cc

  stage_leaves : (q : P) (es fs : List Own) (ss : List Send) → Fine (is_locked (order.part q)) fs → Leaves es fs (record { stage = Some q; sends = ss; answer = None; kept = None })
  stage_leaves q es fs ss h = record { once = λ b. (h b).0; goes_on = λ z e. subst (λ (y : P). Fine (is_locked (order.part y)) fs) (some_stage q z e) h }

  next_leaves : (p q : P) (c : Account) (g : ℕ) (es fs : List Own) → Fine (is_locked (order.part p)) es → IsNext (order.part p) (order.part q) → ((b : ℕ) → count_asks b fs ≡ count_asks b es + count_in b (unlock c g ++ round (bricks_of c.given) (t.asks q c)))
      → Fine (is_locked (order.part q)) fs
  next_leaves p q c g es fs h next sum = asks_leave q c (bricks_of c.given) es fs (λ b. ((h b).0, λ e. (h b).1 (next_locks (order.part p) (order.part q) b next e))) (λ b.
      let all : count_asks b fs ≡ count_asks b es + count_in b (unlock c g ++ round (bricks_of c.given) (t.asks q c)) = sum b in
      let two : count_in b (unlock c g ++ round (bricks_of c.given) (t.asks q c)) ≡ count_in b (unlock c g) + count_in b (round (bricks_of c.given) (t.asks q c)) = in_append b (unlock c g) (round (bricks_of c.given) (t.asks q c)) in
      let none : count_in b (unlock c g) ≡ 0 = releases_none b (unlock c g) (unlock_releases c g) in
      omega (arith, all, two, none))

  taken : (p : P) (c : Account) (next : Next P) (step : Step P) (es fs : List Own) → Fine (is_locked (order.part p)) es → t.follows p c next → IsTaken (subject c.given.op) c (λ q. t.asks q c) next step → ((b : ℕ) → count_asks b fs ≡ count_asks b es + count_in b step.sends) → Leaves es fs step
  taken p c (Go q) step es fs h follows is sum =
      subst (Leaves es fs) (sym is) (stage_leaves q es fs (unlock c (subject c.given.op) ++ round (bricks_of c.given) (t.asks q c))
      (next_leaves p q c (subject c.given.op) es fs h (order.next p q c follows) (λ b. sum b ∙ ap (λ (z : Step P). count_asks b es + count_in b z.sends) is)))
  taken p c (Say answer) step es fs h follows is sum = subst (Leaves es fs) (sym is) (record { once = ends; goes_on = λ z e. absurd (none_stage z e) })
    where
      ends : (b : ℕ) → count_asks b fs ≤ 1
      ends b =
          let ss : List Send = unlock c (subject c.given.op) ++ give_back c (subject c.given.op) in
          let none : count_in b step.sends ≡ 0 = ap (λ (z : Step P). count_in b z.sends) is ∙ releases_none b (unlock c (subject c.given.op) ++ give_back c (subject c.given.op)) (each_append IsRelease (unlock c (subject c.given.op)) (give_back c (subject c.given.op)) (unlock_releases c (subject c.given.op)) (give_back_releases c (subject c.given.op))) in
          let all : count_asks b fs ≡ count_asks b es + count_in b step.sends = sum b in
          let before : count_asks b es ≤ 1 = (h b).0 in
          omega (arith, none, all, before)

  step_leaves : (p : P) (c : Account) (step : Step P) (es fs : List Own) → Fine (is_locked (order.part p)) es → Goes t p c step → ((b : ℕ) → count_asks b fs ≡ count_asks b es + count_in b step.sends) → Leaves es fs step
  step_leaves p c step es fs h (inl (waits, is)) sum = subst (Leaves es fs) (sym is) (stage_leaves p es fs (round (bricks_of c.given) (where_so (t.again p) (t.asks p c))) (λ b.
      let none : count_in b step.sends ≡ 0 = ap (λ (z : Step P). count_in b z.sends) is ∙ again_none p c b (bricks_of c.given) (t.again p) refl in
      let all : count_asks b fs ≡ count_asks b es + count_in b step.sends = sum b in
      let before : count_asks b es ≤ 1 = (h b).0 in
      (omega (arith, none, all, before), λ l. let zero_before : count_asks b es ≡ 0 = (h b).1 l in omega (arith, none, all, zero_before))))
  step_leaves p c step es fs h (inr (idle, quiet, next, follows, is)) sum = taken p c next step es fs h follows is sum

  first_leaves : (given : Given) (next : Next P) (step : Step P) (fs : List Own) → t.starts given next → IsFirst (bricks_of given) (λ q. t.asks q (Rattle.ec_conduct.specs.Opened.opened given)) next step → ((b : ℕ) → count_asks b fs ≡ count_in b step.sends) → Leaves [] fs step
  first_leaves given (Go q) step fs starts is sum = subst (Leaves [] fs) (sym is) (stage_leaves q [] fs (round (bricks_of given) (t.asks q (Rattle.ec_conduct.specs.Opened.opened given)))
      (asks_leave q (Rattle.ec_conduct.specs.Opened.opened given) (bricks_of given) [] fs (λ b. (omega arith, λ e. refl)) (λ b. let all : count_asks b fs ≡ count_in b (round (bricks_of given) (t.asks q (Rattle.ec_conduct.specs.Opened.opened given))) = sum b ∙ ap (λ (z : Step P). count_in b z.sends) is in omega (arith, all))))
  first_leaves given (Say answer) step fs starts is sum = subst (Leaves [] fs) (sym is) (record { once = λ b. let none : count_asks b fs ≡ 0 = sum b ∙ ap (λ (z : Step P). count_in b z.sends) is in omega (arith, none); goes_on = λ z e. absurd (none_stage z e) })

  by_turns : (given : Given) (ts : List (Turned P)) (es : List Own) (stage : Option P) → IsByTurns (Begins t) (Goes t) given ts es stage → IsOnce es stage
  by_turns given [] es stage (i, step, begins, entries, is) =
      let l = first_leaves given begins.0 step es begins.1 begins.2 (λ b. ap (count_asks b) entries ∙ count_entries b i step.sends step.answer) in
      record { once = l.once; stands = λ q w. l.goes_on q (sym is ∙ w) }
  by_turns given (turn ∷ ts) es stage (earlier, before, by, outside, went, entries, is) =
      let h = by_turns given ts earlier (Some before) by in
      let l = step_leaves before (Rattle.ec_conduct.specs.Account.after (Rattle.ec_conduct.specs.Opened.account given earlier) turn.what) turn.step earlier es (h.stands before refl) went
      (λ b. ap (count_asks b) entries ∙ turned b earlier turn.what turn.number turn.step.sends turn.step.answer outside) in
      record { once = l.once; stands = λ q w. l.goes_on q (sym is ∙ w) }

  pub by_table : (given : Given) (es : List Own) (stage : Option P) (b : ℕ) → IsByTable (Begins t) (Goes t) given es stage → count_asks b es ≤ 1
  by_table given es stage b (ts, by) = (by_turns given ts es stage by).once b
