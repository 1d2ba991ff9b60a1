-- What holds along the stages of a call, and of the account by which it is answered.
use Rattle.std.proofs.Common.{◌≡◌, inl, inr, ℕ, ◌+◌, ◌≤◌, Bool, true, false, refl, sym, ◌∙◌, ap, subst, List, [], ◌∷◌, ◌++◌, length, arith, Option, Some, None}
use Rattle.std.proofs.Math.Path.{fun_ext}
use Rattle.ec_conduct.specs.Account.{Account, Exchange, Lock, Place as PlaceOf, after, at}
use Rattle.ec_conduct.specs.Given.{Given, bricks_of}
use Rattle.ec_conduct.specs.Opened.{account, opened}
use Rattle.ec_conduct.specs.Own.{Own}
use Rattle.ec_conduct.specs.Table.{IsByTable, IsByTurns, Send, Step, Turned, sent_all, step_entries, with_answer}
use Rattle.ec_conduct.proofs.Fronts.{account_append}
use Rattle.ec_conduct.proofs.Steps.{step_account}
use Rattle.ec_wire.specs.declared.answer.Answer.{Answer}
use Rattle.ec_wire.specs.declared.request.Request.{Request}
use Rattle.ec_txn.specs.declared.ctx.Ctx.{Ctx}
use Rattle.ec_txn.specs.declared.stage.Next.{Next}
use Rattle.ec_txn.specs.declared.stage.Next.TheVariants.{Go, Say}
use Rattle.ec_txn.specs.Rounds.{Asks, IsFirst, IsIdle, IsIn as IsInRound, IsOn, IsReady, IsRound, IsTaken, IsUnlocked, give_back, joined, round, subject, unlock, where_so}
use Rattle.ec_txn.specs.Tables.{Begins, Goes, IsIn, IsOf, IsSound, Table, asked_again}
use Rattle.ec_txn.proofs.Again.{again_sent, none_again}
use Rattle.ec_txn.proofs.Lists.{sent_append}
use Rattle.ec_txn.proofs.Releasing.{last_to, unlocked_to}
use Rattle.ec_txn.proofs.Rounds.{round_of}
use Rattle.ec_txn.proofs.Steps.{opened_place, opened_ready}
use Rattle.ec_law_turns.proofs.Allowed.{account_given, after_given}
use Rattle.ec_law_causes.specs.Counted.{Windows}
use Rattle.ec_law_causes.proofs.Rounds.{outside_round}

some_same : {X : Type 0} (a b : X) → Some a ≡ Some b → a ≡ b
some_same a b e = cc

none_some : {X : Type 0} (a : X) → None ≡ Some a → ⊥
none_some a e = cc

-- the windows of the bricks on the gfid of a call
abbrev pub windows : Given → Account → Windows
windows given c x = (at c (subject given.op) x).window

-- they stay as locks are released
pub unlocked : (given : Given) (d e : Account) → IsUnlocked (subject given.op) d e → (P : Windows → Type 0) → P (windows given d) → P (windows given e)
unlocked given d e u P h = subst P (sym (fun_ext u.window)) h

-- no such brick is asked or replies
abbrev pub NonePast : ℕ → ℕ → Account → Type 0
NonePast g n c = (y : ℕ) → n ≤ y → ((at c g y).inode ≡ None) × ((at c g y).window ≡ [])

-- What is kept from stage to stage: `here given p c f` is what holds of account c, of a call begun with these,
-- at which stage p asks f.
pub record IsKept {P : Type 0} (x : Ctx) (t : Table P) (during : P → Account → Asks → Type 0) (here : Given → P → Account → Asks → Type 0) : Type 0 where
  pub begins : (given : Given) (q : P) → IsOf x given → t.starts given (Go q) → here given q (opened given) (t.asks q (opened given))
  pub goes : (given : Given) (p q : P) (c : Account) (f : Asks) (d e : Account) → IsIn x given c → NonePast (subject given.op) (bricks_of given) d → during p c f → here given p c f → IsRound (subject given.op) c f d → IsIdle d
      → asked_again t p d ≡ [] → t.follows p d (Go q) → IsIn x given e → IsUnlocked (subject given.op) d e → here given q e (t.asks q d)
  pub again : (given : Given) (p : P) (c : Account) (f : Asks) (d : Account) → t.again p ≡ true → IsIn x given c → during p c f → here given p c f → IsRound (subject given.op) c f d → here given p c (joined f (t.asks p d))

-- What each answer has for its cause, by what the call began with and the windows of its bricks.
pub record Tells {P : Type 0} (x : Ctx) (t : Table P) (during : P → Account → Asks → Type 0) (here : Given → P → Account → Asks → Type 0) (Cause : Given → (ℕ → List Exchange) → Answer → Type 0) : Type 0 where
  pub first : (given : Given) (answer : Answer) → IsOf x given → t.starts given (Say answer) → Cause given (λ y. []) answer
  pub last : (given : Given) (p : P) (answer : Answer) (c : Account) (f : Asks) (d : Account) → IsIn x given c → NonePast (subject given.op) (bricks_of given) d → during p c f → here given p c f → IsRound (subject given.op) c f d → IsIdle d
      → asked_again t p d ≡ [] → t.follows p d (Say answer) → Cause given (λ y. (at d (subject given.op) y).window) answer

module _ {P : Type 0} (x : Ctx) (t : Table P) (during : P → Account → Asks → Type 0) (here : Given → P → Account → Asks → Type 0) (Cause : Given → (ℕ → List Exchange) → Answer → Type 0) (sound : IsSound x t during) (kept : IsKept x t during here) (tells : Tells x t during here Cause) where
  pub record InHere (given : Given) (p : P) (d : Account) : Type 0 where
    pub start : Account
    pub asks : Asks
    pub isin : IsIn x given start
    pub none : NonePast (subject given.op) (bricks_of given) start
    pub dur : during p start asks
    pub here_is : here given p start asks
    pub over : IsRound (subject given.op) start asks d

  on_asks : (given : Given) (p : P) (d : Account) (h : InHere given p d) → IsOn (subject given.op) (bricks_of h.start.given) (h.start.on (subject given.op)).queried h.asks
  on_asks given p d h = subst (λ (v : Given). IsOn (subject given.op) (bricks_of v) (h.start.on (subject given.op)).queried h.asks) (sym h.isin.given_is) (sound.on given p h.start h.asks h.isin h.dur)

  -- nor is any as the round goes on
  past_round : (given : Given) (p : P) (d : Account) (h : InHere given p d) → NonePast (subject given.op) (bricks_of given) d
  past_round given p d h y le = at_asks (h.asks y) refl (h.over.each y)
    where
      at_asks : (o : Option Request) → h.asks y ≡ o → IsInRound o (at h.start (subject given.op) y) (d.waits y) (at d (subject given.op) y) → ((at d (subject given.op) y).inode ≡ None) × ((at d (subject given.op) y).window ≡ [])
      at_asks None e i = let w = h.none y le in (ap (λ (z : PlaceOf). z.inode) i.1 ∙ w.0, ap (λ (z : PlaceOf). z.window) i.1 ∙ w.1)
      at_asks (Some r) e i = absurd (let w = (sound.on given p h.start h.asks h.isin h.dur).below y r e in omega arith)

  past_unlocked : (g n : ℕ) (d e : Account) → IsUnlocked g d e → NonePast g n d → NonePast g n e
  past_unlocked g n d e u none y le = (at_lock (at e g y).inode refl, u.window y ∙ (none y le).1)
    where
      at_lock : (o : Option Lock) → (at e g y).inode ≡ o → (at e g y).inode ≡ None
      at_lock None z = z
      at_lock (Some lock) z = absurd (none_some lock (sym (none y le).0 ∙ (u.inode y lock z).1))

  -- what a step leaves
  record Leaves (given : Given) (stage : Option P) (z : Account) : Type 0 where
    pub goes_on : (q : P) → stage ≡ Some q → InHere given q z
    pub told : (answer : Answer) → z.answer ≡ Some answer → Cause given (λ y. (at z (subject given.op) y).window) answer

  -- a stage that goes on has no answer
  stage_leaves : (given : Given) (q : P) (z : Account) → InHere given q z → Leaves given (Some q) z
  stage_leaves given q z h = record {
    goes_on = λ s e. subst (λ (p : P). InHere given p z) (some_same q s e) h;
    told = λ answer e. absurd (none_some answer (sym (h.over.unanswered ∙ h.isin.ready.unanswered) ∙ e));
  }

  again_leaves : (given : Given) (i : ℕ) (p : P) (c : Account) (so : Bool) → t.again p ≡ so → c.given ≡ given → InHere given p c → InHere given p (sent_all c i (round (bricks_of c.given) (where_so so (t.asks p c))))
  again_leaves given i p c false es e h = subst (λ (ss : List Send). InHere given p (sent_all c i ss)) (sym (none_again (bricks_of c.given) (t.asks p c))) h
  again_leaves given i p c true es e h =
      let g = subject given.op in
      let m = sound.again given p h.start h.asks c es h.isin h.dur h.over in
      let on = sound.on given p h.start (joined h.asks (t.asks p c)) h.isin m.0 in
      let w = again_sent g i h.start h.asks (t.asks p c) c (bricks_of given) (ap bricks_of e) on m.1 h.over in
      record {
        start = h.start;
        asks = joined h.asks (t.asks p c);
        isin = h.isin;
        none = h.none;
        dur = m.0;
        here_is = kept.again given p h.start h.asks c es h.isin h.dur h.here_is h.over;
        over = subst (λ (m : ℕ). IsRound g h.start (joined h.asks (t.asks p c)) (sent_all c i (round m (t.asks p c)))) (sym (ap bricks_of e)) w.1;
      }

  ready_after : (g : ℕ) (c d : Account) (f : Asks) → IsReady g c → IsRound g c f d → IsIdle d → IsReady g d
  ready_after g c d f ready r idle = record { unanswered = r.unanswered ∙ ready.unanswered; idle = idle; heal = r.heal; gfids = r.gfids }

  goes_leave : (given : Given) (i : ℕ) (p q : P) (c : Account) → c.given ≡ given → InHere given p c → IsIdle c → asked_again t p c ≡ [] → t.follows p c (Go q)
      → InHere given q (sent_all c i (unlock c (subject given.op) ++ round (bricks_of c.given) (t.asks q c)))
  goes_leave given i p q c e h idle quiet follows =
      let g = subject given.op in
      let none = past_round given p c h in
      let ready = ready_after g h.start c h.asks h.isin.ready h.over idle in
      let u = unlocked_to g i c ready (λ y l. (none y (let v = ap bricks_of e in omega (arith, v))).0) in
      let d = sent_all c i (unlock c g) in
      let j = i + length (unlock c g) in
      let isin : IsIn x given d = record { given_is = u.is.given ∙ e; of = h.isin.of; ready = u.ready } in
      let dur = sound.goes given p q h.start h.asks c d h.isin h.dur h.over idle follows isin u.is in
      let on = subst (λ (n : ℕ). IsOn g n (d.on g).queried (t.asks q c)) (sym (ap bricks_of isin.given_is)) (sound.on given q d (t.asks q c) isin dur) in
      let w = round_of g j d (t.asks q c) u.ready on (λ k a s part b r fb hb. sound.may given q d (t.asks q c) k a isin dur s part b r fb hb) in
      let n : bricks_of d.given ≡ bricks_of c.given = ap bricks_of u.is.given in
      let ends : sent_all c i (unlock c g ++ round (bricks_of c.given) (t.asks q c)) ≡ sent_all d j (round (bricks_of c.given) (t.asks q c)) = sent_append c i (unlock c g) (round (bricks_of c.given) (t.asks q c)) in
      record {
        start = d;
        asks = t.asks q c;
        isin = isin;
        none = past_unlocked g (bricks_of given) c d u.is none;
        dur = dur;
        here_is = kept.goes given p q h.start h.asks c d h.isin none h.dur h.here_is h.over idle quiet follows isin u.is;
        over = subst (λ (z : Account). IsRound g d (t.asks q c) z) (sym ends) (subst (λ (m : ℕ). IsRound g d (t.asks q c) (sent_all d j (round m (t.asks q c)))) n w.1);
      }

  says_leave : (given : Given) (i : ℕ) (p : P) (answer : Answer) (c : Account) → c.given ≡ given → InHere given p c → IsIdle c → asked_again t p c ≡ [] → t.follows p c (Say answer)
      → Cause given (λ y. (at (sent_all c i (unlock c (subject given.op) ++ give_back c (subject given.op))) (subject given.op) y).window) answer
  says_leave given i p answer c e h idle quiet follows =
      let g = subject given.op in
      let none = past_round given p c h in
      let ready = ready_after g h.start c h.asks h.isin.ready h.over idle in
      let out : (y : ℕ) → bricks_of c.given ≤ y → (at c g y).inode ≡ None = λ (y : ℕ) (l : bricks_of c.given ≤ y). (none y (let v = ap bricks_of e in omega (arith, v))).0 in
      let u = unlocked_to g i c ready out in
      let d = sent_all c i (unlock c g) in
      let j = i + length (unlock c g) in
      let w = last_to g j c d u.ready u.is out in
      let ends : sent_all c i (unlock c g ++ give_back c g) ≡ sent_all d j (give_back c g) = sent_append c i (unlock c g) (give_back c g) in
      subst (λ (z : Account). Cause given (λ y. (at z g y).window) answer) (sym ends)
      (subst (λ (v : ℕ → List Exchange). Cause given v answer) (sym (fun_ext w.is.window)) (tells.last given p answer h.start h.asks c h.isin none h.dur h.here_is h.over idle quiet follows))

  taken : (given : Given) (i : ℕ) (p : P) (c : Account) (step : Step P) (next : Next P) → c.given ≡ given → InHere given p c → IsIdle c → asked_again t p c ≡ [] → t.follows p c next
      → IsTaken (subject given.op) c (λ q. t.asks q c) next step → Leaves given step.stage (with_answer (sent_all c i step.sends) step.answer)
  taken given i p c step (Go q) e h idle quiet follows is = subst (λ (s : Step P). Leaves given s.stage (with_answer (sent_all c i s.sends) s.answer)) (sym is) (stage_leaves given q (sent_all c i (unlock c (subject given.op) ++ round (bricks_of c.given) (t.asks q c))) (goes_leave given i p q c e h idle quiet follows))
  taken given i p c step (Say answer) e h idle quiet follows is = subst (λ (s : Step P). Leaves given s.stage (with_answer (sent_all c i s.sends) s.answer)) (sym is) (record {
    goes_on = λ q w. absurd (none_some q w);
    told = λ a w. subst (λ (b : Answer). Cause given (λ y. (at (sent_all c i (unlock c (subject given.op) ++ give_back c (subject given.op))) (subject given.op) y).window) b) (some_same answer a w) (says_leave given i p answer c e h idle quiet follows);
  })

  step_leaves : (given : Given) (i : ℕ) (p : P) (c : Account) (step : Step P) → c.given ≡ given → InHere given p c → Goes t p c step → Leaves given step.stage (with_answer (sent_all c i step.sends) step.answer)
  step_leaves given i p c step e h (inl (waits, is)) = subst (λ (s : Step P). Leaves given s.stage (with_answer (sent_all c i s.sends) s.answer)) (sym is) (stage_leaves given p (sent_all c i (round (bricks_of c.given) (where_so (t.again p) (t.asks p c)))) (again_leaves given i p c (t.again p) refl e h))
  step_leaves given i p c step e h (inr (idle, quiet, next, follows, is)) = taken given i p c step next e h idle quiet follows (subst (λ (v : Given). IsTaken (subject v.op) c (λ q. t.asks q c) next step) e is)

  first_leaves : (given : Given) (i : ℕ) (step : Step P) (next : Next P) → IsOf x given → t.starts given next → IsFirst (bricks_of given) (λ q. t.asks q (opened given)) next step → Leaves given step.stage (with_answer (sent_all (opened given) i step.sends) step.answer)
  first_leaves given i step (Go q) of starts is =
      let g = subject given.op in
      let c = opened given in
      let ready = opened_ready given g of.kept in
      let isin : IsIn x given c = record { given_is = refl; of = of; ready = ready } in
      let dur = sound.begins given q of starts in
      let w = round_of g i c (t.asks q c) ready (sound.on given q c (t.asks q c) isin dur) (λ h a s part b r fb hb. sound.may given q c (t.asks q c) h a isin dur s part b r fb hb) in
      subst (λ (s : Step P). Leaves given s.stage (with_answer (sent_all c i s.sends) s.answer)) (sym is) (stage_leaves given q (sent_all c i (round (bricks_of given) (t.asks q c))) (record {
        start = c;
        asks = t.asks q c;
        isin = isin;
        none = λ y le. (ap (λ (p : PlaceOf). p.inode) (opened_place given g y of.kept), ap (λ (p : PlaceOf). p.window) (opened_place given g y of.kept));
        dur = dur;
        here_is = kept.begins given q of starts;
        over = w.1;
      }))
  first_leaves given i step (Say answer) of starts is = subst (λ (s : Step P). Leaves given s.stage (with_answer (sent_all (opened given) i s.sends) s.answer)) (sym is) (record {
    goes_on = λ q w. absurd (none_some q w);
    told = λ a w. subst (λ (b : Answer). Cause given (λ y. (at (opened given) (subject given.op) y).window) b) (some_same answer a w)
        (subst (λ (v : ℕ → List Exchange). Cause given v answer) (fun_ext (λ y. sym (ap (λ (p : PlaceOf). p.window) (opened_place given (subject given.op) y of.kept)))) (tells.first given answer of starts));
  })

  by_turns : (given : Given) → IsOf x given → (ts : List (Turned P)) (es : List Own) (stage : Option P) → IsByTurns (Begins t) (Goes t) given ts es stage → Leaves given stage (account given es)
  by_turns given of [] es stage (i, step, begins, entries, is) =
      subst (λ (o : Option P). Leaves given o (account given es)) (sym is) (subst (λ (z : Account). Leaves given step.stage z) (sym (ap (account given) entries ∙ step_account (opened given) i step.sends step.answer)) (first_leaves given i step begins.0 of begins.1 begins.2))
  by_turns given of (turn ∷ ts) es stage (earlier, before, by, outside, went, entries, is) =
      let h = (by_turns given of ts earlier (Some before) by).goes_on before refl in
      let a = account given earlier in
      let c = after a turn.what in
      let now : InHere given before c = record { start = h.start; asks = h.asks; isin = h.isin; none = h.none; dur = h.dur; here_is = h.here_is; over = outside_round (subject given.op) h.start a h.asks turn.what (on_asks given before a h) h.over outside } in
      let l = step_leaves given turn.number before c turn.step (after_given a turn.what ∙ account_given given earlier) now went in
      subst (λ (o : Option P). Leaves given o (account given es)) (sym is)
      (subst (λ (z : Account). Leaves given turn.step.stage z) (sym (ap (account given) entries ∙ (account_append (opened given) earlier (turn.what ∷ step_entries turn.number turn.step) ∙ step_account c turn.number turn.step.sends turn.step.answer))) l)

  -- each answer has its cause
  pub by_table : (given : Given) (es : List Own) (stage : Option P) → IsOf x given → IsByTable (Begins t) (Goes t) given es stage → (answer : Answer) → (account given es).answer ≡ Some answer → Cause given (λ y. (at (account given es) (subject given.op) y).window) answer
  by_table given es stage of (ts, by) answer e = (by_turns given of ts es stage by).told answer e
