-- A call in a stage waits for somebody, where each stage of its table begins with a brick that it asks.
use Rattle.std.proofs.Common.{◌≡◌, ◌≢◌, ◌⊎◌, inl, inr, ℕ, zero, suc, ◌+◌, ◌<◌, is_some, Bool, true, false, cond, refl, sym, ◌∙◌, ap, subst, List, [], ◌∷◌, ◌++◌, length, arith, Option, Some, None}
use Rattle.std.specs.Prelude.{map}
use Rattle.ec_conduct.specs.Account.{Account, Lock, Place as PlaceOf, Wait, after, at, sent}
use Rattle.ec_conduct.specs.Conduct.{is_release}
use Rattle.ec_conduct.specs.Given.{Given, bricks_of}
use Rattle.ec_conduct.specs.Opened.{account, opened}
use Rattle.ec_conduct.specs.Own.{Own}
use Rattle.ec_conduct.specs.Table.{IsByTable, IsByTurns, Send, Step, Turned, sent_all, step_entries, with_answer}
use Rattle.ec_conduct.proofs.Fronts.{account_append}
use Rattle.ec_conduct.proofs.Steps.{step_account}
use Rattle.ec_store.specs.Put.{put}
use Rattle.ec_wire.specs.declared.answer.Answer.{Answer}
use Rattle.ec_wire.specs.declared.request.Request.{Request}
use Rattle.ec_wire.specs.declared.request.Request.TheVariants.{Release}
use Rattle.ec_txn.specs.declared.ctx.Ctx.{Ctx}
use Rattle.ec_txn.specs.declared.stage.Next.{Next}
use Rattle.ec_txn.specs.declared.stage.Next.TheVariants.{Go, Say}
use Rattle.ec_txn.specs.Rounds.{Asks, IsFirst, IsIdle, IsIn as IsInRound, IsOn, IsReady, IsRound, IsTaken, IsUnlocked, IsWaiting, is_plain, joined, one, round, subject, unlock, where_so}
use Rattle.ec_txn.specs.Tables.{Begins, Goes, IsIn, IsOf, IsSound, Table, asked_again}
use Rattle.ec_txn.proofs.Again.{again_sent, none_again}
use Rattle.ec_txn.proofs.Lists.{sent_append}
use Rattle.ec_txn.proofs.Releasing.{unlocked_to}
use Rattle.ec_txn.proofs.Rounds.{round_of}
use Rattle.ec_txn.proofs.Steps.{opened_place, opened_ready}
use Rattle.ec_law_turns.proofs.Allowed.{account_given, after_given}
use Rattle.ec_law_causes.proofs.Along.{IsKept, NonePast}
use Rattle.ec_law_causes.proofs.Rounds.{outside_round}
use Rattle.ec_law_settled.proofs.Places.{put_at, put_here}

some_same : {X : Type 0} (a b : X) → Some a ≡ Some b → a ≡ b
some_same a b e = cc

none_some : {X : Type 0} (a : X) → None ≡ Some a → ⊥
none_some a e = cc

some_is_some : {X : Type 0} (o : Option X) (x : X) → o ≡ Some x → is_some o ≡ true
some_is_some o x e = ap is_some e

-- ## Sends and waits

sent_waits : (c : Account) (b i : ℕ) (r : Request) → is_release r ≡ false → (sent c b i r).waits ≡ put c.waits b (Some (record { number = i; request = r }))
sent_waits c b i (Release g grant) e = absurd (cc)
sent_waits c b i r e = refl

release_waits : (c : Account) (b i : ℕ) (r : Request) → is_release r ≡ true → (sent c b i r).waits ≡ c.waits
release_waits c b i (Release g grant) e = refl
release_waits c b i r e = absurd (cc)

-- who is waited for stays so
waits_on : (c : Account) (b i : ℕ) (r : Request) (y : ℕ) → is_some (c.waits y) ≡ true → is_some ((sent c b i r).waits y) ≡ true
waits_on c b i r y h = by (is_release r) refl
  where
    by : (t : Bool) → is_release r ≡ t → is_some ((sent c b i r).waits y) ≡ true
    by true e = ap (λ (f : ℕ → Option Wait). is_some (f y)) (release_waits c b i r e) ∙ h
    by false e = ap (λ (f : ℕ → Option Wait). is_some (f y)) (sent_waits c b i r e) ∙ elim (put_at c.waits b (Some (record { number = i; request = r })) y) [ inl w ↦ ap is_some w.1 | inr w ↦ ap is_some w.1 ∙ h ]

waits_all : (c : Account) (i : ℕ) (ss : List Send) (y : ℕ) → is_some (c.waits y) ≡ true → is_some ((sent_all c i ss).waits y) ≡ true
waits_all c i [] y h = h
waits_all c i (s ∷ ss) y h = waits_all (sent c s.0 i s.1) (i + 1) ss y (waits_on c s.0 i s.1 y h)

-- a brick that a round asks is waited for
at_brick : (c : Account) (i y : ℕ) (o : Option Request) (r : Request) → o ≡ Some r → is_release r ≡ false → is_some ((sent_all c i (map (λ (q : Request). (y, q)) (one o))).waits y) ≡ true
at_brick c i y None r e s = absurd (none_some r e)
at_brick c i y (Some q) r e s =
    let speaks : is_release q ≡ false = ap is_release (some_same q r e) ∙ s in
    ap (λ (f : ℕ → Option Wait). is_some (f y)) (sent_waits c y i q speaks) ∙ ap is_some (put_here c.waits y (Some (record { number = i; request = q })) y refl)

round_waits : (c : Account) (i n : ℕ) (f : Asks) (y : ℕ) (r : Request) → y < n → f y ≡ Some r → is_release r ≡ false → is_some ((sent_all c i (round n f)).waits y) ≡ true
round_waits c i zero f y r lt e s = absurd (omega (arith, lt))
round_waits c i (suc n) f y r lt e s = subst (λ (z : Account). is_some (z.waits y) ≡ true) (sym (sent_append c i (round n f) (map (λ (q : Request). (n, q)) (one (f n))))) (by (last y n lt) (λ l. round_waits c i n f y r l e s))
  where
    last : (y n : ℕ) → y < suc n → (y ≡ n) ⊎ (y < n)
    last y n lt = grind arith

    by : (y ≡ n) ⊎ (y < n) → (y < n → is_some ((sent_all c i (round n f)).waits y) ≡ true) → is_some ((sent_all (sent_all c i (round n f)) (i + length (round n f)) (map (λ (q : Request). (n, q)) (one (f n)))).waits y) ≡ true
    by (inl w) earlier = subst (λ (z : ℕ). is_some ((sent_all (sent_all c i (round n f)) (i + length (round n f)) (map (λ (q : Request). (n, q)) (one (f n)))).waits z) ≡ true) (sym w) (at_brick (sent_all c i (round n f)) (i + length (round n f)) n (f n) r (ap f (sym w) ∙ e) s)
    by (inr l) earlier = waits_all (sent_all c i (round n f)) (i + length (round n f)) (map (λ (q : Request). (n, q)) (one (f n))) y (earlier l)

-- a round that asks something asks a brick
abbrev Found : ℕ → Asks → Type 0
Found n f = (y : ℕ) × (r : Request) × (y < n) × (f y ≡ Some r)

round_asks : (n : ℕ) (f : Asks) → (round n f ≡ [] → ⊥) → Found n f
round_asks zero f ne = absurd (ne refl)
round_asks (suc n) f ne = by (f n) refl (round_asks n f)
  where
    by : (o : Option Request) → f n ≡ o → ((round n f ≡ [] → ⊥) → Found n f) → Found (suc n) f
    by (Some r) e earlier = (n, r, omega arith, e)
    by None e earlier = let w = earlier (λ none. ne (ap (λ (o : Option Request). round n f ++ map (λ (q : Request). (n, q)) (one o)) e ∙ (nothing_more (round n f) ∙ none))) in (w.0, w.1, let l = w.2 in omega (arith, l), w.3)
      where
        nothing_more : (xs : List Send) → xs ++ [] ≡ xs
        nothing_more [] = refl
        nothing_more (x ∷ xs) = ap (λ (zs : List Send). x ∷ zs) (nothing_more xs)

plain_speaks : (r : Request) → is_plain r ≡ true → is_release r ≡ false
plain_speaks (Release g grant) e = absurd (cc)
plain_speaks r e = refl

someone_waits : (d : Account) (j n : ℕ) (f : Asks) (y : ℕ) → y < n → is_some (f y) ≡ true → ((r : Request) → f y ≡ Some r → is_release r ≡ false) → IsWaiting (sent_all d j (round n f))
someone_waits d j n f y lt s speaks = by (f y) refl s
  where
    by : (o : Option Request) → f y ≡ o → is_some o ≡ true → IsWaiting (sent_all d j (round n f))
    by None e s = absurd (cc)
    by (Some r) e s = (y, round_waits d j n f y r lt e (speaks r e))

joined_new : (f h : Asks) (y : ℕ) (r : Request) → f y ≡ None → h y ≡ Some r → joined f h y ≡ Some r
joined_new f h y r e k = ap (λ (o : Option Request). cond (is_some o) o (h y)) e ∙ k

-- ## Stages

-- some brick is asked
abbrev pub Someone : Given → Asks → Type 0
Someone given f = (y : ℕ) × (y < bricks_of given) × (is_some (f y) ≡ true)

-- Each stage begins with a brick that it asks; `here given p c f` is what is kept of account c, at which stage p asked f, and `more given p c`
-- what is kept beside.
pub record Wakes {P : Type 0} (x : Ctx) (t : Table P) (during : P → Account → Asks → Type 0) (here : Given → P → Account → Asks → Type 0) (more : Given → P → Account → Type 0) : Type 0 where
  pub begins : (given : Given) (q : P) → IsOf x given → t.starts given (Go q) → Someone given (t.asks q (opened given)) × more given q (opened given)
  pub goes : (given : Given) (p q : P) (c : Account) (f : Asks) (d e : Account) → IsIn x given c → NonePast (subject given.op) (bricks_of given) d → during p c f → here given p c f → more given p c → IsRound (subject given.op) c f d → IsIdle d
      → t.follows p d (Go q) → IsUnlocked (subject given.op) d e → during q e (t.asks q d) → here given q e (t.asks q d) → Someone given (t.asks q d) × more given q e

module _ {P : Type 0} (x : Ctx) (t : Table P) (during : P → Account → Asks → Type 0) (here : Given → P → Account → Asks → Type 0) (more : Given → P → Account → Type 0) (sound : IsSound x t during) (kept : IsKept x t during here) (wakes : Wakes x t during here more) where
  record InHere (given : Given) (p : P) (d : Account) : Type 0 where
    start : Account
    asks : Asks
    isin : IsIn x given start
    none : NonePast (subject given.op) (bricks_of given) start
    dur : during p start asks
    here_is : here given p start asks
    more_is : more given p start
    over : IsRound (subject given.op) start asks d

  on_asks : (given : Given) (p : P) (d : Account) (h : InHere given p d) → IsOn (subject given.op) (bricks_of h.start.given) (h.start.on (subject given.op)).queried h.asks
  on_asks given p d h = subst (λ (v : Given). IsOn (subject given.op) (bricks_of v) (h.start.on (subject given.op)).queried h.asks) (sym h.isin.given_is) (sound.on given p h.start h.asks h.isin h.dur)

  past_round : (given : Given) (p : P) (d : Account) (h : InHere given p d) → NonePast (subject given.op) (bricks_of given) d
  past_round given p d h y le = at_asks (h.asks y) refl (h.over.each y)
    where
      at_asks : (o : Option Request) → h.asks y ≡ o → IsInRound o (at h.start (subject given.op) y) (d.waits y) (at d (subject given.op) y) → ((at d (subject given.op) y).inode ≡ None) × ((at d (subject given.op) y).window ≡ [])
      at_asks None e i = let w = h.none y le in (ap (λ (z : PlaceOf). z.inode) i.1 ∙ w.0, ap (λ (z : PlaceOf). z.window) i.1 ∙ w.1)
      at_asks (Some r) e i = absurd (let w = (sound.on given p h.start h.asks h.isin h.dur).below y r e in omega arith)

  past_unlocked : (g n : ℕ) (d e : Account) → IsUnlocked g d e → NonePast g n d → NonePast g n e
  past_unlocked g n d e u none y le = (at_lock (at e g y).inode refl, u.window y ∙ (none y le).1)
    where
      at_lock : (o : Option Lock) → (at e g y).inode ≡ o → (at e g y).inode ≡ None
      at_lock None z = z
      at_lock (Some lock) z = absurd (none_some lock (sym (none y le).0 ∙ (u.inode y lock z).1))

  -- what a step leaves
  record Leaves (given : Given) (stage : Option P) (z : Account) : Type 0 where
    goes_on : (q : P) → stage ≡ Some q → InHere given q z
    waits : (q : P) → stage ≡ Some q → IsWaiting z
    told : stage ≡ None → is_some z.answer ≡ true

  stage_leaves : (given : Given) (q : P) (z : Account) → InHere given q z → IsWaiting z → Leaves given (Some q) z
  stage_leaves given q z h w = record {
    goes_on = λ s e. subst (λ (p : P). InHere given p z) (some_same q s e) h;
    waits = λ s e. w;
    told = λ e. absurd (none_some q (sym e));
  }

  again_goes : (given : Given) (i : ℕ) (p : P) (c : Account) (so : Bool) → t.again p ≡ so → c.given ≡ given → InHere given p c → InHere given p (sent_all c i (round (bricks_of c.given) (where_so so (t.asks p c))))
  again_goes given i p c false es e h = subst (λ (ss : List Send). InHere given p (sent_all c i ss)) (sym (none_again (bricks_of c.given) (t.asks p c))) h
  again_goes given i p c true es e h =
      let g = subject given.op in
      let m = sound.again given p h.start h.asks c es h.isin h.dur h.over in
      let on = sound.on given p h.start (joined h.asks (t.asks p c)) h.isin m.0 in
      let w = again_sent g i h.start h.asks (t.asks p c) c (bricks_of given) (ap bricks_of e) on m.1 h.over in
      record {
        start = h.start;
        asks = joined h.asks (t.asks p c);
        isin = h.isin;
        none = h.none;
        dur = m.0;
        here_is = kept.again given p h.start h.asks c es h.isin h.dur h.here_is h.over;
        more_is = h.more_is;
        over = subst (λ (m : ℕ). IsRound g h.start (joined h.asks (t.asks p c)) (sent_all c i (round m (t.asks p c)))) (sym (ap bricks_of e)) w.1;
      }

  -- it waits on, or for a brick that it asks again
  again_waits : (given : Given) (i : ℕ) (p : P) (c : Account) (so : Bool) → t.again p ≡ so → c.given ≡ given → InHere given p c → IsWaiting c ⊎ (round (bricks_of c.given) (where_so so (t.asks p c)) ≢ []) → IsWaiting (sent_all c i (round (bricks_of c.given) (where_so so (t.asks p c))))
  again_waits given i p c so es e h (inl w) = (w.0, waits_all c i (round (bricks_of c.given) (where_so so (t.asks p c))) w.0 w.1)
  again_waits given i p c false es e h (inr ne) = absurd (ne (none_again (bricks_of c.given) (t.asks p c)))
  again_waits given i p c true es e h (inr ne) = found (round_asks (bricks_of c.given) (where_so true (t.asks p c)) ne)
    where
      found : Found (bricks_of c.given) (where_so true (t.asks p c)) → IsWaiting (sent_all c i (round (bricks_of c.given) (where_so true (t.asks p c))))
      found w =
          let m = sound.again given p h.start h.asks c es h.isin h.dur h.over in
          let on = sound.on given p h.start (joined h.asks (t.asks p c)) h.isin m.0 in
          let new = m.1.new w.0 w.1 w.3 in
          let speaks = plain_speaks w.1 (on.plain w.0 w.1 (joined_new h.asks (t.asks p c) w.0 w.1 new w.3)) in
          (w.0, round_waits c i (bricks_of c.given) (where_so true (t.asks p c)) w.0 w.1 w.2 w.3 speaks)

  ready_after : (g : ℕ) (c d : Account) (f : Asks) → IsReady g c → IsRound g c f d → IsIdle d → IsReady g d
  ready_after g c d f ready r idle = record { unanswered = r.unanswered ∙ ready.unanswered; idle = idle; heal = r.heal; gfids = r.gfids }

  -- a next stage, which waits for a brick that it asks
  goes_leave : (given : Given) (i : ℕ) (p q : P) (c : Account) → c.given ≡ given → InHere given p c → IsIdle c → asked_again t p c ≡ [] → t.follows p c (Go q)
      → InHere given q (sent_all c i (unlock c (subject given.op) ++ round (bricks_of c.given) (t.asks q c))) × IsWaiting (sent_all c i (unlock c (subject given.op) ++ round (bricks_of c.given) (t.asks q c)))
  goes_leave given i p q c e h idle quiet follows =
      let g = subject given.op in
      let none = past_round given p c h in
      let ready = ready_after g h.start c h.asks h.isin.ready h.over idle in
      let u = unlocked_to g i c ready (λ y l. (none y (let v = ap bricks_of e in omega (arith, v))).0) in
      let d = sent_all c i (unlock c g) in
      let j = i + length (unlock c g) in
      let isin : IsIn x given d = record { given_is = u.is.given ∙ e; of = h.isin.of; ready = u.ready } in
      let dur = sound.goes given p q h.start h.asks c d h.isin h.dur h.over idle follows isin u.is in
      let on_given = sound.on given q d (t.asks q c) isin dur in
      let on = subst (λ (n : ℕ). IsOn g n (d.on g).queried (t.asks q c)) (sym (ap bricks_of isin.given_is)) on_given in
      let w = round_of g j d (t.asks q c) u.ready on (λ k a s part b r fb hb. sound.may given q d (t.asks q c) k a isin dur s part b r fb hb) in
      let n : bricks_of d.given ≡ bricks_of c.given = ap bricks_of u.is.given in
      let ends : sent_all c i (unlock c g ++ round (bricks_of c.given) (t.asks q c)) ≡ sent_all d j (round (bricks_of c.given) (t.asks q c)) = sent_append c i (unlock c g) (round (bricks_of c.given) (t.asks q c)) in
      let new = kept.goes given p q h.start h.asks c d h.isin none h.dur h.here_is h.over idle quiet follows isin u.is in
      let woken = wakes.goes given p q h.start h.asks c d h.isin none h.dur h.here_is h.more_is h.over idle follows u.is dur new in
      let who = woken.0 in (
        record {
          start = d;
          asks = t.asks q c;
          isin = isin;
          none = past_unlocked g (bricks_of given) c d u.is none;
          dur = dur;
          here_is = new;
          more_is = woken.1;
          over = subst (λ (z : Account). IsRound g d (t.asks q c) z) (sym ends) (subst (λ (m : ℕ). IsRound g d (t.asks q c) (sent_all d j (round m (t.asks q c)))) n w.1);
        },
        subst IsWaiting (sym ends) (someone_waits d j (bricks_of c.given) (t.asks q c) who.0 (let l = who.1 in let v = ap bricks_of e in omega (arith, l, v)) who.2 (λ r a. plain_speaks r (on_given.plain who.0 r a))),
      )

  taken : (given : Given) (i : ℕ) (p : P) (c : Account) (step : Step P) (next : Next P) → c.given ≡ given → InHere given p c → IsIdle c → asked_again t p c ≡ [] → t.follows p c next
      → IsTaken (subject given.op) c (λ q. t.asks q c) next step → Leaves given step.stage (with_answer (sent_all c i step.sends) step.answer)
  taken given i p c step (Go q) e h idle quiet follows is =
      let l = goes_leave given i p q c e h idle quiet follows in
      subst (λ (s : Step P). Leaves given s.stage (with_answer (sent_all c i s.sends) s.answer)) (sym is) (stage_leaves given q (sent_all c i (unlock c (subject given.op) ++ round (bricks_of c.given) (t.asks q c))) l.0 l.1)
  taken given i p c step (Say answer) e h idle quiet follows is = subst (λ (s : Step P). Leaves given s.stage (with_answer (sent_all c i s.sends) s.answer)) (sym is) (record {
    goes_on = λ q w. absurd (none_some q w);
    waits = λ q w. absurd (none_some q w);
    told = λ w. refl;
  })

  step_leaves : (given : Given) (i : ℕ) (p : P) (c : Account) (step : Step P) → c.given ≡ given → InHere given p c → Goes t p c step → Leaves given step.stage (with_answer (sent_all c i step.sends) step.answer)
  step_leaves given i p c step e h (inl (waits, is)) = subst (λ (s : Step P). Leaves given s.stage (with_answer (sent_all c i s.sends) s.answer)) (sym is)
      (stage_leaves given p (sent_all c i (round (bricks_of c.given) (where_so (t.again p) (t.asks p c)))) (again_goes given i p c (t.again p) refl e h) (again_waits given i p c (t.again p) refl e h waits))
  step_leaves given i p c step e h (inr (idle, quiet, next, follows, is)) = taken given i p c step next e h idle quiet follows (subst (λ (v : Given). IsTaken (subject v.op) c (λ q. t.asks q c) next step) e is)

  first_leaves : (given : Given) (i : ℕ) (step : Step P) (next : Next P) → IsOf x given → t.starts given next → IsFirst (bricks_of given) (λ q. t.asks q (opened given)) next step → Leaves given step.stage (with_answer (sent_all (opened given) i step.sends) step.answer)
  first_leaves given i step (Go q) of starts is =
      let g = subject given.op in
      let c = opened given in
      let ready = opened_ready given g of.kept in
      let isin : IsIn x given c = record { given_is = refl; of = of; ready = ready } in
      let dur = sound.begins given q of starts in
      let on = sound.on given q c (t.asks q c) isin dur in
      let w = round_of g i c (t.asks q c) ready on (λ h a s part b r fb hb. sound.may given q c (t.asks q c) h a isin dur s part b r fb hb) in
      let woken = wakes.begins given q of starts in
      let who = woken.0 in
      subst (λ (s : Step P). Leaves given s.stage (with_answer (sent_all c i s.sends) s.answer)) (sym is) (stage_leaves given q (sent_all c i (round (bricks_of given) (t.asks q c))) (record {
        start = c;
        asks = t.asks q c;
        isin = isin;
        none = λ y le. (ap (λ (p : PlaceOf). p.inode) (opened_place given g y of.kept), ap (λ (p : PlaceOf). p.window) (opened_place given g y of.kept));
        dur = dur;
        here_is = kept.begins given q of starts;
        more_is = woken.1;
        over = w.1;
      }) (someone_waits c i (bricks_of given) (t.asks q c) who.0 who.1 who.2 (λ r a. plain_speaks r (on.plain who.0 r a))))
  first_leaves given i step (Say answer) of starts is = subst (λ (s : Step P). Leaves given s.stage (with_answer (sent_all (opened given) i s.sends) s.answer)) (sym is) (record {
    goes_on = λ q w. absurd (none_some q w);
    waits = λ q w. absurd (none_some q w);
    told = λ w. refl;
  })

  by_turns : (given : Given) → IsOf x given → (ts : List (Turned P)) (es : List Own) (stage : Option P) → IsByTurns (Begins t) (Goes t) given ts es stage → Leaves given stage (account given es)
  by_turns given of [] es stage (i, step, begins, entries, is) =
      subst (λ (o : Option P). Leaves given o (account given es)) (sym is) (subst (λ (z : Account). Leaves given step.stage z) (sym (ap (account given) entries ∙ step_account (opened given) i step.sends step.answer)) (first_leaves given i step begins.0 of begins.1 begins.2))
  by_turns given of (turn ∷ ts) es stage (earlier, before, by, outside, went, entries, is) =
      let h = (by_turns given of ts earlier (Some before) by).goes_on before refl in
      let a = account given earlier in
      let c = after a turn.what in
      let now : InHere given before c = record { start = h.start; asks = h.asks; isin = h.isin; none = h.none; dur = h.dur; here_is = h.here_is; more_is = h.more_is; over = outside_round (subject given.op) h.start a h.asks turn.what (on_asks given before a h) h.over outside } in
      let l = step_leaves given turn.number before c turn.step (after_given a turn.what ∙ account_given given earlier) now went in
      subst (λ (o : Option P). Leaves given o (account given es)) (sym is)
      (subst (λ (z : Account). Leaves given turn.step.stage z) (sym (ap (account given) entries ∙ (account_append (opened given) earlier (turn.what ∷ step_entries turn.number turn.step) ∙ step_account c turn.number turn.step.sends turn.step.answer))) l)

  -- where the call has no answer it waits for a brick
  pub by_table : (given : Given) (es : List Own) (stage : Option P) → IsOf x given → IsByTable (Begins t) (Goes t) given es stage → (account given es).answer ≡ None → IsWaiting (account given es)
  by_table given es stage of (ts, by) none = at stage (by_turns given of ts es stage by)
    where
      unanswered : (o : Option Answer) → o ≡ None → is_some o ≡ true → ⊥
      unanswered None e s = absurd (cc)
      unanswered (Some a) e s = absurd (cc)

      at : (o : Option P) → Leaves given o (account given es) → IsWaiting (account given es)
      at None l = absurd (unanswered (account given es).answer none (l.told refl))
      at (Some q) l = l.waits q refl
