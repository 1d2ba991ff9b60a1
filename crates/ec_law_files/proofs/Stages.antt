-- What a table's calls send, stage by stage: one making for all that puts stripes.
use Rattle.std.proofs.Common.{◌≡◌, ◌⊎◌, inl, inr, ⊎_elim, ℕ, ◌+◌, ◌≤◌, Bool, true, false, cond, ◌==◌, refl, sym, ◌∙◌, ap, subst, arith, List, [], ◌∷◌, ◌++◌, Option, Some, None}
use Rattle.ec_conduct.specs.Account.{Account, Exchange, Lock, Place, Wait, account_from, after, at, gfid_of, heard_by, left_by, noted, over, released, sent, without}
use Rattle.ec_conduct.specs.Conduct.{is_release}
use Rattle.ec_conduct.specs.Given.{Given, bricks_of}
use Rattle.ec_conduct.specs.Opened.{account, opened}
use Rattle.ec_conduct.specs.Own.{Own, Sends, Hears, GivesUp, Answers}
use Rattle.ec_conduct.specs.Table.{IsByTable, IsByTurns, IsFromOutside, Send, Step, Turned, entries_of, sent_all, step_entries, with_answer}
use Rattle.ec_conduct.proofs.Fronts.{account_append}
use Rattle.ec_conduct.proofs.Steps.{step_account}
use Rattle.ec_wire.specs.declared.answer.Answer.{Answer}
use Rattle.ec_wire.specs.declared.reply.Reply.{Reply}
use Rattle.ec_wire.specs.declared.request.Request.{Request}
use Rattle.ec_wire.specs.declared.request.Request.TheVariants.{Release}
use Rattle.ec_txn.specs.declared.ctx.Ctx.{Ctx}
use Rattle.ec_txn.specs.declared.stage.Next.{Next}
use Rattle.ec_txn.specs.declared.stage.Next.TheVariants.{Go, Say}
use Rattle.ec_txn.specs.Rounds.{AllGood, Asks, IsFirst, IsGood, IsIdle, IsOn, IsReady, IsRound, IsTaken, asked_place, give_back, round, subject, unlock, where_so}
use Rattle.ec_txn.specs.Tables.{Begins, Goes, InStage, IsIn, IsOf, IsSound, Table}
use Rattle.ec_txn.proofs.Hearing.{asked_at, over_does, round_over}
use Rattle.ec_txn.proofs.Releasing.{unlocked_to}
use Rattle.ec_txn.proofs.Rounds.{each_put, round_of}
use Rattle.ec_txn.proofs.Sending.{places, put_at, put_other, send_does}
use Rattle.ec_txn.proofs.Steps.{good_given, opened_place, opened_ready, step_leaves}
use Rattle.ec_law_calls.proofs.Asking.{where_is}
use Rattle.ec_law_calls.proofs.Clean.{Each}
use Rattle.ec_law_calls.proofs.Sends.{IsRelease, each_append, each_round, each_weaker, give_back_releases, unlock_releases}
use Rattle.ec_law_files.specs.Stripes.{EachSent, IsMade, IsOwn, Making}
use Rattle.ec_law_files.proofs.Sent.{IsSo, all_given, is_told, sent_any, sent_both, sent_outside, sent_parts, sent_stripes, untold}

some_is : {X : Type 0} (a b : X) → Some a ≡ Some b → a ≡ b
some_is a b e = cc

none_some : {X : Type 0} (a : X) → None ≡ Some a → ⊥
none_some a e = cc

-- ## No lock past the last brick

abbrev pub NonePast : ℕ → ℕ → Account → Type 0
NonePast g n c = (y : ℕ) → n ≤ y → (at c g y).inode ≡ None

release_untold : (x : ℕ) (r : Request) → is_release r ≡ true → is_told r ≡ false
release_untold x (Release g grant) e = refl
release_untold x r e = absurd (cc)

sent_past : (g n : ℕ) (c : Account) (b i : ℕ) (r : Request) → IsGood g c b r → bricks_of c.given ≡ n → NonePast g n c → NonePast g n (sent c b i r)
sent_past g n c b i r good same h y le = ⊎_elim plain (λ e. release r e good.of) good.plain
  where
    differ : y ≡ b → ⊥
    differ e = let l = good.below in absurd (omega (arith, l, e, same, le))

    plain : Rattle.ec_txn.specs.Rounds.is_plain r ≡ true → (at (sent c b i r) g y).inode ≡ None
    plain p = ap (λ (z : Place). z.inode) ((send_does c g b i r good.of p good.first).place y ∙ put_other (places c g) b y (asked_place (at c g b) i r) differ) ∙ h y le

    gone : (o : Option Lock) (grant : ℕ) → o ≡ None → without o grant ≡ None
    gone None grant e = refl
    gone (Some lock) grant e = absurd (none_some lock (sym e))

    release : (r : Request) → is_release r ≡ true → gfid_of r ≡ Some g → (at (sent c b i r) g y).inode ≡ None
    release (Release x grant) e of =
        let on : (sent c b i (Release x grant)).on x.0 ≡ Rattle.ec_conduct.specs.Account.with_place (c.on x.0) b (released (at c x.0 b) grant) = put_at c.on x.0 _ in
        let here : (at (sent c b i (Release x grant)) g y) ≡ (at c g y) =
        subst (λ (z : ℕ). at (sent c b i (Release x grant)) z y ≡ at c z y) (some_is x.0 g of) (ap (λ (d : Rattle.ec_conduct.specs.Account.Dealings). d.place y) on ∙ put_other (places c x.0) b y (released (at c x.0 b) grant) differ) in
        ap (λ (z : Place). z.inode) here ∙ h y le
    release r e of = absurd (cc)

all_past : (g n : ℕ) (c : Account) (i : ℕ) (ss : List Send) → AllGood g c i ss → bricks_of c.given ≡ n → NonePast g n c → NonePast g n (sent_all c i ss)
all_past g n c i [] good same h = h
all_past g n c i (s ∷ ss) good same h = all_past g n (sent c s.0 i s.1) (i + 1) ss good.1 (ap bricks_of (good_given g c i (s ∷ []) (good.0, tt)) ∙ same) (sent_past g n c s.0 i s.1 good.0 same h)

noted_none : (p : Place) (e : Exchange) → p.inode ≡ None → (noted p e).inode ≡ None
noted_none p e h = ap (λ (o : Option Lock). Rattle.ec_conduct.specs.Account.granted o e) h

over_past : (g n : ℕ) (c : Account) (b : ℕ) (e : Exchange) → gfid_of e.request ≡ Some g → NonePast g n c → NonePast g n (over c b e)
over_past g n c b e of h y le = ap (λ (z : Place). z.inode) ((over_does c g b e of).place y) ∙ each_put (λ (v : ℕ) (z : Place). n ≤ v → z.inode ≡ None) (places c g) b (noted (at c g b) e) (λ l. noted_none (at c g b) e (h b l)) (λ v ne. h v) y le

-- ## One step

module _ {S : Type 0} (x : Ctx) (t : Table S) (during : S → Account → Asks → Type 0) (sound : IsSound x t during) (given : Given) where
  -- what is so of an account of the call in a stage
  pub record StandsIn (p : S) (c : Account) : Type 0 where
    pub stage : InStage x given (during p) c
    pub given_is : c.given ≡ given
    pub past : NonePast (subject given.op) (bricks_of given) c

  over_stands : (p : S) (c : Account) (b : ℕ) (w : Wait) (reply : Option Reply) → c.waits b ≡ Some w → StandsIn p c → StandsIn p (over c b (record { number = w.number; request = w.request; reply = reply }))
  over_stands p c b w reply wait s =
      let g = subject given.op in
      let c0 = s.stage.0 in
      let f = s.stage.1 in
      let isin = s.stage.2 in
      let on : IsOn g (bricks_of c0.given) (c0.on g).queried f = subst (λ (n : ℕ). IsOn g n (c0.on g).queried f) (sym (ap bricks_of isin.given_is)) (sound.on given p c0 f isin s.stage.3) in
      let of : gfid_of w.request ≡ Some g = on.of b w.request (asked_at g b c0 c f w s.stage.4 wait).0 in
      record {
        stage = (c0, f, isin, s.stage.3, round_over g b c0 c f w reply on s.stage.4 wait);
        given_is = (over_does c g b (record { number = w.number; request = w.request; reply = reply }) of).given ∙ s.given_is;
        past = over_past g (bricks_of given) c b (record { number = w.number; request = w.request; reply = reply }) of s.past;
      }

  outside_stands : (p : S) (c : Account) (e : Own) → IsFromOutside e → StandsIn p c → StandsIn p (after c e)
  outside_stands p c (Sends b i r) out s = absurd out
  outside_stands p c (Hears b i reply) out s = by (c.waits b) refl
    where
      by : (o : Option Wait) → c.waits b ≡ o → StandsIn p (heard_by c b o i reply)
      by None e = s
      by (Some w) e = choose (w.number == i)
        where
          choose : (u : Bool) → StandsIn p (cond u (Rattle.ec_conduct.specs.Account.told c b w reply) c)
          choose true = over_stands p c b w (Some reply) e s
          choose false = s
  outside_stands p c (GivesUp b i) out s = by (c.waits b) refl
    where
      by : (o : Option Wait) → c.waits b ≡ o → StandsIn p (left_by c b o i)
      by None e = s
      by (Some w) e = choose (w.number == i)
        where
          choose : (u : Bool) → StandsIn p (cond u (Rattle.ec_conduct.specs.Account.gave_up c b w) c)
          choose true = over_stands p c b w None e s
          choose false = s
  outside_stands p c (Answers answer) out s = absurd out

  -- a request that is the call's own, whatever it makes, at each account
  abbrev pub IsFree : ℕ → Request → Type 0
  IsFree y r = (w : Making) (c : Account) → c.given ≡ given → IsOwn w c y r

  -- something is said of each request that a stage asks, and it is the call's own, or each is free
  abbrev pub Asked : Making → S → Account → Account → Type 0
  Asked w q c d = ((y : ℕ) (r : Request) → t.asks q c y ≡ Some r → (is_told r ≡ true) × IsSo (IsOwn w) d y r) ⊎ ((y : ℕ) (r : Request) → t.asks q c y ≡ Some r → IsFree y r)

  -- The early stages put no stripes; the first that isn't early tells what is made, and those that follow fit that.
  pub record MakesStripes : Type 1 where
    pub early : S → Bool
    pub fits : Making → S → Type 0
    pub again : (p : S) (c : Account) (y : ℕ) (r : Request) → t.again p ≡ true → t.asks p c y ≡ Some r → IsFree y r
    pub starts : (q : S) → t.starts given (Go q) → early q ≡ true
    pub quiet : (q : S) (c : Account) (y : ℕ) (r : Request) → early q ≡ true → t.asks q c y ≡ Some r → IsFree y r
    pub goes : (q : S) (c d : Account) → early q ≡ false → c.given ≡ given → d.given ≡ given → during q d (t.asks q c) → (w : Making) × fits w q × Asked w q c d
    pub further : (w : Making) (p q : S) (c d : Account) → fits w p → t.follows p c (Go q) → c.given ≡ given → d.given ≡ given → during q d (t.asks q c) → fits w q × Asked w q c d

  module _ (m : MakesStripes) where
    -- of own entries that end in this stage
    abbrev IsUnmade : Account → List Own → Option S → Type 0
    IsUnmade c es stage = ((w : Making) → EachSent (IsOwn w) c es) × ((p : S) → stage ≡ Some p → m.early p ≡ true)

    abbrev IsMadeBy : Making → Account → List Own → Option S → Type 0
    IsMadeBy w c es stage = EachSent (IsOwn w) c es × ((p : S) → stage ≡ Some p → m.fits w p)

    abbrev IsMadeSo : Account → List Own → Option S → Type 0
    IsMadeSo c es stage = IsUnmade c es stage ⊎ ((w : Making) × IsMadeBy w c es stage)

    none_sent : (c : Account) (i : ℕ) (ss : List Send) (answer : Option Answer) → c.given ≡ given → Each IsFree ss → (w : Making) → EachSent (IsOwn w) c (entries_of i ss answer)
    none_sent c i ss answer is h w = sent_any (IsOwn w) given c i ss answer is (each_weaker IsFree (λ y r. (c : Account) → c.given ≡ given → IsOwn w c y r) (λ y r e c is. e w c is) ss h)

    releases : (ss : List Send) → Each IsRelease ss → Each IsFree ss
    releases ss h = each_weaker IsRelease IsFree (λ y r e w c is. untold w c y r (release_untold y r e)) ss h

    so_asked : (so : Bool) (f : Asks) (y : ℕ) (r : Request) → where_so so f y ≡ Some r → so ≡ true
    so_asked true f y r e = refl
    so_asked false f y r e = absurd (none_some r e)

    again_sent : (p : S) (c : Account) (i n : ℕ) → c.given ≡ given → (w : Making) → EachSent (IsOwn w) c (entries_of i (round n (where_so (t.again p) (t.asks p c))) None)
    again_sent p c i n is w = none_sent c i (round n (where_so (t.again p) (t.asks p c))) None is (each_round IsFree n (where_so (t.again p) (t.asks p c)) (λ y r lt e. m.again p c y r (so_asked (t.again p) (t.asks p c) y r e) (where_is (t.again p) (t.asks p c) y r e))) w

    last_sent : (c : Account) (i : ℕ) (g : ℕ) (answer : Answer) → c.given ≡ given → (w : Making) → EachSent (IsOwn w) c (entries_of i (unlock c g ++ give_back c g) (Some answer))
    last_sent c i g answer is w = none_sent c i (unlock c g ++ give_back c g) (Some answer) is (releases (unlock c g ++ give_back c g) (each_append IsRelease (unlock c g) (give_back c g) (unlock_releases c g) (give_back_releases c g))) w

    unlock_sent : (c : Account) (i g : ℕ) → c.given ≡ given → (w : Making) → EachSent (IsOwn w) c (entries_of i (unlock c g) None)
    unlock_sent c i g is w = none_sent c i (unlock c g) None is (releases (unlock c g) (unlock_releases c g)) w

    -- the sends of a stage that begins, after the releases
    asked_sent : (w : Making) (q : S) (c d : Account) (j n : ℕ) → d.given ≡ given → Asked w q c d → EachSent (IsOwn w) d (entries_of j (round n (t.asks q c)) None)
    asked_sent w q c d j n is (inl all) = sent_stripes (IsOwn w) d d j (round n (t.asks q c)) None refl refl (each_round (λ y r. (is_told r ≡ true) × IsSo (IsOwn w) d y r) n (t.asks q c) (λ y r lt e. all y r e))
    asked_sent w q c d j n is (inr none) = none_sent d j (round n (t.asks q c)) None is (each_round IsFree n (t.asks q c) (λ y r lt e. none y r e)) w

    begun_sent : (w : Making) (q : S) (c : Account) (i g n : ℕ) → c.given ≡ given → Asked w q c (sent_all c i (unlock c g)) → EachSent (IsOwn w) c (entries_of i (unlock c g ++ round n (t.asks q c)) None)
    begun_sent w q c i g n is asked = sent_parts (IsOwn w) c i (unlock c g) (round n (t.asks q c)) None (unlock_sent c i g is w) (λ j. asked_sent w q c (sent_all c i (unlock c g)) j n (all_given c i (unlock c g) ∙ is) asked)

    -- what holds as a stage begins
    during_next : (p q : S) (c : Account) (i : ℕ) → StandsIn p c → IsIdle c → t.follows p c (Go q) → during q (sent_all c i (unlock c (subject given.op))) (t.asks q c) × ((sent_all c i (unlock c (subject given.op))).given ≡ given)
    during_next p q c i s idle follows =
        let g = subject given.op in
        let c0 = s.stage.0 in
        let isin = s.stage.2 in
        let r = s.stage.4 in
        let ready : IsReady g c = record { unanswered = r.unanswered ∙ isin.ready.unanswered; idle = idle; heal = r.heal; gfids = r.gfids } in
        let u = unlocked_to g i c ready (λ y l. s.past y (let v = ap bricks_of s.given_is in omega (arith, v, l))) in
        let d = sent_all c i (unlock c g) in
        let in_d : IsIn x given d = record { given_is = u.is.given ∙ s.given_is; of = isin.of; ready = u.ready } in
        (sound.goes given p q c0 s.stage.1 c d isin s.stage.3 r idle follows in_d u.is, in_d.given_is)

    some_next : (o : S) (q : S) → Some o ≡ Some q → o ≡ q
    some_next o q e = cc

    none_next : (q : S) → None ≡ Some q → ⊥
    none_next q e = cc

    -- a step from an early stage
    early_step : (p : S) (c : Account) (i : ℕ) (step : Step S) → StandsIn p c → m.early p ≡ true → Goes t p c step → IsMadeSo c (step_entries i step) step.stage
    early_step p c i step s early (inl (waits, is)) =
        subst (λ (z : Step S). IsMadeSo c (step_entries i z) z.stage) (sym is)
        (inl (again_sent p c i (bricks_of c.given) s.given_is, λ q e. subst (λ (z : S). m.early z ≡ true) (some_next p q e) early))
    early_step p c i step s early (inr (idle, none, next, follows, is)) = by next follows is
      where
        g : ℕ
        g = subject c.given.op

        same : subject given.op ≡ g
        same = ap (λ (z : Given). subject z.op) (sym s.given_is)

        by : (next : Next S) → t.follows p c next → IsTaken (subject c.given.op) c (λ q. t.asks q c) next step → IsMadeSo c (step_entries i step) step.stage
        by (Say answer) follows is =
            subst (λ (z : Step S). IsMadeSo c (step_entries i z) z.stage) (sym is)
            (inl (last_sent c i (subject c.given.op) answer s.given_is, λ q e. absurd (none_next q e)))
        by (Go q) follows is = subst (λ (z : Step S). IsMadeSo c (step_entries i z) z.stage) (sym is) (choose (m.early q) refl)
          where
            choose : (u : Bool) → m.early q ≡ u → IsMadeSo c (entries_of i (unlock c (subject c.given.op) ++ round (bricks_of c.given) (t.asks q c)) None) (Some q)
            choose true e = inl (
              λ w. begun_sent w q c i (subject c.given.op) (bricks_of c.given) s.given_is (inr (λ y r a. m.quiet q c y r e a)),
              λ o f. subst (λ (z : S). m.early z ≡ true) (some_next q o f) e,
            )
            choose false e =
                let k = during_next p q c i s idle follows in
                let d = subst (λ (h : ℕ). during q (sent_all c i (unlock c h)) (t.asks q c) × ((sent_all c i (unlock c h)).given ≡ given)) same k in
                let w = m.goes q c (sent_all c i (unlock c (subject c.given.op))) e s.given_is d.1 d.0 in
                inr (w.0, (begun_sent w.0 q c i (subject c.given.op) (bricks_of c.given) s.given_is w.2, λ o f. subst (λ (z : S). m.fits w.0 z) (some_next q o f) w.1))

    -- a step after it
    late_step : (w : Making) (p : S) (c : Account) (i : ℕ) (step : Step S) → StandsIn p c → m.fits w p → Goes t p c step → IsMadeBy w c (step_entries i step) step.stage
    late_step w p c i step s fits (inl (waits, is)) =
        subst (λ (z : Step S). IsMadeBy w c (step_entries i z) z.stage) (sym is)
        (again_sent p c i (bricks_of c.given) s.given_is w, λ q e. subst (λ (z : S). m.fits w z) (some_next p q e) fits)
    late_step w p c i step s fits (inr (idle, none, next, follows, is)) = by next follows is
      where
        same : subject given.op ≡ subject c.given.op
        same = ap (λ (z : Given). subject z.op) (sym s.given_is)

        by : (next : Next S) → t.follows p c next → IsTaken (subject c.given.op) c (λ q. t.asks q c) next step → IsMadeBy w c (step_entries i step) step.stage
        by (Say answer) follows is =
            subst (λ (z : Step S). IsMadeBy w c (step_entries i z) z.stage) (sym is)
            (last_sent c i (subject c.given.op) answer s.given_is w, λ q e. absurd (none_next q e))
        by (Go q) follows is =
            let k = during_next p q c i s idle follows in
            let d = subst (λ (h : ℕ). during q (sent_all c i (unlock c h)) (t.asks q c) × ((sent_all c i (unlock c h)).given ≡ given)) same k in
            let f = m.further w p q c (sent_all c i (unlock c (subject c.given.op))) fits follows s.given_is d.1 d.0 in
            subst (λ (z : Step S). IsMadeBy w c (step_entries i z) z.stage) (sym is)
            (begun_sent w q c i (subject c.given.op) (bricks_of c.given) s.given_is f.1, λ o e. subst (λ (z : S). m.fits w z) (some_next q o e) f.0)

    -- ## All steps

    step_stands : (p : S) (c : Account) (i : ℕ) (step : Step S) → StandsIn p c → Goes t p c step → (q : S) → step.stage ≡ Some q → StandsIn q (account_from c (step_entries i step))
    step_stands p c i step s went q e =
        let l = step_leaves x t during sound given i p c step s.given_is s.stage s.past went in
        let quiet : step.answer ≡ None = l.silent q e in
        let ends : account_from c (step_entries i step) ≡ sent_all c i step.sends = step_account c i step.sends step.answer ∙ ap (with_answer (sent_all c i step.sends)) quiet in
        subst (StandsIn q) (sym ends) (record {
          stage = l.goes_on q e;
          given_is = good_given (subject given.op) c i step.sends l.good ∙ s.given_is;
          past = all_past (subject given.op) (bricks_of given) c i step.sends l.good (ap bricks_of s.given_is) s.past;
        })

    record Sofar (es : List Own) (stage : Option S) : Type 0 where
      stands : (p : S) → stage ≡ Some p → StandsIn p (account given es)
      made : IsMadeSo (opened given) es stage

    joined : (es : List Own) (e : Own) (fs : List Own) → account given (es ++ e ∷ fs) ≡ account_from (after (account given es) e) fs
    joined es e fs = account_append (opened given) es (e ∷ fs)

    module _ (of : IsOf x given) where
      first : (i : ℕ) (step : Step S) (next : Next S) → t.starts given next → IsFirst (bricks_of given) (λ q. t.asks q (opened given)) next step → Sofar (step_entries i step) step.stage
      first i step (Say answer) starts is = subst (λ (z : Step S). Sofar (step_entries i z) z.stage) (sym is) (record {
        stands = λ q e. absurd (none_next q e);
        made = inl (λ w. tt, λ q e. absurd (none_next q e));
      })
      first i step (Go q) starts is =
          let g = subject given.op in
          let c = opened given in
          let ready = opened_ready given g of.kept in
          let isin : IsIn x given c = record { given_is = refl; of = of; ready = ready } in
          let dur = sound.begins given q of starts in
          let w = round_of g i c (t.asks q c) ready (sound.on given q c (t.asks q c) isin dur) (λ h a s part b r fb hb. sound.may given q c (t.asks q c) h a isin dur s part b r fb hb) in
          let early = m.starts q starts in
          let ends : account_from c (entries_of i (round (bricks_of given) (t.asks q c)) None) ≡ sent_all c i (round (bricks_of given) (t.asks q c)) = step_account c i (round (bricks_of given) (t.asks q c)) None in
          let past : NonePast g (bricks_of given) c = λ y le. ap (λ (p : Place). p.inode) (opened_place given g y of.kept) in
          subst (λ (z : Step S). Sofar (step_entries i z) z.stage) (sym is) (record {
            stands = λ o e. subst (λ (z : S). StandsIn z (account given (entries_of i (round (bricks_of given) (t.asks q c)) None))) (some_next q o e) (subst (StandsIn q) (sym ends) (record {
              stage = (c, t.asks q c, isin, dur, w.1);
              given_is = good_given g c i (round (bricks_of given) (t.asks q c)) w.0;
              past = all_past g (bricks_of given) c i (round (bricks_of given) (t.asks q c)) w.0 refl past;
            }));
            made = inl (
              λ v. none_sent c i (round (bricks_of given) (t.asks q c)) None refl (each_round IsFree (bricks_of given) (t.asks q c) (λ y r lt e. m.quiet q c y r early e)) v,
              λ o e. subst (λ (z : S). m.early z ≡ true) (some_next q o e) early,
            );
          })

      by_turns : (ts : List (Turned S)) (es : List Own) (stage : Option S) → IsByTurns (Begins t) (Goes t) given ts es stage → Sofar es stage
      by_turns [] es stage (i, step, begins, entries, is) = subst (λ (xs : List Own). Sofar xs stage) (sym entries) (subst (Sofar (step_entries i step)) (sym is) (first i step begins.0 begins.1 begins.2))
      by_turns (turn ∷ ts) es stage (earlier, before, by, outside, went, entries, is) = subst (λ (xs : List Own). Sofar xs stage) (sym entries) (subst (Sofar (earlier ++ turn.what ∷ step_entries turn.number turn.step)) (sym is) (go (by_turns ts earlier (Some before) by)))
        where
          c : Account
          c = after (account given earlier) turn.what

          go : Sofar earlier (Some before) → Sofar (earlier ++ turn.what ∷ step_entries turn.number turn.step) turn.step.stage
          go sofar = record {
            stands = λ q e. subst (StandsIn q) (sym (joined earlier turn.what (step_entries turn.number turn.step))) (step_stands before c turn.number turn.step s went q e);
            made = grow sofar.made;
          }
            where
              s : StandsIn before c
              s = outside_stands before (account given earlier) turn.what outside (sofar.stands before refl)

              both : (w : Making) → EachSent (IsOwn w) (opened given) earlier → EachSent (IsOwn w) c (step_entries turn.number turn.step) → EachSent (IsOwn w) (opened given) (earlier ++ turn.what ∷ step_entries turn.number turn.step)
              both w h k = sent_both (IsOwn w) (opened given) earlier (turn.what ∷ step_entries turn.number turn.step) h (sent_outside (IsOwn w) (account given earlier) turn.what (step_entries turn.number turn.step) outside k)

              grow : IsMadeSo (opened given) earlier (Some before) → IsMadeSo (opened given) (earlier ++ turn.what ∷ step_entries turn.number turn.step) turn.step.stage
              grow (inl h) = ⊎_elim
                  (λ k. inl (λ w. both w (h.0 w) (k.0 w), k.1))
                  (λ k. inr (k.0, (both k.0 (h.0 k.0) k.1.0, k.1.1)))
                  (early_step before c turn.number turn.step s (h.1 before refl) went)
              grow (inr h) = let k = late_step h.0 before c turn.number turn.step s (h.1.1 before refl) went in inr (h.0, (both h.0 h.1.0 k.0, k.1))

      pub by_table : (w : Making) (es : List Own) (stage : Option S) → IsByTable (Begins t) (Goes t) given es stage → IsMade given es
      by_table w es stage (ts, by) = ⊎_elim (λ h. (w, h.0 w)) (λ h. (h.0, h.1.0)) (by_turns ts es stage by).made
