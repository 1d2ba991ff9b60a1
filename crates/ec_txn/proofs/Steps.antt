-- A call that takes a step by a sound table keeps the conduct, and stands for one step more.
use Rattle.std.proofs.Common.{◌≡◌, ◌⊎◌, inl, inr, ⊎_elim, ℕ, ◌+◌, ◌<◌, ◌≤◌, ◌==◌, Bool, true, false, cond, refl, sym, ◌∙◌, ap, subst, List, [], ◌∷◌, ◌++◌, length, arith, Option, Some, None, eq-eqb, append_assoc, vec_len}
use Rattle.std.specs.Prelude.{All, is_some}
use Rattle.std.proofs.Math.Path.{fun_ext}
use Rattle.std.proofs.lemmas.Bool.{cases_Bool, cases_lt}
use Rattle.std.proofs.lemmas.List.Elements.{All-nil, All-cons}
use Rattle.ec_brick.specs.Fit.{IsFit}
use Rattle.ec_conduct.specs.Account.{Account, Lock, Place as PlaceOf, Wait, account_from, after, at, gave_up, sent, told}
use Rattle.ec_conduct.specs.Conduct.{IsEarned, Keeps, KeepsFrom, May, MayAnswer}
use Rattle.ec_conduct.specs.Given.{Given, bricks_of}
use Rattle.ec_conduct.specs.Opened.{account, kept_dealings, kept_gfids, no_place as no_place_of, opened}
use Rattle.ec_conduct.specs.Own.{Own, Sends, Hears, GivesUp, Answers}
use Rattle.ec_conduct.specs.Table.{AllMay, IsByTable, IsFromOutside, MayEnd, Send, Step, Turned, entries_of, sent_all, with_answer}
use Rattle.ec_conduct.proofs.Fronts.{account_append, join_from}
use Rattle.ec_conduct.proofs.Steps.{step_account, step_keeps}
use Rattle.ec_wire.specs.declared.answer.Answer.{Answer}
use Rattle.ec_wire.specs.declared.request.Request.{Request}
use Rattle.ec_txn.specs.declared.ctx.Ctx.{Ctx}
use Rattle.ec_txn.specs.declared.known.Held.{Held}
use Rattle.ec_txn.specs.declared.known.Known.{Known}
use Rattle.ec_txn.specs.declared.known.Place.{Place}
use Rattle.ec_txn.specs.declared.stage.Next.{Next}
use Rattle.ec_txn.specs.declared.stage.Next.TheVariants.{Go, Say}
use Rattle.ec_txn.specs.Digest.{Shows, all_sent, digest, held, no_place, pending, place_at}
use Rattle.ec_txn.specs.Rounds.{AllGood, Asks, IsFirst, IsGood, IsIdle, IsListed, IsOn, IsReady, IsReleased, IsRound, IsSent, IsTaken, IsUnlocked, IsWaiting, give_back, joined, round, subject, unlock, where_so}
use Rattle.ec_txn.specs.Steps.{Adds}
use Rattle.ec_txn.specs.Tables.{Begins, Goes, InStage, IsIn, IsOf, IsSound, Stands, Table, TakesFirst, TakesStep}
use Rattle.ec_txn.proofs.Listed.{IsLetGo, holds_nothing}
use Rattle.ec_txn.proofs.Lists.{sent_append}
use Rattle.ec_txn.proofs.Places.{past_last}
use Rattle.ec_txn.proofs.Releasing.{last_to, unlocked_to}
use Rattle.ec_txn.proofs.Rounds.{good_append, round_of}
use Rattle.ec_txn.proofs.Again.{again_sent, none_again}
use Rattle.ec_txn.proofs.Shown.{ShowsAll, all_shows, all_tell}
use Rattle.ec_txn.specs.Replies.{TellsAll, last_reply, reply_at}
use Rattle.ec_txn.specs.declared.replies.Replies.{Replies}

-- what good sends are

pub good_may : (g : ℕ) (c : Account) (i : ℕ) (ss : List Send) → AllGood g c i ss → AllMay c i ss
good_may g c i [] h = tt
good_may g c i (s ∷ ss) h = (h.0.may, good_may g (sent c s.0 i s.1) (i + 1) ss h.1)

sent_given : (c : Account) (g b i : ℕ) (r : Request) → IsGood g c b r → (sent c b i r).given ≡ c.given
sent_given c g b i r good = ⊎_elim (λ p. (Rattle.ec_txn.proofs.Sending.send_keeps c b i r p).given) (λ e. Rattle.ec_txn.proofs.Shown.release_given c b i r e) good.plain

pub good_below : (g n : ℕ) (c : Account) (i : ℕ) (ss : List Send) → bricks_of c.given ≡ n → AllGood g c i ss → All (λ (s : Send). s.0 < n) ss
good_below g n c i [] e h = All-nil (λ (s : Send). s.0 < n)
good_below g n c i (s ∷ ss) e h = All-cons (λ (s : Send). s.0 < n) s ss (subst (λ (m : ℕ). s.0 < m) e h.0.below) (good_below g n (sent c s.0 i s.1) (i + 1) ss (ap bricks_of (sent_given c g s.0 i s.1 h.0) ∙ e) h.1)

pub good_fit : (g : ℕ) (c : Account) (i : ℕ) (ss : List Send) → AllGood g c i ss → All (λ (s : Send). IsFit s.1) ss
good_fit g c i [] h = All-nil (λ (s : Send). IsFit s.1)
good_fit g c i (s ∷ ss) h = All-cons (λ (s : Send). IsFit s.1) s ss h.0.fit (good_fit g (sent c s.0 i s.1) (i + 1) ss h.1)

pub good_given : (g : ℕ) (c : Account) (i : ℕ) (ss : List Send) → AllGood g c i ss → (sent_all c i ss).given ≡ c.given
good_given g c i [] h = refl
good_given g c i (s ∷ ss) h = good_given g (sent c s.0 i s.1) (i + 1) ss h.1 ∙ sent_given c g s.0 i s.1 h.0

-- what a step of a call leaves
pub record Leaves {P : Type 0} (x : Ctx) (given : Given) (during : P → Account → Asks → Type 0) (i : ℕ) (c : Account) (step : Step P) : Type 0 where
  pub good : AllGood (subject given.op) c i step.sends
  pub may : MayEnd (sent_all c i step.sends) step.answer
  pub unanswered : (sent_all c i step.sends).answer ≡ None
  pub goes_on : (q : P) → step.stage ≡ Some q → InStage x given (during q) (sent_all c i step.sends)
  pub ended : step.stage ≡ None → IsIdle (sent_all c i step.sends)
  pub silent : (q : P) → step.stage ≡ Some q → step.answer ≡ None
  pub released : is_some step.answer ≡ true → IsLetGo (subject given.op) (sent_all c i step.sends)

ready_after : (g : ℕ) (c d : Account) (f : Asks) → IsReady g c → IsRound g c f d → IsIdle d → IsReady g d
ready_after g c d f ready r idle = record { unanswered = r.unanswered ∙ ready.unanswered; idle = idle; heal = r.heal; gfids = r.gfids }

some_same : {A : Type 0} (a b : A) → Some a ≡ Some b → a ≡ b
some_same a b e = cc

module _ {P : Type 0} (x : Ctx) (t : Table P) (during : P → Account → Asks → Type 0) (sound : IsSound x t during) where
  goes_good : (given : Given) (i : ℕ) (p q : P) (c : Account) → c.given ≡ given → InStage x given (during p) c → ((y : ℕ) → bricks_of given ≤ y → (at c (subject given.op) y).inode ≡ None) → IsIdle c → t.follows p c (Go q)
      → Leaves x given during i c (record { stage = Some q; sends = unlock c (subject given.op) ++ round (bricks_of c.given) (t.asks q c); answer = None; kept = None })
  goes_good given i p q c e (c0, f, isin, d0, r) none idle follows =
      let g = subject given.op in
      let ready = ready_after g c0 c f isin.ready r idle in
      let u = unlocked_to g i c ready (λ y l. none y (let v = ap bricks_of e in omega (arith, v))) in
      let d = sent_all c i (unlock c g) in
      let j = i + length (unlock c g) in
      let isin' : IsIn x given d = record { given_is = u.is.given ∙ e; of = isin.of; ready = u.ready } in
      let dur = sound.goes given p q c0 f c d isin d0 r idle follows isin' u.is in
      let on' = subst (λ (n : ℕ). IsOn g n (d.on g).queried (t.asks q c)) (sym (ap bricks_of isin'.given_is)) (sound.on given q d (t.asks q c) isin' dur) in
      let w = round_of g j d (t.asks q c) u.ready on' (λ h a s part b r fb hb. sound.may given q d (t.asks q c) h a isin' dur s part b r fb hb) in
      let n : bricks_of d.given ≡ bricks_of c.given = ap bricks_of u.is.given in
      let ends : sent_all c i (unlock c g ++ round (bricks_of c.given) (t.asks q c)) ≡ sent_all d j (round (bricks_of c.given) (t.asks q c)) = sent_append c i (unlock c g) (round (bricks_of c.given) (t.asks q c)) in
      let wr : IsRound g d (t.asks q c) (sent_all d j (round (bricks_of c.given) (t.asks q c))) = subst (λ (m : ℕ). IsRound g d (t.asks q c) (sent_all d j (round m (t.asks q c)))) n w.1 in
      let round' : IsRound g d (t.asks q c) (sent_all c i (unlock c g ++ round (bricks_of c.given) (t.asks q c))) = subst (λ (z : Account). IsRound g d (t.asks q c) z) (sym ends) wr in
      record {
        good = good_append g c i (unlock c g) (round (bricks_of c.given) (t.asks q c)) u.good (subst (λ (m : ℕ). AllGood g d j (round m (t.asks q c))) n w.0);
        may = tt;
        unanswered = round'.unanswered ∙ u.ready.unanswered;
        goes_on = λ s es. subst (λ (z : P). InStage x given (during z) (sent_all c i (unlock c g ++ round (bricks_of c.given) (t.asks q c)))) (some_same q s es) (d, t.asks q c, isin', dur, round');
        ended = λ es. absurd (cc);
        silent = λ s es. refl;
        released = λ some. absurd (let x : false ≡ true = some in cc);
      }

  says_good : (given : Given) (i : ℕ) (p : P) (answer : Answer) (c : Account) → c.given ≡ given → InStage x given (during p) c → ((y : ℕ) → bricks_of given ≤ y → (at c (subject given.op) y).inode ≡ None) → IsIdle c → t.follows p c (Say answer)
      → Leaves {P = P} x given during i c (record { stage = None; sends = unlock c (subject given.op) ++ give_back c (subject given.op); answer = Some answer; kept = None })
  says_good given i p answer c e (c0, f, isin, d0, r) none idle follows =
      let g = subject given.op in
      let ready = ready_after g c0 c f isin.ready r idle in
      let u = unlocked_to g i c ready (λ y l. none y (let v = ap bricks_of e in omega (arith, v))) in
      let d = sent_all c i (unlock c g) in
      let j = i + length (unlock c g) in
      let w = last_to g j c d u.ready u.is (λ y l. none y (let v = ap bricks_of e in omega (arith, v))) in
      let ends : sent_all c i (unlock c g ++ give_back c g) ≡ sent_all d j (give_back c g) = sent_append c i (unlock c g) (give_back c g) in
      let last : IsReady g (sent_all c i (unlock c g ++ give_back c g)) = subst (IsReady g) (sym ends) w.ready in
      let gone : (x : ℕ) → (at (sent_all c i (unlock c g ++ give_back c g)) g x).inode ≡ None = subst (λ (z : Account). (x : ℕ) → (at z g x).inode ≡ None) (sym ends) w.gone in
      let same : IsReleased g c (sent_all c i (unlock c g ++ give_back c g)) = subst (IsReleased g c) (sym ends) w.is in
      record {
        good = good_append g c i (unlock c g) (give_back c g) u.good w.good;
        may = (last.unanswered, subst (λ (v : Given). IsEarned (sent_all c i (unlock c g ++ give_back c g)) v.op answer) (sym (same.given ∙ e)) (sound.earned given p answer c0 f c (sent_all c i (unlock c g ++ give_back c g)) isin d0 r idle follows same));
        unanswered = last.unanswered;
        goes_on = λ s es. absurd (cc);
        ended = λ es. last.idle;
        silent = λ s es. absurd (cc);
        released = λ some. record { gfids = last.gfids; inode = gone; heal = last.heal };
      }

  taken : (given : Given) (i : ℕ) (p : P) (c : Account) (step : Step P) (next : Next P) → c.given ≡ given → InStage x given (during p) c → ((y : ℕ) → bricks_of given ≤ y → (at c (subject given.op) y).inode ≡ None) → IsIdle c → t.follows p c next
      → IsTaken (subject given.op) c (λ q. t.asks q c) next step → Leaves x given during i c step
  taken given i p c step (Go q) e s none idle follows is = subst (Leaves x given during i c) (sym is) (goes_good given i p q c e s none idle follows)
  taken given i p c step (Say answer) e s none idle follows is = subst (Leaves x given during i c) (sym is) (says_good given i p answer c e s none idle follows)

  again_leaves : (given : Given) (i : ℕ) (p : P) (c : Account) (so : Bool) → t.again p ≡ so → c.given ≡ given → InStage x given (during p) c
      → Leaves x given during i c (record { stage = Some p; sends = round (bricks_of c.given) (where_so so (t.asks p c)); answer = None; kept = None })
  again_leaves given i p c false es e s = subst (λ (ss : List Send). Leaves x given during i c (record { stage = Some p; sends = ss; answer = None; kept = None })) (sym (none_again (bricks_of c.given) (t.asks p c))) (record {
    good = tt;
    may = tt;
    unanswered = s.4.unanswered ∙ s.2.ready.unanswered;
    goes_on = λ q es. subst (λ (z : P). InStage x given (during z) c) (some_same p q es) s;
    ended = λ es. absurd (cc);
    silent = λ q es. refl;
    released = λ some. absurd (let x : false ≡ true = some in cc);
  })
  again_leaves given i p c true es e (c0, f, isin, d0, r) =
      let g = subject given.op in
      let m = sound.again given p c0 f c es isin d0 r in
      let on = sound.on given p c0 (joined f (t.asks p c)) isin m.0 in
      let w = again_sent g i c0 f (t.asks p c) c (bricks_of given) (ap bricks_of e) on m.1 r in
      let n : bricks_of given ≡ bricks_of c.given = sym (ap bricks_of e) in
      let r' : IsRound g c0 (joined f (t.asks p c)) (sent_all c i (round (bricks_of c.given) (t.asks p c))) = subst (λ (m : ℕ). IsRound g c0 (joined f (t.asks p c)) (sent_all c i (round m (t.asks p c)))) n w.1 in
      record {
        good = subst (λ (m : ℕ). AllGood g c i (round m (t.asks p c))) n w.0;
        may = tt;
        unanswered = r'.unanswered ∙ isin.ready.unanswered;
        goes_on = λ q eq. subst (λ (z : P). InStage x given (during z) (sent_all c i (round (bricks_of c.given) (t.asks p c)))) (some_same p q eq) (c0, joined f (t.asks p c), isin, m.0, r');
        ended = λ eq. absurd (cc);
        silent = λ q eq. refl;
        released = λ some. absurd (let x : false ≡ true = some in cc);
      }

  pub step_leaves : (given : Given) (i : ℕ) (p : P) (c : Account) (step : Step P) → c.given ≡ given → InStage x given (during p) c → ((y : ℕ) → bricks_of given ≤ y → (at c (subject given.op) y).inode ≡ None) → Goes t p c step → Leaves x given during i c step
  step_leaves given i p c step e s none (inl (w, is)) = subst (Leaves x given during i c) (sym is) (again_leaves given i p c (t.again p) refl e s)
  step_leaves given i p c step e s none (inr (idle, quiet, next, follows, is)) =
      taken given i p c step next e s none idle follows (subst (λ (v : Given). IsTaken (subject v.op) c (λ q. t.asks q c) next step) e is)

-- what is known past the last brick

held_none : (o : Option Lock) → held o ≡ None → o ≡ None
held_none None e = refl
held_none (Some lock) e = absurd (cc)

pending_none : (o : Option Wait) → pending o ≡ None → o ≡ None
pending_none None e = refl
pending_none (Some w) e = absurd (cc)

pub past_unlocked : (g n : ℕ) (known : Known) (c : Account) → Shows g n known c → (y : ℕ) → n ≤ y → (at c g y).inode ≡ None
past_unlocked g n known c s y l = held_none (at c g y).inode (ap (λ (p : Place). p.lock) (sym (s.each y) ∙ past_last known.places.items y (omega (arith, s.len, known.places.ok.0))))

-- the account with an answer

with_given : (c : Account) (a : Option Answer) → (with_answer c a).given ≡ c.given
with_given c None = refl
with_given c (Some answer) = refl

with_shows : (g n : ℕ) (known : Known) (c : Account) (a : Option Answer) → Shows g n known c → Shows g n known (with_answer c a)
with_shows g n known c None s = s
with_shows g n known c (Some answer) s = record { len = s.len; each = s.each; room = s.room; told = s.told }

with_answered : (c : Account) (a : Option Answer) → c.answer ≡ None → (with_answer c a).answer ≡ a
with_answered c None e = e
with_answered c (Some answer) e = refl

with_idle : (c : Account) (a : Option Answer) → IsIdle c → IsIdle (with_answer c a)
with_idle c None e = e
with_idle c (Some answer) e = e

with_let_go : (g : ℕ) (c : Account) (a : Option Answer) → IsLetGo g c → IsLetGo g (with_answer c a)
with_let_go g c None w = w
with_let_go g c (Some answer) w = record { gfids = w.gfids; inode = w.inode; heal = w.heal }

-- one more entry, and the entries of the step that follows
pub entries_join : (es fs : List Own) (e : Own) → (es ++ e ∷ []) ++ fs ≡ es ++ e ∷ fs
entries_join es fs e = append_assoc es (e ∷ []) fs

module _ {P : Type 0} (x : Ctx) (t : Table P) (during : P → Account → Asks → Type 0) (sound : IsSound x t during) where
  pub adds : (given : Given) (fits fits' : Type 0) (ctx : Ctx) (gfid : ℕ) (old told new : Known) (p : P) (answer : Option Answer) (es : List Own) (what : Own) (c : Account)
      → Stands x given fits t during ctx gfid old (Some p) answer es → fits' → after (account given es) what ≡ c → IsFromOutside what → May (account given es) what
      → c.given ≡ given → InStage x given (during p) c → Shows (subject given.op) (bricks_of given) told c
      → (i : ℕ) (stage : Option P) (said : Option Answer) (sends : List Send) → TakesStep t p c i told new stage said sends → vec_len new.places ≡ vec_len told.places
      → Adds (Stands x given fits' t during ctx gfid new stage said) (bricks_of given) (es ++ what ∷ []) i sends said
  adds given fits fits' ctx gfid old told new p answer es what c s f e outside m eg st sh i stage said sends k len =
      let g = subject given.op in
      let l = step_leaves x t during sound given i p c k.step eg st (past_unlocked g (bricks_of given) told c sh) k.goes in
      let good : AllGood g c i sends = subst (AllGood g c i) (sym k.sends_are) l.good in
      let d = sent_all c i sends in
      let same : d ≡ sent_all c i k.step.sends = ap (sent_all c i) k.sends_are in
      let fs = entries_of i sends said in
      let acc : account given ((es ++ what ∷ []) ++ fs) ≡ with_answer d said =
      account_append (opened given) (es ++ what ∷ []) fs ∙ (ap (λ (z : Account). account_from z fs) (account_append (opened given) es (what ∷ []) ∙ e) ∙ step_account c i sends said) in
      let shown : Shows g (bricks_of given) new d = record { len = len ∙ sh.len; each = subst (λ h. ShowsAll g h d) (sym k.places) (all_shows g i (place_at told.places.items) c sends good sh.each); room = ap (λ (r : Replies). vec_len r.items) k.replies ∙ sh.room; told = subst (λ (r : Replies). TellsAll g (reply_at r.items.items) d) (sym k.replies) (all_tell g i (reply_at told.replies.items.items) c sends good sh.told) } in
      let unanswered : d.answer ≡ None = ap (λ (z : Account). z.answer) same ∙ l.unanswered in
      let told_is : (account given ((es ++ what ∷ []) ++ fs)).answer ≡ said = ap (λ (z : Account). z.answer) acc ∙ with_answered d said unanswered in
      let may_end : MayEnd d said = subst (λ (a : Option Answer). MayEnd d a) (sym k.answer_is) (subst (λ (z : Account). MayEnd z k.step.answer) (sym same) l.may) in
      let kept : KeepsFrom (account_from (opened given) es) (what ∷ fs) = (m, subst (λ (z : Account). KeepsFrom z fs) (sym e) (step_keeps c i sends said (good_may g c i sends good) may_end)) in
      record {
        stands = record {
          ctx_is = s.ctx_is;
          gfid_is = s.gfid_is;
          of = s.of;
          fit = f;
          given_is = ap (λ (z : Account). z.given) acc ∙ (with_given d said ∙ (good_given g c i sends good ∙ eg));
          shows = subst (λ (z : Account). Shows g (bricks_of given) new z) (sym acc) (with_shows g (bricks_of given) new d said shown);
          keeps = subst (λ (v : List Own). Keeps given v) (sym (entries_join es fs what)) (join_from (opened given) es (what ∷ fs) s.keeps kept);
          by_table = (
            record { what = what; number = i; step = k.step } ∷ s.by_table.0,
            (
              es,
              p,
              s.by_table.1,
              outside,
              subst (λ (z : Account). Goes t p z k.step) (sym e) k.goes,
              entries_join es fs what ∙ (λ j. es ++ what ∷ entries_of i (k.sends_are j) (k.answer_is j)),
              k.stage_is,
            ),
          );
          answered = told_is;
          goes_on = λ q eq. (let quiet : said ≡ None = k.answer_is ∙ l.silent q (sym k.stage_is ∙ eq) in
              subst (λ (z : Account). InStage x given (during q) z) (sym (acc ∙ ap (with_answer d) quiet)) (subst (λ (z : Account). InStage x given (during q) z) (sym same) (l.goes_on q (sym k.stage_is ∙ eq))));
          ended = λ eq. subst IsIdle (sym acc) (with_idle d said (subst IsIdle (sym same) (l.ended (sym k.stage_is ∙ eq))));
          released = λ some. holds_nothing given ((es ++ what ∷ []) ++ fs) g s.of.kept (subst (IsLetGo g) (sym acc) (with_let_go g d said (subst (IsLetGo g) (sym same) (l.released (ap is_some (sym k.answer_is ∙ sym told_is) ∙ some)))));
        };
        below = good_below g (bricks_of given) c i sends (ap bricks_of eg) good;
        fit = good_fit g c i sends good;
      }

-- a call that begins

pub opened_place : (given : Given) (g y : ℕ) → given.kept ≡ None → at (opened given) g y ≡ no_place_of
opened_place given g y e = ap (λ k. (kept_dealings k g).place y) e

pub opened_ready : (given : Given) (g : ℕ) → given.kept ≡ None → IsReady g (opened given)
opened_ready given g e = record {
  unanswered = refl;
  idle = λ y. refl;
  heal = λ y. ap (λ (p : PlaceOf). p.heal) (opened_place given g y e);
  gfids = inr (ap kept_gfids e, λ y. ap (λ (p : PlaceOf). p.inode) (opened_place given g y e));
}

pub opened_shows : (given : Given) (g : ℕ) → given.kept ≡ None → ShowsAll g (λ y. no_place) (opened given)
opened_shows given g e = λ y. ap (λ (p : PlaceOf). digest None p) (sym (opened_place given g y e))

module _ {P : Type 0} (x : Ctx) (t : Table P) (during : P → Account → Asks → Type 0) (sound : IsSound x t during) where
  first_leaves : (given : Given) (i : ℕ) (step : Step P) (next : Next P) → IsOf x given → t.starts given next → IsFirst (bricks_of given) (λ q. t.asks q (opened given)) next step → Leaves x given during i (opened given) step
  first_leaves given i step (Go q) of starts is =
      let g = subject given.op in
      let c = opened given in
      let ready = opened_ready given g of.kept in
      let isin : IsIn x given c = record { given_is = refl; of = of; ready = ready } in
      let dur = sound.begins given q of starts in
      let w = round_of g i c (t.asks q c) ready (sound.on given q c (t.asks q c) isin dur) (λ h a s part b r fb hb. sound.may given q c (t.asks q c) h a isin dur s part b r fb hb) in
      subst (Leaves x given during i c) (sym is) (record {
        good = w.0;
        may = tt;
        unanswered = w.1.unanswered;
        goes_on = λ s es. subst (λ (z : P). InStage x given (during z) (sent_all c i (round (bricks_of given) (t.asks q c)))) (some_same q s es) (c, t.asks q c, isin, dur, w.1);
        ended = λ es. absurd (cc);
        silent = λ s es. refl;
        released = λ some. absurd (let x : false ≡ true = some in cc);
      })
  first_leaves given i step (Say answer) of starts is =
      subst (Leaves x given during i (opened given)) (sym is) (record {
        good = tt;
        may = (refl, sound.earned_first given answer of starts);
        unanswered = refl;
        goes_on = λ s es. absurd (cc);
        ended = λ es y. refl;
        silent = λ s es. absurd (cc);
        released = λ some. (let ready = opened_ready given (subject given.op) of.kept in record { gfids = ready.gfids; inode = λ x. ap (λ (p : PlaceOf). p.inode) (opened_place given (subject given.op) x of.kept); heal = ready.heal });
      })

  pub begun : (given : Given) (fits : Type 0) (ctx : Ctx) (gfid : ℕ) (new : Known) (i : ℕ) (stage : Option P) (said : Option Answer) (sends : List Send)
      → ctx ≡ x → subject given.op ≡ gfid → IsOf x given → fits → TakesFirst t given i new stage said sends
      → Adds (Stands x given fits t during ctx gfid new stage said) (bricks_of given) [] i sends said
  begun given fits ctx gfid new i stage said sends ec eg of f k =
      let g = subject given.op in
      let c = opened given in
      let l = first_leaves given i k.step k.begins.0 of k.begins.1 k.begins.2 in
      let good : AllGood g c i sends = subst (AllGood g c i) (sym k.sends_are) l.good in
      let d = sent_all c i sends in
      let same : d ≡ sent_all c i k.step.sends = ap (sent_all c i) k.sends_are in
      let fs = entries_of i sends said in
      let acc : account given fs ≡ with_answer d said = step_account c i sends said in
      let shown : Shows g (bricks_of given) new d = record { len = k.len; each = subst (λ h. ShowsAll g h d) (sym k.places) (all_shows g i (λ y. no_place) c sends good (opened_shows given g of.kept)); room = k.room; told = all_tell g i (reply_at new.replies.items.items) c sends good (λ y. k.untold y ∙ sym (ap (λ (p : PlaceOf). last_reply p.window) (opened_place given g y of.kept))) } in
      let unanswered : d.answer ≡ None = ap (λ (z : Account). z.answer) same ∙ l.unanswered in
      let told_is : (account given fs).answer ≡ said = ap (λ (z : Account). z.answer) acc ∙ with_answered d said unanswered in
      let may_end : MayEnd d said = subst (λ (a : Option Answer). MayEnd d a) (sym k.answer_is) (subst (λ (z : Account). MayEnd z k.step.answer) (sym same) l.may) in
      record {
        stands = record {
          ctx_is = ec;
          gfid_is = eg;
          of = of;
          fit = f;
          given_is = ap (λ (z : Account). z.given) acc ∙ (with_given d said ∙ good_given g c i sends good);
          shows = subst (λ (z : Account). Shows g (bricks_of given) new z) (sym acc) (with_shows g (bricks_of given) new d said shown);
          keeps = step_keeps c i sends said (good_may g c i sends good) may_end;
          by_table = ([], (i, k.step, k.begins, λ j. entries_of i (k.sends_are j) (k.answer_is j), k.stage_is));
          answered = told_is;
          goes_on = λ q eq. (let quiet : said ≡ None = k.answer_is ∙ l.silent q (sym k.stage_is ∙ eq) in
              subst (λ (z : Account). InStage x given (during q) z) (sym (acc ∙ ap (with_answer d) quiet)) (subst (λ (z : Account). InStage x given (during q) z) (sym same) (l.goes_on q (sym k.stage_is ∙ eq))));
          ended = λ eq. subst IsIdle (sym acc) (with_idle d said (subst IsIdle (sym same) (l.ended (sym k.stage_is ∙ eq))));
          released = λ some. holds_nothing given fs g of.kept (subst (IsLetGo g) (sym acc) (with_let_go g d said (subst (IsLetGo g) (sym same) (l.released (ap is_some (sym k.answer_is ∙ sym told_is) ∙ some)))));
        };
        below = good_below g (bricks_of given) c i sends refl good;
        fit = good_fit g c i sends good;
      }
