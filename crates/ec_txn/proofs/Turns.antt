-- A call that begins, hears a reply or gives one up.
use Rattle.std.proofs.Common.{◌≡◌, ◌⊎◌, inl, inr, ℕ, ◌+◌, ◌<◌, ◌≤◌, ◌==◌, Bool, true, false, cond, refl, sym, ◌∙◌, ap, subst, List, [], ◌∷◌, ◌++◌, length, arith, Option, Some, None, eq-eqb, vec_len, Ok, Err}
use Rattle.std.specs.Prelude.{IfOk, OnOk, Result}
use Rattle.std.proofs.Math.Path.{fun_ext}
use Rattle.std.proofs.lemmas.Bool.{cases_lt}
use Rattle.ec_conduct.specs.Account.{Account, Exchange, Wait, account_from, after, filed, gave_up, gfid_of, heard_by, left_by, over as over_at, told as told_by}
use Rattle.ec_conduct.specs.Given.{Given, bricks_of}
use Rattle.ec_conduct.specs.Locks.{is_heal}
use Rattle.ec_conduct.specs.Opened.{account, opened}
use Rattle.ec_conduct.specs.Own.{Own, Sends, Hears, GivesUp, Answers}
use Rattle.ec_conduct.specs.Table.{IsFromOutside, Send, to_bricks}
use Rattle.ec_store.specs.Put.{put}
use Rattle.ec_wire.specs.declared.answer.Answer.{Answer}
use Rattle.ec_wire.specs.declared.reply.Reply.{Reply}
use Rattle.ec_txn.specs.declared.ctx.Ctx.{Ctx}
use Rattle.ec_txn.specs.declared.known.Known.{Known}
use Rattle.ec_txn.specs.declared.known.Place.{Place}
use Rattle.ec_txn.specs.declared.stage.Next.TheVariants.{Go, Say}
use Rattle.ec_txn.specs.Digest.{Shows, all_sent, given_up, heard, no_place, pending, place_at}
use Rattle.ec_txn.specs.Rounds.{Asks, IsOn, IsRound, one, round, subject}
use Rattle.ec_txn.specs.Steps.{Adds, given_of}
use Rattle.ec_wire.specs.declared.op.Op.{Op}
use Rattle.ec_txn.specs.Tables.{Begins, InStage, IsIn, IsOf, IsSound, Sees, Stands, Table, TakesFirst, TakesStep}
use Rattle.ec_txn.proofs.Hearing.{asked_at, over_does, round_over}
use Rattle.ec_txn.proofs.Places.{past_last}
use Rattle.ec_txn.proofs.Shown.{ShowsAll, left_shows, over_tells, told_shows}
use Rattle.ec_txn.specs.Replies.{TellsAll, last_reply, reply_at}
use Rattle.ec_txn.specs.declared.replies.Replies.{Replies}
use Rattle.ec_conduct.specs.Account.{Place as PlaceOf}
use Rattle.ec_txn.proofs.Steps.{adds, begun, opened_place, opened_shows}

-- the first step

-- nothing is known yet of n bricks
pub record IsNew (n : ℕ) (known : Known) : Type 0 where
  pub len : vec_len known.places ≡ n
  pub none : (y : ℕ) → place_at known.places.items y ≡ no_place
  pub room : vec_len known.replies.items ≡ n
  pub untold : (y : ℕ) → reply_at known.replies.items.items y ≡ None

pub first_sees : (x : Ctx) (fits : Given → Type 0) (given : Given) (known : Known) → IsOf x given → fits given → IsNew x.geometry.n known → Sees x fits known (opened given)
first_sees x fits given known of f new = record {
  of = of;
  fit = f;
  shows = record {
    len = new.len ∙ sym (ap (λ geometry. geometry.n) of.geometry);
    each = λ y. new.none y ∙ opened_shows given (subject given.op) of.kept y;
    room = new.room ∙ sym (ap (λ geometry. geometry.n) of.geometry);
    told = λ y. new.untold y ∙ sym (ap (λ (p : PlaceOf). last_reply p.window) (opened_place given (subject given.op) y of.kept));
  };
}

size_of : (x : Ctx) (given : Given) → IsOf x given → bricks_of given ≡ x.geometry.n
size_of x given of = ap (λ geometry. geometry.n) of.geometry

pub begins_go : {P : Type 0} (x : Ctx) (t : Table P) (during : P → Account → Asks → Type 0) (fits : Given → Type 0) → IsSound x t during → (given : Given) (gfid i : ℕ) (q : P) (known new : Known) (old ss : List Send)
    → IsOf x given → fits given → subject given.op ≡ gfid → t.starts given (Go q) → IsNew x.geometry.n known
    → old ≡ [] → ((c : Account) → Sees x fits known c → ss ≡ old ++ to_bricks x.geometry.n (λ b. one (t.asks q c b))) → place_at new.places.items ≡ all_sent (place_at known.places.items) i ss → vec_len new.places ≡ vec_len known.places → new.replies ≡ known.replies
    → Adds (Stands x given (fits given) t during x gfid new (Some q) None) x.geometry.n [] i ss None
begins_go x t during fits sound given gfid i q known new old ss of f on starts first eo es places same replies =
    let sees = first_sees x fits given known of f first in
    subst (λ (n : ℕ). Adds (Stands x given (fits given) t during x gfid new (Some q) None) n [] i ss None) (size_of x given of)
    (begun x t during sound given (fits given) x gfid new i (Some q) None ss refl on of f (record {
      step = record { stage = Some q; sends = round (bricks_of given) (t.asks q (opened given)); answer = None; kept = None };
      begins = (Go q, starts, refl);
      stage_is = refl;
      answer_is = refl;
      sends_are = es (opened given) sees ∙ (λ j. eo j ++ to_bricks (sym (size_of x given of) j) (λ b. one (t.asks q (opened given) b)));
      len = same ∙ (first.len ∙ sym (size_of x given of));
      places = places ∙ ap (λ h. all_sent h i ss) (fun_ext first.none);
      room = ap (λ (r : Replies). vec_len r.items) replies ∙ (first.room ∙ sym (size_of x given of));
      untold = λ y. ap (λ (r : Replies). reply_at r.items.items y) replies ∙ first.untold y;
    }))

pub begins_say : {P : Type 0} (x : Ctx) (t : Table P) (during : P → Account → Asks → Type 0) (fits : Given → Type 0) → IsSound x t during → (given : Given) (gfid i : ℕ) (answer : Answer) (known : Known) (ss : List Send)
    → IsOf x given → fits given → subject given.op ≡ gfid → t.starts given (Say answer) → IsNew x.geometry.n known → ss ≡ []
    → Adds (Stands x given (fits given) t during x gfid known None (Some answer)) x.geometry.n [] i ss (Some answer)
begins_say x t during fits sound given gfid i answer known ss of f on starts first es =
    subst (λ (n : ℕ). Adds (Stands x given (fits given) t during x gfid known None (Some answer)) n [] i ss (Some answer)) (size_of x given of)
    (begun x t during sound given (fits given) x gfid known i None (Some answer) ss refl on of f (record {
      step = record { stage = None; sends = []; answer = Some answer; kept = None };
      begins = (Say answer, starts, refl);
      stage_is = refl;
      answer_is = refl;
      sends_are = es;
      len = first.len ∙ sym (size_of x given of);
      room = first.room ∙ sym (size_of x given of);
      untold = first.untold;
      places = fun_ext first.none ∙ ap (λ ss. all_sent (λ y. no_place) i ss) (sym es);
    }))

-- a reply, or a giving up

heard_is : (c : Account) (b : ℕ) (w : Wait) (reply : Reply) → c.waits b ≡ Some w → heard_by c b (c.waits b) w.number reply ≡ told_by c b w reply
heard_is c b w reply e = ap (λ (o : Option Wait). heard_by c b o w.number reply) e ∙ (let t = eq-eqb w.number w.number refl in rw t refl)

left_is : (c : Account) (b : ℕ) (w : Wait) → c.waits b ≡ Some w → left_by c b (c.waits b) w.number ≡ gave_up c b w
left_is c b w e = ap (λ (o : Option Wait). left_by c b o w.number) e ∙ (let t = eq-eqb w.number w.number refl in rw t refl)

filed_given : (c : Account) (b : ℕ) (e : Exchange) (o : Option ℕ) → (filed c b e o).given ≡ c.given
filed_given c b e None = refl
filed_given c b e (Some g) = refl

over_given : (c : Account) (b : ℕ) (e : Exchange) → (over_at c b e).given ≡ c.given
over_given c b e = filed_given (record c { waits = put c.waits b None; steps = c.steps + 1 }) b e (gfid_of e.request)

no_wait : (w : Wait) → None ≡ Some w → ⊥
no_wait w e = cc

module _ {P : Type 0} (tab : Ctx → Table P) (dur : Ctx → P → Account → Asks → Type 0) (sound : (x : Ctx) → IsSound x (tab x) (dur x)) (fits fits' : Given → Type 0) (ctx ctx' : Ctx) (gfid gfid' : ℕ) (old told new : Known) (stage stage' : Option P) (answer answer' said : Option Answer) (i : ℕ) (sends : List Send)
    (goes : (p : P) (c : Account) → stage ≡ Some p → answer ≡ None → subject c.given.op ≡ gfid → Sees ctx fits told c → TakesStep (tab ctx) p c i told new stage' said sends × (answer' ≡ said))
    (same_ctx : ctx' ≡ ctx) (same_gfid : gfid' ≡ gfid) (same_fits : fits' ≡ fits) (same_len : vec_len new.places ≡ vec_len told.places) (same_told : new.replies ≡ told.replies) where
  turn : (x : Ctx) (given : Given) (es : List Own) (b : ℕ) (w : Wait) (what : Own) (c : Account) → Stands x given (fits given) (tab x) (dur x) ctx gfid old stage answer es → (account given es).waits b ≡ Some w
      → after (account given es) what ≡ c → c.given ≡ (account given es).given → IsFromOutside what → Rattle.ec_conduct.specs.Conduct.May (account given es) what → (vec_len told.places ≡ vec_len old.places) × (vec_len told.replies.items ≡ vec_len old.replies.items)
      → ((p : P) → stage ≡ Some p → InStage x given (dur x p) (account given es) → InStage x given (dur x p) c × ShowsAll (subject given.op) (place_at told.places.items) c × TellsAll (subject given.op) (reply_at told.replies.items.items) c)
      → Adds (Stands x given (fits' given) (tab x) (dur x) ctx' gfid' new stage' answer') given.geometry.n (es ++ what ∷ []) i sends said
  turn x given es b w what c s wait is g outside may len next = go stage refl
    where
      go : (o : Option P) → stage ≡ o → Adds (Stands x given (fits' given) (tab x) (dur x) ctx' gfid' new stage' answer') given.geometry.n (es ++ what ∷ []) i sends said
      go None e = absurd (no_wait w (sym (s.ended e b) ∙ wait))
      go (Some p) e =
          let st = s.goes_on p e in
          let n = next p e st in
          let cg : c.given ≡ given = g ∙ s.given_is in
          let quiet : answer ≡ None = sym s.answered ∙ (st.4.unanswered ∙ st.2.ready.unanswered) in
          let shows : Shows (subject given.op) (bricks_of given) told c = record { len = len.0 ∙ s.shows.len; each = n.1; room = len.1 ∙ s.shows.room; told = n.2 } in
          let sees : Sees x fits told c = record {
            of = subst (IsOf x) (sym cg) s.of;
            fit = subst fits (sym cg) s.fit;
            shows = subst (λ (v : Given). Shows (subject v.op) (bricks_of v) told c) (sym cg) shows;
          } in
          let k = goes p c e quiet (ap (λ (v : Given). subject v.op) cg ∙ s.gfid_is) (subst (λ (z : Ctx). Sees z fits told c) (sym s.ctx_is) sees) in
          let step : TakesStep (tab x) p c i told new stage' said sends = subst (λ (z : Ctx). TakesStep (tab z) p c i told new stage' said sends) s.ctx_is k.0 in
          let s' : Stands x given (fits given) (tab x) (dur x) ctx gfid old (Some p) answer es = subst (λ (o : Option P). Stands x given (fits given) (tab x) (dur x) ctx gfid old o answer es) e s in
          let a : Adds (Stands x given (fits given) (tab x) (dur x) ctx gfid new stage' said) (bricks_of given) (es ++ what ∷ []) i sends said =
          adds x (tab x) (dur x) (sound x) given (fits given) (fits given) ctx gfid old told new p answer es what c s' s.fit is outside may cg n.0 shows i stage' said sends step same_len in
          subst (λ (f : Given → Type 0). Adds (Stands x given (f given) (tab x) (dur x) ctx' gfid' new stage' answer') given.geometry.n (es ++ what ∷ []) i sends said) (sym same_fits)
          (subst (λ (z : Ctx). Adds (Stands x given (fits given) (tab x) (dur x) z gfid' new stage' answer') given.geometry.n (es ++ what ∷ []) i sends said) (sym same_ctx)
          (subst (λ (z : ℕ). Adds (Stands x given (fits given) (tab x) (dur x) ctx z new stage' answer') given.geometry.n (es ++ what ∷ []) i sends said) (sym same_gfid)
          (subst (λ (z : Option Answer). Adds (Stands x given (fits given) (tab x) (dur x) ctx gfid new stage' z) given.geometry.n (es ++ what ∷ []) i sends said) (sym k.1) a)))

  over : (x : Ctx) (given : Given) (p : P) (a : Account) (b : ℕ) (w : Wait) (reply : Option Reply) → a.waits b ≡ Some w → InStage x given (dur x p) a
      → let c = Rattle.ec_conduct.specs.Account.over a b (record { number = w.number; request = w.request; reply = reply }) in
      InStage x given (dur x p) c × (Rattle.ec_conduct.specs.Account.gfid_of w.request ≡ Some (subject given.op))
  over x given p a b w reply wait (c0, f, isin, d0, r) =
      let g = subject given.op in
      let on : IsOn g (bricks_of c0.given) (c0.on g).queried f = subst (λ (n : ℕ). IsOn g n (c0.on g).queried f) (sym (ap bricks_of isin.given_is)) ((sound x).on given p c0 f isin d0) in
      ((c0, f, isin, d0, round_over g b c0 a f w reply on r wait), on.of b w.request (asked_at g b c0 a f w r wait).0)

  pub hears : (x : Ctx) (given : Given) (es : List Own) (b : ℕ) (w : Wait) (reply : Reply) → Stands x given (fits given) (tab x) (dur x) ctx gfid old stage answer es → (account given es).waits b ≡ Some w
      → place_at told.places.items ≡ put (place_at old.places.items) b (heard (place_at old.places.items b) reply) → (vec_len told.places ≡ vec_len old.places) × (vec_len told.replies.items ≡ vec_len old.replies.items)
      → reply_at told.replies.items.items ≡ put (reply_at old.replies.items.items) b (Some reply)
      → Adds (Stands x given (fits' given) (tab x) (dur x) ctx' gfid' new stage' answer') given.geometry.n (es ++ Hears b w.number reply ∷ []) i sends said
  hears x given es b w reply s wait places len noted =
      let a = account given es in
      turn x given es b w (Hears b w.number reply) (told_by a b w reply) s wait (heard_is a b w reply wait) (over_given a b (record { number = w.number; request = w.request; reply = Some reply })) tt tt len (λ p e st.
      let o = over x given p a b w (Some reply) wait st in (
        o.0,
        subst (λ h. ShowsAll (subject given.op) h (told_by a b w reply)) (sym places) (told_shows (subject given.op) b (place_at old.places.items) a w reply wait o.1 s.shows.each),
        subst (λ h. TellsAll (subject given.op) h (told_by a b w reply)) (sym noted) (over_tells (subject given.op) b (reply_at old.replies.items.items) a (record { number = w.number; request = w.request; reply = Some reply }) o.1 s.shows.told),
      ))

  pub leaves : (x : Ctx) (given : Given) (es : List Own) (b : ℕ) (w : Wait) → Stands x given (fits given) (tab x) (dur x) ctx gfid old stage answer es → (account given es).waits b ≡ Some w
      → place_at told.places.items ≡ put (place_at old.places.items) b (given_up (place_at old.places.items b)) → (vec_len told.places ≡ vec_len old.places) × (vec_len told.replies.items ≡ vec_len old.replies.items)
      → reply_at told.replies.items.items ≡ put (reply_at old.replies.items.items) b None
      → Adds (Stands x given (fits' given) (tab x) (dur x) ctx' gfid' new stage' answer') given.geometry.n (es ++ GivesUp b w.number ∷ []) i sends said
  leaves x given es b w s wait places len noted =
      let a = account given es in
      turn x given es b w (GivesUp b w.number) (gave_up a b w) s wait (left_is a b w wait) (over_given a b (record { number = w.number; request = w.request; reply = None })) tt tt len (λ p e st.
      let o = over x given p a b w None wait st in (
        o.0,
        subst (λ h. ShowsAll (subject given.op) h (gave_up a b w)) (sym places) (left_shows (subject given.op) b (place_at old.places.items) a w wait o.1 s.shows.each),
        subst (λ h. TellsAll (subject given.op) h (gave_up a b w)) (sym noted) (over_tells (subject given.op) b (reply_at old.replies.items.items) a (record { number = w.number; request = w.request; reply = None }) o.1 s.shows.told),
      ))

no_pending : (w : Wait) → pending (Some w) ≡ None → ⊥
no_pending w e = absurd (cc)

-- a brick that is waited for has its place in what is known
pub has_place : {P : Type 0} (x : Ctx) (given : Given) (fits : Type 0) (t : Table P) (during : P → Account → Asks → Type 0) (ctx : Ctx) (gfid : ℕ) (known : Known) (stage : Option P) (answer : Option Answer) (es : List Own) (b : ℕ) (w : Wait)
    → Stands x given fits t during ctx gfid known stage answer es → (account given es).waits b ≡ Some w
    → (vec_len known.places ≡ ctx.geometry.n) × (vec_len known.replies.items ≡ ctx.geometry.n) × (b < ctx.geometry.n)
has_place x given fits t during ctx gfid known stage answer es b w s wait =
    let n : bricks_of given ≡ ctx.geometry.n = size_of x given s.of ∙ sym (ap (λ (z : Ctx). z.geometry.n) s.ctx_is) in
    let len : vec_len known.places ≡ ctx.geometry.n = s.shows.len ∙ n in (
      len,
      s.shows.room ∙ n,
      elim (cases_lt b ctx.geometry.n) [
        | inl l ↦ l
        | inr l ↦ absurd (no_pending w (ap pending (sym wait) ∙ ap (λ (p : Place). p.waits) (sym (s.shows.each b) ∙ past_last known.places.items b (omega (arith, l, len, known.places.ok.0)))))
      ],
    )

pub if_both : {A E : Type 0} (r : Result A E) (P : A → Type 0) (Q : Type 0) (R : A → Type 0) → ((a : A) → P a → Q → R a) → IfOk r P → OnOk r Q → IfOk r R
if_both (Ok a) P Q R f p q = f a p q
if_both (Err e) P Q R f p q = tt

pub if_more : {A E : Type 0} (r : Result A E) (P R : A → Type 0) → ((a : A) → P a → R a) → IfOk r P → IfOk r R
if_more (Ok a) P R f p = f a p
if_more (Err e) P R f p = tt

-- what a call with nothing kept is begun with
pub given_is_of : (x : Ctx) (op : Op) → is_heal op ≡ false → IsOf x (given_of x op None [])
given_is_of x op e = record { geometry = refl; child = refl; kept = refl; unhealed = e }
