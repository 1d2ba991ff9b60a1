-- The opening of a call keeps the conduct.
use Rattle.std.proofs.Common.{◌≡◌, ◌≢◌, ◌⊎◌, inl, inr, ⊎_elim, ℕ, ◌+◌, ◌-◌, ◌<◌, ◌≤◌, ◌==◌, ◌&&◌, ◌||◌, nat_lt, nat_le, Bool, true, false, cond, refl, sym, ◌∙◌, ap, subst, List, [], ◌∷◌, arith, Option, Some, None, eqb-true, eq-eqb}
use Rattle.std.specs.Prelude.{map}
use Rattle.std.proofs.Math.Path.{fun_ext}
use Rattle.std.proofs.lemmas.Bool.{and_parts, cases_Bool, cases_eq}
use Rattle.std.proofs.lemmas.Bool.Decides.{nat_tests}
use Rattle.ec_attr.specs.Bricks.{count_below}
use Rattle.ec_attr.specs.declared.geometry.Geometry.{Geometry}
use Rattle.ec_attr.specs.declared.kind.Domain.TheVariants.{Inode, Heal}
use Rattle.ec_attr.specs.declared.kind.LockKind.{LockKind}
use Rattle.ec_brick.specs.Fit.{IsFit}
use Rattle.ec_conduct.specs.Account.{Account, Exchange, Lock, Place, Wait, at, gfid_of, granted, is_granted, noted}
use Rattle.ec_conduct.specs.Conduct.{IsFree, MaySend}
use Rattle.ec_conduct.specs.Done.{failed_none, is_any, is_ask, is_done, is_lock, is_pre, is_query, reply_to}
use Rattle.ec_conduct.specs.Given.{Given, bricks_of, quorum_of}
use Rattle.ec_conduct.specs.Group.{has}
use Rattle.ec_conduct.specs.Locks.{is_heal}
use Rattle.ec_conduct.specs.Opened.{kept_dealings, no_place, opened}
use Rattle.ec_conduct.specs.Standing.{NoneWaits, is_held, is_lost, waits_on}
use Rattle.ec_answers.specs.declared.grouped.Grouped.{Grouped}
use Rattle.ec_wire.specs.declared.answer.Answer.{Answer}
use Rattle.ec_wire.specs.declared.answer.Answer.TheVariants.{NoQuorum}
use Rattle.ec_wire.specs.declared.phase.Phase.TheVariants.{Lock as LockPhase}
use Rattle.ec_wire.specs.declared.reply.Reply.{Reply}
use Rattle.ec_wire.specs.declared.reply.Reply.TheVariants.{Granted, Head, Chunks, Child, Names, Done, NoGrant, NoInode, IsInode, OtherKind, NotAt, Fault, Gfids}
use Rattle.ec_wire.specs.declared.request.Request.{Request}
use Rattle.ec_wire.specs.declared.request.Request.TheVariants.{Ask, Query as QueryOf}
use Rattle.ec_txn.specs.declared.ctx.Ctx.{Ctx}
use Rattle.ec_txn.specs.declared.opening.Opening.{Opening}
use Rattle.ec_txn.specs.declared.opening.Opening.TheVariants.{Lock as Locking, Query}
use Rattle.ec_txn.specs.declared.stage.Next.{Next}
use Rattle.ec_txn.specs.declared.stage.Next.TheVariants.{Go, Say}
use Rattle.ec_txn.specs.declared.known.Known.{Known}
use Rattle.ec_txn.specs.declared.known.Place.{Place as KnownPlace}
use Rattle.ec_txn.specs.Next.{next_as}
use Rattle.ec_txn.specs.Digest.{Shows, held, is_locked, place_at}
use Rattle.ec_txn.specs.Opening.{Did, OpeningFollows, count_locks, InOpening, IsLocking, IsOpening, IsQuerying, opening_asks, query_of}
use Rattle.ec_txn.specs.Rounds.{Asks, IsIdle, IsIn, IsOn, IsReady, IsRound, IsSent, IsSentTo, IsUnlocked, asked_place, is_plain, subject}
use Rattle.ec_txn.specs.Tables.{IsIn as IsAt, IsOf}
use Rattle.ec_txn.proofs.Steps.{opened_place}

-- a brick that wasn't sent its request yet
pub unsent : (g b : ℕ) (c d : Account) (h : Asks) → IsSent g c h d → h b ≡ None → (d.waits b ≡ None) × (at d g b ≡ at c g b)
unsent g b c d h s e = subst (λ (o : Option Request). IsSentTo o (at c g b) (d.waits b) (at d g b)) e (s.each b)

pub lost_false : (p : Place) → p.heal ≡ None → is_lost p ≡ false
lost_false p e = rw e refl

pub is_free : (x : Ctx) (given : Given) (b : ℕ) (c d : Account) (h : Asks) → IsAt x given c → IsSent (subject given.op) c h d → h b ≡ None → b < bricks_of given → IsFree d b (subject given.op)
is_free x given b c d h a s e l =
    let u = unsent (subject given.op) b c d h s e in
    record {
      running = record { unanswered = s.unanswered ∙ a.ready.unanswered; brick = subst (λ (v : Given). b < bricks_of v) (sym (s.given ∙ a.given_is)) l };
      idle = u.0;
      kept = lost_false (at d (subject given.op) b) (s.heal b ∙ a.ready.heal b);
    }

and_false : (a b : Bool) → b ≡ false → (a && b) ≡ false
and_false true b e = e
and_false false b e = refl

-- nobody is waited for with a request that the round doesn't send
pub none_waits_for : (g : ℕ) (c d : Account) (h : Asks) (p : Request → Bool) → IsSent g c h d → ((y : ℕ) (r : Request) → h y ≡ Some r → p r ≡ false) → NoneWaits d g p
none_waits_for g c d h p s never y l = go (h y) refl (s.each y)
  where
    go : (o : Option Request) → h y ≡ o → IsSentTo o (at c g y) (d.waits y) (at d g y) → waits_on d g p y ≡ false
    go None e t = ap (λ (w : Option Wait). has (λ (w : Wait). has (λ (h : ℕ). h == g) (gfid_of w.request) && p w.request) w) t.0
    go (Some r) e t = ap (λ (w : Option Wait). has (λ (w : Wait). has (λ (h : ℕ). h == g) (gfid_of w.request) && p w.request) w) t.1 ∙ and_false (has (λ (h : ℕ). h == g) (gfid_of r)) (p r) (never y r e)

some_same : {A : Type 0} (a b : A) → Some a ≡ Some b → a ≡ b
some_same a b e = cc

-- what a stage of the opening asks

is_ask_of : (u : Bool) (r s : Request) → cond u (Some s) None ≡ Some r → (u ≡ true) × (r ≡ s)
is_ask_of true r s e = (refl, sym (some_same s r e))
is_ask_of false r s e = absurd (cc)

pub lock_is : (kind : LockKind) (brick : ℕ) (c : Account) (y : ℕ) (r : Request) → opening_asks kind (Locking brick) c y ≡ Some r → (y ≡ brick) × (r ≡ Ask (record { 0 = subject c.given.op }) Inode kind)
lock_is kind brick c y r e = let w = is_ask_of (y == brick) r (Ask (record { 0 = subject c.given.op }) Inode kind) e in (eqb-true y brick w.0, w.1)

query_is_of : (g : ℕ) (o : Option Lock) (r : Request) → query_of g o ≡ Some r → (lock : Lock) × (o ≡ Some lock) × (lock.granted ≡ true) × (r ≡ QueryOf (record { 0 = g }) lock.number)
query_is_of g None r e = absurd (cc)
query_is_of g (Some lock) r e = let w = is_ask_of lock.granted r (QueryOf (record { 0 = g }) lock.number) e in (lock, refl, w.0, w.1)

within : (u : Bool) (o : Option Request) (r : Request) → cond u o None ≡ Some r → (u ≡ true) × (o ≡ Some r)
within true o r e = (refl, e)
within false o r e = absurd (cc)

pub query_is : (kind : LockKind) (c : Account) (y : ℕ) (r : Request) → opening_asks kind Query c y ≡ Some r → (y < bricks_of c.given) × (lock : Lock) × ((at c (subject c.given.op) y).inode ≡ Some lock) × (lock.granted ≡ true) × (r ≡ QueryOf (record { 0 = subject c.given.op }) lock.number)
query_is kind c y r e =
    let w = within (nat_lt y (bricks_of c.given)) (query_of (subject c.given.op) (at c (subject c.given.op) y).inode) r e in
    let q = query_is_of (subject c.given.op) (at c (subject c.given.op) y).inode r w.1 in
    let l : y < bricks_of c.given = (let t = w.0 in grind (arith, nat_tests)) in
    (l, q.0, q.1, q.2, q.3)

-- what a stage of the opening may ask

on_here : (kind : LockKind) (o : Opening) (c : Account) (f : Asks) → InOpening kind o c f → IsOn (subject c.given.op) (bricks_of c.given) (c.on (subject c.given.op)).queried f
on_here kind (Locking brick) c f d = record {
  below = λ y r e. let w = d.asks y r e in let l = d.below in omega (arith, w.0, l);
  of = λ y r e. ap gfid_of (d.asks y r e).1;
  plain = λ y r e. ap is_plain (d.asks y r e).1;
  first = λ y r e t. (d.opens.unqueried, λ z s q. ap is_query (d.asks z s q).1);
  fit = λ y r e. subst IsFit (sym (d.asks y r e).1) tt;
}
on_here kind Query c f d = record {
  below = λ y r e. (d.asks y r e).0;
  of = λ y r e. ap gfid_of (d.asks y r e).4;
  plain = λ y r e. ap is_plain (d.asks y r e).4;
  first = λ y r e t. (let w : is_lock r ≡ false = ap is_lock (d.asks y r e).4 in absurd (cc));
  fit = λ y r e. subst IsFit (sym (d.asks y r e).4) tt;
}

pub opening_on : (x : Ctx) (given : Given) (kind : LockKind) (o : Opening) (c : Account) (f : Asks) → IsAt x given c → InOpening kind o c f → IsOn (subject given.op) (bricks_of given) (c.on (subject given.op)).queried f
opening_on x given kind o c f a d = subst (λ (v : Given). IsOn (subject v.op) (bricks_of v) (c.on (subject v.op)).queried f) a.given_is (on_here kind o c f d)

holds_of : (lock : Lock) → lock.granted ≡ true → (lock.granted && (lock.number == lock.number)) ≡ true
holds_of lock e = rw e (eq-eqb lock.number lock.number refl)

may_here : (x : Ctx) (kind : LockKind) (o : Opening) (c : Account) (f h : Asks) (d : Account) → IsAt x c.given c → InOpening kind o c f → IsSent (subject c.given.op) c h d
    → ((y : ℕ) (r : Request) → h y ≡ Some r → f y ≡ Some r) → (b : ℕ) (r : Request) → f b ≡ Some r → h b ≡ None → MaySend d b r
may_here x kind (Locking brick) c f h d a l s part b r e n =
    let w = l.asks b r e in
    let g = subject c.given.op in
    let same = (unsent g b c d h s n).1 in
    let under : b < bricks_of c.given = (let v = l.below in omega (arith, w.0, v)) in
    subst (λ (q : Request). MaySend d b q) (sym w.1) (
      is_free x c.given b c d h a s n under,
      record {
        once = ap (λ (p : Place). p.inode) same ∙ (l.rest b (omega (arith, w.0))).0;
        window = inl (s.unqueried (λ y q u. ap is_query (l.asks y q (part y q u)).1) ∙ l.opens.unqueried);
        healed = inl (ap (λ (v : Given). is_heal v.op) s.given ∙ a.of.unhealed, λ y u. s.heal y ∙ a.ready.heal y);
      },
    )
may_here x kind Query c f h d a l s part b r e n =
    let w = l.asks b r e in
    let g = subject c.given.op in
    let same = (unsent g b c d h s n).1 in
    subst (λ (q : Request). MaySend d b q) (sym w.4) (
      is_free x c.given b c d h a s n w.0,
      record {
        grant_held = subst (λ (o : Option Lock). has (λ (k : Lock). k.granted && (k.number == w.1.number)) o ≡ true) (sym (ap (λ (p : Place). p.inode) same ∙ w.2)) (holds_of w.1 w.3);
        asked = none_waits_for g c d h is_ask s (λ y q u. ap is_ask (l.asks y q (part y q u)).4);
        together = ⊎_elim (λ v. inl (v ∙ l.opens.unqueried)) (λ v. inr v) s.queried;
      },
    )

pub opening_may : (x : Ctx) (given : Given) (kind : LockKind) (o : Opening) (c : Account) (f h : Asks) (d : Account) → IsAt x given c → InOpening kind o c f → IsSent (subject given.op) c h d
    → ((y : ℕ) (r : Request) → h y ≡ Some r → f y ≡ Some r) → (b : ℕ) (r : Request) → f b ≡ Some r → h b ≡ None → MaySend d b r
opening_may x given kind o c f h d a l s = may_here x kind o c f h d (subst (λ (v : Given). IsAt x v c) (sym a.given_is) a) l (subst (λ (v : Given). IsSent (subject v.op) c h d) (sym a.given_is) s)

-- how it begins

pub opening_begins : (x : Ctx) (given : Given) (kind : LockKind) → IsOf x given → InOpening kind (Locking 0) (opened given) (opening_asks kind (Locking 0) (opened given))
opening_begins x given kind of =
    let g = subject given.op in
    let none : (y : ℕ) → at (opened given) g y ≡ no_place = λ (y : ℕ). opened_place given g y of.kept in
    record {
      opens = record {
        unqueried = ap (λ k. (kept_dealings k g).queried) of.kept;
        clean = ap (λ k. (kept_dealings k g).dirty) of.kept;
        quiet = λ y. ap (λ (p : Place). reply_to is_query p.window) (none y);
        locked = λ y lock e. absurd (let v = sym (ap (λ (p : Place). p.inode) (none y)) ∙ e in cc);
      };
      below = (let m = given.geometry.majority in omega (arith, m));
      rest = λ y l. (ap (λ (p : Place). p.inode) (none y), ap (λ (p : Place). p.window) (none y));
      asks = λ y r e. lock_is kind 0 (opened given) y r e;
    }

-- what the lock leaves

granted_done : (o : Option Reply) → is_granted o ≡ true → is_done o ≡ true
granted_done None e = absurd (cc)
granted_done (Some Granted) e = refl
granted_done (Some (Head h)) e = absurd (cc)
granted_done (Some (Chunks h)) e = absurd (cc)
granted_done (Some (Child h)) e = absurd (cc)
granted_done (Some (Names h)) e = absurd (cc)
granted_done (Some Done) e = absurd (cc)
granted_done (Some (NoGrant h)) e = absurd (cc)
granted_done (Some NoInode) e = absurd (cc)
granted_done (Some IsInode) e = absurd (cc)
granted_done (Some OtherKind) e = absurd (cc)
granted_done (Some (NotAt h)) e = absurd (cc)
granted_done (Some Fault) e = absurd (cc)
granted_done (Some (Gfids h)) e = absurd (cc)

-- a brick whose request is over
pub over_in : (r : Request) (p : Place) (w : Option Wait) (q : Place) → IsIn (Some r) p w q → w ≡ None → (i : ℕ) × (reply : Option Reply) × (q ≡ noted (asked_place p i r) (record { number = i; request = r; reply = reply }))
over_in r p w q (inl (i, e, f)) n = absurd (let v = sym n ∙ e in cc)
over_in r p w q (inr (i, reply, e, f)) n = (i, reply, f)

-- an ask that is over: the window has it, and the lock is there where it was granted
pub record AskOver (ask : Request) (p q : Place) : Type 0 where
  pub quiet : reply_to is_query p.window ≡ None → reply_to is_query q.window ≡ None
  pub locked : p.window ≡ [] → (lock : Lock) → q.inode ≡ Some lock → lock.granted ≡ true → Did (ask ∷ []) q.window

true_of : (i : ℕ) (o : Option Reply) (lock : Lock) → Some (record { number = i; granted = false || ((i == i) && is_granted o) }) ≡ Some lock → lock.granted ≡ true → is_granted o ≡ true
true_of i o lock e t =
    let f : (false || ((i == i) && is_granted o)) ≡ lock.granted = (let u = ap (λ (k : Lock). k.granted) (some_same (record { number = i; granted = false || ((i == i) && is_granted o) }) lock e) in u) in
    (and_parts (i == i) (is_granted o) (f ∙ t)).1

ask_over : (g i : ℕ) (kind : LockKind) (p : Place) (reply : Option Reply) → AskOver (Ask (record { 0 = g }) Inode kind) p (noted (asked_place p i (Ask (record { 0 = g }) Inode kind)) (record { number = i; request = Ask (record { 0 = g }) Inode kind; reply = reply }))
ask_over g i kind p reply = record {
  quiet = λ e. e;
  locked = λ empty lock e t. (
    ap (λ (es : List Exchange). Ask (record { 0 = g }) Inode kind ∷ map (λ (x : Exchange). x.request) es) empty,
    rw (granted_done reply (true_of i reply lock e t), empty) refl,
  );
}

-- what a lock that is over leaves at each brick
lock_over : (g n : ℕ) (kind : LockKind) (brick : ℕ) (c : Account) (f : Asks) (d : Account) → IsLocking g n kind brick c f → IsRound g c f d → IsIdle d → (y : ℕ)
    → (at d g y ≡ at c g y) ⊎ ((y ≡ brick) × AskOver (Ask (record { 0 = g }) Inode kind) (at c g y) (at d g y))
lock_over g n kind brick c f d l r idle y = go (f y) refl (r.each y)
  where
    go : (o : Option Request) → f y ≡ o → IsIn o (at c g y) (d.waits y) (at d g y) → (at d g y ≡ at c g y) ⊎ ((y ≡ brick) × AskOver (Ask (record { 0 = g }) Inode kind) (at c g y) (at d g y))
    go None e t = inl t.1
    go (Some q) e t =
        let w = l.asks y q e in
        let t' : IsIn (Some (Ask (record { 0 = g }) Inode kind)) (at c g y) (d.waits y) (at d g y) = subst (λ (v : Request). IsIn (Some v) (at c g y) (d.waits y) (at d g y)) w.1 t in
        let v = over_in (Ask (record { 0 = g }) Inode kind) (at c g y) (d.waits y) (at d g y) t' (idle y) in
        inr (w.0, subst (λ (p : Place). AskOver (Ask (record { 0 = g }) Inode kind) (at c g y) p) (sym v.2) (ask_over g v.0 kind (at c g y) v.1))

module _ (g n : ℕ) (kind : LockKind) (brick : ℕ) (c : Account) (f : Asks) (d e : Account) (l : IsLocking g n kind brick c f) (r : IsRound g c f d) (idle : IsIdle d) (u : IsUnlocked g d e) where
  opens_still : IsOpening g kind e
  opens_still = record {
    unqueried = u.queried ∙ (r.unqueried (λ y q x. ap is_query (l.asks y q x).1) ∙ l.opens.unqueried);
    clean = u.dirty ∙ (r.clean (λ y q x. ap is_pre (l.asks y q x).1) ∙ l.opens.clean);
    quiet = λ y. ap (λ es. reply_to is_query es) (u.window y) ∙ ⊎_elim
        (λ same. ap (λ (p : Place). reply_to is_query p.window) same ∙ l.opens.quiet y)
        (λ over. over.1.quiet (l.opens.quiet y))
        (lock_over g n kind brick c f d l r idle y);
    locked = λ y lock x. (let w = u.inode y lock x in subst (Did (Ask (record { 0 = g }) Inode kind ∷ [])) (sym (u.window y)) (⊎_elim
        (λ same. subst (λ (p : Place). Did (Ask (record { 0 = g }) Inode kind ∷ []) p.window) (sym same) (l.opens.locked y lock (ap (λ (p : Place). p.inode) (sym same) ∙ w.1)))
        (λ over. over.1.locked (l.rest y (omega (arith, over.0))).1 lock w.1 w.0)
        (lock_over g n kind brick c f d l r idle y)));
  }

  -- the bricks after it have nothing yet
  rest_still : (y : ℕ) → brick + 1 ≤ y → ((at e g y).inode ≡ None) × ((at e g y).window ≡ [])
  rest_still y more = ⊎_elim
      (λ same. let w = l.rest y (omega arith) in (unlocked (at e g y).inode refl (ap (λ (p : Place). p.inode) same ∙ w.0), u.window y ∙ (ap (λ (p : Place). p.window) same ∙ w.1)))
      (λ over. absurd (let v = over.0 in omega arith))
      (lock_over g n kind brick c f d l r idle y)
    where
      unlocked : (o : Option Lock) → (at e g y).inode ≡ o → (at d g y).inode ≡ None → (at e g y).inode ≡ None
      unlocked None x z = x
      unlocked (Some lock) x z = absurd (let w = sym z ∙ (u.inode y lock x).1 in cc)

  pub next_lock : brick + 1 < n → (h : Asks) → ((y : ℕ) (q : Request) → h y ≡ Some q → (y ≡ brick + 1) × (q ≡ Ask (record { 0 = g }) Inode kind)) → IsLocking g n kind (brick + 1) e h
  next_lock less h only = record { opens = opens_still; below = less; rest = rest_still; asks = only }

  pub next_query : (h : Asks) → ((y : ℕ) (q : Request) → h y ≡ Some q → (y < n) × (lock : Lock) × ((at d g y).inode ≡ Some lock) × (lock.granted ≡ true) × (q ≡ QueryOf (record { 0 = g }) lock.number)) → IsQuerying g n kind e h
  next_query h only = record { opens = opens_still; asks = λ y q x. let w = only y q x in (w.0, w.1, u.kept y w.1 w.2 w.3, w.3, w.4) }

go_same : {P : Type 0} (a b : P) → Go a ≡ Go b → a ≡ b
go_same a b e = cc

go_say : {P : Type 0} (a : P) (b : Answer) → Go a ≡ Say b → ⊥
go_say a b e = cc

-- what follows a lock
pub lock_follows : {P : Type 0} (into : Opening → P) (a b : Bool) (brick count : ℕ) (q : P) → Go q ≡ cond a (Go (into (Locking (brick + 1)))) (cond b (Go (into Query)) (Say (NoQuorum LockPhase count)))
    → ((a ≡ true) × (q ≡ into (Locking (brick + 1)))) ⊎ (q ≡ into Query)
lock_follows into true b brick count q e = inl (refl, go_same q (into (Locking (brick + 1))) e)
lock_follows into false true brick count q e = inr (go_same q (into Query) e)
lock_follows into false false brick count q e = absurd (go_say q (NoQuorum LockPhase count) e)

-- The opening goes on. `during` is what the call says of all its stages; in the opening that is `InOpening`.
pub lock_goes : {P : Type 0} (into : Opening → P) (judges : Account → Grouped → Next P → Type 0) (during : P → Account → Asks → Type 0) (asks : P → Account → Asks) (x : Ctx) (given : Given) (kind : LockKind) (brick : ℕ) (q : P) (c : Account) (f : Asks) (d e : Account)
    → ((o : Opening) (a : Account) (h : Asks) → InOpening kind o a h → during (into o) a h) → ((o : Opening) (a : Account) → asks (into o) a ≡ opening_asks kind o a)
    → IsAt x given c → InOpening kind (Locking brick) c f → IsRound (subject given.op) c f d → IsIdle d → OpeningFollows into judges (Locking brick) d (Go q) → IsAt x given e → IsUnlocked (subject given.op) d e → during q e (asks q d)
lock_goes {P} into judges during asks x given kind brick q c f d e dur ask a l r idle follows b u =
    let g = subject given.op in
    let n = bricks_of given in
    let l' : IsLocking g n kind brick c f = subst (λ (v : Given). IsLocking (subject v.op) (bricks_of v) kind brick c f) a.given_is l in
    let dg : d.given ≡ given = r.given ∙ a.given_is in
    ⊎_elim
    (λ w.
    let less : brick + 1 < n = (let t = w.0 in let m = ap bricks_of dg in grind (arith, nat_tests)) in
    subst (λ (z : P). during z e (asks z d)) (sym w.1)
    (subst (λ (h : Asks). during (into (Locking (brick + 1))) e h) (sym (ask (Locking (brick + 1)) d))
    (dur (Locking (brick + 1)) e (opening_asks kind (Locking (brick + 1)) d)
    (subst (λ (v : Given). IsLocking (subject v.op) (bricks_of v) kind (brick + 1) e (opening_asks kind (Locking (brick + 1)) d)) (sym b.given_is)
    (next_lock g n kind brick c f d e l' r idle u less (opening_asks kind (Locking (brick + 1)) d) (λ y s t. subst (λ (v : Given). (y ≡ brick + 1) × (s ≡ Ask (record { 0 = subject v.op }) Inode kind)) dg (lock_is kind (brick + 1) d y s t)))))))
    (λ w.
    subst (λ (z : P). during z e (asks z d)) (sym w)
    (subst (λ (h : Asks). during (into Query) e h) (sym (ask Query d))
    (dur Query e (opening_asks kind Query d)
    (subst (λ (v : Given). IsQuerying (subject v.op) (bricks_of v) kind e (opening_asks kind Query d)) (sym b.given_is)
    (next_query g n kind brick c f d e l' r idle u (opening_asks kind Query d) (λ y s t. subst (λ (v : Given). (y < bricks_of v) × (lock : Lock) × ((at d (subject v.op) y).inode ≡ Some lock) × (lock.granted ≡ true) × (s ≡ QueryOf (record { 0 = subject v.op }) lock.number)) dg (query_is kind d y s t)))))))
    (lock_follows into (nat_lt (brick + 1) (bricks_of d.given)) (nat_le (quorum_of d.given) (count_locks d (subject d.given.op))) brick (count_locks d (subject d.given.op)) q follows)

-- the locks by what is known

locked_held : (o : Option Lock) → is_locked (held o) ≡ is_held o
locked_held None = refl
locked_held (Some lock) = refl

pub count_same : (g : ℕ) (known : Known) (c : Account) → Shows g (bricks_of c.given) known c → count_below (bricks_of c.given) (λ x. is_locked (place_at known.places.items x).lock) ≡ count_locks c g
count_same g known c s = ap (count_below (bricks_of c.given)) (fun_ext (λ x. ap (λ (p : KnownPlace). is_locked p.lock) (s.each x) ∙ locked_held (at c g x).inode))

pub lock_follows_by : (x : Ctx) (known : Known) (c : Account) (brick count : ℕ) → IsOf x c.given → Shows (subject c.given.op) (bricks_of c.given) known c → count ≡ count_below x.geometry.n (λ y. is_locked (place_at known.places.items y).lock)
    → (a b : Bool) → a ≡ nat_lt (brick + 1) x.geometry.n → b ≡ nat_le (x.geometry.n - x.geometry.r) count
    → (next : Next Opening) → next ≡ cond a (Go (Locking (brick + 1))) (cond b (Go Query) (Say (NoQuorum LockPhase count))) → OpeningFollows (λ o. o) (λ c grouped next. ⊥) (Locking brick) c next
lock_follows_by x known c brick count of s e a b ea eb next en =
    let k : count ≡ count_locks c (subject c.given.op) = e ∙ (ap (λ (v : Geometry). count_below v.n (λ y. is_locked (place_at known.places.items y).lock)) (sym of.geometry) ∙ count_same (subject c.given.op) known c s) in
    let first : a ≡ nat_lt (brick + 1) (bricks_of c.given) = ea ∙ ap (λ (v : Geometry). nat_lt (brick + 1) v.n) (sym of.geometry) in
    let second : b ≡ nat_le (quorum_of c.given) (count_locks c (subject c.given.op)) = eb ∙ (ap (λ (v : Geometry). nat_le (v.n - v.r) count) (sym of.geometry) ∙ ap (nat_le (quorum_of c.given)) k) in
    en ∙ (λ j. cond (first j) (Go (Locking (brick + 1))) (cond (second j) (Go Query) (Say (NoQuorum LockPhase (k j)))))

-- the opening as a part of a longer table

next_into : {P : Type 0} (into : Opening → P) (a b : Bool) (x y : Opening) (z : Answer) (next : Next Opening) → next ≡ cond a (Go x) (cond b (Go y) (Say z)) → next_as into next ≡ cond a (Go (into x)) (cond b (Go (into y)) (Say z))
next_into into true b x y z next e = ap (next_as into) e
next_into into false true x y z next e = ap (next_as into) e
next_into into false false x y z next e = ap (next_as into) e

pub lock_into : {P : Type 0} (into : Opening → P) (judges : Account → Grouped → Next P → Type 0) (brick : ℕ) (c : Account) (next : Next Opening) → OpeningFollows (λ o. o) (λ c grouped next. ⊥) (Locking brick) c next → OpeningFollows into judges (Locking brick) c (next_as into next)
lock_into into judges brick c next e = next_into into (nat_lt (brick + 1) (bricks_of c.given)) (nat_le (quorum_of c.given) (count_locks c (subject c.given.op))) (Locking (brick + 1)) Query (NoQuorum LockPhase (count_locks c (subject c.given.op))) next e
