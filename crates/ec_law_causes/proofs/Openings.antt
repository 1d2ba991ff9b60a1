-- The locks and the Queries of a call, and what they come to.
use Rattle.std.proofs.Common.{◌≡◌, ◌⊎◌, inl, inr, ℕ, ◌+◌, ◌<◌, ◌≤◌, ◌==◌, nat_lt, is_some, true, false, cond, refl, sym, ◌∙◌, ap, subst, List, arith, Option, Some, None, eq-eqb}
use Rattle.std.proofs.Math.Path.{fun_ext}
use Rattle.std.proofs.lemmas.Bool.{cases_Bool, cases_eq}
use Rattle.std.proofs.lemmas.Bool.Decides.{nat_tests}
use Rattle.ec_attr.specs.Bricks.{count_below}
use Rattle.ec_attr.specs.declared.kind.Domain.TheVariants.{Inode}
use Rattle.ec_attr.specs.declared.kind.LockKind.{LockKind}
use Rattle.ec_conduct.specs.Account.{Account, Exchange, Lock, Place as PlaceOf, at, is_granted, noted}
use Rattle.ec_conduct.specs.Done.{is_lock, reply_to, tried}
use Rattle.ec_conduct.specs.Given.{Given, bricks_of, quorum_of}
use Rattle.ec_conduct.specs.Opened.{opened}
use Rattle.ec_conduct.specs.Standing.{is_held}
use Rattle.ec_wire.specs.declared.reply.Reply.{Reply}
use Rattle.ec_wire.specs.declared.request.Request.{Request}
use Rattle.ec_wire.specs.declared.request.Request.TheVariants.{Ask}
use Rattle.ec_txn.specs.Opening.{IsLocking, opening_asks, query_of}
use Rattle.ec_txn.specs.Rounds.{Asks, IsIdle, IsIn, IsRound, IsUnlocked, asked_place, subject}
use Rattle.ec_txn.specs.declared.opening.Opening.{Opening}
use Rattle.ec_txn.specs.declared.opening.Opening.TheVariants.{Lock as Locking, Query}
use Rattle.ec_txn.proofs.Openings.{over_in}
use Rattle.ec_txn.proofs.Steps.{opened_place}
use Rattle.ec_law_causes.proofs.Ranks.{Below, below_over, is_late, rank}
use Rattle.ec_law_causes.proofs.Rounds.{IsOver, over_at}

-- A lock is held exactly where it was granted.
abbrev pub HoldsGranted : ℕ → Account → Type 0
HoldsGranted g c = (x : ℕ) → is_held (at c g x).inode ≡ is_granted (reply_to is_lock (at c g x).window)

-- Bricks are asked for the lock one after another.
pub record HereLocking (g : ℕ) (kind : LockKind) (brick : ℕ) (c : Account) (f : Asks) : Type 0 where
  pub asks : f brick ≡ Some (Ask (record { 0 = g }) Inode kind)
  pub asked : (x : ℕ) → x < brick → tried is_lock (at c g x).window ≡ true
  pub held : HoldsGranted g c
  pub below : Below 1 (λ x. (at c g x).window)

-- All were asked, a quorum granted, and those are asked for their heads.
pub record HereQuerying (g n k : ℕ) (c : Account) (f : Asks) : Type 0 where
  pub asks : (x : ℕ) → x < n → is_held (at c g x).inode ≡ true → is_some (f x) ≡ true
  pub asked : (x : ℕ) → x < n → tried is_lock (at c g x).window ≡ true
  pub held : HoldsGranted g c
  pub enough : k ≤ count_below n (λ x. is_granted (reply_to is_lock (at c g x).window))
  pub below : Below 1 (λ x. (at c g x).window)

abbrev pub HereOpening : LockKind → Given → Opening → Account → Asks → Type 0
HereOpening kind given (Locking brick) c f = HereLocking (subject given.op) kind brick c f
HereOpening kind given Query c f = HereQuerying (subject given.op) (bricks_of given) (quorum_of given) c f

pub opening_here : (kind : LockKind) (given : Given) → given.kept ≡ None → HereOpening kind given (Locking 0) (opened given) (opening_asks kind (Locking 0) (opened given))
opening_here kind given none = record {
  asks = refl;
  asked = λ x l. absurd (omega arith);
  held = λ x. ap (λ (p : PlaceOf). is_held p.inode) (opened_place given (subject given.op) x none) ∙ sym (ap (λ (p : PlaceOf). is_granted (reply_to is_lock p.window)) (opened_place given (subject given.op) x none));
  below = λ x. ap (λ (p : PlaceOf). tried (is_late 1) p.window) (opened_place given (subject given.op) x none);
}

-- a lock that is over
held_over : (g i : ℕ) (kind : LockKind) (p : PlaceOf) (reply : Option Reply) → is_held (noted (asked_place p i (Ask (record { 0 = g }) Inode kind)) (record { number = i; request = Ask (record { 0 = g }) Inode kind; reply = reply })).inode ≡ is_granted reply
held_over g i kind p reply = let t = eq-eqb i i refl in rw t refl

lock_is : (g n : ℕ) (kind : LockKind) (brick : ℕ) (c : Account) (f : Asks) (x : ℕ) → IsLocking g n kind brick c f → x < brick → f x ≡ None
lock_is g n kind brick c f x l less = go (f x) refl
  where
    go : (o : Option Request) → f x ≡ o → f x ≡ None
    go None e = e
    go (Some q) e = absurd (let w = (l.asks x q e).0 in omega (arith, w))

module _ (g n : ℕ) (kind : LockKind) (brick : ℕ) (c : Account) (f : Asks) (d : Account) (l : IsLocking g n kind brick c f) (h : HereLocking g kind brick c f) (r : IsRound g c f d) (idle : IsIdle d) where
  pub held_now : HoldsGranted g d
  held_now x = go (f x) refl (r.each x)
    where
      go : (o : Option Request) → f x ≡ o → IsIn o (at c g x) (d.waits x) (at d g x) → is_held (at d g x).inode ≡ is_granted (reply_to is_lock (at d g x).window)
      go None e t = ap (λ (p : PlaceOf). is_held p.inode) t.1 ∙ (h.held x ∙ sym (ap (λ (p : PlaceOf). is_granted (reply_to is_lock p.window)) t.1))
      go (Some q) e t =
          let w = l.asks x q e in
          let v = over_in q (at c g x) (d.waits x) (at d g x) t (idle x) in
          let same : at d g x ≡ noted (asked_place (at c g x) v.0 (Ask (record { 0 = g }) Inode kind)) (record { number = v.0; request = Ask (record { 0 = g }) Inode kind; reply = v.1 }) = v.2 ∙ ap (λ (s : Request). noted (asked_place (at c g x) v.0 s) (record { number = v.0; request = s; reply = v.1 })) w.1 in
          ap (λ (p : PlaceOf). is_held p.inode) same ∙ (held_over g v.0 kind (at c g x) v.1 ∙ sym (ap (λ (p : PlaceOf). is_granted (reply_to is_lock p.window)) same))

  pub asked_now : (x : ℕ) → x < brick + 1 → tried is_lock (at d g x).window ≡ true
  asked_now x less = elim (cases_eq x brick) [
    | inl e ↦ subst (λ (y : ℕ). tried is_lock (at d g y).window ≡ true) (sym e) (let w : IsOver (Some (Ask (record { 0 = g }) Inode kind)) (at c g brick).window (at d g brick).window = subst (λ (o : Option Request). IsOver o (at c g brick).window (at d g brick).window) h.asks (over_at g c f d r idle brick) in ap (tried is_lock) w.2)
    | inr e ↦ let under : x < brick = omega (arith, less, e) in
        let same : (at d g x).window ≡ (at c g x).window = subst (λ (o : Option Request). IsOver o (at c g x).window (at d g x).window) (lock_is g n kind brick c f x l under) (over_at g c f d r idle x) in
        ap (tried is_lock) same ∙ h.asked x under
  ]

  pub below_now : Below 1 (λ x. (at d g x).window)
  below_now x = below_over 1 1 (f x) (at c g x).window (at d g x).window (omega arith) (over_at g c f d r idle x) (λ q e. let w = (l.asks x q e).1 in let v : rank q ≡ 0 = ap rank w in omega (arith, v)) (h.below x)

-- asks that weren't granted are released
pub held_unlocked : (g : ℕ) (d e : Account) → IsUnlocked g d e → (x : ℕ) → is_held (at e g x).inode ≡ is_held (at d g x).inode
held_unlocked g d e u x = here (at e g x).inode (at d g x).inode refl refl
  where
    here : (o p : Option Lock) → (at e g x).inode ≡ o → (at d g x).inode ≡ p → is_held (at e g x).inode ≡ is_held (at d g x).inode
    here (Some lock) p a b = ap is_held (a ∙ sym (u.inode x lock a).1)
    here None None a b = ap is_held (a ∙ sym b)
    here None (Some lock) a b = by (cases_Bool lock.granted)
      where
        by : ((lock.granted ≡ true) ⊎ (lock.granted ≡ false)) → is_held (at e g x).inode ≡ is_held (at d g x).inode
        by (inl t) = absurd (let w = sym a ∙ u.kept x lock b t in cc)
        by (inr t) = ap is_held a ∙ sym (ap is_held b ∙ t)

pub holds_unlocked : (g : ℕ) (d e : Account) → IsUnlocked g d e → HoldsGranted g d → HoldsGranted g e
holds_unlocked g d e u h x = held_unlocked g d e u x ∙ (h x ∙ ap (λ (es : List Exchange). is_granted (reply_to is_lock es)) (sym (u.window x)))

pub asked_unlocked : (g : ℕ) (d e : Account) → IsUnlocked g d e → (x : ℕ) → tried is_lock (at d g x).window ≡ true → tried is_lock (at e g x).window ≡ true
asked_unlocked g d e u x t = ap (tried is_lock) (u.window x) ∙ t

-- how many hold a lock and how many granted
pub count_granted : (g n : ℕ) (d : Account) → HoldsGranted g d → count_below n (λ x. is_held (at d g x).inode) ≡ count_below n (λ x. is_granted (reply_to is_lock (at d g x).window))
count_granted g n d h = ap (count_below n) (fun_ext h)

query_some : (g : ℕ) (o : Option Lock) → is_held o ≡ true → is_some (query_of g o) ≡ true
query_some g None e = e
query_some g (Some lock) e = rw e refl

-- the next brick is asked for the lock
pub next_lock : (given : Given) (kind : LockKind) (brick : ℕ) (c : Account) (f : Asks) (d e : Account) → d.given ≡ given → IsLocking (subject given.op) (bricks_of given) kind brick c f → HereLocking (subject given.op) kind brick c f
    → IsRound (subject given.op) c f d → IsIdle d → IsUnlocked (subject given.op) d e → HereOpening kind given (Locking (brick + 1)) e (opening_asks kind (Locking (brick + 1)) d)
next_lock given kind brick c f d e dg l h r idle u =
    let g = subject given.op in
    let n = bricks_of given in
    record {
      asks = (let t = eq-eqb (brick + 1) (brick + 1) refl in ap (λ (v : Given). cond ((brick + 1) == (brick + 1)) (Some (Ask (record { 0 = subject v.op }) Inode kind)) None) dg ∙ rw t refl);
      asked = λ x less. asked_unlocked g d e u x (asked_now g n kind brick c f d l h r idle x less);
      held = holds_unlocked g d e u (held_now g n kind brick c f d l h r idle);
      below = subst (Below 1) (sym (fun_ext u.window)) (below_now g n kind brick c f d l h r idle);
    }

-- those that granted are asked for their heads
pub next_query : (given : Given) (kind : LockKind) (brick : ℕ) (c : Account) (f : Asks) (d e : Account) → d.given ≡ given → IsLocking (subject given.op) (bricks_of given) kind brick c f → HereLocking (subject given.op) kind brick c f
    → IsRound (subject given.op) c f d → IsIdle d → IsUnlocked (subject given.op) d e → bricks_of given ≤ brick + 1 → quorum_of given ≤ count_below (bricks_of given) (λ x. is_held (at d (subject given.op) x).inode)
    → HereOpening kind given Query e (opening_asks kind Query d)
next_query given kind brick c f d e dg l h r idle u all enough =
    let g = subject given.op in
    let n = bricks_of given in
    record {
      asks = λ x less is. subst (λ (v : Given). is_some (cond (nat_lt x (bricks_of v)) (query_of (subject v.op) (at d (subject v.op) x).inode) None) ≡ true) (sym dg)
          (let t : nat_lt x n ≡ true = grind (arith, nat_tests) in rw t (query_some g (at d g x).inode (sym (held_unlocked g d e u x) ∙ is)));
      asked = λ x less. asked_unlocked g d e u x (asked_now g n kind brick c f d l h r idle x (omega (arith, less, all)));
      held = holds_unlocked g d e u (held_now g n kind brick c f d l h r idle);
      enough = subst (λ (ws : ℕ → List Exchange). quorum_of given ≤ count_below n (λ x. is_granted (reply_to is_lock (ws x)))) (sym (fun_ext u.window)) (subst (λ (m : ℕ). quorum_of given ≤ m) (count_granted g n d (held_now g n kind brick c f d l h r idle)) enough);
      below = subst (Below 1) (sym (fun_ext u.window)) (below_now g n kind brick c f d l h r idle);
    }
