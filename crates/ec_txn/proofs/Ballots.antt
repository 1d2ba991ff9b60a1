-- The ballot of a change keeps the conduct.
use Rattle.std.proofs.Common.{◌≡◌, inl, inr, ℕ, ◌<◌, ◌==◌, ◌&&◌, ◌||◌, nat_lt, Bool, true, false, cond, refl, sym, ◌∙◌, ap, subst, ◌∷◌, arith, Option, Some, None}
use Rattle.std.proofs.lemmas.Bool.{and_parts, cases_Bool}
use Rattle.std.proofs.lemmas.Bool.Decides.{nat_tests}
use Rattle.std.proofs.Math.Path.{fun_ext}
use Rattle.ec_answers.specs.declared.grouped.Group.{Group}
use Rattle.ec_conduct.specs.Account.{Account, Exchange, Lock, Place, at, granted, is_granted, noted}
use Rattle.ec_conduct.specs.Done.{failed_none, is_any, is_done}
use Rattle.ec_conduct.specs.Given.{bricks_of, quorum_of}
use Rattle.ec_conduct.specs.Group.{Heads}
use Rattle.ec_conduct.specs.Standing.{heads_at}
use Rattle.ec_wire.specs.declared.reply.Reply.{Reply}
use Rattle.ec_wire.specs.declared.request.Request.{Request}
use Rattle.ec_txn.specs.Rounds.{Asks, IsIdle, IsIn, IsRound, IsUnlocked, asked_place, subject}
use Rattle.ec_txn.specs.Ballot.{IsGroupAt, grant_of, serving, to_members, under, version_at, is_within}
use Rattle.ec_txn.proofs.Openings.{over_in}

-- what serves goes on to serve

some_is : {A : Type 0} (a b : A) → Some a ≡ Some b → a ≡ b
some_is a b e = cc

no_some : {A : Type 0} (a : A) → None ≡ Some a → ⊥
no_some a e = cc

pub grant_is : (o : Option Lock) (i : ℕ) → grant_of o ≡ Some i → (lock : Lock) × (o ≡ Some lock) × (lock.granted ≡ true) × (lock.number ≡ i)
grant_is None i e = absurd (no_some i e)
grant_is (Some lock) i e = go lock.granted refl
  where
    go : (t : Bool) → lock.granted ≡ t → (other : Lock) × (Some lock ≡ Some other) × (other.granted ≡ true) × (other.number ≡ i)
    go true u = (lock, refl, u, some_is lock.number i (ap (λ (t : Bool). cond t (Some lock.number) None) (sym u) ∙ e))
    go false u = absurd (no_some i (ap (λ (t : Bool). cond t (Some lock.number) None) (sym u) ∙ e))

pub is_granted_of : (o : Option Lock) (lock : Lock) → o ≡ Some lock → lock.granted ≡ true → grant_of o ≡ Some lock.number
is_granted_of o lock e t = ap grant_of e ∙ ap (λ (u : Bool). cond u (Some lock.number) None) t

cond_some : (t : Bool) (o : Option ℕ) (i : ℕ) → cond t o None ≡ Some i → (t ≡ true) × (o ≡ Some i)
cond_some true o i e = (refl, e)
cond_some false o i e = absurd (no_some i e)

-- a brick that serves did all and holds its grant
pub serving_is : (p : Place) (i : ℕ) → serving p ≡ Some i → (failed_none is_any p.window ≡ true) × (grant_of p.inode ≡ Some i)
serving_is p i e = cond_some (failed_none is_any p.window) (grant_of p.inode) i e

pub serves_by : (p : Place) (i : ℕ) → failed_none is_any p.window ≡ true → grant_of p.inode ≡ Some i → serving p ≡ Some i
serves_by p i t e = ap (λ (u : Bool). cond u (grant_of p.inode) None) t ∙ e

or_true : (a b : Bool) → a ≡ true → (a || b) ≡ true
or_true true b e = refl
or_true false b e = absurd (cc)

granted_stays : (o : Option Lock) (x : Exchange) (i : ℕ) → grant_of o ≡ Some i → grant_of (granted o x) ≡ Some i
granted_stays o x i e =
    let w = grant_is o i e in
    let k : Lock = record w.0 { granted = w.0.granted || ((w.0.number == x.number) && is_granted x.reply) } in
    is_granted_of (granted o x) k (ap (λ (l : Option Lock). granted l x) w.1) (or_true w.0.granted ((w.0.number == x.number) && is_granted x.reply) w.2) ∙ ap (λ (n : ℕ). Some n) w.3

-- a brick that served and was asked, and serves still, did what it was asked
pub still_serves : (p : Place) (x : Exchange) (i j : ℕ) → serving p ≡ Some i → serving (noted p x) ≡ Some j → (j ≡ i) × (is_done x.reply ≡ true)
still_serves p x i j e f =
    let a = serving_is p i e in
    let b = serving_is (noted p x) j f in
    (some_is j i (sym b.1 ∙ granted_stays p.inode x i a.1), (and_parts (is_done x.reply) (failed_none is_any p.window) b.0).0)

-- what is asked of a member

abbrev no_request : Option Request
no_request = None

pub asked_member : (group : Group) (f : ℕ → ℕ → Request) (c : Account) (x i v : ℕ) → is_within group.head ≡ true → x < bricks_of c.given → serving (at c (subject c.given.op) x) ≡ Some i → version_at group x ≡ Some v
    → to_members group f c x ≡ Some (f i v)
asked_member group f c x i v w l s e =
    let t : nat_lt x (bricks_of c.given) ≡ true = grind (arith, nat_tests) in
    rw (w, t, s, e) refl

under_is : (a b : Option ℕ) (f : ℕ → ℕ → Request) (r : Request) → under a b f ≡ Some r → (i v : ℕ) × (a ≡ Some i) × (b ≡ Some v) × (r ≡ f i v)
under_is None b f r e = absurd (cc)
under_is (Some i) None f r e = absurd (cc)
under_is (Some i) (Some v) f r e = (i, v, refl, refl, (let w : f i v ≡ r = cc in sym w))

within_is : (a b : Bool) (o : Option Request) (r : Request) → cond (a && b) o None ≡ Some r → (a ≡ true) × (b ≡ true) × (o ≡ Some r)
within_is true true o r e = (refl, refl, e)
within_is true false o r e = absurd (cc)
within_is false b o r e = absurd (cc)

-- a request of a stage: it goes to a brick that serves, under its grant and by its version
pub record AskedAs (group : Group) (f : ℕ → ℕ → Request) (c : Account) (x : ℕ) (r : Request) : Type 0 where
  pub within : is_within group.head ≡ true
  pub below : x < bricks_of c.given
  pub grant : ℕ
  pub version : ℕ
  pub serves : serving (at c (subject c.given.op) x) ≡ Some grant
  pub versioned : version_at group x ≡ Some version
  pub request : r ≡ f grant version

pub member_asked : (group : Group) (f : ℕ → ℕ → Request) (c : Account) (x : ℕ) (r : Request) → to_members group f c x ≡ Some r → AskedAs group f c x r
member_asked group f c x r e =
    let a = within_is (is_within group.head) (nat_lt x (bricks_of c.given)) (under (serving (at c (subject c.given.op) x)) (version_at group x) f) r e in
    let b = under_is (serving (at c (subject c.given.op) x)) (version_at group x) f r a.2 in
    record { within = a.0; below = (let t = a.1 in grind (arith, nat_tests)); grant = b.0; version = b.1; serves = b.2; versioned = b.3; request = b.4 }

-- a round to members is over

-- what a member that serves after the round did in it
pub record DidAsked (f : ℕ → ℕ → Request) (p q : Place) (grant version : ℕ) : Type 0 where
  pub number : ℕ
  pub reply : Option Reply
  pub done : is_done reply ≡ true
  pub served : serving p ≡ Some grant
  pub window : q.window ≡ record { number = number; request = f grant version; reply = reply } ∷ p.window

-- f asks for no lock
abbrev pub LocksNothing : (ℕ → ℕ → Request) → Type 0
LocksNothing f = (p : Place) (i grant version : ℕ) → asked_place p i (f grant version) ≡ p

noted_is : (f : ℕ → ℕ → Request) (p q : Place) (i j v k : ℕ) (reply : Option Reply) → LocksNothing f → serving p ≡ Some i → serving q ≡ Some j → q ≡ noted (asked_place p k (f i v)) (record { number = k; request = f i v; reply = reply })
    → DidAsked f p q j v
noted_is f p q i j v k reply plain s t e =
    let x : Exchange = record { number = k; request = f i v; reply = reply } in
    let e' : q ≡ noted p x = e ∙ ap (λ (z : Place). noted z x) (plain p k i v) in
    let w = still_serves p x i j s (sym (ap serving e') ∙ t) in
    record {
      number = k;
      reply = reply;
      done = w.1;
      served = s ∙ ap (λ (n : ℕ). Some n) (sym w.0);
      window = ap (λ (z : Place). z.window) e' ∙ ap (λ (n : ℕ). record { number = k; request = f n v; reply = reply } ∷ p.window) (sym w.0);
    }

none_of : (u : Bool) → cond u no_request None ≡ no_request
none_of true = refl
none_of false = refl

pub did_asked : (group : Group) (f : ℕ → ℕ → Request) (g x j v : ℕ) (c : Account) (h : Asks) (d : Account) → LocksNothing f → g ≡ subject c.given.op → is_within group.head ≡ true → ((y : ℕ) → h y ≡ to_members group f c y)
    → IsRound g c h d → IsIdle d → x < bricks_of c.given → serving (at d g x) ≡ Some j → version_at group x ≡ Some v → DidAsked f (at c g x) (at d g x) j v
did_asked group f g x j v c h d plain same within asks r idle l t e = go (serving (at c g x)) refl
  where
    go : (o : Option ℕ) → serving (at c g x) ≡ o → DidAsked f (at c g x) (at d g x) j v
    go None s =
        let none : h x ≡ None = asks x ∙ (let s' : serving (at c (subject c.given.op) x) ≡ None = ap (λ (n : ℕ). serving (at c n x)) (sym same) ∙ s in rw s' (none_of (is_within group.head && nat_lt x (bricks_of c.given)))) in
        let kept : at d g x ≡ at c g x = (subst (λ (q : Option Request). IsIn q (at c g x) (d.waits x) (at d g x)) none (r.each x)).1 in
        absurd (no_some j (sym s ∙ (sym (ap serving kept) ∙ t)))
    go (Some i) s =
        let asked : h x ≡ Some (f i v) = asks x ∙ asked_member group f c x i v within l (ap (λ (n : ℕ). serving (at c n x)) (sym same) ∙ s) e in
        let w = over_in (f i v) (at c g x) (d.waits x) (at d g x) (subst (λ (q : Option Request). IsIn q (at c g x) (d.waits x) (at d g x)) asked (r.each x)) (idle x) in
        noted_is f (at c g x) (at d g x) i j v w.0 w.1 plain s t w.2

-- releases of asks that weren't granted change nobody that serves

unlocked_grant : (g x : ℕ) (d e : Account) → IsUnlocked g d e → grant_of (at e g x).inode ≡ grant_of (at d g x).inode
unlocked_grant g x d e u = go (at e g x).inode refl
  where
    here : (o : Option Lock) → (at d g x).inode ≡ o → (at e g x).inode ≡ None → grant_of o ≡ None
    here None a b = refl
    here (Some lock) a b = elim (cases_Bool lock.granted) [
      | inl t ↦ absurd (let w = sym b ∙ u.kept x lock a t in no_some lock w)
      | inr t ↦ ap (λ (v : Bool). cond v (Some lock.number) None) t
    ]

    go : (o : Option Lock) → (at e g x).inode ≡ o → grant_of (at e g x).inode ≡ grant_of (at d g x).inode
    go None a = ap grant_of a ∙ sym (here (at d g x).inode refl a)
    go (Some lock) a = ap grant_of a ∙ sym (ap grant_of (u.inode x lock a).1)

pub unlocked_serving : (g x : ℕ) (d e : Account) → IsUnlocked g d e → serving (at e g x) ≡ serving (at d g x)
unlocked_serving g x d e u = λ j. cond (failed_none is_any (u.window x j)) (unlocked_grant g x d e u j) None

-- the group stays as long as nobody is asked for a head

pub group_stays : (c d : Account) (g : ℕ) (group : Group) → d.given ≡ c.given → ((x : ℕ) → heads_at d g x ≡ heads_at c g x) → IsGroupAt c g group → IsGroupAt d g group
group_stays c d g group eg eh i =
    let hs : heads_at d g ≡ heads_at c g = fun_ext eh in
    record {
      head = (λ j. Rattle.ec_conduct.specs.Group.group_head (bricks_of (eg j)) (quorum_of (eg j)) (hs j)) ∙ i.head;
      bricks = λ x. (λ j. Rattle.ec_conduct.specs.Group.is_good (bricks_of (eg j)) (quorum_of (eg j)) (hs j) x) ∙ i.bricks x;
      sinks = λ x. (λ j. Rattle.ec_conduct.specs.Group.is_sink (bricks_of (eg j)) (quorum_of (eg j)) (hs j) x) ∙ i.sinks x;
    }
