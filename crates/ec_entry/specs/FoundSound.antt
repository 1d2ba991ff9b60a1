-- The children that bricks named were found, and stay so; their records may be removed after the commit.
use Rattle.std.proofs.Common.{◌≡◌, ◌⊎◌, inl, inr, ⊎_elim, ℕ, zero, suc, ◌+◌, ◌-◌, ◌<◌, ◌≤◌, ◌&&◌, ◌||◌, nat_lt, nat_le, Bool, true, false, cond, refl, sym, ◌∙◌, ap, subst, arith, eq-eqb, Option, Some, None, List, [], ◌∷◌}
use Rattle.std.specs.List.{list_any}
use Rattle.std.proofs.lemmas.Bool.{and_parts}
use Rattle.std.proofs.lemmas.Bool.Decides.{nat_tests}
use Rattle.ec_answers.specs.declared.grouped.Group.{Group}
use Rattle.ec_attr.specs.Bricks.{count_below, is_in}
use Rattle.ec_attr.specs.GoodGroup.{alike, alike_heads}
use Rattle.ec_attr.proofs.Sets.{count_none, count_out}
use Rattle.ec_attr.specs.declared.gfid.Gfid.{Gfid}
use Rattle.ec_attr.specs.declared.head.Head.{Head}
use Rattle.ec_attr.specs.declared.kind.Child.{Child as ChildOf}
use Rattle.ec_attr.specs.declared.kind.LockKind.{LockKind}
use Rattle.ec_brick.specs.Fit.{IsFit}
use Rattle.ec_conduct.specs.Account.{Account, Exchange, Lock, Place, at, gfid_of}
use Rattle.ec_conduct.specs.Children.{IsFound, IsPosted, MayUnmake, leads_to}
use Rattle.ec_conduct.specs.Conduct.{IsFree, MaySend}
use Rattle.ec_conduct.specs.Data.{removes_child}
use Rattle.ec_conduct.specs.Done.{is_lock, is_name, is_query, reply_to}
use Rattle.ec_conduct.specs.Given.{Given, bricks_of, quorum_of}
use Rattle.ec_conduct.specs.Group.{Heads, is_good}
use Rattle.ec_conduct.specs.Standing.{head_of, heads_at, holds, is_grouped}
use Rattle.ec_txn.specs.declared.ctx.Ctx.{Ctx}
use Rattle.ec_txn.specs.Ballot.{IsGroupAt}
use Rattle.ec_txn.specs.Fetching.{under}
use Rattle.ec_txn.specs.Opening.{IsQuerying}
use Rattle.ec_txn.specs.Replies.{last_reply, replied}
use Rattle.ec_txn.specs.Rounds.{Asks, IsIdle, IsIn as IsInRound, IsOn, IsReleased, IsRound, IsSent, IsSentTo, IsUnlocked, asked_place, is_plain, subject}
use Rattle.ec_txn.specs.Tables.{IsIn}
use Rattle.ec_txn.proofs.BallotGoes.{Grows, posted_released}
use Rattle.ec_txn.proofs.Fetching.{held_here, under_is, within}
use Rattle.ec_txn.proofs.Openings.{is_free, over_in, unsent}
use Rattle.ec_wire.specs.declared.op.Op.{Op}
use Rattle.ec_wire.specs.declared.reply.Reply.{Reply}
use Rattle.ec_wire.specs.declared.reply.Reply.TheVariants.{Granted, Head as HeadIs, Chunks, Child, Names, Done, NoGrant, NoInode, IsInode, OtherKind, NotAt, Fault, Gfids}
use Rattle.ec_wire.specs.declared.request.Request.{Request}
use Rattle.ec_entry.specs.declared.children.Children.{Children}
use Rattle.ec_entry.specs.Changing.{InNaming}
use Rattle.ec_entry.specs.Children.{AreNamed, child_by, gfid_in}
use Rattle.ec_entry.specs.MembersSound.{grow_by}
use Rattle.ec_entry.specs.Named.{Value, said, value_in}
use Rattle.ec_entry.specs.Unlink.{AreFound, AreSilent, InRemoval, to_locked, unmake_request}

no_some : {A : Type 0} (a : A) → None ≡ Some a → ⊥
no_some a e = cc

-- a brick of the good group has replied a head

count_zero : (n : ℕ) (p : ℕ → Bool) → ((x : ℕ) → p x ≡ false) → count_below n p ≡ 0
count_zero zero p h = count_none p
count_zero (suc n) p h = count_out n p (h n) ∙ count_zero n p h

good_head : (n k x : ℕ) (heads : Heads) → 0 < k → is_good n k heads x ≡ true → heads x ≡ None → ⊥
good_head n k x heads pos good e =
    let zero_of : count_below n (alike heads x) ≡ 0 = count_zero n (alike heads x) (λ y. ap (λ o. alike_heads o (heads y)) e) in
    let t : nat_le k 0 ≡ true = ap (nat_le k) (sym zero_of) ∙ good in
    let l : k ≤ 0 = grind (arith, nat_tests) in
    omega arith

-- a reply that tells of a name has no head
apart : (o : Option Reply) → (value_in o ≡ None) ⊎ (head_of o ≡ None)
apart None = inl refl
apart (Some Granted) = inl refl
apart (Some (HeadIs h)) = inl refl
apart (Some (Chunks x)) = inl refl
apart (Some (Child x)) = inr refl
apart (Some (Names x)) = inl refl
apart (Some Done) = inl refl
apart (Some (NoGrant x)) = inl refl
apart (Some NoInode) = inl refl
apart (Some IsInode) = inl refl
apart (Some OtherKind) = inl refl
apart (Some (NotAt x)) = inl refl
apart (Some Fault) = inl refl
apart (Some (Gfids x)) = inl refl

leads : (o : Option Reply) (child : ChildOf) → value_in o ≡ Some (Some child) → leads_to child.gfid.0 o ≡ true
leads None child e = absurd (cc)
leads (Some Granted) child e = absurd (cc)
leads (Some (HeadIs h)) child e = absurd (cc)
leads (Some (Chunks x)) child e = absurd (cc)
leads (Some (Child None)) child e = absurd (cc)
leads (Some (Child (Some other))) child e = let same : other ≡ child = cc in let g : other.gfid.0 ≡ child.gfid.0 = ap (λ (z : ChildOf). z.gfid.0) same in eq-eqb other.gfid.0 child.gfid.0 g
leads (Some (Names x)) child e = absurd (cc)
leads (Some Done) child e = absurd (cc)
leads (Some (NoGrant x)) child e = absurd (cc)
leads (Some NoInode) child e = absurd (cc)
leads (Some IsInode) child e = absurd (cc)
leads (Some OtherKind) child e = absurd (cc)
leads (Some (NotAt x)) child e = absurd (cc)
leads (Some Fault) child e = absurd (cc)
leads (Some (Gfids x)) child e = absurd (cc)

-- as the Queries are over, each brick of the group has replied its head last
pub silent_begins : (group : Group) (kind : LockKind) (c : Account) (f : Asks) (d e : Account) → IsQuerying (subject e.given.op) (bricks_of e.given) kind c f → IsRound (subject e.given.op) c f d → IsIdle d
    → IsUnlocked (subject e.given.op) d e → IsGroupAt e (subject e.given.op) group → AreSilent group e
silent_begins group kind c f d e l r idle u i x t = go (f x) refl (r.each x)
  where
    g : ℕ
    g = subject e.given.op

    pos : 0 < quorum_of e.given
    pos = let m = e.given.geometry.majority in omega (arith, m)

    headed : heads_at e g x ≡ None → ⊥
    headed n = good_head (bricks_of e.given) (quorum_of e.given) x (heads_at e g) pos (i.bricks x ∙ t) n

    go : (o : Option Request) → f x ≡ o → IsInRound o (at c g x) (d.waits x) (at d g x) → value_in (replied e g x) ≡ None
    go None h k = absurd (headed (ap (λ es. head_of (reply_to is_query es)) (u.window x ∙ ap (λ (p : Place). p.window) k.1) ∙ ap head_of (l.opens.quiet x)))
    go (Some q) h k =
        let a = l.asks x q h in
        let w = over_in q (at c g x) (d.waits x) (at d g x) k (idle x) in
        let same : asked_place (at c g x) w.0 q ≡ at c g x = ap (asked_place (at c g x) w.0) a.4 in
        let win : (at e g x).window ≡ record { number = w.0; request = q; reply = w.1 } ∷ (at c g x).window = u.window x ∙ (ap (λ (z : Place). z.window) w.2 ∙ ap (λ (z : Place). record { number = w.0; request = q; reply = w.1 } ∷ z.window) same) in
        let heads : heads_at e g x ≡ head_of w.1 = ap (λ es. head_of (reply_to is_query es)) win ∙ ap (λ (z : Request). head_of (cond (is_query z) w.1 (reply_to is_query (at c g x).window))) a.4 in
        ⊎_elim (λ n. ap (λ es. value_in (last_reply es)) win ∙ n) (λ n. absurd (headed (heads ∙ n))) (apart w.1)

-- what was named

value_of : (b : Bool) (o : Option Value) (child : Gfid) → cond b (gfid_in o) None ≡ Some child → (found : ChildOf) × (o ≡ Some (Some found)) × (found.gfid ≡ child)
value_of false o child e = absurd (no_some child e)
value_of true None child e = absurd (no_some child e)
value_of true (Some None) child e = absurd (no_some child e)
value_of true (Some (Some found)) child e = (found, refl, (let w : found.gfid ≡ child = cc in w))

said_is : (t : Bool) (o : Option Value) (v : Value) → cond t o None ≡ Some v → (t ≡ true) × (o ≡ Some v)
said_is true o v e = (refl, e)
said_is false o v e = absurd (no_some v e)

or_first : (a b : Bool) → a ≡ true → (a || b) ≡ true
or_first true b e = refl
or_first false b e = absurd (cc)

or_second : (a b : Bool) → b ≡ true → (a || b) ≡ true
or_second true b e = refl
or_second false b e = e

-- as the name was asked for, the children that the replies name are found
pub found_begins : (group : Group) (name : List ℕ) (children : Children) (c : Account) (f : Asks) (d : Account) → InNaming group name c f → AreSilent group c → IsRound (subject c.given.op) c f d → IsIdle d
    → AreNamed children (said group.bricks (replied d (subject c.given.op))) → (x : ℕ) (child : Gfid) → child_by children x ≡ Some child → IsFound d (subject c.given.op) child.0
found_begins group name children c f d l silent r idle named x child e =
    let g = subject c.given.op in
    let v = value_of (nat_lt x 31) (said group.bricks (replied d g) x) child (sym (named x) ∙ e) in
    let s = said_is (is_in group.bricks x) (value_in (replied d g x)) (Some v.0) v.1 in
    subst (λ (z : Gfid). IsFound d g z.0) v.2 (go v.0 s.0 s.1 (f x) refl (r.each x))
  where
    go : (found : ChildOf) → is_in group.bricks x ≡ true → value_in (replied d (subject c.given.op) x) ≡ Some (Some found) → (o : Option Request) → f x ≡ o → IsInRound o (at c (subject c.given.op) x) (d.waits x) (at d (subject c.given.op) x)
        → IsFound d (subject c.given.op) found.gfid.0
    go found t v None h k = absurd (no_some (Some found) (sym (silent x t) ∙ (ap (λ (p : Place). value_in (last_reply p.window)) (sym k.1) ∙ v)))
    go found t v (Some q) h k =
        let g = subject c.given.op in
        let a = l.asks x q h in
        let w = over_in q (at c g x) (d.waits x) (at d g x) k (idle x) in
        let same : asked_place (at c g x) w.0 q ≡ at c g x = ap (asked_place (at c g x) w.0) a.4 in
        let win : (at d g x).window ≡ record { number = w.0; request = q; reply = w.1 } ∷ (at c g x).window = ap (λ (z : Place). z.window) w.2 ∙ ap (λ (z : Place). record { number = w.0; request = q; reply = w.1 } ∷ z.window) same in
        let reply : value_in w.1 ≡ Some (Some found) = ap (λ es. value_in (last_reply es)) (sym win) ∙ v in
        let asked : is_name q ≡ true = ap is_name a.4 in
        let here : (is_name q && leads_to found.gfid.0 w.1) ≡ true = ap (λ (b : Bool). b && leads_to found.gfid.0 w.1) asked ∙ leads w.1 found reply in (
          x,
          subst (λ (z : Given). x < bricks_of z) (sym r.given) a.0,
          ap (list_any (λ (y : Exchange). is_name y.request && leads_to found.gfid.0 y.reply)) win
              ∙ or_first (is_name q && leads_to found.gfid.0 w.1) (list_any (λ (y : Exchange). is_name y.request && leads_to found.gfid.0 y.reply) (at c g x).window) here,
        )

-- a child that is found stays so
any_grows : (p : Exchange → Bool) (old new : List Exchange) → Grows old new → list_any p old ≡ true → list_any p new ≡ true
any_grows p old new (inl e) t = ap (list_any p) e ∙ t
any_grows p old new (inr (k, n, e)) t = ap (list_any p) e ∙ or_second (p k) (list_any p old) t

pub found_grows : (g child : ℕ) (c d : Account) → d.given ≡ c.given → ((x : ℕ) → Grows (at c g x).window (at d g x).window) → IsFound c g child → IsFound d g child
found_grows g child c d dc grow w = (w.0, subst (λ (v : Given). w.0 < bricks_of v) (sym dc) w.1, any_grows (λ (y : Exchange). is_name y.request && leads_to child y.reply) (at c g w.0).window (at d g w.0).window (grow w.0) w.2)

pub are_found : (children : Children) (g : ℕ) (c d e : Account) → c.given ≡ e.given → d.given ≡ e.given → g ≡ subject e.given.op → IsUnlocked g d e → ((x : ℕ) → Grows (at c g x).window (at d g x).window) → AreFound children c → AreFound children e
are_found children g c d e ce dg is u grow found x child h =
    let here : IsFound c g child.0 = subst (λ (n : ℕ). IsFound c n child.0) (ap (λ (v : Given). subject v.op) ce ∙ sym is) (found x child h) in
    subst (λ (n : ℕ). IsFound e n child.0) is (found_grows g child.0 d e u.given (λ y. inl (u.window y)) (found_grows g child.0 c d (dg ∙ sym ce) grow here))

-- what goes to all that granted the lock

pub locked_asks : (given : Given) (child : Gfid) (d e : Account) → d.given ≡ given → IsUnlocked (subject given.op) d e → (x : ℕ) (r : Request) → to_locked (unmake_request d.given child) d x ≡ Some r
    → (x < bricks_of given) × (lock : Lock) × ((at e (subject given.op) x).inode ≡ Some lock) × (lock.granted ≡ true) × (r ≡ unmake_request given child lock.number)
locked_asks given child d e dg u x r a =
    let w = within (nat_lt x (bricks_of d.given)) (under (at d (subject d.given.op) x).inode (unmake_request d.given child)) r a in
    let l : x < bricks_of d.given = (let t = w.0 in grind (arith, nat_tests)) in
    let k = under_is (at d (subject d.given.op) x).inode (unmake_request d.given child) r w.1 in
    let here : (at d (subject given.op) x).inode ≡ Some k.0 = subst (λ (v : Given). (at d (subject v.op) x).inode ≡ Some k.0) dg k.1 in
    (subst (λ (v : Given). x < bricks_of v) dg l, k.0, u.kept x k.0 here k.2, k.2, subst (λ (v : Given). r ≡ unmake_request v child k.0.number) dg k.3)

pub removal_on : (child : Gfid) (children : Children) (c : Account) (f : Asks) → InRemoval child children c f → IsOn (subject c.given.op) (bricks_of c.given) (c.on (subject c.given.op)).queried f
removal_on child children c f l = record {
  below = λ y r e. (l.asks y r e).0;
  of = λ y r e. ap gfid_of (l.asks y r e).4;
  plain = λ y r e. ap is_plain (l.asks y r e).4;
  first = λ y r e t. absurd (let w : is_lock r ≡ false = ap is_lock (l.asks y r e).4 in let z : false ≡ true = sym w ∙ t in cc);
  fit = λ y r e. subst IsFit (sym (l.asks y r e).4) tt;
}

pub removal_grows : (child : Gfid) (children : Children) (c : Account) (f : Asks) (d : Account) → InRemoval child children c f → IsRound (subject c.given.op) c f d → IsIdle d → (x : ℕ) → Grows (at c (subject c.given.op) x).window (at d (subject c.given.op) x).window
removal_grows child children c f d l r idle = grow_by (subject c.given.op) c f d (λ y q t. (ap is_query (l.asks y q t).4, λ i. ap (asked_place (at c (subject c.given.op) y) i) (l.asks y q t).4)) r idle

-- what is over is the same all through the round
places_same : (child : Gfid) (children : Children) (c : Account) (f h : Asks) (d : Account) → InRemoval child children c f → IsSent (subject c.given.op) c h d → ((y : ℕ) (r : Request) → h y ≡ Some r → f y ≡ Some r) → (y : ℕ)
    → at d (subject c.given.op) y ≡ at c (subject c.given.op) y
places_same child children c f h d l s part y = go (h y) refl (s.each y)
  where
    go : (o : Option Request) → h y ≡ o → IsSentTo o (at c (subject c.given.op) y) (d.waits y) (at d (subject c.given.op) y) → at d (subject c.given.op) y ≡ at c (subject c.given.op) y
    go None e t = t.1
    go (Some r) e t = t.2 ∙ ap (asked_place (at c (subject c.given.op) y) t.0) (l.asks y r (part y r e)).4

pub removal_may : (x : Ctx) (child : Gfid) (children : Children) (c : Account) (f h : Asks) (d : Account) → IsIn x c.given c → InRemoval child children c f → IsSent (subject c.given.op) c h d
    → ((y : ℕ) (r : Request) → h y ≡ Some r → f y ≡ Some r)
    → ((b grant : ℕ) → d.given ≡ c.given → IsFree d b (subject c.given.op) → holds (at d (subject c.given.op) b).inode grant ≡ true → IsPosted d (subject c.given.op) → IsFound d (subject c.given.op) child.0 → MaySend d b (unmake_request c.given child grant))
    → (b : ℕ) (r : Request) → f b ≡ Some r → h b ≡ None → MaySend d b r
removal_may x child children c f h d a l s part may b r e n =
    let g = subject c.given.op in
    let w = l.asks b r e in
    let same = places_same child children c f h d l s part in
    let rel : IsReleased g c d = record { given = s.given; window = λ y. ap (λ (p : Place). p.window) (same y) } in
    subst (λ (q : Request). MaySend d b q) (sym w.4) (may b w.1.number s.given (is_free x c.given b c d h a s n w.0)
    (held_here d b g w.1 (ap (λ (p : Place). p.inode) (same b) ∙ w.2) w.3)
    (posted_released g c d rel l.posted)
    (found_grows g child.0 c d s.given (λ y. inl (rel.window y)) (l.found l.one.0 child l.one.1)))
