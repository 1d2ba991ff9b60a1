-- Requests name grants that stand.
use Rattle.std.proofs.Common.{◌≡◌, inl, inr, ℕ, ◌==◌, ◌&&◌, ◌||◌, cond, Bool, true, false, refl, ap, ◌∙◌, subst, arith, Option, Some, None}
use Rattle.std.proofs.lemmas.Bool.Decides.{nat_tests}
use Rattle.ec_attr.specs.declared.gfid.Gfid.{Gfid}
use Rattle.ec_store.specs.Put.{put}
use Rattle.ec_wire.specs.declared.op.Op.{Op}
use Rattle.ec_wire.specs.declared.op.Op.TheVariants.{Write, Truncate, Read as ReadOp, Stat, Create, Mkdir, Unlink, Lookup, Readdir, Heal as HealOp, SetAttr, GetAttr, Rename, Rmdir, Scrub, Sweep}
use Rattle.ec_wire.specs.declared.request.Request.{Request}
use Rattle.ec_wire.specs.declared.request.Request.TheVariants.{Ask, Release, Query, PreOp, ReadChunks, WriteChunks, SetLength, PostOp, Clear, NameGet, NamesAfter, NameSet, NamesPut, Make, Made, Unmake, Mark, Unmark, GfidsAfter}
use Rattle.ec_conduct.specs.Account.{Account, Lock, Place, at, gfid_of, sent, without}
use Rattle.ec_conduct.specs.Children.{MayRemove}
use Rattle.ec_conduct.specs.Conduct.{MaySend, named_grant}
use Rattle.ec_conduct.specs.Locks.{IsAsked, is_asked}
use Rattle.ec_conduct.specs.Standing.{holds}

asked_of : (lock : Option Lock) (grant : ℕ) → holds lock grant ≡ true → is_asked lock grant ≡ true
asked_of None grant h = h
asked_of (Some lock) grant h = go lock.granted (lock.number == grant) h
  where
    go : (u v : Bool) → (u && v) ≡ true → v ≡ true
    go true v h = h
    go false v h = absurd (cc)

left_or : (u v : Bool) → u ≡ true → (u || v) ≡ true
left_or true v h = refl
left_or false v h = absurd (cc)

right_or : (u v : Bool) → v ≡ true → (u || v) ≡ true
right_or true v h = refl
right_or false v h = h

by_inode : (c : Account) (b g grant : ℕ) → holds (at c g b).inode grant ≡ true → IsAsked c b g grant
by_inode c b g grant h = left_or (is_asked (at c g b).inode grant) (is_asked (at c g b).heal grant) (asked_of (at c g b).inode grant h)

by_heal : (c : Account) (b g grant : ℕ) → holds (at c g b).heal grant ≡ true → IsAsked c b g grant
by_heal c b g grant h = right_or (is_asked (at c g b).inode grant) (is_asked (at c g b).heal grant) (asked_of (at c g b).heal grant h)

removes : (op : Op) (c : Account) (b g grant child : ℕ) → MayRemove op c b g grant child → holds (at c g b).inode grant ≡ true
removes (Sweep true) c b g grant child m = m.grant_held
removes (Sweep false) c b g grant child m = absurd m
removes (Write h off bytes) c b g grant child m = m.grant_held
removes (Truncate h size) c b g grant child m = m.grant_held
removes (ReadOp h off len via) c b g grant child m = m.grant_held
removes (Stat h) c b g grant child m = m.grant_held
removes (Create h name) c b g grant child m = m.grant_held
removes (Mkdir h name) c b g grant child m = m.grant_held
removes (Unlink h name) c b g grant child m = m.grant_held
removes (Lookup h name) c b g grant child m = m.grant_held
removes (Readdir h) c b g grant child m = m.grant_held
removes (HealOp h) c b g grant child m = m.grant_held
removes (SetAttr h attr) c b g grant child m = m.grant_held
removes (GetAttr h) c b g grant child m = m.grant_held
removes (Rename old name new to) c b g grant child m = m.grant_held
removes (Rmdir h name) c b g grant child m = m.grant_held
removes (Scrub h settle) c b g grant child m = m.grant_held

-- what a request names, at the gfid that it names
abbrev Names : Account → ℕ → Request → Type 0
Names c b r = (g grant : ℕ) → gfid_of r ≡ Some g → named_grant r ≡ Some grant → IsAsked c b g grant

of_two : (c : Account) (b h n g grant : ℕ) → Some h ≡ Some g → Some n ≡ Some grant → IsAsked c b h n → IsAsked c b g grant
of_two c b h n g grant e f a = let x : h ≡ g = cc in let y : n ≡ grant = cc in subst (λ z. IsAsked c b g z) y (subst (λ z. IsAsked c b z n) x a)

names_asked : (c : Account) (b : ℕ) (r : Request) → MaySend c b r → Names c b r
names_asked c b (Ask h domain kind) m g grant e f = absurd (cc)
names_asked c b (Release h n) m g grant e f = of_two c b h.0 n g grant e f m.1.asked
names_asked c b (Query h n) m g grant e f = of_two c b h.0 n g grant e f (by_inode c b h.0 n m.1.grant_held)
names_asked c b (PreOp h n version dirty) m g grant e f = of_two c b h.0 n g grant e f (by_inode c b h.0 n m.1.grant_held)
names_asked c b (ReadChunks h n first count) m g grant e f = of_two c b h.0 n g grant e f (by_inode c b h.0 n m.1)
names_asked c b (WriteChunks h n first chunks) m g grant e f = of_two c b h.0 n g grant e f (elim m.1 [ inl w ↦ by_inode c b h.0 n w.change.grant_held | inr w ↦ by_heal c b h.0 n w.rebuild.heal_held ])
names_asked c b (SetLength h n keep length) m g grant e f = of_two c b h.0 n g grant e f (elim m.1 [ inl w ↦ by_inode c b h.0 n w.change.grant_held | inr w ↦ by_heal c b h.0 n w.rebuild.heal_held ])
names_asked c b (PostOp h n old new size attr) m g grant e f = of_two c b h.0 n g grant e f (by_inode c b h.0 n m.1.grant_held)
names_asked c b (Clear h n version) m g grant e f = of_two c b h.0 n g grant e f (by_inode c b h.0 n m.1.grant_held)
names_asked c b (NameGet h n name) m g grant e f = of_two c b h.0 n g grant e f (by_inode c b h.0 n m.1)
names_asked c b (NamesAfter h n start) m g grant e f = of_two c b h.0 n g grant e f (by_inode c b h.0 n m.1)
names_asked c b (NameSet h n name child) m g grant e f = of_two c b h.0 n g grant e f (by_inode c b h.0 n m.1.change.grant_held)
names_asked c b (NamesPut h n start upto list) m g grant e f = of_two c b h.0 n g grant e f (by_heal c b h.0 n m.1.rebuild.heal_held)
names_asked c b (Make h n child) m g grant e f = of_two c b h.0 n g grant e f (by_inode c b h.0 n m.1.change.grant_held)
names_asked c b (Made h n child) m g grant e f = of_two c b h.0 n g grant e f (by_inode c b h.0 n m.1.grant_held)
names_asked c b (Unmake h n child) m g grant e f = of_two c b h.0 n g grant e f (by_inode c b h.0 n (removes c.given.op c b h.0 n child.0 m.1))
names_asked c b (Mark h n heal head) m g grant e f = of_two c b h.0 n g grant e f (by_inode c b h.0 n m.1.grant_held)
names_asked c b (Unmark h n version dirty) m g grant e f = of_two c b h.0 n g grant e f (by_heal c b h.0 n m.1.rebuild.heal_held)
names_asked c b (GfidsAfter start dirty) m g grant e f = absurd (cc)

pub put_here : {X : Type 0} (f : ℕ → X) (i : ℕ) (x : X) → put f i x i ≡ x
put_here f i x = go (i == i) (grind (arith, nat_tests))
  where
    go : (u : Bool) → u ≡ true → cond u x (f i) ≡ x
    go true e = refl
    go false e = absurd (cc)

none_left : (lock : Option Lock) (grant : ℕ) → is_asked (without lock grant) grant ≡ false
none_left None grant = refl
none_left (Some lock) grant = go (lock.number == grant) refl
  where
    go : (u : Bool) → (lock.number == grant) ≡ u → is_asked (cond u None (Some lock)) grant ≡ false
    go true e = refl
    go false e = e

neither : (u v : Bool) → u ≡ false → v ≡ false → (u || v) ≡ true → ⊥
neither true v a b h = absurd (cc)
neither false v a b h = absurd (cc)

-- after its Release no ask with the number stands
gone : (c : Account) (b i grant : ℕ) (g : Gfid) → IsAsked (sent c b i (Release g grant)) b g.0 grant → ⊥
gone c b i grant g a =
    let place = at c g.0 b in
    let same : at (sent c b i (Release g grant)) g.0 b ≡ record place { inode = without place.inode grant; heal = without place.heal grant } = ap (λ d. d.place b) (put_here c.on g.0 _) ∙ put_here (c.on g.0).place b _ in
    neither (is_asked (without place.inode grant) grant) (is_asked (without place.heal grant) grant) (none_left place.inode grant) (none_left place.heal grant) (subst (λ (p : Place). (is_asked p.inode grant || is_asked p.heal grant) ≡ true) same a)

pub released : (c : Account) (b i grant : ℕ) (g : Gfid) (r : Request) → gfid_of r ≡ Some g.0 → named_grant r ≡ Some grant → MaySend (sent c b i (Release g grant)) b r → ⊥
released c b i grant g r e f m = gone c b i grant g (names_asked (sent c b i (Release g grant)) b r m g.0 grant e f)

pub stands : (c : Account) (b g grant : ℕ) (r : Request) → gfid_of r ≡ Some g → named_grant r ≡ Some grant → MaySend c b r → IsAsked c b g grant
stands c b g grant r e f m = names_asked c b r m g grant e f
