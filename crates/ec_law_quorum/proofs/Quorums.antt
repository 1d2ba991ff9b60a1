-- Two quorums share a brick, and what follows.
use Rattle.std.proofs.Common.{◌≡◌, ◌≢◌, ◌⊎◌, ℕ, zero, suc, ◌+◌, ◌<◌, ◌≤◌, Bool, true, false, Option, Some, None, refl, sym, ◌∙◌, arith, inl, inr, ⊎_elim}
use Rattle.std.proofs.lemmas.Bool.Decides.{nat_tests}
use Rattle.ec_attr.specs.Bricks.{count_below}
use Rattle.ec_law_base.specs.State.{State, Head, Ballot, target}
use Rattle.ec_law_ballots.specs.Words.{group, at_base, saw}
use Rattle.ec_law_ballots.specs.Guard.{IsCommitted}
use Rattle.ec_law_base.proofs.Counts.{mono, some, share}
use Rattle.ec_law_ballots.specs.Clauses.{Local}
use Rattle.ec_law_ballots.specs.Facts.{PostBelow}
use Rattle.ec_law_quorum.specs.Wide.{Wide, Promised}

pub order : (x y : ℕ) → (x < y) ⊎ ((x ≡ y) ⊎ (y < x))
order x y = grind arith

pub either : (x y : ℕ) → (x ≡ y) ⊎ (x ≢ y)
either x y = grind arith

pub read : (p : Ballot) (o : Option Head) → at_base p o ≡ true → (h : Head) × (o ≡ Some h) × (h.version ≡ p.base) × (h.dirty < p.number) × (h.marked ≡ false) × (h.present ≡ true)
read p None e = absurd (cc)
read p (Some h) e = (h, refl, grind (arith, nat_tests), grind (arith, nat_tests), grind (arith, nat_tests), grind (arith, nat_tests))

pub is_false : (b : Bool) → (b ≡ true → ⊥) → b ≡ false
is_false true f = absurd (f refl)
is_false false f = refl

pub group_saw : (s : State) (a b : ℕ) → group s a b ≡ true → saw s a b ≡ true
group_saw s a b g = grind (arith, nat_tests)

module _ (n k : ℕ) (most : n < k + k) (fits : k ≤ n) (s : State) (l : (b : ℕ) → Local s b) (w : Wide n k s) where
  pub not_void : (e : ℕ) → IsCommitted n k s e → s.voided e ≡ false
  not_void e ce = is_false (s.voided e) λ v.
      let o = w.void e v in
      let g = w.based (s.voider e) o.real o.free o.number in
      let c = share (group s (s.voider e)) (s.post e) n (omega arith) in
      let f = o.apart c.0 c.1 in let p = c.2 in cc

  pub alive : (e : ℕ) → Promised n k s e → s.dead e ≡ false
  alive e pe = is_false (s.dead e) λ v.
      let o = w.dying e v in
      let g = w.based (s.killer e) o.real o.free o.number in
      let c = share (group s (s.killer e)) (s.pre e) n (omega (arith, pe.0)) in
      let f = o.apart c.0 c.1 in let p = c.2 in cc

  real_commit : (a : ℕ) → IsCommitted n k s a → s.old a ≡ false
  real_commit a h = is_false (s.old a) (λ o. let x = w.old_short a o in omega arith)

  -- two promised turns of which one is of this run share a brick
  sharing : (a c : ℕ) → Promised n k s a → Promised n k s c → (s.old a ≡ false) ⊎ (s.old c ≡ false) → (x : ℕ) × (s.pre a x ≡ true) × (s.pre c x ≡ true)
  sharing a c pa pc (inl r) = share (s.pre a) (s.pre c) n (let p = pa.1 r in omega (arith, pc.0))
  sharing a c pa pc (inr r) = share (s.pre a) (s.pre c) n (let p = pc.1 r in omega (arith, pa.0))

  same_base : (a c : ℕ) → a ≢ c → Promised n k s a → Promised n k s c → (s.old a ≡ false) ⊎ (s.old c ≡ false) → (s.ballot a).base ≡ (s.ballot c).base → (s.ballot a).number ≢ (s.ballot c).number
  same_base a c ne pa pc r e = let d = sharing a c pa pc r in (l d.0).apart a c ne d.1 d.2 (alive a pa) (alive c pc) e

  -- a commit has a higher number than every other promised turn on its base
  pub beats : (a c : ℕ) → a ≢ c → IsCommitted n k s a → Promised n k s c → (s.ballot a).base ≡ (s.ballot c).base → (s.ballot c).number < (s.ballot a).number
  beats a c ne ca pc e = let d = share (s.post a) (s.pre c) n (omega (arith, pc.0)) in (l d.0).passed a c ne d.1 d.2 (not_void a ca) (real_commit a ca) (alive c pc) e

  pub promised : (a : ℕ) → IsCommitted n k s a → Promised n k s a
  promised a h = let m = mono (s.post a) (s.pre a) n (λ c e. (l c).post_pre a e) in (omega arith, λ o. omega arith)

  pub numbered : (a : ℕ) → Promised n k s a → 0 < (s.ballot a).number
  numbered a h = let d = some (s.pre a) n (omega (arith, h.0)) in ((l d.0).pre_seen a d.1).1

  abbrev Below : ℕ → Type 0
  Below v = (a c : ℕ) → Promised n k s a → 0 < (s.ballot c).number → (s.ballot c).base < v → (s.ballot a).base < (s.ballot c).base → target (s.ballot a) ≤ (s.ballot c).base

  low_at : (v : ℕ) → Below v → (a c : ℕ) → Promised n k s a → 0 < (s.ballot c).number → (s.ballot c).base ≡ v → (s.ballot a).base < v → target (s.ballot a) ≤ v
  low_at v below a c pa nc is lower = ⊎_elim (λ z. absurd (let o = (w.origin_le a (numbered a pa)).0 in omega arith)) (λ e. by_commit (e.0, e.1, e.2 ∙ is)) (w.chosen c nc)
    where
      by_commit : (e : ℕ) × IsCommitted n k s e × (target (s.ballot e) ≡ v) → target (s.ballot a) ≤ v
      by_commit e =
          let pe = promised e.0 e.1 in
          let ne = numbered e.0 pe in
          let na = numbered a pa in
          let b = beats e.0 a in
          let hi = below e.0 a pe na in
          let lo = below a e.0 pa ne in
          let eq = either e.0 a in
          grind (arith, e.1, e.2)

  below_all : (v : ℕ) → Below v
  below_all zero a c pa nc lt lower = absurd (omega arith)
  below_all (suc v) a c pa nc lt lower = ⊎_elim (λ less. below_all v a c pa nc less lower) (λ same. rw same (low_at v (below_all v) a c pa nc same (rw same at lower))) (split (s.ballot c).base lt)
    where
      split : (x : ℕ) → x < suc v → (x < v) ⊎ (x ≡ v)
      split x h = grind arith

  -- a promised turn has its version at or below each base above its own
  pub low : (a c : ℕ) → Promised n k s a → 0 < (s.ballot c).number → (s.ballot a).base < (s.ballot c).base → target (s.ballot a) ≤ (s.ballot c).base
  low a c pa nc lower = below_all (suc (s.ballot c).base) a c pa nc (omega arith) lower

  pub alike : (a c : ℕ) → a ≢ c → Promised n k s a → Promised n k s c → target (s.ballot a) ≢ target (s.ballot c)
  alike a c ne pa pc e = pick (s.old a) (s.old c) refl refl
    where
      real : (s.old a ≡ false) ⊎ (s.old c ≡ false) → ⊥
      real r =
          let na = numbered a pa in
          let nc = numbered c pc in
          let same = same_base a c ne pa pc r in
          let lo = low a c pa nc in
          let hi = low c a pc na in
          grind (arith, e)

      pick : (u v : Bool) → s.old a ≡ u → s.old c ≡ v → ⊥
      pick false v x y = real (inl x)
      pick true false x y = real (inr y)
      pick true true x y = ne (sym (w.old_target a x) ∙ (e ∙ w.old_target c y))

  pub post_below : PostBelow s
  post_below e x b p nx lt = low e x (w.whole e b p) nx lt

  -- whoever had a ballot at the moment of x stands on a base at or below that of x
  pub had_below : (x a : ℕ) → s.had x a ≡ true → s.carries x ≡ None → 0 < (s.ballot x).number → (s.ballot a).base ≤ (s.ballot x).base
  had_below x a h free nx = ⊎_elim (λ z. let o = (w.origin_le x nx).0 in omega (arith, z)) one (w.had_chosen x a h)
    where
      one : (e : ℕ) × (k ≤ count_below n (s.at_post x e)) × (target (s.ballot e) ≡ (s.ballot a).base) → (s.ballot a).base ≤ (s.ballot x).base
      one e =
          let g = w.based x (w.had_number x a h).2 free nx in
          let m = mono (s.at_post x e.0) (s.post e.0) n (λ c q. ((l c).at_post_is x e.0 q).0) in
          let c = share (group s x) (s.at_post x e.0) n (omega (arith, e.1)) in
          let r = read (s.ballot x) (s.seen x c.0) c.1 in
          let v = (l c.0).low_version x e.0 r.0 c.2 r.1 r.5 (not_void e.0 (omega (arith, e.1))) in
          omega (arith, e.2, r.2)

  -- On the base of t, whoever had begun at its moment with a number as high has no PreOp in its group.
  pub outside : (t e : ℕ) → 0 < (s.ballot t).number → s.begun t e ≡ true → s.dead e ≡ false → (s.ballot e).base ≡ (s.ballot t).base → (s.ballot t).number ≤ (s.ballot e).number → (c : ℕ) → group s t c ≡ true → s.pre e c ≡ false
  outside t e nt b d same over c g = is_false (s.pre e c) λ p.
      let r = read (s.ballot t) (s.seen t c) g in
      let a = (l c).no_more_pre t e b (group_saw s t c g) (w.begun_moment t e b).2 p in
      let x = (l c).low_dirty t e r.0 a r.1 r.5 d (same ∙ sym r.2) in
      omega (arith, r.3)

  -- so whoever is promised has a lower number
  pub number_under : (t e : ℕ) → s.old t ≡ false → s.carries t ≡ None → 0 < (s.ballot t).number → s.begun t e ≡ true → Promised n k s e → (s.ballot e).base ≡ (s.ballot t).base → (s.ballot e).number < (s.ballot t).number
  number_under t e real free nt b pe same = ⊎_elim (λ lt. lt) (λ le. absurd (clash le)) (split (s.ballot e).number (s.ballot t).number)
    where
      split : (x y : ℕ) → (x < y) ⊎ (y ≤ x)
      split x y = grind arith

      clash : (s.ballot t).number ≤ (s.ballot e).number → ⊥
      clash le =
          let g = w.based t real free nt in
          let c = share (group s t) (s.pre e) n (omega (arith, pe.0)) in
          let f = outside t e nt b (alive e pe) same le c.0 c.1 in
          let p = c.2 in cc
