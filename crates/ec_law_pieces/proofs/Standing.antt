-- K unmarked records that agree have the flat version, and what stands above it is promised.
use Rattle.std.proofs.Common.{◌≡◌, ◌⊎◌, ℕ, ◌+◌, ◌<◌, ◌≤◌, Bool, true, false, sym, ◌∙◌, ap, subst, arith, inl, inr, ⊎_elim}
use Rattle.std.proofs.lemmas.Bool.Decides.{nat_tests}
use Rattle.ec_attr.specs.Bricks.{count_below}
use Rattle.ec_law_base.specs.State.{Head, target}
use Rattle.ec_law_base.proofs.Counts.{mono, some, share}
use Rattle.ec_law_ballots.specs.Words.{head}
use Rattle.ec_law_ballots.specs.Begin.{is_plain, is_low}
use Rattle.ec_law_ballots.specs.Guard.{IsCommitted}
use Rattle.ec_law_quorum.specs.Wide.{Inv, Promised, Known}
use Rattle.ec_law_quorum.proofs.Quorums.{either, order, is_false, low, beats, not_void, alive}
use Rattle.ec_law_quorum.proofs.Changes.{pick}
use Rattle.ec_law_pieces.specs.File.{Form, File}
use Rattle.ec_law_pieces.specs.Clauses.{Good}
use Rattle.ec_law_pieces.proofs.Known.{origin_le, base_le, commit_promised, number_of, one_turn, real_commit}

pub plain_is : (v : ℕ) (h : Head) → is_plain v h ≡ true → (h.present ≡ true) × (h.marked ≡ false) × (h.version ≡ v)
plain_is v h e = (grind (arith, nat_tests), grind (arith, nat_tests), grind (arith, nat_tests))

pub low_is : (v y : ℕ) (h : Head) → is_low v y h ≡ true → (h.present ≡ true) × (h.version ≡ v) × (v + h.dirty < y)
low_is v y h e = (grind (arith, nat_tests), grind (arith, nat_tests), grind (arith, nat_tests))

was_plain : (v : ℕ) (g : Head) → g.present ≡ true → g.version ≡ v → g.marked ≡ false → is_plain v g ≡ true
was_plain v g p e m = grind (arith, nat_tests)

split : (x y : ℕ) → (x < y) ⊎ (y ≤ x)
split x y = grind arith

module _ {P V C U S : Type 0} (form : Form P V C U S) (n k : ℕ) (most : n < k + k) (fits : k ≤ n) (f : File P V C U S) (i : Inv n k f.heads) (g : Good form n k f) where
  abbrev At : ℕ → ℕ → Bool
  At v b = is_plain v (head f.heads b)

  known_at : (v b : ℕ) → At v b ≡ true → Known n k f.heads b v
  known_at v b e = let h = plain_is v (head f.heads b) e in subst (Known n k f.heads b) h.2 (i.wide.known b h.0 h.1)

  -- below the version of the beginning they are as they began
  not_below : (v : ℕ) → k ≤ count_below n (At v) → f.heads.origin ≤ v
  not_below v members = ⊎_elim (λ less. absurd (few less)) (λ ge. ge) (split v f.heads.origin)
    where
      few : v < f.heads.origin → ⊥
      few below =
          let m = mono (At v) (λ b. is_plain v (f.heads.began b)) n (λ b e.
          let h = plain_is v (head f.heads b) e in
          let o = (i.local b).began_is h.0 (let q = h.2 in omega arith) in
          was_plain v (f.heads.began b) o.0 (o.1 ∙ h.2) (o.2 ∙ h.1)) in
          let w = i.wide.few_below v below in omega arith

  from_commit : (v : ℕ) → k ≤ count_below n (At v) → (v ≡ f.heads.origin) ⊎ ((e : ℕ) × IsCommitted n k f.heads e × (target (f.heads.ballot e) ≡ v))
  from_commit v members = let one = some (At v) n (omega arith) in ⊎_elim (λ z. inl (let o = not_below v members in omega arith)) (λ rest. ⊎_elim (by_post one.0) (λ e. inr e) rest) (known_at v one.0 one.1)
    where
      member : (b : ℕ) (e : (x : ℕ) × (f.heads.post x b ≡ true) × (target (f.heads.ballot x) ≡ v)) → (c : ℕ) → At v c ≡ true → (f.heads.post e.0 c ≡ true) ⊎ ((v ≡ f.heads.origin) ⊎ ((x : ℕ) × IsCommitted n k f.heads x × (target (f.heads.ballot x) ≡ v)))
      member b e c q = ⊎_elim (λ z. inr (inl (let o = not_below v members in omega arith))) (λ rest. ⊎_elim (λ x. inl (same x)) (λ x. inr (inr x)) rest) (known_at v c q)
        where
          same : (x : ℕ) × (f.heads.post x c ≡ true) × (target (f.heads.ballot x) ≡ v) → f.heads.post e.0 c ≡ true
          same x = rw (one_turn form n k most fits f i g e.0 x.0 (i.wide.whole e.0 b e.1) (i.wide.whole x.0 c x.1) (e.2 ∙ sym x.2)) x.1

      by_post : (b : ℕ) → (e : ℕ) × (f.heads.post e b ≡ true) × (target (f.heads.ballot e) ≡ v) → (v ≡ f.heads.origin) ⊎ ((e : ℕ) × IsCommitted n k f.heads e × (target (f.heads.ballot e) ≡ v))
      by_post b e = ⊎_elim (λ le. inr (e.0, omega (arith, members), e.2)) (λ q. q) (pick (At v) (f.heads.post e.0) ((v ≡ f.heads.origin) ⊎ ((x : ℕ) × IsCommitted n k f.heads x × (target (f.heads.ballot x) ≡ v))) n (member b e))

  pub one_version : (v : ℕ) → k ≤ count_below n (At v) → v ≡ f.flat.version
  one_version v members = let x = le in let y = ge in omega arith
    where
      le : v ≤ f.flat.version
      le = ⊎_elim (λ z. let o = origin_le form n k most fits f i g in omega arith) (λ e. let t = g.top e.0 e.1 in omega (arith, e.2)) (from_commit v members)

      ge : f.flat.version ≤ v
      ge = ⊎_elim (λ z. let o = not_below v members in omega arith) (λ a. let c = share (f.heads.post a.0) (At v) n (omega (arith, a.1, members)) in let h = plain_is v (head f.heads c.0) c.2 in let p = (i.local c.0).past a.0 c.1 (not_void n k most fits f.heads i.local i.wide a.0 a.1) h.0 in omega (arith, a.2, h.2)) g.last

  -- no version of the beginning is the flat one, but for the one that was flat
  pub not_old : f.heads.old f.flat.version ≡ true → ⊥
  not_old o = ⊎_elim at_start by_commit g.last
    where
      promised_old : Promised n k f.heads f.flat.version
      promised_old = (i.wide.old_promised f.flat.version o, λ r. absurd (cc))

      target_is : target (f.heads.ballot f.flat.version) ≡ f.flat.version
      target_is = i.wide.old_target f.flat.version o

      at_start : f.flat.version ≡ f.heads.origin → ⊥
      at_start z = let q = number_of form n k most fits f i g f.flat.version promised_old in let b = (i.wide.origin_le f.flat.version q).1 o in let t = target_is in omega arith

      by_commit : (c : ℕ) × IsCommitted n k f.heads c × (f.flat.version ≡ target (f.heads.ballot c)) → ⊥
      by_commit c =
          let q = one_turn form n k most fits f i g c.0 f.flat.version (commit_promised form n k most fits f i g c.0 c.1) promised_old (sym c.2 ∙ sym target_is) in
          let r = real_commit form n k most fits f i g c.0 c.1 in
          let w = subst (λ (z : ℕ). f.heads.old z ≡ true) (sym q) o in
          cc

  pub one_shape_at : (b : ℕ) → At f.flat.version b ≡ true → f.shape b ≡ f.flat.shape
  one_shape_at b e =
      let h = plain_is f.flat.version (head f.heads b) e in
      g.shape_here b h.0 (is_false (f.stale b) λ s. ⊎_elim (λ o. not_old (subst (λ (v : ℕ). f.heads.old v ≡ true) h.2 o)) (λ l. let o = origin_le form n k most fits f i g in let q = h.2 in omega arith) (g.stale_is b h.0 s h.1)) ∙ (ap f.shape_of h.2 ∙ sym g.flat_shape)

  -- a promised turn with a version above the flat one stands on the flat one
  on_flat : (e : ℕ) → Promised n k f.heads e → f.flat.version < target (f.heads.ballot e) → (f.heads.ballot e).base ≡ f.flat.version
  on_flat e pe above = ⊎_elim (λ lt. absurd (below lt)) (λ rest. ⊎_elim (λ eq. eq) (λ gt. absurd (let b = base_le form n k most fits f i g e number in omega arith)) rest) (order (f.heads.ballot e).base f.flat.version)
    where
      number : 0 < (f.heads.ballot e).number
      number = number_of form n k most fits f i g e pe

      below : (f.heads.ballot e).base < f.flat.version → ⊥
      below lt = ⊎_elim (λ z. let o = (i.wide.origin_le e number).0 in omega arith) by_commit g.last
        where
          by_commit : (a : ℕ) × IsCommitted n k f.heads a × (f.flat.version ≡ target (f.heads.ballot a)) → ⊥
          by_commit a =
              let pa = commit_promised form n k most fits f i g a.0 a.1 in
              let na = number_of form n k most fits f i g a.0 pa in
              let up = low n k most fits f.heads i.local i.wide e a.0 pe na in
              let down = low n k most fits f.heads i.local i.wide a.0 e pa number in
              let same = beats n k most fits f.heads i.local i.wide a.0 e in
              let q = either a.0 e in
              ⊎_elim (λ h. let x = down h in omega (arith, a.2)) (λ rest. ⊎_elim (λ eq. ⊎_elim (λ is. let t = ap (λ (z : ℕ). target (f.heads.ballot z)) is in omega (arith, a.2)) (λ ne. let x = same ne a.1 pe eq in omega (arith, a.2)) q) (λ h. let x = up h in omega (arith, a.2)) rest) (order (f.heads.ballot a.0).base (f.heads.ballot e).base)

  pub few_low : (b : ℕ) → f.heads.present b ≡ true → f.flat.version < f.heads.version b → count_below n (λ c. is_low f.flat.version (f.heads.version b) (head f.heads c)) < k
  few_low b there above = ⊎_elim plain (λ e. of e.0 (i.wide.sink_whole e.0 b e.1) e.2) (i.wide.known_marked b there)
    where
      Low : ℕ → Bool
      Low c = is_low f.flat.version (f.heads.version b) (head f.heads c)

      of : (e : ℕ) → Promised n k f.heads e → target (f.heads.ballot e) ≡ f.heads.version b → count_below n (λ c. is_low f.flat.version (f.heads.version b) (head f.heads c)) < k
      of e pe is = ⊎_elim (λ x. x) (λ many. absurd (shared (share (λ c. is_low f.flat.version (f.heads.version b) (head f.heads c)) (f.heads.pre e) n (omega (arith, pe.0))))) (split (count_below n (λ c. is_low f.flat.version (f.heads.version b) (head f.heads c))) k)
        where
          base : (f.heads.ballot e).base ≡ f.flat.version
          base = on_flat e pe (omega (arith, is))

          shared : (c : ℕ) × (is_low f.flat.version (f.heads.version b) (head f.heads c) ≡ true) × (f.heads.pre e c ≡ true) → ⊥
          shared c =
              let h = low_is f.flat.version (f.heads.version b) (head f.heads c.0) c.1 in
              let d = (i.local c.0).kept_dirty e c.2 (alive n k most fits f.heads i.local i.wide e pe) h.0 (base ∙ sym h.1) in
              let bs = base in
              omega (arith, h.2, is)

      plain : Known n k f.heads b (f.heads.version b) → count_below n (λ c. is_low f.flat.version (f.heads.version b) (head f.heads c)) < k
      plain (inl z) = absurd (let o = origin_le form n k most fits f i g in omega arith)
      plain (inr (inl e)) = of e.0 (i.wide.whole e.0 b e.1) e.2
      plain (inr (inr e)) = of e.0 (commit_promised form n k most fits f i g e.0 e.1) e.2
