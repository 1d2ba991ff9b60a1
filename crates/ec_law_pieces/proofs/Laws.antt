-- The laws over whole runs.
use Rattle.std.proofs.Common.{◌≡◌, ◌≢◌, ◌⊎◌, ℕ, ◌+◌, ◌<◌, ◌≤◌, Bool, true, false, not, cond, ◌&&◌, nat_lt, nat_le, List, refl, sym, ◌∙◌, ap, subst, arith, inl, inr, ⊎_elim}
use Rattle.std.proofs.lemmas.Bool.Decides.{nat_tests}
use Rattle.ec_attr.specs.Bricks.{count_below}
use Rattle.ec_history.specs.Flat.{Opener, opened_before}
use Rattle.ec_history.specs.Flat.Opener.{Nobody, One, Several}
use Rattle.ec_law_base.specs.State.{Head, target}
use Rattle.ec_law_base.proofs.Counts.{mono, some, share}
use Rattle.ec_law_ballots.specs.Words.{head, did}
use Rattle.ec_law_ballots.specs.Act.{step as act_step}
use Rattle.ec_law_ballots.specs.Act.Act.{Post}
use Rattle.ec_law_ballots.specs.Begin.{is_plain, is_low, is_leftover}
use Rattle.ec_law_ballots.specs.Guard.{IsCommitted}
use Rattle.ec_law_quorum.specs.Wide.{Inv}
use Rattle.ec_law_quorum.proofs.Begins.{inv_begin, old_at}
use Rattle.ec_law_quorum.proofs.Laws.{inv_step}
use Rattle.ec_law_pieces.specs.File.{Form, Flat, File}
use Rattle.ec_law_pieces.specs.Deed.{Deed, MayDo, Runs, after, step, commits}
use Rattle.ec_law_pieces.specs.Deed.Deed.{Commit}
use Rattle.ec_law_pieces.specs.Clauses.{Good}
use Rattle.ec_law_pieces.specs.Laws.{Stands, start, AfterEveryRun, Closed, Alike, InOrder, first_heads, StandAgain, FileLaws}
use Rattle.ec_law_pieces.proofs.Known.{base_is, commit_number}
use Rattle.ec_law_pieces.proofs.Runs.{Both, both_after}
use Rattle.ec_law_pieces.proofs.Standing.{plain_is, low_is, one_version, one_shape_at, few_low}

module _ {P V C U S : Type 0} (form : Form P V C U S) (n k : ℕ) (most : n < k + k) (fits : k ≤ n) (flat : Flat P U S) (heads : ℕ → Head) (fresh : Bool) (call : ℕ → ℕ) (shape : ℕ → S) (piece : ℕ → P → C) (st : Stands form n k flat heads fresh shape piece) where
  abbrev pub first : File P V C U S
  first = start form n flat heads fresh call shape piece st.value

  inv : Inv n k first.heads
  inv = inv_begin n k most fits flat.version heads fresh call st.standing

  old_did : (a b : ℕ) → did first.heads a b ≡ true → is_leftover n flat.version heads a ≡ true
  old_did a b h = grind (arith, nat_tests)

  none_committed : (a : ℕ) → IsCommitted n k first.heads a → ⊥
  none_committed a h =
      let b = some (first.heads.post a) n (omega arith) in
      let s = inv.wide.old_short a (old_did a b.0 (posted a b.0 b.1)) in omega arith
    where
      posted : (a b : ℕ) → first.heads.post a b ≡ true → did first.heads a b ≡ true
      posted a b h = grind (arith, nat_tests)

  real_none : (a b : ℕ) → did first.heads a b ≡ true → first.heads.old a ≡ false → ⊥
  real_none a b h r = let o = old_did a b h in cc

  here : (b : ℕ) (p : P) → (heads b).present ≡ true → (heads b).version ≡ flat.version → flat.opener p ≡ Nobody → not (heads b).marked ≡ true → piece b p ≡ form.code (st.value p) b
  here b p e v o y = (st.closed p o).codes b (grind (arith, nat_tests))

  stale_is : (b : ℕ) → (heads b).present ≡ true → not (is_plain flat.version (heads b)) ≡ true → (heads b).marked ≡ false → (is_leftover n flat.version heads (heads b).version ≡ true) ⊎ ((heads b).version < flat.version)
  stale_is b p s m = order_of (heads b).version flat.version refl
    where
      not_there : (heads b).version ≡ flat.version → ⊥
      not_there e = let z : is_plain flat.version (heads b) ≡ true = grind (arith, nat_tests) in absurd (grind (arith, nat_tests))

      three : (x y : ℕ) → (x < y) ⊎ ((x ≡ y) ⊎ (y < x))
      three x y = grind arith

      order_of : (x y : ℕ) → x ≡ x → (is_leftover n flat.version heads (heads b).version ≡ true) ⊎ ((heads b).version < flat.version)
      order_of x y r = ⊎_elim (λ lt. inr lt) (λ rest. ⊎_elim (λ eq. absurd (not_there eq)) (λ gt. inl (old_at n k most fits flat.version heads fresh call st.standing b p gt)) rest) (three (heads b).version flat.version)

  shape_here : (b : ℕ) → not (is_plain flat.version (heads b)) ≡ false → shape b ≡ flat.shape
  shape_here b s = st.shapes b (grind (arith, nat_tests))

  is_fresh : not fresh ≡ false → fresh ≡ true
  is_fresh e = grind (arith, nat_tests)

  good : Good form n k first
  good = record {
    top = λ a h. absurd (none_committed a h);
    last = inl refl;
    here = λ b p e v o y. here b p e v o y;
    synced_all = λ b p e m. rw m refl;
    ahead = λ a b p h r e g v o c y. absurd (real_none a b h r);
    ahead_new = λ a b p h r e g v c y. absurd (real_none a b h r);
    behind = λ a b p h e v m c t o q y. absurd (none_committed a c);
    written = λ a b p h e v w y. absurd (cc);
    latest = λ a p h t c o. absurd (none_committed a h);
    wrote_planned = λ a b p w. absurd (cc);
    planned_number = λ a h. absurd (cc);
    covers_planned = λ a p h. absurd (cc);
    did_planned = λ a b h r. absurd (real_none a b h r);
    one_writer = λ a x h g e. absurd (cc);
    opener_writes = λ p c h. absurd (st.unopened p c h);
    units = λ p i u o e. (st.closed p o).units i u e;
    sets = λ a p i u c e. absurd (cc);
    keeps = λ a p i u c e o q h. absurd (cc);
    got_is = λ a b p y h e o. absurd (cc);
    got_number = λ a b p y h. absurd (cc);
    shape_here = λ b e s. shape_here b s;
    stale_is = λ b e s m. stale_is b e s m;
    told_is = λ a b h e p m. absurd (cc);
    took_is = λ a h r. refl;
    becomes_is = λ a b h r. refl;
    flat_shape = refl;
    zero_past = λ p o h. st.past p o h;
    plan_zero = λ a p e g h. absurd (cc);
    plan_grows = λ a p e g h. absurd (cc);
    not_made_zero = λ p e. st.blank (is_fresh e) p;
    maker_zero = λ b p e v. absurd (cc);
  }

  pub both : (deeds : List (Deed P V C U S)) → Runs form n k deeds first → Both form n k (after form n k deeds first)
  both deeds r = both_after form n k most fits deeds first r (record { inv = inv; good = good })

pub closed : {P V C U S : Type 0} (form : Form P V C U S) → AfterEveryRun form (Closed form)
closed form n k most fits flat heads fresh call shape piece st deeds r p o =
    let f = after form n k deeds (start form n flat heads fresh call shape piece st.value) in
    let g = (both form n k most fits flat heads fresh call shape piece st deeds r).good in (
      f.content p,
      record {
        codes = λ b e. let h = plain_is f.flat.version (head f.heads b) e in g.here b p h.0 h.2 o (g.synced_all b p h.0 h.1);
        units = λ i u e. g.units p i u o e;
      },
    )

pub alike : {P V C U S : Type 0} (form : Form P V C U S) → AfterEveryRun form (Alike form)
alike form n k most fits flat heads fresh call shape piece st deeds r v members =
    let f = after form n k deeds (start form n flat heads fresh call shape piece st.value) in
    let b = both form n k most fits flat heads fresh call shape piece st deeds r in
    let e = one_version form n k most fits f b.inv b.good v members in
    (e, λ c q. one_shape_at form n k most fits f b.inv b.good c (subst (λ (z : ℕ). is_plain z (head f.heads c) ≡ true) e q))

pub in_order : {P V C U S : Type 0} (form : Form P V C U S) → AfterEveryRun form (InOrder form)
in_order form n k most fits flat heads fresh call shape piece st deeds r a b may c =
    let f = after form n k deeds (start form n flat heads fresh call shape piece st.value) in
    let h = both form n k most fits flat heads fresh call shape piece st deeds r in
    go f h may c
  where
    fewer_of : (k p q : ℕ) → (nat_lt p k && nat_le k q) ≡ true → p < k
    fewer_of k p q h = grind (arith, nat_tests)

    reached_of : (k p q : ℕ) → (nat_lt p k && nat_le k q) ≡ true → k ≤ q
    reached_of k p q h = grind (arith, nat_tests)

    go : {P V C U S : Type 0} {form : Form P V C U S} (f : File P V C U S) → Both form n k f → (m : MayDo form n k f (Commit a b)) → commits n k f.heads a b ≡ true → ((f.heads.ballot a).base ≡ f.flat.version) × ((step form n k f (Commit a b)).flat.version ≡ target (f.heads.ballot a)) × ((e : ℕ) → IsCommitted n k f.heads e → f.heads.begun a e ≡ true)
    go {form = form} f h m c = (base, rw c refl, earlier)
      where
        quorum : k ≤ count_below n (f.heads.pre a)
        quorum = m.0.5

        fewer : count_below n (f.heads.post a) < k
        fewer = fewer_of k (count_below n (f.heads.post a)) (count_below n ((act_step f.heads (Post a b)).post a)) c

        base : (f.heads.ballot a).base ≡ f.flat.version
        base = base_is form n k most fits f h.inv h.good a b (inv_step n k most fits f.heads (Post a b) m.0 h.inv) (let z = most in let q = quorum in omega arith, λ o. quorum) fewer (reached_of k (count_below n (f.heads.post a)) (count_below n ((act_step f.heads (Post a b)).post a)) c)

        earlier : (e : ℕ) → IsCommitted n k f.heads e → f.heads.begun a e ≡ true
        earlier e ce =
            let d = share (f.heads.post e) (f.heads.pre a) n (let z = most in let q = quorum in omega (arith, ce)) in
            let other : e ≢ a = λ q. let y = fewer in let z = rw q at ce in omega arith in
            ⊎_elim (λ q. ((h.inv.local d.0).at_post_is a e q).2) (λ q. absurd (let t = h.good.top e ce in let u = commit_number form n k most fits f h.inv h.good e ce in let z = base in omega arith)) ((h.inv.local d.0).post_order a e d.2 d.1 other m.0.2.real)

closed_before : (o : Opener) → opened_before o ≡ Nobody → o ≡ Nobody
closed_before Nobody e = refl
closed_before (One c) e = absurd (cc)
closed_before Several e = absurd (cc)

never_one : (o : Opener) (c : ℕ) → opened_before o ≡ One c → ⊥
never_one Nobody c e = absurd (cc)
never_one (One x) c e = absurd (cc)
never_one Several c e = absurd (cc)

inside : (n b : ℕ) (h : Head) → (cond (nat_lt b n) h (record { present = false; version = 0; dirty = 0; marked = false })).present ≡ true → (b < n) × (cond (nat_lt b n) h (record { present = false; version = 0; dirty = 0; marked = false }) ≡ h)
inside n b h e = pick (nat_lt b n) refl
  where
    pick : (u : Bool) → nat_lt b n ≡ u → (b < n) × (cond (nat_lt b n) h (record { present = false; version = 0; dirty = 0; marked = false }) ≡ h)
    pick true q = (grind (arith, nat_tests), rw q refl)
    pick false q = absurd (let z = rw q at e in cc)

outside : (n b : ℕ) (h : Head) → n ≤ b → (cond (nat_lt b n) h (record { present = false; version = 0; dirty = 0; marked = false })).present ≡ false
outside n b h le = grind (arith, nat_tests)

at_most : (x y : ℕ) → (x < y) ⊎ (y ≤ x)
at_most x y = grind arith

module _ {P V C U S : Type 0} (form : Form P V C U S) (n k : ℕ) (most : n < k + k) (fits : k ≤ n) (f : File P V C U S) (b : Both form n k f) where
  plain_first : (v c : ℕ) → is_plain v (first_heads n f.heads c) ≡ true → is_plain v (head f.heads c) ≡ true
  plain_first v c e = let h = plain_is v (first_heads n f.heads c) e in subst (λ (x : Head). is_plain v x ≡ true) (inside n c (head f.heads c) h.0).1 e

  alike_few : (v : ℕ) → v ≢ f.flat.version → count_below n (λ c. is_plain v (first_heads n f.heads c)) < k
  alike_few v ne = ⊎_elim (λ lt. lt) (λ le. absurd (ne (one_version form n k most fits f b.inv b.good v (let m = mono (λ c. is_plain v (first_heads n f.heads c)) (λ c. is_plain v (head f.heads c)) n (plain_first v) in omega arith)))) (at_most (count_below n (λ c. is_plain v (first_heads n f.heads c))) k)

  low_first : (y c : ℕ) → is_low f.flat.version y (first_heads n f.heads c) ≡ true → is_low f.flat.version y (head f.heads c) ≡ true
  low_first y c e = let h = low_is f.flat.version y (first_heads n f.heads c) e in subst (λ (x : Head). is_low f.flat.version y x ≡ true) (inside n c (head f.heads c) h.0).1 e

  low_few : (c : ℕ) → (first_heads n f.heads c).present ≡ true → f.flat.version < (first_heads n f.heads c).version → count_below n (λ d. is_low f.flat.version (first_heads n f.heads c).version (first_heads n f.heads d)) < k
  low_few c p above =
      let q = (inside n c (head f.heads c) p).1 in
      let there = ap (λ (h : Head). h.present) (sym q) ∙ p in
      let version = ap (λ (h : Head). h.version) q in
      let l = few_low form n k most fits f b.inv b.good c there (omega (arith, above, version)) in
      let m = mono (λ d. is_low f.flat.version (f.heads.version c) (first_heads n f.heads d)) (λ d. is_low f.flat.version (f.heads.version c) (head f.heads d)) n (low_first (f.heads.version c)) in
      subst (λ (y : ℕ). count_below n (λ d. is_low f.flat.version y (first_heads n f.heads d)) < k) (sym version) (omega arith)

  pub stands : StandAgain form n k f
  stands = record {
    standing = record {
      few_alike = alike_few;
      few_low = low_few;
      beyond = λ c le. outside n c (head f.heads c) le;
      none = λ e. absurd (cc);
    };
    shapes = λ c e. one_shape_at form n k most fits f b.inv b.good c (plain_first f.flat.version c e);
    value = f.content;
    closed = λ p o. record {
      codes = λ c e. let h = plain_is f.flat.version (head f.heads c) (plain_first f.flat.version c e) in b.good.here c p h.0 h.2 (closed_before (f.flat.opener p) o) (b.good.synced_all c p h.0 h.1);
      units = λ i u e. b.good.units p i u (closed_before (f.flat.opener p) o) e;
    };
    past = λ p o h. b.good.zero_past p (closed_before (f.flat.opener p) o) h;
    blank = λ e p. absurd (cc);
    unopened = λ p c e. never_one (f.flat.opener p) c e;
  }

stand : {P V C U S : Type 0} (form : Form P V C U S) → AfterEveryRun form (StandAgain form)
stand form n k most fits flat heads fresh call shape piece st deeds r = stands form n k most fits (after form n k deeds (start form n flat heads fresh call shape piece st.value)) (both form n k most fits flat heads fresh call shape piece st deeds r)

pub laws : {P V C U S : Type 0} (form : Form P V C U S) → FileLaws form
laws form = record { closed = closed form; alike = alike form; in_order = in_order form; stand = stand form }
