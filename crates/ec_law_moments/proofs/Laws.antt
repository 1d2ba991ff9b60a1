-- The laws of readers and sinks over whole runs.
use Rattle.std.proofs.Common.{◌≡◌, ◌⊎◌, ℕ, ◌+◌, ◌-◌, ◌<◌, ◌≤◌, Bool, true, false, not, Option, Some, None, [], refl, sym, ◌∙◌, ap, subst, arith, ⊎_elim}
use Rattle.std.proofs.lemmas.Bool.Decides.{nat_tests}
use Rattle.ec_attr.specs.Bricks.{count_below}
use Rattle.ec_history.specs.Flat.Opener.{Nobody}
use Rattle.ec_law_base.specs.State.{State, Head, Ballot, target}
use Rattle.ec_law_base.proofs.Counts.{mono, same, some, share}
use Rattle.ec_law_ballots.specs.Words.{saw, head, group, at_base}
use Rattle.ec_law_ballots.specs.Act.{step as act_step, group_dirty}
use Rattle.ec_law_ballots.specs.Act.Act.{Unmark}
use Rattle.ec_law_ballots.specs.Begin.{begin, is_plain}
use Rattle.ec_law_ballots.specs.Guard.{IsCommitted, Holds}
use Rattle.ec_law_quorum.specs.Wide.{Inv}
use Rattle.ec_law_quorum.proofs.Quorums.{not_void, read}
use Rattle.ec_law_pieces.specs.File.{Form, Flat}
use Rattle.ec_law_pieces.specs.Deed.Deed.{Finish}
use Rattle.ec_law_pieces.specs.Laws.{Stands, start}
use Rattle.ec_law_pieces.proofs.Known.{origin_le, commit_number}
use Rattle.ec_law_pieces.proofs.Laws.{both}
use Rattle.ec_law_moments.specs.Then.{is_told, KnownThen, FlatThen}
use Rattle.ec_law_moments.specs.Reads.{World, Go, May, step, after, opening, AfterEveryRun, IsGivenValue, ReadsMoment, ReadLaws}
use Rattle.ec_law_moments.specs.Reference.{IsReference, LeavesReference, LeavesWhole, SinkLaws}
use Rattle.ec_law_moments.proofs.Told.{told_flat}
use Rattle.ec_law_moments.proofs.Sinks.{tied_saw}
use Rattle.ec_law_moments.proofs.Reading.{Snap, Reading, plain_parts, told_head, saw_some, reading_after}

began_plain : (v : ℕ) (g h : Head) → h.version ≡ v → h.marked ≡ false → g.present ≡ true → g.version ≡ h.version → g.marked ≡ h.marked → is_plain v g ≡ true
began_plain v g h e m p f j = grind (arith, nat_tests)

split : (x y : ℕ) → (x < y) ⊎ (y ≤ x)
split x y = grind arith

module _ {P V C U S : Type 0} (form : Form P V C U S) (n k : ℕ) (most : n < k + k) (fits : k ≤ n) (w : World P V C U S) (r : Reading form n k w) (x v : ℕ) (real : w.file.heads.old x ≡ false) (members : k ≤ count_below n (λ b. is_told v (w.file.heads.seen x b))) where
  i : Inv n k w.file.heads
  i = r.both.inv

  looked : w.file.heads.moment x ≡ true
  looked =
      let c = some (λ b. is_told v (w.file.heads.seen x b)) n (omega arith) in
      let h = told_head v (w.file.heads.seen x c.0) c.1 in
      ((i.local c.0).saw x (saw_some w.file.heads x c.0 h.0 h.1)).2

  sn : Snap form n k (w.then x) w.file w.stirred x
  sn = r.snap x real looked

  not_below : w.file.heads.origin ≤ v
  not_below = ⊎_elim (λ less. absurd (few less)) (λ ge. ge) (split v w.file.heads.origin)
    where
      few : v < w.file.heads.origin → ⊥
      few below =
          let m = mono (λ b. is_told v (w.file.heads.seen x b)) (λ b. is_plain v (w.file.heads.began b)) n (λ b e.
          let h = told_head v (w.file.heads.seen x b) e in
          let p = plain_parts v h.0 h.2 in
          let o = (i.local b).seen_began x h.0 h.1 p.0 (let q = p.2 in omega arith) in
          began_plain v (w.file.heads.began b) h.0 p.2 p.1 o.0 o.1 o.2) in
          let f = i.wide.few_below v below in omega arith

  flat_then : FlatThen n k w.file.heads x v
  flat_then = told_flat n k most fits w.file.heads i x v (λ b. is_told v (w.file.heads.seen x b)) members not_below λ b e.
      let h = told_head v (w.file.heads.seen x b) e in
      let p = plain_parts v h.0 h.2 in
      subst (λ (u : ℕ). KnownThen n k w.file.heads x b u) p.2 (r.told.seen x b h.0 h.1 p.0 p.1)

  -- a turn that was committed at the moment is so now, with the same version
  posted_then : (e : ℕ) → k ≤ count_below n (w.file.heads.at_post x e) → IsCommitted n k (w.then x).heads e
  posted_then e h = let q = same (w.file.heads.at_post x e) ((w.then x).heads.post e) n (λ c. sn.posts e c) in omega arith

  version_then : (e : ℕ) → IsCommitted n k (w.then x).heads e → target (w.file.heads.ballot e) ≡ target ((w.then x).heads.ballot e)
  version_then e c = ap target (sn.ballot e (commit_number form n k most fits (w.then x) sn.both.inv sn.both.good e c))

  at_most : v ≤ (w.then x).flat.version
  at_most = ⊎_elim
      (λ z. let o = origin_le form n k most fits (w.then x) sn.both.inv sn.both.good in let q = sn.origin in omega arith)
      (λ e. let c = posted_then e.0 e.1 in let t = sn.both.good.top e.0 c in let q = version_then e.0 c in let z = e.2 in omega arith)
      flat_then

  at_least : (w.then x).flat.version ≤ v
  at_least = ⊎_elim
      (λ z. let o = not_below in let q = sn.origin in omega arith)
      (λ a.
      let snapped = same (w.file.heads.at_post x a.0) ((w.then x).heads.post a.0) n (λ c. sn.posts a.0 c) in
      let c = share (w.file.heads.at_post x a.0) (λ b. is_told v (w.file.heads.seen x b)) n (let q = a.1 in omega arith) in
      let h = told_head v (w.file.heads.seen x c.0) c.2 in
      let p = plain_parts v h.0 h.2 in
      let grown = mono (w.file.heads.at_post x a.0) (w.file.heads.post a.0) n (λ b e. ((i.local b).at_post_is x a.0 e).0) in
      let live = not_void n k most fits w.file.heads i.local i.wide a.0 (let q = a.1 in omega arith) in
      let l = (i.local c.0).low_version x a.0 h.0 c.1 h.1 p.0 live in
      let t = version_then a.0 a.1 in
      let z = a.2 in let u = p.2 in omega arith)
      sn.both.good.last

  pub flat_version : v ≡ (w.then x).flat.version
  flat_version = let a = at_most in let b = at_least in omega arith

  pub given_value : (p : P) → (w.then x).flat.opener p ≡ Nobody → (value : V) × IsGivenValue form w x v p value
  given_value p o = (
    (w.then x).content p,
    record {
      codes = λ b y e g. let h = told_head v (w.file.heads.seen x b) e in r.given x b p y h.0 g h.1 (subst (λ (u : ℕ). is_plain u h.0 ≡ true) flat_version h.2) o;
      units = λ j u e. sn.both.good.units p j u o e;
    },
  )

module _ {P V C U S : Type 0} (form : Form P V C U S) (n k : ℕ) (most : n < k + k) (fits : k ≤ n) (flat : Flat P U S) (heads : ℕ → Head) (fresh : Bool) (call : ℕ → ℕ) (shape : ℕ → S) (piece : ℕ → P → C) (st : Stands form n k flat heads fresh shape piece) where
  number_old : (a : ℕ) → (begin n flat.version heads fresh call).old a ≡ false → 0 < ((begin n flat.version heads fresh call).ballot a).number → ⊥
  number_old a r h = absurd (grind (arith, nat_tests))

  begun_synced : {b : ℕ} → (heads b).marked ≡ true → not (heads b).marked ≡ true → ⊥
  begun_synced {b} m s = grind (arith, nat_tests)

  pub reading_begin : Reading form n k (opening (start form n flat heads fresh call shape piece st.value))
  reading_begin = record {
    both = both form n k most fits flat heads fresh call shape piece st [] refl;
    told = record {
      held = λ x b h e m p t q. absurd (cc);
      seen = λ x b h e p m. absurd (cc);
      chosen = λ a r f h. absurd (number_old a r h);
    };
    snap = λ x old now. absurd (let a = old in let b = now in cc);
    topped = λ a r f h. absurd (number_old a r h);
    heals = record { calm = λ x b p h e m q. absurd (cc); copied = λ b p m s. absurd (begun_synced m s); own = λ x b p m h. absurd (cc) };
    given_saw = λ x b p y h. absurd (cc);
    given = λ x b p y h e s q o. absurd (cc);
  }

reading : {P V C U S : Type 0} (form : Form P V C U S) → AfterEveryRun form (Reading form)
reading form n k most fits flat heads fresh call shape piece st es runs = reading_after form n k most fits es (opening (start form n flat heads fresh call shape piece st.value)) runs (reading_begin form n k most fits flat heads fresh call shape piece st)

reads_moment : {P V C U S : Type 0} (form : Form P V C U S) → AfterEveryRun form (ReadsMoment form)
reads_moment form n k most fits flat heads fresh call shape piece st es runs x v real members =
    let w = after form n k es (opening (start form n flat heads fresh call shape piece st.value)) in
    let r = reading form n k most fits flat heads fresh call shape piece st es runs in
    (flat_version form n k most fits w r x v real members, given_value form n k most fits w r x v real members)

pub laws : {P V C U S : Type 0} (form : Form P V C U S) → ReadLaws form
laws form = record { reads_moment = reads_moment form }

-- THE RECORD OF A SINK

unmarked_head : (s : State) (a b v : ℕ) → s.present b ≡ true → s.version b ≡ v → head (act_step s (Unmark a b)) b ≡ record { present = true; version = v; dirty = group_dirty (s.ballot a); marked = false }
unmarked_head s a b v p e = grind (arith, nat_tests)

told_base : (p : Ballot) (o : Option Head) → at_base p o ≡ true → is_told p.base o ≡ true
told_base p None e = absurd (cc)
told_base p (Some h) e = grind (arith, nat_tests)

head_parts : (s : State) (v b : ℕ) → is_plain v (head s b) ≡ true → (s.present b ≡ true) × (s.version b ≡ v) × (s.marked b ≡ false)
head_parts s v b e = (grind (arith, nat_tests), grind (arith, nat_tests), grind (arith, nat_tests))

below_number : (d m : ℕ) → d < m → d ≤ m - 1
below_number d m h = omega arith

module _ {P V C U S : Type 0} (form : Form P V C U S) (n k : ℕ) (most : n < k + k) (fits : k ≤ n) (w : World P V C U S) (r : Reading form n k w) (a b : ℕ) (m : May form n k w (Go (Finish a b))) where
  j : Inv n k w.file.heads
  j = r.both.inv

  looked' : saw w.file.heads a b ≡ true
  looked' = tied_saw w.file.heads a b (λ q. ((j.local b).mark_seen a q).0) m.0.0.4

  granted' : (w.file.heads.granted a b ≡ true) × (w.file.heads.early a b ≡ true) × (w.file.heads.moment a ≡ true)
  granted' = (j.local b).saw a looked'

  snapped : Snap form n k (w.then a) w.file w.stirred a
  snapped = r.snap a m.0.0.2.real granted'.2

  base_then : (w.file.heads.ballot a).base ≡ (w.then a).flat.version
  base_then = flat_version form n k most fits w r a (w.file.heads.ballot a).base m.0.0.2.real (let g = j.wide.based a m.0.0.2.real m.0.0.3 m.0.0.2.number in let c = mono (group w.file.heads a) (λ c. is_told (w.file.heads.ballot a).base (w.file.heads.seen a c)) n (λ c e. told_base (w.file.heads.ballot a) (w.file.heads.seen a c) e) in omega arith)

  version_then' : w.file.heads.version b ≡ (w.then a).flat.version
  version_then' = m.0.0.1.1 ∙ base_then

  piece_then : (p : P) → (w.then a).flat.opener p ≡ Nobody → w.stirred a b p ≡ false → w.file.piece b p ≡ form.code ((w.then a).content p) b
  piece_then p o q = snapped.sink b p m.1.0 m.0.0.0 m.0.0.4 m.0.0.1.2 m.0.0.1.0 version_then' o (m.0.1 p) q

  pub is_reference : IsReference form n k w (step form n k w (Go (Finish a b))).file a b
  is_reference = record {
    head = unmarked_head w.file.heads a b (w.then a).flat.version m.0.0.1.0 version_then';
    dirty = (told_top, λ c h e g. let l = at_base_read (w.file.heads.ballot a) (w.file.heads.seen a c) g in below_number h.dirty (w.file.heads.ballot a).number (same_dirty l.0 h (w.file.heads.ballot a).number (sym l.1 ∙ e) l.3));
    shape = λ h. r.both.good.shape_here b m.0.0.1.0 m.0.2 ∙ (ap w.file.shape_of version_then' ∙ snapped.shape h);
    closed = λ p o q. (
      (w.then a).content p,
      record {
        codes = λ c e. let l = head_parts (w.then a).heads (w.then a).flat.version c e in snapped.both.good.here c p l.0 l.1 o (snapped.both.good.synced_all c p l.0 l.2);
        units = λ i u e. snapped.both.good.units p i u o e;
      },
      piece_then p o q,
    );
    past = λ p o q z. piece_then p o q ∙ ap (λ (v : V). form.code v b) (snapped.both.good.zero_past p o z);
    copier = λ p. r.heals.own m.1.1.0 b p m.1.1.2 (m.0.0.0 ∙ ap (λ (h : ℕ). Some h) (sym m.1.1.1)) m.0.0.1.2 (m.0.1 p) ∙ m.1.1.1;
    copied = λ p q. (r.heals.copied b p m.0.0.1.2 (m.0.1 p)).1 q;
  }
    where
      told_top : (c : ℕ) × (h : Head) × (w.file.heads.seen a c ≡ Some h) × (group w.file.heads a c ≡ true) × (h.dirty ≡ group_dirty (w.file.heads.ballot a))
      told_top = let t = r.topped a m.0.0.2.real m.0.0.3 m.0.0.2.number in (t.0, t.1, t.2, of_group (w.file.heads.ballot a) (w.file.heads.seen a t.0) t.1 t.2 t.3, one_less t.1.dirty (w.file.heads.ballot a).number t.4)
        where
          of_group : (p : Ballot) (o : Option Head) (h : Head) → o ≡ Some h → at_base p (Some h) ≡ true → at_base p o ≡ true
          of_group p o h e q = rw e q

          one_less : (d number : ℕ) → number ≡ d + 1 → d ≡ number - 1
          one_less d number e = omega arith

      at_base_read : (p : Ballot) (o : Option Head) → at_base p o ≡ true → (h : Head) × (o ≡ Some h) × (h.version ≡ p.base) × (h.dirty < p.number) × (h.marked ≡ false) × (h.present ≡ true)
      at_base_read p o e = read p o e

      same_dirty : (g h : Head) (number : ℕ) → Some g ≡ Some h → g.dirty < number → h.dirty < number
      same_dirty g h number e l = subst (λ (z : Head). z.dirty < number) (same_head g h e) l
        where
          same_head : (g h : Head) → Some g ≡ Some h → g ≡ h
          same_head g h e = cc

  pub is_whole : Holds w.file.heads a b → (p : P) → w.stirred a b p ≡ false
  is_whole holds p = r.heals.calm a b p holds granted'.1 granted'.2 m.1.2

reference : {P V C U S : Type 0} (form : Form P V C U S) → AfterEveryRun form (LeavesReference form)
reference form n k most fits flat heads fresh call shape piece st es runs a b m =
    let w = after form n k es (opening (start form n flat heads fresh call shape piece st.value)) in
    is_reference form n k most fits w (reading form n k most fits flat heads fresh call shape piece st es runs) a b m

whole : {P V C U S : Type 0} (form : Form P V C U S) → AfterEveryRun form (LeavesWhole form)
whole form n k most fits flat heads fresh call shape piece st es runs a b m holds p =
    let w = after form n k es (opening (start form n flat heads fresh call shape piece st.value)) in
    is_whole form n k most fits w (reading form n k most fits flat heads fresh call shape piece st es runs) a b m holds p

pub sink_laws : {P V C U S : Type 0} (form : Form P V C U S) → SinkLaws form
sink_laws form = record { reference = reference form; whole = whole form }
