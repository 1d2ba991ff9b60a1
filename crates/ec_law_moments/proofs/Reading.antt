-- Readers and heals over whole runs.
use Rattle.std.proofs.Common.{◌≡◌, ℕ, ◌+◌, ◌<◌, ◌≤◌, Bool, true, false, Option, Some, None, List, [], ◌∷◌, refl, sym, ◌∙◌, ap, subst, arith, inl, inr, ⊎_elim}
use Rattle.std.proofs.lemmas.Bool.Decides.{nat_tests}
use Rattle.ec_history.specs.Flat.Opener.{Nobody}
use Rattle.ec_law_base.specs.State.{State, Head, target}
use Rattle.ec_law_base.proofs.Counts.{same}
use Rattle.ec_law_ballots.specs.Words.{saw, tied}
use Rattle.ec_law_ballots.specs.Act.{step as act_step}
use Rattle.ec_law_ballots.specs.Act.Act.{Moment, See, Choose, Choose_kept, Post, Sink_post, Mark, Unmark, Make}
use Rattle.ec_law_ballots.specs.Begin.{is_plain}
use Rattle.ec_law_quorum.specs.Wide.{Inv}
use Rattle.ec_law_quorum.proofs.Quorums.{is_false}
use Rattle.ec_law_pieces.specs.File.{Form, File}
use Rattle.ec_law_pieces.specs.Deed.{Deed, MayDo, step as deed_step}
use Rattle.ec_law_pieces.specs.Deed.Deed.{Do, Look, Take, Take_kept, Read, Intend, Write, Tear, Copy, Spoil, Commit, Follow, Begin, Finish, Create}
use Rattle.ec_law_pieces.specs.Clauses.{Good}
use Rattle.ec_law_pieces.proofs.Known.{commit_number}
use Rattle.ec_law_pieces.proofs.Runs.{Both, both_step}
use Rattle.ec_law_moments.specs.Then.{is_told, FlatThen, Then}
use Rattle.ec_law_moments.specs.Windows.{Fenced, stirs}
use Rattle.ec_law_moments.specs.Reads.{World, Happening, Go, Fetch, noted, step, May, after, Runs}
use Rattle.ec_law_moments.proofs.Told.{then_step}
use Rattle.ec_law_moments.proofs.Views.{CopyIs, MaySee, View, view_step, deed_stays}
use Rattle.ec_law_moments.proofs.Sinks.{Sink, tied_saw, sink_step}
use Rattle.ec_law_moments.proofs.Gets.{Got, fetched, got_step, shape_step}
use Rattle.ec_law_moments.proofs.Above.{Topped, topped_step}
use Rattle.ec_law_moments.proofs.Copies.{Heals, heals_step}
use Rattle.ec_law_moments.proofs.Leaves.{Leaves, deed_leaves, note}

-- the file g was the file at the moment of x
pub record Snap {P V C U S : Type 0} (form : Form P V C U S) (n k : ℕ) (g f : File P V C U S) (st : ℕ → ℕ → P → Bool) (x : ℕ) : Type 0 where
  pub both : Both form n k g
  pub posts : (e b : ℕ) → f.heads.at_post x e b ≡ g.heads.post e b
  pub ballot : (e : ℕ) → 0 < (g.heads.ballot e).number → f.heads.ballot e ≡ g.heads.ballot e
  pub origin : f.heads.origin ≡ g.heads.origin
  pub view : (b : ℕ) (p : P) → View form g f x b p
  pub zero : (b : ℕ) → f.heads.maker b ≡ true → g.flat.version ≡ 0 → (p : P) → g.content p ≡ form.zero
  pub blank : f.heads.making ≡ false → (p : P) → g.content p ≡ form.zero
  pub made : g.heads.making ≡ true → f.heads.making ≡ true
  pub shape : g.heads.making ≡ true → f.shape_of g.flat.version ≡ g.flat.shape
  pub got : (b : ℕ) (p : P) → Got form g f x b p
  pub sink : (b : ℕ) (p : P) → Sink form g f st x b p

pub record Reading {P V C U S : Type 0} (form : Form P V C U S) (n k : ℕ) (w : World P V C U S) : Type 0 where
  pub both : Both form n k w.file
  pub told : Then n k w.file.heads
  pub snap : (x : ℕ) → w.file.heads.old x ≡ false → w.file.heads.moment x ≡ true → Snap form n k (w.then x) w.file w.stirred x
  pub topped : (a : ℕ) → Topped w.file.heads a
  pub heals : Heals form n k w.file w.stirred w.copied
  pub given_saw : (x b : ℕ) (p : P) (y : C) → w.given x b p ≡ Some y → (saw w.file.heads x b ≡ true) × (w.file.heads.old x ≡ false)
  pub given : (x b : ℕ) (p : P) (y : C) (h : Head) → w.given x b p ≡ Some y → w.file.heads.seen x b ≡ Some h → is_plain (w.then x).flat.version h ≡ true → (w.then x).flat.opener p ≡ Nobody → y ≡ form.code ((w.then x).content p) b

is_snapped : (s : State) (x e b : ℕ) → (act_step s (Moment x)).at_post x e b ≡ s.post e b
is_snapped s x e b = grind (arith, nat_tests)

pub plain_parts : (v : ℕ) (h : Head) → is_plain v h ≡ true → (h.present ≡ true) × (h.marked ≡ false) × (h.version ≡ v)
plain_parts v h e = (grind (arith, nat_tests), grind (arith, nat_tests), grind (arith, nat_tests))

pub told_head : (v : ℕ) (o : Option Head) → is_told v o ≡ true → (h : Head) × (o ≡ Some h) × (is_plain v h ≡ true)
told_head v None e = absurd (cc)
told_head v (Some h) e = (h, refl, e)

pub saw_some : (s : State) (x b : ℕ) (h : Head) → s.seen x b ≡ Some h → saw s x b ≡ true
saw_some s x b h e = grind (arith, nat_tests)

grows : (s t : Bool) → (t ≡ false → s ≡ false) → s ≡ true → t ≡ true
grows s true f e = refl
grows s false f e = absurd (let z = f refl in cc)

tied_moment : (s : State) (x b : ℕ) → (saw s x b ≡ true → s.moment x ≡ true) → (s.mark x b ≡ true → saw s x b ≡ true) → tied s x b ≡ true → s.moment x ≡ true
tied_moment s x b f g h = f (tied_saw s x b g h)

module _ {P V C U S : Type 0} (form : Form P V C U S) (n k : ℕ) (most : n < k + k) (fits : k ≤ n) where
  -- a moment takes the file as it is
  first_snap : (f : File P V C U S) → Both form n k f → (st : ℕ → ℕ → P → Bool) (x : ℕ) → f.heads.moment x ≡ false → Snap form n k f (deed_step form n k f (Do (Moment x))) (stirs {V = V} {C = C} {U = U} {S = S} (Do (Moment x)) st) x
  first_snap f b st x before = record {
    both = b;
    posts = λ e c. is_snapped f.heads x e c;
    ballot = λ e h. refl;
    origin = refl;
    view = λ c p s e m there v o y. b.good.here c p there v o y;
    zero = λ c m z p. b.good.maker_zero c p m z;
    blank = λ m p. b.good.not_made_zero p m;
    made = λ m. m;
    shape = λ m. sym b.good.flat_shape;
    got = λ c p y e q v o. absurd (let z = b.inv.wide.number_moment x (b.good.got_number x c p y e) in cc);
    sink = λ c p last h t. absurd (let z = tied_moment f.heads x c (λ q. ((b.inv.local c).saw x q).2) (λ q. ((b.inv.local c).mark_seen x q).0) t in cc);
  }

  -- the flat version of a moment is that of the beginning, or of a commit of that time
  flat_then : (g f : File P V C U S) (st : ℕ → ℕ → P → Bool) (x : ℕ) → Snap form n k g f st x → FlatThen n k f.heads x g.flat.version
  flat_then g f st x sn = ⊎_elim
      (λ z. inl (z ∙ sym sn.origin))
      (λ a. inr (a.0, (let q = same (f.heads.at_post x a.0) (g.heads.post a.0) n (λ c. sn.posts a.0 c) in omega (arith, a.1)), ap target (sn.ballot a.0 (commit_number form n k most fits g sn.both.inv sn.both.good a.0 a.1)) ∙ sym a.2))
      sn.both.good.last

  -- past the shape of that version stood the value zero
  past_then : (g f : File P V C U S) (st : ℕ → ℕ → P → Bool) (x : ℕ) → Snap form n k g f st x → (p : P) → g.flat.opener p ≡ Nobody → form.past (f.shape_of g.flat.version) p ≡ true → g.content p ≡ form.zero
  past_then g f st x sn p o e = pick g.heads.making refl
    where
      pick : (u : Bool) → g.heads.making ≡ u → g.content p ≡ form.zero
      pick true q = sn.both.good.zero_past p o (rw (sn.shape q) at e)
      pick false q = sn.both.good.not_made_zero p q

  copy_is : (g f : File P V C U S) → Good form n k f → (st : ℕ → ℕ → P → Bool) (x : ℕ) → f.heads.old x ≡ false → Snap form n k g f st x → CopyIs form n k g f x
  copy_is g f good st x real sn d p z copy base plan v o = ⊎_elim
      (λ q. q (g.content p) (λ c y e. sn.got c p y e plan (sym base.1 ∙ v) o))
      (λ q. q.1 ∙ ap (λ (u : V). form.code u d) (sym (past_then g f st x sn p o (subst (λ (s : S). form.past s p ≡ true) (good.took_is x base.2 real ∙ ap f.shape_of (sym base.1 ∙ v)) q.0))))
      copy

  later_snap : (g f : File P V C U S) (e : Deed P V C U S) → MayDo form n k f e → Fenced f e → Both form n k f → (st : ℕ → ℕ → P → Bool) (x : ℕ) → f.heads.old x ≡ false → f.heads.moment x ≡ true → Snap form n k g f st x → Snap form n k g (deed_step form n k f e) (stirs e st) x
  later_snap g f e m fence b st x real was sn =
      let sy = deed_stays form n k g f b.inv e m in
      let lv = deed_leaves form n k f e m in
      let then = flat_then g f st x sn in
      let cp = copy_is g f b.good st x real sn in
      record {
        both = sn.both;
        posts = λ c d. sy.at_post x c d was ∙ sn.posts c d;
        ballot = λ c h. sy.ballot c (rw (sn.ballot c h) h) ∙ sn.ballot c h;
        origin = sy.origin ∙ sn.origin;
        view = λ d p. view_step form n k g f b.inv e m x cp sn.zero d p was (sn.view d p);
        made = λ h. grows f.heads.making (deed_step form n k f e).heads.making lv.making (sn.made h);
        shape = λ h. shape_step form n k most fits g f b.inv b.good x was then e m g.flat.shape (sn.made h) (sn.shape h);
        got = λ d p. got_step form n k most fits g f b.inv b.good x e m fence d p (sn.view d p) (sn.got d p);
        sink = λ d p. sink_step form n k most fits g f b.inv x was st e m fence then cp free d p (sn.view d p) (sn.sink d p);
        zero = λ b h. ⊎_elim (λ q. sn.zero b q) (λ q z p. sn.blank q p) (lv.maker b h);
        blank = λ h. sn.blank (lv.making h);
      }
    where
      free : (0 < (f.heads.ballot x).number → ⊥) → f.planned x ≡ false
      free none = is_false (f.planned x) (λ q. none (b.good.planned_number x q).0)

  go_step : (w : World P V C U S) (e : Deed P V C U S) → MayDo form n k w.file e → Fenced w.file e → Reading form n k w → Reading form n k (step form n k w (Go e))
  go_step w e m fence r = record {
    both = both';
    told = told' e m both'.inv;
    snap = λ x real now. snap' x (sym (lv.old x) ∙ real) now;
    topped = λ a. topped_step form n k w.file a (r.topped a) e m fence;
    heals = heals_step form n k w.file r.both.inv w.stirred w.copied r.heals e m fence;
    given_saw = λ x b p y h. let q = r.given_saw x b p y h in (lv.looked x b q.0, lv.old x ∙ q.1);
    given = λ x b p y h q. given' x b p y h q;
  }
    where
      both' : Both form n k (deed_step form n k w.file e)
      both' = both_step form n k most fits w.file e m r.both

      lv : Leaves w.file.heads (deed_step form n k w.file e).heads
      lv = deed_leaves form n k w.file e m

      told' : (e : Deed P V C U S) → MayDo form n k w.file e → Inv n k (deed_step form n k w.file e).heads → Then n k (deed_step form n k w.file e).heads
      told' (Do a) m j = then_step n k most fits w.file.heads r.both.inv r.told a m.0 j
      told' (Look y d) m j = then_step n k most fits w.file.heads r.both.inv r.told (See y d) m j
      told' (Take y q shape) m j = then_step n k most fits w.file.heads r.both.inv r.told (Choose y q) m.0 j
      told' (Take_kept y u q) m j = then_step n k most fits w.file.heads r.both.inv r.told (Choose_kept y u q) m j
      told' (Read y d places) m j = r.told
      told' (Intend y plan) m j = r.told
      told' (Write y d places) m j = r.told
      told' (Tear y d places pieces) m j = r.told
      told' (Copy y d places pieces) m j = r.told
      told' (Spoil d places pieces) m j = r.told
      told' (Commit y d) m j = then_step n k most fits w.file.heads r.both.inv r.told (Post y d) m.0 j
      told' (Follow y d) m j = then_step n k most fits w.file.heads r.both.inv r.told (Sink_post y d) m.0 j
      told' (Begin y d) m j = then_step n k most fits w.file.heads r.both.inv r.told (Mark y d) m.0 j
      told' (Finish y d) m j = then_step n k most fits w.file.heads r.both.inv r.told (Unmark y d) m.0 j
      told' (Create d shape) m j = then_step n k most fits w.file.heads r.both.inv r.told (Make d) m.0 j

      not_yet : {x : ℕ} (d : Deed P V C U S) → d ≡ Do (Moment x) → MayDo form n k w.file d → w.file.heads.moment x ≡ false
      not_yet d is may = (subst (λ (c : Deed P V C U S). MayDo form n k w.file c) is may).0.0

      snap' : (x : ℕ) → w.file.heads.old x ≡ false → (deed_step form n k w.file e).heads.moment x ≡ true → Snap form n k (noted w e x) (deed_step form n k w.file e) (stirs e w.stirred) x
      snap' x real now = ⊎_elim
          (λ q. let was = sym q.1 ∙ now in subst (λ (g : File P V C U S). Snap form n k g (deed_step form n k w.file e) (stirs e w.stirred) x) (sym q.0) (later_snap (w.then x) w.file e m fence r.both w.stirred x real was (r.snap x real was)))
          (λ q. subst (λ (g : File P V C U S). Snap form n k g (deed_step form n k w.file e) (stirs e w.stirred) x) (sym q.1) (subst (λ (d : Deed P V C U S). Snap form n k w.file (deed_step form n k w.file d) (stirs d w.stirred) x) (sym q.0) (first_snap w.file r.both w.stirred x (not_yet e q.0 m))))
          (note form n k w e x)

      given' : (x b : ℕ) (p : P) (y : C) (h : Head) → w.given x b p ≡ Some y → (deed_step form n k w.file e).heads.seen x b ≡ Some h → is_plain (noted w e x).flat.version h ≡ true → (noted w e x).flat.opener p ≡ Nobody → y ≡ form.code ((noted w e x).content p) b
      given' x b p y h q s = ⊎_elim
          (λ z. subst (λ (g : File P V C U S). is_plain g.flat.version h ≡ true → g.flat.opener p ≡ Nobody → y ≡ form.code (g.content p) b) (sym z.0) (r.given x b p y h q (lv.seen x b h looked s)))
          (λ z. absurd (no_moment e z.0 m))
          (note form n k w e x)
        where
          looked : saw w.file.heads x b ≡ true
          looked = (r.given_saw x b p y q).0

          no_moment : (d : Deed P V C U S) → d ≡ Do (Moment x) → MayDo form n k w.file d → ⊥
          no_moment d is may = let z = (subst (λ (c : Deed P V C U S). MayDo form n k w.file c) is may).0.0 in let now = ((r.both.inv.local b).saw x looked).2 in cc

  fetch_step : (w : World P V C U S) (x d : ℕ) (places : P → Bool) → May form n k w (Fetch x d places) → Reading form n k w → Reading form n k (step form n k w (Fetch x d places))
  fetch_step w x d places m r = record {
    both = r.both;
    told = r.told;
    snap = r.snap;
    topped = r.topped;
    heals = r.heals;
    given_saw = λ y b p z h. ⊎_elim (λ q. r.given_saw y b p z q) (λ q. (rw (q.0, q.1) m.3, rw q.0 real)) (fetched w.given x d places (w.file.piece d) y b p z h);
    given = λ y b p z h e s v o. ⊎_elim (λ q. r.given y b p z h q s v o) (λ q. new y b p z h q.0 q.1 q.2 s v o) (fetched w.given x d places (w.file.piece d) y b p z e);
  }
    where
      real : w.file.heads.old x ≡ false
      real = is_false (w.file.heads.old x) (λ q. let z = ((r.both.inv.local d).old_none x q).0 in let y = ((r.both.inv.local d).saw x m.3).0 in cc)

      still : (h : Head) → w.file.heads.seen x d ≡ Some h → h.present ≡ true → h.marked ≡ false → (w.file.heads.version d ≡ h.version) × (w.file.heads.marked d ≡ false)
      still h s p u = ⊎_elim
          (λ q. (r.both.inv.local d).shared_still x h q s p u m.4)
          (λ q.
          let no_pre = is_false (w.file.heads.pre x d) (λ y. let z = ((r.both.inv.local d).pre_seen x y).1 in let o = q.1 in omega arith) in
          let no_mark = is_false (w.file.heads.mark x d) (λ y. let z = ((r.both.inv.local d).mark_seen x y).1 in let o = q.1 in omega arith) in
          let l = (r.both.inv.local d).still_seen x h q.0 s p u no_pre no_mark m.4 in (l.0, l.1))
          m.0

      sees : MaySee w.file x d
      sees = ⊎_elim (λ z. inl z) (λ z. inr (z.0, is_false (w.file.planned x) (λ q. let h = (r.both.good.planned_number x q).0 in let o = z.1 in absurd (omega arith)))) m.0

      at_x : (p : P) (h : Head) → w.file.heads.seen x d ≡ Some h → is_plain (w.then x).flat.version h ≡ true → (w.then x).flat.opener p ≡ Nobody → w.file.piece d p ≡ form.code ((w.then x).content p) d
      at_x p h s v o =
          let l = plain_parts (w.then x).flat.version h v in
          let kept = still h s l.0 l.1 in
          (r.snap x real m.2).view d p sees m.1 m.2 m.4 (kept.0 ∙ l.2) o (r.both.good.synced_all d p m.4 kept.1)

      new : (y b : ℕ) (p : P) (z : C) (h : Head) → y ≡ x → b ≡ d → w.file.piece d p ≡ z → w.file.heads.seen y b ≡ Some h → is_plain (w.then y).flat.version h ≡ true → (w.then y).flat.opener p ≡ Nobody → z ≡ form.code ((w.then y).content p) b
      new y b p z h ey eb ez s v o = subst (λ (a : ℕ). z ≡ form.code ((w.then a).content p) b) (sym ey) (subst (λ (c : ℕ). z ≡ form.code ((w.then x).content p) c) (sym eb) (sym ez ∙ at_x p h (rw (ey, eb) at s) (rw ey at v) (rw ey at o)))

  pub reading_step : (w : World P V C U S) (e : Happening P V C U S) → May form n k w e → Reading form n k w → Reading form n k (step form n k w e)
  reading_step w (Go e) m r = go_step w e m.0 m.1 r
  reading_step w (Fetch x d places) m r = fetch_step w x d places m r

  pub reading_after : (es : List (Happening P V C U S)) (w : World P V C U S) → Runs form n k es w → Reading form n k w → Reading form n k (after form n k es w)
  reading_after [] w r h = h
  reading_after (e ∷ es) w r h = reading_after es (step form n k w e) r.1 (reading_step w e r.0 h)
